-- What is read at the front of a text has its text there, and is within the limits.
use Rattle.std.proofs.Common.{◌≡◌, ℕ, zero, suc, ◌-◌, ◌<◌, ◌≤◌, Bool, true, false, ◌&&◌, nat_lt, ◌==◌, if◌then◌else◌, ◌⊎◌, inl, inr, List, [], ◌∷◌, ◌++◌, length, Option, Some, None, refl, sym, ◌∙◌, ap, subst, arith, option_and_then, append_assoc}
use Rattle.std.proofs.lemmas.Bool.{eqb-true}
use borrow.Author.Tests.{ltb-true}
use Rattle.wire_signature.specs.declared.basic.BasicType.{BasicType}
use Rattle.wire_signature.specs.declared.basic.BasicType.TheVariants.{Byte, Boolean, Int16, Uint16, Int32, Uint32, Int64, Uint64, Double, String, ObjectPath, Signature, UnixFd}
use Rattle.wire_signature.specs.declared.walk.End.{End}
use Rattle.wire_signature.specs.declared.walk.End.TheVariants as ends
use Rattle.wire_signature.specs.SingleType.{SingleType, basic, variant, array, dict, struct, single_types_of, letter, basic_of, type_text, types_text, array_depth, array_depths, struct_depth, struct_depths, HasFields, AllHaveFields, AreFields}
use Rattle.wire_signature.specs.Parsing.{Found, skip_byte, behind, as_array, entry_at, array_or_dict, with_first, more_at, many_at, fields_at, type_step, type_at}

pub record Takes (arrays structs : ℕ) (text : List ℕ) (t : SingleType) (rest : List ℕ) : Type 0 where
  pub text_is : text ≡ type_text t ++ rest
  pub arrays_in : array_depth t ≤ arrays
  pub structs_in : struct_depth t ≤ structs
  pub fields : HasFields t

pub record TakesAll (arrays structs : ℕ) (until : End) (text : List ℕ) (ts : List SingleType) (rest : List ℕ) : Type 0 where
  pub left : List ℕ
  pub text_is : text ≡ types_text (single_types_of ts) ++ left
  pub end : behind until left ≡ Some rest
  pub arrays_in : array_depths (single_types_of ts) ≤ arrays
  pub structs_in : struct_depths (single_types_of ts) ≤ structs
  pub fields : AllHaveFields (single_types_of ts)

pub bind_some : {A B : Type 0} (o : Option A) (f : A → Option B) (y : B) → option_and_then f o ≡ Some y → (x : A) × (o ≡ Some x) × (f x ≡ Some y)
bind_some None f y e = absurd (cc)
bind_some (Some x) f y e = (x, refl, e)

pub some_is : {A : Type 0} (x y : A) → Some x ≡ Some y → x ≡ y
some_is x y e = cc

pub if_ways : {A : Type 0} (b : Bool) (x y z : A) → (if b then x else y) ≡ z → ((b ≡ true) × (x ≡ z)) ⊎ ((b ≡ false) × (y ≡ z))
if_ways true x y z e = inl (refl, e)
if_ways false x y z e = inr (refl, e)

pub both_true : (a b : Bool) → (a && b) ≡ true → (a ≡ true) × (b ≡ true)
both_true true true e = (refl, refl)
both_true true false e = absurd (cc)
both_true false true e = absurd (cc)
both_true false false e = absurd (cc)

pub skip_byte-is : (byte : ℕ) (text rest : List ℕ) → skip_byte byte text ≡ Some rest → text ≡ byte ∷ rest
skip_byte-is byte [] rest e = absurd (cc)
skip_byte-is byte (c ∷ cs) rest e =
    elim (if_ways (c == byte) (Some cs) None (Some rest) e) [
      | inl w ↦ let same : c ≡ byte = eqb-true c byte w.0 in let tails : cs ≡ rest = some_is cs rest w.1 in cc
      | inr w ↦ absurd (cc)
    ]

one_of : (c n : ℕ) (x b : BasicType) (others : Option BasicType) → letter x ≡ n
    → (if c == n then Some x else others) ≡ Some b → (others ≡ Some b → c ≡ letter b) → c ≡ letter b
one_of c n x b others k e h =
    elim (if_ways (c == n) (Some x) others (Some b) e) [
      | inl w ↦ eqb-true c n w.0 ∙ sym k ∙ ap letter (some_is x b w.1)
      | inr w ↦ h w.1
    ]

pub basic_of-some : (c : ℕ) (b : BasicType) → basic_of c ≡ Some b → c ≡ letter b
basic_of-some c b e =
    one_of c 121 Byte b _ refl e (λ e. one_of c 98 Boolean b _ refl e (λ e. one_of c 110 Int16 b _ refl e
    (λ e. one_of c 113 Uint16 b _ refl e (λ e. one_of c 105 Int32 b _ refl e (λ e. one_of c 117 Uint32 b _ refl e
    (λ e. one_of c 120 Int64 b _ refl e (λ e. one_of c 116 Uint64 b _ refl e (λ e. one_of c 100 Double b _ refl e
    (λ e. one_of c 115 String b _ refl e (λ e. one_of c 111 ObjectPath b _ refl e (λ e. one_of c 103 Signature b _ refl e
    (λ e. one_of c 104 UnixFd b _ refl e (λ e. absurd (cc))))))))))))))

-- what a reader of types inside gives
abbrev pub IsReader : ℕ → ℕ → (List ℕ → Found SingleType) → Type 0
IsReader a s read = (text : List ℕ) (t : SingleType) (rest : List ℕ) → read text ≡ Some (t, rest) → Takes a s text t rest

-- the same at what equals it
takes_as : (a s : ℕ) (text : List ℕ) (x y : SingleType × List ℕ) → Some x ≡ Some y → Takes a s text x.0 x.1 → Takes a s text y.0 y.1
takes_as a s text x y e h = subst (λ (p : SingleType × List ℕ). Takes a s text p.0 p.1) (some_is x y e) h

array_takes : (a s : ℕ) (read : List ℕ → Found SingleType) → 0 < a → IsReader (a - 1) s read → (rest : List ℕ) (t : SingleType) (end : List ℕ)
    → as_array (read rest) ≡ Some (t, end) → Takes a s (97 ∷ rest) t end
array_takes a s read h reads rest t end e =
    let x = bind_some (read rest) (λ x. Some (array x.0, x.1)) (t, end) e in
    let k : Takes (a - 1) s rest x.0.0 x.0.1 = reads rest x.0.0 x.0.1 x.1 in
    takes_as a s (97 ∷ rest) (array x.0.0, x.0.1) (t, end) x.2
    (record { text_is = ap (λ r. 97 ∷ r) k.text_is; arrays_in = (let i : array_depth x.0.0 ≤ a - 1 = k.arrays_in in omega arith); structs_in = k.structs_in; fields = k.fields })

entry_text : (c : ℕ) (k : BasicType) (v : SingleType) (rest behind_value end : List ℕ)
    → c ≡ letter k → rest ≡ type_text v ++ behind_value → behind_value ≡ 125 ∷ end
    → 97 ∷ 123 ∷ c ∷ rest ≡ type_text (dict k v) ++ end
entry_text c k v rest behind_value end e f g =
    let inner : rest ≡ (type_text v ++ (125 ∷ [])) ++ end = f ∙ ap (λ r. type_text v ++ r) g ∙ sym (append_assoc (type_text v) (125 ∷ []) end) in
    ap (λ n. 97 ∷ 123 ∷ n ∷ rest) e ∙ ap (λ r. 97 ∷ 123 ∷ letter k ∷ r) inner

entry_takes : (a s : ℕ) (read : List ℕ → Found SingleType) → 0 < a → IsReader (a - 1) s read → (text : List ℕ) (t : SingleType) (end : List ℕ)
    → entry_at read text ≡ Some (t, end) → Takes a s (97 ∷ 123 ∷ text) t end
entry_takes a s read h reads [] t end e = absurd (cc)
entry_takes a s read h reads (c ∷ rest) t end e =
    let k = bind_some (basic_of c) (λ key. option_and_then (λ x. option_and_then (λ end. Some (dict key x.0, end)) (skip_byte 125 x.1)) (read rest)) (t, end) e in
    let x = bind_some (read rest) (λ x. option_and_then (λ end. Some (dict k.0 x.0, end)) (skip_byte 125 x.1)) (t, end) k.2 in
    let z = bind_some (skip_byte 125 x.0.1) (λ end. Some (dict k.0 x.0.0, end)) (t, end) x.2 in
    let v : Takes (a - 1) s rest x.0.0 x.0.1 = reads rest x.0.0 x.0.1 x.1 in
    takes_as a s (97 ∷ 123 ∷ c ∷ rest) (dict k.0 x.0.0, z.0) (t, end) z.2
    (record {
      text_is = entry_text c k.0 x.0.0 rest x.0.1 z.0 (basic_of-some c k.0 k.1) v.text_is (skip_byte-is 125 x.0.1 z.0 z.1);
      arrays_in = (let i : array_depth x.0.0 ≤ a - 1 = v.arrays_in in omega arith);
      structs_in = v.structs_in;
      fields = v.fields;
    })

array_or_dict_takes : (a s : ℕ) (read : List ℕ → Found SingleType) → 0 < a → IsReader (a - 1) s read → (rest : List ℕ) (bracket : Option (List ℕ))
    → skip_byte 123 rest ≡ bracket → (t : SingleType) (end : List ℕ)
    → array_or_dict read rest bracket ≡ Some (t, end) → Takes a s (97 ∷ rest) t end
array_or_dict_takes a s read h reads rest None p t end e = array_takes a s read h reads rest t end e
array_or_dict_takes a s read h reads rest (Some entry) p t end e =
    subst (λ (r : List ℕ). Takes a s (97 ∷ r) t end) (sym (skip_byte-is 123 rest entry p)) (entry_takes a s read h reads entry t end e)

takes_all_as : (a s : ℕ) (until : End) (text : List ℕ) (x y : List SingleType × List ℕ) → Some x ≡ Some y → TakesAll a s until text x.0 x.1 → TakesAll a s until text y.0 y.1
takes_all_as a s until text x y e h = subst (λ (p : List SingleType × List ℕ). TakesAll a s until text p.0 p.1) (some_is x y e) h

end_takes : (a s : ℕ) (until : End) (text rest : List ℕ) → behind until text ≡ Some rest → TakesAll a s until text [] rest
end_takes a s until text rest e = record { left = text; text_is = refl; end = e; arrays_in = omega arith; structs_in = omega arith; fields = tt }

first_takes : (a s : ℕ) (until : End) (text : List ℕ) (t : SingleType) (between : List ℕ) (ts : List SingleType) (rest : List ℕ)
    → Takes a s text t between → TakesAll a s until between ts rest → TakesAll a s until text (t ∷ ts) rest
first_takes a s until text t between ts rest one others = record {
  left = others.left;
  text_is = one.text_is ∙ ap (λ r. type_text t ++ r) others.text_is ∙ sym (append_assoc (type_text t) (types_text (single_types_of ts)) others.left);
  end = others.end;
  arrays_in = (let i : array_depth t ≤ a = one.arrays_in in let j : array_depths (single_types_of ts) ≤ a = others.arrays_in in omega arith);
  structs_in = (let i : struct_depth t ≤ s = one.structs_in in let j : struct_depths (single_types_of ts) ≤ s = others.structs_in in omega arith);
  fields = (one.fields, others.fields);
}

-- one more type before others of which it holds
more_takes : (a s : ℕ) (until : End) (read : List ℕ → Found SingleType) (others : List ℕ → Found (List SingleType)) → IsReader a s read
    → ((text : List ℕ) (ts : List SingleType) (rest : List ℕ) → others text ≡ Some (ts, rest) → TakesAll a s until text ts rest)
    → (text : List ℕ) (end : Option (List ℕ)) → behind until text ≡ end
    → (ts : List SingleType) (rest : List ℕ) → more_at others read text end ≡ Some (ts, rest) → TakesAll a s until text ts rest
more_takes a s until read others reads takes text (Some r) p ts rest e = takes_all_as a s until text ([], r) (ts, rest) e (end_takes a s until text r p)
more_takes a s until read others reads takes text None p ts rest e =
    let x = bind_some (read text) (λ x. with_first x.0 (others x.1)) (ts, rest) e in
    let y = bind_some (others x.0.1) (λ y. Some (x.0.0 ∷ y.0, y.1)) (ts, rest) x.2 in
    takes_all_as a s until text (x.0.0 ∷ y.0.0, y.0.1) (ts, rest) y.2
    (first_takes a s until text x.0.0 x.0.1 y.0.0 y.0.1 (reads text x.0.0 x.0.1 x.1) (takes x.0.1 y.0.0 y.0.1 y.1))

pub many_takes : (n a s : ℕ) (until : End) (read : List ℕ → Found SingleType) → IsReader a s read → (text : List ℕ) (ts : List SingleType) (rest : List ℕ)
    → many_at n until read text ≡ Some (ts, rest) → TakesAll a s until text ts rest
unfolding many_at
many_takes zero a s until read reads text ts rest e =
    let x = bind_some (behind until text) (λ rest. Some ([], rest)) (ts, rest) e in
    takes_all_as a s until text ([], x.0) (ts, rest) x.2 (end_takes a s until text x.0 x.1)
many_takes (suc n) a s until read reads text ts rest e =
    more_takes a s until read (many_at n until read) reads (many_takes n a s until read reads) text (behind until text) refl ts rest e

some_fields : (ts : List SingleType) (text rest : List ℕ) → skip_byte 41 text ≡ None → text ≡ types_text (single_types_of ts) ++ (41 ∷ rest) → AreFields (single_types_of ts)
some_fields [] text rest p e = let q : skip_byte 41 text ≡ Some rest = ap (skip_byte 41) e in absurd (cc)
some_fields (t ∷ ts) text rest p e = tt

fields_take : (a s : ℕ) (read : List ℕ → Found SingleType) → 0 < s → IsReader a (s - 1) read → (text : List ℕ) (bracket : Option (List ℕ))
    → skip_byte 41 text ≡ bracket → (t : SingleType) (end : List ℕ)
    → fields_at read text bracket ≡ Some (t, end) → Takes a s (40 ∷ text) t end
fields_take a s read h reads text (Some r) p t end e = absurd (cc)
fields_take a s read h reads text None p t end e =
    let x = bind_some (many_at (length text) ends.Bracket read text) (λ x. Some (struct (single_types_of x.0), x.1)) (t, end) e in
    let k : TakesAll a (s - 1) ends.Bracket text x.0.0 x.0.1 = many_takes (length text) a (s - 1) ends.Bracket read reads text x.0.0 x.0.1 x.1 in
    let whole : text ≡ types_text (single_types_of x.0.0) ++ (41 ∷ x.0.1) = k.text_is ∙ ap (λ r. types_text (single_types_of x.0.0) ++ r) (skip_byte-is 41 k.left x.0.1 k.end) in
    takes_as a s (40 ∷ text) (struct (single_types_of x.0.0), x.0.1) (t, end) x.2
    (record {
      text_is = ap (λ r. 40 ∷ r) (whole ∙ sym (append_assoc (types_text (single_types_of x.0.0)) (41 ∷ []) x.0.1));
      arrays_in = k.arrays_in;
      structs_in = (let i : struct_depths (single_types_of x.0.0) ≤ s - 1 = k.structs_in in omega arith);
      fields = (some_fields x.0.0 text x.0.1 p whole, k.fields);
    })

basic_takes : (a s c : ℕ) (rest : List ℕ) (t : SingleType) (end : List ℕ)
    → option_and_then {U = SingleType × List ℕ} (λ b. Some (basic b, rest)) (basic_of c) ≡ Some (t, end) → Takes a s (c ∷ rest) t end
basic_takes a s c rest t end e =
    let b = bind_some (basic_of c) (λ b. Some (basic b, rest)) (t, end) e in
    takes_as a s (c ∷ rest) (basic b.0, rest) (t, end) b.2
    (record { text_is = ap (λ n. n ∷ rest) (basic_of-some c b.0 b.1); arrays_in = omega arith; structs_in = omega arith; fields = tt })

-- a byte that is known
takes_at : (a s c n : ℕ) (rest : List ℕ) (t : SingleType) (end : List ℕ) → (c == n) ≡ true → Takes a s (n ∷ rest) t end → Takes a s (c ∷ rest) t end
takes_at a s c n rest t end e h = subst (λ (k : ℕ). Takes a s (k ∷ rest) t end) (sym (eqb-true c n e)) h

step_takes : (read : ℕ → ℕ → List ℕ → Found SingleType) → ((a s : ℕ) → IsReader a s (read a s)) → (a s : ℕ) → IsReader a s (type_step read a s)
step_takes read reads a s [] t end e = absurd (cc)
step_takes read reads a s (c ∷ rest) t end e =
    elim (if_ways (c == 97 && nat_lt 0 a) _ _ (Some (t, end)) e) [
      | inl w ↦ let b = both_true (c == 97) (nat_lt 0 a) w.0 in
          takes_at a s c 97 rest t end b.0 (array_or_dict_takes a s (read (a - 1) s) (ltb-true 0 a b.1) (reads (a - 1) s) rest (skip_byte 123 rest) refl t end w.1)
      | inr w ↦ elim (if_ways (c == 40 && nat_lt 0 s) _ _ (Some (t, end)) w.1) [
        | inl v ↦ let b = both_true (c == 40) (nat_lt 0 s) v.0 in
            takes_at a s c 40 rest t end b.0 (fields_take a s (read a (s - 1)) (ltb-true 0 s b.1) (reads a (s - 1)) rest (skip_byte 41 rest) refl t end v.1)
        | inr v ↦ elim (if_ways (c == 118) _ _ (Some (t, end)) v.1) [
          | inl u ↦ takes_at a s c 118 rest t end u.0 (takes_as a s (118 ∷ rest) (variant, rest) (t, end) u.1
              (record { text_is = refl; arrays_in = omega arith; structs_in = omega arith; fields = tt }))
          | inr u ↦ basic_takes a s c rest t end u.1
        ]
      ]
    ]

pub type_takes : (room a s : ℕ) → IsReader a s (type_at room a s)
unfolding type_at
type_takes zero a s text t rest e = absurd (cc)
type_takes (suc room) a s text t rest e = step_takes (type_at room) (type_takes room) a s text t rest e
