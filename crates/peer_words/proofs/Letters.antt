-- The words of a message that is to be sent, one after the other, and what stands in its letters.
use Rattle.std.proofs.Common.{◌≡◌, ℕ, refl, ap, ◌∙◌, not, Bool, true, false, if◌then◌else◌, List, [], Option, Some, None, unwrap_or, Ok, Err, ◌+◌}
use Rattle.std.specs.Int.RustNames.{bit_and, bit_or}
use Rattle.peer_words.specs.{Names.{is_bus_name, is_object_path, is_member_name, Datum, BuilderView, are_misplaced, flagged, Error, CallFlags}, Made.{MakesOutgoing, prepared_with}, CallMessage.{PreparedSend, flags_number, is_outside, words_refusal, prepared_of}}
use Rattle.wire_names.specs.{Names.is_interface_name, declared.error.NamesError.NamesError}
use Rattle.wire_number.specs.declared.endian.Endian.{Endian}
use Rattle.wire_names.specs.Names as grammar

-- ---- the flags of a script's letters

-- the flags that are asked for, together; and beside no flags, among those that are known
abbrev bit : ℕ → Bool → ℕ
bit n given = if given then n else 0

bits : (n a i : Bool) → (bit_or (bit_or (if n then 1 else 0) (if a then 2 else 0)) (if i then 4 else 0) ≡ bit 1 n + bit 2 a + bit 4 i) × (bit_or 0 (bit_and (bit 1 n + bit 2 a + bit 4 i) 7) ≡ bit 1 n + bit 2 a + bit 4 i)
bits true true true = (refl, refl)
bits true true false = (refl, refl)
bits true false true = (refl, refl)
bits true false false = (refl, refl)
bits false true true = (refl, refl)
bits false true false = (refl, refl)
bits false false true = (refl, refl)
bits false false false = (refl, refl)

pub or_flags : (f : CallFlags) → bit_or (bit_or (if f.no_reply_expected then 1 else 0) (if f.no_auto_start then 2 else 0)) (if f.allow_interactive_auth then 4 else 0) ≡ flags_number f
unfolding flags_number
or_flags f = (bits f.no_reply_expected f.no_auto_start f.allow_interactive_auth).0

pub kept_flags : (f : CallFlags) → bit_or 0 (bit_and (flags_number f) 7) ≡ flags_number f
unfolding flags_number
kept_flags f = (bits f.no_reply_expected f.no_auto_start f.allow_interactive_auth).1

-- ---- words

pub bad_destination : (d : BuilderView) (error : Error) → error ≡ Error.Names NamesError.Bus → is_outside is_bus_name d.fields.destination ≡ true → words_refusal d ≡ Some error
unfolding words_refusal
bad_destination d error e a = rw (a, e) refl

pub bad_path : (d : BuilderView) (error : Error) → is_outside is_bus_name d.fields.destination ≡ false → error ≡ Error.Names NamesError.Path → is_outside is_object_path d.fields.path ≡ true
    → words_refusal d ≡ Some error
unfolding words_refusal
bad_path d error a e p = rw (a, p, e) refl

pub bad_interface : (d : BuilderView) (error : Error) → is_outside is_bus_name d.fields.destination ≡ false → is_outside is_object_path d.fields.path ≡ false
    → error ≡ Error.Names NamesError.Interface → is_outside is_interface_name d.fields.interface ≡ true → words_refusal d ≡ Some error
unfolding words_refusal
bad_interface d error a p e i = rw (a, p, i, e) refl

pub bad_member : (d : BuilderView) (error : Error) → is_outside is_bus_name d.fields.destination ≡ false → is_outside is_object_path d.fields.path ≡ false
    → is_outside is_interface_name d.fields.interface ≡ false → error ≡ Error.Names NamesError.Member → is_outside is_member_name d.fields.member ≡ true → words_refusal d ≡ Some error
unfolding words_refusal
bad_member d error a p i e m = rw (a, p, i, m, e) refl

pub good_words : (d : BuilderView) → is_outside is_bus_name d.fields.destination ≡ false → is_outside is_object_path d.fields.path ≡ false
    → is_outside is_interface_name d.fields.interface ≡ false → is_outside is_member_name d.fields.member ≡ false → words_refusal d ≡ None
unfolding words_refusal
good_words d a p i m = rw (a, p, i, m) refl

-- ---- refusals

pub refused : (error : Error) (asked : PreparedSend) → asked ≡ Err error → MakesOutgoing (Err error) asked
refused Error.Memory asked e = tt
refused other asked e = e

-- ---- letters

misplaced_by : (b : Bool) (made : BuilderView) (error : Error) (values : List Datum) (unsupported : Bool) (d : BuilderView) (fds : List ℕ)
    → Err error ≡ (if b then Err Error.InvalidField else Ok made) → prepared_of None (Some values) b unsupported d fds ≡ Err error
misplaced_by true made error values unsupported d fds e = cc
misplaced_by false made error values unsupported d fds e = absurd (cc)

pub misplaced : (d : BuilderView) (error : Error) (values : List Datum) (flags : CallFlags) (takes_fds : Bool) → Err error ≡ (if are_misplaced d.kind (flags_number flags) then Err Error.InvalidField else Ok (record d { order = (if flags.big then Endian.Big else Endian.Little); flags = flags_number flags }))
    → prepared_with d values flags takes_fds ≡ Err error
misplaced d error values flags takes_fds e = misplaced_by _ _ error values _ _ _ e

pub flagged_is : (b : BuilderView) (order : Endian) (flags : CallFlags) (n : ℕ) → b.flags ≡ 0 → order ≡ (if flags.big then Endian.Big else Endian.Little) → n ≡ flags_number flags
    → flagged (record b { order = order }) n ≡ (if are_misplaced b.kind (flags_number flags) then Err Error.InvalidField else Ok (record b { order = (if flags.big then Endian.Big else Endian.Little); flags = flags_number flags }))
flagged_is b order flags n h o e =
    ap (λ k. flagged (record b { order = order }) k) e ∙ ap (λ p. flagged (record b { order = p }) (flags_number flags)) o
    ∙ ap (λ z. if are_misplaced b.kind (flags_number flags) then Err Error.InvalidField else Ok (record b { order = (if flags.big then Endian.Big else Endian.Little); flags = z }))
    (ap (λ z. bit_or z (bit_and (flags_number flags) 7)) h ∙ kept_flags flags)

pub no_interface : is_interface_name [] ≡ false
unfolding is_interface_name grammar.is_dotted
no_interface = refl

-- an interface that is there
pub there : (o : Option (List ℕ)) (name : List ℕ) → o ≡ Some name → is_interface_name name ≡ true → is_outside is_interface_name (Some (unwrap_or o [])) ≡ false
there o name e h = ap (λ i. is_outside is_interface_name (Some (unwrap_or i []))) e ∙ ap not h
