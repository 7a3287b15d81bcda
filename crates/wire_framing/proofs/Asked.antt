-- How the calls of a source go together, with how often it was asked and how wide its buffers were.
use Rattle.std.proofs.Common.{ℕ, ◌≡◌, ◌+◌, ◌-◌, ◌<◌, ◌≤◌, ◌⊎◌, inl, inr, not, nat_lt, if◌then◌else◌, List, ◌++◌, length, take, drop, Option, Some, None, IfSome, IfErr, [], le_refl, drop_of_length-le, refl, Result, Ok, Err, sym, ap, ◌∙◌, subst, arith, append_assoc, length-append, slice_index}
use Rattle.std.proofs.Math.Seq.{drop-append_seam, take-append_seam}
use Rattle.std.proofs.lemmas.List.{length-take-le, take-append-drop, take-take, take-append-le}
use borrow.Rule.Slice.PartMut.{put_mid, post_of}
use Rattle.std.specs.Io.KnownBytes.{Consumes}
use Rattle.wire_framing.specs.Views.{SourceView}
use Rattle.wire_framing.specs.Source.{IsEnd, FailsAt, GrowsBy, Asks, GrowsTo, Widens}
use Rattle.wire_framing.specs.Receive.{spent}
use Rattle.wire_framing.specs.Kept.{Comes, FillsUp, IsRight, IsCut, ReadsToMessage}
use Rattle.wire_framing.proofs.Steps.{Went, Consumes-then, went_then, may_rise_after, filled_more}
use Rattle.wire_framing.proofs.Fronts.{cond_either, head_fault-append, total-append}
use Rattle.wire_framing.proofs.Whole.{spent_all, spent_refused, spent_right}
use Rattle.wire_message.specs.Front.{total}
use Rattle.wire_message.specs.Outcome.{is_order, is_refused, head_fault}
use Rattle.wire_message.specs.declared.error.Error.{Error}
use Rattle.wire_message.specs.declared.error.Error.TheVariants as errors
use Rattle.wire_message.specs.declared.error.IoKind.TheVariants as kinds
use Rattle.wire_signature.specs.declared.error.VariantError.TheVariants as faults

-- ---- how often, and how wide

grows_then : (a b c : Option ℕ) (n m k : ℕ) → GrowsBy a b n → GrowsBy b c m → n + m ≤ k → GrowsBy a c k
grows_then None b c n m k p q le = tt
grows_then (Some x) None c n m k p q le = absurd p
grows_then (Some x) (Some y) None n m k p q le = absurd q
grows_then (Some x) (Some y) (Some z) n m k p q le = omega (arith, p, q)

pub asks_then : (a b c : SourceView) (n m k : ℕ) → Asks a b n → Asks b c m → n + m ≤ k → Asks a c k
asks_then a b c n m k p q le = grows_then a.asked b.asked c.asked n m k p q le

reaches_then : (a b c : Option ℕ) (n m k : ℕ) → GrowsTo a b n → GrowsTo b c m → n ≤ k → m ≤ k → GrowsTo a c k
reaches_then None b c n m k p q l r = tt
reaches_then (Some x) None c n m k p q l r = absurd p
reaches_then (Some x) (Some y) None n m k p q l r = absurd q
reaches_then (Some x) (Some y) (Some z) n m k p q l r = omega (arith, p, q)

pub widens_then : (a b c : SourceView) (n m k : ℕ) → Widens a b n → Widens b c m → n ≤ k → m ≤ k → Widens a c k
widens_then a b c n m k p q l r = reaches_then a.widest b.widest c.widest n m k p q l r

-- ---- what came

pub went_of : (got : List ℕ) (a b : SourceView) → Comes {A = Unit {0}} (Ok tt) got a b → Went got a b
went_of got a b c = record { consumed = c.0; same = c.1; risen = c.2 }

came_then : (e : Error) (got more all : List ℕ) (a b c : SourceView) → got ++ more ≡ all → Went got a b → Comes {A = Unit {0}} (Err e) more b c → Comes {A = Unit {0}} (Err e) all a c
came_then (errors.InputOutput kinds.Ended) got more all a b c e w m =
    (subst (Consumes a.left c.left) e (Consumes-then a.left b.left c.left got more w.consumed m.0), subst (IsEnd c.left) w.same m.1, m.2 ∙ w.same, omega (arith, w.risen, m.3))
came_then (errors.InputOutput kinds.Fault) got more all a b c e w m = (
  m.0,
  subst (Consumes a.left m.0) e (Consumes-then a.left b.left m.0 got more w.consumed m.1),
  subst (λ stop. FailsAt stop c.stop m.0 c.left) w.same m.2,
  may_rise_after a.faults b.faults c.faults w.risen m.3,
)
came_then e got more all a b c eq w m =
    (subst (Consumes a.left c.left) eq (Consumes-then a.left b.left c.left got more w.consumed m.0), m.1 ∙ w.same, omega (arith, w.risen, m.2))

-- the answer of the last step is the answer of all
pub came_to : (r : Result (Unit {0}) Error) (got more all : List ℕ) (a b c : SourceView) → got ++ more ≡ all → Went got a b → Comes r more b c → Comes r all a c
came_to (Ok done) got more all a b c e w m = let whole = went_then got more all a b c e w m.0 m.1 m.2 in (whole.consumed, whole.same, whole.risen)
came_to (Err error) got more all a b c e w m = came_then error got more all a b c e w m

-- ---- bytes that grow

pub rest_joined : (b0 b1 b2 : List ℕ) → b1 ≡ b0 ++ drop (length b0) b1 → b2 ≡ b1 ++ drop (length b1) b2 → drop (length b0) b1 ++ drop (length b1) b2 ≡ drop (length b0) b2
rest_joined b0 b1 b2 p q =
    let x = drop (length b0) b1 in
    let y = drop (length b1) b2 in
    sym (ap (drop (length b0)) (q ∙ ap (λ l. l ++ y) p ∙ append_assoc b0 x y) ∙ drop-append_seam b0 (x ++ y))

pub rest_is : (b0 b1 got : List ℕ) → b1 ≡ b0 ++ got → drop (length b0) b1 ≡ got
rest_is b0 b1 got e = ap (drop (length b0)) e ∙ drop-append_seam b0 got

pub grown_is : (b0 b1 got : List ℕ) → b1 ≡ b0 ++ got → b1 ≡ b0 ++ drop (length b0) b1
grown_is b0 b1 got e = e ∙ ap (λ l. b0 ++ l) (sym (rest_is b0 b1 got e))

pub fewer : (e : Error) (n : ℕ) (bytes : List ℕ) → FillsUp {A = Unit {0}} (Err e) n bytes → length bytes < n
fewer (errors.InputOutput kinds.Ended) n bytes h = h
fewer (errors.InputOutput kinds.Fault) n bytes h = h
fewer errors.Memory n bytes h = h
fewer e n bytes h = absurd h

nothing : (left : Option (List ℕ)) → Consumes left left []
nothing None = tt
nothing (Some xs) = refl

-- without memory nothing came
pub none_came : (r : Result (Unit {0}) Error) (old new : List ℕ) (v : SourceView) → IfErr r (λ e. e ≡ errors.Memory) → new ≡ old → Comes r (drop (length old) new) v v
none_came r old new v h e = subst (λ l. Comes r l v v) (sym (ap (drop (length old)) e ∙ drop_of_length-le old (le_refl (length old)))) (kept r h) where
  kept : (r : Result (Unit {0}) Error) → IfErr r (λ e. e ≡ errors.Memory) → Comes r [] v v
  kept (Ok done) h = (nothing v.left, refl, le_refl v.faults)
  kept (Err e) h = subst (λ x. Comes {A = Unit {0}} (Err x) [] v v) (sym h) (nothing v.left, refl, le_refl v.faults)

-- zeros behind the bytes, and then the bytes again
pub zeros_front : (from : ℕ) (old zeros res : List ℕ) → from ≡ length old → res ≡ old ++ zeros → take from res ≡ old
zeros_front from old zeros res p q = ap (λ k. take k res) p ∙ ap (take (length old)) q ∙ take-append_seam old zeros

-- the bytes that came, at the front of a buffer behind those that were there
pub taken_front : (k from n : ℕ) (res piece more : List ℕ) → from ≤ length res → n ≤ length piece → from + n ≤ k
    → take (from + n) (take k (put_mid from (length res - from) res piece ++ more)) ≡ take from res ++ take n piece
taken_front k from n res piece more within fits le =
    let after = post_of from (length res - from) res in
    let front : length (take from res) ≡ from = length-take-le from res within in
    let all = length-append (take from res) (piece ++ after) in
    let behind = length-append piece after in
    let long : from + n ≤ length (take from res ++ (piece ++ after)) = omega (arith, all, behind, front) in
    take-take (from + n) k (put_mid from (length res - from) res piece ++ more) le ∙ take-append-le (from + n) (put_mid from (length res - from) res piece) more long
    ∙ sym (filled_more from n res piece within fits)

-- ---- the bytes of a front

reads_cut : (e : Error) (n : ℕ) (bytes : List ℕ) → IsCut bytes → FillsUp {A = Unit {0}} (Err e) n bytes → ReadsToMessage (Err e) bytes
reads_cut (errors.InputOutput kinds.Ended) n bytes cut h = cut
reads_cut (errors.InputOutput kinds.Fault) n bytes cut h = cut
reads_cut errors.Memory n bytes cut h = tt
reads_cut e n bytes cut h = absurd h

pub reads_to : (r : Result (Unit {0}) Error) (n : ℕ) (bytes : List ℕ) → IsRight bytes → n ≡ total bytes → FillsUp r n bytes → ReadsToMessage r bytes
reads_to (Ok done) n bytes right all h = (right, subst (λ k. k ≤ length bytes) all h)
reads_to (Err e) n bytes right all h = reads_cut e n bytes (inr (right, subst (λ k. length bytes < k) all (fewer e n bytes h))) h

-- what the refusal of a head gives
record Refused (e : Error) (bytes got : List ℕ) (a b : SourceView) : Type 0 where
  found : ReadsToMessage (Err e) bytes
  came : Comes {A = Unit {0}} (Err e) got a b

refused_by : (bytes got : List ℕ) (a b : SourceView) → 16 ≤ length bytes → Went got a b
    → IfSome (head_fault bytes) (λ e. head_fault bytes ≡ Some e → Refused e bytes got a b)
refused_by bytes got a b h w =
    let limit = if nat_lt 134217728 (total bytes) then Some errors.ExcessData else None in
    let kind = if is_refused bytes then Some (errors.Variant faults.Malformed) else limit in
    cond_either (λ o. IfSome o (λ e. head_fault bytes ≡ Some e → Refused e bytes got a b)) (not (is_order (slice_index bytes 0))) (Some errors.IncorrectEndian) kind
    (λ p. record { found = (h, p); came = (w.consumed, w.same, w.risen) })
    (cond_either (λ o. IfSome o (λ e. head_fault bytes ≡ Some e → Refused e bytes got a b)) (is_refused bytes) (Some (errors.Variant faults.Malformed)) limit
    (λ p. record { found = (h, p); came = (w.consumed, w.same, w.risen) })
    (cond_either (λ o. IfSome o (λ e. head_fault bytes ≡ Some e → Refused e bytes got a b)) (nat_lt 134217728 (total bytes)) (Some errors.ExcessData) None
    (λ p. record { found = (h, p); came = (w.consumed, w.same, w.risen) }) tt))

refused_is : (o : Option Error) (e : Error) (bytes got : List ℕ) (a b : SourceView) → o ≡ Some e
    → IfSome o (λ e. head_fault bytes ≡ Some e → Refused e bytes got a b) → head_fault bytes ≡ Some e → Refused e bytes got a b
refused_is None e bytes got a b p h = absurd (cc)
refused_is (Some d) e bytes got a b p h =
    let same : d ≡ e = cc in
    subst (λ (x : Error). head_fault bytes ≡ Some x → Refused x bytes got a b) same h

pub refused : (e : Error) (bytes got : List ℕ) (a b : SourceView) → 16 ≤ length bytes → Went got a b → head_fault bytes ≡ Some e
    → ReadsToMessage (Err e) bytes × Comes {A = Unit {0}} (Err e) got a b
refused e bytes got a b h w p =
    let r = refused_is (head_fault bytes) e bytes got a b p (refused_by bytes got a b h w) p in
    (r.found, r.came)

-- the head of longer bytes is theirs
pub head_fault-take : (bytes : List ℕ) → 16 ≤ length bytes → head_fault (take 16 bytes) ≡ head_fault bytes
head_fault-take bytes h =
    let front : length (take 16 bytes) ≡ 16 = length-take-le 16 bytes h in
    sym (head_fault-append (take 16 bytes) (drop 16 bytes) (omega arith)) ∙ ap head_fault (take-append-drop 16 bytes)

pub total-take : (bytes : List ℕ) → 16 ≤ length bytes → total (take 16 bytes) ≡ total bytes
total-take bytes h =
    let front : length (take 16 bytes) ≡ 16 = length-take-le 16 bytes h in
    sym (total-append (take 16 bytes) (drop 16 bytes) (omega arith)) ∙ ap total (take-append-drop 16 bytes)

-- more bytes behind a head that is right
right_more : (b1 b2 more : List ℕ) → b2 ≡ b1 ++ more → IsRight b1 → IsRight b2
right_more b1 b2 more e r =
    record {
      head = omega (arith, ap length e ∙ length-append b1 more, r.head);
      right = ap head_fault e ∙ head_fault-append b1 more r.head ∙ r.right;
    }

total_more : (b1 b2 more : List ℕ) → b2 ≡ b1 ++ more → 16 ≤ length b1 → total b2 ≡ total b1
total_more b1 b2 more e h = ap total e ∙ total-append b1 more h

-- what the first 16 of the bytes say is so of more bytes
pub head_right : (b1 b2 more : List ℕ) → b2 ≡ b1 ++ more → 16 ≤ length b1 → head_fault (take 16 b1) ≡ None → IsRight b2
head_right b1 b2 more e h p = right_more b1 b2 more e (record { head = h; right = sym (head_fault-take b1 h) ∙ p })

pub head_total : (n : ℕ) (b1 b2 more : List ℕ) → b2 ≡ b1 ++ more → 16 ≤ length b1 → n ≡ total (take 16 b1) → n ≡ total b2
head_total n b1 b2 more e h p = p ∙ total-take b1 h ∙ sym (total_more b1 b2 more e h)

-- no more bytes came than those of the front
pub own_short : (b0 bytes : List ℕ) → length bytes < 16 → (bytes ≡ b0) ⊎ (length bytes ≤ spent bytes)
own_short b0 bytes h = inr (omega (arith, spent_all bytes h))

pub own_refused : (b0 bytes : List ℕ) (e : Error) → 16 ≤ length bytes → head_fault bytes ≡ Some e → (bytes ≡ b0) ⊎ (length bytes ≤ 16) → (bytes ≡ b0) ⊎ (length bytes ≤ spent bytes)
own_refused b0 bytes e h p (inl same) = inl same
own_refused b0 bytes e h p (inr le) = inr (omega (arith, spent_refused bytes e h p, le))

own_cut : (b0 bytes : List ℕ) → IsRight bytes → length bytes < total bytes → (bytes ≡ b0) ⊎ (length bytes ≤ spent bytes)
own_cut b0 bytes r less = inr (omega (arith, spent_right bytes r.head r.right))

own_whole : (b0 b1 b2 : List ℕ) → IsRight b2 → total b2 ≤ length b2 → 16 ≤ total b2 → (b1 ≡ b0) ⊎ (length b1 ≤ 16) → (b2 ≡ b1) ⊎ (length b2 ≤ total b2)
    → (b2 ≡ b0) ⊎ (length b2 ≤ spent b2)
own_whole b0 b1 b2 r le some (inl p) (inl q) = inl (q ∙ p)
own_whole b0 b1 b2 r le some (inr p) (inl q) = inr (omega (arith, spent_right b2 r.head r.right, ap length q, p))
own_whole b0 b1 b2 r le some p (inr q) = inr (omega (arith, spent_right b2 r.head r.right, q))

pub own_to : (r : Result (Unit {0}) Error) (n : ℕ) (b0 b1 b2 : List ℕ) → IsRight b2 → n ≡ total b2 → (b1 ≡ b0) ⊎ (length b1 ≤ 16) → (b2 ≡ b1) ⊎ (length b2 ≤ n) → FillsUp r n b2
    → (b2 ≡ b0) ⊎ (length b2 ≤ spent b2)
own_to (Ok done) n b0 b1 b2 right all p q h = own_whole b0 b1 b2 right (subst (λ k. k ≤ length b2) all h) (omega arith) p (subst (λ k. (b2 ≡ b1) ⊎ (length b2 ≤ k)) all q)
own_to (Err e) n b0 b1 b2 right all p q h = own_cut b0 b2 right (subst (λ k. length b2 < k) all (fewer e n b2 h))
