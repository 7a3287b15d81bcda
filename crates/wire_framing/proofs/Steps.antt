-- How the steps of a read go together.
use Rattle.std.proofs.Common.{ℕ, ◌≡◌, ◌+◌, ◌-◌, ◌≤◌, inl, inr, List, ◌++◌, length, take, Option, Some, None, sym, ap, ◌∙◌, subst, arith, append_assoc}
use Rattle.std.proofs.lemmas.List.{length-take-le, take-append-le}
use Rattle.std.proofs.Math.Seq.{take-append-add}
use borrow.Rule.Slice.PartMut.{put_mid, post_of}
use Rattle.std.specs.Io.KnownBytes.{Consumes}
use Rattle.wire_framing.specs.Views.{SourceView}
use Rattle.wire_framing.specs.Source.{MayRise}

-- Some calls went well, and gave these bytes.
pub record Went (got : List ℕ) (old new : SourceView) : Type 0 where
  pub consumed : Consumes old.left new.left got
  pub same : new.stop ≡ old.stop
  pub risen : old.faults ≤ new.faults

pub Consumes-then : (a b c : Option (List ℕ)) (bs cs : List ℕ) → Consumes a b bs → Consumes b c cs → Consumes a c (bs ++ cs)
Consumes-then None b c bs cs p q = tt
Consumes-then (Some x) None c bs cs p q = absurd p
Consumes-then (Some x) (Some y) None bs cs p q = absurd q
Consumes-then (Some x) (Some y) (Some z) bs cs p q = p ∙ ap (λ l. bs ++ l) q ∙ sym (append_assoc bs cs z)

pub went_then : (bs cs all : List ℕ) (a b c : SourceView) → bs ++ cs ≡ all → Went bs a b → Consumes b.left c.left cs → c.stop ≡ b.stop → b.faults ≤ c.faults
    → Went all a c
went_then bs cs all a b c e p q same risen =
    record {
      consumed = subst (Consumes a.left c.left) e (Consumes-then a.left b.left c.left bs cs p.consumed q);
      same = same ∙ p.same;
      risen = omega (arith, p.risen);
    }

pub may_rise_after : (f g h : ℕ) → f ≤ g → MayRise g h → MayRise f h
may_rise_after f g h le (inl rose) = inl (omega arith)
may_rise_after f g h le (inr stands) = grind arith

-- Bytes put behind those at the front of a buffer.
pub filled_more : (from n : ℕ) (old piece : List ℕ) → from ≤ length old → n ≤ length piece
    → take from old ++ take n piece ≡ take (from + n) (put_mid from (length old - from) old piece)
filled_more from n old piece within fits =
    let k = length old - from in
    let after = post_of from k old in
    let front : length (take from old) ≡ from = length-take-le from old within in
    let shape : take (length (take from old) + n) (take from old ++ (piece ++ after)) ≡ take from old ++ take n (piece ++ after) = take-append-add (take from old) (piece ++ after) n in
    let moved : take (from + n) (take from old ++ (piece ++ after)) ≡ take from old ++ take n (piece ++ after) =
    subst (λ m. take (m + n) (take from old ++ (piece ++ after)) ≡ take from old ++ take n (piece ++ after)) front shape in
    sym (moved ∙ ap (λ l. take from old ++ l) (take-append-le n piece after fits))
