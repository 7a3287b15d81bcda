-- How the writes of a send go together.
use Rattle.std.proofs.Common.{ℕ, ◌≡◌, ◌+◌, ◌-◌, ◌≤◌, List, ◌++◌, length, take, drop, Option, Some, None, sym, ap, ◌∙◌, subst, arith, append_assoc}
use Rattle.std.proofs.lemmas.List.{take_rest}
use Rattle.std.proofs.Math.Seq.{take-add}
use Rattle.std.specs.Io.KnownBytes.{Appends}
use Rattle.wire_framing.specs.Sink.{RoomFalls}

pub Appends-then : (a b c : Option (List ℕ)) (bs cs : List ℕ) → Appends a b bs → Appends b c cs → Appends a c (bs ++ cs)
Appends-then None b c bs cs p q = tt
Appends-then (Some x) None c bs cs p q = absurd p
Appends-then (Some x) (Some y) None bs cs p q = absurd q
Appends-then (Some x) (Some y) (Some z) bs cs p q = q ∙ ap (λ l. l ++ cs) p ∙ append_assoc x bs cs

pub room_then : (a b c : Option (Option ℕ)) (n m : ℕ) → RoomFalls a b n → RoomFalls b c m → RoomFalls a c (n + m)
room_then None b c n m p q = tt
room_then (Some None) b c n m p q = subst (λ r. RoomFalls r c m) p q
room_then (Some (Some k)) b c n m p q =
    let w : RoomFalls (Some (Some (k - n))) c m = subst (λ r. RoomFalls r c m) p.1 q in
    let first : n ≤ k = p.0 in
    let second : m ≤ k - n = w.0 in
    (omega arith, w.1 ∙ ap (λ r. Some (Some r)) (omega arith))

-- the part of the bytes that is gone, and what is taken of the rest
pub gone_more : (at n : ℕ) (bytes : List ℕ) → take at bytes ++ take n (take (length bytes - at) (drop at bytes)) ≡ take (at + n) bytes
gone_more at n bytes = ap (λ l. take at bytes ++ take n l) (take_rest bytes at) ∙ sym (take-add at n bytes)
