-- What a sink gains in several writes.
use Rattle.std.proofs.Common.{ℕ, ◌≡◌, ◌+◌, ◌-◌, ◌≤◌, ◌<◌, refl, sym, ◌∙◌, ap, subst, arith, List, [], ◌++◌, append_assoc, length, length-append, take, Option, Some, None}
use Rattle.std.proofs.Math.Seq.{take-append-add, take-append-le}
use Rattle.std.proofs.lemmas.List.{length-take-le}
use Rattle.std.proofs.KnownBytes.{Appends-nil, Appends-trans}
use Rattle.std.specs.Io.KnownBytes.{Appends}
use Rattle.wire_framing.specs.Views.{SinkView}
use Rattle.wire_framing.specs.Source.{MayRise}
use Rattle.wire_framing.specs.Sink.{RoomFalls, RoomBreaks, Part, Stops}
use Rattle.wire_framing.specs.declared.sink.Refusal.TheVariants as refusals
use Rattle.wire_framing.proofs.Gone.{room_then}
use Rattle.watch_tool.specs.Watching.{Gains}

room_none : (room : Option (Option ℕ)) → RoomFalls room room 0
room_none None = tt
room_none (Some None) = refl
room_none (Some (Some k)) = (omega arith, ap (λ n. Some (Some n)) (omega arith))

pub gains_nothing : (sink : SinkView) → Gains [] sink sink
gains_nothing sink = (Appends-nil sink.held, room_none sink.room, refl)

pub gains_then : (xs ys : List ℕ) (first mid last : SinkView) → Gains xs first mid → Gains ys mid last → Gains (xs ++ ys) first last
gains_then xs ys first mid last p q = (
  Appends-trans first.held mid.held last.held xs ys p.0 q.0,
  subst (RoomFalls first.room last.room) (sym (length-append xs ys)) (room_then first.room mid.room last.room (length xs) (length ys) p.1 q.1),
  q.2 ∙ p.2,
)

room_breaks : (a b c : Option (Option ℕ)) (n m : ℕ) → RoomFalls a b n → RoomBreaks b c m → RoomBreaks a c (n + m)
room_breaks None b c n m p q = tt
room_breaks (Some None) b c n m p q = absurd (subst (λ r. RoomBreaks r c m) p q)
room_breaks (Some (Some k)) b c n m p q =
    let w : RoomBreaks (Some (Some (k - n))) c m = subst (λ r. RoomBreaks r c m) p.1 q in
    let first : n ≤ k = p.0 in
    let second : m ≡ k - n = w.0 in
    (omega (arith, first, second), w.1)

-- the part of a whole that some bytes of it are, and a part of what follows them
part_after : (xs ys more whole : List ℕ) (n : ℕ) (first mid last : SinkView) → whole ≡ (xs ++ ys) ++ more → n ≤ length ys → length xs + n < length whole → Gains xs first mid
    → Appends mid.held last.held (take n ys) → Part whole first last (length xs + n)
part_after xs ys more whole n first mid last is within proper gains gone =
    let front : take (length xs + n) whole ≡ xs ++ take n ys =
    ap (take (length xs + n)) (is ∙ append_assoc xs ys more) ∙ take-append-add xs (ys ++ more) n ∙ ap (λ l. xs ++ l) (take-append-le n ys more within) in
    record { proper = proper; gone = subst (Appends first.held last.held) (sym front) (Appends-trans first.held mid.held last.held xs (take n ys) gains.0 gone) }

within_whole : (xs ys more whole : List ℕ) → whole ≡ (xs ++ ys) ++ more → length whole ≡ length xs + length ys + length more
within_whole xs ys more whole is = ap length is ∙ length-append (xs ++ ys) more ∙ ap (λ n. n + length more) (length-append xs ys)

pub fails_after : (xs ys more whole : List ℕ) (n : ℕ) (first mid last : SinkView) → whole ≡ (xs ++ ys) ++ more → Gains xs first mid → Stops refusals.Failed ys mid last n
    → Stops refusals.Failed whole first last (length xs + n)
fails_after xs ys more whole n first mid last is gains stops =
    let proper : n < length ys = stops.0.proper in
    let all = within_whole xs ys more whole is in (
      part_after xs ys more whole n first mid last is (omega (arith, proper)) (omega (arith, proper, all)) gains stops.0.gone,
      room_breaks first.room mid.room last.room (length xs) n gains.1 stops.1,
      subst (λ k. MayRise k last.faults) gains.2 stops.2,
    )

pub runs_out_after : (xs ys more whole : List ℕ) (n : ℕ) (first mid last : SinkView) → whole ≡ (xs ++ ys) ++ more → Gains xs first mid → Stops refusals.Memory ys mid last n
    → Stops refusals.Memory whole first last (length xs + n)
runs_out_after xs ys more whole n first mid last is gains stops =
    let proper : n < length ys = stops.0.proper in
    let all = within_whole xs ys more whole is in (
      part_after xs ys more whole n first mid last is (omega (arith, proper)) (omega (arith, proper, all)) gains stops.0.gone,
      room_then first.room mid.room last.room (length xs) n gains.1 stops.1,
      stops.2 ∙ gains.2,
    )

-- the same where all of the bytes may be there, and more follows them
pub runs_out_within : (xs ys more whole : List ℕ) (n : ℕ) (first mid last : SinkView) → whole ≡ (xs ++ ys) ++ more → 0 < length more → n ≤ length ys → Gains xs first mid → Gains (take n ys) mid last
    → Stops refusals.Memory whole first last (length xs + n)
runs_out_within xs ys more whole n first mid last is some within gains gained =
    let all = within_whole xs ys more whole is in (
      part_after xs ys more whole n first mid last is within (omega (arith, within, some, all)) gains gained.0,
      subst (λ k. RoomFalls first.room last.room (length xs + k)) (length-take-le n ys within) (room_then first.room mid.room last.room (length xs) (length (take n ys)) gains.1 gained.1),
      gained.2 ∙ gains.2,
    )
