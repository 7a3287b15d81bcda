-- The last message goes, where all that have begun hold it.
use Rattle.std.proofs.{Common.{◌≡◌, ◌+◌, ◌-◌, ◌++◌, ◌∷◌, [], ◌∙◌, sym, ap, arith, refl, length, take, length-append}, lemmas.Bool.false≢true}
use Rattle.peer_lists.specs.{Entries.Kept, Holdings.{held_by}}
use Rattle.peer_lists.proofs.{Steps.shared_popped, Views.{held_popped, held_unpushed, last_split, last_is}}
use Rattle.peer_lists.proofs.shared_list.SharedList.take_back.Goals as goal

pub returns-in_default : goal.returns-in_default
returns-in_default c v m h =
    held_unpushed c.self.invariant c.args.self.now c.self.view_is v m h
    (λ ys e is all. false≢true (c.in_default.ensures.variant.1 (omega (arith, ap length is, length-append ys (e ∷ []), c.self.inside.entries.ok.0))))

pub returns-then-others-self : goal.returns-then-others-self
returns-then-others-self c v m h =
    held_unpushed c.self.invariant c.args.self.now c.self.view_is v m h
    (λ ys e is all. c.if-others-self.true (ap (λ n. n + 1) (c.others.ensures.count ∙ ap (λ (x : Kept). x.others) (last_is c.self.inside.entries.items ys c.in-Some.entry.now e c.self.inside.entries.len is c.self.inside.entries.ok.0 c.in-Some.ensures.lookup)) ∙ all))

pub invariant_of-self : goal.invariant_of-self
invariant_of-self c =
    let xs = c.self.inside.entries.items in
    let e = c.in-Some.entry.now in
    let n = c.self.inside.entries.len - 1 in
    let len : n + 1 ≡ length xs = omega (arith, c.self.inside.entries.ok.0, c.in-Some.ensures.variant.0 refl) in
    let least : c.len.result - 1 ≡ n = ap (λ k. k - 1) c.len.ensures in
    let rest : take n xs ≡ c.truncate.new.self.items = sym (c.truncate.ensures.items ∙ ap (λ k. take k xs) least) in
    shared_popped c.self.invariant c.truncate.new.self.items e (last_split xs n e len c.in-Some.ensures.lookup ∙ ap (λ l. l ++ e ∷ []) rest) (ap (λ k. k + 1) (sym c.others.ensures.count) ∙ c.if-others-self.false)

pub returns : goal.returns
returns c v m h =
    let xs = c.self.inside.entries.items in
    let e = c.in-Some.entry.now in
    let n = c.self.inside.entries.len - 1 in
    let len : n + 1 ≡ length xs = omega (arith, c.self.inside.entries.ok.0, c.in-Some.ensures.variant.0 refl) in
    let least : c.len.result - 1 ≡ n = ap (λ k. k - 1) c.len.ensures in
    let rest : take n xs ≡ c.truncate.new.self.items = sym (c.truncate.ensures.items ∙ ap (λ k. take k xs) least) in
    held_popped (invariant_of-self c) xs e (last_split xs n e len c.in-Some.ensures.lookup ∙ ap (λ l. l ++ e ∷ []) rest) v m (λ k. ap (λ w. held_by w k) c.self.view_is ∙ h k)
