-- One after the other has its copy.
use Rattle.std.proofs.{Common.{◌≡◌, ℕ, ◌+◌, ◌==◌, ◌||◌, inl, inr, sym, ◌∙◌, subst, arith, take, get_or}, lemmas.Bool.{cases_eq, or_cases, eqb-true}, lemmas.List.Folds.list_any_more}
use Rattle.std.specs.{Prelude.nat_eq, List.list_any, HashMap.get}
use Rattle.peer_streams.specs.Arriving.{IsReady}
use Rattle.peer_streams.proofs.arriving.prepare_each.Goals as goal

pub loop-stream-preserved : goal.loop-stream-preserved
loop-stream-preserved c =
    let xs = c.args.streams.now in
    let i = c.loop-stream.stream-index in
    let s = get_or xs i 0 in
    let m = c.args.message.now in
    let new = c.prepare.new.states in
    let more : (k : ℕ) → list_any (λ n. n == k) (take (i + 1) xs) ≡ (list_any (λ n. n == k) (take i xs) || (s == k)) = λ k. list_any_more (λ n. n == k) xs i 0 (omega arith) in (
      λ k. c.prepare.ensures.same k ∙ c.loop-stream.invariant.0 k,
      λ k there. elim (cases_eq s k) [
        | inl e ↦ subst (λ j. IsReady m (get nat_eq new j)) e c.in_ok-prepare.ensures.ready
        | inr ne ↦
            subst (IsReady m) (sym (c.prepare.ensures.others k ne))
            (c.loop-stream.invariant.1 k (elim (or_cases (list_any (λ n. n == k) (take i xs)) (s == k) (sym (more k) ∙ there)) [ inl before ↦ before | inr here ↦ absurd (ne (eqb-true s k here)) ]))
      ],
    )
