-- The numbers of those that wait stay.
use Rattle.std.proofs.{Common.{rules, ◌≡◌, ◌==◌, ◌∙◌, ap, true, eqb-true}, lemmas.Fn.filter_same, lemmas.Map.Views.any-filter_same}
use Rattle.std.specs.{Prelude.nat_eq, List.{list_any, filter}, HashMap.get}
use Rattle.peer_streams.specs.Keeping.{is_waiting}
use Rattle.peer_streams.proofs.arriving.forget_settled.Goals as goal

pub returns : goal.returns
returns c k waits there =
    let states = c.args.states.now in
    let kept : c.retain.new.self.items ≡ filter (λ n. is_waiting (get nat_eq states n)) c.args.waiting.now.items =
    filter_same _ _ _ (λ x b f' ran. search rules) _ _ c.retain.ensures.filtered in
    ap (list_any (λ n. n == k)) kept
    ∙ any-filter_same (λ n. n == k) (λ n. is_waiting (get nat_eq states n)) true (λ n e. ap (λ i. is_waiting (get nat_eq states i)) (eqb-true n k e) ∙ waits) c.args.waiting.now.items ∙ there
