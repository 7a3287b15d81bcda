-- Each key is asked.
use Rattle.std.proofs.{Common.{◌≡◌, ◌||◌, not, sym, ◌∙◌, rules, tests}, lemmas.Iterator.Search.any_from_yields_List, lemmas.Iterator.Consumers.YieldsList-from_rest}
use Rattle.std.specs.{List.list_any, BTreeMap.keys}
use Rattle.wire_message.specs.Replying.{is_serial}
use Rattle.peer_lists.proofs.Views.{any_stream, other_stream, no_other_stream}
use Rattle.peer_lists.proofs.shared_list.SharedList.has_other.Goals as goal

asked : (c : goal.After-any) → c.any.result ≡ list_any (λ k. not (is_serial c.args.one k || is_serial c.args.before k)) (keys c.self.inside.cursors)
asked c = any_from_yields_List (λ k. not (is_serial c.args.one k || is_serial c.args.before k)) c.any.new.self _ c.any.result c.any.ensures.ran (YieldsList-from_rest (keys c.self.inside.cursors) c.keys.ensures.rest) (λ x b q k. search (rules, tests))

pub returns-clause-any : goal.returns-clause-any
returns-clause-any c = asked c ∙ any_stream c.self.inside.passed c.self.inside.entries.items c.self.inside.cursors c.args.self.now c.self.view_is (λ k. not (is_serial c.args.one k || is_serial c.args.before k))

pub returns-clause-other : goal.returns-clause-other
returns-clause-other c h = other_stream c.self.inside.passed c.self.inside.entries.items c.self.inside.cursors c.args.self.now c.self.view_is (λ k. is_serial c.args.one k || is_serial c.args.before k) (sym (asked c) ∙ h)

pub returns-clause-no_other : goal.returns-clause-no_other
returns-clause-no_other c h = no_other_stream c.self.inside.passed c.self.inside.entries.items c.self.inside.cursors c.args.self.now c.self.view_is (λ k. is_serial c.args.one k || is_serial c.args.before k) (sym (asked c) ∙ h)
