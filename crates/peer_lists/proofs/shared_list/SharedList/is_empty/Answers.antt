-- The first key is a stream.
use Rattle.std.proofs.{Common.{sym, ◌∙◌}, lemmas.Bool.false≢true}
use Rattle.peer_lists.proofs.Views.{some_stream}
use Rattle.peer_lists.proofs.shared_list.SharedList.is_empty.Goals as goal

pub returns-clause-used : goal.returns-clause-used
returns-clause-used c used =
    some_stream c.self.inside.passed c.self.inside.entries.items c.self.inside.cursors c.args.self.now c.self.view_is (λ none. false≢true (sym used ∙ c.is_empty.ensures.1 none))
