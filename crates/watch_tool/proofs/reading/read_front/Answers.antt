use Rattle.std.proofs.Common.{arith, ◌∙◌}
use Rattle.watch_tool.proofs.Finding.{read_finds, read_grows, keeps_none, told_by}
use Rattle.watch_tool.proofs.reading.read_front.Goals as goal

pub returns-clause-finds : goal.returns-clause-finds
returns-clause-finds g c =
    read_finds c.receive_message.result c.args.count c.receive_message.new.kept.items (g.S.Source.view c.args.half.now.source) (g.S.Source.view c.receive_message.new.self.source) c.requires.few
    (told_by c.receive_message.result c.args.count c.reserve.new.self.items (g.S.Source.view c.args.half.now.source) (c.reserve.ensures.items ∙ c.requires.empty)
    c.receive_message.ensures.told)
    (rw (c.reserve.ensures.items ∙ c.requires.empty) at (c.receive_message.ensures.takes (omega arith)))

pub returns-clause-empty : goal.returns-clause-empty
returns-clause-empty g c = λ never.
    keeps_none c.receive_message.result c.receive_message.new.kept.items (g.S.Source.view c.args.half.now.source) (g.S.Source.view c.receive_message.new.self.source) never
    (rw (c.reserve.ensures.items ∙ c.requires.empty) at (c.receive_message.ensures.takes (omega arith)))

pub returns-clause-grows : goal.returns-clause-grows
returns-clause-grows g c =
    read_grows c.receive_message.result c.receive_message.new.kept.items (g.S.Source.view c.args.half.now.source) (g.S.Source.view c.receive_message.new.self.source)
    (rw (c.reserve.ensures.items ∙ c.requires.empty) at (c.receive_message.ensures.takes (omega arith))) c.receive_message.ensures.error
