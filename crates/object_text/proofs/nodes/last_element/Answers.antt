use Rattle.object_text.proofs.Elements.{without_slash, behind_slash}
use Rattle.object_text.proofs.nodes.last_element.Goals as goal

pub returns-in-Some : goal.returns-in-Some
returns-in-Some c =
    let h = c.in-Some.ensures.cases in
    behind_slash c.args.path.now c.in-Some.element.now h.0 h.1 h.2.0 h.2.1 h.4 h.7

pub returns-in-None : goal.returns-in-None
returns-in-None c = without_slash c.args.path.now c.in-None.ensures.cases
