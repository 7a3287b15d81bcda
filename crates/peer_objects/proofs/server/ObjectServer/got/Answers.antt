use Rattle.std.proofs.Common.{◌≡◌, List, [], ◌∷◌, arith}
use Rattle.wire_tree.specs.Datum.{text, string}
use Rattle.object_standard.specs.Properties.{NamesInterface, of_property}
use Rattle.peer_objects.specs.Standard.{path_in}
use Rattle.peer_objects.proofs.Taken.{got}
use Rattle.peer_objects.proofs.Sayable.{got_law}
use Rattle.peer_objects.proofs.server.ObjectServer.got.Goals as goal

pub returns-clause-told : goal.returns-clause-told
returns-clause-told g c =
    let named : NamesInterface c.args.message.now of_property c.in-Some.interface (text string c.in-Some.property ∷ []) = rw c.in-Some.is at c.in_ok-interface.ensures in
    got g.B.Interface.meaning g.B.Interface.state c.get_at.result c.args.self.now.0 c.args.message.now c.args.self.now.1 c.in-Some.interface c.in-Some.property _ _ _ _ named c.path_of.ensures c.as_ref.ensures c.as_str.ensures.value c.in_ok-target.ensures.found c.get_at.ensures

pub returns-clause-law : goal.returns-clause-law
returns-clause-law g c =
    let named : NamesInterface c.args.message.now of_property c.in-Some.interface (text string c.in-Some.property ∷ []) = rw c.in-Some.is at c.in_ok-interface.ensures in
    got_law g.B.Interface.meaning g.B.Interface.state c.get_at.result c.in_ok-target.target c.args.message.now c.args.self.now.1 c.in-Some.interface c.in-Some.property _ c.in_ok-target.ensures.sayable named c.as_str.ensures.value c.get_at.ensures
