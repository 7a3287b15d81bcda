use Rattle.std.proofs.Common.{◌≡◌, refl, List, [], ◌∷◌, arith}
use Rattle.wire_tree.specs.Datum.{text, string, variant}
use Rattle.object_standard.specs.Properties.{NamesInterface, of_setting}
use Rattle.peer_objects.proofs.Taken.{set}
use Rattle.peer_objects.proofs.Sayable.{set_law}
use Rattle.peer_objects.proofs.server.ObjectServer.set_by.Goals as goal

pub returns-clause-set : goal.returns-clause-set
returns-clause-set g c =
    let named : NamesInterface c.args.message.now of_setting c.in-Some.interface (text string c.in-Some.property ∷ variant c.in-Some.value ∷ []) = rw c.in-Some.is at c.in_ok-interface.ensures in
    set g.B.Interface.meaning g.B.Interface.state c.set_at.result c.args.self.now.0 c.args.message.now c.args.self.now.1 c.set_at.new.self.1 c.in-Some.interface c.in-Some.property c.in-Some.value _ _ _ _ _ named c.path_of.ensures c.as_ref.ensures c.as_str.ensures.value refl c.in_ok-target.ensures.found c.set_at.ensures.set

pub returns-clause-law : goal.returns-clause-law
returns-clause-law g c =
    let named : NamesInterface c.args.message.now of_setting c.in-Some.interface (text string c.in-Some.property ∷ variant c.in-Some.value ∷ []) = rw c.in-Some.is at c.in_ok-interface.ensures in
    set_law g.B.Interface.meaning g.B.Interface.state c.set_at.result c.in_ok-target.target c.args.message.now c.args.self.now.1 c.set_at.new.self.1 c.in-Some.interface c.in-Some.property c.in-Some.value _ _ c.in_ok-target.ensures.sayable named c.as_str.ensures.value c.set_at.ensures.set
