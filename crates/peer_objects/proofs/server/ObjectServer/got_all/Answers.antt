use Rattle.std.proofs.Common.{◌≡◌, List, [], arith}
use Rattle.object_standard.specs.Properties.{NamesInterface, of_interface}
use Rattle.peer_objects.proofs.Taken.{got_all}
use Rattle.peer_objects.proofs.Sayable.{got_all_law}
use Rattle.peer_objects.proofs.server.ObjectServer.got_all.Goals as goal

pub returns-clause-told : goal.returns-clause-told
returns-clause-told g c =
    let named : NamesInterface c.args.message.now of_interface c.in-Some.interface [] = rw c.in-Some.is at c.in_ok-interface.ensures in
    got_all g.B.Interface.meaning g.B.Interface.state c.get_all_at.result c.args.self.now.0 c.args.message.now c.args.self.now.1 c.in-Some.interface _ _ _ named c.path_of.ensures c.as_ref.ensures c.in_ok-target.ensures.found c.get_all_at.ensures

pub returns-clause-law : goal.returns-clause-law
returns-clause-law g c =
    got_all_law g.B.Interface.meaning g.B.Interface.state c.get_all_at.result c.in_ok-target.target c.args.self.now.1 c.in_ok-target.ensures.sayable c.get_all_at.ensures
