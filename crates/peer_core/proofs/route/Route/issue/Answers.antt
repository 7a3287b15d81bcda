-- The messages are put as a lane's.
use Rattle.std.proofs.Common.{List, Option, Result, Ok, Err, Vec, Global, ℕ, Bool, false, ◌≡◌, map, OnOk, OnErr}
use Rattle.peer_core.specs.{Names.{Error, Issued}, History.Past, Issuing.IssuesAll, Refinement.{RouteView, Refines}, Placing.{PutsAll, IsMore}}
use Rattle.peer_calls.specs.Placing.{posts}
use Rattle.wire_message.specs.Outgoing.{OutgoingMessageView, sent_by}
use Rattle.peer_core.proofs.Issues.{left_posts, issued_all, refused_all}
use Rattle.peer_core.proofs.route.Route.issue.Goals as goal

abbrev items : Vec Issued Global → List Issued
items v = v.items

issues : (old new : RouteView) (name : Option (List ℕ)) (served : Bool) (ps : List OutgoingMessageView) (h : Past) (r : Result (Vec Issued Global) Error) → Refines old h → OnOk r (IsMore old new) → OnErr r (new ≡ old)
    → PutsAll items new (posts false name served ps) h r → IssuesAll items old new (map (sent_by name served) ps) h r
issues old new name served ps h (Ok issued) left more same x = issued_all items old new name served ps h issued left more x
issues old new name served ps h (Err error) left more same x = refused_all items old new name served ps h error same x

pub returns : goal.returns
returns c = record {
  issues = λ h left.
      issues c.args.self.now c.put.new.self c.args.self.now.name c.args.served c.args.list.items h c.put.result left c.put.ensures.more c.put.ensures.same (c.put.ensures.puts h (left_posts c.args.self.now h left));
}
