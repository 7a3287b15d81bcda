use Rattle.peer_route.proofs.Served.{all_or_none}
use Rattle.peer_route.proofs.laws.objects_put_all_or_none.Goals as goal

pub returns : goal.returns
returns c = all_or_none
