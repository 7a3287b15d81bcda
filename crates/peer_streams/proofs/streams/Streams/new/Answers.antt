-- No stream was made.
use Rattle.std.proofs.Common.{refl}
use Rattle.peer_streams.proofs.Views.{views_nil}
use Rattle.peer_streams.proofs.streams.Streams.new.Goals as goal

pub returns : goal.returns
returns c = views_nil _ refl
