use Rattle.peer_route.proofs.{Sent.{put, sent}, Spoken.serial}
use Rattle.peer_route.proofs.laws.put_is_what_was_sent.Goals as goal

pub returns : goal.returns
returns c = record { put = put; serial = serial; sent = sent }
