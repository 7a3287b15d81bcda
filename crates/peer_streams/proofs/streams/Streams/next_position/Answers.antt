-- By the message that it holds first.
use Rattle.std.proofs.Common.{◌≡◌, ◌∙◌, ap, Some}
use Rattle.std.specs.{Option.{option_map}}
use Rattle.peer_streams.specs.{Names.{MessageView}}
use Rattle.peer_streams.proofs.{StreamsMade.{next_positions}}
use Rattle.peer_streams.proofs.streams.Streams.next_position.Goals as goal

pub returns-in_err-message : goal.returns-in_err-message
returns-in_err-message c p left =
    c.from_residual.ensures ∙ ap (option_map (λ (m : MessageView). m.position)) (rw c.in_err-message.was at (c.next_message.ensures p left)) ∙ next_positions p c.args.stream

pub returns : goal.returns
returns c p left =
    ap (λ n. Some n) c.recv_position.ensures ∙ ap (option_map (λ (m : MessageView). m.position)) (rw c.in_ok-message.was at (c.next_message.ensures p left)) ∙ next_positions p c.args.stream
