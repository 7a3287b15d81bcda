-- What is asked of the stream that stands at a place, if one does.
use Rattle.std.specs.Prelude.{Bool, false, if◌then◌else◌, List, Option, option_map, unwrap_or, Result, Ok, Err}
use Rattle.peer_streams.specs.{Names.{MessageView, Error, Polled}, History.{Stream}, Streams.{held, runs, take_by}}

abbrev pub runs_at : List MessageView → Option Stream → Bool
runs_at ms o = unwrap_or (option_map (runs ms) o) false

abbrev pub take_at : List MessageView → Option Error → Option Stream → Result (Polled MessageView) Error
take_at ms closed o = unwrap_or (option_map (λ s. if runs ms s then Ok (take_by (held ms s) closed s.closing_delivered) else Err Error.UnknownHandle) o) (Err Error.UnknownHandle)
