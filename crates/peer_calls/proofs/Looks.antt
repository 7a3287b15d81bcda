-- What is asked of the call that stands at a place, if one does.
use Rattle.std.specs.Prelude.{Bool, false, if◌then◌else◌, List, Option, option_map, unwrap_or, Result, Ok, Err}
use Rattle.peer_calls.specs.{Names.{MessageView, Error, Polled}, History.Call, Calls.{reply, is_nobodys, polled_by}}

abbrev pub polled_at : List MessageView → Option Error → Option Call → Result (Polled MessageView) Error
polled_at ms closed o = unwrap_or (option_map (λ c. if is_nobodys c then Err Error.UnknownHandle else polled_by (reply ms c) closed) o) (Err Error.UnknownHandle)

abbrev pub dropped_at : Option Call → Result (Unit {0}) Error
dropped_at o = unwrap_or (option_map (λ c. if is_nobodys c then Err Error.UnknownHandle else Ok tt) o) (Err Error.UnknownHandle)
