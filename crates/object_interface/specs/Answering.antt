-- The messages of an answer (D-Bus Specification, "Message Protocol", "Types of messages").
use Rattle.std.specs.Prelude.{ℕ, if◌then◌else◌, List, [], ◌∷◌, ◌++◌, map, codes, Option, None, unwrap_or, option_map, Result, Ok, Err}
use Rattle.wire_tree.specs.Datum.{Datum}
use Rattle.wire_names.specs.BusName.{text_of_owned}
use Rattle.wire_message.specs.Front.{MessageView}
use Rattle.wire_message.specs.Primary.{head_of}
use Rattle.wire_message.specs.BuilderView.{BuilderView}
use Rattle.wire_message.specs.NewBuilders.{signal_builder, reply_builder, error_builder}
use Rattle.wire_message.specs.Outgoing.{OutgoingMessageView, expects_reply}
use Rattle.wire_message.specs.FdoErrors.{fdo_name, reply_text, one_string}
use Rattle.wire_message.specs.declared.kind.MessageType.TheVariants as types
use Rattle.wire_message.specs.declared.fdo.Error.{Error}
use Rattle.object_interface.specs.Errors.{unknown_method}
use Rattle.object_interface.specs.declared.answer.Signal.{Signal}
use Rattle.object_interface.specs.declared.answer.DispatchResult2.{DispatchResult2}
use Rattle.object_interface.specs.declared.answer.DispatchResult2.TheVariants.{Done}

-- What replies to a call: its return with the values, or an error, whose only value is what it says. It goes to the caller, in the
-- call's byte order, with the call's serial as the reply serial.
abbrev pub reply : MessageView → Result (List Datum) Error → OutgoingMessageView
reply call (Ok values) = record { builder = reply_builder types.MethodReturn (head_of call); values = values; fds = [] }
reply call (Err error) = record { builder = error_builder (head_of call) (fdo_name error); values = one_string (reply_text error); fds = [] }

-- what replies to a call that expects a reply, else nothing
abbrev pub reply_if : MessageView → Result (List Datum) Error → List OutgoingMessageView
reply_if call result = if expects_reply call.kind call.flags then reply call result ∷ [] else []

-- that error alone
abbrev pub refusal : MessageView → Error → List OutgoingMessageView
refusal call error = reply_if call (Err error)

-- to that connection, where one is named
abbrev pub sent_to : Option (List ℕ) → BuilderView → BuilderView
sent_to destination builder = record builder { fields = record builder.fields { destination = destination } }

-- a signal of the object that the call names
abbrev pub signal_of : MessageView → Signal → OutgoingMessageView
signal_of call s = record {
  builder = sent_to (option_map text_of_owned s.destination) (signal_builder (unwrap_or call.path (codes "/")) s.interface s.member);
  values = s.body;
  fds = [];
}

-- What goes out where an interface answered so: its signals before the reply, the reply where one is expected, its signals after it; and
-- only the error, where it has no such method.
abbrev pub answers : MessageView → List ℕ → DispatchResult2 → List OutgoingMessageView
answers call member (Done d) = map (signal_of call) d.before ++ (reply_if call d.result ++ map (signal_of call) d.after)
answers call member other = refusal call (unknown_method member)

-- the number by which the caller asks whether the reply was put
abbrev pub notifier_of : DispatchResult2 → Option ℕ
notifier_of (Done d) = d.notifier
notifier_of other = None
