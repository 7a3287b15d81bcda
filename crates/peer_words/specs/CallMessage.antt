-- What the commands that send a message ask for (D-Bus Specification, "Types of messages").
use Rattle.wire_message.specs.Outgoing.{OutgoingMessageView}
use Rattle.std.specs.Prelude.{Result, ℕ, ◌+◌, ◌&&◌, Bool, true, false, not, if◌then◌else◌, List, [], ◌∷◌, Option, Some, None, unwrap_or, Ok, Err}
use Rattle.peer_words.specs.{Names.{Little, Big, is_bus_name, is_object_path, is_interface_name, is_member_name, is_error_name, Datum, no_fields, MessageView, head_of, BuilderView, are_misplaced, reply_builder, error_builder, MessageType, Error, Outgoing, OutgoingKind, VariantError}, declared.words.CallFlags.CallFlags, BodyWord.body_values}
use Rattle.wire_names.specs.declared.error.NamesError.{NamesError}

-- ---- flags

-- The flags as a number: NoReplyExpected is 0x1, NoAutoStart is 0x2, AllowInteractiveAuth is 0x4 (D-Bus Specification,
-- "Message Format").
unfoldable pub flags_number : CallFlags → ℕ
flags_number flags =
    (if flags.no_reply_expected then 1 else 0) + (if flags.no_auto_start then 2 else 0) + (if flags.allow_interactive_auth then 4 else 0)

-- what a command asks to be sent, or why it is refused
abbrev pub PreparedSend : Type 0
PreparedSend = Result OutgoingMessageView Error

-- ---- refusals

-- the text is there, and outside its grammar
abbrev pub is_outside : (List ℕ → Bool) → Option (List ℕ) → Bool
is_outside grammar None = false
is_outside grammar (Some text) = not (grammar text)

-- the first of a message's words that is outside its grammar: its destination, its path, its interface, its member
unfoldable pub words_refusal : BuilderView → Option Error
words_refusal builder =
    if is_outside is_bus_name builder.fields.destination then Some (Error.Names NamesError.Bus)
    else if is_outside is_object_path builder.fields.path then Some (Error.Names NamesError.Path)
    else if is_outside is_interface_name builder.fields.interface then Some (Error.Names NamesError.Interface)
    else if is_outside is_member_name builder.fields.member then Some (Error.Names NamesError.Member)
    else None

-- why an error's name is refused, if it is: it is outside its grammar (D-Bus Specification, "Valid Names", "Error names")
unfoldable pub name_refusal : List ℕ → Option Error
name_refusal text = if is_error_name text then None else Some (Error.Names NamesError.Error)

-- the values of a body's word; without a word there are none
abbrev pub values_in : Option (List ℕ) → Option (List Datum)
values_in None = Some []
values_in (Some word) = body_values word

-- What is sent, or why nothing is, the first case that holds: a name or a path is outside its grammar; the body's word is none;
-- the flags can't stand on a message of this type; there are descriptors, and the sink takes none.
abbrev pub prepared_of : Option Error → Option (List Datum) → Bool → Bool → BuilderView → List ℕ → PreparedSend
prepared_of (Some error) values misplaced unsupported builder fds = Err error
prepared_of None None misplaced unsupported builder fds = Err (Error.Variant VariantError.Malformed)
prepared_of None (Some values) true unsupported builder fds = Err Error.InvalidField
prepared_of None (Some values) false true builder fds = Err Error.Unsupported
prepared_of None (Some values) false false builder fds = Ok (record { builder = builder; values = values; fds = fds })

-- ---- calls and signals

-- The message of a member at a path: in big order exactly where it is asked for, with those flags, and with the destination
-- that is given. Its sender is the peer of this name, where the peer has one.
abbrev pub member_builder : MessageType → Option (List ℕ) → Outgoing → Option (List ℕ) → BuilderView
member_builder kind name words interface = record {
  kind = kind;
  order = if words.flags.big then Big else Little;
  flags = flags_number words.flags;
  serial = None;
  fields = record no_fields {
    path = Some words.path;
    interface = interface;
    member = Some words.member;
    destination = words.destination;
    sender = name;
  };
}

-- where the sink takes descriptors, or takes none: the one number 0 stands for a descriptor that is asked for
abbrev pub prepared_member : Bool → Outgoing → BuilderView → PreparedSend
prepared_member takes_fds words builder =
    prepared_of (words_refusal builder) (values_in words.body) (are_misplaced builder.kind builder.flags)
    (words.flags.descriptor && not takes_fds) builder (if words.flags.descriptor then 0 ∷ [] else [])

-- A signal must have an interface: none is refused as the empty text, which is no interface.
abbrev pub outgoing_builder : OutgoingKind → Option (List ℕ) → Outgoing → BuilderView
outgoing_builder OutgoingKind.Call name words = member_builder MessageType.MethodCall name words words.interface
outgoing_builder OutgoingKind.Signal name words = member_builder MessageType.Signal name words (Some (unwrap_or words.interface []))

-- A method call or a signal, where the sink takes descriptors or takes none.
abbrev pub prepared_outgoing : Option (List ℕ) → Bool → Outgoing → PreparedSend
prepared_outgoing name takes_fds words = prepared_member takes_fds words (outgoing_builder words.kind name words)

-- ---- replies

-- sent by the peer of that name
abbrev pub sent_from : Option (List ℕ) → BuilderView → BuilderView
sent_from name builder = record builder { fields = record builder.fields { sender = name } }

-- The method return to a message, of whatever type, by the peer of this name: in the message's byte order, with its serial as the
-- reply serial, and its sender as the destination. Without a message there is nothing to answer.
abbrev pub prepared_reply : Option (List ℕ) → Option MessageView → Option (List ℕ) → PreparedSend
prepared_reply name None word = Err Error.UnknownHandle
prepared_reply name (Some m) word =
    prepared_of None (values_in word) false false (sent_from name (reply_builder MessageType.MethodReturn (head_of m))) []

-- The error named by this text to a message, of whatever type, by the peer of that name: its byte order, reply serial and
-- destination are those of a method return to the message. Without a message there is nothing to answer.
abbrev pub prepared_error : Option (List ℕ) → Option MessageView → List ℕ → Option (List ℕ) → PreparedSend
prepared_error name None text word = Err Error.UnknownHandle
prepared_error name (Some m) text word =
    prepared_of (name_refusal text) (values_in word) false false (sent_from name (error_builder (head_of m) text)) []
