-- What is made of the words of a command: a message to be sent, or why none is.
use Rattle.std.specs.Prelude.{◌≡◌, ◌⊎◌, ◌&&◌, not, Bool, true, List, [], ◌∷◌, if◌then◌else◌, Some, None, Result, Ok, Err}
use Rattle.wire_message.specs.Outgoing.{OutgoingMessageView}
use Rattle.peer_words.specs.{Names.{Little, Big, Error, Datum, BuilderView, are_misplaced, CallFlags}, CallMessage.{PreparedSend, flags_number, words_refusal, prepared_of}}

-- What is made is what is asked to be sent, and a refusal is the one that is due. Want of memory tells nothing.
abbrev pub MakesOutgoing : Result OutgoingMessageView Error → PreparedSend → Type 0
MakesOutgoing (Ok outgoing) asked = asked ≡ Ok outgoing
MakesOutgoing (Err Error.Memory) asked = Unit {0}
MakesOutgoing (Err error) asked = asked ≡ Err error

-- it has no descriptors, or the sink takes them
abbrev pub IsCarried : Bool → OutgoingMessageView → Type 0
IsCarried takes outgoing = (outgoing.fds ≡ []) ⊎ (takes ≡ true)

-- The header of words of which each is in its grammar, before its letters are looked at; else why they are refused.
abbrev pub MakesBuilder : Result BuilderView Error → BuilderView → Type 0
MakesBuilder (Ok made) builder = (made ≡ record builder { order = Little; flags = 0 }) × (words_refusal builder ≡ None)
MakesBuilder (Err error) builder = words_refusal builder ≡ Some error

-- what is asked for once the words and the body are read
abbrev pub prepared_with : BuilderView → List Datum → CallFlags → Bool → PreparedSend
prepared_with builder values flags takes_fds =
    prepared_of None (Some values) (are_misplaced builder.kind (flags_number flags)) (flags.descriptor && not takes_fds)
    (record builder { order = if flags.big then Big else Little; flags = flags_number flags }) (if flags.descriptor then 0 ∷ [] else [])
