-- The replies to the method calls that came for the objects (D-Bus Specification, "Message Protocol", "Types of messages").
use Rattle.std.specs.{Prelude.{ℕ, ⊤, ◌≡◌, ◌⊎◌, Bool, true, false, List, [], ◌∷◌, filter, Option, Some, None}, List.AllByRecursion}
use Rattle.wire_message.specs.declared.kind.MessageType.{MessageType}
use Rattle.wire_message.specs.declared.kind.MessageType.TheVariants as types
use Rattle.wire_message.specs.Outgoing.{OutgoingMessageView, expects_reply}
use Rattle.object_interface.specs.Meaning.{Meaning}
use Rattle.object_tree.specs.Objects.{Objects}
use Rattle.peer_objects.specs.Dispatching.{Target, Nothing, Standard, Slot, target}
use Rattle.peer_objects.specs.Standard.{SetsIn}
use Rattle.peer_objects.specs.Served.{Serves}
use Rattle.peer_service.specs.Service.{BoxView, ServiceView}
use Rattle.peer_calls.specs.Issuing.{Posting, outgoings, some_long}
use Rattle.peer_core.specs.{History.Past, Issuing.drawn}
use Rattle.peer_words.specs.declared.words.ObjectOp.TheVariants as ops
use Rattle.peer_route.specs.{Replay.{Setting, Replay}, Plan.next_call, Entries.{object_postings, replay}}
use Rattle.peer_turns.specs.Objects.{Handed, AreServed}
use Rattle.peer_turns.specs.Names.{MessageView, Error, IoKind, Writer, Words, Answer, Entry}

-- it is a method return, or an error
abbrev pub is_reply : MessageType → Bool
is_reply types.MethodReturn = true
is_reply types.Error = true
is_reply other = false

-- the replies among these
abbrev pub replies_among : List MessageView → List MessageView
replies_among ms = filter (λ m. is_reply m.kind) ms

-- The message replies to that call: it bears its serial, goes to its sender, and lies in its byte order.
pub record RepliesTo (call m : MessageView) : Type 0 where
  pub serial : m.reply_serial ≡ Some call.serial
  pub destination : m.destination ≡ call.sender
  pub order : m.order ≡ call.order

-- There is just one reply among them, to that call, where its sender waits for one; else there is none.
abbrev pub HaveReply : Bool → MessageView → List MessageView → Type 0
HaveReply true call ms = (m : MessageView) × (replies_among ms ≡ m ∷ []) × RepliesTo call m
HaveReply false call ms = replies_among ms ≡ []

-- Why messages weren't put, by the past before them: a write failed, or the peer was closed; or no serial was free for one of them, or one
-- passes a limit.
pub data IsUnput (h : Past) (ds : List Posting) (answer : Answer) : Type 0 where
  Failed : h.outbox.writer ≡ Writer.Failed → answer ≡ Answer.SendFailed (Error.InputOutput IoKind.WriteFault) → IsUnput h ds answer
  Shut : h.outbox.writer ≡ Writer.Closed → answer ≡ Answer.SendFailed (Error.InputOutput IoKind.Closed) → IsUnput h ds answer
  Spent : drawn h ds ≡ None → answer ≡ Answer.Refused Error.SerialsSpent → IsUnput h ds answer
  Long : (serials : List ℕ) → drawn h ds ≡ Some serials → some_long (outgoings ds) serials ≡ true → answer ≡ Answer.Refused Error.ExcessData → IsUnput h ds answer

module _ (meanings : ℕ → Meaning) where
  -- The call was answered, as these interfaces mean, with messages of which there is a reply where its sender waits for one, and none where it
  -- doesn't; or none of these messages was put, for one of the reasons above.
  pub record IsAnswered (h : Past) (m : MessageView) (e : Entry) (old new : ServiceView) : Type 0 where
    pub messages : List OutgoingMessageView
    pub notifier : Option ℕ
    pub served : Serves (λ (b : BoxView). meanings b.number) (λ (b : BoxView). b.state) old.machine (old.objects, old.slots) (new.objects, new.slots) m messages notifier
    pub put : HaveReply (expects_reply m.kind m.flags) m e.put ⊎ ((e.put ≡ []) × IsUnput h (object_postings true h.name messages) e.answer)

  -- so it is of the call that the entry took, if it took one
  abbrev pub IsReplied : Replay → Entry → ServiceView → ServiceView → Type 0
  IsReplied t e old new = (m : MessageView) → e.words ≡ Words.Objects ops.Serve → next_call t.past t.server ≡ Some m → IsAnswered t.past m e old new

-- and of each entry, newest first, of what the entries before it left
abbrev pub AreReplied : Setting → Handed → List Entry → Type 0
AreReplied setting boxes [] = ⊤
AreReplied setting boxes (e ∷ es) =
    ((old new : ServiceView) × AreServed setting boxes es old × AreServed setting boxes (e ∷ es) new × IsReplied boxes.meanings (replay setting es) e old new)
    × AreReplied setting boxes es

-- The call reaches the interface that is kept in the slot: it calls it, or sets one of its properties.
abbrev pub ReachesBy : Objects → Target → MessageView → ℕ → Type 0
ReachesBy objects (Nothing error) m k = ⊥
ReachesBy objects (Standard interface) m k = SetsIn objects interface m k
ReachesBy objects (Slot slot) m k = slot ≡ k

abbrev pub ReachesSlot : Objects → MessageView → ℕ → Type 0
ReachesSlot objects m k = ReachesBy objects (target objects m) m k
