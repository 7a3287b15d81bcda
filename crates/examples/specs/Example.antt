-- What the interfaces of the example mean, and what its service does.
use Rattle.std.specs.Prelude.{◌≡◌, ◌+◌, ◌==◌, ◌^◌, ◌-◌, ℕ, Bool, true, false, if◌then◌else◌, List, [], ◌∷◌, map, codes, Option, None, Ok}
use Rattle.wire_signature.specs.SingleType.{basic}
use Rattle.wire_signature.specs.declared.basic.BasicType.{BasicType}
use Rattle.wire_signature.specs.declared.basic.BasicType.TheVariants as basics
use Rattle.wire_tree.specs.Datum.{Datum, num, uint32, text, string}
use Rattle.wire_message.specs.Front.{MessageView}
use Rattle.wire_message.specs.Outgoing.{OutgoingMessageView, sent_by}
use Rattle.object_interface.specs.Meaning.{Meaning}
use Rattle.object_interface.specs.declared.answer.DispatchResult2.{DispatchResult2}
use Rattle.object_interface.specs.declared.answer.DispatchResult2.TheVariants.{NotFound, RequiresMut, Done}
use Rattle.object_interface.specs.declared.description.Description.{Description}
use Rattle.object_tree.specs.Objects.{Objects, is_same}
use Rattle.peer_objects.specs.Serving.{Slots}
use Rattle.peer_objects.specs.Served.{Serves}
use Rattle.peer_core.specs.{Names.{Issued}, History.{Past}, Refinement.{RouteView, Refines}, Issuing.{IssuesAll}}

-- a reply of one value, without signals
abbrev pub tells : Datum → DispatchResult2
tells value = Done (record { result = Ok (value ∷ []); before = []; after = []; notifier = None })

-- one method of that name, which takes nothing and gives one value of that type
abbrev pub one_method : List ℕ → BasicType → Description
one_method name type = record {
  methods = record { name = name; inputs = []; outputs = record { name = None; ty = basic type } ∷ [] } ∷ [];
  signals = [];
  properties = [];
}

-- an interface without properties and without methods
abbrev pub bare : List ℕ → Description → Meaning
bare name description = record {
  title = name;
  gets = λ s p r. r ≡ None;
  gets_all = λ s ps. ps ≡ [];
  sets = λ s p v r t. (t ≡ s) × (r ≡ NotFound);
  calls = λ s m n r. r ≡ NotFound;
  calls_mut = λ s m n r t. (t ≡ s) × (r ≡ NotFound);
  describes = λ s d. d ≡ description;
}

-- ---- the counter

-- the count behind this one: it stays at the greatest number of 32 bits
abbrev pub next : ℕ → ℕ
next count = if count == 2 ^ 32 - 1 then count else count + 1

-- the method that counts
abbrev pub is_next : List ℕ → Bool
is_next member = is_same member (codes "Next")

-- Its method `Next` counts, and tells the count. It has no other method.
pub data Counts (state : List ℕ) (member : List ℕ) (r : DispatchResult2) (later : List ℕ) : Type 0 where
  Next : (count : ℕ) → is_next member ≡ true → state ≡ count ∷ [] → later ≡ next count ∷ [] → r ≡ tells (num uint32 (next count)) → Counts state member r later
  HasNone : is_next member ≡ false → later ≡ state → r ≡ NotFound → Counts state member r later

abbrev pub counter : Meaning
counter = record (bare (codes "org.example.Counter") (one_method (codes "Next") basics.Uint32)) {
  calls = λ s m n r. r ≡ (if is_next n then RequiresMut else NotFound);
  calls_mut = λ s m n r t. Counts s n r t;
}

-- ---- the greeting

-- the method that greets
abbrev pub is_hello : List ℕ → Bool
is_hello member = is_same member (codes "Hello")

-- Its method `Hello` tells a text. It has no other method, and nothing of it changes.
abbrev pub greeting : Meaning
greeting = record (bare (codes "org.example.Greeting") (one_method (codes "Hello") basics.String)) {
  calls = λ s m n r. r ≡ (if is_hello n then tells (text string (codes "hello")) else NotFound);
}

-- ---- the service

-- All of these messages were put in the outbox, in order and nothing else, and that is told of each: an error that is among them has no sender.
abbrev pub Puts : RouteView → RouteView → List OutgoingMessageView → List Issued → Type 0
Puts old new messages told = (p : Past) → Refines old p → IssuesAll (λ (all : List Issued). all) old new (map (sent_by old.name true) messages) p (Ok told)

-- A message was taken in by objects whose interfaces mean that: they come to an answer that they mean, and what was put, which is told, is
-- this answer.
pub record Answered {B : Type 0} (meaning : B → Meaning) (state : B → List ℕ) (old new : Objects × Slots B) (before after : RouteView) (m : MessageView) (told : List Issued) : Type 0 where
  pub list : List OutgoingMessageView
  pub notifier : Option ℕ
  pub served : Serves meaning state None old new m list notifier
  pub put : Puts before after list told
