-- What adding an interface gives, and what removing one does (D-Bus Specification, "Interfaces").
use Rattle.std.specs.Prelude.{◌≡◌, ◌≢◌, ℕ, List, [], ◌∷◌, ◌++◌, length, slice_set, Bool, true, false, Option, None, Some, MatchOption, Result, Ok, Err}
use Rattle.std.specs.Global.{Vec}
use Rattle.wire_message.specs.Outgoing.{OutgoingMessageView}
use Rattle.wire_message.specs.declared.error.Error.{Error}
use Rattle.wire_message.specs.declared.error.Error.TheVariants as errors
use Rattle.object_interface.specs.Meaning.{Meaning}
use Rattle.object_tree.specs.Objects.{Objects, slot_at, is_taken, added, removed, is_gone_without, gone_manager, manager_of}
use Rattle.peer_objects.specs.Serving.{Slots, IsKeptAt, emptied}
use Rattle.peer_objects.specs.Notifying.{Notified}
use Rattle.peer_objects.specs.Announcing.{AnnouncesAdded, announces_removed}
use Rattle.peer_objects.specs.declared.server.Adding.{Adding}
use Rattle.peer_objects.specs.declared.server.Adding.TheVariants.{Added, Exists}
use Rattle.peer_objects.specs.declared.server.Removed.{Removed}

-- what contracts see of a service's objects: the tree, the slots, and whether the replies of answers with these numbers were put
abbrev pub ServerView : Type 0 → Type 0
ServerView B = Objects × Slots B × Notified

-- An interface was put in: in a slot that was never used before, with each path that is missing on the way; or, exactly where its name is
-- taken there, it is handed back, and nothing is changed.
abbrev pub PutsIn : {B : Type 0} → (B → List ℕ) → ServerView B → ServerView B → List ℕ → B → Option B → Type 0
PutsIn title old new path object None =
    (is_taken old.0 path (title object) ≡ false) × (new ≡ (added old.0 path (title object) (length old.1), old.1 ++ Some object ∷ [], old.2))
PutsIn title old new path object (Some b) = (is_taken old.0 path (title object) ≡ true) × (b ≡ object) × (new ≡ old)

module _ {B : Type 0} (meaning : B → Meaning) (state : B → List ℕ) where
  -- What adding an interface gives. It is added, in a slot that was never used before, with each path that is missing on the way, and that
  -- is to be announced; or, exactly where its name is taken there, it is handed back, and nothing is changed.
  abbrev pub Places : ServerView B → ServerView B → List ℕ → B → Adding B → Type 0
  Places old new path object (Added list) = PutsIn (λ b. (meaning b).title) old new path object None × AnnouncesAdded meaning state old.0 path object old.1 list.items
  Places old new path object (Exists b) = PutsIn (λ b. (meaning b).title) old new path object (Some b)

-- An interface was taken out, and handed back; its object is gone with it, or not, and what goes with the object is dropped.
pub record TakesOut {B : Type 0} (old new : ServerView B) (path name : List ℕ) (destroyed : Bool) (b : B) : Type 0 where
  pub slot : ℕ
  pub there : slot_at old.0 path name ≡ Some slot
  pub kept : IsKeptAt old.1 slot b
  pub told : destroyed ≡ is_gone_without old.0 path name
  pub left : new ≡ (removed old.0 path name, emptied (gone_manager old.0 path name) (slice_set old.1 slot None), old.2)

-- An interface of that name is taken out where it is there; else nothing is changed.
abbrev pub TakesOne : {B : Type 0} → ServerView B → ServerView B → List ℕ → List ℕ → Option (Bool × B) → Type 0
TakesOne old new path name None = (slot_at old.0 path name ≡ None) × (new ≡ old)
TakesOne old new path name (Some r) = TakesOut old new path name r.0 r.1

-- Why it isn't: InterfaceNotFound, exactly where it isn't there; without memory only where it is there, and a manager tells of the object.
abbrev pub IsUnremoved : Objects → List ℕ → List ℕ → Error → Type 0
IsUnremoved objects path name error = MatchOption (slot_at objects path name) (error ≡ errors.InterfaceNotFound) (λ slot. (error ≡ errors.Memory) × (manager_of objects path ≢ None))

-- What removing an interface gives: it, and what is to be announced; or why it isn't removed, and nothing is changed.
abbrev pub Removes : {B : Type 0} → ServerView B → ServerView B → List ℕ → List ℕ → Result (Removed B) Error → Type 0
Removes old new path name (Ok r) = TakesOut old new path name r.destroyed r.object × (r.announced.items ≡ announces_removed old.0 path name)
Removes old new path name (Err error) = IsUnremoved old.0 path name error × (new ≡ old)

-- What removing an interface gives that isn't handed back: the same.
abbrev pub RemovesOne : {B : Type 0} → ServerView B → ServerView B → List ℕ → List ℕ → Result (Bool × Vec OutgoingMessageView) Error → Type 0
RemovesOne old new path name (Ok r) = ((b : _) × TakesOut old new path name r.0 b) × (r.1.items ≡ announces_removed old.0 path name)
RemovesOne old new path name (Err error) = IsUnremoved old.0 path name error × (new ≡ old)
