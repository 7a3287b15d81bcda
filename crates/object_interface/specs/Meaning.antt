-- What an interface means (D-Bus Specification, "Interfaces", "Standard Interfaces").
use Rattle.std.specs.Prelude.{◌≡◌, ◌↔◌, ℕ, List, Option, None, Some, Result}
use Rattle.wire_tree.specs.Datum.{Datum}
use Rattle.wire_message.specs.Front.{MessageView}
use Rattle.wire_message.specs.declared.fdo.Error.{Error}
use Rattle.object_interface.specs.declared.answer.Done.{Done}
use Rattle.object_interface.specs.declared.answer.DispatchResult2.{DispatchResult2}
use Rattle.object_interface.specs.declared.answer.DispatchResult2.TheVariants.{RequiresMut, Done as IsDone}
use Rattle.object_interface.specs.declared.description.Description.{Description}

-- The meaning of an interface: its name and, for each call, how the state before, the arguments, the answer and, where the call may
-- change it, the state behind it stand to each other. A state is a list of numbers.
pub record Meaning : Type 1 where
  -- the name
  pub title : List ℕ
  -- state, property, answer: its value, an error, or that there is none
  pub gets : List ℕ → List ℕ → Option (Result Datum Error) → Type 0
  -- state, properties with their values
  pub gets_all : List ℕ → List (List ℕ × Datum) → Type 0
  -- state, property, value, answer, state behind it
  pub sets : List ℕ → List ℕ → Datum → DispatchResult2 → List ℕ → Type 0
  -- state, message, member, answer of the call that may change nothing: that it asks for the one that may is such an answer
  pub calls : List ℕ → MessageView → List ℕ → DispatchResult2 → Type 0
  -- state, message, member, answer of the call that may change it, state behind it
  pub calls_mut : List ℕ → MessageView → List ℕ → DispatchResult2 → List ℕ → Type 0
  -- state, what introspection tells
  pub describes : List ℕ → Description → Type 0

-- The interface of that name that answers anything: the meaning of one of which nothing is proved but that it keeps its name.
abbrev pub named_only : List ℕ → Meaning
named_only title = record {
  title = title;
  gets = λ s p r. Unit {0};
  gets_all = λ s ps. Unit {0};
  sets = λ s p v r t. Unit {0};
  calls = λ s m n r. Unit {0};
  calls_mut = λ s m n r t. Unit {0};
  describes = λ s d. Unit {0};
}

-- Two meanings are the same: one name, and each call means the same.
pub record Same (a b : Meaning) : Type 0 where
  pub title : a.title ≡ b.title
  pub gets : (s p : List ℕ) (r : Option (Result Datum Error)) → a.gets s p r ↔ b.gets s p r
  pub gets_all : (s : List ℕ) (ps : List (List ℕ × Datum)) → a.gets_all s ps ↔ b.gets_all s ps
  pub sets : (s p : List ℕ) (v : Datum) (r : DispatchResult2) (t : List ℕ) → a.sets s p v r t ↔ b.sets s p v r t
  pub calls : (s : List ℕ) (m : MessageView) (n : List ℕ) (r : DispatchResult2) → a.calls s m n r ↔ b.calls s m n r
  pub calls_mut : (s : List ℕ) (m : MessageView) (n : List ℕ) (r : DispatchResult2) (t : List ℕ) → a.calls_mut s m n r t ↔ b.calls_mut s m n r t
  pub describes : (s : List ℕ) (d : Description) → a.describes s d ↔ b.describes s d

-- The meaning settles what is answered: an interface that is asked the same in the same state answers the same, and is left the same.
pub record IsFunction (m : Meaning) : Type 0 where
  pub gets : (s p : List ℕ) (r q : Option (Result Datum Error)) → m.gets s p r → m.gets s p q → r ≡ q
  pub gets_all : (s : List ℕ) (ps qs : List (List ℕ × Datum)) → m.gets_all s ps → m.gets_all s qs → ps ≡ qs
  pub sets : (s p : List ℕ) (v : Datum) (r q : DispatchResult2) (t u : List ℕ) → m.sets s p v r t → m.sets s p v q u → (r ≡ q) × (t ≡ u)
  pub calls : (s : List ℕ) (call : MessageView) (n : List ℕ) (r q : DispatchResult2) → m.calls s call n r → m.calls s call n q → r ≡ q
  pub calls_mut : (s : List ℕ) (call : MessageView) (n : List ℕ) (r q : DispatchResult2) (t u : List ℕ) → m.calls_mut s call n r t → m.calls_mut s call n q u → (r ≡ q) × (t ≡ u)
  pub describes : (s : List ℕ) (d e : Description) → m.describes s d → m.describes s e → d ≡ e

-- The answer to the setting of a property that may not change the interface: where it asks for the one that may, nothing is settled.
abbrev pub Settles : DispatchResult2 → Type 0 → Type 0
Settles RequiresMut P = Unit {0}
Settles answer P = P

-- what was done, where something was
abbrev pub done_of : DispatchResult2 → Option Done
done_of (IsDone done) = Some done
done_of other = None
