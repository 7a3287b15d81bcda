-- A message of the list, as it is kept.
use Rattle.std.specs.{Prelude.{ℕ, ◌≡◌, List}, List.All}
use Rattle.wire_message.specs.Front.{MessageView}

-- a message, in so many copies beside one
pub record Kept : Type 0 where
  pub message : MessageView
  pub others : ℕ

-- these are all of the message
abbrev pub AreCopies : MessageView → List MessageView → Type 0
AreCopies message copies = All (λ copy. copy ≡ message) copies
