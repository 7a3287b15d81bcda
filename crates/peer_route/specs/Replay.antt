-- Whose the calls and the streams of a peer are: each lane numbers its own; and what its entries leave of it.
use Rattle.std.specs.Prelude.{ℕ, zero, suc, ◌+◌, ◌==◌, Bool, true, false, if◌then◌else◌, List, [], ◌∷◌, ◌++◌, Option, Some, None}
use Rattle.peer_route.specs.Names.{MessageView}
use Rattle.peer_core.specs.History.{Event, Made, Past}
use Rattle.peer_calls.specs.{History.{OfLane, AddMatch, Purpose}, Issuing.Posting}

-- What a peer is given at its start: whether it stands on a message bus; its unique name, if it has one; whether its sink takes file
-- descriptors; and how many messages a stream may hold, if that is set.
pub record Setting : Type 0 where
  pub bus : Bool
  pub name : Option (List ℕ)
  pub takes_fds : Bool
  pub queue : Option ℕ

-- For each call, or each stream, by its number among all, the lane that it belongs to; none where its message failed, or where the
-- call is the peer's own.
abbrev pub Owners : Type 0
Owners = List (Option ℕ)

-- Which call, or stream, a lane's number names: the `number`-th, from 0 on, that belongs to the lane; `at` is the first
-- one's number among all.
abbrev pub handle_index : ℕ → ℕ → ℕ → Owners → Option ℕ
handle_index at lane number [] = None
handle_index at lane number (None ∷ owners) = handle_index (at + 1) lane number owners
handle_index at lane zero (Some l ∷ owners) = if l == lane then Some at else handle_index (at + 1) lane zero owners
handle_index at lane (suc number) (Some l ∷ owners) = if l == lane then handle_index (at + 1) lane number owners else handle_index (at + 1) lane (suc number) owners

-- how many calls, or streams, belong to the lane
abbrev pub count : ℕ → Owners → ℕ
count lane [] = 0
count lane (None ∷ owners) = count lane owners
count lane (Some l ∷ owners) = if l == lane then count lane owners + 1 else count lane owners

-- What entries leave: the past; whose the calls and the streams are; which stream the object server's is, once it was made, which takes
-- the method calls that come for the peer's objects; and what the peer was given at its start. Its name is what the past says.
pub record Replay : Type 0 where
  pub past : Past
  pub calls : Owners
  pub streams : Owners
  pub server : Option ℕ
  pub setting : Setting

-- ---- what an entry made

-- what is made for a lane is the lane's, but nobody's where the write of a message of that command failed
abbrev pub owner : ℕ → Bool → Option ℕ
owner lane failed = if failed then None else Some lane

-- whose the call is that a message makes, if it makes one
abbrev pub call_owner : ℕ → Bool → Purpose → Owners
call_owner lane failed (OfLane true) = owner lane failed ∷ []
call_owner lane failed (OfLane false) = []
call_owner lane failed own = None ∷ []

-- whose the calls are that these messages make: a lane's call is the lane's, one of the peer's own is nobody's
abbrev pub new_owners : ℕ → Bool → List Posting → List MessageView → Owners
new_owners lane failed (d ∷ ds) (m ∷ ms) = call_owner lane failed d.purpose ++ new_owners lane failed ds ms
new_owners lane failed ds ms = []

-- whose the stream is for which a message asks the bus, if it asks for one
abbrev pub stream_owner : ℕ → Bool → Purpose → Owners
stream_owner lane failed (AddMatch rule asked) = owner lane failed ∷ []
stream_owner lane failed other = []

-- whose the streams are for which these messages ask the bus
abbrev pub asked_owners : ℕ → Bool → List Posting → List MessageView → Owners
asked_owners lane failed (d ∷ ds) (m ∷ ms) = stream_owner lane failed d.purpose ++ asked_owners lane failed ds ms
asked_owners lane failed ds ms = []

-- the streams that these events make are this lane's, or nobody's
abbrev pub made_owners : Option ℕ → List Event → Owners
made_owners maker [] = []
made_owners maker (Made making ∷ es) = maker ∷ made_owners maker es
made_owners maker (e ∷ es) = made_owners maker es
