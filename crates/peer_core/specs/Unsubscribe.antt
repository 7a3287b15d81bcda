-- What closing streams asks of the bus, and gives (D-Bus Specification, "Message Bus Messages",
-- `org.freedesktop.DBus.RemoveMatch`).
use Rattle.std.specs.Prelude.{ℕ, ◌≡◌, ◌<◌, codes, length, true, false, List, ◌++◌, map, Option, None, Result, Ok, Err}
use Rattle.peer_core.specs.{Names.{Error, Rule, Spent}, History.{Past, after_all}, Asked.{are_open, close_waits, leaving, gone_events}, Refinement.{RouteView, Refines}, BusCall.{match_call, tellings_of, last_of}, Issuing.IssuesBy}
use Rattle.wire_message.specs.Outgoing.{OutgoingMessageView}

-- What making the RemoveMatch of each of these rules gives, behind messages that there are.
abbrev pub MakesRemovals : {A : Type 0} → (A → List OutgoingMessageView) → List OutgoingMessageView → List Rule → Result A Error → Type 0
MakesRemovals messages before rules (Ok x) = messages x ≡ before ++ map (match_call (codes "RemoveMatch") None) rules
MakesRemovals messages before rules (Err Error.Memory) = 0 < length rules
MakesRemovals messages before rules (Err error) = ⊥

-- What telling the bus of these rules gives, after the streams were closed, which `h` has already: the last serial, if there are any.
abbrev pub TellsBus : RouteView → Past → List Rule → Result (Option ℕ) Error → Type 0
TellsBus new h rules result = IssuesBy (λ last serials. last ≡ last_of serials) (Refines new h) (Refines new) (tellings_of h rules) h result

-- The streams may be closed now: they are open, are two, and need not wait.
abbrev pub MayClose : Past → ℕ → Option ℕ → Type 0
MayClose h k j = (are_open h k j ≡ true) × (close_waits h k j ≡ false)

-- What closing the stream with this number gives, or of two in one step. Where they are closed the bus is told of each rule whose
-- last streams they were; also where it can't be told they are closed.
abbrev pub ClosesStreams : RouteView → RouteView → ℕ → Option ℕ → Past → Spent → Type 0
ClosesStreams old new k j h (Spent.Gone last) = MayClose h k j × TellsBus new (after_all (gone_events k j) h) (leaving h k j) (Ok last)
ClosesStreams old new k j h (Spent.Back s t Error.Busy) = (are_open h k j ≡ true) × (close_waits h k j ≡ true) × (s ≡ k) × (t ≡ j) × (new ≡ old)
ClosesStreams old new k j h (Spent.Back s t Error.Memory) =
    MayClose h k j × (0 < length (leaving h k j)) × (s ≡ k) × (t ≡ j) × (new ≡ old)
ClosesStreams old new k j h (Spent.Back s t error) = ⊥
ClosesStreams old new k j h (Spent.Over Error.UnknownHandle) = (are_open h k j ≡ false) × (new ≡ old)
ClosesStreams old new k j h (Spent.Over Error.Memory) = ⊥
ClosesStreams old new k j h (Spent.Over error) = MayClose h k j × TellsBus new (after_all (gone_events k j) h) (leaving h k j) (Err error)
