-- What a peer asks of the bus for its streams, and what opening a stream of a rule gives (D-Bus Specification, "Message Bus
-- Messages", `org.freedesktop.DBus.AddMatch` and `org.freedesktop.DBus.RemoveMatch`).
use Rattle.std.specs.Prelude.{ℕ, ◌≡◌, Bool, true, false, List, [], ◌∷◌, length, Option, None, IsSome, Result, Ok, Err}
use Rattle.peer_core.specs.{Names.{Error, Rule, Opens, Opened, OpenState, IoKind}, Handles.OpeningView, History.{Made, Past, after}, Asked.{match_call_pending, asks_bus}, BusCall.asking_of, Issuing.IssuesBy, Refinement.{RouteView, Refines}}
use Rattle.peer_streams.specs.History.{Ruled}

-- what is told of a stream for which AddMatch was put: its number among the streams, and the message's place and serial
abbrev pub IsOpening : Past → Opens → List ℕ → Type 0
IsOpening h (Opens.Opening o) serials = (serials ≡ o.serial ∷ []) × (o.stream ≡ length h.streams) × (o.index ≡ length h.outbox.put)
IsOpening h (Opens.Open stream) serials = ⊥

-- The bus has to be asked, by an AddMatch for whose return the stream waits; or the stream is open at once.
abbrev pub OpensBy : Bool → RouteView → RouteView → Rule → Option ℕ → Past → Result Opens Error → Type 0
OpensBy true old new rule asked h result = IssuesBy (IsOpening h) (new ≡ old) (Refines new) (asking_of h rule asked ∷ []) h result
OpensBy false old new rule asked h (Ok (Opens.Open stream)) = (stream ≡ length h.streams) × Refines new (after (Made (Ruled rule asked)) h)
OpensBy false old new rule asked h result = ⊥

-- What opening a stream of this rule gives: a closed peer opens none, and while an AddMatch or a RemoveMatch of the peer is on its
-- way it is busy. An error changes nothing.
abbrev pub OpensRule : RouteView → RouteView → Rule → Option ℕ → Past → Result Opens Error → Type 0
OpensRule old new rule asked h (Err (Error.InputOutput IoKind.Closed)) = IsSome h.closing × (new ≡ old)
OpensRule old new rule asked h (Err Error.Busy) = (h.closing ≡ None) × (match_call_pending h ≡ true) × (new ≡ old)
OpensRule old new rule asked h (Err Error.Memory) = new ≡ old
OpensRule old new rule asked h result = (h.closing ≡ None) × (match_call_pending h ≡ false) × OpensBy (asks_bus h rule) old new rule asked h result

-- what is shown of it: the stream, where it is open; the opening again; the error that denied it, or what closed the peer
abbrev pub IsShownAs : OpeningView → OpenState → Opened → Type 0
IsShownAs o OpenState.Unknown (Opened.Over error) = error ≡ Error.UnknownHandle
IsShownAs o OpenState.NotYet (Opened.NotYet same) = same ≡ o
IsShownAs o OpenState.Open (Opened.Open stream) = stream ≡ o.stream
IsShownAs o (OpenState.Refused m) (Opened.Refused n) = n ≡ m
IsShownAs o (OpenState.Over e) (Opened.Over error) = error ≡ e
IsShownAs o state shown = ⊥
