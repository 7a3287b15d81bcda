-- How the messages of one command are put in a peer's outbox, and what is taken back where one is refused.
use Rattle.std.specs.{Prelude.{⊤, ◌≡◌, List, length, Result}}
use Rattle.peer_calls.specs.{Issuing.Posting, Placing.{IsCounted, IsPlaced, AreMade, Grows}}
use Rattle.peer_core.specs.{Names.{Error, Issued}, declared.issuing.Mark.Mark, History.{Past, calls_of}, Issuing.{IssuesBy, issued_each}, Refinement.RouteView}

-- What the past leaves of the core, but for its streams.
pub record RefinesPosts (v : RouteView) (p : Past) : Type 0 where
  pub counted : IsCounted v.calls v.last (calls_of p)
  pub placed : IsPlaced v.outbox v.places (calls_of p)
  pub name : v.name ≡ p.name
  pub writer : v.writer ≡ p.outbox.writer

-- What putting messages gives, whatever streams there are.
abbrev pub PutsAll : {A : Type 0} → (A → List Issued) → RouteView → List Posting → Past → Result A Error → Type 0
PutsAll items new ds p result = IssuesBy (λ x serials. items x ≡ issued_each p ds serials) ⊤ (RefinesPosts new) ds p result

-- Calls were made, messages placed and serials drawn, and nothing else changed.
pub record IsMore (old new : RouteView) : Type 0 where
  pub calls : AreMade old.calls new.calls
  pub outbox : Grows old.outbox new.outbox
  pub places : Grows old.places new.places
  pub same : new ≡ record old { calls = new.calls; last = new.last; outbox = new.outbox; places = new.places }

-- how much is there
abbrev pub mark_of : RouteView → Mark
mark_of v = record { calls = length v.calls.slots; serials = v.last; outbox = length v.outbox; places = length v.places }
