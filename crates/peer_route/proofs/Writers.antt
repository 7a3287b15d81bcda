-- The first cause stays: the error that closed the peer, and what became of its writer; and where nothing did, no write failed.
use Rattle.std.proofs.Common.{◌≡◌, ◌≢◌, refl, ◌∙◌, ap, false, List, Some}
use Rattle.peer_route.specs.{Names.{Error, Writer, Entry}, Replay.Setting, Entries.replay}
use Rattle.peer_core.specs.History.{Event, PeerClosed, WriteFailed, Past, after, after_all}
use Rattle.wire_message.specs.Plain.{first_of}
use Rattle.peer_calls.specs.History.{worse, shuts}
use Rattle.peer_route.proofs.Kept.{every, always}

worse_fine : (w cause : Writer) → worse w cause ≡ Writer.Fine → (w ≡ Writer.Fine) × (cause ≡ Writer.Fine)
worse_fine Writer.Fine cause e = (refl, e)
worse_fine Writer.Failed cause e = cc
worse_fine Writer.Closed cause e = cc

-- while it writes, no write failed
pub fine_unfailed : (setting : Setting) (es : List Entry) → (replay setting es).past.outbox.writer ≡ Writer.Fine → (replay setting es).past.outbox.failed ≡ false
fine_unfailed setting es = always (λ h. h.outbox.writer ≡ Writer.Fine → h.outbox.failed ≡ false) (λ e. refl) keeps setting es
  where
    keeps : (e : Event) (h : Past) → (h.outbox.writer ≡ Writer.Fine → h.outbox.failed ≡ false) → (after e h).outbox.writer ≡ Writer.Fine → (after e h).outbox.failed ≡ false
    keeps WriteFailed h so e = let p = (worse_fine h.outbox.writer Writer.Failed e).1 in cc
    keeps (PeerClosed error) h so e = so (worse_fine h.outbox.writer (shuts error) e).0
    keeps event h so e = so e

pub worse_stays : (w cause : Writer) → w ≢ Writer.Fine → worse w cause ≡ w
worse_stays Writer.Fine cause ne = absurd (ne refl)
worse_stays Writer.Failed cause ne = refl
worse_stays Writer.Closed cause ne = refl

pub writer_keeps : (w : Writer) → w ≢ Writer.Fine → (e : Event) (h : Past) → h.outbox.writer ≡ w → (after e h).outbox.writer ≡ w
writer_keeps w ne WriteFailed h is = ap (λ x. worse x Writer.Failed) is ∙ worse_stays w Writer.Failed ne
writer_keeps w ne (PeerClosed error) h is = ap (λ x. worse x (shuts error)) is ∙ worse_stays w (shuts error) ne
writer_keeps w ne e h is = is

pub writer_stays : (h : Past) (newer : List Event) → h.outbox.writer ≢ Writer.Fine → (after_all newer h).outbox.writer ≡ h.outbox.writer
writer_stays h newer ne = every (λ q. q.outbox.writer ≡ h.outbox.writer) (writer_keeps h.outbox.writer ne) newer h refl

pub closing_keeps : (error : Error) (e : Event) (h : Past) → h.closing ≡ Some error → (after e h).closing ≡ Some error
closing_keeps error (PeerClosed later) h so = ap (λ o. first_of o later) so
closing_keeps error e h so = so

pub closing_stays : (h : Past) (newer : List Event) (error : Error) → h.closing ≡ Some error → (after_all newer h).closing ≡ Some error
closing_stays h newer error is = every (λ q. q.closing ≡ Some error) (closing_keeps error) newer h is

-- closing a peer closes its writer, or finds it over before
pub shut_writer : (w : Writer) → worse w Writer.Closed ≢ Writer.Fine
shut_writer Writer.Fine e = cc
shut_writer Writer.Failed e = cc
shut_writer Writer.Closed e = cc
