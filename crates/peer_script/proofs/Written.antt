-- What the transcript's text is, and what was written where nothing was.
use Rattle.std.proofs.{Common.{ℕ, ◌<◌, List, ◌++◌, length, length-append, Option, Some, None, Err, refl, ap, arith}, KnownBytes.Appends-nil}
use Rattle.wire_framing.specs.declared.sink.Refusal.TheVariants as refusals
use Rattle.wire_framing.specs.{Views.SinkView, Sink.{RoomFalls, WritesAll}}
use Rattle.peer_words.specs.declared.answer.Entry.{Entry}
use Rattle.peer_script.specs.{declared.kind.PeerKind.PeerKind, Script.Script, Transcript.{peer_text, transcript_text}}
use Rattle.peer_script.specs.declared.kind.PeerKind.TheVariants as kinds

room_none : (room : Option (Option ℕ)) → RoomFalls room room 0
room_none None = tt
room_none (Some None) = refl
room_none (Some (Some k)) = (omega arith, ap (λ n. Some (Some n)) (omega arith))

pub nothing_written : (A : Type 0) (bytes : List ℕ) (sink : SinkView) → 0 < length bytes → WritesAll {A = A} (Err refusals.Memory) bytes sink sink
nothing_written A bytes sink h = (0, (record { proper = h; gone = Appends-nil sink.held }, room_none sink.room, refl))

some_peer : (kind : PeerKind) → 0 < length (peer_text kind)
unfolding peer_text
some_peer (kinds.Direct None) = omega arith
some_peer (kinds.Direct (Some name)) = omega arith
some_peer (kinds.Bus name) = omega arith

more : (text after : List ℕ) → 0 < length text → 0 < length (text ++ after)
more text after some = omega (arith, length-append text after, some)

pub some_text : (s : Script) (entries : List Entry) (sent : List ℕ) → 0 < length (transcript_text s entries sent)
unfolding transcript_text
some_text s entries sent = more _ _ (more _ _ (more _ _ (more _ _ (more _ _ (more _ _ (more _ _ (more _ _ (more _ _ (some_peer s.kind)))))))))
