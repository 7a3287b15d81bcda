-- What a script's run gives: a history that the script decides, and its transcript.
use Rattle.std.specs.{Prelude.{ℕ, ◌≡◌, Bool, true, false, List, [], ◌∷◌, ◌++◌, map, reverse, Option, Some, None, Ok}, List.AllByRecursion}
use Rattle.peer_run.specs.Names.{Error, Rule, rule_in_bytes, Entry, Given, Gave, Broke, Script, ScriptText, is_bus, name_of, IsWithin, transcript_text, command_of, Words, StreamOp, Answer}
use Rattle.peer_route.specs.{Replay.Setting, Entries.{replay, Legal, IsAtOnce}, Environment.{ReadsAgree, ClosesAgree, IsSentBytes, WritesAgree, IsCutAt}, Laws.{IsPoll, IsFinal, IsReplyAt, IsFirstReply, IsCutOff, IsUnknown}, StreamLaws.{Yields, YieldsAsked, holds, rule_at, closes_stream, stays_open, says_denied, IsNoStream, is_take, IsEnded, IsLast, HoldsTooMany, IsPutOf, all_written}}
use Rattle.peer_service.specs.Service.{ServiceView}
use Rattle.peer_turns.specs.{Objects.{Handed, on_machine, AreServed}, Replies.AreReplied}

-- the bytes that a script's source gives before its first failing read, or before its end
abbrev pub source_bytes : List Given → List ℕ
source_bytes (Gave piece ∷ given) = piece ++ source_bytes given
source_bytes other = []

-- whether a read fails there
abbrev pub source_breaks : List Given → Bool
source_breaks [] = false
source_breaks (Gave piece ∷ given) = source_breaks given
source_breaks (Broke ∷ given) = true

-- what a script gives its peer at its start
abbrev pub setting_of : Script → Setting
setting_of s = record { bus = is_bus s.kind; name = name_of s.kind; takes_fds = s.fds; queue = s.queue }

-- what is so at each entry of a history, newest first, by the entries after it and those before it
abbrev pub Everywhere : List Entry → (List Entry → Entry → List Entry → Type 0) → Type 0
Everywhere h Such = (newer : List Entry) (e : Entry) (older : List Entry) → h ≡ newer ++ e ∷ older → Such newer e older

-- All that is said of a run's history, newest first, and of the bytes sent.
pub record IsWhole (s : Script) (h : List Entry) (sent : List ℕ) : Type 0 where
  -- Reads take the messages that stand in the source's bytes, in order, however these are cut; a busy read and a read of a closed peer
  -- take nothing.
  pub reads : ReadsAgree (setting_of s) (Some (source_breaks s.given)) (source_bytes s.given) h
  -- A polled call is answered at most once: by the first later reply that bears its serial, else by the error that closed the peer.
  pub first : Everywhere h (λ newer e older. (number q : ℕ) → IsPoll number e.words → IsReplyAt q e.answer → IsFirstReply (replay (setting_of s) older) e.lane number q e.answer)
  pub cut_off : Everywhere h (λ newer e older. (number : ℕ) (error : Error) → IsPoll number e.words → e.answer ≡ Answer.Closed error → IsCutOff (replay (setting_of s) older) e.lane number error)
  pub once : Everywhere h (λ newer e older. (number : ℕ) → IsPoll number e.words → IsFinal e.answer → AllByRecursion (IsUnknown e.lane number) newer)
  -- Each stream gives exactly the messages that were read since it was made and that its rule accepts, in order
  pub yields : Everywhere h (λ newer e older. (number : ℕ) → e.words ≡ Words.Stream → e.answer ≡ Answer.Streaming number → Yields (setting_of s) newer e older number None [])
  pub rules : Everywhere h (λ newer e older. (number : ℕ) (asked : Option ℕ) (text : List ℕ) (rule : Rule) → e.words ≡ Words.Open asked text → rule_in_bytes text ≡ Ok rule
      → e.answer ≡ Answer.Streaming number → Yields (setting_of s) newer e older number (Some rule) [])
  -- one for which the bus was asked, those behind the return to its AddMatch; a clone, before them what its original held
  pub asked : Everywhere h (λ newer e older. (number serial : ℕ) (asked : Option ℕ) (text : List ℕ) (rule : Rule) → e.words ≡ Words.Open asked text → rule_in_bytes text ≡ Ok rule
      → e.answer ≡ Answer.Opening number serial → YieldsAsked (setting_of s) newer e older number serial rule)
  pub clones : Everywhere h (λ newer e older. (number original : ℕ) → e.words ≡ Words.OfStream original StreamOp.Clone → e.answer ≡ Answer.Streaming number
      → Yields (setting_of s) newer e older number (rule_at (replay (setting_of s) older) e.lane original) (holds (replay (setting_of s) older) e.lane original))
  -- It ends once; one that was closed, or denied, is unknown from then on; and where an open one holds more than it may, reads wait.
  pub ends : Everywhere h (λ newer e older. (number : ℕ) → is_take number e.words ≡ true → IsLast e.answer → AllByRecursion (IsEnded e.lane number) newer)
  pub closes : Everywhere h (λ newer e older. (number : ℕ) → closes_stream number e.words ≡ true → stays_open e.answer ≡ false → AllByRecursion (IsNoStream e.lane number) newer)
  pub denied : Everywhere h (λ newer e older. (number : ℕ) → e.words ≡ Words.OfStream number StreamOp.Opened → says_denied e.answer ≡ true → AllByRecursion (IsNoStream e.lane number) newer)
  pub waits : Everywhere h (λ newer e older. e.words ≡ Words.Read → HoldsTooMany (replay (setting_of s) older).past → e.answer ≡ Answer.Busy)
  -- Where no write failed, all that was put was written, and the bytes sent are those of the messages, in order. Where one failed, it is that of
  -- the first message that wasn't written: the bytes sent are those of the messages before it, and of it a proper prefix.
  pub bytes : let o = (replay (setting_of s) h).past.outbox in IsSentBytes o.failed o.written o.put sent
  -- Where the sink has room for so many bytes, at each entry just those messages were written that end within them, and after a failed
  -- write the bytes sent are just so many; no closing of the peer fails; and what the answers say was sent is what was written.
  pub room : WritesAgree (setting_of s) (Some s.outfault) h
  pub cut : IsCutAt (Some s.outfault) (replay (setting_of s) h).past.outbox.failed sent
  pub shuts : ClosesAgree (Some s.outfault) h
  pub put_is : let o = (replay (setting_of s) h).past.outbox in IsPutOf o.failed o.written o.put (all_written h)

-- The entries, oldest first, are a history of the script: each entry is what its command means after the entries before it, and writes what
-- it puts; what is asked of objects is answered by the interfaces that were handed in, on the script's machine; each call that was taken is
-- answered once; the commands are the script's, each once and in order; and all that is said of a run holds of it and of the bytes sent.
pub record IsHistory (boxes : Handed) (s : Script) (entries : List Entry) (sent : List ℕ) : Type 0 where
  pub objects : (now : ServiceView) × AreServed (setting_of s) (on_machine s.machine boxes) (reverse entries) now
  pub replies : AreReplied (setting_of s) (on_machine s.machine boxes) (reverse entries)
  pub legal : Legal (setting_of s) (reverse entries)
  pub once : AllByRecursion IsAtOnce (reverse entries)
  pub each : map command_of entries ≡ s.commands
  pub whole : IsWhole s (reverse entries) sent

-- The text is the transcript of a history of the script.
pub record Tells (boxes : Handed) (s : Script) (text : List ℕ) : Type 0 where
  pub entries : List Entry
  pub sent : List ℕ
  pub history : IsHistory boxes s entries sent
  pub is : text ≡ transcript_text s entries sent

-- That of the script that the input is, which is within the limits.
pub record IsTranscript (boxes : Handed) (input text : List ℕ) : Type 0 where
  pub script : Script
  pub within : IsWithin input
  pub read : ScriptText input script
  pub told : Tells boxes script text
