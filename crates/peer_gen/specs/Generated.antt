-- A large script of a direct peer: blocks of method calls. The returns to a block's calls come in the opposite order, and
-- one signal follows them (D-Bus Specification, "Types of messages").
use Rattle.std.specs.Prelude.{ℕ, ◌+◌, ◌-◌, ◌*◌, min, false, List, [], ◌∷◌, ◌++◌, map, flat_map, replicate, codes, None}
use Rattle.std.specs.List.{range_with_len}
use Rattle.std.specs.Int.{div_ceil, to_le_bytes, w32}
use Rattle.peer_words.specs.declared.words.Words.{Words}
use Rattle.peer_words.specs.declared.words.Words.TheVariants as words
use Rattle.peer_words.specs.declared.words.CallFlags.{CallFlags}
use Rattle.peer_words.specs.declared.words.OutgoingKind.TheVariants as outgoing
use Rattle.peer_words.specs.declared.words.CallOp.TheVariants as calls
use Rattle.peer_words.specs.declared.words.StreamOp.TheVariants as ops
use Rattle.peer_words.specs.declared.words.Command.{Command}
use Rattle.peer_script.specs.Script.{Script, Given, Gave}
use Rattle.peer_script.specs.declared.kind.PeerKind.TheVariants as kinds
use Rattle.peer_gen.specs.declared.block.Block.{Block}

-- ---- blocks

-- The block after `before` others of a script of `count` calls. Blocks are numbered from 1 on, calls from 0 on. A block has
-- seven calls; the last may have fewer.
abbrev pub block_after : (count before : ℕ) → Block
block_after count before = record { number = before + 1; first = 7 * before; calls = min 7 (count - 7 * before) }

-- the first n blocks, in order
abbrev pub first_blocks : (count n : ℕ) → List Block
first_blocks count n = map (block_after count) (range_with_len 0 n)

-- all blocks of a script of `count` calls
abbrev pub blocks : ℕ → List Block
blocks count = first_blocks count (div_ceil count 7)

-- ---- commands

-- a command of lane 0
abbrev pub command : Words → Command
command words = record { lane = 0; words = words }

abbrev pub no_flags : CallFlags
no_flags = record {
  no_reply_expected = false;
  no_auto_start = false;
  allow_interactive_auth = false;
  big = false;
  descriptor = false;
}

-- `call - / - do - -`: a method call without a destination, an interface, flags or a body
abbrev pub call : Words
call = words.Send (record {
  kind = outgoing.Call;
  destination = None;
  path = codes "/";
  interface = None;
  member = codes "do";
  flags = no_flags;
  body = None;
})

-- `poll C`
abbrev pub poll : ℕ → Words
poll number = words.OfCall number calls.Poll

-- `take S`
abbrev pub take : ℕ → Words
take stream = words.OfStream stream ops.Take

-- `open - R`
abbrev pub open_rule : List ℕ → Words
open_rule rule = words.Open None rule

-- The first commands open three streams: 0 of all messages, 1 of the signals, 2 of the method returns.
abbrev pub opening : List Command
opening =
    command words.Stream
    ∷ command (open_rule (codes "type='signal'"))
    ∷ command (open_rule (codes "type='method_return'"))
    ∷ []

-- The commands of a block: its calls; a read for each return and one for the signal; a poll of each call, in the order of
-- the calls; a take of each item of the block, of stream 0 first.
abbrev pub block_commands : Block → List Command
block_commands b =
    replicate b.calls (command call)
    ++ replicate (b.calls + 1) (command words.Read)
    ++ map (λ index. command (poll (b.first + index))) (range_with_len 0 b.calls)
    ++ replicate (b.calls + 1) (command (take 0))
    ++ command (take 1) ∷ []
    ++ replicate b.calls (command (take 2))

-- The last commands read once more, which finds the end of the source, and take from each stream once more.
abbrev pub closing : List Command
closing = command words.Read ∷ command (take 0) ∷ command (take 1) ∷ command (take 2) ∷ []

-- ---- the source

-- The method return to the call with this serial: in little order, without a body, with the serial 1. Its one header field
-- is REPLY_SERIAL (D-Bus Specification, "Message Format").
abbrev pub return_to : ℕ → List ℕ
return_to serial =
    (108 ∷ 2 ∷ 0 ∷ 1 ∷ 0 ∷ 0 ∷ 0 ∷ 0 ∷ 1 ∷ 0 ∷ 0 ∷ 0 ∷ 8 ∷ 0 ∷ 0 ∷ 0 ∷ 5 ∷ 1 ∷ 117 ∷ 0 ∷ []) ++ to_le_bytes w32 serial

-- the signal with this serial: in little order, without a body and without a header field
abbrev pub signal_with : ℕ → List ℕ
signal_with serial = (108 ∷ 4 ∷ 0 ∷ 1 ∷ 0 ∷ 0 ∷ 0 ∷ 0 ∷ []) ++ to_le_bytes w32 serial ++ 0 ∷ 0 ∷ 0 ∷ 0 ∷ []

-- The source of a block, one piece for each message: the returns to its calls, the greatest serial first, and the signal
-- whose serial is the block's number. The first call of a script has the serial 1.
abbrev pub block_source : Block → List Given
block_source b =
    map (λ index. Gave (return_to (b.first + b.calls - index))) (range_with_len 0 b.calls)
    ++ Gave (signal_with b.number) ∷ []

-- ---- the script

-- the script of `count` calls: of a direct peer without a name, whose source and sink don't fail
abbrev pub generated : ℕ → Script
generated count = record {
  kind = kinds.Direct None;
  queue = None;
  machine = None;
  fds = false;
  outfault = None;
  given = flat_map block_source (blocks count);
  commands = opening ++ flat_map block_commands (blocks count) ++ closing;
}
