-- What polls that name a position give.
use Rattle.std.specs.Prelude.{Result, Ok}
use Rattle.wire_message.specs.{Front.MessageView, declared.error.Error.Error, declared.polled.Polled.Polled}

-- What a poll or a take gives where it names a position, which isn't looked at: that there is none before it, in place
-- of nothing yet; else the same.
abbrev pub by_position : Result (Polled MessageView) Error → Result (Polled MessageView) Error
by_position (Ok Polled.NotYet) = Ok Polled.NoneBefore
by_position r = r
