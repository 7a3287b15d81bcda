-- The text of a header field, borrowed or owned.
use Rattle.std.specs.Prelude.{ℕ, List}
use Rattle.wire_message.specs.declared.header_text.Source.{Source}
use Rattle.wire_message.specs.declared.header_text.Source.TheVariants as sources

-- its bytes, wherever it is
abbrev pub bytes_of : Source → List ℕ
bytes_of (sources.Borrowed text) = text.now
bytes_of (sources.Owned text) = text
