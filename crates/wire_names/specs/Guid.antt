-- GUIDs (D-Bus Specification, "UUIDs"): 32 hexadecimal digits, without hyphens.
use Rattle.std.specs.Prelude.{ℕ, Bool, ◌==◌, ◌&&◌, List, length, IsTrue}
use Rattle.std.specs.Char.{is_ascii_hexdigit}
use Rattle.std.specs.List.{list_all}
use Rattle.rand_core.specs.Stream.{Stream, fill_bytes}
use Rattle.uuid.specs.Parts.{v4_of_fill}
use Rattle.uuid.specs.Text.{simple_text, lower}

-- 32 digits; `a` to `f` may be upper or lower case
unfoldable pub is_guid : List ℕ → Bool
is_guid text = length text == 32 && list_all is_ascii_hexdigit text

-- The text is a GUID.
abbrev pub IsGuid : List ℕ → Type 0
IsGuid text = IsTrue (is_guid text)

-- the GUID that a generator makes: the version 4 UUID of the next 16 bytes of its stream, in 32 lower-case digits
abbrev pub generated_guid : Stream → List ℕ
generated_guid stream = simple_text lower (v4_of_fill (fill_bytes 16 stream)).0

-- the stream that remains after a GUID was generated
abbrev pub after_guid : Stream → Stream
after_guid stream = (v4_of_fill (fill_bytes 16 stream)).1
