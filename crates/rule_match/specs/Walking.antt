-- A walk over arguments, from the first on, which stops and goes on (D-Bus Specification, "Message Format").
use Rattle.std.specs.Prelude.{◌≡◌, ℕ, ◌+◌, ◌<◌, ◌≤◌, ◌^◌, List, ◌++◌, IfSome, is_some, length, option_map}
use Rattle.wire_number.specs.declared.endian.Endian.{Endian}
use Rattle.wire_number.specs.Reading.{Cursor}
use Rattle.wire_number.specs.ReaderView.{cursor_of}
use Rattle.wire_signature.specs.SingleType.{SingleType, single_types_of, types_text, IsSignature, SignatureText}
use Rattle.wire_tree.specs.Datum.{Datum}
use Rattle.wire_encoding.specs.Reading.{value_at, fields_at}
use Rattle.rule_match.specs.declared.walk.Walk.{Walk}
use Rattle.rule_match.specs.Accepting.{arguments_in}
use Rattle.rule_match.specs.Found.{kept_at, text_at}
use Rattle.rule_match.specs.Sources.{arguments_from}

-- These values are passed, and the types in front of a text with them: the arguments are these and what is read from
-- the cursor on.
pub record HasPassed (order : Endian) (signature body types : List ℕ) (c : Cursor) (passed : List Datum) : Type 0 where
  pub left : List SingleType
  pub valid : IsSignature left
  pub named : types ≡ types_text (single_types_of left)
  pub whole : arguments_in order signature body ≡ option_map (λ x. passed ++ x.0) (fields_at (value_at 64 order) (single_types_of left) c)

-- A walk stands behind these arguments, and has kept the texts of those that a rule can speak of.
pub record IsBehind (w : Walk) (passed : List Datum) : Type 0 where
  pub has_passed : HasPassed w.source.order w.source.signature.now w.source.body.now w.types.now (cursor_of w.reader) passed
  pub count : w.index ≡ length passed
  pub texts : (k : ℕ) → k < 64 → k < w.index → kept_at w.found.texts k ≡ text_at passed k

-- A walk over the arguments of its source. Where a signature names their types, it stands behind some of them. What it
-- knows of all of them is so.
pub record IsWalk (w : Walk) : Type 0 where
  pub behind : (types : List SingleType) → SignatureText types w.source.signature.now → (passed : List Datum) × IsBehind w passed
  pub fits : w.index + length w.types.now < 2 ^ 64
  pub known : IfSome w.readable (λ readable. readable ≡ is_some (arguments_from w.source))

-- No argument is left, and the index is none of those that were passed.
pub record HasEnded (w : Walk) (index : ℕ) : Type 0 where
  pub ended : length w.types.now ≡ 0
  pub beyond : w.index ≤ index
