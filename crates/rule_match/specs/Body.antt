-- The arguments of a message: the values that a front of its body encodes by its signature (D-Bus Specification,
-- "Message Format"). Where no front does, there are none.
use Rattle.std.specs.Prelude.{◌≡◌, ℕ, List, ◌++◌, Some, slice_get}
use Rattle.wire_number.specs.declared.endian.Endian.{Endian}
use Rattle.wire_signature.specs.SingleType.{SingleType, SignatureText}
use Rattle.wire_tree.specs.Datum.{Datum}
use Rattle.wire_encoding.specs.Each.{EncodeEach}

-- A body, whose types a signature names, has these arguments.
pub record AreArguments (order : Endian) (signature body : List ℕ) (ds : List Datum) : Type 0 where
  pub types : List SingleType
  pub front : List ℕ
  pub rest : List ℕ
  pub named : SignatureText types signature
  pub text : body ≡ front ++ rest
  pub values : EncodeEach order 0 types ds front

-- It has this argument at an index, from 0 on.
pub record HasArgument (order : Endian) (signature body : List ℕ) (index : ℕ) (d : Datum) : Type 0 where
  pub arguments : List Datum
  pub are : AreArguments order signature body arguments
  pub there : slice_get arguments index ≡ Some d
