-- What a match rule wants of a message's arguments (D-Bus Specification, "Match Rules", `argN`, `argNpath`,
-- `arg0namespace`).
use Rattle.std.specs.Prelude.{ℕ, ◌⊎◌, Bool, ◌&&◌, List, Option, is_none, slice_get}
use Rattle.wire_number.specs.declared.endian.Endian.{Endian}
use Rattle.wire_names.specs.Names.{IsBusName}
use Rattle.wire_tree.specs.Datum.{text, string, object_path}
use Rattle.rule_match.specs.declared.arguments.Argument.{Argument}
use Rattle.rule_match.specs.Below.{IsAtOrBelow}
use Rattle.rule_match.specs.Body.{HasArgument}
use Rattle.rule_match.specs.PathMatch.{IsPathMatch}

-- what a rule wants of arguments: strings by their index, argument paths by their index, and a namespace of the first
pub record Wanted : Type 0 where
  pub args : List Argument
  pub arg_paths : List Argument
  pub arg0ns : Option (List ℕ)

-- nothing is wanted
abbrev pub is_nothing : Wanted → Bool
is_nothing w = is_none (slice_get w.args 0) && (is_none (slice_get w.arg_paths 0) && is_none w.arg0ns)

-- the argument of the index is that string
abbrev pub HasString : Endian → List ℕ → List ℕ → Argument → Type 0
HasString order signature body a = HasArgument order signature body a.index (text string a.text)

-- the argument of the index is a string or an object path with this text
abbrev pub HasText : Endian → List ℕ → List ℕ → ℕ → List ℕ → Type 0
HasText order signature body index found =
    HasArgument order signature body index (text string found)
    ⊎ HasArgument order signature body index (text object_path found)

-- The argument of the index is a string or an object path. Its text is equal to the rule's, or one of the two ends with
-- `/` and is a prefix of the other.
pub record HasPath (order : Endian) (signature body : List ℕ) (a : Argument) : Type 0 where
  pub found : List ℕ
  pub there : HasText order signature body a.index found
  pub matches : IsPathMatch a.text found

-- the first argument is a string and a bus name: the namespace, or one that begins with it and a dot
pub record HasNameIn (order : Endian) (signature body namespace : List ℕ) : Type 0 where
  pub name : List ℕ
  pub first : HasArgument order signature body 0 (text string name)
  pub valid : IsBusName name
  pub below : IsAtOrBelow 46 namespace name
