-- Equality of arguments, by index and text, and what a hash is fed of them.
use Rattle.std.specs.Prelude.{Bool, ◌&&◌, ◌++◌, nat_eq}
use Rattle.std.specs.Cmp.{IsEquivalence, on_equiv, and_equiv, nat_eq_equiv}
use Rattle.std.specs.Cmp.Lexicographic.{pointwise, nat_list_eq_equiv}
use Rattle.std.specs.Hash as fed
use Rattle.std.specs.Hash.{Alike, HashWrites, on_Alike, same_Alike, and-Alike}
use Rattle.std.proofs.lemmas.Bool.Decides.{Decides-eqb}
use Rattle.std.proofs.lemmas.Slice.Eq.{bytes_eq-Decides}
use Rattle.rule_match.specs.declared.arguments.Argument.{Argument}

-- two arguments are one: of one index, and with one text
abbrev pub same_argument : Argument → Argument → Bool
same_argument a b = nat_eq a.index b.index && pointwise nat_eq a.text b.text

-- The test of two arguments is reflexive, symmetric and transitive.
pub same_argument_equiv : IsEquivalence same_argument
same_argument_equiv = and_equiv (on_equiv (λ (a : Argument). a.index) nat_eq_equiv) (on_equiv (λ (a : Argument). a.text) nat_list_eq_equiv)

-- what a hash is fed of an argument: its index, and behind it its text
abbrev pub argument_fed : Argument → HashWrites
argument_fed a = fed.u8 a.index ++ fed.str a.text

-- A hash is fed alike of two arguments that are one.
pub argument_alike : Alike same_argument argument_fed
argument_alike = and-Alike (on_Alike (λ (a : Argument). a.index) (same_Alike fed.u8 Decides-eqb)) (on_Alike (λ (a : Argument). a.text) (same_Alike fed.str bytes_eq-Decides))
