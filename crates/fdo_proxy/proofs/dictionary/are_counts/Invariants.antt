use Rattle.std.proofs.Common.{◌↔◌, drop, map}
use Rattle.wire_signature.specs.SingleType.{basic}
use Rattle.wire_signature.specs.declared.basic.BasicType.TheVariants as basics
use Rattle.fdo_proxy.specs.Dictionary.{AreOf}
use Rattle.fdo_proxy.proofs.dictionary.are_counts.Given as goal

-- all entries of the keys are numbers if and only if those that are left are
abbrev pub invariant-loop-name : goal.invariant-loop-name
invariant-loop-name l =
    AreOf (basic basics.Uint32) (map (λ key. key.now) l.keys) l.entries
    ↔ AreOf (basic basics.Uint32) (map (λ key. key.now) l.keys) (drop l.name-index l.entries)
