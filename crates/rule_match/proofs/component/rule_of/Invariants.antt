use Rattle.std.proofs.Common.{◌≡◌, List, map, drop}
use Rattle.rule_match.specs.declared.part.Part.{Part}
use Rattle.rule_match.specs.Text.{made, rule_of}
use Rattle.rule_match.specs.Bytes.{said_in_bytes}
use Rattle.rule_match.proofs.Made.{made_with}
use Rattle.rule_match.proofs.component.rule_of.Given as goal

-- the builder has the rule of some parts, and what they and the rest make is what all make
abbrev pub invariant-loop-part : goal.invariant-loop-part
invariant-loop-part l =
    (ps : List Part) × (l.builder ≡ rule_of ps)
    × (made (said_in_bytes (map (λ part. part.now) l.parts)) ≡ made_with ps (said_in_bytes (drop l.part-index (map (λ part. part.now) l.parts))))
