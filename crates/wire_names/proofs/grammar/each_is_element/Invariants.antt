use Rattle.std.proofs.Common.{◌≡◌, drop, true}
use Rattle.wire_names.proofs.Scanning.{are_from}
use Rattle.wire_names.proofs.grammar.each_is_element.Given as goal

-- what one pass still has to test decides
abbrev pub invariant-loop-byte : goal.invariant-loop-byte
invariant-loop-byte l = are_from l.separator l.kind.hyphen l.kind.leading_digit true l.text ≡ are_from l.separator l.kind.hyphen l.kind.leading_digit l.begins (drop l.byte-index l.text)
