use Rattle.std.proofs.Common.{◌≡◌, map}
use Rattle.fdo_proxy.specs.Dictionary.{others}
use Rattle.fdo_proxy.proofs.dictionary.others.Given as goal

-- those of the entries so far that have none of the keys
abbrev pub invariant-loop-entry : goal.invariant-loop-entry
invariant-loop-entry l = l.rest.items ≡ others (map (λ key. key.now) l.keys) l.yielded
