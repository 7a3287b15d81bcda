use Rattle.std.proofs.Common.{◌≡◌, option_map, take}
use Rattle.fdo_proxy.specs.Dictionary.{last_under}
use Rattle.fdo_proxy.proofs.dictionary.last.Given as goal

-- what was found is the value of the last entry of the key so far
abbrev pub invariant-loop-name : goal.invariant-loop-name
invariant-loop-name l = option_map (λ value. value.now) l.found ≡ last_under l.key (take l.name-index l.entries)
