use Rattle.std.proofs.Common.{◌≡◌, bytes_eq, drop, map}
use Rattle.std.specs.List.{list_any}
use Rattle.fdo_proxy.proofs.dictionary.is_one_of.Given as goal

-- the text is one of all keys if and only if it is one of those that are left
abbrev pub invariant-loop-key : goal.invariant-loop-key
invariant-loop-key l =
    list_any (bytes_eq l.text) (map (λ key. key.now) (drop l.key-index l.keys))
    ≡ list_any (bytes_eq l.text) (map (λ key. key.now) l.keys)
