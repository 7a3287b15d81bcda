use Rattle.std.proofs.Common.{◌≡◌, ◌↔◌, [], ◌∷◌, option_map, take, drop}
use Rattle.fdo_proxy.specs.Dictionary.{AreOf, last_under}
use Rattle.fdo_proxy.proofs.dictionary.field.Given as goal

-- What was found is what the entries so far say. All entries of the key are of the type if and only if those that are
-- left are.
abbrev pub invariant-loop-name : goal.invariant-loop-name
invariant-loop-name g l =
    record {
      found : l.found ≡ option_map g.T.Argument.read (last_under l.key (take l.name-index l.entries));
      left : AreOf g.T.Argument.kind (l.key ∷ []) l.entries
          ↔ AreOf g.T.Argument.kind (l.key ∷ []) (drop l.name-index l.entries);
    }
