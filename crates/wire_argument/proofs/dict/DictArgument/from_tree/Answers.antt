use Rattle.std.proofs.Common.{map, subst, sym}
use Rattle.wire_signature.specs.SingleType.{dict as dict_of}
use Rattle.wire_tree.specs.Datum.{type_of}
use Rattle.wire_tree.proofs.Lists.{pairs_of-entries_of}
use Rattle.wire_argument.specs.Arguments.{TellsRead}
use Rattle.wire_argument.specs.Kinds.{both, entries_in}
use Rattle.wire_argument.proofs.dict.DictArgument.from_tree.Goals as goal

pub returns-in-Some : goal.returns-in-Some
returns-in-Some g c =
    let k = subst (λ es. TellsRead (λ x. x) c.dict_of_kind.result (map (both g.K.Argument.read g.V.Argument.read) es) (dict_of c.in-Some.key c.in-Some.value) (dict_of g.K.Key.basic g.V.Argument.kind))
    (sym (pairs_of-entries_of c.in-Some.entries)) c.dict_of_kind.ensures in
    subst (λ d. TellsRead (λ x. x) c.dict_of_kind.result (map (both g.K.Argument.read g.V.Argument.read) (entries_in d)) (type_of d) (dict_of g.K.Key.basic g.V.Argument.kind))
    (sym c.in-Some.ensures.some) k
