use Rattle.std.proofs.Common.{◌≡◌, ◌++◌, IsTrue}
use Rattle.std.specs.List.{AllByRecursion}
use Rattle.wire_names.specs.Names.{is_interface_name}
use Rattle.object_tree.proofs.Keyed.{keyed}
use Rattle.object_tree.proofs.rows.Rows.names.Given as goal

abbrev pub invariant-loop-name : goal.invariant-loop-name
invariant-loop-name l =
    (l.list.items ++ keyed l.name-iterator ≡ l.self) × AllByRecursion (λ row. IsTrue (is_interface_name row.0)) (keyed l.name-iterator)
