-- The interfaces that each object has by itself (D-Bus Specification, "Standard Interfaces").
use Rattle.std.specs.Prelude.{List, [], ◌∷◌}
use Rattle.object_interface.specs.declared.description.DescribedInterface.{DescribedInterface}
use Rattle.object_interface.specs.declared.description.Description.{Description}
use Rattle.object_tree.specs.Standard.{standard_name}
use Rattle.object_tree.specs.declared.standard.StandardInterface.{StandardInterface}
use Rattle.object_standard.specs.Introspectable.{introspectable_description}
use Rattle.object_standard.specs.Peer.{peer_description}
use Rattle.object_standard.specs.Properties.{properties_description}

-- a standard interface with its description
abbrev pub interface : StandardInterface → Description → DescribedInterface
interface which description = record { name = standard_name which; description = description }

-- the three that each object has by itself, ascending by their names
abbrev pub standing : List DescribedInterface
standing =
    interface StandardInterface.Introspectable introspectable_description
    ∷ interface StandardInterface.Peer peer_description
    ∷ interface StandardInterface.Properties properties_description ∷ []
