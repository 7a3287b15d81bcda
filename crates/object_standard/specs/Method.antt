-- The methods of the standard interfaces, by name (D-Bus Specification, "Standard Interfaces").
use Rattle.std.specs.Prelude.{ℕ, if◌then◌else◌, List, codes, Option, None, Some, option_map}
use Rattle.object_tree.specs.Texts.{is_same}
use Rattle.object_tree.specs.declared.standard.StandardInterface.{StandardInterface}
use Rattle.object_standard.specs.Peer.{peer_method_named}
use Rattle.object_standard.specs.declared.method.StandardMethod.{StandardMethod}
use Rattle.object_standard.specs.declared.method.StandardMethod.TheVariants as methods

-- the method of that name
abbrev pub method_named : StandardInterface → List ℕ → Option StandardMethod
method_named StandardInterface.Peer member = option_map methods.Peer (peer_method_named member)
method_named StandardInterface.Introspectable member = if is_same member (codes "Introspect") then Some methods.Introspect else None
method_named StandardInterface.Properties member =
    if is_same member (codes "Get") then Some methods.Get
    else if is_same member (codes "Set") then Some methods.Set
    else if is_same member (codes "GetAll") then Some methods.GetAll
    else None
method_named StandardInterface.ObjectManager member = if is_same member (codes "GetManagedObjects") then Some methods.GetManagedObjects else None
