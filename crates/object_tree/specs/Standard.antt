-- The standard interfaces, by name (D-Bus Specification, "Standard Interfaces").
use Rattle.std.specs.Prelude.{ℕ, Bool, ◌||◌, if◌then◌else◌, List, codes, Option, None, Some}
use Rattle.object_tree.specs.Texts.{is_same}
use Rattle.object_tree.specs.declared.standard.StandardInterface.{StandardInterface}

-- the name of a standard interface
abbrev pub standard_name : StandardInterface → List ℕ
standard_name StandardInterface.Peer = codes "org.freedesktop.DBus.Peer"
standard_name StandardInterface.Introspectable = codes "org.freedesktop.DBus.Introspectable"
standard_name StandardInterface.Properties = codes "org.freedesktop.DBus.Properties"
standard_name StandardInterface.ObjectManager = codes "org.freedesktop.DBus.ObjectManager"

-- the standard interface of that name
abbrev pub standard_named : List ℕ → Option StandardInterface
standard_named name =
    if is_same name (standard_name StandardInterface.Peer) then Some StandardInterface.Peer
    else if is_same name (standard_name StandardInterface.Introspectable) then Some StandardInterface.Introspectable
    else if is_same name (standard_name StandardInterface.Properties) then Some StandardInterface.Properties
    else if is_same name (standard_name StandardInterface.ObjectManager) then Some StandardInterface.ObjectManager
    else None

-- the name of the interface that reports the objects below its own ("org.freedesktop.DBus.ObjectManager")
abbrev pub manager_name : List ℕ
manager_name = standard_name StandardInterface.ObjectManager

-- the three interfaces that each object has by itself
abbrev pub is_standing : List ℕ → Bool
is_standing name =
    is_same name (standard_name StandardInterface.Peer)
    || is_same name (standard_name StandardInterface.Introspectable)
    || is_same name (standard_name StandardInterface.Properties)

-- one of the four standard interfaces
abbrev pub is_standard : List ℕ → Bool
is_standard name = is_standing name || is_same name manager_name
