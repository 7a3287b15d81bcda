-- The interfaces that the program's scripts may place: what each means, and its first state.
use Rattle.std.specs.Prelude.{ℕ, List, [], ◌∷◌, codes}
use Rattle.object_interface.specs.Meaning.{Meaning}
use Rattle.peer_boxes.specs.declared.own.OwnInterface.{OwnInterface}
use Rattle.peer_boxes.specs.declared.own.OwnInterface.TheVariants.{Greeter, TestObject, Named, Level}
use Rattle.peer_boxes.specs.Boxes.{greeter, test_object, empty, level}

-- what one of them means
abbrev pub own_meaning : OwnInterface → Meaning
own_meaning (Greeter it) = greeter
own_meaning (TestObject it) = test_object
own_meaning (Named it) = empty it.name
own_meaning (Level it) = level

-- its state
abbrev pub own_state : OwnInterface → List ℕ
own_state (Greeter it) = it.count ∷ []
own_state (TestObject it) = []
own_state (Named it) = []
own_state (Level it) = it.value ∷ []

-- what is nothing but this name
abbrev pub named : List ℕ → OwnInterface
named name = Named (record { name = name })

-- The interfaces, by their numbers from 0 on. The greeters count no call yet, and the level is 0.
abbrev pub own_interfaces : List OwnInterface
own_interfaces =
    Greeter (record { count = 0 })
    ∷ TestObject (record {})
    ∷ named (codes "org.freedesktop.DBus.ObjectManager")
    ∷ Greeter (record { count = 0 })
    ∷ named (codes "org.freedesktop.DBus.Properties")
    ∷ Level (record { value = 0 })
    ∷ []
