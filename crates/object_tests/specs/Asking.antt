-- An interface that asks whether its replies were put.
use Rattle.std.specs.Prelude.{◌≡◌, [], codes, Some, Ok}
use Rattle.object_interface.specs.Meaning.{Meaning}
use Rattle.object_interface.specs.declared.answer.DispatchResult2.{DispatchResult2}
use Rattle.object_interface.specs.declared.answer.DispatchResult2.TheVariants.{Done}
use Rattle.peer_boxes.specs.Boxes.{empty}

-- a reply of no values, of which is asked by the number 3
abbrev pub numbered : DispatchResult2
numbered = Done (record { result = Ok []; before = []; after = []; notifier = Some 3 })

-- each of its methods is answered so
abbrev pub asking : Meaning
asking = record (empty (codes "org.zbus.MyGreeter1")) { calls = λ s m n r. r ≡ numbered }
