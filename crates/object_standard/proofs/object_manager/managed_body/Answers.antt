use Rattle.std.proofs.Common.{[], ◌∷◌, ap}
use Rattle.object_standard.specs.ObjectManager.{managed_value}
use Rattle.object_standard.proofs.Told.{objects_datum, objects_are, ok_is}
use Rattle.object_standard.proofs.object_manager.managed_body.Goals as goal

pub returns : goal.returns
returns c =
    ok_is c.body_of.result (objects_datum c.in_ok-told_objects.field-0 ∷ []) (managed_value c.args.objects.items ∷ [])
    (ap (λ d. d ∷ []) (objects_are c.in_ok-told_objects.field-0 c.args.objects.items c.in_ok-told_objects.ensures)) c.body_of.ensures
