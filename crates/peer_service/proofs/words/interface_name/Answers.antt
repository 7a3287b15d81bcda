use Rattle.std.proofs.Common.{refl, ap, ◌∙◌, [], unwrap_or}
use Rattle.wire_names.specs.Names.{is_interface_name}
use Rattle.peer_service.proofs.Numbers.{no_interface}
use Rattle.peer_service.proofs.words.interface_name.Goals as goal

pub returns-in-None-clause-err : goal.returns-in-None-clause-err
returns-in-None-clause-err c = (refl, ap (λ o. is_interface_name (unwrap_or o [])) c.in-None.is ∙ no_interface)
