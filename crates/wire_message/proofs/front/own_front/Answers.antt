use Rattle.std.proofs.Common.{ℕ, ◌≡◌, List, length, take, ◌∙◌, ap, sym, subst}
use Rattle.wire_message.specs.Front.{MessageView, Front}
use Rattle.wire_message.specs.Head.{IsHead, IsFoundFront, view_of}
use Rattle.wire_message.specs.declared.front.FrontParts.{FrontParts}
use Rattle.wire_message.proofs.Moved.{front_behind}
use Rattle.wire_message.proofs.front.own_front.Goals as goal

pub returns-clause-found : goal.returns-clause-found
returns-clause-found c =
    let bytes = c.args.bytes.items in
    let parts = c.in-Message.parts in
    let total = c.in_ok-parts.total in
    let found = subst (λ (l : List ℕ). IsFoundFront l total c.in_ok-parts.parts) c.as_slice.ensures.value c.in_ok-parts.ensures.found in
    let head : IsHead bytes total parts = subst (λ (p : FrontParts). IsFoundFront bytes total p) c.in-Message.is found in
    let made : c.in_ok-from_parts.field-0 ≡ view_of (take total bytes) parts =
    ◌∙◌ {b = view_of c.truncate.new.self.items parts} c.in_ok-from_parts.ensures (ap (λ (l : List ℕ). view_of l parts) c.truncate.ensures.items) in
    subst (λ (m : MessageView). Front bytes m (length m.bytes)) (sym made) (front_behind bytes total parts head)
