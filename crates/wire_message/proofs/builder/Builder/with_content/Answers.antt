use Rattle.std.proofs.Common.{arith, ap, subst, ◌∙◌, length, length-append, inr}
use Rattle.std.proofs.lemmas.Result.{err_from_is_err_and}
use Rattle.wire_message.specs.Content.{IsNotAppended}
use Rattle.wire_message.specs.BuilderView.{BuilderView}
use Rattle.wire_message.specs.Front.{MessageView, bare}
use Rattle.wire_message.proofs.BodyLaws.{body-refused, header-refused}
use Rattle.wire_message.proofs.Building.{header-length}
use Rattle.wire_message.proofs.Law.{again-of, behind-length, written}
use Rattle.wire_message.proofs.builder.Builder.with_content.Goals as goal

pub returns-in_err-text-clause-made : goal.returns-in_err-text-clause-made
returns-in_err-text-clause-made g c =
    let p = err_from_is_err_and c.from_residual.result c.from_residual.ensures.1 in
    let order = c.args.self.now.order in
    rw (p.1, p.2)
    (header-refused c.args.self.now (g.C.Content.text order c.args.content.now) (g.C.Content.sound c.args.content.now) (g.C.Content.fits order c.args.content.now) c.args.fds.now c.args.serial _
    (g.met.C.Content.decided order c.args.content.now) c.requires.sound c.in_err-text.ensures.written)

pub append-requires : goal.append-requires
append-requires g c = record {
  sound = c.requires.sound;
  placed = omega (arith, ap length c.in_ok-text.ensures.written, header-length c.args.self.now 0 c.args.serial);
}

pub returns-in_err-append-clause-made : goal.returns-in_err-append-clause-made
returns-in_err-append-clause-made g c =
    let p = err_from_is_err_and c.from_residual-in_err-append.result c.from_residual-in_err-append.ensures.1 in
    let order = c.args.self.now.order in
    let own = subst (λ (d : BuilderView). IsNotAppended c.in_err-append.field-0.0 (g.C.Content.text d.order c.args.content.now) (g.C.Content.fits d.order c.args.content.now)) c.self.view_is c.in_err-append.ensures in
    rw (p.1, p.2)
    (body-refused c.args.self.now (g.C.Content.text order c.args.content.now) (g.C.Content.sound c.args.content.now) (g.C.Content.fits order c.args.content.now) c.args.fds.now c.args.serial _
    c.requires.sound own)

pub returns-then-len-gt-MESSAGE_LIMIT-clause-made : goal.returns-then-len-gt-MESSAGE_LIMIT-clause-made
returns-then-len-gt-MESSAGE_LIMIT-clause-made g c =
    let h = rw (← c.self.view_is) at c.in_ok-text.ensures in
    let size = behind-length _ c.args.serial c.in_ok-text.text.items _ c.append.new.out.items h.written c.in_ok-append.ensures.0 in
    rw (← c.self.view_is) (c.requires.sound, inr (c.in_ok-append.ensures.1, omega (arith, c.len.ensures ∙ c.append.new.out.ok.0, size)))

pub put_u32-requires : goal.put_u32-requires
put_u32-requires g c =
    omega (arith, ap length c.in_ok-append.ensures.0, length-append c.in_ok-text.text.items (g.C.Content.text c.self.inside.fixed.order c.args.content.now), ap length c.in_ok-text.ensures.written, header-length c.args.self.now 0 c.args.serial)

pub from_parts-requires : goal.from_parts-requires
from_parts-requires g c =
    let h = rw (← c.self.view_is) at c.in_ok-text.ensures in
    (written _ c.args.serial _ c.in_ok-text.text.items _ c.append.new.out.items c.put_u32.new.out.items c.in_ok-text.offsets c.self.invariant c.requires.serial (omega arith)
    (omega (arith, c.len.ensures ∙ c.append.new.out.ok.0)) h.made c.in_ok-append.ensures.0 c.put_u32.ensures
    (omega (arith, c.len.ensures ∙ c.append.new.out.ok.0, ap length c.in_ok-append.ensures.0, length-append c.in_ok-text.text.items (g.C.Content.text c.self.inside.fixed.order c.args.content.now)))).stands

pub returns-clause-made : goal.returns-clause-made
returns-clause-made g c =
    let h = rw (← c.self.view_is) at c.in_ok-text.ensures in
    let w = written _ c.args.serial _ c.in_ok-text.text.items _ c.append.new.out.items c.put_u32.new.out.items c.in_ok-text.offsets c.self.invariant c.requires.serial (omega arith)
    (omega (arith, c.len.ensures ∙ c.append.new.out.ok.0)) h.made c.in_ok-append.ensures.0 c.put_u32.ensures
    (omega (arith, c.len.ensures ∙ c.append.new.out.ok.0, ap length c.in_ok-append.ensures.0, length-append c.in_ok-text.text.items (g.C.Content.text c.self.inside.fixed.order c.args.content.now))) in
    let made = c.in_ok-message.ensures in
    rw (← c.self.view_is) (c.requires.sound, c.in_ok-append.ensures.1, ap (λ (x : MessageView). bare x) made ∙ w.message, rw made w.long, ap (λ (x : MessageView). x.fds) made)

pub returns-clause-again : goal.returns-clause-again
returns-clause-again g c =
    let made = returns-clause-made g c in
    again-of c.args.self.now c.args.serial _ c.in_ok-message.message (rw (← c.self.view_is) c.self.invariant) c.requires.serial (omega arith) made.2 made.3
