use Rattle.std.proofs.Common.{◌≡◌, ◌∙◌, ℕ, List, ap, refl, slice_index}
use Rattle.std.specs.Int.{w32}
use Rattle.wire_number.specs.Number.{number_at}
use Rattle.wire_message.specs.Front.{MessageView, message_view, order_at}
use Rattle.wire_message.specs.FieldOffsets.{found_fields}
use Rattle.wire_message.specs.Primary.{Primary, primary_of, sig_of}
use Rattle.wire_message.specs.declared.endian_sig.EndianSig.{EndianSig}
use Rattle.wire_message.proofs.Grammar.{order_again}
use Rattle.wire_message.proofs.message.Message.primary_header.Goals as goal

-- what the head of a message says
primary-is : (m : MessageView) (bytes : List ℕ) (sig : EndianSig) (long : ℕ) → bytes ≡ m.bytes → sig ≡ sig_of m.order → long ≡ number_at w32 m.order 4 bytes → order_at m.bytes ≡ m.order
    → ◌≡◌ {A = Primary} (record { endian_sig = sig; msg_type = m.kind; flags = m.flags; protocol_version = slice_index bytes 3; body_len = long; serial_num = m.serial }) (primary_of m)
primary-is m bytes sig long b s l o = rw (s, l, b, o) refl

pub returns : goal.returns
returns c =
    let bytes = c.shared.inside.bytes.items in
    let p = c.shared.inside.parts in
    let m : MessageView = message_view bytes 0 p.kind p.order p.flags p.serial (found_fields bytes p.offsets) in
    primary-is m c.as_slice-bytes.result.now c.from.result c.read_u32.result c.as_slice-bytes.ensures.value c.from.ensures c.read_u32.ensures (order_again bytes p.order c.shared.invariant.front.order)
    ∙ ap primary_of (c.shared.view_is ∙ c.deref-shared.ensures) ∙ ap primary_of c.self.view_is
