-- Only a return or an error bears a reply serial.
use Rattle.std.proofs.Common.{◌≡◌, sym, ◌∙◌, ap, inl, inr, true, false}
use Rattle.wire_message.specs.Replying.{is_reply, is_serial}
use Rattle.peer_calls.proofs.CallsAfter.{bears_reply, bears_none}
use Rattle.peer_calls.proofs.calls.answered.Goals as goal

pub returns-in-MethodReturn : goal.returns-in-MethodReturn
returns-in-MethodReturn c serial =
    let kind : is_reply c.args.message.now.kind ≡ true =
    elim c.in-MethodReturn.is [ inl e ↦ ap is_reply (sym c.message_type.ensures ∙ e) | inr e ↦ ap is_reply (sym c.message_type.ensures ∙ e) ] in
    bears_reply serial c.args.message.now kind ∙ ap (λ o. is_serial o serial) (sym c.reply_serial.ensures)

pub returns-in-MethodCall : goal.returns-in-MethodCall
returns-in-MethodCall c serial =
    let kind : is_reply c.args.message.now.kind ≡ false =
    elim c.in-MethodCall.is [ inl e ↦ ap is_reply (sym c.message_type.ensures ∙ e) | inr e ↦ ap is_reply (sym c.message_type.ensures ∙ e) ] in
    bears_none serial c.args.message.now kind
