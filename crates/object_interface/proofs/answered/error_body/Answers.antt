-- A text that isn't too long is taken: it is UTF-8, and has no 0 byte.
use Rattle.std.proofs.Common.{sym, ◌∙◌, subst, length, ◌≤◌}
use Rattle.std.proofs.lemmas.Str.{IsUtf8-string_bytes}
use Rattle.wire_message.specs.FdoErrors.{reply_text}
use Rattle.wire_tree.specs.Datum.{string, IsTextOf}
use Rattle.object_interface.specs.Sending.{has_no_zero}
use Rattle.object_interface.proofs.Zeros.{above_zero}
use Rattle.object_interface.proofs.answered.error_body.Goals as goal

pub unreachable-requires : goal.unreachable-requires
unreachable-requires c =
    let short = c.in-Err.ensures.short.0 ∙ c.from_string.ensures in
    let told = rw c.in-Err-Malformed.field-0-is at c.in-Err-Malformed.ensures.told in
    told.1 (
      subst (IsTextOf string) (sym short) (
        IsUtf8-string_bytes c.in_ok-text.text,
        rw c.in_ok-text.ensures (above_zero (reply_text c.args.error.now) c.requires),
        subst (λ bytes. length bytes ≤ 4294967295) c.from_string.ensures c.in-Err.ensures.short.1,
      ),
      tt,
    )
