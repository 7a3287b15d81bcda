-- Header fields that are each in their grammar (D-Bus Specification, "Header Fields").
use Rattle.std.specs.Prelude.{◌<◌, ◌^◌, IfSome, IsTrue}
use Rattle.wire_message.specs.Field.{Fields, EachText, is_text}

-- each field that is there is in its grammar
pub record AreFields (fields : Fields) : Type 0 where
  pub texts : EachText (λ code text. IsTrue (is_text code text)) fields
  pub reply_serial : IfSome fields.reply_serial (λ number. (0 < number) × (number < 2 ^ 32))
  pub unix_fds : IfSome fields.unix_fds (λ number. number < 2 ^ 32)
