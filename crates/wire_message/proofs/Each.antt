-- The texts of header fields, one by one.
use Rattle.std.proofs.Common.{◌≡◌, ℕ, Option, Some, None, arith}
use Rattle.std.specs.Prelude.{IfSome, ◌≢◌}
use Rattle.wire_message.specs.declared.field.FieldCode.{FieldCode}
use Rattle.wire_message.specs.declared.field.FieldCode.TheVariants as codes
use Rattle.wire_message.specs.declared.field.FieldsOf.{FieldsOf}
use Rattle.wire_message.specs.Field.{EachText, no_fields, read_by, with_number, with_text}
use Rattle.wire_message.specs.FieldOffsets.{AreSpans, IsSpan, FieldOffsets}
use Rattle.wire_message.specs.declared.field_offsets.Span.{Span}

-- what holds of each text holds still where one more is put in
pub each_with : {A : Type 0} (P : FieldCode → A → Type 0) (code : FieldCode) (text : A) (fields : FieldsOf A) → P code text → EachText P fields → EachText P (with_text code text fields)
each_with P code text fields h e = grind arith

pub read_with : {A B : Type 0} (read : A → B) (code : FieldCode) (text : A) (fields : FieldsOf A) → read_by read (with_text code text fields) ≡ with_text code (read text) (read_by read fields)
read_with read code text fields = grind arith

pub read_with_number : {A B : Type 0} (read : A → B) (code : FieldCode) (number : ℕ) (fields : FieldsOf A)
    → read_by read (with_number code number fields) ≡ with_number code number (read_by read fields)
read_with_number read code number fields = grind arith

pub spans_with : (n : ℕ) (code : FieldCode) (span : Span) (offsets : FieldOffsets) → IsSpan n span → AreSpans n offsets → AreSpans n (with_text code span offsets)
spans_with n code span offsets h s = each_with (λ c x. IsSpan n x) code span offsets h s

pub if_some : {A : Type 0} {P Q : A → Type 0} (o : Option A) → ((x : A) → P x → Q x) → IfSome o P → IfSome o Q
if_some None f h = tt
if_some (Some x) f h = f x h

-- what follows for each text, but for the path's
pub each_but_path : {A : Type 0} (P Q : FieldCode → A → Type 0) (fields : FieldsOf A) → ((code : FieldCode) (text : A) → code ≢ codes.Path → P code text → Q code text)
    → IfSome fields.path (Q codes.Path) → EachText P fields → EachText Q fields
each_but_path P Q fields f path e = record {
  path = path;
  interface = if_some fields.interface (λ text. f codes.Interface text (λ q. cc)) e.interface;
  member = if_some fields.member (λ text. f codes.Member text (λ q. cc)) e.member;
  error_name = if_some fields.error_name (λ text. f codes.ErrorName text (λ q. cc)) e.error_name;
  destination = if_some fields.destination (λ text. f codes.Destination text (λ q. cc)) e.destination;
  sender = if_some fields.sender (λ text. f codes.Sender text (λ q. cc)) e.sender;
  signature = if_some fields.signature (λ text. f codes.Signature text (λ q. cc)) e.signature;
}

pub each_map : {A : Type 0} (P Q : FieldCode → A → Type 0) (fields : FieldsOf A) → ((code : FieldCode) (text : A) → P code text → Q code text) → EachText P fields → EachText Q fields
each_map P Q fields f e = each_but_path P Q fields (λ code text n p. f code text p) (if_some fields.path (f codes.Path) e.path) e

-- whatever its numbers are
pub each_numbers : {A : Type 0} (P : FieldCode → A → Type 0) (fields : FieldsOf A) (serial fds : Option ℕ) → EachText P fields → EachText P (record fields { reply_serial = serial; unix_fds = fds })
each_numbers P fields serial fds e = grind arith

pub each_none : {A : Type 0} (P : FieldCode → A → Type 0) → EachText P no_fields
each_none P = record { path = tt; interface = tt; member = tt; error_name = tt; destination = tt; sender = tt; signature = tt }

-- two ways to read texts that agree on each
pub each_same : {A B : Type 0} (f g : A → B) (fields : FieldsOf A) → EachText (λ code text. f text ≡ g text) fields → read_by f fields ≡ read_by g fields
each_same f g fields e = grind arith
