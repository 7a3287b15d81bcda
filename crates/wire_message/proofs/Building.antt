-- What is written of a builder is a message, and reads as what the builder holds.
use Rattle.std.proofs.Common.{◌≡◌, ℕ, ◌+◌, ◌-◌, ◌<◌, ◌≤◌, ◌^◌, true, false, List, [], ◌∷◌, ◌++◌, length, Option, Some, None, take, drop, refl, sym, ap, ◌∙◌, append_assoc, arith, length-append}
use Rattle.std.specs.Prelude.{IfSome, IsTrue, ◌≢◌}
use Rattle.std.specs.Int.{Width, w8, w32}
use Rattle.std.specs.List.{AllByRecursion}
use Rattle.std.proofs.lemmas.List.{append-nil}
use Rattle.std.proofs.lemmas.Bool.Decides.{nat_tests}
use Rattle.std.proofs.lemmas.Bool.{ltb-true, ltb-false, lt-ltb}
use Rattle.wire_number.specs.declared.endian.Endian.{Endian}
use Rattle.wire_number.specs.declared.endian.Endian.TheVariants.{Little, Big}
use Rattle.wire_number.specs.Number.{number, number_at, number_text, counted_text, pad, padding}
use Rattle.wire_number.proofs.Steps.{length_padding, number_of_text}
use Rattle.wire_names.specs.Names.{is_interface_name, is_member_name, is_error_name, is_bus_name, is_unique_name, is_well_known_name}
use Rattle.wire_message.specs.declared.field.FieldCode.{FieldCode}
use Rattle.wire_message.specs.declared.field.FieldCode.TheVariants as codes
use Rattle.wire_message.specs.Field.{Fields, no_fields, Value, Text, Number, Field, IsField, IsShort, is_value, is_text, field_type, text_bytes, value_bytes, field_text, fields_text, with_field, gathered, there, field_list}
use Rattle.wire_message.specs.declared.kind.MessageType.{MessageType}
use Rattle.wire_message.specs.BuilderView.{BuilderView, builder_fields, header_text, laid, AreShort, IsHeaderOf, IsShortText, has_long_text}
use Rattle.wire_message.specs.FieldOffsets.{AppendsFields, FieldOffsets}
use Rattle.wire_message.specs.Valid.{AreFields}
use Rattle.wire_message.proofs.FieldLaws.{signature-below}
use Rattle.wire_message.proofs.Each.{each_but_path, each_none, if_some}

-- ---- texts in their grammars are short

short-text : (code : FieldCode) (text : List ℕ) → code ≢ codes.Path → IsTrue (is_text code text) → length text ≤ 255
unfolding is_interface_name is_member_name is_error_name is_bus_name is_unique_name is_well_known_name
short-text codes.Path text n h = absurd (n refl)
short-text codes.Signature text n h = omega (arith, signature-below text h)
short-text code text n h = grind (arith, nat_tests)

short-text-of : (code : FieldCode) (text : List ℕ) → code ≢ codes.Path → IsTrue (is_text code text) → IsShortText (field_type code) text
short-text-of codes.Signature text n h = signature-below text h
short-text-of code text n h = let le = short-text code text n h in omega arith

path-short : (o : Option (List ℕ)) → has_long_text o ≡ false → IfSome o (λ text. length text < 2 ^ 32)
path-short None h = tt
path-short (Some text) h = let le = ltb-false 134217728 (length text) h in omega arith

pub fields-short : (fields : Fields) → AreFields fields → has_long_text fields.path ≡ false → AreShort fields
fields-short fields f h = each_but_path _ _ fields short-text-of (path-short fields.path h) f.texts

-- ---- how long a message is

text-length : (w : Width) (order : Endian) (text : List ℕ) → length text ≤ length (counted_text w order text)
text-length w order text = omega (arith, length-append (number_text w order (length text)) (text ++ 0 ∷ []), length-append text (0 ∷ []))

path-field : (order : Endian) (place : ℕ) (text : List ℕ) (fs : List Field) → length text ≤ length (fields_text order place (record { code = codes.Path; value = Text text } ∷ fs))
unfolding fields_text field_text
path-field order place text fs =
    let field : Field = record { code = codes.Path; value = Text text } in
    let front = padding place 8 ++ field_text order field in
    let value = counted_text w32 order text in
    omega (arith, length-append front (fields_text order (place + length front) fs), length-append (padding place 8) (field_text order field), text-length w32 order text)

path-any : (order : Endian) (place : ℕ) (path : Option (List ℕ)) (rest : List Field) → has_long_text path ≡ true → 134217728 < length (fields_text order place (there Text codes.Path path ++ rest))
path-any order place None rest h = absurd cc
path-any order place (Some text) rest h =
    let less : 134217728 < length text = ltb-true 134217728 (length text) h in
    let le = path-field order place text rest in
    omega arith

path-in : (order : Endian) (place : ℕ) (fields : Fields) → has_long_text fields.path ≡ true → 134217728 < length (fields_text order place (field_list fields))
unfolding field_list
path-in order place fields h = path-any order place fields.path _ h

-- ---- a header by its words

pub record HasWords (order : Endian) (body serial size : ℕ) (rest all : List ℕ) : Type 0 where
  pub body_is : body < 2 ^ 32 → number_at w32 order 4 all ≡ body
  pub serial_is : serial < 2 ^ 32 → number_at w32 order 8 all ≡ serial
  pub size_is : size < 2 ^ 32 → number_at w32 order 12 all ≡ size
  pub rest_is : drop 16 all ≡ rest
  pub long : length all ≡ 16 + length rest

pub words : (order : Endian) (kind : MessageType) (f body serial size : ℕ) (rest : List ℕ) → HasWords order body serial size rest (laid order kind f body serial size rest)
words Little kind f body serial size rest =
    record { body_is = number_of_text w32 Little body; serial_is = number_of_text w32 Little serial; size_is = number_of_text w32 Little size; rest_is = refl; long = omega arith }
words Big kind f body serial size rest =
    record { body_is = number_of_text w32 Big body; serial_is = number_of_text w32 Big serial; size_is = number_of_text w32 Big size; rest_is = refl; long = omega arith }

laid-then : (order : Endian) (kind : MessageType) (f body serial size : ℕ) (rest more : List ℕ) → laid order kind f body serial size rest ++ more ≡ laid order kind f body serial size (rest ++ more)
laid-then order kind f body serial size rest more = grind arith

-- another length of the body, put in the place of the first
pub body-put : (order : Endian) (kind : MessageType) (f body serial size other : ℕ) (rest : List ℕ)
    → take 4 (laid order kind f body serial size rest) ++ (number_text w32 order other ++ drop 8 (laid order kind f body serial size rest)) ≡ laid order kind f other serial size rest
body-put order kind f body serial size other rest = grind arith

-- the length of the fields, put in its place
size-put : (order : Endian) (kind : MessageType) (f serial size : ℕ) (rest : List ℕ)
    → take 12 (laid order kind f 0 serial 0 rest) ++ (number_text w32 order size ++ drop 16 (laid order kind f 0 serial 0 rest)) ≡ laid order kind f 0 serial size rest
size-put order kind f serial size rest = grind arith

-- the words of a builder, and what stands behind its header
abbrev pub head_of : BuilderView → ℕ → ℕ → List ℕ → List ℕ
head_of builder size serial rest = laid builder.order builder.kind builder.flags size serial (length (builder_fields builder)) rest

abbrev pub behind : BuilderView → List ℕ → List ℕ
behind builder rest = builder_fields builder ++ (padding (16 + length (builder_fields builder)) 8 ++ rest)

pub head-words : (builder : BuilderView) (size serial : ℕ) (rest : List ℕ) → HasWords builder.order size serial (length (builder_fields builder)) rest (head_of builder size serial rest)
head-words builder size serial rest = words builder.order builder.kind builder.flags size serial (length (builder_fields builder)) rest

head-then : (builder : BuilderView) (size serial : ℕ) (rest more : List ℕ) → head_of builder size serial rest ++ more ≡ head_of builder size serial (rest ++ more)
head-then builder size serial rest more = laid-then builder.order builder.kind builder.flags size serial (length (builder_fields builder)) rest more

pub header-laid : (builder : BuilderView) (size serial : ℕ) (rest : List ℕ) → header_text builder size serial ++ rest ≡ head_of builder size serial (behind builder rest)
unfolding header_text
header-laid builder size serial rest =
    let fields = builder_fields builder in
    let pads = padding (length (head_of builder size serial fields)) 8 in
    append_assoc (head_of builder size serial fields) pads rest ∙ head-then builder size serial fields (pads ++ rest)
    ∙ ap (λ (n : ℕ). head_of builder size serial (fields ++ (padding n 8 ++ rest))) (head-words builder size serial fields).long

pub header-length : (builder : BuilderView) (size serial : ℕ)
    → length (header_text builder size serial) ≡ 16 + length (builder_fields builder) + pad (16 + length (builder_fields builder)) 8
header-length builder size serial =
    let fields = builder_fields builder in
    let pads = padding (16 + length fields) 8 in
    ap length (sym (append-nil (header_text builder size serial)) ∙ header-laid builder size serial [])
    ∙ omega (
      arith,
      (head-words builder size serial (behind builder [])).long,
      length-append fields (pads ++ []),
      length-append pads [],
      length_padding (16 + length fields) 8,
    )

pub path-long : (builder : BuilderView) (size serial : ℕ) → has_long_text builder.fields.path ≡ true → 134217728 < length (header_text builder size serial)
path-long builder size serial h = omega (arith, header-length builder size serial, path-in builder.order 16 builder.fields h)

-- ---- the fields of a builder

abbrev pub IsNumber : Value → Type 0
IsNumber (Text text) = Unit {0}
IsNumber (Number number) = number < 2 ^ 32

-- valid, but for the length of its text
abbrev pub IsValidField : Field → Type 0
IsValidField field = IsTrue (is_value field.code field.value) × IsNumber field.value

all-append : (P : Field → Type 0) (xs ys : List Field) → AllByRecursion P xs → AllByRecursion P ys → AllByRecursion P (xs ++ ys)
all-append P [] ys p q = q
all-append P (x ∷ xs) ys p q = (p.0, all-append P xs ys p.1 q)

there-valid : {A : Type 0} (value : A → Value) (code : FieldCode) (o : Option A) → IfSome o (λ x. IsValidField (record { code = code; value = value x })) → AllByRecursion IsValidField (there value code o)
there-valid value code None h = tt
there-valid value code (Some x) h = (h, tt)

text-valid : (code : FieldCode) (o : Option (List ℕ)) → IfSome o (λ text. IsTrue (is_text code text)) → AllByRecursion IsValidField (there Text code o)
text-valid code o h = there-valid Text code o (if_some o (λ text t. (t, tt)) h)

pub list-valid : (fields : Fields) → AreFields fields → AllByRecursion IsValidField (field_list fields)
unfolding field_list
list-valid fields f =
    all-append IsValidField _ _ (text-valid codes.Path fields.path f.texts.path) (all-append IsValidField _ _ (text-valid codes.Interface fields.interface f.texts.interface)
    (all-append IsValidField _ _ (text-valid codes.Member fields.member f.texts.member) (all-append IsValidField _ _ (text-valid codes.ErrorName fields.error_name f.texts.error_name)
    (all-append IsValidField _ _ (there-valid Number codes.ReplySerial fields.reply_serial (if_some fields.reply_serial (λ number h. (lt-ltb 0 number h.0, h.1)) f.reply_serial)) (all-append IsValidField _ _ (text-valid codes.Destination fields.destination f.texts.destination)
    (all-append IsValidField _ _ (text-valid codes.Sender fields.sender f.texts.sender) (all-append IsValidField _ _ (text-valid codes.Signature fields.signature f.texts.signature)
    (there-valid Number codes.UnixFds fields.unix_fds (if_some fields.unix_fds (λ number h. (refl, h)) f.unix_fds)))))))))

text-bytes-length : (order : Endian) (code : FieldCode) (text : List ℕ) → length text ≤ length (text_bytes order (field_type code) text)
text-bytes-length order code text = grind (arith, text-length w8 order text, text-length w32 order text)

value-short : (order : Endian) (code : FieldCode) (value : Value) (n : ℕ) → IsNumber value → length (value_bytes order (field_type code) value) ≤ n → n < 2 ^ 32 → IsShort value
value-short order code (Text text) n h k l = let le = text-bytes-length order code text in omega arith
value-short order code (Number number) n h k l = h

pub list-short : (order : Endian) (place : ℕ) (fs : List Field) → AllByRecursion IsValidField fs → length (fields_text order place fs) < 2 ^ 32 → AllByRecursion IsField fs
unfolding fields_text field_text
list-short order place [] h k = tt
list-short order place (field ∷ fs) h k =
    let front = padding place 8 ++ field_text order field in
    let rest = fields_text order (place + length front) fs in
    let value = value_bytes order (field_type field.code) field.value in
    let all : length (front ++ rest) ≡ length front + length rest = length-append front rest in
    let most : length value ≤ length front = omega (arith, length-append (padding place 8) (field_text order field)) in
    ((h.0.0, value-short order field.code field.value (length front) h.0.1 most (omega arith)), list-short order (place + length front) fs h.1 (omega arith))

-- ---- and what they say

next : {A : Type 0} (value : A → Value) (code : FieldCode) (o : Option A) (f : Option A → Fields) (rest : List Field)
    → ((x : A) → with_field (record { code = code; value = value x }) (f None) ≡ f (Some x)) → gathered (f None) (there value code o ++ rest) ≡ gathered (f o) rest
unfolding gathered
next value code None f rest h = refl
next value code (Some x) f rest h = ap (λ (fields : Fields). gathered fields rest) (h x)

pub list-says : (d : Fields) → gathered no_fields (field_list d) ≡ d
unfolding field_list gathered with_field
list-says d =
    next Text codes.Path d.path (λ o. record no_fields { path = o }) _ (λ t. refl)
    ∙ next Text codes.Interface d.interface (λ o. record no_fields { path = d.path; interface = o }) _ (λ t. refl)
    ∙ next Text codes.Member d.member (λ o. record no_fields { path = d.path; interface = d.interface; member = o }) _ (λ t. refl)
    ∙ next Text codes.ErrorName d.error_name (λ o. record no_fields { path = d.path; interface = d.interface; member = d.member; error_name = o }) _ (λ t. refl)
    ∙ next Number codes.ReplySerial d.reply_serial (λ o. record d { reply_serial = o; destination = None; sender = None; signature = None; unix_fds = None }) _ (λ n. refl)
    ∙ next Text codes.Destination d.destination (λ o. record d { destination = o; sender = None; signature = None; unix_fds = None }) _ (λ t. refl)
    ∙ next Text codes.Sender d.sender (λ o. record d { sender = o; signature = None; unix_fds = None }) _ (λ t. refl)
    ∙ next Text codes.Signature d.signature (λ o. record d { signature = o; unix_fds = None }) _ (λ t. refl)
    ∙ ap (gathered (record d { unix_fds = None })) (sym (append-nil (there Number codes.UnixFds d.unix_fds)))
    ∙ next Number codes.UnixFds d.unix_fds (λ o. record d { unix_fds = o }) [] (λ n. refl)

-- ---- the message

module _ (builder : BuilderView) (serial size : ℕ) (start old : List ℕ) (offsets : FieldOffsets) (s : start ≡ laid builder.order builder.kind builder.flags 0 serial 0 [])
    (a : AppendsFields builder.order (field_list builder.fields) start no_fields old offsets) (n : size ≡ length old - 16) where
  start-long : length start ≡ 16
  start-long = ap length s ∙ (words builder.order builder.kind builder.flags 0 serial 0 []).long

  fields-behind : old ≡ start ++ builder_fields builder
  fields-behind = a.text ∙ ap (λ (k : ℕ). start ++ fields_text builder.order k (field_list builder.fields)) start-long

  size-is : size ≡ length (builder_fields builder)
  size-is = omega (arith, n, ap length fields-behind, length-append start (builder_fields builder), start-long)

  pub fields-long : 134217728 < size → 134217728 < length (header_text builder 0 serial)
  fields-long h = omega (arith, h, size-is, header-length builder 0 serial)

  -- the first 16 bytes, the fields, their length put in its place, zeros; the texts stand where they were written
  pub header-made : (put final : List ℕ) → put ≡ take 12 old ++ (number_text w32 builder.order size ++ drop 16 old) → final ≡ put ++ padding (0 + length put) 8 → IsHeaderOf builder serial final offsets
  unfolding header_text
  header-made put final p f =
      let fields = builder_fields builder in
      let put_is : put ≡ head_of builder 0 serial fields =
      p ∙ ap (λ (l : List ℕ). take 12 l ++ (number_text w32 builder.order size ++ drop 16 l)) (fields-behind ∙ ap (λ (l : List ℕ). l ++ fields) s ∙ laid-then builder.order _ _ 0 serial 0 [] fields)
      ∙ size-put builder.order _ _ serial size fields
      ∙ ap (λ (k : ℕ). laid builder.order builder.kind builder.flags 0 serial k fields) size-is in
      let none : 0 + length put ≡ length put = omega arith in
      let whole : final ≡ header_text builder 0 serial = f ∙ ap (λ (k : ℕ). put ++ padding k 8) none ∙ ap (λ (l : List ℕ). l ++ padding (length l) 8) put_is in
      record {
        written = whole;
        found = λ other more.
            let rest = padding (16 + length fields) 8 ++ more in
            let front = head_of builder other serial [] in
            a.found _ front rest (omega (arith, (head-words builder other serial []).long, start-long)) (header-laid builder other serial more ∙ sym (head-then builder other serial [] (fields ++ rest))
            ∙ ap (λ (k : ℕ). front ++ (fields_text builder.order k (field_list builder.fields) ++ rest)) (sym start-long)) ∙ list-says builder.fields;
        spans = a.spans (length final) (omega (arith, ap length whole, header-length builder 0 serial, ap length fields-behind, length-append start fields, start-long)) (each_none _);
      }
