-- What the arguments of Get, Set and GetAll say of a message's body.
use Rattle.std.proofs.Common.{◌≡◌, refl, sym, ap, ◌∙◌, ℕ, ◌+◌, List, [], ◌∷◌, ◌++◌, length, Ok, Err, Option, None, Some, Result, IfOk, MatchOption, subst}
use Rattle.wire_number.specs.declared.endian.Endian.{Endian}
use Rattle.wire_number.proofs.Steps.{at, some_is}
use Rattle.wire_names.specs.Names.{IsInterfaceName}
use Rattle.wire_signature.specs.SingleType.{SingleType, single_types_of, basic, variant as any}
use Rattle.wire_signature.specs.declared.basic.BasicType.TheVariants as basics
use Rattle.wire_tree.specs.Datum.{Datum, num, text, array, dict, struct, variant, string, object_path, signature, type_of, byte, boolean, int16, uint16, int32, uint32, int64, uint64, double, unix_fd}
use Rattle.wire_encoding.specs.Each.{EncodeEach}
use Rattle.wire_encoding.specs.Reading.{value_at, fields_at}
use Rattle.wire_encoding.proofs.Fronts.{each_again}
use Rattle.wire_argument.specs.Kinds.{text_in, value_in}
use Rattle.wire_body.specs.Chained.{first_of, rest_of}
use Rattle.wire_message.specs.Front.{MessageView}
use Rattle.object_interface.specs.Arguments.{IsBody, IsNoBody}
use Rattle.object_standard.specs.Properties.{NamesInterface, NamesNone, of_interface, of_property, of_setting}

-- ---- a body has one reading

-- values at the front of the same bytes are the same
one_each : (order : Endian) (types : List SingleType) (values others : List Datum) (a b x y : List ℕ) → EncodeEach order 0 types values a → EncodeEach order 0 types others b
    → a ++ x ≡ b ++ y → values ≡ others
one_each order types values others a b x y s k same =
    ap (λ z. z.0) (some_is _ _ (sym (each_again order types 0 values a x s) ∙ ap (λ bytes. fields_at (value_at 64 order) (single_types_of types) (at 0 bytes)) same ∙ each_again order types 0 others b y k))

pub one_reading : (m : MessageView) (types : List SingleType) (values others : List Datum) → IsBody m types values → IsBody m types others → values ≡ others
one_reading m types values others h k =
    one_each m.order types values others h.front.front k.front.front h.front.rest k.front.rest h.front.encoded k.front.encoded (sym h.front.text ∙ k.front.text)

-- the names of interfaces and the other arguments
one_head : (i j : List ℕ) (ds es : List Datum) → text string i ∷ ds ≡ text string j ∷ es → (i ≡ j) × (ds ≡ es)
one_head i j ds es h = (ap (λ vs. text_in (first_of vs)) h, ap rest_of h)

pub one_naming : (m : MessageView) (types : List SingleType) (interface name : List ℕ) (rest others : List Datum) → NamesInterface m types interface rest → NamesInterface m types name others
    → (interface ≡ name) × (rest ≡ others)
one_naming m types interface name rest others h k = one_head interface name rest others (one_reading m types _ _ h.body k.body)

-- ---- which values there are

-- a value of the type of strings is a string
string_is : (d : Datum) → type_of d ≡ basic basics.String → d ≡ text string (text_in d)
string_is (text string bytes) e = refl
string_is (text object_path bytes) e = absurd (cc)
string_is (text signature bytes) e = absurd (cc)
string_is (num byte v) e = absurd (cc)
string_is (num boolean v) e = absurd (cc)
string_is (num int16 v) e = absurd (cc)
string_is (num uint16 v) e = absurd (cc)
string_is (num int32 v) e = absurd (cc)
string_is (num uint32 v) e = absurd (cc)
string_is (num int64 v) e = absurd (cc)
string_is (num uint64 v) e = absurd (cc)
string_is (num double v) e = absurd (cc)
string_is (num unix_fd v) e = absurd (cc)
string_is (array t ds) e = absurd (cc)
string_is (dict k v es) e = absurd (cc)
string_is (struct ds) e = absurd (cc)
string_is (variant d) e = absurd (cc)

-- a value of the type of variants is one
variant_is : (d : Datum) → type_of d ≡ any → d ≡ variant (value_in d)
variant_is (variant d) e = refl
variant_is (num n v) e = absurd (cc)
variant_is (text t bytes) e = absurd (cc)
variant_is (array t ds) e = absurd (cc)
variant_is (dict k v es) e = absurd (cc)
variant_is (struct ds) e = absurd (cc)

-- no types, no values
none_is : (order : Endian) (p : ℕ) (ds : List Datum) (bytes : List ℕ) → EncodeEach order p [] ds bytes → ds ≡ []
none_is order p [] bytes s = refl
none_is order p (d ∷ ds) bytes s = absurd s

-- a string, and values behind it
first_is : (order : Endian) (p : ℕ) (ts : List SingleType) (ds : List Datum) (bytes : List ℕ) (rest : List Datum → List Datum)
    → ((q : ℕ) (es : List Datum) (more : List ℕ) → EncodeEach order q ts es more → es ≡ rest es)
    → EncodeEach order p (basic basics.String ∷ ts) ds bytes → ds ≡ text string (text_in (first_of ds)) ∷ rest (rest_of ds)
first_is order p ts [] bytes rest behind s = absurd s
first_is order p ts (d ∷ ds) bytes rest behind s = ap (λ v. v ∷ ds) (string_is d s.3.kind) ∙ ap (λ vs. text string (text_in d) ∷ vs) (behind (p + length s.0) ds s.1 s.4)

-- a variant alone
variant_alone : (order : Endian) (p : ℕ) (ds : List Datum) (bytes : List ℕ) → EncodeEach order p (any ∷ []) ds bytes → ds ≡ variant (value_in (first_of ds)) ∷ []
variant_alone order p [] bytes s = absurd s
variant_alone order p (d ∷ ds) bytes s = ap (λ v. v ∷ ds) (variant_is d s.3.kind) ∙ ap (λ vs. variant (value_in d) ∷ vs) (none_is order (p + length s.0) ds s.1 s.4)

-- the bodies of one string, of two, and of two with a variant
one_string : (order : Endian) (p : ℕ) (ds : List Datum) (bytes : List ℕ) → EncodeEach order p of_interface ds bytes → ds ≡ text string (text_in (first_of ds)) ∷ []
one_string order p ds bytes s = first_is order p [] ds bytes (λ _. []) (λ q es more. none_is order q es more) s

two_strings : (order : Endian) (p : ℕ) (ds : List Datum) (bytes : List ℕ) → EncodeEach order p of_property ds bytes
    → ds ≡ text string (text_in (first_of ds)) ∷ text string (text_in (first_of (rest_of ds))) ∷ []
two_strings order p ds bytes s = first_is order p of_interface ds bytes (λ es. text string (text_in (first_of es)) ∷ []) (λ q es more. one_string order q es more) s

string_and_variant : (order : Endian) (p : ℕ) (ds : List Datum) (bytes : List ℕ) → EncodeEach order p (basic basics.String ∷ any ∷ []) ds bytes
    → ds ≡ text string (text_in (first_of ds)) ∷ variant (value_in (first_of (rest_of ds))) ∷ []
string_and_variant order p ds bytes s = first_is order p (any ∷ []) ds bytes (λ es. variant (value_in (first_of es)) ∷ []) (λ q es more. variant_alone order q es more) s

setting_is : (order : Endian) (p : ℕ) (ds : List Datum) (bytes : List ℕ) → EncodeEach order p of_setting ds bytes
    → ds ≡ text string (text_in (first_of ds)) ∷ text string (text_in (first_of (rest_of ds))) ∷ variant (value_in (first_of (rest_of (rest_of ds)))) ∷ []
setting_is order p ds bytes s =
    first_is order p (basic basics.String ∷ any ∷ []) ds bytes (λ es. text string (text_in (first_of es)) ∷ variant (value_in (first_of (rest_of es))) ∷ []) (λ q es more. string_and_variant order q es more) s

-- ---- what the calls answer

-- a body of no types is of no values
pub no_values : (m : MessageView) (values : List Datum) → IsBody m [] values → IsBody m [] []
no_values m values b = subst (λ vs. IsBody m [] vs) (none_is m.order 0 values b.front.front b.front.encoded) b

-- A body of other values: it names no interface.
pub names_none : (m : MessageView) (types : List SingleType) → IsNoBody m types → NamesNone m types
names_none m types none interface rest n = none _ n.body

-- The first argument is no interface's name.
pub no_name : (m : MessageView) (types : List SingleType) (first : List ℕ) (rest : List Datum) → IsBody m types (text string first ∷ rest) → ¬ IsInterfaceName first → NamesNone m types
no_name m types first rest b other interface others n =
    other (subst IsInterfaceName (one_head interface first others rest (one_reading m types _ _ n.body b)).0 n.name)

-- The first argument is one.
pub names : (m : MessageView) (types : List SingleType) (name first : List ℕ) (rest : List Datum) → IsBody m types (text string first ∷ rest) → (name ≡ first) × IsInterfaceName first
    → NamesInterface m types name rest
names m types name first rest b h = record { body = subst (λ i. IsBody m types (text string i ∷ rest)) (sym h.0) b; name = subst IsInterfaceName (sym h.0) h.1 }

-- what was read of the first argument settles it
pub settled : {E : Type 0} (r : Result (Option (List ℕ)) E) (m : MessageView) (types : List SingleType) (first : List ℕ) (rest : List Datum) → IsBody m types (text string first ∷ rest)
    → IfOk r (λ name. MatchOption name (¬ IsInterfaceName first) (λ n. (n ≡ first) × IsInterfaceName first)) → IfOk r (λ name. MatchOption name (NamesNone m types) (λ n. NamesInterface m types n rest))
settled (Ok None) m types first rest b h = no_name m types first rest b h
settled (Ok (Some n)) m types first rest b h = names m types n first rest b h
settled (Err e) m types first rest b h = tt

-- the body of GetAll's argument, of Get's and of Set's
pub interface_body : (m : MessageView) (values : List Datum) (first : List ℕ) → IsBody m of_interface values → first ≡ text_in (first_of values) → IsBody m of_interface (text string first ∷ [])
interface_body m values first b e =
    subst (λ vs. IsBody m of_interface vs) (one_string m.order 0 values b.front.front b.front.encoded ∙ ap (λ i. text string i ∷ []) (sym e)) b

pub property_body : (m : MessageView) (values : List Datum) (first second : List ℕ) → IsBody m of_property values → first ≡ text_in (first_of values) → second ≡ text_in (first_of (rest_of values))
    → IsBody m of_property (text string first ∷ text string second ∷ [])
property_body m values first second b e f =
    subst (λ vs. IsBody m of_property vs) (two_strings m.order 0 values b.front.front b.front.encoded
    ∙ ap (λ i. text string i ∷ text string (text_in (first_of (rest_of values))) ∷ []) (sym e) ∙ ap (λ i. text string first ∷ text string i ∷ []) (sym f)) b

pub setting_body : (m : MessageView) (values : List Datum) (first second : List ℕ) (third : Datum) → IsBody m of_setting values → first ≡ text_in (first_of values)
    → second ≡ text_in (first_of (rest_of values)) → third ≡ value_in (first_of (rest_of (rest_of values))) → IsBody m of_setting (text string first ∷ text string second ∷ variant third ∷ [])
setting_body m values first second third b e f k =
    subst (λ vs. IsBody m of_setting vs) (setting_is m.order 0 values b.front.front b.front.encoded
    ∙ ap (λ i. text string i ∷ text string (text_in (first_of (rest_of values))) ∷ variant (value_in (first_of (rest_of (rest_of values)))) ∷ []) (sym e)
    ∙ ap (λ i. text string first ∷ text string i ∷ variant (value_in (first_of (rest_of (rest_of values)))) ∷ []) (sym f)
    ∙ ap (λ d. text string first ∷ text string second ∷ variant d ∷ []) (sym k)) b
