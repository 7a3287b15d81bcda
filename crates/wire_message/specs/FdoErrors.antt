-- Errors of calls by their kinds (D-Bus Specification, "Types of messages", "Errors").
use Rattle.std.specs.Prelude.{◌≡◌, ◌≢◌, ℕ, List, [], ◌∷◌, codes, Option, Some, unwrap_or}
use Rattle.wire_message.specs.declared.fdo_kind.Kind.{Kind}
use Rattle.wire_message.specs.StandardNames.{kind_name}
use Rattle.wire_tree.specs.Datum.{Datum, string, text}
use Rattle.wire_message.specs.ErrorTexts.{error_text, standard_text, description}
use Rattle.wire_message.specs.declared.error.Error.{Error}
use Rattle.wire_message.specs.declared.error.Error.TheVariants as errors
use Rattle.wire_message.specs.declared.fdo.Error.{Error as FdoError}
use Rattle.wire_message.specs.declared.fdo.Error.TheVariants as fdo

-- What an error becomes: of a method's error with the name of a standard one, that kind with its detail, or with the
-- empty text where it has none; a standard error stays what it is; each other error is held whole.
abbrev pub Becomes : Error → FdoError → Type 0
Becomes (errors.MethodError name detail m) (fdo.Std error) = (name ≡ kind_name error.kind) × (error.text ≡ unwrap_or detail [])
Becomes (errors.MethodError name detail m) (fdo.ZBus error) =
    (error ≡ errors.MethodError name detail m) × ((kind : Kind) → name ≢ kind_name kind)
Becomes (errors.FDO error) given = given ≡ fdo.Std error
Becomes error given = given ≡ fdo.ZBus error

-- the error that it is among all errors
abbrev pub error_within : FdoError → Error
error_within (fdo.ZBus error) = error
error_within (fdo.Std error) = errors.FDO error

-- what is printed of it
abbrev pub fdo_text : FdoError → List ℕ
fdo_text (fdo.ZBus error) = error_text error
fdo_text (fdo.Std error) = standard_text error

-- its name in the header of a reply
abbrev pub fdo_name : FdoError → List ℕ
fdo_name (fdo.ZBus error) = codes "org.freedesktop.zbus.Error"
fdo_name (fdo.Std error) = kind_name error.kind

-- the description of an error that answers a call: of a standard error its text
abbrev pub fdo_description : FdoError → Option (List ℕ)
fdo_description (fdo.ZBus error) = description error
fdo_description (fdo.Std error) = Some error.text

-- what the body of a reply says: the text of a standard error, of another what is printed of it
abbrev pub reply_text : FdoError → List ℕ
reply_text (fdo.ZBus error) = error_text error
reply_text (fdo.Std error) = error.text

-- the body of the reply to a call that failed: one string
abbrev pub one_string : List ℕ → List Datum
one_string bytes = text string bytes ∷ []
