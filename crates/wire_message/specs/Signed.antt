-- A builder with the signature of a body (D-Bus Specification, "Header Fields", `SIGNATURE`).
use Rattle.std.specs.Prelude.{List, [], ◌∷◌, length, ℕ, Option, Some, None}
use Rattle.wire_signature.specs.SingleType.{SingleType, single_types_of, types_text}
use Rattle.wire_message.specs.BuilderView.{BuilderView}

-- the text of a signature; none where it has no types, as for an empty body
abbrev pub signature_field : List SingleType → Option (List ℕ)
signature_field [] = None
signature_field (t ∷ ts) = Some (types_text (single_types_of (t ∷ ts)))

-- the builder with that signature in place of an earlier one
abbrev pub signed : BuilderView → List SingleType → BuilderView
signed builder types = record builder { fields = record builder.fields { signature = signature_field types } }

-- how many descriptors go with a message; none where none do (D-Bus Specification, "Header Fields", `UNIX_FDS`)
abbrev pub fds_field : List ℕ → Option ℕ
fds_field [] = None
fds_field (fd ∷ fds) = Some (length (fd ∷ fds))

-- the builder with that count in place of an earlier one
abbrev pub counted : BuilderView → List ℕ → BuilderView
counted builder fds = record builder { fields = record builder.fields { unix_fds = fds_field fds } }
