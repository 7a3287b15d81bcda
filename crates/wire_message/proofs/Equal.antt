-- Two errors are equal exactly where they are the same.
use Rattle.std.proofs.Common.{◌≡◌, refl, ℕ, Bool, true, false, ◌&&◌, nat_eq, List}
use Rattle.std.specs.Prelude.{◌↔◌}
use Rattle.std.specs.Cmp.Lexicographic.{pointwise}
use Rattle.std.proofs.lemmas.Slice.Eq.{bytes_eq-Decides}
use denote.Enum.Bare.{same_true, true_same}
use Rattle.wire_message.specs.contracts.fdo_kind.Kind.{the_type as standard_kind}
use Rattle.wire_names.specs.contracts.error.NamesError.{the_type as names_error}
use Rattle.wire_signature.specs.contracts.error.VariantError.{the_type as variant_error}
use Rattle.wire_message.specs.contracts.error.IoKind.{the_type as io_kind}
use Rattle.wire_message.specs.declared.error.Error.{Error}
use Rattle.wire_message.specs.declared.error.Error.TheVariants as errors
use Rattle.wire_message.specs.contracts.error.ErrorPartialEq.TheImpl.{ghosts as of_errors}
use Rattle.wire_message.specs.SameError.{Same}

no : {X : Type 0} → false ≡ true → X
no e = cc

-- two tests hold exactly where both facts do
both : {P Q : Type 0} (a b : Bool) → (a ≡ true) ↔ P → (b ≡ true) ↔ Q → ((a && b) ≡ true) ↔ (P × Q)
both true b h k = (λ e. (h.0 refl, k.0 e), λ s. k.1 s.1)
both false b h k = (λ e. no e, λ s. h.1 s.0)

texts : (x y : List ℕ) → (pointwise nat_eq x y ≡ true) ↔ (x ≡ y)
texts = bytes_eq-Decides

pub equal : (a b : Error) → (of_errors.eq a b ≡ true) ↔ Same a b
equal (errors.InputOutput x) (errors.InputOutput y) = (same_true io_kind tt x y, true_same io_kind x y)
equal (errors.Variant x) (errors.Variant y) = (same_true variant_error tt x y, true_same variant_error x y)
equal (errors.Names x) (errors.Names y) = (same_true names_error tt x y, true_same names_error x y)
equal (errors.FDO x) (errors.FDO y) = both _ _ (same_true standard_kind tt x.kind y.kind, true_same standard_kind x.kind y.kind) (texts x.text y.text)
equal (errors.Failure x) (errors.Failure y) = texts x y
equal (errors.MissingParameter x) (errors.MissingParameter y) = texts x.now y.now
equal (errors.InterfaceExists n d) (errors.InterfaceExists p q) = both _ _ (texts n p) (texts d q)
equal (errors.MethodError n d m) (errors.MethodError p q r) = (λ e. tt, λ s. refl)
equal errors.InterfaceNotFound errors.InterfaceNotFound = (λ e. refl, λ s. refl)
equal errors.InvalidField errors.InvalidField = (λ e. refl, λ s. refl)
equal errors.ExcessData errors.ExcessData = (λ e. refl, λ s. refl)
equal errors.IncorrectEndian errors.IncorrectEndian = (λ e. refl, λ s. refl)
equal errors.InvalidReply errors.InvalidReply = (λ e. refl, λ s. refl)
equal errors.MissingField errors.MissingField = (λ e. refl, λ s. refl)
equal errors.InvalidGUID errors.InvalidGUID = (λ e. refl, λ s. refl)
equal errors.Unsupported errors.Unsupported = (λ e. refl, λ s. refl)
equal errors.NameTaken errors.NameTaken = (λ e. refl, λ s. refl)
equal errors.InvalidMatchRule errors.InvalidMatchRule = (λ e. refl, λ s. refl)
equal errors.Memory errors.Memory = (λ e. refl, λ s. refl)
equal errors.SerialsSpent errors.SerialsSpent = (λ e. refl, λ s. refl)
equal errors.UnknownHandle errors.UnknownHandle = (λ e. refl, λ s. refl)
equal errors.Busy errors.Busy = (λ e. refl, λ s. refl)
equal a b = (λ e. no e, λ s. absurd cc)
