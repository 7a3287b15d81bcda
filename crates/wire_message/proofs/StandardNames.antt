-- Names of kinds.
use Rattle.std.proofs.Common.{◌≡◌, ◌≢◌, ◌↔◌, ◌⊎◌, inl, inr, ℕ, ◌+◌, ◌<◌, if◌then◌else◌, Option, Some, None, IsNone, IfSome, List, [], ◌∷◌, slice_index_or, refl, sym, ap, ◌∙◌, subst, length, arith, nat_eq}
use Rattle.std.specs.List.{All, AllWithin}
use Rattle.std.proofs.lemmas.List.{get_or_default}
use Rattle.std.proofs.lemmas.Option.{none-some}
use Rattle.std.specs.Cmp.Lexicographic.{pointwise}
use Rattle.wire_message.specs.declared.fdo_kind.Kind.{Kind}
use Rattle.wire_message.specs.declared.fdo_kind.Kind.TheVariants as kinds
use Rattle.wire_message.specs.StandardNames.{kind_name}

-- each kind once
abbrev pub all : List Kind
all = kinds.Failed ∷ kinds.NoMemory ∷ kinds.ServiceUnknown ∷ kinds.NameHasNoOwner ∷ kinds.NoReply ∷ kinds.IOError ∷ kinds.BadAddress ∷ kinds.NotSupported ∷ kinds.LimitsExceeded ∷ kinds.AccessDenied ∷ kinds.AuthFailed ∷ kinds.NoServer ∷ kinds.Timeout ∷ kinds.NoNetwork ∷ kinds.AddressInUse ∷ kinds.Disconnected ∷ kinds.InvalidArgs ∷ kinds.FileNotFound ∷ kinds.FileExists ∷ kinds.UnknownMethod ∷ kinds.UnknownObject ∷ kinds.UnknownInterface ∷ kinds.UnknownProperty ∷ kinds.PropertyReadOnly ∷ kinds.TimedOut ∷ kinds.MatchRuleNotFound ∷ kinds.MatchRuleInvalid ∷ kinds.UnixProcessIdUnknown ∷ kinds.InvalidSignature ∷ kinds.InvalidFileContent ∷ kinds.SELinuxSecurityContextUnknown ∷ kinds.AdtAuditDataUnknown ∷ kinds.ObjectPathInUse ∷ kinds.InconsistentMessage ∷ kinds.InteractiveAuthorizationRequired ∷ kinds.NotContainer ∷ kinds.SpawnExecFailed ∷ kinds.SpawnForkFailed ∷ kinds.SpawnChildExited ∷ kinds.SpawnChildSignaled ∷ kinds.SpawnFailed ∷ kinds.SpawnFailedToSetup ∷ kinds.SpawnConfigInvalid ∷ kinds.SpawnServiceNotValid ∷ kinds.SpawnServiceNotFound ∷ kinds.SpawnPermissionsInvalid ∷ kinds.SpawnFileInvalid ∷ kinds.SpawnNoMemory ∷ []

-- the first kind of that name
abbrev pub kind_in : List Kind → List ℕ → Option Kind
kind_in [] text = None
kind_in (k ∷ ks) text = if pointwise nat_eq (kind_name k) text then Some k else kind_in ks text

found_again : (k : Kind) → kind_in all (kind_name k) ≡ Some k
unfolding kind_name
found_again kinds.Failed = refl
found_again kinds.NoMemory = refl
found_again kinds.ServiceUnknown = refl
found_again kinds.NameHasNoOwner = refl
found_again kinds.NoReply = refl
found_again kinds.IOError = refl
found_again kinds.BadAddress = refl
found_again kinds.NotSupported = refl
found_again kinds.LimitsExceeded = refl
found_again kinds.AccessDenied = refl
found_again kinds.AuthFailed = refl
found_again kinds.NoServer = refl
found_again kinds.Timeout = refl
found_again kinds.NoNetwork = refl
found_again kinds.AddressInUse = refl
found_again kinds.Disconnected = refl
found_again kinds.InvalidArgs = refl
found_again kinds.FileNotFound = refl
found_again kinds.FileExists = refl
found_again kinds.UnknownMethod = refl
found_again kinds.UnknownObject = refl
found_again kinds.UnknownInterface = refl
found_again kinds.UnknownProperty = refl
found_again kinds.PropertyReadOnly = refl
found_again kinds.TimedOut = refl
found_again kinds.MatchRuleNotFound = refl
found_again kinds.MatchRuleInvalid = refl
found_again kinds.UnixProcessIdUnknown = refl
found_again kinds.InvalidSignature = refl
found_again kinds.InvalidFileContent = refl
found_again kinds.SELinuxSecurityContextUnknown = refl
found_again kinds.AdtAuditDataUnknown = refl
found_again kinds.ObjectPathInUse = refl
found_again kinds.InconsistentMessage = refl
found_again kinds.InteractiveAuthorizationRequired = refl
found_again kinds.NotContainer = refl
found_again kinds.SpawnExecFailed = refl
found_again kinds.SpawnForkFailed = refl
found_again kinds.SpawnChildExited = refl
found_again kinds.SpawnChildSignaled = refl
found_again kinds.SpawnFailed = refl
found_again kinds.SpawnFailedToSetup = refl
found_again kinds.SpawnConfigInvalid = refl
found_again kinds.SpawnServiceNotValid = refl
found_again kinds.SpawnServiceNotFound = refl
found_again kinds.SpawnPermissionsInvalid = refl
found_again kinds.SpawnFileInvalid = refl
found_again kinds.SpawnNoMemory = refl

some_injective : {a b : Kind} → ◌≡◌ {A = Option Kind} (Some a) (Some b) → a ≡ b
some_injective e = search e

pub two_names : (a : Kind) → (b : Kind) → kind_name a ≡ kind_name b → a ≡ b
two_names a b e = some_injective (sym (found_again a) ∙ ap (kind_in all) e ∙ found_again b)

-- what holds of each that is listed holds of every kind
pub each : (P : Kind → Type 0) → All P all → (k : Kind) → P k
each P h kinds.Failed = h 0 kinds.Failed (omega arith)
each P h kinds.NoMemory = h 1 kinds.NoMemory (omega arith)
each P h kinds.ServiceUnknown = h 2 kinds.ServiceUnknown (omega arith)
each P h kinds.NameHasNoOwner = h 3 kinds.NameHasNoOwner (omega arith)
each P h kinds.NoReply = h 4 kinds.NoReply (omega arith)
each P h kinds.IOError = h 5 kinds.IOError (omega arith)
each P h kinds.BadAddress = h 6 kinds.BadAddress (omega arith)
each P h kinds.NotSupported = h 7 kinds.NotSupported (omega arith)
each P h kinds.LimitsExceeded = h 8 kinds.LimitsExceeded (omega arith)
each P h kinds.AccessDenied = h 9 kinds.AccessDenied (omega arith)
each P h kinds.AuthFailed = h 10 kinds.AuthFailed (omega arith)
each P h kinds.NoServer = h 11 kinds.NoServer (omega arith)
each P h kinds.Timeout = h 12 kinds.Timeout (omega arith)
each P h kinds.NoNetwork = h 13 kinds.NoNetwork (omega arith)
each P h kinds.AddressInUse = h 14 kinds.AddressInUse (omega arith)
each P h kinds.Disconnected = h 15 kinds.Disconnected (omega arith)
each P h kinds.InvalidArgs = h 16 kinds.InvalidArgs (omega arith)
each P h kinds.FileNotFound = h 17 kinds.FileNotFound (omega arith)
each P h kinds.FileExists = h 18 kinds.FileExists (omega arith)
each P h kinds.UnknownMethod = h 19 kinds.UnknownMethod (omega arith)
each P h kinds.UnknownObject = h 20 kinds.UnknownObject (omega arith)
each P h kinds.UnknownInterface = h 21 kinds.UnknownInterface (omega arith)
each P h kinds.UnknownProperty = h 22 kinds.UnknownProperty (omega arith)
each P h kinds.PropertyReadOnly = h 23 kinds.PropertyReadOnly (omega arith)
each P h kinds.TimedOut = h 24 kinds.TimedOut (omega arith)
each P h kinds.MatchRuleNotFound = h 25 kinds.MatchRuleNotFound (omega arith)
each P h kinds.MatchRuleInvalid = h 26 kinds.MatchRuleInvalid (omega arith)
each P h kinds.UnixProcessIdUnknown = h 27 kinds.UnixProcessIdUnknown (omega arith)
each P h kinds.InvalidSignature = h 28 kinds.InvalidSignature (omega arith)
each P h kinds.InvalidFileContent = h 29 kinds.InvalidFileContent (omega arith)
each P h kinds.SELinuxSecurityContextUnknown = h 30 kinds.SELinuxSecurityContextUnknown (omega arith)
each P h kinds.AdtAuditDataUnknown = h 31 kinds.AdtAuditDataUnknown (omega arith)
each P h kinds.ObjectPathInUse = h 32 kinds.ObjectPathInUse (omega arith)
each P h kinds.InconsistentMessage = h 33 kinds.InconsistentMessage (omega arith)
each P h kinds.InteractiveAuthorizationRequired = h 34 kinds.InteractiveAuthorizationRequired (omega arith)
each P h kinds.NotContainer = h 35 kinds.NotContainer (omega arith)
each P h kinds.SpawnExecFailed = h 36 kinds.SpawnExecFailed (omega arith)
each P h kinds.SpawnForkFailed = h 37 kinds.SpawnForkFailed (omega arith)
each P h kinds.SpawnChildExited = h 38 kinds.SpawnChildExited (omega arith)
each P h kinds.SpawnChildSignaled = h 39 kinds.SpawnChildSignaled (omega arith)
each P h kinds.SpawnFailed = h 40 kinds.SpawnFailed (omega arith)
each P h kinds.SpawnFailedToSetup = h 41 kinds.SpawnFailedToSetup (omega arith)
each P h kinds.SpawnConfigInvalid = h 42 kinds.SpawnConfigInvalid (omega arith)
each P h kinds.SpawnServiceNotValid = h 43 kinds.SpawnServiceNotValid (omega arith)
each P h kinds.SpawnServiceNotFound = h 44 kinds.SpawnServiceNotFound (omega arith)
each P h kinds.SpawnPermissionsInvalid = h 45 kinds.SpawnPermissionsInvalid (omega arith)
each P h kinds.SpawnFileInvalid = h 46 kinds.SpawnFileInvalid (omega arith)
each P h kinds.SpawnNoMemory = h 47 kinds.SpawnNoMemory (omega arith)

below_next : (k i : ℕ) → k < i + 1 → (k < i) ⊎ (k ≡ i)
below_next k i h = grind arith

-- what holds before a place and at it holds before the next
pub one_more : (P : Kind → Type 0) (ks : List Kind) (i : ℕ) → i < length ks → P (slice_index_or ks i kinds.Failed) → AllWithin P ks 0 i → AllWithin P ks 0 (i + 1)
one_more P ks i in_range at before k d low high =
    elim (below_next k i high) [ inl h ↦ before k d low h | inr e ↦ subst (λ n. P (slice_index_or ks n d)) (sym e) (subst P (get_or_default ks i kinds.Failed d in_range) at) ]

-- the first of all kinds with a name is the one that has it
pub first_is : (found : Option Kind) (text : List ℕ) → (IsNone found → All (λ kind. kind_name kind ≢ text) all) → IfSome found (λ kind. text ≡ kind_name kind) → (k : Kind) → (found ≡ Some k) ↔ (text ≡ kind_name k)
first_is None text none some k = (λ e. absurd (none-some k e), λ e. absurd (each (λ kind. kind_name kind ≢ text) (none refl) k (sym e)))
first_is (Some found) text none some k = (λ e. some ∙ ap kind_name (some_injective e), λ e. ap Some (two_names found k (sym some ∙ e)))
