-- A value that passes a test, and where it stands.
use Rattle.std.proofs.Common.{◌≡◌, refl, ◌∙◌, ap, ◌⊎◌, inl, inr, ℕ, zero, suc, Bool, true, List, [], ◌∷◌, Some, slice_get}
use Rattle.wire_names.specs.Names.{IsBusName}
use Rattle.wire_tree.specs.Datum.{Datum, string, object_path, signature, num, text, array, dict, struct, variant}
use Rattle.wire_number.proofs.Steps.{some_is}
use Rattle.rule_match.specs.Below.{IsAtOrBelow}
use Rattle.rule_match.specs.PathMatch.{IsPathMatch}
use Rattle.rule_match.specs.ArgumentTests.{is_string, is_path, is_name_in, has_at}
use Rattle.rule_match.proofs.Both.{first_true, second_true}
use Rattle.rule_match.proofs.Texts.{same_is, below_from_test, match_from_test}

pub string_is : (wanted : List ℕ) (d : Datum) → is_string wanted d ≡ true → d ≡ text string wanted
string_is wanted (num n v) h = absurd (cc)
string_is wanted (text string bytes) h = ap (text string) (same_is bytes wanted h)
string_is wanted (text object_path bytes) h = absurd (cc)
string_is wanted (text signature bytes) h = absurd (cc)
string_is wanted (array t ds) h = absurd (cc)
string_is wanted (dict k v es) h = absurd (cc)
string_is wanted (struct ds) h = absurd (cc)
string_is wanted (variant d) h = absurd (cc)

pub path_is : (wanted : List ℕ) (d : Datum) → is_path wanted d ≡ true
    → (found : List ℕ) × ((d ≡ text string found) ⊎ (d ≡ text object_path found)) × IsPathMatch wanted found
path_is wanted (num n v) h = absurd (cc)
path_is wanted (text string bytes) h = (bytes, inl refl, match_from_test wanted bytes h)
path_is wanted (text object_path bytes) h = (bytes, inr refl, match_from_test wanted bytes h)
path_is wanted (text signature bytes) h = absurd (cc)
path_is wanted (array t ds) h = absurd (cc)
path_is wanted (dict k v es) h = absurd (cc)
path_is wanted (struct ds) h = absurd (cc)
path_is wanted (variant d) h = absurd (cc)

pub name_is : (namespace : List ℕ) (d : Datum) → is_name_in namespace d ≡ true → (name : List ℕ) × (d ≡ text string name) × IsBusName name × IsAtOrBelow 46 namespace name
name_is namespace (num n v) h = absurd (cc)
name_is namespace (text string bytes) h = (bytes, refl, first_true _ _ h, below_from_test 46 namespace bytes (second_true _ _ h))
name_is namespace (text object_path bytes) h = absurd (cc)
name_is namespace (text signature bytes) h = absurd (cc)
name_is namespace (array t ds) h = absurd (cc)
name_is namespace (dict k v es) h = absurd (cc)
name_is namespace (struct ds) h = absurd (cc)
name_is namespace (variant d) h = absurd (cc)

pub at_found : (test : Datum → Bool) (k : ℕ) (ds : List Datum) → has_at test k ds ≡ true → (d : Datum) × (slice_get ds k ≡ Some d) × (test d ≡ true)
at_found test k [] h = absurd (cc)
at_found test zero (d ∷ ds) h = (d, refl, h)
at_found test (suc k) (d ∷ ds) h = at_found test k ds h

pub at_again : (test : Datum → Bool) (k : ℕ) (ds : List Datum) (d : Datum) → slice_get ds k ≡ Some d → test d ≡ true → has_at test k ds ≡ true
at_again test k [] d e h = absurd (cc)
at_again test zero (x ∷ ds) d e h = ap test (some_is x d e) ∙ h
at_again test (suc k) (x ∷ ds) d e h = at_again test k ds d e h
