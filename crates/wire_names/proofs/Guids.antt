-- What the digits of a GUID are.
use Rattle.std.proofs.Common.{◌≡◌, ◌<◌, ℕ, zero, suc, List, Bool, true, refl, arith, All, slice_index_or}
use Rattle.std.specs.List.{list_all}
use Rattle.std.specs.Char.{is_ascii_hexdigit}
use Rattle.std.proofs.lemmas.Bool.Decides.{nat_tests}
use Rattle.std.proofs.lemmas.List.Folds.{list_all-append}
use Rattle.std.proofs.lemmas.List.Sums.{AllPass-from_list_all}
use Rattle.uuid.specs.Text.{by_index, hex_digit, nibble, simple_text, lower}
use Rattle.uuid.proofs.TextLemmas.{by_index_length, nibble_small}
use Rattle.wire_names.specs.Guid.{is_guid, IsGuid}

digit_byte : (b : ℕ) → is_ascii_hexdigit b ≡ true → (0 < b) × (b < 128)
digit_byte b h = grind (arith, nat_tests)

-- a GUID is ASCII without a 0 byte
pub guid_bytes : (text : List ℕ) → IsGuid text → All (λ byte. (0 < byte) × (byte < 128)) text
unfolding is_guid
guid_bytes text h k d l = digit_byte (slice_index_or text k d) (AllPass-from_list_all is_ascii_hexdigit text (grind arith) k d l)

all_by_index : (p : ℕ → Bool) (n : ℕ) (f : ℕ → ℕ) → ((k : ℕ) → p (f k) ≡ true) → list_all p (by_index n f) ≡ true
unfolding by_index
all_by_index p zero f h = refl
all_by_index p (suc n) f h = rw list_all-append (grind (arith, h n, all_by_index p n f h))

lower_digit : (d : ℕ) → d < 16 → is_ascii_hexdigit (hex_digit lower d) ≡ true
lower_digit d h = grind (arith, nat_tests)

-- the simple form of a UUID is a GUID
pub simple_is_guid : (xs : List ℕ) → IsGuid (simple_text lower xs)
unfolding is_guid
simple_is_guid xs = grind (arith, nat_tests, by_index_length 32 (λ k. hex_digit lower (nibble xs k)), all_by_index is_ascii_hexdigit 32 (λ k. hex_digit lower (nibble xs k)) (λ k. lower_digit (nibble xs k) (nibble_small xs k)))
