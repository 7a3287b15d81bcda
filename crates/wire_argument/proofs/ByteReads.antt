-- Bytes as they are read.
use Rattle.std.proofs.Common.{◌≡◌, ℕ, ◌-◌, ◌<◌, List, [], ◌∷◌, length, map, Some, None, option_map, refl, ◌∙◌, ap}
use Rattle.wire_signature.specs.declared.basic.BasicType.TheVariants as basics
use Rattle.wire_signature.specs.declared.error.VariantError.{VariantError}
use Rattle.wire_signature.specs.SingleType.{basic, array as array_of}
use Rattle.wire_number.specs.declared.endian.Endian.{Endian}
use Rattle.wire_number.specs.Reading.{Cursor, made, ◌>>=◌}
use Rattle.wire_tree.specs.Datum.{byte, num, array, data_of, list_of}
use Rattle.wire_tree.proofs.Lists.{list_of-data_of}
use Rattle.wire_encoding.specs.Reading.{many_at, elements_at, num_value_at, value_at}
use Rattle.wire_encoding.specs.ReaderView.{Refuses}
use Rattle.wire_encoding.proofs.Loops.{refuses_as, value_in_room}
use Rattle.wire_encoding.proofs.Packed.{many_numbers}
use Rattle.wire_argument.specs.Kinds.{bits_in, elements_in}
use Rattle.wire_argument.proofs.NumberLists.{bits_back}
use Rattle.wire_argument.proofs.ArrayReads.{array_made, no_array, many_made}

same_list : (xs : List ℕ) → map (λ v. v) xs ≡ xs
same_list [] = refl
same_list (x ∷ xs) = ap (λ ys. x ∷ ys) (same_list xs)

pub bytes_back : (xs : List ℕ) → map bits_in (list_of (data_of (map (num byte) xs))) ≡ xs
bytes_back xs = ap (map bits_in) (list_of-data_of (map (num byte) xs)) ∙ bits_back (λ v. v) byte xs ∙ same_list xs

-- what an array of bytes is read as, by its bytes
bytes_are : (room : ℕ) (order : Endian) (c inner after : Cursor) → 0 < room → elements_at order 1 c ≡ Some (inner, after)
    → made (λ d. map bits_in (elements_in d)) (value_at room order (array_of (basic basics.Byte)) c)
    ≡ (option_map (map bits_in) (many_at (length inner.rest) (num_value_at byte order) inner) >>= λ ys. Some (ys, after))
bytes_are room order c inner after some e =
    ap (made (λ d. map bits_in (elements_in d))) (value_in_room room order (array_of (basic basics.Byte)) c some)
    ∙ array_made bits_in (λ ds. array (basic basics.Byte) (data_of ds)) (λ d. map bits_in (elements_in d)) 1 (value_at (room - 1) order (basic basics.Byte)) order c (inner, after)
    (λ ds. ap (map bits_in) (list_of-data_of ds)) e
    ∙ ap (λ o. o >>= λ ys. Some (ys, after))
    (many_made bits_in (value_at (room - 1) order (basic basics.Byte)) (length inner.rest) inner ∙ ap (option_map (map bits_in)) (many_numbers (length inner.rest) (room - 1) order byte inner))

pub bytes_found : (room : ℕ) (order : Endian) (c inner after : Cursor) (bs : List ℕ) → 0 < room → elements_at order 1 c ≡ Some (inner, after)
    → many_at (length inner.rest) (num_value_at byte order) inner ≡ Some (map (num byte) bs)
    → made (λ d. map bits_in (elements_in d)) (value_at room order (array_of (basic basics.Byte)) c) ≡ Some (bs, after)
bytes_found room order c inner after bs some e found =
    bytes_are room order c inner after some e ∙ ap (λ o. option_map (map bits_in) o >>= λ ys. Some (ys, after)) found
    ∙ ap (λ ys. Some (ys, after)) (bits_back (λ v. v) byte bs ∙ same_list bs)

pub bytes_refused : (x : VariantError) (room : ℕ) (order : Endian) (c inner after : Cursor) → 0 < room → elements_at order 1 c ≡ Some (inner, after)
    → Refuses x (many_at (length inner.rest) (num_value_at byte order) inner)
    → Refuses x (made (λ d. map bits_in (elements_in d)) (value_at room order (array_of (basic basics.Byte)) c))
bytes_refused x room order c inner after some e h =
    refuses_as x (many_at (length inner.rest) (num_value_at byte order) inner) _
    (λ none. bytes_are room order c inner after some e ∙ ap (λ o. option_map (map bits_in) o >>= λ ys. Some (ys, after)) none) h

pub no_bytes : (room : ℕ) (order : Endian) (c : Cursor) → 0 < room → elements_at order 1 c ≡ None
    → made (λ d. map bits_in (elements_in d)) (value_at room order (array_of (basic basics.Byte)) c) ≡ None
no_bytes room order c some e =
    ap (made (λ d. map bits_in (elements_in d))) (value_in_room room order (array_of (basic basics.Byte)) c some)
    ∙ no_array (λ ds. array (basic basics.Byte) (data_of ds)) (λ d. map bits_in (elements_in d)) 1 (value_at (room - 1) order (basic basics.Byte)) order c e
