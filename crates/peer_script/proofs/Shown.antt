-- A text that is shown in runs.
use Rattle.std.proofs.Common.{ℕ, ◌≡◌, ◌+◌, ◌-◌, ◌<◌, ◌≤◌, ◌++◌, ◌∷◌, [], ◌∙◌, List, ap, sym, arith, drop, take, length, slice_index_or, append_assoc, append-nil}
use Rattle.std.proofs.lemmas.List.{take_more, length-take-le, drop-take}
use Rattle.std.proofs.lemmas.Grind.{flat_map-append}
use Rattle.std.proofs.Math.ListN.{drop_of_length-le}
use Rattle.peer_words.specs.Hex.{hex_two}
use Rattle.peer_script.specs.Transcript.{shown_byte, shown_text}

-- one byte more is shown as these
next_shown : (bs word : List ℕ) (i : ℕ) → i < length bs → shown_byte (slice_index_or bs i 0) ≡ word → shown_text (take (i + 1) bs) ≡ shown_text (take i bs) ++ word
next_shown bs word i h e =
    ap shown_text (take_more bs i 0 h) ∙ flat_map-append shown_byte (take i bs) (slice_index_or bs i 0 ∷ [])
    ∙ ap (λ w. shown_text (take i bs) ++ w) (append-nil (shown_byte (slice_index_or bs i 0)) ∙ e)

-- what was put, the bytes behind it as they are, and then a byte that isn't shown as itself
pub escaped : (bs init text plain mark new : List ℕ) (from i : ℕ) → i < length bs → from ≤ i → shown_byte (slice_index_or bs i 0) ≡ 92 ∷ hex_two (slice_index_or bs i 0)
    → text ++ drop from (take i bs) ≡ init ++ shown_text (take i bs)
    → plain ≡ text ++ take (i - from) (drop from bs) → mark ≡ plain ++ (92 ∷ []) → new ≡ mark ++ hex_two (slice_index_or bs i 0)
    → new ++ drop (i + 1) (take (i + 1) bs) ≡ init ++ shown_text (take (i + 1) bs)
escaped bs init text plain mark new from i h le e p q r s =
    let b = slice_index_or bs i 0 in
    let gone : drop (i + 1) (take (i + 1) bs) ≡ [] = drop_of_length-le (take (i + 1) bs) (omega (arith, length-take-le (i + 1) bs (omega arith))) in
    let whole : i ≡ from + (i - from) = omega arith in
    let run : drop from (take i bs) ≡ take (i - from) (drop from bs) = ap (λ k. drop from (take k bs)) whole ∙ drop-take from (i - from) bs in
    ap (λ l. new ++ l) gone
    ∙ append-nil new
    ∙ s ∙ ap (λ l. l ++ hex_two b) (r ∙ ap (λ l. l ++ (92 ∷ [])) (q ∙ ap (λ l. text ++ l) (sym run) ∙ p))
    ∙ append_assoc (init ++ shown_text (take i bs)) (92 ∷ []) (hex_two b)
    ∙ append_assoc init (shown_text (take i bs)) (92 ∷ hex_two b)
    ∙ ap (λ l. init ++ l) (sym (next_shown bs (92 ∷ hex_two b) i h e))
