-- One entry more is counted.
use Rattle.std.proofs.Common.{ℕ, ◌≡◌, ◌+◌, ◌<◌, ◌∙◌, ap, sym, cond, List, [], ◌∷◌, ◌++◌, length, get_or, take, refl}
use Rattle.std.proofs.lemmas.{Grind.take_at_read, List.Sums.sum_by_push}
use Rattle.peer_words.specs.declared.answer.Entry.{Entry}
use Rattle.peer_gen.specs.declared.counts.Counts.{Counts}
use Rattle.peer_gen.specs.Counted.{counts_of, with_entry, is_called, is_replied, is_signal_read, is_item, entry_product}

-- the numbers of entries and of one behind them
pushed : (serials : List ℕ) (entries : List Entry) (e : Entry) → counts_of serials (entries ++ e ∷ []) ≡ with_entry serials (counts_of serials entries) e
pushed serials entries e =
    rw (
      sum_by_push (λ (x : Entry). cond (is_called x.answer) 1 0) entries e,
      sum_by_push (λ (x : Entry). cond (is_replied x.answer) 1 0) entries e,
      sum_by_push (λ (x : Entry). cond (is_signal_read x.read) 1 0) entries e,
      sum_by_push (λ (x : Entry). cond (is_item x.answer) 1 0) entries e,
      sum_by_push (entry_product serials) entries e,
    ) refl

pub one_more : (serials : List ℕ) (entries : List Entry) (i : ℕ) (d : Entry) (before after : Counts) → i < length entries → before ≡ counts_of serials (take i entries)
    → after ≡ with_entry serials before (get_or entries i d) → after ≡ counts_of serials (take (i + 1) entries)
one_more serials entries i d before after h b a =
    a ∙ ap (λ c. with_entry serials c (get_or entries i d)) b ∙ sym (pushed serials (take i entries) (get_or entries i d)) ∙ ap (counts_of serials) (sym (take_at_read entries i d h).1)
