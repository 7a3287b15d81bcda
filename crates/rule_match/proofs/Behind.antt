-- What a walk that stands behind some arguments tells of all of them.
use Rattle.std.proofs.Common.{◌≡◌, refl, sym, ap, ◌∙◌, ℕ, ◌<◌, List, length, Option, Some, None, is_some, arith}
use Rattle.wire_number.specs.ReaderView.{cursor_of}
use Rattle.wire_number.proofs.Steps.{some_is}
use Rattle.wire_signature.specs.SingleType.{SingleType, SignatureText}
use Rattle.wire_signature.specs.Parsing.{types_in}
use Rattle.wire_signature.proofs.Exact.{types_in-takes, types_in-again}
use Rattle.wire_tree.specs.Datum.{Datum}
use Rattle.rule_match.specs.declared.walk.Walk.{Walk}
use Rattle.rule_match.specs.Finding.{NothingNext}
use Rattle.rule_match.specs.Found.{kept_at, text_at}
use Rattle.rule_match.specs.Sources.{arguments_from}
use Rattle.rule_match.specs.Walking.{IsBehind, IsWalk, HasEnded}
use Rattle.rule_match.proofs.FoundTexts.{text_within, text_beyond}
use Rattle.rule_match.proofs.Walks.{refused, ended, begins, nothing_long, signature_or_none, types_of}

module _ (w : Walk) (walk : IsWalk w) where
  -- none can be read where the next can't
  pub none_next : 0 < length w.types.now → NothingNext w.source.order w.types.now (cursor_of w.reader) → arguments_from w.source ≡ None
  none_next more none =
      signature_or_none w.source.order w.source.signature.now w.source.body.now
      (λ ts s. refused w.source.order w.source.signature.now w.source.body.now w.types.now (cursor_of w.reader) (walk.behind ts s).0 (walk.behind ts s).1.has_passed (λ e. omega (arith, more, ap length e)) none)

  -- those that are passed are all where no types are left
  pub all_passed : (ts : List SingleType) → SignatureText ts w.source.signature.now → length w.types.now ≡ 0 → (passed : List Datum) × IsBehind w passed × (arguments_from w.source ≡ Some passed)
  all_passed ts s none =
      let b = walk.behind ts s in
      (b.0, b.1, ended w.source.order w.source.signature.now w.source.body.now w.types.now (cursor_of w.reader) b.0 b.1.has_passed (nothing_long w.types.now none))

  -- all can be read where no types are left and their text is a signature
  pub settled : length w.types.now ≡ 0 → is_some (types_in w.source.signature.now) ≡ is_some (arguments_from w.source)
  settled none = of_types (types_in w.source.signature.now) refl where
    of_types : (o : Option (List SingleType)) → types_in w.source.signature.now ≡ o → is_some o ≡ is_some (arguments_from w.source)
    of_types None e = sym (ap is_some (signature_or_none w.source.order w.source.signature.now w.source.body.now (λ ts s. absurd (cc (e, types_in-again ts w.source.signature.now s)))))
    of_types (Some ts) e = sym (ap is_some (all_passed ts (types_in-takes w.source.signature.now ts e) none).2)

  module _ (ds : List Datum) (are : arguments_from w.source ≡ Some ds) where
    behind : (passed : List Datum) × IsBehind w passed
    behind = let t = types_of w.source.order w.source.signature.now w.source.body.now ds are in walk.behind t.0 t.1

    -- the text of an argument that is passed was kept, where a rule can speak of it
    pub kept_text : (k : ℕ) → k < 64 → k < w.index → kept_at w.found.texts k ≡ text_at ds k
    kept_text k low below =
        let b = behind in
        let x = begins w.source.order w.source.signature.now w.source.body.now w.types.now (cursor_of w.reader) b.0 b.1.has_passed ds are in
        b.1.texts k low below ∙ sym (text_within b.0 x.0 k (omega (arith, below, b.1.count))) ∙ ap (λ es. text_at es k) x.1

    -- there is no argument behind the last
    pub no_text_left : (k : ℕ) → HasEnded w k → None ≡ text_at ds k
    no_text_left k h =
        let t = types_of w.source.order w.source.signature.now w.source.body.now ds are in
        let a = all_passed t.0 t.1 h.ended in
        sym (text_beyond a.0 k (omega (arith, h.beyond, a.1.count))) ∙ ap (λ es. text_at es k) (some_is a.0 ds (sym a.2 ∙ are))
