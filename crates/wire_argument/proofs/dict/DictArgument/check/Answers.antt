use Rattle.std.proofs.Common.{rules, ◌≡◌, ◌∙◌, map, ap, sym, arith, subst, add-one, List}
use Rattle.wire_signature.specs.declared.error.VariantError.TheVariants as errors
use Rattle.wire_tree.specs.Datum.{data_of, entry, entry_type, AreElements}
use Rattle.wire_tree.proofs.Lists.{pairs_of-entries_of}
use Rattle.wire_tree.proofs.Checked.{element-item}
use Rattle.wire_argument.specs.Kinds.{both}
use Rattle.wire_argument.proofs.Passing.{deep_check}
use Rattle.wire_argument.proofs.Dicts.{checked_next, checked_deep, checked_all, tells_deep, tells_room, told_malformed, round_all, entries_by, entry_kind}
use Rattle.wire_argument.proofs.dict.DictArgument.check.Goals as goal
use Rattle.wire_argument.proofs.dict.DictArgument.check.Goals.{in-Err+else-ne, in_default}

pub returns-then-ne-clause-told : goal.returns-then-ne-clause-told
returns-then-ne-clause-told g c =
    let not_deep : c.in-Err.error ≡ errors.Depth → ⊥ = search rules in
    told_malformed c.in-Err.error _ _ _ _ _ _ not_deep
    (λ w. (element-item (λ e. entry (both g.K.Argument.datum g.V.Argument.datum e)) (entry_type g.K.Key.basic g.V.Argument.kind) c.as_slice-each-items.result.now c.loop-each.each-index c.each-item.result
    (subst (AreElements (entry_type g.K.Key.basic g.V.Argument.kind)) (entries_by g.K.Argument.datum g.V.Argument.datum c.args.self.now ∙ ap (λ es. data_of (map (λ e. entry (both g.K.Argument.datum g.V.Argument.datum e)) es)) (sym c.as_slice-each-items.ensures)) w) c.loop-each-test.true c.each-item.is).0)
    c.in-Err.ensures.told

pub loop-each-preserved : goal.loop-each-preserved
loop-each-preserved g c =
    let kind = entry_kind (g.K.Argument.datum c.each-item.result.0) (g.V.Argument.datum c.each-item.result.1) g.K.Key.basic g.V.Argument.kind
    (g.met.K.Argument.of_kind c.each-item.result.0 ∙ g.met.K.Key.is_basic) (g.met.V.Argument.of_kind c.each-item.result.1) in
    elim c.match-check_entry.branch [
      | in-Err+else-ne w ↦
          (let same : w.in-Err.error ≡ errors.Depth = search rules in
          let told = deep_check w.in-Err.error _ _ _ same w.in-Err.ensures.told in
          rw (w.deep-is, add-one)
          (checked_deep (λ e. entry (both g.K.Argument.datum g.V.Argument.datum e)) (λ e. both g.K.Argument.read g.V.Argument.read (both g.K.Argument.datum g.V.Argument.datum e)) (entry_type g.K.Key.basic g.V.Argument.kind) c.as_slice-each-items.result.now c.loop-each.each-index c.each-item.result
          c.args.room c.loop-each.deep c.loop-each.invariant c.loop-each-test.true c.each-item.is told.0 kind (omega (arith, told.1))))
      | in_default w ↦
          rw (w.deep-is, add-one)
          (checked_next (λ e. entry (both g.K.Argument.datum g.V.Argument.datum e)) (λ e. both g.K.Argument.read g.V.Argument.read (both g.K.Argument.datum g.V.Argument.datum e)) (entry_type g.K.Key.basic g.V.Argument.kind) c.as_slice-each-items.result.now c.loop-each.each-index c.each-item.result
          c.args.room c.loop-each.deep c.loop-each.invariant c.loop-each-test.true c.each-item.is w.in_default.ensures.told.0 kind (omega (arith, w.in_default.ensures.told.1))
          w.in_default.ensures.round)
    ]

pub returns-then-deep-clause-told : goal.returns-then-deep-clause-told
returns-then-deep-clause-told g c =
    tells_deep (λ e. entry (both g.K.Argument.datum g.V.Argument.datum e)) (λ e. both g.K.Argument.read g.V.Argument.read (both g.K.Argument.datum g.V.Argument.datum e)) (entry_type g.K.Key.basic g.V.Argument.kind) c.as_slice-each-items.result.now _ c.args.room c.loop-each.deep
    (checked_all (λ e. entry (both g.K.Argument.datum g.V.Argument.datum e)) (λ e. both g.K.Argument.read g.V.Argument.read (both g.K.Argument.datum g.V.Argument.datum e)) (entry_type g.K.Key.basic g.V.Argument.kind) c.as_slice-each-items.result.now c.loop-each.each-index c.args.room c.loop-each.deep c.loop-each.invariant (omega arith))
    (entries_by g.K.Argument.datum g.V.Argument.datum c.args.self.now ∙ ap (λ es. data_of (map (λ e. entry (both g.K.Argument.datum g.V.Argument.datum e)) es)) (sym c.as_slice-each-items.ensures)) c.if-deep.true

pub returns-else-deep-clause-told : goal.returns-else-deep-clause-told
returns-else-deep-clause-told g c =
    tells_room (λ e. entry (both g.K.Argument.datum g.V.Argument.datum e)) (λ e. both g.K.Argument.read g.V.Argument.read (both g.K.Argument.datum g.V.Argument.datum e)) (entry_type g.K.Key.basic g.V.Argument.kind) c.as_slice-each-items.result.now _ c.args.room c.loop-each.deep
    (checked_all (λ e. entry (both g.K.Argument.datum g.V.Argument.datum e)) (λ e. both g.K.Argument.read g.V.Argument.read (both g.K.Argument.datum g.V.Argument.datum e)) (entry_type g.K.Key.basic g.V.Argument.kind) c.as_slice-each-items.result.now c.loop-each.each-index c.args.room c.loop-each.deep c.loop-each.invariant (omega arith))
    (entries_by g.K.Argument.datum g.V.Argument.datum c.args.self.now ∙ ap (λ es. data_of (map (λ e. entry (both g.K.Argument.datum g.V.Argument.datum e)) es)) (sym c.as_slice-each-items.ensures)) c.if-deep.false

pub returns-else-deep-clause-round : goal.returns-else-deep-clause-round
returns-else-deep-clause-round g c =
    ap (map (both g.K.Argument.read g.V.Argument.read)) (pairs_of-entries_of (map (both g.K.Argument.datum g.V.Argument.datum) c.args.self.now))
    ∙ subst (λ (es : List _). map (both g.K.Argument.read g.V.Argument.read) (map (both g.K.Argument.datum g.V.Argument.datum) es) ≡ es) c.as_slice-each-items.ensures
    (round_all (both g.K.Argument.datum g.V.Argument.datum) (both g.K.Argument.read g.V.Argument.read) c.as_slice-each-items.result.now c.loop-each.each-index (omega arith) (c.loop-each.invariant.round c.if-deep.false))
