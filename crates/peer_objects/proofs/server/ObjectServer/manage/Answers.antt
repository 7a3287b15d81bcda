use Rattle.std.proofs.Common.{◌≡◌, refl, sym, ◌∙◌, ap, subst, ℕ, List, [], ◌∷◌, ◌++◌, append_assoc, slice_get, true, false, Bool, not, filter, is_some}
use Rattle.std.specs.List.{AllZip}
use Rattle.object_standard.specs.declared.object_manager.ManagedInterface.{ManagedInterface}
use Rattle.object_tree.specs.Standard.{standard_named, is_standard}
use Rattle.peer_objects.specs.Standard.{ManagesInterface}
use Rattle.peer_objects.specs.Reaching.{is_kept}
use Rattle.peer_objects.proofs.Every.{RowsKept, behind, told_more, passes_more, passes_same, named_standard}
use Rattle.peer_objects.proofs.server.ObjectServer.manage.Goals as goal
use Rattle.peer_objects.proofs.server.ObjectServer.manage.Goals.{then-is_none+in_ok-manage_interface+in_ok-push, else-is_none}

pub manage_interface-requires-after_bounds : goal.manage_interface-requires-after_bounds
manage_interface-requires-after_bounds g c κs within =
    let is : c.loop-name.name-iterator.rest.items ≡ (c.in-Some.name, c.in-Some.slot) ∷ c.next.new.self.rest.items = c.in-Some.ensures.steps.0 in
    let all : c.loop-name.yielded ++ (c.in-Some.name, c.in-Some.slot) ∷ c.next.new.self.rest.items ≡ c.args.object.now.1 = ap (λ ts. c.loop-name.yielded ++ ts) (sym is) ∙ c.loop-name.invariant.all in
    behind (λ (row : List ℕ × ℕ). is_kept (slice_get c.args.self.now.1 row.1) ≡ true) c.loop-name.yielded (c.in-Some.name, c.in-Some.slot) c.next.new.self.rest.items (subst (λ (rows : List (List ℕ × ℕ)). RowsKept c.args.self.now.1 rows) (sym all) c.requires)

pub loop-name-preserved : goal.loop-name-preserved
loop-name-preserved g c =
    let inv = c.loop-name.invariant in
    let row : List ℕ × ℕ = (c.in-Some.name, c.in-Some.slot) in
    let is : c.loop-name.name-iterator.rest.items ≡ row ∷ c.next.new.self.rest.items = c.in-Some.ensures.steps.0 in
    let all = append_assoc c.loop-name.yielded (row ∷ []) c.next.new.self.rest.items ∙ ap (λ ts. c.loop-name.yielded ++ ts) (sym is) ∙ inv.all in
    let R : List ℕ × ℕ → ManagedInterface → Type 0 = ManagesInterface g.B.Interface.meaning g.B.Interface.state c.args.self.now.1 in
    let t : List ℕ × ℕ → Bool = λ x. not (is_standard x.0) in
    let standard : is_some c.named.result ≡ is_standard c.in-Some.name = ap is_some (c.named.ensures ∙ ap standard_named c.as_str.ensures.value) ∙ named_standard c.in-Some.name in
    elim c.if-is_none.branch [
      | then-is_none+in_ok-manage_interface+in_ok-push w ↦
          let passes : t row ≡ true = ap not (sym standard ∙ c.is_none.ensures ∙ ap not w.if-is_none.true) in record {
            all = all;
            told = subst (AllZip R (filter t (c.loop-name.yielded ++ row ∷ []))) (sym (w.interfaces-is ∙ w.in_ok-push.ensures.done))
                (subst (λ (l : List (List ℕ × ℕ)). AllZip R l (c.loop-name.interfaces ++ w.in_ok-manage_interface.field-0 ∷ [])) (sym (passes_more t c.loop-name.yielded row passes)) (told_more R (filter t c.loop-name.yielded) c.loop-name.interfaces row w.in_ok-manage_interface.field-0 inv.told w.in_ok-manage_interface.ensures));
          }
      | else-is_none w ↦
          let passes : t row ≡ false = ap not (sym standard ∙ c.is_none.ensures ∙ ap not w.if-is_none.false) in record {
            all = all;
            told = subst (AllZip R (filter t (c.loop-name.yielded ++ row ∷ []))) (sym w.interfaces-is)
                (subst (λ (l : List (List ℕ × ℕ)). AllZip R l c.loop-name.interfaces) (sym (passes_same t c.loop-name.yielded row passes)) inv.told);
          }
    ]
