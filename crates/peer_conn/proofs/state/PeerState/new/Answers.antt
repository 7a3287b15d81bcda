-- The capacity is set, then the bus, and then the name.
use Rattle.std.proofs.Common.{◌≡◌, ◌∙◌, ℕ, refl, sym, ap, subst, Bool, true, false, Option, Some, None, is_none, List, [], ◌∷◌, if◌then◌else◌, option_map}
use Rattle.std.specs.Prelude.{option_to_list}
use Rattle.peer_core.specs.{History.{Past, Main, OnBus, Named, no_past, after_all}, Asked.all_given, Refinement.Refines}
use Rattle.peer_route.specs.Entries.{replay}
use Rattle.peer_route.proofs.Kept.{at_start}
use Rattle.peer_conn.specs.Handles.{HasHandles}
use Rattle.peer_conn.proofs.{state.PeerState.new.Goals.{in-Some, in_default, then-bus, else-bus, in-Some-name, in_default-name}}
use Rattle.peer_conn.proofs.state.PeerState.new.Goals as goal

abbrev with_queue : Option ℕ → Past
with_queue limit = after_all (option_to_list (option_map Main limit)) no_past

abbrev with_bus : Bool → Past → Past
with_bus bus h = after_all (if bus then OnBus ∷ [] else []) h

abbrev with_name : Option (List ℕ) → Past → Past
with_name name h = after_all (option_to_list (option_map Named name)) h

unnamed : (bus : Bool) (queue : Option ℕ) → (with_bus bus (with_queue queue)).name ≡ None
unnamed false None = refl
unnamed false (Some limit) = refl
unnamed true None = refl
unnamed true (Some limit) = refl

pub returns : goal.returns
returns c setting on named is =
    let first : Refines c.match-queue.route (with_queue c.args.queue) = elim c.match-queue.branch [
      | in-Some w ↦ rw (w.route-is, w.in-Some.is) (w.set_main_max_queued.ensures no_past c.new-route.ensures)
      | in_default w ↦ rw (w.route-is, w.in_default.is) c.new-route.ensures
    ] in
    let set : Refines c.if-bus.route (with_bus c.args.bus (with_queue c.args.queue)) = elim c.if-bus.branch [
      | then-bus w ↦ rw (w.route-is, w.if-bus.true) (w.set_bus.ensures (with_queue c.args.queue) first)
      | else-bus w ↦ rw (w.route-is, w.if-bus.false) first
    ] in
    let left : Refines c.match-name.route (with_name c.args.name (with_bus c.args.bus (with_queue c.args.queue))) = elim c.match-name.branch [
      | in-Some-name w ↦ rw (w.route-is, w.in-Some-name.is)
          (w.set_unique_name.ensures.named (w.set_unique_name.ensures.exact ∙ ap is_none (set.name ∙ unnamed c.args.bus c.args.queue)) (with_bus c.args.bus (with_queue c.args.queue)) set)
      | in_default-name w ↦ rw (w.route-is, w.in_default-name.is) set
    ] in
    let named_so =
    (subst (λ b. Refines c.match-name.route (with_name setting.name (with_bus b (with_queue setting.queue)))) (sym on)
    (subst (λ q. Refines c.match-name.route (with_name setting.name (with_bus c.args.bus (with_queue q)))) (sym is)
    (subst (λ n. Refines c.match-name.route (with_name n (with_bus c.args.bus (with_queue c.args.queue)))) (sym named) left))) in
    record {
      keeps = record { left = named_so; held = subst (HasHandles (replay setting []).past) (sym c.new-3.ensures.items) (at_start (λ h. HasHandles h []) tt (λ limit h so. so) (λ h so. so) (λ name h so. so) setting); given = c.new-4.ensures.items ∙ sym (at_start (λ h. all_given h ≡ []) refl (λ limit h so. so) (λ h so. so) (λ name h so. so) setting) };
      calls = c.new.ensures;
      streams = c.new-2.ensures;
      server = refl;
    }
