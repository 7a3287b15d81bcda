-- A call is answered by the service, the messages are put, and whether the reply was is kept.
use Rattle.std.proofs.Common.{◌≡◌, sym, ◌∙◌, ap, subst, ℕ, [], ◌∷◌, true, Bool, List, Option}
use Rattle.std.specs.Global.{Vec}
use Rattle.wire_message.specs.Outgoing.{OutgoingMessageView}
use Rattle.peer_objects.specs.Notifying.{Notified, awaiting, is_known}
use Rattle.peer_core.specs.History.{Did}
use Rattle.peer_streams.specs.History.{Gave}
use Rattle.peer_route.specs.Entries.{Delivers}
use Rattle.peer_conn.proofs.Called.{AreUnawaited, AreBare}
use Rattle.peer_service.specs.Service.{ServiceView}
use Rattle.peer_turns.specs.Names.{Answer}
use Rattle.peer_turns.specs.Objects.{AnswersCall, is_replied, noted}
use Rattle.peer_turns.proofs.Answering.{served_quiet, all_known}
use Rattle.peer_turns.proofs.objects.answer_call.Goals as goal

pub begin_called-requires-clause-unawaited : goal.begin_called-requires-clause-unawaited
begin_called-requires-clause-unawaited g c =
    let listed : c.into_parts-messages.result.0.items ≡ c.in_ok-dispatch.field-0.messages.items = ap (λ (r : Vec OutgoingMessageView × Option ℕ). r.0.items) c.into_parts-messages.ensures in
    subst AreUnawaited (sym listed) (served_quiet g.R.Registry.meanings _ _ _ c.args.call.now _ _ _ _ c.in_ok-dispatch.ensures.served.served).0

pub begin_called-requires-clause-bare : goal.begin_called-requires-clause-bare
begin_called-requires-clause-bare g c =
    let listed : c.into_parts-messages.result.0.items ≡ c.in_ok-dispatch.field-0.messages.items = ap (λ (r : Vec OutgoingMessageView × Option ℕ). r.0.items) c.into_parts-messages.ensures in
    subst AreBare (sym listed) (served_quiet g.R.Registry.meanings _ _ _ c.args.call.now _ _ _ _ c.in_ok-dispatch.ensures.served.served).1

pub note-requires-after_bounds : goal.note-requires-after_bounds
note-requires-after_bounds g c κs within =
    let number : c.into_parts-messages.result.1 ≡ c.in_ok-dispatch.field-0.notifier = ap (λ (r : Vec OutgoingMessageView × Option ℕ). r.1) c.into_parts-messages.ensures in
    all_known c.into_parts-messages.result.1 c.args.service.now.notified c.dispatch.new.self.notified
    (c.in_ok-dispatch.ensures.notified ∙ ap (λ (n : Option ℕ). awaiting n c.args.service.now.notified) (sym number))

pub returns-clause-answers : goal.returns-clause-answers
returns-clause-answers g c =
    let m = c.args.call.now in
    let listed : c.into_parts-messages.result.0.items ≡ c.in_ok-dispatch.field-0.messages.items = ap (λ (r : Vec OutgoingMessageView × Option ℕ). r.0.items) c.into_parts-messages.ensures in
    let number : c.into_parts-messages.result.1 ≡ c.in_ok-dispatch.field-0.notifier = ap (λ (r : Vec OutgoingMessageView × Option ℕ). r.1) c.into_parts-messages.ensures in
    λ p k keeps server. subst (λ (v : ServiceView). AnswersCall g.R.Registry.meanings p k m c.in_ok-entry.entry c.args.service.now v) (sym c.note.ensures) (record {
      list = c.in_ok-dispatch.field-0.messages.items;
      notifier = c.in_ok-dispatch.field-0.notifier;
      served = c.in_ok-dispatch.ensures.served;
      numbers = c.dispatch.ensures.numbers;
      shelf = c.dispatch.ensures.shelf;
      machine = c.dispatch.ensures.machine;
      notified =
          ap (λ (b : Bool). noted b c.into_parts-messages.result.1 c.dispatch.new.self.notified) c.is_replied.ensures
          ∙ ap (λ (n : Option ℕ). noted (is_replied m c.in_ok-entry.entry.put) n c.dispatch.new.self.notified) number
          ∙ ap (noted (is_replied m c.in_ok-entry.entry.put) c.in_ok-dispatch.field-0.notifier) c.in_ok-dispatch.ensures.notified;
      delivers = subst (λ (a : Answer). Delivers true p (Did k Gave ∷ []) c.in_ok-dispatch.field-0.messages.items a c.in_ok-entry.entry) c.call_answer.ensures
          (subst (λ (l : List OutgoingMessageView). Delivers true p (Did k Gave ∷ []) l c.call_answer.result c.in_ok-entry.entry) listed (c.in_ok-entry.ensures.delivers p k keeps server));
    })
