-- What goes out where an interface answered.
use Rattle.std.proofs.Common.{◌≡◌, refl, sym, ap, ◌∙◌, ◌<◌, ℕ, Bool, true, false, if◌then◌else◌, List, [], ◌∷◌, ◌++◌, append_assoc, length, map, Option, Some, Result, Ok, Err, arith}
use Rattle.std.proofs.lemmas.Option.{same_Some, none-some}
use Rattle.std.specs.List.{AllByRecursion}
use Rattle.wire_tree.specs.Datum.{Datum}
use Rattle.wire_message.specs.Front.{MessageView}
use Rattle.wire_message.specs.Outgoing.{OutgoingMessageView, expects_reply}
use Rattle.wire_message.specs.declared.fdo.Error.{Error}
use Rattle.object_interface.specs.Meaning.{done_of}
use Rattle.object_interface.specs.Errors.{unknown_method}
use Rattle.object_interface.specs.Answering.{answers, reply, reply_if, signal_of}
use Rattle.object_interface.specs.declared.answer.Signal.{Signal}
use Rattle.object_interface.specs.declared.answer.Done.{Done}
use Rattle.object_interface.specs.declared.answer.DispatchResult2.{DispatchResult2}
use Rattle.object_interface.specs.declared.answer.DispatchResult2.TheVariants as answered

-- ---- the messages

abbrev all_of : MessageView → Done → List OutgoingMessageView
all_of call done = map (signal_of call) done.before ++ (reply_if call done.result ++ map (signal_of call) done.after)

answers_done : (call : MessageView) (member : List ℕ) (answer : DispatchResult2) (done : Done) → done_of answer ≡ Some done → all_of call done ≡ answers call member answer
answers_done call member (answered.Done d) done h = ap (all_of call) (sym (same_Some d done h))
answers_done call member answered.NotFound done h = absurd (none-some done h)
answers_done call member answered.RequiresMut done h = absurd (none-some done h)

-- the signals before the reply, the reply, the signals after it
pub all_answered : (call : MessageView) (member : List ℕ) (answer : DispatchResult2) (done : Done) (o : Result (List Datum) Error) (b a : List Signal) (w x y z : List OutgoingMessageView)
    → w ≡ [] → x ≡ w ++ map (signal_of call) b → y ≡ x ++ reply_if call o → z ≡ y ++ map (signal_of call) a
    → done_of answer ≡ Some done → o ≡ done.result → b ≡ done.before → a ≡ done.after → z ≡ answers call member answer
all_answered call member answer done o b a w x y z none first replied last is same before after =
    last ∙ ap (λ l. l ++ map (signal_of call) a) (replied ∙ ap (λ l. l ++ reply_if call o) (first ∙ ap (λ l. l ++ map (signal_of call) b) none))
    ∙ append_assoc (map (signal_of call) b) (reply_if call o) (map (signal_of call) a)
    ∙ ap (λ l. map (signal_of call) l ++ (reply_if call o ++ map (signal_of call) a)) before
    ∙ ap (λ r. map (signal_of call) done.before ++ (reply_if call r ++ map (signal_of call) a)) same
    ∙ ap (λ l. map (signal_of call) done.before ++ (reply_if call done.result ++ map (signal_of call) l)) after
    ∙ answers_done call member answer done is

-- ---- none has a file descriptor

abbrev pub Few : List OutgoingMessageView → Type 0
Few list = AllByRecursion (λ (p : OutgoingMessageView). length p.fds < 4294967296) list

few_both : (xs ys : List OutgoingMessageView) → Few xs → Few ys → Few (xs ++ ys)
few_both [] ys h k = k
few_both (x ∷ xs) ys h k = (h.0, few_both xs ys h.1 k)

few_signals : (call : MessageView) (list : List Signal) → Few (map (signal_of call) list)
few_signals call [] = tt
few_signals call (s ∷ list) = (omega arith, few_signals call list)

few_one : (call : MessageView) (r : Result (List Datum) Error) → Few (reply call r ∷ [])
few_one call (Ok values) = (omega arith, tt)
few_one call (Err error) = (omega arith, tt)

few_reply : (call : MessageView) (r : Result (List Datum) Error) → Few (reply_if call r)
few_reply call r = by (expects_reply call.kind call.flags)
  where
    by : (b : Bool) → Few (if b then reply call r ∷ [] else [])
    by true = few_one call r
    by false = tt

pub few_answers : (call : MessageView) (member : List ℕ) (answer : DispatchResult2) → Few (answers call member answer)
few_answers call member (answered.Done d) =
    few_both (map (signal_of call) d.before) (reply_if call d.result ++ map (signal_of call) d.after) (few_signals call d.before)
    (few_both (reply_if call d.result) (map (signal_of call) d.after) (few_reply call d.result) (few_signals call d.after))
few_answers call member answered.NotFound = few_reply call (Err (unknown_method member))
few_answers call member answered.RequiresMut = few_reply call (Err (unknown_method member))
