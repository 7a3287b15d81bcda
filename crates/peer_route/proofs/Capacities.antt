-- What a stream does, that one is opened, and what a capacity is, leave what each other stream gives; and what becomes of capacities.
use Rattle.peer_core.specs.History.{streams_of}
use Rattle.peer_streams.specs.Streams.{is_open as streams_is_open}
use Rattle.peer_streams.specs.Streams.{limit_answer as streams_limit_answer}
use Rattle.peer_streams.specs.Streams.{take_answer as streams_take_answer}
use Rattle.peer_streams.specs.{History.{fresh, Ruled, StreamEvent, Asked, Stream, done_by, is_subscribed, raised, rule_of, is_of}, Streams.{runs, limit_of}, Rules.{is_same, default_capacity}}
use Rattle.peer_core.specs.{History.{Made, Did, Main, Past, after}, Asked.{take_answer, is_open, limit_answer}}
use Rattle.peer_route.specs.Names.{Rule, Error}
use Rattle.std.proofs.{Common.{◌≡◌, ◌≢◌, ℕ, refl, ◌∙◌, ap, ◌<◌, length, [], ◌∷◌, Option, Some, None, max, sym, true, false, is_none, is_some, ◌&&◌, if◌then◌else◌, Ok, Err, unwrap_or}, lemmas.Bool.false_from_ne_true}
use Rattle.std.specs.List.{slice_get}
use Rattle.wire_message.proofs.Edits.{edit_other, edit-none, get_before}
use Rattle.peer_streams.proofs.{SameRule.{same_self, same_one}, Looks.{runs_at, take_at}}

-- ---- other streams

pub did_other : (h : Past) (j k : ℕ) (deed : StreamEvent) → j ≢ k → take_answer (after (Did j deed) h) k ≡ take_answer h k
unfolding streams_take_answer
did_other h j k deed ne = ap (take_at h.read h.closing) (edit_other (done_by deed) j k h.streams ne)

pub main_keeps : (h : Past) (limit k : ℕ) → take_answer (after (Main limit) h) k ≡ take_answer h k
unfolding streams_take_answer
main_keeps h limit k = refl

pub asked_keeps : (h : Past) (limit j k : ℕ) → take_answer (after (Did j (Asked limit)) h) k ≡ take_answer h k
unfolding streams_take_answer
asked_keeps h limit j k = ap (λ ss. take_at h.read h.closing (slice_get ss k)) (edit-none (λ s. s) (λ s. refl) h.streams j)

-- a stream that is opened comes behind those that were there
pub opened_keeps : (h : Past) (rule : Rule) (asked : Option ℕ) (k : ℕ) → k < length h.streams → take_answer (after (Made (Ruled rule asked)) h) k ≡ take_answer h k
unfolding streams_take_answer
opened_keeps h rule asked k le = ap (take_at h.read h.closing) (get_before k h.streams (fresh (streams_of h) (Some rule) (is_some h.closing) ∷ []) le)

-- ---- the main one

pub main_raised : (h : Past) (limit j : ℕ) (s : Stream) → slice_get h.streams j ≡ Some s → s.rule ≡ None → (after (Did j (Asked limit)) h).capacities.main ≡ max h.capacities.main limit
main_raised h limit j s at plain = ap (λ o. if is_some o && is_none (rule_of o) then max h.capacities.main limit else h.capacities.main) at ∙ ap (λ r. if is_none r then max h.capacities.main limit else h.capacities.main) plain

pub main_kept : (h : Past) (limit j : ℕ) (s : Stream) (rule : Rule) → slice_get h.streams j ≡ Some s → s.rule ≡ Some rule → (after (Did j (Asked limit)) h).capacities.main ≡ h.capacities.main
main_kept h limit j s rule at ruled = ap (λ o. if is_some o && is_none (rule_of o) then max h.capacities.main limit else h.capacities.main) at ∙ ap (λ r. if is_none r then max h.capacities.main limit else h.capacities.main) ruled

-- ---- a rule's

same_other : (rule another : Rule) → rule ≢ another → is_same rule another ≡ false
same_other rule another differ = false_from_ne_true (is_same rule another) (λ e. differ (same_one rule another e))

-- an open stream's
limit_there : (h : Past) (k : ℕ) (s : Stream) → slice_get h.streams k ≡ Some s → runs h.read s ≡ true → limit_answer h k ≡ Ok (limit_of h.capacities s.rule)
unfolding streams_limit_answer streams_is_open
limit_there h k s at still =
    ap (λ o. if runs_at h.read o then Ok (limit_of h.capacities (rule_of o)) else Err Error.UnknownHandle) at
    ∙ ap (λ b. if b then Ok (limit_of h.capacities s.rule) else Err Error.UnknownHandle) still

pub one_limit : (h : Past) (j k : ℕ) (s t : Stream) → slice_get h.streams j ≡ Some s → slice_get h.streams k ≡ Some t → runs h.read s ≡ true → runs h.read t ≡ true
    → s.rule ≡ t.rule → limit_answer h j ≡ limit_answer h k
one_limit h j k s t at there still open_ same = limit_there h j s at still ∙ ap (λ r. Ok (limit_of h.capacities r)) same ∙ sym (limit_there h k t there open_)

made_own : (h : Past) (rule : Rule) (asked : Option ℕ) → (after (Made (Ruled rule asked)) h).capacities.rules rule ≡ (if is_subscribed h.read h.streams rule then raised asked (h.capacities.rules rule) else unwrap_or asked (default_capacity rule))
made_own h rule asked = ap (λ b. if b then (if is_subscribed h.read h.streams rule then raised asked (h.capacities.rules rule) else unwrap_or asked (default_capacity rule)) else h.capacities.rules rule) (same_self rule)

pub first_limit : (h : Past) (rule : Rule) (asked : Option ℕ) → is_subscribed h.read h.streams rule ≡ false → (after (Made (Ruled rule asked)) h).capacities.rules rule ≡ unwrap_or asked (default_capacity rule)
first_limit h rule asked none = made_own h rule asked ∙ ap (λ b. if b then raised asked (h.capacities.rules rule) else unwrap_or asked (default_capacity rule)) none

pub later_limit : (h : Past) (rule : Rule) (asked : Option ℕ) → is_subscribed h.read h.streams rule ≡ true → (after (Made (Ruled rule asked)) h).capacities.rules rule ≡ raised asked (h.capacities.rules rule)
later_limit h rule asked some = made_own h rule asked ∙ ap (λ b. if b then raised asked (h.capacities.rules rule) else unwrap_or asked (default_capacity rule)) some

pub asked_limit : (h : Past) (limit j : ℕ) (s : Stream) (rule : Rule) → slice_get h.streams j ≡ Some s → s.rule ≡ Some rule
    → (after (Did j (Asked limit)) h).capacities.rules rule ≡ max (h.capacities.rules rule) limit
asked_limit h limit j s rule at ruled =
    ap (λ o. if is_of rule (rule_of o) then max (h.capacities.rules rule) limit else h.capacities.rules rule) at ∙ ap (λ r. if is_of rule r then max (h.capacities.rules rule) limit else h.capacities.rules rule) ruled
    ∙ ap (λ b. if b then max (h.capacities.rules rule) limit else h.capacities.rules rule) (same_self rule)

pub other_limit : (h : Past) (rule another : Rule) (asked : Option ℕ) → rule ≢ another → (after (Made (Ruled another asked)) h).capacities.rules rule ≡ h.capacities.rules rule
other_limit h rule another asked differ =
    ap (λ b. if b then (if is_subscribed h.read h.streams rule then raised asked (h.capacities.rules rule) else unwrap_or asked (default_capacity rule)) else h.capacities.rules rule) (same_other rule another differ)

differs : (rule : Rule) (o : Option Rule) → o ≢ Some rule → is_of rule o ≡ false
differs rule None ne = refl
differs rule (Some r) ne = same_other rule r (λ e. ne (ap Some (sym e)))

-- a stream of another rule, or without one, asks for more
pub asked_other : (h : Past) (limit j : ℕ) (s : Stream) (rule : Rule) → slice_get h.streams j ≡ Some s → s.rule ≢ Some rule → (after (Did j (Asked limit)) h).capacities.rules rule ≡ h.capacities.rules rule
asked_other h limit j s rule at ne =
    ap (λ o. if is_of rule (rule_of o) then max (h.capacities.rules rule) limit else h.capacities.rules rule) at ∙ ap (λ b. if b then max (h.capacities.rules rule) limit else h.capacities.rules rule) (differs rule s.rule ne)
