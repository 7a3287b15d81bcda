-- What is kept of streams after one of a rule is opened, or after one asks for more; and whether a rule has a stream.
use Rattle.peer_streams.specs.{History.{Request, Gone, done_by, fresh, Did, Asked, Stream, Phase, Asking, Denied, Since, is_denied, since_reply, phase, asking_stream, rule_of, is_of, subscribes, is_subscribed, raised, asked_limit, StreamsPast, after}, Names.{MessageView, Rule}, Rules.{is_same, default_capacity}, Streams.gone_if, Refinement.{StreamView, Wants, Standing, Awaits, Active, kept_by, wanted, RefinesStreams, kept, raise, AreStreams, IsWithin}}
use Rattle.wire_message.specs.{Plain.edit, Replying.is_serial}
use Rattle.std.proofs.{Common.{subst, ◌≡◌, ℕ, refl, sym, ◌∙◌, ap, max, Bool, true, false, not, if◌then◌else◌, ◌&&◌, List, [], ◌∷◌, ◌++◌, length, map, Option, Some, None, unwrap_or, inl, inr, ◌==◌, drop}, Math.Seq.drop-length, lemmas.List.{map-id}, lemmas.Bool.{or_left, or_right, cases_eq, eq-eqb, ne_eqb}}
use Rattle.std.specs.{List.{slice_get, list_any}, Option.option_map}
use Rattle.peer_streams.proofs.{SameRule.{same_self, same_one}, Matched.{within_fresh, within_asking}, StreamsMade.{kept_fresh, limit_or, new_held, rule_kept, rule_by, streams_more}}
use Rattle.wire_message.proofs.Edits.{edit-none, edit_here, edit_other}

-- ---- whether a rule has a stream

-- what is kept of a stream has the rule exactly where it lives and is of it
kept_of : (limits : Rule → ℕ) (rule : Rule) (s : Stream) (gone : Bool) (p : Phase) → is_of rule (rule_kept (kept_by limits s gone p).wants) ≡ ((not gone && not (is_denied p)) && is_of rule s.rule)
kept_of limits rule s true p = refl
kept_of limits rule s false (Denied m) = refl
kept_of limits rule s false (Since ms) = ap (is_of rule) (rule_by limits s.rule)
kept_of limits rule s false (Asking add) = ap (is_of rule) (rule_by limits s.rule)

pub subscribes_kept : (limits : Rule → ℕ) (rule : Rule) (ms : List MessageView) (s : Stream) → is_of rule (rule_kept (kept limits ms s).wants) ≡ subscribes ms rule s
unfolding kept
subscribes_kept limits rule ms s = kept_of limits rule s s.gone (phase ms s)

-- and its capacity then
limit_own : (limits : Rule → ℕ) (rule : Rule) (n : ℕ) (o : Option Rule) → is_of rule o ≡ true → limit_or n (option_map (wanted limits) o) ≡ limits rule
limit_own limits rule n None e = cc
limit_own limits rule n (Some r) e = ap limits (sym (same_one rule r e))

limit_of_kept : (limits : Rule → ℕ) (rule : Rule) (n : ℕ) (s : Stream) (gone : Bool) (p : Phase) → is_of rule (rule_kept (kept_by limits s gone p).wants) ≡ true
    → limit_or n (kept_by limits s gone p).wants ≡ limits rule
limit_of_kept limits rule n s true p e = cc
limit_of_kept limits rule n s false (Denied m) e = cc
limit_of_kept limits rule n s false (Since ms) e = limit_own limits rule n s.rule (sym (ap (is_of rule) (rule_by limits s.rule)) ∙ e)
limit_of_kept limits rule n s false (Asking add) e = limit_own limits rule n s.rule (sym (ap (is_of rule) (rule_by limits s.rule)) ∙ e)

pub limit_kept : (limits : Rule → ℕ) (rule : Rule) (n : ℕ) (ms : List MessageView) (s : Stream) → is_of rule (rule_kept (kept limits ms s).wants) ≡ true → limit_or n (kept limits ms s).wants ≡ limits rule
unfolding kept
limit_kept limits rule n ms s e = limit_of_kept limits rule n s s.gone (phase ms s) e

-- where one was closed
gone_at : (o : Option ℕ) (h : StreamsPast) (i : ℕ) (s : Stream) → slice_get h.streams i ≡ Some s → slice_get (gone_if o h).streams i ≡ Some (if is_serial o i then done_by Gone s else s)
gone_at None h i s at = at
gone_at (Some k) h i s at = elim (cases_eq k i) as (λ _. slice_get (edit k (done_by Gone) h.streams) i ≡ Some (if k == i then done_by Gone s else s)) [
  | inl same ↦ rw (eq-eqb k i same) (ap (λ j. slice_get (edit j (done_by Gone) h.streams) i) same ∙ edit_here (done_by Gone) i h.streams s at)
  | inr other ↦ rw (ne_eqb k i other) (edit_other (done_by Gone) k i h.streams other ∙ at)
]

abbrev pub gone_two : Option ℕ → Option ℕ → ℕ → Stream → Stream
gone_two one before i s = if is_serial one i then done_by Gone (if is_serial before i then done_by Gone s else s) else (if is_serial before i then done_by Gone s else s)

pub two_at : (one before : Option ℕ) (h : StreamsPast) (i : ℕ) (s : Stream) → slice_get h.streams i ≡ Some s → slice_get (gone_if one (gone_if before h)).streams i ≡ Some (gone_two one before i s)
two_at one before h i s at = gone_at one (gone_if before h) i (if is_serial before i then done_by Gone s else s) (gone_at before h i s at)

-- ---- the streams of a rule are raised

-- what is kept of a stream, where one of the rule asks for more, and where it does itself
abbrev pub raise_held : Rule → Option ℕ → StreamView → StreamView
raise_held rule asked q = record q { wants = option_map (raise rule asked) q.wants }

abbrev pub raise_own : ℕ → StreamView → StreamView
raise_own limit q = record q { wants = option_map (λ (s : Wants). record s { limit = max s.limit limit }) q.wants }

own_changed : (limits new : Rule → ℕ) (u : Option Wants → Option Wants) (o : Option Rule) → u None ≡ None → ((r : Rule) → o ≡ Some r → Some (wanted new r) ≡ u (Some (wanted limits r)))
    → option_map (wanted new) o ≡ u (option_map (wanted limits) o)
own_changed limits new u None none e = sym none
own_changed limits new u (Some r) none e = e r refl

changed_by : (limits new : Rule → ℕ) (u : Option Wants → Option Wants) (s : Stream) (gone : Bool) (p : Phase) → u None ≡ None
    → ((r : Rule) → (not gone && not (is_denied p)) ≡ true → s.rule ≡ Some r → Some (wanted new r) ≡ u (Some (wanted limits r)))
    → kept_by new s gone p ≡ record (kept_by limits s gone p) { wants = u (kept_by limits s gone p).wants }
changed_by limits new u s true p none e = ap (λ w. record (kept_by limits s true p) { wants = w }) (sym none)
changed_by limits new u s false (Denied m) none e = ap (λ w. record (kept_by limits s false (Denied m)) { wants = w }) (sym none)
changed_by limits new u s false (Since ms) none e = ap (λ w. record (kept_by limits s false (Since ms)) { wants = w }) (own_changed limits new u s.rule none (λ r of. e r refl of))
changed_by limits new u s false (Asking add) none e = ap (λ w. record (kept_by limits s false (Asking add)) { wants = w }) (own_changed limits new u s.rule none (λ r of. e r refl of))

-- where the capacities of rules that have a stream are changed so, all streams are
changed_all : (limits new : Rule → ℕ) (u : Option Wants → Option Wants) (ms : List MessageView) (ss : List Stream) → u None ≡ None
    → ((r : Rule) → list_any (subscribes ms r) ss ≡ true → Some (wanted new r) ≡ u (Some (wanted limits r)))
    → map (λ (q : StreamView). record q { wants = u q.wants }) (map (kept limits ms) ss) ≡ map (kept new ms) ss
unfolding kept
changed_all limits new u ms [] none e = refl
changed_all limits new u ms (s ∷ ss) none e =
    let one = changed_by limits new u s s.gone (phase ms s) none (λ r lives of. e r (or_left (subscribes ms r s) (list_any (subscribes ms r) ss) (ap (λ b. b && is_of r s.rule) lives ∙ ap (is_of r) of ∙ same_self r))) in
    let more = changed_all limits new u ms ss none (λ r there. e r (or_right (subscribes ms r s) (list_any (subscribes ms r) ss) there)) in
    ap (λ q. q ∷ map (λ (q : StreamView). record q { wants = u q.wants }) (map (kept limits ms) ss)) (sym one) ∙ ap (λ qs. kept new ms s ∷ qs) more

raised_all : (limits new : Rule → ℕ) (rule : Rule) (asked : Option ℕ) (ms : List MessageView) (ss : List Stream)
    → ((r : Rule) → list_any (subscribes ms r) ss ≡ true → new r ≡ (if is_same r rule then raised asked (limits r) else limits r))
    → map (raise_held rule asked) (map (kept limits ms) ss) ≡ map (kept new ms) ss
raised_all limits new rule asked ms ss e = changed_all limits new (option_map (raise rule asked)) ms ss refl (λ r there. ap (λ n. Some (record { rule = r; limit = n })) (e r there))

-- ---- a stream of a rule is opened

asked_own : (h : StreamsPast) (rule : Rule) (asked : Option ℕ) → asked_limit h rule rule asked (h.capacities.rules rule) ≡ (if is_subscribed h.read h.streams rule then raised asked (h.capacities.rules rule) else unwrap_or asked (default_capacity rule))
asked_own h rule asked = ap (λ b. if b then (if is_subscribed h.read h.streams rule then raised asked (h.capacities.rules rule) else unwrap_or asked (default_capacity rule)) else h.capacities.rules rule) (same_self rule)

-- a stream of the rule, so far opened, that holds nothing yet, and may have the closing error behind it
pub record IsNew (ms : List MessageView) (rule : Rule) (standing : Standing) (closing_delivered : Bool) (s : Stream) : Type 0 where
  pub holds : (limits : Rule → ℕ) → kept limits ms s ≡ new_held (Some (wanted limits rule)) standing closing_delivered
  pub within : IsWithin ms s

pub streams_ruled : (v : List StreamView) (h : StreamsPast) (rule : Rule) (asked : Option ℕ) (standing : Standing) (closing_delivered : Bool) (limit : ℕ) (s : Stream) → RefinesStreams v h → IsNew h.read rule standing closing_delivered s
    → limit ≡ (if is_subscribed h.read h.streams rule then raised asked (h.capacities.rules rule) else unwrap_or asked (default_capacity rule))
    → AreStreams (map (raise_held rule asked) v ++ new_held (Some (record { rule = rule; limit = limit })) standing closing_delivered ∷ []) (λ r. asked_limit h r rule asked (h.capacities.rules r)) h.read (h.streams ++ s ∷ [])
unfolding is_subscribed
streams_ruled v h rule asked standing closing_delivered limit s left is e =
    let new : Rule → ℕ = λ r. asked_limit h r rule asked (h.capacities.rules r) in
    streams_more (map (raise_held rule asked) v) new h s _
    (is.holds new ∙ ap (λ n. new_held (Some (record { rule = rule; limit = n })) standing closing_delivered) (asked_own h rule asked ∙ sym e)) is.within
    (record {
      shown = ap (map (raise_held rule asked)) left.shown
          ∙ raised_all h.capacities.rules new rule asked h.read h.streams (λ r there. ap (λ b. if is_same r rule then (if b then raised asked (h.capacities.rules r) else unwrap_or asked (default_capacity r)) else h.capacities.rules r) there);
      within = left.within;
    })

pub new_ruled : (h : StreamsPast) (rule : Rule) (closing_delivered : Bool) → IsNew h.read rule Active closing_delivered (fresh h (Some rule) closing_delivered)
new_ruled h rule closing_delivered = record { holds = λ limits. kept_fresh limits h (Some rule) closing_delivered; within = within_fresh h (Some rule) closing_delivered }

-- nothing that was read answers an AddMatch that is put now
pub new_asking : (h : StreamsPast) (add : Request) (rule : Rule) → add.from ≡ length h.read → IsNew h.read rule (Awaits add.serial add.index) false (asking_stream add rule)
unfolding kept phase
new_asking h add rule e = record {
  holds = λ limits. ap (λ ms. kept_by limits (asking_stream add rule) false (since_reply add ms)) (ap (λ n. drop n h.read) e ∙ drop-length h.read);
  within = within_asking h add rule e;
}

-- ---- more is asked for

asked_plain : (h : StreamsPast) (k limit : ℕ) → rule_of (slice_get h.streams k) ≡ None → map (kept h.capacities.rules h.read) h.streams ≡ map (kept (after (Did k (Asked limit)) h).capacities.rules h.read) h.streams
asked_plain h k limit none =
    sym (map-id (map (kept h.capacities.rules h.read) h.streams))
    ∙ changed_all h.capacities.rules (after (Did k (Asked limit)) h).capacities.rules (λ w. w) h.read h.streams refl
    (λ r there. ap (λ o. Some (record { rule = r; limit = if is_of r o then max (h.capacities.rules r) limit else h.capacities.rules r })) none)

asked_ruled : (h : StreamsPast) (k limit : ℕ) (rule : Rule) → rule_of (slice_get h.streams k) ≡ Some rule
    → map (raise_held rule (Some limit)) (map (kept h.capacities.rules h.read) h.streams) ≡ map (kept (after (Did k (Asked limit)) h).capacities.rules h.read) h.streams
asked_ruled h k limit rule of =
    raised_all h.capacities.rules (after (Did k (Asked limit)) h).capacities.rules rule (Some limit) h.read h.streams (λ r there. ap (λ o. (if is_of r o then max (h.capacities.rules r) limit else h.capacities.rules r)) of)

-- what was kept with these capacities is kept so of the streams of that past
asked_left : (v new : List StreamView) (h : StreamsPast) (k limit : ℕ) → RefinesStreams v h → new ≡ map (kept (after (Did k (Asked limit)) h).capacities.rules h.read) h.streams → RefinesStreams new (after (Did k (Asked limit)) h)
asked_left v new h k limit left e =
    subst (AreStreams new (after (Did k (Asked limit)) h).capacities.rules h.read) (sym (edit-none (done_by (Asked limit)) (λ s. refl) h.streams k)) (record { shown = e; within = left.within })

-- the streams of its rule are raised; nothing of one without a rule
pub streams_asked : (v : List StreamView) (h : StreamsPast) (k limit : ℕ) (rule : Rule) → RefinesStreams v h → rule_of (slice_get h.streams k) ≡ Some rule
    → RefinesStreams (map (raise_held rule (Some limit)) v) (after (Did k (Asked limit)) h)
streams_asked v h k limit rule left is =
    asked_left v _ h k limit left (ap (map (raise_held rule (Some limit))) left.shown ∙ asked_ruled h k limit rule is)

pub streams_kept : (v : List StreamView) (h : StreamsPast) (k limit : ℕ) → RefinesStreams v h → rule_of (slice_get h.streams k) ≡ None → RefinesStreams v (after (Did k (Asked limit)) h)
streams_kept v h k limit left is = asked_left v v h k limit left (left.shown ∙ asked_plain h k limit is)
