-- What streams give, entry by entry; and how it is known that one was made, or that the bus was asked for it.
use Rattle.peer_streams.specs.{History.{Request, Gave, done_by, fresh, Ruled, StreamOrigin, Plain, Cloned, Stream, Denied, Since, phase, plain_stream, clone_of, new_stream, rule_of, OnReturn, since_reply, phase_by, asking_stream, Start, Behind, Phase}, Streams.{is_since, accepted, matched, offered, held, since_in}, Refinement.{start_count, IsWithin}}
use Rattle.peer_core.specs.{History.{request_of, streams_of, Made, Past, Event, Received, Did, after, Put, after_all}, Issuing.{issued, puts}, Asked.{match_call_pending, asks_bus, is_open}, BusCall.{asking_of, first_of}}
use Rattle.peer_calls.specs.{History.{call_by, AddMatch, Call}, Issuing.{Posting, outgoings, messages_of}}
use Rattle.wire_message.specs.{Replying.{replies_to, is_return}, Outgoing.message_of}
use Rattle.peer_route.specs.{Names.{Answer, Entry, Error, MessageView, Rule, rule_in_bytes, Words, StreamOp}, Replay.{Replay, count, handle_index, asked_owners, Setting}, Plan.{Plan, unless_waits, makes, opens_new, opens, plan, on_stream}, Entries.{IsMeant, IsSending, unsent, write_fault, past_after, replay, more, Legal, more_by}, StreamLaws.{positions, Yields, holds, rule_at, items_given, after_return, YieldsAsked, Gives, stays_open, stream_of}}
use Rattle.std.proofs.{Common.{◌≡◌, ℕ, refl, sym, ◌∙◌, ap, subst, Bool, true, false, if◌then◌else◌, List, [], ◌∷◌, Option, Some, None, Result, Ok, Err, ◌+◌, ◌≤◌, arith, is_some, ◌++◌, length, take, drop, append_assoc, append-nil, ◌⊎◌, inl, inr, unwrap_or, option_and_then, option_map}, Math.Seq.drop-append_seam, lemmas.List.{map-append, take-append-drop, drop-append-le, take-append-le, length-drop, drop-drop}}
use Rattle.std.specs.List.{slice_get}
use Rattle.peer_core.proofs.BusMessages.{add_match}
use Rattle.wire_message.proofs.Edits.{get_new, take_one, drop_next, all_at}
use Rattle.peer_streams.proofs.{Matched.{held_matched, accepted-append, arriving, matched_took, within_took, within_fresh, within_asking}, StreamsMade.clone_within}
use Rattle.peer_route.proofs.{Plans.{is_idle, legal_from, one_drawn}, Deeds.{all_within, lanes, Flowing, FlowAt, Flow, named_new, flow_all, flow_entry, flow_writes, turned, named_done, open_done, open_stream}, Places.place_new, Sent.{put_drew, message_serial}, Kept.{every_entry, since}}

-- ---- messages went out

-- the answer says why they didn't
abbrev pub is_reason : Answer → Bool
is_reason (Answer.Refused error) = true
is_reason (Answer.SendFailed error) = true
is_reason a = false

unsent_reason : (error : Error) → is_reason (unsent error) ≡ true
unsent_reason (Error.InputOutput kind) = refl
unsent_reason error = refl

pub record Went (ds : List Posting) (sent : List ℕ → Answer) (r : Result (List ℕ) Error) (e : Entry) : Type 0 where
  pub serials : List ℕ
  pub drew : r ≡ Ok serials
  pub whole : e.failed ≡ false
  pub put : e.put ≡ messages_of (outgoings ds) serials
  pub answer : e.answer ≡ sent serials

not_failed : (failed : Bool) (success a : Answer) → a ≡ (if failed then write_fault else success) → is_reason a ≡ false → (failed ≡ false) × (a ≡ success)
not_failed true success a is no_ = let q : true ≡ false = ap is_reason (sym is) ∙ no_ in cc
not_failed false success a is no_ = (refl, is)

pub went : (r : Result (List ℕ) Error) (ds : List Posting) (sent : List ℕ → Answer) (e : Entry) → IsSending r ds sent e → is_reason e.answer ≡ false → Went ds sent r e
went (Err error) ds sent e is no_ = let q : true ≡ false = sym (unsent_reason error) ∙ ap is_reason (sym is.0) ∙ no_ in cc
went (Ok serials) ds sent e is no_ =
    let one = not_failed e.failed (sent serials) e.answer is.answer no_ in
    record { serials = serials; drew = refl; whole = one.0; put = is.put; answer = one.1 }

-- ---- a stream of a rule

-- the bus was asked
abbrev WasAsked : Replay → ℕ → Rule → Option ℕ → Entry → Type 0
WasAsked t lane rule asked e = Went (asking_of t.past rule asked ∷ []) (λ serials. Answer.Opening (count lane t.streams) (first_of serials)) (issued t.past (asking_of t.past rule asked ∷ [])) e

-- the entry opened one at once, or asked the bus for it
abbrev OpenedAs : Replay → ℕ → Rule → Option ℕ → Entry → Plan → Type 0
OpenedAs t lane rule asked e pl = ((pl ≡ makes t lane (Ruled rule asked)) × (e.answer ≡ Answer.Streaming (count lane t.streams))) ⊎ ((pl ≡ opens_new t lane rule asked true) × WasAsked t lane rule asked e)

opened_by : (t : Replay) (lane : ℕ) (rule : Rule) (asked : Option ℕ) (waits asks : Bool) (e : Entry) → is_idle e.answer ≡ false → is_reason e.answer ≡ false
    → IsMeant t.past (unless_waits waits (opens_new t lane rule asked asks)) e → OpenedAs t lane rule asked e (unless_waits waits (opens_new t lane rule asked asks))
opened_by t lane rule asked true asks e loud out is = let q : true ≡ false = ap is_idle (sym is.1) ∙ loud in cc
opened_by t lane rule asked false true e loud out is = inr (refl, went _ (asking_of t.past rule asked ∷ []) (λ serials. Answer.Opening (count lane t.streams) (first_of serials)) e is.1 out)
opened_by t lane rule asked false false e loud out is = inl (refl, is.1)

opened_if : (t : Replay) (lane : ℕ) (rule : Rule) (asked : Option ℕ) (shut : Option Error) (e : Entry) → is_idle e.answer ≡ false → is_reason e.answer ≡ false
    → IsMeant t.past (opens t lane (Ok rule) asked shut) e → OpenedAs t lane rule asked e (opens t lane (Ok rule) asked shut)
opened_if t lane rule asked (Some error) e loud out is = let q : true ≡ false = ap is_idle (sym is.1) ∙ loud in cc
opened_if t lane rule asked None e loud out is = opened_by t lane rule asked (match_call_pending t.past) (asks_bus t.past rule) e loud out is

opened_so : (t : Replay) (e : Entry) (asked : Option ℕ) (text : List ℕ) (rule : Rule) → IsMeant t.past (plan t e.lane e.words) e → e.words ≡ Words.Open asked text → rule_in_bytes text ≡ Ok rule
    → is_idle e.answer ≡ false → is_reason e.answer ≡ false → OpenedAs t e.lane rule asked e (plan t e.lane e.words)
opened_so t e asked text rule is w r loud out =
    let means : plan t e.lane e.words ≡ opens t e.lane (Ok rule) asked t.past.closing = ap (plan t e.lane) w ∙ ap (λ x. opens t e.lane x asked t.past.closing) r in
    subst (OpenedAs t e.lane rule asked e) (sym means) (opened_if t e.lane rule asked t.past.closing e loud out (subst (λ pl. IsMeant t.past pl e) means is))

at_once : (t : Replay) (lane : ℕ) (rule : Rule) (asked : Option ℕ) (e : Entry) (pl : Plan) (number : ℕ) → OpenedAs t lane rule asked e pl → e.answer ≡ Answer.Streaming number → pl ≡ makes t lane (Ruled rule asked)
at_once t lane rule asked e pl number (inl opened) a = opened.0
at_once t lane rule asked e pl number (inr was) a = let q : Answer.Opening (count lane t.streams) (first_of was.1.serials) ≡ Answer.Streaming number = sym was.1.answer ∙ a in cc

by_bus : (t : Replay) (lane : ℕ) (rule : Rule) (asked : Option ℕ) (e : Entry) (pl : Plan) (number serial : ℕ) → OpenedAs t lane rule asked e pl → e.answer ≡ Answer.Opening number serial
    → (pl ≡ opens_new t lane rule asked true) × WasAsked t lane rule asked e
by_bus t lane rule asked e pl number serial (inl opened) a = let q : Answer.Streaming (count lane t.streams) ≡ Answer.Opening number serial = sym opened.1 ∙ a in cc
by_bus t lane rule asked e pl number serial (inr was) a = was

-- ---- what a stream gave

-- The stream has this rule, began so, and passes over so many; and these are the positions of the items that it gave: of so many as it
-- took.
record Own (rule : Option Rule) (start : Start) (skip : ℕ) (h : Past) (s : Stream) (given : List ℕ) : Type 0 where
  of_rule : s.rule ≡ rule
  begins : s.start ≡ start
  skips : s.skip ≡ skip
  within : IsWithin h.read s
  given_is : given ≡ positions (take s.taken (drop s.skip (matched h.read s)))

own_after : (rule : Option Rule) (start : Start) (skip : ℕ) (e : Event) (h : Past) (s : Stream) (given : List ℕ) → Own rule start skip h s given → Own rule start skip (after e h) s given
own_after rule start skip (Received m) h s given r =
    let passed = r.within.passed in
    let own = matched h.read s in
    let some = arriving (phase h.read s) s.rule m in
    record {
      of_rule = r.of_rule;
      begins = r.begins;
      skips = r.skips;
      within = within_took m (streams_of h) s r.within;
      given_is = r.given_is ∙ ap positions (sym (ap (λ ms. take s.taken (drop s.skip ms)) (matched_took m (streams_of h) s r.within.start) ∙ ap (take s.taken) (drop-append-le s.skip own some (omega (arith, passed)))
          ∙ take-append-le s.taken (drop s.skip own) some (omega (arith, passed, length-drop s.skip own))));
    }
own_after rule start skip e h s given r = record { of_rule = r.of_rule; begins = r.begins; skips = r.skips; within = r.within; given_is = r.given_is }

own_same : (rule : Option Rule) (start : Start) (skip : ℕ) (h : Past) (s : Stream) (given : List ℕ) (a b c : Bool) → Own rule start skip h s given → Own rule start skip h (turned s a b c) given
unfolding matched phase
own_same rule start skip h s given a b c r = record { of_rule = r.of_rule; begins = r.begins; skips = r.skips; within = record { start = r.within.start; passed = r.within.passed }; given_is = r.given_is }

own_item : (rule : Option Rule) (start : Start) (skip : ℕ) (h : Past) (k : ℕ) (s : Stream) (given : List ℕ) (m : MessageView) (ms : List MessageView) → held h.read s ≡ m ∷ ms → Own rule start skip h s given
    → Own rule start skip (after (Did k Gave) h) (done_by Gave s) (given ++ m.position ∷ [])
unfolding matched held offered phase
own_item rule start skip h k s given m ms e r =
    let own = matched h.read s in
    let le : s.skip + s.taken + 1 ≤ length own = (drop_next (s.skip + s.taken) own m ms (sym (drop-drop s.taken s.skip own) ∙ e)).1 in
    record {
      of_rule = r.of_rule;
      begins = r.begins;
      skips = r.skips;
      within = record { start = r.within.start; passed = omega (arith, le) };
      given_is = ap (λ ps. ps ++ m.position ∷ []) r.given_is ∙ sym (map-append (λ (x : MessageView). x.position) (take s.taken (drop s.skip own)) (m ∷ []))
          ∙ ap positions (sym (take_one s.taken (drop s.skip own) m ms e));
    }

own_flowing : (rule : Option Rule) (start : Start) (skip : ℕ) → Flowing (Own rule start skip)
own_flowing rule start skip = record { along = own_after rule start skip; same = own_same rule start skip; item = own_item rule start skip }

-- what such a stream offers of these messages
abbrev offers : Option Rule → Start → ℕ → List MessageView → List MessageView
offers rule start skip ms = drop skip (accepted rule (since_in (phase_by start ms)))

own_offers : (rule : Option Rule) (start : Start) (skip : ℕ) (h : Past) (s : Stream) (given : List ℕ) → Own rule start skip h s given → drop s.skip (matched h.read s) ≡ offers rule start skip h.read
unfolding matched phase
own_offers rule start skip h s given r =
    ap (λ n. drop n (matched h.read s)) r.skips ∙ ap (λ o. drop skip (accepted o (since_in (phase_by s.start h.read)))) r.of_rule ∙ ap (λ b. offers rule b skip h.read) r.begins

-- what was given and what is held
gives_from : (setting : Setting) (newer : List Entry) (e : Entry) (older : List Entry) (number : ℕ) (rule : Option Rule) (start : Start) (skip : ℕ) (all : List MessageView) → Legal setting (newer ++ e ∷ older)
    → Flow (Own rule start skip) (replay setting (e ∷ older)) e.lane number [] → offers rule start skip (replay setting (newer ++ e ∷ older)).past.read ≡ all
    → Gives (replay setting (newer ++ e ∷ older)) e.lane number newer all
unfolding held offered
gives_from setting newer e older number rule start skip all legal begun is =
    let h = (replay setting (newer ++ e ∷ older)).past in
    let f = flow_all (Own rule start skip) (own_flowing rule start skip) setting newer e older number legal begun in
    let s = f.now.stream in
    let own = drop s.skip (matched h.read s) in
    record {
      stream = s;
      named = ap (option_and_then (slice_get h.streams)) f.named ∙ f.now.made;
      items = ap (λ ps. ps ++ positions (held h.read s)) f.now.flows.given_is ∙ sym (map-append (λ (m : MessageView). m.position) (take s.taken own) (held h.read s))
          ∙ ap positions (take-append-drop s.taken own ∙ own_offers rule start skip h s (items_given e.lane number newer) f.now.flows ∙ is);
    }

-- ---- a stream that was made

-- an entry that made one so
flow_made : (t : Replay) (e : Entry) (number : ℕ) (making : StreamOrigin) (s : Stream) → IsMeant t.past (plan t e.lane e.words) e → plan t e.lane e.words ≡ makes t e.lane making
    → e.answer ≡ Answer.Streaming number → length t.streams ≡ length t.past.streams → new_stream (streams_of t.past) t.past.streams making ≡ s → Own s.rule s.start s.skip t.past s []
    → Flow (Own s.rule s.start s.skip) (more t e) e.lane number []
flow_made t e number making s is means a same new own =
    let k = length t.streams in
    let goes = Own s.rule s.start s.skip in
    record {
      k = k;
      named = named_new t e number making is means a;
      now = subst (λ pl. FlowAt goes k [] (past_after pl e t.past)) (sym means)
          (flow_entry goes (own_flowing s.rule s.start s.skip) k [] (makes t e.lane making) e t.past (record {
            stream = s;
            made = ap (λ x. slice_get (t.past.streams ++ x ∷ []) k) new ∙ ap (slice_get (t.past.streams ++ s ∷ [])) same ∙ get_new t.past.streams s;
            flows = own_after s.rule s.start s.skip (Made making) t.past s [] own;
          }));
    }

own_fresh : (h : Past) (rule : Option Rule) (closing_delivered : Bool) → Own rule (Behind (length h.read)) 0 h (fresh (streams_of h) rule closing_delivered) []
own_fresh h rule closing_delivered = record { of_rule = refl; begins = refl; skips = refl; within = within_fresh (streams_of h) rule closing_delivered; given_is = refl }

pub yields : (setting : Setting) (newer : List Entry) (e : Entry) (older : List Entry) (number : ℕ) → Legal setting (newer ++ e ∷ older) → e.words ≡ Words.Stream → e.answer ≡ Answer.Streaming number
    → Yields setting newer e older number None []
yields setting newer e older number legal w a =
    let t = replay setting older in
    gives_from setting newer e older number None (Behind (length t.past.read)) 0 _ legal
    (flow_made t e number Plain (plain_stream (streams_of t.past)) (legal_from setting newer (e ∷ older) legal).0 (ap (plan t e.lane) w) a (lanes setting older) refl (own_fresh t.past None (is_some t.past.closing))) refl

pub opened_yields : (setting : Setting) (newer : List Entry) (e : Entry) (older : List Entry) (number : ℕ) (asked : Option ℕ) (text : List ℕ) (rule : Rule) → Legal setting (newer ++ e ∷ older)
    → e.words ≡ Words.Open asked text → rule_in_bytes text ≡ Ok rule → e.answer ≡ Answer.Streaming number → Yields setting newer e older number (Some rule) []
opened_yields setting newer e older number asked text rule legal w r a =
    let t = replay setting older in
    let is = (legal_from setting newer (e ∷ older) legal).0 in
    gives_from setting newer e older number (Some rule) (Behind (length t.past.read)) 0 _ legal
    (flow_made t e number (Ruled rule asked) (fresh (streams_of t.past) (Some rule) (is_some t.past.closing)) is (at_once t e.lane rule asked e (plan t e.lane e.words) number (opened_so t e asked text rule is w r (ap is_idle a) (ap is_reason a)) a) a (lanes setting older) refl (own_fresh t.past (Some rule) (is_some t.past.closing))) refl

-- ---- a stream for which the bus was asked

since_by : (b r : Bool) (add : Request) (m : MessageView) (ms rest : List MessageView) → since_in (since_reply add ms) ≡ rest
    → since_in (if b then (if r then Since ms else Denied m) else since_reply add ms) ≡ (if b then (if r then ms else []) else rest)
since_by true true add m ms rest e = refl
since_by true false add m ms rest e = refl
since_by false r add m ms rest e = e

-- the messages that were read since the stream began are those behind the return
since_return : (add : Request) (ms : List MessageView) → since_in (since_reply add ms) ≡ after_return add.serial ms
since_return add [] = refl
since_return add (m ∷ ms) = since_by (replies_to add.serial m) (is_return m.kind) add m ms (after_return add.serial ms) (since_return add ms)

flow_asked : (t : Replay) (e : Entry) (number serial : ℕ) (rule : Rule) (asked : Option ℕ) → WasAsked t e.lane rule asked e → plan t e.lane e.words ≡ opens_new t e.lane rule asked true
    → e.answer ≡ Answer.Opening number serial → length t.streams ≡ length t.past.streams
    → Flow (Own (Some rule) (OnReturn (request_of t.past (message_of (add_match t.past.name rule) serial))) 0) (more t e) e.lane number []
flow_asked t e number serial rule asked was means a same =
    let m = message_of (add_match t.past.name rule) serial in
    let start = OnReturn (request_of t.past m) in
    let goes = Own (Some rule) start 0 in
    let k = length t.streams in
    let s = asking_stream (request_of t.past m) rule in
    let d = asking_of t.past rule asked in
    let one = one_drawn t.past d was.serials (put_drew t.past (d ∷ []) was.serials was.drew) in
    let answer : Answer.Opening (count e.lane t.streams) one.0 ≡ Answer.Opening number serial = ap (λ ns. Answer.Opening (count e.lane t.streams) (first_of ns)) (sym one.1) ∙ sym was.answer ∙ a in
    let n : count e.lane t.streams ≡ number = cc in
    let drew : one.0 ≡ serial = cc in
    let put : e.put ≡ m ∷ [] = was.put ∙ ap (λ ns. messages_of (add_match t.past.name rule ∷ []) ns) (one.1 ∙ ap (λ x. x ∷ []) drew) in
    let named : handle_index 0 e.lane number (t.streams ++ Some e.lane ∷ []) ≡ Some k = ap (λ x. handle_index 0 e.lane x (t.streams ++ Some e.lane ∷ [])) (sym n) ∙ place_new 0 e.lane t.streams ∙ ap Some (omega arith) in
    let begun : FlowAt goes k [] (after (Put m (AddMatch rule asked)) t.past) = record {
      stream = s;
      made = ap (slice_get (t.past.streams ++ s ∷ [])) same ∙ get_new t.past.streams s;
      flows = record { of_rule = refl; begins = refl; skips = refl; within = within_asking (streams_of t.past) (request_of t.past m) rule refl; given_is = refl };
    } in
    subst (λ p. Flow goes (more_by p e t) e.lane number []) (sym means) (record {
      k = k;
      named = ap (λ ms. handle_index 0 e.lane number (t.streams ++ [] ++ asked_owners e.lane e.failed (d ∷ []) ms)) put
          ∙ ap (λ b. handle_index 0 e.lane number (t.streams ++ [] ++ asked_owners e.lane b (d ∷ []) (m ∷ []))) was.whole
          ∙ ap (λ ns. handle_index 0 e.lane number (ns ++ Some e.lane ∷ [])) (append-nil t.streams) ∙ named;
      now = flow_writes goes (own_flowing (Some rule) start 0) k [] e _ (subst (λ ms. FlowAt goes k [] (after_all (puts (d ∷ []) ms) t.past)) (sym put) begun);
    })

pub asked_yields : (setting : Setting) (newer : List Entry) (e : Entry) (older : List Entry) (number serial : ℕ) (asked : Option ℕ) (text : List ℕ) (rule : Rule) → Legal setting (newer ++ e ∷ older)
    → e.words ≡ Words.Open asked text → rule_in_bytes text ≡ Ok rule → e.answer ≡ Answer.Opening number serial → YieldsAsked setting newer e older number serial rule
asked_yields setting newer e older number serial asked text rule legal w r a =
    let t = replay setting older in
    let h = (replay setting (newer ++ e ∷ older)).past in
    let add = request_of t.past (message_of (add_match t.past.name rule) serial) in
    let was = by_bus t e.lane rule asked e (plan t e.lane e.words) number serial (opened_so t e asked text rule (legal_from setting newer (e ∷ older) legal).0 w r (ap is_idle a) (ap is_reason a)) a in
    gives_from setting newer e older number (Some rule) (OnReturn add) 0 _ legal (flow_asked t e number serial rule asked was.1 was.0 a (lanes setting older))
    (ap (accepted (Some rule)) (since_return add (drop add.from h.read)) ∙ ap (λ n. accepted (Some rule) (after_return n (drop (length t.past.read) h.read))) (message_serial (add_match t.past.name rule) serial))

-- ---- a clone

-- behind its return, what comes is a stream's own
append_by : (b r : Bool) (x : MessageView) (xs ys : List MessageView) (p q : Phase) → (is_since p ≡ true → since_in q ≡ since_in p ++ ys) → is_since (if b then (if r then Since xs else Denied x) else p) ≡ true
    → since_in (if b then (if r then Since (xs ++ ys) else Denied x) else q) ≡ since_in (if b then (if r then Since xs else Denied x) else p) ++ ys
append_by true true x xs ys p q rest e = refl
append_by true false x xs ys p q rest e = cc
append_by false r x xs ys p q rest e = rest e

reply_append : (add : Request) (xs ys : List MessageView) → is_since (since_reply add xs) ≡ true → since_in (since_reply add (xs ++ ys)) ≡ since_in (since_reply add xs) ++ ys
reply_append add [] ys e = cc
reply_append add (x ∷ xs) ys e = append_by (replies_to add.serial x) (is_return x.kind) x xs ys (since_reply add xs) (since_reply add (xs ++ ys)) (reply_append add xs ys) e

since_append : (start : Start) (xs ys : List MessageView) → start_count start ≤ length xs → is_since (phase_by start xs) ≡ true → since_in (phase_by start (xs ++ ys)) ≡ since_in (phase_by start xs) ++ ys
since_append (Behind count) xs ys le e = drop-append-le count xs ys le
since_append (OnReturn add) xs ys le e =
    ap (λ ms. since_in (since_reply add ms)) (drop-append-le add.from xs ys le) ∙ reply_append add (drop add.from xs) ys e

-- more is read, and nothing forgotten
reads_on : (read : List MessageView) (e : Event) (h : Past) → (ms : List MessageView) × (h.read ≡ read ++ ms) → (ms : List MessageView) × ((after e h).read ≡ read ++ ms)
reads_on read (Received m) h is = (is.0 ++ m ∷ [], ap (λ ms. ms ++ m ∷ []) is.1 ∙ append_assoc read is.0 (m ∷ []))
reads_on read e h is = is

-- what a clone offers of a stream that runs: what that held, and what was read since and the rule accepts
clone_offers : (h : Past) (s : Stream) (read : List MessageView) → IsWithin h.read s → is_since (phase h.read s) ≡ true → (ms : List MessageView) × (read ≡ h.read ++ ms)
    → offers s.rule s.start (s.skip + s.taken) read ≡ held h.read s ++ accepted s.rule (drop (length h.read) read)
unfolding matched phase
clone_offers h s read w since is =
    let own = since_in (phase_by s.start h.read) in
    let ms = is.0 in
    ap (offers s.rule s.start (s.skip + s.taken)) is.1 ∙ ap (λ xs. drop (s.skip + s.taken) (accepted s.rule xs)) (since_append s.start h.read ms w.start since)
    ∙ ap (drop (s.skip + s.taken)) (accepted-append s.rule own ms) ∙ drop-append-le (s.skip + s.taken) (accepted s.rule own) (accepted s.rule ms) w.passed
    ∙ ap (λ xs. xs ++ accepted s.rule ms) (sym (held_matched (streams_of h) s)) ∙ ap (λ xs. held h.read s ++ accepted s.rule xs) (sym (ap (drop (length h.read)) is.1 ∙ drop-append_seam h.read ms))

own_clone : (h : Past) (s : Stream) → IsWithin h.read s → Own s.rule s.start (s.skip + s.taken) h (clone_of (streams_of h) (Some s)) []
unfolding matched phase
own_clone h s w = record { of_rule = refl; begins = refl; skips = refl; within = clone_within (streams_of h) s w; given_is = refl }

pub clone_yields : (setting : Setting) (newer : List Entry) (e : Entry) (older : List Entry) (number first : ℕ) → Legal setting (newer ++ e ∷ older) → e.words ≡ Words.OfStream first StreamOp.Clone
    → e.answer ≡ Answer.Streaming number → Yields setting newer e older number (rule_at (replay setting older) e.lane first) (holds (replay setting older) e.lane first)
unfolding matched phase
clone_yields setting newer e older number first legal w a =
    let t = replay setting older in
    let h = t.past in
    let there = legal_from setting newer (e ∷ older) legal in
    let not_ = ap stays_open a in
    let means = ap (plan t e.lane) w in
    let n = named_done h (on_stream t e.lane StreamOp.Clone) (handle_index 0 e.lane first t.streams) e (subst (λ pl. IsMeant h pl e) means there.0) not_ in
    let opens = open_done h (is_open h n.0) (makes t e.lane (Cloned n.0)) e (subst (λ pl. IsMeant h pl e) (means ∙ n.2) there.0) not_ in
    let o = open_stream h n.0 opens.0 in
    let s = o.0 in
    let at : stream_of t e.lane first ≡ Some s = ap (option_and_then (slice_get h.streams)) n.1 ∙ o.1 in
    let clone = clone_of (streams_of h) (Some s) in
    let within = all_at (IsWithin h.read) h.streams n.0 s o.1 (all_within setting older there.1) in
    subst (λ x. Yields setting newer e older number (rule_of x) (unwrap_or (option_map (held h.read) x) [])) (sym at)
    (gives_from setting newer e older number s.rule s.start (s.skip + s.taken) _ legal
    (flow_made t e number (Cloned n.0) clone there.0 (means ∙ n.2 ∙ opens.1) a (lanes setting older) (ap (clone_of (streams_of h)) o.1) (own_clone h s within))
    (clone_offers h s (replay setting (newer ++ e ∷ older)).past.read within o.2
    (since (λ q. (ms : List MessageView) × (q.read ≡ h.read ++ ms)) (reads_on h.read) setting newer (e ∷ older) (every_entry (λ q. (ms : List MessageView) × (q.read ≡ h.read ++ ms)) (reads_on h.read) (plan t e.lane e.words) e h ([], sym (append-nil h.read))))))
