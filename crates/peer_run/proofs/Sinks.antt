-- What writes leave of a sink, by the outbox: messages are put, one is written, one's write fails, or the sink is closed.
use Rattle.std.proofs.{Common.{◌≡◌, ℕ, ◌+◌, ◌-◌, ◌≤◌, ◌<◌, zero, suc, refl, sym, ◌∙◌, ap, subst, arith, IsSome, IfSome, nat_le, nat_lt, if◌then◌else◌, Bool, true, false, List, [], ◌∷◌, ◌++◌, length, take, slice_get, Option, Some, None, length-append, append_assoc, append-nil}, Math.Seq.take-append_seam, lemmas.List.{take-append-le, length-take-le, take_all, take_more}, lemmas.List.Concat.flat_map-append, lemmas.Bool.Decides.nat_tests, lemmas.Option.{slice_get_within, get_or_from_slice_get, IfSome_then}}
use Rattle.std.specs.Io.KnownBytes.{Appends, Keeps}
use Rattle.peer_run.specs.{Names.{SinkView, MessageView, RoomFalls, RoomBreaks, RoomStays, Part, Answer, Writer}, Runs.{Got, Sinks, Shuts}}
use Rattle.wire_framing.proofs.Gone.{room_then}
use Rattle.peer_calls.specs.History.{Outbox}
use Rattle.peer_core.specs.History.{no_past, after}
use Rattle.peer_route.specs.{Environment.{AreWritten, IsCutAt, fitting, message_bytes}}
use Rattle.wire_message.proofs.Edits.{get_new, get_append}

-- ---- lists

-- those behind one
take_past : (ms : List MessageView) (d e : ℕ) (m : MessageView) → slice_get ms d ≡ Some m → d < e → (more : List MessageView) × (take e ms ≡ take d ms ++ m ∷ more)
take_past [] d e m there less = absurd (cc)
take_past (x ∷ ms) d zero m there less = absurd (omega (arith, less))
take_past (x ∷ ms) zero (suc e) m there less = (take e ms, let is : x ≡ m = cc in ap (λ y. y ∷ take e ms) is)
take_past (x ∷ ms) (suc d) (suc e) m there less = let behind = take_past ms d e m there (omega (arith, less)) in (behind.0, ap (λ ys. x ∷ ys) behind.1)

message_bytes_more : (ms more : List MessageView) → message_bytes (ms ++ more) ≡ message_bytes ms ++ message_bytes more
message_bytes_more ms more = flat_map-append (λ (m : MessageView). m.bytes) ms more

-- ---- how many fit

fit_all : (k : ℕ) (ms : List MessageView) → length (message_bytes ms) ≤ k → fitting k ms ≡ length ms
fit_all k [] less = refl
fit_all k (m ∷ ms) less =
    let both : length (message_bytes (m ∷ ms)) ≡ length m.bytes + length (message_bytes ms) = length-append m.bytes (message_bytes ms) in
    let e : nat_le (length m.bytes) k ≡ true = grind (arith, nat_tests) in
    let inner : fitting (k - length m.bytes) ms ≡ length ms = fit_all (k - length m.bytes) ms (omega (arith, both, less)) in
    ap (λ b. if b then fitting (k - length m.bytes) ms + 1 else 0) e ∙ omega (arith, inner)

-- those before one that doesn't
fit_some : (k : ℕ) (ms more : List MessageView) (m : MessageView) → length (message_bytes ms) ≤ k → k < length (message_bytes ms) + length m.bytes
    → (length ms ≡ fitting k (ms ++ m ∷ more)) × (k < length (message_bytes (ms ++ m ∷ more)))
fit_some k [] more m less past =
    let both : length (message_bytes (m ∷ more)) ≡ length m.bytes + length (message_bytes more) = length-append m.bytes (message_bytes more) in
    let over : k < length m.bytes = omega (arith, past) in
    let e : nat_le (length m.bytes) k ≡ false = grind (arith, nat_tests) in
    (ap (λ b. if b then fitting (k - length m.bytes) more + 1 else 0) (sym e), omega (arith, both, over))
fit_some k (x ∷ ms) more m less past =
    let rest = ms ++ m ∷ more in
    let both : length (message_bytes (x ∷ rest)) ≡ length x.bytes + length (message_bytes rest) = length-append x.bytes (message_bytes rest) in
    let first : length (message_bytes (x ∷ ms)) ≡ length x.bytes + length (message_bytes ms) = length-append x.bytes (message_bytes ms) in
    let fits : length x.bytes ≤ k = omega (arith, first, less) in
    let e : nat_le (length x.bytes) k ≡ true = grind (arith, nat_tests) in
    let inner = fit_some (k - length x.bytes) ms more m (omega (arith, first, less)) (omega (arith, first, less, past, fits)) in
    let one : suc (length ms) ≡ fitting (k - length x.bytes) rest + 1 = omega (arith, inner.0) in
    (one ∙ ap (λ b. if b then fitting (k - length x.bytes) rest + 1 else 0) (sym e), omega (arith, both, inner.1, fits))

-- ---- what a sink tells

cut_none : (room : Option (Option ℕ)) (sent : List ℕ) → IsCutAt room false sent
cut_none None sent = tt
cut_none (Some None) sent = tt
cut_none (Some (Some k)) sent = tt

falls_none : (room : Option (Option ℕ)) → RoomFalls room room 0
falls_none None = tt
falls_none (Some None) = refl
falls_none (Some (Some k)) = let e : k ≡ k - 0 = omega arith in (omega arith, ap (λ n. Some (Some n)) e)

falls_tells : (room now : Option (Option ℕ)) (n : ℕ) → RoomFalls room now n → IsSome room → IsSome now
falls_tells None now n falls there = absurd (cc)
falls_tells (Some None) now n falls there = subst IsSome (sym falls) refl
falls_tells (Some (Some k)) now n falls there = subst IsSome (sym falls.1) refl

written_fine : (room now : Option (Option ℕ)) (ms : List MessageView) → RoomFalls room now (length (message_bytes ms)) → AreWritten room false (length ms) ms
written_fine None now ms falls = tt
written_fine (Some None) now ms falls = refl
written_fine (Some (Some k)) now ms falls =
    let less : length (message_bytes ms) ≤ k = falls.0 in
    let over : nat_lt k (length (message_bytes ms)) ≡ false = grind (arith, nat_tests) in
    (sym (fit_all k ms less), sym over)

-- all of these were written
got_fine : (start now : SinkView) (ms : List MessageView) → RoomFalls start.room now.room (length (message_bytes ms)) → IfSome start.held (λ before. now.held ≡ Some (before ++ message_bytes ms)) → Got start now false (length ms) ms
got_fine start now ms falls held = record {
  held = IfSome_then start.held held (λ before is. (message_bytes ms, is, (refl, refl), cut_none start.room (message_bytes ms)));
  told = written_fine start.room now.room ms falls;
  room = λ fine. falls;
  tells = falls_tells start.room now.room (length (message_bytes ms)) falls;
}

keeps_some : (now after : Option (List ℕ)) (xs : List ℕ) → now ≡ Some xs → Keeps now after → after ≡ Some xs
keeps_some None after xs e keeps = cc
keeps_some (Some ys) None xs e keeps = absurd keeps
keeps_some (Some ys) (Some zs) xs e keeps = ap Some keeps ∙ e

appends_some : (now after : Option (List ℕ)) (xs bs : List ℕ) → now ≡ Some xs → Appends now after bs → after ≡ Some (xs ++ bs)
appends_some None after xs bs e appends = cc
appends_some (Some ys) None xs bs e appends = absurd appends
appends_some (Some ys) (Some zs) xs bs e appends = let same : ys ≡ xs = cc in ap Some (appends ∙ ap (λ l. l ++ bs) same)

-- one more is
got_more : (start now after : SinkView) (ms : List MessageView) (m : MessageView) (n : ℕ) → Got start now false n ms → Appends now.held after.held m.bytes → RoomFalls now.room after.room (length m.bytes)
    → Got start after false (length (ms ++ m ∷ [])) (ms ++ m ∷ [])
got_more start now after ms m n got appends falls =
    let all : message_bytes (ms ++ m ∷ []) ≡ message_bytes ms ++ m.bytes = message_bytes_more ms (m ∷ []) ∙ ap (λ bs. message_bytes ms ++ bs) (append-nil m.bytes) in
    let long : length (message_bytes (ms ++ m ∷ [])) ≡ length (message_bytes ms) + length m.bytes = ap length all ∙ length-append (message_bytes ms) m.bytes in
    got_fine start after (ms ++ m ∷ []) (subst (RoomFalls start.room after.room) (sym long) (room_then start.room now.room after.room (length (message_bytes ms)) (length m.bytes) (got.room refl) falls))
    (IfSome_then start.held got.held (λ before h. appends_some now.held after.held (before ++ h.0) m.bytes h.1 appends
    ∙ ap Some (append_assoc before h.0 m.bytes ∙ ap (λ bs. before ++ bs) (ap (λ bs. bs ++ m.bytes) h.2.1 ∙ sym all))))

-- the room ends within the next one
broken : (room now after : Option (Option ℕ)) (ms more : List MessageView) (m : MessageView) (n : ℕ) → n < length m.bytes → RoomFalls room now (length (message_bytes ms)) → RoomBreaks now after n
    → AreWritten room true (length ms) (ms ++ m ∷ more) × (IsSome room → IsSome after) × ((sent : List ℕ) → length sent ≡ length (message_bytes ms) + n → IsCutAt room true sent)
broken None now after ms more m n less falls breaks = (tt, (λ there. absurd (cc)), λ sent long. tt)
broken (Some None) now after ms more m n less falls breaks = let no : RoomBreaks (Some None) after n = subst (λ x. RoomBreaks x after n) falls breaks in absurd no
broken (Some (Some k)) now after ms more m n less falls breaks =
    let b : (n ≡ k - length (message_bytes ms)) × (after ≡ Some None) = subst (λ x. RoomBreaks x after n) falls.1 breaks in
    let fits : length (message_bytes ms) ≤ k = falls.0 in
    let some = fit_some k ms more m fits (omega (arith, b.0, fits, less)) in
    let past : k < length (message_bytes (ms ++ m ∷ more)) = some.1 in
    let over : nat_lt k (length (message_bytes (ms ++ m ∷ more))) ≡ true = grind (arith, nat_tests) in
    ((some.0, sym over), (λ there. subst IsSome (sym b.1) refl), λ sent long. long ∙ omega (arith, b.0, fits))

-- its write fails, and no more are written
got_failed : (start now after : SinkView) (ms more : List MessageView) (m : MessageView) (c n : ℕ) → Got start now false c ms → Part m.bytes now after n → RoomBreaks now.room after.room n
    → Got start after true (length ms) (ms ++ m ∷ more)
got_failed start now after ms more m c n got part breaks =
    let b = broken start.room now.room after.room ms more m n part.proper (got.room refl) breaks in
    let less : n < length m.bytes = part.proper in
    let some = take n m.bytes in
    let there : slice_get (ms ++ m ∷ more) (length ms) ≡ Some m = subst (λ xs. slice_get xs (length ms) ≡ Some m) (append_assoc ms (m ∷ []) more) (get_append (length ms) (ms ++ m ∷ []) more m (get_new ms m)) in
    let front : message_bytes (take (length ms) (ms ++ m ∷ more)) ≡ message_bytes ms = ap message_bytes (take-append_seam ms (m ∷ more)) in
    let long : length (message_bytes ms ++ some) ≡ length (message_bytes ms) + n = length-append (message_bytes ms) some ∙ ap (λ k. length (message_bytes ms) + k) (length-take-le n m.bytes (omega (arith, less))) in
    record {
      held = IfSome_then start.held got.held (λ before h. (
        message_bytes ms ++ some,
        appends_some now.held after.held (before ++ h.0) some h.1 part.gone ∙ ap Some (append_assoc before h.0 some ∙ ap (λ bs. before ++ (bs ++ some)) h.2.1),
        (m, n, there, less, ap (λ bs. bs ++ some) (sym front)),
        b.2 (message_bytes ms ++ some) long,
      ));
      told = b.0;
      room = λ fine. absurd (cc);
      tells = b.1;
    }

-- ---- by the outbox

same_got : (start now : SinkView) (f g : Bool) (n m d e : ℕ) (xs ys : List MessageView) → f ≡ g → n ≡ m → d ≡ e → xs ≡ ys → Got start now g m (take e ys) × (e ≤ length ys) × (g ≡ false → m ≡ e)
    → Got start now f n (take d xs) × (d ≤ length xs) × (f ≡ false → n ≡ d)
same_got start now f g n m d e xs ys a b c z t = rw (a, b, c, z) t

-- an outbox of these numbers
sinks_by : (start now : SinkView) (p : Outbox) (failed : Bool) (count done : ℕ) (ms : List MessageView) → p.put ≡ ms → p.written ≡ count → p.done ≡ done → p.failed ≡ failed
    → Got start now failed count (take done ms) × (done ≤ length ms) × (failed ≡ false → count ≡ done) → Sinks start now p
sinks_by start now p failed count done ms put written ended fails t =
    let u = same_got start now p.failed failed p.written count p.done done p.put ms fails written ended put t in
    record { got = u.0; few = u.1; step = u.2 }

pub sinks_start : (start : SinkView) → Sinks start start no_past.outbox
sinks_start start = record { got = got_fine start start [] (falls_none start.room) (by start.held); few = omega arith; step = λ fine. refl }
  where
    by : (held : Option (List ℕ)) → IfSome held (λ before. held ≡ Some (before ++ []))
    by None = tt
    by (Some before) = ap Some (sym (append-nil before))

-- by what the peer met it makes no difference
pub sinks_same : (start now : SinkView) (o p : Outbox) → record p { writer = Writer.Fine } ≡ record o { writer = Writer.Fine } → Sinks start now o → Sinks start now p
sinks_same start now o p e s =
    sinks_by start now p o.failed o.written o.done o.put (ap (λ (x : Outbox). x.put) e) (ap (λ (x : Outbox). x.written) e) (ap (λ (x : Outbox). x.done) e) (ap (λ (x : Outbox). x.failed) e) (s.got, s.few, s.step)

-- messages are put behind
pub sinks_put : (start now : SinkView) (o : Outbox) (ms : List MessageView) (last : ℕ) → Sinks start now o → Sinks start now (record o { put = o.put ++ ms; last = last })
sinks_put start now o ms last s = record {
  got = subst (Got start now o.failed o.written) (sym (take-append-le o.done o.put ms s.few)) s.got;
  few = let long = length-append o.put ms in omega (arith, s.few, long);
  step = s.step;
}

-- all are done
pub got_all : (start now : SinkView) (o : Outbox) → Sinks start now o → o.done ≡ length o.put → Got start now o.failed o.written o.put
got_all start now o s all = subst (Got start now o.failed o.written) (take_all o.done o.put (omega (arith, all))) s.got

-- the sink is closed
stays_by : (room now after : Option (Option ℕ)) (n : ℕ) → RoomStays now after → (IsSome now → IsSome after) × (RoomFalls room now n → RoomFalls room after n)
stays_by room (Some now) after n stays = ((λ there. subst IsSome (sym stays) refl), λ falls. subst (λ x. RoomFalls room x n) (sym stays) falls)
stays_by None None after n stays = ((λ there. absurd (cc)), λ falls. tt)
stays_by (Some None) None after n stays = ((λ there. absurd (cc)), λ falls. absurd (cc))
stays_by (Some (Some k)) None after n stays = ((λ there. absurd (cc)), λ falls. let no = falls.1 in absurd (cc))

pub sinks_shut : (answer : Answer) (start now after : SinkView) (o : Outbox) → Shuts answer now after → Sinks start now o → Sinks start after o
sinks_shut answer start now after o shuts s =
    let stays = stays_by start.room now.room after.room (length (message_bytes (take o.done o.put))) shuts.room in
    record {
      got = record {
        held = IfSome_then start.held s.got.held (λ before h. (h.0, keeps_some now.held after.held (before ++ h.0) h.1 shuts.held, h.2, h.3));
        told = s.got.told;
        room = λ fine. stays.1 (s.got.room fine);
        tells = λ there. stays.0 (s.got.tells there);
      };
      few = s.few;
      step = s.step;
    }

-- one is written
pub sinks_wrote : (start now after : SinkView) (o : Outbox) (m : MessageView) → slice_get o.put o.done ≡ Some m → o.failed ≡ false → Appends now.held after.held m.bytes → RoomFalls now.room after.room (length m.bytes)
    → Sinks start now o → Sinks start after (record o { written = o.written + 1; done = o.done + 1 })
sinks_wrote start now after o m there fine appends falls s =
    let within = slice_get_within o.put o.done m there in
    let one : take (o.done + 1) o.put ≡ take o.done o.put ++ m ∷ [] = take_more o.put o.done m within ∙ ap (λ x. take o.done o.put ++ x ∷ []) (get_or_from_slice_get o.put o.done m m there) in
    let got = got_more start now after (take o.done o.put) m o.written (subst (λ b. Got start now b o.written (take o.done o.put)) fine s.got) appends falls in
    let count : length (take (o.done + 1) o.put) ≡ o.written + 1 = length-take-le (o.done + 1) o.put (omega (arith, within)) ∙ ap (λ n. n + 1) (sym (s.step fine)) in
    record {
      got = subst (λ b. Got start after b (o.written + 1) (take (o.done + 1) o.put)) (sym fine)
          (subst (λ n. Got start after false n (take (o.done + 1) o.put)) count (subst (λ xs. Got start after false (length xs) xs) (sym one) got));
      few = omega (arith, within);
      step = λ e. ap (λ n. n + 1) (s.step e);
    }

-- one's write fails, and others of those behind it
pub sinks_failed : (start now after : SinkView) (o p : Outbox) (m : MessageView) (n : ℕ) → slice_get o.put o.done ≡ Some m → o.failed ≡ false
    → p.put ≡ o.put → p.written ≡ o.written → p.failed ≡ true → o.done < p.done → p.done ≤ length o.put
    → Part m.bytes now after n → RoomBreaks now.room after.room n → Sinks start now o → Sinks start after p
sinks_failed start now after o p m n there fine put written fails more most part breaks s =
    let behind = take_past o.put o.done p.done m there more in
    let got = got_failed start now after (take o.done o.put) behind.0 m o.written n (subst (λ b. Got start now b o.written (take o.done o.put)) fine s.got) part breaks in
    sinks_by start after p true (length (take o.done o.put)) p.done o.put put (written ∙ s.step fine ∙ sym (length-take-le o.done o.put s.few)) refl fails
    (subst (Got start after true (length (take o.done o.put))) (sym behind.1) got, most, λ e. absurd (cc))
