-- A message is given to the streams that take messages; the copies that are made before show in nothing; numbers of streams that don't wait are dropped.
use Rattle.std.proofs.{Common.{◌≡◌, ℕ, refl, sym, ◌∙◌, ap, subst, Bool, true, false, if◌then◌else◌, ◌&&◌, not, ◌==◌, List, [], ◌∷◌, ◌++◌, map, Option, Some, None, is_some}, lemmas.Bool.false≢true}
use Rattle.std.specs.{Prelude.nat_eq, List.list_any, Option.{option_map, option_eq}, Map.lookup}
use Rattle.wire_message.specs.Replying.{is_return}
use Rattle.peer_lists.specs.Holdings.{with_message}
use Rattle.peer_streams.specs.{declared.lists.Lists.Lists, Names.{MessageView, Rule, StreamState, Progress}, Rules.is_same, Subscriptions.{limit_in}, Refinement.{StreamView, Active, Wants, keeps_by, pushed, settled, lost}, Keeping.{Parts, state_at, held_of, messages_of, takes, shown, shown_by, wants_of, view_at, views, stands_in, begun_by, waits, is_waiting, AreKept}, Arriving.{parts, quiet_by, quiet, is_answered, IsReady, ChangesEach}}
use Rattle.peer_streams.proofs.{ArrivingKept.{wants_so, stands_at}, Views.{views_same, views_map}}

-- ---- the copies show in nothing

quiet_shown_by : (p : Parts) (k : ℕ) (st : StreamState) (pr : Progress) → shown_by p k st pr ≡ shown_by p k (quiet st) (quiet_by pr)
quiet_shown_by p k st (Progress.AwaitingReply serial index denial) = refl
quiet_shown_by p k st (Progress.Denied m) = refl
quiet_shown_by p k st Progress.Active = refl

quiet_shown : (p : Parts) (k : ℕ) (o : Option StreamState) → shown p k o ≡ shown p k (option_map quiet o)
quiet_shown p k None = refl
quiet_shown p k (Some st) = quiet_shown_by p k st st.progress

quiet_begun : (pr : Progress) → begun_by pr ≡ begun_by (quiet_by pr)
quiet_begun (Progress.AwaitingReply serial index denial) = refl
quiet_begun (Progress.Denied m) = refl
quiet_begun Progress.Active = refl

quiet_stands : (u : Option Rule) (o : Option StreamState) → stands_in u o ≡ stands_in u (option_map quiet o)
quiet_stands u None = refl
quiet_stands u (Some st) = ap (λ b. if option_eq is_same u st.rule then b else None) (quiet_begun st.progress)

quiet_waits : (pr : Progress) → waits pr ≡ waits (quiet_by pr)
quiet_waits (Progress.AwaitingReply serial index denial) = refl
quiet_waits (Progress.Denied m) = refl
quiet_waits Progress.Active = refl

quiet_waiting : (o : Option StreamState) → is_waiting o ≡ is_waiting (option_map quiet o)
quiet_waiting None = refl
quiet_waiting (Some st) = quiet_waits st.progress

quiet_there : (o : Option StreamState) → is_some o ≡ is_some (option_map quiet o)
quiet_there None = refl
quiet_there (Some st) = refl

-- the same but for copies
abbrev pub AreQuiet : List (ℕ × StreamState) → List (ℕ × StreamState) → Type 0
AreQuiet es fs = (k : ℕ) → option_map quiet (lookup (nat_eq k) fs) ≡ option_map quiet (lookup (nat_eq k) es)

pub quiet_kept : (made : ℕ) (es fs : List (ℕ × StreamState)) (l : Lists) (waiting : List ℕ) → AreQuiet es fs → AreKept (parts made es l) waiting → AreKept (parts made fs l) waiting
quiet_kept made es fs l waiting same was =
    let along = λ (X : Type 0) (f : Option StreamState → X) (e : (o : Option StreamState) → f o ≡ f (option_map quiet o)) (k : ℕ). e (lookup (nat_eq k) fs) ∙ ap f (same k) ∙ sym (e (lookup (nat_eq k) es)) in
    record {
      below = λ k there. was.below k (sym (along Bool (λ o. is_some o) quiet_there k) ∙ there);
      lists = λ o k. was.lists o k ∙ sym (along (Option Bool) (stands_in o) (quiet_stands o) k);
      listed = λ k there. was.listed k (sym (along Bool is_waiting quiet_waiting k) ∙ there);
    }

pub quiet_view : (made : ℕ) (es fs : List (ℕ × StreamState)) (l : Lists) → AreQuiet es fs → (k : ℕ) → view_at (parts made fs l) k ≡ view_at (parts made es l) k
quiet_view made es fs l same k = quiet_shown (parts made fs l) k (lookup (nat_eq k) fs) ∙ ap (shown (parts made es l) k) (same k) ∙ sym (quiet_shown (parts made es l) k (lookup (nat_eq k) es))

pub quiet_views : (made : ℕ) (es fs : List (ℕ × StreamState)) (l : Lists) → AreQuiet es fs → views (parts made fs l) ≡ views (parts made es l)
quiet_views made es fs l same = views_same (parts made es l) (parts made fs l) refl (quiet_view made es fs l same)

-- ---- the message is given

-- what giving it leaves, and what is left where it couldn't be
pub record Gives (m : MessageView) (l n : Lists) : Type 0 where
  pub limits : (r : Rule) → limit_in n.rules r ≡ limit_in l.rules r
  pub held : (o : Option Rule) (k : ℕ) → held_of n o k ≡ (if takes o m then option_map (with_message m) (held_of l o k) else held_of l o k)

still_kept : (made : ℕ) (es : List (ℕ × StreamState)) (l n : Lists) (waiting : List ℕ) → ((o : Option Rule) (k : ℕ) → option_map is_some (held_of n o k) ≡ option_map is_some (held_of l o k)) → AreKept (parts made es l) waiting
    → AreKept (parts made es n) waiting
still_kept made es l n waiting same was = record { below = was.below; lists = λ o k. same o k ∙ was.lists o k; listed = was.listed }

given_stands : (m : MessageView) (b : Bool) (h : Option (Option (List MessageView))) → option_map is_some (if b then option_map (with_message m) h else h) ≡ option_map is_some h
given_stands m false h = refl
given_stands m true None = refl
given_stands m true (Some None) = refl
given_stands m true (Some (Some ms)) = refl

pub given_kept : (m : MessageView) (made : ℕ) (es : List (ℕ × StreamState)) (l n : Lists) (waiting : List ℕ) → Gives m l n → AreKept (parts made es l) waiting → AreKept (parts made es n) waiting
given_kept m made es l n waiting g was = still_kept made es l n waiting (λ o k. ap (option_map is_some) (g.held o k) ∙ given_stands m (takes o m) (held_of l o k)) was

keeps_so : (p : Parts) (o : Option Rule) (m : MessageView) → keeps_by Active (wants_of p o) m ≡ takes o m
keeps_so p None m = refl
keeps_so p (Some rule) m = refl

-- a stream that runs, by whether the message is one of its own
given_items : (m : MessageView) (q : StreamView) (b : Bool) (h : Option (Option (List MessageView))) → option_map is_some h ≡ Some true
    → record q { items = messages_of (if b then option_map (with_message m) h else h) } ≡ (if b then record q { items = messages_of h ++ m ∷ [] } else record q { items = messages_of h })
given_items m q false h e = refl
given_items m q true None e = cc
given_items m q true (Some None) e = cc
given_items m q true (Some (Some ms)) e = refl

given_shown : (m : MessageView) (made : ℕ) (es : List (ℕ × StreamState)) (l n : Lists) → Gives m l n → (k : ℕ) (st : StreamState) (pr : Progress) → option_map is_some (held_of l st.rule k) ≡ begun_by pr
    → shown_by (parts made es n) k st pr ≡ pushed m (shown_by (parts made es l) k st pr)
given_shown m made es l n g k st (Progress.AwaitingReply serial index denial) stands =
    ap (λ (w : Option Wants). record (shown_by (parts made es l) k st (Progress.AwaitingReply serial index denial)) { wants = w }) (wants_so (parts made es l) (parts made es n) st.rule (λ r e. g.limits r))
given_shown m made es l n g k st (Progress.Denied r) stands = refl
given_shown m made es l n g k st Progress.Active stands =
    let p = parts made es l in
    let q = shown_by p k st Progress.Active in
    ap (λ (w : Option Wants). record (shown_by (parts made es n) k st Progress.Active) { wants = w }) (wants_so p (parts made es n) st.rule (λ r e. g.limits r))
    ∙ ap (λ h. record q { items = messages_of h }) (g.held st.rule k)
    ∙ given_items m q (takes st.rule m) (held_of l st.rule k) stands
    ∙ ap (λ b. if b then record q { items = messages_of (held_of l st.rule k) ++ m ∷ [] } else q) (sym (keeps_so p st.rule m))

pub given_view : (m : MessageView) (made : ℕ) (es : List (ℕ × StreamState)) (l n : Lists) (waiting : List ℕ) → Gives m l n → AreKept (parts made es l) waiting → (k : ℕ) → view_at (parts made es n) k ≡ pushed m (view_at (parts made es l) k)
given_view m made es l n waiting g was k = by (lookup (nat_eq k) es) refl
  where
    by : (o : Option StreamState) → lookup (nat_eq k) es ≡ o → shown (parts made es n) k o ≡ pushed m (shown (parts made es l) k o)
    by None at = refl
    by (Some st) at = given_shown m made es l n g k st st.progress (was.lists st.rule k ∙ ap (stands_in st.rule) at ∙ stands_at st)

-- it couldn't be given
pub kept_ungiven : (made : ℕ) (es : List (ℕ × StreamState)) (l n : Lists) (waiting : List ℕ) → ((o : Option Rule) (k : ℕ) → held_of n o k ≡ held_of l o k) → AreKept (parts made es l) waiting → AreKept (parts made es n) waiting
kept_ungiven made es l n waiting same was = still_kept made es l n waiting (λ o k. ap (option_map is_some) (same o k)) was

-- ---- those that don't wait stay as they are

settled_still_by : (m : MessageView) (p : Parts) (k : ℕ) (st : StreamState) (pr : Progress) → waits pr ≡ false → shown_by p k st pr ≡ settled m (shown_by p k st pr)
settled_still_by m p k st (Progress.AwaitingReply serial index denial) e = absurd (false≢true (sym e))
settled_still_by m p k st (Progress.Denied r) e = refl
settled_still_by m p k st Progress.Active e = refl

pub settled_still : (m : MessageView) (p : Parts) (k : ℕ) (o : Option StreamState) → is_waiting o ≡ false → shown p k o ≡ settled m (shown p k o)
settled_still m p k None e = refl
settled_still m p k (Some st) e = settled_still_by m p k st st.progress e

lost_still_by : (index : ℕ) (p : Parts) (k : ℕ) (st : StreamState) (pr : Progress) → waits pr ≡ false → shown_by p k st pr ≡ lost index (shown_by p k st pr)
lost_still_by index p k st (Progress.AwaitingReply serial n denial) e = absurd (false≢true (sym e))
lost_still_by index p k st (Progress.Denied r) e = refl
lost_still_by index p k st Progress.Active e = refl

pub lost_still : (index : ℕ) (p : Parts) (k : ℕ) (o : Option StreamState) → is_waiting o ≡ false → shown p k o ≡ lost index (shown p k o)
lost_still index p k None e = refl
lost_still index p k (Some st) e = lost_still_by index p k st st.progress e

-- so that each changes where all that wait do
pub each_view : (f : StreamView → StreamView) (p q : Parts) (waiting : List ℕ) → ((k : ℕ) (o : Option StreamState) → is_waiting o ≡ false → shown p k o ≡ f (shown p k o)) → AreKept p waiting → ChangesEach f waiting waiting p q
    → (k : ℕ) → view_at q k ≡ f (view_at p k)
each_view f p q waiting still was each k = each.each k ∙ by (list_any (λ n. n == k) waiting) refl
  where
    waits_not : (b : Bool) → is_waiting (state_at p k) ≡ b → list_any (λ n. n == k) waiting ≡ false → is_waiting (state_at p k) ≡ false
    waits_not false e none = e
    waits_not true e none = absurd (false≢true (sym none ∙ was.listed k e))

    by : (b : Bool) → list_any (λ n. n == k) waiting ≡ b → (if b then f (view_at p k) else view_at p k) ≡ f (view_at p k)
    by true e = refl
    by false e = still k (state_at p k) (waits_not (is_waiting (state_at p k)) refl e)

-- all that wait are among these, so that each has its copy
pub all_ready : (m : MessageView) (p : Parts) (waiting : List ℕ) → AreKept p waiting → ((k : ℕ) → list_any (λ n. n == k) waiting ≡ true → IsReady m (state_at p k)) → (k : ℕ) → IsReady m (state_at p k)
all_ready m p waiting was ready k = by (state_at p k) refl
  where
    answered_waits : (pr : Progress) → (is_answered m pr && not (is_return m.kind)) ≡ true → waits pr ≡ true
    answered_waits (Progress.AwaitingReply serial index denial) e = refl
    answered_waits (Progress.Denied r) e = absurd (false≢true e)
    answered_waits Progress.Active e = absurd (false≢true e)

    by : (o : Option StreamState) → state_at p k ≡ o → IsReady m o
    by None at = tt
    by (Some st) at = λ answered. subst (IsReady m) at (ready k (was.listed k (ap is_waiting at ∙ answered_waits st.progress answered))) answered

-- ---- the numbers of those that don't wait are dropped

pub forgotten : (p : Parts) (waiting more : List ℕ) → ((k : ℕ) → is_waiting (state_at p k) ≡ true → list_any (λ n. n == k) waiting ≡ true → list_any (λ n. n == k) more ≡ true) → AreKept p waiting → AreKept p more
forgotten p waiting more all was = record { below = was.below; lists = was.lists; listed = λ k there. all k there (was.listed k there) }

-- ---- all of it

pub arrived : (m : MessageView) (made : ℕ) (es fs gs : List (ℕ × StreamState)) (l n r : Lists) (waiting : List ℕ) → AreKept (parts made es l) waiting → AreQuiet es fs → Gives m l n
    → ChangesEach (settled m) waiting waiting (parts made fs n) (parts made gs r) → views (parts made gs r) ≡ map (settled m) (map (pushed m) (views (parts made es l)))
arrived m made es fs gs l n r waiting was same g each =
    let quiet_was = quiet_kept made es fs l waiting same was in
    views_map (settled m) (parts made fs n) (parts made gs r) refl
    (each_view (settled m) (parts made fs n) (parts made gs r) waiting (settled_still m (parts made fs n)) (given_kept m made fs l n waiting g quiet_was) each)
    ∙ ap (map (settled m))
    (views_map (pushed m) (parts made es l) (parts made fs n) refl (λ k. given_view m made fs l n waiting g quiet_was k ∙ ap (pushed m) (quiet_view made es fs l same k)))

pub views_lost : (index : ℕ) (p q : Parts) (waiting : List ℕ) → q.made ≡ p.made → AreKept p waiting → ChangesEach (lost index) waiting waiting p q → views q ≡ map (lost index) (views p)
views_lost index p q waiting made was each = views_map (lost index) p q made (each_view (lost index) p q waiting (lost_still index p) was each)
