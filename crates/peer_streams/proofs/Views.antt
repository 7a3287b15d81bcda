-- What is kept of streams, as a list by number, and what a change of what is stored does to it.
use Rattle.std.proofs.{Common.{◌≡◌, ◌≢◌, ℕ, ◌+◌, ◌<◌, ◌≤◌, suc, zero, inl, inr, refl, sym, ◌∙◌, ap, arith, List, [], ◌∷◌, ◌++◌, length, length-append, map, get_or, Option, Some, None}, lemmas.Bool.{cases_eq}, lemmas.List.{ext_get_or, length-map, map-id}, lemmas.List.FromFn.{length-map-range_with_len, get_or-map-range_with_len}, lemmas.Option.{slice_get-get_or, slice_get_past}}
use Rattle.std.specs.{List.{range_with_len, slice_get}, Option.{unwrap_or}}
use Rattle.wire_message.specs.Plain.{edit}
use Rattle.wire_message.proofs.Edits.{edit-length}
use Rattle.peer_streams.specs.{Names.{Rule, StreamState, Progress}, Subscriptions.limit_in, Refinement.{StreamView, gone_view}, Keeping.{Parts, state_at, held_of, messages_of, shown, shown_by, wants_of, view_at, views}}

-- ---- the list

pub views_length : (p : Parts) → length (views p) ≡ p.made
unfolding views
views_length p = length-map-range_with_len (view_at p) 0 p.made

pub views_get : (p : Parts) (k : ℕ) → k < p.made → get_or (views p) k gone_view ≡ view_at p k
unfolding views
views_get p k lt = get_or-map-range_with_len (view_at p) 0 p.made k k gone_view lt (omega arith)

pub views_nil : (p : Parts) → p.made ≡ 0 → views p ≡ []
unfolding views
views_nil p e = ap (λ n. map (view_at p) (range_with_len 0 n)) e

-- as look-ups read it
pub views_at : (p : Parts) (k : ℕ) → k < p.made → slice_get (views p) k ≡ Some (view_at p k)
views_at p k lt = slice_get-get_or (views p) k gone_view (omega (arith, views_length p)) ∙ ap (λ x. Some x) (views_get p k lt)

pub views_past : (p : Parts) (k : ℕ) → p.made ≤ k → slice_get (views p) k ≡ None
views_past p k le = slice_get_past (views p) k (omega (arith, views_length p))

-- ---- what changes it

-- a list of as many is these views where it has them at each place
views_are : (p : Parts) (qs : List StreamView) → length qs ≡ p.made → ((k : ℕ) → k < p.made → view_at p k ≡ get_or qs k gone_view) → views p ≡ qs
views_are p qs len e =
    ext_get_or gone_view (views p) qs (views_length p ∙ sym len) (λ k lt. let there : k < p.made = omega (arith, views_length p) in views_get p k there ∙ e k there)

get_or-map : {A B : Type 0} (f : A → B) (xs : List A) (k : ℕ) (d : A) (e : B) → k < length xs → get_or (map f xs) k e ≡ f (get_or xs k d)
get_or-map f [] k d e lt = absurd (omega arith)
get_or-map f (x ∷ xs) zero d e lt = refl
get_or-map f (x ∷ xs) (suc k) d e lt = get_or-map f xs k d e (omega arith)

get_or-edit_here : {A : Type 0} (f : A → A) (xs : List A) (k : ℕ) (d : A) → k < length xs → get_or (edit k f xs) k d ≡ f (get_or xs k d)
get_or-edit_here f [] k d lt = absurd (omega arith)
get_or-edit_here f (x ∷ xs) zero d lt = refl
get_or-edit_here f (x ∷ xs) (suc k) d lt = get_or-edit_here f xs k d (omega arith)

get_or-edit_other : {A : Type 0} (f : A → A) (xs : List A) (k j : ℕ) (d : A) → k ≢ j → get_or (edit k f xs) j d ≡ get_or xs j d
get_or-edit_other f [] k j d ne = refl
get_or-edit_other f (x ∷ xs) zero zero d ne = absurd (ne refl)
get_or-edit_other f (x ∷ xs) zero (suc j) d ne = refl
get_or-edit_other f (x ∷ xs) (suc k) zero d ne = refl
get_or-edit_other f (x ∷ xs) (suc k) (suc j) d ne = get_or-edit_other f xs k j d (λ e. ne (ap (λ n. suc n) e))

-- nothing
pub views_same : (p q : Parts) → q.made ≡ p.made → ((k : ℕ) → view_at q k ≡ view_at p k) → views q ≡ views p
views_same p q made e = views_are q (views p) (views_length p ∙ sym made) (λ k lt. e k ∙ sym (views_get p k (omega (arith, made))))

-- each stream
pub views_map : (f : StreamView → StreamView) (p q : Parts) → q.made ≡ p.made → ((k : ℕ) → view_at q k ≡ f (view_at p k)) → views q ≡ map f (views p)
views_map f p q made e =
    views_are q (map f (views p)) (length-map (views p) f ∙ views_length p ∙ sym made)
    (λ k lt. let there : k < p.made = omega (arith, made) in
    e k ∙ ap f (sym (views_get p k there)) ∙ sym (get_or-map f (views p) k gone_view gone_view (omega (arith, views_length p))))

-- the stream with this number
pub views_edit : (f : StreamView → StreamView) (k : ℕ) (p q : Parts) → q.made ≡ p.made → view_at q k ≡ f (view_at p k) → ((j : ℕ) → k ≢ j → view_at q j ≡ view_at p j) → views q ≡ edit k f (views p)
views_edit f k p q made one others =
    views_are q (edit k f (views p)) (edit-length k f (views p) ∙ views_length p ∙ sym made)
    (λ j lt. let there : j < p.made = omega (arith, made) in
    elim (cases_eq k j) as (λ _. view_at q j ≡ get_or (edit k f (views p)) j gone_view) [
      | inl e ↦
          ap (view_at q) (sym e) ∙ one ∙ ap f (sym (views_get p k (omega (arith, e)))) ∙ sym (get_or-edit_here f (views p) k gone_view (omega (arith, e, views_length p))) ∙ ap (λ i. get_or (edit k f (views p)) i gone_view) e
      | inr ne ↦ others j ne ∙ sym (views_get p j there) ∙ sym (get_or-edit_other f (views p) k j gone_view ne)
    ])

appended_length : {A : Type 0} (xs : List A) (y : A) → length (xs ++ y ∷ []) ≡ length xs + 1
appended_length xs y = length-append xs (y ∷ [])

appended_last : {A : Type 0} (xs : List A) (y : A) (k : ℕ) (d : A) → k ≡ length xs → get_or (xs ++ y ∷ []) k d ≡ y
appended_last [] y zero d e = refl
appended_last [] y (suc k) d e = absurd (omega (arith, e))
appended_last (x ∷ xs) y zero d e = absurd (omega (arith, e))
appended_last (x ∷ xs) y (suc k) d e = appended_last xs y k d (omega (arith, e))

appended_first : {A : Type 0} (xs : List A) (y : A) (k : ℕ) (d : A) → k < length xs → get_or (xs ++ y ∷ []) k d ≡ get_or xs k d
appended_first [] y k d lt = absurd (omega arith)
appended_first (x ∷ xs) y zero d lt = refl
appended_first (x ∷ xs) y (suc k) d lt = appended_first xs y k d (omega arith)

-- each stream, and one stream more
pub views_added : (f : StreamView → StreamView) (p q : Parts) → q.made ≡ p.made + 1 → ((k : ℕ) → k < p.made → view_at q k ≡ f (view_at p k)) → views q ≡ map f (views p) ++ view_at q p.made ∷ []
views_added f p q made e =
    let xs = map f (views p) in
    let y = view_at q p.made in
    let len : length xs ≡ p.made = length-map (views p) f ∙ views_length p in
    views_are q (xs ++ y ∷ []) (appended_length xs y ∙ ap (λ n. n + 1) len ∙ sym made)
    (λ k lt. elim (cases_eq k p.made) as (λ _. view_at q k ≡ get_or (xs ++ y ∷ []) k gone_view) [
      | inl is ↦ ap (view_at q) is ∙ sym (appended_last xs y k gone_view (is ∙ sym len))
      | inr ne ↦
          let there : k < p.made = omega (arith, made, ne) in
          e k there ∙ ap f (sym (views_get p k there)) ∙ sym (get_or-map f (views p) k gone_view gone_view (omega (arith, views_length p)))
          ∙ sym (appended_first xs y k gone_view (omega (arith, len)))
    ])

-- one stream more
pub views_more : (p q : Parts) → q.made ≡ p.made + 1 → ((k : ℕ) → k < p.made → view_at q k ≡ view_at p k) → views q ≡ views p ++ view_at q p.made ∷ []
views_more p q made e = views_added (λ v. v) p q made e ∙ ap (λ xs. xs ++ view_at q p.made ∷ []) (map-id (views p))

-- ---- a stream that nothing changed of

pub wants_along : (p q : Parts) (o : Option Rule) → ((r : Rule) → o ≡ Some r → limit_in q.lists.rules r ≡ limit_in p.lists.rules r) → wants_of q o ≡ wants_of p o
wants_along p q None e = refl
wants_along p q (Some r) e = ap (λ (o : Option ℕ). Some (record { rule = r; limit = unwrap_or o 0 })) (e r refl)

pub shown_along : (p q : Parts) (k : ℕ) (st : StreamState) (pr : Progress) → ((r : Rule) → st.rule ≡ Some r → limit_in q.lists.rules r ≡ limit_in p.lists.rules r) → held_of q.lists st.rule k ≡ held_of p.lists st.rule k
    → shown_by q k st pr ≡ shown_by p k st pr
shown_along p q k st (Progress.AwaitingReply serial index denial) limits held = ap (λ w. record (shown_by p k st (Progress.AwaitingReply serial index denial)) { wants = w }) (wants_along p q st.rule limits)
shown_along p q k st (Progress.Denied m) limits held = refl
shown_along p q k st Progress.Active limits held =
    ap (λ w. record (shown_by q k st Progress.Active) { wants = w }) (wants_along p q st.rule limits) ∙ ap (λ h. record (shown_by p k st Progress.Active) { items = messages_of h }) held

-- The same is shown of a stream, where what is known of it, what it holds, and its rule's capacity are the same.
pub view_along : (p q : Parts) (k : ℕ) → state_at q k ≡ state_at p k → ((r : Rule) → limit_in q.lists.rules r ≡ limit_in p.lists.rules r) → ((o : Option Rule) → held_of q.lists o k ≡ held_of p.lists o k) → view_at q k ≡ view_at p k
view_along p q k state limits held = ap (shown q k) state ∙ by (state_at p k)
  where
    by : (o : Option StreamState) → shown q k o ≡ shown p k o
    by None = refl
    by (Some st) = shown_along p q k st st.progress (λ r _. limits r) (held st.rule)
