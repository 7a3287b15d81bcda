-- The messages of a command are built and placed in the outbox one after another, or what was done is taken back.
use Rattle.std.proofs.{Common.{arith, ◌≡◌, ◌+◌, ◌<◌, ℕ, suc, drop, get_or, refl, sym, ◌∙◌, ap, subst, Bool, true, false, ◌||◌, List, [], ◌∷◌, ◌++◌, length, length-drop, Option, Err, append_assoc}, lemmas.List.append-nil, Math.Seq.drop-cons}
use Rattle.peer_calls.specs.{Names.{MessageView, Error, Issued}, History.{CallsPast, after}, Issuing.{Posting, posted, put_of, put_each, outgoings, some_long, issued_of, issued_each}, Placing.{posts, IsPlaced, Places, Grows}}
use Rattle.wire_message.specs.Outgoing.{OutgoingMessageView, sent_by, is_long}

-- ---- several

-- Some messages with these serials are placed, and the rest, with the serials `left`, are not, by the past `now` that the first leave.
pub record Placing (ds : List Posting) (serials : List ℕ) (p : CallsPast) (rest : List Posting) (left : List ℕ) (issued : List Issued) (outbox : List MessageView) (places : List ℕ) : Type 0 where
  pub now : CallsPast
  pub placed : IsPlaced outbox places now
  pub long : some_long (outgoings ds) serials ≡ some_long (outgoings rest) left
  pub told : issued_each p ds serials ≡ issued ++ issued_each now rest left
  pub ends : put_each ds serials p ≡ put_each rest left now

pub placing_start : (ds : List Posting) (serials : List ℕ) (p : CallsPast) (outbox : List MessageView) (places : List ℕ) → IsPlaced outbox places p → Placing ds serials p ds serials [] outbox places
placing_start ds serials p outbox places placed = record { now = p; placed = placed; long = refl; told = refl; ends = refl }

pub placing_more : (ds : List Posting) (serials : List ℕ) (p : CallsPast) (d : Posting) (rest : List Posting) (serial : ℕ) (left : List ℕ) (issued : List Issued) (i : Issued) (outbox outbox_now : List MessageView) (places places_now : List ℕ)
    → (x : Placing ds serials p (d ∷ rest) (serial ∷ left) issued outbox places) → (is_long d.outgoing serial || false) ≡ false → i ∷ [] ≡ issued_of x.now d serial ∷ []
    → IsPlaced outbox_now places_now (after (put_of d serial) x.now) → Placing ds serials p rest left (issued ++ i ∷ []) outbox_now places_now
placing_more ds serials p d rest serial left issued i outbox outbox_now places places_now x short is placed = record {
  now = after (put_of d serial) x.now;
  placed = placed;
  long = x.long ∙ short_first (is_long d.outgoing serial) (some_long (outgoings rest) left) short;
  told = x.told ∙ ap (λ j. issued ++ (j ++ issued_each (after (put_of d serial) x.now) rest left)) (sym is)
      ∙ sym (append_assoc issued (i ∷ []) (issued_each (after (put_of d serial) x.now) rest left));
  ends = x.ends;
}
  where
    short_first : (a b : Bool) → (a || false) ≡ false → (a || b) ≡ b
    short_first true b e = cc
    short_first false b e = refl

placing_long : (ds : List Posting) (serials : List ℕ) (p : CallsPast) (d : Posting) (rest : List Posting) (serial : ℕ) (left : List ℕ) (issued : List Issued) (outbox : List MessageView) (places : List ℕ)
    → Placing ds serials p (d ∷ rest) (serial ∷ left) issued outbox places → (is_long d.outgoing serial || false) ≡ true → some_long (outgoings ds) serials ≡ true
placing_long ds serials p d rest serial left issued outbox places x long = x.long ∙ long_first (is_long d.outgoing serial) (some_long (outgoings rest) left) long
  where
    long_first : (a b : Bool) → (a || false) ≡ true → (a || b) ≡ true
    long_first true b e = refl
    long_first false b e = cc

-- one that isn't built refuses them all
pub placing_refused : {A : Type 0} (items : A → List Issued) (ds : List Posting) (serials : List ℕ) (p : CallsPast) (d : Posting) (rest : List Posting) (serial : ℕ) (left : List ℕ) (issued : List Issued) (outbox outbox_now : List MessageView) (places places_now : List ℕ) (error : Error)
    → (x : Placing ds serials p (d ∷ rest) (serial ∷ left) issued outbox places) → Places (λ (i : Issued). i ∷ []) (d ∷ []) (serial ∷ []) x.now outbox_now places_now (Err error)
    → Places items ds serials p outbox_now places_now (Err error)
placing_refused items ds serials p d rest serial left issued outbox outbox_now places places_now Error.ExcessData x y = placing_long ds serials p d rest serial left issued outbox places x y
placing_refused items ds serials p d rest serial left issued outbox outbox_now places places_now Error.Memory x y = tt
placing_refused items ds serials p d rest serial left issued outbox outbox_now places places_now other x y = absurd y

-- the next of the messages that are left, and of their serials
pub next_left : (serials : List ℕ) (n m : ℕ) (rest : List OutgoingMessageView) (p : OutgoingMessageView) (more : List OutgoingMessageView) → m ≡ n → length (drop n serials) ≡ length rest → rest ≡ p ∷ more
    → drop n serials ≡ get_or serials m 0 ∷ drop (n + 1) serials
next_left serials n m rest p more same e f =
    let less : n < length serials = omega (arith, e, ap length f, length-drop n serials) in
    let k : suc n ≡ n + 1 = omega arith in
    drop-cons serials n 0 less ∙ ap (λ i. get_or serials n 0 ∷ drop i serials) k ∙ ap (λ i. get_or serials i 0 ∷ drop (n + 1) serials) (sym same)

pub none_left : {A : Type 0} (xs : List A) → length xs ≡ 0 → xs ≡ []
none_left [] e = refl
none_left (x ∷ xs) e = absurd (omega (arith, e))

pub next_placing : (internal : Bool) (name : Option (List ℕ)) (served : Bool) (h : CallsPast) (ds : List Posting) (serials : List ℕ) (rest : List OutgoingMessageView) (p : OutgoingMessageView) (more : List OutgoingMessageView) (left : List ℕ) (serial : ℕ) (others : List ℕ) (issued : List Issued) (outbox : List MessageView) (places : List ℕ)
    → rest ≡ p ∷ more → left ≡ serial ∷ others → Placing ds serials h (posts internal name served rest) left issued outbox places
    → Placing ds serials h (posted internal (sent_by name served p) ∷ posts internal name served more) (serial ∷ others) issued outbox places
next_placing internal name served h ds serials rest p more left serial others issued outbox places e f x =
    subst (λ ns. Placing ds serials h (posts internal name served (p ∷ more)) ns issued outbox places) f
    (subst (λ ps. Placing ds serials h (posts internal name served ps) left issued outbox places) e x)

pub placing_done : (ds : List Posting) (serials : List ℕ) (p : CallsPast) (left : List ℕ) (issued : List Issued) (outbox : List MessageView) (places : List ℕ)
    → Placing ds serials p [] left issued outbox places → (some_long (outgoings ds) serials ≡ false) × (issued ≡ issued_each p ds serials) × IsPlaced outbox places (put_each ds serials p)
placing_done ds serials p left issued outbox places x = (x.long, sym (x.told ∙ append-nil issued), subst (IsPlaced outbox places) (sym x.ends) x.placed)

-- ---- more at the end

pub grows_more : {A : Type 0} (xs ys zs : List A) → Grows xs ys → Grows ys zs → Grows xs zs
grows_more xs ys zs g h = (g.0 ++ h.0, h.1 ∙ ap (λ us. us ++ h.0) g.1 ∙ append_assoc xs g.0 h.0)
