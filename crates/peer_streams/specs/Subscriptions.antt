-- The rules that are subscribed: how many messages each stream of a rule may hold, and what each holds (D-Bus Specification,
-- "Match Rules").
use Rattle.std.specs.{Prelude.{ℕ, zero, suc, ◌≡◌, ◌≢◌, ◌<◌, slice_get, nat_lt, length, Bool, false, not, ◌||◌, if◌then◌else◌, List, [], ◌∷◌, option_map, unwrap_or, Option, Some, None}, List.{list_any, count_by}, List.AllByRecursion, Option.option_and_then, Map.lookup}
use Rattle.wire_message.specs.Replying.{is_serial}
use Rattle.peer_lists.specs.Holdings.{Holdings, held_by, most_of, with_message}
use Rattle.peer_streams.specs.{Names.{MessageView, Rule, Subscription, accepts}, Rules.{is_same, default_capacity}, History.raised}

-- each rule that is subscribed, with what is kept of it
abbrev pub Subscribed : Type 0
Subscribed = List (Rule × Subscription)

-- what is kept of the rule, if it is subscribed
abbrev pub kept_in : Subscribed → Rule → Option Subscription
kept_in v rule = lookup (is_same rule) v

-- how many messages each stream of the rule may hold; none where the rule isn't subscribed
abbrev pub limit_in : Subscribed → Rule → Option ℕ
limit_in v rule = option_map (λ (s : Subscription). s.limit) (kept_in v rule)

-- what the stream with this number holds, if it is one of the rule
abbrev pub held_in : Subscribed → Rule → ℕ → Option (Option (List MessageView))
held_in v rule k = option_and_then (λ (s : Subscription). held_by s.list k) (kept_in v rule)

-- the first message of what a stream holds
abbrev pub first_held : Option (Option (List MessageView)) → Option MessageView
first_held o = option_and_then (λ (h : Option (List MessageView)). option_and_then (λ (ms : List MessageView). slice_get ms 0) h) o

-- the first message that the rule's stream with this number holds
abbrev pub first_in : Subscribed → Rule → ℕ → Option MessageView
first_in v rule k = first_held (held_in v rule k)

-- a stream of the rule is there but for these
abbrev pub has_other_in : Subscribed → Rule → Option ℕ → Option ℕ → Bool
has_other_in v rule one before = unwrap_or (option_map (λ (s : Subscription). list_any (λ e. not (is_serial one e.0 || is_serial before e.0)) s.list) (kept_in v rule)) false

-- a stream of the rule holds more than it may
abbrev pub is_full_one : Subscription → Bool
is_full_one s = nat_lt s.limit (most_of s.list)

-- the capacity of a rule once a stream of it asks for one or none: the first gets what is asked for, or the default; a later one raises it
abbrev pub limit_asked : Option ℕ → Rule → Option ℕ → ℕ
limit_asked None rule asked = unwrap_or asked (default_capacity rule)
limit_asked (Some limit) rule asked = raised asked limit

-- no two of the rules are one
abbrev pub AreDistinct : Subscribed → Type 0
AreDistinct [] = Unit
AreDistinct (e ∷ es) = (kept_in es e.0 ≡ None) × AreDistinct es

-- the most that a rule's streams hold, one of them holds
abbrev pub MostIsHeld : Holdings → Type 0
MostIsHeld l = 0 < most_of l → (k : ℕ) × (ms : List MessageView) × (held_by l k ≡ Some (Some ms)) × (length ms ≡ most_of l)

-- No rule is there twice. Each that is subscribed has a stream, and the most that its streams hold, one of them holds; and so many rules have one
-- that holds more than it may.
pub record AreSubscribed (v : Subscribed) (full : ℕ) : Type 0 where
  pub apart : AreDistinct v
  pub used : AllByRecursion (λ (e : Rule × Subscription). e.1.list ≢ []) v
  pub told : AllByRecursion (λ (e : Rule × Subscription). MostIsHeld e.1.list) v
  pub counted : full ≡ count_by (λ (e : Rule × Subscription). is_full_one e.1) v

-- ---- a message, rule by rule

-- the message was given to a rule's streams, where the rule accepts it
pub record HasTaken (yes : Bool) (m : MessageView) (old new : Subscription) : Type 0 where
  pub limit : new.limit ≡ old.limit
  pub noted : new.accepted ≡ yes
  pub held : (k : ℕ) → held_by new.list k ≡ (if yes then option_map (with_message m) (held_by old.list k) else held_by old.list k)

-- of a rule's subscription nothing changed that shows: its capacity, and what each of its streams holds, are as before
pub record IsAsBefore (old new : Subscription) : Type 0 where
  pub limit : new.limit ≡ old.limit
  pub held : (k : ℕ) → held_by new.list k ≡ held_by old.list k

-- of a rule: the message was given to its streams, if it accepts it
pub record HasTakenBy (m : MessageView) (e f : Rule × Subscription) : Type 0 where
  pub rule : f.0 ≡ e.0
  pub taken : HasTaken (accepts e.0 m) m e.1 f.1

-- of a rule: nothing changed that shows
pub record IsAsBeforeBy (e f : Rule × Subscription) : Type 0 where
  pub rule : f.0 ≡ e.0
  pub same : IsAsBefore e.1 f.1

-- so many from the front are tied by the one, the rest by the other
abbrev pub FirstAndRest : {A B : Type 0} → (A → B → Type 0) → (A → B → Type 0) → ℕ → List A → List B → Type 0
FirstAndRest P Q n [] [] = Unit {0}
FirstAndRest P Q n [] (y ∷ ys) = ⊥
FirstAndRest P Q n (x ∷ xs) [] = ⊥
FirstAndRest P Q zero (x ∷ xs) (y ∷ ys) = Q x y × FirstAndRest P Q zero xs ys
FirstAndRest P Q (suc n) (x ∷ xs) (y ∷ ys) = P x y × FirstAndRest P Q n xs ys
