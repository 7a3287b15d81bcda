-- What is kept of streams where only its form changed.
use Rattle.std.proofs.Common.{◌≡◌, ℕ, sym, ◌∙◌, ap, subst, arith, is_some, List, Option, Result, Ok, Err, OnErr}
use Rattle.std.specs.Option.{option_map}
use Rattle.peer_streams.specs.{Names.{Error, Rule}, History.StreamsPast, Refinement.ClonesBy, Subscriptions.limit_in, Keeping.{Parts, state_at, held_of, views, stands_in, is_waiting, AreKept}}
use Rattle.std.specs.Result.{IsErrAnd}
use Rattle.peer_streams.proofs.Views.{view_along, views_same}

-- What is known of each stream, what it holds and what a rule's streams may hold are as they were.
pub record Same (p q : Parts) : Type 0 where
  pub made : q.made ≡ p.made
  pub states : (k : ℕ) → state_at q k ≡ state_at p k
  pub limits : (r : Rule) → limit_in q.lists.rules r ≡ limit_in p.lists.rules r
  pub held : (o : Option Rule) (k : ℕ) → held_of q.lists o k ≡ held_of p.lists o k

pub same_views : {p q : Parts} → Same p q → views q ≡ views p
same_views {p} {q} s = views_same p q s.made (λ k. view_along p q k (s.states k) s.limits (λ o. s.held o k))

pub kept_same : {p q : Parts} {waiting : List ℕ} → AreKept p waiting → Same p q → AreKept q waiting
kept_same {p} {q} kept s = record {
  below = λ k there. let made = s.made in let lt = kept.below k (sym (ap is_some (s.states k)) ∙ there) in omega arith;
  lists = λ o k. ap (option_map is_some) (s.held o k) ∙ kept.lists o k ∙ ap (stands_in o) (sym (s.states k));
  listed = λ k is. kept.listed k (ap is_waiting (sym (s.states k)) ∙ is);
}

pub on_err : {A E P : Type 0} (r : Result A E) → P → OnErr r P
on_err (Ok x) e = tt
on_err (Err x) e = e

-- a clone that memory was wanted for
pub clones_memory : {V : Type 0} (leaves : Type 0) (old new : V) (k : ℕ) (h : StreamsPast) (r : Result ℕ Error) → IsErrAnd r (λ e. e ≡ Error.Memory) → new ≡ old → ClonesBy leaves old new k h r
clones_memory leaves old new k h (Ok x) is same = absurd is
clones_memory leaves old new k h (Err e) is same = subst (λ x. ClonesBy leaves old new k h (Err x)) (sym is) same
