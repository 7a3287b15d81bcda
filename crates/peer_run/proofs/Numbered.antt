-- The entries of a run of a generated script are few, and the line of its numbers is that of a history.
use Rattle.std.proofs.Common.{◌≡◌, ◌≤◌, ◌<◌, ◌^◌, ◌+◌, ◌*◌, ℕ, refl, sym, ◌∙◌, ap, subst, arith, List, length, map}
use Rattle.std.proofs.lemmas.List.{length-map}
use Rattle.peer_gen.specs.{Generated.generated, Counted.gen_line}
use Rattle.peer_turns.specs.Objects.{Handed}
use Rattle.peer_run.specs.{Names.{Script, Entry, Command, command_of}, Histories.{IsHistory}, Program.{IsGenerated}}

-- a run has as many entries as its script has commands
pub few_entries : (entries : List Entry) (commands : List Command) (count : ℕ) → map command_of entries ≡ commands → length commands ≤ 6 * count + 45 → count ≤ 100000 → length entries < 2 ^ 32
few_entries entries commands count each few most =
    let long : length entries ≡ length commands = sym (length-map entries command_of) ∙ ap length each in
    omega (arith, long, few, most)

pub is_generated : (boxes : Handed) (s : Script) (count : ℕ) (entries : List Entry) (held text : List ℕ) (sent : ℕ) → s ≡ generated count → IsHistory boxes s entries held → sent ≡ length held → text ≡ gen_line entries sent → IsGenerated boxes count text
is_generated boxes s count entries held text sent same history sent_is is = record {
  entries = entries;
  sent = held;
  history = subst (λ s. IsHistory boxes s entries held) same history;
  is = is ∙ ap (gen_line entries) sent_is;
}
