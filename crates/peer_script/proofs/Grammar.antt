-- What is read is a script's text: what the lines said so far is a script of just these lines.
use Rattle.std.proofs.{Common.{ℕ, ◌≡◌, ◌+◌, ◌≤◌, Bool, true, false, ◌&&◌, nat_le, if◌then◌else◌, List, [], ◌∷◌, ◌++◌, map, Option, Some, None, Ok, Err, refl, sym, ap, ◌∙◌, subst, arith, append_assoc, append-nil}, lemmas.Bool.Decides.nat_tests}
use Rattle.peer_words.specs.declared.words.Command.{Command}
use Rattle.peer_script.specs.{declared.kind.PeerKind.PeerKind, declared.line.Line.Line, declared.line.Line.TheVariants.{Peer, Capacity, Machine, Fds, OutFault, In, InFault, Do, Sent}, declared.reading.Stage.Stage, declared.reading.Stage.TheVariants.{Start, Over}, Script.{Given, Gave, Broke, Script, ScriptText, line_of, parts, capacity_lines, machine_lines, fds_lines, outfault_lines, given_line, script_lines}, Reading.{Step, begun, rank, first_stage, last_stage, next_stage, may_come, with_line, take_line, may_end, end_of, then_read, read_lines, script_of}}

-- ---- one line after the other

abbrev pub and_then : Option Step → (Step → Option Step) → Option Step
and_then (Some r) more = more r
and_then None more = None

-- what is read by these lines
abbrev pub steps : Step → List Line → Option Step
steps r [] = Some r
steps r (l ∷ ls) = and_then (take_line r.stage r.script (Some l)) (λ q. steps q ls)

-- the parts are lines that were taken so, each ended
record Taken (r : Step) (whole : Script) (ls : List (List ℕ)) : Type 0 where
  lines : List (List ℕ)
  said : List Line
  last : Step
  ended : ls ≡ lines ++ [] ∷ []
  each : map line_of lines ≡ map Some said
  ran : steps r said ≡ Some last
  may : may_end last.stage ≡ true
  all : whole ≡ last.script

end_by : (b : Bool) (s whole : Script) (n : ℕ) → (if b then Ok s else Err n) ≡ Ok whole → (b ≡ true) × (whole ≡ s)
end_by true s whole n h = (refl, cc)
end_by false s whole n h = absurd (cc)

end_if : (stage : Stage) (s : Script) (n : ℕ) → end_of stage s n [] ≡ (if may_end stage then Ok s else Err n)
end_if stage s n = refl

taken_end : (r : Step) (whole : Script) (n : ℕ) (rest : List ℕ) → end_of r.stage r.script n rest ≡ Ok whole → Taken r whole (rest ∷ [])
taken_end r whole n (b ∷ rest) h = absurd (cc)
taken_end r whole n [] h =
    let by = end_by (may_end r.stage) r.script whole n (sym (end_if r.stage r.script n) ∙ h) in
    record { lines = []; said = []; last = r; ended = refl; each = refl; ran = refl; may = by.0; all = by.1 }

no_line : (stage : Stage) (s : Script) → take_line stage s None ≡ None
unfolding take_line
no_line stage s = refl

taken_line : (o : Option Line) (t : Option Step) (r : Step) (whole : Script) (n : ℕ) (line : List ℕ) (ls : List (List ℕ)) → line_of line ≡ o → take_line r.stage r.script o ≡ t
    → ((q : Step) → read_lines q (n + 1) ls ≡ Ok whole → Taken q whole ls) → then_read t n (λ q. read_lines q (n + 1) ls) ≡ Ok whole → Taken r whole (line ∷ ls)
taken_line o None r whole n line ls e f more h = absurd (cc)
taken_line None (Some q) r whole n line ls e f more h = absurd (cc (no_line r.stage r.script, f))
taken_line (Some l) (Some q) r whole n line ls e f more h =
    let k = more q h in
    record {
      lines = line ∷ k.lines;
      said = l ∷ k.said;
      last = k.last;
      ended = ap (λ x. line ∷ x) k.ended;
      each = ap (λ x. x ∷ map line_of k.lines) e ∙ ap (λ x. Some l ∷ x) k.each;
      ran = ap (λ x. and_then x (λ p. steps p k.said)) f ∙ k.ran;
      may = k.may;
      all = k.all;
    }

taken : (ls : List (List ℕ)) (r : Step) (whole : Script) (n : ℕ) → read_lines r n ls ≡ Ok whole → Taken r whole ls
taken [] r whole n h = absurd (cc)
taken (rest ∷ []) r whole n h = taken_end r whole n rest h
taken (line ∷ next ∷ ls) r whole n h =
    taken_line (line_of line) (take_line r.stage r.script (line_of line)) r whole n line (next ∷ ls) refl refl (λ q e. taken (next ∷ ls) q whole (n + 1) e) h

-- ---- what the lines so far say

-- what comes only at later stages isn't there at the stage of this rank
abbrev Later : ℕ → Script → Type 0
Later k s =
    (k ≤ 1 → s.queue ≡ None) × (k ≤ 2 → s.machine ≡ None) × (k ≤ 3 → s.fds ≡ false) × (k ≤ 4 → s.outfault ≡ None) × (k ≤ 4 → s.given ≡ []) × (k ≤ 5 → s.commands ≡ [])

-- the lines of the script at the stage of this rank
abbrev pub lines_at : ℕ → Script → List Line
lines_at k s = if nat_le k 0 then [] else script_lines s (nat_le 7 k)

pub record So (k : ℕ) (s : Script) (ls : List Line) : Type 0 where
  later : Later k s
  pub text : ls ≡ lines_at k s

at_start : (k : ℕ) (s : Script) → k ≤ 0 → lines_at k s ≡ []
at_start k s h = let e : nat_le k 0 ≡ true = grind (arith, nat_tests) in rw e refl

between : (k : ℕ) (s : Script) → 1 ≤ k → k ≤ 6 → lines_at k s ≡ script_lines s false
between k s h i =
    let e : nat_le k 0 ≡ false = grind (arith, nat_tests) in
    let f : nat_le 7 k ≡ false = grind (arith, nat_tests) in
    rw (e, f) refl

pub mapped : {A B : Type 0} (f : A → B) (xs ys : List A) → map f (xs ++ ys) ≡ map f xs ++ map f ys
mapped f [] ys = refl
mapped f (x ∷ xs) ys = ap (λ l. f x ∷ l) (mapped f xs ys)

abbrev all : PeerKind → Option ℕ → Option (List ℕ) → Bool → Option ℕ → List Given → List Command → Bool → List Line
all kind q i f o gs cs sent = script_lines (record { kind = kind; queue = q; machine = i; fds = f; outfault = o; given = gs; commands = cs }) sent

peer_alone : (kind : PeerKind) (q : Option ℕ) (i : Option (List ℕ)) (f : Bool) (o : Option ℕ) (gs : List Given) (cs : List Command) → q ≡ None → i ≡ None → f ≡ false → o ≡ None → gs ≡ [] → cs ≡ []
    → Peer kind ∷ [] ≡ all kind q i f o gs cs false
peer_alone kind q i f o gs cs a b c d e g = rw (a, b, c, d, e, g) refl

more_queue : (kind : PeerKind) (n : ℕ) (q : Option ℕ) (i : Option (List ℕ)) (f : Bool) (o : Option ℕ) (gs : List Given) (cs : List Command) → q ≡ None → i ≡ None → f ≡ false → o ≡ None → gs ≡ [] → cs ≡ []
    → all kind q i f o gs cs false ++ Capacity n ∷ [] ≡ all kind (Some n) i f o gs cs false
more_queue kind n q i f o gs cs a b c d e g = rw (a, b, c, d, e, g) refl

behind_machine : (l : Line) (a : List Line) → ((((((a ++ []) ++ []) ++ []) ++ []) ++ []) ++ []) ++ l ∷ [] ≡ (((((a ++ l ∷ []) ++ []) ++ []) ++ []) ++ []) ++ []
behind_machine l a = simp append-nil

behind_fds : (l : Line) (a : List Line) → (((((a ++ []) ++ []) ++ []) ++ []) ++ []) ++ l ∷ [] ≡ ((((a ++ l ∷ []) ++ []) ++ []) ++ []) ++ []
behind_fds l a = simp append-nil

behind_out : (l : Line) (a : List Line) → ((((a ++ []) ++ []) ++ []) ++ []) ++ l ∷ [] ≡ (((a ++ l ∷ []) ++ []) ++ []) ++ []
behind_out l a = simp append-nil

behind_given : (l : Line) (a b : List Line) → (((a ++ b) ++ []) ++ []) ++ l ∷ [] ≡ ((a ++ (b ++ l ∷ [])) ++ []) ++ []
behind_given l a b = simp (append_assoc, append-nil)

behind_commands : (l : Line) (a b : List Line) → ((a ++ b) ++ []) ++ l ∷ [] ≡ (a ++ (b ++ l ∷ [])) ++ []
behind_commands l a b = simp (append_assoc, append-nil)

more_machine : (kind : PeerKind) (id : List ℕ) (q : Option ℕ) (i : Option (List ℕ)) (f : Bool) (o : Option ℕ) (gs : List Given) (cs : List Command) → i ≡ None → f ≡ false → o ≡ None → gs ≡ [] → cs ≡ []
    → all kind q i f o gs cs false ++ Machine id ∷ [] ≡ all kind q (Some id) f o gs cs false
more_machine kind id q i f o gs cs b c d e g = rw (b, c, d, e, g) (ap (λ x. Peer kind ∷ x) (behind_machine (Machine id) (capacity_lines q)))

more_fds : (kind : PeerKind) (q : Option ℕ) (i : Option (List ℕ)) (f : Bool) (o : Option ℕ) (gs : List Given) (cs : List Command) → f ≡ false → o ≡ None → gs ≡ [] → cs ≡ []
    → all kind q i f o gs cs false ++ Fds ∷ [] ≡ all kind q i true o gs cs false
more_fds kind q i f o gs cs b c d e = rw (b, c, d, e) (ap (λ x. Peer kind ∷ x) (behind_fds Fds (capacity_lines q ++ machine_lines i)))

more_out : (kind : PeerKind) (n : ℕ) (q : Option ℕ) (i : Option (List ℕ)) (f : Bool) (o : Option ℕ) (gs : List Given) (cs : List Command) → o ≡ None → gs ≡ [] → cs ≡ []
    → all kind q i f o gs cs false ++ OutFault n ∷ [] ≡ all kind q i f (Some n) gs cs false
more_out kind n q i f o gs cs c d e = rw (c, d, e) (ap (λ x. Peer kind ∷ x) (behind_out (OutFault n) (capacity_lines q ++ machine_lines i ++ fds_lines f)))

more_given : (kind : PeerKind) (g : Given) (q : Option ℕ) (i : Option (List ℕ)) (f : Bool) (o : Option ℕ) (gs : List Given) (cs : List Command) → cs ≡ []
    → all kind q i f o gs cs false ++ given_line g ∷ [] ≡ all kind q i f o (gs ++ g ∷ []) cs false
more_given kind g q i f o gs cs e =
    rw (e, mapped given_line gs (g ∷ []))
    (ap (λ x. Peer kind ∷ x) (behind_given (given_line g) (capacity_lines q ++ machine_lines i ++ fds_lines f ++ outfault_lines o) (map given_line gs)))

more_commands : (kind : PeerKind) (c : Command) (q : Option ℕ) (i : Option (List ℕ)) (f : Bool) (o : Option ℕ) (gs : List Given) (cs : List Command)
    → all kind q i f o gs cs false ++ Do c ∷ [] ≡ all kind q i f o gs (cs ++ c ∷ []) false
more_commands kind c q i f o gs cs =
    rw (mapped Do cs (c ∷ []))
    (ap (λ x. Peer kind ∷ x) (behind_commands (Do c) (capacity_lines q ++ machine_lines i ++ fds_lines f ++ outfault_lines o ++ map given_line gs) (map Do cs)))

more_sent : (kind : PeerKind) (q : Option ℕ) (i : Option (List ℕ)) (f : Bool) (o : Option ℕ) (gs : List Given) (cs : List Command) → all kind q i f o gs cs false ++ Sent ∷ [] ≡ all kind q i f o gs cs true
more_sent kind q i f o gs cs =
    ap (λ x. Peer kind ∷ (x ++ Sent ∷ [])) (append-nil (capacity_lines q ++ machine_lines i ++ fds_lines f ++ outfault_lines o ++ map given_line gs ++ map Do cs))

-- a line between `direct` or `bus` and the end
so_more : (l : Line) (k : ℕ) (s : Script) (ls : List Line) → 1 ≤ k → k ≤ 6 → ls ≡ lines_at k s → ls ++ l ∷ [] ≡ script_lines s false ++ l ∷ []
so_more l k s ls a b e = ap (λ x. x ++ l ∷ []) (e ∙ between k s a b)

so_given : (g : Given) (k : ℕ) (s : Script) (ls : List Line) → 1 ≤ k → k ≤ 5 → So k s ls → So 5 (record s { given = s.given ++ g ∷ [] }) (ls ++ given_line g ∷ [])
so_given g k s ls a b h =
    record {
      later = (λ j. absurd (omega arith), λ j. absurd (omega arith), λ j. absurd (omega arith), λ j. absurd (omega arith), λ j. absurd (omega arith), λ j. h.later.5 (omega arith));
      text = so_more (given_line g) k s ls a (omega arith) h.text ∙ more_given s.kind g s.queue s.machine s.fds s.outfault s.given s.commands (h.later.5 b);
    }

so_line : (l : Line) (k : ℕ) (s : Script) (ls : List Line) → rank (first_stage l) ≤ k → k ≤ rank (last_stage l) → So k s ls → So (rank (next_stage l)) (with_line l s) (ls ++ l ∷ [])
so_line (Peer kind) k s ls a b h =
    record {
      later = (λ j. h.later.0 (omega arith), λ j. h.later.1 (omega arith), λ j. h.later.2 (omega arith), λ j. h.later.3 (omega arith), λ j. h.later.4 (omega arith), λ j. h.later.5 (omega arith));
      text = ap (λ x. x ++ Peer kind ∷ []) (h.text ∙ at_start k s b)
          ∙ peer_alone kind s.queue s.machine s.fds s.outfault s.given s.commands (h.later.0 (omega arith)) (h.later.1 (omega arith)) (h.later.2 (omega arith)) (h.later.3 (omega arith)) (h.later.4 (omega arith)) (h.later.5 (omega arith));
    }
so_line (Capacity n) k s ls a b h =
    record {
      later = (λ j. absurd (omega arith), λ j. h.later.1 (omega arith), λ j. h.later.2 (omega arith), λ j. h.later.3 (omega arith), λ j. h.later.4 (omega arith), λ j. h.later.5 (omega arith));
      text = so_more (Capacity n) k s ls a (omega arith) h.text
          ∙ more_queue s.kind n s.queue s.machine s.fds s.outfault s.given s.commands (h.later.0 b) (h.later.1 (omega arith)) (h.later.2 (omega arith)) (h.later.3 (omega arith)) (h.later.4 (omega arith)) (h.later.5 (omega arith));
    }
so_line (Machine id) k s ls a b h =
    record {
      later = (λ j. absurd (omega arith), λ j. absurd (omega arith), λ j. h.later.2 (omega arith), λ j. h.later.3 (omega arith), λ j. h.later.4 (omega arith), λ j. h.later.5 (omega arith));
      text = so_more (Machine id) k s ls a (omega arith) h.text
          ∙ more_machine s.kind id s.queue s.machine s.fds s.outfault s.given s.commands (h.later.1 b) (h.later.2 (omega arith)) (h.later.3 (omega arith)) (h.later.4 (omega arith)) (h.later.5 (omega arith));
    }
so_line Fds k s ls a b h =
    record {
      later = (λ j. absurd (omega arith), λ j. absurd (omega arith), λ j. absurd (omega arith), λ j. h.later.3 (omega arith), λ j. h.later.4 (omega arith), λ j. h.later.5 (omega arith));
      text = so_more Fds k s ls a (omega arith) h.text
          ∙ more_fds s.kind s.queue s.machine s.fds s.outfault s.given s.commands (h.later.2 b) (h.later.3 (omega arith)) (h.later.4 (omega arith)) (h.later.5 (omega arith));
    }
so_line (OutFault n) k s ls a b h =
    record {
      later = (λ j. absurd (omega arith), λ j. absurd (omega arith), λ j. absurd (omega arith), λ j. absurd (omega arith), λ j. absurd (omega arith), λ j. h.later.5 (omega arith));
      text = so_more (OutFault n) k s ls a (omega arith) h.text ∙ more_out s.kind n s.queue s.machine s.fds s.outfault s.given s.commands (h.later.3 b) (h.later.4 b) (h.later.5 (omega arith));
    }
so_line (In piece) k s ls a b h = so_given (Gave piece) k s ls a b h
so_line InFault k s ls a b h = so_given Broke k s ls a b h
so_line (Do c) k s ls a b h =
    record {
      later = (λ j. absurd (omega arith), λ j. absurd (omega arith), λ j. absurd (omega arith), λ j. absurd (omega arith), λ j. absurd (omega arith), λ j. absurd (omega arith));
      text = so_more (Do c) k s ls a b h.text ∙ more_commands s.kind c s.queue s.machine s.fds s.outfault s.given s.commands;
    }
so_line Sent k s ls a b h =
    record {
      later = (λ j. absurd (omega arith), λ j. absurd (omega arith), λ j. absurd (omega arith), λ j. absurd (omega arith), λ j. absurd (omega arith), λ j. absurd (omega arith));
      text = so_more Sent k s ls a b h.text ∙ more_sent s.kind s.queue s.machine s.fds s.outfault s.given s.commands;
    }

within : (a k b : ℕ) → (nat_le a k && nat_le k b) ≡ true → (a ≤ k) × (k ≤ b)
within a k b h = (grind (arith, nat_tests), grind (arith, nat_tests))

come_by : (b : Bool) (r q : Step) → (if b then Some r else None) ≡ Some q → (b ≡ true) × (r ≡ q)
come_by true r q h = (refl, cc)
come_by false r q h = absurd (cc)

so_step : (r q : Step) (l : Line) (ls : List Line) → take_line r.stage r.script (Some l) ≡ Some q → So (rank r.stage) r.script ls → So (rank q.stage) q.script (ls ++ l ∷ [])
unfolding take_line
so_step r q l ls e h =
    let by = come_by (may_come r.stage l) (record { stage = next_stage l; script = with_line l r.script }) q e in
    let here = within (rank (first_stage l)) (rank r.stage) (rank (last_stage l)) by.0 in
    subst (λ x. So (rank x.stage) x.script (ls ++ l ∷ [])) by.1 (so_line l (rank r.stage) r.script ls here.0 here.1 h)

so_taken : (t : Option Step) (r q : Step) (l : Line) (ls ms : List Line) → take_line r.stage r.script (Some l) ≡ t
    → ((p : Step) → steps p ms ≡ Some q → So (rank p.stage) p.script (ls ++ l ∷ []) → So (rank q.stage) q.script ((ls ++ l ∷ []) ++ ms))
    → and_then t (λ p. steps p ms) ≡ Some q → So (rank r.stage) r.script ls → So (rank q.stage) q.script (ls ++ l ∷ ms)
so_taken None r q l ls ms e more f h = absurd (cc)
so_taken (Some p) r q l ls ms e more f h = subst (So (rank q.stage) q.script) (append_assoc ls (l ∷ []) ms) (more p f (so_step r p l ls e h))

pub so_steps : (ms : List Line) (r q : Step) (ls : List Line) → steps r ms ≡ Some q → So (rank r.stage) r.script ls → So (rank q.stage) q.script (ls ++ ms)
so_steps [] r q ls e h = let is : r ≡ q = cc in subst (λ x. So (rank x.stage) x.script (ls ++ [])) is (subst (So (rank r.stage) r.script) (sym (append-nil ls)) h)
so_steps (l ∷ ms) r q ls e h =
    so_taken (take_line r.stage r.script (Some l)) r q l ls ms refl (λ p f k. so_steps ms p q (ls ++ l ∷ []) f k) e h

pub so_far : So 0 begun.script []
so_far = record { later = (λ j. refl, λ j. refl, λ j. refl, λ j. refl, λ j. refl, λ j. refl); text = refl }

abbrev pub is_over : Stage → Bool
is_over Over = true
is_over p = false

text_at : (stage : Stage) (s : Script) → may_end stage ≡ true → lines_at (rank stage) s ≡ script_lines s (is_over stage)
text_at Start s h = absurd (cc)
text_at p s h = refl

pub text_of_reading : (bytes : List ℕ) (s : Script) → script_of bytes ≡ Ok s → ScriptText bytes s
unfolding script_of
text_of_reading bytes s h =
    let t = taken (parts bytes) begun s 1 h in
    let so = so_steps t.said begun t.last [] t.ran so_far in
    record {
      lines = t.lines;
      sent = is_over t.last.stage;
      ended = t.ended;
      each = t.each ∙ ap (map Some) (so.text ∙ text_at t.last.stage t.last.script t.may ∙ ap (λ x. script_lines x (is_over t.last.stage)) (sym t.all));
    }
