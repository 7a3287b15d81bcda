-- Each script's text is read.
use Rattle.std.proofs.{Common.{ℕ, ◌≡◌, ◌+◌, ◌≤◌, Bool, true, false, ◌&&◌, nat_le, List, [], ◌∷◌, ◌++◌, length, map, Option, Some, None, Ok, refl, sym, ap, ◌∙◌, subst, arith, append_assoc, append-nil, length-append}, lemmas.Bool.Decides.nat_tests}
use Rattle.peer_words.specs.declared.words.Command.{Command}
use Rattle.peer_script.specs.{declared.kind.PeerKind.PeerKind, declared.line.Line.Line, declared.line.Line.TheVariants.{Peer, Capacity, Machine, Fds, OutFault, In, InFault, Do, Sent}, declared.reading.Stage.Stage, declared.reading.Stage.TheVariants.{Start, Head}, Script.{Given, Gave, Broke, Script, ScriptText, line_of, capacity_lines, machine_lines, fds_lines, outfault_lines, given_line, sent_lines, script_lines}, Reading.{Step, begun, rank, first_stage, last_stage, next_stage, with_line, take_line, then_read, read_lines, script_of}}
use Rattle.peer_script.proofs.{Read.lines_step, Grammar.{and_then, steps}}

both_tests : (a k b : ℕ) → a ≤ k → k ≤ b → (nat_le a k && nat_le k b) ≡ true
both_tests a k b h i = grind (arith, nat_tests)

comes : (stage : Stage) (s : Script) (l : Line) → rank (first_stage l) ≤ rank stage → rank stage ≤ rank (last_stage l)
    → take_line stage s (Some l) ≡ Some (record { stage = next_stage l; script = with_line l s })
unfolding take_line
comes stage s l a b = rw (both_tests (rank (first_stage l)) (rank stage) (rank (last_stage l)) a b) refl

-- From each stage up to the one of a rank these lines lead on, up to that of another, and make of a script another.
abbrev Leads : ℕ → ℕ → List Line → Script → Script → Type 0
Leads from to ls s t = (p : Stage) → 1 ≤ rank p → rank p ≤ from → (q : Stage) × (steps (record { stage = p; script = s }) ls ≡ Some (record { stage = q; script = t })) × (1 ≤ rank q) × (rank q ≤ to)

joined_by : (t : Option Step) (ls ms : List Line) (q : Step) → ((p : Step) → steps p ls ≡ Some q → steps p (ls ++ ms) ≡ steps q ms)
    → and_then t (λ p. steps p ls) ≡ Some q → and_then t (λ p. steps p (ls ++ ms)) ≡ steps q ms
joined_by None ls ms q more e = absurd (cc)
joined_by (Some p) ls ms q more e = more p e

pub joined_steps : (ls ms : List Line) (r q : Step) → steps r ls ≡ Some q → steps r (ls ++ ms) ≡ steps q ms
joined_steps [] ms r q e = ap (λ x. and_then x (λ p. steps p ms)) e
joined_steps (l ∷ ls) ms r q e = joined_by (take_line r.stage r.script (Some l)) ls ms q (λ p f. joined_steps ls ms p q f) e

stays : (from to : ℕ) (s : Script) → from ≤ to → Leads from to [] s s
stays from to s h p a b = (p, refl, a, omega arith)

leads_one : (l : Line) (from to : ℕ) (s : Script) → rank (first_stage l) ≤ 1 → from ≤ rank (last_stage l) → rank (next_stage l) ≤ to → 1 ≤ rank (next_stage l)
    → Leads from to (l ∷ []) s (with_line l s)
leads_one l from to s a b c d p i j = (next_stage l, ap (λ x. and_then x (λ q. steps q [])) (comes p s l (omega arith) (omega arith)), d, c)

on : (a b c : ℕ) (ls ms : List Line) (s t u : Script) → Leads a b ls s t → Leads b c ms t u → Leads a c (ls ++ ms) s u
on a b c ls ms s t u h k p i j =
    let x = h p i j in
    let y = k x.0 x.2 x.3 in
    (y.0, joined_steps ls ms (record { stage = p; script = s }) (record { stage = x.0; script = t }) x.1 ∙ y.1, y.2, y.3)

leads_piece : (g : Given) (s : Script) → Leads 5 5 (given_line g ∷ []) s (record s { given = s.given ++ g ∷ [] })
leads_piece (Gave piece) s = leads_one (In piece) 5 5 s (omega arith) (omega arith) (omega arith) (omega arith)
leads_piece Broke s = leads_one InFault 5 5 s (omega arith) (omega arith) (omega arith) (omega arith)

leads_given : (gs : List Given) (s : Script) → Leads 5 5 (map given_line gs) s (record s { given = s.given ++ gs })
leads_given [] s = subst (Leads 5 5 [] s) (ap (λ l. record s { given = l }) (sym (append-nil s.given))) (stays 5 5 s (omega arith))
leads_given (g ∷ gs) s =
    subst (Leads 5 5 (map given_line (g ∷ gs)) s) (ap (λ l. record s { given = l }) (append_assoc s.given (g ∷ []) gs))
    (on 5 5 5 (given_line g ∷ []) (map given_line gs) s (record s { given = s.given ++ g ∷ [] }) _ (leads_piece g s) (leads_given gs (record s { given = s.given ++ g ∷ [] })))

leads_commands : (cs : List Command) (s : Script) → Leads 6 6 (map Do cs) s (record s { commands = s.commands ++ cs })
leads_commands [] s = subst (Leads 6 6 [] s) (ap (λ l. record s { commands = l }) (sym (append-nil s.commands))) (stays 6 6 s (omega arith))
leads_commands (c ∷ cs) s =
    subst (Leads 6 6 (map Do (c ∷ cs)) s) (ap (λ l. record s { commands = l }) (append_assoc s.commands (c ∷ []) cs))
    (on 6 6 6 (Do c ∷ []) (map Do cs) s (record s { commands = s.commands ++ c ∷ [] }) _ (leads_one (Do c) 6 6 s (omega arith) (omega arith) (omega arith) (omega arith)) (leads_commands cs (record s { commands = s.commands ++ c ∷ [] })))

abbrev front : PeerKind → Option ℕ → Option (List ℕ) → Bool → Option ℕ → Script
front kind queue machine fds out = record { kind = kind; queue = queue; machine = machine; fds = fds; outfault = out; given = []; commands = [] }

leads_queue : (kind : PeerKind) (queue : Option ℕ) → Leads 1 2 (capacity_lines queue) (front kind None None false None) (front kind queue None false None)
leads_queue kind None = stays 1 2 _ (omega arith)
leads_queue kind (Some n) = leads_one (Capacity n) 1 2 _ (omega arith) (omega arith) (omega arith) (omega arith)

leads_machine : (kind : PeerKind) (queue : Option ℕ) (machine : Option (List ℕ)) → Leads 2 3 (machine_lines machine) (front kind queue None false None) (front kind queue machine false None)
leads_machine kind queue None = stays 2 3 _ (omega arith)
leads_machine kind queue (Some id) = leads_one (Machine id) 2 3 _ (omega arith) (omega arith) (omega arith) (omega arith)

leads_fds : (kind : PeerKind) (queue : Option ℕ) (machine : Option (List ℕ)) (fds : Bool) → Leads 3 4 (fds_lines fds) (front kind queue machine false None) (front kind queue machine fds None)
leads_fds kind queue machine false = stays 3 4 _ (omega arith)
leads_fds kind queue machine true = leads_one Fds 3 4 _ (omega arith) (omega arith) (omega arith) (omega arith)

leads_out : (kind : PeerKind) (queue : Option ℕ) (machine : Option (List ℕ)) (fds : Bool) (out : Option ℕ) → Leads 4 5 (outfault_lines out) (front kind queue machine fds None) (front kind queue machine fds out)
leads_out kind queue machine fds None = stays 4 5 _ (omega arith)
leads_out kind queue machine fds (Some n) = leads_one (OutFault n) 4 5 _ (omega arith) (omega arith) (omega arith) (omega arith)

leads_sent : (sent : Bool) (s : Script) → Leads 6 7 (sent_lines sent) s s
leads_sent true s = leads_one Sent 6 7 s (omega arith) (omega arith) (omega arith) (omega arith)
leads_sent false s = stays 6 7 s (omega arith)

-- the header lines behind `direct` or `bus`
leads_head : (s : Script) → Leads 1 5 (capacity_lines s.queue ++ machine_lines s.machine ++ fds_lines s.fds ++ outfault_lines s.outfault) (front s.kind None None false None) (front s.kind s.queue s.machine s.fds s.outfault)
leads_head s =
    let none = front s.kind None None false None in
    let with_id = front s.kind s.queue s.machine false None in
    on 1 4 5 _ (outfault_lines s.outfault) none (front s.kind s.queue s.machine s.fds None) (front s.kind s.queue s.machine s.fds s.outfault)
    (on 1 3 4 _ (fds_lines s.fds) none with_id (front s.kind s.queue s.machine s.fds None)
    (on 1 2 3 (capacity_lines s.queue) (machine_lines s.machine) none (front s.kind s.queue None false None) with_id (leads_queue s.kind s.queue) (leads_machine s.kind s.queue s.machine))
    (leads_fds s.kind s.queue s.machine s.fds)) (leads_out s.kind s.queue s.machine s.fds s.outfault)

-- the lines behind `direct` or `bus`
leads_all : (s : Script) (sent : Bool)
    → Leads 1 7 (capacity_lines s.queue ++ machine_lines s.machine ++ fds_lines s.fds ++ outfault_lines s.outfault ++ map given_line s.given ++ map Do s.commands ++ sent_lines sent) (front s.kind None None false None) s
leads_all s sent =
    let none = front s.kind None None false None in
    let head = front s.kind s.queue s.machine s.fds s.outfault in
    let given = record head { given = s.given } in
    on 1 6 7 _ (sent_lines sent) none s s
    (on 1 5 6 _ (map Do s.commands) none given s
    (on 1 5 5 _ (map given_line s.given) none head given (leads_head s) (leads_given s.given head)) (λ p i j. leads_commands s.commands given p i (omega arith)))
    (leads_sent sent s)

-- the lines of a script
pub leads_script : (s : Script) (sent : Bool) → (q : Stage) × (steps begun (script_lines s sent) ≡ Some (record { stage = q; script = s })) × (1 ≤ rank q)
leads_script s sent =
    let x = leads_all s sent Head (omega arith) (omega arith) in
    let rest = capacity_lines s.queue ++ machine_lines s.machine ++ fds_lines s.fds ++ outfault_lines s.outfault ++ map given_line s.given ++ map Do s.commands ++ sent_lines sent in
    let first = comes Start begun.script (Peer s.kind) (omega arith) (omega arith) in
    (x.0, ap (λ o. and_then o (λ q. steps q rest)) first ∙ x.1, x.2)

-- ---- lines of a text

ends_at : (stage : Stage) (s : Script) (n : ℕ) → 1 ≤ rank stage → read_lines (record { stage = stage; script = s }) n ([] ∷ []) ≡ Ok s
ends_at Start s n h = absurd (omega arith)
ends_at p s n h = refl

one_more : (lines : List (List ℕ)) → 1 ≤ length (lines ++ [] ∷ [])
one_more lines = omega (arith, length-append lines ([] ∷ []))

reads_by : (t : Option Step) (q : Step) (n : ℕ) (ls : List Line) (lines : List (List ℕ)) → ((p : Step) → steps p ls ≡ Some q → read_lines p (n + 1) (lines ++ [] ∷ []) ≡ Ok q.script)
    → and_then t (λ p. steps p ls) ≡ Some q → then_read t n (λ p. read_lines p (n + 1) (lines ++ [] ∷ [])) ≡ Ok q.script
reads_by None q n ls lines more e = absurd (cc)
reads_by (Some p) q n ls lines more e = more p e

-- lines that lead to a stage at which a text may end are read
reads : (lines : List (List ℕ)) (ls : List Line) (r q : Step) (n : ℕ) → map line_of lines ≡ map Some ls → steps r ls ≡ Some q → 1 ≤ rank q.stage
    → read_lines r n (lines ++ [] ∷ []) ≡ Ok q.script
reads [] [] r q n e f h = let is : r ≡ q = cc in subst (λ x. read_lines x n ([] ∷ []) ≡ Ok q.script) (sym is) (ends_at q.stage q.script n h)
reads [] (l ∷ ls) r q n e f h = absurd (cc)
reads (x ∷ lines) [] r q n e f h = absurd (cc)
reads (x ∷ lines) (l ∷ ls) r q n e f h =
    let is : line_of x ≡ Some l = cc in
    lines_step r n x (lines ++ [] ∷ []) (one_more lines) ∙ ap (λ o. then_read (take_line r.stage r.script o) n (λ p. read_lines p (n + 1) (lines ++ [] ∷ []))) is
    ∙ reads_by (take_line r.stage r.script (Some l)) q n ls lines (λ p g. reads lines ls p q (n + 1) (cc) g h) f

pub reading_of_text : (bytes : List ℕ) (s : Script) → ScriptText bytes s → script_of bytes ≡ Ok s
unfolding script_of
reading_of_text bytes s t =
    let x = leads_script s t.sent in
    ap (read_lines begun 1) t.ended ∙ reads t.lines (script_lines s t.sent) begun (record { stage = x.0; script = s }) 1 t.each x.1 x.2
