-- A script that was read has only commands of `run`.
use Rattle.std.proofs.Common.{ℕ, ◌≡◌, Bool, true, false, ◌||◌, nat_le, if◌then◌else◌, List, [], ◌∷◌, ◌++◌, map, codes, Option, Some, None, IfSome, is_some, option_map, Result, Ok, Err, IfOk, subst}
use Rattle.std.specs.List.{AllByRecursion}
use Rattle.peer_words.specs.{declared.words.OutgoingKind.OutgoingKind, declared.words.CallOp.CallOp, declared.words.StreamOp.StreamOp, declared.words.CallFlags.CallFlags, declared.words.Words.Words, declared.words.Command.Command, OfRun.IsOfRun, Hex.bytes_of}
use Rattle.peer_words.specs.declared.words.ObjectOp.TheVariants as objects
use Rattle.peer_words.specs.declared.words.Words.TheVariants as words
use Rattle.peer_script.specs.declared.kind.PeerKind.TheVariants as kinds
use Rattle.peer_script.specs.{declared.line.Line.Line, declared.line.Line.TheVariants.{Peer, Capacity, Machine, Fds, OutFault, In, InFault, Do, Sent}, Word.{same, number_of, text_of, words_of}, Script.{Script, machine_of, is_absent, optional_of, optional_number, flags_of, interface_of, kind_of, outgoing_of, sending, open_of, object_op, plain, call_op, stream_op, asking, asking_words, or_else, named_words, command_words, in_lane, with_lane, lane_words, before_answer, command_line, unique_of, head_line, line_of, capacity_lines, machine_lines, fds_lines, outfault_lines, given_line, sent_lines, script_lines}, Reading.{script_of, TellsText}, declared.error.ScriptError.ScriptError}
use Rattle.peer_script.proofs.Grammar.{text_of_reading}

-- what is there, if anything is, has the property
record Has {A : Type 0} (P : A → Type 0) (o : Option A) : Type 0 where
  there : IfSome o P

nothing : {A : Type 0} {P : A → Type 0} → Has P None
nothing = record { there = tt }

this : {A : Type 0} {P : A → Type 0} (x : A) → P x → Has P (Some x)
this x h = record { there = h }

either : {A : Type 0} {P : A → Type 0} (b : Bool) {x y : Option A} → Has P x → Has P y → Has P (if b then x else y)
either true h k = h
either false h k = k

one_of : {A : Type 0} {P : A → Type 0} (x y : Option A) → Has P x → Has P y → Has P (or_else x y)
one_of (Some w) y h k = h
one_of None y h k = k

-- what a word makes
made : {A B : Type 0} {P : B → Type 0} (f : A → B) → ((x : A) → P (f x)) → (o : Option A) → Has P (option_map f o)
made f h None = nothing
made f h (Some x) = this (f x) (h x)

-- ---- the words of a command

of_outgoing : (kind : OutgoingKind) (d : Option (Option (List ℕ))) (p : Option (List ℕ)) (i : Option (Option (List ℕ))) (m : Option (List ℕ)) (f : Option CallFlags) (b : Option (Option (List ℕ)))
    → Has IsOfRun (outgoing_of kind d p i m f b)
of_outgoing kind (Some d) (Some p) (Some i) (Some m) (Some f) (Some b) = this _ tt
of_outgoing kind d p i m f b = nothing

of_sending : (kind : OutgoingKind) (ws : List (List ℕ)) → Has IsOfRun (sending kind ws)
of_sending kind (d ∷ p ∷ i ∷ m ∷ f ∷ b ∷ []) = of_outgoing kind (optional_of d) (text_of p) (interface_of kind i) (text_of m) (flags_of f) (optional_of b)
of_sending kind ws = nothing

of_open : (n : Option (Option ℕ)) (rule : Option (List ℕ)) → Has IsOfRun (open_of n rule)
of_open (Some n) (Some rule) = this _ tt
of_open n rule = nothing

of_plain : (name : List ℕ) (ws : List (List ℕ)) → Has IsOfRun (plain name ws)
of_plain name [] =
    either (same name (codes "read")) (this words.Read tt)
    (either (same name (codes "stream")) (this words.Stream tt)
    (either (same name (codes "serve")) (this (words.Objects objects.Serve) tt) (either (same name (codes "close")) (this words.Close tt) nothing)))
of_plain name (n ∷ []) = either (same name (codes "mainqueue")) (made words.MainQueue (λ x. tt) (number_of n)) nothing
of_plain name (a ∷ b ∷ []) = either (same name (codes "open")) (of_open (optional_number a) (text_of b)) (made words.Objects (λ x. tt) (object_op name a b))
of_plain name ws = nothing

of_asking : (n : Option ℕ) (call : Option CallOp) (stream : Option StreamOp) → Has IsOfRun (asking n call stream)
of_asking (Some n) (Some op) other = this _ tt
of_asking (Some n) None (Some op) = this _ tt
of_asking n call stream = nothing

of_asked : (name : List ℕ) (ws : List (List ℕ)) → Has IsOfRun (asking_words name ws)
of_asked name [] = nothing
of_asked name (n ∷ ws) = of_asking (number_of n) (call_op name ws) (stream_op name ws)

of_named : (kind : Option OutgoingKind) (name : List ℕ) (ws : List (List ℕ)) → Has IsOfRun (named_words kind name ws)
of_named (Some kind) name ws = of_sending kind ws
of_named None name ws = one_of (plain name ws) (asking_words name ws) (of_plain name ws) (of_asked name ws)

of_words : (ws : List (List ℕ)) → Has IsOfRun (command_words ws)
unfolding command_words
of_words [] = nothing
of_words (name ∷ ws) = of_named (kind_of name) name ws

-- ---- lines

abbrev IsFine : Line → Type 0
IsFine (Do c) = IsOfRun c.words
IsFine l = Unit {0}

in_a_lane : (lane : ℕ) (w : Option Words) → Has IsOfRun w → Has IsFine (option_map Do (in_lane lane w))
in_a_lane lane None h = nothing
in_a_lane lane (Some w) h = this _ h.there

small_lane : (b : Bool) (lane : ℕ) (ws : List (List ℕ)) → Has IsFine (option_map Do (if b then in_lane lane (command_words ws) else None))
small_lane true lane ws = in_a_lane lane (command_words ws) (of_words ws)
small_lane false lane ws = nothing

of_lane : (n : Option ℕ) (word : List ℕ) (ws : List (List ℕ)) → Has IsFine (option_map Do (with_lane n word ws))
of_lane None word ws = in_a_lane 0 (command_words (word ∷ ws)) (of_words (word ∷ ws))
of_lane (Some lane) word ws = small_lane (nat_le lane 63) lane ws

of_command : (ws : List (List ℕ)) → Has IsFine (option_map Do (lane_words ws))
of_command [] = nothing
of_command (word ∷ ws) = of_lane (number_of word) word ws

of_head : (ws : List (List ℕ)) → Has IsFine (head_line ws)
unfolding head_line
of_head (name ∷ []) =
    either (same name (codes "direct")) (this (Peer (kinds.Direct None)) tt) (either (same name (codes "fds")) (this Fds tt) (either (same name (codes "infault")) (this InFault tt) nothing))
of_head (name ∷ word ∷ []) =
    either (same name (codes "direct")) (made (λ n. Peer (kinds.Direct (Some n))) (λ n. tt) (unique_of (text_of word)))
    (either (same name (codes "bus")) (made (λ n. Peer (kinds.Bus n)) (λ n. tt) (unique_of (text_of word)))
    (either (same name (codes "in")) (made In (λ x. tt) (bytes_of word))
    (either (same name (codes "queue")) (made Capacity (λ x. tt) (number_of word))
    (either (same name (codes "machine")) (made Machine (λ x. tt) (machine_of word))
    (either (same name (codes "outfault")) (made OutFault (λ x. tt) (number_of word))
    (either (same name (codes "sent")) (either (is_absent word || is_some (bytes_of word)) (this Sent tt) nothing) nothing))))))
of_head others = nothing

of_line : (line : List ℕ) → Has IsFine (line_of line)
unfolding line_of
of_line line = one_of (head_line (words_of line)) (option_map Do (command_line line)) (of_head (words_of line)) (of_command (words_of (before_answer line)))

of_lines : (lines : List (List ℕ)) (ls : List Line) → map line_of lines ≡ map Some ls → AllByRecursion IsFine ls
of_lines [] [] e = tt
of_lines [] (l ∷ ls) e = absurd (cc)
of_lines (x ∷ xs) [] e = absurd (cc)
of_lines (x ∷ xs) (l ∷ ls) e = let is : line_of x ≡ Some l = cc in ((subst (Has IsFine) is (of_line x)).there, of_lines xs ls cc)

-- ---- the commands

behind : (xs ys : List Line) → AllByRecursion IsFine (xs ++ ys) → AllByRecursion IsFine ys
behind [] ys h = h
behind (x ∷ xs) ys h = behind xs ys h.1

before : (xs ys : List Line) → AllByRecursion IsFine (xs ++ ys) → AllByRecursion IsFine xs
before [] ys h = tt
before (x ∷ xs) ys h = (h.0, before xs ys h.1)

of_commands : (cs : List Command) → AllByRecursion IsFine (map Do cs) → AllByRecursion (λ (c : Command). IsOfRun c.words) cs
of_commands [] h = tt
of_commands (c ∷ cs) h = (h.0, of_commands cs h.1)

of_run : (bytes : List ℕ) (s : Script) → script_of bytes ≡ Ok s → AllByRecursion (λ (c : Command). IsOfRun c.words) s.commands
of_run bytes s e =
    let t = text_of_reading bytes s e in
    let all = of_lines t.lines (script_lines s t.sent) t.each in
    let head = capacity_lines s.queue ++ machine_lines s.machine ++ fds_lines s.fds ++ outfault_lines s.outfault ++ map given_line s.given in
    of_commands s.commands (behind head (map Do s.commands) (before (head ++ map Do s.commands) (sent_lines t.sent) all.1))

pub told_runs : {A : Type 0} (script : A → Script) (bytes : List ℕ) (r : Result A ScriptError) → TellsText script bytes r → IfOk r (λ x. AllByRecursion (λ (c : Command). IsOfRun c.words) (script x).commands)
told_runs script bytes (Ok x) e = of_run bytes (script x) e
told_runs script bytes (Err e) told = tt
