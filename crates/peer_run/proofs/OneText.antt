-- What is printed of a script's text is one text.
use Rattle.std.proofs.{Common.{◌≡◌, ℕ, ◌+◌, refl, sym, ◌∙◌, ap, subst, arith, Bool, true, false, List, [], ◌∷◌, ◌++◌, length, take, map, reverse, Option, Some, None, Result, Ok, Err, length-append}, lemmas.List.{length-take-le, map-append, reverse-reverse, reverse-append}}
use Rattle.peer_run.specs.{Names.{MessageView, Entry, Script, script_of, transcript_text, command_of}, Histories.{setting_of, source_bytes, source_breaks, IsTranscript, IsWhole, Tells}}
use Rattle.peer_route.specs.{Entries.replay, Environment.{IsSentBytes, IsCutAt, WritesAgree, message_bytes}, Replay.Setting}
use Rattle.peer_script.proofs.Readings.{reading_of_text}
use Rattle.peer_route.proofs.Kept.{at_start}
use Rattle.peer_turns.specs.Objects.{Handed, on_machine, AreFunctions}
use Rattle.peer_turns.proofs.Transcripts.{same_history}

map_reverse : (es : List Entry) → map command_of (reverse es) ≡ reverse (map command_of es)
map_reverse [] = refl
map_reverse (e ∷ es) =
    ap (map command_of) (reverse-append (e ∷ []) es) ∙ map-append command_of (reverse es) (e ∷ []) ∙ ap (λ cs. cs ++ command_of e ∷ []) (map_reverse es)
    ∙ sym (reverse-append (command_of e ∷ []) (map command_of es))

-- the bytes sent are decided by how many messages were written, and by the room
same_bytes : (room : Option ℕ) (failed : Bool) (count : ℕ) (ms : List MessageView) (a b : List ℕ) → (room ≡ None → failed ≡ false)
    → IsSentBytes failed count ms a → IsSentBytes failed count ms b → IsCutAt (Some room) failed a → IsCutAt (Some room) failed b → a ≡ b
same_bytes room false count ms a b never x y p q = x.1 ∙ sym y.1
same_bytes None true count ms a b never x y p q = let wrong : true ≡ false = never refl in cc
same_bytes (Some k) true count ms a b never (m, n, at, less, is) (m', n', at', less', is') p q =
    let one : Some m ≡ Some m' = sym at ∙ at' in
    let same : m ≡ m' = cc in
    let front = message_bytes (take count ms) in
    let long : length a ≡ length front + n = ap length is ∙ length-append front (take n m.bytes) ∙ ap (λ i. length front + i) (length-take-le n m.bytes (omega (arith, less))) in
    let long' : length b ≡ length front + n' = ap length is' ∙ length-append front (take n' m'.bytes) ∙ ap (λ i. length front + i) (length-take-le n' m'.bytes (omega (arith, less'))) in
    let cut : n ≡ n' = omega (arith, long, long', p, q) in
    is ∙ ap (λ i. front ++ take i m.bytes) cut ∙ ap (λ (x : MessageView). front ++ take n' x.bytes) same ∙ sym is'

same_entries : (boxes : Handed) → AreFunctions boxes.meanings → (s : Script) (text other : List ℕ) (p : Tells boxes s text) (q : Tells boxes s other) → p.entries ≡ q.entries
same_entries boxes functions s text other p q =
    let commands : map command_of (reverse p.entries) ≡ map command_of (reverse q.entries) = map_reverse p.entries ∙ ap reverse (p.history.each ∙ sym q.history.each) ∙ sym (map_reverse q.entries) in
    let back = same_history (setting_of s) (on_machine s.machine boxes) p.history.objects.0 q.history.objects.0 (reverse p.entries) (reverse q.entries) (source_breaks s.given) (source_bytes s.given) s.outfault functions commands p.history.legal q.history.legal p.history.once q.history.once p.history.objects.1 q.history.objects.1
    p.history.whole.reads q.history.whole.reads p.history.whole.room q.history.whole.room p.history.whole.shuts q.history.whole.shuts in
    sym (reverse-reverse p.entries) ∙ ap reverse back.0 ∙ reverse-reverse q.entries

unfailed : (setting : Setting) (room : Option ℕ) (h : List Entry) → WritesAgree setting (Some room) h → room ≡ None → (replay setting h).past.outbox.failed ≡ false
unfailed setting None [] told none = at_start (λ h. h.outbox.failed ≡ false) refl (λ limit h so. so) (λ h so. so) (λ name h so. so) setting
unfailed setting None (e ∷ h) told none = told.0
unfailed setting (Some k) h told none = cc

same_sent : (s : Script) (es fs : List Entry) (a b : List ℕ) → es ≡ fs → IsWhole s (reverse es) a → IsWhole s (reverse fs) b → a ≡ b
same_sent s es fs a b same p q =
    let o = (replay (setting_of s) (reverse es)).past.outbox in
    let r : IsWhole s (reverse es) b = subst (λ es. IsWhole s (reverse es) b) (sym same) q in
    same_bytes s.outfault o.failed o.written o.put a b (unfailed (setting_of s) s.outfault (reverse es) p.room) p.bytes r.bytes p.cut r.cut

same_text : (boxes : Handed) → AreFunctions boxes.meanings → (s : Script) (text other : List ℕ) → Tells boxes s text → Tells boxes s other → text ≡ other
same_text boxes functions s text other p q =
    let entries = same_entries boxes functions s text other p q in
    let sent = same_sent s p.entries q.entries p.sent q.sent entries p.history.whole q.history.whole in
    p.is ∙ ap (λ xs. transcript_text s xs p.sent) entries ∙ ap (λ bs. transcript_text s q.entries bs) sent ∙ sym q.is

one_script : {E : Type 0} (r : Result Script E) (s t : Script) → r ≡ Ok s → r ≡ Ok t → s ≡ t
one_script (Ok x) s t a b = cc
one_script (Err e) s t a b = cc

-- two transcripts of one input are the same
pub one_text : (boxes : Handed) → AreFunctions boxes.meanings → (input text other : List ℕ) → IsTranscript boxes input text → IsTranscript boxes input other → text ≡ other
one_text boxes functions input text other p q =
    let same : q.script ≡ p.script = one_script (script_of input) q.script p.script (reading_of_text input q.script q.read) (reading_of_text input p.script p.read) in
    same_text boxes functions p.script text other p.told (subst (λ s. Tells boxes s other) same q.told)
