-- What each status says, by how the program ended.
use Rattle.std.specs.Prelude.{map, drop, string_bytes}
use Rattle.object_interface.specs.Meaning.{Meaning}
use Rattle.peer_turns.specs.Objects.{handed}
use Rattle.peer_run.specs.Asked.{asked}
use Rattle.peer_run.proofs.Ended.{told_of, whole_of, generated_of, reported_of, refused_words_of, no_row_of, no_rule_of, refused_of, input_fault_of, script_of_run, limit_of_run, generates_of, reports_of}
use Rattle.peer_run.proofs.main_call.peer_main.Goals as goal

pub returns-clause-told : goal.returns-clause-told
returns-clause-told g c = told_of _ _ _ _ _ _ _ (asked (map (λ word. string_bytes word) c.args.words.now)) c.print.ensures.ends

pub returns-clause-whole : goal.returns-clause-whole
returns-clause-whole g c = whole_of _ _ _ _ _ _ _ (asked (map (λ word. string_bytes word) c.args.words.now)) c.print.ensures.ends

pub returns-clause-generated : goal.returns-clause-generated
returns-clause-generated g c = generated_of _ _ _ _ _ _ _ (asked (map (λ word. string_bytes word) c.args.words.now)) c.print.ensures.ends

pub returns-clause-reported : goal.returns-clause-reported
returns-clause-reported g c = reported_of _ _ _ _ _ _ _ (asked (map (λ word. string_bytes word) c.args.words.now)) c.print.ensures.ends

pub returns-clause-refused_words : goal.returns-clause-refused_words
returns-clause-refused_words g c = refused_words_of _ _ _ _ _ _ _ (asked (map (λ word. string_bytes word) c.args.words.now)) c.print.ensures.ends

pub returns-clause-no_row : goal.returns-clause-no_row
returns-clause-no_row g c = no_row_of _ _ _ _ _ _ _ (asked (map (λ word. string_bytes word) c.args.words.now)) c.print.ensures.ends

pub returns-clause-no_rule : goal.returns-clause-no_rule
returns-clause-no_rule g c = no_rule_of _ _ _ _ _ _ _ (asked (map (λ word. string_bytes word) c.args.words.now)) c.print.ensures.ends

pub returns-clause-refused : goal.returns-clause-refused
returns-clause-refused g c = refused_of _ _ _ _ _ _ _ (asked (map (λ word. string_bytes word) c.args.words.now)) c.print.ensures.ends

pub returns-clause-input_fault : goal.returns-clause-input_fault
returns-clause-input_fault g c = input_fault_of _ _ _ _ _ _ _ (asked (map (λ word. string_bytes word) c.args.words.now)) c.print.ensures.ends

pub returns-clause-script : goal.returns-clause-script
returns-clause-script g c = script_of_run _ _ _ _ _ _ _ (asked (map (λ word. string_bytes word) c.args.words.now)) c.print.ensures.ends

pub returns-clause-limit : goal.returns-clause-limit
returns-clause-limit g c = limit_of_run _ _ _ _ _ _ _ (asked (map (λ word. string_bytes word) c.args.words.now)) c.print.ensures.ends

pub returns-clause-generates : goal.returns-clause-generates
returns-clause-generates g c = generates_of _ _ _ _ _ _ _ (asked (map (λ word. string_bytes word) c.args.words.now)) c.print.ensures.ends

pub returns-clause-reports : goal.returns-clause-reports
returns-clause-reports g c = reports_of _ _ _ _ _ _ _ (asked (map (λ word. string_bytes word) c.args.words.now)) c.print.ensures.ends
