use Rattle.std.proofs.{Common.{◌≡◌, List, [], ◌∷◌, ◌++◌, ◌∙◌, ap, codes, append_assoc}, lemmas.Result.on_ok_weaker}
use Rattle.peer_words.specs.declared.words.Command.{Command}
use Rattle.peer_words.specs.declared.words.Words.TheVariants as words
use Rattle.peer_gen.specs.Generated.{command, open_rule}
use Rattle.peer_gen.proofs.commands.push_opening.Goals as goal

three_more : (old first second new : List Command) (x y z : Command) → first ≡ old ++ x ∷ [] → second ≡ first ++ y ∷ [] → new ≡ second ++ z ∷ [] → new ≡ old ++ x ∷ y ∷ z ∷ []
three_more old first second new x y z e f g = g ∙ ap (λ cs. cs ++ z ∷ []) f ∙ ap (λ cs. (cs ++ y ∷ []) ++ z ∷ []) e ∙ simp append_assoc

pub returns : goal.returns
returns c =
    on_ok_weaker c.push_open-2.result
    (three_more c.args.commands.now.items c.push.new.commands.items c.push_open.new.commands.items c.push_open-2.new.commands.items (command words.Stream)
    (command (open_rule (codes "type='signal'"))) (command (open_rule (codes "type='method_return'"))) c.in_ok-push.ensures c.in_ok-push_open.ensures)
    c.push_open-2.ensures
