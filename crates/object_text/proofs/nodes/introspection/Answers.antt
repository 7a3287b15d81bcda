use Rattle.std.proofs.Common.{◌≡◌, ℕ, List, ◌∷◌, ◌++◌, ◌∙◌, refl, sym, ap, append_assoc, string_bytes, codes, length}
use Rattle.std.specs.Prelude.{flat_map}
use Rattle.object_interface.specs.declared.description.DescribedInterface.{DescribedInterface}
use Rattle.object_text.specs.declared.described.DescribedObject.{DescribedObject}
use Rattle.object_text.specs.Text.{line, closing, interface_text}
use Rattle.object_text.specs.Nodes.{told, header, node_text, nodes_text, introspection}
use Rattle.object_text.proofs.nodes.introspection.Goals as goal

-- the parts that were put, one behind the other, are the whole
whole : (standing : List DescribedInterface) (o : DescribedObject) (below : List DescribedObject) (own : List DescribedInterface) (a b c d e : List ℕ)
    → own ≡ o.interfaces → a ≡ header → b ≡ a ++ codes "<node>\n" → c ≡ b ++ flat_map (interface_text 2) (told standing own)
    → d ≡ c ++ nodes_text standing (length below) 2 below → e ≡ d ++ line 0 (closing (codes "node")) → e ≡ introspection standing (o ∷ below)
unfolding introspection node_text line
whole standing o below own a b c d e is one two three four five =
    five ∙ ap (λ l. l ++ line 0 (closing (codes "node"))) (four ∙ ap (λ l. l ++ nodes_text standing (length below) 2 below) (three ∙ ap (λ l. b ++ flat_map (interface_text 2) (told standing l)) is
    ∙ ap (λ l. l ++ flat_map (interface_text 2) (told standing o.interfaces)) (two ∙ ap (λ l. l ++ codes "<node>\n") one)))
    ∙ by_parts header (codes "<node>\n") (flat_map (interface_text 2) (told standing o.interfaces)) (nodes_text standing (length below) 2 below) (line 0 (closing (codes "node")))
  where
    by_parts : (a b c d e : List ℕ) → (((a ++ b) ++ c) ++ d) ++ e ≡ a ++ (((b ++ c) ++ d) ++ e)
    by_parts a b c d e = simp append_assoc refl

pub returns : goal.returns
returns c =
    whole c.args.standing.now c.in-Some.asked.now c.in-Some.below.now c.as_slice.result.now
    (string_bytes c.in_ok-text.text) (string_bytes c.push_str.new.self) (string_bytes c.put_interfaces.new.out) (string_bytes c.put_nodes.new.out) (string_bytes c.put_closing.new.out)
    c.as_slice.ensures c.in_ok-text.ensures.ok c.in_ok-push_str.ensures.bytes c.in_ok-put_interfaces.ensures c.in_ok-put_nodes.ensures c.in_ok-put_closing.ensures
    ∙ ap (introspection c.args.standing.now) (sym c.in-Some.ensures.cases.0)
