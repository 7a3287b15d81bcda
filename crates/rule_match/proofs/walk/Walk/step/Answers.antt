use Rattle.std.proofs.Common.{◌≡◌, ◌++◌, ◌∷◌, [], None, refl, sym, ap, arith, is_some, length-append}
use Rattle.wire_number.specs.ReaderView.{cursor_of}
use Rattle.rule_match.specs.Sources.{arguments_from}
use Rattle.rule_match.proofs.Behind.{none_next}
use Rattle.rule_match.proofs.FoundTexts.{texts_more}
use Rattle.rule_match.proofs.Walks.{shorter, stepped}
use Rattle.rule_match.proofs.walk.Walk.step.Goals as goal

pub returns-in_default-clause-walk : goal.returns-in_default-clause-walk
returns-in_default-clause-walk c =
    let none : arguments_from c.args.self.now.source ≡ None = none_next c.args.self.now c.requires.walk c.requires.more c.in_default.ensures.none in
    record {
      behind = λ ts s. let b = c.requires.walk.behind ts s in (b.0, record { has_passed = b.1.has_passed; count = b.1.count; texts = b.1.texts });
      fits = c.requires.walk.fits;
      known = sym (ap is_some none);
    }

pub returns-in_default-clause-refused : goal.returns-in_default-clause-refused
returns-in_default-clause-refused c = λ _. none_next c.args.self.now c.requires.walk c.requires.more c.in_default.ensures.none

pub returns-clause-walk : goal.returns-clause-walk
returns-clause-walk c =
    let w = c.args.self.now in
    let n = c.in-Some.ensures.found in
    let less = shorter w.source.order w.types.now c.in-Some.next.types.now (cursor_of w.reader) (cursor_of c.in-Some.next.reader) _ n in
    record {
      behind = λ ts s.
          let b = c.requires.walk.behind ts s in (
            b.0 ++ n.value ∷ [],
            record {
              has_passed =
                  stepped w.source.order w.source.signature.now w.source.body.now w.types.now (cursor_of w.reader) b.0 c.in-Some.next.types.now (cursor_of c.in-Some.next.reader) _ n b.1.has_passed;
              count = omega (arith, b.1.count, length-append b.0 (n.value ∷ []));
              texts = texts_more b.0 n.value w.index w.found.texts c.keep.new.self.texts _ b.1.texts b.1.count n.kept c.keep.ensures;
            },
          );
      fits = omega (arith, less, c.requires.walk.fits);
      known = c.requires.walk.known;
    }

pub returns-clause-stepped : goal.returns-clause-stepped
returns-clause-stepped c = λ _. (
  refl,
  shorter c.args.self.now.source.order c.args.self.now.types.now c.in-Some.next.types.now (cursor_of c.args.self.now.reader) (cursor_of c.in-Some.next.reader) _ c.in-Some.ensures.found,
)
