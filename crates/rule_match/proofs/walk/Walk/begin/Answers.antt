use Rattle.std.proofs.Common.{rules, ◌≡◌, [], refl, arith}
use Rattle.wire_number.specs.ReaderView.{cursor_of}
use Rattle.wire_number.proofs.Steps.{at}
use Rattle.rule_match.proofs.Walks.{begun}
use Rattle.rule_match.proofs.walk.Walk.begin.Goals as goal

pub returns-clause-walk : goal.returns-clause-walk
returns-clause-walk c =
    let start : cursor_of c.new-self.result ≡ at 0 c.source_of-source.result.body.now = c.new-self.ensures in
    record {
      behind = λ ts s. (
        [],
        record {
          has_passed = rw start (begun c.source_of-source.result.order c.source_of-source.result.signature.now c.source_of-source.result.body.now ts s);
          count = refl;
          texts = λ k low below. absurd (omega (arith, below));
        },
      );
      fits = search rules;
      known = tt;
    }
