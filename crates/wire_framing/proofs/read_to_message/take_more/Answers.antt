use Rattle.std.proofs.Common.{rules, ◌≡◌, ◌+◌, ◌++◌, ◌∙◌, sym, ap, subst, length, take, arith}
use Rattle.std.proofs.lemmas.List.{length-take-le}
use Rattle.wire_framing.specs.Kept.{Comes, once_more}
use Rattle.wire_framing.specs.Source.{Asks}
use Rattle.wire_framing.proofs.Asked.{grown_is, none_came, rest_is, zeros_front, taken_front}
use Rattle.wire_framing.proofs.read_to_message.take_more.Goals as goal

pub returns-clause-grown : goal.returns-clause-grown
returns-clause-grown g c =
    let old = c.args.bytes.now.items in
    let got = take c.fill-came.result.0 c.fill-came.new.buf in
    let front : take c.len-from.result c.deref_mut.result.now ≡ old =
    ap (take c.len-from.result) c.deref_mut.ensures.value ∙ zeros_front c.len-from.result old _ c.extend_from_slice.new.self.items (search rules) c.in_ok-extend_from_slice.ensures.items in
    let joined = taken_front c.extend_from_slice.new.self.len c.len-from.result c.fill-came.result.0 c.deref_mut.result.now c.fill-came.new.buf _ (search rules) c.fill-came.ensures.within (search rules) in
    grown_is old c.truncate.new.self.items got (c.truncate.ensures.items ∙ (joined ∙ ap (λ l. l ++ got) front))

pub returns-clause-came : goal.returns-clause-came
returns-clause-came g c =
    let old = c.args.bytes.now.items in
    let got = take c.fill-came.result.0 c.fill-came.new.buf in
    let front : take c.len-from.result c.deref_mut.result.now ≡ old =
    ap (take c.len-from.result) c.deref_mut.ensures.value ∙ zeros_front c.len-from.result old _ c.extend_from_slice.new.self.items (search rules) c.in_ok-extend_from_slice.ensures.items in
    let joined = taken_front c.extend_from_slice.new.self.len c.len-from.result c.fill-came.result.0 c.deref_mut.result.now c.fill-came.new.buf _ (search rules) c.fill-came.ensures.within (search rules) in
    subst (λ l. Comes c.fill-came.result.1 l (g.S.Source.view c.args.source.now) (g.S.Source.view c.fill-came.new.source))
    (sym (rest_is old c.truncate.new.self.items got (c.truncate.ensures.items ∙ (joined ∙ ap (λ l. l ++ got) front))))
    c.fill-came.ensures.came

pub returns-clause-asks : goal.returns-clause-asks
returns-clause-asks g c =
    let old = c.args.bytes.now.items in
    let got = take c.fill-came.result.0 c.fill-came.new.buf in
    let front : take c.len-from.result c.deref_mut.result.now ≡ old =
    ap (take c.len-from.result) c.deref_mut.ensures.value ∙ zeros_front c.len-from.result old _ c.extend_from_slice.new.self.items (search rules) c.in_ok-extend_from_slice.ensures.items in
    let joined = taken_front c.extend_from_slice.new.self.len c.len-from.result c.fill-came.result.0 c.deref_mut.result.now c.fill-came.new.buf _ (search rules) c.fill-came.ensures.within (search rules) in
    let rest = rest_is old c.truncate.new.self.items got (c.truncate.ensures.items ∙ (joined ∙ ap (λ l. l ++ got) front)) in
    subst (λ n. Asks (g.S.Source.view c.args.source.now) (g.S.Source.view c.fill-came.new.source) (n + once_more c.fill-came.result.1))
    (sym (ap length rest ∙ length-take-le c.fill-came.result.0 c.fill-came.new.buf c.fill-came.ensures.within))
    c.fill-came.ensures.asks

pub returns-in_err-extend_from_slice-clause-came : goal.returns-in_err-extend_from_slice-clause-came
returns-in_err-extend_from_slice-clause-came g c =
    none_came c.from_residual.result c.args.bytes.now.items c.extend_from_slice.new.self.items (g.S.Source.view c.args.source.now) (search rules) c.in_err-extend_from_slice.ensures.items
