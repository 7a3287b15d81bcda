use Rattle.std.proofs.{Common.{refl, ap, not}, lemmas.Result.err_from_is_err_and}
use Rattle.peer_words.proofs.Letters.{bad_destination, bad_path, bad_interface, bad_member, good_words, there}
use Rattle.peer_words.proofs.call_words.signal_builder.Goals as goal

pub returns-in_err-destination : goal.returns-in_err-destination
returns-in_err-destination c =
    let p = err_from_is_err_and c.from_residual.result c.from_residual.ensures.1 in
    let e = c.in_err-destination.ensures.err in
    rw (p.1, p.2) (bad_destination _ _ e.0 e.1)

pub returns-in_err-path : goal.returns-in_err-path
returns-in_err-path c =
    let p = err_from_is_err_and c.from_residual-in_err-path.result c.from_residual-in_err-path.ensures.1 in
    let e = c.in_err-path.ensures.err in
    rw (p.1, p.2) (bad_path _ _ c.in_ok-destination.ensures.ok.1 e.0 (ap not e.1))

pub returns-in_err-interface : goal.returns-in_err-interface
returns-in_err-interface c =
    let p = err_from_is_err_and c.from_residual-in_err-interface.result c.from_residual-in_err-interface.ensures.1 in
    let e = c.in_err-interface.ensures.err in
    rw (p.1, p.2) (bad_interface _ _ c.in_ok-destination.ensures.ok.1 (ap not c.in_ok-path.ensures.ok.1) e.0 (ap not e.1))

pub returns-in_err-member : goal.returns-in_err-member
returns-in_err-member c =
    let p = err_from_is_err_and c.from_residual-in_err-member.result c.from_residual-in_err-member.ensures.1 in
    let e = c.in_err-member.ensures.err in
    rw (p.1, p.2) (bad_member _ _ c.in_ok-destination.ensures.ok.1 (ap not c.in_ok-path.ensures.ok.1) (there _ _ c.in_ok-interface.ensures.ok.0 c.in_ok-interface.ensures.ok.1) e.0 (ap not e.1))

pub returns : goal.returns
returns c =
    let d = c.in_ok-destination.ensures.ok in
    let p = c.in_ok-path.ensures.ok in
    let i = c.in_ok-interface.ensures.ok in
    let m = c.in_ok-member.ensures.ok in
    rw (c.with_destination.ensures, c.signal.ensures, d.0, p.0, m.0, i.0)
    (refl, good_words _ d.1 (ap not p.1) (ap not i.1) (ap not m.1))
