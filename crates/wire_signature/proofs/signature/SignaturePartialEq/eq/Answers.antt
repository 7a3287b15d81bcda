use Rattle.std.proofs.Common.{◌≡◌, ◌↔◌, IsTrue, sym}
use Rattle.wire_signature.proofs.Equal.{signatures_test}
use Rattle.wire_signature.proofs.signature.SignaturePartialEq.eq.Goals as goal

pub returns : goal.returns
returns c =
    let same : IsTrue c.are_same.result ↔ (c.args.self.now ≡ c.args.other.now) = rw (sym c.types.ensures.types, sym c.types-2.ensures.types) c.are_same.ensures in
    signatures_test c.are_same.result _ _ c.types.ensures.valid c.types-2.ensures.valid same
