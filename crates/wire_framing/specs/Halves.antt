-- What a pair of halves is once a half that was lent comes back.
use Rattle.std.specs.Borrow.{Lends, MutBor, Fml, RattleType}
use Rattle.wire_framing.specs.declared.socket.Split.{Split}
use Rattle.wire_framing.specs.contracts.socket.Split.{the_row}

module _ (R W : RattleType) (s : MutBor (Split R.Denot W.Denot)) where
  -- once the borrow ends, the half that reads is what was left behind it, and the other is as it was
  abbrev pub lends_read : MutBor R.Denot → Fml
  lends_read half = Lends (the_row R W) R s half (λ read. record { read = read; write = s.now.write })

  -- once the borrow ends, the half that writes is what was left behind it, and the other is as it was
  abbrev pub lends_write : MutBor W.Denot → Fml
  lends_write half = Lends (the_row R W) W s half (λ write. record { read = s.now.read; write = write })
