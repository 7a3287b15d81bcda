-- What is lent to be changed.
use mir.Syntax.{named}
use Rattle.std.specs.Prelude.{[]}
use Rattle.std.specs.Borrow.{Lends, MutBor, Fml}
use Rattle.wire_message.specs.Primary.{Head, Primary}
use Rattle.wire_message.specs.contracts.header.Header.{the_row}
use Rattle.wire_message.specs.contracts.primary.PrimaryHeader.{the_row as primary_row}

-- The header ends with the last value behind the reference as the part that each message has.
abbrev pub LendsPrimary : MutBor Head → MutBor Primary → Fml
LendsPrimary head primary = Lends (the_row (record { mir = named 1; lft = [] })) primary_row head primary (λ w. record head.now { primary = w })
