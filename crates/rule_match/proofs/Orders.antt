-- The byte order that a head names.
use Rattle.std.proofs.Common.{◌≡◌, refl}
use Rattle.wire_number.specs.declared.endian.Endian.{Endian}
use Rattle.wire_number.specs.declared.endian.Endian.TheVariants.{Little, Big}
use Rattle.wire_message.specs.Primary.{sig_of, order_of}

-- the byte order of its own name
pub order_named : (order : Endian) → order_of (sig_of order) ≡ order
order_named Little = refl
order_named Big = refl
