-- Signed numbers keep their bits.
use Rattle.std.proofs.Common.{◌≡◌, ℕ, ◌^◌, ◌<◌}
use Rattle.std.specs.Int.{w16, w32, w64, cast_unsigned, cast_signed}
use Rattle.std.proofs.lemmas.Int.{of_z-to_z}

pub signed_16 : (n : ℕ) → n < 2 ^ 16 → cast_unsigned w16 (cast_signed w16 n) ≡ n
signed_16 n h = of_z-to_z w16 n h

pub signed_32 : (n : ℕ) → n < 2 ^ 32 → cast_unsigned w32 (cast_signed w32 n) ≡ n
signed_32 n h = of_z-to_z w32 n h

pub signed_64 : (n : ℕ) → n < 2 ^ 64 → cast_unsigned w64 (cast_signed w64 n) ≡ n
signed_64 n h = of_z-to_z w64 n h

pub ruleset signs = (signed_16, signed_32, signed_64)
