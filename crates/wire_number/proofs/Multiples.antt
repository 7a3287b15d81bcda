-- A place and its padding are together a multiple of the alignment.
use Rattle.std.proofs.Common.{◌≡◌, ◌+◌, ◌-◌, ◌*◌, ◌/◌, ◌%◌, ◌<◌, ℕ, ◌∙◌, ap, arith}
use Rattle.std.proofs.Math.Nat.{add-mod-mod, div-add-mod, mul-add-mod_self_left, mod_self}
use Rattle.wire_number.specs.Number.{pad}

whole : (n a : ℕ) → n % a < a → n + (a - n % a) ≡ a * (n / a) + a
whole n a within = omega (arith, div-add-mod n a, within)

pub padded-is-multiple : (n a : ℕ) → n % a < a → (n + pad n a) % a ≡ 0
padded-is-multiple n a within =
    add-mod-mod n (a - n % a) a ∙ ap (λ k. k % a) (whole n a within) ∙ mul-add-mod_self_left a (n / a) a ∙ mod_self a

pub ruleset paddings = padded-is-multiple
