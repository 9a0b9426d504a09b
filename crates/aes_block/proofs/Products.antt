-- The products by 2 and by 3.
use Rattle.std.proofs.Common.{◌≡◌, ℕ, bit_xor, refl}
use Rattle.std.proofs.lemmas.Nat.{xor_comm}
use Rattle.aes_block.specs.Field.{product, times_x}

pub product_2 : (a : ℕ) → product 2 a ≡ times_x a
unfolding product
product_2 a = refl

pub product_3 : (a : ℕ) → product 3 a ≡ bit_xor (times_x a) a
unfolding product
product_3 a = xor_comm a (times_x a)
