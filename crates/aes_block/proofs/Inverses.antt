-- The product of a byte and its inverse.
use Rattle.std.proofs.Common.{◌≡◌, ℕ, ◌<◌, map, refl, arith}
use Rattle.std.specs.List.{range_with_len}
use Rattle.aes_block.specs.Field.{product, inverse}
use Rattle.aes_block.proofs.Tables.{joined, same_from_tables}

-- a third of the products
ones0 : map (λ a. product a (inverse a)) (range_with_len 1 85) ≡ map (λ _. 1) (range_with_len 1 85)
unfolding product inverse
ones0 = refl

-- a third of the products
ones1 : map (λ a. product a (inverse a)) (range_with_len 86 85) ≡ map (λ _. 1) (range_with_len 86 85)
unfolding product inverse
ones1 = refl

-- a third of the products
ones2 : map (λ a. product a (inverse a)) (range_with_len 171 85) ≡ map (λ _. 1) (range_with_len 171 85)
unfolding product inverse
ones2 = refl

-- the table of the products, which is one of ones
products : map (λ a. product a (inverse a)) (range_with_len 1 255) ≡ map (λ _. 1) (range_with_len 1 255)
products = joined (joined ones0 ones1) ones2

pub inverse_product : (a : ℕ) → 0 < a → a < 256 → product a (inverse a) ≡ 1
inverse_product a above below = same_from_tables (λ a. product a (inverse a)) (λ _. 1) 1 255 a (omega arith) (omega arith) products
