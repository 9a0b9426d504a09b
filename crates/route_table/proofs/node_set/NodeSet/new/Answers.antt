use Rattle.std.proofs.Common.{◌≡◌, ℕ, List, [], ◌∷◌, get_or, zero, suc, refl}
use Rattle.route_table.proofs.Masks.{is_set-zeros}
use Rattle.route_table.proofs.node_set.NodeSet.new.Goals as goal

no_bits : List ℕ
no_bits = 0 ∷ 0 ∷ 0 ∷ 0 ∷ []

zeros : (k : ℕ) → get_or no_bits k 0 ≡ 0
unfolding no_bits
zeros zero = refl
zeros (suc zero) = refl
zeros (suc (suc zero)) = refl
zeros (suc (suc (suc zero))) = refl
zeros (suc (suc (suc (suc k)))) = refl

pub returns : goal.returns
unfolding no_bits
returns c = is_set-zeros _ zeros
