-- Words that are 0 hold no node.
use Rattle.std.proofs.Common.{◌≡◌, ℕ, zero, suc, List, [], ◌∷◌, get_or, refl}
use Rattle.host_node.proofs.Words.{no_bits, no_nodes, no_marks_of}
use Rattle.host_node.proofs.node_set.NodeSet.new.Goals as goal

no_words : List ℕ
no_words = 0 ∷ 0 ∷ 0 ∷ 0 ∷ []

zeros : (k : ℕ) → get_or no_words k 0 ≡ 0
unfolding no_words
zeros zero = refl
zeros (suc zero) = refl
zeros (suc (suc zero)) = refl
zeros (suc (suc (suc zero))) = refl
zeros (suc (suc (suc (suc k)))) = refl

pub invariant_of-result : goal.invariant_of-result
unfolding no_words
invariant_of-result c = no_nodes no_words (no_bits no_words zeros)

pub returns : goal.returns
unfolding no_words
returns c = no_marks_of no_words (no_bits no_words zeros)
