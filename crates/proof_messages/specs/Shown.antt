-- How many new nonces the frames between node 1 and a node have shown (this project's own rule, docs/AIR.md), by the numbers of nonces.
use Rattle.std.specs.Prelude.{◌≡◌, ℕ, zero, suc, ◌+◌, List, [], Option, Some, None}
use Rattle.air_frames.specs.declared.frame.Heading.TheVariants.{Outward, Homeward}
use Rattle.air_frames.specs.History.{Mark, last_in, news_after}
use Rattle.proof_messages.specs.Numbers.{IsNonce}

-- the nonce that was shown last in a direction is that of this number; none was where it is 0
abbrev pub IsLast : List (List ℕ) → ℕ → Option (List ℕ) → Type 0
IsLast nonces zero last = last ≡ None
IsLast nonces (suc before) last = (nonce : List ℕ) × ((last ≡ Some nonce) × IsNonce nonces (suc before) nonce)

-- a history has shown the nonces of a node up to this number, and those of the host for it up to that one, and no others between them
pub record HasShown (node : ℕ) (log : List Mark) (given shown : List (List ℕ)) (of_node of_host : ℕ) : Type 0 where
  pub count : news_after node [] log ≡ of_node + of_host
  pub homeward : IsLast given of_node (last_in node Homeward None log)
  pub outward : IsLast shown of_host (last_in node Outward None log)
