-- The nonces that are live in what was kept, as offers, each of the number that was given last.
use Rattle.std.proofs.Common.{◌≡◌, ℕ, zero, suc, ◌+◌, List, [], ◌∷◌, Option, Some, None, subst, arith}
use Rattle.std.specs.Prelude.{IfSome, slice_index_or}
use Rattle.std.specs.List.{AllByRecursion}
use Rattle.host_keep.specs.Kept.{Kept, KeptNode, blank_node, node_of}
use Rattle.proof_hearing.specs.proof_queue.proof_attempts.proof_requests.law_host.Course.{Offer}

abbrev add_live : ℕ → ℕ → Option (List ℕ) → List Offer → List Offer
add_live node given None offers = offers
add_live node given (Some nonce) offers = record { node = node; number = given; nonce = nonce } ∷ offers

abbrev offers_from : ℕ → List KeptNode → List Offer
offers_from node [] = []
offers_from node (kept ∷ more) = add_live node kept.given kept.live (offers_from (suc node) more)

-- all nonces that are live, each with the number that was given last
abbrev pub offers_kept : Kept → List Offer
offers_kept kept = offers_from 0 kept.nodes

module _ (P : Offer → Type 0) where
  -- so it is of the live nonce of a node
  abbrev pub OfLive : ℕ → KeptNode → Type 0
  OfLive node kept = IfSome kept.live (λ nonce. P (record { node = node; number = kept.given; nonce = nonce }))

  add_all : (node given : ℕ) (live : Option (List ℕ)) (offers : List Offer) → IfSome live (λ nonce. P (record { node = node; number = given; nonce = nonce })) → AllByRecursion P offers
      → AllByRecursion P (add_live node given live offers)
  add_all node given None offers one all = all
  add_all node given (Some nonce) offers one all = (one, all)

  all_added : (node given : ℕ) (live : Option (List ℕ)) (offers : List Offer) → AllByRecursion P (add_live node given live offers)
      → IfSome live (λ nonce. P (record { node = node; number = given; nonce = nonce })) × AllByRecursion P offers
  all_added node given None offers all = (tt, all)
  all_added node given (Some nonce) offers all = all

  all_from : (start : ℕ) (nodes : List KeptNode) → ((k n : ℕ) → n ≡ start + k → OfLive n (slice_index_or nodes k blank_node)) → AllByRecursion P (offers_from start nodes)
  all_from start [] each = tt
  all_from start (node ∷ more) each =
      add_all start node.given node.live (offers_from (suc start) more) (each 0 start (omega arith)) (all_from (suc start) more (λ k n is. each (suc k) n (omega (arith, is))))

  each_from : (start : ℕ) (nodes : List KeptNode) → AllByRecursion P (offers_from start nodes) → (k n : ℕ) → n ≡ start + k → OfLive n (slice_index_or nodes k blank_node)
  each_from start [] all k n is = tt
  each_from start (node ∷ more) all zero n is =
      let same : start ≡ n = omega (arith, is) in
      subst (λ (m : ℕ). OfLive m node) same (all_added start node.given node.live (offers_from (suc start) more) all).0
  each_from start (node ∷ more) all (suc k) n is =
      each_from (suc start) more (all_added start node.given node.live (offers_from (suc start) more) all).1 k n (omega (arith, is))

  pub all_kept : (kept : Kept) → ((node : ℕ) → OfLive node (node_of kept node)) → AllByRecursion P (offers_kept kept)
  all_kept kept each = all_from 0 kept.nodes (λ k n is. let same : k ≡ n = omega (arith, is) in subst (λ (m : ℕ). OfLive m (node_of kept k)) same (each k))

  pub each_kept : (kept : Kept) → AllByRecursion P (offers_kept kept) → (node : ℕ) → OfLive node (node_of kept node)
  each_kept kept all node = each_from 0 kept.nodes all node node (omega arith)
