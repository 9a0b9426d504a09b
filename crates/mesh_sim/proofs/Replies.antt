-- Steps of the loop over the replies of a device.
use Rattle.std.proofs.Common.{◌≡◌, ℕ, zero, suc, ◌+◌, Option, Some, List, [], ◌∷◌, ◌++◌, drop, slice_get, ap, sym, ◌∙◌, append_assoc, arith}
use Rattle.route_table.specs.declared.route.Route.{Route}
use Rattle.air_frames.specs.declared.frame.Heading.TheVariants.{Homeward}
use Rattle.mesh_sim.specs.declared.event.AirEvent.{AirEvent}
use Rattle.mesh_sim.specs.Air.{AirState, departing}
use Rattle.mesh_sim.specs.Steps.{answered, answers, sent_event}

-- what is left from a place on begins with what stands there
pub rest_at : {A : Type 0} (xs : List A) (i : ℕ) (x : A) → slice_get xs i ≡ Some x → drop i xs ≡ x ∷ drop (i + 1) xs
rest_at {A = A} xs i x at = go xs i at ∙ ap (λ n. x ∷ drop n xs) (let e : suc i ≡ i + 1 = omega arith in e)
  where
    go : (xs : List A) (i : ℕ) → slice_get xs i ≡ Some x → drop i xs ≡ x ∷ drop (suc i) xs
    go [] i at = absurd cc
    go (y ∷ ys) zero at = let same : y ≡ x = cc in ap (λ z. z ∷ ys) same
    go (y ∷ ys) (suc i) at = go ys i at

module _ (air new whole : AirState) (node : ℕ) (way : Option Route) (replies : List (List ℕ)) (i : ℕ) (reply : List ℕ) (at : slice_get replies i ≡ Some reply)
    (went : new ≡ departing air node Homeward way reply) where
  pub reply_more : answered air node way (drop i replies) ≡ whole → answered new node way (drop (i + 1) replies) ≡ whole
  reply_more so_far =
      ap (λ (a : AirState). answered a node way (drop (i + 1) replies)) went
      ∙ (sym (ap (λ rs. answered air node way rs) (rest_at replies i reply at)) ∙ so_far)

  pub told_more : (out more all : List AirEvent) → more ≡ out ++ sent_event air node way reply ∷ [] → out ++ answers air node way (drop i replies) ≡ all
      → more ++ answers new node way (drop (i + 1) replies) ≡ all
  told_more out more all added so_far =
      ap (λ l. l ++ answers new node way (drop (i + 1) replies)) added
      ∙ (append_assoc out (sent_event air node way reply ∷ []) (answers new node way (drop (i + 1) replies))
      ∙ (ap (λ (a : AirState). out ++ sent_event air node way reply ∷ answers a node way (drop (i + 1) replies)) went
      ∙ (sym (ap (λ rs. out ++ answers air node way rs) (rest_at replies i reply at)) ∙ so_far)))
