-- What a walk of the chip needs of entries that tell nothing of it; and what the chip learns of links leaves the rest of it as it was.
use Rattle.std.proofs.Common.{◌≡◌, ℕ, Bool, List, [], ◌∷◌, ◌++◌, filter, refl, ◌∙◌}
use Rattle.std.specs.List.{AllByRecursion, range_with_len}
use Rattle.chip_sim.specs.State.{ChipState}
use Rattle.chip_sim.specs.Events.{ChipEvent, Joined, Linked, after}
use Rattle.chip_sim.specs.Did.{after_all}
use Rattle.mesh_sim.specs.Air.{joining}
use Rattle.zw_text.specs.declared.entry.Entry.{Entry}
use Rattle.zw_text.specs.declared.entry.Entry.TheVariants as entry
use Rattle.law_transcript.specs.Lists.{EachAfter}
use Rattle.outside_model.specs.State.{OuterState}
use Rattle.outside_model.specs.Nodes.{all_pairs, is_known, links_of}
use Rattle.proof_air.specs.proof_walk.Outside.{IsOfAir}
use Rattle.proof_line.proofs.Colliding.{IsLinked, all_linked, pairs_linked}
use Rattle.proof_chip.specs.Knowing.{AnyEntry}
use Rattle.proof_chip.proofs.Telling.{IsAside}

pub any_each : (past told : List Entry) → EachAfter AnyEntry past told
any_each past [] = tt
any_each past (e ∷ told) = (tt, any_each (past ++ e ∷ []) told)

-- ---- entries that tell nothing of the chip

pub air_aside : (e : Entry) → IsOfAir e → IsAside e
air_aside (entry.Written side unit) of_air = absurd of_air
air_aside entry.ChipFull of_air = absurd of_air
air_aside e of_air = tt

-- ---- what the chip learns of links

-- something of it that a link does not change
module _ {S : Type 0} (of : ChipState → S) (linked : (s : ChipState) (a b : ℕ) (live : Bool) → of (after s (Linked a b live)) ≡ of s) where
  links_keep : (events : List ChipEvent) (s : ChipState) → AllByRecursion IsLinked events → of (after_all s events) ≡ of s
  links_keep [] s are = refl
  links_keep (Linked a b live ∷ events) s are = links_keep events (after s (Linked a b live)) are.1 ∙ linked s a b live
  links_keep (event ∷ events) s are = absurd are.0

  pub joins_keep : (o : OuterState) (node : ℕ) (listening : Bool)
      → of (after_all (after o.chip.state (Joined node listening)) (links_of (joining o.air node listening) node)) ≡ of (after o.chip.state (Joined node listening))
  joins_keep o node listening = links_keep (links_of (joining o.air node listening) node) (after o.chip.state (Joined node listening)) (all_linked _ (λ n. tt) _)

  pub discovers_keep : (o : OuterState) → of (after_all o.chip.state (all_pairs o.air)) ≡ of o.chip.state
  unfolding all_pairs
  discovers_keep o = links_keep (all_pairs o.air) o.chip.state (pairs_linked o.air (filter (λ (node : ℕ). is_known o.air node) (range_with_len 1 232)))
