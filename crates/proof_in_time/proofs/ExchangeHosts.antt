-- As the host submits something for a lock alone in a sealed exchange, that is what waited in it.
use Rattle.std.proofs.Common.{◌≡◌, ◌<◌, ℕ, ◌||◌, Bool, true, false, Option, Some, None, List, [], ◌∷◌, length, refl, sym, ap, ◌∙◌, subst}
use Rattle.std.specs.Prelude.{is_some, slice_get}
use Rattle.device_sim.specs.State.{State}
use Rattle.mesh_sim.specs.Fates.{place_of}
use Rattle.host_requests.specs.declared.task.Task.{Task}
use Rattle.host_node.specs.Search.{next_of}
use Rattle.host_node.specs.State.{NodeState, has_segment, has_work}
use Rattle.host_node.specs.Steps.{after_text}
use Rattle.host_node.specs.declared.series.Series.{Series}
use Rattle.host_node.specs.declared.series.Series.TheVariants as series
use Rattle.host_model.specs.Events.{HostEvent}
use Rattle.host_model.specs.Pumping.{IsNext, IsNextOf, IsNextOfNodes}
use Rattle.host_model.specs.State.{node_of}
use Rattle.host_model.proofs.Pumps.{next_works}
use Rattle.world_model.specs.Events.{Host_does, happens}
use Rattle.world_model.specs.State.{Machine}
use Rattle.world_model.proofs.Hosting.{devices_host-all}
use Rattle.proof_answered.specs.proof_calm.proof_work.proof_walk.Phases.{Submitting}
use Rattle.proof_answered.proofs.Calm.{does_calm}
use Rattle.proof_answered.proofs.Unheard.{all_piled, does_says}
use Rattle.proof_answered.proofs.proof_traffic_Parts.{Airs}
use Rattle.proof_in_time.specs.Exchange.{BringsNone, Exchange, NoneFly, NoneGo, NoneTold, Gets, IsElse, IsForLive, IsThere, Nonces, Offers, OffersLive, Reports, Seals, Shows, Texts, Wants}
use Rattle.proof_in_time.proofs.ExchangeGiven.{nonce_given, text_given}
use Rattle.proof_in_time.proofs.SealedHosts.{offer_goes, text_gives}

-- an attempt that gives nothing more has no work
running_idle : (x : NodeState) → x.series ≡ series.Running → x.text ≡ None → has_segment x ≡ false → has_work x ≡ false
running_idle x runs none no_segment = by x.series runs
  where
    by : (s : Series) → s ≡ series.Running → has_work (record x { series = s }) ≡ false
    by series.Running is = ap (λ (t : Option (List ℕ)). is_some t || has_segment x) none ∙ no_segment
    by series.Idle is = absurd cc
    by series.Due is = absurd cc

module _ (airs : Airs) (n session left : ℕ) (passes ticks : ℕ) (m : Machine) (event : HostEvent) (within : n < length m.host.state.nodes) (alone : (k : ℕ) → next_of m.host.state.nodes m.host.state.served ≡ Some k → k ≡ n)
    (running : (node_of m.host.state n).series ≡ series.Running) (no_segment : has_segment (node_of m.host.state n) ≡ false) (paid : m.host.state.requests.owes ≡ false) (next_is : IsNext m.host.state event) where
  abbrev then_done : Machine
  then_done = happens m (Host_does event)

  -- nothing waits: nothing is submitted
  none_next : IsElse n m.host.state → ⊥
  none_next other = by (next_of m.host.state.nodes m.host.state.served) refl
      (subst (λ (queue : List Task). IsNextOf m.host.state false queue event) other.no_task (subst (λ (b : Bool). IsNextOf m.host.state b m.host.state.requests.queue event) paid next_is.1))
    where
      by : (found : Option ℕ) → next_of m.host.state.nodes m.host.state.served ≡ found → IsNextOfNodes m.host.state found event → ⊥
      by None found is = is
      by (Some k) found is =
          let works : has_work (node_of m.host.state n) ≡ true = subst (λ (j : ℕ). has_work (node_of m.host.state j) ≡ true) (alone k found) (next_works m.host.state.nodes m.host.state.served k found) in
          absurd (let wrong : false ≡ true = sym (running_idle (node_of m.host.state n) running other.no_text no_segment) ∙ works in cc)

  -- the device stands where it stood
  abbrev there_then : IsThere n m.outside.devices → IsThere n then_done.outside.devices
  there_then at = record {
    place = at.place;
    device = at.device;
    first = ap (λ (ds : List State). place_of n ds) (devices_host-all m (event ∷ [])) ∙ at.first;
    stands = ap (λ (ds : List State). slice_get ds at.place) (devices_host-all m (event ∷ [])) ∙ at.stands;
  }

  -- and nothing else goes
  none_then : NoneGo n m → NoneGo n then_done
  none_then none = record {
    flies = subst (NoneFly n) (sym (does_calm airs m event).on) none.flies;
    told = does_says (BringsNone n) (NoneTold n) (all_piled (BringsNone n)) airs m event none.told;
  }

  pub exchange_submits : Exchange n session left (Submitting passes ticks) m → Exchange n session left (Submitting passes ticks) then_done
  exchange_submits (Gets later other waits out only told few) = absurd (none_next other)
  exchange_submits (Shows later at other waits home few) = absurd (none_next other)
  exchange_submits (Seals payload at none owed empty text is few) =
      let gives = text_gives n passes ticks m event payload (IsForLive session at.device) within alone running paid empty text is next_is in
      text_given n session left passes ticks at.device (after_text (node_of m.host.state n)) m.host.state then_done gives.1 (none_then none) (there_then at) refl few
  exchange_submits (Texts later at other out only told few) = absurd (none_next other)
  exchange_submits (Wants later at other waits home few) = absurd (none_next other)
  exchange_submits (Offers nonce at none owed queue no_text live waits few) =
      let gives = offer_goes n passes ticks m event nonce (OffersLive n m.host.state) paid queue no_text (record { nonce = nonce; live = live; is = refl }) next_is in
      nonce_given n session left passes ticks (node_of m.host.state n) m.host.state then_done gives.1 (none_then none) (there_then at) waits few
  exchange_submits (Nonces later at other waits out only told few) = absurd (none_next other)
  exchange_submits (Reports later other home few) = absurd (none_next other)
