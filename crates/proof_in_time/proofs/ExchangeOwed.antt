-- What the host has to give to a lock in a tick is owed from phase to phase, until it is submitted.
use Rattle.std.proofs.Common.{◌≡◌, ℕ, suc, inl, inr, Bool, true, Some, None, List, [], ◌∷◌, length, refl, sym, ap, ◌∙◌, subst, arith}
use Rattle.std.specs.Prelude.{◌⊎◌, Option}
use Rattle.std.specs.List.{AllByRecursion}
use Rattle.std.specs.Option.{is_some}
use Rattle.serial_frame.specs.Stream.{Rest}
use Rattle.serial_frame.specs.declared.item.Item.{Item}
use Rattle.chip_functions.specs.Field.{IsNode}
use Rattle.chip_sim.specs.Nodes.{is_marked}
use Rattle.chip_sim.specs.declared.out.Sending.{Sending}
use Rattle.air_frames.specs.Flown.{Flown}
use Rattle.host_node.specs.Search.{first_wanting, next_of}
use Rattle.host_model.specs.Events.{HostEvent}
use Rattle.host_model.specs.Pumping.{HasNothing}
use Rattle.host_model.specs.State.{node_of}
use Rattle.world_model.specs.Events.{Event, Host_takes, happens}
use Rattle.world_model.specs.State.{Machine}
use Rattle.proof_answered.specs.Heard.{AllSayHeard}
use Rattle.proof_answered.specs.Outward.{IsOf}
use Rattle.proof_answered.specs.Sleepers.{IsAlone}
use Rattle.proof_answered.specs.proof_calm.Resting.{IsEffect}
use Rattle.proof_answered.specs.proof_calm.Tied.{IsTied, unheard}
use Rattle.proof_answered.specs.proof_calm.Undisturbed.{HasNone, IsTaken}
use Rattle.proof_answered.specs.proof_calm.proof_traffic.Facts.{one_if}
use Rattle.proof_answered.specs.proof_calm.proof_traffic.OnAir.{on_air}
use Rattle.proof_answered.specs.proof_calm.proof_traffic.OutsideTraffic.{outward}
use Rattle.proof_answered.specs.proof_calm.proof_work.proof_walk.Phases.{Phase, Arriving, Doing, Giving, Goes, Moved, Moving, Said_line, Sleeping, Submitting, Ticking_chip, Ticking_decoder, Ticking_devices, Ticking_host, To_tick}
use Rattle.proof_answered.proofs.Calm.{takes_calm}
use Rattle.proof_answered.proofs.Tying.{request_rests}
use Rattle.proof_answered.proofs.proof_traffic_Parts.{Airs}
use Rattle.proof_in_time.specs.Exchange.{NoneFly, NoneGo}
use Rattle.proof_in_time.specs.Exchanging.{GoSealed}
use Rattle.proof_in_time.specs.Owed.{IsFreeNow, IsOwed}
use Rattle.proof_in_time.proofs.ExchangeWaysAround.{AroundLock}
use Rattle.proof_in_time.proofs.InTurn.{judged_free}
use Rattle.proof_in_time.proofs.Lasting.{KeepsAll}
use Rattle.proof_in_time.proofs.PartsCalm.{Runs}
use Rattle.proof_in_time.proofs.PartsFlying.{sends_as}
use Rattle.proof_in_time.proofs.SealedHosts.{none_waits}

-- what is known beside, of the host too
pub record AroundSealed (these : List Bool) (n : ℕ) (here next : Phase) (m : Machine) (event : Event) : Type 0 where
  pub lock : AroundLock these n here next m event
  pub keeps : KeepsAll event
  pub wants : (k : ℕ) → first_wanting m.host.state.nodes ≡ Some k → ⊥
  pub workers : (k : ℕ) → next_of m.host.state.nodes m.host.state.served ≡ Some k → is_marked these k ≡ true
  pub go : GoSealed n m.host.state
  pub calls : AllSayHeard (unheard m.outside.outer)

-- where a settling ends nothing is left to be given to a node that runs
pub never_left : {these : List Bool} (n : ℕ) (node : IsNode n) (m : Machine) → IsTied these m → Runs n m.host.state → ((m.host.state.requests.queue ≡ []) × ((node_of m.host.state n).text ≡ None) → ⊥) → IsFreeNow m → ⊥
never_left n node m tied run some free = of (request_rests m tied).request
  where
    of : (HasNone m × HasNothing m.host.state) ⊎ IsTaken m → ⊥
    of (inl (none, nothing)) = some (none_waits m.host.state n node.0 node.1 run nothing)
    of (inr taken) = absurd (let wrong = sym free.quiet ∙ taken.sending in cc)

-- nothing is on the air where it is all of the node, and none is
none_air : (these : List Bool) (n : ℕ) (only : (k : ℕ) → is_marked these k ≡ true → k ≡ n) (flights : List Flown) → AllByRecursion (IsOf these) flights → NoneFly n flights → flights ≡ []
none_air these n only [] all none = refl
none_air these n only (frame ∷ flights) all none = absurd (none.0 (only frame.node all.0))

none_sends : (s : Option Sending) → one_if (is_some s) ≡ 0 → s ≡ None
none_sends None none = refl
none_sends (Some sending) none = absurd (let wrong : 1 ≡ 0 = none in omega (arith, wrong))

module _ (airs : Airs) (these : List Bool) (n : ℕ) (alone : IsAlone these n) (is_node : IsNode n) where
  -- as the host has judged the last that was on its way, nothing of it is on the line, and the chip sends nothing
  taken_free : (b : Bool) (passes ticks : ℕ) (m : Machine) (rest : Rest) (items : List Item) (events : List HostEvent) → AroundLock these n (Moved b passes ticks) (Sleeping passes ticks) m (Host_takes (length m.outside.outer.to_host.bytes) rest items events)
      → NoneGo n (happens m (Host_takes (length m.outside.outer.to_host.bytes) rest items events)) → IsFreeNow (happens m (Host_takes (length m.outside.outer.to_host.bytes) rest items events))
  taken_free b passes ticks m rest items events a none =
      judged_free airs these n alone.marked is_node passes m (length m.outside.outer.to_host.bytes) rest items events a.then_line
      (none_sends m.outside.outer.chip.state.sending (sends_as m a.awaits a.routed a.none_aborted ∙ ap outward (none_air these n alone.only (on_air m.outside.outer.air.frames) a.speak.frames flies)))
    where
      flies : NoneFly n (on_air m.outside.outer.air.frames)
      flies = subst (NoneFly n) (takes_calm airs m (length m.outside.outer.to_host.bytes) rest items events).on none.flies

  effect_takes : (event : Event) → IsEffect event → (count : ℕ) (rest : Rest) (items : List Item) (events : List HostEvent) → event ≡ Host_takes count rest items events → ⊥
  effect_takes event is count rest items events same = subst IsEffect same is

  -- so what is to be given then is owed
  pub taken_owed : (here next : Phase) (m : Machine) (event : Event) → Goes here m event next → AroundLock these n here next m event → (count : ℕ) (rest : Rest) (items : List Item) (events : List HostEvent) → event ≡ Host_takes count rest items events
      → NoneGo n (happens m event) → IsOwed next (happens m event)
  taken_owed (Moved b passes ticks) next m event (rest, items, done, is, to) a count with_rest with_items events taken none =
      subst (λ (q : Phase). IsOwed q (happens m event)) (sym to)
      (subst (λ (e : Event). IsFreeNow (happens m e)) (sym is)
      (taken_free b passes ticks m rest items done
      (subst (λ (q : Phase). AroundLock these n (Moved b passes ticks) q m (Host_takes (length m.outside.outer.to_host.bytes) rest items done)) to (subst (λ (e : Event). AroundLock these n (Moved b passes ticks) next m e) is a))
      (subst (λ (e : Event). NoneGo n (happens m e)) is none)))
  taken_owed (Said_line line) next m event (is, to) a count rest items events taken none = absurd (let wrong = sym is ∙ taken in cc)
  taken_owed (Doing line (first ∷ es)) next m event (is, to) a count rest items events taken none = absurd (effect_takes first a.line.0.0 count rest items events (sym is ∙ taken))
  taken_owed (To_tick (suc ticks)) next m event (is, to) a count rest items events taken none = absurd (let wrong = sym is ∙ taken in cc)
  taken_owed (Arriving (suc frames) ticks) next m event (drawn, route, is, to) a count rest items events taken none = absurd (let wrong = sym is ∙ taken in cc)
  taken_owed (Giving (suc results) ticks) next m event (route, is, to) a count rest items events taken none = absurd (let wrong = sym is ∙ taken in cc)
  taken_owed (Ticking_devices place (suc left) ticks) next m event (drawn, route, is, to) a count rest items events taken none = absurd (let wrong = sym is ∙ taken in cc)
  taken_owed (Ticking_chip ticks) next m event (is, to) a count rest items events taken none = absurd (let wrong = sym is ∙ taken in cc)
  taken_owed (Ticking_decoder ticks) next m event (is, to) a count rest items events taken none = absurd (let wrong = sym is ∙ taken in cc)
  taken_owed (Ticking_host (first ∷ left) ticks) next m event (is, to) a count rest items events taken none = absurd (let wrong = sym is ∙ taken in cc)
  taken_owed (Sleeping passes ticks) next m event (k, wants, is, to) a count rest items events taken none = absurd (let wrong = sym is ∙ taken in cc)
  taken_owed (Submitting passes ticks) next m event (asked, next_is, is, to) a count rest items events taken none = absurd (let wrong = sym is ∙ taken in cc)
  taken_owed (Moving passes ticks) next m event (with_rest, ways, is, to) a count rest items events taken none = absurd (let wrong = sym is ∙ taken in cc)
  taken_owed here next m event goes a count rest items events taken none = absurd goes
