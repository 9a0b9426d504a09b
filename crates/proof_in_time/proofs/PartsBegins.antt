-- An attempt starts in a settling alone, where the chip sends nothing, and so no frame of the host is on the air: where what is on its way asks for nothing, the first segment of the attempt is all that is.
use Rattle.std.proofs.Common.{◌≡◌, ◌<◌, ℕ, suc, ◌+◌, Bool, true, false, if◌then◌else◌, Option, Some, None, List, [], ◌∷◌, refl, sym, ap, ◌∙◌, subst, arith}
use Rattle.std.specs.Prelude.{◌⊎◌}
use Rattle.std.specs.Option.{is_some}
use Rattle.std.specs.List.{AllByRecursion}
use Rattle.serial_frame.specs.Frame.{FrameParts}
use Rattle.chip_functions.specs.Field.{IsNode}
use Rattle.chip_sim.specs.Nodes.{is_marked}
use Rattle.chip_sim.specs.declared.out.Sending.{Sending}
use Rattle.air_frames.specs.Flown.{Flown}
use Rattle.air_frames.specs.declared.frame.Heading.{Heading}
use Rattle.air_frames.specs.declared.frame.Heading.TheVariants.{Homeward, Outward}
use Rattle.device_kinds.specs.Kind.{lists}
use Rattle.host_node.specs.declared.attempt.Plan.{Plan}
use Rattle.host_model.specs.After.{is_full}
use Rattle.host_model.specs.Facts.{HostFacts}
use Rattle.host_model.specs.Events.{HostEvent, Drops_no_more, Queues_no_more, Starts}
use Rattle.host_model.specs.State.{node_of}
use Rattle.host_model.specs.Taking.{is_secure}
use Rattle.world_model.specs.Events.{Event, Host_does, May, happens}
use Rattle.world_model.specs.State.{Machine}
use Rattle.proof_answered.specs.proof_calm.proof_traffic.Facts.{one_if}
use Rattle.proof_answered.specs.proof_calm.proof_traffic.OnAir.{on_air}
use Rattle.proof_answered.specs.proof_calm.proof_traffic.OutsideTraffic.{one_outward, outward}
use Rattle.proof_answered.specs.proof_calm.proof_work.proof_walk.Phases.{Phase, Doing, Goes, Moved, Moving, Sleeping, Submitting, Ticking_chip, Ticking_decoder, Ticking_devices, Ticking_host, To_tick, Said_line, Arriving, Giving}
use Rattle.proof_answered.specs.proof_calm.Resting.{IsEffect, IsOfTick, LineAt}
use Rattle.proof_answered.specs.proof_calm.Tied.{At_chip, Called, Nowhere, On_way, Tied, TieAt, TieOf, ends_of, on_line, unheard}
use Rattle.proof_answered.specs.Listening.{HasListener}
use Rattle.proof_answered.specs.Outward.{IsOfSaying}
use Rattle.proof_answered.proofs.Outwards.{awaits_of}
use Rattle.proof_answered.proofs.SleeperAloft.{none_aborted}
use Rattle.proof_answered.proofs.proof_traffic_Parts.{Airs}
use Rattle.proof_messages.specs.Reporting.{TellsPlainly}
use Rattle.proof_in_time.specs.Coming.{WaitsFor}
use Rattle.proof_in_time.specs.InStep.{HasInStep}
use Rattle.proof_in_time.specs.Open.{WaitsParts}
use Rattle.proof_in_time.specs.Openly.{GoOpenly}
use Rattle.proof_in_time.specs.Parts.{AllPlain}
use Rattle.proof_in_time.specs.Plainly.{SpeakPlainly}
use Rattle.proof_in_time.proofs.PartsDue.{due_waits}
use Rattle.proof_in_time.proofs.PartsFlying.{sends_as}
use Rattle.proof_in_time.proofs.PartsGiven.{GivesFirst, GivesWhole}
use Rattle.proof_in_time.proofs.PartsHeard.{SliceLaws}
use Rattle.proof_in_time.proofs.PartsSupplied.{TiedAt}

-- ---- where an attempt starts

abbrev pub StartsIn : Event → Type 0
StartsIn (Host_does (Starts n plan more payload)) = Unit {0}
StartsIn event = ⊥

effect_starts : (event : Event) → IsEffect event → StartsIn event → ⊥
effect_starts (Host_does (Starts n plan more payload)) effect starts = absurd effect
effect_starts event effect starts = absurd starts

tick_starts : (event : HostEvent) → IsOfTick event → StartsIn (Host_does event) → ⊥
tick_starts (Starts n plan more payload) tick starts = absurd tick
tick_starts event tick starts = absurd starts

no_more_starts : (b : Bool) (n : ℕ) → StartsIn (Host_does (if b then Drops_no_more n else Queues_no_more n)) → ⊥
no_more_starts true n starts = absurd starts
no_more_starts false n starts = absurd starts

abbrev pub SubmitsAt : Phase → Phase → Type 0
SubmitsAt here next = (passes : ℕ) × ((ticks : ℕ) × ((here ≡ Submitting passes ticks) × (next ≡ Submitting passes ticks)))

pub submits_at : (here next : Phase) (m : Machine) (event : Event) → Goes here m event next → LineAt here m → StartsIn event → SubmitsAt here next
submits_at (Said_line line) next m event (is, to) at starts = absurd (subst StartsIn is starts)
submits_at (Doing line (first ∷ left)) next m event (is, to) at starts = absurd (effect_starts first at.0.0 (subst StartsIn is starts))
submits_at (To_tick (suc ticks)) next m event (is, to) at starts = absurd (subst StartsIn is starts)
submits_at (Arriving (suc frames) ticks) next m event (drawn, route, is, to) at starts = absurd (subst StartsIn is starts)
submits_at (Giving (suc results) ticks) next m event (route, is, to) at starts = absurd (subst StartsIn is starts)
submits_at (Ticking_devices place (suc count) ticks) next m event (drawn, route, is, to) at starts = absurd (subst StartsIn is starts)
submits_at (Ticking_chip ticks) next m event (is, to) at starts = absurd (subst StartsIn is starts)
submits_at (Ticking_decoder ticks) next m event (is, to) at starts = absurd (subst StartsIn is starts)
submits_at (Ticking_host (first ∷ events) ticks) next m event (is, to) at starts = absurd (tick_starts first at.0.0 (subst StartsIn is starts))
submits_at (Sleeping passes ticks) next m event (k, wants, is, to) at starts = absurd (no_more_starts (is_full m.host.state) k (subst StartsIn is starts))
submits_at (Submitting passes ticks) next m event (asked, next_is, is, to) at starts = (passes, (ticks, (refl, to)))
submits_at (Moving passes ticks) next m event (rest, ways, is, to) at starts = absurd (subst StartsIn is starts)
submits_at (Moved b passes ticks) next m event (rest, items, done, is, to) at starts = absurd (subst StartsIn is starts)
submits_at here next m event goes at starts = absurd goes

-- ---- nothing of the host is on its way then

-- no request is under way, so none flies
pub tie_idle : (counted : Bool) (m : Machine) (asking : List FrameParts) → TieOf counted m asking → m.host.state.requests.under_way ≡ None → m.outside.outer.chip.state.sending ≡ None
tie_idle counted m asking tie none = by tie.tied
  where
    by : Tied counted (ends_of m.host.state m.outside.outer.chip.state) (unheard m.outside.outer) asking → m.outside.outer.chip.state.sending ≡ None
    by (Nowhere is) = is.idle
    by (On_way u of fresh is) = absurd (let wrong : None ≡ Some u = sym none ∙ of.under_way in cc)
    by (At_chip u of fresh is) = absurd (let wrong : None ≡ Some u = sym none ∙ of.under_way in cc)
    by (Called u of fresh is) = absurd (let wrong : None ≡ Some u = sym none ∙ of.under_way in cc)

none_under : (m : Machine) (n : ℕ) (plan : Plan) (more : Bool) (payload : List ℕ) → May m (Host_does (Starts n plan more payload)) → m.host.state.requests.under_way ≡ None
unfolding May
none_under m n plan more payload may = may.0.0.free.none_under_way

-- so each frame that is on the air is of a device
pub all_plain : (these : List Bool) (flights : List Flown) → AllByRecursion (IsOfSaying these TellsPlainly) flights → outward flights ≡ 0 → AllPlain these flights
all_plain these [] says none = tt
all_plain these (frame ∷ flights) says none = by frame.heading refl (λ rest. all_plain these flights says.1 rest)
  where
    by : (heading : Heading) → frame.heading ≡ heading → (outward flights ≡ 0 → AllPlain these flights) → AllPlain these (frame ∷ flights)
    by Homeward is more =
        let home : 0 + outward flights ≡ 0 = ap (λ (h : Heading). one_outward h + outward flights) (sym is) ∙ none in
        let rest : outward flights ≡ 0 = omega (arith, home) in
        (record { of = says.0.0; home = is; plain = says.0.1 is }, more rest)
    by Outward is more = absurd (let some : 1 + outward flights ≡ 0 = ap (λ (h : Heading). one_outward h + outward flights) (sym is) ∙ none in omega (arith, some))

module _ (airs : Airs) (laws : SliceLaws) (these : List Bool) (n : ℕ) (marked : is_marked these n ≡ true) (within : n < 233) (node : IsNode n) where
  -- it gives its message whole, or in segments
  abbrev pub BegunAs : (next : Phase) (m : Machine) (event : Event) → HostFacts m.host.state → GoOpenly these m.host.state.commands → Plan → List ℕ → Type 0
  BegunAs next m event facts go plan payload =
      (WaitsFor false n 23 next (happens m event) × GivesWhole these m.host.state n facts go marked plan payload) ⊎ (WaitsParts these n 23 next (happens m event) × GivesFirst these m.host.state n facts go marked plan payload)

  pub begins_of : (here next : Phase) (m : Machine) (event : Event) → Goes here m event next → May m event → (tied : TiedAt these here m) → (go : GoOpenly these m.host.state.commands) → SpeakPlainly these m → (step : HasInStep n m) → lists step.device.kind 0x55 ≡ true
      → HasListener n m.outside.devices → is_secure (node_of m.host.state n).classes ≡ false → (plan : Plan) (more : Bool) (payload : List ℕ) → event ≡ Host_does (Starts n plan more payload)
      → BegunAs next m event tied.peopled.facts go plan payload
  begins_of here next m event goes may tied go speak step cut listens bare plan more payload is = by (submits_at here next m event goes tied.line (subst StartsIn (sym is) tt))
    where
      there : May m (Host_does (Starts n plan more payload))
      there = subst (May m) is may

      plain : (passes ticks : ℕ) → here ≡ Submitting passes ticks → AllPlain these (on_air m.outside.outer.air.frames)
      plain passes ticks here_is =
          let tie : TieOf true m (on_line m.host.state.side.turn) = subst (λ (q : Phase). TieAt q m) here_is tied.tie in
          let sends = sends_as m (awaits_of here m tied.awaits) tied.routed (none_aborted here m tied.line) in
          let idle : m.outside.outer.chip.state.sending ≡ None = tie_idle true m (on_line m.host.state.side.turn) tie (none_under m n plan more payload there) in
          all_plain these (on_air m.outside.outer.air.frames) speak.frames (sym sends ∙ ap (λ (s : Option Sending). one_if (is_some s)) idle)

      by : SubmitsAt here next → BegunAs next m event tied.peopled.facts go plan payload
      by (passes, (ticks, (here_is, next_is))) =
          subst (λ (q : Phase). BegunAs q m event tied.peopled.facts go plan payload) (sym next_is)
          (subst (λ (e : Event). BegunAs (Submitting passes ticks) m e tied.peopled.facts go plan payload) (sym is)
          (due_waits airs laws these n marked within node passes ticks m plan more payload there tied.peopled.facts go step cut listens (plain passes ticks here_is) speak.pending bare))
