-- What a frame of a device that arrives brings to the chip: its payload, behind what the chip has for the host.
use Rattle.std.proofs.Common.{◌≡◌, ◌≤◌, ℕ, ◌+◌, ◌&&◌, nat_le, Bool, true, false, if◌then◌else◌, List, [], ◌∷◌, ◌++◌, length, refl, sym, ap, ◌∙◌, subst, suc, arith}
use Rattle.std.proofs.lemmas.Bool.Decides.{nat_tests}
use Rattle.std.specs.Prelude.{Option, Some, None}
use Rattle.serial_frame.specs.Frame.{FrameParts}
use Rattle.route_table.specs.declared.route.Route.{Route}
use Rattle.chip_functions.specs.declared.notice.Notice.TheVariants.{ApplicationCommandHandler}
use Rattle.chip_sim.specs.Answers.{notice_frame}
use Rattle.chip_sim.specs.Events.{Heard as chip_hears}
use Rattle.chip_sim.specs.State.{ChipState}
use Rattle.chip_sim.specs.Waiting.{is_full}
use Rattle.air_frames.specs.Flown.{Flown}
use Rattle.air_frames.specs.Frames.{next_of}
use Rattle.air_frames.specs.declared.frame.Heading.{Heading}
use Rattle.air_frames.specs.declared.frame.Heading.TheVariants.{Homeward}
use Rattle.mesh_sim.specs.Fates.{Mesh, dead_hop_of, fate_by, listener_of}
use Rattle.mesh_sim.specs.Steps.{arrival_outs, arrival_outs_as, mesh_after, mesh_outs}
use Rattle.mesh_sim.specs.Steps as mesh
use Rattle.mesh_sim.specs.declared.fate.Fate.{Fate}
use Rattle.mesh_sim.specs.declared.fate.Fate.TheVariants.{Lost, AtChip}
use Rattle.outside_model.specs.Air.{deals, to_chip}
use Rattle.outside_model.specs.Chip.{chip_does}
use Rattle.outside_model.specs.Events.{Arrives, mesh_of, outcome}
use Rattle.outside_model.specs.State.{OuterState, Outside, each, silent}
use Rattle.world_model.specs.Events.{Event, Outside_does, happens}
use Rattle.world_model.specs.State.{Machine}
use Rattle.proof_calm.specs.proof_work.proof_walk.Phases.{Phase, Said_line, Doing, To_tick, Arriving, Giving, Ticking_devices, Ticking_chip, Ticking_decoder, Ticking_host, Sleeping, Submitting, Moving, Moved, Goes}
use Rattle.proof_calm.specs.Live.{IsLive}
use Rattle.proof_calm.specs.Resting.{IsEffect, IsGiven, LineAt}
use Rattle.proof_calm.specs.Tied.{unheard}
use Rattle.proof_calm.proofs.Pending.{IsServed, has_room, has_served, has_unheard, line_more, line_of}
use Rattle.proof_calm.proofs.Times.{does_chip}
use Rattle.proof_answered.proofs.Unheard.{chip_is}

-- ---- the chip is given a payload

home_so : (lost : Bool) (dead : Option (ℕ × ℕ)) (heading : Heading) (listener : Option ℕ) → lost ≡ false → dead ≡ None → heading ≡ Homeward → (if lost then Lost else fate_by dead heading listener) ≡ AtChip
home_so lost dead heading listener kept live home = rw kept (rw live (rw home refl))

short_fits : (payload : List ℕ) → 1 ≤ length payload → length payload ≤ 46 → (nat_le 1 (length payload) && nat_le (length payload) 46) ≡ true
short_fits payload some few = both (nat_le 1 (length payload)) (nat_le (length payload) 46) (grind (arith, nat_tests)) (grind (arith, nat_tests))
  where
    both : (a b : Bool) → a ≡ true → b ≡ true → (a && b) ≡ true
    both a b one two = rw (one, two) refl

abbrev notice_of : ℕ → List ℕ → FrameParts
notice_of from payload = notice_frame (ApplicationCommandHandler 0 from payload)

-- it has that behind what it had
abbrev HasMore : OuterState → FrameParts → ChipState → Type 0
HasMore o frame s = line_of s.port ≡ line_of o.chip.state.port ++ frame ∷ []

chip_more : (o : OuterState) (from : ℕ) (payload : List ℕ) → 1 ≤ length payload → length payload ≤ 46 → IsServed o.chip.state.port → is_full o.chip.state.port.waiting ≡ false
    → HasMore o (notice_of from payload) (to_chip o from payload).outer.chip.state
chip_more o from payload some few served room =
    subst (λ (b : Bool). HasMore o (notice_of from payload) (if b then chip_does o (chip_hears from payload) else silent o).outer.chip.state) (sym (short_fits payload some few))
    (subst (HasMore o (notice_of from payload)) (sym (does_chip o (chip_hears from payload))) (line_more o.chip.state.port (notice_of from payload) served room))

home_more : (w : Outside) (drawn : List ℕ) (route : Option Route) (frame : Flown) → next_of w.outer.air.frames ≡ Some frame → frame.heading ≡ Homeward → IsLive w.outer.air.network frame → 1 ≤ length frame.payload → length frame.payload ≤ 46
    → IsServed w.outer.chip.state.port → is_full w.outer.chip.state.port.waiting ≡ false → HasMore w.outer (notice_of frame.node frame.payload) (outcome w (Arrives drawn route)).outer.chip.state
unfolding outcome mesh_outs
home_more w drawn route frame next home live some few served room =
    subst (λ (f : Option Flown). HasMore o (notice_of frame.node frame.payload) (each (deals later.devices) o (arrival_outs (mesh_of w) f drawn route)).outer.chip.state) (sym next)
    (subst (λ (fate : Fate). HasMore o (notice_of frame.node frame.payload) (each (deals later.devices) o (arrival_outs_as (mesh_of w) (w.outer.air.frames.landed + 1) frame fate drawn route)).outer.chip.state)
    (sym (home_so frame.lost (dead_hop_of w.outer.air.network frame) frame.heading (listener_of frame.node w.devices) live.0 live.1 home)) (chip_more o frame.node frame.payload some few served room))
  where
    later : Mesh
    later = mesh_after (mesh_of w) (mesh.Arrives drawn route)

    o : OuterState
    o = record w.outer { air = later.air }

-- ---- so it is of what the host has not judged

pub home_comes : (m : Machine) (drawn : List ℕ) (route : Option Route) (frame : Flown) → next_of m.outside.outer.air.frames ≡ Some frame → frame.heading ≡ Homeward → IsLive m.outside.outer.air.network frame → 1 ≤ length frame.payload
    → length frame.payload ≤ 46 → IsGiven 0 m → IsGiven 0 (happens m (Outside_does (Arrives drawn route))) → length m.outside.outer.chip.state.port.waiting ≤ 31
    → unheard (happens m (Outside_does (Arrives drawn route))).outside.outer ≡ unheard m.outside.outer ++ notice_frame (ApplicationCommandHandler 0 frame.node frame.payload) ∷ []
home_comes m drawn route frame next home live some few given later room =
    let more = home_more m.outside drawn route frame next home live some few (has_served 0 m.outside.outer given.has) (has_room m.outside.outer.chip.state.port.waiting room) in
    has_unheard 0 (happens m (Outside_does (Arrives drawn route))).outside.outer later.has
    ∙ (ap (λ (s : ChipState). line_of s.port) (chip_is m (Arrives drawn route))
    ∙ (more ∙ ap (λ (fs : List FrameParts). fs ++ notice_of frame.node frame.payload ∷ []) (sym (has_unheard 0 m.outside.outer given.has))))

-- ---- a frame arrives in its part of a tick alone

pub record IsArriving (here next : Phase) (m : Machine) : Type 0 where
  pub frames : ℕ
  pub ticks : ℕ
  pub at : here ≡ Arriving (suc frames) ticks
  pub to : next ≡ Arriving frames ticks

module _ (drawn : List ℕ) (route : Option Route) where
  pub at_arrival : (here next : Phase) (m : Machine) (event : Event) → Goes here m event next → LineAt here m → event ≡ Outside_does (Arrives drawn route) → IsArriving here next m
  at_arrival (Said_line line) next m event (is, to) at arrives = absurd (let no = sym is ∙ arrives in cc)
  at_arrival (Doing line (first ∷ left)) next m event (is, to) at arrives = absurd (subst IsEffect (sym is ∙ arrives) at.0.0)
  at_arrival (To_tick (suc ticks)) next m event (is, to) at arrives = absurd (let no = sym is ∙ arrives in cc)
  at_arrival (Arriving (suc frames) ticks) next m event (other, way, is, to) at arrives = record { frames = frames; ticks = ticks; at = refl; to = to }
  at_arrival (Giving (suc results) ticks) next m event (way, is, to) at arrives = absurd (let no = sym is ∙ arrives in cc)
  at_arrival (Ticking_devices place (suc count) ticks) next m event (other, way, is, to) at arrives = absurd (let no = sym is ∙ arrives in cc)
  at_arrival (Ticking_chip ticks) next m event (is, to) at arrives = absurd (let no = sym is ∙ arrives in cc)
  at_arrival (Ticking_decoder ticks) next m event (is, to) at arrives = absurd (let no = sym is ∙ arrives in cc)
  at_arrival (Ticking_host (first ∷ events) ticks) next m event (is, to) at arrives = absurd (let no = sym is ∙ arrives in cc)
  at_arrival (Sleeping passes ticks) next m event (node, wants, is, to) at arrives = absurd (let no = sym is ∙ arrives in cc)
  at_arrival (Submitting passes ticks) next m event (asked, next_is, is, to) at arrives = absurd (let no = sym is ∙ arrives in cc)
  at_arrival (Moving passes ticks) next m event (rest, ways, is, to) at arrives = absurd (let no = sym is ∙ arrives in cc)
  at_arrival (Moved b passes ticks) next m event (rest, items, done, is, to) at arrives = absurd (let no = sym is ∙ arrives in cc)
  at_arrival here next m event goes at arrives = absurd goes
