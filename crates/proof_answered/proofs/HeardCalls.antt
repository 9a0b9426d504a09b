-- Where each frame of the host that arrives is heard, the call for each payload says so, wherever it is on its way to the host.
use Rattle.std.proofs.Common.{◌≡◌, ℕ, ◌+◌, ◌-◌, ◌==◌, ◌&&◌, nat_le, nat_lt, Bool, true, false, if◌then◌else◌, inl, inr, List, [], ◌∷◌, ◌++◌, drop, length, refl, sym, ap, ◌∙◌, subst}
use Rattle.std.specs.Prelude.{◌⊎◌, Option, Some, None, slice_get}
use Rattle.std.specs.Option.{unwrap_or}
use Rattle.std.specs.List.{AllByRecursion}
use Rattle.zw_text.specs.declared.entry.Entry.{Entry}
use Rattle.zw_text.specs.declared.entry.Entry.TheVariants as entry
use Rattle.serial_frame.specs.Frame.{FrameParts}
use Rattle.route_table.specs.declared.route.Route.{Route}
use Rattle.chip_functions.specs.Notice.{status_code, status_of}
use Rattle.chip_functions.specs.declared.notice.Notice.TheVariants.{ApplicationCommandHandler, SendData}
use Rattle.chip_functions.specs.declared.notice.TransmitStatus.{TransmitStatus}
use Rattle.chip_functions.specs.declared.notice.TransmitStatus.TheVariants.{CompleteOk, NoAck, Fail, NotIdle, NoRoute as no_route_status}
use Rattle.chip_sim.specs.Answers.{notice_frame}
use Rattle.chip_sim.specs.Events.{Heard as chip_hears, Done, ended}
use Rattle.chip_sim.specs.Requests.{callback_frame}
use Rattle.chip_sim.specs.State.{ChipState}
use Rattle.chip_sim.specs.declared.out.Sending.{Sending}
use Rattle.air_frames.specs.Flown.{Flown}
use Rattle.air_frames.specs.Frames.{next_of}
use Rattle.air_frames.specs.declared.frame.Heading.{Heading}
use Rattle.air_frames.specs.declared.frame.Heading.TheVariants.{Outward, Homeward}
use Rattle.device_sim.specs.Event.{Hears}
use Rattle.device_sim.specs.State.{State}
use Rattle.mesh_sim.specs.Fates.{Mesh, fate_of}
use Rattle.mesh_sim.specs.Steps as mesh
use Rattle.mesh_sim.specs.Steps.{MayArriveIf, MayHappen, acknowledged, arrival_outs_as, done_of, landed, mesh_after, mesh_outs, outs_at}
use Rattle.mesh_sim.specs.declared.event.AirEvent.{AirEvent}
use Rattle.mesh_sim.specs.declared.event.AirEvent.TheVariants as air_event
use Rattle.mesh_sim.specs.declared.fate.Fate.{Fate}
use Rattle.mesh_sim.specs.declared.fate.Fate.TheVariants.{Lost, Dead, Missed, AtChip, AtDevice}
use Rattle.outside_model.specs.State.{OuterState, Outside, each, silent}
use Rattle.outside_model.specs.Air.{deals, to_chip}
use Rattle.outside_model.specs.Chip.{chip_does}
use Rattle.outside_model.specs.Results.{call_back, frame_ends, no_routes, owes_call}
use Rattle.outside_model.specs.Events.{Arrives, mesh_of, outcome, May as MayOutside}
use Rattle.world_model.specs.State.{Machine}
use Rattle.world_model.specs.Events.{Event, Outside_does, happens, entries, May}
use Rattle.proof_calm.specs.proof_work.Phases.{AsksNothing}
use Rattle.proof_calm.specs.proof_work.proof_walk.Phases.{Phase, Goes}
use Rattle.proof_calm.specs.proof_work.proof_walk.Walk.{WalkWhere}
use Rattle.proof_calm.proofs.Times.{does_chip}
use Rattle.proof_calm.proofs.Arrivals.{IsTold, told_then}
use Rattle.proof_calm.proofs.proof_traffic_Parts.{Airs}
use Rattle.proof_calm.specs.Calls.{answer_taken}
use Rattle.proof_calm.specs.Resting.{IsGiven, LineRests}
use Rattle.proof_calm.specs.Routed.{IsRouted}
use Rattle.proof_calm.specs.Tied.{unheard, unheard_by}
use Rattle.proof_calm.proofs.Counting.{outs_all}
use Rattle.proof_calm.proofs.Pending.{line_of}
use Rattle.proof_calm.proofs.Unmarked.{nothing_asked}
use Rattle.proof_calm.proofs.Routed.{none_lead}
use Rattle.proof_answered.specs.Few.{IsStretched, KnowFew, Knows}
use Rattle.proof_answered.specs.Heard.{AllSayHeard, IsHeardFor, IsHeardThen, KnowHeard, SaysHeard}
use Rattle.proof_answered.specs.Outward.{IsSentTo}
use Rattle.proof_answered.proofs.Unheard.{all_behind, all_piled, chip_is, event_says, given_says, of_port, on_port}
use Rattle.proof_answered.proofs.Walking.{stretched_before}

-- ---- frames

answer_heard : SaysHeard answer_taken
answer_heard id status e = let no = ap (λ (f : FrameParts). f.kind) e in absurd cc

payload_heard : (n : ℕ) (payload : List ℕ) → SaysHeard (notice_frame (ApplicationCommandHandler 0 n payload))
payload_heard n payload id status e = let no = ap (λ (f : FrameParts). f.func) e in absurd cc

ok_heard : (sent : Sending) → SaysHeard (callback_frame sent CompleteOk)
ok_heard sent id status e = by status code
  where
    code : status_code CompleteOk ≡ status_code status
    code = let bodies : sent.callback_id ∷ status_code CompleteOk ∷ [] ≡ id ∷ status_code status ∷ [] = ap (λ (f : FrameParts). f.body) e in cc

    by : (s : TransmitStatus) → 0 ≡ status_code s → s ≡ CompleteOk
    by CompleteOk is = refl
    by NoAck is = absurd cc
    by Fail is = absurd cc
    by NotIdle is = absurd cc
    by no_route_status is = absurd cc

-- the one call that is on its way
pub called_ok : (before : List FrameParts) (id : ℕ) (status : TransmitStatus) (behind : List FrameParts) → AllSayHeard (before ++ notice_frame (SendData id status) ∷ behind) → status ≡ CompleteOk
called_ok [] id status behind all = all.0 id status refl
called_ok (frame ∷ before) id status behind all = called_ok before id status behind all.1

-- ---- the chip is given something

abbrev PortHeard : ChipState → Type 0
PortHeard s = AllSayHeard (line_of s.port)

ended_heard : (s : ChipState) (sending : Option Sending) → PortHeard s → PortHeard (ended sending s CompleteOk)
ended_heard s None all = all
ended_heard s (Some sent) all = given_says SaysHeard AllSayHeard (all_piled SaysHeard) s (callback_frame sent CompleteOk) all (ok_heard sent)

call_heard : (o : OuterState) → PortHeard o.chip.state → PortHeard (call_back o CompleteOk).outer.chip.state
call_heard o all = by (owes_call o.chip.state)
  where
    p : OuterState
    p = record o { calls = drop 1 o.calls }

    done : (b : Bool) → PortHeard (if b then ended o.chip.state.sending o.chip.state CompleteOk else record o.chip.state { aborted = o.chip.state.aborted - 1 })
    done true = ended_heard o.chip.state o.chip.state.sending all
    done false = all

    by : (b : Bool) → PortHeard (if b then chip_does p (Done CompleteOk) else silent p).outer.chip.state
    by true = subst PortHeard (sym (does_chip p (Done CompleteOk))) (done (o.chip.state.aborted == 0))
    by false = all

ends_heard : (o : OuterState) → IsRouted o → PortHeard o.chip.state → PortHeard (frame_ends o 0 None).outer.chip.state
ends_heard o routed all =
    subst (λ (count : ℕ). PortHeard (call_back (no_routes count o).outer (unwrap_or (status_of 0) Fail)).outer.chip.state) (sym (none_lead o.calls routed.of_frames)) (call_heard o all)

to_chip_heard : (o : OuterState) (from : ℕ) (payload : List ℕ) → PortHeard o.chip.state → PortHeard (to_chip o from payload).outer.chip.state
to_chip_heard o from payload all = by (nat_le 1 (length payload) && nat_le (length payload) 46)
  where
    by : (b : Bool) → PortHeard (if b then chip_does o (chip_hears from payload) else silent o).outer.chip.state
    by true = subst PortHeard (sym (does_chip o (chip_hears from payload))) (given_says SaysHeard AllSayHeard (all_piled SaysHeard) o.chip.state (notice_frame (ApplicationCommandHandler 0 from payload)) all (payload_heard from payload))
    by false = all

-- ---- a frame arrives

outs_told : (at : Mesh) (device : Option State) (number node : ℕ) (route : Option Route) (payload drawn : List ℕ) → AllByRecursion IsTold (outs_at at device number node route (Hears payload drawn))
outs_told at device number node route payload drawn = outs_all IsTold (λ frame. tt) (λ changed place. tt) (λ frame from to way told. tt) at device number node route (Hears payload drawn)

fate_heard : (devices : List State) (o : OuterState) (at : Mesh) (number : ℕ) (frame : Flown) (fate : Fate) (drawn : List ℕ) (route : Option Route) → (frame.heading ≡ Homeward) ⊎ ((place : ℕ) × (fate ≡ AtDevice place))
    → at.air.ack_losing ≡ 0 → IsRouted o → PortHeard o.chip.state → PortHeard (each (deals devices) o (arrival_outs_as at number frame fate drawn route)).outer.chip.state
fate_heard devices o at number frame Lost drawn route (inl home) kept routed all = subst (λ (h : Heading). PortHeard (each (deals devices) o (air_event.Lost number ∷ done_of h number 1 None)).outer.chip.state) (sym home) all
fate_heard devices o at number frame Lost drawn route (inr (place, is)) kept routed all = absurd cc
fate_heard devices o at number frame (Dead from to) drawn route (inl home) kept routed all =
    subst (λ (h : Heading). PortHeard (each (deals devices) o (air_event.Unheard number ∷ done_of h number 1 (Some (from, to)))).outer.chip.state) (sym home) all
fate_heard devices o at number frame (Dead from to) drawn route (inr (place, is)) kept routed all = absurd cc
fate_heard devices o at number frame Missed drawn route (inl home) kept routed all = subst (λ (h : Heading). PortHeard (each (deals devices) o (air_event.Unheard number ∷ done_of h number 1 None)).outer.chip.state) (sym home) all
fate_heard devices o at number frame Missed drawn route (inr (place, is)) kept routed all = absurd cc
fate_heard devices o at number frame AtChip drawn route either kept routed all = to_chip_heard o frame.node frame.payload all
fate_heard devices o at number frame (AtDevice place) drawn route either kept routed all =
    let heard : Mesh = record at { air = landed (acknowledged at.air) } in
    let told : List AirEvent = outs_at heard (slice_get at.devices place) number frame.node route (Hears frame.payload drawn) in
    let before = told_then devices o told (air_event.Done number (mesh.status_of at.air) None ∷ []) (outs_told heard (slice_get at.devices place) number frame.node route frame.payload drawn) in
    subst (λ (p : OuterState). PortHeard p.chip.state) (sym before)
    (subst (λ (count : ℕ). PortHeard (frame_ends o (if nat_lt 0 count then 1 else 0) None).outer.chip.state) (sym kept) (ends_heard o routed all))

arrives_heard : (w : Outside) (frame : Flown) (drawn : List ℕ) (route : Option Route) → next_of w.outer.air.frames ≡ Some frame
    → (frame.heading ≡ Homeward) ⊎ ((place : ℕ) × (fate_of w.outer.air.network w.devices frame ≡ AtDevice place)) → w.outer.air.ack_losing ≡ 0 → IsRouted w.outer → PortHeard w.outer.chip.state
    → PortHeard (outcome w (Arrives drawn route)).outer.chip.state
unfolding outcome mesh_outs
arrives_heard w frame drawn route next either kept routed all =
    subst (λ (f : Option Flown). PortHeard (each (deals later.devices) (record w.outer { air = later.air }) (mesh.arrival_outs (mesh_of w) f drawn route)).outer.chip.state) (sym next)
    (fate_heard later.devices (record w.outer { air = later.air }) (mesh_of w) (w.outer.air.frames.landed + 1) frame (fate_of w.outer.air.network w.devices frame) drawn route either kept
    (record { none_due = routed.none_due; of_frames = routed.of_frames }) all)
  where
    later : Mesh
    later = mesh_after (mesh_of w) (mesh.Arrives drawn route)

either_heading : (w : Outside) (frame : Flown) → ((frame.heading ≡ Outward) → (place : ℕ) × (fate_of w.outer.air.network w.devices frame ≡ AtDevice place))
    → (frame.heading ≡ Homeward) ⊎ ((place : ℕ) × (fate_of w.outer.air.network w.devices frame ≡ AtDevice place))
either_heading w frame heard = by frame.heading refl
  where
    by : (heading : Heading) → frame.heading ≡ heading → (frame.heading ≡ Homeward) ⊎ ((place : ℕ) × (fate_of w.outer.air.network w.devices frame ≡ AtDevice place))
    by Homeward is = inl is
    by Outward is = inr (heard is)

frame_heard : (m : Machine) (drawn : List ℕ) (route : Option Route) → May m (Outside_does (Arrives drawn route)) → IsHeardThen m (Outside_does (Arrives drawn route)) → IsGiven 0 m → IsGiven 0 (happens m (Outside_does (Arrives drawn route)))
    → IsRouted m.outside.outer → AllSayHeard (unheard m.outside.outer) → AllSayHeard (unheard (happens m (Outside_does (Arrives drawn route))).outside.outer)
unfolding May MayOutside MayHappen
frame_heard m drawn route may heard given later routed all =
    of_port SaysHeard AllSayHeard (all_piled SaysHeard) 0 (happens m (Outside_does (Arrives drawn route))).outside.outer later.has (subst PortHeard (sym (chip_is m (Arrives drawn route))) (by (next_of m.outside.outer.air.frames) refl may.1.0))
  where
    by : (frame : Option Flown) → next_of m.outside.outer.air.frames ≡ frame → MayArriveIf (mesh_of m.outside) frame route → PortHeard (outcome m.outside (Arrives drawn route)).outer.chip.state
    by None next may_arrive = absurd may_arrive
    by (Some frame) next may_arrive =
        arrives_heard m.outside frame drawn route next (either_heading m.outside frame (heard frame next)) given.unmarked.acknowledgements routed (on_port SaysHeard AllSayHeard (all_piled SaysHeard) 0 m.outside.outer given.has all)

-- ---- the walk

module _ (air : Airs) where
  module _ (these : List Bool) (few : WalkWhere (IsSentTo these) AsksNothing (KnowFew these)) where
    does_all : (here next : Phase) (past : List Entry) (m : Machine) (event : Event) → Goes here m event next → May m event → IsHeardFor these m event → IsStretched (past ++ entries m event) → KnowHeard these here past m
        → Knows these next (past ++ entries m event) (happens m event) × AllSayHeard (unheard (happens m event).outside.outer)
    does_all here next past m event goes may heard is known =
        let before = stretched_before past (entries m event) is in
        let at = known before in
        let tied = at.0.tied before.quiet in
        let later = (few.event here next past m event goes may heard.0 (λ stretched. at.0)).1 is in
        let next_tied = later.tied is.quiet in (
          later,
          event_says SaysHeard AllSayHeard (all_piled SaysHeard) air answer_heard here next m event (λ judged. all_behind SaysHeard) goes may (tied.0, tied.2, tied.3, tied.6)
              (λ drawn route is given later_given. frame_heard m drawn route (subst (May m) is may) (subst (IsHeardThen m) is heard.1) given later_given tied.3 at.1) tied.1 at.1 next_tied.0,
        )

    pub heard_walk : WalkWhere (IsHeardFor these) AsksNothing (KnowHeard these)
    heard_walk = record {
      said = λ past m words line read known. (
        tt,
        λ is. let at = known (stretched_before past (entry.Said words ∷ []) is) in ((few.said past m words line read (λ stretched. at.0)).1 is, at.1),
      );
      event = λ here next past m event goes may heard known. (nothing_asked past (entries m event), λ is. does_all here next past m event goes may heard is known);
      turn = λ here next past m turns known is. let at = known is in (few.turn here next past m turns (λ stretched. at.0) is, at.1);
    }

-- where the line rests, there is none
pub rests_heard : (m : Machine) → LineRests m → AllSayHeard (unheard m.outside.outer)
rests_heard m line =
    let none : unheard m.outside.outer ≡ [] = ap (λ (bs : List ℕ). unheard_by bs m.outside.outer.chip.state.port) line.at_chip.down_bytes ∙ line.at_chip.waiting in
    subst AllSayHeard (sym none) tt
