-- What frames that arrive, results and ticks make of a line on which the host has no frame: the chip has more frames for the host, the first of them on its way.
use Rattle.std.proofs.Common.{◌≡◌, ◌≤◌, ℕ, zero, suc, ◌-◌, ◌==◌, ◌&&◌, Bool, true, false, if◌then◌else◌, nat_le, List, [], ◌∷◌, ◌++◌, length, drop, refl, sym, ap, ◌∙◌, subst, arith, append-nil}
use Rattle.std.proofs.lemmas.List.{length_push}
use Rattle.std.specs.Prelude.{Option, Some, None}
use Rattle.std.specs.Option.{unwrap_or, is_some}
use Rattle.serial_frame.specs.Frame.{FrameParts}
use Rattle.serial_frame.specs.Items.{unit_text}
use Rattle.serial_frame.specs.declared.unit.Unit.TheVariants.{Framed}
use Rattle.serial_link.specs.declared.turn.Turn.{Turn}
use Rattle.serial_link.specs.declared.turn.Turn.TheVariants.{Idle, Copied}
use Rattle.route_table.specs.declared.route.Route.{Route}
use Rattle.route_table.specs.Network.{linked}
use Rattle.zw_base.specs.declared.profile.Profile.{Profile}
use Rattle.chip_functions.specs.Notice.{status_of}
use Rattle.chip_functions.specs.declared.notice.TransmitStatus.{TransmitStatus}
use Rattle.chip_functions.specs.declared.notice.TransmitStatus.TheVariants.{Fail, NoRoute as no_route_status}
use Rattle.chip_sim.specs.State.{ChipState}
use Rattle.chip_sim.specs.Waiting.{PortState, is_full, queued, queued_at, queued_outs, queued_outs_at}
use Rattle.chip_sim.specs.Requests.{given, callback_frame, closed}
use Rattle.chip_sim.specs.Events.{ChipEvent, Heard as chip_hears, Done, Informed, Forgets, after, ended, ended_outs, May as MayOfChip}
use Rattle.chip_sim.specs.declared.out.Sending.{Sending}
use Rattle.chip_sim.specs.declared.out.ChipOut.{ChipOut}
use Rattle.chip_sim.specs.declared.out.ChipOut.TheVariants.{Full}
use Rattle.device_sim.specs.State.{State}
use Rattle.mesh_sim.specs.declared.event.AirEvent.{AirEvent}
use Rattle.mesh_sim.specs.declared.event.AirEvent.TheVariants as air_event
use Rattle.mesh_sim.specs.Air.{is_joined}
use Rattle.mesh_sim.specs.Fates.{place_of}
use Rattle.mesh_sim.specs.Steps.{AirStep, mesh_after, mesh_outs}
use Rattle.zw_text.specs.declared.entry.Entry.TheVariants as entry
use Rattle.outside_model.specs.declared.waits.Due.{Due}
use Rattle.outside_model.specs.declared.waits.Due.TheVariants.{Info, NoRoute as no_route_due}
use Rattle.outside_model.specs.State.{OuterState, Outside, Outcome, silent, tells, with_chip, each}
use Rattle.outside_model.specs.Chip.{put_out, chip_does}
use Rattle.outside_model.specs.Results.{call_back, device_at, forgets, frame_ends, gives, leading, no_route, no_routes, owes_call, profile_for, without_no_route}
use Rattle.outside_model.specs.Air.{deals, to_chip}
use Rattle.outside_model.specs.Events.{mesh_of, steps}
use Rattle.proof_serial.specs.Chip.{HasFrame, HasFrames}
use Rattle.proof_serial.proofs.Frames.{events_have}
use Rattle.proof_serial.proofs.ChipWays.{owes, fits_for, short_payload}
use Rattle.proof_calm.specs.Marks.{HasNoMarks}
use Rattle.proof_calm.specs.Resting.{HasFor, Nothing, First}
use Rattle.proof_calm.proofs.Unmarked.{does_none}
use Rattle.proof_calm.proofs.Room.{written_bytes}

abbrev Has : OuterState → Type 0
Has = HasFor 0

-- so that nothing is marked
abbrev pub Holds : OuterState → Type 0
Holds o = HasNoMarks o × Has o

-- ---- one frame more

one_more : (frames : List FrameParts) (frame : FrameParts) → length frames ≤ 32 → is_full frames ≡ false → length (frames ++ frame ∷ []) ≤ 32
one_more frames frame few room = let long = length_push frames frame in grind (arith, few, room, long)

-- where the chip is so but for its link, whose port has one frame more
gives_one : (o : OuterState) (s : ChipState) (frame : FrameParts) → HasNoMarks o → Has o → s.port ≡ queued o.chip.state.port frame → HasFrames s.port → s.aborted ≡ 0
    → Has (each put_out (with_chip o s) (queued_outs o.chip.state.port frame)).outer
gives_one o s frame none (Nothing at) port fits kept =
    subst (λ (outs : List ChipOut). Has (each put_out (with_chip o s) outs).outer) (ap (λ (t : Turn). queued_outs_at t o.chip.state.port frame) (sym at.turn_is))
    (First frame [] (omega arith) (record {
      up_bytes = at.up_bytes;
      down_bytes =
          written_bytes o.to_host (Framed frame) none.to_host (subst HasFrame turn fits.turn) (let empty = ap (λ (bs : List ℕ). length bs) at.down_bytes in omega (arith, empty))
          ∙ ap (λ (bs : List ℕ). bs ++ unit_text (Framed frame)) at.down_bytes ∙ sym (append-nil (unit_text (Framed frame)));
      decoder = at.decoder;
      turn_is = turn;
      waiting = ap (λ (p : PortState). p.waiting) (port ∙ idle) ∙ at.waiting;
      fit = fits;
      none_given_up = kept;
    }))
  where
    idle : queued o.chip.state.port frame ≡ queued_at Idle o.chip.state.port frame
    idle = ap (λ (t : Turn). queued_at t o.chip.state.port frame) at.turn_is

    turn : s.port.side.turn ≡ Copied frame 1 0
    turn = ap (λ (p : PortState). p.side.turn) (port ∙ idle)
gives_one o s frame none (First first frames few at) port fits kept =
    subst (λ (outs : List ChipOut). Has (each put_out (with_chip o s) outs).outer) (ap (λ (t : Turn). queued_outs_at t o.chip.state.port frame) (sym at.turn_is)) (by (is_full o.chip.state.port.waiting) refl)
  where
    busy : queued o.chip.state.port frame ≡ queued_at (Copied first 1 0) o.chip.state.port frame
    busy = ap (λ (t : Turn). queued_at t o.chip.state.port frame) at.turn_is

    by : (b : Bool) → is_full o.chip.state.port.waiting ≡ b → Has (each put_out (with_chip o s) (if is_full o.chip.state.port.waiting then Full ∷ [] else [])).outer
    by true full =
        let same : s.port ≡ o.chip.state.port = port ∙ busy ∙ ap (λ (b : Bool). if b then o.chip.state.port else record { side = o.chip.state.port.side; waiting = o.chip.state.port.waiting ++ frame ∷ [] }) full in
        subst (λ (b : Bool). Has (each put_out (with_chip o s) (if b then Full ∷ [] else [])).outer) (sym full)
        (First first frames few (record {
          up_bytes = at.up_bytes;
          down_bytes = at.down_bytes;
          decoder = at.decoder;
          turn_is = ap (λ (p : PortState). p.side.turn) same ∙ at.turn_is;
          waiting = ap (λ (p : PortState). p.waiting) same ∙ at.waiting;
          fit = fits;
          none_given_up = kept;
        }))
    by false room =
        let more : s.port ≡ record { side = o.chip.state.port.side; waiting = o.chip.state.port.waiting ++ frame ∷ [] } =
        port ∙ busy ∙ ap (λ (b : Bool). if b then o.chip.state.port else record { side = o.chip.state.port.side; waiting = o.chip.state.port.waiting ++ frame ∷ [] }) room in
        let free : is_full frames ≡ false = ap is_full (sym at.waiting) ∙ room in
        subst (λ (b : Bool). Has (each put_out (with_chip o s) (if b then Full ∷ [] else [])).outer) (sym room)
        (First first (frames ++ frame ∷ []) (one_more frames frame few free) (record {
          up_bytes = at.up_bytes;
          down_bytes = at.down_bytes;
          decoder = at.decoder;
          turn_is = ap (λ (p : PortState). p.side.turn) more ∙ at.turn_is;
          waiting = ap (λ (p : PortState). p.waiting) more ∙ ap (λ (fs : List FrameParts). fs ++ frame ∷ []) at.waiting;
          fit = fits;
          none_given_up = kept;
        }))

-- where the link is as it was
same_port : (o : OuterState) (s : ChipState) → Has o → s.port ≡ o.chip.state.port → s.aborted ≡ 0 → Has (with_chip o s)
same_port o s (Nothing at) port kept = Nothing (record {
  up_bytes = at.up_bytes;
  down_bytes = at.down_bytes;
  decoder = at.decoder;
  turn_is = ap (λ (p : PortState). p.side.turn) port ∙ at.turn_is;
  waiting = ap (λ (p : PortState). p.waiting) port ∙ at.waiting;
  fit = subst HasFrames (sym port) at.fit;
  none_given_up = kept;
})
same_port o s (First frame frames few at) port kept = First frame frames few (record {
  up_bytes = at.up_bytes;
  down_bytes = at.down_bytes;
  decoder = at.decoder;
  turn_is = ap (λ (p : PortState). p.side.turn) port ∙ at.turn_is;
  waiting = ap (λ (p : PortState). p.waiting) port ∙ at.waiting;
  fit = subst HasFrames (sym port) at.fit;
  none_given_up = kept;
})

has_fit : (o : OuterState) → Has o → HasFrames o.chip.state.port
has_fit o (Nothing at) = at.fit
has_fit o (First frame frames few at) = at.fit

kept_of : (o : OuterState) → Has o → o.chip.state.aborted ≡ 0
kept_of o (Nothing at) = at.none_given_up
kept_of o (First frame frames few at) = at.none_given_up

-- ---- an event of the chip

fit_after : (o : OuterState) (event : ChipEvent) → MayOfChip o.chip.state event → Has o → HasFrames (after o.chip.state event).port
fit_after o event may has = events_have o.chip.state (event ∷ []) (has_fit o has) (may, tt)

hears_has : (o : OuterState) (node : ℕ) (payload : List ℕ) → MayOfChip o.chip.state (chip_hears node payload) → Holds o → Has (chip_does o (chip_hears node payload)).outer
unfolding chip_does
hears_has o node payload may holds = gives_one o (after o.chip.state (chip_hears node payload)) _ holds.0 holds.1 refl (fit_after o (chip_hears node payload) may holds.1) (kept_of o holds.1)

informs_has : (o : OuterState) (node : ℕ) (profile : Option Profile) → MayOfChip o.chip.state (Informed node profile) → Holds o → Has (chip_does o (Informed node profile)).outer
unfolding chip_does
informs_has o node profile may holds = gives_one o (after o.chip.state (Informed node profile)) _ holds.0 holds.1 refl (fit_after o (Informed node profile) may holds.1) (kept_of o holds.1)

ends_has : (o : OuterState) (sending : Option Sending) (status : TransmitStatus) → HasFrames (ended sending o.chip.state status).port → Holds o
    → Has (each put_out (with_chip o (ended sending o.chip.state status)) (ended_outs sending o.chip.state status)).outer
ends_has o None status fits holds = same_port o o.chip.state holds.1 refl (kept_of o holds.1)
ends_has o (Some sending) status fits holds = gives_one o (closed (given o.chip.state (callback_frame sending status)) sending status) (callback_frame sending status) holds.0 holds.1 refl fits (kept_of o holds.1)

done_has : (o : OuterState) (status : TransmitStatus) → MayOfChip o.chip.state (Done status) → Holds o → Has (chip_does o (Done status)).outer
unfolding chip_does
done_has o status may holds = by (o.chip.state.aborted == 0) (fit_after o (Done status) may holds.1)
  where
    by : (b : Bool) → HasFrames (if b then ended o.chip.state.sending o.chip.state status else record o.chip.state { aborted = o.chip.state.aborted - 1 }).port
        → Has (each put_out (with_chip o (if b then ended o.chip.state.sending o.chip.state status else record o.chip.state { aborted = o.chip.state.aborted - 1 }))
        (if b then ended_outs o.chip.state.sending o.chip.state status else [])).outer
    by true fits = ends_has o o.chip.state.sending status fits holds
    by false fits = same_port o (record o.chip.state { aborted = o.chip.state.aborted - 1 }) holds.1 refl (let kept = kept_of o holds.1 in omega (arith, kept))

-- ---- what the chip is given

abbrev Leaves : OuterState → Outcome → Type 0
Leaves o x = Holds o → Holds x.outer

calls_hold : (o : OuterState) (status : TransmitStatus) → Leaves o (call_back o status)
calls_hold o status holds = by (owes_call o.chip.state) refl
  where
    p : OuterState
    p = record o { calls = drop 1 o.calls }

    by : (b : Bool) → owes_call o.chip.state ≡ b → Holds (if b then chip_does p (Done status) else silent p).outer
    by true is = (does_none p (Done status) tt holds.0, done_has p status (owes o.chip.state is) holds)
    by false is = holds

no_route_holds : (o : OuterState) → Leaves o (no_route o)
no_route_holds o holds = calls_hold (record o { due = without_no_route o.due }) no_route_status holds

no_routes_hold : (count : ℕ) (o : OuterState) → Leaves o (no_routes count o)
no_routes_hold zero o holds = holds
no_routes_hold (suc count) o holds = no_routes_hold count (no_route o).outer (no_route_holds o holds)

forgets_hold : (o : OuterState) (dead : Option (ℕ × ℕ)) → Leaves o (forgets o dead)
forgets_hold o None holds = holds
forgets_hold o (Some hop) holds = by (linked o.chip.state.table hop.0 hop.1)
  where
    gone : ChipState
    gone = after o.chip.state (Forgets hop.0 hop.1)

    by : (b : Bool) → Holds (if b then tells (with_chip o gone) (entry.Forget hop.0 hop.1 ∷ []) else silent o).outer
    by true = (record { to_chip = holds.0.to_chip; to_host = holds.0.to_host; frames = holds.0.frames; acknowledgements = holds.0.acknowledgements; link = holds.0.link; moves = holds.0.moves }, same_port o gone holds.1 refl (kept_of o holds.1))
    by false = holds

ends_hold : (o : OuterState) (status : ℕ) (dead : Option (ℕ × ℕ)) → Leaves o (frame_ends o status dead)
ends_hold o status dead holds =
    let forgot : OuterState = (forgets o dead).outer in
    let later : OuterState = (no_routes (leading forgot.calls) forgot).outer in
    calls_hold later (unwrap_or (status_of status) Fail) (no_routes_hold (leading forgot.calls) forgot (forgets_hold o dead holds))

pub gives_hold : (o : OuterState) (devices : List State) (due : List Due) (route : Option Route) → Leaves o (gives o devices due route)
gives_hold o devices [] route holds = holds
gives_hold o devices (no_route_due ∷ due) route holds = no_route_holds o holds
gives_hold o devices (Info node ∷ due) route holds =
    let p : OuterState = record o { due = due } in
    let may = fits_for (is_joined p.air node && is_some route) (device_at devices (place_of node devices)) in
    (does_none p (Informed node (profile_for p.air devices node route)) tt holds.0, informs_has p node (profile_for p.air devices node route) may holds)

to_chip_holds : (o : OuterState) (from : ℕ) (payload : List ℕ) → Leaves o (to_chip o from payload)
to_chip_holds o from payload holds = by (nat_le 1 (length payload) && nat_le (length payload) 46) refl
  where
    by : (b : Bool) → (nat_le 1 (length payload) && nat_le (length payload) 46) ≡ b → Holds (if b then chip_does o (chip_hears from payload) else silent o).outer
    by true short = (does_none o (chip_hears from payload) tt holds.0, hears_has o from payload (short_payload payload short) holds)
    by false long = holds

deals_hold : (devices : List State) (o : OuterState) (event : AirEvent) → Leaves o (deals devices o event)
deals_hold devices o (air_event.ToChip frame from payload) holds = to_chip_holds o from payload holds
deals_hold devices o (air_event.Done frame status dead) holds = ends_hold o status dead holds
deals_hold devices o (air_event.Heard frame) holds = holds
deals_hold devices o (air_event.Lost frame) holds = holds
deals_hold devices o (air_event.Unheard frame) holds = holds
deals_hold devices o (air_event.Sent frame from to route payload) holds = holds
deals_hold devices o (air_event.Changed node at) holds = holds

deals_all_hold : (devices : List State) (o : OuterState) (events : List AirEvent) → Holds o → Holds (each (deals devices) o events).outer
deals_all_hold devices o [] holds = holds
deals_all_hold devices o (event ∷ events) holds = deals_all_hold devices (deals devices o event).outer events (deals_hold devices o event holds)

-- a frame arrives
pub steps_hold : (w : Outside) (step : AirStep) → HasNoMarks (record w.outer { air = (mesh_after (mesh_of w) step).air }) → Has w.outer → Holds (steps w step).outer
steps_hold w step none has = deals_all_hold (mesh_after (mesh_of w) step).devices (record w.outer { air = (mesh_after (mesh_of w) step).air }) (mesh_outs (mesh_of w) step) (none, has)
