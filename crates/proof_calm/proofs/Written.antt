-- What the host writes between quiet lines fits the line: acknowledgements, and the frames of requests to send short payloads.
use Rattle.std.proofs.Common.{◌≡◌, ◌≤◌, ℕ, Bool, false, inl, inr, List, [], ◌∷◌, length, sym, ap, ◌∙◌, subst, arith, append-nil, length-append}
use Rattle.std.specs.Prelude.{◌⊎◌}
use Rattle.std.specs.List.{AllByRecursion}
use Rattle.serial_frame.specs.Frame.{FrameParts}
use Rattle.serial_frame.specs.Items.{IsUnit}
use Rattle.serial_frame.specs.Stream.{Rest}
use Rattle.serial_frame.specs.declared.item.Item.{Item}
use Rattle.serial_frame.specs.declared.unit.Unit.{Unit as LineUnit}
use Rattle.serial_frame.specs.declared.unit.Unit.TheVariants.{Ack, Nak, Can, Framed}
use Rattle.serial_link.specs.declared.turn.Turn.{Turn}
use Rattle.serial_link.specs.declared.turn.Turn.TheVariants.{Idle}
use Rattle.chip_functions.specs.declared.request.Request.{Request}
use Rattle.chip_functions.specs.declared.request.TheConstants.{TRANSMIT_OPTIONS}
use Rattle.chip_sim.specs.State.{ChipState}
use Rattle.host_requests.specs.Frames.{frame_of, request_frame, send}
use Rattle.host_requests.specs.State.{next_id}
use Rattle.host_requests.specs.declared.task.Purpose.{Purpose}
use Rattle.host_requests.specs.declared.task.Purpose.TheVariants.{Attempt}
use Rattle.host_model.specs.After.{task_purpose}
use Rattle.host_model.specs.Did.{outs_all}
use Rattle.host_model.specs.Events.{HostEvent}
use Rattle.host_model.specs.May.{May as MayHost}
use Rattle.host_model.specs.Outs.{outs}
use Rattle.host_model.specs.Pumping.{IsNext}
use Rattle.host_model.specs.State.{HostState}
use Rattle.host_model.specs.Taking.{AreJudged}
use Rattle.host_model.proofs.Submitted.{SubmittedAre, next_is}
use Rattle.world_model.specs.State.{Machine}
use Rattle.world_model.specs.Events.{Host_does, Host_takes, May}
use Rattle.proof_serial.specs.Chip.{IsFrame}
use Rattle.proof_serial.specs.Line.{WritesWell, host_units}
use Rattle.proof_calm.specs.Passes.{IsPlain, OnLine, answers}
use Rattle.proof_calm.specs.Settling.{HasMoved, IsDone}
use Rattle.proof_calm.specs.Known.{AsksToSend}
use Rattle.proof_calm.specs.Tied.{AsksAt}
use Rattle.proof_calm.proofs.HostTurns.{all_judged, plain_units}
use Rattle.proof_calm.proofs.Idle.{fed_none}
use Rattle.proof_calm.proofs.Reading.{fed_units, goods}
use Rattle.proof_calm.proofs.Submitting.{Mute}

-- ---- an event beside the line

pub mute_well : (m : Machine) (event : HostEvent) → Mute m.host.state event → WritesWell m (Host_does event)
mute_well m event mute = subst (AllByRecursion IsUnit) (sym (ap host_units (append-nil (outs m.host.state event)) ∙ mute.writes)) tt

-- ---- a request

sends_short : (n id : ℕ) (payload : List ℕ) → length payload ≤ 46 → IsFrame (request_frame (send n payload id))
sends_short n id payload short = omega (arith, short, length-append payload (TRANSMIT_OPTIONS ∷ id ∷ []))

asked_short : (s : ChipState) (purpose : Purpose) (id : ℕ) → AsksToSend s.joined purpose id → IsFrame (frame_of purpose id)
asked_short s purpose id asks = subst (λ (request : Request). IsFrame (request_frame request)) (sym asks.is) (sends_short asks.node id asks.payload asks.few)

pub next_well : (m : Machine) (s : ChipState) (event : HostEvent) → IsNext m.host.state event → May m (Host_does event) → AsksAt s.joined m.host.state event → m.host.state.requests.owes ≡ false → WritesWell m (Host_does event)
unfolding May
next_well m s event next may asks paid =
    subst (AllByRecursion IsUnit) (sym (ap host_units (append-nil (outs h event)))) (next_is Is each h event next may.0 asks)
  where
    h : HostState
    h = m.host.state

    id : ℕ
    id = next_id h.requests.last_id

    Is : HostEvent → Type 0
    Is e = MayHost h e → AsksAt s.joined h e → AllByRecursion IsUnit (host_units (outs h e))

    each : SubmittedAre Is
    each = record {
      abort = λ may_it asks_it. absurd (let owes = may_it.1 in cc);
      front = λ may_it asks_it. (asked_short s (task_purpose h.requests.queue) id asks_it, tt);
      starts = λ n plan more payload may_it asks_it. (asked_short s (Attempt n more payload) id asks_it, tt);
      text = λ n payload may_it asks_it. (asked_short s (Attempt n false payload) id asks_it, tt);
      segment = λ n more payload may_it asks_it. (asked_short s (Attempt n more payload) id asks_it, tt);
      begins = λ n session command may_it asks_it. tt;
      unkept = λ n may_it asks_it. tt;
    }

-- ---- what it answers

acks_fit : (units : List LineUnit) → AllByRecursion IsUnit (answers units)
acks_fit [] = tt
acks_fit (Ack ∷ units) = acks_fit units
acks_fit (Nak ∷ units) = acks_fit units
acks_fit (Can ∷ units) = acks_fit units
acks_fit (Framed f ∷ units) = (tt, acks_fit units)

pub takes_well : (b : Bool) (passes : ℕ) (m : Machine) (rest : Rest) (items : List Item) (events : List HostEvent) → May m (Host_takes (length m.outside.outer.to_host.bytes) rest items events) → IsDone m ⊎ HasMoved b passes m
    → WritesWell m (Host_takes (length m.outside.outer.to_host.bytes) rest items events)
unfolding May
takes_well b passes m rest items events may at = by at
  where
    h : HostState
    h = m.host.state

    bytes : List ℕ
    bytes = m.outside.outer.to_host.bytes

    judged : (units : List LineUnit) → items ≡ goods units → AllByRecursion IsPlain units → AllByRecursion IsUnit (host_units (outs_all h events))
    judged units same plain = subst (AllByRecursion IsUnit) (sym (all_judged h units events plain (subst (λ (l : List Item). AreJudged h l events) same may.judged)).writes) (acks_fit units)

    units_well : (down : List LineUnit) (host turn : Turn) (frames : List FrameParts) → OnLine [] down host turn frames m → AllByRecursion IsPlain down → AllByRecursion IsUnit (host_units (outs_all h events))
    units_well [] host turn frames line plain = judged [] (fed_none bytes m.host.decoder rest items line.at_host.decoder line.at_chip.down_bytes may.feeds).0 tt
    units_well (unit ∷ units) host turn frames line plain =
        judged (unit ∷ units) (fed_units unit units bytes m.host.decoder rest items (plain_units (unit ∷ units) plain) line.at_host.decoder line.at_chip.down_bytes may.feeds).0 plain

    by : IsDone m ⊎ HasMoved b passes m → AllByRecursion IsUnit (host_units (outs_all h events))
    by (inl done) = units_well [] Idle Idle [] done.line tt
    by (inr has) = units_well has.down has.host has.turn has.frames has.line has.plain
