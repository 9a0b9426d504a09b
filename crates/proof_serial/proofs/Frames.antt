-- The chip writes frames that the format carries.
use Rattle.std.proofs.Common.{ℕ, ◌≤◌, List, [], ◌∷◌, length, arith, length-append}
use Rattle.std.specs.Prelude.{Option, Some, None, nat_eq, ◌||◌}
use Rattle.std.specs.List.{AllByRecursion}
use Rattle.zw_base.proofs.Each.{all-weaker}
use Rattle.zw_base.specs.declared.profile.Profile.{Profile}
use Rattle.serial_frame.specs.Items.{IsUnit}
use Rattle.serial_frame.specs.declared.unit.Unit.{Unit as LineUnit}
use Rattle.serial_frame.specs.declared.unit.Unit.TheVariants.{Ack, Nak, Can, Framed}
use Rattle.serial_frame.specs.declared.item.Item.{Item}
use Rattle.serial_link.specs.State.{turn_heard, turn_ticked, copy_due}
use Rattle.serial_link.specs.declared.turn.Turn.{Turn}
use Rattle.serial_link.specs.declared.turn.Turn.TheVariants.{Idle, Copied, Paused}
use Rattle.route_table.specs.Network.{linked}
use Rattle.chip_functions.specs.Mask.{mask_of}
use Rattle.chip_functions.specs.declared.notice.Notice.TheVariants.{ApplicationCommandHandler, ApplicationUpdate}
use Rattle.chip_functions.specs.declared.notice.TransmitStatus.{TransmitStatus}
use Rattle.chip_functions.specs.declared.notice.TransmitStatus.TheVariants.{Fail}
use Rattle.chip_functions.specs.declared.request.Request.{Request}
use Rattle.chip_functions.specs.declared.request.Request.TheVariants.{GetInitData, GetCapabilities, SendData, GetVersion, SendDataAbort, MemoryGetId, GetNodeProtocolInfo, AddNode, RequestNodeInfo, IsFailedNode, GetRoutingInfo}
use Rattle.chip_functions.proofs.MaskLemmas.{mask_len}
use Rattle.world_model.specs.chip_sim.State.{ChipState}
use Rattle.world_model.specs.chip_sim.Waiting.{PortState}
use Rattle.world_model.specs.chip_sim.Nodes.{nodes_where, is_marked}
use Rattle.world_model.specs.chip_sim.Answers.{response_frame, notice_frame, init_data, routing_info}
use Rattle.world_model.specs.chip_sim.Requests.{reply_to, abort_frame, callback_frame}
use Rattle.world_model.specs.chip_sim.Events.{ChipEvent, Heard, Informed, after, May, FitsProfile, update_of}
use Rattle.world_model.specs.chip_sim.Did.{MayAll, after_all, outs_all}
use Rattle.world_model.specs.chip_sim.Link.{chip_units}
use Rattle.world_model.specs.chip_sim.declared.out.Sending.{Sending}
use Rattle.world_model.specs.chip_sim.declared.out.ChipOut.{ChipOut}
use Rattle.proof_serial.specs.Chip.{IsFrame, HasFrame, HasFrames}
use Rattle.proof_serial.proofs.ChipFrames.{IsIf, Makes, PortIs, TurnIs, UnitIs, copy_is as copy_so, events_out, events_port, heard_turn, ticked_turn}

-- ---- the frames that the chip makes

notice_short : (n : ℕ) (payload : List ℕ) → length payload ≤ 46 → IsFrame (notice_frame (ApplicationCommandHandler 0 n payload))
notice_short n payload short = omega arith

update_short : (n : ℕ) (profile : Option Profile) → FitsProfile profile → IsFrame (notice_frame (ApplicationUpdate (update_of n profile)))
update_short n None fits = omega arith
update_short n (Some profile) fits = omega arith

callback_short : (sending : Sending) (status : TransmitStatus) → IsFrame (callback_frame sending status)
callback_short sending status = omega arith

init_short : (s : ChipState) → IsFrame (response_frame (init_data s))
init_short s =
    let nodes = nodes_where (λ n. nat_eq n 1 || is_marked s.joined n) in
    omega (arith, mask_len nodes, length-append (mask_of nodes) (7 ∷ 0 ∷ []))

routing_short : (s : ChipState) (n : ℕ) → IsFrame (response_frame (routing_info s n))
routing_short s n = omega (arith, mask_len (nodes_where (λ m. linked s.table n m)))

abort_short : (sending : Option Sending) → IsIf IsFrame (abort_frame sending)
abort_short None = tt
abort_short (Some sending) = callback_short sending Fail

reply_short : (s : ChipState) (request : Request) → IsIf IsFrame (reply_to s request)
reply_short s GetInitData = init_short s
reply_short s GetCapabilities = omega arith
reply_short s (SendData n payload options id) = omega arith
reply_short s GetVersion = omega arith
reply_short s SendDataAbort = abort_short s.sending
reply_short s MemoryGetId = omega arith
reply_short s (GetNodeProtocolInfo n) = omega arith
reply_short s (AddNode mode id) = tt
reply_short s (RequestNodeInfo n) = omega arith
reply_short s (IsFailedNode n) = omega arith
reply_short s (GetRoutingInfo n x y z) = routing_short s n

own_short : (s : ChipState) (e : ChipEvent) → May s e → Makes IsFrame e
own_short s (Heard n payload) may = notice_short n payload may.1
own_short s (Informed n profile) may = update_short n profile may
own_short s e may = tt

own_frames : (s : ChipState) (events : List ChipEvent) → MayAll s events → AllByRecursion (Makes IsFrame) events
own_frames s [] may = tt
own_frames s (e ∷ events) may = (own_short s e may.0, own_frames (after s e) events may.1)

-- ---- its side of the link, and that of the host

as_turn : (turn : Turn) → HasFrame turn → TurnIs IsFrame turn
as_turn Idle has = tt
as_turn (Copied f copies ticks) has = has
as_turn (Paused f copies ticks) has = has

of_turn : (turn : Turn) → TurnIs IsFrame turn → HasFrame turn
of_turn Idle is = tt
of_turn (Copied f copies ticks) is = is
of_turn (Paused f copies ticks) is = is

pub heard_has : (turn : Turn) (item : Item) → HasFrame turn → HasFrame (turn_heard turn item)
heard_has turn item has = of_turn (turn_heard turn item) (heard_turn IsFrame turn item (as_turn turn has))

pub ticked_has : (turn : Turn) → HasFrame turn → HasFrame (turn_ticked turn)
ticked_has turn has = of_turn (turn_ticked turn) (ticked_turn IsFrame turn (as_turn turn has))

pub copy_is : (turn : Turn) → HasFrame turn → IsIf IsFrame (copy_due turn)
copy_is turn has = copy_so IsFrame turn (as_turn turn has)

-- ---- what the chip keeps and writes

-- what is put out has only units that the format carries
abbrev pub Fit : List ChipOut → Type 0
Fit outs = AllByRecursion IsUnit (chip_units outs)

unit_fits : (unit : LineUnit) → UnitIs IsFrame unit → IsUnit unit
unit_fits Ack is = tt
unit_fits Nak is = tt
unit_fits Can is = tt
unit_fits (Framed f) is = is

as_port : (p : PortState) → HasFrames p → PortIs IsFrame p
as_port p has = record { turn = as_turn p.side.turn has.turn; waiting = has.waiting }

pub events_have : (s : ChipState) (events : List ChipEvent) → HasFrames s.port → MayAll s events → HasFrames (after_all s events).port
events_have s events has may =
    let is = events_port IsFrame reply_short callback_short s events (as_port s.port has) (own_frames s events may) in
    record { turn = of_turn (after_all s events).port.side.turn is.turn; waiting = is.waiting }

pub events_fit : (s : ChipState) (events : List ChipEvent) → HasFrames s.port → MayAll s events → Fit (outs_all s events)
events_fit s events has may =
    all-weaker (UnitIs IsFrame) IsUnit unit_fits (chip_units (outs_all s events)) (events_out IsFrame reply_short callback_short s events (as_port s.port has) (own_frames s events may))
