-- What holds of each frame that the chip gives its link holds of the frames that its port has, and of those that it writes.
use Rattle.std.proofs.Common.{ℕ, ◌+◌, ◌-◌, ◌==◌, Bool, true, false, if◌then◌else◌, List, [], ◌∷◌, ◌++◌, sym, subst}
use Rattle.std.specs.Prelude.{Option, Some, None}
use Rattle.std.specs.List.{AllByRecursion}
use Rattle.zw_base.proofs.Each.{all-append}
use Rattle.serial_frame.specs.Frame.{FrameParts}
use Rattle.serial_frame.specs.declared.frame.Kind.TheVariants.{Response as of_response}
use Rattle.serial_frame.specs.declared.unit.Unit.{Unit as LineUnit}
use Rattle.serial_frame.specs.declared.unit.Unit.TheVariants.{Ack, Nak, Can, Framed}
use Rattle.serial_frame.specs.declared.item.Item.{Item}
use Rattle.serial_frame.specs.declared.item.Item.TheVariants.{Good, Refused}
use Rattle.serial_frame.specs.declared.item.Refusal.TheVariants.{Stray, BadLength, BadSum, BadKind, Aborted}
use Rattle.serial_link.specs.State.{Side, turn_ended, turn_refused, turn_heard, pause_after, turn_ticked, copy_due}
use Rattle.serial_link.specs.declared.turn.Turn.{Turn}
use Rattle.serial_link.specs.declared.turn.Turn.TheVariants.{Idle, Copied, Paused}
use Rattle.route_table.specs.declared.route.Route.{Route}
use Rattle.chip_functions.specs.declared.request.Request.{Request}
use Rattle.chip_functions.specs.declared.request.Request.TheVariants.{GetInitData, GetCapabilities, SendData, GetVersion, SendDataAbort, MemoryGetId, GetNodeProtocolInfo, AddNode, RequestNodeInfo, IsFailedNode, GetRoutingInfo}
use Rattle.chip_functions.specs.declared.notice.Notice.TheVariants.{ApplicationCommandHandler, ApplicationUpdate}
use Rattle.chip_functions.specs.declared.notice.Update.{Update}
use Rattle.chip_functions.specs.declared.notice.TransmitStatus.{TransmitStatus}
use Rattle.chip_functions.specs.declared.notice.TransmitStatus.TheVariants.{Fail}
use Rattle.chip_sim.proofs.Steps.{port_performed}
use Rattle.chip_sim.specs.Waiting.{PortState, is_full, queued_at, queued_outs_at, next_at, served_at, written, ticked}
use Rattle.chip_sim.specs.State.{ChipState}
use Rattle.chip_sim.specs.Answers.{notice_frame, takes}
use Rattle.chip_sim.specs.Requests.{passed, answer_outs, asked, given_if, given_outs, callback_frame, abort_frame, reply_to, sent, performed_outs, requested, requested_outs, heard, judged_frame, judged_outs}
use Rattle.chip_sim.specs.Events.{ChipEvent, Judged, Ticked, Heard, Done, Informed, Collides, collides, update_of, ended, ended_outs, after, outs}
use Rattle.chip_sim.specs.declared.out.Sending.{Sending}
use Rattle.chip_sim.specs.declared.out.ChipOut.{ChipOut}
use Rattle.chip_sim.specs.declared.out.ChipOut.TheVariants.{Write, Full}
use Rattle.proof_air.specs.Carrying.{TurnHas, PortHas}

-- a unit that is such a frame, or none
abbrev pub UnitHas : (FrameParts → Type 0) → LineUnit → Type 0
UnitHas Is Ack = Unit {0}
UnitHas Is Nak = Unit {0}
UnitHas Is Can = Unit {0}
UnitHas Is (Framed f) = Is f

abbrev pub PutHas : (FrameParts → Type 0) → ChipOut → Type 0
PutHas Is (Write unit) = UnitHas Is unit
PutHas Is _ = Unit {0}

abbrev pub PutsHave : (FrameParts → Type 0) → List ChipOut → Type 0
PutsHave Is puts = AllByRecursion (PutHas Is) puts

abbrev FoundHas : (FrameParts → Type 0) → Option FrameParts → Type 0
FoundHas Is None = Unit {0}
FoundHas Is (Some f) = Is f

-- what the chip gives its link of itself
pub record Posted (Is : FrameParts → Type 0) : Type 0 where
  pub response : (func : ℕ) (body : List ℕ) → Is (record { kind = of_response; func = func; body = body })
  pub callback : (sending : Sending) (status : TransmitStatus) → Is (callback_frame sending status)
  pub update : (u : Update) → Is (notice_frame (ApplicationUpdate u))

-- and where it hears a payload, the frame of that
abbrev pub HearsSo : (FrameParts → Type 0) → ChipEvent → Type 0
HearsSo Is (Heard node payload) = Is (notice_frame (ApplicationCommandHandler 0 node payload))
HearsSo Is event = Unit {0}

module _ (Is : FrameParts → Type 0) where
  -- ---- the link

  queued_has : (turn : Turn) (port : PortState) (f : FrameParts) → PortHas Is port → Is f → PortHas Is (queued_at turn port f)
  queued_has Idle port f has is = record { turn = is; waiting = has.waiting }
  queued_has (Copied g copies ticks) port f has is = by (is_full port.waiting)
    where
      by : (b : Bool) → PortHas Is (if b then port else record { side = port.side; waiting = port.waiting ++ f ∷ [] })
      by true = has
      by false = record { turn = has.turn; waiting = all-append Is port.waiting (f ∷ []) has.waiting (is, tt) }
  queued_has (Paused g copies ticks) port f has is = by (is_full port.waiting)
    where
      by : (b : Bool) → PortHas Is (if b then port else record { side = port.side; waiting = port.waiting ++ f ∷ [] })
      by true = has
      by false = record { turn = has.turn; waiting = all-append Is port.waiting (f ∷ []) has.waiting (is, tt) }

  full_puts : (b : Bool) → PutsHave Is (if b then Full ∷ [] else [])
  full_puts true = (tt, tt)
  full_puts false = tt

  queued_puts : (turn : Turn) (port : PortState) (f : FrameParts) → Is f → PutsHave Is (queued_outs_at turn port f)
  queued_puts Idle port f is = (is, tt)
  queued_puts (Copied g copies ticks) port f is = full_puts (is_full port.waiting)
  queued_puts (Paused g copies ticks) port f is = full_puts (is_full port.waiting)

  served_has : (turn : Turn) (waiting : List FrameParts) (side : Side) → TurnHas Is side.turn → AllByRecursion Is waiting → PortHas Is (served_at turn waiting side)
  served_has Idle [] side has all = record { turn = has; waiting = tt }
  served_has Idle (f ∷ waiting) side has all = record { turn = all.0; waiting = all.1 }
  served_has (Copied g copies ticks) waiting side has all = record { turn = has; waiting = all }
  served_has (Paused g copies ticks) waiting side has all = record { turn = has; waiting = all }

  written_puts : (found : Option FrameParts) → FoundHas Is found → PutsHave Is (written found)
  written_puts None has = tt
  written_puts (Some f) has = (has, tt)

  next_has : (turn : Turn) (waiting : List FrameParts) → AllByRecursion Is waiting → FoundHas Is (next_at turn waiting)
  next_has Idle [] all = tt
  next_has Idle (f ∷ waiting) all = all.0
  next_has (Copied g copies ticks) waiting all = tt
  next_has (Paused g copies ticks) waiting all = tt

  ended_has : (b : Bool) (f : FrameParts) (copies : ℕ) → Is f → TurnHas Is (if b then Idle else Paused f copies 0)
  ended_has true f copies is = tt
  ended_has false f copies is = is

  refused_has : (turn : Turn) → TurnHas Is turn → TurnHas Is (turn_refused turn)
  refused_has Idle has = tt
  refused_has (Copied f copies ticks) has = ended_has (copies == 4) f copies has
  refused_has (Paused f copies ticks) has = has

  heard_has : (turn : Turn) (item : Item) → TurnHas Is turn → TurnHas Is (turn_heard turn item)
  heard_has turn (Good Ack) has = tt
  heard_has turn (Good Nak) has = refused_has turn has
  heard_has turn (Good Can) has = refused_has turn has
  heard_has turn (Good (Framed f)) has = has
  heard_has turn (Refused refusal) has = has

  ticked_has : (turn : Turn) → TurnHas Is turn → TurnHas Is (turn_ticked turn)
  ticked_has Idle has = tt
  ticked_has (Copied f copies ticks) has = by (ticks == 14)
    where
      by : (b : Bool) → TurnHas Is (if b then turn_ended f copies else Copied f copies (ticks + 1))
      by true = ended_has (copies == 4) f copies has
      by false = has
  ticked_has (Paused f copies ticks) has = by (ticks + 1 == pause_after copies)
    where
      by : (b : Bool) → TurnHas Is (if b then Copied f (copies + 1) 0 else Paused f copies (ticks + 1))
      by true = has
      by false = has

  due_has : (turn : Turn) → TurnHas Is turn → FoundHas Is (copy_due turn)
  due_has Idle has = tt
  due_has (Copied f copies ticks) has = tt
  due_has (Paused f copies ticks) has = by (ticks + 1 == pause_after copies)
    where
      by : (b : Bool) → FoundHas Is (if b then Some f else None)
      by true = has
      by false = tt

  -- ---- requests

  module _ (posted : Posted Is) where
    abort_has : (sending : Option Sending) → FoundHas Is (abort_frame sending)
    abort_has None = tt
    abort_has (Some sending) = posted.callback sending Fail

    reply_has : (s : ChipState) (request : Request) → FoundHas Is (reply_to s request)
    reply_has s GetInitData = posted.response _ _
    reply_has s GetCapabilities = posted.response _ _
    reply_has s (SendData n payload options id) = posted.response _ _
    reply_has s GetVersion = posted.response _ _
    reply_has s SendDataAbort = abort_has s.sending
    reply_has s MemoryGetId = posted.response _ _
    reply_has s (GetNodeProtocolInfo n) = posted.response _ _
    reply_has s (AddNode mode id) = tt
    reply_has s (RequestNodeInfo n) = posted.response _ _
    reply_has s (IsFailedNode n) = posted.response _ _
    reply_has s (GetRoutingInfo n x y z) = posted.response _ _

    given_has : (reply : Option FrameParts) (s : ChipState) → FoundHas Is reply → PortHas Is s.port → PortHas Is (given_if s reply).port
    given_has None s is has = has
    given_has (Some f) s is has = queued_has s.port.side.turn s.port f has is

    given_puts : (reply : Option FrameParts) (s : ChipState) → FoundHas Is reply → PutsHave Is (given_outs s reply)
    given_puts None s is = tt
    given_puts (Some f) s is = queued_puts s.port.side.turn s.port f is

    sent_puts : (n : ℕ) (payload : List ℕ) (way : Option Route) → PutsHave Is (sent n payload way)
    sent_puts n payload None = (tt, tt)
    sent_puts n payload (Some route) = (tt, tt)

    performed_puts : (request : Request) (s : ChipState) (way : Option Route) → PutsHave Is (performed_outs request s way)
    performed_puts (SendData n payload options id) s way = by (takes s n payload)
      where
        by : (b : Bool) → PutsHave Is (if b then sent n payload way else [])
        by true = sent_puts n payload way
        by false = tt
    performed_puts (RequestNodeInfo n) s way = (tt, tt)
    performed_puts request s way = tt

    requested_has : (request : Option Request) (s : ChipState) → PortHas Is s.port → PortHas Is (requested request s).port
    requested_has None s has = has
    requested_has (Some request) s has =
        subst (PortHas Is) (sym (port_performed request (given_if s (reply_to s request)))) (given_has (reply_to s request) s (reply_has s request) has)

    requested_puts : (request : Option Request) (s : ChipState) (way : Option Route) → PutsHave Is (requested_outs request s way)
    requested_puts None s way = tt
    requested_puts (Some request) s way =
        all-append (PutHas Is) (given_outs s (reply_to s request)) (performed_outs request s way) (given_puts (reply_to s request) s (reply_has s request)) (performed_puts request s way)

    -- ---- items

    judged_has : (found : Option FrameParts) (s : ChipState) → PortHas Is s.port → PortHas Is (judged_frame found s).port
    judged_has None s has = served_has s.port.side.turn s.port.waiting s.port.side has.turn has.waiting
    judged_has (Some f) s has = requested_has (asked f) s has

    judged_puts : (found : Option FrameParts) (s : ChipState) (way : Option Route) → PortHas Is s.port → PutsHave Is (judged_outs found s way)
    judged_puts None s way has = written_puts (next_at s.port.side.turn s.port.waiting) (next_has s.port.side.turn s.port.waiting has.waiting)
    judged_puts (Some f) s way has = requested_puts (asked f) s way

    answer_puts : (b : Bool) (item : Item) → PutsHave Is (answer_outs b item)
    answer_puts b (Good Ack) = tt
    answer_puts b (Good Nak) = tt
    answer_puts b (Good Can) = tt
    answer_puts true (Good (Framed f)) = (tt, tt)
    answer_puts false (Good (Framed f)) = (tt, tt)
    answer_puts b (Refused (Stray x)) = tt
    answer_puts b (Refused (BadLength n)) = tt
    answer_puts b (Refused (BadSum want got)) = (tt, tt)
    answer_puts b (Refused (BadKind x)) = (tt, tt)
    answer_puts b (Refused Aborted) = tt

    item_heard : (s : ChipState) (item : Item) → PortHas Is s.port → PortHas Is (heard s item).port
    item_heard s item has = record { turn = heard_has s.port.side.turn item has.turn; waiting = has.waiting }

    -- ---- results

    result_has : (sending : Option Sending) (s : ChipState) (status : TransmitStatus) → PortHas Is s.port → PortHas Is (ended sending s status).port
    result_has None s status has = has
    result_has (Some sending) s status has = queued_has s.port.side.turn s.port (callback_frame sending status) has (posted.callback sending status)

    result_puts : (sending : Option Sending) (s : ChipState) (status : TransmitStatus) → PutsHave Is (ended_outs sending s status)
    result_puts None s status = tt
    result_puts (Some sending) s status = queued_puts s.port.side.turn s.port (callback_frame sending status) (posted.callback sending status)

    done_has : (b : Bool) (s : ChipState) (status : TransmitStatus) → PortHas Is s.port
        → PortHas Is (if b then ended s.sending s status else record s { aborted = s.aborted - 1 }).port
    done_has true s status has = result_has s.sending s status has
    done_has false s status has = has

    done_puts : (b : Bool) (s : ChipState) (status : TransmitStatus) → PutsHave Is (if b then ended_outs s.sending s status else [])
    done_puts true s status = result_puts s.sending s status
    done_puts false s status = tt

    -- ---- events

    pub after_has : (s : ChipState) (event : ChipEvent) → HearsSo Is event → PortHas Is s.port → PortHas Is (after s event).port
    after_has s (Judged item way) hears has = judged_has (passed (collides s) item) (heard s item) (item_heard s item has)
    after_has s Ticked hears has = served_has (ticked s.port).side.turn s.port.waiting (ticked s.port).side (ticked_has s.port.side.turn has.turn) has.waiting
    after_has s (Heard node payload) hears has = queued_has s.port.side.turn s.port (notice_frame (ApplicationCommandHandler 0 node payload)) has hears
    after_has s (Done status) hears has = done_has (s.aborted == 0) s status has
    after_has s (Informed node profile) hears has = queued_has s.port.side.turn s.port (notice_frame (ApplicationUpdate (update_of node profile))) has (posted.update (update_of node profile))
    after_has s Collides hears has = record { turn = has.turn; waiting = has.waiting }
    after_has s event hears has = has

    pub outs_have : (s : ChipState) (event : ChipEvent) → HearsSo Is event → PortHas Is s.port → PutsHave Is (outs s event)
    outs_have s (Judged item way) hears has =
        all-append (PutHas Is) (answer_outs (collides s) item) (judged_outs (passed (collides s) item) (heard s item) way) (answer_puts (collides s) item)
        (judged_puts (passed (collides s) item) (heard s item) way (item_heard s item has))
    outs_have s Ticked hears has =
        all-append (PutHas Is) (written (copy_due s.port.side.turn)) (written (next_at (ticked s.port).side.turn s.port.waiting))
        (written_puts (copy_due s.port.side.turn) (due_has s.port.side.turn has.turn))
        (written_puts (next_at (ticked s.port).side.turn s.port.waiting) (next_has (ticked s.port).side.turn s.port.waiting has.waiting))
    outs_have s (Heard node payload) hears has = queued_puts s.port.side.turn s.port (notice_frame (ApplicationCommandHandler 0 node payload)) hears
    outs_have s (Done status) hears has = done_puts (s.aborted == 0) s status
    outs_have s (Informed node profile) hears has = queued_puts s.port.side.turn s.port (notice_frame (ApplicationUpdate (update_of node profile))) (posted.update (update_of node profile))
    outs_have s event hears has = tt
