-- Where the frames that the chip makes are so, each that it keeps and each that it writes is so: its frame on the line, those that wait, and what it puts out.
use Rattle.std.proofs.Common.{◌≡◌, ℕ, ◌+◌, Bool, true, false, List, [], ◌∷◌, ◌++◌, refl, sym, subst}
use Rattle.std.specs.Prelude.{Option, Some, None, ◌-◌, ◌==◌, if◌then◌else◌}
use Rattle.std.specs.List.{AllByRecursion}
use Rattle.zw_base.proofs.Each.{all-append}
use Rattle.serial_frame.specs.Frame.{FrameParts}
use Rattle.serial_frame.specs.declared.unit.Unit.{Unit as LineUnit}
use Rattle.serial_frame.specs.declared.unit.Unit.TheVariants.{Ack, Nak, Can, Framed}
use Rattle.serial_frame.specs.declared.item.Item.{Item}
use Rattle.serial_frame.specs.declared.item.Item.TheVariants.{Good, Refused}
use Rattle.serial_frame.specs.declared.item.Refusal.TheVariants.{Stray, BadLength, BadSum, BadKind, Aborted}
use Rattle.serial_link.specs.State.{Side, turn_heard, turn_refused, turn_ended, turn_ticked, copy_due, pause_after}
use Rattle.serial_link.specs.declared.turn.Turn.{Turn}
use Rattle.serial_link.specs.declared.turn.Turn.TheVariants.{Idle, Copied, Paused}
use Rattle.route_table.specs.declared.route.Route.{Route}
use Rattle.chip_functions.specs.declared.notice.Notice.TheVariants.{ApplicationCommandHandler, ApplicationUpdate}
use Rattle.chip_functions.specs.declared.notice.TransmitStatus.{TransmitStatus}
use Rattle.chip_functions.specs.declared.request.Request.{Request}
use Rattle.chip_functions.specs.declared.request.Request.TheVariants.{SendData}
use Rattle.world_model.specs.chip_sim.State.{ChipState}
use Rattle.world_model.specs.chip_sim.Waiting.{PortState, is_full, queued, queued_at, queued_outs, queued_outs_at, served, served_at, served_outs, next_at, written, ticked}
use Rattle.world_model.specs.chip_sim.Answers.{notice_frame, takes}
use Rattle.world_model.specs.chip_sim.Requests.{passed, answer_outs, reply_to, performed_outs, requested, requested_outs, asked, heard, judged_frame, judged_outs, given_outs, sent, callback_frame, given_if}
use Rattle.world_model.specs.chip_sim.Events.{ChipEvent, Judged, Ticked, Heard, Done, Informed, Joined, Linked, Forgets, Collides, after, outs, collides, ended, ended_outs, update_of}
use Rattle.world_model.specs.chip_sim.Did.{after_all, outs_all}
use Rattle.world_model.specs.chip_sim.Link.{chip_units}
use Rattle.world_model.specs.chip_sim.declared.out.Sending.{Sending}
use Rattle.world_model.specs.chip_sim.declared.out.ChipOut.{ChipOut}
use Rattle.world_model.specs.chip_sim.declared.out.ChipOut.TheVariants.{Write, OnAir, NoRoute, AskInfo, Full}
use Rattle.world_model.proofs.Steps.{port_performed}

module _ (Is : FrameParts → Type 0) where
  -- ---- what is so

  -- where there is a frame
  abbrev pub IsIf : Option FrameParts → Type 0
  IsIf None = Unit {0}
  IsIf (Some f) = Is f

  abbrev pub UnitIs : LineUnit → Type 0
  UnitIs Ack = Unit {0}
  UnitIs Nak = Unit {0}
  UnitIs Can = Unit {0}
  UnitIs (Framed f) = Is f

  -- each unit that is put out
  abbrev pub OutsAre : List ChipOut → Type 0
  OutsAre outs = AllByRecursion UnitIs (chip_units outs)

  -- the frame of one's own on the line
  abbrev pub TurnIs : Turn → Type 0
  TurnIs Idle = Unit {0}
  TurnIs (Copied f copies ticks) = Is f
  TurnIs (Paused f copies ticks) = Is f

  -- that of the chip, and those that wait there
  pub record PortIs (port : PortState) : Type 0 where
    pub turn : TurnIs port.side.turn
    pub waiting : AllByRecursion Is port.waiting

  -- the frame that an event makes, and no other does
  abbrev pub Makes : ChipEvent → Type 0
  Makes (Heard n payload) = Is (notice_frame (ApplicationCommandHandler 0 n payload))
  Makes (Informed n profile) = Is (notice_frame (ApplicationUpdate (update_of n profile)))
  Makes event = Unit {0}

  outs_both : (a b : List ChipOut) → OutsAre a → OutsAre b → OutsAre (a ++ b)
  outs_both [] b first later = later
  outs_both (Write u ∷ a) b first later = (first.0, outs_both a b first.1 later)
  outs_both (OnAir to route payload ∷ a) b first later = outs_both a b first later
  outs_both (NoRoute ∷ a) b first later = outs_both a b first later
  outs_both (AskInfo n ∷ a) b first later = outs_both a b first later
  outs_both (Full ∷ a) b first later = outs_both a b first later

  -- ---- one's own side of the link

  ended_turn : (f : FrameParts) (copies : ℕ) → Is f → TurnIs (turn_ended f copies)
  ended_turn f copies is = by (copies == 4)
    where
      by : (b : Bool) → TurnIs (if b then Idle else Paused f copies 0)
      by true = tt
      by false = is

  refused_turn : (turn : Turn) → TurnIs turn → TurnIs (turn_refused turn)
  refused_turn Idle is = tt
  refused_turn (Copied f copies ticks) is = ended_turn f copies is
  refused_turn (Paused f copies ticks) is = is

  pub heard_turn : (turn : Turn) (item : Item) → TurnIs turn → TurnIs (turn_heard turn item)
  heard_turn turn (Good Ack) is = tt
  heard_turn turn (Good Nak) is = refused_turn turn is
  heard_turn turn (Good Can) is = refused_turn turn is
  heard_turn turn (Good (Framed f)) is = is
  heard_turn turn (Refused r) is = is

  pub ticked_turn : (turn : Turn) → TurnIs turn → TurnIs (turn_ticked turn)
  ticked_turn Idle is = tt
  ticked_turn (Copied f copies ticks) is = by (ticks == 14)
    where
      by : (b : Bool) → TurnIs (if b then turn_ended f copies else Copied f copies (ticks + 1))
      by true = ended_turn f copies is
      by false = is
  ticked_turn (Paused f copies ticks) is = by (ticks + 1 == pause_after copies)
    where
      by : (b : Bool) → TurnIs (if b then Copied f (copies + 1) 0 else Paused f copies (ticks + 1))
      by true = is
      by false = is

  pub copy_is : (turn : Turn) → TurnIs turn → IsIf (copy_due turn)
  copy_is Idle is = tt
  copy_is (Copied f copies ticks) is = tt
  copy_is (Paused f copies ticks) is = by (ticks + 1 == pause_after copies)
    where
      by : (b : Bool) → IsIf (if b then Some f else None)
      by true = is
      by false = tt

  -- ---- frames that wait

  written_out : (f : Option FrameParts) → IsIf f → OutsAre (written f)
  written_out None is = tt
  written_out (Some f) is = (is, tt)

  next_is : (turn : Turn) (waiting : List FrameParts) → AllByRecursion Is waiting → IsIf (next_at turn waiting)
  next_is Idle [] all = tt
  next_is Idle (f ∷ waiting) all = all.0
  next_is (Copied g copies ticks) waiting all = tt
  next_is (Paused g copies ticks) waiting all = tt

  served_out : (p : PortState) → PortIs p → OutsAre (served_outs p)
  served_out p is = written_out (next_at p.side.turn p.waiting) (next_is p.side.turn p.waiting is.waiting)

  served_by : (turn : Turn) (waiting : List FrameParts) (side : Side) → side.turn ≡ turn → TurnIs turn → AllByRecursion Is waiting → PortIs (served_at turn waiting side)
  served_by Idle [] side same is all = record { turn = subst TurnIs (sym same) is; waiting = tt }
  served_by Idle (f ∷ waiting) side same is all = record { turn = all.0; waiting = all.1 }
  served_by (Copied g copies ticks) waiting side same is all = record { turn = subst TurnIs (sym same) is; waiting = all }
  served_by (Paused g copies ticks) waiting side same is all = record { turn = subst TurnIs (sym same) is; waiting = all }

  served_port : (p : PortState) → PortIs p → PortIs (served p)
  served_port p is = served_by p.side.turn p.waiting p.side refl is.turn is.waiting

  -- ---- a frame that is queued

  queues_if : (full : Bool) (side : Side) (waiting : List FrameParts) (f : FrameParts) → TurnIs side.turn → AllByRecursion Is waiting → Is f
      → PortIs (if full then record { side = side; waiting = waiting } else record { side = side; waiting = waiting ++ f ∷ [] })
  queues_if true side waiting f turn all is = record { turn = turn; waiting = all }
  queues_if false side waiting f turn all is = record { turn = turn; waiting = all-append Is waiting (f ∷ []) all (is, tt) }

  queued_by : (turn : Turn) (p : PortState) (f : FrameParts) → PortIs p → Is f → PortIs (queued_at turn p f)
  queued_by Idle p f are is = record { turn = is; waiting = are.waiting }
  queued_by (Copied g copies ticks) p f are is = queues_if (is_full p.waiting) p.side p.waiting f are.turn are.waiting is
  queued_by (Paused g copies ticks) p f are is = queues_if (is_full p.waiting) p.side p.waiting f are.turn are.waiting is

  queued_port : (p : PortState) (f : FrameParts) → PortIs p → Is f → PortIs (queued p f)
  queued_port p f are is = queued_by p.side.turn p f are is

  full_out : (b : Bool) → OutsAre (if b then Full ∷ [] else [])
  full_out true = tt
  full_out false = tt

  queued_out_at : (turn : Turn) (p : PortState) (f : FrameParts) → Is f → OutsAre (queued_outs_at turn p f)
  queued_out_at Idle p f is = (is, tt)
  queued_out_at (Copied g copies ticks) p f is = full_out (is_full p.waiting)
  queued_out_at (Paused g copies ticks) p f is = full_out (is_full p.waiting)

  queued_out : (p : PortState) (f : FrameParts) → Is f → OutsAre (queued_outs p f)
  queued_out p f is = queued_out_at p.side.turn p f is

  given_port : (s : ChipState) (f : Option FrameParts) → PortIs s.port → IsIf f → PortIs (given_if s f).port
  given_port s None are is = are
  given_port s (Some f) are is = queued_port s.port f are is

  given_out : (s : ChipState) (f : Option FrameParts) → IsIf f → OutsAre (given_outs s f)
  given_out s None is = tt
  given_out s (Some f) is = queued_out s.port f is

  -- ---- what a request does beside its reply

  sent_out : (n : ℕ) (payload : List ℕ) (way : Option Route) → OutsAre (sent n payload way)
  sent_out n payload None = tt
  sent_out n payload (Some route) = tt

  performed_out : (request : Request) (s : ChipState) (way : Option Route) → OutsAre (performed_outs request s way)
  performed_out (SendData n payload options id) s way = by (takes s n payload)
    where
      by : (b : Bool) → OutsAre (if b then sent n payload way else [])
      by true = sent_out n payload way
      by false = tt
  performed_out _ s way = tt

  answer_out : (collision : Bool) (item : Item) → OutsAre (answer_outs collision item)
  answer_out collision (Good Ack) = tt
  answer_out collision (Good Nak) = tt
  answer_out collision (Good Can) = tt
  answer_out true (Good (Framed f)) = (tt, tt)
  answer_out false (Good (Framed f)) = (tt, tt)
  answer_out collision (Refused (Stray x)) = tt
  answer_out collision (Refused (BadLength n)) = tt
  answer_out collision (Refused (BadSum want got)) = (tt, tt)
  answer_out collision (Refused (BadKind x)) = (tt, tt)
  answer_out collision (Refused Aborted) = tt

  item_port : (s : ChipState) (item : Item) → PortIs s.port → PortIs (heard s item).port
  item_port s item are = record { turn = heard_turn s.port.side.turn item are.turn; waiting = are.waiting }

  tick_port : (p : PortState) → PortIs p → PortIs (ticked p)
  tick_port p are = record { turn = ticked_turn p.side.turn are.turn; waiting = are.waiting }

  -- ---- events

  module _ (replies : (s : ChipState) (request : Request) → IsIf (reply_to s request)) (calls : (sending : Sending) (status : TransmitStatus) → Is (callback_frame sending status)) where
    requested_port : (request : Option Request) (s : ChipState) → PortIs s.port → PortIs (requested request s).port
    requested_port None s are = are
    requested_port (Some request) s are =
        subst PortIs (sym (port_performed request (given_if s (reply_to s request)))) (given_port s (reply_to s request) are (replies s request))

    requested_out : (request : Option Request) (s : ChipState) (way : Option Route) → OutsAre (requested_outs request s way)
    requested_out None s way = tt
    requested_out (Some request) s way =
        outs_both (given_outs s (reply_to s request)) (performed_outs request s way) (given_out s (reply_to s request) (replies s request)) (performed_out request s way)

    judged_port : (f : Option FrameParts) (s : ChipState) → PortIs s.port → PortIs (judged_frame f s).port
    judged_port None s are = served_port s.port are
    judged_port (Some f) s are = requested_port (asked f) s are

    judged_out : (f : Option FrameParts) (s : ChipState) (way : Option Route) → PortIs s.port → OutsAre (judged_outs f s way)
    judged_out None s way are = served_out s.port are
    judged_out (Some f) s way are = requested_out (asked f) s way

    ended_port : (sending : Option Sending) (s : ChipState) (status : TransmitStatus) → PortIs s.port → PortIs (ended sending s status).port
    ended_port None s status are = are
    ended_port (Some sending) s status are = queued_port s.port (callback_frame sending status) are (calls sending status)

    ended_out : (sending : Option Sending) (s : ChipState) (status : TransmitStatus) → OutsAre (ended_outs sending s status)
    ended_out None s status = tt
    ended_out (Some sending) s status = queued_out s.port (callback_frame sending status) (calls sending status)

    event_port : (s : ChipState) (e : ChipEvent) → PortIs s.port → Makes e → PortIs (after s e).port
    event_port s (Judged item way) are is = judged_port (passed (collides s) item) (heard s item) (item_port s item are)
    event_port s Ticked are is = served_port (ticked s.port) (tick_port s.port are)
    event_port s (Heard n payload) are is = queued_port s.port (notice_frame (ApplicationCommandHandler 0 n payload)) are is
    event_port s (Done status) are is = by (s.aborted == 0)
      where
        by : (b : Bool) → PortIs (if b then ended s.sending s status else record s { aborted = s.aborted - 1 }).port
        by true = ended_port s.sending s status are
        by false = are
    event_port s (Informed n profile) are is = queued_port s.port (notice_frame (ApplicationUpdate (update_of n profile))) are is
    event_port s (Joined n listening) are is = are
    event_port s (Linked a b live) are is = are
    event_port s (Forgets a b) are is = are
    event_port s Collides are is = record { turn = are.turn; waiting = are.waiting }

    event_out : (s : ChipState) (e : ChipEvent) → PortIs s.port → Makes e → OutsAre (outs s e)
    event_out s (Judged item way) are is =
        outs_both (answer_outs (collides s) item) (judged_outs (passed (collides s) item) (heard s item) way) (answer_out (collides s) item)
        (judged_out (passed (collides s) item) (heard s item) way (item_port s item are))
    event_out s Ticked are is =
        outs_both (written (copy_due s.port.side.turn)) (served_outs (ticked s.port)) (written_out (copy_due s.port.side.turn) (copy_is s.port.side.turn are.turn))
        (served_out (ticked s.port) (tick_port s.port are))
    event_out s (Heard n payload) are is = queued_out s.port (notice_frame (ApplicationCommandHandler 0 n payload)) is
    event_out s (Done status) are is = by (s.aborted == 0)
      where
        by : (b : Bool) → OutsAre (if b then ended_outs s.sending s status else [])
        by true = ended_out s.sending s status
        by false = tt
    event_out s (Informed n profile) are is = queued_out s.port (notice_frame (ApplicationUpdate (update_of n profile))) is
    event_out s (Joined n listening) are is = tt
    event_out s (Linked a b live) are is = tt
    event_out s (Forgets a b) are is = tt
    event_out s Collides are is = tt

    pub events_port : (s : ChipState) (events : List ChipEvent) → PortIs s.port → AllByRecursion Makes events → PortIs (after_all s events).port
    events_port s [] are all = are
    events_port s (e ∷ events) are all = events_port (after s e) events (event_port s e are all.0) all.1

    pub events_out : (s : ChipState) (events : List ChipEvent) → PortIs s.port → AllByRecursion Makes events → OutsAre (outs_all s events)
    events_out s [] are all = tt
    events_out s (e ∷ events) are all = outs_both (outs s e) (outs_all (after s e) events) (event_out s e are all.0) (events_out (after s e) events (event_port s e are all.0) all.1)
