-- Which units the chip writes at an event, and which collisions its link is still to make then.
use Rattle.std.proofs.Common.{◌≡◌, ℕ, ◌-◌, ◌==◌, Bool, true, false, if◌then◌else◌, List, [], ◌∷◌, ◌++◌, refl, ap, ◌∙◌}
use Rattle.std.specs.Prelude.{Option, Some, None}
use Rattle.std.specs.List.{AllByRecursion}
use Rattle.zw_base.proofs.Each.{all-append}
use Rattle.serial_frame.specs.Frame.{FrameParts}
use Rattle.serial_frame.specs.declared.item.Item.{Item}
use Rattle.serial_frame.specs.declared.item.Item.TheVariants.{Good, Refused}
use Rattle.serial_frame.specs.declared.item.Refusal.TheVariants.{Stray, BadLength, BadSum, BadKind, Aborted}
use Rattle.serial_frame.specs.declared.unit.Unit.TheVariants.{Ack, Nak, Can, Framed}
use Rattle.serial_link.specs.State.{Side, copy_due}
use Rattle.serial_link.specs.declared.turn.Turn.{Turn}
use Rattle.serial_link.specs.declared.turn.Turn.TheVariants.{Idle, Copied, Paused}
use Rattle.route_table.specs.declared.route.Route.{Route}
use Rattle.chip_functions.specs.declared.request.Request.{Request}
use Rattle.chip_functions.specs.declared.request.Request.TheVariants.{GetInitData, GetCapabilities, SendData, GetVersion, SendDataAbort, MemoryGetId, GetNodeProtocolInfo, AddNode, RequestNodeInfo, IsFailedNode, GetRoutingInfo}
use Rattle.chip_functions.specs.declared.notice.TransmitStatus.{TransmitStatus}
use Rattle.chip_sim.specs.Waiting.{PortState, is_full, queued_at, queued_outs_at, next_at, served_at, served_outs, ticked, written}
use Rattle.chip_sim.specs.State.{ChipState}
use Rattle.chip_sim.specs.Answers.{takes}
use Rattle.chip_sim.specs.Requests.{passed, asked, answer_outs, given_if, given_outs, reply_to, performed_outs, sent, requested, requested_outs, heard, judged_frame, judged_outs, callback_frame}
use Rattle.chip_sim.specs.Events.{ChipEvent, Judged, Ticked, Heard, Done, Informed, Joined, Linked, Forgets, Collides, after, outs, collides, ended, ended_outs}
use Rattle.chip_sim.specs.declared.out.Sending.{Sending}
use Rattle.chip_sim.specs.declared.out.ChipOut.{ChipOut}
use Rattle.chip_sim.specs.declared.out.ChipOut.TheVariants.{Write, Full}
use Rattle.chip_sim.proofs.Steps.{port_performed}

-- ---- units

-- an output that answers no good frame
abbrev pub IsOther : ChipOut → Type 0
IsOther (Write Ack) = ⊥
IsOther (Write Can) = ⊥
IsOther _ = Unit {0}

abbrev pub AreOther : List ChipOut → Type 0
AreOther puts = AllByRecursion IsOther puts

full_other : (b : Bool) → AreOther (if b then Full ∷ [] else [])
full_other true = (tt, tt)
full_other false = tt

queued_other : (turn : Turn) (p : PortState) (f : FrameParts) → AreOther (queued_outs_at turn p f)
queued_other Idle p f = (tt, tt)
queued_other (Copied g copies ticks) p f = full_other (is_full p.waiting)
queued_other (Paused g copies ticks) p f = full_other (is_full p.waiting)

written_other : (next : Option FrameParts) → AreOther (written next)
written_other None = tt
written_other (Some f) = (tt, tt)

given_other : (s : ChipState) (f : Option FrameParts) → AreOther (given_outs s f)
given_other s None = tt
given_other s (Some f) = queued_other s.port.side.turn s.port f

sent_other : (n : ℕ) (payload : List ℕ) (way : Option Route) → AreOther (sent n payload way)
sent_other n payload None = (tt, tt)
sent_other n payload (Some route) = (tt, tt)

taken_other : (b : Bool) (n : ℕ) (payload : List ℕ) (way : Option Route) → AreOther (if b then sent n payload way else [])
taken_other true n payload way = sent_other n payload way
taken_other false n payload way = tt

performed_other : (request : Request) (s : ChipState) (way : Option Route) → AreOther (performed_outs request s way)
performed_other GetInitData s way = tt
performed_other GetCapabilities s way = tt
performed_other (SendData n payload options id) s way = taken_other (takes s n payload) n payload way
performed_other GetVersion s way = tt
performed_other SendDataAbort s way = tt
performed_other MemoryGetId s way = tt
performed_other (GetNodeProtocolInfo n) s way = tt
performed_other (AddNode mode id) s way = tt
performed_other (RequestNodeInfo n) s way = (tt, tt)
performed_other (IsFailedNode n) s way = tt
performed_other (GetRoutingInfo n x y z) s way = tt

requested_other : (request : Option Request) (s : ChipState) (way : Option Route) → AreOther (requested_outs request s way)
requested_other None s way = tt
requested_other (Some request) s way =
    all-append IsOther (given_outs s (reply_to s request)) (performed_outs request s way) (given_other s (reply_to s request)) (performed_other request s way)

pub judged_other : (f : Option FrameParts) (s : ChipState) (way : Option Route) → AreOther (judged_outs f s way)
judged_other None s way = written_other (next_at s.port.side.turn s.port.waiting)
judged_other (Some f) s way = requested_other (asked f) s way

ended_other : (sending : Option Sending) (s : ChipState) (status : TransmitStatus) → AreOther (ended_outs sending s status)
ended_other None s status = tt
ended_other (Some sending) s status = queued_other s.port.side.turn s.port (callback_frame sending status)

done_other : (b : Bool) (s : ChipState) (status : TransmitStatus) → AreOther (if b then ended_outs s.sending s status else [])
done_other true s status = ended_other s.sending s status
done_other false s status = tt

-- an item that is no good frame
abbrev pub IsNoFrame : Item → Type 0
IsNoFrame (Good (Framed f)) = ⊥
IsNoFrame _ = Unit {0}

answer_other : (collides : Bool) (item : Item) → IsNoFrame item → AreOther (answer_outs collides item)
answer_other collides (Good Ack) no_frame = tt
answer_other collides (Good Nak) no_frame = tt
answer_other collides (Good Can) no_frame = tt
answer_other collides (Good (Framed f)) no_frame = absurd no_frame
answer_other collides (Refused (Stray x)) no_frame = tt
answer_other collides (Refused (BadLength n)) no_frame = tt
answer_other collides (Refused (BadSum want got)) no_frame = (tt, tt)
answer_other collides (Refused (BadKind x)) no_frame = (tt, tt)
answer_other collides (Refused Aborted) no_frame = tt

-- an event that answers no good frame
abbrev pub IsNoAnswer : ChipEvent → Type 0
IsNoAnswer (Judged item way) = IsNoFrame item
IsNoAnswer event = Unit {0}

pub event_other : (s : ChipState) (event : ChipEvent) → IsNoAnswer event → AreOther (outs s event)
event_other s (Judged item way) no_answer =
    all-append IsOther (answer_outs (collides s) item) (judged_outs (passed (collides s) item) (heard s item) way)
    (answer_other (collides s) item no_answer) (judged_other (passed (collides s) item) (heard s item) way)
event_other s Ticked no_answer =
    all-append IsOther (written (copy_due s.port.side.turn)) (served_outs (ticked s.port)) (written_other (copy_due s.port.side.turn))
    (written_other (next_at (ticked s.port).side.turn (ticked s.port).waiting))
event_other s (Heard n payload) no_answer = queued_other s.port.side.turn s.port _
event_other s (Done status) no_answer = done_other (s.aborted == 0) s status
event_other s (Informed n profile) no_answer = queued_other s.port.side.turn s.port _
event_other s (Joined n listening) no_answer = tt
event_other s (Linked a b live) no_answer = tt
event_other s (Forgets a b) no_answer = tt
event_other s Collides no_answer = tt

-- ---- collisions

abbrev left : ChipState → ℕ
left s = s.port.side.collisions

if_left : (b : Bool) (p q : PortState) (n : ℕ) → p.side.collisions ≡ n → q.side.collisions ≡ n → (if b then p else q).side.collisions ≡ n
if_left true p q n one two = one
if_left false p q n one two = two

queued_left : (turn : Turn) (p : PortState) (f : FrameParts) → (queued_at turn p f).side.collisions ≡ p.side.collisions
queued_left Idle p f = refl
queued_left (Copied g copies ticks) p f = if_left (is_full p.waiting) p (record { side = p.side; waiting = p.waiting ++ f ∷ [] }) p.side.collisions refl refl
queued_left (Paused g copies ticks) p f = if_left (is_full p.waiting) p (record { side = p.side; waiting = p.waiting ++ f ∷ [] }) p.side.collisions refl refl

served_left : (turn : Turn) (waiting : List FrameParts) (side : Side) → (served_at turn waiting side).side.collisions ≡ side.collisions
served_left Idle [] side = refl
served_left Idle (f ∷ waiting) side = refl
served_left (Copied g copies ticks) waiting side = refl
served_left (Paused g copies ticks) waiting side = refl

given_left : (f : Option FrameParts) (s : ChipState) → left (given_if s f) ≡ left s
given_left None s = refl
given_left (Some f) s = queued_left s.port.side.turn s.port f

requested_left : (request : Option Request) (s : ChipState) → left (requested request s) ≡ left s
requested_left None s = refl
requested_left (Some request) s =
    ap (λ (p : PortState). p.side.collisions) (port_performed request (given_if s (reply_to s request))) ∙ given_left (reply_to s request) s

judged_left : (f : Option FrameParts) (s : ChipState) → left (judged_frame f s) ≡ left s
judged_left None s = served_left s.port.side.turn s.port.waiting s.port.side
judged_left (Some f) s = requested_left (asked f) s

ended_left : (sending : Option Sending) (s : ChipState) (status : TransmitStatus) → left (ended sending s status) ≡ left s
ended_left None s status = refl
ended_left (Some sending) s status = queued_left s.port.side.turn s.port (callback_frame sending status)

done_left : (b : Bool) (s : ChipState) (status : TransmitStatus) → left (if b then ended s.sending s status else record s { aborted = s.aborted - 1 }) ≡ left s
done_left true s status = ended_left s.sending s status
done_left false s status = refl

heard_left : (s : ChipState) (item : Item) → IsNoFrame item → left (heard s item) ≡ left s
heard_left s (Good Ack) no_frame = refl
heard_left s (Good Nak) no_frame = refl
heard_left s (Good Can) no_frame = refl
heard_left s (Good (Framed f)) no_frame = absurd no_frame
heard_left s (Refused r) no_frame = refl

-- an event that asks for no collision
abbrev pub AsksNoCollision : ChipEvent → Type 0
AsksNoCollision Collides = ⊥
AsksNoCollision event = Unit {0}

pub event_left : (s : ChipState) (event : ChipEvent) → IsNoAnswer event → AsksNoCollision event → left (after s event) ≡ left s
event_left s (Judged item way) no_answer asks_none = judged_left (passed (collides s) item) (heard s item) ∙ heard_left s item no_answer
event_left s Ticked no_answer asks_none = served_left (ticked s.port).side.turn (ticked s.port).waiting (ticked s.port).side
event_left s (Heard n payload) no_answer asks_none = queued_left s.port.side.turn s.port _
event_left s (Done status) no_answer asks_none = done_left (s.aborted == 0) s status
event_left s (Informed n profile) no_answer asks_none = queued_left s.port.side.turn s.port _
event_left s (Joined n listening) no_answer asks_none = refl
event_left s (Linked a b live) no_answer asks_none = refl
event_left s (Forgets a b) no_answer asks_none = refl
event_left s Collides no_answer asks_none = absurd asks_none

-- a good frame uses one up
pub frame_left : (s : ChipState) (f : FrameParts) (way : Option Route) → left (after s (Judged (Good (Framed f)) way)) ≡ left s - 1
frame_left s f way = judged_left (passed (collides s) (Good (Framed f))) (heard s (Good (Framed f)))
