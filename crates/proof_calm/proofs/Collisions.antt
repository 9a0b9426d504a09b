-- Which collisions the chip's link is still to make after an event.
use Rattle.std.proofs.Common.{◌≡◌, ℕ, ◌-◌, ◌==◌, Bool, true, false, if◌then◌else◌, List, [], ◌∷◌, ◌++◌, refl, ap, ◌∙◌}
use Rattle.std.specs.Prelude.{Option, Some, None}
use Rattle.serial_frame.specs.Frame.{FrameParts}
use Rattle.serial_frame.specs.declared.item.Item.{Item}
use Rattle.serial_frame.specs.declared.item.Item.TheVariants.{Good, Refused}
use Rattle.serial_frame.specs.declared.unit.Unit.TheVariants.{Ack, Nak, Can, Framed}
use Rattle.serial_link.specs.State.{Side}
use Rattle.serial_link.specs.declared.turn.Turn.{Turn}
use Rattle.serial_link.specs.declared.turn.Turn.TheVariants.{Idle, Copied, Paused}
use Rattle.route_table.specs.declared.route.Route.{Route}
use Rattle.chip_functions.specs.declared.request.Request.{Request}
use Rattle.chip_functions.specs.declared.notice.TransmitStatus.{TransmitStatus}
use Rattle.chip_sim.specs.Waiting.{PortState, is_full, queued_at, served_at, ticked}
use Rattle.chip_sim.specs.State.{ChipState}
use Rattle.chip_sim.specs.Requests.{passed, asked, given_if, reply_to, requested, heard, judged_frame, callback_frame}
use Rattle.chip_sim.specs.Events.{ChipEvent, Judged, Ticked, Heard, Done, Informed, Joined, Linked, Forgets, Collides, after, collides, ended}
use Rattle.chip_sim.specs.declared.out.Sending.{Sending}
use Rattle.chip_sim.proofs.Steps.{port_performed}

-- an item that is no good frame
abbrev pub IsNoFrame : Item → Type 0
IsNoFrame (Good (Framed f)) = ⊥
IsNoFrame _ = Unit {0}

-- an event that answers no good frame
abbrev pub IsNoAnswer : ChipEvent → Type 0
IsNoAnswer (Judged item way) = IsNoFrame item
IsNoAnswer event = Unit {0}

-- ---- collisions

abbrev left : ChipState → ℕ
left s = s.port.side.collisions

if_left : (b : Bool) (p q : PortState) (n : ℕ) → p.side.collisions ≡ n → q.side.collisions ≡ n → (if b then p else q).side.collisions ≡ n
if_left true p q n one two = one
if_left false p q n one two = two

queued_left : (turn : Turn) (p : PortState) (f : FrameParts) → (queued_at turn p f).side.collisions ≡ p.side.collisions
queued_left Idle p f = refl
queued_left (Copied g copies ticks) p f = if_left (is_full p.waiting) p (record { side = p.side; waiting = p.waiting ++ f ∷ [] }) p.side.collisions refl refl
queued_left (Paused g copies ticks) p f = if_left (is_full p.waiting) p (record { side = p.side; waiting = p.waiting ++ f ∷ [] }) p.side.collisions refl refl

served_left : (turn : Turn) (waiting : List FrameParts) (side : Side) → (served_at turn waiting side).side.collisions ≡ side.collisions
served_left Idle [] side = refl
served_left Idle (f ∷ waiting) side = refl
served_left (Copied g copies ticks) waiting side = refl
served_left (Paused g copies ticks) waiting side = refl

given_left : (f : Option FrameParts) (s : ChipState) → left (given_if s f) ≡ left s
given_left None s = refl
given_left (Some f) s = queued_left s.port.side.turn s.port f

requested_left : (request : Option Request) (s : ChipState) → left (requested request s) ≡ left s
requested_left None s = refl
requested_left (Some request) s =
    ap (λ (p : PortState). p.side.collisions) (port_performed request (given_if s (reply_to s request))) ∙ given_left (reply_to s request) s

judged_left : (f : Option FrameParts) (s : ChipState) → left (judged_frame f s) ≡ left s
judged_left None s = served_left s.port.side.turn s.port.waiting s.port.side
judged_left (Some f) s = requested_left (asked f) s

ended_left : (sending : Option Sending) (s : ChipState) (status : TransmitStatus) → left (ended sending s status) ≡ left s
ended_left None s status = refl
ended_left (Some sending) s status = queued_left s.port.side.turn s.port (callback_frame sending status)

done_left : (b : Bool) (s : ChipState) (status : TransmitStatus) → left (if b then ended s.sending s status else record s { aborted = s.aborted - 1 }) ≡ left s
done_left true s status = ended_left s.sending s status
done_left false s status = refl

heard_left : (s : ChipState) (item : Item) → IsNoFrame item → left (heard s item) ≡ left s
heard_left s (Good Ack) no_frame = refl
heard_left s (Good Nak) no_frame = refl
heard_left s (Good Can) no_frame = refl
heard_left s (Good (Framed f)) no_frame = absurd no_frame
heard_left s (Refused r) no_frame = refl

-- an event that asks for no collision
abbrev pub AsksNoCollision : ChipEvent → Type 0
AsksNoCollision Collides = ⊥
AsksNoCollision event = Unit {0}

pub event_left : (s : ChipState) (event : ChipEvent) → IsNoAnswer event → AsksNoCollision event → left (after s event) ≡ left s
event_left s (Judged item way) no_answer asks_none = judged_left (passed (collides s) item) (heard s item) ∙ heard_left s item no_answer
event_left s Ticked no_answer asks_none = served_left (ticked s.port).side.turn (ticked s.port).waiting (ticked s.port).side
event_left s (Heard n payload) no_answer asks_none = queued_left s.port.side.turn s.port _
event_left s (Done status) no_answer asks_none = done_left (s.aborted == 0) s status
event_left s (Informed n profile) no_answer asks_none = queued_left s.port.side.turn s.port _
event_left s (Joined n listening) no_answer asks_none = refl
event_left s (Linked a b live) no_answer asks_none = refl
event_left s (Forgets a b) no_answer asks_none = refl
event_left s Collides no_answer asks_none = absurd asks_none

-- a good frame uses one up
pub frame_left : (s : ChipState) (f : FrameParts) (way : Option Route) → left (after s (Judged (Good (Framed f)) way)) ≡ left s - 1
frame_left s f way = judged_left (passed (collides s) (Good (Framed f))) (heard s (Good (Framed f)))
