-- The chip's link obeys the rules of the serial link, and the chip writes what its link puts out.
use Rattle.std.proofs.Common.{◌≡◌, ℕ, ◌+◌, ◌-◌, Bool, true, false, cond, eqb, List, [], ◌∷◌, ◌++◌, refl, ap, sym, ◌∙◌, subst, append_assoc}
use Rattle.std.specs.Prelude.{Option, Some, None, map, nat_lt}
use Rattle.std.specs.List.{flat_map}
use Rattle.std.proofs.lemmas.List.{append-nil}
use Rattle.std.proofs.lemmas.Grind.{flat_map-append}
use Rattle.serial_frame.specs.Frame.{FrameParts}
use Rattle.serial_frame.specs.declared.unit.Unit.{Unit as LineUnit}
use Rattle.serial_frame.specs.declared.unit.Unit.TheVariants.{Ack, Nak, Can, Framed}
use Rattle.serial_frame.specs.declared.item.Item.{Item}
use Rattle.serial_frame.specs.declared.item.Item.TheVariants.{Good, Refused}
use Rattle.serial_frame.specs.declared.item.Refusal.TheVariants.{Stray, BadLength, BadSum, BadKind, Aborted}
use Rattle.serial_link.specs.State.{Side, hear, hear_outs, answer, outs_heard, outs_refused, outs_ended, outs_acknowledged, outs_ticked, pause_after, tick_side, copy_due}
use Rattle.serial_link.specs.Rules.{Step, SideObeys, outs_of, heard as hears}
use Rattle.serial_link.specs.Calls.{submit_step, tick_step}
use Rattle.serial_link.specs.declared.turn.Turn.{Turn}
use Rattle.serial_link.specs.declared.turn.Turn.TheVariants.{Idle, Copied, Paused}
use Rattle.serial_link.specs.declared.out.LinkOut.{LinkOut}
use Rattle.serial_link.specs.declared.out.LinkOut.TheVariants.{Write as Writes, Failed}
use Rattle.serial_link.proofs.Counting.{outs_of-append}
use Rattle.serial_link.proofs.RulesKept.{side_hears_all, side_ticks_after, side_submits, side_asks}
use Rattle.route_table.specs.declared.route.Route.{Route}
use Rattle.chip_functions.specs.declared.request.Request.{Request}
use Rattle.chip_functions.specs.declared.request.Request.TheVariants.{GetInitData, GetCapabilities, SendData, GetVersion, SendDataAbort, MemoryGetId, GetNodeProtocolInfo, AddNode, RequestNodeInfo, IsFailedNode, GetRoutingInfo}
use Rattle.chip_functions.specs.declared.notice.TransmitStatus.{TransmitStatus}
use Rattle.chip_sim.specs.Waiting.{PortState, is_full, queued, queued_outs, next_at, served, served_outs, ticked, written}
use Rattle.chip_sim.specs.State.{ChipState}
use Rattle.chip_sim.specs.Answers.{takes}
use Rattle.chip_sim.specs.Requests.{passed, asked, answer_outs, given_if, given_outs, reply_to, reply_if, performed_outs, sent, requested, requested_outs, heard, judged_frame, judged_outs, callback_frame}
use Rattle.chip_sim.specs.Events.{ChipEvent, Judged, Ticked, Heard, Done, Informed, Joined, Linked, Forgets, Collides, after, outs, collides, ended, ended_outs}
use Rattle.chip_sim.specs.Rules.{listed, begun_posts, begun_at, judged_begun, judged_posts, ended_posts}
use Rattle.chip_sim.specs.Link.{link_event, link_steps, chip_unit, link_unit, chip_units, link_units}
use Rattle.chip_sim.specs.declared.out.Sending.{Sending}
use Rattle.chip_sim.specs.declared.out.ChipOut.{ChipOut}
use Rattle.chip_sim.specs.declared.out.ChipOut.TheVariants.{Full}
use Rattle.chip_sim.proofs.Ports.{port_of, none_begun}
use Rattle.chip_sim.proofs.Steps.{port_performed}

abbrev submits : List FrameParts → List Step
submits frames = map (λ f. submit_step f) frames

-- a history is as it was where nothing is submitted
still : (h : List Step) (side : Side) → SideObeys h side → SideObeys (h ++ []) side
still h side obeys = subst (λ (t : List Step). SideObeys t side) (sym (append-nil h)) obeys

obeys_either : (b : Bool) (h : List Step) (side : Side) (w v : List FrameParts) → SideObeys h side
    → SideObeys (h ++ []) (cond {A = PortState} b (record { side = side; waiting = w }) (record { side = side; waiting = v })).side
obeys_either true h side w v obeys = still h side obeys
obeys_either false h side w v obeys = still h side obeys

obeys_queued_by : (turn : Turn) (n : ℕ) (waiting : List FrameParts) (f : FrameParts) (h : List Step) → SideObeys h (record { turn = turn; collisions = n })
    → SideObeys (h ++ submits (begun_posts turn (f ∷ []))) (queued (port_of turn n waiting) f).side
obeys_queued_by Idle n waiting f h obeys = side_submits h _ f refl obeys
obeys_queued_by (Copied g copies ticks) n waiting f h obeys = obeys_either (is_full waiting) h (record { turn = Copied g copies ticks; collisions = n }) waiting (waiting ++ f ∷ []) obeys
obeys_queued_by (Paused g copies ticks) n waiting f h obeys = obeys_either (is_full waiting) h (record { turn = Paused g copies ticks; collisions = n }) waiting (waiting ++ f ∷ []) obeys

obeys_queued : (p : PortState) (f : FrameParts) (h : List Step) → SideObeys h p.side → SideObeys (h ++ submits (begun_posts p.side.turn (f ∷ []))) (queued p f).side
obeys_queued p f h obeys = obeys_queued_by p.side.turn p.side.collisions p.waiting f h obeys

obeys_served_by : (turn : Turn) (n : ℕ) (waiting : List FrameParts) (h : List Step) → SideObeys h (record { turn = turn; collisions = n })
    → SideObeys (h ++ submits (listed (next_at turn waiting))) (served (port_of turn n waiting)).side
obeys_served_by Idle n [] h obeys = still h _ obeys
obeys_served_by Idle n (f ∷ waiting) h obeys = side_submits h _ f refl obeys
obeys_served_by (Copied g copies ticks) n waiting h obeys = still h _ obeys
obeys_served_by (Paused g copies ticks) n waiting h obeys = still h _ obeys

obeys_served : (p : PortState) (h : List Step) → SideObeys h p.side → SideObeys (h ++ submits (listed (next_at p.side.turn p.waiting))) (served p).side
obeys_served p h obeys = obeys_served_by p.side.turn p.side.collisions p.waiting h obeys

obeys_given : (o : Option FrameParts) (s : ChipState) (h : List Step) → SideObeys h s.port.side → SideObeys (h ++ submits (begun_posts s.port.side.turn (listed o))) (given_if s o).port.side
obeys_given None s h obeys = subst (λ (t : List FrameParts). SideObeys (h ++ submits t) s.port.side) (sym (none_begun s.port.side.turn)) (still h s.port.side obeys)
obeys_given (Some f) s h obeys = obeys_queued s.port f h obeys

obeys_requested : (r : Option Request) (s : ChipState) (h : List Step) → SideObeys h s.port.side → SideObeys (h ++ submits (begun_posts s.port.side.turn (listed (reply_if s r)))) (requested r s).port.side
obeys_requested None s h obeys = obeys_given None s h obeys
obeys_requested (Some r) s h obeys =
    subst (λ (p : PortState). SideObeys (h ++ submits (begun_posts s.port.side.turn (listed (reply_to s r)))) p.side) (sym (port_performed r (given_if s (reply_to s r))))
    (obeys_given (reply_to s r) s h obeys)

obeys_judged : (b : Bool) (item : Item) (s : ChipState) (h : List Step) → SideObeys h (heard s item).port.side
    → SideObeys (h ++ submits (judged_begun (passed b item) (heard s item))) (judged_frame (passed b item) (heard s item)).port.side
obeys_judged true item s h obeys = obeys_served (heard s item).port h obeys
obeys_judged false (Good Ack) s h obeys = obeys_served (heard s (Good Ack)).port h obeys
obeys_judged false (Good Nak) s h obeys = obeys_served (heard s (Good Nak)).port h obeys
obeys_judged false (Good Can) s h obeys = obeys_served (heard s (Good Can)).port h obeys
obeys_judged false (Good (Framed f)) s h obeys = obeys_requested (asked f) (heard s (Good (Framed f))) h obeys
obeys_judged false (Refused r) s h obeys = obeys_served (heard s (Refused r)).port h obeys

obeys_ended : (o : Option Sending) (s : ChipState) (status : TransmitStatus) (h : List Step) → SideObeys h s.port.side
    → SideObeys (h ++ submits (begun_posts s.port.side.turn (ended_posts o status))) (ended o s status).port.side
obeys_ended None s status h obeys = obeys_given None s h obeys
obeys_ended (Some sending) s status h obeys = obeys_queued s.port (callback_frame sending status) h obeys

abbrev done_if : Bool → ChipState → TransmitStatus → ChipState
done_if b s status = cond b (ended s.sending s status) (record s { aborted = s.aborted - 1 })

obeys_done : (b : Bool) (s : ChipState) (status : TransmitStatus) (h : List Step) → SideObeys h s.port.side
    → SideObeys (h ++ submits (begun_posts s.port.side.turn (cond b (ended_posts s.sending status) []))) (done_if b s status).port.side
obeys_done true s status h obeys = obeys_ended s.sending s status h obeys
obeys_done false s status h obeys = obeys_given None s h obeys

-- two steps one after the other
obeys_after : (h more rest : List Step) (side : Side) → SideObeys ((h ++ more) ++ rest) side → SideObeys (h ++ (more ++ rest)) side
obeys_after h more rest side obeys = subst (λ (t : List Step). SideObeys t side) (append_assoc h more rest) obeys

pub obeys_event : (s : ChipState) (e : ChipEvent) (h : List Step) → SideObeys h s.port.side → SideObeys (h ++ link_steps s e) (after s e).port.side
obeys_event s (Judged item way) h obeys =
    obeys_after h (link_event s (Judged item way)) (submits (begun_at s (Judged item way))) _
    (obeys_judged (collides s) item s (h ++ link_event s (Judged item way)) (side_hears_all h s.port.side (item ∷ []) obeys))
obeys_event s Ticked h obeys =
    obeys_after h (link_event s Ticked) (submits (begun_at s Ticked)) _
    (obeys_served (ticked s.port) (h ++ link_event s Ticked) (side_ticks_after h s.port.side [] obeys))
obeys_event s (Heard n payload) h obeys = obeys_queued s.port _ h obeys
obeys_event s (Done status) h obeys = obeys_done (eqb s.aborted 0) s status h obeys
obeys_event s (Informed n profile) h obeys = obeys_queued s.port _ h obeys
obeys_event s (Joined n listening) h obeys = still h s.port.side obeys
obeys_event s (Linked a b live) h obeys = still h s.port.side obeys
obeys_event s (Forgets a b) h obeys = still h s.port.side obeys
obeys_event s Collides h obeys = side_asks h s.port.side (record { turn = s.port.side.turn; collisions = s.port.side.collisions + 1 }) refl refl obeys

-- what is written

abbrev frames_units : List FrameParts → List LineUnit
frames_units frames = map (λ f. Framed f) frames

-- submitted frames are written
units_submits : (frames : List FrameParts) → link_units (submits frames) ≡ frames_units frames
units_submits [] = refl
units_submits (f ∷ frames) = ap (λ (t : List LineUnit). Framed f ∷ t) (units_submits frames)

units_either : (b : Bool) → chip_units (cond b (Full ∷ []) []) ≡ []
units_either true = refl
units_either false = refl

units_queued_by : (turn : Turn) (n : ℕ) (waiting : List FrameParts) (f : FrameParts) → chip_units (queued_outs (port_of turn n waiting) f) ≡ frames_units (begun_posts turn (f ∷ []))
units_queued_by Idle n waiting f = refl
units_queued_by (Copied g copies ticks) n waiting f = units_either (is_full waiting)
units_queued_by (Paused g copies ticks) n waiting f = units_either (is_full waiting)

units_queued : (p : PortState) (f : FrameParts) → chip_units (queued_outs p f) ≡ frames_units (begun_posts p.side.turn (f ∷ []))
units_queued p f = units_queued_by p.side.turn p.side.collisions p.waiting f

units_written : (next : Option FrameParts) → chip_units (written next) ≡ frames_units (listed next)
units_written None = refl
units_written (Some f) = refl

units_given : (o : Option FrameParts) (s : ChipState) → chip_units (given_outs s o) ≡ frames_units (begun_posts s.port.side.turn (listed o))
units_given None s = sym (ap frames_units (none_begun s.port.side.turn))
units_given (Some f) s = units_queued s.port f

units_sent : (n : ℕ) (payload : List ℕ) (way : Option Route) (b : Bool) → chip_units (cond b (sent n payload way) []) ≡ []
units_sent n payload None true = refl
units_sent n payload (Some r) true = refl
units_sent n payload way false = refl

pub units_performed : (r : Request) (s : ChipState) (way : Option Route) → chip_units (performed_outs r s way) ≡ []
units_performed GetInitData s way = refl
units_performed GetCapabilities s way = refl
units_performed (SendData n payload options id) s way = units_sent n payload way (takes s n payload)
units_performed GetVersion s way = refl
units_performed SendDataAbort s way = refl
units_performed MemoryGetId s way = refl
units_performed (GetNodeProtocolInfo n) s way = refl
units_performed (AddNode mode id) s way = refl
units_performed (RequestNodeInfo n) s way = refl
units_performed (IsFailedNode n) s way = refl
units_performed (GetRoutingInfo n x y z) s way = refl

units_requested : (r : Option Request) (s : ChipState) (way : Option Route) → chip_units (requested_outs r s way) ≡ frames_units (begun_posts s.port.side.turn (listed (reply_if s r)))
units_requested None s way = units_given None s
units_requested (Some r) s way =
    flat_map-append chip_unit (given_outs s (reply_to s r)) (performed_outs r s way)
    ∙ ap (λ (t : List LineUnit). chip_units (given_outs s (reply_to s r)) ++ t) (units_performed r s way)
    ∙ append-nil (chip_units (given_outs s (reply_to s r)))
    ∙ units_given (reply_to s r) s

units_judged : (b : Bool) (item : Item) (s : ChipState) (way : Option Route) → chip_units (judged_outs (passed b item) (heard s item) way) ≡ frames_units (judged_begun (passed b item) (heard s item))
units_judged true item s way = units_written (next_at (heard s item).port.side.turn s.port.waiting)
units_judged false (Good Ack) s way = units_written (next_at (heard s (Good Ack)).port.side.turn s.port.waiting)
units_judged false (Good Nak) s way = units_written (next_at (heard s (Good Nak)).port.side.turn s.port.waiting)
units_judged false (Good Can) s way = units_written (next_at (heard s (Good Can)).port.side.turn s.port.waiting)
units_judged false (Good (Framed f)) s way = units_requested (asked f) (heard s (Good (Framed f))) way
units_judged false (Refused r) s way = units_written (next_at (heard s (Refused r)).port.side.turn s.port.waiting)

units_answer : (b : Bool) (item : Item) → chip_units (answer_outs b item) ≡ flat_map link_unit (answer b item)
units_answer b (Good Ack) = refl
units_answer b (Good Nak) = refl
units_answer b (Good Can) = refl
units_answer true (Good (Framed f)) = refl
units_answer false (Good (Framed f)) = refl
units_answer b (Refused (Stray x)) = refl
units_answer b (Refused (BadLength n)) = refl
units_answer b (Refused (BadSum want got)) = refl
units_answer b (Refused (BadKind x)) = refl
units_answer b (Refused Aborted) = refl

units_failed : (b : Bool) → flat_map link_unit (cond b (Failed 4 ∷ []) []) ≡ []
units_failed true = refl
units_failed false = refl

pub units_refused : (turn : Turn) → flat_map link_unit (outs_refused turn) ≡ []
units_refused Idle = refl
units_refused (Copied f copies ticks) = units_failed (eqb copies 4)
units_refused (Paused f copies ticks) = refl

pub units_acknowledged : (turn : Turn) → flat_map link_unit (outs_acknowledged turn) ≡ []
units_acknowledged Idle = refl
units_acknowledged (Copied f copies ticks) = refl
units_acknowledged (Paused f copies ticks) = refl

pub units_own : (turn : Turn) (item : Item) → flat_map link_unit (outs_heard turn item) ≡ []
units_own turn (Good Ack) = units_acknowledged turn
units_own turn (Good Nak) = units_refused turn
units_own turn (Good Can) = units_refused turn
units_own turn (Good (Framed f)) = refl
units_own turn (Refused r) = refl

-- what the link puts out at an item
units_heard : (side : Side) (item : Item) → flat_map link_unit (hear_outs side item) ≡ chip_units (answer_outs (nat_lt 0 side.collisions) item)
units_heard side item =
    flat_map-append link_unit (answer (nat_lt 0 side.collisions) item) (outs_heard side.turn item)
    ∙ ap (λ (t : List LineUnit). flat_map link_unit (answer (nat_lt 0 side.collisions) item) ++ t) (units_own side.turn item)
    ∙ append-nil (flat_map link_unit (answer (nat_lt 0 side.collisions) item))
    ∙ sym (units_answer (nat_lt 0 side.collisions) item)

units_due : (b : Bool) (f : FrameParts) → chip_units (written (cond b (Some f) None)) ≡ flat_map link_unit (cond b (Writes (Framed f) ∷ []) [])
units_due true f = refl
units_due false f = refl

units_two : (a b : Bool) → flat_map link_unit (cond a (cond b (Failed 4 ∷ []) []) []) ≡ []
units_two true b = units_failed b
units_two false b = refl

units_ticked : (turn : Turn) → chip_units (written (copy_due turn)) ≡ flat_map link_unit (outs_ticked turn)
units_ticked Idle = refl
units_ticked (Copied f copies ticks) = sym (units_two (eqb ticks 14) (eqb copies 4))
units_ticked (Paused f copies ticks) = units_due (eqb (ticks + 1) (pause_after copies)) f

-- the units of some steps and then of submitted frames
units_steps : (steps : List Step) (frames : List FrameParts) → link_units (steps ++ submits frames) ≡ link_units steps ++ frames_units frames
units_steps steps frames =
    ap (flat_map link_unit) (outs_of-append steps (submits frames))
    ∙ flat_map-append link_unit (outs_of steps) (outs_of (submits frames))
    ∙ ap (λ (t : List LineUnit). link_units steps ++ t) (units_submits frames)

units_one : (step : Step) → link_units (step ∷ []) ≡ flat_map link_unit step.outs
units_one step = ap (flat_map link_unit) (append-nil step.outs)

units_item : (s : ChipState) (item : Item) (way : Option Route) → chip_units (outs s (Judged item way)) ≡ link_units (link_steps s (Judged item way))
units_item s item way =
    let judged = judged_outs (passed (collides s) item) (heard s item) way in
    let begun = judged_begun (passed (collides s) item) (heard s item) in
    let step : Step = record { event = hears item; outs = hear_outs s.port.side item } in
    flat_map-append chip_unit (answer_outs (collides s) item) judged
    ∙ ap (λ (t : List LineUnit). t ++ chip_units judged) (sym (units_heard s.port.side item) ∙ sym (units_one step))
    ∙ ap (λ (t : List LineUnit). link_units (step ∷ []) ++ t) (units_judged (collides s) item s way)
    ∙ sym (units_steps (step ∷ []) begun)

units_tick : (s : ChipState) → chip_units (outs s Ticked) ≡ link_units (link_steps s Ticked)
units_tick s =
    let copy = copy_due s.port.side.turn in
    let next = next_at (ticked s.port).side.turn s.port.waiting in
    flat_map-append chip_unit (written copy) (written next)
    ∙ ap (λ (t : List LineUnit). t ++ chip_units (written next)) (units_ticked s.port.side.turn ∙ sym (units_one (tick_step s.port.side)))
    ∙ ap (λ (t : List LineUnit). link_units (tick_step s.port.side ∷ []) ++ t) (units_written next)
    ∙ sym (units_steps (tick_step s.port.side ∷ []) (listed next))

units_ended : (o : Option Sending) (s : ChipState) (status : TransmitStatus) → chip_units (ended_outs o s status) ≡ frames_units (begun_posts s.port.side.turn (ended_posts o status))
units_ended None s status = units_given None s
units_ended (Some sending) s status = units_queued s.port (callback_frame sending status)

units_done : (b : Bool) (s : ChipState) (status : TransmitStatus)
    → chip_units (cond b (ended_outs s.sending s status) []) ≡ frames_units (begun_posts s.port.side.turn (cond b (ended_posts s.sending status) []))
units_done true s status = units_ended s.sending s status
units_done false s status = units_given None s

pub units_event : (s : ChipState) (e : ChipEvent) → chip_units (outs s e) ≡ link_units (link_steps s e)
units_event s (Judged item way) = units_item s item way
units_event s Ticked = units_tick s
units_event s (Heard n payload) = units_queued s.port _ ∙ sym (units_submits (begun_at s (Heard n payload)))
units_event s (Done status) = units_done (eqb s.aborted 0) s status ∙ sym (units_submits (begun_at s (Done status)))
units_event s (Informed n profile) = units_queued s.port _ ∙ sym (units_submits (begun_at s (Informed n profile)))
units_event s (Joined n listening) = refl
units_event s (Linked a b live) = refl
units_event s (Forgets a b) = refl
units_event s Collides = refl
