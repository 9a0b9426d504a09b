-- Each event keeps the rules.
use Rattle.std.proofs.Common.{◌≡◌, ℕ, suc, ◌+◌, ◌-◌, ◌≤◌, ◌<◌, Bool, true, false, cond, eqb, List, [], ◌∷◌, ◌++◌, length, refl, ap, sym, ◌∙◌, subst, arith}
use Rattle.std.specs.Prelude.{Option, Some, None, map, filter, replicate}
use Rattle.std.proofs.lemmas.List.{append-nil}
use Rattle.std.proofs.lemmas.List.Elements.{filter-append}
use Rattle.serial_frame.specs.Frame.{FrameParts}
use Rattle.serial_frame.specs.declared.item.Item.{Item}
use Rattle.serial_frame.specs.declared.item.Item.TheVariants.{Good, Refused}
use Rattle.serial_frame.specs.declared.item.Refusal.TheVariants.{Stray, BadLength, BadSum, BadKind, Aborted}
use Rattle.serial_frame.specs.declared.unit.Unit.TheVariants.{Ack, Nak, Can, Framed}
use Rattle.serial_link.specs.State.{copy_due}
use Rattle.chip_functions.specs.declared.request.Request.{Request}
use Rattle.chip_functions.specs.declared.request.Request.TheVariants.{GetInitData, GetCapabilities, SendData, GetVersion, SendDataAbort, MemoryGetId, GetNodeProtocolInfo, AddNode, RequestNodeInfo, IsFailedNode, GetRoutingInfo}
use Rattle.chip_functions.specs.declared.notice.TransmitStatus.{TransmitStatus}
use Rattle.route_table.specs.declared.route.Route.{Route}
use Rattle.chip_sim.specs.Waiting.{PortState, is_full, ticked, next_at, written}
use Rattle.chip_sim.specs.State.{ChipState}
use Rattle.chip_sim.specs.Answers.{takes}
use Rattle.chip_sim.specs.Requests.{passed, asked, answer_outs, given, given_if, given_outs, stopped, reply_to, reply_if, performed, performed_outs, sent, requested, requested_outs, heard, judged_frame, judged_outs, callback_frame}
use Rattle.chip_sim.specs.Events.{ChipEvent, Judged, Ticked, Heard, Done, Informed, Joined, Linked, Forgets, Collides, after, outs, collides, ended, ended_outs}
use Rattle.chip_sim.specs.Rules.{listed, posts, judged_posts, ended_posts, kept, begun_posts, begun_at, judged_begun, WaitsWell, is_drop, drops}
use Rattle.chip_sim.specs.declared.out.Sending.{Sending}
use Rattle.chip_sim.specs.declared.out.ChipOut.{ChipOut}
use Rattle.chip_sim.specs.declared.out.ChipOut.TheVariants.{Full}
use Rattle.chip_sim.proofs.Ports.{well_queued, well_served, order_queued, order_served, none_begun, both_none, drop_queued, drop_written}

-- what a request does leaves the port

abbrev sending_if : Bool → ChipState → Sending → ChipState
sending_if b s sending = cond b (record s { sending = Some sending }) s

port_sending : (b : Bool) (s : ChipState) (sending : Sending) → (sending_if b s sending).port ≡ s.port
port_sending true s sending = refl
port_sending false s sending = refl

port_stopped : (o : Option Sending) (s : ChipState) → (stopped o s).port ≡ s.port
port_stopped None s = refl
port_stopped (Some sending) s = refl

pub port_performed : (r : Request) (s : ChipState) → (performed r s).port ≡ s.port
port_performed GetInitData s = refl
port_performed GetCapabilities s = refl
port_performed (SendData n payload options id) s = port_sending (takes s n payload) s (record { node = n; callback_id = id })
port_performed GetVersion s = refl
port_performed SendDataAbort s = port_stopped s.sending s
port_performed MemoryGetId s = refl
port_performed (GetNodeProtocolInfo n) s = refl
port_performed (AddNode mode id) s = refl
port_performed (RequestNodeInfo n) s = refl
port_performed (IsFailedNode n) s = refl
port_performed (GetRoutingInfo n x y z) s = refl

-- frames wait only while the link is busy

well_given : (o : Option FrameParts) (s : ChipState) → WaitsWell s.port → WaitsWell (given_if s o).port
well_given None s well = well
well_given (Some f) s well = well_queued s.port f well

well_requested : (r : Option Request) (s : ChipState) → WaitsWell s.port → WaitsWell (requested r s).port
well_requested None s well = well
well_requested (Some r) s well = subst WaitsWell (sym (port_performed r (given_if s (reply_to s r)))) (well_given (reply_to s r) s well)

well_judged : (b : Bool) (item : Item) (s : ChipState) → WaitsWell s.port → WaitsWell (judged_frame (passed b item) (heard s item)).port
well_judged true item s well = well_served (heard s item).port well.few
well_judged false (Good Ack) s well = well_served (heard s (Good Ack)).port well.few
well_judged false (Good Nak) s well = well_served (heard s (Good Nak)).port well.few
well_judged false (Good Can) s well = well_served (heard s (Good Can)).port well.few
well_judged false (Good (Framed f)) s well = well_requested (asked f) (heard s (Good (Framed f))) (record { busy = well.busy; few = well.few })
well_judged false (Refused r) s well = well_served (heard s (Refused r)).port well.few

well_ended : (o : Option Sending) (s : ChipState) (status : TransmitStatus) → WaitsWell s.port → WaitsWell (ended o s status).port
well_ended None s status well = well
well_ended (Some sending) s status well = well_queued s.port (callback_frame sending status) well

abbrev done_if : Bool → ChipState → TransmitStatus → ChipState
done_if b s status = cond b (ended s.sending s status) (record s { aborted = s.aborted - 1 })

well_done : (b : Bool) (s : ChipState) (status : TransmitStatus) → WaitsWell s.port → WaitsWell (done_if b s status).port
well_done true s status well = well_ended s.sending s status well
well_done false s status well = well

pub well_event : (s : ChipState) (e : ChipEvent) → WaitsWell s.port → WaitsWell (after s e).port
well_event s (Judged item way) well = well_judged (collides s) item s well
well_event s Ticked well = well_served (ticked s.port) well.few
well_event s (Heard n payload) well = well_queued s.port _ well
well_event s (Done status) well = well_done (eqb s.aborted 0) s status well
well_event s (Informed n profile) well = well_queued s.port _ well
well_event s (Joined n listening) well = well
well_event s (Linked a b live) well = well
well_event s (Forgets a b) well = well
well_event s Collides well = record { busy = well.busy; few = well.few }

-- frames keep their order

order_given : (o : Option FrameParts) (s : ChipState) → WaitsWell s.port
    → s.port.waiting ++ cond (is_full s.port.waiting) [] (listed o) ≡ begun_posts s.port.side.turn (listed o) ++ (given_if s o).port.waiting
order_given None s well = rw (both_none (is_full s.port.waiting), none_begun s.port.side.turn) (append-nil s.port.waiting)
order_given (Some f) s well = order_queued s.port f well

order_requested : (r : Option Request) (s : ChipState) → WaitsWell s.port
    → s.port.waiting ++ cond (is_full s.port.waiting) [] (listed (reply_if s r)) ≡ begun_posts s.port.side.turn (listed (reply_if s r)) ++ (requested r s).port.waiting
order_requested None s well = order_given None s well
order_requested (Some r) s well =
    order_given (reply_to s r) s well
    ∙ ap (λ (p : PortState). begun_posts s.port.side.turn (listed (reply_to s r)) ++ p.waiting) (sym (port_performed r (given_if s (reply_to s r))))

-- an item that is not passed up may let the next one be written
order_other : (s : ChipState) (item : Item) (well : WaitsWell s.port)
    → s.port.waiting ++ cond (is_full s.port.waiting) [] [] ≡ judged_begun None (heard s item) ++ (judged_frame None (heard s item)).port.waiting
order_other s item well = ap (λ (t : List FrameParts). s.port.waiting ++ t) (both_none (is_full s.port.waiting)) ∙ append-nil s.port.waiting ∙ order_served (heard s item).port

order_judged : (b : Bool) (item : Item) (s : ChipState) → WaitsWell s.port
    → s.port.waiting ++ cond (is_full s.port.waiting) [] (judged_posts (passed b item) (heard s item)) ≡ judged_begun (passed b item) (heard s item) ++ (judged_frame (passed b item) (heard s item)).port.waiting
order_judged true item s well = order_other s item well
order_judged false (Good Ack) s well = order_other s (Good Ack) well
order_judged false (Good Nak) s well = order_other s (Good Nak) well
order_judged false (Good Can) s well = order_other s (Good Can) well
order_judged false (Good (Framed f)) s well = order_requested (asked f) (heard s (Good (Framed f))) (record { busy = well.busy; few = well.few })
order_judged false (Refused r) s well = order_other s (Refused r) well

order_ended : (o : Option Sending) (s : ChipState) (status : TransmitStatus) → WaitsWell s.port
    → s.port.waiting ++ cond (is_full s.port.waiting) [] (ended_posts o status) ≡ begun_posts s.port.side.turn (ended_posts o status) ++ (ended o s status).port.waiting
order_ended None s status well = order_given None s well
order_ended (Some sending) s status well = order_queued s.port (callback_frame sending status) well

order_done : (b : Bool) (s : ChipState) (status : TransmitStatus) → WaitsWell s.port
    → s.port.waiting ++ cond (is_full s.port.waiting) [] (cond b (ended_posts s.sending status) []) ≡ begun_posts s.port.side.turn (cond b (ended_posts s.sending status) []) ++ (done_if b s status).port.waiting
order_done true s status well = order_ended s.sending s status well
order_done false s status well = order_given None s well

-- nothing is given
order_none : (s : ChipState) → s.port.waiting ++ cond (is_full s.port.waiting) [] [] ≡ s.port.waiting
order_none s = ap (λ (t : List FrameParts). s.port.waiting ++ t) (both_none (is_full s.port.waiting)) ∙ append-nil s.port.waiting

pub order_event : (s : ChipState) (e : ChipEvent) → WaitsWell s.port → s.port.waiting ++ kept s e ≡ begun_at s e ++ (after s e).port.waiting
order_event s (Judged item way) well = order_judged (collides s) item s well
order_event s Ticked well = order_none s ∙ order_served (ticked s.port)
order_event s (Heard n payload) well = order_queued s.port _ well
order_event s (Done status) well = order_done (eqb s.aborted 0) s status well
order_event s (Informed n profile) well = order_queued s.port _ well
order_event s (Joined n listening) well = order_none s
order_event s (Linked a b live) well = order_none s
order_event s (Forgets a b) well = order_none s
order_event s Collides well = order_none s

-- what is dropped

drop_given : (o : Option FrameParts) (s : ChipState) → WaitsWell s.port → filter is_drop (given_outs s o) ≡ cond (is_full s.port.waiting) (map (λ f. Full) (listed o)) []
drop_given None s well = sym (both_none (is_full s.port.waiting))
drop_given (Some f) s well = drop_queued s.port f well

drop_sent : (n : ℕ) (payload : List ℕ) (way : Option Route) (b : Bool) → filter is_drop (cond b (sent n payload way) []) ≡ []
drop_sent n payload None true = refl
drop_sent n payload (Some r) true = refl
drop_sent n payload way false = refl

drop_performed : (r : Request) (s : ChipState) (way : Option Route) → filter is_drop (performed_outs r s way) ≡ []
drop_performed GetInitData s way = refl
drop_performed GetCapabilities s way = refl
drop_performed (SendData n payload options id) s way = drop_sent n payload way (takes s n payload)
drop_performed GetVersion s way = refl
drop_performed SendDataAbort s way = refl
drop_performed MemoryGetId s way = refl
drop_performed (GetNodeProtocolInfo n) s way = refl
drop_performed (AddNode mode id) s way = refl
drop_performed (RequestNodeInfo n) s way = refl
drop_performed (IsFailedNode n) s way = refl
drop_performed (GetRoutingInfo n x y z) s way = refl

drop_requested : (r : Option Request) (s : ChipState) (way : Option Route) → WaitsWell s.port
    → filter is_drop (requested_outs r s way) ≡ cond (is_full s.port.waiting) (map (λ f. Full) (listed (reply_if s r))) []
drop_requested None s way well = sym (both_none (is_full s.port.waiting))
drop_requested (Some r) s way well =
    filter-append is_drop (given_outs s (reply_to s r)) (performed_outs r s way)
    ∙ ap (λ (t : List ChipOut). filter is_drop (given_outs s (reply_to s r)) ++ t) (drop_performed r s way)
    ∙ append-nil (filter is_drop (given_outs s (reply_to s r)))
    ∙ drop_given (reply_to s r) s well

drop_answer : (b : Bool) (item : Item) → filter is_drop (answer_outs b item) ≡ []
drop_answer b (Good Ack) = refl
drop_answer b (Good Nak) = refl
drop_answer b (Good Can) = refl
drop_answer true (Good (Framed f)) = refl
drop_answer false (Good (Framed f)) = refl
drop_answer b (Refused (Stray x)) = refl
drop_answer b (Refused (BadLength n)) = refl
drop_answer b (Refused (BadSum want got)) = refl
drop_answer b (Refused (BadKind x)) = refl
drop_answer b (Refused Aborted) = refl

drop_other : (s : ChipState) (item : Item) (way : Option Route) → filter is_drop (judged_outs None (heard s item) way) ≡ cond (is_full s.port.waiting) [] []
drop_other s item way = drop_written (next_at (heard s item).port.side.turn s.port.waiting) ∙ sym (both_none (is_full s.port.waiting))

drop_judged : (b : Bool) (item : Item) (s : ChipState) (way : Option Route) → WaitsWell s.port
    → filter is_drop (judged_outs (passed b item) (heard s item) way) ≡ cond (is_full s.port.waiting) (map (λ f. Full) (judged_posts (passed b item) (heard s item))) []
drop_judged true item s way well = drop_other s item way
drop_judged false (Good Ack) s way well = drop_other s (Good Ack) way
drop_judged false (Good Nak) s way well = drop_other s (Good Nak) way
drop_judged false (Good Can) s way well = drop_other s (Good Can) way
drop_judged false (Good (Framed f)) s way well = drop_requested (asked f) (heard s (Good (Framed f))) way (record { busy = well.busy; few = well.few })
drop_judged false (Refused r) s way well = drop_other s (Refused r) way

drop_item : (s : ChipState) (item : Item) (way : Option Route) → WaitsWell s.port → filter is_drop (outs s (Judged item way)) ≡ drops s (Judged item way)
drop_item s item way well =
    filter-append is_drop (answer_outs (collides s) item) (judged_outs (passed (collides s) item) (heard s item) way)
    ∙ ap (λ (t : List ChipOut). t ++ filter is_drop (judged_outs (passed (collides s) item) (heard s item) way)) (drop_answer (collides s) item)
    ∙ drop_judged (collides s) item s way well

drop_ended : (o : Option Sending) (s : ChipState) (status : TransmitStatus) → WaitsWell s.port
    → filter is_drop (ended_outs o s status) ≡ cond (is_full s.port.waiting) (map (λ f. Full) (ended_posts o status)) []
drop_ended None s status well = sym (both_none (is_full s.port.waiting))
drop_ended (Some sending) s status well = drop_queued s.port (callback_frame sending status) well

drop_done : (b : Bool) (s : ChipState) (status : TransmitStatus) → WaitsWell s.port
    → filter is_drop (cond b (ended_outs s.sending s status) []) ≡ cond (is_full s.port.waiting) (map (λ f. Full) (cond b (ended_posts s.sending status) [])) []
drop_done true s status well = drop_ended s.sending s status well
drop_done false s status well = sym (both_none (is_full s.port.waiting))

drop_ticked : (s : ChipState) → filter is_drop (outs s Ticked) ≡ []
drop_ticked s =
    let copy = copy_due s.port.side.turn in
    let next = next_at (ticked s.port).side.turn s.port.waiting in
    filter-append is_drop (written copy) (written next)
    ∙ ap (λ (t : List ChipOut). t ++ filter is_drop (written next)) (drop_written copy)
    ∙ drop_written next

pub drop_event : (s : ChipState) (e : ChipEvent) → WaitsWell s.port → filter is_drop (outs s e) ≡ drops s e
drop_event s (Judged item way) well = drop_item s item way well
drop_event s Ticked well = drop_ticked s ∙ sym (both_none (is_full s.port.waiting))
drop_event s (Heard n payload) well = drop_queued s.port _ well
drop_event s (Done status) well = drop_done (eqb s.aborted 0) s status well
drop_event s (Informed n profile) well = drop_queued s.port _ well
drop_event s (Joined n listening) well = sym (both_none (is_full s.port.waiting))
drop_event s (Linked a b live) well = sym (both_none (is_full s.port.waiting))
drop_event s (Forgets a b) well = sym (both_none (is_full s.port.waiting))
drop_event s Collides well = sym (both_none (is_full s.port.waiting))
