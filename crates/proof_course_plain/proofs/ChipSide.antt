-- The chip's side of the line: what is on its way to the host keeps its labels, event by event.
use Rattle.std.proofs.Common.{◌≡◌, ℕ, ◌≤◌, ◌==◌, ◌&&◌, Bool, true, false, nat_le, if◌then◌else◌, Option, Some, None, List, [], ◌∷◌, ◌++◌, length, ◌-◌, refl, sym, ◌∙◌, subst, append-nil, arith}
use Rattle.std.specs.Prelude.{Result, Ok, Err}
use Rattle.std.specs.Option.{option_to_list}
use Rattle.std.proofs.lemmas.Bool.{leb-true, and_parts}
use Rattle.serial_frame.specs.Frame.{FrameParts}
use Rattle.serial_frame.specs.declared.unit.Unit.{Unit as LineUnit}
use Rattle.serial_frame.specs.declared.unit.Unit.TheVariants.{Ack, Nak, Can, Framed}
use Rattle.serial_frame.specs.declared.item.Item.{Item}
use Rattle.serial_frame.specs.declared.item.Item.TheVariants.{Good, Refused}
use Rattle.serial_frame.specs.declared.item.Refusal.TheVariants.{Stray, BadLength, BadSum, BadKind, Aborted}
use Rattle.serial_link.specs.State.{turn_heard}
use Rattle.serial_link.specs.declared.turn.Turn.{Turn}
use Rattle.serial_link.specs.declared.turn.Turn.TheVariants.{Idle, Copied, Paused}
use Rattle.route_table.specs.declared.route.Route.{Route}
use Rattle.chip_functions.specs.Field.{read_as}
use Rattle.chip_functions.specs.Place.{Place, Reading, start_of, ◌>>=◌}
use Rattle.chip_functions.specs.Notice.{notice_of, notice_at, notice_body, notice_function, handler_at, update, update_at}
use Rattle.chip_functions.specs.declared.fault.BodyFault.{BodyFault}
use Rattle.chip_functions.specs.declared.function.TheConstants.{APPLICATION_COMMAND_HANDLER}
use Rattle.chip_functions.specs.declared.notice.Notice.{Notice}
use Rattle.chip_functions.specs.declared.notice.Notice.TheVariants.{ApplicationCommandHandler, SendData as callback_notice, ApplicationUpdate}
use Rattle.chip_functions.specs.declared.notice.TransmitStatus.{TransmitStatus}
use Rattle.chip_functions.specs.declared.notice.TransmitStatus.TheVariants.{Fail}
use Rattle.chip_functions.specs.declared.notice.Update.{Update}
use Rattle.chip_functions.specs.declared.request.Request.{Request}
use Rattle.chip_functions.specs.declared.request.Request.TheVariants.{GetInitData, GetCapabilities, SendData, GetVersion, SendDataAbort, MemoryGetId, GetNodeProtocolInfo, AddNode, RequestNodeInfo, IsFailedNode, GetRoutingInfo}
use Rattle.chip_functions.specs.declared.response.Response.{Response}
use Rattle.chip_functions.proofs.NoticeLaws.{notice_only}
use Rattle.chip_sim.specs.State.{ChipState}
use Rattle.chip_sim.specs.Waiting.{PortState, is_full, queued, queued_at, queued_outs, queued_outs_at, served, served_at, served_outs, next_at, written, ticked, ticked_outs}
use Rattle.chip_sim.specs.Answers.{response_frame, notice_frame, init_data, capabilities, version, memory_id, protocol_info, routing_info, takes}
use Rattle.chip_sim.specs.Nodes.{is_marked}
use Rattle.chip_functions.specs.declared.response.Response.TheVariants.{SendData as send_answer, RequestNodeInfo as info_answer, IsFailedNode as failed_answer}
use Rattle.chip_sim.specs.Requests.{passed, answer_outs, reply_to, performed, performed_outs, requested, requested_outs, asked, heard, judged_frame, judged_outs, given_if, given_outs, abort_frame, callback_frame}
use Rattle.chip_sim.specs.Events.{ChipEvent, Judged, Ticked, Heard, Done, Informed, Joined, Linked, Forgets, Collides, after, outs, May, collides, ended, ended_outs, update_of}
use Rattle.chip_sim.specs.Link.{chip_units}
use Rattle.chip_sim.specs.Did.{MayAll, after_all, outs_all}
use Rattle.chip_sim.proofs.Steps.{well_event, port_performed}
use Rattle.chip_sim.specs.Rules.{WaitsWhileBusy, WaitsWell}
use Rattle.chip_sim.specs.declared.out.Sending.{Sending}
use Rattle.chip_sim.specs.declared.out.ChipOut.{ChipOut}
use Rattle.chip_sim.specs.declared.out.ChipOut.TheVariants as chip_out
use Rattle.serial_link.specs.State.{copy_due}
use Rattle.proof_world.proofs.ChipWays.{units-append}
use Rattle.proof_course_plain.specs.Mesh.{labels, BringsAs}
use Rattle.proof_course_plain.specs.Ways.{Beside}
use Rattle.proof_course_plain.specs.Lines.{TellsAs, Moves}
use Rattle.proof_course_plain.specs.Chip.{GivesAs, ChipMoves}
use Rattle.proof_course_plain.proofs.WayLabels.{move_same, move_sign, move_heard, move_ticked, move_serve, move_submit, move_wait, move_lost, moves_both, copies_of}
use Rattle.chip_sim.proofs.Links.{units_performed as performed_silent}

-- ---- what is read of a frame

other_notice : (a b : Notice) → ◌≡◌ {A = Result Notice BodyFault} (Ok a) (Ok b) → a ≡ b
other_notice a b e = cc

made_update : (r : Reading Update) (v : Notice) → (read_as (λ (u : Update). ApplicationUpdate u) r >>= λ (x : Notice × Place). Ok x.0) ≡ Ok v → (u : Update) × (v ≡ ApplicationUpdate u)
made_update (Ok x) v e = (x.0, sym (other_notice (ApplicationUpdate x.0) v e))
made_update (Err fault) v e = absurd (grind (arith, e))

-- a payload that is given to the chip
no_node : (from : ℕ) (payload : List ℕ) → (nat_le 1 from && nat_le from 232) ≡ false → (v : Notice) → notice_of APPLICATION_COMMAND_HANDLER (0 ∷ from ∷ length payload ∷ payload) ≡ Ok v → ⊥
unfolding notice_of notice_at handler_at
no_node from payload none v e = absurd (let bad = rw none at e in grind (arith, bad))

same_handler : (a b c d : ℕ) (x y : List ℕ) → ApplicationCommandHandler a b x ≡ ApplicationCommandHandler c d y → (b ≡ d) × (x ≡ y)
same_handler a b c d x y e = (cc, cc)

-- ---- what writes nothing, and leaves the port or the turn

written_units : (f : Option FrameParts) → chip_units (written f) ≡ copies_of f
written_units None = refl
written_units (Some f) = refl

-- a frame that is passed up leaves the turn
passed_turn : (collision : Bool) (item : Item) (f : FrameParts) (turn : Turn) → passed collision item ≡ Some f → turn_heard turn item ≡ turn
passed_turn true item f turn e = absurd (grind (arith, e))
passed_turn false (Good Ack) f turn e = absurd (grind (arith, e))
passed_turn false (Good Nak) f turn e = absurd (grind (arith, e))
passed_turn false (Good Can) f turn e = absurd (grind (arith, e))
passed_turn false (Good (Framed g)) f turn e = refl
passed_turn false (Refused refusal) f turn e = absurd (grind (arith, e))

-- whatever is said of the payloads of the node and their labels
module _ {L : Type 0} (Holds : List ℕ → Option L → Type 0) where
  -- ---- which frames bring a payload of the node

  -- a response brings none
  response_none : (node : ℕ) (r : Response) → TellsAs Holds node (response_frame r) None
  response_none node r status payload is found = absurd cc

  callback_none : (node : ℕ) (sending : Sending) (status : TransmitStatus) → TellsAs Holds node (callback_frame sending status) None
  callback_none node sending status rx payload is found =
      let notice : Notice = callback_notice sending.callback_id status in
      let read : notice_of (notice_function notice) (notice_body notice) ≡ Ok notice = notice_only (notice_function notice) (notice_body notice) notice (record { row = tt; function = refl; tail = []; text = sym (append-nil (notice_body notice)) }) in
      absurd (let bad : notice ≡ ApplicationCommandHandler rx node payload = other_notice _ _ (sym read ∙ found) in grind (arith, bad))

  update_none : (node : ℕ) (u : Update) → TellsAs Holds node (notice_frame (ApplicationUpdate u)) None
  unfolding notice_of notice_at update_at
  update_none node u status payload is found =
      let made = made_update (update.read (start_of (notice_body (ApplicationUpdate u)))) (ApplicationCommandHandler status node payload) found in
      absurd (let bad = made.1 in grind (arith, bad))

  heard_tells : (node from : ℕ) (payload : List ℕ) (mark : Option L) → 1 ≤ length payload → BringsAs Holds node (from, payload) mark → TellsAs Holds node (notice_frame (ApplicationCommandHandler 0 from payload)) mark
  heard_tells node from payload mark some brings status text is found = by (nat_le 1 from && nat_le from 232) refl
    where
      by : (b : Bool) → (nat_le 1 from && nat_le from 232) ≡ b → Holds text mark
      by false e = absurd (no_node from payload e (ApplicationCommandHandler status node text) (subst (λ (body : List ℕ). notice_of APPLICATION_COMMAND_HANDLER body ≡ Ok (ApplicationCommandHandler status node text)) spelled found))
        where
          spelled : notice_body (ApplicationCommandHandler 0 from payload) ≡ 0 ∷ from ∷ length payload ∷ payload
          spelled = refl
      by true e =
          let both = and_parts (nat_le 1 from) (nat_le from 232) e in
          let notice : Notice = ApplicationCommandHandler 0 from payload in
          let read : notice_of (notice_function notice) (notice_body notice) ≡ Ok notice =
          notice_only (notice_function notice) (notice_body notice) notice (record { row = ((leb-true 1 from both.0, leb-true from 232 both.1), some); function = refl; tail = []; text = sym (append-nil (notice_body notice)) }) in
          let same = same_handler 0 from status node payload text (other_notice _ _ (sym read ∙ found)) in
          subst (λ (p : List ℕ). Holds p mark) same.1 (brings same.0)

  -- ---- the port

  abbrev pub PortMoves : ℕ → PortState → List ChipOut → PortState → List L → Type 0
  PortMoves node p put q more = Moves (TellsAs Holds node) p.side.turn p.waiting (chip_units put) q.side.turn q.waiting more

  port_both : (node : ℕ) (p q r : PortState) (first later : List ChipOut) (more rest : List L) → PortMoves node p first q more → PortMoves node q later r rest → PortMoves node p (first ++ later) r (more ++ rest)
  port_both node p q r first later more rest one two =
      subst (λ (us : List LineUnit). Moves (TellsAs Holds node) p.side.turn p.waiting us r.side.turn r.waiting (more ++ rest)) (sym (units-append first later))
      (moves_both (TellsAs Holds node) p.side.turn q.side.turn r.side.turn p.waiting q.waiting r.waiting (chip_units first) (chip_units later) more rest one two)

  port_same : (node : ℕ) (p : PortState) → PortMoves node p [] p []
  port_same node p = move_same (TellsAs Holds node) p.side.turn p.side.turn p.waiting refl

  queued_full : (node : ℕ) (f : FrameParts) (mark : Option L) (p : PortState) (b : Bool) → TellsAs Holds node f mark
      → PortMoves node p (if b then chip_out.Full ∷ [] else []) (if b then p else record { side = p.side; waiting = p.waiting ++ f ∷ [] }) (option_to_list mark)
  queued_full node f mark p true tells = move_lost (TellsAs Holds node) p.side.turn p.waiting (option_to_list mark)
  queued_full node f mark p false tells = move_wait (TellsAs Holds node) f mark p.side.turn p.waiting tells

  queued_by : (node : ℕ) (f : FrameParts) (mark : Option L) (turn : Turn) (p : PortState) → p.side.turn ≡ turn → WaitsWhileBusy turn p.waiting → TellsAs Holds node f mark
      → PortMoves node p (queued_outs_at turn p f) (queued_at turn p f) (option_to_list mark)
  queued_by node f mark Idle p is none tells =
      subst (λ (w : List FrameParts). Moves (TellsAs Holds node) p.side.turn w (Framed f ∷ []) (Copied f 1 0) w (option_to_list mark)) (sym none)
      (subst (λ (t : Turn). Moves (TellsAs Holds node) t [] (Framed f ∷ []) (Copied f 1 0) [] (option_to_list mark)) (sym is) (move_submit (TellsAs Holds node) f mark Idle (Copied f 1 0) tells refl refl))
  queued_by node f mark (Copied g copies ticks) p is busy tells = queued_full node f mark p (is_full p.waiting) tells
  queued_by node f mark (Paused g copies ticks) p is busy tells = queued_full node f mark p (is_full p.waiting) tells

  queued_moves : (node : ℕ) (f : FrameParts) (mark : Option L) (p : PortState) → WaitsWell p → TellsAs Holds node f mark → PortMoves node p (queued_outs p f) (queued p f) (option_to_list mark)
  queued_moves node f mark p well tells = queued_by node f mark p.side.turn p refl well.busy tells

  served_by : (node : ℕ) (turn : Turn) (waiting : List FrameParts) (p : PortState) → p.side.turn ≡ turn → p.waiting ≡ waiting → PortMoves node p (written (next_at turn waiting)) (served_at turn waiting p.side) []
  served_by node Idle [] p is are = subst (λ (w : List FrameParts). Moves (TellsAs Holds node) p.side.turn w [] p.side.turn [] []) (sym are) (move_same (TellsAs Holds node) p.side.turn p.side.turn [] refl)
  served_by node Idle (f ∷ waiting) p is are =
      subst (λ (w : List FrameParts). Moves (TellsAs Holds node) p.side.turn w (Framed f ∷ []) (Copied f 1 0) waiting []) (sym are)
      (subst (λ (t : Turn). Moves (TellsAs Holds node) t (f ∷ waiting) (Framed f ∷ []) (Copied f 1 0) waiting []) (sym is) (move_serve (TellsAs Holds node) f waiting Idle (Copied f 1 0) refl refl))
  served_by node (Copied g copies ticks) waiting p is are = subst (λ (w : List FrameParts). Moves (TellsAs Holds node) p.side.turn w [] p.side.turn waiting []) (sym are) (move_same (TellsAs Holds node) p.side.turn p.side.turn waiting refl)
  served_by node (Paused g copies ticks) waiting p is are = subst (λ (w : List FrameParts). Moves (TellsAs Holds node) p.side.turn w [] p.side.turn waiting []) (sym are) (move_same (TellsAs Holds node) p.side.turn p.side.turn waiting refl)

  served_moves : (node : ℕ) (p : PortState) → PortMoves node p (served_outs p) (served p) []
  served_moves node p = served_by node p.side.turn p.waiting p refl refl

  ticked_moves : (node : ℕ) (p : PortState) → PortMoves node p (ticked_outs p) (served (ticked p)) []
  ticked_moves node p =
      port_both node p (ticked p) (served (ticked p)) (written (copy_due p.side.turn)) (served_outs (ticked p)) [] []
      (subst (λ (us : List LineUnit). Moves (TellsAs Holds node) p.side.turn p.waiting us (ticked p).side.turn p.waiting []) (sym (written_units (copy_due p.side.turn))) (move_ticked (TellsAs Holds node) p.side.turn p.waiting))
      (served_moves node (ticked p))

  -- ---- an item is judged

  answer_moves : (node : ℕ) (p : PortState) (collision : Bool) (item : Item) → PortMoves node p (answer_outs collision item) p []
  answer_moves node p collision (Good Ack) = port_same node p
  answer_moves node p collision (Good Nak) = port_same node p
  answer_moves node p collision (Good Can) = port_same node p
  answer_moves node p true (Good (Framed f)) = move_sign (TellsAs Holds node) Can p.side.turn p.waiting tt
  answer_moves node p false (Good (Framed f)) = move_sign (TellsAs Holds node) Ack p.side.turn p.waiting tt
  answer_moves node p collision (Refused (Stray x)) = port_same node p
  answer_moves node p collision (Refused (BadLength n)) = port_same node p
  answer_moves node p collision (Refused (BadSum want got)) = move_sign (TellsAs Holds node) Nak p.side.turn p.waiting tt
  answer_moves node p collision (Refused (BadKind x)) = move_sign (TellsAs Holds node) Nak p.side.turn p.waiting tt
  answer_moves node p collision (Refused Aborted) = port_same node p

  -- where a frame is given to the host, it brings none
  abbrev TellsNoneIf : ℕ → Option FrameParts → Type 0
  TellsNoneIf node None = Unit {0}
  TellsNoneIf node (Some f) = TellsAs Holds node f None

  abort_none : (node : ℕ) (sending : Option Sending) → TellsNoneIf node (abort_frame sending)
  abort_none node None = tt
  abort_none node (Some sending) = callback_none node sending Fail

  reply_none : (node : ℕ) (s : ChipState) (request : Request) → TellsNoneIf node (reply_to s request)
  reply_none node s GetInitData = response_none node (init_data s)
  reply_none node s GetCapabilities = response_none node capabilities
  reply_none node s (SendData n payload options id) = response_none node (send_answer (if takes s n payload then 1 else 0))
  reply_none node s GetVersion = response_none node version
  reply_none node s SendDataAbort = abort_none node s.sending
  reply_none node s MemoryGetId = response_none node memory_id
  reply_none node s (GetNodeProtocolInfo n) = response_none node (protocol_info s n)
  reply_none node s (AddNode mode id) = tt
  reply_none node s (RequestNodeInfo n) = response_none node (info_answer 1)
  reply_none node s (IsFailedNode n) = response_none node (failed_answer (is_marked s.failing n))
  reply_none node s (GetRoutingInfo n x y z) = response_none node (routing_info s n)

  given_moves : (node : ℕ) (s : ChipState) (f : Option FrameParts) → WaitsWell s.port → TellsNoneIf node f → PortMoves node s.port (given_outs s f) (given_if s f).port []
  given_moves node s None well none = port_same node s.port
  given_moves node s (Some f) well none = queued_moves node f None s.port well none

  silent_moves : (node : ℕ) (p q : PortState) (put : List ChipOut) → q ≡ p → chip_units put ≡ [] → PortMoves node p put q []
  silent_moves node p q put same none =
      subst (λ (r : PortState). PortMoves node p put r []) (sym same)
      (subst (λ (us : List LineUnit). Moves (TellsAs Holds node) p.side.turn p.waiting us p.side.turn p.waiting []) (sym none) (port_same node p))

  requested_moves : (node : ℕ) (request : Option Request) (s : ChipState) (way : Option Route) → WaitsWell s.port → PortMoves node s.port (requested_outs request s way) (requested request s).port []
  requested_moves node None s way well = port_same node s.port
  requested_moves node (Some request) s way well =
      port_both node s.port (given_if s (reply_to s request)).port (performed request (given_if s (reply_to s request))).port (given_outs s (reply_to s request)) (performed_outs request s way) [] []
      (given_moves node s (reply_to s request) well (reply_none node s request))
      (silent_moves node (given_if s (reply_to s request)).port (performed request (given_if s (reply_to s request))).port (performed_outs request s way) (port_performed request (given_if s (reply_to s request))) (performed_silent request s way))

  judged_moves : (node : ℕ) (found : Option FrameParts) (s : ChipState) (way : Option Route) → ((f : FrameParts) → found ≡ Some f → WaitsWell s.port) → PortMoves node s.port (judged_outs found s way) (judged_frame found s).port []
  judged_moves node None s way well = served_moves node s.port
  judged_moves node (Some f) s way well = requested_moves node (asked f) s way (well f refl)

  item_moves : (node : ℕ) (s : ChipState) (item : Item) (way : Option Route) → WaitsWell s.port → PortMoves node s.port (outs s (Judged item way)) (after s (Judged item way)).port []
  item_moves node s item way well =
      port_both node s.port s.port (after s (Judged item way)).port (answer_outs (collides s) item) (judged_outs (passed (collides s) item) (heard s item) way) [] []
      (answer_moves node s.port (collides s) item)
      (port_both node s.port (heard s item).port (after s (Judged item way)).port [] (judged_outs (passed (collides s) item) (heard s item) way) [] []
      (move_heard (TellsAs Holds node) s.port.side.turn item s.port.waiting)
      (judged_moves node (passed (collides s) item) (heard s item) way
      (λ f e. record { busy = subst (λ (t : Turn). WaitsWhileBusy t s.port.waiting) (sym (passed_turn (collides s) item f s.port.side.turn e)) well.busy; few = well.few })))

  -- ---- any event

  ended_moves : (node : ℕ) (sending : Option Sending) (s : ChipState) (status : TransmitStatus) → WaitsWell s.port → PortMoves node s.port (ended_outs sending s status) (ended sending s status).port []
  ended_moves node None s status well = port_same node s.port
  ended_moves node (Some sending) s status well = queued_moves node (callback_frame sending status) None s.port well (callback_none node sending status)

  pub chip_moves : (node : ℕ) (s : ChipState) (event : ChipEvent) (mark : Option L) → May s event → WaitsWell s.port → GivesAs Holds node event mark
      → PortMoves node s.port (outs s event) (after s event).port (option_to_list mark)
  chip_moves node s (Judged item way) mark may well is = subst (λ (m : Option L). PortMoves node s.port (outs s (Judged item way)) (after s (Judged item way)).port (option_to_list m)) (sym is) (item_moves node s item way well)
  chip_moves node s Ticked mark may well is = subst (λ (m : Option L). PortMoves node s.port (ticked_outs s.port) (served (ticked s.port)) (option_to_list m)) (sym is) (ticked_moves node s.port)
  chip_moves node s (Heard from payload) mark may well is = queued_moves node (notice_frame (ApplicationCommandHandler 0 from payload)) mark s.port well (heard_tells node from payload mark may.0 is)
  chip_moves node s (Done status) mark may well is = subst (λ (m : Option L). PortMoves node s.port (outs s (Done status)) (after s (Done status)).port (option_to_list m)) (sym is) (by (s.aborted == 0))
    where
      by : (b : Bool) → PortMoves node s.port (if b then ended_outs s.sending s status else []) (if b then ended s.sending s status else record s { aborted = s.aborted - 1 }).port []
      by true = ended_moves node s.sending s status well
      by false = port_same node s.port
  chip_moves node s (Informed n profile) mark may well is =
      subst (λ (m : Option L). PortMoves node s.port (outs s (Informed n profile)) (after s (Informed n profile)).port (option_to_list m)) (sym is)
      (queued_moves node (notice_frame (ApplicationUpdate (update_of n profile))) None s.port well (update_none node (update_of n profile)))
  chip_moves node s (Joined n listening) mark may well is = subst (λ (m : Option L). PortMoves node s.port [] s.port (option_to_list m)) (sym is) (port_same node s.port)
  chip_moves node s (Linked a b live) mark may well is = subst (λ (m : Option L). PortMoves node s.port [] s.port (option_to_list m)) (sym is) (port_same node s.port)
  chip_moves node s (Forgets a b) mark may well is = subst (λ (m : Option L). PortMoves node s.port [] s.port (option_to_list m)) (sym is) (port_same node s.port)
  chip_moves node s Collides mark may well is = subst (λ (m : Option L). PortMoves node s.port [] s.port (option_to_list m)) (sym is) (port_same node s.port)

  pub chips_move : (node : ℕ) (s : ChipState) (events : List ChipEvent) (marks : List (Option L)) → MayAll s events → WaitsWell s.port → Beside (GivesAs Holds node) events marks → ChipMoves Holds node s events marks
  chips_move node s [] [] may well are = port_same node s.port
  chips_move node s [] (mark ∷ marks) may well are = absurd are
  chips_move node s (event ∷ events) [] may well are = absurd are
  chips_move node s (event ∷ events) (mark ∷ marks) may well are =
      port_both node s.port (after s event).port (after_all (after s event) events).port (outs s event) (outs_all (after s event) events) (option_to_list mark) (labels marks)
      (chip_moves node s event mark may.0 well are.0) (chips_move node (after s event) events marks may.1 (well_event s event well) are.1)
