-- The chip judges the request that is on its way to it, and takes its payload: it sends that, and its answer stands behind what it has for the host.
use Rattle.std.proofs.Common.{◌≡◌, ◌≤◌, ℕ, Bool, true, false, if◌then◌else◌, inl, inr, List, [], ◌∷◌, ◌++◌, map, length, refl, sym, ap, ◌∙◌, subst, arith}
use Rattle.std.specs.Option.{is_some}
use Rattle.std.specs.Prelude.{◌⊎◌, Option, Some, nat_lt}
use Rattle.zw_base.proofs.Each.{all-append}
use Rattle.serial_frame.specs.Frame.{FrameParts}
use Rattle.serial_frame.specs.Stream.{Rest}
use Rattle.serial_frame.specs.declared.item.Item.{Item}
use Rattle.serial_frame.specs.declared.item.Item.TheVariants.{Good}
use Rattle.serial_frame.specs.declared.unit.Unit.{Unit as LineUnit}
use Rattle.serial_frame.specs.declared.unit.Unit.TheVariants.{Ack, Nak, Can, Framed}
use Rattle.serial_link.specs.declared.turn.Turn.{Turn}
use Rattle.serial_link.specs.declared.turn.Turn.TheVariants.{Idle, Copied}
use Rattle.route_table.specs.declared.route.Route.{Route}
use Rattle.chip_functions.specs.declared.request.Request.{Request}
use Rattle.chip_functions.specs.declared.request.TheConstants.{TRANSMIT_OPTIONS}
use Rattle.chip_functions.specs.declared.response.Response.TheVariants.{SendData as SendDataAnswer}
use Rattle.chip_sim.specs.Answers.{response_frame, takes}
use Rattle.chip_sim.specs.Did.{judged_all, after_all}
use Rattle.chip_sim.specs.Events.{Judged, after, collides}
use Rattle.chip_sim.specs.Requests.{asked, given, heard, judged_frame, passed, requested}
use Rattle.chip_sim.specs.State.{ChipState}
use Rattle.chip_sim.specs.declared.out.Sending.{Sending}
use Rattle.chip_sim.specs.Waiting.{PortState, queued, served_at}
use Rattle.host_requests.specs.Frames.{frame_of, request_frame, send}
use Rattle.host_requests.specs.declared.under_way.UnderWay.{UnderWay}
use Rattle.outside_model.specs.State.{OuterState}
use Rattle.outside_model.specs.Events.{outcome, May as MayOutside}
use Rattle.world_model.specs.State.{Machine}
use Rattle.world_model.specs.Events.{happens, May}
use Rattle.proof_serial.proofs.ChipWays.{does_each}
use Rattle.proof_calm.specs.Calls.{answer_taken}
use Rattle.proof_calm.specs.Passes.{chip_taken, ChipMayTake, texts, IsTakenBy, OnLine, TakesEach, answers, frames_in}
use Rattle.proof_calm.specs.Settling.{Line, Free, Asks, Heard, Heard_asks, Sent, Sent_asks, Leaves, Nothing, An_ack, HasMoved, Moves}
use Rattle.proof_calm.specs.Known.{AsksToSend}
use Rattle.proof_calm.specs.Tied.{HasRoom, on_line, unheard, unheard_by, LeavesIt, Answers, IsFresh, IsOf, IsOnWay, Tied, Nowhere, On_way, At_chip, Called, TieOf}
use Rattle.proof_calm.proofs.ChipPart.{entered_state, taken, two_ways}
use Rattle.proof_calm.proofs.ChipTurns.{one_way}
use Rattle.proof_calm.proofs.Ending.{OfHost}
use Rattle.proof_calm.proofs.Following.{kept}
use Rattle.proof_calm.proofs.Idle.{fed_none, no_ways}
use Rattle.proof_calm.proofs.Judging.{ends_by, TieBy}
use Rattle.proof_calm.proofs.Payloads.{asked_send, takes_payload}
use Rattle.proof_calm.proofs.Pending.{has_last, has_room, line_of, IsServed, line_more}
use Rattle.proof_calm.proofs.Reading.{fed_units}

-- ---- the chip takes a payload

abbrev answered : ChipState → FrameParts → ChipState
answered s f = given (heard s (Good (Framed f))) answer_taken

judges_request : (s : ChipState) (f : FrameParts) (way : Option Route) (node : ℕ) (payload : List ℕ) (id : ℕ) → s.port.side.collisions ≡ 0 → asked f ≡ Some (send node payload id) → takes s node payload ≡ true
    → after s (Judged (Good (Framed f)) way) ≡ record (answered s f) { sending = Some (record { node = node; callback_id = id }) }
judges_request s f way node payload id none is takes_it = by_passing (collides s) (ap (λ (n : ℕ). nat_lt 0 n) none) ∙ ap (λ (request : Option Request). requested request hs) is ∙ by_answer (takes s node payload) takes_it
  where
    hs : ChipState
    hs = heard s (Good (Framed f))

    by_passing : (b : Bool) → b ≡ false → judged_frame (passed b (Good (Framed f))) hs ≡ requested (asked f) hs
    by_passing false is_false = refl
    by_passing true is_true = absurd cc

    by_answer : (b : Bool) → b ≡ true
        → (if b then record (given hs (response_frame (SendDataAnswer (if b then 1 else 0)))) { sending = Some (record { node = node; callback_id = id }) } else given hs (response_frame (SendDataAnswer (if b then 1 else 0))))
        ≡ record (answered s f) { sending = Some (record { node = node; callback_id = id }) }
    by_answer true is_true = refl
    by_answer false is_false = absurd cc

-- ---- the chip judges an acknowledgement

abbrev acked_port : PortState → List FrameParts → PortState
acked_port port waiting = served_at Idle waiting (record { turn = Idle; collisions = port.side.collisions })

judges_ack : (s : ChipState) (way : Option Route) → after s (Judged (Good Ack) way) ≡ record s { port = acked_port s.port s.port.waiting }
judges_ack s way = by (collides s)
  where
    by : (b : Bool) → judged_frame (passed b (Good Ack)) (heard s (Good Ack)) ≡ record s { port = acked_port s.port s.port.waiting }
    by true = refl
    by false = refl

acked_line : (port : PortState) (waiting : List FrameParts) → line_of (acked_port port waiting) ≡ waiting
acked_line port [] = refl
acked_line port (frame ∷ waiting) = refl

acked_served : (port : PortState) (waiting : List FrameParts) → IsServed (acked_port port waiting)
acked_served port [] = λ idle. refl
acked_served port (frame ∷ waiting) = λ idle. absurd (let no : Copied frame 1 0 ≡ Idle = idle in cc)

acked_few : (port : PortState) (waiting : List FrameParts) → length (acked_port port waiting).waiting ≤ length waiting
acked_few port [] = omega arith
acked_few port (frame ∷ waiting) = omega arith

acked_collisions : (port : PortState) (waiting : List FrameParts) → (acked_port port waiting).side.collisions ≡ port.side.collisions
acked_collisions port [] = refl
acked_collisions port (frame ∷ waiting) = refl

module _ (k : OfHost) where
  abbrev TiedAt : ChipState → Type 0
  TiedAt s = TieBy true k s (line_of s.port) []

  -- what is so of the chip then: the tie; the frames that it has for the host are those of before, or its answer is behind them; and where it sends
  -- nothing, it sent nothing before, and no more frames wait
  pub record Judges (pending : List FrameParts) (s t : ChipState) : Type 0 where
    pub tied : TiedAt t
    pub line : (line_of t.port ≡ pending) ⊎ (line_of t.port ≡ pending ++ answer_taken ∷ [])
    pub fewer : is_some t.sending ≡ false → (is_some s.sending ≡ false) × (length t.port.waiting ≤ length s.port.waiting)

  -- the host's frame is the request under way, which the chip takes
  sent_tied : (s : ChipState) (frame : FrameParts) (way : Option Route) (u : UnderWay) (pending : List FrameParts) → s.port.side.collisions ≡ 0 → IsServed s.port → HasRoom s → line_of s.port ≡ pending → k.2 ≡ false
      → IsOf u (ends_by k s) → IsFresh u.progress → IsOnWay u (ends_by k s) pending (frame ∷ []) → IsTakenBy s frame × Judges pending s (after s (Judged (Good (Framed frame)) way))
  sent_tied s frame way u pending none free room line paid of fresh is =
      let asks : AsksToSend s.joined u.purpose k.3 = is.asks in
      let one : frame ∷ [] ≡ frame_of u.purpose k.3 ∷ [] = is.asked in
      let frame_is : frame ≡ frame_of u.purpose k.3 = cc in
      let read : asked frame ≡ Some (send asks.node asks.payload k.3) =
      ap asked (frame_is ∙ ap request_frame asks.is) ∙ asked_send asks.node asks.payload k.3 asks.is_node asks.some is.from is.to in
      let takes_it : takes s asks.node asks.payload ≡ true = takes_payload s asks.node asks.payload asks.some asks.few is.idle asks.is_joined in (
        record { node = asks.node; payload = asks.payload; options = TRANSMIT_OPTIONS; id = k.3; is = read; taken = takes_it },
        subst (Judges pending s) (sym (judges_request s frame way asks.node asks.payload k.3 none read takes_it))
            (record {
              tied = record {
                paid = paid;
                tied = subst (λ (fs : List FrameParts). Tied true (ends_by k (record (answered s frame) { sending = Some (record { node = asks.node; callback_id = k.3 }) })) fs []) (sym more)
                    (At_chip u (record { under_way = of.under_way; sends = of.sends }) fresh (record {
                      asks = asks;
                      is_sending = refl;
                      answered = inr (has_last pending);
                      leave = all-append (LeavesIt s.joined) pending (answer_taken ∷ []) is.leave (Answers refl, tt);
                      nothing = refl;
                    }));
              };
              line = inr more;
              fewer = λ no. absurd cc;
            }),
      )
    where
      hs : ChipState
      hs = heard s (Good (Framed frame))

      more : line_of (queued hs.port answer_taken) ≡ pending ++ answer_taken ∷ []
      more =
          line_more hs.port answer_taken free (has_room s.port.waiting (room (ap (λ (o : Option Sending). is_some o) is.idle)))
          ∙ ap (λ (fs : List FrameParts). fs ++ answer_taken ∷ []) line

  -- ---- a list of what it judges

  asked_tied : (s : ChipState) (frame : FrameParts) (pending : List FrameParts) (ways : List (Item × Option Route)) → map (λ (w : Item × Option Route). w.0) ways ≡ Good (Framed frame) ∷ [] → s.port.side.collisions ≡ 0
      → IsServed s.port → HasRoom s → line_of s.port ≡ pending → TieBy true k s pending (frame ∷ []) → TakesEach s ways × Judges pending s (after_all s (judged_all ways))
  asked_tied s frame pending ways are none free room line tie = by tie.tied
    where
      one : (way : Option Route) × (ways ≡ (Good (Framed frame), way) ∷ [])
      one = one_way ways (Good (Framed frame)) are

      by : Tied true (ends_by k s) pending (frame ∷ []) → TakesEach s ways × Judges pending s (after_all s (judged_all ways))
      by (Nowhere is) = absurd (let no : frame ∷ [] ≡ [] = is.nothing in cc)
      by (At_chip u of fresh is) = absurd (let no : frame ∷ [] ≡ [] = is.nothing in cc)
      by (Called u of fresh is) = absurd (let no : frame ∷ [] ≡ [] = is.nothing in cc)
      by (On_way u of fresh is) =
          let both = sent_tied s frame one.0 u pending none free room line tie.paid of fresh is in
          subst (λ (l : List (Item × Option Route)). TakesEach s l × Judges pending s (after_all s (judged_all l))) (sym one.1) ((both.0, tt), both.1)

  -- an acknowledgement before it
  ack_asked_tied : (s : ChipState) (frame : FrameParts) (ways : List (Item × Option Route)) → map (λ (w : Item × Option Route). w.0) ways ≡ Good Ack ∷ Good (Framed frame) ∷ [] → s.port.side.collisions ≡ 0
      → HasRoom s → TieBy true k s s.port.waiting (frame ∷ []) → TakesEach s ways × Judges s.port.waiting s (after_all s (judged_all ways))
  ack_asked_tied s frame ways are none room tie =
      let two = two_ways ways (Good Ack) (Good (Framed frame)) are in
      let t : ChipState = record s { port = acked_port s.port s.port.waiting } in
      let same : after s (Judged (Good Ack) two.0) ≡ t = judges_ack s two.0 in
      let few = acked_few s.port s.port.waiting in
      let both = asked_tied t frame s.port.waiting ((Good (Framed frame), two.1) ∷ []) refl (acked_collisions s.port s.port.waiting ∙ none) (acked_served s.port s.port.waiting)
      (λ idle. let most = room idle in omega (arith, most, few)) (acked_line s.port s.port.waiting) tie in
      let judges : Judges s.port.waiting s (after_all t (judged_all ((Good (Framed frame), two.1) ∷ []))) =
      record { tied = both.1.tied; line = both.1.line; fewer = λ idle. let less = both.1.fewer idle in (less.0, let most = less.1 in omega (arith, most, few)) } in
      subst (λ (l : List (Item × Option Route)). TakesEach s l × Judges s.port.waiting s (after_all s (judged_all l))) (sym two.2)
      (subst (λ (r : ChipState). (Unit {0} × TakesEach r ((Good (Framed frame), two.1) ∷ [])) × Judges s.port.waiting s (after_all r (judged_all ((Good (Framed frame), two.1) ∷ [])))) (sym same) ((tt, both.0), judges))

  ack_tied : (s : ChipState) (ways : List (Item × Option Route)) → map (λ (w : Item × Option Route). w.0) ways ≡ Good Ack ∷ [] → TieBy true k s s.port.waiting []
      → TakesEach s ways × Judges s.port.waiting s (after_all s (judged_all ways))
  ack_tied s ways are tie =
      let one = one_way ways (Good Ack) are in
      let t : ChipState = record s { port = acked_port s.port s.port.waiting } in
      let judges : Judges s.port.waiting s t = record {
        line = inl (acked_line s.port s.port.waiting);
        tied = subst (λ (fs : List FrameParts). TieBy true k t fs []) (sym (acked_line s.port s.port.waiting)) tie;
        fewer = λ idle. (idle, acked_few s.port s.port.waiting);
      } in
      subst (λ (l : List (Item × Option Route)). TakesEach s l × Judges s.port.waiting s (after_all s (judged_all l))) (sym one.1) ((tt, tt), subst (Judges s.port.waiting s) (sym (judges_ack s one.0)) judges)

  pub none_tied : (s : ChipState) (ways : List (Item × Option Route)) → map (λ (w : Item × Option Route). w.0) ways ≡ [] → TiedAt s → TakesEach s ways × Judges (line_of s.port) s (after_all s (judged_all ways))
  none_tied s ways are tie =
      subst (λ (l : List (Item × Option Route)). TakesEach s l × Judges (line_of s.port) s (after_all s (judged_all l))) (sym (no_ways ways are)) (tt, record { tied = tie; line = inl refl; fewer = λ idle. (idle, omega arith) })

-- ---- the machine

-- the frames that wait and that on the line, where the host has not judged that
pub line_unheard : (unit : LineUnit) (units : List LineUnit) (port : PortState) → unheard_by (texts (unit ∷ units)) port ≡ line_of port
line_unheard Ack units port = refl
line_unheard Nak units port = refl
line_unheard Can units port = refl
line_unheard (Framed frame) units port = refl

pub taken_state : (m : Machine) (rest : Rest) (ways : List (Item × Option Route)) → ChipMayTake m rest ways → (chip_taken m rest ways).outside.outer.chip.state ≡ after_all m.outside.outer.chip.state (judged_all ways)
unfolding happens May MayOutside outcome
taken_state m rest ways may = entered_state _ _ ∙ (does_each (taken m.outside.outer rest) (judged_all ways) may.1.judges).state

-- what the chip's part of a pass makes of it
pub part_tied : (m : Machine) (line : Line m) (rest : Rest) (ways : List (Item × Option Route)) → Moves line → ChipMayTake m rest ways → HasRoom m.outside.outer.chip.state
    → TieOf true m (on_line m.host.state.side.turn) → TakesEach m.outside.outer.chip.state ways
    × Judges (kept m.host.state) (unheard m.outside.outer) m.outside.outer.chip.state (after_all m.outside.outer.chip.state (judged_all ways))
unfolding May MayOutside
part_tied m line rest ways moves may room tie = by line moves
  where
    o : OuterState
    o = m.outside.outer

    s : ChipState
    s = o.chip.state

    k : OfHost
    k = kept m.host.state

    items : List Item
    items = map (λ (w : Item × Option Route). w.0) ways

    asking : (turn : Turn) → m.host.state.side.turn ≡ turn → TieBy true k s (unheard o) (on_line turn)
    asking turn is = subst (λ (t : Turn). TieBy true k s (unheard o) (on_line t)) is tie

    -- with the bytes that are on their way
    with_bytes : (bytes : List ℕ) (asked : List FrameParts) → o.to_host.bytes ≡ bytes → TieBy true k s (unheard o) asked → TieBy true k s (unheard_by bytes s.port) asked
    with_bytes bytes asked is there = subst (λ (bs : List ℕ). TieBy true k s (unheard_by bs s.port) asked) is there

    of_bytes : (bytes : List ℕ) → o.to_host.bytes ≡ bytes → TakesEach s ways × Judges k (unheard_by bytes s.port) s (after_all s (judged_all ways))
        → TakesEach s ways × Judges k (unheard o) s (after_all s (judged_all ways))
    of_bytes bytes is there = subst (λ (bs : List ℕ). TakesEach s ways × Judges k (unheard_by bs s.port) s (after_all s (judged_all ways))) (sym is) there

    by : (at : Line m) → Moves at → TakesEach s ways × Judges k (unheard o) s (after_all s (judged_all ways))
    by (Free at) moves = absurd moves
    by (Asks frame fits at) moves =
        let fed = fed_units (Framed frame) [] o.to_chip.bytes o.chip.decoder rest items (fits, tt) at.at_chip.decoder at.at_chip.up_bytes may.1.feeds in
        of_bytes [] at.at_chip.down_bytes
        (asked_tied k s frame s.port.waiting ways fed.0 at.unmarked.link (λ idle. at.at_chip.waiting) room (ap (λ (t : Turn). on_line t ++ s.port.waiting) at.at_chip.turn_is)
        (with_bytes [] (frame ∷ []) at.at_chip.down_bytes (asking (Copied frame 1 0) at.at_host.turn_is)))
    by (Heard first ticks frames at) moves =
        let fed = fed_units Ack [] o.to_chip.bytes o.chip.decoder rest items (tt, tt) at.at_chip.decoder at.at_chip.up_bytes may.1.feeds in
        of_bytes [] at.at_chip.down_bytes (ack_tied k s ways fed.0 (with_bytes [] [] at.at_chip.down_bytes (asking Idle at.at_host.turn_is)))
    by (Heard_asks frame first ticks frames fits at) moves =
        let fed = fed_units Ack (Framed frame ∷ []) o.to_chip.bytes o.chip.decoder rest items (tt, (fits, tt)) at.at_chip.decoder at.at_chip.up_bytes may.1.feeds in
        of_bytes [] at.at_chip.down_bytes (ack_asked_tied k s frame ways fed.0 at.unmarked.link room (with_bytes [] (frame ∷ []) at.at_chip.down_bytes (asking (Copied frame 1 0) at.at_host.turn_is)))
    by (Sent first ticks frames at) moves =
        let fed = fed_none o.to_chip.bytes o.chip.decoder rest items at.at_chip.decoder at.at_chip.up_bytes may.1.feeds in
        of_bytes (texts (Framed first ∷ [])) at.at_chip.down_bytes (none_tied k s ways fed.0 (with_bytes (texts (Framed first ∷ [])) [] at.at_chip.down_bytes (asking Idle at.at_host.turn_is)))
    by (Sent_asks frame first ticks frames fits at) moves =
        let fed = fed_units (Framed frame) [] o.to_chip.bytes o.chip.decoder rest items (fits, tt) at.at_chip.decoder at.at_chip.up_bytes may.1.feeds in
        of_bytes (texts (Framed first ∷ [])) at.at_chip.down_bytes
        (asked_tied k s frame (line_of s.port) ways fed.0 at.unmarked.link (λ idle. absurd (let no : Copied first 1 ticks ≡ Idle = sym at.at_chip.turn_is ∙ idle in cc)) room refl
        (with_bytes (texts (Framed first ∷ [])) (frame ∷ []) at.at_chip.down_bytes (asking (Copied frame 1 0) at.at_host.turn_is)))

-- where something moved, the frame of the chip on the line is on its way, if there is one
pub moved_line : (b : Bool) (passes : ℕ) (m : Machine) → HasMoved b passes m → unheard m.outside.outer ≡ line_of m.outside.outer.chip.state.port
moved_line b passes m has = by has.down has.line has.leaves
  where
    o : OuterState
    o = m.outside.outer

    by : (down : List LineUnit) → OnLine [] down has.host has.turn has.frames m → Leaves down has.turn has.frames has.left → unheard o ≡ line_of o.chip.state.port
    by (unit ∷ units) line leaves = ap (λ (bs : List ℕ). unheard_by bs o.chip.state.port) line.at_chip.down_bytes ∙ line_unheard unit units o.chip.state.port
    by [] line (An_ack frame ticks ack carries busy is) = absurd cc
    by [] line (Nothing none free empty is) =
        ap (λ (bs : List ℕ). unheard_by bs o.chip.state.port) line.at_chip.down_bytes ∙ sym (ap (λ (t : Turn). on_line t ++ o.chip.state.port.waiting) (line.at_chip.turn_is ∙ free))

-- which are the frames among what is on its way, and those that wait
pub moved_frames : (b : Bool) (passes : ℕ) (m : Machine) (has : HasMoved b passes m) → unheard m.outside.outer ≡ frames_in has.down ++ m.outside.outer.chip.state.port.waiting
moved_frames b passes m has = moved_line b passes m has ∙ by has.leaves
  where
    port : PortState
    port = m.outside.outer.chip.state.port

    none_in : (units : List LineUnit) → answers units ≡ [] → frames_in units ≡ []
    none_in [] none = refl
    none_in (Ack ∷ units) none = none_in units none
    none_in (Nak ∷ units) none = none_in units none
    none_in (Can ∷ units) none = none_in units none
    none_in (Framed frame ∷ units) none = absurd cc

    by : Leaves has.down has.turn has.frames has.left → line_of port ≡ frames_in has.down ++ port.waiting
    by (Nothing none free empty is) = ap (λ (t : Turn). on_line t ++ port.waiting) (has.line.at_chip.turn_is ∙ free) ∙ sym (ap (λ (fs : List FrameParts). fs ++ port.waiting) (none_in has.down none))
    by (An_ack frame ticks ack carries busy is) =
        ap (λ (t : Turn). on_line t ++ port.waiting) (has.line.at_chip.turn_is ∙ busy) ∙ sym (ap (λ (fs : List FrameParts). fs ++ port.waiting) carries)
