-- An item that the chip judges keeps the law of what goes on the air, and what ties the chip to the transcript while it judges: the SendData under way, the clock, joined nodes and ways.
use Rattle.std.proofs.Common.{◌≡◌, ◌≤◌, ◌⊎◌, ℕ, ◌==◌, ◌&&◌, nat_le, Bool, true, false, if◌then◌else◌, List, [], ◌∷◌, ◌++◌, map, length, inl, inr, refl, sym, ap, ap₂, ◌∙◌, subst, append_assoc, arith}
use Rattle.std.specs.Prelude.{Option, Some, None, slice_get}
use Rattle.std.specs.List.{AllByRecursion, flat_map}
use Rattle.circular_buffer.proofs.Places.{slice_get-append_right}
use Rattle.zw_base.proofs.Each.{all-weaker}
use Rattle.serial_frame.specs.Frame.{FrameParts}
use Rattle.serial_frame.specs.declared.unit.Unit.TheVariants.{Ack, Nak, Can, Framed}
use Rattle.serial_frame.specs.declared.item.Item.{Item}
use Rattle.serial_frame.specs.declared.item.Item.TheVariants.{Good, Refused}
use Rattle.serial_link.specs.State.{answer as answer_of}
use Rattle.serial_link.specs.Rules.{Step, outs_of}
use Rattle.route_table.specs.declared.route.Route.{Route}
use Rattle.route_table.specs.Network.{Network}
use Rattle.route_table.specs.Walk.{Walk}
use Rattle.chip_functions.specs.declared.request.Request.{Request}
use Rattle.chip_functions.specs.declared.request.Request.TheVariants.{GetInitData, GetCapabilities, SendData, GetVersion, SendDataAbort, MemoryGetId, GetNodeProtocolInfo, AddNode, RequestNodeInfo, IsFailedNode, GetRoutingInfo}
use Rattle.chip_sim.specs.Nodes.{is_marked}
use Rattle.chip_sim.specs.State.{ChipState}
use Rattle.chip_sim.specs.Answers.{takes as takes_of}
use Rattle.chip_sim.specs.Requests.{HasWay, IsWayIf, JudgedWay, asked as asked_of, given_if, heard, judged_frame, passed, performed, reply_to, requested, requested_outs, stopped}
use Rattle.chip_sim.specs.Events.{ChipEvent, Judged, May, after, collides, outs}
use Rattle.chip_sim.specs.Link.{link_steps}
use Rattle.chip_sim.specs.Rules.{begun_at, listed as listed_of}
use Rattle.chip_sim.specs.declared.out.ChipOut.{ChipOut}
use Rattle.chip_sim.specs.declared.out.ChipOut.TheVariants.{Write}
use Rattle.chip_sim.specs.declared.out.Sending.{Sending as SendingParts}
use Rattle.zw_words.specs.declared.side.Side.TheVariants.{Chip as by_chip}
use Rattle.zw_text.specs.declared.entry.Entry.{Entry}
use Rattle.zw_text.specs.declared.entry.Entry.TheVariants as entry
use Rattle.law_transcript.specs.Nodes.{controller, is_joined}
use Rattle.law_wire.specs.Asked.{Course, Sending, acks, clock_of, course_of, in_tick, last_sending, passed_by, sending_after, sending_by, sending_of, takes}
use Rattle.law_wire.specs.Networks.{chip_network}
use Rattle.law_wire.specs.Routes.{HasNoRoute}
use Rattle.law_wire.specs.Taking.{IsPassedOver, MayAir, to_air}
use Rattle.outside_model.specs.Devices.{State}
use Rattle.outside_model.specs.State.{OuterState, each}
use Rattle.outside_model.specs.Chip.{put_out}
use Rattle.proof_host.proofs.Lists.{each-append}
use Rattle.proof_routes.proofs.Books.{same_joined}
use Rattle.proof_air.proofs.SentBefore.{same_clock}
use Rattle.proof_air.proofs.Untimed.{IsUntimed}
use Rattle.proof_chip.specs.Serving.{GoesOn, Serves}
use Rattle.proof_chip.specs.Sending.{AreSending, TieAir, TieItems}
use Rattle.proof_chip.proofs.Airing.{IsNoAck, last_answered, same_last, taken_by}
use Rattle.proof_chip.proofs.Answered.{GivesNone, IsAnswered, answered_outs, answered_told}
use Rattle.proof_chip.proofs.Growing.{start, told}
use Rattle.proof_chip.proofs.Judging.{AirsFor, frame_put, left_over}
use Rattle.proof_chip.proofs.Payloads.{has_payload}
use Rattle.proof_chip.proofs.Passing.{ShowsNone, network_all, others_no_ack, others_stand, puts_other, shown_all}
use Rattle.proof_chip.proofs.Quieting.{IsUnanswered, event_none}
use Rattle.proof_chip.proofs.Submitting.{firsts_both, firsts_of, passed_both, passed_of, submits}
use Rattle.proof_chip.proofs.Taking.{answered_ties, takes_same}
use Rattle.proof_chip.proofs.Telling.{IsPut, puts_put}

-- ---- entries

pub put_shows : (e : Entry) → IsPut e → ShowsNone e
put_shows (entry.Written by_chip unit) put = (tt, refl)
put_shows (entry.Dropped side) put = (tt, refl)
put_shows (entry.Garbled side unit) put = (tt, refl)
put_shows (entry.Overrun side) put = (tt, refl)
put_shows (entry.Air frame sender receiver repeaters payload) put = (tt, refl)
put_shows entry.ChipFull put = (tt, refl)
put_shows e put = absurd put

pub put_untimed : (e : Entry) → IsPut e → IsUntimed e
put_untimed (entry.Written by_chip unit) put = tt
put_untimed (entry.Dropped side) put = tt
put_untimed (entry.Garbled side unit) put = tt
put_untimed (entry.Overrun side) put = tt
put_untimed (entry.Air frame sender receiver repeaters payload) put = tt
put_untimed entry.ChipFull put = tt
put_untimed e put = absurd put

pub gives_no_ack : (e : Entry) → GivesNone e → IsNoAck e
gives_no_ack (entry.Written by_chip unit) none = none
gives_no_ack e none = tt

-- ---- courses

pub goes_back : (steps more : List Step) (later : Course) → GoesOn (course_of (steps ++ more)) later → GoesOn (course_of steps) later
goes_back steps more later goes = record {
  frames = passed_of more ++ goes.frames;
  flags = firsts_of more ++ goes.flags;
  passed = goes.passed ∙ ap (λ (l : List FrameParts). l ++ goes.frames) (passed_both steps more) ∙ append_assoc (passed_of steps) (passed_of more) goes.frames;
  firsts = goes.firsts ∙ ap (λ (l : List Bool). l ++ goes.flags) (firsts_both steps more) ∙ append_assoc (firsts_of steps) (firsts_of more) goes.flags;
}

-- ---- SendData that are not of a later tick

abbrev NotLater : ℕ → Sending → Type 0
NotLater clock one = one.clock ≤ clock

few_in : (clock now : ℕ) (sendings : List Sending) → AllByRecursion (NotLater clock) sendings → AllByRecursion (NotLater clock) (in_tick now sendings)
few_in clock now [] few = tt
few_in clock now (one ∷ sendings) few = by (one.clock == now) (few_in clock now sendings few.1)
  where
    by : (b : Bool) → AllByRecursion (NotLater clock) (in_tick now sendings) → AllByRecursion (NotLater clock) (if b then one ∷ in_tick now sendings else in_tick now sendings)
    by true rest = (few.0, rest)
    by false rest = rest

few_by : (clock : ℕ) (past : List Entry) (under : List Sending) (request : Request) → clock_of past ≤ clock → AllByRecursion (NotLater clock) under → AllByRecursion (NotLater clock) (sending_by past under request)
few_by clock past under (SendData node payload options id) now few = by (takes past under node payload)
  where
    by : (b : Bool) → AllByRecursion (NotLater clock) (if b then sending_of past node payload id ∷ [] else under)
    by true = (now, tt)
    by false = few
few_by clock past under SendDataAbort now few = tt
few_by clock past under request now few = few

few_after : (clock : ℕ) (past : List Entry) (last : List Sending) (o : Option Request) → clock_of past ≤ clock → AllByRecursion (NotLater clock) last
    → AllByRecursion (NotLater clock) (sending_after last (map (λ (request : Request). record { request = request; past = past }) (listed_of o)))
few_after clock past last None now few = few
few_after clock past last (Some request) now few = few_by clock past (in_tick (clock_of past) last) request now (few_in clock (clock_of past) last few)

-- ---- what the chip knows of nodes and ways

abbrev KeepsNodes : ChipState → ChipState → Type 0
KeepsNodes s later = (later.joined ≡ s.joined) × (later.table ≡ s.table)

given_nodes : (o : Option FrameParts) (s : ChipState) → KeepsNodes s (given_if s o)
given_nodes None s = (refl, refl)
given_nodes (Some f) s = (refl, refl)

stopped_nodes : (o : Option SendingParts) (s : ChipState) → KeepsNodes s (stopped o s)
stopped_nodes None s = (refl, refl)
stopped_nodes (Some parts) s = (refl, refl)

performed_nodes : (request : Request) (s : ChipState) → KeepsNodes s (performed request s)
performed_nodes (SendData node payload options id) s = by (takes_of s node payload)
  where
    by : (b : Bool) → KeepsNodes s (if b then record s { sending = Some (record { node = node; callback_id = id }) } else s)
    by true = (refl, refl)
    by false = (refl, refl)
performed_nodes SendDataAbort s = stopped_nodes s.sending s
performed_nodes GetInitData s = (refl, refl)
performed_nodes GetCapabilities s = (refl, refl)
performed_nodes GetVersion s = (refl, refl)
performed_nodes MemoryGetId s = (refl, refl)
performed_nodes (GetNodeProtocolInfo node) s = (refl, refl)
performed_nodes (AddNode mode id) s = (refl, refl)
performed_nodes (RequestNodeInfo node) s = (refl, refl)
performed_nodes (IsFailedNode node) s = (refl, refl)
performed_nodes (GetRoutingInfo node x y z) s = (refl, refl)

requested_nodes : (o : Option Request) (s : ChipState) → KeepsNodes s (requested o s)
requested_nodes None s = (refl, refl)
requested_nodes (Some request) s =
    let first = given_nodes (reply_to s request) s in
    let then_done = performed_nodes request (given_if s (reply_to s request)) in
    (then_done.0 ∙ first.0, then_done.1 ∙ first.1)

pub judged_nodes : (o : Option FrameParts) (s : ChipState) → KeepsNodes s (judged_frame o s)
judged_nodes None s = (refl, refl)
judged_nodes (Some f) s = requested_nodes (asked_of f) s

-- ---- items that answer no frame

-- which of both an item is
pub decided : (b : Bool) (item : Item) (way : Option Route) → IsUnanswered b (Judged item way) ⊎ ((f : FrameParts) × (item ≡ Good (Framed f)) × (b ≡ false))
decided true item way = inl tt
decided false (Good Ack) way = inl tt
decided false (Good Nak) way = inl tt
decided false (Good Can) way = inl tt
decided false (Good (Framed f)) way = inr (f, refl, refl)
decided false (Refused r) way = inl tt

pub none_passed : (b : Bool) (item : Item) (way : Option Route) → IsUnanswered b (Judged item way) → passed b item ≡ None
none_passed true item way none = refl
none_passed false (Good Ack) way none = refl
none_passed false (Good Nak) way none = refl
none_passed false (Good Can) way none = refl
none_passed false (Good (Framed f)) way none = absurd none
none_passed false (Refused r) way none = refl

-- a frame that is answered is passed up first
first_passed : (s : ChipState) (f : FrameParts) (way : Option Route) → collides s ≡ false → (rest : List FrameParts) × (passed_of (link_steps s (Judged (Good (Framed f)) way)) ≡ f ∷ rest)
first_passed s f way free =
    (flat_map passed_by (outs_of (submits (begun_at s (Judged (Good (Framed f)) way)))), ap (λ (b : Bool). flat_map passed_by ((answer_of b (Good (Framed f)) ++ []) ++ outs_of (submits (begun_at s (Judged (Good (Framed f)) way))))) free)

-- it is the next that a course that goes on has passed up
pub passed_at : (steps : List Step) (frames : List FrameParts) (past : List Entry) (o : OuterState) → Serves steps frames past o.chip.state.port → (way : Option Route) (f : FrameParts) → collides o.chip.state ≡ false
    → (later : Course) → GoesOn (course_of (steps ++ link_steps o.chip.state (Judged (Good (Framed f)) way))) later → slice_get later.passed (acks past) ≡ Some f
passed_at steps frames past o serves way f free later goes =
    let first = first_passed o.chip.state f way free in
    let at = serves.passed in
    let all : later.passed ≡ passed_of steps ++ (f ∷ (first.0 ++ goes.frames)) =
    goes.passed
    ∙ ap (λ (l : List FrameParts). l ++ goes.frames) (passed_both steps (link_steps o.chip.state (Judged (Good (Framed f)) way)) ∙ ap (λ (l : List FrameParts). passed_of steps ++ l) first.1)
    ∙ append_assoc (passed_of steps) (f ∷ first.0) goes.frames in
    ap (λ (l : List FrameParts). slice_get l (acks past)) all ∙ slice_get-append_right (passed_of steps) (f ∷ (first.0 ++ goes.frames)) (acks past) 0 (omega (arith, at))

-- ---- with one course that goes on

module _ (devices : List State) (steps : List Step) (frames : List FrameParts) (past : List Entry) (o p : OuterState) (serves : Serves steps frames past o.chip.state.port) (ties : TieItems devices steps past o)
    (clock : p.clock ≡ o.clock) (way : Option Route) where
  -- what is so after an item
  abbrev Keeps : Item → Type 0
  Keeps item =
      p.chip.state ≡ after o.chip.state (Judged item way) → May o.chip.state (Judged item way) → (later : Course) → GoesOn (course_of (steps ++ link_steps o.chip.state (Judged item way))) later
      → TieAir devices later (past ++ told steps frames past o (Judged item way) serves) p

  unanswered : (item : Item) → IsUnanswered (collides o.chip.state) (Judged item way) → Keeps item
  unanswered item none is may later goes =
      let e : ChipEvent = Judged item way in
      let entered : List Entry = told steps frames past o e serves in
      let was = ties.airs later (goes_back steps (link_steps o.chip.state e) later goes) in
      let others = puts_other (outs o.chip.state e) (start steps frames past o e serves) (event_none o.chip.state e none) in
      let stands = others_stand devices later entered past others was.over in
      let last : last_sending later (past ++ entered) ≡ last_sending later past = same_last later past entered (others_no_ack entered others) in
      let sending : p.chip.state.sending ≡ o.chip.state.sending =
      ap (λ (s : ChipState). s.sending) is ∙ ap (λ (passes : Option FrameParts). (judged_frame passes (heard o.chip.state item)).sending) (none_passed (collides o.chip.state) item way none) in
      record {
        so = each-append (MayAir devices later) [] past entered was.so stands.0;
        over = stands.1;
        under =
            subst (λ (l : List Sending). AreSending p.chip.state.sending (in_tick p.clock l)) (sym last)
            (subst (λ (n : ℕ). AreSending p.chip.state.sending (in_tick n (last_sending later past))) (sym clock)
            (subst (λ (x : Option SendingParts). AreSending x (in_tick o.clock (last_sending later past))) (sym sending) was.under));
        few =
            subst (λ (l : List Sending). AllByRecursion (NotLater p.clock) l) (sym last)
            (subst (λ (n : ℕ). AllByRecursion (NotLater n) (last_sending later past)) (sym clock) was.few);
      }

  module _ (f : FrameParts) (free : collides o.chip.state ≡ false) (is : p.chip.state ≡ after o.chip.state (Judged (Good (Framed f)) way)) (may : May o.chip.state (Judged (Good (Framed f)) way)) (later : Course)
      (goes : GoesOn (course_of (steps ++ link_steps o.chip.state (Judged (Good (Framed f)) way))) later) where
    abbrev e : ChipEvent
    e = Judged (Good (Framed f)) way

    abbrev s : ChipState
    s = heard o.chip.state (Good (Framed f))

    abbrev entered : List Entry
    entered = told steps frames past o e serves

    was : TieAir devices later past o
    was = ties.airs later (goes_back steps (link_steps o.chip.state e) later goes)

    abbrev last : List Sending
    last = last_sending later past

    abbrev under : List Sending
    under = in_tick (clock_of past) last

    passed_here : slice_get later.passed (acks past) ≡ Some f
    passed_here = passed_at steps frames past o serves way f free later goes

    agree : (node : ℕ) (payload : List ℕ) (options id : ℕ) → asked_of f ≡ Some (SendData node payload options id) → takes_of s node payload ≡ takes past under node payload
    agree node payload options id asks =
        takes_same s past under node payload (subst (λ (n : ℕ). AreSending o.chip.state.sending (in_tick n last)) (sym ties.agrees.clock) was.under) ties.agrees.joined
        (has_payload node payload options id f asks)

    outs_are : outs o.chip.state e ≡ Write Ack ∷ requested_outs (asked_of f) s way
    outs_are = answered_outs o.chip.state f way free

    abbrev begins : OuterState
    begins = start steps frames past o e serves

    airs : AirsFor devices later past entered (left_over devices later way (taken_by past under (asked_of f)))
    airs =
        subst (λ (puts : List ChipOut). AirsFor devices later past (each put_out begins puts).entries (left_over devices later way (taken_by past under (asked_of f)))) (sym outs_are)
        (frame_put devices later past f passed_here was.over s way agree begins)

    is_answered : IsAnswered past entered
    is_answered = subst (λ (puts : List ChipOut). IsAnswered past (each put_out begins puts).entries) (sym outs_are) (answered_told past begins (asked_of f) s way)

    no_ack : AllByRecursion IsNoAck is_answered.rest
    no_ack = all-weaker GivesNone IsNoAck gives_no_ack is_answered.rest is_answered.none

    state_is : p.chip.state ≡ requested (asked_of f) s
    state_is = is ∙ ap (λ (b : Bool). judged_frame (passed b (Good (Framed f))) s) free

    shows : AllByRecursion ShowsNone entered
    shows = all-weaker IsPut ShowsNone put_shows entered (puts_put (outs o.chip.state e) begins)

    abbrev Without : List Sending → Type 0
    Without sendings = AllByRecursion (λ (one : Sending). HasNoRoute (chip_network devices past) one.node) sendings

    abbrev May_by : Bool → Type 0
    May_by b = JudgedWay (passed b (Good (Framed f))) s way

    -- what has no way by the chip's table has none by its network
    left_behind : to_air later (past ++ entered) ≡ left_over devices later way (taken_by past under (asked_of f)) → IsPassedOver false devices later (past ++ entered)
    left_behind left =
        subst (λ (l : List Sending). AllByRecursion (λ (one : Sending). HasNoRoute (chip_network devices (past ++ entered)) one.node) l) (sym left)
        (subst (λ (net : Network). AllByRecursion (λ (one : Sending). HasNoRoute net one.node) (left_over devices later way (taken_by past under (asked_of f)))) (sym (network_all devices entered past shows))
        (by way (asked_of f) refl (subst (λ (b : Bool). May_by b) free may)))
      where
        joined_apart : (node : ℕ) → is_joined past node ≡ true → node ≡ controller → ⊥
        joined_apart node joins same = let both : true ≡ false = sym joins ∙ ap (λ (n : ℕ). is_joined past n) same ∙ ties.agrees.ways.home in cc

        sent_by : (node : ℕ) (payload : List ℕ) (id : ℕ) (b c : Bool) → takes_of s node payload ≡ b → takes past under node payload ≡ c → b ≡ c → IsWayIf b o.chip.state.table node None
            → Without (if c then sending_of past node payload id ∷ [] else [])
        sent_by node payload id b false takes_it is_taken same ways = tt
        sent_by node payload id false true takes_it is_taken same ways = absurd cc
        sent_by node payload id true true takes_it is_taken same ways = (ties.agrees.ways.blocked node (ways (joined_apart node (taken_joined is_taken))), tt)
          where
            taken_joined : takes past under node payload ≡ true → is_joined past node ≡ true
            taken_joined is = by (length under == 0) (is_joined past node) refl refl is
              where
                by : (a j : Bool) → (length under == 0) ≡ a → is_joined past node ≡ j → takes past under node payload ≡ true → is_joined past node ≡ true
                by a true idle joins is = joins
                by a false idle joins is = absurd (let none : false ≡ true = sym (and_none a) ∙ ap₂ (λ (x y : Bool). x && (y && nat_le (length payload) 46)) (sym idle) (sym joins) ∙ is in cc)
                  where
                    and_none : (x : Bool) → (x && (false && nat_le (length payload) 46)) ≡ false
                    and_none true = refl
                    and_none false = refl

        by : (w : Option Route) (asks : Option Request) → asked_of f ≡ asks → HasWay (asked_of f) s w → Without (left_over devices later w (taken_by past under asks))
        by (Some route) asks asked_is ways = tt
        by None None asked_is ways = tt
        by None (Some (SendData node payload options id)) asked_is ways =
            sent_by node payload id (takes_of s node payload) (takes past under node payload) refl refl (agree node payload options id asked_is)
            (subst (λ (x : Option Request). HasWay x s None) asked_is ways)
        by None (Some request) asked_is ways = tt

    answered : TieAir devices later (past ++ entered) p
    answered = record {
      so = each-append (MayAir devices later) [] past entered was.so airs.0;
      over = left_behind airs.1;
      under =
          subst (λ (x : Option SendingParts). AreSending x (in_tick p.clock (last_sending later (past ++ entered)))) (sym (ap (λ (x : ChipState). x.sending) state_is))
          (subst (λ (n : ℕ). AreSending (requested (asked_of f) s).sending (in_tick n (last_sending later (past ++ entered)))) (sym clock)
          (subst (λ (l : List Entry). AreSending (requested (asked_of f) s).sending (in_tick o.clock (last_sending later (past ++ l)))) (sym is_answered.is)
          (answered_ties later past is_answered.rest o.clock f s ties.agrees.clock passed_here no_ack agree was.under)));
      few =
          subst (λ (n : ℕ). AllByRecursion (NotLater n) (last_sending later (past ++ entered))) (sym clock)
          (subst (λ (l : List Entry). AllByRecursion (NotLater o.clock) (last_sending later (past ++ l))) (sym is_answered.is)
          (subst (λ (l : List Sending). AllByRecursion (NotLater o.clock) l) (sym (last_answered later past is_answered.rest f passed_here no_ack))
          (few_after o.clock past last (asked_of f) (let now = ties.agrees.clock in omega (arith, now)) was.few)));
    }

  judged_air : (item : Item) → Keeps item
  judged_air item = by (decided (collides o.chip.state) item way)
    where
      by : IsUnanswered (collides o.chip.state) (Judged item way) ⊎ ((f : FrameParts) × (item ≡ Good (Framed f)) × (collides o.chip.state ≡ false)) → Keeps item
      by (inl none) = unanswered item none
      by (inr (f, same, free)) = subst Keeps (sym same) (λ is may later goes. answered f free is may later goes)

  -- ---- all of it

  pub judged_ties : (item : Item) → p.chip.state ≡ after o.chip.state (Judged item way) → May o.chip.state (Judged item way)
      → TieItems devices (steps ++ link_steps o.chip.state (Judged item way)) (past ++ told steps frames past o (Judged item way) serves) p
  judged_ties item is may =
      let e : ChipEvent = Judged item way in
      let entered : List Entry = told steps frames past o e serves in
      let puts = puts_put (outs o.chip.state e) (start steps frames past o e serves) in
      let shows = all-weaker IsPut ShowsNone put_shows entered puts in
      let nodes = judged_nodes (passed (collides o.chip.state) item) (heard o.chip.state item) in
      let joins : (node : ℕ) → is_joined (past ++ entered) node ≡ is_joined past node = same_joined (past ++ entered) past (shown_all entered past shows) in
      record {
        airs = judged_air item is may;
        agrees = record {
          clock = same_clock past entered (all-weaker IsPut IsUntimed put_untimed entered puts) ∙ ties.agrees.clock ∙ sym clock;
          joined = λ node. ap (λ (l : List Bool). is_marked l node) (ap (λ (s : ChipState). s.joined) is ∙ nodes.0) ∙ ties.agrees.joined node ∙ sym (joins node);
          ways = record {
            blocked = λ node none.
                subst (λ (net : Network). HasNoRoute net node) (sym (network_all devices entered past shows))
                (ties.agrees.ways.blocked node (λ way walks. none way (subst (λ (net : Network). Walk net node way) (sym (ap (λ (s : ChipState). s.table) is ∙ nodes.1)) walks)));
            home = joins controller ∙ ties.agrees.ways.home;
          };
        };
      }
