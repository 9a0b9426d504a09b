-- What a request that a host alone submits makes of the attempts of each node: it is of an attempt of the node that it serves, and of no other.
use Rattle.std.proofs.Common.{◌≡◌, ℕ, ◌+◌, ◌≤◌, ◌<◌, ◌==◌, ◌&&◌, ◌||◌, Bool, true, false, if◌then◌else◌, Option, Some, None, length, List, [], ◌∷◌, ◌++◌, refl, sym, ap, ap₂, ◌∙◌, subst, append_assoc, arith}
use Rattle.std.specs.Prelude.{is_none, is_some, map, nat_lt}
use Rattle.std.specs.List.{flat_map, list_any}
use Rattle.std.proofs.lemmas.Bool.{and_right, both_ways, eq-eqb, eqb-true, ltb-true, or_left}
use Rattle.zw_base.proofs.Each.{all-weaker}
use Rattle.serial_frame.specs.Frame.{FrameParts}
use Rattle.serial_frame.specs.Items.{unit_text}
use Rattle.serial_frame.specs.declared.unit.Unit.TheVariants.{Framed}
use Rattle.chip_functions.specs.declared.request.Request.{Request}
use Rattle.supervision.specs.Host.{open_session}
use Rattle.encap.specs.Opening.{begins_with}
use Rattle.zw_words.specs.declared.side.Side.TheVariants.{Host}
use Rattle.zw_text.specs.declared.entry.Entry.{Entry}
use Rattle.zw_text.specs.declared.entry.Entry.TheVariants as entry
use Rattle.host_heard.specs.declared.told.Told.{Told}
use Rattle.law_transcript.specs.Units.{Carried, request_in, sending_in, sending_of}
use Rattle.law_time.specs.Attempts.{Attempts, anew, attempt_is_over, attempts_by_request, ends_badly, goes_on, is_late, is_of_attempt, is_of_inner}
use Rattle.law_time.specs.Ends.{is_abort, is_abort_frame}
use Rattle.law_time.specs.Heeds.{Heeds}
use Rattle.law_time.specs.Moments.{clock}
use Rattle.law_time.specs.Queue.{Requests, requests, waits_before}
use Rattle.law_time.specs.Requests.{Asked, are_none, asked, is_new}
use Rattle.law_time.specs.Sessions.{last_command}
use Rattle.host_requests.specs.Frames.{frame_of, request_of}
use Rattle.host_requests.specs.State.{next_id}
use Rattle.host_requests.specs.declared.task.Purpose.{Purpose}
use Rattle.host_requests.specs.declared.task.Purpose.TheVariants.{Attempt, Housekeeping, Abort}
use Rattle.host_requests.specs.declared.task.Task.{Task}
use Rattle.host_requests.specs.declared.under_way.Progress.TheVariants.{Submitted}
use Rattle.host_requests.specs.declared.under_way.UnderWay.{UnderWay}
use Rattle.host_node.specs.Facts.{NodeFacts, SeriesFacts}
use Rattle.host_node.specs.State.{NodeState, has_segment, is_idle}
use Rattle.host_node.specs.Steps.{after_segment, after_start, after_text}
use Rattle.host_node.specs.declared.attempt.Plan.{Plan}
use Rattle.host_node.specs.declared.attempt.Plan.TheVariants.{Whole, Segments, Sealed}
use Rattle.host_node.specs.declared.series.Series.{Series}
use Rattle.host_node.specs.declared.series.Series.TheVariants.{Idle, Due, Running}
use Rattle.host_model.specs.State.{node_of}
use Rattle.host_model.specs.After.{after, task_purpose}
use Rattle.host_model.specs.Did.{MayAll}
use Rattle.host_model.specs.Events.{HostEvent, Submits_abort, Submits_front, Starts, Gives_text, Gives_segment}
use Rattle.host_model.specs.Facts.{HostFacts}
use Rattle.host_model.specs.May.{IsFree, IsStart}
use Rattle.host_model.specs.Outs.{outs}
use Rattle.host_model.specs.Pumping.{IsNext}
use Rattle.host_model.specs.Sessions.{open_segment}
use Rattle.host_model.specs.declared.out.HostOut.{HostOut}
use Rattle.host_model.specs.declared.out.HostOut.TheVariants.{Write}
use Rattle.proof_queue.specs.proof_attempts.proof_requests.law_host.Heard.{heeds_alone}
use Rattle.proof_queue.specs.proof_attempts.proof_requests.proof_alone.State.{HostMachine}
use Rattle.proof_queue.specs.proof_attempts.proof_requests.proof_alone.Steps.{AreTold, IsOfUnit}
use Rattle.proof_queue.specs.proof_attempts.proof_requests.proof_alone.Phases.{Submitting, IsNumbered}
use Rattle.proof_queue.specs.proof_attempts.proof_requests.Asking.{doing_of}
use Rattle.proof_queue.specs.proof_attempts.proof_requests.Walking.{Ground, IsRead, IsTied, ReadsAs}
use Rattle.proof_queue.proofs.Queued.{PayloadsBring}
use Rattle.proof_queue.proofs.Stepping.{event_is_read, time_told}
use Rattle.proof_queue.proofs.proof_attempts_Walking.{is_fresh, written_told}
use Rattle.proof_queue.proofs.AttemptsGo.{begins, goes_further, other_asked}
use Rattle.proof_queue.proofs.Wrote.{front_now}
use Rattle.proof_queue.proofs.proof_requests_Growing.{asked_new}
use Rattle.proof_queue.proofs.proof_requests_Telling.{quiet_on}
use Rattle.proof_queue.proofs.Doings.{did, does_at, node_after}
use Rattle.proof_queue.specs.proof_attempts.Attempts.{AreAttempts, has_ended_badly, is_over_by}
use Rattle.proof_queue.specs.Waiting.{want_of_task}
use Rattle.proof_queue.proofs.Books.{last_is}
use Rattle.proof_queue.proofs.proof_requests_Judging.{or_false}
use Rattle.proof_giving.specs.Told.{LeavesAttempts, attempts_so_far}
use Rattle.proof_giving.specs.Stays.{KeepsSessions, NoSession, NothingBegins, ShowsSessions}
use Rattle.proof_giving.specs.Tie.{AttemptsSo, IsNoAbort, IsRequest, IsSealing, NodeSo, SentAs, WaitsAsTold, WantsFit, has_text, is_badly_over, is_for}
use Rattle.proof_giving.proofs.Along.{is_opened, sealing_kept, shown}
use Rattle.proof_giving.proofs.Carries.{segments_inner, starts_inner, starts_sealing, texts_inner}
use Rattle.proof_giving.proofs.Fewer.{fewer_kept}
use Rattle.proof_giving.proofs.Inner.{inner_kept, inner_told}
use Rattle.proof_giving.proofs.Orders.{event_keeps}
use Rattle.proof_giving.proofs.Told.{attempts_asked, attempts_left, node_is}
use Rattle.proof_giving.proofs.Begun.{sealed_goes, segments_go, starts_begin}

-- ---- of whose attempt it is

both_none : (b : Bool) → ((b || false) && true) ≡ b
both_none true = refl
both_none false = refl

pub of_attempt : (heeds : Heeds) (n : ℕ) (past : List Entry) (r : Requests) (unit : List ℕ) (purpose : Purpose) (id : ℕ) → request_in unit ≡ request_of purpose id ∷ []
    → WantsFit purpose (waits_before heeds past r (entry.Written Host unit)).wants → is_of_attempt heeds n past r unit ≡ is_for n purpose
of_attempt heeds n past r unit (Attempt k more payload) id read none =
    ap₂ (λ (l : List Request) (w : List (List ℕ)). list_any (λ (carried : Carried). carried.node == n) (flat_map sending_of l) && are_none w) read none ∙ both_none (k == n)
of_attempt heeds n past r unit (Housekeeping task) id read some =
    and_right (list_any (λ (carried : Carried). carried.node == n) (sending_in unit)) (are_none (waits_before heeds past r (entry.Written Host unit)).wants) some
of_attempt heeds n past r unit Abort id read fits =
    ap (λ (l : List Request). list_any (λ (carried : Carried). carried.node == n) (flat_map sending_of l) && are_none (waits_before heeds past r (entry.Written Host unit)).wants) read

goes_as : (unit : List ℕ) (n id : ℕ) (more : Bool) (payload : List ℕ) → request_in unit ≡ request_of (Attempt n more payload) id ∷ []
    → list_any (λ (carried : Carried). goes_on carried.payload) (sending_in unit) ≡ goes_on payload
goes_as unit n id more payload read = ap (λ (l : List Request). list_any (λ (carried : Carried). goes_on carried.payload) (flat_map sending_of l)) read ∙ or_false (goes_on payload)

-- whether the last one is over, as it is said of the request of the host
pub over_as : (heeds : Heeds) (n : ℕ) (past : List Entry) (last : Asked) (now : ℕ) (told : Attempts) → told.node ≡ n → attempt_is_over heeds past last now told ≡ is_over_by now (has_ended_badly heeds past last now n) told
over_as heeds n past last now told of =
    ap (λ (k : ℕ). is_late now told || (told.own && ends_badly last (list_any (is_of_inner heeds past k last.frame) (last_command k past)) now)) of

-- ---- nodes

module _ (told : Attempts) (s : NodeState) (now : ℕ) (badly : Bool) (unit : List ℕ) (facts : NodeFacts s) (so : NodeSo told s now badly) where
  are : AreAttempts told s now badly
  are = so.are

  sent : s.series ≡ Running → SentAs told s
  sent = so.sent

  text : (sealed : List ℕ) → s.text ≡ Some sealed → begins_with sealed 0x98 0x81 ≡ true
  text = so.text

  abbrev Asks : Attempts → NodeState → Type 0
  Asks told node = NodeSo told node now false

  other_so : Asks (attempts_by_request false (is_over_by now badly told) unit told) s
  other_so = record {
    are = other_asked told s now badly false unit are;
    sent = λ is. let was = sent is in record { some = was.some; segments = was.segments };
    text = text;
  }

  no_wait : (series : Series) → s.series ≡ series → series ≡ Due → SeriesFacts series s.book s.attempt_wait s.again_wait s.next_segment s.segments s.text s.pending → s.attempt_wait ≡ 0
  no_wait Idle is due facts = absurd (let bad : Idle ≡ Due = due in cc)
  no_wait Due is due facts = facts.2.no_wait
  no_wait Running is due facts = absurd (let bad : Running ≡ Due = due in cc)

  nothing_left : (series : Series) → series ≡ Due → SeriesFacts series s.book s.attempt_wait s.again_wait s.next_segment s.segments s.text s.pending → (s.segments ≡ 0) × (s.text ≡ None) × (s.pending ≡ None)
  nothing_left Idle due facts = absurd (let bad : Idle ≡ Due = due in cc)
  nothing_left Due due facts = (facts.2.no_segments, facts.2.no_text, facts.2.no_pending)
  nothing_left Running due facts = absurd (let bad : Running ≡ Due = due in cc)

  none_some : (A : Type 0) (o : Option (List ℕ)) (sealed : List ℕ) → o ≡ None → o ≡ Some sealed → A
  none_some A o sealed none some = absurd (let bad : ◌≡◌ {A = Option (List ℕ)} None (Some sealed) = sym none ∙ some in cc)

  -- one that is due begins
  begins_so : (plan : Plan) → s.series ≡ Due → list_any (λ (carried : Carried). goes_on carried.payload) (sending_in unit) ≡ false
      → Asks (attempts_by_request true (is_over_by now badly told) unit told) (after_start s plan)
  begins_so plan due first =
      record {
        are = begins told s now badly (is_over_by now badly told) unit plan are due (no_wait s.series refl due facts.series) first;
        sent = λ is.
            subst (λ (a : Attempts). SentAs a (after_start s plan))
            (sym (ap (λ (b : Bool). if b then record told { sent = told.sent + 1; own = true; ready = [] } else record (anew told) { begun = told.begun + 1; sent = 1; own = true }) first)) (by plan);
        text = texts plan;
      }
    where
      left : (s.segments ≡ 0) × (s.text ≡ None) × (s.pending ≡ None)
      left = nothing_left s.series due facts.series

      none : 1 ≤ s.segments → ⊥
      none some = let zero_is = left.0 in omega (arith, zero_is, some)

      by : (plan : Plan) → SentAs (record (anew told) { begun = told.begun + 1; sent = 1; own = true }) (after_start s plan)
      by Whole = record { some = omega arith; segments = λ some. absurd (none some) }
      by (Segments count) = record { some = omega arith; segments = λ some. (refl, left.1, left.2) }
      by (Sealed plain) = record { some = omega arith; segments = λ some. absurd (none some) }

      texts : (plan : Plan) (sealed : List ℕ) → (after_start s plan).text ≡ Some sealed → begins_with sealed 0x98 0x81 ≡ true
      texts Whole sealed is = none_some (begins_with sealed 0x98 0x81 ≡ true) s.text sealed left.1 is
      texts (Segments count) sealed is = none_some (begins_with sealed 0x98 0x81 ≡ true) s.text sealed left.1 is
      texts (Sealed plain) sealed is = none_some (begins_with sealed 0x98 0x81 ≡ true) s.text sealed left.1 is

  -- one that runs goes on
  abbrev further : Attempts
  further = record told { sent = told.sent + 1; own = true; ready = [] }

  further_is : list_any (λ (carried : Carried). goes_on carried.payload) (sending_in unit) ≡ true → attempts_by_request true (is_over_by now badly told) unit told ≡ further
  further_is more = ap (λ (b : Bool). if b then record told { sent = told.sent + 1; own = true; ready = [] } else record (anew told) { begun = told.begun + 1; sent = 1; own = true }) more

  segment_so : s.series ≡ Running → 1 ≤ s.segments → list_any (λ (carried : Carried). goes_on carried.payload) (sending_in unit) ≡ true
      → Asks (attempts_by_request true (is_over_by now badly told) unit told) (after_segment s)
  segment_so runs some more =
      let was = (sent runs).segments some in
      let least = (sent runs).some in
      record {
        are = (goes_further told s now badly are runs (is_over_by now badly told) unit more).0;
        sent = λ is. subst (λ (a : Attempts). SentAs a (after_segment s)) (sym (further_is more)) (record { some = omega (arith, least); segments = λ there. (ap (λ (k : ℕ). k + 1) was.0, was.1, was.2) });
        text = text;
      }

  text_so : s.series ≡ Running → (sealed : List ℕ) → s.text ≡ Some sealed → list_any (λ (carried : Carried). goes_on carried.payload) (sending_in unit) ≡ true
      → Asks (attempts_by_request true (is_over_by now badly told) unit told) (after_text s)
  text_so runs sealed has more =
      let least = (sent runs).some in
      record {
        are = (goes_further told s now badly are runs (is_over_by now badly told) unit more).1;
        sent = λ is.
            subst (λ (a : Attempts). SentAs a (after_text s)) (sym (further_is more))
            (record { some = omega (arith, least); segments = λ there. none_some _ s.text sealed ((sent runs).segments there).1 has });
        text = λ other is. absurd (let bad : ◌≡◌ {A = Option (List ℕ)} None (Some other) = is in cc);
      }

-- ---- a host

runs_by : (series : Series) (s : NodeState) → SeriesFacts series s.book s.attempt_wait s.again_wait s.next_segment s.segments s.text s.pending → (is_some s.text || has_segment s) ≡ true → series ≡ Running
runs_by Running s facts has = refl
runs_by Idle s facts has = absurd (nothing s facts.1.no_text facts.1.no_segments has)
  where
    nothing : (s : NodeState) → s.text ≡ None → s.segments ≡ 0 → (is_some s.text || has_segment s) ≡ true → ⊥
    nothing s no_text none has =
        let some : nat_lt s.next_segment 0 ≡ true = ap₂ (λ (o : Option (List ℕ)) (k : ℕ). is_some o || nat_lt s.next_segment k) (sym no_text) (sym none) ∙ has in
        let less = ltb-true s.next_segment 0 some in omega (arith, less)
runs_by Due s facts has = absurd (nothing s facts.2.no_text facts.2.no_segments has)
  where
    nothing : (s : NodeState) → s.text ≡ None → s.segments ≡ 0 → (is_some s.text || has_segment s) ≡ true → ⊥
    nothing s no_text none has =
        let some : nat_lt s.next_segment 0 ≡ true = ap₂ (λ (o : Option (List ℕ)) (k : ℕ). is_some o || nat_lt s.next_segment k) (sym no_text) (sym none) ∙ has in
        let less = ltb-true s.next_segment 0 some in omega (arith, less)

pub mark_leaves : (e : Entry) → IsOfUnit e → LeavesAttempts e
mark_leaves (entry.Dropped Host) mark = tt
mark_leaves (entry.Garbled Host unit) mark = tt
mark_leaves (entry.Overrun Host) mark = tt
mark_leaves e mark = absurd mark

same_purpose : (p : Purpose) (u : UnderWay) → Some (record { purpose = p; progress = Submitted }) ≡ Some u → u.purpose ≡ p
same_purpose p u is = let same : record { purpose = p; progress = Submitted } ≡ u = cc in sym (ap (λ (v : UnderWay). v.purpose) same)

own_by : (b over : Bool) (unit : List ℕ) (told : Attempts) → (attempts_by_request b over unit told).own ≡ b
own_by false over unit told = refl
own_by true over unit told = by (list_any (λ (carried : Carried). goes_on carried.payload) (sending_in unit))
  where
    by : (b : Bool) → (if b then record told { sent = told.sent + 1; own = true; ready = [] } else record (anew told) { begun = told.begun + 1; sent = 1; own = true }).own ≡ true
    by true = refl
    by false = refl

module _ (taken : List Entry → Carried → List Told) (past told : List Entry) (m : HostMachine) (numbered : IsNumbered m told) (ground : Ground Submitting past m) (tie : IsTied past m)
    (waits : WaitsAsTold (heeds_alone taken) past m.state m.clock) where
  abbrev heeds : Heeds
  heeds = heeds_alone taken

  abbrev id : ℕ
  id = next_id m.state.requests.last_id

  abbrev unit_of : Purpose → List ℕ
  unit_of purpose = unit_text (Framed (frame_of purpose id))

  host : HostFacts m.state
  host = ground.0.0.0.0.0.facts.host

  module _ (n : ℕ) (to : n < length m.state.nodes) (so : AttemptsSo heeds n past m.state m.clock m.clock) (shows : ShowsSessions heeds past m.state n) where
    abbrev now : Attempts
    now = attempts_so_far heeds n past

    abbrev badly : Bool
    badly = is_badly_over heeds n past m.state m.clock

    abbrev s : NodeState
    s = node_of m.state n

    abbrev asked_by : Bool → Purpose → Attempts
    asked_by b purpose = attempts_by_request b (is_over_by m.clock badly now) (unit_of purpose) now

    no_abort : (purpose : Purpose) → ReadsAs m.state purpose → is_for n purpose ≡ true → is_abort_frame (unit_of purpose) ≡ false
    no_abort (Attempt k more payload) read own = ap (λ (l : List Request). list_any is_abort l) read
    no_abort (Housekeeping task) read own = absurd (let bad : false ≡ true = own in cc)
    no_abort Abort read own = absurd (let bad : false ≡ true = own in cc)

    -- it carries what others follow as the host has it, where it is of an attempt of the node
    abbrev Carries : Purpose → Type 0
    Carries purpose = (more : Bool) (payload : List ℕ) → purpose ≡ Attempt n more payload → inner_told taken past n (unit_of purpose) ≡ more

    -- a request for this purpose is submitted, and the node does this at it
    submits : (event : HostEvent) (purpose : Purpose) → NoSession event → HostFacts (after m.state event) → ShowsSessions heeds (past ++ told) (after m.state event) n → IsFree m.state → outs m.state event ≡ Write (Framed (frame_of purpose id)) ∷ [] → ReadsAs m.state purpose
        → WantsFit purpose (map want_of_task m.state.requests.queue) → (after m.state event).requests.under_way ≡ Some (record { purpose = purpose; progress = Submitted }) → AreTold (outs m.state event) told
        → Carries purpose → (has_text (node_of (after m.state event) n) ≡ true → IsSealing m.state n)
        → NodeSo (asked_by (is_for n purpose) purpose) (node_of (after m.state event) n) m.clock false → AttemptsSo heeds n (past ++ told) (after m.state event) m.clock m.clock
    submits event purpose calm others showing free puts read fits under_way are carries seals goes =
        let f : FrameParts = frame_of purpose id in
        let unit : List ℕ = unit_text (Framed f) in
        let wrote = written_told f told (subst (λ (l : List HostOut). AreTold l told) puts are) in
        let new : is_new (asked past) unit ≡ true = is_fresh past m.clock m.came (doing_of m.state) f free.free_line tie in
        let fresh : is_new (requests heeds past).last unit ≡ true = ap (λ (a : Asked). is_new a unit) (last_is taken past) ∙ new in
        let time : clock past ≡ m.clock = time_told Submitting past told m ground numbered (entry.Written Host unit) wrote.rest wrote.are in
        let whose : is_of_attempt heeds n past (requests heeds past) unit ≡ is_for n purpose
        = of_attempt heeds n past (requests heeds past) unit purpose id read (subst (WantsFit purpose) (sym (waits unit new time)) fits) in
        let badly_is : has_ended_badly heeds past (asked past) m.clock n ≡ badly = sym (ap (λ (o : Option UnderWay). is_none o && has_ended_badly heeds past (asked past) m.clock n) free.none_under_way) in
        let over : attempt_is_over heeds past (requests heeds past).last (clock past) now ≡ is_over_by m.clock badly now
        = ap₂ (λ (a : Asked) (k : ℕ). attempt_is_over heeds past a k now) (last_is taken past) time ∙ over_as heeds n past (asked past) m.clock now (node_is heeds n past)
        ∙ ap (λ (b : Bool). is_over_by m.clock b now) badly_is in
        let later : attempts_so_far heeds n (past ++ told) ≡ asked_by (is_for n purpose) purpose
        = ap (λ (l : List Entry). attempts_so_far heeds n (past ++ l)) wrote.are
        ∙ ap (λ (l : List Entry). attempts_so_far heeds n l) (sym (append_assoc past (entry.Written Host unit ∷ []) wrote.rest))
        ∙ attempts_left taken n (past ++ entry.Written Host unit ∷ []) wrote.rest (all-weaker IsOfUnit LeavesAttempts mark_leaves wrote.rest wrote.marks)
        ∙ attempts_asked taken n past unit refl fresh ∙ ap₂ (λ (b c : Bool). attempts_by_request b c unit now) whose over in
        let frame : (asked (past ++ told)).frame ≡ unit
        = ap (λ (l : List Entry). (asked (past ++ l)).frame) wrote.are
        ∙ ap (λ (l : List Entry). (asked l).frame) (sym (append_assoc past (entry.Written Host unit ∷ []) wrote.rest))
        ∙ ap (λ (a : Asked). a.frame) (quiet_on (past ++ entry.Written Host unit ∷ []) wrote.rest wrote.quiet)
        ∙ ap (λ (a : Asked). a.frame) (asked_new past unit (ap (λ (a : Asked). is_new a unit) (sym (last_is taken past)) ∙ fresh)) in
        let none : is_badly_over heeds n (past ++ told) (after m.state event) m.clock ≡ false
        = ap (λ (o : Option UnderWay). is_none o && has_ended_badly heeds (past ++ told) (asked (past ++ told)) m.clock n) under_way in
        let keeps : KeepsSessions m.state (after m.state event) n = event_keeps m.state event n to calm in
        record {
          node = subst (λ (b : Bool). NodeSo (attempts_so_far heeds n (past ++ told)) (node_of (after m.state event) n) m.clock b) (sym none)
              (subst (λ (a : Attempts). NodeSo a (node_of (after m.state event) n) m.clock false) (sym later) goes);
          own = λ runs u is.
              ap (λ (a : Attempts). a.own) later ∙ own_by (is_for n purpose) (is_over_by m.clock badly now) unit now
              ∙ ap (λ (p : Purpose). is_for n p) (sym (same_purpose purpose u (sym under_way ∙ is)));
          inner = λ runs u more payload is purpose_is.
              let opened = is_opened (node_of (after m.state event) n) (others.nodes.facts n) (ap is_idle runs) in
              ap (λ (l : List ℕ). inner_told taken (past ++ told) n l) frame
              ∙ inner_kept taken past (past ++ told) m.state (after m.state event) n opened.0 (shown taken n past m.state shows) (shown taken n (past ++ told) (after m.state event) showing)
              host others (record { commands = keeps.commands; opens = keeps.opens }) keeps.orders opened.1 unit
              ∙ carries more payload (sym (same_purpose purpose u (sym under_way ∙ is)) ∙ purpose_is);
          seals = λ has. sealing_kept m.state (after m.state event) n keeps others has (seals has);
          sends = λ own. subst IsNoAbort (sym frame) (refl, no_abort purpose read (sym (ap (λ (a : Attempts). a.own) later ∙ own_by (is_for n purpose) (is_over_by m.clock badly now) unit now) ∙ own));
        }

    abbrev Goes : HostEvent → Type 0
    Goes event = HostFacts (after m.state event) → ShowsSessions heeds (past ++ told) (after m.state event) n → AttemptsSo heeds n (past ++ told) (after m.state event) m.clock m.clock

    facts : NodeFacts s
    facts = host.nodes.facts n

    -- no text is there that was not
    no_more_text : (event : HostEvent) → NothingBegins event → has_text (node_of (after m.state event) n) ≡ true → IsSealing m.state n
    no_more_text event none has = so.seals ((fewer_kept m.state event n to none).seals has)

    sends_it : (k : ℕ) (more : Bool) (payload : List ℕ) → ReadsAs m.state (Attempt k more payload) → sending_in (unit_of (Attempt k more payload)) ≡ record { node = k; payload = payload } ∷ []
    sends_it k more payload read = ap (λ (l : List Request). flat_map sending_of l) read

    no_carries : (purpose : Purpose) → is_for n purpose ≡ false → Carries purpose
    no_carries purpose none more payload is = absurd (both_ways (is_for n purpose) none (ap (λ (p : Purpose). is_for n p) is ∙ eq-eqb n n refl))

    -- of the node of the attempt
    node_is_it : (k : ℕ) (more other : Bool) (payload text : List ℕ) → Attempt k more payload ≡ Attempt n other text → (k ≡ n) × (more ≡ other)
    node_is_it k more other payload text is = (let same : k ≡ n = cc in same, let same : more ≡ other = cc in same)

    part_carries : (k : ℕ) (more : Bool) (payload : List ℕ) → ReadsAs m.state (Attempt k more payload)
        → (k ≡ n → sending_in (unit_of (Attempt k more payload)) ≡ record { node = n; payload = payload } ∷ [] → inner_told taken past n (unit_of (Attempt k more payload)) ≡ more) → Carries (Attempt k more payload)
    part_carries k more payload read inner other text is =
        let same = node_is_it k more other payload text is in
        inner same.0 (sends_it k more payload read ∙ ap (λ (j : ℕ). record { node = j; payload = payload } ∷ []) same.0) ∙ same.1

    unchanged : (event : HostEvent) (purpose : Purpose) → did m.state event ≡ [] → NodeSo (asked_by false purpose) (node_of (after m.state event) n) m.clock false
    unchanged event purpose none =
        subst (λ (t : NodeState). NodeSo (asked_by false purpose) t m.clock false) (sym (node_after m.state event n to ∙ ap (λ (l : List _). does_at n s l) none))
        (other_so now s m.clock badly (unit_of purpose) facts so.node)

    -- by whether the node is the one that is served
    part : (event : HostEvent) (k : ℕ) (more : Bool) (payload : List ℕ) (served : NodeState) → node_of (after m.state event) n ≡ (if k == n then served else s)
        → ((k == n) ≡ true → NodeSo (asked_by true (Attempt k more payload)) served m.clock false) → NodeSo (asked_by (k == n) (Attempt k more payload)) (node_of (after m.state event) n) m.clock false
    part event k more payload served node own =
        subst (λ (t : NodeState). NodeSo (asked_by (k == n) (Attempt k more payload)) t m.clock false) (sym node) (by (k == n) refl)
      where
        by : (b : Bool) → (k == n) ≡ b → NodeSo (asked_by b (Attempt k more payload)) (if b then served else s) m.clock false
        by true is = own is
        by false is = other_so now s m.clock badly (unit_of (Attempt k more payload)) facts so.node

    no_wants : m.state.requests.queue ≡ [] → map want_of_task m.state.requests.queue ≡ []
    no_wants none = ap (λ (l : List Task). map want_of_task l) none

    goes_by : (k : ℕ) (more : Bool) (payload : List ℕ) (b : Bool) → ReadsAs m.state (Attempt k more payload) → goes_on payload ≡ b
        → list_any (λ (carried : Carried). goes_on carried.payload) (sending_in (unit_of (Attempt k more payload))) ≡ b
    goes_by k more payload b read is = goes_as (unit_of (Attempt k more payload)) k id more payload read ∙ is

    starts_seal : (k : ℕ) (plan : Plan) (more : Bool) (payload : List ℕ) → IsStart m.state k plan more payload → has_text (if k == n then after_start s plan else s) ≡ true → IsSealing m.state n
    starts_seal k plan more payload start has = by (k == n) refl plan start has
      where
        by : (b : Bool) → (k == n) ≡ b → (plan : Plan) → IsStart m.state k plan more payload → has_text (if b then after_start s plan else s) ≡ true → IsSealing m.state n
        by false other plan start has = so.seals has
        by true same Whole start has = so.seals has
        by true same (Segments count) start has = so.seals has
        by true same (Sealed text) start has = starts_sealing m.state n text more payload (subst (λ (j : ℕ). IsStart m.state j (Sealed text) more payload) (eqb-true k n same) start)

    pub starts_goes : (k : ℕ) (plan : Plan) (more : Bool) (payload : List ℕ) → IsNext m.state (Starts k plan more payload) → MayAll m.state (Starts k plan more payload ∷ [])
        → ReadsAs m.state (Attempt k more payload) → AreTold (outs m.state (Starts k plan more payload)) told → Goes (Starts k plan more payload)
    starts_goes k plan more payload next may read are others showing =
        submits (Starts k plan more payload) (Attempt k more payload) tt others showing next.0 refl read (no_wants may.0.0.no_task) refl are
        (part_carries k more payload read
        (λ same carries.
        starts_inner taken past m.state n (shown taken n past m.state shows) host (unit_of (Attempt k more payload)) plan more payload
        (subst (λ (j : ℕ). IsStart m.state j plan more payload) same may.0.1) carries))
        (λ has. starts_seal k plan more payload may.0.1 (subst (λ (t : NodeState). has_text t ≡ true) (node_after m.state (Starts k plan more payload) n to) has))
        (part (Starts k plan more payload) k more payload (after_start s plan) (node_after m.state (Starts k plan more payload) n to)
        (λ same.
        begins_so now s m.clock badly (unit_of (Attempt k more payload)) facts so.node plan
        (subst (λ (j : ℕ). (node_of m.state j).series ≡ Due) (eqb-true k n same) may.0.2.0)
        (goes_by k more payload false read (starts_begin m.state k plan more payload host may.0.1))))

    pub text_goes : (k : ℕ) (payload : List ℕ) → IsNext m.state (Gives_text k payload) → MayAll m.state (Gives_text k payload ∷ []) → ReadsAs m.state (Attempt k false payload)
        → AreTold (outs m.state (Gives_text k payload)) told → Goes (Gives_text k payload)
    text_goes k payload next may read are others showing =
        submits (Gives_text k payload) (Attempt k false payload) tt others showing next.0 refl read (no_wants may.0.0.no_task) refl are
        (part_carries k false payload read
        (λ same carries.
        texts_inner taken past m.state n (shown taken n past m.state shows) host (unit_of (Attempt k false payload))
        (so.seals (or_left (is_some s.text) (is_some s.pending) (ap (λ (o : Option (List ℕ)). is_some o) (subst (λ (j : ℕ). (node_of m.state j).text ≡ Some payload) same may.0.1))))))
        (no_more_text (Gives_text k payload) tt)
        (part (Gives_text k payload) k false payload (after_text s) (node_after m.state (Gives_text k payload) n to)
        (λ same.
        let has : s.text ≡ Some payload = subst (λ (j : ℕ). (node_of m.state j).text ≡ Some payload) (eqb-true k n same) may.0.1 in
        let runs : s.series ≡ Running = runs_by s.series s facts.series (ap (λ (o : Option (List ℕ)). is_some o || has_segment s) has) in
        text_so now s m.clock badly (unit_of (Attempt k false payload)) facts so.node runs payload has
        (goes_by k false payload true read (sealed_goes payload (so.node.text payload has)))))

    pub segment_goes : (k : ℕ) (more : Bool) (payload : List ℕ) → IsNext m.state (Gives_segment k more payload) → MayAll m.state (Gives_segment k more payload ∷ [])
        → ReadsAs m.state (Attempt k more payload) → AreTold (outs m.state (Gives_segment k more payload)) told → Goes (Gives_segment k more payload)
    segment_goes k more payload next may read are others showing =
        submits (Gives_segment k more payload) (Attempt k more payload) tt others showing next.0 refl read (no_wants may.0.0.no_task) refl are
        (part_carries k more payload read
        (λ same carries.
        segments_inner taken past m.state n (shown taken n past m.state shows) host (unit_of (Attempt k more payload)) more payload
        (subst (λ (j : ℕ). has_segment (node_of m.state j) ≡ true) same may.0.4)
        (subst (λ (j : ℕ). open_segment m.state (node_of m.state j) (open_session (node_of m.state j).book) (node_of m.state j).next_segment ≡ Some payload) same may.0.2)
        (subst (λ (j : ℕ). more ≡ nat_lt ((node_of m.state j).next_segment + 1) (node_of m.state j).segments) same may.0.3) carries))
        (no_more_text (Gives_segment k more payload) tt)
        (part (Gives_segment k more payload) k more payload (after_segment s) (node_after m.state (Gives_segment k more payload) n to)
        (λ same.
        let is : k ≡ n = eqb-true k n same in
        let has : has_segment s ≡ true = subst (λ (j : ℕ). has_segment (node_of m.state j) ≡ true) is may.0.4 in
        let runs : s.series ≡ Running = runs_by s.series s facts.series (some_more (is_some s.text) (has_segment s) has) in
        let less = ltb-true s.next_segment s.segments has in
        let some : 1 ≤ s.segments = omega (arith, less) in
        let least = (so.node.sent runs).some in
        let given = ((so.node.sent runs).segments some).0 in
        let at : 1 ≤ (node_of m.state k).next_segment = subst (λ (j : ℕ). 1 ≤ (node_of m.state j).next_segment) (sym is) (omega (arith, least, given)) in
        segment_so now s m.clock badly (unit_of (Attempt k more payload)) facts so.node runs some
        (goes_by k more payload true read (segments_go m.state host (node_of m.state k) _ (node_of m.state k).next_segment payload at may.0.2))))
      where
        some_more : (b c : Bool) → c ≡ true → (b || c) ≡ true
        some_more true c is = refl
        some_more false c is = is

    -- what waited
    front_fits : (queue : List Task) → (queue ≡ [] → ⊥) → WantsFit (task_purpose queue) (map want_of_task queue)
    front_fits [] some = absurd (some refl)
    front_fits (task ∷ rest) some = refl

    front_no : (queue : List Task) → is_for n (task_purpose queue) ≡ false
    front_no [] = refl
    front_no (task ∷ rest) = refl

    pub front_goes : IsNext m.state Submits_front → MayAll m.state (Submits_front ∷ []) → ReadsAs m.state (task_purpose m.state.requests.queue)
        → (after m.state Submits_front).requests.under_way ≡ Some (record { purpose = task_purpose m.state.requests.queue; progress = Submitted })
        → AreTold (outs m.state Submits_front) told → Goes Submits_front
    front_goes next may read under_way are others showing =
        submits Submits_front (task_purpose m.state.requests.queue) tt others showing next.0 refl read (front_fits m.state.requests.queue may.0.2) under_way are
        (no_carries (task_purpose m.state.requests.queue) (front_no m.state.requests.queue)) (no_more_text Submits_front tt)
        (subst (λ (b : Bool). NodeSo (asked_by b (task_purpose m.state.requests.queue)) (node_of (after m.state Submits_front) n) m.clock false) (sym (front_no m.state.requests.queue))
        (unchanged Submits_front (task_purpose m.state.requests.queue) refl))

    pub abort_goes : IsNext m.state Submits_abort → ReadsAs m.state Abort → AreTold (outs m.state Submits_abort) told → Goes Submits_abort
    abort_goes next read are others showing =
        submits Submits_abort Abort tt others showing next.0 refl read tt refl are (no_carries Abort refl) (no_more_text Submits_abort tt) (unchanged Submits_abort Abort refl)

    pub asks_goes : PayloadsBring → (event : HostEvent) → IsRequest event → IsNext m.state event → MayAll m.state (event ∷ []) → AreTold (outs m.state event) told → Goes event
    asks_goes brings event is next may are = by event is next may are (event_is_read brings m.state event host may.0 ground.1.0)
      where
        by : (event : HostEvent) → IsRequest event → IsNext m.state event → MayAll m.state (event ∷ []) → AreTold (outs m.state event) told → IsRead m.state event → Goes event
        by Submits_abort is next may are read = abort_goes next read are
        by Submits_front is next may are read = front_goes next may read (front_now m.state m.state.requests.queue refl may.0.2) are
        by (Starts k plan more payload) is next may are read = starts_goes k plan more payload next may read are
        by (Gives_text k payload) is next may are read = text_goes k payload next may read are
        by (Gives_segment k more payload) is next may are read = segment_goes k more payload next may read are
        by event is next may are read = absurd is
