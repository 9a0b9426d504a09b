-- While something of a node is to be sealed its request under way is whole, and a Nonce Get where a plain text waits; and a segment that is sent again is of another class than Security 0: along each
-- run of a host alone.
use Rattle.std.specs.Prelude.{is_some, ◌&&◌, slice_index}
use Rattle.std.proofs.Common.{◌≡◌, ℕ, ◌<◌, ◌≤◌, ◌==◌, ◌||◌, Bool, true, false, if◌then◌else◌, length, List, [], ◌∷◌, ◌++◌, Option, Some, None, refl, sym, ap, ap₂, ◌∙◌, subst, arith}
use Rattle.std.proofs.lemmas.Bool.{both_ways, eq-eqb, eqb-true, ltb-true, or_right}
use Rattle.serial_link.specs.State.{Side}
use Rattle.s0_crypto.specs.declared.key_pair.Keys.{Keys}
use Rattle.zw_text.specs.declared.entry.Entry.{Entry}
use Rattle.zw_text.specs.declared.line.Line.{Line}
use Rattle.host_orders.specs.Wrapping.{form_of}
use Rattle.host_orders.specs.declared.carriage.Form.{Form}
use Rattle.host_orders.specs.declared.carriage.Form.TheVariants.{Plain as plainly, Cut, Sealed as in_seal}
use Rattle.host_requests.specs.Events.{task_begun, RequestsEvent}
use Rattle.host_requests.specs.State.{RequestsState}
use Rattle.host_requests.specs.declared.task.Task.{Task}
use Rattle.host_requests.specs.declared.task.Task.TheVariants.{Segment}
use Rattle.host_requests.specs.declared.task.Purpose.{Purpose}
use Rattle.host_requests.specs.declared.task.Purpose.TheVariants.{Abort, Attempt, Housekeeping}
use Rattle.host_requests.specs.declared.under_way.Progress.{Progress}
use Rattle.host_requests.specs.declared.under_way.Progress.TheVariants.{Submitted}
use Rattle.host_requests.specs.declared.under_way.UnderWay.{UnderWay}
use Rattle.host_node.specs.Facts.{NodeFacts, SeriesFacts}
use Rattle.host_node.specs.State.{NodeState, is_idle, is_open as has_open, is_up}
use Rattle.host_node.specs.Steps.{after_nonce, after_restart, after_start, as_recorded, new_series}
use Rattle.host_node.specs.declared.attempt.Moment.{Moment}
use Rattle.host_node.specs.declared.attempt.Plan.{Plan}
use Rattle.host_node.specs.declared.series.Series.{Series}
use Rattle.host_node.specs.declared.series.Series.TheVariants.{Idle, Due, Running}
use Rattle.host_node.specs.TableState.{node_of as node_among}
use Rattle.host_model.specs.State.{HostState, first_host, first_nodes, node_of}
use Rattle.host_model.specs.After.{after}
use Rattle.host_model.specs.Events.{HostEvent, Gives_segment, Gives_text, Requests_do, Starts, Submits_abort, Submits_front, Takes_nonce}
use Rattle.host_model.specs.Facts.{HostFacts}
use Rattle.host_model.specs.May.{May as May_event}
use Rattle.host_model.specs.Outs.{answers}
use Rattle.host_model.specs.Sessions.{message_for, nonce_get, start_by}
use Rattle.host_model.proofs.Submitted.{next_is}
use Rattle.proof_messages.proofs.SealedTexts.{first_bare}
use Rattle.proof_hearing.specs.proof_choice.proof_giving.Tie.{has_text}
use Rattle.proof_hearing.specs.proof_nonces.proof_attempts.Since.{KnowsSince, Lasts, TieOf, AlongRuns}
use Rattle.proof_hearing.specs.proof_nonces.proof_attempts.Waking.{KnowsWork}
use Rattle.proof_hearing.specs.proof_nonces.proof_requests.Walking.{Ground as RequestsGround, KnowsAsked}
use Rattle.proof_hearing.specs.proof_nonces.proof_known.proof_alone.Phases.{Phase, Resting, Asked, Open, Submitting, May}
use Rattle.proof_hearing.specs.proof_nonces.proof_known.proof_alone.Runs.{Knowledge, both_know}
use Rattle.proof_hearing.specs.proof_nonces.proof_known.proof_alone.State.{HostMachine, done}
use Rattle.proof_hearing.specs.proof_nonces.proof_known.proof_alone.Steps.{Does, IsAskedBy}
use Rattle.proof_hearing.specs.proof_nonces.proof_work.Doing.{IsTold}
use Rattle.proof_hearing.proofs.proof_giving_Along.{texts_run}
use Rattle.proof_hearing.proofs.Counting.{each_restarts}
use Rattle.proof_hearing.proofs.Doings.{did, node_after}
use Rattle.proof_hearing.proofs.Lasting.{along, since_walk}
use Rattle.proof_hearing.proofs.Requested.{Unsubmitted, event_keeps}
use Rattle.proof_hearing.proofs.proof_queue_Stepping.{IsSubmission, asked_beside, submissions}
use Rattle.proof_hearing.proofs.Wrote.{Wrote, writes}
use Rattle.proof_hearing.proofs.Wrote.Wrote.{Quietly, Again, Anew}
use Rattle.proof_hearing.proofs.Staying.{LeavesTexts, Stays, all_stay, event_goes, no_some}
use Rattle.proof_hearing.specs.proof_nonces.Known.{AreOther, KnowsSealing}
use Rattle.proof_hearing.proofs.Queueing.{opened_asks}

-- ---- what is so of a node

pub record AskSo (h : HostState) (n : ℕ) : Type 0 where
  pub whole : has_text (node_of h n) ≡ true → (node_of h n).segments ≡ 0
  pub last : has_text (node_of h n) ≡ true → (u : UnderWay) (more : Bool) (payload : List ℕ) → h.requests.under_way ≡ Some u → u.purpose ≡ Attempt n more payload → more ≡ false
  pub asks : (plain : List ℕ) → (node_of h n).pending ≡ Some plain → (u : UnderWay) (more : Bool) (payload : List ℕ) → h.requests.under_way ≡ Some u → u.purpose ≡ Attempt n more payload
      → payload ≡ nonce_get
  pub again : (u : UnderWay) (payload : List ℕ) → h.requests.under_way ≡ Some u → u.purpose ≡ Housekeeping (Segment n payload) → (slice_index payload 0 == 0x98) ≡ false

abbrev pub AsksAreSo : TieOf
AsksAreSo here past h clock = (n : ℕ) → 1 ≤ n → n ≤ 232 → AskSo h n

abbrev pub AsksGround : Keys → Knowledge
AsksGround keys = both_know (both_know KnowsWork (both_know RequestsGround KnowsAsked)) (KnowsSealing keys)

-- ---- one node

had_text : (s t : NodeState) → Stays true s t → has_text t ≡ true → has_text s ≡ true
had_text s t stays has = by t.text t.pending refl refl has
  where
    by : (o p : Option (List ℕ)) → t.text ≡ o → t.pending ≡ p → (is_some o || is_some p) ≡ true → has_text s ≡ true
    by (Some x) p text pending is = ap (λ (o : Option (List ℕ)). is_some o || is_some s.pending) (stays.text x text)
    by None (Some x) text pending is = or_right (is_some s.text) (is_some s.pending) (ap (λ (o : Option (List ℕ)). is_some o) (stays.pending x pending))
    by None None text pending is = absurd (let bad : false ≡ true = is in cc)

pending_texts : (s : NodeState) (plain : List ℕ) → s.pending ≡ Some plain → has_text s ≡ true
pending_texts s plain is = or_right (is_some s.text) (is_some s.pending) (ap (λ (o : Option (List ℕ)). is_some o) is)

no_texts : (s : NodeState) → s.text ≡ None → s.pending ≡ None → has_text s ≡ false
no_texts s text pending = ap₂ (λ (o p : Option (List ℕ)). is_some o || is_some p) text pending

-- the requests hear of no more than they are told
abbrev HearsTold : HostEvent → Type 0
HearsTold event = (of : RequestsEvent) (moment : Moment) → event ≡ Requests_do of moment → IsTold of

-- one is never had with the other
never_both : {A : Type 0} (s : NodeState) (sealed plain : List ℕ) → NodeFacts s → s.text ≡ Some sealed → s.pending ≡ Some plain → A
never_both {A = A} s sealed plain facts text pending = by s.series facts.series
  where
    by : (x : Series) → SeriesFacts x s.book s.attempt_wait s.again_wait s.next_segment s.segments s.text s.pending → A
    by Idle so = no_some _ s.text sealed so.1.no_text text
    by Due so = no_some _ s.text sealed so.2.no_text text
    by Running so = absurd (both_ways (is_some s.text && is_some s.pending) so.3 (ap₂ (λ (o p : Option (List ℕ)). is_some o && is_some p) text pending))

due_left : (s : NodeState) → NodeFacts s → s.series ≡ Due → (s.segments ≡ 0) × (s.text ≡ None) × (s.pending ≡ None)
due_left s facts due = by s.series due facts.series
  where
    by : (x : Series) → x ≡ Due → SeriesFacts x s.book s.attempt_wait s.again_wait s.next_segment s.segments s.text s.pending → (s.segments ≡ 0) × (s.text ≡ None) × (s.pending ≡ None)
    by Idle is f = absurd (let bad : Idle ≡ Due = is in cc)
    by Due is f = (f.2.no_segments, f.2.no_text, f.2.no_pending)
    by Running is f = absurd (let bad : Running ≡ Due = is in cc)

-- what is submitted
purpose_of : (p : Purpose) (progress : Progress) (u : UnderWay) → Some (record { purpose = p; progress = progress }) ≡ Some u → u.purpose ≡ p
purpose_of p progress u is = let one : record { purpose = p; progress = progress } ≡ u = cc in sym (ap (λ (x : UnderWay). x.purpose) one)

same_node : (k n : ℕ) (more m : Bool) (payload p : List ℕ) → Attempt k more payload ≡ Attempt n m p → (k ≡ n) × (more ≡ m) × (payload ≡ p)
same_node k n more m payload p is = (let same : k ≡ n = cc in same, let same : more ≡ m = cc in same, let same : payload ≡ p = cc in same)

no_attempt : {A : Type 0} (task : Task) (n : ℕ) (more : Bool) (payload : List ℕ) → Housekeeping task ≡ Attempt n more payload → A
no_attempt task n more payload is = absurd (let bad : Housekeeping task ≡ Attempt n more payload = is in cc)

no_task : {A : Type 0} (task : Task) (n : ℕ) (more : Bool) (payload : List ℕ) → Attempt n more payload ≡ Housekeeping task → A
no_task task n more payload is = absurd (let bad : Attempt n more payload ≡ Housekeeping task = is in cc)

-- what an attempt gives at once
starts_so : (f : Form) (session : ℕ) (message : List ℕ) (s : NodeState) (plan : Plan) (more : Bool) (payload : List ℕ) → plan ≡ (start_by f session message).plan → more ≡ (start_by f session message).more
    → payload ≡ (start_by f session message).payload → (s.segments ≡ 0) × (s.text ≡ None) × (s.pending ≡ None) → has_text (after_start s plan) ≡ true
    → ((after_start s plan).segments ≡ 0) × (more ≡ false) × (payload ≡ nonce_get)
starts_so plainly session message s plan more payload plan_is more_is payload_is left has =
    absurd (both_ways (has_text s) (no_texts s left.1 left.2) (ap (λ (p : Plan). has_text (after_start s p)) (sym plan_is) ∙ has))
starts_so Cut session message s plan more payload plan_is more_is payload_is left has =
    absurd (both_ways (has_text s) (no_texts s left.1 left.2) (ap (λ (p : Plan). has_text (after_start s p)) (sym plan_is) ∙ has))
starts_so in_seal session message s plan more payload plan_is more_is payload_is left has =
    (ap (λ (p : Plan). (after_start s p).segments) plan_is ∙ left.0, more_is, payload_is)

-- ---- each event

module _ (h : HostState) (facts : HostFacts h) (n : ℕ) (to : n ≤ 232) where
  within : n < length h.nodes
  within = let places = facts.nodes.places in omega (arith, places, to)

  abbrev s : NodeState
  s = node_of h n

  stays_at : (event : HostEvent) → LeavesTexts true event → Stays true s (node_of (after h event) n)
  stays_at event none = subst (Stays true s) (sym (node_after h event n within)) (all_stay true n s (did h event) (event_goes true h event none))

  quiet_goes : (event : HostEvent) → LeavesTexts true event → Unsubmitted event → HostFacts (after h event) → AskSo h n → AskSo (after h event) n
  quiet_goes event none un others so =
      let stays = stays_at event none in
      let keeps = event_keeps h event un in
      record {
        whole = λ has. stays.segments (texts_run (node_of (after h event) n) (others.nodes.facts n) has) ∙ so.whole (had_text s (node_of (after h event) n) stays has);
        last = λ has u more payload is purpose. let (v, was, same) = keeps.same u is in so.last (had_text s (node_of (after h event) n) stays has) v more payload was (same ∙ purpose);
        asks = λ plain pending u more payload is purpose. let (v, was, same) = keeps.same u is in so.asks plain (stays.pending plain pending) v more payload was (same ∙ purpose);
        again = λ u payload is purpose. let (v, was, same) = keeps.same u is in so.again v payload was (same ∙ purpose);
      }

  abort_goes : AskSo h n → AskSo (after h Submits_abort) n
  abort_goes so = record {
    whole = so.whole;
    last = λ has u more payload is purpose. absurd (let bad : Abort ≡ Attempt n more payload = sym (purpose_of Abort Submitted u is) ∙ purpose in cc);
    asks = λ plain pending u more payload is purpose. absurd (let bad : Abort ≡ Attempt n more payload = sym (purpose_of Abort Submitted u is) ∙ purpose in cc);
    again = λ u payload is purpose. absurd (let bad : Abort ≡ Housekeeping (Segment n payload) = sym (purpose_of Abort Submitted u is) ∙ purpose in cc);
  }

  -- a task that waited
  abbrev begun_way : List Task → Option UnderWay
  begun_way l = (task_begun h.requests l).under_way

  front_last : AskSo h n → (l : List Task) → has_text s ≡ true → (u : UnderWay) (more : Bool) (payload : List ℕ) → begun_way l ≡ Some u → u.purpose ≡ Attempt n more payload → more ≡ false
  front_last so [] has u more payload is purpose = so.last has u more payload is purpose
  front_last so (task ∷ rest) has u more payload is purpose = no_attempt task n more payload (sym (purpose_of (Housekeeping task) Submitted u is) ∙ purpose)

  front_asks : AskSo h n → (l : List Task) (plain : List ℕ) → s.pending ≡ Some plain → (u : UnderWay) (more : Bool) (payload : List ℕ) → begun_way l ≡ Some u → u.purpose ≡ Attempt n more payload
      → payload ≡ nonce_get
  front_asks so [] plain pending u more payload is purpose = so.asks plain pending u more payload is purpose
  front_asks so (task ∷ rest) plain pending u more payload is purpose = no_attempt task n more payload (sym (purpose_of (Housekeeping task) Submitted u is) ∙ purpose)

  front_again : AskSo h n → (l : List Task) → AreOther l → (u : UnderWay) (payload : List ℕ) → begun_way l ≡ Some u → u.purpose ≡ Housekeeping (Segment n payload) → (slice_index payload 0 == 0x98) ≡ false
  front_again so [] all u payload is purpose = so.again u payload is purpose
  front_again so (task ∷ rest) all u payload is purpose =
      let same : Housekeeping task ≡ Housekeeping (Segment n payload) = sym (purpose_of (Housekeeping task) Submitted u is) ∙ purpose in
      let one : task ≡ Segment n payload = cc in
      (subst (λ (t : Task). AreOther (t ∷ rest)) one all).0

  front_goes : AreOther h.requests.queue → AskSo h n → AskSo (after h Submits_front) n
  front_goes other so = record {
    whole = so.whole;
    last = front_last so h.requests.queue;
    asks = front_asks so h.requests.queue;
    again = front_again so h.requests.queue other;
  }

  text_goes : (k : ℕ) (payload : List ℕ) → May_event h (Gives_text k payload) → HostFacts (after h (Gives_text k payload)) → AskSo h n → AskSo (after h (Gives_text k payload)) n
  text_goes k given may others so =
      let event : HostEvent = Gives_text k given in
      let stays = stays_at event refl in
      let sent : (u : UnderWay) → (after h event).requests.under_way ≡ Some u → u.purpose ≡ Attempt k false given = λ u is. purpose_of (Attempt k false given) Submitted u is in
      record {
        whole = λ has. stays.segments (texts_run (node_of (after h event) n) (others.nodes.facts n) has) ∙ so.whole (had_text s (node_of (after h event) n) stays has);
        last = λ has u more payload is purpose. sym (same_node k n false more given payload (sym (sent u is) ∙ purpose)).1;
        asks = λ plain pending u more payload is purpose.
            let same = same_node k n false more given payload (sym (sent u is) ∙ purpose) in
            never_both s given plain (facts.nodes.facts n) (subst (λ (j : ℕ). (node_of h j).text ≡ Some given) same.0 may.1) (stays.pending plain pending);
        again = λ u payload is purpose. no_task (Segment n payload) k false given (sym (sent u is) ∙ purpose);
      }

  segment_goes : (k : ℕ) (more : Bool) (payload : List ℕ) → May_event h (Gives_segment k more payload) → HostFacts (after h (Gives_segment k more payload)) → AskSo h n
      → AskSo (after h (Gives_segment k more payload)) n
  segment_goes k follows given may others so =
      let event : HostEvent = Gives_segment k follows given in
      let stays = stays_at event tt in
      let sent : (u : UnderWay) → (after h event).requests.under_way ≡ Some u → u.purpose ≡ Attempt k follows given = λ u is. purpose_of (Attempt k follows given) Submitted u is in
      let none : k ≡ n → has_text s ≡ true → ⊥ =
      λ same has.
      let few : s.next_segment < s.segments = subst (λ (j : ℕ). (node_of h j).next_segment < (node_of h j).segments) same (ltb-true (node_of h k).next_segment (node_of h k).segments may.4) in
      let no_segments = so.whole has in omega (arith, few, no_segments) in
      record {
        whole = λ has. stays.segments (texts_run (node_of (after h event) n) (others.nodes.facts n) has) ∙ so.whole (had_text s (node_of (after h event) n) stays has);
        last = λ has u more payload is purpose.
            absurd (none (same_node k n follows more given payload (sym (sent u is) ∙ purpose)).0 (had_text s (node_of (after h event) n) stays has));
        asks = λ plain pending u more payload is purpose.
            absurd (none (same_node k n follows more given payload (sym (sent u is) ∙ purpose)).0 (pending_texts s plain (stays.pending plain pending)));
        again = λ u payload is purpose. no_task (Segment n payload) k follows given (sym (sent u is) ∙ purpose);
      }

  starts_goes : (k : ℕ) (plan : Plan) (more : Bool) (payload : List ℕ) → May_event h (Starts k plan more payload) → AskSo h n → AskSo (after h (Starts k plan more payload)) n
  starts_goes k plan follows given may so = by (k == n) refl (node_after h event n within)
    where
      event : HostEvent
      event = Starts k plan follows given

      sent : (u : UnderWay) → (after h event).requests.under_way ≡ Some u → u.purpose ≡ Attempt k follows given
      sent u is = purpose_of (Attempt k follows given) Submitted u is

      again_so : (u : UnderWay) (payload : List ℕ) → (after h event).requests.under_way ≡ Some u → u.purpose ≡ Housekeeping (Segment n payload) → (slice_index payload 0 == 0x98) ≡ false
      again_so u payload is purpose = no_task (Segment n payload) k follows given (sym (sent u is) ∙ purpose)

      own : k ≡ n → node_of (after h event) n ≡ after_start s plan → AskSo (after h event) n
      own same node =
          let start = may.1 in
          let due : s.series ≡ Due = subst (λ (j : ℕ). (node_of h j).series ≡ Due) same may.2.0 in
          let f : Form = form_of start.command.carriage.outer in
          let got : has_text (node_of (after h event) n) ≡ true → ((after_start s plan).segments ≡ 0) × (follows ≡ false) × (given ≡ nonce_get) =
          λ has.
          starts_so f start.session (message_for start.command start.session) s plan follows given start.plan_is start.more_is start.payload_is (due_left s (facts.nodes.facts n) due)
          (ap (λ (t : NodeState). has_text t) (sym node) ∙ has) in
          record {
            whole = λ has. ap (λ (t : NodeState). t.segments) node ∙ (got has).0;
            last = λ has u more payload is purpose. sym (same_node k n follows more given payload (sym (sent u is) ∙ purpose)).1 ∙ (got has).1;
            asks = λ plain pending u more payload is purpose.
                sym (same_node k n follows more given payload (sym (sent u is) ∙ purpose)).2 ∙ (got (pending_texts (node_of (after h event) n) plain pending)).2;
            again = again_so;
          }

      other : (k == n) ≡ false → node_of (after h event) n ≡ s → AskSo (after h event) n
      other differs node =
          let never : (more : Bool) (payload : List ℕ) (u : UnderWay) → (after h event).requests.under_way ≡ Some u → u.purpose ≡ Attempt n more payload → ⊥ =
          λ more payload u is purpose. both_ways (k == n) differs (ap (λ (j : ℕ). j == n) (same_node k n follows more given payload (sym (sent u is) ∙ purpose)).0 ∙ itself n) in
          record {
            whole = λ has. ap (λ (t : NodeState). t.segments) node ∙ so.whole (ap (λ (t : NodeState). has_text t) (sym node) ∙ has);
            last = λ has u more payload is purpose. absurd (never more payload u is purpose);
            asks = λ plain pending u more payload is purpose. absurd (never more payload u is purpose);
            again = again_so;
          }
        where
          itself : (j : ℕ) → (j == j) ≡ true
          itself j = eq-eqb j j refl

      by : (b : Bool) → (k == n) ≡ b → node_of (after h event) n ≡ (if b then after_start s plan else s) → AskSo (after h event) n
      by true it node = own (eqb-true k n it) node
      by false it node = other it node

  nonce_goes : (k seen : ℕ) (text : List ℕ) → May_event h (Takes_nonce k seen text) → AskSo h n → AskSo (after h (Takes_nonce k seen text)) n
  nonce_goes k seen text may so = by (k == n) refl (node_after h event n within)
    where
      event : HostEvent
      event = Takes_nonce k seen text

      own : k ≡ n → node_of (after h event) n ≡ after_nonce s seen text → AskSo (after h event) n
      own same node =
          let (nonce, own_nonce, count, seals, eight) = may in
          let had : has_text s ≡ true = pending_texts s seals.plain (subst (λ (j : ℕ). (node_of h j).pending ≡ Some seals.plain) same seals.is_pending) in
          record {
            whole = λ has. ap (λ (t : NodeState). t.segments) node ∙ so.whole had;
            last = λ has u more payload is purpose. so.last had u more payload is purpose;
            asks = λ plain pending u more payload is purpose. no_some _ (node_of (after h event) n).pending plain (ap (λ (t : NodeState). t.pending) node) pending;
            again = so.again;
          }

      other : node_of (after h event) n ≡ s → AskSo (after h event) n
      other node = record {
        whole = λ has. ap (λ (t : NodeState). t.segments) node ∙ so.whole (ap (λ (t : NodeState). has_text t) (sym node) ∙ has);
        last = λ has u more payload is purpose. so.last (ap (λ (t : NodeState). has_text t) (sym node) ∙ has) u more payload is purpose;
        asks = λ plain pending u more payload is purpose. so.asks plain (ap (λ (t : NodeState). t.pending) (sym node) ∙ pending) u more payload is purpose;
        again = so.again;
      }

      by : (b : Bool) → (k == n) ≡ b → node_of (after h event) n ≡ (if b then after_nonce s seen text else s) → AskSo (after h event) n
      by true it node = own (eqb-true k n it) node
      by false it node = other node

  ask_goes : (event : HostEvent) → May_event h event → HostFacts (after h event) → AreOther h.requests.queue → HearsTold event → AskSo h n → AskSo (after h event) n
  ask_goes (Requests_do of moment) may others other told so = quiet_goes (Requests_do of moment) tt (told of moment refl) others so
  ask_goes (Starts k plan more payload) may others other told so = starts_goes k plan more payload may so
  ask_goes (Gives_text k payload) may others other told so = text_goes k payload may others so
  ask_goes (Gives_segment k more payload) may others other told so = segment_goes k more payload may others so
  ask_goes (Takes_nonce k seen text) may others other told so = nonce_goes k seen text may so
  ask_goes Submits_abort may others other told so = abort_goes so
  ask_goes Submits_front may others other told so = front_goes other so
  ask_goes event may others other told so = quiet_goes event tt tt others so

-- ---- along runs

not_told : {A : Type 0} (event : HostEvent) (of : RequestsEvent) (moment : Moment) → IsSubmission event → event ≡ Requests_do of moment → A
not_told event of moment submits is = absurd (subst IsSubmission is submits)

wrote_told : (here next : Phase) (past told : List Entry) (m : HostMachine) (event : HostEvent) → May here m (Does event told) next → RequestsGround here past m → KnowsAsked here past m
    → HearsTold event
wrote_told here next past told m event may ground known = by (writes here next past told m event may ground known)
  where
    by : Wrote here past told m.state event → HearsTold event
    by (Quietly un quiet) of moment is = subst Unsubmitted is un
    by (Again f rest un are old quiet) of moment is = subst Unsubmitted is un
    by (Anew purpose f marks here_is free are anew marked way) of moment is =
        let at : May Submitting m (Does event told) next = subst (λ (p : Phase). May p m (Does event told) next) here_is may in
        not_told event of moment (next_is IsSubmission submissions m.state event at.0.0) is

asked_told : (line : Line) (h : HostState) (event : HostEvent) → IsAskedBy line h event → HearsTold event
asked_told line h event is of moment same = absurd (asked_beside line h (Requests_do of moment) (subst (λ (e : HostEvent). IsAskedBy line h e) same is))

restart_textless : (s : NodeState) → has_text (after_restart s) ≡ false
restart_textless s = by (has_open (as_recorded s) && is_up (as_recorded s) && is_idle (as_recorded s).series)
  where
    by : (b : Bool) → has_text (if b then new_series (as_recorded s) else as_recorded s) ≡ false
    by true = refl
    by false = refl

-- nothing is to be sealed, and none is under way
idle_so : (h : HostState) (n : ℕ) → has_text (node_of h n) ≡ false → h.requests.under_way ≡ None → AskSo h n
idle_so h n textless idle = record {
  whole = λ has. absurd (both_ways (has_text (node_of h n)) textless has);
  last = λ has u more payload is purpose. absurd (both_ways (has_text (node_of h n)) textless has);
  asks = λ plain pending u more payload is purpose. absurd (no_way u (sym idle ∙ is));
  again = λ u payload is purpose. absurd (no_way u (sym idle ∙ is));
}
  where
    no_way : (u : UnderWay) → ◌≡◌ {A = Option UnderWay} None (Some u) → ⊥
    no_way u bad = cc

facts_at : (keys : Keys) (here : Phase) (past : List Entry) (m : HostMachine) → AsksGround keys here past m → HostFacts m.state
facts_at keys here past m ground = ground.0.0.0.0.0.0.facts.host

asks_last : (keys : Keys) → Lasts (AsksGround keys) AsksAreSo
asks_last keys = record {
  loose = λ here at past told m all numbered ground tie. tie;
  numbers = λ here past m other ground later tie. tie;
  said = λ past words m none ground goes_on tie. tie;
  refused = λ past words line refusal m none ground later tie. tie;
  asked = λ line past m event is may numbered ground later tie n from to.
      ask_goes m.state (facts_at keys (Asked line) past m ground) n to event may.0 (facts_at keys Open (past ++ answers m.state event) (done m event) later) ground.1.0
      (asked_told line m.state event is) (tie n from to);
  starts = λ before words m state opens anew ground later n from to.
      idle_so state n (each_restarts (λ (s : NodeState). has_text s ≡ false) restart_textless refl m.keys m.records state ground.0.0.0.0.0.0.told opens n from)
      (ap (λ (p : Side × RequestsState). p.1.under_way) (opened_asks m.keys m.records state ground.0.0.0.0.0.0.told opens));
  opens = λ past h clock tie. tie;
  rises = λ past m ground tie. tie;
  judges = λ past m item rest behind told now ground later tie n from to.
      let so = tie n from to in record { whole = so.whole; last = so.last; asks = so.asks; again = so.again };
  does = λ here next past m event told may ground later tie n from to.
      ask_goes m.state (facts_at keys here past m ground) n to event may.1.0 (facts_at keys next (past ++ told) (done m event) later) ground.1.0
      (wrote_told here next past told m event may ground.0.1.0 ground.0.1.1) (tie n from to);
  turn = λ here next past m other turns ground tie. tie;
}

first_asks : (keys : Keys) → AsksAreSo Resting [] (first_host keys) 0
first_asks keys n from to = idle_so (first_host keys) n (let bare = first_bare n in no_texts (node_among first_nodes n) bare.0 bare.1) refl

pub asks_along : (keys : Keys) → AlongRuns keys (AsksGround keys) → AlongRuns keys (KnowsSince AsksAreSo)
asks_along keys grounds = along keys (AsksGround keys) (KnowsSince AsksAreSo) grounds (since_walk AsksAreSo (AsksGround keys) (asks_last keys)) (first_asks keys)
