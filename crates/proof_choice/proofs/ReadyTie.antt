-- The messages that are ready to be sealed go on as in the host at each step, where a frame that is judged and a host that starts leave them so.
use Rattle.std.proofs.Common.{◌≡◌, ◌⊎◌, ℕ, ◌<◌, ◌≤◌, ◌==◌, ◌&&◌, Bool, true, false, if◌then◌else◌, inl, inr, Option, Some, None, length, List, [], ◌∷◌, ◌++◌, map, refl, sym, ap, ap₂, ◌∙◌, subst, append_assoc, arith}
use Rattle.std.specs.Prelude.{is_some}
use Rattle.std.specs.List.{flat_map, list_any}
use Rattle.std.proofs.lemmas.Bool.{eqb-true, ltb-true}
use Rattle.zw_base.proofs.Each.{all-weaker}
use Rattle.serial_frame.specs.Items.{unit_text}
use Rattle.serial_frame.specs.declared.unit.Unit.TheVariants.{Framed}
use Rattle.zw_words.specs.declared.side.Side.TheVariants.{Host}
use Rattle.zw_text.specs.declared.entry.Entry.{Entry}
use Rattle.zw_text.specs.declared.entry.Entry.TheVariants as entry
use Rattle.host_heard.specs.declared.told.Told.{Told}
use Rattle.law_transcript.specs.Units.{Carried, sending_of}
use Rattle.law_time.specs.Attempts.{Attempts, anew, attempt_is_over, attempts_by_request, goes_on, is_of_attempt}
use Rattle.law_time.specs.Heeds.{Heeds}
use Rattle.law_time.specs.Moments.{clock}
use Rattle.law_time.specs.Queue.{requests}
use Rattle.law_time.specs.Requests.{Asked, are_none, asked, is_new}
use Rattle.host_requests.specs.Frames.{frame_of}
use Rattle.host_requests.specs.State.{next_id}
use Rattle.host_requests.specs.declared.task.Purpose.{Purpose}
use Rattle.host_requests.specs.declared.task.Purpose.TheVariants.{Attempt, Housekeeping, Abort}
use Rattle.host_requests.specs.declared.task.Task.{Task}
use Rattle.chip_functions.specs.declared.request.Request.{Request}
use Rattle.host_node.specs.Facts.{NodeFacts, SeriesFacts}
use Rattle.host_node.specs.State.{NodeState, has_segment, is_running}
use Rattle.host_node.specs.Steps.{after_segment, after_start, after_text, with_wait}
use Rattle.host_node.specs.declared.attempt.Plan.{Plan}
use Rattle.host_node.specs.declared.attempt.Plan.TheVariants.{Whole, Segments, Sealed}
use Rattle.host_node.specs.declared.series.Series.{Series}
use Rattle.host_node.specs.declared.series.Series.TheVariants.{Idle, Due, Running}
use Rattle.host_model.specs.State.{HostState, node_of}
use Rattle.host_model.specs.After.{after, task_purpose}
use Rattle.host_model.specs.Did.{MayAll, after_all}
use Rattle.host_model.specs.Events.{HostEvent, Starts, Gives_text, Gives_segment, Takes_nonce, Submits_abort, Submits_front, Begins, Begin_unkept}
use Rattle.host_model.specs.Facts.{HostFacts}
use Rattle.host_model.specs.May.{IsFree, May as MayHost}
use Rattle.host_model.specs.Outs.{outs}
use Rattle.host_model.specs.Pumping.{IsNext}
use Rattle.host_model.specs.declared.out.HostOut.TheVariants.{Note, Write}
use Rattle.host_model.proofs.Submitted.{SleepersAre, next_is, no_more_is}
use Rattle.proof_giving.specs.proof_queue.proof_attempts.proof_requests.law_host.Heard.{heeds_alone}
use Rattle.proof_giving.specs.proof_queue.proof_attempts.proof_requests.Asking.{doing_of}
use Rattle.proof_giving.specs.proof_queue.proof_attempts.proof_requests.Walking.{Ground as RequestsGround, IsRead, IsTied, KnowsAsked, ReadsAs}
use Rattle.proof_giving.specs.proof_queue.proof_attempts.proof_requests.proof_alone.State.{HostMachine, done}
use Rattle.proof_giving.specs.proof_queue.proof_attempts.proof_requests.proof_alone.Steps.{AreTold, IsOfUnit, Does}
use Rattle.proof_giving.specs.proof_queue.proof_attempts.proof_requests.proof_alone.Phases.{Phase, Ticking, Behind, Sleeping, Submitting, IsNumbered, May}
use Rattle.proof_giving.specs.proof_queue.proof_attempts.Attempts.{AreAttempts, begun_of}
use Rattle.proof_giving.specs.proof_queue.proof_attempts.Since.{InTick, TicksAt}
use Rattle.proof_giving.proofs.Doings.{node_after}
use Rattle.proof_giving.proofs.Lasting.{by_else, rest_of}
use Rattle.proof_giving.proofs.Queued.{PayloadsBring}
use Rattle.proof_giving.proofs.Stepping.{IsSubmission, event_is_read, submissions, time_told}
use Rattle.proof_giving.proofs.proof_attempts_Walking.{is_fresh, written_told}
use Rattle.proof_giving.proofs.Wrote.{Wrote, writes}
use Rattle.proof_giving.specs.proof_queue.Waiting.{want_of_task}
use Rattle.proof_giving.proofs.Books.{last_is}
use Rattle.proof_giving.specs.Tie.{AttemptsSo, NodeSo, WantsFit, is_badly_over, is_for, signed}
use Rattle.proof_giving.specs.Told.{LeavesAttempts, attempts_so_far}
use Rattle.proof_giving.specs.Walking.{EndsAsTold, Grounds, KnowsAttempts, gives_sign}
use Rattle.proof_giving.proofs.Asking.{mark_leaves, of_attempt}
use Rattle.proof_giving.proofs.Begun.{starts_begin}
use Rattle.proof_giving.proofs.Told.{attempts_asked, attempts_left, attempts_one}
use Rattle.proof_giving.proofs.proof_requests_Judging.{or_false}
use Rattle.proof_choice.specs.Ready.{ReadySo}
use Rattle.proof_choice.specs.Readying.{ReadyAsTold, ReadyGround, Renewed}
use Rattle.proof_choice.specs.Waits.{WaitsAnew}
use Rattle.proof_choice.proofs.Choices.{segment_runs}
use Rattle.proof_choice.proofs.Choosing.{BeginsNone}
use Rattle.proof_choice.proofs.Nonces.{one_stays}
use Rattle.proof_choice.proofs.Readies.{Bare}
use Rattle.proof_choice.proofs.ReadyGoes.{Either, FollowsItem, GrowsAlong, along_either, bare_after, bare_of, behind_ready, goes_on_ready, other_ready, own_ready, wrote_either}
use Rattle.proof_choice.proofs.Staying.{LeavesTexts, no_some, stays_same}

-- ---- the ground

pub ground_of : {heeds : Heeds} (here : Phase) (past : List Entry) (m : HostMachine) → Grounds heeds here past m → RequestsGround here past m
ground_of here past m g = g.sleep.0.0.0.1.0

pub asked_of : {heeds : Heeds} (here : Phase) (past : List Entry) (m : HostMachine) → Grounds heeds here past m → KnowsAsked here past m
asked_of here past m g = g.sleep.0.0.0.1.1

pub facts_of : {heeds : Heeds} (here : Phase) (past : List Entry) (m : HostMachine) → Grounds heeds here past m → HostFacts m.state
facts_of here past m g = (ground_of here past m g).0.0.0.0.0.facts.host

pub within_of : {heeds : Heeds} (here : Phase) (past : List Entry) (m : HostMachine) → Grounds heeds here past m → (n : ℕ) → n ≤ 232 → n < length m.state.nodes
within_of here past m g n to = let places = (facts_of here past m g).nodes.places in omega (arith, places, to)

-- ---- which events come where

ticks_leave : (h : HostState) (event : HostEvent) (left : List HostEvent) (clock : ℕ) → TicksAt (Ticking (event ∷ left)) h clock → LeavesTexts false event
ticks_leave h (Starts n plan more payload) left clock ticks = absurd ticks.0
ticks_leave h (Gives_text n payload) left clock ticks = absurd ticks.0
ticks_leave h (Takes_nonce n seen text) left clock ticks = absurd ticks.0
ticks_leave h event left clock ticks = tt

ticks_begin_none : (h : HostState) (event : HostEvent) (left : List HostEvent) (clock : ℕ) → TicksAt (Ticking (event ∷ left)) h clock → BeginsNone event
ticks_begin_none h (Begins n session command) left clock ticks = absurd ticks.0
ticks_begin_none h event left clock ticks = tt

follows_item : (past : List Entry) (now : ℕ) (h : HostState) (event : HostEvent) (left : List HostEvent) → EndsAsTold past now h (event ∷ left) → FollowsItem event
follows_item past now h (Starts n plan more payload) left ends = absurd ends.0
follows_item past now h (Gives_text n payload) left ends = absurd ends.0
follows_item past now h event left ends = tt

follows_none : (past : List Entry) (now : ℕ) (h : HostState) (event : HostEvent) (left : List HostEvent) → EndsAsTold past now h (event ∷ left) → BeginsNone event
follows_none past now h (Begins n session command) left ends = absurd ends.0
follows_none past now h event left ends = tt

sleepers_leave : SleepersAre (LeavesTexts false)
sleepers_leave = record { queues = λ n. tt; drops = λ n. tt }

sleepers_none : SleepersAre BeginsNone
sleepers_none = record { queues = λ n. tt; drops = λ n. tt }

ticking_not : (left : List HostEvent) → Ticking left ≡ Submitting → ⊥
ticking_not left is = cc

behind_not : (left : List HostEvent) → Behind left ≡ Submitting → ⊥
behind_not left is = cc

sleeping_not : Sleeping ≡ Submitting → ⊥
sleeping_not is = cc

-- ---- what is left of an attempt that is due, or that gives a text

due_bare : (s : NodeState) → NodeFacts s → s.series ≡ Due → Bare s
due_bare s facts due = by s.series due facts.series
  where
    by : (x : Series) → x ≡ Due → SeriesFacts x s.book s.attempt_wait s.again_wait s.next_segment s.segments s.text s.pending → Bare s
    by Idle is f = absurd (let bad : Idle ≡ Due = is in cc)
    by Due is f = (f.2.no_text, f.2.no_pending)
    by Running is f = absurd (let bad : Running ≡ Due = is in cc)

text_alone : (s : NodeState) → NodeFacts s → (text plain : List ℕ) → s.text ≡ Some text → s.pending ≡ Some plain → ⊥
text_alone s facts text plain has waits = by s.series facts.series
  where
    by : (x : Series) → SeriesFacts x s.book s.attempt_wait s.again_wait s.next_segment s.segments s.text s.pending → ⊥
    by Idle f = no_some _ s.text text f.1.no_text has
    by Due f = no_some _ s.text text f.2.no_text has
    by Running f = let bad : true ≡ false = sym (ap₂ (λ (a b : Option (List ℕ)). is_some a && is_some b) has waits) ∙ f.3 in cc

-- also where a sign is still to come
signed_bare : (a b : Attempts) (c : Bool) (t : NodeState) (time : ℕ) (badly : Bool) → NodeFacts t → NodeSo b (signed c t) time badly → b ≡ anew a → Bare t
signed_bare a b false t time badly facts so is = bare_of a b t time badly facts so is
signed_bare a b true t time badly facts so is = by (is_running t.series) refl so
  where
    by : (r : Bool) → is_running t.series ≡ r → NodeSo b (if r then with_wait t 100 else t) time badly → Bare t
    by false none so = bare_of a b t time badly facts so is
    by true runs so = let are : AreAttempts (anew a) (with_wait t 100) time badly = subst (λ (c : Attempts). AreAttempts c (with_wait t 100) time badly) is so.are in absurd (running t.series runs are.begun)
      where
        running : (x : Series) → is_running x ≡ true → 0 ≡ begun_of x t.book.attempts → ⊥
        running Idle it none = let bad : false ≡ true = it in cc
        running Due it none = let bad : false ≡ true = it in cc
        running Running it none = omega (arith, none)

module _ (grows : GrowsAlong) (brings : PayloadsBring) (taken : List Entry → Carried → List Told) where
  abbrev heeds : Heeds
  heeds = heeds_alone taken

  abbrev so_far : ℕ → List Entry → Attempts
  so_far n past = attempts_so_far heeds n past

  -- ---- what is submitted

  module _ (past told : List Entry) (m : HostMachine) (numbered : IsNumbered m told) (ground : RequestsGround Submitting past m) (tie : IsTied past m) (waits : WaitsAnew heeds past m) where
    facts : HostFacts m.state
    facts = ground.0.0.0.0.0.facts.host

    abbrev id : ℕ
    id = next_id m.state.requests.last_id

    abbrev unit_of : Purpose → List ℕ
    unit_of purpose = unit_text (Framed (frame_of purpose id))

    abbrev Puts : Purpose → Type 0
    Puts purpose = AreTold (Write (Framed (frame_of purpose id)) ∷ []) told

    module _ (n : ℕ) (to : n < length m.state.nodes) (so : ReadySo (so_far n past) (node_of m.state n)) where
      abbrev s : NodeState
      s = node_of m.state n

      abbrev over : Bool
      over = attempt_is_over heeds past (requests heeds past).last (clock past) (so_far n past)

      grown : (purpose : Purpose) → IsFree m.state → ReadsAs m.state purpose → WantsFit purpose (map want_of_task m.state.requests.queue) → Puts purpose
          → so_far n (past ++ told) ≡ attempts_by_request (is_for n purpose) over (unit_of purpose) (so_far n past)
      grown purpose free read fits are =
          let unit : List ℕ = unit_of purpose in
          let wrote = written_told (frame_of purpose id) told are in
          let new : is_new (asked past) unit ≡ true = is_fresh past m.clock m.came (doing_of m.state) (frame_of purpose id) free.free_line tie in
          let fresh : is_new (requests heeds past).last unit ≡ true = ap (λ (a : Asked). is_new a unit) (last_is taken past) ∙ new in
          let time : clock past ≡ m.clock = time_told Submitting past told m ground numbered (entry.Written Host unit) wrote.rest wrote.are in
          let whose : is_of_attempt heeds n past (requests heeds past) unit ≡ is_for n purpose
          = of_attempt heeds n past (requests heeds past) unit purpose id read (subst (WantsFit purpose) (sym (waits unit new time)) fits) in
          ap (λ (l : List Entry). so_far n (past ++ l)) wrote.are ∙ ap (λ (l : List Entry). so_far n l) (sym (append_assoc past (entry.Written Host unit ∷ []) wrote.rest))
          ∙ attempts_left taken n (past ++ entry.Written Host unit ∷ []) wrote.rest (all-weaker IsOfUnit LeavesAttempts mark_leaves wrote.rest wrote.marks)
          ∙ attempts_asked taken n past unit refl fresh ∙ ap (λ (b : Bool). attempts_by_request b over unit (so_far n past)) whose

      abbrev Goes : HostEvent → Type 0
      Goes event = ReadySo (so_far n (past ++ told)) (node_of (after m.state event) n)

      -- it is of no attempt of the node
      others_go : (event : HostEvent) (purpose : Purpose) → LeavesTexts false event → so_far n (past ++ told) ≡ attempts_by_request false over (unit_of purpose) (so_far n past) → Goes event
      others_go event purpose leaves is =
          subst (λ (a : Attempts). ReadySo a (node_of (after m.state event) n)) (sym is)
          (other_ready (so_far n past) over (unit_of purpose) s (node_of (after m.state event) n) (one_stays n m.state event to leaves) so)

      front_goes : (queue : List Task) → m.state.requests.queue ≡ queue → (queue ≡ [] → ⊥) → IsFree m.state → ReadsAs m.state (task_purpose queue) → Puts (task_purpose queue) → Goes Submits_front
      front_goes [] is some free read are = absurd (some refl)
      front_goes (task ∷ rest) is some free read are =
          others_go Submits_front (Housekeeping task) tt (grown (Housekeeping task) free read (ap (λ (l : List Task). are_none (map want_of_task l)) is) are)

      -- a part of an attempt
      part_goes : (event : HostEvent) (k : ℕ) (more : Bool) (payload : List ℕ) (served : NodeState) → node_of (after m.state event) n ≡ (if k == n then served else s) → IsFree m.state
          → m.state.requests.queue ≡ [] → ReadsAs m.state (Attempt k more payload) → Puts (Attempt k more payload)
          → ((k == n) ≡ true → ReadySo (attempts_by_request true over (unit_of (Attempt k more payload)) (so_far n past)) served) → Goes event
      part_goes event k more payload served node free none read are own =
          subst (λ (t : NodeState). ReadySo (so_far n (past ++ told)) t) (sym node)
          (subst (λ (a : Attempts). ReadySo a (if k == n then served else s)) (sym (grown (Attempt k more payload) free read (ap (λ (l : List Task). map want_of_task l) none) are)) (by (k == n) refl))
        where
          by : (b : Bool) → (k == n) ≡ b → ReadySo (attempts_by_request b over (unit_of (Attempt k more payload)) (so_far n past)) (if b then served else s)
          by true is = own is
          by false is = other_ready (so_far n past) over (unit_of (Attempt k more payload)) s s (stays_same false s) so

      starts_go : (k : ℕ) (plan : Plan) (more : Bool) (payload : List ℕ) → IsFree m.state → MayHost m.state (Starts k plan more payload) → ReadsAs m.state (Attempt k more payload)
          → Puts (Attempt k more payload) → Goes (Starts k plan more payload)
      starts_go k plan more payload free may read are =
          part_goes (Starts k plan more payload) k more payload (after_start s plan) (node_after m.state (Starts k plan more payload) n to) free may.0.no_task read are
          (λ same.
          let due : s.series ≡ Due = subst (λ (j : ℕ). (node_of m.state j).series ≡ Due) (eqb-true k n same) may.2.0 in
          let bare = due_bare s (facts.nodes.facts n) due in
          own_ready (so_far n past) over (unit_of (Attempt k more payload)) s (after_start s plan) (seen_so plan) (text_so plan bare.0)
          (λ plain is.
          ap (λ (l : List Request). list_any (λ (carried : Carried). goes_on carried.payload) (flat_map sending_of l)) read ∙ or_false (goes_on payload)
          ∙ starts_begin m.state k plan more payload facts may.1) so)
        where
          seen_so : (plan : Plan) → (after_start s plan).seen ≡ s.seen
          seen_so Whole = refl
          seen_so (Segments count) = refl
          seen_so (Sealed plain) = refl

          text_so : (plan : Plan) → s.text ≡ None → (after_start s plan).text ≡ None
          text_so Whole none = none
          text_so (Segments count) none = none
          text_so (Sealed plain) none = none

      texts_go : (k : ℕ) (payload : List ℕ) → IsFree m.state → MayHost m.state (Gives_text k payload) → ReadsAs m.state (Attempt k false payload) → Puts (Attempt k false payload) → Goes (Gives_text k payload)
      texts_go k payload free may read are =
          part_goes (Gives_text k payload) k false payload (after_text s) (node_after m.state (Gives_text k payload) n to) free may.0.no_task read are
          (λ same.
          let has : s.text ≡ Some payload = subst (λ (j : ℕ). (node_of m.state j).text ≡ Some payload) (eqb-true k n same) may.1 in
          own_ready (so_far n past) over (unit_of (Attempt k false payload)) s (after_text s) refl refl (λ plain is. absurd (text_alone s (facts.nodes.facts n) payload plain has is)) so)

      segments_go : (k : ℕ) (more : Bool) (payload : List ℕ) → IsFree m.state → MayHost m.state (Gives_segment k more payload) → ReadsAs m.state (Attempt k more payload)
          → Puts (Attempt k more payload) → ((k == n) ≡ true → s.pending ≡ None) → Goes (Gives_segment k more payload)
      segments_go k more payload free may read are none =
          part_goes (Gives_segment k more payload) k more payload (after_segment s) (node_after m.state (Gives_segment k more payload) n to) free may.0.no_task read are
          (λ same.
          let no_text : s.text ≡ None = subst (λ (j : ℕ). (node_of m.state j).text ≡ None) (eqb-true k n same) may.1 in
          own_ready (so_far n past) over (unit_of (Attempt k more payload)) s (after_segment s) refl no_text (λ plain is. no_some _ s.pending plain (none same) is) so)

      -- a note
      noted_go : (event : HostEvent) (e : Entry) → LeavesTexts false event → AreTold (Note e ∷ []) told → Either (so_far n past) (so_far n (past ++ e ∷ []))
          → (so_far n (past ++ told) ≡ anew (so_far n past) → Bare (node_of (after m.state event) n)) → Goes event
      noted_go event e leaves (rest, is, none) either bare =
          goes_on_ready (so_far n past) (so_far n (past ++ told)) s (node_of (after m.state event) n)
          (subst (λ (l : List Entry). Either (so_far n past) (so_far n (past ++ l))) (sym (is ∙ ap (λ (l : List Entry). e ∷ l) none)) either) (one_stays n m.state event to leaves) bare so

      begins_either : (k session command : ℕ) → Either (so_far n past) (so_far n (past ++ entry.Begin k session command ∷ []))
      begins_either k session command = subst (Either (so_far n past)) (sym (attempts_one taken n past (entry.Begin k session command) tt)) (by (k == (so_far n past).node))
        where
          by : (b : Bool) → Either (so_far n past) (if b then anew (so_far n past) else so_far n past)
          by true = inr refl
          by false = inl refl

      pub submits_go : (event : HostEvent) → IsSubmission event → IsNext m.state event → MayAll m.state (event ∷ []) → AreTold (outs m.state event) told → AttemptsSo heeds n past m.state m.clock m.clock
          → (so_far n (past ++ told) ≡ anew (so_far n past) → Bare (node_of (after m.state event) n)) → Goes event
      submits_go event sub next may are counts bare = by event sub next may are bare (event_is_read brings m.state event facts may.0 ground.1.0)
        where
          by : (event : HostEvent) → IsSubmission event → IsNext m.state event → MayAll m.state (event ∷ []) → AreTold (outs m.state event) told
              → (so_far n (past ++ told) ≡ anew (so_far n past) → Bare (node_of (after m.state event) n)) → IsRead m.state event → Goes event
          by Submits_abort sub next may are bare read = others_go Submits_abort Abort tt (grown Abort next.0 read tt are)
          by Submits_front sub next may are bare read = front_goes m.state.requests.queue refl may.0.2 next.0 read are
          by (Starts k plan more payload) sub next may are bare read = starts_go k plan more payload next.0 may.0 read are
          by (Gives_text k payload) sub next may are bare read = texts_go k payload next.0 may.0 read are
          by (Gives_segment k more payload) sub next may are bare read =
              segments_go k more payload next.0 may.0 read are
              (λ same.
              let has : has_segment s ≡ true = subst (λ (j : ℕ). has_segment (node_of m.state j) ≡ true) (eqb-true k n same) may.0.4 in
              let less = ltb-true s.next_segment s.segments has in
              ((counts.node.sent (segment_runs s (facts.nodes.facts n) has)).segments (omega (arith, less))).2)
          by (Begins k session command) sub next may are bare read = noted_go (Begins k session command) (entry.Begin k session command) tt are (begins_either k session command) bare
          by (Begin_unkept k) sub next may are bare read =
              noted_go (Begin_unkept k) (entry.Unkept k) tt are (along_either grows taken n past (entry.Unkept k ∷ []) (tt, tt)) bare
          by event sub next may are bare read = absurd sub

  -- ---- each event

  -- where attempts began anew nothing is left
  pub anew_bare : (n : ℕ) (past later : List Entry) (h : HostState) (time now : ℕ) → NodeFacts (node_of h n) → AttemptsSo heeds n later h time now → so_far n later ≡ anew (so_far n past) → Bare (node_of h n)
  anew_bare n past later h time now facts counts = bare_of (so_far n past) (so_far n later) (node_of h n) time (is_badly_over heeds n later h now) facts counts.node

  pub does_ready : (here next : Phase) (past told : List Entry) (m : HostMachine) (event : HostEvent) → May here m (Does event told) next → ReadyGround heeds here past m
      → ReadyGround heeds next (past ++ told) (done m event) → ReadyAsTold heeds here past m.state m.clock → ReadyAsTold heeds next (past ++ told) (after m.state event) m.clock
  does_ready here next past told m event may ground later tie =
      by here may ground tie (rest_of InTick here past m (by_else here next m.state event may.0).0 ground.0.0.sleep.0.0.0.0.0.0.0.0.1)
      (writes here next past told m event may (ground_of here past m ground.0.0) (asked_of here past m ground.0.0))
    where
      after_facts : (n : ℕ) → NodeFacts (node_of (after m.state event) n)
      after_facts n = (facts_of next (past ++ told) (done m event) later.0.0).nodes.facts n

      counts_at : (to : Phase) → next ≡ to → KnowsAttempts heeds to (past ++ told) (done m event)
      counts_at to is = subst (λ (p : Phase). KnowsAttempts heeds p (past ++ told) (done m event)) is later.0.1

      at : (to : Phase) → next ≡ to → ReadyAsTold heeds to (past ++ told) (after m.state event) m.clock → ReadyAsTold heeds next (past ++ told) (after m.state event) m.clock
      at to is tie = subst (λ (p : Phase). ReadyAsTold heeds p (past ++ told) (after m.state event) m.clock) (sym is) tie

      by : (here : Phase) → May here m (Does event told) next → ReadyGround heeds here past m → ReadyAsTold heeds here past m.state m.clock → TicksAt here m.state m.clock → Wrote here past told m.state event
          → ReadyAsTold heeds next (past ++ told) (after m.state event) m.clock
      by (Ticking (first ∷ left)) may ground tie ticks wrote =
          at (Ticking left) may.0.1
          (λ n from to.
          let leaves = subst (LeavesTexts false) (sym may.0.0) (ticks_leave m.state first left m.clock ticks) in
          let none = subst BeginsNone (sym may.0.0) (ticks_begin_none m.state first left m.clock ticks) in
          goes_on_ready (so_far n past) (so_far n (past ++ told)) (node_of m.state n) (node_of (after m.state event) n)
          (wrote_either grows taken n (Ticking (first ∷ left)) past told m.state event (ticking_not (first ∷ left)) none may.2 wrote)
          (one_stays n m.state event (within_of (Ticking (first ∷ left)) past m ground.0.0 n to) leaves)
          (anew_bare n past (past ++ told) (after m.state event) _ _ (after_facts n) (counts_at (Ticking left) may.0.1 n from to)) (tie n from to))
      by (Behind (first ∷ left)) may ground tie ticks wrote =
          at (Behind left) may.0.1
          (λ n from to.
          let follows = subst FollowsItem (sym may.0.0) (follows_item past m.clock m.state first left ground.0.1.1) in
          let none = subst BeginsNone (sym may.0.0) (follows_none past m.clock m.state first left ground.0.1.1) in
          let last : HostState = after_all (after m.state event) left in
          let before : ReadySo (so_far n past) (node_of last n) ⊎ Renewed (so_far n past) (node_of m.state n) (node_of last n)
          = subst (λ (e : HostEvent). ReadySo (so_far n past) (node_of (after_all (after m.state e) left) n) ⊎ Renewed (so_far n past) (node_of m.state n) (node_of (after_all (after m.state e) left) n))
          (sym may.0.0) (tie n from to) in
          behind_ready (so_far n past) (so_far n (past ++ told)) (node_of m.state n) (node_of (after m.state event) n) (node_of last n)
          (wrote_either grows taken n (Behind (first ∷ left)) past told m.state event (behind_not (first ∷ left)) none may.2 wrote)
          (signed_bare (so_far n past) (so_far n (past ++ told)) (gives_sign n (after m.state event) left) (node_of (after m.state event) n) _ _ (after_facts n) ((counts_at (Behind left) may.0.1).0 n from to).node)
          (bare_after n m.state event (within_of (Behind (first ∷ left)) past m ground.0.0 n to) follows may.1.0) before)
      by Sleeping may ground tie ticks wrote =
          let (node, wants, event_is, to_is) = may.0 in
          at Sleeping to_is
          (λ n from to.
          goes_on_ready (so_far n past) (so_far n (past ++ told)) (node_of m.state n) (node_of (after m.state event) n)
          (wrote_either grows taken n Sleeping past told m.state event sleeping_not (subst BeginsNone (sym event_is) (no_more_is BeginsNone sleepers_none m.state node)) may.2 wrote)
          (one_stays n m.state event (within_of Sleeping past m ground.0.0 n to) (subst (LeavesTexts false) (sym event_is) (no_more_is (LeavesTexts false) sleepers_leave m.state node)))
          (anew_bare n past (past ++ told) (after m.state event) _ _ (after_facts n) (counts_at Sleeping to_is n from to)) (tie n from to))
      by Submitting may ground tie ticks wrote =
          at Submitting may.0.1
          (λ n from to.
          submits_go past told m may.3 (ground_of Submitting past m ground.0.0) (asked_of Submitting past m ground.0.0) ground.1 n (within_of Submitting past m ground.0.0 n to) (tie n from to) event
          (next_is IsSubmission submissions m.state event may.0.0) may.0.0 may.1 may.2 (ground.0.1 n from to)
          (anew_bare n past (past ++ told) (after m.state event) _ _ (after_facts n) (counts_at Submitting may.0.1 n from to)))
      by here may ground tie ticks wrote = absurd may.0
