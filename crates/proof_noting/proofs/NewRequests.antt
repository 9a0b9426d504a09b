-- Each request that the host submits may be sent by the books of the course, which are the host's again behind it; and one is under way then.
use Rattle.std.proofs.Common.{◌≡◌, ◌≤◌, ℕ, ◌&&◌, ◌||◌, not, Bool, true, false, if◌then◌else◌, inl, List, [], ◌∷◌, ◌++◌, map, Option, Some, None, refl, sym, ap, ap₂, ◌∙◌, subst, arith}
use Rattle.std.specs.Prelude.{is_none, is_some}
use Rattle.std.specs.List.{AllByRecursion, flat_map, list_any}
use Rattle.std.proofs.lemmas.Bool.{both_ways, ltb-true, ne_eqb, or_left, or_right}
use Rattle.chip_functions.specs.Field.{IsNode}
use Rattle.chip_functions.specs.declared.request.Request.{Request}
use Rattle.supervision.specs.Host.{open_session}
use Rattle.serial_frame.specs.Items.{unit_text}
use Rattle.serial_frame.specs.declared.unit.Unit.TheVariants.{Framed}
use Rattle.zw_words.specs.declared.side.Side.TheVariants.{Host}
use Rattle.zw_text.specs.declared.entry.Entry.{Entry}
use Rattle.zw_text.specs.declared.entry.Entry.TheVariants as entry
use Rattle.host_heard.specs.declared.told.Told.{Told}
use Rattle.law_transcript.specs.Units.{Carried, sending_in, sending_of}
use Rattle.law_time.specs.Attempts.{goes_on, is_of_attempt}
use Rattle.law_time.specs.Heeds.{Heeds}
use Rattle.law_time.specs.Moments.{clock}
use Rattle.law_time.specs.Queue.{requests}
use Rattle.law_time.specs.Requests.{asked, is_new}
use Rattle.host_requests.specs.Frames.{frame_of, request_of}
use Rattle.host_requests.specs.State.{next_id}
use Rattle.host_requests.specs.declared.task.Purpose.{Purpose}
use Rattle.host_requests.specs.declared.task.Purpose.TheVariants.{Attempt, Abort}
use Rattle.host_requests.specs.declared.task.Task.{Task}
use Rattle.host_requests.specs.declared.task.Task.TheVariants as task
use Rattle.host_requests.specs.declared.under_way.Progress.TheVariants.{Submitted}
use Rattle.host_requests.specs.declared.under_way.UnderWay.{UnderWay}
use Rattle.host_node.specs.Facts.{SeriesFacts}
use Rattle.host_node.specs.State.{NodeState, has_segment}
use Rattle.host_node.specs.declared.attempt.Plan.{Plan}
use Rattle.host_node.specs.declared.series.Series.{Series}
use Rattle.host_node.specs.declared.series.Series.TheVariants.{Idle, Due, Running}
use Rattle.host_model.specs.State.{HostState, node_of}
use Rattle.host_model.specs.After.{after, task_purpose}
use Rattle.host_model.specs.Did.{MayAll}
use Rattle.host_model.specs.Events.{HostEvent, Gives_segment, Gives_text, Starts, Submits_abort, Submits_front}
use Rattle.host_model.specs.Facts.{HostFacts}
use Rattle.host_model.specs.May.{IsFree}
use Rattle.host_model.specs.Outs.{outs}
use Rattle.host_model.specs.Pumping.{IsNext}
use Rattle.host_model.specs.declared.out.HostOut.TheVariants.{Write}
use Rattle.proof_hearing.specs.proof_choice.proof_giving.Tie.{AttemptsSo, IsRequest, WantsFit, has_text, is_for}
use Rattle.proof_hearing.proofs.Asking.{of_attempt}
use Rattle.proof_hearing.proofs.Begun.{segments_go}
use Rattle.proof_hearing.proofs.Queued.{PayloadsBring, served_is_node}
use Rattle.proof_hearing.proofs.proof_queue_Stepping.{event_is_read, not_awaiting, time_told}
use Rattle.proof_hearing.proofs.Wrote.{front_now}
use Rattle.proof_hearing.proofs.proof_attempts_Walking.{IsWritten, is_fresh, written_told}
use Rattle.proof_hearing.specs.Books.{BooksSo}
use Rattle.proof_hearing.specs.Hearing.{Point, choosing}
use Rattle.proof_hearing.specs.proof_nonces.Known.{AreOther, AsksOther}
use Rattle.proof_hearing.specs.proof_queue.Waiting.{want_of_task}
use Rattle.proof_hearing.specs.proof_queue.proof_attempts.proof_requests.Asking.{doing_of}
use Rattle.proof_hearing.specs.proof_queue.proof_attempts.proof_requests.Walking.{AreRead, CanBeRead, Ground as RequestsGround, IsRead, ReadsAs}
use Rattle.proof_hearing.specs.proof_queue.proof_attempts.proof_requests.law_host.Course.{Course}
use Rattle.proof_hearing.specs.proof_queue.proof_attempts.proof_requests.law_host.Following.{after as followed, comes_to, requests as requests_so}
use Rattle.proof_hearing.specs.proof_queue.proof_attempts.proof_requests.law_host.Heard.{heeds_alone}
use Rattle.proof_hearing.specs.proof_queue.proof_attempts.proof_requests.law_host.HostLegal.{IsHeeded}
use Rattle.proof_hearing.specs.proof_queue.proof_attempts.proof_requests.law_host.Nonces.{is_late, sends}
use Rattle.proof_hearing.specs.proof_queue.proof_attempts.proof_requests.proof_alone.Phases.{IsNumbered, Submitting}
use Rattle.proof_hearing.specs.proof_queue.proof_attempts.proof_requests.proof_alone.State.{HostMachine, done}
use Rattle.proof_hearing.specs.proof_queue.proof_attempts.proof_requests.proof_alone.Steps.{AreTold, IsOfUnit}
use Rattle.proof_hearing.proofs.Around.{sends_chosen, sends_else, unsent}
use Rattle.proof_hearing.proofs.Sent.{OffersNode, Sent, abort_sent, front_sent, segment_sent, start_sent, text_sent}
use Rattle.proof_hearing.proofs.proof_nonces_Payloads.{open_other}
use Rattle.proof_hearing.proofs.Entering.{plain_after}
use Rattle.proof_hearing.proofs.proof_ends_Walking.{ShowsOpen}
use Rattle.proof_noting.specs.Following.{Goes, Outset}
use Rattle.proof_noting.specs.Ground.{NotingGround}
use Rattle.proof_noting.specs.Noting.{AtRest}
use Rattle.proof_noting.proofs.Choosing.{course_goes, goes_both, goes_on as goes_on_so}
use Rattle.proof_noting.proofs.Becoming.{BecomesLevel, becomes_heeded, comes_level, level_books}
use Rattle.proof_noting.proofs.Requested.{frames_next}
use Rattle.proof_noting.proofs.Lately.{on_time}
use Rattle.proof_noting.proofs.Marks.{marks_unrefused, units_go}
use Rattle.proof_noting.proofs.NewlyAsked.{goes_further, late_asked}

equal_low : (a b : ℕ) → a ≡ b → a ≤ b
equal_low a b is = omega (arith, is)

-- ---- what waits

front_fits : (queue : List Task) → (queue ≡ [] → ⊥) → WantsFit (task_purpose queue) (map want_of_task queue)
front_fits [] some = absurd (some refl)
front_fits (first ∷ more) some = refl

front_no : (n : ℕ) (queue : List Task) → is_for n (task_purpose queue) ≡ false
front_no n [] = refl
front_no n (first ∷ more) = refl

-- ---- a node that has a segment to give runs

no_segment : (s : NodeState) → s.segments ≡ 0 → has_segment s ≡ true → ⊥
no_segment s none has = let less = ltb-true s.next_segment s.segments has in omega (arith, less, none)

segment_runs : (x : Series) (s : NodeState) → s.series ≡ x → SeriesFacts x s.book s.attempt_wait s.again_wait s.next_segment s.segments s.text s.pending → has_segment s ≡ true → s.series ≡ Running
segment_runs Running s is facts has = is
segment_runs Idle s is facts has = absurd (no_segment s facts.1.no_segments has)
segment_runs Due s is facts has = absurd (no_segment s facts.2.no_segments has)

module _ (shows : ShowsOpen) (key : List ℕ) (taken : List Entry → Carried → List Told) (from : Outset) (past : List Entry) (m : HostMachine) (ground : NotingGround taken Submitting past m)
    (known : AtRest key taken from past m) where
  abbrev heeds : Heeds
  heeds = heeds_alone taken

  abbrev h : HostState
  h = m.state

  abbrev id : ℕ
  id = next_id h.requests.last_id

  abbrev unit_of : Purpose → List ℕ
  unit_of purpose = unit_text (Framed (frame_of purpose id))

  request_ground : RequestsGround Submitting past m
  request_ground = ground.asks.0.0

  host : HostFacts h
  host = request_ground.0.0.0.0.0.facts.host

  -- ---- one request, and what became of it

  module _ (purpose : Purpose) (marks : List Entry) (all : AllByRecursion IsOfUnit marks) (free : IsFree h) (awaits : m.awaits ≡ false) (time : clock past ≡ m.clock) (read : ReadsAs h purpose)
      (fits : WantsFit purpose (map want_of_task h.requests.queue)) where
    abbrev unit : List ℕ
    unit = unit_of purpose

    abbrev wrote : Entry
    wrote = entry.Written Host unit

    abbrev later : List Entry
    later = past ++ wrote ∷ marks

    new : is_new (asked past) unit ≡ true
    new = is_fresh past m.clock m.came (doing_of h) (frame_of purpose id) free.free_line ground.asks.0.1

    carried_so : sending_in unit ≡ flat_map sending_of (request_of purpose id ∷ [])
    carried_so = ap (λ (l : List Request). flat_map sending_of l) read

    -- of whose attempt it is
    whose : (n : ℕ) → is_of_attempt heeds n past (requests heeds past) unit ≡ is_for n purpose
    whose n = of_attempt heeds n past (requests heeds past) unit purpose id read (subst (WantsFit purpose) (sym (ground.asks.1 unit new time)) fits)

    late_on : (n : ℕ) → (is_for n purpose ≡ true → goes_further unit ≡ true) → is_late heeds past n ≡ true → is_late heeds later n ≡ true
    late_on n on late = late_asked taken past marks unit refl new all n (λ own. on (sym (whose n) ∙ own)) late

    late_else : (n : ℕ) → is_for n purpose ≡ false → is_late heeds past n ≡ true → is_late heeds later n ≡ true
    late_else n none late = late_on n (λ own. absurd (both_ways (is_for n purpose) none own)) late

    -- it is not late where a text of it waits
    early : (n : ℕ) → IsNode n → has_text (node_of h n) ≡ true → is_late heeds past n ≡ false
    early n is has =
        subst (λ (b : Bool). is_late heeds (if b then past ++ entry.Time m.clock ∷ [] else past) n ≡ false) awaits (on_time taken Submitting past m tt ground n is.0 is.1 has)

    -- the course comes to it, and it may stand
    came : BecomesLevel key taken past m (comes_to heeds past wrote) known.course
    came =
        comes_level key taken shows Submitting past m ground tt time wrote tt known.course (inl known.frames) known.follows refl (ap not new) (frames_next m.came known.frames)

    abbrev reached : Course
    reached = came.0.next

    reached_books : BooksSo key heeds past h reached
    reached_books =
        subst (λ (b : Bool). BooksSo key heeds (if b then past ++ entry.Time m.clock ∷ [] else past) h reached) awaits (level_books key heeds past m reached came.2)

    module _ (g : HostState) (sent : Sent key taken past later h (record reached { over = false; fits = true }) reached_books g unit) where
      abbrev asking : Course
      asking = record reached { over = false; fits = true }

      abbrev requested : Course
      requested = sends heeds past unit asking

      rest_so : unsent requested ≡ unsent asking
      rest_so = sends_else heeds past unit asking

      steps : (keepings : List Bool) (texts : List (Option (List ℕ))) → followed heeds past wrote [] (choosing keepings texts known.course) ≡ choosing keepings texts requested
      steps keepings texts =
          plain_after heeds past wrote [] (choosing keepings texts known.course) (choosing keepings texts reached) refl known.follows.fits (came.0.goes keepings texts) came.0.none_due came.0.fits refl
          ∙ ap (λ (b : Bool). if b then requests_so heeds past unit (choosing keepings texts reached) else choosing keepings texts reached) new
          ∙ ap (λ (b : Bool). sends heeds past unit (record (choosing keepings texts reached) { over = false; fits = b })) (ap₂ (λ (a b : Bool). a && b) came.0.fits sent.may)
          ∙ sends_chosen heeds past keepings texts unit asking

      on : Goes heeds past (wrote ∷ marks) known.course requested
      on =
          goes_both heeds past (wrote ∷ []) marks known.course requested requested (marks_unrefused marks all) (goes_on_so heeds past (wrote ∷ []) known.course requested steps)
          (units_go heeds (past ++ wrote ∷ []) marks requested all)

      under_way_level : g.requests.under_way ≡ Some (record { purpose = purpose; progress = Submitted }) → requested.over ≡ is_none g.requests.under_way
      under_way_level is = ap (λ (c : Course). c.over) rest_so ∙ sym (ap (λ (o : Option UnderWay). is_none o) is)

    -- where its books go together
    asked_rests : (event : HostEvent) → (after h event).requests.under_way ≡ Some (record { purpose = purpose; progress = Submitted })
        → ((course : Course) (books : BooksSo key heeds past h course) → Sent key taken past later h course books (after h event) unit) → AtRest key taken from later (done m event)
    asked_rests event under_way sends_well =
        let sent = sends_well (record reached { over = false; fits = true }) reached_books in
        let g : HostState = after h event in
        let rest = rest_so g sent in
        record {
          course = requested g sent;
          of = course_goes heeds from past (wrote ∷ marks) known.course (requested g sent) refl known.of (on g sent);
          follows = record {
            fits = ap (λ (c : Course). c.fits) rest;
            none_due = ap (λ (c : Course). c.due) rest ∙ came.0.none_due;
            low = equal_low (requested g sent).ticked m.clock (ap (λ (c : Course). c.ticked) rest ∙ came.1);
            heeded = subst (AllByRecursion (IsHeeded taken)) (sym (ap (λ (c : Course). c.heeded) rest)) (becomes_heeded key taken past m (comes_to heeds past wrote) known.course known.follows.heeded came.0);
            so = inl (record {
              over = under_way_level g sent under_way;
              books = subst (λ (b : Bool). BooksSo key heeds (if b then later ++ entry.Time m.clock ∷ [] else later) g (requested g sent)) (sym awaits) sent.books_go;
            });
          };
          frames = known.frames;
        }

  -- ---- by what became of its entries

  -- what is owed of the books, for a request that the host writes
  abbrev WellSent : HostEvent → Purpose → Type 0
  WellSent event purpose =
      (marks : List Entry) (all : AllByRecursion IsOfUnit marks) (awaits : m.awaits ≡ false) (time : clock past ≡ m.clock) (course : Course) (books : BooksSo key heeds past h course)
      → Sent key taken past (past ++ entry.Written Host (unit_of purpose) ∷ marks) h course books (after h event) (unit_of purpose)

  submits : (event : HostEvent) (purpose : Purpose) (told : List Entry) → AreTold (Write (Framed (frame_of purpose id)) ∷ []) told → IsNumbered m told → IsFree h → ReadsAs h purpose
      → WantsFit purpose (map want_of_task h.requests.queue) → (after h event).requests.under_way ≡ Some (record { purpose = purpose; progress = Submitted }) → WellSent event purpose
      → AtRest key taken from (past ++ told) (done m event)
  submits event purpose told are numbered free read fits under_way well =
      let written : IsWritten (unit_of purpose) told = written_told (frame_of purpose id) told are in
      let wrote : Entry = entry.Written Host (unit_of purpose) in
      let awaits : m.awaits ≡ false = not_awaiting m.awaits wrote told written.rest numbered written.are in
      let time : clock past ≡ m.clock = time_told Submitting past told m request_ground numbered wrote written.rest written.are in
      subst (λ (l : List Entry). AtRest key taken from (past ++ l) (done m event)) (sym written.are)
      (asked_rests purpose written.rest written.marks free awaits time read fits event under_way (λ course books. well written.rest written.marks awaits time course books))

  -- ---- each of them

  module _ (point : (n : ℕ) → IsNode n → (is_late heeds past n ≡ true → (node_of h n).pending ≡ None) → Point key heeds past n h) (others : AreOther h.requests.queue) where
    abort_goes : (told : List Entry) → IsNext h Submits_abort → ReadsAs h Abort → AreTold (outs h Submits_abort) told → IsNumbered m told → AtRest key taken from (past ++ told) (done m Submits_abort)
    abort_goes told next read are numbered =
        submits Submits_abort Abort told are numbered next.0 read tt refl
        (λ marks all awaits time course books.
        abort_sent key taken past (past ++ entry.Written Host (unit_of Abort) ∷ marks) h course books (unit_of Abort) (carried_so Abort marks all next.0 awaits time read tt)
        (λ n is. late_else Abort marks all next.0 awaits time read tt n refl))

    -- what waited longest
    module _ (first : Task) (more : List Task) (queue : h.requests.queue ≡ first ∷ more) (other : AsksOther first) (can : CanBeRead first) (comes : IsNext h Submits_front)
        (read : ReadsAs h (task_purpose h.requests.queue)) (fits : WantsFit (task_purpose h.requests.queue) (map want_of_task h.requests.queue)) where
      abbrev it : Purpose
      it = task_purpose h.requests.queue

      front_well : WellSent Submits_front it
      front_well marks all awaits time course books =
          front_sent key taken past (past ++ entry.Written Host (unit_of it) ∷ marks) h course books first more queue (unit_of it) late id first refl other (offers first can)
          (carried_so it marks all comes.0 awaits time read fits ∙ ap (λ (l : List Task). flat_map sending_of (request_of (task_purpose l) id ∷ [])) queue)
        where
          late : (n : ℕ) → IsNode n → is_late heeds past n ≡ true → is_late heeds (past ++ entry.Written Host (unit_of it) ∷ marks) n ≡ true
          late n is = late_else it marks all comes.0 awaits time read fits n (front_no n h.requests.queue)

          offers : (t : Task) → CanBeRead t → OffersNode key taken past (past ++ entry.Written Host (unit_of it) ∷ marks) h course books first more queue (unit_of it) late t
          offers (task.Offer n nonce) can = (can 1 (omega arith) (omega arith)).0
          offers t can = tt

    front_goes : (told : List Entry) → IsNext h Submits_front → (h.requests.queue ≡ [] → ⊥) → ReadsAs h (task_purpose h.requests.queue) → AreRead h.requests.queue → AreTold (outs h Submits_front) told
        → IsNumbered m told → AtRest key taken from (past ++ told) (done m Submits_front)
    front_goes told next some read can are numbered =
        submits Submits_front (task_purpose h.requests.queue) told are numbered next.0 read (front_fits h.requests.queue some) (front_now h h.requests.queue refl some) (by h.requests.queue refl)
      where
        by : (queue : List Task) → h.requests.queue ≡ queue → WellSent Submits_front (task_purpose h.requests.queue)
        by [] is = absurd (some is)
        by (first ∷ more) is =
            front_well first more is (subst AreOther is others).0 (subst (AllByRecursion CanBeRead) is can.0).0 next read (front_fits h.requests.queue some)

    -- a part of an attempt
    module _ (n : ℕ) (more : Bool) (payload : List ℕ) (served : IsNode n) (free : IsFree h) (none : h.requests.queue ≡ []) (read : ReadsAs h (Attempt n more payload)) where
      abbrev part : Purpose
      part = Attempt n more payload

      part_fits : WantsFit part (map want_of_task h.requests.queue)
      part_fits = ap (λ (l : List Task). map want_of_task l) none

      module _ (marks : List Entry) (all : AllByRecursion IsOfUnit marks) (awaits : m.awaits ≡ false) (time : clock past ≡ m.clock) where
        abbrev all_later : List Entry
        all_later = past ++ entry.Written Host (unit_of part) ∷ marks

        part_carried : sending_in (unit_of part) ≡ record { node = n; payload = payload } ∷ []
        part_carried = carried_so part marks all free awaits time read part_fits

        part_late : (k : ℕ) → IsNode k → (k ≡ n → ⊥) → is_late heeds past k ≡ true → is_late heeds all_later k ≡ true
        part_late k is other = late_else part marks all free awaits time read part_fits k (ne_eqb n k (λ same. other (sym same)))

        part_early : has_text (node_of h n) ≡ true → is_late heeds past n ≡ true → ⊥
        part_early has late = both_ways (is_late heeds past n) (early part marks all free awaits time read part_fits n served has) late

        no_text : is_late heeds past n ≡ true → (node_of h n).text ≡ None
        no_text late = by (node_of h n).text refl
          where
            by : (o : Option (List ℕ)) → (node_of h n).text ≡ o → (node_of h n).text ≡ None
            by None is = is
            by (Some text) is =
                absurd (part_early (or_left (is_some (node_of h n).text) (is_some (node_of h n).pending) (ap (λ (o : Option (List ℕ)). is_some o) is)) late)

        no_pending : is_late heeds past n ≡ true → (node_of h n).pending ≡ None
        no_pending late = by (node_of h n).pending refl
          where
            by : (o : Option (List ℕ)) → (node_of h n).pending ≡ o → (node_of h n).pending ≡ None
            by None is = is
            by (Some plain) is =
                absurd (part_early (or_right (is_some (node_of h n).text) (is_some (node_of h n).pending) (ap (λ (o : Option (List ℕ)). is_some o) is)) late)

        here : Point key heeds past n h
        here = point n served no_pending

        -- a segment goes on with its attempt
        segment_late : has_segment (node_of h n) ≡ true → goes_on payload ≡ true → is_late heeds past n ≡ true → is_late heeds all_later n ≡ true
        segment_late has goes =
            late_on part marks all free awaits time read part_fits n
            (λ own. ap (λ (l : List Carried). list_any (λ (carried : Carried). goes_on carried.payload) l) part_carried ∙ ap (λ (b : Bool). b || false) goes)

    starts_goes : (n : ℕ) (plan : Plan) (more : Bool) (payload : List ℕ) (told : List Entry) → MayAll h (Starts n plan more payload ∷ []) → ReadsAs h (Attempt n more payload)
        → AreTold (outs h (Starts n plan more payload)) told → IsNumbered m told → AtRest key taken from (past ++ told) (done m (Starts n plan more payload))
    starts_goes n plan more payload told may read are numbered =
        let served : IsNode n = served_is_node h n may.0.0.next in
        let free : IsFree h = may.0.0.free in
        let none : h.requests.queue ≡ [] = may.0.0.no_task in
        submits (Starts n plan more payload) (Attempt n more payload) told are numbered free read (part_fits n more payload served free none read) refl
        (λ marks all awaits time course books.
        start_sent key taken past (past ++ entry.Written Host (unit_of (Attempt n more payload)) ∷ marks) h course books n (here n more payload served free none read marks all awaits time) served
        (unit_of (Attempt n more payload)) (part_late n more payload served free none read marks all awaits time) plan more payload may.0.1 may.0.2.0
        (part_carried n more payload served free none read marks all awaits time))

    text_goes : (n : ℕ) (payload : List ℕ) (told : List Entry) → MayAll h (Gives_text n payload ∷ []) → ReadsAs h (Attempt n false payload) → AreTold (outs h (Gives_text n payload)) told → IsNumbered m told
        → AtRest key taken from (past ++ told) (done m (Gives_text n payload))
    text_goes n payload told may read are numbered =
        let served : IsNode n = served_is_node h n may.0.0.next in
        let free : IsFree h = may.0.0.free in
        let none : h.requests.queue ≡ [] = may.0.0.no_task in
        submits (Gives_text n payload) (Attempt n false payload) told are numbered free read (part_fits n false payload served free none read) refl
        (λ marks all awaits time course books.
        text_sent key taken past (past ++ entry.Written Host (unit_of (Attempt n false payload)) ∷ marks) h course books n (here n false payload served free none read marks all awaits time) served
        (unit_of (Attempt n false payload)) (part_late n false payload served free none read marks all awaits time) payload may.0.1
        (no_text n false payload served free none read marks all awaits time) (part_carried n false payload served free none read marks all awaits time))

    -- the first segment was given
    segment_at : (n : ℕ) → IsNode n → has_segment (node_of h n) ≡ true → 1 ≤ (node_of h n).next_segment
    segment_at n is has =
        let s : NodeState = node_of h n in
        let so : AttemptsSo heeds n past h m.clock m.clock = ground.counts n is.0 is.1 in
        let runs : s.series ≡ Running = segment_runs s.series s refl (host.nodes.facts n).series has in
        let less = ltb-true s.next_segment s.segments has in
        let some : 1 ≤ s.segments = omega (arith, less) in
        let least = (so.node.sent runs).some in
        let given = ((so.node.sent runs).segments some).0 in
        omega (arith, least, given)

    segment_goes : (n : ℕ) (more : Bool) (payload : List ℕ) (told : List Entry) → MayAll h (Gives_segment n more payload ∷ []) → ReadsAs h (Attempt n more payload)
        → AreTold (outs h (Gives_segment n more payload)) told → IsNumbered m told → AtRest key taken from (past ++ told) (done m (Gives_segment n more payload))
    segment_goes n more payload told may read are numbered =
        let served : IsNode n = served_is_node h n may.0.0.next in
        let free : IsFree h = may.0.0.free in
        let none : h.requests.queue ≡ [] = may.0.0.no_task in
        let has : has_segment (node_of h n) ≡ true = may.0.4 in
        let goes : goes_on payload ≡ true =
        segments_go h host (node_of h n) (open_session (node_of h n).book) (node_of h n).next_segment payload (segment_at n served has) may.0.2 in
        submits (Gives_segment n more payload) (Attempt n more payload) told are numbered free read (part_fits n more payload served free none read) refl
        (λ marks all awaits time course books.
        segment_sent key taken past (past ++ entry.Written Host (unit_of (Attempt n more payload)) ∷ marks) h course books n (here n more payload served free none read marks all awaits time) served
        (unit_of (Attempt n more payload)) (part_late n more payload served free none read marks all awaits time) more payload
        (open_other h (node_of h n) (open_session (node_of h n).book) (node_of h n).next_segment payload may.0.2)
        (segment_late n more payload served free none read marks all awaits time has goes) (part_carried n more payload served free none read marks all awaits time))

    pub requests_go : PayloadsBring → (event : HostEvent) (told : List Entry) → IsRequest event → IsNext h event → MayAll h (event ∷ []) → AreTold (outs h event) told → IsNumbered m told
        → AtRest key taken from (past ++ told) (done m event)
    requests_go brings event told is next may are numbered = by event is next may are (event_is_read brings h event host may.0 request_ground.1.0)
      where
        by : (event : HostEvent) → IsRequest event → IsNext h event → MayAll h (event ∷ []) → AreTold (outs h event) told → IsRead h event → AtRest key taken from (past ++ told) (done m event)
        by Submits_abort is next may are read = abort_goes told next read are numbered
        by Submits_front is next may are read = front_goes told next may.0.2 read request_ground.1.0 are numbered
        by (Starts n plan more payload) is next may are read = starts_goes n plan more payload told may read are numbered
        by (Gives_text n payload) is next may are read = text_goes n payload told may read are numbered
        by (Gives_segment n more payload) is next may are read = segment_goes n more payload told may read are numbered
        by event is next may are read = absurd is
