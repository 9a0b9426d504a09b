-- What is known of what waits goes on in a pump: with each node that is let sleep, each request that is submitted and each session that begins, and where it begins and ends.
use Rattle.std.proofs.Common.{◌≡◌, ◌≤◌, ◌<◌, ℕ, ◌+◌, ◌-◌, ◌==◌, ◌&&◌, ◌||◌, not, Bool, true, false, if◌then◌else◌, inl, inr, length, List, [], ◌∷◌, ◌++◌, map, refl, sym, ap, ap₂, ◌∙◌, subst, append-nil, arith}
use Rattle.std.specs.Prelude.{Some, None, nat_le}
use Rattle.std.specs.List.{AllByRecursion, flat_map, list_any}
use Rattle.std.proofs.lemmas.Bool.{both_ways}
use Rattle.zw_base.proofs.Each.{all-weaker}
use Rattle.serial_frame.specs.Frame.{FrameParts}
use Rattle.serial_frame.specs.Items.{unit_text}
use Rattle.serial_frame.specs.declared.unit.Unit.TheVariants.{Framed}
use Rattle.chip_functions.specs.declared.request.Request.{Request}
use Rattle.zw_words.specs.declared.side.Side.TheVariants.{Host}
use Rattle.zw_text.specs.declared.entry.Entry.{Entry}
use Rattle.zw_text.specs.declared.entry.Entry.TheVariants as entry
use Rattle.zw_text.specs.Transcript.{wakings}
use Rattle.host_heard.specs.declared.told.Told.{Told}
use Rattle.law_transcript.specs.Units.{Carried, request_in, sending_of}
use Rattle.law_time.specs.Moments.{clock}
use Rattle.law_time.specs.Requests.{are_none, asked, responses}
use Rattle.law_time.specs.Ends.{is_abort, is_abort_frame, is_sending, owes_abort as law_owes_abort, silence}
use Rattle.law_time.specs.Queue.{Queue, queue_before}
use Rattle.host_requests.specs.Frames.{frame_of, request_of}
use Rattle.host_requests.specs.State.{next_id}
use Rattle.host_requests.specs.declared.task.Purpose.{Purpose}
use Rattle.host_requests.specs.declared.task.Purpose.TheVariants.{Attempt, Abort}
use Rattle.host_requests.specs.declared.task.Task.{Task}
use Rattle.host_node.specs.Search.{first_wanting}
use Rattle.host_node.specs.State.{NodeState}
use Rattle.host_node.specs.Events.NodeEvent.{Blocks}
use Rattle.host_node.specs.Events.{after as after_node}
use Rattle.host_model.specs.State.{HostState, node_of}
use Rattle.host_model.specs.After.{after, is_full, task_purpose}
use Rattle.host_model.specs.May.{IsFree}
use Rattle.host_model.specs.Did.{MayAll}
use Rattle.host_model.specs.Events.{HostEvent, Begins, Begin_unkept, Drops_no_more, Gives_segment, Gives_text, Queues_no_more, Starts, Submits_abort, Submits_front}
use Rattle.host_model.specs.Outs.{outs}
use Rattle.host_model.specs.Pumping.{IsNext, no_more_event}
use Rattle.host_model.specs.declared.out.HostOut.{HostOut}
use Rattle.host_model.specs.declared.out.HostOut.TheVariants.{Write}
use Rattle.host_model.proofs.Submitted.{next_is}
use Rattle.proof_attempts.specs.proof_requests.law_host.Heard.{heeds_alone}
use Rattle.proof_attempts.specs.proof_requests.proof_alone.State.{HostMachine, done}
use Rattle.proof_attempts.specs.proof_requests.proof_alone.Steps.{AreTold, IsOfUnit}
use Rattle.proof_attempts.specs.proof_requests.proof_alone.Phases.{Open, Sleeping, Submitting, Resting, IsNumbered}
use Rattle.proof_attempts.specs.proof_requests.proof_alone.Careful.{Stage, Fresh, Reading, Read, Looked, Judging, stage_pumped}
use Rattle.proof_attempts.specs.proof_requests.Asking.{Leaving, doing_of}
use Rattle.proof_attempts.specs.proof_requests.Walking.{Ground, IsRead, IsTied, ReadsAs}
use Rattle.proof_attempts.proofs.Doings.{node_after}
use Rattle.proof_attempts.proofs.Ending.{told_of_host}
use Rattle.proof_attempts.proofs.Queued.{PayloadsBring}
use Rattle.proof_attempts.proofs.Stepping.{IsSubmission, event_is_read, not_awaiting, submissions, time_told}
use Rattle.proof_attempts.proofs.Walking.{is_fresh, written_told}
use Rattle.proof_queue.specs.Sleeping.{full_for, is_dropped, slept, wanting}
use Rattle.proof_queue.specs.Turn.{is_first_waiting, may_ask, may_go}
use Rattle.proof_queue.specs.Waiting.{Fits, want_of_task}
use Rattle.proof_queue.proofs.Books.{no_line}
use Rattle.proof_queue.proofs.Closing.{close_raw, lets_raw, lets_since, owed_then}
use Rattle.proof_queue.proofs.Dropping.{IsNoPump, event_drops}
use Rattle.proof_queue.proofs.Frames.{frame_raw, less_first, marked_raw, new_looks}
use Rattle.proof_queue.proofs.Knowing.{Know, Pre, Pumps, RawM, UptoM}
use Rattle.proof_queue.proofs.Loose.{Still, and_true, loose_upto, mark_still, still_wakes}
use Rattle.proof_queue.proofs.Noted.{full_upto}
use Rattle.proof_queue.proofs.Pumped.{would_sleep}
use Rattle.proof_queue.proofs.Seeing.{View}
use Rattle.proof_queue.proofs.Sleeps.{Stands, drops_of, none_wants, same_would, sleeps_on}
use Rattle.proof_queue.proofs.Stills.{empty_left, first_waits, front_left, front_no_abort, left_by}
use Rattle.proof_queue.proofs.Ties.{Raw, Stand, Upto, allowed, before_seen, one_more, raw, same_drops, seen}

module _ (taken : List Entry → Carried → List Told) where
  -- ---- where a pump begins

  module _ (past : List Entry) (m : HostMachine) (sees : View past m.clock m.state m.awaits) where
    from_raw : RawM taken past m → Pumps taken past m
    from_raw (now, ties) = (lets_raw taken past m.clock m.state m.awaits sees now ties, λ awaits. absurd (both_ways m.awaits now awaits))

    from_upto : UptoM taken past m → Pumps taken past m
    from_upto ties = (
      lets_since taken past m.clock m.state m.awaits sees m.clock (omega arith) (omega arith) ties,
      λ awaits. owed_then taken past (m.clock - 1) m.clock m.state.requests.queue (drops_of m.state) (omega arith) ties,
    )

    from_pre : Pre taken past m → Pumps taken past m
    from_pre (inl raw_so) = from_raw raw_so
    from_pre (inr (awaits, (before, next, ties))) = (
      lets_since taken past m.clock m.state m.awaits sees before (omega (arith, next)) (omega (arith, next)) ties,
      λ is. ap (λ (t : ℕ). (seen taken t past).owed) (let same : m.clock - 1 ≡ before = omega (arith, next) in same) ∙ ties.stands.owed_are,
    )

    pub pump_begins : (stage : Stage) → Know taken Open stage past m → Know taken Sleeping (stage_pumped stage) past m
    pump_begins Fresh known = from_pre known
    pump_begins Reading known = from_raw known
    pump_begins Read known = from_upto known
    pump_begins Looked known = from_upto known
    pump_begins Judging (inl (ties, first)) = from_upto ties
    pump_begins Judging (inr (raw_so, gone)) = from_raw raw_so

  -- where all sleep it submits
  pub pump_goes_on : (stage : Stage) (past : List Entry) (m : HostMachine) → first_wanting m.state.nodes ≡ None → Know taken Sleeping stage past m → Know taken Submitting stage past m
  pump_goes_on stage past m none known = by stage known
    where
      all : Pumps taken past m → UptoM taken past m
      all (ties, owed) = subst (λ (nodes : List ℕ). Upto taken m.clock past (slept m.state nodes).requests.queue (full_for m.state nodes) (drops_of (slept m.state nodes))) (none_wants m.state none) ties

      by : (stage : Stage) → Know taken Sleeping stage past m → Know taken Submitting stage past m
      by Read pumps = all pumps
      by Looked pumps = all pumps
      by stage never = absurd never

  pub submitted : (stage : Stage) (past : List Entry) (m : HostMachine) → Know taken Submitting stage past m → UptoM taken past m
  submitted Read past m known = known
  submitted Looked past m known = known
  submitted stage past m known = absurd known

  pub pump_ends : (stage : Stage) (past : List Entry) (m : HostMachine) → Know taken Submitting stage past m → Know taken Resting stage past m
  pump_ends Read past m known = known
  pump_ends Looked past m known = known
  pump_ends stage past m known = absurd known

  -- ---- a node is let sleep

  module _ (past : List Entry) (m : HostMachine) (n : ℕ) (told : List Entry) (wants : first_wanting m.state.nodes ≡ Some n) (is : AreTold (outs m.state (no_more_event m.state n)) told) (numbered : IsNumbered m told)
      (sees : View past m.clock m.state m.awaits) (after_it : View (past ++ told) m.clock (after m.state (no_more_event m.state n)) m.awaits) where
    abbrev h : HostState
    h = m.state

    abbrev g : HostState
    g = after h (no_more_event h n)

    places : length h.nodes ≡ 233
    places = sees.work.host.nodes.places

    abbrev LetsOn : List Entry → List ℕ → Type 0
    LetsOn all owes = Upto taken m.clock all (slept g (wanting g)).requests.queue owes (drops_of (slept g (wanting g)))

    sleeps : Pumps taken past m → Stand taken past told × Pumps taken (past ++ told) (done m (no_more_event h n))
    sleeps (ties, owed) = by (is_full h) refl
      where
        on : LetsOn past ((if is_full h then n ∷ [] else []) ++ full_for g (wanting g))
        on =
            let more = sleeps_on h n places wants in
            subst (λ (s : HostState). Upto taken m.clock past s.requests.queue ((if is_full h then n ∷ [] else []) ++ full_for g (wanting g)) (drops_of s)) more.0
            (subst (λ (l : List ℕ). Upto taken m.clock past (slept h (wanting h)).requests.queue l (drops_of (slept h (wanting h)))) more.1 ties)

        -- nothing is told, or that it was dropped
        silent : told ≡ [] → LetsOn past (full_for g (wanting g)) → Stand taken past told × Pumps taken (past ++ told) (done m (no_more_event h n))
        silent none lets =
            subst (λ (l : List Entry). Stand taken past l × Pumps taken (past ++ l) (done m (no_more_event h n))) (sym none) (
              tt,
              subst (λ (l : List Entry). Pumps taken l (done m (no_more_event h n))) (sym (append-nil past)) (lets, owed),
            )

        noted : told ≡ entry.QueueFull n ∷ [] → is_full h ≡ true → LetsOn past (n ∷ full_for g (wanting g)) → Stand taken past told × Pumps taken (past ++ told) (done m (no_more_event h n))
        noted are full lets =
            let now : m.awaits ≡ false = not_awaiting m.awaits (entry.QueueFull n) told [] numbered are in
            let later : View (past ++ entry.QueueFull n ∷ []) m.clock g m.awaits = subst (λ (l : List Entry). View (past ++ l) m.clock g m.awaits) are after_it in
            let goes = full_upto taken past n (full_for g (wanting g)) m.clock h g (slept g (wanting g)).requests.queue (drops_of (slept g (wanting g)))
            (λ k. same_would h n k places wants) sees.may later.may (sees.now now) (later.now now) lets in
            subst (λ (l : List Entry). Stand taken past l × Pumps taken (past ++ l) (done m (no_more_event h n))) (sym are) (
              (goes.0, tt),
              (goes.1, λ awaits. absurd (both_ways m.awaits now awaits)),
            )

        by : (b : Bool) → is_full h ≡ b → Stand taken past told × Pumps taken (past ++ told) (done m (no_more_event h n))
        by true full =
            let tells : AreTold (outs h (Drops_no_more n)) told = subst (λ (b : Bool). AreTold (outs h (if b then Drops_no_more n else Queues_no_more n)) told) full is in
            let (rest, are, none) = tells in
            noted (are ∙ ap (λ (l : List Entry). entry.QueueFull n ∷ l) none) full (subst (λ (b : Bool). LetsOn past ((if b then n ∷ [] else []) ++ full_for g (wanting g))) full on)
        by false room =
            silent (subst (λ (b : Bool). AreTold (outs h (if b then Drops_no_more n else Queues_no_more n)) told) room is)
            (subst (λ (b : Bool). LetsOn past ((if b then n ∷ [] else []) ++ full_for g (wanting g))) room on)

    pub lets_sleep : (stage : Stage) → Know taken Sleeping stage past m → Stand taken past told × Know taken Sleeping stage (past ++ told) (done m (no_more_event m.state n))
    lets_sleep Read known = sleeps known
    lets_sleep Looked known = sleeps known
    lets_sleep stage known = absurd known

  -- ---- what is submitted

  module _ (brings : PayloadsBring) (past told : List Entry) (m : HostMachine) (numbered : IsNumbered m told) (ground : Ground Submitting past m) (tie : IsTied past m)
      (sees : View past m.clock m.state m.awaits) (ties : UptoM taken past m) where
    abbrev id : ℕ
    id = next_id m.state.requests.last_id

    abbrev queue : List Task
    queue = m.state.requests.queue

    now_so : (e : Entry) (more : List Entry) → told ≡ e ∷ more → m.awaits ≡ false
    now_so e more are = not_awaiting m.awaits e told more numbered are

    -- an abort is owed by the transcript where the host owes one
    owes_is : (e : Entry) (more : List Entry) → told ≡ e ∷ more → IsFree m.state → law_owes_abort (asked past) (clock past) ≡ m.state.requests.owes
    owes_is e more are free = ap (λ (t : ℕ). law_owes_abort (asked past) t) (time_told Submitting past told m ground numbered e more are) ∙ by tie
      where
        by : IsTied past m → law_owes_abort (asked past) m.clock ≡ m.state.requests.owes
        by (inl none) =
            ap (λ (u : List ℕ). list_any is_sending (request_in u)
            && list_any (λ tick. nat_le tick m.clock && list_any (λ one. one.tick + 65 == tick) (responses (asked past))) (silence (asked past))) none.unasked
            ∙ sym (ap (λ (l : Leaving). l.owes) none.paid)
        by (inr (was, asks)) = (told_of_host past m.clock m.came (doing_of m.state) tie).owed was free.none_under_way

    or_none : (b : Bool) → (b || false) ≡ b
    or_none true = refl
    or_none false = refl

    aborts_as : (purpose : Purpose) → ReadsAs m.state purpose → is_abort_frame (unit_text (Framed (frame_of purpose id))) ≡ is_abort (request_of purpose id)
    aborts_as purpose read = ap (λ (l : List Request). list_any is_abort l) read ∙ or_none (is_abort (request_of purpose id))

    -- so a request is in its turn
    abbrev InTurn : Purpose → Type 0
    InTurn purpose = (wants : List (List ℕ)) → wants ≡ map want_of_task queue → may_ask m.state.requests.owes (unit_text (Framed (frame_of purpose id))) wants ≡ true

    abort_turn : m.state.requests.owes ≡ true → ReadsAs m.state Abort → InTurn Abort
    abort_turn owes read wants are = ap (λ (o : Bool). may_ask o (unit_text (Framed (frame_of Abort id))) wants) owes ∙ aborts_as Abort read

    front_turn : m.state.requests.owes ≡ false → (queue ≡ [] → ⊥) → ReadsAs m.state (task_purpose queue) → InTurn (task_purpose queue)
    front_turn paid some read wants are =
        let unit : List ℕ = unit_text (Framed (frame_of (task_purpose queue) id)) in
        ap (λ (o : Bool). may_ask o unit wants) paid ∙ ap (λ (b : Bool). not b && is_first_waiting unit wants) (aborts_as (task_purpose queue) read ∙ front_no_abort queue id some)
        ∙ ap (λ (w : List (List ℕ)). is_first_waiting unit w) are ∙ first_waits queue id unit some read

    attempt_turn : (n : ℕ) (more : Bool) (payload : List ℕ) → m.state.requests.owes ≡ false → queue ≡ [] → ReadsAs m.state (Attempt n more payload) → InTurn (Attempt n more payload)
    attempt_turn n more payload paid none read wants are =
        let unit : List ℕ = unit_text (Framed (frame_of (Attempt n more payload) id)) in
        ap (λ (o : Bool). may_ask o unit wants) paid ∙ ap (λ (b : Bool). not b && is_first_waiting unit wants) (aborts_as (Attempt n more payload) read)
        ∙ ap (λ (w : List (List ℕ)). is_first_waiting unit w) (are ∙ ap (λ (l : List Task). map want_of_task l) none)
        ∙ ap (λ (l : List Request). not (are_none (flat_map sending_of l))) read

    -- after it none is to sleep
    module _ (event : HostEvent) (no_pump : IsNoPump event) (is : AreTold (outs m.state event) told) (after_it : View (past ++ told) m.clock (after m.state event) m.awaits)
        (none : wanting (after m.state event) ≡ []) where
      abbrev host_then : HostState
      host_then = after m.state event

      abbrev Goes : Type 0
      Goes = Stand taken past told × Upto taken m.clock (past ++ told) host_then.requests.queue [] (drops_of host_then)

      -- one entry at which the host looks, and what became of it
      looked_goes : (e : Entry) (marks : List Entry) → told ≡ e ∷ marks → AllByRecursion IsOfUnit marks → ((n : ℕ) → wakings n (e ∷ marks) ≡ [])
          → Fits (heeds_alone taken) past e × Raw taken (past ++ e ∷ []) host_then.requests.queue [] (drops_of m.state) → Goes
      looked_goes e marks are all silent (fits, raw_so) =
          let marked = marked_raw taken past e marks host_then.requests.queue [] (drops_of m.state) all fits raw_so in
          let tied : Raw taken (past ++ told) host_then.requests.queue [] (drops_of m.state) = subst (λ (l : List Entry). Raw taken (past ++ l) host_then.requests.queue [] (drops_of m.state)) (sym are) marked.1 in (
            subst (λ (l : List Entry). Stand taken past l) (sym are) marked.0,
            close_raw taken (past ++ told) m.clock host_then m.awaits after_it none (now_so e marks are)
                (record {
                  stands = same_drops (raw taken (past ++ told)) host_then.requests.queue [] (drops_of m.state) (drops_of host_then)
                      (λ n from to.
                      and_true (drops_of m.state n) ∙ sym (ap (λ (l : List Bool). drops_of m.state n && are_none l) (ap (λ (l : List Entry). wakings n l) are ∙ silent n))
                      ∙ sym (event_drops m.state event told sees.work no_pump is n from to)) tied.stands;
                  answered = tied.answered;
                }),
          )

      -- what waits before it
      looks_so : (e : Entry) (more : List Entry) → told ≡ e ∷ more → queue_before (heeds_alone taken) past e ≡ seen taken m.clock past → Stands (queue_before (heeds_alone taken) past e) queue [] (drops_of m.state)
      looks_so e more are before = subst (λ (q : Queue). Stands q queue [] (drops_of m.state)) (sym before) ties.stands

      request_goes : (purpose : Purpose) → IsFree m.state → outs m.state event ≡ Write (Framed (frame_of purpose id)) ∷ [] → ReadsAs m.state purpose
          → host_then.requests.queue ≡ left_by (is_abort (request_of purpose id)) queue → InTurn purpose → Goes
      request_goes purpose free puts read left turn =
          let f : FrameParts = frame_of purpose id in
          let wrote = written_told f told (subst (λ (l : List HostOut). AreTold l told) puts is) in
          let unit : Entry = entry.Written Host (unit_text (Framed f)) in
          let fresh = is_fresh past m.clock m.came (doing_of m.state) f free.free_line tie in
          let before : queue_before (heeds_alone taken) past unit ≡ seen taken m.clock past
          = before_seen taken past unit m.clock (new_looks taken past f fresh) (sees.now (now_so unit wrote.rest wrote.are)) in
          let stands = looks_so unit wrote.rest wrote.are before in
          let goes : may_go (heeds_alone taken) past unit ≡ true =
          ap (λ (b : Bool). not b || may_ask (law_owes_abort (asked past) (clock past)) (unit_text (Framed f)) (queue_before (heeds_alone taken) past unit).wants) fresh
          ∙ ap (λ (o : Bool). may_ask o (unit_text (Framed f)) (queue_before (heeds_alone taken) past unit).wants) (owes_is unit wrote.rest wrote.are free)
          ∙ turn (queue_before (heeds_alone taken) past unit).wants stands.wants_are in
          let one = frame_raw taken past f true (is_abort (request_of purpose id)) queue (drops_of m.state) fresh (aborts_as purpose read) ties.answered goes stands in
          looked_goes unit wrote.rest wrote.are wrote.marks (λ n. still_wakes n wrote.rest (all-weaker IsOfUnit Still mark_still wrote.rest wrote.marks))
          (one.0, subst (λ (q : List Task). Raw taken (past ++ unit ∷ []) q [] (drops_of m.state)) (same_left (is_abort (request_of purpose id)) queue ∙ sym left) one.1)
        where
          same_left : (b : Bool) (tasks : List Task) → less_first (true && not b) tasks ≡ left_by b tasks
          same_left true tasks = refl
          same_left false tasks = refl

      -- a session begins where nothing waits
      begin_goes : (n session command : ℕ) → IsFree m.state → m.state.requests.owes ≡ false → queue ≡ [] → told ≡ entry.Begin n session command ∷ [] → host_then.requests.queue ≡ queue → Goes
      begin_goes n session command free paid empty are same =
          let begun : Entry = entry.Begin n session command in
          let before : queue_before (heeds_alone taken) past begun ≡ seen taken m.clock past = before_seen taken past begun m.clock refl (sees.now (now_so begun [] are)) in
          let stands = looks_so begun [] are before in
          looked_goes begun [] are tt (λ n. refl) (
            record {
              queues = inr (allowed taken past begun ties.answered stands.owed_are);
              goes = ap₂ (λ (o : Bool) (w : List (List ℕ)). not o && are_none w) (owes_is begun [] are free ∙ paid) (stands.wants_are ∙ ap (λ (l : List Task). map want_of_task l) empty);
            },
            record {
              stands = subst (λ (k : Queue). Stands k host_then.requests.queue [] (drops_of m.state)) (sym (one_more taken past begun refl))
                  (subst (λ (t : List Task). Stands (queue_before (heeds_alone taken) past begun) t [] (drops_of m.state)) (sym same) stands);
              answered = no_line (heeds_alone taken) past begun refl;
            },
          )

    -- one that is not kept changes nothing that is looked at
    unkept_goes : (n : ℕ) → AreTold (outs m.state (Begin_unkept n)) told → View (past ++ told) m.clock (after m.state (Begin_unkept n)) m.awaits
        → Stand taken past told × Upto taken m.clock (past ++ told) queue [] (drops_of (after m.state (Begin_unkept n)))
    unkept_goes n (rest, is, none_more) after_it =
        let are : told ≡ entry.Unkept n ∷ [] = is ∙ ap (λ (l : List Entry). entry.Unkept n ∷ l) none_more in
        let now : m.awaits ≡ false = now_so (entry.Unkept n) [] are in
        let later : View (past ++ entry.Unkept n ∷ []) m.clock (after m.state (Begin_unkept n)) m.awaits
        = subst (λ (l : List Entry). View (past ++ l) m.clock (after m.state (Begin_unkept n)) m.awaits) are after_it in
        let goes = loose_upto taken past (entry.Unkept n ∷ []) m.clock m.state (after m.state (Begin_unkept n)) queue (drops_of m.state) same (tt, tt) sees.may later.may (sees.now now) (later.now now) ties in
        subst (λ (l : List Entry). Stand taken past l × Upto taken m.clock (past ++ l) queue [] (drops_of (after m.state (Begin_unkept n)))) (sym are) (
          goes.0,
          record {
            stands = same_drops (seen taken m.clock (past ++ entry.Unkept n ∷ [])) queue [] (drops_of m.state) (drops_of (after m.state (Begin_unkept n))) drops goes.1.stands;
            answered = goes.1.answered;
          },
        )
      where
        node_so : (P : NodeState → Type 0) (k : ℕ) → k < length m.state.nodes → P (node_of m.state k) → P (after_node (node_of m.state k) Blocks) → P (node_of (after m.state (Begin_unkept n)) k)
        node_so P k within it blocked = subst P (sym (node_after m.state (Begin_unkept n) k within)) (by (n == k))
          where
            by : (b : Bool) → P (if b then after_node (node_of m.state k) Blocks else node_of m.state k)
            by true = blocked
            by false = it

        same : (k : ℕ) → 1 ≤ k → k ≤ 232 → would_sleep (node_of (after m.state (Begin_unkept n)) k) ≡ would_sleep (node_of m.state k)
        same k from to =
            node_so (λ (s : NodeState). would_sleep s ≡ would_sleep (node_of m.state k)) k (let places = sees.work.host.nodes.places in omega (arith, places, to)) refl refl

        drops : (k : ℕ) → 1 ≤ k → k ≤ 232 → drops_of m.state k ≡ drops_of (after m.state (Begin_unkept n)) k
        drops k from to =
            node_so (λ (s : NodeState). drops_of m.state k ≡ is_dropped s.no_more) k (let places = sees.work.host.nodes.places in omega (arith, places, to)) refl refl

    submit_goes : (event : HostEvent) → IsSubmission event → IsNext m.state event → MayAll m.state (event ∷ []) → AreTold (outs m.state event) told
        → View (past ++ told) m.clock (after m.state event) m.awaits → wanting (after m.state event) ≡ []
        → Stand taken past told × Upto taken m.clock (past ++ told) (after m.state event).requests.queue [] (drops_of (after m.state event))
    submit_goes event sub next may is after_it none = by event sub next may is after_it none (event_is_read brings m.state event ground.0.0.0.0.0.facts.host may.0 ground.1.0)
      where
        by : (event : HostEvent) → IsSubmission event → IsNext m.state event → MayAll m.state (event ∷ []) → AreTold (outs m.state event) told
            → View (past ++ told) m.clock (after m.state event) m.awaits → wanting (after m.state event) ≡ [] → IsRead m.state event
            → Stand taken past told × Upto taken m.clock (past ++ told) (after m.state event).requests.queue [] (drops_of (after m.state event))
        by Submits_abort sub next may is after_it none read = request_goes Submits_abort tt is after_it none Abort next.0 refl read refl (abort_turn may.0.1 read)
        by Submits_front sub next may is after_it none read =
            request_goes Submits_front tt is after_it none (task_purpose m.state.requests.queue) next.0 refl read (front_left m.state.requests m.state.requests.queue id refl)
            (front_turn may.0.1 may.0.2 read)
        by (Starts n plan more payload) sub next may is after_it none read =
            request_goes (Starts n plan more payload) tt is after_it none (Attempt n more payload) next.0 refl read (empty_left m.state.requests.queue may.0.0.no_task)
            (attempt_turn n more payload may.0.0.paid may.0.0.no_task read)
        by (Gives_text n payload) sub next may is after_it none read =
            request_goes (Gives_text n payload) tt is after_it none (Attempt n false payload) next.0 refl read (empty_left m.state.requests.queue may.0.0.no_task)
            (attempt_turn n false payload may.0.0.paid may.0.0.no_task read)
        by (Gives_segment n more payload) sub next may is after_it none read =
            request_goes (Gives_segment n more payload) tt is after_it none (Attempt n more payload) next.0 refl read (empty_left m.state.requests.queue may.0.0.no_task)
            (attempt_turn n more payload may.0.0.paid may.0.0.no_task read)
        by (Begins n session command) sub next may (rest, is, none_more) after_it none read =
            begin_goes (Begins n session command) tt (rest, is, none_more) after_it none n session command next.0 may.0.0.paid may.0.0.no_task
            (is ∙ ap (λ (l : List Entry). entry.Begin n session command ∷ l) none_more) refl
        by (Begin_unkept n) sub next may is after_it none read = unkept_goes n is after_it
        by event sub next may is after_it none read = absurd sub

  pub submits : PayloadsBring → (stage : Stage) (past told : List Entry) (m : HostMachine) (event : HostEvent) → IsNumbered m told → Ground Submitting past m → IsTied past m → View past m.clock m.state m.awaits
      → IsNext m.state event → MayAll m.state (event ∷ []) → AreTold (outs m.state event) told → View (past ++ told) m.clock (after m.state event) m.awaits → wanting (after m.state event) ≡ []
      → Know taken Submitting stage past m → Stand taken past told × Know taken Submitting stage (past ++ told) (done m event)
  submits brings Read past told m event numbered ground tie sees next may is after_it none known =
      submit_goes brings past told m numbered ground tie sees known event (next_is IsSubmission submissions m.state event next) next may is after_it none
  submits brings Looked past told m event numbered ground tie sees next may is after_it none known =
      submit_goes brings past told m numbered ground tie sees known event (next_is IsSubmission submissions m.state event next) next may is after_it none
  submits brings stage past told m event numbered ground tie sees next may is after_it none known = absurd known
