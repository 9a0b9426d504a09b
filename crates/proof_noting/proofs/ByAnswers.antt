-- An answer of the chip is judged, or what is refused: what comes of it in the course, which follows the host once the event behind it is gone.
use Rattle.std.specs.Prelude.{◌≤◌, is_none, nat_le, ◌<◌, length}
use Rattle.std.specs.List.{AllByRecursion, flat_map, list_any}
use Rattle.std.proofs.Common.{◌≡◌, ◌⊎◌, ℕ, ◌==◌, ◌&&◌, not, Bool, true, false, if◌then◌else◌, inl, inr, List, [], ◌∷◌, ◌++◌, Option, Some, None, refl, sym, ap, ap₂, ◌∙◌, subst, append-nil, arith}
use Rattle.std.proofs.lemmas.Bool.{le-leb, or_left, eq-eqb, le-ltb}
use Rattle.serial_frame.specs.declared.item.Item.TheVariants.{Good}
use Rattle.serial_frame.specs.declared.unit.Unit.{Unit as LineUnit}
use Rattle.serial_link.specs.State.{turn_refused}
use Rattle.serial_link.specs.declared.turn.Turn.{Turn}
use Rattle.serial_link.specs.declared.turn.Turn.TheVariants.{Copied, Idle, Paused}
use Rattle.s0_crypto.specs.Sealing.{keys_of}
use Rattle.chip_functions.specs.Field.{IsNode}
use Rattle.chip_functions.specs.declared.request.Request.{Request}
use Rattle.zw_words.specs.declared.side.Side.TheVariants.{Host}
use Rattle.zw_text.specs.declared.entry.Done.TheVariants as done_how
use Rattle.zw_text.specs.declared.entry.Entry.{Entry}
use Rattle.zw_text.specs.declared.entry.Entry.TheVariants as entry
use Rattle.host_heard.specs.declared.told.Told.{Told}
use Rattle.law_transcript.specs.Units.{Carried, sending_of}
use Rattle.law_time.specs.Heeds.{Heeds}
use Rattle.law_time.specs.Judged.{acknowledged, is_acknowledgement}
use Rattle.law_time.specs.Moments.{clock}
use Rattle.law_time.specs.Requests.{are_none, asked, failing, request_last, Failing, judged_since}
use Rattle.law_time.specs.Ends.{ending_among}
use Rattle.host_requests.specs.Events.{RequestsEvent, end_at}
use Rattle.host_requests.specs.Events.RequestsEvent.{Fails, IsSent}
use Rattle.host_requests.specs.Frames.{request_of}
use Rattle.host_requests.specs.Next.{at_sent, end_from, end_of, sent_from}
use Rattle.host_requests.specs.declared.end.End.{End}
use Rattle.host_requests.specs.declared.end.How.TheVariants.{AbortSent, LinkFailed}
use Rattle.host_requests.specs.declared.next.Next.{Next}
use Rattle.host_requests.specs.declared.next.Next.TheVariants.{Ends, GoesOn}
use Rattle.host_requests.specs.declared.task.Task.TheVariants.{NoMore, Plain, Second}
use Rattle.host_requests.specs.declared.task.Purpose.{Purpose}
use Rattle.host_requests.specs.declared.task.Purpose.TheVariants.{Abort, Attempt, Housekeeping}
use Rattle.host_requests.specs.declared.under_way.Progress.{Progress}
use Rattle.host_requests.specs.declared.under_way.Progress.TheVariants.{Answered, Sent, Submitted}
use Rattle.host_requests.specs.declared.under_way.UnderWay.{UnderWay}
use Rattle.host_node.specs.State.{NodeState}
use Rattle.host_node.specs.Steps.{after_no_more, falls_asleep, after_no_more_end}
use Rattle.host_node.specs.declared.attempt.Moment.TheVariants.{BetweenTicks}
use Rattle.host_node.specs.declared.no_more.NoMore.TheVariants.{Unasked}
use Rattle.host_model.specs.State.{Command, HostState, node_of}
use Rattle.host_model.specs.After.{after, gives_up, requests_do}
use Rattle.host_model.specs.Ends.{after_end_if, end_entries_if, part_end, Bad, Good as part_good, asleep_entry}
use Rattle.host_model.specs.Events.{HostEvent, Hears, Requests_do}
use Rattle.host_model.specs.Facts.{HostFacts}
use Rattle.host_model.specs.Outs.{noted, outs, request_entries}
use Rattle.host_model.specs.Taking.{told_requests}
use Rattle.proof_host.specs.Tables.{taken_at}
use Rattle.proof_hearing.specs.proof_nonces.proof_attempts.Since.{AlongRuns, KnowsSince}
use Rattle.proof_hearing.proofs.Doings.{does_at, end_does, node_after, purpose_does}
use Rattle.proof_hearing.proofs.Holding.{clock_now}
use Rattle.proof_hearing.proofs.EndsLate.{denied_here}
use Rattle.proof_hearing.proofs.OnLine.{was_denied}
use Rattle.proof_hearing.proofs.ReadyTie.{asked_of, facts_of, ground_of}
use Rattle.proof_hearing.specs.Books.{BooksSo, nonces_to}
use Rattle.proof_hearing.specs.Hearing.{choosing}
use Rattle.proof_hearing.specs.proof_queue.proof_attempts.proof_requests.Asking.{TieAsked, TieLine, doing_from, doing_next, doing_of, to_come, TieUnderWay}
use Rattle.proof_hearing.specs.proof_queue.proof_attempts.proof_requests.Ends.{GivenUp, next_at}
use Rattle.proof_hearing.specs.proof_queue.proof_attempts.proof_requests.Standing.{standing_of}
use Rattle.proof_hearing.specs.proof_queue.proof_attempts.proof_requests.law_host.Course.{Course, each_in_turn}
use Rattle.proof_hearing.specs.proof_queue.proof_attempts.proof_requests.law_host.Following.{comes_to, course_after, has_heard, has_ticked, is_note, is_of_host, is_before_host}
use Rattle.proof_hearing.specs.proof_queue.proof_attempts.proof_requests.law_host.Heard.{heeds_alone}
use Rattle.proof_hearing.specs.proof_queue.proof_attempts.proof_requests.law_host.HostLegal.{IsHeeded}
use Rattle.proof_hearing.specs.proof_queue.proof_attempts.proof_requests.law_host.Ticks.{denies, is_denied, ticks}
use Rattle.proof_hearing.specs.proof_queue.proof_attempts.proof_requests.proof_alone.State.{HostMachine, done}
use Rattle.proof_hearing.specs.proof_queue.proof_attempts.proof_requests.proof_alone.Steps.{AreFrames, Judges, IsFramed}
use Rattle.proof_hearing.specs.proof_queue.proof_attempts.proof_requests.proof_alone.Phases.{Behind, IsJudgedNow, Open, Phase}
use Rattle.proof_hearing.specs.proof_queue.proof_attempts.proof_requests.law_host.Ends.{ends_sealing}
use Rattle.proof_hearing.specs.proof_queue.proof_attempts.proof_work.Doing.{IsTold}
use Rattle.proof_hearing.proofs.Alike.{same_alike}
use Rattle.proof_hearing.proofs.BooksGo.{books_on}
use Rattle.proof_hearing.proofs.proof_requests_Ended.{denied_fails}
use Rattle.proof_hearing.specs.proof_choice.proof_following.Ended.{AreGone, EndingOf, noted_by, outcome_entries, sent_by, rest_of, sleep_entries}
use Rattle.proof_hearing.specs.proof_choice.proof_following.Quiet.{ended_silently}
use Rattle.proof_hearing.specs.proof_choice.proof_ends.Ends.{errands_of, seconds_of}
use Rattle.proof_hearing.proofs.Ending.{entries_are, late_is}
use Rattle.proof_hearing.proofs.Entering.{comes_within, first_after, note_plainly, notes_after, plainly_within}
use Rattle.proof_hearing.proofs.HostEnds.{ending_of}
use Rattle.proof_hearing.proofs.Ticking.{denied}
use Rattle.proof_hearing.proofs.proof_ends_Walking.{ShowsOpen, event_way}
use Rattle.proof_noting.specs.Behind.{AtOpen, OneLeft}
use Rattle.proof_noting.specs.Following.{Follows, Lags, Level, Outset, timed}
use Rattle.proof_noting.specs.Ground.{GroundAlong, NotingGround}
use Rattle.proof_noting.specs.Steps.{first_of}
use Rattle.proof_noting.specs.Sure.{SureRun, SureStep}
use Rattle.proof_noting.specs.Ticking.{OverSo}
use Rattle.proof_noting.proofs.AsksSealed.{AskSo, AsksAreSo}
use Rattle.proof_noting.proofs.Choosing.{goes_nowhere, goes_on}
use Rattle.proof_noting.proofs.EndCourse.{Badly, badly_goes, made_due, made_of, made_rest}
use Rattle.proof_noting.proofs.EndNotes.{at_does, at_ends, request_notes}
use Rattle.proof_noting.proofs.EndLeaves.{request_leaves, slept_not}
use Rattle.proof_noting.proofs.EndedBooks.{bad_ended}
use Rattle.proof_noting.proofs.Followed.{follows_by}
use Rattle.proof_noting.proofs.Going.{so_on}
use Rattle.proof_noting.proofs.GoneSo.{are_gone, most, none_noted}
use Rattle.proof_noting.proofs.Sendings.{ToNodes, sending_nodes}
use Rattle.proof_noting.proofs.Surely.{sure_step}

-- ---- where the host has heard it

-- nothing was entered, and the host has the same books, and the same request under way
module _ (key : List ℕ) (taken : List Entry → Carried → List Told) (past : List Entry) (m k : HostMachine) (c : Course) (clocks : k.clock ≡ m.clock) (awaits : k.awaits ≡ m.awaits)
    (nonces : k.state.nonces ≡ m.state.nonces) (queue : k.state.requests.queue ≡ m.state.requests.queue)
    (nodes : (n : ℕ) → node_of k.state n ≡ node_of m.state n) (commands : k.state.commands ≡ m.state.commands) where
  abbrev by_heeds : Heeds
  by_heeds = heeds_alone taken

  same_timed : timed k past ≡ timed m past
  same_timed = ap₂ (λ (b : Bool) (t : ℕ). if b then past ++ entry.Time t ∷ [] else past) awaits clocks

  pub books_same : (l : List Entry) (d : Course) → BooksSo key by_heeds l m.state d → BooksSo key by_heeds l k.state d
  books_same l d so =
      books_on key by_heeds l l m.state d.books d.offered d.opened d.sealed so k.state nonces (λ n. ap (nonces_to n) queue) (λ n is. same_alike (node_of m.state n) (node_of k.state n) (nodes n))
      (λ number t found. ap (λ (cs : List Command). taken_at cs number) commands ∙ found) (λ n is late. late)

  pub follows_same : k.state.requests.under_way ≡ m.state.requests.under_way → Follows key taken past m c → Follows key taken past k c
  follows_same under follows = record {
    fits = follows.fits;
    none_due = follows.none_due;
    low = subst (λ (t : ℕ). c.ticked ≤ t) (sym clocks) follows.low;
    heeded = follows.heeded;
    so = so_on key by_heeds past past m k
        (λ d so. subst (λ (l : List Entry). BooksSo key by_heeds l k.state d) (sym same_timed) (books_same (timed m past) d so)) under c
        (λ lags. (record { frame = refl; unended = refl }, λ is. is))
        (λ p quiet. record { errands = quiet.errands; sleeps = sleeps p quiet.sleeps; interviews = quiet.interviews }) (omega (arith, clocks)) follows.so;
  }
    where
      sleeps : (p : Purpose) → sleep_entries m.state p ≡ [] → sleep_entries k.state p ≡ []
      sleeps (Housekeeping (NoMore n)) none = ap (λ (s : NodeState). asleep_entry (falls_asleep s) n) (nodes n) ∙ none
      sleeps (Housekeeping task) none = none
      sleeps (Attempt n more payload) none = none
      sleeps Abort none = none

-- ---- what the acknowledgement of a frame makes of its request

sent_way : (p : Purpose) (progress : Progress) → ((q : Progress) × (sent_from p progress ≡ GoesOn q)) ⊎ ((p ≡ Abort) × (sent_from p progress ≡ Ends AbortSent))
sent_way Abort Submitted = inr (refl, refl)
sent_way (Housekeeping task) Submitted = inl (Sent 15, refl)
sent_way (Attempt n more payload) Submitted = inl (Sent 15, refl)
sent_way p (Sent left) = inl (Sent left, refl)
sent_way p (Answered sent left) = inl (Answered true left, refl)

note_of_host : (e : Entry) → is_note e ≡ true → is_of_host e ≡ true
note_of_host (entry.Written Host unit) is = absurd (let bad : false ≡ true = is in cc)
note_of_host (entry.Begin node session command) is = absurd (let bad : false ≡ true = is in cc)
note_of_host e is = is

nil_left : (a b : List Entry) → a ++ b ≡ [] → a ≡ []
nil_left [] b is = refl
nil_left (x ∷ a) b is = absurd (let bad : x ∷ (a ++ b) ≡ [] = is in cc)

nil_right : (a b : List Entry) → a ++ b ≡ [] → b ≡ []
nil_right [] b is = is
nil_right (x ∷ a) b is = absurd (let bad : x ∷ (a ++ b) ≡ [] = is in cc)

module _ (key : List ℕ) (taken : List Entry → Carried → List Told) (from : Outset) (shows : ShowsOpen) (asking : AlongRuns (keys_of key) (KnowsSince AsksAreSo))
    (ground : GroundAlong taken (first_of key)) (past : List Entry) (m : HostMachine)
    (unit : LineUnit) (rest : List LineUnit) (behind : List HostEvent) (told : List Entry) (sure : SureRun taken (first_of key) Open past m) (well : SureStep taken sure.run (Judges (Good unit) rest behind told))
    (now : IsJudgedNow m (Good unit) rest behind told) (known : AtOpen key taken from past m) (none_told : told ≡ []) (unframed : IsFramed unit → ⊥) where
  abbrev heeds : Heeds
  heeds = heeds_alone taken

  abbrev heard : HostState
  heard = after m.state (Hears (Good unit))

  abbrev next : HostMachine
  next = record (done m (Hears (Good unit))) { came = rest }

  abbrev c : Course
  c = known.course

  -- the course has gone through the tick
  ticked : (c.ticked ≡ m.clock) × (m.awaits ≡ false)
  ticked = by known.answered
    where
      by : AreFrames m.came ⊎ ((c.ticked ≡ m.clock) × (m.awaits ≡ false)) → (c.ticked ≡ m.clock) × (m.awaits ≡ false)
      by (inl all) = absurd (unframed (subst AreFrames now.takes all).0)
      by (inr so) = so

  noting : NotingGround taken Open past m
  noting = ground Open past m sure

  time : clock past ≡ m.clock
  time = sym (clock_now past m (ground_of Open past m noting.grounds).0.0.0.1 ticked.1)

  tie : TieAsked past m.clock m.clock (unit ∷ rest) (doing_of m.state)
  tie = subst (λ (l : List LineUnit). TieAsked past m.clock m.clock l (doing_of m.state)) now.takes (asked_of Open past m noting.grounds)

  same_past : past ++ told ≡ past
  same_past = ap (λ (l : List Entry). past ++ l) none_told ∙ append-nil past

  sure_next : SureRun taken (first_of key) (Behind behind) past next
  sure_next =
      subst (λ (l : List Entry). SureRun taken (first_of key) (Behind behind) l next) same_past
      (sure_step taken (first_of key) {next = Behind behind} sure (Judges (Good unit) rest behind told) (refl, now, refl) well)

  heard_follows : Follows key taken past next c
  heard_follows = follows_same key taken past m next c refl refl refl refl (λ n. refl) refl refl known.follows

  -- nothing follows it
  pub rests : AtOpen key taken from past next
  rests = record { course = c; of = known.of; follows = heard_follows; answered = inr ticked }

  -- an event is left that notes nothing, by which the course follows still
  quietly : (event : HostEvent) → outs heard event ≡ [] → Follows key taken past (done next event) c → OneLeft key taken from past next event
  quietly event outs_are follows = record {
    course = c;
    of = known.of;
    fits = known.follows.fits;
    told = [];
    outs_are = outs_are;
    notes = tt;
    next = c;
    goes = goes_nowhere heeds past c;
    follows = subst (λ (l : List Entry). Follows key taken l (done next event) c) (sym (append-nil past)) follows;
    numbered = ticked.1;
    answered = inr ticked;
    same = (refl, refl, refl, refl);
  }

  -- ---- the request hears of it

  module _ (event : RequestsEvent) (of_told : IsTold event) where
    abbrev g : HostState
    g = requests_do heard event

    abbrev does_it : HostEvent
    does_it = Requests_do event BetweenTicks

    way : (after heard does_it).requests.under_way ≡ (doing_from (doing_of heard) (next_at heard.requests event) heard.requests.under_way).under_way
    way = event_way heard event BetweenTicks (next_at heard.requests event) (at_does heard event of_told)

    -- it leaves all nodes
    leaves : (o : Option End) → end_at heard.requests event ≡ o → ((n : ℕ) → node_of (after_end_if g o BetweenTicks) n ≡ node_of heard n) → ((after_end_if g o BetweenTicks).commands ≡ heard.commands)
        → (end_entries_if g o ≡ []) → ((n : ℕ) → node_of (after heard does_it) n ≡ node_of heard n) × ((after heard does_it).commands ≡ heard.commands) × (outs heard does_it ≡ [])
    leaves o is nodes commands none = (
      (λ n. ap (λ (x : Option End). node_of (after_end_if g x BetweenTicks) n) is ∙ nodes n),
      ap (λ (x : Option End). (after_end_if g x BetweenTicks).commands) is ∙ commands,
      ap noted (ap (end_entries_if g) is ∙ none),
    )

    -- and the request under way as it was
    stays : end_at heard.requests event ≡ None → (after heard does_it).requests.under_way ≡ m.state.requests.under_way → OneLeft key taken from past next does_it
    stays is same =
        let left = leaves None is (λ n. refl) refl refl in
        let kept = request_leaves heard event BetweenTicks of_told in
        quietly does_it left.2
        (follows_same key taken past next (done next does_it) c refl refl kept.nonces kept.queue left.0 left.1 same heard_follows)

    -- or is one, whether it ends or not
    levels : (o : Option End) → end_at heard.requests event ≡ o → ((n : ℕ) → node_of (after_end_if g o BetweenTicks) n ≡ node_of heard n) → ((after_end_if g o BetweenTicks).commands ≡ heard.commands)
        → (end_entries_if g o ≡ []) → OverSo past (done next does_it) c → BooksSo key heeds past m.state c → OneLeft key taken from past next does_it
    levels o is nodes commands none over books =
        let left = leaves o is nodes commands none in
        let kept = request_leaves heard event BetweenTicks of_told in
        quietly does_it left.2
        (follows_by key taken past (done next does_it) c known.follows.fits known.follows.none_due (subst (λ (t : ℕ). c.ticked ≤ t) refl known.follows.low) known.follows.heeded ticked.1 over
        (books_same key taken past next (done next does_it) c refl refl kept.nonces kept.queue left.0 left.1 past c (books_same key taken past m next c refl refl refl refl (λ n. refl) refl past c books)))

  -- what is known of the one under way
  level_books : Level key heeds past m c → BooksSo key heeds past m.state c
  level_books level =
      subst (λ (l : List Entry). BooksSo key heeds l m.state c) (ap (λ (b : Bool). if b then past ++ entry.Time m.clock ∷ [] else past) ticked.1) level.books

  under_request : (u : UnderWay) → m.state.requests.under_way ≡ Some u → request_last past ≡ request_of u.purpose m.state.requests.last_id ∷ []
  under_request u is = by tie
    where
      by : TieAsked past m.clock m.clock (unit ∷ rest) (doing_of m.state) → request_last past ≡ request_of u.purpose m.state.requests.last_id ∷ []
      by (inl nothing) = absurd (let none = nothing.none in let bad : ◌≡◌ {A = Option UnderWay} None (Some u) = sym none ∙ is in cc)
      by (inr (was, asks)) =
          (subst (TieUnderWay (standing_of (asked past)) m.clock m.clock (acknowledged past) m.state.side.turn m.state.requests.last_id (doing_of m.state).leaving) is asks.under_way).0.request

  -- ---- the frame is acknowledged

  idle_stays : (event : RequestsEvent) → IsTold event → m.state.requests.under_way ≡ None → OneLeft key taken from past next (Requests_do event BetweenTicks)
  idle_stays event of_told is =
      stays event of_told (at_ends heard event of_told ∙ ap (λ (o : Option UnderWay). end_from (next_at heard.requests event) o) is)
      (way event of_told ∙ ap (λ (o : Option UnderWay). (doing_from (doing_of heard) (next_at heard.requests event) o).under_way) is ∙ sym is)

  pub acknowledged_so : OneLeft key taken from past next (Requests_do IsSent BetweenTicks)
  acknowledged_so = by known.follows.so
    where
      went : (level : Level key heeds past m c) (u : UnderWay) → m.state.requests.under_way ≡ Some u
          → ((q : Progress) × (sent_from u.purpose u.progress ≡ GoesOn q)) ⊎ ((u.purpose ≡ Abort) × (sent_from u.purpose u.progress ≡ Ends AbortSent)) → OneLeft key taken from past next (Requests_do IsSent BetweenTicks)
      went level u is (inl (q, goes)) =
          levels IsSent tt None (ap (λ (o : Option UnderWay). end_from at_sent o) is ∙ ap (λ (n : Next). end_of u n) goes) (λ n. refl) refl refl
          (inl (level.over ∙ ap (λ (o : Option UnderWay). is_none o) is
          ∙ sym (ap (λ (o : Option UnderWay). is_none o)
          (way IsSent tt ∙ ap (λ (o : Option UnderWay). (doing_from (doing_of heard) at_sent o).under_way) is ∙ ap (λ (n : Next). (doing_next (doing_of heard) u n).under_way) goes)))) (level_books level)
      went level u is (inr (abort, ends)) =
          levels IsSent tt (Some (record { purpose = Abort; how = AbortSent }))
          (ap (λ (o : Option UnderWay). end_from at_sent o) is ∙ ap (λ (n : Next). end_of u n) ends ∙ ap (λ (p : Purpose). Some (record { purpose = p; how = AbortSent })) abort) (λ n. refl) refl refl
          (inr (
            level.over ∙ ap (λ (o : Option UnderWay). is_none o) is,
            way IsSent tt ∙ ap (λ (o : Option UnderWay). (doing_from (doing_of heard) at_sent o).under_way) is ∙ ap (λ (n : Next). (doing_next (doing_of heard) u n).under_way) ends,
            (m.state.requests.last_id, under_request u is ∙ ap (λ (p : Purpose). request_of p m.state.requests.last_id ∷ []) abort),
          )) (level_books level)

      at : (level : Level key heeds past m c) (o : Option UnderWay) → m.state.requests.under_way ≡ o → OneLeft key taken from past next (Requests_do IsSent BetweenTicks)
      at level None is = idle_stays IsSent tt is
      at level (Some u) is = went level u is (sent_way u.purpose u.progress)

      by : Level key heeds past m c ⊎ Lags key heeds past m c → OneLeft key taken from past next (Requests_do IsSent BetweenTicks)
      by (inl level) = at level m.state.requests.under_way refl
      by (inr lags) = idle_stays IsSent tt lags.none

  -- ---- the frame is given up

  module _ (text : List ℕ) (no_ack : is_acknowledgement text ≡ false)
      (first : to_come m.clock (acknowledged past) (unit ∷ rest) ≡ record { unit = text; tick = m.clock; frames = acknowledged past } ∷ to_come m.clock (acknowledged past) rest)
      (gives : gives_up m.state.side.turn (turn_refused m.state.side.turn) ≡ true) (behind_is : behind ≡ told_requests Fails) where
    abbrev then_failed : HostState
    then_failed = requests_do heard Fails

    abbrev id : ℕ
    id = m.state.requests.last_id

    abbrev fails_now : HostEvent
    fails_now = Requests_do Fails BetweenTicks

    abbrev notes : List Entry
    notes = request_entries heard Fails

    abbrev here : Phase
    here = Behind (told_requests Fails)

    run_told : SureRun taken (first_of key) here past next
    run_told = subst (λ (l : List HostEvent). SureRun taken (first_of key) (Behind l) past next) behind_is sure_next

    told_known : NotingGround taken here past next
    told_known = ground here past next run_told

    facts : HostFacts heard
    facts = facts_of here past next told_known.grounds

    asks_so : (n : ℕ) → IsNode n → AskSo heard n
    asks_so n is = asking here past next run_told.run n is.0 is.1

    module _ (u : UnderWay) (under : m.state.requests.under_way ≡ Some u) where
      given : GivenUp past m.clock id u.purpose
      given = denied_here unit text no_ack past m.clock rest (doing_of m.state) first gives tie u under

      -- the answer that was judged has had the line give it up
      fails_here : list_any (λ one. one.at_answer && nat_le one.frames (acknowledged past)) (failing (asked past)) ≡ true
      fails_here = by tie
        where
          in_turn : (turn : Turn) → gives_up turn (turn_refused turn) ≡ true → TieLine (standing_of (asked past)) m.clock (acknowledged past) (unit ∷ rest) turn
              → list_any (λ one. one.at_answer && nat_le one.frames (acknowledged past)) (failing (asked past)) ≡ true
          in_turn Idle gives line = absurd (let bad : false ≡ true = gives in cc)
          in_turn (Paused f copies ticks) gives line = absurd (let bad : false ≡ true = gives in cc)
          in_turn (Copied f copies ticks) gives line = four (copies == 4) refl gives
            where
              four : (b : Bool) → (copies == 4) ≡ b → gives_up (Copied f copies ticks) (if b then Idle else Paused f copies 0) ≡ true
                  → list_any (λ one. one.at_answer && nat_le one.frames (acknowledged past)) (failing (asked past)) ≡ true
              four true is gives =
                  let (copies_are, denied_is, now_is) = was_denied unit text no_ack (standing_of (asked past)) m.clock (acknowledged past) rest f copies ticks first is line in
                  let few : denied_is.answer.frames ≤ acknowledged past = denied_is.judged in
                  ap (λ (l : List Failing). list_any (λ one. one.at_answer && nat_le one.frames (acknowledged past)) l) (denied_fails (standing_of (asked past)) m.clock (acknowledged past) copies_are denied_is)
                  ∙ or_left (nat_le denied_is.answer.frames (acknowledged past)) false (le-leb denied_is.answer.frames (acknowledged past) few)
              four false is gives = absurd (let bad : false ≡ true = gives in cc)

          by : TieAsked past m.clock m.clock (unit ∷ rest) (doing_of m.state) → list_any (λ one. one.at_answer && nat_le one.frames (acknowledged past)) (failing (asked past)) ≡ true
          by (inl nothing) = absurd (let none = nothing.none in let bad : ◌≡◌ {A = Option UnderWay} None (Some u) = sym none ∙ under in cc)
          by (inr (was, asks)) = in_turn m.state.side.turn gives asks.line

      denied_so : is_denied past ≡ true
      denied_so = ap₂ (λ (l : List ℕ) (b : Bool). not (are_none l) && b) given.gives_up fails_here

      unended : ending_among (asked past).frame true (judged_since (asked past)) ≡ []
      unended = by tie
        where
          by : TieAsked past m.clock m.clock (unit ∷ rest) (doing_of m.state) → ending_among (asked past).frame true (judged_since (asked past)) ≡ []
          by (inl nothing) = absurd (let none = nothing.none in let bad : ◌≡◌ {A = Option UnderWay} None (Some u) = sym none ∙ under in cc)
          by (inr (was, asks)) =
              (subst (TieUnderWay (standing_of (asked past)) m.clock m.clock (acknowledged past) m.state.side.turn id (doing_of m.state).leaving) under asks.under_way).0.unended

      running : c.over ≡ false
      running = by known.follows.so
        where
          by : Level key heeds past m c ⊎ Lags key heeds past m c → c.over ≡ false
          by (inl level) = level.over ∙ ap (λ (o : Option UnderWay). is_none o) under
          by (inr lags) = lags.running

      books_before : BooksSo key heeds past heard c
      books_before = by known.follows.so
        where
          by : Level key heeds past m c ⊎ Lags key heeds past m c → BooksSo key heeds past heard c
          by (inl level) = books_same key taken past m next c refl refl refl refl (λ n. refl) refl past c (level_books level)
          by (inr lags) = absurd (let none = lags.none in let bad : ◌≡◌ {A = Option UnderWay} None (Some u) = sym none ∙ under in cc)

      abbrev sent : List Carried
      sent = sent_by u.purpose id

      abbrev outcome : List Entry
      outcome = outcome_entries then_failed u.purpose LinkFailed

      abbrev noting_it : Course
      noting_it = noted_by then_failed u.purpose LinkFailed c

      e : end_at heard.requests Fails ≡ Some (record { purpose = u.purpose; how = LinkFailed })
      e = ap (λ (o : Option UnderWay). end_from (λ v. Ends LinkFailed) o) under

      idle : (after heard fails_now).requests.under_way ≡ None
      idle = way Fails tt ∙ ap (λ (o : Option UnderWay). (doing_from (doing_of heard) (λ v. Ends LinkFailed) o).under_way) under

      of : EndingOf heeds past then_failed id u.purpose
      of = ending_of shows heeds here past next told_known.grounds.sleep tt told_known.errands u under given.carries then_failed refl

      sends : flat_map sending_of (request_last past) ≡ sent
      sends = ap (λ (l : List Request). flat_map sending_of l) of.request

      nodes : ToNodes sent
      nodes = subst ToNodes sends (sending_nodes (asked past).frame)

      notes_are : notes ≡ most then_failed u.purpose LinkFailed ++ outcome
      notes_are = ap (end_entries_if then_failed) e ∙ entries_are then_failed u.purpose LinkFailed

      noting_due : noting_it.due ≡ most then_failed u.purpose LinkFailed
      noting_due = ap (λ (l : List Entry). l ++ most then_failed u.purpose LinkFailed) known.follows.none_due

      gone : AreGone heeds (past ++ noting_it.due) (clock past) u.purpose id outcome
      gone =
          subst (λ (l : List Entry). AreGone heeds (past ++ l) (clock past) u.purpose id outcome) (sym noting_due)
          (are_gone key taken ground Fails tt past next run_told ticked.1 u under LinkFailed e of idle)

      bad : Badly heeds past (clock past) sent outcome noting_it
      bad = badly_goes heeds past (clock past) outcome noting_it sent gone

      none_sent : sent ≡ [] → outcome ≡ []
      none_sent = none_noted heeds (past ++ noting_it.due) (clock past) u.purpose id outcome gone

      abbrev made : Course
      made = made_of sent bad.gone outcome noting_it

      denies_it : (keepings : List Bool) (texts : List (Option (List ℕ))) → denies heeds past (choosing keepings texts c) ≡ choosing keepings texts made
      denies_it keepings texts =
          denied heeds past m.clock (choosing keepings texts c) running denied_so
          ∙ late_is heeds past then_failed id u.purpose LinkFailed (clock past) (choosing keepings texts c) tt of
          ∙ bad.goes keepings texts

      stays_so : (rest_of made ≡ rest_of noting_it) × (made.over ≡ noting_it.over)
      stays_so = made_rest sent bad.gone outcome noting_it

      made_notes : made.due ≡ notes
      made_notes = made_due sent bad.gone outcome noting_it bad.none none_sent ∙ ap (λ (l : List Entry). l ++ outcome) noting_due ∙ sym notes_are

      not_good : (n : ℕ) (more : Bool) (payload : List ℕ) → u.purpose ≡ Attempt n more payload → part_end more LinkFailed ≡ part_good → ⊥
      not_good n true payload purpose good = let no : Bad ≡ part_good = good in cc
      not_good n false payload purpose good = let no : Bad ≡ part_good = good in cc

      books_made : BooksSo key heeds (past ++ notes) (after heard fails_now) made
      books_made =
          bad_ended key taken past past heard facts Fails tt BetweenTicks u LinkFailed under e asks_so id nodes given.carries noting_it books_before (λ n is late. late)
          (λ n. (told_known.grounds.shows n).last) not_good bad.gone bad.none bad.some none_sent

      -- nothing is noted of it: the course comes to it later
      module _ (silent : notes ≡ []) where
        both_none : most then_failed u.purpose LinkFailed ++ outcome ≡ []
        both_none = sym notes_are ∙ silent

        most_none : most then_failed u.purpose LinkFailed ≡ []
        most_none = nil_left (most then_failed u.purpose LinkFailed) outcome both_none

        outcome_none : outcome ≡ []
        outcome_none = nil_right (most then_failed u.purpose LinkFailed) outcome both_none

        noting_same : noting_it ≡ record c { over = true }
        noting_same = ap (λ (l : List Entry). record c { over = true; due = l }) (ap (λ (l : List Entry). c.due ++ l) most_none ∙ append-nil c.due)

        gone_none : bad.gone ≡ false
        gone_none = by bad.gone refl
          where
            by : (b : Bool) → bad.gone ≡ b → b ≡ false
            by true is = absurd (bad.some is outcome_none)
            by false is = refl

        silent_is : made ≡ ended_silently past c
        silent_is = by gone
          where
            by : AreGone heeds (past ++ noting_it.due) (clock past) u.purpose id outcome → made ≡ ended_silently past c
            by (inl (nothing, none)) =
                ap (λ (l : List Carried). made_of l bad.gone outcome noting_it) nothing ∙ noting_same
                ∙ sym (ap (λ (l : List Carried). each_in_turn ends_sealing l (record c { over = true })) (sends ∙ nothing))
            by (inr (one, is, some)) =
                ap (λ (l : List Carried). made_of l bad.gone outcome noting_it) is ∙ ap (λ (b : Bool). made_of (one ∷ []) b outcome noting_it) gone_none
                ∙ ap (ends_sealing one) noting_same ∙ sym (ap (λ (l : List Carried). each_in_turn ends_sealing l (record c { over = true })) (sends ∙ is))

        here_past : past ++ notes ≡ timed (done next fails_now) past
        here_past = ap (λ (l : List Entry). past ++ l) silent ∙ append-nil past ∙ sym (ap (λ (b : Bool). if b then past ++ entry.Time m.clock ∷ [] else past) ticked.1)

        sleeps_now : (p : Purpose) → u.purpose ≡ p → sleep_entries (after heard fails_now) p ≡ []
        sleeps_now (Housekeeping (NoMore n)) is =
            ap (λ (s : NodeState). asleep_entry (falls_asleep s) n)
            (node_after heard fails_now n within ∙ ap (λ (o : Option End). does_at n (node_of heard n) (end_does o BetweenTicks)) e
            ∙ ap (λ (p : Purpose). does_at n (node_of heard n) (purpose_does p LinkFailed BetweenTicks)) is
            ∙ ap (λ (b : Bool). if b then after_no_more_end (node_of heard n) else node_of heard n) (eq-eqb n n refl))
            ∙ ap (λ (b : Bool). asleep_entry b n) (slept_not (after_no_more (node_of heard n) Unasked))
          where
            node : IsNode n
            node = (subst (λ (p : Purpose). ToNodes (sent_by p id)) is nodes).0

            within : n < length heard.nodes
            within = let to = node.1 in let places = facts.nodes.places in omega (arith, to, places)
        sleeps_now (Housekeeping task) is = refl
        sleeps_now (Attempt n more payload) is = refl
        sleeps_now Abort is = refl

        quiet : (p : Purpose) → u.purpose ≡ p → (errands_of p ≡ []) × (seconds_of p ≡ [])
        quiet (Housekeeping (Plain n payload)) is =
            absurd (let bad : entry.Done n (done_how.LinkFailed) ∷ [] ≡ [] = sym (ap (λ (p : Purpose). most then_failed p LinkFailed) is) ∙ most_none in cc)
        quiet (Housekeeping (Second n)) is = absurd (let bad : entry.InterviewFailed n ∷ [] ≡ [] = sym (ap (λ (p : Purpose). most then_failed p LinkFailed) is) ∙ most_none in cc)
        quiet (Housekeeping task) is = (refl, refl)
        quiet (Attempt n more payload) is = (refl, refl)
        quiet Abort is = (refl, refl)

        silent_left : OneLeft key taken from past next fails_now
        silent_left =
            let none = quiet u.purpose refl in
            quietly fails_now (ap noted silent)
            (record {
              fits = known.follows.fits;
              none_due = known.follows.none_due;
              low = known.follows.low;
              heeded = known.follows.heeded;
              so = inr (record {
                running = running;
                none = idle;
                purpose = u.purpose;
                id = id;
                request = given.request;
                carries = given.carries;
                well = of.well;
                unended = unended;
                quiet = record { errands = none.0; sleeps = sleeps_now u.purpose refl; interviews = none.1 };
                books = subst (λ (d : Course). BooksSo key heeds (timed (done next fails_now) past) (after heard fails_now) d) silent_is
                    (subst (λ (l : List Entry). BooksSo key heeds l (after heard fails_now) made) here_past books_made);
                why = inr (inl denied_so);
              });
            })

      -- its first note has the course come to it
      noted_left : (first_note : Entry) (more : List Entry) → notes ≡ first_note ∷ more → OneLeft key taken from past next fails_now
      noted_left first_note more are = record {
        course = c;
        of = known.of;
        fits = known.follows.fits;
        told = notes;
        outs_are = refl;
        notes = all_notes;
        next = record made { due = [] };
        goes = goes_on heeds past notes c (record made { due = [] }) (λ keepings texts. comes keepings texts);
        follows = follows_by key taken (past ++ notes) (done next fails_now) (record made { due = [] }) (ap (λ (x : Course). x.fits) stays_so.0 ∙ known.follows.fits) refl low heeded ticked.1
            (inl (stays_so.1 ∙ sym (ap (λ (o : Option UnderWay). is_none o) idle))) books_made;
        numbered = ticked.1;
        answered = inr (ap (λ (x : Course). x.ticked) stays_so.0 ∙ ticked.0, ticked.1);
        same = (ap (λ (x : Course). x.offered) stays_so.0, ap (λ (x : Course). x.opened) stays_so.0, ap (λ (x : Course). x.sealed) stays_so.0, ap (λ (x : Course). x.heeded) stays_so.0);
      }
        where
          all_notes : AllByRecursion (λ (e : Entry). is_note e ≡ true) notes
          all_notes = request_notes heard Fails

          these_notes : AllByRecursion (λ (e : Entry). is_note e ≡ true) (first_note ∷ more)
          these_notes = subst (AllByRecursion (λ (e : Entry). is_note e ≡ true)) are all_notes

          low : made.ticked ≤ m.clock
          low = let same = ap (λ (x : Course). x.ticked) stays_so.0 in let at = ticked.0 in omega (arith, same, at)

          heeded : AllByRecursion (IsHeeded taken) made.heeded
          heeded = subst (λ (x : Course). AllByRecursion (IsHeeded taken) x.heeded) (sym stays_so.0) known.follows.heeded

          comes_there : (keepings : List Bool) (texts : List (Option (List ℕ))) → comes_to heeds past first_note (choosing keepings texts c) ≡ choosing keepings texts made
          comes_there keepings texts =
              let not_less = ticked.0 in
              comes_within heeds past first_note (choosing keepings texts c) (plainly_within first_note (note_plainly first_note these_notes.0))
              ∙ ap (λ (l : List Entry). if are_none l then has_heard heeds past first_note (has_ticked heeds past first_note (choosing keepings texts c)) else choosing keepings texts c) known.follows.none_due
              ∙ ap (λ (b : Bool). has_heard heeds past first_note (if b && not (is_before_host past first_note) then ticks heeds past (clock past) (choosing keepings texts c) else choosing keepings texts c))
              (le-ltb c.ticked (clock past) (omega (arith, not_less, time)))
              ∙ ap₂ (λ (l : List Entry) (b : Bool). if are_none l && b then denies heeds past (choosing keepings texts c) else choosing keepings texts c) known.follows.none_due
              (note_of_host first_note these_notes.0)
              ∙ denies_it keepings texts

          comes : (keepings : List Bool) (texts : List (Option (List ℕ))) → course_after heeds past notes (choosing keepings texts c) ≡ choosing keepings texts (record made { due = [] })
          comes keepings texts =
              ap (λ (l : List Entry). course_after heeds past l (choosing keepings texts c)) are
              ∙ ap (λ (x : Course). course_after heeds (past ++ first_note ∷ []) more x)
              (first_after heeds past first_note more more (choosing keepings texts c) (choosing keepings texts made) these_notes.0 known.follows.fits (comes_there keepings texts)
              (ap (λ (x : Course). x.fits) stays_so.0 ∙ known.follows.fits) (made_notes ∙ are))
              ∙ notes_after heeds (past ++ first_note ∷ []) more [] (choosing keepings texts (record made { due = more })) these_notes.1 (ap (λ (x : Course). x.fits) stays_so.0 ∙ known.follows.fits)
              (sym (append-nil more))

      failed_left : OneLeft key taken from past next fails_now
      failed_left = by notes refl
        where
          by : (l : List Entry) → notes ≡ l → OneLeft key taken from past next fails_now
          by [] is = silent_left is
          by (first_note ∷ more) is = noted_left first_note more is

    pub fails_so : OneLeft key taken from past next fails_now
    fails_so = by m.state.requests.under_way refl
      where
        by : (o : Option UnderWay) → m.state.requests.under_way ≡ o → OneLeft key taken from past next fails_now
        by None is = idle_stays Fails tt is
        by (Some u) is = failed_left u is
