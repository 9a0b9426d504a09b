-- The course of a host's notes at what a pump does that submits no request: a session begins, or its record is not kept, and No More Information waits for a node or is dropped.
use Rattle.std.proofs.Common.{◌≡◌, ◌⊎◌, ◌<◌, ℕ, ◌&&◌, ◌||◌, not, Bool, true, false, if◌then◌else◌, inl, inr, List, [], ◌∷◌, ◌++◌, Option, Some, None, length, refl, sym, ap, ◌∙◌, subst, arith}
use Rattle.std.specs.Prelude.{is_some, nat_le}
use Rattle.std.specs.List.{list_any}
use Rattle.std.proofs.lemmas.Bool.{and_from, le-leb, ne_eqb, or_right}
use Rattle.chip_functions.specs.Field.{IsNode}
use Rattle.serial_frame.specs.declared.unit.Unit.{Unit as LineUnit}
use Rattle.serial_link.specs.declared.turn.Turn.TheVariants.{Idle as line_idle}
use Rattle.supervision.specs.Host.{open_session}
use Rattle.zw_text.specs.declared.entry.Entry.{Entry}
use Rattle.zw_text.specs.declared.entry.Entry.TheVariants as entry
use Rattle.zw_text.specs.declared.entry.Outcome.TheVariants as outcome
use Rattle.host_heard.specs.declared.told.Told.{Told}
use Rattle.law_transcript.specs.Restarts.{begins_refused}
use Rattle.law_transcript.specs.Units.{Carried}
use Rattle.law_time.specs.Choice.{is_to_begin}
use Rattle.law_time.specs.Ends.{has_ended, is_line_free, is_over}
use Rattle.law_time.specs.Heeds.{Heeds}
use Rattle.law_time.specs.Judged.{acknowledged, is_data, is_mark}
use Rattle.law_time.specs.Moments.{clock}
use Rattle.law_time.specs.Requests.{Failing, are_none, asked, failing, sent_at}
use Rattle.host_requests.specs.Frames.{request_of}
use Rattle.host_requests.specs.declared.task.Task.TheVariants.{NoMore}
use Rattle.host_requests.specs.declared.task.Purpose.{Purpose}
use Rattle.host_requests.specs.declared.task.Purpose.TheVariants.{Housekeeping, Attempt, Abort}
use Rattle.host_node.specs.Events.NodeEvent.{Begins as node_begins}
use Rattle.host_node.specs.Facts.{NodeFacts, SeriesFacts}
use Rattle.host_node.specs.State.{NodeState}
use Rattle.host_node.specs.declared.series.Series.{Series}
use Rattle.host_node.specs.declared.series.Series.TheVariants.{Idle, Due, Running}
use Rattle.host_model.specs.After.{after, is_full}
use Rattle.host_model.specs.Ends.{asleep_entry}
use Rattle.host_model.specs.Events.{HostEvent, Begins, Begin_unkept, Drops_no_more, Queues_no_more}
use Rattle.host_model.specs.May.{May as MayHost}
use Rattle.host_model.specs.State.{HostState, node_of}
use Rattle.host_model.specs.declared.out.HostOut.TheVariants.{Note}
use Rattle.host_model.proofs.Pumps.{next_works}
use Rattle.proof_host.proofs.Commands.{taken_set}
use Rattle.proof_hearing.proofs.Queued.{served_is_node}
use Rattle.proof_hearing.proofs.proof_queue_Stepping.{not_awaiting}
use Rattle.proof_hearing.proofs.Told.{attempts_left, node_is}
use Rattle.proof_hearing.proofs.proof_attempts_Walking.{turn_idle}
use Rattle.proof_hearing.specs.proof_choice.proof_giving.Told.{LeavesAttempts}
use Rattle.proof_hearing.proofs.Parts.{to_begin}
use Rattle.proof_hearing.proofs.ReadyTie.{facts_of, within_of}
use Rattle.proof_hearing.specs.Books.{BooksSo, SealedOpen, SealerSo}
use Rattle.proof_hearing.specs.proof_queue.proof_attempts.proof_requests.Asking.{Doing, TieAsked, TieLine, TieUnderWay, doing_of}
use Rattle.proof_hearing.specs.proof_queue.proof_attempts.proof_requests.Standing.{standing_of}
use Rattle.proof_hearing.specs.proof_queue.proof_attempts.proof_requests.law_host.Course.{Course, Sealer, book_of}
use Rattle.proof_hearing.specs.proof_queue.proof_attempts.proof_requests.law_host.Following.{comes_to, is_before_host, is_of_host, may_begin, may_stand}
use Rattle.proof_hearing.specs.proof_queue.proof_attempts.proof_requests.law_host.Heard.{heeds_alone}
use Rattle.proof_hearing.specs.proof_queue.proof_attempts.proof_requests.law_host.Nonces.{is_late}
use Rattle.proof_hearing.specs.proof_queue.proof_attempts.proof_requests.proof_alone.Phases.{Phase, Sleeping, Submitting, GoesBy}
use Rattle.proof_hearing.specs.proof_queue.proof_attempts.proof_requests.proof_alone.State.{HostMachine, done}
use Rattle.proof_hearing.specs.proof_queue.proof_attempts.proof_requests.proof_alone.Steps.{AreTold, Does}
use Rattle.proof_hearing.proofs.Alike.{here_node, other_node, same_alike}
use Rattle.proof_hearing.proofs.BooksGo.{books_one, sealer_on}
use Rattle.proof_hearing.proofs.proof_attempts_Ending.{over_so}
use Rattle.proof_hearing.proofs.proof_requests_Ended.{gave_up}
use Rattle.proof_hearing.specs.proof_choice.proof_following.Ended.{sleep_entries}
use Rattle.proof_hearing.specs.proof_choice.proof_following.Quiet.{IsPlainly}
use Rattle.proof_hearing.proofs.Entering.{plainly_within}
use Rattle.proof_hearing.proofs.proof_ends_Walking.{ShowsOpen}
use Rattle.proof_noting.specs.Following.{IsLevel, IsQuiet, Outset, timed}
use Rattle.proof_noting.specs.Ground.{GroundAlong, NotingGround}
use Rattle.proof_noting.specs.Noting.{AtRest, KnowsCourse}
use Rattle.proof_noting.specs.Steps.{IsPumping, IsUnsent, StepFollows, first_of}
use Rattle.proof_noting.proofs.Becoming.{BecomesLevel, becomes_heeded, comes_level, level_so}
use Rattle.proof_noting.proofs.Onwards.{now_is}
use Rattle.proof_noting.proofs.Choosing.{course_goes, goes_nowhere, goes_plain}
use Rattle.proof_noting.proofs.Going.{BooksGo, is_level_on, late_timed, so_on}
use Rattle.proof_noting.proofs.Lately.{late_on}
use Rattle.proof_noting.proofs.Leaving.{LeavesBooks, books_left, dropped_left, queued_awake, queued_left, unkept_left}
use Rattle.proof_noting.proofs.Quietly.{IsIdle, idle_asked}
use Rattle.proof_noting.proofs.Requested.{Stays, denied_quiet, frames_next, read_framed, stays_quiet}
use Rattle.proof_noting.proofs.Surely.{sure_does}

-- ---- a session may begin

-- the last request is over where none is under way and the line is free
over_now : (past : List Entry) (now : ℕ) (came : List LineUnit) (d : Doing) → d.turn ≡ line_idle → d.under_way ≡ None → TieAsked past now now came d → is_over (asked past) now ≡ true
over_now past now came d idle none (inl nothing) = ap (λ (l : List ℕ). are_none l || (is_line_free (asked past) now && has_ended (asked past) now)) nothing.unasked
over_now past now came d idle none (inr (was, asks)) =
    or_right (are_none (asked past).frame) (is_line_free (asked past) now && has_ended (asked past) now)
    (and_from (is_line_free (asked past) now) (has_ended (asked past) now) (free (subst (TieLine (standing_of (asked past)) now (acknowledged past) came) idle asks.line))
    (over_so (standing_of (asked past)) now (acknowledged past) d.leaving (subst (TieUnderWay (standing_of (asked past)) now now (acknowledged past) d.turn d.id d.leaving) none asks.under_way)).ended)
  where
    free : TieLine (standing_of (asked past)) now (acknowledged past) came line_idle → is_line_free (asked past) now ≡ true
    free (inl sent) = ap (λ (l : List ℕ). not (are_none l) || list_any (λ fails. nat_le fails.tick now) (failing (asked past))) sent.sent
    free (inr given_up) =
        let gave = gave_up (standing_of (asked past)) now (acknowledged past) given_up in
        or_right (not (are_none (sent_at (asked past)))) (list_any (λ fails. nat_le fails.tick now) (failing (asked past)))
        (ap (λ (l : List Failing). list_any (λ fails. nat_le fails.tick now) l) gave.failing ∙ ap (λ (b : Bool). b || false) (le-leb gave.fails.tick now gave.by_now))

-- where no session is open the series is over
closed_idle : (s : NodeState) → NodeFacts s → open_session s.book ≡ None → s.series ≡ Idle
closed_idle s facts closed = by s.series facts.series
  where
    never : (A : Type 0) → is_some (open_session s.book) ≡ true → A
    never A some = absurd (let bad : false ≡ true = sym (ap (λ (o : Option ℕ). is_some o) closed) ∙ some in cc)

    by : (x : Series) → SeriesFacts x s.book s.attempt_wait s.again_wait s.next_segment s.segments s.text s.pending → x ≡ Idle
    by Idle f = refl
    by Due f = never _ f.0.is_open
    by Running f = never _ f.0.is_open

begins_so : (taken : List Entry → Carried → List Told) (past : List Entry) (m : HostMachine) (n : ℕ) → NotingGround taken Submitting past m → m.awaits ≡ false → MayHost m.state (Begin_unkept n)
    → may_begin n past ≡ true
begins_so taken past m n ground awaits may =
    let node = served_is_node m.state n may.0.next in
    let facts = facts_of Submitting past m ground.grounds in
    and_from (is_over (asked past) (clock past)) (is_to_begin n past)
    (ap (λ (t : ℕ). is_over (asked past) t) (now_is taken Submitting past m ground awaits)
    ∙ over_now past m.clock m.came (doing_of m.state) (turn_idle m.state.side.turn may.0.free.free_line) may.0.free.none_under_way (idle_asked taken Submitting past m tt ground))
    (to_begin node_is taken past m.state m.clock n facts (ground.all.nodes n node.0 node.1) (closed_idle (node_of m.state n) (facts.nodes.facts n) may.1.1)
    (next_works m.state.nodes m.state.served n may.0.next)).0

-- ---- the books where a session begins

module _ (key : List ℕ) (taken : List Entry → Carried → List Told) (past : List Entry) (h : HostState) (n session command : ℕ) (within : n < length h.nodes) (node : IsNode n)
    (closed : open_session (node_of h n).book ≡ None) where
  abbrev heeding : Heeds
  heeding = heeds_alone taken

  abbrev begun : HostState
  begun = after h (Begins n session command)

  abbrev with_begin : List Entry
  with_begin = past ++ entry.Begin n session command ∷ []

  -- none of it was of a session that is open
  no_more : (sealer : Sealer) → (sealer.pending ≡ []) ⊎ ((is_late heeding past n ≡ true) × SealedOpen h n) → sealer.pending ≡ []
  no_more sealer (inl none) = none
  no_more sealer (inr (late, there)) = absurd (let was = there.opened in let bad : ◌≡◌ {A = Option ℕ} None (Some there.session) = sym closed ∙ was in cc)

  here_begun : (sealer : Sealer) → SealerSo key heeding past n h sealer → SealerSo key heeding with_begin n begun sealer
  here_begun sealer so =
      let at = here_node h n node_begins within in
      record {
        seen = so.seen ∙ sym (ap (λ (s : NodeState). s.seen) at);
        texts = record {
          text = λ t is. so.texts.text t (sym (ap (λ (s : NodeState). s.text) at) ∙ is);
          pending = λ p is. so.texts.pending p (sym (ap (λ (s : NodeState). s.pending) at) ∙ is);
        };
        waits = λ none. inl (no_more sealer (so.waits (sym (ap (λ (s : NodeState). s.pending) at) ∙ none)));
      }

  books_begun : (d : Course) → BooksSo key heeding past h d → BooksSo key heeding with_begin begun d
  books_begun d books =
      books_one key heeding past with_begin h d.books d.offered d.opened d.sealed books begun n refl (λ m. refl)
      (λ m is other.
      sealer_on key heeding past with_begin m h begun (book_of m d.books).sealer (same_alike (node_of h m) (node_of begun m) (other_node h n node_begins m other))
      (λ number order found. taken_set h.commands command outcome.Begun number ∙ found)
      (late_on taken m past (entry.Begin n session command ∷ []) (ne_eqb n m (λ same. other (sym same)), tt)) (books.sealers m is))
      (here_begun (book_of n d.books).sealer (books.sealers n node))

-- ---- an event

-- a note of the host, or a session that begins
record OwnSo (past : List Entry) (e : Entry) : Type 0 where
  plainly : IsPlainly e
  unmarked : is_mark e ≡ false
  of_host : is_of_host e ≡ true
  behind : is_before_host past e ≡ false
  stands : may_stand past e ≡ true
  fresh : begins_refused (e ∷ []) ≡ false

told_one : (e : Entry) (told : List Entry) → AreTold (Note e ∷ []) told → told ≡ e ∷ []
told_one e told (rest, is, none) = is ∙ ap (λ (l : List Entry). e ∷ l) none

queued_quiet : (h : HostState) (n : ℕ) (p : Purpose) → IsQuiet h p → IsQuiet (after h (Queues_no_more n)) p
queued_quiet h n p quiet = record { errands = quiet.errands; sleeps = same p ∙ quiet.sleeps; interviews = quiet.interviews }
  where
    same : (p : Purpose) → sleep_entries (after h (Queues_no_more n)) p ≡ sleep_entries h p
    same (Housekeeping (NoMore k)) = ap (λ (b : Bool). asleep_entry b k) (queued_awake h n k)
    same (Housekeeping task) = refl
    same (Attempt k more payload) = refl
    same Abort = refl

unkept_awake : (n k : ℕ) (full : Bool) → Begin_unkept n ≡ (if full then Drops_no_more k else Queues_no_more k) → ⊥
unkept_awake n k true is = cc
unkept_awake n k false is = cc

pumping_idle : (taken : List Entry → Carried → List Told) (here : Phase) → IsPumping here → IsIdle taken here
pumping_idle taken Sleeping pumping = tt
pumping_idle taken Submitting pumping = tt
pumping_idle taken here pumping = absurd pumping

module _ (key : List ℕ) (taken : List Entry → Carried → List Told) (from : Outset) (shows : ShowsOpen) where
  abbrev heeds : Heeds
  heeds = heeds_alone taken

  abbrev Knows : Phase → List Entry → HostMachine → Type 0
  Knows here past m = KnowsCourse key taken from (first_of key) here past m

  as_rest : (here : Phase) (past : List Entry) (m : HostMachine) → IsPumping here → Knows here past m → AtRest key taken from past m
  as_rest Sleeping past m pumping known = known
  as_rest Submitting past m pumping known = known
  as_rest here past m pumping known = absurd pumping

  goes_next : (here next : Phase) (later : List Entry) (h : HostState) (event : HostEvent) (k : HostMachine) → IsPumping here → GoesBy here h event next → AtRest key taken from later k → Knows next later k
  goes_next Sleeping next later h event k pumping by at = subst (λ (p : Phase). Knows p later k) (sym by.3) at
  goes_next Submitting next later h event k pumping by at = subst (λ (p : Phase). Knows p later k) (sym by.1) at
  goes_next here next later h event k pumping by at = absurd pumping

  -- an entry of the host
  module _ (here : Phase) (past : List Entry) (m : HostMachine) (event : HostEvent) (e : Entry) (pumping : IsPumping here) (ground : NotingGround taken here past m) (awaits : m.awaits ≡ false)
      (own : OwnSo past e) (books : BooksGo key heeds past (past ++ e ∷ []) m (done m event)) (under : (done m event).state.requests.under_way ≡ m.state.requests.under_way)
      (stays : is_data (asked past).frame ≡ true → Stays past (past ++ e ∷ [])) (at : AtRest key taken from past m) where
    b : BecomesLevel key taken past m (comes_to heeds past e) at.course
    b =
        comes_level key taken shows here past m ground (pumping_idle taken here pumping) (now_is taken here past m ground awaits) e (plainly_within e own.plainly) at.course (inl at.frames) at.follows
        own.of_host own.behind (frames_next m.came at.frames)

    own_level : IsLevel key heeds (past ++ e ∷ []) (done m event) b.0.next
    own_level =
        is_level_on key heeds past (past ++ e ∷ []) m (done m event) books under b.0.next
        (λ lags. stays (read_framed (asked past).frame (request_of lags.purpose lags.id) lags.request)) b.2

    own_on : AtRest key taken from (past ++ e ∷ []) (done m event)
    own_on = record {
      course = b.0.next;
      of = course_goes heeds from past (e ∷ []) at.course b.0.next own.fresh at.of
          (goes_plain heeds past e at.course b.0.next own.plainly own.unmarked own.stands at.follows.fits b.0.fits b.0.none_due b.0.goes);
      follows = record {
        fits = b.0.fits;
        none_due = b.0.none_due;
        low = b.0.low;
        heeded = becomes_heeded key taken past m (comes_to heeds past e) at.course at.follows.heeded b.0;
        so = level_so key taken (past ++ e ∷ []) (done m event) b.0.next own_level;
      };
      frames = at.frames;
    }

  -- whose entry leaves attempts, and which leaves the books
  module _ (here next : Phase) (past : List Entry) (m : HostMachine) (event : HostEvent) (e : Entry) (ground : NotingGround taken here past m)
      (after_it : NotingGround taken next (past ++ e ∷ []) (done m event)) (left : LeavesBooks m.state (after m.state event)) (leaves : LeavesAttempts e) where
    left_books : BooksGo key heeds past (past ++ e ∷ []) m (done m event)
    left_books d was =
        books_left key heeds (timed m past) (timed (done m event) (past ++ e ∷ [])) m.state (after m.state event) left
        (λ n is late. late_timed taken here next past (past ++ e ∷ []) m (done m event) ground after_it (omega arith) n (attempts_left taken n past (e ∷ []) (leaves, tt)) late) d was

  timed_none : (m : HostMachine) (past : List Entry) → m.awaits ≡ false → timed m past ≡ past
  timed_none m past awaits = ap (λ (b : Bool). if b then past ++ entry.Time m.clock ∷ [] else past) awaits

  -- a session begins
  begin_on : (here : Phase) (past : List Entry) (m : HostMachine) (n session command : ℕ) → IsPumping here → NotingGround taken here past m → m.awaits ≡ false
      → MayHost m.state (Begins n session command) → AtRest key taken from past m → AtRest key taken from (past ++ entry.Begin n session command ∷ []) (done m (Begins n session command))
  begin_on here past m n session command pumping ground awaits may at =
      own_on here past m (Begins n session command) (entry.Begin n session command) pumping ground awaits
      (record { plainly = tt; unmarked = refl; of_host = refl; behind = refl; stands = refl; fresh = refl })
      (λ d was.
      subst (λ (l : List Entry). BooksSo key heeds l (after m.state (Begins n session command)) d)
      (sym (timed_none (done m (Begins n session command)) (past ++ entry.Begin n session command ∷ []) awaits))
      (books_begun key taken past m.state n session command (within_of here past m ground.grounds n node.1) node may.1.1 d
      (subst (λ (l : List Entry). BooksSo key heeds l m.state d) (timed_none m past awaits) was)))
      refl (λ framed. stays_quiet past (entry.Begin n session command ∷ []) framed (tt, tt)) at
    where
      node : IsNode n
      node = served_is_node m.state n may.0.next

  -- its record is not kept
  unkept_may : (here next : Phase) (past : List Entry) (m : HostMachine) (n : ℕ) → IsPumping here → GoesBy here m.state (Begin_unkept n) next → NotingGround taken here past m → m.awaits ≡ false
      → MayHost m.state (Begin_unkept n) → may_begin n past ≡ true
  unkept_may Sleeping next past m n pumping by ground awaits may = absurd (unkept_awake n by.0 (is_full m.state) by.2)
  unkept_may Submitting next past m n pumping by ground awaits may = begins_so taken past m n ground awaits may
  unkept_may here next past m n pumping by ground awaits may = absurd pumping

  unkept_on : (here next : Phase) (past : List Entry) (m : HostMachine) (n : ℕ) → IsPumping here → NotingGround taken here past m
      → NotingGround taken next (past ++ entry.Unkept n ∷ []) (done m (Begin_unkept n)) → m.awaits ≡ false → may_begin n past ≡ true → AtRest key taken from past m
      → AtRest key taken from (past ++ entry.Unkept n ∷ []) (done m (Begin_unkept n))
  unkept_on here next past m n pumping ground after_it awaits may at =
      own_on here past m (Begin_unkept n) (entry.Unkept n) pumping ground awaits
      (record { plainly = tt; unmarked = refl; of_host = refl; behind = refl; stands = may; fresh = refl })
      (left_books here next past m (Begin_unkept n) (entry.Unkept n) ground after_it (unkept_left m.state n) tt)
      refl (λ framed. stays_quiet past (entry.Unkept n ∷ []) framed (tt, tt)) at

  -- No More Information is dropped
  dropped_on : (here next : Phase) (past : List Entry) (m : HostMachine) (n : ℕ) → IsPumping here → NotingGround taken here past m
      → NotingGround taken next (past ++ entry.QueueFull n ∷ []) (done m (Drops_no_more n)) → m.awaits ≡ false → AtRest key taken from past m
      → AtRest key taken from (past ++ entry.QueueFull n ∷ []) (done m (Drops_no_more n))
  dropped_on here next past m n pumping ground after_it awaits at =
      own_on here past m (Drops_no_more n) (entry.QueueFull n) pumping ground awaits
      (record { plainly = tt; unmarked = refl; of_host = refl; behind = refl; stands = refl; fresh = refl })
      (left_books here next past m (Drops_no_more n) (entry.QueueFull n) ground after_it (dropped_left m.state n) tt)
      refl (λ framed. stays_quiet past (entry.QueueFull n ∷ []) framed (tt, tt)) at

  -- it waits
  queued_on : (here next : Phase) (past : List Entry) (m : HostMachine) (n : ℕ) → NotingGround taken here past m → NotingGround taken next (past ++ []) (done m (Queues_no_more n))
      → AtRest key taken from past m → AtRest key taken from (past ++ []) (done m (Queues_no_more n))
  queued_on here next past m n ground after_it at = record {
    course = at.course;
    of = course_goes heeds from past [] at.course at.course refl at.of (goes_nowhere heeds past at.course);
    follows = record {
      fits = at.follows.fits;
      none_due = at.follows.none_due;
      low = at.follows.low;
      heeded = at.follows.heeded;
      so = so_on key heeds past (past ++ []) m (done m (Queues_no_more n))
          (λ d was.
          books_left key heeds (timed m past) (timed (done m (Queues_no_more n)) (past ++ [])) m.state (after m.state (Queues_no_more n)) (queued_left m.state n)
          (λ k is late. late_timed taken here next past (past ++ []) m (done m (Queues_no_more n)) ground after_it (omega arith) k (attempts_left taken k past [] tt) late) d was)
          refl at.course
          (λ lags. let framed = read_framed (asked past).frame (request_of lags.purpose lags.id) lags.request in (stays_quiet past [] framed tt, denied_quiet past [] framed tt))
          (queued_quiet m.state n) (omega arith) at.follows.so;
    };
    frames = at.frames;
  }

  -- ---- steps

  module _ (along : GroundAlong taken (first_of key)) where
    -- what stands there, with what is known of it
    to_told : (next : Phase) (past told these : List Entry) (k : HostMachine) → told ≡ these → NotingGround taken next (past ++ told) k
        → (NotingGround taken next (past ++ these) k → AtRest key taken from (past ++ these) k) → AtRest key taken from (past ++ told) k
    to_told next past told these k is ground on =
        subst (λ (l : List Entry). AtRest key taken from (past ++ l) k) (sym is) (on (subst (λ (l : List Entry). NotingGround taken next (past ++ l) k) is ground))

    pub pumps : (here next : Phase) (past told : List Entry) (m : HostMachine) (event : HostEvent) → IsPumping here → IsUnsent event → StepFollows key taken from here past m (Does event told) next
    pumps here next past told m (Begins n session command) pumping unsent sure so may known =
        let e : Entry = entry.Begin n session command in
        let k : HostMachine = done m (Begins n session command) in
        let is = told_one e told may.2 in
        goes_next here next (past ++ told) m.state (Begins n session command) k pumping may.0
        (to_told next past told (e ∷ []) k is (along next (past ++ told) k (sure_does taken (first_of key) sure (Begins n session command) told may))
        (λ after_it. begin_on here past m n session command pumping (along here past m sure) (not_awaiting m.awaits e told [] may.3 is) may.1.0 (as_rest here past m pumping known)))
    pumps here next past told m (Begin_unkept n) pumping unsent sure so may known =
        let e : Entry = entry.Unkept n in
        let k : HostMachine = done m (Begin_unkept n) in
        let is = told_one e told may.2 in
        let awaits = not_awaiting m.awaits e told [] may.3 is in
        goes_next here next (past ++ told) m.state (Begin_unkept n) k pumping may.0
        (to_told next past told (e ∷ []) k is (along next (past ++ told) k (sure_does taken (first_of key) sure (Begin_unkept n) told may))
        (λ after_it. unkept_on here next past m n pumping (along here past m sure) after_it awaits (unkept_may here next past m n pumping may.0 (along here past m sure) awaits may.1.0)
        (as_rest here past m pumping known)))
    pumps here next past told m (Queues_no_more n) pumping unsent sure so may known =
        let k : HostMachine = done m (Queues_no_more n) in
        goes_next here next (past ++ told) m.state (Queues_no_more n) k pumping may.0
        (to_told next past told [] k may.2 (along next (past ++ told) k (sure_does taken (first_of key) sure (Queues_no_more n) told may))
        (λ after_it. queued_on here next past m n (along here past m sure) after_it (as_rest here past m pumping known)))
    pumps here next past told m (Drops_no_more n) pumping unsent sure so may known =
        let e : Entry = entry.QueueFull n in
        let k : HostMachine = done m (Drops_no_more n) in
        let is = told_one e told may.2 in
        goes_next here next (past ++ told) m.state (Drops_no_more n) k pumping may.0
        (to_told next past told (e ∷ []) k is (along next (past ++ told) k (sure_does taken (first_of key) sure (Drops_no_more n) told may))
        (λ after_it. dropped_on here next past m n pumping (along here past m sure) after_it (not_awaiting m.awaits e told [] may.3 is) (as_rest here past m pumping known)))
    pumps here next past told m event pumping unsent sure so may known = absurd unsent
