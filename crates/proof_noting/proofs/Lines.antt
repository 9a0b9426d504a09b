-- The course of a host's notes at the words of a line, at what the line is answered, and at words that are no line.
use Rattle.std.proofs.Common.{◌≡◌, ◌≤◌, ℕ, ◌+◌, ◌&&◌, not, Bool, true, false, if◌then◌else◌, inl, List, [], ◌∷◌, ◌++◌, Option, length, refl, sym, ap, ◌∙◌, subst, append_assoc, arith}
use Rattle.std.specs.Prelude.{nat_lt}
use Rattle.std.specs.List.{AllByRecursion}
use Rattle.std.proofs.lemmas.Bool.{and_right, le-ltb}
use Rattle.chip_functions.specs.Field.{IsNode}
use Rattle.zw_text.specs.declared.line.Line.{Line}
use Rattle.zw_text.specs.declared.line.Line.TheVariants as lines
use Rattle.zw_text.specs.declared.entry.Refusal.{Refusal}
use Rattle.zw_text.specs.declared.entry.Ended.TheVariants.{Cancelled}
use Rattle.zw_text.specs.declared.entry.Entry.{Entry}
use Rattle.zw_text.specs.declared.entry.Entry.TheVariants as entry
use Rattle.zw_text.specs.Transcript.{line_of}
use Rattle.host_heard.specs.declared.told.Told.{Told}
use Rattle.law_transcript.specs.Restarts.{begins_refused, is_restart, ticks_of}
use Rattle.law_transcript.specs.Units.{Carried}
use Rattle.law_time.specs.Heeds.{Heeds}
use Rattle.law_time.specs.Moments.{clock, now_at}
use Rattle.law_time.specs.Requests.{are_none, asked}
use Rattle.host_requests.specs.Frames.{request_of}
use Rattle.host_model.specs.After.{after}
use Rattle.host_model.specs.Did.{MayAll}
use Rattle.host_model.specs.Events.{HostEvent, Accepts, Cancels}
use Rattle.host_model.specs.Outs.{answers}
use Rattle.host_model.specs.State.{HostState}
use Rattle.proof_hearing.specs.proof_queue.proof_attempts.proof_requests.proof_waking.world_model.Events.{shown_values}
use Rattle.proof_hearing.specs.proof_choice.proof_giving.Told.{attempts_so_far}
use Rattle.proof_hearing.proofs.Asked.{answers_leave, answers_quiet}
use Rattle.proof_hearing.proofs.InOrder.{is_asked}
use Rattle.proof_hearing.proofs.proof_queue_Stepping.{asked_on}
use Rattle.proof_hearing.proofs.Told.{attempts_in_vain, attempts_left, attempts_said}
use Rattle.proof_hearing.proofs.proof_requests_Telling.{IsQuiet as IsQuietEntry, clock_same}
use Rattle.proof_hearing.proofs.ReadyTie.{ground_of}
use Rattle.proof_hearing.specs.Books.{BooksSo}
use Rattle.proof_hearing.specs.Hearing.{choosing}
use Rattle.proof_hearing.specs.proof_queue.proof_attempts.proof_requests.law_host.Course.{Course, restarted}
use Rattle.proof_hearing.specs.proof_queue.proof_attempts.proof_requests.law_host.Following.{comes_to, course_after, has_heard, has_ticked, is_before_host, is_of_host, after as followed}
use Rattle.proof_hearing.specs.proof_queue.proof_attempts.proof_requests.law_host.Heard.{heeds_alone}
use Rattle.proof_hearing.specs.proof_queue.proof_attempts.proof_requests.law_host.Nonces.{is_late}
use Rattle.proof_hearing.specs.proof_queue.proof_attempts.proof_requests.law_host.Ticks.{denies, ticks}
use Rattle.proof_hearing.specs.proof_queue.proof_attempts.proof_requests.proof_alone.Phases.{Phase, Resting, Asked, Open}
use Rattle.proof_hearing.specs.proof_queue.proof_attempts.proof_requests.proof_alone.State.{HostMachine, done}
use Rattle.proof_hearing.specs.proof_queue.proof_attempts.proof_requests.proof_alone.Steps.{AreFrames, IsAskedBy, Says, Says_nothing, Asks, Refuses, Shows, happens}
use Rattle.proof_hearing.proofs.proof_requests_Growing.{asked_in_vain, asked_said}
use Rattle.proof_hearing.specs.proof_choice.proof_following.Quiet.{IsWithin}
use Rattle.proof_hearing.proofs.Entering.{comes_within, plain_after, plainly_within}
use Rattle.proof_hearing.proofs.proof_ends_Walking.{ShowsOpen}
use Rattle.proof_noting.specs.Behind.{AtOpen}
use Rattle.proof_noting.specs.Following.{Follows, Goes, IsLevel, Outset, timed}
use Rattle.proof_noting.specs.Ground.{GroundAlong, NotingGround}
use Rattle.proof_noting.specs.Noting.{Anew, AtRest, AtWords, IsSaid, KnowsCourse}
use Rattle.proof_noting.specs.Steps.{StepFollows, first_of}
use Rattle.proof_noting.proofs.Becoming.{BecomesLevel, becomes_heeded, level_books, level_so, passes_so, ticks_now}
use Rattle.proof_noting.proofs.Onwards.{PlainSo, now_is}
use Rattle.proof_noting.proofs.Choosing.{course_goes, goes_nowhere, goes_on, goes_plain}
use Rattle.proof_noting.proofs.Going.{is_level_on, late_timed}
use Rattle.proof_noting.proofs.Lately.{same_late, timed_attempts, timed_clock}
use Rattle.proof_noting.proofs.Leaving.{LeavesBooks, asked_left, books_left, same_left}
use Rattle.proof_noting.proofs.Requested.{read_framed, stays_on, stays_quiet}
use Rattle.proof_noting.proofs.Surely.{sure_step}

-- ---- where the course has gone through the tick

module _ (heeds : Heeds) where
  done_comes : (past : List Entry) (e : Entry) (c : Course) → IsWithin e → c.due ≡ [] → nat_lt c.ticked (clock past) ≡ false → is_of_host e ≡ false → comes_to heeds past e c ≡ c
  done_comes past e c within none late of =
      comes_within heeds past e c within
      ∙ ap (λ (l : List Entry). if are_none l then has_heard heeds past e (has_ticked heeds past e c) else c) none
      ∙ ap (λ (d : Course). has_heard heeds past e d) (ap (λ (a : Bool). if a && not (is_before_host past e) then ticks heeds past (clock past) c else c) late)
      ∙ ap (λ (b : Bool). if b then denies heeds past c else c) (and_right (are_none c.due) (is_of_host e) of)

  done_goes : (past : List Entry) (e : Entry) (c : Course) → PlainSo e → c.ticked ≡ clock past → c.fits ≡ true → c.due ≡ [] → Goes heeds past (e ∷ []) c c
  done_goes past e c plain at fits none =
      goes_plain heeds past e c c plain.plainly plain.unmarked (plain.stands past) fits fits none
      (λ keepings texts. done_comes past e (choosing keepings texts c) (plainly_within e plain.plainly) none (le-ltb c.ticked (clock past) (omega (arith, at))) plain.not_host)

-- ---- what it is answered

shown_plain : (text : List ℕ) → PlainSo (entry.Json text)
shown_plain text = record { plainly = tt; unmarked = refl; not_host = refl; stands = λ past. refl }

module _ (heeds : Heeds) (past : List Entry) (c : Course) (at : c.ticked ≡ clock past) (fits : c.fits ≡ true) (none : c.due ≡ []) where
  answers_go : (h : HostState) (event : HostEvent) → (begins_refused (answers h event) ≡ false) × Goes heeds past (answers h event) c c
  answers_go h (Accepts order carriage) =
      (refl, done_goes heeds past (entry.Accepted (length h.commands + 1) order.node) c (record { plainly = tt; unmarked = refl; not_host = refl; stands = λ past. refl }) at fits none)
  answers_go h (Cancels command) =
      (refl, done_goes heeds past (entry.Out command Cancelled) c (record { plainly = tt; unmarked = refl; not_host = refl; stands = λ past. refl }) at fits none)
  answers_go h event = (refl, goes_nowhere heeds past c)

-- ---- words

module _ (key : List ℕ) (taken : List Entry → Carried → List Told) (from : Outset) (shows : ShowsOpen) where
  abbrev heeds : Heeds
  heeds = heeds_alone taken

  -- with these ticks to come of the line
  abbrev said : HostMachine → ℕ → HostMachine
  said m left = record m { left = left; awaits = false }

  module _ (next : Phase) (past : List Entry) (m : HostMachine) (words : List ℕ) (left : ℕ) (ground : NotingGround taken Resting past m)
      (after : NotingGround taken next (past ++ entry.Said words ∷ []) (said m left)) (over : m.left ≡ 0) (at : AtRest key taken from past m) where
    abbrev told : List Entry
    told = entry.Said words ∷ []

    abbrev in_vain : Refusal → List Entry
    in_vain refusal = entry.Said words ∷ (entry.Refused refusal ∷ [])

    b : BecomesLevel key taken past m (ticks heeds past m.clock) at.course
    b = ticks_now key taken shows Resting past m ground tt at.frames at.course at.follows

    there : now_at past (entry.Said words) ≡ m.clock
    there = let asks = (ground_of Resting past m ground.grounds).0.0.0.1.asked in omega (arith, asks, over)

    abbrev gone : Course
    gone = b.0.next

    -- before them it goes through all ticks
    said_after : (rest : List Entry) (keepings : List Bool) (texts : List (Option (List ℕ)))
        → followed heeds past (entry.Said words) rest (choosing keepings texts at.course)
        ≡ (if is_restart (line_of (entry.Said words)) && not (begins_refused rest) then restarted (choosing keepings texts gone) else choosing keepings texts gone)
    said_after rest keepings texts =
        plain_after heeds past (entry.Said words) rest (choosing keepings texts at.course) (choosing keepings texts gone) refl at.follows.fits
        (passes_so key taken past m (entry.Said words) m.clock at.course there at.follows.fits at.follows.none_due b.0 keepings texts) b.0.none_due b.0.fits refl

    follows_by : (later : List Entry) (k : HostMachine) → k.clock ≡ m.clock → IsLevel key heeds later k gone → Follows key taken later k gone
    follows_by later k time level = record {
      fits = b.0.fits;
      none_due = b.0.none_due;
      low = let low = b.0.low in omega (arith, low, time);
      heeded = becomes_heeded key taken past m (ticks heeds past m.clock) at.course at.follows.heeded b.0;
      so = level_so key taken later k gone level;
    }

    -- late attempts stay so, to a transcript of this time
    late_by : (later : List Entry) → m.clock ≤ clock later → (n : ℕ) → attempts_so_far heeds n later ≡ attempts_so_far heeds n past → is_late heeds (timed m past) n ≡ true → is_late heeds later n ≡ true
    late_by later less n same late =
        same_late taken n (timed m past) later (let was = timed_clock taken Resting past m (ground_of Resting past m ground.grounds) in omega (arith, was, less))
        (same ∙ sym (timed_attempts taken n past m)) late

    said_books : (later : List Entry) → m.clock ≤ clock later → ((n : ℕ) → attempts_so_far heeds n later ≡ attempts_so_far heeds n past) → (d : Course)
        → BooksSo key heeds (timed m past) m.state d → BooksSo key heeds later m.state d
    said_books later less same d books = books_left key heeds (timed m past) later m.state m.state (same_left m.state) (λ n is late. late_by later less n (same n) late) d books

    now_then : clock (past ++ told) ≡ m.clock
    now_then = now_is taken next (past ++ told) (said m left) after refl

    -- they do not start it again
    pub words_go_on : is_restart (line_of (entry.Said words)) ≡ false → IsSaid key taken from (past ++ told) (said m left)
    words_go_on on = (
      record {
        course = gone;
        of = course_goes heeds from past told at.course gone refl at.of
            (goes_on heeds past told at.course gone (λ keepings texts. said_after [] keepings texts
            ∙ ap (λ (r : Bool). if r && not (begins_refused []) then restarted (choosing keepings texts gone) else choosing keepings texts gone) on));
        follows = follows_by (past ++ told) (said m left) refl level;
        frames = at.frames;
      },
      b.1,
      level,
    )
      where
        level : IsLevel key heeds (past ++ told) (said m left) gone
        level =
            is_level_on key heeds past (past ++ told) m (said m left)
            (said_books (past ++ told) (let now = now_then in omega (arith, now)) (λ n. attempts_said taken n past words on)) refl gone
            (λ lags. stays_on past told (read_framed (asked past).frame (request_of lags.purpose lags.id) lags.request) (asked_said past words on) (tt, tt)) b.2

    -- they do
    words_anew : is_restart (line_of (entry.Said words)) ≡ true → Anew key taken from (past ++ told) (said m left)
    words_anew anew = record {
      course = gone;
      of = course_goes heeds from past told at.course (restarted gone) refl at.of
          (goes_on heeds past told at.course (restarted gone) (λ keepings texts. said_after [] keepings texts
          ∙ ap (λ (r : Bool). if r && not (begins_refused []) then restarted (choosing keepings texts gone) else choosing keepings texts gone) anew));
      fits = b.0.fits;
      none_due = b.0.none_due;
      low = b.0.low;
      heeded = becomes_heeded key taken past m (ticks heeds past m.clock) at.course at.follows.heeded b.0;
      somewhere = timed m past;
      books = level_books key heeds past m gone b.2;
    }

    -- they are refused
    words_in_vain : (refusal : Refusal) → IsSaid key taken from ((past ++ told) ++ entry.Refused refusal ∷ []) (said m left)
    words_in_vain refusal = subst (λ (l : List Entry). IsSaid key taken from l (said m left)) (sym (append_assoc past told (entry.Refused refusal ∷ []))) whole
      where
        same_time : clock (past ++ in_vain refusal) ≡ m.clock
        same_time =
            ap clock (sym (append_assoc past told (entry.Refused refusal ∷ []))) ∙ clock_same (past ++ told) (entry.Refused refusal ∷ []) (tt, tt) ∙ now_then

        level : IsLevel key heeds (past ++ in_vain refusal) (said m left) gone
        level =
            is_level_on key heeds past (past ++ in_vain refusal) m (said m left)
            (said_books (past ++ in_vain refusal) (let now = same_time in omega (arith, now)) (λ n. attempts_in_vain taken n past words refusal)) refl gone
            (λ lags. stays_on past (in_vain refusal) (read_framed (asked past).frame (request_of lags.purpose lags.id) lags.request) (asked_in_vain past words refusal) (tt, (tt, tt))) b.2

        refused : (keepings : List Bool) (texts : List (Option (List ℕ)))
            → course_after heeds past (in_vain refusal) (choosing keepings texts at.course) ≡ choosing keepings texts gone
        refused keepings texts =
            ap (λ (c : Course). followed heeds (past ++ told) (entry.Refused refusal) [] c)
            (said_after (entry.Refused refusal ∷ []) keepings texts
            ∙ ap (λ (r : Bool). if r then restarted (choosing keepings texts gone) else choosing keepings texts gone)
            (and_right (is_restart (line_of (entry.Said words))) (not (begins_refused (entry.Refused refusal ∷ []))) refl))
            ∙ plain_after heeds (past ++ told) (entry.Refused refusal) [] (choosing keepings texts gone) (choosing keepings texts gone) refl b.0.fits
            (done_comes heeds (past ++ told) (entry.Refused refusal) (choosing keepings texts gone) tt b.0.none_due
            (le-ltb gone.ticked (clock (past ++ told)) (let at = b.1 in let now = now_then in omega (arith, at, now))) refl) b.0.none_due b.0.fits refl

        whole : IsSaid key taken from (past ++ in_vain refusal) (said m left)
        whole = (
          record {
            course = gone;
            of = course_goes heeds from past (in_vain refusal) at.course gone refl at.of (goes_on heeds past (in_vain refusal) at.course gone refused);
            follows = follows_by (past ++ in_vain refusal) (said m left) refl level;
            frames = at.frames;
          },
          b.1,
          level,
        )

    pub at_words : (line : Line) → line_of (entry.Said words) ≡ line ∷ [] → AtWords key taken from line (past ++ told) (said m left)
    at_words line read = record {
      before = past;
      words = words;
      are = refl;
      read = read;
      unnumbered = refl;
      frames = at.frames;
      goes_on = λ on. words_go_on (ap is_restart read ∙ on);
      anew = λ anew. words_anew (ap is_restart read ∙ anew);
      in_vain = λ refusal. words_in_vain refusal;
    }

  -- ---- what they are answered

  module _ (line : Line) (past told : List Entry) (m k : HostMachine) (ground : NotingGround taken (Asked line) past m) (after : NotingGround taken Open (past ++ told) k)
      (left : LeavesBooks m.state k.state) (time : k.clock ≡ m.clock) (came : k.came ≡ m.came) (quiet : AllByRecursion IsQuietEntry told)
      (same : (n : ℕ) → IsNode n → attempts_so_far heeds n (past ++ told) ≡ attempts_so_far heeds n past) where
    answered_on : (begins_refused told ≡ false) → (s : IsSaid key taken from past m) → Goes heeds past told s.0.course s.0.course → AtOpen key taken from (past ++ told) k
    answered_on fresh s goes = record {
      course = s.0.course;
      of = course_goes heeds from past told s.0.course s.0.course fresh s.0.of goes;
      follows = record {
        fits = s.0.follows.fits;
        none_due = s.0.follows.none_due;
        low = let low = s.0.follows.low in omega (arith, low, time);
        heeded = s.0.follows.heeded;
        so = level_so key taken (past ++ told) k s.0.course level;
      };
      answered = inl (subst (λ l. AreFrames l) (sym came) s.0.frames);
    }
      where
        less : m.clock ≤ k.clock
        less = omega (arith, time)

        level : IsLevel key heeds (past ++ told) k s.0.course
        level =
            is_level_on key heeds past (past ++ told) m k
            (λ d books. books_left key heeds (timed m past) (timed k (past ++ told)) m.state k.state left
            (λ n is late. late_timed taken (Asked line) Open past (past ++ told) m k ground after less n (same n is) late) d books)
            left.under_way s.0.course
            (λ lags. stays_quiet past told (read_framed (asked past).frame (request_of lags.purpose lags.id) lags.request) quiet) s.2

  asks_at : (line : Line) (past : List Entry) (m : HostMachine) (event : HostEvent) → NotingGround taken (Asked line) past m → NotingGround taken Open (past ++ answers m.state event) (done m event)
      → IsAskedBy line m.state event → MayAll m.state (event ∷ []) → AtWords key taken from line past m → AtOpen key taken from (past ++ answers m.state event) (done m event)
  asks_at line past m event ground after is may known =
      answered_on line past (answers m.state event) m (done m event) ground after (asked_left line m.state event is) refl refl (answers_quiet m.state event (is_asked line m.state event is))
      (λ n node. answers_leave taken n node.1 past m.state event (is_asked line m.state event is) may.0 (ground_of (Asked line) past m ground.grounds).0.0.0.0.0.facts) go.0 s go.1
    where
      s : IsSaid key taken from past m
      s = known.goes_on (asked_on line m.state event is)

      go : (begins_refused (answers m.state event) ≡ false) × Goes heeds past (answers m.state event) s.0.course s.0.course
      go =
          answers_go heeds past s.0.course (s.1 ∙ sym (now_is taken (Asked line) past m ground known.unnumbered)) s.0.follows.fits s.0.follows.none_due m.state event

  shows_at : (node : ℕ) (text : List ℕ) (past : List Entry) (m : HostMachine) → NotingGround taken (Asked (lines.Store node)) past m → NotingGround taken Open (past ++ entry.Json text ∷ []) m
      → AtWords key taken from (lines.Store node) past m → AtOpen key taken from (past ++ entry.Json text ∷ []) m
  shows_at node text past m ground after known =
      answered_on (lines.Store node) past (entry.Json text ∷ []) m m ground after (same_left m.state) refl refl (tt, tt)
      (λ n is. attempts_left taken n past (entry.Json text ∷ []) (tt, tt)) refl s
      (done_goes heeds past (entry.Json text) s.0.course (shown_plain text) (s.1 ∙ sym (now_is taken (Asked (lines.Store node)) past m ground known.unnumbered)) s.0.follows.fits s.0.follows.none_due)
    where
      s : IsSaid key taken from past m
      s = known.goes_on refl

  -- the same at the part that begins then
  said_open : (past : List Entry) (m : HostMachine) → IsSaid key taken from past m → AtOpen key taken from past m
  said_open past m s = record { course = s.0.course; of = s.0.of; follows = s.0.follows; answered = inl s.0.frames }

  -- ---- steps

  module _ (along : GroundAlong taken (first_of key)) where
    abbrev Knows : Phase → List Entry → HostMachine → Type 0
    Knows here past m = KnowsCourse key taken from (first_of key) here past m

    leads : (here next : Phase) (later : List Entry) (k : HostMachine) → next ≡ here → Knows here later k → Knows next later k
    leads here next later k is known = subst (λ (p : Phase). Knows p later k) (sym is) known

    grounds : (here is : Phase) (past : List Entry) (m : HostMachine) → here ≡ is → NotingGround taken here past m → NotingGround taken is past m
    grounds here is past m same ground = subst (λ (p : Phase). NotingGround taken p past m) same ground

    as_known : (here is : Phase) (past : List Entry) (m : HostMachine) → here ≡ is → Knows here past m → Knows is past m
    as_known here is past m same known = subst (λ (p : Phase). Knows p past m) same known

    pub says : (here next : Phase) (past : List Entry) (m : HostMachine) (words : List ℕ) (line : Line) → StepFollows key taken from here past m (Says words line) next
    says here next past m words line sure so may known =
        leads (Asked line) next (past ++ entry.Said words ∷ []) (happens m (Says words line)) may.3
        (at_words (Asked line) past m words (ticks_of line) (grounds here Resting past m may.0 (along here past m sure))
        (grounds next (Asked line) (past ++ entry.Said words ∷ []) (happens m (Says words line)) may.3
        (along next (past ++ entry.Said words ∷ []) (happens m (Says words line)) (sure_step taken (first_of key) sure (Says words line) may so)))
        may.1 (as_known here Resting past m may.0 known) line may.2)

    pub says_nothing : (here next : Phase) (past : List Entry) (m : HostMachine) (words : List ℕ) → StepFollows key taken from here past m (Says_nothing words) next
    says_nothing here next past m words sure so may known =
        leads Resting next (past ++ entry.Said words ∷ []) (happens m (Says_nothing words)) (may.3 ∙ may.0)
        (words_go_on Resting past m words m.left (grounds here Resting past m may.0 (along here past m sure))
        (grounds next Resting (past ++ entry.Said words ∷ []) (happens m (Says_nothing words)) (may.3 ∙ may.0)
        (along next (past ++ entry.Said words ∷ []) (happens m (Says_nothing words)) (sure_step taken (first_of key) sure (Says_nothing words) may so)))
        may.1 (as_known here Resting past m may.0 known) (ap is_restart may.2)).0

    pub asks : (here next : Phase) (past : List Entry) (m : HostMachine) (event : HostEvent) → StepFollows key taken from here past m (Asks event) next
    asks here next past m event sure so may known =
        leads Open next (past ++ answers m.state event) (done m event) may.5
        (asks_at may.0 past m event (grounds here (Asked may.0) past m may.1 (along here past m sure))
        (grounds next Open (past ++ answers m.state event) (done m event) may.5
        (along next (past ++ answers m.state event) (done m event) (sure_step taken (first_of key) sure (Asks event) may so)))
        may.2 may.3 (as_known here (Asked may.0) past m may.1 known))

    pub refuses : (here next : Phase) (past : List Entry) (m : HostMachine) (refusal : Refusal) → StepFollows key taken from here past m (Refuses refusal) next
    refuses here next past m refusal sure so may known =
        leads Open next (past ++ entry.Refused refusal ∷ []) m may.4
        (said_open (past ++ entry.Refused refusal ∷ []) m ((as_known here (Asked may.0) past m may.1 known).in_vain refusal))

    pub shows_stored : (here next : Phase) (past : List Entry) (m : HostMachine) (node : ℕ) → StepFollows key taken from here past m (Shows node) next
    shows_stored here next past m node sure so may known =
        leads Open next (past ++ shown_values m.state node ∷ []) m may.2
        (shows_at node _ past m (grounds here (Asked (lines.Store node)) past m may.0 (along here past m sure))
        (grounds next Open (past ++ shown_values m.state node ∷ []) m may.2
        (along next (past ++ shown_values m.state node ∷ []) m (sure_step taken (first_of key) sure (Shows node) may so)))
        (as_known here (Asked (lines.Store node)) past m may.0 known))
