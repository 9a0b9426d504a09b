-- The line's part of the host's own tick, and the part of the request under way: the course goes on with each.
use Rattle.host_heard.specs.declared.told.Told.{Told}
use Rattle.host_model.specs.After.{after, failing_if, gives_up, line_ticked}
use Rattle.host_model.specs.Events.{HostEvent, Line_ticks}
use Rattle.host_model.specs.State.{HostState}
use Rattle.host_requests.specs.Frames.{request_of}
use Rattle.host_requests.specs.State.{RequestsState}
use Rattle.host_requests.specs.declared.task.Purpose.{Purpose}
use Rattle.host_requests.specs.declared.under_way.UnderWay.{UnderWay}
use Rattle.law_time.specs.Ends.{ending_among}
use Rattle.law_time.specs.Heeds.{Heeds}
use Rattle.law_time.specs.Judged.{is_acknowledgement, is_data}
use Rattle.law_time.specs.Moments.{clock}
use Rattle.law_time.specs.Requests.{Asked, are_none, asked, copies as copies_of, is_copy, is_new, judged_since, sent_at}
use Rattle.law_transcript.specs.Units.{Carried, request_in, sending_in}
use Rattle.proof_hearing.proofs.Entering.{comes_within, plain_after}
use Rattle.proof_hearing.proofs.Ticking.{undenied}
use Rattle.proof_hearing.specs.proof_choice.proof_following.Quiet.{ended_silently}
use Rattle.proof_hearing.proofs.proof_attempts_Walking.{marks_quiet}
use Rattle.proof_hearing.proofs.BooksGo.{books_on}
use Rattle.proof_hearing.proofs.proof_requests_Growing.{asked_copy}
use Rattle.proof_hearing.proofs.proof_requests_Standing.{stands_copied}
use Rattle.proof_hearing.specs.Books.{BooksSo}
use Rattle.proof_hearing.specs.Hearing.{choosing}
use Rattle.proof_hearing.specs.proof_queue.proof_attempts.proof_requests.Standing.{Standing, first_ending}
use Rattle.proof_hearing.specs.proof_queue.proof_attempts.proof_requests.law_host.Course.{Course, each_in_turn}
use Rattle.proof_hearing.specs.proof_queue.proof_attempts.proof_requests.law_host.Ends.{ends_sealing}
use Rattle.proof_hearing.specs.proof_queue.proof_attempts.proof_requests.law_host.Following.{after as followed, comes_to, has_heard, has_ticked, is_of_host, requests as requests_so}
use Rattle.proof_hearing.specs.proof_queue.proof_attempts.proof_requests.law_host.Frames.{frame_next, judges}
use Rattle.proof_hearing.specs.proof_queue.proof_attempts.proof_requests.law_host.Heard.{heeds_alone}
use Rattle.proof_hearing.specs.proof_queue.proof_attempts.proof_requests.law_host.Nonces.{is_late}
use Rattle.proof_hearing.specs.proof_queue.proof_attempts.proof_requests.law_host.Ticks.{denies, is_denied, ticks}
use Rattle.proof_hearing.specs.proof_queue.proof_attempts.proof_requests.proof_alone.State.{HostMachine}
use Rattle.proof_hearing.specs.proof_queue.proof_attempts.proof_requests.proof_alone.Steps.{IsOfUnit}
use Rattle.proof_noting.proofs.Choosing.{course_goes, goes_both, goes_on as goes_on_so}
use Rattle.proof_noting.proofs.Lately.{late_on}
use Rattle.proof_noting.proofs.Marks.{marks_keep, marks_unrefused, units_go}
use Rattle.proof_noting.proofs.Requested.{Stays, read_framed, stays_quiet}
use Rattle.proof_noting.proofs.LeftBooks.{kept_books}
use Rattle.proof_noting.proofs.TickGround.{falls_quiet}
use Rattle.proof_noting.proofs.TickNoted.{nothing_told, still_none}
use Rattle.proof_noting.specs.Following.{Goes, IsQuiet, Lags, Level, Outset, timed}
use Rattle.proof_hearing.specs.proof_choice.proof_ends.Ascending.{Ascends}
use Rattle.proof_noting.specs.Ticking.{NoneNoted, TickSo}
use Rattle.proof_noting.specs.Ticking.TickSo.{Nothing}
use Rattle.serial_frame.specs.Frame.{FrameParts}
use Rattle.serial_link.specs.State.{Side, turn_ticked}
use Rattle.serial_link.specs.declared.turn.Turn.{Turn}
use Rattle.serial_link.specs.declared.turn.Turn.TheVariants.{Idle, Paused}
use Rattle.std.proofs.Common.{Bool, List, None, Option, Some, [], ap, append_assoc, ap₂, false, if◌then◌else◌, inl, inr, not, refl, subst, sym, true, ℕ, ◌&&◌, ◌++◌, ◌∙◌, ◌∷◌, ◌≡◌, ◌⊎◌}
use Rattle.std.specs.List.{AllByRecursion}
use Rattle.std.specs.Prelude.{bytes_eq, is_none, nat_lt}
use Rattle.zw_text.specs.declared.entry.Entry.{Entry}
use Rattle.zw_words.specs.declared.side.Side.TheVariants.{Host}
use Rattle.zw_text.specs.declared.entry.Entry.TheVariants as entry

or_same : (b : Bool) (d c : Course) → d ≡ c → (if b then d else c) ≡ c
or_same true d c same = same
or_same false d c same = refl

neither_is : (a : Bool) (d c : Course) → (if a && false then d else c) ≡ c
neither_is true d c = refl
neither_is false d c = refl

pub idle_never : {A : Type 0} (turn : Turn) (f : FrameParts) (copies ticks : ℕ) → turn ≡ Idle → turn ≡ Paused f copies ticks → A
idle_never turn f copies ticks idle paused = absurd (let bad : Idle ≡ Paused f copies ticks = sym idle ∙ paused in cc)

pub none_some : {A : Type 0} (o : Option UnderWay) (u : UnderWay) → o ≡ None → o ≡ Some u → A
none_some o u none some = absurd (let bad : None ≡ Some u = sym none ∙ some in cc)

-- of no copy, or of one
pub after_fails : (h : HostState) (b : Bool) → gives_up h.side.turn (turn_ticked h.side.turn) ≡ b → after h Line_ticks ≡ failing_if b (line_ticked h)
after_fails h b is = ap (λ (x : Bool). failing_if x (line_ticked h)) is

module _ (key : List ℕ) (taken : List Entry → Carried → List Told) (from : Outset) (left : List HostEvent) (past told : List Entry) (m : HostMachine) (known : NoneNoted key taken from past m) where
  abbrev heeds : Heeds
  heeds = heeds_alone taken

  abbrev h : HostState
  h = m.state

  -- the host with its line or its requests alone gone on
  pub side_books : (side : Side) (requests : RequestsState) → requests.queue ≡ m.state.requests.queue → (at : List Entry) (d : Course) → BooksSo key heeds at h d
      → BooksSo key heeds at (record m.state { side = side; requests = requests }) d
  side_books side requests queue at d books =
      kept_books key taken at at h (record m.state { side = side; requests = requests }) (record { nonces = refl; queue = queue; orders = λ number taken found. found }) d
      (λ n is. record { seen = refl; text = refl; pending = refl; opened = refl; commands = refl }) (λ n is late. late) books

  -- nothing is told, and the request is under way as it was
  pub none_goes : (side : Side) (requests : RequestsState) (r : Option (List (List ℕ))) → requests.queue ≡ m.state.requests.queue → is_none requests.under_way ≡ is_none m.state.requests.under_way
      → (m.state.requests.under_way ≡ None → requests.under_way ≡ None) → told ≡ [] → Ascends 0 left
      → TickSo key taken from (past ++ told) (record m { state = record m.state { side = side; requests = requests }; records = r }) left
  none_goes side requests r queue same none nothing above =
      Nothing above
      (nothing_told (λ (l : List Entry). NoneNoted key taken from l (record m { state = record m.state { side = side; requests = requests }; records = r })) past told nothing
      (still_none key taken from past m (record m.state { side = side; requests = requests }) r (side_books side requests queue (timed m past)) same none
      (falls_quiet h (record m.state { side = side; requests = requests }) (λ n falls. falls)) known))

  -- ---- a copy

  module _ (unit : List ℕ) (marks : List Entry) (framed_unit : is_data unit ≡ true) (other : is_acknowledgement unit ≡ false) (old : is_new (asked past) unit ≡ false) (all : AllByRecursion IsOfUnit marks)
      (undenied_so : is_denied past ≡ false) where
    abbrev wrote : Entry
    wrote = entry.Written Host unit

    abbrev later : List Entry
    later = past ++ wrote ∷ marks

    comes : (c : Course) → c.due ≡ [] → comes_to heeds past wrote c ≡ c
    comes c none =
        comes_within heeds past wrote c tt
        ∙ ap (λ (l : List Entry). if are_none l then has_heard heeds past wrote (has_ticked heeds past wrote c) else c) none
        ∙ ap (λ (d : Course). has_heard heeds past wrote d)
        (ap₂ (λ (a b : Bool). if nat_lt c.ticked (clock past) && not (a && not b) then ticks heeds past (clock past) c else c) framed_unit old
        ∙ neither_is (nat_lt c.ticked (clock past)) (ticks heeds past (clock past) c) c)
        ∙ or_same (are_none c.due && is_of_host wrote) (denies heeds past c) c (undenied heeds past (clock past) c (λ running. undenied_so))

    steps : (c : Course) → c.fits ≡ true → c.due ≡ [] → (keepings : List Bool) (texts : List (Option (List ℕ))) → followed heeds past wrote [] (choosing keepings texts c) ≡ choosing keepings texts c
    steps c fits none keepings texts =
        plain_after heeds past wrote [] (choosing keepings texts c) (choosing keepings texts c) refl fits (comes (choosing keepings texts c) none) none fits refl
        ∙ ap₂ (λ (a b : Bool). if a then each_in_turn (judges heeds past (past ++ entry.Written Host unit ∷ [])) (frame_next past) (choosing keepings texts c)
        else (if b then requests_so heeds past unit (choosing keepings texts c) else choosing keepings texts c)) other old

    on : (c : Course) → c.fits ≡ true → c.due ≡ [] → Goes heeds past (wrote ∷ marks) c c
    on c fits none =
        goes_both heeds past (wrote ∷ []) marks c c c (marks_unrefused marks all) (goes_on_so heeds past (wrote ∷ []) c c (steps c fits none))
        (units_go heeds (past ++ wrote ∷ []) marks c all)

    late_so : (n : ℕ) → is_late heeds past n ≡ true → is_late heeds later n ≡ true
    late_so n late = late_on taken n past (wrote ∷ marks) (inr (inl old), marks_keep taken n (past ++ wrote ∷ []) marks all) late

    -- the request is the same, and no frame has ended it by the copy
    copied : is_data (asked past).frame ≡ true → Stays past later
    copied framed = record {
      frame = after_marks.frame ∙ ap (λ (a : Asked). a.frame) (asked_copy past unit old);
      unended = after_marks.unended ∙ first;
    }
      where
        same : bytes_eq unit (asked past).frame ≡ true
        same = is_same (bytes_eq unit (asked past).frame) (are_none (sent_at (asked past))) (nat_lt (copies_of (asked past)) 4) (not_new (is_data unit) (is_copy (asked past) unit) framed_unit old)
          where
            not_new : (a b : Bool) → a ≡ true → (a && not b) ≡ false → b ≡ true
            not_new true true is none = refl
            not_new true false is none = absurd (let bad : true ≡ false = none in cc)
            not_new false b is none = absurd (let bad : false ≡ true = is in cc)

            is_same : (a b c : Bool) → (a && b && c) ≡ true → a ≡ true
            is_same true b c is = refl
            is_same false b c is = absurd (let bad : false ≡ true = is in cc)

        first : ending_among (asked (past ++ wrote ∷ [])).frame true (judged_since (asked (past ++ wrote ∷ []))) ≡ ending_among (asked past).frame true (judged_since (asked past))
        first =
            ap (λ (a : Asked). ending_among a.frame true (judged_since a)) (asked_copy past unit old)
            ∙ ap (λ (x : Standing). first_ending x) (stands_copied (asked past) unit framed same)

        framed_then : is_data (asked (past ++ wrote ∷ [])).frame ≡ true
        framed_then = ap (λ (a : Asked). is_data a.frame) (asked_copy past unit old) ∙ framed

        after_marks : Stays (past ++ wrote ∷ []) later
        after_marks =
            subst (λ (l : List Entry). Stays (past ++ wrote ∷ []) l) (append_assoc past (wrote ∷ []) marks) (stays_quiet (past ++ wrote ∷ []) marks framed_then (marks_quiet marks all))

    module _ (g : HostState) (r : Option (List (List ℕ))) (awaits : m.awaits ≡ false) (books : (d : Course) → BooksSo key heeds later h d → BooksSo key heeds later g d)
        (under : g.requests.under_way ≡ h.requests.under_way) (quiet : (p : Purpose) → IsQuiet h p → IsQuiet g p) where
      abbrev k : HostMachine
      k = record m { state = g; records = r }

      abbrev c : Course
      c = known.course

      timed_books : (d : Course) → BooksSo key heeds (timed m past) h d → BooksSo key heeds (timed k later) g d
      timed_books d was =
          subst (λ (b : Bool). BooksSo key heeds (if b then later ++ entry.Time m.clock ∷ [] else later) g d) (sym awaits)
          (books d
          (books_on key heeds past later h d.books d.offered d.opened d.sealed (subst (λ (b : Bool). BooksSo key heeds (if b then past ++ entry.Time m.clock ∷ [] else past) h d) awaits was) h refl
          (λ n. refl) (λ n is. record { seen = refl; text = refl; pending = refl; opened = refl; commands = refl }) (λ number taken found. found) (λ n is late. late_so n late)))

      followed_so : Level key heeds past m c ⊎ Lags key heeds past m c → Level key heeds later k c ⊎ Lags key heeds later k c
      followed_so (inl level) = inl (record { over = level.over ∙ ap (λ (o : Option UnderWay). is_none o) (sym under); books = timed_books c level.books })
      followed_so (inr lags) =
          let stays = copied (read_framed (asked past).frame (request_of lags.purpose lags.id) lags.request) in
          inr (record {
            running = lags.running;
            none = under ∙ lags.none;
            purpose = lags.purpose;
            id = lags.id;
            request = ap request_in stays.frame ∙ lags.request;
            carries = lags.carries;
            well = lags.well;
            unended = stays.unended ∙ lags.unended;
            quiet = quiet lags.purpose lags.quiet;
            books = subst (λ (d : Course). BooksSo key heeds (timed k later) g d)
                (sym (ap (λ (frame : List ℕ). each_in_turn ends_sealing (sending_in frame) (record c { over = true })) stays.frame)) (timed_books (ended_silently past c) lags.books);
            why = inl known.early;
          })

      pub copy_goes : NoneNoted key taken from later k
      copy_goes = record {
        course = c;
        of = course_goes heeds from past (wrote ∷ marks) c c refl known.of (on c known.follows.fits known.follows.none_due);
        follows = record {
          fits = known.follows.fits;
          none_due = known.follows.none_due;
          low = known.follows.low;
          heeded = known.follows.heeded;
          so = followed_so known.follows.so;
        };
        early = known.early;
        frames = known.frames;
      }
