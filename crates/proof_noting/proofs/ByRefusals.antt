-- What no frame and no answer of the chip is is refused: nothing is answered, or NAK, and the course follows the host as before.
use Rattle.std.specs.List.{AllByRecursion}
use Rattle.std.proofs.Common.{◌≡◌, ℕ, Bool, true, false, if◌then◌else◌, inl, inr, List, [], ◌∷◌, ◌++◌, refl, sym, ap, ◌∙◌, subst, append-nil, arith}
use Rattle.zw_base.proofs.Each.{all-weaker}
use Rattle.serial_frame.specs.declared.item.Item.{Item}
use Rattle.serial_frame.specs.declared.unit.TheConstants.{NAK}
use Rattle.serial_frame.specs.declared.unit.Unit.{Unit as LineUnit}
use Rattle.zw_words.specs.declared.side.Side.TheVariants.{Host}
use Rattle.zw_text.specs.declared.entry.Entry.{Entry}
use Rattle.zw_text.specs.declared.entry.Entry.TheVariants as entry
use Rattle.host_heard.specs.declared.told.Told.{Told}
use Rattle.law_transcript.specs.Units.{Carried}
use Rattle.law_time.specs.Heeds.{Heeds}
use Rattle.law_time.specs.Judged.{is_data}
use Rattle.law_time.specs.Moments.{clock}
use Rattle.law_time.specs.Requests.{asked}
use Rattle.host_requests.specs.Frames.{request_of}
use Rattle.host_requests.specs.declared.task.Task.TheVariants.{NoMore}
use Rattle.host_requests.specs.declared.task.Purpose.{Purpose}
use Rattle.host_requests.specs.declared.task.Purpose.TheVariants.{Abort, Attempt, Housekeeping}
use Rattle.host_model.specs.State.{HostState, node_of}
use Rattle.host_model.specs.After.{after}
use Rattle.host_model.specs.Events.{Hears}
use Rattle.proof_hearing.proofs.proof_queue_Stepping.{not_awaiting, time_told}
use Rattle.proof_hearing.proofs.proof_requests_Telling.{IsQuiet as QuietEntry, mark_quiet}
use Rattle.proof_hearing.proofs.ReadyTie.{ground_of}
use Rattle.proof_hearing.specs.Books.{BooksSo}
use Rattle.proof_hearing.specs.Hearing.{choosing}
use Rattle.proof_hearing.specs.proof_queue.proof_attempts.proof_requests.Walking.{Ground as RequestsGround}
use Rattle.proof_hearing.specs.proof_queue.proof_attempts.proof_requests.law_host.Course.{Course}
use Rattle.proof_hearing.specs.proof_queue.proof_attempts.proof_requests.law_host.Following.{comes_to, is_before_host}
use Rattle.proof_hearing.specs.proof_queue.proof_attempts.proof_requests.law_host.Heard.{heeds_alone}
use Rattle.proof_hearing.specs.proof_queue.proof_attempts.proof_requests.proof_alone.State.{HostMachine, done}
use Rattle.proof_hearing.specs.proof_queue.proof_attempts.proof_requests.proof_alone.Steps.{AreFrames, IsOfUnit}
use Rattle.proof_hearing.specs.proof_queue.proof_attempts.proof_requests.proof_alone.Phases.{IsNumbered, Open}
use Rattle.proof_hearing.proofs.Alike.{same_alike}
use Rattle.proof_hearing.proofs.BooksGo.{books_on}
use Rattle.proof_hearing.specs.proof_choice.proof_following.Ended.{sleep_entries}
use Rattle.proof_hearing.proofs.Entering.{plain_after}
use Rattle.proof_hearing.proofs.proof_ends_Walking.{ShowsOpen}
use Rattle.proof_noting.specs.Behind.{Answered, AtOpen}
use Rattle.proof_noting.specs.Following.{IsQuiet, Lags, Outset, timed}
use Rattle.proof_noting.specs.Ground.{GroundAlong, NotingGround}
use Rattle.proof_noting.specs.Steps.{first_of}
use Rattle.proof_noting.specs.Sure.{SureRun}
use Rattle.proof_noting.proofs.Becoming.{Becomes, becomes_heeded, comes_beside}
use Rattle.proof_noting.proofs.ByAnswers.{follows_same}
use Rattle.proof_noting.proofs.Choosing.{course_goes, goes_both, goes_on}
use Rattle.proof_noting.proofs.Going.{so_on}
use Rattle.proof_noting.proofs.Lately.{late_on}
use Rattle.proof_noting.proofs.Marks.{marks_keep, marks_unrefused, units_go}
use Rattle.proof_noting.proofs.Requested.{Stays, StaysDenied, denied_quiet, read_framed, stays_quiet}

heard_quiet : (h : HostState) (item : Item) (p : Purpose) → IsQuiet h p → IsQuiet (after h (Hears item)) p
heard_quiet h item p quiet = record { errands = quiet.errands; sleeps = sleeps p quiet.sleeps; interviews = quiet.interviews }
  where
    sleeps : (p : Purpose) → sleep_entries h p ≡ [] → sleep_entries (after h (Hears item)) p ≡ []
    sleeps (Housekeeping (NoMore n)) none = none
    sleeps (Housekeeping task) none = none
    sleeps (Attempt n more payload) none = none
    sleeps Abort none = none

module _ (key : List ℕ) (taken : List Entry → Carried → List Told) (from : Outset) (shows : ShowsOpen) (ground : GroundAlong taken (first_of key)) (past : List Entry) (m : HostMachine) (item : Item) (rest : List LineUnit)
    (told : List Entry) (sure : SureRun taken (first_of key) Open past m) (known : AtOpen key taken from past m) (still : rest ≡ m.came) where
  abbrev heeds : Heeds
  heeds = heeds_alone taken

  abbrev next : HostMachine
  next = record (done m (Hears item)) { came = rest }

  abbrev c : Course
  c = known.course

  -- nothing is answered
  pub unanswered : told ≡ [] → AtOpen key taken from (past ++ told) next
  unanswered none =
      subst (λ (l : List Entry). AtOpen key taken from l next) (sym (ap (λ (l : List Entry). past ++ l) none ∙ append-nil past))
      (record { course = c; of = known.of; follows = follows_same key taken past m next c refl refl refl refl (λ n. refl) refl refl known.follows; answered = by known.answered })
    where
      by : Answered m c → Answered next c
      by (inl all) = inl (subst AreFrames (sym still) all)
      by (inr so) = inr so

  -- it is, with NAK
  module _ (marks : List Entry) (marked : AllByRecursion IsOfUnit marks) (are : told ≡ entry.Written Host (NAK ∷ []) ∷ marks) (numbered : IsNumbered m told) where
    abbrev e : Entry
    e = entry.Written Host (NAK ∷ [])

    abbrev whole : List Entry
    whole = past ++ e ∷ marks

    unnumbered : m.awaits ≡ false
    unnumbered = not_awaiting m.awaits e told marks numbered are

    noting : NotingGround taken Open past m
    noting = ground Open past m sure

    asks : RequestsGround Open past m
    asks = ground_of Open past m noting.grounds

    time : clock past ≡ m.clock
    time = time_told Open past told m asks numbered e marks are

    b : (b : Becomes key taken past m (comes_to heeds past e) c) × (is_before_host past e ≡ false → b.next.ticked ≡ m.clock) × (c.ticked ≡ m.clock → b.next.ticked ≡ m.clock)
    b = comes_beside key taken shows Open past m noting tt time e tt c known.answered known.follows refl

    abbrev d : Course
    d = b.0.next

    all_quiet : AllByRecursion QuietEntry (e ∷ marks)
    all_quiet = (refl, all-weaker IsOfUnit QuietEntry mark_quiet marks marked)

    books : (x : Course) → BooksSo key heeds (timed m past) m.state x → BooksSo key heeds (timed next whole) next.state x
    books x so =
        subst (λ (l : List Entry). BooksSo key heeds l next.state x) (sym (ap (λ (b : Bool). if b then whole ++ entry.Time m.clock ∷ [] else whole) unnumbered))
        (books_on key heeds past whole m.state x.books x.offered x.opened x.sealed
        (subst (λ (l : List Entry). BooksSo key heeds l m.state x) (ap (λ (b : Bool). if b then past ++ entry.Time m.clock ∷ [] else past) unnumbered) so) next.state refl (λ n. refl)
        (λ n is. same_alike (node_of m.state n) (node_of next.state n) refl) (λ number t found. found)
        (λ n is late. late_on taken n past (e ∷ marks) (inr (inl refl), marks_keep taken n (past ++ e ∷ []) marks marked) late))

    framed : Lags key heeds past m d → is_data (asked past).frame ≡ true
    framed lags = read_framed (asked past).frame (request_of lags.purpose lags.id) lags.request

    stays : (lags : Lags key heeds past m d) → Stays past whole × StaysDenied past whole
    stays lags = (stays_quiet past (e ∷ marks) (framed lags) all_quiet, denied_quiet past (e ∷ marks) (framed lags) all_quiet)

    pub refused : AtOpen key taken from (past ++ told) next
    refused =
        subst (λ (l : List Entry). AtOpen key taken from (past ++ l) next) (sym are)
        (record {
          course = d;
          of = course_goes heeds from past (e ∷ marks) c d refl known.of
              (goes_both heeds past (e ∷ []) marks c d d (marks_unrefused marks marked)
              (goes_on heeds past (e ∷ []) c d
              (λ keepings texts. plain_after heeds past e [] (choosing keepings texts c) (choosing keepings texts d) refl known.follows.fits (b.0.goes keepings texts) b.0.none_due b.0.fits refl))
              (units_go heeds (past ++ e ∷ []) marks d marked));
          follows = record {
            fits = b.0.fits;
            none_due = b.0.none_due;
            low = b.0.low;
            heeded = becomes_heeded key taken past m (comes_to heeds past e) c known.follows.heeded b.0;
            so = so_on key heeds past whole m next books refl d stays (λ p quiet. heard_quiet m.state item p quiet) (omega arith) b.0.so;
          };
          answered = inr (b.1 refl, unnumbered);
        })
