-- Where a course follows a host it does so after entries by which the last request stays as it is, and the host's books and the request under way.
use Rattle.std.proofs.Common.{◌≡◌, ◌⊎◌, ◌≤◌, ◌<◌, ℕ, true, inl, inr, List, refl, sym, ap, ◌∙◌, subst, arith}
use Rattle.std.specs.Prelude.{Option, is_none}
use Rattle.zw_text.specs.declared.entry.Entry.{Entry}
use Rattle.host_heard.specs.declared.told.Told.{Told}
use Rattle.law_transcript.specs.Units.{Carried, request_in, sending_in}
use Rattle.law_time.specs.Heeds.{Heeds}
use Rattle.host_requests.specs.declared.task.Purpose.{Purpose}
use Rattle.host_requests.specs.declared.task.Purpose.TheVariants.{Abort}
use Rattle.host_requests.specs.declared.under_way.UnderWay.{UnderWay}
use Rattle.host_model.specs.State.{HostState}
use Rattle.proof_hearing.specs.proof_choice.proof_giving.Told.{attempts_so_far}
use Rattle.proof_hearing.proofs.ReadyTie.{ground_of}
use Rattle.proof_hearing.specs.Books.{BooksSo}
use Rattle.proof_hearing.specs.proof_queue.proof_attempts.proof_requests.law_host.Course.{Course, each_in_turn}
use Rattle.proof_hearing.specs.proof_queue.proof_attempts.proof_requests.law_host.Ends.{ends_sealing}
use Rattle.proof_hearing.specs.proof_queue.proof_attempts.proof_requests.law_host.Heard.{heeds_alone}
use Rattle.proof_hearing.specs.proof_queue.proof_attempts.proof_requests.law_host.Nonces.{is_late}
use Rattle.proof_hearing.specs.proof_queue.proof_attempts.proof_requests.law_host.Ticks.{is_denied}
use Rattle.proof_hearing.specs.proof_queue.proof_attempts.proof_requests.proof_alone.Phases.{Phase}
use Rattle.proof_hearing.specs.proof_queue.proof_attempts.proof_requests.proof_alone.State.{HostMachine}
use Rattle.proof_hearing.specs.proof_choice.proof_following.Quiet.{ended_silently}
use Rattle.proof_noting.specs.Following.{IsLevel, IsQuiet, Lags, Level, timed}
use Rattle.proof_noting.specs.Ground.{NotingGround}
use Rattle.proof_noting.proofs.Lately.{same_late, timed_attempts, timed_clock}
use Rattle.proof_noting.proofs.Requested.{Stays, StaysDenied}

-- of an abort nothing is noted
abort_quiet : (h : HostState) → IsQuiet h Abort
abort_quiet h = record { errands = refl; sleeps = refl; interviews = refl }

module _ (key : List ℕ) (heeds : Heeds) (past later : List Entry) (m k : HostMachine) where
  -- the books of any course stay those of the host
  abbrev pub BooksGo : Type 0
  BooksGo = (d : Course) → BooksSo key heeds (timed m past) m.state d → BooksSo key heeds (timed k later) k.state d

  module _ (books : BooksGo) (under : k.state.requests.under_way ≡ m.state.requests.under_way) (c : Course) where
    level_on : Level key heeds past m c → Level key heeds later k c
    level_on level = record { over = level.over ∙ ap (λ (o : Option UnderWay). is_none o) (sym under); books = books c level.books }

    lags_on : (lags : Lags key heeds past m c) → Stays past later → IsQuiet k.state lags.purpose → (c.ticked < k.clock) ⊎ ((is_denied later ≡ true) ⊎ (lags.purpose ≡ Abort))
        → (l : Lags key heeds later k c) × (l.purpose ≡ lags.purpose)
    lags_on lags stays quiet why = (
      record {
        running = lags.running;
        none = under ∙ lags.none;
        purpose = lags.purpose;
        id = lags.id;
        request = ap request_in stays.frame ∙ lags.request;
        carries = lags.carries;
        well = lags.well;
        unended = stays.unended ∙ lags.unended;
        quiet = quiet;
        books = subst (λ (d : Course). BooksSo key heeds (timed k later) k.state d)
            (sym (ap (λ (frame : List ℕ). each_in_turn ends_sealing (sending_in frame) (record c { over = true })) stays.frame)) (books (ended_silently past c) lags.books);
        why = why;
      },
      refl,
    )

    -- it stays level, but that an abort is over
    pub is_level_on : ((lags : Lags key heeds past m c) → Stays past later) → IsLevel key heeds past m c → IsLevel key heeds later k c
    is_level_on stays (inl level) = inl (level_on level)
    is_level_on stays (inr (lags, abort)) =
        let on = lags_on lags (stays lags) (subst (λ (p : Purpose). IsQuiet k.state p) (sym abort) (abort_quiet k.state)) (inr (inr abort)) in
        inr (on.0, on.1 ∙ abort)

    -- or what is to be found out stays so
    pub so_on : ((lags : Lags key heeds past m c) → Stays past later × StaysDenied past later) → ((p : Purpose) → IsQuiet m.state p → IsQuiet k.state p) → m.clock ≤ k.clock
        → Level key heeds past m c ⊎ Lags key heeds past m c → Level key heeds later k c ⊎ Lags key heeds later k c
    so_on stays quiet time (inl level) = inl (level_on level)
    so_on stays quiet time (inr lags) = inr (lags_on lags (stays lags).0 (quiet lags.purpose lags.quiet) (why lags.why)).0
      where
        why : (c.ticked < m.clock) ⊎ ((is_denied past ≡ true) ⊎ (lags.purpose ≡ Abort)) → (c.ticked < k.clock) ⊎ ((is_denied later ≡ true) ⊎ (lags.purpose ≡ Abort))
        why (inl early) = inl (omega (arith, early, time))
        why (inr (inl denied)) = inr (inl ((stays lags).1 denied))
        why (inr (inr abort)) = inr (inr abort)

-- ---- attempts that are late

module _ (taken : List Entry → Carried → List Told) where
  abbrev heeds : Heeds
  heeds = heeds_alone taken

  -- they stay so where the attempts of a node are the same, and no time goes back
  pub late_timed : (here next : Phase) (past later : List Entry) (m k : HostMachine) → NotingGround taken here past m → NotingGround taken next later k → m.clock ≤ k.clock → (n : ℕ)
      → attempts_so_far heeds n later ≡ attempts_so_far heeds n past → is_late heeds (timed m past) n ≡ true → is_late heeds (timed k later) n ≡ true
  late_timed here next past later m k ground after less n same late =
      same_late taken n (timed m past) (timed k later)
      (let was = timed_clock taken here past m (ground_of here past m ground.grounds) in let now = timed_clock taken next later k (ground_of next later k after.grounds) in omega (arith, was, now, less))
      (timed_attempts taken n later k ∙ same ∙ sym (timed_attempts taken n past m)) late
