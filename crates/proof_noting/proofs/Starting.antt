-- Where the course of notes begins: with the run, where nothing stood before; else at the step where the host starts again after what stood before, with the books that were kept and the nonces that were live.
use Rattle.std.proofs.Common.{◌≡◌, ◌⊎◌, ℕ, Bool, false, if◌then◌else◌, inl, inr, List, [], ◌∷◌, ◌++◌, Option, None, refl, sym, ap, ◌∙◌, subst, append-nil, arith}
use Rattle.std.specs.Prelude.{Some, is_none}
use Rattle.s0_crypto.specs.Sealing.{keys_of}
use Rattle.chip_functions.specs.Field.{IsNode}
use Rattle.serial_link.specs.State.{Side}
use Rattle.zw_text.specs.declared.line.Line.TheVariants as lines
use Rattle.zw_text.specs.declared.entry.Entry.{Entry}
use Rattle.zw_text.specs.declared.entry.Entry.TheVariants as entry
use Rattle.host_heard.specs.declared.told.Told.{Told}
use Rattle.law_transcript.specs.Units.{Carried}
use Rattle.host_requests.specs.State.{RequestsState}
use Rattle.host_requests.specs.declared.under_way.UnderWay.{UnderWay}
use Rattle.host_model.specs.State.{HostState, node_of}
use Rattle.proof_hearing.proofs.Counting.{each_starts}
use Rattle.proof_hearing.proofs.ReadyStarts.{GiveOne}
use Rattle.proof_hearing.proofs.Beginning.{books_first}
use Rattle.proof_hearing.proofs.Queueing.{opened_asks}
use Rattle.proof_hearing.specs.Books.{BooksOf}
use Rattle.proof_hearing.specs.proof_nonces.Counted.{KnowsNonces}
use Rattle.proof_hearing.specs.proof_queue.proof_attempts.Since.{AlongRuns}
use Rattle.proof_hearing.specs.proof_queue.proof_world.Restarts.{AreHeld, IsHeld}
use Rattle.proof_hearing.specs.proof_queue.proof_attempts.Since.{KnowsSince, TieOf}
use Rattle.proof_hearing.specs.proof_queue.proof_attempts.Slept.{SleepsIfTold}
use Rattle.proof_hearing.specs.proof_queue.proof_attempts.proof_requests.law_host.Heard.{heeds_alone}
use Rattle.proof_hearing.specs.proof_queue.proof_attempts.proof_requests.law_host.Notes.{Start, first_start}
use Rattle.proof_hearing.specs.proof_queue.proof_attempts.proof_requests.law_host.Starting.{StartsFrom}
use Rattle.proof_hearing.specs.proof_queue.proof_attempts.proof_requests.proof_alone.State.{HostMachine}
use Rattle.proof_hearing.specs.proof_queue.proof_attempts.proof_requests.proof_alone.Steps.{Step, Restarts, entries, happens}
use Rattle.proof_hearing.specs.proof_queue.proof_attempts.proof_requests.proof_alone.Phases.{Phase, Resting, Asked, May}
use Rattle.proof_hearing.specs.proof_queue.proof_attempts.proof_requests.proof_alone.Runs.Run.{Stepped}
use Rattle.proof_hearing.specs.proof_queue.proof_attempts.proof_requests.proof_alone.Tables.{TieTables}
use Rattle.proof_noting.specs.Behind.{AtOpen}
use Rattle.proof_noting.specs.Following.{Outset, first_course, outset_of, timed}
use Rattle.proof_noting.specs.Ground.{GroundAlong, NotingGround}
use Rattle.proof_noting.specs.Noting.{KnowsCourse}
use Rattle.proof_noting.specs.Starts.{HasStarted, StartsAt}
use Rattle.proof_noting.specs.Steps.{first_of}
use Rattle.proof_noting.specs.Sure.{SureRun, SureStep}
use Rattle.proof_noting.proofs.KeptBooks.{books_kept}
use Rattle.proof_noting.proofs.KeptNonces.{offers_kept}
use Rattle.proof_noting.proofs.Surely.{sure_step}
use Rattle.proof_messages.proofs.SealedTexts.{IsBare}
use Rattle.proof_noting.proofs.Whole.{Beginning, OfRuns}

-- ---- at first

abbrev pub from_first : Outset
from_first = outset_of first_start []

module _ (key : List ℕ) (taken : List Entry → Carried → List Told) where
  -- nothing is asked of a run
  abbrev pub Always : OfRuns (first_of key)
  Always here told m run = Unit {0}

  at_first : KnowsCourse key taken from_first (first_of key) Resting [] (first_of key)
  at_first = record {
    course = first_course from_first (record { keepings = []; texts = [] });
    of = record { heard = []; split = refl; kept = []; opened = []; is = λ keepings texts. refl };
    follows = record {
      fits = refl;
      none_due = refl;
      low = omega arith;
      heeded = tt;
      so = inl (record { over = refl; books = books_first key (heeds_alone taken) (keys_of key) });
    };
    frames = tt;
  }

  pub begins_first : Beginning key taken from_first Always
  begins_first = record {
    first = λ begun. at_first;
    turn = λ here next past m turns run begun. tt;
    step = λ here next past all m later one may all_is later_is sure so begun. inl tt;
  }

-- ---- from a start

-- the host has started
abbrev pub Since : (key : List ℕ) (before : List Entry) (records : List (List ℕ)) → OfRuns (first_of key)
Since key before records here told m run = HasStarted before records run

-- the number of no tick is to be entered where the host starts again
unnumbered_so : (Tie : TieOf) (here : Phase) (past : List Entry) (m : HostMachine) → here ≡ Asked lines.Restart → KnowsSince Tie here past m → m.awaits ≡ false
unnumbered_so Tie here past m asked known =
    let there : KnowsSince Tie (Asked lines.Restart) past m = subst (λ (p : Phase). KnowsSince Tie p past m) asked known in there.unnumbered

module _ (key : List ℕ) (taken : List Entry → Carried → List Told) (records : List (List ℕ)) (start : Start) (given : StartsFrom records start) (along : GroundAlong taken (first_of key)) (one_thing : GiveOne)
    (nonces : AlongRuns (keys_of key) (KnowsNonces (keys_of key))) where
  -- with the nonces that were live
  abbrev pub from : Outset
  from = outset_of start (offers_kept given.kept)

  module _ (here next : Phase) (past : List Entry) (m : HostMachine) (sure : SureRun taken (first_of key) here past m) (state : HostState) (so : SureStep taken sure.run (Restarts state))
      (may : May here m (Restarts state) next) (at : past ≡ start.before) (told : m.records ≡ Some records) where
    ground : NotingGround taken here past m
    ground = along here past m sure

    unnumbered : m.awaits ≡ false
    unnumbered = unnumbered_so SleepsIfTold here past m may.0 ground.grounds.sleep.0.0.1

    -- the host has the books that were kept, and no request under way
    starts_here : AtOpen key taken from (past ++ []) (record m { state = state; came = [] })
    starts_here = record {
      course = first_course from (record { keepings = []; texts = [] });
      of = record { heard = []; split = append-nil past ∙ at ∙ sym (append-nil from.before); kept = []; opened = []; is = λ keepings texts. refl };
      follows = record {
        fits = refl;
        none_due = refl;
        low = omega arith;
        heeded = tt;
        so = inl (record {
          over = sym (ap (λ (o : Option UnderWay). is_none o) none_asked);
          books = subst (λ (l : List Entry). BooksOf key (heeds_alone taken) l state from.books from.offered [] []) (sym timed_is) books;
        });
      };
      answered = inl tt;
    }
      where
        tables : TieTables past m.state m.records
        tables = ground.asks.0.0.0.0.0.0.0

        new_tables : TieTables (past ++ []) state m.records
        new_tables = (along next (past ++ []) (record m { state = state; came = [] }) (sure_step taken (first_of key) sure (Restarts state) may so)).asks.0.0.0.0.0.0.0

        known : KnowsNonces (keys_of key) next (past ++ []) (record m { state = state; came = [] })
        known = nonces next (past ++ []) (record m { state = state; came = [] }) (Stepped (Restarts state) may refl refl sure.run)

        nothing_waits : state.requests.queue ≡ []
        nothing_waits = ap (λ (p : Side × RequestsState). p.1.queue) (opened_asks m.keys m.records state tables.told may.1)

        none_sealed : (k : ℕ) → IsNode k → IsBare (node_of state k)
        none_sealed k is = each_starts IsBare (λ s. (refl, refl)) (λ s. (refl, refl)) (refl, refl) m.keys m.records state tables.told may.1 k is.0

        held : AreHeld state records
        held = subst (λ (r : Option (List (List ℕ))). IsHeld state r) told new_tables.held

        books : BooksOf key (heeds_alone taken) past state from.books from.offered [] []
        books =
            books_kept one_thing key (heeds_alone taken) past state from.books known.drawn nothing_waits none_sealed records held given.kept given.gives given.books known.seven known.live

        none_asked : state.requests.under_way ≡ None
        none_asked = ap (λ (p : Side × RequestsState). p.1.under_way) (opened_asks m.keys m.records state tables.told may.1)

        timed_is : timed (record m { state = state; came = [] }) (past ++ []) ≡ past
        timed_is = ap (λ (b : Bool). if b then (past ++ []) ++ entry.Time m.clock ∷ [] else past ++ []) unnumbered ∙ append-nil past

  -- the step that begins the course
  begins_here : (here next : Phase) (past : List Entry) (m : HostMachine) (one : Step) → May here m one next → (sure : SureRun taken (first_of key) here past m) → SureStep taken sure.run one
      → StartsAt start.before records past m one → KnowsCourse key taken from (first_of key) next (past ++ entries m one) (happens m one)
  begins_here here next past m (Restarts state) may sure so starts =
      subst (λ (p : Phase). KnowsCourse key taken from (first_of key) p (past ++ []) (record m { state = state; came = [] })) (sym may.2)
      (starts_here here next past m sure state so may starts.0 starts.1)
  begins_here here next past m one may sure so starts = absurd starts

  step_begins : (here next : Phase) (past all : List Entry) (m later : HostMachine) (one : Step) (may : May here m one next) (all_is : all ≡ past ++ entries m one) (later_is : later ≡ happens m one)
      → (sure : SureRun taken (first_of key) here past m) → SureStep taken sure.run one → Since key start.before records next all later (Stepped one may all_is later_is sure.run)
      → Since key start.before records here past m sure.run ⊎ KnowsCourse key taken from (first_of key) next (past ++ entries m one) (happens m one)
  step_begins here next past all m later one may all_is later_is sure so (inl starts) = inr (begins_here here next past m one may sure so starts)
  step_begins here next past all m later one may all_is later_is sure so (inr before) = inl before

  pub begins_since : Beginning key taken from (Since key start.before records)
  begins_since = record { first = λ begun. absurd begun; turn = λ here next past m turns run begun. begun; step = step_begins }
