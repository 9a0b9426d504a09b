-- What is known along a run of a host alone says which nodes a look finds, and which are told.
use Rattle.std.proofs.Common.{◌≡◌, ◌⊎◌, ◌≤◌, ◌<◌, ℕ, ◌-◌, ◌&&◌, not, nat_lt, Bool, true, false, if◌then◌else◌, inl, inr, List, map, refl, sym, ap, ◌∙◌, subst, arith}
use Rattle.std.specs.Prelude.{Option, is_some}
use Rattle.std.proofs.lemmas.Bool.{cases_lt, le-ltb, lt-ltb}
use Rattle.zw_text.specs.declared.entry.Entry.{Entry}
use Rattle.zw_text.specs.Transcript.{lines_run}
use Rattle.law_transcript.specs.Restarts.{ticks_asked}
use Rattle.host_node.specs.State.{NodeState}
use Rattle.host_model.specs.State.{HostState, node_of}
use Rattle.law_time.specs.Holds.{held_until}
use Rattle.law_time.specs.Interviews.{listens}
use Rattle.law_time.specs.Moments.{clock, later_of}
use Rattle.law_time.specs.Requests.{asked}
use Rattle.law_time.specs.Sessions.{with_time}
use Rattle.law_time.specs.Waking.{counts_awake, has_slept, is_told as tells_it}
use Rattle.law_time.specs.Queue.{Queue}
use Rattle.proof_attempts.specs.proof_work.Work.{HostWork, told_at}
use Rattle.proof_attempts.specs.proof_requests.proof_alone.State.{HostMachine}
use Rattle.proof_attempts.specs.proof_requests.proof_alone.Phases.{Phase, Resting, Open, Behind, Sleeping, Submitting}
use Rattle.proof_attempts.specs.proof_requests.proof_alone.Runs.{Run}
use Rattle.proof_attempts.specs.proof_requests.proof_alone.Tables.{TieTables}
use Rattle.proof_attempts.specs.proof_requests.proof_alone.Time.{TieClock}
use Rattle.proof_attempts.specs.Asleep.{KnowsSleep}
use Rattle.proof_attempts.specs.Carried.{CarriesOthers, HasOthers}
use Rattle.proof_attempts.specs.Series.{IsSeries, NodeAsTold, RunsAsTold, looked_at, series_so_far}
use Rattle.proof_attempts.specs.Since.{IsElse, KnowsSince, node_clock}
use Rattle.proof_attempts.specs.Slept.{SleepsIfTold, TieSlept}
use Rattle.proof_attempts.specs.Waking.{CountsAwake, HeldAsTold, TieAwake}
use Rattle.proof_attempts.specs.Working.{IsWorked, WorksInOrder}
use Rattle.proof_attempts.proofs.Lasting.{rest_of}
use Rattle.proof_known.specs.Known.{KnowsHeard, KnowsTold}
use Rattle.proof_queue.specs.Waiting.{want_of_task}
use Rattle.proof_queue.specs.Sleeping.{DropsAre, IsLooking}
use Rattle.proof_queue.proofs.Joined.{JoinedSo, KnowsJoined, joined_along, known_joined}
use Rattle.proof_queue.proofs.Pumped.{AreTold, MayLook, Sees}
use Rattle.proof_queue.proofs.Tells.{told_by_request, told_is}

-- what is known of the host: of sleep and all below it, what its nodes listed, their series and holds, that they are as they are told, and which joined
pub record Sights (here : Phase) (past : List Entry) (m : HostMachine) : Type 0 where
  pub sleep : KnowsSleep here past m
  pub heard : KnowsHeard here past m
  pub series : KnowsSince RunsAsTold here past m
  pub held : KnowsSince HeldAsTold here past m
  pub shows : (n : ℕ) → listens n past ≡ (node_of m.state n).listens → (node_of m.state n).awake ≡ counts_awake n past → NodeAsTold n past (node_of m.state n)
  pub joins : KnowsJoined here past m

-- so it is of a host that looks at the time, whose number is still to be entered, or stands
pub record View (past : List Entry) (time : ℕ) (h : HostState) (awaits : Bool) : Type 0 where
  pub may : MayLook past time h
  pub told : (q : Queue) → q.wants ≡ map want_of_task h.requests.queue → DropsAre q h → AreTold h (asked past) q
  pub now : awaits ≡ false → clock past ≡ time
  pub risen : awaits ≡ true → 1 ≤ time
  pub work : HostWork h
  pub asked_so : (n : ℕ) → 1 ≤ n → n ≤ 232 → (node_of h n).listens ≡ false
      → (tells_it n (asked past).frame && not (has_slept n (asked past).following)) ≡ nat_lt 0 (told_at n h.requests.under_way)

pub look_else : (here : Phase) → IsLooking here → IsElse here
look_else Resting looking = tt
look_else Open looking = tt
look_else (Behind left) looking = tt
look_else Sleeping looking = tt
look_else Submitting looking = tt
look_else here looking = absurd looking

now_node : (here : Phase) → IsLooking here → (h : HostState) (n : ℕ) → looked_at here h n ≡ node_of h n
now_node Resting looking h n = refl
now_node Open looking h n = refl
now_node (Behind left) looking h n = refl
now_node Sleeping looking h n = refl
now_node Submitting looking h n = refl
now_node here looking h n = absurd looking

now_clock : (here : Phase) → IsLooking here → (time n : ℕ) → node_clock here time n ≡ time
now_clock Resting looking time n = refl
now_clock Open looking time n = refl
now_clock (Behind left) looking time n = refl
now_clock Sleeping looking time n = refl
now_clock Submitting looking time n = refl
now_clock here looking time n = absurd looking

joined_now : (here : Phase) (past : List Entry) (m : HostMachine) → IsLooking here → KnowsJoined here past m → JoinedSo past
joined_now Resting past m looking joins = joins
joined_now Open past m looking joins = joins
joined_now (Behind left) past m looking joins = joins
joined_now Sleeping past m looking joins = joins
joined_now Submitting past m looking joins = joins
joined_now here past m looking joins = absurd looking

later_below : (b t c : ℕ) → b ≤ c → t ≤ c → later_of b t ≤ c
later_below b t c low high = elim (cases_lt b t) [
  | inl less ↦ subst (λ (v : Bool). (if v then t else b) ≤ c) (sym (lt-ltb b t less)) high
  | inr more ↦ subst (λ (v : Bool). (if v then t else b) ≤ c) (sym (le-ltb b t more)) low
]

later_is : (b t c : ℕ) → b ≤ c → t ≤ c → (c ≡ b) ⊎ (c ≡ t) → later_of b t ≡ c
later_is b t c low high which = elim (cases_lt b t) [
  | inl less ↦ ap (λ (v : Bool). if v then t else b) (lt-ltb b t less) ∙ upper which less
  | inr more ↦ ap (λ (v : Bool). if v then t else b) (le-ltb b t more) ∙ lower which more
]
  where
    upper : (c ≡ b) ⊎ (c ≡ t) → b < t → t ≡ c
    upper (inl is) less = absurd (omega (arith, is, less, high))
    upper (inr is) less = sym is

    lower : (c ≡ b) ⊎ (c ≡ t) → t ≤ b → b ≡ c
    lower (inl is) more = sym is
    lower (inr is) more = omega (arith, is, more, low)

-- where no line was just said its work is in order
pub worked : (here : Phase) (past : List Entry) (m : HostMachine) → IsElse here → Sights here past m → HostWork m.state × IsWorked here m.state
worked here past m other sights = rest_of WorksInOrder here past m other sights.sleep.0.0.0.0.0.0.0.1

-- a line begins after all ticks that were asked for
pub said_at : (here : Phase) (past : List Entry) (m : HostMachine) → Sights here past m → m.left ≡ 0 → ticks_asked (lines_run past) ≡ m.clock
said_at here past m sights none = let sum = sights.sleep.0.0.0.0.0.0.0.0.0.1.asked in omega (arith, sum, none)

module _ (here : Phase) (past : List Entry) (m : HostMachine) (looking : IsLooking here) (sights : Sights here past m) where
  time : TieClock past m
  time = sights.sleep.0.0.0.0.0.0.0.0.0.1

  pub work : HostWork m.state
  work = (worked here past m (look_else here looking) sights).0

  awake : TieAwake past m.state
  awake = rest_of CountsAwake here past m (look_else here looking) sights.sleep.0.0.0.0.0.1

  others : HasOthers m.state
  others = rest_of CarriesOthers here past m (look_else here looking) sights.sleep.0.0.0.0.1

  slept_so : TieSlept past m.state.requests
  slept_so = rest_of SleepsIfTold here past m (look_else here looking) sights.sleep.0.0.1

  hears : (n : ℕ) → n ≤ 232 → listens n past ≡ (node_of m.state n).listens
  hears = sights.sleep.0.0.0.0.0.0.1

  sees : (n : ℕ) → 1 ≤ n → n ≤ 232 → Sees past m.clock n (node_of m.state n)
  sees n from to = record {
    awake = sym (awake n from to);
    hears = hears n to;
    lists = sym (sights.heard n);
    waits = (sights.shows n (hears n to) (awake n from to)).waits;
    runs_so = (subst (λ (s : NodeState). IsSeries (with_time n past m.clock (series_so_far n past)) s m.clock) (now_node here looking m.state n)
        (rest_of RunsAsTold here past m (look_else here looking) sights.series n from to)).runs;
    held = rest_of HeldAsTold here past m (look_else here looking) sights.held n from to ∙ ap (λ (t : ℕ). held_until n past - t) (now_clock here looking m.clock n);
  }

  pub may_look : MayLook past m.clock m.state
  may_look =
      let so = joined_now here past m looking sights.joins in
      record {
        each = λ n from to. sees n from to;
        begun = later_below _ _ m.clock time.begun time.shown;
        nodes = so.nodes;
        distinct = so.distinct;
        known = λ n from to some. known_joined past so n (ap (λ (o : Option (List ℕ)). is_some o) (sym (sights.heard n)) ∙ some);
      }

  pub told_now : (q : Queue) → q.wants ≡ map want_of_task m.state.requests.queue → DropsAre q m.state → AreTold m.state (asked past) q
  told_now q wants drops n from to deaf =
      told_is past m.state.requests q n (node_of m.state n).no_more others.asks.under_way others.asks.queue slept_so.request (slept_so.each n from to) (work.work.once n) wants (drops n from to)
      (hears n to ∙ deaf)

  pub clock_now : m.awaits ≡ false → clock past ≡ m.clock
  clock_now unnumbered = later_is _ _ m.clock time.begun time.shown (time.now unnumbered)

  pub risen : m.awaits ≡ true → 1 ≤ m.clock
  risen awaits = let later = time.later awaits in omega (arith, later)

  -- a node that does not listen is told by the last request where it is by the one under way
  pub asked_now : (n : ℕ) → 1 ≤ n → n ≤ 232 → (node_of m.state n).listens ≡ false
      → (tells_it n (asked past).frame && not (has_slept n (asked past).following)) ≡ nat_lt 0 (told_at n m.state.requests.under_way)
  asked_now n from to deaf = told_by_request past m.state.requests n others.asks.under_way slept_so.request (slept_so.each n from to) (hears n to ∙ deaf)

  pub view : View past m.clock m.state m.awaits
  view = record { may = may_look; told = told_now; now = clock_now; risen = risen; work = work; asked_so = asked_now }

-- it is known along each run of a host
module _ (start : HostMachine) (sleep : (here : Phase) (told : List Entry) (m : HostMachine) → Run start here told m → KnowsSleep here told m)
    (heard : (here : Phase) (told : List Entry) (m : HostMachine) → Run start here told m → KnowsHeard here told m)
    (series : (here : Phase) (told : List Entry) (m : HostMachine) → Run start here told m → KnowsSince RunsAsTold here told m)
    (held : (here : Phase) (told : List Entry) (m : HostMachine) → Run start here told m → KnowsSince HeldAsTold here told m)
    (shows : (here : Phase) (told : List Entry) (m : HostMachine) → Run start here told m → TieTables told m.state m.records → (n : ℕ) → listens n told ≡ (node_of m.state n).listens
    → (node_of m.state n).awake ≡ counts_awake n told → NodeAsTold n told (node_of m.state n))
    (tells : (here : Phase) (told : List Entry) (m : HostMachine) → Run start here told m → KnowsTold here told m) where
  tables : (here : Phase) (told : List Entry) (m : HostMachine) → Run start here told m → TieTables told m.state m.records
  tables here told m run = (sleep here told m run).0.0.0.0.0.0.0.0.0.0.0

  pub sights_along : (here : Phase) (told : List Entry) (m : HostMachine) → Run start here told m → Sights here told m
  sights_along here told m run = record {
    sleep = sleep here told m run;
    heard = heard here told m run;
    series = series here told m run;
    held = held here told m run;
    shows = shows here told m run (tables here told m run);
    joins = joined_along start tables tells run;
  }
