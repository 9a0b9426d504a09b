-- What an event makes of what a node has still to give: it runs only where it ran, with as many segments, and has no text that it had not.
use Rattle.std.proofs.Common.{◌≡◌, ℕ, ◌+◌, ◌-◌, ◌==◌, ◌&&◌, nat_lt, Bool, true, false, if◌then◌else◌, Option, Some, None, List, refl, sym, ◌∙◌}
use Rattle.supervision.specs.Host.{told_of}
use Rattle.supervision.specs.declared.host_node.Told.{Told}
use Rattle.supervision.specs.declared.host_node.Told.TheVariants.{Final, Working, Old}
use Rattle.host_node.specs.declared.attempt.Moment.{Moment}
use Rattle.host_node.specs.declared.attempt.Moment.TheVariants.{BetweenTicks}
use Rattle.host_node.specs.declared.no_more.NoMore.TheVariants.{Unasked}
use Rattle.host_node.specs.declared.series.Series.TheVariants.{Idle, Due, Running}
use Rattle.host_node.specs.State.{NodeState, has_waiting, is_idle, is_open, is_running, is_up}
use Rattle.host_node.specs.Steps.{after_again, after_again_tick, after_attempt_end, after_hold_tick, after_no_more, after_occasion, after_sleep, after_told, asleep, new_series, next_due, series_over, tried_again, with_again, with_wait, without_attempt}
use Rattle.host_node.specs.Events.{NodeEvent, after as after_node}
use Rattle.host_node.specs.Events.NodeEvent.{Accepts as node_accepts, Begins as node_begins, Starts as node_starts, Gives_text as node_gives_text, Succeeds, Takes_nonce as node_takes_nonce, Restores_seen, Ends_attempt, Reports, Notifies as node_notifies, Sleeps, Ends_no_more, Ticks, Restarts as node_restarts}
use Rattle.host_model.specs.State.{HostState}
use Rattle.host_model.specs.Events.{HostEvent, Accepts, Takes_nonce, Starts, Gives_text}
use Rattle.proof_giving.proofs.Doings.{AllDo, Doing, EndsDo, did, does_at, kept_by_all, OwnDo, did_all}

-- ---- nodes

-- and where it gives none, it runs without a text only where it ran without one
pub record Stays (given : Bool) (s t : NodeState) : Type 0 where
  pub seen : t.seen ≡ s.seen
  pub ran : t.series ≡ Running → s.series ≡ Running
  pub segments : t.series ≡ Running → t.segments ≡ s.segments
  pub text : (sealed : List ℕ) → t.text ≡ Some sealed → s.text ≡ Some sealed
  pub pending : (plain : List ℕ) → t.pending ≡ Some plain → s.pending ≡ Some plain
  pub kept : given ≡ false → t.series ≡ Running → t.text ≡ None → s.text ≡ None

pub none_of : (o : Option (List ℕ)) → ((x : List ℕ) → o ≡ Some x → ⊥) → o ≡ None
none_of None none = refl
none_of (Some x) none = absurd (none x refl)

pub no_some : (A : Type 0) (o : Option (List ℕ)) (x : List ℕ) → o ≡ None → o ≡ Some x → A
no_some A o x none some = absurd (let bad : ◌≡◌ {A = Option (List ℕ)} None (Some x) = sym none ∙ some in cc)

never : (A : Type 0) (x : List ℕ) → ◌≡◌ {A = Option (List ℕ)} None (Some x) → A
never A x is = absurd (let bad : ◌≡◌ {A = Option (List ℕ)} None (Some x) = is in cc)

pub due_not : Due ≡ Running → ⊥
due_not is = cc

pub idle_not : Idle ≡ Running → ⊥
idle_not is = cc

module _ (given : Bool) where
  same : (s t : NodeState) → t.seen ≡ s.seen → t.series ≡ s.series → t.segments ≡ s.segments → t.text ≡ s.text → t.pending ≡ s.pending → Stays given s t
  same s t seen series segments text pending = record {
    seen = seen;
    ran = λ runs. sym series ∙ runs;
    segments = λ runs. segments;
    text = λ sealed is. sym text ∙ is;
    pending = λ plain is. sym pending ∙ is;
    kept = λ none runs no_text. sym text ∙ no_text;
  }

  pub stays_same : (s : NodeState) → Stays given s s
  stays_same s = same s s refl refl refl refl refl

  -- it does not run
  stopped : (s t : NodeState) → t.seen ≡ s.seen → (t.series ≡ Running → ⊥) → ((x : List ℕ) → t.text ≡ Some x → s.text ≡ Some x) → ((x : List ℕ) → t.pending ≡ Some x → s.pending ≡ Some x) → Stays given s t
  stopped s t seen not text pending =
      record { seen = seen; ran = λ runs. absurd (not runs); segments = λ runs. absurd (not runs); text = text; pending = pending; kept = λ none runs no_text. absurd (not runs) }

  pub then_stays : (s t u : NodeState) → Stays given s t → Stays given t u → Stays given s u
  then_stays s t u first next = record {
    seen = next.seen ∙ first.seen;
    ran = λ runs. first.ran (next.ran runs);
    segments = λ runs. next.segments runs ∙ first.segments (next.ran runs);
    text = λ sealed is. first.text sealed (next.text sealed is);
    pending = λ plain is. first.pending plain (next.pending plain is);
    kept = λ none runs no_text. first.kept none (next.ran runs) (next.kept none runs no_text);
  }

  either : (s : NodeState) (b : Bool) (one other : NodeState) → Stays given s one → Stays given s other → Stays given s (if b then one else other)
  either s true one other p q = p
  either s false one other p q = q

  occasion_stays : (s : NodeState) → Stays given s (after_occasion s)
  occasion_stays s = either s (is_open s && is_up s && is_idle s.series) (new_series s) s (stopped s (new_series s) refl due_not (λ x is. is) (λ x is. is)) (stays_same s)

  sleep_stays : (s : NodeState) → Stays given s (after_sleep s)
  sleep_stays s = either s s.listens s (asleep s) (stays_same s) (same s (asleep s) refl refl refl refl refl)

  sign_stays : (s : NodeState) → Stays given s (after_node s Succeeds)
  sign_stays s = either s (is_running s.series) (with_wait s 100) s (same s (with_wait s 100) refl refl refl refl refl) (stays_same s)

  end_stays : (s : NodeState) (moment : Moment) → Stays given s (after_attempt_end s moment)
  end_stays s moment =
      let attempts : ℕ = s.book.attempts + 1 in
      let over : NodeState = series_over (without_attempt s) attempts moment in
      let due : NodeState = next_due (without_attempt s) attempts in
      either s (is_running s.series) (if nat_lt attempts 3 then due else after_sleep over) s
      (either s (nat_lt attempts 3) due (after_sleep over) (stopped s due refl due_not (λ x is. never _ x is) (λ x is. never _ x is))
      (then_stays s over (after_sleep over) (stopped s over refl idle_not (λ x is. never _ x is) (λ x is. never _ x is)) (sleep_stays over))) (stays_same s)

  told_stays : (s : NodeState) (status : ℕ) (told : Told) → Stays given s (after_told s status told)
  told_stays s status (Final session) = stopped s _ refl idle_not (λ x is. never _ x is) (λ x is. never _ x is)
  told_stays s status Working = sign_stays s
  told_stays s status Old = stays_same s

  again_stays : (s : NodeState) → Stays given s (after_again_tick s)
  again_stays s =
      let over : NodeState = with_again s 0 in
      let less : NodeState = with_again s (s.again_wait - 1) in
      either s (s.again_wait == 1) (after_again over) less
      (either s (has_waiting over) (after_occasion over) over (then_stays s over (after_occasion over) (same s over refl refl refl refl refl) (occasion_stays over)) (same s over refl refl refl refl refl))
      (same s less refl refl refl refl refl)

  ticks_stay : (s : NodeState) → Stays given s (after_node s Ticks)
  ticks_stay s =
      let held : NodeState = after_hold_tick s in
      let ticked : NodeState = after_again_tick held in
      let less : NodeState = with_wait ticked (ticked.attempt_wait - 1) in
      let up_to : Stays given s ticked = then_stays s held ticked (same s held refl refl refl refl refl) (again_stays held) in
      either s (ticked.attempt_wait == 1) (after_attempt_end ticked BetweenTicks) less (then_stays s ticked (after_attempt_end ticked BetweenTicks) up_to (end_stays ticked BetweenTicks))
      (then_stays s ticked less up_to (same ticked less refl refl refl refl refl))

  -- no attempt starts, no nonce is taken, and the host does not start; nor is a text given, where none is
  abbrev pub GoesOn : NodeEvent → Type 0
  GoesOn (node_starts plan) = ⊥
  GoesOn node_gives_text = given ≡ true
  GoesOn (node_takes_nonce seen text) = ⊥
  GoesOn (Restores_seen seen) = ⊥
  GoesOn node_restarts = ⊥
  GoesOn event = Unit {0}

  gives_stays : (s : NodeState) → given ≡ true → Stays given s (after_node s node_gives_text)
  gives_stays s is = record {
    seen = refl;
    ran = λ runs. runs;
    segments = λ runs. refl;
    text = λ sealed none. never _ sealed none;
    pending = λ plain there. there;
    kept = λ none runs no_text. absurd (let bad : true ≡ false = sym is ∙ none in cc);
  }

  pub node_stays : (s : NodeState) (event : NodeEvent) → GoesOn event → Stays given s (after_node s event)
  node_stays s node_accepts goes = occasion_stays s
  node_stays s node_begins goes = stopped s _ refl due_not (λ x is. is) (λ x is. is)
  node_stays s (node_starts plan) goes = absurd goes
  node_stays s node_gives_text goes = gives_stays s goes
  node_stays s Succeeds goes = sign_stays s
  node_stays s (node_takes_nonce seen text) goes = absurd goes
  node_stays s (Restores_seen seen) goes = absurd goes
  node_stays s (Ends_attempt moment) goes = end_stays s moment
  node_stays s (Reports id status) goes = told_stays s status (told_of s.book id status)
  node_stays s node_notifies goes =
      let woken : NodeState = record s { awake = true; no_more = tried_again s.no_more } in then_stays s woken (after_occasion woken) (same s woken refl refl refl refl refl) (occasion_stays woken)
  node_stays s Sleeps goes = sleep_stays s
  node_stays s Ends_no_more goes =
      let told : NodeState = after_no_more s Unasked in then_stays s told (after_sleep told) (same s told refl refl refl refl refl) (sleep_stays told)
  node_stays s Ticks goes = ticks_stay s
  node_stays s node_restarts goes = absurd goes
  node_stays s event goes = same s _ refl refl refl refl refl

  -- ---- the events of a host

  pub all_stay : (n : ℕ) (s : NodeState) (doings : List Doing) → AllDo GoesOn doings → Stays given s (does_at n s doings)
  all_stay = kept_by_all (Stays given) GoesOn stays_same then_stays node_stays

  abbrev pub LeavesTexts : HostEvent → Type 0
  LeavesTexts (Starts n plan more payload) = ⊥
  LeavesTexts (Gives_text n payload) = given ≡ true
  LeavesTexts (Takes_nonce n seen text) = ⊥
  LeavesTexts event = Unit {0}

  going_ends : EndsDo GoesOn
  going_ends = record { answered = tt; attempt_over = λ moment. tt; let_sleep = tt; held = tt }

  own_goes : (h : HostState) (event : HostEvent) → LeavesTexts event → OwnDo GoesOn h event
  own_goes h (Accepts order carriage) none = (tt, tt)
  own_goes h (Takes_nonce n seen text) none = absurd none
  own_goes h (Starts n plan more payload) none = absurd none
  own_goes h (Gives_text n payload) none = none
  own_goes h event none = tt

  pub event_goes : (h : HostState) (event : HostEvent) → LeavesTexts event → AllDo GoesOn (did h event)
  event_goes h event none = did_all GoesOn going_ends h event (own_goes h event none)
