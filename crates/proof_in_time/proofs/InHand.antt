-- A command that waits or whose session is open is in hand until its session is over: at each event of the host at which no attempt ends without a report.
use Rattle.std.proofs.Common.{◌≡◌, ◌≢◌, ◌≤◌, ◌<◌, ℕ, zero, suc, ◌+◌, ◌-◌, ◌==◌, ◌&&◌, ◌||◌, nat_lt, inl, inr, Bool, true, false, if◌then◌else◌, List, [], ◌∷◌, ◌++◌, length, length-append, append_assoc, refl, sym, ap, ◌∙◌, subst, arith}
use Rattle.std.proofs.lemmas.Bool.{eq-eqb, eqb-true, lt-ltb, ne_eqb}
use Rattle.std.proofs.lemmas.List.{get_or-set_other, get_or-set_same, length-set}
use Rattle.std.specs.Option.{is_some}
use Rattle.std.specs.Prelude.{Option, Some, None, is_none, drop, slice_get, slice_index}
use Rattle.supervision.specs.Host.{HostBook, begins, begun_of, command_at, open_session, told_of}
use Rattle.supervision.specs.declared.host_node.Told.{Told}
use Rattle.supervision.specs.declared.host_node.Told.TheVariants.{Final, Working, Old}
use Rattle.host_requests.specs.Events.{end_at}
use Rattle.host_node.specs.declared.attempt.Moment.TheVariants.{BetweenTicks}
use Rattle.host_node.specs.declared.attempt.Plan.TheVariants.{Whole, Segments, Sealed}
use Rattle.host_node.specs.declared.series.Series.{Series}
use Rattle.host_node.specs.declared.series.Series.TheVariants as series
use Rattle.host_node.specs.State.{NodeState, has_waiting, has_work, is_false, is_idle, is_open, is_running, is_up, unknown}
use Rattle.host_node.specs.Events.{NodeEvent, after as after_node}
use Rattle.host_node.specs.Events.NodeEvent.{Joins, Interviews, Puts, Takes_back, Accepts, Cancels, Begins, Blocks, Starts, Gives_segment, Gives_text, Succeeds, Takes_nonce, Restores_seen, Ends_attempt, Reports, Holds, Notifies, Sleeps, Queues_no_more, Drops_no_more, Ends_no_more, Ticks, Restarts}
use Rattle.host_node.specs.Steps.{after_again, after_again_tick, after_attempt_end, after_hold_tick, after_no_more, after_occasion, after_sign, after_sleep, after_told, asleep, new_series, oldest, tried_again, wait_ticks, with_again, with_wait}
use Rattle.host_node.specs.declared.no_more.NoMore.{NoMore}
use Rattle.host_node.specs.declared.no_more.NoMore.TheVariants.{Unasked}
use Rattle.host_node.specs.TableState.{node_of as node_among, with_node as with_node_among}
use Rattle.host_model.specs.After.{after}
use Rattle.host_model.specs.Events.{HostEvent, Requests_do as host_requests_do, Interviews as host_interviews, Cancels as host_cancels, Begins as host_begins, Begin_unkept, Line_ticks, Node_ticks, Starts as host_starts}
use Rattle.host_model.specs.May.{May}
use Rattle.host_model.specs.State.{HostState}
use Rattle.proof_answered.proofs.AttemptEnds.{LastsAt, again_tick_wait, end_allowed}
use Rattle.proof_answered.proofs.NodeSteps.{AllowsAt, IsFree, event_is}
use Rattle.proof_answered.specs.Sleepers.{HasLeft}
use Rattle.proof_in_time.specs.InHand.{ComesAfter, HasEnded, IsPast, StandsAt}

-- ---- a node that is to be served

abbrev pub HasTurn : NodeState → Type 0
HasTurn x = (x.series ≢ series.Running) × (has_work x ≡ true)

due_works : (x : NodeState) → x.series ≡ series.Due → has_work x ≡ true
due_works x due = by x.series due
  where
    by : (s : Series) → s ≡ series.Due → has_work (record x { series = s }) ≡ true
    by series.Due is = refl
    by series.Idle is = absurd cc
    by series.Running is = absurd cc

all_true : (a b c d : Bool) → a ≡ true → b ≡ true → c ≡ true → d ≡ true → (a && b && c && d) ≡ true
all_true true true true true first second third fourth = refl
all_true false b c d first second third fourth = absurd (let wrong : false ≡ true = first in cc)
all_true true false c d first second third fourth = absurd (let wrong : false ≡ true = second in cc)
all_true true true false d first second third fourth = absurd (let wrong : false ≡ true = third in cc)
all_true true true true false first second third fourth = absurd (let wrong : false ≡ true = fourth in cc)

some_wait : (before behind : List ℕ) (command : ℕ) → 0 < length (before ++ command ∷ behind)
some_wait [] behind command = omega arith
some_wait (first ∷ before) behind command = omega arith

waits_some : (x : NodeState) (command place : ℕ) → StandsAt command place x.waiting → has_waiting x ≡ true
waits_some x command place at = ap (λ (ws : List ℕ). nat_lt 0 (length ws)) at.are ∙ lt-ltb 0 (length (at.before ++ command ∷ at.behind)) (some_wait at.before at.behind command)

-- something is left for a node for which a command waits
pub waits_left : (x : NodeState) (command place : ℕ) → StandsAt command place x.waiting → HasLeft x
waits_left x command place at = let some = some_wait at.before at.behind command in inr (subst (λ (ws : List ℕ). 1 ≤ length ws) (sym at.are) (omega (arith, some)))

idle_works : (x : NodeState) (command place : ℕ) → is_up x ≡ true → x.blocked ≡ false → open_session x.book ≡ None → x.series ≡ series.Idle → StandsAt command place x.waiting → has_work x ≡ true
idle_works x command place up unblocked none idle at = by x.series idle
  where
    by : (s : Series) → s ≡ series.Idle → has_work (record x { series = s }) ≡ true
    by series.Idle is =
        all_true (is_none (open_session x.book)) (has_waiting x) (is_up x) (is_false x.blocked) (ap (λ (o : Option ℕ). is_none o) none) (waits_some x command place at) up (ap is_false unblocked)
    by series.Due is = absurd cc
    by series.Running is = absurd cc

-- and something is left for one that has a turn
waiting_true : (a b c d : Bool) → (a && b && c && d) ≡ true → b ≡ true
waiting_true a true c d is = refl
waiting_true true false c d is = absurd (let wrong : false ≡ true = is in cc)
waiting_true false false c d is = absurd (let wrong : false ≡ true = is in cc)

idle_waits : (x : NodeState) (s : Series) → s ≡ series.Idle → has_work (record x { series = s }) ≡ true → has_waiting x ≡ true
idle_waits x series.Idle is works = waiting_true (is_none (open_session x.book)) (has_waiting x) (is_up x) (is_false x.blocked) works
idle_waits x series.Due is works = absurd cc
idle_waits x series.Running is works = absurd cc

some_left : (x : NodeState) → has_waiting x ≡ true → HasLeft x
some_left x is = by x.waiting refl
  where
    by : (waiting : List ℕ) → x.waiting ≡ waiting → HasLeft x
    by [] none = absurd (let wrong : true ≡ false = sym is ∙ ap (λ (ws : List ℕ). nat_lt 0 (length ws)) none in cc)
    by (first ∷ waiting) are = inr (subst (λ (ws : List ℕ). 1 ≤ length ws) (sym are) (omega arith))

pub turn_left : (x : NodeState) → HasTurn x → HasLeft x
turn_left x turn = by x.series refl
  where
    by : (s : Series) → x.series ≡ s → HasLeft x
    by series.Idle idle = some_left x (idle_waits x x.series idle turn.1)
    by series.Due due = inl (λ idle. let wrong : series.Due ≡ series.Idle = sym due ∙ idle in absurd cc)
    by series.Running runs = absurd (turn.0 runs)

-- ---- a node

-- an open session is the last
pub begun_is : (book : HostBook) (session : ℕ) → open_session book ≡ Some session → begun_of book ≡ session
begun_is book session is = by book.outcome book.commands is
  where
    by : (o : Option ℕ) (commands : List ℕ) → open_session (record book { outcome = o; commands = commands }) ≡ Some session → length commands ≡ session
    by (Some status) commands none = absurd cc
    by None [] none = absurd cc
    by None (command ∷ more) there = cc

-- the session of the command is over; or so many are to be over before, where none is open, or one is due or runs. Where the node is blocked V is so until its
-- tick
pub data Ends (command : ℕ) (D R V : ℕ → Type 0) (x : NodeState) : Type 0 where
  Ended : HasEnded command x.book → Ends command D R V x
  Idles : (more : ℕ) → open_session x.book ≡ None → x.series ≡ series.Idle → StandsAt command more x.waiting → (x.blocked ≡ false → D more) → (x.blocked ≡ true → V more) → Ends command D R V x
  Due : (more session : ℕ) → open_session x.book ≡ Some session → x.series ≡ series.Due → ComesAfter more command session x → D more → (x.blocked ≡ true → V more) → Ends command D R V x
  Runs : (more session : ℕ) → open_session x.book ≡ Some session → x.series ≡ series.Running → ComesAfter more command session x → R more → (x.blocked ≡ true → V more) → Ends command D R V x

-- so it is; or its session comes behind one that is open, whose series is over, with a wait until the next one of a node that listens; or it waits for one that
-- counts as asleep, where S is so
pub data EndsLater (command : ℕ) (D R V : ℕ → Type 0) (W : ℕ → ℕ → Type 0) (S : ℕ → Type 0) (x : NodeState) : Type 0 where
  Goes_on : Ends command D R V x → EndsLater command D R V W S x
  Rests : (more session wait : ℕ) → x.listens ≡ true → open_session x.book ≡ Some session → x.series ≡ series.Idle → x.again_wait ≡ suc wait → StandsAt command more x.waiting → W more wait → EndsLater command D R V W S x
  Sleeps_on : (more : ℕ) → is_up x ≡ false → x.series ≡ series.Idle → StandsAt command more x.waiting → S more → EndsLater command D R V W S x

not_running : (s t : Series) → s ≡ t → (t ≡ series.Running → ⊥) → s ≡ series.Running → ⊥
not_running s t is other run = other (sym is ∙ run)

idle_no : series.Idle ≡ series.Running → ⊥
idle_no e = absurd cc

due_no : series.Due ≡ series.Running → ⊥
due_no e = absurd cc

-- of a node that is up while something is left for it
pub hand_as : (command : ℕ) (D R V D' R' V' : ℕ → Type 0) (x : NodeState) → (HasLeft x → is_up x ≡ true) → ((more : ℕ) → HasTurn x → D more → D' more) → ((more : ℕ) → x.series ≡ series.Running → R more → R' more)
    → ((more : ℕ) → x.blocked ≡ true → V more → V' more) → Ends command D R V x → Ends command D' R' V' x
hand_as command D R V D' R' V' x up due runs held e = by e
  where
    by : Ends command D R V x → Ends command D' R' V' x
    by (Ended ended) = Ended ended
    by (Idles more none idle at d v) =
        Idles more none idle at (λ free. due more (not_running x.series series.Idle idle idle_no, idle_works x command more (up (waits_left x command more at)) free none idle at) (d free)) (λ blocked. held more blocked (v blocked))
    by (Due more session opened so at d v) = Due more session opened so at (due more (not_running x.series series.Due so due_no, due_works x so) d) (λ blocked. held more blocked (v blocked))
    by (Runs more session opened so at r v) = Runs more session opened so at (runs more so r) (λ blocked. held more blocked (v blocked))

pub later_hand_as : (command : ℕ) (D R V D' R' V' : ℕ → Type 0) (W W' : ℕ → ℕ → Type 0) (S S' : ℕ → Type 0) (x : NodeState) → (HasLeft x → is_up x ≡ true) → ((more : ℕ) → HasTurn x → D more → D' more)
    → ((more : ℕ) → x.series ≡ series.Running → R more → R' more) → ((more : ℕ) → x.blocked ≡ true → V more → V' more) → ((more wait : ℕ) → x.series ≡ series.Idle → x.again_wait ≡ suc wait → W more wait → W' more wait)
    → EndsLater command D R V W S x → EndsLater command D' R' V' W' S' x
later_hand_as command D R V D' R' V' W W' S S' x up due runs held rests e = by e
  where
    by : EndsLater command D R V W S x → EndsLater command D' R' V' W' S' x
    by (Goes_on ends) = Goes_on (hand_as command D R V D' R' V' x up due runs held ends)
    by (Rests more session wait listens opened idle again at w) = Rests more session wait listens opened idle again at (rests more wait idle again w)
    by (Sleeps_on more asleep idle at s) = absurd (let wrong : false ≡ true = sym asleep ∙ up (waits_left x command more at) in cc)

-- the first two parts of a tick
abbrev before_attempt : NodeState → NodeState
before_attempt x = after_again_tick (after_hold_tick x)

pub three_true : (a b c : Bool) → a ≡ true → b ≡ true → c ≡ true → (a && b && c) ≡ true
three_true a b c first second third = rw (first, second, third) refl

pub same_open : (a b : HostBook) → b.commands ≡ a.commands → b.outcome ≡ a.outcome → open_session b ≡ open_session a
same_open a b commands outcome = ap (λ (o : Option ℕ). open_session (record b { outcome = o })) outcome ∙ ap (λ (cs : List ℕ). open_session (record a { commands = cs })) commands

pub same_ended : (command : ℕ) (a b : HostBook) → b.commands ≡ a.commands → b.outcome ≡ a.outcome → HasEnded command a → HasEnded command b
same_ended command a b commands outcome is = record { session = is.session; was = ap (λ (cs : List ℕ). command_at cs is.session) commands ∙ is.was; past = by is.past }
  where
    by : IsPast is.session a → IsPast is.session b
    by (inl more) = inl (subst (λ (cs : List ℕ). is.session + 1 ≤ length cs) (sym commands) more)
    by (inr (last, none)) = inr (ap (λ (cs : List ℕ). length cs) commands ∙ last, same_open a b commands outcome ∙ none)

-- a session is begun
got_before : (commands : List ℕ) (place command other : ℕ) → slice_get commands place ≡ Some command → slice_get (commands ++ other ∷ []) place ≡ Some command
got_before [] place command other is = absurd cc
got_before (first ∷ commands) zero command other is = is
got_before (first ∷ commands) (suc place) command other is = got_before commands place command other is

pub command_before : (commands : List ℕ) (session command other : ℕ) → command_at commands session ≡ Some command → command_at (commands ++ other ∷ []) session ≡ Some command
command_before commands zero command other is = absurd cc
command_before commands (suc before) command other is = got_before commands before command other is

got_last : (commands : List ℕ) (command : ℕ) → slice_get (commands ++ command ∷ []) (length commands) ≡ Some command
got_last [] command = refl
got_last (first ∷ commands) command = got_last commands command

pub command_last : (commands : List ℕ) (command : ℕ) → command_at (commands ++ command ∷ []) (length commands + 1) ≡ Some command
command_last commands command = let more : length commands + 1 ≡ suc (length commands) = omega arith in ap (λ (k : ℕ). command_at (commands ++ command ∷ []) k) more ∙ got_last commands command

pub begun_opens : (book : HostBook) (command : ℕ) → open_session (begins book command) ≡ Some (length book.commands + 1)
begun_opens book command = by book.commands ∙ ap Some (length-append book.commands (command ∷ []))
  where
    by : (commands : List ℕ) → open_session (record { commands = commands ++ command ∷ []; outcome = None; attempts = 0 }) ≡ Some (length (commands ++ command ∷ []))
    by [] = refl
    by (first ∷ commands) = refl

-- events of a node at which no attempt ends without a report, none is cancelled, and the record of each session is kept
abbrev pub Allowed : ℕ → NodeState → NodeEvent → Type 0
Allowed k x (Interviews listens classes) = ⊥
Allowed k x Takes_back = ⊥
Allowed k x (Cancels command) = ⊥
Allowed k x Begins = open_session x.book ≡ None
Allowed k x Blocks = ⊥
Allowed k x (Starts plan) = x.series ≡ series.Due
Allowed k x (Ends_attempt moment) = ⊥
Allowed k x Ticks = x.attempt_wait ≢ 1
Allowed k x Restarts = ⊥
Allowed k x event = Unit {0}

free_allowed : (k : ℕ) (x : NodeState) (event : NodeEvent) → IsFree event → Allowed k x event
free_allowed k x (Interviews listens classes) free = absurd free
free_allowed k x Takes_back free = absurd free
free_allowed k x (Cancels command) free = absurd free
free_allowed k x Begins free = absurd free
free_allowed k x Blocks free = absurd free
free_allowed k x (Starts plan) free = absurd free
free_allowed k x (Ends_attempt moment) free = absurd free
free_allowed k x Ticks free = absurd free
free_allowed k x Restarts free = absurd free
free_allowed k x event free = tt

event_allowed : (h : HostState) (event : HostEvent) → LastsAt h event → May h event → AllowsAt Allowed h event
event_allowed h (host_requests_do event moment) lasts may = end_allowed Allowed h (end_at h.requests event) moment lasts
event_allowed h (host_interviews n listens classes update) lasts may = absurd lasts
event_allowed h (host_cancels command) lasts may = absurd lasts
event_allowed h (host_begins n session command) lasts may = may.1.1
event_allowed h (Begin_unkept n) lasts may = absurd lasts
event_allowed h (Node_ticks n) lasts may = lasts
event_allowed h (host_starts n plan more payload) lasts may = may.2.0
event_allowed h Line_ticks lasts may = lasts
event_allowed h event lasts may = tt

-- what is so of the sessions, the series and the commands that wait stays so
pub record KeptLaws (E : NodeState → Type 0) : Type 0 where
  -- where these are as they were, but for commands that wait behind the others
  pub as_was : (x y : NodeState) → y.listens ≡ x.listens → y.awake ≡ x.awake → y.book.commands ≡ x.book.commands → y.book.outcome ≡ x.book.outcome → y.series ≡ x.series → y.again_wait ≡ x.again_wait → y.blocked ≡ x.blocked
      → ((command place : ℕ) → StandsAt command place x.waiting → StandsAt command place y.waiting) → E x → E y
  -- and at the moments at which these change
  pub occasion : (x : NodeState) → E x → E (after_occasion x)
  pub notified : (x : NodeState) (no_more : NoMore) → E x → E (after_occasion (record x { awake = true; no_more = no_more }))
  pub slept : (x : NodeState) → E x → E (asleep x)
  pub ended : (x : NodeState) (status : ℕ) → E x → E (after_told x status (Final 0))
  pub begun : (x : NodeState) → open_session x.book ≡ None → E x → E (after_node x Begins)
  pub started : (x y : NodeState) → y.listens ≡ x.listens → y.book ≡ x.book → y.blocked ≡ x.blocked → y.waiting ≡ x.waiting → y.series ≡ series.Running → x.series ≡ series.Due → E x → E y
  pub again : (x : NodeState) → E x → E (after_again_tick x)
  pub freed : (x : NodeState) → E x → E (after_hold_tick x)

-- ---- a node, of which any such thing is so

module _ (E : NodeState → Type 0) (laws : KeptLaws E) where
  same : (x y : NodeState) → y.listens ≡ x.listens → y.awake ≡ x.awake → y.blocked ≡ x.blocked → y.book.commands ≡ x.book.commands → y.book.outcome ≡ x.book.outcome → y.series ≡ x.series → y.again_wait ≡ x.again_wait → y.waiting ≡ x.waiting → E x → E y
  same x y listens awake blocked commands outcome series_is again_is waiting e =
      laws.as_was x y listens awake commands outcome series_is again_is blocked (λ command place at. subst (StandsAt command place) (sym waiting) at) e

  put : (x : NodeState) (other : ℕ) → E x → E (after_node x (Puts other))
  put x other e =
      laws.as_was x (after_node x (Puts other)) refl refl refl refl refl refl refl
      (λ command place at.
      record {
        before = at.before;
        behind = at.behind ++ other ∷ [];
        are = ap (λ (ws : List ℕ). ws ++ other ∷ []) at.are ∙ append_assoc at.before (command ∷ at.behind) (other ∷ []);
        place_is = at.place_is;
      }) e

  either : (b : Bool) (x y : NodeState) → E x → E y → E (if b then x else y)
  either true x y first later = first
  either false x y first later = later

  sign : (x : NodeState) → E x → E (after_sign x)
  sign x e = either (is_running x.series) (with_wait x wait_ticks) x (same x (with_wait x wait_ticks) refl refl refl refl refl refl refl refl e) e

  sleep : (x : NodeState) → E x → E (after_sleep x)
  sleep x e = either x.listens x (asleep x) e (laws.slept x e)

  told : (x : NodeState) (status : ℕ) (t : Told) → E x → E (after_told x status t)
  told x status (Final number) e = laws.ended x status e
  told x status Working e = sign x e
  told x status Old e = e

  ticked : (x : NodeState) → x.attempt_wait ≢ 1 → E x → E (after_node x Ticks)
  ticked x lasts e = by ((before_attempt x).attempt_wait == 1) refl
    where
      there : E (before_attempt x)
      there = laws.again (after_hold_tick x) (laws.freed x e)

      by : (b : Bool) → ((before_attempt x).attempt_wait == 1) ≡ b → E (if b then after_attempt_end (before_attempt x) BetweenTicks else with_wait (before_attempt x) ((before_attempt x).attempt_wait - 1))
      by true is = absurd (lasts (sym (again_tick_wait (after_hold_tick x)) ∙ eqb-true (before_attempt x).attempt_wait 1 is))
      by false is = same (before_attempt x) (with_wait (before_attempt x) ((before_attempt x).attempt_wait - 1)) refl refl refl refl refl refl refl refl there

  node_hand : (k : ℕ) (x : NodeState) (event : NodeEvent) → Allowed k x event → E x → E (after_node x event)
  node_hand k x Joins allowed e = same x (after_node x Joins) refl refl refl refl refl refl refl refl e
  node_hand k x (Interviews listens classes) allowed e = absurd allowed
  node_hand k x (Puts other) allowed e = put x other e
  node_hand k x Takes_back allowed e = absurd allowed
  node_hand k x Accepts allowed e = laws.occasion x e
  node_hand k x (Cancels other) allowed e = absurd allowed
  node_hand k x Begins allowed e = laws.begun x allowed e
  node_hand k x Blocks allowed e = absurd allowed
  node_hand k x (Starts Whole) allowed e = laws.started x (after_node x (Starts Whole)) refl refl refl refl refl allowed e
  node_hand k x (Starts (Segments count)) allowed e = laws.started x (after_node x (Starts (Segments count))) refl refl refl refl refl allowed e
  node_hand k x (Starts (Sealed plain)) allowed e = laws.started x (after_node x (Starts (Sealed plain))) refl refl refl refl refl allowed e
  node_hand k x Gives_segment allowed e = same x (after_node x Gives_segment) refl refl refl refl refl refl refl refl e
  node_hand k x Gives_text allowed e = same x (after_node x Gives_text) refl refl refl refl refl refl refl refl e
  node_hand k x Succeeds allowed e = sign x e
  node_hand k x (Takes_nonce seen text) allowed e = same x (after_node x (Takes_nonce seen text)) refl refl refl refl refl refl refl refl e
  node_hand k x (Restores_seen seen) allowed e = same x (after_node x (Restores_seen seen)) refl refl refl refl refl refl refl refl e
  node_hand k x (Ends_attempt moment) allowed e = absurd allowed
  node_hand k x (Reports id status) allowed e = told x status (told_of x.book id status) e
  node_hand k x Holds allowed e = same x (after_node x Holds) refl refl refl refl refl refl refl refl e
  node_hand k x Notifies allowed e = laws.notified x (tried_again x.no_more) e
  node_hand k x Sleeps allowed e = sleep x e
  node_hand k x Queues_no_more allowed e = same x (after_node x Queues_no_more) refl refl refl refl refl refl refl refl e
  node_hand k x Drops_no_more allowed e = same x (after_node x Drops_no_more) refl refl refl refl refl refl refl refl e
  node_hand k x Ends_no_more allowed e = sleep (after_no_more x Unasked) (same x (after_no_more x Unasked) refl refl refl refl refl refl refl refl e)
  node_hand k x Ticks allowed e = ticked x allowed e
  node_hand k x Restarts allowed e = absurd allowed

  -- ---- a host

  -- so is it of one node of its table
  pub record HandAt (n : ℕ) (nodes : List NodeState) : Type 0 where
    pub places : length nodes ≡ 233
    pub hand : E (node_among nodes n)

  module _ (n : ℕ) (within : n < 233) where
    each_hand : (nodes : List NodeState) (k : ℕ) (event : NodeEvent) → Allowed k (node_among nodes k) event → HandAt n nodes → HandAt n (with_node_among nodes k (after_node (node_among nodes k) event))
    each_hand nodes k event allows at = record { places = length-set nodes k next ∙ at.places; hand = by (k == n) refl }
      where
        next : NodeState
        next = after_node (node_among nodes k) event

        there : k ≡ n → E (node_among (with_node_among nodes k next) n)
        there is =
            let few : k < length nodes = subst (λ (j : ℕ). j < length nodes) (sym is) (subst (λ (l : ℕ). n < l) (sym at.places) within) in
            subst (λ (j : ℕ). E (node_among (with_node_among nodes k next) j)) is
            (subst E (sym (get_or-set_same nodes k next (unknown 0) few)) (node_hand k (node_among nodes k) event allows (subst (λ (j : ℕ). E (node_among nodes j)) (sym is) at.hand)))

        by : (b : Bool) → (k == n) ≡ b → E (node_among (with_node_among nodes k next) n)
        by true is = there (eqb-true k n is)
        by false is = subst E (sym (get_or-set_other nodes k n next (unknown 0) (λ e. let wrong : true ≡ false = sym (eq-eqb k n (sym e)) ∙ is in cc))) at.hand

    pub event_hand : (h : HostState) (event : HostEvent) → LastsAt h event → May h event → HandAt n h.nodes → HandAt n (after h event).nodes
    event_hand h event lasts may at = event_is Allowed (HandAt n) free_allowed each_hand h event (event_allowed h event lasts may) at

-- ---- the command is in hand

module _ (command : ℕ) (D R V : ℕ → Type 0) (starts : (more : ℕ) → D more → R more) (less : (more : ℕ) → D (suc more) → D more) (over : (more : ℕ) → R (suc more) → D more) (fewer : (more : ℕ) → V (suc more) → V more) (free : (more : ℕ) → V more → D more) where
  abbrev E : NodeState → Type 0
  E x = Ends command D R V x

  -- where a blocked node is as it was, or is so no longer
  ends_by : (x y : NodeState) → y.book.commands ≡ x.book.commands → y.book.outcome ≡ x.book.outcome → y.series ≡ x.series → ((more : ℕ) → (x.blocked ≡ false → D more) → (x.blocked ≡ true → V more) → y.blocked ≡ false → D more)
      → ((more : ℕ) → (x.blocked ≡ true → V more) → y.blocked ≡ true → V more) → ((other place : ℕ) → StandsAt other place x.waiting → StandsAt other place y.waiting) → E x → E y
  ends_by x y commands outcome series_is frees holds stands e = by e
    where
      comes : (more session : ℕ) → ComesAfter more command session x → ComesAfter more command session y
      comes zero session is = ap (λ (cs : List ℕ). command_at cs session) commands ∙ is
      comes (suc place) session at = stands command place at

      by : E x → E y
      by (Ended ended) = Ended (same_ended command x.book y.book commands outcome ended)
      by (Idles more none idle at d v) = Idles more (same_open x.book y.book commands outcome ∙ none) (series_is ∙ idle) (stands command more at) (frees more d v) (holds more v)
      by (Due more session opened so at d v) = Due more session (same_open x.book y.book commands outcome ∙ opened) (series_is ∙ so) (comes more session at) d (holds more v)
      by (Runs more session opened so at r v) = Runs more session (same_open x.book y.book commands outcome ∙ opened) (series_is ∙ so) (comes more session at) r (holds more v)

  ends_as : (x y : NodeState) → y.book.commands ≡ x.book.commands → y.book.outcome ≡ x.book.outcome → y.series ≡ x.series → y.blocked ≡ x.blocked → ((other place : ℕ) → StandsAt other place x.waiting → StandsAt other place y.waiting) → E x → E y
  ends_as x y commands outcome series_is blocked stands e =
      ends_by x y commands outcome series_is (λ more d v is_free. d (sym blocked ∙ is_free)) (λ more v is_blocked. v (sym blocked ∙ is_blocked)) stands e

  -- blocked or not
  anyway : (more : ℕ) (b : Bool) → (b ≡ false → D more) → (b ≡ true → V more) → D more
  anyway more false d v = d refl
  anyway more true d v = free more (v refl)

  freed_ends : (x : NodeState) → E x → E (after_hold_tick x)
  freed_ends x e =
      ends_by x (after_hold_tick x) refl refl refl (λ more d v is_free. anyway more x.blocked d v) (λ more v is_blocked. absurd (let wrong : false ≡ true = is_blocked in cc)) (λ other place at. at) e

  either_ends : (b : Bool) (x y : NodeState) → E x → E y → E (if b then x else y)
  either_ends true x y first later = first
  either_ends false x y first later = later

  -- no new series where one is due or runs, or none is open
  no_series : (a b : Bool) (s : Series) (x : NodeState) → (s ≡ series.Idle → ⊥) → E x → E (if a && b && is_idle s then new_series x else x)
  no_series false b s x busy e = e
  no_series true false s x busy e = e
  no_series true true series.Due x busy e = e
  no_series true true series.Running x busy e = e
  no_series true true series.Idle x busy e = absurd (busy refl)

  none_series : (o : Option ℕ) (x : NodeState) → o ≡ None → E x → E (if is_some o && is_up x && is_idle x.series then new_series x else x)
  none_series None x none e = e
  none_series (Some k) x none e = absurd (let no : Some k ≡ None = none in cc)

  not_idle : (s t : Series) → s ≡ t → (t ≡ series.Idle → ⊥) → s ≡ series.Idle → ⊥
  not_idle s t is busy idle = busy (sym is ∙ idle)

  due_busy : series.Due ≡ series.Idle → ⊥
  due_busy e = absurd cc

  runs_busy : series.Running ≡ series.Idle → ⊥
  runs_busy e = absurd cc

  occasion_ends : (x : NodeState) → E x → E (after_occasion x)
  occasion_ends x (Ended is) = either_ends (is_open x && is_up x && is_idle x.series) (new_series x) x (Ended (same_ended command x.book (new_series x).book refl refl is)) (Ended is)
  occasion_ends x (Idles more none idle at d v) = none_series (open_session x.book) x none (Idles more none idle at d v)
  occasion_ends x (Due more session opened so at d v) = no_series (is_open x) (is_up x) x.series x (not_idle x.series series.Due so due_busy) (Due more session opened so at d v)
  occasion_ends x (Runs more session opened so at r v) = no_series (is_open x) (is_up x) x.series x (not_idle x.series series.Running so runs_busy) (Runs more session opened so at r v)

  told_ends : (x : NodeState) (status : ℕ) → E x → E (after_told x status (Final 0))
  told_ends x status (Ended is) = Ended (record { session = is.session; was = is.was; past = past is.past })
    where
      past : IsPast is.session x.book → IsPast is.session (after_told x status (Final 0)).book
      past (inl more) = inl more
      past (inr (last, none)) = inr (last, refl)
  told_ends x status (Idles more none idle at d v) = Idles more refl refl at d v
  told_ends x status (Due zero session opened so at d v) = Ended (record { session = session; was = at; past = inr (begun_is x.book session opened, refl) })
  told_ends x status (Due (suc more) session opened so at d v) = Idles more refl refl at (λ is_free. less more d) (λ is_blocked. fewer more (v is_blocked))
  told_ends x status (Runs zero session opened so at r v) = Ended (record { session = session; was = at; past = inr (begun_is x.book session opened, refl) })
  told_ends x status (Runs (suc more) session opened so at r v) = Idles more refl refl at (λ is_free. over more r) (λ is_blocked. fewer more (v is_blocked))

  begun_ends : (x : NodeState) → open_session x.book ≡ None → E x → E (after_node x Begins)
  begun_ends x closed e = by e
    where
      one_more : begun_of (after_node x Begins).book ≡ begun_of x.book + 1
      one_more = length-append x.book.commands (oldest x ∷ [])

      opens : open_session (after_node x Begins).book ≡ Some (length x.book.commands + 1)
      opens = begun_opens x.book (oldest x)

      past : (session : ℕ) → IsPast session x.book → IsPast session (after_node x Begins).book
      past session (inl more) = inl (omega (arith, more, one_more))
      past session (inr (last, none)) = inl (omega (arith, last, one_more))

      first : (more : ℕ) (before behind : List ℕ) → x.waiting ≡ before ++ command ∷ behind → length before ≡ more → D more → (x.blocked ≡ true → V more) → E (after_node x Begins)
      first more [] behind are is d v =
          let it : oldest x ≡ command = ap (λ (ws : List ℕ). slice_index ws 0) are in
          Due 0 (length x.book.commands + 1) opens refl (command_last x.book.commands (oldest x) ∙ ap Some it) (subst D (sym is) d) (λ is_blocked. subst V (sym is) (v is_blocked))
      first more (other ∷ before) behind are is d v =
          Due (suc (length before)) (length x.book.commands + 1) opens refl (record { before = before; behind = behind; are = ap (λ (ws : List ℕ). drop 1 ws) are; place_is = refl }) (subst D (sym is) d)
          (λ is_blocked. subst V (sym is) (v is_blocked))

      by : E x → E (after_node x Begins)
      by (Ended is) = Ended (record { session = is.session; was = command_before x.book.commands is.session command (oldest x) is.was; past = past is.session is.past })
      by (Idles more none idle at d v) = first more at.before at.behind at.are at.place_is (anyway more x.blocked d v) v
      by (Due more session opened so at d v) = absurd (let no : Some session ≡ None = sym opened ∙ closed in cc)
      by (Runs more session opened so at r v) = absurd (let no : Some session ≡ None = sym opened ∙ closed in cc)

  started_ends : (x y : NodeState) → y.book ≡ x.book → y.blocked ≡ x.blocked → y.waiting ≡ x.waiting → y.series ≡ series.Running → x.series ≡ series.Due → E x → E y
  started_ends x y book blocked waiting runs due e = by e
    where
      comes : (more session : ℕ) → ComesAfter more command session x → ComesAfter more command session y
      comes zero session is = ap (λ (b : HostBook). command_at b.commands session) book ∙ is
      comes (suc place) session at = subst (StandsAt command place) (sym waiting) at

      by : E x → E y
      by (Ended is) = Ended (subst (HasEnded command) (sym book) is)
      by (Idles more none idle at d v) = absurd (let no : series.Due ≡ series.Idle = sym due ∙ idle in cc)
      by (Due more session opened so at d v) = Runs more session (ap open_session book ∙ opened) runs (comes more session at) (starts more d) (λ is_blocked. v (sym blocked ∙ is_blocked))
      by (Runs more session opened so at r v) = absurd (let no : series.Due ≡ series.Running = sym due ∙ so in cc)

  again_ends : (x : NodeState) → E x → E (after_again_tick x)
  again_ends x e =
      either_ends (x.again_wait == 1) (after_again (with_again x 0)) (with_again x (x.again_wait - 1))
      (either_ends (has_waiting (with_again x 0)) (after_occasion (with_again x 0)) (with_again x 0) (occasion_ends (with_again x 0) (waited 0)) (waited 0)) (waited (x.again_wait - 1))
    where
      waited : (wait : ℕ) → E (with_again x wait)
      waited wait = ends_as x (with_again x wait) refl refl refl refl (λ other place at. at) e

  -- or a wait is over first, or the node wakes
  module _ (W : ℕ → ℕ → Type 0) (falls : (more wait : ℕ) → W more (suc wait) → W more wait) (due_then : (more wait : ℕ) → W more wait → D (suc more)) (left_then : (more wait : ℕ) → W more wait → D more)
      (held_then : (more wait : ℕ) → W more wait → V (suc more)) (S : ℕ → Type 0) (due_woken : (more : ℕ) → S more → D (suc more)) (held_woken : (more : ℕ) → S more → V (suc more)) where
    abbrev L : NodeState → Type 0
    L x = EndsLater command D R V W S x

    later_as : (x y : NodeState) → y.listens ≡ x.listens → y.awake ≡ x.awake → y.book.commands ≡ x.book.commands → y.book.outcome ≡ x.book.outcome → y.series ≡ x.series → y.again_wait ≡ x.again_wait → y.blocked ≡ x.blocked
        → ((other place : ℕ) → StandsAt other place x.waiting → StandsAt other place y.waiting) → L x → L y
    later_as x y listens awake commands outcome series_is again_is blocked stands (Goes_on e) = Goes_on (ends_as x y commands outcome series_is blocked stands e)
    later_as x y listens awake commands outcome series_is again_is blocked stands (Rests more session wait hears opened idle again at w) =
        Rests more session wait (listens ∙ hears) (same_open x.book y.book commands outcome ∙ opened) (series_is ∙ idle) (again_is ∙ again) (stands command more at) w
    later_as x y listens awake commands outcome series_is again_is blocked stands (Sleeps_on more down idle at s) =
        Sleeps_on more (ap (λ (b : Bool). b || y.awake) listens ∙ ap (λ (b : Bool). x.listens || b) awake ∙ down) (series_is ∙ idle) (stands command more at) s

    freed_later : (x : NodeState) → L x → L (after_hold_tick x)
    freed_later x (Goes_on e) = Goes_on (freed_ends x e)
    freed_later x (Rests more session wait hears opened idle again at w) = Rests more session wait hears opened idle again at w
    freed_later x (Sleeps_on more down idle at s) = Sleeps_on more down idle at s

    either_later : (b : Bool) (x y : NodeState) → L x → L y → L (if b then x else y)
    either_later true x y first later = first
    either_later false x y first later = later

    -- the next series begins
    next_due : (x : NodeState) (more session wait : ℕ) → open_session x.book ≡ Some session → StandsAt command more x.waiting → W more wait → L (new_series x)
    next_due x more session wait opened at w = Goes_on (Due (suc more) session (same_open x.book (new_series x).book refl refl ∙ opened) refl at (due_then more wait w) (λ is_blocked. held_then more wait w))

    -- none begins for a node that counts as asleep
    no_new : (a b c : Bool) (x y : NodeState) → b ≡ false → L y → L (if a && b && c then x else y)
    no_new true true c x y down e = absurd (let wrong : true ≡ false = down in cc)
    no_new true false c x y down e = e
    no_new false b c x y down e = e

    occasion_later : (x : NodeState) → L x → L (after_occasion x)
    occasion_later x (Goes_on e) = Goes_on (occasion_ends x e)
    occasion_later x (Rests more session wait hears opened idle again at w) =
        either_later (is_open x && is_up x && is_idle x.series) (new_series x) x (next_due x more session wait opened at w) (Rests more session wait hears opened idle again at w)
    occasion_later x (Sleeps_on more down idle at s) = no_new (is_open x) (is_up x) (is_idle x.series) (new_series x) x down (Sleeps_on more down idle at s)

    or_true : (b : Bool) → (b || true) ≡ true
    or_true true = refl
    or_true false = refl

    notified_later : (x : NodeState) (no_more : NoMore) → L x → L (after_occasion (record x { awake = true; no_more = no_more }))
    notified_later x no_more e = by e
      where
        y : NodeState
        y = record x { awake = true; no_more = no_more }

        by : L x → L (after_occasion (record x { awake = true; no_more = no_more }))
        by (Goes_on ends) = Goes_on (occasion_ends (record x { awake = true; no_more = no_more }) (ends_as x (record x { awake = true; no_more = no_more }) refl refl refl refl (λ other place at. at) ends))
        by (Rests more session wait hears opened idle again at w) = occasion_later (record x { awake = true; no_more = no_more }) (Rests more session wait hears opened idle again at w)
        by (Sleeps_on more down idle at s) = woken (open_session x.book) refl
          where
            woken : (o : Option ℕ) → open_session x.book ≡ o → L (after_occasion (record x { awake = true; no_more = no_more }))
            woken None none =
                Goes_on
                (occasion_ends (record x { awake = true; no_more = no_more }) (Idles more none idle at (λ is_free. less more (due_woken more s)) (λ is_blocked. fewer more (held_woken more s))))
            woken (Some session) opened =
                subst (λ (b : Bool). L (if b then new_series (record x { awake = true; no_more = no_more }) else record x { awake = true; no_more = no_more }))
                (sym (three_true (is_open y) (is_up y) (is_idle y.series) (ap (λ (o : Option ℕ). is_some o) opened) (or_true x.listens) (ap is_idle idle)))
                (Goes_on (Due (suc more) session (same_open x.book (new_series y).book refl refl ∙ opened) refl at (due_woken more s) (λ is_blocked. held_woken more s)))

    slept_later : (x : NodeState) → L x → L (asleep x)
    slept_later x (Goes_on e) = Goes_on (ends_as x (asleep x) refl refl refl refl (λ other place at. at) e)
    slept_later x (Rests more session wait hears opened idle again at w) = Rests more session wait hears opened idle again at w
    slept_later x (Sleeps_on more down idle at s) = Sleeps_on more (down_still x.listens x.awake down) idle at s
      where
        down_still : (a b : Bool) → (a || b) ≡ false → (a || false) ≡ false
        down_still true b is = is
        down_still false b is = refl

    told_later : (x : NodeState) (status : ℕ) → L x → L (after_told x status (Final 0))
    told_later x status (Goes_on e) = Goes_on (told_ends x status e)
    told_later x status (Rests more session wait hears opened idle again at w) = Goes_on (Idles more refl refl at (λ is_free. left_then more wait w) (λ is_blocked. fewer more (held_then more wait w)))
    told_later x status (Sleeps_on more down idle at s) = Sleeps_on more down refl at s

    begun_later : (x : NodeState) → open_session x.book ≡ None → L x → L (after_node x Begins)
    begun_later x closed (Goes_on e) = Goes_on (begun_ends x closed e)
    begun_later x closed (Rests more session wait hears opened idle again at w) = absurd (let no : Some session ≡ None = sym opened ∙ closed in cc)
    begun_later x closed (Sleeps_on more down idle at s) = Goes_on (begun_ends x closed (Idles more closed idle at (λ is_free. less more (due_woken more s)) (λ is_blocked. fewer more (held_woken more s))))

    started_later : (x y : NodeState) → y.listens ≡ x.listens → y.book ≡ x.book → y.blocked ≡ x.blocked → y.waiting ≡ x.waiting → y.series ≡ series.Running → x.series ≡ series.Due → L x → L y
    started_later x y listens book blocked waiting runs due (Goes_on e) = Goes_on (started_ends x y book blocked waiting runs due e)
    started_later x y listens book blocked waiting runs due (Rests more session wait hears opened idle again at w) = absurd (let no : series.Due ≡ series.Idle = sym due ∙ idle in cc)
    started_later x y listens book blocked waiting runs due (Sleeps_on more down idle at s) = absurd (let no : series.Due ≡ series.Idle = sym due ∙ idle in cc)

    again_later : (x : NodeState) → L x → L (after_again_tick x)
    again_later x (Goes_on e) = Goes_on (again_ends x e)
    again_later x (Rests more session zero hears opened idle again at w) =
        subst (λ (b : Bool). L (if b then after_again x0 else with_again x (x.again_wait - 1))) (sym (ap (λ (k : ℕ). k == 1) again))
        (subst (λ (b : Bool). L (if b then after_occasion x0 else x0)) (sym (waits_some x command more at)) (subst (λ (b : Bool). L (if b then new_series x0 else x0)) (sym up) (next_due x0 more session 0 opened at w)))
      where
        x0 : NodeState
        x0 = with_again x 0

        up : (is_open x0 && is_up x0 && is_idle x0.series) ≡ true
        up = three_true (is_open x0) (is_up x0) (is_idle x0.series) (ap (λ (o : Option ℕ). is_some o) opened) (ap (λ (b : Bool). b || x.awake) hears) (ap is_idle idle)
    again_later x (Rests more session (suc wait) hears opened idle again at w) =
        let fewer_left : x.again_wait - 1 ≡ suc wait = omega (arith, again) in
        subst (λ (b : Bool). L (if b then after_again (with_again x 0) else with_again x (x.again_wait - 1))) (sym (ne_eqb x.again_wait 1 (λ e. absurd (omega (arith, again, e)))))
        (Rests more session wait hears opened idle fewer_left at (falls more wait w))
    again_later x (Sleeps_on more down idle at s) =
        either_later (x.again_wait == 1) (after_again (with_again x 0)) (with_again x (x.again_wait - 1))
        (either_later (has_waiting (with_again x 0)) (after_occasion (with_again x 0)) (with_again x 0) (occasion_later (with_again x 0) (Sleeps_on more down idle at s)) (Sleeps_on more down idle at s)) (Sleeps_on more down idle at s)

    pub later_kept : KeptLaws L
    later_kept = record {
      as_was = later_as;
      occasion = occasion_later;
      notified = notified_later;
      slept = slept_later;
      ended = told_later;
      begun = begun_later;
      started = started_later;
      again = again_later;
      freed = freed_later;
    }

-- ---- whether the host listens to the node

listens_either : (listening b : Bool) (x y : NodeState) → x.listens ≡ listening → y.listens ≡ listening → (if b then x else y).listens ≡ listening
listens_either listening true x y first later = first
listens_either listening false x y first later = later

occasion_listens : (listening : Bool) (x : NodeState) → x.listens ≡ listening → (after_occasion x).listens ≡ listening
occasion_listens listening x is = listens_either listening (is_open x && is_up x && is_idle x.series) (new_series x) x is is

again_listens : (listening : Bool) (x : NodeState) → x.listens ≡ listening → (after_again_tick x).listens ≡ listening
again_listens listening x is =
    listens_either listening (x.again_wait == 1) (after_again (with_again x 0)) (with_again x (x.again_wait - 1))
    (listens_either listening (has_waiting (with_again x 0)) (after_occasion (with_again x 0)) (with_again x 0) (occasion_listens listening (with_again x 0) is) is) is

abbrev pub Hears_so : Bool → NodeState → Type 0
Hears_so listening x = x.listens ≡ listening

pub listens_kept : (listening : Bool) → KeptLaws (Hears_so listening)
listens_kept listening = record {
  as_was = λ x y listens awake commands outcome series_is again_is blocked stands is. listens ∙ is;
  occasion = occasion_listens listening;
  notified = λ x no_more is. occasion_listens listening (record x { awake = true; no_more = no_more }) is;
  slept = λ x is. is;
  ended = λ x status is. is;
  begun = λ x closed is. is;
  started = λ x y listens book blocked waiting runs due is. listens ∙ is;
  again = again_listens listening;
  freed = λ x is. is;
}
