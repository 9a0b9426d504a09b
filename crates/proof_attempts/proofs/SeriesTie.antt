-- A series of attempts runs by the transcript as it does in the host, along each run.
use Rattle.std.proofs.Common.{◌≡◌, ℕ, ◌+◌, ◌-◌, ◌<◌, ◌≤◌, ◌==◌, ◌&&◌, ◌||◌, not, nat_le, Bool, true, false, if◌then◌else◌, inl, inr, length, Contains, List, [], ◌∷◌, ◌++◌, map, Option, Some, None, refl, sym, ap, ap₂, ◌∙◌, subst, arith}
use Rattle.std.specs.List.{AllByRecursion, list_any}
use Rattle.std.proofs.lemmas.Bool.{both_ways, eq-eqb, eqb-true, false_from_ne_true, ne_eqb, or_left}
use Rattle.std.proofs.lemmas.List.Elements.{All-contains, All-from_recursion}
use Rattle.zw_text.specs.declared.line.Line.{Line}
use Rattle.zw_text.specs.declared.line.Line.TheVariants as lines
use Rattle.zw_text.specs.declared.entry.Ended.TheVariants as ended
use Rattle.zw_text.specs.declared.entry.Outcome.TheVariants as outcomes
use Rattle.zw_text.specs.declared.entry.Refusal.{Refusal}
use Rattle.zw_text.specs.declared.entry.Entry.{Entry}
use Rattle.zw_text.specs.declared.entry.Entry.TheVariants as entry
use Rattle.zw_text.specs.Transcript.{folded, line_of, lines_run}
use Rattle.proof_work.specs.law_transcript.Restarts.{is_restart, ticks_asked}
use Rattle.proof_work.specs.law_transcript.Sessions.{IsFinal}
use Rattle.proof_work.specs.law_time.Judged.{last_of}
use Rattle.proof_work.specs.law_time.Moments.{clock, now_at}
use Rattle.proof_work.specs.law_time.Sessions.{Series as SeriesTold, is_last_command, is_open, new_series, no_series, series_by_end, series_step, with_occasion, with_time}
use Rattle.proof_work.specs.law_time.Waking.{is_up}
use Rattle.host_requests.specs.declared.under_way.UnderWay.{UnderWay}
use Rattle.host_node.specs.declared.attempt.Moment.{Moment}
use Rattle.host_node.specs.declared.no_more.NoMore.{NoMore}
use Rattle.host_node.specs.declared.no_more.NoMore.TheVariants.{Unasked, Queued, Dropped}
use Rattle.host_node.specs.Facts.{SeriesFacts}
use Rattle.host_node.specs.declared.series.Series.{Series}
use Rattle.host_node.specs.declared.series.Series.TheVariants.{Idle, Due, Running}
use Rattle.host_node.specs.State.{NodeState, has_waiting, is_idle, is_open as has_open, is_up as hears, needs_tick, unknown}
use Rattle.host_node.specs.Steps.{after_begin, after_occasion, after_put, after_tick, as_recorded, new_series as anew, tried_again}
use Rattle.proof_requests.specs.host_model.State.{Command, HostState, node_of}
use Rattle.proof_requests.specs.host_model.After.{after, node_for}
use Rattle.proof_requests.specs.host_model.Events.{HostEvent, Accepts, Cancels, Joins, Queues, Queues_interview, Queues_probe, Hears, Requests_do, Notifies, Line_ticks, Node_ticks, Begins}
use Rattle.proof_requests.specs.host_model.May.{May}
use Rattle.proof_requests.specs.host_model.Outs.{answers, outs}
use Rattle.proof_requests.specs.host_model.Ticking.{ticking_nodes}
use Rattle.proof_requests.proofs.Submitted.{SleepersAre, SubmittedAre, next_is, no_more_is}
use Rattle.proof_work.proofs.HostOuts.{SharedAre, outs_are}
use Rattle.proof_work.specs.proof_host.Entries.{notes_of}
use Rattle.proof_work.specs.proof_host.Facts.{Facts}
use Rattle.proof_work.specs.proof_host.Laws.{IsUnderWay}
use Rattle.proof_work.specs.proof_host.Tables.{outcome_in}
use Rattle.zw_base.proofs.Each.{all-right}
use Rattle.supervision.specs.Host.{open_session}
use Rattle.proof_requests.specs.host_model.Sessions.{open_command}
use Rattle.proof_work.specs.world_model.Events.{OpensFrom}
use Rattle.proof_requests.proofs.proof_waking_Apart.{IsWordless}
use Rattle.proof_work.specs.Work.{HostWork, times_due, told_at, told_in}
use Rattle.proof_work.specs.proof_walk.ByLine.{IsAsked}
use Rattle.proof_requests.specs.proof_alone.State.{HostMachine, done}
use Rattle.proof_requests.specs.proof_alone.Steps.{AreTold, Says, happens}
use Rattle.proof_requests.specs.proof_alone.Phases.{Phase, Resting, Asked, Ticking, Open, Behind, Sleeping, Submitting, GoesBy, IsNumbered}
use Rattle.proof_requests.specs.proof_alone.Time.{TieClock}
use Rattle.proof_requests.proofs.proof_alone_Apart.{AreOfLine}
use Rattle.proof_requests.proofs.InOrder.{is_asked}
use Rattle.proof_attempts.specs.Series.{IsSeries, KnowsSeries, NodeAsTold, RunsAsTold, again_ticked, looked_at, series_so_far}
use Rattle.proof_attempts.specs.Since.{IsElse, IsLoose, IsOfItem, Lasts, is_to_tick}
use Rattle.proof_attempts.specs.Waiting.{WaitInOrder}
use Rattle.proof_attempts.specs.Waking.{CountsAwake, KnowsWork}
use Rattle.proof_attempts.proofs.Counting.{each_restarts, told_wordless}
use Rattle.proof_attempts.proofs.Doings.{did, does_at, node_after}
use Rattle.proof_requests.proofs.Timing.{told_untimed}
use Rattle.proof_attempts.proofs.Holding.{clock_now}
use Rattle.proof_attempts.proofs.Lasting.{rest_of}
use Rattle.proof_attempts.proofs.Nodes.{AtIs}
use Rattle.proof_attempts.proofs.Opening.{has_last, last_is, node_told}
use Rattle.proof_attempts.proofs.SeriesGoes.{IsElsewhere, Same, WaitsFor, between_goes, lasts_of, line_goes, no_wait_view, node_goes, request_goes, same_back, same_series, view}
use Rattle.proof_attempts.proofs.SeriesSteps.{begins, busy, none_due, occasion, part_begins, series_joined, series_one, series_said, series_starts, settled, starts, tick_rises, time_twice}
use Rattle.proof_attempts.proofs.SeriesTold.{IsAt, IsCalm, NoneDue, calm_series, end_step, ends_noted, loose_series, one_told}
use Rattle.proof_attempts.proofs.Telling.{told_so}
use Rattle.proof_attempts.proofs.Ticking.{waits_tick}
use Rattle.proof_attempts.proofs.Working.{in_order}

-- ---- the ground

of_work : (here : Phase) (past : List Entry) (m : HostMachine) → KnowsSeries here past m → KnowsWork here past m
of_work here past m ground = ground.0.0.0.0

tables : (here : Phase) (past : List Entry) (m : HostMachine) → KnowsSeries here past m → Facts past m.state
tables here past m ground = (of_work here past m ground).0.0.0.0.facts

clocked : (here : Phase) (past : List Entry) (m : HostMachine) → KnowsSeries here past m → TieClock past m
clocked here past m ground = (of_work here past m ground).0.0.1

works : (here : Phase) (past : List Entry) (m : HostMachine) → KnowsSeries here past m → HostWork m.state
works here past m ground = in_order here past m (of_work here past m ground).1

node_at : (here : Phase) (past : List Entry) (m : HostMachine) → IsElse here → KnowsSeries here past m → (n : ℕ) → 1 ≤ n → n ≤ 232 → NodeAsTold n past (node_of m.state n)
node_at here past m other ground n from to =
    node_told past m.state n (tables here past m ground) (ground.0.0.1 n) (ground.0.0.0.1 n to) (rest_of CountsAwake here past m other ground.0.1 n from to)

places : (here : Phase) (past : List Entry) (m : HostMachine) → KnowsSeries here past m → (n : ℕ) → n ≤ 232 → n < length m.state.nodes
places here past m ground n to = let all = (tables here past m ground).host.nodes.places in omega (arith, all, to)

-- ---- what is told at an event

abbrev series_now : ℕ → List Entry → ℕ → SeriesTold
series_now n past now = with_time n past now (series_so_far n past)

abbrev IsCalmEvent : HostEvent → Type 0
IsCalmEvent (Notifies n) = ⊥
IsCalmEvent (Begins n session command) = ⊥
IsCalmEvent event = Unit {0}

calm_line : AreOfLine IsCalm
calm_line = record { written = λ side text. tt; dropped = λ side. tt; garbled = λ side text. tt; overrun = λ side. tt }

calm_shared : SharedAre IsCalm
calm_shared = record {
  unanswered = λ command. tt;
  asleep = λ n. tt;
  done = λ n how. tt;
  uninterviewed = λ n. tt;
  neighbours = λ n nodes. tt;
  failed = λ n is_failed. tt;
  stored = λ n setting. tt;
  held = λ n. tt;
  full = λ n. tt;
}

told_calm : (h : HostState) (event : HostEvent) (told : List Entry) → IsCalmEvent event → AreTold (outs h event) told → AllByRecursion IsCalm told
told_calm h (Notifies n) told calm are = absurd calm
told_calm h (Begins n session command) told calm are = absurd calm
told_calm h (Accepts order carriage) told calm are = told_so IsCalm calm_line [] told tt are
told_calm h event told calm are = told_so IsCalm calm_line (outs h event) told (outs_are IsCalm calm_shared h event tt) are

is_at : (past : List Entry) (m : HostMachine) (told : List Entry) → TieClock past m → IsNumbered m told → IsAt past told m.clock
is_at past m told tie numbered = by m.awaits refl
  where
    by : (b : Bool) → m.awaits ≡ b → IsAt past told m.clock
    by true is = inl (numbered is)
    by false is = inr (clock_now past m tie is)

same_last : (n : ℕ) (past : List Entry) (h : HostState) → Facts past h → (command : ℕ) → is_last_command n past command ≡ lasts_of (node_of h n) command
same_last n past h facts command = ap (λ (l : List ℕ). list_any (λ one. one == command) (last_of l)) (facts.begun n)

event_tells : (n : ℕ) (past told : List Entry) (h : HostState) (event : HostEvent) (now : ℕ) → IsCalmEvent event → AreTold (outs h event) told → Facts past h → IsAt past told now → NoneDue (series_now n past now) now
    → series_now n (past ++ told) now ≡ folded (end_step (lasts_of (node_of h n)) now) (series_now n past now) (notes_of (outs h event))
event_tells n past told h event now calm are facts at none =
    let last : ℕ → Bool = lasts_of (node_of h n) in
    calm_series n past told (series_now n past now) last now (told_wordless h event told are) (told_untimed h event told are) (told_calm h event told calm are) (same_last n past h facts) at none refl
    ∙ ends_noted last now (outs h event) told are (series_now n past now)

elsewhere_calm : (event : HostEvent) → IsElsewhere event → IsCalmEvent event
elsewhere_calm (Notifies n) is = absurd is
elsewhere_calm (Begins n session command) is = absurd is
elsewhere_calm event is = tt

-- ---- between ticks

abbrev At : ℕ → List Entry → NodeState → ℕ → Type 0
At n past node now = IsSeries (series_now n past now) node now

-- by the entries of an event that begins no session and wakes no node
calm_tie : (here : Phase) (past : List Entry) (m : HostMachine) (event : HostEvent) (told : List Entry) → KnowsSeries here past m → IsCalmEvent event → AreTold (outs m.state event) told → IsNumbered m told
    → (n : ℕ) (s later : NodeState) → At n past s m.clock → IsSeries (folded (end_step (lasts_of (node_of m.state n)) m.clock) (series_now n past m.clock) (notes_of (outs m.state event))) later m.clock
    → At n (past ++ told) later m.clock
calm_tie here past m event told ground calm are numbered n s later tie goes =
    subst (λ (t : SeriesTold). IsSeries t later m.clock)
    (sym (event_tells n past told m.state event m.clock calm are (tables here past m ground) (is_at past m told (clocked here past m ground) numbered) (none_due (series_now n past m.clock) s m.clock tie))) goes

between_tie : (here : Phase) (past : List Entry) (m : HostMachine) (event : HostEvent) (told : List Entry) → KnowsSeries here past m → May m.state event → IsElsewhere event → AreTold (outs m.state event) told
    → IsNumbered m told → (n : ℕ) → n ≤ 232 → At n past (node_of m.state n) m.clock → At n (past ++ told) (node_of (after m.state event) n) m.clock
between_tie here past m event told ground may is are numbered n to tie =
    let facts = tables here past m ground in
    subst (λ (s : NodeState). At n (past ++ told) s m.clock) (sym (node_after m.state event n (places here past m ground n to)))
    (calm_tie here past m event told ground (elsewhere_calm event is) are numbered n (node_of m.state n) (does_at n (node_of m.state n) (did m.state event)) tie
    (between_goes m.state n m.clock facts.host (series_now n past m.clock) event may is tie))

-- ---- a moment at which a series may be due

of_either : {A : Type 0} (of : NodeState → A) (b : Bool) (x y : NodeState) (a : A) → of x ≡ a → of y ≡ a → of (if b then x else y) ≡ a
of_either of true x y a p q = p
of_either of false x y a p q = q

occasion_told : (n : ℕ) (past : List Entry) (x : NodeState) → NodeAsTold n past (after_occasion x) → NodeAsTold n past x
occasion_told n past x told =
    let due : Bool = has_open x && hears x && is_idle x.series in
    record {
      waits = told.waits ∙ ap not (of_either has_waiting due (anew x) x (has_waiting x) refl refl);
      up = told.up ∙ of_either hears due (anew x) x (hears x) refl refl;
      opened = told.opened ∙ of_either has_open due (anew x) x (has_open x) refl refl;
    }

occasion_none : (b up opened : Bool) (one : SeriesTold) (now : ℕ) → NoneDue one now → NoneDue (if b then (if up && opened then new_series else one) else one) now
occasion_none false up opened one now none = none
occasion_none true true true one now none = refl
occasion_none true true false one now none = none
occasion_none true false opened one now none = none

-- the node of this entry, which became so: another one is as it was
occasion_by : (n k : ℕ) (past : List Entry) (e : Entry) (s x : NodeState) (one : SeriesTold) (now : ℕ) → (k ≡ n → NodeAsTold n (past ++ e ∷ []) (after_occasion x)) → (is_idle x.series ≡ false → x.again_wait ≡ 0)
    → Same s x → IsSeries one s now → IsSeries (if k == n then with_occasion n (past ++ e ∷ []) one else one) (if k == n then after_occasion x else s) now
occasion_by n k past e s x one now told idle same tie = by (k == n) refl
  where
    by : (b : Bool) → (k == n) ≡ b → IsSeries (if b then with_occasion n (past ++ e ∷ []) one else one) (if b then after_occasion x else s) now
    by true is = occasion n (past ++ e ∷ []) one x now (occasion_told n (past ++ e ∷ []) x (told (eqb-true k n is))) idle (same_series one s x now same tie)
    by false is = tie

as_is : (s t : NodeState) → is_idle t.series ≡ is_idle s.series → t.again_wait ≡ s.again_wait → Same s t
as_is s t idle wait = record { idle = idle; wait = wait }

at_one : (past : List Entry) (m : HostMachine) (e : Entry) (told : List Entry) → told ≡ e ∷ [] → TieClock past m → IsNumbered m told → m.clock ≡ clock past
at_one past m e told is tie numbered = by m.awaits refl
  where
    by : (b : Bool) → m.awaits ≡ b → m.clock ≡ clock past
    by true awaits = absurd (let bad : e ∷ [] ≡ [] = sym is ∙ numbered awaits in cc)
    by false awaits = clock_now past m tie awaits

occasion_tie : (here next : Phase) (past : List Entry) (m later : HostMachine) (told : List Entry) (n k : ℕ) (e : Entry) (x node : NodeState) → IsWordless e → now_at past e ≡ clock past
    → ((one : SeriesTold) → series_step n past one e [] ≡ (if k == n then with_occasion n (past ++ e ∷ []) one else one)) → node_of later.state n ≡ node → node ≡ (if k == n then after_occasion x else node_of m.state n)
    → told ≡ e ∷ [] → IsNumbered m told → KnowsSeries here past m → IsElse next → KnowsSeries next (past ++ told) later → (is_idle x.series ≡ false → x.again_wait ≡ 0) → Same (node_of m.state n) x → 1 ≤ n → n ≤ 232
    → At n past (node_of m.state n) m.clock → At n (past ++ told) node m.clock
occasion_tie here next past m later told n k e x node wordless now steps same node_is told_is numbered ground other after_it idle alike from to tie =
    let s = node_of m.state n in
    let one : SeriesTold = series_now n past m.clock in
    let stepped : SeriesTold = if k == n then with_occasion n (past ++ e ∷ []) one else one in
    let at : m.clock ≡ clock past = at_one past m e told told_is (clocked here past m ground) numbered in
    let none = occasion_none (k == n) (is_up n (past ++ e ∷ [])) (is_open n (past ++ e ∷ [])) one m.clock (none_due one s m.clock tie) in
    let series : series_now n (past ++ e ∷ []) m.clock ≡ stepped
    = one_told n past e one m.clock wordless (now ∙ sym at) refl (subst (λ (t : SeriesTold). NoneDue t m.clock) (sym (steps one)) none) ∙ steps one in
    let now_told : k ≡ n → NodeAsTold n (past ++ e ∷ []) (after_occasion x)
    = λ it. subst (λ (t : NodeState). NodeAsTold n (past ++ e ∷ []) t) (same ∙ node_is ∙ ap (λ (b : Bool). if b then after_occasion x else s) (eq-eqb k n it))
    (subst (λ (l : List Entry). NodeAsTold n l (node_of later.state n)) (ap (λ (l : List Entry). past ++ l) told_is) (node_at next (past ++ told) later other after_it n from to)) in
    subst (λ (l : List Entry). At n (past ++ l) node m.clock) (sym told_is)
    (subst (λ (t : SeriesTold). IsSeries t node m.clock) (sym series)
    (subst (λ (t : NodeState). IsSeries stepped t m.clock) (sym node_is) (occasion_by n k past e s x one m.clock now_told idle alike tie)))

notifies_tie : (here next : Phase) (past : List Entry) (m : HostMachine) (k : ℕ) (told : List Entry) → KnowsSeries here past m → IsElse next → KnowsSeries next (past ++ told) (done m (Notifies k))
    → AreTold (outs m.state (Notifies k)) told → IsNumbered m told → (n : ℕ) → 1 ≤ n → n ≤ 232 → At n past (node_of m.state n) m.clock → At n (past ++ told) (node_of (after m.state (Notifies k)) n) m.clock
notifies_tie here next past m k told ground other after_it (rest, is, none) numbered n from to tie =
    let s = node_of m.state n in
    let x : NodeState = record s { awake = true; no_more = tried_again s.no_more } in
    occasion_tie here next past m (done m (Notifies k)) told n k (entry.Awake k) x (node_of (after m.state (Notifies k)) n) tt refl (λ one. refl) refl (node_after m.state (Notifies k) n (places here past m ground n to))
    (is ∙ ap (λ (l : List Entry). entry.Awake k ∷ l) none) numbered ground other after_it (busy s ((tables here past m ground).host.nodes.facts n)) (as_is s x refl refl) from to tie

-- ---- what a line asks for

put_by : (b : Bool) (p s : NodeState) → (if b then after_occasion (if b then p else s) else (if b then p else s)) ≡ (if b then after_occasion p else s)
put_by true p s = refl
put_by false p s = refl

-- a command that waits is that of no session
abbrev WasEnded : List Command → Option ℕ → ℕ → Type 0
WasEnded commands opened number = (opened ≡ Some number → ⊥) → IsFinal (outcome_in commands number)

not_begun : (commands : List Command) (opened : Option ℕ) (c : ℕ) (begun : List ℕ) → AllByRecursion (WasEnded commands opened) begun → ((number : ℕ) → opened ≡ Some number → IsUnderWay (outcome_in commands number))
    → outcome_in commands c ≡ outcomes.Waiting → list_any (λ command. command == c) (last_of begun) ≡ false
not_begun commands opened c [] ended under_way waits = refl
not_begun commands opened c (first ∷ more) ended under_way waits =
    let at = has_last first more in
    let other : WasEnded commands opened at.last
    = (all-right (WasEnded commands opened) at.front (at.last ∷ []) (subst (λ (l : List ℕ). AllByRecursion (WasEnded commands opened) l) at.are ended)).0 in
    ap (λ (l : List ℕ). list_any (λ command. command == c) (last_of l)) at.are ∙ ap (λ (l : List ℕ). list_any (λ command. command == c) l) (last_is at.front at.last)
    ∙ ap (λ (b : Bool). b || false)
    (ne_eqb at.last c (λ same.
    let still : outcome_in commands at.last ≡ outcomes.Waiting = ap (outcome_in commands) same ∙ waits in
    subst IsFinal still (other (λ is. subst IsUnderWay still (under_way at.last is)))))

pub waits_still : (past : List Entry) (h : HostState) (command k n : ℕ) → Facts past h → Contains (node_of h k).waiting command → is_last_command n past command ≡ false
waits_still past h command k n facts waits =
    let own = facts.in_order k in
    let in_turn = facts.in_order n in
    let is : outcome_in h.commands command ≡ outcomes.Waiting
    = All-contains (λ number. outcome_in h.commands number ≡ outcomes.Waiting) (node_of h k).waiting command (All-from_recursion (λ number. outcome_in h.commands number ≡ outcomes.Waiting) (node_of h k).waiting own.wait) waits in
    same_last n past h facts command ∙ not_begun h.commands (open_command (node_of h n)) command (node_of h n).book.commands in_turn.ended in_turn.under_way is

cancels_tie : (here : Phase) (past : List Entry) (m : HostMachine) (command : ℕ) → KnowsSeries here past m → May m.state (Cancels command) → IsNumbered m (entry.Out command ended.Cancelled ∷ []) → (n : ℕ) → n ≤ 232
    → At n past (node_of m.state n) m.clock → At n (past ++ entry.Out command ended.Cancelled ∷ []) (node_of (after m.state (Cancels command)) n) m.clock
cancels_tie here past m command ground may numbered n to tie =
    let e : Entry = entry.Out command ended.Cancelled in
    let facts = tables here past m ground in
    let one : SeriesTold = series_now n past m.clock in
    let at : m.clock ≡ clock past = at_one past m e (e ∷ []) refl (clocked here past m ground) numbered in
    let steps : series_step n past one e [] ≡ one
    = ap (λ (b : Bool). if b then series_by_end ended.Cancelled (clock past) else one) (waits_still past m.state command (node_for m.state command) n facts may) in
    let series : series_now n (past ++ e ∷ []) m.clock ≡ one
    = one_told n past e one m.clock tt (sym at) refl (subst (λ (t : SeriesTold). NoneDue t m.clock) (sym steps) (none_due one (node_of m.state n) m.clock tie)) ∙ steps in
    subst (λ (t : SeriesTold). IsSeries t (node_of (after m.state (Cancels command)) n) m.clock) (sym series)
    (subst (λ (t : NodeState). IsSeries one t m.clock) (sym (node_after m.state (Cancels command) n (places here past m ground n to)))
    (between_goes m.state n m.clock facts.host one (Cancels command) may tt tie))

asked_tie : (line : Line) (past : List Entry) (m : HostMachine) (event : HostEvent) → IsAsked event → May m.state event → IsNumbered m (answers m.state event) → KnowsSeries (Asked line) past m
    → KnowsSeries Open (past ++ answers m.state event) (done m event) → (n : ℕ) → 1 ≤ n → n ≤ 232 → At n past (node_of m.state n) m.clock
    → At n (past ++ answers m.state event) (node_of (after m.state event) n) m.clock
asked_tie line past m (Accepts order carriage) asked may numbered ground later n from to tie =
    let event : HostEvent = Accepts order carriage in
    let s = node_of m.state n in
    let k = order.node in
    let number = length m.state.commands + 1 in
    let x : NodeState = after_put s number in
    occasion_tie (Asked line) Open past m (done m event) (answers m.state event) n k (entry.Accepted number k) x (node_of (after m.state event) n) tt refl (λ one. refl) refl
    (node_after m.state event n (places (Asked line) past m ground n to) ∙ put_by (k == n) x s) refl numbered ground tt later (busy s ((tables (Asked line) past m ground).host.nodes.facts n)) (as_is s x refl refl)
    from to tie
asked_tie line past m (Cancels command) asked may numbered ground later n from to tie = cancels_tie (Asked line) past m command ground may numbered n to tie
asked_tie line past m (Joins k) asked may numbered ground later n from to tie = between_tie (Asked line) past m (Joins k) [] ground may tt refl (λ is. refl) n to tie
asked_tie line past m (Queues task) asked may numbered ground later n from to tie = between_tie (Asked line) past m (Queues task) [] ground may tt refl (λ is. refl) n to tie
asked_tie line past m (Queues_interview k) asked may numbered ground later n from to tie = between_tie (Asked line) past m (Queues_interview k) [] ground may tt refl (λ is. refl) n to tie
asked_tie line past m Queues_probe asked may numbered ground later n from to tie = between_tie (Asked line) past m Queues_probe [] ground may tt refl (λ is. refl) n to tie
asked_tie line past m event asked may numbered ground later n from to tie = absurd asked

-- ---- a session begins

no_wait : (series : Series) (s : NodeState) → SeriesFacts series s.book s.attempt_wait s.again_wait s.next_segment s.segments s.text s.pending → open_session s.book ≡ None → s.again_wait ≡ 0
no_wait Idle s facts closed = (facts.0.closed closed).1
no_wait Due s facts closed = facts.1
no_wait Running s facts closed = facts.1

begin_none : (b : Bool) (one : SeriesTold) (now : ℕ) → NoneDue one now → NoneDue (if b then new_series else one) now
begin_none true one now none = refl
begin_none false one now none = none

begin_by : (b : Bool) (one : SeriesTold) (s : NodeState) (now : ℕ) → (b ≡ true → s.again_wait ≡ 0) → IsSeries one s now → IsSeries (if b then new_series else one) (if b then after_begin s else s) now
begin_by true one s now none tie = begins s now (none refl)
begin_by false one s now none tie = tie

begins_tie : (here : Phase) (past : List Entry) (m : HostMachine) (k session command : ℕ) (told : List Entry) → KnowsSeries here past m → May m.state (Begins k session command)
    → AreTold (outs m.state (Begins k session command)) told → IsNumbered m told → (n : ℕ) → n ≤ 232 → At n past (node_of m.state n) m.clock
    → At n (past ++ told) (node_of (after m.state (Begins k session command)) n) m.clock
begins_tie here past m k session command told ground may (rest, is, none) numbered n to tie =
    let e : Entry = entry.Begin k session command in
    let event : HostEvent = Begins k session command in
    let s = node_of m.state n in
    let one : SeriesTold = series_now n past m.clock in
    let told_is : told ≡ e ∷ [] = is ∙ ap (λ (l : List Entry). e ∷ l) none in
    let at : m.clock ≡ clock past = at_one past m e told told_is (clocked here past m ground) numbered in
    let series : series_now n (past ++ e ∷ []) m.clock ≡ (if k == n then new_series else one)
    = one_told n past e one m.clock tt (sym at) refl (begin_none (k == n) one m.clock (none_due one s m.clock tie)) in
    let closed : (k == n) ≡ true → s.again_wait ≡ 0
    = λ it. no_wait s.series s ((tables here past m ground).host.nodes.facts n).series (subst (λ (j : ℕ). open_session (node_of m.state j).book ≡ None) (eqb-true k n it) may.1.1) in
    subst (λ (l : List Entry). At n (past ++ l) (node_of (after m.state event) n) m.clock) (sym told_is)
    (subst (λ (t : SeriesTold). IsSeries t (node_of (after m.state event) n) m.clock) (sym series)
    (subst (λ (t : NodeState). IsSeries (if k == n then new_series else one) t m.clock) (sym (node_after m.state event n (places here past m ground n to))) (begin_by (k == n) one s m.clock closed tie)))

-- ---- in a tick

due_once : (no_more : NoMore) (count : ℕ) → 1 ≤ count → count ≤ times_due no_more → no_more ≡ Queued
due_once Queued count least most = refl
due_once Unasked count least most = absurd (omega (arith, least, most))
due_once Dropped count least most = absurd (omega (arith, least, most))

-- a node that is being told that there is no more for it waits for no other series with a command
waits_for : (here : Phase) (past : List Entry) (m : HostMachine) (other : IsElse here) (ground : KnowsSeries here past m) (n : ℕ) → 1 ≤ n → n ≤ 232
    → AtIs (WaitsFor m.state n m.clock (tables here past m ground).host) m.state.requests.under_way
waits_for here past m other ground n from to = by m.state.requests.under_way refl
  where
    by : (o : Option UnderWay) → m.state.requests.under_way ≡ o → AtIs (WaitsFor m.state n m.clock (tables here past m ground).host) o
    by None is = tt
    by (Some u) is = λ told.
        let s = node_of m.state n in
        let once : told_in n m.state.requests.queue + told_at n m.state.requests.under_way ≡ times_due s.no_more = (works here past m ground).work.once n in
        let one : told_at n m.state.requests.under_way ≡ 1 = ap (λ (o : Option UnderWay). told_at n o) is ∙ told in
        rest_of WaitInOrder here past m other ground.1 n from to (due_once s.no_more 1 (omega arith) (omega (arith, once, one)))

-- before the tick of a node
ahead_tie : (here : Phase) (past : List Entry) (m : HostMachine) (event : HostEvent) (told : List Entry) → KnowsSeries here past m → IsCalmEvent event → AreTold (outs m.state event) told → IsNumbered m told
    → (n : ℕ) → n ≤ 232 → At n past (again_ticked (node_of m.state n)) m.clock
    → IsSeries (folded (end_step (lasts_of (node_of m.state n)) m.clock) (series_now n past m.clock) (notes_of (outs m.state event))) (again_ticked (does_at n (node_of m.state n) (did m.state event))) m.clock
    → At n (past ++ told) (again_ticked (node_of (after m.state event) n)) m.clock
ahead_tie here past m event told ground calm are numbered n to tie goes =
    let s = node_of m.state n in
    subst (λ (t : NodeState). At n (past ++ told) (again_ticked t) m.clock) (sym (node_after m.state event n (places here past m ground n to)))
    (calm_tie here past m event told ground calm are numbered n (again_ticked s) (again_ticked (does_at n s (did m.state event))) tie goes)

-- a node that is not among those that are to tick has no wait
not_among : (left : List HostEvent) (h : HostState) (n : ℕ) → left ≡ map Node_ticks (ticking_nodes h) → 1 ≤ n → n ≤ 232 → (one : SeriesTold) (now : ℕ) → IsSeries one (again_ticked (node_of h n)) now
    → (b : Bool) → is_to_tick n left ≡ b → IsSeries one (if b then again_ticked (node_of h n) else node_of h n) now
not_among left h n are from to one now tie true is = tie
not_among left h n are from to one now tie false is =
    let s = node_of h n in
    let none : needs_tick s ≡ false
    = false_from_ne_true (needs_tick s) (λ needs. both_ways (is_to_tick n left) is (ap (λ (l : List HostEvent). is_to_tick n l) are ∙ waits_tick h n from to needs)) in
    same_series one (again_ticked s) s now (same_back s (again_ticked s) (no_wait_view s none)) tie

as_view : (b : Bool) (one : SeriesTold) (s : NodeState) (now : ℕ) → IsSeries one (if b then again_ticked s else s) now → IsSeries one (view b s) now
as_view true one s now tie = tie
as_view false one s now tie = tie

own_over : (b left : Bool) (one : SeriesTold) (s : NodeState) (now : ℕ) → (b ≡ true → left ≡ false) → IsSeries one (if b then after_tick s else view (b || left) s) now
    → IsSeries one (if left then again_ticked (if b then after_tick s else s) else (if b then after_tick s else s)) now
own_over true true one s now once tie = absurd (let bad : true ≡ false = once refl in cc)
own_over true false one s now once tie = tie
own_over false true one s now once tie = tie
own_over false false one s now once tie = tie

ticks_tie : (first : HostEvent) (left : List HostEvent) (past : List Entry) (m : HostMachine) (told : List Entry) → KnowsSeries (Ticking (first ∷ left)) past m → May m.state first → AreTold (outs m.state first) told
    → IsNumbered m told → (n : ℕ) → 1 ≤ n → n ≤ 232 → At n past (looked_at (Ticking (first ∷ left)) m.state n) m.clock → At n (past ++ told) (looked_at (Ticking left) (after m.state first) n) m.clock
ticks_tie Line_ticks left past m told ground may are numbered n from to tie =
    let here : Phase = Ticking (Line_ticks ∷ left) in
    let facts = tables here past m ground in
    subst (λ (l : List HostEvent). At n (past ++ told) (looked_at (Ticking l) (after m.state Line_ticks) n) m.clock) (sym (of_work here past m ground).0.1.0)
    (ahead_tie here past m Line_ticks told ground tt are numbered n to tie
    (line_goes m.state n m.clock facts.host (series_now n past m.clock) (waits_for here past m tt ground n from to) tie))
ticks_tie (Requests_do event moment) left past m told ground may are numbered n from to tie =
    let here : Phase = Ticking (Requests_do event moment ∷ left) in
    let facts = tables here past m ground in
    let s = node_of m.state n in
    let one : SeriesTold = series_now n past m.clock in
    let left_is = (of_work here past m ground).0.1.0 in
    not_among left (after m.state (Requests_do event moment)) n left_is.1 from to (series_now n (past ++ told) m.clock) m.clock
    (ahead_tie here past m (Requests_do event moment) told ground tt are numbered n to tie
    (subst (λ (at : Moment). IsSeries (folded (end_step (lasts_of s) m.clock) one (notes_of (outs m.state (Requests_do event at)))) (again_ticked (does_at n s (did m.state (Requests_do event at)))) m.clock) (sym left_is.0)
    (request_goes m.state n m.clock facts.host one event (waits_for here past m tt ground n from to) tie)))
    (is_to_tick n left) refl
ticks_tie (Node_ticks k) left past m told ground may are numbered n from to tie =
    let here : Phase = Ticking (Node_ticks k ∷ left) in
    let facts = tables here past m ground in
    let s = node_of m.state n in
    let one : SeriesTold = series_now n past m.clock in
    let ahead : Bool = (k == n) || is_to_tick n left in
    let once : (k == n) ≡ true → is_to_tick n left ≡ false
    = λ it. subst (λ (j : ℕ). is_to_tick j left ≡ false) (eqb-true k n it) (of_work here past m ground).0.1.0.0 in
    let own : NodeState = if k == n then after_tick s else s in
    subst (λ (t : NodeState). At n (past ++ told) (if is_to_tick n left then again_ticked t else t) m.clock) (sym (node_after m.state (Node_ticks k) n (places here past m ground n to)))
    (own_over (k == n) (is_to_tick n left) (series_now n (past ++ told) m.clock) s m.clock once
    (calm_tie here past m (Node_ticks k) told ground tt are numbered n (if ahead then again_ticked s else s) (if k == n then after_tick s else view ahead s) tie
    (node_goes m.state n m.clock facts.host one k ahead (λ same. or_left (k == n) (is_to_tick n left) (eq-eqb k n same)) (as_view ahead one s m.clock tie))))
ticks_tie first left past m told ground may are numbered n from to tie = absurd (of_work (Ticking (first ∷ left)) past m ground).0.1.0

-- ---- between ticks, at each phase

item_tie : (here next : Phase) (past : List Entry) (m : HostMachine) (event : HostEvent) (told : List Entry) → IsOfItem event → KnowsSeries here past m → May m.state event → AreTold (outs m.state event) told
    → IsNumbered m told → IsElse next → KnowsSeries next (past ++ told) (done m event) → (n : ℕ) → 1 ≤ n → n ≤ 232 → At n past (node_of m.state n) m.clock
    → At n (past ++ told) (node_of (after m.state event) n) m.clock
item_tie here next past m (Notifies k) told is ground may are numbered other later n from to tie = notifies_tie here next past m k told ground other later are numbered n from to tie
item_tie here next past m (Queues task) told is ground may are numbered other later n from to tie = absurd is
item_tie here next past m event told is ground may are numbered other later n from to tie = between_tie here past m event told ground may is are numbered n to tie

abbrev IsSubmitted : HostEvent → Type 0
IsSubmitted (Begins k session command) = Unit {0}
IsSubmitted event = IsElsewhere event

submitted : SubmittedAre IsSubmitted
submitted = record {
  abort = tt;
  front = tt;
  starts = λ n plan more payload. tt;
  text = λ n payload. tt;
  segment = λ n more payload. tt;
  begins = λ n session command. tt;
  unkept = λ n. tt;
}

sleepers : SleepersAre IsElsewhere
sleepers = record { queues = λ n. tt; drops = λ n. tt }

submits_tie : (past : List Entry) (m : HostMachine) (event : HostEvent) (told : List Entry) → IsSubmitted event → KnowsSeries Submitting past m → May m.state event → AreTold (outs m.state event) told
    → IsNumbered m told → (n : ℕ) → n ≤ 232 → At n past (node_of m.state n) m.clock → At n (past ++ told) (node_of (after m.state event) n) m.clock
submits_tie past m (Begins k session command) told is ground may are numbered n to tie = begins_tie Submitting past m k session command told ground may are numbered n to tie
submits_tie past m event told is ground may are numbered n to tie = between_tie Submitting past m event told ground may is are numbered n to tie

leads_to : (next to : Phase) (past : List Entry) (h : HostState) (now : ℕ) → next ≡ to → RunsAsTold to past h now → RunsAsTold next past h now
leads_to next to past h now is tie = subst (λ (p : Phase). RunsAsTold p past h now) (sym is) tie

does_tie : (here next : Phase) (past : List Entry) (m : HostMachine) (event : HostEvent) (told : List Entry) → GoesBy here m.state event next → May m.state event → AreTold (outs m.state event) told → IsNumbered m told
    → KnowsSeries here past m → KnowsSeries next (past ++ told) (done m event) → RunsAsTold here past m.state m.clock → RunsAsTold next (past ++ told) (after m.state event) m.clock
does_tie (Ticking (first ∷ left)) next past m event told goes may are numbered ground later tie =
    leads_to next (Ticking left) (past ++ told) (after m.state event) m.clock goes.1
    (λ n from to.
    subst (λ (e : HostEvent). At n (past ++ told) (looked_at (Ticking left) (after m.state e) n) m.clock) (sym goes.0)
    (ticks_tie first left past m told ground (subst (λ (e : HostEvent). May m.state e) goes.0 may) (subst (λ (e : HostEvent). AreTold (outs m.state e) told) goes.0 are) numbered n from to (tie n from to)))
does_tie (Behind (first ∷ left)) next past m event told goes may are numbered ground later tie =
    leads_to next (Behind left) (past ++ told) (after m.state event) m.clock goes.1
    (λ n from to.
    item_tie (Behind (first ∷ left)) (Behind left) past m event told (subst IsOfItem (sym goes.0) (of_work (Behind (first ∷ left)) past m ground).0.1.0) ground may are numbered tt
    (subst (λ (p : Phase). KnowsSeries p (past ++ told) (done m event)) goes.1 later) n from to (tie n from to))
does_tie Sleeping next past m event told (k, wants, is, to_is) may are numbered ground later tie =
    leads_to next Sleeping (past ++ told) (after m.state event) m.clock to_is
    (λ n from to. between_tie Sleeping past m event told ground may (subst IsElsewhere (sym is) (no_more_is IsElsewhere sleepers m.state k)) are numbered n to (tie n from to))
does_tie Submitting next past m event told goes may are numbered ground later tie =
    leads_to next Submitting (past ++ told) (after m.state event) m.clock goes.1
    (λ n from to. submits_tie past m event told (next_is IsSubmitted submitted m.state event goes.0) ground may are numbered n to (tie n from to))
does_tie here next past m event told goes may are numbered ground later tie = absurd goes

-- ---- lines and time

same_moment : (n : ℕ) (past more : List Entry) (node : NodeState) (now : ℕ) (s : SeriesTold) → NodeAsTold n past node → NodeAsTold n more node → with_time n more now s ≡ with_time n past now s
same_moment n past more node now s before later =
    let occasions : with_occasion n more no_series ≡ with_occasion n past no_series
    = ap₂ (λ (u o : Bool). if u && o then new_series else no_series) (later.up ∙ sym before.up) (later.opened ∙ sym before.opened) in
    ap₂ (λ (none : Bool) (t : SeriesTold). if list_any (λ tick. nat_le tick now) s.again then (if none then no_series else t) else s) (later.waits ∙ sym before.waits) occasions

numbers_tie : (here : Phase) (past : List Entry) (m : HostMachine) → IsElse here → KnowsSeries here past m → KnowsSeries here (past ++ entry.Time m.clock ∷ []) (record m { awaits = false })
    → RunsAsTold here past m.state m.clock → RunsAsTold here (past ++ entry.Time m.clock ∷ []) m.state m.clock
numbers_tie here past m other ground later tie n from to =
    let more : List Entry = past ++ entry.Time m.clock ∷ [] in
    let so_far : SeriesTold = series_so_far n past in
    let is : series_so_far n more ≡ with_time n past (m.clock - 1) so_far = series_one n past (entry.Time m.clock) tt in
    let same : series_now n more m.clock ≡ series_now n past m.clock
    = ap (λ (s : SeriesTold). with_time n more m.clock s) is
    ∙ same_moment n past more (node_of m.state n) m.clock (with_time n past (m.clock - 1) so_far) (node_at here past m other ground n from to) (node_at here more (record m { awaits = false }) other later n from to)
    ∙ time_twice n past so_far (m.clock - 1) m.clock (omega arith) in
    subst (λ (s : SeriesTold). IsSeries s (looked_at here m.state n) m.clock) (sym same) (tie n from to)

-- a line begins when all ticks are over that were asked for
at_line : (past : List Entry) (m : HostMachine) → TieClock past m → m.left ≡ 0 → ticks_asked (lines_run past) ≡ m.clock
at_line past m tie none = let all = tie.asked in omega (arith, all, none)

said_tie : (past : List Entry) (words : List ℕ) (m : HostMachine) → m.left ≡ 0 → KnowsSeries Resting past m → is_restart (line_of (entry.Said words)) ≡ false → RunsAsTold Resting past m.state m.clock
    → RunsAsTold Resting (past ++ entry.Said words ∷ []) m.state m.clock
said_tie past words m none ground goes_on tie n from to =
    let more : List Entry = past ++ entry.Said words ∷ [] in
    let is : series_so_far n more ≡ series_now n past m.clock
    = series_said n past words goes_on ∙ ap (λ (k : ℕ). with_time n past k (series_so_far n past)) (at_line past m (clocked Resting past m ground) none) in
    subst (λ (s : SeriesTold). IsSeries s (node_of m.state n) m.clock)
    (sym (ap (λ (s : SeriesTold). with_time n more m.clock s) is ∙ settled n more (series_now n past m.clock) (node_of m.state n) m.clock (tie n from to))) (tie n from to)

and_false : (b : Bool) → b && false ≡ false
and_false true = refl
and_false false = refl

refused_tie : (past : List Entry) (words : List ℕ) (line : Line) (refusal : Refusal) (m : HostMachine) → m.left ≡ 0 → KnowsSeries Resting past m
    → KnowsSeries (Asked line) (past ++ entry.Said words ∷ []) (happens m (Says words line)) → RunsAsTold Resting past m.state m.clock
    → RunsAsTold Open (past ++ entry.Said words ∷ (entry.Refused refusal ∷ [])) m.state m.clock
refused_tie past words line refusal m none ground later tie n from to =
    let more : List Entry = past ++ entry.Said words ∷ [] in
    let whole : List Entry = past ++ entry.Said words ∷ (entry.Refused refusal ∷ []) in
    let s = node_of m.state n in
    let one : SeriesTold = series_now n past m.clock in
    let read : with_time n past (ticks_asked (lines_run past)) (series_so_far n past) ≡ one
    = ap (λ (k : ℕ). with_time n past k (series_so_far n past)) (at_line past m (clocked Resting past m ground) none) in
    let at : m.clock ≡ clock more = clock_now more (happens m (Says words line)) (clocked (Asked line) more (happens m (Says words line)) later) refl in
    let is : series_so_far n whole ≡ with_time n more m.clock one
    = series_joined n past (entry.Said words ∷ (entry.Refused refusal ∷ [])) refl
    ∙ ap (λ (b : Bool). with_time n more (clock more) (if b then with_occasion n more no_series else with_time n past (ticks_asked (lines_run past)) (series_so_far n past))) (and_false (is_restart (line_of (entry.Said words))))
    ∙ ap₂ (λ (k : ℕ) (t : SeriesTold). with_time n more k t) (sym at) read in
    let same : series_now n whole m.clock ≡ one
    = ap (λ (t : SeriesTold). with_time n whole m.clock t) (is ∙ settled n more one s m.clock (tie n from to)) ∙ settled n whole one s m.clock (tie n from to) in
    subst (λ (t : SeriesTold). IsSeries t s m.clock) (sym same) (tie n from to)

-- ---- the host starts

starts_tie : (before : List Entry) (words : List ℕ) (m : HostMachine) (state : HostState) → OpensFrom m.keys m.records state → is_restart (line_of (entry.Said words)) ≡ true
    → KnowsSeries (Asked lines.Restart) (before ++ entry.Said words ∷ []) m → KnowsSeries Open (before ++ entry.Said words ∷ []) (record m { state = state; came = [] })
    → RunsAsTold Open (before ++ entry.Said words ∷ []) state m.clock
starts_tie before words m state opens anew ground later n from to =
    let past : List Entry = before ++ entry.Said words ∷ [] in
    let first : SeriesTold = with_occasion n past no_series in
    let one : IsSeries first (node_of state n) m.clock
    = each_restarts (λ (s : NodeState). NodeAsTold n past s → IsSeries first s m.clock) (λ s told. starts n past s m.clock (occasion_told n past (as_recorded s) told))
    (λ told. occasion n past no_series (unknown 0) m.clock told (λ is. refl) (record { runs = refl; again = refl }))
    m.keys m.records state (of_work (Asked lines.Restart) past m ground).0.0.0.0.told opens n from (node_at Open past (record m { state = state; came = [] }) tt later n from to) in
    subst (λ (s : SeriesTold). IsSeries s (node_of state n) m.clock)
    (sym (ap (λ (s : SeriesTold). with_time n past m.clock s) (series_starts n before words anew) ∙ settled n past first (node_of state n) m.clock one)) one

-- ---- the tie lasts

loose_tie : (here at : Phase) (past told : List Entry) (m : HostMachine) → AllByRecursion IsLoose told → m.awaits ≡ false → KnowsSeries at past m → RunsAsTold here past m.state m.clock
    → RunsAsTold here (past ++ told) m.state m.clock
loose_tie here at past told m all numbered ground tie n from to =
    let one : SeriesTold = series_now n past m.clock in
    subst (λ (s : SeriesTold). IsSeries s (looked_at here m.state n) m.clock)
    (sym (loose_series n past told one m.clock all (clock_now past m (clocked at past m ground) numbered) (none_due one (looked_at here m.state n) m.clock (tie n from to)) refl)) (tie n from to)

pub runs_last : Lasts KnowsSeries RunsAsTold
runs_last = record {
  loose = λ here at past told m all numbered ground tie. loose_tie here at past told m all numbered ground tie;
  numbers = λ here past m other ground later tie. numbers_tie here past m other ground later tie;
  said = λ past words m none ground goes_on tie. said_tie past words m none ground goes_on tie;
  refused = λ past words line refusal m none ground later tie. refused_tie past words line refusal m none ground later tie;
  asked = λ line past m event is may numbered ground later tie n from to. asked_tie line past m event (is_asked line m.state event is) may.0 numbered ground later n from to (tie n from to);
  starts = λ before words m state opens anew ground later. starts_tie before words m state opens anew ground later;
  opens = λ past h clock tie. tie;
  rises = λ past m ground tie.
      tick_rises past m.state m.clock (λ n from to. node_at Resting past m tt ground n from to) (λ n. (tables Resting past m ground).host.nodes.facts n) tie;
  judges = λ past m item rest behind told now ground later tie n from to.
      between_tie Open past m (Hears item) told ground now.may.0 tt now.told_so now.numbered n to (tie n from to);
  does = λ here next past m event told may ground later tie. does_tie here next past m event told may.0 may.1.0 may.2 may.3 ground later tie;
  turn = λ here next past m other turns ground tie. part_begins here next past m other turns tie;
}
