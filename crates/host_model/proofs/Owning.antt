-- Each event of a node leaves it what was its own, and a new command is put to it as its own.
use Rattle.std.proofs.Common.{◌≡◌, ℕ, ◌+◌, ◌-◌, ◌≤◌, ◌==◌, ◌&&◌, nat_lt, Bool, true, false, if◌then◌else◌, Option, Some, None, List, [], ◌∷◌, length, All, get_or, inl, inr, ◌⊎◌, refl, sym, ap, ◌∙◌, subst}
use Rattle.std.proofs.lemmas.Bool.{cases_eq, cases_lt}
use Rattle.std.proofs.lemmas.List.{get_or-set_same, get_or-set_other}
use Rattle.std.proofs.lemmas.List.Elements.{All-cons, All-head, All-tail, All-push, All-take, All-drop, All-get_or}
use Rattle.supervision.specs.Host.{HostBook, open_session, told_of, command_at as command_of_session}
use Rattle.supervision.specs.declared.host_node.Told.{Told}
use Rattle.supervision.specs.declared.host_node.Told.TheVariants.{Final, Working, Old}
use Rattle.host_node.specs.declared.no_more.NoMore.TheVariants.{Unasked}
use Rattle.host_node.specs.declared.attempt.Plan.TheVariants.{Whole, Segments, Sealed}
use Rattle.host_node.specs.declared.attempt.Moment.{Moment}
use Rattle.host_node.specs.declared.attempt.Moment.TheVariants.{BetweenTicks}
use Rattle.host_node.specs.State.{NodeState, unknown, is_idle, is_running, is_up, is_open, has_waiting}
use Rattle.host_node.specs.Steps.{with_again, with_wait, new_series, next_due, series_over, after_occasion, without, without_attempt, asleep, after_sleep, after_no_more, tried_again, after_attempts, after_attempt_end, after_sign, after_told, after_again, after_again_tick, after_attempt_tick, after_hold_tick, as_recorded, after_start}
use Rattle.host_node.specs.Events.{NodeEvent, after, May}
use Rattle.host_node.specs.Events.NodeEvent.{Joins, Interviews, Puts, Takes_back, Accepts, Cancels, Begins, Blocks, Starts, Gives_segment, Gives_text, Succeeds, Takes_nonce, Restores_seen, Ends_attempt, Reports, Holds, Notifies, Sleeps, Queues_no_more, Drops_no_more, Ends_no_more, Ticks, Restarts}
use Rattle.host_node.specs.TableState.{node_of, with_node}
use Rattle.host_model.specs.State.{Command}
use Rattle.host_model.specs.Facts.{IsCommandOf, HasSegments, HasBytes, OwnsCommands}
use Rattle.host_node.proofs.Follows.{set_past}

-- ---- what most events leave

-- the node has the same commands, and of its attempt what it had, or nothing
pub record Leaves (old new : NodeState) : Type 0 where
  pub waiting : new.waiting ≡ old.waiting
  pub sessions : new.book.commands ≡ old.book.commands
  pub opened : open_session new.book ≡ open_session old.book
  pub segments : (new.segments ≡ 0) ⊎ (new.segments ≡ old.segments)
  pub text : (new.text ≡ None) ⊎ (new.text ≡ old.text)

either : (test : Bool) (m k : NodeState) {n : NodeState} → Leaves n m → Leaves n k → Leaves n (if test then m else k)
either true m k p q = p
either false m k p q = q

all_left : (n : NodeState) → Leaves n n
all_left n = record { waiting = refl; sessions = refl; opened = refl; segments = inr refl; text = inr refl }

after_both : (a b c : NodeState) → Leaves a b → Leaves b c → Leaves a c
after_both a b c p q = record {
  waiting = q.waiting ∙ p.waiting;
  sessions = q.sessions ∙ p.sessions;
  opened = q.opened ∙ p.opened;
  segments = elim q.segments [ inl none ↦ inl none | inr same ↦ elim p.segments [ inl none ↦ inl (same ∙ none) | inr so ↦ inr (same ∙ so) ] ];
  text = elim q.text [ inl none ↦ inl none | inr same ↦ elim p.text [ inl none ↦ inl (same ∙ none) | inr so ↦ inr (same ∙ so) ] ];
}

occasion : (n : NodeState) → Leaves n (after_occasion n)
occasion n = either (is_open n && is_up n && is_idle n.series) (new_series n) n (record { waiting = refl; sessions = refl; opened = refl; segments = inr refl; text = inr refl }) (all_left n)

slept : (n : NodeState) → Leaves n (after_sleep n)
slept n = either n.listens n (asleep n) (all_left n) (record { waiting = refl; sessions = refl; opened = refl; segments = inr refl; text = inr refl })

dropped : (n : NodeState) → Leaves n (without_attempt n)
dropped n = record { waiting = refl; sessions = refl; opened = refl; segments = inl refl; text = inl refl }

over : (n : NodeState) (attempts : ℕ) (moment : Moment) → Leaves n (after_attempts n attempts moment)
over n attempts moment =
    either (nat_lt attempts 3) (next_due n attempts) (after_sleep (series_over n attempts moment))
    (record { waiting = refl; sessions = refl; opened = refl; segments = inr refl; text = inr refl })
    (after_both n (series_over n attempts moment) _ (record { waiting = refl; sessions = refl; opened = refl; segments = inr refl; text = inr refl }) (slept (series_over n attempts moment)))

ended : (n : NodeState) (moment : Moment) → Leaves n (after_attempt_end n moment)
ended n moment =
    either (is_running n.series) (after_attempts (without_attempt n) (n.book.attempts + 1) moment) n
    (after_both n (without_attempt n) _ (dropped n) (over (without_attempt n) (n.book.attempts + 1) moment)) (all_left n)

signed : (n : NodeState) → Leaves n (after_sign n)
signed n = either (is_running n.series) (with_wait n 100) n (record { waiting = refl; sessions = refl; opened = refl; segments = inr refl; text = inr refl }) (all_left n)

hold_ticked : (n : NodeState) → Leaves n (after_hold_tick n)
hold_ticked n = record { waiting = refl; sessions = refl; opened = refl; segments = inr refl; text = inr refl }

begun_again : (n : NodeState) → Leaves n (after_again n)
begun_again n = either (has_waiting n) (after_occasion n) n (occasion n) (all_left n)

again_so : (n : NodeState) (ticks : ℕ) → Leaves n (with_again n ticks)
again_so n ticks = record { waiting = refl; sessions = refl; opened = refl; segments = inr refl; text = inr refl }

again_ticked : (n : NodeState) → Leaves n (after_again_tick n)
again_ticked n =
    either (n.again_wait == 1) (after_again (with_again n 0)) (with_again n (n.again_wait - 1))
    (after_both n (with_again n 0) _ (again_so n 0) (begun_again (with_again n 0))) (again_so n (n.again_wait - 1))

attempt_ticked : (n : NodeState) → Leaves n (after_attempt_tick n)
attempt_ticked n =
    either (n.attempt_wait == 1) (after_attempt_end n BetweenTicks) (with_wait n (n.attempt_wait - 1)) (ended n BetweenTicks)
    (record { waiting = refl; sessions = refl; opened = refl; segments = inr refl; text = inr refl })

-- what is left is owned
none_has_bytes : (text : Option (List ℕ)) → text ≡ None → HasBytes text
none_has_bytes None e = tt
none_has_bytes (Some text) e = cc

pub left_is_owned : (commands : List Command) (m : ℕ) (old new : NodeState) → Leaves old new → OwnsCommands commands m old → OwnsCommands commands m new
left_is_owned commands m old new left owns = record {
  waiting = subst (λ (l : List ℕ). All (IsCommandOf commands m) l) (sym left.waiting) owns.waiting;
  sessions = subst (λ (l : List ℕ). All (IsCommandOf commands m) l) (sym left.sessions) owns.sessions;
  segments = elim left.segments [
    | inl none ↦ inl none
    | inr same ↦ elim owns.segments [
      | inl none ↦ inl (same ∙ none)
      | inr has ↦ inr (record {
        session = has.session;
        opened = left.opened ∙ has.opened;
        number = has.number;
        carried = ap (λ (l : List ℕ). command_of_session l has.session) left.sessions ∙ has.carried;
        command = has.command;
        found = has.found;
        form = has.form;
        count = same ∙ has.count;
      })
    ]
  ];
  text = elim left.text [ inl none ↦ none_has_bytes new.text none | inr same ↦ subst HasBytes (sym same) owns.text ];
}

-- ---- the others

-- what an event has to bring: a command that is put is the node's, an attempt gives segments of the open session, and a sealed text is not empty
abbrev pub Brings : List Command → ℕ → NodeState → NodeEvent → Type 0
Brings commands m n (Puts command) = IsCommandOf commands m command
Brings commands m n (Starts (Segments count)) = HasSegments commands (after_start n (Segments count))
Brings commands m n (Takes_nonce seen text) = 1 ≤ length text
Brings commands m n event = Unit {0}

All-without : (P : ℕ → Type 0) (l : List ℕ) (command : ℕ) → All P l → All P (without l command)
All-without P [] command all = all
All-without P (first ∷ rest) command all =
    taken_or (first == command) rest (first ∷ without rest command) (All-tail P first rest all)
    (All-cons P first (without rest command) (All-head P first rest all) (All-without P rest command (All-tail P first rest all)))
  where
    taken_or : (test : Bool) (a b : List ℕ) → All P a → All P b → All P (if test then a else b)
    taken_or true a b p q = p
    taken_or false a b p q = q

-- no session is open, so that no segments are left
pub none_left : (commands : List Command) (n : NodeState) → open_session n.book ≡ None → (n.segments ≡ 0) ⊎ HasSegments commands n → n.segments ≡ 0
none_left commands n closed one = elim one [ inl none ↦ none | inr has ↦ impossible (open_session n.book) closed has.opened ]
  where
    impossible : {X : Type 0} {session : ℕ} (o : Option ℕ) → o ≡ None → o ≡ Some session → X
    impossible o none some = cc

told : (commands : List Command) (m : ℕ) (n : NodeState) (status : ℕ) (t : Told) → OwnsCommands commands m n → OwnsCommands commands m (after_told n status t)
told commands m n status (Final session) owns = record { waiting = owns.waiting; sessions = owns.sessions; segments = inl refl; text = tt }
told commands m n status Working owns = left_is_owned commands m n (after_sign n) (signed n) owns
told commands m n status Old owns = owns

-- only what waits is other
other_waiting : (commands : List Command) (m : ℕ) (n : NodeState) (waiting : List ℕ) → All (IsCommandOf commands m) waiting → OwnsCommands commands m n
    → OwnsCommands commands m (record n { waiting = waiting })
other_waiting commands m n waiting all owns =
    record {
      waiting = all;
      sessions = owns.sessions;
      segments = elim owns.segments [
        | inl none ↦ inl none
        | inr has ↦ inr (record { session = has.session; opened = has.opened; number = has.number; carried = has.carried; command = has.command; found = has.found; form = has.form; count = has.count })
      ];
      text = owns.text;
    }

same_fields : (n : NodeState) {new : NodeState} → new.waiting ≡ n.waiting → new.book ≡ n.book → new.segments ≡ n.segments → new.text ≡ n.text → Leaves n new
same_fields n waiting book segments text = record {
  waiting = waiting;
  sessions = ap (λ (b : HostBook). b.commands) book;
  opened = ap (λ (b : HostBook). open_session b) book;
  segments = inr segments;
  text = inr text;
}

-- the node has what was its own
pub stays_owned : (commands : List Command) (m : ℕ) (n : NodeState) (event : NodeEvent) → May n event → Brings commands m n event → OwnsCommands commands m n
    → OwnsCommands commands m (after n event)
stays_owned commands m n Joins may brings owns = left_is_owned commands m n _ (same_fields n refl refl refl refl) owns
stays_owned commands m n (Interviews listens classes) may brings owns = left_is_owned commands m n _ (same_fields n refl refl refl refl) owns
stays_owned commands m n (Puts command) may brings owns = other_waiting commands m n _ (All-push (IsCommandOf commands m) n.waiting command owns.waiting brings) owns
stays_owned commands m n Takes_back may brings owns = other_waiting commands m n _ (All-take (IsCommandOf commands m) (length n.waiting - 1) n.waiting owns.waiting) owns
stays_owned commands m n Accepts may brings owns = left_is_owned commands m n _ (occasion n) owns
stays_owned commands m n (Cancels command) may brings owns = other_waiting commands m n _ (All-without (IsCommandOf commands m) n.waiting command owns.waiting) owns
stays_owned commands m n Begins may brings owns = record {
  waiting = All-drop (IsCommandOf commands m) 1 n.waiting owns.waiting;
  sessions = All-push (IsCommandOf commands m) n.book.commands (get_or n.waiting 0 0) owns.sessions (All-get_or (IsCommandOf commands m) n.waiting 0 0 may.0 owns.waiting);
  segments = inl (none_left commands n may.1 owns.segments);
  text = owns.text;
}
stays_owned commands m n Blocks may brings owns = left_is_owned commands m n _ (same_fields n refl refl refl refl) owns
stays_owned commands m n (Starts Whole) may brings owns = left_is_owned commands m n _ (same_fields n refl refl refl refl) owns
stays_owned commands m n (Starts (Segments count)) may brings owns = record { waiting = owns.waiting; sessions = owns.sessions; segments = inr brings; text = owns.text }
stays_owned commands m n (Starts (Sealed plain)) may brings owns = left_is_owned commands m n _ (same_fields n refl refl refl refl) owns
stays_owned commands m n Gives_segment may brings owns = left_is_owned commands m n _ (same_fields n refl refl refl refl) owns
stays_owned commands m n Gives_text may brings owns = left_is_owned commands m n _ (record { waiting = refl; sessions = refl; opened = refl; segments = inr refl; text = inl refl }) owns
stays_owned commands m n Succeeds may brings owns = left_is_owned commands m n _ (signed n) owns
stays_owned commands m n (Takes_nonce seen text) may brings owns =
    let rest = left_is_owned commands m n (record n { seen = seen; pending = None }) (same_fields n refl refl refl refl) owns in
    record {
      waiting = rest.waiting;
      sessions = rest.sessions;
      segments = elim owns.segments [
        | inl none ↦ inl none
        | inr has ↦ inr (record { session = has.session; opened = has.opened; number = has.number; carried = has.carried; command = has.command; found = has.found; form = has.form; count = has.count })
      ];
      text = brings;
    }
stays_owned commands m n (Restores_seen seen) may brings owns = left_is_owned commands m n _ (same_fields n refl refl refl refl) owns
stays_owned commands m n (Ends_attempt moment) may brings owns = left_is_owned commands m n _ (ended n moment) owns
stays_owned commands m n (Reports id status) may brings owns = told commands m n status (told_of n.book id status) owns
stays_owned commands m n Holds may brings owns = left_is_owned commands m n _ (same_fields n refl refl refl refl) owns
stays_owned commands m n Notifies may brings owns =
    left_is_owned commands m n _ (after_both n (record n { awake = true; no_more = tried_again n.no_more }) _ (same_fields n refl refl refl refl) (occasion (record n { awake = true; no_more = tried_again n.no_more }))) owns
stays_owned commands m n Sleeps may brings owns = left_is_owned commands m n _ (slept n) owns
stays_owned commands m n Queues_no_more may brings owns = left_is_owned commands m n _ (same_fields n refl refl refl refl) owns
stays_owned commands m n Drops_no_more may brings owns = left_is_owned commands m n _ (same_fields n refl refl refl refl) owns
stays_owned commands m n Ends_no_more may brings owns =
    left_is_owned commands m n _ (after_both n (after_no_more n Unasked) _ (same_fields n refl refl refl refl) (slept (after_no_more n Unasked))) owns
stays_owned commands m n Ticks may brings owns =
    left_is_owned commands m n _ (after_both n (after_hold_tick n) _ (hold_ticked n) (after_both (after_hold_tick n) (after_again_tick (after_hold_tick n)) _ (again_ticked (after_hold_tick n)) (attempt_ticked (after_again_tick (after_hold_tick n))))) owns
stays_owned commands m n Restarts may brings owns =
    left_is_owned commands m n _ (after_both n (as_recorded n) _ (record { waiting = refl; sessions = refl; opened = refl; segments = inl refl; text = inl refl }) (occasion (as_recorded n))) owns

-- ---- all nodes, where one of them is so now

pub all_own : (commands : List Command) (nodes : List NodeState) (n : ℕ) (state : NodeState) → OwnsCommands commands n state
    → ((m : ℕ) → OwnsCommands commands m (node_of nodes m)) → (m : ℕ) → OwnsCommands commands m (node_of (with_node nodes n state) m)
all_own commands nodes n state owns all m = elim (cases_eq m n) [
  | inl same ↦ elim (cases_lt n (length nodes)) [
    | inl within ↦ subst (λ k. OwnsCommands commands k (node_of (with_node nodes n state) k)) (sym same)
        (subst (λ (s : NodeState). OwnsCommands commands n s) (sym (get_or-set_same nodes n state (unknown 0) within)) owns)
    | inr past ↦ subst (λ k. OwnsCommands commands k (node_of (with_node nodes n state) k)) (sym same)
        (subst (λ (s : NodeState). OwnsCommands commands n s) (sym (set_past nodes n state past)) (all n))
  ]
  | inr other ↦ subst (λ (s : NodeState). OwnsCommands commands m s) (sym (get_or-set_other nodes n m state (unknown 0) other)) (all m)
]
