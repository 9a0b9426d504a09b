-- A node is held for as many ticks as its transcript tells, where that is told of which nodes listen and a node is awake while it is told that there is no more for it.
use Rattle.std.proofs.Common.{◌≡◌, ◌⊎◌, ℕ, ◌+◌, ◌-◌, ◌≤◌, ◌==◌, ◌&&◌, ◌||◌, not, nat_lt, Bool, true, false, if◌then◌else◌, inl, inr, List, [], ◌∷◌, ◌++◌, map, refl, sym, ap, ap₂, ◌∙◌, subst, append-nil, append_assoc, arith}
use Rattle.std.specs.List.{AllByRecursion, list_any}
use Rattle.std.proofs.lemmas.Bool.{both_ways, eqb-true, false_from_ne_true, ltb-false, ltb-true, or_left, or_right}
use Rattle.zw_base.proofs.Each.{all-weaker}
use Rattle.s0_crypto.specs.declared.key_pair.Keys.{Keys}
use Rattle.zw_text.specs.declared.line.Line.{Line}
use Rattle.zw_text.specs.declared.entry.Ended.TheVariants as ended
use Rattle.zw_text.specs.declared.entry.Refusal.{Refusal}
use Rattle.zw_text.specs.declared.entry.Entry.{Entry}
use Rattle.zw_text.specs.declared.entry.Entry.TheVariants as entry
use Rattle.zw_text.specs.Transcript.{folded, line_of, time_of}
use Rattle.proof_work.specs.law_transcript.Restarts.{begins_refused, is_restart}
use Rattle.proof_work.specs.law_time.Holds.{hold_from, hold_step, held_until}
use Rattle.proof_work.specs.law_time.Interviews.{listens}
use Rattle.proof_work.specs.law_time.Judged.{last_of}
use Rattle.proof_work.specs.law_time.Moments.{clock, later_of}
use Rattle.host_node.specs.State.{NodeState, needs_tick}
use Rattle.proof_requests.specs.host_model.State.{HostState, first_host, node_of}
use Rattle.proof_requests.specs.host_model.Events.{HostEvent, Hears, Line_ticks, Node_ticks, Requests_do}
use Rattle.proof_requests.specs.host_model.After.{after}
use Rattle.proof_requests.specs.host_model.Outs.{answers, outs}
use Rattle.proof_requests.specs.host_model.Ticking.{ticking_nodes}
use Rattle.proof_requests.specs.host_model.declared.out.HostOut.{HostOut}
use Rattle.proof_requests.proofs.Submitted.{SleepersAre, SubmittedAre, next_is, no_more_is}
use Rattle.proof_work.specs.proof_host.Facts.{Facts}
use Rattle.proof_work.specs.Work.{HostWork, MayBeTold, times_told}
use Rattle.proof_work.specs.proof_walk.ByLine.{IsAsked}
use Rattle.proof_work.proofs.Untimed.{AreUntimed, IsUntimed}
use Rattle.proof_requests.specs.proof_alone.State.{HostMachine}
use Rattle.proof_requests.specs.proof_alone.Steps.{AreTold, IsAskedBy}
use Rattle.proof_requests.specs.proof_alone.Phases.{Phase, Resting, Asked, Risen, Ticking, Open, Behind, Sleeping, Submitting, GoesBy, IsNumbered, Turns}
use Rattle.proof_requests.specs.proof_alone.Time.{TieClock, passing}
use Rattle.proof_requests.proofs.InOrder.{asked_puts, is_asked}
use Rattle.proof_requests.proofs.proof_waking_Apart.{IsWordless, wordless_fresh}
use Rattle.proof_attempts.specs.Since.{InTick, IsBetweenTicks, IsLoose, IsOfItem, Lasts, TicksAt, is_to_tick, node_clock}
use Rattle.proof_requests.specs.proof_alone.Listening.{KnowsListening}
use Rattle.proof_attempts.specs.Waking.{HeldAsTold, KnowsHearing, KnowsWork, TellsAwake, Waking, one_less, releases_of, waking_before, waking_in, waking_step}
use Rattle.proof_attempts.proofs.Ahead.{ahead_from, ahead_joined}
use Rattle.proof_attempts.proofs.Counting.{answers_quiet, answers_wordless, each_starts, first_waking, loose_quiet, loose_wordless, told_notes, told_wordless}
use Rattle.proof_attempts.proofs.Lasting.{by_else, rest_of}
use Rattle.proof_attempts.proofs.Nodes.{IsQuiet}
use Rattle.proof_attempts.proofs.Releasing.{event_goes}
use Rattle.proof_attempts.proofs.Telling.{IsAnswered, IsSteady, IsUnheld, same_releases, steady_or_answered, told_releases, told_unheld}
use Rattle.proof_attempts.proofs.Ticking.{waits_tick}
use Rattle.proof_attempts.proofs.Working.{in_order}
use Rattle.proof_requests.proofs.Telling.{clock_same}
use Rattle.proof_requests.proofs.Timing.{told_untimed}

-- ---- how the hold grows

same_after : (n : ℕ) (past : List Entry) (until : ℕ) (e : Entry) (rest other : List Entry) → begins_refused rest ≡ begins_refused other → hold_step n past until e rest ≡ hold_step n past until e other
same_after n past until (entry.Said words) rest other is = ap (λ (b : Bool). if is_restart (line_of (entry.Said words)) && not b then 0 else until) is
same_after n past until (entry.Held node) rest other is = refl
same_after n past until (entry.Asleep node) rest other is = refl
same_after n past until (entry.Out command ended.Unanswered) rest other is = refl
same_after n past until e rest other is = refl

hold_ahead : (n : ℕ) (past : List Entry) (until : ℕ) (told : List Entry) → hold_from n past until told ≡ ahead_from (hold_step n) (same_after n) past until told
hold_ahead n past until [] = refl
hold_ahead n past until (e ∷ told) = hold_ahead n (past ++ e ∷ []) (hold_step n past until e told) told

-- by entries behind others, that begin with no refusal
held_joined : (n : ℕ) (past told : List Entry) → begins_refused told ≡ false → held_until n (past ++ told) ≡ hold_from n past (held_until n past) told
held_joined n past told fresh =
    hold_ahead n [] 0 (past ++ told) ∙ ahead_joined (hold_step n) (same_after n) [] 0 past told fresh
    ∙ ap (λ (until : ℕ). ahead_from (hold_step n) (same_after n) past until told) (sym (hold_ahead n [] 0 past)) ∙ sym (hold_ahead n past (held_until n past) told)

held_one : (n : ℕ) (past : List Entry) (e : Entry) → IsWordless e → held_until n (past ++ e ∷ []) ≡ hold_step n past (held_until n past) e []
held_one n past e none = held_joined n past (e ∷ []) (wordless_fresh (e ∷ []) (none, tt))

-- words that do not start the host anew; that do; and that are refused
by_words : (n : ℕ) (past : List Entry) (words : List ℕ) (anew : Bool) → is_restart (line_of (entry.Said words)) ≡ anew → held_until n (past ++ entry.Said words ∷ []) ≡ (if anew && true then 0 else held_until n past)
by_words n past words anew is = held_joined n past (entry.Said words ∷ []) refl ∙ ap (λ (b : Bool). if b && true then 0 else held_until n past) is

in_vain : (n : ℕ) (past : List Entry) (words : List ℕ) (refusal : Refusal) → held_until n (past ++ entry.Said words ∷ (entry.Refused refusal ∷ [])) ≡ held_until n past
in_vain n past words refusal = held_joined n past (entry.Said words ∷ (entry.Refused refusal ∷ [])) refl ∙ by (is_restart (line_of (entry.Said words)))
  where
    by : (b : Bool) → (if b && false then 0 else held_until n past) ≡ held_until n past
    by true = refl
    by false = refl

-- ---- the clock

later_is : (a b t : ℕ) → a ≤ t → b ≤ t → (t ≡ a) ⊎ (t ≡ b) → later_of a b ≡ t
later_is a b t under over is = by (nat_lt a b) refl is
  where
    by : (less : Bool) → nat_lt a b ≡ less → (t ≡ a) ⊎ (t ≡ b) → (if less then b else a) ≡ t
    by true less (inl same) = let below = ltb-true a b less in omega (arith, below, over, same)
    by true less (inr same) = sym same
    by false less (inl same) = sym same
    by false less (inr same) = let above = ltb-false a b less in omega (arith, above, under, same)

-- where the number of the tick stands the clock of the transcript is that of the host
pub clock_now : (past : List Entry) (m : HostMachine) → TieClock past m → m.awaits ≡ false → m.clock ≡ clock past
clock_now past m tie awaits = sym (later_is (passing past).before (time_of past) m.clock tie.begun tie.shown (tie.now awaits))

-- at this time, or no node is held
abbrev IsNow : List Entry → List Entry → ℕ → Type 0
IsNow past told at = (at ≡ clock past) ⊎ AllByRecursion IsUnheld told

-- nothing is told while the number of the tick is to be entered
told_now : (past : List Entry) (m : HostMachine) (told : List Entry) → TieClock past m → IsNumbered m told → IsNow past told m.clock
told_now past m told tie numbered = by m.awaits refl
  where
    by : (b : Bool) → m.awaits ≡ b → IsNow past told m.clock
    by true is = inr (subst (λ (l : List Entry). AllByRecursion IsUnheld l) (sym (numbered is)) tt)
    by false is = inl (clock_now past m tie is)

-- these commands release it by the transcript, up to a session or an interview; or none goes unanswered
abbrev Releases : ℕ → (ℕ → Bool) → List Entry → List Entry → Type 0
Releases n releases past told = (((number : ℕ) → told_releases n past number ≡ releases number) × AllByRecursion IsSteady told) ⊎ AllByRecursion IsAnswered told

-- ---- what is told

-- of the first entry, and of those after it
now_first : (past : List Entry) (e : Entry) (told : List Entry) (at : ℕ) → IsNow past (e ∷ told) at → (at ≡ clock past) ⊎ IsUnheld e
now_first past e told at (inl same) = inl same
now_first past e told at (inr all) = inr all.0

now_rest : (past : List Entry) (e : Entry) (told : List Entry) (at : ℕ) → IsUntimed e → IsNow past (e ∷ told) at → IsNow (past ++ e ∷ []) told at
now_rest past e told at untimed (inl same) = inl (same ∙ sym (clock_same past (e ∷ []) (untimed, tt)))
now_rest past e told at untimed (inr all) = inr all.1

releases_first : (n : ℕ) (releases : ℕ → Bool) (past : List Entry) (e : Entry) (told : List Entry) → Releases n releases past (e ∷ told)
    → ((number : ℕ) → told_releases n past number ≡ releases number) ⊎ IsAnswered e
releases_first n releases past e told (inl steady) = inl steady.0
releases_first n releases past e told (inr all) = inr all.0

releases_rest : (n : ℕ) (releases : ℕ → Bool) (past : List Entry) (e : Entry) (told : List Entry) → Releases n releases past (e ∷ told) → Releases n releases (past ++ e ∷ []) told
releases_rest n releases past e told (inl steady) = inl (λ number. same_releases n past e number steady.1.0 ∙ steady.0 number, steady.1.1)
releases_rest n releases past e told (inr all) = inr all.1

-- by one entry it is held as long in the host as by the transcript
step_held : (n : ℕ) (releases : ℕ → Bool) (past : List Entry) (w : Waking) (until at : ℕ) (e : Entry) → (at ≡ clock past) ⊎ IsUnheld e → IsWordless e
    → ((number : ℕ) → told_releases n past number ≡ releases number) ⊎ IsAnswered e → w.hold ≡ until - at → (waking_step n releases w e).hold ≡ hold_step n past until e [] - at
step_held n releases past w until at (entry.Held node) (inr none) wordless released is = absurd none
step_held n releases past w until at (entry.Held node) (inl now) wordless released is = by (node == n)
  where
    by : (b : Bool) → (if b then record { awake = w.awake; hold = 100 } else w).hold ≡ (if b then clock past + 100 else until) - at
    by true = omega (arith, now)
    by false = is
step_held n releases past w until at (entry.Asleep node) now wordless released is = by (node == n)
  where
    by : (b : Bool) → (if b then record { awake = false; hold = 0 } else w).hold ≡ (if b then 0 else until) - at
    by true = omega arith
    by false = is
step_held n releases past w until at (entry.Awake node) now wordless released is = by (node == n)
  where
    by : (b : Bool) → (if b then record { awake = true; hold = w.hold } else w).hold ≡ until - at
    by true = is
    by false = is
step_held n releases past w until at (entry.Out command ended.Unanswered) now wordless (inr none) is = absurd none
step_held n releases past w until at (entry.Out command ended.Unanswered) now wordless (inl released) is =
    subst (λ (b : Bool). (if releases command then record { awake = w.awake; hold = 0 } else w).hold ≡ (if b then 0 else until) - at) (sym (released command)) (by (releases command))
  where
    by : (b : Bool) → (if b then record { awake = w.awake; hold = 0 } else w).hold ≡ (if b then 0 else until) - at
    by true = omega arith
    by false = is
step_held n releases past w until at (entry.Said words) now wordless released is = absurd wordless
step_held n releases past w until at e now wordless released is = is

fold_held : (n : ℕ) (releases : ℕ → Bool) (past told : List Entry) (w : Waking) (at : ℕ) → IsNow past told at → AllByRecursion IsWordless told → AreUntimed told → Releases n releases past told
    → w.hold ≡ held_until n past - at → (folded (waking_step n releases) w told).hold ≡ held_until n (past ++ told) - at
fold_held n releases past [] w at now all untimed released is = subst (λ (l : List Entry). w.hold ≡ held_until n l - at) (sym (append-nil past)) is
fold_held n releases past (e ∷ told) w at now all untimed released is =
    subst (λ (l : List Entry). (folded (waking_step n releases) (waking_step n releases w e) told).hold ≡ held_until n l - at) (append_assoc past (e ∷ []) told)
    (fold_held n releases (past ++ e ∷ []) told (waking_step n releases w e) at (now_rest past e told at untimed.0 now) all.1 untimed.1 (releases_rest n releases past e told released)
    (subst (λ (k : ℕ). (waking_step n releases w e).hold ≡ k - at) (sym (held_one n past e all.0))
    (step_held n releases past w (held_until n past) at e (now_first past e told at now) all.0 (releases_first n releases past e told released) is)))

quiet_held : (n : ℕ) (past told : List Entry) → AllByRecursion IsWordless told → AllByRecursion IsQuiet told → held_until n (past ++ told) ≡ held_until n past
quiet_held n past [] all quiet = ap (held_until n) (append-nil past)
quiet_held n past (e ∷ told) all quiet =
    ap (held_until n) (sym (append_assoc past (e ∷ []) told)) ∙ quiet_held n (past ++ e ∷ []) told all.1 quiet.1 ∙ held_one n past e all.0 ∙ one e all.0 quiet.0
  where
    one : (e : Entry) → IsWordless e → IsQuiet e → hold_step n past (held_until n past) e [] ≡ held_until n past
    one (entry.Held node) none still = absurd still
    one (entry.Asleep node) none still = absurd still
    one (entry.Out command ended.Unanswered) none still = absurd still
    one (entry.Said words) none still = absurd none
    one e none still = refl

-- ---- events

-- what is known of a host where an event comes
record At (past : List Entry) (h : HostState) : Type 0 where
  tells : TellsAwake h
  tables : Facts past h
  hears : (n : ℕ) → n ≤ 232 → listens n past ≡ (node_of h n).listens

releases_told : (past told : List Entry) (h : HostState) (n : ℕ) → Facts past h → listens n past ≡ (node_of h n).listens → AllByRecursion IsSteady told ⊎ AllByRecursion IsAnswered told
    → Releases n (releases_of (node_of h n)) past told
releases_told past told h n tables hears (inl steady) =
    inl (λ number. ap₂ (λ (l : List ℕ) (b : Bool). list_any (λ command. command == number) (last_of l) && not b) (tables.begun n) hears, steady)
releases_told past told h n tables hears (inr answered) = inr answered

event_held : (n : ℕ) (past told : List Entry) (h : HostState) (event : HostEvent) (at : ℕ) → At past h → 1 ≤ n → n ≤ 232 → AreTold (outs h event) told → IsNow past told at
    → (waking_before event n (waking_in h.nodes n)).hold ≡ held_until n past - at → (node_of (after h event) n).hold ≡ held_until n (past ++ told) - at
event_held n past told h event at known from to are now is =
    let places = known.tables.host.nodes.places in
    let w = waking_before event n (waking_in h.nodes n) in
    let releases : ℕ → Bool = releases_of (node_of h n) in
    (event_goes n h event (omega (arith, places, to))).hold known.tells ∙ ap (λ (v : Waking). v.hold) (sym (told_notes n releases (outs h event) told are w))
    ∙ fold_held n releases past told w at now (told_wordless h event told are) (told_untimed h event told are)
    (releases_told past told h n known.tables (known.hears n to) (steady_or_answered h event told are)) is

-- outside the tick of a node its event takes nothing off
same_before : (event : HostEvent) (n : ℕ) (w : Waking) → IsBetweenTicks event → waking_before event n w ≡ w
same_before (Node_ticks node) n w between = absurd between
same_before event n w between = refl

-- in it, it does: each node ticks once
tick_less : (ticks more : Bool) (w : Waking) (until at : ℕ) → (ticks ≡ true → more ≡ false) → w.hold ≡ until - (if ticks || more then at - 1 else at)
    → 1 ≤ at → (if ticks then one_less w else w).hold ≡ until - (if more then at - 1 else at)
tick_less true true w until at once is begun = absurd (let bad : true ≡ false = once refl in cc)
tick_less true false w until at once is begun = omega (arith, is, begun)
tick_less false more w until at once is begun = is

module _ (past : List Entry) (m : HostMachine) (told : List Entry) (known : At past m.state) where
  -- it is as long ago as before
  plain_held : (here next : Phase) (event : HostEvent) → IsBetweenTicks event → AreTold (outs m.state event) told → ((n : ℕ) → node_clock next m.clock n ≡ node_clock here m.clock n)
      → ((n : ℕ) → IsNow past told (node_clock next m.clock n)) → HeldAsTold here past m.state m.clock → HeldAsTold next (past ++ told) (after m.state event) m.clock
  plain_held here next event between are same now tie n from to =
      event_held n past told m.state event (node_clock next m.clock n) known from to are (now n)
      (ap (λ (w : Waking). w.hold) (same_before event n (waking_in m.state.nodes n) between) ∙ tie n from to ∙ ap (λ (k : ℕ). held_until n past - k) (sym (same n)))

  -- a node ticks
  tick_held : (k : ℕ) (left : List HostEvent) → AreTold (outs m.state (Node_ticks k)) told → is_to_tick k left ≡ false → 1 ≤ m.clock → HeldAsTold (Ticking (Node_ticks k ∷ left)) past m.state m.clock
      → HeldAsTold (Ticking left) (past ++ told) (after m.state (Node_ticks k)) m.clock
  tick_held k left are once begun tie n from to =
      event_held n past told m.state (Node_ticks k) (node_clock (Ticking left) m.clock n) known from to are (inr (told_unheld m.state (Node_ticks k) told tt are))
      (tick_less (k == n) (is_to_tick n left) (waking_in m.state.nodes n) (held_until n past) m.clock (λ same. subst (λ (i : ℕ). is_to_tick i left ≡ false) (eqb-true k n same) once) (tie n from to) begun)

-- a node without a wait is not held
no_hold : (s : NodeState) → needs_tick s ≡ false → s.hold ≡ 0
no_hold s none = by (nat_lt 0 s.hold) refl
  where
    by : (b : Bool) → nat_lt 0 s.hold ≡ b → s.hold ≡ 0
    by true is = absurd (both_ways (needs_tick s) none (or_left _ _ (or_left _ _ (or_right _ _ is))))
    by false is = let least = ltb-false 0 s.hold is in omega (arith, least)

-- the request has had its tick: those that have no wait have had theirs
none_left : (past : List Entry) (h : HostState) (clock : ℕ) (before : (n : ℕ) → 1 ≤ n → n ≤ 232 → (node_of h n).hold ≡ held_until n past - (clock - 1))
    → HeldAsTold (Ticking (map Node_ticks (ticking_nodes h))) past h clock
none_left past h clock before n from to = by (is_to_tick n (map Node_ticks (ticking_nodes h))) refl
  where
    by : (b : Bool) → is_to_tick n (map Node_ticks (ticking_nodes h)) ≡ b → (node_of h n).hold ≡ held_until n past - (if b then clock - 1 else clock)
    by true is = before n from to
    by false is =
        let none = no_hold (node_of h n) (false_from_ne_true (needs_tick (node_of h n)) (λ needs. both_ways (is_to_tick n (map Node_ticks (ticking_nodes h))) is (waits_tick h n from to needs))) in
        let was = before n from to in
        omega (arith, none, was)

sleepers_between : SleepersAre IsBetweenTicks
sleepers_between = record { queues = λ n. tt; drops = λ n. tt }

submitted_between : SubmittedAre IsBetweenTicks
submitted_between = record {
  abort = tt;
  front = tt;
  starts = λ n plan more payload. tt;
  text = λ n payload. tt;
  segment = λ n more payload. tt;
  begins = λ n session command. tt;
  unkept = λ n. tt;
}

of_item : (event : HostEvent) → IsOfItem event → IsBetweenTicks event
of_item (Node_ticks n) item = absurd item
of_item event item = tt

asked_between : (event : HostEvent) → IsAsked event → IsBetweenTicks event
asked_between (Node_ticks n) asked = absurd asked
asked_between event asked = tt

does_held : (here next : Phase) (past : List Entry) (m : HostMachine) (event : HostEvent) (told : List Entry) → GoesBy here m.state event next → AreTold (outs m.state event) told → IsNumbered m told
    → At past m.state → TieClock past m → TicksAt here m.state m.clock → HeldAsTold here past m.state m.clock → HeldAsTold next (past ++ told) (after m.state event) m.clock
does_held (Ticking (Line_ticks ∷ left)) next past m event told goes are numbered known clocked ticks tie =
    let line : AreTold (outs m.state Line_ticks) told = subst (λ (e : HostEvent). AreTold (outs m.state e) told) goes.0 are in
    subst (λ (p : Phase). HeldAsTold p (past ++ told) (after m.state event) m.clock) (sym goes.1)
    (subst (λ (e : HostEvent). HeldAsTold (Ticking left) (past ++ told) (after m.state e) m.clock) (sym goes.0)
    (plain_held past m told known (Ticking (Line_ticks ∷ left)) (Ticking left) Line_ticks tt line
    (λ n. ap (λ (l : List HostEvent). node_clock (Ticking l) m.clock n) ticks.0) (λ n. inr (told_unheld m.state Line_ticks told tt line)) tie))
does_held (Ticking (Requests_do heard moment ∷ left)) next past m event told goes are numbered known clocked ticks tie =
    let these : HostEvent = Requests_do heard moment in
    let request : AreTold (outs m.state these) told = subst (λ (e : HostEvent). AreTold (outs m.state e) told) goes.0 are in
    subst (λ (p : Phase). HeldAsTold p (past ++ told) (after m.state event) m.clock) (sym goes.1)
    (subst (λ (e : HostEvent). HeldAsTold (Ticking left) (past ++ told) (after m.state e) m.clock) (sym goes.0)
    (subst (λ (l : List HostEvent). HeldAsTold (Ticking l) (past ++ told) (after m.state these) m.clock) (sym ticks.0.1)
    (none_left (past ++ told) (after m.state these) m.clock
    (plain_held past m told known (Ticking (these ∷ left)) Risen these tt request (λ n. refl) (λ n. inr (told_unheld m.state these told tt request)) tie))))
does_held (Ticking (Node_ticks k ∷ left)) next past m event told goes are numbered known clocked ticks tie =
    subst (λ (p : Phase). HeldAsTold p (past ++ told) (after m.state event) m.clock) (sym goes.1)
    (subst (λ (e : HostEvent). HeldAsTold (Ticking left) (past ++ told) (after m.state e) m.clock) (sym goes.0)
    (tick_held past m told known k left (subst (λ (e : HostEvent). AreTold (outs m.state e) told) goes.0 are) ticks.0.0 ticks.1 tie))
does_held (Ticking (first ∷ left)) next past m event told goes are numbered known clocked ticks tie = absurd ticks.0
does_held (Behind (first ∷ left)) next past m event told goes are numbered known clocked ticks tie =
    subst (λ (p : Phase). HeldAsTold p (past ++ told) (after m.state event) m.clock) (sym goes.1)
    (plain_held past m told known (Behind (first ∷ left)) (Behind left) event (subst IsBetweenTicks (sym goes.0) (of_item first ticks.0)) are (λ n. refl) (λ n. told_now past m told clocked numbered) tie)
does_held Sleeping next past m event told (node, wants, is, to_is) are numbered known clocked ticks tie =
    subst (λ (p : Phase). HeldAsTold p (past ++ told) (after m.state event) m.clock) (sym to_is)
    (plain_held past m told known Sleeping Sleeping event (subst IsBetweenTicks (sym is) (no_more_is IsBetweenTicks sleepers_between m.state node)) are
    (λ n. refl) (λ n. told_now past m told clocked numbered) tie)
does_held Submitting next past m event told goes are numbered known clocked ticks tie =
    subst (λ (p : Phase). HeldAsTold p (past ++ told) (after m.state event) m.clock) (sym goes.1)
    (plain_held past m told known Submitting Submitting event (next_is IsBetweenTicks submitted_between m.state event goes.0) are (λ n. refl) (λ n. told_now past m told clocked numbered) tie)
does_held here next past m event told goes are numbered known clocked ticks tie = absurd goes

-- ---- the tie lasts

same_held : (here next : Phase) (past later : List Entry) (h : HostState) (clock now : ℕ) → ((n : ℕ) → held_until n later ≡ held_until n past) → ((n : ℕ) → node_clock next now n ≡ node_clock here clock n)
    → HeldAsTold here past h clock → HeldAsTold next later h now
same_held here next past later h clock now until at tie n from to = tie n from to ∙ sym (ap₂ (λ (a b : ℕ). a - b) (until n) (at n))

asked_held : (line : Line) (past : List Entry) (m : HostMachine) (event : HostEvent) → IsAskedBy line m.state event → At past m.state → HeldAsTold Resting past m.state m.clock
    → HeldAsTold Open (past ++ answers m.state event) (after m.state event) m.clock
asked_held line past m event is known tie n from to =
    let asked = is_asked line m.state event is in
    let none : AreTold (outs m.state event) [] = subst (λ (puts : List HostOut). AreTold puts []) (sym (asked_puts m.state event asked)) refl in
    event_held n past [] m.state event m.clock known from to none (inr tt)
    (ap (λ (w : Waking). w.hold) (same_before event n (waking_in m.state.nodes n) (asked_between event asked)) ∙ tie n from to)
    ∙ ap (λ (l : List Entry). held_until n l - m.clock) (append-nil past)
    ∙ ap (λ (k : ℕ). k - m.clock) (sym (quiet_held n past (answers m.state event) (answers_wordless m.state event) (answers_quiet m.state event)))

turn_held : (here next : Phase) (past : List Entry) (m : HostMachine) → Turns here m next → HeldAsTold here past m.state m.clock → HeldAsTold next past m.state m.clock
turn_held here next past m turns tie = by here turns tie
  where
    to : (phase : Phase) → next ≡ phase → HeldAsTold phase past m.state m.clock → HeldAsTold next past m.state m.clock
    to phase is held = subst (λ (p : Phase). HeldAsTold p past m.state m.clock) (sym is) held

    by : (here : Phase) → Turns here m next → HeldAsTold here past m.state m.clock → HeldAsTold next past m.state m.clock
    by Resting is held = to Open is held
    by (Asked line) (inl (nothing, is)) held = to Open is held
    by (Asked line) (inr (ticks, line_is, is)) held = to Resting is held
    by Risen is held = to (Ticking _) is held
    by (Ticking []) is held = to Open is held
    by (Ticking (event ∷ left)) is held = absurd is
    by Open is held = to Sleeping is held
    by (Behind []) is held = to Open is held
    by (Behind (event ∷ left)) is held = absurd is
    by Sleeping is held = to Submitting is.1 held
    by Submitting is held = to Resting is.1 held

-- while a node is told that there is no more for it, it is awake
module _ (told_awake : (h : HostState) (n : ℕ) → HostWork h → 1 ≤ times_told n h.requests → MayBeTold (node_of h n)) where
  known_at : (here : Phase) (past : List Entry) (m : HostMachine) → KnowsWork here past m → KnowsListening here past m → At past m.state
  known_at here past m ground hears =
      let work = in_order here past m ground.1 in
      record {
        tells = record { facts = work.host; told = λ n some. (told_awake m.state n work some).awake };
        tables = ground.0.0.0.0.facts;
        hears = hears;
      }

  pub held_lasts : Lasts KnowsHearing HeldAsTold
  held_lasts = record {
    loose = λ here at past told m all numbered ground tie.
        same_held here here past (past ++ told) m.state m.clock m.clock (λ n. quiet_held n past told (all-weaker IsLoose IsWordless loose_wordless told all) (all-weaker IsLoose IsQuiet loose_quiet told all)) (λ n. refl) tie;
    numbers = λ here past m other ground later tie.
        same_held here here past (past ++ entry.Time m.clock ∷ []) m.state m.clock m.clock (λ n. quiet_held n past (entry.Time m.clock ∷ []) (tt, tt) (tt, tt)) (λ n. refl) tie;
    said = λ past words m none ground goes_on tie. same_held Resting Resting past (past ++ entry.Said words ∷ []) m.state m.clock m.clock (λ n. by_words n past words false goes_on) (λ n. refl) tie;
    refused = λ past words line refusal m none ground later tie.
        same_held Resting Open past (past ++ entry.Said words ∷ (entry.Refused refusal ∷ [])) m.state m.clock m.clock (λ n. in_vain n past words refusal) (λ n. refl) tie;
    asked = λ line past m event is may numbered ground later tie. asked_held line past m event is (known_at (Asked line) past m ground.0 ground.1) tie;
    starts = λ before words m state opens anew ground later n from to.
        let none = each_starts (λ s. s.hold ≡ 0) (λ s. refl) (λ s. refl) refl m.keys m.records state ground.0.0.0.0.0.told opens n from in
        let until : held_until n (before ++ entry.Said words ∷ []) ≡ 0 = by_words n before words true anew in
        omega (arith, none, until);
    opens = λ past h clock tie. tie;
    rises = λ past m ground tie. same_held Resting Risen past past m.state m.clock (m.clock + 1) (λ n. refl) (λ n. omega arith) tie;
    judges = λ past m item rest behind told now ground later tie.
        plain_held past m told (known_at Open past m ground.0 ground.1) Open (Behind behind) (Hears item) tt now.told_so (λ n. refl) (λ n. told_now past m told ground.0.0.0.1 now.numbered) tie;
    does = λ here next past m event told may ground later tie.
        does_held here next past m event told may.0 may.2 may.3 (known_at here past m ground.0 ground.1) ground.0.0.0.1 (rest_of InTick here past m (by_else here next m.state event may.0).0 ground.0.0.1) tie;
    turn = λ here next past m other turns ground tie. turn_held here next past m turns tie;
  }

pub first_held : (keys : Keys) → HeldAsTold Resting [] (first_host keys) 0
first_held keys n from to = ap (λ (w : Waking). w.hold) (first_waking n)
