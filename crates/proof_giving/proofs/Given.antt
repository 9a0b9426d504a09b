-- At each step of a host alone, and along its runs, a command counts as unanswered only where it is to be given up, and none is to be where a line is said or the number of a tick stands.
use Rattle.std.proofs.Common.{◌≡◌, ℕ, ◌+◌, ◌-◌, ◌≤◌, ◌==◌, ◌||◌, Bool, true, false, if◌then◌else◌, inl, inr, List, [], ◌∷◌, ◌++◌, Some, None, refl, sym, ap, ap₂, ◌∙◌, subst, arith}
use Rattle.std.specs.List.{AllByRecursion}
use Rattle.std.proofs.lemmas.Bool.{eq-eqb}
use Rattle.serial_link.specs.State.{pause_after, turn_ticked}
use Rattle.serial_link.specs.declared.turn.Turn.{Turn}
use Rattle.serial_link.specs.declared.turn.Turn.TheVariants.{Idle as TurnIdle, Copied, Paused}
use Rattle.zw_words.specs.declared.side.Side.TheVariants.{Chip}
use Rattle.chip_functions.specs.Field.{IsNode}
use Rattle.host_keep.specs.declared.final_status.FinalStatus.{FinalStatus}
use Rattle.host_keep.specs.declared.final_status.FinalStatus.TheVariants as final
use Rattle.zw_text.specs.declared.entry.Entry.{Entry}
use Rattle.zw_text.specs.declared.entry.Entry.TheVariants as entry
use Rattle.zw_text.specs.Transcript.{lines_run}
use Rattle.host_heard.specs.declared.told.Told.{Told}
use Rattle.law_transcript.specs.Lists.{EachAfter}
use Rattle.law_transcript.specs.Restarts.{ticks_asked}
use Rattle.law_transcript.specs.Units.{Carried}
use Rattle.law_time.specs.Attempts.{ends_badly}
use Rattle.law_time.specs.Heeds.{Heeds}
use Rattle.law_time.specs.Moments.{clock}
use Rattle.law_time.specs.Requests.{asked}
use Rattle.law_time.specs.Unanswered.{none_to_give_up}
use Rattle.host_requests.specs.Events.RequestsEvent.{Fails, Ticks}
use Rattle.host_requests.specs.State.{RequestsState}
use Rattle.host_requests.specs.declared.task.Purpose.{Purpose}
use Rattle.host_requests.specs.declared.task.Purpose.TheVariants.{Attempt}
use Rattle.host_requests.specs.declared.under_way.UnderWay.{UnderWay}
use Rattle.host_node.specs.Steps.{tick_end}
use Rattle.host_node.specs.declared.attempt.Moment.TheVariants.{BeforeItsTick}
use Rattle.host_model.specs.State.{HostState, node_of}
use Rattle.host_model.specs.Sessions.{open_command}
use Rattle.host_model.specs.After.{after, failing_if, gives_up, line_ticked}
use Rattle.host_model.specs.Ends.{attempt_entries}
use Rattle.host_model.specs.Events.{HostEvent, Accepts, Cancels, Finishes, Hears, Line_ticks, Node_ticks, Requests_do}
use Rattle.host_model.specs.Outs.{answers, copy_out, failing_entries, noted, outs, request_entries, ended_of}
use Rattle.host_model.specs.Pumping.{no_more_event}
use Rattle.host_model.proofs.Submitted.{SleepersAre, SubmittedAre, next_is, no_more_is}
use Rattle.proof_host.specs.Facts.{Facts}
use Rattle.proof_host.proofs.Lists.{each-append}
use Rattle.proof_queue.specs.Heeding.{AllSteps, HeedsAs, HeedsSo}
use Rattle.proof_queue.specs.proof_attempts.Carried.{CarriesWell, HasOthers, UnderWayWell}
use Rattle.proof_queue.specs.proof_attempts.Since.{is_to_tick}
use Rattle.proof_queue.specs.proof_attempts.proof_requests.Asking.{TieAsked, doing_of}
use Rattle.proof_queue.specs.proof_attempts.proof_requests.Walking.{KnowsAsked, KnowsTick}
use Rattle.proof_queue.specs.proof_attempts.proof_requests.law_host.Heard.{heeds_alone}
use Rattle.proof_queue.specs.proof_attempts.proof_requests.proof_alone.Careful.{Careful}
use Rattle.proof_queue.specs.proof_attempts.proof_requests.proof_alone.Phases.{Phase, Resting, Asked, Risen, Ticking, Open, Behind, Sleeping, Submitting, IsNumbered, May}
use Rattle.proof_queue.specs.proof_attempts.proof_requests.proof_alone.Runs.{Run}
use Rattle.proof_queue.specs.proof_attempts.proof_requests.proof_alone.Runs.Run.{Begins as run_begins, Turned, Stepped}
use Rattle.proof_queue.specs.proof_attempts.proof_requests.proof_alone.State.{HostMachine}
use Rattle.proof_queue.specs.proof_attempts.proof_requests.proof_alone.Steps.{AreTold, DidNotCome, IsOfOthers, Step, Tells, Comes, Misses, Says, Says_nothing, Asks, Refuses, Shows, Restarts, Begins_tick, Numbers, Judges, Does, entries}
use Rattle.proof_queue.proofs.HostOuts.{MayPut, OutsAre, outs_put}
use Rattle.proof_queue.proofs.Stepping.{first_same, time_told}
use Rattle.proof_queue.proofs.Telling.{told_so}
use Rattle.proof_queue.proofs.proof_alone_Apart.{AreOfLine}
use Rattle.proof_queue.proofs.proof_attempts_Walking.{event_quiet, line_outs, line_ticks_tie, noted_notes, request_ticks_tie}
use Rattle.proof_queue.proofs.proof_requests_Telling.{IsQuiet}
use Rattle.proof_queue.proofs.Wrote.{chip_told}
use Rattle.proof_queue.proofs.proof_waking_Parts.{noted_told}
use Rattle.proof_giving.specs.Stays.{ShowsSessions}
use Rattle.proof_giving.specs.Tie.{AttemptsSo, is_for, is_inner_now}
use Rattle.proof_giving.specs.Walking.{Grounds, KnowsAttempts}
use Rattle.proof_giving.proofs.GivesUp.{IsOther, IsTiedTo, Well, others_well, requests_well, tick_well}
use Rattle.proof_giving.proofs.Requesting.{event_ends, requests_are}
use Rattle.proof_giving.proofs.Stays.{stays_quiet}
use Rattle.proof_giving.proofs.Ticked.{badly_unframed, unended}
use Rattle.proof_giving.proofs.Walked.{ground, in_tick}

-- ---- entries

line_other : AreOfLine IsOther
line_other = record { written = λ side text. tt; dropped = λ side. tt; garbled = λ side text. tt; overrun = λ side. tt }

others_other : (e : Entry) → IsOfOthers e → IsOther e
others_other (entry.Said words) of = absurd of
others_other (entry.Time tick) of = absurd of
others_other (entry.Out command how) of = absurd of
others_other e of = tt

missed_other : (marks : List Entry) → DidNotCome marks → AllByRecursion IsOther marks
missed_other (entry.Dropped Chip ∷ []) did = (tt, tt)
missed_other (entry.Overrun Chip ∷ []) did = (tt, tt)
missed_other (entry.Garbled Chip unit ∷ []) did = (tt, tt)
missed_other (entry.Garbled Chip unit ∷ entry.Overrun Chip ∷ []) did = (tt, (tt, tt))
missed_other marks did = absurd did

answers_other : (h : HostState) (event : HostEvent) → AllByRecursion IsOther (answers h event)
answers_other h (Accepts order carriage) = (tt, tt)
answers_other h (Cancels command) = (tt, tt)
answers_other h event = tt

-- no request hears of anything, and no part of a tick comes
abbrev IsPlainEvent : HostEvent → Type 0
IsPlainEvent (Requests_do event moment) = ⊥
IsPlainEvent Line_ticks = ⊥
IsPlainEvent (Node_ticks n) = ⊥
IsPlainEvent event = Unit {0}

final_other : (command : ℕ) (status : FinalStatus) → IsOther (entry.Out command (ended_of status))
final_other command final.NoSupport = tt
final_other command final.Fail = tt
final_other command final.Success = tt

plain_put : (event : HostEvent) → IsPlainEvent event → MayPut IsOther event
plain_put (Requests_do event moment) plain = absurd plain
plain_put Line_ticks plain = absurd plain
plain_put (Node_ticks n) plain = absurd plain
plain_put (Finishes n session id command status wake_request) plain = (final_other command status, (λ setting. tt), tt)
plain_put event plain = tt

plainly_submitted : SubmittedAre IsPlainEvent
plainly_submitted = record {
  abort = tt;
  front = tt;
  starts = λ n plan more payload. tt;
  text = λ n payload. tt;
  segment = λ n more payload. tt;
  begins = λ n session command. tt;
  unkept = λ n. tt;
}

plain_sleepers : SleepersAre IsPlainEvent
plain_sleepers = record { queues = λ n. tt; drops = λ n. tt }

-- ---- events

-- the nodes of attempts are nodes
carried_nodes : (h : HostState) → HasOthers h → (u : UnderWay) → h.requests.under_way ≡ Some u → (k : ℕ) (more : Bool) (payload : List ℕ) → u.purpose ≡ Attempt k more payload → IsNode k
carried_nodes h others u under k more payload purpose =
    let well : CarriesWell u.purpose = subst UnderWayWell under others.asks.under_way in
    (subst CarriesWell purpose well).0

module _ (taken : List Entry → Carried → List Told) where
  abbrev heeds : Heeds
  heeds = heeds_alone taken

  abbrev Know : Phase → List Entry → HostMachine → Type 0
  Know here past m = KnowsAttempts heeds here past m

  abbrev Ground : Phase → List Entry → HostMachine → Type 0
  Ground here past m = Grounds heeds here past m

  abbrev GivesWell : List Entry → List Entry → Type 0
  GivesWell past told = EachAfter (Well heeds) past told

  plainly : (past told : List Entry) (h : HostState) (event : HostEvent) → IsPlainEvent event → AreTold (outs h event) told → GivesWell past told
  plainly past told h event plain are = others_well heeds past told (told_so IsOther line_other (outs h event) told (outs_put IsOther h event (plain_put event plain)) are)

  ticks_some : (left : List HostEvent) (past : List Entry) (m : HostMachine) → Ground (Ticking left) past m → 1 ≤ m.clock
  ticks_some left past m g = (in_tick (Ticking left) past m g).1

  facts_at : (here : Phase) (past : List Entry) (m : HostMachine) → Ground here past m → Facts past m.state
  facts_at here past m g = g.sleep.0.0.0.1.0.0.0.0.0.0.facts

  asked_at : (here : Phase) (past : List Entry) (m : HostMachine) → Ground here past m → KnowsAsked here past m
  asked_at here past m g = g.sleep.0.0.0.1.1

  module _ (past told : List Entry) (m : HostMachine) (before : ℕ) (next : m.clock ≡ before + 1) (numbered : IsNumbered m told) where
    -- the request counts a tick
    request_gives : (left : List HostEvent) → Ground (Ticking (Requests_do Ticks BeforeItsTick ∷ left)) past m → TieAsked past m.clock before m.came (doing_of m.state) → AreTold (outs m.state (Requests_do Ticks BeforeItsTick)) told
        → Know (Ticking (Requests_do Ticks BeforeItsTick ∷ left)) past m → GivesWell past told
    request_gives left g tie are known =
        requests_well taken past told m.state (facts_at here past m g) m.clock g.shows Ticks tt (λ n node. let so = known n node.0 node.1 in record { signs = false; time = m.clock - 1; now = m.clock; node = so.node; own = so.own })
        (time_told here past told m (ground here past m g) numbered) (noted_told (request_entries m.state Ticks) told are) (carried_nodes m.state g.sleep.0.0.0.0.1)
        (λ u how under end_is ends k more payload purpose node runs bad at.
        let so : AttemptsSo heeds k past m.state (m.clock - 1) m.clock = known k node.0 node.1 in
        let asks = so.sends (so.own runs u under ∙ ap (λ (p : Purpose). is_for k p) purpose ∙ eq-eqb k k refl) in
        let none : (after m.state (Requests_do Ticks BeforeItsTick)).requests.under_way ≡ None
        = ap (λ (r : RequestsState). r.under_way) (requests_are m.state Ticks BeforeItsTick) ∙ (event_ends m.state.requests Ticks (record { purpose = u.purpose; how = how }) tt end_is).none in
        subst (λ (t : ℕ). ends_badly (asked past) (is_inner_now heeds past k) t ≡ true) (sym at)
        (sym (stays_quiet (is_inner_now heeds past k) past m.clock told asks.0 quiet)
        ∙ badly_unframed past told m.clock m.clock m.came (doing_of (after m.state (Requests_do Ticks BeforeItsTick))) quiet asks.0 asks.1 (unended past m.clock before m.came (doing_of m.state) u under tie)
        (request_ticks_tie past told before m.clock m.came m.state next are tie) none (is_inner_now heeds past k)))
      where
        here : Phase
        here = Ticking (Requests_do Ticks BeforeItsTick ∷ left)

        quiet : AllByRecursion IsQuiet told
        quiet = event_quiet m.state (Requests_do Ticks BeforeItsTick) told (noted_notes (request_entries m.state Ticks)) are

    -- the line counts a tick, at which it may give the request up
    line_gives : (left : List HostEvent) → Ground (Ticking (Line_ticks ∷ left)) past m → TieAsked past before before m.came (doing_of m.state) → AreTold (outs m.state Line_ticks) told
        → Know (Ticking (Line_ticks ∷ left)) past m → GivesWell past told
    line_gives left g tie are known = by m.state.side.turn refl are
      where
        here : Phase
        here = Ticking (Line_ticks ∷ left)

        ticked : HostState
        ticked = line_ticked m.state

        shows : (n : ℕ) → ShowsSessions heeds past ticked n
        shows n = let so = g.shows n in record { sessions_are = so.sessions_are; opened = so.opened; last = so.last; carried = so.carried }

        facts : Facts past ticked
        facts =
            let f = facts_at here past m g in let all = f.host in
            record {
              host = record { nodes = all.nodes; commands = all.commands; owns = all.owns; nonces = all.nonces; served = all.served };
              accepted = f.accepted;
              begun = f.begun;
              entered = f.entered;
              waiting = f.waiting;
              in_order = f.in_order;
              stored = f.stored;
              confirmed = f.confirmed;
              stand = f.stand;
            }

        timely : (e : Entry) (more : List Entry) → told ≡ e ∷ more → clock past ≡ m.clock
        timely = time_told here past told m (ground here past m g) numbered

        tied : (n : ℕ) → IsNode n → IsTiedTo heeds past ticked n
        tied n node =
            let so = known n node.0 node.1 in
            record { signs = false; time = m.clock - 1; now = m.clock - 1; node = so.node; own = so.own }

        given : gives_up m.state.side.turn (turn_ticked m.state.side.turn) ≡ true → AreTold (noted (request_entries ticked Fails)) told → GivesWell past told
        given gives puts =
            requests_well taken past told ticked facts m.clock shows Fails tt tied timely (noted_told (request_entries ticked Fails) told puts) (carried_nodes m.state g.sleep.0.0.0.0.1)
            (λ u how under end_is ends k more payload purpose node runs bad at.
            let so = known k node.0 node.1 in
            let asks = so.sends (so.own runs u under ∙ ap (λ (p : Purpose). is_for k p) purpose ∙ eq-eqb k k refl) in
            let quiet : AllByRecursion IsQuiet told = event_quiet ticked (Requests_do Fails BeforeItsTick) told (noted_notes (request_entries ticked Fails)) puts in
            let none : (after m.state Line_ticks).requests.under_way ≡ None
            = ap (λ (b : Bool). (failing_if b ticked).requests.under_way) gives ∙ ap (λ (r : RequestsState). r.under_way) (requests_are ticked Fails BeforeItsTick)
            ∙ (event_ends m.state.requests Fails (record { purpose = u.purpose; how = how }) tt end_is).none in
            subst (λ (t : ℕ). ends_badly (asked past) (is_inner_now heeds past k) t ≡ true) (sym at)
            (sym (stays_quiet (is_inner_now heeds past k) past m.clock told asks.0 quiet)
            ∙ badly_unframed past told m.clock before m.came (doing_of (after m.state Line_ticks)) quiet asks.0 asks.1 (unended past before before m.came (doing_of m.state) u under tie)
            (line_ticks_tie past told before m.clock m.came m.state next (ground here past m g).0.1 timely are tie) none (is_inner_now heeds past k)))

        none_told : told ≡ [] → GivesWell past told
        none_told is = subst (GivesWell past) (sym is) tt

        by : (turn : Turn) → m.state.side.turn ≡ turn → AreTold (line_outs m.state turn) told → GivesWell past told
        by TurnIdle is puts = none_told puts
        by (Copied f copies ticks) is puts = each (gives_up (Copied f copies ticks) (turn_ticked (Copied f copies ticks))) refl
          where
            each : (b : Bool) → gives_up (Copied f copies ticks) (turn_ticked (Copied f copies ticks)) ≡ b → GivesWell past told
            each true gives = given (ap (λ (t : Turn). gives_up t (turn_ticked t)) is ∙ gives) (subst (λ (b : Bool). AreTold (noted (failing_entries b ticked)) told) gives puts)
            each false gives = none_told (subst (λ (b : Bool). AreTold (noted (failing_entries b ticked)) told) gives puts)
        by (Paused f copies ticks) is puts = others_well heeds past told (told_so IsOther line_other (line_outs m.state (Paused f copies ticks)) told (each (ticks + 1 == pause_after copies)) puts)
          where
            each : (b : Bool) → OutsAre IsOther (copy_out (if b then Some f else None) ++ noted (failing_entries (gives_up (Paused f copies ticks) (if b then Copied f (copies + 1) 0 else Paused f copies (ticks + 1))) ticked))
            each true = (tt, tt)
            each false = tt

  -- a node counts a tick
  node_gives : (k : ℕ) (left : List HostEvent) (past told : List Entry) (m : HostMachine) → IsNumbered m told → 1 ≤ m.clock → Ground (Ticking (Node_ticks k ∷ left)) past m → AreTold (outs m.state (Node_ticks k)) told
      → Know (Ticking (Node_ticks k ∷ left)) past m → GivesWell past told
  node_gives k left past told m numbered some g are known =
      let here : Phase = Ticking (Node_ticks k ∷ left) in
      let node : IsNode k = g.sleep.1.1.0 in
      tick_well taken past told m.state (facts_at here past m g) m.clock k (g.shows k) (noted_told (attempt_entries k (tick_end (node_of m.state k)) (open_command (node_of m.state k))) told are)
      (time_told here past told m (ground here past m g) numbered) (m.clock - 1) m.clock (omega (arith, some))
      (subst (λ (b : Bool). AttemptsSo heeds k past m.state (if b || is_to_tick k left then m.clock - 1 else m.clock) m.clock) (eq-eqb k k refl) (known k node.0 node.1))

  abbrev TicksFrom : HostEvent → List HostEvent → List Entry → List Entry → HostMachine → Type 0
  TicksFrom first left past told m = Ground (Ticking (first ∷ left)) past m → AreTold (outs m.state first) told → Know (Ticking (first ∷ left)) past m → GivesWell past told

  tick_gives : (first : HostEvent) (left : List HostEvent) (past told : List Entry) (m : HostMachine) → IsNumbered m told → 1 ≤ m.clock → KnowsTick (first ∷ left) past m → TicksFrom first left past told m
  tick_gives first left past told m numbered some (inl (nodes, is, all, known)) =
      subst (λ (e : HostEvent). TicksFrom e left past told m) (sym (first_same first Line_ticks left (Requests_do Ticks BeforeItsTick ∷ nodes) is))
      (λ g are tie.
      line_gives past told m known.before known.next numbered left g known.tie are tie)
  tick_gives first left past told m numbered some (inr (inl (nodes, is, all, known))) =
      subst (λ (e : HostEvent). TicksFrom e left past told m) (sym (first_same first (Requests_do Ticks BeforeItsTick) left nodes is))
      (λ g are tie. request_gives past told m known.before known.next numbered left g known.tie are tie)
  tick_gives (Node_ticks k) left past told m numbered some (inr (inr (all, tied))) = node_gives k left past told m numbered some
  tick_gives first left past told m numbered some (inr (inr (all, tied))) = absurd all.0

  -- behind an item
  behind_gives : (first : HostEvent) (left : List HostEvent) (past told : List Entry) (m : HostMachine) → IsNumbered m told → Ground (Behind (first ∷ left)) past m → AreTold (outs m.state first) told
      → Know (Behind (first ∷ left)) past m → GivesWell past told
  behind_gives (Requests_do event moment) left past told m numbered g are known =
      let here : Phase = Behind (Requests_do event moment ∷ left) in
      requests_well taken past told m.state (facts_at here past m g) m.clock g.shows event (chip_told event (ground here past m g).1.1.0)
      (λ n node. let so = known.0 n node.0 node.1 in record { signs = _; time = m.clock; now = m.clock; node = so.node; own = so.own })
      (time_told here past told m (ground here past m g) numbered) (noted_told (request_entries m.state event) told are) (carried_nodes m.state g.sleep.0.0.0.0.1)
      (λ u how under end_is ends k more payload purpose node runs bad at.
      let so = known.0 k node.0 node.1 in
      ap₂ (λ (b : Bool) (t : ℕ). ends_badly (asked past) b t) (so.inner runs u more payload under purpose) at ∙ (known.1.1 u k more payload how under purpose end_is).1 ∙ bad)
  behind_gives Line_ticks left past told m numbered g are known = absurd known.1.0
  behind_gives (Node_ticks k) left past told m numbered g are known = absurd known.1.0
  behind_gives event left past told m numbered g are known = plainly past told m.state event tt are

  does_gives : (here next : Phase) (past : List Entry) (m : HostMachine) (event : HostEvent) (told : List Entry) → May here m (Does event told) next → Ground here past m → Know here past m → GivesWell past told
  does_gives (Ticking (first ∷ left)) next past m event told may g known =
      tick_gives first left past told m may.3 (ticks_some (first ∷ left) past m g) (asked_at (Ticking (first ∷ left)) past m g) g (subst (λ (e : HostEvent). AreTold (outs m.state e) told) may.0.0 may.2) known
  does_gives (Behind (first ∷ left)) next past m event told may g known = behind_gives first left past told m may.3 g (subst (λ (e : HostEvent). AreTold (outs m.state e) told) may.0.0 may.2) known
  does_gives Sleeping next past m event told may g known =
      let (node, wants, is, next_sleeps) = may.0 in
      plainly past told m.state (no_more_event m.state node) (no_more_is IsPlainEvent plain_sleepers m.state node) (subst (λ (e : HostEvent). AreTold (outs m.state e) told) is may.2)
  does_gives Submitting next past m event told may g known = plainly past told m.state event (next_is IsPlainEvent plainly_submitted m.state event may.0.0) may.2
  does_gives (Ticking []) next past m event told may g known = absurd may.0
  does_gives (Behind []) next past m event told may g known = absurd may.0
  does_gives Resting next past m event told may g known = absurd may.0
  does_gives (Asked line) next past m event told may g known = absurd may.0
  does_gives Risen next past m event told may g known = absurd may.0
  does_gives Open next past m event told may g known = absurd may.0

  -- ---- steps

  line_begins : (past : List Entry) (m : HostMachine) (here : Phase) → Ground here past m → m.left ≡ 0 → none_to_give_up heeds past m.clock ≡ true → none_to_give_up heeds past (ticks_asked (lines_run past)) ≡ true
  line_begins past m here g left none =
      let all = (ground here past m g).0.0.0.1.asked in
      let same : ticks_asked (lines_run past) ≡ m.clock = omega (arith, all, left) in
      ap (λ (t : ℕ). none_to_give_up heeds past t) same ∙ none

  step_gives : (here next : Phase) (past : List Entry) (m : HostMachine) (one : Step) → May here m one next → Ground here past m → Know here past m
      → (here ≡ Resting → none_to_give_up heeds past m.clock ≡ true) → (m.awaits ≡ true → none_to_give_up heeds past (m.clock - 1) ≡ true) → GivesWell past (entries m one)
  step_gives here next past m (Tells e) may g known rests numbers = others_well heeds past (e ∷ []) (others_other e may.1, tt)
  step_gives here next past m (Comes unit) may g known rests numbers = (refl, tt)
  step_gives here next past m (Misses text marks) may g known rests numbers = others_well heeds past (entry.Written Chip text ∷ marks) (tt, missed_other marks may.1)
  step_gives here next past m (Says words line) may g known rests numbers = (line_begins past m here g may.1 (rests may.0), tt)
  step_gives here next past m (Says_nothing words) may g known rests numbers = (line_begins past m here g may.1 (rests may.0), tt)
  step_gives here next past m (Asks event) may g known rests numbers = others_well heeds past (answers m.state event) (answers_other m.state event)
  step_gives here next past m (Refuses refusal) may g known rests numbers = (refl, tt)
  step_gives here next past m (Shows node) may g known rests numbers = others_well heeds past (entries m (Shows node)) (tt, tt)
  step_gives here next past m (Restarts state) may g known rests numbers = tt
  step_gives here next past m (Begins_tick left) may g known rests numbers = tt
  step_gives here next past m Numbers may g known rests numbers = (numbers may.0, tt)
  step_gives here next past m (Judges item rest behind told) may g known rests numbers = plainly past told m.state (Hears item) tt may.1.told_so
  step_gives here next past m (Does event told) may g known rests numbers = does_gives here next past m event told may g known

  -- ---- along a run

  module _ (start : HostMachine) (grounds : (here : Phase) (told : List Entry) (m : HostMachine) → Run start here told m → Ground here told m)
      (counts : (here : Phase) (told : List Entry) (m : HostMachine) → (run : Run start here told m) → Careful run → AllSteps (HeedsSo heeds) run → AllSteps (HeedsAs heeds) run → Know here told m)
      (rests : (here : Phase) (told : List Entry) (m : HostMachine) → (run : Run start here told m) → Careful run → AllSteps (HeedsSo heeds) run → AllSteps (HeedsAs heeds) run → here ≡ Resting
      → none_to_give_up heeds told m.clock ≡ true)
      (numbers : (here : Phase) (told : List Entry) (m : HostMachine) → (run : Run start here told m) → Careful run → AllSteps (HeedsSo heeds) run → AllSteps (HeedsAs heeds) run → m.awaits ≡ true
      → none_to_give_up heeds told (m.clock - 1) ≡ true) where
    pub step_given : (here next : Phase) (told : List Entry) (m : HostMachine) (step : Step) → May here m step next → (run : Run start here told m) → Careful run → AllSteps (HeedsSo heeds) run → AllSteps (HeedsAs heeds) run
        → GivesWell told (entries m step)
    step_given here next told m step may run careful sure heeded =
        step_gives here next told m step may (grounds here told m run) (counts here told m run careful sure heeded) (rests here told m run careful sure heeded) (numbers here told m run careful sure heeded)

    pub all_given : {here : Phase} {told : List Entry} {m : HostMachine} → (run : Run start here told m) → Careful run → AllSteps (HeedsSo heeds) run → AllSteps (HeedsAs heeds) run → GivesWell [] told
    all_given run_begins careful sure heeded = tt
    all_given (Turned turns run) careful sure heeded = all_given run careful.0 sure heeded
    all_given (Stepped {here = here} {told = told} {m = m} step may all_is later_is run) careful sure heeded =
        subst (GivesWell []) (sym all_is)
        (each-append (Well heeds) [] told (entries m step) (all_given run careful.0 sure.0 heeded.0)
        (step_given here _ told m step may run careful.0 sure.0 heeded.0))
