-- Over lines of a stretch the ticks of a command are counted: its session is over once enough have begun, where the host listens to its node.
use Rattle.std.proofs.Common.{◌≡◌, ◌≤◌, ℕ, suc, ◌+◌, ◌-◌, Bool, true, false, List, [], ◌∷◌, ◌++◌, length, Some, sym, ap, ◌∙◌, subst, arith}
use Rattle.zw_text.specs.declared.entry.Entry.{Entry}
use Rattle.s0_crypto.specs.declared.key_pair.Keys.{Keys}
use Rattle.chip_functions.specs.Field.{IsNode}
use Rattle.chip_sim.specs.Nodes.{is_marked}
use Rattle.device_sim.specs.State.{State}
use Rattle.host_node.specs.Search.{next_of}
use Rattle.host_model.specs.After.{after}
use Rattle.host_model.specs.Events.{HostEvent}
use Rattle.host_model.specs.Facts.{HostFacts}
use Rattle.host_model.specs.May.{May as MayHost}
use Rattle.host_model.specs.State.{Command, HostState, command_at, node_of}
use Rattle.world_model.specs.Did.{AllAlong}
use Rattle.world_model.specs.Events.{Event}
use Rattle.world_model.specs.State.{Machine, first_machine}
use Rattle.world_lines.specs.Spoken.{Spoken, after_all, transcript_of}
use Rattle.world_lines.specs.Done.{AreDone, events_of}
use Rattle.world_lines.specs.Whole.{AreWhole}
use Rattle.proof_course_plain.specs.proof_host.Tables.{taken_at, taken_by}
use Rattle.proof_spoken.proofs.SpokenLines.{all_after}
use Rattle.proof_answered.specs.proof_calm.proof_work.Phases.{AsksNothing}
use Rattle.proof_answered.specs.proof_calm.proof_work.proof_walk.Phases.{Phase, Between}
use Rattle.proof_answered.specs.Workers.{KnowsWorkers}
use Rattle.proof_answered.proofs.Where.{along_parts, where_whole}
use Rattle.proof_answered.proofs.proof_traffic_Parts.{Airs}
use Rattle.proof_in_time.specs.Coming.{IsKeptFor}
use Rattle.proof_in_time.specs.InHand.{HasEnded, IsInHand, RestsBefore, StandsAt, ticks_begun, ticks_blocked, ticks_of_all}
use Rattle.proof_in_time.proofs.Accepted.{KnowAccepted, accepted_walk, none_yet, soon_of}
use Rattle.proof_in_time.proofs.Counting.{Ground}
use Rattle.proof_in_time.proofs.Lasting.{node_within}
use Rattle.proof_in_time.proofs.Nearing.{KnowSoon, Soon, soon_past, soon_rested, soon_then, soon_walk}
use Rattle.proof_in_time.proofs.Spoken.{after_both, done_later, events_both, told_both, whole_parts}

pub along_later : (Has : Machine → Event → Type 0) (m : Machine) (before lines : List Spoken) → AllAlong Has m (events_of (before ++ lines)) → AllAlong Has (after_all m before) (events_of lines)
along_later Has m before lines all =
    subst (λ (x : Machine). AllAlong Has x (events_of lines)) (sym (all_after m before))
    (along_parts Has m (events_of before) (events_of lines) (subst (λ (es : List Event). AllAlong Has m es) (events_both before lines) all)).1

pub none_left : (enough begun : ℕ) → enough ≤ begun → enough - begun ≡ 0
none_left enough begun more = omega (arith, more)

as_many : (begun more : ℕ) → more ≤ (begun + more) - begun
as_many begun more = omega arith

-- nothing stands among none
none_stands : (command place : ℕ) → StandsAt command place [] → ⊥
none_stands command place at = by at.before at.are
  where
    by : (before : List ℕ) → [] ≡ before ++ command ∷ at.behind → ⊥
    by [] are = absurd cc
    by (first ∷ before) are = absurd cc

-- lines of a stretch behind others: what is known as it begins, and what is assumed of each of its events
pub record Counted (these : List Bool) (n long : ℕ) (keys : Keys) (devices : List State) (before all : List Spoken) (Up : Machine → Event → Type 0) (Know : Phase → List Entry → Machine → Type 0) (Within : ℕ → Phase → Machine → Type 0) : Type 0 where
  pub many : length these ≡ 233
  pub none : is_marked these 0 ≡ false
  pub done : AreDone (first_machine keys (Some []) devices) (before ++ all)
  pub whole : AreWhole (first_machine keys (Some []) devices) (before ++ all)
  pub kept : IsKeptFor these (transcript_of (after_all (first_machine keys (Some []) devices) before) all)
  pub along : AllAlong Up (after_all (first_machine keys (Some []) devices) before) (events_of all)
  pub begins : Know Between [] (after_all (first_machine keys (Some []) devices) before)
  pub ground : Ground these n long true Up Know Within

-- over the first of these lines it is known which commands are in hand; from then on, one walk counts down the ticks of a command
module _ (airs : Airs) (facts_kept : (h : HostState) (event : HostEvent) → HostFacts h → MayHost h event → HostFacts (after h event)) (these : List Bool) (workers : (h : HostState) (k : ℕ) → KnowsWorkers these h → next_of h.nodes h.served ≡ Some k → is_marked these k ≡ true)
    (n : ℕ) (marked : is_marked these n ≡ true) (long : ℕ) (some : 1 ≤ long) (keys : Keys) (devices : List State) (before first lines : List Spoken) (Up : Machine → Event → Type 0) (Know : Phase → List Entry → Machine → Type 0)
    (Within : ℕ → Phase → Machine → Type 0) (is : Counted these n long keys devices before (first ++ lines) Up Know Within) where
  abbrev start : Machine
  start = first_machine keys (Some []) devices

  abbrev ready_at : Machine
  ready_at = after_all start before

  abbrev then_at : Machine
  then_at = after_all ready_at first

  node : IsNode n
  node = node_within these is.many is.none n marked

  done : AreDone ready_at (first ++ lines)
  done = done_later start before (first ++ lines) is.done

  parts : AreDone ready_at first × AreWhole ready_at first × AreWhole then_at lines
  parts = whole_parts ready_at first lines done (whole_parts start before (first ++ lines) is.done is.whole).2

  of_first : AllAlong Up ready_at (events_of first)
  of_first = (along_parts Up ready_at (events_of first) (events_of lines) (subst (λ (es : List Event). AllAlong Up ready_at es) (events_both first lines) is.along)).0

  abbrev NoneBefore : ℕ → List ℕ
  NoneBefore k = []

  known : KnowAccepted Know these (length ready_at.host.state.commands) NoneBefore Between (transcript_of ready_at first) then_at
  known =
      where_whole Up AsksNothing (KnowAccepted Know these (length ready_at.host.state.commands) NoneBefore)
      (accepted_walk airs these is.many is.none facts_kept Up Know is.ground.lines (length ready_at.host.state.commands) NoneBefore) [] ready_at first parts.0 parts.1 of_first
      (is.begins, λ kept k other. none_yet k ready_at.host.state [] (λ command place at. absurd (none_stands command place at)))

  there : after_all start (before ++ first) ≡ then_at
  there = after_both start before first

  ended : (command most : ℕ) → (IsKeptFor these (transcript_of ready_at first) → Soon Within true long these n command (most - ticks_begun then_at) Between (transcript_of ready_at first) then_at)
      → most ≤ ticks_begun (after_all start (before ++ (first ++ lines))) → HasEnded command (node_of (after_all start (before ++ (first ++ lines))).host.state n).book
  ended command most soon enough =
      let later : Machine = after_all then_at lines in
      let past : List Entry = transcript_of ready_at first ++ transcript_of then_at lines in
      let told : IsKeptFor these past = subst (IsKeptFor these) (told_both ready_at first lines) is.kept in
      let known_then = where_whole Up AsksNothing (KnowSoon Know Within true long these n command most)
      (soon_walk airs long these workers n marked node command Within true most Up Know is.ground) (transcript_of ready_at first) then_at lines
      (done_later ready_at first lines done) parts.2 (along_later Up ready_at first lines is.along)
      (known.0, soon) in
      let last : after_all start (before ++ (first ++ lines)) ≡ later = after_both start before (first ++ lines) ∙ after_both ready_at first lines in
      let over : most ≤ ticks_begun later = subst (λ (x : Machine). most ≤ ticks_begun x) last enough in
      let at_last : Soon Within true long these n command 0 Between past later = subst (λ (ticks : ℕ). Soon Within true long these n command ticks Between past later) (none_left most (ticks_begun later) over) (known_then.1 told) in
      subst (λ (x : Machine). HasEnded command (node_of x.host.state n).book) (sym last) (soon_past Within true long these n command Between past later some at_last)

  pub was_in_hand : (command more : ℕ) → IsInHand command more (node_of (after_all start (before ++ first)).host.state n)
      → ticks_begun (after_all start (before ++ first)) + (ticks_blocked (node_of (after_all start (before ++ first)).host.state n) + ticks_of_all long these (suc more)) ≤ ticks_begun (after_all start (before ++ (first ++ lines)))
      → HasEnded command (node_of (after_all start (before ++ (first ++ lines))).host.state n).book
  was_in_hand command more hand enough =
      let few : ℕ = ticks_blocked (node_of then_at.host.state n) + ticks_of_all long these (suc more) in
      let most : ℕ = ticks_begun then_at + few in
      let in_hand : IsInHand command more (node_of then_at.host.state n) = subst (λ (x : Machine). IsInHand command more (node_of x.host.state n)) there hand in
      ended command most
      (λ kept. soon_then these n long Up Know Within is.ground command more (most - ticks_begun then_at) (transcript_of ready_at first) then_at node known.0 in_hand (as_many (ticks_begun then_at) few) kept)
      (subst (λ (x : Machine). ticks_begun x + (ticks_blocked (node_of x.host.state n) + ticks_of_all long these (suc more)) ≤ ticks_begun (after_all start (before ++ (first ++ lines)))) there enough)

  pub rested : (command more : ℕ) → RestsBefore command more (node_of (after_all start (before ++ first)).host.state n)
      → ticks_begun (after_all start (before ++ first)) + ((node_of (after_all start (before ++ first)).host.state n).again_wait + (1 + ticks_of_all long these (suc (suc more)))) ≤ ticks_begun (after_all start (before ++ (first ++ lines)))
      → HasEnded command (node_of (after_all start (before ++ (first ++ lines))).host.state n).book
  rested command more rests enough =
      let wait : ℕ = (node_of then_at.host.state n).again_wait + (1 + ticks_of_all long these (suc (suc more))) in
      ended command (ticks_begun then_at + wait)
      (λ kept. soon_rested these n long Up Know Within is.ground command more ((ticks_begun then_at + wait) - ticks_begun then_at) (transcript_of ready_at first) then_at known.0
      (subst (λ (x : Machine). RestsBefore command more (node_of x.host.state n)) there rests) (as_many (ticks_begun then_at) wait) kept)
      (subst (λ (x : Machine). ticks_begun x + ((node_of x.host.state n).again_wait + (1 + ticks_of_all long these (suc (suc more)))) ≤ ticks_begun (after_all start (before ++ (first ++ lines)))) there enough)

  pub was_accepted : (command sessions : ℕ) (found : Command) → command_at (after_all start (before ++ first)).host.state.commands command ≡ Some found → found.order.node ≡ n → length ready_at.host.state.commands + 1 ≤ command
      → length (node_of (after_all start (before ++ first)).host.state n).waiting + 1 ≤ sessions
      → ticks_begun (after_all start (before ++ first)) + (ticks_blocked (node_of (after_all start (before ++ first)).host.state n) + ticks_of_all long these sessions) ≤ ticks_begun (after_all start (before ++ (first ++ lines)))
      → HasEnded command (node_of (after_all start (before ++ (first ++ lines))).host.state n).book
  was_accepted command sessions found found_is for_node since waits enough =
      let few : ℕ = ticks_blocked (node_of then_at.host.state n) + ticks_of_all long these sessions in
      let most : ℕ = ticks_begun then_at + few in
      let taken : taken_at then_at.host.state.commands command ≡ Some (record { order = found.order; carriage = found.carriage }) =
      ap taken_by (subst (λ (x : Machine). command_at x.host.state.commands command ≡ Some found) there found_is) in
      ended command most
      (λ kept. soon_of these n long Up Know Within is.ground command sessions (most - ticks_begun then_at) (record { order = found.order; carriage = found.carriage }) (length ready_at.host.state.commands) NoneBefore (transcript_of ready_at first) then_at marked node known
      taken for_node since (subst (λ (x : Machine). length (node_of x.host.state n).waiting + 1 ≤ sessions) there waits) (as_many (ticks_begun then_at) few) kept)
      (subst (λ (x : Machine). ticks_begun x + (ticks_blocked (node_of x.host.state n) + ticks_of_all long these sessions) ≤ ticks_begun (after_all start (before ++ (first ++ lines)))) there enough)
