-- What is assumed of a stretch gives what a count of ticks takes of it; and of one node alone that sleeps, the ticks are counted from its `wake` line on.
use Rattle.std.proofs.Common.{◌≡◌, ◌≤◌, ◌<◌, ℕ, suc, ◌+◌, ◌-◌, ◌&&◌, ◌||◌, inl, inr, Bool, true, false, List, [], ◌∷◌, ◌++◌, length, Some, append_assoc, refl, sym, ap, ◌∙◌, subst, arith}
use Rattle.std.proofs.lemmas.Bool.{cases_lt}
use Rattle.std.specs.Prelude.{◌⊎◌}
use Rattle.zw_text.specs.declared.entry.Entry.{Entry}
use Rattle.zw_text.specs.Transcript.{lines_run}
use Rattle.s0_crypto.specs.declared.key_pair.Keys.{Keys}
use Rattle.chip_functions.specs.Field.{IsNode}
use Rattle.chip_sim.specs.Nodes.{is_marked}
use Rattle.air_frames.specs.Flown.{Flown}
use Rattle.device_sim.specs.State.{State}
use Rattle.law_transcript.specs.Restarts.{ticks_asked}
use Rattle.law_time.specs.Stretches.{Turn, Wakes, turn_of, turns, wakes_never}
use Rattle.host_node.specs.State.{is_up}
use Rattle.host_model.specs.State.{Command, command_at, node_of}
use Rattle.world_model.specs.Did.{AllAlong}
use Rattle.world_model.specs.Events.{Event, happens}
use Rattle.world_model.specs.State.{Machine, first_machine}
use Rattle.world_lines.specs.Spoken.{Spoken, after_all, transcript_of}
use Rattle.world_lines.specs.Done.{AreDone, events_of}
use Rattle.world_lines.specs.Whole.{AreWhole}
use Rattle.proof_course_plain.specs.proof_host.Tables.{taken_by}
use Rattle.proof_answered.specs.proof_calm.proof_traffic.OnAir.{on_air}
use Rattle.proof_answered.specs.proof_calm.proof_work.Phases.{AsksNothing}
use Rattle.proof_answered.specs.proof_calm.proof_work.proof_walk.Phases.{Phase, Between}
use Rattle.proof_answered.specs.proof_calm.proof_work.proof_walk.Walk.{WalkWhere}
use Rattle.proof_answered.specs.proof_calm.Tied.{IsTied}
use Rattle.proof_answered.specs.Sleepers.{IsAlone, IsBefore, Not_yet}
use Rattle.proof_answered.proofs.HeardCalls.{rests_heard}
use Rattle.proof_answered.proofs.Listeners.{all_stay, sleeper_stays}
use Rattle.proof_answered.proofs.Outwards.{home_out, marked_within}
use Rattle.proof_answered.proofs.SleeperTexts.{never_both}
use Rattle.proof_answered.proofs.Walking.{begins_known}
use Rattle.proof_answered.proofs.Where.{along_parts, where_whole}
use Rattle.proof_answered.proofs.WokenLast.{turns_both, unwoken_before}
use Rattle.proof_answered.proofs.proof_traffic_Parts.{Airs}
use Rattle.proof_in_time.specs.Asked.{IsAskedNow}
use Rattle.proof_in_time.specs.Coming.{IsKeptFor, IsReadyFor, KnowPlainly, KnowWaits, WaitsFor}
use Rattle.proof_in_time.specs.InHand.{Accepted_since, AllServe, HasEnded, IsGiven, IsInHand, RestsBefore, SleepsAlone, Waited, ticks_begun, ticks_blocked, ticks_of_all}
use Rattle.proof_in_time.specs.InStep.{AreInStep, GoesInStep, IsPlainly, StaysInStep}
use Rattle.proof_in_time.specs.Sleeping.{IsPlainlyUp}
use Rattle.proof_in_time.specs.Locked.{KnowLockedFirst, LockAt, LocksGo}
use Rattle.proof_in_time.specs.Locks.{LockGoes}
use Rattle.proof_in_time.specs.Open.{KnowOpenFirst, OpenAt}
use Rattle.proof_in_time.specs.Stretch.{In_segments, IsListeningFor, IsLockStretchFor, IsOpenStretchFor, IsStretchFor, Sealed_messages, Whole_messages}
use Rattle.proof_in_time.proofs.Accepted.{InHandFrom, KnowAccepted, Pends, accepted_walk, all_most, asleep_waits, none_yet, soon_woken}
use Rattle.proof_in_time.proofs.Asking.{AsksAlone, asking_alone}
use Rattle.proof_in_time.proofs.Bounded.{Devices}
use Rattle.proof_in_time.proofs.Counted.{Counted, along_later, none_left, rested, was_accepted, was_in_hand}
use Rattle.proof_in_time.proofs.Endings.{clock_is}
use Rattle.proof_in_time.proofs.Keeping.{kept_before}
use Rattle.proof_in_time.proofs.LastOrder.{then_turns, ticks_alone, ticks_both, wake_ticks}
use Rattle.proof_in_time.proofs.Lasting.{node_within}
use Rattle.proof_in_time.proofs.Lively.{AllLively, KindsStay, all_up, first_lively}
use Rattle.proof_in_time.proofs.LockGround.{lock_begins, lock_ground}
use Rattle.proof_in_time.proofs.Nearing.{KnowSoon, Soon, soon_past, soon_walk}
use Rattle.proof_in_time.proofs.OpenGround.{open_begins, open_ground}
use Rattle.proof_in_time.proofs.PlainGround.{plain_ground, plain_lines}
use Rattle.proof_in_time.proofs.Plainly.{Tells}
use Rattle.proof_in_time.proofs.Rising.{RestsAt, rests_at, rests_down, rests_silent, rests_unheard, serve_listen}
use Rattle.proof_in_time.proofs.Serving.{KnowServed, served_walk}
use Rattle.proof_in_time.proofs.Spoken.{after_both, done_later, each_along, events_both, told_both, whole_parts}
use Rattle.proof_in_time.proofs.StaysEnded.{IsEnded, ended_on}
use Rattle.proof_in_time.proofs.Until.{AreUnwoken, Asking, KnowEnded, KnowUntil, KnowUnwoken, ended_walk, until_walk, unwoken_walk}
use Rattle.proof_in_time.proofs.in_hand.commands_end_in_time.Goals as goal

-- what is known of devices, and of what they say
module _ (c : goal.After-waits_never_run_out) where
  airs : Airs
  airs = record {
    goes = c.frames_fly_in_order.ensures.goes;
    next = c.frames_fly_in_order.ensures.next;
    lands = c.frames_fly_in_order.ensures.lands;
    count = c.frames_fly_in_order.ensures.count;
    begins = c.frames_fly_in_order.ensures.begins;
  }

  answers : Devices
  answers = record { heard = c.messages_are_answered.ensures.heard; still = c.messages_are_answered.ensures.still; works = c.messages_are_answered.ensures.works }

  kinds : KindsStay
  kinds = record {
    listener = λ k m event listens. all_stay k m.outside.devices (happens m event).outside.devices (c.devices_go_on.ensures.each m event)
        (c.devices_stay_the_same.ensures.all m.outside.devices (happens m event).outside.devices (c.devices_go_on.ensures.each m event)) listens;
    sleeper = λ k m event sleeper. sleeper_stays k m.outside.devices (happens m event).outside.devices (c.devices_stay_the_same.ensures.all m.outside.devices (happens m event).outside.devices (c.devices_go_on.ensures.each m event)) sleeper;
  }

  tells : Tells
  tells = record { heard = c.reports_tell.ensures.plainly; works = c.messages_are_answered.ensures.works }

  served : (listening : Bool) (these : List Bool) → length these ≡ 233 → is_marked these 0 ≡ false → WalkWhere (IsPlainlyUp these) AsksNothing (KnowServed listening these)
  served listening these many none =
      served_walk airs these many none c.devices_stay_the_same.ensures.event tells kinds.sleeper (c.waits_never_run_out.ensures.first these many none) listening

-- as a stretch begins
begins_plainly : (these : List Bool) (m : Machine) → IsReadyFor these m → KnowPlainly these Between [] m
begins_plainly these m ready =
    ((λ kept. (((λ stretched. (begins_known m ready.tied ready.few, rests_heard m ready.tied.rests), λ stretched. ready.knows), record { lines = tt; speak = ready.speak }), ready.waiting)), λ kept. ready.first)

-- where the host takes one of these to be down, it sleeps alone
sleeps_so : (these : List Bool) (n : ℕ) (m : Machine) → is_marked these n ≡ true → AllServe these m.host.state ⊎ SleepsAlone these m → is_up (node_of m.host.state n) ≡ false → SleepsAlone these m
sleeps_so these n m marked (inl serve) down = absurd (let wrong : true ≡ false = sym (ap (λ (b : Bool). b || (node_of m.host.state n).awake) (serve.listens n marked)) ∙ down in cc)
sleeps_so these n m marked (inr sleeps) down = sleeps

-- where the host listens to one of these, it listens to all
listen_so : (these : List Bool) (n : ℕ) (m : Machine) → is_marked these n ≡ true → IsReadyFor these m → AllServe these m.host.state ⊎ SleepsAlone these m → (node_of m.host.state n).listens ≡ true → AllServe these m.host.state
listen_so these n m marked ready (inl serve) listens = serve
listen_so these n m marked ready (inr sleeps) listens =
    let rests = rests_at these n Between [] m marked sleeps ready.waiting.hears in
    absurd (let wrong : true ≡ false = sym listens ∙ rests_unheard n rests.0.device Between [] m rests.1 in cc)

-- lines of a stretch for nodes to which the host listens, whose messages go whole
plain_counted : (c : goal.After-waits_never_run_out) (these : List Bool) (n : ℕ) (keys : Keys) (devices : List State) (before all : List Spoken) → IsStretchFor these keys devices before all → is_marked these n ≡ true
    → AllServe these (after_all (first_machine keys (Some []) devices) before).host.state → Counted these n 6 keys devices before all (IsPlainlyUp these) (KnowServed true these) (WaitsFor true n)
plain_counted c these n keys devices before all is marked serve = record {
  many = is.many;
  none = is.none;
  done = is.done;
  whole = is.whole;
  kept = is.kept;
  along = all_up these (kinds c).listener ready_at (events_of all) (serve_listen these Between [] ready_at serve is.ready.waiting.hears).nodes
      (along_later (IsPlainly these) (first_machine keys (Some []) devices) before all
      (each_along GoesInStep these (first_machine keys (Some []) devices) (events_of (before ++ all))
      (λ k other. c.nodes_stay_in_step.ensures.along k keys devices (before ++ all) (subst (λ (l : ℕ). k < l) is.many (marked_within these k other)) (is.plain k other) is.done)));
  begins = (begins_plainly these ready_at is.ready, λ kept. record { serve = serve; speak = is.speak });
  ground = plain_ground (airs c) c.devices_stay_the_same.ensures.event these is.many (answers c) n marked (node_within these is.many is.none n marked) true (served c true these is.many is.none);
}
  where
    ready_at : Machine
    ready_at = after_all (first_machine keys (Some []) devices) before

-- or for one node alone, whose messages may go in segments
open_counted : (c : goal.After-waits_never_run_out) (these : List Bool) (n : ℕ) (keys : Keys) (devices : List State) (before all : List Spoken) → IsOpenStretchFor these keys devices before all → is_marked these n ≡ true
    → Counted these n 23 keys devices before all (AreInStep these) (KnowOpenFirst these) (OpenAt these n)
open_counted c these n keys devices before all is marked = record {
  many = is.many;
  none = is.none;
  done = is.done;
  whole = is.whole;
  kept = is.kept;
  along = along_later (AreInStep these) (first_machine keys (Some []) devices) before all
      (each_along StaysInStep these (first_machine keys (Some []) devices) (events_of (before ++ all)) (λ k other. c.nodes_stay_in_step.ensures.openly k keys devices (before ++ all) (is.over k other) is.done));
  begins = open_begins these (after_all (first_machine keys (Some []) devices) before) is.ready;
  ground = open_ground these n alone (c.open_waits_never_run_out.ensures.counts these n is.many is.none alone) (c.open_waits_never_run_out.ensures.walk these is.many is.none);
}
  where
    alone : IsAlone these n
    alone = let it = is.ready.openly.alone in record { marked = marked; only = λ k other. it.only k other ∙ sym (it.only n marked) }

-- or for one node alone that is a lock
lock_counted : (c : goal.After-waits_never_run_out) (these : List Bool) (n : ℕ) (keys : Keys) (devices : List State) (before all : List Spoken) → IsLockStretchFor these keys devices before all → is_marked these n ≡ true
    → Counted these n 6 keys devices before all (LocksGo these) (KnowLockedFirst these) (LockAt n)
lock_counted c these n keys devices before all is marked = record {
  many = is.many;
  none = is.none;
  done = is.done;
  whole = is.whole;
  kept = is.kept;
  along = along_later (LocksGo these) (first_machine keys (Some []) devices) before all
      (each_along LockGoes these (first_machine keys (Some []) devices) (events_of (before ++ all)) (λ k other. c.locks_stay_in_step.ensures.along k keys devices (before ++ all) (is.over k other) is.done));
  begins = lock_begins these (after_all (first_machine keys (Some []) devices) before) is.ready;
  ground = lock_ground these n alone (c.locks_never_run_out.ensures.counts these n is.many is.none alone) (c.locks_never_run_out.ensures.walk these is.many is.none);
}
  where
    alone : IsAlone these n
    alone = let it = is.ready.locked.alone in record { marked = marked; only = λ k other. it.only k other ∙ sym (it.only n marked) }

-- lines of any of these
module _ (c : goal.After-waits_never_run_out) (long : ℕ) (these : List Bool) (n : ℕ) (keys : Keys) (devices : List State) (before first lines : List Spoken) (marked : is_marked these n ≡ true) where
  abbrev start : Machine
  start = first_machine keys (Some []) devices

  abbrev counting : ℕ → (Machine → Event → Type 0) → (Phase → List Entry → Machine → Type 0) → (ℕ → Phase → Machine → Type 0) → Type 0
  counting ticks Up Know Within = Counted these n ticks keys devices before (first ++ lines) Up Know Within

  plain : IsStretchFor these keys devices before (first ++ lines) → (node_of (after_all start before).host.state n).listens ≡ true → long ≡ 6 → counting long (IsPlainlyUp these) (KnowServed true these) (WaitsFor true n)
  plain is listens six =
      subst (λ (k : ℕ). counting k (IsPlainlyUp these) (KnowServed true these) (WaitsFor true n)) (sym six)
      (plain_counted c these n keys devices before (first ++ lines) is marked (listen_so these n (after_all start before) marked is.ready is.serves listens))

  parted : IsOpenStretchFor these keys devices before (first ++ lines) → long ≡ 23 → counting long (AreInStep these) (KnowOpenFirst these) (OpenAt these n)
  parted is many = subst (λ (k : ℕ). counting k (AreInStep these) (KnowOpenFirst these) (OpenAt these n)) (sym many) (open_counted c these n keys devices before (first ++ lines) is marked)

  sealed : IsLockStretchFor these keys devices before (first ++ lines) → long ≡ 6 → counting long (LocksGo these) (KnowLockedFirst these) (LockAt n)
  sealed is six = subst (λ (k : ℕ). counting k (LocksGo these) (KnowLockedFirst these) (LockAt n)) (sym six) (lock_counted c these n keys devices before (first ++ lines) is marked)

  abbrev Lasts : List Spoken → Type 0
  Lasts all = IsListeningFor these n keys devices before all long

  in_hand_at : (command more : ℕ) → Lasts (first ++ lines) → IsInHand command more (node_of (after_all start (before ++ first)).host.state n)
      → ticks_begun (after_all start (before ++ first)) + (ticks_blocked (node_of (after_all start (before ++ first)).host.state n) + ticks_of_all long these (suc more)) ≤ ticks_begun (after_all start (before ++ (first ++ lines)))
      → HasEnded command (node_of (after_all start (before ++ (first ++ lines))).host.state n).book
  in_hand_at command more (Whole_messages is listens six) =
      was_in_hand (airs c) c.facts_are_kept.ensures.each these (c.nodes_are_served_in_turn.ensures.workers these) n marked long (omega (arith, six)) keys devices before first lines (IsPlainlyUp these) (KnowServed true these) (WaitsFor true n) (plain is listens six) command more
  in_hand_at command more (In_segments is many) =
      was_in_hand (airs c) c.facts_are_kept.ensures.each these (c.nodes_are_served_in_turn.ensures.workers these) n marked long (omega (arith, many)) keys devices before first lines (AreInStep these) (KnowOpenFirst these) (OpenAt these n) (parted is many) command more
  in_hand_at command more (Sealed_messages is six) =
      was_in_hand (airs c) c.facts_are_kept.ensures.each these (c.nodes_are_served_in_turn.ensures.workers these) n marked long (omega (arith, six)) keys devices before first lines (LocksGo these) (KnowLockedFirst these) (LockAt n) (sealed is six) command more

  rested_at : (command more : ℕ) → Lasts (first ++ lines) → RestsBefore command more (node_of (after_all start (before ++ first)).host.state n)
      → ticks_begun (after_all start (before ++ first)) + ((node_of (after_all start (before ++ first)).host.state n).again_wait + (1 + ticks_of_all long these (suc (suc more)))) ≤ ticks_begun (after_all start (before ++ (first ++ lines)))
      → HasEnded command (node_of (after_all start (before ++ (first ++ lines))).host.state n).book
  rested_at command more (Whole_messages is listens six) =
      rested (airs c) c.facts_are_kept.ensures.each these (c.nodes_are_served_in_turn.ensures.workers these) n marked long (omega (arith, six)) keys devices before first lines (IsPlainlyUp these) (KnowServed true these) (WaitsFor true n) (plain is listens six) command more
  rested_at command more (In_segments is many) =
      rested (airs c) c.facts_are_kept.ensures.each these (c.nodes_are_served_in_turn.ensures.workers these) n marked long (omega (arith, many)) keys devices before first lines (AreInStep these) (KnowOpenFirst these) (OpenAt these n) (parted is many) command more
  rested_at command more (Sealed_messages is six) =
      rested (airs c) c.facts_are_kept.ensures.each these (c.nodes_are_served_in_turn.ensures.workers these) n marked long (omega (arith, six)) keys devices before first lines (LocksGo these) (KnowLockedFirst these) (LockAt n) (sealed is six) command more

  accepted_at : (command sessions : ℕ) (found : Command) → Lasts (first ++ lines) → command_at (after_all start (before ++ first)).host.state.commands command ≡ Some found → found.order.node ≡ n
      → length (after_all start before).host.state.commands + 1 ≤ command → length (node_of (after_all start (before ++ first)).host.state n).waiting + 1 ≤ sessions
      → ticks_begun (after_all start (before ++ first)) + (ticks_blocked (node_of (after_all start (before ++ first)).host.state n) + ticks_of_all long these sessions) ≤ ticks_begun (after_all start (before ++ (first ++ lines)))
      → HasEnded command (node_of (after_all start (before ++ (first ++ lines))).host.state n).book
  accepted_at command sessions found (Whole_messages is listens six) =
      was_accepted (airs c) c.facts_are_kept.ensures.each these (c.nodes_are_served_in_turn.ensures.workers these) n marked long (omega (arith, six)) keys devices before first lines (IsPlainlyUp these) (KnowServed true these) (WaitsFor true n) (plain is listens six) command sessions found
  accepted_at command sessions found (In_segments is many) =
      was_accepted (airs c) c.facts_are_kept.ensures.each these (c.nodes_are_served_in_turn.ensures.workers these) n marked long (omega (arith, many)) keys devices before first lines (AreInStep these) (KnowOpenFirst these) (OpenAt these n) (parted is many) command sessions found
  accepted_at command sessions found (Sealed_messages is six) =
      was_accepted (airs c) c.facts_are_kept.ensures.each these (c.nodes_are_served_in_turn.ensures.workers these) n marked long (omega (arith, six)) keys devices before first lines (LocksGo these) (KnowLockedFirst these) (LockAt n) (sealed is six) command sessions found

-- since 16 wait at most, as many sessions as are counted, and 18 at most, are enough
record CountsFew (sessions : ℕ) : Type 0 where
  pub counted : ℕ
  pub most : counted ≤ 18
  pub enough_all : counted ≤ sessions
  pub enough : (waiting : ℕ) → waiting + 1 ≤ sessions → waiting ≤ 16 → waiting + 1 ≤ counted

counts_few : (sessions : ℕ) → CountsFew sessions
counts_few sessions = by (cases_lt sessions 18)
  where
    by : (sessions < 18) ⊎ (18 ≤ sessions) → CountsFew sessions
    by (inl few) = record { counted = sessions; most = omega (arith, few); enough_all = omega arith; enough = λ waiting more few_wait. more }
    by (inr many) = record { counted = 18; most = omega arith; enough_all = many; enough = λ waiting more few_wait. omega (arith, few_wait) }

-- one node alone that sleeps, whose `wake` line is one of these
module _ (c : goal.After-waits_never_run_out) (these : List Bool) (keys : Keys) (devices : List State) (before first : List Spoken) (wake : Spoken) (lines : List Spoken) (is : IsStretchFor these keys devices before (first ++ wake ∷ lines)) (n command sessions : ℕ)
    (marked : is_marked these n ≡ true) (asleep : SleepsAlone these (after_all (first_machine keys (Some []) devices) before)) (wakes : turn_of n wake.line ≡ Wakes ∷ []) where
  abbrev begin : Machine
  begin = first_machine keys (Some []) devices

  -- no more sessions than 18 need be counted
  as_few : CountsFew sessions
  as_few = counts_few sessions

  abbrev counted : ℕ
  counted = as_few.counted

  -- as the stretch begins, before that line and after it
  abbrev ready_then : Machine
  ready_then = after_all begin before

  abbrev unwoken_then : Machine
  unwoken_then = after_all ready_then first

  abbrev woken_then : Machine
  woken_then = after_all unwoken_then (wake ∷ [])

  abbrev told_first : List Entry
  told_first = transcript_of ready_then first

  abbrev told_woken : List Entry
  told_woken = told_first ++ transcript_of unwoken_then (wake ∷ [])

  node : IsNode n
  node = node_within these is.many is.none n marked

  below : n < 233
  below = let few = node.1 in omega (arith, few)

  only : (k : ℕ) → is_marked these k ≡ true → k ≡ n
  only k other = asleep.1.0.only k other ∙ sym (asleep.1.0.only n marked)

  -- the lines
  all_done : AreDone ready_then (first ++ wake ∷ lines)
  all_done = done_later begin before (first ++ wake ∷ lines) is.done

  first_parts : AreDone ready_then first × AreWhole ready_then first × AreWhole unwoken_then (wake ∷ lines)
  first_parts = whole_parts ready_then first (wake ∷ lines) all_done (whole_parts begin before (first ++ wake ∷ lines) is.done is.whole).2

  later_done : AreDone unwoken_then (wake ∷ lines)
  later_done = done_later ready_then first (wake ∷ lines) all_done

  wake_parts : AreDone unwoken_then (wake ∷ []) × AreWhole unwoken_then (wake ∷ []) × AreWhole woken_then lines
  wake_parts = whole_parts unwoken_then (wake ∷ []) lines later_done first_parts.2

  of_all : AllAlong (IsPlainly these) ready_then (events_of (first ++ wake ∷ lines))
  of_all =
      along_later (IsPlainly these) begin before (first ++ wake ∷ lines)
      (each_along GoesInStep these begin (events_of (before ++ (first ++ wake ∷ lines)))
      (λ k other. c.nodes_stay_in_step.ensures.along k keys devices (before ++ (first ++ wake ∷ lines)) (subst (λ (l : ℕ). k < l) is.many (marked_within these k other)) (is.plain k other) is.done))

  of_firsts : AllAlong (IsPlainly these) ready_then (events_of first)
  of_firsts = (along_parts (IsPlainly these) ready_then (events_of first) (events_of (wake ∷ lines)) (subst (λ (es : List Event). AllAlong (IsPlainly these) ready_then es) (events_both first (wake ∷ lines)) of_all)).0

  of_later : AllAlong (IsPlainly these) unwoken_then (events_of (wake ∷ lines))
  of_later = along_later (IsPlainly these) ready_then first (wake ∷ lines) of_all

  of_wake : AllAlong (IsPlainly these) unwoken_then (events_of (wake ∷ []))
  of_wake =
      (along_parts (IsPlainly these) unwoken_then (events_of (wake ∷ [])) (events_of lines) (subst (λ (es : List Event). AllAlong (IsPlainly these) unwoken_then es) (events_both (wake ∷ []) lines) of_later)).0

  of_lines : AllAlong (IsPlainly these) woken_then (events_of lines)
  of_lines = along_later (IsPlainly these) unwoken_then (wake ∷ []) lines of_later

  -- the text
  told_all : transcript_of ready_then (first ++ wake ∷ lines) ≡ told_woken ++ transcript_of woken_then lines
  told_all =
      told_both ready_then first (wake ∷ lines) ∙ ap (λ (T : List Entry). told_first ++ T) (told_both unwoken_then (wake ∷ []) lines)
      ∙ sym (append_assoc told_first (transcript_of unwoken_then (wake ∷ [])) (transcript_of woken_then lines))

  kept_all : IsKeptFor these (told_woken ++ transcript_of woken_then lines)
  kept_all = subst (IsKeptFor these) told_all is.kept

  kept_woken : IsKeptFor these told_woken
  kept_woken = kept_before these told_woken (transcript_of woken_then lines) kept_all

  kept_first : IsKeptFor these told_first
  kept_first = kept_before these told_first (transcript_of unwoken_then (wake ∷ [])) kept_woken

  wake_turns : turns n (transcript_of unwoken_then (wake ∷ [])) ≡ Wakes ∷ []
  wake_turns = then_turns n unwoken_then wake [] wake_parts.0.0 ∙ ap (λ (ts : List Turn). ts ++ []) wakes

  unwoken : AreUnwoken these told_first
  unwoken k other =
      subst (λ (j : ℕ). wakes_never (turns j told_first) ≡ true) (sym (only k other)) (unwoken_before n told_first (transcript_of unwoken_then (wake ∷ [])) Wakes [] wake_turns (kept_woken.worked.woken n marked))

  woken : wakes_never (turns n told_woken) ≡ false
  woken =
      ap wakes_never (turns_both n told_first (transcript_of unwoken_then (wake ∷ []))) ∙ ap (λ (ts : List Turn). wakes_never (turns n told_first ++ ts)) wake_turns ∙ never_both (turns n told_first) (Wakes ∷ [])
      ∙ and_none (wakes_never (turns n told_first))
    where
      and_none : (b : Bool) → (b && false) ≡ false
      and_none true = refl
      and_none false = refl

  -- as it begins
  rests : RestsAt n Between [] ready_then
  rests = rests_at these n Between [] ready_then marked asleep is.ready.waiting.hears

  abbrev waited : ℕ → List ℕ
  waited k = (node_of ready_then.host.state k).waiting

  abbrev many_then : ℕ
  many_then = length ready_then.host.state.commands

  abbrev Accepts_so : Phase → List Entry → Machine → Type 0
  Accepts_so = KnowAccepted (KnowServed false these) these many_then waited

  tied : IsTied these ready_then
  tied = is.ready.tied

  first_known : Accepts_so Between [] ready_then
  first_known = (
    (begins_plainly these ready_then is.ready, λ kept. record { serve = asleep; speak = is.speak }),
    λ kept k other.
        none_yet k ready_then.host.state (waited k)
        (λ one place at.
        asleep_waits one (node_of ready_then.host.state k) place (tied.peopled.facts.nodes.facts k)
        (subst (λ (j : ℕ). is_up (node_of ready_then.host.state j) ≡ false) (sym (only k other)) (rests_down n rests.0.device Between ready_then rests.1)) at),
  )

  asked_first : AsksAlone these Between ready_then
  asked_first = (
    asleep,
    record { asks = λ asking u way busy. absurd asking; flies = home_out (λ (frame : Flown). IsAskedNow these ready_then.host.state frame) (on_air ready_then.outside.outer.air.frames) (rests_silent n rests.0.device ready_then rests.1) },
  )

  asking : Asking these (AsksAlone these)
  asking = asking_alone (airs c) these is.many (kinds c) (c.nodes_are_served_in_turn.ensures.workers these)

  accepting : WalkWhere (IsPlainlyUp these) AsksNothing Accepts_so
  accepting = accepted_walk (airs c) these is.many is.none c.facts_are_kept.ensures.each (IsPlainlyUp these) (KnowServed false these) (plain_lines these false (served c false these is.many is.none)) many_then waited

  waits_of : (here : Phase) (past : List Entry) (m : Machine) → Accepts_so here past m → KnowWaits these here past m
  waits_of here past m known = known.0.0.0

  -- up to its `wake` line
  unwoken_known : Accepts_so Between told_first unwoken_then × ((k : ℕ) → IsAlone these k → IsBefore k Between told_first) × AsksAlone these Between unwoken_then
  unwoken_known =
      where_whole (IsPlainly these) AsksNothing (KnowUnwoken (airs c) (answers c) (tells c) (kinds c) these (AsksAlone these) asking Accepts_so waits_of accepting)
      (unwoken_walk (airs c) (answers c) (tells c) (kinds c) these (AsksAlone these) asking Accepts_so waits_of accepting) [] ready_then first first_parts.0 first_parts.1 of_firsts
      (λ kept none. (first_known, λ k alone. Not_yet refl tt, asked_first)) kept_first unwoken

  few : ticks_of_all 6 these counted ≤ 144
  few =
      let alone : ticks_of_all 6 these 18 ≤ 144 = ticks_alone these n 18 only in
      let all = all_most 6 these counted 18 as_few.most in
      omega (arith, alone, all)

  -- after it: no tick has begun in it
  clock_of : (l : List Spoken) → AreDone begin l → AreWhole begin l → ticks_begun (after_all begin l) ≡ ticks_asked (lines_run (transcript_of begin l))
  clock_of l are whole = clock_is c.time_goes_on.ensures.walk begin l (c.time_goes_on.ensures.first keys (Some []) devices) are whole

  same_clock : ticks_begun woken_then ≡ ticks_begun unwoken_then
  same_clock =
      let fronts = whole_parts begin (before ++ first) (wake ∷ lines) (subst (AreDone begin) (sym (append_assoc before first (wake ∷ lines))) is.done) (subst (AreWhole begin) (sym (append_assoc before first (wake ∷ lines))) is.whole) in
      let wake_at = subst (λ (x : Machine). AreDone x (wake ∷ [])) (sym (after_both begin before first)) wake_parts.0 in
      let upto = whole_parts begin ((before ++ first) ++ wake ∷ []) lines (subst (AreDone begin) apart is.done) (subst (AreWhole begin) apart is.whole) in
      let then_clock = clock_of (before ++ first) fronts.0 fronts.1 in
      let last_clock = clock_of ((before ++ first) ++ wake ∷ []) upto.0 upto.1 in
      let split = ticks_both begin (before ++ first) (wake ∷ []) in
      let none = wake_ticks n (after_all begin (before ++ first)) wake wake_at.0 wakes in
      let first_is = ap ticks_begun (after_both begin before first) in
      let last_is = ap ticks_begun (after_both begin (before ++ first) (wake ∷ []) ∙ ap (λ (x : Machine). after_all x (wake ∷ [])) (after_both begin before first)) in
      omega (arith, then_clock, last_clock, split, none, first_is, last_is)
    where
      apart : before ++ (first ++ wake ∷ lines) ≡ ((before ++ first) ++ wake ∷ []) ++ lines
      apart = sym (append_assoc before first (wake ∷ lines)) ∙ sym (append_assoc (before ++ first) (wake ∷ []) lines)

  abbrev most : ℕ
  most = ticks_begun woken_then + (2 + ticks_of_all 6 these counted)

  woken_known : Accepts_so Between told_woken woken_then × AllLively these most Between told_woken woken_then × AsksAlone these Between woken_then
  woken_known =
      let known = where_whole (IsPlainly these) AsksNothing (KnowUntil (airs c) (answers c) (tells c) (kinds c) these (AsksAlone these) asking Accepts_so waits_of accepting most)
      (until_walk (airs c) (answers c) (tells c) (kinds c) these (AsksAlone these) asking Accepts_so waits_of accepting most) told_first unwoken_then (wake ∷ []) wake_parts.0 wake_parts.1 of_wake
      (omega (arith, few, same_clock), λ kept soon. (unwoken_known.0, first_lively these most Between told_first unwoken_then unwoken_known.1 (unwoken_known.0.0.0.0 kept).1.hears, unwoken_known.2)) in
      known.1 kept_woken (omega arith)

  abbrev Soon_so : Phase → List Entry → Machine → Type 0
  Soon_so = KnowSoon (KnowServed false these) (WaitsFor true n) false 6 these n command most

  soon_waits : (here : Phase) (past : List Entry) (m : Machine) → Soon_so here past m → KnowWaits these here past m
  soon_waits here past m known = known.0.0.0

  soons : WalkWhere (IsPlainlyUp these) AsksNothing Soon_so
  soons =
      soon_walk (airs c) 6 these (c.nodes_are_served_in_turn.ensures.workers these) n marked node command (WaitsFor true n) false most (IsPlainlyUp these) (KnowServed false these)
      (plain_ground (airs c) c.devices_stay_the_same.ensures.event these is.many (answers c) n marked node false (served c false these is.many is.none))

  over : (here : Phase) (past : List Entry) (m : Machine) → IsKeptFor these past → Soon_so here past m → most ≤ ticks_begun m → IsEnded n command m
  over here past m kept known reached =
      let at = known.0.0.0 kept in
      let soon : Soon (WaitsFor true n) false 6 these n command 0 here past m = subst (λ (ticks : ℕ). Soon (WaitsFor true n) false 6 these n command ticks here past m) (none_left most (ticks_begun m) reached) (known.1 kept) in
      (((at.0.0.0 kept.worked.stretched).0.tied kept.worked.stretched.quiet).7.facts.nodes.places, soon_past (WaitsFor true n) false 6 these n command here past m (omega arith) soon)

  counts : IsGiven n command ready_then.host.state woken_then.host.state → InHandFrom n many_then (waited n) woken_then.host.state → Pends command (node_of woken_then.host.state n)
  counts (Waited place at) hands = hands.before command place at
  counts (Accepted_since found found_is for_node since) hands = hands.since command (record { order = found.order; carriage = found.carriage }) (ap taken_by found_is) for_node since

  as_much : (begun enough : ℕ) → enough ≤ (begun + enough) - begun
  as_much begun enough = omega arith

  woken_ends : IsGiven n command ready_then.host.state woken_then.host.state → length (node_of woken_then.host.state n).waiting + 1 ≤ sessions → ticks_begun woken_then + (2 + ticks_of_all 6 these sessions) ≤ ticks_begun (after_all woken_then lines) → HasEnded command (node_of (after_all woken_then lines).host.state n).book
  woken_ends given many_wait enough =
      let fewer = all_most 6 these counted sessions as_few.enough_all in
      let known = where_whole (IsPlainly these) AsksNothing
      (KnowEnded (airs c) (answers c) (tells c) (kinds c) these (AsksAlone these) asking Soon_so soon_waits soons most (IsEnded n command) (ended_on n command below) over)
      (ended_walk (airs c) (answers c) (tells c) (kinds c) these (AsksAlone these) asking Soon_so soon_waits soons most (IsEnded n command) (ended_on n command below) over) told_woken woken_then lines
      (done_later unwoken_then (wake ∷ []) lines later_done) wake_parts.2 of_lines (
        (
          (
            omega (arith, few),
            λ kept soon. (
              (
                woken_known.0.0,
                λ kept_it. soon_woken these n command counted (most - ticks_begun woken_then) many_then waited told_woken woken_then marked node woken_known.0 woken (counts given) (as_few.enough (length (node_of woken_then.host.state n).waiting) many_wait) (as_much (ticks_begun woken_then) (2 + ticks_of_all 6 these counted)) kept_it,
              ),
              woken_known.1,
              woken_known.2,
            ),
          ),
          λ quiet. tt,
        ),
        λ kept reached. absurd (omega (arith, reached)),
      ) in
      ((known.1 kept_all) (omega (arith, enough, fewer))).1

pub returns-clause-in_hand : goal.returns-clause-in_hand
returns-clause-in_hand c = λ long these n command more keys devices before first lines listening marked hand enough. in_hand_at c long these n keys devices before first lines marked command more listening hand enough

pub returns-clause-rests : goal.returns-clause-rests
returns-clause-rests c = λ long these n command more keys devices before first lines listening marked waits enough. rested_at c long these n keys devices before first lines marked command more listening waits enough

pub returns-clause-accepted : goal.returns-clause-accepted
returns-clause-accepted c = λ long these n command sessions found keys devices before first lines listening marked is for_node since waits enough.
    accepted_at c long these n keys devices before first lines marked command sessions found listening is for_node since waits enough

pub returns-clause-woken : goal.returns-clause-woken
returns-clause-woken c = λ these n command sessions keys devices before first wake lines is marked down wakes given waits enough.
    let begin : Machine = first_machine keys (Some []) devices in
    let ready : Machine = after_all begin before in
    let asleep : SleepsAlone these ready = sleeps_so these n ready marked is.serves down in
    let upto : after_all begin (before ++ (first ++ wake ∷ [])) ≡ after_all (after_all ready first) (wake ∷ []) = after_both begin before (first ++ wake ∷ []) ∙ after_both ready first (wake ∷ []) in
    let last : after_all begin (before ++ (first ++ wake ∷ lines)) ≡ after_all (after_all (after_all ready first) (wake ∷ [])) lines =
    after_both begin before (first ++ wake ∷ lines) ∙ after_both ready first (wake ∷ lines) in
    subst (λ (x : Machine). HasEnded command (node_of x.host.state n).book) (sym last)
    (woken_ends c these keys devices before first wake lines is n command sessions marked asleep wakes (subst (λ (x : Machine). IsGiven n command ready.host.state x.host.state) upto given)
    (subst (λ (x : Machine). length (node_of x.host.state n).waiting + 1 ≤ sessions) upto waits)
    (subst (λ (x : Machine). ticks_begun x + (2 + ticks_of_all 6 these sessions) ≤ ticks_begun (after_all (after_all (after_all ready first) (wake ∷ [])) lines)) upto
    (subst (λ (x : Machine). ticks_begun (after_all begin (before ++ (first ++ wake ∷ []))) + (2 + ticks_of_all 6 these sessions) ≤ ticks_begun x) last enough)))
