-- Where nothing is to be noted by time: no command of a node is to be given up, and the request under way has not ended.
use Rattle.std.proofs.Common.{◌≡◌, ◌⊎◌, ◌≤◌, ℕ, ◌-◌, ◌&&◌, ◌||◌, not, Bool, true, false, if◌then◌else◌, inl, inr, List, [], ◌∷◌, Some, None, refl, subst}
use Rattle.std.specs.Prelude.{nat_le}
use Rattle.std.specs.List.{AllByRecursion, list_any}
use Rattle.std.specs.FinMap.{nat_cmp-IsAntisymmetric}
use Rattle.std.proofs.lemmas.Bool.{or_parts}
use Rattle.std.proofs.lemmas.Cmp.{nat_cmp_total}
use Rattle.zw_text.specs.declared.entry.Entry.{Entry}
use Rattle.zw_text.specs.Transcript.{joined}
use Rattle.host_heard.specs.declared.told.Told.{Told}
use Rattle.law_transcript.specs.Lists.{Has}
use Rattle.law_transcript.specs.Units.{Carried}
use Rattle.law_time.specs.Attempts.{serving}
use Rattle.law_time.specs.Ends.{ending, giving_up, has_ended, is_abort_frame, silence}
use Rattle.law_time.specs.Heeds.{Heeds}
use Rattle.law_time.specs.Requests.{are_none, asked, sent_at}
use Rattle.law_time.specs.Unanswered.{to_give_up}
use Rattle.host_requests.specs.declared.under_way.UnderWay.{UnderWay}
use Rattle.host_model.specs.Events.{HostEvent}
use Rattle.proof_hearing.proofs.Ordered.{has_in_order}
use Rattle.proof_hearing.specs.proof_choice.proof_giving.Tie.{AttemptsSo}
use Rattle.proof_hearing.specs.proof_choice.proof_giving.Walking.{KnowsAttempts}
use Rattle.proof_hearing.proofs.AtRest.{none_is_over, none_over_at}
use Rattle.proof_hearing.proofs.Late.{unended_at}
use Rattle.proof_hearing.proofs.Rested.{joined_nodes}
use Rattle.proof_hearing.proofs.ReadyTie.{asked_of, facts_of}
use Rattle.proof_hearing.specs.proof_queue.proof_attempts.Since.{is_to_tick, node_clock}
use Rattle.proof_hearing.specs.proof_queue.proof_attempts.proof_requests.Asking.{TieAsked, doing_of}
use Rattle.proof_hearing.specs.proof_queue.proof_attempts.proof_requests.Walking.{IsTied, KnowsAsked}
use Rattle.proof_hearing.specs.proof_queue.proof_attempts.proof_requests.law_host.Ends.{to_give_up_by_end}
use Rattle.proof_hearing.specs.proof_queue.proof_attempts.proof_requests.law_host.Heard.{heeds_alone}
use Rattle.proof_hearing.specs.proof_queue.proof_attempts.proof_requests.law_host.Ticks.{nodes_in_order}
use Rattle.proof_hearing.specs.proof_queue.proof_attempts.proof_requests.proof_alone.State.{HostMachine}
use Rattle.proof_hearing.specs.proof_queue.proof_attempts.proof_requests.proof_alone.Steps.{AreFrames}
use Rattle.proof_hearing.specs.proof_queue.proof_attempts.proof_requests.proof_alone.Phases.{Phase, Resting, Ticking, Open, Behind, Sleeping, Submitting}
use Rattle.proof_hearing.specs.proof_choice.proof_following.Quiet.{NoneGone, Waits}
use Rattle.proof_noting.specs.Ground.{NotingGround}

-- ---- the nodes that joined

abbrev IsInRange : ℕ → Type 0
IsInRange n = (1 ≤ n) × (n ≤ 232)

all_by : (P : ℕ → Type 0) (l : List ℕ) → ((n : ℕ) → Has l n → P n) → AllByRecursion P l
all_by P [] each = tt
all_by P (n ∷ l) each = (each n (inl refl), all_by P l (λ k has. each k (inr has)))

has_of : (P : ℕ → Type 0) (l : List ℕ) (n : ℕ) → AllByRecursion P l → Has l n → P n
has_of P [] n all has = absurd has
has_of P (k ∷ l) n all (inl is) = subst P is all.0
has_of P (k ∷ l) n all (inr has) = has_of P l n all.1 has

-- those in order joined, and are nodes
pub in_order_joined : (past : List Entry) (n : ℕ) → Has (nodes_in_order past) n → Has (joined past) n
in_order_joined past n has = has_in_order nat_cmp_total nat_cmp-IsAntisymmetric (joined past) n has

pub in_order_nodes : (past : List Entry) (n : ℕ) → Has (nodes_in_order past) n → (1 ≤ n) × (n ≤ 232)
in_order_nodes past n has = has_of IsInRange (joined past) n (joined_nodes past) (in_order_joined past n has)

-- ---- a request that has not ended

pub unended_waits : (past : List Entry) (now : ℕ) → has_ended (asked past) now ≡ false → Waits past now
unended_waits past now none =
    let silent : Bool = list_any (λ tick. nat_le tick now) (silence (asked past)) in
    let given : Bool = list_any (λ tick. nat_le tick now) (giving_up (asked past)) in
    let first = or_parts (not (are_none (ending (asked past))) || silent || given) (is_abort_frame (asked past).frame && not (are_none (sent_at (asked past)))) none in
    let second = or_parts (not (are_none (ending (asked past))) || silent) given first.0 in
    record { given = second.1; silent = (or_parts (not (are_none (ending (asked past)))) silent second.0).1 }

module _ (taken : List Entry → Carried → List Told) where
  abbrev heeds : Heeds
  heeds = heeds_alone taken

  -- by the end of the request none is given up either
  pub none_by_end : (past : List Entry) (now n : ℕ) → to_give_up heeds past now n ≡ [] → to_give_up_by_end heeds past now n ≡ []
  none_by_end past now n none = by (list_any (λ attempts. attempts.own) (serving heeds (n ∷ []) past).each)
    where
      by : (b : Bool) → (if b then to_give_up heeds past now n else []) ≡ []
      by true = none
      by false = refl

  -- ---- the host's own part of a tick is done, and no event is left behind an item

  abbrev pub IsIdle : Phase → Type 0
  IsIdle Resting = Unit {0}
  IsIdle Open = Unit {0}
  IsIdle (Behind []) = Unit {0}
  IsIdle Sleeping = Unit {0}
  IsIdle Submitting = Unit {0}
  IsIdle here = ⊥

  pub idle_asked : (here : Phase) (past : List Entry) (m : HostMachine) → IsIdle here → NotingGround taken here past m → TieAsked past m.clock m.clock m.came (doing_of m.state)
  idle_asked here past m idle ground = by here idle (asked_of here past m ground.grounds)
    where
      by : (here : Phase) → IsIdle here → KnowsAsked here past m → TieAsked past m.clock m.clock m.came (doing_of m.state)
      by Resting idle tie = tie
      by Open idle tie = tie
      by (Behind []) idle tie = tie
      by (Behind (event ∷ left)) idle tie = absurd idle
      by Sleeping idle tie = tie
      by Submitting idle tie = tie
      by here idle tie = absurd idle

  pub idle_counts : (here : Phase) (past : List Entry) (m : HostMachine) → IsIdle here → NotingGround taken here past m → (n : ℕ) → 1 ≤ n → n ≤ 232 → AttemptsSo heeds n past m.state m.clock m.clock
  idle_counts here past m idle ground n from to = by here idle ground.counts
    where
      by : (here : Phase) → IsIdle here → KnowsAttempts heeds here past m → AttemptsSo heeds n past m.state m.clock m.clock
      by Resting idle counts = counts n from to
      by Open idle counts = counts n from to
      by (Behind []) idle counts = counts.0 n from to
      by (Behind (event ∷ left)) idle counts = absurd idle
      by Sleeping idle counts = counts n from to
      by Submitting idle counts = counts n from to
      by here idle counts = absurd idle

  -- while no answer is to come, or no request is under way
  abbrev pub NoneToCome : HostMachine → Type 0
  NoneToCome m = AreFrames m.came ⊎ (m.state.requests.under_way ≡ None)

  pub none_now_so : (here : Phase) (past : List Entry) (m : HostMachine) → IsIdle here → NotingGround taken here past m → NoneToCome m → (n : ℕ) → 1 ≤ n → n ≤ 232 → to_give_up heeds past m.clock n ≡ []
  none_now_so here past m idle ground either n from to =
      none_over_at heeds n past m.clock m.came m.state either (idle_asked here past m idle ground) ((facts_of here past m ground.grounds).nodes.facts n)
      (idle_counts here past m idle ground n from to)

  pub none_now : (here : Phase) (past : List Entry) (m : HostMachine) → IsIdle here → NotingGround taken here past m → AreFrames m.came → (n : ℕ) → 1 ≤ n → n ≤ 232 → to_give_up heeds past m.clock n ≡ []
  none_now here past m idle ground frames = none_now_so here past m idle ground (inl frames)

  pub all_now_so : (here : Phase) (past : List Entry) (m : HostMachine) → IsIdle here → NotingGround taken here past m → NoneToCome m → NoneGone heeds m.clock past (nodes_in_order past)
  all_now_so here past m idle ground either =
      all_by (λ n. to_give_up heeds past m.clock n ≡ []) (nodes_in_order past)
      (λ n has. let range = in_order_nodes past n has in none_now_so here past m idle ground either n range.0 range.1)

  pub all_now : (here : Phase) (past : List Entry) (m : HostMachine) → IsIdle here → NotingGround taken here past m → AreFrames m.came → NoneGone heeds m.clock past (nodes_in_order past)
  all_now here past m idle ground frames = all_now_so here past m idle ground (inl frames)

  pub waits_now : (here : Phase) (past : List Entry) (m : HostMachine) → IsIdle here → NotingGround taken here past m → AreFrames m.came → (u : UnderWay) → m.state.requests.under_way ≡ Some u → Waits past m.clock
  waits_now here past m idle ground frames u is = unended_waits past m.clock (unended_at past m.clock m.came m.state frames (idle_asked here past m idle ground) u is)

  -- ---- in a tick: a node whose tick is done, or not to come

  pub none_ticked : (left : List HostEvent) (past : List Entry) (m : HostMachine) → NotingGround taken (Ticking left) past m → IsTied past m → AreFrames m.came
      → ((n : ℕ) → 1 ≤ n → n ≤ 232 → AttemptsSo heeds n past m.state (node_clock (Ticking left) m.clock n) m.clock) → (n : ℕ) → 1 ≤ n → n ≤ 232 → is_to_tick n left ≡ false
      → to_give_up heeds past m.clock n ≡ []
  none_ticked left past m ground tie frames counts n from to done =
      none_is_over heeds n past m.clock m.came m.state frames tie ((facts_of (Ticking left) past m ground.grounds).nodes.facts n)
      (subst (λ (b : Bool). AttemptsSo heeds n past m.state (if b then m.clock - 1 else m.clock) m.clock) done (counts n from to))

  -- ---- while the number of the tick is to be entered

  pub none_before : (here : Phase) (past : List Entry) (m : HostMachine) → NotingGround taken here past m → m.awaits ≡ true → (n : ℕ) → 1 ≤ n → n ≤ 232 → to_give_up heeds past (m.clock - 1) n ≡ []
  none_before here past m ground awaits n from to = ground.rested awaits n from to

  pub all_before : (here : Phase) (past : List Entry) (m : HostMachine) → NotingGround taken here past m → m.awaits ≡ true → NoneGone heeds (m.clock - 1) past (nodes_in_order past)
  all_before here past m ground awaits =
      all_by (λ n. to_give_up heeds past (m.clock - 1) n ≡ []) (nodes_in_order past) (λ n has. let range = in_order_nodes past n has in ground.rested awaits n range.0 range.1)

  pub waits_before : (here : Phase) (past : List Entry) (m : HostMachine) → NotingGround taken here past m → m.awaits ≡ true → (u : UnderWay) → m.state.requests.under_way ≡ Some u → Waits past (m.clock - 1)
  waits_before here past m ground awaits u is = unended_waits past (m.clock - 1) (ground.grounds.sleep.1.0 awaits u is)
