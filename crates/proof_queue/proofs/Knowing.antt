-- What is known of what waits at each phase and stage of a careful run of a host alone, and how it goes on with entries of others and of the chip, and with the number of a tick.
use Rattle.std.proofs.Common.{◌≡◌, ◌⊎◌, ℕ, ◌+◌, ◌-◌, Bool, true, false, inl, inr, List, [], ◌∷◌, ◌++◌, refl, sym, subst, arith}
use Rattle.std.specs.List.{AllByRecursion}
use Rattle.std.proofs.lemmas.Bool.{both_ways}
use Rattle.zw_base.proofs.Each.{all-weaker}
use Rattle.serial_frame.specs.declared.unit.Unit.{Unit as LineUnit}
use Rattle.zw_text.specs.declared.line.Line.{Line}
use Rattle.zw_text.specs.declared.entry.Entry.{Entry}
use Rattle.zw_text.specs.declared.entry.Entry.TheVariants as entry
use Rattle.zw_text.specs.Transcript.{line_of}
use Rattle.host_heard.specs.declared.told.Told.{Told}
use Rattle.host_orders.specs.Refusals.{classes_of}
use Rattle.law_transcript.specs.Nodes.{host_list}
use Rattle.law_transcript.specs.Units.{Carried}
use Rattle.law_time.specs.Queue.{queue_before}
use Rattle.host_requests.specs.declared.task.Task.{Task}
use Rattle.host_model.specs.State.{node_of}
use Rattle.host_model.specs.May.{known_of}
use Rattle.host_model.specs.Events.{HostEvent}
use Rattle.host_model.specs.Did.{after_all}
use Rattle.proof_attempts.specs.proof_requests.law_host.Heard.{heeds_alone, listing_heard}
use Rattle.proof_attempts.specs.proof_requests.proof_alone.State.{HostMachine}
use Rattle.proof_attempts.specs.proof_requests.proof_alone.Steps.{IsOfOthers, Numbers, happens}
use Rattle.proof_attempts.specs.proof_requests.proof_alone.Phases.{Phase, Resting, Asked, Risen, Ticking, Open, Behind, Sleeping, Submitting, IsBetween}
use Rattle.proof_attempts.specs.proof_requests.proof_alone.Careful.{Stage, Fresh, Reading, Read, Looked, Judging}
use Rattle.proof_attempts.specs.proof_requests.proof_alone.Runs.{both_know}
use Rattle.proof_attempts.specs.proof_requests.proof_waking.Judged.{IsOfRequest}
use Rattle.proof_attempts.specs.proof_requests.Walking.{Ground, KnowsAsked}
use Rattle.proof_queue.specs.Sleeping.{IsLooking, full_for, slept, wanting}
use Rattle.proof_queue.specs.Waiting.{dropped_by}
use Rattle.proof_queue.proofs.Closing.{Lets, number_raw, number_upto, owed_then}
use Rattle.proof_queue.proofs.Loose.{Still, loose_raw, loose_upto}
use Rattle.proof_queue.proofs.Pace.{FirstOr, Paced, either_more, Second, Unjudged, is_first, number_is, others_second, others_unjudged, second_more}
use Rattle.proof_queue.proofs.Seeing.{Sights, View}
use Rattle.proof_queue.proofs.Sleeps.{Stands, drops_of}
use Rattle.proof_queue.proofs.Ties.{Raw, Stand, Upto, seen}

-- what else is known: what the host asks, what it knows of its nodes, and at which stage it is
pub record Grounds (here : Phase) (stage : Stage) (past : List Entry) (m : HostMachine) : Type 0 where
  pub asks : both_know Ground KnowsAsked here past m
  pub sights : Sights here past m
  pub pace : Paced here stage past m

pub sights_at : (here is : Phase) (past : List Entry) (m : HostMachine) → here ≡ is → Sights here past m → Sights is past m
sights_at here is past m same sights = subst (λ (p : Phase). Sights p past m) same sights

module _ (taken : List Entry → Carried → List Told) where
  -- ---- what is known

  -- it has not looked, and the number of the tick stands
  abbrev pub RawM : List Entry → HostMachine → Type 0
  RawM past m = (m.awaits ≡ false) × Raw taken past m.state.requests.queue [] (drops_of m.state)

  -- it has looked at this time
  abbrev pub UptoM : List Entry → HostMachine → Type 0
  UptoM past m = Upto taken m.clock past m.state.requests.queue [] (drops_of m.state)

  -- it has up to the tick before, and the number of this one is still to be entered
  abbrev pub Rises : List Entry → HostMachine → Type 0
  Rises past m = (m.awaits ≡ true) × ((before : ℕ) × (m.clock ≡ before + 1) × Upto taken before past m.state.requests.queue [] (drops_of m.state))

  abbrev pub Pre : List Entry → HostMachine → Type 0
  Pre past m = RawM past m ⊎ Rises past m

  -- behind an item the transcript is ahead of the host by the events that are to come
  abbrev pub RawBehind : List HostEvent → List Entry → HostMachine → Type 0
  RawBehind left past m = (m.awaits ≡ false) × Raw taken past (after_all m.state left).requests.queue (dropped_by m.state left) (drops_of m.state)

  abbrev pub UptoBehind : List HostEvent → List Entry → HostMachine → Type 0
  UptoBehind left past m = Upto taken m.clock past (after_all m.state left).requests.queue [] (drops_of m.state) × AllByRecursion IsOfRequest left × FirstOr past m

  -- and in a pump that lets nodes sleep the host is behind it
  abbrev pub Pumps : List Entry → HostMachine → Type 0
  Pumps past m = Lets taken m.clock past m.state × (m.awaits ≡ true → (seen taken (m.clock - 1) past).owed ≡ [])

  -- the words of a line stand last, and before them it had looked
  pub record WaitsBefore (line : Line) (past : List Entry) (m : HostMachine) : Type 0 where
    pub before : List Entry
    pub words : List ℕ
    pub are : past ≡ before ++ entry.Said words ∷ []
    pub read : line_of (entry.Said words) ≡ line ∷ []
    pub unnumbered : m.awaits ≡ false
    pub lists : (node : ℕ) → host_list listing_heard before node ≡ classes_of (known_of (node_of m.state node))
    pub stands : Stands (queue_before (heeds_alone taken) before (entry.Said words)) m.state.requests.queue [] (drops_of m.state)

  abbrev pub Know : Phase → Stage → List Entry → HostMachine → Type 0
  Know Resting Fresh past m = RawM past m
  Know Resting Reading past m = RawM past m
  Know Resting Read past m = UptoM past m
  Know Resting Looked past m = UptoM past m
  Know Resting Judging past m = ⊥
  Know (Asked line) Fresh past m = WaitsBefore line past m
  Know (Asked line) stage past m = ⊥
  Know Risen Fresh past m = Pre past m
  Know Risen stage past m = ⊥
  Know (Ticking left) Fresh past m = Pre past m
  Know (Ticking left) stage past m = ⊥
  Know Open Fresh past m = Pre past m
  Know Open Reading past m = RawM past m
  Know Open Read past m = UptoM past m
  Know Open Looked past m = UptoM past m
  Know Open Judging past m = (UptoM past m × FirstOr past m) ⊎ (RawM past m × (is_first past ≡ false))
  Know (Behind left) Reading past m = RawBehind left past m
  Know (Behind left) Judging past m = UptoBehind left past m ⊎ (RawBehind left past m × (is_first past ≡ false))
  Know (Behind left) stage past m = ⊥
  Know Sleeping Read past m = Pumps past m
  Know Sleeping Looked past m = Pumps past m
  Know Sleeping stage past m = ⊥
  Know Submitting Read past m = UptoM past m
  Know Submitting Looked past m = UptoM past m
  Know Submitting stage past m = ⊥

  pub known_to : (next here : Phase) (stage : Stage) (past : List Entry) (m : HostMachine) → next ≡ here → Know here stage past m → Know next stage past m
  known_to next here stage past m is known = subst (λ (p : Phase). Know p stage past m) (sym is) known

  pub known_at : (here is : Phase) (stage : Stage) (past : List Entry) (m : HostMachine) → here ≡ is → Know here stage past m → Know is stage past m
  known_at here is stage past m same known = subst (λ (p : Phase). Know p stage past m) same known

  -- ---- entries of others and of the chip

  module _ (past told : List Entry) (m : HostMachine) (now : m.awaits ≡ false) (all : AllByRecursion Still told) where
    raws : RawM past m → Stand taken past told × RawM (past ++ told) m
    raws (numbered, ties) = let got = loose_raw taken past told m.state.requests.queue (drops_of m.state) all ties in (got.0, (now, got.1))

    pres : Pre past m → Stand taken past told × Pre (past ++ told) m
    pres (inl raw) = let got = raws raw in (got.0, inl got.1)
    pres (inr (awaits, rises)) = absurd (both_ways m.awaits now awaits)

    uptos : View past m.clock m.state m.awaits → View (past ++ told) m.clock m.state m.awaits → UptoM past m → Stand taken past told × UptoM (past ++ told) m
    uptos sees later ties =
        loose_upto taken past told m.clock m.state m.state m.state.requests.queue (drops_of m.state) (λ n from to. refl) all sees.may later.may (sees.now now) (later.now now) ties

    pub loose : (here : Phase) (stage : Stage) → IsBetween here → (stage ≡ Judging → AllByRecursion IsOfOthers told) → (IsLooking here → View past m.clock m.state m.awaits)
        → (IsLooking here → View (past ++ told) m.clock m.state m.awaits) → Know here stage past m → Stand taken past told × Know here stage (past ++ told) m
    loose Resting Fresh is meets sees later known = raws known
    loose Resting Reading is meets sees later known = raws known
    loose Resting Read is meets sees later known = uptos (sees tt) (later tt) known
    loose Resting Looked is meets sees later known = uptos (sees tt) (later tt) known
    loose Resting Judging is meets sees later known = absurd known
    loose Risen Fresh is meets sees later known = pres known
    loose Risen stage is meets sees later known = absurd known
    loose Open Fresh is meets sees later known = pres known
    loose Open Reading is meets sees later known = raws known
    loose Open Read is meets sees later known = uptos (sees tt) (later tt) known
    loose Open Looked is meets sees later known = uptos (sees tt) (later tt) known
    loose Open Judging is meets sees later (inl (ties, first)) =
        let got = uptos (sees tt) (later tt) ties in
        (got.0, inl (got.1, either_more past told m m (all-weaker IsOfOthers Unjudged others_unjudged told (meets refl)) refl first))
    loose Open Judging is meets sees later (inr (raw, gone)) =
        let got = raws raw in (got.0, inr (got.1, second_more past told (all-weaker IsOfOthers Second others_second told (meets refl)) gone))
    loose here stage is meets sees later known = absurd is

  -- what has come besides changes nothing, but where it judges
  pub came_on : (here : Phase) (stage : Stage) (past : List Entry) (m : HostMachine) (came : List LineUnit) → IsBetween here → (stage ≡ Judging → ⊥) → Know here stage past m
      → Know here stage past (record m { came = came })
  came_on Resting Fresh past m came is never known = known
  came_on Resting Reading past m came is never known = known
  came_on Resting Read past m came is never known = known
  came_on Resting Looked past m came is never known = known
  came_on Resting Judging past m came is never known = absurd known
  came_on Risen Fresh past m came is never known = known
  came_on Risen stage past m came is never known = absurd known
  came_on Open Fresh past m came is never known = known
  came_on Open Reading past m came is never known = known
  came_on Open Read past m came is never known = known
  came_on Open Looked past m came is never known = known
  came_on Open Judging past m came is never known = absurd (never refl)
  came_on here stage past m came is never known = absurd is

  -- ---- the number of a tick

  module _ (past : List Entry) (m : HostMachine) (awaits : m.awaits ≡ true) where
    abbrev told : List Entry
    told = entry.Time m.clock ∷ []

    abbrev later : HostMachine
    later = happens m Numbers

    never_raw : {A : Type 0} → m.awaits ≡ false → A
    never_raw now = absurd (both_ways m.awaits now awaits)

    number_ties : (tasks : List Task) (owes : List ℕ) (drops : ℕ → Bool) → View past m.clock m.state m.awaits → View (past ++ told) m.clock m.state false → (seen taken (m.clock - 1) past).owed ≡ []
        → Upto taken m.clock past tasks owes drops → Stand taken past told × Upto taken m.clock (past ++ told) tasks owes drops
    number_ties tasks owes drops sees after_it owed ties =
        number_upto taken past m.clock m.state tasks owes drops (sees.risen awaits) sees.may after_it.may (after_it.now refl) owed ties

    number_so : (tasks : List Task) (drops : ℕ → Bool) → View past m.clock m.state m.awaits → View (past ++ told) m.clock m.state false → Upto taken m.clock past tasks [] drops
        → Stand taken past told × Upto taken m.clock (past ++ told) tasks [] drops
    number_so tasks drops sees after_it ties = number_ties tasks [] drops sees after_it (owed_then taken past (m.clock - 1) m.clock tasks drops (omega arith) ties) ties

    number_pre : Pre past m → Stand taken past told × Pre (past ++ told) later
    number_pre (inl (now, ties)) = never_raw now
    number_pre (inr (so, (before, next, ties))) =
        let got = number_raw taken past m.clock before m.state.requests.queue (drops_of m.state) next ties in (got.0, inl (refl, got.1))

    number_pumps : View past m.clock m.state m.awaits → View (past ++ told) m.clock m.state false → Pumps past m → Stand taken past told × Pumps (past ++ told) later
    number_pumps sees after_it (ties, owed) =
        let got = number_ties (slept m.state (wanting m.state)).requests.queue (full_for m.state (wanting m.state)) (drops_of (slept m.state (wanting m.state))) sees after_it (owed awaits) ties in (got.0, (got.1, λ is. absurd (let bad : false ≡ true = is in cc)))

    number_first : FirstOr past m → FirstOr (past ++ told) later
    number_first first = inl (number_is past m.clock)

    pub numbers : (here : Phase) (stage : Stage) → (IsLooking here → View past m.clock m.state m.awaits) → (IsLooking here → View (past ++ told) m.clock m.state false) → Know here stage past m
        → Stand taken past told × Know here stage (past ++ told) later
    numbers Resting Fresh sees after_it (now, ties) = never_raw now
    numbers Resting Reading sees after_it (now, ties) = never_raw now
    numbers Resting Read sees after_it known = number_so m.state.requests.queue (drops_of m.state) (sees tt) (after_it tt) known
    numbers Resting Looked sees after_it known = number_so m.state.requests.queue (drops_of m.state) (sees tt) (after_it tt) known
    numbers Resting Judging sees after_it known = absurd known
    numbers (Asked line) Fresh sees after_it known = never_raw known.unnumbered
    numbers (Asked line) stage sees after_it known = absurd known
    numbers Risen Fresh sees after_it known = number_pre known
    numbers Risen stage sees after_it known = absurd known
    numbers (Ticking left) Fresh sees after_it known = number_pre known
    numbers (Ticking left) stage sees after_it known = absurd known
    numbers Open Fresh sees after_it known = number_pre known
    numbers Open Reading sees after_it (now, ties) = never_raw now
    numbers Open Read sees after_it known = number_so m.state.requests.queue (drops_of m.state) (sees tt) (after_it tt) known
    numbers Open Looked sees after_it known = number_so m.state.requests.queue (drops_of m.state) (sees tt) (after_it tt) known
    numbers Open Judging sees after_it (inl (ties, first)) =
        let got = number_so m.state.requests.queue (drops_of m.state) (sees tt) (after_it tt) ties in (got.0, inl (got.1, number_first first))
    numbers Open Judging sees after_it (inr ((now, ties), gone)) = never_raw now
    numbers (Behind left) Reading sees after_it (now, ties) = never_raw now
    numbers (Behind left) Judging sees after_it (inl (ties, requests, first)) =
        let got = number_so (after_all m.state left).requests.queue (drops_of m.state) (sees tt) (after_it tt) ties in (got.0, inl (got.1, requests, number_first first))
    numbers (Behind left) Judging sees after_it (inr ((now, ties), gone)) = never_raw now
    numbers (Behind left) stage sees after_it known = absurd known
    numbers Sleeping Read sees after_it known = number_pumps (sees tt) (after_it tt) known
    numbers Sleeping Looked sees after_it known = number_pumps (sees tt) (after_it tt) known
    numbers Sleeping stage sees after_it known = absurd known
    numbers Submitting Read sees after_it known = number_so m.state.requests.queue (drops_of m.state) (sees tt) (after_it tt) known
    numbers Submitting Looked sees after_it known = number_so m.state.requests.queue (drops_of m.state) (sees tt) (after_it tt) known
    numbers Submitting stage sees after_it known = absurd known
