-- The end of an errand and of an interview is entered.
use Rattle.std.proofs.Common.{◌≡◌, ℕ, ◌==◌, Bool, true, false, if◌then◌else◌, Option, Some, None, List, [], ◌∷◌, ◌++◌, length, refl, sym, ap, ap₂, subst, ◌∙◌, append-nil}
use Rattle.std.specs.List.{AllByRecursion, flat_map}
use Rattle.std.proofs.lemmas.Bool.{eqb-true}
use Rattle.zw_base.proofs.Each.{all-append}
use Rattle.zw_text.specs.declared.entry.Done.{Done as HowDone}
use Rattle.zw_text.specs.declared.entry.Entry.{Entry}
use Rattle.zw_text.specs.declared.entry.Entry.TheVariants as entry
use Rattle.zw_text.specs.Transcript.{done_at, requests_done}
use Rattle.law_time.specs.Rests.{interview_end}
use Rattle.chip_functions.specs.declared.notice.Update.{Update}
use Rattle.chip_functions.specs.declared.notice.Update.TheVariants.{Received}
use Rattle.serial_link.specs.State.{copy_due, tick_side}
use Rattle.host_requests.specs.Next.{at_update, end_from, end_of, is_update_of}
use Rattle.host_requests.specs.Events.{end_at, interviewed_from}
use Rattle.host_requests.specs.Events.RequestsEvent.{Fails, Updates}
use Rattle.host_requests.specs.declared.end.End.{End}
use Rattle.host_requests.specs.declared.end.How.{How}
use Rattle.host_requests.specs.declared.end.How.TheVariants.{AtUpdate}
use Rattle.host_requests.specs.declared.next.Next.TheVariants.{GoesOn, Ends}
use Rattle.host_requests.specs.declared.task.Task.{Task}
use Rattle.host_requests.specs.declared.task.Task.TheVariants.{Plain, NoMore, Second, Neighbours, IsFailed}
use Rattle.host_requests.specs.declared.task.Purpose.{Purpose}
use Rattle.host_requests.specs.declared.task.Purpose.TheVariants.{Housekeeping, Attempt, Abort}
use Rattle.host_requests.specs.declared.under_way.Progress.{Progress}
use Rattle.host_requests.specs.declared.under_way.UnderWay.{UnderWay}
use Rattle.host_node.specs.Steps.{falls_asleep}
use Rattle.proof_walk.specs.host_model.State.{HostState, node_of}
use Rattle.proof_walk.specs.host_model.Ends.{part_end, done_of, asleep_entry, part_entries, neighbours_entry, failed_entry, end_entries, end_entries_if}
use Rattle.proof_walk.specs.host_model.After.{gives_up, line_ticked, requests_do}
use Rattle.proof_walk.specs.host_model.Events.{HostEvent, Accepts, Cancels, Requests_do, Interviews, Interview_unkept, Finishes, Line_ticks, Node_ticks}
use Rattle.proof_walk.specs.host_model.May.{May, IsInterviewed}
use Rattle.proof_walk.specs.host_model.Outs.{answers, failing_entries, noted, outs, request_entries}
use Rattle.proof_walk.specs.proof_host.Entries.{entries_at, notes_of}
use Rattle.proof_work.specs.Tasks.{KeepsInterview, ended, ended_if, errand_of, errands, interview_of, interviews, task_ended, task_of}
use Rattle.proof_walk.proofs.Effects.{notes_noted, copy_notes}
use Rattle.proof_world.proofs.Notes.{notes_are}
use Rattle.proof_walk.proofs.HostOuts.{AttemptsAre, MayPut, asleep_is, failed_is, neighbours_are, outs_put, part_are}

-- an entry that tells of no end of an errand or interview
abbrev IsOther : Entry → Type 0
IsOther (entry.Done node how) = ⊥
IsOther (entry.Interviewed node) = ⊥
IsOther (entry.InterviewFailed node) = ⊥
IsOther _ = Unit {0}

abbrev AreOther : List Entry → Type 0
AreOther entries = AllByRecursion IsOther entries

-- ---- entries of others

other_attempts : AttemptsAre IsOther
other_attempts = record { unanswered = λ command. tt; asleep = λ n. tt }

-- an event at which no request ends
abbrev EndsNone : HostEvent → Type 0
EndsNone (Requests_do event moment) = ⊥
EndsNone (Interviews n listens classes update) = ⊥
EndsNone (Interview_unkept n update) = ⊥
EndsNone Line_ticks = ⊥
EndsNone event = Unit {0}

other_put : (event : HostEvent) → EndsNone event → MayPut IsOther event
other_put (Requests_do event moment) none = absurd none
other_put (Interviews n listens classes update) none = absurd none
other_put Line_ticks none = absurd none
other_put (Node_ticks n) none = other_attempts
other_put (Finishes n session id command status wake_request) none = (tt, (λ setting. tt), tt)
other_put event none = tt

answers_other : (h : HostState) (event : HostEvent) → AreOther (answers h event)
answers_other h (Accepts order carriage) = (tt, tt)
answers_other h (Cancels command) = (tt, tt)
answers_other h event = tt

event_other : (h : HostState) (event : HostEvent) → EndsNone event → AreOther (entries_at h event)
event_other h event none =
    all-append IsOther (answers h event) (notes_of (outs h event)) (answers_other h event) (notes_are IsOther (outs h event) (outs_put IsOther h event (other_put event none)))

-- no interview ends well at it
abbrev IsNoInterview : HostEvent → Type 0
IsNoInterview (Interviews n listens classes update) = ⊥
IsNoInterview (Interview_unkept n update) = ⊥
IsNoInterview event = Unit {0}

-- ---- one view of the entries, and what tasks it is of

-- tasks of which nothing is entered
abbrev IsSilent : Task → Type 0
IsSilent (Plain n payload) = ⊥
IsSilent (Second n) = ⊥
IsSilent _ = Unit {0}

-- as many things are entered of such an end as there are in the task
record Tells {A B : Type 0} (view : Entry → List A) (part : Task → List B) : Type 0 where
  others : (e : Entry) → IsOther e → view e ≡ []
  done : (m : ℕ) (payload : List ℕ) (how : HowDone) → length (view (entry.Done m how)) ≡ length (part (Plain m payload))
  failed : (m : ℕ) → length (view (entry.InterviewFailed m)) ≡ length (part (Second m))
  silent : (task : Task) → IsSilent task → part task ≡ []

module _ {A B : Type 0} (view : Entry → List A) (part : Task → List B) (tells : Tells view part) where
  none_shown : (entries : List Entry) → AreOther entries → flat_map view entries ≡ []
  none_shown [] are = refl
  none_shown (e ∷ entries) are = ap₂ (λ (a b : List A). a ++ b) (tells.others e are.0) (none_shown entries are.1)

  abbrev Told : List Entry → List Task → Type 0
  Told entries tasks = length (flat_map view entries) ≡ length (flat_map part tasks)

  told_none : (entries : List Entry) → AreOther entries → Told entries []
  told_none entries are = ap (λ (l : List A). length l) (none_shown entries are)

  told_one : (e : Entry) (task : Task) → length (view e) ≡ length (part task) → Told (e ∷ []) (task ∷ [])
  told_one e task same =
      ap (λ (l : List A). length l) (append-nil (view e)) ∙ same ∙ ap (λ (l : List B). length l) (sym (append-nil (part task)))

  told_silent : (entries : List Entry) (task : Task) → AreOther entries → IsSilent task → Told entries (task ∷ [])
  told_silent entries task are silent =
      told_none entries are ∙ ap (λ (l : List B). length l) (sym (append-nil (part task) ∙ tells.silent task silent))

  task_told : (h : HostState) (task : Task) (how : How) → Told (end_entries h (record { purpose = Housekeeping task; how = how })) (task ∷ [])
  task_told h (Plain n payload) how = told_one (entry.Done n (done_of how)) (Plain n payload) (tells.done n payload (done_of how))
  task_told h (NoMore n) how = told_silent (asleep_entry (falls_asleep (node_of h n)) n) (NoMore n) (asleep_is IsOther other_attempts (falls_asleep (node_of h n)) n) tt
  task_told h (Second n) how = told_one (entry.InterviewFailed n) (Second n) (tells.failed n)
  task_told h (Neighbours n) how = told_silent (neighbours_entry n how) (Neighbours n) (neighbours_are IsOther (λ m nodes. tt) n how) tt
  task_told h (IsFailed n) how = told_silent (failed_entry n how) (IsFailed n) (failed_is IsOther (λ m is_failed. tt) n how) tt
  task_told h task how = told_silent [] task tt tt

  end_told : (h : HostState) (purpose : Purpose) (how : How) → Told (end_entries h (record { purpose = purpose; how = how })) (task_of purpose)
  end_told h (Attempt n more payload) how = told_none (part_entries h n (part_end more how)) (part_are IsOther other_attempts h n (part_end more how))
  end_told h (Housekeeping task) how = task_told h task how
  end_told h Abort how = refl

  end_if_told : (h : HostState) (end : Option End) → Told (end_entries_if h end) (task_ended end)
  end_if_told h None = refl
  end_if_told h (Some end) = end_told h end.purpose end.how

  as_noted : (entries : List Entry) (tasks : List Task) → Told entries tasks → Told (notes_of (noted entries)) tasks
  as_noted entries tasks told = ap (λ (l : List Entry). length (flat_map view l)) (notes_noted entries) ∙ told

  failing_told : (gives : Bool) (h : HostState) → Told (failing_entries gives (line_ticked h)) (ended_if gives h)
  failing_told true h = end_if_told (requests_do (line_ticked h) Fails) (end_at h.requests Fails)
  failing_told false h = refl

  -- at each event but the end of an interview that went well
  event_told : (h : HostState) (event : HostEvent) → IsNoInterview event → Told (entries_at h event) (ended h event)
  event_told h (Requests_do event moment) other = as_noted (request_entries h event) (task_ended (end_at h.requests event)) (end_if_told (requests_do h event) (end_at h.requests event))
  event_told h (Interviews n listens classes update) other = absurd other
  event_told h (Interview_unkept n update) other = absurd other
  event_told h Line_ticks other =
      let gives = gives_up h.side.turn (tick_side h.side).turn in
      ap (λ (l : List Entry). length (flat_map view l)) (copy_notes (copy_due h.side.turn) (failing_entries gives (line_ticked h))) ∙ failing_told gives h
  event_told h event other = told_none (entries_at h event) (event_other h event tt)

-- ---- errands

same_length : {A B : Type 0} (test : Bool) (a : A) (b : B) → length (if test then a ∷ [] else []) ≡ length (if test then b ∷ [] else [])
same_length true a b = refl
same_length false a b = refl

errands_tell : (n : ℕ) → Tells (done_at n) (errand_of n)
errands_tell n = record { others = others; done = λ m payload how. same_length (m == n) how payload; failed = λ m. refl; silent = silent }
  where
    others : (e : Entry) → IsOther e → done_at n e ≡ []
    others (entry.Done node how) other = absurd other
    others e other = refl

    silent : (task : Task) → IsSilent task → errand_of n task ≡ []
    silent (Plain m payload) is = absurd is
    silent task is = refl

-- an update ends no errand
update_by : (n : ℕ) (update : Update) (first : Option ℕ) (k : ℕ) (progress : Progress) (ends : Bool)
    → errands n (task_ended (end_of (record { purpose = Housekeeping (Second k); progress = progress }) (if ends then Ends (AtUpdate update first) else GoesOn progress))) ≡ []
update_by n update first k progress true = refl
update_by n update first k progress false = refl

update_at : (n : ℕ) (update : Update) (first : Option ℕ) (purpose : Purpose) (progress : Progress)
    → errands n (task_ended (end_of (record { purpose = purpose; progress = progress }) (at_update first update (record { purpose = purpose; progress = progress })))) ≡ []
update_at n update first (Housekeeping (Second k)) progress = update_by n update first k progress (is_update_of k update)
update_at n update first purpose progress = refl

update_none : (n : ℕ) (update : Update) (first : Option ℕ) (o : Option UnderWay) → errands n (task_ended (end_from (at_update first update) o)) ≡ []
update_none n update first None = refl
update_none n update first (Some u) = update_at n update first u.purpose u.progress

pub errands_told : (n : ℕ) (h : HostState) (event : HostEvent) → length (requests_done n (entries_at h event)) ≡ length (errands n (ended h event))
errands_told n h (Interviews m listens classes update) = ap (λ (l : List (List ℕ)). length l) (sym (update_none n update h.requests.first h.requests.under_way))
errands_told n h (Interview_unkept m update) = ap (λ (l : List (List ℕ)). length l) (sym (update_none n update h.requests.first h.requests.under_way))
errands_told n h event = event_told (done_at n) (errand_of n) (errands_tell n) h event tt

-- ---- interviews

interviews_tell : (n : ℕ) → Tells (interview_end n) (interview_of n)
interviews_tell n = record { others = others; done = λ m payload how. refl; failed = λ m. same_length (m == n) m m; silent = silent }
  where
    others : (e : Entry) → IsOther e → interview_end n e ≡ []
    others (entry.Interviewed node) other = absurd other
    others (entry.InterviewFailed node) other = absurd other
    others e other = refl

    silent : (task : Task) → IsSilent task → interview_of n task ≡ []
    silent (Second m) is = absurd is
    silent task is = refl

-- an interview that ends well does with the second request of its node
second_by : (n b g s : ℕ) (classes : List ℕ) (first : Option ℕ) (k capability : ℕ) (progress : Progress) (ends : Bool) → (n == k) ≡ ends → (if ends then first else None) ≡ Some capability
    → task_ended (end_of (record { purpose = Housekeeping (Second k); progress = progress }) (if ends then Ends (AtUpdate (Received n b g s classes) first) else GoesOn progress)) ≡ Second n ∷ []
second_by n b g s classes first k capability progress true same brought = ap (λ (m : ℕ). Second m ∷ []) (sym (eqb-true n k same))
second_by n b g s classes first k capability progress false same brought = absurd (not_brought brought)
  where
    not_brought : None ≡ Some capability → ⊥
    not_brought e = cc

second_at : (n b g s : ℕ) (classes : List ℕ) (first : Option ℕ) (capability : ℕ) (purpose : Purpose) (progress : Progress)
    → interviewed_from first (Received n b g s classes) (Some (record { purpose = purpose; progress = progress })) ≡ Some capability
    → task_ended (end_of (record { purpose = purpose; progress = progress }) (at_update first (Received n b g s classes) (record { purpose = purpose; progress = progress }))) ≡ Second n ∷ []
second_at n b g s classes first capability (Housekeeping (Second k)) progress brought = second_by n b g s classes first k capability progress (n == k) refl brought
second_at n b g s classes first capability purpose progress brought = absurd (not_brought brought)
  where
    not_brought : None ≡ Some capability → ⊥
    not_brought e = cc

second_ends : (n b g s : ℕ) (classes : List ℕ) (first : Option ℕ) (capability : ℕ) (o : Option UnderWay) → interviewed_from first (Received n b g s classes) o ≡ Some capability
    → task_ended (end_from (at_update first (Received n b g s classes)) o) ≡ Second n ∷ []
second_ends n b g s classes first capability None brought = cc
second_ends n b g s classes first capability (Some u) brought = second_at n b g s classes first capability u.purpose u.progress brought

interviewed_told : (n : ℕ) (h : HostState) (m : ℕ) (update : Update) (capability : ℕ) (classes : List ℕ) → IsInterviewed h m update capability classes
    → length (flat_map (interview_end n) (entry.Interviewed m ∷ [])) ≡ length (interviews n (task_ended (end_at h.requests (Updates update))))
interviewed_told n h m update capability classes is =
    let brought = subst (λ (u : Update). interviewed_from h.requests.first u h.requests.under_way ≡ Some capability) is.received is.brought in
    let ends = second_ends m is.types.0 is.types.1 is.types.2 classes h.requests.first capability h.requests.under_way brought in
    let same : task_ended (end_at h.requests (Updates update)) ≡ Second m ∷ []
    = ap (λ (u : Update). task_ended (end_at h.requests (Updates u))) is.received ∙ ends in
    told_one (interview_end n) (interview_of n) (interviews_tell n) (entry.Interviewed m) (Second m) (same_length (m == n) m m) ∙ ap (λ (l : List Task). length (interviews n l)) (sym same)

pub interviews_told : (n : ℕ) (h : HostState) (event : HostEvent) → May h event → KeepsInterview event → length (flat_map (interview_end n) (entries_at h event)) ≡ length (interviews n (ended h event))
interviews_told n h (Interviews m listens classes update) (capability, is, says) keeps = interviewed_told n h m update capability classes is
interviews_told n h (Interview_unkept m update) may keeps = absurd keeps
interviews_told n h event may keeps = event_told (interview_end n) (interview_of n) (interviews_tell n) h event tt
