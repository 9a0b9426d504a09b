-- Where a request ends no node is to be let sleep that was not, and none that was is not: those whose No More Information waits are as they were.
use Rattle.std.proofs.Common.{◌≡◌, ◌⊎◌, ◌<◌, ℕ, ◌+◌, ◌==◌, ◌&&◌, ◌||◌, not, Bool, true, false, if◌then◌else◌, inl, inr, length, List, [], ◌∷◌, ◌++◌, bytes_eq, nat_lt, refl, sym, ap, ap₂, ◌∙◌, subst}
use Rattle.std.specs.Prelude.{Option, Some, None, is_some}
use Rattle.std.specs.List.{list_any}
use Rattle.std.proofs.lemmas.Bool.{and_left, and_right, eq-eqb, eqb-true}
use Rattle.std.proofs.lemmas.List.Folds.{list_any-append}
use Rattle.chip_functions.specs.declared.response.Response.TheVariants.{GetRoutingInfo, IsFailedNode as failed_node}
use Rattle.zw_text.specs.declared.entry.Entry.{Entry}
use Rattle.zw_text.specs.Transcript.{waking_at, wakings}
use Rattle.zw_text.proofs.Views.{shown-append}
use Rattle.law_time.specs.Requests.{Asked}
use Rattle.law_time.specs.Waking.{has_slept, is_told as tells_it}
use Rattle.law_time.specs.Wants.{no_more}
use Rattle.law_time.specs.Queue.{Queue, is_told}
use Rattle.host_requests.specs.Events.{RequestsEvent, end_at}
use Rattle.host_requests.specs.declared.end.End.{End}
use Rattle.host_requests.specs.declared.end.How.{How}
use Rattle.host_requests.specs.declared.end.How.TheVariants.{AtResponse}
use Rattle.host_requests.specs.declared.task.Purpose.{Purpose}
use Rattle.host_requests.specs.declared.task.Purpose.TheVariants.{Housekeeping, Attempt, Abort}
use Rattle.host_requests.specs.declared.task.Task.{Task}
use Rattle.host_requests.specs.declared.task.Task.TheVariants.{Plain, NoMore, Second, Neighbours, IsFailed}
use Rattle.host_requests.specs.declared.under_way.UnderWay.{UnderWay}
use Rattle.host_node.specs.declared.attempt.AttemptEnd.{AttemptEnd}
use Rattle.host_node.specs.declared.attempt.AttemptEnd.TheVariants.{NoneRan, Again, Unanswered}
use Rattle.host_node.specs.declared.attempt.Moment.{Moment}
use Rattle.host_node.specs.declared.no_more.NoMore.TheVariants.{Unasked}
use Rattle.host_node.specs.declared.series.Series.{Series}
use Rattle.host_node.specs.declared.series.Series.TheVariants.{Idle, Due, Running}
use Rattle.host_node.specs.State.{NodeState, has_waiting, is_false, is_idle, is_running}
use Rattle.host_node.specs.TableState.{node_of as node_among}
use Rattle.host_node.specs.Steps.{after_attempt_end, after_no_more, after_no_more_end, after_sign, after_sleep, asleep, attempt_end, falls_asleep, next_due, series_over, with_wait, without_attempt}
use Rattle.host_model.specs.Did.{one_if}
use Rattle.host_model.specs.State.{HostState, node_of}
use Rattle.host_model.specs.Sessions.{open_command}
use Rattle.host_model.specs.Ends.{PartEnd, Good, Passed_over, Bad, asleep_entry, attempt_entries, end_entries, end_entries_if, failed_entry, neighbours_entry, part_end, part_entries, task_entries}
use Rattle.host_model.specs.After.{after, requests_do}
use Rattle.host_model.specs.Events.{Requests_do}
use Rattle.host_model.specs.Outs.{request_entries}
use Rattle.proof_attempts.specs.proof_work.Work.{told_at, told_for}
use Rattle.proof_attempts.proofs.Doings.{does_at, end_does, node_after, part_does, purpose_does, task_does}
use Rattle.proof_queue.proofs.Dropping.{ended_of}
use Rattle.proof_queue.proofs.Orders.{is_among}
use Rattle.proof_queue.proofs.Pumped.{would_sleep}

-- ---- a node that would not sleep

by_idle : (s : NodeState) → is_idle s.series ≡ false → would_sleep s ≡ false
by_idle s is = and_left (s.awake && is_false s.listens && is_some s.classes && is_false (has_waiting s) && is_idle s.series) (s.hold == 0)
    (and_right (s.awake && is_false s.listens && is_some s.classes && is_false (has_waiting s)) (is_idle s.series) is)

by_hearing : (s : NodeState) → s.listens ≡ true → would_sleep s ≡ false
by_hearing s is = by s.awake
  where
    by : (a : Bool) → (a && is_false s.listens && is_some s.classes && is_false (has_waiting s) && is_idle s.series && (s.hold == 0)) ≡ false
    by false = refl
    by true = ap (λ (l : Bool). is_false l && is_some s.classes && is_false (has_waiting s) && is_idle s.series && (s.hold == 0)) is

by_asleep : (s : NodeState) → s.awake ≡ false → would_sleep s ≡ false
by_asleep s is = ap (λ (a : Bool). a && is_false s.listens && is_some s.classes && is_false (has_waiting s) && is_idle s.series && (s.hold == 0)) is

busy : (s : Series) → is_running s ≡ true → is_idle s ≡ false
busy Idle runs = absurd (let bad : false ≡ true = runs in cc)
busy Due runs = refl
busy Running runs = refl

-- it is as it was, and is not told to sleep; or it would not sleep, and would not have, but for being told so now
abbrev pub Kept : ℕ → ℕ → NodeState → NodeState → List Entry → Type 0
Kept n at s t told = ((t ≡ s) × (wakings n told ≡ [])) ⊎ ((would_sleep t ≡ false) × ((would_sleep s ≡ false) ⊎ (at ≡ 1)))

asleep_none : (n k : ℕ) (fell : Bool) → (k == n) ≡ false → wakings n (asleep_entry fell k) ≡ []
asleep_none n k true other = ap (λ (b : Bool). (if b then false ∷ [] else []) ++ []) other
asleep_none n k false other = refl

attempt_none : (n k : ℕ) (end : AttemptEnd) (command : Option ℕ) → (k == n) ≡ false → wakings n (attempt_entries k end command) ≡ []
attempt_none n k NoneRan command other = refl
attempt_none n k Again command other = refl
attempt_none n k (Unanswered fell) None other = asleep_none n k fell other
attempt_none n k (Unanswered fell) (Some number) other = asleep_none n k fell other

neighbours_none : (n k : ℕ) (how : How) → wakings n (neighbours_entry k how) ≡ []
neighbours_none n k (AtResponse (GetRoutingInfo nodes)) = refl
neighbours_none n k how = refl

failed_none : (n k : ℕ) (how : How) → wakings n (failed_entry k how) ≡ []
failed_none n k (AtResponse (failed_node failed)) = refl
failed_none n k how = refl

module _ (h : HostState) (n at : ℕ) where
  abbrev s : NodeState
  s = node_of h n

  sign_kept : Kept n at s (after_sign s) []
  sign_kept = by (is_running s.series) refl
    where
      by : (b : Bool) → is_running s.series ≡ b → Kept n at s (if b then with_wait s 100 else s) []
      by true runs = inr (by_idle (with_wait s 100) (busy s.series runs), inl (by_idle s (busy s.series runs)))
      by false runs = inl (refl, refl)

  slept_none : (t : NodeState) → would_sleep (after_sleep t) ≡ false
  slept_none t = by t.listens refl
    where
      by : (b : Bool) → t.listens ≡ b → would_sleep (if b then t else asleep t) ≡ false
      by true hears = by_hearing t hears
      by false deaf = by_asleep (asleep t) refl

  end_kept : (moment : Moment) (command : Option ℕ) → Kept n at s (after_attempt_end s moment) (attempt_entries n (attempt_end s) command)
  end_kept moment command = by (is_running s.series) refl
    where
      few : Bool
      few = nat_lt (s.book.attempts + 1) 3

      over : NodeState
      over = series_over (without_attempt s) (s.book.attempts + 1) moment

      ended : (b : Bool) → would_sleep (if b then next_due (without_attempt s) (s.book.attempts + 1) else after_sleep over) ≡ false
      ended true = by_idle (next_due (without_attempt s) (s.book.attempts + 1)) refl
      ended false = slept_none over

      by : (b : Bool) → is_running s.series ≡ b
          → Kept n at s (if b then (if few then next_due (without_attempt s) (s.book.attempts + 1) else after_sleep over) else s)
          (attempt_entries n (if b then (if few then Again else Unanswered (falls_asleep s)) else NoneRan) command)
      by true runs = inr (ended few, inl (by_idle s (busy s.series runs)))
      by false runs = inl (refl, refl)

  part_kept : (g : HostState) (k : ℕ) (end : PartEnd) (moment : Moment) → g.nodes ≡ h.nodes → Kept n at s (does_at n s (part_does k end moment)) (part_entries g k end)
  part_kept g k Good moment same = by (k == n)
    where
      by : (b : Bool) → Kept n at s (if b then after_sign s else s) []
      by true = sign_kept
      by false = inl (refl, refl)
  part_kept g k Passed_over moment same = inl (refl, refl)
  part_kept g k Bad moment same = by (k == n) refl
    where
      by : (b : Bool) → (k == n) ≡ b → Kept n at s (if b then after_attempt_end s moment else s) (attempt_entries k (attempt_end (node_of g k)) (open_command (node_of g k)))
      by true is =
          let it : k ≡ n = eqb-true k n is in
          let node_is : node_of g n ≡ s = ap (λ (l : List NodeState). node_among l n) same in
          subst (λ (m : ℕ). Kept n at s (after_attempt_end s moment) (attempt_entries m (attempt_end (node_of g m)) (open_command (node_of g m)))) (sym it)
          (subst (λ (t : NodeState). Kept n at s (after_attempt_end s moment) (attempt_entries n (attempt_end t) (open_command (node_of g n)))) (sym node_is) (end_kept moment (open_command (node_of g n))))
      by false is = inl (refl, attempt_none n k (attempt_end (node_of g k)) (open_command (node_of g k)) is)

  task_kept : (g : HostState) (task : Task) (how : How) → ((k : ℕ) → task ≡ NoMore k → k ≡ n → at ≡ 1) → Kept n at s (does_at n s (task_does task)) (task_entries g task how)
  task_kept g (NoMore k) how told = by (k == n) refl
    where
      by : (b : Bool) → (k == n) ≡ b → Kept n at s (if b then after_no_more_end s else s) (asleep_entry (falls_asleep (node_of g k)) k)
      by true is = inr (slept_none (after_no_more s Unasked), inr (told k refl (eqb-true k n is)))
      by false is = inl (refl, asleep_none n k (falls_asleep (node_of g k)) is)
  task_kept g (Plain k payload) how told = inl (refl, refl)
  task_kept g (Second k) how told = inl (refl, refl)
  task_kept g (Neighbours k) how told = inl (refl, neighbours_none n k how)
  task_kept g (IsFailed k) how told = inl (refl, failed_none n k how)
  task_kept g task how told = inl (refl, refl)

  purpose_kept : (g : HostState) (purpose : Purpose) (how : How) (moment : Moment) → g.nodes ≡ h.nodes → ((k : ℕ) → purpose ≡ Housekeeping (NoMore k) → k ≡ n → at ≡ 1)
      → Kept n at s (does_at n s (purpose_does purpose how moment)) (end_entries g (record { purpose = purpose; how = how }))
  purpose_kept g (Attempt k more payload) how moment same told = part_kept g k (part_end more how) moment same
  purpose_kept g (Housekeeping task) how moment same told = task_kept g task how (λ k is. told k (ap Housekeeping is))
  purpose_kept g Abort how moment same told = inl (refl, refl)

  ends_kept : (g : HostState) (end : Option End) (moment : Moment) → g.nodes ≡ h.nodes → ((one : End) (k : ℕ) → end ≡ Some one → one.purpose ≡ Housekeeping (NoMore k) → k ≡ n → at ≡ 1)
      → Kept n at s (does_at n s (end_does end moment)) (end_entries_if g end)
  ends_kept g None moment same told = inl (refl, refl)
  ends_kept g (Some end) moment same told = purpose_kept g end.purpose end.how moment same (λ k is. told end k refl is)

-- at what the request under way hears
pub request_kept : (h : HostState) (event : RequestsEvent) (moment : Moment) (n : ℕ) → n < length h.nodes
    → Kept n (told_at n h.requests.under_way) (node_of h n) (node_of (after h (Requests_do event moment)) n) (request_entries h event)
request_kept h event moment n within =
    subst (λ (t : NodeState). Kept n (told_at n h.requests.under_way) (node_of h n) t (request_entries h event)) (sym (node_after h (Requests_do event moment) n within))
    (ends_kept h n (told_at n h.requests.under_way) (requests_do h event) (end_at h.requests event) moment refl
    (λ end k is tells same.
    let found = ended_of h.requests event end is in
    ap (λ (o : Option UnderWay). told_at n o) found.1 ∙ ap (λ (p : Purpose). told_for n p) (found.2 ∙ tells) ∙ ap one_if (eq-eqb k n same)))

-- ---- who is told

pub slept_more : (n : ℕ) (some more : List Entry) → has_slept n (some ++ more) ≡ (has_slept n some || has_slept n more)
slept_more n some more = ap (λ (l : List Bool). list_any not l) (shown-append (waking_at n) some more) ∙ list_any-append not (wakings n some) (wakings n more)

-- where nothing tells it to wake or to sleep, it is told as it was
pub told_same : (a b : Asked) (p q : Queue) (told : List Entry) (n : ℕ) → b.frame ≡ a.frame → b.following ≡ a.following ++ told → q.wants ≡ p.wants → is_among q.dropped n ≡ is_among p.dropped n
    → wakings n told ≡ [] → is_told b q n ≡ is_told a p n
told_same a b p q told n frame following wants dropped none =
    ap₂ (λ (w : List (List ℕ)) (d : Bool). list_any (bytes_eq (no_more n)) w || d || (tells_it n b.frame && not (has_slept n b.following))) wants dropped
    ∙ ap₂ (λ (f : List ℕ) (s : Bool). list_any (bytes_eq (no_more n)) p.wants || is_among p.dropped n || (tells_it n f && not s)) frame slept
  where
    or_none : (b : Bool) → (b || false) ≡ b
    or_none true = refl
    or_none false = refl

    slept : has_slept n b.following ≡ has_slept n a.following
    slept =
        ap (λ (l : List Entry). has_slept n l) following ∙ slept_more n a.following told ∙ ap (λ (l : List Bool). has_slept n a.following || list_any not l) none
        ∙ or_none (has_slept n a.following)
