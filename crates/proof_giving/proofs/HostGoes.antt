-- What the end of the request of a host makes of a node and of its attempts, as they are told.
use Rattle.std.proofs.Common.{◌≡◌, ◌⊎◌, ℕ, ◌+◌, ◌==◌, ◌&&◌, nat_lt, not, Bool, true, false, if◌then◌else◌, inl, inr, List, Option, Some, None, refl, sym, ap, ◌∙◌, subst}
use Rattle.std.proofs.lemmas.Bool.{cases_eq, eq-eqb, ne_eqb, and_right}
use Rattle.zw_text.specs.declared.entry.Entry.{Entry}
use Rattle.zw_text.specs.Transcript.{folded}
use Rattle.law_time.specs.Attempts.{Attempts, anew}
use Rattle.chip_functions.specs.declared.response.Response.TheVariants.{GetRoutingInfo, IsFailedNode as failed_node}
use Rattle.host_requests.specs.declared.end.End.{End}
use Rattle.host_requests.specs.declared.end.How.{How}
use Rattle.host_requests.specs.declared.end.How.TheVariants.{AtResponse}
use Rattle.host_requests.specs.declared.task.Purpose.{Purpose}
use Rattle.host_requests.specs.declared.task.Purpose.TheVariants.{Housekeeping, Attempt, Abort}
use Rattle.host_requests.specs.declared.task.Task.{Task}
use Rattle.host_requests.specs.declared.task.Task.TheVariants.{Plain, NoMore, Second, Neighbours, IsFailed}
use Rattle.host_node.specs.declared.attempt.AttemptEnd.{AttemptEnd}
use Rattle.host_node.specs.declared.attempt.AttemptEnd.TheVariants.{NoneRan, Again, Unanswered}
use Rattle.host_node.specs.declared.attempt.Moment.{Moment}
use Rattle.host_node.specs.declared.no_more.NoMore.TheVariants.{Unasked}
use Rattle.host_node.specs.declared.series.Series.TheVariants.{Running}
use Rattle.host_node.specs.State.{NodeState, is_running}
use Rattle.host_node.specs.Steps.{after_attempt_end, after_no_more, after_again_tick, after_hold_tick, after_no_more_end, after_sign, after_tick, attempt_end, falls_asleep, tick_end}
use Rattle.host_model.specs.State.{HostState, node_of}
use Rattle.host_model.specs.Sessions.{open_command}
use Rattle.host_model.specs.Ends.{PartEnd, Good, Passed_over, Bad, asleep_entry, attempt_entries, end_entries, end_entries_if, failed_entry, neighbours_entry, part_end, part_entries, task_entries}
use Rattle.host_model.specs.Facts.{HostFacts}
use Rattle.proof_queue.specs.proof_attempts.Attempts.{is_over_by}
use Rattle.proof_queue.proofs.Doings.{does_at, end_does, part_does, purpose_does, task_does}
use Rattle.proof_queue.proofs.Nodes.{ends_by, ran}
use Rattle.proof_queue.proofs.Opening.{open_last}
use Rattle.proof_queue.proofs.SeriesGoes.{lasts_of, opened_by, others_by}
use Rattle.proof_giving.specs.Tie.{NodeSo, anew_step, is_bad_for, is_bad_of, is_bad_part, is_good, is_good_for, is_good_of, is_third}
use Rattle.proof_giving.proofs.NodesGo.{attempt_tick_so, badly_so, either_so, end_so, same_so, sleep_so, waits_tick_so}

-- ---- what is told

asleep_still : (last : ℕ → Bool) (a : Attempts) (fell : Bool) (k : ℕ) → folded (anew_step last) a (asleep_entry fell k) ≡ a
asleep_still last a true k = refl
asleep_still last a false k = refl

-- the third attempt is over
abbrev gives_up : AttemptEnd → Bool
gives_up NoneRan = false
gives_up Again = false
gives_up (Unanswered fell) = true

pub attempt_told : (last : ℕ → Bool) (a : Attempts) (k : ℕ) (end : AttemptEnd) (command : Option ℕ)
    → folded (anew_step last) a (attempt_entries k end command) ≡ (if gives_up end && ends_by last command then anew a else a)
attempt_told last a k NoneRan command = refl
attempt_told last a k Again command = refl
attempt_told last a k (Unanswered fell) None = asleep_still last a fell k
attempt_told last a k (Unanswered fell) (Some command) = asleep_still last (if last command then anew a else a) fell k

not_told : (a : Attempts) (b ends : Bool) → ends ≡ false → (if b && ends then anew a else a) ≡ a
not_told a true ends none = ap (λ (c : Bool). if c then anew a else a) none
not_told a false ends none = refl

-- ---- of a host

module _ (h : HostState) (n : ℕ) (facts : HostFacts h) (a : Attempts) (time : ℕ) (badly later : Bool) where
  abbrev s : NodeState
  s = node_of h n

  abbrev Ends : List Entry → Attempts
  Ends entries = folded (anew_step (lasts_of s)) a entries

  -- its own third attempt is told to be over
  own_told : Ends (attempt_entries n (attempt_end s) (open_command s)) ≡ (if is_third s then anew a else a)
  own_told = attempt_told (lasts_of s) a n (attempt_end s) (open_command s) ∙ by (is_running s.series) (nat_lt (s.book.attempts + 1) 3) refl
    where
      by : (runs few : Bool) → is_running s.series ≡ runs
          → (if gives_up (if runs then (if few then Again else Unanswered (falls_asleep s)) else NoneRan) && ends_by (lasts_of s) (open_command s) then anew a else a) ≡ (if runs && not few then anew a else a)
      by true true runs = refl
      by true false runs = ap (λ (b : Bool). if b then anew a else a) (opened_by s (facts.nodes.facts n) runs (open_last s))
      by false few runs = refl

  -- and that of another node is no end of this one's
  pub other_told : (k : ℕ) (end : AttemptEnd) → (k ≡ n → ⊥) → Ends (attempt_entries k end (open_command (node_of h k))) ≡ a
  other_told k end differs =
      attempt_told (lasts_of s) a k end (open_command (node_of h k))
      ∙ not_told a (gives_up end) (ends_by (lasts_of s) (open_command (node_of h k)))
      (others_by h.commands k n (node_of h k) s differs (facts.owns k).sessions (facts.owns n).sessions (open_last (node_of h k)))

  module _ (so : NodeSo a s time badly) (goes : badly ≡ true → later ≡ true) where
    kept : (s.series ≡ Running → (a.own && later) ≡ false) → NodeSo a s time later
    kept none = badly_so a s time badly so later goes none

    attempts_by : (k : ℕ) (moment : Moment) → (s.series ≡ Running → (k == n) ≡ false → (a.own && later) ≡ false) → (s.series ≡ Running → (k == n) ≡ true → is_over_by time later a ≡ true)
        → NodeSo (Ends (attempt_entries k (attempt_end (node_of h k)) (open_command (node_of h k)))) (if k == n then after_attempt_end s moment else s) time later
    attempts_by k moment none over = by (cases_eq k n)
      where
        by : (k ≡ n) ⊎ (k ≡ n → ⊥) → NodeSo (Ends (attempt_entries k (attempt_end (node_of h k)) (open_command (node_of h k)))) (if k == n then after_attempt_end s moment else s) time later
        by (inl same) =
            subst (λ (m : ℕ). NodeSo (Ends (attempt_entries m (attempt_end (node_of h m)) (open_command (node_of h m)))) (if m == n then after_attempt_end s moment else s) time later) (sym same)
            (subst (λ (b : Bool). NodeSo (Ends (attempt_entries n (attempt_end s) (open_command s))) (if b then after_attempt_end s moment else s) time later) (sym (eq-eqb n n refl))
            (subst (λ (b : Attempts). NodeSo b (after_attempt_end s moment) time later) (sym own_told)
            (end_so a s time badly so later moment goes (λ is. over is (eq-eqb k n same)))))
        by (inr differs) =
            subst (λ (b : Bool). NodeSo (Ends (attempt_entries k (attempt_end (node_of h k)) (open_command (node_of h k)))) (if b then after_attempt_end s moment else s) time later) (sym (ne_eqb k n differs))
            (subst (λ (b : Attempts). NodeSo b s time later) (sym (other_told k (attempt_end (node_of h k)) differs)) (kept (λ is. none is (ne_eqb k n differs))))

    neighbours_by : (k : ℕ) (how : How) → Ends (neighbours_entry k how) ≡ a
    neighbours_by k (AtResponse (GetRoutingInfo nodes)) = refl
    neighbours_by k _ = refl

    failed_by : (k : ℕ) (how : How) → Ends (failed_entry k how) ≡ a
    failed_by k (AtResponse (failed_node failed)) = refl
    failed_by k _ = refl

    still : (entries : List Entry) (t : NodeState) → Ends entries ≡ a → NodeSo a t time later → NodeSo (Ends entries) t time later
    still entries t same tie = subst (λ (b : Attempts). NodeSo b t time later) (sym same) tie

    task_by : (task : Task) (how : How) → (s.series ≡ Running → (a.own && later) ≡ false) → NodeSo (Ends (task_entries h task how)) (does_at n s (task_does task)) time later
    task_by (NoMore k) how none =
        still (asleep_entry (falls_asleep (node_of h k)) k) (if k == n then after_no_more_end s else s) (asleep_still (lasts_of s) a (falls_asleep (node_of h k)) k)
        (either_so a time later (k == n) (after_no_more_end s) s (sleep_so a (after_no_more s Unasked) time later (same_so a s (after_no_more s Unasked) time later refl (kept none))) (kept none))
    task_by (Plain k payload) how none = kept none
    task_by (Second k) how none = kept none
    task_by (Neighbours k) how none = still (neighbours_entry k how) s (neighbours_by k how) (kept none)
    task_by (IsFailed k) how none = still (failed_entry k how) s (failed_by k how) (kept none)
    task_by task how none = kept none

    part_by : (k : ℕ) (end : PartEnd) (moment : Moment) → ((k == n) && is_good end) ≡ false → (s.series ≡ Running → ((k == n) && is_bad_part end) ≡ false → (a.own && later) ≡ false)
        → (s.series ≡ Running → ((k == n) && is_bad_part end) ≡ true → is_over_by time later a ≡ true)
        → NodeSo (Ends (part_entries h k end)) (does_at n s (part_does k end moment)) time later
    part_by k Good moment not_good none over = by (k == n) refl
      where
        by : (b : Bool) → (k == n) ≡ b → NodeSo a (if b then after_sign s else s) time later
        by true is = absurd (let bad : true ≡ false = sym (ap (λ (b : Bool). b && true) is) ∙ not_good in cc)
        by false is = kept (λ runs. none runs (ap (λ (b : Bool). b && false) is))
    part_by k Passed_over moment not_good none over = kept (λ runs. none runs (and_right (k == n) false refl))
    part_by k Bad moment not_good none over =
        attempts_by k moment (λ runs other. none runs (ap (λ (b : Bool). b && true) other)) (λ runs own. over runs (ap (λ (b : Bool). b && true) own))

    purpose_by : (purpose : Purpose) (how : How) (moment : Moment) → is_good_of n purpose how ≡ false → (s.series ≡ Running → is_bad_of n purpose how ≡ false → (a.own && later) ≡ false)
        → (s.series ≡ Running → is_bad_of n purpose how ≡ true → is_over_by time later a ≡ true)
        → NodeSo (Ends (end_entries h (record { purpose = purpose; how = how }))) (does_at n s (purpose_does purpose how moment)) time later
    purpose_by (Attempt k more payload) how moment not_good none over = part_by k (part_end more how) moment not_good none over
    purpose_by (Housekeeping task) how moment not_good none over = task_by task how (λ runs. none runs refl)
    purpose_by Abort how moment not_good none over = kept (λ runs. none runs refl)

    -- the end of the request, which is no good one of this node's
    pub ended_by : (end : Option End) (moment : Moment) → is_good_for n end ≡ false → (s.series ≡ Running → is_bad_for n end ≡ false → (a.own && later) ≡ false)
        → (s.series ≡ Running → is_bad_for n end ≡ true → is_over_by time later a ≡ true) → NodeSo (Ends (end_entries_if h end)) (does_at n s (end_does end moment)) time later
    ended_by None moment not_good none over = kept (λ runs. none runs refl)
    ended_by (Some end) moment not_good none over = purpose_by end.purpose end.how moment not_good none over

-- ---- a tick of a node

module _ (h : HostState) (n : ℕ) (facts : HostFacts h) (a : Attempts) (time : ℕ) (badly : Bool) (so : NodeSo a (node_of h n) time badly) where
  abbrev own : NodeState
  own = node_of h n

  -- its wait for another series has had its part
  abbrev waited : NodeState
  waited = after_again_tick (after_hold_tick own)

  tick_told : folded (anew_step (lasts_of own)) a (attempt_entries n (tick_end own) (open_command own)) ≡ (if (waited.attempt_wait == 1) && is_third waited then anew a else a)
  tick_told =
      attempt_told (lasts_of own) a n (tick_end own) (open_command own)
      ∙ by (waited.attempt_wait == 1) (is_running waited.series) (nat_lt (waited.book.attempts + 1) 3) refl
    where
      by : (ends runs few : Bool) → is_running waited.series ≡ runs
          → (if gives_up (if ends then (if runs then (if few then Again else Unanswered (falls_asleep waited)) else NoneRan) else NoneRan) && ends_by (lasts_of own) (open_command own) then anew a else a)
          ≡ (if ends && (runs && not few) then anew a else a)
      by false runs few is = refl
      by true false few is = refl
      by true true true is = refl
      by true true false is = ap (λ (b : Bool). if b then anew a else a) (opened_by own (facts.nodes.facts n) (ran (after_hold_tick own) is) (open_last own))

  abbrev TickTold : ℕ → Attempts
  TickTold m = folded (anew_step (lasts_of own)) a (attempt_entries m (tick_end (node_of h m)) (open_command (node_of h m)))

  pub node_ticks_by : (k : ℕ)
      → NodeSo (folded (anew_step (lasts_of own)) a (attempt_entries k (tick_end (node_of h k)) (open_command (node_of h k)))) (if k == n then after_tick own else own) (if k == n then time + 1 else time) badly
  node_ticks_by k = by (cases_eq k n)
    where
      by : (k ≡ n) ⊎ (k ≡ n → ⊥) → NodeSo (TickTold k) (if k == n then after_tick own else own) (if k == n then time + 1 else time) badly
      by (inl same) =
          subst (λ (m : ℕ). NodeSo (TickTold m) (if m == n then after_tick own else own) (if m == n then time + 1 else time) badly) (sym same)
          (subst (λ (b : Bool). NodeSo (TickTold n) (if b then after_tick own else own) (if b then time + 1 else time) badly) (sym (eq-eqb n n refl))
          (subst (λ (b : Attempts). NodeSo b (after_tick own) (time + 1) badly) (sym tick_told) (attempt_tick_so a waited time badly (waits_tick_so a own time badly so))))
      by (inr differs) =
          subst (λ (b : Bool). NodeSo (TickTold k) (if b then after_tick own else own) (if b then time + 1 else time) badly) (sym (ne_eqb k n differs))
          (subst (λ (b : Attempts). NodeSo b own time badly) (sym (other_told h n facts a time badly badly k (tick_end (node_of h k)) differs)) so)
