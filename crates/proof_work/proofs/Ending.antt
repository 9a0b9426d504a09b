-- The end of a request leaves its node's work in order.
use Rattle.std.proofs.Common.{◌≡◌, ℕ, ◌+◌, ◌≤◌, Bool, true, false, Option, Some, None, List, length, refl, sym, ap, subst, ◌∙◌, inl, inr, arith}
use Rattle.std.proofs.lemmas.Bool.{cases_eq}
use Rattle.std.proofs.lemmas.List.{get_or_past}
use Rattle.chip_functions.specs.declared.notice.TransmitStatus.TheVariants.{CompleteOk, NoAck, Fail, NotIdle, NoRoute}
use Rattle.host_requests.specs.State.{RequestsState}
use Rattle.host_requests.specs.declared.end.How.{How}
use Rattle.host_requests.specs.declared.end.How.TheVariants.{AtCallback, AtResponse, AtUpdate, Refused, Silent, LinkFailed, AbortSent}
use Rattle.host_requests.specs.declared.task.Task.{Task}
use Rattle.host_requests.specs.declared.task.Task.TheVariants.{NoMore}
use Rattle.host_requests.specs.declared.task.Purpose.{Purpose}
use Rattle.host_requests.specs.declared.task.Purpose.TheVariants.{Housekeeping, Attempt, Abort}
use Rattle.host_node.specs.State.{NodeState, unknown}
use Rattle.host_node.specs.Steps.{after_attempt_end, after_no_more_end, after_sign, attempt_end}
use Rattle.host_node.specs.Events.NodeEvent.{Ends_attempt as node_ends_attempt, Succeeds as node_succeeds}
use Rattle.host_node.specs.TableState.{node_of as node_among, with_node as with_node_among}
use Rattle.host_node.specs.declared.attempt.Moment.{Moment}
use Rattle.host_node.specs.declared.attempt.AttemptEnd.{AttemptEnd}
use Rattle.host_node.specs.declared.attempt.AttemptEnd.TheVariants.{NoneRan, Again, Unanswered}
use Rattle.host_node.specs.declared.no_more.NoMore.{NoMore as NoMoreState}
use Rattle.host_node.specs.declared.no_more.NoMore.TheVariants.{Unasked, Queued, Dropped}
use Rattle.proof_walk.specs.host_model.State.{HostState, node_of, with_node}
use Rattle.proof_walk.specs.host_model.Sessions.{open_command}
use Rattle.proof_walk.specs.host_model.Ends.{PartEnd, Good, Passed_over, Bad, part_end, after_part, after_task, after_end, attempt_ended, unanswered}
use Rattle.proof_work.specs.Work.{NodeWork, Work, part_by, told_in, times_due}
use Rattle.proof_work.proofs.Places.{set_each}
use Rattle.proof_work.proofs.Attempts.{passed_over}
use Rattle.proof_work.proofs.Nodes.{StayQuiet, blank, part_bad, part_good, steady_due, told_no_more, work_sleeps}
use Rattle.proof_work.proofs.Requests.{Ending, EndsWell, Works, part_other, part_same, settled, told_other, told_same}

-- ---- the end of an attempt changes commands alone

unanswered_works : (h : HostState) (command : Option ℕ) → Works h → Works (unanswered h command)
unanswered_works h None w = w
unanswered_works h (Some command) w = w

pub ended_works : (h : HostState) (end : AttemptEnd) (command : Option ℕ) → Works h → Works (attempt_ended h end command)
ended_works h NoneRan command w = w
ended_works h Again command w = w
ended_works h (Unanswered fell) command w = unanswered_works h command w

-- ---- what the end of a part is

true_if_passed : (more : Bool) (how : How) → part_end more how ≡ Passed_over → more ≡ true
true_if_passed true how e = refl
true_if_passed false (AtCallback CompleteOk) e = cc
true_if_passed false (AtCallback NoAck) e = cc
true_if_passed false (AtCallback Fail) e = cc
true_if_passed false (AtCallback NotIdle) e = cc
true_if_passed false (AtCallback NoRoute) e = cc
true_if_passed false (AtResponse response) e = cc
true_if_passed false (AtUpdate update capability) e = cc
true_if_passed false Refused e = cc
true_if_passed false Silent e = cc
true_if_passed false LinkFailed e = cc
true_if_passed false AbortSent e = cc

-- a node that is told has its place
pub due_of_past : (nodes : List NodeState) (n : ℕ) → length nodes ≤ n → times_due (node_among nodes n).no_more ≡ 0
due_of_past nodes n past = ap (λ (s : NodeState). times_due s.no_more) (get_or_past nodes n (unknown 0) past)

pub at_most_once : (m : NoMoreState) → times_due m ≤ 1
at_most_once Unasked = omega arith
at_most_once Queued = omega arith
at_most_once Dropped = omega arith

module _ (still : StayQuiet) where
  -- the node whose part ended is so now, and is to be told as often
  node_ends : (s : RequestsState) (nodes : List NodeState) (n : ℕ) (more : Bool) (payload : List ℕ) (state : NodeState) → Ending (Attempt n more payload) s nodes
      → NodeWork None state → times_due state.no_more ≡ times_due (node_among nodes n).no_more → Work s (with_node_among nodes n state)
  node_ends s nodes n more payload state x work due =
      settled s (with_node_among nodes n state) x.valid x.over
      (set_each (λ (m : ℕ) (one : NodeState). NodeWork None one) nodes n state (λ _. work) (λ _. blank None 0)
      (λ m other. subst (λ (part : Option Bool). NodeWork part (node_among nodes m)) (part_other m n more payload other) (x.each m)))
      (set_each (λ (m : ℕ) (one : NodeState). told_in m s.queue + 0 ≡ times_due one.no_more) nodes n state
      (λ _. x.once n ∙ sym due) (λ past. x.once n ∙ due_of_past nodes n past) (λ m _. x.once m))

  passes : (s : RequestsState) (nodes : List NodeState) (n : ℕ) (more : Bool) (payload : List ℕ) → more ≡ true → Ending (Attempt n more payload) s nodes → Work s nodes
  passes s nodes n more payload follows x = settled s nodes x.valid x.over each x.once
    where
      here : NodeWork (Some true) (node_among nodes n)
      here = subst (λ (part : Option Bool). NodeWork part (node_among nodes n)) (part_same n more payload ∙ ap (λ (b : Bool). Some b) follows) (x.each n)

      each : (m : ℕ) → NodeWork None (node_among nodes m)
      each m = elim (cases_eq m n) [
        | inl same ↦ subst (λ (k : ℕ). NodeWork None (node_among nodes k)) (sym same) (record { alive = passed_over (node_among nodes n) here.alive; quiet = here.quiet })
        | inr other ↦ subst (λ (part : Option Bool). NodeWork part (node_among nodes m)) (part_other m n more payload other) (x.each m)
      ]

  part_over : (g : HostState) (n : ℕ) (more : Bool) (payload : List ℕ) (end : PartEnd) (moment : Moment) → (end ≡ Passed_over → more ≡ true)
      → Ending (Attempt n more payload) g.requests g.nodes → Works (after_part g n end moment)
  part_over g n more payload Good moment follows x =
      node_ends g.requests g.nodes n more payload (after_sign (node_of g n)) x
      (part_good still (part_by n (Attempt n more payload)) (node_of g n) (x.each n)) (steady_due (node_of g n) node_succeeds tt (x.each n).quiet)
  part_over g n more payload Passed_over moment follows x = passes g.requests g.nodes n more payload (follows refl) x
  part_over g n more payload Bad moment follows x =
      ended_works (with_node g n (after_attempt_end (node_of g n) moment)) (attempt_end (node_of g n)) (open_command (node_of g n))
      (node_ends g.requests g.nodes n more payload (after_attempt_end (node_of g n) moment) x
      (part_bad still (part_by n (Attempt n more payload)) (node_of g n) moment (x.each n)) (steady_due (node_of g n) (node_ends_attempt moment) tt (x.each n).quiet))

  -- the node was told that there is no more for it
  told_over : (s : RequestsState) (nodes : List NodeState) (n : ℕ) → Ending (Housekeeping (NoMore n)) s nodes → Work s (with_node_among nodes n (after_no_more_end (node_among nodes n)))
  told_over s nodes n x =
      let state = node_among nodes n in
      settled s (with_node_among nodes n (after_no_more_end state)) x.valid x.over
      (set_each (λ (m : ℕ) (one : NodeState). NodeWork None one) nodes n (after_no_more_end state) (λ _. work_sleeps still None state (x.each n)) (λ _. blank None 0) (λ m _. x.each m))
      (set_each (λ (m : ℕ) (one : NodeState). told_in m s.queue + 0 ≡ times_due one.no_more) nodes n (after_no_more_end state)
      (λ _. omega (arith, x.once n, told_same n, at_most_once state.no_more, told_no_more state))
      (λ past. absurd (omega (arith, x.once n, told_same n, due_of_past nodes n past)))
      (λ m other. omega (arith, x.once m, told_other m n other)))

  task_over : (g : HostState) (task : Task) → Ending (Housekeeping task) g.requests g.nodes → Works (after_task g task)
  task_over g (NoMore n) x = told_over g.requests g.nodes n x
  task_over g task x = settled g.requests g.nodes x.valid x.over x.each x.once

  over : (g : HostState) (purpose : Purpose) (how : How) (moment : Moment) → Ending purpose g.requests g.nodes → Works (after_end g (record { purpose = purpose; how = how }) moment)
  over g (Attempt n more payload) how moment x = part_over g n more payload (part_end more how) moment (true_if_passed more how) x
  over g (Housekeeping task) how moment x = task_over g task x
  over g Abort how moment x = settled g.requests g.nodes x.valid x.over x.each x.once

  pub ends_well : (h : HostState) (moment : Moment) → EndsWell h moment
  ends_well h moment s u how x = over (record h { requests = s }) u.purpose how moment x
