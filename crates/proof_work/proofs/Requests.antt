-- What requests that wait, begin or are told of something make of a host's work.
use Rattle.std.proofs.Common.{◌≡◌, ℕ, ◌+◌, ◌==◌, Bool, true, false, if◌then◌else◌, Option, Some, None, List, [], ◌∷◌, ◌++◌, refl, sym, ap, subst, arith}
use Rattle.std.proofs.lemmas.Bool.{eq-eqb, ne_eqb}
use Rattle.chip_functions.specs.declared.notice.Update.{Update}
use Rattle.host_requests.specs.State.{RequestsState, begun}
use Rattle.host_requests.specs.Next.{at_update, is_update_of, finished, went_on, next_from, end_of, end_from}
use Rattle.host_requests.specs.Events.{with_tasks, task_begun}
use Rattle.host_requests.specs.Facts.{IsRequests}
use Rattle.host_requests.specs.declared.end.How.{How}
use Rattle.host_requests.specs.declared.end.How.TheVariants.{AtUpdate}
use Rattle.host_requests.specs.declared.next.Next.{Next}
use Rattle.host_requests.specs.declared.next.Next.TheVariants.{GoesOn, Ends}
use Rattle.host_requests.specs.declared.task.Task.{Task}
use Rattle.host_requests.specs.declared.task.Task.TheVariants.{NoMore, Second}
use Rattle.host_requests.specs.declared.task.Purpose.{Purpose}
use Rattle.host_requests.specs.declared.task.Purpose.TheVariants.{Housekeeping, Attempt, Abort}
use Rattle.host_requests.specs.declared.under_way.Progress.{Progress}
use Rattle.host_requests.specs.declared.under_way.UnderWay.{UnderWay}
use Rattle.host_node.specs.State.{NodeState}
use Rattle.host_node.specs.TableState.{node_of}
use Rattle.host_node.specs.declared.attempt.Moment.{Moment}
use Rattle.proof_walk.specs.host_model.State.{HostState}
use Rattle.proof_walk.specs.host_model.Ends.{after_end_if}
use Rattle.proof_walk.specs.host_model.Did.{one_if}
use Rattle.proof_work.specs.Doing.{IsAskedFor}
use Rattle.proof_work.specs.Work.{NodeWork, Work, part_by, part_of, told_at, told_by, told_for, told_in, times_due}

-- ---- whose part is under way, and who is told

test_is : {X : Type 0} (test value : Bool) (a b : X) → test ≡ value → (if test then a else b) ≡ (if value then a else b)
test_is test value a b is = ap (λ (t : Bool). if t then a else b) is

pub part_same : (n : ℕ) (more : Bool) (payload : List ℕ) → part_by n (Attempt n more payload) ≡ Some more
part_same n more payload = test_is (n == n) true (Some more) None (eq-eqb n n refl)

pub part_other : (m n : ℕ) (more : Bool) (payload : List ℕ) → (m ≡ n → ⊥) → part_by m (Attempt n more payload) ≡ None
part_other m n more payload other = test_is (n == m) false (Some more) None (ne_eqb n m (λ e. other (sym e)))

pub told_same : (n : ℕ) → told_by n (NoMore n) ≡ 1
told_same n = ap one_if (eq-eqb n n refl)

pub told_other : (m n : ℕ) → (m ≡ n → ⊥) → told_by m (NoMore n) ≡ 0
told_other m n other = ap one_if (ne_eqb n m (λ e. other (sym e)))

pub told-append : (m : ℕ) (a b : List Task) → told_in m (a ++ b) ≡ told_in m a + told_in m b
told-append m [] b = omega arith
told-append m (task ∷ a) b = omega (arith, told-append m a b)

pub asked_tells_none : (m : ℕ) (task : Task) → IsAskedFor task → told_in m (task ∷ []) ≡ 0
asked_tells_none m (NoMore n) asked = absurd asked
asked_tells_none m task asked = refl

-- ---- tasks that wait

-- that tell nobody that there is no more
pub pushed : (s : RequestsState) (tasks : List Task) (nodes : List NodeState) → IsRequests (with_tasks s tasks) → ((m : ℕ) → told_in m tasks ≡ 0) → Work s nodes → Work (with_tasks s tasks) nodes
pushed s tasks nodes valid none w = record {
  valid = valid;
  each = w.each;
  once = λ m. omega (arith, told-append m s.queue tasks, none m, w.once m);
}

-- ---- a request begins, where none is under way

-- what is known then
pub alone_each : (s : RequestsState) (nodes : List NodeState) → s.under_way ≡ None → Work s nodes → (m : ℕ) → NodeWork None (node_of nodes m)
alone_each s nodes none w m = subst (λ (o : Option UnderWay). NodeWork (part_of m o) (node_of nodes m)) none (w.each m)

pub alone_once : (s : RequestsState) (nodes : List NodeState) → s.under_way ≡ None → Work s nodes → (m : ℕ) → told_in m s.queue + 0 ≡ times_due (node_of nodes m).no_more
alone_once s nodes none w m = subst (λ (o : Option UnderWay). told_in m s.queue + told_at m o ≡ times_due (node_of nodes m).no_more) none (w.once m)

pub abort_begun : (s : RequestsState) (nodes : List NodeState) → IsRequests (begun (record s { owes = false }) Abort) → s.under_way ≡ None → Work s nodes
    → Work (begun (record s { owes = false }) Abort) nodes
abort_begun s nodes valid none w = record { valid = valid; each = alone_each s nodes none w; once = alone_once s nodes none w }

pub front_begun : (s : RequestsState) (queue : List Task) (nodes : List NodeState) → s.queue ≡ queue → IsRequests (task_begun s queue) → s.under_way ≡ None → Work s nodes → Work (task_begun s queue) nodes
front_begun s [] nodes e valid none w = w
front_begun s (task ∷ rest) nodes e valid none w = record {
  valid = valid;
  each = alone_each s nodes none w;
  once = λ m.
      let before : told_in m (task ∷ rest) + 0 ≡ times_due (node_of nodes m).no_more
      = subst (λ (queue : List Task). told_in m queue + 0 ≡ times_due (node_of nodes m).no_more) e (alone_once s nodes none w m) in
      omega (arith, before);
}

-- ---- a request ends

-- no request is under way, and what the one that ended brings is still to come to its node
pub record Ending (purpose : Purpose) (requests : RequestsState) (nodes : List NodeState) : Type 0 where
  pub valid : IsRequests requests
  pub over : requests.under_way ≡ None
  pub each : (m : ℕ) → NodeWork (part_by m purpose) (node_of nodes m)
  pub once : (m : ℕ) → told_in m requests.queue + told_for m purpose ≡ times_due (node_of nodes m).no_more

-- nothing of it is left
pub settled : (s : RequestsState) (nodes : List NodeState) → IsRequests s → s.under_way ≡ None → ((m : ℕ) → NodeWork None (node_of nodes m))
    → ((m : ℕ) → told_in m s.queue + 0 ≡ times_due (node_of nodes m).no_more) → Work s nodes
settled s nodes valid none each once = record {
  valid = valid;
  each = λ m. subst (λ (o : Option UnderWay). NodeWork (part_of m o) (node_of nodes m)) (sym none) (each m);
  once = λ m. subst (λ (o : Option UnderWay). told_in m s.queue + told_at m o ≡ times_due (node_of nodes m).no_more) (sym none) (once m);
}

-- ---- what the requests are told

abbrev pub Works : HostState → Type 0
Works h = Work h.requests h.nodes

-- a request that ends leaves work, whatever it was for
abbrev pub EndsWell : HostState → Moment → Type 0
EndsWell h moment = (s : RequestsState) (u : UnderWay) (how : How) → Ending u.purpose s h.nodes → Works (after_end_if (record h { requests = s }) (Some (record { purpose = u.purpose; how = how })) moment)

module _ (h : HostState) (moment : Moment) (ends : EndsWell h moment) where
  one_told : (u : UnderWay) (next : Next) → h.requests.under_way ≡ Some u → IsRequests (went_on h.requests u next) → Works h
      → Works (after_end_if (record h { requests = went_on h.requests u next }) (end_of u next) moment)
  one_told u (GoesOn progress) is valid w = record {
    valid = valid;
    each = λ m. subst (λ (o : Option UnderWay). NodeWork (part_of m o) (node_of h.nodes m)) is (w.each m);
    once = λ m. subst (λ (o : Option UnderWay). told_in m h.requests.queue + told_at m o ≡ times_due (node_of h.nodes m).no_more) is (w.once m);
  }
  one_told u (Ends how) is valid w = ends (finished h.requests u how) u how (record {
    valid = valid;
    over = refl;
    each = λ m. subst (λ (o : Option UnderWay). NodeWork (part_of m o) (node_of h.nodes m)) is (w.each m);
    once = λ m. subst (λ (o : Option UnderWay). told_in m h.requests.queue + told_at m o ≡ times_due (node_of h.nodes m).no_more) is (w.once m);
  })

  pub told_next : (next : UnderWay → Next) (o : Option UnderWay) → h.requests.under_way ≡ o → IsRequests (next_from h.requests next o) → Works h
      → Works (after_end_if (record h { requests = next_from h.requests next o }) (end_from next o) moment)
  told_next next None is valid w = w
  told_next next (Some u) is valid w = one_told u (next u) is valid w

-- ---- an update ends the second request of an interview alone, which brings no node anything

update_by : (g : HostState) (update : Update) (first : Option ℕ) (moment : Moment) (n : ℕ) (progress : Progress) (ends : Bool)
    → after_end_if g (end_of (record { purpose = Housekeeping (Second n); progress = progress }) (if ends then Ends (AtUpdate update first) else GoesOn progress)) moment ≡ g
update_by g update first moment n progress true = refl
update_by g update first moment n progress false = refl

update_at : (g : HostState) (update : Update) (first : Option ℕ) (moment : Moment) (purpose : Purpose) (progress : Progress)
    → after_end_if g (end_of (record { purpose = purpose; progress = progress }) (at_update first update (record { purpose = purpose; progress = progress }))) moment ≡ g
update_at g update first moment (Housekeeping (Second n)) progress = update_by g update first moment n progress (is_update_of n update)
update_at g update first moment purpose progress = refl

pub update_leaves : (g : HostState) (update : Update) (first : Option ℕ) (moment : Moment) (o : Option UnderWay) → after_end_if g (end_from (at_update first update) o) moment ≡ g
update_leaves g update first moment None = refl
update_leaves g update first moment (Some u) = update_at g update first moment u.purpose u.progress
