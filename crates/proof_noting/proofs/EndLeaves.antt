-- What the end of a request, by a frame, an answer or a tick, leaves of a host and of its nodes: which stay as they were, and of which nothing is left to be sealed.
use Rattle.std.specs.Prelude.{nat_lt}
use Rattle.std.proofs.Common.{◌≡◌, ℕ, ◌+◌, ◌==◌, Bool, true, false, if◌then◌else◌, List, [], ◌∷◌, Option, Some, None, refl, sym, ap, ◌∙◌, subst, arith}
use Rattle.std.proofs.lemmas.Bool.{and_right, eq-eqb, eqb-true}
use Rattle.supervision.specs.Host.{open_session}
use Rattle.chip_functions.specs.Field.{IsNode}
use Rattle.host_requests.specs.Events.{RequestsEvent, end_at}
use Rattle.host_requests.specs.Events.RequestsEvent.{CallsBack, Fails, IsSent, Responds, Ticks, Updates}
use Rattle.host_requests.specs.Next.{at_callback, at_response, at_sent, at_tick, at_update, next_from, went_on}
use Rattle.host_requests.specs.State.{RequestsState}
use Rattle.host_requests.specs.declared.end.End.{End}
use Rattle.host_requests.specs.declared.end.How.{How}
use Rattle.host_requests.specs.declared.end.How.TheVariants.{LinkFailed}
use Rattle.host_requests.specs.declared.next.Next.{Next}
use Rattle.host_requests.specs.declared.next.Next.TheVariants.{Ends, GoesOn}
use Rattle.host_requests.specs.declared.task.Task.{Task}
use Rattle.host_requests.specs.declared.task.Task.TheVariants.{NoMore}
use Rattle.host_requests.specs.declared.task.Purpose.{Purpose}
use Rattle.host_requests.specs.declared.task.Purpose.TheVariants.{Abort, Attempt, Housekeeping}
use Rattle.host_requests.specs.declared.under_way.UnderWay.{UnderWay}
use Rattle.host_node.specs.Events.{NodeEvent}
use Rattle.host_node.specs.Events.NodeEvent.{Ends_attempt}
use Rattle.host_node.specs.TableState.{node_of as node_among}
use Rattle.host_node.specs.Facts.{NodeFacts, SeriesFacts}
use Rattle.host_node.specs.State.{NodeState, is_false, is_running}
use Rattle.host_node.specs.Steps.{after_attempt_end, after_attempts, after_no_more, after_sign, after_sleep, asleep, attempt_end, falls_asleep, next_due, series_over, with_wait, without_attempt}
use Rattle.host_node.specs.declared.attempt.AttemptEnd.{AttemptEnd}
use Rattle.host_node.specs.declared.attempt.AttemptEnd.TheVariants.{Again, NoneRan, Unanswered}
use Rattle.host_node.specs.declared.attempt.Moment.{Moment}
use Rattle.host_node.specs.declared.no_more.NoMore.TheVariants.{Unasked}
use Rattle.host_node.specs.declared.series.Series.{Series}
use Rattle.host_node.specs.declared.series.Series.TheVariants.{Idle, Due, Running}
use Rattle.host_model.specs.State.{HostState, node_of}
use Rattle.host_model.specs.Sessions.{open_command}
use Rattle.host_model.specs.After.{after, requests_do}
use Rattle.host_model.specs.Ends.{Bad, Good as part_good, PartEnd, Passed_over, after_end_if, after_part, after_task, attempt_ended, part_end}
use Rattle.host_model.specs.Events.{HostEvent, Requests_do}
use Rattle.host_model.specs.Facts.{HostFacts}
use Rattle.proof_host.proofs.Commands.{taken_set}
use Rattle.proof_hearing.proofs.Doings.{Doing, did, does_all, does_at, end_does, node_after, nodes_are, part_does, purpose_does, task_does}
use Rattle.proof_hearing.specs.proof_queue.proof_attempts.proof_work.Doing.{IsTold}
use Rattle.proof_hearing.proofs.Alike.{Alike, Cleared, other_node}
use Rattle.proof_hearing.proofs.BooksGo.{KeepsOrders}

-- ---- what an end leaves of a host

pub record EndLeaves (h g : HostState) : Type 0 where
  pub nonces : g.nonces ≡ h.nonces
  pub queue : g.requests.queue ≡ h.requests.queue
  pub orders : KeepsOrders h g

queue_from : (s : RequestsState) (next : UnderWay → Next) (o : Option UnderWay) → (next_from s next o).queue ≡ s.queue
queue_from s next None = refl
queue_from s next (Some u) = by (next u)
  where
    by : (n : Next) → (went_on s u n).queue ≡ s.queue
    by (GoesOn progress) = refl
    by (Ends how) = refl

pub queue_told : (h : HostState) (event : RequestsEvent) → IsTold event → (requests_do h event).requests.queue ≡ h.requests.queue
queue_told h IsSent told = queue_from h.requests at_sent h.requests.under_way
queue_told h Fails told = queue_from h.requests (λ u. Ends LinkFailed) h.requests.under_way
queue_told h (Responds response) told = queue_from h.requests (at_response response) h.requests.under_way
queue_told h (CallsBack id status) told = queue_from h.requests (at_callback h.requests.last_id id status) h.requests.under_way
queue_told h (Updates update) told = queue_from h.requests (at_update h.requests.first update) h.requests.under_way
queue_told h Ticks told = queue_from h.requests at_tick h.requests.under_way
queue_told h event told = absurd told

same_leaves : (h : HostState) → EndLeaves h h
same_leaves h = record { nonces = refl; queue = refl; orders = λ number taken found. found }

pub attempt_leaves : (h g : HostState) (end : AttemptEnd) (command : Option ℕ) → EndLeaves h g → EndLeaves h (attempt_ended g end command)
attempt_leaves h g NoneRan command so = so
attempt_leaves h g Again command so = so
attempt_leaves h g (Unanswered fell) None so = so
attempt_leaves h g (Unanswered fell) (Some c) so = record { nonces = so.nonces; queue = so.queue; orders = λ number taken found. taken_set g.commands c _ number ∙ so.orders number taken found }

part_leaves : (h : HostState) (n : ℕ) (end : PartEnd) (moment : Moment) → EndLeaves h (after_part h n end moment)
part_leaves h n part_good moment = record { nonces = refl; queue = refl; orders = λ number taken found. found }
part_leaves h n Passed_over moment = same_leaves h
part_leaves h n Bad moment = attempt_leaves h _ (attempt_end (node_of h n)) (open_command (node_of h n)) (record { nonces = refl; queue = refl; orders = λ number taken found. found })

task_leaves : (h : HostState) (task : Task) → EndLeaves h (after_task h task)
task_leaves h (NoMore n) = record { nonces = refl; queue = refl; orders = λ number taken found. found }
task_leaves h task = same_leaves h

end_leaves : (h : HostState) (o : Option End) (moment : Moment) → EndLeaves h (after_end_if h o moment)
end_leaves h None moment = same_leaves h
end_leaves h (Some end) moment = by end.purpose end.how
  where
    by : (p : Purpose) (how : How) → EndLeaves h (after_end_if h (Some (record { purpose = p; how = how })) moment)
    by (Attempt n more payload) how = part_leaves h n (part_end more how) moment
    by (Housekeeping task) how = task_leaves h task
    by Abort how = same_leaves h

pub request_leaves : (h : HostState) (event : RequestsEvent) (moment : Moment) → IsTold event → EndLeaves h (after h (Requests_do event moment))
request_leaves h event moment told =
    let ended = end_leaves (requests_do h event) (end_at h.requests event) moment in
    record { nonces = ended.nonces; queue = ended.queue ∙ queue_told h event told; orders = λ number taken found. ended.orders number taken found }

-- ---- and of its nodes

-- nothing is left to be sealed, and the same session is open
pub record CutOff (old new : NodeState) : Type 0 where
  pub cleared : Cleared old new
  pub opened : open_session new.book ≡ open_session old.book
  pub commands : new.book.commands ≡ old.book.commands

pub itself : (s : NodeState) → Alike s s
itself s = record { seen = refl; text = refl; pending = refl; opened = refl; commands = refl }

sign_alike : (s : NodeState) → Alike s (after_sign s)
sign_alike s = by (is_running s.series)
  where
    by : (b : Bool) → Alike s (if b then with_wait s 100 else s)
    by true = record { seen = refl; text = refl; pending = refl; opened = refl; commands = refl }
    by false = itself s

pub sleep_alike : (old s : NodeState) → Alike old s → Alike old (after_sleep s)
sleep_alike old s so = by s.listens
  where
    by : (b : Bool) → Alike old (if b then s else asleep s)
    by true = so
    by false = record { seen = so.seen; text = so.text; pending = so.pending; opened = so.opened; commands = so.commands }

-- one that was let sleep does not
pub slept_not : (t : NodeState) → falls_asleep (after_sleep t) ≡ false
slept_not t = by t.listens refl
  where
    by : (b : Bool) → t.listens ≡ b → falls_asleep (if b then t else asleep t) ≡ false
    by true is = and_right t.awake (is_false t.listens) (ap is_false is)
    by false is = refl

sleep_cut : (old s : NodeState) → CutOff old s → CutOff old (after_sleep s)
sleep_cut old s so = by s.listens
  where
    by : (b : Bool) → CutOff old (if b then s else asleep s)
    by true = so
    by false = record { cleared = record { seen = so.cleared.seen; text = so.cleared.text; pending = so.cleared.pending }; opened = so.opened; commands = so.commands }

pub attempts_cut : (s : NodeState) (attempts : ℕ) (moment : Moment) → CutOff s (after_attempts (without_attempt s) attempts moment)
attempts_cut s attempts moment = by (nat_lt attempts 3)
  where
    by : (b : Bool) → CutOff s (if b then next_due (without_attempt s) attempts else after_sleep (series_over (without_attempt s) attempts moment))
    by true = record { cleared = record { seen = refl; text = refl; pending = refl }; opened = refl; commands = refl }
    by false =
        sleep_cut s (series_over (without_attempt s) attempts moment) (record { cleared = record { seen = refl; text = refl; pending = refl }; opened = refl; commands = refl })

pub attempt_cut : (s : NodeState) (moment : Moment) → NodeFacts s → CutOff s (after_attempt_end s moment)
attempt_cut s moment facts = by s.series facts.series
  where
    by : (x : Series) → SeriesFacts x s.book s.attempt_wait s.again_wait s.next_segment s.segments s.text s.pending
        → CutOff s (if is_running x then after_attempts (without_attempt s) (s.book.attempts + 1) moment else s)
    by Idle so = record { cleared = record { seen = refl; text = so.1.no_text; pending = so.1.no_pending }; opened = refl; commands = refl }
    by Due so = record { cleared = record { seen = refl; text = so.2.no_text; pending = so.2.no_pending }; opened = refl; commands = refl }
    by Running so = attempts_cut s (s.book.attempts + 1) moment

either_alike : (b : Bool) (s x y : NodeState) → Alike s x → Alike s y → Alike s (if b then x else y)
either_alike true s x y one other = one
either_alike false s x y one other = other

-- ---- what the end of a request does to them

-- a task
pub task_left : (m : ℕ) (s : NodeState) (task : Task) → Alike s (does_at m s (task_does task))
task_left m s (NoMore k) =
    either_alike (k == m) s (after_sleep (after_no_more s Unasked)) s
    (sleep_alike s (after_no_more s Unasked) (record { seen = refl; text = refl; pending = refl; opened = refl; commands = refl })) (itself s)
task_left m s task = itself s

-- a part of an attempt that ends it
pub bad_left : (k : ℕ) (s : NodeState) (moment : Moment) → NodeFacts s → CutOff s (does_at k s (part_does k Bad moment))
bad_left k s moment facts = subst (λ (b : Bool). CutOff s (if b then after_attempt_end s moment else s)) (sym (eq-eqb k k refl)) (attempt_cut s moment facts)

-- it stays, or its attempt has ended badly
pub data NodeEnds (p : Purpose) (how : How) (m : ℕ) (s t : NodeState) : Type 0 where
  Stays_so : Alike s t → NodeEnds p how m s t
  Is_cut : (more : Bool) (payload : List ℕ) → p ≡ Attempt m more payload → part_end more how ≡ Bad → CutOff s t → NodeEnds p how m s t

-- where an event does nothing to any node each stays
pub none_other : (h : HostState) (event : HostEvent) → did h event ≡ [] → (m : ℕ) → node_of (after h event) m ≡ node_of h m
none_other h event is m = ap (λ (l : List NodeState). node_among l m) (nodes_are h event) ∙ ap (λ (doings : List Doing). node_among (does_all h.nodes doings) m) is

-- all other nodes stay, where an event does something to one
pub one_other : (h : HostState) (event : HostEvent) (k : ℕ) (one : NodeEvent) → did h event ≡ record { node = k; event = one } ∷ [] → (m : ℕ) → (m ≡ k → ⊥) → Alike (node_of h m) (node_of (after h event) m)
one_other h event k one is m other =
    subst (λ (s : NodeState). Alike (node_of h m) s)
    (sym (ap (λ (l : List NodeState). node_among l m) (nodes_are h event) ∙ ap (λ (doings : List Doing). node_among (does_all h.nodes doings) m) is ∙ other_node h k one m other)) (itself (node_of h m))

module _ (h : HostState) (facts : HostFacts h) (event : RequestsEvent) (moment : Moment) (p : Purpose) (how : How) (e : end_at h.requests event ≡ Some (record { purpose = p; how = how })) where
  abbrev g : HostState
  g = after h (Requests_do event moment)

  did_is : did h (Requests_do event moment) ≡ purpose_does p how moment
  did_is = ap (λ (o : Option End). end_does o moment) e

  node_is : (m : ℕ) → IsNode m → node_of g m ≡ does_at m (node_of h m) (purpose_does p how moment)
  node_is m is =
      let to = is.1 in
      let places = facts.nodes.places in
      node_after h (Requests_do event moment) m (omega (arith, to, places)) ∙ ap (λ (l : List Doing). does_at m (node_of h m) l) did_is

  node_by : (m : ℕ) (q : Purpose) → p ≡ q → NodeEnds p how m (node_of h m) (does_at m (node_of h m) (purpose_does q how moment))
  node_by m (Attempt n more payload) is = by (part_end more how) refl
    where
      bad : (b : Bool) → (n == m) ≡ b → part_end more how ≡ Bad → NodeEnds p how m (node_of h m) (if b then after_attempt_end (node_of h m) moment else node_of h m)
      bad true same ends = Is_cut more payload (is ∙ ap (λ (k : ℕ). Attempt k more payload) (eqb-true n m same)) ends (attempt_cut (node_of h m) moment (facts.nodes.facts m))
      bad false same ends = Stays_so (itself (node_of h m))

      by : (part : PartEnd) → part_end more how ≡ part → NodeEnds p how m (node_of h m) (does_at m (node_of h m) (part_does n part moment))
      by part_good ends = Stays_so (either_alike (n == m) (node_of h m) (after_sign (node_of h m)) (node_of h m) (sign_alike (node_of h m)) (itself (node_of h m)))
      by Passed_over ends = Stays_so (itself (node_of h m))
      by Bad ends = bad (n == m) refl ends
  node_by m (Housekeeping task) is = Stays_so (task_left m (node_of h m) task)
  node_by m Abort is = Stays_so (itself (node_of h m))

  pub node_ends : (m : ℕ) → IsNode m → NodeEnds p how m (node_of h m) (node_of g m)
  node_ends m is = subst (λ (t : NodeState). NodeEnds p how m (node_of h m) t) (sym (node_is m is)) (node_by m p refl)

  module _ (n : ℕ) (more : Bool) (payload : List ℕ) (purpose : p ≡ Attempt n more payload) where
    did_part : (part : PartEnd) → part_end more how ≡ part → did h (Requests_do event moment) ≡ part_does n part moment
    did_part part is = did_is ∙ ap (λ (q : Purpose). purpose_does q how moment) purpose ∙ ap (λ (x : PartEnd). part_does n x moment) is

    -- where an attempt ends badly, and where a segment that others follow is passed over
    pub cut_at : IsNode n → part_end more how ≡ Bad → CutOff (node_of h n) (node_of g n)
    cut_at is bad =
        subst (λ (t : NodeState). CutOff (node_of h n) t) (sym (node_is n is ∙ ap (λ (l : List Doing). does_at n (node_of h n) l) (sym did_is ∙ did_part Bad bad)))
        (bad_left n (node_of h n) moment (facts.nodes.facts n))

    pub others_at : part_end more how ≡ Bad → (m : ℕ) → (m ≡ n → ⊥) → Alike (node_of h m) (node_of g m)
    others_at bad m other = one_other h (Requests_do event moment) n (Ends_attempt moment) (did_part Bad bad) m other

    pub kept_at : part_end more how ≡ Passed_over → (m : ℕ) → node_of g m ≡ node_of h m
    kept_at passed m = none_other h (Requests_do event moment) (did_part Passed_over passed) m
