-- What leaves the books of a host as they are, and the request under way: what a line asks, and what a pump does that submits no request.
use Rattle.std.proofs.Common.{◌≡◌, ℕ, ◌+◌, zero, suc, true, inl, inr, List, [], ◌∷◌, ◌++◌, length, refl, sym, ap, ◌∙◌, subst, append-nil}
use Rattle.std.specs.Prelude.{Option, Some, None, slice_get}
use Rattle.std.proofs.lemmas.Bool.{cases_eq, cases_lt}
use Rattle.std.proofs.lemmas.Grind.{flat_map-append}
use Rattle.std.proofs.lemmas.List.{set_past}
use Rattle.chip_functions.specs.Field.{IsNode}
use Rattle.zw_base.specs.declared.order.Order.{Order}
use Rattle.zw_text.specs.declared.entry.Entry.{Entry}
use Rattle.zw_text.specs.declared.entry.Outcome.TheVariants as outcome
use Rattle.zw_text.specs.declared.line.Line.{Line}
use Rattle.zw_text.specs.declared.line.Line.TheVariants as lines
use Rattle.law_time.specs.Heeds.{Heeds}
use Rattle.host_keep.specs.Kept.{Taken}
use Rattle.host_orders.specs.declared.carriage.Carriage.{Carriage}
use Rattle.host_node.specs.Events.{NodeEvent, after as after_node}
use Rattle.host_node.specs.Events.NodeEvent.{Accepts as node_accepts, Blocks as node_blocks, Cancels as node_cancels, Drops_no_more as node_drops_no_more, Joins as node_joins, Puts as node_puts, Queues_no_more as node_queues_no_more}
use Rattle.host_node.specs.State.{NodeState}
use Rattle.host_node.specs.Steps.{falls_asleep}
use Rattle.host_node.specs.TableState.{node_of as node_among}
use Rattle.host_requests.specs.Events.RequestsEvent.{Pushes, PushesInterview, PushesProbe}
use Rattle.host_requests.specs.Events.{after as after_request}
use Rattle.host_requests.specs.State.{RequestsState}
use Rattle.host_requests.specs.declared.task.Task.{Task}
use Rattle.host_requests.specs.declared.task.Task.TheVariants as task
use Rattle.host_model.specs.After.{after, node_does, node_for}
use Rattle.host_model.specs.Events.{HostEvent, Accepts, Begin_unkept, Cancels, Drops_no_more, Joins, Queues, Queues_interview, Queues_no_more, Queues_probe}
use Rattle.host_model.specs.State.{Command, HostState, node_of, with_outcome}
use Rattle.proof_host.specs.Tables.{taken_at, taken_by}
use Rattle.proof_host.proofs.Commands.{taken_set}
use Rattle.proof_hearing.specs.Books.{BooksSo, nonce_to, nonces_to}
use Rattle.proof_hearing.specs.proof_queue.proof_attempts.proof_requests.law_host.Course.{Course}
use Rattle.proof_hearing.specs.proof_queue.proof_attempts.proof_requests.law_host.Nonces.{is_late}
use Rattle.proof_hearing.specs.proof_queue.proof_attempts.proof_requests.proof_alone.Steps.{IsAskedBy}
use Rattle.proof_hearing.proofs.Alike.{Alike, here_node, occasion_alike, other_node, same_alike, then_alike}
use Rattle.proof_hearing.proofs.BooksGo.{KeepsOrders, books_on}

pub record LeavesBooks (h g : HostState) : Type 0 where
  pub nonces : g.nonces ≡ h.nonces
  pub queue : (n : ℕ) → nonces_to n g.requests.queue ≡ nonces_to n h.requests.queue
  pub alike : (n : ℕ) → Alike (node_of h n) (node_of g n)
  pub orders : KeepsOrders h g
  pub under_way : g.requests.under_way ≡ h.requests.under_way

-- with attempts that are late as they were
pub books_left : (key : List ℕ) (heeds : Heeds) (past later : List Entry) (h g : HostState) → LeavesBooks h g → ((n : ℕ) → IsNode n → is_late heeds past n ≡ true → is_late heeds later n ≡ true)
    → (d : Course) → BooksSo key heeds past h d → BooksSo key heeds later g d
books_left key heeds past later h g leaves late d books =
    books_on key heeds past later h d.books d.offered d.opened d.sealed books g leaves.nonces leaves.queue (λ n is. leaves.alike n) leaves.orders late

pub same_left : (h : HostState) → LeavesBooks h h
same_left h = record {
  nonces = refl;
  queue = λ n. refl;
  alike = λ n. same_alike (node_of h n) (node_of h n) refl;
  orders = λ number taken found. found;
  under_way = refl;
}

then_left : (h g k : HostState) → LeavesBooks h g → LeavesBooks g k → LeavesBooks h k
then_left h g k first next = record {
  nonces = next.nonces ∙ first.nonces;
  queue = λ n. next.queue n ∙ first.queue n;
  alike = λ n. then_alike (node_of h n) (node_of g n) (node_of k n) (first.alike n) (next.alike n);
  orders = λ number taken found. next.orders number taken (first.orders number taken found);
  under_way = next.under_way ∙ first.under_way;
}

-- ---- one part of a host

-- what holds of a node and itself, and of that to which something happens, holds of each
left_at : (Holds : NodeState → NodeState → Type 0) → ((s : NodeState) → Holds s s) → (h : HostState) (n : ℕ) (event : NodeEvent) (m : ℕ) → Holds (node_of h n) (after_node (node_of h n) event)
    → Holds (node_of h m) (node_of (node_does h n event) m)
left_at Holds itself h n event m does = elim (cases_eq m n) [
  | inl is ↦ elim (cases_lt n (length h.nodes)) [
    | inl within ↦ subst (λ (k : ℕ). Holds (node_of h k) (node_of (node_does h n event) k)) (sym is)
        (subst (λ (s : NodeState). Holds (node_of h n) s) (sym (here_node h n event within)) does)
    | inr past ↦ subst (λ (l : List NodeState). Holds (node_of h m) (node_among l m)) (sym (set_past h.nodes n (after_node (node_of h n) event) past)) (itself (node_of h m))
  ]
  | inr other ↦ subst (λ (s : NodeState). Holds (node_of h m) s) (sym (other_node h n event m other)) (itself (node_of h m))
]

node_alike : (n : NodeState) → Alike n n
node_alike n = same_alike n n refl

node_left : (h : HostState) (n : ℕ) (event : NodeEvent) → Alike (node_of h n) (after_node (node_of h n) event) → LeavesBooks h (node_does h n event)
node_left h n event alike = record {
  nonces = refl;
  queue = λ m. refl;
  alike = λ m. left_at Alike node_alike h n event m alike;
  orders = λ number taken found. found;
  under_way = refl;
}

commands_left : (h : HostState) (commands : List Command) → ((number : ℕ) (taken : Taken) → taken_at h.commands number ≡ Some taken → taken_at commands number ≡ Some taken)
    → LeavesBooks h (record h { commands = commands })
commands_left h commands orders = record {
  nonces = refl;
  queue = λ n. refl;
  alike = λ n. same_alike (node_of h n) (node_of h n) refl;
  orders = orders;
  under_way = refl;
}

requests_left : (h : HostState) (requests : RequestsState) (tasks : List Task) → requests.queue ≡ h.requests.queue ++ tasks → requests.under_way ≡ h.requests.under_way
    → ((n : ℕ) → nonces_to n tasks ≡ []) → LeavesBooks h (record h { requests = requests })
requests_left h requests tasks queue under none = record {
  nonces = refl;
  queue = λ n. ap (nonces_to n) queue ∙ flat_map-append (nonce_to n) h.requests.queue tasks ∙ ap (λ (l : List (List ℕ)). nonces_to n h.requests.queue ++ l) (none n)
      ∙ append-nil (nonces_to n h.requests.queue);
  alike = λ n. same_alike (node_of h n) (node_of h n) refl;
  orders = λ number taken found. found;
  under_way = under;
}

-- an order that was taken stays where one more is
push_kept : (commands : List Command) (one : Command) (at : ℕ) (taken : Taken) → taken_by (slice_get commands at) ≡ Some taken → taken_by (slice_get (commands ++ one ∷ []) at) ≡ Some taken
push_kept [] one at taken found = absurd (let bad : ◌≡◌ {A = Option Taken} None (Some taken) = found in cc)
push_kept (first ∷ rest) one zero taken found = found
push_kept (first ∷ rest) one (suc at) taken found = push_kept rest one at taken found

kept_pushed : (commands : List Command) (one : Command) (number : ℕ) (taken : Taken) → taken_at commands number ≡ Some taken → taken_at (commands ++ one ∷ []) number ≡ Some taken
kept_pushed commands one zero taken found = found
kept_pushed commands one (suc at) taken found = push_kept commands one at taken found

-- ---- what a line asks

accepts_left : (h : HostState) (order : Order) (carriage : Carriage) → LeavesBooks h (after h (Accepts order carriage))
accepts_left h order carriage =
    let one : Command = record { order = order; carriage = carriage; outcome = outcome.Waiting } in
    let g : HostState = record h { commands = h.commands ++ one ∷ []; store = (after h (Accepts order carriage)).store } in
    let k : HostState = node_does g order.node (node_puts (length h.commands + 1)) in
    then_left h g (after h (Accepts order carriage))
    (record {
      nonces = refl;
      queue = λ n. refl;
      alike = λ n. same_alike (node_of h n) (node_of h n) refl;
      orders = kept_pushed h.commands one;
      under_way = refl;
    })
    (then_left g k (after h (Accepts order carriage))
    (node_left g order.node (node_puts (length h.commands + 1)) (record { seen = refl; text = refl; pending = refl; opened = refl; commands = refl }))
    (node_left k order.node node_accepts (occasion_alike (node_of k order.node) (node_of k order.node) (node_alike (node_of k order.node)))))

cancels_left : (h : HostState) (command : ℕ) → LeavesBooks h (after h (Cancels command))
cancels_left h command =
    let g : HostState = node_does h (node_for h command) (node_cancels command) in
    then_left h g (after h (Cancels command)) (node_left h (node_for h command) (node_cancels command) (record { seen = refl; text = refl; pending = refl; opened = refl; commands = refl }))
    (commands_left g (with_outcome h.commands command outcome.Cancelled) (λ number taken found. taken_set h.commands command outcome.Cancelled number ∙ found))

joins_left : (h : HostState) (n : ℕ) → LeavesBooks h (after h (Joins n))
joins_left h n = node_left h n node_joins (record { seen = refl; text = refl; pending = refl; opened = refl; commands = refl })

queues_left : (h : HostState) (one : Task) → ((n : ℕ) → nonces_to n (one ∷ []) ≡ []) → LeavesBooks h (after h (Queues one))
queues_left h one none = requests_left h (after_request h.requests (Pushes one)) (one ∷ []) refl refl none

accepts_by : (h : HostState) (event : HostEvent) (order : Order) (carriage : Carriage) → event ≡ Accepts order carriage → LeavesBooks h (after h event)
accepts_by h event order carriage is = subst (λ (e : HostEvent). LeavesBooks h (after h e)) (sym is) (accepts_left h order carriage)

cancels_by : (h : HostState) (event : HostEvent) (command : ℕ) → event ≡ Cancels command → LeavesBooks h (after h event)
cancels_by h event command is = subst (λ (e : HostEvent). LeavesBooks h (after h e)) (sym is) (cancels_left h command)

joins_by : (h : HostState) (event : HostEvent) (n : ℕ) → event ≡ Joins n → LeavesBooks h (after h event)
joins_by h event n is = subst (λ (e : HostEvent). LeavesBooks h (after h e)) (sym is) (joins_left h n)

queues_by : (h : HostState) (event : HostEvent) (one : Task) → event ≡ Queues one → ((n : ℕ) → nonces_to n (one ∷ []) ≡ []) → LeavesBooks h (after h event)
queues_by h event one is none = subst (λ (e : HostEvent). LeavesBooks h (after h e)) (sym is) (queues_left h one none)

interviews_by : (h : HostState) (event : HostEvent) (n : ℕ) → event ≡ Queues_interview n → LeavesBooks h (after h event)
interviews_by h event n is =
    subst (λ (e : HostEvent). LeavesBooks h (after h e)) (sym is)
    (requests_left h (after_request h.requests (PushesInterview n)) (task.First n ∷ task.Second n ∷ []) refl refl (λ k. refl))

probes_by : (h : HostState) (event : HostEvent) → event ≡ Queues_probe → LeavesBooks h (after h event)
probes_by h event is =
    subst (λ (e : HostEvent). LeavesBooks h (after h e)) (sym is)
    (requests_left h (after_request h.requests PushesProbe) (task.Version ∷ task.MemoryId ∷ task.Capabilities ∷ []) refl refl (λ k. refl))

pub asked_left : (line : Line) (h : HostState) (event : HostEvent) → IsAskedBy line h event → LeavesBooks h (after h event)
asked_left (lines.Command order) h event is = accepts_by h event order _ is
asked_left (lines.Send node word) h event is = queues_by h event _ is.1 (λ n. refl)
asked_left (lines.Get node end) h event is = queues_by h event _ is.1 (λ n. refl)
asked_left (lines.Join node) h event is = joins_by h event node is
asked_left (lines.Interview node) h event is = interviews_by h event node is.1
asked_left (lines.Cancel command) h event is = cancels_by h event command is
asked_left lines.Discover h event is = queues_by h event _ is.1 (λ n. refl)
asked_left (lines.Neighbours node) h event is = queues_by h event _ is.1 (λ n. refl)
asked_left (lines.Failed node) h event is = queues_by h event _ is.1 (λ n. refl)
asked_left lines.Probe h event is = probes_by h event is.1
asked_left line h event is = absurd is

-- ---- what a pump does

pub queued_left : (h : HostState) (n : ℕ) → LeavesBooks h (after h (Queues_no_more n))
queued_left h n =
    let g : HostState = node_does h n node_queues_no_more in
    then_left h g (after h (Queues_no_more n)) (node_left h n node_queues_no_more (record { seen = refl; text = refl; pending = refl; opened = refl; commands = refl }))
    (requests_left g (after_request h.requests (Pushes (task.NoMore n))) (task.NoMore n ∷ []) refl refl (λ k. refl))

pub dropped_left : (h : HostState) (n : ℕ) → LeavesBooks h (after h (Drops_no_more n))
dropped_left h n = node_left h n node_drops_no_more (record { seen = refl; text = refl; pending = refl; opened = refl; commands = refl })

pub unkept_left : (h : HostState) (n : ℕ) → LeavesBooks h (after h (Begin_unkept n))
unkept_left h n = node_left h n node_blocks (record { seen = refl; text = refl; pending = refl; opened = refl; commands = refl })

-- which nodes count as awake
pub queued_awake : (h : HostState) (n m : ℕ) → falls_asleep (node_of (after h (Queues_no_more n)) m) ≡ falls_asleep (node_of h m)
queued_awake h n m = left_at (λ (old new : NodeState). falls_asleep new ≡ falls_asleep old) (λ s. refl) h n node_queues_no_more m refl
