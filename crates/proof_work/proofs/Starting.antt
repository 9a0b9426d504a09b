-- A host has its work in order at the beginning, and where it starts from records.
use Rattle.std.proofs.Common.{◌≡◌, ℕ, zero, suc, ◌+◌, true, Option, Some, None, List, [], ◌∷◌, length, map, refl, sym, subst, ◌∙◌, Bool, false, nat_lt, ap}
use Rattle.std.proofs.lemmas.Bool.{both_ways}
use Rattle.s0_crypto.specs.declared.key_pair.Keys.{Keys}
use Rattle.supervision.specs.Host.{command_at as command_of_session}
use Rattle.supervision.specs.Session.{wire_id}
use Rattle.host_keep.specs.Status.{status_byte}
use Rattle.host_keep.specs.declared.final_status.FinalStatus.{FinalStatus}
use Rattle.host_keep.specs.declared.record.Record.{Record}
use Rattle.host_keep.specs.declared.record.Record.TheVariants.{Accepted, Joined, Classes, Begun, Final, Cancelled, Given, Spent, Seen}
use Rattle.host_requests.specs.State.{RequestsState, no_requests}
use Rattle.host_requests.specs.Facts.{IsRequests}
use Rattle.host_node.specs.State.{NodeState, has_waiting, unknown, wants_no_more}
use Rattle.host_node.specs.Events.{after as after_node}
use Rattle.host_node.specs.declared.series.Series.TheVariants.{Idle, Due, Running}
use Rattle.host_node.specs.Steps.{after_restart, as_recorded}
use Rattle.host_node.specs.Events.NodeEvent.{Accepts as node_accepts, Begins as node_begins, Cancels as node_cancels, Interviews as node_interviews, Joins as node_joins, Puts as node_puts, Reports as node_reports, Restores_seen as node_restores_seen}
use Rattle.host_node.specs.TableState.{node_of as node_among, nodes_after, unknown_from, unknown_nodes}
use Rattle.proof_walk.specs.host_model.State.{HostState, first_classes, first_host, first_nodes, node_of}
use Rattle.proof_walk.specs.host_model.After.{node_for}
use Rattle.proof_walk.specs.host_model.Restoring.{ending, restored}
use Rattle.proof_walk.specs.host_model.Opening.{opened, restarting, restored_all}
use Rattle.proof_work.specs.Rests.{IsTended, NodeRests}
use Rattle.proof_work.specs.Work.{NodeWork, Work, times_due}
use Rattle.proof_work.proofs.Places.{set_each}
use Rattle.proof_work.proofs.Nodes.{StayQuiet, blank, occasion_due, work_restarts}
use Rattle.proof_work.proofs.Hosts.{node_did}

-- ---- nodes of which nothing is known

module _ (P : NodeState → Type 0) (all : (number : ℕ) → P (unknown number)) where
  unknown_each : (number count k : ℕ) → P (node_among (unknown_from number count) k)
  unknown_each number zero k = all 0
  unknown_each number (suc more) zero = all number
  unknown_each number (suc more) (suc k) = unknown_each (suc number) more k

  unknown_at : (m : ℕ) → P (node_among unknown_nodes m)
  unfolding unknown_nodes
  unknown_at zero = all 1
  unknown_at (suc m) = unknown_each 1 232 m

nothing_due : (m : ℕ) → 0 ≡ times_due (node_among unknown_nodes m).no_more
nothing_due = unknown_at (λ (s : NodeState). 0 ≡ times_due s.no_more) (λ _. refl)

module _ (still : StayQuiet) (first : IsRequests no_requests) where
  unknown_work : Work no_requests unknown_nodes
  unknown_work = record { valid = first; each = unknown_at (λ (s : NodeState). NodeWork None s) (blank None); once = nothing_due }

  -- ---- the beginning

  pub first_work : (keys : Keys) → Work (first_host keys).requests (first_host keys).nodes
  unfolding first_nodes
  first_work keys =
      node_did still no_requests (nodes_after unknown_nodes 2 node_joins) 2 (node_interviews true first_classes) tt (node_did still no_requests unknown_nodes 2 node_joins tt unknown_work)

  -- ---- one record

  abbrev AtRest : List NodeState → Type 0
  AtRest nodes = Work no_requests nodes

  ending_nodes : (h : HostState) (n session : ℕ) (status : FinalStatus) (command : Option ℕ) → AtRest h.nodes → AtRest (ending h n session status command).nodes
  ending_nodes h n session status None w = w
  ending_nodes h n session status (Some command) w = node_did still no_requests h.nodes n (node_reports (wire_id session) (status_byte status)) tt w

  restored_nodes : (h : HostState) (one : Record) → AtRest h.nodes → AtRest (restored h one).nodes
  restored_nodes h (Accepted command order) w =
      let puts = node_puts (length h.commands + 1) in
      node_did still no_requests (nodes_after h.nodes order.node puts) order.node node_accepts tt (node_did still no_requests h.nodes order.node puts tt w)
  restored_nodes h (Joined n) w = node_did still no_requests h.nodes n node_joins tt w
  restored_nodes h (Classes n listens classes) w = node_did still no_requests h.nodes n (node_interviews listens classes) tt w
  restored_nodes h (Begun n session command) w = node_did still no_requests h.nodes n node_begins tt w
  restored_nodes h (Final n session status) w = ending_nodes h n session status (command_of_session (node_of h n).book.commands session) w
  restored_nodes h (Cancelled command) w = node_did still no_requests h.nodes (node_for h command) (node_cancels command) tt w
  restored_nodes h (Given n given nonce) w = w
  restored_nodes h (Spent n) w = w
  restored_nodes h (Seen n seen) w = node_did still no_requests h.nodes n (node_restores_seen seen) tt w

  -- ---- all records

  all_nodes : (h : HostState) (records : List Record) → AtRest h.nodes → AtRest (restored_all h records).nodes
  unfolding restored_all
  all_nodes h [] w = w
  all_nodes h (one ∷ more) w = all_nodes (restored h one) more (restored_nodes h one w)

  -- ---- a restart

  restarted_each : (P : NodeState → Type 0) → P (unknown 0) → ((s : NodeState) → P (after_restart s)) → (nodes : List NodeState) (m : ℕ) → P (node_among (map after_restart nodes) m)
  restarted_each P none all [] m = none
  restarted_each P none all (one ∷ more) zero = all one
  restarted_each P none all (one ∷ more) (suc m) = restarted_each P none all more m

  restarted_nodes : (nodes : List NodeState) → AtRest nodes → AtRest (restarting nodes)
  unfolding restarting
  restarted_nodes [] w = w
  restarted_nodes (one ∷ more) w = record { valid = w.valid; each = each; once = once }
    where
      each : (m : ℕ) → NodeWork None (node_among (one ∷ map after_restart more) m)
      each zero = w.each zero
      each (suc m) = restarted_each (λ (s : NodeState). NodeWork None s) (blank None 0) (work_restarts still None) more m

      once : (m : ℕ) → 0 ≡ times_due (node_among (one ∷ map after_restart more) m).no_more
      once zero = w.once zero
      once (suc m) = restarted_each (λ (s : NodeState). 0 ≡ times_due s.no_more) refl (λ s. sym (occasion_due (as_recorded s))) more m

ending_requests : (h : HostState) (n session : ℕ) (status : FinalStatus) (command : Option ℕ) → (ending h n session status command).requests ≡ h.requests
ending_requests h n session status None = refl
ending_requests h n session status (Some command) = refl

restored_requests : (h : HostState) (one : Record) → (restored h one).requests ≡ h.requests
restored_requests h (Final n session status) = ending_requests h n session status (command_of_session (node_of h n).book.commands session)
restored_requests h one = refl

pub all_requests : (h : HostState) (records : List Record) → (restored_all h records).requests ≡ h.requests
unfolding restored_all
all_requests h [] = refl
all_requests h (one ∷ more) = all_requests (restored h one) more ∙ restored_requests h one

pub opened_work : StayQuiet → IsRequests no_requests → (keys : Keys) (records : List Record) → Work (opened keys records).requests (opened keys records).nodes
opened_work still first keys records =
    let h = restored_all (first_host keys) records in
    subst (λ (requests : RequestsState). Work requests (restarting h.nodes)) (sym (all_requests (first_host keys) records))
    (restarted_nodes still first h.nodes (all_nodes still first (first_host keys) records (first_work still first keys)))

-- ---- the first host is tended

-- nothing waits for a node that is asleep and has no series
record IsUntouched (n : NodeState) : Type 0 where
  idle : n.series ≡ Idle
  none : n.waiting ≡ []
  asleep : n.awake ≡ false

untouched_first : (n : ℕ) → IsUntouched (node_among first_nodes n)
unfolding first_nodes
untouched_first =
    let blank_one : (number : ℕ) → IsUntouched (unknown number) = λ number. record { idle = refl; none = refl; asleep = refl } in
    let unknown_ones : (n : ℕ) → IsUntouched (node_among unknown_nodes n) = unknown_at IsUntouched blank_one in
    let joined_ones : (n : ℕ) → IsUntouched (node_among (nodes_after unknown_nodes 2 node_joins) n) =
    set_each (λ (m : ℕ) (s : NodeState). IsUntouched s) unknown_nodes 2 (after_node (node_among unknown_nodes 2) node_joins)
    (λ _. record { idle = (unknown_ones 2).idle; none = (unknown_ones 2).none; asleep = (unknown_ones 2).asleep }) (λ _. blank_one 0) (λ m _. unknown_ones m) in
    let joined = nodes_after unknown_nodes 2 node_joins in
    set_each (λ (m : ℕ) (s : NodeState). IsUntouched s) joined 2 (after_node (node_among joined 2) (node_interviews true first_classes))
    (λ _. record { idle = (joined_ones 2).idle; none = (joined_ones 2).none; asleep = (joined_ones 2).asleep }) (λ _. blank_one 0) (λ m _. joined_ones m)

untouched_rests : (n : NodeState) → IsUntouched n → NodeRests n
untouched_rests n u = record {
  begun = λ due. not_due (sym u.idle ∙ due);
  given = λ runs. absurd (not_running (sym u.idle ∙ runs));
  served = λ waits. absurd (both_ways (has_waiting n) (ap (λ (l : List ℕ). nat_lt 0 (length l)) u.none) waits);
  slept = λ awake. absurd (both_ways n.awake u.asleep awake);
}
  where
    not_due : Idle ≡ Due → ⊥
    not_due e = cc

    not_running : Idle ≡ Running → ⊥
    not_running e = cc

untouched_unwanted : (n : NodeState) → IsUntouched n → wants_no_more n ≡ false
untouched_unwanted n u = subst (λ (a : Bool). wants_no_more (record n { awake = a }) ≡ false) (sym u.asleep) refl

pub first_tended : (keys : Keys) → IsTended (first_host keys)
first_tended keys = record {
  told = λ n from to. untouched_unwanted (node_among first_nodes n) (untouched_first n);
  rests = λ free. record { paid = refl; no_task = refl; each = λ n from to. untouched_rests (node_among first_nodes n) (untouched_first n) };
}
