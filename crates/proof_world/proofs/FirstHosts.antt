-- A host at first, and one that starts from its records, was asked nothing.
use Rattle.std.proofs.Common.{◌≡◌, ℕ, zero, suc, ◌+◌, true, List, [], ◌∷◌, map, length, Option, Some, None, refl, ◌∙◌, sym, subst}
use Rattle.s0_crypto.specs.declared.key_pair.Keys.{Keys}
use Rattle.supervision.specs.Session.{wire_id}
use Rattle.supervision.specs.Host.{command_at as command_of_session}
use Rattle.host_requests.specs.State.{RequestsState, no_requests}
use Rattle.proof_host.specs.host_node.State.{NodeState}
use Rattle.proof_host.specs.host_node.Steps.{after_restart}
use Rattle.proof_host.specs.host_node.Events.NodeEvent.{Joins as node_joins, Interviews as node_interviews, Puts as node_puts, Accepts as node_accepts, Begins as node_begins, Cancels as node_cancels, Reports as node_reports, Restores_seen as node_restores_seen, Restarts as node_restarts}
use Rattle.proof_host.specs.host_node.TableState.{unknown_from, unknown_nodes, nodes_after, node_of as node_among}
use Rattle.host_keep.specs.Status.{status_byte}
use Rattle.host_keep.specs.declared.final_status.FinalStatus.{FinalStatus}
use Rattle.host_keep.specs.declared.record.Record.{Record}
use Rattle.host_keep.specs.declared.record.Record.TheVariants.{Accepted, Joined, Classes, Begun, Final, Cancelled, Given, Spent, Seen}
use Rattle.proof_host.specs.host_model.Restoring.{restored, ending}
use Rattle.proof_host.specs.host_model.Opening.{restored_all, restarting, opened}
use Rattle.proof_host.specs.host_model.State.{HostState, node_of, first_host, first_nodes, first_classes}
use Rattle.proof_host.specs.host_model.After.{node_for}
use Rattle.proof_serial.specs.Host.{FitsIn}
use Rattle.proof_world.specs.Asking.{AreTasksOf, IsJoined, HostAsks}
use Rattle.proof_world.proofs.Nodes.{AllStay, all_same, all_follow, one_stays, event_stays}

-- the plain texts that are pending are short
abbrev HasShortPlains : List NodeState → Type 0
HasShortPlains nodes = (n : ℕ) → FitsIn 26 (node_among nodes n).pending

plains_stay : (old new : List NodeState) → AllStay old new → HasShortPlains old → HasShortPlains new
plains_stay old new stay short n = (stay n).plain (short n)

none_asked : (h : HostState) → h.requests ≡ no_requests → HasShortPlains h.nodes → HostAsks h
none_asked h is short = record { tasks = subst (λ (s : RequestsState). AreTasksOf (IsJoined h) s) (sym is) (record { queue = tt; under_way = tt }); plains = short }

-- ---- at first

unknown_short : (number count : ℕ) → HasShortPlains (unknown_from number count)
unknown_short number zero n = tt
unknown_short number (suc more) zero = tt
unknown_short number (suc more) (suc n) = unknown_short (suc number) more n

all_unknown_short : HasShortPlains unknown_nodes
unfolding unknown_nodes
all_unknown_short zero = tt
all_unknown_short (suc n) = unknown_short 1 232 n

first_short : HasShortPlains first_nodes
unfolding first_nodes
first_short =
    let joined = nodes_after unknown_nodes 2 node_joins in
    plains_stay joined _ (one_stays joined 2 (node_interviews true first_classes) tt) (plains_stay unknown_nodes joined (one_stays unknown_nodes 2 node_joins tt) all_unknown_short)

pub first_asks : (keys : Keys) → HostAsks (first_host keys)
first_asks keys = none_asked (first_host keys) refl first_short

-- ---- from records

-- the requests are as they were, and the nodes stay
record IsRestored (old new : HostState) : Type 0 where
  requests : new.requests ≡ old.requests
  nodes : AllStay old.nodes new.nodes

ended : (h : HostState) (n session : ℕ) (status : FinalStatus) (command : Option ℕ) → IsRestored h (ending h n session status command)
ended h n session status None = record { requests = refl; nodes = all_same h.nodes }
ended h n session status (Some command) = record { requests = refl; nodes = one_stays h.nodes n (node_reports (wire_id session) (status_byte status)) tt }

one_restored : (h : HostState) (one : Record) → IsRestored h (restored h one)
one_restored h (Accepted command order) =
    let put = nodes_after h.nodes order.node (node_puts (length h.commands + 1)) in
    record { requests = refl; nodes = all_follow h.nodes put _ (one_stays h.nodes order.node (node_puts (length h.commands + 1)) tt) (one_stays put order.node node_accepts tt) }
one_restored h (Joined n) = record { requests = refl; nodes = one_stays h.nodes n node_joins tt }
one_restored h (Classes n listens classes) = record { requests = refl; nodes = one_stays h.nodes n (node_interviews listens classes) tt }
one_restored h (Begun n session command) = record { requests = refl; nodes = one_stays h.nodes n node_begins tt }
one_restored h (Final n session status) = ended h n session status (command_of_session (node_of h n).book.commands session)
one_restored h (Cancelled command) = record { requests = refl; nodes = one_stays h.nodes (node_for h command) (node_cancels command) tt }
one_restored h (Given n given nonce) = record { requests = refl; nodes = all_same h.nodes }
one_restored h (Spent n) = record { requests = refl; nodes = all_same h.nodes }
one_restored h (Seen n seen) = record { requests = refl; nodes = one_stays h.nodes n (node_restores_seen seen) tt }

all_restored : (h : HostState) (records : List Record) → IsRestored h (restored_all h records)
unfolding restored_all
all_restored h [] = record { requests = refl; nodes = all_same h.nodes }
all_restored h (one ∷ more) =
    let first = one_restored h one in
    let later = all_restored (restored h one) more in
    record { requests = later.requests ∙ first.requests; nodes = all_follow h.nodes (restored h one).nodes _ first.nodes later.nodes }

-- each node restarts but the one at place 0
restarts_short : (nodes : List NodeState) → HasShortPlains nodes → HasShortPlains (map after_restart nodes)
restarts_short [] short n = tt
restarts_short (x ∷ nodes) short zero = (event_stays x node_restarts tt).plain (short 0)
restarts_short (x ∷ nodes) short (suc n) = restarts_short nodes (λ k. short (suc k)) n

restarting_short : (nodes : List NodeState) → HasShortPlains nodes → HasShortPlains (restarting nodes)
unfolding restarting
restarting_short [] short n = tt
restarting_short (x ∷ nodes) short zero = short 0
restarting_short (x ∷ nodes) short (suc n) = restarts_short nodes (λ k. short (suc k)) n

pub opened_asks : (keys : Keys) (records : List Record) → HostAsks (opened keys records)
opened_asks keys records =
    let all = all_restored (first_host keys) records in
    none_asked (opened keys records) all.requests
    (restarting_short (restored_all (first_host keys) records).nodes (plains_stay first_nodes (restored_all (first_host keys) records).nodes all.nodes first_short))
