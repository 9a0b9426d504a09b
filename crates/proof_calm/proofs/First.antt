-- At first node 2 is joined, and the host has to do with it alone.
use Rattle.std.proofs.Common.{◌≡◌, ◌≢◌, ℕ, zero, suc, Bool, true, false, inl, inr, List, [], replicate, refl, sym, ◌∙◌, subst, arith}
use Rattle.std.proofs.lemmas.Bool.{cases_eq}
use Rattle.std.proofs.lemmas.List.{get_or-set_other}
use Rattle.std.specs.Prelude.{All, AllPairs, IsTrue, Option, slice_set}
use Rattle.std.specs.List.{AllByRecursion}
use Rattle.s0_crypto.specs.declared.key_pair.Keys.{Keys}
use Rattle.route_table.specs.Network.{Network, linked, no_network, repeats}
use Rattle.route_table.specs.Route.{via}
use Rattle.route_table.specs.Walk.{Walk}
use Rattle.route_table.proofs.Networks.{linked-insert}
use Rattle.air_frames.specs.Frames.{no_frames}
use Rattle.chip_sim.specs.Events.{with_repeater}
use Rattle.chip_sim.specs.Nodes.{is_marked, none_marked}
use Rattle.device_sim.specs.State.{State}
use Rattle.host_node.specs.Events.NodeEvent.{Joins, Interviews}
use Rattle.host_node.specs.State.{NodeState, unknown}
use Rattle.host_node.specs.Events.{after as after_node}
use Rattle.host_node.specs.TableState.{node_of as node_among, nodes_after, unknown_from, unknown_nodes}
use Rattle.host_model.specs.Facts.{HostFacts}
use Rattle.host_model.specs.State.{HostState, first_classes, first_host, first_nodes, with_node}
use Rattle.outside_model.specs.State.{first_outer}
use Rattle.world_model.specs.State.{first_machine}
use Rattle.proof_serial.proofs.HostFits.{all-set, all_at}
use Rattle.proof_serial.proofs.HostRuns.{first_fits}
use Rattle.proof_waking.specs.proof_traffic.OnAir.{on_air}
use Rattle.proof_calm.specs.Homeward.{SpeaksHome}
use Rattle.proof_calm.specs.Known.{HasShortPlain, IsBlank, IsMember}
use Rattle.proof_calm.specs.Live.{HasLive, IsReached}
use Rattle.proof_calm.proofs.Living.{live_way}
use Rattle.proof_calm.specs.Tied.{IsPeopled}
use Rattle.proof_calm.proofs.Knowing.{AreResting, set_blank}

-- ---- the nodes that are joined

two_joined : List Bool
two_joined = slice_set none_marked 2 true

all_false : (count : ℕ) → AllByRecursion (λ (b : Bool). b ≡ false) (replicate count false)
all_false zero = tt
all_false (suc count) = (refl, all_false count)

unmarked : (n : ℕ) → is_marked none_marked n ≡ false
unfolding none_marked
unmarked n = all_at (λ (b : Bool). b ≡ false) (replicate 233 false) n false (all_false 233) refl

only_two : (n : ℕ) → is_marked two_joined n ≡ true → n ≡ 2
unfolding two_joined
only_two n is = elim (cases_eq n 2) [
  | inl same ↦ same
  | inr apart ↦ absurd (let no : true ≡ false = sym is ∙ (get_or-set_other none_marked 2 n true false apart ∙ unmarked n) in cc)
]

two_member : (n : ℕ) → n ≡ 2 → IsMember two_joined n
unfolding two_joined none_marked
two_member n is = subst (IsMember two_joined) (sym is) (record { is_node = (omega arith, omega arith); is_joined = refl })

-- ---- the others

blank_one : (k : ℕ) → IsBlank (unknown k)
blank_one k = record { unlisted = refl; idle = refl; none_waits = refl }

blank_from : (number count : ℕ) → AllByRecursion IsBlank (unknown_from number count)
blank_from number zero = tt
blank_from number (suc more) = (blank_one number, blank_from (suc number) more)

all_blank : AllByRecursion IsBlank unknown_nodes
unfolding unknown_nodes
all_blank = (blank_one 1, blank_from 1 232)

blank_nodes : (keys : Keys) → AreResting IsBlank two_joined first_nodes
unfolding first_nodes
blank_nodes keys =
    let h : HostState = record (first_host keys) { nodes = unknown_nodes } in
    let joins : NodeState = after_node (node_among unknown_nodes 2) Joins in
    let member = two_member 2 refl in
    let once = set_blank IsBlank two_joined h 2 joins member.is_joined (λ n other. all_at IsBlank unknown_nodes n (unknown 0) all_blank (blank_one 0)) in
    let g : HostState = with_node h 2 joins in
    set_blank IsBlank two_joined g 2 (after_node (node_among g.nodes 2) (Interviews true first_classes)) member.is_joined once

first_speaks : SpeaksHome two_joined first_outer
unfolding first_outer two_joined none_marked no_frames on_air
first_speaks = record { frames = tt; nodes = λ n is. two_member n (only_two n is) }

no_pairs : AllPairs (λ (a b : ℕ). a ≢ b) []
no_pairs = λ i j d below low. absurd (omega (arith, below, low))

none_all : (P : ℕ → Type 0) → All P []
none_all P = λ k d low. absurd (omega (arith, low))

-- node 2 hears node 1
direct : (net : Network) → linked net 1 2 ≡ true → Walk net 2 []
direct net hears = record {
  few = omega arith;
  different = no_pairs;
  inner = none_all (λ n. (n ≢ 1) × (n ≢ 2));
  marked = none_all (λ n. IsTrue (repeats net n));
  hops = hears;
}

first_reached : (n : ℕ) → is_marked two_joined n ≡ true → IsReached first_outer.chip.state.table first_outer.air.network n
unfolding first_outer
first_reached n is =
    let hears : linked first_outer.chip.state.table 1 2 ≡ true = linked-insert (with_repeater no_network 2 true) 1 2 1 2 in
    subst (λ (k : ℕ). IsReached first_outer.chip.state.table first_outer.air.network k) (sym (only_two n is)) (record {
      apart = λ same. absurd cc;
      over = [];
      walk = direct first_outer.chip.state.table hears;
      live = λ route is. live_way first_outer.chip.state.table first_outer.air.network (λ a b is. is) 1 (via route) 2 is.walk.hops;
      back = [];
      way = direct first_outer.chip.state.table hears;
    })

-- where these are that node, or none
first_live : (these : List Bool) → ((n : ℕ) → is_marked these n ≡ true → is_marked two_joined n ≡ true) → HasLive these first_outer
unfolding first_outer no_frames on_air
first_live these few = record { fly = tt; sized = omega arith; reached = λ n marked. first_reached n (few n marked); none_marked = refl }

plain_from : (number count : ℕ) → AllByRecursion HasShortPlain (unknown_from number count)
plain_from number zero = tt
plain_from number (suc more) = (tt, plain_from (suc number) more)

first_plains : AllByRecursion HasShortPlain first_nodes
unfolding first_nodes unknown_nodes
first_plains =
    let joins : NodeState = after_node (node_among unknown_nodes 2) Joins in
    let once : AllByRecursion HasShortPlain (nodes_after unknown_nodes 2 Joins) = all-set HasShortPlain unknown_nodes 2 joins (tt, plain_from 1 232) tt in
    all-set HasShortPlain (nodes_after unknown_nodes 2 Joins) 2 (after_node (node_among (nodes_after unknown_nodes 2 Joins) 2) (Interviews true first_classes)) once tt

pub first_peopled : (facts : (keys : Keys) → HostFacts (first_host keys)) (these : List Bool) → ((n : ℕ) → is_marked these n ≡ true → is_marked first_outer.chip.state.joined n ≡ true) → (keys : Keys)
    (records : Option (List (List ℕ))) (devices : List State) → IsPeopled these (first_machine keys records devices)
unfolding first_outer two_joined
first_peopled facts these few keys records devices = record {
  facts = facts keys;
  fits = first_fits keys;
  knows = record { others = blank_nodes keys; tasks = tt; request = tt };
  speaks = first_speaks;
  live = first_live these few;
  plains = first_plains;
}
