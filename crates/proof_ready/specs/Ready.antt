-- Nodes that are ready for a stretch by the transcript (this project's own rule): what is so of them in the machine.
use Rattle.std.specs.Prelude.{◌≡◌, ◌⊎◌, ℕ, zero, suc, ◌≤◌, ◌+◌, ◌*◌, ◌==◌, Bool, true, false, List, [], ◌∷◌, length, None}
use Rattle.std.specs.List.{AllByRecursion, list_any}
use Rattle.zw_text.specs.declared.entry.Entry.{Entry}
use Rattle.device_kinds.specs.Kind.{listens as kind_listens}
use Rattle.mesh_sim.specs.Air.{is_joined as is_in_air}
use Rattle.chip_sim.specs.Nodes.{is_marked}
use Rattle.law_wire.specs.law_transcript.Commands.{waiting}
use Rattle.law_wire.specs.law_transcript.Nodes.{always, device_of, is_joined, known_classes, listing_of}
use Rattle.law_time.specs.Interviews.{listens}
use Rattle.law_time.specs.Calm.{is_asleep_if_known, is_idle}
use Rattle.law_time.specs.Rests.{is_rest}
use Rattle.law_time.specs.Stretches.{are_listed, are_plain_listeners, commands_in, is_alone, is_sleeper_alone, knows_device, lists_a_layer, lists_security, waited}
use Rattle.proof_rests.specs.proof_attempts.proof_host.device_sim.State.{State}
use Rattle.host_node.specs.declared.series.Series.TheVariants.{Idle}
use Rattle.proof_rests.specs.proof_requests.host_model.State.{HostState, node_of}
use Rattle.proof_rests.specs.proof_attempts.world_model.State.{Machine}
use Rattle.proof_in_time.specs.proof_answered.FirstAttempts.{AllFirst}
use Rattle.proof_in_time.specs.proof_answered.Sleepers.{AllHear, IsAlone}
use Rattle.proof_in_time.specs.proof_answered.Workers.{IsAway, KnowsWorkers}
use Rattle.proof_in_time.specs.proof_answered.proof_calm.Tied.{unheard}
use Rattle.proof_in_time.specs.proof_answered.proof_calm.proof_traffic.OnAir.{on_air}
use Rattle.proof_in_time.specs.proof_answered.proof_calm.proof_waking.proof_walk.Phases.{Between}
use Rattle.proof_in_time.specs.Coming.{AreInAir}
use Rattle.proof_in_time.specs.InHand.{AllServe, SleepsAlone}
use Rattle.proof_in_time.specs.Waited.{waited_for}
use Rattle.proof_ready.specs.Ease.{clock_of}

-- ---- by the transcript

-- the last request of the host is over; no series of a joined node runs; and none that was interviewed and does not listen counts as awake
pub record HostIsStill (listing : List Entry → ℕ → List ℕ) (past : List Entry) : Type 0 where
  pub rest : is_rest past (clock_of past) ≡ true
  pub idle : (n : ℕ) → is_joined past n ≡ true → is_idle past (clock_of past) n ≡ true
  pub asleep : (n : ℕ) → is_joined past n ≡ true → is_asleep_if_known listing past n ≡ true

-- the nodes at work in a stretch list neither Transport Service nor Security 0, and listen; or it is one that sleeps; or one of any kind
pub data AreFit (devices : List State) (past stretch : List Entry) : Type 0 where
  Listeners : are_plain_listeners devices past stretch ≡ true → AreFit devices past stretch
  Sleeper : is_sleeper_alone devices past stretch ≡ true → AreFit devices past stretch
  One_alone : is_alone past stretch ≡ true → AreFit devices past stretch

-- these are one node alone, which sleeps
pub record OneSleeps (these : List Bool) (past : List Entry) : Type 0 where
  pub node : ℕ
  pub alone : IsAlone these node
  pub sleeps : listens node past ≡ false

-- these nodes are joined, and all of them listen, or one sleeps; and no command waits for another that is joined
pub record AreWorkers (these : List Bool) (past : List Entry) : Type 0 where
  pub joined : (n : ℕ) → is_marked these n ≡ true → is_joined past n ≡ true
  pub hear : ((n : ℕ) → is_marked these n ≡ true → listens n past ≡ true) ⊎ OneSleeps these past
  pub others : (n : ℕ) → is_marked these n ≡ false → is_joined past n ≡ true → waiting n past ≡ []

-- the host knows of a node whether it listens, and what it lists
pub record IsKnown (devices : List State) (past : List Entry) (n : ℕ) : Type 0 where
  pub device : knows_device devices n past (device_of n devices) ≡ true
  pub classes : are_listed devices n (known_classes (always (listing_of devices)) past n) ≡ true

abbrev pub AreKnown : List Bool → List State → List Entry → Type 0
AreKnown these devices past = (n : ℕ) → is_marked these n ≡ true → IsKnown devices past n

-- none of these lists Transport Service or Security 0
abbrev pub ListPlainly : List Bool → List State → Type 0
ListPlainly these devices = (n : ℕ) → is_marked these n ≡ true → lists_a_layer devices n ≡ false

-- these are one node alone, which listens
pub record OneHears (these : List Bool) (past : List Entry) : Type 0 where
  pub node : ℕ
  pub alone : IsAlone these node
  pub hears : listens node past ≡ true

-- so these are plain; or one that listens and lists Transport Service alone, or Security 0
pub data AreSo (these : List Bool) (devices : List State) (past : List Entry) : Type 0 where
  Plain_ones : ListPlainly these devices → AreSo these devices past
  Open_one : (one : OneHears these past) → lists_a_layer devices one.node ≡ true → lists_security devices one.node ≡ false → AreSo these devices past
  Locked_one : (one : OneHears these past) → lists_security devices one.node ≡ true → AreSo these devices past

-- so they are, by what they are now in a stretch
abbrev pub AreByFit : List Bool → List State → (now : List State) → (past stretch : List Entry) → AreFit now past stretch → Type 0
AreByFit these devices now past stretch (Listeners plain) = ListPlainly these devices
AreByFit these devices now past stretch (Sleeper plain) = ListPlainly these devices
AreByFit these devices now past stretch (One_alone alone) = AreSo these devices past

-- a node at work has had its ticks, by what the nodes at work are: 500 in all, or its own since its last order or `wake` line, for each of its commands and one
-- more
abbrev pub IsLongFor : (now : List State) → (past stretch : List Entry) → AreFit now past stretch → ℕ → Type 0
IsLongFor now past stretch (Listeners plain) n = (500 ≤ waited stretch) ⊎ (101 + 24 * suc (length (commands_in past stretch n)) ≤ waited_for n stretch)
IsLongFor now past stretch (Sleeper plain) n = (500 ≤ waited stretch) ⊎ (101 + 30 * suc (length (commands_in past stretch n)) ≤ waited_for n stretch)
IsLongFor now past stretch (One_alone alone) n = 101 + 30 * suc (length (commands_in past stretch n)) ≤ waited_for n stretch

-- the nodes of a list, as marks: so many from one on, and all
abbrev pub marks_from : List ℕ → ℕ → ℕ → List Bool
marks_from nodes number zero = []
marks_from nodes number (suc more) = list_any (λ one. one == number) nodes ∷ marks_from nodes (suc number) more

unfoldable pub marks_of : List ℕ → List Bool
marks_of nodes = marks_from nodes 0 233

-- ---- devices

-- those of a kind that listens are awake, as their makers leave them
abbrev pub AreUp : List State → Type 0
AreUp devices = AllByRecursion (λ (device : State). kind_listens device.kind ≡ true → device.awake ≡ true) devices

-- ---- in the machine

-- a node has a place in the tables, and is joined in the air
pub record IsThere (n : ℕ) (m : Machine) : Type 0 where
  pub from : 2 ≤ n
  pub to : n ≤ 232
  pub in_air : is_in_air m.outside.outer.air n ≡ true

-- the host has to do with these nodes alone: no request is under way, no task waits, none is to be done for another, and each series that is due or runs is at
-- its first attempt
pub record HostIsReady (these : List Bool) (h : HostState) : Type 0 where
  pub knows : KnowsWorkers these h
  pub first : AllFirst h
  pub no_request : h.requests.under_way ≡ None
  pub no_task : h.requests.queue ≡ []

-- So it is. Each of these is joined in the air, and no series of it is due or runs; all of them listen, as the host knows too, or it is one that sleeps, and
-- was not woken; no frame is on the air, none on its way to the host, and no device of another is at work.
pub record MachineIsReady (these : List Bool) (m : Machine) : Type 0 where
  pub many : length these ≡ 233
  pub none : is_marked these 0 ≡ false
  pub host : HostIsReady these m.host.state
  pub joined : AreInAir these m
  pub idle : (n : ℕ) → is_marked these n ≡ true → (node_of m.host.state n).series ≡ Idle
  pub hears : AllHear these Between [] m
  pub serves : AllServe these m.host.state ⊎ SleepsAlone these m
  pub none_flies : on_air m.outside.outer.air.frames ≡ []
  pub none_unheard : unheard m.outside.outer ≡ []
  pub away : AllByRecursion (IsAway these) m.outside.devices
