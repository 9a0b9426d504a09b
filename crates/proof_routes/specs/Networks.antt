-- That air and chip have the networks that the transcript shows (this project's own rule). A route depends only on which nodes hear each other and which may repeat, so these two
-- are what is the same: neither the order in which links are written down nor how often one is.
use Rattle.std.specs.Prelude.{◌≡◌, ℕ, ◌≤◌, ◌==◌, ◌&&◌, ◌||◌, Bool, true, false, List, length}
use Rattle.route_table.specs.Network.{Network, Link, linked, repeats}
use Rattle.chip_sim.specs.Nodes.{is_marked}
use Rattle.device_sim.specs.State.{State}
use Rattle.zw_text.specs.declared.entry.Entry.{Entry}
use Rattle.law_wire.specs.law_transcript.Nodes.{controller, is_joined}
use Rattle.law_wire.specs.Networks.{are_linked, air_links, chip_links, listens_at}
use Rattle.outside_model.specs.State.{Outside}

-- the same nodes hear each other in a network as by these links
abbrev pub HasLinks : Network → List Link → Type 0
HasLinks net links = (a b : ℕ) → linked net a b ≡ are_linked links a b

-- no node hears itself
abbrev pub IsApart : Network → Type 0
IsApart net = (a : ℕ) → linked net a a ≡ false

-- a node that listens and is joined
abbrev pub is_repeater : List State → List Entry → ℕ → Bool
is_repeater devices past node = listens_at devices node && is_joined past node

abbrev pub HasRepeaters : List State → List Entry → Network → Type 0
HasRepeaters devices past net = (node : ℕ) → repeats net node ≡ is_repeater devices past node

-- the controller, or a node that is joined
abbrev pub is_known : List Entry → ℕ → Bool
is_known past node = (node == controller) || is_joined past node

-- The air has the network of the transcript, and its joined nodes. The chip's table has that of the chip, with links of known nodes alone, and the chip counts the repeaters as
-- listening. Joined nodes have a place in the tables.
pub record Tie (devices : List State) (past : List Entry) (w : Outside) : Type 0 where
  pub air_hears : HasLinks w.outer.air.network (air_links past)
  pub air_repeats : HasRepeaters devices past w.outer.air.network
  pub air_apart : IsApart w.outer.air.network
  pub chip_hears : HasLinks w.outer.chip.state.table (chip_links past)
  pub chip_repeats : HasRepeaters devices past w.outer.chip.state.table
  pub chip_apart : IsApart w.outer.chip.state.table
  pub known : (a b : ℕ) → linked w.outer.chip.state.table a b ≡ true → is_known past a ≡ true
  pub listening : (node : ℕ) → is_marked w.outer.chip.state.listening node ≡ is_repeater devices past node
  pub joined : (node : ℕ) → is_marked w.outer.air.joined node ≡ is_joined past node
  pub within : (node : ℕ) → is_joined past node ≡ true → (2 ≤ node) × (node ≤ 232)
  pub places : length w.outer.air.joined ≡ 233
  pub marks : length w.outer.chip.state.listening ≡ 233
