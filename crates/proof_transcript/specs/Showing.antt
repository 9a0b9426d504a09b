-- What lines show of devices and of stored values (this project's own): what is tied to the transcript where a line begins, and what is known at each phase of it.
use Rattle.std.specs.Prelude.{◌≡◌, ◌⊎◌, ℕ, List, [], ◌∷◌, ◌++◌, option_map}
use Rattle.std.specs.List.{AllByRecursion}
use Rattle.device_sim.specs.State.{State}
use Rattle.zw_text.specs.declared.line.Line.{Line}
use Rattle.zw_text.specs.declared.line.Line.TheVariants as lines
use Rattle.zw_text.specs.declared.entry.Entry.{Entry}
use Rattle.zw_text.specs.declared.entry.Entry.TheVariants.{Said, Device, Json, TableEnd, TableNode, TableValue, BadLine}
use Rattle.zw_text.specs.Transcript.{line_of, line_last}
use Rattle.law_host.specs.law_transcript.Nodes.{device_of, listing_of, always}
use Rattle.law_host.specs.law_transcript.Table.{device_lines}
use Rattle.law_host.specs.law_wire.Shown.{IsToShow, as_entered, to_show}
use Rattle.law_host.specs.HostLegal.{ShowsValues, values_now}
use Rattle.proof_air.specs.outside_model.Devices.{kept_entries}
use Rattle.proof_air.specs.outside_model.Events.{Shows}
use Rattle.proof_air.specs.world_model.State.{Machine}
use Rattle.proof_air.specs.world_model.Events.{Event, Outside_does, Shows_values, shown_values}
use Rattle.proof_spoken.specs.proof_device.Showing.{AreApart}
use Rattle.proof_air.specs.proof_walk.ByLine.{KnownOf, by_line, OfEffect, ShowsNothing, Asked, begun, Opened}
use Rattle.proof_air.specs.proof_walk.Phases.{Phase}

-- ---- the laws

-- an entry shows a device as its changes so far leave it, where no two devices are of one node; and the values of a node as they are stored
abbrev pub Stands : List State → List Entry → Entry → Type 0
Stands devices past entry = (AreApart devices → IsToShow (to_show devices past) entry) × ShowsValues (always (listing_of devices)) past entry

-- it shows none of these, and does not belong to what stands after a run
abbrev pub ShowsNone : Entry → Type 0
ShowsNone (Device node setting) = ⊥
ShowsNone (Json text) = ⊥
ShowsNone (TableEnd ticks) = ⊥
ShowsNone (TableNode node sessions) = ⊥
ShowsNone (TableValue node property confirmed heard) = ⊥
ShowsNone (BadLine line fault) = ⊥
ShowsNone _ = Unit {0}

-- nor does it say a line
abbrev pub IsPlain : Entry → Type 0
IsPlain (Said words) = ⊥
IsPlain entry = ShowsNone entry

-- ---- what is tied to the transcript

-- The lines of a node's device and values are those that the transcript gives: of values, once the words that ask for them stand there.
pub record ShownTies (devices : List State) (past : List Entry) (m : Machine) : Type 0 where
  pub device : (node : ℕ) → AreApart devices → device_lines node (option_map (as_entered past) (device_of node devices)) ≡ kept_entries node m.outside.devices
  pub values : (words : List ℕ) (node : ℕ) → line_of (Said words) ≡ lines.Store node ∷ [] → values_now (always (listing_of devices)) (past ++ Said words ∷ []) node ≡ shown_values m.host.state node

-- ---- what is known in a line

-- no values were asked for
abbrev pub AsksForNone : List Line → Type 0
AsksForNone (lines.Store node ∷ more) = ⊥
AsksForNone line = Unit {0}

-- nothing is to be shown
abbrev pub NoneDue : List State → KnownOf
NoneDue devices past m = (AreApart devices → to_show devices past ≡ []) × AsksForNone (line_last past)

-- where a line begins both are so
abbrev pub KnownThere : List State → KnownOf
KnownThere devices past m = ShownTies devices past m × NoneDue devices past m

-- the device of a node is shown next
pub record AwaitsDevice (devices : List State) (left : List Event) (past : List Entry) (m : Machine) : Type 0 where
  pub first : Machine
  pub node : ℕ
  pub begun_from : m ≡ begun first
  pub is : left ≡ Outside_does (Shows node) ∷ []
  pub due : AreApart devices → to_show devices past ≡ kept_entries node first.outside.devices
  pub none : AsksForNone (line_last past)

-- the values of a node are
pub record AwaitsValues (devices : List State) (left : List Event) (past : List Entry) (m : Machine) : Type 0 where
  pub first : Machine
  pub node : ℕ
  pub begun_from : m ≡ begun first
  pub is : left ≡ Shows_values node ∷ []
  pub none : AreApart devices → to_show devices past ≡ []
  pub last : line_last past ≡ lines.Store node ∷ []
  pub values : values_now (always (listing_of devices)) past node ≡ shown_values first.host.state node

-- what is left of the effect of a line shows what is due, or nothing
abbrev pub LeftToShow : List State → Line → List Event → KnownOf
LeftToShow devices line left past m =
    AwaitsDevice devices left past m ⊎ (AwaitsValues devices left past m ⊎ (NoneDue devices past m × AllByRecursion (OfEffect ShowsNothing) left))

-- at each phase of a line
abbrev pub KnowsShown : List State → Phase → List Entry → Machine → Type 0
KnowsShown devices here past m = by_line (Asked (KnownThere devices)) (Opened (KnownThere devices)) (LeftToShow devices) (NoneDue devices) here past m
