-- Lines in which each success that is told of a node is true, and success after the change, of one node (this project's own rules).
use Rattle.std.specs.Prelude.{◌≡◌, ◌⊎◌, ℕ, true, List, [], ◌∷◌, Some}
use Rattle.device_sim.specs.State.{State}
use Rattle.zw_text.specs.declared.entry.Ended.TheVariants.{Success}
use Rattle.zw_text.specs.declared.entry.Entry.{Entry}
use Rattle.zw_text.specs.declared.entry.Entry.TheVariants.{Out}
use Rattle.law_transcript.specs.Lists.{EachAfter, Has}
use Rattle.law_transcript.specs.Nodes.{device_of, first_node, is_supervised}
use Rattle.law_transcript.specs.Once.{commands_shown}
use Rattle.world_model.specs.State.{Machine}
use Rattle.proof_host.specs.Laws.{accepted_for}
use Rattle.proof_spoken.specs.proof_once.Truly.{AreTrue}
use Rattle.world_lines.specs.Spoken.{Spoken, after as after_line}

-- each success that is told of the node in these lines is true
abbrev pub LinesAreTrue : ℕ → Machine → List Spoken → Type 0
LinesAreTrue node m [] = Unit {0}
LinesAreTrue node m (spoken ∷ more) = AreTrue node m spoken.events × LinesAreTrue node (after_line m spoken) more

-- a command that was accepted for the node is reported successful only once the node's device is shown to have changed by it
abbrev pub MayEndOf : ℕ → List Entry → Entry → Type 0
MayEndOf node past (Out number Success) = accepted_for number past ≡ node ∷ [] → Has (commands_shown node past) number
MayEndOf node past _ = Unit {0}

-- each success of a command of the node is reported after the change
abbrev pub SucceedsAfterChangeOf : ℕ → List Entry → Type 0
SucceedsAfterChangeOf node transcript = EachAfter (MayEndOf node) [] transcript

-- a node for which the host may accept an order: the one that is joined from the start, or one with a device that knows Supervision
abbrev pub IsAskable : List State → ℕ → Type 0
IsAskable devices node = (node ≡ first_node) ⊎ ((device : State) × (device_of node devices ≡ Some device) × (is_supervised device ≡ true))
