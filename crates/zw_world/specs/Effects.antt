-- What calls of the world tell of the effect of a line (this project's own).
use Rattle.std.specs.Prelude.{◌≡◌, ◌⊎◌, Bool, true, false, List, [], ◌∷◌, Option, Some, None, Result, Ok, Err}
use Rattle.zw_words.specs.declared.side.Side.TheVariants as side
use Rattle.zw_text.specs.declared.line.Line.{Line}
use Rattle.zw_text.specs.declared.line.Line.TheVariants.{Command, Join, Cancel, Restart, Repeat, Wake, Local, Show, Tick, Cut, Stall, Drop, Garble, Collide, Lose, LoseAck, Link, Unlink, Discover, Neighbours as neighbours, Failed as failed, Probe as probe}
use Rattle.zw_text.specs.declared.entry.Entry.{Entry}
use Rattle.zw_text.specs.declared.entry.Entry.TheVariants.{Refused as refused_entry}
use Rattle.zw_text.specs.declared.entry.Refusal.{Refusal}
use Rattle.zw_text.specs.declared.entry.Refusal.TheVariants.{KeeperFault, BadRecord}
use Rattle.host_orders.specs.declared.refused.Refused.{Refused}
use Rattle.host_model.specs.Asking.{places_refusal}
use Rattle.host_core.specs.declared.orders.Question.{Question}
use Rattle.host_core.specs.declared.orders.Question.TheVariants.{Members, Neighbours, Failed, Probe}
use Rattle.host_core.specs.declared.opening.OpenFault.{OpenFault}
use Rattle.host_core.specs.declared.opening.OpenFault.TheVariants as opening
use Rattle.host_core.specs.Orders.{places_of, question_event}
use Rattle.outside_model.specs.State.{OuterState}
use Rattle.outside_model.specs.Events.{Host_notes, Clears_pipe}
use Rattle.outside_model.specs.Did.{Goes}
use Rattle.world_model.specs.Refusals.{shown}
use Rattle.world_model.specs.Did.{Schedule}
use Rattle.world_model.specs.Lines.{Asks}

abbrev pub is_tick : Line → Bool
is_tick (Tick count) = true
is_tick line = false

-- a line that asks the host for something, or sets something outside it: neither keeper nor devices have a part in it
abbrev pub asks_or_sets : Line → Bool
asks_or_sets (Tick count) = false
asks_or_sets (Command order) = false
asks_or_sets (Join node) = false
asks_or_sets (Cancel command) = false
asks_or_sets Restart = false
asks_or_sets (Repeat frame) = false
asks_or_sets (Wake node) = false
asks_or_sets (Local node value) = false
asks_or_sets (Show node) = false
asks_or_sets line = true

-- a line that sets something outside the host
abbrev pub IsSetting : Line → Type 0
IsSetting (Cut size) = Unit {0}
IsSetting (Stall ticks) = Unit {0}
IsSetting (Drop side) = Unit {0}
IsSetting (Garble side place xor) = Unit {0}
IsSetting Collide = Unit {0}
IsSetting (Lose count) = Unit {0}
IsSetting (LoseAck count) = Unit {0}
IsSetting (Link first second) = Unit {0}
IsSetting (Unlink first second) = Unit {0}
IsSetting line = ⊥

-- the host took what was asked for, and nothing is entered; or its refusal is
abbrev pub Answers : {A : Type 0} → Result A Refused → OuterState → OuterState → List Entry → List Entry → Type 0
Answers (Ok value) old new before all = (new ≡ old) × (all ≡ before)
Answers (Err refused) old new before all = (refusal : Refusal) × (shown refused ≡ Some refusal) × Goes (Host_notes (refused_entry refusal) ∷ []) old new before all

-- the line that asks a question of the chip
abbrev pub line_of : Question → Line
line_of Members = Discover
line_of (Neighbours node) = neighbours node
line_of (Failed node) = failed node
line_of Probe = probe

-- a question is asked for, or refused
abbrev pub IsAsked : Question → Schedule
IsAsked question m events = Asks (places_refusal m.host.state (places_of question)) (line_of question) (question_event question) events

-- on an allocation failure the bytes on their way to the chip are lost, and those to the host are not; or neither, and nothing is entered
abbrev pub ClearsInPart : OuterState → List Entry → List Entry → Type 0
ClearsInPart old before all = (all ≡ before) ⊎ ((mid : OuterState) × Goes (Clears_pipe side.Host ∷ []) old mid before all)

-- what is entered where no host starts from the records
abbrev pub shown_unopened : OpenFault → Option Refusal
shown_unopened opening.KeeperFault = Some KeeperFault
shown_unopened (opening.BadRecord at) = Some (BadRecord at)
shown_unopened opening.NoMemory = None
