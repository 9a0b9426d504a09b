-- What a run shows of its devices (this project's own rule): directly after a line `show` stand the values that the device of its node has then, and
-- nowhere else; and no line of the table at the end stands in a run.
use Rattle.std.specs.Prelude.{◌≡◌, List, [], ◌∷◌, ◌++◌, map, drop, option_map, ⊤}
use Rattle.law_transcript.specs.device_kinds.declared.change.Change.{Change}
use Rattle.law_transcript.specs.device_sim.State.{State}
use Rattle.zw_text.specs.declared.line.Line.{Line}
use Rattle.zw_text.specs.declared.line.Line.TheVariants as lines
use Rattle.zw_text.specs.declared.entry.Entry.{Entry}
use Rattle.zw_text.specs.declared.entry.Entry.TheVariants.{Said, Device, TableEnd, TableNode, TableValue, BadLine}
use Rattle.zw_text.specs.Transcript.{Made, line_of, made}
use Rattle.law_transcript.specs.Lists.{EachAfter}
use Rattle.law_transcript.specs.Nodes.{device_of}
use Rattle.law_transcript.specs.Table.{device_lines}

-- a device with the changes that are entered so far
abbrev pub change_of : Made → Change
change_of one = record { by = one.by; settings = one.setting ∷ [] }

abbrev pub as_entered : List Entry → State → State
as_entered past device = record device { journal = device.journal ++ map change_of (made device.node past) }

-- the values that a line asks for
abbrev pub asked_to_show : List State → List Entry → List Line → List Entry
asked_to_show devices past (lines.Show node ∷ more) = device_lines node (option_map (as_entered past) (device_of node devices))
asked_to_show devices past _ = []

-- those that are still to stand
abbrev pub to_show_step : List State → List Entry → List Entry → Entry → List Entry
to_show_step devices past due (Said words) = asked_to_show devices past (line_of (Said words))
to_show_step devices past due entry = drop 1 due

abbrev pub to_show_from : List State → List Entry → List Entry → List Entry → List Entry
to_show_from devices due past [] = due
to_show_from devices due past (entry ∷ rest) = to_show_from devices (to_show_step devices past due entry) (past ++ entry ∷ []) rest

abbrev pub to_show : List State → List Entry → List Entry
to_show devices past = to_show_from devices [] [] past

-- the next of them stands, and where there is none no value of a device, nor what stands after a run
abbrev pub IsToShow : List Entry → Entry → Type 0
IsToShow (due ∷ more) entry = entry ≡ due
IsToShow [] (Device node setting) = ⊥
IsToShow [] (TableEnd ticks) = ⊥
IsToShow [] (TableNode node sessions) = ⊥
IsToShow [] (TableValue node property confirmed heard) = ⊥
IsToShow [] (BadLine line fault) = ⊥
IsToShow [] entry = ⊤

abbrev pub ShowsDevices : List State → List Entry → Type 0
ShowsDevices devices transcript = EachAfter (λ past entry. IsToShow (to_show devices past) entry) [] transcript
