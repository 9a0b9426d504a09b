-- The units on the serial line when a node is added, each with callback id 1 (Serial API: Add Node To Network).
use Rattle.std.specs.Prelude.{ℕ, List, [], ◌∷◌, ◌++◌}
use Rattle.zw_words.specs.declared.side.Side.TheVariants.{Host, Chip}
use Rattle.serial_frame.specs.Items.{unit_text}
use Rattle.serial_frame.specs.declared.unit.Unit.TheVariants.{Framed}
use Rattle.serial_frame.specs.declared.frame.Kind.TheVariants.{Request as of_request}
use Rattle.chip_functions.specs.Request.{request_function, request_body}
use Rattle.chip_functions.specs.Notice.{notice_function, notice_body}
use Rattle.chip_functions.specs.declared.request.Request.TheVariants.{AddNode as AddRequest}
use Rattle.chip_functions.specs.declared.notice.Notice.TheVariants.{AddNode as AddNotice}
use Rattle.chip_functions.specs.declared.add_node.AddMode.{AddMode}
use Rattle.chip_functions.specs.declared.add_node.AddMode.TheVariants.{Any, Stop}
use Rattle.chip_functions.specs.declared.add_node.AddStatus.{AddStatus}
use Rattle.chip_functions.specs.declared.add_node.AddStatus.TheVariants.{LearnReady, AddingSlave, ProtocolDone, Done}
use Rattle.chip_functions.specs.declared.add_node.AddedNode.{AddedNode}
use Rattle.chip_functions.specs.declared.add_node.AddedNode.TheVariants.{Unnamed, Named, Described}
use Rattle.include_text.specs.declared.entry.IncludeEntry.{IncludeEntry}
use Rattle.include_text.specs.declared.entry.IncludeEntry.TheVariants.{Written}
use Rattle.include_world.specs.declared.units.AddUnits.{AddUnits}
use Rattle.include_world.specs.declared.units.TwoUnits.{TwoUnits}

-- what the host writes to begin or to end the adding
abbrev pub host_unit : AddMode → IncludeEntry
host_unit mode = Written Host (unit_text (Framed (record { kind = of_request; func = request_function (AddRequest mode 1); body = request_body (AddRequest mode 1) })))

-- what the chip tells of the adding
abbrev pub chip_unit : AddStatus → AddedNode → IncludeEntry
chip_unit status added = Written Chip (unit_text (Framed (record { kind = of_request; func = notice_function (AddNotice 1 status added); body = notice_body (AddNotice 1 status added) })))

-- the device that is added: a lock, with Door Lock, Security 0 and Supervision
abbrev pub lock : ℕ → AddedNode
lock node = Described node 0x04 0 0 (0x62 ∷ 0x98 ∷ 0x6C ∷ [])

-- the host asks for a node, and the chip is ready
abbrev pub opening_units : TwoUnits
opening_units = record { first = host_unit Any; second = chip_unit LearnReady Unnamed }

-- the chip tells of the device, and that it is done with the radio
abbrev pub found_units : ℕ → TwoUnits
found_units node = record { first = chip_unit AddingSlave (lock node); second = chip_unit ProtocolDone (Named node) }

-- the host ends the adding, and the chip is done
abbrev pub closing_units : ℕ → TwoUnits
closing_units node = record { first = host_unit Stop; second = chip_unit Done (Named node) }

-- the units of the adding of a node
abbrev pub units_of : ℕ → AddUnits
units_of node = record { opening = opening_units; found = found_units node; closing = closing_units node }

-- two in their order
abbrev pub both : TwoUnits → List IncludeEntry
both units = units.first ∷ units.second ∷ []

-- in their order
abbrev pub in_order : AddUnits → List IncludeEntry
in_order units = both units.opening ++ (both units.found ++ both units.closing)
