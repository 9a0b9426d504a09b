-- What the chip does outside itself: where its outputs go (this project's own rule, docs/MACHINE.md).
use Rattle.std.specs.Prelude.{◌≡◌, ◌≢◌, ℕ, ◌≤◌, length, ◌+◌, ◌&&◌, Bool, false, nat_le, Option, Some, List, [], ◌∷◌, ◌++◌, filter, map, take}
use Rattle.serial_frame.specs.Stream.{Rest, Feeds, after_tick}
use Rattle.serial_frame.specs.declared.item.Item.{Item}
use Rattle.route_table.specs.declared.route.Route.{Route}
use Rattle.route_table.specs.Route.{via}
use Rattle.air_frames.specs.declared.frame.Heading.TheVariants.{Outward}
use Rattle.air_frames.specs.Flown.{IsSound}
use Rattle.mesh_sim.specs.Air.{departing}
use Rattle.chip_sim.specs.Events.{ChipEvent, Ticked, after, outs}
use Rattle.chip_sim.specs.Did.{MayAll, judged_all}
use Rattle.chip_sim.specs.declared.out.ChipOut.{ChipOut}
use Rattle.chip_sim.specs.declared.out.ChipOut.TheVariants.{Write, OnAir, NoRoute, AskInfo, Full}
use Rattle.serial_pipes.specs.Events.{told, Writes, Takes}
use Rattle.serial_pipes.specs.Events as way
use Rattle.zw_words.specs.declared.side.Side.TheVariants.{Chip as by_chip}
use Rattle.zw_text.specs.declared.entry.Entry.TheVariants.{Air, ChipFull}
use Rattle.outside_model.specs.declared.waits.Due.TheVariants.{Info, NoRoute as no_route_due}
use Rattle.outside_model.specs.declared.waits.Call.TheVariants.{OfFrame, NoRoute as no_route_call}
use Rattle.outside_model.specs.State.{OuterState, Outcome, with_chip, silent, tells, each, is_stalled}

-- the number of a node
abbrev pub is_node : ℕ → Bool
is_node n = nat_le 1 n && nat_le n 232

-- the repeaters that are shown of a route
abbrev pub shown_via : Route → List ℕ
shown_via route = filter is_node (via route)

-- an output: a unit goes to the host; a payload goes on the air, over the route of the chip's table; a result without a
-- route and the information of a node are due at the next tick
abbrev pub put_out : OuterState → ChipOut → Outcome
put_out o (Write unit) = record { outer = record o { to_host = way.after o.to_host (Writes unit) }; entries = told by_chip o.to_host unit }
put_out o (OnAir to route payload) = record {
  outer = record o { air = departing o.air to Outward (Some route) payload; calls = o.calls ++ OfFrame ∷ [] };
  entries = Air (o.air.frames.sent + 1) 1 to (shown_via route) payload ∷ [];
}
put_out o NoRoute = silent (record o { due = o.due ++ no_route_due ∷ []; calls = o.calls ++ no_route_call ∷ [] })
put_out o (AskInfo node) = silent (record o { due = o.due ++ Info node ∷ [] })
put_out o Full = tells o (ChipFull ∷ [])

-- a payload of 1 to 46 bytes for another node, over a route of nodes
abbrev pub IsSendable : ChipOut → Type 0
IsSendable (Write unit) = Unit {0}
IsSendable (OnAir to route payload) = (to ≢ 1) × IsSound route × (1 ≤ length payload) × (length payload ≤ 46)
IsSendable NoRoute = Unit {0}
IsSendable (AskInfo node) = Unit {0}
IsSendable Full = Unit {0}

-- an event of the chip, with all that it puts out
unfoldable pub chip_does : OuterState → ChipEvent → Outcome
chip_does o event = each put_out (with_chip o (after o.chip.state event)) (outs o.chip.state event)

-- the chip takes the first bytes of its pipe: they end these items, which it judges in order, and leave this unfinished
abbrev pub chip_takes : OuterState → ℕ → Rest → List (Item × Option Route) → Outcome
chip_takes o count rest ways = each chip_does
    (record o { to_chip = way.after o.to_chip (Takes count); chip = record { decoder = rest; state = o.chip.state } })
    (judged_all ways)

-- the items are those that the bytes end; no byte moves in a stall
pub record MayTake (o : OuterState) (count : ℕ) (rest : Rest) (ways : List (Item × Option Route)) : Type 0 where
  pub moves : is_stalled o ≡ false
  pub feeds : Feeds o.chip.decoder (take count o.to_chip.bytes) rest (map (λ w. w.0) ways)
  pub judges : MayAll o.chip.state (judged_all ways)

-- a tick of the chip
abbrev pub chip_ticks : OuterState → Outcome
chip_ticks o = chip_does (record o { chip = record { decoder = after_tick o.chip.decoder; state = o.chip.state } }) Ticked
