-- How many frames have landed and were sent, after what was told is dealt with.
use Rattle.std.proofs.Common.{◌≡◌, ℕ, zero, suc, ◌≤◌, Bool, true, false, List, [], ◌∷◌, length, refl, ap, sym, ◌∙◌, subst, arith, drop}
use Rattle.std.specs.Prelude.{Option, Some, None, if◌then◌else◌, ◌&&◌, nat_le}
use Rattle.std.specs.Option.{unwrap_or}
use Rattle.route_table.specs.declared.route.Route.{Route}
use Rattle.route_table.specs.Network.{linked}
use Rattle.air_frames.specs.Frames.{putting, next_of}
use Rattle.chip_functions.specs.Notice.{status_of}
use Rattle.chip_functions.specs.declared.notice.TransmitStatus.{TransmitStatus}
use Rattle.chip_functions.specs.declared.notice.TransmitStatus.TheVariants.{Fail, NoRoute}
use Rattle.chip_sim.specs.Events.{ChipEvent, Done, Forgets, Heard as chip_hears, after, outs}
use Rattle.chip_sim.specs.declared.out.ChipOut.{ChipOut}
use Rattle.chip_sim.specs.declared.out.ChipOut.TheVariants as out
use Rattle.device_sim.specs.State.{State}
use Rattle.mesh_sim.specs.Air.{AirState}
use Rattle.mesh_sim.specs.declared.event.AirEvent.{AirEvent}
use Rattle.mesh_sim.specs.declared.event.AirEvent.TheVariants as event
use Rattle.mesh_sim.specs.Steps.{AirStep, mesh_after, mesh_outs, MayHappen}
use Rattle.mesh_sim.specs.Steps as mesh
use Rattle.mesh_sim.proofs.StepLists.{Moves, moves_if}
use Rattle.zw_text.specs.declared.entry.Entry.{Entry}
use Rattle.zw_text.specs.declared.entry.Entry.TheVariants.{Forget}
use Rattle.outside_model.specs.State.{OuterState, Outside, outside, Outcome, each, with_chip, silent, tells}
use Rattle.outside_model.specs.Chip.{put_out, chip_does}
use Rattle.outside_model.specs.Results.{owes_call, call_back, no_route, no_routes, without_no_route, leading, forgets, frame_ends}
use Rattle.outside_model.specs.Air.{deals, to_chip}
use Rattle.outside_model.specs.Events.{OuterEvent, Arrives, outcome, devices_after, May, steps, mesh_of, has_entered}
use Rattle.outside_model.specs.Did.{Run, RunOf}
use Rattle.outside_model.specs.Schedules.{Arrivals}

-- no more have landed, and no fewer were sent
record Keeps (old new : AirState) : Type 0 where
  landed : new.frames.landed ≡ old.frames.landed
  sent : old.frames.sent ≤ new.frames.sent

keeps_self : (a : AirState) → Keeps a a
keeps_self a = record { landed = refl; sent = omega arith }

keeps_both : (a b c : AirState) → Keeps a b → Keeps b c → Keeps a c
keeps_both a b c first more = record { landed = more.landed ∙ first.landed; sent = let x = first.sent in let y = more.sent in omega arith }

put_keeps : (o : OuterState) (x : ChipOut) → Keeps o.air (put_out o x).outer.air
unfolding putting
put_keeps o (out.Write unit) = keeps_self o.air
put_keeps o (out.OnAir to route payload) = record { landed = refl; sent = omega arith }
put_keeps o out.NoRoute = keeps_self o.air
put_keeps o (out.AskInfo node) = keeps_self o.air
put_keeps o out.Full = keeps_self o.air

module _ {X : Type 0} (step : OuterState → X → Outcome) (keeps : (o : OuterState) (x : X) → Keeps o.air (step o x).outer.air) where
  each_keeps : (xs : List X) (o : OuterState) → Keeps o.air (each step o xs).outer.air
  each_keeps [] o = keeps_self o.air
  each_keeps (x ∷ xs) o = keeps_both o.air (step o x).outer.air (each step (step o x).outer xs).outer.air (keeps o x) (each_keeps xs (step o x).outer)

chip_keeps : (o : OuterState) (e : ChipEvent) → Keeps o.air (chip_does o e).outer.air
unfolding chip_does
chip_keeps o e = each_keeps put_out put_keeps (outs o.chip.state e) (with_chip o (after o.chip.state e))

-- either way
either_keeps : (b : Bool) (o : OuterState) (x y : Outcome) → Keeps o.air x.outer.air → Keeps o.air y.outer.air → Keeps o.air (if b then x else y).outer.air
either_keeps true o x y first other = first
either_keeps false o x y first other = other

abbrev pub call_left : OuterState → OuterState
call_left o = record o { calls = drop 1 o.calls }

call_keeps : (o : OuterState) (status : TransmitStatus) → Keeps o.air (call_back o status).outer.air
call_keeps o status =
    either_keeps (owes_call o.chip.state) o (chip_does (call_left o) (Done status)) (silent (call_left o)) (chip_keeps (call_left o) (Done status)) (keeps_self o.air)

no_route_keeps : (o : OuterState) → Keeps o.air (no_route o).outer.air
no_route_keeps o = call_keeps (record o { due = without_no_route o.due }) NoRoute

no_routes_keep : (count : ℕ) (o : OuterState) → Keeps o.air (no_routes count o).outer.air
no_routes_keep zero o = keeps_self o.air
no_routes_keep (suc count) o =
    keeps_both o.air (no_route o).outer.air (no_routes count (no_route o).outer).outer.air (no_route_keeps o) (no_routes_keep count (no_route o).outer)

abbrev pub forgot : OuterState → ℕ × ℕ → Outcome
forgot o hop = tells (with_chip o (after o.chip.state (Forgets hop.0 hop.1))) (Forget hop.0 hop.1 ∷ [])

forgets_keep : (o : OuterState) (dead : Option (ℕ × ℕ)) → Keeps o.air (forgets o dead).outer.air
forgets_keep o None = keeps_self o.air
forgets_keep o (Some hop) =
    either_keeps (linked o.chip.state.table hop.0 hop.1) o (forgot o hop) (silent o) (keeps_self o.air) (keeps_self o.air)

end_keeps : (o : OuterState) (status : ℕ) (dead : Option (ℕ × ℕ)) → Keeps o.air (frame_ends o status dead).outer.air
end_keeps o status dead =
    let a : OuterState = (forgets o dead).outer in
    let b : OuterState = (no_routes (leading a.calls) a).outer in
    keeps_both o.air b.air (call_back b (unwrap_or (status_of status) Fail)).outer.air
    (keeps_both o.air a.air b.air (forgets_keep o dead) (no_routes_keep (leading a.calls) a)) (call_keeps b (unwrap_or (status_of status) Fail))

to_chip_keeps : (o : OuterState) (from : ℕ) (payload : List ℕ) → Keeps o.air (to_chip o from payload).outer.air
to_chip_keeps o from payload =
    either_keeps (nat_le 1 (length payload) && nat_le (length payload) 46) o (chip_does o (chip_hears from payload)) (silent o) (chip_keeps o (chip_hears from payload)) (keeps_self o.air)

deals_keep : (ds : List State) (o : OuterState) (e : AirEvent) → Keeps o.air (deals ds o e).outer.air
deals_keep ds o (event.Heard frame) = keeps_self o.air
deals_keep ds o (event.Lost frame) = keeps_self o.air
deals_keep ds o (event.Unheard frame) = keeps_self o.air
deals_keep ds o (event.Sent frame from to route payload) = keeps_self o.air
deals_keep ds o (event.Changed node at) = keeps_self o.air
deals_keep ds o (event.ToChip frame from payload) = to_chip_keeps o from payload
deals_keep ds o (event.Done frame status dead) = end_keeps o status dead

entered_air : (o : OuterState) (entries : List Entry) → (has_entered o entries).air ≡ o.air
entered_air o [] = refl
entered_air o (entry ∷ entries) = refl

-- one more landed where a frame arrived
arrival_moves : (o : OuterState) (ds : List State) (drawn : List ℕ) (route : Option Route) → MayHappen (mesh_of (outside o ds)) (mesh.Arrives drawn route) → Moves o.air (steps (outside o ds) (mesh.Arrives drawn route)).outer.air
unfolding mesh_after MayHappen
arrival_moves o ds drawn route may =
    let w : Outside = outside o ds in
    let air : AirState = (mesh_after (mesh_of w) (mesh.Arrives drawn route)).air in
    let later : List State = (mesh_after (mesh_of w) (mesh.Arrives drawn route)).devices in
    let first : Moves o.air air = moves_if o.air ds (next_of o.air.frames) drawn route may.0 in
    let more : Keeps air (steps w (mesh.Arrives drawn route)).outer.air = each_keeps (deals later) (deals_keep later) (mesh_outs (mesh_of w) (mesh.Arrives drawn route)) (record o { air = air }) in
    record { landed = more.landed ∙ first.landed; sent = let x = first.sent in let y = more.sent in omega arith }

event_moves : (o new : OuterState) (ds later : List State) (drawn : List ℕ) (route : Option Route) (before all : List Entry)
    → Run (Arrives drawn route ∷ []) (outside o ds) (outside new later) before all → Moves o.air new.air
unfolding outcome devices_after May
event_moves o new ds later drawn route before all run =
    let told : Outcome = steps (outside o ds) (mesh.Arrives drawn route) in
    let is : new.air ≡ told.outer.air = ap (λ (w : Outside). w.outer.air) run.state ∙ entered_air told.outer told.entries in
    subst (λ (a : AirState). Moves o.air a) (sym is) (arrival_moves o ds drawn route run.may.0)

pub arrive_moves : (o new : OuterState) (ds later : List State) (before all : List Entry) → RunOf (Arrivals 1) (outside o ds) (outside new later) before all → Moves o.air new.air
arrive_moves o new ds later before all (events, (drawn, route, rest, are, last), run) =
    let is : events ≡ Arrives drawn route ∷ [] = are ∙ ap (λ (l : List OuterEvent). Arrives drawn route ∷ l) last in
    event_moves o new ds later drawn route before all (subst (λ (l : List OuterEvent). Run l (outside o ds) (outside new later) before all) is run)
