-- Results of SendData and of RequestNodeInfo, in the order in which the chip is given them (this project's own rule,
-- docs/MACHINE.md).
use Rattle.std.specs.Prelude.{ℕ, zero, suc, ◌+◌, ◌&&◌, ◌||◌, Bool, nat_lt, if◌then◌else◌, Option, Some, None, List, [], ◌∷◌, drop, slice_get}
use Rattle.std.specs.Option.{is_some, unwrap_or}
use Rattle.zw_base.specs.declared.profile.Profile.{Profile}
use Rattle.route_table.specs.declared.route.Route.{Route}
use Rattle.route_table.specs.Network.{linked}
use Rattle.chip_functions.specs.Notice.{status_of}
use Rattle.chip_functions.specs.declared.notice.TransmitStatus.{TransmitStatus}
use Rattle.chip_functions.specs.declared.notice.TransmitStatus.TheVariants.{Fail, NoRoute}
use Rattle.chip_sim.specs.State.{ChipState}
use Rattle.chip_sim.specs.Events.{after, Done, Informed, Forgets}
use Rattle.mesh_sim.specs.Devices.{State, Kind, listens, classes_of}
use Rattle.mesh_sim.specs.Air.{AirState, is_joined}
use Rattle.mesh_sim.specs.Fates.{place_of}
use Rattle.mesh_sim.specs.Routes.{IsRoute}
use Rattle.zw_text.specs.declared.entry.Entry.TheVariants.{Forget}
use Rattle.outside_model.specs.declared.waits.Due.{Due}
use Rattle.outside_model.specs.declared.waits.Due.TheVariants.{Info, NoRoute as no_route_due}
use Rattle.outside_model.specs.declared.waits.Call.{Call}
use Rattle.outside_model.specs.declared.waits.Call.TheVariants.{OfFrame, NoRoute as no_route_call}
use Rattle.outside_model.specs.State.{OuterState, Outcome, with_chip, silent, tells, and_then}
use Rattle.outside_model.specs.Chip.{chip_does}

-- the chip waits for the result of a SendData
abbrev pub owes_call : ChipState → Bool
owes_call state = nat_lt 0 state.aborted || is_some state.sending

-- the chip is given a result, which is that of the call that it waits for longest
abbrev pub call_back : OuterState → TransmitStatus → Outcome
call_back o status =
    if owes_call o.chip.state then chip_does (record o { calls = drop 1 o.calls }) (Done status) else silent (record o { calls = drop 1 o.calls })

-- what is due without the first result of a SendData without a route
abbrev pub without_no_route : List Due → List Due
without_no_route [] = []
without_no_route (no_route_due ∷ due) = due
without_no_route (Info node ∷ due) = Info node ∷ without_no_route due

-- the chip is given that result
abbrev pub no_route : OuterState → Outcome
no_route o = call_back (record o { due = without_no_route o.due }) NoRoute

-- how many results without a route come before that of a frame
abbrev pub leading : List Call → ℕ
leading [] = 0
leading (OfFrame ∷ calls) = 0
leading (no_route_call ∷ calls) = leading calls + 1

-- the chip is given so many of them
abbrev pub no_routes : ℕ → OuterState → Outcome
no_routes zero o = silent o
no_routes (suc count) o = and_then (no_route o) (λ later. no_routes count later)

-- the first hop of a frame's way that is no link leaves the chip's table, where it is there
abbrev pub forgets : OuterState → Option (ℕ × ℕ) → Outcome
forgets o None = silent o
forgets o (Some hop) =
    if linked o.chip.state.table hop.0 hop.1 then tells (with_chip o (after o.chip.state (Forgets hop.0 hop.1))) (Forget hop.0 hop.1 ∷ []) else silent o

-- a frame of the chip came to its end: results without a route that were due before its own come first
abbrev pub frame_ends : OuterState → ℕ → Option (ℕ × ℕ) → Outcome
frame_ends o status dead =
    and_then (forgets o dead) (λ forgot. and_then (no_routes (leading forgot.calls) forgot) (λ later. call_back later (unwrap_or (status_of status) Fail)))

-- what a kind of device tells of itself
abbrev pub profile_of : Kind → Profile
profile_of kind = record { listening = listens kind; classes = classes_of kind }

-- a device tells it while it is awake
abbrev pub told_profile : Option State → Option Profile
told_profile None = None
told_profile (Some device) = if device.awake then Some (profile_of device.kind) else None

-- the device at a place of the list
abbrev pub device_at : List State → Option ℕ → Option State
device_at devices None = None
device_at devices (Some place) = slice_get devices place

-- the information of a node comes where the node is joined, has a route in the air, and its device is awake
abbrev pub profile_for : AirState → List State → ℕ → Option Route → Option Profile
profile_for air devices node route =
    if is_joined air node && is_some route then told_profile (device_at devices (place_of node devices)) else None

abbrev pub informs : OuterState → List State → ℕ → Option Route → Outcome
informs o devices node route = chip_does o (Informed node (profile_for o.air devices node route))

-- the chip is given what is due first; for the information of a node, with the node's route in the air
abbrev pub gives : OuterState → List State → List Due → Option Route → Outcome
gives o devices [] route = silent o
gives o devices (no_route_due ∷ due) route = no_route o
gives o devices (Info node ∷ due) route = informs (record o { due = due }) devices node route

abbrev pub MayGive : OuterState → List Due → Option Route → Type 0
MayGive o [] route = Unit {0}
MayGive o (no_route_due ∷ due) route = Unit {0}
MayGive o (Info node ∷ due) route = IsRoute o.air.network node route
