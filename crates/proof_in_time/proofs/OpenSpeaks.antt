-- What is on its way to the host asks it for nothing, from event to event, where what answers a frame that arrives does not: the devices of these nodes tell plainly in their ticks, and as they are woken.
use Rattle.std.proofs.Common.{◌≡◌, ℕ, Bool, true, List, length, refl, sym, subst}
use Rattle.std.specs.Prelude.{Option}
use Rattle.std.specs.List.{AllByRecursion}
use Rattle.zw_base.proofs.Each.{all-append, all-weaker}
use Rattle.route_table.specs.declared.route.Route.{Route}
use Rattle.air_frames.specs.Flown.{Flown}
use Rattle.chip_sim.specs.Nodes.{is_marked}
use Rattle.device_sim.specs.Event.{Ticks, device_replies}
use Rattle.outside_model.specs.Events.{Arrives, Device_ticks, Wakes_device}
use Rattle.world_model.specs.Events.{Event, May, Outside_does, happens}
use Rattle.world_model.specs.State.{Machine}
use Rattle.proof_messages.specs.Reporting.{TellsPlainly}
use Rattle.proof_answered.specs.proof_calm.proof_traffic.OnAir.{on_air}
use Rattle.proof_answered.specs.proof_calm.proof_work.proof_walk.Phases.{Goes, Phase}
use Rattle.proof_answered.specs.proof_calm.Resting.{LineAt}
use Rattle.proof_answered.specs.Outward.{IsOf, IsOfSaying, IsSentTo}
use Rattle.proof_answered.specs.Said.{SaysAt, SaysThen}
use Rattle.proof_answered.specs.Sleepers.{TellsQuietly}
use Rattle.proof_answered.specs.Workers.{LinesAt, OnlySpeak}
use Rattle.proof_answered.proofs.Outwards.{awaits_of}
use Rattle.proof_answered.proofs.Peopled.{covers_of}
use Rattle.proof_answered.proofs.Speaking.{AirOn, Arrived, Same, Stays, event_on, next_is_so, pending_from}
use Rattle.proof_answered.proofs.Staffed.{line_on}
use Rattle.proof_answered.proofs.proof_traffic_Parts.{Airs}
use Rattle.proof_in_time.specs.InStep.{HasInStep}
use Rattle.proof_in_time.specs.Plainly.{SpeakPlainly}
use Rattle.proof_in_time.proofs.PartsSupplied.{TiedAt}
use Rattle.proof_in_time.proofs.Plainly.{Tells, quiet_tells, ticks_so, wakes_plainly}

-- what was so of each frame is, where it is of what is said
said_so : (Is : Flown → Type 0) (m : Machine) (event : Event) → AirOn Is m event → AllByRecursion Is (on_air m.outside.outer.air.frames) → AllByRecursion Is (on_air (happens m event).outside.outer.air.frames)
said_so Is m event (Stays none add) all = subst (AllByRecursion Is) (sym add.are) (all-append Is (on_air m.outside.outer.air.frames) add.added all add.so)
said_so Is m event (Arrived drawn route arrives lands) all =
    let add = lands.later in
    subst (AllByRecursion Is) (sym add.are) (all-append Is lands.rest add.added (subst (AllByRecursion Is) lands.are all).1 add.so)

-- where no frame arrives, what devices say tells plainly
pub says_then : (these : List Bool) (m : Machine) (event : Event) → ((k : ℕ) → is_marked these k ≡ true → HasInStep k m) → Tells → ((drawn : List ℕ) (route : Option Route) → event ≡ Outside_does (Arrives drawn route) → SaysAt these TellsPlainly m.outside (Arrives drawn route))
    → SaysThen these TellsPlainly m event
says_then these m (Outside_does (Arrives drawn route)) steps tells heard = heard drawn route refl
says_then these m (Outside_does (Device_ticks place drawn route)) steps tells heard =
    λ device marked there. all-weaker TellsQuietly TellsPlainly quiet_tells (device_replies device (Ticks drawn)) (ticks_so these m steps tells place device drawn marked there)
says_then these m (Outside_does (Wakes_device node route)) steps tells heard = λ place device first there. wakes_plainly device
says_then these m (Outside_does event) steps tells heard = tt
says_then these m event steps tells heard = tt

-- so it is of all that is on its way
pub speaks_then : (airs : Airs) (same : Same) (these : List Bool) (many : length these ≡ 233) (here next : Phase) (m : Machine) (event : Event) → Goes here m event next → May m event → TiedAt these here m → LineAt next (happens m event) → IsSentTo these m event
    → LinesAt these here → OnlySpeak these m → SaysThen these TellsPlainly m event → SpeakPlainly these m → SpeakPlainly these (happens m event)
speaks_then airs same these many here next m event goes may tied then_line sent lines speak says was =
    let awaits = awaits_of here m tied.awaits in
    let marked = all-weaker (IsOfSaying these TellsPlainly) (IsOf these) (λ frame of. of.0) (on_air m.outside.outer.air.frames) was.frames in
    record {
      frames = said_so (IsOfSaying these TellsPlainly) m event
          (event_on airs these TellsPlainly many m awaits marked same event (covers_of here next m event goes tied.line) may sent (line_on these here next m event goes lines) speak.devices says) was.frames;
      pending = pending_from these TellsPlainly airs here next m event goes may (tied.line, tied.room, tied.routed, tied.tie) tied.awaits then_line (next_is_so airs these TellsPlainly many m awaits was.frames) was.pending;
    }
