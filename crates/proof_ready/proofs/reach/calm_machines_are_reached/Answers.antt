-- The networks of the machine are those of the transcript where no line runs.
use Rattle.std.proofs.Common.{[], sym, subst}
use Rattle.std.specs.Prelude.{Some}
use Rattle.std.specs.List.{AllByRecursion}
use Rattle.law_wire.specs.Routes.{MayGo}
use Rattle.proof_chip.specs.proof_line.world_model.State.{Machine, first_machine}
use Rattle.proof_chip.specs.proof_world.world_lines.Spoken.{after_all, transcript_of}
use Rattle.proof_chip.proofs.Lines.{lines_lead}
use Rattle.proof_devices.specs.proof_routes.Knowing.{KnowNetworks}
use Rattle.proof_in_time.specs.proof_answered.proof_calm.Live.{IsLiveOf}
use Rattle.proof_ready.proofs.Reached.{reached}
use Rattle.proof_ready.proofs.reach.calm_machines_are_reached.Goals as goal

pub returns-clause-reached : goal.returns-clause-reached
returns-clause-reached c = λ keys devices lines are whole n joined can.
    let m = first_machine keys (Some []) devices in
    let networks = (lines_lead (MayGo devices) (KnowNetworks devices) (c.networks_go_on.ensures.walk devices) [] m lines are whole (c.networks_go_on.ensures.first keys [] devices)).1 in
    let tie = c.networks_go_on.ensures.tie devices (transcript_of m lines) (after_all m lines) networks in
    reached devices (transcript_of m lines) (after_all m lines).outside tie n joined can

pub returns-clause-live : goal.returns-clause-live
returns-clause-live c = λ keys devices lines are whole nodes none moves empty these can.
    let m : Machine = after_all (first_machine keys (Some []) devices) lines in
    let air = c.calm_air_is_empty.ensures keys devices lines are whole empty in
    record {
      fly = subst (AllByRecursion (IsLiveOf these m.outside.outer.air.network)) (sym air.none_flies) tt;
      sized = c.lines_await_calls.ensures.sized keys devices lines are whole nodes;
      reached = λ n marked. let is = can n marked in returns-clause-reached c keys devices lines are whole n is.0 is.1;
      none_marked = (c.calm_machines_are_unmarked.ensures keys devices lines are whole none moves).frames;
    }
