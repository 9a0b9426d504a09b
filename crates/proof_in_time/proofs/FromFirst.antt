-- What is so of the events of lines from the first machine on, as the walks over courses assume it.
use Rattle.std.proofs.Common.{◌≡◌, ℕ, ◌<◌, List, [], ◌∷◌, Some, refl}
use Rattle.std.specs.Prelude.{Ok, Option, slice_get}
use Rattle.std.specs.List.{AllByRecursion}
use Rattle.s0_crypto.specs.declared.key_pair.Keys.{Keys}
use Rattle.zw_base.proofs.Each.{all-weaker}
use Rattle.zw_text.specs.Line.{line_at}
use Rattle.zw_text.specs.declared.line.Line.{Line}
use Rattle.device_sim.specs.State.{State}
use Rattle.host_model.specs.State.{first_host}
use Rattle.world_model.specs.Did.{MayAll}
use Rattle.world_model.specs.Events.{Event, happens}
use Rattle.world_model.specs.State.{Machine, first_machine}
use Rattle.world_lines.specs.Spoken.{Spoken}
use Rattle.world_lines.specs.Done.{AreDone, IsRead, events_of}
use Rattle.proof_course_plain.specs.OnAir.{AlwaysFew}
use Rattle.proof_course_plain.specs.OutsideTraffic.{AreNodes}
use Rattle.proof_course_plain.specs.World.{NamesEnd}
use Rattle.proof_course_plain.proofs.Runs.{nodes_of}
use Rattle.proof_spoken.specs.Restarts.{AllKeepWell, BeginsEmpty, IsHeld}
use Rattle.proof_spoken.specs.proof_serial.Host.{AllAskWell}
use Rattle.proof_spoken.specs.proof_serial.Line.{AllAtRest, AllWriteWell, AreLines, Stays}
use Rattle.proof_spoken.proofs.SpokenLines.{all_lines, all_may, all_read, lines_of}

pub record Can (m : Machine) (events : List Event) : Type 0 where
  pub may : MayAll m events
  pub rests : AllAtRest m events
  pub well : AllWriteWell m events
  pub few : AlwaysFew m events
  pub keeps : AllKeepWell m events
  pub held : IsHeld m.host.state m.records

pub can_then : (m : Machine) (event : Event) (events : List Event) → IsHeld (happens m event).host.state (happens m event).records → Can m (event ∷ events) → Can (happens m event) events
can_then m event events held can = record { may = can.may.1; rests = can.rests.1; well = can.well.1; few = can.few.2; keeps = can.keeps.1; held = held }

-- what is proved of lines
pub record Laws : Type 0 where
  pub asks : (keys : Keys) (devices : List State) (lines : List Line) (events : List Event) → AreLines lines (first_machine keys (Some []) devices) events → MayAll (first_machine keys (Some []) devices) events
      → AllKeepWell (first_machine keys (Some []) devices) events × AllAskWell (first_machine keys (Some []) devices) events
  pub writes : (keys : Keys) (records : Option (List (List ℕ))) (devices : List State) (events : List Event) → MayAll (first_machine keys records devices) events → AllAskWell (first_machine keys records devices) events
      → AllWriteWell (first_machine keys records devices) events
  pub stays : (keys : Keys) (records : Option (List (List ℕ))) (devices : List State) (lines : List Line) (events : List Event) → AreLines lines (first_machine keys records devices) events → MayAll (first_machine keys records devices) events
      → AllWriteWell (first_machine keys records devices) events → Stays (first_machine keys records devices) events
  pub few : (keys : Keys) (records : Option (List (List ℕ))) (devices : List State) (lines : List Line) (events : List Event) → AreNodes devices → AreLines lines (first_machine keys records devices) events
      → MayAll (first_machine keys records devices) events → AllAskWell (first_machine keys records devices) events → AlwaysFew (first_machine keys records devices) events
  pub held : (keys : Keys) (records : Option (List (List ℕ))) → BeginsEmpty records → IsHeld (first_host keys) records
  pub names : (text : List ℕ) (line : Line) → line_at text ≡ Ok (Some line) → NamesEnd line

module _ (laws : Laws) (keys : Keys) (devices : List State) (lines : List Spoken) (are : AreDone (first_machine keys (Some []) devices) lines) where
  abbrev m : Machine
  m = first_machine keys (Some []) devices

  pub can_of : ((other : ℕ) (one : State) → slice_get devices other ≡ Some one → one.node < 233) → Can m (events_of lines)
  can_of nodes =
      let whole = all_lines m lines are in
      let may = all_may m lines are in
      let well = laws.asks keys devices (lines_of lines) (events_of lines) whole may in
      let writes = laws.writes keys (Some []) devices (events_of lines) may well.1 in
      record {
        may = may;
        rests = (laws.stays keys (Some []) devices (lines_of lines) (events_of lines) whole may writes).at_rest;
        well = writes;
        few = laws.few keys (Some []) devices (lines_of lines) (events_of lines) (nodes_of devices nodes) whole may well.1;
        keeps = well.0;
        held = laws.held keys (Some []) refl;
      }

  pub names_of : AllByRecursion NamesEnd (lines_of lines)
  names_of = all-weaker IsRead NamesEnd (λ line read. laws.names read.0 line read.1) (lines_of lines) (all_read m lines are)
