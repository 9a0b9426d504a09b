-- Of lines that are said one after another, each restart starts well and each line tells, where that is so of all their events.
use Rattle.std.proofs.Common.{ℕ, List, [], ◌∷◌, ◌++◌}
use Rattle.proof_once.specs.world_model.State.{Machine}
use Rattle.proof_once.specs.world_model.Events.{Event, happens}
use Rattle.proof_once.specs.world_model.Did.{happens_all}
use Rattle.proof_world.specs.Restarts.{AllStartWell}
use Rattle.proof_world.specs.world_lines.Spoken.{Spoken, after}
use Rattle.proof_world.specs.world_lines.Done.{AreDone, events_of}
use Rattle.proof_spoken.specs.Spoken.{AreSpoken}
use Rattle.proof_spoken.specs.Said.{AllTell, LinesTell}

-- ---- restarts

both_start : (m : Machine) (a b : List Event) → AllStartWell m (a ++ b) → AllStartWell m a × AllStartWell (happens_all m a) b
both_start m [] b all = (tt, all)
both_start m (event ∷ a) b all = let more = both_start (happens m event) a b all.1 in ((all.0, more.0), more.1)

pub are_spoken : (m : Machine) (lines : List Spoken) → AreDone m lines → AllStartWell m (events_of lines) → AreSpoken m lines
are_spoken m [] are well = tt
are_spoken m (spoken ∷ more) are well =
    let both = both_start m spoken.events (events_of more) well in
    (record { read = are.0.read; is_line = are.0.is_line; may = are.0.may; well = both.0 }, are_spoken (after m spoken) more are.1 both.1)

-- ---- what they tell

module _ (listing : ℕ → List ℕ) where
  both_tell : (m : Machine) (a b : List Event) → AllTell listing m (a ++ b) → AllTell listing m a × AllTell listing (happens_all m a) b
  both_tell m [] b all = (tt, all)
  both_tell m (event ∷ a) b all = let more = both_tell (happens m event) a b all.1 in ((all.0, more.0), more.1)

  pub lines_tell : (m : Machine) (lines : List Spoken) → AllTell listing m (events_of lines) → LinesTell listing m lines
  lines_tell m [] all = tt
  lines_tell m (spoken ∷ more) all =
      let both = both_tell m spoken.events (events_of more) all in (both.0, lines_tell (after m spoken) more both.1)
