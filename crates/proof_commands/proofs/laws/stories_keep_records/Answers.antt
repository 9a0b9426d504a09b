-- The lines of a story, as they go over a keeper that tells its records.
use Rattle.std.proofs.Common.{List, ℕ, Option, refl, sym, subst}
use Rattle.run_all.specs.host_core.Network.{keys_of}
use Rattle.proof_answers.specs.proof_chip.proof_world.Restarts.{BeginsEmpty}
use Rattle.proof_commands.specs.Laws.{events_of}
use Rattle.proof_commands.specs.Generate.{plain_lines}
use Rattle.proof_commands.proofs.Reading.{story_lines}
use Rattle.proof_commands.proofs.Told.{fresh, story_told}
use Rattle.proof_commands.proofs.laws.stories_keep_records.Goals as goal

pub returns : goal.returns
returns c = λ key old new story unentered is tells.
    let told = story_told key old new story unentered is tells in
    record {
      empty = λ restarts. subst (λ (records : Option (List (List ℕ))). BeginsEmpty records) (sym (tells restarts)) refl;
      well =
          told.well ((c.lines_keep_and_ask_well.ensures (keys_of key) old.devices (plain_lines story) (events_of story)
          (story_lines (fresh key old) story told.begun) told.may).0);
    }
