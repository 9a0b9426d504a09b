-- The laws of the air as one: over a new keeper each of them has what it assumes.
use Rattle.std.proofs.Common.{[], inr}
use Rattle.proof_commands.specs.Laws.{TellsItsRecords}
use Rattle.proof_commands.proofs.laws.stories_are_legal_on_air.Goals as goal

pub returns : goal.returns
returns c = λ key old new story unentered is told whole all.
    let each = c.stories_keep_air_laws.ensures in
    let well = c.stories_keep_records.ensures key old new story unentered is told in
    let tells : TellsItsRecords old story = λ asked. ([], told asked) in
    record {
      numbers = each.numbers key old new story unentered is;
      routes = each.routes key old new story unentered is tells;
      fares = each.fares key old new story unentered is (inr well) whole all;
      lands = each.lands key old new story unentered is whole all;
      meets = each.meets key old new story unentered is tells;
      loses = each.loses key old new story unentered is;
      repeats = each.repeats key old new story unentered is well whole all;
      forgets = each.forgets key old new story unentered is tells whole all;
    }
