-- The laws of the serial line as one: over a new keeper each of them has what it assumes.
use Rattle.proof_commands.proofs.laws.stories_are_legal_on_line.Goals as goal

pub returns : goal.returns
returns c = λ key old new story unentered is told whole all.
    let each = c.stories_keep_air_laws.ensures in
    let served = c.stories_air_what_is_taken.ensures key old new story unentered is told whole all in
    let collides = each.collides key old new story unentered is in
    record {
      links = each.links key old new story unentered is told whole all;
      marks = each.marks key old new story unentered is whole all;
      collides = collides;
      overruns = each.overrun key old new story unentered is told whole all;
      clears = each.clears_line key old new story unentered is told whole all;
      carries = each.carries key old new story unentered is told;
      brings = each.brings key old new story unentered is;
      serves = record {
        link = served.airs.link;
        collides = collides;
        airs = served.airs.airs;
        answers = served.answers;
        drops = served.airs.drops;
        waits = served.airs.waits;
      };
      times = each.ticks key old new story unentered is whole all;
    }
