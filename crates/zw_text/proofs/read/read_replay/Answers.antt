-- What the text is read as decides, both ways.
use Rattle.std.proofs.Common.{subst}
use Rattle.zw_words.specs.Fields.{Gives}
use Rattle.zw_text.proofs.TextLaws.{replay_again, replay_answer}
use Rattle.zw_text.proofs.read.read_replay.Goals as goal

pub returns-clause-found : goal.returns-clause-found
returns-clause-found c = replay_answer c.args.text.now c.replay_of_text.result c.replay_of_text.ensures

pub returns-clause-only : goal.returns-clause-only
returns-clause-only c line is = subst (λ r. Gives c.replay_of_text.result r) (replay_again c.args.text.now line is) c.replay_of_text.ensures
