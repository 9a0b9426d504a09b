-- The command was run, and the laws hold of every run.
use Rattle.std.proofs.Common.{◌≡◌, length, arith}
use Rattle.proof_commands.proofs.top.run.Goals as goal

pub returns-clause-laws : goal.returns-clause-laws
returns-clause-laws g c = let sixteen : length c.args.key ≡ 16 = omega arith in c.commands_keep_laws.ensures _ _ c.args.key _ _ sixteen
