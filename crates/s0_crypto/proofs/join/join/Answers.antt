use Rattle.std.proofs.Common.{arith}
use Rattle.s0_crypto.proofs.MessageLemmas.{join_bytes}
use Rattle.s0_crypto.proofs.join.join.Goals as goal

pub returns : goal.returns
returns c = join_bytes c.args.s.now c.args.r.now (omega arith) (omega arith)
