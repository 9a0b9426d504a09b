use Rattle.std.proofs.Common.{◌≡◌}
use Rattle.s0_crypto.specs.Modes.{chained}
use Rattle.s0_crypto.specs.Seal.{covered}
use Rattle.s0_crypto.proofs.code.code.Given as goal

abbrev pub invariant-loop-i : goal.invariant-loop-i
invariant-loop-i l = l.chained ≡ chained l.key (covered l.vector l.ends l.cipher_text) l.i
