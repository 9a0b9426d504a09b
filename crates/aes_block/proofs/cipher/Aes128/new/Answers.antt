use Rattle.std.proofs.Common.{replicate, arith, ap, sym, ◌∙◌, refl}
use Rattle.aes_block.specs.Cipher.{round_key}
use Rattle.aes_block.proofs.ScheduleLemmas.{round_key_first}
use Rattle.aes_block.proofs.cipher.Aes128.new.Goals as goal

pub loop-round-init : goal.loop-round-init
loop-round-init c = record {
  filled = refl;
  first = refl;
  each = λ n below. round_key_first c.args.key (replicate 11 c.args.key) n (omega arith) refl (omega arith);
  power = refl;
}

pub invariant_of-result : goal.invariant_of-result
invariant_of-result c = record {
  each = λ n below. c.loop-round.invariant.each n (omega arith) ∙ ap (λ k. round_key k n) (sym c.loop-round.invariant.first);
}

pub returns : goal.returns
returns c = c.loop-round.invariant.first
