use Rattle.std.proofs.Common.{◌≡◌, ℕ, ◌+◌, ◌-◌, ◌/◌, ◌++◌, List, arith, ap, ◌∙◌, refl}
use Rattle.s0_crypto.specs.Modes.{key_block}
use Rattle.s0_crypto.proofs.ModesLemmas.{sum_more, sum_whole}
use Rattle.s0_crypto.proofs.key_stream.add_after_first.Goals as goal

pub loop-i-preserved : goal.loop-i-preserved
loop-i-preserved c =
    let back : c.loop-i.i / 16 + 1 ≡ (c.loop-i.i + 1 - 1) / 16 + 1 = omega arith in
    let block = λ (vector : List ℕ) (first : c.args.block ≡ key_block c.args.cipher.now vector 1).
    c.next_block-block.ensures vector (c.loop-i.invariant.block vector first ∙ ap (key_block c.args.cipher.now vector) back) in
    record {
      block = block;
      out = λ vector first. sum_more c.args.cipher.now vector c.args.text.now c.next_block-block.result c.loop-i.i c.args.out.now _
          (c.loop-i.invariant.out vector first) c.in_ok-push.ensures.ok refl (block vector first);
    }

pub returns : goal.returns
returns c = λ vector first.
    c.loop-i.invariant.out vector first ∙ ap (λ l. c.args.out.now ++ l) (sum_whole c.args.cipher.now vector c.args.text.now c.loop-i.i (omega arith))
