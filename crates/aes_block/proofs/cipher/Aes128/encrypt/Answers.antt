use Rattle.std.proofs.Common.{arith, ap, ◌∙◌}
use Rattle.aes_block.specs.Cipher.{aes}
use Rattle.aes_block.proofs.ScheduleLemmas.{state_none, state_more, state_last}
use Rattle.aes_block.proofs.cipher.Aes128.encrypt.Goals as goal

pub loop-round-init : goal.loop-round-init
loop-round-init c = state_none _ c.args.block (c.self.invariant.each 0 (omega arith)) c.add_round_key-state.ensures

pub loop-round-preserved : goal.loop-round-preserved
loop-round-preserved c =
    state_more _ c.args.block c.loop-round.round (omega arith) c.loop-round.invariant c.sub_bytes.ensures c.shift_rows.ensures
    c.mix_columns-mixed.ensures (c.self.invariant.each c.loop-round.round (omega arith)) c.add_round_key-state-in-loop-round.ensures

pub returns : goal.returns
returns c =
    state_last _ c.args.block c.loop-round.round (omega arith) c.loop-round.invariant c.sub_bytes-2.ensures c.shift_rows-2.ensures
    (c.self.invariant.each 10 (omega arith)) c.add_round_key.ensures
    ∙ ap (λ k. aes k c.args.block) c.self.view_is
