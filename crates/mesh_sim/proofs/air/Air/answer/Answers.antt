use Rattle.std.proofs.Common.{◌≡◌, slice_get, Some, sym, arith}
use Rattle.mesh_sim.proofs.Replies.{reply_more, told_more}
use Rattle.mesh_sim.proofs.air.Air.answer.Goals as goal

pub loop-at-preserved : goal.loop-at-preserved
loop-at-preserved c =
    let at : slice_get c.args.replies.now c.loop-at.at ≡ Some c.in-Some.reply.now = sym c.in-Some.ensures.value in
    record {
      state = reply_more c.loop-at.self.state c.answer_one.new.self.state _ c.args.node c.args.way c.args.replies.now c.loop-at.at c.in-Some.reply.now at c.answer_one.ensures.state c.loop-at.invariant.state;
      outs = told_more c.loop-at.self.state c.answer_one.new.self.state c.loop-at.self.state c.args.node c.args.way c.args.replies.now c.loop-at.at c.in-Some.reply.now at c.answer_one.ensures.state
          c.loop-at.out.items c.answer_one.new.out.items _ c.answer_one.ensures.outs c.loop-at.invariant.outs;
      room = omega arith;
      out_room = omega arith;
    }
