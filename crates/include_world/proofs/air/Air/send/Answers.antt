use Rattle.std.proofs.Common.{◌≡◌, slice_get, Some, sym, arith}
use Rattle.include_world.proofs.Sending.{sent_more, told_more, count_more}
use Rattle.include_world.proofs.air.Air.send.Goals as goal

pub loop-at-preserved : goal.loop-at-preserved
loop-at-preserved c =
    let at : slice_get c.args.replies.now c.loop-at.at ≡ Some c.in-Some.reply.now = sym c.in-Some.ensures.value in
    record {
      state = sent_more c.loop-at.self.state c.depart.new.self.state _ c.args.node c.args.heading c.args.replies.now c.loop-at.at c.in-Some.reply.now at c.depart.ensures.state c.loop-at.invariant.state;
      outs = told_more c.loop-at.self.state c.depart.new.self.state c.loop-at.self.state c.args.node c.args.heading c.args.replies.now c.loop-at.at c.in-Some.reply.now at c.depart.ensures.state
          c.loop-at.out.items c.depart.new.out.items _ c.depart.ensures.outs c.loop-at.invariant.outs;
      room = omega arith;
      out_room = omega arith;
      count = count_more c.loop-at.self.state c.depart.new.self.state c.args.node c.args.heading c.in-Some.reply.now c.depart.ensures.state _ c.loop-at.at c.loop-at.invariant.count;
    }
