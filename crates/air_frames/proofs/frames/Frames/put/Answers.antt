use Rattle.std.proofs.Common.{◌≡◌, ◌<◌, length, refl, ap, ◌∙◌, get_or, arith, length-set}
use Rattle.air_frames.specs.Peer.{no_counts, showing}
use Rattle.air_frames.proofs.Kept.{put_ring, put_late, put_counts, put_state, shown_of}
use Rattle.air_frames.proofs.frames.Frames.put.Goals as goal

pub invariant_of-self : goal.invariant_of-self
invariant_of-self c =
    let within : c.args.departure.node < length c.self.inside.peers.items = omega arith in
    let counted : c.show.new.self ≡ showing (get_or c.self.inside.peers.items c.args.departure.node no_counts) c.args.departure.heading c.args.departure.payload =
    shown_of c.self.inside.peers.items c.args.departure.node c.number.result c.index_mut-peer.result.now c.show.new.self c.args.departure.heading c.args.departure.payload c.bytes.result.now
    c.number.ensures.value within c.index_mut-peer.ensures.value c.bytes.ensures.value c.show.ensures in
    record {
      order = omega arith;
      ring = rw c.keep.ensures.ring (put_ring c.self.inside.sent c.self.inside.landed c.self.inside.late.items c.self.inside.ring.items c.new-frame.result c.self.invariant.order c.self.invariant.ring c.self.invariant.late);
      capacity = rw c.keep.ensures.ring refl;
      late = rw c.keep.ensures.late (put_late c.self.inside.sent c.self.inside.landed c.self.inside.late.items c.self.inside.ring.items c.new-frame.result c.self.invariant.order c.self.invariant.ring c.self.invariant.late);
      peers = length-set c.self.inside.peers.items c.number.result c.show.new.self ∙ c.self.invariant.peers;
      counts = rw c.number.ensures.value (put_counts c.self.inside.peers.items c.args.departure.node c.self.inside.sent c.show.new.self c.args.departure.heading c.args.departure.payload within c.self.invariant.counts counted);
    }

pub returns-clause-state : goal.returns-clause-state
returns-clause-state c =
    let within : c.args.departure.node < length c.self.inside.peers.items = omega arith in
    rw (← c.self.view_is) (rw c.number.ensures.value
    (put_state c.self.inside.sent c.self.inside.landed c.self.inside.late.items c.self.inside.ring.items c.keep.new.late.items c.keep.new.ring.items c.self.inside.peers.items c.args.departure
    c.show.new.self c.new-frame.result c.self.invariant.order c.self.invariant.ring c.self.invariant.late
    (shown_of c.self.inside.peers.items c.args.departure.node c.number.result c.index_mut-peer.result.now c.show.new.self c.args.departure.heading c.args.departure.payload c.bytes.result.now
    c.number.ensures.value within c.index_mut-peer.ensures.value c.bytes.ensures.value c.show.ensures)
    c.new-frame.ensures c.keep.ensures.late (ap (λ b. b.items) c.keep.ensures.ring)))
