use Rattle.std.proofs.Common.{◌≡◌, ap, ◌∙◌, replicate, arith}
use Rattle.circular_buffer.specs.Buffer.{Buffer}
use Rattle.air_frames.specs.Flown.{Flown}
use Rattle.air_frames.specs.Peer.{no_counts}
use Rattle.air_frames.proofs.Kept.{none_sent}
use Rattle.air_frames.proofs.frames.Frames.new.Goals as goal

pub returns : goal.returns
returns c =
    let all : c.loop.counter ≡ 233 = omega arith in
    none_sent c.new-2.result.items c.in_ok-with_capacity.field-0.items c.loop.peers.items c.new-2.ensures.items
    (ap (λ (b : Buffer Flown). b.items) c.in_ok-with_capacity.ensures)
    (c.loop.invariant ∙ ap (λ n. replicate n no_counts) all)
