use Rattle.std.proofs.Common.{◌≡◌, replicate}
use Rattle.air_frames.specs.Peer.{no_counts}
use Rattle.air_frames.proofs.frames.Frames.new.Given as goal

abbrev pub invariant-loop : goal.invariant-loop
invariant-loop l = l.peers.items ≡ replicate l.counter no_counts
