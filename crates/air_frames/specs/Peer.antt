-- What is counted for one node (this project's own rule, docs/AIR.md).
use Rattle.std.specs.Prelude.{ℕ, List}
use Rattle.air_frames.specs.declared.peer.Peer.{Peer}
use Rattle.air_frames.specs.declared.frame.Heading.{Heading}
use Rattle.air_frames.specs.Nonces.{none_shown, counting}

-- nothing was counted
abbrev pub no_counts : Peer
no_counts = record { begun = 0; nonces = none_shown }

-- the counts after a payload
abbrev pub showing : Peer → Heading → List ℕ → Peer
showing peer heading payload = record peer { nonces = counting peer.nonces heading payload }
