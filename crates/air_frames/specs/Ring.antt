-- How the fields of `Frames` show what is kept: the last 4,097 frames in a ring, older ones that are on the air before them.
use Rattle.std.specs.Prelude.{◌≡◌, ◌+◌, ◌-◌, ◌^◌, ◌≤◌, min, ◌++◌, length, All}
use Rattle.std.specs.VecDeque.{deque_len, deque_capacity}
use Rattle.air_frames.specs.declared.frames.Frames.TheInside.{Inside}
use Rattle.air_frames.specs.Frames.{Keeping}

abbrev pub keeping_of : Inside → Keeping
keeping_of f = record {
  state = record {
    sent = f.sent;
    landed = f.landed;
    frames = f.late.items ++ f.ring.items;
    peers = f.peers.items;
  };
  room = min ((2 ^ 64 - 1) - f.sent) ((4097 - (f.sent - f.landed)) + (deque_capacity f.late - deque_len f.late));
}

pub record IsKept (f : Inside) : Type 0 where
  pub order : f.landed ≤ f.sent
  pub ring : length f.ring.items ≡ min f.sent 4097
  pub capacity : f.ring.capacity ≡ 4097
  pub late : length f.late.items ≡ (f.sent - f.landed) - 4097
  pub peers : length f.peers.items ≡ 233
  pub counts : All (λ peer. peer.nonces.shown ≤ f.sent) f.peers.items
