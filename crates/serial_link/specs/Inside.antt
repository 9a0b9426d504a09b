-- What a link keeps true of its fields.
use Rattle.serial_frame.specs.Stream.{IsRest}
use Rattle.serial_link.specs.State.{IsTurn}
use Rattle.serial_link.specs.declared.link.Link.TheInside.{Inside}

-- the frame of one's own has its copies and ticks in range, and the decoder has an unfinished frame
pub record IsLink (l : Inside) : Type 0 where
  pub turn : IsTurn l.turn
  pub decoder : IsRest l.decoder
