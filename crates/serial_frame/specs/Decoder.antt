-- What a decoder keeps true of its fields.
use Rattle.std.specs.Prelude.{◌≡◌, ◌≤◌, take}
use Rattle.serial_frame.specs.Search.{running_sum}
use Rattle.serial_frame.specs.Stream.{IsRest}
use Rattle.serial_frame.specs.declared.decoder.Decoder.TheInside.{Inside}

-- what is held is an unfinished frame, with the sum over it
pub record IsDecoder (d : Inside) : Type 0 where
  pub room : d.len ≤ 256
  pub is_rest : IsRest (record { bytes = take d.len d.held; ticks = d.ticks })
  pub sum : d.sum ≡ running_sum (take d.len d.held)
