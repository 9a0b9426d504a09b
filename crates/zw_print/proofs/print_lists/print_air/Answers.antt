-- The words of the entry, joined.
use Rattle.hex.specs.Hex.{encode_upper}
use Rattle.zw_print.proofs.Joined.{join-air}
use Rattle.zw_print.proofs.print_lists.print_air.Goals as goal

pub returns : goal.returns
returns c = cc (join-air c.args.frame c.args.sender c.args.receiver c.args.repeaters.now (encode_upper c.args.payload.now), c.in_ok-write_air.ensures)
