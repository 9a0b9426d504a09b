-- The words of the entry, joined.
use Rattle.hex.specs.Hex.{encode_upper}
use Rattle.event_flow.proofs.Printed.{join-frame}
use Rattle.event_flow.proofs.print.print_frame.Goals as goal

pub returns : goal.returns
returns c = cc (join-frame c.args.frame c.args.sender c.args.receiver (encode_upper c.args.payload.now), c.in_ok-text.ensures, c.in_ok-bytes.ensures)
