use Rattle.std.proofs.Common.{[], ap, refl}
use Rattle.serial_frame.specs.Stream.{Rest}
use Rattle.serial_frame.proofs.Feeding.{feeds_part, item_prefix}
use Rattle.serial_frame.proofs.Streams.{goes-feed}
use Rattle.serial_frame.proofs.decoder.Decoder.next_item.Goals as goal

pub returns-in-Part-clause-feeds : goal.returns-in-Part-clause-feeds
returns-in-Part-clause-feeds c =
    let found = rw c.in-Part.is at c.in_ok-sum.ensures in
    let feeds = feeds_part c.args.self.now c.extend.new.self _ c.args.piece.now (ap (λ (r : Rest). r.bytes) c.self.view_is) found.0 c.extend.ensures.state in
    (refl, feeds, goes-feed c.args.self.now c.args.piece.now c.extend.new.self [] feeds)

pub returns-in-Whole-clause-feeds : goal.returns-in-Whole-clause-feeds
returns-in-Whole-clause-feeds c =
    let found = rw c.in-Whole.is at c.in_ok-sum.ensures in
    item_prefix c.args.self.now c.replace.new.self _ c.args.piece.now found.0 c.in-Whole.rest.now c.in-Whole.item
    (ap (λ (r : Rest). r.bytes) c.self.view_is) c.self.invariant.is_rest.unfinished found.1 found.2 c.replace.ensures.state
