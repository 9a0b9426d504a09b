use Rattle.std.proofs.Common.{[], ◌∷◌, sym, ◌∙◌, ap, append_assoc}
use Rattle.std.proofs.lemmas.List.{append-nil}
use Rattle.serial_frame.specs.Stream.{Rest, Feeds}
use Rattle.serial_frame.proofs.First.{reads-unfinished}
use Rattle.serial_frame.proofs.Feeding.{feeds_part, feeds_whole, only_added}
use Rattle.serial_frame.proofs.Streams.{goes-feed}
use Rattle.serial_frame.proofs.decoder.Decoder.feed.Goals as goal

pub replace-requires-clause-unfinished : goal.replace-requires-clause-unfinished
replace-requires-clause-unfinished c =
    let ends = c.in_ok-sum-in-Whole.ensures.ok in
    reads-unfinished c.in-Whole.rest.now ends.0 c.in_ok-sum-in-Whole.tail.now ends.2.reads

-- nothing ended
part : (c : goal.After-extend) → Feeds c.args.self.now c.args.piece.now c.extend.new.self []
part c =
    let found = rw c.in-Part.is at c.in_ok-sum.ensures in
    let held = ap (λ (r : Rest). r.bytes) c.self.view_is in
    feeds_part c.args.self.now c.extend.new.self _ c.args.piece.now held found.0 c.extend.ensures.state

pub returns-in-Part-clause-only : goal.returns-in-Part-clause-only
returns-in-Part-clause-only c =
    only_added c.args.self.now c.args.piece.now c.extend.new.self [] c.args.out.now.items c.args.out.now.items (sym (append-nil c.args.out.now.items)) (part c)

pub returns-in-Part-clause-stream : goal.returns-in-Part-clause-stream
returns-in-Part-clause-stream c =
    ([], sym (append-nil c.args.out.now.items), goes-feed c.args.self.now c.args.piece.now c.extend.new.self [] (part c))

pub returns-in_ok-sum-in-Whole-clause-feeds : goal.returns-in_ok-sum-in-Whole-clause-feeds
returns-in_ok-sum-in-Whole-clause-feeds c =
    let found = rw c.in-Whole.is at c.in_ok-sum.ensures in
    let ends = c.in_ok-sum-in-Whole.ensures.ok in
    let held = ap (λ (r : Rest). r.bytes) c.self.view_is in (
      c.in-Whole.item ∷ ends.0,
      ends.1 ∙ append_assoc c.args.out.now.items (c.in-Whole.item ∷ []) ends.0,
      feeds_whole c.args.self.now c.replace.new.self _ c.args.piece.now c.in-Whole.item c.in-Whole.rest.now c.in_ok-sum-in-Whole.tail.now ends.0 found.0
          held c.replace.ensures.state found.1 found.2 ends.2.reads,
    )

pub returns-in_ok-sum-in-Whole-clause-only : goal.returns-in_ok-sum-in-Whole-clause-only
returns-in_ok-sum-in-Whole-clause-only c =
    let adds = returns-in_ok-sum-in-Whole-clause-feeds c in
    only_added c.args.self.now c.args.piece.now c.replace.new.self adds.0 c.args.out.now.items c.split.new.out.items adds.1 adds.2

pub returns-in_ok-sum-in-Whole-clause-stream : goal.returns-in_ok-sum-in-Whole-clause-stream
returns-in_ok-sum-in-Whole-clause-stream c =
    let adds = returns-in_ok-sum-in-Whole-clause-feeds c in
    (adds.0, adds.1, goes-feed c.args.self.now c.args.piece.now c.replace.new.self adds.0 adds.2)
