use Rattle.std.proofs.Common.{◌≡◌, ◌≢◌, arith}
use Rattle.file_keeper.proofs.Splits.{split_byte, split_line}
use Rattle.file_keeper.proofs.lines.take_byte.Goals as goal

pub returns-then-byte-ne-LINE_FEED : goal.returns-then-byte-ne-LINE_FEED
returns-then-byte-ne-LINE_FEED c = λ bytes s.
    let not : c.args.byte ≢ 10 = omega (arith, c.if-byte-ne-LINE_FEED.true) in
    rw c.in_ok-push.ensures.ok (split_byte bytes c.args.found.now.lines.items c.args.found.now.torn c.args.byte s not)

pub returns : goal.returns
returns c = λ bytes s.
    let is : c.args.byte ≡ 10 = omega (arith, c.if-byte-ne-LINE_FEED.false) in
    rw (is, c.in_ok-push-2.ensures.ok, c.replace-line.ensures.value, c.replace-line.ensures.after, c.new.ensures) (split_line bytes c.args.found.now.lines.items c.args.found.now.torn s)
