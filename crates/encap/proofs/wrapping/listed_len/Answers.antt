use Rattle.std.proofs.Common.{◌≡◌, [], ◌∷◌, length, take, get_or, ap, ◌∙◌, arith, length-append}
use Rattle.encap.specs.Wraps.{listed}
use Rattle.encap.proofs.WrapLemmas.{fit_at, listed-take, same_item}
use Rattle.encap.proofs.wrapping.listed_len.Goals as goal

pub overflow_add-len : goal.overflow_add-len
overflow_add-len c =
    let item = same_item c.args.commands.now c.loop-command.command-index c.command-item.result c.loop-command-test.true c.command-item.is in
    let len : c.len.result ≡ length (get_or c.args.commands.now c.loop-command.command-index []) = c.len.ensures ∙ ap length item in
    let fits = fit_at c.args.commands.now c.loop-command.command-index c.requires.fit c.loop-command-test.true in
    omega (arith, fits, len)

pub overflow_add-len-in-loop-command : goal.overflow_add-len-in-loop-command
overflow_add-len-in-loop-command c =
    let item = same_item c.args.commands.now c.loop-command.command-index c.command-item.result c.loop-command-test.true c.command-item.is in
    let len : c.len.result ≡ length (get_or c.args.commands.now c.loop-command.command-index []) = c.len.ensures ∙ ap length item in
    let fits = fit_at c.args.commands.now c.loop-command.command-index c.requires.fit c.loop-command-test.true in
    omega (arith, fits, len, c.loop-command.invariant.1)

pub loop-command-preserved : goal.loop-command-preserved
loop-command-preserved c =
    let item = same_item c.args.commands.now c.loop-command.command-index c.command-item.result c.loop-command-test.true c.command-item.is in
    let len : c.len.result ≡ length (get_or c.args.commands.now c.loop-command.command-index []) = c.len.ensures ∙ ap length item in
    let fits = fit_at c.args.commands.now c.loop-command.command-index c.requires.fit c.loop-command-test.true in
    let more = ap length (listed-take c.args.commands.now c.loop-command.command-index c.loop-command-test.true) in
    let whole = length-append (listed (take c.loop-command.command-index c.args.commands.now)) (length (get_or c.args.commands.now c.loop-command.command-index []) ∷ get_or c.args.commands.now c.loop-command.command-index []) in
    (omega (arith, len, more, whole, c.loop-command.invariant.0), omega (arith, fits, len, c.loop-command.invariant.1))
