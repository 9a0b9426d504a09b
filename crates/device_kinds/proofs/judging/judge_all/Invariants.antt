use Rattle.std.proofs.Common.{◌≡◌, drop, []}
use Rattle.device_kinds.specs.Values.{value_after, level_after}
use Rattle.device_kinds.specs.Judging.{judged_all}
use Rattle.device_kinds.proofs.judging.judge_all.Given as goal

abbrev pub invariant-loop-command : goal.invariant-loop-command
invariant-loop-command l =
    judged_all l.kind (λ property. value_after l.journal property 0) (level_after l.journal 99) l.end l.made (drop l.command-index l.commands)
    ≡ judged_all l.kind (λ property. value_after l.journal property 0) (level_after l.journal 99) l.end [] l.commands
