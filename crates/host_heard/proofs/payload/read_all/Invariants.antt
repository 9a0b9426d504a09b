use Rattle.std.proofs.Common.{◌≡◌, ◌++◌, drop}
use Rattle.std.specs.Prelude.{option_map}
use Rattle.host_heard.specs.Telling.{told_all}
use Rattle.host_heard.proofs.payload.read_all.Given as goal

-- what was read so far, before what is to be read
abbrev pub invariant-loop-command : goal.invariant-loop-command
invariant-loop-command l =
    told_all l.end l.commands ≡ option_map (λ rest. l.messages ++ rest) (told_all l.end (drop l.command-index l.commands))
