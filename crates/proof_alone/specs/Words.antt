-- What is known of the words of a line at each phase of a host alone (this project's own rule).
use Rattle.std.specs.Prelude.{◌≡◌, false, [], ◌∷◌}
use Rattle.zw_text.specs.Transcript.{line_last}
use Rattle.proof_alone.specs.Phases.{Asked}
use Rattle.proof_alone.specs.Runs.{Knowledge}

-- where the host is asked they stand last, and no number of a tick is to be entered
abbrev pub KnowsWords : Knowledge
KnowsWords (Asked line) past m = (line_last past ≡ line ∷ []) × (m.awaits ≡ false)
KnowsWords here past m = Unit {0}
