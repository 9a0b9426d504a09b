-- Whether a node that asks to be kept awake is still to be held by the transcript (Supervision Command Class: Wake Up Request; this project's own rule), and on what ground none is.
use Rattle.std.specs.Prelude.{◌≡◌, false}
use Rattle.proof_work.specs.law_time.Holds.{owes_hold}
use Rattle.proof_requests.specs.proof_alone.Listening.{KnowsListening}
use Rattle.proof_requests.specs.proof_alone.Runs.{Knowledge, both_know}
use Rattle.proof_requests.specs.proof_alone.Tables.{KnowsTables}
use Rattle.proof_requests.specs.proof_waking.Judged.{KnowsJudged}

-- the tables, what was judged, and which nodes listen
abbrev pub KnowsHeard : Knowledge
KnowsHeard = both_know (both_know KnowsTables KnowsJudged) KnowsListening

abbrev pub KnowsUnowed : Knowledge
KnowsUnowed here past m = owes_hold past ≡ false
