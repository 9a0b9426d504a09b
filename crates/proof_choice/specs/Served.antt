-- Which node a host alone has served last by its transcript (this project's own rule): that to which its last attempt went since it started.
use Rattle.std.specs.Prelude.{◌≡◌, ℕ, List, [], ◌∷◌, ◌++◌}
use Rattle.zw_text.specs.declared.entry.Entry.{Entry}
use Rattle.law_transcript.specs.Nodes.{controller}
use Rattle.law_time.specs.Attempts.{served_step}
use Rattle.law_time.specs.Heeds.{Heeds}
use Rattle.law_time.specs.Queue.{Requests, no_requests, requests_after}
use Rattle.proof_giving.specs.proof_queue.proof_attempts.Since.{TieOf}

abbrev pub served_from : Heeds → List Entry → Requests → ℕ → List Entry → ℕ
served_from heeds past requests served [] = served
served_from heeds past requests served (entry ∷ rest) =
    served_from heeds (past ++ entry ∷ []) (requests_after heeds past requests entry rest) (served_step heeds past requests served entry rest) rest

-- up to where the transcript stands
abbrev pub served_so_far : Heeds → List Entry → ℕ
served_so_far heeds past = served_from heeds [] no_requests controller past

-- it is the one that the host served last
abbrev pub ServedAsTold : Heeds → TieOf
ServedAsTold heeds here past h clock = served_so_far heeds past ≡ h.served
