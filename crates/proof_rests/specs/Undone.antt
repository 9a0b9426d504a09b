-- What a host leaves undone where it rests (this project's own rule): no abort is owed, and each Set, Get and interview that lines asked for since it started has ended.
use Rattle.std.specs.Prelude.{◌≡◌, ◌&&◌, ◌||◌, not, ℕ, Bool, true, List, []}
use Rattle.std.specs.List.{list_all}
use Rattle.zw_text.specs.declared.entry.Entry.{Entry}
use Rattle.zw_text.specs.declared.entry.Entry.TheVariants.{Said, Time}
use Rattle.zw_text.specs.Transcript.{joined}
use Rattle.proof_nonces.specs.proof_work.law_transcript.Restarts.{since_restart}
use Rattle.proof_nonces.specs.proof_work.law_time.Moments.{Keeps, now_at}
use Rattle.proof_nonces.specs.proof_work.law_time.Requests.{asked}
use Rattle.proof_nonces.specs.proof_work.law_time.Ends.{owes_abort}
use Rattle.proof_nonces.specs.proof_work.law_time.Rests.{has_come, is_rest}

-- ---- where a host rests

-- before an entry this is so, if the last request is over by then
abbrev pub rests_so : (List Entry → ℕ → Bool) → List Entry → Entry → Bool
rests_so so past entry = not (is_rest past (now_at past entry)) || so past (now_at past entry)

-- and so it is before each line and each tick
abbrev pub may_begin : (List Entry → ℕ → Bool) → List Entry → Entry → Bool
may_begin so past (Said words) = rests_so so past (Said words)
may_begin so past (Time tick) = rests_so so past (Time tick)
may_begin so past entry = true

-- at each rest, and in the end of what was run whole
pub record AtRests (so : List Entry → ℕ → Bool) (whole : Bool) (transcript : List Entry) : Type 0 where
  pub between : Keeps (may_begin so) transcript
  pub in_the_end : whole ≡ true → rests_so so transcript (Said []) ≡ true

-- ---- what is done by then

-- no abort is owed, and of each node what lines asked for since the host started has come
abbrev pub is_done : List Entry → ℕ → Bool
is_done past now = not (owes_abort (asked past) now) && list_all (λ node. has_come node (since_restart past)) (joined past)

abbrev pub LeavesNothing : Bool → List Entry → Type 0
LeavesNothing whole transcript = AtRests is_done whole transcript
