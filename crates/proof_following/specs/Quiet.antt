-- Entries and ticks at which a host has nothing to note (this project's own rule), and what the course of its notes makes of them.
use Rattle.std.specs.Prelude.{◌≡◌, ℕ, ◌&&◌, not, nat_le, nat_lt, true, false, if◌then◌else◌, List, [], ◌∷◌}
use Rattle.std.specs.List.{AllByRecursion, list_any}
use Rattle.serial_frame.specs.declared.unit.TheConstants.{ACK}
use Rattle.zw_words.specs.declared.side.Side.TheVariants.{Host}
use Rattle.zw_text.specs.declared.entry.Entry.{Entry}
use Rattle.zw_text.specs.declared.entry.Entry.TheVariants as entry
use Rattle.law_transcript.specs.Units.{Carried, sending_in}
use Rattle.law_time.specs.Ends.{giving_up, silence}
use Rattle.law_time.specs.Errands.{errand}
use Rattle.law_time.specs.Heeds.{Heeds}
use Rattle.law_time.specs.Interviews.{node_interviewed}
use Rattle.law_time.specs.Moments.{clock}
use Rattle.law_time.specs.Requests.{asked, request_last}
use Rattle.law_time.specs.Unanswered.{to_give_up}
use Rattle.proof_ends.specs.proof_requests.law_host.Course.{Course, each_in_turn}
use Rattle.proof_ends.specs.proof_requests.law_host.Ends.{ends_sealing, sleep_notes, to_give_up_by_end}
use Rattle.proof_ends.specs.proof_requests.law_host.Following.{is_before_host}
use Rattle.proof_ends.specs.proof_requests.law_host.Ticks.{nodes_in_order}

-- ---- entries

-- it is neither the words of a line nor the number of a tick, and no unit of the host
abbrev pub IsPlainly : Entry → Type 0
IsPlainly (entry.Said words) = ⊥
IsPlainly (entry.Time tick) = ⊥
IsPlainly (entry.Written Host unit) = ⊥
IsPlainly e = Unit {0}

-- it begins no line and no tick
abbrev pub IsWithin : Entry → Type 0
IsWithin (entry.Said words) = ⊥
IsWithin (entry.Time tick) = ⊥
IsWithin e = Unit {0}

-- the acknowledgement of the host
abbrev pub acknowledges : Entry
acknowledges = entry.Written Host (ACK ∷ [])

-- ---- ticks

-- by a time the request has not ended without a frame
pub record Waits (past : List Entry) (now : ℕ) : Type 0 where
  pub given : list_any (λ tick. nat_le tick now) (giving_up (asked past)) ≡ false
  pub silent : list_any (λ tick. nat_le tick now) (silence (asked past)) ≡ false

-- no command of these nodes is to be given up by a time
abbrev pub NoneGone : Heeds → ℕ → List Entry → List ℕ → Type 0
NoneGone heeds now past nodes = AllByRecursion (λ n. to_give_up heeds past now n ≡ []) nodes

-- by a time nothing is to be noted
pub record Calm (heeds : Heeds) (past : List Entry) (now : ℕ) (c : Course) : Type 0 where
  pub waits : c.over ≡ false → Waits past now
  pub none : NoneGone heeds now past (nodes_in_order past)

-- how far the course has gone before an entry
abbrev pub gone_to : List Entry → Entry → Course → ℕ
gone_to past e c = if nat_lt c.ticked (clock past) && not (is_before_host past e) then clock past else c.ticked

-- the course with which a frame begins to be judged
abbrev pub begun : List Entry → Course → Course
begun past c = record c { put = 0; ticked = gone_to past acknowledges c }

-- ---- an end that is not noted

-- it is over, and what was sent to a lock waits no more
abbrev pub ended_silently : List Entry → Course → Course
ended_silently past c = each_in_turn ends_sealing (sending_in (asked past).frame) (record c { over = true })

-- of the end of the request there is nothing to note, by a time
pub record NothingOf (heeds : Heeds) (past : List Entry) (now : ℕ) : Type 0 where
  pub errands : errand heeds.listing past ≡ []
  pub sleeps : sleep_notes past ≡ []
  pub interviews : node_interviewed (request_last past) ≡ []
  pub sent : AllByRecursion (λ (one : Carried). to_give_up_by_end heeds past now one.node ≡ []) (sending_in (asked past).frame)
  pub nodes : NoneGone heeds now past (nodes_in_order past)
