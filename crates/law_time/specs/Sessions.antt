-- The last session of a node, and whether a series of its attempts runs (Supervision and Transport Service Command Classes; when a series
-- begins anew is this project's own rule).
use Rattle.std.specs.Prelude.{ℕ, ◌+◌, ◌-◌, ◌*◌, ◌/◌, ◌%◌, ◌==◌, ◌&&◌, not, nat_le, Bool, true, false, if◌then◌else◌, List, [], ◌∷◌, ◌++◌, length}
use Rattle.std.specs.List.{list_any}
use Rattle.host_orders.specs.declared.carriage.Form.{Form}
use Rattle.transport_segments.specs.Segment.{segment_text}
use Rattle.transport_segments.specs.Parts.{slice_at}
use Rattle.zw_text.specs.declared.entry.Ended.{Ended}
use Rattle.zw_text.specs.declared.entry.Ended.TheVariants as endings
use Rattle.zw_text.specs.declared.entry.Entry.{Entry}
use Rattle.zw_text.specs.declared.entry.Entry.TheVariants.{Said, Accepted, Begin, Out, Awake}
use Rattle.zw_text.specs.declared.entry.Outcome.{Outcome}
use Rattle.zw_text.specs.declared.entry.Outcome.TheVariants as outcomes
use Rattle.zw_text.specs.Transcript.{accepted, sessions, outcome}
use Rattle.law_wire.specs.law_transcript.Commands.{order_of, classes_for, message_for, waiting}
use Rattle.law_wire.specs.law_transcript.Payloads.{form_by}
use Rattle.law_time.specs.Moments.{clock, now_at}
use Rattle.law_time.specs.Judged.{last_of}
use Rattle.law_time.specs.Requests.{are_none, starts_anew}
use Rattle.law_time.specs.Waking.{is_up}

-- the last session of a node: its number, its message, and how that is carried
pub record Session : Type 0 where
  pub node : ℕ
  pub number : ℕ
  pub message : List ℕ
  pub form : Form

abbrev pub session_of : (List Entry → ℕ → List ℕ) → List Entry → ℕ → ℕ → Session
session_of listing past node command = record {
  node = node;
  number = length (sessions node past);
  message = message_for listing past node (length (sessions node past)) command;
  form = form_by (classes_for listing past node command) (order_of command (accepted node past));
}

-- the segment of its message at a place, and the place of the last one
abbrev pub segment_at : Session → ℕ → List ℕ
segment_at session place = segment_text (session.number % 16) (length session.message) (39 * place) (slice_at session.message place)

abbrev pub last_place : Session → ℕ
last_place session = (length session.message - 1) / 39

-- whether an outcome is final
abbrev pub is_final : Outcome → Bool
is_final outcomes.Success = true
is_final outcomes.Fail = true
is_final outcomes.NoSupport = true
is_final _ = false

-- the command of the last session of a node, and whether it is that of one
abbrev pub last_command : ℕ → List Entry → List ℕ
last_command node past = last_of (sessions node past)

abbrev pub is_last_command : ℕ → List Entry → ℕ → Bool
is_last_command node past number = list_any (λ command. command == number) (last_command node past)

-- whether the session has no final outcome
abbrev pub is_open : ℕ → List Entry → Bool
is_open node past = list_any (λ command. not (is_final (outcome command past))) (last_command node past)

-- ---- series

-- whether a series of attempts of the session runs or is due, and when another one may be due for a command that waits
pub record Series : Type 0 where
  pub runs : Bool
  pub again : List ℕ

abbrev pub no_series : Series
no_series = record { runs = false; again = [] }

abbrev pub new_series : Series
new_series = record { runs = true; again = [] }

-- a moment at which a new series is due where the node is up and its session is open
abbrev pub with_occasion : ℕ → List Entry → Series → Series
with_occasion node past series = if is_up node past && is_open node past then new_series else series

-- up to a time: 100 ticks after a series has ended another one is due, where a command waits
abbrev pub with_time : ℕ → List Entry → ℕ → Series → Series
with_time node past now series =
    if list_any (λ tick. nat_le tick now) series.again
    then (if are_none (waiting node past) then no_series else with_occasion node past no_series) else series

-- how a command ended is the end of a series
abbrev pub series_by_end : Ended → ℕ → Series
series_by_end endings.Unanswered now = record { runs = false; again = (now + 100) ∷ [] }
series_by_end ended now = no_series

-- where that is of the last session of the node
abbrev pub with_end : ℕ → List Entry → Series → ℕ → Ended → Series
with_end node past series command ended = if is_last_command node past command then series_by_end ended (clock past) else series

-- such a moment of a node, after the entry that makes it
abbrev pub with_occasion_of : ℕ → List Entry → Series → ℕ → Entry → Series
with_occasion_of node past series of entry = if of == node then with_occasion node (past ++ entry ∷ []) series else series

-- a restart ends the series, and is such a moment
abbrev pub with_start : ℕ → List Entry → Series → Entry → List Entry → Series
with_start node past series entry rest = if starts_anew entry rest then with_occasion node (past ++ entry ∷ []) no_series else series

-- a series begins with its session; another one may with a command that is accepted, a Wake Up Notification, and a restart
abbrev pub series_step : ℕ → List Entry → Series → Entry → List Entry → Series
series_step node past series (Begin of number command) rest = if of == node then new_series else series
series_step node past series (Out command ended) rest = with_end node past series command ended
series_step node past series (Accepted command of) rest = with_occasion_of node past series of (Accepted command of)
series_step node past series (Awake of) rest = with_occasion_of node past series of (Awake of)
series_step node past series (Said words) rest = with_start node past series (Said words) rest
series_step node past series entry rest = series

abbrev pub series_from : ℕ → List Entry → Series → List Entry → Series
series_from node past series [] = series
series_from node past series (entry ∷ rest) =
    series_from node (past ++ entry ∷ []) (series_step node past (with_time node past (now_at past entry) series) entry rest) rest

-- whether one runs or is due
abbrev pub runs : ℕ → List Entry → ℕ → Bool
runs node past now = (with_time node past now (series_from node [] no_series past)).runs
