-- The series of attempts of a node, in its host and by the transcript (this project's own rule). A series runs by the transcript where it is due or runs in the host; and another one may be
-- due by it as many ticks from now as the host's wait for that has left. While a node's tick is to come its wait is the one that it will leave: the transcript does not tell where in a tick
-- the host is. So a node is looked at as its tick leaves that wait, at the time of the tick.
use Rattle.std.specs.Prelude.{◌≡◌, ℕ, ◌+◌, ◌≤◌, ◌==◌, not, Bool, true, false, if◌then◌else◌, List, [], ◌∷◌}
use Rattle.zw_text.specs.declared.entry.Entry.{Entry}
use Rattle.zw_text.specs.declared.entry.Entry.TheVariants.{Said, Refused}
use Rattle.zw_text.specs.Transcript.{accepted}
use Rattle.proof_work.specs.law_transcript.Commands.{numbers_of, waiting}
use Rattle.proof_work.specs.law_time.Requests.{are_none}
use Rattle.proof_work.specs.law_time.Sessions.{Series as SeriesTold, is_open, no_series, series_from, with_time}
use Rattle.proof_work.specs.law_time.Waking.{is_up}
use Rattle.host_node.specs.State.{NodeState, has_waiting, is_idle, is_open as has_open, is_up as hears}
use Rattle.host_node.specs.Steps.{after_again_tick, after_hold_tick}
use Rattle.proof_requests.specs.host_model.State.{HostState, node_of}
use Rattle.proof_work.specs.proof_host.Laws.{numbers_for}
use Rattle.proof_requests.specs.proof_alone.Phases.{Phase, Risen, Ticking}
use Rattle.proof_requests.specs.proof_alone.Runs.{Knowledge, both_know}
use Rattle.proof_attempts.specs.Since.{KnowsSince, TieOf, is_to_tick}
use Rattle.proof_attempts.specs.Waiting.{WaitInOrder}
use Rattle.proof_attempts.specs.Waking.{CountsAwake, KnowsHearing}

-- neither the words of a line nor a refusal of one
abbrev pub IsOfNoLine : Entry → Type 0
IsOfNoLine (Said words) = ⊥
IsOfNoLine (Refused refusal) = ⊥
IsOfNoLine e = Unit {0}

-- ---- what the transcript tells

abbrev pub series_so_far : ℕ → List Entry → SeriesTold
series_so_far n past = series_from n [] no_series past

-- of a node: whether commands wait for it, whether it hears, and whether its session is open
pub record NodeAsTold (n : ℕ) (past : List Entry) (node : NodeState) : Type 0 where
  pub waits : are_none (waiting n past) ≡ not (has_waiting node)
  pub up : is_up n past ≡ hears node
  pub opened : is_open n past ≡ has_open node

-- ---- the tie

-- when a wait ends of which so many ticks are left
abbrev pub wait_end : ℕ → ℕ → List ℕ
wait_end clock ticks = if ticks == 0 then [] else (clock + ticks) ∷ []

pub record IsSeries (told : SeriesTold) (node : NodeState) (clock : ℕ) : Type 0 where
  pub runs : told.runs ≡ not (is_idle node.series)
  pub again : told.again ≡ wait_end clock node.again_wait

-- a node as its tick leaves its wait for another series, where that tick is to come
abbrev pub again_ticked : NodeState → NodeState
again_ticked node = after_again_tick (after_hold_tick node)

abbrev pub is_ahead : Phase → ℕ → Bool
is_ahead Risen n = true
is_ahead (Ticking left) n = is_to_tick n left
is_ahead here n = false

abbrev pub looked_at : Phase → HostState → ℕ → NodeState
looked_at here h n = if is_ahead here n then again_ticked (node_of h n) else node_of h n

abbrev pub RunsAsTold : TieOf
RunsAsTold here past h clock =
    (n : ℕ) → 1 ≤ n → n ≤ 232 → IsSeries (with_time n past clock (series_so_far n past)) (looked_at here h n) clock

-- ---- on what ground

-- the commands that were accepted for a node are those that its orders asked for
abbrev pub KnowsNumbers : Knowledge
KnowsNumbers here past m = (n : ℕ) → numbers_of (accepted n past) ≡ numbers_for n past

-- with the work of the host and which nodes listen, which count as awake, and that none that is told that there is no more for it waits with a command
abbrev pub KnowsKept : Knowledge
KnowsKept = both_know KnowsHearing KnowsNumbers

abbrev pub KnowsSeries : Knowledge
KnowsSeries = both_know (both_know KnowsKept (KnowsSince CountsAwake)) (KnowsSince WaitInOrder)
