-- What is known of the callback ids of a host alone at each phase (this project's own rule): the one that it gave last is that of the last message it asked its chip to send, and of the
-- last request, where that is a message; and that the unit of a session that begins is still to come.
use Rattle.std.specs.Prelude.{◌≡◌, ◌⊎◌, ℕ, false, List, [], ◌∷◌, ◌++◌}
use Rattle.std.specs.List.{AllByRecursion, flat_map}
use Rattle.zw_words.specs.declared.side.Side.TheVariants.{Host}
use Rattle.zw_text.specs.declared.line.Line.{Line}
use Rattle.zw_text.specs.declared.entry.Entry.{Entry}
use Rattle.zw_text.specs.declared.entry.Entry.TheVariants as entry
use Rattle.zw_text.specs.Transcript.{line_of}
use Rattle.law_transcript.specs.Payloads.{FollowsBegin, GoesTo}
use Rattle.law_transcript.specs.Units.{request_in, sending_in}
use Rattle.law_time.specs.Moments.{Allows}
use Rattle.law_time.specs.Requests.{asked}
use Rattle.law_time.specs.Choice.{id_of, last_id, may_follow, may_number}
use Rattle.proof_requests.specs.proof_alone.Phases.{Asked, Submitting}
use Rattle.host_node.specs.declared.series.Series.TheVariants.{Due}
use Rattle.host_model.specs.May.{IsServed}
use Rattle.host_model.specs.State.{node_of}
use Rattle.proof_requests.specs.proof_alone.State.{HostMachine}
use Rattle.proof_requests.specs.proof_alone.Runs.{Knowledge, both_know}

-- an entry may follow the last request, a message has the next id, and directly after a session that begins stands its unit
abbrev pub MaySend : List Entry → Entry → Type 0
MaySend past e = Allows may_follow past e × Allows may_number past e × FollowsBegin past e

-- the ids that a unit of the host asks with
abbrev pub ids_in : List ℕ → List ℕ
ids_in unit = flat_map id_of (request_in unit)

pub record CountsIds (past : List Entry) (given : ℕ) : Type 0 where
  pub last : last_id past ≡ given
  pub latest : AllByRecursion (λ id. id ≡ given) (ids_in (asked past).frame)

-- the words of a line stand last, and it was so before them
pub record CountsBefore (line : Line) (past : List Entry) (given : ℕ) : Type 0 where
  pub before : List Entry
  pub words : List ℕ
  pub are : past ≡ before ++ entry.Said words ∷ []
  pub read : line_of (entry.Said words) ≡ line ∷ []
  pub counts : CountsIds before given

abbrev pub KnowsIds : Knowledge
KnowsIds (Asked line) past m = CountsBefore line past m.state.requests.last_id
KnowsIds here past m = CountsIds past m.state.requests.last_id

-- ---- sessions that begin

-- anything may stand next
abbrev pub Rests : List Entry → Type 0
Rests past = (entry : Entry) → FollowsBegin past entry

-- a session of a node has just begun, whose unit is to stand next; the attempt of the node is due, and it is the node that is served
pub record Awaits (past : List Entry) (m : HostMachine) : Type 0 where
  pub node : ℕ
  pub goes : (unit : List ℕ) → GoesTo node (sending_in unit) → FollowsBegin past (entry.Written Host unit)
  pub served : IsServed m.state node
  pub due : (node_of m.state node).series ≡ Due
  pub numbered : m.awaits ≡ false

abbrev pub KnowsBegun : Knowledge
KnowsBegun Submitting past m = Rests past ⊎ Awaits past m
KnowsBegun here past m = Rests past

abbrev pub KnowsRequests : Knowledge
KnowsRequests = both_know KnowsIds KnowsBegun
