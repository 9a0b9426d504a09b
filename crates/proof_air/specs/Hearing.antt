-- That a line repeats only a frame that is fresh by the history that the transcript shows (this project's own rule), and what is known of it at each phase of a line.
use Rattle.std.specs.Prelude.{◌≡◌, ◌≢◌, ◌⊎◌, ℕ, Option, None, List, [], ◌∷◌, ⊤}
use Rattle.std.specs.List.{AllByRecursion}
use Rattle.air_frames.specs.Ages.{refusal_of}
use Rattle.air_frames.specs.History.{refusal_in}
use Rattle.route_table.specs.declared.route.Route.{Route}
use Rattle.zw_text.specs.declared.line.Line.{Line}
use Rattle.zw_text.specs.declared.line.Line.TheVariants.{Repeat}
use Rattle.zw_text.specs.declared.entry.Entry.{Entry}
use Rattle.zw_text.specs.declared.entry.Entry.TheVariants.{Heard}
use Rattle.zw_text.specs.Transcript.{line_last}
use Rattle.law_wire.specs.law_transcript.Lists.{EachAfter}
use Rattle.law_wire.specs.law_transcript.Nodes.{controller}
use Rattle.law_wire.specs.law_transcript.Repeats.{frame_of, refusal_to_repeat, refused_repeat}
use Rattle.proof_walk.specs.host_model.Events.{Joins as joins_host}
use Rattle.proof_walk.specs.outside_model.Events.{OuterEvent, Joins, Repeats}
use Rattle.proof_walk.specs.world_model.State.{Machine}
use Rattle.proof_walk.specs.world_model.Events.{Event, Outside_does, Host_does}
use Rattle.proof_walk.specs.Outside.{Pending, nothing, Knowing, Known, CoversOuter}
use Rattle.proof_walk.specs.Phases.{Phase}
use Rattle.proof_walk.specs.ByLine.{KnownOf, by_line}
use Rattle.proof_air.specs.Logs.{log_of, IsApart, Tie}

-- ---- the law

-- the frame of a number may be repeated by that history
pub record IsFresh (past : List Entry) (number : ℕ) : Type 0 where
  pub fresh : refusal_in (log_of past) number ≡ None
  pub apart : AllByRecursion IsApart (log_of past)

-- what is heard directly after the words of a `repeat` is heard while its frame is fresh
abbrev pub MayHear : List Entry → Entry → Type 0
MayHear past (Heard frame) = (number : ℕ) → line_last past ≡ Repeat number ∷ [] → IsFresh past number
MayHear past _ = ⊤

-- the same by the transcript alone
abbrev pub MayRepeat : List Entry → Entry → Type 0
MayRepeat past (Heard frame) = (number : ℕ) → line_last past ≡ Repeat number ∷ [] → refusal_to_repeat past number ≡ []
MayRepeat past _ = ⊤

abbrev pub RepeatsFresh : List Entry → Type 0
RepeatsFresh transcript = EachAfter MayRepeat [] transcript

-- a frame is refused by the transcript as the air refuses it
abbrev pub RefusesAlike : List Entry → Machine → Type 0
RefusesAlike past m = (number : ℕ) → refused_repeat past (frame_of past number) ≡ refusal_of m.outside.outer.air.frames number

-- ---- what is known

-- where the last entry is the words of a `repeat`, its frame is fresh
abbrev pub FreshHere : List Entry → Type 0
FreshHere past = (number : ℕ) → line_last past ≡ Repeat number ∷ [] → IsFresh past number

abbrev pub Knows : Pending → Knowing
Knows pending awaits past w = Tie pending past w × FreshHere past

-- the controller does not join
abbrev pub JoinsNode : OuterEvent → Type 0
JoinsNode (Joins node) = node ≢ controller
JoinsNode event = Unit {0}

abbrev pub Settled : KnownOf
Settled past m = Known MayHear Knows past m.outside

-- after the words of a line, also of one that repeats a frame that is not fresh
abbrev pub Said_so : Line → KnownOf
Said_so line past m = Tie nothing past m.outside × (line_last past ≡ line ∷ [])

-- a frame is to be repeated
pub record AwaitsRepeat (left : List Event) (past : List Entry) (m : Machine) : Type 0 where
  pub number : ℕ
  pub drawn : List ℕ
  pub route : Option Route
  pub is : left ≡ Outside_does (Repeats number drawn route) ∷ []
  pub said : line_last past ≡ Repeat number ∷ []
  pub tie : Tie nothing past m.outside

-- a node joins the host, and then the air
abbrev pub AwaitsJoin : List Event → Type 0
AwaitsJoin left = (node : ℕ) × (left ≡ Host_does (joins_host node) ∷ Outside_does (Joins node) ∷ [])

abbrev pub Left : Line → List Event → KnownOf
Left line left past m = AwaitsRepeat left past m ⊎ ((AwaitsJoin left ⊎ AllByRecursion (CoversOuter JoinsNode) left) × Settled past m)

-- at each phase of a line
abbrev pub KnowAir : Phase → List Entry → Machine → Type 0
KnowAir here past m = by_line Said_so Said_so Left Settled here past m
