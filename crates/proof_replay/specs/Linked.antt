-- What is known of the link of a host alone over what it heard (this project's own rule): it kept the rules of the serial line, and has heard all that came.
use Rattle.std.specs.Prelude.{◌≡◌, ◌≤◌, ℕ, ◌+◌, Bool, true, false, List, [], ◌∷◌, ◌++◌}
use Rattle.serial_link.specs.Rules.{ticks_of}
use Rattle.zw_words.specs.declared.side.Side.TheVariants.{Host}
use Rattle.zw_text.specs.declared.line.Line.{Line}
use Rattle.zw_text.specs.declared.entry.Entry.{Entry}
use Rattle.zw_text.specs.declared.entry.Entry.TheVariants.{Said, Time}
use Rattle.zw_text.specs.Transcript.{line_of}
use Rattle.law_wire.specs.Links.{KeepsLink}
use Rattle.host_model.specs.State.{HostState}
use Rattle.proof_asking.specs.proof_line.proof_traffic.Links.{KeepsItsLink}
use Rattle.proof_asking.specs.proof_line.Links.{KnowsSide, LinkNow, due_from, tick_told}
use Rattle.proof_asking.specs.proof_requests.proof_alone.Phases.{Phase, Asked, Resting}

-- What it hears comes through no pipe; no bytes are stalled, and in a tick its link ticked once. So many ticks have begun, and lines have asked for so many more.
pub record KnowsLine (past : List Entry) (clock left : ℕ) (h : HostState) : Type 0 where
  pub now : LinkNow
  pub knows : KnowsSide false Host past now
  pub keeps : KeepsItsLink now.life h
  pub heard : now.coming ≡ []
  pub moves : now.until ≡ 0
  pub ticked : now.is_tick ≡ true → ticks_of now.round ≡ 1
  pub time : tick_told past ≡ clock
  pub due : due_from 0 past ≡ clock + left

-- the number of the running tick, where it is still to be entered
abbrev pub number_at : Bool → ℕ → List Entry
number_at true clock = Time clock ∷ []
number_at false clock = []

-- at rest it is so once that number is entered; and what is told so far keeps the rules
pub record LineRests (past : List Entry) (awaits : Bool) (clock left : ℕ) (h : HostState) : Type 0 where
  pub line : KnowsLine (past ++ number_at awaits clock) clock left h
  pub behind : tick_told past ≤ clock
  pub link : KeepsLink Host past

-- the words of a line are told, and nothing since
pub record LineAsked (line : Line) (past : List Entry) (clock : ℕ) (h : HostState) : Type 0 where
  pub before : List Entry
  pub words : List ℕ
  pub awaits : Bool
  pub is : past ≡ before ++ Said words ∷ []
  pub read : line_of (Said words) ≡ line ∷ []
  pub rests : LineRests before awaits clock 0 h

-- at a phase between the steps of such a host
abbrev pub KnowsLineAt : Phase → ℕ → Bool → List Entry → ℕ → HostState → Type 0
KnowsLineAt (Asked line) left awaits past clock h = LineAsked line past clock h
KnowsLineAt Resting left awaits past clock h = LineRests past awaits clock left h
KnowsLineAt here left awaits past clock h = KnowsLine past clock left h
