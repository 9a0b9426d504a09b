-- What is known of the tables of a host alone at each phase (this project's own rule): the facts of a host and its transcript, and that its keeper holds what it recorded, so that it
-- goes on where it starts again.
use Rattle.std.specs.Prelude.{ℕ, List, [], Option, IsSome}
use Rattle.std.specs.List.{AllByRecursion}
use Rattle.zw_text.specs.declared.entry.Entry.{Entry}
use Rattle.proof_line.specs.host_model.Outs.{Silent}
use Rattle.proof_line.specs.host_model.State.{HostState}
use Rattle.proof_line.specs.host_model.Events.{HostEvent, Interviews, Finishes, Gives, Spends, Spends_unread, Takes_nonce}
use Rattle.proof_line.specs.proof_host.Facts.{Facts}
use Rattle.proof_line.specs.Asking.{HostAsks}
use Rattle.proof_line.specs.Restarts.{IsHeld}
use Rattle.proof_line.specs.Lines as lines
use Rattle.proof_alone.specs.Phases.{Phase, Ticking, Behind}
use Rattle.proof_alone.specs.Runs.{Knowledge}

-- of a host and of its keeper's records, which it tells
pub record TieTables (past : List Entry) (h : HostState) (records : Option (List (List ℕ))) : Type 0 where
  pub facts : Facts past h
  pub held : IsHeld h records
  pub asks : HostAsks h
  pub told : IsSome records

-- the events that are to come in a part
abbrev pub to_come : Phase → List HostEvent
to_come (Ticking left) = left
to_come (Behind left) = left
to_come here = []

-- What an event is asked is in order. Of what the chip's bytes bring nothing is asked.
abbrev pub IsInOrder : HostState → HostEvent → Type 0
IsInOrder h (Interviews n listens classes update) = Unit {0}
IsInOrder h (Finishes n session id command status wake_request) = Unit {0}
IsInOrder h (Gives n drawn) = Unit {0}
IsInOrder h (Spends n) = Unit {0}
IsInOrder h (Spends_unread n payload) = Unit {0}
IsInOrder h (Takes_nonce n seen text) = Unit {0}
IsInOrder h event = lines.IsAsked h event

abbrev pub AlwaysInOrder : HostEvent → Type 0
AlwaysInOrder event = (h : HostState) → IsInOrder h event

-- they answer no line, and nothing is asked in them out of order
pub record AreInOrder (events : List HostEvent) : Type 0 where
  pub silent : Silent events
  pub ordered : AllByRecursion AlwaysInOrder events

abbrev pub KnowsTables : Knowledge
KnowsTables here past m = TieTables past m.state m.records × AreInOrder (to_come here)
