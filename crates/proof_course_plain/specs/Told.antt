-- What of the host's table of commands goes on with the course (this project's own rule); what it says of sessions and of changes is in `proof_once`.
use Rattle.std.specs.Prelude.{◌≡◌, ℕ, List}
use Rattle.zw_text.specs.declared.entry.Entry.{Entry}
use Rattle.host_keep.specs.declared.final_status.FinalStatus.{FinalStatus}
use Rattle.host_model.specs.State.{Command, HostState}
use Rattle.host_model.specs.After.{outcome_of}
use Rattle.proof_once.specs.proof_host.Facts.{Facts}
use Rattle.proof_once.specs.proof_host.Tables.{outcome_in}

-- a command that came to its end keeps that outcome
abbrev pub KeepsOutcomes : List Command → List Command → Type 0
KeepsOutcomes old new = (number : ℕ) (status : FinalStatus) → outcome_in old number ≡ outcome_of status → outcome_in new number ≡ outcome_of status

-- the host has the facts of some transcript
pub record HasPast (h : HostState) : Type 0 where
  pub past : List Entry
  pub facts : Facts past h
