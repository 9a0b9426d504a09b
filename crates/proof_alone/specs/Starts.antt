-- A host alone that starts from records in the middle of a run (this project's own rule): the run has gone through that start, after exactly these entries, from what its keeper tells. What is
-- known from there on, whatever records these are and whatever stood before the run.
use Rattle.std.specs.Prelude.{◌≡◌, ◌⊎◌, ℕ, List, [], ◌++◌, Some}
use Rattle.s0_crypto.specs.declared.key_pair.Keys.{Keys}
use Rattle.zw_text.specs.declared.entry.Entry.{Entry}
use Rattle.zw_text.specs.declared.line.Line.TheVariants as lines
use Rattle.host_keep.specs.Kept.{first_kept}
use Rattle.host_keep.specs.Legal.{AreLegal, AreTextsOf}
use Rattle.host_keep.specs.declared.record.Record.{Record}
use Rattle.law_host.specs.law_transcript.Answers.{MayCancel}
use Rattle.law_host.specs.law_transcript.Lists.{EachAfter}
use Rattle.law_host.specs.law_transcript.Once.{CarriesOnce}
use Rattle.law_host.specs.law_transcript.Sessions.{MayBegin}
use Rattle.proof_line.specs.host_model.State.{HostState}
use Rattle.proof_line.specs.proof_host.Facts.{Facts}
use Rattle.proof_line.specs.proof_host.RecordsTold.{TellRecords}
use Rattle.proof_line.specs.world_model.Events.{OpensFrom}
use Rattle.proof_alone.specs.State.{HostMachine}
use Rattle.proof_alone.specs.Steps.{Step, Restarts}
use Rattle.proof_alone.specs.Phases.{Phase, Asked, Open}
use Rattle.proof_alone.specs.Runs.{Knowledge, Run}
use Rattle.proof_alone.specs.Runs.Run.{Begins, Turned, Stepped}
use Rattle.proof_alone.specs.Tables.{KnowsTables}

-- the host starts there, from what its keeper tells
abbrev pub StartsAt : (before : List Entry) (records : List (List ℕ)) → List Entry → HostMachine → Step → Type 0
StartsAt before records past m (Restarts state) = (past ≡ before) × (m.records ≡ Some records)
StartsAt before records past m step = ⊥

abbrev pub HasStarted : (before : List Entry) (records : List (List ℕ)) → {start : HostMachine} {here : Phase} {told : List Entry} {m : HostMachine} → Run start here told m → Type 0
HasStarted before records Begins = ⊥
HasStarted before records (Turned turns run) = HasStarted before records run
HasStarted before records (Stepped {told = told} {m = m} step may all_is later_is run) = StartsAt before records told m step ⊎ HasStarted before records run

-- a story stood before the run, and this is known of all that as the host starts
abbrev pub KnownThere : (Know : Knowledge) (start : HostMachine) (story before : List Entry) (records : List (List ℕ)) → Type 0
KnownThere Know start story before records =
    (m : HostMachine) (state : HostState) → Run start (Asked lines.Restart) before m → OpensFrom m.keys m.records state → m.records ≡ Some records
    → Know Open (story ++ before) (record m { state = state; came = [] })

-- what stands since keeps a law, and so much is known here
pub record Since (Law : List Entry → Entry → Type 0) (Know : Knowledge) (story before : List Entry) (here : Phase) (told : List Entry) (m : HostMachine) : Type 0 where
  pub heard : List Entry
  pub split : told ≡ before ++ heard
  pub lawful : EachAfter Law (story ++ before) heard
  pub known : Know here (story ++ told) m

-- ---- tables

-- the records of these texts, where they are legal, are told by these entries, as far as they are of commands
abbrev pub TellsTexts : List (List ℕ) → List Entry → Type 0
TellsTexts texts told = (records : List Record) → AreTextsOf records texts → AreLegal records → TellRecords first_kept records told

-- so the facts hold of them, and of each host that opens from these texts
abbrev pub FactsFrom : List (List ℕ) → List Entry → Type 0
FactsFrom texts past = (keys : Keys) (state : HostState) → OpensFrom keys (Some texts) state → Facts past state

-- Since the start commands are taken back as lines ask, and sessions begin in turn; over all of it each carries a command of its node, once and in order; and the tables are what all of it shows.
pub record KeepsTablesSince (story before : List Entry) (here : Phase) (told : List Entry) (m : HostMachine) : Type 0 where
  pub heard : List Entry
  pub split : told ≡ before ++ heard
  pub cancels : EachAfter MayCancel (story ++ before) heard
  pub sessions : EachAfter MayBegin (story ++ before) heard
  pub carries : (node : ℕ) → CarriesOnce node ((story ++ before) ++ heard)
  pub tables : KnowsTables here (story ++ told) m
