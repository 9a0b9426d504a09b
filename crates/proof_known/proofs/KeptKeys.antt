-- A host keeps its keys, whatever happens to it, and one that starts from records has those that it is given.
use Rattle.std.proofs.Common.{◌≡◌, ℕ, true, false, List, [], ◌∷◌, ◌++◌, refl, ap, ◌∙◌}
use Rattle.std.specs.Prelude.{Option, Some, None, IsSome}
use Rattle.s0_crypto.specs.declared.key_pair.Keys.{Keys}
use Rattle.supervision.specs.Host.{command_at as command_of_session}
use Rattle.zw_text.specs.declared.entry.Entry.{Entry}
use Rattle.host_keep.specs.declared.final_status.FinalStatus.{FinalStatus}
use Rattle.host_keep.specs.declared.record.Record.{Record}
use Rattle.host_keep.specs.declared.record.Record.TheVariants as record_of
use Rattle.proof_waking.specs.host_model.State.{HostState, first_host, node_of}
use Rattle.proof_waking.specs.host_model.Events.{HostEvent, Accepts, Hears_value, Interviews, Joins}
use Rattle.proof_waking.specs.host_model.After.{after}
use Rattle.proof_waking.specs.host_model.Did.{after_all}
use Rattle.proof_waking.specs.host_model.Opening.{restored_all}
use Rattle.proof_waking.specs.host_model.Restoring.{ending, restored}
use Rattle.proof_waking.specs.proof_alone.State.{HostMachine}
use Rattle.proof_waking.specs.proof_alone.Steps.{Step, Tells, Comes, Misses, Says, Says_nothing, Asks, Refuses, Shows, Restarts, Begins_tick, Numbers, Judges, Does, entries, happens}
use Rattle.proof_waking.specs.proof_alone.Phases.{Phase, May}
use Rattle.proof_waking.specs.proof_alone.Runs.{WalkOver}
use Rattle.proof_transcript.proofs.Keeping.{Keeping, each_kept}
use Rattle.proof_transcript.specs.law_transcript.Lists.{EachAfter}
use Rattle.proof_transcript.specs.world_model.Events.{OpensFrom}
use Rattle.proof_known.specs.Known.{KnowsKeys, KnowsWhole}

-- ---- events

abbrev SameKeys : HostState → HostState → Type 0
SameKeys old new = new.keys ≡ old.keys

keeping : Keeping SameKeys
keeping = record {
  still = λ old new nodes commands store keys served. keys;
  both = λ a b c first later. later ∙ first;
  node = λ h n event of. refl;
  outcome = λ h command how. refl;
}

event_keys : (h : HostState) (event : HostEvent) → (after h event).keys ≡ h.keys
event_keys h (Accepts order carriage) = refl
event_keys h (Joins n) = refl
event_keys h (Interviews n listens classes update) = refl
event_keys h (Hears_value n setting) = refl
event_keys h event = each_kept SameKeys keeping (λ h n. refl) (λ h n settings. refl) h event tt

pub all_keys : (h : HostState) (events : List HostEvent) → (after_all h events).keys ≡ h.keys
all_keys h [] = refl
all_keys h (event ∷ events) = all_keys (after h event) events ∙ event_keys h event

-- ---- a start

ended_keys : (h : HostState) (n session : ℕ) (status : FinalStatus) (command : Option ℕ) → (ending h n session status command).keys ≡ h.keys
ended_keys h n session status None = refl
ended_keys h n session status (Some command) = refl

restored_keys : (h : HostState) (one : Record) → (restored h one).keys ≡ h.keys
restored_keys h (record_of.Final n session status) = ended_keys h n session status (command_of_session (node_of h n).book.commands session)
restored_keys h one = refl

records_keys : (h : HostState) (records : List Record) → (restored_all h records).keys ≡ h.keys
unfolding restored_all
records_keys h [] = refl
records_keys h (one ∷ more) = records_keys (restored h one) more ∙ restored_keys h one

-- ---- the walk

-- all entries may stand
abbrev pub Anything : List Entry → Entry → Type 0
Anything past entry = Unit {0}

anything : (past told : List Entry) → EachAfter Anything past told
anything past [] = tt
anything past (e ∷ told) = (tt, anything (past ++ e ∷ []) told)

module _ (keys : Keys) where
  step_keys : (here next : Phase) (past : List Entry) (m : HostMachine) (one : Step) → May here m one next → IsSome m.records → KnowsKeys keys here past m
      → KnowsKeys keys next (past ++ entries m one) (happens m one)
  step_keys here next past m (Asks event) may told known = (known.0, event_keys m.state event ∙ known.1)
  step_keys here next past m (Restarts state) (here_is, opens, next_is) told known = (known.0, opens_keys m.records opens told ∙ known.0)
    where
      opens_keys : (records : Option (List (List ℕ))) → OpensFrom m.keys records state → IsSome records → state.keys ≡ m.keys
      opens_keys None opens some = let bad : false ≡ true = some in absurd cc
      opens_keys (Some texts) (records, are, legal, is) some = ap (λ (h : HostState). h.keys) is ∙ records_keys (first_host m.keys) records
  step_keys here next past m (Judges item rest behind told) may some known = known
  step_keys here next past m (Does event told) may some known = (known.0, event_keys m.state event ∙ known.1)
  step_keys here next past m (Tells e) may some known = known
  step_keys here next past m (Comes unit) may some known = known
  step_keys here next past m (Misses text marks) may some known = known
  step_keys here next past m (Says words line) may some known = known
  step_keys here next past m (Says_nothing words) may some known = known
  step_keys here next past m (Refuses refusal) may some known = known
  step_keys here next past m (Shows node) may some known = known
  step_keys here next past m (Begins_tick left) may some known = known
  step_keys here next past m Numbers may some known = known

  pub keys_walk : (First : List Entry → Entry → Type 0) → WalkOver KnowsWhole First Anything (KnowsKeys keys)
  keys_walk First = record {
    step = λ here next past m one may ground stand known. (anything past (entries m one), step_keys here next past m one may ground.0.0.0.0.0.0.told known);
    turn = λ here next past m turns ground known. known;
  }
