-- What events of the machine tell: interviews that end well, and hosts that start again.
use Rattle.std.proofs.Common.{◌≡◌, ℕ, false, true, List, [], ◌∷◌, ◌++◌, Option, Some, None}
use Rattle.std.specs.Prelude.{IsSome}
use Rattle.std.specs.List.{AllByRecursion}
use Rattle.zw_text.specs.declared.entry.Entry.{Entry}
use Rattle.proof_world.specs.host_model.State.{HostState}
use Rattle.proof_world.specs.host_model.Events.{HostEvent, Interviews}
use Rattle.proof_world.specs.host_model.After.{after}
use Rattle.proof_world.specs.host_model.Facts.{HostFacts}
use Rattle.proof_once.specs.proof_host.Facts.{Facts}
use Rattle.proof_world.specs.host_model.Recording.{IsOfJoined, AllOfJoined}
use Rattle.proof_once.specs.world_model.State.{Machine}
use Rattle.proof_once.specs.world_model.Events.{Event, Outside_does, Host_does, Host_takes, Decoder_ticks, Refuses, Shows_values, Restarts, happens, entries, May}
use Rattle.proof_once.specs.world_model.Did.{MayAll}
use Rattle.proof_world.specs.Restarts.{StartsWell, KeepsWell, AllKeepWell, AreHeld, IsHeld}
use Rattle.proof_world.specs.Lines.{IsAsked, AsksWell, AllAsked}
use Rattle.proof_spoken.specs.Said.{TellsListing, TellListing, KnowsAgain, Tells, AllTell}
use Rattle.proof_spoken.specs.Interviews.{HearsList, HearLists}

-- ---- interviews

asked_tells : (listing : ℕ → List ℕ) (h : HostState) (event : HostEvent) → IsAsked h event → TellsListing listing h event
asked_tells listing h (Interviews n listens classes update) asked = absurd asked
asked_tells listing h _ asked = tt

heard_tells : (listing : ℕ → List ℕ) (h : HostState) (event : HostEvent) → IsOfJoined h event → HearsList listing event → TellsListing listing h event
heard_tells listing h (Interviews n listens classes update) well hears = record { joined = well; lists = hears }
heard_tells listing h _ well hears = tt

all_heard_tell : (listing : ℕ → List ℕ) (h : HostState) (events : List HostEvent) → AllOfJoined h events → AllByRecursion (HearsList listing) events → TellListing listing h events
all_heard_tell listing h [] well hears = tt
all_heard_tell listing h (event ∷ events) well hears = (heard_tells listing h event well.0 hears.0, all_heard_tell listing (after h event) events well.1 hears.1)

-- ---- events

abbrev Again : Type 0
Again = (old new : HostState) (texts : List (List ℕ)) → AreHeld old texts → AreHeld new texts → KnowsAgain old new

abbrev EventHeld : Type 0
EventHeld = (m : Machine) (event : Event) → HostFacts m.host.state → IsHeld m.host.state m.records → May m event → KeepsWell m event
    → StartsWell m event × IsHeld (happens m event).host.state (happens m event).records

abbrev FactsKept : Type 0
FactsKept = (past : List Entry) (m : Machine) (event : Event) → Facts past m.host.state → May m event → StartsWell m event → Facts (past ++ entries m event) (happens m event).host.state

-- two hosts that have what one keeper holds
known_again : Again → (old new : HostState) (records : Option (List (List ℕ))) → IsSome records → IsHeld old records → IsHeld new records → KnowsAgain old new
known_again again old new None told held holds = let bad : false ≡ true = told in absurd cc
known_again again old new (Some texts) told held holds = again old new texts held holds

module _ (listing : ℕ → List ℕ) (again : Again) (event_held : EventHeld) (facts_kept : FactsKept) where
  tells_at : (m : Machine) (event : Event) → IsHeld m.host.state m.records → IsHeld (happens m event).host.state (happens m event).records → AsksWell m event → KeepsWell m event
      → HearLists listing event → Tells listing m event
  unfolding happens
  tells_at m (Outside_does event) held holds asked well hears = tt
  tells_at m (Host_does event) held holds asked well hears = asked_tells listing m.host.state event asked
  tells_at m (Host_takes count rest items events) held holds asked well hears = all_heard_tell listing m.host.state events well hears
  tells_at m Decoder_ticks held holds asked well hears = tt
  tells_at m (Refuses line refusal) held holds asked well hears = tt
  tells_at m (Shows_values node) held holds asked well hears = tt
  tells_at m (Restarts state) held holds asked well hears = known_again again m.host.state state m.records well held holds

  pub all_tell : (past : List Entry) (m : Machine) (events : List Event) → Facts past m.host.state → IsHeld m.host.state m.records → MayAll m events → AllAsked m events → AllKeepWell m events
      → AllByRecursion (HearLists listing) events → AllTell listing m events
  all_tell past m [] facts held may asked well hears = tt
  all_tell past m (event ∷ events) facts held may asked well hears =
      let goes = event_held m event facts.host held may.0 well.0 in (
        tells_at m event held goes.1 asked.0 well.0 hears.0,
        all_tell (past ++ entries m event) (happens m event) events (facts_kept past m event facts may.0 goes.0) goes.1 may.1 asked.1 well.1 hears.1,
      )
