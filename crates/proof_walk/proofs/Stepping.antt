-- One event of a walk: what it enters, and what is known after it.
use Rattle.std.proofs.Common.{◌≡◌, List, ◌++◌, sym, subst}
use Rattle.zw_text.specs.declared.entry.Entry.{Entry}
use Rattle.proof_host.specs.law_transcript.Lists.{EachAfter}
use Rattle.proof_device.specs.world_model.State.{Machine}
use Rattle.proof_device.specs.world_model.Events.{Event, happens, entries}
use Rattle.proof_walk.specs.Phases.{Phase}

module _ (Asks : List Entry → Entry → Type 0) (Know : Phase → List Entry → Machine → Type 0) where
  abbrev pub Steps : Phase → List Entry → Machine → Event → Type 0
  Steps next past m event = EachAfter Asks past (entries m event) × Know next (past ++ entries m event) (happens m event)

  -- the event is this one, and the phase after it
  pub event_then : (next to : Phase) (event is : Event) (past : List Entry) (m : Machine) → event ≡ is → next ≡ to → Steps to past m is → Steps next past m event
  event_then next to event is past m event_is next_is steps =
      subst (λ (e : Event). Steps next past m e) (sym event_is) (subst (λ (q : Phase). Steps q past m is) (sym next_is) steps)
