-- Over lines each success stands after the change.
use Rattle.std.proofs.Common.{ℕ, List, [], ◌∷◌, ◌++◌, flat_map, sym, subst, append_assoc, append-nil}
use Rattle.std.specs.List.{AllByRecursion}
use Rattle.device_kinds.specs.declared.change.Change.{Change}
use Rattle.device_sim.specs.State.{State}
use Rattle.proof_spoken.specs.proof_device.Showing.{AreUnchanged, IsShownAmong}
use Rattle.zw_text.specs.declared.entry.Entry.{Entry}
use Rattle.zw_text.specs.declared.entry.Entry.TheVariants.{Said}
use Rattle.law_transcript.specs.Devices.{made_by}
use Rattle.law_transcript.specs.Lists.{EachAfter, Has}
use Rattle.host_model.specs.State.{HostState}
use Rattle.proof_host.specs.Entries.{IsAside}
use Rattle.proof_host.specs.Facts.{Facts}
use Rattle.proof_host.proofs.Lists.{each-append}
use Rattle.world_model.specs.State.{Machine}
use Rattle.world_model.specs.Events.{Event, entries, happens, May}
use Rattle.world_model.specs.Did.{happens_all, entries_all, MayAll}
use Rattle.proof_spoken.specs.Restarts.{AllStartWell, StartsWell}
use Rattle.world_lines.specs.Spoken.{Spoken, after, after_all, entries_of, transcript_of}
use Rattle.proof_spoken.specs.Spoken.{IsSpoken, AreSpoken}
use Rattle.proof_spoken.specs.proof_once.Truly.{AreTrue, IsTrue}
use Rattle.proof_headline.specs.Truly.{LinesAreTrue}
use Rattle.proof_headline.proofs.Shown.{said_shown}
use Rattle.proof_headline.proofs.Succeeding.{Frees}

-- what goes on from event to event
pub record IsSo (Ends : List Entry → Entry → Type 0) (past : List Entry) (m : Machine) : Type 0 where
  pub facts : Facts past m.host.state
  pub shown : AllByRecursion (IsShownAmong past) m.outside.devices
  pub succeeded : EachAfter Ends [] past

-- devices that have not changed
pub first_shown : (devices : List State) → AreUnchanged devices → AllByRecursion (IsShownAmong []) devices
first_shown [] are = tt
first_shown (device ∷ devices) are = ((λ one has. absurd (subst (λ (l : List Change). Has (flat_map made_by l) one) are.0 has)), first_shown devices are.1)

module _ (keeps : (past : List Entry) (m : Machine) (event : Event) → Facts past m.host.state → May m event → StartsWell m event → Facts (past ++ entries m event) (happens m event).host.state)
    (aside : (past : List Entry) (h : HostState) (entry : Entry) → Facts past h → IsAside entry → Facts (past ++ entry ∷ []) h)
    (shows : (past : List Entry) (m : Machine) (event : Event) → May m event → AllByRecursion (IsShownAmong past) m.outside.devices
    → AllByRecursion (IsShownAmong (past ++ entries m event)) (happens m event).outside.devices)
    (Ends : List Entry → Entry → Type 0) (free : Frees Ends) (Of : ℕ → Type 0)
    (succeeds : (past : List Entry) (m : Machine) (event : Event) → Facts past m.host.state → AllByRecursion (IsShownAmong past) m.outside.devices → May m event → ((node : ℕ) → Of node → IsTrue node m event)
    → EachAfter Ends [] past → EachAfter Ends [] (past ++ entries m event)) where
  event_so : (past : List Entry) (m : Machine) (event : Event) → May m event → StartsWell m event → ((node : ℕ) → Of node → IsTrue node m event) → IsSo Ends past m → IsSo Ends (past ++ entries m event) (happens m event)
  event_so past m event may well true so = record {
    facts = keeps past m event so.facts may well;
    shown = shows past m event may so.shown;
    succeeded = succeeds past m event so.facts so.shown may true so.succeeded;
  }

  events_so : (past : List Entry) (m : Machine) (events : List Event) → MayAll m events → AllStartWell m events → ((node : ℕ) → Of node → AreTrue node m events) → IsSo Ends past m
      → IsSo Ends (past ++ entries_all m events) (happens_all m events)
  events_so past m [] may well true so = subst (λ (l : List Entry). IsSo Ends l m) (sym (append-nil past)) so
  events_so past m (event ∷ events) may well true so =
      subst (λ (l : List Entry). IsSo Ends l (happens_all (happens m event) events)) (append_assoc past (entries m event) (entries_all (happens m event) events))
      (events_so (past ++ entries m event) (happens m event) events may.1 well.1 (λ node of. (true node of).1) (event_so past m event may.0 well.0 (λ node of. (true node of).0) so))

  line_so : (past : List Entry) (m : Machine) (spoken : Spoken) (more : List Spoken) → IsSpoken more m spoken → ((node : ℕ) → Of node → AreTrue node m spoken.events) → IsSo Ends past m → IsSo Ends (past ++ entries_of m spoken) (after m spoken)
  line_so past m spoken more is true so =
      let begun : IsSo Ends (past ++ Said spoken.words ∷ []) m = record {
        facts = aside past m.host.state (Said spoken.words) so.facts tt;
        shown = said_shown past spoken.words m.outside.devices so.shown;
        succeeded = each-append Ends [] past (Said spoken.words ∷ []) so.succeeded (free past (Said spoken.words) tt, tt);
      } in
      subst (λ (l : List Entry). IsSo Ends l (after m spoken)) (append_assoc past (Said spoken.words ∷ []) (entries_all m spoken.events))
      (events_so (past ++ Said spoken.words ∷ []) m spoken.events is.may is.well true begun)

  pub lines_so : (past : List Entry) (m : Machine) (lines : List Spoken) → AreSpoken m lines → ((node : ℕ) → Of node → LinesAreTrue node m lines) → IsSo Ends past m → IsSo Ends (past ++ transcript_of m lines) (after_all m lines)
  lines_so past m [] are true so = subst (λ (l : List Entry). IsSo Ends l m) (sym (append-nil past)) so
  lines_so past m (spoken ∷ more) are true so =
      subst (λ (l : List Entry). IsSo Ends l (after_all (after m spoken) more)) (append_assoc past (entries_of m spoken) (transcript_of (after m spoken) more))
      (lines_so (past ++ entries_of m spoken) (after m spoken) more are.1 (λ node of. (true node of).1) (line_so past m spoken more are.0 (λ node of. (true node of).0) so))
