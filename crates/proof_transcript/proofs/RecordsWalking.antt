-- Over lines that were all run whole, the records cancel the commands that the transcript shows to be taken back, in the same order.
use Rattle.std.proofs.Common.{◌≡◌, ℕ, List, [], ◌∷◌, ◌++◌, map, Option, refl, sym, ap, ap₂, subst, ◌∙◌, append-nil}
use Rattle.std.specs.Prelude.{⊤}
use Rattle.std.specs.List.{flat_map}
use Rattle.std.proofs.lemmas.Grind.{flat_map-append}
use Rattle.zw_text.specs.declared.entry.Entry.{Entry}
use Rattle.zw_text.specs.declared.entry.Entry.TheVariants.{Said, Refused}
use Rattle.zw_text.specs.Transcript.{shown}
use Rattle.zw_text.proofs.Views.{shown-append}
use Rattle.law_host.specs.law_transcript.Lists.{EachAfter}
use Rattle.law_host.specs.law_transcript.Records.{cancelled_at}
use Rattle.host_keep.specs.Legal.{AreTextsOf}
use Rattle.host_keep.specs.declared.record.Record.{Record}
use Rattle.proof_air.specs.host_model.State.{HostState}
use Rattle.proof_air.specs.host_model.Events.{HostEvent}
use Rattle.proof_air.specs.host_model.Outs.{outs, answers}
use Rattle.proof_air.specs.host_model.Records.{records_at}
use Rattle.proof_air.specs.host_model.declared.out.HostOut.{HostOut}
use Rattle.proof_air.specs.host_model.Did.{MayAll as MayAllHost, records_all, texts_of}
use Rattle.proof_air.proofs.host_model_EventLists.{all_in_range}
use Rattle.proof_air.specs.outside_model.State.{Outside}
use Rattle.proof_air.specs.outside_model.Events.{Host_notes, entries as entries_outside, outcome}
use Rattle.proof_air.specs.outside_model.Did.{entries_all as entries_all_outside}
use Rattle.proof_air.specs.world_model.State.{Machine, host_does, host_entries, routed, with_texts}
use Rattle.proof_air.specs.world_model.Events.{Event, Outside_does, Host_does, Host_takes, Decoder_ticks, Refuses, Shows_values, Restarts, fed, shown_values, happens, entries, May}
use Rattle.proof_air.proofs.Silence.{judged_silent}
use Rattle.proof_air.specs.world_lines.Spoken.{Spoken, after_all, transcript_of}
use Rattle.proof_air.specs.world_lines.Done.{AreDone}
use Rattle.proof_air.specs.world_lines.Whole.{AreWhole}
use Rattle.proof_air.specs.proof_host.Entries.{IsAside, entries_at}
use Rattle.proof_spoken.proofs.Aside.{own_aside, stamp_aside}
use Rattle.proof_spoken.proofs.HeldRecords.{texts_both, texts_of_range}
use Rattle.proof_spoken.proofs.Notes.{Trailing, event_following}
use Rattle.proof_air.specs.proof_walk.Phases.{Phase}
use Rattle.proof_air.specs.proof_walk.Walk.{Walk}
use Rattle.proof_air.proofs.Lines.{lines_lead}
use Rattle.proof_transcript.specs.Records.{TellsCancelled, cancelled_by}
use Rattle.proof_transcript.proofs.CancelledRecords.{asides_none, event_cancels, host_cancels, trailing_same}

-- these entries take nothing back
pub silent : (past es : List Entry) (records : Option (List (List ℕ))) → shown cancelled_at es ≡ [] → TellsCancelled past records → TellsCancelled (past ++ es) records
silent past es records none tells = record {
  texts = tells.texts;
  told = tells.told;
  kept = tells.kept;
  are = tells.are;
  cancelled = tells.cancelled ∙ sym (shown-append cancelled_at past es ∙ (ap (λ (l : List ℕ). shown cancelled_at past ++ l) none ∙ append-nil (shown cancelled_at past)));
}

-- these records were added, which cancel what these entries take back
adds : (past es : List Entry) (records : Option (List (List ℕ))) (added : List Record) → AreTextsOf added (texts_of added) → flat_map cancelled_by added ≡ shown cancelled_at es
    → TellsCancelled past records → TellsCancelled (past ++ es) (with_texts records (texts_of added))
adds past es records added are same tells = record {
  texts = tells.texts ++ texts_of added;
  told = ap (λ (o : Option (List (List ℕ))). with_texts o (texts_of added)) tells.told;
  kept = tells.kept ++ added;
  are = texts_both tells.kept added tells.texts (texts_of added) tells.are are;
  cancelled = flat_map-append cancelled_by tells.kept added ∙ (ap₂ (λ (a b : List ℕ). a ++ b) tells.cancelled same ∙ sym (shown-append cancelled_at past es));
}

-- the host does these
pub host_adds : (past es : List Entry) (records : Option (List (List ℕ))) (h : HostState) (events : List HostEvent) → MayAllHost h events
    → flat_map cancelled_by (records_all h events) ≡ shown cancelled_at es → TellsCancelled past records → TellsCancelled (past ++ es) (with_texts records (texts_of (records_all h events)))
host_adds past es records h events may = adds past es records (records_all h events) (texts_of_range (records_all h events) (all_in_range h events may))

note_silent : (past : List Entry) (records : Option (List (List ℕ))) (w : Outside) (e : Entry) → IsAside e → TellsCancelled past records → TellsCancelled (past ++ entries_outside w (Host_notes e)) records
unfolding outcome
note_silent past records w e aside tells =
    silent past (entries_outside w (Host_notes e)) records (asides_none (entries_outside w (Host_notes e)) (stamp_aside w.outer (e ∷ []) (aside, tt))) tells

event_tells : (past : List Entry) (m : Machine) (event : Event) → May m event → TellsCancelled past m.records → TellsCancelled (past ++ entries m event) (happens m event).records
unfolding happens entries May
event_tells past m (Outside_does event) may tells = silent past (entries_outside m.outside event) m.records (asides_none (entries_outside m.outside event) (own_aside m.outside event may.0)) tells
event_tells past m (Host_does event) may tells =
    let h = m.host.state in
    let following : Trailing (entries_at h event) (entries m (Host_does event)) =
    subst (λ (l : List HostOut). Trailing (entries_at h event) (entries_all_outside m.outside (routed l) ++ entries_all_outside (host_does m (event ∷ [])).outside (map Host_notes (answers h event))))
    (sym (append-nil (outs h event))) (event_following m.outside (host_does m (event ∷ [])).outside h event) in
    host_adds past (entries m (Host_does event)) m.records h (event ∷ []) may
    (ap (λ (l : List Record). flat_map cancelled_by l) (append-nil (records_at h event)) ∙ (event_cancels h event ∙ sym (trailing_same (entries_at h event) (entries m (Host_does event)) following))) tells
event_tells past m (Host_takes count rest items events) may tells =
    host_adds past (host_entries (fed m count rest) events) m.records m.host.state events may.may (host_cancels (fed m count rest) events (judged_silent m.host.state items events may.judged)) tells
event_tells past m Decoder_ticks may tells = silent past [] m.records refl tells
event_tells past m (Refuses line refusal) may tells = note_silent past m.records m.outside (Refused refusal) tt tells
event_tells past m (Shows_values node) may tells = note_silent past m.records m.outside (shown_values m.host.state node) tt tells
event_tells past m (Restarts state) may tells = silent past [] m.records refl tells

-- ---- the walk

-- a law that asks nothing
abbrev AsksNothing : List Entry → Entry → Type 0
AsksNothing past e = ⊤

abbrev KnowsCancelled : Phase → List Entry → Machine → Type 0
KnowsCancelled here past m = TellsCancelled past m.records

nothing_asked : (past es : List Entry) → EachAfter AsksNothing past es
nothing_asked past [] = tt
nothing_asked past (e ∷ es) = (tt, nothing_asked (past ++ e ∷ []) es)

cancelled_walk : Walk AsksNothing KnowsCancelled
cancelled_walk = record {
  said = λ past m words line read tells. (tt, silent past (Said words ∷ []) m.records refl tells);
  event = λ here next past m event goes may tells. (nothing_asked past (entries m event), event_tells past m event may tells);
  turn = λ here next past m turns tells. tells;
}

pub lines_tell : (m : Machine) (lines : List Spoken) → AreDone m lines → AreWhole m lines → TellsCancelled [] m.records
    → TellsCancelled (transcript_of m lines) (after_all m lines).records
lines_tell m lines are whole tells = (lines_lead AsksNothing KnowsCancelled cancelled_walk [] m lines are whole tells).1
