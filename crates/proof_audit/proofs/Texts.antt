-- The texts that are shown are the words of lines and stored values: all else that events enter shows none.
use Rattle.std.proofs.Common.{ℕ, List, [], ◌∷◌}
use Rattle.std.specs.List.{AllByRecursion}
use Rattle.zw_base.proofs.Each.{all-append}
use Rattle.zw_text.specs.declared.entry.Entry.{Entry}
use Rattle.zw_text.specs.declared.entry.Entry.TheVariants as entry
use Rattle.value_store.specs.Values.{held_of}
use Rattle.host_model.specs.State.{HostState}
use Rattle.host_model.specs.Events.{HostEvent, Accepts, Cancels}
use Rattle.host_model.specs.Outs.{answers}
use Rattle.outside_model.specs.Events.{OuterEvent, outcome}
use Rattle.world_model.specs.State.{Machine}
use Rattle.world_model.specs.Events.{Event, Outside_does, Host_does, Refuses, Shows_values, shown_values, happens, entries, May}
use Rattle.world_model.specs.Did.{MayAll, entries_all}
use Rattle.world_lines.specs.Spoken.{Spoken, after, transcript_of}
use Rattle.world_lines.specs.Done.{AreDone}
use Rattle.proof_headline.proofs.Entering.{Enters, IsOfChip, stamp_are}
use Rattle.proof_transcript.specs.proof_walk.Outside.{IsHostNote}
use Rattle.proof_transcript.proofs.Alone.{EntersAs, entries_are}
use Rattle.proof_audit.specs.Legible.{SaysWords, ShowTexts, ShowsText}
use Rattle.proof_audit.proofs.JsonLines.{values_are_one_line}

-- ---- entries that show no text

chip_shows : (told : Entry) → IsOfChip told → ShowsText told
chip_shows (entry.Said words) is = absurd is
chip_shows (entry.Json text) is = absurd is
chip_shows told is = tt

note_shows : (told : Entry) → IsHostNote told → ShowsText told
note_shows (entry.Said words) is = absurd is
note_shows (entry.Json text) is = absurd is
note_shows told is = tt

outside_shows : (event : OuterEvent) (told : Entry) → Enters event told → ShowsText told
outside_shows event (entry.Said words) is = absurd is
outside_shows event (entry.Json text) is = absurd is
outside_shows event told is = tt

answers_show : (h : HostState) (event : HostEvent) → ShowTexts (answers h event)
answers_show h (Accepts order carriage) = (tt, tt)
answers_show h (Cancels command) = (tt, tt)
answers_show h event = tt

-- ---- events

values_shown : (m : Machine) (node : ℕ) → ShowTexts (entries m (Shows_values node))
unfolding entries outcome
values_shown m node =
    stamp_are ShowsText (λ tick. tt) m.outside.outer (shown_values m.host.state node ∷ []) (values_are_one_line node (held_of m.host.state.store node), tt)

all_show : (m : Machine) (event : Event) → EntersAs ShowsText event → May m event → ShowTexts (entries m event)
all_show m event each may = entries_are ShowsText chip_shows (λ tick. tt) note_shows m event each may

event_shows : (m : Machine) (event : Event) → May m event → ShowTexts (entries m event)
event_shows m (Outside_does event) may = all_show m (Outside_does event) (outside_shows event) may
event_shows m (Host_does event) may = all_show m (Host_does event) (λ h. answers_show h event) may
event_shows m (Refuses line refusal) may = all_show m (Refuses line refusal) tt may
event_shows m (Shows_values node) may = values_shown m node
event_shows m event may = all_show m event tt may

events_show : (m : Machine) (events : List Event) → MayAll m events → ShowTexts (entries_all m events)
events_show m [] may = tt
events_show m (event ∷ events) may =
    all-append ShowsText (entries m event) (entries_all (happens m event) events) (event_shows m event may.0) (events_show (happens m event) events may.1)

-- ---- lines

pub lines_show : (m : Machine) (lines : List Spoken) → AreDone m lines → AllByRecursion SaysWords lines → ShowTexts (transcript_of m lines)
lines_show m [] done says = tt
lines_show m (spoken ∷ more) done says = (
  says.0,
  all-append ShowsText (entries_all m spoken.events) (transcript_of (after m spoken) more) (events_show m spoken.events done.0.may)
      (lines_show (after m spoken) more done.1 says.1),
)
