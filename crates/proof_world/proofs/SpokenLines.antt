-- Lines that are said one after another are lines that were read, with all their events.
use Rattle.std.proofs.Common.{◌≡◌, List, [], ◌∷◌, map, ap, refl, sym, ◌∙◌}
use Rattle.std.specs.Prelude.{Option, Some, None, Result, Ok, Err}
use Rattle.std.specs.List.{AllByRecursion}
use Rattle.zw_words.specs.declared.fault.LineFault.{LineFault}
use Rattle.zw_text.specs.Line.{line_at}
use Rattle.zw_text.specs.Transcript.{read_as}
use Rattle.zw_text.specs.declared.line.Line.{Line}
use Rattle.proof_device.specs.world_model.State.{Machine}
use Rattle.proof_device.specs.world_model.Events.{Event}
use Rattle.proof_device.specs.world_model.Did.{happens_all, MayAll}
use Rattle.proof_device.specs.world_model.Prefixes.{IsLineBefore}
use Rattle.proof_device.proofs.EventLists.{happens_all-append, may_all-append}
use Rattle.proof_serial.specs.Line.{AreLines}
use Rattle.world_lines.specs.Spoken.{Spoken, after, after_all}
use Rattle.world_lines.specs.Done.{IsRead, AreDone, events_of}

abbrev pub lines_of : List Spoken → List Line
lines_of lines = map (λ (spoken : Spoken). spoken.line) lines

-- ---- what was read

read_is : (read : Result (Option Line) LineFault) (line : Line) → read_as read ≡ line ∷ [] → read ≡ Ok (Some line)
read_is (Ok (Some other)) line is = let same : other ≡ line = cc in ap (λ (l : Line). Ok (Some l)) same
read_is (Ok None) line is = absurd cc
read_is (Err fault) line is = absurd cc

pub all_read : (m : Machine) (lines : List Spoken) → AreDone m lines → AllByRecursion IsRead (lines_of lines)
all_read m [] are = tt
all_read m (spoken ∷ more) are = ((spoken.words, read_is (line_at spoken.words) spoken.line are.0.read), all_read (after m spoken) more are.1)

-- ---- their events

before_lines : (more : List Spoken) (line : Line) (m : Machine) (events : List Event) → IsLineBefore more line m events → IsLineBefore (lines_of more) line m events
before_lines [] line m events is = is
before_lines (next ∷ more) line m events is = is

pub all_lines : (m : Machine) (lines : List Spoken) → AreDone m lines → AreLines (lines_of lines) m (events_of lines)
all_lines m [] are = refl
all_lines m (spoken ∷ more) are = (spoken.events, events_of more, refl, before_lines more spoken.line m spoken.events are.0.is_line, all_lines (after m spoken) more are.1)

pub all_may : (m : Machine) (lines : List Spoken) → AreDone m lines → MayAll m (events_of lines)
all_may m [] are = tt
all_may m (spoken ∷ more) are = may_all-append m spoken.events (events_of more) are.0.may (all_may (after m spoken) more are.1)

pub all_after : (m : Machine) (lines : List Spoken) → after_all m lines ≡ happens_all m (events_of lines)
all_after m [] = refl
all_after m (spoken ∷ more) = all_after (after m spoken) more ∙ sym (happens_all-append m spoken.events (events_of more))
