-- A story as lines that were said: the words that are entered of a line are read as it.
use Rattle.std.proofs.Common.{◌≡◌, ℕ, List, [], ◌∷◌, ◌++◌, Some, Ok, refl, sym, ap, ◌∙◌}
use Rattle.zw_text.specs.Line.{line_at}
use Rattle.zw_text.specs.Transcript.{read_as}
use Rattle.zw_text.specs.declared.line.Line.{Line}
use Rattle.zw_text.specs.declared.entry.Entry.{Entry}
use Rattle.zw_text.specs.declared.entry.Entry.TheVariants.{Said}
use Rattle.world_model.specs.State.{Machine}
use Rattle.world_model.specs.Events.{Event}
use Rattle.world_model.specs.Did.{happens_all, entries_all, MayAll}
use Rattle.world_model.proofs.EventLists.{happens_all-append}
use Rattle.world_model.specs.Prefixes.{IsLineBefore}
use Rattle.run_lines.specs.Pieces.{said_text}
use Rattle.world_lines.specs.Spoken.{Spoken, after_all, transcript_of}
use Rattle.world_lines.specs.Done.{AreDone, events_of as events_said}
use Rattle.run_all.specs.Around.{Around}
use Rattle.proof_commands.specs.Laws.{Ran, AreBegun, IsStory, events_of, first, transcript_from}
use Rattle.proof_audit.proofs.BegunChanges.{may-front as may_prefix}
use Rattle.proof_commands.proofs.Reading.{AreRead}
use Rattle.proof_answers.proofs.LastLine.{may_later}

-- ---- the same story

-- a line as it was said
abbrev pub said_of : Ran → Spoken
said_of ran = record { words = said_text ran.line.text; line = ran.line.line; events = ran.events }

abbrev pub all_said : List Ran → List Spoken
all_said [] = []
all_said (ran ∷ more) = said_of ran ∷ all_said more

pub same_events : (story : List Ran) → events_said (all_said story) ≡ events_of story
same_events [] = refl
same_events (ran ∷ more) = ap (λ (l : List Event). ran.events ++ l) (same_events more)

pub same_transcript : (m : Machine) (story : List Ran) → transcript_of m (all_said story) ≡ transcript_from m story
same_transcript m [] = refl
same_transcript m (ran ∷ more) = ap (λ (l : List Entry). Said (said_text ran.line.text) ∷ (entries_all m ran.events ++ l)) (same_transcript (happens_all m ran.events) more)

pub same_machine : (m : Machine) (story : List Ran) → after_all m (all_said story) ≡ happens_all m (events_of story)
same_machine m [] = refl
same_machine m (ran ∷ more) = same_machine (happens_all m ran.events) more ∙ sym (happens_all-append m ran.events (events_of more))

-- ---- they were said and done

abbrev pub ReadAgain : Type 0
ReadAgain = (text : List ℕ) (line : Line) → line_at text ≡ Ok (Some line) → line_at (said_text text) ≡ Ok (Some line)

before_said : (more : List Ran) (line : Line) (m : Machine) (events : List Event) → IsLineBefore more line m events → IsLineBefore (all_said more) line m events
before_said [] line m events is = is
before_said (next ∷ more) line m events is = is

pub all_done : ReadAgain → (m : Machine) (story : List Ran) → AreRead story → AreBegun m story → MayAll m (events_of story) → AreDone m (all_said story)
all_done again m [] read are may = tt
all_done again m (ran ∷ more) read are may = (
  record {
    read = ap read_as (again ran.line.text ran.line.line read.0);
    is_line = before_said more ran.line.line m ran.events are.0;
    may = may_prefix m ran.events (events_of more) may;
  },
  all_done again (happens_all m ran.events) more read.1 are.1 (may_later m ran.events (events_of more) may),
)

-- ---- of a run

-- the lines of its story were said and done
pub story_done : ReadAgain → (key : List ℕ) (old new : Around) (story : List Ran) (unentered : List Event) → IsStory key old new story unentered
    → AreDone (first key old) (all_said story)
story_done again key old new story unentered is =
    all_done again (first key old) story is.read is.begun (may_prefix (first key old) (events_of story) unentered is.may)
