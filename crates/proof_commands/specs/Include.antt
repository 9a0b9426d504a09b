-- What a run of `include` keeps true (this project's own): where its lines are cut, its transcript is cut too, and an `add` that is accepted ends well.
use Rattle.std.specs.Prelude.{◌≡◌, ℕ, ◌≤◌, List, [], ◌∷◌, ◌++◌, map, Option, Some}
use Rattle.include_text.specs.Line.{line_at}
use Rattle.include_text.specs.declared.line.IncludeLine.{IncludeLine}
use Rattle.include_text.specs.declared.line.IncludeLine.TheVariants.{Add}
use Rattle.include_text.specs.declared.entry.IncludeEntry.{IncludeEntry}
use Rattle.include_world.specs.World.{WorldState, first_world}
use Rattle.include_world.specs.Added.{IsSecure, last_word}
use Rattle.run_lines.specs.declared.running.LinesEnd.{LinesEnd}
use Rattle.run_lines.specs.declared.running.LinesEnd.TheVariants.{NoMemory}
use Rattle.run_lines.specs.declared.status.Status.{Status}
use Rattle.run_lines.specs.Lines.{TextLine, AllRan, RanLines, lines_in}
use Rattle.run_include.specs.Run.{LineRan, PartRan, IncludeRan}
use Rattle.proof_include.specs.Adding.{Adds}

-- the lines that were run, in order
abbrev pub lines_of : {status : Status} {key : List ℕ} {left left' sink sink' : Option (List ℕ)} → IncludeRan status key left left' sink sink' → List (TextLine IncludeLine)
lines_of ran = lines_in line_at ran.told.texts

-- Lines of a run, and those before and after them, with the transcript of each part: they were run from the one world to the other.
pub record Part {status : Status} {key : List ℕ} {left left' sink sink' : Option (List ℕ)} (ran : IncludeRan status key left left' sink sink') (before lines after : List (TextLine IncludeLine)) : Type 0 where
  pub past : List IncludeEntry
  pub shown : List IncludeEntry
  pub later : List IncludeEntry
  pub start : WorldState
  pub next : WorldState
  pub ran_before : AllRan LineRan before (first_world key) start past
  pub ran_lines : AllRan LineRan lines start next shown
  pub ran_after : RanLines ran.told.end LineRan PartRan after next ran.world later
  pub transcript_is : ran.told.transcript ≡ past ++ (shown ++ later)

-- lines that are followed by these were run whole: where there was no memory, the last line of a run perhaps was not
abbrev pub AreWhole : LinesEnd → List (TextLine IncludeLine) → Type 0
AreWhole NoMemory after = after ≡ [] → ⊥
AreWhole end after = Unit {0}

-- wherever the lines of a run are cut, its transcript has these parts
abbrev pub HasParts : Status → List ℕ → Option (List ℕ) → Option (List ℕ) → Option (List ℕ) → Option (List ℕ) → Type 0
HasParts status key left left' sink sink' =
    (ran : IncludeRan status key left left' sink sink') (before lines after : List (TextLine IncludeLine)) → lines_of ran ≡ before ++ (lines ++ after) → AreWhole ran.told.end after
    → Part ran before lines after

-- `secure` is the last word on a node after an `add` of it that is accepted and ticks alone, eight or more, where no mark of `lose` is left and the transcript shows no
-- key of its lock after the last reset
abbrev pub AddsSecurely : Status → List ℕ → Option (List ℕ) → Option (List ℕ) → Option (List ℕ) → Option (List ℕ) → Type 0
AddsSecurely status key left left' sink sink' =
    (ran : IncludeRan status key left left' sink sink') (before ticks after : List (TextLine IncludeLine)) (add : TextLine IncludeLine) (part : Part ran before (add ∷ ticks) after)
    → (node : ℕ) → 1 ≤ node → node ≤ 232 → add.line ≡ Add node → Adds node (map (λ (tick : TextLine IncludeLine). tick.line) ticks) part.past part.shown
    → last_word node (part.past ++ part.shown) ≡ Some IsSecure

-- What holds of every run of `include`, at every status.
pub record IncludeKeepsLaws (status : Status) (key : List ℕ) (left left' sink sink' : Option (List ℕ)) : Type 0 where
  pub parts : HasParts status key left left' sink sink'
  pub added : AddsSecurely status key left left' sink sink'
