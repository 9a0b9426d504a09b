-- The transcript of a run of `sim` that ends well is read back, and so is the table after it; so what was written is judged to be in order where each rule is
-- kept.
use Rattle.std.proofs.Common.{◌≡◌, ℕ, Bool, false, List, [], ◌∷◌, ◌++◌, Some, Ok, subst}
use Rattle.std.specs.List.{AllByRecursion}
use Rattle.zw_base.proofs.Each.{all-append}
use Rattle.zw_text.specs.Entry.{transcript_text}
use Rattle.zw_text.specs.Line.{line_at}
use Rattle.zw_text.specs.Transcript.{lines_run}
use Rattle.zw_text.specs.declared.line.Line.{Line}
use Rattle.zw_text.specs.declared.entry.Entry.{Entry}
use Rattle.device_sim.specs.State.{State}
use Rattle.law_transcript.specs.Nodes.{listing_of, always}
use Rattle.law_transcript.specs.Restarts.{ticks_asked}
use Rattle.law_transcript.specs.Table.{table_of}
use Rattle.world_model.specs.State.{Machine}
use Rattle.world_model.specs.Events.{Event}
use Rattle.world_lines.specs.Spoken.{Spoken, transcript_of}
use Rattle.world_lines.specs.Done.{AreDone}
use Rattle.run_lines.specs.Pieces.{said_text}
use Rattle.run_lines.specs.declared.status.Status.TheVariants.{Ok as all_well}
use Rattle.run_lines.proofs.Pieces.{Appends-append}
use Rattle.proof_audit.specs.Legible.{AreInRange, AreLegible, AreOfLine, IsLegible, SaysWords, ShowTexts}
use Rattle.proof_audit.specs.Whole.{AnswersYes, KeepsRules}
use Rattle.run_all.specs.Around.{Around}
use Rattle.proof_commands.specs.Laws.{Ran, TellsAtRestarts, first, transcript}
use Rattle.proof_commands.specs.Sim.{Tells, WritesInOrder}
use Rattle.proof_commands.proofs.Reading.{AreRead}
use Rattle.proof_commands.proofs.Speaking.{ReadAgain, all_said, same_transcript, story_done}
use Rattle.proof_commands.proofs.Tables.{TablesShown, in_range, shown_table, writes_table}

-- ---- words

abbrev pub SaidEntries : Type 0
SaidEntries = (text : List ℕ) (line : Line) → line_at text ≡ Ok (Some line) → AreOfLine (said_text text)

story_says : SaidEntries → (story : List Ran) → AreRead story → AllByRecursion SaysWords (all_said story)
story_says entries [] read = tt
story_says entries (ran ∷ more) read = (entries ran.line.text ran.line.line read.0, story_says entries more read.1)

-- ---- all of it

-- what is proved of lines and of entries
pub record ReadingBack : Type 0 where
  pub again : ReadAgain
  pub entries : SaidEntries
  pub tables : TablesShown
  pub texts : (m : Machine) (lines : List Spoken) → AreDone m lines → AllByRecursion SaysWords lines → ShowTexts (transcript_of m lines)
  pub legible : (T : List Entry) → AreInRange T → ShowTexts T → AreLegible T
  pub table : (listing : ℕ → List ℕ) (clock : ℕ) (past : List Entry) (devices : List State) → AreInRange (table_of (always listing) clock past devices)
      → AreLegible (table_of (always listing) clock past devices)
  pub judged : (T table : List Entry) → AreLegible (T ++ table) → KeepsRules (T ++ table) → AnswersYes (transcript_text T ++ transcript_text table)

-- the transcript alone
pub entries_back : ReadingBack → (key : List ℕ) (old new : Around) (quiet : Bool) (story : List Ran) (unentered : List Event)
    → Tells all_well quiet key old new story unentered → TellsAtRestarts old story → AreLegible (transcript key old story)
entries_back laws key old new quiet story unentered tells restarts =
    let T = transcript key old story in
    laws.legible T (in_range laws.again laws.tables key old new quiet story unentered tells restarts).entered
    (subst ShowTexts (same_transcript (first key old) story)
    (laws.texts (first key old) (all_said story) (story_done laws.again key old new story unentered tells.is) (story_says laws.entries story tells.is.read)))

read_back : ReadingBack → (key : List ℕ) (old new : Around) (quiet : Bool) (story : List Ran) (unentered : List Event) → Tells all_well quiet key old new story unentered
    → TellsAtRestarts old story → AreLegible (transcript key old story ++ shown_table old (transcript key old story) new.devices)
read_back laws key old new quiet story unentered tells restarts =
    let T = transcript key old story in
    let table = shown_table old T new.devices in
    let numbers = in_range laws.again laws.tables key old new quiet story unentered tells restarts in
    all-append IsLegible T table
    (entries_back laws key old new quiet story unentered tells restarts)
    (laws.table (listing_of old.devices) (ticks_asked (lines_run T)) T new.devices numbers.table)

pub in_order : ReadingBack → (key : List ℕ) (old new : Around) (story : List Ran) (unentered : List Event) → Tells all_well false key old new story unentered
    → TellsAtRestarts old story → KeepsRules (transcript key old story ++ shown_table old (transcript key old story) new.devices)
    → WritesInOrder old new
in_order laws key old new story unentered tells restarts keeps =
    let T = transcript key old story in
    let table = shown_table old T new.devices in
    let written = writes_table laws.again laws.tables key old new false story unentered tells restarts in (
      transcript_text T ++ transcript_text table,
      Appends-append old.written written.between new.written (transcript_text T) (transcript_text table) written.told written.table,
      laws.judged T table (read_back laws key old new false story unentered tells restarts) keeps,
    )
