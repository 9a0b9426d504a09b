-- The table of the machine after a story that was run whole is the one that its transcript shows, and it is written of a run of `sim` that ends well.
use Rattle.std.proofs.Common.{◌≡◌, ℕ, Bool, false, List, [], ◌∷◌, Option, Some, sym, ap, subst, ◌∙◌, append-nil}
use Rattle.std.specs.Io.KnownBytes.{Appends}
use Rattle.std.specs.List.{AllByRecursion}
use Rattle.zw_base.proofs.Each.{all-append}
use Rattle.s0_crypto.specs.declared.key_pair.Keys.{Keys}
use Rattle.device_sim.specs.State.{State}
use Rattle.run_all.specs.host_core.Network.{keys_of}
use Rattle.zw_text.specs.Entry.{transcript_text}
use Rattle.zw_text.specs.Fits.{EntryFits}
use Rattle.zw_text.specs.Transcript.{lines_run}
use Rattle.zw_text.specs.Line.{line_at}
use Rattle.zw_text.specs.declared.line.Line.{Line}
use Rattle.zw_text.specs.declared.entry.Entry.{Entry}
use Rattle.law_transcript.specs.Nodes.{listing_of, always}
use Rattle.law_transcript.specs.Restarts.{ticks_asked}
use Rattle.law_transcript.specs.Table.{table_of}
use Rattle.world_model.specs.State.{Machine, first_machine}
use Rattle.world_model.specs.Events.{Event}
use Rattle.world_model.specs.Did.{happens_all}
use Rattle.world_model.specs.Table.{table_entries}
use Rattle.run_lines.specs.Run.{Closes, WrittenTo}
use Rattle.run_lines.specs.Writing.{text_of}
use Rattle.run_lines.specs.declared.running.LinesEnd.{LinesEnd}
use Rattle.run_lines.specs.declared.running.LinesEnd.TheVariants.{All, Bad, ReadFailed, TooMuch, WriteFailed, NoMemory}
use Rattle.run_lines.specs.declared.status.Status.TheVariants.{Ok}
use Rattle.run_lines.proofs.Shown.{pieces_text}
use Rattle.run_lines.specs.Lines.{AllRan, RanLines, TextLine, lines_in}
use Rattle.run_all.specs.run_sim.Sim.{IsTable, LineRan, PartRan, Point, point_of, shown_text}
use Rattle.run_all.specs.run_sim.World.{first_world}
use Rattle.world_lines.specs.Spoken.{Spoken, after_all, transcript_of}
use Rattle.world_lines.specs.Done.{AreDone}
use Rattle.world_lines.specs.Whole.{AreWhole}
use Rattle.run_all.specs.Around.{Around, shelf_in}
use Rattle.proof_commands.specs.Laws.{Ran, AreSchedules, IsStory, TellsAtRestarts, events_of, first, last, transcript}
use Rattle.proof_commands.specs.Sim.{EndsAs, EndsWhole, Tells, WritesTable}
use Rattle.proof_commands.proofs.Speaking.{ReadAgain, all_done, all_said, same_machine, same_transcript}
use Rattle.proof_commands.proofs.Told.{ToldStory, fresh, story_told}

-- ---- lines that were run whole

pub whole_said : (m : Machine) (story : List Ran) → AreSchedules m story → AreWhole m (all_said story)
whole_said m [] are = tt
whole_said m (ran ∷ more) are = (are.0, whole_said (happens_all m ran.events) more are.1)

-- the table that a transcript shows, with these devices
abbrev pub shown_table : Around → List Entry → List State → List Entry
shown_table old past devices = table_of (always (listing_of old.devices)) (ticks_asked (lines_run past)) past devices

-- the table after lines from the first machine on
abbrev pub TablesShown : Type 0
TablesShown = (keys : Keys) (devices : List State) (lines : List Spoken) →
    let m = first_machine keys (Some []) devices in
    AreDone m lines → AreWhole m lines → table_entries (after_all m lines)
    ≡ table_of (always (listing_of devices)) (ticks_asked (lines_run (transcript_of m lines))) (transcript_of m lines) (after_all m lines).outside.devices

module _ (again : ReadAgain) (tables : TablesShown) (key : List ℕ) (old new : Around) (story : List Ran) (is : IsStory key old new story [])
    (schedules : AreSchedules (first key old) story)
    (tells : TellsAtRestarts old story) where
  told : ToldStory key old story
  told = story_told key old new story [] is tells

  reached : after_all (fresh key old) (all_said story) ≡ happens_all (fresh key old) (events_of story)
  reached = same_machine (fresh key old) story

  entered : transcript_of (fresh key old) (all_said story) ≡ transcript key old story
  entered = same_transcript (fresh key old) story ∙ told.entered

  devices : (after_all (fresh key old) (all_said story)).outside.devices ≡ new.devices
  devices =
      ap (λ (m : Machine). m.outside.devices) (reached ∙ told.leaves)
      ∙ sym (is.devices ∙ ap (λ (l : List Event). (happens_all (first key old) l).outside.devices) (append-nil (events_of story)))

  pub table_shown : table_entries (last key old story) ≡ shown_table old (transcript key old story) new.devices
  table_shown =
      let done = all_done again (fresh key old) story is.read told.begun told.may in
      sym (ap table_entries (reached ∙ told.leaves))
      ∙ (tables (keys_of key) old.devices (all_said story) done (whole_said (fresh key old) story (told.schedules schedules))
      ∙ (ap (λ (past : List Entry). shown_table old past (after_all (fresh key old) (all_said story)).outside.devices) entered
      ∙ ap (λ (l : List State). shown_table old (transcript key old story) l) devices))

-- ---- a run of `sim` that ends well

-- all its lines were run whole, the transcript was written, and then the table
record EndsWell (m : Machine) (story : List Ran) (unentered : List Event) (point : Point) (written between all : Option (List ℕ)) (text : List ℕ) : Type 0 where
  pub whole : EndsWhole m story unentered point.machine
  pub told : Appends written between text
  pub pieces : List (List ℕ)
  pub are : IsTable point pieces
  pub table : Appends between all (text_of pieces)

ends_well : (end : LinesEnd) (m : Machine) (story : List Ran) (unentered : List Event) (point : Point) (written between all : Option (List ℕ)) (text : List ℕ)
    → EndsAs end m story unentered point.machine → WrittenTo end written between text → Closes IsTable end Ok point between all
    → EndsWell m story unentered point written between all text
ends_well All m story unentered point written between all text whole told (pieces, are, table) =
    record { whole = whole; told = told; pieces = pieces; are = are; table = table }
ends_well (Bad number fault) m story unentered point written between all text whole told closes = absurd closes
ends_well ReadFailed m story unentered point written between all text whole told closes = let bad = closes.0 in absurd cc
ends_well TooMuch m story unentered point written between all text whole told closes = let bad = closes.0 in absurd cc
ends_well WriteFailed m story unentered point written between all text whole told closes = let bad = closes.0 in absurd cc
ends_well NoMemory m story unentered point written between all text whole told closes = let bad = closes.0 in absurd cc

-- so each was run whole, and all is entered
pub ends_whole : (quiet : Bool) (key : List ℕ) (old new : Around) (story : List Ran) (unentered : List Event) → (tells : Tells Ok quiet key old new story unentered)
    → EndsWhole (first key old) story unentered tells.ran.point.machine
ends_whole quiet key old new story unentered tells =
    let told = tells.ran.told in
    (ends_well told.end (first key old) story unentered tells.ran.point old.written told.mid new.written _ tells.ends told.written told.closes).whole

-- and these are all lines that it ran
all_ran : (end : LinesEnd) (lines : List (TextLine Line)) (old new : Point) (T : List Entry) (between all : Option (List ℕ))
    → RanLines end LineRan PartRan lines old new T → Closes IsTable end Ok new between all → AllRan LineRan lines old new T
all_ran All lines old new T between all ran closes = ran
all_ran (Bad number fault) lines old new T between all ran closes = absurd closes
all_ran ReadFailed lines old new T between all ran closes = let bad = closes.0 in absurd cc
all_ran TooMuch lines old new T between all ran closes = let bad = closes.0 in absurd cc
all_ran WriteFailed lines old new T between all ran closes = let bad = closes.0 in absurd cc
all_ran NoMemory lines old new T between all ran closes = let bad = closes.0 in absurd cc

table_text : (point : Point) (pieces : List (List ℕ)) → IsTable point pieces → text_of pieces ≡ transcript_text (table_entries point.machine)
unfolding IsTable
table_text point pieces are = ap text_of are.0 ∙ pieces_text false (table_entries point.machine)

module _ (again : ReadAgain) (tables : TablesShown) where
  pub writes_table : (key : List ℕ) (old new : Around) (quiet : Bool) (story : List Ran) (unentered : List Event)
      → Tells Ok quiet key old new story unentered → TellsAtRestarts old story
      → WritesTable quiet key old new story
  writes_table key old new quiet story unentered tells restarts =
      let told = tells.ran.told in
      let point = tells.ran.point in
      let past = transcript key old story in
      let ended = ends_well told.end (first key old) story unentered point old.written told.mid new.written _ tells.ends told.written told.closes in
      let is : IsStory key old new story [] = subst (λ (l : List Event). IsStory key old new story l) ended.whole.all_entered tells.is in
      let entries : table_entries point.machine ≡ shown_table old past new.devices
      = ap table_entries ended.whole.is_last ∙ table_shown again tables key old new story is ended.whole.schedules restarts in
      record {
        between = told.mid;
        told = subst (λ (l : List Entry). Appends old.written told.mid (shown_text quiet l)) tells.entered ended.told;
        table = subst (Appends told.mid new.written) (table_text point ended.pieces ended.are ∙ ap transcript_text entries) ended.table;
      }

-- ---- ranges

-- each number that was entered of lines is in its range
lines_fit : (lines : List (TextLine Line)) (old new : Point) (T : List Entry) → AllRan LineRan lines old new T → AllByRecursion EntryFits T
lines_fit [] old new T ran = subst (AllByRecursion EntryFits) (sym ran.1) tt
lines_fit (line ∷ lines) old new T (mid, some, later, one, rest, are) =
    subst (AllByRecursion EntryFits) (sym are) (all-append EntryFits some later one.fits (lines_fit lines mid new later rest))

-- and of the table
table_fits : (point : Point) (pieces : List (List ℕ)) → IsTable point pieces → AllByRecursion EntryFits (table_entries point.machine)
unfolding IsTable
table_fits point pieces are = are.1

-- so of the transcript and the table of a run of `sim` that ends well
pub record AreInRange (old new : Around) (past : List Entry) : Type 0 where
  pub entered : AllByRecursion EntryFits past
  pub table : AllByRecursion EntryFits (shown_table old past new.devices)

module _ (again : ReadAgain) (tables : TablesShown) where
  pub in_range : (key : List ℕ) (old new : Around) (quiet : Bool) (story : List Ran) (unentered : List Event)
      → Tells Ok quiet key old new story unentered → TellsAtRestarts old story → AreInRange old new (transcript key old story)
  in_range key old new quiet story unentered tells restarts =
      let told = tells.ran.told in
      let point = tells.ran.point in
      let ended = ends_well told.end (first key old) story unentered point old.written told.mid new.written _ tells.ends told.written told.closes in
      let is : IsStory key old new story [] = subst (λ (l : List Event). IsStory key old new story l) ended.whole.all_entered tells.is in
      let entries : table_entries point.machine ≡ shown_table old (transcript key old story) new.devices
      = ap table_entries ended.whole.is_last ∙ table_shown again tables key old new story is ended.whole.schedules restarts in
      record {
        entered = subst (AllByRecursion EntryFits) tells.entered
            (lines_fit (lines_in line_at told.texts) (point_of (first_world key) old.devices (shelf_in old) old.kept old.keeper_reads) point told.transcript
            (all_ran told.end (lines_in line_at told.texts) (point_of (first_world key) old.devices (shelf_in old) old.kept old.keeper_reads) point told.transcript told.mid new.written told.ran told.closes));
        table = subst (AllByRecursion EntryFits) entries (table_fits point ended.pieces ended.are);
      }
