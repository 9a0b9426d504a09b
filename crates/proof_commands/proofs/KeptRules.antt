-- The transcript of a run of `sim` that ends well keeps the laws by which each rule of `audit` is kept, so it keeps each rule, and the table after it does.
use Rattle.std.proofs.Common.{◌≡◌, ℕ, Bool, true, false, List, [], ◌++◌, Some, inr, ap, sym, subst, ◌∙◌, append-nil}
use Rattle.std.specs.List.{AllByRecursion}
use Rattle.zw_text.specs.Transcript.{lines_run}
use Rattle.zw_text.specs.declared.entry.Entry.{Entry}
use Rattle.s0_crypto.specs.declared.key_pair.Keys.{Keys}
use Rattle.device_sim.specs.State.{State}
use Rattle.run_all.specs.host_core.Network.{keys_of}
use Rattle.law_transcript.specs.Answers.{AnswersLines}
use Rattle.law_transcript.specs.Carrying.{CarriesUnits}
use Rattle.law_transcript.specs.Headline.{IsAsMade}
use Rattle.law_transcript.specs.Nodes.{listing_of, always}
use Rattle.law_transcript.specs.Restarts.{ticks_asked}
use Rattle.law_transcript.specs.Table.{table_of}
use Rattle.world_model.specs.State.{Machine, first_machine}
use Rattle.world_model.specs.Events.{Event}
use Rattle.world_model.specs.Did.{entries_all}
use Rattle.world_lines.specs.Spoken.{Spoken, after_all, transcript_of}
use Rattle.world_lines.specs.Done.{AreDone}
use Rattle.world_lines.specs.Whole.{AreWhole}
use Rattle.law_wire.specs.Shown.{ShowsDevices}
use Rattle.run_lines.specs.declared.status.Status.TheVariants.{Ok as all_well}
use Rattle.proof_device.specs.Showing.{AreApart, IsShown}
use Rattle.proof_answers.specs.proof_chip.proof_world.Devices.{GroupsSessions}
use Rattle.proof_device.proofs.ShownChanges.{stays_apart}
use Rattle.proof_audit.specs.Books.{AreAsked, ArePieces, ChangesBegun, IsOfItsKind}
use Rattle.proof_audit.specs.Frames.{ShowLines}
use Rattle.proof_audit.specs.Legible.{AreLegible}
use Rattle.proof_audit.specs.Rules.{KeepsLaws}
use Rattle.proof_audit.specs.Tables.{StoresDirectly}
use Rattle.proof_audit.specs.Whole.{KeepsRules}
use Rattle.proof_audit.proofs.KindsStay.{kinds_stay}
use Rattle.run_all.specs.Around.{Around}
use Rattle.proof_commands.specs.Laws.{Ran, StoriesKeepLaws, TellsAtRestarts, last, transcript}
use Rattle.proof_commands.specs.Sim.{IsAuditable, Tells, WritesInOrder}
use Rattle.proof_commands.proofs.Further.{reads_as, told as story_of, whole_devices}
use Rattle.proof_commands.proofs.ReadBack.{ReadingBack, entries_back, in_order}
use Rattle.proof_commands.proofs.Speaking.{all_done, all_said}
use Rattle.proof_commands.proofs.Tables.{ends_whole, whole_said}
use Rattle.proof_commands.proofs.Told.{ToldStory, fresh}

-- a session that changed a device had begun before
abbrev BegunBefore : Type 0
BegunBefore = (key : List ℕ) (devices : List State) (lines : List Spoken) →
    let first = first_machine (keys_of key) (Some []) devices in
    AllByRecursion (IsAsMade key) devices → AreApart devices → AreDone first lines → ChangesBegun (transcript_of first lines)

-- what is proved of stories, of lines and of transcripts
pub record Keeping : Type 0 where
  pub back : ReadingBack
  pub stories : (key : List ℕ) (old new : Around) → StoriesKeepLaws key old new
  pub asked : (whole : Bool) (devices : List State) (T : List Entry) → AllByRecursion IsOfItsKind devices → AnswersLines whole devices T → AreAsked (listing_of devices) T
  pub answered : (keys : Keys) (devices : List State) (lines : List Spoken) → AreDone (first_machine keys (Some []) devices) lines
      → AreWhole (first_machine keys (Some []) devices) lines → AnswersLines true devices (transcript_of (first_machine keys (Some []) devices) lines)
  pub shown : (keys : Keys) (devices : List State) (lines : List Spoken) → AreDone (first_machine keys (Some []) devices) lines → AreApart devices
      → ShowsDevices devices (transcript_of (first_machine keys (Some []) devices) lines)
  pub whole : (m : Machine) (lines : List Spoken) → AreDone m lines → ArePieces (after_all m lines).outside.devices (transcript_of m lines)
  pub begun : BegunBefore
  pub lines : (T : List Entry) → AreLegible T → ShowLines T
  pub carries : (keys : Keys) (devices : List State) (lines : List Spoken) → AreDone (first_machine keys (Some []) devices) lines
      → CarriesUnits (transcript_of (first_machine keys (Some []) devices) lines)
  pub stores : (keys : Keys) (devices : List State) (lines : List Spoken) → AllByRecursion IsOfItsKind devices → AreDone (first_machine keys (Some []) devices) lines
      → StoresDirectly (listing_of devices) (transcript_of (first_machine keys (Some []) devices) lines)
  pub rules : (before after : List State) (ticks : ℕ) (T : List Entry) → KeepsLaws before after T → KeepsRules (T ++ table_of (always (listing_of before)) ticks T after)

module _ (laws : Keeping) (key : List ℕ) (old new : Around) (story : List Ran) (unentered : List Event) (tells : Tells all_well false key old new story unentered)
    (good : IsAuditable key old story) where
  abbrev T : List Entry
  T = transcript key old story

  at_restarts : TellsAtRestarts old story
  at_restarts = good.world.run.told

  none : unentered ≡ []
  none = (ends_whole false key old new story unentered tells).all_entered

  told : ToldStory key old story
  told = story_of key old new story unentered tells.is at_restarts

  done : AreDone (fresh key old) (all_said story)
  done = all_done laws.back.again (fresh key old) story tells.is.read told.begun told.may

  whole : AreWhole (fresh key old) (all_said story)
  whole = whole_said (fresh key old) story (told.schedules (ends_whole false key old new story unentered tells).schedules)

  as_read : transcript_of (fresh key old) (all_said story) ≡ T
  as_read = reads_as key old new story unentered tells.is at_restarts

  -- of devices, where all is entered
  of_all : (Law : List Entry → State → Type 0) → AllByRecursion (Law (T ++ entries_all (last key old story) unentered)) new.devices → AllByRecursion (Law T) new.devices
  of_all Law all =
      subst (λ (l : List Entry). AllByRecursion (Law l) new.devices)
      (ap (λ (l : List Event). T ++ entries_all (last key old story) l) none ∙ append-nil T) all

  keeps : KeepsLaws old.devices new.devices T
  keeps =
      let each = laws.stories key old new in
      let is = tells.is in
      let well = each.of_host.kept story unentered is at_restarts in
      let fair = good.world.run in
      let same = each.of_devices.same story unentered is in
      record {
        host = each.of_host.orders story unentered is well;
        asked = laws.asked true old.devices T good.kinds
            (subst (AnswersLines true old.devices) as_read (laws.answered (keys_of key) old.devices (all_said story) done whole));
        headline = each.whole_headline story unentered is fair good.first;
        changes = of_all IsShown (each.of_devices.shown story unentered is fair.made good.world.apart);
        kinds = kinds_stay old.devices new.devices same good.kinds;
        groups = of_all GroupsSessions (each.of_devices.groups story unentered is fair.made good.world.apart);
        apart = stays_apart old.devices new.devices same good.world.apart;
        whole = subst (λ (l : List State). ArePieces l T) (sym (whole_devices key old new story unentered is at_restarts none))
            (subst (ArePieces (after_all (fresh key old) (all_said story)).outside.devices) as_read (laws.whole (fresh key old) (all_said story) done));
        begun = subst ChangesBegun as_read
            (laws.begun key old.devices (all_said story) fair.made good.world.apart done);
        lines = laws.lines T (entries_back laws.back key old new false story unentered tells at_restarts);
        numbers = each.of_air.numbers story unentered is;
        fates = each.of_air.fares story unentered is (inr well) false (λ whole. absurd cc);
        ticks = each.of_line.ticks story unentered is false (λ whole. absurd cc);
        carries = subst CarriesUnits as_read (laws.carries (keys_of key) old.devices (all_said story) done);
        stores = subst (StoresDirectly (listing_of old.devices)) as_read (laws.stores (keys_of key) old.devices (all_said story) good.kinds done);
        shows = subst (ShowsDevices old.devices) as_read (laws.shown (keys_of key) old.devices (all_said story) done good.world.apart);
      }

  pub answers : WritesInOrder old new
  answers =
      in_order laws.back key old new story unentered tells at_restarts
      (laws.rules old.devices new.devices (ticks_asked (lines_run T)) T keeps)
