-- A law of lines that were said is one of a story: over the keeper that a command was given, over one that tells its records where a line is `restart`, and
-- over one that had none then.
use Rattle.std.proofs.Common.{◌≡◌, ℕ, Bool, true, false, List, [], Option, Some, refl, sym, ap, subst, ◌∙◌}
use Rattle.run_all.specs.host_core.Network.{keys_of}
use Rattle.zw_text.specs.declared.entry.Entry.{Entry}
use Rattle.world_model.specs.State.{Machine, first_machine}
use Rattle.world_model.specs.Events.{Event}
use Rattle.world_lines.specs.Spoken.{transcript_of}
use Rattle.world_lines.specs.Done.{AreDone}
use Rattle.world_lines.specs.Whole.{AreWhole}
use Rattle.run_all.specs.Around.{Around}
use Rattle.proof_commands.specs.Laws.{Ran, AreSchedules, IsStory, TellsAtRestarts, TellsItsRecords, first, has_restart, transcript, transcript_from}
use Rattle.proof_commands.proofs.Further.{reads_as}
use Rattle.proof_commands.proofs.Speaking.{ReadAgain, all_done, all_said, same_transcript, story_done}
use Rattle.proof_commands.proofs.Tables.{whole_said}
use Rattle.proof_commands.proofs.Told.{ToldStory, fresh, story_told}

-- a law of what was run in part or whole
pub as_run : (Law : Bool → List Entry → Type 0) (told : List Entry) (All : Type 0) → Law false told → (All → Law true told) → (whole : Bool) → (whole ≡ true → All) → Law whole told
as_run Law told All part full true all = full (all refl)
as_run Law told All part full false all = part

module _ (again : ReadAgain) (key : List ℕ) (old new : Around) (story : List Ran) (unentered : List Event) (is : IsStory key old new story unentered) where
  -- a law of the lines of the story from a machine on: they were done from there, and run whole where the story was
  abbrev pub OfLines : Machine → (List Entry → Type 0) → Type 0
  OfLines m Law = AreDone m (all_said story) → (AreSchedules (first key old) story → AreWhole m (all_said story)) → Law (transcript_of m (all_said story))

  -- over the keeper that was given
  pub of_any : (Law : List Entry → Type 0) → OfLines (first key old) Law → Law (transcript key old story)
  of_any Law law =
      subst Law (same_transcript (first key old) story)
      (law (story_done again key old new story unentered is) (λ schedules. whole_said (first key old) story schedules))

  -- over one that tells its records and had none, where a line is `restart`
  pub of_new : TellsAtRestarts old story → (Law : List Entry → Type 0) → OfLines (fresh key old) Law → Law (transcript key old story)
  of_new tells Law law =
      let told : ToldStory key old story = story_told key old new story unentered is tells in
      subst Law (reads_as key old new story unentered is tells)
      (law (all_done again (fresh key old) story is.read told.begun told.may) (λ schedules. whole_said (fresh key old) story (told.schedules schedules)))

  -- over one that tells these
  abbrev first_telling : List (List ℕ) → Machine
  first_telling texts = first_machine (keys_of key) (Some texts) old.devices

  of_texts : (texts : List (List ℕ)) → old.records ≡ Some texts → (Law : List Entry → Type 0) → OfLines (first_telling texts) Law → Law (transcript key old story)
  of_texts texts tells Law law =
      let same : first key old ≡ first_telling texts = ap (λ (records : Option (List (List ℕ))). first_machine (keys_of key) records old.devices) tells in
      subst Law (same_transcript (first_telling texts) story ∙ ap (λ (m : Machine). transcript_from m story) (sym same))
      (law (subst (λ (m : Machine). AreDone m (all_said story)) same (story_done again key old new story unentered is))
      (λ schedules. whole_said (first_telling texts) story (subst (λ (m : Machine). AreSchedules m story) same schedules)))

  -- where none is asked for, a story over any keeper is one over a keeper that had none
  by_restarts : (restarts : Bool) → has_restart story ≡ restarts → TellsItsRecords old story → (Law : List Entry → Type 0)
      → ((texts : List (List ℕ)) → OfLines (first_telling texts) Law) → Law (transcript key old story)
  by_restarts true asked tells Law law = of_texts (tells asked).0 (tells asked).1 Law (law (tells asked).0)
  by_restarts false none tells Law law =
      of_new (λ asked. let wrong : false ≡ true = sym none ∙ asked in absurd cc) Law (law [])

  -- over one that tells its records, where a line is `restart`
  pub of_telling : TellsItsRecords old story → (Law : List Entry → Type 0) → ((texts : List (List ℕ)) → OfLines (first_telling texts) Law)
      → Law (transcript key old story)
  of_telling = by_restarts (has_restart story) refl
