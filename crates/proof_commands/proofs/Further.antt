-- A story, and the story with what its last line did besides, over a keeper that tells its records and had none at first.
use Rattle.std.proofs.Common.{◌≡◌, ℕ, List, [], ◌++◌, ap, sym, subst, ◌∙◌, append-nil}
use Rattle.std.specs.List.{AllByRecursion}
use Rattle.zw_text.specs.declared.line.Line.{Line}
use Rattle.world_model.specs.State.{Machine}
use Rattle.world_model.specs.Events.{Event}
use Rattle.world_model.specs.Did.{happens_all}
use Rattle.run_lines.specs.Lines.{TextLine}
use Rattle.world_lines.specs.Spoken.{after_all, transcript_of}
use Rattle.run_all.specs.Around.{Around}
use Rattle.proof_commands.specs.Laws.{Ran, IsReadAs, IsStory, TellsAtRestarts, events_of, first, transcript, with_last}
use Rattle.proof_commands.proofs.Reading.{AreRead}
use Rattle.proof_commands.proofs.Unentered.{same_lines, further_may, further_devices, further_host}
use Rattle.proof_commands.proofs.Speaking.{all_said, same_machine, same_transcript}
use Rattle.proof_commands.proofs.Told.{ToldStory, fresh, same_restarts, story_told, told_story}

module _ (key : List ℕ) (old new : Around) (story : List Ran) (unentered : List Event) (is : IsStory key old new story unentered)
    (tells : TellsAtRestarts old story) where
  pub told : ToldStory key old story
  told = story_told key old new story unentered is tells

  abbrev pub further : List Ran
  further = with_last is.rest.last story

  pub further_told : ToldStory key old further
  further_told = told_story key old further (same_restarts old further story (same_lines is.rest.last story) tells) is.rest.moved
      (further_may (first key old) story unentered is.rest is.may)

  pub further_read : AreRead further
  further_read = subst (λ (l : List (TextLine Line)). AllByRecursion IsReadAs l) (sym (same_lines is.rest.last story)) is.read

  pub reads_as : transcript_of (fresh key old) (all_said story) ≡ transcript key old story
  reads_as = same_transcript (fresh key old) story ∙ told.entered

  pub devices_are : new.devices ≡ (after_all (fresh key old) (all_said further)).outside.devices
  devices_are =
      is.devices
      ∙ (further_devices (first key old) story unentered is.rest
      ∙ sym (ap (λ (x : Machine). x.outside.devices) (same_machine (fresh key old) further ∙ further_told.leaves)))

  -- where all is entered
  pub whole_devices : unentered ≡ [] → new.devices ≡ (after_all (fresh key old) (all_said story)).outside.devices
  whole_devices none =
      is.devices
      ∙ ap (λ (l : List Event). (happens_all (first key old) (events_of story ++ l)).outside.devices) none
      ∙ ap (λ (l : List Event). (happens_all (first key old) l).outside.devices) (append-nil (events_of story))
      ∙ sym (ap (λ (x : Machine). x.outside.devices) (same_machine (fresh key old) story ∙ told.leaves))

  pub host_is : (after_all (fresh key old) (all_said further)).host.state ≡ (after_all (fresh key old) (all_said story)).host.state
  host_is =
      ap (λ (x : Machine). x.host.state) (same_machine (fresh key old) further ∙ further_told.leaves)
      ∙ (further_host (first key old) story unentered is.rest
      ∙ sym (ap (λ (x : Machine). x.host.state) (same_machine (fresh key old) story ∙ told.leaves)))
