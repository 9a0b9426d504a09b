-- The lines of a story were said, and the devices did what lines that were said show.
use Rattle.std.proofs.Common.{◌≡◌, ℕ, ◌≤◌, Bool, true, false, List, [], ◌∷◌, length, Option, Some, None, refl, sym, ap, subst, ◌∙◌, lit≤}
use Rattle.std.specs.List.{AllByRecursion}
use Rattle.device_sim.specs.State.{State}
use Rattle.outside_model.specs.Events.{OuterEvent}
use Rattle.zw_text.specs.declared.entry.Entry.{Entry}
use Rattle.run_all.specs.host_core.Network.{keys_of}
use Rattle.s0_crypto.specs.declared.key_pair.Keys.{Keys}
use Rattle.law_transcript.specs.Headline.{IsAsMade}
use Rattle.law_wire.specs.Doings.{DoneByDevices}
use Rattle.law_host.specs.Legal.{DevicesDid}
use Rattle.world_model.specs.State.{Machine, first_machine}
use Rattle.world_model.specs.Events.{Event}
use Rattle.world_model.specs.Did.{last_of}
use Rattle.world_lines.specs.Spoken.{Spoken, after_all, transcript_of}
use Rattle.world_lines.specs.Done.{AreDone}
use Rattle.world_lines.specs.Whole.{AreWhole}
use Rattle.proof_device.specs.Showing.{AreApart}
use Rattle.proof_answers.specs.proof_devices.LastLine.{with_last as said_further}
use Rattle.run_all.specs.Around.{Around}
use Rattle.proof_commands.specs.Laws.{IsFairWorld, IsStory, IsWhole, Ran, TellsAtRestarts, first, transcript, with_last}
use Rattle.proof_commands.proofs.Further.{devices_are, further, further_read, further_told, reads_as, told, whole_devices}
use Rattle.proof_commands.proofs.Speaking.{ReadAgain, all_done, all_said, said_of, same_transcript, story_done}
use Rattle.proof_commands.proofs.Tables.{whole_said}
use Rattle.proof_commands.proofs.Told.{fresh}
use Rattle.proof_commands.proofs.laws.stories_do_as_shown.Goals as goal

pub returns-clause-done_by : goal.returns-clause-done_by
returns-clause-done_by c = λ key old new story unentered is.
    subst (λ (l : List Entry). DoneByDevices old.devices l) (same_transcript (first key old) story)
    (c.lines_are_done_by_devices.ensures (keys_of key) old.records old.devices (all_said story) (story_done c.lines_are_read_as_said.ensures key old new story unentered is))

-- ---- the story as lines that were said

one_at_most : (last : Option OuterEvent) → length (last_of last) ≤ 1
one_at_most None = lit≤ tt
one_at_most (Some event) = lit≤ tt

same_further : (last : Option OuterEvent) (story : List Ran) → all_said (with_last last story) ≡ said_further (last_of last) (all_said story)
same_further last [] = refl
same_further last (ran ∷ []) = refl
same_further last (ran ∷ (next ∷ more)) = ap (λ (l : List Spoken). said_of ran ∷ l) (same_further last (next ∷ more))

-- what is proved of lines over a keeper that tells its records
record Laws : Type 0 where
  again : ReadAgain
  whole : (keys : Keys) (key : List ℕ) (texts : List (List ℕ)) (devices : List State) (lines : List Spoken) → AreDone (first_machine keys (Some texts) devices) lines →
      AreWhole (first_machine keys (Some texts) devices) lines → AllByRecursion (IsAsMade key) devices → AreApart devices →
      DevicesDid true devices (after_all (first_machine keys (Some texts) devices) lines).outside.devices (transcript_of (first_machine keys (Some texts) devices) lines)
  cut : (keys : Keys) (key : List ℕ) (texts : List (List ℕ)) (devices : List State) (lines : List Spoken) (more : List Event) → AreDone (first_machine keys (Some texts) devices) lines →
      AreDone (first_machine keys (Some texts) devices) (said_further more lines) → length more ≤ 1 → AllByRecursion (IsAsMade key) devices → AreApart devices →
      DevicesDid false devices (after_all (first_machine keys (Some texts) devices) (said_further more lines)).outside.devices
      (transcript_of (first_machine keys (Some texts) devices) lines)

module _ (laws : Laws) (key : List ℕ) (old new : Around) (story : List Ran) (unentered : List Event) (is : IsStory key old new story unentered) (fair : IsFairWorld key old story) where
  abbrev tells : TellsAtRestarts old story
  tells = fair.run.told

  abbrev m : Machine
  m = fresh key old

  done : AreDone m (all_said story)
  done = all_done laws.again m story is.read (told key old new story unentered is tells).begun (told key old new story unentered is tells).may

  further_done : AreDone m (said_further (last_of is.rest.last) (all_said story))
  further_done =
      subst (λ (l : List Spoken). AreDone m l) (same_further is.rest.last story)
      (all_done laws.again m (further key old new story unentered is tells) (further_read key old new story unentered is tells) (further_told key old new story unentered is tells).begun
      (further_told key old new story unentered is tells).may)

  -- they did it with these devices
  left_as : (whole : Bool) (left : List State) → new.devices ≡ left → DevicesDid whole old.devices left (transcript_of m (all_said story))
      → DevicesDid whole old.devices new.devices (transcript key old story)
  left_as whole left are did =
      subst (DevicesDid whole old.devices new.devices) (reads_as key old new story unentered is tells)
      (subst (λ (l : List State). DevicesDid whole old.devices l (transcript_of m (all_said story))) (sym are) did)

  did : (whole : Bool) → (whole ≡ true → IsWhole key old story unentered) → DevicesDid whole old.devices new.devices (transcript key old story)
  did true all =
      left_as true (after_all m (all_said story)).outside.devices (whole_devices key old new story unentered is tells (all refl).all_entered)
      (laws.whole (keys_of key) key [] old.devices (all_said story) done
      (whole_said m story ((told key old new story unentered is tells).schedules (all refl).schedules)) fair.run.made fair.apart)
  did false all =
      left_as false (after_all m (said_further (last_of is.rest.last) (all_said story))).outside.devices
      (devices_are key old new story unentered is tells ∙ ap (λ (l : List Spoken). (after_all m l).outside.devices) (same_further is.rest.last story))
      (laws.cut (keys_of key) key [] old.devices (all_said story) (last_of is.rest.last) done further_done (one_at_most is.rest.last) fair.run.made fair.apart)

pub returns-clause-devices : goal.returns-clause-devices
returns-clause-devices c = λ key old new story unentered is fair whole all.
    did (record {
      again = c.lines_are_read_as_said.ensures;
      whole = c.devices_did.ensures.whole;
      cut = c.devices_did.ensures.cut;
    }) key old new story unentered is fair whole all
