-- The first lines of a story, where they were run whole, are lines that were said over a keeper that tells its records and had none at first; what then is so
-- of a stretch at their end is so of the story.
use Rattle.std.proofs.Common.{◌≡◌, ◌||◌, ℕ, Bool, true, false, List, [], ◌∷◌, ◌++◌, refl, sym, ap, subst, ◌∙◌, append_assoc}
use Rattle.std.proofs.lemmas.Bool.{false≢true}
use Rattle.device_sim.specs.State.{State}
use Rattle.zw_text.specs.declared.entry.Entry.{Entry}
use Rattle.world_model.specs.State.{Machine}
use Rattle.world_model.specs.Events.{Event}
use Rattle.world_model.specs.Did.{MayAll, happens_all}
use Rattle.world_lines.specs.Spoken.{Spoken, after_all, transcript_of}
use Rattle.world_lines.specs.Done.{AreDone}
use Rattle.world_lines.specs.Whole.{AreWhole}
use Rattle.law_transcript.specs.Restarts.{is_restart}
use Rattle.run_all.specs.Around.{Around}
use Rattle.proof_audit.proofs.BegunChanges.{may-front as may_prefix}
use Rattle.proof_commands.specs.Laws.{Ran, AreSchedules, IsFairRun, IsStory, TellsAtRestarts, events_of, first, has_restart, last, transcript, transcript_from}
use Rattle.proof_commands.proofs.Reading.{AreRead}
use Rattle.proof_commands.proofs.Speaking.{ReadAgain, all_done, all_said, same_machine, same_transcript, said_of}
use Rattle.proof_commands.proofs.Stories.{schedules_begun}
use Rattle.proof_commands.proofs.Tables.{whole_said}
use Rattle.proof_commands.proofs.Told.{ToldStory, fresh, told_story}
use Rattle.proof_commands.proofs.Unread.{over, transcript_over}

-- ---- the first of two lists of lines

read_first : (a b : List Ran) → AreRead (a ++ b) → AreRead a
read_first [] b read = tt
read_first (ran ∷ a) b read = (read.0, read_first a b read.1)

schedules_first : (m : Machine) (a b : List Ran) → AreSchedules m (a ++ b) → AreSchedules m a
schedules_first m [] b are = tt
schedules_first m (ran ∷ a) b are = (are.0, schedules_first (happens_all m ran.events) a b are.1)

restarts_first : (a b : List Ran) → has_restart a ≡ true → has_restart (a ++ b) ≡ true
restarts_first [] b asked = absurd (false≢true asked)
restarts_first (ran ∷ a) b asked = by (is_restart (ran.line.line ∷ [])) asked (restarts_first a b)
  where
    by : (this : Bool) → this || has_restart a ≡ true → (has_restart a ≡ true → has_restart (a ++ b) ≡ true) → this || has_restart (a ++ b) ≡ true
    by true asked later = refl
    by false asked later = later asked

events_both : (a b : List Ran) → events_of (a ++ b) ≡ events_of a ++ events_of b
events_both [] b = refl
events_both (ran ∷ a) b = ap (λ (l : List Event). ran.events ++ l) (events_both a b) ∙ sym (append_assoc ran.events (events_of a) (events_of b))

said_both : (a b : List Ran) → all_said (a ++ b) ≡ all_said a ++ all_said b
said_both [] b = refl
said_both (ran ∷ a) b = ap (λ (l : List Spoken). said_of ran ∷ l) (said_both a b)

-- ---- lines before a stretch, and those of it

module _ (again : ReadAgain) (key : List ℕ) (old new : Around) (story : List Ran) (unentered : List Event) (is : IsStory key old new story unentered)
    (fair : IsFairRun key old story) (before stretch more : List Ran) (are : story ≡ before ++ (stretch ++ more)) (schedules : AreSchedules (first key old) (before ++ stretch)) where
  abbrev both : List Ran
  both = before ++ stretch

  story_is : both ++ more ≡ story
  story_is = append_assoc before stretch more ∙ sym are

  events_are : events_of story ++ unentered ≡ events_of both ++ (events_of more ++ unentered)
  events_are =
      ap (λ (l : List Event). l ++ unentered) (ap events_of (sym story_is) ∙ events_both both more) ∙ append_assoc (events_of both) (events_of more) unentered

  may : MayAll (first key old) (events_of both)
  may = may_prefix (first key old) (events_of both) (events_of more ++ unentered) (subst (MayAll (first key old)) events_are is.may)

  tells : TellsAtRestarts old both
  tells asked = fair.told (subst (λ (l : List Ran). has_restart l ≡ true) story_is (restarts_first both more asked))

  told : ToldStory key old both
  told = told_story key old both tells (schedules_begun (first key old) both schedules) may

  told_first : ToldStory key old before
  told_first =
      told_story key old before (λ asked. tells (restarts_first before stretch asked))
      (schedules_begun (first key old) before (schedules_first (first key old) before stretch schedules))
      (may_prefix (first key old) (events_of before) (events_of stretch) (subst (MayAll (first key old)) (events_both before stretch) may))

  pub done : AreDone (fresh key old) (all_said before ++ all_said stretch)
  done =
      subst (AreDone (fresh key old)) (said_both before stretch)
      (all_done again (fresh key old) both (read_first both more (subst AreRead (sym story_is) is.read)) told.begun told.may)

  pub whole : AreWhole (fresh key old) (all_said before ++ all_said stretch)
  whole = subst (AreWhole (fresh key old)) (said_both before stretch) (whole_said (fresh key old) both (told.schedules schedules))

  moment_is : after_all (fresh key old) (all_said before) ≡ over (last key old before) told_first.kept
  moment_is = same_machine (fresh key old) before ∙ told_first.leaves

  before_is : transcript_of (fresh key old) (all_said before) ≡ transcript key old before
  before_is = same_transcript (fresh key old) before ∙ told_first.entered

  stretch_is : transcript_of (after_all (fresh key old) (all_said before)) (all_said stretch) ≡ transcript_from (last key old before) stretch
  stretch_is =
      ap (λ (m : Machine). transcript_of m (all_said stretch)) moment_is
      ∙ (same_transcript (over (last key old before) told_first.kept) stretch ∙ transcript_over (last key old before) told_first.kept stretch)

  -- what is so of the lines that were said is so of the story
  pub answered_so : (Law : List State → List Entry → List Entry → Type 0) → Law (after_all (fresh key old) (all_said before)).outside.devices (transcript_of (fresh key old) (all_said before))
      (transcript_of (after_all (fresh key old) (all_said before)) (all_said stretch)) → Law (last key old before).outside.devices (transcript key old before) (transcript_from (last key old before) stretch)
  answered_so Law law =
      subst (λ (T : List Entry). Law (last key old before).outside.devices (transcript key old before) T) stretch_is
      (subst (λ (T : List Entry). Law (last key old before).outside.devices T (transcript_of (after_all (fresh key old) (all_said before)) (all_said stretch))) before_is
      (subst (λ (devices : List State). Law devices (transcript_of (fresh key old) (all_said before)) (transcript_of (after_all (fresh key old) (all_said before)) (all_said stretch)))
      (ap (λ (m : Machine). m.outside.devices) moment_is) law))
