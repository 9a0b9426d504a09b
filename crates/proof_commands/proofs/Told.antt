-- A story over a keeper that tells its records and had none at first. Where no line is `restart`, every story goes over such a keeper as it went.
use Rattle.std.proofs.Common.{◌≡◌, ℕ, Bool, true, false, List, [], ◌∷◌, ◌++◌, Option, Some, refl, sym, ap, subst, ◌∙◌, append-nil}
use Rattle.std.specs.List.{list_any}
use Rattle.run_all.specs.host_core.Network.{keys_of}
use Rattle.host_model.specs.State.{first_host}
use Rattle.s0_crypto.specs.declared.key_pair.Keys.{Keys}
use Rattle.zw_text.specs.declared.entry.Entry.{Entry}
use Rattle.zw_text.specs.declared.line.Line.{Line}
use Rattle.world_model.specs.State.{Machine, first_machine}
use Rattle.world_model.specs.Events.{Event}
use Rattle.world_model.specs.Did.{happens_all, MayAll}
use Rattle.run_lines.specs.Lines.{TextLine}
use Rattle.law_transcript.specs.Restarts.{is_restart}
use Rattle.proof_host.specs.Facts.{Facts}
use Rattle.proof_answers.specs.proof_chip.proof_world.Restarts.{AllKeepWell, AllStartWell, BeginsEmpty, IsHeld}
use Rattle.run_all.specs.Around.{Around}
use Rattle.proof_commands.specs.Laws.{Ran, AreBegun, AreSchedules, IsStory, KeepsRecords, TellsAtRestarts, events_of, first, has_restart, kept_anew, last, lines_of, transcript, transcript_from}
use Rattle.proof_audit.proofs.BegunChanges.{may-front as may_prefix}
use Rattle.proof_commands.proofs.Unread.{all_keep_over, all_may_over, all_over, all_start_unread, begun_over, over, schedules_over, story_unread, transcript_over}

-- the machine at first, over a keeper that tells its records and has none
abbrev pub fresh : List ℕ → Around → Machine
fresh key old = first_machine (keys_of key) (Some []) old.devices

-- the story goes over such a keeper too, with the same entries, and leaves the same but for the records
pub record ToldStory (key : List ℕ) (old : Around) (story : List Ran) : Type 0 where
  pub begun : AreBegun (fresh key old) story
  pub may : MayAll (fresh key old) (events_of story)
  pub schedules : AreSchedules (first key old) story → AreSchedules (fresh key old) story
  pub entered : transcript_from (fresh key old) story ≡ transcript key old story
  pub kept : Option (List (List ℕ))
  pub leaves : happens_all (fresh key old) (events_of story) ≡ over (last key old story) kept
  pub well : AllKeepWell (fresh key old) (events_of story) → AllKeepWell (first key old) (events_of story)

-- where the keeper was such a one
as_told : (key : List ℕ) (old : Around) (story : List Ran) → old.records ≡ Some [] → AreBegun (first key old) story
    → MayAll (first key old) (events_of story) → ToldStory key old story
as_told key old story none begun may =
    let same : first key old ≡ fresh key old = ap (λ (records : Option (List (List ℕ))). first_machine (keys_of key) records old.devices) none in
    record {
      begun = subst (λ (m : Machine). AreBegun m story) same begun;
      may = subst (λ (m : Machine). MayAll m (events_of story)) same may;
      schedules = λ are. subst (λ (m : Machine). AreSchedules m story) same are;
      entered = ap (λ (m : Machine). transcript_from m story) (sym same);
      kept = (last key old story).records;
      leaves = ap (λ (m : Machine). happens_all m (events_of story)) (sym same);
      well = λ well. subst (λ (m : Machine). AllKeepWell m (events_of story)) (sym same) well;
    }

-- where no line is `restart`
as_unread : (key : List ℕ) (old : Around) (story : List Ran) → has_restart story ≡ false → AreBegun (first key old) story
    → MayAll (first key old) (events_of story) → ToldStory key old story
as_unread key old story none begun may =
    let m = first key old in
    let unread = story_unread m story none begun in
    record {
      begun = begun_over m (Some []) story begun;
      may = all_may_over m (Some []) (events_of story) unread may;
      schedules = λ are. schedules_over m (Some []) story are;
      entered = transcript_over m (Some []) story;
      kept = (happens_all (over m (Some [])) (events_of story)).records;
      leaves = all_over m (Some []) (events_of story);
      well = λ well. all_keep_over (fresh key old) old.records (events_of story) unread well;
    }

by_restarts : (key : List ℕ) (old : Around) (story : List Ran) (restarts : Bool) → has_restart story ≡ restarts → TellsAtRestarts old story
    → AreBegun (first key old) story → MayAll (first key old) (events_of story) → ToldStory key old story
by_restarts key old story true is tells begun may = as_told key old story (tells is) begun may
by_restarts key old story false is tells begun may = as_unread key old story is begun may

pub told_story : (key : List ℕ) (old : Around) (story : List Ran) → TellsAtRestarts old story → AreBegun (first key old) story
    → MayAll (first key old) (events_of story) → ToldStory key old story
told_story key old story = by_restarts key old story (has_restart story) refl

pub story_told : (key : List ℕ) (old new : Around) (story : List Ran) (unentered : List Event) → IsStory key old new story unentered
    → TellsAtRestarts old story → ToldStory key old story
story_told key old new story unentered is tells =
    told_story key old story tells is.begun (may_prefix (first key old) (events_of story) unentered is.may)

-- where the keeper was such a one and all is entered, what it holds are the records at exit
pub records_left : (key : List ℕ) (old new : Around) (story : List Ran) (unentered : List Event) → IsStory key old new story unentered → unentered ≡ []
    → old.records ≡ Some [] → kept_anew key old story ≡ new.records
records_left key old new story unentered is entered none =
    ap (λ (records : Option (List (List ℕ))). (happens_all (first_machine (keys_of key) records old.devices) (events_of story)).records) (sym none)
    ∙ sym (is.records ∙ ap (λ (l : List Event). (happens_all (first key old) l).records) (ap (λ (l : List Event). events_of story ++ l) entered ∙ append-nil (events_of story)))

-- the same lines restart as often
pub same_restarts : (old : Around) (a b : List Ran) → lines_of a ≡ lines_of b → TellsAtRestarts old b → TellsAtRestarts old a
same_restarts old a b same tells restarts =
    tells (subst (λ (lines : List (TextLine Line)). list_any (λ (one : TextLine Line). is_restart (one.line ∷ [])) lines ≡ true) same restarts)

-- ---- a host that starts again

-- what is proved of restarts
pub record Restarting : Type 0 where
  pub held : (keys : Keys) (records : Option (List (List ℕ))) → BeginsEmpty records → IsHeld (first_host keys) records
  pub goes_on : (past : List Entry) (m : Machine) (events : List Event) → Facts past m.host.state → IsHeld m.host.state m.records
      → MayAll m events → AllKeepWell m events → AllStartWell m events × IsHeld (happens_all m events).host.state (happens_all m events).records

starts_by : Restarting → (key : List ℕ) (old : Around) (story : List Ran) (restarts : Bool) → has_restart story ≡ restarts
    → Facts [] (first key old).host.state → AreBegun (first key old) story → MayAll (first key old) (events_of story) → KeepsRecords key old story
    → AllStartWell (first key old) (events_of story)
starts_by laws key old story true is facts begun may well =
    (laws.goes_on [] (first key old) (events_of story) facts (laws.held (keys_of key) old.records (well.empty is)) may well.well).0
starts_by laws key old story false is facts begun may well =
    all_start_unread (first key old) (events_of story) (story_unread (first key old) story is begun)

-- a host that starts again in the story has what the one before it recorded
pub starts_well : Restarting → (key : List ℕ) (old new : Around) (story : List Ran) (unentered : List Event) → IsStory key old new story unentered
    → Facts [] (first key old).host.state → KeepsRecords key old story → AllStartWell (first key old) (events_of story)
starts_well laws key old new story unentered is facts well =
    starts_by laws key old story (has_restart story) refl facts is.begun (may_prefix (first key old) (events_of story) unentered is.may) well
