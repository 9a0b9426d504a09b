-- The lines of a story were said, and the headline is of lines that were said.
use Rattle.std.proofs.Common.{◌≡◌, ℕ, List, [], ◌++◌, inl, inr, Some, Ok, ap, sym, subst, ◌∙◌}
use Rattle.std.specs.List.{AllByRecursion}
use Rattle.device_kinds.specs.Kind.{lists}
use Rattle.device_kinds.specs.declared.kind.Kind.{Kind}
use Rattle.device_sim.specs.State.{State}
use Rattle.proof_device.specs.GoingOn.{AreSame}
use Rattle.proof_device.specs.Showing.{AreUnchanged}
use Rattle.run_all.specs.host_core.Network.{keys_of}
use Rattle.zw_text.specs.Line.{line_at}
use Rattle.zw_text.specs.declared.line.Line.{Line}
use Rattle.zw_text.specs.declared.entry.Entry.{Entry}
use Rattle.law_transcript.specs.Headline.{Headline, HeadlineOf, IsAsMade}
use Rattle.law_transcript.specs.Nodes.{device_of, first_node, listing_of, always}
use Rattle.world_model.specs.State.{first_machine}
use Rattle.world_model.specs.Events.{Event}
use Rattle.world_model.specs.Did.{MayAll}
use Rattle.proof_serial.specs.Line.{AreLines}
use Rattle.run_lines.specs.Pieces.{said_text}
use Rattle.world_lines.specs.Spoken.{after_all}
use Rattle.world_lines.specs.Done.{AreDone, events_of as events_said}
use Rattle.proof_audit.proofs.PlainTying.{was_there}
use Rattle.proof_audit.specs.Headline.{IsAskable, SucceedsAfterChangeOf, IsPlainOrLock, IsSupervisedNode}
use Rattle.run_all.specs.Around.{Around}
use Rattle.proof_commands.specs.Laws.{Ran, IsFairRun, IsStory, events_of, first, transcript}
use Rattle.proof_commands.specs.Generate.{plain_lines}
use Rattle.proof_commands.proofs.Further.{devices_are, further, further_read, further_told, host_is, reads_as, told}
use Rattle.proof_commands.proofs.Reading.{AreRead, story_lines}
use Rattle.proof_commands.proofs.Speaking.{all_done, all_said, same_events}
use Rattle.proof_commands.proofs.Told.{ToldStory, fresh}
use Rattle.proof_commands.proofs.laws.stories_have_the_headline.Goals as goal

-- which nodes are plain or of a lock, by the keys of the network
abbrev AreByKeys : Type 0
AreByKeys = (key : List ℕ) (devices : List State) (lines : List Line) (events : List Event) (node : ℕ) → AllByRecursion (IsAsMade key) devices →
    AreLines lines (first_machine (keys_of key) (Some []) devices) events → MayAll (first_machine (keys_of key) (Some []) devices) events →
    IsSupervisedNode devices node → IsPlainOrLock (keys_of key) devices events node

-- a node that may be asked is node 2, or has such a device
askable_supervised : (devices : List State) (node : ℕ) → IsSupervisedNode devices first_node → IsAskable devices node → IsSupervisedNode devices node
askable_supervised devices node first_is (inl first) = subst (IsSupervisedNode devices) (sym first) first_is
askable_supervised devices node first_is (inr (device, found, knows)) = record { device = device; first = found; supervised = knows }

-- the laws that are used
record Laws : Type 0 where
  again : (text : List ℕ) (line : Line) → line_at text ≡ Ok (Some line) → line_at (said_text text) ≡ Ok (Some line)
  unchanged : (key : List ℕ) (devices : List State) → AllByRecursion (IsAsMade key) devices → AreUnchanged devices
  are : AreByKeys

-- a story over a keeper that tells its records and had none, with devices as their makers left them
record Fair (key : List ℕ) (old : Around) (story : List Ran) : Type 0 where
  told : ToldStory key old story
  read : AreRead story
  made : AllByRecursion (IsAsMade key) old.devices

module _ (laws : Laws) (key : List ℕ) (old : Around) (story : List Ran) (fair : Fair key old story) where
  done : AreDone (fresh key old) (all_said story)
  done = all_done laws.again (fresh key old) story fair.read fair.told.begun fair.told.may

  plain_or_lock : (node : ℕ) → IsSupervisedNode old.devices node → IsPlainOrLock (keys_of key) old.devices (events_said (all_said story)) node
  plain_or_lock node supervised = subst (λ (events : List Event). IsPlainOrLock (keys_of key) old.devices events node) (sym (same_events story))
      (laws.are key old.devices (plain_lines story) (events_of story) node fair.made
      (story_lines (fresh key old) story fair.told.begun) fair.told.may supervised)

-- ---- a story, and the story with what its last line did besides

module _ (key : List ℕ) (old new : Around) (story : List Ran) (unentered : List Event) (is : IsStory key old new story unentered)
    (fair : IsFairRun key old story) where
  fairly : Fair key old story
  fairly = record { told = told key old new story unentered is fair.told; read = is.read; made = fair.made }

  further_fairly : Fair key old (further key old new story unentered is fair.told)
  further_fairly = record {
    told = further_told key old new story unentered is fair.told;
    read = further_read key old new story unentered is fair.told;
    made = fair.made;
  }

pub returns-clause-one : goal.returns-clause-one
returns-clause-one c = λ key old new story unentered is fair node device found knows.
    let laws : Laws = record {
      again = c.lines_are_read_as_said.ensures;
      unchanged = c.devices_as_made_begin_courses.ensures.unchanged;
      are = c.supervised_nodes_are_plain_or_locks.ensures;
    } in
    let d = old.devices in
    let on = further key old new story unentered is fair.told in
    let f = fairly key old new story unentered is fair in
    let g = further_fairly key old new story unentered is fair in
    let was = was_there node d new.devices device
    (subst (λ (l : List State). AreSame d l) (sym is.devices)
    (c.runs_take_once.ensures.same (keys_of key) old.records d (events_of story ++ unentered))) found in
    let knew = ap (λ (k : Kind). lists k 0x6C) (sym was.kind) ∙ knows in
    let supervised : IsSupervisedNode d node = record { device = was.before; first = was.found; supervised = knew } in
    subst (λ (l : List Entry). HeadlineOf (always (listing_of d)) node l device) (reads_as key old new story unentered is fair.told)
    (c.nodes_have_the_headline.ensures (keys_of key) d (all_said story) (all_said on) node device (plain_or_lock laws key old on g node supervised)
    (laws.unchanged key d fair.made)
    (done laws key old story f) (done laws key old on g) (host_is key old new story unentered is fair.told)
    (subst (λ (l : List State). device_of node l ≡ Some device) (devices_are key old new story unentered is fair.told) found) knows)

pub returns-clause-after_change : goal.returns-clause-after_change
returns-clause-after_change c = λ key old new story unentered is fair node supervised.
    let laws : Laws = record {
      again = c.lines_are_read_as_said.ensures;
      unchanged = c.devices_as_made_begin_courses.ensures.unchanged;
      are = c.supervised_nodes_are_plain_or_locks.ensures;
    } in
    let f = fairly key old new story unentered is fair in
    subst (λ (l : List Entry). SucceedsAfterChangeOf node l) (reads_as key old new story unentered is fair.told)
    (c.nodes_report_after_the_change.ensures (keys_of key) old.devices (all_said story) node (plain_or_lock laws key old story f node supervised)
    (laws.unchanged key old.devices fair.made)
    (done laws key old story f))

pub returns-clause-whole : goal.returns-clause-whole
returns-clause-whole c = λ key old new story unentered is fair first_is.
    let laws : Laws = record {
      again = c.lines_are_read_as_said.ensures;
      unchanged = c.devices_as_made_begin_courses.ensures.unchanged;
      are = c.supervised_nodes_are_plain_or_locks.ensures;
    } in
    let d = old.devices in
    let on = further key old new story unentered is fair.told in
    let f = fairly key old new story unentered is fair in
    let g = further_fairly key old new story unentered is fair in
    subst (λ (l : List State). Headline d l (transcript key old story)) (sym (devices_are key old new story unentered is fair.told))
    (subst (λ (l : List Entry). Headline d (after_all (fresh key old) (all_said on)).outside.devices l) (reads_as key old new story unentered is fair.told)
    (c.askable_nodes_have_the_headline.ensures (keys_of key) d (all_said story) (all_said on) (λ node askable. plain_or_lock laws key old story f node
    (askable_supervised d node first_is askable))
    (λ node askable. plain_or_lock laws key old on g node (askable_supervised d node first_is askable)) (laws.unchanged key d fair.made)
    (done laws key old story f) (done laws key old on g) (host_is key old new story unentered is fair.told)))
