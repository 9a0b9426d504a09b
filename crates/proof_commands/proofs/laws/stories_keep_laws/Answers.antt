-- The facts go through the lines of a story, and the laws follow from them.
use Rattle.std.proofs.Common.{ℕ, List, [], ◌∷◌, ◌++◌}
use Rattle.run_all.specs.host_core.Network.{keys_of}
use Rattle.host_model.specs.State.{HostState}
use Rattle.zw_text.specs.declared.entry.Entry.{Entry}
use Rattle.world_model.specs.State.{Machine}
use Rattle.world_model.specs.Events.{Event}
use Rattle.world_model.specs.Did.{MayAll, entries_all, happens_all}
use Rattle.proof_host.specs.Entries.{IsAside}
use Rattle.proof_host.specs.Facts.{Facts}
use Rattle.proof_answers.specs.proof_chip.proof_world.Restarts.{AllStartWell}
use Rattle.run_all.specs.Around.{Around}
use Rattle.proof_commands.specs.Laws.{IsStory, KeepsRecords, Ran, events_of, first, last, transcript}
use Rattle.proof_commands.proofs.SimKeeping.{story_keeps}
use Rattle.proof_audit.proofs.BegunChanges.{may-front as may_prefix}
use Rattle.proof_commands.proofs.Told.{Restarting, starts_well}
use Rattle.proof_commands.proofs.laws.stories_keep_laws.Goals as goal

-- the facts that are used
record Keeping : Type 0 where
  all : (past : List Entry) (m : Machine) (events : List Event) → Facts past m.host.state → MayAll m events → AllStartWell m events
      → Facts (past ++ entries_all m events) (happens_all m events).host.state
  aside : (past : List Entry) (h : HostState) (entry : Entry) → Facts past h → IsAside entry → Facts (past ++ entry ∷ []) h
  restarting : Restarting

keeps : Keeping → (key : List ℕ) (old new : Around) (story : List Ran) (unentered : List Event) → Facts [] (first key old).host.state
    → IsStory key old new story unentered → KeepsRecords key old story
    → Facts (transcript key old story) (last key old story).host.state
keeps laws key old new story unentered begins is well =
    story_keeps laws.all laws.aside [] (first key old) story begins (may_prefix (first key old) (events_of story) unentered is.may)
    (starts_well laws.restarting key old new story unentered is begins well)

pub returns-clause-orders : goal.returns-clause-orders
returns-clause-orders c = λ key old new story unentered is well.
    let restarting : Restarting = record { held = c.restarts_go_on.ensures.first; goes_on = c.restarts_go_on.ensures.all } in
    let laws : Keeping = record { all = c.the_machine_keeps_facts.ensures.all; aside = c.asides_keep_facts.ensures; restarting = restarting } in
    c.laws_follow.ensures.laws _ _
    (keeps laws key old new story unentered (c.the_machine_keeps_facts.ensures.first (keys_of key) old.records old.devices) is well)

pub returns-clause-tables : goal.returns-clause-tables
returns-clause-tables c = λ key old new story unentered is well.
    let restarting : Restarting = record { held = c.restarts_go_on.ensures.first; goes_on = c.restarts_go_on.ensures.all } in
    let laws : Keeping = record { all = c.the_machine_keeps_facts.ensures.all; aside = c.asides_keep_facts.ensures; restarting = restarting } in
    c.laws_follow.ensures.tables _ _
    (keeps laws key old new story unentered (c.the_machine_keeps_facts.ensures.first (keys_of key) old.records old.devices) is well)

pub returns-clause-values : goal.returns-clause-values
returns-clause-values c = λ key old new story unentered is well.
    let restarting : Restarting = record { held = c.restarts_go_on.ensures.first; goes_on = c.restarts_go_on.ensures.all } in
    let laws : Keeping = record { all = c.the_machine_keeps_facts.ensures.all; aside = c.asides_keep_facts.ensures; restarting = restarting } in
    c.laws_follow.ensures.stores _ _
    (keeps laws key old new story unentered (c.the_machine_keeps_facts.ensures.first (keys_of key) old.records old.devices) is well)
