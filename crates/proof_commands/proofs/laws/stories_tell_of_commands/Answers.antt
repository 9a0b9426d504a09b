-- The laws of commands hold of the lines of a story as they were said.
use Rattle.std.proofs.Common.{true, List, sym, subst, ◌∙◌}
use Rattle.zw_text.specs.declared.entry.Entry.{Entry}
use Rattle.law_transcript.specs.Answers.{CancelsWhenAsked}
use Rattle.law_transcript.specs.Nodes.{listing_of, always}
use Rattle.law_transcript.specs.Payloads.{BeginsWithUnit}
use Rattle.law_transcript.specs.Stores.{StoresConfirmed}
use Rattle.run_all.specs.host_core.Network.{keys_of}
use Rattle.world_model.specs.Events.{Event}
use Rattle.proof_host.specs.Laws.{HostLaws}
use Rattle.proof_answers.specs.proof_chip.proof_world.Restarts.{AllStartWell}
use Rattle.proof_commands.specs.Laws.{first}
use Rattle.proof_commands.proofs.Speaking.{all_done, all_said, same_events, same_transcript, story_done}
use Rattle.proof_commands.proofs.Told.{Restarting, fresh, starts_well, story_told}
use Rattle.proof_commands.proofs.laws.stories_tell_of_commands.Goals as goal

pub returns-clause-taken_back : goal.returns-clause-taken_back
returns-clause-taken_back c = λ key old new story unentered is well.
    let m = first key old in
    let same = same_transcript m story in
    let done = story_done c.lines_are_read_as_said.ensures key old new story unentered is in
    let laws = c.stories_keep_laws.ensures.orders key old new story unentered is well in
    subst (λ (l : List Entry). CancelsWhenAsked l) same
    (c.commands_are_taken_back_when_asked.ensures m (all_said story) done (subst (λ (l : List Entry). HostLaws l) (sym same) laws))

pub returns-clause-stores : goal.returns-clause-stores
returns-clause-stores c = λ key old new story unentered is tells.
    let told = story_told key old new story unentered is tells in
    let done = all_done c.lines_are_read_as_said.ensures (fresh key old) story is.read told.begun told.may in
    subst (λ (l : List Entry). StoresConfirmed true (always (listing_of old.devices)) l) (same_transcript (fresh key old) story ∙ told.entered)
    (c.values_are_stored_as_asked.ensures (keys_of key) old.devices (all_said story) done)

pub returns-clause-written : goal.returns-clause-written
returns-clause-written c = λ key old new story unentered is well.
    let m = first key old in
    let done = story_done c.lines_are_read_as_said.ensures key old new story unentered is in
    let restarting : Restarting = record { held = c.restarts_go_on.ensures.first; goes_on = c.restarts_go_on.ensures.all } in
    let starts = starts_well restarting key old new story unentered is (c.the_machine_keeps_facts.ensures.first (keys_of key) old.records old.devices) well in
    let starting = subst (λ (l : List Event). AllStartWell m l) (sym (same_events story)) starts in
    subst (λ (l : List Entry). BeginsWithUnit l) (same_transcript m story) (c.sessions_begin_with_their_unit.ensures (keys_of key) old.records old.devices
    (all_said story) done starting)
