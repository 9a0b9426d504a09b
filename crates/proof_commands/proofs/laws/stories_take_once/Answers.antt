-- The devices at the end of a story are those after all its events.
use Rattle.std.proofs.Common.{List, ◌++◌, sym, subst}
use Rattle.std.specs.List.{AllByRecursion}
use Rattle.device_sim.specs.State.{State}
use Rattle.proof_device.specs.GoingOn.{AreSame, TakeOnce}
use Rattle.proof_device.specs.Showing.{IsShown}
use Rattle.run_all.specs.host_core.Network.{keys_of}
use Rattle.proof_answers.specs.proof_chip.proof_world.Devices.{GroupsSessions}
use Rattle.world_model.specs.Did.{entries_all}
use Rattle.proof_commands.specs.Laws.{events_of, first, last, end, transcript}
use Rattle.proof_commands.proofs.SimKeeping.{all_shown, all_group}
use Rattle.proof_commands.proofs.laws.stories_take_once.Goals as goal

pub returns-clause-once : goal.returns-clause-once
returns-clause-once c = λ key old new story unentered is order.
    subst (λ (l : List State). TakeOnce l) (sym is.devices) (c.runs_take_once.ensures.once (keys_of key) old.records old.devices
    (events_of story ++ unentered) order)

pub returns-clause-same : goal.returns-clause-same
returns-clause-same c = λ key old new story unentered is.
    subst (λ (l : List State). AreSame old.devices l) (sym is.devices) (c.runs_take_once.ensures.same (keys_of key) old.records old.devices
    (events_of story ++ unentered))

pub returns-clause-shown : goal.returns-clause-shown
returns-clause-shown c = λ key old new story unentered is made apart.
    subst (λ (l : List State). AllByRecursion (IsShown (transcript key old story ++ entries_all (last key old story) unentered)) l) (sym is.devices)
    (all_shown (first key old) story unentered (end key old story unentered).outside.devices
    (c.runs_take_once.ensures.shown (keys_of key) old.records key old.devices (events_of story ++ unentered) made apart is.may))

pub returns-clause-groups : goal.returns-clause-groups
returns-clause-groups c = λ key old new story unentered is made apart.
    subst (λ (l : List State). AllByRecursion (GroupsSessions (transcript key old story ++ entries_all (last key old story) unentered)) l) (sym is.devices)
    (all_group (first key old) story unentered (end key old story unentered).outside.devices
    (c.runs_take_once.ensures.groups (keys_of key) old.records key old.devices (events_of story ++ unentered) made apart is.may))
