-- Units are judged whole, so interviews hear what devices list; they are of joined nodes, and restarts know again.
use Rattle.std.proofs.Common.{[], Some, refl}
use Rattle.proof_once.specs.law_transcript.Nodes.{listing_of}
use Rattle.proof_once.specs.world_model.State.{first_machine}
use Rattle.proof_world.proofs.DevicePlaces.{go_none}
use Rattle.proof_spoken.proofs.HeardLists.{all_hear_lists, first_down}
use Rattle.proof_spoken.proofs.NodeLists.{lists_on}
use Rattle.proof_spoken.proofs.KnownLists.{all_tell}
use Rattle.proof_spoken.proofs.interviews.interviews_tell_what_nodes_list.Goals as goal

pub returns-clause-heard : goal.returns-clause-heard
returns-clause-heard c = λ keys devices lines events are may.
    let m = first_machine keys (Some []) devices in
    let listing = listing_of devices in
    let asked = c.lines_ask_well.ensures.lines lines m events are in
    let short = (c.runs_keep_and_ask_well.ensures keys devices events may asked).1 in
    let written = c.hosts_write_well.ensures.run keys (Some []) devices events may short in
    let rests = c.units_are_judged_whole.ensures.lines keys (Some []) devices lines events are may written in
    let lists = lists_on c.devices_go_on.ensures.each c.devices_stay_the_same.ensures.all devices m events (go_none devices) in
    all_hear_lists listing m events may rests.at_rest lists (first_down listing keys (Some []) devices)

pub returns-clause-tell : goal.returns-clause-tell
returns-clause-tell c = λ keys devices lines events are may.
    let m = first_machine keys (Some []) devices in
    let listing = listing_of devices in
    let well = c.lines_keep_and_ask_well.ensures keys devices lines events are may in
    all_tell listing c.interviews_give_what_is_known.ensures.again c.restarts_go_on.ensures.each c.the_machine_keeps_facts.ensures.each [] m events
    (c.the_machine_keeps_facts.ensures.first keys (Some []) devices) (c.restarts_go_on.ensures.first keys (Some []) refl) may
    (c.lines_ask_well.ensures.lines lines m events are) well.0 (returns-clause-heard c keys devices lines events are may)
