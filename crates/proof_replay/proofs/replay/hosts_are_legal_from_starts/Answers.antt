-- By the messages that the host took up; with what hosts keep over all that they heard, from its start on.
use Rattle.std.proofs.Common.{◌++◌, refl}
use Rattle.port_run.specs.host_core.Network.{keys_of}
use Rattle.proof_replay.proofs.From.{legal_from}
use Rattle.proof_replay.proofs.replay.hosts_are_legal_from_starts.Goals as goal

pub returns : goal.returns
returns c = λ key records from starts whole heard told alone has.
    let past = from.before ++ heard in
    let (taken, so, as_told) = c.hosts_go_by_messages.ensures (keys_of key) alone.here past alone.last alone.run.0 in
    legal_from key records from starts whole heard told taken (c.hosts_keep_laws.ensures (keys_of key) whole past told alone)
    (c.runs_are_prompt.ensures (keys_of key) taken whole alone.here past alone.last alone.run.0 alone.run.1 so as_told alone.rests alone.for_host)
    (c.hosts_note_from_starts.ensures key taken records from starts whole alone.here past heard alone.last alone.run.0 alone.run.1 so as_told alone.rests (c.errands_are_carried.ensures.told key) has refl)
