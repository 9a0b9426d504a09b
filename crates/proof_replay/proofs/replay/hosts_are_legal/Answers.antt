-- By the messages that the host took up; with the laws that hold whatever these are.
use Rattle.std.proofs.Common.{refl}
use Rattle.port_run.specs.host_core.Network.{keys_of}
use Rattle.proof_replay.specs.Laws.{HostsKeepLaws}
use Rattle.proof_replay.proofs.replay.hosts_are_legal.Goals as goal

pub returns : goal.returns
returns c = λ key whole heard told alone.
    let laws : HostsKeepLaws (keys_of key) whole heard told = c.hosts_keep_laws.ensures (keys_of key) whole heard told alone in
    let (run, careful) = alone.run in
    let (taken, so, as_told) = c.hosts_go_by_messages.ensures (keys_of key) alone.here heard alone.last run in
    let noted = c.hosts_note_what_happens.ensures key taken whole alone.here heard alone.last run careful so as_told alone.rests (c.errands_are_carried.ensures.told key) in
    record {
      taken = taken;
      legal = record {
        answers = laws.said.answers;
        cancels = laws.said.cancels;
        sessions = laws.said.sessions;
        carries = laws.said.carries;
        link = laws.link;
        notes = noted.notes;
        stores = laws.said.stores;
        values = laws.said.values;
        sends = laws.sends key refl;
        prompt = c.runs_are_prompt.ensures (keys_of key) taken whole alone.here heard alone.last run careful so as_told alone.rests alone.for_host;
        records_kept = laws.said.records_kept;
      };
      heeded = noted.heeded;
    }
