-- The texts are lines as they are said, and these are a run of a host alone that began without records.
use Rattle.std.proofs.Common.{sym, subst, true}
use Rattle.std.specs.Prelude.{Some}
use Rattle.s0_crypto.specs.declared.key_pair.Keys.{Keys}
use Rattle.port_run.specs.host_core.Network.{keys_of}
use Rattle.host_keep.specs.Keeping.{OptAdds}
use Rattle.run_replay.specs.Machine.{Lone, first_replay, lone_of}
use Rattle.run_replay.specs.Replay.{point_of}
use Rattle.proof_replay.specs.Heard.{heard_of}
use Rattle.proof_replay.specs.Laws.{IsHeardAlone}
use Rattle.proof_replay.proofs.Ran.{are_replayed}
use Rattle.proof_replay.proofs.replay.texts_that_ran_are_heard.Goals as goal

pub returns : goal.returns
returns c = λ key shelf lines new transcript ran read.
    let (story, said, are, told, last) = are_replayed lines (point_of (first_replay key) shelf) new transcript ran read in
    let heard = heard_of (lone_of (first_replay key) shelf.records) story in
    let (added, adds, alone) = c.replays_are_a_hosts.ensures key shelf.records story are in
    record {
      story = story;
      said = said;
      are = are;
      told = told;
      added = added;
      adds = subst (λ (m : Lone). OptAdds shelf.records m.records added) (sym last) adds;
      keeps = c.hosts_keep_laws.ensures (keys_of key) true heard (Some added) alone;
      legal = λ own same. c.hosts_are_legal.ensures own true heard (Some added) (subst (λ (k : Keys). IsHeardAlone k true heard (Some added)) same alone);
    }
