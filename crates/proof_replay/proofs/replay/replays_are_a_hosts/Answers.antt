-- One line after another, from the host at its beginning.
use Rattle.std.proofs.Common.{◌≡◌, ℕ, List, [], ◌++◌, false, true, refl, ap, ◌∙◌, append_assoc}
use Rattle.std.specs.Prelude.{Option, Some, None}
use Rattle.port_run.specs.host_core.Network.{keys_of}
use Rattle.host_keep.specs.Keeping.{OptAdds}
use Rattle.host_model.proofs.EventLists.{none_added}
use Rattle.world_model.specs.State.{with_texts}
use Rattle.run_replay.specs.Machine.{first_replay, lone_of}
use Rattle.proof_asking.specs.proof_requests.proof_alone.State.{first_alone, host_machine}
use Rattle.proof_asking.specs.proof_requests.proof_alone.Phases.{Resting}
use Rattle.proof_asking.specs.proof_requests.proof_alone.Careful.{CarefulRun, Looked}
use Rattle.proof_asking.proofs.Carefully.{careful_leads, starts}
use Rattle.proof_asking.proofs.ForHost.{said_for_host}
use Rattle.proof_replay.specs.Heard.{heard_of, lone_after}
use Rattle.proof_replay.proofs.LineHeard.{first_rests, link_kept, obeys}
use Rattle.proof_replay.proofs.Replaying.{all_go}
use Rattle.proof_replay.proofs.Words.{replayed_said}
use Rattle.proof_replay.proofs.replay.replays_are_a_hosts.Goals as goal

-- what the run holds was added to what the keeper had
abbrev Added : Option (List (List ℕ)) → Option (List (List ℕ)) → Option (List (List ℕ)) → Type 0
Added before records held = (texts : List (List ℕ)) × (held ≡ Some texts) × OptAdds before records texts

more_added : (before records : Option (List (List ℕ))) (texts more : List (List ℕ)) → OptAdds before records texts → OptAdds before (with_texts records more) (texts ++ more)
more_added None records texts more adds = ap (λ (o : Option (List (List ℕ))). with_texts o more) adds
more_added (Some kept) records texts more adds =
    ap (λ (o : Option (List (List ℕ))). with_texts o more) adds ∙ ap (λ (l : List (List ℕ)). Some l) (append_assoc kept texts more)

pub returns : goal.returns
returns c = λ key records lines are.
    let m = lone_of (first_replay key) records in
    let obey = obeys c.hosts_obey_the_line.ensures.first c.hosts_obey_the_line.ensures.opened c.hosts_obey_the_line.ensures.each c.hosts_obey_the_line.ensures.units in
    let (awaits, stage, (held, (texts, tells, adds), run, line)) =
    all_go (CarefulRun (first_alone (keys_of key) (Some []))) (careful_leads (first_alone (keys_of key) (Some []))) (keys_of key) (Added records)
    (λ r h more (some, same, adds). (some ++ more, ap (λ (o : Option (List (List ℕ))). with_texts o more) same, more_added records r some more adds)) obey [] m lines are
    (false, Looked, (Some [], ([], refl, none_added records), starts (first_alone (keys_of key) (Some [])), first_rests obey (keys_of key))) in (
      texts,
      adds,
      record {
        here = Resting;
        last = host_machine (keys_of key) held (lone_after m lines).host.state [] (lone_after m lines).clock 0 awaits;
        run = (run.run, run.careful);
        rests = λ is. (refl, refl);
        agrees = λ is. tells;
        for_host = said_for_host (heard_of m lines) (replayed_said m lines are);
        link = link_kept obey true (heard_of m lines) awaits (lone_after m lines).clock (lone_after m lines).host.state line;
      },
    )
