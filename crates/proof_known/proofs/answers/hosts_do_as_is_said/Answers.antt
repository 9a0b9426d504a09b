-- Each law of it is proved of every run of a host alone.
use Rattle.std.proofs.Common.{◌≡◌, Bool, true, false, List, [], refl, subst}
use Rattle.std.specs.Prelude.{Some}
use Rattle.s0_crypto.specs.declared.key_pair.Keys.{Keys}
use Rattle.zw_text.specs.declared.entry.Entry.{Entry}
use Rattle.proof_waking.specs.proof_alone.State.{HostMachine, first_alone}
use Rattle.proof_waking.specs.proof_alone.Phases.{Phase, Resting}
use Rattle.proof_waking.specs.proof_alone.Runs.{Run}
use Rattle.proof_known.specs.Known.{AreForHost, KeepsWhatIsSaid}
use Rattle.proof_known.proofs.answers.hosts_do_as_is_said.Goals as goal

by_whole : goal.After-hosts_answer_lines → (keys : Keys) (whole : Bool) (here : Phase) (told : List Entry) (m : HostMachine) → Run (first_alone keys (Some [])) here told m
    → (whole ≡ true → here ≡ Resting) → AreForHost told → KeepsWhatIsSaid whole told m.records
by_whole c keys true here told m run rests fine =
    let at_rest : Run (first_alone keys (Some [])) Resting told m = subst (λ (p : Phase). Run (first_alone keys (Some [])) p told m) (rests refl) run in
    record {
      answers = c.hosts_answer_lines.ensures.whole keys told (m, at_rest) fine;
      cancels = (c.hosts_answer_what_is_asked.ensures.told keys told (here, m, run)).0;
      sessions = (c.hosts_keep_their_tables.ensures.laws keys told (here, m, run)).sessions_keep;
      carries = (c.hosts_answer_what_is_asked.ensures.told keys told (here, m, run)).1;
      stores = c.hosts_keep_what_is_said.ensures.stores keys told true (here, m, run);
      values = c.hosts_show_what_they_keep.ensures.whole keys told (m, at_rest);
      records_kept = λ is. c.hosts_record_what_is_shown.ensures.told keys told m at_rest;
    }
by_whole c keys false here told m run rests fine = record {
  answers = c.hosts_answer_lines.ensures.told keys told (here, m, run) fine;
  cancels = (c.hosts_answer_what_is_asked.ensures.told keys told (here, m, run)).0;
  sessions = (c.hosts_keep_their_tables.ensures.laws keys told (here, m, run)).sessions_keep;
  carries = (c.hosts_answer_what_is_asked.ensures.told keys told (here, m, run)).1;
  stores = c.hosts_keep_what_is_said.ensures.stores keys told false (here, m, run);
  values = c.hosts_show_what_they_keep.ensures.told keys told (here, m, run);
  records_kept = λ (is : false ≡ true). absurd cc;
}

pub returns : goal.returns
returns c = by_whole c
