-- The lines of a story were said, also over a new keeper, and their host heard what it does of such lines.
use Rattle.std.proofs.Common.{ℕ, List, refl, ap, subst}
use Rattle.std.specs.Prelude.{Option}
use Rattle.run_all.specs.host_core.Network.{keys_of}
use Rattle.zw_text.specs.declared.entry.Entry.{Entry}
use Rattle.world_model.specs.State.{Machine}
use Rattle.law_host.specs.Heard.{heard_by_host}
use Rattle.law_host.specs.HostLegal.{IsLegalAlone}
use Rattle.law_host.specs.Notes.{first_start}
use Rattle.world_lines.specs.Spoken.{after_all, transcript_of}
use Rattle.run_all.specs.Around.{Around}
use Rattle.proof_replay.specs.Laws.{HostsKeepLaws}
use Rattle.proof_commands.specs.Laws.{Ran, kept_anew}
use Rattle.proof_commands.proofs.AsSaid.{of_new}
use Rattle.proof_commands.proofs.Speaking.{all_said, same_machine}
use Rattle.proof_commands.proofs.Told.{fresh}
use Rattle.proof_commands.proofs.laws.stories_are_heard.Goals as goal

-- the records after its lines are those that a new keeper would hold
with_kept : (key : List ℕ) (old : Around) (story : List Ran) (Law : Option (List (List ℕ)) → Type 0) → Law (after_all (fresh key old) (all_said story)).records
    → Law (kept_anew key old story)
with_kept key old story Law law = subst Law (ap (λ (m : Machine). m.records) (same_machine (fresh key old) story)) law

pub returns-clause-laws : goal.returns-clause-laws
returns-clause-laws c = λ key old new story unentered is tells whole all.
    of_new c.lines_are_read_as_said.ensures key old new story unentered is tells (λ (T : List Entry). HostsKeepLaws (keys_of key) whole (heard_by_host T) (kept_anew key old story))
    (λ done runs.
    with_kept key old story (HostsKeepLaws (keys_of key) whole (heard_by_host (transcript_of (fresh key old) (all_said story))))
    (c.lines_that_ran_are_heard.ensures (keys_of key) old.devices (all_said story) whole done (λ is_whole. runs (all is_whole))))

pub returns-clause-legal : goal.returns-clause-legal
returns-clause-legal c = λ key old new story unentered is tells whole all.
    of_new c.lines_are_read_as_said.ensures key old new story unentered is tells
    (λ (T : List Entry). IsLegalAlone key first_start whole (heard_by_host T) (kept_anew key old story))
    (λ done runs.
    with_kept key old story (IsLegalAlone key first_start whole (heard_by_host (transcript_of (fresh key old) (all_said story))))
    (c.lines_that_ran_are_legal.ensures (keys_of key) old.devices (all_said story) whole done (λ is_whole. runs (all is_whole)) key refl))
