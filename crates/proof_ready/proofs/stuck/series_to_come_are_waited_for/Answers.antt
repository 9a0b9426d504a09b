-- Where its end is told it runs.
use Rattle.std.proofs.Common.{◌≡◌, ◌≢◌, ℕ, not, true, List, [], sym, ap, ◌∙◌, arith}
use Rattle.std.proofs.lemmas.Bool.{false≢true}
use Rattle.std.specs.Prelude.{Some}
use Rattle.law_time.specs.Requests.{are_none}
use Rattle.proof_chip.specs.proof_line.world_model.State.{first_machine}
use Rattle.proof_chip.specs.proof_world.world_lines.Spoken.{transcript_of}
use Rattle.proof_rests.specs.proof_attempts.Series.{wait_end}
use Rattle.proof_ready.specs.Ease.{clock_of}
use Rattle.proof_ready.proofs.stuck.series_to_come_are_waited_for.Goals as goal

some_runs : (now wait : ℕ) (told : List ℕ) → wait_end now wait ≡ told → not (are_none told) ≡ true → wait ≢ 0
some_runs now wait told is some none =
    absurd (false≢true (sym (ap (λ (l : List ℕ). not (are_none l)) (sym is) ∙ ap (λ (k : ℕ). not (are_none (wait_end now k))) none) ∙ some))

pub returns : goal.returns
returns c = λ keys devices lines are whole n joined comes.
    let m = first_machine keys (Some []) devices in
    let past = transcript_of m lines in
    let there = c.joined_nodes_are_there.ensures keys devices lines are whole n joined in
    some_runs (clock_of past) _ _ (c.calm_hosts_are_done.ensures.again keys devices lines are whole n (omega (arith, there.from)) there.to) comes
