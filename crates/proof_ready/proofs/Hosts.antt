-- What a host alone at rest has told by its transcript is so of it.
use Rattle.std.proofs.Common.{◌≡◌, ℕ, ◌≤◌, not, true, false, List, [], refl, sym, ap, ◌∙◌, subst, arith}
use Rattle.std.specs.Prelude.{Some}
use Rattle.s0_crypto.specs.declared.key_pair.Keys.{Keys}
use Rattle.zw_text.specs.declared.entry.Entry.{Entry}
use Rattle.host_node.specs.State.{is_idle}
use Rattle.host_node.specs.declared.series.Series.{Series}
use Rattle.host_node.specs.declared.series.Series.TheVariants.{Idle, Due, Running}
use Rattle.proof_rests.specs.proof_requests.host_model.May.{IsFree}
use Rattle.proof_rests.specs.proof_requests.host_model.State.{node_of}
use Rattle.law_time.specs.Calm.{is_idle as is_idle_told}
use Rattle.law_time.specs.Ends.{is_over}
use Rattle.law_time.specs.Requests.{asked}
use Rattle.law_time.specs.Rests.{is_rest}
use Rattle.law_time.specs.Sessions.{no_series, runs, series_from, with_time}
use Rattle.proof_rests.specs.proof_requests.proof_alone.State.{HostMachine, first_alone}
use Rattle.proof_rests.specs.proof_requests.proof_alone.Phases.{Resting}
use Rattle.proof_rests.specs.proof_requests.proof_alone.Steps.{AreFrames}
use Rattle.proof_rests.specs.proof_requests.proof_alone.Runs.{Run}
use Rattle.proof_rests.specs.proof_requests.proof_alone.Time.{TieClock}
use Rattle.proof_rests.specs.proof_attempts.Asleep.{KnowsSleep}
use Rattle.proof_rests.specs.proof_attempts.Series.{RunsAsTold, wait_end}
use Rattle.proof_rests.specs.proof_attempts.Since.{AlongRuns, KnowsSince}
use Rattle.proof_rests.specs.proof_attempts.Waking.{KnowsWork}
use Rattle.proof_rests.specs.proof_requests.Asking.{TieAsked, doing_of}
use Rattle.proof_rests.proofs.Freeing.{frees}
use Rattle.proof_ready.specs.Ease.{HostIsDone, NodeIsAsTold, clock_of}
use Rattle.proof_ready.proofs.Reading.{not_so}

abbrev TellsSleep : Type 0
TellsSleep = (keys : Keys) → AlongRuns keys KnowsSleep

abbrev TellsSeries : Type 0
TellsSeries = (keys : Keys) (told : List Entry) (m : HostMachine) → Run (first_alone keys (Some [])) Resting told m → (n : ℕ) → 1 ≤ n → n ≤ 232 → runs n told m.clock ≡ not (is_idle (node_of m.state n).series)

-- ---- of a host alone

idle_is : (s : Series) → not (is_idle s) ≡ false → s ≡ Idle
idle_is Idle none = refl
idle_is Due none = absurd (let bad : true ≡ false = none in cc)
idle_is Running none = absurd (let bad : true ≡ false = none in cc)

module _ (keys : Keys) (past : List Entry) (h : HostMachine) (run : Run (first_alone keys (Some [])) Resting past h) (none_left : h.left ≡ 0) (tells : TellsSleep) where
  knows : KnowsSleep Resting past h
  knows = tells keys Resting past h run

  work : KnowsWork Resting past h
  work = knows.0.0.0.0.0.0.0

  clock_is : clock_of past ≡ h.clock
  clock_is = by work.0.0.1
    where
      by : TieClock past h → clock_of past ≡ h.clock
      by tie = let all = tie.asked in omega (arith, all, none_left)

  tie_asked : TieAsked past h.clock h.clock h.came (doing_of h.state)
  tie_asked = knows.0.0.0.1.1

  pub is_done : AreFrames h.came → is_rest past (clock_of past) ≡ true → HostIsDone h.state
  is_done frames rest =
      let free : IsFree h.state = frees past h.clock h.came h.state frames tie_asked (ap (λ (t : ℕ). is_over (asked past) t) (sym clock_is) ∙ rest) in
      record { free = free; rests = work.1.1.rests free }

  pub as_told : (n : ℕ) → 1 ≤ n → n ≤ 232 → NodeIsAsTold past h.state n
  as_told n from to = record { awake = knows.0.0.0.0.0.1 n from to; listens_so = sym (knows.0.0.0.0.0.0.1 n to) }

  pub series_idle : TellsSeries → (n : ℕ) → 1 ≤ n → n ≤ 232 → is_idle_told past (clock_of past) n ≡ true → (node_of h.state n).series ≡ Idle
  series_idle series n from to idle =
      idle_is (node_of h.state n).series
      (sym (series keys past h run n from to) ∙ ap (λ (t : ℕ). runs n past t) (sym clock_is) ∙ not_so (runs n past (clock_of past)) idle)

  pub series_again : ((keys : Keys) → AlongRuns keys (KnowsSince RunsAsTold)) → (n : ℕ) → 1 ≤ n → n ≤ 232 → wait_end (clock_of past) (node_of h.state n).again_wait ≡ (with_time n past (clock_of past) (series_from n [] no_series past)).again
  series_again along n from to =
      subst (λ (t : ℕ). wait_end t (node_of h.state n).again_wait ≡ (with_time n past t (series_from n [] no_series past)).again) (sym clock_is) (sym (along keys Resting past h run n from to).again)
