-- Along each careful run of a host alone that goes by what is heeded each node is tied to its attempts.
use Rattle.std.proofs.Common.{◌≡◌, ℕ, zero, suc, true, false, List, [], ◌++◌, Option, Some, None, refl, sym, ap, subst}
use Rattle.std.specs.Prelude.{is_some}
use Rattle.std.proofs.lemmas.Bool.{both_ways, or_left}
use Rattle.s0_crypto.specs.declared.key_pair.Keys.{Keys}
use Rattle.zw_text.specs.declared.entry.Entry.{Entry}
use Rattle.zw_text.specs.declared.entry.Entry.TheVariants as entry
use Rattle.zw_words.specs.declared.side.Side.TheVariants.{Host}
use Rattle.host_heard.specs.declared.told.Told.{Told}
use Rattle.law_transcript.specs.Units.{Carried}
use Rattle.law_time.specs.Heeds.{Heeds}
use Rattle.law_time.specs.Requests.{asked, is_new}
use Rattle.host_requests.specs.declared.under_way.UnderWay.{UnderWay}
use Rattle.host_node.specs.declared.series.Series.TheVariants.{Idle}
use Rattle.host_node.specs.State.{NodeState}
use Rattle.host_node.specs.TableState.{node_of as node_among, unknown_from, unknown_nodes}
use Rattle.host_model.specs.State.{first_host, first_nodes, node_of}
use Rattle.proof_queue.specs.Heeding.{AllSteps, HeedsAs, HeedsSo}
use Rattle.proof_queue.specs.Waiting.{WaitsAtLooks}
use Rattle.proof_queue.specs.proof_attempts.proof_requests.law_host.Heard.{heeds_alone}
use Rattle.proof_queue.specs.proof_attempts.proof_requests.proof_alone.Careful.{Careful}
use Rattle.proof_queue.specs.proof_attempts.proof_requests.proof_alone.Phases.{Phase, Resting, Submitting}
use Rattle.proof_queue.specs.proof_attempts.proof_requests.proof_alone.Runs.{Run}
use Rattle.proof_queue.specs.proof_attempts.proof_requests.proof_alone.Runs.Run.{Begins, Turned, Stepped}
use Rattle.proof_queue.specs.proof_attempts.proof_requests.proof_alone.State.{HostMachine, first_alone}
use Rattle.proof_queue.specs.proof_attempts.proof_requests.proof_alone.Steps.{entries, happens}
use Rattle.proof_queue.proofs.Queued.{PayloadsBring}
use Rattle.proof_giving.specs.Told.{attempts_so_far}
use Rattle.proof_giving.specs.Tie.{WaitsAsTold, has_text, is_badly_over}
use Rattle.proof_giving.specs.Walking.{Grounds, KnowsAttempts, WaitsAt}
use Rattle.proof_giving.proofs.Finished.{EndsWith}
use Rattle.proof_giving.proofs.NodesGo.{idle_so}
use Rattle.proof_giving.proofs.Ticked.{TicksWith}
use Rattle.proof_giving.proofs.Walked.{step_goes, turn_goes}

-- ---- at first

record IsFresh (s : NodeState) : Type 0 where
  idle : s.series ≡ Idle
  textless : has_text s ≡ false

blank_from : (number count m : ℕ) → IsFresh (node_among (unknown_from number count) m)
blank_from number zero m = record { idle = refl; textless = refl }
blank_from number (suc count) zero = record { idle = refl; textless = refl }
blank_from number (suc count) (suc m) = blank_from (suc number) count m

first_fresh : (m : ℕ) → IsFresh (node_among first_nodes m)
unfolding first_nodes unknown_nodes
first_fresh zero = record { idle = refl; textless = refl }
first_fresh (suc zero) = record { idle = refl; textless = refl }
first_fresh (suc (suc zero)) = record { idle = refl; textless = refl }
first_fresh (suc (suc (suc m))) = blank_from 3 230 m

pub first_counts : (heeds : Heeds) (keys : Keys) → KnowsAttempts heeds Resting [] (first_alone keys (Some []))
first_counts heeds keys = λ n from to.
    let fresh : IsFresh (node_of (first_host keys) n) = first_fresh n in
    record {
      node = idle_so (attempts_so_far heeds n []) (node_of (first_host keys) n) 0 (is_badly_over heeds n [] (first_host keys) 0) refl fresh.idle
          (λ sealed is.
          absurd (both_ways (has_text (node_of (first_host keys) n)) fresh.textless
          (or_left (is_some (node_of (first_host keys) n).text) (is_some (node_of (first_host keys) n).pending) (ap (λ (o : Option (List ℕ)). is_some o) is))));
      own = λ runs u is. none_under u is;
      inner = λ runs u more payload is purpose. none_under u is;
      sends = λ own. absurd (let bad : false ≡ true = own in cc);
      seals = λ has. absurd (both_ways (has_text (node_of (first_host keys) n)) fresh.textless has);
    }
  where
    none_under : {A : Type 0} (u : UnderWay) → (first_host keys).requests.under_way ≡ Some u → A
    none_under u is = absurd (let bad : ◌≡◌ {A = Option UnderWay} None (Some u) = is in cc)

-- ---- what waits at a request

pub waits_so : (taken : List Entry → Carried → List Told) (past : List Entry) (m : HostMachine) → WaitsAtLooks (heeds_alone taken) past m → WaitsAsTold (heeds_alone taken) past m.state m.clock
waits_so taken past m looks = λ unit new now. (looks (entry.Written Host unit) (or_left (is_new (asked past) unit) _ new) now).wants_are

-- ---- along a run

module _ (ends : EndsWith) (ticks : TicksWith) (brings : PayloadsBring) (taken : List Entry → Carried → List Told) (start : HostMachine)
    (grounds : (here : Phase) (told : List Entry) (m : HostMachine) → Run start here told m → Grounds (heeds_alone taken) here told m)
    (waits : (told : List Entry) (m : HostMachine) → (run : Run start Submitting told m) → Careful run → AllSteps (HeedsSo (heeds_alone taken)) run → WaitsAsTold (heeds_alone taken) told m.state m.clock)
    (first : KnowsAttempts (heeds_alone taken) Resting [] start) where
  waits_at : (here : Phase) (told : List Entry) (m : HostMachine) → (run : Run start here told m) → Careful run → AllSteps (HeedsSo (heeds_alone taken)) run → WaitsAt (heeds_alone taken) here told m
  waits_at Submitting told m run careful sure = waits told m run careful sure
  waits_at here told m run careful sure = tt

  pub counted : {here : Phase} {told : List Entry} {m : HostMachine} → (run : Run start here told m) → Careful run → AllSteps (HeedsSo (heeds_alone taken)) run → AllSteps (HeedsAs (heeds_alone taken)) run
      → KnowsAttempts (heeds_alone taken) here told m
  counted Begins careful sure heeded = first
  counted {here = next} {told = told} {m = m} (Turned {here = here} turns run) careful sure heeded =
      turn_goes ends ticks brings taken here next told m turns (grounds here told m run) (counted run careful.0 sure heeded)
  counted {here = next} {m = later} (Stepped {here = here} {told = told} {m = m} step may all_is later_is run) careful sure heeded =
      subst (λ (l : List Entry). KnowsAttempts (heeds_alone taken) next l later) (sym all_is)
      (subst (λ (k : HostMachine). KnowsAttempts (heeds_alone taken) next (told ++ entries m step) k) (sym later_is)
      (step_goes ends ticks brings taken here next told m step may (grounds here told m run) (grounds next (told ++ entries m step) (happens m step) (Stepped step may refl refl run)) heeded.1 (waits_at here told m run careful.0 sure.0)
      (counted run careful.0 sure.0 heeded.0)))
