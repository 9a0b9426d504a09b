-- Where a host alone rests nothing is left: nothing waits, no abort is owed, and nothing is owed to any node.
use Rattle.std.proofs.Common.{◌≡◌, ℕ, ◌≤◌, ◌&&◌, not, true, List, [], ◌∷◌, ◌++◌, map, refl, ap, ◌∙◌}
use Rattle.std.specs.List.{AllByRecursion, list_all}
use Rattle.std.proofs.lemmas.Bool.{and_from, and_parts}
use Rattle.zw_text.specs.declared.entry.Entry.{Entry}
use Rattle.zw_text.specs.declared.entry.Entry.TheVariants as entry
use Rattle.zw_text.specs.Transcript.{joined}
use Rattle.host_heard.specs.declared.told.Told.{Told}
use Rattle.host_requests.specs.declared.task.Task.{Task}
use Rattle.law_transcript.specs.Lists.{EachAfter}
use Rattle.law_transcript.specs.Restarts.{since_restart}
use Rattle.law_transcript.specs.Units.{Carried}
use Rattle.law_time.specs.Attempts.{Attempts, Serving, serving}
use Rattle.law_time.specs.Ends.{owes_abort}
use Rattle.law_time.specs.Heeds.{Heeds}
use Rattle.law_time.specs.Moments.{Allows}
use Rattle.law_time.specs.Queue.{requests, with_due}
use Rattle.law_time.specs.Requests.{Asked, are_none, asked}
use Rattle.law_time.specs.Rests.{has_come, is_rest, may_rest, none_overdue, none_waits, owes_nothing}
use Rattle.host_model.specs.Facts.{HostFacts}
use Rattle.proof_following.specs.proof_ends.proof_rests.proof_nonces.proof_work.Rests.{Rests}
use Rattle.proof_giving.specs.proof_queue.proof_attempts.proof_requests.law_host.Heard.{heeds_alone}
use Rattle.proof_giving.specs.proof_queue.proof_attempts.proof_requests.proof_alone.State.{HostMachine}
use Rattle.proof_giving.specs.proof_queue.proof_attempts.proof_requests.proof_alone.Phases.{Resting}
use Rattle.proof_giving.specs.proof_queue.proof_attempts.proof_requests.proof_alone.Time.{TieClock}
use Rattle.proof_giving.proofs.Books.{last_is}
use Rattle.proof_giving.specs.proof_queue.Waiting.{queue_of, want_of_task}
use Rattle.proof_giving.specs.Told.{attempts_so_far}
use Rattle.proof_following.specs.proof_ends.proof_rests.Undone.{is_done, may_begin}
use Rattle.proof_following.proofs.Done.{TasksNone, done_at_rest}
use Rattle.proof_following.proofs.Freeing.{frees}
use Rattle.proof_choice.specs.Resting.{RestingGround, leaves_none, rests_with_none}
use Rattle.proof_choice.specs.Turning.{AllKnown}
use Rattle.proof_choice.proofs.Choices.{serving_is}
use Rattle.proof_choice.proofs.Parts.{overdue_none, waits_for_none}
use Rattle.chip_functions.specs.Field.{IsNode}

-- the law is that of rests
pub rests_may : (heeds : Heeds) (past told : List Entry) → EachAfter (Allows (may_begin (rests_with_none heeds))) past told → EachAfter (Allows (may_rest heeds)) past told
rests_may heeds past [] each = tt
rests_may heeds past (entry.Said words ∷ told) each = (each.0, rests_may heeds (past ++ entry.Said words ∷ []) told each.1)
rests_may heeds past (entry.Time tick ∷ told) each = (each.0, rests_may heeds (past ++ entry.Time tick ∷ []) told each.1)
rests_may heeds past (e ∷ told) each = (refl, rests_may heeds (past ++ e ∷ []) told each.1)

module _ (node_is : (heeds : Heeds) (n : ℕ) (past : List Entry) → (attempts_so_far heeds n past).node ≡ n)
    (each_is : (heeds : Heeds) (nodes : List ℕ) (past : List Entry) → (serving heeds nodes past).each ≡ map (λ n. attempts_so_far heeds n past) nodes)
    (requests_are : (heeds : Heeds) (nodes : List ℕ) (past : List Entry) → (serving heeds nodes past).requests ≡ requests heeds past) (taken : List Entry → Carried → List Told) (tasks : TasksNone) where
  abbrev heeds : Heeds
  heeds = heeds_alone taken

  module _ (past : List Entry) (m : HostMachine) (facts : HostFacts m.state) (all : AllKnown heeds past m) (rests : Rests m.state) where
    abbrev told : ℕ → Attempts
    told n = attempts_so_far heeds n past

    nothing_owed : (n : ℕ) → 1 ≤ n → n ≤ 232 → has_come n (since_restart past) ≡ true → owes_nothing heeds past m.clock (told n) ≡ true
    nothing_owed n from to come =
        ap (λ (k : ℕ). has_come k (since_restart past) && none_waits k past m.clock && none_overdue heeds past m.clock (told n)) (node_is heeds n past)
        ∙ and_from (has_come n (since_restart past) && none_waits n past m.clock) (none_overdue heeds past m.clock (told n))
        (and_from (has_come n (since_restart past)) (none_waits n past m.clock) come (waits_for_none node_is taken past m.state m.clock n facts (all.nodes n from to) (rests.each n from to)))
        (overdue_none node_is taken past m.state m.clock n facts (all.nodes n from to) (rests.each n from to))

    all_owed : (nodes : List ℕ) → AllByRecursion IsNode nodes → list_all (λ node. has_come node (since_restart past)) nodes ≡ true → list_all (owes_nothing heeds past m.clock) (map told nodes) ≡ true
    all_owed [] range come = refl
    all_owed (n ∷ nodes) range come =
        let both = and_parts (has_come n (since_restart past)) (list_all (λ node. has_come node (since_restart past)) nodes) come in
        and_from (owes_nothing heeds past m.clock (told n)) (list_all (owes_nothing heeds past m.clock) (map told nodes)) (nothing_owed n range.0.0 range.0.1 both.0) (all_owed nodes range.1 both.1)

    left_none : is_done past m.clock ≡ true → (with_due heeds past m.clock (asked past) (queue_of heeds past)).wants ≡ map want_of_task m.state.requests.queue → rests_with_none heeds past m.clock ≡ true
    left_none done wants =
        let both = and_parts (not (owes_abort (asked past) m.clock)) (list_all (λ node. has_come node (since_restart past)) (joined past)) done in
        let none : are_none (with_due heeds past m.clock (requests heeds past).last (queue_of heeds past)).wants ≡ true
        = ap (λ (a : Asked). are_none (with_due heeds past m.clock a (queue_of heeds past)).wants) (last_is taken past) ∙ ap are_none (wants ∙ ap (λ (l : List Task). map want_of_task l) rests.no_task) in
        ap (λ (s : Serving). leaves_none heeds s past m.clock) (serving_is node_is each_is requests_are taken past m.state.served all.served)
        ∙ and_from (are_none (with_due heeds past m.clock (requests heeds past).last (queue_of heeds past)).wants && not (owes_abort (asked past) m.clock))
        (list_all (owes_nothing heeds past m.clock) (map told (joined past)))
        (and_from (are_none (with_due heeds past m.clock (requests heeds past).last (queue_of heeds past)).wants) (not (owes_abort (asked past) m.clock)) none both.0) (all_owed (joined past) all.range both.1)

  -- where the host rests
  pub holds : (past : List Entry) (m : HostMachine) → RestingGround heeds Resting past m → is_rest past m.clock ≡ true → rests_with_none heeds past m.clock ≡ true
  holds past m ground rests =
      let free = frees past m.clock m.came m.state ground.0.0.1.0.0.0.1 ground.0.0.1.0.1 rests in
      let resting : Rests m.state = ground.0.0.0.1.1.rests free in
      left_none past m ground.0.0.0.0.0.0.0.facts.host ground.1.1 resting (done_at_rest tasks past m ground.0 rests) ground.1.0

  pub clocks : (past : List Entry) (m : HostMachine) → RestingGround heeds Resting past m → TieClock past m
  clocks past m ground = ground.0.0.0.0.0.1
