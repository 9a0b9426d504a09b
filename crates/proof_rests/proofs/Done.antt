-- A host that rests owes no abort, and has done what lines asked for.
use Rattle.std.proofs.Common.{◌≡◌, ℕ, ◌==◌, ◌||◌, not, Bool, true, false, inl, inr, List, [], ◌∷◌, length, refl, ap, ◌∙◌, arith}
use Rattle.std.specs.List.{flat_map, list_all, list_any}
use Rattle.std.proofs.lemmas.Bool.{and_from, and_left, eq-eqb, or_left, or_right}
use Rattle.zw_text.specs.declared.entry.Entry.{Entry}
use Rattle.zw_text.specs.Transcript.{joined, lines_done, requests_done, shown}
use Rattle.host_requests.specs.declared.task.Task.{Task}
use Rattle.host_model.specs.State.{HostState}
use Rattle.host_model.specs.May.{IsFree}
use Rattle.proof_nonces.specs.proof_work.Rests.{Rests}
use Rattle.proof_nonces.specs.proof_work.Tasks.{tasks_of}
use Rattle.proof_nonces.specs.proof_work.law_transcript.Restarts.{since_restart}
use Rattle.proof_nonces.specs.proof_work.law_transcript.Units.{request_in}
use Rattle.proof_nonces.specs.proof_work.law_time.Requests.{asked}
use Rattle.proof_nonces.specs.proof_work.law_time.Ends.{is_sending, owes_abort}
use Rattle.proof_nonces.specs.proof_work.law_time.Rests.{errand_of, has_come, interview_end, interview_of, is_rest, is_unkept}
use Rattle.proof_nonces.specs.proof_attempts.proof_requests.Asking.{TieAsked, doing_of}
use Rattle.proof_nonces.specs.proof_attempts.proof_requests.proof_alone.State.{HostMachine}
use Rattle.proof_nonces.specs.proof_attempts.proof_requests.proof_alone.Phases.{Resting}
use Rattle.proof_nonces.proofs.Ending.{told_of_host}
use Rattle.proof_rests.specs.Undone.{is_done}
use Rattle.proof_rests.specs.Known.{AreCountedOr, KnowsAll, Wanted, an_errand, an_interview, left_among, no_excuse}
use Rattle.proof_rests.proofs.Freeing.{frees}

abbrev pub TasksNone : Type 0
TasksNone = (h : HostState) → IsFree h → Rests h → tasks_of h.requests ≡ []

-- ---- aborts

owes_none : (past : List Entry) (m : HostMachine) → TieAsked past m.clock m.clock m.came (doing_of m.state) → IsFree m.state → m.state.requests.owes ≡ false → owes_abort (asked past) m.clock ≡ false
owes_none past m (inl nothing) free paid =
    and_left (list_any is_sending (request_in (asked past).frame)) _ (ap (λ (l : List ℕ). list_any is_sending (request_in l)) nothing.unasked)
owes_none past m (inr (was, asks)) free paid = (told_of_host past m.clock m.came (doing_of m.state) (inr (was, asks))).owed was free.none_under_way ∙ paid

-- ---- what lines asked for

none_left : {A B : Type 0} (wanted : Wanted A B) (h : HostState) → tasks_of h.requests ≡ [] → left_among wanted h ≡ 0
none_left wanted h none = ap (λ (l : List Task). length (flat_map wanted.among l)) none

errands_come : (n : ℕ) (past : List Entry) (h : HostState) → tasks_of h.requests ≡ [] → AreCountedOr (an_errand n) no_excuse past h
    → (length (flat_map (errand_of n) (lines_done (since_restart past))) == length (requests_done n (since_restart past))) ≡ true
errands_come n past h none (inl counted) = eq-eqb _ _ (let left = none_left (an_errand n) h none in omega (arith, counted, left))
errands_come n past h none (inr excused) = absurd (let bad : false ≡ true = excused in cc)

interviews_come : (n : ℕ) (past : List Entry) (h : HostState) → tasks_of h.requests ≡ [] → AreCountedOr (an_interview n) (is_unkept n) past h
    → ((length (flat_map (interview_of n) (lines_done (since_restart past))) == length (shown (interview_end n) (since_restart past))) || is_unkept n (since_restart past)) ≡ true
interviews_come n past h none (inl counted) =
    or_left (length (flat_map (interview_of n) (lines_done (since_restart past))) == length (shown (interview_end n) (since_restart past))) (is_unkept n (since_restart past))
    (eq-eqb _ _ (let left = none_left (an_interview n) h none in omega (arith, counted, left)))
interviews_come n past h none (inr excused) =
    or_right (length (flat_map (interview_of n) (lines_done (since_restart past))) == length (shown (interview_end n) (since_restart past))) (is_unkept n (since_restart past)) excused

module _ (past : List Entry) (h : HostState) (none : tasks_of h.requests ≡ []) (errands : (n : ℕ) → AreCountedOr (an_errand n) no_excuse past h)
    (interviews : (n : ℕ) → AreCountedOr (an_interview n) (is_unkept n) past h) where
  node_come : (n : ℕ) → has_come n (since_restart past) ≡ true
  node_come n = and_from _ _ (errands_come n past h none (errands n)) (interviews_come n past h none (interviews n))

  all_come : (nodes : List ℕ) → list_all (λ node. has_come node (since_restart past)) nodes ≡ true
  all_come [] = refl
  all_come (n ∷ nodes) = and_from (has_come n (since_restart past)) (list_all (λ node. has_come node (since_restart past)) nodes) (node_come n) (all_come nodes)

pub done_at_rest : TasksNone → (past : List Entry) (m : HostMachine) → KnowsAll Resting past m → is_rest past m.clock ≡ true → is_done past m.clock ≡ true
done_at_rest tasks past m ground rests =
    let free = frees past m.clock m.came m.state ground.0.1.0.0.0.1 ground.0.1.0.1 rests in
    let resting = ground.0.0.1.1.rests free in
    let none = tasks m.state free resting in
    and_from (not (owes_abort (asked past) m.clock)) (list_all (λ node. has_come node (since_restart past)) (joined past))
    (ap (λ (b : Bool). not b) (owes_none past m ground.0.1.0.1 free resting.paid)) (all_come past m.state none ground.1.0 ground.1.1 (joined past))
