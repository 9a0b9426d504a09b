-- A tick: the line may write its frame once more or give it up, the request under way may fall silent, and nodes wait.
use Rattle.std.proofs.Common.{◌≡◌, ℕ, ◌+◌, ◌-◌, Bool, true, false, List, [], ◌∷◌, ◌++◌, map, Option, Some, None, refl, sym, ap, ◌∙◌, subst, arith, append-nil}
use Rattle.std.specs.Prelude.{if◌then◌else◌, ◌==◌, ◌&&◌, nat_lt}
use Rattle.serial_frame.specs.Frame.{FrameParts}
use Rattle.serial_link.specs.State.{tick_side, pause_after, copy_due}
use Rattle.serial_link.specs.declared.turn.Turn.{Turn}
use Rattle.serial_link.specs.declared.turn.Turn.TheVariants.{Idle, Copied, Paused}
use Rattle.chip_functions.specs.declared.function.TheConstants.{SEND_DATA, SEND_DATA_ABORT}
use Rattle.host_requests.specs.declared.end.How.TheVariants.{Silent}
use Rattle.host_requests.specs.declared.next.Next.TheVariants.{GoesOn, Ends}
use Rattle.host_requests.specs.declared.task.Purpose.{Purpose}
use Rattle.host_requests.specs.declared.task.Purpose.TheVariants.{Abort as of_abort}
use Rattle.host_requests.specs.declared.under_way.Progress.{Progress}
use Rattle.host_requests.specs.declared.under_way.Progress.TheVariants.{Submitted, Sent, Answered}
use Rattle.host_requests.specs.declared.under_way.UnderWay.{UnderWay}
use Rattle.host_requests.specs.Frames.{function_of}
use Rattle.host_requests.specs.Next.{is_answered, counted_down, on_with, at_tick, owes_abort, went_on, next_from}
use Rattle.host_requests.specs.Events.{end_at}
use Rattle.host_requests.specs.Events.RequestsEvent.{Fails as request_fails, Ticks as request_ticks}
use Rattle.host_node.specs.declared.attempt.Moment.TheVariants.{BeforeItsTick}
use Rattle.proof_serial.specs.host_model.State.{HostState}
use Rattle.proof_serial.specs.host_model.Events.{Line_ticks, Requests_do, Node_ticks}
use Rattle.proof_serial.specs.host_model.After.{after, requests_do, request_does, gives_up, line_ticked, failing_if}
use Rattle.proof_serial.specs.host_model.Outs.{outs, copy_out, noted, failing_entries}
use Rattle.proof_serial.specs.host_model.Did.{after_all, outs_all}
use Rattle.proof_serial.specs.host_model.Ticking.{first_ticks, ticking_nodes, tick_events}
use Rattle.proof_traffic.specs.Requests.{Word, Send, Abort, Other, Pending, Traffic, IsSend, linked}
use Rattle.proof_traffic.specs.Requests as course
use Rattle.proof_traffic.specs.HostTraffic.{word_of, words_out, word_on, pending_of, IsPlain, InOrder, Knows, Writes, Goes}
use Rattle.proof_traffic.proofs.HostSteps.{goes_on, writes-none, words-append}
use Rattle.proof_traffic.proofs.Quiet.{same_end_if, no_words, AreQuiet, quiet_goes}
use Rattle.proof_traffic.proofs.Items.{Moves, moves_nowhere, moves_same, told_goes, gives_up_moves, not_abort, plain_answered}

-- ---- the line

-- the word of a copy
abbrev copied : Option FrameParts → List Word
copied None = []
copied (Some f) = word_of f.func ∷ []

copied_words : (f : Option FrameParts) → words_out (copy_out f) ≡ copied f
copied_words None = refl
copied_words (Some f) = refl

module _ (t : Traffic) (h : HostState) where
  line_words : (gives : Bool) (copy : Option FrameParts) → gives_up h.side.turn (tick_side h.side).turn ≡ gives → copy_due h.side.turn ≡ copy → words_out (outs_all h (Line_ticks ∷ [])) ≡ copied copy
  line_words gives copy gives_is copy_is =
      let entries = noted (failing_entries (gives_up h.side.turn (tick_side h.side).turn) (line_ticked h)) in
      words-append (outs h Line_ticks) [] ∙ append-nil (words_out (outs h Line_ticks)) ∙ words-append (copy_out (copy_due h.side.turn)) entries
      ∙ ap (λ (ws : List Word). words_out (copy_out (copy_due h.side.turn)) ++ ws) (no_words (failing_entries (gives_up h.side.turn (tick_side h.side).turn) (line_ticked h)))
      ∙ append-nil (words_out (copy_out (copy_due h.side.turn))) ∙ copied_words (copy_due h.side.turn) ∙ ap copied copy_is

  -- the line ticks: by what becomes of its frame
  line_by : (gives : Bool) (copy : Option FrameParts) → gives_up h.side.turn (tick_side h.side).turn ≡ gives → copy_due h.side.turn ≡ copy → (steps : List course.Step) → course.MayAll t steps
      → Knows (course.after_all t steps) (failing_if gives (line_ticked h)) → Writes t (course.after_all t steps) (copied copy) → Goes t h (Line_ticks ∷ [])
  line_by gives copy gives_is copy_is steps may knows writes = record {
    steps = steps;
    may = may;
    knows = subst (λ (b : Bool). Knows (course.after_all t steps) (failing_if b (line_ticked h))) (sym gives_is) knows;
    writes = subst (λ (ws : List Word). Writes t (course.after_all t steps) ws) (sym (line_words gives copy gives_is copy_is)) writes;
  }

  -- its frame stays where it is
  line_stays : gives_up h.side.turn (tick_side h.side).turn ≡ false → copy_due h.side.turn ≡ None → word_on (tick_side h.side).turn ≡ word_on h.side.turn → Knows t h → Goes t h (Line_ticks ∷ [])
  line_stays gives copy same knows =
      line_by false None gives copy [] tt (record { link = knows.link ∙ sym same; pending = knows.pending; owes = knows.owes; order = knows.order }) (writes-none t)

  -- it is given up
  line_gives_up : gives_up h.side.turn (tick_side h.side).turn ≡ true → copy_due h.side.turn ≡ None → (tick_side h.side).turn ≡ Idle → Knows t h → Goes t h (Line_ticks ∷ [])
  line_gives_up gives copy idle knows =
      let moves : Moves t (requests_do (line_ticked h) request_fails) = gives_up_moves t (line_ticked h) idle knows.owes knows.order in
      let all : Moves t (request_does (line_ticked h) request_fails BeforeItsTick) =
      moves_same t (requests_do (line_ticked h) request_fails) (request_does (line_ticked h) request_fails BeforeItsTick)
      (same_end_if (requests_do (line_ticked h) request_fails) (end_at (line_ticked h).requests request_fails) BeforeItsTick) moves in
      line_by true None gives copy all.steps all.may all.knows all.writes

  -- it is written once more
  line_copies : (f : FrameParts) → gives_up h.side.turn (tick_side h.side).turn ≡ false → copy_due h.side.turn ≡ Some f → word_on h.side.turn ≡ Some (word_of f.func) → word_on (tick_side h.side).turn ≡ Some (word_of f.func)
      → Knows t h → Goes t h (Line_ticks ∷ [])
  line_copies f gives copy was is knows =
      line_by false (Some f) gives copy (course.Copies ∷ []) (tt, tt) (record { link = knows.link ∙ was ∙ sym is; pending = knows.pending; owes = knows.owes; order = knows.order })
      (record { up = ap (λ (o : Option Word). t.up ++ linked o) (knows.link ∙ was); aborted = refl; sending = refl; calls = refl })

  line_goes : (turn : Turn) → h.side.turn ≡ turn → Knows t h → Goes t h (Line_ticks ∷ [])
  line_goes Idle is knows = line_stays (rw is refl) (rw is refl) (rw is refl) knows
  line_goes (Copied f copies ticks) is knows = by (ticks == 14) refl (copies == 4) refl
    where
      by : (over : Bool) → (ticks == 14) ≡ over → (last : Bool) → (copies == 4) ≡ last → Goes t h (Line_ticks ∷ [])
      by true o true l = line_gives_up (rw is (rw o (rw l refl))) (rw is refl) (rw is (rw o (rw l refl))) knows
      by true o false l = line_stays (rw is (rw o (rw l refl))) (rw is refl) (rw is (rw o (rw l refl))) knows
      by false o last l = line_stays (rw is (rw o refl)) (rw is refl) (rw is (rw o refl)) knows
  line_goes (Paused f copies ticks) is knows = by (ticks + 1 == pause_after copies) refl
    where
      by : (over : Bool) → (ticks + 1 == pause_after copies) ≡ over → Goes t h (Line_ticks ∷ [])
      by true o = line_copies f (rw is (rw o refl)) (rw is (rw o refl)) (rw is refl) (rw is (rw o refl)) knows
      by false o = line_stays (rw is (rw o refl)) (rw is (rw o refl)) (rw is (rw o refl)) knows

-- ---- the request under way

-- it goes on as it was, but for its wait
waits_on : (t : Traffic) (h : HostState) (u : UnderWay) (progress : Progress) → h.requests.under_way ≡ Some u → is_answered progress ≡ is_answered u.progress → IsPlain u.purpose progress → Knows t h
    → Moves t (record h { requests = went_on h.requests u (GoesOn progress) })
waits_on t h u progress is same plain knows =
    moves_nowhere t (record h { requests = went_on h.requests u (GoesOn progress) })
    (record {
      link = knows.link;
      pending = knows.pending ∙ ap pending_of is ∙ ap (λ (b : Bool). Some (record { word = word_of (function_of u.purpose); answered = b })) (sym same);
      owes = knows.owes;
      order = ((subst (λ (o : Option UnderWay). InOrder o h.requests.owes) is knows.order).0, plain);
    })

-- it is over, and no abort is owed for it
is_over : (t : Traffic) (h : HostState) (u : UnderWay) → h.requests.under_way ≡ Some u → owes_abort u Silent ≡ false → (u.purpose ≡ of_abort → ⊥) → Knows t h
    → Moves t (record h { requests = went_on h.requests u (Ends Silent) })
is_over t h u is paid other knows = record {
  steps = course.Ends ∷ [];
  may = (not_abort t u (knows.pending ∙ ap pending_of is) other, tt);
  knows = record { link = knows.link; pending = refl; owes = knows.owes ∙ (subst (λ (o : Option UnderWay). InOrder o h.requests.owes) is knows.order).0 ∙ sym paid; order = tt };
  writes = record { up = sym (append-nil t.up); aborted = refl; sending = refl; calls = refl };
}

-- it is over, and an abort is owed
falls_silent : (t : Traffic) (h : HostState) (u : UnderWay) → h.requests.under_way ≡ Some u → is_answered u.progress ≡ true → (function_of u.purpose == SEND_DATA) ≡ true → t.calls ≡ [] → Knows t h
    → Moves t (record h { requests = went_on h.requests u (Ends Silent) })
falls_silent t h u is answered sends none knows = record {
  steps = course.Falls_silent ∷ [];
  may = (
    (
      knows.pending ∙ ap pending_of is
          ∙ ap (λ (w : Word). Some (record { word = w; answered = is_answered u.progress })) (ap (λ (b : Bool). if b then Send else (if function_of u.purpose == SEND_DATA_ABORT then Abort else Other)) sends)
          ∙ ap (λ (b : Bool). Some (record { word = Send; answered = b })) answered,
      none,
    ),
    tt,
  );
  knows = record { link = knows.link; pending = refl; owes = sym (ap (λ (b : Bool). b && (function_of u.purpose == SEND_DATA)) answered ∙ sends); order = tt };
  writes = record { up = sym (append-nil t.up); aborted = refl; sending = refl; calls = refl };
}

no_abort_waits : (u : UnderWay) (progress : Progress) → u.progress ≡ progress → (progress ≡ Submitted → ⊥) → IsPlain u.purpose u.progress → u.purpose ≡ of_abort → ⊥
no_abort_waits u progress is other plain abort =
    other (sym is ∙ subst (λ (p : Purpose). IsPlain p u.progress) abort plain)

plain_on : (u : UnderWay) (progress : Progress) → (u.purpose ≡ of_abort → ⊥) → IsPlain u.purpose progress
plain_on u progress other = plain_answered u.purpose progress other

tick_by : (t : Traffic) (h : HostState) (u : UnderWay) (progress : Progress) → u.progress ≡ progress → h.requests.under_way ≡ Some u → t.calls ≡ [] → Knows t h
    → Moves t (record h { requests = went_on h.requests u (on_with (counted_down progress)) })
tick_by t h u Submitted is under_way none knows =
    waits_on t h u Submitted under_way (ap is_answered (sym is)) (subst (λ (p : Progress). IsPlain u.purpose p) is (subst (λ (o : Option UnderWay). InOrder o h.requests.owes) under_way knows.order).1) knows
tick_by t h u (Sent left) is under_way none knows = by (nat_lt 1 left) refl
  where
    other : u.purpose ≡ of_abort → ⊥
    other = no_abort_waits u (Sent left) is (λ e. absurd (grind (arith, e))) (subst (λ (o : Option UnderWay). InOrder o h.requests.owes) under_way knows.order).1

    by : (goes : Bool) → nat_lt 1 left ≡ goes → Moves t (record h { requests = went_on h.requests u (on_with (counted_down (Sent left))) })
    by true e = rw e (waits_on t h u (Sent (left - 1)) under_way (ap is_answered (sym is)) (plain_on u (Sent (left - 1)) other) knows)
    by false e = rw e (is_over t h u under_way (ap (λ (p : Progress). is_answered p && (function_of u.purpose == SEND_DATA)) is) other knows)
tick_by t h u (Answered sent left) is under_way none knows = by (nat_lt 1 left) refl (function_of u.purpose == SEND_DATA) refl
  where
    other : u.purpose ≡ of_abort → ⊥
    other = no_abort_waits u (Answered sent left) is (λ e. absurd (grind (arith, e))) (subst (λ (o : Option UnderWay). InOrder o h.requests.owes) under_way knows.order).1

    by : (goes : Bool) → nat_lt 1 left ≡ goes → (sends : Bool) → (function_of u.purpose == SEND_DATA) ≡ sends → Moves t (record h { requests = went_on h.requests u (on_with (counted_down (Answered sent left))) })
    by true e sends s = rw e (waits_on t h u (Answered sent (left - 1)) under_way (ap is_answered (sym is)) (plain_on u (Answered sent (left - 1)) other) knows)
    by false e true s = rw e (falls_silent t h u under_way (ap is_answered is) s none knows)
    by false e false s = rw e (is_over t h u under_way (ap (λ (p : Progress). is_answered p && (function_of u.purpose == SEND_DATA)) is ∙ s) other knows)

tick_moves : (t : Traffic) (h : HostState) (o : Option UnderWay) → h.requests.under_way ≡ o → t.calls ≡ [] → Knows t h → Moves t (record h { requests = next_from h.requests at_tick o })
tick_moves t h None is none knows = moves_nowhere t h knows
tick_moves t h (Some u) is none knows = tick_by t h u u.progress refl is none knows

-- ---- the whole tick

nodes_quiet : (ns : List ℕ) → AreQuiet (map Node_ticks ns)
nodes_quiet [] = tt
nodes_quiet (n ∷ ns) = (tt, nodes_quiet ns)

pub tick_goes : (t : Traffic) (h : HostState) → Knows t h → t.calls ≡ [] → Goes t h (tick_events h)
tick_goes t h knows none =
    let first : Goes t h (Line_ticks ∷ []) = line_goes t h h.side.turn refl knows in
    let at : Traffic = course.after_all t first.steps in
    let g : HostState = after h Line_ticks in
    let still : at.calls ≡ [] = first.writes.calls ∙ none in
    let second : Goes at g (Requests_do request_ticks BeforeItsTick ∷ []) = told_goes at g request_ticks BeforeItsTick (tick_moves at g g.requests.under_way refl still first.knows) in
    let third : Goes (course.after_all at second.steps) (after_all h first_ticks) (map Node_ticks (ticking_nodes (after_all h first_ticks))) =
    quiet_goes (course.after_all at second.steps) (after_all h first_ticks) (map Node_ticks (ticking_nodes (after_all h first_ticks))) (nodes_quiet (ticking_nodes (after_all h first_ticks))) second.knows in
    goes_on t h (Line_ticks ∷ []) (Requests_do request_ticks BeforeItsTick ∷ map Node_ticks (ticking_nodes (after_all h first_ticks))) first
    (goes_on at g (Requests_do request_ticks BeforeItsTick ∷ []) (map Node_ticks (ticking_nodes (after_all h first_ticks))) second third)
