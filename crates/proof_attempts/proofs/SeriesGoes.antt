-- What an event of a host makes of the series of attempts of a node, with what is told: between ticks, in a tick before the node's own, and in that.
use Rattle.std.proofs.Common.{◌≡◌, ◌⊎◌, ℕ, ◌+◌, ◌-◌, ◌==◌, ◌&&◌, ◌||◌, not, nat_lt, Bool, true, false, if◌then◌else◌, inl, inr, All, List, [], ◌∷◌, ◌++◌, Option, Some, None, refl, sym, ap, ◌∙◌, subst, arith}
use Rattle.std.specs.Prelude.{IsSome}
use Rattle.std.specs.List.{AllByRecursion, list_any}
use Rattle.std.proofs.lemmas.Bool.{both_ways, cases_eq, eq-eqb, eqb-true, ltb-false, ne_eqb, or_left, or_right}
use Rattle.std.proofs.lemmas.List.Elements.{recursion_from_All}
use Rattle.zw_base.specs.declared.property.Setting.{Setting}
use Rattle.zw_base.proofs.Each.{all-right}
use Rattle.serial_link.specs.State.{copy_due, tick_side}
use Rattle.chip_functions.specs.declared.response.Response.TheVariants.{GetRoutingInfo, IsFailedNode as failed_node}
use Rattle.supervision.specs.Host.{open_session, told_of}
use Rattle.supervision.specs.declared.host_node.Told.{Told}
use Rattle.supervision.specs.declared.host_node.Told.TheVariants.{Working}
use Rattle.host_keep.specs.Status.{status_byte}
use Rattle.host_keep.specs.declared.final_status.FinalStatus.{FinalStatus}
use Rattle.host_keep.specs.declared.final_status.FinalStatus.TheVariants as final
use Rattle.zw_text.specs.declared.entry.Ended.TheVariants as ended
use Rattle.zw_text.specs.declared.entry.Entry.{Entry}
use Rattle.zw_text.specs.declared.entry.Entry.TheVariants as entry
use Rattle.zw_text.specs.Transcript.{folded}
use Rattle.proof_work.specs.law_time.Judged.{last_of}
use Rattle.proof_work.specs.law_time.Sessions.{Series as SeriesTold, no_series, series_by_end}
use Rattle.host_requests.specs.declared.end.End.{End}
use Rattle.host_requests.specs.declared.end.How.{How}
use Rattle.host_requests.specs.declared.end.How.TheVariants.{AtResponse}
use Rattle.host_requests.specs.declared.task.Purpose.{Purpose}
use Rattle.host_requests.specs.declared.task.Purpose.TheVariants.{Housekeeping, Attempt, Abort}
use Rattle.host_requests.specs.declared.task.Task.{Task}
use Rattle.host_requests.specs.declared.task.Task.TheVariants.{Plain, NoMore, Second, Neighbours, IsFailed}
use Rattle.host_requests.specs.Events.{RequestsEvent, end_at}
use Rattle.host_requests.specs.Events.RequestsEvent.{Fails as request_fails}
use Rattle.host_node.specs.declared.attempt.AttemptEnd.{AttemptEnd}
use Rattle.host_node.specs.declared.attempt.AttemptEnd.TheVariants.{NoneRan, Again, Unanswered}
use Rattle.host_node.specs.declared.attempt.Moment.{Moment}
use Rattle.host_node.specs.declared.attempt.Moment.TheVariants.{BeforeItsTick, BetweenTicks}
use Rattle.host_node.specs.declared.attempt.Plan.{Plan}
use Rattle.host_node.specs.declared.attempt.Plan.TheVariants.{Whole, Segments, Sealed}
use Rattle.host_node.specs.declared.no_more.NoMore.TheVariants.{Unasked}
use Rattle.host_node.specs.declared.series.Series.{Series}
use Rattle.host_node.specs.declared.series.Series.TheVariants.{Idle, Due, Running}
use Rattle.host_node.specs.Facts.{NodeFacts}
use Rattle.host_node.specs.State.{NodeState, has_waiting, is_idle, is_open, is_running, is_up, needs_tick}
use Rattle.host_node.specs.Steps.{after_again, after_attempt_end, after_hold_tick, after_no_more, after_no_more_end, after_occasion, after_sign, after_sleep, after_tick, after_told, asleep, attempt_end, falls_asleep, new_series, next_due, series_over, tick_end, with_again, with_wait, without_attempt}
use Rattle.host_node.specs.Events.{after as after_node}
use Rattle.host_node.specs.Events.NodeEvent.{Joins as node_joins, Interviews as node_interviews, Cancels as node_cancels, Blocks, Starts as node_starts, Gives_segment as node_gives_segment, Gives_text as node_gives_text, Takes_nonce as node_takes_nonce, Reports, Holds, Queues_no_more as node_queues_no_more, Drops_no_more as node_drops_no_more}
use Rattle.proof_requests.specs.host_model.State.{Command, HostState, command_at, node_of}
use Rattle.proof_requests.specs.host_model.Sessions.{open_command, settings_with}
use Rattle.proof_requests.specs.host_model.Ends.{PartEnd, Good, Passed_over, Bad, asleep_entry, attempt_entries, end_entries, end_entries_if, failed_entry, neighbours_entry, part_end, part_entries, task_entries}
use Rattle.proof_requests.specs.host_model.Facts.{HostFacts, IsCommandOf}
use Rattle.proof_requests.specs.host_model.After.{gives_up, is_full, is_held, line_ticked, node_for, requests_do}
use Rattle.proof_requests.specs.host_model.Events.{HostEvent, Accepts, Cancels, Joins, Hears, Requests_do, Interviews, Works, Finishes, Offers, Gives, Takes_nonce, Notifies, Resends, Line_ticks, Node_ticks, Queues_no_more, Drops_no_more, Starts, Gives_text, Gives_segment, Begins, Begin_unkept}
use Rattle.proof_requests.specs.host_model.May.{IsFinal, May}
use Rattle.proof_requests.specs.host_model.Outs.{dropped_if, ended_of, failing_entries, held_entries, noted, outs, request_entries, stored_entries}
use Rattle.proof_requests.specs.host_model.Did.{one_if}
use Rattle.proof_work.specs.proof_host.Entries.{notes_of}
use Rattle.proof_work.specs.Work.{told_for}
use Rattle.proof_attempts.specs.Series.{IsSeries, again_ticked}
use Rattle.proof_attempts.proofs.Doings.{did, does_at, end_does, failing_does, held_does, part_does, purpose_does, task_does}
use Rattle.proof_attempts.proofs.KeptAwake.{ending_of, opened_command}
use Rattle.proof_attempts.proofs.Nodes.{AtIs, EndIs, answer_notes, copy_notes, end_is, ends_at, ends_by, notes_noted, ran}
use Rattle.proof_attempts.proofs.Opening.{OpenLast, open_last}
use Rattle.proof_attempts.proofs.Releasing.{not_last, opens}
use Rattle.proof_attempts.proofs.SeriesSteps.{busy, finishes, gives_up as gives_up_between, gives_up_before, goes_again}
use Rattle.proof_attempts.proofs.SeriesTold.{end_step}

-- the last session of the node carries the command
abbrev pub lasts_of : NodeState → ℕ → Bool
lasts_of s number = list_any (λ command. command == number) (last_of s.book.commands)

-- a node as it is, or as its tick leaves its wait for another series
abbrev pub view : Bool → NodeState → NodeState
view true s = again_ticked s
view false s = s

-- ---- nodes of one series

pub record Same (s t : NodeState) : Type 0 where
  pub idle : is_idle t.series ≡ is_idle s.series
  pub wait : t.again_wait ≡ s.again_wait

pub same_back : (s t : NodeState) → Same s t → Same t s
same_back s t same = record { idle = sym same.idle; wait = sym same.wait }

same_on : (r s t : NodeState) → Same r s → Same s t → Same r t
same_on r s t first later = record { idle = later.idle ∙ first.idle; wait = later.wait ∙ first.wait }

pub same_series : (told : SeriesTold) (s t : NodeState) (now : ℕ) → Same s t → IsSeries told s now → IsSeries told t now
same_series told s t now same tie = record {
  runs = tie.runs ∙ ap not (sym same.idle);
  again = tie.again ∙ ap (λ (k : ℕ). if k == 0 then [] else (now + k) ∷ []) (sym same.wait);
}

same_if : (b : Bool) (x y p q : NodeState) → Same x p → Same y q → Same (if b then x else y) (if b then p else q)
same_if true x y p q one other = one
same_if false x y p q one other = other

same_either : (b : Bool) (s x y : NodeState) → Same s x → Same s y → Same s (if b then x else y)
same_either true s x y one other = one
same_either false s x y one other = other

-- a node without a wait is left so by its tick
pub busy_view : (s : NodeState) → s.again_wait ≡ 0 → Same s (again_ticked s)
busy_view s none =
    let held = after_hold_tick s in
    let less : s.again_wait - 1 ≡ s.again_wait = omega (arith, none) in
    subst (λ (b : Bool). Same s (if b then after_again (with_again held 0) else with_again held (s.again_wait - 1))) (sym (ap (λ (k : ℕ). k == 1) none)) (record { idle = refl; wait = less })

-- what changes neither its wait nor what decides on another series
view_by : (b w o : Bool) (anew over low other_anew other_over other_low : NodeState) → Same anew other_anew → Same over other_over → Same low other_low
    → Same (if b then (if w then (if o then anew else over) else over) else low) (if b then (if w then (if o then other_anew else other_over) else other_over) else other_low)
view_by b w o anew over low other_anew other_over other_low first second third =
    same_if b (if w then (if o then anew else over) else over) low (if w then (if o then other_anew else other_over) else other_over) other_low
    (same_if w (if o then anew else over) over (if o then other_anew else other_over) other_over (same_if o anew over other_anew other_over first second) second) third

as_is : (s t : NodeState) → is_idle t.series ≡ is_idle s.series → t.again_wait ≡ s.again_wait → Same s t
as_is s t idle wait = record { idle = idle; wait = wait }

sign_view : (s : NodeState) (ticks : ℕ) → Same (again_ticked s) (again_ticked (with_wait s ticks))
sign_view s ticks =
    let over : NodeState = with_again (after_hold_tick s) 0 in
    let later : NodeState = with_again (after_hold_tick (with_wait s ticks)) 0 in
    view_by (s.again_wait == 1) (has_waiting over) (is_open over && is_up over && is_idle over.series) (new_series over) over (with_again (after_hold_tick s) (s.again_wait - 1))
    (new_series later) later (with_again (after_hold_tick (with_wait s ticks)) (s.again_wait - 1)) (as_is _ _ refl refl) (as_is _ _ refl refl) (as_is _ _ refl refl)

untold_view : (s : NodeState) → Same (again_ticked s) (again_ticked (after_no_more s Unasked))
untold_view s =
    let over : NodeState = with_again (after_hold_tick s) 0 in
    let later : NodeState = with_again (after_hold_tick (after_no_more s Unasked)) 0 in
    view_by (s.again_wait == 1) (has_waiting over) (is_open over && is_up over && is_idle over.series) (new_series over) over (with_again (after_hold_tick s) (s.again_wait - 1))
    (new_series later) later (with_again (after_hold_tick (after_no_more s Unasked)) (s.again_wait - 1)) (as_is _ _ refl refl) (as_is _ _ refl refl) (as_is _ _ refl refl)

-- no other series is waited for with a command
abbrev pub WaitsNot : NodeState → Type 0
WaitsNot s = (s.again_wait ≡ 0) ⊎ (has_waiting s ≡ false)

asleep_view : (s : NodeState) → WaitsNot s → Same (again_ticked s) (again_ticked (asleep (after_no_more s Unasked)))
asleep_view s (inl none) =
    let later : NodeState = asleep (after_no_more s Unasked) in
    same_on (again_ticked s) s (again_ticked later) (same_back s (again_ticked s) (busy_view s none)) (same_on s later (again_ticked later) (as_is s later refl refl) (busy_view later none))
asleep_view s (inr none) =
    let held = after_hold_tick s in
    let slept = after_hold_tick (asleep (after_no_more s Unasked)) in
    subst (λ (w : Bool). Same (if s.again_wait == 1 then (if w then after_occasion (with_again held 0) else with_again held 0) else with_again held (s.again_wait - 1))
    (if s.again_wait == 1 then (if w then after_occasion (with_again slept 0) else with_again slept 0) else with_again slept (s.again_wait - 1))) (sym none)
    (same_if (s.again_wait == 1) (with_again held 0) (with_again held (s.again_wait - 1)) (with_again slept 0) (with_again slept (s.again_wait - 1)) (as_is _ _ refl refl) (as_is _ _ refl refl))

told_by : (listens : Bool) (s : NodeState) → WaitsNot s → Same (again_ticked s) (again_ticked (if listens then after_no_more s Unasked else asleep (after_no_more s Unasked)))
told_by true s waits = untold_view s
told_by false s waits = asleep_view s waits

-- it was told that there is no more for it
told_view : (ahead : Bool) (s : NodeState) → (ahead ≡ true → WaitsNot s) → Same (view ahead s) (view ahead (after_no_more_end s))
told_view true s waits = told_by s.listens s (waits refl)
told_view false s waits = same_either s.listens s (after_no_more s Unasked) (asleep (after_no_more s Unasked)) (as_is _ _ refl refl) (as_is _ _ refl refl)

signed_view : (ahead : Bool) (s : NodeState) → Same (view ahead s) (view ahead (after_sign s))
signed_view true s = by (is_running s.series)
  where
    by : (b : Bool) → Same (again_ticked s) (again_ticked (if b then with_wait s 100 else s))
    by true = sign_view s 100
    by false = as_is _ _ refl refl
signed_view false s = same_either (is_running s.series) s (with_wait s 100) s (as_is _ _ refl refl) (as_is _ _ refl refl)

-- ---- the end of an attempt

abbrev by_attempt : AttemptEnd → Bool → ℕ → SeriesTold → SeriesTold
by_attempt end ends now told = if ends_at end ends then series_by_end ended.Unanswered now else told

idle_runs : (s : Series) → is_running s ≡ true → is_idle s ≡ false
idle_runs Idle runs = absurd (let bad : false ≡ true = runs in cc)
idle_runs Due runs = refl
idle_runs Running runs = refl

module _ (told : SeriesTold) (s : NodeState) (now : ℕ) where
  abbrev Ended : Bool → Moment → Bool → Bool → Bool → Type 0
  Ended ahead moment runs few ends =
      IsSeries (by_attempt (if runs then (if few then Again else Unanswered (falls_asleep s)) else NoneRan) ends now told)
      (view ahead (if runs then (if few then next_due (without_attempt s) (s.book.attempts + 1) else after_sleep (series_over (without_attempt s) (s.book.attempts + 1) moment)) else s)) now

  again_by : (ahead : Bool) → (ahead ≡ true → NodeFacts s) → is_running s.series ≡ true → IsSeries told (view ahead s) now → IsSeries told (view ahead (next_due (without_attempt s) (s.book.attempts + 1))) now
  again_by false facts runs tie = goes_again told s now (s.book.attempts + 1) (idle_runs s.series runs) tie
  again_by true facts runs tie =
      let idle = idle_runs s.series runs in
      let none = busy s (facts refl) idle in
      let later : NodeState = next_due (without_attempt s) (s.book.attempts + 1) in
      same_series told later (again_ticked later) now (busy_view later none)
      (goes_again told s now (s.book.attempts + 1) idle (same_series told (again_ticked s) s now (same_back s (again_ticked s) (busy_view s none)) tie))

  over_by : (ahead : Bool) → IsSeries (series_by_end ended.Unanswered now) (view ahead (after_sleep (series_over (without_attempt s) (s.book.attempts + 1) (if ahead then BeforeItsTick else BetweenTicks)))) now
  over_by true = gives_up_before s.listens (without_attempt s) now (s.book.attempts + 1) refl
  over_by false = gives_up_between s.listens (without_attempt s) now (s.book.attempts + 1) refl

  ended_by : (ahead runs few ends : Bool) → (ahead ≡ true → NodeFacts s) → is_running s.series ≡ runs → (runs ≡ true → ends ≡ true) → IsSeries told (view ahead s) now → Ended ahead (if ahead then BeforeItsTick else BetweenTicks) runs few ends
  ended_by ahead false few ends facts is so tie = tie
  ended_by ahead true true ends facts is so tie = again_by ahead facts is tie
  ended_by ahead true false ends facts is so tie =
      subst (λ (b : Bool). IsSeries (if b then series_by_end ended.Unanswered now else told)
      (view ahead (after_sleep (series_over (without_attempt s) (s.book.attempts + 1) (if ahead then BeforeItsTick else BetweenTicks)))) now) (sym (so refl)) (over_by ahead)

  pub attempt_goes : (ahead ends : Bool) → (ahead ≡ true → NodeFacts s) → (is_running s.series ≡ true → ends ≡ true) → IsSeries told (view ahead s) now
      → IsSeries (by_attempt (attempt_end s) ends now told) (view ahead (after_attempt_end s (if ahead then BeforeItsTick else BetweenTicks))) now
  attempt_goes ahead ends facts so tie = ended_by ahead (is_running s.series) (nat_lt (s.book.attempts + 1) 3) ends facts refl so tie

-- ---- whose command it is

pub opened_by : (s : NodeState) → NodeFacts s → is_running s.series ≡ true → ((open_session s.book ≡ None) × (open_command s ≡ None)) ⊎ OpenLast s → ends_by (lasts_of s) (open_command s) ≡ true
opened_by s facts runs (inl none) = absurd (let bad : false ≡ true = subst IsSome none.0 (opens s.series s facts.series runs) in cc)
opened_by s facts runs (inr at) =
    ap (λ (o : Option ℕ). ends_by (lasts_of s) o) at.opened ∙ ap (λ (l : List ℕ). list_any (λ command. command == at.command) l) at.last ∙ ap (λ (b : Bool). b || false) (eq-eqb at.command at.command refl)

pub others_by : (commands : List Command) (k n : ℕ) (s t : NodeState) → (k ≡ n → ⊥) → All (IsCommandOf commands k) s.book.commands → All (IsCommandOf commands n) t.book.commands
    → ((open_session s.book ≡ None) × (open_command s ≡ None)) ⊎ OpenLast s → ends_by (lasts_of t) (open_command s) ≡ false
others_by commands k n s t differs own other (inl none) = ap (λ (o : Option ℕ). ends_by (lasts_of t) o) none.1
others_by commands k n s t differs own other (inr at) =
    let all : AllByRecursion (IsCommandOf commands k) (at.front ++ at.command ∷ [])
    = subst (λ (l : List ℕ). AllByRecursion (IsCommandOf commands k) l) at.are (recursion_from_All (IsCommandOf commands k) s.book.commands own) in
    let one = (all-right (IsCommandOf commands k) at.front (at.command ∷ []) all).0 in
    ap (λ (o : Option ℕ). ends_by (lasts_of t) o) at.opened ∙ not_last commands k n at.command t.book.commands differs one (recursion_from_All (IsCommandOf commands n) t.book.commands other)

-- ---- what is told

asleep_still : (last : ℕ → Bool) (now : ℕ) (told : SeriesTold) (fell : Bool) (k : ℕ) → folded (end_step last now) told (asleep_entry fell k) ≡ told
asleep_still last now told true k = refl
asleep_still last now told false k = refl

attempt_told : (last : ℕ → Bool) (now : ℕ) (told : SeriesTold) (k : ℕ) (end : AttemptEnd) (command : Option ℕ)
    → folded (end_step last now) told (attempt_entries k end command) ≡ by_attempt end (ends_by last command) now told
attempt_told last now told k NoneRan command = refl
attempt_told last now told k Again command = refl
attempt_told last now told k (Unanswered fell) None = asleep_still last now told fell k
attempt_told last now told k (Unanswered fell) (Some command) = asleep_still last now (if last command then series_by_end ended.Unanswered now else told) fell k

no_attempt : (end : AttemptEnd) (ends : Bool) (now : ℕ) (told : SeriesTold) → ends ≡ false → by_attempt end ends now told ≡ told
no_attempt NoneRan ends now told none = refl
no_attempt Again ends now told none = refl
no_attempt (Unanswered fell) ends now told none = ap (λ (b : Bool). if b then series_by_end ended.Unanswered now else told) none

-- ---- of a host

module _ (h : HostState) (n : ℕ) (now : ℕ) (facts : HostFacts h) where
  abbrev Ends : SeriesTold → List Entry → SeriesTold
  Ends told entries = folded (end_step (lasts_of (node_of h n)) now) told entries

  attempts_by : (k : ℕ) (told : SeriesTold) (ahead : Bool) → IsSeries told (view ahead (node_of h n)) now
      → IsSeries (Ends told (attempt_entries k (attempt_end (node_of h k)) (open_command (node_of h k))))
      (view ahead (if k == n then after_attempt_end (node_of h n) (if ahead then BeforeItsTick else BetweenTicks) else node_of h n)) now
  attempts_by k told ahead tie = elim (cases_eq k n) [
    | inl same ↦
        let s = node_of h n in
        let own : IsSeries (Ends told (attempt_entries n (attempt_end s) (open_command s))) (view ahead (after_attempt_end s (if ahead then BeforeItsTick else BetweenTicks))) now
        = subst (λ (t : SeriesTold). IsSeries t (view ahead (after_attempt_end s (if ahead then BeforeItsTick else BetweenTicks))) now)
        (sym (attempt_told (lasts_of s) now told n (attempt_end s) (open_command s)))
        (attempt_goes told s now ahead (ends_by (lasts_of s) (open_command s)) (λ is. facts.nodes.facts n) (λ runs. opened_by s (facts.nodes.facts n) runs (open_last s)) tie) in
        subst (λ (m : ℕ). IsSeries (Ends told (attempt_entries m (attempt_end (node_of h m)) (open_command (node_of h m))))
        (view ahead (if m == n then after_attempt_end s (if ahead then BeforeItsTick else BetweenTicks) else s)) now) (sym same)
        (subst (λ (b : Bool). IsSeries (Ends told (attempt_entries n (attempt_end s) (open_command s)))
        (view ahead (if b then after_attempt_end s (if ahead then BeforeItsTick else BetweenTicks) else s)) now) (sym (eq-eqb n n refl)) own)
    | inr differs ↦
        let s = node_of h n in
        let k_s = node_of h k in
        let none = others_by h.commands k n k_s s differs (facts.owns k).sessions (facts.owns n).sessions (open_last k_s) in
        subst (λ (b : Bool). IsSeries (Ends told (attempt_entries k (attempt_end k_s) (open_command k_s)))
        (view ahead (if b then after_attempt_end s (if ahead then BeforeItsTick else BetweenTicks) else s)) now) (sym (ne_eqb k n differs))
        (subst (λ (t : SeriesTold). IsSeries t (view ahead s) now)
        (sym (attempt_told (lasts_of s) now told k (attempt_end k_s) (open_command k_s) ∙ no_attempt (attempt_end k_s) (ends_by (lasts_of s) (open_command k_s)) now told none)) tie)
  ]

  set_by : (k : ℕ) (told : SeriesTold) (ahead : Bool) (state : NodeState) → (k ≡ n → Same (view ahead (node_of h n)) (view ahead state)) → IsSeries told (view ahead (node_of h n)) now
      → IsSeries told (view ahead (if k == n then state else node_of h n)) now
  set_by k told ahead state same tie = by (k == n) refl
    where
      by : (b : Bool) → (k == n) ≡ b → IsSeries told (view ahead (if b then state else node_of h n)) now
      by true is = same_series told (view ahead (node_of h n)) (view ahead state) now (same (eqb-true k n is)) tie
      by false is = tie

  part_by : (k : ℕ) (end : PartEnd) (told : SeriesTold) (ahead : Bool) → IsSeries told (view ahead (node_of h n)) now
      → IsSeries (Ends told (part_entries h k end)) (view ahead (does_at n (node_of h n) (part_does k end (if ahead then BeforeItsTick else BetweenTicks)))) now
  part_by k Good told ahead tie = set_by k told ahead (after_sign (node_of h n)) (λ same. signed_view ahead (node_of h n)) tie
  part_by k Passed_over told ahead tie = tie
  part_by k Bad told ahead tie = attempts_by k told ahead tie

  neighbours_by : (k : ℕ) (how : How) (told : SeriesTold) → Ends told (neighbours_entry k how) ≡ told
  neighbours_by k (AtResponse (GetRoutingInfo nodes)) told = refl
  neighbours_by k _ told = refl

  failed_by : (k : ℕ) (how : How) (told : SeriesTold) → Ends told (failed_entry k how) ≡ told
  failed_by k (AtResponse (failed_node failed)) told = refl
  failed_by k _ told = refl

  still : (entries : List Entry) (told : SeriesTold) (s : NodeState) → Ends told entries ≡ told → IsSeries told s now → IsSeries (Ends told entries) s now
  still entries told s same tie = subst (λ (t : SeriesTold). IsSeries t s now) (sym same) tie

  -- where it is told that there is no more for it
  abbrev pub WaitsFor : Purpose → Type 0
  WaitsFor purpose = told_for n purpose ≡ 1 → WaitsNot (node_of h n)

  task_by : (task : Task) (how : How) (told : SeriesTold) (ahead : Bool) → (ahead ≡ true → WaitsFor (Housekeeping task)) → IsSeries told (view ahead (node_of h n)) now
      → IsSeries (Ends told (task_entries h task how)) (view ahead (does_at n (node_of h n) (task_does task))) now
  task_by (NoMore k) how told ahead waits tie =
      still (asleep_entry (falls_asleep (node_of h k)) k) told (view ahead (if k == n then after_no_more_end (node_of h n) else node_of h n)) (asleep_still (lasts_of (node_of h n)) now told (falls_asleep (node_of h k)) k)
      (set_by k told ahead (after_no_more_end (node_of h n)) (λ same. told_view ahead (node_of h n) (λ is. waits is (ap one_if (eq-eqb k n same)))) tie)
  task_by (Plain k payload) how told ahead waits tie = tie
  task_by (Second k) how told ahead waits tie = tie
  task_by (Neighbours k) how told ahead waits tie = still (neighbours_entry k how) told (view ahead (node_of h n)) (neighbours_by k how told) tie
  task_by (IsFailed k) how told ahead waits tie = still (failed_entry k how) told (view ahead (node_of h n)) (failed_by k how told) tie
  task_by task how told ahead waits tie = tie

  purpose_by : (purpose : Purpose) (how : How) (told : SeriesTold) (ahead : Bool) → (ahead ≡ true → WaitsFor purpose) → IsSeries told (view ahead (node_of h n)) now
      → IsSeries (Ends told (end_entries h (record { purpose = purpose; how = how }))) (view ahead (does_at n (node_of h n) (purpose_does purpose how (if ahead then BeforeItsTick else BetweenTicks)))) now
  purpose_by (Attempt k more payload) how told ahead waits tie = part_by k (part_end more how) told ahead tie
  purpose_by (Housekeeping task) how told ahead waits tie = task_by task how told ahead waits tie
  purpose_by Abort how told ahead waits tie = tie

  pub end_by : (end : Option End) (told : SeriesTold) (ahead : Bool) → (ahead ≡ true → EndIs WaitsFor end) → IsSeries told (view ahead (node_of h n)) now
      → IsSeries (Ends told (end_entries_if h end)) (view ahead (does_at n (node_of h n) (end_does end (if ahead then BeforeItsTick else BetweenTicks)))) now
  end_by None told ahead waits tie = tie
  end_by (Some end) told ahead waits tie = purpose_by end.purpose end.how told ahead waits tie

-- ---- between ticks

-- no session begins, no node wakes, no command is accepted, and no part of a tick comes
abbrev pub IsElsewhere : HostEvent → Type 0
IsElsewhere (Accepts order carriage) = ⊥
IsElsewhere (Notifies k) = ⊥
IsElsewhere (Begins k session command) = ⊥
IsElsewhere Line_ticks = ⊥
IsElsewhere (Node_ticks k) = ⊥
IsElsewhere (Requests_do event moment) = moment ≡ BetweenTicks
IsElsewhere event = Unit {0}

requests_facts : (h : HostState) (event : RequestsEvent) → HostFacts h → HostFacts (requests_do h event)
requests_facts h event facts = record { nodes = facts.nodes; commands = facts.commands; owns = facts.owns; nonces = facts.nonces; served = facts.served }

line_facts : (h : HostState) → HostFacts h → HostFacts (requests_do (line_ticked h) request_fails)
line_facts h facts = record { nodes = facts.nodes; commands = facts.commands; owns = facts.owns; nonces = facts.nonces; served = facts.served }

start_same : (s : NodeState) (plan : Plan) → s.series ≡ Due → Same s (after_node s (node_starts plan))
start_same s Whole due = as_is _ _ (sym (ap is_idle due)) refl
start_same s (Segments count) due = as_is _ _ (sym (ap is_idle due)) refl
start_same s (Sealed plain) due = as_is _ _ (sym (ap is_idle due)) refl

works_same : (s : NodeState) (t : Told) → t ≡ Working → Same s (after_told s 1 t)
works_same s t is = subst (λ (it : Told). Same s (after_told s 1 it)) (sym is) (signed_view false s)

stored_still : (last : ℕ → Bool) (now : ℕ) (told : SeriesTold) (k : ℕ) (settings : List Setting) (held : Bool)
    → folded (end_step last now) told (stored_entries k settings ++ held_entries k held) ≡ told
stored_still last now told k [] true = refl
stored_still last now told k [] false = refl
stored_still last now told k (one ∷ settings) held = stored_still last now told k settings held

final_told : (now : ℕ) (status : FinalStatus) → series_by_end (ended_of status) now ≡ no_series
final_told now final.NoSupport = refl
final_told now final.Fail = refl
final_told now final.Success = refl

dropped_still : (last : ℕ → Bool) (now : ℕ) (told : SeriesTold) (full : Bool) (k : ℕ) → folded (end_step last now) told (notes_of (noted (dropped_if full k))) ≡ told
dropped_still last now told true k = refl
dropped_still last now told false k = refl

module _ (h : HostState) (n : ℕ) (now : ℕ) (facts : HostFacts h) (told : SeriesTold) where
  abbrev Between : HostEvent → Type 0
  Between event = IsSeries (folded (end_step (lasts_of (node_of h n)) now) told (notes_of (outs h event))) (does_at n (node_of h n) (did h event)) now

  holds_by : (k : ℕ) (held : Bool) (s : SeriesTold) (t : NodeState) → IsSeries s t now → IsSeries s (does_at n t (held_does k held)) now
  holds_by k true s t tie = same_series s t (if k == n then after_node t Holds else t) now (same_either (k == n) t (after_node t Holds) t (as_is _ _ refl refl) (as_is _ _ refl refl)) tie
  holds_by k false s t tie = tie

  finished_by : (k session id command : ℕ) (status : FinalStatus) → IsFinal h k session id command status → IsSeries told (node_of h n) now
      → IsSeries (if lasts_of (node_of h n) command then series_by_end (ended_of status) now else told) (if k == n then after_node (node_of h n) (Reports id (status_byte status)) else node_of h n) now
  finished_by k session id command status it tie = elim (cases_eq k n) [
    | inl same ↦
        let s = node_of h n in
        let byte = status_byte status in
        let mine : IsFinal h n session id command status = subst (λ (m : ℕ). IsFinal h m session id command status) same it in
        let last : lasts_of s command ≡ true
        = ap (λ (l : List ℕ). list_any (λ one. one == command) l) (ending_of h n session id command status mine).last ∙ ap (λ (b : Bool). b || false) (eq-eqb command command refl) in
        subst (λ (b : Bool). IsSeries (if b then series_by_end (ended_of status) now else told) (if k == n then after_node s (Reports id byte) else s) now) (sym last)
        (subst (λ (t : SeriesTold). IsSeries t (if k == n then after_node s (Reports id byte) else s) now) (sym (final_told now status))
        (subst (λ (b : Bool). IsSeries no_series (if b then after_node s (Reports id byte) else s) now) (sym (eq-eqb k n same))
        (subst (λ (t : Told). IsSeries no_series (after_told s byte t) now) (sym mine.told) (finishes s now byte))))
    | inr differs ↦
        let s = node_of h n in
        let other : lasts_of s command ≡ false
        = sym (ap (λ (o : Option ℕ). ends_by (lasts_of s) o) (opened_command h k session id command status it))
        ∙ others_by h.commands k n (node_of h k) s differs (facts.owns k).sessions (facts.owns n).sessions (open_last (node_of h k)) in
        subst (λ (b : Bool). IsSeries (if b then series_by_end (ended_of status) now else told) (if k == n then after_node s (Reports id (status_byte status)) else s) now) (sym other)
        (subst (λ (b : Bool). IsSeries told (if b then after_node s (Reports id (status_byte status)) else s) now) (sym (ne_eqb k n differs)) tie)
  ]

  pub between_goes : (event : HostEvent) → May h event → IsElsewhere event → IsSeries told (node_of h n) now → Between event
  between_goes (Accepts order carriage) may is tie = absurd is
  between_goes (Notifies k) may is tie = absurd is
  between_goes (Begins k session command) may is tie = absurd is
  between_goes Line_ticks may is tie = absurd is
  between_goes (Node_ticks k) may is tie = absurd is
  between_goes (Cancels command) may is tie = set_by h n now facts (node_for h command) told false (after_node (node_of h n) (node_cancels command)) (λ same. as_is _ _ refl refl) tie
  between_goes (Joins k) may is tie = set_by h n now facts k told false (after_node (node_of h n) node_joins) (λ same. as_is _ _ refl refl) tie
  between_goes (Hears item) may is tie = subst (λ (l : List Entry). IsSeries (folded (end_step (lasts_of (node_of h n)) now) told l) (node_of h n) now) (sym (answer_notes item)) tie
  between_goes (Requests_do event moment) may is tie =
      subst (λ (m : Moment). IsSeries (folded (end_step (lasts_of (node_of h n)) now) told (notes_of (noted (request_entries h event)))) (does_at n (node_of h n) (end_does (end_at h.requests event) m)) now) (sym is)
      (subst (λ (l : List Entry). IsSeries (folded (end_step (lasts_of (node_of h n)) now) told l) (does_at n (node_of h n) (end_does (end_at h.requests event) BetweenTicks)) now)
      (sym (notes_noted (request_entries h event)))
      (end_by (requests_do h event) n now (requests_facts h event facts) (end_at h.requests event) told false (λ ahead. absurd (let bad : false ≡ true = ahead in cc)) tie))
  between_goes (Interviews k listens classes update) may is tie =
      set_by h n now facts k told false (after_node (node_of h n) (node_interviews listens classes)) (λ same. as_is _ _ refl refl) tie
  between_goes (Works k id) may is tie =
      set_by h n now facts k told false (after_node (node_of h n) (Reports id 1))
      (λ same. works_same (node_of h n) (told_of (node_of h n).book id 1) (subst (λ (m : ℕ). told_of (node_of h m).book id 1 ≡ Working) same may)) tie
  between_goes (Finishes k session id command status wake_request) may is tie =
      let s = node_of h n in
      let settings : List Setting = settings_with status (command_at h.commands command) in
      let held = is_held h k wake_request in
      let first : SeriesTold = if lasts_of s command then series_by_end (ended_of status) now else told in
      let later : NodeState = if k == n then after_node s (Reports id (status_byte status)) else s in
      subst (λ (t : SeriesTold). IsSeries t (does_at n later (held_does k held)) now)
      (sym (ap (λ (l : List Entry). folded (end_step (lasts_of s) now) told l) (notes_noted (entry.Out command (ended_of status) ∷ (stored_entries k settings ++ held_entries k held)))
      ∙ stored_still (lasts_of s) now first k settings held))
      (holds_by k held first later (finished_by k session id command status may tie))
  between_goes (Offers k) may is tie = subst (λ (t : SeriesTold). IsSeries t (node_of h n) now) (sym (dropped_still (lasts_of (node_of h n)) now told (is_full h) k)) tie
  between_goes (Gives k drawn) may is tie = subst (λ (t : SeriesTold). IsSeries t (node_of h n) now) (sym (dropped_still (lasts_of (node_of h n)) now told (is_full h) k)) tie
  between_goes (Resends k payload) may is tie = subst (λ (t : SeriesTold). IsSeries t (node_of h n) now) (sym (dropped_still (lasts_of (node_of h n)) now told (is_full h) k)) tie
  between_goes (Takes_nonce k seen text) may is tie = set_by h n now facts k told false (after_node (node_of h n) (node_takes_nonce seen text)) (λ same. as_is _ _ refl refl) tie
  between_goes (Queues_no_more k) may is tie = set_by h n now facts k told false (after_node (node_of h n) node_queues_no_more) (λ same. as_is _ _ refl refl) tie
  between_goes (Drops_no_more k) may is tie = set_by h n now facts k told false (after_node (node_of h n) node_drops_no_more) (λ same. as_is _ _ refl refl) tie
  between_goes (Starts k plan more payload) may is tie =
      set_by h n now facts k told false (after_node (node_of h n) (node_starts plan)) (λ same. start_same (node_of h n) plan (subst (λ (m : ℕ). (node_of h m).series ≡ Due) same may.2.0)) tie
  between_goes (Gives_text k payload) may is tie = set_by h n now facts k told false (after_node (node_of h n) node_gives_text) (λ same. as_is _ _ refl refl) tie
  between_goes (Gives_segment k more payload) may is tie = set_by h n now facts k told false (after_node (node_of h n) node_gives_segment) (λ same. as_is _ _ refl refl) tie
  between_goes (Begin_unkept k) may is tie = set_by h n now facts k told false (after_node (node_of h n) Blocks) (λ same. as_is _ _ refl refl) tie
  between_goes event may is tie = tie

  -- ---- in a tick, before a node's own

  abbrev Ahead : HostEvent → Type 0
  Ahead event = IsSeries (folded (end_step (lasts_of (node_of h n)) now) told (notes_of (outs h event))) (again_ticked (does_at n (node_of h n) (did h event))) now

  pub request_goes : (event : RequestsEvent) → AtIs (WaitsFor h n now facts) h.requests.under_way → IsSeries told (again_ticked (node_of h n)) now → Ahead (Requests_do event BeforeItsTick)
  request_goes event waits tie =
      subst (λ (l : List Entry). IsSeries (folded (end_step (lasts_of (node_of h n)) now) told l) (again_ticked (does_at n (node_of h n) (end_does (end_at h.requests event) BeforeItsTick))) now)
      (sym (notes_noted (request_entries h event)))
      (end_by (requests_do h event) n now (requests_facts h event facts) (end_at h.requests event) told true (λ ahead. end_is (WaitsFor h n now facts) h.requests event waits) tie)

  failing_goes : (gives : Bool) → AtIs (WaitsFor h n now facts) h.requests.under_way → IsSeries told (again_ticked (node_of h n)) now
      → IsSeries (folded (end_step (lasts_of (node_of h n)) now) told (failing_entries gives (line_ticked h))) (again_ticked (does_at n (node_of h n) (failing_does gives h))) now
  failing_goes true waits tie =
      end_by (requests_do (line_ticked h) request_fails) n now (line_facts h facts) (end_at h.requests request_fails) told true (λ ahead. end_is (WaitsFor h n now facts) h.requests request_fails waits) tie
  failing_goes false waits tie = tie

  pub line_goes : AtIs (WaitsFor h n now facts) h.requests.under_way → IsSeries told (again_ticked (node_of h n)) now → Ahead Line_ticks
  line_goes waits tie =
      let gives = gives_up h.side.turn (tick_side h.side).turn in
      subst (λ (l : List Entry). IsSeries (folded (end_step (lasts_of (node_of h n)) now) told l) (again_ticked (does_at n (node_of h n) (failing_does gives h))) now)
      (sym (copy_notes (copy_due h.side.turn) (failing_entries gives (line_ticked h)))) (failing_goes gives waits tie)

  -- ---- in its own

  tick_by : (b : Bool) (ends : Bool) (x : NodeState) → (is_running x.series ≡ true → ends ≡ true) → IsSeries told x now
      → IsSeries (by_attempt (if b then attempt_end x else NoneRan) ends now told) (if b then after_attempt_end x BetweenTicks else with_wait x (x.attempt_wait - 1)) now
  tick_by true ends x so tie = attempt_goes told x now false ends (λ ahead. absurd (let bad : false ≡ true = ahead in cc)) so tie
  tick_by false ends x so tie = same_series told x (with_wait x (x.attempt_wait - 1)) now (as_is _ _ refl refl) tie

  own_tick : IsSeries told (again_ticked (node_of h n)) now
      → IsSeries (by_attempt (tick_end (node_of h n)) (ends_by (lasts_of (node_of h n)) (open_command (node_of h n))) now told) (after_tick (node_of h n)) now
  own_tick tie =
      let s = node_of h n in
      let x = again_ticked s in
      tick_by (x.attempt_wait == 1) (ends_by (lasts_of s) (open_command s)) x (λ runs. opened_by s (facts.nodes.facts n) (ran (after_hold_tick s) runs) (open_last s)) tie

  -- a node ticks: after it its own wait has gone on, and another is as it was
  pub node_goes : (k : ℕ) (ahead : Bool) → (k ≡ n → ahead ≡ true) → IsSeries told (view ahead (node_of h n)) now
      → IsSeries (folded (end_step (lasts_of (node_of h n)) now) told (notes_of (outs h (Node_ticks k)))) (if k == n then after_tick (node_of h n) else view ahead (node_of h n)) now
  node_goes k ahead own tie = elim (cases_eq k n) [
    | inl same ↦
        let s = node_of h n in
        let mine : IsSeries told (again_ticked s) now = subst (λ (b : Bool). IsSeries told (view b s) now) (own same) tie in
        subst (λ (m : ℕ). IsSeries (folded (end_step (lasts_of s) now) told (notes_of (noted (attempt_entries m (tick_end (node_of h m)) (open_command (node_of h m))))))
        (if m == n then after_tick s else view ahead s) now) (sym same)
        (subst (λ (b : Bool). IsSeries (folded (end_step (lasts_of s) now) told (notes_of (noted (attempt_entries n (tick_end s) (open_command s))))) (if b then after_tick s else view ahead s) now) (sym (eq-eqb n n refl))
        (subst (λ (t : SeriesTold). IsSeries t (after_tick s) now)
        (sym (ap (λ (l : List Entry). folded (end_step (lasts_of s) now) told l) (notes_noted (attempt_entries n (tick_end s) (open_command s))) ∙ attempt_told (lasts_of s) now told n (tick_end s) (open_command s)))
        (own_tick mine)))
    | inr differs ↦
        let s = node_of h n in
        let k_s = node_of h k in
        let none = others_by h.commands k n k_s s differs (facts.owns k).sessions (facts.owns n).sessions (open_last k_s) in
        subst (λ (b : Bool). IsSeries (folded (end_step (lasts_of s) now) told (notes_of (noted (attempt_entries k (tick_end k_s) (open_command k_s))))) (if b then after_tick s else view ahead s) now) (sym (ne_eqb k n differs))
        (subst (λ (t : SeriesTold). IsSeries t (view ahead s) now)
        (sym (ap (λ (l : List Entry). folded (end_step (lasts_of s) now) told l) (notes_noted (attempt_entries k (tick_end k_s) (open_command k_s)))
        ∙ attempt_told (lasts_of s) now told k (tick_end k_s) (open_command k_s) ∙ no_attempt (tick_end k_s) (ends_by (lasts_of s) (open_command k_s)) now told none)) tie)
  ]

-- a node without a wait is as its tick leaves it
pub no_wait_view : (s : NodeState) → needs_tick s ≡ false → Same s (again_ticked s)
no_wait_view s none = busy_view s (by (nat_lt 0 s.again_wait) refl)
  where
    by : (b : Bool) → nat_lt 0 s.again_wait ≡ b → s.again_wait ≡ 0
    by true is = absurd (both_ways (needs_tick s) none (or_left _ _ (or_right _ _ is)))
    by false is = let least = ltb-false 0 s.again_wait is in omega (arith, least)
