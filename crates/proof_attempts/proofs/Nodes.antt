-- Whether nodes count as awake, and how long they are held, changes with what a host puts out at each event.
use Rattle.std.proofs.Common.{◌≡◌, ℕ, ◌+◌, ◌-◌, ◌<◌, ◌==◌, ◌&&◌, Bool, true, false, if◌then◌else◌, nat_lt, List, [], ◌∷◌, ◌++◌, length, Option, Some, None, inl, inr, refl, sym, ap, ◌∙◌, subst, arith}
use Rattle.std.specs.List.{AllByRecursion}
use Rattle.std.proofs.lemmas.Bool.{cases_eq, cases_lt, eq-eqb, ne_eqb}
use Rattle.std.proofs.lemmas.List.{get_or-set_same, get_or-set_other, length-set, set_past}
use Rattle.zw_base.specs.declared.property.Setting.{Setting}
use Rattle.supervision.specs.Host.{told_of}
use Rattle.supervision.specs.declared.host_node.Told.{Told}
use Rattle.supervision.specs.declared.host_node.Told.TheVariants.{Final, Working, Old}
use Rattle.s0_session.specs.Nonces.{live_of}
use Rattle.serial_frame.specs.Frame.{FrameParts}
use Rattle.serial_frame.specs.declared.item.Item.{Item}
use Rattle.serial_frame.specs.declared.item.Item.TheVariants.{Good, Refused as refused_item}
use Rattle.serial_frame.specs.declared.item.Refusal.TheVariants.{Stray, BadLength, BadSum, BadKind, Aborted}
use Rattle.serial_frame.specs.declared.unit.Unit.TheVariants.{Ack, Nak, Can, Framed}
use Rattle.serial_link.specs.State.{copy_due, tick_side}
use Rattle.chip_functions.specs.declared.response.Response.TheVariants.{GetRoutingInfo, IsFailedNode as failed_node}
use Rattle.zw_text.specs.declared.entry.Ended.TheVariants as ended
use Rattle.zw_text.specs.declared.entry.Entry.{Entry}
use Rattle.zw_text.specs.declared.entry.Entry.TheVariants as entry
use Rattle.zw_text.specs.Transcript.{folded}
use Rattle.host_requests.specs.declared.end.End.{End}
use Rattle.host_requests.specs.declared.end.How.{How}
use Rattle.host_requests.specs.declared.end.How.TheVariants.{AtResponse, LinkFailed}
use Rattle.host_requests.specs.declared.next.Next.{Next}
use Rattle.host_requests.specs.declared.next.Next.TheVariants.{Ends, GoesOn}
use Rattle.host_requests.specs.declared.under_way.UnderWay.{UnderWay}
use Rattle.host_requests.specs.Next.{at_callback, at_response, at_sent, at_tick, at_update, end_from, end_of}
use Rattle.host_requests.specs.State.{RequestsState}
use Rattle.host_requests.specs.declared.task.Purpose.{Purpose}
use Rattle.host_requests.specs.declared.task.Purpose.TheVariants.{Housekeeping, Attempt, Abort}
use Rattle.host_requests.specs.declared.task.Task.{Task}
use Rattle.host_requests.specs.declared.task.Task.TheVariants.{Plain, NoMore, Second, Neighbours, IsFailed}
use Rattle.host_requests.specs.Events.{RequestsEvent, end_at}
use Rattle.host_requests.specs.Events.RequestsEvent.{CallsBack, Fails as request_fails, IsSent, Responds, Ticks as request_ticks, Updates}
use Rattle.host_node.specs.declared.series.Series.{Series}
use Rattle.host_node.specs.declared.attempt.Moment.{Moment}
use Rattle.host_node.specs.declared.attempt.Moment.TheVariants.{BeforeItsTick, BetweenTicks}
use Rattle.host_node.specs.declared.attempt.Plan.{Plan}
use Rattle.host_node.specs.declared.attempt.Plan.TheVariants.{Whole, Segments, Sealed}
use Rattle.host_node.specs.declared.attempt.AttemptEnd.{AttemptEnd}
use Rattle.host_node.specs.declared.attempt.AttemptEnd.TheVariants.{NoneRan, Again, Unanswered}
use Rattle.host_node.specs.declared.no_more.NoMore.TheVariants.{Unasked}
use Rattle.host_node.specs.State.{NodeState, has_waiting, is_false, is_idle, is_open, is_running, is_up, unknown}
use Rattle.host_node.specs.Steps.{after_again, after_again_tick, after_attempt_end, after_hold_tick, after_no_more, after_no_more_end, after_notification, after_occasion, after_put, after_sign, after_sleep, after_start, after_tick, after_told, asleep, attempt_end, falls_asleep, new_series, next_due, series_over, tick_end, tried_again, with_again, with_wait, without_attempt}
use Rattle.host_node.specs.Events.{after as after_node}
use Rattle.host_node.specs.Events.NodeEvent.{Reports as node_reports}
use Rattle.host_node.specs.TableState.{node_of as node_among, with_node}
use Rattle.host_keep.specs.declared.final_status.FinalStatus.{FinalStatus}
use Rattle.host_keep.specs.declared.final_status.FinalStatus.TheVariants as final
use Rattle.host_keep.specs.Status.{status_byte}
use Rattle.proof_requests.specs.host_model.State.{HostState, command_at, node_of}
use Rattle.proof_requests.specs.host_model.Sessions.{open_command, settings_with}
use Rattle.proof_requests.specs.host_model.Ends.{PartEnd, Good as part_good, Passed_over, Bad, after_end, after_end_if, after_part, after_task, asleep_entry, attempt_ended, attempt_entries, end_entries, end_entries_if, failed_entry, neighbours_entry, part_end, part_entries, task_entries}
use Rattle.proof_requests.specs.host_model.After.{after, failing_if, finishing, gives_up, giving, holding, is_full, is_held, line_ticked, node_for, offering, requests_do}
use Rattle.proof_requests.specs.host_model.Outs.{answer_to, copy_out, dropped_if, ended_of, failing_entries, held_entries, noted, outs, request_entries, stored_entries}
use Rattle.proof_requests.specs.host_model.Events.{HostEvent, Accepts, Cancels, Joins, Hears, Requests_do, Interviews, Interview_unkept, Unreads, Is_unkept, Reports_old, Works, Finishes, Offers, Gives, Spends_unread, Takes_nonce, Notifies, Resends, Hears_value, Has_no_room, Line_ticks, Node_ticks, Queues_no_more, Drops_no_more, Starts, Gives_text, Gives_segment, Begins, Begin_unkept}
use Rattle.proof_work.specs.proof_host.Entries.{notes_of}
use Rattle.proof_attempts.specs.Waking.{Follows, Waking, is_kept, is_released, one_less, sleeps, waking_before, waking_in, waking_of, waking_step, wakes}

-- ---- entries

-- none wakes by it, is held, falls asleep or is released
abbrev pub IsQuiet : Entry → Type 0
IsQuiet (entry.Awake node) = ⊥
IsQuiet (entry.Held node) = ⊥
IsQuiet (entry.Asleep node) = ⊥
IsQuiet (entry.Out command ended.Unanswered) = ⊥
IsQuiet e = Unit {0}

quiet_step : (n : ℕ) (releases : ℕ → Bool) (w : Waking) (e : Entry) → IsQuiet e → waking_step n releases w e ≡ w
quiet_step n releases w (entry.Awake node) quiet = absurd quiet
quiet_step n releases w (entry.Held node) quiet = absurd quiet
quiet_step n releases w (entry.Asleep node) quiet = absurd quiet
quiet_step n releases w (entry.Out command ended.Unanswered) quiet = absurd quiet
quiet_step n releases w e quiet = refl

pub quiet_all : (n : ℕ) (releases : ℕ → Bool) (w : Waking) (told : List Entry) → AllByRecursion IsQuiet told → folded (waking_step n releases) w told ≡ w
quiet_all n releases w [] all = refl
quiet_all n releases w (e ∷ told) all = ap (λ (v : Waking). folded (waking_step n releases) v told) (quiet_step n releases w e all.0) ∙ quiet_all n releases w told all.1

-- ---- one node

-- what changes nothing of it
either : {A : Type 0} (of : NodeState → A) (b : Bool) (one other : NodeState) (a : A) → of one ≡ a → of other ≡ a → of (if b then one else other) ≡ a
either of true one other a p q = p
either of false one other a p q = q

occasion : (n : NodeState) → waking_of (after_occasion n) ≡ waking_of n
occasion n = either waking_of (is_open n && is_up n && is_idle n.series) (new_series n) n (waking_of n) refl refl

signed : (n : NodeState) → waking_of (after_sign n) ≡ waking_of n
signed n = either waking_of (is_running n.series) (with_wait n 100) n (waking_of n) refl refl

told_same : (n : NodeState) (status : ℕ) (t : Told) → waking_of (after_told n status t) ≡ waking_of n
told_same n status (Final session) = refl
told_same n status Working = signed n
told_same n status Old = refl

module _ {A : Type 0} (of : NodeState → A) (anew : (n : NodeState) → of (new_series n) ≡ of n) (again : (n : NodeState) (ticks : ℕ) → of (with_again n ticks) ≡ of n) where
  pub again_same : (n : NodeState) → of (after_again_tick n) ≡ of n
  again_same n =
      let over : NodeState = with_again n 0 in
      either of (n.again_wait == 1) (after_again over) (with_again n (n.again_wait - 1)) (of n)
      (either of (has_waiting over) (after_occasion over) over (of n) (either of (is_open over && is_up over && is_idle over.series) (new_series over) over (of n) (anew over ∙ again n 0) (again n 0)) (again n 0))
      (again n (n.again_wait - 1))

started : (n : NodeState) (plan : Plan) → waking_of (after_start n plan) ≡ waking_of n
started n Whole = refl
started n (Segments count) = refl
started n (Sealed plain) = refl

notified : (n : NodeState) → waking_of (after_notification n) ≡ wakes (waking_of n)
notified n = occasion (record n { awake = true; no_more = tried_again n.no_more })

-- an attempt that runs as its tick counts its waits ran before
runs_by : (b : Bool) (one other : NodeState) (s : Series) → (is_running one.series ≡ true → is_running s ≡ true) → (is_running other.series ≡ true → is_running s ≡ true)
    → is_running (if b then one else other).series ≡ true → is_running s ≡ true
runs_by true one other s f g is = f is
runs_by false one other s f g is = g is

pub ran : (n : NodeState) → is_running (after_again_tick n).series ≡ true → is_running n.series ≡ true
ran n =
    let over : NodeState = with_again n 0 in
    runs_by (n.again_wait == 1) (after_again over) (with_again n (n.again_wait - 1)) n.series
    (runs_by (has_waiting over) (after_occasion over) over n.series
    (runs_by (is_open over && is_up over && is_idle over.series) (new_series over) over n.series (λ due. absurd (let bad : false ≡ true = due in cc)) (λ is. is)) (λ is. is)) (λ is. is)

-- its third attempt ends, or it was told that there is no more for it
abbrev slept : Bool → Waking → Waking
slept fell w = if fell then sleeps w else w

abbrev released : Bool → Waking → Waking
released ends w = if ends then is_released w else w

abbrev fell_at : AttemptEnd → Bool
fell_at NoneRan = false
fell_at Again = false
fell_at (Unanswered fell) = fell

abbrev pub ends_at : AttemptEnd → Bool → Bool
ends_at NoneRan ends = false
ends_at Again ends = false
ends_at (Unanswered fell) ends = ends

none_ends : (end : AttemptEnd) (ends : Bool) → ends ≡ false → ends_at end ends ≡ false
none_ends NoneRan ends none = refl
none_ends Again ends none = refl
none_ends (Unanswered fell) ends none = none

-- a command that goes unanswered, where there is one
abbrev pub ends_by : (ℕ → Bool) → Option ℕ → Bool
ends_by releases None = false
ends_by releases (Some command) = releases command

-- ---- the notes among what is put out

pub notes_noted : (told : List Entry) → notes_of (noted told) ≡ told
notes_noted [] = refl
notes_noted (e ∷ told) = ap (λ (l : List Entry). e ∷ l) (notes_noted told)

pub copy_notes : (copy : Option FrameParts) (told : List Entry) → notes_of (copy_out copy ++ noted told) ≡ told
copy_notes None told = notes_noted told
copy_notes (Some f) told = notes_noted told

pub answer_notes : (item : Item) → notes_of (answer_to item) ≡ []
answer_notes (Good (Framed f)) = refl
answer_notes (Good Ack) = refl
answer_notes (Good Nak) = refl
answer_notes (Good Can) = refl
answer_notes (refused_item (BadSum want got)) = refl
answer_notes (refused_item (BadKind x)) = refl
answer_notes (refused_item (Stray x)) = refl
answer_notes (refused_item (BadLength m)) = refl
answer_notes (refused_item Aborted) = refl

-- ---- what changes no node

pub attempt_nodes : (h : HostState) (end : AttemptEnd) (command : Option ℕ) → (attempt_ended h end command).nodes ≡ h.nodes
attempt_nodes h NoneRan command = refl
attempt_nodes h Again command = refl
attempt_nodes h (Unanswered fell) None = refl
attempt_nodes h (Unanswered fell) (Some command) = refl

pub queued_nodes : (b : Bool) (h other : HostState) → other.nodes ≡ h.nodes → (if b then h else other).nodes ≡ h.nodes
queued_nodes true h other same = refl
queued_nodes false h other same = same

pub offered_nodes : (h : HostState) (k : ℕ) (live : Option (List ℕ)) → (offering h k live).nodes ≡ h.nodes
offered_nodes h k None = refl
offered_nodes h k (Some nonce) = queued_nodes (is_full h) h _ refl

-- ---- requests that end

-- so it is of the purpose of what ends, and of what is under way
module _ (Of : Purpose → Type 0) where
  abbrev pub EndIs : Option End → Type 0
  EndIs None = Unit {0}
  EndIs (Some end) = Of end.purpose

  abbrev pub AtIs : Option UnderWay → Type 0
  AtIs None = Unit {0}
  AtIs (Some u) = Of u.purpose

  next_is : (u : UnderWay) (next : Next) → Of u.purpose → EndIs (end_of u next)
  next_is u (GoesOn progress) is = tt
  next_is u (Ends how) is = is

  from_is : (next : UnderWay → Next) (o : Option UnderWay) → AtIs o → EndIs (end_from next o)
  from_is next None is = tt
  from_is next (Some u) is = next_is u (next u) is

  pub end_is : (s : RequestsState) (event : RequestsEvent) → AtIs s.under_way → EndIs (end_at s event)
  end_is s IsSent is = from_is at_sent s.under_way is
  end_is s request_fails is = from_is (λ _. Ends LinkFailed) s.under_way is
  end_is s (Responds response) is = from_is (at_response response) s.under_way is
  end_is s (CallsBack id status) is = from_is (at_callback s.last_id id status) s.under_way is
  end_is s (Updates update) is = from_is (at_update s.first update) s.under_way is
  end_is s request_ticks is = from_is at_tick s.under_way is
  end_is s event is = tt

-- Of node n, which these of its commands release where they go unanswered. How long it is held is told exactly on this premise.
module _ (n : ℕ) (releases : ℕ → Bool) (P : Type 0) where
  as_told : (told now : Waking) → now ≡ told → Follows P told now
  as_told told now same = subst (λ (w : Waking). Follows P told w) (sym same) (record { awake = refl; hold = λ p. refl })

  -- it was told that there is no more for it, for which it was awake
  told_by : (listens awake : Bool) (s : NodeState) → s.awake ≡ awake → (P → awake ≡ true)
      → Follows P (slept (awake && is_false listens) (record { awake = awake; hold = s.hold })) (waking_of (if listens then s else asleep s))
  told_by true true s is up = record { awake = is; hold = λ p. refl }
  told_by true false s is up = record { awake = is; hold = λ p. refl }
  told_by false true s is up = record { awake = refl; hold = λ p. refl }
  told_by false false s is up = record { awake = refl; hold = λ p. absurd (let bad : false ≡ true = up p in cc) }

  told_follows : (s : NodeState) → (P → s.awake ≡ true) → Follows P (slept (falls_asleep s) (waking_of s)) (waking_of (after_sleep s))
  told_follows s up = told_by s.listens s.awake s refl up

  -- its third attempt ends: where it does not listen, it is released
  over_by : (listens awake ends : Bool) (s : NodeState) → s.awake ≡ awake → (P → ends ≡ is_false listens)
      → Follows P (slept (awake && is_false listens) (released ends (record { awake = awake; hold = s.hold }))) (waking_of (if listens then s else asleep s))
  over_by true true true s is so = record { awake = is; hold = λ p. absurd (let bad : true ≡ false = so p in cc) }
  over_by true true false s is so = record { awake = is; hold = λ p. refl }
  over_by true false true s is so = record { awake = is; hold = λ p. absurd (let bad : true ≡ false = so p in cc) }
  over_by true false false s is so = record { awake = is; hold = λ p. refl }
  over_by false true ends s is so = record { awake = refl; hold = λ p. refl }
  over_by false false true s is so = record { awake = refl; hold = λ p. refl }
  over_by false false false s is so = record { awake = refl; hold = λ p. absurd (let bad : false ≡ true = so p in cc) }

  -- an attempt ends, where one runs
  end_by : (runs few : Bool) (s over : NodeState) (attempts : ℕ) (fell ends : Bool) → (runs ≡ true → Follows P (slept fell (released ends (waking_of s))) (waking_of over))
      → Follows P (slept (fell_at (if runs then (if few then Again else Unanswered fell) else NoneRan)) (released (ends_at (if runs then (if few then Again else Unanswered fell) else NoneRan) ends) (waking_of s)))
      (waking_of (if runs then (if few then next_due (without_attempt s) attempts else over) else s))
  end_by true true s over attempts fell ends follows = as_told (waking_of s) (waking_of s) refl
  end_by true false s over attempts fell ends follows = follows refl
  end_by false few s over attempts fell ends follows = as_told (waking_of s) (waking_of s) refl

  end_follows : (s : NodeState) (moment : Moment) (ends : Bool) → (is_running s.series ≡ true → P → ends ≡ is_false s.listens)
      → Follows P (slept (fell_at (attempt_end s)) (released (ends_at (attempt_end s) ends) (waking_of s))) (waking_of (after_attempt_end s moment))
  end_follows s moment ends so =
      let over : NodeState = series_over (without_attempt s) (s.book.attempts + 1) moment in
      end_by (is_running s.series) (nat_lt (s.book.attempts + 1) 3) s (after_sleep over) (s.book.attempts + 1) (falls_asleep s) ends (λ runs. over_by s.listens s.awake ends over refl (so runs))

  -- a tick
  tick_by : (b : Bool) (s : NodeState) (ends : Bool) → (is_running s.series ≡ true → P → ends ≡ is_false s.listens)
      → Follows P (slept (fell_at (if b then attempt_end s else NoneRan)) (released (ends_at (if b then attempt_end s else NoneRan) ends) (waking_of s)))
      (waking_of (if b then after_attempt_end s BetweenTicks else with_wait s (s.attempt_wait - 1)))
  tick_by true s ends so = end_follows s BetweenTicks ends so
  tick_by false s ends so = as_told (waking_of s) (waking_of s) refl

  tick_follows : (s : NodeState) (ends : Bool) → (is_running s.series ≡ true → P → ends ≡ is_false s.listens)
      → Follows P (slept (fell_at (tick_end s)) (released (ends_at (tick_end s) ends) (one_less (waking_of s)))) (waking_of (after_tick s))
  tick_follows s ends so =
      let held = after_hold_tick s in
      let ticked = after_again_tick held in
      let hears : ticked.listens ≡ held.listens = again_same (λ m. m.listens) (λ m. refl) (λ m ticks. refl) held in
      subst (λ (w : Waking). Follows P (slept (fell_at (tick_end s)) (released (ends_at (tick_end s) ends) w)) (waking_of (after_tick s))) (again_same waking_of (λ m. refl) (λ m ticks. refl) held)
      (tick_by (ticked.attempt_wait == 1) ticked ends (λ runs p. so (ran held runs) p ∙ ap is_false (sym hears)))

  -- a command of another node does not
  stays : (ends : Bool) (w : Waking) → (P → ends ≡ false) → Follows P (released ends w) w
  stays true w none = record { awake = refl; hold = λ p. absurd (let bad : true ≡ false = none p in cc) }
  stays false w none = record { awake = refl; hold = λ p. refl }

  -- ---- a list of nodes

  -- one is so, of which this became what it was, and this is told of another
  set_both : (nodes : List NodeState) (k : ℕ) (state : NodeState) (becomes other : Waking → Waking) → n < length nodes → (k ≡ n → Follows P (becomes (waking_in nodes k)) (waking_of state))
      → ((k ≡ n → ⊥) → Follows P (other (waking_in nodes n)) (waking_in nodes n))
      → Follows P (if k == n then becomes (waking_in nodes n) else other (waking_in nodes n)) (waking_in (with_node nodes k state) n)
  set_both nodes k state becomes other within here there = elim (cases_eq n k) [
    | inl same ↦
        subst (λ (m : ℕ). Follows P (if m == n then becomes (waking_in nodes n) else other (waking_in nodes n)) (waking_in (with_node nodes m state) n)) same
        (subst (λ (b : Bool). Follows P (if b then becomes (waking_in nodes n) else other (waking_in nodes n)) (waking_in (with_node nodes n state) n)) (sym (eq-eqb n n refl))
        (subst (λ (s : NodeState). Follows P (becomes (waking_in nodes n)) (waking_of s)) (sym (get_or-set_same nodes n state (unknown 0) within))
        (subst (λ (m : ℕ). Follows P (becomes (waking_in nodes m)) (waking_of state)) (sym same) (here (sym same)))))
    | inr differs ↦
        subst (λ (b : Bool). Follows P (if b then becomes (waking_in nodes n) else other (waking_in nodes n)) (waking_in (with_node nodes k state) n)) (sym (ne_eqb k n (λ same. differs (sym same))))
        (subst (λ (w : Waking). Follows P (other (waking_in nodes n)) w) (sym (ap waking_of (get_or-set_other nodes k n state (unknown 0) differs))) (there (λ same. differs (sym same))))
  ]

  set_follows : (nodes : List NodeState) (k : ℕ) (state : NodeState) (becomes : Waking → Waking) → n < length nodes → Follows P (becomes (waking_in nodes k)) (waking_of state)
      → Follows P (if k == n then becomes (waking_in nodes n) else waking_in nodes n) (waking_in (with_node nodes k state) n)
  set_follows nodes k state becomes within follows =
      set_both nodes k state becomes (λ w. w) within (λ same. follows) (λ differs. as_told (waking_in nodes n) (waking_in nodes n) refl)

  set_same : (nodes : List NodeState) (k : ℕ) (state : NodeState) → waking_of state ≡ waking_in nodes k → waking_in (with_node nodes k state) n ≡ waking_in nodes n
  set_same nodes k state same = elim (cases_eq n k) [
    | inl is ↦ elim (cases_lt k (length nodes)) [
      | inl within ↦ ap (λ (m : ℕ). waking_in (with_node nodes k state) m) is ∙ ap waking_of (get_or-set_same nodes k state (unknown 0) within) ∙ same ∙ ap (λ (m : ℕ). waking_in nodes m) (sym is)
      | inr past ↦ ap (λ (l : List NodeState). waking_in l n) (set_past nodes k state past)
    ]
    | inr other ↦ ap waking_of (get_or-set_other nodes k n state (unknown 0) other)
  ]

  -- ---- events

  abbrev Goes : List NodeState → List NodeState → List Entry → Type 0
  Goes old new told = Follows P (folded (waking_step n releases) (waking_in old n) told) (waking_in new n)

  quiet_goes : (old new : List NodeState) (told : List Entry) → AllByRecursion IsQuiet told → waking_in new n ≡ waking_in old n → Goes old new told
  quiet_goes old new told all same = as_told (folded (waking_step n releases) (waking_in old n) told) (waking_in new n) (same ∙ sym (quiet_all n releases (waking_in old n) told all))

  noted_goes : (old new : List NodeState) (told : List Entry) → Goes old new told → Goes old new (notes_of (noted told))
  noted_goes old new told goes = subst (λ (l : List Entry). Goes old new l) (sym (notes_noted told)) goes

  unless : (b : Bool) (w : Waking) → (if b then w else w) ≡ w
  unless true w = refl
  unless false w = refl

  -- what is told of it
  slept_told : (k : ℕ) (fell : Bool) (w : Waking) → folded (waking_step n releases) w (asleep_entry fell k) ≡ (if k == n then slept fell w else w)
  slept_told k true w = refl
  slept_told k false w = sym (unless (k == n) w)

  attempt_told : (k : ℕ) (end : AttemptEnd) (command : Option ℕ) (w : Waking) → folded (waking_step n releases) w (attempt_entries k end command)
      ≡ (if k == n then slept (fell_at end) (released (ends_at end (ends_by releases command)) w) else released (ends_at end (ends_by releases command)) w)
  attempt_told k NoneRan command w = sym (unless (k == n) w)
  attempt_told k Again command w = sym (unless (k == n) w)
  attempt_told k (Unanswered fell) None w = slept_told k fell w
  attempt_told k (Unanswered fell) (Some command) w = slept_told k fell (released (releases command) w)

  -- the command of an attempt that runs releases it where it is its own and it does not listen, and that of another node does not; and it is awake while it is told that there is no more for it
  abbrev pub TellsOf : List NodeState → Purpose → Type 0
  TellsOf nodes (Housekeeping (NoMore k)) = P → (node_among nodes k).awake ≡ true
  TellsOf nodes purpose = Unit {0}

  pub record Known (nodes : List NodeState) (under_way : Option UnderWay) : Type 0 where
    pub own : (k : ℕ) → is_running (node_among nodes k).series ≡ true → k ≡ n → P → ends_by releases (open_command (node_among nodes k)) ≡ is_false (node_among nodes k).listens
    pub others : (k : ℕ) → (k ≡ n → ⊥) → P → ends_by releases (open_command (node_among nodes k)) ≡ false
    pub tells : AtIs (TellsOf nodes) under_way

  part_goes : (h : HostState) (k : ℕ) (end : PartEnd) (moment : Moment) (under_way : Option UnderWay) → Known h.nodes under_way → n < length h.nodes
      → Goes h.nodes (after_part h k end moment).nodes (part_entries h k end)
  part_goes h k part_good moment under_way known within = quiet_goes h.nodes _ [] tt (set_same h.nodes k (after_sign (node_of h k)) (signed (node_of h k)))
  part_goes h k Passed_over moment under_way known within = quiet_goes h.nodes h.nodes [] tt refl
  part_goes h k Bad moment under_way known within =
      let state = after_attempt_end (node_of h k) moment in
      let end = attempt_end (node_of h k) in
      let command = open_command (node_of h k) in
      let ends = ends_by releases command in
      let was = waking_in h.nodes n in
      subst (λ (w : Waking). Follows P w (waking_in (after_part h k Bad moment).nodes n)) (sym (attempt_told k end command was))
      (subst (λ (l : List NodeState). Follows P (if k == n then slept (fell_at end) (released (ends_at end ends) was) else released (ends_at end ends) was) (waking_in l n))
      (sym (attempt_nodes (record h { nodes = with_node h.nodes k state }) end command))
      (set_both h.nodes k state (λ w. slept (fell_at end) (released (ends_at end ends) w)) (λ w. released (ends_at end ends) w) within
      (λ same. end_follows (node_of h k) moment ends (λ runs p. known.own k runs same p))
      (λ differs. stays (ends_at end ends) was (λ p. none_ends end ends (known.others k differs p)))))

  neighbours_quiet : (k : ℕ) (how : How) → AllByRecursion IsQuiet (neighbours_entry k how)
  neighbours_quiet k (AtResponse (GetRoutingInfo nodes)) = (tt, tt)
  neighbours_quiet k _ = tt

  failed_quiet : (k : ℕ) (how : How) → AllByRecursion IsQuiet (failed_entry k how)
  failed_quiet k (AtResponse (failed_node failed)) = (tt, tt)
  failed_quiet k _ = tt

  task_goes : (h : HostState) (task : Task) (how : How) → TellsOf h.nodes (Housekeeping task) → n < length h.nodes → Goes h.nodes (after_task h task).nodes (task_entries h task how)
  task_goes h (NoMore k) how tells within =
      let state = after_no_more_end (node_of h k) in
      let fell = falls_asleep (node_of h k) in
      subst (λ (w : Waking). Follows P w (waking_in (with_node h.nodes k state) n)) (sym (slept_told k fell (waking_in h.nodes n)))
      (set_follows h.nodes k state (slept fell) within (told_follows (after_no_more (node_of h k) Unasked) tells))
  task_goes h (Plain k payload) how tells within = quiet_goes h.nodes h.nodes (task_entries h (Plain k payload) how) (tt, tt) refl
  task_goes h (Second k) how tells within = quiet_goes h.nodes h.nodes (task_entries h (Second k) how) (tt, tt) refl
  task_goes h (Neighbours k) how tells within = quiet_goes h.nodes h.nodes (neighbours_entry k how) (neighbours_quiet k how) refl
  task_goes h (IsFailed k) how tells within = quiet_goes h.nodes h.nodes (failed_entry k how) (failed_quiet k how) refl
  task_goes h _ how tells within = quiet_goes h.nodes h.nodes [] tt refl

  end_goes : (h : HostState) (purpose : Purpose) (how : How) (moment : Moment) (under_way : Option UnderWay) → Known h.nodes under_way → TellsOf h.nodes purpose → n < length h.nodes
      → Goes h.nodes (after_end h (record { purpose = purpose; how = how }) moment).nodes (end_entries h (record { purpose = purpose; how = how }))
  end_goes h (Attempt k more payload) how moment under_way known tells within = part_goes h k (part_end more how) moment under_way known within
  end_goes h (Housekeeping task) how moment under_way known tells within = task_goes h task how tells within
  end_goes h Abort how moment under_way known tells within = quiet_goes h.nodes h.nodes [] tt refl

  end_if_goes : (h : HostState) (end : Option End) (moment : Moment) (under_way : Option UnderWay) → Known h.nodes under_way → EndIs (TellsOf h.nodes) end → n < length h.nodes
      → Goes h.nodes (after_end_if h end moment).nodes (end_entries_if h end)
  end_if_goes h None moment under_way known tells within = quiet_goes h.nodes h.nodes [] tt refl
  end_if_goes h (Some end) moment under_way known tells within = end_goes h end.purpose end.how moment under_way known tells within

  failing_goes : (gives : Bool) (h : HostState) → Known h.nodes h.requests.under_way → n < length h.nodes → Goes h.nodes (failing_if gives h).nodes (failing_entries gives h)
  failing_goes true h known within =
      end_if_goes (requests_do h request_fails) (end_at h.requests request_fails) BeforeItsTick h.requests.under_way known (end_is (TellsOf h.nodes) h.requests request_fails known.tells) within
  failing_goes false h known within = quiet_goes h.nodes h.nodes [] tt refl

  dropped_quiet : (full : Bool) (k : ℕ) → AllByRecursion IsQuiet (dropped_if full k)
  dropped_quiet true k = (tt, tt)
  dropped_quiet false k = tt

  dropped_goes : (h later : HostState) (k : ℕ) → later.nodes ≡ h.nodes → Goes h.nodes later.nodes (notes_of (noted (dropped_if (is_full h) k)))
  dropped_goes h later k same =
      noted_goes h.nodes later.nodes (dropped_if (is_full h) k) (quiet_goes h.nodes later.nodes (dropped_if (is_full h) k) (dropped_quiet (is_full h) k) (ap (λ (l : List NodeState). waking_in l n) same))

  -- a session ends: values are confirmed, and its node may be held
  final_told : (command : ℕ) (status : FinalStatus) (w : Waking) → waking_step n releases w (entry.Out command (ended_of status)) ≡ w
  final_told command final.NoSupport w = refl
  final_told command final.Fail w = refl
  final_told command final.Success w = refl

  stored_told : (k : ℕ) (settings : List Setting) (more : List Entry) (w : Waking) → folded (waking_step n releases) w (stored_entries k settings ++ more) ≡ folded (waking_step n releases) w more
  stored_told k [] more w = refl
  stored_told k (setting ∷ settings) more w = stored_told k settings more w

  held_goes : (h : HostState) (k : ℕ) (held : Bool) (w : Waking) → n < length h.nodes → waking_in h.nodes n ≡ w
      → Follows P (folded (waking_step n releases) w (held_entries k held)) (waking_in (holding h k held).nodes n)
  held_goes h k false w within same = as_told w (waking_in h.nodes n) same
  held_goes h k true w within same =
      subst (λ (v : Waking). Follows P (if k == n then is_kept v else v) (waking_in (holding h k true).nodes n)) same
      (set_follows h.nodes k _ is_kept within (as_told (is_kept (waking_in h.nodes k)) (is_kept (waking_in h.nodes k)) refl))

  finished : (h : HostState) (k session id command : ℕ) (status : FinalStatus) (wake_request : Bool) → n < length (finishing h k id command status).nodes
      → Goes h.nodes (after h (Finishes k session id command status wake_request)).nodes (notes_of (outs h (Finishes k session id command status wake_request)))
  finished h k session id command status wake_request within =
      let settings = settings_with status (command_at h.commands command) in
      let held = is_held h k wake_request in
      let state = node_of h k in
      let later = (holding (finishing h k id command status) k held).nodes in
      noted_goes h.nodes later (entry.Out command (ended_of status) ∷ (stored_entries k settings ++ held_entries k held))
      (subst (λ (w : Waking). Follows P (folded (waking_step n releases) w (stored_entries k settings ++ held_entries k held)) (waking_in later n)) (sym (final_told command status (waking_in h.nodes n)))
      (subst (λ (w : Waking). Follows P w (waking_in later n)) (sym (stored_told k settings (held_entries k held) (waking_in h.nodes n)))
      (held_goes (finishing h k id command status) k held (waking_in h.nodes n) within
      (set_same h.nodes k (after_node state (node_reports id (status_byte status))) (told_same state (status_byte status) (told_of state.book id (status_byte status)))))))

  -- a tick of a node
  twice : (b : Bool) (first then_so other : Waking → Waking) (w : Waking) → (if b then then_so (if b then first w else w) else other (if b then first w else w)) ≡ (if b then then_so (first w) else other w)
  twice true first then_so other w = refl
  twice false first then_so other w = refl

  ticked : (h : HostState) (k : ℕ) → Known h.nodes h.requests.under_way → n < length h.nodes
      → Follows P (folded (waking_step n releases) (waking_before (Node_ticks k) n (waking_in h.nodes n)) (notes_of (outs h (Node_ticks k)))) (waking_in (after h (Node_ticks k)).nodes n)
  ticked h k known within =
      let state = after_tick (node_of h k) in
      let end = tick_end (node_of h k) in
      let command = open_command (node_of h k) in
      let ends = ends_by releases command in
      let was = waking_in h.nodes n in
      let now = waking_in (after h (Node_ticks k)).nodes n in
      let told_is : folded (waking_step n releases) (waking_before (Node_ticks k) n was) (notes_of (outs h (Node_ticks k)))
      ≡ (if k == n then slept (fell_at end) (released (ends_at end ends) (one_less was)) else released (ends_at end ends) was) =
      ap (λ (l : List Entry). folded (waking_step n releases) (waking_before (Node_ticks k) n was) l) (notes_noted (attempt_entries k end command))
      ∙ attempt_told k end command (waking_before (Node_ticks k) n was)
      ∙ twice (k == n) one_less (λ w. slept (fell_at end) (released (ends_at end ends) w)) (λ w. released (ends_at end ends) w) was in
      subst (λ (w : Waking). Follows P w now) (sym told_is)
      (subst (λ (l : List NodeState). Follows P (if k == n then slept (fell_at end) (released (ends_at end ends) (one_less was)) else released (ends_at end ends) was) (waking_in l n))
      (sym (attempt_nodes (record h { nodes = with_node h.nodes k state }) end command))
      (set_both h.nodes k state (λ w. slept (fell_at end) (released (ends_at end ends) (one_less w))) (λ w. released (ends_at end ends) w) within
      (λ same. tick_follows (node_of h k) ends (λ runs p. known.own k runs same p))
      (λ differs. stays (ends_at end ends) was (λ p. none_ends end ends (known.others k differs p)))))

  length-same : (nodes : List NodeState) (k : ℕ) (state : NodeState) → n < length nodes → n < length (with_node nodes k state)
  length-same nodes k state within = let same = length-set nodes k state in omega (arith, same, within)

  pub goes_on : (h : HostState) (event : HostEvent) → Known h.nodes h.requests.under_way → n < length h.nodes
      → Follows P (folded (waking_step n releases) (waking_before event n (waking_in h.nodes n)) (notes_of (outs h event))) (waking_in (after h event).nodes n)
  goes_on h (Accepts order carriage) known within =
      let put = after_put (node_of h order.node) (length h.commands + 1) in
      let puts = with_node h.nodes order.node put in
      quiet_goes h.nodes (after h (Accepts order carriage)).nodes [] tt
      (set_same puts order.node _ (occasion (node_among puts order.node)) ∙ set_same h.nodes order.node put refl)
  goes_on h (Cancels command) known within = quiet_goes h.nodes (after h (Cancels command)).nodes [] tt (set_same h.nodes (node_for h command) _ refl)
  goes_on h (Joins k) known within = quiet_goes h.nodes (after h (Joins k)).nodes [] tt (set_same h.nodes k _ refl)
  goes_on h (Hears item) known within = subst (λ (l : List Entry). Goes h.nodes h.nodes l) (sym (answer_notes item)) (quiet_goes h.nodes h.nodes [] tt refl)
  goes_on h (Requests_do event moment) known within =
      noted_goes h.nodes (after h (Requests_do event moment)).nodes (request_entries h event)
      (end_if_goes (requests_do h event) (end_at h.requests event) moment h.requests.under_way known (end_is (TellsOf h.nodes) h.requests event known.tells) within)
  goes_on h (Interviews k listens classes update) known within = quiet_goes h.nodes _ (entry.Interviewed k ∷ []) (tt, tt) (set_same h.nodes k _ refl)
  goes_on h (Interview_unkept k update) known within = quiet_goes h.nodes h.nodes (entry.Unkept k ∷ []) (tt, tt) refl
  goes_on h (Unreads k payload) known within = quiet_goes h.nodes h.nodes (entry.Unread k payload ∷ []) (tt, tt) refl
  goes_on h (Is_unkept k) known within = quiet_goes h.nodes h.nodes (entry.Unkept k ∷ []) (tt, tt) refl
  goes_on h (Reports_old k id) known within = quiet_goes h.nodes h.nodes (entry.Old k id ∷ []) (tt, tt) refl
  goes_on h (Works k id) known within = quiet_goes h.nodes _ [] tt (set_same h.nodes k _ (told_same (node_of h k) 1 (told_of (node_of h k).book id 1)))
  goes_on h (Finishes k session id command status wake_request) known within =
      finished h k session id command status wake_request (length-same h.nodes k (after_node (node_of h k) (node_reports id (status_byte status))) within)
  goes_on h (Offers k) known within = dropped_goes h (after h (Offers k)) k (offered_nodes h k (live_of h.nonces k))
  goes_on h (Gives k drawn) known within = dropped_goes h (after h (Gives k drawn)) k (offered_nodes (giving h k drawn) k (live_of (giving h k drawn).nonces k))
  goes_on h (Spends_unread k payload) known within = quiet_goes h.nodes h.nodes (entry.Unread k payload ∷ []) (tt, tt) refl
  goes_on h (Takes_nonce k seen text) known within = quiet_goes h.nodes (after h (Takes_nonce k seen text)).nodes [] tt (set_same h.nodes k _ refl)
  goes_on h (Notifies k) known within = set_follows h.nodes k (after_notification (node_of h k)) wakes within (as_told (wakes (waking_in h.nodes k)) (waking_of (after_notification (node_of h k))) (notified (node_of h k)))
  goes_on h (Resends k payload) known within = dropped_goes h (after h (Resends k payload)) k (queued_nodes (is_full h) h _ refl)
  goes_on h (Hears_value k setting) known within = quiet_goes h.nodes h.nodes (entry.Report k setting ∷ []) (tt, tt) refl
  goes_on h (Has_no_room k property) known within = quiet_goes h.nodes h.nodes (entry.Unstored k property ∷ []) (tt, tt) refl
  goes_on h Line_ticks known within =
      let gives = gives_up h.side.turn (tick_side h.side).turn in
      subst (λ (l : List Entry). Goes h.nodes (after h Line_ticks).nodes l) (sym (copy_notes (copy_due h.side.turn) (failing_entries gives (line_ticked h)))) (failing_goes gives (line_ticked h) known within)
  goes_on h (Node_ticks k) known within = ticked h k known within
  goes_on h (Queues_no_more k) known within = quiet_goes h.nodes (after h (Queues_no_more k)).nodes [] tt (set_same h.nodes k _ refl)
  goes_on h (Drops_no_more k) known within = quiet_goes h.nodes _ (entry.QueueFull k ∷ []) (tt, tt) (set_same h.nodes k _ refl)
  goes_on h (Starts k plan more payload) known within = quiet_goes h.nodes (after h (Starts k plan more payload)).nodes [] tt (set_same h.nodes k _ (started (node_of h k) plan))
  goes_on h (Gives_text k payload) known within = quiet_goes h.nodes (after h (Gives_text k payload)).nodes [] tt (set_same h.nodes k _ refl)
  goes_on h (Gives_segment k more payload) known within = quiet_goes h.nodes (after h (Gives_segment k more payload)).nodes [] tt (set_same h.nodes k _ refl)
  goes_on h (Begins k session command) known within = quiet_goes h.nodes _ (entry.Begin k session command ∷ []) (tt, tt) (set_same h.nodes k _ refl)
  goes_on h (Begin_unkept k) known within = quiet_goes h.nodes _ (entry.Unkept k ∷ []) (tt, tt) (set_same h.nodes k _ refl)
  goes_on h event known within = quiet_goes h.nodes h.nodes [] tt refl
