-- What a device answers to the message of a session, and at the end of its work.
use Rattle.std.proofs.Common.{◌≡◌, ◌≢◌, ◌≤◌, ℕ, ◌+◌, ◌-◌, ◌%◌, ◌==◌, ◌&&◌, not, nat_lt, inl, inr, Bool, true, false, if◌then◌else◌, Option, Some, None, List, length, refl, sym, ap, ◌∙◌, subst, arith}
use Rattle.std.specs.Option.{option_map, option_to_list}
use Rattle.std.proofs.lemmas.Bool.{eq-eqb, eqb-true}
use Rattle.std.proofs.lemmas.Bool.Decides.{nat_tests}
use Rattle.zw_base.specs.declared.property.Setting.{Setting}
use Rattle.zw_base.specs.declared.order.Order.{Order}
use Rattle.supervision.specs.Session.{wire_id}
use Rattle.supervision.specs.Device.{Taken, is_new, is_again, heard_of}
use Rattle.supervision.specs.declared.session.TheConstants.{NO_SUPPORT, WORKING, FAIL, SUCCESS}
use Rattle.supervision.specs.declared.device_book.Heard.{Heard}
use Rattle.supervision.specs.declared.device_book.Heard.TheVariants.{New, Again, Old}
use Rattle.encap.specs.Opening.{Message, opened_at}
use Rattle.encap.specs.Written.{AreEnds}
use Rattle.encap.specs.declared.plan.Plan.{Plan}
use Rattle.encap.specs.declared.plan.Supervised.{Supervised}
use Rattle.encap.specs.declared.plan.Ends.{Ends}
use Rattle.encap.specs.declared.plan.Outer.{Outer}
use Rattle.host_orders.specs.Settings.{settings}
use Rattle.host_orders.specs.Wrapping.{ends_of, message_of, supervised_of}
use Rattle.host_orders.specs.declared.carriage.Carriage.{Carriage}
use Rattle.device_kinds.specs.declared.effect.Effect.{Effect}
use Rattle.device_kinds.specs.declared.effect.Effect.TheVariants.{Ignores, Repeats, Takes}
use Rattle.device_kinds.specs.declared.verdict.Verdict.{Verdict}
use Rattle.device_kinds.specs.declared.verdict.Verdict.TheVariants.{NoSupport, Fails, Makes, Works}
use Rattle.device_kinds.specs.Answers.{answer_plan, swapped, worded}
use Rattle.device_kinds.specs.Effects.{effect_in_session, end_of}
use Rattle.device_kinds.specs.Judging.{judged_message}
use Rattle.device_kinds.specs.Kind.{lists}
use Rattle.device_stack.specs.State.{State, Outcome, silent, value_of, last_level_of}
use Rattle.device_stack.specs.Answers.{final_report, status_report}
use Rattle.device_stack.specs.Effects.{after_effect, answer_of, effect_of, takes}
use Rattle.device_stack.specs.Hearing.{active, answers, answers_bytes, hears, hears_by, hears_openly, sent_openly}
use Rattle.device_stack.specs.Ticking.{aged, ticked, works_out}
use Rattle.device_sim.specs.Event.{Hears, Ticks, device_after, device_replies, outcome_of}
use Rattle.device_sim.specs.Laws.{IsHeard}
use Rattle.proof_messages.specs.Asking.{MakesOnly, message_in, takes_openly, verdict_on}
use Rattle.proof_messages.specs.Reporting.{CanBeAnswered}
use Rattle.proof_messages.proofs.DeviceReports.{opened_ends, own_heard, taken_own, text_by, text_length}
use Rattle.proof_messages.proofs.SessionMessages.{awake_after, headed_no_segment, knows_supervision, message_headed, openly_by}
use Rattle.proof_in_time.specs.Answering.{AnswersSession, Goes_on, Ends as Ends_work, IsAtWork, IsAwakeNow, IsDone, IsDoneOrAtWork, IsInStep, IsStill, Last, Next, StaysDone, WorksOn}
use Rattle.proof_course_plain.proofs.Levels.{works_time}
use Rattle.proof_answered.proofs.Ending.{both}

-- ---- what a device makes of the id

not_true_is : (b : Bool) → (b ≡ true → ⊥) → not b ≡ true
not_true_is true none = absurd (none refl)
not_true_is false none = refl

none_is : (b : Bool) → (b ≡ true → ⊥) → b ≡ false
none_is true none = absurd (none refl)
none_is false none = refl

pub heard_next : (sessions : Taken) (id session : ℕ) → session ≡ sessions.taken + 1 → sessions.status ≢ WORKING → id ≡ wire_id session → heard_of sessions id ≡ New (sessions.taken + 1)
heard_next sessions id session next over named =
    ap (λ (b : Bool). if b then New (sessions.taken + 1) else (if is_again sessions id then Again sessions.status else Old))
    (both (id == wire_id (sessions.taken + 1)) (not (sessions.status == WORKING)) (eq-eqb id (wire_id (sessions.taken + 1)) (named ∙ ap wire_id next))
    (not_true_is (sessions.status == WORKING) (λ e. over (eqb-true sessions.status WORKING e))))

never_new : (sessions : Taken) (id : ℕ) → (id ≡ wire_id (sessions.taken + 1) → ⊥) → is_new sessions id ≡ false
never_new sessions id none = by (id == wire_id (sessions.taken + 1)) refl
  where
    by : (b : Bool) → (id == wire_id (sessions.taken + 1)) ≡ b → (b && not (sessions.status == WORKING)) ≡ false
    by true e = absurd (none (eqb-true id (wire_id (sessions.taken + 1)) e))
    by false e = refl

other_id : (taken : ℕ) → taken % 64 ≡ (taken + 1) % 64 → ⊥
other_id taken e = omega (arith, e)

pub heard_last : (sessions : Taken) (id session : ℕ) → session ≡ sessions.taken → 1 ≤ session → id ≡ wire_id session → heard_of sessions id ≡ Again sessions.status
heard_last sessions id session last some named =
    let is : id ≡ wire_id sessions.taken = named ∙ ap wire_id last in
    let positive : 1 ≤ sessions.taken = subst (λ (n : ℕ). 1 ≤ n) last some in
    let more : nat_lt 0 sessions.taken ≡ true = grind (arith, nat_tests) in
    ap (λ (b : Bool). if b then New (sessions.taken + 1) else (if is_again sessions id then Again sessions.status else Old)) (never_new sessions id (λ e. other_id sessions.taken (sym is ∙ e)))
    ∙ ap (λ (b : Bool). if b then Again sessions.status else Old) (both (nat_lt 0 sessions.taken) (id == wire_id sessions.taken) more (eq-eqb id (wire_id sessions.taken) is))

-- ---- a report is short

abbrev IsShort : List ℕ → Type 0
IsShort text = (1 ≤ length text) × (length text ≤ 46)

at_most : (k : ℕ) → k ≤ 13 → k ≤ 46
at_most k few = omega (arith, few)

text_short : (channel : Option Ends) (outer : Outer) (device : State) (asked : Supervised) (status : ℕ) → IsShort (text_by channel outer (status_report device asked status))
text_short channel outer device asked status = let long = text_length channel outer device asked status in (long.0, at_most (length (text_by channel outer (status_report device asked status))) long.1)

-- ---- what it answers

abbrev plan_with : Bool → Supervised → Option Ends → Outer → Plan
plan_with batch asked channel outer = record { batch = batch; session = Some asked; channel = channel; outer = outer }

-- the device after an effect, and its answer
abbrev by_effect : State → Plan → Effect → Outcome
by_effect device plan effect = record { device = after_effect device plan effect; replies = option_to_list (option_map (worded (answer_plan plan)) (answer_of device plan effect)) }

abbrev Answers : ℕ → Outcome → Type 0
Answers session outcome = AnswersSession session outcome.device outcome.replies

module _ (device : State) (batch : Bool) (asked : Supervised) (channel : Option Ends) (outer : Outer) (session : ℕ) (ends : AreEnds (swapped channel)) (named : asked.id ≡ wire_id session) (up : IsAwakeNow device) where
  abbrev plan : Plan
  plan = plan_with batch asked channel outer

  taken_answers : (verdict : Verdict) → session ≡ device.sessions.taken + 1 → IsDone device → ((made : List Setting) → verdict ≡ Works made → asked.updates ≡ true) → Answers session (by_effect device plan (Takes verdict))
  taken_answers (Makes made) next done late = record {
    taken = sym next;
    payload = _;
    says = refl;
    tells = taken_own plan (swapped channel) outer device asked (Makes made) ends (named ∙ ap wire_id next);
    some = (text_short (swapped channel) outer device asked SUCCESS).0;
    few = (text_short (swapped channel) outer device asked SUCCESS).1;
    up = record { awake = up.awake; now = up.now };
    comes_to = inl (record { over = λ e. let no : 255 ≡ 1 = e in absurd cc; no_work = done.no_work });
  }
  taken_answers (Works made) next done late = record {
    taken = sym next;
    payload = _;
    says = refl;
    tells = taken_own plan (swapped channel) outer device asked (Works made) ends (named ∙ ap wire_id next);
    some = (text_short (swapped channel) outer device asked WORKING).0;
    few = (text_short (swapped channel) outer device asked WORKING).1;
    up = record { awake = up.awake; now = up.now };
    comes_to = inr (record { working = refl; some = omega arith; few = omega arith; plan = plan; told = ap (λ (b : Bool). if b then Some plan else None) (late made refl) });
  }
  taken_answers Fails next done late = record {
    taken = sym next;
    payload = _;
    says = refl;
    tells = taken_own plan (swapped channel) outer device asked Fails ends (named ∙ ap wire_id next);
    some = (text_short (swapped channel) outer device asked FAIL).0;
    few = (text_short (swapped channel) outer device asked FAIL).1;
    up = record { awake = up.awake; now = up.now };
    comes_to = inl (record { over = λ e. let no : 2 ≡ 1 = e in absurd cc; no_work = done.no_work });
  }
  taken_answers NoSupport next done late = record {
    taken = sym next;
    payload = _;
    says = refl;
    tells = taken_own plan (swapped channel) outer device asked NoSupport ends (named ∙ ap wire_id next);
    some = (text_short (swapped channel) outer device asked NO_SUPPORT).0;
    few = (text_short (swapped channel) outer device asked NO_SUPPORT).1;
    up = record { awake = up.awake; now = up.now };
    comes_to = inl (record { over = λ e. let no : 0 ≡ 1 = e in absurd cc; no_work = done.no_work });
  }

  again_answers : session ≡ device.sessions.taken → IsDoneOrAtWork device → Answers session (by_effect device plan (Repeats device.sessions.status))
  again_answers last is = record {
    taken = sym last;
    payload = _;
    says = refl;
    tells = own_heard (swapped channel) outer device device asked device.sessions.status ends (named ∙ ap wire_id last) refl refl;
    some = (text_short (swapped channel) outer device asked device.sessions.status).0;
    few = (text_short (swapped channel) outer device asked device.sessions.status).1;
    up = up;
    comes_to = is;
  }

  module _ (commands : List (List ℕ)) where
    abbrev verdict : Verdict
    verdict = judged_message device.kind (value_of device) (last_level_of device) (end_of channel) batch commands

    abbrev heard_as : Heard → Outcome
    heard_as heard = by_effect device plan (effect_in_session device.kind device.journal plan commands heard)

    step_answers : IsInStep session device → ((made : List Setting) → verdict ≡ Works made → asked.updates ≡ true) → Answers session (heard_as (heard_of device.sessions asked.id))
    step_answers (Next next done) late =
        subst (λ (heard : Heard). Answers session (heard_as heard)) (sym (heard_next device.sessions asked.id session next done.over named)) (taken_answers verdict next done late)
    step_answers (Last last some is) late =
        subst (λ (heard : Heard). Answers session (heard_as heard)) (sym (heard_last device.sessions asked.id session last some named)) (again_answers last is)

    pub supervised_answers : lists device.kind 0x6C ≡ true → IsInStep session device → ((made : List Setting) → verdict ≡ Works made → asked.updates ≡ true)
        → Answers session (sent_openly (answers device (record { plan = plan_with batch asked channel outer; commands = commands })))
    unfolding answers effect_of
    supervised_answers known is late =
        subst (λ (b : Bool). Answers session (by_effect device plan (if b then effect_in_session device.kind device.journal plan commands (heard_of device.sessions asked.id) else Ignores)))
        (sym known) (step_answers is late)

-- ---- a payload that is heard

pub heard_replies : (device : State) (payload drawn : List ℕ) → device.awake ≡ true → device_replies device (Hears payload drawn) ≡ (hears_by device.kind (active device) payload drawn).replies
unfolding device_replies outcome_of hears
heard_replies device payload drawn e = rw e refl

pub opened_whole : (device : State) (payload : List ℕ) (message : Message) → opened_at payload ≡ Some message → hears_openly device payload ≡ sent_openly (answers device message)
unfolding hears_openly answers_bytes
opened_whole device payload message e = rw e refl

active_step : (session : ℕ) (device : State) → IsInStep session device → IsInStep session (active device)
active_step session device (Next next done) = Next next (record { over = done.over; no_work = done.no_work })
active_step session device (Last last some (inl done)) = Last last some (inl (record { over = done.over; no_work = done.no_work }))
active_step session device (Last last some (inr works)) =
    Last last some (inr (record { working = works.working; some = works.some; few = works.few; plan = works.plan; told = works.told }))

pub message_answered : (device : State) (drawn : List ℕ) (carriage : Carriage) (order : Order) (session : ℕ) → opened_at (message_of carriage order session) ≡ Some (message_in carriage order session)
    → end_of (ends_of order.end) ≡ order.end → MakesOnly (settings carriage.actuator order) (verdict_on device carriage order) → device.awake ≡ true → takes_openly device.kind ≡ true → IsInStep session device
    → AnswersSession session (device_after device (Hears (message_of carriage order session) drawn)) (device_replies device (Hears (message_of carriage order session) drawn))
message_answered device drawn carriage order session opened target only awake takes is =
    let payload : List ℕ = message_of carriage order session in
    let message : Message = message_in carriage order session in
    let asked : Supervised = supervised_of carriage.actuator order session in
    let outcome : hears_by device.kind (active device) payload drawn ≡ sent_openly (answers (active device) message) =
    openly_by device.kind (active device) payload drawn takes (headed_no_segment payload (message_headed carriage order session)) ∙ opened_whole (active device) payload message opened in
    let late : (made : List Setting) → judged_message device.kind (value_of device) (last_level_of device) (end_of (ends_of order.end)) message.plan.batch message.commands ≡ Works made → asked.updates ≡ true =
    λ made works. works_time device carriage order made only
    (ap (λ (end : ℕ). judged_message device.kind (value_of device) (last_level_of device) end message.plan.batch message.commands) (sym target) ∙ works) in
    let answered : Answers session (sent_openly (answers (active device) message)) =
    supervised_answers (active device) message.plan.batch asked message.plan.channel message.plan.outer session (opened_ends payload message opened) refl (record { awake = awake; now = refl }) message.commands
    (knows_supervision device.kind takes) (active_step session device is) late in
    let at : Answers session (hears_by device.kind (active device) payload drawn) = subst (Answers session) (sym outcome) answered in
    subst (λ (new : State). AnswersSession session new (device_replies device (Hears payload drawn))) (sym (awake_after device payload drawn awake))
    (subst (λ (replies : List (List ℕ)). AnswersSession session (hears_by device.kind (active device) payload drawn).device replies) (sym (heard_replies device payload drawn awake)) at)

-- ---- a tick

one_outcome : (device : State) (drawn : List ℕ) → (device.work_left == 0) ≡ false → (device.work_left == 1) ≡ true → outcome_of device (Ticks drawn) ≡ works_out (aged device)
unfolding outcome_of ticked
one_outcome device drawn none one = rw (none, one) refl

more_outcome : (device : State) (drawn : List ℕ) → (device.work_left == 0) ≡ false → (device.work_left == 1) ≡ false
    → outcome_of device (Ticks drawn) ≡ silent (record (aged device) { work_left = device.work_left - 1 })
unfolding outcome_of ticked
more_outcome device drawn none one = rw (none, one) refl

no_outcome : (device : State) (drawn : List ℕ) → (device.work_left == 0) ≡ true → outcome_of device (Ticks drawn) ≡ silent (aged device)
unfolding outcome_of ticked
no_outcome device drawn none = rw none refl

after_outcome : (P : State → List (List ℕ) → Type 0) (device : State) (drawn : List ℕ) (outcome : Outcome) → outcome_of device (Ticks drawn) ≡ outcome → P outcome.device outcome.replies
    → P (device_after device (Ticks drawn)) (device_replies device (Ticks drawn))
unfolding device_after device_replies
after_outcome P device drawn outcome is so = subst (λ (o : Outcome). P o.device o.replies) (sym is) so

-- the end of its work is told
end_told : (device : State) (work : IsAtWork device) → AreEnds (swapped work.plan.channel) → device.work_left ≡ 1 → WorksOn device (works_out (aged device)).device (works_out (aged device)).replies
end_told device work ends one =
    Ends_work _ (ap (λ (answer : Option Plan). option_to_list (option_map (λ plan. worded (answer_plan plan) (final_report (aged device))) answer)) work.told)
    (own_heard (swapped work.plan.channel) work.plan.outer (aged device) (works_out (aged device)).device (record { updates = false; id = wire_id device.sessions.taken }) SUCCESS ends refl refl refl)
    short.0 short.1 (record { over = λ e. let no : 255 ≡ 1 = e in absurd cc; no_work = refl }) refl one
  where
    short : IsShort (text_by (swapped work.plan.channel) work.plan.outer (status_report (aged device) (record { updates = false; id = wire_id device.sessions.taken }) SUCCESS))
    short = text_short (swapped work.plan.channel) work.plan.outer (aged device) (record { updates = false; id = wire_id device.sessions.taken }) SUCCESS

pub work_ticks_on : (device : State) (drawn : List ℕ) → CanBeAnswered device.work.answer → IsAtWork device → WorksOn device (device_after device (Ticks drawn)) (device_replies device (Ticks drawn))
work_ticks_on device drawn can work = by (device.work_left == 1) refl
  where
    some : 1 ≤ device.work_left
    some = work.some

    few : device.work_left ≤ 5
    few = work.few

    ends : AreEnds (swapped work.plan.channel)
    ends = subst CanBeAnswered work.told can

    busy : (device.work_left == 0) ≡ false
    busy = none_is (device.work_left == 0) (λ e. let none = eqb-true device.work_left 0 e in omega (arith, some, none))

    by : (b : Bool) → (device.work_left == 1) ≡ b → WorksOn device (device_after device (Ticks drawn)) (device_replies device (Ticks drawn))
    by true e = after_outcome (WorksOn device) device drawn (works_out (aged device)) (one_outcome device drawn busy e) (end_told device work ends (eqb-true device.work_left 1 e))
    by false e =
        let other : device.work_left ≡ 1 → ⊥ = λ one. let wrong : true ≡ false = sym (eq-eqb device.work_left 1 one) ∙ e in absurd cc in
        let two : 2 ≤ device.work_left = omega (arith, some, other) in
        after_outcome (WorksOn device) device drawn (silent (record (aged device) { work_left = device.work_left - 1 })) (more_outcome device drawn busy e)
        (Goes_on refl (record { working = work.working; some = omega (arith, two); few = omega (arith, few); plan = work.plan; told = work.told }) refl (omega (arith, two)))

pub done_ticks_on : (device : State) (drawn : List ℕ) → IsDone device → StaysDone device (device_after device (Ticks drawn)) (device_replies device (Ticks drawn))
done_ticks_on device drawn done =
    after_outcome (StaysDone device) device drawn (silent (aged device)) (no_outcome device drawn (eq-eqb device.work_left 0 done.no_work))
    (record { silent = refl; sessions = refl; is_done = record { over = done.over; no_work = done.no_work } })

-- ---- at work, it takes no session

pub still_at_work : (old new : State) → IsHeard old new → old.sessions.status ≡ WORKING → IsStill old new
still_at_work old new (inl untaken) working = record { sessions = untaken.1.0; work_left = untaken.1.1 }
still_at_work old new (inr (inl (_, (free, taken)))) working = absurd (free working)
still_at_work old new (inr (inr (settings, (unlisted, (journal, (sessions, work)))))) working = record { sessions = sessions; work_left = work }
