-- Over a stretch, each status to which the device of a node came for a session that began in it is the one that its kind gives the commands of the session, on the values that it had as the session began.
use Rattle.std.proofs.Common.{◌≡◌, ◌≢◌, ℕ, ◌+◌, ◌≤◌, ◌<◌, inl, inr, Bool, List, [], ◌∷◌, ◌++◌, length, length-append, flat_map, map, Option, Some, None, refl, sym, ap, ◌∙◌, subst, append-nil, append_assoc, arith}
use Rattle.std.proofs.Math.Path.{fun_ext}
use Rattle.std.proofs.lemmas.Grind.{flat_map-append}
use Rattle.std.specs.Prelude.{◌⊎◌, zero, suc, slice_get}
use Rattle.zw_base.specs.declared.order.Order.{Order}
use Rattle.zw_base.specs.declared.property.Property.{Property}
use Rattle.zw_base.specs.declared.property.Setting.{Setting}
use Rattle.zw_text.specs.declared.entry.Entry.{Entry}
use Rattle.zw_text.specs.Transcript.{Made, carried, carried_at, made, session_at, sessions}
use Rattle.zw_text.proofs.Views.{shown-append}
use Rattle.supervision.specs.Host.{begun_of, command_at, open_session}
use Rattle.supervision.specs.Device.{Taken as SessionsTaken}
use Rattle.supervision.specs.declared.session.TheConstants.{NO_SUPPORT, WORKING, FAIL, SUCCESS}
use Rattle.host_keep.specs.Kept.{Taken}
use Rattle.host_orders.specs.Messages.{commands_of, is_batch}
use Rattle.host_orders.specs.Refusals.{IsFit}
use Rattle.host_orders.specs.declared.carriage.Carriage.{Carriage}
use Rattle.device_kinds.specs.declared.change.Change.{Change}
use Rattle.device_kinds.specs.declared.kind.Kind.{Kind}
use Rattle.device_kinds.specs.declared.verdict.Verdict.{Verdict}
use Rattle.device_kinds.specs.declared.verdict.Verdict.TheVariants.{NoSupport, Fails, Makes, Works}
use Rattle.device_kinds.specs.Effects.{level_in, value_in}
use Rattle.device_kinds.specs.Judging.{judged_message, status_of}
use Rattle.device_kinds.specs.Values.{level_by, value_by}
use Rattle.device_sim.specs.State.{State}
use Rattle.law_transcript.specs.Devices.{made_by}
use Rattle.law_transcript.specs.Lists.{EachAfter, Has}
use Rattle.law_time.specs.Verdicts.{before_session, settings_made}
use Rattle.mesh_sim.specs.Fates.{place_of}
use Rattle.host_model.specs.State.{Command, HostState, node_of}
use Rattle.world_model.specs.State.{Machine}
use Rattle.proof_host.specs.Facts.{Facts}
use Rattle.proof_host.specs.Laws.{MayStand}
use Rattle.proof_host.specs.Tables.{taken_at}
use Rattle.proof_host.proofs.Over.{each-right}
use Rattle.proof_course.specs.Parts.{numbered}
use Rattle.proof_course.specs.SessionFacts.{AreTold, CourseFacts}
use Rattle.proof_course.specs.Sessions.{Course}
use Rattle.proof_messages.specs.Asking.{verdict_on}
use Rattle.proof_messages.specs.Ending.{HasEnded}
use Rattle.proof_spoken.specs.proof_once.Tied.{AreOutcomes, KeepsOrders}
use Rattle.proof_spoken.proofs.CommandsOfSessions.{session_within}
use Rattle.proof_spoken.proofs.Others.{made_both}
use Rattle.proof_course_plain.proofs.Devices.{at_rest, at_work}
use Rattle.proof_course_plain.specs.Device.{OthersAreIdle}
use Rattle.proof_course_plain.specs.Host.{asked_of}
use Rattle.proof_course_plain.specs.Judged.{TakesAsAsked, Judges}
use Rattle.proof_course_plain.specs.Meaning.{Asked}
use Rattle.proof_walk.proofs.Moving.{both_none}
use Rattle.proof_in_time.proofs.BegunBefore.{begins_once, begun_stays, level_then, made_then, none_begun, none_made_before, settings_of, value_then}
use Rattle.proof_in_time.proofs.EndedSessions.{behind_first, few_ended, last_ended, numbered_at, old_or_last, same_at, within_first}

-- ---- verdicts

-- what the kind of a device says of the commands of an order, where it made these settings after these changes
abbrev pub due : Kind → List Change → List Setting → Order → Carriage → Verdict
due kind start settings order carriage =
    judged_message kind (λ (property : Property). value_by settings property (value_in start property)) (level_by settings (level_in start)) order.end (is_batch order.what) (commands_of carriage.actuator order.what)

-- the status to which it comes
abbrev pub final_of : Verdict → ℕ
final_of NoSupport = NO_SUPPORT
final_of Fails = FAIL
final_of (Makes settings) = SUCCESS
final_of (Works settings) = SUCCESS

final_over : (verdict : Verdict) → status_of verdict ≢ WORKING → final_of verdict ≡ status_of verdict
final_over NoSupport over = refl
final_over Fails over = refl
final_over (Makes settings) over = refl
final_over (Works settings) over = absurd (over refl)

final_works : (verdict : Verdict) → status_of verdict ≡ WORKING → final_of verdict ≡ SUCCESS
final_works NoSupport works = absurd (omega (arith, works))
final_works Fails works = absurd (omega (arith, works))
final_works (Makes settings) works = refl
final_works (Works settings) works = refl

-- the device as it is says the same
due_now : (device : State) (kind : Kind) (start changes : List Change) (order : Order) (carriage : Carriage) → device.kind ≡ kind → device.journal ≡ start ++ changes
    → due kind start (settings_of changes) order carriage ≡ verdict_on device carriage order
due_now device kind start changes order carriage same journal =
    let end : ℕ = order.end in
    let batch : Bool = is_batch order.what in
    let commands : List (List ℕ) = commands_of carriage.actuator order.what in
    let values : (λ (property : Property). value_by (settings_of changes) property (value_in start property)) ≡ (λ (property : Property). value_in device.journal property) =
    fun_ext (λ property. sym (ap (λ (l : List Change). value_in l property) journal ∙ value_then start changes property)) in
    let level : level_by (settings_of changes) (level_in start) ≡ level_in device.journal = sym (ap level_in journal ∙ level_then start changes) in
    ap (λ (values : Property → ℕ). judged_message kind values (level_by (settings_of changes) (level_in start)) end batch commands) values
    ∙ (ap (λ (l : ℕ). judged_message kind (value_in device.journal) l end batch commands) level
    ∙ ap (λ (k : Kind). judged_message k (value_in device.journal) (level_in device.journal) end batch commands) (sym same))

-- ---- the table

asked_taken : (commands : List Command) (number : ℕ) (asked : Asked) → numbered (map asked_of commands) number ≡ asked ∷ [] → taken_at commands number ≡ Some (record { order = asked.order; carriage = asked.carriage })
asked_taken commands zero asked e = absurd (grind (arith, e))
asked_taken [] (suc k) asked e = absurd (grind (arith, e))
asked_taken (x ∷ commands) (suc zero) asked e = let same : asked_of x ≡ asked = cc in ap (λ (a : Asked). Some (record { order = a.order; carriage = a.carriage })) same
asked_taken (x ∷ commands) (suc (suc k)) asked e = asked_taken commands (suc k) asked e

-- this is so of the verdict on the command of that number, on what the device had made before its session began
pub record Sees (n : ℕ) (kind : Kind) (start : List Change) (entries : List Entry) (commands : List Command) (number : ℕ) (Is : Verdict → Type 0) : Type 0 where
  pub taken : Taken
  pub is : taken_at commands number ≡ Some taken
  pub fit : IsFit taken.carriage.actuator taken.order
  pub end : taken.order.end ≤ 127
  pub so : Is (due kind start (settings_made n (before_session number entries)) taken.order taken.carriage)

pub sees_also : (n : ℕ) (kind : Kind) (start : List Change) (entries : List Entry) (commands : List Command) (number : ℕ) (Is Also : Verdict → Type 0) → ((verdict : Verdict) → Is verdict → Also verdict)
    → Sees n kind start entries commands number Is → Sees n kind start entries commands number Also
sees_also n kind start entries commands number Is Also weaker sees =
    record { taken = sees.taken; is = sees.is; fit = sees.fit; end = sees.end; so = weaker (due kind start (settings_made n (before_session number entries)) sees.taken.order sees.taken.carriage) sees.so }

-- ---- the tie

-- a course of the sessions of a node is where its device and the host are, and the table says what the host was told
pub record At (n : ℕ) (m : Machine) : Type 0 where
  pub orders : List Asked
  pub course : Course
  pub place : ℕ
  pub device : State
  pub first : place_of n m.outside.devices ≡ Some place
  pub stands : slice_get m.outside.devices place ≡ Some device
  pub others : OthersAreIdle n m.outside.devices place
  pub sessions : device.sessions ≡ course.device
  pub ends : HasEnded device course.ends
  pub booked : ((node_of m.host.state n).book.commands ≡ course.host.commands) × ((node_of m.host.state n).book.outcome ≡ course.host.outcome)
  pub orders_are : orders ≡ map asked_of m.host.state.commands
  pub lawful : CourseFacts course
  pub outcomes : AreOutcomes m.host.state.commands course.host.commands course.told

-- In a stretch that begins after `past`, with so many sessions of the node and a device of that kind that made these changes: what it made since is shown; each status
-- of a session since is that of the verdict due; and since the last session began nothing was made, where the device has not taken it
pub record Tie (n since : ℕ) (kind : Kind) (start : List Change) (past entries : List Entry) (m : Machine) (at : At n m) : Type 0 where
  pub facts : Facts (past ++ entries) m.host.state
  pub kind_is : at.device.kind ≡ kind
  pub changes : List Change
  pub journal : at.device.journal ≡ start ++ changes
  pub shown : made n entries ≡ flat_map made_by changes
  pub ended : (session number status : ℕ) → since < session → command_at at.course.ends session ≡ Some status → command_at at.course.host.commands session ≡ Some number
      → Sees n kind start entries m.host.state.commands number (λ verdict. status ≡ final_of verdict)
  pub works : (number : ℕ) → at.device.sessions.status ≡ WORKING → since < at.device.sessions.taken → command_at at.course.host.commands at.device.sessions.taken ≡ Some number
      → Sees n kind start entries m.host.state.commands number (λ verdict. final_of verdict ≡ SUCCESS)
  pub waits : (number : ℕ) → since < begun_of at.course.host → at.device.sessions.taken + 1 ≡ begun_of at.course.host → command_at at.course.host.commands (begun_of at.course.host) ≡ Some number
      → settings_made n (before_session number entries) ≡ settings_made n entries

-- ---- one event

-- what an event makes of them: the course goes on, the entries tell what was made, and the device or the host is as it was
pub record Goes (n : ℕ) (entries told : List Entry) (past : List Entry) (m later : Machine) (at : At n m) : Type 0 where
  pub next : At n later
  pub more : List ℕ
  pub ends : next.course.ends ≡ at.course.ends ++ more
  pub facts : Facts (past ++ (entries ++ told)) later.host.state
  pub keeps : KeepsOrders m.host.state.commands later.host.state.commands
  pub judged : Judges at.orders at.course.host.commands at.device next.device
  pub kind : next.device.kind ≡ at.device.kind
  pub news : List Change
  pub journal : next.device.journal ≡ at.device.journal ++ news
  pub shown : made n told ≡ flat_map made_by news
  pub side : (next.device ≡ at.device) ⊎ (later.host.state ≡ m.host.state)

same_left : {A : Type 0} (xs ys : List A) → xs ++ ys ≡ xs → ys ≡ []
same_left xs ys same = by ys refl
  where
    by : (zs : List _) → ys ≡ zs → ys ≡ []
    by [] e = e
    by (z ∷ zs) e =
        let long = ap (λ l. length l) same in
        let both = length-append xs ys in
        let some : length ys ≡ suc (length zs) = ap (λ l. length l) e in
        absurd (omega (arith, long, both, some))

module _ (n since : ℕ) (kind : Kind) (start : List Change) (past entries told : List Entry) (m later : Machine) (begun_is : length (sessions n past) ≡ since) (at : At n m) (tie : Tie n since kind start past entries m at)
    (goes : Goes n entries told past m later at) where
  abbrev c : Course
  c = at.course

  abbrev d : Course
  d = goes.next.course

  abbrev old : State
  old = at.device

  abbrev new : State
  new = goes.next.device

  -- the sessions of the host
  booked : sessions n (past ++ entries) ≡ c.host.commands
  booked = tie.facts.begun n ∙ at.booked.0

  booked_then : sessions n (past ++ (entries ++ told)) ≡ d.host.commands
  booked_then = goes.facts.begun n ∙ goes.next.booked.0

  since_then : c.host.commands ≡ sessions n past ++ sessions n entries
  since_then = sym booked ∙ shown-append (session_at n) past entries

  more_begun : d.host.commands ≡ c.host.commands ++ sessions n told
  more_begun =
      sym booked_then ∙ (ap (λ (l : List Entry). sessions n l) (sym (append_assoc past entries told)) ∙ (shown-append (session_at n) (past ++ entries) told ∙ ap (λ (l : List ℕ). l ++ sessions n told) booked))

  begun_here : (session number : ℕ) → since < session → command_at c.host.commands session ≡ Some number → Has (sessions n entries) number
  begun_here session number less carries =
      behind_first (sessions n past) (sessions n entries) session number (omega (arith, less, begun_is)) (subst (λ (l : List ℕ). command_at l session ≡ Some number) since_then carries)

  -- what the device took, and what the host began
  taken_is : old.sessions.taken ≡ c.device.taken
  taken_is = ap (λ (t : SessionsTaken). t.taken) at.sessions

  not_ahead : old.sessions.taken ≤ begun_of c.host
  not_ahead = let ahead = at.lawful.agree.not_ahead in omega (arith, ahead, taken_is)

  one_after : begun_of c.host ≤ old.sessions.taken + 1
  one_after = let after = at.lawful.agree.one_after in omega (arith, after, taken_is)

  was_ended : HasEnded old c.ends
  was_ended = at.ends

  is_ended : HasEnded new (c.ends ++ goes.more)
  is_ended = subst (λ (l : List ℕ). HasEnded new l) goes.ends goes.next.ends

  -- the command of a session that had begun
  carried_before : (session number : ℕ) → session ≤ begun_of c.host → command_at d.host.commands session ≡ Some number → command_at c.host.commands session ≡ Some number
  carried_before session number few carries = within_first c.host.commands (sessions n told) session number few (subst (λ (l : List ℕ). command_at l session ≡ Some number) more_begun carries)

  -- what was seen stays
  sees_on : (number : ℕ) (Is : Verdict → Type 0) → Has (sessions n entries) number → Sees n kind start entries m.host.state.commands number Is → Sees n kind start (entries ++ told) later.host.state.commands number Is
  sees_on number Is has sees = record {
    taken = sees.taken;
    is = goes.keeps number sees.taken sees.is;
    fit = sees.fit;
    end = sees.end;
    so = subst (λ (l : List Entry). Is (due kind start (settings_made n l) sees.taken.order sees.taken.carriage)) (sym (begun_stays n number entries told has)) sees.so;
  }

  from_before : (session number status : ℕ) → since < session → command_at c.ends session ≡ Some status → command_at d.host.commands session ≡ Some number
      → Sees n kind start (entries ++ told) later.host.state.commands number (λ verdict. status ≡ final_of verdict)
  from_before session number status less before carries =
      let within = (session_within c.ends session status before).1 in
      let few = (few_ended old c.ends was_ended).1 in
      let had = carried_before session number (omega (arith, within, few, not_ahead)) carries in
      sees_on number (λ verdict. status ≡ final_of verdict) (begun_here session number less had) (tie.ended session number status less before had)

  -- the session that the device takes
  module _ (t : TakesAsAsked at.orders c.host.commands old new) (less : since < old.sessions.taken + 1) where
    abbrev verdict : Verdict
    verdict = verdict_on old t.asked.carriage t.asked.order

    next_carried : command_at c.host.commands (old.sessions.taken + 1) ≡ Some t.number
    next_carried = numbered_at c.host.commands (old.sessions.taken + 1) t.number t.carried

    is_last : old.sessions.taken + 1 ≡ begun_of c.host
    is_last = let within = (session_within c.host.commands (old.sessions.taken + 1) t.number next_carried).1 in omega (arith, within, one_after)

    in_entries : Has (sessions n entries) t.number
    in_entries = begun_here (old.sessions.taken + 1) t.number less next_carried

    made_then_is : settings_made n (before_session t.number (entries ++ told)) ≡ settings_of tie.changes
    made_then_is =
        ap (λ (l : List Entry). settings_made n l) (begun_stays n t.number entries told in_entries)
        ∙ (tie.waits t.number (subst (λ (k : ℕ). since < k) is_last less) is_last (subst (λ (k : ℕ). command_at c.host.commands k ≡ Some t.number) is_last next_carried)
        ∙ ap (λ (l : List Made). map (λ (one : Made). one.setting) l) tie.shown)

    due_is : due kind start (settings_made n (before_session t.number (entries ++ told))) t.asked.order t.asked.carriage ≡ verdict
    due_is =
        ap (λ (l : List Setting). due kind start l t.asked.order t.asked.carriage) made_then_is ∙ due_now old kind start tie.changes t.asked.order t.asked.carriage tie.kind_is tie.journal

    sees_now : (number : ℕ) (Is : Verdict → Type 0) → command_at d.host.commands (old.sessions.taken + 1) ≡ Some number → Is verdict → Sees n kind start (entries ++ told) later.host.state.commands number Is
    sees_now number Is carries is =
        let few : old.sessions.taken + 1 ≤ begun_of c.host = omega (arith, is_last) in
        let same : t.number ≡ number = same_at c.host.commands (old.sessions.taken + 1) t.number number next_carried (carried_before (old.sessions.taken + 1) number few carries) in
        subst (λ (k : ℕ). Sees n kind start (entries ++ told) later.host.state.commands k Is) same (record {
          taken = record { order = t.asked.order; carriage = t.asked.carriage };
          is = goes.keeps t.number (record { order = t.asked.order; carriage = t.asked.carriage })
              (asked_taken m.host.state.commands t.number t.asked (subst (λ (os : List Asked). numbered os t.number ≡ t.asked ∷ []) at.orders_are t.accepted));
          fit = t.fit;
          end = t.end;
          so = subst Is (sym due_is) is;
        })

  -- ---- statuses

  few_taken : new.sessions.taken ≤ length c.ends + 1
  few_taken = by goes.judged
    where
      by : Judges at.orders c.host.commands old new → new.sessions.taken ≤ length c.ends + 1
      by (inl still) = let same = ap (λ (t : SessionsTaken). t.taken) still.sessions in let few = (few_ended old c.ends was_ended).0 in omega (arith, same, few)
      by (inr (inl takes)) = let same = ap (λ (t : SessionsTaken). t.taken) takes.sessions in let all = (at_rest old c.ends was_ended takes.free).1 in omega (arith, same, all)
      by (inr (inr ends)) = let same = ap (λ (t : SessionsTaken). t.taken) ends.sessions in let few = (few_ended old c.ends was_ended).0 in omega (arith, same, few)

  last_session : (session number status : ℕ) → since < session → command_at d.host.commands session ≡ Some number → session ≡ new.sessions.taken → status ≡ new.sessions.status → new.sessions.status ≢ WORKING
      → Judges at.orders c.host.commands old new → Sees n kind start (entries ++ told) later.host.state.commands number (λ verdict. status ≡ final_of verdict)
  last_session session number status less carries last status_is over (inl still) =
      let same = ap (λ (t : SessionsTaken). t.taken) still.sessions in
      let status_same = ap (λ (t : SessionsTaken). t.status) still.sessions in
      let there = last_ended old c.ends was_ended (λ e. over (status_same ∙ e)) (omega (arith, less, last, same)) in
      from_before session number status less
      (subst (λ (k : ℕ). command_at c.ends k ≡ Some status) (sym (last ∙ same)) (subst (λ (k : ℕ). command_at c.ends old.sessions.taken ≡ Some k) (sym (status_is ∙ status_same)) there)) carries
  last_session session number status less carries last status_is over (inr (inl takes)) =
      let same : session ≡ old.sessions.taken + 1 = last ∙ ap (λ (t : SessionsTaken). t.taken) takes.sessions in
      let status_same : new.sessions.status ≡ status_of (verdict_on old takes.asked.carriage takes.asked.order) = ap (λ (t : SessionsTaken). t.status) takes.sessions in
      sees_now takes (omega (arith, less, same)) number (λ verdict. status ≡ final_of verdict) (subst (λ (k : ℕ). command_at d.host.commands k ≡ Some number) same carries)
      (status_is ∙ (status_same ∙ sym (final_over (verdict_on old takes.asked.carriage takes.asked.order) (λ e. over (status_same ∙ e)))))
  last_session session number status less carries last status_is over (inr (inr ends)) =
      let same : session ≡ old.sessions.taken = last ∙ ap (λ (t : SessionsTaken). t.taken) ends.sessions in
      let success : status ≡ SUCCESS = status_is ∙ ap (λ (t : SessionsTaken). t.status) ends.sessions in
      let had = subst (λ (k : ℕ). command_at c.host.commands k ≡ Some number) same (carried_before session number (omega (arith, same, not_ahead)) carries) in
      let here : since < old.sessions.taken = omega (arith, less, same) in
      sees_on number (λ verdict. status ≡ final_of verdict) (begun_here old.sessions.taken number here had)
      (sees_also n kind start entries m.host.state.commands number (λ verdict. final_of verdict ≡ SUCCESS) (λ verdict. status ≡ final_of verdict) (λ verdict is. success ∙ sym is) (tie.works number ends.working here had))

  ended_then : (session number status : ℕ) → since < session → command_at d.ends session ≡ Some status → command_at d.host.commands session ≡ Some number
      → Sees n kind start (entries ++ told) later.host.state.commands number (λ verdict. status ≡ final_of verdict)
  ended_then session number status less at_end carries =
      by (old_or_last new c.ends goes.more session status is_ended few_taken (subst (λ (l : List ℕ). command_at l session ≡ Some status) goes.ends at_end))
    where
      by : (command_at c.ends session ≡ Some status) ⊎ ((session ≡ new.sessions.taken) × ((status ≡ new.sessions.status) × (new.sessions.status ≢ WORKING)))
          → Sees n kind start (entries ++ told) later.host.state.commands number (λ verdict. status ≡ final_of verdict)
      by (inl before) = from_before session number status less before carries
      by (inr (last, (status_is, over))) = last_session session number status less carries last status_is over goes.judged

  -- ---- work

  works_by : (number : ℕ) → new.sessions.status ≡ WORKING → since < new.sessions.taken → command_at d.host.commands new.sessions.taken ≡ Some number → Judges at.orders c.host.commands old new
      → Sees n kind start (entries ++ told) later.host.state.commands number (λ verdict. final_of verdict ≡ SUCCESS)
  works_by number working less carries (inl still) =
      let same = ap (λ (t : SessionsTaken). t.taken) still.sessions in
      let here : since < old.sessions.taken = omega (arith, less, same) in
      let had = carried_before old.sessions.taken number not_ahead (subst (λ (k : ℕ). command_at d.host.commands k ≡ Some number) same carries) in
      sees_on number (λ verdict. final_of verdict ≡ SUCCESS) (begun_here old.sessions.taken number here had) (tie.works number (sym (ap (λ (t : SessionsTaken). t.status) still.sessions) ∙ working) here had)
  works_by number working less carries (inr (inl takes)) =
      let same = ap (λ (t : SessionsTaken). t.taken) takes.sessions in
      sees_now takes (subst (λ (k : ℕ). since < k) same less) number (λ verdict. final_of verdict ≡ SUCCESS) (subst (λ (k : ℕ). command_at d.host.commands k ≡ Some number) same carries)
      (final_works (verdict_on old takes.asked.carriage takes.asked.order) (sym (ap (λ (t : SessionsTaken). t.status) takes.sessions) ∙ working))
  works_by number working less carries (inr (inr ends)) =
      let wrong : SUCCESS ≡ WORKING = sym (ap (λ (t : SessionsTaken). t.status) ends.sessions) ∙ working in absurd (omega (arith, wrong))

  -- ---- what was made since

  -- where the device is as it was
  module _ (journal_same : new.journal ≡ old.journal) (taken_same : new.sessions.taken ≡ old.sessions.taken) where
    none_new : goes.news ≡ []
    none_new = same_left old.journal goes.news (sym goes.journal ∙ journal_same)

    none_made : made n told ≡ []
    none_made = goes.shown ∙ ap (λ (l : List Change). flat_map made_by l) none_new

    still_waits : (number : ℕ) → since < begun_of d.host → new.sessions.taken + 1 ≡ begun_of d.host → command_at d.host.commands (begun_of d.host) ≡ Some number → (added : List ℕ) → sessions n told ≡ added
        → settings_made n (before_session number (entries ++ told)) ≡ settings_made n (entries ++ told)
    still_waits number less next carries [] none =
        let same : d.host.commands ≡ c.host.commands = more_begun ∙ (ap (λ (l : List ℕ). c.host.commands ++ l) none ∙ append-nil c.host.commands) in
        let count : begun_of d.host ≡ begun_of c.host = ap (λ (l : List ℕ). length l) same in
        let had = subst (λ (k : ℕ). command_at c.host.commands k ≡ Some number) count (subst (λ (l : List ℕ). command_at l (begun_of d.host) ≡ Some number) same carries) in
        let here : since < begun_of c.host = omega (arith, less, count) in
        ap (λ (l : List Entry). settings_made n l) (begun_stays n number entries told (begun_here (begun_of c.host) number here had))
        ∙ (tie.waits number here (omega (arith, next, count, taken_same)) had ∙ sym (made_then n entries told none_made))
    still_waits number less next carries (first ∷ added) some =
        let all : begun_of d.host ≡ begun_of c.host + length (sessions n told) = ap (λ (l : List ℕ). length l) more_begun ∙ length-append c.host.commands (sessions n told) in
        let many : length (sessions n told) ≡ suc (length added) = ap (λ (l : List ℕ). length l) some in
        let has : Has (sessions n told) number =
        behind_first c.host.commands (sessions n told) (begun_of d.host) number (omega (arith, all, many)) (subst (λ (l : List ℕ). command_at l (begun_of d.host) ≡ Some number) more_begun carries) in
        let each : EachAfter MayStand (past ++ entries) told = each-right MayStand [] (past ++ entries) told (subst (λ (l : List Entry). EachAfter MayStand [] l) (sym (append_assoc past entries told)) goes.facts.stand) in
        let none : carried number (past ++ entries) ≡ [] = begins_once n number (past ++ entries) told each has in
        let none_here : carried number entries ≡ [] = (both_none (carried number past) (carried number entries) (sym (shown-append (carried_at number) past entries) ∙ none)).1 in
        ap (λ (l : List Entry). settings_made n l) (none_begun number entries told none_here)
        ∙ (made_then n entries (before_session number told) (none_made_before n number told none_made) ∙ sym (made_then n entries told none_made))

  host_same : later.host.state ≡ m.host.state → begun_of d.host ≡ begun_of c.host
  host_same same =
      ap (λ (l : List ℕ). length l) (sym goes.next.booked.0)
      ∙ (ap (λ (h : HostState). length (node_of h n).book.commands) same ∙ ap (λ (l : List ℕ). length l) at.booked.0)

  -- a device at work is at the last session that the host began
  at_last : old.sessions.status ≡ WORKING → begun_of c.host ≤ old.sessions.taken
  at_last working =
      let count = at_work old c.ends was_ended working in
      let told_are = at.lawful.told_are in
      let ends_are : length c.ends ≡ length c.told + length told_are.rest = ap (λ (l : List ℕ). length l) told_are.prefix ∙ length-append c.told told_are.rest in
      by told_are (open_session c.host) refl count ends_are
    where
      by : (are : AreTold c.host c.ends c.told) (which : Option ℕ) → open_session c.host ≡ which → length c.ends + 1 ≡ old.sessions.taken → length c.ends ≡ length c.told + length are.rest → begun_of c.host ≤ old.sessions.taken
      by are None e count all = let closed = are.closed e in omega (arith, count, all, closed)
      by are (Some session) e count all = let opened = are.opened session e in omega (arith, count, all, opened)

  waits_by : (number : ℕ) → since < begun_of d.host → new.sessions.taken + 1 ≡ begun_of d.host → command_at d.host.commands (begun_of d.host) ≡ Some number → Judges at.orders c.host.commands old new
      → settings_made n (before_session number (entries ++ told)) ≡ settings_made n (entries ++ told)
  waits_by number less next carries (inl still) = still_waits still.journal (ap (λ (t : SessionsTaken). t.taken) still.sessions) number less next carries (sessions n told) refl
  waits_by number less next carries (inr (inl takes)) = by goes.side
    where
      taken : new.sessions.taken ≡ old.sessions.taken + 1
      taken = ap (λ (t : SessionsTaken). t.taken) takes.sessions

      by : (new ≡ old) ⊎ (later.host.state ≡ m.host.state) → settings_made n (before_session number (entries ++ told)) ≡ settings_made n (entries ++ told)
      by (inl same) = let still = ap (λ (s : State). s.sessions.taken) same in absurd (omega (arith, still, taken))
      by (inr same) = let count = host_same same in absurd (omega (arith, next, taken, count, one_after))
  waits_by number less next carries (inr (inr ends)) = by goes.side
    where
      taken : new.sessions.taken ≡ old.sessions.taken
      taken = ap (λ (t : SessionsTaken). t.taken) ends.sessions

      by : (new ≡ old) ⊎ (later.host.state ≡ m.host.state) → settings_made n (before_session number (entries ++ told)) ≡ settings_made n (entries ++ told)
      by (inl same) =
          let wrong : SUCCESS ≡ WORKING = sym (ap (λ (t : SessionsTaken). t.status) ends.sessions) ∙ (ap (λ (s : State). s.sessions.status) same ∙ ends.working) in absurd (omega (arith, wrong))
      by (inr same) = let count = host_same same in let last = at_last ends.working in absurd (omega (arith, next, taken, count, last))

  -- ---- together

  pub tie_on : Tie n since kind start past (entries ++ told) later goes.next
  tie_on = record {
    facts = goes.facts;
    kind_is = goes.kind ∙ tie.kind_is;
    changes = tie.changes ++ goes.news;
    journal = goes.journal ∙ (ap (λ (l : List Change). l ++ goes.news) tie.journal ∙ append_assoc start tie.changes goes.news);
    shown = made_both n entries told
        ∙ (ap (λ (l : List Made). l ++ made n told) tie.shown ∙ (ap (λ (l : List Made). flat_map made_by tie.changes ++ l) goes.shown ∙ sym (flat_map-append made_by tie.changes goes.news)));
    ended = ended_then;
    works = λ number working less carries. works_by number working less carries goes.judged;
    waits = λ number less next carries. waits_by number less next carries goes.judged;
  }
