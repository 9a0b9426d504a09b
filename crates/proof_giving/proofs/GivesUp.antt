-- At each step of a host alone a command counts as unanswered only where it is to be given up for its node: where the request of a third attempt ends badly, or its wait is over.
use Rattle.std.proofs.Common.{◌≡◌, ◌⊎◌, ℕ, ◌+◌, ◌-◌, ◌≤◌, ◌==◌, ◌&&◌, ◌||◌, Bool, true, false, if◌then◌else◌, inl, inr, List, [], ◌∷◌, ◌++◌, Option, Some, None, refl, sym, ap, ap₂, ◌∙◌, subst, arith}
use Rattle.std.specs.Prelude.{is_some, nat_le, nat_lt}
use Rattle.std.specs.List.{AllByRecursion, list_any}
use Rattle.std.proofs.lemmas.Bool.{eq-eqb, eqb-true, le-leb, ltb-false, or_left, or_right}
use Rattle.std.proofs.lemmas.List.Elements.{recursion_from_All}
use Rattle.zw_base.proofs.Each.{all-right}
use Rattle.chip_functions.specs.Field.{IsNode}
use Rattle.zw_text.specs.declared.entry.Ended.TheVariants as ended
use Rattle.zw_text.specs.declared.entry.Entry.{Entry}
use Rattle.zw_text.specs.declared.entry.Entry.TheVariants as entry
use Rattle.zw_text.specs.Transcript.{shown}
use Rattle.host_heard.specs.declared.told.Told.{Told}
use Rattle.law_transcript.specs.Lists.{EachAfter}
use Rattle.law_transcript.specs.Stores.{node_at}
use Rattle.law_transcript.specs.Units.{Carried}
use Rattle.law_time.specs.Attempts.{Attempts, attempt_is_over, is_late}
use Rattle.law_time.specs.Heeds.{Heeds}
use Rattle.law_time.specs.Moments.{clock}
use Rattle.law_time.specs.Requests.{asked}
use Rattle.law_time.specs.Sessions.{is_open, last_command}
use Rattle.law_time.specs.Unanswered.{is_to_give_up, third_is_over, to_give_up}
use Rattle.host_requests.specs.Events.{RequestsEvent, end_at}
use Rattle.host_requests.specs.declared.end.End.{End}
use Rattle.host_requests.specs.declared.end.How.{How}
use Rattle.host_requests.specs.declared.end.How.TheVariants.{AtResponse}
use Rattle.chip_functions.specs.declared.response.Response.TheVariants.{GetRoutingInfo, IsFailedNode}
use Rattle.host_requests.specs.declared.next.Next.TheVariants.{Ends}
use Rattle.host_requests.specs.declared.task.Purpose.{Purpose}
use Rattle.host_requests.specs.declared.task.Purpose.TheVariants.{Abort, Attempt, Housekeeping}
use Rattle.host_requests.specs.declared.task.Task.{Task}
use Rattle.host_requests.specs.declared.task.Task.TheVariants.{IsFailed as task_failed, Neighbours, NoMore, Plain, Second}
use Rattle.host_requests.specs.declared.under_way.UnderWay.{UnderWay}
use Rattle.supervision.specs.Host.{open_session}
use Rattle.host_node.specs.Facts.{NodeFacts, SeriesFacts}
use Rattle.host_node.specs.Steps.{after_again, after_again_tick, after_hold_tick, after_occasion, attempt_end, falls_asleep, new_series, tick_end, with_again, with_wait}
use Rattle.host_node.specs.declared.attempt.AttemptEnd.{AttemptEnd}
use Rattle.host_node.specs.declared.attempt.AttemptEnd.TheVariants.{Again, NoneRan, Unanswered}
use Rattle.host_node.specs.declared.series.Series.{Series}
use Rattle.host_node.specs.declared.series.Series.TheVariants.{Due, Idle, Running}
use Rattle.host_node.specs.State.{NodeState, has_waiting, is_idle, is_open as is_node_open, is_running, is_up}
use Rattle.host_model.specs.State.{HostState, node_of}
use Rattle.host_model.specs.Sessions.{command_by, open_command}
use Rattle.host_model.specs.After.{requests_do}
use Rattle.host_model.specs.Ends.{Bad, Good as part_good, PartEnd, Passed_over, asleep_entry, attempt_entries, end_entries, end_entries_if, failed_entry, neighbours_entry, part_end, part_entries, task_entries}
use Rattle.host_model.specs.Facts.{IsCommandOf}
use Rattle.host_model.specs.Outs.{request_entries}
use Rattle.proof_host.specs.Facts.{Facts}
use Rattle.proof_queue.specs.proof_attempts.Attempts.{IsSign, begun_of, has_ended_badly}
use Rattle.proof_queue.specs.proof_attempts.proof_requests.Ends.{next_at}
use Rattle.proof_queue.specs.proof_attempts.proof_requests.law_host.Heard.{heeds_alone}
use Rattle.proof_queue.specs.proof_attempts.proof_work.Doing.{IsTold}
use Rattle.proof_host.specs.Tables.{nodes_by}
use Rattle.proof_queue.proofs.AttemptsGo.{running_goes}
use Rattle.proof_queue.proofs.Opening.{OpenLast, open_last}
use Rattle.proof_giving.specs.Told.{attempts_so_far}
use Rattle.proof_giving.specs.Stays.{ShowsSessions}
use Rattle.proof_giving.specs.Tie.{AttemptsSo, NodeSo, is_bad_part, is_badly_over, is_for, signed}
use Rattle.proof_giving.specs.Walking.{gives_up_well}
use Rattle.proof_giving.proofs.Along.{signed_series}
use Rattle.proof_giving.proofs.Asking.{over_as}
use Rattle.proof_giving.proofs.Requesting.{event_ends}
use Rattle.proof_giving.proofs.Told.{each_is, node_is}

-- ---- entries

-- it neither says a line or the number of a tick, nor that a command was not answered
abbrev pub IsOther : Entry → Type 0
IsOther (entry.Said words) = ⊥
IsOther (entry.Time tick) = ⊥
IsOther (entry.Out command ended.Unanswered) = ⊥
IsOther e = Unit {0}

abbrev pub Well : Heeds → List Entry → Entry → Type 0
Well heeds past e = gives_up_well heeds past e ≡ true

one_well : (heeds : Heeds) (past : List Entry) (e : Entry) → IsOther e → Well heeds past e
one_well heeds past (entry.Said words) other = absurd other
one_well heeds past (entry.Time tick) other = absurd other
one_well heeds past (entry.Out command ended.Unanswered) other = absurd other
one_well heeds past e other = refl

pub others_well : (heeds : Heeds) (past told : List Entry) → AllByRecursion IsOther told → EachAfter (Well heeds) past told
others_well heeds past [] all = tt
others_well heeds past (e ∷ told) all = (one_well heeds past e all.0, others_well heeds (past ++ e ∷ []) told all.1)

-- what is put out besides is entered as it is
asleep_other : (fell : Bool) (n : ℕ) → AllByRecursion IsOther (asleep_entry fell n)
asleep_other true n = (tt, tt)
asleep_other false n = tt

neighbours_all : (n : ℕ) (how : How) → AllByRecursion IsOther (neighbours_entry n how)
neighbours_all n (AtResponse (GetRoutingInfo nodes)) = (tt, tt)
neighbours_all n how = tt

failed_all : (n : ℕ) (how : How) → AllByRecursion IsOther (failed_entry n how)
failed_all n (AtResponse (IsFailedNode failed)) = (tt, tt)
failed_all n how = tt

task_other : (h : HostState) (task : Task) (how : How) → AllByRecursion IsOther (task_entries h task how)
task_other h (Plain n payload) how = (tt, tt)
task_other h (NoMore n) how = asleep_other (falls_asleep (node_of h n)) n
task_other h (Second n) how = (tt, tt)
task_other h (Neighbours n) how = neighbours_all n how
task_other h (task_failed n) how = failed_all n how
task_other h task how = tt

-- ---- a command that is to be given up

abbrev pub IsUnanswered : AttemptEnd → Type 0
IsUnanswered (Unanswered fell) = Unit {0}
IsUnanswered end = ⊥

-- the attempt that ends so was the third
pub ends_third : (s : NodeState) → IsUnanswered (attempt_end s) → (s.series ≡ Running) × (nat_lt (s.book.attempts + 1) 3 ≡ false)
ends_third s is = by s.series refl (nat_lt (s.book.attempts + 1) 3) refl is
  where
    by : (x : Series) → s.series ≡ x → (b : Bool) → nat_lt (s.book.attempts + 1) 3 ≡ b → IsUnanswered (if is_running x then (if b then Again else Unanswered (falls_asleep s)) else NoneRan)
        → (s.series ≡ Running) × (nat_lt (s.book.attempts + 1) 3 ≡ false)
    by Idle series b few is = absurd is
    by Due series b few is = absurd is
    by Running series true few is = absurd is
    by Running series false few is = (series, few)

open_so : (s : NodeState) (command : ℕ) → open_command s ≡ Some command → is_node_open s ≡ true
open_so s command opened = by (open_session s.book) refl opened
  where
    by : (o : Option ℕ) → open_session s.book ≡ o → command_by s o ≡ Some command → is_node_open s ≡ true
    by None is got = absurd (let bad : ◌≡◌ {A = Option ℕ} None (Some command) = got in cc)
    by (Some session) is got = ap (λ (o : Option ℕ). is_some o) is

module _ (taken : List Entry → Carried → List Told) (past : List Entry) (h : HostState) (facts : Facts past h) (k : ℕ) (shows : ShowsSessions (heeds_alone taken) past h k) where
  abbrev heeds : Heeds
  heeds = heeds_alone taken

  abbrev s : NodeState
  s = node_of h k

  abbrev a : Attempts
  a = attempts_so_far heeds k past

  -- of a third attempt that is over by the transcript, while a session is open
  pub give_up_at : (command : ℕ) → open_command s ≡ Some command → a.begun ≡ 3 → attempt_is_over heeds past (asked past) (clock past) a ≡ true → is_to_give_up heeds past command ≡ true
  give_up_at command opened three over = by (open_last s)
    where
      by : ((open_session s.book ≡ None) × (open_command s ≡ None)) ⊎ OpenLast s → is_to_give_up heeds past command ≡ true
      by (inl none) = absurd (let no = none.1 in let bad : ◌≡◌ {A = Option ℕ} None (Some command) = sym no ∙ opened in cc)
      by (inr at) =
          let same : at.command ≡ command = let so = at.opened in let both : Some at.command ≡ Some command = sym so ∙ opened in cc in
          let all : AllByRecursion (IsCommandOf h.commands k) (at.front ++ at.command ∷ [])
          = subst (λ (l : List ℕ). AllByRecursion (IsCommandOf h.commands k) l) at.are (recursion_from_All (IsCommandOf h.commands k) s.book.commands (facts.host.owns k).sessions) in
          let of = (all-right (IsCommandOf h.commands k) at.front (at.command ∷ []) all).0 in
          let nodes : shown (node_at at.command) past ≡ k ∷ []
          = facts.accepted.nodes at.command ∙ ap nodes_by of.found ∙ ap (λ (n : ℕ). n ∷ []) of.node in
          let opens : is_open k past ≡ true = shows.opened ∙ open_so s command opened in
          let third : third_is_over heeds past (clock past) a ≡ true = ap₂ (λ (b c : Bool). b && c) (eq-eqb a.begun 3 three) over in
          let gives : to_give_up heeds past (clock past) k ≡ at.command ∷ []
          = ap (λ (l : List Attempts). if is_open k past && list_any (third_is_over heeds past (clock past)) l then last_command k past else []) (each_is heeds (k ∷ []) past)
          ∙ ap₂ (λ (b c : Bool). if b && (c || false) then last_command k past else []) opens third ∙ shows.last ∙ at.last in
          subst (λ (c : ℕ). is_to_give_up heeds past c ≡ true) same
          (ap (λ (l : List ℕ). list_any (λ node. list_any (λ number. number == at.command) (to_give_up heeds past (clock past) node)) l) nodes
          ∙ ap (λ (l : List ℕ). list_any (λ number. number == at.command) l || false) gives ∙ ap (λ (b : Bool). (b || false) || false) (eq-eqb at.command at.command refl))

  -- so where the third attempt of the node ends so
  pub three_begun : (b : NodeState) (time : ℕ) (badly : Bool) → NodeSo a b time badly → b.series ≡ Running → b.book.attempts ≡ s.book.attempts → s.series ≡ Running → nat_lt (s.book.attempts + 1) 3 ≡ false → a.begun ≡ 3
  three_begun b time badly so runs same running few =
      let begun : a.begun ≡ s.book.attempts + 1 = so.are.begun ∙ ap₂ (λ (x : Series) (n : ℕ). begun_of x n) runs same in
      let most = fewer s.series refl (facts.host.nodes.facts k).series in
      let least = ltb-false (s.book.attempts + 1) 3 few in
      omega (arith, begun, most, least)
    where
      fewer : (x : Series) → s.series ≡ x → SeriesFacts x s.book s.attempt_wait s.again_wait s.next_segment s.segments s.text s.pending → s.book.attempts ≤ 2
      fewer Idle is facts = absurd (let bad : Idle ≡ Running = sym is ∙ running in cc)
      fewer Due is facts = facts.0.fewer
      fewer Running is facts = facts.0.fewer

-- entries where an attempt ends
unanswered_well : (heeds : Heeds) (past told : List Entry) (now k : ℕ) (end : AttemptEnd) (command : Option ℕ) → told ≡ attempt_entries k end command → ((e : Entry) (more : List Entry) → told ≡ e ∷ more → clock past ≡ now)
    → ((c : ℕ) → IsUnanswered end → command ≡ Some c → clock past ≡ now → is_to_give_up heeds past c ≡ true) → EachAfter (Well heeds) past told
unanswered_well heeds past told now k NoneRan command are time gives = subst (EachAfter (Well heeds) past) (sym are) tt
unanswered_well heeds past told now k Again command are time gives = subst (EachAfter (Well heeds) past) (sym are) tt
unanswered_well heeds past told now k (Unanswered fell) None are time gives = subst (EachAfter (Well heeds) past) (sym are) (others_well heeds past (asleep_entry fell k) (asleep_other fell k))
unanswered_well heeds past told now k (Unanswered fell) (Some c) are time gives =
    subst (EachAfter (Well heeds) past) (sym are)
    (gives c tt refl (time (entry.Out c ended.Unanswered) (asleep_entry fell k) are), others_well heeds (past ++ entry.Out c ended.Unanswered ∷ []) (asleep_entry fell k) (asleep_other fell k))

-- ---- where the request under way ends

pub signed_attempts : (b : Bool) (s : NodeState) → (signed b s).book.attempts ≡ s.book.attempts
signed_attempts true s = by (is_running s.series)
  where
    by : (r : Bool) → (if r then with_wait s 100 else s).book.attempts ≡ s.book.attempts
    by true = refl
    by false = refl
signed_attempts false s = refl

-- each node is tied to its attempts, at some time
pub record IsTiedTo (heeds : Heeds) (past : List Entry) (h : HostState) (n : ℕ) : Type 0 where
  pub signs : Bool
  pub time : ℕ
  pub now : ℕ
  pub node : NodeSo (attempts_so_far heeds n past) (signed signs (node_of h n)) time (is_badly_over heeds n past h now)
  pub own : (node_of h n).series ≡ Running → (u : UnderWay) → h.requests.under_way ≡ Some u → (attempts_so_far heeds n past).own ≡ is_for n u.purpose

module _ (taken : List Entry → Carried → List Told) (past told : List Entry) (h : HostState) (facts : Facts past h) (now : ℕ) (shows : (n : ℕ) → ShowsSessions (heeds_alone taken) past h n) (event : RequestsEvent)
    (of_told : IsTold event) (tie : (n : ℕ) → IsNode n → IsTiedTo (heeds_alone taken) past h n) (time : (e : Entry) (more : List Entry) → told ≡ e ∷ more → clock past ≡ now) where
  abbrev hears : Heeds
  hears = heeds_alone taken

  abbrev g : HostState
  g = requests_do h event

  abbrev AllWell : Type 0
  AllWell = EachAfter (Well hears) past told

  -- it has ended badly by the transcript
  abbrev EndsBadly : UnderWay → How → Type 0
  EndsBadly u how =
      (k : ℕ) (more : Bool) (payload : List ℕ) → u.purpose ≡ Attempt k more payload → IsNode k → (node_of h k).series ≡ Running → is_bad_part (part_end more how) ≡ true → clock past ≡ now
      → has_ended_badly hears past (asked past) (clock past) k ≡ true

  module _ (u : UnderWay) (under : h.requests.under_way ≡ Some u) (how : How) (nodes : (k : ℕ) (more : Bool) (payload : List ℕ) → u.purpose ≡ Attempt k more payload → IsNode k) (badly : EndsBadly u how) where
    parts : (k : ℕ) (more : Bool) (payload : List ℕ) → u.purpose ≡ Attempt k more payload → (end : PartEnd) → part_end more how ≡ end → told ≡ part_entries g k end → AllWell
    parts k more payload purpose part_good is are = subst (EachAfter (Well hears) past) (sym are) tt
    parts k more payload purpose Passed_over is are = subst (EachAfter (Well hears) past) (sym are) tt
    parts k more payload purpose Bad is are =
        unanswered_well hears past told now k (attempt_end (node_of h k)) (open_command (node_of h k)) are time
        (λ c ends opened at.
        let third = ends_third (node_of h k) ends in
        let node = nodes k more payload purpose in
        let so = tie k node in
        let bad = badly k more payload purpose node third.0 (ap is_bad_part is) at in
        let own = so.own third.0 u under ∙ ap (λ (p : Purpose). is_for k p) purpose ∙ eq-eqb k k refl in
        give_up_at taken past h facts k (shows k) c opened
        (three_begun taken past h facts k (shows k) (signed so.signs (node_of h k)) so.time (is_badly_over hears k past h so.now) so.node (signed_series so.signs (node_of h k) ∙ third.0) (signed_attempts so.signs (node_of h k)) third.0 third.1)
        (over_as hears k past (asked past) (clock past) (attempts_so_far hears k past) (node_is hears k past)
        ∙ or_right (is_late (clock past) (attempts_so_far hears k past)) _ (ap₂ (λ (x y : Bool). x && y) own bad)))

    ends_by : (p : Purpose) → u.purpose ≡ p → told ≡ end_entries g (record { purpose = p; how = how }) → AllWell
    ends_by (Attempt k more payload) is are = parts k more payload is (part_end more how) refl are
    ends_by (Housekeeping task) is are = subst (EachAfter (Well hears) past) (sym are) (others_well hears past (task_entries g task how) (task_other g task how))
    ends_by Abort is are = subst (EachAfter (Well hears) past) (sym are) tt

  pub requests_well : told ≡ request_entries h event → ((u : UnderWay) → h.requests.under_way ≡ Some u → (k : ℕ) (more : Bool) (payload : List ℕ) → u.purpose ≡ Attempt k more payload → IsNode k)
      → ((u : UnderWay) (how : How) → h.requests.under_way ≡ Some u → end_at h.requests event ≡ Some (record { purpose = u.purpose; how = how }) → next_at h.requests event u ≡ Ends how → EndsBadly u how) → AllWell
  requests_well are nodes badly = by (end_at h.requests event) refl are
    where
      by : (o : Option End) → end_at h.requests event ≡ o → told ≡ end_entries_if g o → AllWell
      by None is all = subst (EachAfter (Well hears) past) (sym all) tt
      by (Some end) is all =
          let e = event_ends h.requests event end of_told is in
          ends_by e.u e.under e.how (nodes e.u e.under) (badly e.u e.how e.under (is ∙ ap (λ (x : End). Some x) e.is) e.ends) e.u.purpose refl (all ∙ ap (λ (x : End). end_entries g x) e.is)

-- ---- a tick of a node

waits_kept : (s : NodeState) → (after_again_tick (after_hold_tick s)).attempt_wait ≡ s.attempt_wait
waits_kept s = by (s.again_wait == 1)
  where
    occasion : (n : NodeState) → (after_occasion n).attempt_wait ≡ n.attempt_wait
    occasion n = each (is_node_open n && is_up n && is_idle n.series)
      where
        each : (b : Bool) → (if b then new_series n else n).attempt_wait ≡ n.attempt_wait
        each true = refl
        each false = refl

    again : (n : NodeState) → (after_again n).attempt_wait ≡ n.attempt_wait
    again n = each (has_waiting n)
      where
        each : (b : Bool) → (if b then after_occasion n else n).attempt_wait ≡ n.attempt_wait
        each true = occasion n
        each false = refl

    by : (b : Bool) → (if b then after_again (with_again (after_hold_tick s) 0) else with_again (after_hold_tick s) (s.again_wait - 1)).attempt_wait ≡ s.attempt_wait
    by true = again (with_again (after_hold_tick s) 0)
    by false = refl

-- its third attempt ends where its wait is over
pub tick_third : (s : NodeState) → NodeFacts s → IsUnanswered (tick_end s) → (s.series ≡ Running) × (nat_lt (s.book.attempts + 1) 3 ≡ false) × (s.attempt_wait ≡ 1)
tick_third s facts is = by s.series refl facts.series
  where
    t : NodeState
    t = after_again_tick (after_hold_tick s)

    one : (t.attempt_wait == 1 ≡ true) × IsUnanswered (attempt_end t)
    one = each (t.attempt_wait == 1) refl is
      where
        each : (b : Bool) → (t.attempt_wait == 1) ≡ b → IsUnanswered (if b then attempt_end t else NoneRan) → (t.attempt_wait == 1 ≡ true) × IsUnanswered (attempt_end t)
        each true last ends = (last, ends)
        each false last ends = absurd ends

    wait : s.attempt_wait ≡ 1
    wait = sym (waits_kept s) ∙ eqb-true t.attempt_wait 1 one.0

    by : (x : Series) → s.series ≡ x → SeriesFacts x s.book s.attempt_wait s.again_wait s.next_segment s.segments s.text s.pending
        → (s.series ≡ Running) × (nat_lt (s.book.attempts + 1) 3 ≡ false) × (s.attempt_wait ≡ 1)
    by Idle series so = absurd (let none = so.1.no_wait in let bad : 0 ≡ 1 = sym none ∙ wait in omega (arith, bad))
    by Due series so = absurd (let none = so.2.no_wait in let bad : 0 ≡ 1 = sym none ∙ wait in omega (arith, bad))
    by Running series so =
        let kept : t.book.attempts ≡ s.book.attempts
        = ap (λ (w : ℕ). (if w == 1 then after_again (with_again (after_hold_tick s) 0) else with_again (after_hold_tick s) (w - 1)).book.attempts) so.1 in
        (series, ap (λ (n : ℕ). nat_lt (n + 1) 3) (sym kept) ∙ (ends_third t one.1).1, wait)

-- and the last sign is 100 ticks ago
pub late_now : (told : Attempts) (wait time now : ℕ) → time + 1 ≡ now → wait ≡ 1 → (sign : List ℕ) → told.sign ≡ sign → IsSign sign time wait → is_late now told ≡ true
late_now told wait time now next one [] is so = absurd (let bad : 1 ≡ 0 = sym one ∙ so in omega (arith, bad))
late_now told wait time now next one (tick ∷ more) is (alone, some, at) =
    or_right told.over (list_any (λ k. nat_le (k + 100) now) told.sign)
    (ap (λ (l : List ℕ). list_any (λ k. nat_le (k + 100) now) l) is ∙ or_left (nat_le (tick + 100) now) _ (le-leb (tick + 100) now (omega (arith, next, one, at))))

pub tick_well : (taken : List Entry → Carried → List Told) (past told : List Entry) (h : HostState) → Facts past h → (now k : ℕ) → ShowsSessions (heeds_alone taken) past h k → told ≡ attempt_entries k (tick_end (node_of h k)) (open_command (node_of h k))
    → ((e : Entry) (more : List Entry) → told ≡ e ∷ more → clock past ≡ now) → (time at : ℕ) → time + 1 ≡ now → AttemptsSo (heeds_alone taken) k past h time at → EachAfter (Well (heeds_alone taken)) past told
tick_well taken past told h facts now k shows are timely time at next so =
    unanswered_well (heeds_alone taken) past told now k (tick_end (node_of h k)) (open_command (node_of h k)) are timely
    (λ c ends opened here.
    let s : NodeState = node_of h k in
    let a : Attempts = attempts_so_far (heeds_alone taken) k past in
    let third = tick_third s (facts.host.nodes.facts k) ends in
    let goes = running_goes a s time (is_badly_over (heeds_alone taken) k past h at) so.node.are third.0 in
    give_up_at taken past h facts k shows c opened (three_begun taken past h facts k shows s time (is_badly_over (heeds_alone taken) k past h at) so.node third.0 refl third.0 third.1)
    (over_as (heeds_alone taken) k past (asked past) (clock past) a (node_is (heeds_alone taken) k past)
    ∙ or_left (is_late (clock past) a) _ (ap (λ (n : ℕ). is_late n a) here ∙ late_now a s.attempt_wait time now next third.2 a.sign refl goes.sign)))
