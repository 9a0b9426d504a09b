-- The request of a host hears of the line, the chip or a tick: it goes on, or ends; and each node stays tied to its attempts.
use Rattle.std.proofs.Common.{◌≡◌, ℕ, ◌≤◌, ◌==◌, ◌&&◌, Bool, true, false, if◌then◌else◌, List, ◌++◌, Option, Some, None, refl, sym, ap, ◌∙◌, subst, arith}
use Rattle.std.specs.Prelude.{is_none}
use Rattle.std.specs.List.{AllByRecursion}
use Rattle.serial_link.specs.State.{Side}
use Rattle.chip_functions.specs.declared.response.Response.{Response}
use Rattle.chip_functions.specs.declared.response.Response.TheVariants.{SendData, RequestNodeInfo}
use Rattle.chip_functions.specs.declared.notice.Update.{Update}
use Rattle.zw_text.specs.declared.entry.Entry.{Entry}
use Rattle.zw_text.specs.Transcript.{folded}
use Rattle.host_heard.specs.declared.told.Told.{Told}
use Rattle.law_transcript.specs.Units.{Carried}
use Rattle.law_time.specs.Attempts.{ends_badly}
use Rattle.law_time.specs.Requests.{asked}
use Rattle.host_requests.specs.Events.{RequestsEvent, after as requests_after, end_at}
use Rattle.host_requests.specs.Events.RequestsEvent.{IsSent, Fails, Responds, CallsBack, Updates, Ticks}
use Rattle.host_requests.specs.Next.{at_response, at_sent, at_update, end_from, end_of, judged, next_from, sent_from, went_on}
use Rattle.host_requests.specs.State.{RequestsState}
use Rattle.host_requests.specs.declared.end.End.{End}
use Rattle.host_requests.specs.declared.end.How.{How}
use Rattle.host_requests.specs.declared.end.How.TheVariants as how
use Rattle.host_requests.specs.declared.next.Next.{Next}
use Rattle.host_requests.specs.declared.next.Next.TheVariants.{Ends, GoesOn}
use Rattle.host_requests.specs.declared.under_way.Progress.{Progress}
use Rattle.host_requests.specs.declared.under_way.Progress.TheVariants.{Submitted, Sent, Answered}
use Rattle.host_requests.specs.declared.task.Purpose.{Purpose}
use Rattle.host_requests.specs.declared.task.Purpose.TheVariants.{Attempt, Housekeeping, Abort}
use Rattle.host_requests.specs.declared.under_way.UnderWay.{UnderWay}
use Rattle.host_node.specs.declared.attempt.Moment.{Moment}
use Rattle.host_node.specs.State.{NodeState}
use Rattle.host_model.specs.State.{HostState, node_of}
use Rattle.host_model.specs.After.{after, requests_do}
use Rattle.host_model.specs.Ends.{PartEnd, Bad, end_entries_if, part_end}
use Rattle.host_model.specs.Events.{Requests_do}
use Rattle.host_model.specs.Facts.{HostFacts}
use Rattle.host_model.specs.Outs.{outs, request_entries}
use Rattle.proof_queue.specs.proof_attempts.proof_requests.Ends.{next_at}
use Rattle.proof_queue.specs.proof_attempts.proof_requests.law_host.Heard.{heeds_alone}
use Rattle.proof_queue.specs.proof_attempts.proof_requests.proof_alone.Steps.{AreTold}
use Rattle.proof_queue.specs.proof_attempts.proof_work.Doing.{IsTold}
use Rattle.proof_queue.proofs.Doings.{does_at, end_does, node_after}
use Rattle.proof_queue.proofs.Nodes.{notes_noted}
use Rattle.proof_queue.proofs.Requested.{event_keeps}
use Rattle.proof_queue.proofs.proof_requests_Doing.{end_if_asks}
use Rattle.proof_queue.proofs.proof_requests_Telling.{IsQuiet}
use Rattle.proof_giving.specs.Told.{attempts_so_far}
use Rattle.proof_giving.specs.Stays.{SamePurpose, ShowsSessions}
use Rattle.proof_giving.specs.Tie.{AttemptsAs, AttemptsSo, NodeSo, anew_step, is_good, is_good_for, is_good_of, is_last_of}
use Rattle.proof_giving.proofs.Fewer.{fewer_kept}
use Rattle.proof_giving.proofs.Finished.{BadlyAsTold, EndsWith, ended_goes}
use Rattle.proof_giving.proofs.Over.{notes_tell}
use Rattle.proof_giving.proofs.Quiet.{later_so}
use Rattle.proof_giving.proofs.Staying.{event_along, leaves_so, same_frame, same_last}

-- ---- what it does next

-- it ends so, of a request that was under way
pub record EndsNow (s t : RequestsState) (next : UnderWay → Next) (end : End) : Type 0 where
  pub u : UnderWay
  pub under : s.under_way ≡ Some u
  pub how : How
  pub ends : next u ≡ Ends how
  pub is : end ≡ record { purpose = u.purpose; how = how }
  pub none : t.under_way ≡ None

some_end : (one other : End) → Some one ≡ Some other → other ≡ one
some_end one other is = cc

next_ends : (s : RequestsState) (next : UnderWay → Next) (end : End) (o : Option UnderWay) → s.under_way ≡ o → end_from next o ≡ Some end → EndsNow s (next_from s next o) next end
next_ends s next end None is ends = absurd (let bad : ◌≡◌ {A = Option End} None (Some end) = ends in cc)
next_ends s next end (Some u) is ends = by (next u) refl ends
  where
    by : (n : Next) → next u ≡ n → end_of u n ≡ Some end → EndsNow s (went_on s u n) next end
    by (GoesOn progress) goes ends = absurd (let bad : ◌≡◌ {A = Option End} None (Some end) = ends in cc)
    by (Ends it) goes ends = record { u = u; under = is; how = it; ends = goes; is = some_end (record { purpose = u.purpose; how = it }) end ends; none = refl }

next_stays : (s : RequestsState) (next : UnderWay → Next) (o : Option UnderWay) → s.under_way ≡ o → end_from next o ≡ None → is_none (next_from s next o).under_way ≡ is_none o
next_stays s next None is none = ap (λ (p : Option UnderWay). is_none p) is
next_stays s next (Some u) is none = by (next u) none
  where
    by : (n : Next) → end_of u n ≡ None → is_none (went_on s u n).under_way ≡ false
    by (GoesOn progress) none = refl
    by (Ends it) none = absurd (let bad : Some (record { purpose = u.purpose; how = it }) ≡ None = none in cc)

pub event_ends : (s : RequestsState) (event : RequestsEvent) (end : End) → IsTold event → end_at s event ≡ Some end → EndsNow s (requests_after s event) (next_at s event) end
event_ends s IsSent end told is = next_ends s at_sent end s.under_way refl is
event_ends s Fails end told is = next_ends s (λ u. Ends how.LinkFailed) end s.under_way refl is
event_ends s (Responds response) end told is = next_ends s (next_at s (Responds response)) end s.under_way refl is
event_ends s (CallsBack id status) end told is = next_ends s (next_at s (CallsBack id status)) end s.under_way refl is
event_ends s (Updates update) end told is = next_ends s (next_at s (Updates update)) end s.under_way refl is
event_ends s Ticks end told is = next_ends s (next_at s Ticks) end s.under_way refl is
event_ends s event end told is = absurd told

event_stays : (s : RequestsState) (event : RequestsEvent) → IsTold event → end_at s event ≡ None → is_none (requests_after s event).under_way ≡ is_none s.under_way
event_stays s IsSent told none = next_stays s at_sent s.under_way refl none
event_stays s Fails told none = next_stays s (λ u. Ends how.LinkFailed) s.under_way refl none
event_stays s (Responds response) told none = next_stays s (next_at s (Responds response)) s.under_way refl none
event_stays s (CallsBack id status) told none = next_stays s (next_at s (CallsBack id status)) s.under_way refl none
event_stays s (Updates update) told none = next_stays s (next_at s (Updates update)) s.under_way refl none
event_stays s Ticks told none = next_stays s (next_at s Ticks) s.under_way refl none
event_stays s event told none = absurd told

pub requests_are : (h : HostState) (event : RequestsEvent) (moment : Moment) → (after h (Requests_do event moment)).requests ≡ requests_after h.requests event
requests_are h event moment = ap (λ (p : Side × RequestsState). p.1) (end_if_asks (requests_do h event) (end_at h.requests event) moment)

-- ---- which ends are good

pub how_not_good : (n : ℕ) (p : Purpose) (it : How) → ((more : Bool) → part_end more it ≡ Bad) → is_good_of n p it ≡ false
how_not_good n (Attempt k more payload) it bad = ap (λ (e : PartEnd). (k == n) && is_good e) (bad more) ∙ and_false (k == n)
  where
    and_false : (b : Bool) → (b && false) ≡ false
    and_false true = refl
    and_false false = refl
how_not_good n (Housekeeping task) it bad = refl
how_not_good n Abort it bad = refl

-- none of these is
abbrev pub NoGood : ℕ → Purpose → Next → Type 0
NoGood n p (GoesOn progress) = Unit {0}
NoGood n p (Ends it) = is_good_of n p it ≡ false

either_no_good : (n : ℕ) (p : Purpose) (b : Bool) (x y : Next) → NoGood n p x → NoGood n p y → NoGood n p (if b then x else y)
either_no_good n p true x y one other = one
either_no_good n p false x y one other = other

pub next_no_good : (n : ℕ) (s : RequestsState) (next : UnderWay → Next) → ((u : UnderWay) → NoGood n u.purpose (next u)) → is_good_for n (end_from next s.under_way) ≡ false
next_no_good n s next none = by s.under_way
  where
    ended : (u : UnderWay) (x : Next) → NoGood n u.purpose x → is_good_for n (end_of u x) ≡ false
    ended u (GoesOn progress) no_good = refl
    ended u (Ends it) no_good = no_good

    by : (o : Option UnderWay) → is_good_for n (end_from next o) ≡ false
    by None = refl
    by (Some u) = ended u (next u) (none u)

bad_refused : (more : Bool) → part_end more how.Refused ≡ Bad
bad_refused true = refl
bad_refused false = refl

bad_response : (response : Response) (more : Bool) → part_end more (how.AtResponse response) ≡ Bad
bad_response response true = refl
bad_response response false = refl

bad_update : (update : Update) (first : Option ℕ) (more : Bool) → part_end more (how.AtUpdate update first) ≡ Bad
bad_update update first true = refl
bad_update update first false = refl

pub bad_failed : (more : Bool) → part_end more how.LinkFailed ≡ Bad
bad_failed true = refl
bad_failed false = refl

pub bad_silent : (more : Bool) → part_end more how.Silent ≡ Bad
bad_silent true = refl
bad_silent false = refl

pub sent_no_good : (n : ℕ) (s : RequestsState) → is_good_for n (end_at s IsSent) ≡ false
sent_no_good n s = next_no_good n s at_sent (λ u. by u.purpose u.progress)
  where
    by : (p : Purpose) (progress : Progress) → NoGood n p (sent_from p progress)
    by (Attempt k more payload) Submitted = tt
    by (Attempt k more payload) (Sent left) = tt
    by (Attempt k more payload) (Answered sent left) = tt
    by (Housekeeping task) Submitted = tt
    by (Housekeeping task) (Sent left) = tt
    by (Housekeeping task) (Answered sent left) = tt
    by Abort Submitted = refl
    by Abort (Sent left) = tt
    by Abort (Answered sent left) = tt

pub failing_no_good : (n : ℕ) (s : RequestsState) → is_good_for n (end_at s Fails) ≡ false
failing_no_good n s = next_no_good n s (λ u. Ends how.LinkFailed) (λ u. how_not_good n u.purpose how.LinkFailed bad_failed)

pub response_no_good : (n : ℕ) (s : RequestsState) (response : Response) → is_good_for n (end_at s (Responds response)) ≡ false
response_no_good n s response = next_no_good n s (at_response response) (λ u. either_no_good n u.purpose _ (GoesOn u.progress) (judged response u) tt (judged_none response u))
  where
    refused : (u : UnderWay) (b : Bool) (progress : Progress) → NoGood n u.purpose (if b then Ends how.Refused else GoesOn progress)
    refused u b progress = either_no_good n u.purpose b (Ends how.Refused) (GoesOn progress) (how_not_good n u.purpose how.Refused bad_refused) tt

    judged_none : (response : Response) (u : UnderWay) → NoGood n u.purpose (judged response u)
    judged_none (SendData answer) u = refused u (answer == 0) _
    judged_none (RequestNodeInfo answer) u = refused u (answer == 0) _
    judged_none response u = how_not_good n u.purpose (how.AtResponse response) (bad_response response)

pub update_no_good : (n : ℕ) (s : RequestsState) (update : Update) → is_good_for n (end_at s (Updates update)) ≡ false
update_no_good n s update =
    next_no_good n s (at_update s.first update)
    (λ u. either_no_good n u.purpose _ (Ends (how.AtUpdate update s.first)) (GoesOn u.progress) (how_not_good n u.purpose (how.AtUpdate update s.first) (bad_update update s.first)) tt)

-- ---- each node

module _ (ends : EndsWith) (taken : List Entry → Carried → List Told) (n : ℕ) (to : n ≤ 232) (past told : List Entry) (h : HostState) (event : RequestsEvent) (moment : Moment) (time before now : ℕ) (of_told : IsTold event)
    (are : AreTold (outs h (Requests_do event moment)) told) (quiet : AllByRecursion IsQuiet told) (facts : HostFacts h) (others : HostFacts (after h (Requests_do event moment)))
    (shows : ShowsSessions (heeds_alone taken) past h n) (showing : ShowsSessions (heeds_alone taken) (past ++ told) (after h (Requests_do event moment)) n)
    (so : AttemptsAs (is_good_for n (end_at h.requests event)) (heeds_alone taken) n past h time before) where
  abbrev g : HostState
  g = after h (Requests_do event moment)

  abbrev s : NodeState
  s = node_of h n

  -- where it goes on
  stays_under : end_at h.requests event ≡ None → SamePurpose h.requests g.requests
  stays_under none = record {
    none = ap (λ (r : RequestsState). is_none r.under_way) (requests_are h event moment) ∙ event_stays h.requests event of_told none;
    same = (event_keeps h (Requests_do event moment) of_told).same;
  }

  goes_by : end_at h.requests event ≡ None → AttemptsAs (is_good_for n (end_at h.requests event)) (heeds_alone taken) n past h time now → AttemptsSo (heeds_alone taken) n (past ++ told) g time now
  goes_by none so =
      leaves_so taken n to past told h (Requests_do event moment) are quiet tt facts others shows showing false false time time now
      (subst (λ (b : Bool). AttemptsAs b (heeds_alone taken) n past h time now) (ap (λ (o : Option End). is_good_for n o) none) so) (stays_under none)
      (fewer_kept h (Requests_do event moment) n (let all = facts.nodes.places in omega (arith, all, to)) tt)
      (λ badly tie.
      subst (λ (l : List Entry). NodeSo (folded (anew_step (is_last_of s)) (attempts_so_far (heeds_alone taken) n past) l) (node_of g n) time badly)
      (sym (notes_noted (request_entries h event) ∙ ap (λ (o : Option End). end_entries_if (requests_do h event) o) none))
      (subst (λ (t : NodeState). NodeSo (attempts_so_far (heeds_alone taken) n past) t time badly)
      (sym (node_after h (Requests_do event moment) n (let all = facts.nodes.places in omega (arith, all, to)) ∙ ap (λ (o : Option End). does_at n s (end_does o moment)) none)) tie))

  pub request_goes : ((attempts_so_far (heeds_alone taken) n past).own ≡ true → h.requests.under_way ≡ None → (inner : Bool) → ends_badly (asked past) inner now ≡ ends_badly (asked past) inner before)
      → ((u : UnderWay) (it : How) → h.requests.under_way ≡ Some u → next_at h.requests event u ≡ Ends it → end_at h.requests event ≡ Some (record { purpose = u.purpose; how = it })
      → g.requests.under_way ≡ None → BadlyAsTold ends taken n to past told h event moment time before now facts so others u it)
      → AttemptsSo (heeds_alone taken) n (past ++ told) g time now
  request_goes stays badly = by (end_at h.requests event) refl
    where
      by : (o : Option End) → end_at h.requests event ≡ o → AttemptsSo (heeds_alone taken) n (past ++ told) g time now
      by None is = goes_by is (later_so taken n (is_good_for n (end_at h.requests event)) past h time before so now stays)
      by (Some end) is =
          let e = event_ends h.requests event end of_told is in
          let end_is : end_at h.requests event ≡ Some (record { purpose = e.u.purpose; how = e.how }) = is ∙ ap (λ (x : End). Some x) e.is in
          let none : g.requests.under_way ≡ None = ap (λ (r : RequestsState). r.under_way) (requests_are h event moment) ∙ e.none in
          ended_goes ends taken n to past told h event moment time before now facts so others e.u e.under e.how end_is none (badly e.u e.how e.under e.ends end_is none)
          (event_along h (Requests_do event moment) told tt quiet are) (same_last taken n to past told h (Requests_do event moment) are quiet tt facts others shows showing)
          (notes_tell (is_last_of s) (outs h (Requests_do event moment)) told are (attempts_so_far (heeds_alone taken) n past)
          ∙ ap (λ (l : List Entry). folded (anew_step (is_last_of s)) (attempts_so_far (heeds_alone taken) n past) l) (notes_noted (request_entries h event)))
          (same_frame taken n to past told h (Requests_do event moment) are quiet tt facts others shows showing)
