-- The request of a host ends: the attempt of its node goes on where that is good, or passed over; it is over where that is bad; and no other attempt is.
use Rattle.std.proofs.Common.{◌≡◌, ℕ, ◌≤◌, ◌<◌, ◌==◌, ◌&&◌, Bool, true, false, if◌then◌else◌, List, [], ◌∷◌, ◌++◌, length, Option, Some, None, refl, sym, ap, ap₂, ◌∙◌, subst, arith}
use Rattle.std.specs.Prelude.{is_none}
use Rattle.std.specs.List.{AllByRecursion}
use Rattle.std.proofs.lemmas.Bool.{and_parts, both_ways, eqb-true, or_right, and_right}
use Rattle.zw_text.specs.declared.entry.Entry.{Entry}
use Rattle.zw_text.specs.declared.entry.Entry.TheVariants as entry
use Rattle.zw_text.specs.Transcript.{folded}
use Rattle.host_heard.specs.declared.told.Told.{Told}
use Rattle.law_transcript.specs.Units.{Carried}
use Rattle.law_time.specs.Attempts.{Attempts, anew, is_late}
use Rattle.law_time.specs.Heeds.{Heeds}
use Rattle.law_time.specs.Requests.{asked}
use Rattle.law_time.specs.Sessions.{is_last_command}
use Rattle.host_requests.specs.Events.{RequestsEvent, end_at}
use Rattle.host_requests.specs.declared.end.End.{End}
use Rattle.host_requests.specs.declared.end.How.{How}
use Rattle.host_requests.specs.declared.task.Purpose.{Purpose}
use Rattle.host_requests.specs.declared.task.Purpose.TheVariants.{Attempt, Housekeeping, Abort}
use Rattle.host_requests.specs.declared.under_way.UnderWay.{UnderWay}
use Rattle.host_node.specs.declared.attempt.Moment.{Moment}
use Rattle.host_node.specs.declared.series.Series.TheVariants.{Running}
use Rattle.host_node.specs.State.{NodeState}
use Rattle.host_node.specs.Steps.{after_sign}
use Rattle.host_model.specs.State.{HostState, node_of}
use Rattle.host_model.specs.After.{after, requests_do}
use Rattle.host_model.specs.Ends.{PartEnd, Good, Passed_over, Bad, end_entries, end_entries_if, part_end, part_entries}
use Rattle.host_model.specs.Events.{Requests_do}
use Rattle.host_model.specs.Facts.{HostFacts}
use Rattle.host_model.specs.Outs.{request_entries}
use Rattle.proof_queue.specs.proof_attempts.Attempts.{has_ended_badly, is_over_by}
use Rattle.proof_queue.specs.proof_attempts.proof_requests.law_host.Heard.{heeds_alone}
use Rattle.proof_queue.proofs.Doings.{does_at, end_does, node_after, part_does, purpose_does}
use Rattle.proof_giving.specs.Told.{GoesAlong, attempts_so_far}
use Rattle.proof_giving.specs.Tie.{AttemptsAs, AttemptsSo, IsNoAbort, NodeSo, anew_step, is_bad_for, is_bad_of, is_bad_part, is_badly_over, is_for, is_good, is_good_for, is_good_of, is_last_of, signed}
use Rattle.proof_giving.proofs.Along.{sealing_kept, signed_series}
use Rattle.proof_giving.proofs.Fewer.{fewer_kept}
use Rattle.proof_giving.proofs.NodesGo.{badly_so}
use Rattle.proof_giving.proofs.Orders.{event_keeps}
use Rattle.proof_giving.proofs.Over.{along_goes}

-- attempts that began anew have no request
own_step : (last : ℕ → Bool) (a : Attempts) (e : Entry) → (anew_step last a e).own ≡ true → a.own ≡ true
own_step last a (entry.Out command how) is = by (last command) is
  where
    by : (b : Bool) → (if b then anew a else a).own ≡ true → a.own ≡ true
    by true is = absurd (let bad : false ≡ true = is in cc)
    by false is = is
own_step last a e is = is

pub own_before : (last : ℕ → Bool) (a : Attempts) (entries : List Entry) → (folded (anew_step last) a entries).own ≡ true → a.own ≡ true
own_before last a [] is = is
own_before last a (e ∷ more) is = own_step last a e (own_before last (anew_step last a e) more is)

-- what the end of a request that is no good one of a node's gives of it
abbrev pub EndsWith : Type 0
EndsWith =
    (h : HostState) (event : RequestsEvent) (moment : Moment) (n : ℕ) (told : Attempts) (time : ℕ) (badly later : Bool) → HostFacts h → n ≤ 232 → NodeSo told (node_of h n) time badly
    → (badly ≡ true → later ≡ true) → is_good_for n (end_at h.requests event) ≡ false
    → ((node_of h n).series ≡ Running → is_bad_for n (end_at h.requests event) ≡ false → (told.own && later) ≡ false)
    → ((node_of h n).series ≡ Running → is_bad_for n (end_at h.requests event) ≡ true → is_over_by time later told ≡ true)
    → NodeSo (folded (anew_step (is_last_of (node_of h n))) told (request_entries h event)) (node_of (after h (Requests_do event moment)) n) time later

module _ (ends : EndsWith) (taken : List Entry → Carried → List Told) (n : ℕ) (to : n ≤ 232) (past told : List Entry) (h : HostState) (event : RequestsEvent) (moment : Moment) (time before now : ℕ) (facts : HostFacts h)
    (so : AttemptsAs (is_good_for n (end_at h.requests event)) (heeds_alone taken) n past h time before) (others : HostFacts (after h (Requests_do event moment))) where
  abbrev heeds : Heeds
  heeds = heeds_alone taken

  abbrev a : Attempts
  a = attempts_so_far heeds n past

  abbrev s : NodeState
  s = node_of h n

  abbrev g : HostState
  g = after h (Requests_do event moment)

  abbrev later : Bool
  later = is_badly_over heeds n (past ++ told) g now

  -- it has ended badly by the transcript just where that is bad for its attempt, if that runs
  abbrev pub BadlyAsTold : UnderWay → How → Type 0
  BadlyAsTold u how =
      (more : Bool) (payload : List ℕ) → u.purpose ≡ Attempt n more payload → (node_of h n).series ≡ Running
      → has_ended_badly heeds (past ++ told) (asked (past ++ told)) now n ≡ is_bad_part (part_end more how)

  module _ (u : UnderWay) (under : h.requests.under_way ≡ Some u) (how : How) (end_is : end_at h.requests event ≡ Some (record { purpose = u.purpose; how = how })) (none : g.requests.under_way ≡ None)
      (badly : BadlyAsTold u how) where
    masked : is_badly_over heeds n past h before ≡ false
    masked = ap (λ (o : Option UnderWay). is_none o && has_ended_badly heeds past (asked past) before n) under

    later_is : later ≡ has_ended_badly heeds (past ++ told) (asked (past ++ told)) now n
    later_is = ap (λ (o : Option UnderWay). is_none o && has_ended_badly heeds (past ++ told) (asked (past ++ told)) now n) none

    -- by what the request was for
    own_not : s.series ≡ Running → is_for n u.purpose ≡ false → (a.own && later) ≡ false
    own_not runs other = ap (λ (o : Bool). o && later) (so.own runs u under ∙ other)

    part_not : s.series ≡ Running → (more : Bool) (payload : List ℕ) → u.purpose ≡ Attempt n more payload → is_bad_part (part_end more how) ≡ false → (a.own && later) ≡ false
    part_not runs more payload is good = ap (λ (l : Bool). a.own && l) (later_is ∙ badly more payload is runs ∙ good) ∙ and_right a.own false refl

    same_attempt : (k : ℕ) (more : Bool) (payload : List ℕ) → u.purpose ≡ Attempt k more payload → (k == n) ≡ true → u.purpose ≡ Attempt n more payload
    same_attempt k more payload is same = is ∙ ap (λ (m : ℕ). Attempt m more payload) (eqb-true k n same)

    not_bad : s.series ≡ Running → (p : Purpose) → u.purpose ≡ p → is_bad_of n p how ≡ false → (a.own && later) ≡ false
    not_bad runs (Attempt k more payload) is other = by (k == n) refl other
      where
        by : (b : Bool) → (k == n) ≡ b → (b && is_bad_part (part_end more how)) ≡ false → (a.own && later) ≡ false
        by true same good = part_not runs more payload (same_attempt k more payload is same) good
        by false differs good = own_not runs (ap (λ (p : Purpose). is_for n p) is ∙ differs)
    not_bad runs (Housekeeping task) is other = own_not runs (ap (λ (p : Purpose). is_for n p) is)
    not_bad runs Abort is other = own_not runs (ap (λ (p : Purpose). is_for n p) is)

    is_bad : s.series ≡ Running → (p : Purpose) → u.purpose ≡ p → is_bad_of n p how ≡ true → is_over_by time later a ≡ true
    is_bad runs (Attempt k more payload) is bad =
        let parts = and_parts (k == n) (is_bad_part (part_end more how)) bad in
        let own : a.own ≡ true = so.own runs u under ∙ ap (λ (p : Purpose). is_for n p) is ∙ parts.0 in
        let ended : later ≡ true = later_is ∙ badly more payload (same_attempt k more payload is parts.0) runs ∙ parts.1 in
        or_right (is_late time a) (a.own && later) (ap₂ (λ (b c : Bool). b && c) own ended)
    is_bad runs (Housekeeping task) is bad = absurd (let no : false ≡ true = bad in cc)
    is_bad runs Abort is bad = absurd (let no : false ≡ true = bad in cc)

    abbrev Goes : Type 0
    Goes = NodeSo (folded (anew_step (is_last_of s)) a (request_entries h event)) (node_of g n) time later

    never : is_badly_over heeds n past h before ≡ true → later ≡ true
    never was = absurd (both_ways (is_badly_over heeds n past h before) masked was)

    -- no good end of its own
    other_goes : is_good_for n (end_at h.requests event) ≡ false → Goes
    other_goes other =
        ends h event moment n a time (is_badly_over heeds n past h before) later facts to
        (subst (λ (b : Bool). NodeSo a (signed b s) time (is_badly_over heeds n past h before)) other so.node) never other
        (λ runs is. not_bad runs u.purpose refl (sym (ap (λ (o : Option End). is_bad_for n o) end_is) ∙ is))
        (λ runs is. is_bad runs u.purpose refl (sym (ap (λ (o : Option End). is_bad_for n o) end_is) ∙ is))

    -- a good one
    within : n < length h.nodes
    within = let all = facts.nodes.places in omega (arith, all, to)

    good_goes : is_good_for n (end_at h.requests event) ≡ true → (p : Purpose) → u.purpose ≡ p → is_good_of n p how ≡ true → Goes
    good_goes mine (Attempt k more payload) is good =
        let parts = and_parts (k == n) (is_good (part_end more how)) good in
        by (part_end more how) refl parts.0 parts.1
      where
        by : (e : PartEnd) → part_end more how ≡ e → (k == n) ≡ true → is_good e ≡ true → Goes
        by Good e_is same so_good =
            let entries : request_entries h event ≡ []
            = ap (λ (o : Option End). end_entries_if (requests_do h event) o) end_is
            ∙ ap (λ (p : Purpose). end_entries (requests_do h event) (record { purpose = p; how = how })) is ∙ ap (λ (e : PartEnd). part_entries (requests_do h event) k e) e_is in
            let node : node_of g n ≡ after_sign s
            = node_after h (Requests_do event moment) n within ∙ ap (λ (o : Option End). does_at n s (end_does o moment)) end_is
            ∙ ap (λ (p : Purpose). does_at n s (purpose_does p how moment)) is ∙ ap (λ (e : PartEnd). does_at n s (part_does k e moment)) e_is
            ∙ ap (λ (b : Bool). if b then after_sign s else s) same in
            subst (λ (l : List Entry). NodeSo (folded (anew_step (is_last_of s)) a l) (node_of g n) time later) (sym entries)
            (subst (λ (t : NodeState). NodeSo a t time later) (sym node)
            (badly_so a (after_sign s) time (is_badly_over heeds n past h before)
            (subst (λ (b : Bool). NodeSo a (signed b s) time (is_badly_over heeds n past h before)) mine so.node) later never
            (λ runs.
            part_not (sym (signed_series true s) ∙ runs) more payload (same_attempt k more payload is same) (ap is_bad_part e_is))))
        by Passed_over e_is same so_good = absurd (let bad : false ≡ true = so_good in cc)
        by Bad e_is same so_good = absurd (let bad : false ≡ true = so_good in cc)
    good_goes mine (Housekeeping task) is good = absurd (let bad : false ≡ true = good in cc)
    good_goes mine Abort is good = absurd (let bad : false ≡ true = good in cc)

    node_goes : Goes
    node_goes = by (is_good_for n (end_at h.requests event)) refl
      where
        by : (b : Bool) → is_good_for n (end_at h.requests event) ≡ b → Goes
        by true is = good_goes is u.purpose refl (sym (ap (λ (o : Option End). is_good_for n o) end_is) ∙ is)
        by false is = other_goes is

    pub ended_goes : AllByRecursion GoesAlong told → ((command : ℕ) → is_last_command n past command ≡ is_last_of s command)
        → folded (anew_step (is_last_of s)) a told ≡ folded (anew_step (is_last_of s)) a (request_entries h event) → (asked (past ++ told)).frame ≡ (asked past).frame
        → AttemptsSo heeds n (past ++ told) g time now
    ended_goes all last notes frame = record {
      node = subst (λ (x : Attempts). NodeSo x (node_of g n) time later) (sym told_is) node_goes;
      own = λ runs v it. none_under v it;
      inner = λ runs v more payload it purpose. none_under v it;
      sends = λ it. subst IsNoAbort (sym frame) (so.sends (own_before (is_last_of s) a (request_entries h event) (sym (ap (λ (x : Attempts). x.own) told_is) ∙ it)));
      seals = λ has. sealing_kept h g n (event_keeps h (Requests_do event moment) n within tt) others has (so.seals ((fewer_kept h (Requests_do event moment) n within tt).seals has));
    }
      where
        told_is : attempts_so_far heeds n (past ++ told) ≡ folded (anew_step (is_last_of s)) a (request_entries h event)
        told_is = along_goes taken n past told (is_last_of s) all last ∙ notes

        none_under : {A : Type 0} (v : UnderWay) → g.requests.under_way ≡ Some v → A
        none_under v it = absurd (let no : ◌≡◌ {A = Option UnderWay} None (Some v) = sym none ∙ it in cc)
