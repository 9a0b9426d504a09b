-- An interview ends, kept or not: the request of it was of no attempt, and each node stays tied to its attempts.
use Rattle.std.proofs.Common.{◌≡◌, ℕ, ◌≤◌, ◌<◌, ◌&&◌, Bool, true, false, if◌then◌else◌, List, ◌++◌, length, Option, Some, None, refl, sym, ap, ◌∙◌, subst, arith}
use Rattle.std.specs.Prelude.{IsSome, is_none}
use Rattle.std.specs.List.{AllByRecursion}
use Rattle.std.proofs.lemmas.Bool.{both_ways}
use Rattle.chip_functions.specs.declared.notice.Update.{Update}
use Rattle.chip_functions.specs.declared.notice.Update.TheVariants.{Received, RequestFailed}
use Rattle.zw_text.specs.declared.entry.Entry.{Entry}
use Rattle.zw_text.specs.Transcript.{folded}
use Rattle.host_heard.specs.declared.told.Told.{Told}
use Rattle.law_transcript.specs.Units.{Carried}
use Rattle.law_time.specs.Attempts.{Attempts}
use Rattle.law_time.specs.Heeds.{Heeds}
use Rattle.law_time.specs.Requests.{asked}
use Rattle.host_requests.specs.Events.{after as requests_after, interviewed_by, interviewed_from}
use Rattle.host_requests.specs.Events.RequestsEvent.{Updates}
use Rattle.host_requests.specs.Next.{at_update, next_from, purpose_ends_at_update, went_on}
use Rattle.host_requests.specs.State.{RequestsState}
use Rattle.host_requests.specs.declared.end.How.TheVariants.{AtUpdate}
use Rattle.host_requests.specs.declared.next.Next.TheVariants.{Ends, GoesOn}
use Rattle.host_requests.specs.declared.task.Purpose.{Purpose}
use Rattle.host_requests.specs.declared.task.Purpose.TheVariants.{Attempt, Housekeeping, Abort}
use Rattle.host_requests.specs.declared.under_way.UnderWay.{UnderWay}
use Rattle.host_node.specs.declared.series.Series.TheVariants.{Running}
use Rattle.host_node.specs.State.{NodeState}
use Rattle.host_model.specs.State.{HostState, node_of}
use Rattle.host_model.specs.After.{after}
use Rattle.host_model.specs.Events.{HostEvent, Interview_unkept, Interviews}
use Rattle.host_model.specs.Facts.{HostFacts}
use Rattle.host_model.specs.May.{May}
use Rattle.host_model.specs.Outs.{outs}
use Rattle.proof_host.specs.Entries.{notes_of}
use Rattle.proof_queue.specs.proof_attempts.Attempts.{has_ended_badly}
use Rattle.proof_queue.specs.proof_attempts.proof_requests.law_host.Heard.{heeds_alone}
use Rattle.proof_queue.specs.proof_attempts.proof_requests.proof_alone.Steps.{AreTold}
use Rattle.proof_queue.proofs.Doings.{node_after}
use Rattle.proof_queue.proofs.proof_requests_Telling.{IsQuiet}
use Rattle.proof_giving.specs.Told.{attempts_so_far}
use Rattle.proof_giving.specs.Stays.{NoSession, NothingBegins, ShowsSessions}
use Rattle.proof_giving.specs.Tie.{AttemptsAs, IsNoAbort, NodeSo, anew_step, is_badly_over, is_for, is_last_of, signed}
use Rattle.proof_giving.proofs.Along.{sealing_kept, signed_series}
use Rattle.proof_giving.proofs.Fewer.{fewer_kept}
use Rattle.proof_giving.proofs.Finished.{own_before}
use Rattle.proof_giving.proofs.Mild.{IsNoSign, mild_goes}
use Rattle.proof_giving.proofs.NodesGo.{badly_so}
use Rattle.proof_giving.proofs.Orders.{event_keeps}
use Rattle.proof_giving.proofs.Staying.{same_frame, told_is}

-- the update of an event that ends one
abbrev pub Ending : HostEvent → Update → Type 0
Ending (Interviews n listens classes update) other = other ≡ update
Ending (Interview_unkept n update) other = other ≡ update
Ending event other = ⊥

ending_calm : (event : HostEvent) (update : Update) → Ending event update → NoSession event
ending_calm (Interviews n listens classes other) update is = tt
ending_calm (Interview_unkept n other) update is = tt
ending_calm event update is = absurd is

ending_begins : (event : HostEvent) (update : Update) → Ending event update → NothingBegins event
ending_begins (Interviews n listens classes other) update is = tt
ending_begins (Interview_unkept n other) update is = tt
ending_begins event update is = absurd is

ending_unsigned : (event : HostEvent) (update : Update) → Ending event update → IsNoSign event
ending_unsigned (Interviews n listens classes other) update is = tt
ending_unsigned (Interview_unkept n other) update is = tt
ending_unsigned event update is = absurd is

-- it ends a request that is of no attempt
pub record EndsOther (s : RequestsState) (update : Update) : Type 0 where
  pub u : UnderWay
  pub under : s.under_way ≡ Some u
  pub other : (n : ℕ) → is_for n u.purpose ≡ false
  none : (requests_after s (Updates update)).under_way ≡ None

pub ends_other : (s : RequestsState) (update : Update) → IsSome (interviewed_by s update) → EndsOther s update
ends_other s update some = by s.under_way refl update some
  where
    nothing : {A : Type 0} → false ≡ true → A
    nothing some = absurd (let bad : false ≡ true = some in cc)

    by : (o : Option UnderWay) → s.under_way ≡ o → (update : Update) → IsSome (interviewed_from s.first update o) → EndsOther s update
    by None is (Received n basic generic specific classes) some = nothing some
    by None is RequestFailed some = nothing some
    by (Some u) is RequestFailed some = nothing some
    by (Some u) is (Received n basic generic specific classes) some = ends (purpose_ends_at_update (Received n basic generic specific classes) u.purpose) refl some
      where
        heard : Update
        heard = Received n basic generic specific classes

        not_for : (p : Purpose) → purpose_ends_at_update heard p ≡ true → (m : ℕ) → is_for m p ≡ false
        not_for (Attempt k more payload) ends m = absurd (let bad : false ≡ true = ends in cc)
        not_for (Housekeeping task) ends m = refl
        not_for Abort ends m = refl

        ends : (b : Bool) → purpose_ends_at_update heard u.purpose ≡ b → IsSome (if b then s.first else None) → EndsOther s heard
        ends true so some = record {
          u = u;
          under = is;
          other = not_for u.purpose so;
          none = ap (λ (o : Option UnderWay). (next_from s (at_update s.first heard) o).under_way) is
              ∙ ap (λ (b : Bool). (went_on s u (if b then Ends (AtUpdate heard s.first) else GoesOn u.progress)).under_way) so;
        }
        ends false so some = nothing some

module _ (taken : List Entry → Carried → List Told) (n : ℕ) (to : n ≤ 232) (past told : List Entry) (h : HostState) (update : Update) (event : HostEvent) (of_it : Ending event update) (some : IsSome (interviewed_by h.requests update))
    (may : May h event) (are : AreTold (outs h event) told) (quiet : AllByRecursion IsQuiet told) (facts : HostFacts h) (others : HostFacts (after h event)) (shows : ShowsSessions (heeds_alone taken) past h n)
    (showing : ShowsSessions (heeds_alone taken) (past ++ told) (after h event) n) (now : ℕ) (b : Bool) (so : AttemptsAs b (heeds_alone taken) n past h now now) where
  abbrev heeds : Heeds
  heeds = heeds_alone taken

  abbrev g : HostState
  g = after h event

  abbrev a : Attempts
  a = attempts_so_far heeds n past

  abbrev later : Attempts
  later = folded (anew_step (is_last_of (node_of h n))) a (notes_of (outs h event))

  within : n < length h.nodes
  within = let all = facts.nodes.places in omega (arith, all, to)

  interview : EndsOther h.requests update
  interview = ends_other h.requests update some

  none : g.requests.under_way ≡ None
  none = by event of_it
    where
      by : (event : HostEvent) → Ending event update → (after h event).requests.under_way ≡ None
      by (Interviews k listens classes other) is = ap (λ (u : Update). (requests_after h.requests (Updates u)).under_way) (sym is) ∙ interview.none
      by (Interview_unkept k other) is = ap (λ (u : Update). (requests_after h.requests (Updates u)).under_way) (sym is) ∙ interview.none
      by event is = absurd is

  masked : is_badly_over heeds n past h now ≡ false
  masked = ap (λ (o : Option UnderWay). is_none o && has_ended_badly heeds past (asked past) now n) interview.under

  -- it was of no attempt that runs
  not_own : later.own ≡ true → (node_of g n).series ≡ Running → ⊥
  not_own own runs =
      both_ways a.own (so.own ((fewer_kept h event n within (ending_begins event update of_it)).runs runs) interview.u interview.under ∙ interview.other n)
      (own_before (is_last_of (node_of h n)) a (notes_of (outs h event)) own)

  pub interviewed_goes : AttemptsAs b heeds n (past ++ told) g now now
  interviewed_goes = record {
    node = subst (λ (x : Attempts). NodeSo x (signed b (node_of g n)) now over) (sym told_so)
        (badly_so later (signed b (node_of g n)) now (is_badly_over heeds n past h now)
        (subst (λ (t : NodeState). NodeSo later (signed b t) now (is_badly_over heeds n past h now)) (sym (node_after h event n within))
        (mild_goes h n facts a now (is_badly_over heeds n past h now) b event may (ending_unsigned event update of_it) so.node)) over
        (λ was. absurd (both_ways (is_badly_over heeds n past h now) masked was)) (λ runs. by later.own refl (sym (signed_series b (node_of g n)) ∙ runs)));
    own = λ runs u is. none_under u is;
    inner = λ runs u more payload is purpose. none_under u is;
    sends = λ own.
        subst IsNoAbort (sym (same_frame taken n to past told h event are quiet calm facts others shows showing))
        (so.sends (own_before (is_last_of (node_of h n)) a (notes_of (outs h event)) (sym (ap (λ (x : Attempts). x.own) told_so) ∙ own)));
    seals = λ has. sealing_kept h g n (event_keeps h event n within calm) others has (so.seals ((fewer_kept h event n within (ending_begins event update of_it)).seals has));
  }
    where
      over : Bool
      over = is_badly_over heeds n (past ++ told) g now

      calm : NoSession event
      calm = ending_calm event update of_it

      told_so : attempts_so_far heeds n (past ++ told) ≡ later
      told_so = told_is taken n to past told h event are quiet calm facts others shows showing

      by : (o : Bool) → later.own ≡ o → (node_of g n).series ≡ Running → (o && over) ≡ false
      by true own runs = absurd (not_own own runs)
      by false own runs = refl

      none_under : {A : Type 0} (u : UnderWay) → g.requests.under_way ≡ Some u → A
      none_under u is = absurd (let bad : ◌≡◌ {A = Option UnderWay} None (Some u) = sym none ∙ is in cc)
