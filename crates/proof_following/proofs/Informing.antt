-- In each run of a host alone: where the information of a node has come, with which an interview ends well, the course of notes has due that it did, or that this was not kept.
use Rattle.std.proofs.Common.{◌≡◌, ℕ, Bool, true, false, inl, inr, List, [], ◌∷◌, ◌++◌, Option, Some, None, refl, sym, ap, ◌∙◌, subst}
use Rattle.std.specs.Prelude.{if◌then◌else◌}
use Rattle.std.specs.List.{AllByRecursion}
use Rattle.chip_functions.specs.declared.notice.Update.{Update}
use Rattle.chip_functions.specs.declared.notice.Update.TheVariants.{Received, RequestFailed}
use Rattle.zw_text.specs.declared.entry.Entry.{Entry}
use Rattle.zw_text.specs.declared.entry.Entry.TheVariants as entry
use Rattle.law_time.specs.Errands.{errand}
use Rattle.law_time.specs.Heeds.{Heeds}
use Rattle.law_time.specs.Moments.{clock}
use Rattle.host_requests.specs.Events.{RequestsEvent, interviewed_by}
use Rattle.host_requests.specs.Events.RequestsEvent.{CallsBack, Responds, Updates}
use Rattle.host_requests.specs.Next.{at_update}
use Rattle.host_requests.specs.declared.end.How.{How}
use Rattle.host_requests.specs.declared.end.How.TheVariants.{AtUpdate}
use Rattle.host_requests.specs.declared.next.Next.{Next}
use Rattle.host_requests.specs.declared.next.Next.TheVariants.{Ends, GoesOn}
use Rattle.host_requests.specs.declared.task.Task.TheVariants.{Second}
use Rattle.host_requests.specs.declared.task.Purpose.{Purpose}
use Rattle.host_requests.specs.declared.task.Purpose.TheVariants.{Housekeeping}
use Rattle.host_requests.specs.declared.under_way.UnderWay.{UnderWay}
use Rattle.host_model.specs.Events.{HostEvent, Interviews, Interview_unkept}
use Rattle.host_model.specs.Taking.{InterviewEvents}
use Rattle.proof_ends.specs.Ends.{nodes_asked}
use Rattle.proof_ends.specs.proof_attempts.Asleep.{KnowsSleep}
use Rattle.proof_ends.specs.proof_requests.Ends.{AreToldOf, EndsBy, EndsFrom, EndsHere, KnowsEnds, TellsNoEnd, next_at}
use Rattle.proof_ends.specs.proof_requests.law_host.Course.{Course}
use Rattle.proof_ends.specs.proof_requests.law_host.Ends.{ends_by_frame}
use Rattle.proof_ends.specs.proof_requests.proof_alone.Phases.{Behind}
use Rattle.proof_ends.specs.proof_requests.proof_alone.State.{HostMachine}
use Rattle.proof_ends.proofs.Interviews.{interviews_may}
use Rattle.proof_ends.proofs.EndsTold.{second_is}
use Rattle.proof_ends.proofs.Walking.{ShowsOpen, informs_so}
use Rattle.proof_following.specs.Ended.{EndingOf}
use Rattle.proof_following.proofs.Ending.{frame_ends_it}
use Rattle.proof_following.proofs.Framing.{informed_goes, informed_note, one_ends}
use Rattle.proof_following.proofs.HostEnds.{ending_of}

-- behind the frame an interview ends well, and that is kept or not
abbrev pub IsInterview : List HostEvent → Type 0
IsInterview (Interviews n listens classes update ∷ []) = Unit {0}
IsInterview (Interview_unkept n update ∷ []) = Unit {0}
IsInterview left = ⊥

abbrev pub node_in : List HostEvent → ℕ
node_in (Interviews n listens classes update ∷ left) = n
node_in (Interview_unkept n update ∷ left) = n
node_in left = 0

untold : (left : List HostEvent) → IsInterview left → AllByRecursion TellsNoEnd left → ⊥
untold (Interviews n listens classes update ∷ []) is all = all.0
untold (Interview_unkept n update ∷ []) is all = all.0
untold left is all = absurd is

module _ (past : List Entry) (m : HostMachine) (left : List HostEvent) (of : IsInterview left) where
  -- what is known of it
  pub record Informed : Type 0 where
    pub node : ℕ
    pub basic : ℕ
    pub generic : ℕ
    pub specific : ℕ
    pub classes : List ℕ
    pub capability : ℕ
    pub is : node_in left ≡ node
    pub brought : interviewed_by m.state.requests (Received node basic generic specific classes) ≡ Some capability
    pub ends : EndsFrom past m.state.requests.last_id (at_update m.state.requests.first (Received node basic generic specific classes)) m.state.requests.under_way

  by_update : (update : Update) (brought : Option ℕ) → interviewed_by m.state.requests update ≡ brought → InterviewEvents update brought left
      → EndsFrom past m.state.requests.last_id (at_update m.state.requests.first update) m.state.requests.under_way → Informed
  by_update (Received n basic generic specific classes) (Some capability) is (inl these) ends =
      record { node = n; basic = basic; generic = generic; specific = specific; classes = classes; capability = capability; is = ap node_in these; brought = is; ends = ends }
  by_update (Received n basic generic specific classes) (Some capability) is (inr these) ends =
      record { node = n; basic = basic; generic = generic; specific = specific; classes = classes; capability = capability; is = ap node_in these; brought = is; ends = ends }
  by_update RequestFailed (Some capability) is these ends = absurd (subst IsInterview these of)
  by_update (Received n basic generic specific classes) None is these ends = absurd (subst IsInterview these of)
  by_update RequestFailed None is these ends = absurd (subst IsInterview these of)

  by_event : (event : RequestsEvent) → AreToldOf m.state event left
      → ((update : Update) → event ≡ Updates update → EndsFrom past m.state.requests.last_id (at_update m.state.requests.first update) m.state.requests.under_way) → Informed
  by_event (Responds response) these ends = absurd (subst IsInterview these of)
  by_event (CallsBack id status) these ends = absurd (subst IsInterview these of)
  by_event (Updates update) these ends = by_update update (interviewed_by m.state.requests update) refl these (ends update refl)
  by_event event these ends = absurd these

  informed : KnowsEnds (Behind left) past m → Informed
  informed (inl (all, owes)) = absurd (untold left of all)
  informed (inr (inl by)) =
      by_event by.event by.told
      (λ update is. subst (λ (k : RequestsEvent). EndsFrom past m.state.requests.last_id (next_at m.state.requests k) m.state.requests.under_way) is by.ends)
  informed (inr (inr by)) = absurd (subst IsInterview by.told of)

  module _ (shows : ShowsOpen) (heeds : Heeds) (ground : KnowsSleep (Behind left) past m) (errands : errand heeds.listing past ≡ nodes_asked past) where
    pub it : Informed
    it = informed ground.0.1

    pub interview_follows : (kept : Bool) (keepings : List Bool) (c : Course) → c.over ≡ false → c.keepings ≡ kept ∷ keepings
        → ends_by_frame heeds past c ≡ record c { over = true; keepings = keepings; due = c.due ++ informed_note (node_in left) kept ∷ [] }
    interview_follows kept keepings c running chosen = by it
      where
        by : Informed → ends_by_frame heeds past c ≡ record c { over = true; keepings = keepings; due = c.due ++ informed_note (node_in left) kept ∷ [] }
        by got =
            let update : Update = Received got.node got.basic got.generic got.specific got.classes in
            let way : How = AtUpdate update (Some got.capability) in
            let next : UnderWay → Next = at_update m.state.requests.first update in
            let one = informs_so m.state.requests.under_way m.state.requests.first got.node got.basic got.generic got.specific got.classes got.capability got.brought in
            let goes : next one.u ≡ Ends way =
            ap (λ (b : Bool). if b then Ends (AtUpdate update m.state.requests.first) else GoesOn one.u.progress) one.ends ∙ ap (λ (o : Option ℕ). Ends (AtUpdate update o)) one.brought in
            let id : ℕ = m.state.requests.last_id in
            let purpose_is : one.u.purpose ≡ Housekeeping (Second got.node) = second_is one.u.purpose got.node got.basic got.generic got.specific got.classes one.ends in
            let e : EndsHere past id one.u.purpose way = subst (EndsBy past id one.u) goes (subst (EndsFrom past id next) one.under_way got.ends) in
            let second : EndsHere past id (Housekeeping (Second got.node)) way = subst (λ (p : Purpose). EndsHere past id p way) purpose_is e in
            let of_it : EndingOf heeds past m.state id (Housekeeping (Second got.node)) =
            subst (λ (p : Purpose). EndingOf heeds past m.state id p) purpose_is (ending_of shows heeds (Behind left) past m ground tt errands one.u one.under_way e.carries m.state refl) in
            one_ends heeds past m.state id c running (frame_ends_it heeds past m.state id (Housekeeping (Second got.node)) way tt second)
            ∙ informed_goes heeds past m.state id got.node got.basic got.generic got.specific got.classes got.capability kept keepings (clock past) c chosen of_it second
            (interviews_may past (entry.Interviewed got.node) ((got.basic, got.generic, got.specific), got.classes, got.capability, (id, second)))
            ∙ ap (λ (n : ℕ). record c { over = true; keepings = keepings; due = c.due ++ informed_note n kept ∷ [] }) (sym got.is)
