-- In each run of a host alone: behind a frame that the request under way hears of, the course of notes has due what the host notes of its end.
use Rattle.std.proofs.Common.{◌≡◌, ℕ, false, inl, inr, List, [], ◌∷◌, Option, Some, None, refl, sym, ap, subst}
use Rattle.std.specs.Prelude.{is_none}
use Rattle.std.proofs.lemmas.Bool.{both_ways}
use Rattle.chip_functions.specs.declared.notice.Update.{Update}
use Rattle.chip_functions.specs.declared.notice.Update.TheVariants.{Received, RequestFailed}
use Rattle.zw_text.specs.declared.entry.Entry.{Entry}
use Rattle.law_transcript.specs.Lists.{EachAfter}
use Rattle.law_time.specs.Errands.{errand}
use Rattle.law_time.specs.Heeds.{Heeds}
use Rattle.host_requests.specs.Events.{RequestsEvent, end_at, interviewed_by}
use Rattle.host_requests.specs.Events.RequestsEvent.{CallsBack, IsSent, Responds, Updates}
use Rattle.host_requests.specs.Next.{end_from, next_from}
use Rattle.host_requests.specs.declared.end.How.{How}
use Rattle.host_requests.specs.declared.next.Next.TheVariants.{Ends}
use Rattle.host_requests.specs.declared.under_way.UnderWay.{UnderWay}
use Rattle.host_node.specs.declared.attempt.Moment.TheVariants.{BetweenTicks}
use Rattle.host_model.specs.State.{HostState}
use Rattle.host_model.specs.After.{after, requests_do}
use Rattle.host_model.specs.Did.{MayAll}
use Rattle.host_model.specs.Events.{HostEvent, Requests_do}
use Rattle.host_model.specs.Outs.{noted, request_entries}
use Rattle.host_model.specs.Taking.{InterviewEvents, told_requests}
use Rattle.proof_ends.specs.Ends.{nodes_asked}
use Rattle.proof_ends.specs.proof_attempts.Asleep.{KnowsSleep}
use Rattle.proof_ends.specs.proof_requests.Ends.{AreToldOf, EndsFrom, KnowsEnds, LineEnds, TellsEnd, next_at}
use Rattle.proof_ends.specs.proof_requests.law_host.Course.{Course}
use Rattle.proof_ends.specs.proof_requests.law_host.Ends.{ends_by_frame}
use Rattle.proof_ends.specs.proof_requests.proof_alone.Phases.{Phase, Behind, May}
use Rattle.proof_ends.specs.proof_requests.proof_alone.State.{HostMachine}
use Rattle.proof_ends.specs.proof_requests.proof_alone.Steps.{AreTold, Does}
use Rattle.proof_ends.proofs.Walking.{ShowsOpen, TellsWalk}
use Rattle.proof_following.specs.Ended.{GivesUpAsHost, IsByFrame, IsFrameEvent, NotedSo}
use Rattle.proof_following.proofs.Framing.{callback_framed, response_framed, update_framed}
use Rattle.proof_following.proofs.HostEnds.{frame_hears}

-- what is noted is told
pub noted_are : (notes : List Entry) → AreTold (noted notes) notes
noted_are [] = refl
noted_are (e ∷ notes) = (notes, refl, noted_are notes)

abbrev event_in : List HostEvent → RequestsEvent
event_in (Requests_do event moment ∷ left) = event
event_in left = IsSent

-- what such an event makes of the request
may_event : (h : HostState) (event : RequestsEvent) → IsFrameEvent event → MayAll h (Requests_do event BetweenTicks ∷ [])
may_event h (Responds response) of = (tt, tt, tt)
may_event h (CallsBack id status) of = (tt, tt, tt)
may_event h (Updates update) of = (tt, tt, tt)
may_event h event of = absurd of

event_does : (h : HostState) (event : RequestsEvent) → IsFrameEvent event → (requests_do h event).requests ≡ next_from h.requests (next_at h.requests event) h.requests.under_way
event_does h (Responds response) of = refl
event_does h (CallsBack id status) of = refl
event_does h (Updates update) of = refl
event_does h event of = absurd of

event_ends : (h : HostState) (event : RequestsEvent) → IsFrameEvent event → end_from (next_at h.requests event) h.requests.under_way ≡ end_at h.requests event
event_ends h (Responds response) of = refl
event_ends h (CallsBack id status) of = refl
event_ends h (Updates update) of = refl
event_ends h event of = absurd of

event_framed : (h : HostState) (event : RequestsEvent) → IsFrameEvent event → (u : UnderWay) (how : How) → next_at h.requests event u ≡ Ends how → IsByFrame how
event_framed h (Responds response) of u how so = response_framed response u how so
event_framed h (CallsBack id status) of u how so = callback_framed h.requests.last_id id status u how so
event_framed h (Updates update) of u how so = update_framed h.requests.first update u how so
event_framed h event of u how so = absurd of

module _ (tells : TellsWalk) (shows : ShowsOpen) (heeds : Heeds) (past : List Entry) (m : HostMachine) (event : RequestsEvent) (of : IsFrameEvent event)
    (ground : KnowsSleep (Behind (told_requests event)) past m) where
  abbrev here : Phase
  here = Behind (told_requests event)

  -- the event that is behind the frame is the one that tells
  updates_same : (update : Update) (brought : Option ℕ) → InterviewEvents update brought (told_requests event) → Updates update ≡ event
  updates_same (Received n basic generic specific classes) (Some capability) (inl is) = absurd (let bad = is in cc)
  updates_same (Received n basic generic specific classes) (Some capability) (inr is) = absurd (let bad = is in cc)
  updates_same RequestFailed (Some capability) is = absurd (let bad = is in cc)
  updates_same (Received n basic generic specific classes) None is = ap event_in (sym is)
  updates_same RequestFailed None is = ap event_in (sym is)

  told_same : (k : RequestsEvent) → AreToldOf m.state k (told_requests event) → k ≡ event
  told_same (Responds response) is = ap event_in (sym is)
  told_same (CallsBack id status) is = ap event_in (sym is)
  told_same (Updates update) is = updates_same update (interviewed_by m.state.requests update) is
  told_same k is = absurd is

  not_line : (k : RequestsEvent) → told_requests event ≡ told_requests k → LineEnds past m.clock m.state.requests.last_id k m.state.requests.under_way → IsFrameEvent k
  not_line k is ends = subst IsFrameEvent (ap event_in is) of

  line_none : (k : RequestsEvent) → IsFrameEvent k → LineEnds past m.clock m.state.requests.last_id k m.state.requests.under_way → ⊥
  line_none (Responds response) frame ends = ends
  line_none (CallsBack id status) frame ends = ends
  line_none (Updates update) frame ends = ends
  line_none k frame ends = absurd frame

  pub record Framed : Type 0 where
    pub unnumbered : m.awaits ≡ false
    pub ends : EndsFrom past m.state.requests.last_id (next_at m.state.requests event) m.state.requests.under_way

  framed : KnowsEnds here past m → Framed
  framed (inl (all, owes)) = absurd all.0
  framed (inr (inl by)) =
      record { unnumbered = by.unnumbered; ends = subst (λ (k : RequestsEvent). EndsFrom past m.state.requests.last_id (next_at m.state.requests k) m.state.requests.under_way) (told_same by.event by.told) by.ends }
  framed (inr (inr by)) = absurd (line_none by.event (not_line by.event by.told by.ends) by.ends)

  pub frame_is : Framed
  frame_is = framed ground.0.1

  -- as that event may come next its entries tell
  may_next : May here m (Does (Requests_do event BetweenTicks) (request_entries m.state event)) (Behind [])
  may_next = ((refl, refl), may_event m.state event of, noted_are (request_entries m.state event), λ awaits. absurd (both_ways m.awaits frame_is.unnumbered awaits))

  pub entries_tell : EachAfter TellsEnd past (request_entries m.state event)
  entries_tell = (tells.step here (Behind []) past m (Does (Requests_do event BetweenTicks) (request_entries m.state event)) may_next (ground.0.0.0.1, ground.0.1)).0

  pub frame_follows : errand heeds.listing past ≡ nodes_asked past → (c : Course) → c.over ≡ is_none m.state.requests.under_way → GivesUpAsHost heeds past m.state event c
      → NotedSo c (request_entries m.state event) (is_none (after m.state (Requests_do event BetweenTicks)).requests.under_way) (ends_by_frame heeds past c)
  frame_follows errands c over gone =
      frame_hears shows heeds here past m ground tt errands event (next_at m.state.requests event) (event_does m.state event of) (event_ends m.state event of)
      (λ u how so. event_framed m.state event of u how so) frame_is.ends entries_tell c over gone
