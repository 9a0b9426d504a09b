-- The host judges what is on its way to it: the request under way ends at its call, and goes on at every other frame.
use Rattle.std.proofs.Common.{◌≡◌, ℕ, Bool, true, false, inl, inr, List, [], ◌∷◌, ◌++◌, refl, sym, ap, ◌∙◌, subst}
use Rattle.std.specs.Prelude.{◌⊎◌, Some, None}
use Rattle.std.specs.List.{AllByRecursion}
use Rattle.serial_frame.specs.Frame.{FrameParts}
use Rattle.serial_frame.specs.declared.frame.Kind.TheVariants.{Request as of_request, Response as of_response}
use Rattle.serial_frame.specs.declared.item.Item.{Item}
use Rattle.serial_frame.specs.declared.item.Item.TheVariants.{Good}
use Rattle.serial_frame.specs.declared.unit.Unit.{Unit as LineUnit}
use Rattle.serial_frame.specs.declared.unit.Unit.TheVariants.{Ack, Nak, Can, Framed}
use Rattle.serial_link.specs.declared.turn.Turn.{Turn}
use Rattle.chip_functions.specs.declared.notice.Notice.TheVariants.{ApplicationCommandHandler, SendData}
use Rattle.chip_functions.specs.declared.response.Response.TheVariants.{SendData as SendDataAnswer}
use Rattle.chip_sim.specs.Answers.{notice_frame}
use Rattle.chip_sim.specs.State.{ChipState}
use Rattle.host_requests.specs.Next.{is_answered}
use Rattle.host_requests.specs.declared.under_way.Progress.{Progress}
use Rattle.host_requests.specs.declared.under_way.UnderWay.{UnderWay}
use Rattle.host_model.specs.State.{HostState}
use Rattle.host_model.specs.Events.{HostEvent, Hears, Requests_do}
use Rattle.host_model.specs.After.{after}
use Rattle.host_model.specs.Did.{after_all}
use Rattle.host_model.specs.Taking.{IsFollowed, IsJudged, AreJudged}
use Rattle.proof_serial.proofs.EventLists.{after_all-append}
use Rattle.proof_calm.specs.Calls.{FrameFollows, IsSending, answer_taken}
use Rattle.proof_calm.specs.Passes.{IsPlain, frames_in}
use Rattle.proof_calm.specs.Tied.{HasAnswer, LeavesIt, Answers, Brings, Informs, LeaveIt, IsFresh, IsFreshUnless, Ends, IsOf, IsCalled, Tied, Nowhere, On_way, At_chip, Called, Tie}
use Rattle.proof_calm.proofs.Following.{kept}
use Rattle.proof_calm.proofs.Ending.{then_answered, OfHost, Stays, ack_stays, ack_none, answer_stays, answer_none, call_ends, handler_stays, handler_kept, update_stays, update_none}
use Rattle.proof_calm.proofs.Reading.{goods}
use Rattle.zw_base.proofs.Each.{all-append, all-left, all-right}
use Rattle.host_heard.specs.Telling.{heard_at}
use Rattle.host_requests.specs.Events.{RequestsEvent}
use Rattle.host_requests.specs.Events.RequestsEvent.{CallsBack, IsSent as request_is_sent, Responds, Updates}
use Rattle.host_node.specs.declared.attempt.Moment.TheVariants.{BetweenTicks}
use Rattle.host_model.specs.After.{is_busy}
use Rattle.host_model.specs.Taking.{PayloadEvents, told_if, told_requests}
use Rattle.proof_work.specs.Doing.{IsTold}
use Rattle.proof_waking.proofs.Followed.{FollowersAre, payload_all}
use Rattle.proof_calm.specs.Known.{IsMember}
use Rattle.proof_calm.proofs.Ending.{EndsNoInterview, IsToldOf, Nothing, Something, answers_are, calls_are, handler_payload, none_under_way, send_under_way, update_told}
use Rattle.proof_calm.proofs.Knowing.{IsNamed}

-- ---- both ends, where the host is so

abbrev pub ends_by : OfHost → ChipState → Ends
ends_by k s = record { under_way = k.1; last_id = k.3; joined = s.joined; sending = s.sending }

abbrev pub TieBy : Bool → OfHost → ChipState → List FrameParts → List FrameParts → Type 0
TieBy counted k s pending asking = Tie counted k.2 (ends_by k s) pending asking

pub tie_kept : (counted : Bool) (k l : OfHost) (s : ChipState) (pending asking : List FrameParts) → l ≡ k → TieBy counted k s pending asking → TieBy counted l s pending asking
tie_kept counted k l s pending asking same tie = subst (λ (j : OfHost). TieBy counted j s pending asking) (sym same) tie

-- ---- one frame

frame_stays : (joined : List Bool) (u : UnderWay) (h : HostState) (frame : FrameParts) (events : List HostEvent) → IsSending u h → LeavesIt joined frame → FrameFollows h frame events → Stays u h events
frame_stays joined u h frame events sending (Answers is) follows = answer_stays h u events sending (subst (λ (f : FrameParts). FrameFollows h f events) is follows)
frame_stays joined u h frame events sending (Brings n payload member some is) follows = handler_stays h u n payload events sending (subst (λ (f : FrameParts). FrameFollows h f events) is follows)
frame_stays joined u h frame events sending (Informs update is) follows = update_stays h u update events sending (subst (λ (f : FrameParts). FrameFollows h f events) is follows)

-- the answer answers it
frame_answers : (joined : List Bool) (u : UnderWay) (h : HostState) (frame : FrameParts) (events : List HostEvent) (sending : IsSending u h) (leaves : LeavesIt joined frame) (follows : FrameFollows h frame events) → frame ≡ answer_taken
    → is_answered (frame_stays joined u h frame events sending leaves follows).progress ≡ true
unfolding frame_stays
frame_answers joined u h frame events sending (Answers is) follows same = then_answered h u events sending (subst (λ (f : FrameParts). FrameFollows h f events) is follows)
frame_answers joined u h frame events sending (Brings n payload member some is) follows same = absurd (let no : of_request ≡ of_response = ap (λ (f : FrameParts). f.kind) (sym is ∙ same) in cc)
frame_answers joined u h frame events sending (Informs update is) follows same = absurd (let no : of_request ≡ of_response = ap (λ (f : FrameParts). f.kind) (sym is ∙ same) in cc)

frame_none : (joined : List Bool) (h : HostState) (frame : FrameParts) (events : List HostEvent) → h.requests.under_way ≡ None → LeavesIt joined frame → FrameFollows h frame events → kept (after_all h events) ≡ kept h
frame_none joined h frame events none (Answers is) follows = answer_none h events none (subst (λ (f : FrameParts). FrameFollows h f events) is follows)
frame_none joined h frame events none (Brings n payload member some is) follows = handler_kept h n payload events (subst (λ (f : FrameParts). FrameFollows h f events) is follows)
frame_none joined h frame events none (Informs update is) follows = update_none h update events none (subst (λ (f : FrameParts). FrameFollows h f events) is follows)

fresh_unless : (counted : Bool) (old new : Progress) → (IsFresh old → IsFresh new) → IsFreshUnless counted old → IsFreshUnless counted new
fresh_unless true old new fresh is = tt
fresh_unless false old new fresh is = fresh is

-- the request under way then
abbrev staying : (u : UnderWay) (h : HostState) (events : List HostEvent) → Stays u h events → UnderWay
staying u h events stays = record { purpose = u.purpose; progress = stays.progress }

module _ (counted : Bool) (s : ChipState) (asking : List FrameParts) where
  -- what both ends have then
  abbrev ends_then : (u : UnderWay) (h : HostState) (events : List HostEvent) → Stays u h events → Ends
  ends_then u h events stays = ends_by (h.side, Some (staying u h events stays), h.requests.owes, h.requests.last_id) s

  stays_of : (u : UnderWay) (h : HostState) (events : List HostEvent) (stays : Stays u h events) → IsOf u (ends_by (kept h) s) → IsOf (staying u h events stays) (ends_then u h events stays)
  stays_of u h events stays of = record { under_way = refl; sends = of.sends }

  -- it goes on
  stays_tied : (u : UnderWay) (h : HostState) (events : List HostEvent) (pending : List FrameParts) (stays : Stays u h events) → h.requests.owes ≡ false
      → Tied counted (ends_then u h events stays) pending asking → TieBy counted (kept (after_all h events)) s pending asking
  stays_tied u h events pending stays paid tied =
      tie_kept counted (h.side, Some (staying u h events stays), h.requests.owes, h.requests.last_id) (kept (after_all h events)) s pending asking stays.kept_is (record { paid = paid; tied = tied })

  pub frame_tied : (h : HostState) (frame : FrameParts) (rest : List FrameParts) (events : List HostEvent) → FrameFollows h frame events → TieBy counted (kept h) s (frame ∷ rest) asking
      → TieBy counted (kept (after_all h events)) s rest asking
  frame_tied h frame rest events follows tie = by tie.tied
    where
      stays : (u : UnderWay) → IsOf u (ends_by (kept h) s) → LeavesIt s.joined frame → Stays u h events
      stays u of leaves = frame_stays s.joined u h frame events (record { under_way = of.under_way; sends = of.sends }) leaves follows

      -- its call is the first of these, or one of those behind it
      called : (u : UnderWay) → IsOf u (ends_by (kept h) s) → IsFreshUnless counted u.progress → (is : IsCalled (ends_by (kept h) s) (frame ∷ rest) asking) → (before : List FrameParts)
          → frame ∷ rest ≡ before ++ notice_frame (SendData h.requests.last_id is.status) ∷ is.behind → LeaveIt s.joined before → TieBy counted (kept (after_all h events)) s rest asking
      called u of fresh is [] are leave =
          let first : frame ≡ notice_frame (SendData h.requests.last_id is.status) = cc in
          let behind : rest ≡ is.behind = cc in
          let ended = call_ends h u is.status events (record { under_way = of.under_way; sends = of.sends }) (subst (λ (f : FrameParts). FrameFollows h f events) first follows) in
          tie_kept counted (h.side, None, false, h.requests.last_id) (kept (after_all h events)) s rest asking ended
          (record { paid = refl; tied = Nowhere (record { none = refl; idle = is.idle; leave = subst (LeaveIt s.joined) (sym behind) is.behind_leave; nothing = is.nothing }) })
      called u of fresh is (one ∷ before) are leave =
          let first : frame ≡ one = cc in
          let later : rest ≡ before ++ notice_frame (SendData h.requests.last_id is.status) ∷ is.behind = cc in
          let on = stays u of (subst (LeavesIt s.joined) (sym first) leave.0) in
          stays_tied u h events rest on tie.paid
          (Called (staying u h events on) (stays_of u h events on of) (fresh_unless counted u.progress on.progress on.fresh fresh)
          (record { idle = is.idle; before = before; status = is.status; behind = is.behind; are = later; before_leave = leave.1; behind_leave = is.behind_leave; nothing = is.nothing }))

      -- the answer is the first of these, or one of those behind it
      answers : (u : UnderWay) (of : IsOf u (ends_by (kept h) s)) (leaves : LeavesIt s.joined frame) → (is_answered u.progress ≡ true) ⊎ HasAnswer (frame ∷ rest) → (is_answered (stays u of leaves).progress ≡ true) ⊎ HasAnswer rest
      answers u of leaves (inl answered) = inl ((stays u of leaves).answered answered)
      answers u of leaves (inr (inr behind)) = inr behind
      answers u of leaves (inr (inl is)) = inl (frame_answers s.joined u h frame events (record { under_way = of.under_way; sends = of.sends }) leaves follows is)

      by : Tied counted (ends_by (kept h) s) (frame ∷ rest) asking → TieBy counted (kept (after_all h events)) s rest asking
      by (Nowhere is) =
          tie_kept counted (kept h) (kept (after_all h events)) s rest asking (frame_none s.joined h frame events is.none is.leave.0 follows)
          (record { paid = tie.paid; tied = Nowhere (record { none = is.none; idle = is.idle; leave = is.leave.1; nothing = is.nothing }) })
      by (On_way u of fresh is) =
          let on = stays u of is.leave.0 in
          stays_tied u h events rest on tie.paid
          (On_way (staying u h events on) (stays_of u h events on of) (on.fresh fresh) (record { idle = is.idle; leave = is.leave.1; asked = is.asked; asks = is.asks; from = is.from; to = is.to }))
      by (At_chip u of fresh is) =
          let on = stays u of is.leave.0 in
          stays_tied u h events rest on tie.paid
          (At_chip (staying u h events on) (stays_of u h events on of) (on.fresh fresh)
          (record { asks = is.asks; is_sending = is.is_sending; answered = answers u of is.leave.0 is.answered; leave = is.leave.1; nothing = is.nothing }))
      by (Called u of fresh is) = called u of fresh is is.before is.are is.before_leave

  -- ---- an acknowledgement

  ack_tied : (h : HostState) (turn : Turn) (pending : List FrameParts) (events : List HostEvent) → IsFollowed h turn (Good Ack) events → TieBy counted (kept h) s pending asking
      → TieBy counted (kept (after_all h events)) s pending asking
  ack_tied h turn pending events followed tie = by tie.tied
    where
      stays : (u : UnderWay) → IsOf u (ends_by (kept h) s) → Stays u h events
      stays u of = ack_stays h u turn events (record { under_way = of.under_way; sends = of.sends }) followed

      answers : (u : UnderWay) (of : IsOf u (ends_by (kept h) s)) → (is_answered u.progress ≡ true) ⊎ HasAnswer pending → (is_answered (stays u of).progress ≡ true) ⊎ HasAnswer pending
      answers u of (inl answered) = inl ((stays u of).answered answered)
      answers u of (inr has) = inr has

      by : Tied counted (ends_by (kept h) s) pending asking → TieBy counted (kept (after_all h events)) s pending asking
      by (Nowhere is) =
          tie_kept counted (kept h) (kept (after_all h events)) s pending asking (ack_none h turn events is.none followed)
          (record { paid = tie.paid; tied = Nowhere (record { none = is.none; idle = is.idle; leave = is.leave; nothing = is.nothing }) })
      by (On_way u of fresh is) =
          let on = stays u of in
          stays_tied u h events pending on tie.paid
          (On_way (staying u h events on) (stays_of u h events on of) (on.fresh fresh) (record { idle = is.idle; leave = is.leave; asked = is.asked; asks = is.asks; from = is.from; to = is.to }))
      by (At_chip u of fresh is) =
          let on = stays u of in
          stays_tied u h events pending on tie.paid
          (At_chip (staying u h events on) (stays_of u h events on of) (on.fresh fresh)
          (record { asks = is.asks; is_sending = is.is_sending; answered = answers u of is.answered; leave = is.leave; nothing = is.nothing }))
      by (Called u of fresh is) =
          let on = stays u of in
          stays_tied u h events pending on tie.paid
          (Called (staying u h events on) (stays_of u h events on of) (fresh_unless counted u.progress on.progress on.fresh fresh)
          (record { idle = is.idle; before = is.before; status = is.status; behind = is.behind; are = is.are; before_leave = is.before_leave; behind_leave = is.behind_leave; nothing = is.nothing }))

  -- ---- all units that are on their way

  pub unit_tied : (h : HostState) (unit : LineUnit) (rest : List FrameParts) (events : List HostEvent) → IsPlain unit → IsJudged h (Good unit) events → TieBy counted (kept h) s (frames_in (unit ∷ []) ++ rest) asking
      → TieBy counted (kept (after_all h events)) s rest asking
  unit_tied h Ack rest events plain (more, are, followed) tie =
      subst (λ (l : List HostEvent). TieBy counted (kept (after_all h l)) s rest asking) (sym are) (ack_tied (after h (Hears (Good Ack))) h.side.turn rest more followed tie)
  unit_tied h Nak rest events plain judged tie = absurd plain
  unit_tied h Can rest events plain judged tie = absurd plain
  unit_tied h (Framed f) rest events plain (more, are, followed) tie =
      subst (λ (l : List HostEvent). TieBy counted (kept (after_all h l)) s rest asking) (sym are) (frame_tied (after h (Hears (Good (Framed f)))) f rest more followed tie)

  pub one_more : (unit : LineUnit) (units : List LineUnit) (rest : List FrameParts) → frames_in (unit ∷ units) ++ rest ≡ frames_in (unit ∷ []) ++ (frames_in units ++ rest)
  one_more Ack units rest = refl
  one_more Nak units rest = refl
  one_more Can units rest = refl
  one_more (Framed f) units rest = refl

  pub units_tied : (h : HostState) (units : List LineUnit) (rest : List FrameParts) (events : List HostEvent) → AllByRecursion IsPlain units → AreJudged h (goods units) events
      → TieBy counted (kept h) s (frames_in units ++ rest) asking → TieBy counted (kept (after_all h events)) s rest asking
  units_tied h [] rest events plain judged tie = subst (λ (l : List HostEvent). TieBy counted (kept (after_all h l)) s rest asking) (sym judged) tie
  units_tied h (unit ∷ units) rest events plain (first, later, are, one, others) tie =
      let here = unit_tied h unit (frames_in units ++ rest) first plain.0 one (subst (λ (fs : List FrameParts). TieBy counted (kept h) s fs asking) (one_more unit units rest) tie) in
      tie_kept counted (kept (after_all (after_all h first) later)) (kept (after_all h events)) s rest asking
      (ap (λ (l : List HostEvent). kept (after_all h l)) are ∙ ap kept (after_all-append h first later))
      (units_tied (after_all h first) units rest later plain.1 others here)

-- ---- which events these are

named_followers : (joined : List Bool) (n : ℕ) → IsMember joined n → FollowersAre (IsNamed joined) n
named_followers joined n member = record {
  unread = λ payload. tt;
  unkept = tt;
  old = λ id. tt;
  works = λ id. member.is_joined;
  finishes = λ session id command status wake. member.is_joined;
  offers = member;
  gives = λ drawn. member;
  spends = tt;
  in_vain = λ payload. tt;
  takes = λ seen text. member.is_joined;
  resends = λ payload. member;
  hears = λ setting. tt;
  no_room = λ property. tt;
}

-- what the requests may hear of
abbrev pub MayTell : (FrameParts → Type 0) → RequestsEvent → Type 0
MayTell Says request_is_sent = Unit {0}
MayTell Says (Responds response) = response ≡ SendDataAnswer 1
MayTell Says (Updates update) = Unit {0}
MayTell Says (CallsBack id status) = Says (notice_frame (SendData id status))
MayTell Says event = ⊥

-- this holds of the events that follow frames, where the frames say so: a payload is of a joined node
pub record Follow (Holds : HostState → List HostEvent → Type 0) (Says : FrameParts → Type 0) (joined : List Bool) : Type 0 where
  pub none : (h : HostState) → Holds h []
  pub both : (h : HostState) (first later : List HostEvent) → Holds h first → Holds (after_all h first) later → Holds h (first ++ later)
  pub hears : (h : HostState) (item : Item) (rest : List HostEvent) → Holds (after h (Hears item)) rest → Holds h (Hears item ∷ rest)
  pub told : (h : HostState) (event : RequestsEvent) → MayTell Says event → Holds h (told_requests event)
  pub brings : (h : HostState) (n : ℕ) (payload : List ℕ) (events : List HostEvent) → IsMember joined n → Says (notice_frame (ApplicationCommandHandler 0 n payload)) → PayloadEvents h n payload (heard_at payload) events → Holds h events

module _ (Holds : HostState → List HostEvent → Type 0) (Says : FrameParts → Type 0) (counted : Bool) (s : ChipState) (asking : List FrameParts) (follow : Follow Holds Says s.joined) where
  told_are : (h : HostState) (event : RequestsEvent) (events : List HostEvent) → MayTell Says event → events ≡ told_requests event → Holds h events
  told_are h event events may are = subst (Holds h) (sym are) (follow.told h event may)

  update_are : (h : HostState) (events : List HostEvent) → IsToldOf events → Holds h events
  update_are h events (Nothing are) = subst (Holds h) (sym are) (follow.none h)
  update_are h events (Something update are) = told_are h (Updates update) events tt are

  leaves_are : (h : HostState) (frame : FrameParts) (events : List HostEvent) → LeavesIt s.joined frame → Says frame → EndsNoInterview h → FrameFollows h frame events → Holds h events
  leaves_are h frame events (Answers is) says none follows =
      told_are h (Responds (SendDataAnswer 1)) events refl (answers_are h events (subst (λ (f : FrameParts). FrameFollows h f events) is follows))
  leaves_are h frame events (Brings n payload member some is) says none follows =
      follow.brings h n payload events member (subst Says is says) (handler_payload h n payload events member.is_node some (subst (λ (f : FrameParts). FrameFollows h f events) is follows))
  leaves_are h frame events (Informs update is) says none follows = update_are h events (update_told h update events none (subst (λ (f : FrameParts). FrameFollows h f events) is follows))

  pub frame_are : (h : HostState) (frame : FrameParts) (rest : List FrameParts) (events : List HostEvent) → FrameFollows h frame events → TieBy counted (kept h) s (frame ∷ rest) asking → Says frame → Holds h events
  frame_are h frame rest events follows tie says = by tie.tied
    where
      sends : (u : UnderWay) → IsOf u (ends_by (kept h) s) → EndsNoInterview h
      sends u of = send_under_way h u (record { under_way = of.under_way; sends = of.sends })

      called : (u : UnderWay) → IsOf u (ends_by (kept h) s) → (is : IsCalled (ends_by (kept h) s) (frame ∷ rest) asking) → (before : List FrameParts)
          → frame ∷ rest ≡ before ++ notice_frame (SendData h.requests.last_id is.status) ∷ is.behind → LeaveIt s.joined before → Holds h events
      called u of is [] are leave =
          let first : frame ≡ notice_frame (SendData h.requests.last_id is.status) = cc in
          told_are h (CallsBack h.requests.last_id is.status) events (subst Says first says)
          (calls_are h h.requests.last_id is.status events (subst (λ (f : FrameParts). FrameFollows h f events) first follows))
      called u of is (one ∷ before) are leave =
          let first : frame ≡ one = cc in
          leaves_are h frame events (subst (LeavesIt s.joined) (sym first) leave.0) says (sends u of) follows

      by : Tied counted (ends_by (kept h) s) (frame ∷ rest) asking → Holds h events
      by (Nowhere is) = leaves_are h frame events is.leave.0 says (none_under_way h is.none) follows
      by (On_way u of fresh is) = leaves_are h frame events is.leave.0 says (sends u of) follows
      by (At_chip u of fresh is) = leaves_are h frame events is.leave.0 says (sends u of) follows
      by (Called u of fresh is) = called u of is is.before is.are is.before_leave

  ack_are : (h : HostState) (turn : Turn) (events : List HostEvent) → events ≡ told_if (is_busy turn) request_is_sent → Holds h events
  ack_are h turn events are = subst (Holds h) (sym are) (by (is_busy turn))
    where
      by : (b : Bool) → Holds h (told_if b request_is_sent)
      by true = follow.told h request_is_sent tt
      by false = follow.none h

  unit_are : (h : HostState) (unit : LineUnit) (rest : List FrameParts) (events : List HostEvent) → IsPlain unit → IsJudged h (Good unit) events → TieBy counted (kept h) s (frames_in (unit ∷ []) ++ rest) asking
      → AllByRecursion Says (frames_in (unit ∷ [])) → Holds h events
  unit_are h Ack rest events plain (more, are, followed) tie says = subst (Holds h) (sym are) (follow.hears h (Good Ack) more (ack_are (after h (Hears (Good Ack))) h.side.turn more followed))
  unit_are h Nak rest events plain judged tie says = absurd plain
  unit_are h Can rest events plain judged tie says = absurd plain
  unit_are h (Framed f) rest events plain (more, are, followed) tie says =
      subst (Holds h) (sym are) (follow.hears h (Good (Framed f)) more (frame_are (after h (Hears (Good (Framed f)))) f rest more followed tie says.0))

  pub units_are : (h : HostState) (units : List LineUnit) (rest : List FrameParts) (events : List HostEvent) → AllByRecursion IsPlain units → AreJudged h (goods units) events
      → TieBy counted (kept h) s (frames_in units ++ rest) asking → AllByRecursion Says (frames_in units ++ rest) → Holds h events
  units_are h [] rest events plain judged tie says = subst (Holds h) (sym judged) (follow.none h)
  units_are h (unit ∷ units) rest events plain (first, later, are, one, others) tie says =
      let same = one_more counted s asking unit units rest in
      let parts = subst (λ (fs : List FrameParts). TieBy counted (kept h) s fs asking) same tie in
      let said = subst (AllByRecursion Says) same says in
      let here = unit_are h unit (frames_in units ++ rest) first plain.0 one parts (all-left Says (frames_in (unit ∷ [])) (frames_in units ++ rest) said) in
      let then_tied = unit_tied counted s asking h unit (frames_in units ++ rest) first plain.0 one parts in
      let behind = all-right Says (frames_in (unit ∷ [])) (frames_in units ++ rest) said in
      subst (Holds h) (sym are) (follow.both h first later here (units_are (after_all h first) units rest later plain.1 others then_tied behind))

-- so where it is of each event by itself
pub record EachFollows (Is : HostEvent → Type 0) (Says : FrameParts → Type 0) (joined : List Bool) : Type 0 where
  pub hears : (item : Item) → Is (Hears item)
  pub told : (event : RequestsEvent) → IsTold event → Is (Requests_do event BetweenTicks)
  pub brings : (h : HostState) (n : ℕ) (payload : List ℕ) (events : List HostEvent) → IsMember joined n → Says (notice_frame (ApplicationCommandHandler 0 n payload)) → PayloadEvents h n payload (heard_at payload) events → AllByRecursion Is events

may_told : (Says : FrameParts → Type 0) (event : RequestsEvent) → MayTell Says event → IsTold event
may_told Says request_is_sent may = tt
may_told Says (Responds response) may = tt
may_told Says (Updates update) may = tt
may_told Says (CallsBack id status) may = tt
may_told Says event may = absurd may

pub each_follow : (Is : HostEvent → Type 0) (Says : FrameParts → Type 0) (joined : List Bool) → EachFollows Is Says joined → Follow (λ (h : HostState) (events : List HostEvent). AllByRecursion Is events) Says joined
each_follow Is Says joined each = record {
  none = λ h. tt;
  both = λ h first later here then_here. all-append Is first later here then_here;
  hears = λ h item rest all. (each.hears item, all);
  told = λ h event may. (each.told event (may_told Says event may), tt);
  brings = each.brings;
}

-- whatever the frames are, each event is of joined nodes
abbrev pub AnyFrame : FrameParts → Type 0
AnyFrame frame = Unit {0}

pub any_frames : (frames : List FrameParts) → AllByRecursion AnyFrame frames
any_frames [] = tt
any_frames (frame ∷ frames) = (tt, any_frames frames)

each_named : (joined : List Bool) → EachFollows (IsNamed joined) AnyFrame joined
each_named joined = record {
  hears = λ item. tt;
  told = λ event told. told;
  brings = λ h n payload events member says is. payload_all (IsNamed joined) n (named_followers joined n member) h payload (heard_at payload) events (λ tells. member.is_joined) is;
}

pub units_named : (counted : Bool) (s : ChipState) (asking : List FrameParts) (h : HostState) (units : List LineUnit) (rest : List FrameParts) (events : List HostEvent) → AllByRecursion IsPlain units → AreJudged h (goods units) events
    → TieBy counted (kept h) s (frames_in units ++ rest) asking → AllByRecursion (IsNamed s.joined) events
units_named counted s asking h units rest events plain judged tie =
    units_are (λ (g : HostState) (all : List HostEvent). AllByRecursion (IsNamed s.joined) all) AnyFrame counted s asking (each_follow (IsNamed s.joined) AnyFrame s.joined (each_named s.joined)) h units rest events plain judged tie
    (any_frames (frames_in units ++ rest))
