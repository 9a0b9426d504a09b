-- What the host judges of a node that sleeps: what is quiet leaves it as it was; its Notification wakes it, in the host too.
use Rattle.std.proofs.Common.{◌≡◌, ◌≤◌, ◌<◌, ℕ, Bool, true, false, if◌then◌else◌, inl, inr, List, [], ◌∷◌, ◌++◌, length, refl, sym, ap, ◌∙◌, subst, arith}
use Rattle.std.proofs.lemmas.Bool.{cases_Bool}
use Rattle.std.specs.Prelude.{◌⊎◌, Option, Some, None, option_map, slice_index}
use Rattle.std.specs.List.{AllByRecursion}
use Rattle.zw_base.proofs.Each.{all-append, all-both, all-left, all-right}
use Rattle.zw_base.specs.declared.property.Setting.{Setting}
use Rattle.class_info.specs.Values.{status_byte}
use Rattle.class_info.specs.declared.report_status.ReportStatus.{ReportStatus}
use Rattle.supervision.specs.Host.{told_of}
use Rattle.supervision.specs.declared.host_node.Told.{Told as TheTold}
use Rattle.supervision.specs.declared.host_node.Told.TheVariants as told
use Rattle.serial_frame.specs.Frame.{FrameParts}
use Rattle.serial_frame.specs.Stream.{Rest}
use Rattle.serial_frame.specs.declared.item.Item.{Item}
use Rattle.serial_frame.specs.declared.item.Item.TheVariants.{Good}
use Rattle.serial_frame.specs.declared.unit.Unit.{Unit as LineUnit}
use Rattle.serial_frame.specs.declared.unit.Unit.TheVariants.{Ack, Nak, Can, Framed}
use Rattle.serial_link.specs.declared.turn.Turn.{Turn}
use Rattle.serial_link.specs.declared.turn.Turn.TheVariants.{Idle as no_turn}
use Rattle.chip_functions.specs.Field.{IsNode}
use Rattle.chip_functions.specs.declared.notice.Notice.TheVariants.{ApplicationCommandHandler}
use Rattle.chip_sim.specs.Answers.{notice_frame}
use Rattle.chip_sim.specs.State.{ChipState}
use Rattle.host_heard.specs.Telling.{heard_at}
use Rattle.host_heard.specs.declared.payload.Heard.{Heard}
use Rattle.host_heard.specs.declared.payload.Heard.TheVariants.{Messages}
use Rattle.host_heard.specs.declared.told.Told.{Told}
use Rattle.host_heard.specs.declared.told.Told.TheVariants.{Report, NonceGet, NonceReport, Notification, SegmentRequest, Values}
use Rattle.host_keep.specs.declared.final_status.FinalStatus.{FinalStatus}
use Rattle.host_requests.specs.Events.{RequestsEvent}
use Rattle.host_requests.specs.Events.RequestsEvent.{CallsBack, IsSent, Responds, Updates as update_told_of}
use Rattle.host_requests.specs.declared.task.Purpose.TheVariants.{Housekeeping}
use Rattle.host_requests.specs.declared.task.Task.TheVariants.{NoMore}
use Rattle.host_requests.specs.declared.under_way.UnderWay.{UnderWay}
use Rattle.host_node.specs.Events.NodeEvent.{Notifies as node_notifies}
use Rattle.host_node.specs.Events.{after as after_node}
use Rattle.host_node.specs.declared.attempt.Moment.TheVariants.{BetweenTicks}
use Rattle.host_model.proofs.EventLists.{after_all-append}
use Rattle.host_model.specs.After.{after, is_busy}
use Rattle.host_model.specs.Did.{after_all}
use Rattle.host_model.specs.Events.{HostEvent, Finishes, Has_no_room, Hears, Hears_value, Is_unkept, Notifies, Reports_old, Requests_do, Takes_nonce, Unreads, Works}
use Rattle.host_model.specs.State.{HostState, node_of}
use Rattle.host_model.specs.Taking.{AreJudged, FinalEvents, IsKeptOr, IsTaken, NonceReportEvents, PayloadEvents, ReportEvents, is_secure, told_if, value_event, value_events}
use Rattle.world_model.specs.Events.{Host_takes, happens, May}
use Rattle.world_model.specs.State.{Machine}
use Rattle.proof_calm.specs.Calls.{FrameFollows}
use Rattle.proof_calm.specs.Passes.{IsPlain, OnLine, frames_in}
use Rattle.proof_calm.specs.Settling.{HasMoved, IsDone}
use Rattle.proof_calm.specs.Tied.{Answers, At_chip, Brings, Called, Informs, LeavesIt, Nowhere, On_way, Tied, TieOf, unheard}
use Rattle.proof_calm.specs.proof_work.Doing.{IsTold}
use Rattle.proof_calm.proofs.proof_traffic_Parts.{Airs}
use Rattle.proof_calm.proofs.Ending.{handler_payload}
use Rattle.proof_calm.proofs.Following.{kept}
use Rattle.proof_calm.proofs.HostTurns.{host_turns}
use Rattle.proof_calm.proofs.Idle.{host_idles}
use Rattle.proof_calm.proofs.Judging.{AnyFrame, Follow, MayTell, TieBy, ends_by, frame_are, unit_tied, units_are}
use Rattle.proof_calm.proofs.Peopled.{judged_are}
use Rattle.proof_calm.proofs.Reading.{goods}
use Rattle.proof_calm.proofs.Requested.{moved_frames}
use Rattle.proof_answered.specs.Heard.{AllSayHeard, SaysHeard}
use Rattle.proof_answered.specs.Sleepers.{BringsNotification, HasOne, IsQuietFrame, IsQuietTold, Not_asked, TellsQuietly, request_purpose}
use Rattle.proof_answered.proofs.AttemptEnds.{LastsAt, told_last}
use Rattle.proof_answered.proofs.SleeperHosts.{Alive, DownAt, IsJudgedQuietly, Still_up, quietly_alive, quietly_down, request_down, set_place}
use Rattle.proof_answered.proofs.SleeperNodes.{UpNode, wakes_up}
use Rattle.proof_answered.proofs.Unheard.{all_piled, unheard_idle, unheard_judged}

-- ---- which events follow a payload that is heard quietly

abbrev pub IsNews : HostEvent → Type 0
IsNews (Unreads n payload) = Unit {0}
IsNews (Is_unkept n) = Unit {0}
IsNews (Reports_old n id) = Unit {0}
IsNews (Works n id) = Unit {0}
IsNews (Finishes n session id command status wake) = Unit {0}
IsNews (Takes_nonce n seen text) = Unit {0}
IsNews (Hears_value n setting) = Unit {0}
IsNews (Has_no_room n property) = Unit {0}
IsNews event = ⊥

abbrev pub AreNews : List HostEvent → Type 0
AreNews events = AllByRecursion IsNews events

no_event : (events : List HostEvent) → events ≡ [] → AreNews events
no_event events are = subst AreNews (sym are) tt

one_event : (event : HostEvent) (events : List HostEvent) → IsNews event → events ≡ event ∷ [] → AreNews events
one_event event events news are = subst AreNews (sym are) (news, tt)

kept_event : (kept_is unkept : HostEvent) (events : List HostEvent) → IsNews kept_is → IsNews unkept → IsKeptOr kept_is unkept events → AreNews events
kept_event kept_is unkept events first other (inl are) = one_event kept_is events first are
kept_event kept_is unkept events first other (inr are) = one_event unkept events other are

module _ (n : ℕ) where
  final_news : (session id : ℕ) (command : Option ℕ) (status : Option FinalStatus) (wake : Bool) (events : List HostEvent) → FinalEvents n session id command status wake events → AreNews events
  final_news session id (Some command) (Some status) wake events is = kept_event (Finishes n session id command status wake) (Is_unkept n) events tt tt is
  final_news session id (Some command) None wake events is = no_event events is
  final_news session id None (Some status) wake events is = no_event events is
  final_news session id None None wake events is = no_event events is

  report_news : (h : HostState) (id : ℕ) (status : ReportStatus) (wake : Bool) (it : TheTold) (events : List HostEvent) → ReportEvents h n id status wake it events → AreNews events
  report_news h id status wake told.Old events is = one_event (Reports_old n id) events tt is
  report_news h id status wake told.Working events is = one_event (Works n id) events tt is
  report_news h id status wake (told.Final session) events is = final_news session id _ _ wake events is

  plain_news : (h : HostState) (payload : List ℕ) (id : ℕ) (status : ReportStatus) (wake : Bool) (events : List HostEvent) → IsTaken h n payload false (Report id status wake) events → AreNews events
  plain_news h payload id status wake events is = elim (cases_Bool (is_secure (node_of h n).classes)) [
    | inl secure ↦ one_event (Unreads n payload) events tt (rw secure at is)
    | inr not_secure ↦ report_news h id status wake (told_of (node_of h n).book id (status_byte status)) events (rw not_secure at is)
  ]

  nonce_news : (h : HostState) (nonce : List ℕ) (count : Option ℕ) (events : List HostEvent) → NonceReportEvents h n nonce count events → AreNews events
  nonce_news h nonce None events is = no_event events is
  nonce_news h nonce (Some seen) events is = kept_event (Takes_nonce n seen is.1) (Is_unkept n) events tt tt is.3

  value_news : (b : Bool) (s : Setting) → IsNews (if b then Has_no_room n s.property else Hears_value n s)
  value_news true s = tt
  value_news false s = tt

  values_news : (h : HostState) (settings : List Setting) → AreNews (value_events h n settings)
  values_news h [] = tt
  values_news h (s ∷ more) = (value_news _ s, values_news (after h (value_event h n s)) more)

  pub told_news : (h : HostState) (payload : List ℕ) (message : Told) (events : List HostEvent) → IsQuietTold message → IsTaken h n payload false message events → AreNews events
  told_news h payload (Report id status wake) events quiet is = plain_news h payload id status wake events is
  told_news h payload NonceGet events quiet is = absurd quiet
  told_news h payload (NonceReport nonce) events quiet is = nonce_news h nonce _ events is
  told_news h payload Notification events quiet is = absurd quiet
  told_news h payload (SegmentRequest id offset) events quiet is = absurd quiet
  told_news h payload (Values settings) events quiet is = subst AreNews (sym is) (values_news h settings)

  payload_news : (h : HostState) (payload : List ℕ) (events : List HostEvent) → TellsQuietly payload → PayloadEvents h n payload (heard_at payload) events → AreNews events
  payload_news h payload events tells is = by (subst (λ (x : Heard). PayloadEvents h n payload x events) tells.heard is)
    where
      by : PayloadEvents h n payload (Messages (tells.told ∷ [])) events → AreNews events
      by (first, rest, are, taken, none) = subst AreNews (sym are) (all-append IsNews first rest (told_news h payload tells.told first tells.quiet taken) (no_event rest none))

  -- its Notification
  payload_notifies : (h : HostState) (payload : List ℕ) (events : List HostEvent) → heard_at payload ≡ Messages (Notification ∷ []) → PayloadEvents h n payload (heard_at payload) events → events ≡ Notifies n ∷ []
  payload_notifies h payload events tells is = by (subst (λ (x : Heard). PayloadEvents h n payload x events) tells is)
    where
      by : PayloadEvents h n payload (Messages (Notification ∷ [])) events → events ≡ Notifies n ∷ []
      by (first, rest, are, taken, none) = are ∙ (ap (λ (l : List HostEvent). l ++ rest) taken ∙ ap (λ (l : List HostEvent). Notifies n ∷ l) none)

news_quietly : (event : HostEvent) → IsNews event → IsJudgedQuietly event
news_quietly (Unreads n payload) news = tt
news_quietly (Is_unkept n) news = tt
news_quietly (Reports_old n id) news = tt
news_quietly (Works n id) news = tt
news_quietly (Finishes n session id command status wake) news = tt
news_quietly (Takes_nonce n seen text) news = tt
news_quietly (Hears_value n setting) news = tt
news_quietly (Has_no_room n property) news = tt
news_quietly event news = absurd news

news_lasts : (h : HostState) (event : HostEvent) → IsNews event → LastsAt h event
news_lasts h (Unreads n payload) news = tt
news_lasts h (Is_unkept n) news = tt
news_lasts h (Reports_old n id) news = tt
news_lasts h (Works n id) news = tt
news_lasts h (Finishes n session id command status wake) news = tt
news_lasts h (Takes_nonce n seen text) news = tt
news_lasts h (Hears_value n setting) news = tt
news_lasts h (Has_no_room n property) news = tt
news_lasts h event news = absurd news

-- ---- so it is of all that follow quiet frames

-- calls say that payloads were heard, and payloads are quiet
abbrev Says : FrameParts → Type 0
Says frame = SaysHeard frame × IsQuietFrame frame

says_told : (event : RequestsEvent) → MayTell Says event → IsTold event
says_told IsSent may = tt
says_told (Responds response) may = tt
says_told (update_told_of update) may = tt
says_told (CallsBack id status) may = tt
says_told event may = absurd may

says_heard : (event : RequestsEvent) → MayTell Says event → MayTell SaysHeard event
says_heard IsSent may = tt
says_heard (Responds response) may = may
says_heard (update_told_of update) may = tt
says_heard (CallsBack id status) may = may.0
says_heard event may = absurd may

says_lasts : (h : HostState) (event : RequestsEvent) → MayTell Says event → LastsAt h (Requests_do event BetweenTicks)
says_lasts h event may = (told_last h event (says_heard event may)).0

module _ (n : ℕ) (within : n < 233) where
  module _ (Empty : Type 0) where
    abbrev StaysDown : HostState → List HostEvent → Type 0
    StaysDown h events = DownAt Empty n h → DownAt Empty n (after_all h events)

    news_down : (h : HostState) (events : List HostEvent) → AreNews events → StaysDown h events
    news_down h [] news d = d
    news_down h (event ∷ events) news d = news_down (after h event) events news.1 (quietly_down n within Empty h event (news_quietly event news.0) d)

    down_both : (h : HostState) (first later : List HostEvent) → StaysDown h first → StaysDown (after_all h first) later → StaysDown h (first ++ later)
    down_both h first later one more d = subst (λ (g : HostState). DownAt Empty n g) (sym (after_all-append h first later)) (more (one d))

    follow_down : (joined : List Bool) → Follow StaysDown Says joined
    follow_down joined = record {
      none = λ h d. d;
      both = down_both;
      hears = λ h item rest more d. more (quietly_down n within Empty h (Hears item) tt d);
      told = λ h event may d. quietly_down n within Empty h (Requests_do event BetweenTicks) (says_told event may) d;
      brings = λ h k payload events member says is. news_down h events (payload_news k h payload events (says.1 k payload refl) is);
    }

  module _ (Telling : Type 0) where
    abbrev StaysAlive : HostState → List HostEvent → Type 0
    StaysAlive h events = Alive Telling n h → Alive Telling n (after_all h events)

    news_alive : (h : HostState) (events : List HostEvent) → AreNews events → StaysAlive h events
    news_alive h [] news alive = alive
    news_alive h (event ∷ events) news alive = news_alive (after h event) events news.1 (quietly_alive n within Telling h event (news_quietly event news.0) (news_lasts h event news.0) alive)

    alive_both : (h : HostState) (first later : List HostEvent) → StaysAlive h first → StaysAlive (after_all h first) later → StaysAlive h (first ++ later)
    alive_both h first later one more alive = subst (λ (g : HostState). Alive Telling n g) (sym (after_all-append h first later)) (more (one alive))

    follow_alive : (joined : List Bool) → Follow StaysAlive Says joined
    follow_alive joined = record {
      none = λ h alive. alive;
      both = alive_both;
      hears = λ h item rest more alive. more (quietly_alive n within Telling h (Hears item) tt tt alive);
      told = λ h event may alive. quietly_alive n within Telling h (Requests_do event BetweenTicks) (says_told event may) (says_lasts h event may) alive;
      brings = λ h k payload events member says is. news_alive h events (payload_news k h payload events (says.1 k payload refl) is);
    }

  -- ---- its Notification

  -- it counts as awake then
  rouses : (h : HostState) → DownAt ⊥ n h → Alive ⊥ n (after h (Notifies n))
  rouses h d =
      let p = set_place (UpNode ⊥) n h.nodes (after_node (node_of h n) node_notifies) within d.places (wakes_up (node_of h n) d.unasked d.down.sleeps) in
      Still_up p.places (record {
        sleeps = p.is.sleeps;
        kept = p.is.kept;
        no_more = Not_asked d.down.no_task
            (λ told. let none : request_purpose h ≡ None = ap (λ (o : Option UnderWay). option_map (λ (request : UnderWay). request.purpose) o) d.down.no_request in
            let wrong : None ≡ Some (Housekeeping (NoMore n)) = sym none ∙ told in absurd cc);
      }) (λ none. absurd none)

  -- the frame of the chip names it
  its_node : (joined : List Bool) (frame : FrameParts) (payload : List ℕ) → frame ≡ notice_frame (ApplicationCommandHandler 0 n payload) → LeavesIt joined frame → IsNode n
  its_node joined frame payload is (Answers answer) = let no = ap (λ (f : FrameParts). f.kind) (sym is ∙ answer) in absurd cc
  its_node joined frame payload is (Informs update informs) = let no = ap (λ (f : FrameParts). f.func) (sym is ∙ informs) in absurd cc
  its_node joined frame payload is (Brings k other member some brings) = let same : n ≡ k = ap (λ (f : FrameParts). slice_index f.body 1) (sym is ∙ brings) in subst IsNode (sym same) member.is_node

  module _ (s : ChipState) where
    first_leaves : (h : HostState) (frame : FrameParts) (rest : List FrameParts) → h.requests.under_way ≡ None → TieBy true (kept h) s (frame ∷ rest) [] → LeavesIt s.joined frame
    first_leaves h frame rest none tie = by tie.tied
      where
        by : Tied true (ends_by (kept h) s) (frame ∷ rest) [] → LeavesIt s.joined frame
        by (Nowhere is) = is.leave.0
        by (On_way u of fresh is) = absurd (let wrong : None ≡ Some u = sym none ∙ of.under_way in cc)
        by (At_chip u of fresh is) = absurd (let wrong : None ≡ Some u = sym none ∙ of.under_way in cc)
        by (Called u of fresh is) = absurd (let wrong : None ≡ Some u = sym none ∙ of.under_way in cc)

    ack_down : (h : HostState) (turn : Turn) (more : List HostEvent) → more ≡ told_if (is_busy turn) IsSent → DownAt ⊥ n h → DownAt ⊥ n (after_all h more)
    ack_down h turn more are d = subst (λ (l : List HostEvent). DownAt ⊥ n (after_all h l)) (sym are) (by (is_busy turn))
      where
        by : (b : Bool) → DownAt ⊥ n (after_all h (told_if b IsSent))
        by true = request_down n within ⊥ h IsSent BetweenTicks tt d
        by false = d

    -- units that are quiet leave it so, whatever waits behind them
    units_stay : (h : HostState) (units : List LineUnit) (rest : List FrameParts) (events : List HostEvent) → AllByRecursion IsPlain units → AreJudged h (goods units) events → TieBy true (kept h) s (frames_in units ++ rest) []
        → AllSayHeard (frames_in units ++ rest) → AllByRecursion IsQuietFrame (frames_in units) → DownAt ⊥ n h → DownAt ⊥ n (after_all h events)
    units_stay h [] rest events plain judged tie heard quiet d = subst (λ (l : List HostEvent). DownAt ⊥ n (after_all h l)) (sym judged) d
    units_stay h (Nak ∷ units) rest events plain judged tie heard quiet d = absurd plain.0
    units_stay h (Can ∷ units) rest events plain judged tie heard quiet d = absurd plain.0
    units_stay h (Ack ∷ units) rest events plain (first, later, are, (more, first_is, followed), others) tie heard quiet d =
        let g : HostState = after h (Hears (Good Ack)) in
        let d_first : DownAt ⊥ n (after_all h first) =
        subst (λ (l : List HostEvent). DownAt ⊥ n (after_all h l)) (sym first_is) (ack_down g h.side.turn more followed (quietly_down n within ⊥ h (Hears (Good Ack)) tt d)) in
        let then_tied = unit_tied true s [] h Ack (frames_in units ++ rest) first plain.0 (more, first_is, followed) tie in
        subst (λ (l : List HostEvent). DownAt ⊥ n (after_all h l)) (sym are)
        (subst (λ (k : HostState). DownAt ⊥ n k) (sym (after_all-append h first later)) (units_stay (after_all h first) units rest later plain.1 others then_tied heard quiet d_first))
    units_stay h (Framed f ∷ units) rest events plain (first, later, are, (more, first_is, followed), others) tie heard quiet d =
        let g : HostState = after h (Hears (Good (Framed f))) in
        let down_first : DownAt ⊥ n (after_all g more) =
        frame_are (StaysDown ⊥) Says true s [] (follow_down ⊥ s.joined) g f (frames_in units ++ rest) more followed tie (heard.0, quiet.0) (quietly_down n within ⊥ h (Hears (Good (Framed f))) tt d) in
        let d_first : DownAt ⊥ n (after_all h first) = subst (λ (l : List HostEvent). DownAt ⊥ n (after_all h l)) (sym first_is) down_first in
        let then_tied = unit_tied true s [] h (Framed f) (frames_in units ++ rest) first plain.0 (more, first_is, followed) tie in
        subst (λ (l : List HostEvent). DownAt ⊥ n (after_all h l)) (sym are)
        (subst (λ (k : HostState). DownAt ⊥ n k) (sym (after_all-append h first later)) (units_stay (after_all h first) units rest later plain.1 others then_tied heard.1 quiet.1 d_first))

    abbrev Notified : FrameParts → Type 0
    Notified = BringsNotification n

    units_rouse : (h : HostState) (units : List LineUnit) (rest : List FrameParts) (events : List HostEvent) → AllByRecursion IsPlain units → AreJudged h (goods units) events → TieBy true (kept h) s (frames_in units ++ rest) []
        → AllSayHeard (frames_in units ++ rest) → HasOne Notified IsQuietFrame (frames_in units) → AllByRecursion IsQuietFrame rest → DownAt ⊥ n h → Alive ⊥ n (after_all h events)
    units_rouse h [] rest events plain judged tie heard one quiet d = absurd one
    units_rouse h (Nak ∷ units) rest events plain judged tie heard one quiet d = absurd plain.0
    units_rouse h (Can ∷ units) rest events plain judged tie heard one quiet d = absurd plain.0
    units_rouse h (Ack ∷ units) rest events plain (first, later, are, (more, first_is, followed), others) tie heard one quiet d =
        let g : HostState = after h (Hears (Good Ack)) in
        let d_first : DownAt ⊥ n (after_all h first) =
        subst (λ (l : List HostEvent). DownAt ⊥ n (after_all h l)) (sym first_is) (ack_down g h.side.turn more followed (quietly_down n within ⊥ h (Hears (Good Ack)) tt d)) in
        let then_tied = unit_tied true s [] h Ack (frames_in units ++ rest) first plain.0 (more, first_is, followed) tie in
        subst (λ (l : List HostEvent). Alive ⊥ n (after_all h l)) (sym are)
        (subst (λ (k : HostState). Alive ⊥ n k) (sym (after_all-append h first later)) (units_rouse (after_all h first) units rest later plain.1 others then_tied heard one quiet d_first))
    units_rouse h (Framed f ∷ units) rest events plain (first, later, are, (more, first_is, followed), others) tie heard one quiet d =
        subst (λ (l : List HostEvent). Alive ⊥ n (after_all h l)) (sym are) (subst (λ (k : HostState). Alive ⊥ n k) (sym (after_all-append h first later))
        (by (λ one_later d_first. units_rouse (after_all h first) units rest later plain.1 others then_tied heard.1 one_later quiet d_first) one))
      where
        g : HostState
        g = after h (Hears (Good (Framed f)))

        d_heard : DownAt ⊥ n g
        d_heard = quietly_down n within ⊥ h (Hears (Good (Framed f))) tt d

        then_tied : TieBy true (kept (after_all h first)) s (frames_in units ++ rest) []
        then_tied = unit_tied true s [] h (Framed f) (frames_in units ++ rest) first plain.0 (more, first_is, followed) tie

        behind : AllByRecursion IsQuietFrame (frames_in units) → AllByRecursion Says (frames_in units ++ rest)
        behind quiet_here =
            all-both SaysHeard IsQuietFrame Says (λ frame heard_is quiet_is. (heard_is, quiet_is)) (frames_in units ++ rest) heard.1 (all-append IsQuietFrame (frames_in units) rest quiet_here quiet)

        by : (HasOne Notified IsQuietFrame (frames_in units) → DownAt ⊥ n (after_all h first) → Alive ⊥ n (after_all (after_all h first) later))
            → (Notified f × AllByRecursion IsQuietFrame (frames_in units)) ⊎ (IsQuietFrame f × HasOne Notified IsQuietFrame (frames_in units)) → Alive ⊥ n (after_all (after_all h first) later)
        by later_on (inl (notifies, quiet_here)) =
            let leaves = first_leaves h f (frames_in units ++ rest) d.down.no_request tie in
            let node : IsNode n = its_node s.joined f notifies.payload notifies.is leaves in
            let payload = handler_payload g n notifies.payload more node notifies.tells.some (subst (λ (x : FrameParts). FrameFollows g x more) notifies.is followed) in
            let more_is : more ≡ Notifies n ∷ [] = payload_notifies n g notifies.payload more notifies.tells.heard payload in
            let up : Alive ⊥ n (after_all h first) =
            subst (λ (l : List HostEvent). Alive ⊥ n (after_all h l)) (sym first_is) (subst (λ (l : List HostEvent). Alive ⊥ n (after_all g l)) (sym more_is) (rouses g d_heard)) in
            units_are (StaysAlive ⊥) Says true s [] (follow_alive ⊥ s.joined) (after_all h first) units rest later plain.1 others then_tied (behind quiet_here) up
        by later_on (inr (quiet_is, one_later)) =
            let down_first : DownAt ⊥ n (after_all g more) = frame_are (StaysDown ⊥) Says true s [] (follow_down ⊥ s.joined) g f (frames_in units ++ rest) more followed tie (heard.0, quiet_is) d_heard in
            let d_first : DownAt ⊥ n (after_all h first) = subst (λ (l : List HostEvent). DownAt ⊥ n (after_all h l)) (sym first_is) down_first in
            later_on one_later d_first

-- ---- the host's part of a pass

has_split : {X : Type 0} (Is Others : X → Type 0) (a b : List X) → HasOne Is Others (a ++ b) → (HasOne Is Others a × AllByRecursion Others b) ⊎ (AllByRecursion Others a × HasOne Is Others b)
has_split Is Others [] b one = inr (tt, one)
has_split Is Others (x ∷ a) b (inl (is, others)) = inl (inl (is, all-left Others a b others), all-right Others a b others)
has_split Is Others (x ∷ a) b (inr (other, one)) = by (has_split Is Others a b one)
  where
    by : (HasOne Is Others a × AllByRecursion Others b) ⊎ (AllByRecursion Others a × HasOne Is Others b)
        → (HasOne Is Others (x ∷ a) × AllByRecursion Others b) ⊎ (AllByRecursion Others (x ∷ a) × HasOne Is Others b)
    by (inl (here, all)) = inl (inr (other, here), all)
    by (inr (all, there)) = inr ((other, all), there)

module _ (airs : Airs) (n : ℕ) (within : n < 233) (b : Bool) (passes : ℕ) (m : Machine) (rest : Rest) (items : List Item) (events : List HostEvent)
    (may : May m (Host_takes (length m.outside.outer.to_host.bytes) rest items events)) (at : IsDone m ⊎ HasMoved b passes m) (tie : TieOf true m []) (heard : AllSayHeard (unheard m.outside.outer)) where
  abbrev then_judged : Machine
  then_judged = happens m (Host_takes (length m.outside.outer.to_host.bytes) rest items events)

  abbrev s : ChipState
  s = m.outside.outer.chip.state

  -- what holds of what follows quiet frames
  quiet_holds : (On : HostState → Type 0) (Holds : HostState → List HostEvent → Type 0) → Follow Holds Says s.joined → ((es : List HostEvent) → Holds m.host.state es → On (after_all m.host.state es))
      → On m.host.state → AllByRecursion IsQuietFrame (unheard m.outside.outer) → On then_judged.host.state
  quiet_holds On Holds follow leads on quiet = by at
    where
      idles : (host turn : Turn) (frames : List FrameParts) → OnLine [] [] host turn frames m → On then_judged.host.state
      idles host turn frames line = subst On (sym (host_idles m host turn frames rest items events line may).2) on

      judges : (down : List LineUnit) (has : HasMoved b passes m) → OnLine [] down has.host has.turn has.frames m → AllByRecursion IsPlain down → length down ≤ 99 → unheard m.outside.outer ≡ frames_in down ++ s.port.waiting
          → On then_judged.host.state
      judges [] has line plain few frames_are = idles has.host has.turn has.frames line
      judges (unit ∷ units) has line plain few frames_are =
          let turned = host_turns airs m unit units has.host has.turn has.frames rest items events plain (omega (arith, few)) line may in
          let says = all-both SaysHeard IsQuietFrame Says (λ frame heard_is quiet_is. (heard_is, quiet_is)) (unheard m.outside.outer) heard quiet in
          subst On (sym turned.3)
          (leads events (units_are Holds Says true s [] follow m.host.state (unit ∷ units) s.port.waiting events plain (judged_are m (length m.outside.outer.to_host.bytes) rest items events (unit ∷ units) may turned.2)
          (subst (λ (fs : List FrameParts). TieBy true (kept m.host.state) s fs []) frames_are tie) (subst (AllByRecursion Says) frames_are says)))

      by : IsDone m ⊎ HasMoved b passes m → On then_judged.host.state
      by (inl done) = idles no_turn no_turn [] done.line
      by (inr has) = judges has.down has has.line has.plain has.few (moved_frames b passes m has)

  pub judged_down : (Empty : Type 0) → AllByRecursion IsQuietFrame (unheard m.outside.outer) → DownAt Empty n m.host.state → DownAt Empty n then_judged.host.state
  judged_down Empty quiet d = quiet_holds (DownAt Empty n) (StaysDown n within Empty) (follow_down n within Empty s.joined) (λ es stays. stays d) d quiet

  pub judged_alive : (Telling : Type 0) → AllByRecursion IsQuietFrame (unheard m.outside.outer) → Alive Telling n m.host.state → Alive Telling n then_judged.host.state
  judged_alive Telling quiet alive = quiet_holds (Alive Telling n) (StaysAlive n within Telling) (follow_alive n within Telling s.joined) (λ es stays. stays alive) alive quiet

  -- it is roused, or its Notification is still on its way
  abbrev pub Rouses : Type 0
  Rouses =
      (Alive ⊥ n then_judged.host.state × AllByRecursion IsQuietFrame (unheard then_judged.outside.outer))
      ⊎ (DownAt ⊥ n then_judged.host.state × HasOne (BringsNotification n) IsQuietFrame (unheard then_judged.outside.outer))

  pub judged_rouses : HasOne (BringsNotification n) IsQuietFrame (unheard m.outside.outer) → DownAt ⊥ n m.host.state → Rouses
  judged_rouses one d = by at
    where
      idles : (host turn : Turn) (frames : List FrameParts) → OnLine [] [] host turn frames m → Rouses
      idles host turn frames line = inr (
        subst (λ (h : HostState). DownAt ⊥ n h) (sym (host_idles m host turn frames rest items events line may).2) d,
        subst (HasOne (BringsNotification n) IsQuietFrame) (sym (unheard_idle AnyFrame (AllByRecursion AnyFrame) (all_piled AnyFrame) airs m rest items events host turn frames line may)) one,
      )

      judges : (down : List LineUnit) (has : HasMoved b passes m) → OnLine [] down has.host has.turn has.frames m → AllByRecursion IsPlain down → length down ≤ 99 → unheard m.outside.outer ≡ frames_in down ++ s.port.waiting → Rouses
      judges [] has line plain few frames_are = idles has.host has.turn has.frames line
      judges (unit ∷ units) has line plain few frames_are = of (has_split (BringsNotification n) IsQuietFrame (frames_in (unit ∷ units)) s.port.waiting (subst (HasOne (BringsNotification n) IsQuietFrame) frames_are one))
        where
          turned_items : items ≡ goods (unit ∷ units)
          turned_items = (host_turns airs m unit units has.host has.turn has.frames rest items events plain (omega (arith, few)) line may).2

          host_is : then_judged.host.state ≡ after_all m.host.state events
          host_is = (host_turns airs m unit units has.host has.turn has.frames rest items events plain (omega (arith, few)) line may).3

          left : unheard then_judged.outside.outer ≡ s.port.waiting
          left = unheard_judged AnyFrame (AllByRecursion AnyFrame) (all_piled AnyFrame) airs m rest items events unit units has.host has.turn has.frames line plain few may

          judged : AreJudged m.host.state (goods (unit ∷ units)) events
          judged = judged_are m (length m.outside.outer.to_host.bytes) rest items events (unit ∷ units) may turned_items

          parts : TieBy true (kept m.host.state) s (frames_in (unit ∷ units) ++ s.port.waiting) []
          parts = subst (λ (fs : List FrameParts). TieBy true (kept m.host.state) s fs []) frames_are tie

          heard_parts : AllSayHeard (frames_in (unit ∷ units) ++ s.port.waiting)
          heard_parts = subst AllSayHeard frames_are heard

          of : (HasOne (BringsNotification n) IsQuietFrame (frames_in (unit ∷ units)) × AllByRecursion IsQuietFrame s.port.waiting)
              ⊎ (AllByRecursion IsQuietFrame (frames_in (unit ∷ units)) × HasOne (BringsNotification n) IsQuietFrame s.port.waiting) → Rouses
          of (inl (here, quiet)) = inl (
            subst (λ (h : HostState). Alive ⊥ n h) (sym host_is) (units_rouse n within s m.host.state (unit ∷ units) s.port.waiting events plain judged parts heard_parts here quiet d),
            subst (AllByRecursion IsQuietFrame) (sym left) quiet,
          )
          of (inr (quiet, there)) = inr (
            subst (λ (h : HostState). DownAt ⊥ n h) (sym host_is) (units_stay n within s m.host.state (unit ∷ units) s.port.waiting events plain judged parts heard_parts quiet d),
            subst (HasOne (BringsNotification n) IsQuietFrame) (sym left) there,
          )

      by : IsDone m ⊎ HasMoved b passes m → Rouses
      by (inl done) = idles no_turn no_turn [] done.line
      by (inr has) = judges has.down has has.line has.plain has.few (moved_frames b passes m has)
