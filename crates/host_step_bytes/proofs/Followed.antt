-- What follows an item that was answered, and what a frame of the chip brings.
use Rattle.std.proofs.Common.{◌≡◌, ℕ, ◌≤◌, List, [], ◌∷◌, ◌++◌, length, refl, ap, sym, ◌∙◌, subst, arith}
use Rattle.std.specs.Prelude.{◌≢◌, Bool, Option, Some, None, IsSome, Result, Ok, Err, OnOk}
use Rattle.serial_link.specs.declared.turn.Turn.{Turn}
use Rattle.serial_frame.specs.declared.item.Item.{Item}
use Rattle.serial_frame.specs.declared.frame.Kind.{Kind}
use Rattle.chip_functions.specs.declared.notice.Update.{Update}
use Rattle.chip_functions.specs.declared.notice.Update.TheVariants.{Received, RequestFailed}
use Rattle.chip_functions.specs.declared.notice.Notice.{Notice}
use Rattle.chip_functions.specs.declared.response.Response.{Response}
use Rattle.chip_functions.specs.declared.fault.BodyFault.{BodyFault}
use Rattle.chip_functions.specs.declared.fault.BodyFault.TheVariants.{UnknownFunction, Short, BadField, NoMemory}
use Rattle.chip_functions.specs.Place.{Gives}
use Rattle.serial_frame.specs.Frame.{FrameParts}
use Rattle.host_model.proofs.EventLists.{none_added}
use Rattle.host_requests.specs.Events.{RequestsEvent, interviewed_by, May as request_may}
use Rattle.std.proofs.lemmas.List.{length-append}
use Rattle.chip_functions.specs.Notice.{IsNoticeBody}
use Rattle.chip_functions.specs.declared.notice.Notice.TheVariants.{ApplicationCommandHandler, SendData, ApplicationUpdate, AddNode}
use Rattle.host_step_bytes.specs.Updates.{HasShortPayload}
use Rattle.host_requests.specs.Events.RequestsEvent.{Responds, Updates as request_updates}
use Rattle.host_node.specs.declared.attempt.Moment.TheVariants.{BetweenTicks}
use Rattle.host_model.specs.State.{HostState}
use Rattle.host_model.specs.Events.{HostEvent, Requests_do, Interviews, Interview_unkept}
use Rattle.host_model.specs.May.{says_listens}
use Rattle.host_keep.specs.Keeping.{Kept}
use Rattle.host_keep.specs.Rows.{IsRecord}
use Rattle.host_keep.specs.RecordText.{record_text}
use Rattle.host_keep.specs.declared.record.Record.TheVariants.{Classes}
use Rattle.host_step_bytes.proofs.OneNonce.{may_chosen}
use Rattle.host_step_kept.specs.Choices.{chosen}
use Rattle.host_step_bytes.proofs.OneMessage.{kept_or}
use Rattle.host_model.specs.After.{after}
use Rattle.host_model.specs.Outs.{outs}
use Rattle.host_model.specs.Taking.{IsFollowed, FrameEvents, ResponseEvents, NoticeEvents, InterviewEvents, told_requests}
use Rattle.host_model.specs.declared.out.HostOut.{HostOut}
use Rattle.host_step_bytes.specs.Calls.{Scene, Does, DoesAlone, Are}
use Rattle.host_step_bytes.proofs.CallLists.{one_alone, nothing_alone, does_nothing, does_as, does_kept}

-- an item that is this one is followed so
pub as_followed : (Kind : List HostEvent → Type 0) (h : HostState) (turn : Turn) (item one : Item) (a b : Scene) → item ≡ one → Does Kind a b
    → ((events : List HostEvent) → Kind events → IsFollowed h turn one events) → Does (IsFollowed h turn item) a b
as_followed Kind h turn item one a b is does so =
    does_as Kind (IsFollowed h turn item) a b does (λ events kind. subst (λ (i : Item). IsFollowed h turn i events) (sym is) (so events kind))

-- the request under way hears of something
pub requests_alone : (event : RequestsEvent) (old new : HostState) (before all : List HostOut) → request_may old.requests event → new ≡ after old (Requests_do event BetweenTicks)
    → all ≡ before ++ outs old (Requests_do event BetweenTicks) → DoesAlone (Are (told_requests event)) old before new all
requests_alone event old new before all may host put =
    one_alone (Are (told_requests event)) (Requests_do event BetweenTicks) old new before all refl may refl refl host put

-- an update with which no interview ends well tells the request under way
pub no_interview : (update : Update) (found : Option ℕ) (events : List HostEvent) → found ≡ None → events ≡ told_requests (request_updates update) → InterviewEvents update found events
no_interview update found events none are = subst (λ (o : Option ℕ). InterviewEvents update o events) (sym none) (by_update update events are)
  where
    by_update : (update : Update) (events : List HostEvent) → events ≡ told_requests (request_updates update) → InterviewEvents update None events
    by_update (Received n basic generic specific classes) events are = are
    by_update RequestFailed events are = are

-- one with which an interview ends well is that, once its record is kept
pub interview_is : (update : Update) (n : ℕ) (types : ℕ × ℕ × ℕ) (classes : List ℕ) (found : Option ℕ) (capability : ℕ) (is_kept : Bool) → update ≡ Received n types.0 types.1 types.2 classes → found ≡ Some capability
    → InterviewEvents update found (chosen is_kept (Interviews n (says_listens capability) classes update) (Interview_unkept n update) ∷ [])
interview_is update n types classes found capability is_kept is some =
    subst (λ (o : Option ℕ). InterviewEvents update o (chosen is_kept (Interviews n (says_listens capability) classes update) (Interview_unkept n update) ∷ [])) (sym some)
    (subst (λ (u : Update). InterviewEvents u (Some capability) (chosen is_kept (Interviews n (says_listens capability) classes u) (Interview_unkept n u) ∷ [])) (sym is)
    (kept_or is_kept (Interviews n (says_listens capability) classes (Received n types.0 types.1 types.2 classes)) (Interview_unkept n (Received n types.0 types.1 types.2 classes))))

-- a response that can be read tells the request under way
pub responded_alone : (response : Response) (read : Result Response BodyFault) (old new : HostState) (before all : List HostOut) → read ≡ Ok response → new ≡ after old (Requests_do (Responds response) BetweenTicks)
    → all ≡ before ++ outs old (Requests_do (Responds response) BetweenTicks) → DoesAlone (ResponseEvents read) old before new all
responded_alone response read old new before all is host put =
    subst (λ (r : Result Response BodyFault). DoesAlone (ResponseEvents r) old before new all) (sym is) (requests_alone (Responds response) old new before all tt host put)

-- the payload in a notice is part of the body
pub payload_is_short : (func : ℕ) (body : List ℕ) (notice : Notice) → IsNoticeBody func body notice → length body ≤ 65534 → HasShortPayload notice
payload_is_short func body (ApplicationCommandHandler status source payload) is short =
    omega (arith, simp length-append at (ap (λ (l : List ℕ). length l) is.text), short)
payload_is_short func body (SendData id status) is short = tt
payload_is_short func body (ApplicationUpdate update) is short = tt
payload_is_short func body (AddNode id status said) is short = tt

-- a frame of this kind brings that
pub frame_as : (kind one : Kind) (func : ℕ) (body : List ℕ) (a b : Scene) → kind ≡ one → Does (FrameEvents a.host one func body) a b → Does (FrameEvents a.host kind func body) a b
frame_as kind one func body a b is does = subst (λ (k : Kind). Does (FrameEvents a.host k func body) a b) (sym is) does

-- a frame brings what its parts bring
pub parts_bring : (shown : FrameParts) (kind : Kind) (func : ℕ) (body text : List ℕ) (a b : Scene) → record { kind = kind; func = func; body = body } ≡ shown → text ≡ body
    → Does (FrameEvents a.host kind func text) a b → Does (FrameEvents a.host shown.kind shown.func shown.body) a b
parts_bring shown kind func body text a b view same does =
    subst (λ (f : FrameParts). Does (FrameEvents a.host f.kind f.func f.body) a b) view (subst (λ (l : List ℕ). Does (FrameEvents a.host kind func l) a b) same does)

-- a fault that is not an allocation failure is the one that the body has
gives_fault : {X : Type 0} (fault : BodyFault) (read : Result X BodyFault) → fault ≢ NoMemory → Gives (λ (x : X). x) (Err fault) read → read ≡ Err fault
gives_fault NoMemory read other gives = absurd (other refl)
gives_fault (UnknownFunction func) read other gives = gives
gives_fault (Short need got) read other gives = gives
gives_fault (BadField place) read other gives = gives

-- a body that cannot be read brings nothing
pub unread_response : {T E : Type 0} (r : Result T E) (fault : BodyFault) (read : Result Response BodyFault) (h : HostState) (before : List HostOut) → OnOk r (fault ≢ NoMemory)
    → Gives (λ (x : Response). x) (Err fault) read → OnOk r (DoesAlone (ResponseEvents read) h before h before)
unread_response (Err e) fault read h before other gives = tt
unread_response (Ok x) fault read h before other gives =
    subst (λ (l : Result Response BodyFault). DoesAlone (ResponseEvents l) h before h before) (sym (gives_fault fault read other gives)) (nothing_alone (ResponseEvents (Err fault)) h h before before refl refl refl)

pub unread_notice : {T E : Type 0} (r : Result T E) (fault : BodyFault) (read : Result Notice BodyFault) (a : Scene) → OnOk r (fault ≢ NoMemory)
    → Gives (λ (x : Notice). x) (Err fault) read → OnOk r (Does (NoticeEvents a.host read) a a)
unread_notice (Err e) fault read a other gives = tt
unread_notice (Ok x) fault read a other gives =
    subst (λ (l : Result Notice BodyFault). Does (NoticeEvents a.host l) a a) (sym (gives_fault fault read other gives))
    (does_nothing (NoticeEvents a.host (Err fault)) a a refl refl refl (none_added a.shelf.records) (omega arith))

-- a notice that is this one brings that
pub notice_as : (Kind : List HostEvent → Type 0) (notice one : Notice) (a b : Scene) → notice ≡ one → Does Kind a b → ((events : List HostEvent) → Kind events → NoticeEvents a.host (Ok one) events)
    → Does (NoticeEvents a.host (Ok notice)) a b
notice_as Kind notice one a b is does so =
    does_as Kind (NoticeEvents a.host (Ok notice)) a b does (λ events kind. subst (λ (n : Notice). NoticeEvents a.host (Ok n) events) (sym is) (so events kind))

-- what was read is what it is
pub read_as : (read one : Result Notice BodyFault) (a b : Scene) → read ≡ one → Does (NoticeEvents a.host one) a b → Does (NoticeEvents a.host read) a b
read_as read one a b is does = subst (λ (r : Result Notice BodyFault). Does (NoticeEvents a.host r) a b) (sym is) does

-- an interview ended well, once that was kept
pub interviewed_does : (update : Update) (n : ℕ) (types : ℕ × ℕ × ℕ) (classes : List ℕ) (found : Option ℕ) (capability : ℕ) (is_kept : Bool) (a b : Scene) → update ≡ Received n types.0 types.1 types.2 classes
    → found ≡ interviewed_by a.host.requests update → found ≡ Some capability
    → IsRecord (Classes n (says_listens capability) classes) → Kept is_kept (record_text (Classes n (says_listens capability) classes)) a.shelf b.shelf
    → b.host ≡ after a.host (chosen is_kept (Interviews n (says_listens capability) classes update) (Interview_unkept n update))
    → b.outs ≡ a.outs ++ outs a.host (chosen is_kept (Interviews n (says_listens capability) classes update) (Interview_unkept n update)) → a.shelf.faults ≤ b.shelf.faults
    → Does (InterviewEvents update (interviewed_by a.host.requests update)) a b
interviewed_does update n types classes found capability is_kept a b is here some range kept host put falls =
    let brought : interviewed_by a.host.requests update ≡ Some capability = sym here ∙ some in
    does_kept (InterviewEvents update (interviewed_by a.host.requests update)) is_kept (Interviews n (says_listens capability) classes update) (Interview_unkept n update) (Classes n (says_listens capability) classes) a b
    (interview_is update n types classes (interviewed_by a.host.requests update) capability is_kept is brought)
    (may_chosen a.host is_kept (Interviews n (says_listens capability) classes update) (Interview_unkept n update)
    (capability, record { brought = brought; types = types; received = is }, refl)
    (subst (λ (o : Option ℕ). IsSome o) (sym brought) refl)) refl range refl refl refl kept host put falls

-- the same, of what was said of its listening
pub interviewed_as : (update : Update) (n : ℕ) (types : ℕ × ℕ × ℕ) (classes : List ℕ) (found : Option ℕ) (capability : ℕ) (listens is_kept : Bool) (a b : Scene) → update ≡ Received n types.0 types.1 types.2 classes
    → found ≡ interviewed_by a.host.requests update → found ≡ Some capability → listens ≡ says_listens capability
    → IsRecord (Classes n listens classes) → Kept is_kept (record_text (Classes n listens classes)) a.shelf b.shelf
    → b.host ≡ after a.host (chosen is_kept (Interviews n listens classes update) (Interview_unkept n update))
    → b.outs ≡ a.outs ++ outs a.host (chosen is_kept (Interviews n listens classes update) (Interview_unkept n update)) → a.shelf.faults ≤ b.shelf.faults
    → Does (InterviewEvents update (interviewed_by a.host.requests update)) a b
interviewed_as update n types classes found capability listens is_kept a b is here some says range kept host put falls =
    interviewed_does update n types classes found capability is_kept a b is here some range
    (subst (λ (l : Bool). Kept is_kept (record_text (Classes n l classes)) a.shelf b.shelf) says kept)
    (subst (λ (l : Bool). b.host ≡ after a.host (chosen is_kept (Interviews n l classes update) (Interview_unkept n update))) says host)
    (subst (λ (l : Bool). b.outs ≡ a.outs ++ outs a.host (chosen is_kept (Interviews n l classes update) (Interview_unkept n update))) says put) falls
