-- An interview that ends well behind a frame hears what that frame lists.
use Rattle.std.proofs.Common.{◌≡◌, ℕ, Bool, if◌then◌else◌, List, [], ◌∷◌, ◌++◌, refl, sym, ap, ◌∙◌, subst, append-nil}
use Rattle.std.specs.Prelude.{Option, Some, None, Result, Ok, Err}
use Rattle.std.specs.List.{AllByRecursion, flat_map}
use Rattle.std.proofs.lemmas.Bool.{eq-eqb}
use Rattle.zw_base.proofs.Each.{all-right, all-weaker}
use Rattle.serial_frame.specs.Frame.{FrameParts, checksum, framed, kind_code}
use Rattle.serial_frame.specs.Items.{unit_text}
use Rattle.serial_frame.specs.declared.frame.Kind.{Kind}
use Rattle.serial_frame.specs.declared.frame.Kind.TheVariants as kind
use Rattle.serial_frame.specs.declared.unit.Unit.TheVariants.{Framed}
use Rattle.chip_functions.specs.Notice.{notice_of}
use Rattle.chip_functions.specs.Response.{response_of}
use Rattle.chip_functions.specs.declared.fault.BodyFault.{BodyFault}
use Rattle.chip_functions.specs.declared.notice.Notice.{Notice}
use Rattle.chip_functions.specs.declared.notice.Notice.TheVariants.{ApplicationCommandHandler, SendData, ApplicationUpdate, AddNode}
use Rattle.chip_functions.specs.declared.notice.Update.{Update}
use Rattle.chip_functions.specs.declared.notice.Update.TheVariants.{Received, RequestFailed}
use Rattle.chip_functions.specs.declared.response.Response.{Response}
use Rattle.zw_text.specs.declared.entry.Entry.{Entry}
use Rattle.proof_transcript.specs.law_transcript.Units.{notice_in, read_well}
use Rattle.proof_transcript.specs.law_time.Judged.{notices_here}
use Rattle.proof_transcript.specs.law_host.Heard.{classes_in}
use Rattle.host_heard.specs.Telling.{heard_at}
use Rattle.host_requests.specs.Events.{interviewed_by}
use Rattle.proof_waking.specs.host_model.State.{HostState}
use Rattle.proof_waking.specs.host_model.Events.{HostEvent, Interviews, Interview_unkept}
use Rattle.proof_waking.specs.host_model.May.{says_listens}
use Rattle.proof_waking.specs.host_model.Taking.{FrameEvents, InterviewEvents, NoticeEvents, ResponseEvents}
use Rattle.proof_waking.specs.proof_alone.State.{HostMachine}
use Rattle.proof_transcript.proofs.Always.{either, none, one}
use Rattle.proof_transcript.proofs.proof_spoken_Heard.{IsOfPayload, payload_of}
use Rattle.proof_transcript.proofs.Bodies.{body_is}
use Rattle.proof_waking.specs.Judged.{IsBehindFrame}
use Rattle.proof_waking.proofs.Settling.{behind_here}

-- an interview that ends well has these notices list its classes once
abbrev Lists : List Notice → HostEvent → Type 0
Lists notices (Interviews n listens classes update) = flat_map (classes_in n) notices ≡ classes ∷ []
Lists notices event = Unit {0}

payload_lists : (notices : List Notice) (n : ℕ) (event : HostEvent) → IsOfPayload n event → Lists notices event
payload_lists notices n (Interviews other listens classes update) of_it = absurd of_it
payload_lists notices n event of_it = tt

response_lists : (notices : List Notice) (read : Result Response BodyFault) (events : List HostEvent) → ResponseEvents read events → AllByRecursion (Lists notices) events
response_lists notices (Ok response) events is = one (Lists notices) _ events tt is
response_lists notices (Err fault) events is = none (Lists notices) events is

update_lists : (update : Update) (brought : Option ℕ) (events : List HostEvent) → InterviewEvents update brought events → AllByRecursion (Lists (ApplicationUpdate update ∷ [])) events
update_lists (Received n basic generic specific classes) (Some capability) events is =
    either (Lists (ApplicationUpdate (Received n basic generic specific classes) ∷ []))
    (Interviews n (says_listens capability) classes (Received n basic generic specific classes)) (Interview_unkept n (Received n basic generic specific classes)) events
    (ap (λ (b : Bool). (if b then classes ∷ [] else []) ++ []) (eq-eqb n n refl)) tt is
update_lists RequestFailed (Some capability) events is = none (Lists (ApplicationUpdate RequestFailed ∷ [])) events is
update_lists (Received n basic generic specific classes) None events is = one (Lists (ApplicationUpdate (Received n basic generic specific classes) ∷ [])) _ events tt is
update_lists RequestFailed None events is = one (Lists (ApplicationUpdate RequestFailed ∷ [])) _ events tt is

notice_lists : (h : HostState) (read : Result Notice BodyFault) (events : List HostEvent) → NoticeEvents h read events → AllByRecursion (Lists (read_well read)) events
notice_lists h (Ok (ApplicationCommandHandler rx_status source payload)) events is =
    all-weaker (IsOfPayload source) (Lists (ApplicationCommandHandler rx_status source payload ∷ [])) (payload_lists (ApplicationCommandHandler rx_status source payload ∷ []) source) events
    (payload_of source h payload (heard_at payload) events is)
notice_lists h (Ok (SendData callback_id status)) events is = one (Lists (SendData callback_id status ∷ [])) _ events tt is
notice_lists h (Ok (ApplicationUpdate update)) events is = update_lists update (interviewed_by h.requests update) events is
notice_lists h (Ok (AddNode callback_id status information)) events is = none (Lists (AddNode callback_id status information ∷ [])) events is
notice_lists h (Err fault) events is = none (Lists []) events is

-- the notice that the text of a request frame is
text_notes : (func : ℕ) (body : List ℕ) (sum : ℕ) → notice_in (framed (0 ∷ func ∷ body) sum) ≡ read_well (notice_of func body)
text_notes func body sum = ap (λ (b : List ℕ). read_well (notice_of func b)) (body_is body func sum)

kind_lists : (h : HostState) (k : Kind) (func : ℕ) (body : List ℕ) (sum : ℕ) (events : List HostEvent) → FrameEvents h k func body events
    → AllByRecursion (Lists (notice_in (framed (kind_code k ∷ func ∷ body) sum))) events
kind_lists h kind.Response func body sum events is = response_lists (notice_in (framed (1 ∷ func ∷ body) sum)) (response_of func body) events is
kind_lists h kind.Request func body sum events is =
    subst (λ (l : List Notice). AllByRecursion (Lists l) events) (sym (text_notes func body sum)) (notice_lists h (notice_of func body) events is)

frame_lists : (h : HostState) (f : FrameParts) (events : List HostEvent) → FrameEvents h f.kind f.func f.body events → AllByRecursion (Lists (notice_in (unit_text (Framed f)))) events
frame_lists h f events is = kind_lists h f.kind f.func f.body (checksum (kind_code f.kind ∷ f.func ∷ f.body)) events is

-- so what it lists was judged here
pub interview_listed : (past : List Entry) (m : HostMachine) (left : List HostEvent) (n : ℕ) (listens : Bool) (classes : List ℕ) (update : Update)
    → IsBehindFrame past m (Interviews n listens classes update ∷ left) → flat_map (classes_in n) (notices_here past) ≡ classes ∷ []
interview_listed past m left n listens classes update behind =
    let frame = behind.frame in
    let event : HostEvent = Interviews n listens classes update in
    let notices : List Notice = notice_in (unit_text (Framed frame.frame)) in
    let are : notices_here past ≡ notices = ap (λ (l : List (List ℕ)). flat_map notice_in l) (behind_here past m (event ∷ left) behind) ∙ append-nil notices in
    ap (λ (l : List Notice). flat_map (classes_in n) l) are
    ∙ (all-right (Lists notices) frame.gone (event ∷ left) (frame_lists frame.first frame.frame (frame.gone ++ event ∷ left) frame.followed)).0
