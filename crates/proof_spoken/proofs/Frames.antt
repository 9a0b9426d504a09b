-- The frames that the chip writes tell of each node the list that the node has, where it is told such.
use Rattle.std.proofs.Common.{◌≡◌, ℕ, List, subst}
use Rattle.std.specs.Prelude.{Option, Some, None, Ok}
use Rattle.std.specs.List.{AllByRecursion}
use Rattle.zw_base.proofs.Each.{all-weaker}
use Rattle.serial_frame.specs.Frame.{FrameParts}
use Rattle.serial_frame.specs.declared.frame.Kind.{Kind}
use Rattle.serial_frame.specs.declared.frame.Kind.TheVariants as kind
use Rattle.serial_frame.specs.declared.unit.Unit.{Unit as LineUnit}
use Rattle.chip_functions.specs.Notice.{notice_function, notice_body, notice_of}
use Rattle.chip_functions.specs.declared.function.TheConstants.{APPLICATION_UPDATE}
use Rattle.chip_functions.specs.declared.notice.Notice.{Notice}
use Rattle.chip_functions.specs.declared.notice.Notice.TheVariants.{ApplicationCommandHandler, ApplicationUpdate, SendData as send_data_called}
use Rattle.chip_functions.specs.declared.notice.TransmitStatus.{TransmitStatus}
use Rattle.chip_functions.specs.declared.notice.TransmitStatus.TheVariants.{Fail}
use Rattle.chip_functions.specs.declared.request.Request.{Request}
use Rattle.chip_functions.specs.declared.request.Request.TheVariants.{GetInitData, GetCapabilities, SendData, GetVersion, SendDataAbort, MemoryGetId, GetNodeProtocolInfo, AddNode, RequestNodeInfo, IsFailedNode, GetRoutingInfo}
use Rattle.chip_sim.specs.State.{ChipState}
use Rattle.chip_sim.specs.Waiting.{PortState}
use Rattle.chip_sim.specs.Answers.{notice_frame}
use Rattle.chip_sim.specs.Requests.{reply_to, abort_frame, callback_frame}
use Rattle.chip_sim.specs.Events.{ChipEvent, Heard, Informed, update_of}
use Rattle.chip_sim.specs.Did.{after_all, outs_all}
use Rattle.chip_sim.specs.Link.{chip_units}
use Rattle.chip_sim.specs.declared.out.Sending.{Sending}
use Rattle.zw_base.specs.declared.profile.Profile.{Profile}
use Rattle.device_kinds.specs.declared.kind.Kind.{Kind as DeviceKind}
use Rattle.device_kinds.specs.Kind.{classes_of}
use Rattle.proof_once.specs.outside_model.Results.{profile_of}
use Rattle.proof_world.proofs.ChipFrames.{IsIf, Makes, PortIs, UnitIs, events_out as outs_so, events_port as port_so}
use Rattle.proof_spoken.proofs.NoticeLists.{NoticeTells, others_tell, failed_tells, kind_tells}

-- what each node lists
module _ (listing : ℕ → List ℕ) where
  -- ---- frames

  abbrev pub FrameTells : Kind → ℕ → List ℕ → Type 0
  FrameTells kind.Request function body = (v : Notice) → notice_of function body ≡ Ok v → NoticeTells listing v
  FrameTells kind.Response function body = Unit {0}

  -- what is read of a frame tells the list of the node that it names
  abbrev pub IsTelling : FrameParts → Type 0
  IsTelling f = FrameTells f.kind f.func f.body

  abbrev pub UnitTells : LineUnit → Type 0
  UnitTells unit = UnitIs IsTelling unit

  -- that of the chip on the line, and those that wait there
  abbrev pub PortTells : PortState → Type 0
  PortTells port = PortIs IsTelling port

  -- a notice that is no update tells none
  other_tells : (notice : Notice) → (notice_function notice ≡ APPLICATION_UPDATE → ⊥) → IsTelling (notice_frame notice)
  other_tells notice other v is = others_tell listing (notice_function notice) (notice_body notice) v other is

  heard_tells : (n : ℕ) (payload : List ℕ) → IsTelling (notice_frame (ApplicationCommandHandler 0 n payload))
  heard_tells n payload = other_tells (ApplicationCommandHandler 0 n payload) (λ e. absurd cc)

  callback_tells : (sending : Sending) (status : TransmitStatus) → IsTelling (callback_frame sending status)
  callback_tells sending status = other_tells (send_data_called sending.callback_id status) (λ e. absurd cc)

  -- the information of a node is that of a kind, and the kind's list is the node's
  abbrev pub ProfileTells : ℕ → Option Profile → Type 0
  ProfileTells n None = Unit {0}
  ProfileTells n (Some profile) = (kind : DeviceKind) × (profile ≡ profile_of kind) × (classes_of kind ≡ listing n)

  update_is : (n : ℕ) (profile : Option Profile) → ProfileTells n profile → IsTelling (notice_frame (ApplicationUpdate (update_of n profile)))
  update_is n None tells v is = failed_tells listing v is
  update_is n (Some profile) (kind, same, lists) v is =
      kind_tells listing n kind lists v (subst (λ (p : Profile). notice_of APPLICATION_UPDATE (notice_body (ApplicationUpdate (update_of n (Some p)))) ≡ Ok v) same is)

  abort_tells : (sending : Option Sending) → IsIf IsTelling (abort_frame sending)
  abort_tells None = tt
  abort_tells (Some sending) = callback_tells sending Fail

  reply_tells : (s : ChipState) (request : Request) → IsIf IsTelling (reply_to s request)
  reply_tells s SendDataAbort = abort_tells s.sending
  reply_tells s GetInitData = tt
  reply_tells s GetCapabilities = tt
  reply_tells s (SendData n payload options id) = tt
  reply_tells s GetVersion = tt
  reply_tells s MemoryGetId = tt
  reply_tells s (GetNodeProtocolInfo n) = tt
  reply_tells s (AddNode mode id) = tt
  reply_tells s (RequestNodeInfo n) = tt
  reply_tells s (IsFailedNode n) = tt
  reply_tells s (GetRoutingInfo n x y z) = tt

  -- ---- events

  -- the information of a node that comes to the chip is of that node
  abbrev pub EventTells : ChipEvent → Type 0
  EventTells (Informed n profile) = ProfileTells n profile
  EventTells event = Unit {0}

  own_tells : (e : ChipEvent) → EventTells e → Makes IsTelling e
  own_tells (Heard n payload) is = heard_tells n payload
  own_tells (Informed n profile) is = update_is n profile is
  own_tells e is = tt

  pub events_port : (s : ChipState) (events : List ChipEvent) → PortTells s.port → AllByRecursion EventTells events → PortTells (after_all s events).port
  events_port s events tells all = port_so IsTelling reply_tells callback_tells s events tells (all-weaker EventTells (Makes IsTelling) own_tells events all)

  pub events_out : (s : ChipState) (events : List ChipEvent) → PortTells s.port → AllByRecursion EventTells events → AllByRecursion UnitTells (chip_units (outs_all s events))
  events_out s events tells all = outs_so IsTelling reply_tells callback_tells s events tells (all-weaker EventTells (Makes IsTelling) own_tells events all)
