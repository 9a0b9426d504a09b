-- What the frames of the host ask to send a lock.
use Rattle.std.proofs.Common.{◌≡◌, ℕ, Bool, Option, Some, None, List, refl, subst}
use Rattle.chip_functions.specs.declared.request.Request.TheVariants.{GetInitData, GetCapabilities, GetVersion, SendDataAbort, MemoryGetId, GetNodeProtocolInfo, RequestNodeInfo, IsFailedNode, GetRoutingInfo}
use Rattle.host_requests.specs.Frames.{nonce_report, no_more_information, send, request_frame, frame_of}
use Rattle.host_requests.specs.declared.task.Task.{Task}
use Rattle.host_requests.specs.declared.task.Task.TheVariants as task
use Rattle.host_requests.specs.declared.task.Purpose.TheVariants.{Housekeeping, Attempt, Abort}
use Rattle.proof_course_plain.proofs.HostFrames.{frame_sends}
use Rattle.proof_course_sealed.specs.Labels.{Sent, Offer}
use Rattle.proof_course_sealed.specs.Meaning.{Past, IsNeither, HostMeans}
use Rattle.proof_course_sealed.specs.Lines.{Asks, asked_as}
use Rattle.proof_course_sealed.specs.Host.{IsOtherTask, TaskIs}

-- the label of a task
abbrev pub offered : Option ℕ → Option Sent
offered None = None
offered (Some number) = Some (Offer number)

module _ (past : Past) (node : ℕ) where
  sends_asks : (to : ℕ) (text : List ℕ) (id : ℕ) (mark : Option Sent) → (to ≡ node → HostMeans past node text (asked_as mark)) → Asks past node (request_frame (send to text id)) mark
  sends_asks to text id mark means payload options other e =
      let is = frame_sends (send to text id) node payload options other e in subst (λ (p : List ℕ). HostMeans past node p (asked_as mark)) is.1 (means is.0)

  pub attempt_asks : (to : ℕ) (more : Bool) (text : List ℕ) (id : ℕ) (mark : Option Sent) → (to ≡ node → HostMeans past node text (asked_as mark)) → Asks past node (frame_of (Attempt to more text) id) mark
  attempt_asks to more text id mark means = sends_asks to text id mark means

  pub abort_asks : (id : ℕ) → Asks past node (frame_of Abort id) None
  abort_asks id payload options other e = absurd (frame_sends SendDataAbort node payload options other e)

  module _ (no_more : IsNeither no_more_information) where
    other_asks : (queued : Task) (id : ℕ) → IsOtherTask node queued → Asks past node (frame_of (Housekeeping queued) id) None
    other_asks (task.Plain n payload) id other = sends_asks n payload id None other
    other_asks (task.Offer n nonce) id apart = sends_asks n (nonce_report nonce) id None (λ own. absurd (apart own))
    other_asks (task.Segment n payload) id apart = sends_asks n payload id None (λ own. absurd (apart own))
    other_asks (task.NoMore n) id other = sends_asks n no_more_information id None (λ own. no_more)
    other_asks (task.First n) id other = λ payload options o e. absurd (frame_sends (GetNodeProtocolInfo n) node payload options o e)
    other_asks (task.Second n) id other = λ payload options o e. absurd (frame_sends (RequestNodeInfo n) node payload options o e)
    other_asks task.Members id other = λ payload options o e. absurd (frame_sends GetInitData node payload options o e)
    other_asks (task.Neighbours n) id other = λ payload options o e. absurd (frame_sends (GetRoutingInfo n 0 0 0) node payload options o e)
    other_asks (task.IsFailed n) id other = λ payload options o e. absurd (frame_sends (IsFailedNode n) node payload options o e)
    other_asks task.Version id other = λ payload options o e. absurd (frame_sends GetVersion node payload options o e)
    other_asks task.MemoryId id other = λ payload options o e. absurd (frame_sends MemoryGetId node payload options o e)
    other_asks task.Capabilities id other = λ payload options o e. absurd (frame_sends GetCapabilities node payload options o e)

    -- a task that waits is submitted
    pub task_asks : (queued : Task) (mark : Option ℕ) (id : ℕ) → TaskIs past node queued mark → Asks past node (frame_of (Housekeeping queued) id) (offered mark)
    task_asks (task.Offer n nonce) (Some number) id is = sends_asks n (nonce_report nonce) id (Some (Offer number)) (λ own. record { nonce = nonce; is = is.1; text = refl })
    task_asks (task.Plain n payload) (Some number) id is = absurd is
    task_asks (task.Segment n payload) (Some number) id is = absurd is
    task_asks (task.NoMore n) (Some number) id is = absurd is
    task_asks (task.First n) (Some number) id is = absurd is
    task_asks (task.Second n) (Some number) id is = absurd is
    task_asks task.Members (Some number) id is = absurd is
    task_asks (task.Neighbours n) (Some number) id is = absurd is
    task_asks (task.IsFailed n) (Some number) id is = absurd is
    task_asks task.Version (Some number) id is = absurd is
    task_asks task.MemoryId (Some number) id is = absurd is
    task_asks task.Capabilities (Some number) id is = absurd is
    task_asks (task.Plain n payload) None id is = other_asks (task.Plain n payload) id is
    task_asks (task.Offer n nonce) None id is = other_asks (task.Offer n nonce) id is
    task_asks (task.Segment n payload) None id is = other_asks (task.Segment n payload) id is
    task_asks (task.NoMore n) None id is = other_asks (task.NoMore n) id is
    task_asks (task.First n) None id is = other_asks (task.First n) id is
    task_asks (task.Second n) None id is = other_asks (task.Second n) id is
    task_asks task.Members None id is = other_asks task.Members id is
    task_asks (task.Neighbours n) None id is = other_asks (task.Neighbours n) id is
    task_asks (task.IsFailed n) None id is = other_asks (task.IsFailed n) id is
    task_asks task.Version None id is = other_asks task.Version id is
    task_asks task.MemoryId None id is = other_asks task.MemoryId id is
    task_asks task.Capabilities None id is = other_asks task.Capabilities id is
