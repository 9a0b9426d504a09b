-- What frames of the chip do to the request under way (Serial API; this project's own rule).
use Rattle.std.specs.Prelude.{◌≡◌, List, Some}
use Rattle.serial_frame.specs.Frame.{FrameParts}
use Rattle.chip_functions.specs.declared.function.TheConstants.{SEND_DATA}
use Rattle.chip_functions.specs.declared.response.Response.TheVariants.{SendData}
use Rattle.chip_sim.specs.Answers.{response_frame}
use Rattle.host_requests.specs.Frames.{function_of}
use Rattle.host_requests.specs.declared.under_way.Progress.{Progress}
use Rattle.host_requests.specs.declared.under_way.UnderWay.{UnderWay}
use Rattle.host_model.specs.State.{HostState}
use Rattle.host_model.specs.Events.{HostEvent}
use Rattle.host_model.specs.Taking.{FrameEvents}

-- what the chip answers to a SendData that it takes
abbrev pub answer_taken : FrameParts
answer_taken = response_frame (SendData 1)

-- these events follow a frame that the host has answered
abbrev pub FrameFollows : HostState → FrameParts → List HostEvent → Type 0
FrameFollows h frame events = FrameEvents h frame.kind frame.func frame.body events

-- a SendData is under way
pub record IsSending (u : UnderWay) (h : HostState) : Type 0 where
  pub under_way : h.requests.under_way ≡ Some u
  pub sends : function_of u.purpose ≡ SEND_DATA

-- it is so still
pub record GoesOn (u : UnderWay) (h : HostState) : Type 0 where
  pub progress : Progress
  pub under_way : h.requests.under_way ≡ Some (record { purpose = u.purpose; progress = progress })
