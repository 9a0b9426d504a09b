-- What a frame of the chip makes of the request under way (Serial API: responses, callbacks and ApplicationUpdates), and what the transcript says of it.
use Rattle.std.specs.Prelude.{◌≡◌, ℕ, true, false, Option, Result, Ok, Err}
use Rattle.serial_frame.specs.Frame.{FrameParts}
use Rattle.serial_frame.specs.declared.frame.Kind.{Kind}
use Rattle.serial_frame.specs.declared.frame.Kind.TheVariants as kind
use Rattle.chip_functions.specs.Notice.{notice_of}
use Rattle.chip_functions.specs.Response.{response_of}
use Rattle.chip_functions.specs.declared.fault.BodyFault.{BodyFault}
use Rattle.chip_functions.specs.declared.notice.Notice.{Notice}
use Rattle.chip_functions.specs.declared.notice.Notice.TheVariants.{ApplicationUpdate, SendData as CalledBack}
use Rattle.chip_functions.specs.declared.response.Response.{Response}
use Rattle.proof_waking.specs.law_transcript.Units.{request_in}
use Rattle.proof_waking.specs.law_time.Requests.{Judging, is_response_to}
use Rattle.proof_waking.specs.law_time.Ends.{is_abort_frame}
use Rattle.host_requests.specs.Next.{at_callback, at_response, at_update, capability_at, is_answered, is_sent, is_silent}
use Rattle.host_requests.specs.declared.end.How.{How}
use Rattle.host_requests.specs.declared.next.Next.{Next}
use Rattle.host_requests.specs.declared.next.Next.TheVariants.{Ends, GoesOn}
use Rattle.host_requests.specs.declared.under_way.Progress.TheVariants.{Answered}
use Rattle.host_requests.specs.declared.under_way.UnderWay.{UnderWay}
use Rattle.proof_requests.specs.Standing.{Standing, brought_by, ends_now}

-- by what is read of it; the callback id given last, and the capability that the first request of an interview brought
abbrev pub response_next : Result Response BodyFault → UnderWay → Next
response_next (Ok response) u = at_response response u
response_next (Err fault) u = GoesOn u.progress

abbrev pub notice_next : ℕ → Option ℕ → Result Notice BodyFault → UnderWay → Next
notice_next last first (Ok (CalledBack id status)) u = at_callback last id status u
notice_next last first (Ok (ApplicationUpdate update)) u = at_update first update u
notice_next last first read u = GoesOn u.progress

abbrev pub kind_next : ℕ → Option ℕ → Kind → FrameParts → UnderWay → Next
kind_next last first kind.Response f u = response_next (response_of f.func f.body) u
kind_next last first kind.Request f u = notice_next last first (notice_of f.func f.body) u

abbrev pub frame_next : ℕ → Option ℕ → FrameParts → UnderWay → Next
frame_next last first f u = kind_next last first f.kind f u

-- it is nothing to the request; one more response; the first, and it waits for more; or it ends it
pub data FrameSays (s : Standing) (one : Judging) (u : UnderWay) (next : Next) : Type 0 where
  Leaves : next ≡ GoesOn u.progress → is_response_to s.frame one.unit ≡ false → ends_now s one ≡ false → FrameSays s one u next
  Again : next ≡ GoesOn u.progress → is_answered u.progress ≡ true → is_response_to s.frame one.unit ≡ true → ends_now s one ≡ false → FrameSays s one u next
  Takes : next ≡ GoesOn (Answered (is_sent u.progress) 65) → is_answered u.progress ≡ false → is_abort_frame s.frame ≡ false → is_response_to s.frame one.unit ≡ true
      → ends_now s one ≡ false → FrameSays s one u next
  Finishes : (how : How) → next ≡ Ends how → is_silent how ≡ false → ends_now s one ≡ true → capability_at how ≡ brought_by (request_in s.frame) one.unit → FrameSays s one u next
