-- What a host puts out speaks neither of a frame on the air nor of a line or the time.
use Rattle.std.proofs.Common.{List}
use Rattle.proof_air.specs.host_model.State.{HostState}
use Rattle.proof_air.specs.host_model.Events.{HostEvent, Accepts}
use Rattle.proof_air.specs.host_model.Did.{outs_all}
use Rattle.proof_air.specs.host_model.declared.out.HostOut.{HostOut}
use Rattle.proof_air.specs.host_model.Outs.{answers}
use Rattle.proof_spoken.proofs.HostOuts.{OutsAre, OwnIs, SharedAre, all_outs_are, answers_are}
use Rattle.proof_transcript.proofs.Plain.{IsPlain, Plains}

abbrev pub PlainOuts : List HostOut → Type 0
PlainOuts puts = OutsAre IsPlain puts

shared_plain : SharedAre IsPlain
shared_plain = record {
  unanswered = λ command. tt;
  asleep = λ n. tt;
  done = λ n how. tt;
  uninterviewed = λ n. tt;
  neighbours = λ n nodes. tt;
  failed = λ n is_failed. tt;
  stored = λ n setting. tt;
  held = λ n. tt;
  full = λ n. tt;
}

own_plain : (event : HostEvent) → OwnIs IsPlain event
own_plain (Accepts order carriage) = λ number. tt
own_plain _ = tt

pub all_outs_plain : (h : HostState) (events : List HostEvent) → PlainOuts (outs_all h events)
all_outs_plain h events = all_outs_are IsPlain shared_plain own_plain h events

-- what is answered to the line
pub answers_plain : (h : HostState) (event : HostEvent) → Plains (answers h event)
answers_plain h event = answers_are IsPlain h event (own_plain event)
