-- By what is known where a host hears a payload, and what waits where it judges a frame.
use Rattle.std.proofs.Common.{ℕ, List, ◌++◌, refl, sym, subst}
use Rattle.s0_crypto.specs.Sealing.{keys_of}
use Rattle.zw_text.specs.declared.entry.Entry.{Entry}
use Rattle.host_heard.specs.declared.told.Told.{Told}
use Rattle.law_transcript.specs.Units.{Carried}
use Rattle.proof_hearing.specs.proof_queue.proof_attempts.proof_requests.proof_alone.Phases.{Phase}
use Rattle.proof_hearing.specs.proof_queue.proof_attempts.proof_requests.proof_alone.State.{done}
use Rattle.proof_noting.specs.Behind.BehindSo.{Payload_left}
use Rattle.proof_noting.specs.Noting.{KnowsCourse}
use Rattle.proof_noting.specs.Steps.{first_of}
use Rattle.proof_noting.proofs.PayloadEvent.{event_goes}
use Rattle.proof_noting.proofs.PayloadFits.{payload_fits}
use Rattle.proof_noting.proofs.PayloadJudged.{JudgesAsTold, item_judged}
use Rattle.proof_noting.proofs.PayloadMiddle.{PointsAlong}
use Rattle.proof_noting.proofs.PayloadOver.{payload_over}
use Rattle.proof_noting.proofs.payloads.notes_go_with_payloads.Goals as goal

module _ (c : goal.After-hosts_show_open_sessions) (key : List ℕ) (taken : List Entry → Carried → List Told) where
  points : PointsAlong key taken
  points = λ here told m run other n late. c.hosts_have_points.ensures key taken here told m run other n late

  queues : JudgesAsTold key taken
  queues = λ past m f rest run careful heeds takes now may. c.hosts_queue_as_told.ensures.judges (keys_of key) taken past m f rest run careful heeds takes now may

pub returns-clause-judged : goal.returns-clause-judged
returns-clause-judged c = λ key taken from ground next past told m item rest behind brings.
    item_judged key taken from ground c.hosts_show_open_sessions.ensures.opened (queues c key taken) next past told m item rest behind brings

pub returns-clause-event : goal.returns-clause-event
returns-clause-event c = λ key taken from ground next past told m one left sure may it.
    subst (λ (p : Phase). KnowsCourse key taken from (first_of key) p (past ++ told) (done m one)) (sym may.0.1)
    (Payload_left (event_goes key taken from ground (points c key taken) past told m one left sure ((refl, refl), may.1, may.2, may.3) it))

pub returns-clause-over : goal.returns-clause-over
returns-clause-over c = λ key taken from ground past m sure it. payload_over key taken from ground (points c key taken) past m sure it

pub returns-clause-fits : goal.returns-clause-fits
returns-clause-fits c = λ key taken from past m left it. payload_fits key taken from past m left it
