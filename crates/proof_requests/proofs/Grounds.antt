-- The ground of the walk, and where it begins.
use Rattle.std.proofs.Common.{List, [], refl}
use Rattle.std.specs.Prelude.{Some}
use Rattle.s0_crypto.specs.declared.key_pair.Keys.{Keys}
use Rattle.zw_text.specs.declared.entry.Entry.{Entry}
use Rattle.proof_waking.specs.law_time.Moments.{Allows}
use Rattle.proof_waking.specs.law_time.Waking.{may_wake}
use Rattle.proof_waking.specs.proof_host.Laws.{MayStand}
use Rattle.proof_messages.proofs.SealedTexts.{TextsLeft}
use Rattle.proof_waking.specs.proof_walk.Time.{MayCount}
use Rattle.proof_waking.specs.proof_alone.State.{first_alone}
use Rattle.proof_waking.specs.proof_alone.Phases.{Resting}
use Rattle.proof_waking.specs.proof_alone.Runs.{Knowledge, Walk, WalkOver, both_know}
use Rattle.proof_waking.specs.proof_alone.Tables.{KnowsTables}
use Rattle.proof_waking.specs.proof_alone.Time.{KnowsClock}
use Rattle.proof_waking.proofs.Running.{over}
use Rattle.proof_waking.proofs.Timing.{first_clock}
use Rattle.proof_waking.specs.Judged.{KnowsJudged}
use Rattle.proof_requests.specs.Walking.{Ground, KnowsAsked, KnowsCame, KnowsHost, KnowsQueue}
use Rattle.proof_requests.proofs.Came.{came_walk}
use Rattle.proof_requests.proofs.Queued.{PayloadsBring}
use Rattle.proof_requests.proofs.Queueing.{first_texts, queue_walk}
use Rattle.proof_requests.proofs.Stepping.{asked_walk, first_asked}

-- a walk goes on any ground
beside : (Below : Knowledge) (First Law : List Entry → Entry → Type 0) (Know : Knowledge) → Walk Law Know → WalkOver Below First Law Know
beside Below First Law Know walk = record {
  step = λ here next past m one may ground stand known. walk.step here next past m one may known;
  turn = λ here next past m turns ground known. walk.turn here next past m turns known;
}

pub host_walk : Walk MayStand KnowsTables → Walk MayCount KnowsClock → Walk (Allows may_wake) KnowsJudged → Walk (Allows may_wake) KnowsHost
host_walk tables time judged =
    over (both_know KnowsTables KnowsClock) MayCount (Allows may_wake) KnowsJudged (over KnowsTables MayStand MayCount KnowsClock tables (beside KnowsTables MayStand MayCount KnowsClock time))
    (beside (both_know KnowsTables KnowsClock) MayCount (Allows may_wake) KnowsJudged judged)

pub asked_so : PayloadsBring → TextsLeft → Walk (Allows may_wake) KnowsHost → Walk (Allows may_wake) (both_know Ground KnowsAsked)
asked_so brings left host =
    let came : Walk (Allows may_wake) (both_know KnowsHost KnowsCame) =
    over KnowsHost (Allows may_wake) (Allows may_wake) KnowsCame host (came_walk KnowsHost (Allows may_wake)) in
    let ground : Walk (Allows may_wake) Ground =
    over (both_know KnowsHost KnowsCame) (Allows may_wake) (Allows may_wake) KnowsQueue came (queue_walk brings left (Allows may_wake)) in
    over Ground (Allows may_wake) (Allows may_wake) KnowsAsked ground (asked_walk brings (Allows may_wake))

pub first_so : (keys : Keys) → KnowsTables Resting [] (first_alone keys (Some [])) → KnowsJudged Resting [] (first_alone keys (Some []))
    → both_know Ground KnowsAsked Resting [] (first_alone keys (Some []))
first_so keys tables judged =
    (((((tables, first_clock (first_alone keys (Some [])) refl refl refl), judged), tt), ((tt, refl, tt), tt, first_texts keys)), first_asked (first_alone keys (Some [])) refl)
