-- The walks over tables, time, what is left of a tick, and the work of the host, joined.
use Rattle.std.proofs.Common.{◌≡◌, true, false, inl, [], refl, arith}
use Rattle.std.specs.Prelude.{Some}
use Rattle.s0_crypto.specs.declared.key_pair.Keys.{Keys}
use Rattle.proof_work.specs.proof_host.Laws.{MayStand}
use Rattle.proof_work.specs.proof_walk.Time.{MayCount}
use Rattle.proof_requests.specs.proof_alone.Runs.{Walk, both_know}
use Rattle.proof_requests.specs.proof_alone.State.{first_alone}
use Rattle.proof_requests.specs.proof_alone.Tables.{KnowsTables}
use Rattle.proof_requests.specs.proof_alone.Time.{KnowsClock, TieClock}
use Rattle.proof_requests.proofs.Running.{over, run_keeps}
use Rattle.proof_attempts.specs.Since.{InTick, KnowsSince, KnowsTicks}
use Rattle.proof_attempts.specs.Waking.{KnowsWork}
use Rattle.proof_attempts.specs.Working.{WorksInOrder}
use Rattle.proof_attempts.proofs.Lasting.{over_both, since_walk}
use Rattle.proof_attempts.proofs.Ticking.{ticks_last}
use Rattle.proof_attempts.proofs.work.hosts_know_their_work.Goals as goal

ticks_walk : Walk MayStand KnowsTables → Walk MayCount KnowsClock → Walk MayCount KnowsTicks
ticks_walk tables time =
    let both : Walk MayCount (both_know KnowsTables KnowsClock) =
    over KnowsTables MayStand MayCount KnowsClock tables (record {
      step = λ here next past m one may ground stand known. time.step here next past m one may known;
      turn = λ here next past m turns ground known. time.turn here next past m turns known;
    }) in
    over_both MayCount (both_know KnowsTables KnowsClock) (KnowsSince InTick) both (since_walk InTick (both_know KnowsTables KnowsClock) (ticks_last (both_know KnowsTables KnowsClock)))

work_walk : Walk MayCount KnowsTicks → Walk MayStand (both_know KnowsTables (KnowsSince WorksInOrder)) → Walk MayCount KnowsWork
work_walk ticks work =
    over KnowsTicks MayCount MayCount (KnowsSince WorksInOrder) ticks (record {
      step = λ here next past m one may ground stand known. (stand, (work.step here next past m one may (ground.0.0, known)).1.1);
      turn = λ here next past m turns ground known. (work.turn here next past m turns (ground.0.0, known)).1;
    })

first_clock : (keys : Keys) → TieClock [] (first_alone keys (Some []))
first_clock keys = record {
  asked = refl;
  all = refl;
  begun = omega arith;
  shown = omega arith;
  later = λ is. absurd (let bad : false ≡ true = is in cc);
  now = λ is. inl refl;
}

pub returns : goal.returns
returns c = λ keys here told m run.
    (run_keeps MayCount KnowsWork (work_walk (ticks_walk c.hosts_keep_their_tables.ensures.walk c.hosts_tell_time.ensures.walk) c.hosts_work_in_order.ensures.walk) [] run
    (((c.hosts_keep_their_tables.ensures.first keys, first_clock keys), tt), (c.hosts_work_in_order.ensures.first keys).1)).1
