-- What one walk knows at each phase is the ground of another.
use Rattle.std.proofs.Common.{List}
use Rattle.zw_text.specs.declared.entry.Entry.{Entry}
use Rattle.proof_device.specs.world_model.State.{Machine}
use Rattle.proof_walk.specs.Phases.{Phase}
use Rattle.proof_walk.specs.Walk.{Walk, WalkOver, both_know}

pub over : (First Then : List Entry → Entry → Type 0) (Ground Know : Phase → List Entry → Machine → Type 0) → Walk First Ground → WalkOver Ground Then Know → Walk Then (both_know Ground Know)
over First Then Ground Know walk more = record {
  said = λ past m words line read known.
      let one = walk.said past m words line read known.0 in
      let two = more.said past m words line read known.0 known.1 in
      (two.0, (one.1, two.1));
  event = λ here next past m event goes may known.
      let one = walk.event here next past m event goes may known.0 in
      let two = more.event here next past m event goes may known.0 known.1 in
      (two.0, (one.1, two.1));
  turn = λ here next past m turns known. (walk.turn here next past m turns known.0, more.turn here next past m turns known.0 known.1);
}

-- a walk needs no ground
pub beside : (Asks : List Entry → Entry → Type 0) (Ground Know : Phase → List Entry → Machine → Type 0) → Walk Asks Know → WalkOver Ground Asks Know
beside Asks Ground Know walk = record {
  said = λ past m words line read ground known. walk.said past m words line read known;
  event = λ here next past m event goes may ground known. walk.event here next past m event goes may known;
  turn = λ here next past m turns ground known. walk.turn here next past m turns known;
}
