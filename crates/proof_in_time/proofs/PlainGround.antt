-- A count of ticks over lines for nodes whose messages go whole: the host listens to each, or they are one alone that sleeps.
use Rattle.std.proofs.Common.{◌≡◌, ℕ, suc, ◌≤◌, ◌++◌, inl, inr, Bool, true, false, List, length, sym, ◌∙◌, subst, arith}
use Rattle.std.specs.Prelude.{◌⊎◌}
use Rattle.zw_text.specs.declared.entry.Entry.{Entry}
use Rattle.chip_functions.specs.Field.{IsNode}
use Rattle.chip_sim.specs.Nodes.{is_marked}
use Rattle.supervision.specs.Host.{begun_of}
use Rattle.host_node.specs.declared.series.Series.TheVariants as series
use Rattle.host_model.specs.State.{node_of}
use Rattle.world_model.specs.Events.{Event, May, entries, happens}
use Rattle.world_model.specs.State.{Machine}
use Rattle.proof_answered.specs.proof_calm.proof_work.Line.{HasOnLine}
use Rattle.proof_answered.specs.proof_calm.proof_work.Phases.{AsksNothing}
use Rattle.proof_answered.specs.proof_calm.proof_work.proof_walk.Phases.{Phase, To_tick}
use Rattle.proof_answered.specs.proof_calm.proof_work.proof_walk.Walk.{WalkWhere}
use Rattle.proof_answered.specs.proof_calm.Awaited.{AwaitsAt}
use Rattle.proof_answered.specs.proof_calm.Resting.{LineAt}
use Rattle.proof_answered.specs.proof_calm.Routed.{IsRouted}
use Rattle.proof_answered.specs.proof_calm.Tied.{IsPeopled, PumpedAt, RoomAt, TieAt}
use Rattle.proof_answered.specs.Outward.{IsSentTo}
use Rattle.proof_answered.proofs.AwakeNodes.{all_heard}
use Rattle.proof_answered.proofs.Outwards.{awaits_of}
use Rattle.proof_answered.proofs.Speaking.{Same}
use Rattle.proof_answered.proofs.Staffing.{sent_on}
use Rattle.proof_answered.proofs.proof_traffic_Parts.{Airs}
use Rattle.proof_in_time.specs.Coming.{AreWaiting, IsKeptFor, WaitsFor}
use Rattle.proof_in_time.specs.InHand.{AllServe, Serves}
use Rattle.proof_in_time.specs.Sleeping.{ComesUp, IsPlainlyUp}
use Rattle.proof_in_time.proofs.Bounded.{Devices, some_left}
use Rattle.proof_in_time.proofs.Commands.{plain_start}
use Rattle.proof_in_time.proofs.Counting.{Ground, IsStep, IsTurn, Lines}
use Rattle.proof_in_time.proofs.Keeping.{kept_before, told_kept}
use Rattle.proof_in_time.proofs.Lasting.{LaterOn, event_waits, in_time, keeps, most_then, said_waits, turns_wait}
use Rattle.proof_in_time.proofs.Retried.{ticks_then}
use Rattle.proof_in_time.proofs.Rising.{HasRisen, rests_at, serves_now}
use Rattle.proof_in_time.proofs.Rousing.{come_on, up_turn}
use Rattle.proof_in_time.proofs.Serving.{KnowServed, risen_on, risen_said, risen_turn}

pub plain_lines : (these : List Bool) (listening : Bool) → WalkWhere (IsPlainlyUp these) AsksNothing (KnowServed listening these) → Lines these (IsPlainlyUp these) (KnowServed listening these)
plain_lines these listening walk = record {
  walk = walk;
  workers = λ here past m kept known. (known.0.0 kept).0;
  in_time = λ here past m event kept known. in_time these here past m event kept known.0.0;
}

module _ (airs : Airs) (same : Same) (these : List Bool) (many : length these ≡ 233) (laws : Devices) (n : ℕ) (marked : is_marked these n ≡ true) (node : IsNode n) (listening : Bool) where
  abbrev Tied_at : Phase → Machine → Type 0
  Tied_at here m = LineAt here m × AwaitsAt here m × RoomAt here m × IsRouted m.outside.outer × HasOnLine m.host.state × PumpedAt here m × TieAt here m × IsPeopled these m

  abbrev Up : Machine → Event → Type 0
  Up = IsPlainlyUp these

  abbrev Know : Phase → List Entry → Machine → Type 0
  Know = KnowServed listening these

  tied_of : (here : Phase) (past : List Entry) (m : Machine) → IsKeptFor these past → Know here past m → Tied_at here m
  tied_of here past m kept known = ((known.0.0 kept).0.0.0 kept.worked.stretched).0.tied kept.worked.stretched.quiet

  waiting_of : (here : Phase) (past : List Entry) (m : Machine) → IsKeptFor these past → Know here past m → AreWaiting these here past m
  waiting_of here past m kept known = (known.0.0 kept).1

  -- ---- at an event

  module _ (here next : Phase) (past : List Entry) (m : Machine) (event : Event) (step : IsStep these Up Know here next past m event) where
    before : IsKeptFor these past
    before = kept_before these past (entries m event) step.kept

    tied : Tied_at here m
    tied = tied_of here past m before step.was

    next_tied : Tied_at next (happens m event)
    next_tied = tied_of next (past ++ entries m event) (happens m event) step.kept step.then_is

    was : AreWaiting these here past m
    was = waiting_of here past m before step.was

    serve : Serves listening these m
    serve = (step.was.1 before).serve

    sent : IsSentTo these m event
    sent = sent_on these here next m event step.goes step.may tied.0 tied.6 ((step.was.0.0 before).0.0.1 before.worked.stretched).request

    -- an attempt that runs
    still_runs : (most : ℕ) → (node_of m.host.state n).series ≡ series.Running → LaterOn airs these many laws true n most marked node (most_then most here) next m event → WaitsFor true n (most_then most here) next (happens m event)
    still_runs most runs (inl later) = later
    still_runs most runs (inr (due, later)) = absurd (let wrong : series.Due ≡ series.Running = sym due ∙ runs in cc)

    nearer : (most : ℕ) → (node_of m.host.state n).series ≡ series.Running → WaitsFor true n most here m → WaitsFor true n (most_then most here) next (happens m event)
    nearer most runs w =
        still_runs most runs
        (event_waits airs these many laws true n most marked node here next m event step.goes step.may (step.up.0 n marked).step (keeps m event (told_kept these past (entries m event) step.kept))
        (λ asked is. plain_start these m asked (subst (May m) is step.may) tied.7.facts was.whole) tied.0 tied.1 tied.2 tied.3 tied.6 tied.7
        (all_heard airs these here past m event (awaits_of here m tied.1) tied.7.live was.hears) sent was.joined w next_tied.0)

    -- its Notification
    comes : listening ≡ false → (left : ℕ) → ComesUp n left here m → ComesUp n (ticks_then left here) next (happens m event) ⊎ HasRisen n next (past ++ entries m event) (happens m event)
    comes sleeps left up =
        let rests = subst (λ (b : Bool). Serves b these m) sleeps serve in
        let then_rests = subst (λ (b : Bool). Serves b these (happens m event)) sleeps (step.then_is.1 step.kept).serve in
        come_on airs these many n marked left here next past m event step.goes step.may tied.0 tied.1 tied.2 tied.3 tied.6 tied.7 sent next_tied.0 (rests_at these n here past m marked rests was.hears)
        (rests_at these n next (past ++ entries m event) (happens m event) marked then_rests (waiting_of next (past ++ entries m event) (happens m event) step.kept step.then_is).hears) up

  -- ---- all of it

  some_of : (most ticks : ℕ) (m : Machine) → (node_of m.host.state n).series ≡ series.Running → WaitsFor true n most (To_tick (suc ticks)) m → 1 ≤ most
  some_of most ticks m runs w =
      let b = w.bounded runs in
      let one = some_left airs these many laws true n most marked node ticks (begun_of (node_of m.host.state n).book) b.left m b.comes in
      let within = b.within in
      omega (arith, one, within)

  listens_of : (here : Phase) (past : List Entry) (m : Machine) → listening ≡ true → IsKeptFor these past → Know here past m → (node_of m.host.state n).listens ≡ true
  listens_of here past m hears kept known = let serve : AllServe these m.host.state = subst (λ (b : Bool). Serves b these m) hears (known.1 kept).serve in serve.listens n marked

  turned : (here next : Phase) (past : List Entry) (m : Machine) → IsTurn these Know here next past m → (most : ℕ) → WaitsFor true n most here m → WaitsFor true n most next m
  turned here next past m turn most w =
      let tied = tied_of here past m turn.kept turn.was in
      let next_tied = tied_of next past m turn.kept turn.then_is in
      turns_wait airs these many laws true n most marked node here next m turn.turns tied.1 tied.6 next_tied.0 next_tied.6 w

  pub plain_ground : WalkWhere (IsPlainlyUp these) AsksNothing (KnowServed listening these) → Ground these n 6 listening (IsPlainlyUp these) (KnowServed listening these) (WaitsFor true n)
  plain_ground walk = record {
    lines = plain_lines these listening walk;
    listens = listens_of;
    served = λ here past m kept known risen. serves_now listening these n here past m marked (known.1 kept).serve (waiting_of here past m kept known).hears risen;
    within = λ here past m kept known. (waiting_of here past m kept known).waits n marked;
    some = some_of;
    on = λ here next past m event step most runs w. nearer here next past m event step most runs w;
    turn = turned;
    said = λ line m most w. said_waits airs these many laws true n most marked node line m w;
    risen_on = λ here next past m event step risen.
        risen_on airs same these many n marked listening here next past m event step.goes step.may step.up step.kept step.was.0 step.then_is.0 (serve here next past m event step) risen;
    risen_turn = λ here next past m turn risen. risen_turn these n marked listening here next past m turn.turns (tied_of here past m turn.kept turn.was).0 risen;
    risen_said = λ past m words line read is risen. risen_said these n marked listening past m words line read is risen;
    comes_on = λ here next past m event step sleeps left up. comes here next past m event step sleeps left up;
    comes_turn = λ here next past m turn sleeps left up.
        up_turn airs these many n marked left here next m turn.turns (tied_of here past m turn.kept turn.was).1 (tied_of next past m turn.kept turn.then_is).0 up;
  }
