-- Over lines for one node alone that is a lock and listens it is known at each phase what its attempt waits for, so that each series stays at its first attempt.
use Rattle.std.proofs.Common.{◌≡◌, ◌≤◌, ◌<◌, ℕ, suc, inl, inr, Bool, true, false, List, ◌++◌, length, subst, arith}
use Rattle.std.specs.Prelude.{◌⊎◌, Some}
use Rattle.zw_text.specs.declared.entry.Entry.{Entry}
use Rattle.chip_functions.specs.Field.{IsNode}
use Rattle.chip_sim.specs.Nodes.{is_marked}
use Rattle.host_node.specs.Search.{next_of}
use Rattle.host_node.specs.declared.series.Series.TheVariants as series
use Rattle.host_model.specs.After.{after}
use Rattle.host_model.specs.Events.{HostEvent}
use Rattle.host_model.specs.Facts.{HostFacts}
use Rattle.host_model.specs.May.{May as MayHost}
use Rattle.host_model.specs.State.{HostState, node_of}
use Rattle.world_model.specs.Events.{Event, May, entries, happens}
use Rattle.world_model.specs.State.{Machine}
use Rattle.proof_answered.specs.proof_calm.proof_work.Phases.{AsksNothing}
use Rattle.proof_answered.specs.proof_calm.proof_work.proof_walk.Phases.{Between, Goes, Phase, Said_line, To_tick}
use Rattle.proof_answered.specs.proof_calm.proof_work.proof_walk.Walk.{WalkWhere}
use Rattle.proof_answered.specs.proof_calm.Quiet.{AreQuiet}
use Rattle.proof_answered.specs.Few.{Knows}
use Rattle.proof_answered.specs.FirstAttempts.{AndInTime, KnowFirst}
use Rattle.proof_answered.specs.Heard.{IsHeardThen}
use Rattle.proof_answered.specs.Outward.{AllListen, IsSentTo}
use Rattle.proof_answered.specs.Sleepers.{IsAlone}
use Rattle.proof_answered.specs.Workers.{IsWorkedFor, KnowStaff, KnowsWorkers}
use Rattle.proof_answered.proofs.SleeperAloft.{none_aborted}
use Rattle.proof_answered.proofs.proof_traffic_Parts.{Airs}
use Rattle.proof_in_time.specs.Coming.{IsKeptFor, most_then}
use Rattle.proof_in_time.specs.Exchanging.{GoSealed}
use Rattle.proof_in_time.specs.Locked.{IsLocked, KnowLocked, KnowLockedFirst, LockAt, LockCounts, LocksGo}
use Rattle.proof_in_time.proofs.AloneWalk.{alone_first, heard_then, host_then, known_tied, listen_then, sent_then, served_then}
use Rattle.proof_in_time.proofs.ExchangeOwed.{AroundSealed}
use Rattle.proof_in_time.proofs.ExchangeWalk.{SealedLaws}
use Rattle.proof_in_time.proofs.GoingSealed.{go_sealed_on}
use Rattle.proof_in_time.proofs.Keeping.{kept_before, told_kept}
use Rattle.proof_in_time.proofs.Lasting.{joined_on, keeps, node_within}
use Rattle.proof_in_time.proofs.LockWaits.{SecureAt, lock_later, lock_more, lock_one, lock_said, lock_some, lock_turned, secure_kept}
use Rattle.proof_in_time.proofs.OpenBeside.{AllTied}
use Rattle.proof_in_time.proofs.PartsAround.{none_wants}
use Rattle.proof_in_time.proofs.QuietPhases.{no_start_of, quiet_at}

module _ (airs : Airs) (laws : SealedLaws) (facts_kept : (h : HostState) (event : HostEvent) → HostFacts h → MayHost h event → HostFacts (after h event)) (these : List Bool) (many : length these ≡ 233) (none : is_marked these 0 ≡ false)
    (workers : (h : HostState) (k : ℕ) → KnowsWorkers these h → next_of h.nodes h.served ≡ Some k → is_marked these k ≡ true) where
  node_of_one : (n : ℕ) → IsAlone these n → IsNode n
  node_of_one n alone = node_within these many none n alone.marked

  -- of the node
  module _ (n : ℕ) (alone : IsAlone these n) (here : Phase) (m : Machine) (o : IsLocked these here m) where
    own : o.n ≡ n
    own = alone.only o.n o.alone.marked

    own_go : GoSealed n m.host.state
    own_go = subst (λ (k : ℕ). GoSealed k m.host.state) own o.go

    own_served : (node_of m.host.state n).listens ≡ true
    own_served = subst (λ (k : ℕ). (node_of m.host.state k).listens ≡ true) own o.served

  around_of : (here next : Phase) (past : List Entry) (m : Machine) (event : Event) → Goes here m event next → May m event → LocksGo these m event → IsKeptFor these (past ++ entries m event) → KnowLocked these here past m
      → AllTied these next (happens m event) → (n : ℕ) → IsAlone these n → AroundSealed these n here next m event
  around_of here next past m event goes may steps is known then_tied n alone =
      let before = kept_before these past (entries m event) is in
      let at = known before in
      let stretched = before.worked.stretched in
      let tied = known_tied these here past m before at.0.0 in
      record {
        lock = record {
          may = may;
          line = tied.0;
          awaits = tied.1;
          room = tied.2;
          routed = tied.3;
          none_aborted = none_aborted here m tied.0;
          tie = tied.6;
          peopled = tied.7;
          then_line = then_tied.0;
          then_awaits = then_tied.1;
          then_routed = then_tied.3;
          then_none = none_aborted next (happens m event) then_tied.0;
          then_tie = then_tied.6;
          sent = sent_then these (IsLocked these) (lock_one these) airs here next past m event goes may before known;
          heard = heard_then these (IsLocked these) (lock_one these) airs here past m event before known;
          lines = at.0.1.lines;
          speak = at.0.1.speak;
          joined = at.1.joined n alone.marked;
          step = (steps n alone.marked).step;
        };
        keeps = keeps m event (told_kept these past (entries m event) is);
        wants = none_wants these n alone m (at.0.0.1 stretched) (own_served n alone here m at.1);
        workers = λ k is_next. workers m.host.state k (at.0.0.1 stretched) is_next;
        go = own_go n alone here m at.1;
        calls = (at.0.0.0 stretched).1;
      }

  -- ---- within how many ticks

  pub lock_counts : (n : ℕ) → IsAlone these n → LockCounts these n
  lock_counts n alone = record {
    later = λ here next past m event goes may steps is known later most at.
        lock_later airs laws these many n alone (node_of_one n alone) here next m event goes
        (around_of here next past m event goes may steps is known (known_tied these next (past ++ entries m event) (happens m event) is (later is).0.0) n alone) most at;
    turned = λ here next past m turns is known later most at.
        lock_turned airs laws these many n alone (node_of_one n alone) here next m turns (known_tied these here past m is (known is).0.0) (known_tied these next past m is (later is).0.0) most at;
    said = λ line m most at. lock_said airs laws these many n alone (node_of_one n alone) line m most at;
    some = λ most ticks m runs at. lock_some airs laws these many n alone (node_of_one n alone) most ticks m runs at;
  }

  most_few : (here : Phase) → most_then 6 here ≤ 6
  most_few (To_tick (suc ticks)) = omega arith
  most_few here = omega arith

  -- ---- from phase to phase

  module _ (listening : (here next : Phase) (past : List Entry) (m : Machine) (event : Event) → Goes here m event next → May m event → AreQuiet past → Knows these here past m → IsSentTo these m event → AllListen these m → AllListen these (happens m event)) where
    locked_on : (here next : Phase) (past : List Entry) (m : Machine) (event : Event) → Goes here m event next → May m event → LocksGo these m event → IsKeptFor these (past ++ entries m event) → KnowLocked these here past m
        → AllTied these next (happens m event) → IsLocked these next (happens m event)
    locked_on here next past m event goes may steps is known then_tied =
        let before = kept_before these past (entries m event) is in
        let at = known before in
        let tied = known_tied these here past m before at.0.0 in
        let o = at.1 in
        let node = node_of_one o.n o.alone in
        let below : o.n < 233 = (let few = node.1 in omega (arith, few)) in
        let secure = host_then these (IsLocked these) (lock_one these) airs (SecureAt facts_kept o.n below) (secure_kept facts_kept o.n below) here next past m event goes may is known (record { facts = tied.7.facts; is = o.secure }) in
        record {
          n = o.n;
          alone = o.alone;
          at = then_at o.n (lock_later airs laws these many o.n o.alone node here next m event goes (around_of here next past m event goes may steps is known then_tied o.n o.alone) 6 o.at);
          go = go_sealed_on o.n below m event (no_start_of here next m event goes (quiet_at here m tied.0)) may tied.7.facts o.secure (steps o.n o.alone.marked).near o.go;
          secure = secure.is;
          joined = joined_on these here next m event goes tied.0 may o.joined;
          listen = listen_then these (IsLocked these) (lock_one these) airs listening here next past m event goes may before known;
          served = served_then these (IsLocked these) (lock_one these) airs here next past m event goes may is known o.n below o.served;
        }
      where
        then_at : (n : ℕ) → LockAt n (most_then 6 here) next (happens m event) ⊎ (((node_of m.host.state n).series ≡ series.Due) × LockAt n 6 next (happens m event)) → LockAt n 6 next (happens m event)
        then_at n (inl on) = lock_more n (most_then 6 here) 6 next (happens m event) (most_few here) on
        then_at n (inr (due, on)) = on

    locked_as : (here next : Phase) (m : Machine) → (o : IsLocked these here m) → LockAt o.n 6 next m → IsLocked these next m
    locked_as here next m o at = record { n = o.n; alone = o.alone; at = at; go = o.go; secure = o.secure; joined = o.joined; listen = o.listen; served = o.served }

    -- and each series is at its first attempt
    pub lock_first : WalkWhere IsHeardThen AsksNothing (KnowStaff these) → WalkWhere (AndInTime IsHeardThen) AsksNothing (KnowFirst (IsWorkedFor these) (KnowStaff these)) → WalkWhere (LocksGo these) AsksNothing (KnowLockedFirst these)
    lock_first staff first =
        alone_first these (IsLocked these) (lock_one these) airs staff (LocksGo these)
        (λ line m o. locked_as Between (Said_line line) m o (lock_said airs laws these many o.n o.alone (node_of_one o.n o.alone) line m 6 o.at))
        (λ here next m turns tied then_tied o. locked_as here next m o (lock_turned airs laws these many o.n o.alone (node_of_one o.n o.alone) here next m turns tied then_tied 6 o.at))
        locked_on first
