-- One walk over lines for one node alone that listens: where something is known of it at each phase, no wait of an attempt runs out, and each series stays at its first attempt.
use Rattle.std.proofs.Common.{◌≡◌, ◌≢◌, ◌<◌, ℕ, inl, inr, Bool, true, false, List, [], ◌∷◌, ◌++◌, subst, sym}
use Rattle.std.specs.Prelude.{◌⊎◌}
use Rattle.zw_text.specs.declared.entry.Entry.{Entry}
use Rattle.zw_text.specs.declared.entry.Entry.TheVariants as entry
use Rattle.zw_text.specs.declared.line.Line.{Line}
use Rattle.chip_sim.specs.Nodes.{is_marked}
use Rattle.host_node.specs.Facts.{NodeFacts}
use Rattle.host_model.specs.After.{after}
use Rattle.host_model.specs.Events.{HostEvent, Node_ticks}
use Rattle.host_model.specs.May.{May as MayHost}
use Rattle.host_model.specs.State.{HostState, node_of}
use Rattle.world_model.specs.Events.{Event, Host_does, May, entries, happens}
use Rattle.world_model.specs.State.{Machine}
use Rattle.proof_answered.specs.proof_calm.proof_work.Phases.{AsksNothing}
use Rattle.proof_answered.specs.proof_calm.proof_work.proof_walk.Phases.{Between, Goes, Phase, Said_line, Turns}
use Rattle.proof_answered.specs.proof_calm.proof_work.proof_walk.Walk.{WalkWhere}
use Rattle.proof_answered.specs.proof_calm.Quiet.{AreQuiet}
use Rattle.proof_answered.specs.Few.{Knows}
use Rattle.proof_answered.specs.FirstAttempts.{AllFirst, AndInTime, IsInTime, KnowFirst}
use Rattle.proof_answered.specs.Heard.{IsHeardThen}
use Rattle.proof_answered.specs.Outward.{AllListen, IsSentTo}
use Rattle.proof_answered.specs.Sleepers.{All_listen, IsAlone}
use Rattle.proof_answered.specs.Workers.{IsWorkedFor, KnowStaff, KnowWorkers, Staffed}
use Rattle.proof_answered.proofs.AttemptEnds.{LastsAt}
use Rattle.proof_answered.proofs.AwakeNodes.{all_heard}
use Rattle.proof_answered.proofs.FirstWalk.{first_on}
use Rattle.proof_answered.proofs.Outwards.{awaits_of}
use Rattle.proof_answered.proofs.Speaking.{either_mark}
use Rattle.proof_answered.proofs.Staffing.{sent_on}
use Rattle.proof_answered.proofs.Unmarked.{nothing_asked}
use Rattle.proof_answered.proofs.proof_traffic_Parts.{Airs}
use Rattle.proof_in_time.specs.Coming.{IsKeptFor}
use Rattle.proof_in_time.proofs.Bounded.{idle_lasts}
use Rattle.proof_in_time.proofs.InHand.{HandAt, Hears_so, event_hand, listens_kept}
use Rattle.proof_in_time.proofs.Keeping.{kept_before, none_unkept, told_kept}
use Rattle.proof_in_time.proofs.Lasting.{with_first}
use Rattle.proof_in_time.proofs.OpenBeside.{AllTied}

-- what is known of the request, and of what calls say
pub known_tied : (these : List Bool) (here : Phase) (past : List Entry) (m : Machine) → IsKeptFor these past → KnowWorkers these here past m → AllTied these here m
known_tied these here past m is known = (known.0 is.worked.stretched).0.tied is.worked.stretched.quiet

module _ (these : List Bool) (Is : Phase → Machine → Type 0) where
  abbrev KnowAlone : Phase → List Entry → Machine → Type 0
  KnowAlone here past m = IsKeptFor these past → (KnowWorkers these here past m × Staffed these here m) × Is here m

  -- it is one node alone that listens, and the wait of its attempt is not at its last tick
  pub record OneAlone (here : Phase) (m : Machine) : Type 0 where
    pub n : ℕ
    pub alone : IsAlone these n
    pub listen : AllListen these m
    pub lasts : NodeFacts (node_of m.host.state n) → (node_of m.host.state n).attempt_wait ≢ 1

  module _ (one : (here : Phase) (m : Machine) → Is here m → OneAlone here m) where
    pub alone_in_time : (here : Phase) (past : List Entry) (m : Machine) (event : Event) → IsKeptFor these past → KnowAlone here past m → IsInTime m event
    alone_in_time here past m (Host_does (Node_ticks k)) is known = by (either_mark these k)
      where
        at : (KnowWorkers these here past m × Staffed these here m) × Is here m
        at = known is

        o : OneAlone here m
        o = one here m at.1

        facts : (j : ℕ) → NodeFacts (node_of m.host.state j)
        facts j = (known_tied these here past m is at.0.0).7.facts.nodes.facts j

        by : (is_marked these k ≡ true) ⊎ (is_marked these k ≡ false) → (node_of m.host.state k).attempt_wait ≢ 1
        by (inl marked) = subst (λ (j : ℕ). (node_of m.host.state j).attempt_wait ≢ 1) (sym (o.alone.only k marked)) (o.lasts (facts o.n))
        by (inr other) = idle_lasts (node_of m.host.state k) (facts k) ((at.0.0.1 is.worked.stretched).others k other).idle
    alone_in_time here past m (Host_does event) is known = tt
    alone_in_time here past m event is known = tt

    module _ (airs : Airs) where
      -- ---- what is known at an event

      pub heard_then : (here : Phase) (past : List Entry) (m : Machine) (event : Event) → IsKeptFor these past → KnowAlone here past m → IsHeardThen m event
      heard_then here past m event is known =
          let at = known is in
          let tied = known_tied these here past m is at.0.0 in
          all_heard airs these here past m event (awaits_of here m tied.1) tied.7.live (All_listen (one here m at.1).listen)

      pub sent_then : (here next : Phase) (past : List Entry) (m : Machine) (event : Event) → Goes here m event next → May m event → IsKeptFor these past → KnowAlone here past m → IsSentTo these m event
      sent_then here next past m event goes may is known =
          let at = known is in
          let tied = known_tied these here past m is at.0.0 in
          sent_on these here next m event goes may tied.0 tied.6 (at.0.0.1 is.worked.stretched).request

      -- its device listens still
      pub listen_then : ((here next : Phase) (past : List Entry) (m : Machine) (event : Event) → Goes here m event next → May m event → AreQuiet past → Knows these here past m → IsSentTo these m event → AllListen these m → AllListen these (happens m event))
          → (here next : Phase) (past : List Entry) (m : Machine) (event : Event) → Goes here m event next → May m event → IsKeptFor these past → KnowAlone here past m → AllListen these (happens m event)
      listen_then listening here next past m event goes may is known =
          let at = known is in
          listening here next past m event goes may is.worked.stretched.quiet (at.0.0.0 is.worked.stretched).0 (sent_then here next past m event goes may is known) (one here m at.1).listen

      -- what is so of the host at each event at which no attempt ends without a report stays so
      pub host_then : (On : HostState → Type 0) → ((h : HostState) (event : HostEvent) → LastsAt h event → MayHost h event → On h → On (after h event)) → (here next : Phase) (past : List Entry) (m : Machine) (event : Event) → Goes here m event next → May m event
          → IsKeptFor these (past ++ entries m event) → KnowAlone here past m → On m.host.state → On (happens m event).host.state
      host_then On law here next past m event goes may is known on =
          let before = kept_before these past (entries m event) is in
          let at = known before in
          let tied = known_tied these here past m before at.0.0 in
          first_on On law airs here next m event goes may (alone_in_time here past m event before known) tied.0 tied.1 tied.6 (at.0.0.0 before.worked.stretched).1
          (λ k same still. absurd (none_unkept m event (told_kept these past (entries m event) is) k same)) on

      -- the host listens to a node still
      pub served_then : (here next : Phase) (past : List Entry) (m : Machine) (event : Event) → Goes here m event next → May m event → IsKeptFor these (past ++ entries m event) → KnowAlone here past m → (n : ℕ) → n < 233
          → (node_of m.host.state n).listens ≡ true → (node_of (happens m event).host.state n).listens ≡ true
      served_then here next past m event goes may is known n below served =
          let before = kept_before these past (entries m event) is in
          let tied = known_tied these here past m before (known before).0.0 in
          let later = host_then (λ (h : HostState). HandAt (Hears_so true) (listens_kept true) n h.nodes) (λ h e lasts may_it hand. event_hand (Hears_so true) (listens_kept true) n below h e lasts may_it hand) here next past m event goes may is known
          (record { places = tied.7.facts.nodes.places; hand = served }) in
          later.hand

      -- ---- the walk

      module _ (staff : WalkWhere IsHeardThen AsksNothing (KnowStaff these)) (Has : Machine → Event → Type 0) (said : (line : Line) (m : Machine) → Is Between m → Is (Said_line line) m)
          (turn : (here next : Phase) (m : Machine) → Turns here m next → AllTied these here m → AllTied these next m → Is here m → Is next m)
          (goes_on : (here next : Phase) (past : List Entry) (m : Machine) (event : Event) → Goes here m event next → May m event → Has m event → IsKeptFor these (past ++ entries m event) → KnowAlone here past m → AllTied these next (happens m event)
          → Is next (happens m event)) where
        staff_then : (here next : Phase) (past : List Entry) (m : Machine) (event : Event) → Goes here m event next → May m event → IsKeptFor these past → KnowAlone here past m → KnowStaff these next (past ++ entries m event) (happens m event)
        staff_then here next past m event goes may is known = (staff.event here next past m event goes may (heard_then here past m event is known) (λ worked. (known is).0)).1

        alone_walk : WalkWhere Has AsksNothing KnowAlone
        alone_walk = record {
          said = λ past m words line read known. (
            tt,
            λ is.
                let was = known (kept_before these past (entry.Said words ∷ []) is) in
                ((staff.said past m words line read (λ worked. was.0)).1 is.worked, said line m was.1),
          );
          event = λ here next past m event goes may has known. (
            nothing_asked past (entries m event),
            λ is.
                let later = staff_then here next past m event goes may (kept_before these past (entries m event) is) known is.worked in
                (later, goes_on here next past m event goes may has is known (known_tied these next (past ++ entries m event) (happens m event) is later.0)),
          );
          turn = λ here next past m turns known is.
              let was = known is in
              let later = staff.turn here next past m turns (λ worked. was.0) is.worked in
              (later, turn here next m turns (known_tied these here past m is was.0.0) (known_tied these next past m is later.0) was.1);
        }

        -- and each series is at its first attempt
        abbrev KnowAloneFirst : Phase → List Entry → Machine → Type 0
        KnowAloneFirst here past m = KnowAlone here past m × (IsKeptFor these past → AllFirst m.host.state)

        pub alone_first : WalkWhere (AndInTime IsHeardThen) AsksNothing (KnowFirst (IsWorkedFor these) (KnowStaff these)) → WalkWhere Has AsksNothing KnowAloneFirst
        alone_first first =
            with_first these Has KnowAlone alone_walk (λ here past m is known. (known is).0)
            (λ here past m event is known. (heard_then here past m event is known, alone_in_time here past m event is known)) first
