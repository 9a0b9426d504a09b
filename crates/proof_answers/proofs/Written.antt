-- What the chip has for its host is known by the steps of its link, beside all that other walks tell, at each phase of a line; so what it writes is that, in order.
use Rattle.std.proofs.Common.{◌≡◌, ◌-◌, ℕ, nat_lt, Bool, true, false, if◌then◌else◌, suc, zero, List, [], ◌∷◌, ◌++◌, refl, sym, ap, ◌∙◌, subst, append-nil, arith}
use Rattle.std.proofs.lemmas.Bool.Decides.{nat_tests}
use Rattle.std.specs.Prelude.{Option}
use Rattle.serial_link.specs.Rules.{Step}
use Rattle.serial_frame.specs.Frame.{FrameParts}
use Rattle.route_table.specs.declared.route.Route.{Route}
use Rattle.chip_sim.specs.Link.{link_units}
use Rattle.s0_crypto.specs.declared.key_pair.Keys.{Keys}
use Rattle.zw_text.specs.declared.line.Line.{Line}
use Rattle.zw_text.specs.declared.entry.Entry.{Entry}
use Rattle.zw_text.specs.declared.entry.Entry.TheVariants.{Said}
use Rattle.law_transcript.specs.Devices.{ComingAt}
use Rattle.law_transcript.specs.Lists.{EachAfter}
use Rattle.law_wire.specs.Arriving.{lived_through}
use Rattle.law_wire.specs.Asked.{Course, course_of}
use Rattle.law_wire.specs.Answering.{MayAnswer, MayWait}
use Rattle.law_wire.specs.Taking.{MayAir}
use Rattle.host_keep.specs.declared.record.Record.{Record}
use Rattle.host_model.specs.Opening.{opened}
use Rattle.host_model.specs.State.{HostState}
use Rattle.host_model.specs.Events.{HostEvent}
use Rattle.host_model.specs.After.{after as host_after}
use Rattle.host_model.specs.May.{May as MayHost}
use Rattle.host_model.specs.Outs.{outs as host_outs}
use Rattle.mesh_sim.specs.Routes.{IsRoute}
use Rattle.outside_model.specs.declared.waits.Due.{Due}
use Rattle.outside_model.specs.declared.waits.Due.TheVariants.{Info}
use Rattle.outside_model.specs.Devices.{State}
use Rattle.outside_model.specs.State.{OuterState}
use Rattle.outside_model.specs.Results.{MayGive}
use Rattle.outside_model.specs.Events.{Gives, May as MayOutside}
use Rattle.world_model.specs.State.{Machine}
use Rattle.world_model.specs.Events.{Event, May, Outside_does, entries, happens}
use Rattle.proof_host.proofs.Lists.{each-append}
use Rattle.proof_serial.specs.Line.{host_units}
use Rattle.proof_devices.specs.proof_air.proof_walk.Phases.{Phase, Between, Said_line, Ticked, Arriving, Giving, To_tick, Goes}
use Rattle.proof_devices.specs.proof_air.proof_walk.Outside.{awaits_number}
use Rattle.proof_devices.specs.proof_air.proof_walk.Time.{KnowTime}
use Rattle.proof_devices.specs.proof_air.proof_walk.Walk.{Walk, WalkWhere}
use Rattle.proof_devices.specs.proof_air.Landing.{KnowLanding}
use Rattle.proof_chip.specs.proof_line.Linked.{began, did_at, said, Cuts, Did, IsOrderly}
use Rattle.proof_chip.specs.proof_line.proof_traffic.Links.{KeepsItsLink, host_link_steps}
use Rattle.proof_chip.proofs.ChipAccounts.{event_steps}
use Rattle.proof_chip.proofs.Arrivals.{NoNexting}
use Rattle.proof_chip.proofs.Parts.{Laws}
use Rattle.proof_chip.proofs.LinkEnds.{cuts_began}
use Rattle.proof_chip.proofs.LinkWalk.{event_knows, said_knows, said_steps, tick_none, turn_knows}
use Rattle.proof_devices.specs.proof_routes.Networks.{Tie as Networks}
use Rattle.proof_devices.specs.proof_routes.Knowing.{KnowNetworks}
use Rattle.proof_devices.specs.Acks.{KnowAcks}
use Rattle.proof_devices.specs.Living.{IsNow, Lived, lived_in}
use Rattle.proof_chip.specs.Bringing.{BringsInOrder}
use Rattle.proof_chip.specs.Calling.{KnowCalls}
use Rattle.proof_chip.specs.Knowing.{AnyEntry}
use Rattle.proof_chip.specs.Sending.{GroundAir, KnowAir}
use Rattle.proof_chip.specs.Served.{KnowBeside}
use Rattle.proof_chip.specs.Staying.{AreBegun, KnowStays}
use Rattle.proof_chip.specs.Tally.{KnowTally}
use Rattle.proof_chip.proofs.Airs.{event_goes, said_goes, turn_goes}
use Rattle.proof_chip.proofs.Beginning.{all_there}
use Rattle.proof_chip.proofs.Standing.{goes_none}
use Rattle.proof_chip.proofs.Staying.{stays_cut, stays_event, stays_said, stays_turn}
use Rattle.proof_chip.proofs.Tallies.{at_waits, ended_waits, tally_event, tally_said, tally_turn}
use Rattle.proof_chip.proofs.Learning.{any_each}
use Rattle.proof_answers.specs.Answered.{AnswersByLink, KnowAnswering, KnowGround}
use Rattle.proof_answers.specs.Telling.{KnowTells, TellsAt}
use Rattle.proof_answers.proofs.Information.{informs_so}
use Rattle.proof_answers.proofs.Informing.{informs_on}
use Rattle.proof_answers.proofs.Walk.{Giving_events, tells_event, tells_said, tells_turn}

-- ---- the ground

pub law_of : (devices : List State) → GroundAir devices (KnowBeside devices) → GroundAir devices (KnowGround devices)
law_of devices law = record {
  history = λ here past m known. law.history here past m known.0.0;
  agrees = λ passes ticks past m known. law.agrees passes ticks past m known.0.0;
  none = λ ticks past m known. law.none ticks past m known.0.0;
}

-- what is due first has the way that the air has
way_of : (m : Machine) (route : Option Route) (node : ℕ) (due : List Due) → m.outside.outer.due ≡ Info node ∷ due → May m (Outside_does (Gives route)) → IsRoute m.outside.outer.air.network node route
unfolding May MayOutside
way_of m route node due is may = subst (λ (l : List Due). MayGive m.outside.outer l route) is may.1

lived_all : (clock place : ℕ) → lived_in 0 clock place ≡ clock - 1
lived_all clock place = let is : nat_lt place 0 ≡ false = grind (arith, nat_tests) in ap (λ (b : Bool). if b then clock else clock - 1) is

pub given_of : (devices : List State) → ((past : List Entry) (m : Machine) → KnowNetworks devices Between past m → Networks devices past m.outside)
    → ((ticks : ℕ) (came : List ComingAt) (old new : State) → Lived ticks came old new → IsNow (lived_through 0 ticks came old) new) → Giving_events devices (KnowGround devices)
given_of devices networks is_now = record {
  networks = λ passes ticks past m known. networks past m known.0.0.0.0.1;
  informs = λ left ticks past m route may known node due is.
      let o : OuterState = m.outside.outer in
      informs_on devices node (o.clock - 1) past (awaits_number o) o.clock _
      (informs_so devices past m.outside node (o.clock - 1) (networks past m known.0.0.0.0.1) (lived_in 0 o.clock) (lived_all o.clock) known.0.1.0.1.tie is_now route (way_of m route node due is may));
}

-- ---- the walk

module _ (devices : List State) (laws : Laws) (none : NoNexting) (Asks : List Entry → Entry → Type 0) (beside : Walk Asks (KnowGround devices)) (law : GroundAir devices (KnowGround devices))
    (given : Giving_events devices (KnowGround devices))
    (each : (h : HostState) (event : HostEvent) (steps : List Step) → KeepsItsLink steps h → MayHost h event → KeepsItsLink (steps ++ host_link_steps h event) (host_after h event))
    (units : (h : HostState) (event : HostEvent) → h.side.collisions ≡ 0 → host_units (host_outs h event) ≡ link_units (host_link_steps h event))
    (opened_keeps : (keys : Keys) (records : List Record) → KeepsItsLink [] (opened keys records)) where
  landing : (here : Phase) (past : List Entry) (m : Machine) → KnowGround devices here past m → KnowLanding here past m
  landing here past m known = known.0.0.0.0.0.1

  calls : (here : Phase) (past : List Entry) (m : Machine) → KnowGround devices here past m → KnowCalls here past m
  calls here past m known = known.0.0.1

  time : (here : Phase) (past : List Entry) (m : Machine) → KnowGround devices here past m → KnowTime here past m
  time here past m known = known.0.0.0.0.0.0.1

  acks : (here : Phase) (past : List Entry) (m : Machine) → KnowGround devices here past m → KnowAcks here past m
  acks here past m known = known.1

  -- the steps after an event are those before it and its own
  did_steps : (did : Did) (here next : Phase) (m : Machine) (event : Event) → Goes here m event next → did.steps ++ event_steps m event ≡ (did_at here did (event_steps m event)).steps
  did_steps did (To_tick (suc ticks)) next m event (same, next_is) =
      ap (λ (e : Event). did.steps ++ event_steps m e) same ∙ ap (λ (l : List Step). did.steps ++ l) (tick_none m) ∙ append-nil did.steps
  did_steps did (To_tick zero) next m event goes = absurd goes
  did_steps did here next m event goes = refl

  abbrev All : List Step → Phase → List Entry → Machine → Type 0
  All steps here past m = KnowAir devices steps here past m × KnowTally devices steps here past m × KnowTells devices steps here past m

  event_all : (did : Did) (here next : Phase) (past : List Entry) (m : Machine) (event : Event) → Goes here m event next → May m event → KnowGround devices here past m → All did.steps here past m
      → All (did_at here did (event_steps m event)).steps next (past ++ entries m event) (happens m event)
  event_all did here next past m event goes may ground (airs, tally, tells) =
      subst (λ (l : List Step). All l next (past ++ entries m event) (happens m event)) (did_steps did here next m event goes) (
        event_goes devices (KnowGround devices) law did.steps here next past m event goes may ground airs,
        tally_event devices laws none (KnowGround devices) law landing calls did.steps here next past m event goes may ground airs tally,
        tells_event devices laws none (KnowGround devices) law landing calls acks given did.steps here next past m event goes may ground airs tally tells,
      )

  said_all : (did : Did) (past : List Entry) (m : Machine) (words : List ℕ) (line : Line) → KnowGround devices (Said_line line) (past ++ Said words ∷ []) m → All did.steps Between past m
      → All (said line did).steps (Said_line line) (past ++ Said words ∷ []) m
  said_all did past m words line now (airs, tally, tells) =
      let counted = tally_said devices laws none (KnowGround devices) law landing calls did.steps past m words line (landing (Said_line line) (past ++ Said words ∷ []) m now).now tally in
      subst (λ (l : List Step). All l (Said_line line) (past ++ Said words ∷ []) m) (sym (said_steps line did)) (
        said_goes devices (KnowGround devices) law did.steps past m words line airs,
        counted,
        tells_said devices laws none (KnowGround devices) law landing calls acks given did.steps past m words line counted tells,
      )

  pub answered_walk : WalkWhere IsOrderly AnyEntry (KnowAnswering devices)
  answered_walk = record {
    said = λ past m words line read known.
        let (did, cuts, airs, tally, stays, tells) = known.1 in
        let now = (beside.said past m words line read known.0).1 in
        let got = said_all did past m words line now (airs, tally, tells) in (
          tt,
          (
            now,
            (
              said line did,
              said_knows past m words line read (time Between past m known.0) cuts,
              got.0,
              got.1,
              stays_said devices did past m words line read (time Between past m known.0) cuts tally stays,
              got.2,
            ),
          ),
        );
    event = λ here next past m event goes may orderly known.
        let (did, cuts, airs, tally, stays, tells) = known.1 in
        let got = event_all did here next past m event goes may known.0 (airs, tally, tells) in (
          any_each past (entries m event),
          (
            (beside.event here next past m event goes may known.0).1,
            (
              did_at here did (event_steps m event),
              event_knows each units opened_keeps did here next past m event goes may orderly cuts,
              got.0,
              got.1,
              stays_event devices did here next past m event goes may cuts tally stays,
              got.2,
            ),
          ),
        );
    turn = λ here next past m turns known.
        let (did, cuts, airs, tally, stays, tells) = known.1 in (
          beside.turn here next past m turns known.0,
          (
            did,
            (cuts.0, turn_knows each units opened_keeps did here next past m turns cuts.1),
            turn_goes devices (KnowGround devices) law did.steps here next past m turns known.0 airs,
            tally_turn devices laws none (KnowGround devices) law landing calls did.steps here next past m turns known.0 tally,
            stays_turn devices did here next past m turns stays,
            tells_turn devices laws none (KnowGround devices) law landing calls acks given did.steps here next past m turns known.0 tally tells,
          ),
        );
  }

-- ---- the law

turns_at : (devices : List State) (o : OuterState) (frames : List FrameParts) (course : Course) (past : List Entry) (here : Phase) → TellsAt devices here o frames course past → EachAfter (MayAnswer devices course) [] past
turns_at devices o frames course past (Ticked ticks) tells = tells.turns
turns_at devices o frames course past (Arriving left ticks) tells = tells.turns
turns_at devices o frames course past (Giving results ticks) tells = tells.turns
turns_at devices o frames course past here tells = tells.turns

module _ (devices : List State) (did : Did) (here : Phase) (past : List Entry) (m : Machine) (known : KnowAir devices did.steps here past m) (tally : KnowTally devices did.steps here past m)
    (tells : KnowTells devices did.steps here past m) where
  kept : EachAfter (MayAir devices (course_of did.steps)) [] past
  kept = let (frames, serves, brings, keeps) = known.0 in (keeps (course_of did.steps) (goes_none (course_of did.steps))).so

  brought : (course : Course) → course ≡ course_of did.steps → BringsInOrder course past
  brought course same =
      let (frames, serves, brings, keeps) = known.0 in subst (λ (c : Course). BringsInOrder c past) (sym same) (brings.turns (course_of did.steps) (goes_none (course_of did.steps)))

  drops_so : (course : Course) → course ≡ course_of did.steps → (all : List Entry) → EachAfter (MayWait devices (course_of did.steps)) [] all → EachAfter (MayWait devices course) [] all
  drops_so course same all waits = subst (λ (c : Course). EachAfter (MayWait devices c) [] all) (sym same) waits

  answers : (course : Course) → course ≡ course_of did.steps → EachAfter (MayAnswer devices course) [] past
  answers course same =
      let (frames, serves, are) = tells in
      subst (λ (c : Course). EachAfter (MayAnswer devices c) [] past) (sym same)
      (turns_at devices m.outside.outer frames (course_of did.steps) past here (are (course_of did.steps) (goes_none (course_of did.steps))))

  pub answers_cut : Cuts did past → KnowStays devices did here past m → AnswersByLink false devices past
  answers_cut cuts stays =
      let all : Cuts (began did) past = cuts_began did past cuts in
      record {
        airs = record {
          link = all.links.chip;
          airs = subst (λ (course : Course). EachAfter (MayAir devices course) [] past) (sym all.course) kept;
          brings = brought _ all.course;
          drops = drops_so _ all.course past (at_waits devices did.steps past m.outside.outer here tally.0 (course_of did.steps) (goes_none (course_of did.steps)));
          waits = all_there devices (began did) past all (stays_cut devices did here past m stays);
        };
        answers = answers _ all.course;
      }

-- where the run is over
module _ (devices : List State) (did : Did) (past : List Entry) (m : Machine) (known : KnowAir devices did.steps Between past m) (tally : KnowTally devices did.steps Between past m)
    (tells : KnowTells devices did.steps Between past m) where
  pub answers_whole : Cuts (began did) (past ++ Said [] ∷ []) → AreBegun devices (began did) (past ++ Said [] ∷ []) → AnswersByLink true devices past
  answers_whole cuts stays = record {
    airs = record {
      link = cuts.links.chip;
      airs =
          let (frames, serves, brings, keeps) = known.0 in
          subst (λ (course : Course). EachAfter (MayAir devices course) [] (past ++ Said [] ∷ [])) (sym cuts.course)
          (each-append (MayAir devices (course_of did.steps)) [] past (Said [] ∷ []) (kept devices did Between past m known tally tells) ((keeps (course_of did.steps) (goes_none (course_of did.steps))).over, tt));
      brings = brought devices did Between past m known tally tells _ cuts.course;
      drops = drops_so devices did Between past m known tally tells _ cuts.course (past ++ Said [] ∷ [])
          (ended_waits devices did.steps past m.outside.outer tally.0 (course_of did.steps) (goes_none (course_of did.steps)));
      waits = all_there devices (began did) (past ++ Said [] ∷ []) cuts stays;
    };
    answers = answers devices did Between past m known tally tells _ cuts.course;
  }
