-- The host judges items, one after another, in the course of one node; and what it does of itself.
use Rattle.std.proofs.Common.{◌≡◌, ℕ, ◌+◌, ◌<◌, ◌⊎◌, inl, inr, Bool, Option, Some, List, [], ◌∷◌, ◌++◌, length, refl, ap, sym, ◌∙◌, subst, append-nil, arith}
use Rattle.std.specs.List.{AllByRecursion}
use Rattle.std.specs.Option.{option_to_list}
use Rattle.supervision.specs.Session.{wire_id}
use Rattle.supervision.specs.Host.{HostBook, open_session, told_of, command_at as command_of_session}
use Rattle.supervision.specs.Ends.{Report}
use Rattle.supervision.specs.declared.host_node.Told.TheVariants.{Final}
use Rattle.proof_course.specs.Sessions.{Course, Step, Judges, judges, after_all as after_all_steps, MayAll as MayAllSteps}
use Rattle.proof_course.specs.SessionFacts.{CourseFacts}
use Rattle.serial_frame.specs.Items.{IsUnit}
use Rattle.serial_frame.specs.Stream.{Rest}
use Rattle.serial_frame.specs.declared.unit.Unit.{Unit as LineUnit}
use Rattle.serial_frame.specs.declared.item.Item.{Item}
use Rattle.serial_link.specs.State.{Side}
use Rattle.serial_pipes.specs.State.{WayState}
use Rattle.chip_sim.specs.State.{ChipParts}
use Rattle.chip_sim.specs.Rules.{WaitsWell}
use Rattle.device_sim.specs.State.{State}
use Rattle.mesh_sim.specs.Air.{AirState}
use Rattle.outside_model.specs.State.{Outside}
use Rattle.outside_model.specs.Events.{mesh_of}
use Rattle.outside_model.specs.Did.{happens_all as happens_all_outside}
use Rattle.world_model.specs.State.{routed}
use Rattle.world_model.proofs.Hosting.{routed-append}
use Rattle.zw_text.specs.declared.entry.Entry.TheVariants.{Out}
use Rattle.host_keep.specs.declared.final_status.FinalStatus.{FinalStatus}
use Rattle.host_keep.specs.Status.{status_byte}
use Rattle.class_core.specs.Cell.{written as cells_written}
use Rattle.class_info.specs.Values.{wholes}
use Rattle.host_requests.specs.Frames.{nonce_report, no_more_information}
use Rattle.host_node.specs.State.{NodeState, unknown}
use Rattle.host_node.specs.Steps.{after_told, with_final}
use Rattle.host_node.specs.Events.{after as after_node}
use Rattle.host_node.specs.Events.NodeEvent.{Reports as node_reports}
use Rattle.host_model.specs.State.{HostState, Command as TheCommand, node_of, with_node, with_outcome, command_at}
use Rattle.host_model.specs.Facts.{IsCommandOf}
use Rattle.proof_once.specs.proof_host.Tables.{outcome_in}
use Rattle.host_model.specs.Sessions.{settings_with}
use Rattle.host_model.specs.declared.out.HostOut.{HostOut}
use Rattle.host_model.specs.After.{after as after_host, finishing, is_held, outcome_of}
use Rattle.host_model.specs.Did.{after_all, outs_all, MayAll}
use Rattle.host_model.specs.Outs.{outs, ended_of, stored_entries, held_entries}
use Rattle.host_model.specs.May.{May}
use Rattle.host_model.specs.Taking.{IsJudged, AreJudged}
use Rattle.host_model.specs.Events.{HostEvent, Hears, Finishes, Begins}
use Rattle.host_model.proofs.EventLists.{after_all-append, outs_all-append}
use Rattle.proof_world.specs.proof_serial.Way.{Carries}
use Rattle.proof_world.specs.proof_serial.Line.{host_units}
use Rattle.proof_world.specs.proof_serial.Chip.{HasFrames}
use Rattle.proof_world.proofs.Outer.{Written, routed_all}
use Rattle.proof_once.specs.proof_messages.Others.{IsOther}
use Rattle.proof_course_plain.specs.Ways.{Thinned, Goes}
use Rattle.proof_course_plain.specs.Meaning.{Asked}
use Rattle.proof_course_plain.specs.Air.{OnAir}
use Rattle.proof_course_plain.specs.Making.{AllMake}
use Rattle.proof_course_plain.specs.Mesh.{HasDevice}
use Rattle.proof_course_plain.specs.Lines.{Tells, Asks, OnWay}
use Rattle.proof_course_plain.specs.Host.{NodeAs, AsksPlainly}
use Rattle.proof_once.specs.Tied.{AreOutcomes}
use Rattle.proof_course_plain.specs.Told.{HasPast}
use Rattle.proof_course_plain.specs.HostGoing.{HostFollows, HostGoes, IsAside, IsNoBegin, IsAnswer, EndsNone, AllWell}
use Rattle.proof_course_plain.proofs.ThinnedWays.{goes_nowhere, goes_on, goes_once, down_thins}
use Rattle.proof_course_plain.proofs.WayLabels.{thinned_same, thinned_after, first_label}
use Rattle.proof_course_plain.proofs.Outer.{has_same, mesh_down}
use Rattle.proof_course_plain.proofs.KeptHosts.{SameHost, holding_same, outcome_orders}
use Rattle.proof_course_plain.proofs.KeptSessions.{plain_course}
use Rattle.proof_course_plain.proofs.HostActs.{AirLaws, SameAir, routed_air, writes_go, begin_goes, set_here}
use Rattle.proof_course_plain.proofs.HostEvents.{event_wrote, open_is, owned}
use Rattle.proof_traffic.proofs.HostLinks.{no_units as noted_none}
use Rattle.host_model.proofs.OpenSessions.{final_session}
use Rattle.proof_once.proofs.TieSteps.{told_more}
use Rattle.proof_once.proofs.Commands.{outcome_same}
use Rattle.proof_once.proofs.Effects.{held_commands}
use Rattle.proof_course_plain.proofs.Told.{PastLaws, past_kept, outcomes_kept, outcomes_stay}
use Rattle.proof_course_plain.proofs.HostEntries.{event_begins_none}
use Rattle.proof_course_plain.proofs.HostJudgements.{AllAside, IsFinish, Bytes, item_told}
use Rattle.class_info.proofs.OwnLaws.{written_wholes}
use Rattle.outside_model.proofs.EventLists.{happens_all-append as happens_then}

-- ---- lists of events

pub routed_then : (w : Outside) (a b : List HostOut) → happens_all_outside w (routed (a ++ b)) ≡ happens_all_outside (happens_all_outside w (routed a)) (routed b)
routed_then w a b = ap (happens_all_outside w) (routed-append a b) ∙ happens_then w (routed a) (routed b)

pub well_prefix : (h : HostState) (a b : List HostEvent) → AllWell h (a ++ b) → AllWell h a × AllWell (after_all h a) b
well_prefix h [] b is = (record { may = tt; units = tt }, is)
well_prefix h (event ∷ a) b is =
    let later = well_prefix (after_host h event) a b (record { may = is.may.1; units = is.units.1 }) in
    (record { may = (is.may.0, later.0.may, is.may.2); units = (is.units.0, later.0.units) }, later.1)

pub told_same : (a b : HostBook) (id status : ℕ) → a.commands ≡ b.commands → a.outcome ≡ b.outcome → told_of a id status ≡ told_of b id status
told_same a b id status commands outcomes =
    ap (λ (cs : List ℕ). told_of (record { commands = cs; outcome = a.outcome; attempts = 0 }) id status) commands ∙ ap (λ (o : Option ℕ). told_of (record { commands = b.commands; outcome = o; attempts = 0 }) id status) outcomes

pub judged_final : (c : Course) (report : Report) (now : List Report) (session : ℕ) → told_of c.host (wire_id report.session) report.status ≡ Final session
    → judges c (report ∷ now) ≡ record c { host = record c.host { outcome = Some report.status }; down = now; told = c.told ++ report.status ∷ [] }
judged_final c report now session e = rw e refl

pub final_node : (n : NodeState) (id status session : ℕ) → told_of n.book id status ≡ Final session → after_node n (node_reports id status) ≡ with_final n status
final_node n id status session e = ap (after_told n status) e

pub nonces_other : ((nonce : List ℕ) → IsOther (152 ∷ 128 ∷ cells_written (wholes nonce))) → (nonce : List ℕ) → IsOther (nonce_report nonce)
nonces_other law nonce = subst (λ (l : List ℕ). IsOther (152 ∷ 128 ∷ l)) (written_wholes nonce) (law nonce)

answer_asks : (node : ℕ) (event : HostEvent) → IsAnswer node event → AsksPlainly node event
answer_asks node (Begins n session command) is = absurd is
answer_asks node event is = is

answer_no_begin : (node : ℕ) (event : HostEvent) → IsAnswer node event → IsNoBegin event
answer_no_begin node (Begins n session command) is = absurd is
answer_no_begin node event is = tt

-- the laws that are used
pub record Laws : Type 0 where
  pub air : AirLaws
  pub nonces : (nonce : List ℕ) → IsOther (nonce_report nonce)
  pub no_more : IsOther no_more_information
  pub past : PastLaws
  pub course : (c : Course) (steps : List Step) → CourseFacts c → MayAllSteps c steps → CourseFacts (after_all_steps c steps)
  pub bytes : Bytes 0

module _ (laws : Laws) (node : ℕ) (rest : Rest) (down : List Item) where
  goes_then : (c : Course) (yet later_yet : List Item) (h g : HostState) (w v : Outside) (one : HostGoes node c rest yet down h w) → HostGoes node one.later rest later_yet down g v → HostGoes node c rest later_yet down g v
  goes_then c yet later_yet h g w v one two = record { orders = two.orders; later = two.later; goes = goes_on c one.later two.later one.goes two.goes; up = two.up; follows = two.follows }

  pub course_goes : (c later : Course) → CourseFacts c → Goes c later → CourseFacts later
  course_goes c later course goes = subst (λ (x : Course). CourseFacts x) (sym goes.is) (laws.course c goes.steps course goes.may)

  -- ---- one event

  pub aside_goes : (orders : List Asked) (c : Course) (up yet : List Item) (h : HostState) (w : Outside) (event : HostEvent) → HostFollows node orders c rest up yet down h w → HasPast h → May h event → AsksPlainly node event
      → IsAside node event → IsNoBegin event → AllByRecursion IsUnit (host_units (outs h event)) → HostGoes node c rest yet down (after_host h event) (happens_all_outside w (routed (outs h event)))
  aside_goes orders c up yet h w event f facts may asks aside none units =
      writes_go node orders c rest up yet down h (after_host h event) w (outs h event) f (outcomes_kept laws.past h event facts may) (event_wrote laws.nonces laws.no_more node orders c h facts.facts.host f.host event may asks aside) (event_begins_none h event none) units

  asides_go : (orders : List Asked) (c : Course) (up yet : List Item) (h : HostState) (w : Outside) (events : List HostEvent) → HostFollows node orders c rest up yet down h w → HasPast h → AllWell h events → AllAside node events
      → HostGoes node c rest yet down (after_all h events) (happens_all_outside w (routed (outs_all h events)))
  asides_go orders c up yet h w [] f facts well aside = record { orders = orders; later = c; goes = goes_nowhere c; up = up; follows = f }
  asides_go orders c up yet h w (event ∷ events) f facts well aside =
      let v : Outside = happens_all_outside w (routed (outs h event)) in
      let one : HostGoes node c rest yet down (after_host h event) v = aside_goes orders c up yet h w event f facts well.may.0 (answer_asks node event aside.0.1) aside.0.0 (answer_no_begin node event aside.0.1) well.units.0 in
      subst (λ (u : Outside). HostGoes node c rest yet down (after_all (after_host h event) events) u) (sym (routed_then w (outs h event) (outs_all (after_host h event) events)))
      (goes_then c yet yet (after_host h event) (after_all (after_host h event) events) v _ one
      (asides_go one.orders one.later one.up yet (after_host h event) v events one.follows (past_kept laws.past h event facts well.may.0) (record { may = well.may.1; units = well.units.1 }) aside.1))

  -- ---- a report ends the last session

  module _ (orders : List Asked) (c : Course) (up yet : List Item) (h : HostState) (w : Outside) (item : Item) (f : HostFollows node orders c rest up (item ∷ yet) down h w) (facts : HasPast h) (course : CourseFacts c) (within : node < 233)
      (report : Report) (now : List Report) (are : c.down ≡ report ∷ now) (on : OnWay (Tells node) now (yet ++ down) w.outer.chip.state.port.side.turn w.outer.chip.state.port.waiting)
      (session command : ℕ) (status : FinalStatus) (wake_request : Bool) (status_is : report.status ≡ status_byte status) (may : May h (Finishes node session (wire_id report.session) command status wake_request)) where
    abbrev event : HostEvent
    event = Finishes node session (wire_id report.session) command status wake_request

    abbrev g : HostState
    g = after_host h event

    abbrev w' : Outside
    w' = happens_all_outside w (routed (outs h event))

    abbrev told : Course
    told = record c { host = record c.host { outcome = Some report.status }; down = now; told = c.told ++ report.status ∷ [] }

    old : NodeAs c.host.commands c.host.outcome (node_of h node)
    old = f.host.node_as

    told_is : told_of c.host (wire_id report.session) report.status ≡ Final session
    told_is =
        sym (told_same (node_of h node).book c.host (wire_id report.session) report.status old.0 old.1.0)
        ∙ (ap (λ (s : ℕ). told_of (node_of h node).book (wire_id report.session) s) status_is ∙ may.told)

    goes : Goes c told
    goes = subst (λ (x : Course). Goes c x) (ap (judges c) are ∙ judged_final c report now session told_is) (goes_once c Judges tt)

    abbrev done : HostState
    done = with_node h node (after_node (node_of h node) (node_reports (wire_id report.session) (status_byte status)))

    node_is : node_of done node ≡ with_final (node_of h node) (status_byte status)
    node_is =
        set_here h.nodes node (after_node (node_of h node) (node_reports (wire_id report.session) (status_byte status))) (unknown 0) (let places = facts.facts.host.nodes.places in omega (arith, places, within))
        ∙ final_node (node_of h node) (wire_id report.session) (status_byte status) session may.told

    kept : NodeAs c.host.commands (Some report.status) (node_of done node)
    kept = subst (λ (s : NodeState). NodeAs c.host.commands (Some report.status) s) (sym node_is) (old.0, (ap (λ (s : ℕ). Some s) (sym status_is), (refl, refl)))

    held : SameHost (plain_course node) (finishing h node (wire_id report.session) command status) g
    held = holding_same (plain_course node) (finishing h node (wire_id report.session) command status) node (is_held h node wake_request)

    units_none : host_units (outs h event) ≡ []
    units_none = noted_none (Out command (ended_of status) ∷ (stored_entries node (settings_with status (command_at h.commands command)) ++ held_entries node (is_held h node wake_request)))

    same : SameAir w w'
    same = routed_air w (outs h event) (event_begins_none h event tt)

    written : Written [] w.outer w'.outer
    written = subst (λ (us : List LineUnit). Written us w.outer w'.outer) units_none (routed_all w (outs h event))

    -- its command has the outcome of that status
    ended_commands : g.commands ≡ with_outcome h.commands command (outcome_of status)
    ended_commands = held_commands (finishing h node (wire_id report.session) command status) node (is_held h node wake_request)

    next_session : session ≡ length c.told + 1
    next_session =
        let opened : open_session c.host ≡ Some session = final_session c.host (wire_id report.session) report.status session told_is in
        let count = course.told_are.opened session opened in
        let last = (open_is c.host session opened).0 in omega (arith, count, last)

    next_command : command_of_session c.host.commands (length c.told + 1) ≡ Some command
    next_command = subst (λ (k : ℕ). command_of_session c.host.commands k ≡ Some command) next_session (subst (λ (cs : List ℕ). command_of_session cs session ≡ Some command) old.0 may.carried)

    ended_outcome : outcome_in g.commands command ≡ outcome_of status
    ended_outcome =
        let own : IsCommandOf h.commands node command = owned h.commands node (node_of h node).book.commands session command (facts.facts.host.owns node).sessions may.carried in
        subst (λ (cs : List TheCommand). outcome_in cs command ≡ outcome_of status) (sym ended_commands) (outcome_same h.commands command (outcome_of status) own.command own.found)

    told_outcomes : AreOutcomes g.commands c.host.commands (c.told ++ report.status ∷ [])
    told_outcomes =
        subst (λ (s : ℕ). AreOutcomes g.commands c.host.commands (c.told ++ s ∷ [])) (sym status_is)
        (told_more g.commands c.host.commands c.told command status (outcomes_stay h.commands g.commands c.host.commands c.told (outcomes_kept laws.past h event facts may) f.outcomes) next_command ended_outcome)

    finish_goes : HostGoes node c rest yet down g w'
    finish_goes = record {
      orders = orders;
      later = told;
      goes = goes;
      up = up;
      follows = record {
        mesh = record {
          log = f.mesh.log;
          flights = f.mesh.flights;
          on_air = subst (λ (a : AirState). OnAir node orders told.host c.air c.old f.mesh.log f.mesh.flights a.frames) (sym same.air)
              (record { fly = f.mesh.on_air.fly; flying = f.mesh.on_air.flying; flown = f.mesh.on_air.flown; begun = f.mesh.on_air.begun });
          device = subst (λ (ds : List State). HasDevice node told ds) (sym same.devices) (has_same node c told w.devices (record { device = refl; kept = refl; ends = refl }) f.mesh.device);
          made = subst (λ (ds : List State). AllMake node orders c.host.commands ds) (sym same.devices) f.mesh.made;
        };
        to_chip = subst (λ (y : WayState). Carries w'.outer.chip.decoder y up) (sym written.to_chip) (subst (λ (r : Rest). Carries r w.outer.to_chip up) (sym (ap (λ (x : ChipParts). x.decoder) written.chip)) f.to_chip);
        to_host = subst (λ (y : WayState). Carries rest y down) (sym written.to_host) f.to_host;
        frames = subst (λ (x : ChipParts). HasFrames x.state.port) (sym written.chip) f.frames;
        waits = subst (λ (x : ChipParts). WaitsWell x.state.port) (sym written.chip) f.waits;
        messages = subst (λ (s : Side). OnWay (Asks node orders c.host.commands) c.up up s.turn []) (sym held.side) f.messages;
        reports = subst (λ (x : ChipParts). OnWay (Tells node) now (yet ++ down) x.state.port.side.turn x.state.port.waiting) (sym written.chip) on;
        host = record {
          node_as = held.node_as c.host.commands (Some report.status) kept;
          orders_are = f.host.orders_are ∙ sym (held.orders ∙ outcome_orders h.commands command (outcome_of status));
          plain = f.host.plain;
          queue = held.queue orders c.host.commands f.host.queue;
        };
        outcomes = told_outcomes;
      };
    }

  -- ---- an item

  without_label : (orders : List Asked) (c : Course) (up yet : List Item) (h : HostState) (w : Outside) (item : Item) (mark : Option Report) (now : List Report) → HostFollows node orders c rest up (item ∷ yet) down h w → c.down ≡ option_to_list mark ++ now
      → OnWay (Tells node) now (yet ++ down) w.outer.chip.state.port.side.turn w.outer.chip.state.port.waiting → HostGoes node c rest yet down h w
  without_label orders c up yet h w item mark now f are on = record {
    orders = orders;
    later = record c { down = now };
    goes = down_thins c now (subst (λ (ds : List Report). Thinned ds now) (sym are) (thinned_after (option_to_list mark) now now (thinned_same now)));
    up = up;
    follows = record {
      mesh = mesh_down node orders c (mesh_of w) now f.mesh;
      to_chip = f.to_chip;
      to_host = f.to_host;
      frames = f.frames;
      waits = f.waits;
      messages = f.messages;
      reports = on;
      host = f.host;
      outcomes = f.outcomes;
    };
  }

  pub judge_item : (orders : List Asked) (c : Course) (up yet : List Item) (h : HostState) (w : Outside) (item : Item) (events : List HostEvent) → node < 233 → HostFollows node orders c rest up (item ∷ yet) down h w → HasPast h → CourseFacts c → AllWell h events
      → IsJudged h item events → HostGoes node c rest yet down (after_all h events) (happens_all_outside w (routed (outs_all h events)))
  judge_item orders c up yet h w item events within f facts course well (later, are, followed) =
      subst (λ (es : List HostEvent). HostGoes node c rest yet down (after_all h es) (happens_all_outside w (routed (outs_all h es)))) (sym are)
      (by (subst (λ (es : List HostEvent). AllWell h es) are well))
    where
      by : AllWell h (Hears item ∷ later) → HostGoes node c rest yet down (after_all (after_host h (Hears item)) later) (happens_all_outside w (routed (outs h (Hears item) ++ outs_all (after_host h (Hears item)) later)))
      by these =
          let k : HostState = after_host h (Hears item) in
          let v : Outside = happens_all_outside w (routed (outs h (Hears item))) in
          let one : HostGoes node c rest (item ∷ yet) down k v = aside_goes orders c up (item ∷ yet) h w (Hears item) f facts these.may.0 tt tt tt these.units.0 in
          let label = first_label (Tells node) one.later.down item (yet ++ down) v.outer.chip.state.port.side.turn v.outer.chip.state.port.waiting one.follows.reports in
          let more : AllWell k later = record { may = these.may.1; units = these.units.1 } in
          let facts' : HasPast k = past_kept laws.past h (Hears item) facts these.may.0 in
          subst (λ (u : Outside). HostGoes node c rest yet down (after_all k later) u) (sym (routed_then w (outs h (Hears item)) (outs_all k later)))
          (goes_then c (item ∷ yet) yet k (after_all k later) v (happens_all_outside v (routed (outs_all k later))) one
          (told_by one.orders one.later one.up k v label.0 label.1.1.0 one.follows label.1.1.1.0 label.1.1.1.1 facts' (course_goes c one.later course one.goes) more (item_told node laws.bytes k h.side.turn item label.0 later label.1.0 followed)))
        where
          ended : (orders : List Asked) (c : Course) (up : List Item) (k : HostState) (v : Outside) (mark : Option Report) (now : List Report) → HostFollows node orders c rest up (item ∷ yet) down k v → c.down ≡ option_to_list mark ++ now
              → OnWay (Tells node) now (yet ++ down) v.outer.chip.state.port.side.turn v.outer.chip.state.port.waiting → HasPast k → CourseFacts c → AllWell k later → (is : IsFinish node mark later) → (events : List HostEvent) → events ≡ later
              → HostGoes node c rest yet down (after_all k later) (happens_all_outside v (routed (outs_all k later)))
          ended orders c up k v mark now f are on facts course well is events named =
              let finish : HostEvent = Finishes node is.session (wire_id is.report.session) is.command is.status is.wake_request in
              let w2 : AllWell k (finish ∷ []) = subst (λ (es : List HostEvent). AllWell k es) is.are well in
              let g = finish_goes orders c up yet k v item f facts course within is.report now (are ∙ ap (λ (m : Option Report). option_to_list m ++ now) is.labelled) on is.session is.command is.status is.wake_request is.status_is w2.may.0 in
              subst (λ (es : List HostEvent). HostGoes node c rest yet down (after_all k es) (happens_all_outside v (routed (outs_all k es)))) (sym is.are)
              (subst (λ (os : List HostOut). HostGoes node c rest yet down (after_host k finish) (happens_all_outside v (routed os))) (sym (append-nil (outs k finish))) g)

          told_by : (orders : List Asked) (c : Course) (up : List Item) (k : HostState) (v : Outside) (mark : Option Report) (now : List Report) → HostFollows node orders c rest up (item ∷ yet) down k v → c.down ≡ option_to_list mark ++ now
              → OnWay (Tells node) now (yet ++ down) v.outer.chip.state.port.side.turn v.outer.chip.state.port.waiting → HasPast k → CourseFacts c → AllWell k later → AllAside node later ⊎ IsFinish node mark later
              → HostGoes node c rest yet down (after_all k later) (happens_all_outside v (routed (outs_all k later)))
          told_by orders c up k v mark now f are on facts course well (inl aside) =
              let dropped : HostGoes node c rest yet down k v = without_label orders c up yet k v item mark now f are on in
              goes_then c yet yet k (after_all k later) v (happens_all_outside v (routed (outs_all k later))) dropped (asides_go dropped.orders dropped.later dropped.up yet k v later dropped.follows facts well aside)
          told_by orders c up k v mark now f are on facts course well (inr finish) = ended orders c up k v mark now f are on facts course well finish later refl

  pub facts_then : (h : HostState) (events : List HostEvent) → HasPast h → MayAll h events → HasPast (after_all h events)
  facts_then h [] facts may = facts
  facts_then h (event ∷ events) facts may = facts_then (after_host h event) events (past_kept laws.past h event facts may.0) may.1

  -- items one after another
  pub judge_items : (orders : List Asked) (c : Course) (up : List Item) (h : HostState) (w : Outside) (items : List Item) (events : List HostEvent) → node < 233 → HostFollows node orders c rest up items down h w → HasPast h → CourseFacts c → AllWell h events
      → AreJudged h items events → HostGoes node c rest [] down (after_all h events) (happens_all_outside w (routed (outs_all h events)))
  judge_items orders c up h w [] events within f facts course well none =
      subst (λ (es : List HostEvent). HostGoes node c rest [] down (after_all h es) (happens_all_outside w (routed (outs_all h es)))) (sym none) (record { orders = orders; later = c; goes = goes_nowhere c; up = up; follows = f })
  judge_items orders c up h w (item ∷ items) events within f facts course well (first, later, are, one, more) =
      let both = well_prefix h first later (subst (λ (es : List HostEvent). AllWell h es) are well) in
      let v : Outside = happens_all_outside w (routed (outs_all h first)) in
      let g : HostGoes node c rest items down (after_all h first) v = judge_item orders c up items h w item first within f facts course both.0 one in
      let rest_goes : HostGoes node g.later rest [] down (after_all (after_all h first) later) (happens_all_outside v (routed (outs_all (after_all h first) later))) =
      judge_items g.orders g.later g.up (after_all h first) v items later within g.follows (facts_then h first facts both.0.may) (course_goes c g.later course g.goes) both.1 more in
      let all : HostGoes node c rest [] down (after_all (after_all h first) later) (happens_all_outside v (routed (outs_all (after_all h first) later))) = goes_then c items [] (after_all h first) (after_all (after_all h first) later) v _ g rest_goes in
      subst (λ (es : List HostEvent). HostGoes node c rest [] down (after_all h es) (happens_all_outside w (routed (outs_all h es)))) (sym are)
      (subst (λ (k : HostState). HostGoes node c rest [] down k (happens_all_outside w (routed (outs_all h (first ++ later))))) (sym (after_all-append h first later))
      (subst (λ (os : List HostOut). HostGoes node c rest [] down (after_all (after_all h first) later) (happens_all_outside w (routed os))) (sym (outs_all-append h first later))
      (subst (λ (u : Outside). HostGoes node c rest [] down (after_all (after_all h first) later) u) (sym (routed_then w (outs_all h first) (outs_all (after_all h first) later))) all)))

  -- what the host does of itself, or is asked for: it judges no report of the node
  pub own_goes : (orders : List Asked) (c : Course) (up : List Item) (h : HostState) (w : Outside) (event : HostEvent) → HostFollows node orders c rest up [] down h w → HasPast h → CourseFacts c → May h event → AsksPlainly node event
      → EndsNone node event → AllByRecursion IsUnit (host_units (outs h event)) → HostGoes node c rest [] down (after_host h event) (happens_all_outside w (routed (outs h event)))
  own_goes orders c up h w (Begins n session command) f facts course may asks none units =
      begin_goes laws.air node orders c rest up [] down h w facts.facts.host f n session command may course (outcomes_kept laws.past h (Begins n session command) facts may)
  own_goes orders c up h w (Finishes n session id command status wake_request) f facts course may asks none units =
      aside_goes orders c up [] h w (Finishes n session id command status wake_request) f facts may asks none tt units
  own_goes orders c up h w event f facts course may asks none units = aside_goes orders c up [] h w event f facts may asks tt tt units
