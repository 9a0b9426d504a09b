-- What the host does of itself or is asked for makes steps of the courses of a lock: one event, and events one after another.
use Rattle.std.proofs.Common.{ℕ, ◌<◌, true, List, [], ◌∷◌, refl, sym, subst}
use Rattle.std.specs.List.{AllByRecursion}
use Rattle.proof_course.specs.NodeNonces.{Waits}
use Rattle.serial_frame.specs.Items.{IsUnit}
use Rattle.serial_frame.specs.Stream.{Rest}
use Rattle.serial_frame.specs.declared.item.Item.{Item}
use Rattle.outside_model.specs.State.{Outside}
use Rattle.outside_model.specs.Did.{happens_all as happens_all_outside}
use Rattle.world_model.specs.State.{routed}
use Rattle.host_model.specs.State.{HostState}
use Rattle.host_model.specs.After.{after as after_host}
use Rattle.host_model.specs.Outs.{outs}
use Rattle.host_model.specs.Did.{after_all, outs_all}
use Rattle.host_model.specs.May.{May}
use Rattle.host_model.specs.Events.{HostEvent, Starts, Begins}
use Rattle.proof_course_plain.specs.proof_serial.Line.{host_units}
use Rattle.proof_course_plain.specs.Told.{HasPast}
use Rattle.proof_course_plain.specs.HostGoing.{IsNoBegin, AllWell}
use Rattle.proof_course_plain.proofs.ThinnedWays.{goes_nowhere as sessions_nowhere}
use Rattle.proof_course_plain.proofs.HostActs.{routed_air}
use Rattle.proof_course_plain.proofs.HostEntries.{event_begins_none}
use Rattle.proof_course_plain.proofs.HostItems.{routed_then}
use Rattle.proof_course_plain.proofs.Told.{PastLaws, past_kept, outcomes_kept, outcomes_stay}
use Rattle.proof_course_sealed.specs.Courses.{Courses, CoursesGo, CoursesFacts}
use Rattle.proof_course_sealed.specs.Meaning.{Past}
use Rattle.proof_course_sealed.specs.Host.{AsksFitly}
use Rattle.proof_course_sealed.specs.HostGoing.{HostFollows, HostGoes, IsUnheard}
use Rattle.proof_course_sealed.proofs.ThinnedWays.{node_step, host_nowhere}
use Rattle.proof_course_sealed.proofs.CourseSteps.{goes_nowhere, goes_on, grows_none, grows_then}
use Rattle.proof_course_sealed.proofs.Elsewhere.{lock_itself, air_itself, mesh_stays}
use Rattle.proof_course_sealed.proofs.HostActs.{writes_go}
use Rattle.proof_course_sealed.proofs.HostEvents.{Writing, IsReady, event_wrote}
use Rattle.proof_course_sealed.proofs.HostBegins.{Beginning, begin_goes}

-- the laws that are used
pub record Laws : Type 0 where
  pub air : Beginning
  pub writing : Writing
  pub past : PastLaws

-- one after another
pub goes_then : (past : Past) (node : ℕ) (c : Courses) (rest : Rest) (yet later_yet down : List Item) (h g : HostState) (w v : Outside) (one : HostGoes past node c rest yet down h w) → HostGoes one.later_past node one.later rest later_yet down g v
    → HostGoes past node c rest later_yet down g v
goes_then past node c rest yet later_yet down h g w v one two = record {
  later_past = two.later_past;
  later = two.later;
  grows = grows_then past one.later_past two.later_past one.grows two.grows;
  goes = goes_on c one.later two.later one.goes two.goes;
  up = two.up;
  follows = two.follows;
}

-- a text may wait at the host
abbrev waiting : Courses → Courses
waiting c = record c { node = record c.node { waits = true } }

module _ (laws : Laws) (node : ℕ) (rest : Rest) (yet down : List Item) (h : HostState) (w : Outside) (event : HostEvent) (within : node < 233) (facts : HasPast h) (may : May h event) (asks : AsksFitly node event) (unheard : IsUnheard node event)
    (units : AllByRecursion IsUnit (host_units (outs h event))) where
  abbrev Goes : Past → Courses → Type 0
  Goes past c = HostGoes past node c rest yet down (after_host h event) (happens_all_outside w (routed (outs h event)))

  -- no session begins
  ready_goes : (past : Past) (c : Courses) (up : List Item) → HostFollows past node c rest up yet down h w → IsNoBegin event → IsReady c event → Goes past c
  ready_goes past c up f begins ready =
      let wrote = event_wrote laws.writing past node c f.carried f.text f.tasks h facts.facts.host within f.host f.go_up event may asks unheard begins ready in
      writes_go laws.air.stays laws.writing.thins past node c c rest up yet down h (after_host h event) w (outs h event) f (goes_nowhere c) f.go_down wrote
      (mesh_stays laws.air.stays past wrote.later_past node c c w (happens_all_outside w (routed (outs h event))) f.mesh wrote.grows wrote.given (lock_itself c) (air_itself c) (routed_air w (outs h event) (event_begins_none h event begins)))
      (outcomes_stay h.commands (after_host h event).commands c.sessions.host.commands c.sessions.told (outcomes_kept laws.past h event facts may) f.outcomes) units

  -- the courses may have it that a text waits
  may_wait : (past : Past) (c : Courses) (up : List Item) → HostFollows past node c rest up yet down h w → HostFollows past node (waiting c) rest up yet down h w
  may_wait past c up f = record {
    text = f.text;
    tasks = f.tasks;
    mesh = mesh_stays laws.air.stays past past node c (waiting c) w w f.mesh (grows_none past) refl (record { device = refl; kept = refl; ends = refl; given = refl; is_live = refl; seen = refl; waits = refl })
        (record { sessions = (refl, refl); node = (refl, refl); host = (refl, refl); begun = refl; given = refl; shown = refl }) (record { air = refl; devices = refl });
    to_chip = f.to_chip;
    to_host = f.to_host;
    frames = f.frames;
    waits = f.waits;
    carried = f.carried;
    go_up = record { messages = f.go_up.messages; sealed = f.go_up.sealed; offers = f.go_up.offers };
    messages = f.messages;
    late = f.late;
    go_down = record { reports = f.go_down.reports; nonces = f.go_down.nonces; answers = f.go_down.answers };
    reports = f.reports;
    host = record {
      keys = f.host.keys;
      book = f.host.book;
      commands = f.host.commands;
      orders = f.host.orders;
      ends = f.host.ends;
      gave = f.host.gave;
      saw = record { count = f.host.saw.count; waiting = λ some. refl };
      pending = f.host.pending;
      texts = f.host.texts;
      marks = f.host.marks;
      queue = f.host.queue;
      numbers = f.host.numbers;
    };
    outcomes = f.outcomes;
  }

  waits_then : (past : Past) (c : Courses) → Goes past (waiting c) → Goes past c
  waits_then past c goes = record {
    later_past = goes.later_past;
    later = goes.later;
    grows = goes.grows;
    goes = goes_on c (waiting c) goes.later (record { sessions = sessions_nowhere c.sessions; node = node_step c.node Waits tt; host = host_nowhere c.host }) goes.goes;
    up = goes.up;
    follows = goes.follows;
  }

-- what the host does of itself, or is asked for
pub aside_goes : Laws → (past : Past) (node : ℕ) (c : Courses) (rest : Rest) (up yet down : List Item) (h : HostState) (w : Outside) (event : HostEvent) → node < 233 → HostFollows past node c rest up yet down h w → HasPast h → CoursesFacts c
    → May h event → AsksFitly node event → IsUnheard node event → AllByRecursion IsUnit (host_units (outs h event)) → HostGoes past node c rest yet down (after_host h event) (happens_all_outside w (routed (outs h event)))
aside_goes laws past node c rest up yet down h w (Begins n session command) within f facts course may asks unheard units =
    begin_goes laws.air laws.writing past node c rest up yet down h w facts.facts.host f n session command may course.sessions (outcomes_kept laws.past h (Begins n session command) facts may)
aside_goes laws past node c rest up yet down h w (Starts n plan more payload) within f facts course may asks unheard units =
    waits_then laws node rest yet down h w (Starts n plan more payload) within facts may asks unheard units past c
    (ready_goes laws node rest yet down h w (Starts n plan more payload) within facts may asks unheard units past (waiting c) up (may_wait laws node rest yet down h w (Starts n plan more payload) within facts may asks unheard units past c up f) tt refl)
aside_goes laws past node c rest up yet down h w event within f facts course may asks unheard units = ready_goes laws node rest yet down h w event within facts may asks unheard units past c up f tt tt

-- ---- events one after another

-- such events
abbrev pub AreAside : ℕ → List HostEvent → Type 0
AreAside node events = AllByRecursion (λ (event : HostEvent). AsksFitly node event × IsUnheard node event) events

-- one event makes steps of the courses
abbrev pub OneGoes : Type 0
OneGoes = (past : Past) (node : ℕ) (c : Courses) (rest : Rest) (up yet down : List Item) (h : HostState) (w : Outside) (event : HostEvent) → node < 233 → HostFollows past node c rest up yet down h w → HasPast h → CoursesFacts c → May h event
    → AsksFitly node event → IsUnheard node event → AllByRecursion IsUnit (host_units (outs h event)) → HostGoes past node c rest yet down (after_host h event) (happens_all_outside w (routed (outs h event)))

-- so do events one after another
pub asides_go : OneGoes → PastLaws → ((c later : Courses) → CoursesFacts c → CoursesGo c later → CoursesFacts later) → (past : Past) (node : ℕ) (c : Courses) (rest : Rest) (up yet down : List Item) (h : HostState) (w : Outside) (events : List HostEvent)
    → node < 233 → HostFollows past node c rest up yet down h w → HasPast h → CoursesFacts c → AllWell h events → AreAside node events → HostGoes past node c rest yet down (after_all h events) (happens_all_outside w (routed (outs_all h events)))
asides_go one_goes laws keeps past node c rest up yet down h w [] within f facts course well aside = record { later_past = past; later = c; grows = grows_none past; goes = goes_nowhere c; up = up; follows = f }
asides_go one_goes laws keeps past node c rest up yet down h w (event ∷ events) within f facts course well aside =
    let k : HostState = after_host h event in
    let v : Outside = happens_all_outside w (routed (outs h event)) in
    let one : HostGoes past node c rest yet down k v = one_goes past node c rest up yet down h w event within f facts course well.may.0 aside.0.0 aside.0.1 well.units.0 in
    subst (λ (u : Outside). HostGoes past node c rest yet down (after_all k events) u) (sym (routed_then w (outs h event) (outs_all k events)))
    (goes_then past node c rest yet yet down k (after_all k events) v (happens_all_outside v (routed (outs_all k events))) one
    (asides_go one_goes laws keeps one.later_past node one.later rest one.up yet down k v events within one.follows (past_kept laws h event facts well.may.0) (keeps c one.later course one.goes)
    (record { may = well.may.1; units = well.units.1 }) aside.1))
