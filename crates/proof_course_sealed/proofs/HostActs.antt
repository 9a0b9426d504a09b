-- What the host does of itself or is asked for, in the courses of a lock: what is outside it then, and what it wrote.
use Rattle.std.proofs.Common.{◌≡◌, ℕ, true, false, ◌⊎◌, inl, inr, Option, Some, None, List, [], ◌∷◌, ◌++◌, is_some, refl, ap, sym, ◌∙◌, subst, append-nil, arith}
use Rattle.std.specs.List.{AllByRecursion}
use Rattle.std.specs.Option.{option_to_list}
use Rattle.supervision.specs.Host.{begun_of}
use Rattle.serial_frame.specs.Frame.{FrameParts}
use Rattle.serial_frame.specs.Items.{IsUnit}
use Rattle.serial_frame.specs.Stream.{Rest}
use Rattle.serial_frame.specs.declared.unit.Unit.{Unit as LineUnit}
use Rattle.serial_frame.specs.declared.unit.Unit.TheVariants.{Framed}
use Rattle.serial_frame.specs.declared.item.Item.{Item}
use Rattle.serial_link.specs.State.{Side}
use Rattle.serial_link.specs.declared.turn.Turn.{Turn}
use Rattle.serial_link.specs.declared.turn.Turn.TheVariants.{Copied}
use Rattle.serial_pipes.specs.State.{WayState}
use Rattle.s0_session.specs.declared.account.Account.{Account}
use Rattle.chip_sim.specs.State.{ChipParts}
use Rattle.chip_sim.specs.Rules.{WaitsWell}
use Rattle.outside_model.specs.State.{Outside}
use Rattle.outside_model.specs.Events.{mesh_of}
use Rattle.outside_model.specs.Did.{happens_all as happens_all_outside}
use Rattle.world_model.specs.State.{routed}
use Rattle.host_model.specs.State.{HostState, node_of}
use Rattle.host_model.specs.declared.out.HostOut.{HostOut}
use Rattle.host_model.specs.After.{is_busy}
use Rattle.proof_course_plain.specs.proof_serial.Way.{Carries, items_all, written_all}
use Rattle.proof_course_plain.specs.proof_serial.Line.{host_units}
use Rattle.proof_course_plain.specs.proof_serial.Chip.{HasFrames}
use Rattle.proof_course_plain.proofs.Ways.{carries_all}
use Rattle.proof_course_plain.proofs.proof_serial_Outer.{Written, routed_all}
use Rattle.proof_course_plain.specs.Tied.{AreOutcomes}
use Rattle.proof_messages.specs.Numbers.{HasGiven}
use Rattle.proof_messages.specs.Hosts.{LeavesNonces}
use Rattle.proof_course_plain.specs.Ways.{Thinned}
use Rattle.proof_course_plain.specs.Mesh.{labels}
use Rattle.proof_course_plain.specs.Lines.{OnWay, Later, Moves}
use Rattle.proof_course_plain.proofs.WayLabels.{thinned_same, move_same, move_submit}
use Rattle.proof_course_plain.proofs.HostActs.{way_weaker, none_own}
use Rattle.proof_course_sealed.specs.Labels.{Sent, Sealed, Offer}
use Rattle.proof_course_sealed.specs.Courses.{Courses, CoursesGo, GoUp, GoDown, with_up}
use Rattle.proof_course_sealed.specs.Meaning.{Past, Grows}
use Rattle.proof_course_sealed.specs.Mesh.{InMesh}
use Rattle.proof_course_sealed.specs.Lines.{Tells, Asks}
use Rattle.proof_course_sealed.specs.Host.{TextIs, AtHost}
use Rattle.proof_course_sealed.specs.HostGoing.{HostFollows, HostGoes}
use Rattle.proof_course_sealed.proofs.CourseSteps.{goes_on, grows_none}
use Rattle.proof_course_sealed.proofs.Elsewhere.{asks_stays, tells_stays, AirStays, mesh_up}
use Rattle.proof_course_plain.proofs.KeptHosts.{SameHost}
use Rattle.proof_course_sealed.proofs.KeptBooks.{lock_course}

-- ---- what an event writes

-- the host wrote these units, which carry these labels; this text is left to be written, and these nonces
pub record Wrote (past : Past) (node : ℕ) (c : Courses) (carried : List Sent) (h g : HostState) (units : List LineUnit) : Type 0 where
  pub later_past : Past
  pub grows : Grows past later_past
  pub given : later_past.given ≡ past.given
  pub written : List Sent
  pub left : Option ℕ
  pub later : List ℕ
  pub goes : CoursesGo c (with_up c (carried ++ written) left later)
  pub at : AtHost later_past node c left later g
  pub moves : Moves (Asks later_past node) h.side.turn [] units g.side.turn [] written

-- what is on its way may be thinned
abbrev pub UpThins : Type 0
UpThins = (c : Courses) (carried now : List Sent) (text left : Option ℕ) (tasks later : List ℕ) → GoUp c carried text tasks → Thinned carried now → Thinned (option_to_list text) (option_to_list left) → Thinned tasks later → CoursesGo c (with_up c now left later)

at_up : (past : Past) (node : ℕ) (c : Courses) (carried : List Sent) (text left : Option ℕ) (tasks later : List ℕ) (h : HostState) → AtHost past node c left later h → AtHost past node (with_up c carried text tasks) left later h
at_up past node c carried text left tasks later h at = record {
  keys = at.keys;
  book = at.book;
  commands = at.commands;
  orders = at.orders;
  ends = at.ends;
  gave = at.gave;
  saw = at.saw;
  pending = at.pending;
  texts = at.texts;
  marks = at.marks;
  queue = at.queue;
  numbers = at.numbers;
}

-- where the courses stand `base` before it writes, this is where they go
pub writes_go : AirStays → UpThins → (past : Past) (node : ℕ) (c base : Courses) (rest : Rest) (up yet down : List Item) (h g : HostState) (w : Outside) (outs : List HostOut) (f : HostFollows past node c rest up yet down h w)
    → CoursesGo c base → GoDown base f.late → (wrote : Wrote past node base f.carried h g (host_units outs)) → InMesh wrote.later_past node base (mesh_of (happens_all_outside w (routed outs)))
    → AreOutcomes g.commands base.sessions.host.commands base.sessions.told → AllByRecursion IsUnit (host_units outs) → HostGoes past node c rest yet down g (happens_all_outside w (routed outs))
writes_go stays thins past node c base rest up yet down h g w outs f first go_down wrote mesh told units =
    let w' : Outside = happens_all_outside w (routed outs) in
    let written : Written (host_units outs) w.outer w'.outer = routed_all w outs in
    let later : Past = wrote.later_past in
    let old : OnWay (Asks later node) f.carried up h.side.turn [] = way_weaker (Asks past node) (Asks later node) (λ frame mark. asks_stays past later node frame mark wrote.grows) f.carried up h.side.turn [] f.messages in
    let l : Later (Asks later node) (f.carried ++ wrote.written) (up ++ items_all w.outer.to_chip (host_units outs)) g.side.turn [] = wrote.moves f.carried up w.outer.to_chip old in
    let grown : Courses = with_up base (f.carried ++ wrote.written) wrote.left wrote.later in
    let now : Courses = with_up base l.now wrote.left wrote.later in
    let thinned : CoursesGo grown now = thins grown (f.carried ++ wrote.written) l.now wrote.left wrote.left wrote.later wrote.later (record { messages = refl; sealed = refl; offers = refl }) l.thin (thinned_same (option_to_list wrote.left)) (thinned_same wrote.later) in
    record {
      later_past = later;
      later = now;
      grows = wrote.grows;
      goes = goes_on c base now first (goes_on base grown now wrote.goes thinned);
      up = up ++ items_all w.outer.to_chip (host_units outs);
      follows = record {
        text = wrote.left;
        tasks = wrote.later;
        mesh = mesh_up stays later node base (mesh_of w') l.now wrote.left wrote.later mesh;
        to_chip = subst (λ (y : WayState). Carries w'.outer.chip.decoder y (up ++ items_all w.outer.to_chip (host_units outs))) (sym written.to_chip)
            (subst (λ (r : Rest). Carries r (written_all w.outer.to_chip (host_units outs)) (up ++ items_all w.outer.to_chip (host_units outs))) (sym (ap (λ (x : ChipParts). x.decoder) written.chip))
            (carries_all w.outer.chip.decoder w.outer.to_chip (host_units outs) up f.to_chip units));
        to_host = subst (λ (y : WayState). Carries rest y down) (sym written.to_host) f.to_host;
        frames = subst (λ (x : ChipParts). HasFrames x.state.port) (sym written.chip) f.frames;
        waits = subst (λ (x : ChipParts). WaitsWell x.state.port) (sym written.chip) f.waits;
        carried = l.now;
        go_up = record { messages = refl; sealed = refl; offers = refl };
        messages = l.on_way;
        late = f.late;
        go_down = record { reports = go_down.reports; nonces = go_down.nonces; answers = go_down.answers };
        reports = subst (λ (x : ChipParts). OnWay (Tells later node) f.late (yet ++ down) x.state.port.side.turn x.state.port.waiting) (sym written.chip)
            (way_weaker (Tells past node) (Tells later node) (λ frame mark. tells_stays past later node frame mark wrote.grows) f.late (yet ++ down) w.outer.chip.state.port.side.turn w.outer.chip.state.port.waiting f.reports);
        host = at_up later node base l.now wrote.left wrote.left wrote.later wrote.later g wrote.at;
        outcomes = told;
      };
    }

-- ---- the same to the courses

-- the host is as the courses have it, with this left of what was to be written
pub record Leaves (past : Past) (node : ℕ) (c : Courses) (text : Option ℕ) (tasks : List ℕ) (g : HostState) : Type 0 where
  pub left : Option ℕ
  pub later : List ℕ
  pub at : AtHost past node c left later g
  pub of_text : Thinned (option_to_list text) (option_to_list left)
  pub of_tasks : Thinned tasks later

pub none_some : {A : Type 0} (x : A) → ◌≡◌ {A = Option A} None (Some x) → ⊥
none_some x e = cc

none_is : (p : Option (List ℕ)) → p ≡ None → is_some p ≡ true → ⊥
none_is None e some = grind (arith, some)
none_is (Some x) e some = cc

pub leaves : (past : Past) (node : ℕ) (c : Courses) (text : Option ℕ) (tasks : List ℕ) (h g : HostState) → AtHost past node c text tasks h → SameHost (lock_course node) h g → LeavesNonces node h g → Leaves past node c text tasks g
leaves past node c text tasks h g at same nonces = by nonces.sealing.left
  where
    with_left : (left : Option ℕ) → Thinned (option_to_list text) (option_to_list left) → TextIs past node (node_of g node).text left
        → ((plain : List ℕ) → (node_of g node).pending ≡ Some plain → (node_of h node).pending ≡ Some plain) → (is_some (node_of g node).pending ≡ true → is_some (node_of h node).pending ≡ true) → Leaves past node c text tasks g
    with_left left thin texts pending some =
        let q = same.queue past at.marks at.queue in
        record {
          left = left;
          later = labels q.now;
          at = record {
            keys = same.keys ∙ at.keys;
            book = same.node_as c.sessions.host.commands c.sessions.host.outcome at.book;
            commands = at.commands;
            orders = at.orders ∙ sym same.orders;
            ends = at.ends;
            gave = subst (λ (a : Account). HasGiven past.shown c.host.given c.host.is_live a) (sym nonces.account) at.gave;
            saw = record { count = nonces.sealing.seen ∙ at.saw.count; waiting = λ is. at.saw.waiting (some is) };
            pending = λ plain is. at.pending plain (pending plain is);
            texts = texts;
            marks = q.now;
            queue = q.beside;
            numbers = refl;
          };
          of_text = thin;
          of_tasks = subst (λ (l : List ℕ). Thinned l (labels q.now)) (sym at.numbers) q.thin;
        }

    by : (((node_of g node).text ≡ (node_of h node).text) × ((node_of g node).pending ≡ (node_of h node).pending)) ⊎ (((node_of g node).text ≡ None) × ((node_of g node).pending ≡ None)) → Leaves past node c text tasks g
    by (inl (texts, pending)) =
        with_left text (thinned_same (option_to_list text)) (subst (λ (t : Option (List ℕ)). TextIs past node t text) (sym texts) at.texts) (λ plain is. sym pending ∙ is)
        (λ is. ap (λ (p : Option (List ℕ)). is_some p) (sym pending) ∙ is)
    by (inr (texts, pending)) =
        with_left None tt (subst (λ (t : Option (List ℕ)). TextIs past node t None) (sym texts) tt) (λ plain is. absurd (none_some plain (sym pending ∙ is)))
        (λ is. absurd (none_is (node_of g node).pending pending is))

-- the side of the line is nothing to that
pub at_side : (past : Past) (node : ℕ) (c : Courses) (text : Option ℕ) (tasks : List ℕ) (g : HostState) (side : Side) → AtHost past node c text tasks g → AtHost past node c text tasks (record g { side = side })
at_side past node c text tasks g side at = record {
  keys = at.keys;
  book = at.book;
  commands = at.commands;
  orders = at.orders;
  ends = at.ends;
  gave = at.gave;
  saw = at.saw;
  pending = at.pending;
  texts = at.texts;
  marks = at.marks;
  queue = at.queue;
  numbers = at.numbers;
}

pub leaves_line : (past : Past) (node : ℕ) (c : Courses) (text : Option ℕ) (tasks : List ℕ) (h g : HostState) → AtHost past node c text tasks h → SameHost (lock_course node) h (record g { side = h.side }) → LeavesNonces node h g → Leaves past node c text tasks g
leaves_line past node c text tasks h g at same nonces =
    let l : Leaves past node c text tasks (record g { side = h.side }) = leaves past node c text tasks h (record g { side = h.side }) at same (record { account = nonces.account; sealing = nonces.sealing }) in
    record { left = l.left; later = l.later; at = at_side past node c l.left l.later (record g { side = h.side }) g.side l.at; of_text = l.of_text; of_tasks = l.of_tasks }

module _ (thins : UpThins) (past : Past) (node : ℕ) (c : Courses) (carried : List Sent) (text : Option ℕ) (tasks : List ℕ) (h : HostState) (go_up : GoUp c carried text tasks) where
  none_more : (left : Option ℕ) (later : List ℕ) → Thinned (option_to_list text) (option_to_list left) → Thinned tasks later → CoursesGo c (with_up c (carried ++ []) left later)
  none_more left later of_text of_tasks = thins c carried (carried ++ []) text left tasks later go_up (subst (λ (l : List Sent). Thinned carried l) (sym (append-nil carried)) (thinned_same carried)) of_text of_tasks

  -- the side of the line moves, and writes no new frame
  pub turns : (g : HostState) (units : List LineUnit) → Leaves past node c text tasks g → Moves (Asks past node) h.side.turn [] units g.side.turn [] [] → Wrote past node c carried h g units
  turns g units l moves = record {
    later_past = past;
    grows = grows_none past;
    given = refl;
    written = [];
    left = l.left;
    later = l.later;
    goes = none_more l.left l.later l.of_text l.of_tasks;
    at = l.at;
    moves = moves;
  }

  still : (side : Side) (is : Past) → side ≡ h.side → Moves (Asks is node) h.side.turn [] [] side.turn [] []
  still side is same = subst (λ (s : Side). Moves (Asks is node) h.side.turn [] [] s.turn [] []) (sym same) (move_same (Asks is node) h.side.turn h.side.turn [] refl)

  -- nothing is written
  pub quietly : (g : HostState) → Leaves past node c text tasks g → g.side ≡ h.side → Wrote past node c carried h g []
  quietly g l side = turns g [] l (still g.side past side)

  -- more is accepted, and nothing is written
  pub accepts : (g : HostState) (later_past : Past) → Grows past later_past → later_past.given ≡ past.given → Leaves later_past node c text tasks g → g.side ≡ h.side → Wrote past node c carried h g []
  accepts g later_past grows given l side = record {
    later_past = later_past;
    grows = grows;
    given = given;
    written = [];
    left = l.left;
    later = l.later;
    goes = none_more l.left l.later l.of_text l.of_tasks;
    at = l.at;
    moves = still g.side later_past side;
  }

  submitted : (g : HostState) (f : FrameParts) (mark : Option Sent) → g.side.turn ≡ Copied f 1 0 → is_busy h.side.turn ≡ false → Asks past node f mark → Moves (Asks past node) h.side.turn [] (Framed f ∷ []) g.side.turn [] (option_to_list mark)
  submitted g f mark turn free is =
      subst (λ (t : Turn). Moves (Asks past node) h.side.turn [] (Framed f ∷ []) t [] (option_to_list mark)) (sym turn) (move_submit (Asks past node) f mark h.side.turn (Copied f 1 0) is (none_own h.side.turn free) refl)

  -- a frame is submitted, which holds neither a message nor a nonce
  pub submits_other : (g : HostState) (f : FrameParts) → Leaves past node c text tasks g → g.side.turn ≡ Copied f 1 0 → is_busy h.side.turn ≡ false → Asks past node f None → Wrote past node c carried h g (Framed f ∷ [])
  submits_other g f l turn free is = turns g (Framed f ∷ []) l (submitted g f None turn free is)

  -- the sealed text is
  pub submits_text : (g : HostState) (f : FrameParts) (number : ℕ) → CoursesGo c (with_up c (carried ++ Sealed (begun_of c.sessions.host) number ∷ []) None tasks) → AtHost past node c None tasks g → g.side.turn ≡ Copied f 1 0
      → is_busy h.side.turn ≡ false → Asks past node f (Some (Sealed (begun_of c.sessions.host) number)) → Wrote past node c carried h g (Framed f ∷ [])
  submits_text g f number goes at turn free is = record {
    later_past = past;
    grows = grows_none past;
    given = refl;
    written = Sealed (begun_of c.sessions.host) number ∷ [];
    left = None;
    later = tasks;
    goes = goes;
    at = at;
    moves = submitted g f (Some (Sealed (begun_of c.sessions.host) number)) turn free is;
  }

  -- a nonce is
  pub submits_nonce : (g : HostState) (f : FrameParts) (number : ℕ) (more : List ℕ) → CoursesGo c (with_up c (carried ++ Offer number ∷ []) text more) → AtHost past node c text more g → g.side.turn ≡ Copied f 1 0 → is_busy h.side.turn ≡ false
      → Asks past node f (Some (Offer number)) → Wrote past node c carried h g (Framed f ∷ [])
  submits_nonce g f number more goes at turn free is = record {
    later_past = past;
    grows = grows_none past;
    given = refl;
    written = Offer number ∷ [];
    left = text;
    later = more;
    goes = goes;
    at = at;
    moves = submitted g f (Some (Offer number)) turn free is;
  }
