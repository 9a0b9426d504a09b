-- What the host makes of the nonces of a lock, and of its own, makes steps of the courses: it takes one for the text that waits, gives one or offers the live one again, and spends one.
use Rattle.std.proofs.Common.{◌≡◌, ℕ, ◌<◌, Bool, true, false, if◌then◌else◌, Option, Some, None, List, [], ◌∷◌, ◌++◌, length, is_some, refl, ap, sym, ◌∙◌, subst, append-nil, append_assoc, arith}
use Rattle.std.specs.Prelude.{◌&&◌, not, slice_index}
use Rattle.std.specs.List.{AllByRecursion}
use Rattle.std.specs.Option.{option_to_list}
use Rattle.std.proofs.lemmas.List.{get_or-set_same}
use Rattle.supervision.specs.Ends.{Report}
use Rattle.proof_course.specs.Sessions.{Course}
use Rattle.proof_course.specs.NodeNonces as node
use Rattle.proof_course.specs.NodeNonces.{taken_as}
use Rattle.proof_course.specs.NodeNonceFacts.{NonceFacts as NodeFacts}
use Rattle.proof_course.specs.HostNonces as host
use Rattle.proof_course.specs.NonceLaws.{TakesIt}
use Rattle.serial_frame.specs.Stream.{Rest}
use Rattle.serial_frame.specs.declared.unit.Unit.{Unit as LineUnit}
use Rattle.serial_frame.specs.declared.item.Item.{Item}
use Rattle.serial_link.specs.State.{Side}
use Rattle.serial_pipes.specs.State.{WayState}
use Rattle.chip_sim.specs.State.{ChipParts}
use Rattle.chip_sim.specs.Rules.{WaitsWell}
use Rattle.outside_model.specs.State.{Outside}
use Rattle.outside_model.specs.Did.{happens_all as happens_all_outside}
use Rattle.world_model.specs.State.{routed}
use Rattle.s0_crypto.specs.declared.key_pair.Keys.{Keys}
use Rattle.s0_session.specs.declared.account.Account.{Account}
use Rattle.s0_session.specs.Nonces.{account_of, live_of, after_give, unused}
use Rattle.s0_session.specs.Sending.{taken_from}
use Rattle.host_requests.specs.Events.RequestsEvent.{Pushes as request_pushes}
use Rattle.host_requests.specs.declared.task.Task.TheVariants as task
use Rattle.host_node.specs.declared.series.Series.{Series}
use Rattle.host_node.specs.declared.series.Series.TheVariants.{Idle, Due, Running}
use Rattle.host_node.specs.Facts.{SeriesFacts}
use Rattle.host_node.specs.State.{NodeState, SealsText, ends_to}
use Rattle.host_node.specs.Steps.{after_nonce}
use Rattle.host_model.specs.State.{HostState, node_of}
use Rattle.host_model.specs.declared.out.HostOut.{HostOut}
use Rattle.host_model.specs.After.{after as after_host, is_full, requests_do, giving, offering}
use Rattle.host_model.specs.Outs.{noted, dropped_if}
use Rattle.host_model.specs.May.{May}
use Rattle.host_model.specs.Events.{HostEvent, Spends, Takes_nonce}
use Rattle.proof_course_plain.specs.proof_serial.Way.{Carries}
use Rattle.proof_course_plain.specs.proof_serial.Line.{host_units}
use Rattle.proof_course_plain.specs.proof_serial.Chip.{HasFrames}
use Rattle.proof_course_plain.proofs.proof_serial_Outer.{Written, routed_all}
use Rattle.proof_course_plain.specs.Tied.{AreOutcomes}
use Rattle.proof_messages.specs.Numbers.{IsNonce, HasGiven, with_given, brought_by}
use Rattle.proof_messages.specs.Payloads.{IsSealed}
use Rattle.proof_course_plain.specs.Ways.{Thinned, Goes}
use Rattle.proof_course_plain.specs.Mesh.{labels}
use Rattle.proof_course_plain.specs.Lines.{OnWay}
use Rattle.proof_course_plain.specs.Told.{HasPast}
use Rattle.proof_course_plain.proofs.ThinnedWays.{goes_nowhere as sessions_nowhere}
use Rattle.proof_course_plain.proofs.Flights.{beside-append}
use Rattle.proof_course_plain.proofs.WayLabels.{thinned_same, labels-append}
use Rattle.proof_course_plain.proofs.HostActs.{BeginsNone, SameAir as SameOutside, routed_air, way_weaker}
use Rattle.proof_course_sealed.specs.Labels.{Late, Reports, Shows, picked, sealed_for, offer_of, report_of, shown_by, answers_for}
use Rattle.proof_course_sealed.specs.Courses.{Courses, NodeGoes, HostGoes as NoncesGo, CoursesGo, CoursesFacts, GoDown, HasSeen, with_down}
use Rattle.proof_course_sealed.specs.Meaning.{Past, GoesOn, Grows, IsSealedMessage}
use Rattle.proof_course_sealed.specs.Lines.{Tells, Asks}
use Rattle.proof_course_sealed.specs.Host.{TextIs, TaskIs, AtHost}
use Rattle.proof_course_sealed.specs.HostGoing.{HostFollows, HostGoes}
use Rattle.proof_course_sealed.proofs.ThinnedWays.{node_step, node_nowhere, host_step, host_nowhere, host_on}
use Rattle.proof_course_sealed.proofs.CourseSteps.{list_same, grows_none}
use Rattle.proof_course_sealed.proofs.Meanings.{sealed_message_stays}
use Rattle.proof_course_sealed.proofs.KeptBooks.{tasks_stay}
use Rattle.proof_course_sealed.proofs.Elsewhere.{AirStays, asks_stays, tells_stays, mesh_stays}
use Rattle.proof_course_sealed.proofs.HostActs.{none_some}
use Rattle.proof_course_sealed.proofs.HostEvents.{text_stays}
use Rattle.proof_course_sealed.proofs.HostJudgements.{IsTaking}
use Rattle.host_model.proofs.Pumps.{and_false as never_ends}

-- ---- the courses as the host judges

-- what the host knows of the courses, what of its own is on its way to the chip or is to be, and the labels on their way to it
pub record Books : Type 0 where
  pub outcome : Option ℕ
  pub told : List ℕ
  pub seen : ℕ
  pub waits : Bool
  pub given : ℕ
  pub is_live : Bool
  pub sealed : List ℕ
  pub offers : List ℕ
  pub now : List Late

-- those that there are, with these labels
abbrev pub books_of : Courses → List Late → Books
books_of c now = record {
  outcome = c.sessions.host.outcome;
  told = c.sessions.told;
  seen = c.node.seen;
  waits = c.node.waits;
  given = c.host.given;
  is_live = c.host.is_live;
  sealed = c.node.up;
  offers = c.host.up;
  now = now;
}

-- the courses with other ones
abbrev pub judged : Courses → Books → Courses
judged c x = record {
  sessions = record c.sessions { host = record c.sessions.host { outcome = x.outcome }; told = x.told; down = picked report_of x.now };
  node = record c.node { seen = x.seen; waits = x.waits; up = x.sealed; down = picked (λ (late : Late). shown_by late.said) x.now };
  host = record c.host { given = x.given; is_live = x.is_live; up = x.offers; down = picked (λ (late : Late). answers_for late.said) x.now };
}

abbrev pub with_shown : Past → List (List ℕ) → Past
with_shown past shown = record past { shown = shown }

shown_grows : (past : Past) (shown : List (List ℕ)) → GoesOn past.shown shown → Grows past (with_shown past shown)
shown_grows past shown goes = record { keys = refl; orders = list_same past.orders; commands = list_same past.commands; given = list_same past.given; shown = goes }

-- ---- what is outside, where the host writes nothing

pub record IsSilent (outs : List HostOut) : Type 0 where
  pub begins : AllByRecursion BeginsNone outs
  pub units : host_units outs ≡ []

pub nothing_silent : IsSilent []
nothing_silent = record { begins = tt; units = refl }

pub silent : AirStays → (past : Past) (node : ℕ) (c : Courses) (rest : Rest) (up yet later_yet down : List Item) (h g : HostState) (w : Outside) (outs : List HostOut) (f : HostFollows past node c rest up yet down h w) (x : Books) (shown : List (List ℕ))
    (text : Option ℕ) (tasks : List ℕ) → IsSilent outs → g.side ≡ h.side → GoesOn past.shown shown → x.sealed ≡ picked sealed_for f.carried ++ option_to_list text → x.offers ≡ picked offer_of f.carried ++ tasks
    → OnWay (Tells past node) x.now (later_yet ++ down) w.outer.chip.state.port.side.turn w.outer.chip.state.port.waiting → AtHost (with_shown past shown) node (judged c x) text tasks g → AreOutcomes g.commands c.sessions.host.commands x.told
    → HostFollows (with_shown past shown) node (judged c x) rest up later_yet down g (happens_all_outside w (routed outs))
silent stays past node c rest up yet later_yet down h g w outs f x shown text tasks none side goes sealed offers on at told =
    let w' : Outside = happens_all_outside w (routed outs) in
    let later : Past = with_shown past shown in
    let now : Courses = judged c x in
    let grows : Grows past later = shown_grows past shown goes in
    let same : SameOutside w w' = routed_air w outs none.begins in
    let written : Written [] w.outer w'.outer = subst (λ (us : List LineUnit). Written us w.outer w'.outer) none.units (routed_all w outs) in
    record {
      text = text;
      tasks = tasks;
      mesh = mesh_stays stays past later node c now w w' f.mesh grows refl (record { device = refl; kept = refl; ends = refl; given = refl; is_live = refl; seen = refl; waits = refl })
          (record { sessions = (refl, refl); node = (refl, refl); host = (refl, refl); begun = refl; given = refl; shown = refl }) same;
      to_chip = subst (λ (y : WayState). Carries w'.outer.chip.decoder y up) (sym written.to_chip) (subst (λ (r : Rest). Carries r w.outer.to_chip up) (sym (ap (λ (parts : ChipParts). parts.decoder) written.chip)) f.to_chip);
      to_host = subst (λ (y : WayState). Carries rest y down) (sym written.to_host) f.to_host;
      frames = subst (λ (parts : ChipParts). HasFrames parts.state.port) (sym written.chip) f.frames;
      waits = subst (λ (parts : ChipParts). WaitsWell parts.state.port) (sym written.chip) f.waits;
      carried = f.carried;
      go_up = record { messages = f.go_up.messages; sealed = sealed; offers = offers };
      messages = subst (λ (s : Side). OnWay (Asks later node) f.carried up s.turn []) (sym side)
          (way_weaker (Asks past node) (Asks later node) (λ frame mark. asks_stays past later node frame mark grows) f.carried up h.side.turn [] f.messages);
      late = x.now;
      go_down = record { reports = refl; nonces = refl; answers = refl };
      reports = subst (λ (parts : ChipParts). OnWay (Tells later node) x.now (later_yet ++ down) parts.state.port.side.turn parts.state.port.waiting) (sym written.chip)
          (way_weaker (Tells past node) (Tells later node) (λ frame mark. tells_stays past later node frame mark grows) x.now (later_yet ++ down) w.outer.chip.state.port.side.turn w.outer.chip.state.port.waiting on);
      host = at;
      outcomes = told;
    }

-- ---- steps of one course

pub sessions_down : (c : Course) (down : List Report) → c.down ≡ down → Goes c (record c { down = down })
sessions_down c down e = subst (λ (l : List Report). Goes c (record c { down = l })) e (sessions_nowhere c)

pub node_has_down : (c : node.Nonces) (down : List ℕ) → c.down ≡ down → NodeGoes c (record c { down = down })
node_has_down c down e = subst (λ (l : List ℕ). NodeGoes c (record c { down = l })) e (node_nowhere c)

pub host_has_down : (c : host.Nonces) (down : List ℕ) → c.down ≡ down → NoncesGo c (record c { down = down })
host_has_down c down e = subst (λ (l : List ℕ). NoncesGo c (record c { down = l })) e (host_nowhere c)

-- a nonce is taken for the text that waits
node_takes : (c : node.Nonces) (number : ℕ) (down : List ℕ) → c.down ≡ number ∷ down → taken_as c.waits c.seen number ≡ Some number → NodeGoes c (record c { down = down; seen = number; waits = false; up = c.up ++ number ∷ [] })
node_takes c number down e taken =
    subst (λ (x : node.Nonces). NodeGoes c x) (ap (node.judges c) e ∙ ap (node.seals (record c { down = down })) taken) (node_step c node.Judges tt)

host_spends : (c : host.Nonces) (number : ℕ) (down : List ℕ) → c.down ≡ number ∷ down → host.names c number ≡ true → NoncesGo c (record c { down = down; is_live = false })
host_spends c number down e named =
    let dead : c.is_live && not (host.names c number) ≡ false = ap (λ (b : Bool). c.is_live && not b) named ∙ never_ends c.is_live in
    subst (λ (x : host.Nonces). NoncesGo c x) (ap (host.judges c) e ∙ ap (λ (b : Bool). record c { down = down; is_live = b }) dead) (host_step c host.Judges tt)

-- one is given, where none is live
gives_is : (c : host.Nonces) (live : Bool) → host.gives c live ≡ record c { given = (host.gives c live).given; is_live = (host.gives c live).is_live }
gives_is c true = refl
gives_is c false = refl

host_gives : (c : host.Nonces) → NoncesGo c (record c { given = (host.gives c c.is_live).given; is_live = (host.gives c c.is_live).is_live })
host_gives c = subst (λ (x : host.Nonces). NoncesGo c x) (gives_is c c.is_live) (host_step c host.Gives tt)

-- ---- the laws that are used

pub record Laws : Type 0 where
  pub stays : AirStays
  pub thins : (c : Courses) (carried now : List Late) → GoDown c carried → Thinned carried now → CoursesGo c (with_down c now)
  pub taken : (nonces : List (List ℕ)) (number count : ℕ) (pending : Option (List ℕ)) (nonce : List ℕ) → IsNonce nonces number nonce → taken_from pending count (slice_index nonce 0) ≡ taken_as (is_some pending) count number
  pub names : (c : node.Nonces) (number : ℕ) (later : List ℕ) → NodeFacts c → c.down ≡ number ∷ later → TakesIt c number
  pub seals : (n : NodeState) (keys : Keys) (own other nonce another text : List ℕ) (nonces : List (List ℕ)) (number : ℕ) → SealsText n keys own nonce text → SealsText n keys other another text → length other ≡ 8 → IsNonce nonces number nonce
      → (plain : List ℕ) × ((n.pending ≡ Some plain) × IsSealed keys (ends_to n.node) nonces number plain text)
  pub takes : (node seen : ℕ) (h : HostState) (text : List ℕ) → node < length h.nodes → node_of (after_host h (Takes_nonce node seen text)) node ≡ after_nonce (node_of h node) seen text
  pub spends : (node : ℕ) (h : HostState) → node < length h.nonces → account_of (after_host h (Spends node)).nonces node ≡ record (account_of h.nonces node) { live = None }
  pub gives : (nonces : List (List ℕ)) (c : host.Nonces) (account : Account) (drawn : List ℕ) → length drawn ≡ 8 → HasGiven nonces c.given c.is_live account
      → HasGiven (with_given nonces account drawn) (host.after c host.Gives).given (host.after c host.Gives).is_live (after_give account drawn)

-- ---- small things

no_text : (past : Past) (node : ℕ) (text : Option (List ℕ)) (number : Option ℕ) → text ≡ None → TextIs past node text number → number ≡ None
no_text past node None None e is = refl
no_text past node None (Some number) e is = absurd is
no_text past node (Some payload) number e is = absurd (none_some payload (sym e))

-- what waits to be sealed leaves no text that is sealed
either_none : (text pending : Option (List ℕ)) → is_some text && is_some pending ≡ false → is_some pending ≡ true → text ≡ None
either_none None pending e some = refl
either_none (Some text) pending e some = absurd (grind (arith, e, some))

waits_alone : (series : Series) (n : NodeState) → SeriesFacts series n.book n.attempt_wait n.again_wait n.next_segment n.segments n.text n.pending → is_some n.pending ≡ true → n.text ≡ None
waits_alone Idle n facts some = facts.1.no_text
waits_alone Due n facts some = facts.2.no_text
waits_alone Running n facts some = either_none n.text n.pending facts.3 some

-- ---- a label is lost

module _ (laws : Laws) (past : Past) (node : ℕ) (c : Courses) (rest : Rest) (up yet later_yet down : List Item) (h : HostState) (w : Outside) (f : HostFollows past node c rest up yet down h w) where
  -- with these labels left
  at_now : (now : List Late) → AtHost past node (judged c (books_of c now)) f.text f.tasks h
  at_now now = record {
    keys = f.host.keys;
    book = f.host.book;
    commands = f.host.commands;
    orders = f.host.orders;
    ends = f.host.ends;
    gave = f.host.gave;
    saw = record { count = f.host.saw.count; waiting = f.host.saw.waiting };
    pending = f.host.pending;
    texts = f.host.texts;
    marks = f.host.marks;
    queue = f.host.queue;
    numbers = f.host.numbers;
  }

  pub drops : (now : List Late) → Thinned f.late now → OnWay (Tells past node) now (later_yet ++ down) w.outer.chip.state.port.side.turn w.outer.chip.state.port.waiting → HostGoes past node c rest later_yet down h w
  drops now thin on = record {
    later_past = past;
    later = judged c (books_of c now);
    grows = grows_none past;
    goes = laws.thins c f.late now f.go_down thin;
    up = up;
    follows = silent laws.stays past node c rest up yet later_yet down h h w [] f (books_of c now) past.shown f.text f.tasks nothing_silent refl (list_same past.shown) f.go_up.sealed f.go_up.offers on (at_now now) f.outcomes;
  }

-- ---- a nonce of the node is taken

-- a node of the host, as the courses have it
pub record NodeAt (past : Past) (node : ℕ) (c : Courses) (text : Option ℕ) (n : NodeState) : Type 0 where
  pub book : (n.book.commands ≡ c.sessions.host.commands) × (n.book.outcome ≡ c.sessions.host.outcome)
  pub saw : HasSeen c.node.seen c.node.waits n.seen n.pending
  pub pending : (plain : List ℕ) → n.pending ≡ Some plain → IsSealedMessage past (length past.commands) plain
  pub texts : TextIs past node n.text text

module _ (laws : Laws) (past : Past) (node : ℕ) (c : Courses) (rest : Rest) (up yet later_yet down : List Item) (h : HostState) (w : Outside) (f : HostFollows past node c rest up yet down h w) (facts : HasPast h) (course : CoursesFacts c) (within : node < 233)
    (now : List Late) (on : OnWay (Tells past node) now (later_yet ++ down) w.outer.chip.state.port.side.turn w.outer.chip.state.port.waiting) where
  abbrev n : NodeState
  n = node_of h node

  module _ (number begun : ℕ) (are : f.late ≡ record { said = Shows number; begun = begun } ∷ now) (events : List HostEvent) (is : IsTaking past node number h events) (may : May h (Takes_nonce node is.seen is.text)) where
    some : is_some n.pending ≡ true
    some = ap (λ (p : Option (List ℕ)). is_some p) is.seals.is_pending

    no_number : f.text ≡ None
    no_number = no_text past node n.text f.text (waits_alone n.series n (facts.facts.host.nodes.facts node).series some) f.host.texts

    first : c.node.down ≡ number ∷ picked (λ (late : Late). shown_by late.said) now
    first = f.go_down.nonces ∙ ap (picked (λ (late : Late). shown_by late.said)) are

    counted : taken_as c.node.waits c.node.seen number ≡ Some is.seen
    counted =
        subst (λ (b : Bool). taken_as b c.node.seen number ≡ Some is.seen) (some ∙ sym (f.host.saw.waiting some))
        (subst (λ (k : ℕ). taken_as (is_some n.pending) k number ≡ Some is.seen) f.host.saw.count (sym (laws.taken past.given number n.seen n.pending is.nonce is.is) ∙ is.counts))

    seen_is : is.seen ≡ number
    seen_is = laws.names c.node number (picked (λ (late : Late). shown_by late.said) now) course.node first is.seen counted

    abbrev taking : Books
    taking = record { outcome = c.sessions.host.outcome; told = c.sessions.told; seen = number; waits = false; given = c.host.given; is_live = c.host.is_live; sealed = c.node.up ++ number ∷ []; offers = c.host.up; now = now }

    goes : CoursesGo c (judged c taking)
    goes = record {
      sessions = sessions_down c.sessions (picked report_of now) (f.go_down.reports ∙ ap (picked report_of) are);
      node = node_takes c.node number (picked (λ (late : Late). shown_by late.said) now) first (counted ∙ ap Some seen_is);
      host = host_has_down c.host (picked (λ (late : Late). answers_for late.said) now) (f.go_down.answers ∙ ap (picked (λ (late : Late). answers_for late.said)) are);
    }

    up_is : c.node.up ++ number ∷ [] ≡ picked sealed_for f.carried ++ number ∷ []
    up_is = ap (λ l. l ++ number ∷ []) (f.go_up.sealed ∙ (ap (λ (t : Option ℕ). picked sealed_for f.carried ++ option_to_list t) no_number ∙ append-nil (picked sealed_for f.carried)))

    abbrev g : HostState
    g = after_host h (Takes_nonce node is.seen is.text)

    sealed_as : (plain : List ℕ) × ((n.pending ≡ Some plain) × IsSealed h.keys (ends_to n.node) past.given number plain is.text)
    sealed_as = laws.seals n h.keys is.own may.1 is.nonce may.0 is.text past.given number is.seals may.3 may.4 is.is

    node_at : NodeAt past node (judged c taking) (Some number) (after_nonce n is.seen is.text)
    node_at = record {
      book = f.host.book;
      saw = record { count = seen_is; waiting = λ none. absurd (grind (arith, none)) };
      pending = λ plain none. absurd (none_some plain none);
      texts = record {
        text = sealed_as.0;
        is = f.host.pending sealed_as.0 sealed_as.1.0;
        sealed = subst (λ (k : ℕ). IsSealed past.keys (ends_to k) past.given number sealed_as.0 is.text) (facts.facts.host.nodes.numbers node is.is_node.0 is.is_node.1)
            (subst (λ (k : Keys). IsSealed k (ends_to n.node) past.given number sealed_as.0 is.text) f.host.keys sealed_as.1.1);
      };
    }

    node_now : NodeAt past node (judged c taking) (Some number) (node_of g node)
    node_now = subst (NodeAt past node (judged c taking) (Some number)) (sym (laws.takes node is.seen h is.text (let places = facts.facts.host.nodes.places in omega (arith, places, within)))) node_at

    pub takes : HostGoes past node c rest later_yet down g w
    takes = record {
      later_past = past;
      later = judged c taking;
      grows = grows_none past;
      goes = goes;
      up = up;
      follows = silent laws.stays past node c rest up yet later_yet down h g w [] f taking past.shown (Some number) f.tasks nothing_silent refl (list_same past.shown) up_is f.go_up.offers on (record {
        keys = f.host.keys;
        book = node_now.book;
        commands = f.host.commands;
        orders = f.host.orders;
        ends = f.host.ends;
        gave = f.host.gave;
        saw = node_now.saw;
        pending = node_now.pending;
        texts = node_now.texts;
        marks = f.host.marks;
        queue = f.host.queue;
        numbers = f.host.numbers;
      }) f.outcomes;
    }

  -- ---- a nonce of the host is spent

  -- what the courses are then, where the host is, and which report it judges
  module _ (session status number begun : ℕ) (are : f.late ≡ record { said = Reports session status number; begun = begun } ∷ now) (named : host.names c.host number ≡ true) where
    abbrev pub spent : Books
    spent = record { outcome = c.sessions.host.outcome; told = c.sessions.told; seen = c.node.seen; waits = c.node.waits; given = c.host.given; is_live = false; sealed = c.node.up; offers = c.host.up; now = now }

    pub report_first : c.sessions.down ≡ record { session = session; status = status; begun = begun } ∷ picked report_of now
    report_first = f.go_down.reports ∙ ap (picked report_of) are

    pub node_left : NodeGoes c.node (judged c spent).node
    node_left = node_has_down c.node (picked (λ (late : Late). shown_by late.said) now) (f.go_down.nonces ∙ ap (picked (λ (late : Late). shown_by late.said)) are)

    pub host_left : NoncesGo c.host (judged c spent).host
    host_left = host_spends c.host number (picked (λ (late : Late). answers_for late.said) now) (f.go_down.answers ∙ ap (picked (λ (late : Late). answers_for late.said)) are) named

    spent_gave : HasGiven past.shown c.host.given false (record (account_of h.nonces node) { live = None })
    spent_gave = record { count = f.host.gave.count; all = f.host.gave.all; lives = refl; last = λ own none. absurd (none_some own none) }

    pub spends : HostFollows past node (judged c spent) rest up later_yet down (after_host h (Spends node)) w
    spends = silent laws.stays past node c rest up yet later_yet down h (after_host h (Spends node)) w [] f spent past.shown f.text f.tasks nothing_silent refl (list_same past.shown) f.go_up.sealed f.go_up.offers on (record {
      keys = f.host.keys;
      book = f.host.book;
      commands = f.host.commands;
      orders = f.host.orders;
      ends = f.host.ends;
      gave = subst (λ (a : Account). HasGiven past.shown c.host.given false a) (sym (laws.spends node h (let places = facts.facts.host.nonces in omega (arith, places, within)))) spent_gave;
      saw = record { count = f.host.saw.count; waiting = f.host.saw.waiting };
      pending = f.host.pending;
      texts = f.host.texts;
      marks = f.host.marks;
      queue = f.host.queue;
      numbers = f.host.numbers;
    }) f.outcomes

-- ---- a nonce of the host is given, or offered again

dropped_silent : (full : Bool) (node : ℕ) → IsSilent (noted (dropped_if full node))
dropped_silent true node = record { begins = (refl, tt); units = refl }
dropped_silent false node = nothing_silent

module _ (laws : Laws) (past : Past) (node : ℕ) (c : Courses) (rest : Rest) (up yet down : List Item) (h : HostState) (w : Outside) (f : HostFollows past node c rest up yet down h w) where
  -- the live one waits to be written, unless 64 tasks do
  module _ (nonce : List ℕ) (live : live_of h.nonces node ≡ Some nonce) where
    is_live : c.host.is_live ≡ true
    is_live = sym f.host.gave.lives ∙ ap (λ (o : Option (List ℕ)). is_some o) live

    abbrev offering_it : Books
    offering_it = record { outcome = c.sessions.host.outcome; told = c.sessions.told; seen = c.node.seen; waits = c.node.waits; given = c.host.given; is_live = c.host.is_live; sealed = c.node.up; offers = c.host.up ++ c.host.given ∷ []; now = f.late }

    numbers_are : f.tasks ++ c.host.given ∷ [] ≡ labels (f.host.marks ++ Some c.host.given ∷ [])
    numbers_are = ap (λ l. l ++ c.host.given ∷ []) f.host.numbers ∙ sym (labels-append f.host.marks (Some c.host.given ∷ []))

    pub in_room : (full : Bool) → HostGoes past node c rest yet down (if full then h else requests_do h (request_pushes (task.Offer node nonce))) (happens_all_outside w (routed (noted (dropped_if full node))))
    in_room true = record {
      later_past = past;
      later = judged c (books_of c f.late);
      grows = grows_none past;
      goes = laws.thins c f.late f.late f.go_down (thinned_same f.late);
      up = up;
      follows = silent laws.stays past node c rest up yet yet down h h w (noted (dropped_if true node)) f (books_of c f.late) past.shown f.text f.tasks (dropped_silent true node) refl (list_same past.shown) f.go_up.sealed f.go_up.offers f.reports
          (at_now laws past node c rest up yet yet down h w f f.late) f.outcomes;
    }
    in_room false = record {
      later_past = past;
      later = judged c offering_it;
      grows = grows_none past;
      goes = record {
        sessions = sessions_down c.sessions (picked report_of f.late) f.go_down.reports;
        node = node_has_down c.node (picked (λ (late : Late). shown_by late.said) f.late) f.go_down.nonces;
        host = host_on c.host (host.after c.host host.Offers) (judged c offering_it).host (host_step c.host host.Offers is_live) (host_has_down (host.after c.host host.Offers) (picked (λ (late : Late). answers_for late.said) f.late) f.go_down.answers);
      };
      up = up;
      follows = silent laws.stays past node c rest up yet yet down h (requests_do h (request_pushes (task.Offer node nonce))) w (noted (dropped_if false node)) f offering_it past.shown f.text (f.tasks ++ c.host.given ∷ []) (dropped_silent false node) refl
          (list_same past.shown) f.go_up.sealed (ap (λ l. l ++ c.host.given ∷ []) f.go_up.offers ∙ append_assoc (picked offer_of f.carried) f.tasks (c.host.given ∷ [])) f.reports (record {
            keys = f.host.keys;
            book = f.host.book;
            commands = f.host.commands;
            orders = f.host.orders;
            ends = f.host.ends;
            gave = f.host.gave;
            saw = record { count = f.host.saw.count; waiting = f.host.saw.waiting };
            pending = f.host.pending;
            texts = f.host.texts;
            marks = f.host.marks ++ Some c.host.given ∷ [];
            queue = beside-append (TaskIs past node) h.requests.queue f.host.marks (task.Offer node nonce) (Some c.host.given) f.host.queue (refl, f.host.gave.last nonce live);
            numbers = numbers_are;
          }) f.outcomes;
    }

    pub offers : HostGoes past node c rest yet down (offering h node (Some nonce)) (happens_all_outside w (routed (noted (dropped_if (is_full h) node))))
    offers = in_room (is_full h)

  -- a new one
  module _ (drawn : List ℕ) (eight : length drawn ≡ 8) (facts : HasPast h) (within : node < 233) where
    abbrev account : Account
    account = account_of h.nonces node

    abbrev shown : List (List ℕ)
    shown = with_given past.shown account drawn

    abbrev giving_it : Books
    giving_it = record {
      outcome = c.sessions.host.outcome;
      told = c.sessions.told;
      seen = c.node.seen;
      waits = c.node.waits;
      given = (host.gives c.host c.host.is_live).given;
      is_live = (host.gives c.host c.host.is_live).is_live;
      sealed = c.node.up;
      offers = c.host.up;
      now = f.late;
    }

    grown : GoesOn past.shown shown
    grown = record { more = brought_by account.live account.given drawn; is = refl }

    pub given_to : account_of (giving h node drawn).nonces node ≡ after_give account drawn
    given_to = get_or-set_same h.nonces node (after_give account drawn) unused (let places = facts.facts.host.nonces in omega (arith, places, within))

    pub gives : HostGoes past node c rest yet down (giving h node drawn) w
    gives = record {
      later_past = with_shown past shown;
      later = judged c giving_it;
      grows = shown_grows past shown grown;
      goes = record {
        sessions = sessions_down c.sessions (picked report_of f.late) f.go_down.reports;
        node = node_has_down c.node (picked (λ (late : Late). shown_by late.said) f.late) f.go_down.nonces;
        host = host_on c.host (record c.host { given = giving_it.given; is_live = giving_it.is_live }) (judged c giving_it).host (host_gives c.host)
            (host_has_down (record c.host { given = giving_it.given; is_live = giving_it.is_live }) (picked (λ (late : Late). answers_for late.said) f.late) f.go_down.answers);
      };
      up = up;
      follows = silent laws.stays past node c rest up yet yet down h (giving h node drawn) w [] f giving_it shown f.text f.tasks nothing_silent refl grown f.go_up.sealed f.go_up.offers f.reports (record {
        keys = f.host.keys;
        book = f.host.book;
        commands = f.host.commands;
        orders = f.host.orders;
        ends = f.host.ends;
        gave = subst (λ (a : Account). HasGiven shown giving_it.given giving_it.is_live a) (sym given_to) (laws.gives past.shown c.host account drawn eight f.host.gave);
        saw = record { count = f.host.saw.count; waiting = f.host.saw.waiting };
        pending = λ plain is. sealed_message_stays past (with_shown past shown) (length past.commands) plain (shown_grows past shown grown) (f.host.pending plain is);
        texts = text_stays past (with_shown past shown) node (node_of h node).text f.text (shown_grows past shown grown) refl f.host.texts;
        marks = f.host.marks;
        queue = tasks_stay past (with_shown past shown) node h.requests.queue f.host.marks (shown_grows past shown grown) f.host.queue;
        numbers = f.host.numbers;
      }) f.outcomes;
    }
