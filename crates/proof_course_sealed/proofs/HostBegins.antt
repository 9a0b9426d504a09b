-- A session begins at the host, in the courses of a lock: of its node, or of another.
use Rattle.std.proofs.Common.{◌≡◌, ◌≢◌, ℕ, zero, suc, ◌+◌, ◌-◌, ◌<◌, ◌≤◌, ◌==◌, Bool, true, false, nat_le, if◌then◌else◌, Option, Some, None, List, [], ◌∷◌, ◌++◌, replicate, length, is_some, refl, ap, sym, ◌∙◌, subst, append_assoc, append-nil, arith}
use Rattle.std.specs.Prelude.{slice_index, IsSome}
use Rattle.std.proofs.lemmas.Bool.{eqb-true}
use Rattle.supervision.specs.Host.{begun_of, open_session, begins}
use Rattle.proof_course.specs.Sessions.{Begins as begins_step}
use Rattle.proof_course.specs.SessionFacts.{CourseFacts}
use Rattle.serial_frame.specs.Stream.{Rest}
use Rattle.serial_frame.specs.declared.item.Item.{Item}
use Rattle.zw_text.specs.declared.entry.Entry.TheVariants as entry
use Rattle.air_frames.specs.Flown.{Flown}
use Rattle.air_frames.specs.Frames.{FramesState, peer_of}
use Rattle.air_frames.specs.History.{Mark, Begins as begins_mark}
use Rattle.proof_course_plain.specs.Flights.{Fly as FlyInOrder}
use Rattle.mesh_sim.specs.Air.{AirState, beginning, is_joined}
use Rattle.outside_model.specs.State.{Outside}
use Rattle.outside_model.specs.Events.{outcome, devices_after, begins as air_begins, mesh_of}
use Rattle.outside_model.specs.Did.{happens_all as happens_all_outside}
use Rattle.world_model.specs.State.{routed}
use Rattle.host_node.specs.State.{NodeState, unknown}
use Rattle.host_node.specs.Facts.{NodeFacts, SeriesFacts, HasAttempts}
use Rattle.host_node.specs.Steps.{after_begin}
use Rattle.host_node.specs.declared.series.Series.{Series}
use Rattle.host_node.specs.declared.series.Series.TheVariants.{Idle, Due, Running}
use Rattle.host_node.specs.Events.{after as after_node}
use Rattle.host_node.specs.Events.NodeEvent.{Begins as node_begins}
use Rattle.host_requests.specs.declared.task.Task.{Task}
use Rattle.host_model.specs.State.{HostState, node_of, with_node}
use Rattle.host_model.specs.declared.out.HostOut.TheVariants.{Note}
use Rattle.host_model.specs.After.{after as after_host, node_does}
use Rattle.host_model.specs.May.{May}
use Rattle.host_model.specs.Facts.{HostFacts}
use Rattle.host_model.specs.Events.{Begins}
use Rattle.proof_course_plain.specs.Tied.{AreOutcomes}
use Rattle.proof_course_plain.specs.Ways.{Beside}
use Rattle.proof_course_plain.specs.Told.{KeepsOutcomes}
use Rattle.proof_course_plain.proofs.ThinnedWays.{goes_once}
use Rattle.proof_course_plain.proofs.WayLabels.{thinned_same, move_same}
use Rattle.proof_course_plain.proofs.KeptHosts.{SameHost, same_host, same_then, other_same, outcome_orders}
use Rattle.proof_course_plain.proofs.HostActs.{AirLaws, set_here, waits_somewhere}
use Rattle.proof_course_plain.proofs.HostsFromRecords.{open_alike as open_same}
use Rattle.proof_course_plain.proofs.Told.{outcomes_stay, outcomes_begin}
use Rattle.proof_course_sealed.specs.Labels.{Sent}
use Rattle.proof_course_sealed.specs.Courses.{Courses, CoursesGo, with_up}
use Rattle.proof_course_sealed.specs.Meaning.{Past, Grows}
use Rattle.proof_course_sealed.specs.Air.{OnAir}
use Rattle.proof_course_sealed.specs.Lines.{Asks}
use Rattle.proof_course_sealed.specs.Host.{TextIs, TaskIs, AtHost}
use Rattle.proof_course_sealed.specs.HostGoing.{HostFollows, HostGoes}
use Rattle.proof_course_sealed.proofs.ThinnedWays.{node_nowhere, host_nowhere}
use Rattle.proof_course_sealed.proofs.CourseSteps.{goes_nowhere, list_same}
use Rattle.proof_course_sealed.proofs.KeptBooks.{lock_course}
use Rattle.proof_course_sealed.proofs.Elsewhere.{AirStays, lock_itself, air_itself, mesh_with}
use Rattle.proof_course_sealed.proofs.HostActs.{Wrote, leaves, writes_go, quietly}
use Rattle.proof_course_sealed.proofs.HostEvents.{Writing}

-- a session of the node has begun in the courses
abbrev pub begun : Courses → ℕ → Courses
begun c command = record c { sessions = record c.sessions { host = begins c.sessions.host command } }

-- its command is one of the past
abbrev pub with_command : Past → ℕ → Past
with_command past command = record past { commands = past.commands ++ command ∷ [] }

-- what is known of the air when sessions begin
pub record Beginning : Type 0 where
  pub fly : AirLaws
  pub stays : AirStays
  pub own : (past : Past) (node : ℕ) (c : Courses) (command : ℕ) (log : List Mark) (flights : List Flown) (frames later : FramesState) → OnAir past node c log flights frames → FlyInOrder (log ++ begins_mark node ∷ []) flights later
      → OnAir past node (begun c command) (log ++ begins_mark node ∷ []) flights later
  pub other : (past : Past) (node n : ℕ) (c : Courses) (log : List Mark) (flights : List Flown) (frames later : FramesState) → n ≢ node → OnAir past node c log flights frames → FlyInOrder (log ++ begins_mark n ∷ []) flights later
      → OnAir past node c (log ++ begins_mark n ∷ []) flights later

-- ---- the air

repeated : {A : Type 0} (k : ℕ) (x : A) → replicate (suc k) x ≡ replicate k x ++ x ∷ []
repeated zero x = refl
repeated (suc k) x = ap (λ l. x ∷ l) (repeated k x)

begins_joined : (a : AirState) (n sessions node : ℕ) → is_joined (air_begins a n sessions) node ≡ is_joined a node
begins_joined a n sessions node = by (nat_le (peer_of a.frames n).begun sessions)
  where
    by : (b : Bool) → is_joined (if b then beginning a n sessions else a) node ≡ is_joined a node
    by true = refl
    by false = refl

module _ (laws : Beginning) (past : Past) (node : ℕ) (c : Courses) (log : List Mark) (flights : List Flown) (a : AirState) (on : OnAir past node c log flights a.frames) where
  -- so many sessions of a node have begun
  abbrev frames_at : ℕ → ℕ → FramesState
  frames_at n sessions = (beginning a n sessions).frames

  fly_at : (n k : ℕ) → n < 233 → FlyInOrder (log ++ replicate k (begins_mark n)) flights (frames_at n ((peer_of a.frames n).begun + k))
  fly_at n k within =
      let count : ((peer_of a.frames n).begun + k) - (peer_of a.frames n).begun ≡ k = omega arith in
      subst (λ (j : ℕ). FlyInOrder (log ++ replicate j (begins_mark n)) flights (frames_at n ((peer_of a.frames n).begun + k))) count
      (laws.fly.begins log flights a.frames n ((peer_of a.frames n).begun + k) within (omega arith) on.fly)

  -- of another
  others : (n k : ℕ) → n < 233 → n ≢ node → OnAir past node c (log ++ replicate k (begins_mark n)) flights (frames_at n ((peer_of a.frames n).begun + k))
  others n zero within apart =
      subst (λ (l : List Mark). OnAir past node c l flights (frames_at n ((peer_of a.frames n).begun + 0))) (sym (append-nil log)) (record {
        air = on.air;
        old = on.old;
        are = on.are;
        fly = subst (λ (l : List Mark). FlyInOrder l flights (frames_at n ((peer_of a.frames n).begun + 0))) (append-nil log) (fly_at n 0 within);
        flying = on.flying;
        flown = on.flown;
        begun = on.begun;
        shown = on.shown;
      })
  others n (suc k) within apart =
      let longer : (log ++ replicate k (begins_mark n)) ++ begins_mark n ∷ [] ≡ log ++ replicate (suc k) (begins_mark n) = append_assoc log (replicate k (begins_mark n)) (begins_mark n ∷ []) ∙ ap (λ l. log ++ l) (sym (repeated k (begins_mark n))) in
      subst (λ (l : List Mark). OnAir past node c l flights (frames_at n ((peer_of a.frames n).begun + suc k))) longer
      (laws.other past node n c (log ++ replicate k (begins_mark n)) flights (frames_at n ((peer_of a.frames n).begun + k)) (frames_at n ((peer_of a.frames n).begun + suc k)) apart (others n k within apart)
      (subst (λ (l : List Mark). FlyInOrder l flights (frames_at n ((peer_of a.frames n).begun + suc k))) (sym longer) (fly_at n (suc k) within)))

  other_begins : (n sessions : ℕ) → n < 233 → n ≢ node → (later : List Mark) × OnAir past node c later flights (air_begins a n sessions).frames
  other_begins n sessions within apart = by (nat_le (peer_of a.frames n).begun sessions) refl
    where
      by : (b : Bool) → nat_le (peer_of a.frames n).begun sessions ≡ b → (later : List Mark) × OnAir past node c later flights (if b then beginning a n sessions else a).frames
      by true e =
          let before : ℕ = (peer_of a.frames n).begun in
          let k : ℕ = sessions - before in
          let up : before + k ≡ sessions = let most : before ≤ sessions = grind (arith, e) in omega (arith, most) in
          (log ++ replicate k (begins_mark n), subst (λ (s : ℕ). OnAir past node c (log ++ replicate k (begins_mark n)) flights (frames_at n s)) up (others n k within apart))
      by false e = (log, on)

  -- of the node
  own_begins : (command sessions : ℕ) → node < 233 → sessions ≡ begun_of c.sessions.host + 1 → OnAir past node (begun c command) (log ++ begins_mark node ∷ []) flights (air_begins a node sessions).frames
  own_begins command sessions within is = by (nat_le (peer_of a.frames node).begun sessions) refl
    where
      count : (peer_of a.frames node).begun ≡ begun_of c.sessions.host
      count = on.fly.history.begun node within ∙ on.begun

      next : (peer_of a.frames node).begun + 1 ≡ sessions
      next = omega (arith, count, is)

      by : (b : Bool) → nat_le (peer_of a.frames node).begun sessions ≡ b → OnAir past node (begun c command) (log ++ begins_mark node ∷ []) flights (if b then beginning a node sessions else a).frames
      by true e = laws.own past node c command log flights a.frames (frames_at node sessions) on (subst (λ (s : ℕ). FlyInOrder (log ++ begins_mark node ∷ []) flights (frames_at node s)) next (fly_at node 1 within))
      by false e = absurd (let more : (peer_of a.frames node).begun ≤ sessions = omega (arith, next) in grind (arith, e, more))

-- ---- the node

none_open : (session : Option ℕ) → session ≡ None → IsSome session → ⊥
none_open None e is = grind (arith, is)
none_open (Some session) e is = cc

-- where no session is open, nothing is left of an attempt
nothing_left : (n : NodeState) → NodeFacts n → open_session n.book ≡ None → (n.text ≡ None) × (n.pending ≡ None)
nothing_left n facts closed = by n.series facts.series
  where
    never : HasAttempts n.book → ⊥
    never has = none_open (open_session n.book) closed has.is_open

    by : (series : Series) → SeriesFacts series n.book n.attempt_wait n.again_wait n.next_segment n.segments n.text n.pending → (n.text ≡ None) × (n.pending ≡ None)
    by Idle is = (is.1.no_text, is.1.no_pending)
    by Due is = absurd (never is.0)
    by Running is = absurd (never is.0)

module _ (air : Beginning) (laws : Writing) (past : Past) (node : ℕ) (c : Courses) (rest : Rest) (up yet down : List Item) (h : HostState) (w : Outside) (facts : HostFacts h) (f : HostFollows past node c rest up yet down h w) (n session command : ℕ)
    (may : May h (Begins n session command)) (course : CourseFacts c.sessions) (keeps : KeepsOutcomes h.commands (after_host h (Begins n session command)).commands) where
  abbrev g : HostState
  g = after_host h (Begins n session command)

  abbrev w' : Outside
  w' = happens_all_outside w (routed (Note (entry.Begin n session command) ∷ []))

  begin_air : (w'.outer.air ≡ air_begins w.outer.air n session) × (w'.devices ≡ w.devices)
  unfolding outcome devices_after
  begin_air = (refl, refl)

  still_told : AreOutcomes g.commands c.sessions.host.commands c.sessions.told
  still_told = outcomes_stay h.commands g.commands c.sessions.host.commands c.sessions.told keeps f.outcomes

  joined : is_joined (mesh_of w').air node ≡ is_joined (mesh_of w).air node
  joined = ap (λ (a : AirState). is_joined a node) begin_air.0 ∙ begins_joined w.outer.air n session node

  other_goes : n ≢ node → HostGoes past node c rest yet down g w'
  other_goes apart =
      let on = other_begins air past node c f.mesh.log f.mesh.flights w.outer.air f.mesh.on_air n session (waits_somewhere h n facts may.1.0) apart in
      let done : HostState = node_does h n node_begins in
      let same : SameHost (lock_course node) h g = same_then (lock_course node) h done g (other_same (lock_course node) h n (after_node (node_of h n) node_begins) apart) (same_host (lock_course node) done g refl refl (outcome_orders h.commands command _) refl refl) in
      let wrote : Wrote past node c f.carried h g [] = quietly laws.thins past node c f.carried f.text f.tasks h f.go_up g (leaves past node c f.text f.tasks h g f.host same (laws.aside node h (Begins n session command) tt)) refl in
      writes_go air.stays laws.thins past node c c rest up yet down h g w (Note (entry.Begin n session command) ∷ []) f (goes_nowhere c) f.go_down wrote
      (mesh_with past wrote.later_past node c c (mesh_of w) (mesh_of w') on.0 f.mesh.flights f.mesh wrote.grows wrote.given (lock_itself c)
      (subst (λ (a : AirState). OnAir wrote.later_past node c on.0 f.mesh.flights a.frames) (sym begin_air.0)
      (air.stays past wrote.later_past node c c on.0 f.mesh.flights (air_begins w.outer.air n session).frames on.1 wrote.grows (air_itself c))) joined begin_air.1)
      still_told tt

  module _ (own : n ≡ node) where
    abbrev base : Courses
    base = begun c command

    abbrev later : Past
    later = with_command past command

    grows : Grows past later
    grows = record { keys = refl; orders = list_same past.orders; commands = record { more = command ∷ []; is = refl }; given = list_same past.given; shown = list_same past.shown }

    within : node < 233
    within = subst (λ (k : ℕ). k < 233) own (waits_somewhere h n facts may.1.0)

    count : session ≡ begun_of c.sessions.host + 1
    count = may.2 ∙ (ap (λ (k : ℕ). begun_of (node_of h k).book + 1) own ∙ ap (λ (cs : List ℕ). length cs + 1) f.host.book.0)

    opened : open_session (node_of h node).book ≡ None
    opened = subst (λ (k : ℕ). open_session (node_of h k).book ≡ None) own may.1.1

    closed : open_session c.sessions.host ≡ None
    closed = sym (open_same (node_of h node).book c.sessions.host f.host.book.0 f.host.book.1) ∙ opened

    now : node_of g node ≡ after_begin (node_of h node)
    now =
        let places = facts.nodes.places in
        ap (λ (k : ℕ). node_of (with_node h k (after_node (node_of h k) node_begins)) node) own ∙ set_here h.nodes node (after_node (node_of h node) node_begins) (unknown 0) (omega (arith, within, places))

    named : command ≡ slice_index (node_of h node).waiting 0
    named = may.3 ∙ ap (λ (k : ℕ). slice_index (node_of h k).waiting 0) own

    none : ((node_of h node).text ≡ None) × ((node_of h node).pending ≡ None)
    none = nothing_left (node_of h node) (facts.nodes.facts node) opened

    on : OnAir later node base (f.mesh.log ++ begins_mark node ∷ []) f.mesh.flights (air_begins w.outer.air n session).frames
    on =
        air.stays past later node base base (f.mesh.log ++ begins_mark node ∷ []) f.mesh.flights (air_begins w.outer.air n session).frames
        (subst (λ (k : ℕ). OnAir past node base (f.mesh.log ++ begins_mark node ∷ []) f.mesh.flights (air_begins w.outer.air k session).frames) (sym own)
        (own_begins air past node c f.mesh.log f.mesh.flights w.outer.air f.mesh.on_air command session within count))
        grows (air_itself base)

    there : AtHost later node base None [] g
    there = record {
      keys = f.host.keys;
      book = (
        ap (λ (s : NodeState). s.book.commands) now ∙ (ap (λ (cs : List ℕ). cs ++ slice_index (node_of h node).waiting 0 ∷ []) f.host.book.0 ∙ ap (λ (k : ℕ). c.sessions.host.commands ++ k ∷ []) (sym named)),
        ap (λ (s : NodeState). s.book.outcome) now,
      );
      commands = ap (λ (cs : List ℕ). cs ++ command ∷ []) f.host.commands;
      orders = f.host.orders ∙ sym (outcome_orders h.commands command _);
      ends = f.host.ends;
      gave = f.host.gave;
      saw = record {
        count = ap (λ (s : NodeState). s.seen) now ∙ f.host.saw.count;
        waiting = λ some. f.host.saw.waiting (ap (λ (s : NodeState). is_some s.pending) (sym now) ∙ some);
      };
      pending = λ plain e. absurd (let bad : None ≡ Some plain = sym none.1 ∙ (ap (λ (s : NodeState). s.pending) (sym now) ∙ e) in grind (arith, bad));
      texts = subst (λ (t : Option (List ℕ)). TextIs later node t None) (sym (ap (λ (s : NodeState). s.text) now ∙ none.0)) tt;
      marks = [];
      queue = subst (λ (q : List Task). Beside (TaskIs later node) q []) (sym may.0.no_task) tt;
      numbers = refl;
    }

    wrote : Wrote past node base f.carried h g []
    wrote = record {
      later_past = later;
      grows = grows;
      given = refl;
      written = [];
      left = None;
      later = [];
      goes = go;
      at = there;
      moves = move_same (Asks later node) h.side.turn h.side.turn [] refl;
    }
      where
        go : CoursesGo base (with_up base (f.carried ++ []) None [])
        go =
            subst (λ (l : List Sent). CoursesGo base (with_up base l None [])) (sym (append-nil f.carried))
            (laws.thins base f.carried f.carried f.text None f.tasks [] (record { messages = f.go_up.messages; sealed = f.go_up.sealed; offers = f.go_up.offers }) (thinned_same f.carried) tt tt)

    own_goes : HostGoes past node c rest yet down g w'
    unfolding wrote
    own_goes =
        writes_go air.stays laws.thins past node c base rest up yet down h g w (Note (entry.Begin n session command) ∷ []) f
        (record { sessions = goes_once c.sessions (begins_step command) closed; node = node_nowhere c.node; host = host_nowhere c.host })
        (record { reports = f.go_down.reports; nonces = f.go_down.nonces; answers = f.go_down.answers }) wrote
        (mesh_with past later node c base (mesh_of w) (mesh_of w') (f.mesh.log ++ begins_mark node ∷ []) f.mesh.flights f.mesh grows refl (record { device = refl; kept = refl; ends = refl; given = refl; is_live = refl; seen = refl; waits = refl })
        (subst (λ (a : AirState). OnAir later node base (f.mesh.log ++ begins_mark node ∷ []) f.mesh.flights a.frames) (sym begin_air.0) on) joined begin_air.1)
        (outcomes_begin g.commands c.sessions.host.commands c.sessions.told command (let all = course.told_are.closed closed in omega (arith, all)) still_told) tt

  pub begin_goes : HostGoes past node c rest yet down g w'
  begin_goes = by (n == node) refl
    where
      by : (b : Bool) → (n == node) ≡ b → HostGoes past node c rest yet down g w'
      by true mine = own_goes (eqb-true n node mine)
      by false other = other_goes (λ own. absurd (grind (arith, other, own)))
