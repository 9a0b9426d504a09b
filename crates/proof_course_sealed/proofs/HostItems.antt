-- The host judges items, one after another, in the courses of a lock.
use Rattle.std.proofs.Common.{◌≡◌, ℕ, ◌+◌, ◌<◌, ◌⊎◌, inl, inr, Bool, true, false, Option, Some, None, List, [], ◌∷◌, ◌++◌, length, refl, ap, sym, ◌∙◌, subst, append-nil, arith}
use Rattle.std.specs.Prelude.{IsSome}
use Rattle.std.specs.Option.{option_to_list}
use Rattle.supervision.specs.Session.{wire_id}
use Rattle.supervision.specs.Host.{open_session, told_of, command_at as command_of_session}
use Rattle.supervision.specs.Ends.{Report}
use Rattle.supervision.specs.declared.host_node.Told.TheVariants.{Final}
use Rattle.proof_course.specs.Sessions.{Course, Judges, judges}
use Rattle.proof_course.specs.SessionFacts.{CourseFacts}
use Rattle.proof_course.specs.HostNonces as host
use Rattle.proof_course.specs.HostNonceFacts.{NonceFacts as HostFacts}
use Rattle.proof_course.specs.NonceLaws.{NamesGiven}
use Rattle.serial_frame.specs.Stream.{Rest}
use Rattle.serial_frame.specs.declared.item.Item.{Item}
use Rattle.outside_model.specs.State.{Outside}
use Rattle.outside_model.specs.Did.{happens_all as happens_all_outside}
use Rattle.world_model.specs.State.{routed}
use Rattle.zw_text.specs.declared.entry.Entry.TheVariants.{Out}
use Rattle.s0_session.specs.Nonces.{account_of, live_of, nonce_given}
use Rattle.host_keep.specs.declared.final_status.FinalStatus.{FinalStatus}
use Rattle.host_keep.specs.Status.{status_byte}
use Rattle.host_node.specs.State.{NodeState, unknown}
use Rattle.host_node.specs.Steps.{with_final, after_hold}
use Rattle.host_node.specs.Events.{after as after_node}
use Rattle.host_node.specs.Events.NodeEvent.{Reports as node_reports}
use Rattle.host_model.specs.State.{HostState, Command as TheCommand, node_of, with_outcome, command_at}
use Rattle.host_model.specs.Facts.{IsCommandOf}
use Rattle.host_model.specs.Sessions.{settings_with}
use Rattle.host_model.specs.declared.out.HostOut.{HostOut}
use Rattle.host_model.specs.After.{after as after_host, finishing, holding, giving, offering, is_held, outcome_of}
use Rattle.host_model.specs.Did.{after_all, outs_all, MayAll}
use Rattle.host_model.specs.Outs.{outs, ended_of, stored_entries, held_entries}
use Rattle.host_model.specs.May.{May}
use Rattle.host_model.specs.Taking.{IsFollowed, IsJudged, AreJudged}
use Rattle.host_model.specs.Events.{HostEvent, Hears, Finishes, Offers, Gives, Spends, Takes_nonce}
use Rattle.proof_course_plain.specs.proof_host.Tables.{outcome_in}
use Rattle.proof_course_plain.specs.Tied.{AreOutcomes}
use Rattle.proof_course_plain.specs.Ways.{Thinned, Goes}
use Rattle.proof_course_plain.specs.Lines.{OnWay}
use Rattle.proof_course_plain.specs.Told.{HasPast}
use Rattle.proof_course_plain.specs.HostGoing.{AllWell}
use Rattle.proof_course_plain.proofs.ThinnedWays.{goes_on as sessions_on, goes_once, down_thins}
use Rattle.proof_course_plain.proofs.WayLabels.{first_label, thinned_same, thinned_after, thinned_both}
use Rattle.proof_course_plain.proofs.KeptHosts.{get_set, holding_same, outcome_orders}
use Rattle.proof_course_plain.proofs.HostActs.{set_here}
use Rattle.proof_course_plain.proofs.HostEntries.{event_begins_none}
use Rattle.proof_course_plain.proofs.HostEvents.{noted_none, open_is, owned}
use Rattle.host_model.proofs.EventLists.{after_all-append, outs_all-append}
use Rattle.proof_course_plain.proofs.HostItems.{routed_then, well_prefix, told_same, judged_final, final_node}
use Rattle.proof_course_plain.proofs.HostJudgements.{Bytes}
use Rattle.host_model.proofs.OpenSessions.{final_session}
use Rattle.proof_course_plain.proofs.TieSteps.{told_more}
use Rattle.proof_course_plain.proofs.Commands.{outcome_same}
use Rattle.proof_course_plain.proofs.Effects.{held_commands}
use Rattle.proof_course_plain.proofs.Told.{PastLaws, past_kept, outcomes_kept, outcomes_stay}
use Rattle.proof_course_sealed.specs.Labels.{Said, Late, Reports, Shows, picked, sealed_for, report_of, shown_by, answers_for}
use Rattle.proof_course_sealed.specs.Courses.{Courses, NodeGoes, HostGoes as NoncesGo, CoursesGo, CoursesFacts}
use Rattle.proof_course_sealed.specs.Meaning.{Past}
use Rattle.proof_course_sealed.specs.Lines.{Tells}
use Rattle.proof_course_sealed.specs.Host.{AtHost}
use Rattle.proof_course_sealed.specs.HostGoing.{HostFollows, HostGoes}
use Rattle.proof_course_sealed.proofs.ThinnedWays.{node_on, node_up, host_on}
use Rattle.proof_course_sealed.proofs.CourseSteps.{FactLaws, facts_go, goes_nowhere, grows_none, list_same}
use Rattle.proof_course_sealed.proofs.KeptBooks.{lock_course}
use Rattle.proof_course_sealed.proofs.HostActs.{none_some}
use Rattle.proof_course_sealed.proofs.HostSteps.{OneGoes, AreAside, goes_then, asides_go}
use Rattle.proof_course_sealed.proofs.HostJudgements.{Opens, JudgesNext, MarkJudges, SaidDoes, MarkDoes, IsGiving, IsEnding, item_does}
use Rattle.proof_course_sealed.proofs.HostNonces.{Laws as NonceLaws, Books, judged, NodeAt, silent, sessions_down, node_has_down, host_has_down, drops, takes, report_first, spent, node_left, host_left, spends, offers, gives, given_to}

-- the laws that are used
pub record Laws : Type 0 where
  pub does : OneGoes
  pub facts : FactLaws
  pub past : PastLaws
  pub nonces : NonceLaws
  pub opens : Opens
  pub bytes : Bytes 0
  pub names : (c : host.Nonces) (number : ℕ) (later : List ℕ) → HostFacts c → c.down ≡ number ∷ later → NamesGiven c number

-- ---- a report ends the last session

judges_last : (c : Course) (report : Report) (now : List Report) (session : ℕ) → c.down ≡ report ∷ now → told_of c.host (wire_id report.session) report.status ≡ Final session
    → Goes c (record c { host = record c.host { outcome = Some report.status }; down = now; told = c.told ++ report.status ∷ [] })
judges_last c report now session are told = subst (λ (x : Course). Goes c x) (ap (λ (l : List Report). judges c l) are ∙ judged_final c report now session told) (goes_once c Judges tt)

-- a node that is held awake, as the courses have it
hold_at : (past : Past) (node : ℕ) (c : Courses) (text : Option ℕ) (n : NodeState) → NodeAt past node c text n → NodeAt past node c text (after_hold n)
hold_at past node c text n at = record { book = at.book; saw = at.saw; pending = at.pending; texts = at.texts }

holding_at : (past : Past) (node : ℕ) (c : Courses) (text : Option ℕ) (h : HostState) (held : Bool) → NodeAt past node c text (node_of h node) → NodeAt past node c text (node_of (holding h node held) node)
holding_at past node c text h false at = at
holding_at past node c text h true at = get_set (NodeAt past node c text) h.nodes node node (after_hold (node_of h node)) (unknown 0) at (λ e. hold_at past node c text (node_of h node) at)

-- and the rest of the host
holding_host : (past : Past) (node : ℕ) (c : Courses) (text : Option ℕ) (tasks : List ℕ) (h : HostState) (held : Bool) → AtHost past node c text tasks h → AtHost past node c text tasks (holding h node held)
holding_host past node c text tasks h false at = at
holding_host past node c text tasks h true at =
    let n : NodeAt past node c text (node_of (holding h node true) node) = holding_at past node c text h true (record { book = at.book; saw = at.saw; pending = at.pending; texts = at.texts }) in
    record {
      keys = at.keys;
      book = n.book;
      commands = at.commands;
      orders = at.orders;
      ends = at.ends;
      gave = at.gave;
      saw = n.saw;
      pending = n.pending;
      texts = n.texts;
      marks = at.marks;
      queue = at.queue;
      numbers = at.numbers;
    }

module _ (laws : Laws) (past : Past) (node : ℕ) (c : Courses) (rest : Rest) (up yet down : List Item) (h : HostState) (w : Outside) (f : HostFollows past node c rest up yet down h w) (facts : HasPast h) (course : CourseFacts c.sessions) (within : node < 233)
    (reported session command : ℕ) (status : FinalStatus) (wake_request : Bool) (may : May h (Finishes node session (wire_id reported) command status wake_request)) where
  abbrev event : HostEvent
  event = Finishes node session (wire_id reported) command status wake_request

  abbrev done : HostState
  done = finishing h node (wire_id reported) command status

  abbrev g : HostState
  g = after_host h event

  abbrev ended : Books
  ended = record {
    outcome = Some (status_byte status);
    told = c.sessions.told ++ status_byte status ∷ [];
    seen = c.node.seen;
    waits = c.node.waits;
    given = c.host.given;
    is_live = c.host.is_live;
    sealed = picked sealed_for f.carried ++ [];
    offers = c.host.up;
    now = f.late;
  }

  pub told_is : told_of c.sessions.host (wire_id reported) (status_byte status) ≡ Final session
  told_is = sym (told_same (node_of h node).book c.sessions.host (wire_id reported) (status_byte status) f.host.book.0 f.host.book.1) ∙ may.told

  node_is : node_of done node ≡ with_final (node_of h node) (status_byte status)
  node_is =
      set_here h.nodes node (after_node (node_of h node) (node_reports (wire_id reported) (status_byte status))) (unknown 0) (let places = facts.facts.host.nodes.places in omega (arith, places, within))
      ∙ final_node (node_of h node) (wire_id reported) (status_byte status) session may.told

  node_at : NodeAt past node (judged c ended) None (node_of done node)
  node_at = subst (NodeAt past node (judged c ended) None) (sym node_is) (record {
    book = (f.host.book.0, refl);
    saw = record { count = f.host.saw.count; waiting = λ none. absurd (grind (arith, none)) };
    pending = λ plain none. absurd (none_some plain none);
    texts = tt;
  })

  done_at : AtHost past node (judged c ended) None f.tasks done
  done_at = record {
    keys = f.host.keys;
    book = node_at.book;
    commands = f.host.commands;
    orders = f.host.orders ∙ sym (outcome_orders h.commands command (outcome_of status));
    ends = f.host.ends;
    gave = f.host.gave;
    saw = node_at.saw;
    pending = node_at.pending;
    texts = node_at.texts;
    marks = f.host.marks;
    queue = f.host.queue;
    numbers = f.host.numbers;
  }

  side : g.side ≡ h.side
  side = (holding_same (lock_course node) done node (is_held h node wake_request)).side

  -- its command has the outcome of that status
  ended_commands : g.commands ≡ with_outcome h.commands command (outcome_of status)
  ended_commands = held_commands done node (is_held h node wake_request)

  next_session : session ≡ length c.sessions.told + 1
  next_session =
      let opened : open_session c.sessions.host ≡ Some session = final_session c.sessions.host (wire_id reported) (status_byte status) session told_is in
      let count = course.told_are.opened session opened in
      let last = (open_is c.sessions.host session opened).0 in omega (arith, count, last)

  next_command : command_of_session c.sessions.host.commands (length c.sessions.told + 1) ≡ Some command
  next_command =
      subst (λ (k : ℕ). command_of_session c.sessions.host.commands k ≡ Some command) next_session (subst (λ (cs : List ℕ). command_of_session cs session ≡ Some command) f.host.book.0 may.carried)

  ended_outcome : outcome_in g.commands command ≡ outcome_of status
  ended_outcome =
      let own : IsCommandOf h.commands node command = owned h.commands node (node_of h node).book.commands session command (facts.facts.host.owns node).sessions may.carried in
      subst (λ (cs : List TheCommand). outcome_in cs command ≡ outcome_of status) (sym ended_commands) (outcome_same h.commands command (outcome_of status) own.command own.found)

  told_outcomes : AreOutcomes g.commands c.sessions.host.commands (c.sessions.told ++ status_byte status ∷ [])
  told_outcomes =
      told_more g.commands c.sessions.host.commands c.sessions.told command status
      (outcomes_stay h.commands g.commands c.sessions.host.commands c.sessions.told (outcomes_kept laws.past h event facts may) f.outcomes) next_command ended_outcome

  pub ends : HostFollows past node (judged c ended) rest up yet down g (happens_all_outside w (routed (outs h event)))
  ends =
      silent laws.nonces.stays past node c rest up yet yet down h g w (outs h event) f ended past.shown None f.tasks
      (record { begins = event_begins_none h event tt; units = noted_none (Out command (ended_of status) ∷ (stored_entries node (settings_with status (command_at h.commands command)) ++ held_entries node (is_held h node wake_request))) })
      side (list_same past.shown) refl f.go_up.offers f.reports (holding_host past node (judged c ended) None f.tasks done (is_held h node wake_request) done_at) told_outcomes

  -- what waited sealed is given up
  pub ended_node : NodeGoes c.node (judged c ended).node
  ended_node =
      let left : List ℕ = picked sealed_for f.carried ++ [] in
      let thin : Thinned c.node.up left = subst (λ (l : List ℕ). Thinned l left) (sym f.go_up.sealed) (thinned_both (picked sealed_for f.carried) (picked sealed_for f.carried) (option_to_list f.text) [] (thinned_same (picked sealed_for f.carried)) tt) in
      node_on c.node (record c.node { up = left }) (judged c ended).node (node_up c.node left thin) (node_has_down (record c.node { up = left }) (picked (λ (late : Late). shown_by late.said) f.late) f.go_down.nonces)

  pub ended_host : NoncesGo c.host (judged c ended).host
  ended_host = host_has_down c.host (picked (λ (late : Late). answers_for late.said) f.late) f.go_down.answers

-- ---- what follows an item

-- the host judges this label next
said_next : Laws → (c : host.Nonces) (said : Said) (begun : ℕ) (late now : List Late) → HostFacts c → late ≡ record { said = said; begun = begun } ∷ now → c.down ≡ picked (λ (late : Late). answers_for late.said) late → JudgesNext c said
said_next laws c (Reports session status number) begun late now facts are down =
    laws.names c number (picked (λ (late : Late). answers_for late.said) now) facts (down ∙ ap (picked (λ (late : Late). answers_for late.said)) are)
said_next laws c (Shows number) begun late now facts are down = tt

mark_next : Laws → (c : host.Nonces) (mark : Option Late) (late now : List Late) → HostFacts c → late ≡ option_to_list mark ++ now → c.down ≡ picked (λ (late : Late). answers_for late.said) late → MarkJudges c mark
mark_next laws c None late now facts are down = tt
mark_next laws c (Some first) late now facts are down = said_next laws c first.said first.begun late now facts are down

some_live : (o : Option (List ℕ)) → IsSome o → (nonce : List ℕ) × (o ≡ Some nonce)
some_live None is = absurd (grind (arith, is))
some_live (Some nonce) is = (nonce, refl)

module _ (laws : Laws) (node : ℕ) (rest : Rest) (yet down : List Item) (within : node < 233) where
  abbrev Gone : Past → Courses → HostState → Outside → List HostEvent → Type 0
  Gone past c h w events = HostGoes past node c rest yet down (after_all h events) (happens_all_outside w (routed (outs_all h events)))

  -- one event
  one_gone : (past : Past) (c : Courses) (h : HostState) (w : Outside) (event : HostEvent) (events : List HostEvent) → events ≡ event ∷ [] → HostGoes past node c rest yet down (after_host h event) (happens_all_outside w (routed (outs h event))) → Gone past c h w events
  one_gone past c h w event events are goes =
      subst (λ (es : List HostEvent). Gone past c h w es) (sym are)
      (subst (λ (os : List HostOut). HostGoes past node c rest yet down (after_host h event) (happens_all_outside w (routed os))) (sym (append-nil (outs h event))) goes)

  asides_gone : (past : Past) (c : Courses) (up : List Item) (h : HostState) (w : Outside) (events : List HostEvent) → HostFollows past node c rest up yet down h w → HasPast h → CoursesFacts c → AllWell h events → AreAside node events → Gone past c h w events
  asides_gone past c up h w events f facts course well aside = asides_go laws.does laws.past (facts_go laws.facts) past node c rest up yet down h w events within f facts course well aside

  -- the node asks for a nonce
  gives_gone : (past : Past) (c : Courses) (up : List Item) (h : HostState) (w : Outside) (events : List HostEvent) → HostFollows past node c rest up yet down h w → HasPast h → AllWell h events → IsGiving node events → Gone past c h w events
  gives_gone past c up h w events f facts well (inl are) =
      let may = (subst (λ (es : List HostEvent). AllWell h es) are well).may.0 in
      let live = some_live (live_of h.nonces node) may in
      one_gone past c h w (Offers node) events are
      (subst (λ (o : Option (List ℕ)). HostGoes past node c rest yet down (offering h node o) (happens_all_outside w (routed (outs h (Offers node))))) (sym live.1) (offers laws.nonces past node c rest up yet down h w f live.0 live.1))
  gives_gone past c up h w events f facts well (inr (drawn, eight, are)) =
      let k : HostState = giving h node drawn in
      let first : HostGoes past node c rest yet down k w = gives laws.nonces past node c rest up yet down h w f drawn eight facts within in
      let live : live_of k.nonces node ≡ Some (nonce_given (account_of h.nonces node) drawn) = ap (λ a. a.live) (given_to laws.nonces past node c rest up yet down h w f drawn eight facts within) in
      one_gone past c h w (Gives node drawn) events are
      (subst (λ (o : Option (List ℕ)). HostGoes past node c rest yet down (offering k node o) (happens_all_outside w (routed (outs h (Gives node drawn))))) (sym live)
      (goes_then past node c rest yet yet down k (offering k node (Some (nonce_given (account_of h.nonces node) drawn))) w (happens_all_outside w (routed (outs h (Gives node drawn)))) first
      (offers laws.nonces first.later_past node first.later rest first.up yet down k w first.follows (nonce_given (account_of h.nonces node) drawn) live)))

  -- a sealed report is opened
  module _ (past : Past) (c : Courses) (up : List Item) (item : Item) (h : HostState) (w : Outside) (f : HostFollows past node c rest up (item ∷ yet) down h w) (facts : HasPast h) (course : CoursesFacts c) (now : List Late)
      (on : OnWay (Tells past node) now (yet ++ down) w.outer.chip.state.port.side.turn w.outer.chip.state.port.waiting) (session status number begun : ℕ) (are : f.late ≡ record { said = Reports session status number; begun = begun } ∷ now) where
    module _ (named : host.names c.host number ≡ true) where
      abbrev d : Courses
      d = judged c (spent laws.nonces past node c rest up (item ∷ yet) yet down h w f facts course within now on session status number begun are named)

      follows : HostFollows past node d rest up yet down (after_host h (Spends node)) w
      follows = spends laws.nonces past node c rest up (item ∷ yet) yet down h w f facts course within now on session status number begun are named

      down_is : c.sessions.down ≡ record { session = session; status = status; begun = begun } ∷ picked report_of now
      down_is = report_first laws.nonces past node c rest up (item ∷ yet) yet down h w f facts course within now on session status number begun are named

      of_node : NodeGoes c.node d.node
      of_node = node_left laws.nonces past node c rest up (item ∷ yet) yet down h w f facts course within now on session status number begun are named

      of_host : NoncesGo c.host d.host
      of_host = host_left laws.nonces past node c rest up (item ∷ yet) yet down h w f facts course within now on session status number begun are named

      -- the report is nothing to a session
      lost : CoursesGo c d
      lost = record {
        sessions = down_thins c.sessions (picked report_of now)
            (subst (λ (l : List Report). Thinned l (picked report_of now)) (sym down_is) (thinned_after (record { session = session; status = status; begun = begun } ∷ []) (picked report_of now) (picked report_of now) (thinned_same (picked report_of now))));
        node = of_node;
        host = of_host;
      }

      spends_gone : (events : List HostEvent) → AllWell h (Spends node ∷ events) → AreAside node events ⊎ IsEnding node session status events → Gone past c h w (Spends node ∷ events)
      spends_gone events well (inl aside) =
          let k : HostState = after_host h (Spends node) in
          goes_then past node c rest yet yet down k (after_all k events) w (happens_all_outside w (routed (outs_all k events)))
          (record { later_past = past; later = d; grows = grows_none past; goes = lost; up = up; follows = follows })
          (asides_gone past d up k w events follows (past_kept laws.past h (Spends node) facts well.may.0) (facts_go laws.facts c d course lost) (record { may = well.may.1; units = well.units.1 }) aside)
      spends_gone events well (inr is) =
          let k : HostState = after_host h (Spends node) in
          let finish : HostEvent = Finishes node is.session (wire_id session) is.command is.status is.wake_request in
          let kept : HasPast k = past_kept laws.past h (Spends node) facts well.may.0 in
          let more : AllWell k (finish ∷ []) = subst (λ (es : List HostEvent). AllWell k es) is.are (record { may = well.may.1; units = well.units.1 }) in
          let held : CoursesFacts d = facts_go laws.facts c d course lost in
          let told : told_of c.sessions.host (wire_id session) status ≡ Final is.session =
          ap (λ (s : ℕ). told_of c.sessions.host (wire_id session) s) is.status_is ∙ told_is laws past node d rest up yet down k w follows kept held.sessions within session is.session is.command is.status is.wake_request more.may.0 in
          let later : Courses = judged d (ended laws past node d rest up yet down k w follows kept held.sessions within session is.session is.command is.status is.wake_request more.may.0) in
          let first : Goes c.sessions (record c.sessions { host = record c.sessions.host { outcome = Some status }; down = picked report_of now; told = c.sessions.told ++ status ∷ [] }) =
          judges_last c.sessions (record { session = session; status = status; begun = begun }) (picked report_of now) is.session down_is told in
          let named_so : Goes c.sessions (record c.sessions { host = record c.sessions.host { outcome = Some (status_byte is.status) }; down = picked report_of now; told = c.sessions.told ++ status_byte is.status ∷ [] }) =
          subst (λ (s : ℕ). Goes c.sessions (record c.sessions { host = record c.sessions.host { outcome = Some s }; down = picked report_of now; told = c.sessions.told ++ s ∷ [] })) is.status_is first in
          one_gone past c k w finish events is.are (record {
            later_past = past;
            later = later;
            grows = grows_none past;
            goes = record {
              sessions = sessions_on c.sessions (record later.sessions { down = picked report_of now }) later.sessions named_so (sessions_down (record later.sessions { down = picked report_of now }) (picked report_of follows.late) follows.go_down.reports);
              node = node_on c.node d.node later.node of_node (ended_node laws past node d rest up yet down k w follows kept held.sessions within session is.session is.command is.status is.wake_request more.may.0);
              host = host_on c.host d.host later.host of_host (ended_host laws past node d rest up yet down k w follows kept held.sessions within session is.session is.command is.status is.wake_request more.may.0);
            };
            up = up;
            follows = ends laws past node d rest up yet down k w follows kept held.sessions within session is.session is.command is.status is.wake_request more.may.0;
          })

  -- what a label lets the host make of its item
  said_gone : (past : Past) (c : Courses) (up : List Item) (item : Item) (h : HostState) (w : Outside) (f : HostFollows past node c rest up (item ∷ yet) down h w) → HasPast h → CoursesFacts c → (said : Said) (begun : ℕ) (now : List Late)
      → f.late ≡ record { said = said; begun = begun } ∷ now → OnWay (Tells past node) now (yet ++ down) w.outer.chip.state.port.side.turn w.outer.chip.state.port.waiting → (events : List HostEvent) → AllWell h events
      → SaidDoes past node c.host h said events → Gone past c h w events
  said_gone past c up item h w f facts course (Shows number) begun now are on events well is =
      let may : May h (Takes_nonce node is.seen is.text) = (subst (λ (es : List HostEvent). AllWell h es) is.are well).may.0 in
      one_gone past c h w (Takes_nonce node is.seen is.text) events is.are (takes laws.nonces past node c rest up (item ∷ yet) yet down h w f facts course within now on number begun are events is may)
  said_gone past c up item h w f facts course (Reports session status number) begun now are on events well is =
      subst (λ (es : List HostEvent). Gone past c h w es) (sym is.are)
      (spends_gone past c up item h w f facts course now on session status number begun are is.named is.rest (subst (λ (es : List HostEvent). AllWell h es) is.are well) is.then)

  -- the label of an item is lost
  item_lost : (past : Past) (c : Courses) (up : List Item) (item : Item) (h : HostState) (w : Outside) (f : HostFollows past node c rest up (item ∷ yet) down h w) (mark : Option Late) (now : List Late) → f.late ≡ option_to_list mark ++ now
      → OnWay (Tells past node) now (yet ++ down) w.outer.chip.state.port.side.turn w.outer.chip.state.port.waiting → HostGoes past node c rest yet down h w
  item_lost past c up item h w f mark now are on =
      drops laws.nonces past node c rest up (item ∷ yet) yet down h w f now (subst (λ (l : List Late). Thinned l now) (sym are) (thinned_after (option_to_list mark) now now (thinned_same now))) on

  mark_gone : (past : Past) (c : Courses) (up : List Item) (item : Item) (h : HostState) (w : Outside) (f : HostFollows past node c rest up (item ∷ yet) down h w) → HasPast h → CoursesFacts c → (mark : Option Late) (now : List Late)
      → f.late ≡ option_to_list mark ++ now → OnWay (Tells past node) now (yet ++ down) w.outer.chip.state.port.side.turn w.outer.chip.state.port.waiting → (events : List HostEvent) → AllWell h events
      → AreAside node events ⊎ MarkDoes past node c.host h mark events → Gone past c h w events
  mark_gone past c up item h w f facts course mark now are on events well (inl aside) =
      let lost : HostGoes past node c rest yet down h w = item_lost past c up item h w f mark now are on in
      goes_then past node c rest yet yet down h (after_all h events) w (happens_all_outside w (routed (outs_all h events))) lost
      (asides_gone lost.later_past lost.later lost.up h w events lost.follows facts (facts_go laws.facts c lost.later course lost.goes) well aside)
  mark_gone past c up item h w f facts course None now are on events well (inr is) =
      let lost : HostGoes past node c rest yet down h w = item_lost past c up item h w f None now are on in
      goes_then past node c rest yet yet down h (after_all h events) w (happens_all_outside w (routed (outs_all h events))) lost (gives_gone lost.later_past lost.later lost.up h w events lost.follows facts well is)
  mark_gone past c up item h w f facts course (Some late) now are on events well (inr is) = said_gone past c up item h w f facts course late.said late.begun now are on events well is

-- ---- an item

-- the host heard an item, and this is what it makes of it, by its label
pub record IsHeard (past : Past) (node : ℕ) (c : Courses) (rest : Rest) (yet down : List Item) (item : Item) (h : HostState) (w : Outside) (events : List HostEvent) : Type 0 where
  pub goes : HostGoes past node c rest (item ∷ yet) down h w
  pub facts : HasPast h
  pub course : CoursesFacts goes.later
  pub mark : Option Late
  pub now : List Late
  pub are : goes.follows.late ≡ option_to_list mark ++ now
  pub on : OnWay (Tells goes.later_past node) now (yet ++ down) w.outer.chip.state.port.side.turn w.outer.chip.state.port.waiting
  pub does : AreAside node events ⊎ MarkDoes goes.later_past node goes.later.host h mark events

module _ (laws : Laws) (node : ℕ) (within : node < 233) (rest : Rest) (down : List Item) where
  pub hears : (past : Past) (c : Courses) (up yet : List Item) (h : HostState) (w : Outside) (item : Item) (events : List HostEvent) → HostFollows past node c rest up (item ∷ yet) down h w → HasPast h → CoursesFacts c → AllWell h (Hears item ∷ events)
      → IsFollowed (after_host h (Hears item)) h.side.turn item events → IsHeard past node c rest yet down item (after_host h (Hears item)) (happens_all_outside w (routed (outs h (Hears item)))) events
  hears past c up yet h w item events f facts course well followed =
      let k : HostState = after_host h (Hears item) in
      let v : Outside = happens_all_outside w (routed (outs h (Hears item))) in
      let one : HostGoes past node c rest (item ∷ yet) down k v = laws.does past node c rest up (item ∷ yet) down h w (Hears item) within f facts course well.may.0 tt tt well.units.0 in
      let held : CoursesFacts one.later = facts_go laws.facts c one.later course one.goes in
      let label = first_label (Tells one.later_past node) one.follows.late item (yet ++ down) v.outer.chip.state.port.side.turn v.outer.chip.state.port.waiting one.follows.reports in
      record {
        goes = one;
        facts = past_kept laws.past h (Hears item) facts well.may.0;
        course = held;
        mark = label.0;
        now = label.1.1.0;
        are = label.1.1.1.0;
        on = label.1.1.1.1;
        does = item_does laws.opens laws.bytes one.later_past node one.later.host k one.follows.host.keys one.follows.host.gave h.side.turn item label.0 events
            (mark_next laws one.later.host label.0 one.follows.late label.1.1.0 held.host label.1.1.1.0 one.follows.go_down.answers) label.1.0 followed;
      }

  pub judge_item : (past : Past) (c : Courses) (up yet : List Item) (h : HostState) (w : Outside) (item : Item) (events : List HostEvent) → HostFollows past node c rest up (item ∷ yet) down h w → HasPast h → CoursesFacts c → AllWell h events
      → IsJudged h item events → HostGoes past node c rest yet down (after_all h events) (happens_all_outside w (routed (outs_all h events)))
  judge_item past c up yet h w item events f facts course well (later, are, followed) =
      subst (λ (es : List HostEvent). HostGoes past node c rest yet down (after_all h es) (happens_all_outside w (routed (outs_all h es)))) (sym are)
      (by (subst (λ (es : List HostEvent). AllWell h es) are well))
    where
      by : AllWell h (Hears item ∷ later)
          → HostGoes past node c rest yet down (after_all (after_host h (Hears item)) later) (happens_all_outside w (routed (outs h (Hears item) ++ outs_all (after_host h (Hears item)) later)))
      by these =
          let k : HostState = after_host h (Hears item) in
          let v : Outside = happens_all_outside w (routed (outs h (Hears item))) in
          let is : IsHeard past node c rest yet down item k v later = hears past c up yet h w item later f facts course these followed in
          subst (λ (u : Outside). HostGoes past node c rest yet down (after_all k later) u) (sym (routed_then w (outs h (Hears item)) (outs_all k later)))
          (goes_then past node c rest (item ∷ yet) yet down k (after_all k later) v (happens_all_outside v (routed (outs_all k later))) is.goes
          (mark_gone laws node rest yet down within is.goes.later_past is.goes.later is.goes.up item k v is.goes.follows is.facts is.course is.mark is.now is.are is.on later (record { may = these.may.1; units = these.units.1 }) is.does))

-- ---- items one after another

pub facts_then : PastLaws → (h : HostState) (events : List HostEvent) → HasPast h → MayAll h events → HasPast (after_all h events)
facts_then laws h [] facts may = facts
facts_then laws h (event ∷ events) facts may = facts_then laws (after_host h event) events (past_kept laws h event facts may.0) may.1

module _ (laws : Laws) (node : ℕ) (within : node < 233) (rest : Rest) (down : List Item) where
  pub judge_items : (past : Past) (c : Courses) (up : List Item) (h : HostState) (w : Outside) (items : List Item) (events : List HostEvent) → HostFollows past node c rest up items down h w → HasPast h → CoursesFacts c → AllWell h events
      → AreJudged h items events → HostGoes past node c rest [] down (after_all h events) (happens_all_outside w (routed (outs_all h events)))
  judge_items past c up h w [] events f facts course well none =
      subst (λ (es : List HostEvent). HostGoes past node c rest [] down (after_all h es) (happens_all_outside w (routed (outs_all h es)))) (sym none) (record { later_past = past; later = c; grows = grows_none past; goes = goes_nowhere c; up = up; follows = f })
  judge_items past c up h w (item ∷ items) events f facts course well (first, later, are, one, more) =
      let both = well_prefix h first later (subst (λ (es : List HostEvent). AllWell h es) are well) in
      let k : HostState = after_all h first in
      let v : Outside = happens_all_outside w (routed (outs_all h first)) in
      let g : HostGoes past node c rest items down k v = judge_item laws node within rest down past c up items h w item first f facts course both.0 one in
      let rest_goes : HostGoes g.later_past node g.later rest [] down (after_all k later) (happens_all_outside v (routed (outs_all k later))) =
      judge_items g.later_past g.later g.up k v items later g.follows (facts_then laws.past h first facts both.0.may) (facts_go laws.facts c g.later course g.goes) both.1 more in
      let all : HostGoes past node c rest [] down (after_all k later) (happens_all_outside v (routed (outs_all k later))) =
      goes_then past node c rest items [] down k (after_all k later) v (happens_all_outside v (routed (outs_all k later))) g rest_goes in
      subst (λ (es : List HostEvent). HostGoes past node c rest [] down (after_all h es) (happens_all_outside w (routed (outs_all h es)))) (sym are)
      (subst (λ (x : HostState). HostGoes past node c rest [] down x (happens_all_outside w (routed (outs_all h (first ++ later))))) (sym (after_all-append h first later))
      (subst (λ (os : List HostOut). HostGoes past node c rest [] down (after_all k later) (happens_all_outside w (routed os))) (sym (outs_all-append h first later))
      (subst (λ (u : Outside). HostGoes past node c rest [] down (after_all k later) u) (sym (routed_then w (outs_all h first) (outs_all k later))) all)))
