-- Each success that the host is told of a lock is what the lock did: the items that it judges, one after another.
use Rattle.std.proofs.Common.{◌≡◌, ℕ, ◌<◌, ◌⊎◌, inl, inr, Bool, Option, Some, None, List, [], ◌∷◌, ◌++◌, ap, sym, ◌∙◌, subst}
use Rattle.std.specs.List.{AllByRecursion}
use Rattle.std.specs.Option.{option_to_list}
use Rattle.supervision.specs.Session.{wire_id}
use Rattle.supervision.specs.Host.{told_of, command_at as session_at}
use Rattle.supervision.specs.Ends.{Report}
use Rattle.supervision.specs.declared.host_node.Told.TheVariants.{Final}
use Rattle.supervision.specs.declared.session.TheConstants.{SUCCESS}
use Rattle.proof_course.specs.SessionFacts.{CourseFacts, IsOnTime}
use Rattle.serial_frame.specs.Stream.{Rest}
use Rattle.serial_frame.specs.declared.item.Item.{Item}
use Rattle.device_sim.specs.State.{State}
use Rattle.outside_model.specs.State.{Outside}
use Rattle.outside_model.specs.Did.{happens_all as happens_all_outside}
use Rattle.world_model.specs.State.{routed}
use Rattle.host_keep.specs.declared.final_status.FinalStatus.{FinalStatus}
use Rattle.host_keep.specs.declared.final_status.FinalStatus.TheVariants as final
use Rattle.host_keep.specs.Status.{status_byte}
use Rattle.host_model.specs.State.{HostState, node_of}
use Rattle.host_model.specs.After.{after as after_host}
use Rattle.host_model.specs.Did.{after_all, outs_all}
use Rattle.host_model.specs.Outs.{outs}
use Rattle.host_model.specs.May.{May}
use Rattle.host_model.specs.Taking.{IsJudged, AreJudged}
use Rattle.host_model.specs.Events.{HostEvent, Hears, Finishes, Spends}
use Rattle.proof_course_plain.specs.Tied.{MakesWhatIsTaken}
use Rattle.proof_course_plain.specs.Truly.{IsDoneBy, TellsTruly, TellTruly}
use Rattle.proof_course_plain.specs.Meaning.{Asked}
use Rattle.proof_course_plain.specs.Making.{MakesAsked}
use Rattle.proof_course_plain.specs.Told.{HasPast}
use Rattle.proof_course_plain.specs.HostGoing.{EndsNone, AllWell}
use Rattle.proof_course_plain.proofs.HostItems.{well_prefix, told_same}
use Rattle.proof_course_plain.proofs.Taken.{changes_taken}
use Rattle.proof_course_plain.proofs.ChangesOutside.{place_is}
use Rattle.world_model.proofs.Hosting.{routed_still}
use Rattle.proof_course_plain.proofs.TrueSuccesses.{Judged, got_has, none_true, true-append, final_works}
use Rattle.proof_course_sealed.specs.Labels.{Said, Late, Reports, Shows, picked, report_of}
use Rattle.proof_course_sealed.specs.Courses.{Courses, CoursesFacts}
use Rattle.proof_course_sealed.specs.Meaning.{Past}
use Rattle.proof_course_sealed.specs.HostGoing.{HostFollows, HostGoes, IsUnheard}
use Rattle.proof_course_sealed.proofs.CourseSteps.{facts_go}
use Rattle.proof_course_sealed.proofs.HostSteps.{AreAside}
use Rattle.proof_course_sealed.proofs.HostJudgements.{SaidDoes, MarkDoes, IsEnding}
use Rattle.proof_course_sealed.proofs.HostItems.{Laws, IsHeard, hears, judge_item, facts_then}

-- ---- events at which no session of the node ends

pub aside_ends : (node : ℕ) (event : HostEvent) → IsUnheard node event → EndsNone node event
aside_ends node (Finishes n session id command status wake_request) is = is
aside_ends node event is = tt

asides_true : (node : ℕ) (h : HostState) (devices : List State) (events : List HostEvent) → AreAside node events → TellTruly node h devices events
asides_true node h devices [] all = tt
asides_true node h devices (event ∷ events) all = (none_true node h devices event (aside_ends node event all.0.1), asides_true node (after_host h event) devices events all.1)

-- ---- the report that ends a session

module _ (judged : Judged) (past : Past) (node : ℕ) (c : Courses) (rest : Rest) (up yet down : List Item) (h : HostState) (w : Outside) (f : HostFollows past node c rest up yet down h w) (course : CourseFacts c.sessions)
    (report : Report) (now : List Report) (are : c.sessions.down ≡ report ∷ now) where
  -- the lock has ended that session with success, as the host judges it with the nonce spent
  report_true : (session : ℕ) → told_of c.sessions.host (wire_id report.session) report.status ≡ Final session → report.status ≡ SUCCESS → IsDoneBy (after_host h (Spends node)) w.devices node session
  report_true session told success =
      let there = f.mesh.device in
      let ends = (judged c.sessions report now course are).ends session told in
      let time = (subst (λ (ds : List Report). AllByRecursion (IsOnTime c.sessions.host c.sessions.device c.sessions.ends) ds) are course.on_time).0 in
      let own : there.device.node ≡ node = place_is node w.devices there.place there.device there.first there.stands in
      let made : AllByRecursion (MakesAsked past.orders past.commands) there.device.journal = (f.mesh.made there.place there.device there.stands own).changes in
      record {
        device = there.device;
        among = got_has w.devices there.place there.device there.stands;
        of_node = own;
        finals = c.sessions.ends;
        ended = there.at.ended;
        success = subst (λ (s : ℕ). session_at c.sessions.ends s ≡ Some SUCCESS) (sym ends.0) (time.fits.1 (λ works. final_works (sym success ∙ works)) ∙ ap Some success);
        made = subst (λ (cs : List ℕ). AllByRecursion (MakesWhatIsTaken h.commands cs) there.device.journal) (f.host.commands ∙ sym f.host.book.0)
            (changes_taken h.commands past.commands there.device.journal (subst (λ (os : List Asked). AllByRecursion (MakesAsked os past.commands) there.device.journal) f.host.orders made));
      }

  finish_true : (session command : ℕ) (status : FinalStatus) (wake_request : Bool) → report.status ≡ status_byte status → May (after_host h (Spends node)) (Finishes node session (wire_id report.session) command status wake_request)
      → TellsTruly node (after_host h (Spends node)) w.devices (Finishes node session (wire_id report.session) command status wake_request)
  finish_true session command final.Success wake_request status_is may =
      let told : told_of c.sessions.host (wire_id report.session) report.status ≡ Final session =
      sym (told_same (node_of h node).book c.sessions.host (wire_id report.session) report.status f.host.book.0 f.host.book.1) ∙ (ap (λ (s : ℕ). told_of (node_of h node).book (wire_id report.session) s) status_is ∙ may.told) in
      λ own. report_true session told status_is
  finish_true session command final.Fail wake_request status_is may = tt
  finish_true session command final.NoSupport wake_request status_is may = tt

module _ (judged : Judged) (past : Past) (node : ℕ) (c : Courses) (rest : Rest) (up yet down : List Item) (h : HostState) (w : Outside) (f : HostFollows past node c rest up yet down h w) (course : CoursesFacts c) where
  ending_true : (session status begun : ℕ) (now : List Report) → c.sessions.down ≡ record { session = session; status = status; begun = begun } ∷ now → (events : List HostEvent) → AllWell (after_host h (Spends node)) events
      → AreAside node events ⊎ IsEnding node session status events → TellTruly node (after_host h (Spends node)) w.devices events
  ending_true session status begun now are events well (inl aside) = asides_true node (after_host h (Spends node)) w.devices events aside
  ending_true session status begun now are events well (inr is) =
      let report : Report = record { session = session; status = status; begun = begun } in
      let finish : HostEvent = Finishes node is.session (wire_id session) is.command is.status is.wake_request in
      let one : AllWell (after_host h (Spends node)) (finish ∷ []) = subst (λ (es : List HostEvent). AllWell (after_host h (Spends node)) es) is.are well in
      subst (λ (es : List HostEvent). TellTruly node (after_host h (Spends node)) w.devices es) (sym is.are)
      (finish_true judged past node c rest up yet down h w f course.sessions report now are is.session is.command is.status is.wake_request is.status_is one.may.0, tt)

  said_true : (said : Said) (begun : ℕ) (now : List Late) → f.late ≡ record { said = said; begun = begun } ∷ now → (events : List HostEvent) → AllWell h events → SaidDoes past node c.host h said events → TellTruly node h w.devices events
  said_true (Shows number) begun now are events well is = subst (λ (es : List HostEvent). TellTruly node h w.devices es) (sym is.are) (tt, tt)
  said_true (Reports session status number) begun now are events well is =
      let these : AllWell h (Spends node ∷ is.rest) = subst (λ (es : List HostEvent). AllWell h es) is.are well in
      subst (λ (es : List HostEvent). TellTruly node h w.devices es) (sym is.are)
      (tt, ending_true session status begun (picked report_of now) (f.go_down.reports ∙ ap (picked report_of) are) is.rest (record { may = these.may.1; units = these.units.1 }) is.then)

  mark_true : (mark : Option Late) (now : List Late) → f.late ≡ option_to_list mark ++ now → (events : List HostEvent) → AllWell h events → AreAside node events ⊎ MarkDoes past node c.host h mark events → TellTruly node h w.devices events
  mark_true mark now are events well (inl aside) = asides_true node h w.devices events aside
  mark_true None now are events well (inr (inl is)) = subst (λ (es : List HostEvent). TellTruly node h w.devices es) (sym is) (tt, tt)
  mark_true None now are events well (inr (inr (drawn, eight, is))) = subst (λ (es : List HostEvent). TellTruly node h w.devices es) (sym is) (tt, tt)
  mark_true (Some late) now are events well (inr is) = said_true late.said late.begun now are events well is

-- ---- items

module _ (laws : Laws) (judged : Judged) (node : ℕ) (within : node < 233) (rest : Rest) (down : List Item) where
  item_true : (past : Past) (c : Courses) (up yet : List Item) (h : HostState) (w : Outside) (item : Item) (events : List HostEvent) → HostFollows past node c rest up (item ∷ yet) down h w → HasPast h → CoursesFacts c → AllWell h events
      → IsJudged h item events → TellTruly node h w.devices events
  item_true past c up yet h w item events f facts course well (later, are, followed) =
      subst (λ (es : List HostEvent). TellTruly node h w.devices es) (sym are) (by (subst (λ (es : List HostEvent). AllWell h es) are well))
    where
      by : AllWell h (Hears item ∷ later) → TellTruly node h w.devices (Hears item ∷ later)
      by these =
          let k : HostState = after_host h (Hears item) in
          let v : Outside = happens_all_outside w (routed (outs h (Hears item))) in
          let is : IsHeard past node c rest yet down item k v later = hears laws node within rest down past c up yet h w item later f facts course these followed in (
            tt,
            subst (λ (ds : List State). TellTruly node k ds later) (routed_still w (outs h (Hears item)))
                (mark_true judged is.goes.later_past node is.goes.later rest is.goes.up (item ∷ yet) down k v is.goes.follows is.course is.mark is.now is.are later (record { may = these.may.1; units = these.units.1 }) is.does),
          )

  -- items one after another
  pub items_true : (past : Past) (c : Courses) (up : List Item) (h : HostState) (w : Outside) (items : List Item) (events : List HostEvent) → HostFollows past node c rest up items down h w → HasPast h → CoursesFacts c → AllWell h events
      → AreJudged h items events → TellTruly node h w.devices events
  items_true past c up h w [] events f facts course well none = subst (λ (es : List HostEvent). TellTruly node h w.devices es) (sym none) tt
  items_true past c up h w (item ∷ items) events f facts course well (first, later, are, one, more) =
      let both = well_prefix h first later (subst (λ (es : List HostEvent). AllWell h es) are well) in
      let v : Outside = happens_all_outside w (routed (outs_all h first)) in
      let g : HostGoes past node c rest items down (after_all h first) v = judge_item laws node within rest down past c up items h w item first f facts course both.0 one in
      subst (λ (es : List HostEvent). TellTruly node h w.devices es) (sym are)
      (true-append node h w.devices first later (item_true past c up items h w item first f facts course both.0 one)
      (subst (λ (ds : List State). TellTruly node (after_all h first) ds later) (routed_still w (outs_all h first))
      (items_true g.later_past g.later g.up (after_all h first) v items later g.follows (facts_then laws.past h first facts both.0.may) (facts_go laws.facts c g.later course g.goes) both.1 more)))
