-- Each success that the host is told of a node is what the node's device did: the items that it judges, one after another.
use Rattle.std.proofs.Common.{◌≡◌, ℕ, zero, suc, ◌<◌, ◌⊎◌, inl, inr, Bool, Option, Some, List, [], ◌∷◌, ◌++◌, slice_get, ap, sym, ◌∙◌, subst, arith}
use Rattle.std.specs.List.{AllByRecursion}
use Rattle.std.specs.Option.{option_to_list}
use Rattle.supervision.specs.Session.{wire_id}
use Rattle.supervision.specs.Host.{told_of, command_at as session_at}
use Rattle.supervision.specs.Ends.{Report}
use Rattle.supervision.specs.declared.host_node.Told.TheVariants.{Final}
use Rattle.supervision.specs.declared.session.TheConstants.{SUCCESS, WORKING}
use Rattle.proof_course.specs.Sessions.{Course}
use Rattle.proof_course.specs.SessionFacts.{CourseFacts, IsOnTime}
use Rattle.proof_course.specs.SessionLaws.{TellsOne}
use Rattle.serial_frame.specs.Stream.{Rest}
use Rattle.serial_frame.specs.declared.item.Item.{Item}
use Rattle.device_sim.specs.State.{State}
use Rattle.outside_model.specs.State.{Outside}
use Rattle.outside_model.specs.Did.{happens_all as happens_all_outside}
use Rattle.law_transcript.specs.Lists.{Has}
use Rattle.world_model.specs.State.{routed}
use Rattle.world_model.proofs.Hosting.{routed_still}
use Rattle.host_keep.specs.declared.final_status.FinalStatus.{FinalStatus}
use Rattle.host_keep.specs.declared.final_status.FinalStatus.TheVariants as final
use Rattle.host_keep.specs.Status.{status_byte}
use Rattle.host_model.specs.State.{HostState, node_of}
use Rattle.host_model.specs.After.{after as after_host}
use Rattle.host_model.specs.Did.{after_all, outs_all}
use Rattle.host_model.specs.Outs.{outs}
use Rattle.host_model.specs.Taking.{IsJudged, AreJudged}
use Rattle.host_model.specs.Events.{HostEvent, Begins, Finishes, Hears}
use Rattle.proof_course_plain.specs.Meaning.{Asked}
use Rattle.proof_course_plain.specs.Lines.{Tells}
use Rattle.proof_course_plain.specs.Making.{MakesAsked}
use Rattle.proof_course_plain.specs.Told.{HasPast}
use Rattle.proof_course_plain.specs.HostGoing.{HostFollows, HostGoes, IsAside, EndsNone, AllWell}
use Rattle.proof_once.specs.Tied.{MakesWhatIsTaken}
use Rattle.proof_once.specs.Truly.{IsDoneBy, TellsTruly, TellTruly}
use Rattle.proof_course_plain.proofs.HostJudgements.{AllAside, IsFinish, item_told}
use Rattle.proof_course_plain.specs.Lines.{Tells}
use Rattle.proof_course_plain.proofs.WayLabels.{first_label}
use Rattle.proof_course_plain.proofs.HostItems.{Laws, well_prefix, told_same, course_goes, aside_goes, judge_item, facts_then}
use Rattle.proof_course_plain.proofs.Taken.{changes_taken}
use Rattle.proof_traffic.proofs.ChangesOutside.{place_is}

-- ---- devices

pub got_has : (devices : List State) (place : ℕ) (device : State) → slice_get devices place ≡ Some device → Has devices device
got_has [] place device e = absurd cc
got_has (first ∷ rest) zero device e = let same : first ≡ device = cc in inl same
got_has (first ∷ rest) (suc before) device e = inr (got_has rest before device e)

-- ---- events at which no session of the node ends

pub none_true : (node : ℕ) (h : HostState) (devices : List State) (event : HostEvent) → EndsNone node event → TellsTruly node h devices event
none_true node h devices (Finishes n session id command final.Success wake_request) none = λ own. absurd (none own)
none_true node h devices event none = tt

aside_ends : (node : ℕ) (event : HostEvent) → IsAside node event → EndsNone node event
aside_ends node (Begins n session command) is = absurd is
aside_ends node (Finishes n session id command status wake_request) is = is
aside_ends node event is = tt

asides_true : (node : ℕ) (h : HostState) (devices : List State) (events : List HostEvent) → AllAside node events → TellTruly node h devices events
asides_true node h devices [] all = tt
asides_true node h devices (event ∷ events) all = (none_true node h devices event (aside_ends node event all.0.0), asides_true node (after_host h event) devices events all.1)

pub true-append : (node : ℕ) (h : HostState) (devices : List State) (a b : List HostEvent) → TellTruly node h devices a → TellTruly node (after_all h a) devices b → TellTruly node h devices (a ++ b)
true-append node h devices [] b first later = later
true-append node h devices (event ∷ a) b first later = (first.0, true-append node (after_host h event) devices a b first.1 later)

-- ---- the report that ends a session

pub final_works : SUCCESS ≡ WORKING → ⊥
final_works e = absurd (grind (arith, e))

-- a report that the host judges is of one session
abbrev pub Judged : Type 0
Judged = (c : Course) (report : Report) (later : List Report) → CourseFacts c → c.down ≡ report ∷ later → TellsOne c.host c.device report

module _ (laws : Laws) (judged : Judged) (node : ℕ) (rest : Rest) (down : List Item) where
  report_true : (orders : List Asked) (c : Course) (up yet : List Item) (h : HostState) (w : Outside) → HostFollows node orders c rest up yet down h w → CourseFacts c → (report : Report) (now : List Report) → c.down ≡ report ∷ now
      → (session : ℕ) → told_of c.host (wire_id report.session) report.status ≡ Final session → report.status ≡ SUCCESS → IsDoneBy h w.devices node session
  report_true orders c up yet h w f course report now are session told success =
      let there = f.mesh.device in
      let ends = (judged c report now course are).ends session told in
      let time = (subst (λ (ds : List Report). AllByRecursion (IsOnTime c.host c.device c.ends) ds) are course.on_time).0 in
      let own : there.device.node ≡ node = place_is node w.devices there.place there.device there.first there.stands in
      let made : AllByRecursion (MakesAsked orders c.host.commands) there.device.journal = (f.mesh.made there.place there.device there.stands own).changes in
      record {
        device = there.device;
        among = got_has w.devices there.place there.device there.stands;
        of_node = own;
        finals = c.ends;
        ended = there.at.ended;
        success = subst (λ (s : ℕ). session_at c.ends s ≡ Some SUCCESS) (sym ends.0) (time.fits.1 (λ works. final_works (sym success ∙ works)) ∙ ap Some success);
        made = subst (λ (cs : List ℕ). AllByRecursion (MakesWhatIsTaken h.commands cs) there.device.journal) (sym f.host.node_as.0)
            (changes_taken h.commands c.host.commands there.device.journal (subst (λ (os : List Asked). AllByRecursion (MakesAsked os c.host.commands) there.device.journal) f.host.orders_are made));
      }

  finish_true : (orders : List Asked) (c : Course) (up yet : List Item) (h : HostState) (w : Outside) → HostFollows node orders c rest up yet down h w → CourseFacts c → (report : Report) (now : List Report) → c.down ≡ report ∷ now
      → (session command : ℕ) (status : FinalStatus) (wake_request : Bool) → report.status ≡ status_byte status → told_of (node_of h node).book (wire_id report.session) (status_byte status) ≡ Final session
      → TellsTruly node h w.devices (Finishes node session (wire_id report.session) command status wake_request)
  finish_true orders c up yet h w f course report now are session command final.Success wake_request status_is told =
      let old = f.host.node_as in
      let told_is : told_of c.host (wire_id report.session) report.status ≡ Final session =
      sym (told_same (node_of h node).book c.host (wire_id report.session) report.status old.0 old.1.0) ∙ (ap (λ (s : ℕ). told_of (node_of h node).book (wire_id report.session) s) status_is ∙ told) in
      λ own. report_true orders c up yet h w f course report now are session told_is status_is
  finish_true orders c up yet h w f course report now are session command final.Fail wake_request status_is told = tt
  finish_true orders c up yet h w f course report now are session command final.NoSupport wake_request status_is told = tt

  -- ---- an item

  item_true : (orders : List Asked) (c : Course) (up yet : List Item) (h : HostState) (w : Outside) (item : Item) (events : List HostEvent) → HostFollows node orders c rest up (item ∷ yet) down h w → HasPast h → CourseFacts c → AllWell h events
      → IsJudged h item events → TellTruly node h w.devices events
  item_true orders c up yet h w item events f facts course well (later, are, followed) =
      subst (λ (es : List HostEvent). TellTruly node h w.devices es) (sym are) (by (subst (λ (es : List HostEvent). AllWell h es) are well))
    where
      by : AllWell h (Hears item ∷ later) → TellTruly node h w.devices (Hears item ∷ later)
      by these =
          let k : HostState = after_host h (Hears item) in
          let v : Outside = happens_all_outside w (routed (outs h (Hears item))) in
          let one : HostGoes node c rest (item ∷ yet) down k v = aside_goes laws node rest down orders c up (item ∷ yet) h w (Hears item) f facts these.may.0 tt tt tt these.units.0 in
          let label = first_label (Tells node) one.later.down item (yet ++ down) v.outer.chip.state.port.side.turn v.outer.chip.state.port.waiting one.follows.reports in
          let more : AllWell k later = record { may = these.may.1; units = these.units.1 } in (
            tt,
            subst (λ (ds : List State). TellTruly node k ds later) (routed_still w (outs h (Hears item)))
                (told_by one.orders one.later one.up k v label.0 label.1.1.0 one.follows label.1.1.1.0 (course_goes laws node rest down c one.later course one.goes) more
                (item_told node laws.bytes k h.side.turn item label.0 later label.1.0 followed)),
          )
        where
          told_by : (orders : List Asked) (c : Course) (up : List Item) (k : HostState) (v : Outside) (mark : Option Report) (now : List Report) → HostFollows node orders c rest up (item ∷ yet) down k v → c.down ≡ option_to_list mark ++ now
              → CourseFacts c → AllWell k later → AllAside node later ⊎ IsFinish node mark later → TellTruly node k v.devices later
          told_by orders c up k v mark now f are course well (inl aside) = asides_true node k v.devices later aside
          told_by orders c up k v mark now f are course well (inr is) =
              let one : AllWell k (Finishes node is.session (wire_id is.report.session) is.command is.status is.wake_request ∷ []) = subst (λ (es : List HostEvent). AllWell k es) is.are well in
              subst (λ (es : List HostEvent). TellTruly node k v.devices es) (sym is.are)
              (finish_true orders c up (item ∷ yet) k v f course is.report now (are ∙ ap (λ (m : Option Report). option_to_list m ++ now) is.labelled) is.session is.command is.status is.wake_request is.status_is one.may.0.told, tt)

  -- items one after another
  pub items_true : (orders : List Asked) (c : Course) (up : List Item) (h : HostState) (w : Outside) (items : List Item) (events : List HostEvent) → node < 233 → HostFollows node orders c rest up items down h w → HasPast h → CourseFacts c → AllWell h events
      → AreJudged h items events → TellTruly node h w.devices events
  items_true orders c up h w [] events within f facts course well none = subst (λ (es : List HostEvent). TellTruly node h w.devices es) (sym none) tt
  items_true orders c up h w (item ∷ items) events within f facts course well (first, later, are, one, more) =
      let both = well_prefix h first later (subst (λ (es : List HostEvent). AllWell h es) are well) in
      let v : Outside = happens_all_outside w (routed (outs_all h first)) in
      let g : HostGoes node c rest items down (after_all h first) v = judge_item laws node rest down orders c up items h w item first within f facts course both.0 one in
      subst (λ (es : List HostEvent). TellTruly node h w.devices es) (sym are)
      (true-append node h w.devices first later (item_true orders c up items h w item first f facts course both.0 one)
      (subst (λ (ds : List State). TellTruly node (after_all h first) ds later) (routed_still w (outs_all h first))
      (items_true g.orders g.later g.up (after_all h first) v items later within g.follows (facts_then laws node rest down h first facts both.0.may) (course_goes laws node rest down c g.later course g.goes) both.1 more)))
