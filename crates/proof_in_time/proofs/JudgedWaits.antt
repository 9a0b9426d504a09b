-- What the host judges leaves of the attempt of a node that runs: its session is over where a report tells its end.
use Rattle.std.proofs.Common.{◌≡◌, ◌≤◌, ◌<◌, ℕ, Bool, true, false, inl, inr, Option, Some, None, List, [], ◌∷◌, ◌++◌, length, refl, sym, ap, ◌∙◌, subst}
use Rattle.std.specs.Prelude.{◌⊎◌}
use Rattle.std.proofs.lemmas.Bool.{or_parts}
use Rattle.std.specs.List.{AllByRecursion}
use Rattle.zw_base.proofs.Each.{all-left, all-right}
use Rattle.supervision.specs.Session.{wire_id}
use Rattle.supervision.specs.Host.{begun_of, open_session}
use Rattle.serial_frame.specs.Frame.{FrameParts}
use Rattle.serial_frame.specs.declared.item.Item.TheVariants.{Good}
use Rattle.serial_frame.specs.declared.unit.Unit.{Unit as LineUnit}
use Rattle.serial_frame.specs.declared.unit.Unit.TheVariants.{Ack, Nak, Can, Framed}
use Rattle.chip_functions.specs.Field.{IsNode}
use Rattle.chip_sim.specs.State.{ChipState}
use Rattle.host_heard.specs.Telling.{heard_at}
use Rattle.host_requests.specs.Events.RequestsEvent.{IsSent}
use Rattle.host_node.specs.State.{NodeState}
use Rattle.host_node.specs.declared.series.Series.TheVariants.{Running, Idle}
use Rattle.host_model.specs.After.{after, is_busy}
use Rattle.host_model.specs.Did.{after_all}
use Rattle.host_model.specs.Events.{HostEvent, Hears, Interviews, Line_ticks, Node_ticks, Starts, Finishes, Is_unkept}
use Rattle.host_model.specs.State.{HostState, node_of}
use Rattle.host_model.specs.Taking.{AreJudged, IsJudged, is_secure, told_if}
use Rattle.host_model.proofs.EventLists.{after_all-append}
use Rattle.proof_answered.specs.proof_calm.Calls.{FrameFollows}
use Rattle.proof_answered.specs.proof_calm.Passes.{IsPlain, frames_in}
use Rattle.proof_answered.proofs.Ending.{handler_payload}
use Rattle.proof_answered.proofs.Followed.{FollowersAre, payload_all}
use Rattle.proof_answered.proofs.Following.{kept}
use Rattle.proof_answered.proofs.Judging.{AnyFrame, EachFollows, TieBy, each_follow, frame_are, one_more, unit_tied}
use Rattle.proof_answered.proofs.Reading.{goods}
use Rattle.proof_in_time.specs.Coming.{Has, IsKept, TellsEnd, brings, is_layered, is_listed}
use Rattle.proof_in_time.specs.Reporting.{AwaitsReport, EndsSession, IsOver}
use Rattle.proof_in_time.proofs.NodeWaits.{IsBeside, OnTable, beside_table}
use Rattle.proof_in_time.proofs.Reported.{report_ends, session_over}
use Rattle.proof_in_time.proofs.InHand.{same_open}

-- ---- what the chip tells makes no attempt start, and ticks for no node

abbrev pub IsTold : HostEvent → Type 0
IsTold (Interviews n listens classes update) = ⊥
IsTold (Starts n plan more payload) = ⊥
IsTold (Node_ticks n) = ⊥
IsTold Line_ticks = ⊥
IsTold event = Unit {0}

pub told_beside : (n : ℕ) (h : HostState) (event : HostEvent) → IsTold event → IsBeside n h event
told_beside n h (Interviews k listens classes update) told = absurd told
told_beside n h (Starts k plan more payload) told = absurd told
told_beside n h (Node_ticks k) told = absurd told
told_beside n h Line_ticks told = absurd told
told_beside n h event told = tt

pub told_followers : (n : ℕ) → FollowersAre IsTold n
told_followers n = record {
  unread = λ payload. tt;
  unkept = tt;
  old = λ id. tt;
  works = λ id. tt;
  finishes = λ session id command status wake. tt;
  offers = tt;
  gives = λ drawn. tt;
  spends = tt;
  in_vain = λ payload. tt;
  takes = λ seen text. tt;
  resends = λ payload. tt;
  hears = λ setting. tt;
  no_room = λ property. tt;
}

pub each_told : (joined : List Bool) → EachFollows IsTold AnyFrame joined
each_told joined = record {
  hears = λ item. tt;
  told = λ event told. tt;
  brings = λ h n payload events member says is. payload_all IsTold n (told_followers n) h payload (heard_at payload) events (λ tells. tt) is;
}

-- ---- a node, and whether a report of its end is on its way to the host

-- a session was begun last and is open
pub record IsAt (n session : ℕ) (h : HostState) : Type 0 where
  pub opened : open_session (node_of h n).book ≡ Some session
  pub begun : begun_of (node_of h n).book ≡ session

-- its plain reports are taken; and where its series runs, it did at first, with that session; the report of its end is on its way, unless something else is to come
pub record Runs (n session wait : ℕ) (Elsewhere : Type 0) (pending : List FrameParts) (h : HostState) : Type 0 where
  pub at : IsAt n session h
  pub waits : ((node_of h n).attempt_wait ≡ wait) ⊎ ((node_of h n).attempt_wait ≡ 100)
  pub bound : (wait ≡ 0) ⊎ (70 ≤ wait)
  pub report : Elsewhere ⊎ ((payload : List ℕ) × (TellsEnd session payload × Has (brings n payload) pending))

pub record Judges (whole : Bool) (n session wait : ℕ) (Elsewhere : Type 0) (pending : List FrameParts) (h : HostState) : Type 0 where
  pub places : length h.nodes ≡ 233
  pub openly : is_listed whole (node_of h n).classes ≡ false
  pub runs : (node_of h n).series ≡ Running → Runs n session wait Elsewhere pending h

layered_secure : (classes : Option (List ℕ)) → is_layered classes ≡ false → is_secure classes ≡ false
layered_secure None openly = refl
layered_secure (Some classes) openly = (or_parts (is_secure (Some classes)) _ openly).0

unsecured : (whole : Bool) (classes : Option (List ℕ)) → is_listed whole classes ≡ false → is_secure classes ≡ false
unsecured true classes openly = layered_secure classes openly
unsecured false classes openly = openly

at_from : (session : ℕ) (old : NodeState) (new : NodeState) → new.book.commands ≡ old.book.commands → new.book.outcome ≡ old.book.outcome → open_session old.book ≡ Some session → begun_of old.book ≡ session
    → (open_session new.book ≡ Some session) × (begun_of new.book ≡ session)
at_from session old new commands outcome opened begun = (same_open old.book new.book commands outcome ∙ opened, ap (λ (cs : List ℕ). length cs) commands ∙ begun)

module _ (whole : Bool) (n : ℕ) (within : n < 233) (session wait : ℕ) (Elsewhere : Type 0) where
  abbrev J : List FrameParts → HostState → Type 0
  J pending h = Judges whole n session wait Elsewhere pending h

  -- an event that the chip tells
  event_judges : (pending : List FrameParts) (h : HostState) (event : HostEvent) → IsTold event → J pending h → J pending (after h event)
  event_judges pending h event told j = record {
    places = table.places;
    openly = ap (is_listed whole) table.from.same ∙ j.openly;
    runs = λ run.
        let k = table.from.keeps run in
        let r = j.runs k.running in
        let both = at_from session (node_of h n) (node_of (after h event) n) k.commands_are k.outcome_is r.at.opened r.at.begun in
        record { at = record { opened = both.0; begun = both.1 }; waits = by k.waits r.waits; bound = r.bound; report = r.report };
  }
    where
      table : OnTable n (node_of h n) (after h event).nodes
      table = beside_table n within h event j.places (told_beside n h event told)

      by : ((node_of (after h event) n).attempt_wait ≡ (node_of h n).attempt_wait) ⊎ ((node_of (after h event) n).attempt_wait ≡ 100) → ((node_of h n).attempt_wait ≡ wait) ⊎ ((node_of h n).attempt_wait ≡ 100)
          → ((node_of (after h event) n).attempt_wait ≡ wait) ⊎ ((node_of (after h event) n).attempt_wait ≡ 100)
      by (inl same) (inl was) = inl (same ∙ was)
      by (inl same) (inr was) = inr (same ∙ was)
      by (inr anew) was = inr anew

  events_judge : (pending : List FrameParts) (h : HostState) (events : List HostEvent) → AllByRecursion IsTold events → J pending h → J pending (after_all h events)
  events_judge pending h [] told j = j
  events_judge pending h (event ∷ events) told j = events_judge pending (after h event) events told.1 (event_judges pending h event told.0 j)

  -- what runs after them ran before
  ran_before : (h : HostState) (events : List HostEvent) → AllByRecursion IsTold events → length h.nodes ≡ 233 → (node_of (after_all h events) n).series ≡ Running → (node_of h n).series ≡ Running
  ran_before h [] told places run = run
  ran_before h (event ∷ events) told places run =
      let table = beside_table n within h event places (told_beside n h event told.0) in
      (table.from.keeps (ran_before (after h event) events told.1 table.places run)).running

  -- the report itself ends the series
  report_ended : (h : HostState) (payload : List ℕ) (events : List HostEvent) → IsNode n → TellsEnd session payload → FrameFollows h (brings n payload) events → AllByRecursion IsKept events → length h.nodes ≡ 233 → AwaitsReport n session h
      → (node_of (after_all h events) n).series ≡ Running → ⊥
  report_ended h payload events node tells follows keeps places awaits run =
      by (report_ends h n session tells.status payload events awaits tells.over tells.tells (handler_payload h n payload events node tells.some follows))
    where
      by : EndsSession n session events → ⊥
      by ends = of ends.are
        where
          of : (events ≡ Finishes n session (wire_id session) ends.command ends.status ends.wakes ∷ []) ⊎ (events ≡ Is_unkept n ∷ []) → ⊥
          of (inl are) =
              let over : IsOver (node_of (after h (Finishes n session (wire_id session) ends.command ends.status ends.wakes)) n) =
              session_over h n session ends.command ends.status ends.wakes (subst (λ (l : ℕ). n < l) (sym places) within) awaits.opened in
              let wrong : Idle ≡ Running = sym (ap (λ (l : List HostEvent). (node_of (after_all h l) n).series) are ∙ over.idle) ∙ run in
              absurd cc
          of (inr are) = (subst (AllByRecursion IsKept) are keeps).0

  frame_judges : (h : HostState) (frame : FrameParts) (rest : List FrameParts) (events : List HostEvent) → IsNode n → FrameFollows h frame events → AllByRecursion IsTold events → AllByRecursion IsKept events → J (frame ∷ rest) h
      → J rest (after_all h events)
  frame_judges h frame rest events node follows told keeps j = record { places = later.places; openly = later.openly; runs = λ run. by run (later.runs run) (j.runs (ran_before h events told j.places run)) }
    where
      later : J (frame ∷ rest) (after_all h events)
      later = events_judge (frame ∷ rest) h events told j

      by : (node_of (after_all h events) n).series ≡ Running → Runs n session wait Elsewhere (frame ∷ rest) (after_all h events) → Runs n session wait Elsewhere (frame ∷ rest) h → Runs n session wait Elsewhere rest (after_all h events)
      by run now was = record { at = now.at; waits = now.waits; bound = was.bound; report = of was.report }
        where
          of : Elsewhere ⊎ ((payload : List ℕ) × (TellsEnd session payload × Has (brings n payload) (frame ∷ rest))) → Elsewhere ⊎ ((payload : List ℕ) × (TellsEnd session payload × Has (brings n payload) rest))
          of (inl is) = inl is
          of (inr (payload, (tells, inr has))) = inr (payload, (tells, has))
          of (inr (payload, (tells, inl is))) =
              absurd (report_ended h payload events node tells (subst (λ (f : FrameParts). FrameFollows h f events) (sym is) follows) keeps j.places (record { opened = was.at.opened; openly = unsecured whole (node_of h n).classes j.openly }) run)

  module _ (s : ChipState) where
    unit_judges : (h : HostState) (unit : LineUnit) (rest : List FrameParts) (events : List HostEvent) → IsNode n → IsPlain unit → IsJudged h (Good unit) events → TieBy true (kept h) s (frames_in (unit ∷ []) ++ rest) [] → AllByRecursion IsKept events
        → J (frames_in (unit ∷ []) ++ rest) h → J rest (after_all h events)
    unit_judges h Ack rest events node plain (more, are, followed) tie keeps j = events_judge rest h events (subst (AllByRecursion IsTold) (sym are) (tt, by (is_busy h.side.turn) followed)) j
      where
        by : (b : Bool) → more ≡ told_if b IsSent → AllByRecursion IsTold more
        by true is = subst (AllByRecursion IsTold) (sym is) (tt, tt)
        by false is = subst (AllByRecursion IsTold) (sym is) tt
    unit_judges h Nak rest events node plain judged tie keeps j = absurd plain
    unit_judges h Can rest events node plain judged tie keeps j = absurd plain
    unit_judges h (Framed f) rest events node plain (more, are, followed) tie keeps j =
        let g : HostState = after h (Hears (Good (Framed f))) in
        let keeps_more : AllByRecursion IsKept more = (subst (AllByRecursion IsKept) are keeps).1 in
        subst (λ (l : List HostEvent). J rest (after_all h l)) (sym are)
        (frame_judges g f rest more node followed (frame_are (λ (k : HostState) (all : List HostEvent). AllByRecursion IsTold all) AnyFrame true s [] (each_follow IsTold AnyFrame s.joined (each_told s.joined)) g f rest more followed tie tt) keeps_more (event_judges (f ∷ rest) h (Hears (Good (Framed f))) tt j))

    pub units_judge : (h : HostState) (units : List LineUnit) (rest : List FrameParts) (events : List HostEvent) → IsNode n → AllByRecursion IsPlain units → AreJudged h (goods units) events → TieBy true (kept h) s (frames_in units ++ rest) []
        → AllByRecursion IsKept events → J (frames_in units ++ rest) h → J rest (after_all h events)
    units_judge h [] rest events node plain judged_all tie keeps j = subst (λ (l : List HostEvent). J rest (after_all h l)) (sym judged_all) j
    units_judge h (unit ∷ units) rest events node plain (first, later, are, one, others) tie keeps j =
        let same = one_more true s [] unit units rest in
        let parts = subst (λ (fs : List FrameParts). TieBy true (kept h) s fs []) same tie in
        let keeps_all = subst (AllByRecursion IsKept) are keeps in
        let here = unit_judges h unit (frames_in units ++ rest) first node plain.0 one parts (all-left IsKept first later keeps_all) (subst (λ (fs : List FrameParts). J fs h) same j) in
        let then_tied = unit_tied true s [] h unit (frames_in units ++ rest) first plain.0 one parts in
        subst (λ (l : List HostEvent). J rest (after_all h l)) (sym are)
        (subst (J rest) (sym (after_all-append h first later)) (units_judge (after_all h first) units rest later node plain.1 others then_tied (all-right IsKept first later keeps_all) here))
