-- What a device did in lines the last of which was cut short: as the transcript shows before that line, and of it a prefix, with what one event that was not entered brings.
use Rattle.std.proofs.Common.{◌≡◌, ◌≢◌, ◌≤◌, ◌⊎◌, inl, inr, ℕ, suc, ◌-◌, ◌==◌, nat_lt, if◌then◌else◌, Bool, true, false, List, [], ◌∷◌, ◌++◌, length, length-append, refl, sym, ap, subst, ◌∙◌, append-nil, append_assoc, arith}
use Rattle.std.specs.Prelude.{Option, Some, None, slice_get}
use Rattle.std.specs.List.{AllByRecursion}
use Rattle.device_sim.specs.State.{State}
use Rattle.device_sim.specs.Event.{DeviceEvent}
use Rattle.mesh_sim.specs.Fates.{place_of}
use Rattle.zw_text.specs.declared.line.Line.{Line}
use Rattle.zw_text.specs.declared.entry.Entry.{Entry}
use Rattle.zw_text.specs.declared.entry.Entry.TheVariants as entry
use Rattle.zw_text.specs.Transcript.{AirFrame, lines_run}
use Rattle.law_transcript.specs.Devices.{CameAsShown, ChangedAsShown, ComingAt, after_events, asked_by, brought, brought_by, comings, events_unjoined, lived_by, replies_joined, sent_from, ticks_lived}
use Rattle.law_transcript.specs.Devices.Coming.{Payload}
use Rattle.law_transcript.specs.Lists.{IsPrefixOf}
use Rattle.law_transcript.specs.Nodes.{controller, device_of, is_joined}
use Rattle.law_transcript.specs.Repeats.{frame_of}
use Rattle.law_transcript.specs.Restarts.{ticks_asked}
use Rattle.law_wire.specs.Halted.{RanAfter, RanAsFar, before_line, before_line_from}
use Rattle.outside_model.specs.State.{OuterState}
use Rattle.outside_model.specs.Events.{stamp, ticked_entry}
use Rattle.world_model.specs.State.{Machine}
use Rattle.world_model.specs.Events.{Event, entries, May}
use Rattle.world_model.specs.Did.{MayAll, entries_all}
use Rattle.proof_air.specs.proof_device.Showing.{AreApart}
use Rattle.proof_air.proofs.DevicePlaces.{go_same}
use Rattle.proof_air.specs.proof_walk.Outside.{HasNoWords, nothing}
use Rattle.proof_air.specs.proof_walk.Phases.{Phase, Said_line, Begun, Doing, Ticked, Arriving, Giving, Ticking_devices}
use Rattle.proof_air.specs.Logs.{Tie as TieAir}
use Rattle.proof_devices.specs.Living.{Answers, InTick, Keeping, KnowLives, LivedWith, RestedWith, SayingWith, Tie, lived_in}
use Rattle.proof_devices.proofs.Quiet.{AreQuiet, AreIdle, are_quiet, idle_quiet, number_idle, number_quiet, own_are_by, stamp_by}
use Rattle.proof_devices.proofs.Telling.{TellsOf, event_tells}
use Rattle.proof_devices.proofs.Shown.{heard_brought, lived_as, said_brought, still_brought}
use Rattle.proof_devices.proofs.Joined.{IsUnsaid, are_unsaid, no_lines, none_unjoined, same_run, unjoined_all, unjoined_same, events_counted}
use Rattle.proof_devices.proofs.Sent.{sent_both}
use Rattle.proof_devices.proofs.Keeping.{Keeps}
use Rattle.proof_devices.proofs.Places.{same_place}
use Rattle.proof_devices.proofs.Hearing.{ToHome, Enters, EntersDevice, enters_by, heard_came, heard_unsaid}
use Rattle.proof_devices.proofs.Replies.{JoinsAs, answers_keep, from_none, replies_from}
use Rattle.proof_devices.proofs.Changes.{show_at}
use Rattle.proof_devices.proofs.Whole.{StandsAt, stands_at}
use Rattle.proof_devices.proofs.Walking.{also_said, ticked_joins}
use Rattle.proof_devices.proofs.Together.{KnowTogether}

-- ---- what is kept in the last line

-- the events are those of before, which are shown, and others
pub record Split (front : List Entry) (old : State) (events : List DeviceEvent) : Type 0 where
  pub earlier : List DeviceEvent
  pub late : List DeviceEvent
  pub are : events ≡ earlier ++ late
  pub came : CameAsShown old.node front earlier
  pub answered : sent_from old.node front ≡ replies_joined old.node front old earlier

abbrev pub AnswersFrom : List Entry → Keeping
AnswersFrom front = λ past old events. Answers past old events × Split front old events

split_more : (front : List Entry) (old : State) (events : List DeviceEvent) (event : DeviceEvent) → Split front old events → Split front old (events ++ event ∷ [])
split_more front old events event split = record {
  earlier = split.earlier;
  late = split.late ++ event ∷ [];
  are = ap (λ (l : List DeviceEvent). l ++ event ∷ []) split.are ∙ append_assoc split.earlier split.late (event ∷ []);
  came = split.came;
  answered = split.answered;
}

pub from_keep : (front : List Entry) (olds : List State) → AreApart olds → Keeps olds (AnswersFrom front) JoinsAs
from_keep front olds apart =
    let keep = answers_keep olds apart in
    record {
      rests = λ past told old events not_controller rest is. (keep.rests past told old events not_controller rest is.0, is.1);
      said = λ past words line old events not_controller read came is. (keep.said past words line old events not_controller read came is.0, is.1);
      does = λ past told air old events event not_controller joins replying few comes ticked is.
          (keep.does past told air old events event not_controller joins replying few comes ticked is.0, split_more front old events event is.1);
      elsewhere = λ past told devices place other device old events go stands stood differ not_controller by is.
          (keep.elsewhere past told devices place other device old events go stands stood differ not_controller by is.0, is.1);
    }

-- it begins with what is known before that line
pub from_rested : (olds : List State) (front : List Entry) (m : Machine) → m.outside.outer.clock ≡ ticks_asked (lines_run front) → RestedWith Answers olds front m → RestedWith (AnswersFrom front) olds front m
from_rested olds front m time rested = record {
  go = rested.go;
  live = λ place old new stood first apart stands.
      let clock : ℕ = m.outside.outer.clock in
      lived_as (Answers front old) (AnswersFrom front front old) clock clock (brought old.node front) (brought old.node front) old new refl refl
      (λ events came ticked answers.
      (answers, record { earlier = events; late = []; are = sym (append-nil events); came = record { came = came; ticked = ticked ∙ time }; answered = answers.answered }))
      (rested.live place old new stood first apart stands);
}

-- ---- where it was cut

-- the first device of a node, with a prefix of what came to the node
pub record AsFar (Also : Keeping) (past : List Entry) (old new : State) : Type 0 where
  pub events : List DeviceEvent
  pub runs : new ≡ after_events old events
  pub came : IsPrefixOf (comings events) (brought old.node past)
  pub ticked : ticks_lived events ≤ ticks_asked (lines_run past)
  pub also : Also past old events

module _ (Also : Keeping) (olds : List State) (keeps : Keeps olds Also JoinsAs) (past : List Entry) (m : Machine) (node : ℕ) (old new : State) (apart : node ≢ controller)
    (before : device_of node olds ≡ Some old) (after : device_of node m.outside.devices ≡ Some new) where
  there : StandsAt node olds old
  there = stands_at node olds old before

  tie_far : (ticks : ℕ → ℕ) → ((place : ℕ) → ticks place ≤ ticks_asked (lines_run past)) → Tie Also olds ticks past m.outside → AsFar Also past old new
  tie_far ticks asked tie =
      let now = stands_at node m.outside.devices new after in
      let places : Some there.place ≡ Some now.place = sym there.first ∙ (sym (same_place node olds m.outside.devices (go_same olds m.outside.devices tie.go)) ∙ now.first) in
      let same : now.place ≡ there.place = cc in
      let lived : LivedWith (Also past old) (ticks there.place) (brought old.node past) old new
      = tie.live there.place old new there.stood (ap (λ (n : ℕ). place_of n olds) there.own ∙ there.first) (λ is. apart (sym there.own ∙ is))
      (ap (λ (k : ℕ). slice_get m.outside.devices k) (sym same) ∙ now.stood) in
      record {
        events = lived.events;
        runs = lived.runs;
        came = ([], sym lived.comes ∙ sym (append-nil (comings lived.events)));
        ticked = subst (λ (n : ℕ). n ≤ ticks_asked (lines_run past)) (sym lived.ticked) (asked there.place);
        also = lived.also;
      }

  -- after the words of a line, of which something may still be to come
  saying_far : (line : Line) → m.outside.outer.clock ≤ ticks_asked (lines_run past) → SayingWith Also olds line past m → AsFar Also past old new
  saying_far line asked saying =
      let now = stands_at node m.outside.devices new after in
      let places : Some there.place ≡ Some now.place = sym there.first ∙ (sym (same_place node olds m.outside.devices (go_same olds m.outside.devices saying.rested.go)) ∙ now.first) in
      let same : now.place ≡ there.place = cc in
      let own : old.node ≢ controller = λ is. apart (sym there.own ∙ is) in
      let lived : LivedWith (Also saying.before old) m.outside.outer.clock (brought old.node saying.before) old new
      = saying.rested.live there.place old new there.stood (ap (λ (n : ℕ). place_of n olds) there.own ∙ there.first) own
      (ap (λ (k : ℕ). slice_get m.outside.devices k) (sym same) ∙ now.stood) in
      let asked_so : List ComingAt = asked_by old.node (ticks_asked (lines_run saying.before)) (line ∷ []) in
      let grown = ap (brought old.node) saying.is ∙ said_brought old.node saying.before saying.words line saying.read in
      record {
        events = lived.events;
        runs = lived.runs;
        came = (asked_so, grown ∙ ap (λ (l : List ComingAt). l ++ asked_so) (sym lived.comes));
        ticked = subst (λ (n : ℕ). n ≤ ticks_asked (lines_run past)) (sym lived.ticked) asked;
        also = also_said Also olds JoinsAs keeps line past m saying old lived.events own lived.comes lived.ticked lived.also;
      }

  tick_far : (reached : ℕ) → m.outside.outer.clock ≤ ticks_asked (lines_run past) → InTick Also olds reached past m → AsFar Also past old new
  tick_far reached asked known = tie_far (lived_in reached m.outside.outer.clock) (λ place. by (nat_lt place reached)) known.tie
    where
      by : (b : Bool) → (if b then m.outside.outer.clock else m.outside.outer.clock - 1) ≤ ticks_asked (lines_run past)
      by true = asked
      by false = omega (arith, asked)

  far_at : (here : Phase) → m.outside.outer.clock ≤ ticks_asked (lines_run past) → KnowLives Also olds here past m → AsFar Also past old new
  far_at (Said_line line) asked known = saying_far line asked known
  far_at (Begun line) asked known = saying_far line asked known.0
  far_at (Doing line left) asked (inl acts) = saying_far line asked acts.0.0
  far_at (Doing line left) asked (inr rested) = tie_far (λ place. m.outside.outer.clock) (λ place. asked) rested.1
  far_at (Ticked ticks) asked known = tick_far 0 asked known.0
  far_at (Arriving frames ticks) asked known = tick_far 0 asked known.0
  far_at (Giving results ticks) asked known = tick_far 0 asked known
  far_at (Ticking_devices place count ticks) asked known = tick_far place asked known.0
  far_at here asked known = tie_far (λ place. m.outside.outer.clock) (λ place. asked) known

  pub together_far : (here : Phase) → KnowTogether Also olds here past m → AsFar Also past old new
  together_far here known = let clock = known.0.0.0.1.0.0.clock in far_at here (omega (arith, clock)) known.0.1

  pub together_shows : (here : Phase) → KnowTogether Also olds here past m → ChangedAsShown old.node past old new
  together_shows here known =
      let now = stands_at node m.outside.devices new after in
      let places : Some there.place ≡ Some now.place = sym there.first ∙ (sym (same_place node olds m.outside.devices (go_same olds m.outside.devices known.1.0)) ∙ now.first) in
      let same : now.place ≡ there.place = cc in
      let shown = show_at past olds m.outside.devices there.place old new known.1.1 there.stood (ap (λ (k : ℕ). slice_get m.outside.devices k) (sym same) ∙ now.stood) in
      record { changes = shown.changes; changed = shown.changed; entered = shown.entered }

-- ---- one event more

-- what it enters brings a node at most one thing more, says no line, and where the node is joined nothing that comes before it joins
pub record Few (node : ℕ) (past told : List Entry) : Type 0 where
  pub unsaid : AllByRecursion IsUnsaid told
  pub one : length (brought node (past ++ told)) ≤ suc (length (brought node past))
  pub same : is_joined past node ≡ true → events_unjoined node (past ++ told) ≡ events_unjoined node past

quiet_few : (node : ℕ) (past told : List Entry) → AreQuiet told → Few node past told
quiet_few node past told quiet =
    let same = ap length (still_brought node past told quiet) in
    record { unsaid = are_unsaid told quiet; one = omega (arith, same); same = λ joined. unjoined_same node past told (are_unsaid told quiet) (none_unjoined node past told quiet) }

few_brought : (node ticks : ℕ) (found : Option AirFrame) → length (brought_by node ticks found) ≤ 1
few_brought node ticks None = omega arith
few_brought node ticks (Some frame) = by (frame.receiver == node)
  where
    by : (b : Bool) → length {A = ComingAt} (if b then record { ticks = ticks; coming = Payload frame.payload } ∷ [] else []) ≤ 1
    by true = omega arith
    by false = omega arith

enters_few : (node : ℕ) (past : List Entry) (joined : List Bool) (o : OuterState) (told : List Entry) (devices later : List State) → Enters past joined (ticked_entry o) told devices later → Few node past told
enters_few node past joined o told devices later (inl (idle, same)) = quiet_few node past told (idle_quiet told idle)
enters_few node past joined o told devices later (inr enters) =
    let before : List Entry = ticked_entry o in
    let unsaid = heard_unsaid node past before enters.number enters.rest told (number_idle o) (quiet enters.hears) enters.are in
    let grown = ap (λ (l : List Entry). brought node (past ++ l)) enters.are
    ∙ (ap (brought node) (sym (append_assoc past before (entry.Heard enters.number ∷ enters.rest)))
    ∙ (heard_brought node (past ++ before) enters.number enters.rest (quiet enters.hears)
    ∙ ap (λ (l : List ComingAt). l ++ brought_by node (lived_by (past ++ before)) (frame_of (past ++ before) enters.number)) (still_brought node past before (number_quiet o)))) in
    let both = ap length grown ∙ length-append (brought node past) (brought_by node (lived_by (past ++ before)) (frame_of (past ++ before) enters.number)) in
    let few = few_brought node (lived_by (past ++ before)) (frame_of (past ++ before) enters.number) in
    record {
      unsaid = unsaid;
      one = omega (arith, both, few);
      same = λ is. unjoined_same node past told unsaid
          (heard_came node past before enters.number enters.rest told (number_idle o) (quiet enters.hears) enters.are
          ∙ ap (λ (b : Bool). if◌then◌else◌ {A = List ComingAt} b [] (brought_by node (lived_by (past ++ before)) (frame_of (past ++ before) enters.number))) (ticked_joins past o node ∙ is));
    }
  where
    quiet : (ToHome past enters.number devices later × AreIdle enters.rest) ⊎ EntersDevice past joined enters.number enters.rest devices later → AreQuiet enters.rest
    quiet (inl (home, rest_idle)) = idle_quiet enters.rest rest_idle
    quiet (inr device) = are_quiet device.to.node enters.rest (enters_by past joined enters.number enters.rest devices later device)

event_few : (node : ℕ) (past : List Entry) (m : Machine) (event : Event) → TieAir nothing past m.outside → May m event → Few node past (entries m event)
event_few node past m event air may = by (event_tells past m event air may)
  where
    by : TellsOf past m event (entries m event) → Few node past (entries m event)
    by (inl idle) = quiet_few node past (entries m event) (idle_quiet (entries m event) idle)
    by (inr (inl one)) =
        subst (Few node past) (sym one.are) (quiet_few node past (stamp one.outer one.did)
        (are_quiet one.device.node (stamp one.outer one.did) (stamp_by one.device.node one.outer one.did (own_are_by one.device.node one.did one.own))))
    by (inr (inr (hears, frame))) = enters_few node past m.outside.outer.air.joined frame.outer (entries m event) m.outside.devices frame.later frame.enters

-- at most one event
pub events_few : (node : ℕ) (past : List Entry) (m : Machine) (events : List Event) → length events ≤ 1 → TieAir nothing past m.outside → MayAll m events → Few node past (entries_all m events)
events_few node past m [] few air may = quiet_few node past [] tt
events_few node past m (event ∷ []) few air may = subst (Few node past) (sym (append-nil (entries m event))) (event_few node past m event air may.0)
events_few node past m (event ∷ (next ∷ more)) few air may = absurd (omega (arith, few))

-- ---- the entries before the last line

skips : (found past : List Entry) (e : Entry) (rest : List Entry) → HasNoWords e → before_line_from found past (e ∷ rest) ≡ before_line_from found (past ++ e ∷ []) rest
skips found past (entry.Said words) rest none = absurd none
skips found past e rest none = refl

none_said : (found past told : List Entry) → AllByRecursion HasNoWords told → before_line_from found past told ≡ found
none_said found past [] none = refl
none_said found past (e ∷ told) none = skips found past e told none.0 ∙ none_said found (past ++ e ∷ []) told none.1

last_said : (found past front : List Entry) (words : List ℕ) (told : List Entry) → AllByRecursion HasNoWords told → before_line_from found past (front ++ entry.Said words ∷ told) ≡ past ++ front
last_said found past [] words told none = none_said past (past ++ entry.Said words ∷ []) told none ∙ sym (append-nil past)
last_said found past (e ∷ front) words told none = by e (λ f p. last_said f p front words told none) ∙ append_assoc past (e ∷ []) front
  where
    by : (e : Entry) → ((f p : List Entry) → before_line_from f p (front ++ entry.Said words ∷ told) ≡ p ++ front)
        → before_line_from found past (e ∷ (front ++ entry.Said words ∷ told)) ≡ (past ++ e ∷ []) ++ front
    by (entry.Said spoken) rest = rest past (past ++ entry.Said spoken ∷ [])
    by e rest = rest found (past ++ e ∷ [])

-- ---- as far as the run went

module _ (olds : List State) (apart : AreApart olds) (front : List Entry) (words : List ℕ) (told more : List Entry) (n0 n : Machine) (here0 here : Phase)
    (known0 : KnowTogether (AnswersFrom front) olds here0 (front ++ entry.Said words ∷ told) n0) (known : KnowTogether (AnswersFrom front) olds here ((front ++ entry.Said words ∷ told) ++ more) n)
    (none : AllByRecursion HasNoWords told) (node : ℕ) (old new0 new : State) (other : node ≢ controller) (before : device_of node olds ≡ Some old)
    (after0 : device_of node n0.outside.devices ≡ Some new0) (after : device_of node n.outside.devices ≡ Some new)
    (few : Few old.node (front ++ entry.Said words ∷ told) more) where
  abbrev entered : List Entry
  entered = front ++ entry.Said words ∷ told

  -- what was done, and what was done when the last entry was made
  whole_far : AsFar (AnswersFrom front) (entered ++ more) old new
  whole_far = together_far (AnswersFrom front) olds (from_keep front olds apart) (entered ++ more) n node old new other before after here known

  entered_far : AsFar (AnswersFrom front) entered old new0
  entered_far = together_far (AnswersFrom front) olds (from_keep front olds apart) entered n0 node old new0 other before after0 here0 known0

  same_lines_run : lines_run (entered ++ more) ≡ lines_run entered
  same_lines_run = same_run entered more few.unsaid

  -- frames that are entered are a prefix
  frames_so : (b : Bool) → is_joined entered old.node ≡ b → IsPrefixOf (sent_from old.node entered) (replies_joined old.node entered old whole_far.events)
  frames_so true joined = (
    sent_from old.node more,
    ap (λ (k : ℕ). replies_from old k whole_far.events) (sym (few.same joined)) ∙ (sym whole_far.also.0.answered ∙ sent_both old.node entered more),
  )
  frames_so false unjoined =
      let all = unjoined_all old.node entered unjoined in
      let count = events_counted entered_far.events in
      let came = ap length entered_far.came.1 ∙ length-append (comings entered_far.events) entered_far.came.0 in
      let ticked = entered_far.ticked in
      let silent : sent_from old.node entered ≡ []
      = entered_far.also.0.answered ∙ from_none old (events_unjoined old.node entered) entered_far.events (omega (arith, all, count, came, ticked)) in
      (replies_joined old.node entered old whole_far.events, ap (λ (l : List (List ℕ)). l ++ replies_joined old.node entered old whole_far.events) (sym silent))

  front_is : front ≡ before_line entered
  front_is = sym (last_said [] [] front words told none)

  pub ran_as_far : RanAsFar old.node entered old new
  ran_as_far =
      let split = whole_far.also.1 in
      let following : RanAfter old.node entered more old whole_far.events = record {
        came = whole_far.came;
        ticked = subst (λ (l : List Line). ticks_lived whole_far.events ≤ ticks_asked l) same_lines_run whole_far.ticked;
        answered = frames_so (is_joined entered old.node) refl;
      } in
      record {
        earlier = split.earlier;
        late = split.late;
        more = more;
        runs = whole_far.runs ∙ ap (after_events old) split.are;
        before = record {
          comes = subst (λ (l : List Entry). CameAsShown old.node l split.earlier) front_is split.came;
          answered = subst (λ (l : List Entry). sent_from old.node l ≡ replies_joined old.node l old split.earlier) front_is split.answered;
        };
        lacks = record { unsaid = no_lines more few.unsaid; one_more = few.one };
        following = subst (RanAfter old.node entered more old) split.are following;
        changes = together_shows (AnswersFrom front) olds (from_keep front olds apart) (entered ++ more) n node old new other before after here known;
      }

-- ---- where no line was run

pub nothing_far : (node : ℕ) (old new : State) → new ≡ old → RanAsFar node [] old new
nothing_far node old new same = record {
  earlier = [];
  late = [];
  more = [];
  runs = same;
  before = record { comes = record { came = refl; ticked = refl }; answered = refl };
  lacks = record { unsaid = refl; one_more = omega arith };
  following = record { came = ([], refl); ticked = omega arith; answered = ([], refl) };
  changes = record { changes = []; changed = ap (λ (s : State). s.journal) same ∙ sym (append-nil old.journal); entered = refl };
}
