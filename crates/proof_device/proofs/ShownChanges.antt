-- What is shown of the devices, over events and runs.
use Rattle.std.proofs.Common.{◌≡◌, ◌≢◌, ℕ, zero, suc, ◌≤◌, ◌<◌, ◌+◌, inl, inr, List, [], ◌∷◌, ◌++◌, length, drop, map, Some, refl, ap, sym, ◌∙◌, subst, append_assoc, append-nil, arith}
use Rattle.std.specs.Prelude.{slice_get, slice_set}
use Rattle.std.specs.List.{AllByRecursion, flat_map}
use Rattle.std.proofs.Math.Seq.{drop-append_seam}
use Rattle.std.proofs.lemmas.List.{length-append}
use Rattle.std.proofs.lemmas.Grind.{flat_map-append}
use Rattle.zw_base.proofs.Each.{all-append}
use Rattle.zw_base.specs.declared.property.By.{By}
use Rattle.zw_base.specs.declared.property.By.TheVariants.{Session, Plain, Local}
use Rattle.zw_base.specs.declared.property.Setting.{Setting}
use Rattle.law_transcript.specs.zw_text.declared.entry.Entry.{Entry}
use Rattle.law_transcript.specs.zw_text.declared.entry.Entry.TheVariants.{Refused}
use Rattle.law_transcript.specs.zw_text.Transcript.{Made, made, applied, by_session}
use Rattle.law_transcript.specs.device_kinds.declared.change.Change.{Change}
use Rattle.law_transcript.specs.device_sim.State.{State}
use Rattle.law_transcript.specs.device_sim.Event.{DeviceEvent, Hears, Ticks, Wakes, Sets, device_after}
use Rattle.law_transcript.specs.device_sim.Laws.{IsHeard, IsTicked, IsChanged, IsMade}
use Rattle.law_transcript.specs.device_kinds.declared.verdict.Verdict.{Verdict}
use Rattle.law_transcript.specs.device_kinds.declared.verdict.Verdict.TheVariants.{NoSupport, Fails, Makes, Works}
use Rattle.world_model.specs.host_model.Did.{outs_all}
use Rattle.world_model.specs.outside_model.State.{Outside}
use Rattle.world_model.specs.outside_model.Devices.{new_changes}
use Rattle.world_model.specs.outside_model.Events.{Host_takes as host_takes, Host_notes, devices_after, happens as happens_outside, entries as entries_outside}
use Rattle.world_model.specs.State.{Machine, host_does, host_entries}
use Rattle.world_model.specs.Events.{Event, Outside_does, Host_does, Host_takes, Decoder_ticks, Refuses, Shows_values, Restarts, answer_entries, fed, shown_values, happens, entries, May}
use Rattle.world_model.proofs.Hosting.{routed_still, devices_host-all}
use Rattle.world_model.specs.Did.{happens_all, entries_all, MayAll}
use Rattle.law_transcript.specs.Devices.{made_by}
use Rattle.law_transcript.specs.Lists.{Rises}
use Rattle.law_transcript.specs.Once.{sessions_by}
use Rattle.proof_device.specs.GoingOn.{IsSame, AreSame, GoOn, TakesOnce}
use Rattle.proof_device.specs.Showing.{AreApart, Shows, AllShow, AreUnchanged, IsShown, NeverFalls}
use Rattle.proof_device.proofs.Others.{Others, IsOther, none_made, made_both}
use Rattle.proof_device.proofs.HostOthers.{note_other, host_other, answered_other}
use Rattle.proof_device.proofs.ChangesOutside.{TellsOne, Grows}
use Rattle.proof_device.proofs.Told.{own_told}

-- ---- a journal grows

-- some changes are added
abbrev pub Adds : Type 0
Adds = (device : State) (event : DeviceEvent) → (more : List Change) × ((device_after device event).journal ≡ device.journal ++ more)

none_added : (journal journal' : List Change) → journal' ≡ journal → (more : List Change) × (journal' ≡ journal ++ more)
none_added journal journal' e = ([], e ∙ sym (append-nil journal))

made_added : (session : ℕ) (journal journal' : List Change) (left left' : ℕ) (verdict : Verdict) → IsMade session journal journal' left left' verdict → (more : List Change) × (journal' ≡ journal ++ more)
made_added session journal journal' left left' (Makes settings) made = (record { by = Session session; settings = settings } ∷ [], made.0)
made_added session journal journal' left left' (Works settings) made = none_added journal journal' made.0
made_added session journal journal' left left' Fails made = none_added journal journal' made.0
made_added session journal journal' left left' NoSupport made = none_added journal journal' made.0

heard_added : (old new : State) → IsHeard old new → (more : List Change) × (new.journal ≡ old.journal ++ more)
heard_added old new (inl untaken) = none_added old.journal new.journal untaken.0
heard_added old new (inr (inl (verdict, (free, (sessions, (empty, made)))))) =
    made_added (old.sessions.taken + 1) old.journal new.journal old.work_left new.work_left verdict made
heard_added old new (inr (inr (settings, (plain, (changed, rest))))) = (record { by = Plain; settings = settings } ∷ [], changed)

ticked_added : (old new : State) → IsTicked old new → (more : List Change) × (new.journal ≡ old.journal ++ more)
ticked_added old new (inl same) = none_added old.journal new.journal same.0
ticked_added old new (inr (one, (none, (changed, taken)))) = (record { by = Session old.sessions.taken; settings = old.work.settings } ∷ [], changed)

pub adds_by : ((device : State) (payload drawn : List ℕ) → IsHeard device (device_after device (Hears payload drawn)))
    → ((device : State) (drawn : List ℕ) → IsTicked device (device_after device (Ticks drawn)))
    → ((device : State) → (device_after device Wakes).journal ≡ device.journal)
    → ((device : State) (value : ℕ) → (settings : List Setting) × IsChanged device.journal Local settings (device_after device (Sets value)).journal) → Adds
adds_by heard ticked woken by_hand device (Hears payload drawn) = heard_added device (device_after device (Hears payload drawn)) (heard device payload drawn)
adds_by heard ticked woken by_hand device (Ticks drawn) = ticked_added device (device_after device (Ticks drawn)) (ticked device drawn)
adds_by heard ticked woken by_hand device Wakes = none_added device.journal (device_after device Wakes).journal (woken device)
adds_by heard ticked woken by_hand device (Sets value) =
    (record { by = Local; settings = (by_hand device value).0 } ∷ [], (by_hand device value).1)

module _ (adds : Adds) where
  grows : Grows
  grows device event =
      let (more, added) = adds device event in
      let long : length (device_after device event).journal ≡ length device.journal + length more = ap length added ∙ length-append device.journal more in
      omega (arith, long)

  pub new_are : (device : State) (event : DeviceEvent) → (device_after device event).journal ≡ device.journal ++ new_changes device event
  new_are device event =
      let (more, added) = adds device event in
      added ∙ ap (λ (l : List Change). device.journal ++ l) (sym (ap (λ (l : List Change). drop (length device.journal) l) added ∙ drop-append_seam device.journal more))

-- ---- what is shown over lists of devices

pub show_none : (T : List Entry) (devices : List State) → ((n : ℕ) → made n T ≡ []) → AllShow T devices devices
show_none T [] none = tt
show_none T (d ∷ devices) none = (record { changes = []; changed = sym (append-nil d.journal); entered = none d.node }, show_none T devices none)

shows_then : (a b : List Entry) (x y z : State) → IsSame x y → Shows a x y → Shows b y z → Shows (a ++ b) x z
shows_then a b x y z same first later = record {
  changes = first.changes ++ later.changes;
  changed = later.changed ∙ (ap (λ (l : List Change). l ++ later.changes) first.changed ∙ append_assoc x.journal first.changes later.changes);
  entered = made_both x.node a b
      ∙ (ap (λ (l : List Made). l ++ made x.node b) first.entered
      ∙ (ap (λ (l : List Made). flat_map made_by first.changes ++ l) (ap (λ (n : ℕ). made n b) (sym same.node) ∙ later.entered)
      ∙ sym (flat_map-append made_by first.changes later.changes)));
}

pub show_then : (a b : List Entry) (xs ys zs : List State) → AreSame xs ys → AllShow a xs ys → AllShow b ys zs → AllShow (a ++ b) xs zs
show_then a b [] [] [] same first later = tt
show_then a b [] [] (z ∷ zs) same first later = absurd later
show_then a b [] (y ∷ ys) zs same first later = absurd first
show_then a b (x ∷ xs) [] zs same first later = absurd first
show_then a b (x ∷ xs) (y ∷ ys) [] same first later = absurd later
show_then a b (x ∷ xs) (y ∷ ys) (z ∷ zs) same first later =
    (shows_then a b x y z same.0 first.0 later.0, show_then a b xs ys zs same.1 first.1 later.1)

-- one device changed, and only its changes are shown
show_rest : (T : List Entry) (node : ℕ) (devices : List State) → ((n : ℕ) → n ≢ node → made n T ≡ []) → AllByRecursion (λ (other : State). other.node ≢ node) devices → AllShow T devices devices
show_rest T node [] elsewhere apart = tt
show_rest T node (d ∷ devices) elsewhere apart =
    (record { changes = []; changed = sym (append-nil d.journal); entered = elsewhere d.node apart.0 }, show_rest T node devices elsewhere apart.1)

pub node_at : (P : State → Type 0) (devices : List State) (place : ℕ) (device : State) → AllByRecursion P devices → slice_get devices place ≡ Some device → P device
node_at P [] place device all at = absurd cc
node_at P (d ∷ devices) zero device all at = let is : d ≡ device = cc in subst P is all.0
node_at P (d ∷ devices) (suc place) device all at = node_at P devices place device all.1 at

show_set : (T : List Entry) (devices : List State) (place : ℕ) (device other : State) → AreApart devices → slice_get devices place ≡ Some device → Shows T device other
    → ((n : ℕ) → n ≢ device.node → made n T ≡ []) → AllShow T devices (slice_set devices place other)
show_set T [] place device other apart at shows elsewhere = tt
show_set T (d ∷ devices) zero device other apart at shows elsewhere =
    let is : device ≡ d = cc in (
      subst (λ (s : State). Shows T s other) is shows,
      show_rest T d.node devices (λ n away. elsewhere n (λ e. away (e ∙ ap (λ (s : State). s.node) is))) apart.0,
    )
show_set T (d ∷ devices) (suc place) device other apart at shows elsewhere = (
  record {
    changes = [];
    changed = sym (append-nil d.journal);
    entered = elsewhere d.node (λ e. node_at (λ (s : State). s.node ≢ d.node) devices place device apart.0 at (sym e));
  },
  show_set T devices place device other apart.1 at shows elsewhere,
)

pub apart_node : (old new : List State) (n n' : ℕ) → n' ≡ n → AreSame old new → AllByRecursion (λ (s : State). s.node ≢ n) old → AllByRecursion (λ (s : State). s.node ≢ n') new
apart_node [] [] n n' e same all = tt
apart_node [] (y ∷ new) n n' e same all = absurd same
apart_node (x ∷ old) [] n n' e same all = absurd same
apart_node (x ∷ old) (y ∷ new) n n' e same all = ((λ at. all.0 (sym same.0.node ∙ (at ∙ e))), apart_node old new n n' e same.1 all.1)

pub stays_apart : (old new : List State) → AreSame old new → AreApart old → AreApart new
stays_apart [] [] same apart = tt
stays_apart [] (y ∷ new) same apart = absurd same
stays_apart (x ∷ old) [] same apart = absurd same
stays_apart (x ∷ old) (y ∷ new) same apart = (apart_node old new x.node y.node same.0.node same.1 apart.0, stays_apart old new same.1 apart.1)

-- ---- events of the machine

note_still : (w : Outside) (e : Entry) → (happens_outside w (Host_notes e)).devices ≡ w.devices
unfolding devices_after
note_still w e = refl

taken_still : (w : Outside) (count : ℕ) → (happens_outside w (host_takes count)).devices ≡ w.devices
unfolding devices_after
taken_still w count = refl

-- where nothing is shown, and the devices are as they were
unmoved : (T : List Entry) (old new : List State) → new ≡ old → Others T → TellsOne (λ n. made n T) old new
unmoved T old new e others = inl (e, λ n. none_made n T others)

-- an event shows the changes of the one device that it moves, and no others
pub event_tells : Adds → (m : Machine) (event : Event) → May m event → TellsOne (λ n. made n (entries m event)) m.outside.devices (happens m event).outside.devices
unfolding happens entries May
event_tells adds m (Outside_does event) may = own_told (grows adds) m.outside event may.0
event_tells adds m (Host_does event) may =
    unmoved (answer_entries m event) m.outside.devices (happens m (Host_does event)).outside.devices
    (devices_host-all m (event ∷ []))
    (all-append IsOther (host_entries m (event ∷ [])) _ (host_other m.outside m.host.state (event ∷ [])) (answered_other (host_does m (event ∷ [])).outside m.host.state event))
event_tells adds m (Host_takes count rest items events) may =
    unmoved (host_entries (fed m count rest) events) m.outside.devices (happens m (Host_takes count rest items events)).outside.devices
    (routed_still (fed m count rest).outside (outs_all m.host.state events) ∙ taken_still m.outside count)
    (host_other (fed m count rest).outside m.host.state events)
event_tells adds m Decoder_ticks may = inl (refl, λ n. refl)
event_tells adds m (Refuses line refusal) may =
    unmoved (entries_outside m.outside (Host_notes (Refused refusal))) m.outside.devices (happens m (Refuses line refusal)).outside.devices
    (note_still m.outside (Refused refusal)) (note_other m.outside (Refused refusal) tt)
event_tells adds m (Shows_values node) may =
    unmoved (entries_outside m.outside (Host_notes (shown_values m.host.state node))) m.outside.devices (happens m (Shows_values node)).outside.devices
    (note_still m.outside (shown_values m.host.state node)) (note_other m.outside (shown_values m.host.state node) tt)
event_tells adds m (Restarts state) may = inl (refl, λ n. refl)

module _ (adds : Adds) (goes : (m : Machine) (event : Event) → GoOn m.outside.devices (happens m event).outside.devices)
    (same : (old new : List State) → GoOn old new → AreSame old new) where
  show_one : (T : List Entry) (old new : List State) → AreApart old → TellsOne (λ n. made n T) old new → AllShow T old new
  show_one T old new apart (inl (e, none)) = subst (λ (l : List State). AllShow T old l) (sym e) (show_none T old none)
  show_one T old new apart (inr tells) =
      subst (λ (l : List State). AllShow T old l) (sym tells.stands)
      (show_set T old tells.place tells.device (device_after tells.device tells.event) apart tells.stood
      (record { changes = new_changes tells.device tells.event; changed = new_are adds tells.device tells.event; entered = tells.here }) tells.elsewhere)

  pub event_shows : (m : Machine) (event : Event) → May m event → AreApart m.outside.devices → AllShow (entries m event) m.outside.devices (happens m event).outside.devices
  event_shows m event may apart = show_one (entries m event) m.outside.devices (happens m event).outside.devices apart (event_tells adds m event may)

  pub run_shows : (m : Machine) (events : List Event) → MayAll m events → AreApart m.outside.devices → AllShow (entries_all m events) m.outside.devices (happens_all m events).outside.devices
  run_shows m [] may apart = show_none [] m.outside.devices (λ n. refl)
  run_shows m (e ∷ events) may apart =
      let are = same m.outside.devices (happens m e).outside.devices (goes m e) in
      show_then (entries m e) (entries_all (happens m e) events) m.outside.devices (happens m e).outside.devices (happens_all (happens m e) events).outside.devices are
      (event_shows m e may.0 apart)
      (run_shows (happens m e) events may.1 (stays_apart m.outside.devices (happens m e).outside.devices are apart))

-- ---- from the first change on

shown_device : (T : List Entry) (old new : State) → IsSame old new → old.journal ≡ [] → Shows T old new → IsShown T new
shown_device T old new same none shows =
    let all : new.journal ≡ shows.changes = shows.changed ∙ ap (λ (l : List Change). l ++ shows.changes) none in
    ap (λ (n : ℕ). made n T) same.node ∙ (shows.entered ∙ ap (λ (l : List Change). flat_map made_by l) (sym all))

pub shown_all : (T : List Entry) (old new : List State) → AreSame old new → AreUnchanged old → AllShow T old new → AllByRecursion (IsShown T) new
shown_all T [] [] same none shows = tt
shown_all T [] (y ∷ new) same none shows = absurd same
shown_all T (x ∷ old) [] same none shows = absurd same
shown_all T (x ∷ old) (y ∷ new) same none shows = (shown_device T x y same.0 none.0 shows.0, shown_all T old new same.1 none.1 shows.1)

-- ---- sessions in groups

-- the session of each setting that these changes made
sessions_of : List Change → List ℕ
sessions_of journal = flat_map (λ (made : Made). by_session made.by) (flat_map made_by journal)

of_change : (by : By) (settings : List Setting) → List ℕ
of_change by settings = flat_map (λ (made : Made). by_session made.by) (map (λ s. record { by = by; setting = s }) settings)

sessions_more : (change : Change) (journal : List Change) → sessions_of (change ∷ journal) ≡ of_change change.by change.settings ++ sessions_of journal
unfolding sessions_of of_change
sessions_more change journal = flat_map-append (λ (made : Made). by_session made.by) (made_by change) (flat_map made_by journal)

all_one : (P : ℕ → Type 0) (by : By) (settings : List Setting) → AllByRecursion P (by_session by) → AllByRecursion P (of_change by settings)
unfolding of_change
all_one P by [] all = tt
all_one P by (s ∷ settings) all = all-append P (by_session by) (of_change by settings) all (all_one P by settings all)

all_left : (P : ℕ → Type 0) (xs ys : List ℕ) → AllByRecursion P (xs ++ ys) → AllByRecursion P xs
all_left P [] ys all = tt
all_left P (x ∷ xs) ys all = (all.0, all_left P xs ys all.1)

all_right : (P : ℕ → Type 0) (xs ys : List ℕ) → AllByRecursion P (xs ++ ys) → AllByRecursion P ys
all_right P [] ys all = all
all_right P (x ∷ xs) ys all = all_right P xs ys all.1

all_sessions : (P : ℕ → Type 0) (journal : List Change) → AllByRecursion P (sessions_by journal) → AllByRecursion P (sessions_of journal)
unfolding sessions_of
all_sessions P [] all = tt
all_sessions P (change ∷ journal) all =
    subst (λ (l : List ℕ). AllByRecursion P l) (sym (sessions_more change journal))
    (all-append P (of_change change.by change.settings) (sessions_of journal)
    (all_one P change.by change.settings (all_left P (by_session change.by) (sessions_by journal) all))
    (all_sessions P journal (all_right P (by_session change.by) (sessions_by journal) all)))

-- the settings of one session, and then later ones
group_then : (session : ℕ) (settings : List Setting) (more : List ℕ) → AllByRecursion (λ later. session ≤ later) more → NeverFalls more → NeverFalls (of_change (Session session) settings ++ more)
unfolding of_change
group_then session [] more above ordered = ordered
group_then session (s ∷ settings) more above ordered = (
  all-append (λ later. session ≤ later) (of_change (Session session) settings) more
      (all_one (λ later. session ≤ later) (Session session) settings (let same : session ≤ session = omega arith in (same, tt))) above,
  group_then session settings more above ordered,
)

none_then : (by : By) (settings : List Setting) (more : List ℕ) → by_session by ≡ [] → NeverFalls more → NeverFalls (of_change by settings ++ more)
unfolding of_change
none_then by [] more none ordered = ordered
none_then by (s ∷ settings) more none ordered =
    subst (λ (l : List ℕ). NeverFalls ((l ++ of_change by settings) ++ more)) (sym none) (none_then by settings more none ordered)

weaker : (n : ℕ) (xs : List ℕ) → AllByRecursion (λ later. n < later) xs → AllByRecursion (λ later. n ≤ later) xs
weaker n [] all = tt
weaker n (x ∷ xs) all = (omega (arith, all.0), weaker n xs all.1)

-- a change, and those after it
after_change : (by : By) (settings : List Setting) (journal : List Change) → Rises (by_session by ++ sessions_by journal)
    → (Rises (sessions_by journal) → NeverFalls (sessions_of journal)) → NeverFalls (of_change by settings ++ sessions_of journal)
after_change (Session session) settings journal rises more =
    group_then session settings (sessions_of journal) (all_sessions (λ later. session ≤ later) journal (weaker session (sessions_by journal) rises.0)) (more rises.1)
after_change Plain settings journal rises more = none_then Plain settings (sessions_of journal) refl (more rises)
after_change Local settings journal rises more = none_then Local settings (sessions_of journal) refl (more rises)

sessions_never_fall : (journal : List Change) → Rises (sessions_by journal) → NeverFalls (sessions_of journal)
unfolding sessions_of
sessions_never_fall [] rises = tt
sessions_never_fall (change ∷ journal) rises =
    subst (λ (l : List ℕ). NeverFalls l) (sym (sessions_more change journal))
    (after_change change.by change.settings journal rises (λ later. sessions_never_fall journal later))

pub groups : (T : List Entry) (device : State) → IsShown T device → TakesOnce device → NeverFalls (applied device.node T)
unfolding sessions_of
groups T device shown once =
    subst (λ (l : List Made). NeverFalls (flat_map (λ (made : Made). by_session made.by) l)) (sym shown) (sessions_never_fall device.journal once.rising)
