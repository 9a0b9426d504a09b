-- The life of each device goes on with every event of a line, by its phases.
use Rattle.std.proofs.Common.{◌≡◌, ◌≢◌, ◌≤◌, ◌<◌, ℕ, zero, suc, ◌+◌, ◌-◌, ◌==◌, ◌&&◌, not, Bool, true, false, if◌then◌else◌, List, [], ◌∷◌, ◌++◌, length, length-append, map, length-set, inl, inr, ◌⊎◌, refl, sym, ap, subst, ◌∙◌, append-nil, nat_lt, arith}
use Rattle.std.proofs.lemmas.Bool.Decides.{nat_tests}
use Rattle.std.proofs.lemmas.Bool.{cases_lt, eq-eqb, ne_eqb}
use Rattle.std.proofs.lemmas.Option.{slice_get_within}
use Rattle.std.specs.Prelude.{Option, Some, None, slice_get, slice_set}
use Rattle.std.specs.List.{AllByRecursion}
use Rattle.route_table.specs.declared.route.Route.{Route}
use Rattle.device_sim.specs.State.{State}
use Rattle.device_sim.specs.Event.{DeviceEvent, Ticks, Wakes, Sets, device_after, device_replies}
use Rattle.mesh_sim.specs.Air.{AirState, is_joined as joined_in}
use Rattle.mesh_sim.specs.Fates.{place_of}
use Rattle.zw_text.specs.declared.line.Line.{Line}
use Rattle.zw_text.specs.declared.line.Line.TheVariants as lines
use Rattle.zw_text.specs.declared.entry.Entry.{Entry}
use Rattle.zw_text.specs.declared.entry.Entry.TheVariants as entry
use Rattle.zw_text.specs.declared.entry.Refusal.TheVariants.{NoDevice}
use Rattle.zw_text.specs.Transcript.{line_of, lines_run, line_after, time_of as last_time}
use Rattle.zw_text.proofs.Views.{folded-append}
use Rattle.law_transcript.specs.Restarts.{is_repeat, repeats, ticks_asked}
use Rattle.law_transcript.specs.Devices.{ComingAt, after_events, coming_of, ticks_in, ticks_lived, comings, lived_by, asked_by, brought, sent_from}
use Rattle.law_transcript.specs.Nodes.{controller, is_joined}
use Rattle.host_model.specs.Ticking.{tick_events}
use Rattle.outside_model.specs.State.{OuterState, Outside, first_outer}
use Rattle.outside_model.specs.Devices.{acts, acts_at, device_set, MayAct, acts_by_hand, set_by_hand, MayActByHand}
use Rattle.outside_model.specs.Events.{OuterEvent, Begins_line, Begins_tick, Arrives, Gives, Device_ticks, Repeats, Wakes_device, Sets_device, outcome, devices_after, stamp, ticked_entry, May as MayOutside, happens as happens_outside, entries as entries_outside}
use Rattle.world_model.specs.State.{Machine}
use Rattle.world_model.specs.Events.{Event, Outside_does, happens, entries, May}
use Rattle.world_model.specs.Lines.{IsEffect}
use Rattle.proof_air.specs.proof_walk.Outside.{CoversOuter, nothing}
use Rattle.proof_air.specs.proof_walk.Phases.{Phase, Between, Said_line, Begun, Doing, To_tick, Ticked, Arriving, Giving, Ticking_devices, Ticking_chip, Ticking_decoder, Ticking_host, Sleeping, Submitting, Moving, Moved, Turns, Goes}
use Rattle.proof_air.specs.proof_walk.ByLine.{CoversLine}
use Rattle.proof_air.specs.proof_walk.Time.{KnowTime}
use Rattle.proof_air.specs.proof_walk.Walk.{WalkOver, both_know}
use Rattle.proof_air.proofs.ByLine.{effect_covered}
use Rattle.proof_air.proofs.Stepping.{Steps, event_then}
use Rattle.proof_air.proofs.Times.{outcome_time, same_number}
use Rattle.proof_air.proofs.ChangesOutside.{place_is}
use Rattle.proof_air.proofs.DevicePlaces.{go_none, go_same}
use Rattle.proof_air.specs.Hearing.{KnowAir}
use Rattle.proof_air.specs.Logs.{Tie as TieAir}
use Rattle.proof_air.proofs.Handling.{tie_here}
use Rattle.proof_devices.specs.Living.{Keeping, Tie, RestedWith, lived_in, InTick, MayAny, KnownNumber, MovesNone, IsActing, SayingWith, Opened, ActsWith, KnowLives}
use Rattle.proof_devices.proofs.Quiet.{AreQuiet, AreBy, AreIdle, are_quiet, idle_quiet, number_idle, stamp_idle, acts_by, same_clock, machine_still}
use Rattle.proof_devices.proofs.Shown.{lived_as, still_brought, said_brought, asks_none}
use Rattle.proof_devices.proofs.Joined.{time_joins}
use Rattle.proof_devices.proofs.Sent.{acts_sent, replied}
use Rattle.proof_devices.proofs.Keeping.{Keeps, Grounds, Replying, idle_rests, others_rest, quietly_replies}
use Rattle.proof_devices.proofs.Places.{AlsoGoes, also_same, same_at, same_place, tie_still, tie_set, tie_first}
use Rattle.proof_devices.proofs.Hearing.{arrives_enters, again_enters, enters_tie}
use Rattle.proof_devices.proofs.Numbers.{each_any, number_kept, number_waits, lived_ticking, same_frame}

-- ---- ticks by places

-- of a place that is reached, and one that is not
lived_now : (reached clock place : ℕ) → place < reached → lived_in reached clock place ≡ clock
lived_now reached clock place below = let is : nat_lt place reached ≡ true = grind (arith, below, nat_tests) in ap (λ (b : Bool). if b then clock else clock - 1) is

lived_later : (reached clock place : ℕ) → reached ≤ place → lived_in reached clock place ≡ clock - 1
lived_later reached clock place above = let is : nat_lt place reached ≡ false = grind (arith, above, nat_tests) in ap (λ (b : Bool). if b then clock else clock - 1) is

pub lived_none : (clock place : ℕ) → lived_in 0 clock place ≡ clock - 1
lived_none clock place = lived_later 0 clock place (omega arith)

lived_apart : (place clock other : ℕ) → other ≢ place → lived_in (place + 1) clock other ≡ lived_in place clock other
lived_apart place clock other apart = by (cases_lt other place)
  where
    by : (other < place) ⊎ (place ≤ other) → lived_in (place + 1) clock other ≡ lived_in place clock other
    by (inl below) = lived_now (place + 1) clock other (omega (arith, below)) ∙ sym (lived_now place clock other below)
    by (inr above) =
        let more : place + 1 ≤ other = omega (arith, above, apart) in
        lived_later (place + 1) clock other more ∙ sym (lived_later place clock other above)

-- ---- by hand

module _ (Also : Keeping) (olds : List State) (Joins : List Entry → AirState → Type 0) (keeps : Keeps olds Also Joins) (line : Line) (past : List Entry) (m : Machine)
    (saying : SayingWith Also olds line past m) where
  abbrev ticks_so : ℕ
  ticks_so = m.outside.outer.clock

  -- what else is kept goes over the words of the line
  pub also_said : (old : State) (events : List DeviceEvent) → old.node ≢ controller → comings events ≡ brought old.node saying.before → ticks_lived events ≡ ticks_so
      → Also saying.before old events → Also past old events
  also_said old events apart came ticked also =
      subst (λ (l : List Entry). Also l old events) (sym saying.is)
      (keeps.said saying.before saying.words line old events apart saying.read (record { came = came; ticked = ticked ∙ saying.clock }) also)

  -- a line that wakes or sets none brings nothing
  said_none : ((node ticks : ℕ) → asked_by node ticks (line ∷ []) ≡ []) → (node : ℕ) → brought node past ≡ brought node saying.before
  said_none none node =
      ap (brought node) saying.is
      ∙ (said_brought node saying.before saying.words line saying.read
      ∙ (ap (λ (l : List ComingAt). brought node saying.before ++ l) (none node (ticks_asked (lines_run saying.before))) ∙ append-nil (brought node saying.before)))

  -- the words of a line that wakes or sets none bring nothing
  pub after_words : ((node ticks : ℕ) → asked_by node ticks (line ∷ []) ≡ []) → RestedWith Also olds past m
  after_words none =
      tie_still Also olds (λ place. ticks_so) (λ place. ticks_so) saying.before past m.outside m.outside refl (λ place. refl) (λ place old first apart. said_none none old.node)
      (λ place old events apart came ticked also. also_said old events apart came ticked also) saying.rested

  -- a device is woken or set
  module _ (node : ℕ) (event : DeviceEvent) (route : Option Route) (told : List Entry) (v : Outside) (none : ticks_in event ≡ 0)
      (asks : (n ticks : ℕ) → asked_by n ticks (line ∷ []) ≡ (if node == n then coming_of ticks event else [])) (asked : ticks_so ≤ ticks_asked (lines_run past)) (joins : Joins past m.outside.outer.air) where
    grown : AreQuiet told → (n : ℕ) → brought n (past ++ told) ≡ brought n saying.before ++ (if node == n then coming_of ticks_so event else [])
    grown quiet n =
        still_brought n past told quiet
        ∙ (ap (brought n) saying.is
        ∙ (said_brought n saying.before saying.words line saying.read
        ∙ (ap (λ (l : List ComingAt). brought n saying.before ++ l) (asks n (ticks_asked (lines_run saying.before)))
        ∙ ap (λ (k : ℕ). brought n saying.before ++ (if node == n then coming_of k event else [])) (sym saying.clock))))

    grown_elsewhere : AreQuiet told → (n : ℕ) → n ≢ node → brought n (past ++ told) ≡ brought n saying.before
    grown_elsewhere quiet n apart =
        let other : (node == n) ≡ false = ne_eqb node n (λ same. apart (sym same)) in
        grown quiet n ∙ (ap (λ (b : Bool). brought n saying.before ++ (if b then coming_of ticks_so event else [])) other ∙ append-nil (brought n saying.before))

    -- that of the node, which is there
    hand_some : (place : ℕ) (device : State) → place_of node m.outside.devices ≡ Some place → slice_get m.outside.devices place ≡ Some device
        → v.devices ≡ slice_set m.outside.devices place (device_after device event) → AreBy device.node told
        → (device.node ≢ controller → sent_from device.node told ≡ replied (joined_in m.outside.outer.air device.node) (device_replies device event)) → Tie Also olds (λ place. ticks_so) (past ++ told) v
    hand_some place device first stood set all sent =
        let quiet : AreQuiet told = are_quiet device.node told all in
        let here : (node == node) ≡ true = eq-eqb node node refl in
        let own : device.node ≡ node = place_is node m.outside.devices place device first stood in
        tie_first Also olds ticks_so saying.before (past ++ told) m.outside v node place device event first stood set none
        (λ old same apart. (
          grown quiet node ∙ ap (λ (b : Bool). brought node saying.before ++ (if b then coming_of ticks_so event else [])) here,
          λ events runs came lived comes ticked also. does_so device old events own same apart runs all sent came lived comes ticked also,
        ))
        (λ other differ apart. (
          grown_elsewhere quiet other.node differ,
          λ events came ticked also. keeps.rests past told other events apart (others_rest device.node other.node past told all (λ is. differ (is ∙ own)) apart)
              (also_said other events apart came ticked also),
        )) saying.rested
      where
        does_so : (device old : State) (events : List DeviceEvent) → device.node ≡ node → old.node ≡ node → node ≢ controller → device ≡ after_events old events → AreBy device.node told
            → (device.node ≢ controller → sent_from device.node told ≡ replied (joined_in m.outside.outer.air device.node) (device_replies device event))
            → comings events ≡ brought old.node saying.before → ticks_lived events ≡ ticks_so → comings (events ++ event ∷ []) ≡ brought old.node (past ++ told)
            → ticks_lived (events ++ event ∷ []) ≡ ticks_so → Also saying.before old events → Also (past ++ told) old (events ++ event ∷ [])
        does_so device old events own same apart runs all sent came lived comes ticked also =
            let replying : Replying device.node (joined_in m.outside.outer.air device.node) (device_replies device event) past told
            = quietly_replies device.node (joined_in m.outside.outer.air device.node) (device_replies device event) past told (are_quiet device.node told all) (sent (λ is. apart (sym own ∙ is))) in
            let said = said_brought old.node saying.before saying.words line saying.read in
            let more = ap length (ap (brought old.node) saying.is ∙ said) ∙ length-append (brought old.node saying.before) (asked_by old.node (ticks_asked (lines_run saying.before)) (line ∷ [])) in
            let count = ap length came in
            keeps.does past told m.outside.outer.air old events event (λ is. apart (sym same ∙ is)) joins
            (subst (λ (n : ℕ). Replying n (joined_in m.outside.outer.air n) (device_replies (after_events old events) event) past told) (own ∙ sym same)
            (subst (λ (s : State). Replying device.node (joined_in m.outside.outer.air device.node) (device_replies s event) past told) runs replying))
            (omega (arith, more, count)) comes (subst (λ (n : ℕ). n ≤ ticks_asked (lines_run past)) (sym ticked) asked)
            (also_said old events (λ is. apart (sym same ∙ is)) came lived also)

    -- there is none
    hand_none : place_of node m.outside.devices ≡ None → v.devices ≡ m.outside.devices → AreIdle told → Tie Also olds (λ place. ticks_so) (past ++ told) v
    hand_none first set idle =
        let no_place : (place : ℕ) (old : State) → place_of old.node olds ≡ Some place → old.node ≡ node → ⊥
        = λ place old is same.
        (let found : Some place ≡ None = sym is ∙ (ap (λ (n : ℕ). place_of n olds) same ∙ (sym (same_place node olds m.outside.devices (go_same olds m.outside.devices saying.rested.go)) ∙ first)) in cc) in
        tie_still Also olds (λ place. ticks_so) (λ place. ticks_so) saying.before (past ++ told) m.outside v set (λ place. refl)
        (λ place old is apart. grown_elsewhere (idle_quiet told idle) old.node (no_place place old is))
        (λ place old events apart came ticked also. keeps.rests past told old events apart (idle_rests old.node past told apart idle) (also_said old events apart came ticked also)) saying.rested

-- the number of a tick lets no node join
pub ticked_joins : (past : List Entry) (o : OuterState) (node : ℕ) → is_joined (past ++ ticked_entry o) node ≡ is_joined past node
ticked_joins past o node = by (o.in_tick && not o.stamped)
  where
    by : (b : Bool) → is_joined (past ++ (if b then entry.Time o.clock ∷ [] else [])) node ≡ is_joined past node
    by true = time_joins past o.clock node
    by false = ap (λ (l : List Entry). is_joined l node) (append-nil past)

-- in a line by which a device acts not all events move none
pub moves_one : (line : Line) (m : Machine) (events : List Event) → IsActing line → IsEffect line m events → AllByRecursion (CoversOuter MovesNone) events → ⊥
moves_one (lines.Repeat frame) m events acting (inner, (drawn, route, one), are) none =
    (subst (AllByRecursion (CoversOuter MovesNone)) (are ∙ ap (λ (l : List OuterEvent). map Outside_does l) one) none).0
moves_one (lines.Wake node) m events acting (inner, (route, one), are) none =
    (subst (AllByRecursion (CoversOuter MovesNone)) (are ∙ ap (λ (l : List OuterEvent). map Outside_does l) one) none).0
moves_one (lines.Local node value) m events acting (inner, (route, one), are) none =
    (subst (AllByRecursion (CoversOuter MovesNone)) (are ∙ ap (λ (l : List OuterEvent). map Outside_does l) one) none).0
moves_one line m events acting is none = acting

-- the words of a `repeat`
pub repeats_said : (Also : Keeping) (olds : List State) (frame : ℕ) (past : List Entry) (m : Machine) → SayingWith Also olds (lines.Repeat frame) past m → repeats past ≡ true
repeats_said Also olds frame past m saying =
    ap repeats saying.is ∙ ap is_repeat (folded-append line_after [] saying.before (entry.Said saying.words ∷ []) ∙ saying.read)

-- ---- phases

module _ (olds : List State) (Also : Keeping) (Joins : List Entry → AirState → Type 0) (keeps : Keeps olds Also Joins) (Extra : Phase → List Entry → Machine → Type 0)
    (grounds : Grounds olds Also Joins Extra) where
  abbrev Ground : Phase → List Entry → Machine → Type 0
  Ground = both_know (both_know KnowAir KnowTime) Extra

  abbrev Know : Phase → List Entry → Machine → Type 0
  Know = KnowLives Also olds

  -- nothing comes and nothing is done
  idly : (ticks : ℕ → ℕ) (past told : List Entry) → AreIdle told → AlsoGoes Also olds ticks past (past ++ told)
  idly ticks past told idle = λ place old events apart came ticked also. keeps.rests past told old events apart (idle_rests old.node past told apart idle) also

  abbrev Keeps_so : Phase → List Entry → Machine → Event → Type 0
  Keeps_so = Steps MayAny Know

  -- ---- events at which no device does anything

  rest_kept : (past : List Entry) (m : Machine) (event : Event) → CoversOuter MovesNone event → May m event → RestedWith Also olds past m
      → RestedWith Also olds (past ++ entries m event) (happens m event)
  rest_kept past m event none may rested =
      let still = machine_still m event none may in
      tie_still Also olds (λ place. m.outside.outer.clock) (λ place. (happens m event).outside.outer.clock) past (past ++ entries m event) m.outside (happens m event).outside still.devices
      (λ place. still.clock) (λ place old first apart. still_brought old.node past (entries m event) (idle_quiet (entries m event) still.idle))
      (idly (λ place. m.outside.outer.clock) past (entries m event) still.idle) rested

  tick_kept : (reached : ℕ) (past : List Entry) (m : Machine) (event : Event) → CoversOuter MovesNone event → May m event → InTick Also olds reached past m
      → InTick Also olds reached (past ++ entries m event) (happens m event)
  tick_kept reached past m event none may known =
      let still = machine_still m event none may in
      record {
        tie = tie_still Also olds (lived_in reached m.outside.outer.clock) (lived_in reached (happens m event).outside.outer.clock) past (past ++ entries m event) m.outside
            (happens m event).outside still.devices (λ place. ap (λ (c : ℕ). lived_in reached c place) still.clock)
            (λ place old first apart. still_brought old.node past (entries m event) (idle_quiet (entries m event) still.idle))
            (idly (lived_in reached m.outside.outer.clock) past (entries m event) still.idle) known.tie;
        begun = subst (λ (n : ℕ). 1 ≤ n) (sym still.clock) known.begun;
      }

  -- ---- the words of a line, its beginning, and a tick

  said : (past : List Entry) (m : Machine) (words : List ℕ) (line : Line) → line_of (entry.Said words) ≡ line ∷ [] → Ground Between past m → Know Between past m
      → MayAny past (entry.Said words) × Know (Said_line line) (past ++ entry.Said words ∷ []) m
  said past m words line read ground known =
      let time = ground.0.1.0.0.clock in
      (tt, record { before = past; words = words; is = refl; read = read; clock = omega (arith, time); rested = known })

  begins_line : (line : Line) (past : List Entry) (m : Machine) → Know (Said_line line) past m → Keeps_so (Begun line) past m (Outside_does Begins_line)
  unfolding happens entries outcome devices_after
  begins_line line past m known =
      let later : Machine = happens m (Outside_does Begins_line) in
      let saying : SayingWith Also olds line past later = record {
        before = known.before;
        words = known.words;
        is = known.is;
        read = known.read;
        clock = known.clock;
        rested = record { go = known.rested.go; live = known.rested.live };
      } in
      (tt, subst (λ (l : List Entry). Opened Also olds line l later) (sym (append-nil past)) (saying, refl))

  begins_tick : (ticks : ℕ) (past : List Entry) (m : Machine) → Know (To_tick (suc ticks)) past m → Keeps_so (Ticked ticks) past m (Outside_does Begins_tick)
  unfolding happens entries outcome devices_after
  begins_tick ticks past m known =
      let later : Machine = happens m (Outside_does Begins_tick) in
      let clock : ℕ = m.outside.outer.clock in
      let same : (clock + 1) - 1 ≡ clock = omega arith in
      let in_tick : InTick Also olds 0 past later = record {
        tie = tie_still Also olds (λ place. clock) (lived_in 0 (clock + 1)) past past m.outside later.outside refl (λ place. lived_none (clock + 1) place ∙ same) (λ place old first apart. refl)
            (also_same Also olds (λ place. clock) past) known;
        begun = omega arith;
      } in
      let number : KnownNumber past later = (number_waits past later.outside, each_any past (ticked_entry later.outside.outer)) in
      (tt, subst (λ (l : List Entry). Know (Ticked ticks) l later) (sym (append-nil past)) (in_tick, number))

  -- ---- a frame arrives

  arrives : (frames ticks : ℕ) (past : List Entry) (m : Machine) (drawn : List ℕ) (route : Option Route) → Ground (Arriving (suc frames) ticks) past m → May m (Outside_does (Arrives drawn route))
      → InTick Also olds 0 past m → KnownNumber past m → InTick Also olds 0 (past ++ entries m (Outside_does (Arrives drawn route))) (happens m (Outside_does (Arrives drawn route)))
  unfolding happens entries
  arrives frames ticks past m drawn route ground may known number =
      let w : Outside = m.outside in
      let v : Outside = happens_outside w (Arrives drawn route) in
      let clock : ℕ = w.outer.clock in
      let told : List Entry = entries_outside w (Arrives drawn route) in
      let p : OuterState = (outcome w (Arrives drawn route)).outer in
      let numbers : ticked_entry p ≡ ticked_entry w.outer = same_number w.outer p (outcome_time w (Arrives drawn route) tt) in
      let same : v.outer.clock ≡ clock = same_clock w (Arrives drawn route) tt in
      let time = ground.0.1.0.0.clock in
      let before : Tie Also olds (λ place. clock - 1) past w
      = tie_still Also olds (lived_in 0 clock) (λ place. clock - 1) past past w w refl (λ place. sym (lived_none clock place)) (λ place old first apart. refl)
      (also_same Also olds (lived_in 0 clock) past) known.tie in
      let after : Tie Also olds (λ place. clock - 1) (past ++ told) v
      = enters_tie Also olds Joins keeps (clock - 1) past (ticked_entry p) told w v (number_idle p) (ap (λ (l : List Entry). lived_by (past ++ l)) numbers ∙ lived_ticking past w number.0) (same_frame past p)
      (ticked_joins past p) (omega (arith, time)) (grounds.arriving (suc frames) ticks past m ground.1) before
      (arrives_enters past w drawn route (tie_here (Arriving (suc frames) ticks) past m ground.0.0)) in
      record {
        tie = tie_still Also olds (λ place. clock - 1) (lived_in 0 v.outer.clock) (past ++ told) (past ++ told) v v refl
            (λ place. lived_none v.outer.clock place ∙ ap (λ (n : ℕ). n - 1) same) (λ place old first apart. refl) (also_same Also olds (λ place. clock - 1) (past ++ told)) after;
        begun = subst (λ (n : ℕ). 1 ≤ n) (sym same) known.begun;
      }

  -- ---- a device ticks

  ticks_at : (place : ℕ) (found : Option State) (past : List Entry) (w v : Outside) (drawn : List ℕ) (route : Option Route) → slice_get w.devices place ≡ found
      → MayAct w.outer found (Ticks drawn) route → v.devices ≡ device_set w.devices place found (Ticks drawn) → v.outer.clock ≡ w.outer.clock → 1 ≤ w.outer.clock
      → w.outer.clock ≤ ticks_asked (lines_run past) → Joins past w.outer.air → Tie Also olds (lived_in place w.outer.clock) past w
      → Tie Also olds (lived_in (place + 1) v.outer.clock) (past ++ stamp (acts_at w.outer found (Ticks drawn) route).outer (acts_at w.outer found (Ticks drawn) route).entries) v × (length v.devices ≡ length w.devices)
  ticks_at place None past w v drawn route stood may set same begun asked joins tie = absurd may
  ticks_at place (Some device) past w v drawn route stood may set same begun asked joins tie =
      let clock : ℕ = w.outer.clock in
      let event : DeviceEvent = Ticks drawn in
      let told : List Entry = stamp (acts w.outer device event route).outer (acts w.outer device event route).entries in
      let all : AreBy device.node told = acts_by w.outer device event route in
      let quiet : AreQuiet told = are_quiet device.node told all in
      let now : lived_in (place + 1) v.outer.clock place ≡ clock = lived_now (place + 1) v.outer.clock place (omega arith) ∙ same in
      let was : lived_in place clock place ≡ clock - 1 = lived_later place clock place (omega arith) in
      let one : clock ≡ (clock - 1) + 1 = omega (arith, begun) in (
        tie_set Also olds (lived_in place clock) (lived_in (place + 1) v.outer.clock) past (past ++ told) w v place device event stood set
            (now ∙ (one ∙ ap (λ (n : ℕ). n + 1) (sym was)))
            (λ other apart. ap (λ (c : ℕ). lived_in (place + 1) c other) same ∙ lived_apart place clock other apart)
            (λ old is first apart. (
              still_brought old.node past told quiet ∙ sym (append-nil (brought old.node past)),
              λ events runs came lived comes ticked also.
                  let own : device.node ≡ old.node = same_at olds w.devices place old device (go_same olds w.devices tie.go) is stood in
                  let replying : Replying device.node (joined_in w.outer.air device.node) (device_replies device event) past told
                  = quietly_replies device.node (joined_in w.outer.air device.node) (device_replies device event) past told quiet (acts_sent w.outer device event route (λ at. apart (sym own ∙ at))) in
                  keeps.does past told w.outer.air old events event apart joins
                  (subst (λ (n : ℕ). Replying n (joined_in w.outer.air n) (device_replies (after_events old events) event) past told) own
                  (subst (λ (s : State). Replying device.node (joined_in w.outer.air device.node) (device_replies s event) past told) runs replying))
                  (omega (arith, ap length came)) comes (subst (λ (n : ℕ). n ≤ ticks_asked (lines_run past)) (sym (ticked ∙ now)) asked) also,
            ))
            (λ other old apart is first not_controller. (
              still_brought old.node past told quiet,
              λ events came ticked also. keeps.elsewhere past told w.devices place other device old events tie.go stood is apart not_controller all also,
            )) tie,
        ap length set ∙ length-set w.devices place (device_after device event),
      )

  ticks_set : (w : Outside) (place : ℕ) (drawn : List ℕ) (route : Option Route) → devices_after w (Device_ticks place drawn route) ≡ device_set w.devices place (slice_get w.devices place) (Ticks drawn)
  unfolding devices_after
  ticks_set w place drawn route = refl

  ticks_may : (w : Outside) (place : ℕ) (drawn : List ℕ) (route : Option Route) → MayOutside w (Device_ticks place drawn route) → MayAct w.outer (slice_get w.devices place) (Ticks drawn) route
  unfolding MayOutside
  ticks_may w place drawn route may = may

  device_ticks : (place count ticks : ℕ) (past : List Entry) (m : Machine) (drawn : List ℕ) (route : Option Route) → May m (Outside_does (Device_ticks place drawn route))
      → Ground (Ticking_devices place (suc count) ticks) past m → Know (Ticking_devices place (suc count) ticks) past m
      → Know (Ticking_devices (place + 1) count ticks) (past ++ entries m (Outside_does (Device_ticks place drawn route))) (happens m (Outside_does (Device_ticks place drawn route)))
  unfolding happens entries May outcome
  device_ticks place count ticks past m drawn route may ground known =
      let w : Outside = m.outside in
      let v : Outside = happens_outside w (Device_ticks place drawn route) in
      let same : v.outer.clock ≡ w.outer.clock = same_clock w (Device_ticks place drawn route) tt in
      let time = ground.0.1.0.0.clock in
      let got = ticks_at place (slice_get w.devices place) past w v drawn route refl (ticks_may w place drawn route may.1) (ticks_set w place drawn route) same known.0.begun
      (omega (arith, time)) (grounds.ticking place (suc count) ticks past m ground.1) known.0.tie in
      let count_is = known.1 in
      let long = got.1 in
      (record { tie = got.0; begun = subst (λ (n : ℕ). 1 ≤ n) (sym same) known.0.begun }, omega (arith, count_is, long))

  -- all have ticked
  all_ticked : (place : ℕ) (past : List Entry) (m : Machine) → place + 0 ≡ length m.outside.devices → InTick Also olds place past m → RestedWith Also olds past m
  all_ticked place past m all known = record {
    go = known.tie.go;
    live = λ at old new was first apart stands.
        let within = slice_get_within m.outside.devices at new stands in
        lived_as (Also past old) (Also past old) (lived_in place m.outside.outer.clock at) m.outside.outer.clock (brought old.node past) (brought old.node past) old new
        (sym (lived_now place m.outside.outer.clock at (omega (arith, within, all)))) refl (λ events came ticked also. also) (known.tie.live at old new was first apart stands);
  }

  -- ---- the effect of a line

  -- a frame is repeated
  again : (frame : ℕ) (past : List Entry) (m : Machine) (drawn : List ℕ) (route : Option Route) → TieAir nothing past m.outside → m.outside.outer.clock ≡ ticks_asked (lines_run past)
      → Joins past m.outside.outer.air → Opened Also olds (lines.Repeat frame) past m
      → RestedWith Also olds (past ++ entries m (Outside_does (Repeats frame drawn route))) (happens m (Outside_does (Repeats frame drawn route)))
  unfolding happens entries
  again frame past m drawn route air time joins opened =
      let w : Outside = m.outside in
      let v : Outside = happens_outside w (Repeats frame drawn route) in
      let clock : ℕ = w.outer.clock in
      let told : List Entry = entries_outside w (Repeats frame drawn route) in
      let p : OuterState = (outcome w (Repeats frame drawn route)).outer in
      let numbers : ticked_entry p ≡ [] = same_number w.outer p (outcome_time w (Repeats frame drawn route) tt)
      ∙ ap (λ (b : Bool). if b && not w.outer.stamped then entry.Time w.outer.clock ∷ [] else []) opened.1 in
      let same : v.outer.clock ≡ clock = same_clock w (Repeats frame drawn route) tt in
      let repeated = repeats_said Also olds frame past m opened.0 in
      let lived : lived_by past ≡ clock = ap (λ (b : Bool). if b then ticks_asked (lines_run past) else last_time past - 1) repeated ∙ sym time in
      let before : RestedWith Also olds past m = after_words Also olds Joins keeps (lines.Repeat frame) past m opened.0 (λ node ticks. refl) in
      let after : Tie Also olds (λ place. clock) (past ++ told) v
      = enters_tie Also olds Joins keeps clock past (ticked_entry p) told w v (number_idle p) (ap (λ (l : List Entry). lived_by (past ++ l)) numbers ∙ (ap lived_by (append-nil past) ∙ lived)) (same_frame past p)
      (ticked_joins past p) (omega (arith, time)) joins before (again_enters past w frame drawn route air) in
      tie_still Also olds (λ place. clock) (λ place. v.outer.clock) (past ++ told) (past ++ told) v v refl (λ place. same) (λ place old first apart. refl)
      (also_same Also olds (λ place. clock) (past ++ told)) after

  -- a device is woken or set
  hand_at : (line : Line) (node : ℕ) (event : DeviceEvent) (past : List Entry) (m : Machine) (route : Option Route) (v : Outside) (place : ℕ) (found : Option State) → ticks_in event ≡ 0
      → ((n ticks : ℕ) → asked_by n ticks (line ∷ []) ≡ (if node == n then coming_of ticks event else [])) → m.outside.outer.clock ≤ ticks_asked (lines_run past) → Joins past m.outside.outer.air
      → place_of node m.outside.devices ≡ Some place → slice_get m.outside.devices place ≡ found → MayAct m.outside.outer found event route → v.devices ≡ device_set m.outside.devices place found event
      → SayingWith Also olds line past m
      → Tie Also olds (λ place. m.outside.outer.clock) (past ++ stamp (acts_at m.outside.outer found event route).outer (acts_at m.outside.outer found event route).entries) v
  hand_at line node event past m route v place None none asks asked joins first stood may set saying = absurd may
  hand_at line node event past m route v place (Some device) none asks asked joins first stood may set saying =
      hand_some Also olds Joins keeps line past m saying node event route (stamp (acts m.outside.outer device event route).outer (acts m.outside.outer device event route).entries) v none asks asked joins
      place device first stood set (acts_by m.outside.outer device event route) (λ apart. acts_sent m.outside.outer device event route apart)

  hand : (line : Line) (node : ℕ) (event : DeviceEvent) (past : List Entry) (m : Machine) (route : Option Route) (v : Outside) (place : Option ℕ) → ticks_in event ≡ 0
      → ((n ticks : ℕ) → asked_by n ticks (line ∷ []) ≡ (if node == n then coming_of ticks event else [])) → m.outside.outer.clock ≤ ticks_asked (lines_run past) → Joins past m.outside.outer.air
      → place_of node m.outside.devices ≡ place → MayActByHand m.outside.outer m.outside.devices place event route → v.devices ≡ set_by_hand m.outside.devices place event
      → SayingWith Also olds line past m
      → Tie Also olds (λ place. m.outside.outer.clock)
      (past ++ stamp (acts_by_hand m.outside.outer m.outside.devices place event route).outer (acts_by_hand m.outside.outer m.outside.devices place event route).entries) v
  hand line node event past m route v None none asks asked joins first may set saying =
      hand_none Also olds Joins keeps line past m saying node event route (stamp m.outside.outer (entry.Refused NoDevice ∷ [])) v none asks asked joins first set
      (stamp_idle m.outside.outer (entry.Refused NoDevice ∷ []) (tt, tt))
  hand line node event past m route v (Some place) none asks asked joins first may set saying =
      hand_at line node event past m route v place (slice_get m.outside.devices place) none asks asked joins first refl may set saying

  by_hand : (past told : List Entry) (w v : Outside) → v.outer.clock ≡ w.outer.clock → Tie Also olds (λ place. w.outer.clock) (past ++ told) v → Tie Also olds (λ place. v.outer.clock) (past ++ told) v
  by_hand past told w v same tie =
      tie_still Also olds (λ place. w.outer.clock) (λ place. v.outer.clock) (past ++ told) (past ++ told) v v refl (λ place. same) (λ place old first apart. refl)
      (also_same Also olds (λ place. w.outer.clock) (past ++ told)) tie

  wakes : (node : ℕ) (past : List Entry) (m : Machine) (route : Option Route) → May m (Outside_does (Wakes_device node route)) → m.outside.outer.clock ≤ ticks_asked (lines_run past)
      → Joins past m.outside.outer.air → Opened Also olds (lines.Wake node) past m
      → RestedWith Also olds (past ++ entries m (Outside_does (Wakes_device node route))) (happens m (Outside_does (Wakes_device node route)))
  unfolding happens entries May MayOutside outcome devices_after
  wakes node past m route may asked joins opened =
      let v : Outside = happens_outside m.outside (Wakes_device node route) in
      by_hand past (entries_outside m.outside (Wakes_device node route)) m.outside v (same_clock m.outside (Wakes_device node route) tt)
      (hand (lines.Wake node) node Wakes past m route v (place_of node m.outside.devices) refl (λ n ticks. refl) asked joins refl may.1 refl opened.0)

  sets : (node value : ℕ) (past : List Entry) (m : Machine) (route : Option Route) → May m (Outside_does (Sets_device node value route)) → m.outside.outer.clock ≤ ticks_asked (lines_run past)
      → Joins past m.outside.outer.air → Opened Also olds (lines.Local node value) past m
      → RestedWith Also olds (past ++ entries m (Outside_does (Sets_device node value route))) (happens m (Outside_does (Sets_device node value route)))
  unfolding happens entries May MayOutside outcome devices_after
  sets node value past m route may asked joins opened =
      let v : Outside = happens_outside m.outside (Sets_device node value route) in
      by_hand past (entries_outside m.outside (Sets_device node value route)) m.outside v (same_clock m.outside (Sets_device node value route) tt)
      (hand (lines.Local node value) node (Sets value) past m route v (place_of node m.outside.devices) refl (λ n ticks. refl) asked joins refl may.1 refl opened.0)

  -- the event is this one, and none is left
  done_so : (line : Line) (first is : Event) (left : List Event) (past : List Entry) (m : Machine) → first ∷ left ≡ is ∷ [] → (first ≡ is → RestedWith Also olds (past ++ entries m is) (happens m is))
      → Keeps_so (Doing line left) past m first
  done_so line first is left past m all rested =
      let one : first ≡ is = cc in
      let rest : left ≡ [] = cc in
      subst (λ (l : List Event). Keeps_so (Doing line l) past m first) (sym rest)
      (subst (λ (e : Event). Keeps_so (Doing line []) past m e) (sym one) (each_any past (entries m is), inr (tt, rested one)))

  does_acts : (line : Line) (first : Event) (left : List Event) (past : List Entry) (m : Machine) → May m first → Ground (Doing line (first ∷ left)) past m
      → ActsWith Also olds line (first ∷ left) past m → Joins past m.outside.outer.air → Keeps_so (Doing line left) past m first
  does_acts (lines.Repeat frame) first left past m may ground (opened, acting, (inner, (drawn, route, one), are)) joins =
      let time = ground.0.1.0.0.clock in
      let all : first ∷ left ≡ Outside_does (Repeats frame drawn route) ∷ [] = are ∙ ap (λ (l : List OuterEvent). map Outside_does l) one in
      done_so (lines.Repeat frame) first (Outside_does (Repeats frame drawn route)) left past m all
      (λ same. again frame past m drawn route (tie_here (Doing (lines.Repeat frame) (first ∷ left)) past m ground.0.0) (omega (arith, time)) joins opened)
  does_acts (lines.Wake node) first left past m may ground (opened, acting, (inner, (route, one), are)) joins =
      let time = ground.0.1.0.0.clock in
      let all : first ∷ left ≡ Outside_does (Wakes_device node route) ∷ [] = are ∙ ap (λ (l : List OuterEvent). map Outside_does l) one in
      done_so (lines.Wake node) first (Outside_does (Wakes_device node route)) left past m all (λ same. wakes node past m route (subst (May m) same may) (omega (arith, time)) joins opened)
  does_acts (lines.Local node value) first left past m may ground (opened, acting, (inner, (route, one), are)) joins =
      let time = ground.0.1.0.0.clock in
      let all : first ∷ left ≡ Outside_does (Sets_device node value route) ∷ [] = are ∙ ap (λ (l : List OuterEvent). map Outside_does l) one in
      done_so (lines.Local node value) first (Outside_does (Sets_device node value route)) left past m all
      (λ same. sets node value past m route (subst (May m) same may) (omega (arith, time)) joins opened)
  does_acts line first left past m may ground (opened, acting, is) joins = absurd acting

  -- ---- each event

  rests : (next to : Phase) (event is : Event) (past : List Entry) (m : Machine) → event ≡ is → next ≡ to → CoversOuter MovesNone is → May m event → RestedWith Also olds past m
      → ((later : List Entry) (n : Machine) → RestedWith Also olds later n → Know to later n) → Keeps_so next past m event
  rests next to event is past m event_is next_is none may rested there =
      event_then MayAny Know next to event is past m event_is next_is
      (each_any past (entries m is), there (past ++ entries m is) (happens m is) (rest_kept past m is none (subst (May m) event_is may) rested))

  event_keeps : (here next : Phase) (past : List Entry) (m : Machine) (event : Event) → Goes here m event next → May m event → Ground here past m → Know here past m → Keeps_so next past m event
  event_keeps (Said_line line) next past m event (event_is, next_is) may ground known =
      event_then MayAny Know next (Begun line) event (Outside_does Begins_line) past m event_is next_is (begins_line line past m known)
  event_keeps (Doing line (first ∷ left)) next past m event (event_is, next_is) may ground (inl acts) =
      event_then MayAny Know next (Doing line left) event first past m event_is next_is (does_acts line first left past m (subst (May m) event_is may) ground acts (grounds.acting line first left past m acts ground.1))
  event_keeps (Doing line (first ∷ left)) next past m event (event_is, next_is) may ground (inr (none, rested)) =
      rests next (Doing line left) event first past m event_is next_is none.0 may rested (λ p n k. inr (none.1, k))
  event_keeps (To_tick (suc ticks)) next past m event (event_is, next_is) may ground known =
      event_then MayAny Know next (Ticked ticks) event (Outside_does Begins_tick) past m event_is next_is (begins_tick ticks past m known)
  event_keeps (Arriving (suc frames) ticks) next past m event (drawn, route, event_is, next_is) may ground known =
      let is : Event = Outside_does (Arrives drawn route) in
      let may_it : May m is = subst (May m) event_is may in
      event_then MayAny Know next (Arriving frames ticks) event is past m event_is next_is (
        each_any past (entries m is),
        (arrives frames ticks past m drawn route ground may_it known.0 known.1, number_kept past m is tt may_it known.1),
      )
  event_keeps (Giving (suc results) ticks) next past m event (route, event_is, next_is) may ground known =
      event_then MayAny Know next (Giving results ticks) event (Outside_does (Gives route)) past m event_is next_is
      (each_any past (entries m (Outside_does (Gives route))), tick_kept 0 past m (Outside_does (Gives route)) tt (subst (May m) event_is may) known)
  event_keeps (Ticking_devices place (suc count) ticks) next past m event (drawn, route, event_is, next_is) may ground known =
      event_then MayAny Know next (Ticking_devices (place + 1) count ticks) event (Outside_does (Device_ticks place drawn route)) past m event_is next_is
      (each_any past (entries m (Outside_does (Device_ticks place drawn route))), device_ticks place count ticks past m drawn route (subst (May m) event_is may) ground known)
  event_keeps (Ticking_chip ticks) next past m event (event_is, next_is) may ground known = rests next (Ticking_decoder ticks) event _ past m event_is next_is tt may known (λ p n k. k)
  event_keeps (Ticking_decoder ticks) next past m event (event_is, next_is) may ground known =
      rests next (Ticking_host (tick_events m.host.state) ticks) event _ past m event_is next_is tt may known (λ p n k. k)
  event_keeps (Ticking_host (first ∷ events) ticks) next past m event (event_is, next_is) may ground known = rests next (Ticking_host events ticks) event _ past m event_is next_is tt may known (λ p n k. k)
  event_keeps (Sleeping passes ticks) next past m event (node, wants, event_is, next_is) may ground known = rests next (Sleeping passes ticks) event _ past m event_is next_is tt may known (λ p n k. k)
  event_keeps (Submitting passes ticks) next past m event (asked, is, event_is, next_is) may ground known = rests next (Submitting passes ticks) event _ past m event_is next_is tt may known (λ p n k. k)
  event_keeps (Moving passes ticks) next past m event (rest, ways, event_is, next_is) may ground known = rests next (Moved true passes ticks) event _ past m event_is next_is tt may known (λ p n k. k)
  event_keeps (Moved has_moved passes ticks) next past m event (rest, items, done, event_is, next_is) may ground known =
      rests next (Sleeping passes ticks) event _ past m event_is next_is tt may known (λ p n k. k)
  event_keeps here next past m event goes may ground known = absurd goes

  -- ---- each part that begins

  acting_or_not : (line : Line) → IsActing line ⊎ (IsActing line → ⊥)
  acting_or_not (lines.Repeat frame) = inl tt
  acting_or_not (lines.Wake node) = inl tt
  acting_or_not (lines.Local node value) = inl tt
  acting_or_not line = inr (λ is. is)

  covers_line : (line : Line) → (IsActing line → ⊥) → CoversLine MovesNone line
  covers_line (lines.Repeat frame) none = absurd (none tt)
  covers_line (lines.Wake node) none = absurd (none tt)
  covers_line (lines.Local node value) none = absurd (none tt)
  covers_line lines.Restart none = (tt, tt)
  covers_line line none = tt

  to : (next phase : Phase) (past : List Entry) (m : Machine) → next ≡ phase → Know phase past m → Know next past m
  to next phase past m is known = subst (λ (q : Phase). Know q past m) (sym is) known

  begins_effect : (line : Line) (events : List Event) (past : List Entry) (m : Machine) → IsEffect line m events → Opened Also olds line past m → Know (Doing line events) past m
  begins_effect line events past m is opened = by (acting_or_not line)
    where
      by : IsActing line ⊎ (IsActing line → ⊥) → Know (Doing line events) past m
      by (inl acting) = inl (opened, acting, is)
      by (inr none) = inr (effect_covered MovesNone line m events (covers_line line none) is, after_words Also olds Joins keeps line past m opened.0 (λ node ticks. asks_none node ticks line none))

  effect_done : (line : Line) (past : List Entry) (m : Machine) → Know (Doing line []) past m → RestedWith Also olds past m
  effect_done line past m (inl (opened, acting, is)) = absurd (moves_one line m [] acting is tt)
  effect_done line past m (inr (none, rested)) = rested

  turn_keeps : (here next : Phase) (past : List Entry) (m : Machine) → Turns here m next → Ground here past m → Know here past m → Know next past m
  turn_keeps (Begun line) next past m (inl (events, is, next_is)) ground known = to next (Doing line events) past m next_is (begins_effect line events past m is known)
  turn_keeps (Begun line) next past m (inr (ticks, line_is, next_is)) ground known =
      let opened : Opened Also olds (lines.Tick ticks) past m = subst (λ (l : Line). Opened Also olds l past m) line_is known in
      to next (To_tick ticks) past m next_is (after_words Also olds Joins keeps (lines.Tick ticks) past m opened.0 (λ node count. refl))
  turn_keeps (Doing line []) next past m next_is ground known = to next (Sleeping 64 0) past m next_is (effect_done line past m known)
  turn_keeps (To_tick zero) next past m next_is ground known = to next Between past m next_is known
  turn_keeps (Ticked ticks) next past m next_is ground known = to next (Arriving _ ticks) past m next_is known
  turn_keeps (Arriving zero ticks) next past m next_is ground known = to next (Giving _ ticks) past m next_is known.0
  turn_keeps (Giving zero ticks) next past m next_is ground known = to next (Ticking_devices 0 (length m.outside.devices) ticks) past m next_is (known, omega arith)
  turn_keeps (Ticking_devices place zero ticks) next past m next_is ground known = to next (Ticking_chip ticks) past m next_is (all_ticked place past m known.1 known.0)
  turn_keeps (Ticking_host [] ticks) next past m next_is ground known = to next (Sleeping 64 ticks) past m next_is known
  turn_keeps (Sleeping passes ticks) next past m (wants, next_is) ground known = to next (Submitting passes ticks) past m next_is known
  turn_keeps (Submitting zero ticks) next past m (pumped, next_is) ground known = to next (To_tick ticks) past m next_is known
  turn_keeps (Submitting (suc passes) ticks) next past m (pumped, next_is) ground known = to next (Moving passes ticks) past m next_is known
  turn_keeps (Moving passes ticks) next past m (still, next_is) ground known = to next (Moved false passes ticks) past m next_is known
  turn_keeps (Moved has_moved passes ticks) next past m (still, next_is) ground known = to next (Sleeping _ ticks) past m next_is known
  turn_keeps here next past m turns ground known = absurd turns

  pub devices_walk : WalkOver Ground MayAny Know
  devices_walk = record { said = said; event = event_keeps; turn = turn_keeps }

-- at first nothing has come to a device, and no tick has begun
pub devices_first : (Also : Keeping) (m : Machine) → m.outside.outer ≡ first_outer → ((old : State) → old.node ≢ controller → Also [] old []) → KnowLives Also m.outside.devices Between [] m
unfolding first_outer
devices_first Also m is also =
    let clock : m.outside.outer.clock ≡ 0 = ap (λ (o : OuterState). o.clock) is in
    record {
      go = go_none m.outside.devices;
      live = λ place old new was first apart stands.
          let same : Some old ≡ Some new = sym was ∙ stands in
          let one : new ≡ old = cc in
          record { events = []; runs = one; comes = refl; ticked = sym clock; also = also old apart };
    }
