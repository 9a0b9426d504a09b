-- What a law asks of each kind of entry by itself holds of the entries of each event: one walk over what chip, devices and host enter.
use Rattle.std.proofs.Common.{◌≡◌, ℕ, List, [], ◌∷◌, ◌++◌, refl, sym, subst}
use Rattle.std.specs.Prelude.{Option, None}
use Rattle.std.specs.List.{AllByRecursion}
use Rattle.zw_base.proofs.Each.{all-append, all-weaker}
use Rattle.serial_pipes.specs.Events.{told}
use Rattle.zw_words.specs.declared.side.Side.{Side}
use Rattle.zw_words.specs.declared.side.Side.TheVariants.{Host as by_host}
use Rattle.route_table.specs.declared.route.Route.{Route}
use Rattle.proof_device.specs.device_sim.State.{State}
use Rattle.proof_device.specs.device_sim.Event.{DeviceEvent}
use Rattle.proof_device.specs.mesh_sim.Steps.{AirStep, MayHappen}
use Rattle.zw_text.specs.declared.entry.Entry.{Entry}
use Rattle.zw_text.specs.declared.entry.Entry.TheVariants as entry
use Rattle.zw_text.specs.declared.entry.Ended.TheVariants.{Cancelled}
use Rattle.zw_text.specs.declared.entry.Refusal.{Refusal}
use Rattle.zw_text.specs.Transcript.{line_of}
use Rattle.proof_host.specs.law_transcript.Lists.{EachAfter}
use Rattle.proof_host.specs.host_model.State.{HostState}
use Rattle.proof_host.specs.host_model.Events.{HostEvent, Accepts, Cancels}
use Rattle.proof_host.specs.host_model.Outs.{answers}
use Rattle.proof_device.specs.outside_model.State.{OuterState, Outside}
use Rattle.proof_device.specs.outside_model.Devices.{acts}
use Rattle.proof_device.specs.outside_model.Events.{OuterEvent, Host_writes, Host_takes as host_takes, Host_notes, Host_begins, Arrives, Repeats, Wakes_device, Sets_device, Shows, Clears_pipe, outcome, mesh_of, steps, stamp, happens as happens_outside, entries as entries_outside, Device_ticks, IsCleared}
use Rattle.proof_device.specs.world_model.State.{Machine}
use Rattle.proof_device.specs.world_model.Events.{Event, Outside_does, Host_does, Refuses, Shows_values, happens, entries, May}
use Rattle.proof_device.specs.world_model.Did.{MayAll, entries_all}
use Rattle.proof_device.proofs.Entered.{IsMark}
use Rattle.proof_device.proofs.Entering.{Enters, IsOfChip, IsShowing, MayAnswer, NotesNone, outcome_enters, own_notes_none, stamp_are, steps_enter, told_of_chip, Acts}
use Rattle.proof_walk.specs.Outside.{HasNoWords, IsHearing, IsOfAir, IsNote, IsHostNote, CoversOuter, CoversRefusal, CoversAnswer, IsSimple}
use Rattle.proof_walk.specs.ByLine.{IsOfTick, IsCommon, OfEffect, ShowsNothing}
use Rattle.proof_walk.proofs.HostNotes.{is_note}
use Rattle.proof_walk.proofs.Linking.{acts_of_air}
use Rattle.proof_walk.proofs.Machines.{machine_goes_on}

-- each kind of entry that such an event may have
pub record KindsAre (Is : Entry → Type 0) : Type 0 where
  pub unit : (side : Side) (text : List ℕ) → Is (entry.Written side text)
  pub mark : (told : Entry) → IsMark told → Is told
  pub of_air : (told : Entry) → IsOfAir told → Is told
  pub full : Is entry.ChipFull
  pub time : (tick : ℕ) → Is (entry.Time tick)
  pub note : (told : Entry) → IsHostNote told → Is told

-- each kind that answers a line, and of bytes that are cleared
pub record AnswersAre (Is : Entry → Type 0) : Type 0 where
  pub accepted : (command node : ℕ) → Is (entry.Accepted command node)
  pub refused : (refusal : Refusal) → Is (entry.Refused refusal)
  pub taken_back : (command : ℕ) → Is (entry.Out command Cancelled)
  pub cleared : (told : Entry) → IsCleared told → Is told

-- what is asked by itself, as a law
abbrev Alone : (Entry → Type 0) → List Entry → Entry → Type 0
Alone Is past told = Is told

pub each_alone : (Is : Entry → Type 0) (past told : List Entry) → EachAfter (Alone Is) past told → AllByRecursion Is told
each_alone Is past [] each = tt
each_alone Is past (one ∷ told) each = (each.0, each_alone Is (past ++ one ∷ []) told each.1)

-- ---- any law on entries by themselves

-- what an event may enter is so: outside by itself, and what answers a line
abbrev pub EntersAs : (Entry → Type 0) → Event → Type 0
EntersAs Is (Outside_does event) = (told : Entry) → Enters event told → Is told
EntersAs Is (Host_does event) = (h : HostState) → AllByRecursion Is (answers h event)
EntersAs Is (Refuses line refusal) = Is (entry.Refused refusal)
EntersAs Is (Shows_values node) = (text : List ℕ) → Is (entry.Json text)
EntersAs Is event = Unit {0}

module _ (Is : Entry → Type 0) (of_chip : (told : Entry) → IsOfChip told → Is told) (time : (tick : ℕ) → Is (entry.Time tick)) (note : (told : Entry) → IsHostNote told → Is told) where
  abbrev Keeps : Outside → List Entry → Outside → Type 0
  Keeps w told later = AllByRecursion Is told

  abbrev Allows : OuterEvent → Type 0
  Allows (Host_writes unit) = Unit {0}
  Allows (host_takes count) = Unit {0}
  Allows (Host_notes told) = Is told
  Allows (Host_begins node sessions) = Unit {0}
  Allows event = (told : Entry) → Enters event told → Is told

  any_outer : (w : Outside) (event : OuterEvent) → NotesNone event → ((told : Entry) → Enters event told → Is told) → Keeps w (entries_outside w event) (happens_outside w event)
  any_outer w event none each =
      stamp_are Is time (outcome w event).outer (outcome w event).entries (all-weaker (Enters event) Is each (outcome w event).entries (outcome_enters w event none))

  outer : (w : Outside) (event : OuterEvent) → Allows event → Keeps w (entries_outside w event) (happens_outside w event)
  unfolding outcome
  outer w (Host_writes unit) allows =
      stamp_are Is time (outcome w (Host_writes unit)).outer (told by_host w.outer.to_chip unit)
      (all-weaker IsOfChip Is of_chip (told by_host w.outer.to_chip unit) (told_of_chip by_host w.outer.to_chip unit))
  outer w (host_takes count) allows = tt
  outer w (Host_begins node sessions) allows = tt
  outer w (Host_notes one) allows = stamp_are Is time (outcome w (Host_notes one)).outer (one ∷ []) (allows, tt)
  outer w event allows = any_outer w event tt allows

  allowed : (event : OuterEvent) → NotesNone event → ((told : Entry) → Enters event told → Is told) → Allows event
  allowed (Host_writes unit) none each = tt
  allowed (host_takes count) none each = tt
  allowed (Host_notes told) none each = absurd none
  allowed (Host_begins node sessions) none each = tt
  allowed event none each = each

  covers : (m : Machine) (event : Event) → EntersAs Is event → May m event → CoversOuter Allows event
  unfolding May
  covers m (Outside_does event) each may = allowed event (own_notes_none event may.0) each
  covers m event each may = tt

  refuses : (event : OuterEvent) → ((told : Entry) → Enters event told → Is told) → CoversRefusal Allows event
  refuses (Repeats number drawn route) each = λ refused. each (entry.Refused refused) tt
  refuses (Wakes_device node route) each = λ refused. each (entry.Refused refused) tt
  refuses (Sets_device node value route) each = λ refused. each (entry.Refused refused) tt
  refuses event each = tt

  answered : (event : Event) → EntersAs Is event → CoversAnswer Allows event
  answered (Outside_does event) each = refuses event each
  answered (Host_does event) each = each
  answered (Refuses line refused) each = each
  answered (Shows_values node) each = each
  answered event each = tt

  pub entries_are : (m : Machine) (event : Event) → EntersAs Is event → May m event → AllByRecursion Is (entries m event)
  entries_are m event each may =
      machine_goes_on Allows (record { writes = λ unit. tt; takes = λ count. tt; notes = note }) (λ node sessions. tt) Keeps (λ w. tt)
      (λ w u v xs ys first later. all-append Is xs ys first later) outer m event (covers m event each may) (answered event each) may

-- ---- a law that each note keeps

module _ (Is : Entry → Type 0) (of_chip : (told : Entry) → IsOfChip told → Is told) (time : (tick : ℕ) → Is (entry.Time tick)) (note : (told : Entry) → IsNote told → Is told)
    (Covers : OuterEvent → Type 0) (enters : (event : OuterEvent) → Covers event → (told : Entry) → Enters event told → Is told) where
  answers_noted : (h : HostState) (event : HostEvent) → AllByRecursion Is (answers h event)
  answers_noted h (Accepts order carriage) = (note (entry.Accepted _ _) tt, tt)
  answers_noted h (Cancels command) = (note (entry.Out command Cancelled) tt, tt)
  answers_noted h event = tt

  noted_as : (event : Event) → CoversOuter Covers event → EntersAs Is event
  noted_as (Outside_does event) covered = enters event covered
  noted_as (Host_does event) covered = λ h. answers_noted h event
  noted_as (Refuses line refused) covered = note (entry.Refused refused) tt
  noted_as (Shows_values node) covered = λ text. note (entry.Json text) tt
  noted_as event covered = tt

  pub noted_are : (m : Machine) (event : Event) → CoversOuter Covers event → May m event → AllByRecursion Is (entries m event)
  noted_are m event covered may = entries_are Is of_chip time (λ told is. note told (is_note told is)) m event (noted_as event covered) may

-- ---- no event enters the words of a line

abbrev pub Any : OuterEvent → Type 0
Any event = Unit {0}

pub covers_any : (event : Event) → CoversOuter Any event
covers_any (Outside_does event) = tt
covers_any event = tt

pub wordless_line : (told : Entry) → HasNoWords told → line_of told ≡ []
wordless_line (entry.Said words) none = absurd none
wordless_line told none = refl

chip_wordless : (told : Entry) → IsOfChip told → HasNoWords told
chip_wordless (entry.Said words) of_chip = absurd of_chip
chip_wordless told of_chip = tt

note_wordless : (told : Entry) → IsNote told → HasNoWords told
note_wordless (entry.Said words) note = absurd note
note_wordless told note = tt

enters_wordless : (event : OuterEvent) → Any event → (told : Entry) → Enters event told → HasNoWords told
enters_wordless event any (entry.Said words) enters = absurd enters
enters_wordless event any told enters = tt

pub event_wordless : (m : Machine) (event : Event) → May m event → AllByRecursion HasNoWords (entries m event)
event_wordless m event may = noted_are HasNoWords chip_wordless (λ tick. tt) note_wordless Any enters_wordless m event (covers_any event) may

pub all_wordless : (m : Machine) (events : List Event) → MayAll m events → AllByRecursion HasNoWords (entries_all m events)
all_wordless m [] may = tt
all_wordless m (event ∷ events) may =
    all-append HasNoWords (entries m event) (entries_all (happens m event) events) (event_wordless m event may.0) (all_wordless (happens m event) events may.1)

-- ---- by kinds of entries

-- by a simple event no device acts
pub simple_acts : (event : OuterEvent) → IsSimple event → Acts event → ⊥
simple_acts (Arrives drawn route) simple acting = simple
simple_acts (Repeats number drawn route) simple acting = simple
simple_acts (Device_ticks place drawn route) simple acting = simple
simple_acts (Wakes_device node route) simple acting = simple
simple_acts (Sets_device node value route) simple acting = simple
simple_acts event simple acting = acting

no_answer : (event : OuterEvent) → IsOfTick event → MayAnswer event → ⊥
no_answer (Repeats number drawn route) tick answers = tick
no_answer (Wakes_device node route) tick answers = tick
no_answer (Sets_device node value route) tick answers = tick
no_answer (Clears_pipe side) tick answers = tick
no_answer (Shows node) tick answers = tick
no_answer event tick answers = answers

no_showing : (event : OuterEvent) → IsOfTick event → IsShowing event → ⊥
no_showing (Shows node) tick shows = tick
no_showing event tick shows = shows

none_shown : (event : OuterEvent) → ShowsNothing event → IsShowing event → ⊥
none_shown (Shows node) nothing shows = nothing
none_shown event nothing shows = shows

module _ (Is : Entry → Type 0) (kinds : KindsAre Is) where
  abbrev Are : List Entry → Type 0
  Are told = AllByRecursion Is told

  kinds_of_chip : (told : Entry) → IsOfChip told → Is told
  kinds_of_chip (entry.Written side text) is = kinds.unit side text
  kinds_of_chip (entry.Dropped side) is = kinds.mark (entry.Dropped side) tt
  kinds_of_chip (entry.Garbled side text) is = kinds.mark (entry.Garbled side text) tt
  kinds_of_chip (entry.Overrun side) is = kinds.mark (entry.Overrun side) tt
  kinds_of_chip (entry.Air frame sender receiver repeaters payload) is = kinds.of_air (entry.Air frame sender receiver repeaters payload) tt
  kinds_of_chip entry.ChipFull is = kinds.full
  kinds_of_chip told is = absurd is

  -- with those that answer a line
  kinds_enter : (event : OuterEvent) → ((refusal : Refusal) → MayAnswer event → Is (entry.Refused refusal)) → ((side : Side) (count : ℕ) → MayAnswer event → Is (entry.Cleared side count))
      → (IsShowing event → ⊥) → (told : Entry) → Enters event told → Is told
  kinds_enter event refused cleared shows (entry.Heard frame) is = kinds.of_air (entry.Heard frame) tt
  kinds_enter event refused cleared shows (entry.Lost frame) is = kinds.of_air (entry.Lost frame) tt
  kinds_enter event refused cleared shows (entry.Unheard frame) is = kinds.of_air (entry.Unheard frame) tt
  kinds_enter event refused cleared shows (entry.Forget a b) is = kinds.of_air (entry.Forget a b) tt
  kinds_enter event refused cleared shows (entry.Dev node by setting) is = kinds.of_air (entry.Dev node by setting) tt
  kinds_enter event refused cleared shows (entry.Air frame sender receiver repeaters payload) is = kinds.of_air (entry.Air frame sender receiver repeaters payload) tt
  kinds_enter event refused cleared shows (entry.Device node setting) is = absurd (shows is)
  kinds_enter event refused cleared shows (entry.Refused refusal) is = refused refusal is
  kinds_enter event refused cleared shows (entry.Cleared side count) is = cleared side count is
  kinds_enter event refused cleared shows told is = kinds_of_chip told is

  tick_enters : (event : OuterEvent) → IsOfTick event → (told : Entry) → Enters event told → Is told
  tick_enters event tick =
      kinds_enter event (λ refusal answers. absurd (no_answer event tick answers)) (λ side count answers. absurd (no_answer event tick answers)) (no_showing event tick)

  common_as : (event : Event) → IsCommon event → EntersAs Is event
  common_as (Outside_does event) common = tick_enters event common
  common_as (Host_does event) common = λ h. subst Are (sym (common.0 h)) tt
  common_as (Refuses line refused) common = absurd common
  common_as (Shows_values node) common = absurd common
  common_as event common = tt

  pub steps_are : (w : Outside) (step : AirStep) → IsHearing step → MayHappen (mesh_of w) step → Are (steps w step).entries
  steps_are w step hearing may =
      all-weaker (Enters (Arrives [] None)) Is (tick_enters (Arrives [] None) tt) (steps w step).entries (steps_enter (Arrives [] None) tt tt w step)

  pub acts_are : (o : OuterState) (device : State) (event : DeviceEvent) (route : Option Route) → Are (acts o device event route).entries
  acts_are o device event route = all-weaker IsOfAir Is kinds.of_air (acts o device event route).entries (acts_of_air o device event route)

  -- with the number of the tick before them
  pub stamped_are : (o : OuterState) (told : List Entry) → Are told → Are (stamp o told)
  stamped_are o told are = stamp_are Is kinds.time o told are

  pub common_are : (m : Machine) (event : Event) → IsCommon event → May m event → Are (entries m event)
  common_are m event common may = entries_are Is kinds_of_chip kinds.time kinds.note m event (common_as event common) may

  -- ---- events of the effect of a line

  module _ (answered_are : AnswersAre Is) where
    asked_are : (event : HostEvent) (h : HostState) → Are (answers h event)
    asked_are (Accepts order carriage) h = (answered_are.accepted _ _, tt)
    asked_are (Cancels command) h = (answered_are.taken_back command, tt)
    asked_are event h = tt

    effect_as : (event : Event) → OfEffect ShowsNothing event → EntersAs Is event
    effect_as (Outside_does event) of_effect =
        kinds_enter event (λ refusal answers. answered_are.refused refusal) (λ side count answers. answered_are.cleared (entry.Cleared side count) tt) (none_shown event of_effect)
    effect_as (Host_does event) of_effect = asked_are event
    effect_as (Refuses line refused) of_effect = answered_are.refused refused
    effect_as (Shows_values node) of_effect = absurd of_effect
    effect_as event of_effect = tt

    pub effect_are : (m : Machine) (event : Event) → OfEffect ShowsNothing event → May m event → Are (entries m event)
    effect_are m event of_effect may = entries_are Is kinds_of_chip kinds.time kinds.note m event (effect_as event of_effect) may
