-- The lines of `replay` keep the facts of its host.
use Rattle.std.proofs.Common.{ℕ, zero, suc, inl, inr, List, [], ◌∷◌, ◌++◌, sym, ap, subst, ◌∙◌, append_assoc, append-nil}
use Rattle.std.specs.List.{AllByRecursion, flat_map}
use Rattle.zw_base.proofs.Each.{all-left}
use Rattle.zw_text.specs.Line.{replay_at}
use Rattle.zw_text.specs.declared.line.Line.{Line}
use Rattle.zw_text.specs.declared.line.Line.TheVariants.{Tick}
use Rattle.zw_text.specs.declared.line.ReplayLine.{ReplayLine}
use Rattle.zw_text.specs.declared.line.ReplayLine.TheVariants.{Plain, Chip}
use Rattle.zw_text.specs.declared.entry.Entry.{Entry}
use Rattle.zw_text.specs.declared.entry.Entry.TheVariants.{Refused}
use Rattle.host_model.specs.Outs.{Silent}
use Rattle.host_model.specs.State.{HostState}
use Rattle.host_model.specs.Events.{HostEvent}
use Rattle.host_model.specs.After.{after}
use Rattle.host_model.specs.May.{May as MayHost}
use Rattle.host_model.specs.Did.{after_all}
use Rattle.host_model.specs.Ticking.{tick_events}
use Rattle.proof_host.specs.Entries.{IsAside, entries_at}
use Rattle.proof_host.specs.Facts.{Facts}
use Rattle.run_lines.specs.declared.running.LinesEnd.{LinesEnd}
use Rattle.run_lines.specs.declared.running.LinesEnd.TheVariants.{All, Bad, ReadFailed, TooMuch, WriteFailed, NoMemory}
use Rattle.run_lines.specs.Lines.{TextLine, AllRan, RanLines}
use Rattle.world_model.specs.Events.{Event as MachineEvent, Host_does, Refuses as refuses, Shows_values as shows_values, shown_values}
use Rattle.host_model.proofs.Silence.{judged_silent, pump_silent, silent-append, tick_silent}
use Rattle.run_all.specs.run_replay.Machine.{Lone, Event, Does_itself, Does_asked, Takes, Ticks, Refuses, Shows_values, happens, entries, May, happens_all, entries_all, MayAll, Then}
use Rattle.run_all.specs.run_replay.Lines.{by_host, IsEffect, IsPump, IsTaking, IsTick, AreTicks, IsPlain, IsLine}
use Rattle.run_all.specs.run_replay.Replay.{Point, LineRan, PartRan, said}
use Rattle.proof_answers.proofs.FactsKept.{after_keeps}
use Rattle.proof_commands.specs.Replay.{IsKept, LinesLaw}
use Rattle.proof_commands.proofs.Entering.{asked_following, silent_keeps, timed_keeps}
use Rattle.proof_commands.proofs.Reading.{IsReadBy}

-- ---- what a host does of itself answers no line

abbrev IsQuiet : Event → Type 0
IsQuiet (Does_itself events) = Silent events
IsQuiet (Ticks events) = Silent events
IsQuiet event = Unit {0}

abbrev AreQuiet : List Event → Type 0
AreQuiet [] = Unit {0}
AreQuiet (event ∷ events) = IsQuiet event × AreQuiet events

quiet_both : (a b : List Event) → AreQuiet a → AreQuiet b → AreQuiet (a ++ b)
quiet_both [] b first later = later
quiet_both (e ∷ a) b first later = (first.0, quiet_both a b first.1 later)

quiet_by_host : (event : MachineEvent) → AreQuiet (by_host event)
quiet_by_host (Host_does event) = (tt, tt)
quiet_by_host (refuses line refusal) = (tt, tt)
quiet_by_host (shows_values node) = (tt, tt)
quiet_by_host _ = tt

quiet_there : (there : List MachineEvent) → AreQuiet (flat_map by_host there)
quiet_there [] = tt
quiet_there (event ∷ there) = quiet_both (by_host event) (flat_map by_host there) (quiet_by_host event) (quiet_there there)

effect_quiet : (line : Line) (m : Lone) (events : List Event) → IsEffect line m events → AreQuiet events
effect_quiet line m events (there, is, are) = subst (λ (l : List Event). AreQuiet l) (sym are) (quiet_there there)

pump_quiet : (m : Lone) (events : List Event) → IsPump m events → AreQuiet events
pump_quiet m events (pumped, pumps, are) = subst (λ (l : List Event). AreQuiet l) (sym are) (pump_silent m.host.state pumped pumps, tt)

taking_quiet : (bytes : List ℕ) (m : Lone) (events : List Event) → IsTaking bytes m events → AreQuiet events
taking_quiet bytes m events (rest, items, judged, are) = subst (λ (l : List Event). AreQuiet l) (sym are) (tt, tt)

tick_quiet : (m : Lone) (events : List Event) → IsTick m events → AreQuiet events
tick_quiet m events (pumped, pumps, are) =
    subst (λ (l : List Event). AreQuiet l) (sym are)
    (silent-append (tick_events m.host.state) pumped (tick_silent m.host.state) (pump_silent (after_all m.host.state (tick_events m.host.state)) pumped pumps), tt)

ticks_quiet : (count : ℕ) (m : Lone) (events : List Event) → AreTicks count m events → AreQuiet events
ticks_quiet zero m events are = subst (λ (l : List Event). AreQuiet l) (sym are) tt
ticks_quiet (suc more) m events (first, rest, are, one, others) =
    subst (λ (l : List Event). AreQuiet l) (sym are) (quiet_both first rest (tick_quiet m first one) (ticks_quiet more (happens_all m first) rest others))

effect_then : (line : Line) (m : Lone) (events : List Event) → Then (IsEffect line) IsPump m events → AreQuiet events
effect_then line m events (first, rest, are, effect, pump) =
    subst (λ (l : List Event). AreQuiet l) (sym are) (quiet_both first rest (effect_quiet line m first effect) (pump_quiet (happens_all m first) rest pump))

plain_quiet : (line : Line) (m : Lone) (events : List Event) → IsPlain line m events → AreQuiet events
plain_quiet (Tick count) m events is = ticks_quiet count m events is
plain_quiet line m events is = effect_then line m events is

line_quiet : (line : ReplayLine) (m : Lone) (events : List Event) → IsLine line m events → AreQuiet events
line_quiet (Plain line) m events is = plain_quiet line m events is
line_quiet (Chip bytes) m events (first, rest, are, taking, pump) =
    subst (λ (l : List Event). AreQuiet l) (sym are) (quiet_both first rest (taking_quiet bytes m first taking) (pump_quiet (happens_all m first) rest pump))

-- ---- facts

module _ (each : (past : List Entry) (h : HostState) (event : HostEvent) → Facts past h → MayHost h event → Facts (past ++ entries_at h event) (after h event))
    (aside : (past : List Entry) (h : HostState) (entry : Entry) → Facts past h → IsAside entry → Facts (past ++ entry ∷ []) h) where
  event_keeps : (past : List Entry) (m : Lone) (event : Event) → Facts past m.host.state → May m event → IsQuiet event → Facts (past ++ entries m event) (happens m event).host.state
  unfolding happens entries May
  event_keeps past m (Does_itself events) facts may quiet = silent_keeps each aside past m.host.state events facts may quiet
  event_keeps past m (Does_asked event) facts may quiet = after_keeps each aside past (entries m (Does_asked event)) m.host.state event facts may.0 (asked_following m.host.state event)
  event_keeps past m (Takes bytes rest items events) facts may quiet =
      silent_keeps each aside past m.host.state events facts may.may (judged_silent m.host.state items events may.judged)
  event_keeps past m (Ticks events) facts may quiet = timed_keeps each aside past m.host.state _ events facts may quiet
  event_keeps past m (Refuses line refusal) facts may quiet = aside past m.host.state (Refused refusal) facts tt
  event_keeps past m (Shows_values node) facts may quiet = aside past m.host.state (shown_values m.host.state node) facts tt

  events_keep : (past : List Entry) (m : Lone) (events : List Event) → Facts past m.host.state → MayAll m events → AreQuiet events
      → Facts (past ++ entries_all m events) (happens_all m events).host.state
  events_keep past m [] facts may quiet = subst (λ (l : List Entry). Facts l m.host.state) (sym (append-nil past)) facts
  events_keep past m (event ∷ events) facts may quiet =
      subst (λ (l : List Entry). Facts l (happens_all (happens m event) events).host.state) (append_assoc past (entries m event) (entries_all (happens m event) events))
      (events_keep (past ++ entries m event) (happens m event) events (event_keeps past m event facts may.0 quiet.0) may.1 quiet.1)

  line_keeps : (line : TextLine ReplayLine) (old new : Point) (past some : List Entry) → Facts past old.lone.host.state → LineRan line old new some → Facts (past ++ some) new.lone.host.state
  line_keeps line old new past some facts (events, is, did) =
      subst (λ (m : Lone). Facts (past ++ some) m.host.state) (sym did.state)
      (subst (λ (l : List Entry). Facts l (happens_all old.lone events).host.state)
      (append_assoc past (said line) (entries_all old.lone events) ∙ ap (λ (l : List Entry). past ++ l) (sym did.entered))
      (events_keep (past ++ said line) old.lone events (aside past old.lone.host.state _ facts tt) did.may (line_quiet line.line old.lone events is)))

  pub lines_keep : (lines : List (TextLine ReplayLine)) (old new : Point) (past T : List Entry) → Facts past old.lone.host.state → AllRan LineRan lines old new T
      → Facts (past ++ T) new.lone.host.state
  lines_keep [] old new past T facts ran =
      subst (λ (p : Point). Facts (past ++ T) p.lone.host.state) (sym ran.0)
      (subst (λ (l : List Entry). Facts l old.lone.host.state) (sym (append-nil past) ∙ ap (λ (l : List Entry). past ++ l) (sym ran.1)) facts)
  lines_keep (line ∷ lines) old new past T facts ran =
      let (mid, some, later, one, rest, are) = ran in
      subst (λ (l : List Entry). Facts l new.lone.host.state) (append_assoc past some later ∙ ap (λ (l : List Entry). past ++ l) (sym are))
      (lines_keep lines mid new (past ++ some) later (line_keeps line old mid past some facts one) rest)

-- ---- the whole run

abbrev pub AreReplayLines : List (TextLine ReplayLine) → Type 0
AreReplayLines lines = AllByRecursion (IsReadBy replay_at) lines

-- what holds of any lines that were read and run whole
module _ (Law : LinesLaw) (old : Point) (keeps : (lines : List (TextLine ReplayLine)) (new : Point) (T : List Entry) → AreReplayLines lines → AllRan LineRan lines old new T → Law lines new T) where
  some_kept : (lines : List (TextLine ReplayLine)) (new : Point) (T : List Entry) → AreReplayLines lines → RanLines NoMemory LineRan PartRan lines old new T
      → IsKept Law NoMemory lines old new T
  some_kept lines new T read (inl ran) = inl (keeps lines new T read ran)
  some_kept lines new T read (inr stops) =
      let first : AreReplayLines stops.prefix = all-left (IsReadBy replay_at) stops.prefix (stops.last ∷ []) (subst AreReplayLines stops.lines_are read) in
      inr (record { stops = stops; keeps = keeps stops.prefix stops.mid stops.before first stops.ran })

  pub is_kept : (end : LinesEnd) (lines : List (TextLine ReplayLine)) (new : Point) (T : List Entry) → AreReplayLines lines → RanLines end LineRan PartRan lines old new T
      → IsKept Law end lines old new T
  is_kept All lines new T read ran = keeps lines new T read ran
  is_kept (Bad number fault) lines new T read ran = keeps lines new T read ran
  is_kept ReadFailed lines new T read ran = keeps lines new T read ran
  is_kept TooMuch lines new T read ran = keeps lines new T read ran
  is_kept WriteFailed lines new T read ran = keeps lines new T read ran
  is_kept NoMemory lines new T read ran = some_kept lines new T read ran
