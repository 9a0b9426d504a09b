-- In a line of a stretch the device of no node is set by hand.
use Rattle.std.proofs.Common.{◌≡◌, ◌-◌, ℕ, zero, suc, ◌+◌, ◌&&◌, Bool, true, false, List, [], ◌∷◌, ◌++◌, length, map, inl, inr, refl, sym, ap, ◌∙◌, subst}
use Rattle.std.proofs.lemmas.Bool.{and_parts}
use Rattle.std.specs.List.{AllByRecursion, list_all}
use Rattle.zw_base.proofs.Each.{all-append, all-left}
use Rattle.zw_text.specs.declared.entry.Entry.{Entry}
use Rattle.zw_text.specs.declared.line.Line.{Line}
use Rattle.zw_text.specs.declared.line.Line.TheVariants.{Command, Tick, Cut, Wake, Show, Store}
use Rattle.zw_text.specs.Transcript.{line_of, lines_run}
use Rattle.zw_text.proofs.Views.{shown-append}
use Rattle.law_time.specs.Stretches.{is_quiet_line}
use Rattle.host_model.specs.Events.{HostEvent}
use Rattle.host_model.specs.Ticking.{tick_events}
use Rattle.outside_model.specs.State.{OuterState, is_stalled}
use Rattle.outside_model.specs.Events.{OuterEvent}
use Rattle.outside_model.specs.Schedules.{Arrivals, DeviceTicks, Givings, TakesBy as ChipTakesBy}
use Rattle.world_model.specs.Did.{Schedule, entries_all}
use Rattle.world_model.specs.Events.{Event, Outside_does, Host_does}
use Rattle.world_model.specs.Lines.{IsEffect}
use Rattle.world_model.specs.Settling.{TakesBy}
use Rattle.world_model.specs.State.{Machine}
use Rattle.world_model.proofs.Pieces.{Law, Of, Pieces, of_line_before}
use Rattle.world_lines.specs.Spoken.{Spoken, after, entries_of, transcript_of}
use Rattle.world_lines.specs.Done.{AreDone, events_of}
use Rattle.proof_course_plain.specs.Judged.{IsNoHand}

module _ (n : ℕ) where
  abbrev Free : Schedule
  Free m events = AllByRecursion (IsNoHand n) events

  law : Law Free
  law = record { none = λ m. tt; both = λ m a b first later. all-append (IsNoHand n) a b first later; prefix = λ m a b all. all-left (IsNoHand n) a b all }

  as_these : (events these : List Event) → events ≡ these → AllByRecursion (IsNoHand n) these → AllByRecursion (IsNoHand n) events
  as_these events these are all = subst (λ (l : List Event). AllByRecursion (IsNoHand n) l) (sym are) all

  host_free : (inner : List HostEvent) → AllByRecursion (IsNoHand n) (map Host_does inner)
  host_free [] = tt
  host_free (event ∷ inner) = (tt, host_free inner)

  -- ---- what is outside

  abbrev OuterFree : List OuterEvent → Type 0
  OuterFree inner = AllByRecursion (IsNoHand n) (map Outside_does inner)

  as_outer : (inner these : List OuterEvent) → inner ≡ these → OuterFree these → OuterFree inner
  as_outer inner these are all = subst OuterFree (sym are) all

  arrivals_free : (count : ℕ) (inner : List OuterEvent) → Arrivals count inner → OuterFree inner
  arrivals_free zero inner is = as_outer inner [] is tt
  arrivals_free (suc count) inner (drawn, route, rest, are, more) = as_outer inner _ are (tt, arrivals_free count rest more)

  givings_free : (count : ℕ) (inner : List OuterEvent) → Givings count inner → OuterFree inner
  givings_free zero inner is = as_outer inner [] is tt
  givings_free (suc count) inner (route, rest, are, more) = as_outer inner _ are (tt, givings_free count rest more)

  ticks_free : (place count : ℕ) (inner : List OuterEvent) → DeviceTicks place count inner → OuterFree inner
  ticks_free place zero inner is = as_outer inner [] is tt
  ticks_free place (suc count) inner (drawn, route, rest, are, more) = as_outer inner _ are (tt, ticks_free (place + 1) count rest more)

  chip_free : (stalled : Bool) (bytes : List ℕ) (o : OuterState) (inner : List OuterEvent) → ChipTakesBy stalled bytes o inner → OuterFree inner
  chip_free true bytes o inner is = as_outer inner [] is tt
  chip_free false [] o inner is = as_outer inner [] is tt
  chip_free false (byte ∷ bytes) o inner takes = as_outer inner _ takes.are (tt, tt)

  heard_free : (stalled : Bool) (bytes : List ℕ) (events : List Event) → TakesBy stalled bytes events → AllByRecursion (IsNoHand n) events
  heard_free true bytes events is = as_these events [] is tt
  heard_free false [] events is = as_these events [] is tt
  heard_free false (byte ∷ bytes) events (rest, items, inner, is) = as_these events _ is (tt, tt)

  pieces : Pieces Free
  pieces = record {
    begins = λ m events are. as_these events _ are (tt, tt);
    pump = λ m events is. as_these events (map Host_does is.0) is.2 (host_free is.0);
    chip_part = λ m events is. as_these events (map Outside_does is.0) is.2 (chip_free (is_stalled m.outside.outer) m.outside.outer.to_chip.bytes m.outside.outer is.0 is.1);
    host_part = λ m events is. heard_free (is_stalled m.outside.outer) m.outside.outer.to_host.bytes events is;
    clock = λ m events are. as_these events _ are (tt, tt);
    delivery = λ m events is. as_these events (map Outside_does is.0) is.2 (arrivals_free (m.outside.outer.air.frames.sent - m.outside.outer.air.frames.landed) is.0 is.1);
    giving = λ m events is. as_these events (map Outside_does is.0) is.2 (givings_free (length m.outside.outer.due) is.0 is.1);
    device_tick = λ m events is. as_these events (map Outside_does is.0) is.2 (ticks_free 0 (length m.outside.devices) is.0 is.1);
    chip_tick = λ m events are. as_these events _ are (tt, tt);
    host_tick = λ m events are. as_these events _ are (tt, host_free (tick_events m.host.state));
  }

  -- ---- lines

  effect_free : (line : Line) → is_quiet_line line ≡ true → Of Free (IsEffect line)
  effect_free (Command order) quiet m events (inl are) = as_these events _ are (tt, tt)
  effect_free (Command order) quiet m events (inr refused) = as_these events _ refused.1 (tt, tt)
  effect_free (Tick count) quiet m events is = absurd is
  effect_free (Cut size) quiet m events are = as_these events _ are (tt, tt)
  effect_free (Show node) quiet m events are = as_these events _ are (tt, tt)
  effect_free (Store node) quiet m events are = as_these events _ are (tt, tt)
  effect_free (Wake node) quiet m events is = as_these events (map Outside_does is.0) is.2 (as_outer is.0 _ is.1.1 (tt, tt))
  effect_free line quiet m events is = absurd cc

  all_both : (first later : List Line) → list_all is_quiet_line (first ++ later) ≡ true → (list_all is_quiet_line first ≡ true) × (list_all is_quiet_line later ≡ true)
  all_both [] later all = (refl, all)
  all_both (line ∷ first) later all =
      let parts = and_parts (is_quiet_line line) (list_all is_quiet_line (first ++ later)) all in
      let rest = all_both first later parts.1 in
      (ap (λ (b : Bool). b && list_all is_quiet_line first) parts.0 ∙ rest.0, rest.1)

  pub lines_free : (m : Machine) (lines : List Spoken) → AreDone m lines → list_all is_quiet_line (lines_run (transcript_of m lines)) ≡ true → AllByRecursion (IsNoHand n) (events_of lines)
  lines_free m [] are quiet = tt
  lines_free m (spoken ∷ more) are quiet =
      let told : List Entry = transcript_of (after m spoken) more in
      let both = all_both (lines_run (entries_of m spoken)) (lines_run told) (subst (λ (l : List Line). list_all is_quiet_line l ≡ true) (shown-append line_of (entries_of m spoken) told) quiet) in
      let said : list_all is_quiet_line (spoken.line ∷ lines_run (entries_all m spoken.events)) ≡ true =
      subst (λ (l : List Line). list_all is_quiet_line (l ++ lines_run (entries_all m spoken.events)) ≡ true) are.0.read both.0 in
      let own : is_quiet_line spoken.line ≡ true = (and_parts (is_quiet_line spoken.line) (list_all is_quiet_line (lines_run (entries_all m spoken.events))) said).0 in
      all-append (IsNoHand n) spoken.events (events_of more) (of_line_before Free law pieces more spoken.line (effect_free spoken.line own) m spoken.events are.0.is_line) (lines_free (after m spoken) more are.1 both.1)
