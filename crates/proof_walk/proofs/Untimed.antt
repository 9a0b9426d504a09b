-- Entries that are neither words of a line nor the number of a tick; and what is owed outside the host by a law that such entries leave as it is, where the clock stays.
use Rattle.std.proofs.Common.{◌≡◌, ℕ, Bool, true, false, List, [], ◌∷◌, ◌++◌, refl, ap, ap₂, subst, ◌∙◌, append-nil}
use Rattle.std.specs.List.{AllByRecursion}
use Rattle.zw_base.proofs.Each.{all-weaker}
use Rattle.serial_pipes.specs.Events.{told}
use Rattle.zw_text.specs.declared.line.Line.{Line}
use Rattle.zw_text.specs.declared.entry.Entry.{Entry}
use Rattle.zw_text.specs.declared.entry.Entry.TheVariants as entry
use Rattle.zw_text.specs.Transcript.{line_of, lines_run, tick_at, ticks, last_number, time_of}
use Rattle.zw_text.proofs.Views.{shown-append}
use Rattle.proof_device.specs.chip_sim.Events.{ChipEvent}
use Rattle.proof_device.specs.outside_model.State.{Outside, outside}
use Rattle.proof_device.specs.outside_model.Chip.{chip_does}
use Rattle.proof_device.specs.outside_model.Events.{OuterEvent, Begins_line, Begins_tick, Host_notes, outcome, is_own}
use Rattle.proof_walk.specs.Outside.{Knowing, Moves, Comes, Link, IsNote, IsSimple, IsDone, IsOfAir}
use Rattle.proof_walk.specs.Time.{BeginsNoTick}
use Rattle.proof_device.proofs.Entering.{Enters, IsOfChip, NotesNone, does_of_chip, outcome_enters}
use Rattle.proof_walk.proofs.Times.{does_time, outcome_time}

-- ---- entries that tell no time

-- neither words of a line nor the number of a tick
abbrev pub IsUntimed : Entry → Type 0
IsUntimed (entry.Said words) = ⊥
IsUntimed (entry.Time tick) = ⊥
IsUntimed _ = Unit {0}

abbrev pub AreUntimed : List Entry → Type 0
AreUntimed told = AllByRecursion IsUntimed told

pub untimed_line : (e : Entry) → IsUntimed e → line_of e ≡ []
untimed_line (entry.Said words) untimed = absurd untimed
untimed_line e untimed = refl

untimed_tick : (e : Entry) → IsUntimed e → tick_at e ≡ []
untimed_tick (entry.Time tick) untimed = absurd untimed
untimed_tick e untimed = refl

no_lines : (told : List Entry) → AreUntimed told → lines_run told ≡ []
no_lines [] untimed = refl
no_lines (e ∷ told) untimed = ap₂ (λ (a b : List Line). a ++ b) (untimed_line e untimed.0) (no_lines told untimed.1)

no_ticks : (told : List Entry) → AreUntimed told → ticks told ≡ []
no_ticks [] untimed = refl
no_ticks (e ∷ told) untimed = ap₂ (λ (a b : List ℕ). a ++ b) (untimed_tick e untimed.0) (no_ticks told untimed.1)

pub same_lines : (past told : List Entry) → AreUntimed told → lines_run (past ++ told) ≡ lines_run past
same_lines past told untimed = shown-append line_of past told ∙ (ap (λ (l : List Line). lines_run past ++ l) (no_lines told untimed) ∙ append-nil (lines_run past))

pub same_time : (past told : List Entry) → AreUntimed told → time_of (past ++ told) ≡ time_of past
same_time past told untimed = ap (last_number 0) (shown-append tick_at past told ∙ (ap (λ (l : List ℕ). ticks past ++ l) (no_ticks told untimed) ∙ append-nil (ticks past)))

pub note_untimed : (e : Entry) → IsNote e → IsUntimed e
note_untimed (entry.Said words) note = absurd note
note_untimed (entry.Time tick) note = absurd note
note_untimed e note = tt

air_untimed : (e : Entry) → IsOfAir e → IsUntimed e
air_untimed (entry.Said words) of_air = absurd of_air
air_untimed (entry.Time tick) of_air = absurd of_air
air_untimed e of_air = tt

chip_untimed : (e : Entry) → IsOfChip e → IsUntimed e
chip_untimed (entry.Said words) of_chip = absurd of_chip
chip_untimed (entry.Time tick) of_chip = absurd of_chip
chip_untimed e of_chip = tt

enters_untimed : (event : OuterEvent) (e : Entry) → Enters event e → IsUntimed e
enters_untimed event (entry.Said words) enters = absurd enters
enters_untimed event (entry.Time tick) enters = absurd enters
enters_untimed event e enters = tt

pub outcome_untimed : (w : Outside) (event : OuterEvent) → NotesNone event → AreUntimed (outcome w event).entries
outcome_untimed w event notes = all-weaker (Enters event) IsUntimed (enters_untimed event) (outcome w event).entries (outcome_enters w event notes)

-- what the host does of itself begins no tick
pub hosts_no_tick : (event : OuterEvent) → is_own event ≡ false → BeginsNoTick event
hosts_no_tick Begins_tick own = absurd (let none : true ≡ false = own in cc)
hosts_no_tick event own = tt

-- ---- a law that such entries leave as it is

module _ (Asks : List Entry → Entry → Type 0) (Knows : Knowing) (Covers : OuterEvent → Type 0)
    (goes : (w later : Outside) (told : List Entry) → AreUntimed told → later.outer.clock ≡ w.outer.clock → Moves Asks Knows w told Knows later) where
  chip_comes : (w : Outside) (event : ChipEvent) → IsDone event → Comes Asks Knows w (chip_does w.outer event) w.devices Knows
  chip_comes w event done =
      goes w (outside (chip_does w.outer event).outer w.devices) (chip_does w.outer event).entries (all-weaker IsOfChip IsUntimed chip_untimed (chip_does w.outer event).entries (does_of_chip w.outer event))
      (ap (λ (t : Bool × Bool × ℕ). t.2) (does_time w.outer event))

  simple_comes : (w : Outside) (event : OuterEvent) → IsSimple event → Covers event → Comes Asks Knows w (outcome w event) w.devices Knows
  unfolding outcome
  simple_comes w Begins_line simple covers = absurd simple
  simple_comes w Begins_tick simple covers = absurd simple
  simple_comes w (Host_notes note) simple covers = goes w w (note ∷ []) (note_untimed note simple.0, tt) refl
  simple_comes w event simple covers =
      goes w (outside (outcome w event).outer w.devices) (outcome w event).entries (outcome_untimed w event tt) (ap (λ (t : Bool × Bool × ℕ). t.2) (outcome_time w event tt))

  -- of a line that begins, and of the number of a tick, it owes more
  pub untimed_law : (Covers Begins_tick → ⊥) → (Covers Begins_line → (awaits : Bool) (past : List Entry) (w : Outside) → Knows awaits past w → Knows false past w)
      → ((past : List Entry) (w : Outside) → Knows true past w → Knows false (past ++ entry.Time w.outer.clock ∷ []) w) → Link Asks Knows Covers
  untimed_law no_tick line number = record {
    line = line;
    tick = λ covers. absurd (no_tick covers);
    number = number;
    simple = simple_comes;
    session = λ w node session command. goes w w (entry.Begin node session command ∷ []) (tt, tt) refl;
    chip = chip_comes;
    air = λ w told of_air. goes w w (told ∷ []) (air_untimed told of_air, tt) refl;
    same = λ awaits past w later is knows.
        subst (λ (l : List Entry). Knows awaits l later) (append-nil past) (goes w later [] tt is.clock awaits past (λ (silent : awaits ≡ true). refl) knows).1;
  }
