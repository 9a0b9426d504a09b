-- What is told of what the chip puts out: its units, each with what became of it, and the frames that it drops.
use Rattle.std.proofs.Common.{◌≡◌, ℕ, ◌+◌, List, [], ◌∷◌, ◌++◌, map, filter, length, refl, sym, ap, ap₂, ◌∙◌, append_assoc, length-append, arith}
use Rattle.std.specs.List.{AllByRecursion}
use Rattle.std.proofs.lemmas.List.{map-append}
use Rattle.zw_base.proofs.Each.{all-append, all-weaker}
use Rattle.serial_frame.specs.Items.{unit_text}
use Rattle.serial_frame.specs.declared.unit.Unit.{Unit as LineUnit}
use Rattle.serial_pipes.specs.State.{mark_for}
use Rattle.serial_pipes.specs.Events.{told_by}
use Rattle.chip_sim.specs.Link.{chip_unit, chip_units}
use Rattle.chip_sim.specs.Rules.{is_drop}
use Rattle.chip_sim.specs.declared.out.ChipOut.{ChipOut}
use Rattle.chip_sim.specs.declared.out.ChipOut.TheVariants.{Write, OnAir, NoRoute, AskInfo, Full}
use Rattle.zw_words.specs.declared.side.Side.TheVariants.{Chip as by_chip, Host as by_host}
use Rattle.zw_text.specs.declared.entry.Entry.{Entry}
use Rattle.zw_text.specs.declared.entry.Entry.TheVariants as entry
use Rattle.zw_text.specs.Transcript.{shown, unit_at, written}
use Rattle.zw_text.proofs.Views.{shown-append}
use Rattle.law_transcript.specs.Lists.{shown_after}
use Rattle.law_wire.specs.Asked.{Course}
use Rattle.law_wire.specs.Answering.{drop_at, drops, dropped_at}
use Rattle.outside_model.specs.State.{OuterState, each}
use Rattle.outside_model.specs.Chip.{put_out}
use Rattle.proof_air.proofs.Entered.{IsMark, told_by_marks}

-- ---- entries that tell nothing of the chip's units

-- neither a unit of the chip nor a frame that it drops
abbrev pub IsAside : Entry → Type 0
IsAside (entry.Written by_chip unit) = ⊥
IsAside entry.ChipFull = ⊥
IsAside e = Unit {0}

abbrev pub AreAside : List Entry → Type 0
AreAside told = AllByRecursion IsAside told

pub aside_written : (told : List Entry) → AreAside told → written by_chip told ≡ []
aside_written [] aside = refl
aside_written (entry.Written by_chip unit ∷ told) aside = absurd aside.0
aside_written (entry.Written by_host unit ∷ told) aside = aside_written told aside.1
aside_written (e ∷ told) aside = aside_written told aside.1

pub aside_drops : (told : List Entry) → AreAside told → drops told ≡ 0
aside_drops [] aside = refl
aside_drops (entry.ChipFull ∷ told) aside = absurd aside.0
aside_drops (e ∷ told) aside = aside_drops told aside.1

mark_aside : (e : Entry) → IsMark e → IsAside e
mark_aside (entry.Dropped side) mark = tt
mark_aside (entry.Garbled side unit) mark = tt
mark_aside (entry.Overrun side) mark = tt
mark_aside e mark = absurd mark

pub marks_aside : (told : List Entry) → AllByRecursion IsMark told → AreAside told
marks_aside told marks = all-weaker IsMark IsAside mark_aside told marks

-- ---- what is put out

pub drops_later : (past told : List Entry) → drops (past ++ told) ≡ drops past + drops told
drops_later past told = ap length (shown-append drop_at past told) ∙ length-append (shown drop_at past) (shown drop_at told)

put_written : (o : OuterState) (out : ChipOut) → written by_chip (put_out o out).entries ≡ map (λ (unit : LineUnit). unit_text unit) (chip_unit out)
put_written o (Write unit) =
    ap (λ (l : List (List ℕ)). unit_text unit ∷ l)
    (aside_written (told_by by_chip o.to_host.bytes (mark_for o.to_host.marks unit) (unit_text unit))
    (marks_aside _ (told_by_marks by_chip o.to_host.bytes (mark_for o.to_host.marks unit) (unit_text unit))))
put_written o (OnAir to route payload) = refl
put_written o NoRoute = refl
put_written o (AskInfo node) = refl
put_written o Full = refl

-- just its units are written
pub puts_written : (puts : List ChipOut) (o : OuterState) → written by_chip (each put_out o puts).entries ≡ map (λ (unit : LineUnit). unit_text unit) (chip_units puts)
puts_written [] o = refl
puts_written (out ∷ puts) o =
    shown-append (unit_at by_chip) (put_out o out).entries (each put_out (put_out o out).outer puts).entries
    ∙ ap₂ (λ (a b : List (List ℕ)). a ++ b) (put_written o out) (puts_written puts (put_out o out).outer)
    ∙ sym (map-append (λ (unit : LineUnit). unit_text unit) (chip_unit out) (chip_units puts))

put_drops : (o : OuterState) (out : ChipOut) → drops (put_out o out).entries ≡ length (filter is_drop (out ∷ []))
put_drops o (Write unit) =
    aside_drops (told_by by_chip o.to_host.bytes (mark_for o.to_host.marks unit) (unit_text unit))
    (marks_aside _ (told_by_marks by_chip o.to_host.bytes (mark_for o.to_host.marks unit) (unit_text unit)))
put_drops o (OnAir to route payload) = refl
put_drops o NoRoute = refl
put_drops o (AskInfo node) = refl
put_drops o Full = refl

filter_first : (out : ChipOut) (puts : List ChipOut) → length (filter is_drop (out ∷ puts)) ≡ length (filter is_drop (out ∷ [])) + length (filter is_drop puts)
filter_first (Write unit) puts = omega arith
filter_first (OnAir to route payload) puts = omega arith
filter_first NoRoute puts = omega arith
filter_first (AskInfo node) puts = omega arith
filter_first Full puts = omega arith

-- and just its drops are told
pub puts_drops : (puts : List ChipOut) (o : OuterState) → drops (each put_out o puts).entries ≡ length (filter is_drop puts)
puts_drops [] o = refl
puts_drops (out ∷ puts) o =
    drops_later (put_out o out).entries (each put_out (put_out o out).outer puts).entries
    ∙ ap₂ (λ (a b : ℕ). a + b) (put_drops o out) (puts_drops puts (put_out o out).outer)
    ∙ sym (filter_first out puts)

-- ---- kinds of entries

-- a unit of the chip, what became of it, a frame that goes on the air, or one that is dropped
abbrev pub IsPut : Entry → Type 0
IsPut (entry.Written by_chip unit) = Unit {0}
IsPut (entry.Dropped side) = Unit {0}
IsPut (entry.Garbled side unit) = Unit {0}
IsPut (entry.Overrun side) = Unit {0}
IsPut (entry.Air frame sender receiver repeaters payload) = Unit {0}
IsPut entry.ChipFull = Unit {0}
IsPut e = ⊥

mark_put : (e : Entry) → IsMark e → IsPut e
mark_put (entry.Dropped side) mark = tt
mark_put (entry.Garbled side unit) mark = tt
mark_put (entry.Overrun side) mark = tt
mark_put e mark = absurd mark

put_put : (o : OuterState) (out : ChipOut) → AllByRecursion IsPut (put_out o out).entries
put_put o (Write unit) =
    (tt, all-weaker IsMark IsPut mark_put _ (told_by_marks by_chip o.to_host.bytes (mark_for o.to_host.marks unit) (unit_text unit)))
put_put o (OnAir to route payload) = (tt, tt)
put_put o NoRoute = tt
put_put o (AskInfo node) = tt
put_put o Full = (tt, tt)

pub puts_put : (puts : List ChipOut) (o : OuterState) → AllByRecursion IsPut (each put_out o puts).entries
puts_put [] o = tt
puts_put (out ∷ puts) o = all-append IsPut (put_out o out).entries (each put_out (put_out o out).outer puts).entries (put_put o out) (puts_put puts (put_out o out).outer)

-- ---- places of frames that are dropped

pub no_places : (course : Course) (told before : List Entry) → drops told ≡ 0 → shown_after (dropped_at course) before told ≡ []
no_places course [] before none = refl
no_places course (entry.ChipFull ∷ told) before none = absurd (omega (arith, none))
no_places course (e ∷ told) before none = no_places course told (before ++ e ∷ []) none

-- one output is a drop
pub record DropsOne (puts : List ChipOut) : Type 0 where
  pub first : List ChipOut
  pub last : List ChipOut
  pub parts : puts ≡ first ++ Full ∷ last
  pub none_first : filter is_drop first ≡ []
  pub none_last : filter is_drop last ≡ []

one_later : (out : ChipOut) (puts : List ChipOut) → filter is_drop (out ∷ []) ≡ [] → DropsOne puts → DropsOne (out ∷ puts)
one_later out puts none rest = record {
  first = out ∷ rest.first;
  last = rest.last;
  parts = ap (λ (l : List ChipOut). out ∷ l) rest.parts;
  none_first = nothing out rest.first none rest.none_first;
  none_last = rest.none_last;
}
  where
    nothing : (out : ChipOut) (puts : List ChipOut) → filter is_drop (out ∷ []) ≡ [] → filter is_drop puts ≡ [] → filter is_drop (out ∷ puts) ≡ []
    nothing (Write unit) puts here none = none
    nothing (OnAir to route payload) puts here none = none
    nothing NoRoute puts here none = none
    nothing (AskInfo node) puts here none = none
    nothing Full puts here none = absurd cc

pub drops_one : (puts : List ChipOut) → filter is_drop puts ≡ Full ∷ [] → DropsOne puts
drops_one [] is = absurd cc
drops_one (Full ∷ puts) is = record { first = []; last = puts; parts = refl; none_first = refl; none_last = cc }
drops_one (Write unit ∷ puts) is = one_later (Write unit) puts refl (drops_one puts is)
drops_one (OnAir to route payload ∷ puts) is = one_later (OnAir to route payload) puts refl (drops_one puts is)
drops_one (NoRoute ∷ puts) is = one_later NoRoute puts refl (drops_one puts is)
drops_one (AskInfo node ∷ puts) is = one_later (AskInfo node) puts refl (drops_one puts is)

-- what is told of one list of outputs, and then of another
pub puts_both : (first last : List ChipOut) (o : OuterState) → (each put_out o (first ++ last)).entries ≡ (each put_out o first).entries ++ (each put_out (each put_out o first).outer last).entries
puts_both [] last o = refl
puts_both (out ∷ first) last o =
    let later : OuterState = (put_out o out).outer in
    ap (λ (l : List Entry). (put_out o out).entries ++ l) (puts_both first last later)
    ∙ sym (append_assoc (put_out o out).entries (each put_out later first).entries (each put_out (each put_out later first).outer last).entries)
