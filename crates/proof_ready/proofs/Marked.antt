-- Marks of units: as many as lines ask for wait or were used up, so where all were used up none waits.
use Rattle.std.proofs.Common.{◌≡◌, ℕ, suc, ◌+◌, ◌-◌, ◌<◌, ◌==◌, Bool, true, false, if◌then◌else◌, inl, inr, ◌⊎◌, List, [], ◌∷◌, ◌++◌, length, map, take, drop, nat_lt, refl, sym, ap, ap₂, ◌∙◌, subst, append-nil, append_assoc, arith}
use Rattle.std.proofs.lemmas.Bool.{eqb-true, ltb-true}
use Rattle.std.proofs.lemmas.Grind.{flat_map-append}
use Rattle.std.proofs.lemmas.List.{length-append, length_push}
use Rattle.std.specs.Prelude.{Option, Some, None, Result, Ok, Err}
use Rattle.std.specs.List.{flat_map}
use Rattle.serial_pipes.specs.State.{WayState}
use Rattle.serial_pipes.specs.declared.marks.Garble.{Garble}
use Rattle.zw_words.specs.declared.side.Side.{Side}
use Rattle.zw_words.specs.declared.side.Side.TheVariants.{Host, Chip}
use Rattle.zw_words.specs.declared.fault.LineFault.{LineFault}
use Rattle.zw_text.specs.declared.line.Line.{Line}
use Rattle.zw_text.specs.declared.line.Line.TheVariants as lines
use Rattle.zw_text.specs.declared.entry.Entry.{Entry}
use Rattle.zw_text.specs.declared.entry.Entry.TheVariants.{Said, Written, Dropped, Garbled}
use Rattle.zw_text.specs.Line.{line_at}
use Rattle.zw_text.specs.Transcript.{line_of, lines_run, read_as, shown}
use Rattle.zw_text.proofs.Views.{folded-append, shown-append}
use Rattle.law_wire.specs.Marks.{Changing, Marks, becomes_by, changed_by, marks_by, marks_of, marks_step, IsMarked}
use Rattle.law_wire.specs.law_transcript.Lists.{EachAfter}
use Rattle.law_time.specs.Calm.{are_used_up, drop_of, dropped_at, garble_of, garbled_at}
use Rattle.proof_chip.specs.proof_line.Marks.{MayMark, changing_of, marks_at}

-- ---- what became of a unit uses up a mark that waits

abbrev Waits : List Entry → Entry → Type 0
Waits past (Dropped side) = 0 < (marks_of side past).drops
Waits past (Garbled side unit) = 0 < length (marks_of side past).changes
Waits past e = Unit {0}

some_first : (n : ℕ) → 0 < suc n
some_first n = omega arith

module _ (past : List Entry) where
  changes_wait : (side : Side) (unit : List ℕ) (rest : List Entry) (e : Entry) (b : Bool) (changes : List Changing) → changes ≡ (marks_of side past).changes
      → IsMarked ((if b then [] else map (λ change. Garbled side (changed_by change unit)) (take 1 changes)) ++ rest) e → Waits past e ⊎ IsMarked rest e
  changes_wait side unit rest e true changes are is = inr is
  changes_wait side unit rest e false [] are is = inr is
  changes_wait side unit rest e false (change ∷ more) are is =
      inl (subst (Waits past) (sym is) (subst (λ (l : List Changing). 0 < length l) are (some_first (length more))))

  unit_waits : (side : Side) (unit : List ℕ) (rest : List Entry) (e : Entry) (b : Bool) → nat_lt 0 (marks_of side past).drops ≡ b
      → IsMarked ((if b then Dropped side ∷ [] else (if length unit == 1 then [] else map (λ change. Garbled side (changed_by change unit)) (take 1 (marks_of side past).changes))) ++ rest) e
      → Waits past e ⊎ IsMarked rest e
  unit_waits side unit rest e true some is = inl (subst (Waits past) (sym is) (ltb-true 0 (marks_of side past).drops some))
  unit_waits side unit rest e false none is = changes_wait side unit rest e (length unit == 1) (marks_of side past).changes refl is

  either : (rest : List Entry) (e : Entry) → Waits past e ⊎ IsMarked rest e → (IsMarked rest e → Waits past e) → Waits past e
  either rest e (inl waits) more = waits
  either rest e (inr is) more = more is

  none_due : (e : Entry) → IsMarked [] e → Waits past e
  none_due (Dropped side) is = absurd is
  none_due (Garbled side unit) is = absurd is
  none_due e is = tt

  due_waits : (stands : List Entry) (e : Entry) → IsMarked (flat_map (becomes_by past) stands) e → Waits past e
  due_waits [] e is = none_due e is
  due_waits (Written side unit ∷ stands) e is =
      either (flat_map (becomes_by past) stands) e (unit_waits side unit (flat_map (becomes_by past) stands) e (nat_lt 0 (marks_of side past).drops) refl is) (λ more. due_waits stands e more)
  due_waits (other ∷ stands) e is = due_waits stands e is

-- ---- how many wait of both sides

module _ (count : Marks → ℕ) (asked : Line → List Line) (done : Entry → List Entry) where
  abbrev waiting : List Entry → ℕ
  waiting past = count (marks_of Host past) + count (marks_of Chip past)

  abbrev Counts : List Entry → Entry → Type 0
  Counts past e =
      (count (marks_step Host (marks_of Host past) e) + count (marks_step Chip (marks_of Chip past) e)) + length (done e) ≡ waiting past + length (flat_map asked (line_of e))

  abbrev Balanced : List Entry → Type 0
  Balanced past = waiting past + length (shown done past) ≡ length (flat_map asked (lines_run past))

  balance : (w w' d d' a a' n k : ℕ) → w' + n ≡ w + k → d' ≡ d + n → a' ≡ a + k → w + d ≡ a → w' + d' ≡ a'
  balance w w' d d' a a' n k waits told lines is = omega (arith, waits, told, lines, is)

  one_more : (past : List Entry) (e : Entry) → Counts past e → Balanced past → Balanced (past ++ e ∷ [])
  one_more past e counts is =
      balance (waiting past) (waiting (past ++ e ∷ [])) (length (shown done past)) (length (shown done (past ++ e ∷ []))) (length (flat_map asked (lines_run past)))
      (length (flat_map asked (lines_run (past ++ e ∷ [])))) (length (done e)) (length (flat_map asked (line_of e))) (ap (λ (n : ℕ). n + length (done e)) now ∙ counts) told asked_so is
    where
      now : waiting (past ++ e ∷ []) ≡ count (marks_step Host (marks_of Host past) e) + count (marks_step Chip (marks_of Chip past) e)
      now =
          ap₂ (λ (a b : Marks). count a + count b) (folded-append (marks_step Host) (record { drops = 0; changes = [] }) past (e ∷ []))
          (folded-append (marks_step Chip) (record { drops = 0; changes = [] }) past (e ∷ []))

      told : length (shown done (past ++ e ∷ [])) ≡ length (shown done past) + length (done e)
      told =
          ap length (shown-append done past (e ∷ [])) ∙ length-append (shown done past) (shown done (e ∷ []))
          ∙ ap (λ (l : List Entry). length (shown done past) + length l) (append-nil (done e))

      asked_so : length (flat_map asked (lines_run (past ++ e ∷ []))) ≡ length (flat_map asked (lines_run past)) + length (flat_map asked (line_of e))
      asked_so =
          ap (λ (l : List Line). length (flat_map asked l)) (shown-append line_of past (e ∷ []) ∙ ap (λ (l : List Line). lines_run past ++ l) (append-nil (line_of e)))
          ∙ ap length (flat_map-append asked (lines_run past) (line_of e)) ∙ length-append (flat_map asked (lines_run past)) (flat_map asked (line_of e))

  all_balanced : ((past : List Entry) (e : Entry) → Waits past e → Counts past e) → (past rest : List Entry) → EachAfter MayMark past rest → Balanced past → Balanced (past ++ rest)
  all_balanced each past [] may is = subst Balanced (sym (append-nil past)) is
  all_balanced each past (e ∷ rest) may is =
      subst Balanced (append_assoc past (e ∷ []) rest) (all_balanced each (past ++ e ∷ []) rest may.1 (one_more past e (each past e (due_waits past (drop (length past - 1) past) e may.0)) is))

  none_left : (w d a : ℕ) → w + d ≡ a → a ≡ d → w ≡ 0
  none_left w d a is used = omega (arith, is, used)

  none_waits : ((past : List Entry) (e : Entry) → Waits past e → Counts past e) → count (record { drops = 0; changes = [] }) ≡ 0 → (past : List Entry) → EachAfter MayMark [] past
      → are_used_up asked done past ≡ true → waiting past ≡ 0
  none_waits each first past may used =
      none_left (waiting past) (length (shown done past)) (length (flat_map asked (lines_run past))) (all_balanced each [] past may (ap (λ (n : ℕ). (n + n) + 0) first))
      (eqb-true (length (flat_map asked (lines_run past))) (length (shown done past)) used)

-- ---- those that lose a unit

one_left : (a b : ℕ) → ((a + 1) + b) + 0 ≡ (a + b) + 1
one_left a b = omega arith

one_right : (a b : ℕ) → (a + (b + 1)) + 0 ≡ (a + b) + 1
one_right a b = omega arith

used_left : (a b : ℕ) → 0 < a → ((a - 1) + b) + 1 ≡ (a + b) + 0
used_left a b some = omega (arith, some)

used_right : (a b : ℕ) → 0 < b → (a + (b - 1)) + 1 ≡ (a + b) + 0
used_right a b some = omega (arith, some)

abbrev drops_in : Marks → ℕ
drops_in marks = marks.drops

abbrev changes_in : Marks → ℕ
changes_in marks = length marks.changes

line_drops : (h c : Marks) (line : Line) → (drops_in (marks_by Host h (line ∷ [])) + drops_in (marks_by Chip c (line ∷ []))) + 0 ≡ (drops_in h + drops_in c) + length (flat_map drop_of (line ∷ []))
line_drops h c (lines.Drop Host) = one_left h.drops c.drops
line_drops h c (lines.Drop Chip) = one_right h.drops c.drops
line_drops h c (lines.Garble Host place xor) = refl
line_drops h c (lines.Garble Chip place xor) = refl
line_drops h c line = refl

said_drops : (h c : Marks) (read : Result (Option Line) LineFault)
    → (drops_in (marks_by Host h (read_as read)) + drops_in (marks_by Chip c (read_as read))) + 0 ≡ (drops_in h + drops_in c) + length (flat_map drop_of (read_as read))
said_drops h c (Ok (Some line)) = line_drops h c line
said_drops h c (Ok None) = refl
said_drops h c (Err fault) = refl

drops_count : (past : List Entry) (e : Entry) → Waits past e → Counts drops_in drop_of dropped_at past e
drops_count past (Said words) waits = said_drops (marks_of Host past) (marks_of Chip past) (line_at words)
drops_count past (Dropped Host) waits = used_left (marks_of Host past).drops (marks_of Chip past).drops waits
drops_count past (Dropped Chip) waits = used_right (marks_of Host past).drops (marks_of Chip past).drops waits
drops_count past (Garbled Host unit) waits = refl
drops_count past (Garbled Chip unit) waits = refl
drops_count past e waits = refl

-- ---- those that change one

line_changes : (h c : Marks) (line : Line) → (changes_in (marks_by Host h (line ∷ [])) + changes_in (marks_by Chip c (line ∷ []))) + 0 ≡ (changes_in h + changes_in c) + length (flat_map garble_of (line ∷ []))
line_changes h c (lines.Drop Host) = refl
line_changes h c (lines.Drop Chip) = refl
line_changes h c (lines.Garble Host place xor) =
    ap (λ (n : ℕ). (n + changes_in c) + 0) (length_push h.changes (record { place = place; xor = xor })) ∙ one_left (length h.changes) (length c.changes)
line_changes h c (lines.Garble Chip place xor) =
    ap (λ (n : ℕ). (changes_in h + n) + 0) (length_push c.changes (record { place = place; xor = xor })) ∙ one_right (length h.changes) (length c.changes)
line_changes h c line = refl

said_changes : (h c : Marks) (read : Result (Option Line) LineFault)
    → (changes_in (marks_by Host h (read_as read)) + changes_in (marks_by Chip c (read_as read))) + 0 ≡ (changes_in h + changes_in c) + length (flat_map garble_of (read_as read))
said_changes h c (Ok (Some line)) = line_changes h c line
said_changes h c (Ok None) = refl
said_changes h c (Err fault) = refl

-- the oldest is used up
without_first : (l : List Changing) → length (drop 1 l) ≡ length l - 1
without_first [] = refl
without_first (change ∷ l) = less (length l)
  where
    less : (n : ℕ) → n ≡ suc n - 1
    less n = omega arith

changes_count : (past : List Entry) (e : Entry) → Waits past e → Counts changes_in garble_of garbled_at past e
changes_count past (Said words) waits = said_changes (marks_of Host past) (marks_of Chip past) (line_at words)
changes_count past (Dropped Host) waits = refl
changes_count past (Dropped Chip) waits = refl
changes_count past (Garbled Host unit) waits =
    ap (λ (n : ℕ). (n + changes_in (marks_of Chip past)) + 1) (without_first (marks_of Host past).changes) ∙ used_left (changes_in (marks_of Host past)) (changes_in (marks_of Chip past)) waits
changes_count past (Garbled Chip unit) waits =
    ap (λ (n : ℕ). (changes_in (marks_of Host past) + n) + 1) (without_first (marks_of Chip past).changes) ∙ used_right (changes_in (marks_of Host past)) (changes_in (marks_of Chip past)) waits
changes_count past e waits = refl

-- ---- so a pipe has none

pub record IsUsedUp (past : List Entry) : Type 0 where
  pub drops : (side : Side) → (marks_of side past).drops ≡ 0
  pub changes : (side : Side) → length (marks_of side past).changes ≡ 0

pub used_up : (past : List Entry) → EachAfter MayMark [] past → are_used_up drop_of dropped_at past ≡ true → are_used_up garble_of garbled_at past ≡ true → IsUsedUp past
used_up past may drops changes = record { drops = no_drops; changes = no_changes }
  where
    dropped : drops_in (marks_of Host past) + drops_in (marks_of Chip past) ≡ 0
    dropped = none_waits drops_in drop_of dropped_at drops_count refl past may drops

    changed : changes_in (marks_of Host past) + changes_in (marks_of Chip past) ≡ 0
    changed = none_waits changes_in garble_of garbled_at changes_count refl past may changes

    left : (a b : ℕ) → a + b ≡ 0 → a ≡ 0
    left a b none = omega (arith, none)

    right : (a b : ℕ) → a + b ≡ 0 → b ≡ 0
    right a b none = omega (arith, none)

    no_drops : (side : Side) → (marks_of side past).drops ≡ 0
    no_drops Host = left (drops_in (marks_of Host past)) (drops_in (marks_of Chip past)) dropped
    no_drops Chip = right (drops_in (marks_of Host past)) (drops_in (marks_of Chip past)) dropped

    no_changes : (side : Side) → length (marks_of side past).changes ≡ 0
    no_changes Host = left (changes_in (marks_of Host past)) (changes_in (marks_of Chip past)) changed
    no_changes Chip = right (changes_in (marks_of Host past)) (changes_in (marks_of Chip past)) changed

no_garbles : (l : List Garble) → length (map changing_of l) ≡ 0 → l ≡ []
no_garbles [] none = refl
no_garbles (garble ∷ l) none = absurd (no_suc (length (map changing_of l)) none)
  where
    no_suc : (n : ℕ) → suc n ≡ 0 → ⊥
    no_suc n is = omega (arith, is)

pub way_unmarked : (way : WayState) (marks : Marks) → marks ≡ marks_at way → marks.drops ≡ 0 → length marks.changes ≡ 0 → way.marks ≡ record { drops = 0; garbles = [] }
way_unmarked way marks is drops changes =
    ap₂ (λ (d : ℕ) (g : List Garble). record { drops = d; garbles = g }) (sym (ap (λ (m : Marks). m.drops) is) ∙ drops)
    (no_garbles way.marks.garbles (sym (ap (λ (m : Marks). length m.changes) is) ∙ changes))
