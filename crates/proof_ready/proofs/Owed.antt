-- What a calm transcript says of the answers by which the chip takes something: none stands in the tick of the clock.
use Rattle.std.proofs.Common.{◌≡◌, ℕ, ◌+◌, ◌-◌, ◌≤◌, ◌<◌, Bool, true, false, if◌then◌else◌, inl, inr, List, [], ◌∷◌, ◌++◌, length, take, refl, sym, ap, ◌∙◌, subst, append_assoc, append-nil, arith}
use Rattle.std.proofs.lemmas.Bool.{and_parts, ltb-true, ltb-false}
use Rattle.std.proofs.lemmas.List.Folds.{list_all-append}
use Rattle.std.specs.Prelude.{nat_lt, Option, Some, None, Result, Ok, Err}
use Rattle.std.specs.List.{list_all}
use Rattle.serial_frame.specs.Frame.{FrameParts}
use Rattle.serial_frame.specs.Items.{unit_text}
use Rattle.serial_frame.specs.declared.unit.Unit.TheVariants.{Framed}
use Rattle.zw_words.specs.declared.fault.LineFault.{LineFault}
use Rattle.zw_words.specs.declared.side.Side.TheVariants.{Host, Chip}
use Rattle.zw_text.specs.Line.{line_at}
use Rattle.zw_text.specs.declared.line.Line.{Line}
use Rattle.zw_text.specs.declared.entry.Entry.{Entry}
use Rattle.zw_text.specs.declared.entry.Entry.TheVariants.{Said, Written, ChipFull}
use Rattle.zw_text.specs.Transcript.{line_of, lines_run, read_as, time_of}
use Rattle.zw_text.proofs.Views.{folded-append, shown-append}
use Rattle.law_wire.specs.Asked.{clock_of, lines_before}
use Rattle.law_wire.specs.law_transcript.Lists.{EachAfter, shown_after}
use Rattle.law_wire.specs.law_transcript.Restarts.{ticks_asked}
use Rattle.law_time.specs.Calm.{is_taking, taken_at}
use Rattle.law_time.specs.Moments.{Passing, clock, later_of, passing_step}
use Rattle.proof_rests.specs.proof_requests.proof_alone.Time.{passing}
use Rattle.proof_chip.proofs.Clock.{asked-append}
use Rattle.proof_chip.specs.Told.{IsTaking, ToldBefore}
use Rattle.proof_chip.proofs.SentBefore.{but_last}

-- ---- the clock

-- the ticks of all lines but the last are among those that have passed
record Passed (past : List Entry) : Type 0 where
  all : ticks_asked (lines_run past) ≡ (passing past).before + (passing past).asked
  most : ticks_asked (lines_before past) ≤ (passing past).before

-- words that are said are a line, or none
read_more : (lines : List Line) (before asked : ℕ) (read : Result (Option Line) LineFault) → ticks_asked lines ≡ before + asked → ticks_asked (take (length lines - 1) lines) ≤ before
    → (ticks_asked (lines ++ read_as read) ≡ before + asked + ticks_asked (read_as read)) × (ticks_asked (take (length (lines ++ read_as read) - 1) (lines ++ read_as read)) ≤ before + asked)
read_more lines before asked read all most = (sum, by read)
  where
    sum : ticks_asked (lines ++ read_as read) ≡ before + asked + ticks_asked (read_as read)
    sum = let both = asked-append lines (read_as read) in omega (arith, both, all)

    as_before : ticks_asked (take (length (lines ++ []) - 1) (lines ++ [])) ≤ before + asked
    as_before = let same = ap (λ (l : List Line). ticks_asked (take (length l - 1) l)) (append-nil lines) in omega (arith, same, most)

    by : (read : Result (Option Line) LineFault) → ticks_asked (take (length (lines ++ read_as read) - 1) (lines ++ read_as read)) ≤ before + asked
    by (Ok (Some line)) = let same = ap ticks_asked (but_last lines line) in omega (arith, same, all)
    by (Ok None) = as_before
    by (Err fault) = as_before

passed_one : (past : List Entry) (e : Entry) → Passed past → Passed (past ++ e ∷ [])
passed_one past (Said words) was =
    let read : List Line = read_as (line_at words) in
    let lines : lines_run (past ++ Said words ∷ []) ≡ lines_run past ++ read = shown-append line_of past (Said words ∷ []) ∙ ap (λ (l : List Line). lines_run past ++ l) (append-nil read) in
    let pass = folded-append passing_step (record { before = 0; asked = 0 }) past (Said words ∷ []) in
    let got = read_more (lines_run past) (passing past).before (passing past).asked (line_at words) was.all was.most in
    let sum = ap ticks_asked lines in
    let last = ap (λ (l : List Line). ticks_asked (take (length l - 1) l)) lines in
    let before : (passing (past ++ Said words ∷ [])).before ≡ (passing past).before + (passing past).asked = ap (λ (p : Passing). p.before) pass in
    let asked : (passing (past ++ Said words ∷ [])).asked ≡ ticks_asked read = ap (λ (p : Passing). p.asked) pass in
    let all = got.0 in
    let most = got.1 in
    record { all = omega (arith, sum, all, before, asked); most = omega (arith, last, most, before) }
passed_one past e was =
    let lines : lines_run (past ++ e ∷ []) ≡ lines_run past = shown-append line_of past (e ∷ []) ∙ append-nil (lines_run past) in
    let pass : passing (past ++ e ∷ []) ≡ passing past = folded-append passing_step (record { before = 0; asked = 0 }) past (e ∷ []) in
    let sum = ap ticks_asked lines in
    let last = ap (λ (l : List Line). ticks_asked (take (length l - 1) l)) lines in
    let before = ap (λ (p : Passing). p.before) pass in
    let asked = ap (λ (p : Passing). p.asked) pass in
    let all = was.all in
    let most = was.most in
    record { all = omega (arith, sum, all, before, asked); most = omega (arith, last, most, before) }

passed_more : (past rest : List Entry) → Passed past → Passed (past ++ rest)
passed_more past [] was = subst Passed (sym (append-nil past)) was
passed_more past (e ∷ rest) was = subst Passed (append_assoc past (e ∷ []) rest) (passed_more (past ++ e ∷ []) rest (passed_one past e was))

passed : (past : List Entry) → Passed past
passed past = passed_more [] past (record { all = refl; most = omega arith })

later_covers : (first second : ℕ) → (first ≤ later_of first second) × (second ≤ later_of first second)
later_covers first second = by (nat_lt first second) refl
  where
    by : (b : Bool) → nat_lt first second ≡ b → (first ≤ (if b then second else first)) × (second ≤ (if b then second else first))
    by true is = let less = ltb-true first second is in (omega (arith, less), omega arith)
    by false is = let most = ltb-false first second is in (omega arith, omega (arith, most))

-- the clock of a moment is no earlier than so many ticks as have begun by it
no_earlier : (past : List Entry) → clock_of past ≤ clock past
no_earlier past =
    let most = (passed past).most in
    let covers = later_covers (passing past).before (time_of past) in
    let first = covers.0 in
    let second = covers.1 in
    omega (arith, most, first, second)

-- ---- entries

taken : (f : FrameParts) → IsTaking f → is_taking (unit_text (Framed f)) ≡ true
taken f (inl is) = subst (λ (g : FrameParts). is_taking (unit_text (Framed g)) ≡ true) (sym is) refl
taken f (inr is) = subst (λ (g : FrameParts). is_taking (unit_text (Framed g)) ≡ true) (sym is) refl

module _ (now : ℕ) where
  abbrev IsEarlier : ℕ → Bool
  IsEarlier tick = nat_lt tick now

  earlier : (past : List Entry) → list_all IsEarlier (clock past ∷ []) ≡ true → clock_of past < now
  earlier past is =
      let less = ltb-true (clock past) now (and_parts (nat_lt (clock past) now) true is).0 in
      let most = no_earlier past in
      omega (arith, less, most)

  told_before : (past : List Entry) (e : Entry) → list_all IsEarlier (taken_at past e) ≡ true → ToldBefore now past e
  told_before past (Written Chip unit) before (f, taking, is) =
      earlier past (subst (λ (b : Bool). list_all IsEarlier (if b then clock past ∷ [] else []) ≡ true) (ap is_taking is ∙ taken f taking) before)
  told_before past (Written Host unit) before tells = absurd tells
  told_before past ChipFull before tells = earlier past before
  told_before past e before tells = absurd tells

  pub all_before : (past rest : List Entry) → list_all IsEarlier (shown_after taken_at past rest) ≡ true → EachAfter (ToldBefore now) past rest
  all_before past [] all = tt
  all_before past (e ∷ rest) all =
      let first : List ℕ = taken_at past e in
      let later : List ℕ = shown_after taken_at (past ++ e ∷ []) rest in
      let parts = and_parts (list_all IsEarlier first) (list_all IsEarlier later) (sym (list_all-append IsEarlier first later) ∙ all) in
      (told_before past e parts.0, all_before (past ++ e ∷ []) rest parts.1)
