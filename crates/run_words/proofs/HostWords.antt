-- `host` and its lines.
use Rattle.std.proofs.Common.{◌≡◌, ℕ, ◌≤◌, ◌==◌, false, List, [], ◌∷◌, ◌++◌, length, Some, None, codes, refl, sym, ap, ◌∙◌, ap₂, arith, append_assoc, append-nil}
use Rattle.std.specs.Prelude.{fold, is_some}
use Rattle.std.proofs.lemmas.Bool.{ne_eqb, le-ltb}
use Rattle.clap.specs.Walk.{Text, Walk, walked, walk, walk_from, nothing_held, settled, finished, positional}
use Rattle.clap.specs.Simple.{App, Shape, built, new_app, with_rule, entered}
use Rattle.clap.specs.Lexer.{usize_max}
use Rattle.clap.specs.Kinds.{Kinds, or_else, values_kinds}
use Rattle.clap.specs.Faults.{fault_of, walk_fault, turn_fault, settle_fault, defaults_fault, check_fault, entered_fault}
use Rattle.clap.specs.declared.builder.value_parser.ValueParser.TheVariants as vp
use Rattle.clap.proofs.OnLiterals.{clap_on_literals}
use Rattle.run_words.specs.Commands.{Host_name, line_values}
use Rattle.run_words.specs.Valid.{AreLineWords}
use Rattle.run_words.specs.declared.asked.Asked.TheVariants.{Host}
use Rattle.run_words.proofs.PlainWords.{no_dashes, no_long, no_short}
use Rattle.run_words.proofs.Taken.{Takes}

abbrev pub host_line : App
host_line = with_rule (new_app (codes "host")) line_values

abbrev host_shape : Shape
host_shape = (built host_line).top

-- the walk after these lines
abbrev after_lines : List Text → Walk
after_lines lines = record {
  held = record { rows = []; pending = Some (codes "line", lines); skip = 0 };
  waiting = positional;
  position = 1;
  is_trailing = false;
  stopped = None;
}

first_line : (d : ℕ) (ds : Text) → (d == 45) ≡ false → walked host_shape.rules [] (walk_from nothing_held) (d ∷ ds) ≡ after_lines ((d ∷ ds) ∷ [])
unfolding clap_on_literals
first_line d ds plain = rw (no_dashes d ds plain, no_long d ds plain, no_short d ds plain) refl

first_passes : (d : ℕ) (ds : Text) → (d == 45) ≡ false → turn_fault host_shape [] (walk_from nothing_held) (d ∷ ds) ≡ []
unfolding clap_on_literals
first_passes d ds plain = rw (no_dashes d ds plain, no_long d ds plain, no_short d ds plain) refl

next_line : (lines : List Text) (d : ℕ) (ds : Text) → (d == 45) ≡ false → walked host_shape.rules [] (after_lines lines) (d ∷ ds) ≡ after_lines (lines ++ (d ∷ ds) ∷ [])
unfolding clap_on_literals
next_line lines d ds plain = rw (no_dashes d ds plain, no_long d ds plain, no_short d ds plain) refl

next_passes : (lines : List Text) (d : ℕ) (ds : Text) → (d == 45) ≡ false → turn_fault host_shape [] (after_lines lines) (d ∷ ds) ≡ []
unfolding clap_on_literals
next_passes lines d ds plain = rw (no_dashes d ds plain, no_long d ds plain, no_short d ds plain) refl

walk_lines : (so_far lines : List Text) → AreLineWords lines → fold (walked host_shape.rules []) (after_lines so_far) lines ≡ after_lines (so_far ++ lines)
walk_lines so_far [] each = ap after_lines (sym (append-nil so_far))
walk_lines so_far ([] ∷ rest) each = absurd each.0
walk_lines so_far ((d ∷ ds) ∷ rest) each =
    ap (λ (w : Walk). fold (walked host_shape.rules []) w rest) (next_line so_far d ds (ne_eqb _ _ each.0))
    ∙ walk_lines (so_far ++ (d ∷ ds) ∷ []) rest each.1 ∙ ap after_lines (append_assoc so_far ((d ∷ ds) ∷ []) rest)

lines_pass : (so_far lines : List Text) → AreLineWords lines → walk_fault host_shape [] (after_lines so_far) lines ≡ []
unfolding walk_fault
lines_pass so_far [] each = refl
lines_pass so_far ([] ∷ rest) each = absurd each.0
lines_pass so_far ((d ∷ ds) ∷ rest) each = ap₂ or_else (next_passes so_far d ds (ne_eqb _ _ each.0))
    (ap (λ (w : Walk). walk_fault host_shape [] w rest) (next_line so_far d ds (ne_eqb _ _ each.0)) ∙ lines_pass (so_far ++ (d ∷ ds) ∷ []) rest each.1)

-- all lines, from the first on
walk_all : (d : ℕ) (ds : Text) (rest : List Text) → (d == 45) ≡ false → AreLineWords rest
    → walk host_shape.rules [] nothing_held ((d ∷ ds) ∷ rest) ≡ after_lines ((d ∷ ds) ∷ rest)
walk_all d ds rest plain each = ap (λ (w : Walk). fold (walked host_shape.rules []) w rest) (first_line d ds plain) ∙ walk_lines ((d ∷ ds) ∷ []) rest each

all_pass : (d : ℕ) (ds : Text) (rest : List Text) → (d == 45) ≡ false → AreLineWords rest
    → walk_fault host_shape [] (walk_from nothing_held) ((d ∷ ds) ∷ rest) ≡ []
unfolding walk_fault
all_pass d ds rest plain each = ap₂ or_else (first_passes d ds plain)
    (ap (λ (w : Walk). walk_fault host_shape [] w rest) (first_line d ds plain) ∙ lines_pass ((d ∷ ds) ∷ []) rest each)

values_pass : (lines : List Text) → values_kinds false vp.String lines ≡ []
values_pass [] = refl
values_pass (line ∷ lines) = values_pass lines

-- what is found after the walk
abbrev after_walk : Walk → Kinds
after_walk w = or_else (entered_fault (built host_line) w.stopped)
    (or_else (settle_fault host_shape.rules host_shape.args_override_self w.held)
    (or_else (defaults_fault (settled host_shape.rules w.held).rows host_shape.rules)
    (check_fault host_shape (finished host_shape.rules w.held) (is_some (entered (built host_line) w.stopped)))))

few_pass : (line : Text) (rest : List Text) → length (line ∷ rest) ≤ 256 → after_walk (after_lines (line ∷ rest)) ≡ []
unfolding clap_on_literals
few_pass line rest few =
    rw (ne_eqb (length (line ∷ rest)) 0 (λ e. omega (arith, e)), le-ltb (length (line ∷ rest)) 1 (omega arith), le-ltb usize_max (length (line ∷ rest)) (omega (arith, few)), values_pass rest) refl

host_passes : (lines : List Text) → 1 ≤ length lines → length lines ≤ 256 → AreLineWords lines → fault_of host_line (codes "host" ∷ lines) ≡ []
host_passes [] some few each = absurd (omega (arith, some))
host_passes ([] ∷ rest) some few each = absurd each.0
host_passes ((d ∷ ds) ∷ rest) some few each =
    let plain : (d == 45) ≡ false = ne_eqb _ _ each.0 in
    ap₂ or_else (all_pass d ds rest plain each.1) (ap after_walk (walk_all d ds rest plain each.1) ∙ few_pass (d ∷ ds) rest few)

pub takes_host : (lines : List Text) → 1 ≤ length lines → length lines ≤ 256 → AreLineWords lines → Takes Host_name (codes "host" ∷ lines) Host host_line
takes_host lines some few each = record { taken = host_passes lines some few each; asks = λ given is. is }
