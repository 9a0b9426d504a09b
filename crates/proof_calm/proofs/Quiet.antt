-- What each event of quiet lines and ticks keeps goes on from phase to phase.
use Rattle.std.proofs.Common.{◌≡◌, ℕ, ◌&&◌, Bool, true, false, List, [], ◌∷◌, ◌++◌, refl, sym, ap, ◌∙◌}
use Rattle.std.specs.List.{list_all}
use Rattle.zw_text.specs.declared.line.Line.{Line}
use Rattle.zw_text.specs.declared.line.Line.TheVariants as lines
use Rattle.zw_text.specs.declared.entry.Entry.{Entry}
use Rattle.zw_text.specs.declared.entry.Entry.TheVariants as entry
use Rattle.zw_text.specs.Transcript.{line_of, lines_run}
use Rattle.zw_text.proofs.Views.{shown-append}
use Rattle.law_transcript.proofs.Deciding.{not_true}
use Rattle.law_time.specs.Stretches.{is_quiet_line}
use Rattle.outside_model.specs.Events.{OuterEvent, May as MayOutside, Begins_line, Begins_tick, Arrives, Gives, Device_ticks, Chip_ticks, Chip_takes}
use Rattle.world_model.specs.State.{Machine}
use Rattle.world_model.specs.Events.{Event, Outside_does, happens, entries, May}
use Rattle.proof_work.specs.proof_walk.Outside.{CoversOuter}
use Rattle.proof_work.specs.proof_walk.ByLine.{CoversLine, IsOfTick, ByLine}
use Rattle.proof_work.proofs.ByLine.{effect_covered, common_covered}
use Rattle.proof_work.specs.Phases.{AsksNothing}
use Rattle.proof_calm.specs.Marks.{IsQuietEvent}
use Rattle.proof_calm.specs.Quiet.{AreQuiet, InQuiet, AtQuiet, DoingQuiet}
use Rattle.proof_calm.proofs.Unmarked.{nothing_asked}

-- ---- lines that were said

both_true : (a b : Bool) → (a && b) ≡ true → (a ≡ true) × (b ≡ true)
both_true true true is = (refl, refl)
both_true true false is = absurd (not_true is)
both_true false true is = absurd (not_true is)
both_true false false is = absurd (not_true is)

pub all_both : {A : Type 0} (p : A → Bool) (xs ys : List A) → list_all p (xs ++ ys) ≡ true → (list_all p xs ≡ true) × (list_all p ys ≡ true)
all_both p [] ys all = (refl, all)
all_both p (x ∷ xs) ys all =
    let one = both_true (p x) (list_all p (xs ++ ys)) all in
    let rest = all_both p xs ys one.1 in
    (ap (λ (b : Bool). b && list_all p xs) one.0 ∙ rest.0, rest.1)

pub quiet_both : (past told : List Entry) → AreQuiet (past ++ told) → AreQuiet past × AreQuiet told
quiet_both past told quiet = all_both is_quiet_line (lines_run past) (lines_run told) (ap (list_all is_quiet_line) (sym (shown-append line_of past told)) ∙ quiet)

pub said_quiet : (words : List ℕ) (line : Line) → line_of (entry.Said words) ≡ line ∷ [] → AreQuiet (entry.Said words ∷ []) → is_quiet_line line ≡ true
said_quiet words line read quiet =
    (both_true (is_quiet_line line) true (ap (λ (ls : List Line). list_all is_quiet_line (ls ++ [])) (sym read) ∙ quiet)).0

-- ---- their events

pub covers_line : (line : Line) → is_quiet_line line ≡ true → CoversLine IsQuietEvent line
covers_line (lines.Command order) quiet = tt
covers_line (lines.Tick count) quiet = tt
covers_line (lines.Cut size) quiet = tt
covers_line (lines.Show node) quiet = tt
covers_line (lines.Store node) quiet = tt
covers_line (lines.Wake node) quiet = λ route. tt
covers_line line quiet = absurd (not_true quiet)

of_tick : (event : OuterEvent) → IsOfTick event → IsQuietEvent event
of_tick Begins_tick tick = tt
of_tick (Chip_takes count rest ways) tick = tt
of_tick (Arrives drawn route) tick = tt
of_tick (Gives route) tick = tt
of_tick (Device_ticks place drawn route) tick = tt
of_tick Chip_ticks tick = tt
of_tick event tick = absurd tick

-- ---- the walk

-- a line may begin at any time
pub begins_may : (m : Machine) → May m (Outside_does Begins_line)
unfolding May MayOutside
begins_may m = (refl, tt)

module _ (Known : Machine → Type 0) (keeps : (m : Machine) (event : Event) → CoversOuter IsQuietEvent event → May m event → Known m → Known (happens m event)) where
  kept : (past : List Entry) (m : Machine) (event : Event) → CoversOuter IsQuietEvent event → May m event → InQuiet Known past m → InQuiet Known (past ++ entries m event) (happens m event)
  kept past m event covers may known quiet = keeps m event covers may (known (quiet_both past (entries m event) quiet).0)

  pub by_quiet_lines : ByLine AsksNothing (AtQuiet Known) (AtQuiet Known) (DoingQuiet Known) (InQuiet Known)
  by_quiet_lines = record {
    said = λ past m words line read known. (tt, λ quiet. let both = quiet_both past (entry.Said words ∷ []) quiet in (said_quiet words line read both.1, known both.0));
    in_line = record {
      begins = λ line past m known. (
        nothing_asked past (entries m (Outside_does Begins_line)),
        λ quiet. let here = known (quiet_both past (entries m (Outside_does Begins_line)) quiet).0 in (here.0, keeps m (Outside_does Begins_line) tt (begins_may m) here.1),
      );
      effect = λ line past m events is known quiet. let here = known quiet in (effect_covered IsQuietEvent line m events (covers_line line here.0) is, here.1);
      does = λ line first left past m may known. (
        nothing_asked past (entries m first),
        λ quiet. let here = known (quiet_both past (entries m first) quiet).0 in (here.0.1, keeps m first here.0.0 may here.1),
      );
      done = λ line past m known quiet. (known quiet).1;
      ticks = λ count past m known quiet. (known quiet).1;
      common = λ past m event common may known. (nothing_asked past (entries m event), kept past m event (common_covered IsQuietEvent of_tick event common) may known);
    };
  }
