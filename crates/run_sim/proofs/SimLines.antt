-- The lines that the world has run so far, and how they end.
use Rattle.std.proofs.Common.{◌≡◌, ◌≢◌, ℕ, ◌+◌, ◌⊎◌, Bool, true, false, List, Option, None, sym, subst}
use Rattle.std.specs.Io.KnownBytes.{Appends, IsAtEnd}
use Rattle.zw_text.specs.Line.{line_at}
use Rattle.run_lines.specs.SourceLines.{Reading, GoesFrom}
use Rattle.run_lines.specs.declared.reader.Next.{Next}
use Rattle.run_lines.specs.declared.reader.Next.TheVariants.{Line}
use Rattle.run_lines.specs.Run.{LinesRan}
use Rattle.run_lines.specs.Text.{TextRan, TextFails, end_of, end_at}
use Rattle.run_lines.specs.declared.running.LinesEnd.{LinesEnd}
use Rattle.run_lines.specs.declared.running.TextFault.{TextFault}
use Rattle.run_lines.proofs.InputLines.{still_at_end}
use Rattle.run_lines.proofs.LinesSoFar.{SoFar, so_far-more, ran-ended, ran-stopped}
use Rattle.run_lines.specs.Lines.{fault_by}
use Rattle.run_sim.specs.Sim.{Point, SimRuns, SimStops}

module _ (quiet : Bool) (left left' left'' : Option (List ℕ)) (place next : Reading) (old mid : Point) (sink sink' : Option (List ℕ)) (number : ℕ)
    (s : SoFar (fault_by line_at) (SimRuns quiet) (SimStops quiet) left left' place old mid sink sink' number)
    (comes : place.ended ≡ false → next.ended ≡ true → IsAtEnd left'') (same : (left'' ≡ left') ⊎ (place.ended ≡ false)) where
  at_end : next.ended ≡ true → IsAtEnd left''
  at_end = still_at_end place.ended next.ended left' left'' s.at.at_end comes same

  -- the reader gave no line
  pub ended : (end : LinesEnd) (answer : Next) → GoesFrom answer place left' next left'' → end ≡ end_of answer number → answer ≢ Line
      → LinesRan end (fault_by line_at) (SimRuns quiet) (SimStops quiet) left left'' old mid sink sink'
  ended end answer g is other =
      subst (λ (e : LinesEnd). LinesRan e (fault_by line_at) (SimRuns quiet) (SimStops quiet) left left'' old mid sink sink') (sym is)
      (ran-ended (fault_by line_at) (SimRuns quiet) (SimStops quiet) answer other left left' left'' place next old mid sink sink' number s g at_end)

  -- the text of the next line was not run whole, or not answered
  pub stopped : (end : LinesEnd) (fault : TextFault) (still : Bool) (new : Point) (sink'' : Option (List ℕ)) (text : List ℕ) → GoesFrom Line place left' next left''
      → end ≡ end_at fault number → text ≡ next.line → still ≡ quiet → TextFails fault (SimRuns still) (SimStops still) (fault_by line_at text) mid text new sink' sink''
      → LinesRan end (fault_by line_at) (SimRuns quiet) (SimStops quiet) left left'' old new sink sink''
  stopped end fault still new sink'' text g is at stays f =
      subst (λ (e : LinesEnd). LinesRan e (fault_by line_at) (SimRuns quiet) (SimStops quiet) left left'' old new sink sink'') (sym is)
      (ran-stopped (fault_by line_at) (SimRuns quiet) (SimStops quiet) fault left left' left'' place next old mid new sink sink' sink'' number text s g at_end at
      (subst (λ (b : Bool). TextFails fault (SimRuns b) (SimStops b) (fault_by line_at text) mid text new sink' sink'') stays f))

  -- one more line was run and answered
  pub one_more : (still : Bool) (new : Point) (sink'' : Option (List ℕ)) (text : List ℕ) → GoesFrom Line place left' next left''
      → text ≡ next.line → still ≡ quiet → fault_by line_at text ≡ None → TextRan (SimRuns still) mid text new (Appends sink' sink'')
      → SoFar (fault_by line_at) (SimRuns quiet) (SimStops quiet) left left'' next old new sink sink'' (number + 1)
  one_more still new sink'' text g at stays is_line t =
      so_far-more (fault_by line_at) (SimRuns quiet) (SimStops quiet) left left' left'' place next old mid new sink sink' sink'' number text s g at_end at is_line
      (subst (λ (b : Bool). TextRan (SimRuns b) mid text new (Appends sink' sink'')) stays t)
