-- Why a run with good lines, over a source that has no more than may be read, comes to its end.
use Rattle.std.proofs.Common.{◌≡◌, ℕ, zero, suc, ◌<◌, ◌≤◌, List, [], ◌∷◌, ◌++◌, length, length-append, Err, refl, ap, sym, ◌∙◌, subst, append_assoc, arith}
use Rattle.std.specs.Prelude.{Option, Some, None, slice_index_or}
use Rattle.std.specs.Io.KnownBytes.{Consumes}
use Rattle.zw_words.specs.declared.fault.LineFault.{LineFault}
use Rattle.s0_crypto.specs.declared.key_pair.Keys.{Keys}
use Rattle.host_core.specs.Network.{keys_of}
use Rattle.host_core.specs.declared.opening.OpenFault.TheVariants as opening
use Rattle.run_lines.specs.Run.{IsShort}
use Rattle.run_lines.specs.declared.status.Status.{Status}
use Rattle.run_lines.specs.declared.status.Status.TheVariants as status
use Rattle.port_run.specs.declared.ending.Served.{Served}
use Rattle.port_run.specs.declared.ending.Served.TheVariants as served
use Rattle.port_run.specs.declared.line.PortLine.{PortLine}
use Rattle.port_run.specs.declared.stop.Stop.{Stop}
use Rattle.port_run.specs.declared.stop.Stop.TheVariants as stop
use Rattle.port_run.specs.Lines.{wanted_at, AreRead, AreLines, IsFirstBad}
use Rattle.port_run.specs.Steps.{Place, Step, Asks, Takes, Rests, Ticks, Pumps}
use Rattle.port_run.specs.Schedule.{Telling, is_quiet, CutRun}
use Rattle.port_run.specs.Serving.{bytes_of, Reads, Broke}
use Rattle.port_run.specs.Ending.{Desk, Ended, HostRan, HasGoodPort, IsServed, start_of, status_of}

-- ---- lines

none_bad : (texts : List (List ℕ)) (lines : List PortLine) (at : ℕ) (fault : LineFault) → AreRead texts lines → at < length texts → wanted_at (slice_index_or texts at []) ≡ Err fault → ⊥
none_bad [] lines at fault read within bad = omega (arith, within)
none_bad (text ∷ texts) [] at fault read within bad = cc
none_bad (text ∷ texts) (line ∷ lines) zero fault read within bad = cc
none_bad (text ∷ texts) (line ∷ lines) (suc at) fault read within bad =
    let more : AreRead texts lines = cc in
    none_bad texts lines at fault more (omega (arith, within)) bad

not_bad : (texts : List (List ℕ)) (number : ℕ) (fault : LineFault) → AreLines texts → IsFirstBad texts number fault → ⊥
not_bad texts number fault (lines, read) bad = none_bad texts lines bad.at fault read bad.within bad.bad

-- ---- bytes

-- what a source that tells its bytes has left after steps
pub left_over : (steps : List Step) (xs : List ℕ) (m : Option (List ℕ)) → Reads steps (Some xs) m → (ys : List ℕ) × (m ≡ Some ys) × (xs ≡ bytes_of steps ++ ys)
left_over [] xs None kept = absurd kept
left_over [] xs (Some ys) kept = (ys, refl, sym kept)
left_over (Takes bytes ∷ steps) xs m (None, took, more) = absurd took
left_over (Takes bytes ∷ steps) xs m (Some zs, took, more) =
    let l = left_over steps zs m more in
    (l.0, l.1, took ∙ ap (λ (b : List ℕ). bytes ++ b) l.2 ∙ sym (append_assoc bytes (bytes_of steps) l.0))
left_over (Rests ∷ steps) xs m (None, took, ended, more) = absurd took
left_over (Rests ∷ steps) xs m (Some zs, took, ended, more) =
    let l = left_over steps zs m more in
    (l.0, l.1, took ∙ l.2)
left_over (Asks line answer ∷ steps) xs m more = left_over steps xs m more
left_over (Ticks ∷ steps) xs m more = left_over steps xs m more
left_over (Pumps ∷ steps) xs m more = left_over steps xs m more

no_more : (ys : List ℕ) (m : Option (List ℕ)) (rest : List ℕ) → Consumes (Some ys) m rest → length rest ≤ length ys
no_more ys None rest took = absurd took
no_more ys (Some zs) rest took = omega (arith, ap length took, length-append rest zs)

too_much : (Cut : Stop → List Step → Type 0) (old new : Place) (s t m : Option (List ℕ)) (xs : List ℕ) → IsShort xs → Broke Cut stop.InputTooLong old new s t (Some xs) m 0 → ⊥
too_much Cut old new s t m xs short broke =
    let l = left_over broke.steps xs broke.mid broke.reads in
    let rest = no_more l.0 m broke.rest (subst (λ (o : Option (List ℕ)). Consumes o m broke.rest) l.1 broke.consumed) in
    omega (arith, short, rest, broke.ends, ap length l.2, length-append (bytes_of broke.steps) l.0)

-- ---- the end

too_long : (left left' : Option (List ℕ)) (Cut : Stop → List Step → Type 0) (old new : Place) (s t : Option (List ℕ)) (texts : List (List ℕ)) → HasGoodPort texts left → Broke Cut stop.InputTooLong old new s t left left' 0 → ⊥
too_long None left' Cut old new s t texts good broke = good
too_long (Some xs) left' Cut old new s t texts good broke = too_much Cut old new s t left' xs good.1 broke

are_lines : (texts : List (List ℕ)) (left : Option (List ℕ)) → HasGoodPort texts left → AreLines texts
are_lines texts None good = absurd good
are_lines texts (Some xs) good = good.0

module _ (Tells : Telling) (keys : Keys) (number : ℕ) (texts : List (List ℕ)) (old new : Desk) (good : HasGoodPort texts old.left) where
  comes_to_end : (end : Served) → Ended end Tells keys number texts old new → (status_of end ≡ status.ReadFault → ⊥) → (status_of end ≡ status.WriteFault → ⊥) → (status_of end ≡ status.KeeperFault → ⊥)
      → IsServed (status_of end)
  comes_to_end served.Ok ended read write kept = tt
  comes_to_end (served.Undone line) ended read write kept = tt
  comes_to_end (served.BadLine line fault) ended read write kept = absurd (not_bad texts line fault (are_lines texts old.left good) ended.0)
  comes_to_end (served.Opening opening.KeeperFault) ended read write kept = absurd (kept refl)
  comes_to_end (served.Opening (opening.BadRecord at)) ended read write kept = tt
  comes_to_end (served.Opening opening.NoMemory) ended read write kept = tt
  comes_to_end served.ReadFault ended read write kept = absurd (read refl)
  comes_to_end served.WriteFault ended read write kept = absurd (write refl)
  comes_to_end served.InputTooLong ended read write kept =
      absurd (too_long old.left new.left (CutRun Tells ended.started.lines) (start_of ended.started) (record { host = ended.host; shelf = new.shelf }) old.written new.written texts good ended.broke)
  comes_to_end served.NoMemory ended read write kept = tt

-- a run comes to its end, where nothing failed
pub is_served : (ended : Status) (key : List ℕ) (number : ℕ) (texts : List (List ℕ)) (old new : Desk) → HostRan ended key number texts old new → HasGoodPort texts old.left
    → (ended ≡ status.ReadFault → ⊥) → (ended ≡ status.WriteFault → ⊥) → (ended ≡ status.KeeperFault → ⊥) → IsServed ended
is_served ended key number texts old new ran good read write kept =
    subst IsServed (sym ran.status_is)
    (comes_to_end is_quiet (keys_of key) number texts old new good ran.end ran.ended (λ same. read (ran.status_is ∙ same)) (λ same. write (ran.status_is ∙ same)) (λ same. kept (ran.status_is ∙ same)))
