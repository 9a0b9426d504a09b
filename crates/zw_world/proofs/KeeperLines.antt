-- What a line does with a keeper, part by part.
use Rattle.std.proofs.Common.{◌≡◌, ℕ, ◌<◌, ◌≤◌, Bool, false, List, [], ◌∷◌, ◌++◌, refl, sym, ap, ◌∙◌, subst, inl, inr, append_assoc, arith}
use Rattle.std.specs.Prelude.{not, ◌&&◌, if◌then◌else◌}
use Rattle.zw_text.specs.declared.line.Line.{Line}
use Rattle.zw_text.specs.declared.line.Line.TheVariants.{Command, Restart}
use Rattle.zw_base.specs.declared.order.Order.{Order}
use Rattle.zw_text.specs.declared.entry.Entry.{Entry}
use Rattle.zw_text.specs.declared.entry.Entry.TheVariants.{Refused, Time}
use Rattle.zw_text.specs.declared.entry.Refusal.{Refusal}
use Rattle.host_model.specs.Did.{RoseBy}
use Rattle.host_model.proofs.EventLists.{rose_both, rose_none}
use Rattle.outside_model.specs.State.{OuterState, Outside, outside}
use Rattle.outside_model.specs.Events.{Begins_line, Host_notes, outcome}
use Rattle.outside_model.specs.Did.{Goes}
use Rattle.zw_world.specs.Keeping.{GoesOn, Keeps, RefusesNext, KeepsOrRefuses}

-- ---- what goes on

pub goes_unread : (n m r s : ℕ) → n ≤ m → s ≡ r → GoesOn n m r s
goes_unread n m r s more same = record { never_fewer = more; never_falls = inl (omega (arith, same)) }

pub goes_still : (n r : ℕ) → GoesOn n n r r
goes_still n r = goes_unread n n r r (omega arith) refl

pub goes_then : (n m k r s t : ℕ) → GoesOn n m r s → m ≤ k → t ≡ s → GoesOn n k r t
goes_then n m k r s t first more same = record {
  never_fewer = omega (arith, first.never_fewer, more);
  never_falls = subst (λ (x : ℕ). RoseBy 0 r x) (sym same) first.never_falls;
}

-- ---- lines

-- the same line
pub keeps_as : (line known : Line) (n m r s : ℕ) → line ≡ known → Keeps known n m r s → Keeps line n m r s
keeps_as line known n m r s is keeps = subst (λ (l : Line). Keeps l n m r s) (sym is) keeps

pub keeps_or_as : (line known : Line) (before all : List Entry) (n m r s : ℕ) → line ≡ known → KeepsOrRefuses known before all n m r s → KeepsOrRefuses line before all n m r s
keeps_or_as line known before all n m r s is keeps = subst (λ (l : Line). KeepsOrRefuses l before all n m r s) (sym is) keeps

-- any line but these two
pub keeps_any : (line : Line) (n m r s : ℕ) → ((order : Order) → line ≡ Command order → ⊥) → (line ≡ Restart → ⊥) → Keeps line n m r s
keeps_any (Command order) n m r s no_order no_restart = absurd (no_order order refl)
keeps_any Restart n m r s no_order no_restart = absurd (no_restart refl)
keeps_any line n m r s no_order no_restart = tt

-- and then the keeper is not read, and loses nothing
keeps_on : (line : Line) (n m k r s t : ℕ) → Keeps line n m r s → m ≤ k → t ≡ s → Keeps line n k r t
keeps_on (Command order) n m k r s t keeps more same = omega (arith, keeps, more)
keeps_on Restart n m k r s t keeps more same = subst (λ (x : ℕ). RoseBy n r x) (sym same) keeps
keeps_on line n m k r s t keeps more same = tt

pub keeps_then : (line : Line) (before mid all more : List Entry) (n m k r s t : ℕ) → KeepsOrRefuses line before mid n m r s → m ≤ k → t ≡ s → all ≡ mid ++ more → KeepsOrRefuses line before all n k r t
keeps_then line before mid all more n m k r s t (inl keeps) fewer same entered = inl (keeps_on line n m k r s t keeps fewer same)
keeps_then line before mid all more n m k r s t (inr (refusal, later, is)) fewer same entered =
    inr (refusal, later ++ more, entered ∙ (ap (λ (l : List Entry). l ++ more) is ∙ append_assoc before (Refused refusal ∷ later) more))

-- ---- refusals

-- a line has begun, so no number of a tick is to be entered
pub line_quiet : (o o' : OuterState) → Goes (Begins_line ∷ []) o o' [] [] → o'.in_tick ≡ false
unfolding outcome
line_quiet o o' goes = ap (λ (w : Outside). w.outer.in_tick) (goes []).state

pub refuses_next : (refusal : Refusal) (o o' : OuterState) (before all : List Entry) → o.in_tick ≡ false → Goes (Host_notes (Refused refusal) ∷ []) o o' before all → RefusesNext before all
unfolding outcome
refuses_next refusal o o' before all quiet goes = (
  refusal,
  [],
  (goes []).entries
      ∙ ap (λ (b : Bool). before ++ (((if b && not o.stamped then Time o.clock ∷ [] else []) ++ Refused refusal ∷ []) ++ [])) quiet,
)
