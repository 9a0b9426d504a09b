-- Lists of events that were done one after another.
use Rattle.std.proofs.Common.{◌≡◌, List, [], ◌∷◌, ◌++◌, refl, ap, sym, ◌∙◌, subst, append_assoc}
use Rattle.std.proofs.lemmas.List.{append-nil}
use Rattle.chip_sim.specs.State.{ChipState}
use Rattle.chip_sim.specs.Events.{ChipEvent, after, outs, May}
use Rattle.chip_sim.specs.Did.{after_all, outs_all, MayAll, Did}
use Rattle.chip_sim.specs.declared.out.ChipOut.{ChipOut}

pub after_all-append : (s : ChipState) (a b : List ChipEvent) → after_all s (a ++ b) ≡ after_all (after_all s a) b
after_all-append s [] b = refl
after_all-append s (e ∷ a) b = after_all-append (after s e) a b

pub outs_all-append : (s : ChipState) (a b : List ChipEvent) → outs_all s (a ++ b) ≡ outs_all s a ++ outs_all (after_all s a) b
outs_all-append s [] b = refl
outs_all-append s (e ∷ a) b = ap (λ (t : List ChipOut). outs s e ++ t) (outs_all-append (after s e) a b) ∙ sym (append_assoc (outs s e) (outs_all (after s e) a) (outs_all (after_all (after s e) a) b))

pub may_all-append : (s : ChipState) (a b : List ChipEvent) → MayAll s a → MayAll (after_all s a) b → MayAll s (a ++ b)
may_all-append s [] b first later = later
may_all-append s (e ∷ a) b first later = (first.0, may_all-append (after s e) a b first.1 later)

-- nothing was done
pub did_nothing : (old new : ChipState) (before all : List ChipOut) → new ≡ old → all ≡ before → Did [] old new before all
did_nothing old new before all state outs = record { may = tt; state = state; outs = outs ∙ sym (append-nil before) }

-- one event was done
pub did_one : (e : ChipEvent) (old new : ChipState) (before all : List ChipOut) → May old e → new ≡ after old e → all ≡ before ++ outs old e → Did (e ∷ []) old new before all
did_one e old new before all may state put =
    record { may = (may, tt); state = state; outs = put ∙ ap (λ (t : List ChipOut). before ++ t) (sym (append-nil (outs old e))) }

-- two lists were done one after the other
pub did_both : (a b : List ChipEvent) (old mid new : ChipState) (before some all : List ChipOut) → Did a old mid before some → Did b mid new some all → Did (a ++ b) old new before all
did_both a b old mid new before some all first later =
    record {
      may = may_all-append old a b first.may (subst (λ (s : ChipState). MayAll s b) first.state later.may);
      state = later.state ∙ ap (λ (s : ChipState). after_all s b) first.state ∙ sym (after_all-append old a b);
      outs = later.outs ∙ ap (λ (t : List ChipOut). t ++ outs_all mid b) first.outs
          ∙ append_assoc before (outs_all old a) (outs_all mid b)
          ∙ ap (λ (t : List ChipOut). before ++ t) (ap (λ (s : ChipState). outs_all old a ++ outs_all s b) first.state ∙ sym (outs_all-append old a b));
    }
