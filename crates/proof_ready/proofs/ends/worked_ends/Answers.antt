-- The ticks are counted; and the one command has its outcome.
use Rattle.std.proofs.Common.{◌≡◌, ℕ, true, [], ◌∷◌, inl, inr, refl, subst}
use Rattle.std.specs.Prelude.{codes}
use Rattle.zw_text.specs.declared.entry.Entry.TheVariants.{Said}
use Rattle.std.specs.List.{list_all}
use Rattle.law_wire.specs.law_transcript.Lists.{Has}
use Rattle.law_wire.specs.law_transcript.Worked.{plain_exchange, the_switch}
use Rattle.law_time.specs.Stretches.{commands_in}
use Rattle.law_time.specs.Verdicts.{is_answered}
use Rattle.law_time.specs.WorkedStretches.{with_other}
use Rattle.law_time.proofs.Computing.{computing}
use Rattle.proof_ready.proofs.ends.worked_ends.Goals as goal

pub returns-clause-own : goal.returns-clause-own
unfolding computing
returns-clause-own c = refl

pub returns-clause-soon : goal.returns-clause-soon
unfolding computing
returns-clause-soon c = refl

pub returns-clause-alone : goal.returns-clause-alone
unfolding computing
returns-clause-alone c = refl

pub returns-clause-alone_soon : goal.returns-clause-alone_soon
unfolding computing
returns-clause-alone_soon c = refl

so_of_two : list_all (is_answered (the_switch ∷ []) [] (with_other 8 (Said (codes "tick 149")) plain_exchange) 2) (commands_in [] (with_other 8 (Said (codes "tick 149")) plain_exchange) 2) ≡ true
unfolding computing
so_of_two = refl

pub returns-clause-answered : goal.returns-clause-answered
unfolding computing
returns-clause-answered c = λ calm stretch node works long. so_of node works
  where
    so_of : (node : ℕ) → Has (2 ∷ []) node → list_all (is_answered (the_switch ∷ []) [] (with_other 8 (Said (codes "tick 149")) plain_exchange) node)
        (commands_in [] (with_other 8 (Said (codes "tick 149")) plain_exchange) node) ≡ true
    so_of node (inl same) =
        subst (λ (n : ℕ). list_all (is_answered (the_switch ∷ []) [] (with_other 8 (Said (codes "tick 149")) plain_exchange) n) (commands_in [] (with_other 8 (Said (codes "tick 149")) plain_exchange) n) ≡ true) same so_of_two
    so_of node (inr none) = absurd none
