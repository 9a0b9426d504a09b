-- Before the last entry the request had not ended, and how it did stands in what was judged.
use Rattle.std.proofs.Common.{◌≡◌, true, false, [], ◌∷◌, ◌++◌, refl}
use Rattle.zw_text.specs.declared.entry.Done.TheVariants as done
use Rattle.law_time.proofs.Computing.{computing}
use Rattle.law_time.specs.WorkedEnds.{failed_errand, set_under_way}
use Rattle.law_time.specs.WorkedUnits.{failed, host_acknowledges}
use Rattle.proof_ends.proofs.Noting.{second_of}
use Rattle.proof_ends.proofs.Readings.{last_done}
use Rattle.proof_ends.proofs.worked.rejected_ends.Goals as goal

wrong : false ≡ true → ⊥
wrong is = cc

pub returns-clause-twice : goal.returns-clause-twice
returns-clause-twice c = λ law.
    let one = last_done law.reads failed_errand 2 done.Fail refl in
    wrong (last_done one.1 (set_under_way ++ failed ∷ host_acknowledges ∷ []) 2 done.Fail refl).0

pub returns-clause-otherwise : goal.returns-clause-otherwise
unfolding computing
returns-clause-otherwise c = λ law. wrong (last_done law.reads (set_under_way ++ failed ∷ host_acknowledges ∷ []) 2 done.Delivered refl).2

pub returns-clause-left_out : goal.returns-clause-left_out
unfolding computing
returns-clause-left_out c = λ law. wrong (second_of _ false (law.in_the_end refl))
