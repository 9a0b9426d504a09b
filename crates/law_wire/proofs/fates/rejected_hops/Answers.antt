use Rattle.std.proofs.Common.{ℕ, refl, ap}
use Rattle.law_wire.proofs.Computing.{reckoning}
use Rattle.law_wire.proofs.Differing.{unlike}
use Rattle.zw_text.specs.declared.entry.Entry.{Entry}
use Rattle.zw_text.specs.declared.entry.Entry.TheVariants.{Forget}
use Rattle.law_wire.proofs.fates.rejected_hops.Goals as goal

-- the first node of a forgotten hop
abbrev hop_start : Entry → ℕ
hop_start (Forget a b) = a
hop_start _ = 0

pub returns-clause-home : goal.returns-clause-home
unfolding reckoning
returns-clause-home c = λ law. law

pub returns-clause-learned : goal.returns-clause-learned
unfolding reckoning
returns-clause-learned c = λ law. law

pub returns-clause-first : goal.returns-clause-first
unfolding reckoning
returns-clause-first c = λ law. unlike _ _ (ap hop_start law) refl

pub returns-clause-second : goal.returns-clause-second
unfolding reckoning
returns-clause-second c = λ law. law

pub returns-clause-lost : goal.returns-clause-lost
unfolding reckoning
returns-clause-lost c = λ law. law

pub returns-clause-live : goal.returns-clause-live
unfolding reckoning
returns-clause-live c = λ law. law
