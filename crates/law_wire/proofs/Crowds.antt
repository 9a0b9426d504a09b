-- How many frames wait in the runs in which a switch is set by hand so often.
use Rattle.std.proofs.Common.{◌≡◌, [], ◌∷◌, ◌++◌, refl}
use Rattle.zw_text.specs.declared.entry.Entry.TheVariants.{ChipFull}
use Rattle.law_transcript.specs.Worked.{the_switch}
use Rattle.law_wire.specs.Answering.{waiting}
use Rattle.law_wire.specs.WorkedFull.{crowded, busy_course}
use Rattle.law_wire.proofs.Computing.{reckoning}

pub many_wait : waiting (the_switch ∷ []) busy_course (crowded 33) ≡ 33
unfolding reckoning
many_wait = refl

pub as_many_wait : waiting (the_switch ∷ []) busy_course (crowded 32) ≡ 32
unfolding reckoning
as_many_wait = refl

pub one_dropped : waiting (the_switch ∷ []) busy_course (crowded 33 ++ ChipFull ∷ []) ≡ 32
unfolding reckoning
one_dropped = refl
