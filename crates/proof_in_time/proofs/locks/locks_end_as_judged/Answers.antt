-- Such a device is a lock at the beginning of its courses.
use Rattle.s0_crypto.specs.Sealing.{keys_of}
use Rattle.proof_in_time.specs.Judging.{Locked}
use Rattle.proof_in_time.proofs.locks.locks_end_as_judged.Goals as goal

pub returns : goal.returns
returns c = λ key devices before lines n command device made found kind are quiet own over.
    c.stretches_end_as_judged.ensures n command (keys_of key) devices before lines (Locked (c.locks_as_made_begin_courses.ensures key devices n device made found kind)) are quiet own over
