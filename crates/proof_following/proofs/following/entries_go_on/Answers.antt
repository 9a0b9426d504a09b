-- Each is read off the course.
use Rattle.std.proofs.Common.{◌-◌, ◌∙◌, refl}
use Rattle.zw_text.specs.declared.entry.Entry.TheVariants.{Time}
use Rattle.proof_ends.specs.proof_requests.law_host.Course.{Course}
use Rattle.proof_following.specs.Quiet.{gone_to}
use Rattle.proof_following.proofs.Coming.{calm_comes, calm_numbers}
use Rattle.proof_following.proofs.Entering.{course_both, makes_none, notes_after, plain_after, plainly_within}
use Rattle.proof_following.proofs.Silent.{silently_denied, silently_ticks}
use Rattle.proof_following.proofs.following.entries_go_on.Goals as goal

pub returns-clause-notes : goal.returns-clause-notes
returns-clause-notes c = λ heeds past told notes course all fits due. notes_after heeds past told notes course all fits due

pub returns-clause-beside : goal.returns-clause-beside
returns-clause-beside c = λ heeds past rest e course plainly mark may fits none calm undenied.
    let later : Course = record course { ticked = gone_to past e course } in
    plain_after heeds past e rest course later mark fits (calm_comes heeds past e course (plainly_within e plainly) none calm undenied) none fits may ∙ makes_none heeds past e rest later plainly

pub returns-clause-passes : goal.returns-clause-passes
returns-clause-passes c = λ heeds past tick rest course fits none calm.
    let later : Course = record course { ticked = tick - 1 } in
    plain_after heeds past (Time tick) rest course later refl fits (calm_numbers heeds past tick course none fits calm) none fits refl

pub returns-clause-ended : goal.returns-clause-ended
returns-clause-ended c = λ heeds past now course running none nothing ends. silently_ticks heeds past now course running none nothing ends

pub returns-clause-denied : goal.returns-clause-denied
returns-clause-denied c = λ heeds past course running none nothing is. silently_denied heeds past course running none nothing is

pub returns-clause-both : goal.returns-clause-both
returns-clause-both c = λ heeds past first later course goes. course_both heeds past first later course goes
