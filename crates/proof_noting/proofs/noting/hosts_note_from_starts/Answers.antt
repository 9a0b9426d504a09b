-- The law, by the course that begins where the host starts again, with the nonces that were live.
use Rattle.s0_crypto.specs.Sealing.{keys_of}
use Rattle.proof_hearing.specs.proof_queue.proof_attempts.proof_requests.law_host.Nonces.{IsOffer}
use Rattle.proof_noting.specs.Following.{Outset, outset_of}
use Rattle.proof_noting.specs.Parts.{Parts}
use Rattle.proof_noting.proofs.InFull.{Noted, in_full}
use Rattle.proof_noting.proofs.KeptNonces.{each_kept, offers_kept}
use Rattle.proof_noting.proofs.Starting.{Since, begins_since}
use Rattle.proof_noting.proofs.Whole.{walks}
use Rattle.proof_noting.proofs.noting.hosts_note_from_starts.Goals as goal

pub returns : goal.returns
returns c = λ key taken records start given whole here told heard m run careful sure as_told at errands started split.
    let from : Outset = outset_of start (offers_kept given.kept) in
    let parts : Parts key taken from = c.notes_go_on.ensures key taken from errands in
    let noted : Noted key taken start (offers_kept given.kept) whole heard =
    in_full key taken start (offers_kept given.kept) parts here told heard m split (record { run = run; careful = careful; heeds_so = sure; heeds_as = as_told })
    (walks key taken from parts (Since key start.before records)
    (begins_since key taken records start given parts.along c.texts_give_one_thing.ensures.one (c.hosts_count_nonces.ensures.known (keys_of key)))
    run careful sure as_told started) whole at in
    record { in_full = noted.in_full; live = each_kept (IsOffer noted.in_full.notes.drawn) given.kept noted.offers }
