-- What a host alone sends is due, and it tells of ends as they are.
use Rattle.s0_crypto.specs.Sealing.{keys_of}
use Rattle.proof_requests.specs.law_host.Heard.{listing_heard}
use Rattle.proof_asking.proofs.errands.hosts_say_how_done.Goals as goal

pub returns : goal.returns
returns c = λ key told run.
    c.ends_say_how_done.ensures listing_heard key told (c.hosts_send_what_is_due.ensures.told key told run) (c.hosts_tell_of_ends.ensures.told (keys_of key) told run)
