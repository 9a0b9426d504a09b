-- By what a host knows of its work, its requests, what it seals and its ends.
use Rattle.std.proofs.Common.{ℕ, List}
use Rattle.s0_crypto.specs.Sealing.{keys_of}
use Rattle.proof_hearing.specs.proof_nonces.proof_attempts.Since.{AlongRuns, KnowsSince}
use Rattle.proof_noting.proofs.AsksSealed.{AsksAreSo, asks_along}
use Rattle.proof_noting.proofs.ItemsFit.{event_follows, one_fits}
use Rattle.proof_noting.proofs.ItemsGo.{item_follows}
use Rattle.proof_noting.proofs.items.notes_go_with_items.Goals as goal

asking : (c : goal.After-hosts_tell_of_ends) (key : List ℕ) → AlongRuns (keys_of key) (KnowsSince AsksAreSo)
asking c key =
    asks_along (keys_of key)
    (λ here told m run. (
      (c.hosts_know_their_work.ensures (keys_of key) here told m run, c.hosts_ask_as_told.ensures.run (keys_of key) here told m run),
      c.hosts_seal_once.ensures.known (keys_of key) here told m run,
    ))

pub returns-clause-judged : goal.returns-clause-judged
returns-clause-judged c = λ key taken from ground next past told m item rest behind no_payload.
    item_follows key taken from c.hosts_tell_of_ends.ensures.walk c.hosts_show_open_sessions.ensures.opened (asking c key) ground next past told m item rest behind no_payload

pub returns-clause-event : goal.returns-clause-event
returns-clause-event c = λ key taken from ground next past told m one sure may left. event_follows key taken from past m one left next told may

pub returns-clause-fits : goal.returns-clause-fits
returns-clause-fits c = λ key taken from past m one left. one_fits key taken from past m one left
