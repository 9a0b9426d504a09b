-- The lines of a story were said, and what hosts send, seal and open in lines that were said is so.
use Rattle.run_all.specs.host_core.Network.{keys_of}
use Rattle.law_transcript.specs.Nodes.{listing_of, always}
use Rattle.law_transcript.specs.Payloads.{SendsWhatIsDue}
use Rattle.proof_replay.specs.proof_nonces_Giving.{CountsNonces}
use Rattle.proof_replay.specs.proof_nonces_Sealing.{SealsOnce}
use Rattle.proof_commands.proofs.AsSaid.{of_new}
use Rattle.proof_commands.proofs.Speaking.{all_said}
use Rattle.proof_commands.proofs.laws.stories_send_what_is_due.Goals as goal

pub returns-clause-sends : goal.returns-clause-sends
returns-clause-sends c = λ key old new story unentered is tells.
    of_new c.lines_are_read_as_said.ensures key old new story unentered is tells (SendsWhatIsDue (always (listing_of old.devices)) key)
    (λ done whole. c.lines_send_what_is_due.ensures key old.devices (all_said story) done)

pub returns-clause-seals : goal.returns-clause-seals
returns-clause-seals c = λ key old new story unentered is tells.
    of_new c.lines_are_read_as_said.ensures key old new story unentered is tells (SealsOnce (keys_of key))
    (λ done whole. (c.lines_seal_once.ensures (keys_of key) old.devices (all_said story) done).0)

pub returns-clause-nonces : goal.returns-clause-nonces
returns-clause-nonces c = λ key old new story unentered is tells.
    of_new c.lines_are_read_as_said.ensures key old new story unentered is tells (CountsNonces (keys_of key))
    (λ done whole. (c.lines_count_nonces.ensures (keys_of key) old.devices (all_said story) done).0)
