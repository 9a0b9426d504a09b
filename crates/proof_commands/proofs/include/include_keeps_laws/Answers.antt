use Rattle.proof_commands.proofs.Including.{adds_securely, part_of}
use Rattle.proof_commands.proofs.include.include_keeps_laws.Goals as goal

pub returns : goal.returns
returns c status key left left' sink sink' sixteen = record {
  parts = part_of;
  added = adds_securely c.added_locks_become_secure.ensures c.lines_lead_on.ensures.more (c.lines_lead_on.ensures.first key sixteen);
}
