-- The lines of the scenario are a story, and its summary is what was written.
use Rattle.proof_commands.proofs.Generated.{generate_told}
use Rattle.proof_commands.proofs.generate.generate_keeps_laws.Goals as goal

pub returns : goal.returns
returns c = λ ended key old new hundreds ran.
    generate_told c.lines_are_read_as_said.ensures c.tables_are_what_is_shown.ensures key old new hundreds ended ran
