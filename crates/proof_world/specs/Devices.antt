-- What a transcript shows of the sessions of a device (this project's own).
use Rattle.std.specs.Prelude.{List}
use Rattle.proof_host.specs.device_sim.State.{State}
use Rattle.zw_text.specs.declared.entry.Entry.{Entry}
use Rattle.zw_text.specs.Transcript.{applied}
use Rattle.proof_device.specs.Showing.{NeverFalls}

-- the sessions on the `dev` entries of its node never fall: those of one session stand together
abbrev pub GroupsSessions : List Entry → State → Type 0
GroupsSessions transcript device = NeverFalls (applied device.node transcript)
