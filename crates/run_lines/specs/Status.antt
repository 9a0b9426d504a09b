-- The exit status of each way in which a command ends (this project's own rule).
use Rattle.std.specs.Prelude.{ℕ}
use Rattle.run_lines.specs.declared.status.Status.{Status}
use Rattle.run_lines.specs.declared.status.Status.TheVariants.{Ok, Usage, BadLine, ReadFault, WriteFault, NoMemory, InputTooLong, BadHex, Undone, KeeperFault, BadRecord, No}

abbrev pub code_of : Status → ℕ
code_of Ok = 0
code_of Usage = 2
code_of (BadLine line fault) = 3
code_of ReadFault = 4
code_of WriteFault = 5
code_of NoMemory = 6
code_of InputTooLong = 7
code_of (BadHex place) = 8
code_of (Undone word) = 9
code_of KeeperFault = 10
code_of (BadRecord place) = 11
code_of (No line) = 12
