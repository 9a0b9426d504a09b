-- What a notice of the chip brings (Serial API).
use Rattle.std.specs.Prelude.{◌≡◌, ℕ, ◌≤◌, List, length, Option, Some, None}
use Rattle.chip_functions.specs.declared.notice.Notice.{Notice}
use Rattle.chip_functions.specs.declared.notice.Notice.TheVariants.{ApplicationCommandHandler, SendData, ApplicationUpdate, AddNode}
use Rattle.chip_functions.specs.declared.notice.Update.{Update}
use Rattle.chip_functions.specs.declared.notice.Update.TheVariants.{Received, RequestFailed}

-- a node and the classes that it lists, or that no information came
abbrev pub Lists : Update → Option (ℕ × List ℕ) → Type 0
Lists update None = update ≡ RequestFailed
Lists update (Some found) = (types : ℕ × ℕ × ℕ) × (update ≡ Received found.0 types.0 types.1 types.2 found.1)

-- the payload of a node in a notice fits a frame of the line
abbrev pub HasShortPayload : Notice → Type 0
HasShortPayload (ApplicationCommandHandler rx_status source payload) = length payload ≤ 65534
HasShortPayload (SendData callback_id status) = Unit {0}
HasShortPayload (ApplicationUpdate update) = Unit {0}
HasShortPayload (AddNode callback_id status information) = Unit {0}
