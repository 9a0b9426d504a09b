-- Which values the own fields of these classes have.
use Rattle.std.specs.Prelude.{ℕ, ◌||◌, ◌==◌, nat_le, Bool, List, [], ◌∷◌}
use Rattle.class_core.specs.Cell.{Cell, Whole}
use Rattle.class_info.specs.declared.report_status.ReportStatus.{ReportStatus}
use Rattle.class_info.specs.declared.report_status.ReportStatus.TheVariants.{NoSupport, Working, Fail, Success}

-- a charge in per cent, or 255 for a low battery (Battery Command Class)
abbrev pub is_battery : ℕ → Bool
is_battery b = nat_le b 100 || b == 255

-- the byte of a status (Supervision Command Class)
abbrev pub status_byte : ReportStatus → ℕ
status_byte NoSupport = 0
status_byte Working = 1
status_byte Fail = 2
status_byte Success = 255

-- bytes that may be anything (the nonce of Security 0)
abbrev pub wholes : List ℕ → List Cell
wholes [] = []
wholes (b ∷ bs) = Whole b ∷ wholes bs
