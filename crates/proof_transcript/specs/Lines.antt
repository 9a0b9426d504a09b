-- Lines that repeat no frame (this project's own).
use Rattle.zw_text.specs.declared.line.Line.{Line}
use Rattle.zw_text.specs.declared.line.Line.TheVariants.{Repeat}
use Rattle.proof_air.specs.world_lines.Spoken.{Spoken}

abbrev pub IsNoRepeat : Line → Type 0
IsNoRepeat (Repeat frame) = ⊥
IsNoRepeat line = Unit {0}

-- the same of a line that was said
abbrev pub RepeatsNone : Spoken → Type 0
RepeatsNone spoken = IsNoRepeat spoken.line
