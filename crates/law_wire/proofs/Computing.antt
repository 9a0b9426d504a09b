use Rattle.std.specs.Prelude.{⊤}
use Rattle.chip_functions.specs.Mask.{mask_of}
use Rattle.law_transcript.proofs.Computing.{computing_devices}

-- what an answer unfolds to compute what a transcript shows, with the chip's masks of nodes
unfoldable pub reckoning : ⊤
unfolding mask_of computing_devices
reckoning = tt
