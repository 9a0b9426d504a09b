-- What the transcript shows of devices goes on over the words of a line.
use Rattle.std.proofs.Common.{ℕ, List, [], ◌∷◌, ◌++◌, sym, subst, ◌∙◌, append-nil}
use Rattle.std.specs.List.{AllByRecursion}
use Rattle.device_sim.specs.State.{State}
use Rattle.zw_text.specs.declared.entry.Entry.{Entry}
use Rattle.zw_text.specs.declared.entry.Entry.TheVariants.{Said}
use Rattle.zw_text.specs.Transcript.{Made, made, made_at}
use Rattle.zw_text.proofs.Views.{shown-append}
use Rattle.law_transcript.specs.Lists.{Has}
use Rattle.proof_spoken.specs.proof_device.Showing.{IsShownAmong}

-- a line that is said shows nothing of them
pub said_shown : (past : List Entry) (words : List ℕ) (devices : List State) → AllByRecursion (IsShownAmong past) devices → AllByRecursion (IsShownAmong (past ++ Said words ∷ [])) devices
said_shown past words [] are = tt
said_shown past words (device ∷ devices) are = (
  (λ one has. subst (λ (l : List Made). Has l one) (sym (shown-append (made_at device.node) past (Said words ∷ []) ∙ append-nil (made device.node past))) (are.0 one has)),
  said_shown past words devices are.1,
)
