-- What is entered of what a line asks of the host (this project's own).
use Rattle.std.specs.Prelude.{◌≡◌, List, [], ◌∷◌, ◌++◌, Option, Some, Result, Ok, Err}
use Rattle.zw_text.specs.declared.entry.Entry.{Entry}
use Rattle.zw_text.specs.declared.entry.Entry.TheVariants.{Refused as refused_entry}
use Rattle.zw_text.specs.declared.entry.Refusal.{Refusal}
use Rattle.host_orders.specs.declared.refused.Refused.{Refused}
use Rattle.world_model.specs.Refusals.{shown}

-- the refusal that is shown so is entered, and nothing else
abbrev pub Enters : Option Refusal → List Entry → List Entry → Type 0
Enters seen before all = (refusal : Refusal) × (seen ≡ Some refusal) × (all ≡ before ++ refused_entry refusal ∷ [])

-- the host took what was asked for, and nothing is entered; or its refusal is
abbrev pub Answers : {A : Type 0} → Result A Refused → List Entry → List Entry → Type 0
Answers (Ok value) before all = all ≡ before
Answers (Err refused) before all = Enters (shown refused) before all
