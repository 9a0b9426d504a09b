-- What is entered first at an event within a line or a tick stands directly after the number of the tick, where that is still to be entered.
use Rattle.std.proofs.Common.{◌≡◌, ◌&&◌, not, Bool, false, if◌then◌else◌, List, [], ◌∷◌, ◌++◌, ap, ◌∙◌}
use Rattle.zw_text.specs.declared.entry.Entry.{Entry}
use Rattle.zw_text.specs.declared.entry.Entry.TheVariants as entry
use Rattle.outside_model.specs.State.{Outside}
use Rattle.outside_model.specs.Events.{OuterEvent, outcome, stamp, ticked_entry, entries}
use Rattle.proof_air.proofs.Times.{IsWithin, outcome_time, same_number}

pub enters_first : (w : Outside) (event : OuterEvent) (first : Entry) (rest : List Entry) → IsWithin event → (outcome w event).entries ≡ first ∷ rest → entries w event ≡ ticked_entry w.outer ++ first ∷ rest
enters_first w event first rest within is =
    ap (stamp (outcome w event).outer) is ∙ ap (λ (l : List Entry). l ++ first ∷ rest) (same_number w.outer (outcome w event).outer (outcome_time w event within))

-- outside a tick there is none
pub number_none : (w : Outside) → w.outer.in_tick ≡ false → ticked_entry w.outer ≡ []
number_none w out = ap (λ (b : Bool). if b && not w.outer.stamped then entry.Time w.outer.clock ∷ [] else []) out
