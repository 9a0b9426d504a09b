-- Changes of a device, told one after another.
use Rattle.std.specs.Prelude.{slice_get}
use Rattle.device_kinds.specs.declared.change.Change.{Change}
use Rattle.outside_model.specs.Air.{change_entries}
use Rattle.outside_model.specs.Devices.{changes_entries}
use Rattle.std.proofs.Common.{◌≡◌, ℕ, zero, suc, ◌+◌, ◌<◌, List, [], ◌∷◌, ◌++◌, length, drop, refl, ap, sym, ◌∙◌, append_assoc, arith, add-one}
use Rattle.zw_text.specs.declared.entry.Entry.{Entry}

-- a change is told, and those after it are left
changes_split : (node : ℕ) (js : List Change) (at : ℕ) → at < length js → changes_entries node (drop at js) ≡ change_entries node (slice_get js at) ++ changes_entries node (drop (suc at) js)
changes_split node [] at lt = absurd (omega arith)
changes_split node (j ∷ js) zero lt = refl
changes_split node (j ∷ js) (suc at) lt = changes_split node js at (omega arith)

pub change_more : (node : ℕ) (js : List Change) (at : ℕ) (start told whole : List Entry) → at < length js → told ≡ start ++ change_entries node (slice_get js at)
    → start ++ changes_entries node (drop at js) ≡ whole → told ++ changes_entries node (drop (at + 1) js) ≡ whole
change_more node js at start told whole lt put inv =
    ap (λ (l : List Entry). l ++ changes_entries node (drop (at + 1) js)) put
    ∙ (append_assoc start (change_entries node (slice_get js at)) (changes_entries node (drop (at + 1) js))
    ∙ (ap (λ n. start ++ (change_entries node (slice_get js at) ++ changes_entries node (drop n js))) (add-one at)
    ∙ (ap (λ (l : List Entry). start ++ l) (sym (changes_split node js at lt)) ∙ inv)))
