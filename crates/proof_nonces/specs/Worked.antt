-- A transcript in which a payload that is sealed, and too short to open, is believed.
use Rattle.std.specs.Prelude.{List, [], ◌∷◌, codes}
use Rattle.zw_base.specs.declared.property.Name.TheVariants as names
use Rattle.host_orders.specs.Settings.{setting}
use Rattle.zw_text.specs.declared.entry.Entry.{Entry}
use Rattle.zw_text.specs.declared.entry.Entry.TheVariants.{Report}
use Rattle.proof_notes.specs.proof_known.law_host.Worked.{judged}

abbrev pub believed_unopened : List Entry
believed_unopened = judged (codes "010800040004029881EC") (Report 4 (setting 0 names.Lock 255) ∷ [])
