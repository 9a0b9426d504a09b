use Rattle.std.proofs.Common.{take}
use Rattle.std.specs.List.{AllByRecursion}
use Rattle.zw_text.specs.Fits.{EntryFits}
use Rattle.zw_range.proofs.range.entries_in_range.Given as goal

abbrev pub invariant-entries : goal.invariant-entries
invariant-entries l = AllByRecursion EntryFits (take l.one-index l.entries)
