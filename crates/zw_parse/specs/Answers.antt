-- What reading answers of a text that is an entry's.
use Rattle.std.specs.Prelude.{◌≡◌, Result, Ok, Err}
use Rattle.zw_text.specs.declared.entry.Entry.{Entry}
use Rattle.zw_parse.specs.declared.read.EntryFault.{EntryFault}
use Rattle.zw_parse.specs.declared.read.EntryFault.TheVariants.{Bad, NoMemory}

-- the answer is that entry, or that there was no memory
abbrev pub Answers : Result Entry EntryFault → Entry → Type 0
Answers (Ok found) entry = found ≡ entry
Answers (Err NoMemory) entry = Unit {0}
Answers (Err Bad) entry = ⊥
