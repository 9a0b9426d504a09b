-- Entries whose numbers are in their ranges are read back as they were written, and so are those of the table at the end.
use Rattle.law_transcript.specs.Nodes.{always}
use Rattle.std.proofs.Common.{ℕ, List}
use Rattle.zw_base.proofs.Each.{all-both}
use Rattle.zw_text.specs.Fits.{EntryFits}
use Rattle.zw_text.specs.declared.entry.Entry.{Entry}
use Rattle.zw_text.specs.declared.entry.Entry.TheVariants.{Said, Json, Device, TableEnd, TableNode, TableValue}
use Rattle.device_stack.specs.State.{State}
use Rattle.law_transcript.specs.Table.{table_of}
use Rattle.proof_audit.specs.Tables.{IsOfTable}
use Rattle.proof_audit.proofs.WithTable.{table-is-lines}
use Rattle.proof_audit.specs.Legible.{AreInRange, AreLegible, IsLegible, ShowTexts, ShowsText}

-- ---- the transcript

one_legible : (told : Entry) → EntryFits told → ShowsText told → IsLegible told
one_legible (Said words) fits shows = record { is = record { fits = fits; shows = shows.says }; one_line = shows.one_line }
one_legible (Json text) fits shows = record { is = record { fits = fits; shows = tt }; one_line = shows }
one_legible told fits shows = record { is = record { fits = fits; shows = tt }; one_line = tt }

pub all_legible : (told : List Entry) → AreInRange told → ShowTexts told → AreLegible told
all_legible told fit shows = all-both EntryFits ShowsText IsLegible one_legible told fit shows

-- ---- the table

table_line : (told : Entry) → EntryFits told → IsOfTable told → IsLegible told
table_line (TableEnd ticks) fits is = record { is = record { fits = fits; shows = tt }; one_line = tt }
table_line (TableNode node sessions) fits is = record { is = record { fits = fits; shows = tt }; one_line = tt }
table_line (TableValue node property confirmed heard) fits is = record { is = record { fits = fits; shows = tt }; one_line = tt }
table_line (Device node setting) fits is = record { is = record { fits = fits; shows = tt }; one_line = tt }
table_line told fits is = absurd is

pub table_legible : (listing : ℕ → List ℕ) (past : List Entry) (devices : List State) (clock : ℕ) → AreInRange (table_of (always listing) clock past devices)
    → AreLegible (table_of (always listing) clock past devices)
table_legible listing past devices clock fit =
    all-both EntryFits IsOfTable IsLegible table_line (table_of (always listing) clock past devices) fit (table-is-lines listing clock past devices)
