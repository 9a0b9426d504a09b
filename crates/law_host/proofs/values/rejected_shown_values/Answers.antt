use Rattle.std.proofs.Common.{Bool, false, ap}
use Rattle.std.specs.Prelude.{bytes_eq}
use Rattle.std.specs.Fmt.{digits}
use Rattle.json.specs.Print.{escape_byte}
use Rattle.zw_text.specs.declared.entry.Entry.{Entry}
use Rattle.zw_text.specs.declared.entry.Entry.TheVariants.{Json}
use Rattle.law_host.specs.Worked.{value_text}
use Rattle.law_time.proofs.Deciding.{not_true}
use Rattle.law_time.proofs.Computing.{computing}
use Rattle.law_host.proofs.values.rejected_shown_values.Goals as goal

-- the values are shown that were confirmed
abbrev shows : Entry → Bool
shows (Json text) = bytes_eq text value_text
shows entry = false

pub returns-clause-otherwise : goal.returns-clause-otherwise
unfolding computing digits escape_byte
returns-clause-otherwise c = λ law. not_true (ap (λ (entry : Entry). shows entry) law.1.0)

pub returns-clause-left_out : goal.returns-clause-left_out
unfolding computing digits escape_byte
returns-clause-left_out c = λ law. not_true (ap (λ (entry : Entry). shows entry) law.1.0)

pub returns-clause-unasked : goal.returns-clause-unasked
unfolding computing
returns-clause-unasked c = λ law. law.0
