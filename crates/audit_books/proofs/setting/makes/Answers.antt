use Rattle.std.proofs.Common.{sym}
use Rattle.audit_books.proofs.Listed.{none-fits}
use Rattle.audit_books.proofs.setting.makes.Goals as goal

pub returns-in-None : goal.returns-in-None
returns-in-None c = sym (none-fits _ c.in-None.ensures c.args.setting.now c.setting_in_range.ensures)
