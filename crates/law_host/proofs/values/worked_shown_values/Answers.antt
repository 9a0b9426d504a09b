use Rattle.std.proofs.Common.{refl}
use Rattle.std.specs.Fmt.{digits}
use Rattle.json.specs.Print.{escape_byte}
use Rattle.law_time.proofs.Computing.{computing}
use Rattle.law_host.proofs.values.worked_shown_values.Goals as goal

pub returns : goal.returns
unfolding computing digits escape_byte
returns c = (tt, (refl, (tt, tt)))
