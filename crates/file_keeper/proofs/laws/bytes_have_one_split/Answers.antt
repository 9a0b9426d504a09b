use Rattle.file_keeper.proofs.Splits.{split_once}
use Rattle.file_keeper.proofs.laws.bytes_have_one_split.Goals as goal

pub returns-clause-lines : goal.returns-clause-lines
returns-clause-lines c = λ bytes lines others torn end s s'. (split_once bytes lines others torn end s s').0

pub returns-clause-end : goal.returns-clause-end
returns-clause-end c = λ bytes lines others torn end s s'. (split_once bytes lines others torn end s s').1
