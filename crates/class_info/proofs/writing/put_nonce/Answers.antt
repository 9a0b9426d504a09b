use Rattle.class_info.proofs.OwnLaws.{written_wholes}
use Rattle.class_info.proofs.writing.put_nonce.Goals as goal

pub returns-clause-ok : goal.returns-clause-ok
returns-clause-ok c = rw written_wholes c.extend.ensures.ok
