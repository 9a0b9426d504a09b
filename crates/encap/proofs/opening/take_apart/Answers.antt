use Rattle.encap.proofs.OpenLemmas.{opens}
use Rattle.encap.proofs.opening.take_apart.Goals as goal

pub returns-clause-wraps : goal.returns-clause-wraps
returns-clause-wraps c =
    opens c.begins.result c.in-Ok.core.crc16 c.has_wrap.result c.in-Ok.core.channel c.in-Ok.core.session c.outer.result c.in-Ok.core.inner.now c.args.bytes.now c.in_ok-commands.commands.items
    c.in-Ok.ensures.core c.begins.ensures c.has_wrap.ensures c.outer.ensures c.in_ok-commands.ensures.batch c.in_ok-commands.ensures.alone
