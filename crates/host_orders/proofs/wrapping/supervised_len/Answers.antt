use Rattle.std.proofs.Common.{◌≡◌, ◌+◌, length, sym, subst, arith}
use Rattle.encap.specs.Written.{batched_form}
use Rattle.zw_base.specs.declared.order.What.{What}
use Rattle.host_orders.specs.Messages.{commands_of, is_batch}
use Rattle.host_orders.proofs.Lengths.{bulk_len}
use Rattle.host_orders.proofs.wrapping.supervised_len.Goals as goal

pub returns-in-Bulk-clause-len : goal.returns-in-Bulk-clause-len
returns-in-Bulk-clause-len c actuator =
    let P : What → Type 0 = λ what. 6 + c.len.result ≡ length (batched_form (is_batch what) (commands_of actuator what)) in
    subst P (sym c.in-Bulk.is) (omega (arith, c.len.ensures, bulk_len actuator c.in-Bulk.offset c.in-Bulk.values))
