-- A plain device and a lock begin their courses; the orders for a plain node go unsealed.
use Rattle.std.proofs.Common.{inl, inr}
use Rattle.s0_crypto.specs.Sealing.{keys_of}
use Rattle.proof_headline.proofs.Sorting.{plain_or_lock}
use Rattle.proof_headline.proofs.devices.supervised_nodes_are_plain_or_locks.Goals as goal

pub returns : goal.returns
returns c = λ key devices lines events node made are may it. elim (plain_or_lock it.device.kind it.supervised) [
  | inl kind ↦
      let begins = c.devices_as_made_begin_courses.ensures.begins key devices node it.device made it.first kind in
      inl (record { within = begins.0; device = begins.1; orders = c.orders_go_plain.ensures (keys_of key) devices lines events node it.device are may it.first kind })
  | inr kind ↦ inr (c.locks_as_made_begin_courses.ensures key devices node it.device made it.first kind)
]
