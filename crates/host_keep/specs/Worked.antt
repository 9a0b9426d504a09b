-- Records that were worked by hand: what they give, and the first that may not stand there.
use Rattle.std.specs.Prelude.{ℕ, List, [], ◌∷◌}
use Rattle.zw_base.specs.declared.property.Name.TheVariants as names
use Rattle.zw_base.specs.declared.property.Property.{Property}
use Rattle.zw_base.specs.declared.order.Word.TheVariants.{On}
use Rattle.zw_base.specs.declared.order.What.TheVariants.{Value}
use Rattle.zw_base.specs.declared.order.Order.{Order}
use Rattle.host_keep.specs.declared.final_status.FinalStatus.TheVariants.{Success}
use Rattle.host_keep.specs.declared.record.Record.{Record}
use Rattle.host_keep.specs.declared.record.Record.TheVariants.{Accepted, Joined, Begun, Final, Cancelled, Given, Spent, Seen}

-- node 2 is to be on
abbrev pub on : ℕ → Order
on node = record { node = node; end = 0; what = Value On }

-- its switch
abbrev pub switch : Property
switch = record { end = 0; name = names.Switch }

-- a nonce with this first byte
abbrev pub nonce : ℕ → List ℕ
nonce first = first ∷ 9 ∷ 9 ∷ 9 ∷ 9 ∷ 9 ∷ 9 ∷ 9 ∷ []

-- an order is taken, carried and done
abbrev pub exchange : List Record
exchange = Accepted 1 (on 2) ∷ Begun 2 1 1 ∷ Final 2 1 Success ∷ []

-- a session is begun for a command that does not wait longest
abbrev pub overtaken : List Record
overtaken = Accepted 1 (on 2) ∷ Accepted 2 (on 2) ∷ Begun 2 1 2 ∷ []

-- a session is begun while the one before it has not ended
abbrev pub hurried : List Record
hurried = Accepted 1 (on 2) ∷ Accepted 2 (on 2) ∷ Begun 2 1 1 ∷ Begun 2 2 2 ∷ []

-- a command is cancelled twice
abbrev pub cancelled_twice : List Record
cancelled_twice = Accepted 1 (on 2) ∷ Cancelled 1 ∷ Cancelled 1 ∷ []

-- two nonces, one after another
abbrev pub two_nonces : List Record
two_nonces = Given 2 1 (nonce 1) ∷ Spent 2 ∷ Given 2 2 (nonce 2) ∷ Seen 2 1 ∷ Seen 2 2 ∷ []

-- a nonce is counted twice
abbrev pub counted_twice : List Record
counted_twice = Given 2 1 (nonce 1) ∷ Spent 2 ∷ Given 2 1 (nonce 1) ∷ []

-- a nonce is given while one is live
abbrev pub two_live : List Record
two_live = Given 2 1 (nonce 1) ∷ Given 2 2 (nonce 2) ∷ []

-- an order for a node that was not interviewed
abbrev pub unknown_node : List Record
unknown_node = Joined 3 ∷ Accepted 1 (on 3) ∷ []
