-- How long the messages of parameters in a row are.
use Rattle.std.proofs.Common.{◌≡◌, ℕ, ◌+◌, ◌≤◌, List, [], ◌∷◌, length, false, nat_lt, refl, arith}
use Rattle.std.proofs.lemmas.Bool.Decides.{nat_tests}
use Rattle.class_core.specs.Cell.{written}
use Rattle.class_core.specs.Fields.{numbers}
use Rattle.class_core.specs.declared.number.Size.TheVariants.{One}
use Rattle.encap.specs.Written.{batched_form}
use Rattle.zw_base.specs.declared.order.What.{What}
use Rattle.zw_base.specs.declared.order.What.TheVariants.{Value, Mode, Setpoint, Config, Bulk, Associate, Dissociate, Interval, Comfort}
use Rattle.host_orders.specs.declared.actuator.Actuator.{Actuator}
use Rattle.host_orders.specs.Messages.{commands_of, is_batch, BulkHasAtMost}

pub length-numbers : (values : List ℕ) → length (written (numbers One values)) ≡ length values
length-numbers [] = refl
length-numbers (value ∷ more) = omega (arith, length-numbers more)

pub bulk_len : (actuator : Actuator) (offset : ℕ) (values : List ℕ)
    → 6 + length values ≡ length (batched_form (is_batch (Bulk offset values)) (commands_of actuator (Bulk offset values)))
bulk_len actuator offset values = omega (arith, length-numbers values)

short_bulk : (count len : ℕ) → 6 + count ≡ len → nat_lt 255 len ≡ false → count ≤ 255
short_bulk count len e h = grind (arith, nat_tests, h, e)

-- what fits its length byte has few parameters
pub few_values : (actuator : Actuator) (what : What) → nat_lt 255 (length (batched_form (is_batch what) (commands_of actuator what))) ≡ false → BulkHasAtMost 255 what
few_values actuator (Bulk offset values) h = short_bulk (length values) _ (bulk_len actuator offset values) h
few_values actuator (Value word) h = tt
few_values actuator (Mode mode) h = tt
few_values actuator (Setpoint kind tenths) h = tt
few_values actuator (Config parameter value) h = tt
few_values actuator (Associate group member) h = tt
few_values actuator (Dissociate group member) h = tt
few_values actuator (Interval seconds) h = tt
few_values actuator (Comfort mode kind tenths) h = tt
