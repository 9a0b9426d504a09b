-- What was told of a call is entered.
use Rattle.std.proofs.Common.{◌≡◌, ℕ, List, [], ◌∷◌, ◌++◌, length, ap, ◌∙◌, Result, OnOk}
use Rattle.serial_frame.specs.declared.unit.Unit.{Unit as LineUnit}
use Rattle.serial_pipes.specs.Events.{Writes, Clears, told as told_of}
use Rattle.serial_pipes.specs.Events as way
use Rattle.zw_words.specs.declared.side.Side.{Side}
use Rattle.zw_words.specs.declared.side.Side.TheVariants.{Host}
use Rattle.zw_text.specs.declared.entry.Entry.{Entry}
use Rattle.outside_model.specs.State.{OuterState, Outcome, Does}
use Rattle.outside_model.specs.Chip.{chip_ticks}
use Rattle.outside_model.specs.Events.{Host_writes, Chip_ticks, Clears_pipe, way_of, with_way, clears, cleared_entries, stamp, has_entered}
use Rattle.outside_model.specs.Did.{Goes, Enters}
use Rattle.outside_step.proofs.Answered.{map_ok}
use Rattle.outside_calls.proofs.Single.{entered_ok}
use Rattle.outside_calls.proofs.QuietEvents.{goes_writes, goes_clears, goes_chip_ticks}

module _ {V E : Type 0} (r : Result V E) (o mid new : OuterState) (start told before all : List Entry) (none : start ≡ []) where
  -- the host wrote a unit
  pub wrote : (unit : LineUnit) → mid ≡ record o { to_chip = way.after o.to_chip (Writes unit) } → told ≡ start ++ told_of Host o.to_chip unit
      → OnOk r (new ≡ has_entered mid told) → OnOk r (all ≡ before ++ stamp mid told) → OnOk r (Goes (Host_writes unit ∷ []) o new before all)
  wrote unit is put outer entered =
      let out : Outcome = record { outer = record o { to_chip = way.after o.to_chip (Writes unit) }; entries = told_of Host o.to_chip unit } in
      map_ok r (Enters out new before all) (Goes (Host_writes unit ∷ []) o new before all) (goes_writes o new unit before all)
      (entered_ok r out mid new start told before all none (record { outer = is; entries = put }) outer entered)

  -- the bytes of a side were lost
  pub cleared : (side : Side) (count : ℕ) → count ≡ length (way_of o side).bytes → mid ≡ with_way o side (way.after (way_of o side) Clears) → told ≡ start ++ cleared_entries side count
      → OnOk r (new ≡ has_entered mid told) → OnOk r (all ≡ before ++ stamp mid told) → OnOk r (Goes (Clears_pipe side ∷ []) o new before all)
  cleared side count counted is put outer entered =
      map_ok r (Enters (clears o side) new before all) (Goes (Clears_pipe side ∷ []) o new before all) (goes_clears o new side before all)
      (entered_ok r (clears o side) mid new start told before all none (record { outer = is; entries = put ∙ ap (λ n. start ++ cleared_entries side n) counted }) outer entered)

  -- the chip ticked
  pub ticked : Does (chip_ticks o) mid start told → OnOk r (new ≡ has_entered mid told) → OnOk r (all ≡ before ++ stamp mid told) → OnOk r (Goes (Chip_ticks ∷ []) o new before all)
  ticked done outer entered =
      map_ok r (Enters (chip_ticks o) new before all) (Goes (Chip_ticks ∷ []) o new before all) (goes_chip_ticks o new before all)
      (entered_ok r (chip_ticks o) mid new start told before all none done outer entered)
