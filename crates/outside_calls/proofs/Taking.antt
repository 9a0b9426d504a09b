-- The chip took all bytes of its pipe, and that is entered.
use Rattle.std.proofs.Common.{◌≡◌, ℕ, ◌<◌, List, [], ◌∷◌, ◌++◌, Bool, false, length, refl, sym, subst, arith}
use Rattle.zw_text.specs.declared.entry.Entry.{Entry}
use Rattle.outside_model.specs.State.{OuterState, is_stalled}
use Rattle.outside_model.specs.Chip.{chip_takes}
use Rattle.outside_model.specs.Schedules.{TakesBytes, TakesAll, TakesBy, ChipTakes}
use Rattle.outside_model.specs.Events.{OuterEvent, Chip_takes, outcome, devices_after, May, stamp, has_entered}
use Rattle.outside_model.specs.Did.{GoesOf}
use Rattle.outside_calls.proofs.Single.{goes_one, entered}

-- what was taken is entered
takes_by : (o : OuterState) (bytes : List ℕ) (events : List OuterEvent) → 0 < length bytes → TakesAll o events → TakesBy false bytes o events
takes_by o [] events some taken = absurd (omega arith)
takes_by o (byte ∷ bytes) events some taken = taken

pub taken_all : (o mid new : OuterState) (start told before all : List Entry) → is_stalled o ≡ false → 0 < length o.to_chip.bytes → start ≡ [] → TakesBytes (length o.to_chip.bytes) o mid start told
    → new ≡ has_entered mid told → all ≡ before ++ stamp mid told → GoesOf (ChipTakes o) o new before all
unfolding outcome devices_after May
taken_all o mid new start told before all flows some none taken outer put =
    let count : ℕ = length o.to_chip.bytes in
    let events : List OuterEvent = Chip_takes count taken.rest taken.ways ∷ [] in (
      events,
      subst (λ (b : Bool). TakesBy b o.to_chip.bytes o events) (sym flows) (takes_by o o.to_chip.bytes events some (record { rest = taken.rest; ways = taken.ways; are = refl })),
      goes_one (Chip_takes count taken.rest taken.ways) o new before all (λ ds. taken.may)
          (λ ds. entered (chip_takes o count taken.rest taken.ways) mid new start told before all none taken.does outer put) (λ ds. refl),
    )
