-- A settling: in each pass the chip takes all that is on its way before the host hears of anything.
use Rattle.std.proofs.Common.{◌≡◌, ℕ, zero, suc, Bool, true, false, List, [], ◌∷◌, ◌++◌, length, map, refl, ap, sym, ◌∙◌, subst, inl, inr}
use Rattle.std.specs.Prelude.{take}
use Rattle.serial_frame.specs.Stream.{Rest, Feeds, no_rest}
use Rattle.serial_frame.specs.declared.item.Item.{Item}
use Rattle.air_frames.specs.History.{Mark}
use Rattle.proof_device.specs.outside_model.State.{is_stalled}
use Rattle.proof_device.specs.outside_model.Events.{OuterEvent}
use Rattle.proof_device.specs.outside_model.Schedules.{TakesBy as ChipTakesBy}
use Rattle.proof_traffic.specs.Requests.{Traffic}
use Rattle.proof_traffic.specs.Requests as course
use Rattle.proof_device.specs.world_model.State.{Machine}
use Rattle.proof_device.specs.world_model.Events.{Event, Outside_does, Host_does, Host_takes}
use Rattle.proof_device.specs.world_model.Did.{happens_all, Schedule, Nothing}
use Rattle.proof_device.specs.world_model.Settling.{IsPump, IsChipPart, TakesBy, IsMove, IfMoved, Passes, Settles}
use Rattle.proof_device.specs.world_model.Prefixes.{PassesPrefix, SettlesPrefix}
use Rattle.proof_serial.proofs.EndedItems.{feeds_all}
use Rattle.proof_traffic.specs.Course.{Follows, Goes}
use Rattle.proof_traffic.proofs.Parts.{Laws}
use Rattle.proof_traffic.proofs.CourseSteps.{AllFair, fair_first, fair_later, GoesOf, goes_nowhere, goes_both, goes_parts, goes_then, goes_as, goes_none, goes_then_prefix}
use Rattle.proof_traffic.proofs.Outside.{TakesAll, chip_goes}
use Rattle.proof_traffic.proofs.HostCourse.{host_goes, takes_goes}

-- ---- nothing is on its way to the chip where there are no bytes

none_up : (t : Traffic) (log : List Mark) (up down : List Item) (m : Machine) → Follows t log up down m → m.outside.outer.to_chip.bytes ≡ [] → up ≡ []
none_up t log up down m f none =
    let nothing : Feeds no_rest [] no_rest [] = record { reads = (tt, refl); ticks = refl } in
    let fed : Feeds m.outside.outer.chip.decoder (take (length m.outside.outer.to_chip.bytes) m.outside.outer.to_chip.bytes) no_rest [] =
    subst (λ (l : List ℕ). Feeds m.outside.outer.chip.decoder (take (length l) l) no_rest []) (sym none) (subst (λ (r : Rest). Feeds r [] no_rest []) (sym f.rests.chip) nothing) in
    sym (feeds_all m.outside.outer.chip.decoder no_rest m.outside.outer.to_chip.bytes up [] fed f.carried.to_chip).all

-- the chip's part of a pass: unless bytes stand still, nothing is on its way to it then
record Taken (t : Traffic) (log : List Mark) (m : Machine) (events : List Event) : Type 0 where
  goes : Goes t log m events
  none : is_stalled (happens_all m events).outside.outer ≡ false → goes.up ≡ []

module _ (laws : Laws) where
  pump_goes : GoesOf IsPump
  pump_goes t log up down m events f (inner, pumps, are) fair =
      goes_as t log m events (map Host_does inner) are fair (λ fair. host_goes laws t log up down m f inner (laws.pump t m.host.state inner f.host pumps) fair)

  taken_by : (t : Traffic) (log : List Mark) (up down : List Item) (m : Machine) (stalled : Bool) (bytes : List ℕ) (inner : List OuterEvent) → Follows t log up down m
      → is_stalled m.outside.outer ≡ stalled → m.outside.outer.to_chip.bytes ≡ bytes → ChipTakesBy stalled bytes m.outside.outer inner → AllFair m (map Outside_does inner) → Taken t log m (map Outside_does inner)
  unfolding goes_nowhere
  taken_by t log up down m true bytes inner f still there is fair =
      subst (λ (l : List OuterEvent). Taken t log m (map Outside_does l)) (sym is)
      (record { goes = goes_nowhere t log up down m f; none = λ moves. let bad : true ≡ false = sym still ∙ moves in absurd cc })
  taken_by t log up down m false [] inner f still there is fair =
      subst (λ (l : List OuterEvent). Taken t log m (map Outside_does l)) (sym is)
      (record { goes = goes_nowhere t log up down m f; none = λ moves. none_up t log up down m f there })
  taken_by t log up down m false (byte ∷ bytes) inner f still there is fair =
      let all : TakesAll laws t log up down m f _ = chip_goes laws t log up down m f is.rest is.ways (subst (λ (l : List OuterEvent). AllFair m (map Outside_does l)) is.are fair).0 in
      subst (λ (l : List OuterEvent). Taken t log m (map Outside_does l)) (sym is.are) (record { goes = all.goes; none = λ moves. all.none })

  host_by : (t : Traffic) (log : List Mark) (up down : List Item) (m : Machine) (stalled : Bool) (bytes : List ℕ) (events : List Event) → Follows t log up down m
      → is_stalled m.outside.outer ≡ stalled → m.outside.outer.to_host.bytes ≡ bytes → (is_stalled m.outside.outer ≡ false → up ≡ []) → TakesBy stalled bytes events → AllFair m events → Goes t log m events
  host_by t log up down m true bytes events f still there none is fair = goes_none t log up down m events f is fair
  host_by t log up down m false [] events f still there none is fair = goes_none t log up down m events f is fair
  host_by t log up down m false (byte ∷ bytes) events f still there none (rest, items, inner, are) fair =
      goes_as t log m events _ (are ∙ ap (λ (l : List ℕ). Host_takes (length l) rest items inner ∷ []) (sym there)) fair (λ fair. takes_goes laws t log up down m f rest items inner (none still) fair.0)

  chip_part_taken : (t : Traffic) (log : List Mark) (up down : List Item) (m : Machine) (events : List Event) → Follows t log up down m → IsChipPart m events → AllFair m events → Taken t log m events
  chip_part_taken t log up down m events f (inner, is, are) fair =
      subst (λ (l : List Event). Taken t log m l) (sym are)
      (taken_by t log up down m (is_stalled m.outside.outer) m.outside.outer.to_chip.bytes inner f refl refl is (subst (λ (l : List Event). AllFair m l) are fair))

  chip_part_goes : GoesOf IsChipPart
  chip_part_goes t log up down m events f is fair = (chip_part_taken t log up down m events f is fair).goes

  move_goes : GoesOf IsMove
  move_goes t log up down m events f (a, b, are, is_first, is_second) fair =
      let split : AllFair m (a ++ b) = subst (λ (l : List Event). AllFair m l) are fair in
      let taken : Taken t log m a = chip_part_taken t log up down m a f is_first (fair_first m a b split) in
      let g : Goes t log m a = taken.goes in
      let n : Machine = happens_all m a in
      subst (λ (l : List Event). Goes t log m l) (sym are)
      (goes_both t log m a b g
      (host_by (course.after_all t g.steps) (log ++ g.more) g.up g.down n (is_stalled n.outside.outer) n.outside.outer.to_host.bytes b g.follows refl refl taken.none is_second (fair_later m a b split)))

  if_moved_goes : (moved : List Event) (More : Schedule) → GoesOf More → GoesOf (IfMoved moved More)
  if_moved_goes [] More more t log up down m events f is fair = goes_none t log up down m events f is fair
  if_moved_goes (one ∷ moved) More more t log up down m events f is fair = more t log up down m events f is fair

  passes_go : (count : ℕ) → GoesOf (Passes count)
  passes_go zero t log up down m events f is fair = goes_none t log up down m events f is fair
  passes_go (suc more) t log up down m events f (moves, rest, are, moved, after) fair =
      goes_parts t log m moves rest events are fair (λ fair_a. move_goes t log up down m moves f moved fair_a)
      (λ g fair_b. goes_then IsPump (IfMoved moves (Passes more)) pump_goes (if_moved_goes moves (Passes more) (passes_go more))
      (course.after_all t g.steps) (log ++ g.more) g.up g.down (happens_all m moves) rest g.follows after fair_b)

  pub settles_go : GoesOf Settles
  settles_go = goes_then IsPump (Passes 64) pump_goes (passes_go 64)

  -- ---- where memory ran out

  passes_prefix_go : (count : ℕ) → GoesOf (PassesPrefix count)
  passes_prefix_go zero t log up down m events f is fair = goes_none t log up down m events f is fair
  passes_prefix_go (suc more) t log up down m events f (inl is) fair = goes_then_prefix Nothing IsChipPart Nothing goes_none chip_part_goes goes_none t log up down m events f is fair
  passes_prefix_go (suc more) t log up down m events f (inr (moves, rest, are, moved, after)) fair =
      goes_parts t log m moves rest events are fair (λ fair_a. move_goes t log up down m moves f moved fair_a)
      (λ g fair_b. goes_then_prefix Nothing IsPump (IfMoved moves (PassesPrefix more)) goes_none pump_goes (if_moved_goes moves (PassesPrefix more) (passes_prefix_go more))
      (course.after_all t g.steps) (log ++ g.more) g.up g.down (happens_all m moves) rest g.follows after fair_b)

  pub settles_prefix_go : GoesOf SettlesPrefix
  settles_prefix_go = goes_then_prefix Nothing IsPump (PassesPrefix 64) goes_none pump_goes (passes_prefix_go 64)
