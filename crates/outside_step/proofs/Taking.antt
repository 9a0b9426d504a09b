-- The chip takes bytes of its pipe, piece by piece.
use Rattle.std.proofs.Common.{◌≡◌, ℕ, ◌+◌, ◌-◌, ◌≤◌, ◌<◌, zero, suc, min, All, List, [], ◌∷◌, ◌++◌, false, length, take, refl, ap, sym, ◌∙◌, subst, Result, Ok, Err, OnOk, arith, length-drop}
use Rattle.std.proofs.lemmas.List.{length-take}
use Rattle.std.specs.Prelude.{map, Option}
use Rattle.route_table.specs.declared.route.Route.{Route}
use Rattle.serial_frame.specs.Stream.{Feeds}
use Rattle.serial_frame.specs.declared.item.Item.{Item}
use Rattle.chip_sim.specs.State.{ChipParts}
use Rattle.chip_sim.specs.Did.{outs_all, Fed, judged_all}
use Rattle.chip_sim.specs.declared.out.ChipOut.{ChipOut}
use Rattle.serial_pipes.specs.State.{WayState}
use Rattle.serial_pipes.specs.Events.{Takes}
use Rattle.serial_pipes.specs.Events as way
use Rattle.zw_text.specs.declared.entry.Entry.{Entry}
use Rattle.outside_model.specs.State.{OuterState, each, Does, is_stalled}
use Rattle.outside_model.specs.Chip.{IsSendable, put_out}
use Rattle.outside_model.specs.Schedules.{TakesBytes}
use Rattle.outside_step.proofs.Sendable.{sendable_all}
use Rattle.outside_step.proofs.Chips.{does_takes, takes_bytes, bytes_more}

-- what the chip put out at bytes may be sent
pub fed_good : (old new : ChipParts) (piece : List ℕ) (start outputs : List ChipOut) → start ≡ [] → Fed old piece new start outputs → All IsSendable outputs
fed_good old new piece start outputs none fed =
    subst (λ (l : List ChipOut). All IsSendable l) (sym (fed.did.outs ∙ ap (λ (l : List ChipOut). l ++ outs_all old.state (judged_all fed.ways)) none))
    (sendable_all (judged_all fed.ways) old.state fed.did.may)

-- a piece was taken
module _ (o new : OuterState) (moved : ChipParts) (left : WayState) (count len : ℕ) (piece : List ℕ) (start outputs : List ChipOut) (before all : List Entry)
    (flows : is_stalled o ≡ false) (none : start ≡ []) (is : count ≡ min len (length o.to_chip.bytes)) (some : 1 ≤ len) (any : 0 < length o.to_chip.bytes)
    (read : piece ≡ take count o.to_chip.bytes) (rest : left ≡ way.after o.to_chip (Takes count)) (fed : Fed o.chip piece moved start outputs) where
  taken : Does (each put_out (record o { chip = moved; to_chip = left }) outputs) new before all → TakesBytes count o new before all
  taken done =
      takes_bytes o new count moved.decoder fed.ways before all
      (record {
        moves = flows;
        feeds = subst (λ (l : List ℕ). Feeds o.chip.decoder l moved.decoder (map (λ (w : Item × Option Route). w.0) fed.ways)) read fed.feeds;
        judges = fed.did.may;
      })
      (does_takes o new count moved fed.ways outputs before all fed.did.state (fed.did.outs ∙ ap (λ (l : List ChipOut). l ++ outs_all o.chip.state (judged_all fed.ways)) none)
      (subst (λ (w : WayState). Does (each put_out (record o { chip = moved; to_chip = w }) outputs) new before all) rest done))

  pub piece_taken : {V E : Type 0} (r : Result V E) → OnOk r (Does (each put_out (record o { chip = moved; to_chip = left }) outputs) new before all)
      → OnOk r ((n : ℕ) × (1 ≤ n) × (n ≤ length o.to_chip.bytes) × TakesBytes n o new before all)
  piece_taken (Ok v) done = (count, omega arith, omega arith, taken done)
  piece_taken (Err e) done = tt

take_own : (n : ℕ) (xs : List ℕ) → take (length (take n xs)) xs ≡ take n xs
take_own zero xs = refl
take_own (suc n) [] = refl
take_own (suc n) (x ∷ xs) = ap (λ l. x ∷ l) (take_own n xs)

-- a piece was read into a buffer
pub piece_read : {V E : Type 0} (r : Result V E) (o new : OuterState) (moved : ChipParts) (left : WayState) (most : ℕ) (piece : List ℕ) (start outputs : List ChipOut) (before all : List Entry)
    → is_stalled o ≡ false → 0 < length o.to_chip.bytes → start ≡ [] → 1 ≤ most → piece ≡ take most o.to_chip.bytes → left ≡ way.after o.to_chip (Takes (length piece))
    → Fed o.chip piece moved start outputs → OnOk r (Does (each put_out (record o { chip = moved; to_chip = left }) outputs) new before all)
    → OnOk r ((n : ℕ) × (1 ≤ n) × (n ≤ length o.to_chip.bytes) × TakesBytes n o new before all)
piece_read r o new moved left most piece start outputs before all flows any none some read rest fed done =
    piece_taken o new moved left (length piece) most piece start outputs before all flows none
    (ap (λ (l : List ℕ). length l) read ∙ length-take most o.to_chip.bytes) some any
    (read ∙ (sym (take_own most o.to_chip.bytes) ∙ ap (λ n. take n o.to_chip.bytes) (ap (λ (l : List ℕ). length l) (sym read)))) rest fed r done

-- all bytes were taken, piece by piece
pub nothing_left : (count : ℕ) (old new : OuterState) (before all : List Entry) → count ≤ length old.to_chip.bytes → length new.to_chip.bytes ≤ 0 → TakesBytes count old new before all
    → TakesBytes (length old.to_chip.bytes) old new before all
nothing_left count old new before all most none taken =
    let left : length new.to_chip.bytes ≡ length old.to_chip.bytes - count = ap (λ (l : List ℕ). length l) taken.left ∙ length-drop count old.to_chip.bytes in
    let whole : count ≡ length old.to_chip.bytes = omega arith in
    subst (λ n. TakesBytes n old new before all) whole taken

pub further : (n : ℕ) (old mid new : OuterState) (before some all : List Entry) → n ≤ length old.to_chip.bytes → TakesBytes n old mid before some
    → (m : ℕ) × (1 ≤ m) × (m ≤ length mid.to_chip.bytes) × TakesBytes m mid new some all → (k : ℕ) × (k ≤ length old.to_chip.bytes) × TakesBytes k old new before all
further n old mid new before some all most first more =
    let left : length mid.to_chip.bytes ≡ length old.to_chip.bytes - n = ap (λ (l : List ℕ). length l) first.left ∙ length-drop n old.to_chip.bytes in
    let fits : more.0 ≤ length mid.to_chip.bytes = more.2 in
    (n + more.0, omega arith, bytes_more n more.0 old mid new before some all first more.3)
