-- What calls of the chip did, as lists of events (this project's own).
use Rattle.std.specs.Prelude.{◌≡◌, ℕ, Option, Some, None, List, [], ◌∷◌, ◌++◌, ◌<◌, length, map}
use Rattle.std.proofs.Common.{Bor}
use Rattle.serial_frame.specs.Stream.{Rest, Feeds, GoesOn, piece_of}
use Rattle.serial_frame.specs.declared.item.Item.{Item}
use Rattle.route_table.specs.declared.route.Route.{Route}
use Rattle.chip_sim.specs.State.{ChipState, ChipParts}
use Rattle.chip_sim.specs.Events.{ChipEvent, Judged, after, outs, May}
use Rattle.chip_sim.specs.declared.out.ChipOut.{ChipOut}

-- the chip after events, one after another
abbrev pub after_all : ChipState → List ChipEvent → ChipState
after_all s [] = s
after_all s (e ∷ events) = after_all (after s e) events

-- all that it puts out at them
abbrev pub outs_all : ChipState → List ChipEvent → List ChipOut
outs_all s [] = []
outs_all s (e ∷ events) = outs s e ++ outs_all (after s e) events

-- they may happen, one after another
abbrev pub MayAll : ChipState → List ChipEvent → Type 0
MayAll s [] = Unit {0}
MayAll s (e ∷ events) = May s e × MayAll (after s e) events

-- These events were done, and what they put out was added.
pub record Did (events : List ChipEvent) (old new : ChipState) (before all : List ChipOut) : Type 0 where
  pub may : MayAll old events
  pub state : new ≡ after_all old events
  pub outs : all ≡ before ++ outs_all old events

-- each item is judged, in order, with a way of its own
abbrev pub judged_all : List (Item × Option Route) → List ChipEvent
judged_all pairs = map (λ p. Judged p.0 p.1) pairs

-- These bytes were taken: each item that ends in them was judged, in order; `ways` has the way of each.
pub record Fed (old : ChipParts) (bytes : List ℕ) (new : ChipParts) (before all : List ChipOut) : Type 0 where
  pub ways : List (Item × Option Route)
  -- the items are those of the bytes, and go on with each splitting of the stream so far
  pub feeds : Feeds old.decoder bytes new.decoder (map (λ p. p.0) ways)
  pub stream : GoesOn old.decoder (piece_of bytes) new.decoder (map (λ p. p.0) ways)
  pub did : Did (judged_all ways) old.state new.state before all

-- a prefix of these bytes was taken, and the rest was not
pub record FedPrefix (old : ChipParts) (bytes : List ℕ) (new : ChipParts) (before all : List ChipOut) : Type 0 where
  pub prefix : List ℕ
  pub left : List ℕ
  pub parts : bytes ≡ prefix ++ left
  pub fed : Fed old prefix new before all

-- a prefix of the bytes ends an item, and what is left is shorter; or all of them end none
abbrev pub FedOne : ChipParts → List ℕ → ChipParts → List ChipOut → List ChipOut → Option (Bor (List ℕ)) → Type 0
FedOne old bytes new before all (Some left) = (prefix : List ℕ) × (bytes ≡ prefix ++ left.now) × (length left.now < length bytes) × Fed old prefix new before all
FedOne old bytes new before all None = Fed old bytes new before all
