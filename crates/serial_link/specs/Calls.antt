-- What the calls of a link do, by the list of the events that were done.
use Rattle.std.specs.Prelude.{◌≡◌, ℕ, Option, Some, None, List, [], ◌∷◌, ◌++◌, ◌<◌, ◌==◌, if◌then◌else◌, length}
use Rattle.std.proofs.Common.{Bor}
use Rattle.serial_frame.specs.Stream.{Rest, Feeds, piece_of, Reads, ticks_after}
use Rattle.serial_frame.specs.Frame.{FrameParts}
use Rattle.serial_frame.specs.declared.item.Item.TheVariants.{Refused}
use Rattle.serial_frame.specs.declared.item.Refusal.TheVariants.{Aborted}
use Rattle.serial_frame.specs.declared.unit.Unit.TheVariants.{Framed}
use Rattle.serial_link.specs.declared.out.LinkOut.TheVariants.{Write}
use Rattle.serial_frame.specs.declared.item.Item.{Item}
use Rattle.serial_link.specs.State.{Side, LinkState, hear, hear_outs, hear_all, outs_ticked}
use Rattle.serial_link.specs.Rules.{Step, heard, ticked, submitted, outs_of, KeepsRules}
use Rattle.serial_link.specs.declared.out.LinkOut.{LinkOut}

-- the steps of items that are heard one after another
abbrev pub heard_steps : Side → List Item → List Step
heard_steps side [] = []
heard_steps side (item ∷ items) = record { event = heard item; outs = hear_outs side item } ∷ heard_steps (hear side item) items

-- the step of a frame that is submitted
abbrev pub submit_step : FrameParts → Step
submit_step f = record { event = submitted f; outs = Write (Framed f) ∷ [] }

-- the item that a tick makes of an unfinished frame
abbrev pub aborted_at : Rest → List Item
aborted_at rest = if rest.ticks == 14 then Refused Aborted ∷ [] else []

-- the step of a tick
abbrev pub tick_step : Side → Step
tick_step side = record { event = ticked; outs = outs_ticked side.turn }

-- the steps of a tick: an unfinished frame that it aborts is heard first
abbrev pub tick_steps : Side → List Item → List Step
tick_steps side items = heard_steps side items ++ tick_step (hear_all side items) ∷ []

-- These bytes were taken: the items that they end were heard in order, and their answers put out.
pub record Takes (old : LinkState) (bytes : List ℕ) (new : LinkState) (before after : List LinkOut) : Type 0 where
  pub items : List Item
  pub decoder : Feeds old.decoder bytes new.decoder items
  pub side : new.side ≡ hear_all old.side items
  pub outs : after ≡ before ++ outs_of (heard_steps old.side items)
  pub rules : KeepsRules old (piece_of bytes) (heard_steps old.side items) new

-- Whatever items and unfinished end the bytes read as, these items were heard and answered, and this end is left.
abbrev pub OnlyTakes : LinkState → List ℕ → LinkState → List LinkOut → List LinkOut → Type 0
OnlyTakes old bytes new before after = (items : List Item) (rest : List ℕ) → Reads (old.decoder.bytes ++ bytes) items rest →
    (new ≡ record { decoder = record { bytes = rest; ticks = ticks_after old.decoder.ticks items }; side = hear_all old.side items }) × (after ≡ before ++ outs_of (heard_steps old.side items))

-- a prefix of these bytes was taken, and the rest was not
pub record TakesPrefix (old : LinkState) (bytes : List ℕ) (new : LinkState) (before after : List LinkOut) : Type 0 where
  pub prefix : List ℕ
  pub left : List ℕ
  pub parts : bytes ≡ prefix ++ left
  pub takes : Takes old prefix new before after

-- One event: a prefix of the bytes ends an item, and what is left is shorter; or all of them end none.
abbrev pub TakesOne : LinkState → List ℕ → LinkState → List LinkOut → List LinkOut → Option (Bor (List ℕ)) → Type 0
TakesOne old bytes new before after (Some left) = (prefix : List ℕ) × (bytes ≡ prefix ++ left.now) × (length left.now < length bytes) × Takes old prefix new before after
TakesOne old bytes new before after None = Takes old bytes new before after
