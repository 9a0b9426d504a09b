-- Lines of `replay` as they are said, one after another, and what its host hears of them (this project's own rule): what came stands before what is made of it.
use Rattle.std.specs.Prelude.{◌≡◌, ℕ, List, [], ◌∷◌, ◌++◌, drop, length, take}
use Rattle.serial_frame.specs.Items.{unit_text}
use Rattle.serial_frame.specs.declared.item.Item.{Item}
use Rattle.serial_frame.specs.declared.item.Item.TheVariants.{Good, Refused}
use Rattle.serial_frame.specs.declared.item.Refusal.TheVariants.{BadLength, Stray}
use Rattle.zw_words.specs.declared.side.Side.TheVariants as side
use Rattle.zw_text.specs.declared.line.Line.{Line}
use Rattle.zw_text.specs.declared.line.ReplayLine.{ReplayLine}
use Rattle.zw_text.specs.declared.line.ReplayLine.TheVariants.{Plain, Chip}
use Rattle.zw_text.specs.declared.entry.Entry.{Entry}
use Rattle.zw_text.specs.declared.entry.Entry.TheVariants.{Garbled, Said, Written}
use Rattle.zw_text.specs.Transcript.{line_of}
use Rattle.run_lines.specs.Lines.{TextLine}
use Rattle.run_lines.specs.Pieces.{said_text}
use Rattle.run_replay.specs.Machine.{Lone, Event, Takes, MayAll, entries, entries_all, happens, happens_all}
use Rattle.run_replay.specs.Lines.{IsLine, IsReplayed}

-- ---- what is heard

-- the bytes of the item with which a stream begins: of a frame that is refused, as many as its length says
abbrev pub item_text : Item → List ℕ → List ℕ
item_text (Good unit) stream = unit_text unit
item_text (Refused (Stray byte)) stream = byte ∷ []
item_text (Refused (BadLength count)) stream = 1 ∷ count ∷ []
item_text (Refused refusal) (first ∷ count ∷ more) = first ∷ count ∷ take count more
item_text (Refused refusal) stream = []

-- a unit that came whole; of what is refused, that it did not
abbrev pub came_as : Item → List ℕ → List Entry
came_as (Good unit) text = Written side.Chip text ∷ []
came_as (Refused refusal) text = Written side.Chip text ∷ Garbled side.Chip text ∷ []

abbrev pub came_of : List Item → List ℕ → List Entry
came_of [] stream = []
came_of (item ∷ items) stream = came_as item (item_text item stream) ++ came_of items (drop (length (item_text item stream)) stream)

abbrev pub heard_at : Lone → Event → List Entry
heard_at m (Takes bytes rest items events) = came_of items (m.host.decoder.bytes ++ bytes) ++ entries m (Takes bytes rest items events)
heard_at m event = entries m event

abbrev pub heard_all : Lone → List Event → List Entry
heard_all m [] = []
heard_all m (event ∷ events) = heard_at m event ++ heard_all (happens m event) events

-- ---- lines

-- the words that were said, the line that they are, and its events
pub record Replayed : Type 0 where
  pub words : List ℕ
  pub line : ReplayLine
  pub events : List Event

-- bytes of the chip are no line of a scenario
abbrev pub plain_of : ReplayLine → List Line
plain_of (Plain line) = line ∷ []
plain_of (Chip bytes) = []

pub record IsRun (m : Lone) (said : Replayed) : Type 0 where
  pub read : line_of (Said said.words) ≡ plain_of said.line
  pub replayed : IsReplayed said.line
  pub is : IsLine said.line m said.events
  pub may : MayAll m said.events

abbrev pub AreReplayed : Lone → List Replayed → Type 0
AreReplayed m [] = Unit {0}
AreReplayed m (said ∷ more) = IsRun m said × AreReplayed (happens_all m said.events) more

abbrev pub heard_of : Lone → List Replayed → List Entry
heard_of m [] = []
heard_of m (said ∷ more) = Said said.words ∷ (heard_all m said.events ++ heard_of (happens_all m said.events) more)

-- where they lead
abbrev pub lone_after : Lone → List Replayed → Lone
lone_after m [] = m
lone_after m (said ∷ more) = lone_after (happens_all m said.events) more

-- ---- texts that ran

-- what is entered of them: the same without what came
abbrev pub told_of : Lone → List Replayed → List Entry
told_of m [] = []
told_of m (said ∷ more) = Said said.words ∷ (entries_all m said.events ++ told_of (happens_all m said.events) more)

-- these texts were said, each of them its line
abbrev pub AreSaid : List (TextLine ReplayLine) → List Replayed → Type 0
AreSaid [] [] = Unit {0}
AreSaid [] (said ∷ more) = ⊥
AreSaid (text ∷ texts) [] = ⊥
AreSaid (text ∷ texts) (said ∷ more) = (said.words ≡ said_text text.text) × (said.line ≡ text.line) × AreSaid texts more

-- a text is read as its line by its words too
pub record IsReadSo (text : TextLine ReplayLine) : Type 0 where
  pub read : line_of (Said (said_text text.text)) ≡ plain_of text.line
  pub replayed : IsReplayed text.line
