-- The text of each entry of a transcript of events: its words with one space between two. All of it is this project's own
-- rule.
use Rattle.std.specs.Prelude.{ℕ, List, [], ◌∷◌, codes, decimal}
use Rattle.std.specs.List.{join_with_byte}
use Rattle.hex.specs.Hex.{encode_upper}
use Rattle.zw_text.specs.Entry.{ends_word}
use Rattle.event_flow.specs.declared.entry.EventRefusal.{EventRefusal}
use Rattle.event_flow.specs.declared.entry.EventRefusal.TheVariants.{Full, Idle, NeverSent, Stale}
use Rattle.event_flow.specs.declared.entry.EventEntry.{EventEntry}
use Rattle.event_flow.specs.declared.entry.EventEntry.TheVariants.{Refused, Queued, Frame, Taken, Known, Old, TableNode}

-- the name of a refusal, and the number that it carries
abbrev pub refusal_words : EventRefusal → List (List ℕ)
refusal_words (Full unknown) = codes "full" ∷ decimal unknown ∷ []
refusal_words Idle = codes "idle" ∷ []
refusal_words NeverSent = codes "neversent" ∷ []
refusal_words (Stale later) = codes "stale" ∷ decimal later ∷ []

-- the words of an entry
abbrev pub event_words : EventEntry → List (List ℕ)
event_words (Refused refusal) = codes "refused" ∷ refusal_words refusal
event_words (Queued node number) = codes "queued" ∷ decimal node ∷ decimal number ∷ []
event_words (Frame frame sender receiver payload) =
    codes "frame" ∷ decimal frame ∷ ends_word sender receiver ∷ encode_upper payload ∷ []
event_words (Taken node kind level) = codes "taken" ∷ decimal node ∷ decimal kind ∷ decimal level ∷ []
event_words (Known node number) = codes "known" ∷ decimal node ∷ decimal number ∷ []
event_words (Old node id) = codes "old" ∷ decimal node ∷ decimal id ∷ []
event_words (TableNode node queued taken known) =
    codes "node" ∷ decimal node ∷ codes "queued" ∷ decimal queued ∷ codes "taken" ∷ decimal taken ∷ codes "known" ∷ decimal known ∷ []

-- the text of an entry, without a line feed
unfoldable pub event_text : EventEntry → List ℕ
event_text entry = join_with_byte 32 (event_words entry)
