-- The lines of `events`: which words each has, and what a text is read as from left to right. All of it is this project's own
-- rule.
use Rattle.std.specs.Prelude.{◌≡◌, ℕ, ◌≤◌, if◌then◌else◌, List, [], ◌∷◌, codes, decimal, bytes_eq, Option, Result, Err}
use Rattle.zw_words.specs.declared.fault.LineFault.{LineFault}
use Rattle.zw_words.specs.declared.fault.LineFault.TheVariants.{Unknown}
use Rattle.zw_words.specs.Words.{without_return, words}
use Rattle.zw_words.specs.Forms.{between_in, node_in}
use Rattle.zw_words.specs.Fields.{◌>>=◌, last, make, next, of_text}
use Rattle.zw_text.specs.Line.{IsIn, IsNode, MayBeLine}
use Rattle.event_flow.specs.declared.line.EventLine.{EventLine}
use Rattle.event_flow.specs.declared.line.EventLine.TheVariants.{Event, Again, Deliver}

-- the words of a line
abbrev pub event_line_words : EventLine → List (List ℕ)
event_line_words (Event node kind level) = codes "event" ∷ decimal node ∷ decimal kind ∷ decimal level ∷ []
event_line_words (Again node) = codes "again" ∷ decimal node ∷ []
event_line_words (Deliver frame) = codes "deliver" ∷ decimal frame ∷ []

-- each number of a line is in its range
abbrev pub IsEventLine : EventLine → Type 0
IsEventLine (Event node kind level) = IsNode 2 node × (kind ≤ 255) × (level ≤ 255)
IsEventLine (Again node) = IsNode 2 node
IsEventLine (Deliver frame) = IsIn 1 999999999 frame

-- the text is that of the line
pub record EventText (text : List ℕ) (line : EventLine) : Type 0 where
  pub may_be : MayBeLine text
  pub ranges : IsEventLine line
  pub words_are : words (without_return text) ≡ event_line_words line

-- the words of each line after the first
unfoldable pub event_by : List (List ℕ) → Result EventLine LineFault
event_by ws = do
  node ← next (node_in 2) ws
  kind ← next (between_in 0 255) node.rest
  make (Event node.value kind.value) (last (between_in 0 255) kind.rest)

unfoldable pub again_by : List (List ℕ) → Result EventLine LineFault
again_by ws = make Again (last (node_in 2) ws)

unfoldable pub deliver_by : List (List ℕ) → Result EventLine LineFault
deliver_by ws = make Deliver (last (between_in 1 999999999) ws)

-- the line that the words of a text are
abbrev pub event_from : List ℕ → List (List ℕ) → Result EventLine LineFault
event_from word ws =
    if bytes_eq word (codes "event") then event_by ws
    else if bytes_eq word (codes "again") then again_by ws
    else if bytes_eq word (codes "deliver") then deliver_by ws
    else Err Unknown

-- what a text is read as: a line, none, or the first fault
abbrev pub event_at : List ℕ → Result (Option EventLine) LineFault
event_at text = of_text event_from text
