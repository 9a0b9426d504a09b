-- The lines of `include`: a word and a number. All of it is this project's own rule.
use Rattle.std.specs.Prelude.{◌≡◌, ℕ, List, [], ◌∷◌, codes, decimal, bytes_eq, find, Option, Some, None, Result, Err}
use Rattle.zw_words.specs.declared.fault.LineFault.{LineFault}
use Rattle.zw_words.specs.declared.fault.LineFault.TheVariants.{Unknown}
use Rattle.zw_words.specs.Words.{without_return, words}
use Rattle.zw_words.specs.Forms.{between_in}
use Rattle.zw_words.specs.Fields.{last, make, of_text}
use Rattle.zw_text.specs.Line.{IsIn, MayBeLine}
use Rattle.include_text.specs.declared.line.IncludeLine.{IncludeLine}
use Rattle.include_text.specs.declared.line.IncludeLine.TheVariants.{Add, Reset, Lose, Repeat, Tick}
use Rattle.include_text.specs.declared.line.IncludeWord.{IncludeWord}
use Rattle.include_text.specs.declared.line.IncludeWord.TheVariants.{Add as WAdd, Reset as WReset, Lose as WLose, Repeat as WRepeat, Tick as WTick}

-- the text of a first word
abbrev pub word_text : IncludeWord → List ℕ
word_text WAdd = codes "add"
word_text WReset = codes "reset"
word_text WLose = codes "lose"
word_text WRepeat = codes "repeat"
word_text WTick = codes "tick"

-- all first words
abbrev pub all_words : List IncludeWord
all_words = WAdd ∷ WReset ∷ WLose ∷ WRepeat ∷ WTick ∷ []

-- the first word that these bytes are
unfoldable pub word_in : List ℕ → Option IncludeWord
word_in word = find (λ w. bytes_eq word (word_text w)) all_words

-- the first word of a line, and its number
abbrev pub first_word : IncludeLine → IncludeWord
first_word (Add node) = WAdd
first_word (Reset node) = WReset
first_word (Lose count) = WLose
first_word (Repeat frame) = WRepeat
first_word (Tick count) = WTick

abbrev pub number_in : IncludeLine → ℕ
number_in (Add node) = node
number_in (Reset node) = node
number_in (Lose count) = count
number_in (Repeat frame) = frame
number_in (Tick count) = count

-- the least and the greatest number of a word's lines
abbrev pub least_of : IncludeWord → ℕ
least_of WAdd = 2
least_of WReset = 2
least_of _ = 1

abbrev pub most_of : IncludeWord → ℕ
most_of WAdd = 232
most_of WReset = 232
most_of WLose = 1000
most_of WRepeat = 999999999
most_of WTick = 100000

-- the text is that of the line
pub record IncludeText (text : List ℕ) (line : IncludeLine) : Type 0 where
  pub may_be : MayBeLine text
  pub range : IsIn (least_of (first_word line)) (most_of (first_word line)) (number_in line)
  pub words_are : words (without_return text) ≡ word_text (first_word line) ∷ decimal (number_in line) ∷ []

-- ---- reading from left to right, with the first fault

-- the line of a word and a number
abbrev pub line_of : IncludeWord → ℕ → IncludeLine
line_of WAdd n = Add n
line_of WReset n = Reset n
line_of WLose n = Lose n
line_of WRepeat n = Repeat n
line_of WTick n = Tick n

-- the number after a first word is the last word
unfoldable pub line_by : IncludeWord → List (List ℕ) → Result IncludeLine LineFault
line_by word ws = make (line_of word) (last (between_in (least_of word) (most_of word)) ws)

-- the line of a first word, which has to be one
abbrev pub line_of_word : Option IncludeWord → List (List ℕ) → Result IncludeLine LineFault
line_of_word None ws = Err Unknown
line_of_word (Some word) ws = line_by word ws

-- the line that the words of a text are
abbrev pub line_from : List ℕ → List (List ℕ) → Result IncludeLine LineFault
line_from word ws = line_of_word (word_in word) ws

-- what a text is read as: a line, none, or the first fault
abbrev pub line_at : List ℕ → Result (Option IncludeLine) LineFault
line_at text = of_text line_from text
