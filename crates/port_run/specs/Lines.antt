-- What the words after `host` are read as (this project's own rule, over the lines of a scenario).
use Rattle.std.specs.Prelude.{◌≡◌, ℕ, ◌+◌, ◌<◌, Bool, true, false, if◌then◌else◌, codes, List, map, length, take, slice_index_or, [], Option, Some, None, Result, Ok, Err, String, string_bytes}
use Rattle.std.specs.Str.{bytes_eq}
use Rattle.zw_words.specs.Fields.{make, last, of_text}
use Rattle.zw_words.specs.Forms.{between_in}
use Rattle.zw_words.specs.declared.fault.LineFault.{LineFault}
use Rattle.zw_words.specs.declared.fault.LineFault.TheVariants.{Missing}
use Rattle.zw_words.specs.declared.fault.ReadLineFault.{ReadLineFault}
use Rattle.zw_words.specs.declared.fault.ReadLineFault.TheVariants.{Bad as bad, NoMemory as no_memory}
use Rattle.zw_text.specs.Line.{line_of_word, line_word_in}
use Rattle.zw_text.specs.declared.word.LineWord.{LineWord}
use Rattle.zw_text.specs.declared.word.LineWord.TheVariants.{Set, Mode, Setpoint, Comfort, Config, Bulk, Assoc, Unassoc, Interval, Send, Get, Join, Interview, Probe}
use Rattle.port_run.specs.declared.line.PortLine.{PortLine}
use Rattle.port_run.specs.declared.line.PortLine.TheVariants.{Plain, Wait}
use Rattle.port_run.specs.declared.line.LinesFault.{LinesFault}
use Rattle.port_run.specs.declared.line.LinesFault.TheVariants.{Bad, NoMemory}

-- whether a word begins lines of `host` too: orders, and what is asked of the host
abbrev pub is_served : LineWord → Bool
is_served Set = true
is_served Mode = true
is_served Setpoint = true
is_served Comfort = true
is_served Config = true
is_served Bulk = true
is_served Assoc = true
is_served Unassoc = true
is_served Interval = true
is_served Send = true
is_served Get = true
is_served Join = true
is_served Interview = true
is_served Probe = true
is_served _ = false

abbrev pub served_word : Option LineWord → Option LineWord
served_word None = None
served_word (Some word) = if is_served word then Some word else None

-- the line that a first word and the words after it are
abbrev pub port_from : List ℕ → List (List ℕ) → Result PortLine LineFault
port_from word ws =
    if bytes_eq word (codes "wait") then make Wait (last (between_in 1 100000) ws)
    else make Plain (line_of_word (served_word (line_word_in word)) ws)

-- what a text is read as: a line, none, or the first fault
abbrev pub port_at : List ℕ → Result (Option PortLine) LineFault
port_at text = of_text port_from text

-- the same, where each text has to be a line
abbrev pub wanted : Result (Option PortLine) LineFault → Result PortLine LineFault
wanted (Ok (Some line)) = Ok line
wanted (Ok None) = Err Missing
wanted (Err fault) = Err fault

abbrev pub wanted_at : List ℕ → Result PortLine LineFault
wanted_at text = wanted (port_at text)

-- what is read is that line, or the text has that fault
abbrev pub IsWanted : Result PortLine ReadLineFault → Result PortLine LineFault → Type 0
IsWanted (Ok line) reading = reading ≡ Ok line
IsWanted (Err (bad fault)) reading = reading ≡ Err fault
IsWanted (Err no_memory) reading = Unit {0}

-- the texts of words
abbrev pub texts_of : {A : Type 0} → List (String A) → List (List ℕ)
texts_of words = map (λ word. string_bytes word) words

-- each text is the line at its place
abbrev pub AreRead : List (List ℕ) → List PortLine → Type 0
AreRead texts lines = map wanted_at texts ≡ map (λ line. Ok line) lines

-- each text is a line
abbrev pub AreLines : List (List ℕ) → Type 0
AreLines texts = (lines : List PortLine) × AreRead texts lines

-- the text of that number, from 1, is the first that is no line, and has that fault
pub record IsFirstBad (texts : List (List ℕ)) (number : ℕ) (fault : LineFault) : Type 0 where
  pub at : ℕ
  pub number_is : number ≡ at + 1
  pub within : at < length texts
  pub lines : List PortLine
  pub before : AreRead (take at texts) lines
  pub bad : wanted_at (slice_index_or texts at []) ≡ Err fault

-- why texts are not lines
abbrev pub FailsBy : LinesFault → List (List ℕ) → Type 0
FailsBy (Bad number fault) texts = IsFirstBad texts number fault
FailsBy NoMemory texts = Unit {0}
