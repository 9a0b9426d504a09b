-- Words that are read in turn, with the first fault from the left. All of it is this project's own rule.
use Rattle.std.specs.Prelude.{◌≡◌, ℕ, List, [], ◌∷◌, Option, Some, None, Result, Ok, Err, IsOk}
use Rattle.zw_words.specs.Words.{line_words}
use Rattle.zw_words.specs.declared.fault.LineFault.{LineFault}
use Rattle.zw_words.specs.declared.fault.LineFault.TheVariants.{Missing, Number, Extra}
use Rattle.zw_words.specs.declared.fault.ReadLineFault.{ReadLineFault}
use Rattle.zw_words.specs.declared.fault.ReadLineFault.TheVariants.{Bad, NoMemory}

infixl 10 ◌>>=◌
abbrev pub ◌>>=◌ : {A B : Type 0} → Result A LineFault → (A → Result B LineFault) → Result B LineFault
(Ok x) >>= f = f x
(Err e) >>= f = Err e

-- what was read, and the words after it
pub record Taken (A : Type 0) : Type 0 where
  pub value : A
  pub rest : List (List ℕ)

-- a word in its form, else a fault
abbrev pub formed : {A : Type 0} → List (List ℕ) → Option A → Result (Taken A) LineFault
formed rest (Some x) = Ok (record { value = x; rest = rest })
formed rest None = Err Number

-- the next word, in that form
unfoldable pub next : {A : Type 0} → (List ℕ → Option A) → List (List ℕ) → Result (Taken A) LineFault
next form [] = Err Missing
next form (w ∷ ws) = formed ws (form w)

-- no more words
unfoldable pub ends : List (List ℕ) → Result Unit LineFault
ends [] = Ok tt
ends (w ∷ ws) = Err Extra

-- the value, where there are no more words
abbrev pub alone : {A : Type 0} → Taken A → Result A LineFault
alone taken = ends taken.rest >>= λ _. Ok taken.value

-- the last word, in that form
unfoldable pub last : {A : Type 0} → (List ℕ → Option A) → List (List ℕ) → Result A LineFault
last form ws = next form ws >>= alone

-- what is made of a value that was read
abbrev pub make : {A B : Type 0} → (A → B) → Result A LineFault → Result B LineFault
make f (Ok x) = Ok (f x)
make f (Err e) = Err e

-- what the words of a line give; a line without a word is none
abbrev pub of_words : {A : Type 0} → (List ℕ → List (List ℕ) → Result A LineFault) → List (List ℕ) → Result (Option A) LineFault
of_words reading [] = Ok None
of_words reading (w ∷ ws) = make Some (reading w ws)

-- what a text gives, by a reading of its first word and of the others
abbrev pub of_text : {A : Type 0} → (List ℕ → List (List ℕ) → Result A LineFault) → List ℕ → Result (Option A) LineFault
of_text reading text = line_words text >>= of_words reading

-- what a reader answered is what reading gives; there was no memory only where all else is good
abbrev pub Gives : {A : Type 0} → Result A ReadLineFault → Result A LineFault → Type 0
Gives (Ok x) reading = reading ≡ Ok x
Gives (Err NoMemory) reading = IsOk reading
Gives (Err (Bad fault)) reading = reading ≡ Err fault
