-- Machines that run texts one after another (this project's own rule).
use Rattle.std.specs.Prelude.{◌≡◌, ℕ, List, [], ◌∷◌, ◌++◌, Option, Some, None}
use Rattle.zw_words.specs.declared.fault.LineFault.{LineFault}
use Rattle.zw_words.specs.declared.fault.ReadLineFault.{ReadLineFault}
use Rattle.zw_words.specs.declared.fault.ReadLineFault.TheVariants.{Bad, NoMemory}

-- a machine and the two things that it is borrowed
pub record Borrowed (M A B : Type 0) : Type 0 where
  pub machine : M
  pub first : A
  pub second : B

abbrev pub borrowed : {M A B : Type 0} → M → A → B → Borrowed M A B
borrowed machine first second = record { machine = machine; first = first; second = second }

-- why a text was not run, or not whole: it is no line, and nothing was done; or there was no memory
abbrev pub RefusesBy : {X : Type 0} → ReadLineFault → (X → List ℕ → X → List (List ℕ) → Type 0) → Option LineFault
    → X → List ℕ → X → List (List ℕ) → Type 0
RefusesBy (Bad fault) stops refused old text new pieces = (refused ≡ Some fault) × (new ≡ old)
RefusesBy NoMemory stops refused old text new pieces = stops old text new pieces

-- texts are run one after another, each from what the one before it left, and none of them is refused; the pieces are those of their
-- answers in order
abbrev pub RunsAll : {X : Type 0} → (List ℕ → Option LineFault) → (X → List ℕ → X → List (List ℕ) → Type 0) → X → List (List ℕ) → X → List (List ℕ) → Type 0
RunsAll refuses runs old [] new pieces = (new ≡ old) × (pieces ≡ [])
RunsAll {X} refuses runs old (text ∷ texts) new pieces =
    (mid : X) × (answer : List (List ℕ)) × (later : List (List ℕ)) × (refuses text ≡ None) × runs old text mid answer × RunsAll refuses runs mid texts new later
    × (pieces ≡ answer ++ later)

-- the last of the texts is run in part
pub record StopsInLast {X : Type 0} (refuses : List ℕ → Option LineFault) (runs stops : X → List ℕ → X → List (List ℕ) → Type 0) (old : X) (texts : List (List ℕ)) (new : X) (pieces : List (List ℕ)) : Type 0 where
  pub prefix : List (List ℕ)
  pub text : List ℕ
  pub mid : X
  pub before : List (List ℕ)
  pub answer : List (List ℕ)
  pub texts_are : texts ≡ prefix ++ text ∷ []
  pub ran : RunsAll refuses runs old prefix mid before
  pub stopped : stops mid text new answer
  pub pieces_are : pieces ≡ before ++ answer
