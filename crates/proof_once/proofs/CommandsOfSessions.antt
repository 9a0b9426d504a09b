-- Which commands sessions carry, and by which sessions a journal was changed.
use Rattle.std.proofs.Common.{◌≡◌, ℕ, zero, suc, ◌≤◌, List, [], ◌∷◌, ◌++◌, length, Option, Some, None, inl, inr, ap, arith}
use Rattle.std.specs.Prelude.{slice_get}
use Rattle.std.proofs.lemmas.Grind.{flat_map-append}
use Rattle.std.proofs.lemmas.Option.{slice_get_within}
use Rattle.zw_base.specs.declared.property.By.{By}
use Rattle.zw_base.specs.declared.property.By.TheVariants.{Session, Plain, Local}
use Rattle.supervision.specs.Host.{command_at}
use Rattle.device_kinds.specs.declared.change.Change.{Change}
use Rattle.zw_text.specs.Transcript.{by_session}
use Rattle.proof_host.specs.law_transcript.Lists.{Has, listed}
use Rattle.proof_host.specs.law_transcript.Once.{carried_by, sessions_by}
use Rattle.proof_host.proofs.Having.{has_shown, shown_has}

-- ---- places of lists

-- an item has a place
pub record Stands {A : Type 0} (xs : List A) (x : A) : Type 0 where
  pub before : ℕ
  pub at : slice_get xs before ≡ Some x

pub has_stands : {A : Type 0} (xs : List A) (x : A) → Has xs x → Stands xs x
has_stands [] x has = absurd has
has_stands (y ∷ xs) x (inl e) = record { before = zero; at = ap Some e }
has_stands (y ∷ xs) x (inr has) = let one = has_stands xs x has in record { before = suc one.before; at = one.at }

pub stands_has : {A : Type 0} (xs : List A) (before : ℕ) (x : A) → slice_get xs before ≡ Some x → Has xs x
stands_has [] before x e = absurd (grind arith)
stands_has (y ∷ xs) zero x e = inl cc
stands_has (y ∷ xs) (suc before) x e = inr (stands_has xs before x e)

pub stands_prefix : {A : Type 0} (xs ys : List A) (before : ℕ) (x : A) → slice_get xs before ≡ Some x → slice_get (xs ++ ys) before ≡ Some x
stands_prefix [] ys before x e = absurd (grind arith)
stands_prefix (y ∷ xs) ys zero x e = e
stands_prefix (y ∷ xs) ys (suc before) x e = stands_prefix xs ys before x e

-- ---- commands of sessions

-- a session carries a command
pub record Carries (begun sessions : List ℕ) (number : ℕ) : Type 0 where
  pub session : ℕ
  pub among : Has sessions session
  pub at : command_at begun session ≡ Some number

listed_has : (o : Option ℕ) (number : ℕ) → Has (listed o) number → o ≡ Some number
listed_has None number has = absurd has
listed_has (Some k) number (inl e) = ap Some e
listed_has (Some k) number (inr has) = absurd has

has_listed : (o : Option ℕ) (number : ℕ) → o ≡ Some number → Has (listed o) number
has_listed None number e = absurd (grind arith)
has_listed (Some k) number e = inl cc

pub carried_has : (begun sessions : List ℕ) (session number : ℕ) → Has sessions session → command_at begun session ≡ Some number → Has (carried_by begun sessions) number
carried_has begun sessions session number has at =
    has_shown (λ one. listed (command_at begun one)) sessions session number has (has_listed (command_at begun session) number at)

pub has_carried : (begun sessions : List ℕ) (number : ℕ) → Has (carried_by begun sessions) number → Carries begun sessions number
has_carried begun sessions number has =
    let one = shown_has (λ session. listed (command_at begun session)) sessions number has in
    record { session = one.by; among = one.among; at = listed_has (command_at begun one.by) number one.shows }

-- a command of a session
pub record IsOf (begun : List ℕ) (number : ℕ) : Type 0 where
  pub session : ℕ
  pub at : command_at begun session ≡ Some number

pub has_session : (begun : List ℕ) (number : ℕ) → Has begun number → IsOf begun number
has_session begun number has = let one = has_stands begun number has in record { session = suc one.before; at = one.at }

pub session_has : (begun : List ℕ) (session number : ℕ) → command_at begun session ≡ Some number → Has begun number
session_has begun zero number at = absurd (grind arith)
session_has begun (suc before) number at = stands_has begun before number at

pub session_within : (begun : List ℕ) (session number : ℕ) → command_at begun session ≡ Some number → (1 ≤ session) × (session ≤ length begun)
session_within begun zero number at = absurd (grind arith)
session_within begun (suc before) number at = let less = slice_get_within begun before number at in (omega arith, omega (arith, less))

-- ---- sessions of changes

pub sessions_by-append : (prefix later : List Change) → sessions_by (prefix ++ later) ≡ sessions_by prefix ++ sessions_by later
sessions_by-append prefix later = flat_map-append (λ change. by_session change.by) prefix later

-- a journal has a change by a session
pub record Changes (journal : List Change) (session : ℕ) : Type 0 where
  pub change : Change
  pub among : Has journal change
  pub is : change.by ≡ Session session

by_has : (by : By) (session : ℕ) → Has (by_session by) session → by ≡ Session session
by_has (Session number) session (inl e) = ap Session e
by_has (Session number) session (inr has) = absurd has
by_has Plain session has = absurd has
by_has Local session has = absurd has

pub has_change : (journal : List Change) (session : ℕ) → Has (sessions_by journal) session → Changes journal session
has_change journal session has =
    let one = shown_has (λ change. by_session change.by) journal session has in
    record { change = one.by; among = one.among; is = by_has one.by.by session one.shows }
