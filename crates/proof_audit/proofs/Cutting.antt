-- A rule that judges each entry by those before it, wherever a transcript is cut.
use Rattle.std.proofs.Common.{◌≡◌, ◌⊎◌, false, Bool, List, [], ◌∷◌, ◌++◌, inl, inr, refl, sym, ap, ap₂, subst, ◌∙◌, append_assoc, append-nil}
use Rattle.zw_text.specs.declared.entry.Entry.{Entry}
use Rattle.law_transcript.specs.Lists.{EachAfter, Has}
use Rattle.audit_books.specs.OnceRule.{breaks_once}
use Rattle.audit_books.specs.SessionRule.{EachKeeps}
use Rattle.proof_audit.specs.Whole.{EachKeepsOnce, following_of}
use Rattle.proof_host.proofs.Over.{each-right as each-rest}

-- ---- from each cut

pub keeps-each : (breaks : List Entry → Entry → Bool) (before entries : List Entry)
    → ((past : List Entry) (entry : Entry) (rest : List Entry) → before ++ entries ≡ past ++ entry ∷ rest → breaks past entry ≡ false) → EachKeeps breaks before entries
keeps-each breaks before [] each = tt
keeps-each breaks before (entry ∷ rest) each = (
  each before entry rest refl,
  keeps-each breaks (before ++ (entry ∷ [])) rest (λ past one later is. each past one later (sym (append_assoc before (entry ∷ []) rest) ∙ is)),
)

pub keeps-each-once : (before entries : List Entry)
    → ((past : List Entry) (entry : Entry) (rest : List Entry) → before ++ entries ≡ past ++ entry ∷ rest → breaks_once past entry (following_of entry rest) ≡ false)
    → EachKeepsOnce before entries
keeps-each-once before [] each = tt
keeps-each-once before (entry ∷ rest) each = (
  each before entry rest refl,
  keeps-each-once (before ++ (entry ∷ [])) rest (λ past one later is. each past one later (sym (append_assoc before (entry ∷ []) rest) ∙ is)),
)

pub each-of-cuts : (Allowed : List Entry → Entry → Type 0) (before entries : List Entry)
    → ((past : List Entry) (entry : Entry) (rest : List Entry) → before ++ entries ≡ past ++ entry ∷ rest → Allowed past entry) → EachAfter Allowed before entries
each-of-cuts Allowed before [] each = tt
each-of-cuts Allowed before (entry ∷ rest) each = (
  each before entry rest refl,
  each-of-cuts Allowed (before ++ (entry ∷ [])) rest (λ past one later is. each past one later (sym (append_assoc before (entry ∷ []) rest) ∙ is)),
)

-- ---- at a cut

each-at : {A : Type 0} (Allowed : List A → A → Type 0) (before past : List A) (item : A) (rest : List A) → EachAfter Allowed before (past ++ item ∷ rest) → Allowed (before ++ past) item
each-at Allowed before [] item rest all = subst (λ (l : List _). Allowed l item) (sym (append-nil before)) all.0
each-at Allowed before (first ∷ past) item rest all =
    subst (λ (l : List _). Allowed l item) (append_assoc before (first ∷ []) past) (each-at Allowed (before ++ (first ∷ [])) past item rest all.1)

-- what the whole keeps, the item at a cut keeps
pub each-cut : {A : Type 0} (Allowed : List A → A → Type 0) (whole past : List A) (item : A) (rest : List A) → whole ≡ past ++ item ∷ rest → EachAfter Allowed [] whole → Allowed past item
each-cut Allowed whole past item rest is all = each-at Allowed [] past item rest (subst (λ (l : List _). EachAfter Allowed [] l) is all)

-- so do the items before it
each-front : {A : Type 0} (Allowed : List A → A → Type 0) (before past rest : List A) → EachAfter Allowed before (past ++ rest) → EachAfter Allowed before past
each-front Allowed before [] rest all = tt
each-front Allowed before (item ∷ past) rest all = (all.0, each-front Allowed (before ++ (item ∷ [])) past rest all.1)

pub each-before : {A : Type 0} (Allowed : List A → A → Type 0) (whole past rest : List A) → whole ≡ past ++ rest → EachAfter Allowed [] whole → EachAfter Allowed [] past
each-before Allowed whole past rest is all = each-front Allowed [] past rest (subst (λ (l : List _). EachAfter Allowed [] l) is all)

-- and those from it on
pub each-from : {A : Type 0} (Allowed : List A → A → Type 0) (whole past rest : List A) → whole ≡ past ++ rest → EachAfter Allowed [] whole → EachAfter Allowed past rest
each-from Allowed whole past rest is all = each-rest Allowed [] past rest (subst (λ (l : List _). EachAfter Allowed [] l) is all)

-- ---- in two parts

-- an item of two lists is in the first or in the second
abbrev pub Splits : {A : Type 0} → List A → List A → List A → A → List A → Type 0
Splits {A} xs ys past item rest = ((post : List A) × (xs ≡ past ++ item ∷ post)) ⊎ ((more : List A) × (past ≡ xs ++ more) × (ys ≡ more ++ item ∷ rest))

pub splits : {A : Type 0} (xs ys past : List A) (item : A) (rest : List A) → xs ++ ys ≡ past ++ item ∷ rest → Splits xs ys past item rest
splits [] ys past item rest is = inr (past, refl, is)
splits (x ∷ xs) ys [] item rest is = let same : x ≡ item = cc in inl (xs, ap (λ (e : _). e ∷ xs) same)
splits (x ∷ xs) ys (first ∷ past) item rest is =
    let same : x ≡ first = cc in
    let later : xs ++ ys ≡ past ++ item ∷ rest = cc in
    elim (splits xs ys past item rest later) [
      | inl (post, here) ↦ inl (post, ap₂ (λ (e : _) (l : List _). e ∷ l) same here)
      | inr (more, before, there) ↦ inr (more, ap₂ (λ (e : _) (l : List _). e ∷ l) (sym same) before, there)
    ]

-- ---- where an item stands

pub record Stands {A : Type 0} (items : List A) (item : A) : Type 0 where
  pub before : List A
  pub later : List A
  pub is : items ≡ before ++ item ∷ later

pub stands : {A : Type 0} (items : List A) (item : A) → Has items item → Stands items item
stands [] item has = absurd has
stands (first ∷ items) item (inl same) = record { before = []; later = items; is = ap (λ (one : _). one ∷ items) same }
stands (first ∷ items) item (inr has) =
    let there = stands items item has in
    record { before = first ∷ there.before; later = there.later; is = ap (λ (l : List _). first ∷ l) there.is }

-- an item that stands in the front of entries
pub stands-on : {A : Type 0} (whole past rest before later : List A) (item : A) → whole ≡ past ++ rest → past ≡ before ++ item ∷ later → whole ≡ before ++ item ∷ (later ++ rest)
stands-on whole past rest before later item is cut = is ∙ ap (λ (l : List _). l ++ rest) cut ∙ append_assoc before (item ∷ later) rest
