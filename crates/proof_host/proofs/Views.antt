-- What more entries show of commands, sessions and outcomes.
use Rattle.std.proofs.Common.{◌≡◌, ℕ, ◌+◌, Bool, if◌then◌else◌, List, [], ◌∷◌, ◌++◌, length, refl, sym, ap, ap₂, ◌∙◌, append-nil, length-append}
use Rattle.std.specs.List.{AllByRecursion}
use Rattle.std.proofs.lemmas.Bool.{eq-eqb, ne_eqb}
use Rattle.zw_text.specs.declared.entry.Ended.{Ended}
use Rattle.zw_text.specs.declared.entry.Ended.TheVariants as ended
use Rattle.zw_text.specs.declared.entry.Entry.{Entry}
use Rattle.zw_text.specs.declared.entry.Entry.TheVariants.{Accepted, Begin, Out}
use Rattle.zw_text.specs.declared.entry.Outcome.{Outcome}
use Rattle.zw_text.specs.declared.entry.Outcome.TheVariants.{Waiting, Begun}
use Rattle.zw_text.specs.Transcript.{shown, where_same, accepted_number, accepted_numbers, session_at, sessions, carried_at, carried, ended_at, endings, outcome, outcome_of, outcome_begun, last_outcome}
use Rattle.zw_text.proofs.Views.{shown-append}
use Rattle.law_transcript.specs.Stores.{node_at}
use Rattle.proof_host.specs.Entries.{IsAside}
use Rattle.proof_host.specs.Laws.{accepted_for, number_for, numbers_for}

-- an entry that says nothing of a command
abbrev pub IsSilent : Entry → Type 0
IsSilent (Accepted command node) = ⊥
IsSilent (Begin node session command) = ⊥
IsSilent (Out command ended) = ⊥
IsSilent _ = Unit {0}

pub silent : (e : Entry) → IsAside e → IsSilent e
silent (Accepted command node) aside = absurd aside
silent (Begin node session command) aside = absurd aside
silent (Out command ended) aside = absurd aside
silent _ aside = tt

-- ---- entries that show nothing

none_shown : {A : Type 0} (view : Entry → List A) → ((e : Entry) → IsSilent e → view e ≡ []) → (es : List Entry) → AllByRecursion IsSilent es → shown view es ≡ []
none_shown view none [] all = refl
none_shown view none (e ∷ es) all = ap (λ (l : List _). l ++ shown view es) (none e all.0) ∙ none_shown view none es all.1

shown-none : {A : Type 0} (view : Entry → List A) (T es : List Entry) → shown view es ≡ [] → shown view (T ++ es) ≡ shown view T
shown-none view T es none = shown-append view T es ∙ ap (λ (l : List _). shown view T ++ l) none ∙ append-nil (shown view T)

silent_nodes : (number : ℕ) (e : Entry) → IsSilent e → node_at number e ≡ []
silent_nodes number (Accepted command node) s = absurd s
silent_nodes number _ s = refl

silent_for : (node : ℕ) (e : Entry) → IsSilent e → number_for node e ≡ []
silent_for node (Accepted command of) s = absurd s
silent_for node _ s = refl

silent_numbers : (e : Entry) → IsSilent e → accepted_number e ≡ []
silent_numbers (Accepted command node) s = absurd s
silent_numbers _ s = refl

silent_sessions : (node : ℕ) (e : Entry) → IsSilent e → session_at node e ≡ []
silent_sessions node (Begin of session command) s = absurd s
silent_sessions node _ s = refl

silent_carried : (number : ℕ) (e : Entry) → IsSilent e → carried_at number e ≡ []
silent_carried number (Begin of session command) s = absurd s
silent_carried number _ s = refl

silent_endings : (number : ℕ) (e : Entry) → IsSilent e → ended_at number e ≡ []
silent_endings number (Out command ended) s = absurd s
silent_endings number _ s = refl

-- ---- silent entries, and ones after an ending

module _ (T es : List Entry) (all : AllByRecursion IsSilent es) where
  pub nodes-silent : (number : ℕ) → accepted_for number (T ++ es) ≡ accepted_for number T
  nodes-silent number = shown-none (node_at number) T es (none_shown (node_at number) (silent_nodes number) es all)

  pub numbers-silent : accepted_numbers (T ++ es) ≡ accepted_numbers T
  numbers-silent = shown-none accepted_number T es (none_shown accepted_number silent_numbers es all)

  pub for-silent : (node : ℕ) → numbers_for node (T ++ es) ≡ numbers_for node T
  for-silent node = shown-none (number_for node) T es (none_shown (number_for node) (silent_for node) es all)

  pub sessions-silent : (node : ℕ) → sessions node (T ++ es) ≡ sessions node T
  sessions-silent node = shown-none (session_at node) T es (none_shown (session_at node) (silent_sessions node) es all)

  pub outcome-silent : (number : ℕ) → outcome number (T ++ es) ≡ outcome number T
  outcome-silent number =
      ap₂ (λ (c : List ℕ) (e : List Ended). last_outcome (outcome_begun c) e)
      (shown-none (carried_at number) T es (none_shown (carried_at number) (silent_carried number) es all))
      (shown-none (ended_at number) T es (none_shown (ended_at number) (silent_endings number) es all))

pub last_is : (o : Outcome) (es : List Ended) (e : Ended) → last_outcome o (es ++ e ∷ []) ≡ outcome_of e
last_is o [] e = refl
last_is o (first ∷ es) e = last_is (outcome_of first) es e

where_here : {A : Type 0} (m n : ℕ) (item : A) → m ≡ n → where_same m n item ≡ item ∷ []
where_here m n item same = ap (λ (b : Bool). if b then item ∷ [] else []) (eq-eqb m n same)

pub where_other : {A : Type 0} (m n : ℕ) (item : A) → (m ≡ n → ⊥) → where_same m n item ≡ []
where_other m n item other = ap (λ (b : Bool). if b then item ∷ [] else []) (ne_eqb m n other)

module _ (T : List Entry) (c : ℕ) (how : Ended) (es : List Entry) (all : AllByRecursion IsSilent es) where
  pub nodes-ended : (number : ℕ) → accepted_for number (T ++ Out c how ∷ es) ≡ accepted_for number T
  nodes-ended number = shown-none (node_at number) T (Out c how ∷ es) (none_shown (node_at number) (silent_nodes number) es all)

  pub numbers-ended : accepted_numbers (T ++ Out c how ∷ es) ≡ accepted_numbers T
  numbers-ended = shown-none accepted_number T (Out c how ∷ es) (none_shown accepted_number silent_numbers es all)

  pub for-ended : (node : ℕ) → numbers_for node (T ++ Out c how ∷ es) ≡ numbers_for node T
  for-ended node = shown-none (number_for node) T (Out c how ∷ es) (none_shown (number_for node) (silent_for node) es all)

  pub sessions-ended : (node : ℕ) → sessions node (T ++ Out c how ∷ es) ≡ sessions node T
  sessions-ended node = shown-none (session_at node) T (Out c how ∷ es) (none_shown (session_at node) (silent_sessions node) es all)

  endings_shown : (number : ℕ) → shown (ended_at number) (Out c how ∷ es) ≡ where_same c number how
  endings_shown number = ap (λ (l : List Ended). where_same c number how ++ l) (none_shown (ended_at number) (silent_endings number) es all) ∙ append-nil (where_same c number how)

  carried_same : (number : ℕ) → carried number (T ++ Out c how ∷ es) ≡ carried number T
  carried_same number = shown-none (carried_at number) T (Out c how ∷ es) (none_shown (carried_at number) (silent_carried number) es all)

  pub outcome-ended : outcome c (T ++ Out c how ∷ es) ≡ outcome_of how
  outcome-ended =
      ap₂ (λ (b : List ℕ) (e : List Ended). last_outcome (outcome_begun b) e) (carried_same c)
      (shown-append (ended_at c) T (Out c how ∷ es) ∙ ap (λ (l : List Ended). endings c T ++ l) (endings_shown c ∙ where_here c c how refl))
      ∙ last_is (outcome_begun (carried c T)) (endings c T) how

  pub outcome-other : (number : ℕ) → (number ≡ c → ⊥) → outcome number (T ++ Out c how ∷ es) ≡ outcome number T
  outcome-other number other =
      ap₂ (λ (b : List ℕ) (e : List Ended). last_outcome (outcome_begun b) e) (carried_same number)
      (shown-none (ended_at number) T (Out c how ∷ es) (endings_shown number ∙ where_other c number how (λ same. other (sym same))))

-- ---- a session that begins

never_waits : (how : Ended) → outcome_of how ≡ Waiting → ⊥
never_waits ended.Success e = cc
never_waits ended.Fail e = cc
never_waits ended.NoSupport e = cc
never_waits ended.Unanswered e = cc
never_waits ended.Cancelled e = cc

no_endings : (o : Outcome) (es : List Ended) → last_outcome o es ≡ Waiting → es ≡ []
no_endings o [] e = refl
no_endings o (how ∷ []) e = absurd (never_waits how e)
no_endings o (how ∷ next ∷ es) e = absurd (not_nil (no_endings (outcome_of how) (next ∷ es) e))
  where
    not_nil : {x : Ended} {xs : List Ended} → (x ∷ xs) ≡ [] → ⊥
    not_nil e = cc

begun_now : (xs : List ℕ) (s : ℕ) → outcome_begun (xs ++ s ∷ []) ≡ Begun
begun_now [] s = refl
begun_now (x ∷ xs) s = refl

module _ (T : List Entry) (n s c : ℕ) where
  pub nodes-begun : (number : ℕ) → accepted_for number (T ++ Begin n s c ∷ []) ≡ accepted_for number T
  nodes-begun number = shown-none (node_at number) T (Begin n s c ∷ []) refl

  pub numbers-begun : accepted_numbers (T ++ Begin n s c ∷ []) ≡ accepted_numbers T
  numbers-begun = shown-none accepted_number T (Begin n s c ∷ []) refl

  pub for-begun : (node : ℕ) → numbers_for node (T ++ Begin n s c ∷ []) ≡ numbers_for node T
  for-begun node = shown-none (number_for node) T (Begin n s c ∷ []) refl

  pub sessions-begun : sessions n (T ++ Begin n s c ∷ []) ≡ sessions n T ++ c ∷ []
  sessions-begun =
      shown-append (session_at n) T (Begin n s c ∷ [])
      ∙ ap (λ (l : List ℕ). sessions n T ++ l) (append-nil (where_same n n c) ∙ where_here n n c refl)

  pub sessions-begun_other : (node : ℕ) → (node ≡ n → ⊥) → sessions node (T ++ Begin n s c ∷ []) ≡ sessions node T
  sessions-begun_other node other =
      shown-none (session_at node) T (Begin n s c ∷ []) (append-nil (where_same n node c) ∙ where_other n node c (λ same. other (sym same)))

  endings_same : (number : ℕ) → endings number (T ++ Begin n s c ∷ []) ≡ endings number T
  endings_same number = shown-none (ended_at number) T (Begin n s c ∷ []) refl

  pub outcome-begun : outcome c T ≡ Waiting → outcome c (T ++ Begin n s c ∷ []) ≡ Begun
  outcome-begun waits =
      ap₂ (λ (b : List ℕ) (e : List Ended). last_outcome (outcome_begun b) e)
      (shown-append (carried_at c) T (Begin n s c ∷ []) ∙ ap (λ (l : List ℕ). carried c T ++ l) (append-nil (where_same c c s) ∙ where_here c c s refl))
      (endings_same c ∙ no_endings (outcome_begun (carried c T)) (endings c T) waits)
      ∙ begun_now (carried c T) s

  pub outcome-begun_other : (number : ℕ) → (number ≡ c → ⊥) → outcome number (T ++ Begin n s c ∷ []) ≡ outcome number T
  outcome-begun_other number other =
      ap₂ (λ (b : List ℕ) (e : List Ended). last_outcome (outcome_begun b) e)
      (shown-none (carried_at number) T (Begin n s c ∷ []) (append-nil (where_same c number s) ∙ where_other c number s (λ same. other (sym same))))
      (endings_same number)

-- ---- an order that is accepted

module _ (T : List Entry) (c n : ℕ) where
  pub nodes-accepted : accepted_for c (T ++ Accepted c n ∷ []) ≡ accepted_for c T ++ n ∷ []
  nodes-accepted =
      shown-append (node_at c) T (Accepted c n ∷ [])
      ∙ ap (λ (l : List ℕ). accepted_for c T ++ l) (append-nil (where_same c c n) ∙ where_here c c n refl)

  pub nodes-accepted_other : (number : ℕ) → (number ≡ c → ⊥) → accepted_for number (T ++ Accepted c n ∷ []) ≡ accepted_for number T
  nodes-accepted_other number other =
      shown-none (node_at number) T (Accepted c n ∷ []) (append-nil (where_same c number n) ∙ where_other c number n (λ same. other (sym same)))

  pub count-accepted : length (accepted_numbers (T ++ Accepted c n ∷ [])) ≡ length (accepted_numbers T) + 1
  count-accepted = ap (λ (l : List ℕ). length l) (shown-append accepted_number T (Accepted c n ∷ [])) ∙ length-append (accepted_numbers T) (c ∷ [])

  pub for-accepted : numbers_for n (T ++ Accepted c n ∷ []) ≡ numbers_for n T ++ c ∷ []
  for-accepted =
      shown-append (number_for n) T (Accepted c n ∷ [])
      ∙ ap (λ (l : List ℕ). numbers_for n T ++ l) (append-nil (where_same n n c) ∙ where_here n n c refl)

  pub for-accepted_other : (node : ℕ) → (node ≡ n → ⊥) → numbers_for node (T ++ Accepted c n ∷ []) ≡ numbers_for node T
  for-accepted_other node other =
      shown-none (number_for node) T (Accepted c n ∷ []) (append-nil (where_same n node c) ∙ where_other n node c (λ same. other (sym same)))

  pub sessions-accepted : (node : ℕ) → sessions node (T ++ Accepted c n ∷ []) ≡ sessions node T
  sessions-accepted node = shown-none (session_at node) T (Accepted c n ∷ []) refl

  pub outcome-accepted : (number : ℕ) → outcome number (T ++ Accepted c n ∷ []) ≡ outcome number T
  outcome-accepted number =
      ap₂ (λ (b : List ℕ) (e : List Ended). last_outcome (outcome_begun b) e)
      (shown-none (carried_at number) T (Accepted c n ∷ []) refl)
      (shown-none (ended_at number) T (Accepted c n ∷ []) refl)
