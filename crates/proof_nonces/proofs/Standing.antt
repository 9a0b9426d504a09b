-- Whether a question to a node stands is computed from what the host asked for: so a transcript can be shown to have none.
use Rattle.std.proofs.Common.{◌≡◌, ℕ, ◌==◌, ◌&&◌, ◌||◌, not, Bool, true, false, if◌then◌else◌, inl, inr, List, [], ◌∷◌, ◌++◌, refl, sym, ap, ap₂, ◌∙◌, subst, append-nil, append_assoc}
use Rattle.std.specs.Prelude.{bytes_eq}
use Rattle.std.specs.List.{AllByRecursion}
use Rattle.std.proofs.lemmas.Bool.{eq-eqb, eqb-true, or_left, or_right}
use Rattle.zw_words.specs.declared.side.Side.TheVariants.{Host}
use Rattle.zw_text.specs.declared.entry.Entry.{Entry}
use Rattle.zw_text.specs.declared.entry.Entry.TheVariants as entry
use Rattle.law_transcript.specs.Lists.{EachAfter, Has}
use Rattle.law_transcript.specs.Payloads.{nonce_get}
use Rattle.law_transcript.specs.Units.{Carried, sending_in}
use Rattle.proof_notes.specs.law_time.Requests.{asked, is_new}
use Rattle.proof_nonces.specs.Sealing.{HasAsked, SealsNothing, is_sealed}

-- a Nonce Get goes to the node, or something that is sealed
abbrev asks_in : ℕ → List Carried → Bool
asks_in node [] = false
asks_in node (one ∷ rest) = ((one.node == node) && bytes_eq one.payload nonce_get) || asks_in node rest

abbrev seals_in : ℕ → List Carried → Bool
seals_in node [] = false
seals_in node (one ∷ rest) = ((one.node == node) && is_sealed one.payload) || seals_in node rest

abbrev stands_after : ℕ → List Entry → Bool → Entry → Bool
stands_after node past stands (entry.Written Host unit) =
    if is_new (asked past) unit then asks_in node (sending_in unit) || (stands && not (seals_in node (sending_in unit))) else stands
stands_after node past stands e = stands

abbrev pub stands_from : ℕ → List Entry → Bool → List Entry → Bool
stands_from node past stands [] = stands
stands_from node past stands (e ∷ rest) = stands_from node (past ++ e ∷ []) (stands_after node past stands e) rest

stands_append : (node : ℕ) (past : List Entry) (stands : Bool) (first rest : List Entry)
    → stands_from node past stands (first ++ rest) ≡ stands_from node (past ++ first) (stands_from node past stands first) rest
stands_append node past stands [] rest = ap (λ (l : List Entry). stands_from node l stands rest) (sym (append-nil past))
stands_append node past stands (e ∷ first) rest =
    stands_append node (past ++ e ∷ []) (stands_after node past stands e) first rest
    ∙ ap (λ (l : List Entry). stands_from node l (stands_from node (past ++ e ∷ []) (stands_after node past stands e) first) rest) (append_assoc past (e ∷ []) first)

-- ---- a question that stands is computed to stand

asks_found : (node : ℕ) (sent : List Carried) → Has sent (record { node = node; payload = nonce_get }) → asks_in node sent ≡ true
asks_found node [] has = absurd has
asks_found node (one ∷ rest) (inl is) =
    subst (λ (one : Carried). asks_in node (one ∷ rest) ≡ true) (sym is) (ap (λ (b : Bool). (b && true) || asks_in node rest) (eq-eqb node node refl))
asks_found node (one ∷ rest) (inr has) = or_right _ _ (asks_found node rest has)

unsealed : (node : ℕ) (sent : List Carried) → AllByRecursion (λ carried. carried.node ≡ node → is_sealed carried.payload ≡ false) sent → seals_in node sent ≡ false
unsealed node [] all = refl
unsealed node (one ∷ rest) all = ap₂ (λ (a b : Bool). a || b) (by (one.node == node) refl all.0) (unsealed node rest all.1)
  where
    by : (b : Bool) → (one.node == node) ≡ b → (one.node ≡ node → is_sealed one.payload ≡ false) → (b && is_sealed one.payload) ≡ false
    by true is none = none (eqb-true one.node node is)
    by false is none = refl

still : (node : ℕ) (past : List Entry) (e : Entry) → SealsNothing node past e → stands_after node past true e ≡ true
still node past (entry.Written Host unit) none = by (is_new (asked past) unit) none
  where
    by : (b : Bool) → (b ≡ true → AllByRecursion (λ carried. carried.node ≡ node → is_sealed carried.payload ≡ false) (sending_in unit))
        → (if b then asks_in node (sending_in unit) || (true && not (seals_in node (sending_in unit))) else true) ≡ true
    by true none = or_right _ _ (ap not (unsealed node (sending_in unit) (none refl)))
    by false none = refl
still node past e none = refl

stands_on : (node : ℕ) (past since : List Entry) → EachAfter (SealsNothing node) past since → stands_from node past true since ≡ true
stands_on node past [] none = refl
stands_on node past (e ∷ since) none =
    subst (λ (b : Bool). stands_from node (past ++ e ∷ []) b since ≡ true) (sym (still node past e none.0)) (stands_on node (past ++ e ∷ []) since none.1)

pub asked_stands : (node : ℕ) (past : List Entry) → HasAsked node past → stands_from node [] false past ≡ true
asked_stands node past asks =
    let upto : List Entry = asks.before ++ entry.Written Host asks.unit ∷ [] in
    let new : stands_after node asks.before (stands_from node [] false asks.before) (entry.Written Host asks.unit) ≡ true =
    subst (λ (b : Bool). (if b then asks_in node (sending_in asks.unit) || (stands_from node [] false asks.before && not (seals_in node (sending_in asks.unit)))
    else stands_from node [] false asks.before) ≡ true) (sym asks.new) (or_left _ _ (asks_found node (sending_in asks.unit) asks.asks))
    in
    let first : stands_from node [] false upto ≡ true = stands_append node [] false asks.before (entry.Written Host asks.unit ∷ []) ∙ new in
    subst (λ (l : List Entry). stands_from node [] false l ≡ true) (sym asks.are)
    (stands_append node [] false upto asks.since ∙ ap (λ (b : Bool). stands_from node upto b asks.since) first ∙ stands_on node upto asks.since asks.unused)

-- ---- the last entry

pub last_may : {A : Type 0} (Allowed : List A → A → Type 0) (past xs : List A) (x : A) → EachAfter Allowed past (xs ++ x ∷ []) → Allowed (past ++ xs) x
last_may Allowed past [] x each = subst (λ (l : List _). Allowed l x) (sym (append-nil past)) each.0
last_may Allowed past (first ∷ xs) x each =
    subst (λ (l : List _). Allowed l x) (append_assoc past (first ∷ []) xs) (last_may Allowed (past ++ first ∷ []) xs x each.1)
