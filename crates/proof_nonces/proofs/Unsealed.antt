-- A transcript in which no new request seals anything is computed to be one.
use Rattle.std.proofs.Common.{◌≡◌, ℕ, Bool, true, false, if◌then◌else◌, List, [], ◌∷◌, ◌++◌, refl, subst}
use Rattle.std.specs.List.{AllByRecursion}
use Rattle.std.proofs.lemmas.Bool.{both_ways}
use Rattle.zw_base.proofs.Each.{all-weaker}
use Rattle.s0_crypto.specs.declared.key_pair.Keys.{Keys}
use Rattle.zw_words.specs.declared.side.Side.TheVariants.{Host}
use Rattle.zw_text.specs.declared.entry.Entry.{Entry}
use Rattle.zw_text.specs.declared.entry.Entry.TheVariants as entry
use Rattle.law_transcript.specs.Lists.{EachAfter}
use Rattle.law_transcript.specs.Units.{Carried, sending_in}
use Rattle.law_transcript.proofs.Deciding.{AllKept}
use Rattle.proof_notes.specs.law_time.Requests.{asked, is_new}
use Rattle.proof_nonces.specs.Sealing.{IsSealedSo, MaySeal, SealsNothing, is_sealed}

abbrev none_sealed : List Carried → Bool
none_sealed [] = true
none_sealed (one ∷ rest) = if is_sealed one.payload then false else none_sealed rest

-- the entry is no new request that seals anything
abbrev pub is_unsealed : List Entry → Entry → Bool
is_unsealed past (entry.Written Host unit) = if is_new (asked past) unit then none_sealed (sending_in unit) else true
is_unsealed past e = true

all_unsealed : (sent : List Carried) → none_sealed sent ≡ true → AllByRecursion (λ carried. is_sealed carried.payload ≡ false) sent
all_unsealed [] none = tt
all_unsealed (one ∷ rest) none = by (is_sealed one.payload) refl none (λ none. all_unsealed rest none)
  where
    by : (b : Bool) → is_sealed one.payload ≡ b → (if b then false else none_sealed rest) ≡ true
        → (none_sealed rest ≡ true → AllByRecursion (λ carried. is_sealed carried.payload ≡ false) rest)
        → AllByRecursion (λ carried. is_sealed carried.payload ≡ false) (one ∷ rest)
    by true is none more = absurd (both_ways false refl none)
    by false is none more = (is, more none)

sent_unsealed : (past : List Entry) (unit : List ℕ) → is_unsealed past (entry.Written Host unit) ≡ true → is_new (asked past) unit ≡ true
    → AllByRecursion (λ carried. is_sealed carried.payload ≡ false) (sending_in unit)
sent_unsealed past unit is new = all_unsealed (sending_in unit) (subst (λ (b : Bool). (if b then none_sealed (sending_in unit) else true) ≡ true) new is)

unsealed_may : (keys : Keys) (past : List Entry) (e : Entry) → is_unsealed past e ≡ true → MaySeal keys past e
unsealed_may keys past (entry.Written Host unit) is = λ new.
    all-weaker (λ carried. is_sealed carried.payload ≡ false) (λ carried. is_sealed carried.payload ≡ true → IsSealedSo keys past carried)
    (λ carried none sealed. absurd (both_ways (is_sealed carried.payload) none sealed)) (sending_in unit) (sent_unsealed past unit is new)
unsealed_may keys past e is = tt

unsealed_nothing : (node : ℕ) (past : List Entry) (e : Entry) → is_unsealed past e ≡ true → SealsNothing node past e
unsealed_nothing node past (entry.Written Host unit) is = λ new.
    all-weaker (λ carried. is_sealed carried.payload ≡ false) (λ carried. carried.node ≡ node → is_sealed carried.payload ≡ false)
    (λ carried none of. none) (sending_in unit) (sent_unsealed past unit is new)
unsealed_nothing node past e is = tt

pub all_may : (keys : Keys) (past rest : List Entry) → AllKept is_unsealed past rest → EachAfter (MaySeal keys) past rest
all_may keys past [] all = tt
all_may keys past (e ∷ rest) all = (unsealed_may keys past e all.0, all_may keys (past ++ e ∷ []) rest all.1)

pub all_nothing : (node : ℕ) (past rest : List Entry) → AllKept is_unsealed past rest → EachAfter (SealsNothing node) past rest
all_nothing node past [] all = tt
all_nothing node past (e ∷ rest) all = (unsealed_nothing node past e all.0, all_nothing node (past ++ e ∷ []) rest all.1)
