-- Laws whose every entry is judged by a test: they are computed to hold, or to fail.
use Rattle.std.proofs.Common.{◌≡◌, Bool, true, false, List, [], ◌∷◌, ◌++◌, ◌&&◌, refl, subst}
use Rattle.zw_text.specs.declared.entry.Entry.{Entry}
use Rattle.law_transcript.specs.Lists.{EachAfter}

-- every entry may stand after those before it
abbrev pub AllKept : (List Entry → Entry → Bool) → List Entry → List Entry → Type 0
AllKept may past rest = EachAfter (λ past entry. may past entry ≡ true) past rest

-- whether every entry may stand after those before it
abbrev pub each_keeps : (List Entry → Entry → Bool) → List Entry → List Entry → Bool
each_keeps may past [] = true
each_keeps may past (entry ∷ rest) = may past entry && each_keeps may (past ++ entry ∷ []) rest

pub first_of : (a b : Bool) → (a && b) ≡ true → a ≡ true
first_of true b both = refl
first_of false b both = both

pub second_of : (a b : Bool) → (a && b) ≡ true → b ≡ true
second_of true b both = both
second_of false b both = cc

-- a law that is computed to hold holds, also after what stood before
pub kept_after : (may : List Entry → Entry → Bool) (past rest : List Entry) → each_keeps may past rest ≡ true → AllKept may past rest
kept_after may past [] keeps = tt
kept_after may past (entry ∷ rest) keeps = (first_of _ _ keeps, kept_after may (past ++ entry ∷ []) rest (second_of (may past entry) _ keeps))

pub kept : (may : List Entry → Entry → Bool) (transcript : List Entry) → each_keeps may [] transcript ≡ true → AllKept may [] transcript
kept may transcript keeps = kept_after may [] transcript keeps

both_true : (a b : Bool) → a ≡ true → b ≡ true → (a && b) ≡ true
both_true true b first second = second
both_true false b first second = first

each_computes : (may : List Entry → Entry → Bool) (past rest : List Entry) → AllKept may past rest → each_keeps may past rest ≡ true
each_computes may past [] after = refl
each_computes may past (entry ∷ rest) after = both_true _ _ after.0 (each_computes may (past ++ entry ∷ []) rest after.1)

pub not_true : false ≡ true → ⊥
not_true same = cc

-- a law that is computed to fail fails
pub broken : (may : List Entry → Entry → Bool) (transcript : List Entry) → each_keeps may [] transcript ≡ false → AllKept may [] transcript → ⊥
broken may transcript fails law = not_true (subst (λ (b : Bool). b ≡ true) fails (each_computes may [] transcript law))
