-- Where bytes are cleared only at restarts, what stands directly after restarts is all that is told of lost bytes.
use Rattle.std.proofs.Common.{◌≡◌, ◌⊎◌, ℕ, ◌-◌, ◌&&◌, not, Bool, true, false, if◌then◌else◌, List, [], ◌∷◌, ◌++◌, length, drop, inl, inr, refl, sym, ap, ap₂, subst, ◌∙◌, append_assoc}
use Rattle.std.specs.List.{flat_map}
use Rattle.zw_words.specs.Words.{words, line_words}
use Rattle.zw_words.specs.declared.side.Side.{Side}
use Rattle.zw_words.specs.declared.side.Side.TheVariants.{Host as by_host, Chip as by_chip}
use Rattle.zw_text.specs.declared.line.Line.{Line}
use Rattle.zw_text.specs.declared.entry.Entry.{Entry}
use Rattle.zw_text.specs.declared.entry.Entry.TheVariants as entry
use Rattle.zw_text.specs.Transcript.{line_of, shown}
use Rattle.law_wire.specs.law_transcript.Lists.{EachAfter}
use Rattle.law_wire.specs.law_transcript.Restarts.{is_restart, begins_refused}
use Rattle.law_wire.specs.Clearing.{Cleared_there, clears_first, goes_on_after, clears, clear_at}
use Rattle.proof_line.specs.Pipes.{IsCleared, MayClear, IsAheadOf, ClearsNowhereElse}
use Rattle.proof_line.proofs.Standing.{last_only}

-- all that stands directly after restarts
abbrev after_restarts : List Entry → List Entry
after_restarts rest = flat_map (λ (one : Cleared_there). one.entries) (clears rest)

-- ---- what a cleared entry follows

same_last : {A : Type 0} (xs ys : List A) (x y : A) → xs ++ x ∷ [] ≡ ys ++ y ∷ [] → x ≡ y
same_last xs ys x y is =
    let one : x ∷ [] ≡ y ∷ [] = sym (last_only xs x) ∙ (ap (λ (l : List _). drop (length l - 1) l) is ∙ last_only ys y) in
    cc

-- the words of a restart, or what it lost of the host
abbrev Follows : Entry → Type 0
Follows e = (is_restart (line_of e) ≡ true) ⊎ ((count : ℕ) × (e ≡ entry.Cleared by_host count))

follows_words : (past before : List Entry) (e : Entry) (words : List ℕ) → past ++ e ∷ [] ≡ before ++ entry.Said words ∷ [] → is_restart (line_of (entry.Said words)) ≡ true → Follows e
follows_words past before e words is restarts = inl (subst (λ (f : Entry). is_restart (line_of f) ≡ true) (sym (same_last past before e (entry.Said words) is)) restarts)

follows_told : (side : Side) (past before told : List Entry) (e : Entry) (words : List ℕ) → IsAheadOf side told → past ++ e ∷ [] ≡ before ++ entry.Said words ∷ told
    → is_restart (line_of (entry.Said words)) ≡ true → Follows e
follows_told by_host past before told e words none is restarts =
    follows_words past before e words (is ∙ ap (λ (l : List Entry). before ++ entry.Said words ∷ l) none) restarts
follows_told by_chip past before told e words (inl none) is restarts =
    follows_words past before e words (is ∙ ap (λ (l : List Entry). before ++ entry.Said words ∷ l) none) restarts
follows_told by_chip past before told e words (inr (count, one)) is restarts =
    let whole : past ++ e ∷ [] ≡ (before ++ entry.Said words ∷ []) ++ entry.Cleared by_host count ∷ [] =
    (is ∙ ap (λ (l : List Entry). before ++ entry.Said words ∷ l) one) ∙ sym (append_assoc before (entry.Said words ∷ []) (entry.Cleared by_host count ∷ [])) in
    inr (count, same_last past (before ++ entry.Said words ∷ []) e (entry.Cleared by_host count) whole)

follows : (past : List Entry) (e : Entry) (side : Side) (count : ℕ) → IsCleared (past ++ e ∷ []) side count → Follows e
follows past e side count cleared =
    follows_told side past cleared.before cleared.told e cleared.words cleared.ahead cleared.is (ap (λ (l : List Line). is_restart l) cleared.restarts)

-- and so none stands first, or after anything else
abbrev IsOther : Entry → Type 0
IsOther (entry.Cleared side count) = ⊥
IsOther e = Unit {0}

nothing_before : (before told : List Entry) (words : List ℕ) → [] ≡ before ++ entry.Said words ∷ told → ⊥
nothing_before [] told words is = let none : [] ≡ entry.Said words ∷ told = is in cc
nothing_before (e ∷ before) told words is = let none : [] ≡ e ∷ (before ++ entry.Said words ∷ told) = is in cc

not_first : (rest : List Entry) → EachAfter MayClear [] rest → clears_first rest ≡ []
not_first (entry.Cleared side count ∷ rest) each = absurd (nothing_before each.0.before each.0.told each.0.words each.0.is)
not_first [] each = refl
not_first (e ∷ rest) each = refl

not_next : (past : List Entry) (e : Entry) (rest : List Entry) → EachAfter MayClear (past ++ e ∷ []) rest → IsOther e → is_restart (line_of e) ≡ false → clears_first rest ≡ []
not_next past e (entry.Cleared side count ∷ rest) each other plain = refuted (follows past e side count each.0)
  where
    refuted : Follows e → clears_first (entry.Cleared side count ∷ rest) ≡ []
    refuted (inl restarts) = absurd (let none : true ≡ false = sym restarts ∙ plain in cc)
    refuted (inr (n, is)) = absurd (subst IsOther is other)
not_next past e [] each other plain = refl
not_next past e (next ∷ rest) each other plain = refl

-- ---- over a transcript

refused_first : (rest : List Entry) → begins_refused rest ≡ true → clears_first rest ≡ []
refused_first (entry.Refused refusal ∷ rest) is = refl
refused_first (entry.Cleared side count ∷ rest) is = absurd (let none : false ≡ true = is in cc)
refused_first [] is = refl
refused_first (e ∷ rest) is = refl

said_clears : (past rest : List Entry) (words : List ℕ) → EachAfter MayClear (past ++ entry.Said words ∷ []) rest → clears_first rest ++ after_restarts rest ≡ after_restarts (entry.Said words ∷ rest)
said_clears past rest words each = by (is_restart (line_of (entry.Said words))) (begins_refused rest) refl refl
  where
    without : clears_first rest ≡ [] → clears_first rest ++ after_restarts rest ≡ after_restarts rest
    without none = ap (λ (l : List Entry). l ++ after_restarts rest) none

    by : (restarts refused : Bool) → is_restart (line_of (entry.Said words)) ≡ restarts → begins_refused rest ≡ refused
        → clears_first rest ++ after_restarts rest ≡ after_restarts (entry.Said words ∷ rest)
    by true false is told = sym (ap₂ (λ (r b : Bool). flat_map (λ (one : Cleared_there). one.entries) (if r && not b then record { entries = clears_first rest; is_over = goes_on_after rest } ∷ clears rest else clears rest)) is told)
    by true true is told = without (refused_first rest told) ∙ sym (ap₂ (λ (r b : Bool). flat_map (λ (one : Cleared_there). one.entries) (if r && not b then record { entries = clears_first rest; is_over = goes_on_after rest } ∷ clears rest else clears rest)) is told)
    by false refused is told = without (not_next past (entry.Said words) rest each tt is) ∙ sym (ap₂ (λ (r b : Bool). flat_map (λ (one : Cleared_there). one.entries) (if r && not b then record { entries = clears_first rest; is_over = goes_on_after rest } ∷ clears rest else clears rest)) is told)

all_told : (past rest : List Entry) → EachAfter MayClear past rest → shown clear_at rest ≡ clears_first rest ++ after_restarts rest
all_told past [] each = refl
all_told past (entry.Said words ∷ rest) each = all_told (past ++ entry.Said words ∷ []) rest each.1 ∙ said_clears past rest words each.1
all_told past (entry.Cleared side count ∷ rest) each = ap (λ (l : List Entry). entry.Cleared side count ∷ l) (all_told (past ++ entry.Cleared side count ∷ []) rest each.1)
all_told past (e ∷ rest) each =
    all_told (past ++ e ∷ []) rest each.1 ∙ ap (λ (l : List Entry). l ++ after_restarts rest) (not_next past e rest each.1 tt refl)

-- ---- where the run ended

ended_first : (told : List Entry) → clears_first (told ++ entry.Said [] ∷ []) ≡ clears_first told
ended_first [] = refl
ended_first (entry.Cleared side count ∷ told) = ap (λ (l : List Entry). entry.Cleared side count ∷ l) (ended_first told)
ended_first (e ∷ told) = refl

ended_refused : (told : List Entry) → begins_refused (told ++ entry.Said [] ∷ []) ≡ begins_refused told
ended_refused [] = refl
ended_refused (entry.Refused refusal ∷ told) = refl
ended_refused (e ∷ told) = refl

ended_after : (told : List Entry) → after_restarts (told ++ entry.Said [] ∷ []) ≡ after_restarts told
unfolding words line_words
ended_after [] = refl
ended_after (e ∷ told) = by (is_restart (line_of e)) (begins_refused told) (begins_refused (told ++ entry.Said [] ∷ [])) (ended_refused told) (ended_after told)
  where
    by : (restarts refused also : Bool) → also ≡ refused → after_restarts (told ++ entry.Said [] ∷ []) ≡ after_restarts told
        → flat_map (λ (one : Cleared_there). one.entries) (if restarts && not also then record { entries = clears_first (told ++ entry.Said [] ∷ []); is_over = goes_on_after (told ++ entry.Said [] ∷ []) } ∷ clears (told ++ entry.Said [] ∷ []) else clears (told ++ entry.Said [] ∷ []))
        ≡ flat_map (λ (one : Cleared_there). one.entries) (if restarts && not refused then record { entries = clears_first told; is_over = goes_on_after told } ∷ clears told else clears told)
    by true true true same later = later
    by true false false same later = ap₂ (λ (a b : List Entry). a ++ b) (ended_first told) later
    by true true false same later = absurd (let none : false ≡ true = same in cc)
    by true false true same later = absurd (let none : true ≡ false = same in cc)
    by false refused also same later = later

-- of a run that was cut short, and of any
cut_alone : (transcript : List Entry) → EachAfter MayClear [] transcript → after_restarts transcript ≡ shown clear_at transcript
cut_alone transcript each = sym (all_told [] transcript each ∙ ap (λ (l : List Entry). l ++ after_restarts transcript) (not_first transcript each))

pub clears_alone : (whole : Bool) (transcript : List Entry) → EachAfter MayClear [] transcript → ClearsNowhereElse whole transcript
clears_alone true transcript each = ended_after transcript ∙ cut_alone transcript each
clears_alone false transcript each = cut_alone transcript each
