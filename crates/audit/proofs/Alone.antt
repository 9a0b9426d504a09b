-- A text has one answer.
use Rattle.std.proofs.Common.{◌≡◌, ℕ, zero, suc, ◌<◌, length, List, [], ◌∷◌, ◌++◌, Option, Some, None, arith, ap, ap₂, refl, sym, subst, ◌∙◌, append-nil, length-append, ⊎_elim, ◌⊎◌, inl, inr}
use Rattle.std.proofs.lemmas.List.{append_assoc}
use Rattle.std.proofs.lemmas.Bool.{cases_eq}
use Rattle.zw_base.specs.declared.property.Setting.{Setting}
use Rattle.zw_text.specs.declared.entry.Entry.{Entry}
use Rattle.zw_text.specs.Entry.{entry_text}
use Rattle.audit_books.specs.declared.group.Maker.{Maker}
use Rattle.audit_books.specs.Groups.{EndsGroup, IsFollowing, IsGroup, maker_at, setting_by}
use Rattle.audit_books.specs.Lines.{IsNext, IsNoLine}
use Rattle.audit_books.proofs.Cuts.{next-entry, next-rest}
use Rattle.audit.specs.Breaking.{Ends, HasOneAnswer, IsBroken, IsJudged, Keeps}
use Rattle.audit.specs.declared.breaks.Break.{Break}
use Rattle.audit.specs.declared.breaks.Break.TheVariants.{Air, Once, Payload, Sessions, Store, Table, Text}

-- ---- the lines that go on with a change

rest-shorter : (text : List ℕ) (entry : Entry) (rest : List ℕ) → IsNext text entry rest → length rest < length text
rest-shorter text entry rest next = omega (arith, ap length next.line, length-append (entry_text entry) (10 ∷ rest))

not-empty : (text : List ℕ) (entry : Entry) (rest : List ℕ) → IsNext text entry rest → text ≡ [] → ⊥
not-empty text entry rest next is = omega (arith, ap length is, rest-shorter text entry rest next)

-- where a list of settings goes on from each of them, a text ends its change
ends-group : (maker : Maker) (text : List ℕ) (shorter : (rest : List ℕ) → length rest < length text → ((settings : List Setting) → IsGroup maker rest settings → ⊥) → ⊥) →
    ((settings : List Setting) → IsGroup maker text settings → ⊥) → EndsGroup maker text
ends-group maker text shorter none entry rest next = by (setting_by maker entry) refl
  where
    by : (made : Option Setting) → setting_by maker entry ≡ made → setting_by maker entry ≡ None
    by None is = is
    by (Some setting) is =
        absurd (shorter rest (rest-shorter text entry rest next)
        (λ settings group. none (setting ∷ settings) (rest, record { entry = entry; next = next; made = is }, group)))

-- it cannot be that no list is that of the settings with which a text goes on
group-there : (fuel : ℕ) (maker : Maker) (text : List ℕ) → length text < fuel → ((settings : List Setting) → IsGroup maker text settings → ⊥) → ⊥
group-there zero maker text low none = omega (arith, low)
group-there (suc fuel) maker text low none =
    none [] (ends-group maker text (λ rest less. group-there fuel maker rest (omega (arith, low, less))) none)

following-there : (maker : Option Maker) (text : List ℕ) → ((settings : List Setting) → IsFollowing maker text settings → ⊥) → ⊥
following-there None text none = none [] refl
following-there (Some maker) text none = group-there (suc (length text)) maker text (omega arith) none

judged-apart : (past : List Entry) (entry : Entry) (text : List ℕ) (a b : Option Break) → IsJudged past entry text a → IsJudged past entry text b → (a ≡ b → ⊥) → ⊥
judged-apart past entry text a b first second apart = following-there (maker_at entry) text (λ settings is. apart (first settings is ∙ sym (second settings is)))

-- ---- rules

abbrev place_of : Break → ℕ
place_of Text = 0
place_of Sessions = 1
place_of Once = 2
place_of Air = 3
place_of Payload = 4
place_of Store = 5
place_of Table = 6

abbrev rule_after : List Break → ℕ → Break
rule_after [] place = Text
rule_after (rule ∷ rules) zero = rule
rule_after (rule ∷ rules) (suc place) = rule_after rules place

abbrev rule_at : ℕ → Break
rule_at place = rule_after (Text ∷ Sessions ∷ Once ∷ Air ∷ Payload ∷ Store ∷ Table ∷ []) place

rule-at : (rule : Break) → rule_at (place_of rule) ≡ rule
rule-at Text = refl
rule-at Sessions = refl
rule-at Once = refl
rule-at Air = refl
rule-at Payload = refl
rule-at Store = refl
rule-at Table = refl

-- two rules of which it cannot be that they differ are the same
same-rule : (a b : Break) → ((a ≡ b → ⊥) → ⊥) → a ≡ b
same-rule a b same =
    ⊎_elim
    (λ (e : place_of a ≡ place_of b). sym (rule-at a) ∙ ap rule_at e ∙ rule-at b)
    (λ (ne : place_of a ≡ place_of b → ⊥). absurd (same (λ e. ne (ap place_of e))))
    (cases_eq (place_of a) (place_of b))

-- ---- the line that breaks a rule

abbrev IsBreaking : List Entry → List ℕ → Break → Type 0
IsBreaking past text broken = (entry : Entry) × (more : List ℕ) × IsNext text entry more × IsJudged past entry more (Some broken)

abbrev IsNone : List ℕ → Break → Type 0
IsNone text broken = (broken ≡ Text) × (text ≡ [] → ⊥) × IsNoLine text

which : (past : List Entry) (text : List ℕ) (broken : Break) → IsBroken past text broken → IsNone text broken ⊎ IsBreaking past text broken
which past text Text breaks = inl (refl, breaks.0, breaks.1)
which past text Sessions breaks = inr breaks
which past text Once breaks = inr breaks
which past text Air breaks = inr breaks
which past text Payload breaks = inr breaks
which past text Store breaks = inr breaks
which past text Table breaks = inr breaks

broken-there : (past : List Entry) (text : List ℕ) (broken : Break) → IsBroken past text broken → text ≡ [] → ⊥
broken-there past text broken breaks is =
    ⊎_elim (λ (none : IsNone text broken). none.1 is) (λ (line : IsBreaking past text broken). not-empty text line.0 line.1 line.2 is) (which past text broken breaks)

some-is : {A : Type 0} {x y : A} → Some x ≡ Some y → x ≡ y
some-is {A} {x} {y} e = ap (or_x x) e
  where
    or_x : A → Option A → A
    or_x d None = d
    or_x d (Some z) = z

-- both are of the same entry
both-judged : (past : List Entry) (text : List ℕ) (a b : Option Break) (entry other : Entry) (more rest : List ℕ) →
    IsNext text entry more → IsJudged past entry more a → IsNext text other rest → IsJudged past other rest b → (a ≡ b → ⊥) → ⊥
both-judged past text a b entry other more rest next judged begins decided apart =
    judged-apart past entry more a b judged
    (subst (λ (t : List ℕ). IsJudged past entry t b) (sym (next-rest text entry other more rest next begins))
    (subst (λ (e : Entry). IsJudged past e rest b) (sym (next-entry text entry other more rest next begins)) decided))
    apart

broken-not-kept : (past : List Entry) (text : List ℕ) (broken : Break) (entry : Entry) (more : List ℕ) → IsBroken past text broken →
    IsNext text entry more → IsJudged past entry more None → ⊥
broken-not-kept past text broken entry more breaks next judged =
    ⊎_elim
    (λ (none : IsNone text broken). none.2 entry more next.is next.feeds_none next.line)
    (λ (line : IsBreaking past text broken). both-judged past text None (Some broken) entry line.0 more line.1 next judged line.2 line.3 (λ e. cc))
    (which past text broken breaks)

broken-once : (past : List Entry) (text : List ℕ) (a b : Break) → IsBroken past text a → IsBroken past text b → a ≡ b
broken-once past text a b first second =
    ⊎_elim
    (λ (none : IsNone text a).
    ⊎_elim
    (λ (other : IsNone text b). none.0 ∙ sym other.0)
    (λ (line : IsBreaking past text b). absurd (none.2 line.0 line.1 line.2.is line.2.feeds_none line.2.line))
    (which past text b second))
    (λ (line : IsBreaking past text a).
    ⊎_elim
    (λ (none : IsNone text b). absurd (none.2 line.0 line.1 line.2.is line.2.feeds_none line.2.line))
    (λ (other : IsBreaking past text b).
    same-rule a b (λ differ.
    both-judged past text (Some a) (Some b) line.0 other.0 line.1 other.1 line.2 line.3 other.2 other.3 (λ e. differ (some-is e))))
    (which past text b second))
    (which past text a first)

-- ---- the answer

ends-once : (past : List Entry) (text : List ℕ) (found other : Option (ℕ × Break)) → Ends past text found → Ends past text other → found ≡ other
ends-once past text None None first second = refl
ends-once past text None (Some (line, broken)) first second = absurd (broken-there past text broken second.1 first)
ends-once past text (Some (line, broken)) None first second = absurd (broken-there past text broken first.1 second)
ends-once past text (Some (line, broken)) (Some (at, rule)) first second =
    ap₂ (λ (n : ℕ) (b : Break). Some (n, b)) (first.0 ∙ sym second.0) (broken-once past text broken rule first.1 second.1)

-- after entries of which none breaks a rule the answer is not at an entry that breaks none
ends-later : (past : List Entry) (text : List ℕ) (found : Option (ℕ × Break)) (entry : Entry) (more : List ℕ) → Ends past text found →
    IsNext text entry more → IsJudged past entry more None → ⊥
ends-later past text None entry more ends next judged = not-empty text entry more next ends
ends-later past text (Some (line, broken)) entry more ends next judged = broken-not-kept past text broken entry more ends.1 next judged

-- the entries so far, and then those
moved : (past : List Entry) (entry : Entry) (entries : List Entry) (rest : List ℕ) (found : Option (ℕ × Break)) →
    Ends (past ++ (entry ∷ entries)) rest found → Ends ((past ++ (entry ∷ [])) ++ entries) rest found
moved past entry entries rest found = subst (λ (l : List Entry). Ends l rest found) (sym (append_assoc past (entry ∷ []) entries))

reads-once : (past : List Entry) (text : List ℕ) (es fs : List Entry) (r s : List ℕ) (found other : Option (ℕ × Break)) → Keeps past text es r → Keeps past text fs s →
    Ends (past ++ es) r found → Ends (past ++ fs) s other → found ≡ other
reads-once past text [] [] r s found other first second ends finishes =
    ends-once (past ++ []) text found other (subst (λ (t : List ℕ). Ends (past ++ []) t found) (sym first) ends) (subst (λ (t : List ℕ). Ends (past ++ []) t other) (sym second) finishes)
reads-once past text [] (f ∷ fs) r s found other first second ends finishes =
    absurd (ends-later past text found f second.0
    (subst (λ (l : List Entry). Ends l text found) (append-nil past) (subst (λ (t : List ℕ). Ends (past ++ []) t found) (sym first) ends)) second.1 second.2)
reads-once past text (e ∷ es) [] r s found other first second ends finishes =
    absurd (ends-later past text other e first.0
    (subst (λ (l : List Entry). Ends l text other) (append-nil past) (subst (λ (t : List ℕ). Ends (past ++ []) t other) (sym second) finishes)) first.1 first.2)
reads-once past text (e ∷ es) (f ∷ fs) r s found other first second ends finishes =
    let same : e ≡ f = next-entry text e f first.0 second.0 first.1 second.1 in
    let alike : first.0 ≡ second.0 = next-rest text e f first.0 second.0 first.1 second.1 in
    reads-once (past ++ (e ∷ [])) first.0 es fs r s found other first.3
    (subst (λ (t : List ℕ). Keeps (past ++ (e ∷ [])) t fs s) (sym alike) (subst (λ (g : Entry). Keeps (past ++ (g ∷ [])) second.0 fs s) (sym same) second.3))
    (moved past e es r found ends)
    (moved past e fs s other (subst (λ (g : Entry). Ends (past ++ (g ∷ fs)) s other) (sym same) finishes))

pub one-answer : HasOneAnswer
one-answer text found other first second =
    reads-once [] text first.entries second.entries first.rest second.rest found other first.keeps second.keeps first.ends second.ends
