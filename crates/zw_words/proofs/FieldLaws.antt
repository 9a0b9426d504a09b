-- Words that are read in turn, both ways.
use Rattle.std.proofs.Common.{◌≡◌, ℕ, Option, Some, None, Ok, Err, List, [], ◌∷◌, refl, ap, ◌∙◌, sym}
use Rattle.zw_words.specs.declared.fault.LineFault.{LineFault}
use Rattle.zw_words.specs.declared.fault.LineFault.TheVariants.{Missing, Number, Extra}
use Rattle.zw_words.specs.Fields.{◌>>=◌, Taken, alone, ends, formed, last, next}
use Rattle.zw_words.proofs.Choices.{bind_ok, done, not_ok, ok_is, some}

-- a word that was taken
pub record Takes {A : Type 0} (form : List ℕ → Option A) (ws rest : List (List ℕ)) (x : A) : Type 0 where
  pub word : List ℕ
  pub stands : form word ≡ Some x
  pub words_are : ws ≡ word ∷ rest

formed_takes : {A : Type 0} (rest : List (List ℕ)) (o : Option A) (t : Taken A) → formed rest o ≡ done t → (o ≡ Some t.value) × (t.rest ≡ rest)
formed_takes rest (Some x) t e = (ap (λ (u : Taken _). some u.value) (ok_is (record { value = x; rest = rest }) t e), sym (ap (λ (u : Taken _). u.rest) (ok_is (record { value = x; rest = rest }) t e)))
formed_takes rest None t e = absurd (not_ok Number t e)

pub next_takes : {A : Type 0} (form : List ℕ → Option A) (ws : List (List ℕ)) (t : Taken A) → next form ws ≡ Ok t → Takes form ws t.rest t.value
unfolding next
next_takes form [] t e = absurd (not_ok Missing t e)
next_takes form (w ∷ ws) t e =
    let parts = formed_takes ws (form w) t e in
    record { word = w; stands = parts.0; words_are = ap (λ (r : List (List ℕ)). w ∷ r) (sym parts.1) }

pub next_again : {A : Type 0} (form : List ℕ → Option A) (w : List ℕ) (ws : List (List ℕ)) (x : A) → form w ≡ Some x → next form (w ∷ ws) ≡ Ok (record { value = x; rest = ws })
unfolding next
next_again form w ws x e = ap (formed ws) e

pub ends_takes : (ws : List (List ℕ)) (u : Unit {0}) → ends ws ≡ Ok u → ws ≡ []
unfolding ends
ends_takes [] u e = refl
ends_takes (w ∷ ws) u e = absurd (not_ok Extra u e)

pub ends_again : (ws : List (List ℕ)) → ws ≡ [] → ends ws ≡ Ok tt
unfolding ends
ends_again ws e = ap ends e

pub last_takes : {A : Type 0} (form : List ℕ → Option A) (ws : List (List ℕ)) (x : A) → last form ws ≡ Ok x → Takes form ws [] x
unfolding last
last_takes form ws x e =
    let a = bind_ok (next form ws) alone x e in
    let b = bind_ok (ends a.0.rest) (λ (_ : Unit {0}). done a.0.value) x a.2 in
    let same = ok_is a.0.value x b.2 in
    let t = next_takes form ws a.0 a.1 in
    record { word = t.word; stands = t.stands ∙ ap some same; words_are = t.words_are ∙ ap (λ (r : List (List ℕ)). t.word ∷ r) (ends_takes a.0.rest b.0 b.1) }

pub last_again : {A : Type 0} (form : List ℕ → Option A) (w : List ℕ) (x : A) → form w ≡ Some x → last form (w ∷ []) ≡ Ok x
unfolding last ends
last_again form w x e = ap (λ r. r >>= alone) (next_again form w [] x e)

-- a last word that is not in its form
pub last_bad : {A : Type 0} (form : List ℕ → Option A) (ws : List (List ℕ)) (w : List ℕ) (rest : List (List ℕ)) → ws ≡ w ∷ rest → form w ≡ None → last form ws ≡ Err Number
unfolding last next
last_bad form ws w rest e bad = ap (last form) e ∙ ap (λ o. formed rest o >>= alone) bad

-- a word after the last one
pub last_extra : {A : Type 0} (form : List ℕ → Option A) (ws : List (List ℕ)) (w : List ℕ) (rest : List (List ℕ)) (x : A) (f : LineFault) → ws ≡ w ∷ rest → form w ≡ Some x → Err f ≡ ends rest → last form ws ≡ Err f
unfolding last
last_extra form ws w rest x f e good more =
    ap (last form) e ∙ ap (λ r. r >>= alone) (next_again form w rest x good) ∙ ap (λ r. r >>= λ _. done x) (sym more)
