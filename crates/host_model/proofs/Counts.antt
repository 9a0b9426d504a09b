-- How many properties there are, by two lists of them.
use Rattle.std.proofs.Common.{◌≡◌, ◌≤◌, ◌||◌, Bool, true, false, cond, List, [], ◌∷◌, ◌++◌, refl, sym, ap, ◌∙◌, arith}
use Rattle.std.specs.List.{IsDistinct, AllByRecursion}
use Rattle.std.specs.Set.{distinct_count, is_member, unique_keys}
use Rattle.std.proofs.lemmas.Map.Made.{length-le_from_is_member}
use Rattle.std.proofs.lemmas.List.Folds.{list_any-append}
use Rattle.std.proofs.lemmas.Bool.{or_parts as apart_first}
use Rattle.zw_base.specs.PropertyOrder.{same_property}
use Rattle.zw_base.specs.declared.property.Property.{Property}
use Rattle.value_store.proofs.Keys.{same_property_laws}
use Rattle.host_model.proofs.Values.{one_property}

abbrev once : List Property → List Property
once l = unique_keys same_property l

-- a property is among them once where it is among them
pub among-once : (l : List Property) (q : Property) → is_member same_property (once l) q ≡ is_member same_property l q
among-once [] q = refl
among-once (p ∷ l) q = by (is_member same_property l p) (same_property q p) refl refl (among-once l q)
  where
    by : (known same : Bool) → is_member same_property l p ≡ known → same_property q p ≡ same → is_member same_property (once l) q ≡ is_member same_property l q
        → is_member same_property (cond known (once l) (p ∷ once l)) q ≡ (same || is_member same_property l q)
    by true true e f rest = rest ∙ ap (λ (x : Property). is_member same_property l x) (one_property q p f) ∙ e
    by true false e f rest = rest
    by false true e f rest = ap (λ (b : Bool). b || is_member same_property (once l) q) f
    by false false e f rest = ap (λ (b : Bool). b || is_member same_property (once l) q) f ∙ rest

pub none_is : (p : Property) (l : List Property) → is_member same_property l p ≡ false → AllByRecursion (λ y. same_property p y ≡ false) l
none_is p [] e = tt
none_is p (x ∷ l) e = let both = apart_first (same_property p x) (is_member same_property l p) e in (both.0, none_is p l both.1)

distinct-once : (l : List Property) → IsDistinct same_property (once l)
unfolding IsDistinct
distinct-once [] = tt
distinct-once (p ∷ l) = by (is_member same_property l p) refl (distinct-once l)
  where
    by : (known : Bool) → is_member same_property l p ≡ known → IsDistinct same_property (once l) → IsDistinct same_property (cond known (once l) (p ∷ once l))
    by true e rest = rest
    by false e rest = (none_is p (once l) (among-once l p ∙ e), rest)

-- fewer properties are no more
pub count-fewer : (xs ys : List Property) → ((q : Property) → is_member same_property xs q ≡ true → is_member same_property ys q ≡ true)
    → distinct_count same_property xs ≤ distinct_count same_property ys
count-fewer xs ys all = length-le_from_is_member same_property_laws (once xs) (once ys) (distinct-once xs) (λ q there. among-once ys q ∙ all q (sym (among-once xs q) ∙ there))

pub either_more : (a b c : Bool) → (b ≡ true → c ≡ true) → (a || b) ≡ true → (a || c) ≡ true
either_more true b c f e = refl
either_more false b c f e = f e

-- and so beside others
pub count-beside : (more xs ys : List Property) → ((q : Property) → is_member same_property xs q ≡ true → is_member same_property ys q ≡ true)
    → distinct_count same_property (more ++ xs) ≤ distinct_count same_property (more ++ ys)
count-beside more xs ys all = count-fewer (more ++ xs) (more ++ ys) (λ q there.
    list_any-append (same_property q) more ys
    ∙ either_more (is_member same_property more q) (is_member same_property xs q) (is_member same_property ys q) (all q) (sym (list_any-append (same_property q) more xs) ∙ there))

pub count-alike : (more xs ys : List Property) → ((q : Property) → is_member same_property xs q ≡ true → is_member same_property ys q ≡ true)
    → ((q : Property) → is_member same_property ys q ≡ true → is_member same_property xs q ≡ true)
    → distinct_count same_property (more ++ xs) ≡ distinct_count same_property (more ++ ys)
count-alike more xs ys one other = let a = count-beside more xs ys one in let b = count-beside more ys xs other in omega (arith, a, b)
