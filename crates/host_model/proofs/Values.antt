-- Values of properties, where some are reserved, confirmed or heard.
use Rattle.std.proofs.Common.{◌≡◌, ℕ, ◌||◌, ◌&&◌, Bool, true, false, cond, eqb, if◌then◌else◌, is_some, unwrap_or, List, [], ◌∷◌, Option, Some, None, All, refl, sym, ap, ◌∙◌}
use Rattle.std.specs.Ordering.{nat_cmp}
use Rattle.std.specs.Cmp.Lexicographic.{slice_cmp}
use Rattle.std.specs.FinMap as map
use Rattle.std.proofs.lemmas.Bool.{eqb-true, eq-eqb, and_parts as and_both}
use Rattle.std.proofs.lemmas.List.Elements.{All-head, All-tail, All-weaker}
use Rattle.zw_base.specs.PropertyOrder.{rank_of, same_property}
use Rattle.zw_base.specs.declared.property.Property.{Property}
use Rattle.zw_base.specs.declared.property.Setting.{Setting}
use Rattle.value_store.specs.declared.stored.Stored.{Stored}
use Rattle.value_store.specs.Values.{Values, no_value, IsReserved, is_among, reserving, stored_of}
use Rattle.value_store.proofs.Keys.{key_total, property_exact, same_property_laws}
use Rattle.value_store.proofs.Released.{get-reserving}
use Rattle.host_keep.specs.Kept.{value_among, or_else}
use Rattle.host_orders.specs.Settings.{properties_of}
use Rattle.host_model.specs.After.{confirming, hearing}
use Rattle.value_store.proofs.Reserved.{tie, same_key}

-- properties that are the same one are equal
pub one_property : (p q : Property) → same_property p q ≡ true → p ≡ q
one_property p q e = property_exact p q (tie (slice_cmp nat_cmp (rank_of p) (rank_of q)) e)

itself : (p : Property) → same_property p p ≡ true
itself p = same_property_laws.refl p

pub get-one : (m : Values) (node : ℕ) (x : Property) (v : Stored) (n : ℕ) (p : Property)
    → map.get (map.insert m (node, x) v) (n, p) ≡ cond (eqb n node && same_property p x) (Some v) (map.get m (n, p))
get-one m node x v n p = map.get-insert key_total m (node, x) v (n, p) ∙ ap (λ (b : Bool). cond b (Some v) (map.get m (n, p))) (same_key n node p x)

-- ---- reserving

read_again : (b : Bool) (o : Option Stored) → unwrap_or (cond b (Some (unwrap_or o no_value)) o) no_value ≡ unwrap_or o no_value
read_again true o = refl
read_again false o = refl

pub stored-reserving : (m : Values) (node : ℕ) (ps : List Property) (n : ℕ) (p : Property) → stored_of (reserving m node ps) n p ≡ stored_of m n p
stored-reserving m node ps n p = ap (λ (o : Option Stored). unwrap_or o no_value) (get-reserving m node ps n p) ∙ read_again (eqb n node && is_among ps p) (map.get m (n, p))

there_or : (b : Bool) (o : Option Stored) → is_some (cond b (Some (unwrap_or o no_value)) o) ≡ (b || is_some o)
there_or true o = refl
there_or false o = refl

pub reserved-reserving : (m : Values) (node : ℕ) (ps : List Property) (n : ℕ) (p : Property)
    → is_some (map.get (reserving m node ps) (n, p)) ≡ ((eqb n node && is_among ps p) || is_some (map.get m (n, p)))
reserved-reserving m node ps n p = ap (λ (o : Option Stored). is_some o) (get-reserving m node ps n p) ∙ there_or (eqb n node && is_among ps p) (map.get m (n, p))

-- ---- one value is other

-- what is stored where one value was set
pub stored-one : (m : Values) (node : ℕ) (x : Property) (v : Stored) (n : ℕ) (p : Property)
    → stored_of (map.insert m (node, x) v) n p ≡ cond (eqb n node && same_property p x) v (stored_of m n p)
stored-one m node x v n p = ap (λ (o : Option Stored). unwrap_or o no_value) (get-one m node x v n p) ∙ by (eqb n node && same_property p x)
  where
    by : (b : Bool) → unwrap_or (cond b (Some v) (map.get m (n, p))) no_value ≡ cond b v (stored_of m n p)
    by true = refl
    by false = refl

-- a part of what is stored stays, where the value that is set has the same
pub part-one : {X : Type 0} (part : Stored → X) (m : Values) (node : ℕ) (x : Property) (v : Stored) → part v ≡ part (stored_of m node x)
    → (n : ℕ) (p : Property) → part (stored_of (map.insert m (node, x) v) n p) ≡ part (stored_of m n p)
part-one part m node x v same n p = ap part (stored-one m node x v n p) ∙ by (eqb n node && same_property p x) refl
  where
    by : (b : Bool) → (eqb n node && same_property p x) ≡ b → part (cond b v (stored_of m n p)) ≡ part (stored_of m n p)
    by true e =
        let both = and_both (eqb n node) (same_property p x) e in
        same ∙ ap (λ (k : ℕ). part (stored_of m k x)) (sym (eqb-true n node both.0)) ∙ ap (λ (q : Property). part (stored_of m n q)) (sym (one_property p x both.1))
    by false e = refl

pub confirmed-hearing : (m : Values) (node : ℕ) (s : Setting) (n : ℕ) (p : Property) → (stored_of (hearing m node s) n p).confirmed ≡ (stored_of m n p).confirmed
confirmed-hearing m node s n p = part-one (λ (v : Stored). v.confirmed) m node s.property (record (stored_of m node s.property) { heard = Some s.value }) refl n p

-- ---- settings are confirmed

pub heard-confirming : (m : Values) (node : ℕ) (settings : List Setting) (n : ℕ) (p : Property) → (stored_of (confirming m node settings) n p).heard ≡ (stored_of m n p).heard
heard-confirming m node [] n p = refl
heard-confirming m node (s ∷ more) n p =
    let v : Stored = record (stored_of m node s.property) { confirmed = Some s.value } in
    heard-confirming (map.insert m (node, s.property) v) node more n p ∙ part-one (λ (t : Stored). t.heard) m node s.property v refl n p

-- other nodes keep what they had
pub stored-confirming_other : (m : Values) (node : ℕ) (settings : List Setting) (n : ℕ) (p : Property) → (n ≡ node → ⊥) → stored_of (confirming m node settings) n p ≡ stored_of m n p
stored-confirming_other m node [] n p other = refl
stored-confirming_other m node (s ∷ more) n p other =
    let v : Stored = record (stored_of m node s.property) { confirmed = Some s.value } in
    stored-confirming_other (map.insert m (node, s.property) v) node more n p other
    ∙ stored-one m node s.property v n p ∙ by (eqb n node) refl v
  where
    by : (b : Bool) → eqb n node ≡ b → (v : Stored) → cond (b && same_property p s.property) v (stored_of m n p) ≡ stored_of m n p
    by true e v = absurd (other (eqb-true n node e))
    by false e v = refl

-- none of the settings sets a property twice
abbrev pub Once : List Setting → Type 0
Once [] = Unit {0}
Once (s ∷ more) = (value_among more s.property ≡ None) × Once more

-- each of the node's properties has the value that the settings give it, and else what it had
pub confirmed-confirming : (m : Values) (node : ℕ) (settings : List Setting) (p : Property) → Once settings
    → (stored_of (confirming m node settings) node p).confirmed ≡ or_else (value_among settings p) (stored_of m node p).confirmed
confirmed-confirming m node [] p once = refl
confirmed-confirming m node (s ∷ more) p once =
    let v : Stored = record (stored_of m node s.property) { confirmed = Some s.value } in
    confirmed-confirming (map.insert m (node, s.property) v) node more p once.1
    ∙ ap (λ (t : Stored). or_else (value_among more p) t.confirmed) (stored-one m node s.property v node p)
    ∙ ap (λ (b : Bool). or_else (value_among more p) (cond (b && same_property p s.property) v (stored_of m node p)).confirmed) (eq-eqb node node refl)
    ∙ by (same_property p s.property) (same_property s.property p) refl refl v refl
  where
    now : (same : Bool) → same_property s.property p ≡ same → p ≡ s.property → (v : Stored) → v.confirmed ≡ Some s.value
        → or_else (value_among more p) v.confirmed ≡ or_else (if same then Some s.value else value_among more p) (stored_of m node p).confirmed
    now true e is v set = ap (λ (o : Option ℕ). or_else o v.confirmed) (ap (λ (q : Property). value_among more q) is ∙ once.0) ∙ set
    now false e is v set = absurd (not_same (ap (λ (q : Property). same_property q p) is))
      where
        not_same : same_property p p ≡ same_property s.property p → ⊥
        not_same f = let r : same_property p p ≡ true = itself p in cc

    by : (b c : Bool) → same_property p s.property ≡ b → same_property s.property p ≡ c → (v : Stored) → v.confirmed ≡ Some s.value
        → or_else (value_among more p) (cond b v (stored_of m node p)).confirmed ≡ or_else (if c then Some s.value else value_among more p) (stored_of m node p).confirmed
    by true c e f v set = now c f (one_property p s.property e) v set
    by false true e f v set = absurd (differ (one_property s.property p f))
      where
        differ : s.property ≡ p → ⊥
        differ is = let r : same_property p p ≡ true = itself p in let g : same_property p s.property ≡ same_property p p = ap (λ (q : Property). same_property p q) is in cc
    by false false e f v set = refl

-- as many properties are kept as before where those that are confirmed are kept
there-one : (m : Values) (node : ℕ) (x : Property) (v : Stored) → IsReserved m node x → (n : ℕ) (p : Property) → is_some (map.get (map.insert m (node, x) v) (n, p)) ≡ is_some (map.get m (n, p))
there-one m node x v there n p = ap (λ (o : Option Stored). is_some o) (get-one m node x v n p) ∙ by (eqb n node && same_property p x) refl
  where
    by : (b : Bool) → (eqb n node && same_property p x) ≡ b → is_some (cond b (Some v) (map.get m (n, p))) ≡ is_some (map.get m (n, p))
    by true e =
        let both = and_both (eqb n node) (same_property p x) e in
        sym there ∙ ap (λ (k : ℕ). is_some (map.get m (k, x))) (sym (eqb-true n node both.0)) ∙ ap (λ (q : Property). is_some (map.get m (n, q))) (sym (one_property p x both.1))
    by false e = refl

pub reserved-confirming : (m : Values) (node : ℕ) (settings : List Setting) → All (IsReserved m node) (properties_of settings)
    → (n : ℕ) (p : Property) → is_some (map.get (confirming m node settings) (n, p)) ≡ is_some (map.get m (n, p))
reserved-confirming m node [] all n p = refl
reserved-confirming m node (s ∷ more) all n p =
    let v : Stored = record (stored_of m node s.property) { confirmed = Some s.value } in
    let there : IsReserved m node s.property = All-head (IsReserved m node) s.property (properties_of more) all in
    let next = map.insert m (node, s.property) v in
    reserved-confirming next node more
    (All-weaker (IsReserved m node) (IsReserved next node) (λ q h. there-one m node s.property v there node q ∙ h) (properties_of more)
    (All-tail (IsReserved m node) s.property (properties_of more) all)) n p
    ∙ there-one m node s.property v there n p
