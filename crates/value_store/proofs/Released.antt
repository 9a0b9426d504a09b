-- What is found once properties of a node were reserved or released, and that releasing what was missing undoes reserving.
use Rattle.std.proofs.Common.{◌≡◌, ℕ, ◌≤◌, Bool, true, false, not, cond, ◌&&◌, ◌||◌, eqb, if◌then◌else◌, List, [], ◌∷◌, ◌++◌, length, Option, Some, None, is_some, refl, sym, ap, subst, ◌∙◌, arith, append_assoc, true≢false}
use Rattle.std.specs.Ordering.{is_eq}
use Rattle.std.specs.declared.cmp.Ordering.TheVariants.{Equal}
use Rattle.std.specs.List.{cons_option}
use Rattle.std.specs.FinMap as map
use Rattle.std.specs.FinMap.{find, get-insert, get-retain_keys, get_tied, same_map}
use Rattle.std.specs.FinMap.Entries.{where_key, is_sorted-where_key, find-where_key}
use Rattle.std.proofs.lemmas.Bool.{eqb-true}
use Rattle.zw_base.specs.PropertyOrder.{same_property}
use Rattle.zw_base.specs.declared.property.Property.{Property}
use Rattle.value_store.specs.declared.stored.Stored.{Stored}
use Rattle.value_store.specs.Values.{Key, Values, Reserves, is_among, is_other, key_cmp, missing_by, missing_of, property_at, releasing, reserving, stored_of}
use Rattle.value_store.specs.Entries.{Entries, IsInOrder, IsWithinLimit, properties_among}
use Rattle.value_store.proofs.Keys.{key_exact, key_total, property_exact}
use Rattle.value_store.proofs.Reserved.{from_T, merged, nothing_more, same_key, some_of, tie}
use Rattle.value_store.proofs.Seen.{seen, is_in_order, get-seen}

-- ---- reserving

-- one property that is reserved
get-one : (m : Values) (node : ℕ) (x : Property) (n : ℕ) (p : Property)
    → map.get (map.insert m (node, x) (stored_of m node x)) (n, p) ≡ cond (eqb n node && same_property p x) (some_of (map.get m (n, p))) (map.get m (n, p))
get-one m node x n p =
    get-insert key_total m (node, x) (stored_of m node x) (n, p)
    ∙ tied (is_eq (key_cmp (n, p) (node, x))) refl
    ∙ ap (λ (b : Bool). cond b (some_of (map.get m (n, p))) (map.get m (n, p))) (same_key n node p x)
  where
    tied : (b : Bool) → is_eq (key_cmp (n, p) (node, x)) ≡ b
        → cond b (Some (stored_of m node x)) (map.get m (n, p)) ≡ cond b (some_of (map.get m (n, p))) (map.get m (n, p))
    tied true same = ap some_of (get_tied key_total m (n, p) (node, x) (tie _ same))
    tied false same = refl

pub get-reserving : (m : Values) (node : ℕ) (ps : List Property) (n : ℕ) (p : Property)
    → map.get (reserving m node ps) (n, p) ≡ cond (eqb n node && is_among ps p) (some_of (map.get m (n, p))) (map.get m (n, p))
get-reserving m node [] n p = nothing_more (eqb n node) _
get-reserving m node (x ∷ more) n p =
    get-reserving (map.insert m (node, x) (stored_of m node x)) node more n p
    ∙ ap (λ (o : Option Stored). cond (eqb n node && is_among more p) (some_of o) o) (get-one m node x n p)
    ∙ merged (eqb n node) (same_property p x) (is_among more p) (map.get m (n, p))

-- what reserves properties gives the values with them reserved
pub reserved_are : (old new : Values) (node : ℕ) (ps : List Property) → Reserves old new node ps → new ≡ reserving old node ps
reserved_are old new node ps law = same_map key_total key_exact new (reserving old node ps) (λ q. law q.0 q.1 ∙ sym (get-reserving old node ps q.0 q.1))

-- ---- releasing

pub get-releasing : (m : Values) (node : ℕ) (ps : List Property) (q : Key) → map.get (releasing m node ps) q ≡ cond (is_other node ps q) (map.get m q) None
get-releasing m node ps q = get-retain_keys m (is_other node ps) q (λ x tied. ap (is_other node ps) (sym (key_exact q x tied)))

-- ---- what is missing

picked : (b : Bool) (p : Property) (ps : List Property) (q : Property) → is_among (if b then ps else p ∷ ps) q ≡ (if b then is_among ps q else same_property q p || is_among ps q)
picked true p ps q = refl
picked false p ps q = refl

-- s: the two are one property; a, k: another of these is the first one, the first one is kept; aq, kq: the same of the second; mq: it is missing of the rest
missing_step : (s a k aq kq mq : Bool) → (s ≡ true → aq ≡ a) → (s ≡ true → kq ≡ k) → mq ≡ (aq && not kq)
    → (if a || k then mq else s || mq) ≡ ((s || aq) && not kq)
missing_step true true k aq kq mq f g e = e ∙ ap (λ (b : Bool). b && not kq) (f refl)
missing_step true false true aq kq mq f g e = e ∙ ap (λ (b : Bool). b && not kq) (f refl) ∙ sym (ap not (g refl))
missing_step true false false aq kq mq f g e = sym (ap not (g refl))
missing_step false true k aq kq mq f g e = e
missing_step false false true aq kq mq f g e = e
missing_step false false false aq kq mq f g e = e

pub among-missing : (is_kept : Property → Bool) (ps : List Property) (q : Property) → is_among (missing_by is_kept ps) q ≡ (is_among ps q && not (is_kept q))
among-missing is_kept [] q = refl
among-missing is_kept (p ∷ more) q =
    picked (is_among more p || is_kept p) p (missing_by is_kept more) q
    ∙ missing_step (same_property q p) (is_among more p) (is_kept p) (is_among more q) (is_kept q) (is_among (missing_by is_kept more) q)
    (λ same. ap (is_among more) (property_exact q p (tie _ same))) (λ same. ap is_kept (property_exact q p (tie _ same))) (among-missing is_kept more q)

-- ---- the one undoes the other

undone_at : (a am : Bool) (o : Option Stored) → am ≡ (a && not (is_some o)) → cond (not am) (cond a (some_of o) o) None ≡ o
undone_at true true (Some s) e = absurd (true≢false e)
undone_at true true None e = refl
undone_at true false (Some s) e = refl
undone_at true false None e = absurd (true≢false (sym e))
undone_at false true o e = absurd (true≢false e)
undone_at false false o e = refl

undone : (m : Values) (node : ℕ) (ps : List Property) (n : ℕ) (p : Property) (b : Bool) → eqb n node ≡ b
    → cond (not (b && is_among (missing_of m node ps) p)) (cond (b && is_among ps p) (some_of (map.get m (n, p))) (map.get m (n, p))) None ≡ map.get m (n, p)
undone m node ps n p true same =
    undone_at (is_among ps p) (is_among (missing_of m node ps) p) (map.get m (n, p))
    (among-missing (λ q. is_some (map.get m (node, q))) ps p ∙ ap (λ (k : ℕ). is_among ps p && not (is_some (map.get m (k, p)))) (sym (eqb-true n node same)))
undone m node ps n p false other = refl

pub released_is_undone : (m : Values) (node : ℕ) (ps : List Property) → releasing (reserving m node ps) node (missing_of m node ps) ≡ m
released_is_undone m node ps =
    same_map key_total key_exact (releasing (reserving m node ps) node (missing_of m node ps)) m (λ q.
    get-releasing (reserving m node ps) node (missing_of m node ps) q
    ∙ ap (λ (o : Option Stored). cond (is_other node (missing_of m node ps) q) o None) (get-reserving m node ps q.0 q.1)
    ∙ undone m node ps q.0 q.1 (eqb q.0 node) refl)

-- ---- entries

pub order-where : (p : Key → Bool) (es : Entries) → IsInOrder es → IsInOrder (where_key key_cmp p es)
order-where p es order = from_T _ (is_sorted-where_key key_cmp p es (is_in_order es order))

-- one entry more is at most one property more
one_fewer : (b : Bool) (o : Option Property) (left all : List Property) → length left ≤ length all → length (cond b (cons_option o left) left) ≤ length (cons_option o all)
one_fewer true (Some p) left all h = omega (arith, h)
one_fewer true None left all h = h
one_fewer false (Some p) left all h = omega (arith, h)
one_fewer false None left all h = h

among_cond : (b : Bool) (e : Key × Stored) (es : Entries) (n : ℕ)
    → properties_among (cond b (e ∷ es) es) n ≡ cond b (cons_option (property_at n e) (properties_among es n)) (properties_among es n)
among_cond true e es n = refl
among_cond false e es n = refl

fewer-where : (p : Key → Bool) (es : Entries) (n : ℕ) → length (properties_among (where_key key_cmp p es) n) ≤ length (properties_among es n)
fewer-where p [] n = omega arith
fewer-where p (e ∷ es) n =
    let left = properties_among (where_key key_cmp p es) n in
    subst (λ (l : List Property). length l ≤ length (cons_option (property_at n e) (properties_among es n))) (sym (among_cond (p e.0) e (where_key key_cmp p es) n))
    (one_fewer (p e.0) (property_at n e) left (properties_among es n) (fewer-where p es n))

pub limit-where : (p : Key → Bool) (es : Entries) → IsWithinLimit es → IsWithinLimit (where_key key_cmp p es)
limit-where p es limit n = let fewer = fewer-where p es n in let within = limit n in omega (arith, fewer, within)

-- dropping keys from the entries is retaining the others in the map
pub seen-where : (p : Key → Bool) (es : Entries) → IsInOrder es → seen (where_key key_cmp p es) ≡ map.retain_keys (seen es) p
seen-where p es order = same_map key_total key_exact (seen (where_key key_cmp p es)) (map.retain_keys (seen es) p) (λ q.
    get-seen (where_key key_cmp p es) (order-where p es order) q
    ∙ find-where_key key_cmp p q (alike q) es
    ∙ ap (λ (o : Option Stored). cond (p q) o None) (sym (get-seen es order q))
    ∙ sym (get-retain_keys (seen es) p q (alike q)))
  where
    alike : (q x : Key) → key_cmp q x ≡ Equal → p x ≡ p q
    alike q x tied = ap p (sym (key_exact q x tied))

-- the same are missing of the entries
missing_same : (f g : Property → Bool) (ps : List Property) → ((p : Property) → f p ≡ g p) → missing_by f ps ≡ missing_by g ps
missing_same f g [] same = refl
missing_same f g (p ∷ more) same =
    ap (λ (b : Bool). if is_among more p || b then missing_by f more else p ∷ missing_by f more) (same p)
    ∙ ap (λ (l : List Property). if is_among more p || g p then l else p ∷ l) (missing_same f g more same)

pub missing-seen : (es : Entries) (order : IsInOrder es) (node : ℕ) (ps : List Property) → missing_by (λ p. is_some (find key_cmp (node, p) es)) ps ≡ missing_of (seen es) node ps
missing-seen es order node ps =
    missing_same (λ p. is_some (find key_cmp (node, p) es)) (λ p. is_some (map.get (seen es) (node, p))) ps (λ p. ap is_some (sym (get-seen es order (node, p))))

-- a step of the search for what is missing
module _ (f : Property → Bool) (found rest later all : List Property) (p : Property) (m : Bool) (prefix : rest ≡ p ∷ later) (so_far : found ++ missing_by f rest ≡ all) (is : m ≡ (is_among later p || f p)) where
  to_prefix : found ++ missing_by f (p ∷ later) ≡ all
  to_prefix = ap (λ (l : List Property). found ++ missing_by f l) (sym prefix) ∙ so_far

  chosen : (b : Bool) → (is_among later p || f p) ≡ b → found ++ (if b then missing_by f later else p ∷ missing_by f later) ≡ all
  chosen b e = ap (λ (t : Bool). found ++ (if t then missing_by f later else p ∷ missing_by f later)) (sym e) ∙ to_prefix

  was : (b : Bool) → b ≡ not m → (is_among later p || f p) ≡ not b
  was b e = sym is ∙ twice m ∙ ap not (sym e)
    where
      twice : (b : Bool) → b ≡ not (not b)
      twice true = refl
      twice false = refl

  pub missing_more : (new : List Property) → true ≡ not m → new ≡ found ++ p ∷ [] → new ++ missing_by f later ≡ all
  missing_more new fresh more =
      ap (λ (l : List Property). l ++ missing_by f later) more ∙ append_assoc found (p ∷ []) (missing_by f later) ∙ chosen false (was true fresh)

  pub missing_less : false ≡ not m → found ++ missing_by f later ≡ all
  missing_less again = chosen true (was false again)
