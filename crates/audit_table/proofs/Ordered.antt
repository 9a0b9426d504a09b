-- Items in order, each once, and a map's entries in the order of their keys.
use Rattle.std.proofs.Common.{◌≡◌, cond, Bool, true, false, List, [], ◌∷◌, ◌++◌, Some, ap, refl, sym, subst, ◌∙◌}
use Rattle.std.specs.declared.cmp.Ordering.{Ordering}
use Rattle.std.specs.declared.cmp.Ordering.TheVariants.{Less, Equal, Greater}
use Rattle.std.specs.Cmp.{IsTotalOrder}
use Rattle.std.specs.Ordering.{is_eq, ordering_reverse}
use Rattle.std.specs.Map.{keys_of, lookup}
use Rattle.std.specs.BTreeMap.{insert_entry, is_at}
use Rattle.law_transcript.specs.Table.{in_order, put_in_order}

-- these are put among those, the last one first
abbrev pub putting : {K : Type 0} → (K → K → Ordering) → List K → List K → List K
putting R [] items = items
putting R (x ∷ xs) items = put_in_order R x (putting R xs items)

module _ {K : Type 0} {R : K → K → Ordering} (o : IsTotalOrder R) (exact : (x y : K) → R x y ≡ Equal → x ≡ y) where
  back : (x y : K) (r : Ordering) → R x y ≡ r → R y x ≡ ordering_reverse r
  back x y r e = o.antisymm y x ∙ ap ordering_reverse e

  -- ---- one more

  put-less : (a x : K) (l : List K) → R a x ≡ Less → put_in_order R a (x ∷ l) ≡ a ∷ x ∷ l
  put-less a x l e = rw e refl

  put-equal : (a x : K) (l : List K) → R a x ≡ Equal → put_in_order R a (x ∷ l) ≡ x ∷ l
  put-equal a x l e = rw e refl

  put-greater : (a x : K) (l : List K) → R a x ≡ Greater → put_in_order R a (x ∷ l) ≡ x ∷ put_in_order R a l
  put-greater a x l e = rw e refl

  two : (a b : K) → put_in_order R a (b ∷ []) ≡ put_in_order R b (a ∷ [])
  two a b = by (R a b) refl
    where
      by : (r : Ordering) → R a b ≡ r → put_in_order R a (b ∷ []) ≡ put_in_order R b (a ∷ [])
      by Less e = put-less a b [] e ∙ sym (put-greater b a [] (back a b Less e))
      by Equal e = put-equal a b [] e ∙ ap (λ x. x ∷ []) (sym (exact a b e)) ∙ sym (put-equal b a [] (back a b Equal e))
      by Greater e = put-greater a b [] e ∙ sym (put-less b a [] (back a b Greater e))

  below-both : (a b x : K) (l : List K) → R a x ≡ Less → R b x ≡ Less → put_in_order R a (b ∷ x ∷ l) ≡ put_in_order R b (a ∷ x ∷ l)
  below-both a b x l p q = by (R a b) refl
    where
      by : (r : Ordering) → R a b ≡ r → put_in_order R a (b ∷ x ∷ l) ≡ put_in_order R b (a ∷ x ∷ l)
      by Less e = put-less a b (x ∷ l) e ∙ ap (λ m. a ∷ m) (sym (put-less b x l q)) ∙ sym (put-greater b a (x ∷ l) (back a b Less e))
      by Equal e = put-equal a b (x ∷ l) e ∙ ap (λ y. y ∷ x ∷ l) (sym (exact a b e)) ∙ sym (put-equal b a (x ∷ l) (back a b Equal e))
      by Greater e = put-greater a b (x ∷ l) e ∙ ap (λ m. b ∷ m) (put-less a x l p) ∙ sym (put-less b a (x ∷ l) (back a b Greater e))

  -- where a is below what b is not below
  below-one : (a b x : K) (l : List K) → R a x ≡ Less → (R b x ≡ Less → ⊥) → R b a ≡ Greater
  below-one a b x l p q = by (R b a) refl
    where
      by : (r : Ordering) → R b a ≡ r → R b a ≡ Greater
      by Less e = absurd (q (o.trans b a x e p))
      by Equal e = absurd (q (o.congr b a x e ∙ p))
      by Greater e = e

  less-not : (r : Ordering) → r ≡ Equal → r ≡ Less → ⊥
  less-not r e d = subst G (sym d ∙ e) tt
    where
      G : Ordering → Type 0
      G Less = Unit {0}
      G Equal = ⊥
      G Greater = ⊥

  greater-not : (r : Ordering) → r ≡ Greater → r ≡ Less → ⊥
  greater-not r e d = subst G (sym d ∙ e) tt
    where
      G : Ordering → Type 0
      G Less = Unit {0}
      G Equal = ⊥
      G Greater = ⊥

  -- a below x, b at x or above it
  low-first : (a b x : K) (l m : List K) → R a x ≡ Less → (R b x ≡ Less → ⊥) → put_in_order R b (x ∷ l) ≡ x ∷ m →
      put_in_order R a (put_in_order R b (x ∷ l)) ≡ put_in_order R b (put_in_order R a (x ∷ l))
  low-first a b x l m p q is =
      ap (put_in_order R a) is ∙ put-less a x m p ∙ ap (λ n. a ∷ n) (sym is)
      ∙ sym (put-greater b a (x ∷ l) (below-one a b x l p q)) ∙ ap (put_in_order R b) (sym (put-less a x l p))

  put-put : (a b : K) (l : List K) → put_in_order R a (put_in_order R b l) ≡ put_in_order R b (put_in_order R a l)
  put-put a b [] = two a b
  put-put a b (x ∷ l) = by (R a x) (R b x) (put-put a b l) refl refl
    where
      by : (r s : Ordering) → put_in_order R a (put_in_order R b l) ≡ put_in_order R b (put_in_order R a l) → R a x ≡ r → R b x ≡ s →
          put_in_order R a (put_in_order R b (x ∷ l)) ≡ put_in_order R b (put_in_order R a (x ∷ l))
      by Less Less later p q = ap (put_in_order R a) (put-less b x l q) ∙ below-both a b x l p q ∙ ap (put_in_order R b) (sym (put-less a x l p))
      by Less Equal later p q = low-first a b x l l p (less-not (R b x) q) (put-equal b x l q)
      by Less Greater later p q = low-first a b x l (put_in_order R b l) p (greater-not (R b x) q) (put-greater b x l q)
      by Equal Less later p q = sym (low-first b a x l l q (less-not (R a x) p) (put-equal a x l p))
      by Greater Less later p q = sym (low-first b a x l (put_in_order R a l) q (greater-not (R a x) p) (put-greater a x l p))
      by Equal Equal later p q =
          ap (put_in_order R a) (put-equal b x l q) ∙ put-equal a x l p ∙ sym (put-equal b x l q) ∙ ap (put_in_order R b) (sym (put-equal a x l p))
      by Equal Greater later p q =
          ap (put_in_order R a) (put-greater b x l q) ∙ put-equal a x (put_in_order R b l) p
          ∙ sym (put-greater b x l q) ∙ ap (put_in_order R b) (sym (put-equal a x l p))
      by Greater Equal later p q =
          ap (put_in_order R a) (put-equal b x l q) ∙ put-greater a x l p
          ∙ sym (put-equal b x (put_in_order R a l) q) ∙ ap (put_in_order R b) (sym (put-greater a x l p))
      by Greater Greater later p q =
          ap (put_in_order R a) (put-greater b x l q) ∙ put-greater a x (put_in_order R b l) p
          ∙ ap (λ m. x ∷ m) later
          ∙ sym (put-greater b x (put_in_order R a l) q) ∙ ap (put_in_order R b) (sym (put-greater a x l p))

  putting-put : (xs : List K) (x : K) (l : List K) → putting R xs (put_in_order R x l) ≡ put_in_order R x (putting R xs l)
  putting-put [] x l = refl
  putting-put (y ∷ xs) x l = ap (put_in_order R y) (putting-put xs x l) ∙ put-put y x (putting R xs l)

  pub in-order-append : (xs ys : List K) → in_order R (xs ++ ys) ≡ putting R xs (in_order R ys)
  in-order-append [] ys = refl
  in-order-append (x ∷ xs) ys = ap (put_in_order R x) (in-order-append xs ys)

  pub in-order-putting : (xs : List K) → in_order R xs ≡ putting R xs []
  in-order-putting [] = refl
  in-order-putting (x ∷ xs) = ap (put_in_order R x) (in-order-putting xs)

  pub in-order-more : (xs : List K) (x : K) → in_order R (xs ++ (x ∷ [])) ≡ put_in_order R x (in_order R xs)
  in-order-more xs x =
      in-order-append xs (x ∷ []) ∙ putting-put xs x [] ∙ ap (put_in_order R x) (sym (in-order-putting xs))

  pub putting-append : (xs ys l : List K) → putting R (xs ++ ys) l ≡ putting R xs (putting R ys l)
  putting-append [] ys l = refl
  putting-append (x ∷ xs) ys l = ap (put_in_order R x) (putting-append xs ys l)

  -- two lists are put in either order
  pub putting-swap : (xs ys l : List K) → putting R xs (putting R ys l) ≡ putting R ys (putting R xs l)
  putting-swap [] ys l = refl
  putting-swap (x ∷ xs) ys l = ap (put_in_order R x) (putting-swap xs ys l) ∙ sym (putting-put ys x (putting R xs l))

  -- ---- entries

  pub keys-insert : {X : Type 0} (es : List (K × X)) (k : K) (v : X) → keys_of (insert_entry R es k v) ≡ put_in_order R k (keys_of es)
  keys-insert [] k v = refl
  keys-insert {X} (e ∷ es) k v = by (R k e.0) (keys-insert es k v) refl
    where
      by : (r : Ordering) → keys_of (insert_entry R es k v) ≡ put_in_order R k (keys_of es) → R k e.0 ≡ r → keys_of (insert_entry R (e ∷ es) k v) ≡ put_in_order R k (e.0 ∷ keys_of es)
      by Less later p = rw p refl
      by Equal later p = rw p refl
      by Greater later p = rw p (ap (λ l. e.0 ∷ l) later)

  not-same : (q k x : K) → R q k ≡ Equal → R k x ≡ Greater → is_eq (R q x) ≡ false
  not-same q k x p g = ap is_eq (o.congr q k x p ∙ g)

  pub lookup-insert : {X : Type 0} (es : List (K × X)) (k q : K) (v : X) →
      lookup (is_at (R q)) (insert_entry R es k v) ≡ cond (is_eq (R q k)) (Some v) (lookup (is_at (R q)) es)
  lookup-insert [] k q v = refl
  lookup-insert {X} (e ∷ es) k q v = by (R k e.0) (lookup-insert es k q v) refl
    where
      by : (r : Ordering) → lookup (is_at (R q)) (insert_entry R es k v) ≡ cond (is_eq (R q k)) (Some v) (lookup (is_at (R q)) es) → R k e.0 ≡ r →
          lookup (is_at (R q)) (insert_entry R (e ∷ es) k v) ≡ cond (is_eq (R q k)) (Some v) (lookup (is_at (R q)) (e ∷ es))
      by Less rest p = rw p refl
      by Equal rest p = rw p (rw (exact k e.0 p) (same (is_eq (R q e.0))))
        where
          same : (b : Bool) → cond b (Some v) (lookup (is_at (R q)) es) ≡ cond b (Some v) (cond b (Some e.1) (lookup (is_at (R q)) es))
          same true = refl
          same false = refl
      by Greater rest p = rw p (later (R q k) refl)
        where
          later : (s : Ordering) → R q k ≡ s → cond (is_eq (R q e.0)) (Some e.1) (lookup (is_at (R q)) (insert_entry R es k v))
              ≡ cond (is_eq (R q k)) (Some v) (cond (is_eq (R q e.0)) (Some e.1) (lookup (is_at (R q)) es))
          later Equal s = rw (not-same q k e.0 s p) rest
          later Less s = rw s (ap (cond (is_eq (R q e.0)) (Some e.1)) (rest ∙ ap (λ r. cond (is_eq r) (Some v) (lookup (is_at (R q)) es)) s))
          later Greater s = rw s (ap (cond (is_eq (R q e.0)) (Some e.1)) (rest ∙ ap (λ r. cond (is_eq r) (Some v) (lookup (is_at (R q)) es)) s))
