-- What holds of both ends' counts of nonces, and what each frame tells of them, until a lock that had a key is reset.
use Rattle.std.proofs.Common.{◌≡◌, ℕ, ◌+◌, ◌%◌, ◌≤◌, Bool, true, false, cond, eqb, ltb, Option, Some, None, List, length, refl, ap, sym, subst, ◌∙◌, ⊎_elim, length-drop, arith}
use Rattle.std.specs.Prelude.{slice_index, ◌&&◌}
use Rattle.std.proofs.lemmas.Bool.{cases_eq, eq-eqb, ne_eqb, lt-ltb}
use Rattle.s0_session.specs.declared.account.Account.{Account}
use Rattle.s0_session.specs.Nonces.{nonce_given, answer_from, after_give, after_spend, live_after}
use Rattle.s0_session.specs.Sending.{seen_after}

-- ---- one way of nonces

-- a live nonce counts as the last one that was given; where none is live, all that were given were taken
abbrev pub Alive : ℕ → ℕ → Option (List ℕ) → Type 0
Alive given seen None = given ≤ seen
Alive given seen (Some nonce) = (1 ≤ given) × (slice_index nonce 0 ≡ given % 256) × (length nonce ≡ 8)

-- who takes nonces has taken all that were given, or all but the last
pub record Way (account : Account) (seen : ℕ) : Type 0 where
  pub within : seen ≤ account.given
  pub ahead : account.given ≤ seen + 1
  pub alive : Alive account.given seen account.live

give_by : (live : Option (List ℕ)) (given seen : ℕ) (drawn : List ℕ) → length drawn ≡ 8 → seen ≤ given → given ≤ seen + 1 → Alive given seen live
    → Way (after_give (let a : Account = record { given = given; live = live } in a) drawn) seen
give_by None given seen drawn eight within ahead alive = record { within = omega arith; ahead = omega arith; alive = (omega arith, refl, omega (arith, length-drop 1 drawn, eight)) }
give_by (Some nonce) given seen drawn eight within ahead alive = record { within = within; ahead = ahead; alive = alive }

pub way_give : (account : Account) (seen : ℕ) (drawn : List ℕ) → length drawn ≡ 8 → Way account seen → Way (after_give account drawn) seen
way_give account seen drawn eight w = give_by account.live account.given seen drawn eight w.within w.ahead w.alive

alive_some : (given seen : ℕ) (live : Option (List ℕ)) (nonce : List ℕ) → live ≡ Some nonce → Alive given seen live → (1 ≤ given) × (slice_index nonce 0 ≡ given % 256) × (length nonce ≡ 8)
alive_some given seen live nonce e a = subst (λ (o : Option (List ℕ)). Alive given seen o) e a

seen_same : (seen first : ℕ) → 1 ≤ seen → first ≡ seen % 256 → seen_after seen first ≡ Some seen
seen_same seen first some e = ap (λ (b : Bool). cond b (Some seen) (cond (eqb first ((seen + 1) % 256)) (Some (seen + 1)) None)) (both (ltb 0 seen) (eqb first (seen % 256)) (lt-ltb 0 seen some) (eq-eqb first (seen % 256) e))
  where
    both : (a b : Bool) → a ≡ true → b ≡ true → (a && b) ≡ true
    both true true p q = refl
    both true false p q = q
    both false b p q = p

seen_next : (seen first : ℕ) → first ≡ (seen + 1) % 256 → seen_after seen first ≡ Some (seen + 1)
seen_next seen first e =
    let differ : eqb first (seen % 256) ≡ false = ne_eqb first (seen % 256) (λ same. next_differs seen (sym e ∙ same)) in
    ap (λ (b : Bool). cond (ltb 0 seen && b) (Some seen) (cond (eqb first ((seen + 1) % 256)) (Some (seen + 1)) None)) differ
    ∙ (neither (ltb 0 seen) seen (cond (eqb first ((seen + 1) % 256)) (Some (seen + 1)) None)
    ∙ ap (λ (b : Bool). cond b (Some (seen + 1)) None) (eq-eqb first ((seen + 1) % 256) e))
  where
    next_differs : (n : ℕ) → (n + 1) % 256 ≡ n % 256 → ⊥
    next_differs n same = omega arith

    neither : (a : Bool) (n : ℕ) (x : Option ℕ) → cond (a && false) (Some n) x ≡ x
    neither true n x = refl
    neither false n x = refl

-- the live nonce is taken
pub way_taken : (account : Account) (seen : ℕ) (nonce : List ℕ) → Way account seen → account.live ≡ Some nonce → seen_after seen (slice_index nonce 0) ≡ Some account.given
way_taken account seen nonce w live =
    let a = alive_some account.given seen account.live nonce live w.alive in
    ⊎_elim
    (λ same. subst (λ (g : ℕ). seen_after seen (slice_index nonce 0) ≡ Some g) (sym same)
    (seen_same seen (slice_index nonce 0) (omega (arith, a.0, same)) (a.1 ∙ ap (λ (g : ℕ). g % 256) same)))
    (λ differ.
    let next : account.given ≡ seen + 1 = omega (arith, w.within, w.ahead, differ) in
    subst (λ (g : ℕ). seen_after seen (slice_index nonce 0) ≡ Some g) (sym next) (seen_next seen (slice_index nonce 0) (a.1 ∙ ap (λ (g : ℕ). g % 256) next)))
    (cases_eq account.given seen)

-- after that all that were given were taken
pub way_all : (account : Account) (seen : ℕ) (nonce : List ℕ) → Way account seen → account.live ≡ Some nonce → Way account account.given
way_all account seen nonce w live =
    record { within = omega arith; ahead = omega arith; alive = subst (λ (o : Option (List ℕ)). Alive account.given account.given o) (sym live) (alive_some account.given seen account.live nonce live w.alive) }

-- the live nonce is spent, once it was taken
pub way_spend : (account : Account) (seen : ℕ) (nonce : List ℕ) → Way account seen → account.live ≡ Some nonce → account.given ≤ seen → Way (after_spend account (slice_index nonce 0)) seen
way_spend account seen nonce w live all =
    let gone : live_after account.live (slice_index nonce 0) ≡ None
    = ap (λ (o : Option (List ℕ)). live_after o (slice_index nonce 0)) live ∙ ap (λ (b : Bool). cond b None (Some nonce)) (eq-eqb (slice_index nonce 0) (slice_index nonce 0) refl) in
    record { within = w.within; ahead = w.ahead; alive = subst (λ (o : Option (List ℕ)). Alive account.given seen o) (sym gone) all }

-- what is given has eight bytes
pub given_eight : (account : Account) (seen : ℕ) (drawn : List ℕ) → length drawn ≡ 8 → Way account seen → length (nonce_given account drawn) ≡ 8
given_eight account seen drawn eight w = by account.live w.alive
  where
    by : (live : Option (List ℕ)) → Alive account.given seen live → length (answer_from live account.given drawn) ≡ 8
    by None a = omega (arith, length-drop 1 drawn, eight)
    by (Some nonce) a = a.2
