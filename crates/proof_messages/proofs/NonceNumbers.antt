-- Nonces by their numbers, at who gives them and at who seals for them.
use Rattle.std.proofs.Common.{◌≡◌, ℕ, zero, suc, ◌+◌, ◌-◌, ◌==◌, Bool, true, false, not, if◌then◌else◌, Option, Some, None, List, [], ◌∷◌, ◌++◌, length, drop, refl, ap, sym, ◌∙◌, subst, arith, length-append, length-drop}
use Rattle.std.specs.Prelude.{◌%◌, ◌&&◌, slice_index, is_some}
use Rattle.std.specs.Option.{ForSome}
use Rattle.std.proofs.lemmas.List.{append-nil}
use Rattle.std.proofs.lemmas.Option.{none-some as none_is, same_Some as some_same}
use Rattle.proof_course.specs.Parts.{numbered}
use Rattle.proof_course.specs.NodeNonces as node
use Rattle.proof_course.specs.NodeNonces.{taken_as}
use Rattle.proof_course.specs.HostNonces as host
use Rattle.s0_session.specs.declared.account.Account.{Account}
use Rattle.s0_session.specs.Nonces.{new_nonce, nonce_given, after_give, nonce_spent, after_spend, unused}
use Rattle.s0_session.specs.Sending.{seen_after, taken_from}
use Rattle.proof_messages.specs.Numbers.{IsNonce, HasGiven, with_given}
use Rattle.host_model.proofs.Taken.{same_either as same_sides}

-- ---- lists

pub numbered-more : {A : Type 0} (items more : List A) (n : ℕ) (item : A) → numbered items n ≡ item ∷ [] → numbered (items ++ more) n ≡ item ∷ []
numbered-more items more zero item e = absurd (grind (arith, e))
numbered-more [] more (suc n) item e = absurd (grind (arith, e))
numbered-more (x ∷ items) more (suc zero) item e = e
numbered-more (x ∷ items) more (suc (suc n)) item e = numbered-more items more (suc n) item e

numbered-last : {A : Type 0} (items : List A) (item : A) → numbered (items ++ item ∷ []) (suc (length items)) ≡ item ∷ []
numbered-last [] item = refl
numbered-last (x ∷ items) item = numbered-last items item

same_item : {A : Type 0} (a b : A) → (a ∷ []) ≡ (b ∷ []) → a ≡ b
same_item a b e = cc

-- a number names one nonce, and goes on naming it
pub one_nonce : (nonces : List (List ℕ)) (number : ℕ) (a b : List ℕ) → IsNonce nonces number a → IsNonce nonces number b → a ≡ b
one_nonce nonces number a b x y = same_item a b (sym x.given ∙ y.given)

pub nonce_stays : (nonces more : List (List ℕ)) (number : ℕ) (nonce : List ℕ) → IsNonce nonces number nonce → IsNonce (nonces ++ more) number nonce
nonce_stays nonces more number nonce is = record { given = numbered-more nonces more number nonce is.given; eight = is.eight; first = is.first }

-- ---- who gives

for_none : (P : List ℕ → Type 0) → ForSome None P
for_none P x e = absurd (none_is x e)

for_some : (P : List ℕ → Type 0) (own : List ℕ) → P own → ForSome (Some own) P
for_some P own is x e = subst P (some_same own x e) is

new_is : (nonces : List (List ℕ)) (given : ℕ) (drawn : List ℕ) → length nonces ≡ given → length drawn ≡ 8 → IsNonce (nonces ++ new_nonce given drawn ∷ []) (given + 1) (new_nonce given drawn)
new_is nonces given drawn all eight =
    let rest : length (drop 1 drawn) ≡ length drawn - 1 = length-drop 1 drawn in
    let at : suc (length nonces) ≡ given + 1 = omega (arith, all) in
    record {
      given = subst (λ (n : ℕ). numbered (nonces ++ new_nonce given drawn ∷ []) n ≡ new_nonce given drawn ∷ []) at (numbered-last nonces (new_nonce given drawn));
      eight = omega (arith, rest, eight);
      first = refl;
    }

-- the numbers after a nonce was given
abbrev given_after : ℕ → Bool → ℕ
given_after given true = given
given_after given false = given + 1

account_gives : (nonces : List (List ℕ)) (given : ℕ) (live : Bool) (account : Account) (drawn : List ℕ) → length drawn ≡ 8 → HasGiven nonces given live account
    → HasGiven (with_given nonces account drawn) (given_after given live) true (after_give account drawn)
account_gives nonces given live account drawn eight has = by account.live refl
  where
    by : (was : Option (List ℕ)) → account.live ≡ was → HasGiven (with_given nonces account drawn) (given_after given live) true (after_give account drawn)
    by (Some nonce) e =
        let is_live : live ≡ true = sym has.lives ∙ ap is_some e in
        let last : IsNonce nonces given nonce = has.last nonce e in
        rw (e, is_live) (record {
          count = has.count;
          all = ap length (append-nil nonces) ∙ has.all;
          lives = refl;
          last = for_some (IsNonce (nonces ++ []) given) nonce (subst (λ (l : List (List ℕ)). IsNonce l given nonce) (sym (append-nil nonces)) last);
        })
    by None e =
        let is_dead : live ≡ false = sym has.lives ∙ ap is_some e in
        let count : account.given ≡ given = has.count in
        let more = length-append nonces (new_nonce account.given drawn ∷ []) in
        rw (e, is_dead) (record {
          count = ap (λ (n : ℕ). n + 1) count;
          all = omega (arith, more, has.all);
          lives = refl;
          last = for_some (IsNonce (nonces ++ new_nonce account.given drawn ∷ []) (given + 1)) (new_nonce account.given drawn)
              (subst (λ (n : ℕ). IsNonce (nonces ++ new_nonce account.given drawn ∷ []) (n + 1) (new_nonce account.given drawn)) count (new_is nonces account.given drawn (has.all ∙ sym count) eight));
        })

pub first_given : HasGiven [] 0 false unused
first_given = record { count = refl; all = refl; lives = refl; last = for_none (IsNonce [] 0) }

pub node_gives : (nonces : List (List ℕ)) (c : node.Nonces) (account : Account) (drawn : List ℕ) → length drawn ≡ 8 → HasGiven nonces c.given c.is_live account
    → HasGiven (with_given nonces account drawn) (node.gives c c.is_live).given (node.gives c c.is_live).is_live (after_give account drawn)
node_gives nonces c account drawn eight has = by c.is_live refl
  where
    by : (live : Bool) → c.is_live ≡ live → HasGiven (with_given nonces account drawn) (node.gives c live).given (node.gives c live).is_live (after_give account drawn)
    by true e = subst (λ (b : Bool). HasGiven (with_given nonces account drawn) c.given b (after_give account drawn)) (sym e)
        (account_gives nonces c.given true account drawn eight (subst (λ (b : Bool). HasGiven nonces c.given b account) e has))
    by false e = account_gives nonces c.given false account drawn eight (subst (λ (b : Bool). HasGiven nonces c.given b account) e has)

pub host_gives : (nonces : List (List ℕ)) (c : host.Nonces) (account : Account) (drawn : List ℕ) → length drawn ≡ 8 → HasGiven nonces c.given c.is_live account
    → HasGiven (with_given nonces account drawn) (host.gives c c.is_live).given (host.gives c c.is_live).is_live (after_give account drawn)
host_gives nonces c account drawn eight has = by c.is_live refl
  where
    by : (live : Bool) → c.is_live ≡ live → HasGiven (with_given nonces account drawn) (host.gives c live).given (host.gives c live).is_live (after_give account drawn)
    by true e = subst (λ (b : Bool). HasGiven (with_given nonces account drawn) c.given b (after_give account drawn)) (sym e)
        (account_gives nonces c.given true account drawn eight (subst (λ (b : Bool). HasGiven nonces c.given b account) e has))
    by false e = account_gives nonces c.given false account drawn eight (subst (λ (b : Bool). HasGiven nonces c.given b account) e has)

pub offered_is : (nonces : List (List ℕ)) (given : ℕ) (live : Bool) (account : Account) (drawn : List ℕ) → HasGiven nonces given live (after_give account drawn) → IsNonce nonces given (nonce_given account drawn)
offered_is nonces given live account drawn has = has.last (nonce_given account drawn) refl

-- ---- whose nonce a message names

abbrev names : Bool → ℕ → ℕ → Bool
names live number given = live && (number % 256 == given % 256)

-- what is left of a live nonce, and what is found of it, by whether the first byte is the same
account_spends : (nonces : List (List ℕ)) (given number : ℕ) (live : Bool) (account : Account) (nonce : List ℕ) → HasGiven nonces given live account → IsNonce nonces number nonce
    → HasGiven nonces given (live && not (names live number given)) (after_spend account (slice_index nonce 0))
account_spends nonces given number live account nonce has is = by account.live refl
  where
    left : (own : List ℕ) → IsNonce nonces given own → (b : Bool) → (is_some (if b then None else Some own) ≡ not b) × ForSome (if b then None else Some own) (IsNonce nonces given)
    left own last true = (refl, for_none (IsNonce nonces given))
    left own last false = (refl, for_some (IsNonce nonces given) own last)

    by : (was : Option (List ℕ)) → account.live ≡ was → HasGiven nonces given (live && not (names live number given)) (after_spend account (slice_index nonce 0))
    by None e =
        let is_dead : live ≡ false = sym has.lives ∙ ap is_some e in
        rw (e, is_dead) (record { count = has.count; all = has.all; lives = refl; last = for_none (IsNonce nonces given) })
    by (Some own) e =
        let is_live : live ≡ true = sym has.lives ∙ ap is_some e in
        let last : IsNonce nonces given own = has.last own e in
        let kept = left own last (given % 256 == number % 256) in
        rw (e, is_live, is.first, last.first, same_sides (number % 256) (given % 256)) (record { count = has.count; all = has.all; lives = kept.0; last = kept.1 })

pub node_spends : (nonces : List (List ℕ)) (c : node.Nonces) (number : ℕ) (account : Account) (nonce : List ℕ) → HasGiven nonces c.given c.is_live account → IsNonce nonces number nonce
    → HasGiven nonces (node.hears c (node.Sealed number)).given (node.hears c (node.Sealed number)).is_live (after_spend account (slice_index nonce 0))
node_spends nonces c number account nonce has is = account_spends nonces c.given number c.is_live account nonce has is

pub host_spends : (nonces : List (List ℕ)) (c : host.Nonces) (number : ℕ) (account : Account) (nonce : List ℕ) → HasGiven nonces c.given c.is_live account → IsNonce nonces number nonce
    → HasGiven nonces c.given (c.is_live && not (host.names c number)) (after_spend account (slice_index nonce 0))
host_spends nonces c number account nonce has is = account_spends nonces c.given number c.is_live account nonce has is

-- the nonce that is found
pub found_live : (nonces : List (List ℕ)) (given number : ℕ) (live : Bool) (account : Account) (nonce : List ℕ) → HasGiven nonces given live account → IsNonce nonces number nonce
    → (names live number given ≡ true → number ≡ given) → names live number given ≡ true → account.live ≡ Some nonce
found_live nonces given number live account nonce has is itself named = by account.live refl
  where
    by : (was : Option (List ℕ)) → account.live ≡ was → account.live ≡ Some nonce
    by None e = absurd (grind (arith, let is_dead : live ≡ false = sym has.lives ∙ ap is_some e in is_dead, named))
    by (Some own) e =
        let last : IsNonce nonces given own = has.last own e in
        e ∙ ap Some (one_nonce nonces given own nonce last (subst (λ (n : ℕ). IsNonce nonces n nonce) (itself named) is))

pub none_named : (nonces : List (List ℕ)) (given number : ℕ) (live : Bool) (account : Account) (nonce : List ℕ) → HasGiven nonces given live account → IsNonce nonces number nonce
    → names live number given ≡ false → nonce_spent account (slice_index nonce 0) ≡ None
none_named nonces given number live account nonce has is other = by account.live refl
  where
    by : (was : Option (List ℕ)) → account.live ≡ was → nonce_spent account (slice_index nonce 0) ≡ None
    by None e = rw e refl
    by (Some own) e =
        let is_live : live ≡ true = sym has.lives ∙ ap is_some e in
        let last : IsNonce nonces given own = has.last own e in
        let differ : (number % 256 == given % 256) ≡ false = subst (λ (b : Bool). names b number given ≡ false) is_live other in
        rw (e, is.first, last.first, same_sides (given % 256) (number % 256), differ) refl

-- ---- what a nonce is taken for

pub nonce_taken : (nonces : List (List ℕ)) (number count : ℕ) (pending : Option (List ℕ)) (nonce : List ℕ) → IsNonce nonces number nonce
    → taken_from pending count (slice_index nonce 0) ≡ taken_as (is_some pending) count number
nonce_taken nonces number count None nonce is = refl
nonce_taken nonces number count (Some plain) nonce is = ap (λ (f : ℕ). seen_after count f) is.first
