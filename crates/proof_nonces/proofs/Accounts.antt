-- What each event of a host, and a restart, makes of the nonces that it gave.
use Rattle.std.proofs.Common.{◌≡◌, ◌⊎◌, ℕ, zero, suc, ◌+◌, ◌-◌, ◌%◌, ◌≤◌, ◌<◌, ◌==◌, ◌&&◌, Bool, true, false, if◌then◌else◌, inl, inr, List, [], ◌∷◌, Option, Some, None, length, replicate, get_or, refl, sym, ap, ◌∙◌, subst, arith}
use Rattle.std.specs.Prelude.{drop, slice_set}
use Rattle.std.proofs.lemmas.Bool.{cases_eq, cases_lt, eqb-true, eq-eqb}
use Rattle.std.proofs.lemmas.List.{get_or-set_same, get_or-set_other, set_past}
use Rattle.s0_session.specs.declared.account.Account.{Account}
use Rattle.s0_session.specs.Nonces.{account_of, after_give, given_from, given_of, live_of, nonce_given, unused}
use Rattle.zw_text.specs.declared.entry.Entry.{Entry}
use Rattle.host_keep.specs.Kept.{Kept, kept_of, node_of as kept_of_node}
use Rattle.host_keep.specs.Legal.{Give}
use Rattle.host_requests.specs.declared.task.Task.TheVariants.{Offer}
use Rattle.host_requests.specs.Events.RequestsEvent.{Pushes}
use Rattle.host_model.specs.State.{HostState}
use Rattle.host_model.specs.After.{after, giving, is_full, offering, requests_do}
use Rattle.host_model.specs.Events.{HostEvent, Gives, Gives_text, Spends, Spends_unread, Starts, Takes_nonce}
use Rattle.host_model.specs.May.{May}
use Rattle.proof_notes.proofs.SealedTexts.{TextsLeft}
use Rattle.proof_notes.specs.proof_known.proof_alone.Tables.{TieTables}
use Rattle.proof_nonces.specs.Counted.{IsLast, LiveSo, spent_by, spent_of}

-- ---- each account

-- one that is set, or stays
abbrev pub SetTo : ℕ → ℕ → Account → List Account → List Account → Type 0
SetTo k n account old new = ((k ≡ n) × (account_of new k ≡ account)) ⊎ (account_of new k ≡ account_of old k)

pub set_goes : (nonces : List Account) (n : ℕ) (account : Account) (k : ℕ) → SetTo k n account nonces (slice_set nonces n account)
set_goes nonces n account k = elim (cases_eq k n) [
  | inl is ↦ elim (cases_lt n (length nonces)) [
    | inl within ↦ inl (is, subst (λ (j : ℕ). account_of (slice_set nonces n account) j ≡ account) (sym is) (get_or-set_same nonces n account unused within))
    | inr past ↦ inr (ap (λ (l : List Account). account_of l k) (set_past nonces n account past))
  ]
  | inr other ↦ inr (get_or-set_other nonces n k account unused other)
]

abbrev pub Goes : ℕ → HostEvent → (old new : List Account) → Type 0
Goes k (Gives n drawn) old new = SetTo k n (after_give (account_of old n) drawn) old new
Goes k (Spends n) old new = SetTo k n (record (account_of old n) { live = None }) old new
Goes k (Spends_unread n payload) old new = SetTo k n (record (account_of old n) { live = None }) old new
Goes k event old new = account_of new k ≡ account_of old k

pub offered_nonces : (h : HostState) (n : ℕ) (live : Option (List ℕ)) → (offering h n live).nonces ≡ h.nonces
offered_nonces h n None = refl
offered_nonces h n (Some nonce) = by (is_full h)
  where
    by : (b : Bool) → (if b then h else requests_do h (Pushes (Offer n nonce))).nonces ≡ h.nonces
    by true = refl
    by false = refl

pub account_goes : TextsLeft → (h : HostState) (event : HostEvent) (k : ℕ) → Goes k event h.nonces (after h event).nonces
account_goes left h (Gives n drawn) k =
    subst (λ (l : List Account). SetTo k n (after_give (account_of h.nonces n) drawn) h.nonces l) (sym (offered_nonces (giving h n drawn) n (live_of (giving h n drawn).nonces n)))
    (set_goes h.nonces n (after_give (account_of h.nonces n) drawn) k)
account_goes left h (Spends n) k = set_goes h.nonces n (record (account_of h.nonces n) { live = None }) k
account_goes left h (Spends_unread n payload) k = set_goes h.nonces n (record (account_of h.nonces n) { live = None }) k
account_goes left h (Takes_nonce n seen text) k = refl
account_goes left h (Starts n plan more payload) k = refl
account_goes left h (Gives_text n payload) k = refl
account_goes left h event k = (left.aside k h event tt).account

-- ---- no fewer are given, and no fewer spent

pub record Grown (old new : List Account) (k : ℕ) : Type 0 where
  pub given : given_of old k ≤ given_of new k
  pub spent : spent_of old k ≤ spent_of new k

no_less : (a b : ℕ) → a ≡ b → b ≤ a
no_less a b is = omega (arith, is)

pub same_grown : (old new : List Account) (k : ℕ) → account_of new k ≡ account_of old k → Grown old new k
same_grown old new k is = record {
  given = no_less (given_of new k) (given_of old k) (ap (λ (a : Account). a.given) is);
  spent = no_less (spent_of new k) (spent_of old k) (ap (λ (a : Account). spent_by a.live a.given) is);
}

pub given_next : (live : Option (List ℕ)) (given : ℕ) → live ≡ None → given_from live given ≡ given + 1
given_next live given none = ap (λ (l : Option (List ℕ)). given_from l given) none

pub gave_grown : (old new : List Account) (k n : ℕ) (drawn : List ℕ) → live_of old n ≡ None → (k ≡ n) × (account_of new k ≡ after_give (account_of old n) drawn) → Grown old new k
gave_grown old new k n drawn none (at, is) =
    let a : Account = account_of old n in
    let here : account_of old k ≡ a = ap (λ (j : ℕ). account_of old j) at in
    let more : given_of new k ≡ a.given + 1 = ap (λ (b : Account). b.given) is ∙ given_next a.live a.given none in
    let was : given_of old k ≡ a.given = ap (λ (b : Account). b.given) here in
    let then_spent : spent_of old k ≡ a.given = ap (λ (b : Account). spent_by b.live b.given) here ∙ ap (λ (l : Option (List ℕ)). spent_by l a.given) none in
    let now_spent : spent_of new k ≡ given_from a.live a.given - 1 = ap (λ (b : Account). spent_by b.live b.given) is in
    let next : given_from a.live a.given ≡ a.given + 1 = given_next a.live a.given none in
    record { given = omega (arith, more, was); spent = omega (arith, then_spent, now_spent, next) }

spent_most : (live : Option (List ℕ)) (given : ℕ) → spent_by live given ≤ given
spent_most None given = omega arith
spent_most (Some nonce) given = omega arith

pub spent_given : (nonces : List Account) (k : ℕ) → spent_of nonces k ≤ given_of nonces k
spent_given nonces k = spent_most (account_of nonces k).live (account_of nonces k).given

pub spends_grown : (old new : List Account) (k n : ℕ) → (k ≡ n) × (account_of new k ≡ record (account_of old n) { live = None }) → Grown old new k
spends_grown old new k n (at, is) =
    let a : Account = account_of old n in
    let here : account_of old k ≡ a = ap (λ (j : ℕ). account_of old j) at in
    let now : given_of new k ≡ a.given = ap (λ (b : Account). b.given) is in
    let was : given_of old k ≡ a.given = ap (λ (b : Account). b.given) here in
    let spent_now : spent_of new k ≡ a.given = ap (λ (b : Account). spent_by b.live b.given) is in
    let most = spent_given old k in
    record { given = omega (arith, now, was); spent = omega (arith, spent_now, was, most) }

pub event_grown : TextsLeft → (h : HostState) (event : HostEvent) → May h event → (k : ℕ) → Grown h.nonces (after h event).nonces k
event_grown left h event may k = by event may (account_goes left h event k)
  where
    by : (event : HostEvent) → May h event → Goes k event h.nonces (after h event).nonces → Grown h.nonces (after h event).nonces k
    by (Gives n drawn) may (inl gave) = gave_grown h.nonces _ k n drawn may.0 gave
    by (Gives n drawn) may (inr is) = same_grown h.nonces _ k is
    by (Spends n) may (inl spent) = spends_grown h.nonces _ k n spent
    by (Spends n) may (inr is) = same_grown h.nonces _ k is
    by (Spends_unread n payload) may (inl spent) = spends_grown h.nonces _ k n spent
    by (Spends_unread n payload) may (inr is) = same_grown h.nonces _ k is
    by event may is = same_grown h.nonces _ k is

-- ---- which bytes

-- these were drawn for this number of a node
abbrev with_drawn : ℕ → ℕ → List ℕ → (ℕ → ℕ → List ℕ) → ℕ → ℕ → List ℕ
with_drawn n number bytes drawn node k = if (node == n) && (k == number) then bytes else drawn node k

drawn_here : (n number : ℕ) (bytes : List ℕ) (drawn : ℕ → ℕ → List ℕ) (node k : ℕ) → node ≡ n → k ≡ number → with_drawn n number bytes drawn node k ≡ bytes
drawn_here n number bytes drawn node k at is =
    ap (λ (b : Bool). if b && (k == number) then bytes else drawn node k) (eq-eqb node n at) ∙ ap (λ (b : Bool). if b then bytes else drawn node k) (eq-eqb k number is)

drawn_below : (n number : ℕ) (bytes : List ℕ) (drawn : ℕ → ℕ → List ℕ) (node k : ℕ) → (node ≡ n → k < number) → with_drawn n number bytes drawn node k ≡ drawn node k
drawn_below n number bytes drawn node k below = by (node == n) (k == number) refl refl
  where
    by : (a b : Bool) → (node == n) ≡ a → (k == number) ≡ b → (if a && b then bytes else drawn node k) ≡ drawn node k
    by true true at is = let less = below (eqb-true node n at) in let same = eqb-true k number is in absurd (omega (arith, less, same))
    by true false at is = refl
    by false b at is = refl

drawn_seven : (n number : ℕ) (bytes : List ℕ) (drawn : ℕ → ℕ → List ℕ) → length bytes ≡ 7 → ((node k : ℕ) → length (drawn node k) ≡ 7) → (node k : ℕ) → length (with_drawn n number bytes drawn node k) ≡ 7
drawn_seven n number bytes drawn seven all node k = by ((node == n) && (k == number))
  where
    by : (b : Bool) → length (if b then bytes else drawn node k) ≡ 7
    by true = seven
    by false = all node k

seven_left : (bytes : List ℕ) → length bytes ≡ 8 → length (drop 1 bytes) ≡ 7
seven_left [] is = absurd (omega (arith, is))
seven_left (x ∷ bytes) is = let one : length (x ∷ bytes) ≡ suc (length bytes) = refl in omega (arith, is, one)

-- what is drawn by then, the same for all numbers so far
pub record Redrawn (drawn : ℕ → ℕ → List ℕ) (old new : List Account) : Type 0 where
  pub next : ℕ → ℕ → List ℕ
  pub seven : (node number : ℕ) → length (next node number) ≡ 7
  pub live : LiveSo next new
  pub agrees : (node number : ℕ) → number ≤ given_of old node → next node number ≡ drawn node number

none_some : (x : List ℕ) → ◌≡◌ {A = Option (List ℕ)} None (Some x) → ⊥
none_some x e = cc

same_some : (x y : List ℕ) → Some x ≡ Some y → x ≡ y
same_some x y e = cc

last_so : (drawn : ℕ → ℕ → List ℕ) (node : ℕ) (nonce : List ℕ) (given now : ℕ) → now ≡ given → IsLast drawn node nonce given → IsLast drawn node nonce now
last_so drawn node nonce given now is last = subst (λ (g : ℕ). IsLast drawn node nonce g) (sym is) last

-- the last one of a node whose account stays, by what is drawn then
stays_last : (drawn next : ℕ → ℕ → List ℕ) (old new : List Account) (node : ℕ) (nonce : List ℕ) → ((number : ℕ) → number ≤ given_of old node → next node number ≡ drawn node number) → LiveSo drawn old
    → account_of new node ≡ account_of old node → live_of new node ≡ Some nonce → IsLast next node nonce (given_of new node)
stays_last drawn next old new node nonce agrees live is at =
    let was = live node nonce (sym (ap (λ (a : Account). a.live) is) ∙ at) in
    last_so next node nonce (given_of old node) (given_of new node) (ap (λ (a : Account). a.given) is)
    (record { is = was.is ∙ ap (λ (b : List ℕ). given_of old node % 256 ∷ b) (sym (agrees (given_of old node) (omega arith))); some = was.some })

pub same_drawn : (drawn : ℕ → ℕ → List ℕ) (old new : List Account) → ((node number : ℕ) → length (drawn node number) ≡ 7) → LiveSo drawn new → Redrawn drawn old new
same_drawn drawn old new seven live = record { next = drawn; seven = seven; live = live; agrees = λ node number low. refl }

pub spent_live : (drawn : ℕ → ℕ → List ℕ) (old new : List Account) (n : ℕ) → LiveSo drawn old → ((k : ℕ) → SetTo k n (record (account_of old n) { live = None }) old new) → LiveSo drawn new
spent_live drawn old new n live goes node nonce at = by (goes node)
  where
    by : SetTo node n (record (account_of old n) { live = None }) old new → IsLast drawn node nonce (given_of new node)
    by (inl (same, is)) = absurd (none_some nonce (sym (ap (λ (a : Account). a.live) is) ∙ at))
    by (inr is) = stays_last drawn drawn old new node nonce (λ number low. refl) live is at

pub gives_drawn : (drawn : ℕ → ℕ → List ℕ) (old new : List Account) (n : ℕ) (bytes : List ℕ) → ((node number : ℕ) → length (drawn node number) ≡ 7) → LiveSo drawn old → live_of old n ≡ None → length bytes ≡ 8
    → ((k : ℕ) → SetTo k n (after_give (account_of old n) bytes) old new) → Redrawn drawn old new
gives_drawn drawn old new n bytes seven live none eight goes = record {
  next = next;
  seven = drawn_seven n (given_of old n + 1) (drop 1 bytes) drawn (seven_left bytes eight) seven;
  live = λ node nonce at. by node nonce at (goes node);
  agrees = agrees;
}
  where
    next : ℕ → ℕ → List ℕ
    next = with_drawn n (given_of old n + 1) (drop 1 bytes) drawn

    agrees : (node number : ℕ) → number ≤ given_of old node → next node number ≡ drawn node number
    agrees node number low =
        drawn_below n (given_of old n + 1) (drop 1 bytes) drawn node number (λ at. let same : given_of old node ≡ given_of old n = ap (λ (j : ℕ). given_of old j) at in omega (arith, low, same))

    by : (node : ℕ) (nonce : List ℕ) → live_of new node ≡ Some nonce → SetTo node n (after_give (account_of old n) bytes) old new → IsLast next node nonce (given_of new node)
    by node nonce at (inr is) = stays_last drawn next old new node nonce (agrees node) live is at
    by node nonce at (inl (same, is)) =
        let a : Account = account_of old n in
        let given : given_of new node ≡ a.given + 1 = ap (λ (b : Account). b.given) is ∙ given_next a.live a.given none in
        let made : nonce_given a bytes ≡ (a.given + 1) % 256 ∷ drop 1 bytes = ap (λ (l : Option (List ℕ)). nonce_given (record { given = a.given; live = l }) bytes) none in
        let text : nonce ≡ nonce_given a bytes = sym (same_some (nonce_given a bytes) nonce (sym (ap (λ (b : Account). b.live) is) ∙ at)) in
        last_so next node nonce (a.given + 1) (given_of new node) given
        (record {
          is = text ∙ made ∙ ap (λ (b : List ℕ). (a.given + 1) % 256 ∷ b) (sym (drawn_here n (a.given + 1) (drop 1 bytes) drawn node (a.given + 1) same refl));
          some = omega arith;
        })

pub event_drawn : TextsLeft → (h : HostState) (event : HostEvent) → May h event → (drawn : ℕ → ℕ → List ℕ) → ((node number : ℕ) → length (drawn node number) ≡ 7) → LiveSo drawn h.nonces
    → Redrawn drawn h.nonces (after h event).nonces
event_drawn left h event may drawn seven live = by event may (account_goes left h event)
  where
    stays : (event : HostEvent) → ((k : ℕ) → account_of (after h event).nonces k ≡ account_of h.nonces k) → Redrawn drawn h.nonces (after h event).nonces
    stays event is = same_drawn drawn h.nonces _ seven (λ node nonce at. stays_last drawn drawn h.nonces _ node nonce (λ number low. refl) live (is node) at)

    by : (event : HostEvent) → May h event → ((k : ℕ) → Goes k event h.nonces (after h event).nonces) → Redrawn drawn h.nonces (after h event).nonces
    by (Gives n bytes) may goes = gives_drawn drawn h.nonces _ n bytes seven live may.0 may.1 goes
    by (Spends n) may goes = same_drawn drawn h.nonces _ seven (spent_live drawn h.nonces _ n live goes)
    by (Spends_unread n payload) may goes = same_drawn drawn h.nonces _ seven (spent_live drawn h.nonces _ n live goes)
    by event may goes = stays event goes

-- ---- a host that starts again

abbrev pub OneGiven : Type 0
OneGiven = (texts : List (List ℕ)) (kept other : Kept) → Give texts kept → Give texts other → kept ≡ other

pub record SameAccount (old new : List Account) (k : ℕ) : Type 0 where
  pub given : given_of new k ≡ given_of old k
  pub live : live_of new k ≡ live_of old k

pub restart_same : OneGiven → (past more : List Entry) (old new : HostState) (records : Option (List (List ℕ))) → TieTables past old records → TieTables more new records → (k : ℕ) → SameAccount old.nonces new.nonces k
restart_same one past more old new None was now k = absurd (let bad : false ≡ true = was.told in cc)
restart_same one past more old new (Some texts) was now k =
    let first : Give texts (kept_of was.held.records) = record { records = was.held.records; are = was.held.are; legal = was.held.legal; gives = refl } in
    let later : Give texts (kept_of now.held.records) = record { records = now.held.records; are = now.held.are; legal = now.held.legal; gives = refl } in
    let same : kept_of now.held.records ≡ kept_of was.held.records = one texts (kept_of now.held.records) (kept_of was.held.records) later first in
    record {
      given = (now.held.holds.nodes k).given ∙ ap (λ (kept : Kept). (kept_of_node kept k).given) same ∙ sym (was.held.holds.nodes k).given;
      live = (now.held.holds.nodes k).live ∙ ap (λ (kept : Kept). (kept_of_node kept k).live) same ∙ sym (was.held.holds.nodes k).live;
    }

-- ---- at first

pub unused_all : (count k : ℕ) → get_or (replicate count unused) k unused ≡ unused
unused_all zero k = refl
unused_all (suc count) zero = refl
unused_all (suc count) (suc k) = unused_all count k
