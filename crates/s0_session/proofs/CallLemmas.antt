-- What each call does to the count, the live nonce and the nonces spent of a node, and what any calls do.
use Rattle.std.proofs.Common.{◌≡◌, ◌≢◌, ℕ, ◌+◌, ◌<◌, ◌≤◌, ◌==◌, ◌⊎◌, inl, inr, Bool, true, false, if◌then◌else◌, Option, Some, None, List, [], ◌∷◌, length, set, get_or, refl, sym, subst, arith, length-set, get_or-set_same, get_or-set_other}
use Rattle.std.specs.Option.{is_some, is_none}
use Rattle.std.proofs.lemmas.Bool.Decides.{eqb_tells}
use Rattle.s0_session.specs.declared.account.Account.{Account}
use Rattle.s0_session.specs.Nonces.{unused, account_of, live_of, given_of, after_give, after_spend, nonce_spent, restored_account, answer_from, given_from, with_first, live_after}
use Rattle.s0_session.specs.Calls.{Call, Give, Spend, Restore, after_call, after_calls, new_in, spent_in, lost_in, restored_in, news, spends, losses, restores, live_count}

-- 1 where there is a nonce
abbrev count : Option (List ℕ) → ℕ
count live = if is_some live then 1 else 0

-- 1 where there is none
abbrev none_count : Option (List ℕ) → ℕ
none_count live = if is_none live then 1 else 0

give_live : (live : Option (List ℕ)) (given : ℕ) (drawn : List ℕ) → 0 + count (Some (answer_from live given drawn)) ≡ count live + none_count live
give_live (Some nonce) given drawn = refl
give_live None given drawn = refl

give_given : (live : Option (List ℕ)) (given : ℕ) → given_from live given ≡ given + none_count live
give_given (Some nonce) given = omega arith
give_given None given = refl

spend_by : (nonce : List ℕ) (b : Bool) → count (if b then Some nonce else None) + count (if b then None else Some nonce) ≡ 1 + 0
spend_by nonce true = refl
spend_by nonce false = refl

spend_live : (live : Option (List ℕ)) (first : ℕ) → count (with_first live first) + count (live_after live first) ≡ count live + 0
spend_live (Some nonce) first = spend_by nonce (get_or nonce 0 0 == first)
spend_live None first = refl

-- one call of `give`
give_one : (node peer : ℕ) (book : List Account) (drawn : List ℕ) → node < length book
    → (((peer == node) ≡ true) × (peer ≡ node)) ⊎ (((peer == node) ≡ false) × (peer ≢ node))
    → 0 + live_count node (after_call book (Give peer drawn)) ≡ live_count node book + new_in node book (Give peer drawn)
give_one node peer book drawn below (inl (tested, same)) =
    let P : ℕ → Type 0 = λ p. 0 + count (live_of (set book p (after_give (account_of book p) drawn)) node) ≡ count (live_of book node) + none_count (live_of book p) in
    let at : P node = subst (λ (a : Account). 0 + count a.live ≡ count (live_of book node) + none_count (live_of book node))
    (sym (get_or-set_same book node (after_give (account_of book node) drawn) unused below)) (give_live (live_of book node) (given_of book node) drawn) in
    rw tested (subst P (sym same) at)
give_one node peer book drawn below (inr (tested, other)) =
    let apart : node ≢ peer = λ e. other (sym e) in
    rw tested (subst (λ (a : Account). 0 + count a.live ≡ count (live_of book node) + 0) (sym (get_or-set_other book peer node (after_give (account_of book peer) drawn) unused apart)) (omega arith))

given_one : (node peer : ℕ) (book : List Account) (drawn : List ℕ) → node < length book
    → (((peer == node) ≡ true) × (peer ≡ node)) ⊎ (((peer == node) ≡ false) × (peer ≢ node))
    → given_of (after_call book (Give peer drawn)) node ≡ given_of book node + new_in node book (Give peer drawn)
given_one node peer book drawn below (inl (tested, same)) =
    let P : ℕ → Type 0 = λ p. given_of (set book p (after_give (account_of book p) drawn)) node ≡ given_of book node + none_count (live_of book p) in
    let at : P node = subst (λ (a : Account). a.given ≡ given_of book node + none_count (live_of book node))
    (sym (get_or-set_same book node (after_give (account_of book node) drawn) unused below)) (give_given (live_of book node) (given_of book node)) in
    rw tested (subst P (sym same) at)
given_one node peer book drawn below (inr (tested, other)) =
    let apart : node ≢ peer = λ e. other (sym e) in
    rw tested (subst (λ (a : Account). a.given ≡ given_of book node + 0) (sym (get_or-set_other book peer node (after_give (account_of book peer) drawn) unused apart)) (omega arith))

-- one call of `spend`
spend_one : (node peer first : ℕ) (book : List Account) → node < length book
    → (((peer == node) ≡ true) × (peer ≡ node)) ⊎ (((peer == node) ≡ false) × (peer ≢ node))
    → spent_in node book (Spend peer first) + live_count node (after_call book (Spend peer first)) ≡ live_count node book + 0
spend_one node peer first book below (inl (tested, same)) =
    let P : ℕ → Type 0 = λ p. count (nonce_spent (account_of book p) first) + count (live_of (set book p (after_spend (account_of book p) first)) node) ≡ count (live_of book node) + 0 in
    let at : P node = subst (λ (a : Account). count (nonce_spent (account_of book node) first) + count a.live ≡ count (live_of book node) + 0)
    (sym (get_or-set_same book node (after_spend (account_of book node) first) unused below)) (spend_live (live_of book node) first) in
    rw tested (subst P (sym same) at)
spend_one node peer first book below (inr (tested, other)) =
    let apart : node ≢ peer = λ e. other (sym e) in
    rw tested (subst (λ (a : Account). 0 + count a.live ≡ count (live_of book node) + 0) (sym (get_or-set_other book peer node (after_spend (account_of book peer) first) unused apart)) (omega arith))

spend_given : (node peer first : ℕ) (book : List Account) → node < length book
    → (((peer == node) ≡ true) × (peer ≡ node)) ⊎ (((peer == node) ≡ false) × (peer ≢ node))
    → given_of (after_call book (Spend peer first)) node ≡ given_of book node + 0
spend_given node peer first book below (inl (tested, same)) =
    let P : ℕ → Type 0 = λ p. given_of (set book p (after_spend (account_of book p) first)) node ≡ given_of book node + 0 in
    let at : P node = subst (λ (a : Account). a.given ≡ given_of book node + 0)
    (sym (get_or-set_same book node (after_spend (account_of book node) first) unused below)) (omega arith) in
    subst P (sym same) at
spend_given node peer first book below (inr (tested, other)) =
    let apart : node ≢ peer = λ e. other (sym e) in
    subst (λ (a : Account). a.given ≡ given_of book node + 0) (sym (get_or-set_other book peer node (after_spend (account_of book peer) first) unused apart)) (omega arith)

-- one call of `restore`
restore_one : (node peer given : ℕ) (live : Option (List ℕ)) (book : List Account) → node < length book
    → (((peer == node) ≡ true) × (peer ≡ node)) ⊎ (((peer == node) ≡ false) × (peer ≢ node))
    → (0 + lost_in node book (Restore peer given live)) + live_count node (after_call book (Restore peer given live)) ≡ live_count node book + new_in node book (Restore peer given live)
restore_one node peer given live book below (inl (tested, same)) =
    let P : ℕ → Type 0 = λ p. (0 + count (live_of book node)) + count (live_of (set book p (restored_account given live)) node) ≡ count (live_of book node) + count live in
    let at : P node = subst (λ (a : Account). (0 + count (live_of book node)) + count a.live ≡ count (live_of book node) + count live)
    (sym (get_or-set_same book node (restored_account given live) unused below)) (omega arith) in
    rw tested (subst P (sym same) at)
restore_one node peer given live book below (inr (tested, other)) =
    let apart : node ≢ peer = λ e. other (sym e) in
    rw tested (subst (λ (a : Account). (0 + 0) + count a.live ≡ count (live_of book node) + 0) (sym (get_or-set_other book peer node (restored_account given live) unused apart)) (omega arith))

abbrev one_where : Bool → ℕ
one_where b = if b then 1 else 0

true_is_one : (b : Bool) → b ≡ true → one_where b ≡ 0 → ⊥
true_is_one true e h = omega (arith, h)
true_is_one false e h = cc

restore_given : (node peer given : ℕ) (live : Option (List ℕ)) (book : List Account) → node < length book
    → restored_in node (Restore peer given live) ≡ 0
    → (((peer == node) ≡ true) × (peer ≡ node)) ⊎ (((peer == node) ≡ false) × (peer ≢ node))
    → given_of (after_call book (Restore peer given live)) node ≡ given_of book node + new_in node book (Restore peer given live)
restore_given node peer given live book below none (inl (tested, same)) =
    absurd (true_is_one (peer == node) tested none)
restore_given node peer given live book below none (inr (tested, other)) =
    let apart : node ≢ peer = λ e. other (sym e) in
    rw tested (subst (λ (a : Account). a.given ≡ given_of book node + 0) (sym (get_or-set_other book peer node (restored_account given live) unused apart)) (omega arith))

-- nothing is lost to the other two
nothing_lost : (s l m : ℕ) → s + l ≡ m → (s + 0) + l ≡ m
nothing_lost s l m e = omega arith

-- one call
live_one : (node : ℕ) (book : List Account) (call : Call) → node < length book
    → (spent_in node book call + lost_in node book call) + live_count node (after_call book call) ≡ live_count node book + new_in node book call
live_one node book (Give peer drawn) below = nothing_lost _ _ _ (give_one node peer book drawn below (eqb_tells peer node))
live_one node book (Spend peer first) below = nothing_lost _ _ _ (spend_one node peer first book below (eqb_tells peer node))
live_one node book (Restore peer given live) below = restore_one node peer given live book below (eqb_tells peer node)

given_by_one : (node : ℕ) (book : List Account) (call : Call) → node < length book → restored_in node call ≡ 0
    → given_of (after_call book call) node ≡ given_of book node + new_in node book call
given_by_one node book (Give peer drawn) below none = given_one node peer book drawn below (eqb_tells peer node)
given_by_one node book (Spend peer first) below none = spend_given node peer first book below (eqb_tells peer node)
given_by_one node book (Restore peer given live) below none = restore_given node peer given live book below none (eqb_tells peer node)

length-after_call : (book : List Account) (call : Call) → length (after_call book call) ≡ length book
length-after_call book (Give peer drawn) = length-set book peer _
length-after_call book (Spend peer first) = length-set book peer _
length-after_call book (Restore peer given live) = length-set book peer _

-- sums of one call and the others
sum_of_both : (s x t y l m e n k : ℕ) → (s + x) + m ≡ l + n → (t + y) + e ≡ m + k → ((s + t) + (x + y)) + e ≡ l + (n + k)
sum_of_both s x t y l m e n k one others = omega arith

-- any calls
pub live_all : (node : ℕ) (book : List Account) (calls : List Call) → node < length book
    → (spends node book calls + losses node book calls) + live_count node (after_calls book calls) ≡ live_count node book + news node book calls
live_all node book [] below = omega arith
live_all node book (call ∷ calls) below =
    sum_of_both (spent_in node book call) (lost_in node book call) (spends node (after_call book call) calls) (losses node (after_call book call) calls)
    (live_count node book) (live_count node (after_call book call))
    (live_count node (after_calls (after_call book call) calls)) (new_in node book call) (news node (after_call book call) calls)
    (live_one node book call below)
    (live_all node (after_call book call) calls (let same = length-after_call book call in let within : node < length (after_call book call) = omega (arith, same) in within))

none_before : (a b : ℕ) → a + b ≡ 0 → a ≡ 0
none_before a b e = omega arith

none_after : (a b : ℕ) → a + b ≡ 0 → b ≡ 0
none_after a b e = omega arith

pub given_all : (node : ℕ) (book : List Account) (calls : List Call) → node < length book → restores node calls ≡ 0
    → given_of (after_calls book calls) node ≡ given_of book node + news node book calls
given_all node book [] below none = omega arith
given_all node book (call ∷ calls) below none =
    let same = length-after_call book call in
    let within : node < length (after_call book call) = omega (arith, same) in
    let chain : (a b c n k : ℕ) → b ≡ a + n → c ≡ b + k → c ≡ a + (n + k) = λ a b c n k p q. omega arith in
    chain (given_of book node) (given_of (after_call book call) node) _ (new_in node book call) (news node (after_call book call) calls)
    (given_by_one node book call below (none_before (restored_in node call) (restores node calls) none))
    (given_all node (after_call book call) calls within (none_after (restored_in node call) (restores node calls) none))

count_at_most_one : (live : Option (List ℕ)) → count live ≤ 1
count_at_most_one (Some nonce) = omega arith
count_at_most_one None = omega arith

bounded : (s x e l n : ℕ) → (s + x) + e ≡ l + n → n ≡ 0 → l ≤ 1 → s ≤ 1
bounded s x e l n p q r = omega arith

-- at most one is spent where none is new
pub one_spent : (node : ℕ) (book : List Account) (calls : List Call) → node < length book → news node book calls ≡ 0 → spends node book calls ≤ 1
one_spent node book calls below none =
    bounded (spends node book calls) (losses node book calls) (live_count node (after_calls book calls)) (live_count node book) (news node book calls)
    (live_all node book calls below) none (count_at_most_one (live_of book node))
