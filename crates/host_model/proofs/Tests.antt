-- What the tests by which a record may be taken up say.
use Rattle.std.proofs.Common.{◌≡◌, ℕ, zero, suc, ◌≤◌, ◌&&◌, nat_lt, Bool, true, false, if◌then◌else◌, is_some, List, [], ◌∷◌, length, drop, Option, Some, None, refl, sym, ap, ◌∙◌, arith}
use Rattle.std.specs.Prelude.{slice_get}
use Rattle.std.proofs.lemmas.Bool.{eqb-true}
use Rattle.std.proofs.lemmas.Bool.Decides.{nat_tests}
use Rattle.zw_base.specs.declared.order.Order.{Order}
use Rattle.supervision.specs.Host.{HostBook, open_session, command_at as command_of_session}
use Rattle.host_orders.specs.Refusals.{Known, classes_of, first_some, unless, known_refusal, first_refusal, refusal_or, refusal_of, store_full}
use Rattle.host_orders.specs.declared.refused.Refused.{Refused}
use Rattle.host_orders.specs.declared.refused.Refused.TheVariants.{NotJoined, NotInterviewed, StoreFull}
use Rattle.host_keep.specs.Legal.{is_first}
use Rattle.host_model.specs.Restoring.{is_session}

pub all_true : (a b c : Bool) → (a && b && c) ≡ true → (a ≡ true) × (b ≡ true) × (c ≡ true)
all_true true true true e = (refl, refl, refl)
all_true true true false e = absurd cc
all_true true false true e = absurd cc
all_true true false false e = absurd cc
all_true false true true e = absurd cc
all_true false true false e = absurd cc
all_true false false true e = absurd cc
all_true false false false e = absurd cc

pub is_there : {X : Type 0} (o : Option X) → is_some o ≡ true → (x : X) × (o ≡ Some x)
is_there None e = absurd cc
is_there (Some x) e = (x, refl)

-- ---- orders

pub refused_not : (o : Option Refused) (properties : ℕ) → refusal_or o properties ≡ None → (o ≡ None) × (store_full properties ≡ None)
refused_not None properties e = (refl, e)
refused_not (Some refused) properties e = absurd cc

pub few_enough : (properties : ℕ) → store_full properties ≡ None → properties ≤ 512
few_enough properties e = by (nat_lt 512 properties) refl e
  where
    by : (b : Bool) → nat_lt 512 properties ≡ b → (if b then Some (StoreFull 512) else None) ≡ None → properties ≤ 512
    by true f g = absurd cc
    by false f g = grind (arith, nat_tests)

first_rules : (joined : Bool) (classes : Option (List ℕ)) (more : List (Option Refused))
    → first_some (unless joined NotJoined ∷ unless (is_some classes) NotInterviewed ∷ more) ≡ None → (joined ≡ true) × (is_some classes ≡ true)
first_rules true (Some classes) more e = (refl, refl)
first_rules true None more e = absurd cc
first_rules false classes more e = absurd cc

known_rules : (known : Known) (order : Order) → first_refusal known order ≡ None → (known.joined ≡ true) × (is_some known.classes ≡ true)
unfolding first_refusal
known_rules known order e = first_rules known.joined known.classes (known_refusal (classes_of known) known.waiting order ∷ []) e

-- what an order says that no rule refuses
pub record IsUnrefused (known : Known) (properties : ℕ) (order : Order) : Type 0 where
  pub unrefused : first_refusal known order ≡ None
  pub joined : known.joined ≡ true
  pub classes : List ℕ
  pub listed : known.classes ≡ Some classes
  pub few : properties ≤ 512

pub unrefused_is : (known : Known) (properties : ℕ) (order : Order) → refusal_of known properties order ≡ None → IsUnrefused known properties order
unrefused_is known properties order e =
    let both = refused_not (first_refusal known order) properties e in
    let rules = known_rules known order both.0 in
    let there = is_there known.classes rules.1 in
    record { unrefused = both.0; joined = rules.0; classes = there.0; listed = there.1; few = few_enough properties both.1 }

pub unrefused_so : (known : Known) (properties : ℕ) (order : Order) → first_refusal known order ≡ None → properties ≤ 512 → refusal_of known properties order ≡ None
unrefused_so known properties order e few =
    ap (λ (o : Option Refused). refusal_or o properties) e ∙ by (nat_lt 512 properties) refl
  where
    by : (b : Bool) → nat_lt 512 properties ≡ b → (if b then Some (StoreFull 512) else None) ≡ None
    by true f = absurd (grind (arith, nat_tests))
    by false f = refl

-- ---- sessions

pub first_is : (l : List ℕ) (command : ℕ) → is_first l command ≡ true → l ≡ command ∷ drop 1 l
first_is [] command e = cc
first_is (first ∷ rest) command e = ap (λ (c : ℕ). c ∷ rest) (eqb-true first command e)

pub session_is : (o : Option ℕ) (session : ℕ) → is_session o session ≡ true → o ≡ Some session
session_is None session e = cc
session_is (Some current) session e = ap (λ (k : ℕ). Some k) (sym (eqb-true session current e))

last_there : (first : ℕ) (rest : List ℕ) (k : ℕ) → suc k ≡ length (first ∷ rest) → (command : ℕ) × (slice_get (first ∷ rest) k ≡ Some command)
last_there first [] k e = let z : k ≡ 0 = cc in (first, ap (λ (j : ℕ). slice_get (first ∷ []) j) z)
last_there first (next ∷ more) zero e = absurd (none e)
  where
    none : suc zero ≡ suc (suc (length more)) → ⊥
    none f = cc
last_there first (next ∷ more) (suc k) e = last_there next more k cc

open_there : (commands : List ℕ) (outcome : Option ℕ) (attempts session : ℕ) → open_session (record { commands = commands; outcome = outcome; attempts = attempts }) ≡ Some session
    → (command : ℕ) × (command_of_session commands session ≡ Some command)
open_there [] None attempts session e = absurd (never e)
  where
    never : None ≡ Some session → ⊥
    never f = cc
open_there (first ∷ rest) None attempts session e =
    let there = last_there first rest (length rest) refl in
    (there.0, ap (λ (k : ℕ). command_of_session (first ∷ rest) k) (same e) ∙ there.1)
  where
    same : Some (length (first ∷ rest)) ≡ Some session → session ≡ suc (length rest)
    same f = cc
open_there commands (Some ended) attempts session e = absurd (never e)
  where
    never : None ≡ Some session → ⊥
    never f = cc

-- the open session has a command
pub open_command_is : (book : HostBook) (session : ℕ) → open_session book ≡ Some session → (command : ℕ) × (command_of_session book.commands session ≡ Some command)
open_command_is book session e = open_there book.commands book.outcome book.attempts session e
