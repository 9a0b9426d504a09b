-- When a host may take up a record, by what was tested.
use Rattle.std.proofs.Common.{◌≡◌, ℕ, ◌+◌, ◌%◌, ◌<◌, Bool, true, false, ◌==◌, ◌&&◌, is_none, Option, Some, None, List, [], ◌∷◌, length, refl, subst, arith}
use Rattle.host_keep.specs.declared.record.Record.{Record}
use Rattle.host_keep.specs.declared.record.Record.TheVariants.{Begun, Final, Given}
use Rattle.host_keep.specs.Legal.{is_first}
use Rattle.supervision.specs.Host.{begun_of, open_session, command_at as command_of_session}
use Rattle.host_model.specs.State.{HostState, node_of}
use Rattle.host_model.specs.Facts.{HostFacts}
use Rattle.host_model.specs.Restoring.{may_restore, restored, ending}
use Rattle.host_keep.specs.declared.final_status.FinalStatus.{FinalStatus}
use Rattle.host_model.specs.After.{finishing}
use Rattle.supervision.specs.Session.{wire_id}
use Rattle.std.proofs.lemmas.Bool.{eqb-true}
use Rattle.std.specs.Prelude.{slice_index}
use Rattle.s0_session.specs.Nonces.{given_of, live_of, IsRestorable}
use Rattle.host_model.proofs.Tests.{all_true as all_three}

-- ---- what the test of a session says

all_true : (a b c : Bool) → (a && b && c) ≡ true → (b ≡ true) × (c ≡ true)
all_true true true true e = (refl, refl)
all_true true true false e = absurd cc
all_true true false c e = absurd cc
all_true false b c e = absurd cc

some_waits : (l : List ℕ) (command : ℕ) → is_first l command ≡ true → 0 < length l
some_waits [] command e = absurd cc
some_waits (first ∷ rest) command e = omega arith

none_is : (o : Option ℕ) → is_none o ≡ true → o ≡ None
none_is None e = refl
none_is (Some k) e = cc

pub may_begin_says : (h : HostState) (n session command : ℕ) → may_restore h (Begun n session command) ≡ true → (0 < length (node_of h n).waiting) × (open_session (node_of h n).book ≡ None)
may_begin_says h n session command e =
    let both = all_true (session == begun_of (node_of h n).book + 1) (is_none (open_session (node_of h n).book)) (is_first (node_of h n).waiting command) e in
    (some_waits (node_of h n).waiting command both.1, none_is (open_session (node_of h n).book) both.0)

-- ---- what the test of a nonce says

above_zero : (k before : ℕ) → k ≡ before + 1 → 0 < k
above_zero k before e = omega (arith, e)

pub may_give_says : (h : HostState) (n given : ℕ) (nonce : List ℕ) → may_restore h (Given n given nonce) ≡ true → IsRestorable given (Some nonce)
may_give_says h n given nonce e =
    let three = all_three (given == given_of h.nonces n + 1) (is_none (live_of h.nonces n)) (slice_index nonce 0 == given % 256) e in
    λ live same. (
      above_zero given (given_of h.nonces n) (eqb-true given (given_of h.nonces n + 1) three.0),
      subst (λ (l : List ℕ). slice_index l 0 ≡ given % 256) (inside live same) (eqb-true (slice_index nonce 0) (given % 256) three.2),
    )
  where
    inside : (live : List ℕ) → Some nonce ≡ Some live → nonce ≡ live
    inside live f = cc

-- ---- a session that ends

pub final_kept : ((h : HostState) (one : Record) → HostFacts h → may_restore h one ≡ true → HostFacts (restored h one)) → (h : HostState) (n session command : ℕ) (status : FinalStatus) → HostFacts h → may_restore h (Final n session status) ≡ true
    → command_of_session (node_of h n).book.commands session ≡ Some command → HostFacts (finishing h n (wire_id session) command status)
final_kept keeps h n session command status f may carried =
    subst (λ (o : Option ℕ). HostFacts (ending h n session status o)) carried (keeps h (Final n session status) f may)

-- ---- an order that was taken
