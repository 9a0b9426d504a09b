-- What is kept of nodes' properties stays kept.
use Rattle.std.proofs.Common.{◌≡◌, ℕ, Bool, true, false, cond, is_some, IsTrue, Option, Some, List, [], ◌∷◌, All, refl, sym, subst}
use Rattle.std.specs.Ordering.{eq_by_cmp}
use Rattle.std.specs.FinMap as finmap
use Rattle.std.proofs.lemmas.Cmp.{eq_by_cmp_equiv}
use Rattle.std.proofs.lemmas.List.Elements.{All-nil, All-cons, All-weaker}
use Rattle.zw_base.specs.declared.property.Property.{Property}
use Rattle.zw_base.specs.declared.property.Setting.{Setting}
use Rattle.value_store.specs.declared.stored.Stored.{Stored}
use Rattle.value_store.specs.Values.{Values, Key, key_cmp, IsReserved, reserving, stored_of}
use Rattle.value_store.proofs.Keys.{key_total}
use Rattle.host_model.specs.State.{Command}
use Rattle.host_model.specs.After.{confirming, hearing}
use Rattle.host_model.specs.Facts.{IsSound}

-- what was kept is kept
abbrev pub Grows : Values → Values → Type 0
Grows old new = (n : ℕ) (property : Property) → IsReserved old n property → IsReserved new n property

found_either : (b : Bool) (v : Stored) (o : Option Stored) → IsTrue (is_some o) → IsTrue (is_some (cond b (Some v) o))
found_either true v o there = refl
found_either false v o there = there

found_here : (b : Bool) (v : Stored) (o : Option Stored) → b ≡ true → IsTrue (is_some (cond b (Some v) o))
found_here true v o e = refl
found_here false v o e = cc

grows_by : (store : Values) (key : Key) (v : Stored) → Grows store (finmap.insert store key v)
grows_by store key v n property there =
    subst (λ (o : Option Stored). IsTrue (is_some o)) (sym (finmap.get-insert key_total store key v (n, property)))
    (found_either (eq_by_cmp key_cmp (n, property) key) v (finmap.get store (n, property)) there)

kept_by : (store : Values) (n : ℕ) (property : Property) (v : Stored) → IsReserved (finmap.insert store (n, property) v) n property
kept_by store n property v =
    subst (λ (o : Option Stored). IsTrue (is_some o)) (sym (finmap.get-insert key_total store (n, property) v (n, property)))
    (found_here (eq_by_cmp key_cmp (n, property) (n, property)) v (finmap.get store (n, property)) ((eq_by_cmp_equiv key_total).refl (n, property)))

pub reserving_grows : (store : Values) (n : ℕ) (properties : List Property) → Grows store (reserving store n properties)
reserving_grows store n [] = λ m p there. there
reserving_grows store n (property ∷ more) = λ m p there.
    reserving_grows (finmap.insert store (n, property) (stored_of store n property)) n more m p (grows_by store (n, property) (stored_of store n property) m p there)

-- those that are to be kept are
pub all_reserved : (store : Values) (n : ℕ) (properties : List Property) → All (IsReserved (reserving store n properties) n) properties
all_reserved store n [] = All-nil (IsReserved store n)
all_reserved store n (property ∷ more) =
    let next = finmap.insert store (n, property) (stored_of store n property) in
    All-cons (IsReserved (reserving next n more) n) property more
    (reserving_grows next n more n property (kept_by store n property (stored_of store n property)))
    (all_reserved next n more)

pub confirming_grows : (store : Values) (n : ℕ) (settings : List Setting) → Grows store (confirming store n settings)
confirming_grows store n [] = λ m p there. there
confirming_grows store n (s ∷ more) = λ m p there.
    confirming_grows (finmap.insert store (n, s.property) (record (stored_of store n s.property) { confirmed = Some s.value })) n more m p
    (grows_by store (n, s.property) (record (stored_of store n s.property) { confirmed = Some s.value }) m p there)

pub hearing_grows : (store : Values) (n : ℕ) (s : Setting) → Grows store (hearing store n s)
hearing_grows store n s = grows_by store (n, s.property) (record (stored_of store n s.property) { heard = Some s.value })

-- sound commands stay so
pub sound_stays : (old new : Values) → Grows old new → (commands : List Command) → All (IsSound old) commands → All (IsSound new) commands
sound_stays old new grows commands all =
    All-weaker (IsSound old) (IsSound new)
    (λ command s. record { fit = s.fit; form = s.form; kept = All-weaker (IsReserved old command.order.node) (IsReserved new command.order.node) (grows command.order.node) _ s.kept })
    commands all
