-- The joined nodes of a host, in order, are those that the transcript shows; and the device of a node is the first of the list.
use Rattle.std.proofs.Common.{◌≡◌, ◌⊎◌, ℕ, zero, suc, ◌+◌, ◌≤◌, ◌<◌, ◌==◌, ◌||◌, Bool, true, false, if◌then◌else◌, List, [], ◌∷◌, Option, Some, None, inl, inr, refl, sym, ap, ◌∙◌, arith}
use Rattle.std.specs.Prelude.{filter, option_map}
use Rattle.std.specs.List.{AllByRecursion, flat_map, list_any, range_with_len}
use Rattle.std.specs.declared.cmp.Ordering.TheVariants.{Less}
use Rattle.std.specs.Ordering.{nat_cmp}
use Rattle.std.specs.FinMap.{nat_cmp-IsAntisymmetric}
use Rattle.std.proofs.lemmas.Cmp.{nat_cmp_total}
use Rattle.std.proofs.lemmas.Bool.{cases_eq, eq-eqb, eqb-true}
use Rattle.device_sim.specs.State.{State}
use Rattle.proof_air.specs.mesh_sim.Fates.{place_of}
use Rattle.zw_text.specs.Line.{IsNode}
use Rattle.zw_text.specs.declared.entry.Entry.{Entry}
use Rattle.zw_text.specs.Transcript.{joined}
use Rattle.law_host.specs.law_transcript.Lists.{Has}
use Rattle.law_host.specs.law_transcript.Nodes.{device_of, is_joined}
use Rattle.law_host.specs.law_transcript.Table.{device_lines, in_order}
use Rattle.law_host.proofs.Having.{all_has}
use Rattle.proof_air.specs.host_model.State.{HostState, node_of}
use Rattle.proof_air.specs.outside_model.Devices.{device_entries}
use Rattle.proof_air.specs.outside_model.Results.{device_at}
use Rattle.proof_air.specs.world_model.Table.{joined_nodes}
use Rattle.proof_transcript.proofs.Ordered.{Agree, Sorted, has_in_order, in_order_has, in_order_sorted, same_shown}
use Rattle.proof_air.proofs.Values.{less_number}

-- ---- numbers in order

abbrev Rising : List ℕ → Type 0
Rising l = Sorted nat_cmp_total nat_cmp-IsAntisymmetric l

range_above : (x a n : ℕ) → x < a → AllByRecursion (λ y. nat_cmp x y ≡ Less) (range_with_len a n)
range_above x a zero below = tt
range_above x a (suc n) below = (less_number x a below, range_above x (a + 1) n (omega (arith, below)))

filter_above : (x : ℕ) (p : ℕ → Bool) (l : List ℕ) → AllByRecursion (λ y. nat_cmp x y ≡ Less) l → AllByRecursion (λ y. nat_cmp x y ≡ Less) (filter p l)
filter_above x p [] all = tt
filter_above x p (y ∷ l) all = by (p y) (filter_above x p l all.1)
  where
    by : (b : Bool) → AllByRecursion (λ z. nat_cmp x z ≡ Less) (filter p l) → AllByRecursion (λ z. nat_cmp x z ≡ Less) (if b then y ∷ filter p l else filter p l)
    by true later = (all.0, later)
    by false later = later

filter_rises : (p : ℕ → Bool) (a n : ℕ) → Rising (filter p (range_with_len a n))
filter_rises p a zero = tt
filter_rises p a (suc n) = by (p a) (filter_rises p (a + 1) n)
  where
    by : (b : Bool) → Rising (filter p (range_with_len (a + 1) n)) → Rising (if b then a ∷ filter p (range_with_len (a + 1) n) else filter p (range_with_len (a + 1) n))
    by true later = (filter_above a p (range_with_len (a + 1) n) (range_above a (a + 1) n (omega arith)), later)
    by false later = later

range_has : (a n x : ℕ) → a ≤ x → x < a + n → Has (range_with_len a n) x
range_has a zero x from to = absurd (omega (arith, from, to))
range_has a (suc n) x from to = elim (cases_eq a x) [
  | inl same ↦ inl same
  | inr other ↦ inr (range_has (a + 1) n x (omega (arith, from, other)) (omega (arith, to)))
]

pub filter_has : (p : ℕ → Bool) (l : List ℕ) (x : ℕ) → Has l x → p x ≡ true → Has (filter p l) x
filter_has p [] x has yes_is = has
filter_has p (y ∷ l) x (inl is) yes_is = by (p y) (ap p is ∙ yes_is)
  where
    by : (b : Bool) → b ≡ true → Has (if b then y ∷ filter p l else filter p l) x
    by true e = inl is
    by false e = absurd cc
filter_has p (y ∷ l) x (inr has) yes_is = by (p y) (filter_has p l x has yes_is)
  where
    by : (b : Bool) → Has (filter p l) x → Has (if b then y ∷ filter p l else filter p l) x
    by true later = inr later
    by false later = later

has_filter : (p : ℕ → Bool) (l : List ℕ) (x : ℕ) → Has (filter p l) x → p x ≡ true
has_filter p [] x has = absurd has
has_filter p (y ∷ l) x has = by (p y) refl (has_filter p l x) has
  where
    by : (b : Bool) → p y ≡ b → (Has (filter p l) x → p x ≡ true) → Has (if b then y ∷ filter p l else filter p l) x → p x ≡ true
    by true e more (inl is) = ap p (sym is) ∙ e
    by true e more (inr later) = more later
    by false e more later = more later

-- ---- a list that has a number

pub any_has : (l : List ℕ) (x : ℕ) → list_any (λ one. one == x) l ≡ true → Has l x
any_has [] x is = absurd cc
any_has (y ∷ l) x is = by (y == x) refl (any_has l x) is
  where
    by : (b : Bool) → (y == x) ≡ b → (list_any (λ one. one == x) l ≡ true → Has l x) → b || list_any (λ one. one == x) l ≡ true → (y ≡ x) ⊎ Has l x
    by true same more is = inl (eqb-true y x same)
    by false same more is = inr (more is)

pub has_any : (l : List ℕ) (x : ℕ) → Has l x → list_any (λ one. one == x) l ≡ true
has_any [] x has = absurd has
has_any (y ∷ l) x (inl is) = ap (λ (b : Bool). b || list_any (λ one. one == x) l) (eq-eqb y x is)
has_any (y ∷ l) x (inr has) = by (y == x) (has_any l x has)
  where
    by : (b : Bool) → list_any (λ one. one == x) l ≡ true → b || list_any (λ one. one == x) l ≡ true
    by true later = refl
    by false later = later

-- ---- joined nodes

-- what the joined nodes show is what those of the transcript do, in order
pub nodes_are : {X : Type 0} (f : ℕ → List X) (past : List Entry) (h : HostState) → ((node : ℕ) → (node_of h node).joined ≡ is_joined past node) → AllByRecursion (IsNode 1) (joined past)
    → flat_map f (joined_nodes h) ≡ flat_map f (in_order nat_cmp (joined past))
nodes_are f past h joins within =
    let marked : ℕ → Bool = λ n. (node_of h n).joined in
    let agree : Agree nat_cmp_total nat_cmp-IsAntisymmetric f (joined_nodes h) (in_order nat_cmp (joined past)) = record {
      sorted = filter_rises marked 1 232;
      too = in_order_sorted nat_cmp_total nat_cmp-IsAntisymmetric (joined past);
      there = λ node has.
          inr (in_order_has nat_cmp_total nat_cmp-IsAntisymmetric (joined past) node
          (any_has (joined past) node (sym (joins node) ∙ has_filter marked (range_with_len 1 232) node has)));
      back = λ node has.
          let among = has_in_order nat_cmp_total nat_cmp-IsAntisymmetric (joined past) node has in
          let range = all_has (IsNode 1) (joined past) node within among in
          inr (filter_has marked (range_with_len 1 232) node (range_has 1 232 node range.0 (omega (arith, range))) (joins node ∙ has_any (joined past) node among));
    } in
    same_shown nat_cmp_total nat_cmp-IsAntisymmetric f (joined_nodes h) (in_order nat_cmp (joined past)) agree

-- ---- devices

pub device_is : (node : ℕ) (devices : List State) → device_at devices (place_of node devices) ≡ device_of node devices
device_is node [] = refl
device_is node (device ∷ devices) = by (device.node == node) (place_of node devices) (device_is node devices)
  where
    by : (b : Bool) (place : Option ℕ) → device_at devices place ≡ device_of node devices
        → device_at (device ∷ devices) (if b then Some 0 else option_map suc place) ≡ (if b then Some device else device_of node devices)
    by true place later = refl
    by false None later = later
    by false (Some place) later = later

lines_same : (node : ℕ) (device : Option State) → device_entries node device ≡ device_lines node device
lines_same node None = refl
lines_same node (Some device) = refl

pub devices_are : (node : ℕ) (devices : List State) → device_entries node (device_at devices (place_of node devices)) ≡ device_lines node (device_of node devices)
devices_are node devices = ap (λ (d : Option State). device_entries node d) (device_is node devices) ∙ lines_same node (device_of node devices)
