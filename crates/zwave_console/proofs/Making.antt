-- The devices that are made, one after another.
use Rattle.std.proofs.Common.{◌≡◌, ℕ, map, zero, suc, ◌+◌, ◌-◌, ◌≤◌, List, [], ◌∷◌, ◌++◌, refl, ap, ◌∙◌, sym, arith}
use Rattle.std.proofs.lemmas.List.{map-append}
use Rattle.device_sim.specs.State.{State}
use Rattle.proof_commands.specs.Mesh.{device_at, devices_from}

-- one more
pub devices-more : (key : List ℕ) (first count : ℕ) → devices_from key first (suc count) ≡ devices_from key first count ++ device_at key (first + count) ∷ []
unfolding devices_from
devices-more key first zero = ap (λ (n : ℕ). device_at key n ∷ []) (omega arith)
devices-more key first (suc count) =
    ap (λ (rest : List State). device_at key first ∷ rest) (devices-more key (first + 1) count
    ∙ ap (λ (n : ℕ). devices_from key (first + 1) count ++ device_at key n ∷ []) (omega arith))

-- none yet
pub devices-none : (key : List ℕ) (first : ℕ) → devices_from key first 0 ≡ []
unfolding devices_from
devices-none key first = refl

-- a list of devices with one more
pub made_more : {A : Type 0} (seen : A → State) (key : List ℕ) (n : ℕ) (old new : List A) (device : A) → 2 ≤ n → map seen old ≡ devices_from key 2 (n - 2)
    → new ≡ old ++ device ∷ [] → seen device ≡ device_at key n → map seen new ≡ devices_from key 2 ((n + 1) - 2)
made_more seen key n old new device two so_far added is =
    ap (λ xs. map seen xs) added
    ∙ map-append seen old (device ∷ [])
    ∙ ap (λ xs. xs ++ seen device ∷ []) so_far
    ∙ ap (λ (d : State). devices_from key 2 (n - 2) ++ d ∷ []) (is ∙ ap (λ (k : ℕ). device_at key k) (let e : n ≡ 2 + (n - 2) = omega arith in e))
    ∙ sym (devices-more key 2 (n - 2))
    ∙ ap (λ (k : ℕ). devices_from key 2 k) (let e : suc (n - 2) ≡ (n + 1) - 2 = omega arith in e)
