-- What a reading that answered a value went through.
use Rattle.std.proofs.Common.{◌≡◌, ℕ, ◌≤◌, Bool, true, false, cond, ltb, Option, Some, None, Result, Ok, Err, List, length, refl, ◌⊎◌, inl, inr}
use Rattle.std.specs.Option.{ok_or}
use Rattle.std.proofs.lemmas.Bool.{ltb-false, le-ltb}
use Rattle.class_core.specs.declared.fault.ClassFault.{ClassFault}
use Rattle.class_core.specs.declared.fault.ClassFault.TheVariants.{Short}
use Rattle.class_core.specs.Reading.{◌>>=◌, whole}

-- the value of a step that did not fail
pub bind_ok : {A B : Type 0} (r : Result A ClassFault) (f : A → Result B ClassFault) (y : B) → (r >>= f) ≡ Ok y → (x : A) × (r ≡ Ok x) × (f x ≡ Ok y)
bind_ok (Ok x) f y e = (x, refl, e)
bind_ok (Err d) f y e = absurd cc

-- which way a choice went
pub chosen : {A : Type 0} (b : Bool) (x y z : A) → cond b x y ≡ z → ((b ≡ true) × (x ≡ z)) ⊎ ((b ≡ false) × (y ≡ z))
chosen true x y z e = inl (refl, e)
chosen false x y z e = inr (refl, e)

abbrev pub done : {A : Type 0} → A → Result A ClassFault
done x = Ok x

abbrev pub failed : {A : Type 0} → ClassFault → Result A ClassFault
failed f = Err f

pub ok_is : {A : Type 0} (x y : A) → done x ≡ done y → x ≡ y
ok_is x y e = cc

pub not_ok : {A : Type 0} (f : ClassFault) (y : A) → failed f ≡ done y → ⊥
not_ok f y e = cc

pub some_is : {A : Type 0} (x y : A) → ◌≡◌ {A = Option A} (Some x) (Some y) → x ≡ y
some_is x y e = cc

pub ok_or_takes : {A : Type 0} (o : Option A) (f : ClassFault) (x : A) → ok_or o f ≡ done x → o ≡ Some x
ok_or_takes None f x e = absurd cc
ok_or_takes (Some y) f x e = cc

-- what is made of one field
pub made_of : {A B : Type 0} (r : Result A ClassFault) (make : A → B) (y : B) → (r >>= λ x. Ok (make x)) ≡ Ok y → (x : A) × (r ≡ Ok x) × (make x ≡ y)
made_of (Ok x) make y e = (x, refl, ok_is (make x) y e)
made_of (Err d) make y e = absurd cc

-- a field of several bytes that is whole
pub whole_takes : {A : Type 0} (end : ℕ) (bytes : List ℕ) (x y : A) → whole end bytes x ≡ Ok y → (end ≤ length bytes) × (x ≡ y)
whole_takes end bytes x y e = elim (chosen (ltb (length bytes) end) _ _ _ e) [
  | inl p ↦ absurd (not_ok (Short end) y p.1)
  | inr p ↦ (ltb-false _ _ p.0, ok_is x y p.1)
]

pub whole_again : {A : Type 0} (end : ℕ) (bytes : List ℕ) (x y : A) → end ≤ length bytes → x ≡ y → whole end bytes x ≡ Ok y
whole_again end bytes x y le e = rw (le-ltb _ _ le, e) refl
