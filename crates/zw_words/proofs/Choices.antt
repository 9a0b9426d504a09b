-- Choices and steps, taken apart.
use Rattle.std.proofs.Common.{◌≡◌, Bool, true, false, cond, Option, Some, None, Result, Ok, Err, refl, ◌⊎◌, inl, inr}
use Rattle.std.specs.Prelude.{option_and_then}
use Rattle.zw_words.specs.declared.fault.LineFault.{LineFault}
use Rattle.zw_words.specs.Fields.{◌>>=◌, make}

-- which way a choice went
pub chosen : {A : Type 0} (b : Bool) (x y z : A) → cond b x y ≡ z → ((b ≡ true) × (x ≡ z)) ⊎ ((b ≡ false) × (y ≡ z))
chosen true x y z e = inl (refl, e)
chosen false x y z e = inr (refl, e)

abbrev pub some : {A : Type 0} → A → Option A
some x = Some x

abbrev pub nothing : {A : Type 0} → Option A
nothing = None

pub some_is : {A : Type 0} (x y : A) → some x ≡ some y → x ≡ y
some_is x y e = cc

pub not_some : {A : Type 0} (y : A) → nothing ≡ some y → ⊥
not_some y e = cc

abbrev pub done : {A : Type 0} → A → Result A LineFault
done x = Ok x

abbrev pub failed : {A : Type 0} → LineFault → Result A LineFault
failed f = Err f

pub ok_is : {A : Type 0} (x y : A) → done x ≡ done y → x ≡ y
ok_is x y e = cc

pub not_ok : {A : Type 0} (f : LineFault) (y : A) → failed f ≡ done y → ⊥
not_ok f y e = cc

-- a value that was kept, where the test is true
pub kept : {A : Type 0} (b : Bool) (x y : A) → cond b (some x) nothing ≡ some y → (b ≡ true) × (x ≡ y)
kept true x y e = (refl, some_is x y e)
kept false x y e = absurd (not_some y e)

-- the two steps of a value
pub then_some : {A B : Type 0} (o : Option A) (f : A → Option B) (y : B) → option_and_then f o ≡ some y → (x : A) × (o ≡ some x) × (f x ≡ some y)
then_some (Some x) f y e = (x, refl, e)
then_some None f y e = absurd (not_some y e)

-- the value of a step that did not fail
pub bind_ok : {A B : Type 0} (r : Result A LineFault) (f : A → Result B LineFault) (y : B) → (r >>= f) ≡ Ok y → (x : A) × (r ≡ Ok x) × (f x ≡ Ok y)
bind_ok (Ok x) f y e = (x, refl, e)
bind_ok (Err d) f y e = absurd cc

-- what is made of one step
pub made_of : {A B : Type 0} (f : A → B) (r : Result A LineFault) (y : B) → make f r ≡ done y → (x : A) × (r ≡ Ok x) × (f x ≡ y)
made_of f (Ok x) y e = (x, refl, ok_is (f x) y e)
made_of f (Err d) y e = absurd (not_ok d y e)
