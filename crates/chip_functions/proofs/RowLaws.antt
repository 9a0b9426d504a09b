-- What serves the rows of every direction.
use Rattle.std.proofs.Common.{◌≡◌, ℕ, Bool, true, false, cond, eqb, List, [], ◌∷◌, ◌++◌, Result, Ok, Err, refl, sym, subst, ◌+◌, ◌⊎◌, inl, inr, length, arith}
use Rattle.std.specs.Prelude.{IfOk, IfErr}
use Rattle.std.proofs.lemmas.Bool.{eqb-true}
use Rattle.chip_functions.specs.declared.fault.BodyFault.{BodyFault}
use Rattle.chip_functions.specs.declared.fault.BodyFault.TheVariants.{UnknownFunction, Short, BadField, NoMemory}
use Rattle.chip_functions.specs.Mask.{IsBytes}
use Rattle.chip_functions.specs.Place.{Place, Reading, Gives, IsFaultFrom, IsBodyFault, start_of, ended_from}
use Rattle.chip_functions.specs.Field.{Field, read_as}
use Rattle.chip_functions.proofs.FieldLaws.{Takes, Lawful, as_takes, as_faults, failed, err_is, no_fault}

-- a reading that went well
abbrev pub reads_to : {V : Type 0} → V → Place → Reading V
reads_to v q = Ok (v, q)

-- no function is read where none is known
pub no_row : {V : Type 0} (fault : BodyFault) (v : V) (q : Place) → Err fault ≡ reads_to v q → ⊥
no_row fault v q e = cc

-- a test holds or not
pub if_cases : {A R : Type 0} (b : Bool) (x y z : A) → cond b x y ≡ z → (b ≡ true → x ≡ z → R) → (b ≡ false → y ≡ z → R) → R
if_cases true x y z e hit miss = hit refl e
if_cases false x y z e hit miss = miss refl e

-- a function is the one of a row, or is sought further
pub row_cases : {A R : Type 0} (func code : ℕ) (x y z : A) → cond (eqb func code) x y ≡ z → (func ≡ code → x ≡ z → R) → (y ≡ z → R) → R
row_cases func code x y z e hit miss = if_cases (eqb func code) x y z e (λ t. hit (eqb-true func code t)) (λ _. miss)

-- a value of a row holds what each value made of its fields holds
pub row_takes : {A V : Type 0} {field : Field A} {F : A → Type 0} (law : Lawful field F) (make : A → V) (p q : Place) (v : V) (P : V → Type 0) → IsBytes p.rest → ((x : A) → Takes p q (field.spell x) → F x → P (make x)) → read_as make (field.read p) ≡ Ok (v, q) → P v
row_takes {field} law make p q v P fits each e =
    let a = as_takes make (field.read p) v q e in
    let t = law.takes p a.0 q fits a.1 in
    subst P a.2 (each a.0 t.0 t.1)

-- a value that is read at a place, and what follows it
pub record ReadsOn {V : Type 0} (reading : Reading V) (v : V) (rest : List ℕ) : Type 0 where
  pub place : Place
  pub is : reading ≡ Ok (v, place)
  pub after : place.rest ≡ rest

pub row_again : {A V : Type 0} {field : Field A} {F : A → Type 0} (law : Lawful field F) (make : A → V) (x : A) (p : Place) (rest : List ℕ) → F x → p.rest ≡ field.spell x ++ rest → ReadsOn (read_as make (field.read p)) (make x) rest
row_again {field} law make x p rest fits e =
    let r = law.again x p rest fits e in
    record { place = r.place; is = rw r.is refl; after = r.after }

-- a request that ended
pub ended_ok : {V : Type 0} (v w : V) (before : ℕ) (rest : List ℕ) → ended_from v before rest ≡ Ok w → (rest ≡ []) × (v ≡ w)
ended_ok v w before [] e = (refl, cc)
ended_ok v w before (b ∷ rest) e = absurd cc

-- what is read has what each reading has
pub if_ok : {V : Type 0} (r : Result V BodyFault) (reading : Result V BodyFault) (P : V → Type 0) → Gives (λ v. v) r reading → ((v : V) → reading ≡ Ok v → P v) → IfOk r P
if_ok (Ok v) reading P given each = each v given
if_ok (Err fault) reading P given each = tt

-- ---- faults

-- a fault of what a function reads at a place
abbrev pub IsFaultOf : ℕ → Place → BodyFault → Type 0
IsFaultOf func p fault = (fault ≡ UnknownFunction func) ⊎ IsFaultFrom p fault

-- the faults of a row are those of its fields
pub row_faults : {A V : Type 0} {field : Field A} {F : A → Type 0} (law : Lawful field F) (make : A → V) (func : ℕ) (p : Place) (fault : BodyFault) → IsBytes p.rest → read_as make (field.read p) ≡ Err fault → IsFaultOf func p fault
row_faults {field} law make func p fault fits e = inr (law.faults p fault fits (as_faults make (field.read p) fault e))

-- where no row is left the function is unknown
pub unknown : {V : Type 0} (func : ℕ) (p : Place) (fault : BodyFault) → Err (UnknownFunction func) ≡ failed {A = V × Place} fault → IsFaultOf func p fault
unknown {V} func p fault e = inl (sym (err_is {A = V × Place} (UnknownFunction func) fault e))

unknown_is : (number func : ℕ) → UnknownFunction number ≡ UnknownFunction func → number ≡ func
unknown_is number func e = cc

-- the faults of a body are those of what is read from its beginning
pub body_fault : (func : ℕ) (body : List ℕ) (fault : BodyFault) → IsFaultOf func (start_of body) fault → IsBodyFault func body fault
body_fault func body (Short need got) (inl e) = absurd cc
body_fault func body (Short need got) (inr h) = (omega (arith, h.0), h.1)
body_fault func body (BadField place) (inl e) = absurd cc
body_fault func body (BadField place) (inr h) = omega (arith, h.1)
body_fault func body (UnknownFunction number) (inl e) = unknown_is number func e
body_fault func body (UnknownFunction number) (inr h) = absurd h
body_fault func body NoMemory h = tt

-- what an error is, is what each fault of the reading is
pub if_err : {V : Type 0} (func : ℕ) (body : List ℕ) (r : Result V BodyFault) (reading : Result V BodyFault) → Gives (λ v. v) r reading → ((fault : BodyFault) → reading ≡ Err fault → IsBodyFault func body fault) → IfErr r (λ fault. IsBodyFault func body fault)
if_err func body (Ok v) reading given each = tt
if_err func body (Err (UnknownFunction number)) reading given each = each (UnknownFunction number) given
if_err func body (Err (Short need got)) reading given each = each (Short need got) given
if_err func body (Err (BadField place)) reading given each = each (BadField place) given
if_err func body (Err NoMemory) reading given each = tt

goes_on : {V : Type 0} (func : ℕ) (body : List ℕ) (v : V) (before : ℕ) (rest : List ℕ) (fault : BodyFault) → before + length rest ≡ length body → ended_from v before rest ≡ Err fault → IsBodyFault func body fault
goes_on {V} func body v before [] fault sum e = no_fault {A = V} v fault e
goes_on {V} func body v before (b ∷ rest) fault sum e = subst (IsBodyFault func body) (err_is {A = V} (BadField before) fault e) (omega arith)

-- a request that goes on has a bad field there
pub ended_err : {V : Type 0} (func : ℕ) (body : List ℕ) (v : V) (q : Place) (fault : BodyFault) → q.before + length q.rest ≡ length body → ended_from v q.before q.rest ≡ Err fault → IsBodyFault func body fault
ended_err {V} func body v q fault sum e = goes_on func body v q.before q.rest fault sum e
