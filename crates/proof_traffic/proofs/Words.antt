-- Words on their way, with one taken away, written twice, or put after all others.
use Rattle.std.proofs.Common.{◌≢◌, ℕ, zero, suc, List, [], ◌∷◌, ◌++◌, refl, arith}
use Rattle.std.specs.List.{remove}
use Rattle.proof_traffic.specs.Requests.{Word, Send, Abort, Other}
use Rattle.proof_traffic.specs.Facts.{NoAbort, NoneAfter, NoneBetween}

-- ---- none is an abort

pub no-append : (xs ys : List Word) → NoAbort xs → NoAbort ys → NoAbort (xs ++ ys)
no-append [] ys first later = later
no-append (x ∷ xs) ys first later = (first.0, no-append xs ys first.1 later)

pub no-prefix : (xs ys : List Word) → NoAbort (xs ++ ys) → NoAbort xs
no-prefix [] ys free = tt
no-prefix (x ∷ xs) ys free = (free.0, no-prefix xs ys free.1)

pub no-back : (xs ys : List Word) → NoAbort (xs ++ ys) → NoAbort ys
no-back [] ys free = free
no-back (x ∷ xs) ys free = no-back xs ys free.1

pub no-remove : (xs : List Word) (at : ℕ) (ys : List Word) → NoAbort (xs ++ ys) → NoAbort (remove xs at ++ ys)
no-remove [] zero ys free = free
no-remove [] (suc at) ys free = free
no-remove (x ∷ xs) zero ys free = free.1
no-remove (x ∷ xs) (suc at) ys free = (free.0, no-remove xs at ys free.1)

pub no-without : (xs : List Word) (w : Word) (ys : List Word) → NoAbort (xs ++ (w ∷ ys)) → NoAbort (xs ++ ys)
no-without [] w ys free = free.1
no-without (x ∷ xs) w ys free = (free.0, no-without xs w ys free.1)

pub no-twice : (xs : List Word) (w : Word) (ys : List Word) → NoAbort (xs ++ (w ∷ ys)) → NoAbort ((xs ++ w ∷ []) ++ (w ∷ ys))
no-twice [] w ys free = (free.0, free)
no-twice (x ∷ xs) w ys free = (free.0, no-twice xs w ys free.1)

-- ---- free abort after a SendData

-- one that is invalid is so without being asked
pub following-no : (xs : List Word) → NoAbort xs → NoneAfter xs
following-no [] free = tt
following-no (Send ∷ xs) free = free.1
following-no (Abort ∷ xs) free = following-no xs free.1
following-no (Other ∷ xs) free = following-no xs free.1

pub following-later : (w : Word) (xs : List Word) → NoneAfter (w ∷ xs) → NoneAfter xs
following-later Send xs none = following-no xs none
following-later Abort xs none = none
following-later Other xs none = none

pub following-remove : (xs : List Word) (at : ℕ) (ys : List Word) → NoneAfter (xs ++ ys) → NoneAfter (remove xs at ++ ys)
following-remove [] zero ys none = none
following-remove [] (suc at) ys none = none
following-remove (x ∷ xs) zero ys none = following-later x (xs ++ ys) none
following-remove (Send ∷ xs) (suc at) ys none = no-remove xs at ys none
following-remove (Abort ∷ xs) (suc at) ys none = following-remove xs at ys none
following-remove (Other ∷ xs) (suc at) ys none = following-remove xs at ys none

pub following-without : (xs : List Word) (w : Word) (ys : List Word) → NoneAfter (xs ++ (w ∷ ys)) → NoneAfter (xs ++ ys)
following-without [] w ys none = following-later w ys none
following-without (Send ∷ xs) w ys none = no-without xs w ys none
following-without (Abort ∷ xs) w ys none = following-without xs w ys none
following-without (Other ∷ xs) w ys none = following-without xs w ys none

following-again : (w : Word) (ys : List Word) → NoneAfter (w ∷ ys) → NoneAfter (w ∷ (w ∷ ys))
following-again Send ys none = (λ same. absurd (grind arith), none)
following-again Abort ys none = none
following-again Other ys none = none

pub following-twice : (xs : List Word) (w : Word) (ys : List Word) → NoneAfter (xs ++ (w ∷ ys)) → NoneAfter ((xs ++ w ∷ []) ++ (w ∷ ys))
following-twice [] w ys none = following-again w ys none
following-twice (Send ∷ xs) w ys none = no-twice xs w ys none
following-twice (Abort ∷ xs) w ys none = following-twice xs w ys none
following-twice (Other ∷ xs) w ys none = following-twice xs w ys none

pub following-push : (xs : List Word) (w : Word) → w ≢ Abort → NoneAfter xs → NoneAfter (xs ++ w ∷ [])
following-push [] w other none = following-no (w ∷ []) (other, tt)
following-push (Send ∷ xs) w other none = no-append xs (w ∷ []) none (other, tt)
following-push (Abort ∷ xs) w other none = following-push xs w other none
following-push (Other ∷ xs) w other none = following-push xs w other none

-- ---- free SendData between two aborts

between-no : (xs : List Word) → NoAbort xs → NoneBetween xs
between-no [] free = tt
between-no (Send ∷ xs) free = between-no xs free.1
between-no (Abort ∷ xs) free = absurd (free.0 refl)
between-no (Other ∷ xs) free = between-no xs free.1

pub between-following : (xs : List Word) → NoneAfter xs → NoneBetween xs
between-following [] none = tt
between-following (Send ∷ xs) none = between-no xs none
between-following (Abort ∷ xs) none = none
between-following (Other ∷ xs) none = between-following xs none

pub between-later : (w : Word) (xs : List Word) → NoneBetween (w ∷ xs) → NoneBetween xs
between-later Send xs none = none
between-later Abort xs none = between-following xs none
between-later Other xs none = none

pub between-remove : (xs : List Word) (at : ℕ) (ys : List Word) → NoneBetween (xs ++ ys) → NoneBetween (remove xs at ++ ys)
between-remove [] zero ys none = none
between-remove [] (suc at) ys none = none
between-remove (x ∷ xs) zero ys none = between-later x (xs ++ ys) none
between-remove (Send ∷ xs) (suc at) ys none = between-remove xs at ys none
between-remove (Abort ∷ xs) (suc at) ys none = following-remove xs at ys none
between-remove (Other ∷ xs) (suc at) ys none = between-remove xs at ys none

pub between-without : (xs : List Word) (w : Word) (ys : List Word) → NoneBetween (xs ++ (w ∷ ys)) → NoneBetween (xs ++ ys)
between-without [] w ys none = between-later w ys none
between-without (Send ∷ xs) w ys none = between-without xs w ys none
between-without (Abort ∷ xs) w ys none = following-without xs w ys none
between-without (Other ∷ xs) w ys none = between-without xs w ys none

between-again : (w : Word) (ys : List Word) → NoneBetween (w ∷ ys) → NoneBetween (w ∷ (w ∷ ys))
between-again Send ys none = none
between-again Abort ys none = none
between-again Other ys none = none

pub between-twice : (xs : List Word) (w : Word) (ys : List Word) → NoneBetween (xs ++ (w ∷ ys)) → NoneBetween ((xs ++ w ∷ []) ++ (w ∷ ys))
between-twice [] w ys none = between-again w ys none
between-twice (Send ∷ xs) w ys none = between-twice xs w ys none
between-twice (Abort ∷ xs) w ys none = following-twice xs w ys none
between-twice (Other ∷ xs) w ys none = between-twice xs w ys none

pub between-push : (xs : List Word) (w : Word) → w ≢ Abort → NoneBetween xs → NoneBetween (xs ++ w ∷ [])
between-push [] w other none = between-no (w ∷ []) (other, tt)
between-push (Send ∷ xs) w other none = between-push xs w other none
between-push (Abort ∷ xs) w other none = following-push xs w other none
between-push (Other ∷ xs) w other none = between-push xs w other none

-- an abort after words that are invalid
pub between-first : (xs : List Word) → NoAbort xs → NoneBetween (xs ++ Abort ∷ [])
between-first [] free = tt
between-first (Send ∷ xs) free = between-first xs free.1
between-first (Abort ∷ xs) free = absurd (free.0 refl)
between-first (Other ∷ xs) free = between-first xs free.1
