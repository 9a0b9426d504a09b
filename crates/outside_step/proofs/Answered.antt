-- Facts of an answer.
use Rattle.std.proofs.Common.{Result, Ok, Err, OnOk, OnErr}

pub on_ok : {V E : Type 0} (r : Result V E) (P : Type 0) → P → OnOk r P
on_ok (Ok v) P holds = holds
on_ok (Err e) P holds = tt

-- a fact that holds at Ok goes over to another
pub map_ok : {V E : Type 0} (r : Result V E) (P Q : Type 0) → (P → Q) → OnOk r P → OnOk r Q
map_ok (Ok v) P Q f holds = f holds
map_ok (Err e) P Q f holds = tt

pub map_ok_both : {V E : Type 0} (r : Result V E) (P Q R : Type 0) → (P → Q → R) → OnOk r P → OnOk r Q → OnOk r R
map_ok_both (Ok v) P Q R f p q = f p q
map_ok_both (Err e) P Q R f p q = tt

pub map_err_both : {V E : Type 0} (r : Result V E) (P Q R : Type 0) → (P → Q → R) → OnErr r P → OnErr r Q → OnErr r R
map_err_both (Ok v) P Q R f p q = tt
map_err_both (Err e) P Q R f p q = f p q

pub map_err : {V E : Type 0} (r : Result V E) (P Q : Type 0) → (P → Q) → OnErr r P → OnErr r Q
map_err (Ok v) P Q f holds = tt
map_err (Err e) P Q f holds = f holds
