-- What an answer that came says.
use Rattle.std.proofs.Common.{◌≡◌, sym, ◌∙◌}
use Rattle.std.specs.Prelude.{Option, Some, None, Result, Ok, Err, IsOk, OnOk}
use Rattle.std.specs.Option.{SomeIff}

-- an Ok gives what it promises
pub on_ok : {A E : Type 0} (r : Result A E) (P : Type 0) → IsOk r → OnOk r P → P
on_ok (Ok value) P is promised = promised
on_ok (Err fault) P is promised = cc

-- so does a Some
pub some_is : {A : Type 0} (o : Option A) (P : Type 0) (v x : A) → SomeIff o P v → o ≡ Some x → x ≡ v
some_is None P v x known found = cc
some_is (Some y) P v x known found = let same : y ≡ x = cc in sym same ∙ known.1
