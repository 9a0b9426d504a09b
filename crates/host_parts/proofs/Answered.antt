-- What an answer that came says.
use Rattle.std.proofs.Common.{◌≡◌, ℕ, ◌+◌, ◌≤◌, ap, arith}
use Rattle.std.specs.Prelude.{Bool, Option, Some, None, Result, Ok, Err, IfOk, OnErr}
use Rattle.std.specs.Option.{SomeIff}
use Rattle.host_keep.specs.Keeping.{added}

-- a Some that stands where a condition holds is there where it does
pub some_there : {A : Type 0} (o : Option A) (P : Type 0) (v : A) → SomeIff o P v → P → o ≡ Some v
some_there None P v known holds = absurd (known holds)
some_there (Some x) P v known holds = ap Some known.1

-- what holds is what an Err promises
-- a record more, or none, is none fewer
pub never_fewer : {E : Type 0} (r : Result Bool E) (n m : ℕ) → IfOk r (λ kept. m ≡ n + added kept) → OnErr r (m ≡ n) → n ≤ m
never_fewer (Ok kept) n m more same = omega (arith, more)
never_fewer (Err fault) n m more same = omega (arith, same)
