-- Words that begin with another byte than a hyphen: no flags.
use Rattle.std.proofs.Common.{◌≡◌, ℕ, ◌==◌, false, [], ◌∷◌, None, refl}
use Rattle.std.specs.Str.{bytes_eq}
use Rattle.clap.specs.Walk.{Text}
use Rattle.clap.specs.Lexer.{long_of, short_of}

pub no_dashes : (d : ℕ) (ds : Text) → (d == 45) ≡ false → bytes_eq (d ∷ ds) (45 ∷ 45 ∷ []) ≡ false
no_dashes d ds plain = rw plain refl

pub no_long : (d : ℕ) (ds : Text) → (d == 45) ≡ false → long_of (d ∷ ds) ≡ None
no_long d ds plain = rw plain refl

pub no_short : (d : ℕ) (ds : Text) → (d == 45) ≡ false → short_of (d ∷ ds) ≡ None
no_short d ds plain = rw plain refl
