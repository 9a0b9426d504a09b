-- The lines of an input, while it is read.
use Rattle.std.proofs.Common.{◌≡◌, ℕ, ◌+◌, ◌<◌, ◌⊎◌, inl, inr, Bool, true, false, List, [], ◌∷◌, ◌++◌, length, Option, refl, sym, ap, ◌∙◌, subst, arith, append_assoc, append-nil, length-append}
use Rattle.std.specs.Io.KnownBytes.{IsAtEnd}
use Rattle.run_lines.specs.SourceLines.{Reading, IsCut, IsLast, IsTooLong, WantsMore, ReadsOn}
use Rattle.run_lines.specs.declared.reader.TheConstants.{MAX_INPUT}
use Rattle.run_lines.specs.Input.{FirstLines, IsUnended, EndsUnended, AreLines, AreFirst, IsNextLine, ReadInTurn}
use Rattle.run_lines.specs.Run.{IsShort, IsTooMuch}

pub differs : true ≡ false → ⊥
differs e = grind (arith, e)

pub cut-append : (bytes line rest more : List ℕ) → IsCut bytes line rest → IsCut (bytes ++ more) line (rest ++ more)
cut-append bytes line rest more c = record {
  one = c.one;
  short = c.short;
  parts = ap (λ b. b ++ more) c.parts ∙ append_assoc line (10 ∷ rest) more;
}

pub first_lines-append : (input : List ℕ) (texts : List (List ℕ)) (rest more : List ℕ) → FirstLines input texts rest → FirstLines (input ++ more) texts (rest ++ more)
first_lines-append input [] rest more f = ap (λ b. b ++ more) f
first_lines-append input (text ∷ texts) rest more f =
    (f.0 ++ more, cut-append input text f.0 more f.1, first_lines-append f.0 texts rest more f.2)

pub first_lines-more : (input : List ℕ) (texts : List (List ℕ)) (rest text after : List ℕ) → FirstLines input texts rest → IsCut rest text after
    → FirstLines input (texts ++ text ∷ []) after
first_lines-more input [] rest text after f c = (after, subst (λ b. IsCut b text after) (sym f) c, refl)
first_lines-more input (t ∷ texts) rest text after f c = (f.0, f.1, first_lines-more f.0 texts rest text after f.2 c)

-- where the reader stands: after these lines, or after all of them and at the end
abbrev pub StandsAfter : List ℕ → List (List ℕ) → Bool → List ℕ → Type 0
StandsAfter input texts ended pending = FirstLines input texts pending ⊎ (EndsUnended input texts × (ended ≡ true) × (pending ≡ []))

-- what was read in one call, while a line was wanted
pub record ReadNow (input : List ℕ) (texts : List (List ℕ)) (old : Reading) (bytes : List ℕ) : Type 0 where
  pub in_turn : ReadInTurn (input ++ bytes) texts
  pub stands : StandsAfter (input ++ bytes) texts old.ended (old.pending ++ bytes)

still : (input : List ℕ) (texts : List (List ℕ)) (old : Reading) (bytes : List ℕ) → bytes ≡ [] → ReadInTurn input texts → StandsAfter input texts old.ended old.pending
    → ReadNow input texts old bytes
still input texts old bytes none turn stands =
    let same : input ++ bytes ≡ input = ap (λ b. input ++ b) none ∙ append-nil input in
    let pending : old.pending ++ bytes ≡ old.pending = ap (λ b. old.pending ++ b) none ∙ append-nil old.pending in
    record {
      in_turn = subst (λ i. ReadInTurn i texts) (sym same) turn;
      stands = subst (λ i. StandsAfter i texts old.ended (old.pending ++ bytes)) (sym same) (subst (λ p. StandsAfter input texts old.ended p) (sym pending) stands);
    }

-- a piece was wanted, so no unended line was given before
wanted_lines : (input : List ℕ) (texts : List (List ℕ)) (old : Reading) (earlier : List ℕ) → WantsMore old earlier → StandsAfter input texts old.ended old.pending
    → FirstLines (input ++ earlier) texts (old.pending ++ earlier)
wanted_lines input texts old earlier w (inl f) = first_lines-append input texts old.pending earlier f
wanted_lines input texts old earlier w (inr e) = absurd (differs (sym e.1 ∙ w.more))

wanted_stands : (input : List ℕ) (texts : List (List ℕ)) (old : Reading) (bytes : List ℕ) → old.ended ≡ false → StandsAfter input texts old.ended old.pending
    → StandsAfter (input ++ bytes) texts old.ended (old.pending ++ bytes)
wanted_stands input texts old bytes more (inl f) = inl (first_lines-append input texts old.pending bytes f)
wanted_stands input texts old bytes more (inr e) = absurd (differs (sym e.1 ∙ more))

pub read_now : (input : List ℕ) (texts : List (List ℕ)) (old : Reading) (bytes : List ℕ) → ReadsOn old bytes → ReadInTurn input texts
    → StandsAfter input texts old.ended old.pending → ReadNow input texts old bytes
read_now input texts old bytes reads turn stands = go reads.needed
  where
    go : (bytes ≡ []) ⊎ WantsMore old reads.earlier → ReadNow input texts old bytes
    go (inl none) = still input texts old bytes none turn stands
    go (inr w) = record {
      in_turn = record {
        earlier = input ++ reads.earlier;
        piece = reads.piece;
        parts = ap (λ b. input ++ b) reads.parts ∙ sym (append_assoc input reads.earlier reads.piece);
        short = reads.short;
        prefix = texts;
        later = [];
        are = sym (append-nil texts);
        rest = old.pending ++ reads.earlier;
        lines = wanted_lines input texts old reads.earlier w stands;
        unfinished = w.unfinished;
      };
      stands = wanted_stands input texts old bytes w.more stands;
    }

-- ---- what an answer says of the lines

-- a line that was found is the next one
pub record FoundLine (input : List ℕ) (texts : List (List ℕ)) (left : Option (List ℕ)) (rest : List ℕ) (new : Reading) : Type 0 where
  pub lines : FirstLines input texts rest
  pub next : IsNextLine rest new.line left
  pub stands : StandsAfter input (texts ++ new.line ∷ []) new.ended new.pending

nothing_cut : (line rest : List ℕ) → IsCut [] line rest → ⊥
nothing_cut [] rest c = grind (arith, ap length c.parts)
nothing_cut (x ∷ xs) rest c = grind (arith, ap length c.parts)

pub found_line : (input : List ℕ) (texts : List (List ℕ)) (left : Option (List ℕ)) (ended : Bool) (rest : List ℕ) (new : Reading) → StandsAfter input texts ended rest
    → (new.ended ≡ true → IsAtEnd left) → IsCut rest new.line new.pending ⊎ IsLast rest new.line new.pending new.ended → FoundLine input texts left rest new
found_line input texts left ended rest new (inl f) at_end (inl c) =
    record { lines = f; next = inl (new.pending, c); stands = inl (first_lines-more input texts rest new.line new.pending f c) }
found_line input texts left ended rest new (inl f) at_end (inr l) =
    let unended : IsUnended new.line = record { some = l.some; could = l.could } in
    record {
      lines = f;
      next = inr (l.parts.0, unended, at_end l.at_end);
      stands = inr (
        record { prefix = texts; last = new.line; are = refl; before = subst (λ r. FirstLines input texts r) l.parts.0 f; unended = unended },
        l.at_end,
        l.parts.1,
      );
    }
found_line input texts left ended rest new (inr e) at_end (inl c) = absurd (nothing_cut new.line new.pending (subst (λ r. IsCut r new.line new.pending) e.2 c))
found_line input texts left ended rest new (inr e) at_end (inr l) =
    let none : new.line ≡ [] = sym l.parts.0 ∙ e.2 in
    absurd (omega (arith, l.some, ap length none))

-- nothing is left
pub found_end : (input : List ℕ) (texts : List (List ℕ)) (ended : Bool) (rest : List ℕ) → StandsAfter input texts ended rest → rest ≡ [] → AreLines input texts
found_end input texts ended rest (inl f) none = inl (subst (λ r. FirstLines input texts r) none f)
found_end input texts ended rest (inr e) none = inr e.0

-- too long a line follows
pub found_long : (input : List ℕ) (texts : List (List ℕ)) (ended : Bool) (rest : List ℕ) → StandsAfter input texts ended rest → IsTooLong rest → FirstLines input texts rest
found_long input texts ended rest (inl f) long = f
found_long input texts ended rest (inr e) long = absurd (omega (arith, long.long, ap length e.2))

-- no whole line follows, and the input has not ended
pub found_unfinished : (input : List ℕ) (texts : List (List ℕ)) (ended : Bool) (rest : List ℕ) → StandsAfter input texts ended rest → ended ≡ false → FirstLines input texts rest
found_unfinished input texts ended rest (inl f) more = f
found_unfinished input texts ended rest (inr e) more = absurd (differs (sym e.1 ∙ more))

-- the piece that was too much
pub found_much : (input : List ℕ) (texts : List (List ℕ)) (old : Reading) (bytes : List ℕ) (taken : ℕ) → ReadsOn old bytes → StandsAfter input texts old.ended old.pending
    → old.taken ≡ length input → taken ≡ old.taken + length bytes → IsShort input → MAX_INPUT < taken → IsTooMuch (input ++ bytes) texts
found_much input texts old bytes taken reads stands at after short much = go reads.needed
  where
    go : (bytes ≡ []) ⊎ WantsMore old reads.earlier → IsTooMuch (input ++ bytes) texts
    go (inl none) = absurd (omega (arith, at, after, short, much, ap length none))
    go (inr w) = record {
      before = input ++ reads.earlier;
      piece = reads.piece;
      parts = ap (λ b. input ++ b) reads.parts ∙ sym (append_assoc input reads.earlier reads.piece);
      short = (omega (arith, w.short, at, length-append input reads.earlier), reads.short);
      long = omega (arith, at, after, much, length-append input bytes);
      ran = record { rest = old.pending ++ reads.earlier; lines = wanted_lines input texts old reads.earlier w stands; unfinished = w.unfinished };
    }

-- where the reader stands, its lines are first ones
pub stands_first : (input : List ℕ) (texts : List (List ℕ)) (left : Option (List ℕ)) (ended : Bool) (pending : List ℕ) → StandsAfter input texts ended pending
    → (ended ≡ true → IsAtEnd left) → AreFirst input texts left
stands_first input texts left ended pending (inl f) at_end = inl (pending, f)
stands_first input texts left ended pending (inr e) at_end = inr (e.0, at_end e.1)

-- what is at its end stays there
pub still_at_end : (before after : Bool) (left left' : Option (List ℕ)) → (before ≡ true → IsAtEnd left) → (before ≡ false → after ≡ true → IsAtEnd left')
    → (left' ≡ left) ⊎ (before ≡ false) → after ≡ true → IsAtEnd left'
still_at_end true after left left' was comes (inl same) e = subst (λ l. IsAtEnd l) (sym same) (was refl)
still_at_end true after left left' was comes (inr other) e = absurd (differs other)
still_at_end false after left left' was comes same e = comes refl e

-- a source that was not touched has left what it had
pub same_or_more : {S : Type 0} (old new : S) (reading : Reading) (left : S → Option (List ℕ)) → (new ≡ old) ⊎ WantsMore reading [] → (left new ≡ left old) ⊎ (reading.ended ≡ false)
same_or_more old new reading left (inl same) = inl (ap left same)
same_or_more old new reading left (inr w) = inr w.more
