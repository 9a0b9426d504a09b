-- The lines that were run so far, and how they end.
use Rattle.std.proofs.Common.{◌≡◌, ◌≢◌, ℕ, ◌+◌, inl, inr, true, List, [], ◌∷◌, ◌++◌, length, Option, None, refl, sym, ap, ◌∙◌, subst, arith, append_assoc, append-nil, length-append}
use Rattle.std.proofs.lemmas.Grind.{flat_map-append}
use Rattle.std.specs.Io.KnownBytes.{Appends, Consumes, IsAtEnd}
use Rattle.std.proofs.KnownBytes.{Appends-nil, Consumes-nil, Consumes-trans}
use Rattle.zw_words.specs.declared.fault.LineFault.{LineFault}
use Rattle.run_lines.specs.SourceLines.{Reading, nothing_read, GoesFrom}
use Rattle.run_lines.specs.declared.reader.Next.{Next}
use Rattle.run_lines.specs.declared.reader.Next.TheVariants.{Line, TooLong, End, ReadFault, InputTooLong}
use Rattle.run_lines.specs.Machine.{RunsAll}
use Rattle.run_lines.specs.Input.{FirstLines, IsNextLine, ReadInTurn}
use Rattle.run_lines.specs.Writing.{text_of, AppendsPrefix}
use Rattle.run_lines.specs.Run.{LinesRan, IsShort}
use Rattle.run_lines.specs.Text.{TextRan, TextFails, end_of, end_at}
use Rattle.run_lines.specs.declared.running.LinesEnd.TheVariants.{NoMemory}
use Rattle.run_lines.specs.declared.running.TextFault.{TextFault}
use Rattle.run_lines.specs.declared.running.TextFault.TheVariants.{Bad as bad_text, Write as no_write, NoMemory as no_memory}
use Rattle.run_lines.proofs.InputLines.{StandsAfter, ReadNow, FoundLine, read_now, found_line, found_end, found_long, found_unfinished, found_much, stands_first, differs}
use Rattle.run_lines.proofs.Pieces.{Appends-append, AppendsPrefix-append, AppendsPrefix-whole}

pub text_of-append : (first later : List (List ℕ)) → text_of (first ++ later) ≡ text_of first ++ text_of later
text_of-append first later = flat_map-append (λ (piece : List ℕ). piece) first later

-- what was read of the input, and where the reader stands in it
pub record StandsAt (left left' : Option (List ℕ)) (input : List ℕ) (texts : List (List ℕ)) (reading : Reading) : Type 0 where
  pub read : Consumes left left' input
  pub in_turn : ReadInTurn input texts
  pub stands : StandsAfter input texts reading.ended reading.pending
  pub taken : reading.taken ≡ length input
  pub short : IsShort input
  pub at_end : reading.ended ≡ true → IsAtEnd left'

-- the reader went on, and this is what was read by then
pub record WentOn (left left' : Option (List ℕ)) (input : List ℕ) (texts : List (List ℕ)) (old : Reading) (bytes : List ℕ) (new : Reading) : Type 0 where
  pub read : Consumes left left' (input ++ bytes)
  pub now : ReadNow input texts old bytes
  pub taken : new.taken ≡ length (input ++ bytes)

pub went_on : (answer : Next) (left left' left'' : Option (List ℕ)) (input : List ℕ) (texts : List (List ℕ)) (old new : Reading) → StandsAt left left' input texts old
    → (g : GoesFrom answer old left' new left'') → WentOn left left'' input texts old g.bytes new
went_on answer left left' left'' input texts old new s g = record {
  read = Consumes-trans left left' left'' input g.bytes s.read g.consumes;
  now = read_now input texts old g.bytes g.goes.reads s.in_turn s.stands;
  taken = omega (arith, g.goes.taken, s.taken, length-append input g.bytes);
}

more_texts : (input : List ℕ) (texts more : List (List ℕ)) → ReadInTurn input texts → ReadInTurn input (texts ++ more)
more_texts input texts more t = record {
  earlier = t.earlier;
  piece = t.piece;
  parts = t.parts;
  short = t.short;
  prefix = t.prefix;
  later = t.later ++ more;
  are = ap (λ ts. ts ++ more) t.are ∙ append_assoc t.prefix t.later more;
  rest = t.rest;
  lines = t.lines;
  unfinished = t.unfinished;
}

-- a line was given
pub record GotLine (left left' : Option (List ℕ)) (input : List ℕ) (texts : List (List ℕ)) (new : Reading) : Type 0 where
  pub input' : List ℕ
  pub read : Consumes left left' input'
  pub in_turn : ReadInTurn input' texts
  pub rest : List ℕ
  pub lines : FirstLines input' texts rest
  pub next : IsNextLine rest new.line left'
  pub after : StandsAt left left' input' (texts ++ new.line ∷ []) new

pub got_line : (left left' left'' : Option (List ℕ)) (input : List ℕ) (texts : List (List ℕ)) (old new : Reading) → StandsAt left left' input texts old
    → GoesFrom Line old left' new left'' → (new.ended ≡ true → IsAtEnd left'') → GotLine left left'' input texts new
got_line left left' left'' input texts old new s g at_end =
    let w : WentOn left left'' input texts old g.bytes new = went_on Line left left' left'' input texts old new s g in
    let f : FoundLine (input ++ g.bytes) texts left'' (old.pending ++ g.bytes) new =
    found_line (input ++ g.bytes) texts left'' old.ended (old.pending ++ g.bytes) new w.now.stands at_end g.goes.finds in
    record {
      input' = input ++ g.bytes;
      read = w.read;
      in_turn = w.now.in_turn;
      rest = old.pending ++ g.bytes;
      lines = f.lines;
      next = f.next;
      after = record {
        read = w.read;
        in_turn = more_texts (input ++ g.bytes) texts (new.line ∷ []) w.now.in_turn;
        stands = f.stands;
        taken = w.taken;
        short = omega (arith, g.goes.within, w.taken);
        at_end = at_end;
      };
    }

module _ {X : Type 0} (refuses : List ℕ → Option LineFault) (runs stops : X → List ℕ → X → List (List ℕ) → Type 0) where
  pub runs-more : (old mid new : X) (texts : List (List ℕ)) (text : List ℕ) (pieces answer : List (List ℕ)) → RunsAll refuses runs old texts mid pieces
      → refuses text ≡ None → runs mid text new answer → RunsAll refuses runs old (texts ++ text ∷ []) new (pieces ++ answer)
  runs-more old mid new [] text pieces answer ran is_line run = (
    new,
    answer,
    [],
    is_line,
    subst (λ (x : X). runs x text new answer) ran.0 run,
    (refl, refl),
    ap (λ (ps : List (List ℕ)). ps ++ answer) ran.1 ∙ sym (append-nil answer),
  )
  runs-more old mid new (t ∷ texts) text pieces answer ran is_line run = (
    ran.0,
    ran.1,
    ran.2 ++ answer,
    ran.3,
    ran.4,
    runs-more ran.0 mid new texts text ran.2 answer ran.5 is_line run,
    ap (λ (ps : List (List ℕ)). ps ++ answer) ran.6 ∙ append_assoc ran.1 ran.2 answer,
  )

  -- the lines that were given so far were run, and their answers written
  pub record SoFar (left left' : Option (List ℕ)) (reading : Reading) (old new : X) (sink sink' : Option (List ℕ)) (number : ℕ) : Type 0 where
    pub input : List ℕ
    pub texts : List (List ℕ)
    pub pieces : List (List ℕ)
    pub at : StandsAt left left' input texts reading
    pub count : number ≡ length texts + 1
    pub ran : RunsAll refuses runs old texts new pieces
    pub written : Appends sink sink' (text_of pieces)

  pub so_far-start : (left : Option (List ℕ)) (reading : Reading) (x : X) (sink : Option (List ℕ)) → reading ≡ nothing_read → SoFar left left reading x x sink sink 1
  so_far-start left reading x sink is = record {
    input = [];
    texts = [];
    pieces = [];
    at = subst (λ (r : Reading). StandsAt left left [] [] r) (sym is) (record {
      read = Consumes-nil left;
      in_turn = record {
        earlier = [];
        piece = [];
        parts = refl;
        short = omega arith;
        prefix = [];
        later = [];
        are = refl;
        rest = [];
        lines = refl;
        unfinished = record { one = tt; short = omega arith };
      };
      stands = inl refl;
      taken = refl;
      short = omega arith;
      at_end = λ e. absurd (differs (sym e));
    });
    count = refl;
    ran = (refl, refl);
    written = Appends-nil sink;
  }

  -- one more line was given, run and answered
  pub so_far-more : (left left' left'' : Option (List ℕ)) (reading next : Reading) (old mid new : X) (sink sink' sink'' : Option (List ℕ)) (number : ℕ) (text : List ℕ)
      → SoFar left left' reading old mid sink sink' number → GoesFrom Line reading left' next left'' → (next.ended ≡ true → IsAtEnd left'') → text ≡ next.line
      → refuses text ≡ None → TextRan runs mid text new (Appends sink' sink'') → SoFar left left'' next old new sink sink'' (number + 1)
  so_far-more left left' left'' reading next old mid new sink sink' sink'' number text s g at_end is is_line t =
      let got : GotLine left left'' s.input s.texts next = got_line left left' left'' s.input s.texts reading next s.at g at_end in
      record {
        input = got.input';
        texts = s.texts ++ text ∷ [];
        pieces = s.pieces ++ t.pieces;
        at = subst (λ (x : List ℕ). StandsAt left left'' got.input' (s.texts ++ x ∷ []) next) (sym is) got.after;
        count = omega (arith, s.count, length-append s.texts (text ∷ []));
        ran = runs-more old mid new s.texts text s.pieces t.pieces s.ran is_line t.ran;
        written = subst (λ (bytes : List ℕ). Appends sink sink'' bytes) (sym (text_of-append s.pieces t.pieces))
            (Appends-append sink sink' sink'' (text_of s.pieces) (text_of t.pieces) s.written t.written);
      }

  -- the reader gave no line
  pub ran-ended : (next : Next) → next ≢ Line → (left left' left'' : Option (List ℕ)) (place last : Reading) (old new : X) (sink sink' : Option (List ℕ)) (number : ℕ)
      → SoFar left left' place old new sink sink' number → GoesFrom next place left' last left'' → (last.ended ≡ true → IsAtEnd left'')
      → LinesRan (end_of next number) refuses runs stops left left'' old new sink sink'
  ran-ended Line other left left' left'' place last old new sink sink' number s g at_end = absurd (other refl)
  ran-ended End other left left' left'' place last old new sink sink' number s g at_end =
      let w : WentOn left left'' s.input s.texts place g.bytes last = went_on End left left' left'' s.input s.texts place last s.at g in
      record {
        input = s.input ++ g.bytes;
        texts = s.texts;
        pieces = s.pieces;
        read = w.read;
        in_turn = w.now.in_turn;
        ended = (
          found_end (s.input ++ g.bytes) s.texts place.ended (place.pending ++ g.bytes) w.now.stands g.goes.finds.0,
          at_end g.goes.finds.1,
          omega (arith, g.goes.within, w.taken),
        );
        ran = s.ran;
        written = s.written;
      }
  ran-ended TooLong other left left' left'' place last old new sink sink' number s g at_end =
      let w : WentOn left left'' s.input s.texts place g.bytes last = went_on TooLong left left' left'' s.input s.texts place last s.at g in
      record {
        input = s.input ++ g.bytes;
        texts = s.texts;
        pieces = s.pieces;
        read = w.read;
        in_turn = w.now.in_turn;
        ended = (
          s.count,
          record {
            rest = place.pending ++ g.bytes;
            lines = found_long (s.input ++ g.bytes) s.texts place.ended (place.pending ++ g.bytes) w.now.stands g.goes.finds.0;
            fails = inl (g.goes.finds.0, refl);
          },
          omega (arith, g.goes.within, w.taken),
        );
        ran = s.ran;
        written = s.written;
      }
  ran-ended ReadFault other left left' left'' place last old new sink sink' number s g at_end =
      let w : WentOn left left'' s.input s.texts place g.bytes last = went_on ReadFault left left' left'' s.input s.texts place last s.at g in
      record {
        input = s.input ++ g.bytes;
        texts = s.texts;
        pieces = s.pieces;
        read = w.read;
        in_turn = w.now.in_turn;
        ended = (
          record {
            rest = place.pending ++ g.bytes;
            lines = found_unfinished (s.input ++ g.bytes) s.texts place.ended (place.pending ++ g.bytes) w.now.stands g.goes.finds.2;
            unfinished = g.goes.finds.0;
          },
          omega (arith, g.goes.within, w.taken),
        );
        ran = s.ran;
        written = s.written;
      }
  ran-ended InputTooLong other left left' left'' place last old new sink sink' number s g at_end =
      let w : WentOn left left'' s.input s.texts place g.bytes last = went_on InputTooLong left left' left'' s.input s.texts place last s.at g in
      record {
        input = s.input ++ g.bytes;
        texts = s.texts;
        pieces = s.pieces;
        read = w.read;
        in_turn = w.now.in_turn;
        ended = found_much s.input s.texts place g.bytes last.taken g.goes.reads s.at.stands s.at.taken g.goes.taken s.at.short g.goes.within;
        ran = s.ran;
        written = s.written;
      }

  -- the text of the next line was not run whole, or not answered
  pub ran-stopped : (fault : TextFault) (left left' left'' : Option (List ℕ)) (place next : Reading) (old mid new : X) (sink sink' sink'' : Option (List ℕ)) (number : ℕ) (text : List ℕ)
      → SoFar left left' place old mid sink sink' number → GoesFrom Line place left' next left'' → (next.ended ≡ true → IsAtEnd left'') → text ≡ next.line
      → TextFails fault runs stops (refuses text) mid text new sink' sink''
      → LinesRan (end_at fault number) refuses runs stops left left'' old new sink sink''
  ran-stopped (bad_text fault) left left' left'' place next old mid new sink sink' sink'' number text s g at_end is f =
      let got : GotLine left left'' s.input s.texts next = got_line left left' left'' s.input s.texts place next s.at g at_end in
      record {
        input = got.input';
        texts = s.texts;
        pieces = s.pieces;
        read = got.read;
        in_turn = got.in_turn;
        ended = (
          s.count,
          record { rest = got.rest; lines = got.lines; fails = inr (text, subst (λ (x : List ℕ). IsNextLine got.rest x left'') (sym is) got.next, f.0) },
          got.after.short,
        );
        ran = subst (λ (x : X). RunsAll refuses runs old s.texts x s.pieces) (sym f.1) s.ran;
        written = subst (λ (k : Option (List ℕ)). Appends sink k (text_of s.pieces)) (sym f.2) s.written;
      }
  ran-stopped no_write left left' left'' place next old mid new sink sink' sink'' number text s g at_end is f =
      let got : GotLine left left'' s.input s.texts next = got_line left left' left'' s.input s.texts place next s.at g at_end in
      let at : StandsAt left left'' got.input' (s.texts ++ text ∷ []) next = subst (λ (x : List ℕ). StandsAt left left'' got.input' (s.texts ++ x ∷ []) next) (sym is) got.after in
      record {
        input = got.input';
        texts = s.texts ++ text ∷ [];
        pieces = s.pieces ++ f.1.pieces;
        read = got.read;
        in_turn = at.in_turn;
        ended = (stands_first got.input' (s.texts ++ text ∷ []) left'' next.ended next.pending at.stands at_end, got.after.short);
        ran = runs-more old mid new s.texts text s.pieces f.1.pieces s.ran f.0 f.1.ran;
        written = subst (λ (bytes : List ℕ). AppendsPrefix sink sink'' bytes) (sym (text_of-append s.pieces f.1.pieces))
            (AppendsPrefix-append sink sink' sink'' (text_of s.pieces) (text_of f.1.pieces) s.written f.1.written);
      }
  ran-stopped no_memory left left' left'' place next old mid new sink sink' sink'' number text s g at_end is f =
      let got : GotLine left left'' s.input s.texts next = got_line left left' left'' s.input s.texts place next s.at g at_end in
      let at : StandsAt left left'' got.input' (s.texts ++ text ∷ []) next = subst (λ (x : List ℕ). StandsAt left left'' got.input' (s.texts ++ x ∷ []) next) (sym is) got.after in
      record {
        input = got.input';
        texts = s.texts ++ text ∷ [];
        pieces = s.pieces ++ f.pieces;
        read = got.read;
        in_turn = at.in_turn;
        ended = (stands_first got.input' (s.texts ++ text ∷ []) left'' next.ended next.pending at.stands at_end, got.after.short);
        ran = inr (record { prefix = s.texts; text = text; mid = mid; before = s.pieces; answer = f.pieces; texts_are = refl; ran = s.ran; stopped = f.ran; pieces_are = refl });
        written = subst (λ (bytes : List ℕ). AppendsPrefix sink sink'' bytes) (sym (text_of-append s.pieces f.pieces))
            (AppendsPrefix-append sink sink' sink'' (text_of s.pieces) (text_of f.pieces) s.written f.written);
      }

  -- there is no number for a further line
  pub ran-all_numbers : (left left' : Option (List ℕ)) (place : Reading) (old new : X) (sink sink' : Option (List ℕ)) (number : ℕ)
      → SoFar left left' place old new sink sink' number → LinesRan NoMemory refuses runs stops left left' old new sink sink'
  ran-all_numbers left left' place old new sink sink' number s = record {
    input = s.input;
    texts = s.texts;
    pieces = s.pieces;
    read = s.at.read;
    in_turn = s.at.in_turn;
    ended = (stands_first s.input s.texts left' place.ended place.pending s.at.stands s.at.at_end, s.at.short);
    ran = inl s.ran;
    written = subst (λ (bytes : List ℕ). AppendsPrefix sink sink' bytes) (append-nil (text_of s.pieces)) (AppendsPrefix-whole sink sink' (text_of s.pieces) [] s.written);
  }
