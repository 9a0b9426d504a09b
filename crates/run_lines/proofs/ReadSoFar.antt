-- What a call has read so far, and what it answers then.
use Rattle.std.proofs.Common.{◌≡◌, ℕ, ◌+◌, ◌<◌, ◌≤◌, inl, inr, true, false, List, [], ◌∷◌, ◌++◌, length, Option, refl, sym, ap, ◌∙◌, subst, arith, append_assoc, append-nil, length-append}
use Rattle.std.specs.Io.KnownBytes.{Consumes}
use Rattle.std.proofs.KnownBytes.{Consumes-nil, Consumes-trans, Consumes-kept}
use Rattle.run_lines.specs.SourceLines.{Reading, no_line, IsOneLine, IsOpen, WantsMore, ReadsOn, IsCut, IsTooLong, GoesFrom, Cuts, Finishes, Fills, FillFails}
use Rattle.run_lines.specs.declared.reader.TheConstants.{MAX_INPUT}
use Rattle.run_lines.specs.declared.reader.Next.{Next}
use Rattle.run_lines.specs.declared.reader.Next.TheVariants.{Line, TooLong, End, ReadFault, InputTooLong}

-- these bytes were read since, and are pending after those that were
pub record HasRead (old : Reading) (left : Option (List ℕ)) (new : Reading) (left' : Option (List ℕ)) : Type 0 where
  pub bytes : List ℕ
  pub consumes : Consumes left left' bytes
  pub pending : new.pending ≡ old.pending ++ bytes
  pub taken : new.taken ≡ old.taken + length bytes
  pub within : new.taken ≤ MAX_INPUT
  pub reads : ReadsOn old bytes
  pub before : new.ended ≡ false → old.ended ≡ false
  pub after : old.ended ≡ true → new.ended ≡ true

pub has_read-start : (old new : Reading) (left : Option (List ℕ)) → new.pending ≡ old.pending → new.taken ≡ old.taken → new.ended ≡ old.ended → new.taken ≤ MAX_INPUT
    → HasRead old left new left
has_read-start old new left pending taken ended within = record {
  bytes = [];
  consumes = Consumes-nil left;
  pending = pending ∙ sym (append-nil old.pending);
  taken = omega (arith, taken);
  within = within;
  reads = record { earlier = []; piece = []; parts = refl; short = omega arith; needed = inl refl };
  before = λ e. sym ended ∙ e;
  after = λ e. ended ∙ e;
}

-- where no line is there and the input goes on, a further piece is wanted
wants : (old mid : Reading) (left left' : Option (List ℕ)) (h : HasRead old left mid left') → IsOpen mid.pending → mid.ended ≡ false → WantsMore old h.bytes
wants old mid left left' h pends more =
    record { unfinished = subst IsOpen h.pending pends; more = h.before more; short = omega (arith, h.taken, h.within) }

-- what has no line has none in its prefix
one_line-prefix : (xs ys : List ℕ) → IsOneLine (xs ++ ys) → IsOneLine xs
one_line-prefix [] ys p = tt
one_line-prefix (x ∷ xs) ys p = (p.0, one_line-prefix xs ys p.1)

-- and so it was as the call began
pub wanted : (old mid : Reading) (left left' : Option (List ℕ)) → HasRead old left mid left' → IsOpen mid.pending → mid.ended ≡ false → WantsMore old []
wanted old mid left left' h pends more =
    let later : WantsMore old h.bytes = wants old mid left left' h pends more in
    record {
      unfinished = record {
        one = subst IsOneLine (sym (append-nil old.pending)) (one_line-prefix old.pending h.bytes later.unfinished.one);
        short = omega (arith, later.unfinished.short, length-append old.pending h.bytes, length-append old.pending []);
      };
      more = later.more;
      short = omega (arith, later.short);
    }

-- a further piece
pub record ReadMore (old : Reading) (left : Option (List ℕ)) (new : Reading) (left' : Option (List ℕ)) : Type 0 where
  pub bytes : List ℕ
  pub consumes : Consumes left left' bytes
  pub pending : new.pending ≡ old.pending ++ bytes
  pub taken : new.taken ≡ old.taken + length bytes
  pub reads : ReadsOn old bytes

read_more : (old mid new : Reading) (left left' left'' : Option (List ℕ)) → HasRead old left mid left' → IsOpen mid.pending → mid.ended ≡ false
    → Fills mid left' new left'' → ReadMore old left new left''
read_more old mid new left left' left'' h pends more f = record {
  bytes = h.bytes ++ f.piece;
  consumes = Consumes-trans left left' left'' h.bytes f.piece h.consumes f.consumes;
  pending = ap (λ r. r.pending) f.after ∙ ap (λ p. p ++ f.piece) h.pending ∙ append_assoc old.pending h.bytes f.piece;
  taken = omega (arith, ap (λ r. r.taken) f.after, h.taken, length-append h.bytes f.piece);
  reads = record { earlier = h.bytes; piece = f.piece; parts = refl; short = f.short; needed = inr (wants old mid left left' h pends more) };
}

pub has_read-more : (old mid new : Reading) (left left' left'' : Option (List ℕ)) → HasRead old left mid left' → IsOpen mid.pending → mid.ended ≡ false
    → Fills mid left' new left'' → new.taken ≤ MAX_INPUT → HasRead old left new left''
has_read-more old mid new left left' left'' h pends more f within =
    let r : ReadMore old left new left'' = read_more old mid new left left' left'' h pends more f in
    record {
      bytes = r.bytes;
      consumes = r.consumes;
      pending = r.pending;
      taken = r.taken;
      within = within;
      reads = r.reads;
      before = λ e. h.before more;
      after = λ e. absurd (ended_differs (sym e ∙ h.before more));
    }
  where
    ended_differs : true ≡ false → ⊥
    ended_differs e = grind (arith, e)

pub goes-cut : (answer : Next) (old mid new : Reading) (left left' : Option (List ℕ)) → HasRead old left mid left' → Cuts answer mid new → GoesFrom answer old left new left'
goes-cut Line old mid new left left' h c = record {
  bytes = h.bytes;
  consumes = h.consumes;
  goes = record {
    reads = h.reads;
    taken = c.taken ∙ h.taken;
    within = omega (arith, c.taken, h.within);
    finds = inl (subst (λ p. IsCut p new.line new.pending) h.pending c.cut);
    ended = λ e. c.ended ∙ h.after e;
  };
}
goes-cut TooLong old mid new left left' h c = record {
  bytes = h.bytes;
  consumes = h.consumes;
  goes = record {
    reads = h.reads;
    taken = c.taken ∙ h.taken;
    within = omega (arith, c.taken, h.within);
    finds = (subst IsTooLong h.pending c.cut.0, c.cut.1 ∙ h.pending);
    ended = λ e. c.ended ∙ h.after e;
  };
}
goes-cut End old mid new left left' h c = absurd c.cut
goes-cut ReadFault old mid new left left' h c = absurd c.cut
goes-cut InputTooLong old mid new left left' h c = absurd c.cut

pub goes-finish : (answer : Next) (old mid new : Reading) (left left' : Option (List ℕ)) → HasRead old left mid left' → IsOpen mid.pending → mid.ended ≡ true
    → Finishes answer mid new → GoesFrom answer old left new left'
goes-finish Line old mid new left left' h pends ended f = record {
  bytes = h.bytes;
  consumes = h.consumes;
  goes = record {
    reads = h.reads;
    taken = ap (λ r. r.taken) f.after ∙ h.taken;
    within = omega (arith, ap (λ r. r.taken) f.after, h.within);
    finds = inr (record {
      could = subst IsOpen (sym (ap (λ r. r.line) f.after)) pends;
      some = subst (λ l. 0 < length l) (sym (ap (λ r. r.line) f.after)) f.answers;
      parts = (sym h.pending ∙ sym (ap (λ r. r.line) f.after), ap (λ r. r.pending) f.after);
      at_end = ap (λ r. r.ended) f.after ∙ ended;
    });
    ended = λ e. ap (λ r. r.ended) f.after ∙ ended;
  };
}
goes-finish End old mid new left left' h pends ended f = record {
  bytes = h.bytes;
  consumes = h.consumes;
  goes = record {
    reads = h.reads;
    taken = ap (λ r. r.taken) f.after ∙ h.taken;
    within = omega (arith, ap (λ r. r.taken) f.after, h.within);
    finds = (sym h.pending ∙ f.answers, ap (λ r. r.ended) f.after ∙ ended, ap (λ r. r.pending) f.after);
    ended = λ e. ap (λ r. r.ended) f.after ∙ ended;
  };
}
goes-finish TooLong old mid new left left' h pends ended f = absurd f.answers
goes-finish ReadFault old mid new left left' h pends ended f = absurd f.answers
goes-finish InputTooLong old mid new left left' h pends ended f = absurd f.answers

goes-fault : (fault : Next) (old mid new : Reading) (left left' left'' : Option (List ℕ)) → HasRead old left mid left' → IsOpen mid.pending → mid.ended ≡ false
    → FillFails fault mid left' new left'' → GoesFrom fault old left new left''
goes-fault ReadFault old mid new left left' left'' h pends more f = record {
  bytes = h.bytes;
  consumes = Consumes-kept left left' left'' h.bytes h.consumes f.1;
  goes = record {
    reads = h.reads;
    taken = ap (λ r. r.taken) f.0 ∙ h.taken;
    within = omega (arith, ap (λ r. r.taken) f.0, h.within);
    finds = (subst IsOpen h.pending pends, ap (λ r. r.pending) f.0 ∙ h.pending, h.before more);
    ended = λ e. ap (λ r. r.ended) f.0 ∙ h.after e;
  };
}
goes-fault InputTooLong old mid new left left' left'' h pends more f =
    let r : ReadMore old left new left'' = read_more old mid new left left' left'' h pends more f.0 in
    record { bytes = r.bytes; consumes = r.consumes; goes = record { reads = r.reads; taken = r.taken; within = f.1; finds = tt; ended = λ e. absurd (ended_differs (sym e ∙ h.before more)) } }
  where
    ended_differs : true ≡ false → ⊥
    ended_differs e = grind (arith, e)
goes-fault Line old mid new left left' left'' h pends more f = absurd f
goes-fault TooLong old mid new left left' left'' h pends more f = absurd f
goes-fault End old mid new left left' left'' h pends more f = absurd f

-- where the line that was given is forgotten first
has_read-forgets : (old mid mid' : Reading) (left left' : Option (List ℕ)) → HasRead old left mid left' → mid' ≡ no_line mid → HasRead old left mid' left'
has_read-forgets old mid mid' left left' h same = record {
  bytes = h.bytes;
  consumes = h.consumes;
  pending = ap (λ r. r.pending) same ∙ h.pending;
  taken = ap (λ r. r.taken) same ∙ h.taken;
  within = omega (arith, ap (λ r. r.taken) same, h.within);
  reads = h.reads;
  before = λ e. h.before (sym (ap (λ r. r.ended) same) ∙ e);
  after = λ e. ap (λ r. r.ended) same ∙ h.after e;
}

pub goes-fault-after : (fault : Next) (old mid mid' new : Reading) (left left' left'' : Option (List ℕ)) → HasRead old left mid left'
    → (mid' ≡ no_line mid) × IsOpen mid.pending → mid'.ended ≡ false → FillFails fault mid' left' new left'' → GoesFrom fault old left new left''
goes-fault-after fault old mid mid' new left left' left'' h (same, pends) more f =
    goes-fault fault old mid' new left left' left'' (has_read-forgets old mid mid' left left' h same) (subst IsOpen (sym (ap (λ r. r.pending) same)) pends) more f

pub goes-more-after : (old mid mid' new : Reading) (left left' left'' : Option (List ℕ)) → HasRead old left mid left'
    → (mid' ≡ no_line mid) × IsOpen mid.pending → mid'.ended ≡ false → Fills mid' left' new left'' → new.taken ≤ MAX_INPUT → HasRead old left new left''
goes-more-after old mid mid' new left left' left'' h (same, pends) more f within =
    has_read-more old mid' new left left' left'' (has_read-forgets old mid mid' left left' h same) (subst IsOpen (sym (ap (λ r. r.pending) same)) pends) more f within

pub wanted-after : (old mid mid' : Reading) (left left' : Option (List ℕ)) → HasRead old left mid left'
    → (mid' ≡ no_line mid) × IsOpen mid.pending → mid'.ended ≡ false → WantsMore old []
wanted-after old mid mid' left left' h (same, pends) more =
    wanted old mid' left left' (has_read-forgets old mid mid' left left' h same) (subst IsOpen (sym (ap (λ r. r.pending) same)) pends) more

-- the source had given too much before
pub goes-too_much : (old : Reading) (left : Option (List ℕ)) → MAX_INPUT < old.taken → GoesFrom InputTooLong old left old left
goes-too_much old left much = record {
  bytes = [];
  consumes = Consumes-nil left;
  goes = record {
    reads = record { earlier = []; piece = []; parts = refl; short = omega arith; needed = inl refl };
    taken = omega arith;
    within = much;
    finds = tt;
    ended = λ e. e;
  };
}
