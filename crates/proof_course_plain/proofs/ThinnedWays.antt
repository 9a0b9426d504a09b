-- What is left out of a way, or comes several times, step by step.
use Rattle.std.proofs.Common.{◌≡◌, ℕ, inl, inr, List, [], ◌∷◌, ◌++◌, length, refl, ap, sym, ◌∙◌, subst, append_assoc}
use Rattle.std.specs.List.{remove}
use Rattle.supervision.specs.Ends.{Report}
use Rattle.proof_course.specs.Ways.{doubled}
use Rattle.proof_course.specs.Sessions.{Course, Message, Step, Up_loses, Up_doubles, Down_loses, Down_doubles, after, after_all, May, MayAll}
use Rattle.proof_course.specs.SessionFacts.{CourseFacts}
use Rattle.proof_course_plain.specs.Ways.{Thinned, Goes}

-- ---- courses one after another

steps_then : (c : Course) (first later : List Step) → after_all c (first ++ later) ≡ after_all (after_all c first) later
steps_then c [] later = refl
steps_then c (step ∷ first) later = steps_then (after c step) first later

may_then : (c : Course) (first later : List Step) → MayAll c first → MayAll (after_all c first) later → MayAll c (first ++ later)
may_then c [] later may more = more
may_then c (step ∷ first) later may more = (may.0, may_then (after c step) first later may.1 more)

pub goes_nowhere : (c : Course) → Goes c c
goes_nowhere c = record { steps = []; may = tt; is = refl }

pub goes_on : (a b c : Course) → Goes a b → Goes b c → Goes a c
goes_on a b c first later = record {
  steps = first.steps ++ later.steps;
  may = may_then a first.steps later.steps first.may (subst (λ (x : Course). MayAll x later.steps) first.is later.may);
  is = later.is ∙ (ap (λ (x : Course). after_all x later.steps) first.is ∙ sym (steps_then a first.steps later.steps));
}

pub goes_once : (a : Course) (step : Step) → May a step → Goes a (after a step)
goes_once a step may = record { steps = step ∷ []; may = (may, tt); is = refl }

-- the facts of courses
abbrev pub CourseLaw : Type 0
CourseLaw = (c : Course) (steps : List Step) → CourseFacts c → MayAll c steps → CourseFacts (after_all c steps)

pub course_goes : CourseLaw → (c later : Course) → CourseFacts c → Goes c later → CourseFacts later
course_goes law c later course goes = subst (λ (x : Course). CourseFacts x) (sym goes.is) (law c goes.steps course goes.may)

-- ---- places of a list

pub removed_at : {X : Type 0} (prefix : List X) (x : X) (back : List X) → remove (prefix ++ x ∷ back) (length prefix) ≡ prefix ++ back
removed_at [] x back = refl
removed_at (y ∷ prefix) x back = ap (λ l. y ∷ l) (removed_at prefix x back)

pub doubled_at : {X : Type 0} (prefix : List X) (x : X) (back : List X) → doubled (prefix ++ x ∷ back) (length prefix) ≡ (prefix ++ x ∷ []) ++ x ∷ back
doubled_at [] x back = refl
doubled_at (y ∷ prefix) x back = ap (λ l. y ∷ l) (doubled_at prefix x back)

-- ---- a way of a course, whichever it is: with other things on it, one lost, one doubled

module _ {X : Type 0} (put : List X → Course) (loses doubles : ℕ → Step)
    (lost : (xs : List X) (at : ℕ) → after (put xs) (loses at) ≡ put (remove xs at)) (twice : (xs : List X) (at : ℕ) → after (put xs) (doubles at) ≡ put (doubled xs at))
    (may_lose : (xs : List X) (at : ℕ) → May (put xs) (loses at)) (may_double : (xs : List X) (at : ℕ) → May (put xs) (doubles at)) where
  loses_one : (prefix : List X) (x : X) (back : List X) → Goes (put (prefix ++ x ∷ back)) (put (prefix ++ back))
  loses_one prefix x back = record {
    steps = loses (length prefix) ∷ [];
    may = (may_lose (prefix ++ x ∷ back) (length prefix), tt);
    is = ap put (sym (removed_at prefix x back)) ∙ sym (lost (prefix ++ x ∷ back) (length prefix));
  }

  doubles_one : (prefix : List X) (x : X) (back : List X) → Goes (put (prefix ++ x ∷ back)) (put ((prefix ++ x ∷ []) ++ x ∷ back))
  doubles_one prefix x back = record {
    steps = doubles (length prefix) ∷ [];
    may = (may_double (prefix ++ x ∷ back) (length prefix), tt);
    is = ap put (sym (doubled_at prefix x back)) ∙ sym (twice (prefix ++ x ∷ back) (length prefix));
  }

  loses_all : (prefix back : List X) → Goes (put (prefix ++ back)) (put (prefix ++ []))
  loses_all prefix [] = goes_nowhere (put (prefix ++ []))
  loses_all prefix (x ∷ back) = goes_on (put (prefix ++ x ∷ back)) (put (prefix ++ back)) (put (prefix ++ [])) (loses_one prefix x back) (loses_all prefix back)

  thins : (prefix old new : List X) → Thinned old new → Goes (put (prefix ++ old)) (put (prefix ++ new))
  thins prefix old [] is = loses_all prefix old
  thins prefix [] (y ∷ new) is = absurd is
  thins prefix (x ∷ old) (y ∷ new) (inl (same, more)) =
      let first : Goes (put (prefix ++ x ∷ old)) (put ((prefix ++ x ∷ []) ++ x ∷ old)) = doubles_one prefix x old in
      let later : Goes (put ((prefix ++ x ∷ []) ++ x ∷ old)) (put ((prefix ++ x ∷ []) ++ new)) = thins (prefix ++ x ∷ []) (x ∷ old) new more in
      let joined : (prefix ++ x ∷ []) ++ new ≡ prefix ++ y ∷ new = append_assoc prefix (x ∷ []) new ∙ ap (λ z. prefix ++ z ∷ new) (sym same) in
      subst (λ l. Goes (put (prefix ++ x ∷ old)) (put l)) joined (goes_on (put (prefix ++ x ∷ old)) (put ((prefix ++ x ∷ []) ++ x ∷ old)) (put ((prefix ++ x ∷ []) ++ new)) first later)
  thins prefix (x ∷ old) (y ∷ new) (inr more) =
      goes_on (put (prefix ++ x ∷ old)) (put (prefix ++ old)) (put (prefix ++ y ∷ new)) (loses_one prefix x old) (thins prefix old (y ∷ new) more)

pub up_thins : (c : Course) (now : List Message) → Thinned c.up now → Goes c (record c { up = now })
up_thins c now is =
    thins (λ (xs : List Message). record c { up = xs }) Up_loses Up_doubles (λ xs at. refl) (λ xs at. refl) (λ xs at. tt) (λ xs at. tt) [] c.up now is

pub down_thins : (c : Course) (now : List Report) → Thinned c.down now → Goes c (record c { down = now })
down_thins c now is =
    thins (λ (xs : List Report). record c { down = xs }) Down_loses Down_doubles (λ xs at. refl) (λ xs at. refl) (λ xs at. tt) (λ xs at. tt) [] c.down now is
