-- Logs that go on: what is counted of them, and the frames with their counts.
use Rattle.std.proofs.Common.{◌≡◌, ℕ, zero, suc, ◌+◌, ◌<◌, ◌≤◌, ◌==◌, if◌then◌else◌, Bool, true, false, Option, Some, None, List, [], ◌∷◌, ◌++◌, length, replicate, slice_get, refl, ap, sym, subst, ◌∙◌, append_assoc, add_assoc, arith}
use Rattle.std.proofs.lemmas.List.{append-nil}
use Rattle.air_frames.specs.declared.frame.Departure.{Departure}
use Rattle.air_frames.specs.declared.frame.Heading.{Heading}
use Rattle.air_frames.specs.Flown.{Flown}
use Rattle.air_frames.specs.History.{Mark, Goes, Begins, goes_in, begins_in, last_in, last_after, news_after, new_in, through, since, departure_at, stamped, GoBetweenNodes}

pub goes_in-append : (xs ys : List Mark) → goes_in (xs ++ ys) ≡ goes_in xs + goes_in ys
goes_in-append [] ys = omega arith
goes_in-append (Goes d ∷ xs) ys = omega (arith, goes_in-append xs ys)
goes_in-append (Begins n ∷ xs) ys = goes_in-append xs ys

pub begins_in-append : (node : ℕ) (xs ys : List Mark) → begins_in node (xs ++ ys) ≡ begins_in node xs + begins_in node ys
begins_in-append node [] ys = omega arith
begins_in-append node (Goes d ∷ xs) ys = begins_in-append node xs ys
begins_in-append node (Begins n ∷ xs) ys =
    ap (λ k. (if n == node then 1 else 0) + k) (begins_in-append node xs ys) ∙ sym (add_assoc (if n == node then 1 else 0) (begins_in node xs) (begins_in node ys))

pub last_in-append : (node : ℕ) (heading : Heading) (before : Option (List ℕ)) (xs ys : List Mark)
    → last_in node heading before (xs ++ ys) ≡ last_in node heading (last_in node heading before xs) ys
last_in-append node heading before [] ys = refl
last_in-append node heading before (Goes d ∷ xs) ys = last_in-append node heading (last_after node heading d before) xs ys
last_in-append node heading before (Begins n ∷ xs) ys = last_in-append node heading before xs ys

pub news_after-append : (node : ℕ) (log xs ys : List Mark) → news_after node log (xs ++ ys) ≡ news_after node log xs + news_after node (log ++ xs) ys
news_after-append node log [] ys = ap (λ l. news_after node l ys) (sym (append-nil log)) ∙ sum (news_after node (log ++ []) ys)
  where
    sum : (k : ℕ) → k ≡ 0 + k
    sum k = omega arith
news_after-append node log (Goes d ∷ xs) ys =
    ap (λ k. new_in node log d + k) (news_after-append node (log ++ Goes d ∷ []) xs ys
    ∙ ap (λ l. news_after node (log ++ Goes d ∷ []) xs + news_after node l ys) (append_assoc log (Goes d ∷ []) xs))
    ∙ sym (add_assoc (new_in node log d) (news_after node (log ++ Goes d ∷ []) xs) (news_after node (log ++ Goes d ∷ xs) ys))
news_after-append node log (Begins n ∷ xs) ys =
    news_after-append node (log ++ Begins n ∷ []) xs ys
    ∙ ap (λ l. news_after node (log ++ Begins n ∷ []) xs + news_after node l ys) (append_assoc log (Begins n ∷ []) xs)

pub stamped-append : (log xs ys : List Mark) → stamped log (xs ++ ys) ≡ stamped log xs ++ stamped (log ++ xs) ys
stamped-append log [] ys = ap (λ l. stamped l ys) (sym (append-nil log))
stamped-append log (Goes d ∷ xs) ys =
    ap (λ fs. record {
      node = d.node;
      heading = d.heading;
      route = d.route;
      lost = d.lost;
      payload = d.payload;
      begun = begins_in d.node log;
      shown = news_after d.node [] (log ++ Goes d ∷ []);
    } ∷ fs) (stamped-append (log ++ Goes d ∷ []) xs ys
    ∙ ap (λ l. stamped (log ++ Goes d ∷ []) xs ++ stamped l ys) (append_assoc log (Goes d ∷ []) xs))
stamped-append log (Begins n ∷ xs) ys =
    stamped-append (log ++ Begins n ∷ []) xs ys
    ∙ ap (λ l. stamped (log ++ Begins n ∷ []) xs ++ stamped l ys) (append_assoc log (Begins n ∷ []) xs)

pub length-stamped : (log xs : List Mark) → length (stamped log xs) ≡ goes_in xs
length-stamped log [] = refl
length-stamped log (Goes d ∷ xs) = ap suc (length-stamped (log ++ Goes d ∷ []) xs)
length-stamped log (Begins n ∷ xs) = length-stamped (log ++ Begins n ∷ []) xs

pub GoBetweenNodes-append : (xs ys : List Mark) → GoBetweenNodes xs → GoBetweenNodes ys → GoBetweenNodes (xs ++ ys)
GoBetweenNodes-append [] ys first more = more
GoBetweenNodes-append (Goes d ∷ xs) ys first more = (first.0, GoBetweenNodes-append xs ys first.1 more)
GoBetweenNodes-append (Begins n ∷ xs) ys first more = GoBetweenNodes-append xs ys first more

pub node_within : (log : List Mark) (number : ℕ) (d : Departure) → GoBetweenNodes log → departure_at log number ≡ Some d → d.node < 233
node_within [] number d all e = absurd cc
node_within (Goes first ∷ log) zero d all e = let same : first ≡ d = cc in subst (λ (x : Departure). x.node < 233) same all.0
node_within (Goes first ∷ log) (suc number) d all e = node_within log number d all.1 e
node_within (Begins n ∷ log) number d all e = node_within log number d all e

-- sessions that begin, one after another
pub goes_in-begins : (node k : ℕ) → goes_in (replicate k (Begins node)) ≡ 0
goes_in-begins node zero = refl
goes_in-begins node (suc k) = goes_in-begins node k

pub news_after-begins : (other : ℕ) (log : List Mark) (node k : ℕ) → news_after other log (replicate k (Begins node)) ≡ 0
news_after-begins other log node zero = refl
news_after-begins other log node (suc k) = news_after-begins other (log ++ Begins node ∷ []) node k

pub last_in-begins : (other : ℕ) (heading : Heading) (before : Option (List ℕ)) (node k : ℕ) → last_in other heading before (replicate k (Begins node)) ≡ before
last_in-begins other heading before node zero = refl
last_in-begins other heading before node (suc k) = last_in-begins other heading before node k

pub stamped-begins : (log : List Mark) (node k : ℕ) → stamped log (replicate k (Begins node)) ≡ []
stamped-begins log node zero = refl
stamped-begins log node (suc k) = stamped-begins (log ++ Begins node ∷ []) node k

pub between-begins : (node k : ℕ) → GoBetweenNodes (replicate k (Begins node))
between-begins node zero = tt
between-begins node (suc k) = between-begins node k

pub begins_in-begins : (other node k : ℕ) (b : Bool) → (node == other) ≡ b → begins_in other (replicate k (Begins node)) ≡ (if b then k else 0)
begins_in-begins other node zero true e = refl
begins_in-begins other node zero false e = refl
begins_in-begins other node (suc k) true e = rw e (omega (arith, begins_in-begins other node k true e))
begins_in-begins other node (suc k) false e = rw e (omega (arith, begins_in-begins other node k false e))

-- the frame of a number, and the log up to it and after it
pub through-since : (log : List Mark) (number : ℕ) → through log number ++ since log number ≡ log
through-since [] number = refl
through-since (Goes d ∷ log) zero = refl
through-since (Goes d ∷ log) (suc number) = ap (λ l. Goes d ∷ l) (through-since log number)
through-since (Begins n ∷ log) number = ap (λ l. Begins n ∷ l) (through-since log number)

pub never_sent : (log : List Mark) (number : ℕ) → goes_in log ≤ number → departure_at log number ≡ None
never_sent [] number past = refl
never_sent (Goes d ∷ log) zero past = absurd (omega arith)
never_sent (Goes d ∷ log) (suc number) past = never_sent log number (omega arith)
never_sent (Begins n ∷ log) number past = never_sent log number past

pub was_sent : (log : List Mark) (number : ℕ) → number < goes_in log → (d : Departure) × (departure_at log number ≡ Some d)
was_sent [] number within = absurd (omega arith)
was_sent (Goes d ∷ log) zero within = (d, refl)
was_sent (Goes d ∷ log) (suc number) within = was_sent log number (omega arith)
was_sent (Begins n ∷ log) number within = was_sent log number within

-- a frame with its counts: what they and the marks since it give together
pub record StampedAt (before log : List Mark) (number : ℕ) (d : Departure) : Type 0 where
  pub frame : Flown
  pub at : slice_get (stamped before log) number ≡ Some frame
  pub node : frame.node ≡ d.node
  pub payload : frame.payload ≡ d.payload
  pub begun : frame.begun + begins_in d.node (since log number) ≡ begins_in d.node (before ++ log)
  pub shown : frame.shown ≡ news_after d.node [] (before ++ through log number)

pub stamped_at : (before log : List Mark) (number : ℕ) (d : Departure) → departure_at log number ≡ Some d → StampedAt before log number d
stamped_at before [] number d e = absurd cc
stamped_at before (Goes first ∷ log) zero d e =
    let same : first ≡ d = cc in
    subst (λ (x : Departure). StampedAt before (Goes first ∷ log) zero x) same (record {
      frame = record {
        node = first.node;
        heading = first.heading;
        route = first.route;
        lost = first.lost;
        payload = first.payload;
        begun = begins_in first.node before;
        shown = news_after first.node [] (before ++ Goes first ∷ []);
      };
      at = refl;
      node = refl;
      payload = refl;
      begun = sym (begins_in-append first.node before (Goes first ∷ log));
      shown = refl;
    })
stamped_at before (Goes first ∷ log) (suc number) d e =
    let rest = stamped_at (before ++ Goes first ∷ []) log number d e in record {
      frame = rest.frame;
      at = rest.at;
      node = rest.node;
      payload = rest.payload;
      begun = rest.begun ∙ ap (λ l. begins_in d.node l) (append_assoc before (Goes first ∷ []) log);
      shown = rest.shown ∙ ap (λ l. news_after d.node [] l) (append_assoc before (Goes first ∷ []) (through log number));
    }
stamped_at before (Begins n ∷ log) number d e =
    let rest = stamped_at (before ++ Begins n ∷ []) log number d e in record {
      frame = rest.frame;
      at = rest.at;
      node = rest.node;
      payload = rest.payload;
      begun = rest.begun ∙ ap (λ l. begins_in d.node l) (append_assoc before (Begins n ∷ []) log);
      shown = rest.shown ∙ ap (λ l. news_after d.node [] l) (append_assoc before (Begins n ∷ []) (through log number));
    }
