-- Every step keeps the facts, and how many frames are on the air.
use Rattle.std.proofs.Common.{◌≡◌, ◌≢◌, ℕ, ◌+◌, ◌≤◌, Bool, true, false, List, [], ◌∷◌, ◌++◌, length, Option, Some, None, refl, sym, ap, ◌∙◌, subst, arith, append_assoc, append-nil, length-append}
use Rattle.std.specs.Prelude.{drop, ◌==◌, ◌-◌, if◌then◌else◌}
use Rattle.std.specs.List.{remove}
use Rattle.proof_traffic.specs.Requests.{Word, Send, Abort, Other, Pending, Traffic, no_traffic, Step, Submits, Copies, Loses, Acknowledges, Gives_up, Answers, Ends, Falls_silent, Takes, Stops, Calls, Restarts, linked, owed, acknowledged, acknowledged_by, answered_now, IsSend, IsAbort, after, after_all, May, MayAll}
use Rattle.proof_traffic.specs.Facts.{coming, NoAbort, NoneAfter, NoneBetween, one_if, SuitsCalls, RequestFacts, flying, flying_in}
use Rattle.proof_traffic.proofs.Words.{no-append, no-prefix, no-back, no-remove, no-without, no-twice, following-remove, following-without, following-twice, following-push, following-later, between-remove, between-without, between-twice, between-push, between-first, between-later}

pub first_facts : RequestFacts no_traffic
first_facts = record {
  between = tt;
  paid = λ e. absurd (grind arith);
  not_answered = λ e. tt;
  own = λ e. absurd (grind arith);
  none_under_way = λ e. refl;
  few = omega arith;
  each_call = refl;
  suits = (λ e f. tt, λ e f. tt);
}

-- how many calls a payload has that is being sent
pub one_is : (sending : Bool) → one_if sending ≤ 1
one_is false = omega arith
one_is true = omega arith

-- ---- what may still come, where it changes in one of these ways

-- a way to change words that keeps what is said of them
record Keeps (xs ys : List Word) : Type 0 where
  free : NoAbort xs → NoAbort ys
  following : NoneAfter xs → NoneAfter ys
  between : NoneBetween xs → NoneBetween ys

keeps-same : (xs ys : List Word) → xs ≡ ys → Keeps xs ys
keeps-same xs ys e = subst (λ (zs : List Word). Keeps xs zs) e (record { free = λ x. x; following = λ x. x; between = λ x. x })

keeps-remove : (xs : List Word) (at : ℕ) (ys : List Word) → Keeps (xs ++ ys) (remove xs at ++ ys)
keeps-remove xs at ys = record { free = no-remove xs at ys; following = following-remove xs at ys; between = between-remove xs at ys }

keeps-without : (xs : List Word) (link : Option Word) (ys : List Word) → Keeps (xs ++ (linked link ++ ys)) (xs ++ ys)
keeps-without xs None ys = keeps-same (xs ++ ys) (xs ++ ys) refl
keeps-without xs (Some w) ys = record { free = no-without xs w ys; following = following-without xs w ys; between = between-without xs w ys }

keeps-twice : (xs : List Word) (link : Option Word) (ys : List Word) → Keeps (xs ++ (linked link ++ ys)) ((xs ++ linked link) ++ (linked link ++ ys))
keeps-twice xs None ys = keeps-same (xs ++ ys) ((xs ++ []) ++ ys) (ap (λ (zs : List Word). zs ++ ys) (sym (append-nil xs)))
keeps-twice xs (Some w) ys = record { free = no-twice xs w ys; following = following-twice xs w ys; between = between-twice xs w ys }

keeps-later : (w : Word) (xs : List Word) → Keeps (w ∷ xs) xs
keeps-later w xs = record { free = λ free. free.1; following = following-later w xs; between = between-later w xs }

-- a word that is no abort after all others, and the same once more
keeps-push : (xs : List Word) (w : Word) → w ≢ Abort → Keeps xs (xs ++ w ∷ [])
keeps-push xs w other = record { free = λ free. no-append xs (w ∷ []) free (other, tt); following = following-push xs w other; between = between-push xs w other }

keeps-both : (xs ys zs : List Word) → Keeps xs ys → Keeps ys zs → Keeps xs zs
keeps-both xs ys zs first later = record { free = λ x. later.free (first.free x); following = λ x. later.following (first.following x); between = λ x. later.between (first.between x) }

suits-kept : (aborted : ℕ) (sending : Bool) (xs ys : List Word) → Keeps xs ys → SuitsCalls aborted sending xs → SuitsCalls aborted sending ys
suits-kept aborted sending xs ys keeps suits = (λ e f. keeps.following (suits.0 e f), λ e f. keeps.free (suits.1 e f))

-- ---- a request is submitted

-- nothing was of the host's own, and nothing owed
submitted_words : (up : List Word) (w : Word) → w ≢ Abort → Keeps (up ++ ([] ++ [])) ((up ++ w ∷ []) ++ ((w ∷ []) ++ []))
submitted_words up w other =
    keeps-both (up ++ []) up ((up ++ w ∷ []) ++ w ∷ []) (keeps-same (up ++ []) up (append-nil up))
    (keeps-both up (up ++ w ∷ []) ((up ++ w ∷ []) ++ w ∷ []) (keeps-push up w other) (keeps-push (up ++ w ∷ []) w other))

module _ (t : Traffic) (facts : RequestFacts t) where
  between-of : (link : Option Word) (owes : Bool) → t.link ≡ link → t.owes ≡ owes → NoneBetween (t.up ++ (linked link ++ owed owes))
  between-of link owes l o = subst (λ (x : Option Word). NoneBetween (t.up ++ (linked x ++ owed owes))) l (subst (λ (b : Bool). NoneBetween (t.up ++ (linked t.link ++ owed b))) o facts.between)

  suits-of : (link : Option Word) (owes : Bool) → t.link ≡ link → t.owes ≡ owes → SuitsCalls t.aborted t.sending (t.up ++ (linked link ++ owed owes))
  suits-of link owes l o = subst (λ (x : Option Word). SuitsCalls t.aborted t.sending (t.up ++ (linked x ++ owed owes))) l (subst (λ (b : Bool). SuitsCalls t.aborted t.sending (t.up ++ (linked t.link ++ owed b))) o facts.suits)

  submits-any : (w : Word) → w ≢ Abort → t.link ≡ None → t.owes ≡ false → RequestFacts (after t (Submits w))
  submits-any w other l o = record {
    between = (submitted_words t.up w other).between (between-of None false l o);
    paid = λ e. absurd (grind arith);
    not_answered = λ e. absurd (grind arith);
    own = λ e. absurd (grind arith);
    none_under_way = λ e. absurd (grind arith);
    few = facts.few;
    each_call = facts.each_call;
    suits = suits-kept t.aborted t.sending (t.up ++ ([] ++ [])) ((t.up ++ w ∷ []) ++ ((w ∷ []) ++ [])) (submitted_words t.up w other) (suits-of None false l o);
  }

  submits-abort : t.link ≡ None → t.owes ≡ true → RequestFacts (after t (Submits Abort))
  submits-abort l o = record {
    between = between-twice t.up Abort [] (between-of None true l o);
    paid = λ e. absurd (grind arith);
    not_answered = λ e. absurd (grind arith);
    own = λ e. (false, refl);
    none_under_way = λ e. absurd (grind arith);
    few = facts.few;
    each_call = facts.each_call;
    suits = suits-kept t.aborted t.sending (t.up ++ (Abort ∷ [])) ((t.up ++ Abort ∷ []) ++ (Abort ∷ [])) (keeps-twice t.up (Some Abort) []) (suits-of None true l o);
  }

  pub submits-step : (w : Word) → May t (Submits w) → RequestFacts (after t (Submits w))
  submits-step Send may = submits-any Send (λ e. absurd (grind arith)) may.1 may.2
  submits-step Other may = submits-any Other (λ e. absurd (grind arith)) may.1 may.2
  submits-step Abort may = submits-abort may.1 may.2

  -- ---- copies and losses

  own-twice : NoAbort (t.up ++ linked t.link) → NoAbort ((t.up ++ linked t.link) ++ linked t.link)
  own-twice free = no-append (t.up ++ linked t.link) (linked t.link) free (no-back t.up (linked t.link) free)

  pub copies-step : RequestFacts (after t Copies)
  copies-step = record {
    between = (keeps-twice t.up t.link (owed t.owes)).between facts.between;
    paid = λ e. own-twice (facts.paid e);
    not_answered = λ e. own-twice (facts.not_answered e);
    own = facts.own;
    none_under_way = facts.none_under_way;
    few = facts.few;
    each_call = facts.each_call;
    suits = suits-kept t.aborted t.sending (coming t) ((t.up ++ linked t.link) ++ (linked t.link ++ owed t.owes)) (keeps-twice t.up t.link (owed t.owes)) facts.suits;
  }

  pub loses-step : (at : ℕ) → RequestFacts (after t (Loses at))
  loses-step at = record {
    between = between-remove t.up at (linked t.link ++ owed t.owes) facts.between;
    paid = λ e. no-remove t.up at (linked t.link) (facts.paid e);
    not_answered = λ e. no-remove t.up at (linked t.link) (facts.not_answered e);
    own = facts.own;
    none_under_way = facts.none_under_way;
    few = facts.few;
    each_call = facts.each_call;
    suits = suits-kept t.aborted t.sending (coming t) (remove t.up at ++ (linked t.link ++ owed t.owes)) (keeps-remove t.up at (linked t.link ++ owed t.owes)) facts.suits;
  }

  -- ---- the frame of the host's own is over

  up-alone : NoAbort (t.up ++ linked t.link) → NoAbort (t.up ++ [])
  up-alone free = subst NoAbort (sym (append-nil t.up)) (no-prefix t.up (linked t.link) free)

  -- the request under way may have ended with it
  freed : (pending : Option Pending) → (IsSend true pending → IsSend true t.pending) → (t.owes ≡ true → pending ≡ None) → RequestFacts (record t { link = None; pending = pending })
  freed pending sends none = record {
    between = (keeps-without t.up t.link (owed t.owes)).between facts.between;
    paid = λ e. up-alone (facts.paid e);
    not_answered = λ e. up-alone (facts.not_answered (sends e));
    own = λ e. absurd (grind arith);
    none_under_way = none;
    few = facts.few;
    each_call = facts.each_call;
    suits = suits-kept t.aborted t.sending (coming t) (t.up ++ owed t.owes) (keeps-without t.up t.link (owed t.owes)) facts.suits;
  }

  still_by : (word : Word) (pending : Pending) → IsSend true (acknowledged_by word pending) → IsSend true (Some pending)
  still_by Abort pending e = absurd (grind arith)
  still_by Send pending e = e
  still_by Other pending e = e

  still_send : (pending : Option Pending) → IsSend true (acknowledged pending) → IsSend true pending
  still_send None e = e
  still_send (Some pending) e = still_by pending.word pending e

  pub acknowledges-step : RequestFacts (after t Acknowledges)
  acknowledges-step = freed (acknowledged t.pending) (still_send t.pending) (λ e. ap acknowledged (facts.none_under_way e))

  pub gives_up-step : RequestFacts (after t Gives_up)
  gives_up-step = freed None (λ e. absurd (grind arith)) (λ e. refl)

  -- ---- the request under way

  -- the frame of the host's own is no abort where that is not the request under way
  own_is_other : (link : Option Word) → t.link ≡ link → (IsAbort t.pending → ⊥) → NoAbort (linked link)
  own_is_other None e other = tt
  own_is_other (Some Send) e other = (λ same. absurd (grind arith), tt)
  own_is_other (Some Abort) e other = absurd (other (facts.own e))
  own_is_other (Some Other) e other = (λ same. absurd (grind arith), tt)

  -- an answered abort is an abort
  still_abort : (pending : Option Pending) → IsAbort pending → IsAbort (answered_now pending)
  still_abort None abort = absurd (grind (arith, abort.1))
  still_abort (Some pending) abort = (true, ap answered_now abort.1)

  -- and no SendData
  no_send : (pending : Option Pending) → IsAbort pending → IsSend true (answered_now pending) → ⊥
  no_send pending abort send =
      let both : Some (record { word = Send; answered = true }) ≡ Some (record { word = Abort; answered = (still_abort pending abort).0 }) = sym send ∙ (still_abort pending abort).1 in absurd (grind (arith, both))

  pub answers-step : May t Answers → RequestFacts (after t Answers)
  answers-step may = record {
    between = facts.between;
    paid = facts.paid;
    not_answered = λ e. subst (λ (up : List Word). NoAbort (up ++ linked t.link)) (sym may) (own_is_other t.link refl (λ abort. no_send t.pending abort e));
    own = λ e. still_abort t.pending (facts.own e);
    none_under_way = λ e. ap answered_now (facts.none_under_way e);
    few = facts.few;
    each_call = facts.each_call;
    suits = facts.suits;
  }

  pub ends-step : May t Ends → RequestFacts (after t Ends)
  ends-step may = record {
    between = facts.between;
    paid = facts.paid;
    not_answered = λ e. absurd (grind arith);
    own = λ e. let none : t.link ≡ None = may (facts.own e) in absurd (grind (arith, sym none ∙ e));
    none_under_way = λ e. refl;
    few = facts.few;
    each_call = facts.each_call;
    suits = facts.suits;
  }

  none_left : t.calls ≡ [] → t.aborted ≡ 1 → ⊥
  none_left none one = let each : length t.calls ≡ t.aborted + one_if t.sending = facts.each_call in let zero_calls : length t.calls ≡ 0 = ap length none in absurd (omega arith)

  -- a SendData is no abort
  send_is_other : IsSend true t.pending → IsAbort t.pending → ⊥
  send_is_other send abort = let both : Some (record { word = Send; answered = true }) ≡ Some (record { word = Abort; answered = abort.0 }) = sym send ∙ abort.1 in absurd (grind (arith, both))

  pub silent-step : May t Falls_silent → RequestFacts (after t Falls_silent)
  silent-step may = record {
    between = subst NoneBetween (append_assoc t.up (linked t.link) (Abort ∷ [])) (between-first (t.up ++ linked t.link) (facts.not_answered may.0));
    paid = λ e. facts.not_answered may.0;
    not_answered = λ e. absurd (grind arith);
    own = λ e. absurd (send_is_other may.0 (facts.own e));
    none_under_way = λ e. refl;
    few = facts.few;
    each_call = facts.each_call;
    suits = (λ one e. absurd (none_left may.1 one), λ one e. absurd (none_left may.1 one));
  }

  -- ---- the chip

  first-words : (w : Word) (rest : List Word) → t.up ≡ w ∷ rest → Keeps (coming t) (rest ++ (linked t.link ++ owed t.owes))
  first-words w rest e = subst (λ (up : List Word). Keeps (up ++ (linked t.link ++ owed t.owes)) (rest ++ (linked t.link ++ owed t.owes))) (sym e) (keeps-later w (rest ++ (linked t.link ++ owed t.owes)))

  first-own : (w : Word) (rest : List Word) → t.up ≡ w ∷ rest → NoAbort (t.up ++ linked t.link) → NoAbort (rest ++ linked t.link)
  first-own w rest e free = (subst (λ (up : List Word). NoAbort (up ++ linked t.link)) e free).1

  one_more : (flies : Bool) → length (t.calls ++ flies ∷ []) ≡ length t.calls + 1
  one_more flies = length-append t.calls (flies ∷ [])

  pub takes-rest : (flies : Bool) (rest : List Word) → t.up ≡ Send ∷ rest → t.sending ≡ false
      → RequestFacts (record t { up = rest; sending = true; calls = t.calls ++ flies ∷ [] })
  takes-rest flies rest e idle = record {
    between = (first-words Send rest e).between facts.between;
    paid = λ o. first-own Send rest e (facts.paid o);
    not_answered = λ p. first-own Send rest e (facts.not_answered p);
    own = facts.own;
    none_under_way = facts.none_under_way;
    few = facts.few;
    each_call = one_more flies ∙ ap (λ (n : ℕ). n + 1) (facts.each_call ∙ ap (λ (b : Bool). t.aborted + one_if b) idle) ∙ plus_one t.aborted;
    suits = (λ one f. absurd (grind arith), λ one f. subst (λ (up : List Word). NoneAfter (up ++ (linked t.link ++ owed t.owes))) e (facts.suits.0 one idle));
  }
    where
      plus_one : (n : ℕ) → n + 0 + 1 ≡ n + 1
      plus_one n = omega arith

  pub stops-rest : (rest : List Word) → t.up ≡ Abort ∷ rest → t.sending ≡ true → RequestFacts (record t { up = rest; aborted = t.aborted + 1; sending = false })
  stops-rest rest e busy = record {
    between = (first-words Abort rest e).between facts.between;
    paid = λ o. first-own Abort rest e (facts.paid o);
    not_answered = λ p. first-own Abort rest e (facts.not_answered p);
    own = facts.own;
    none_under_way = facts.none_under_way;
    few = let none : t.aborted ≢ 1 = not_one in let below : t.aborted ≤ 1 = facts.few in omega arith;
    each_call = facts.each_call ∙ ap (λ (b : Bool). t.aborted + one_if b) busy ∙ plus_none t.aborted;
    suits = (λ one f. subst (λ (up : List Word). NoneBetween (up ++ (linked t.link ++ owed t.owes))) e facts.between, λ one f. absurd (grind arith));
  }
    where
      plus_none : (n : ℕ) → n + 1 ≡ n + 1 + 0
      plus_none n = omega arith

      not_one : t.aborted ≢ 1
      not_one one = (subst (λ (up : List Word). NoAbort (up ++ (linked t.link ++ owed t.owes))) e (facts.suits.1 one busy)).0 refl

  pub takes-step : (flies : Bool) → May t (Takes flies) → RequestFacts (after t (Takes flies))
  takes-step flies may =
      subst (λ (up : List Word). RequestFacts (record t { up = up; sending = true; calls = t.calls ++ flies ∷ [] })) (sym (ap (drop 1) may.0.1)) (takes-rest flies may.0.0 may.0.1 may.1)

  pub stops-step : May t Stops → RequestFacts (after t Stops)
  stops-step may =
      subst (λ (up : List Word). RequestFacts (record t { up = up; aborted = t.aborted + 1; sending = false })) (sym (ap (drop 1) may.0.1)) (stops-rest may.0.0 may.0.1 may.1)

  -- ---- the calls of the chip

  fewer : (aborted : ℕ) (sending : Bool) → aborted ≤ 1 → length (drop 1 t.calls) ≡ aborted + one_if sending → aborted ≡ 0
      → RequestFacts (record t { aborted = aborted; sending = sending; calls = drop 1 t.calls })
  fewer aborted sending few each none = record {
    between = facts.between;
    paid = facts.paid;
    not_answered = facts.not_answered;
    own = facts.own;
    none_under_way = facts.none_under_way;
    few = few;
    each_call = each;
    suits = (λ one f. absurd (omega arith), λ one f. absurd (omega arith));
  }

  less_one : (calls : List Bool) → length (drop 1 calls) ≡ length calls - 1
  less_one [] = refl
  less_one (call ∷ calls) = omega arith

  none_aborted : t.aborted ≡ 0 → RequestFacts (record t { sending = false; calls = drop 1 t.calls })
  none_aborted e =
      let each : length t.calls ≡ t.aborted + one_if t.sending = facts.each_call in
      let one : one_if t.sending ≤ 1 = one_is t.sending in
      let less : length (drop 1 t.calls) ≡ length t.calls - 1 = less_one t.calls in
      fewer t.aborted false (omega arith) (omega arith) e

  one_aborted : t.aborted ≢ 0 → RequestFacts (record t { aborted = t.aborted - 1; calls = drop 1 t.calls })
  one_aborted some =
      let each : length t.calls ≡ t.aborted + one_if t.sending = facts.each_call in
      let few : t.aborted ≤ 1 = facts.few in
      let less : length (drop 1 t.calls) ≡ length t.calls - 1 = less_one t.calls in
      fewer (t.aborted - 1) t.sending (omega arith) (omega arith) (omega arith)

  pub calls-step : RequestFacts (after t Calls)
  calls-step = by_none (t.aborted == 0) refl
    where
      by_none : (none : Bool) → (t.aborted == 0) ≡ none → RequestFacts (if none then record t { sending = false; calls = drop 1 t.calls } else record t { aborted = t.aborted - 1; calls = drop 1 t.calls })
      by_none true e = none_aborted (grind (arith, e))
      by_none false e = one_aborted (grind (arith, e))

  pub restarts-step : RequestFacts (after t Restarts)
  restarts-step = record {
    between = tt;
    paid = λ e. absurd (grind arith);
    not_answered = λ e. tt;
    own = λ e. absurd (grind arith);
    none_under_way = λ e. refl;
    few = facts.few;
    each_call = facts.each_call;
    suits = (λ one f. tt, λ one f. tt);
  }

-- ---- every step

pub each_kept : (t : Traffic) (step : Step) → RequestFacts t → May t step → RequestFacts (after t step)
each_kept t (Submits word) facts may = submits-step t facts word may
each_kept t Copies facts may = copies-step t facts
each_kept t (Loses at) facts may = loses-step t facts at
each_kept t Acknowledges facts may = acknowledges-step t facts
each_kept t Gives_up facts may = gives_up-step t facts
each_kept t Answers facts may = answers-step t facts may
each_kept t Ends facts may = ends-step t facts may
each_kept t Falls_silent facts may = silent-step t facts may
each_kept t (Takes flies) facts may = takes-step t facts flies may
each_kept t Stops facts may = stops-step t facts may
each_kept t Calls facts may = calls-step t facts
each_kept t Restarts facts may = restarts-step t facts

pub all_kept : (t : Traffic) (steps : List Step) → RequestFacts t → MayAll t steps → RequestFacts (after_all t steps)
all_kept t [] facts may = facts
all_kept t (step ∷ steps) facts may = all_kept (after t step) steps (each_kept t step facts may.0) may.1

-- ---- how many frames are on the air

pub some-fly : (calls : List Bool) → flying_in calls ≤ length calls
some-fly [] = omega arith
some-fly (flies ∷ calls) = let later : flying_in calls ≤ length calls = some-fly calls in let one : one_if flies ≤ 1 = one_is flies in omega arith

pub two_by_facts : (t : Traffic) → RequestFacts t → flying t ≤ 2
two_by_facts t facts =
    let each : length t.calls ≡ t.aborted + one_if t.sending = facts.each_call in
    let few : t.aborted ≤ 1 = facts.few in
    let one : one_if t.sending ≤ 1 = one_is t.sending in
    let some : flying t ≤ length t.calls = some-fly t.calls in
    omega arith

pub room_by_facts : (t : Traffic) (flies : Bool) → RequestFacts t → May t (Takes flies) → flying t ≤ 1
room_by_facts t flies facts may =
    let each : length t.calls ≡ t.aborted + one_if t.sending = facts.each_call in
    let idle : one_if t.sending ≡ 0 = ap one_if may.1 in
    let few : t.aborted ≤ 1 = facts.few in
    let some : flying t ≤ length t.calls = some-fly t.calls in
    omega arith
