-- The first frame that ends a request, and the responses to it, where one frame more is judged.
use Rattle.std.proofs.Common.{◌≡◌, ◌⊎◌, ℕ, ◌&&◌, ◌||◌, not, Bool, true, false, if◌then◌else◌, inl, inr, List, [], ◌∷◌, ◌++◌, filter, refl, sym, ap, ◌∙◌}
use Rattle.std.specs.List.{list_any}
use Rattle.std.proofs.lemmas.List.Elements.{filter-append}
use Rattle.proof_waking.specs.law_transcript.Units.{request_in}
use Rattle.proof_waking.specs.law_time.Requests.{Judging, are_none, is_response_to}
use Rattle.proof_waking.specs.law_time.Ends.{ends_by, ending_among}
use Rattle.proof_requests.specs.Standing.{Standing, ends_now, first_ending, responses_in, with_judging}

-- whether a frame ends it
abbrev ends : List ℕ → Bool → Judging → Bool
ends frame is_first one = list_any (ends_by is_first one.unit) (request_in frame)

abbrev responses_to : List ℕ → List Judging → List Judging
responses_to frame some = filter (λ one. is_response_to frame one.unit) some

-- the first that does behind one that does not
abbrev left_of : List ℕ → Bool → Judging → Bool
left_of frame to_come x = to_come && not (to_come && is_response_to frame x.unit)

abbrev rest_of : List ℕ → Bool → Judging → List Judging → List Judging
rest_of frame to_come x some = ending_among frame (left_of frame to_come x) some

-- the first that does stays the first
ending_stays : (frame : List ℕ) (to_come : Bool) (some more : List Judging) (one : Judging) → ending_among frame to_come some ≡ one ∷ [] → ending_among frame to_come (some ++ more) ≡ one ∷ []
ending_stays frame to_come [] more one is = absurd (let bad : [] ≡ one ∷ [] = is in cc)
ending_stays frame to_come (x ∷ some) more one is =
    by (ends frame (to_come && is_response_to frame x.unit) x) (ending_stays frame (left_of frame to_come x) some more one) is
  where
    by : (b : Bool) → (rest_of frame to_come x some ≡ one ∷ [] → rest_of frame to_come x (some ++ more) ≡ one ∷ []) → (if b then x ∷ [] else rest_of frame to_come x some) ≡ one ∷ []
        → (if b then x ∷ [] else rest_of frame to_come x (some ++ more)) ≡ one ∷ []
    by true more_so is = is
    by false more_so is = more_so is

-- where none has, it is looked for in the others
still_first : (to_come is_response : Bool) (x : Judging) (some : List Judging)
    → (to_come && not (to_come && is_response)) && are_none some ≡ to_come && are_none (if is_response then x ∷ some else some)
still_first false is_response x some = refl
still_first true true x some = refl
still_first true false x some = refl

pub and_true : (b : Bool) → b && true ≡ b
and_true true = refl
and_true false = refl

pub or_false : (b : Bool) → b || false ≡ b
or_false true = refl
or_false false = refl

ending_joined : (frame : List ℕ) (to_come : Bool) (some more : List Judging) → ending_among frame to_come some ≡ []
    → ending_among frame to_come (some ++ more) ≡ ending_among frame (to_come && are_none (responses_to frame some)) more
ending_joined frame to_come [] more is = ap (λ (b : Bool). ending_among frame b more) (sym (and_true to_come))
ending_joined frame to_come (x ∷ some) more is =
    by (ends frame (to_come && is_response_to frame x.unit) x) (ending_joined frame (left_of frame to_come x) some more) is
    ∙ ap (λ (b : Bool). ending_among frame b more) (still_first to_come (is_response_to frame x.unit) x (responses_to frame some))
  where
    by : (b : Bool)
        → (rest_of frame to_come x some ≡ [] → rest_of frame to_come x (some ++ more) ≡ ending_among frame (left_of frame to_come x && are_none (responses_to frame some)) more)
        → (if b then x ∷ [] else rest_of frame to_come x some) ≡ []
        → (if b then x ∷ [] else rest_of frame to_come x (some ++ more)) ≡ ending_among frame (left_of frame to_come x && are_none (responses_to frame some)) more
    by true joined is = absurd (let bad : x ∷ [] ≡ [] = is in cc)
    by false joined is = joined is

-- there is one, or none
pub ending_kinds : (frame : List ℕ) (to_come : Bool) (some : List Judging) → (ending_among frame to_come some ≡ []) ⊎ ((one : Judging) × (ending_among frame to_come some ≡ one ∷ []))
ending_kinds frame to_come [] = inl refl
ending_kinds frame to_come (x ∷ some) =
    by (ends frame (to_come && is_response_to frame x.unit) x) (ending_kinds frame (left_of frame to_come x) some)
  where
    by : (b : Bool) → (rest_of frame to_come x some ≡ []) ⊎ ((one : Judging) × (rest_of frame to_come x some ≡ one ∷ []))
        → ((if b then x ∷ [] else rest_of frame to_come x some) ≡ []) ⊎ ((one : Judging) × ((if b then x ∷ [] else rest_of frame to_come x some) ≡ one ∷ []))
    by true kinds = inr (x, refl)
    by false kinds = kinds

-- ---- one more is judged

pub responses_judged : (s : Standing) (one : Judging) → responses_in (with_judging s one) ≡ responses_in s ++ (if is_response_to s.frame one.unit then one ∷ [] else [])
responses_judged s one = filter-append (λ each. is_response_to s.frame each.unit) s.judged (one ∷ [])

pub ending_judged : (s : Standing) (one : Judging) → first_ending s ≡ [] → first_ending (with_judging s one) ≡ (if ends_now s one then one ∷ [] else [])
ending_judged s one none = ending_joined s.frame true s.judged (one ∷ []) none

pub ending_kept : (s : Standing) (one first : Judging) → first_ending s ≡ first ∷ [] → first_ending (with_judging s one) ≡ first ∷ []
ending_kept s one first is = ending_stays s.frame true s.judged (one ∷ []) first is

-- it is the first that ends it, or changes nothing
pub record IsFirstNow (s : Standing) (one : Judging) : Type 0 where
  pub none : first_ending s ≡ []
  pub now : first_ending (with_judging s one) ≡ one ∷ []

pub first_or_same : (s : Standing) (one : Judging) → (first_ending (with_judging s one) ≡ first_ending s) ⊎ IsFirstNow s one
first_or_same s one = by (ending_kinds s.frame true s.judged)
  where
    fresh : (b : Bool) → first_ending s ≡ [] → first_ending (with_judging s one) ≡ (if b then one ∷ [] else []) → (first_ending (with_judging s one) ≡ first_ending s) ⊎ IsFirstNow s one
    fresh true none is = inr (record { none = none; now = is })
    fresh false none is = inl (is ∙ sym none)

    by : (first_ending s ≡ []) ⊎ ((first : Judging) × (first_ending s ≡ first ∷ [])) → (first_ending (with_judging s one) ≡ first_ending s) ⊎ IsFirstNow s one
    by (inl none) = fresh (ends_now s one) none (ending_judged s one none)
    by (inr (first, is)) = inl (ending_kept s one first is ∙ sym is)
