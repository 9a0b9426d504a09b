-- The numbers of the controller's frames on the air, as frames go there and arrive; and which SendData is over with the fate of one.
use Rattle.std.proofs.Common.{◌≡◌, ◌≤◌, ◌<◌, ◌⊎◌, ℕ, suc, ◌+◌, ◌==◌, Bool, true, false, if◌then◌else◌, inl, inr, List, [], ◌∷◌, ◌++◌, filter, length, refl, sym, ap, ap₂, ◌∙◌, subst, append_assoc, eq-eqb, ne_eqb, length-append, arith}
use Rattle.std.specs.List.{AllByRecursion}
use Rattle.zw_base.proofs.Each.{all-append, all-right, all-weaker}
use Rattle.air_frames.specs.declared.frame.Heading.{Heading}
use Rattle.air_frames.specs.declared.frame.Heading.TheVariants.{Outward, Homeward}
use Rattle.air_frames.specs.Flown.{Flown}
use Rattle.law_wire.specs.Asked.{Sending}
use Rattle.proof_line.specs.proof_traffic.OutsideTraffic.{one_outward, outward}
use Rattle.proof_chip.specs.Tally.{AreNumbered, Lacks, number_of, numbers_from}

-- ---- numbers

pub numbers_both : (from : ℕ) (one more : List Flown) → numbers_from from (one ++ more) ≡ numbers_from from one ++ numbers_from (from + length one) more
numbers_both from [] more = ap (λ (n : ℕ). numbers_from n more) (plus_none from)
  where
    plus_none : (n : ℕ) → n ≡ n + 0
    plus_none n = omega arith
numbers_both from (flight ∷ one) more =
    ap (λ (l : List ℕ). number_of flight.heading from ++ l) (numbers_both (from + 1) one more ∙ ap (λ (n : ℕ). numbers_from (from + 1) one ++ numbers_from n more) (same from (length one)))
    ∙ sym (append_assoc (number_of flight.heading from) (numbers_from (from + 1) one) (numbers_from (from + suc (length one)) more))
  where
    same : (m n : ℕ) → m + 1 + n ≡ m + suc n
    same m n = omega arith

pub numbers_home : (from : ℕ) (flights : List Flown) → outward flights ≡ 0 → numbers_from from flights ≡ []
numbers_home from [] none = refl
numbers_home from (flight ∷ flights) none =
    ap₂ (λ (a b : List ℕ). a ++ b) (by flight.heading (omega (arith, none))) (numbers_home (from + 1) flights (omega (arith, none)))
  where
    by : (heading : Heading) → one_outward heading ≡ 0 → number_of heading from ≡ []
    by Outward is = absurd (omega (arith, is))
    by Homeward is = refl

pub numbers_many : (from : ℕ) (flights : List Flown) → length (numbers_from from flights) ≡ outward flights
numbers_many from [] = refl
numbers_many from (flight ∷ flights) =
    length-append (number_of flight.heading from) (numbers_from (from + 1) flights) ∙ ap₂ (λ (m n : ℕ). m + n) (by flight.heading) (numbers_many (from + 1) flights)
  where
    by : (heading : Heading) → length (number_of heading from) ≡ one_outward heading
    by Outward = refl
    by Homeward = refl

pub numbers_above : (from : ℕ) (flights : List Flown) → AllByRecursion (λ (n : ℕ). from ≤ n) (numbers_from from flights)
numbers_above from [] = tt
numbers_above from (flight ∷ flights) =
    all-append (λ (n : ℕ). from ≤ n) (number_of flight.heading from) (numbers_from (from + 1) flights) (by flight.heading)
    (all-weaker (λ (n : ℕ). from + 1 ≤ n) (λ (n : ℕ). from ≤ n) (λ n is. omega (arith, is)) (numbers_from (from + 1) flights) (numbers_above (from + 1) flights))
  where
    by : (heading : Heading) → AllByRecursion (λ (n : ℕ). from ≤ n) (number_of heading from)
    by Outward = (omega arith, tt)
    by Homeward = tt

pub numbers_below : (from : ℕ) (flights : List Flown) → AllByRecursion (λ (n : ℕ). n < from + length flights) (numbers_from from flights)
numbers_below from [] = tt
numbers_below from (flight ∷ flights) =
    all-append (λ (n : ℕ). n < from + suc (length flights)) (number_of flight.heading from) (numbers_from (from + 1) flights) (by flight.heading)
    (all-weaker (λ (n : ℕ). n < from + 1 + length flights) (λ (n : ℕ). n < from + suc (length flights)) (λ n is. omega (arith, is)) (numbers_from (from + 1) flights) (numbers_below (from + 1) flights))
  where
    by : (heading : Heading) → AllByRecursion (λ (n : ℕ). n < from + suc (length flights)) (number_of heading from)
    by Outward = (omega arith, tt)
    by Homeward = tt

pub lacks_above : (number : ℕ) (numbers : List ℕ) → AllByRecursion (λ (n : ℕ). n < number) numbers → Lacks numbers number
lacks_above number numbers below = all-weaker (λ (n : ℕ). n < number) (λ (n : ℕ). n ≡ number → ⊥) (λ n is same. omega (arith, is, same)) numbers below

-- ---- a frame arrives

abbrev pub with_number : ℕ → List Sending → List Sending
with_number number sendings = filter (λ (sending : Sending). sending.frame == number) sendings

lacks_first : (number : ℕ) (sendings : List Sending) → AllByRecursion (λ (one : Sending). one.frame ≡ number → ⊥) sendings → with_number number sendings ≡ []
lacks_first number [] none = refl
lacks_first number (one ∷ sendings) none =
    ap₂ (λ (b : Bool) (l : List Sending). if b then one ∷ l else l) (ne_eqb one.frame number none.0) (lacks_first number sendings none.1)

-- the SendData under way is over with it; or what is under way, and whether its call is of a frame, stay, and then another frame of it is still to arrive
abbrev pub Ends : Bool → Bool → List ℕ → Bool → Bool → Type 0
Ends sending by_frame rest later later_by =
    ((sending ≡ true) × (later ≡ false) × (by_frame ≡ true) × (rest ≡ []))
    ⊎ ((later ≡ sending) × (sending ≡ true → (later_by ≡ by_frame) × (by_frame ≡ true → rest ≡ [] → ⊥)))

-- whether it is over
abbrev pub over : Bool → Bool → ℕ
over true false = 1
over sending later = 0

pub record Arrived (sending by_frame later later_by : Bool) (number : ℕ) (rest : List ℕ) (sendings : List Sending) : Type 0 where
  pub many : length (with_number number sendings) ≡ over sending later
  pub numbered : AreNumbered later later_by rest sendings

apart_from : (number : ℕ) (rest : List ℕ) (frame : ℕ) → AllByRecursion (λ (n : ℕ). number < n) rest → (before : List ℕ) → rest ≡ before ++ frame ∷ [] → number < frame
apart_from number rest frame above before is = (all-right (λ (n : ℕ). number < n) before (frame ∷ []) (subst (λ (l : List ℕ). AllByRecursion (λ (n : ℕ). number < n) l) is above)).0

ended_so : (later_by : Bool) (number : ℕ) (rest : List ℕ) (sendings : List Sending) → rest ≡ [] → AreNumbered true true (number ∷ rest) sendings → Arrived true true false later_by number rest sendings
ended_so later_by number rest sendings none (one, alone, before, last) = by_before before last
  where
    not_none : (l : List ℕ) (x : ℕ) → l ++ x ∷ [] ≡ [] → ⊥
    not_none [] x is = cc
    not_none (y ∷ l) x is = cc

    by_before : (before : List ℕ) → number ∷ rest ≡ before ++ one.frame ∷ [] → Arrived true true false later_by number rest sendings
    by_before [] last =
        let same : one.frame ≡ number = cc in
        record {
          many = ap (λ (l : List Sending). length (with_number number l)) alone ∙ ap (λ (b : Bool). length (if b then one ∷ [] else [])) (eq-eqb one.frame number same);
          numbered =
              subst (λ (l : List ℕ). AllByRecursion (λ (s : Sending). Lacks l s.frame) sendings) (sym none) (subst (λ (l : List Sending). AllByRecursion (λ (s : Sending). Lacks [] s.frame) l) (sym alone) (tt, tt));
        }
    by_before (first ∷ before) last = absurd (let more : rest ≡ before ++ one.frame ∷ [] = cc in not_none before one.frame (sym more ∙ none))

stays_so : (number : ℕ) (rest : List ℕ) (sendings : List Sending) → AllByRecursion (λ (n : ℕ). number < n) rest → (rest ≡ [] → ⊥) → AreNumbered true true (number ∷ rest) sendings
    → Arrived true true true true number rest sendings
stays_so number rest sendings above some (one, alone, before, last) = by_before before last
  where
    by_before : (before : List ℕ) → number ∷ rest ≡ before ++ one.frame ∷ [] → Arrived true true true true number rest sendings
    by_before [] last = absurd (let none : rest ≡ [] = cc in some none)
    by_before (first ∷ before) last =
        let more : rest ≡ before ++ one.frame ∷ [] = cc in
        let under = apart_from number rest one.frame above before more in
        record {
          many = ap (λ (l : List Sending). length (with_number number l)) alone ∙ ap (λ (l : List Sending). length l) (lacks_first number (one ∷ []) ((λ is. omega (arith, is, under)), tt));
          numbered = (one, alone, before, more);
        }

pub arrived : (sending by_frame later later_by : Bool) (number : ℕ) (rest : List ℕ) (sendings : List Sending) → AllByRecursion (λ (n : ℕ). number < n) rest → Ends sending by_frame rest later later_by
    → AreNumbered sending by_frame (number ∷ rest) sendings → Arrived sending by_frame later later_by number rest sendings
arrived true true false c number rest sendings above (inl (is, ended, by, none)) was = ended_so c number rest sendings none was
arrived false b l c number rest sendings above (inl (is, ended, by, none)) was = absurd (let no : false ≡ true = is in cc)
arrived true false l c number rest sendings above (inl (is, ended, by, none)) was = absurd (let no : false ≡ true = by in cc)
arrived true true true c number rest sendings above (inl (is, ended, by, none)) was = absurd (let no : true ≡ false = ended in cc)
arrived true true true true number rest sendings above (inr (same, stays)) was = stays_so number rest sendings above ((stays refl).1 refl) was
arrived true false true false number rest sendings above (inr (same, stays)) (one, alone, lacks) = record {
  many = ap (λ (l : List Sending). length (with_number number l)) alone ∙ ap (λ (l : List Sending). length l) (lacks_first number (one ∷ []) ((λ is. lacks.0 (sym is)), tt));
  numbered = (one, alone, lacks.1);
}
arrived true true true false number rest sendings above (inr (same, stays)) was = absurd (let no : false ≡ true = (stays refl).0 in cc)
arrived true false true true number rest sendings above (inr (same, stays)) was = absurd (let no : true ≡ false = (stays refl).0 in cc)
arrived true b false c number rest sendings above (inr (same, stays)) was = absurd (let no : false ≡ true = same in cc)
arrived false b true c number rest sendings above (inr (same, stays)) was = absurd (let no : true ≡ false = same in cc)
arrived false b false c number rest sendings above (inr (same, stays)) was = record {
  many = ap (λ (l : List Sending). length l) (lacks_first number sendings (all-weaker (λ (s : Sending). Lacks (number ∷ rest) s.frame) (λ (s : Sending). s.frame ≡ number → ⊥) (λ s lacks is. lacks.0 (sym is)) sendings was));
  numbered = all-weaker (λ (s : Sending). Lacks (number ∷ rest) s.frame) (λ (s : Sending). Lacks rest s.frame) (λ s lacks. lacks.1) sendings was;
}
