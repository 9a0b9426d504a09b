-- The line of a request by its answers: what one more does, and what is known while a copy waits, and after its end.
use Rattle.std.proofs.Common.{◌≡◌, ◌⊎◌, ◌≤◌, ◌<◌, ℕ, ◌+◌, ◌==◌, ◌&&◌, Bool, true, false, if◌then◌else◌, inl, inr, List, [], ◌∷◌, ◌++◌, map, filter, take, refl, sym, ap, ◌∙◌, subst, append-nil, arith}
use Rattle.std.specs.Prelude.{nat_lt}
use Rattle.std.specs.List.{AllByRecursion}
use Rattle.std.proofs.lemmas.Bool.{eq-eqb, eqb-true, lt-ltb}
use Rattle.std.proofs.lemmas.List.Elements.{filter-append}
use Rattle.zw_base.proofs.Each.{all-weaker}
use Rattle.serial_frame.specs.Frame.{FrameParts}
use Rattle.serial_frame.specs.declared.unit.Unit.{Unit as LineUnit}
use Rattle.serial_frame.specs.declared.unit.Unit.TheVariants.{Ack, Nak, Can, Framed}
use Rattle.proof_waking.specs.law_time.Judged.{is_acknowledgement}
use Rattle.proof_waking.specs.law_time.Requests.{Answer, Failing, are_none, failing_by}
use Rattle.proof_waking.specs.proof_alone.Steps.{AreFrames}
use Rattle.proof_requests.specs.Standing.{Standing, counted, failing_in, sent_in, ticks_sent, with_answer}
use Rattle.proof_requests.specs.Asking.{IsCopied, IsPaused, NoneAcknowledges, to_come}
use Rattle.proof_requests.specs.Effects.{Acknowledges, AnswerDoes, Denies, IsSameLine}

-- ---- lists

pub first_stays : {A : Type 0} (xs ys : List A) (x : A) → take 1 xs ≡ x ∷ [] → take 1 (xs ++ ys) ≡ x ∷ []
first_stays {A} [] ys x is = absurd (let bad : [] ≡ x ∷ [] = is in cc)
first_stays {A} (y ∷ xs) ys x is = is

-- there is a first, or none at all
pub first_or_none : {A : Type 0} (xs : List A) → (xs ≡ []) ⊎ ((x : A) × (take 1 xs ≡ x ∷ []))
first_or_none {A} [] = inl refl
first_or_none {A} (x ∷ xs) = inr (x, refl)

-- ---- the ticks of acknowledgements

pub ticks_more : (some more : List Answer) → ticks_sent (some ++ more) ≡ ticks_sent some ++ ticks_sent more
ticks_more [] more = refl
ticks_more (answer ∷ some) more = by (is_acknowledgement answer.unit) (ticks_more some more)
  where
    by : (b : Bool) → ticks_sent (some ++ more) ≡ ticks_sent some ++ ticks_sent more
        → map (λ (one : Answer). one.tick) (if b then answer ∷ filter (λ (one : Answer). is_acknowledgement one.unit) (some ++ more) else filter (λ (one : Answer). is_acknowledgement one.unit) (some ++ more))
        ≡ map (λ (one : Answer). one.tick) (if b then answer ∷ filter (λ (one : Answer). is_acknowledgement one.unit) some else filter (λ (one : Answer). is_acknowledgement one.unit) some) ++ ticks_sent more
    by true same = ap (λ (l : List ℕ). answer.tick ∷ l) same
    by false same = same

pub ticks_one : (answer : Answer) (b : Bool) → is_acknowledgement answer.unit ≡ b → ticks_sent (answer ∷ []) ≡ (if b then answer.tick ∷ [] else [])
ticks_one answer b is = ap (λ (c : Bool). map (λ (one : Answer). one.tick) (if c then answer ∷ [] else [])) is ∙ by b
  where
    by : (c : Bool) → map (λ (one : Answer). one.tick) (if c then answer ∷ [] else []) ≡ (if c then answer.tick ∷ [] else [])
    by true = refl
    by false = refl

pub ticks_none : (answers : List Answer) → NoneAcknowledges answers → ticks_sent answers ≡ []
ticks_none [] all = refl
ticks_none (answer ∷ answers) all = ticks_more (answer ∷ []) answers ∙ ap (λ (l : List ℕ). l ++ ticks_sent answers) (ticks_one answer false all.0) ∙ ticks_none answers all.1

-- ---- which answers count

abbrev pub in_time : Standing → List Answer
in_time s = filter (λ answer. nat_lt answer.tick (s.last + 15)) s.answers

pub counted_few : (s : Standing) → (s.copies == 4) ≡ false → counted s ≡ s.answers
counted_few s few = ap (λ (b : Bool). if b then take 1 (in_time s) else s.answers) few

pub counted_four : (s : Standing) → (s.copies == 4) ≡ true → counted s ≡ take 1 (in_time s)
counted_four s four = ap (λ (b : Bool). if b then take 1 (in_time s) else s.answers) four

in_time_more : (s : Standing) (answer : Answer) (b : Bool) → nat_lt answer.tick (s.last + 15) ≡ b → in_time (with_answer s answer) ≡ in_time s ++ (if b then answer ∷ [] else [])
in_time_more s answer b is =
    filter-append (λ (one : Answer). nat_lt one.tick (s.last + 15)) s.answers (answer ∷ []) ∙ ap (λ (c : Bool). in_time s ++ (if c then answer ∷ [] else [])) is

-- of the fourth copy, with one answer more
pub counted_more : (s : Standing) (answer : Answer) (b : Bool) → (s.copies == 4) ≡ true → nat_lt answer.tick (s.last + 15) ≡ b
    → counted (with_answer s answer) ≡ take 1 (in_time s ++ (if b then answer ∷ [] else []))
counted_more s answer b four is = counted_four (with_answer s answer) four ∙ ap (λ (l : List Answer). take 1 l) (in_time_more s answer b is)

-- ---- by those that count

pub failing_few : (s : Standing) → (s.copies == 4) ≡ false → failing_in s ≡ []
failing_few s few = ap (λ (b : Bool). if b && are_none (sent_in s) then failing_by (counted s) s.last ∷ [] else []) few

pub failing_sent : (s : Standing) (tick : ℕ) → sent_in s ≡ tick ∷ [] → failing_in s ≡ []
failing_sent s tick sent = ap (λ (l : List ℕ). if (s.copies == 4) && are_none l then failing_by (counted s) s.last ∷ [] else []) sent ∙ by (s.copies == 4)
  where
    by : (b : Bool) → (if b && false then failing_by (counted s) s.last ∷ [] else []) ≡ []
    by true = refl
    by false = refl

pub failing_four : (s : Standing) → (s.copies == 4) ≡ true → sent_in s ≡ [] → failing_in s ≡ failing_by (counted s) s.last ∷ []
failing_four s four unsent =
    ap (λ (b : Bool). if b && are_none (sent_in s) then failing_by (counted s) s.last ∷ [] else []) four
    ∙ ap (λ (l : List ℕ). if are_none l then failing_by (counted s) s.last ∷ [] else []) unsent

-- the same where those that count are
pub same_counted : (s : Standing) (answer : Answer) → counted (with_answer s answer) ≡ counted s → IsSameLine s (with_answer s answer)
same_counted s answer same =
    let sent : sent_in (with_answer s answer) ≡ sent_in s = ap (λ (l : List Answer). take 1 (ticks_sent l)) same in record {
      sent = sent;
      failing = ap (λ (l : List Answer). if (s.copies == 4) && are_none (take 1 (ticks_sent l)) then failing_by l s.last ∷ [] else []) same;
    }

-- ---- one answer more

-- before the fourth copy
few_answer : (s : Standing) (answer : Answer) → (s.copies == 4) ≡ false → AnswerDoes s (with_answer s answer) answer
few_answer s answer few = by (is_acknowledgement answer.unit) refl (first_or_none (ticks_sent s.answers))
  where
    before : sent_in s ≡ take 1 (ticks_sent s.answers)
    before = ap (λ (l : List Answer). take 1 (ticks_sent l)) (counted_few s few)

    behind : (b : Bool) → is_acknowledgement answer.unit ≡ b → sent_in (with_answer s answer) ≡ take 1 (ticks_sent s.answers ++ (if b then answer.tick ∷ [] else []))
    behind b is =
        ap (λ (l : List Answer). take 1 (ticks_sent l)) (counted_few (with_answer s answer) few)
        ∙ ap (λ (l : List ℕ). take 1 l) (ticks_more s.answers (answer ∷ []))
        ∙ ap (λ (l : List ℕ). take 1 (ticks_sent s.answers ++ l)) (ticks_one answer b is)

    never : failing_in (with_answer s answer) ≡ failing_in s
    never = failing_few (with_answer s answer) few ∙ sym (failing_few s few)

    by : (b : Bool) → is_acknowledgement answer.unit ≡ b → (ticks_sent s.answers ≡ []) ⊎ ((tick : ℕ) × (take 1 (ticks_sent s.answers) ≡ tick ∷ [])) → AnswerDoes s (with_answer s answer) answer
    by b is (inr (tick, first)) =
        inl (record {
          sent = behind b is ∙ first_stays (ticks_sent s.answers) (if b then answer.tick ∷ [] else []) tick first ∙ sym (before ∙ first);
          failing = never;
        })
    by true is (inl none) =
        inr (inl (record {
          unsent = before ∙ ap (λ (l : List ℕ). take 1 l) none;
          sent = behind true is ∙ ap (λ (l : List ℕ). take 1 (l ++ answer.tick ∷ [])) none;
          failing = failing_few (with_answer s answer) few;
        }))
    by false is (inl none) = inl (record { sent = behind false is ∙ ap (λ (l : List ℕ). take 1 l) (append-nil (ticks_sent s.answers)) ∙ sym before; failing = never })

-- to the fourth: the first in its 15 ticks
four_answer : (s : Standing) (answer : Answer) → (s.copies == 4) ≡ true → AnswerDoes s (with_answer s answer) answer
four_answer s answer four = by (nat_lt answer.tick (s.last + 15)) (is_acknowledgement answer.unit) refl refl (first_or_none (in_time s))
  where
    behind : (b : Bool) → nat_lt answer.tick (s.last + 15) ≡ b → counted (with_answer s answer) ≡ take 1 (in_time s ++ (if b then answer ∷ [] else []))
    behind b is = counted_more s answer b four is

    by : (early acks : Bool) → nat_lt answer.tick (s.last + 15) ≡ early → is_acknowledgement answer.unit ≡ acks → (in_time s ≡ []) ⊎ ((first : Answer) × (take 1 (in_time s) ≡ first ∷ []))
        → AnswerDoes s (with_answer s answer) answer
    by early acks early_is acks_is (inr (first, is)) =
        inl (same_counted s answer (behind early early_is ∙ first_stays (in_time s) (if early then answer ∷ [] else []) first is ∙ sym (counted_four s four ∙ is)))
    by false acks early_is acks_is (inl none) =
        inl (same_counted s answer (behind false early_is ∙ ap (λ (l : List Answer). take 1 l) (append-nil (in_time s)) ∙ sym (counted_four s four)))
    by true acks early_is acks_is (inl none) =
        let unsent : sent_in s ≡ [] = ap (λ (l : List Answer). take 1 (ticks_sent l)) (counted_four s four ∙ ap (λ (l : List Answer). take 1 l) none) in
        let now : counted (with_answer s answer) ≡ answer ∷ [] = behind true early_is ∙ ap (λ (l : List Answer). take 1 (l ++ answer ∷ [])) none in
        let sent : sent_in (with_answer s answer) ≡ take 1 (if acks then answer.tick ∷ [] else []) =
        ap (λ (l : List Answer). take 1 (ticks_sent l)) now ∙ ap (λ (l : List ℕ). take 1 l) (ticks_one answer acks acks_is) in
        inr (kind acks unsent now sent)
      where
        kind : (acks : Bool) → sent_in s ≡ [] → counted (with_answer s answer) ≡ answer ∷ [] → sent_in (with_answer s answer) ≡ take 1 (if acks then answer.tick ∷ [] else [])
            → Acknowledges s (with_answer s answer) answer ⊎ Denies s (with_answer s answer) answer
        kind true unsent now sent = inl (record { unsent = unsent; sent = sent; failing = failing_sent (with_answer s answer) answer.tick sent })
        kind false unsent now sent =
            inr (record { unsent = unsent; still_unsent = sent; failing = failing_four (with_answer s answer) four sent ∙ ap (λ (l : List Answer). failing_by l s.last ∷ []) now })

pub answer_does : (s : Standing) (answer : Answer) → AnswerDoes s (with_answer s answer) answer
answer_does s answer = by (s.copies == 4) refl
  where
    by : (b : Bool) → (s.copies == 4) ≡ b → AnswerDoes s (with_answer s answer) answer
    by true is = four_answer s answer is
    by false is = few_answer s answer is

-- ---- what came and was not judged

pub none_to_come : (now count : ℕ) (came : List LineUnit) → AreFrames came → to_come now count came ≡ []
none_to_come now count [] all = refl
none_to_come now count (Framed f ∷ came) all = none_to_come now (count + 1) came all.1
none_to_come now count (Ack ∷ came) all = absurd all.0
none_to_come now count (Nak ∷ came) all = absurd all.0
none_to_come now count (Can ∷ came) all = absurd all.0

-- each is of this tick, and as many frames or more stand before it
abbrev pub AreOf : ℕ → ℕ → List Answer → Type 0
AreOf now count answers = AllByRecursion (λ answer. (answer.tick ≡ now) × (count ≤ answer.frames)) answers

pub are_to_come : (now count : ℕ) (came : List LineUnit) → AreOf now count (to_come now count came)
are_to_come now count [] = tt
are_to_come now count (Framed f ∷ came) =
    all-weaker (λ answer. (answer.tick ≡ now) × (count + 1 ≤ answer.frames)) (λ answer. (answer.tick ≡ now) × (count ≤ answer.frames))
    (λ answer is. (is.0, let more = is.1 in omega (arith, more))) (to_come now (count + 1) came) (are_to_come now (count + 1) came)
are_to_come now count (Ack ∷ came) = ((refl, omega arith), are_to_come now count came)
are_to_come now count (Nak ∷ came) = ((refl, omega arith), are_to_come now count came)
are_to_come now count (Can ∷ came) = ((refl, omega arith), are_to_come now count came)

-- ---- a copy that waits, or a pause

-- its frame is not acknowledged, or is by what came in this tick
abbrev pub IsFresh : Standing → ℕ → Type 0
IsFresh s now = (sent_in s ≡ []) ⊎ (sent_in s ≡ now ∷ [])

-- the line gives it up later than now, or by an answer that came behind so many frames
abbrev pub GivesUpLater : ℕ → ℕ → List Failing → Type 0
GivesUpLater now count fails = AllByRecursion (λ one. (now < one.tick) ⊎ ((one.at_answer ≡ true) × (one.tick ≡ now) × (count ≤ one.frames))) fails

first_sent : (now count : ℕ) (answers : List Answer) → AreOf now count answers → (take 1 (ticks_sent answers) ≡ []) ⊎ (take 1 (ticks_sent answers) ≡ now ∷ [])
first_sent now count [] all = inl refl
first_sent now count (answer ∷ answers) all = by (is_acknowledgement answer.unit) refl (first_sent now count answers all.1)
  where
    parts : (b : Bool) → is_acknowledgement answer.unit ≡ b → ticks_sent (answer ∷ answers) ≡ (if b then answer.tick ∷ [] else []) ++ ticks_sent answers
    parts b is = ticks_more (answer ∷ []) answers ∙ ap (λ (l : List ℕ). l ++ ticks_sent answers) (ticks_one answer b is)

    both : (take 1 (ticks_sent answers) ≡ []) ⊎ (take 1 (ticks_sent answers) ≡ now ∷ []) → take 1 (ticks_sent (answer ∷ answers)) ≡ take 1 (ticks_sent answers)
        → (take 1 (ticks_sent (answer ∷ answers)) ≡ []) ⊎ (take 1 (ticks_sent (answer ∷ answers)) ≡ now ∷ [])
    both (inl none) same = inl (same ∙ none)
    both (inr one) same = inr (same ∙ one)

    by : (b : Bool) → is_acknowledgement answer.unit ≡ b → (take 1 (ticks_sent answers) ≡ []) ⊎ (take 1 (ticks_sent answers) ≡ now ∷ [])
        → (take 1 (ticks_sent (answer ∷ answers)) ≡ []) ⊎ (take 1 (ticks_sent (answer ∷ answers)) ≡ now ∷ [])
    by true is more = inr (ap (λ (l : List ℕ). take 1 l) (parts true is) ∙ ap (λ (n : ℕ). n ∷ []) all.0.0)
    by false is more = both more (ap (λ (l : List ℕ). take 1 l) (parts false is))

fresh_so : (s : Standing) (now : ℕ) (ticks : List ℕ) → sent_in s ≡ ticks → (ticks ≡ []) ⊎ (ticks ≡ now ∷ []) → IsFresh s now
fresh_so s now ticks sent (inl none) = inl (sent ∙ none)
fresh_so s now ticks sent (inr one) = inr (sent ∙ one)

-- what is known of the line while its frame is on it
pub record IsOpenLine (s : Standing) (now count : ℕ) : Type 0 where
  pub fresh : IsFresh s now
  pub later : GivesUpLater now count (failing_in s)

few_open : (s : Standing) (now count : ℕ) (gone answers : List Answer) → (s.copies == 4) ≡ false → s.answers ≡ gone ++ answers → NoneAcknowledges gone → AreOf now count answers → IsOpenLine s now count
few_open s now count gone answers few are none all = record {
  fresh = fresh_so s now (take 1 (ticks_sent answers))
      (ap (λ (l : List Answer). take 1 (ticks_sent l)) (counted_few s few ∙ are) ∙ ap (λ (l : List ℕ). take 1 l) (ticks_more gone answers)
      ∙ ap (λ (l : List ℕ). take 1 (l ++ ticks_sent answers)) (ticks_none gone none))
      (first_sent now count answers all);
  later = subst (GivesUpLater now count) (sym (failing_few s few)) tt;
}

all_in_time : (now count bound : ℕ) (answers : List Answer) → now < bound → AreOf now count answers → filter (λ answer. nat_lt answer.tick bound) answers ≡ answers
all_in_time now count bound [] less all = refl
all_in_time now count bound (answer ∷ answers) less all =
    ap (λ (b : Bool). if b then answer ∷ filter (λ one. nat_lt one.tick bound) answers else filter (λ one. nat_lt one.tick bound) answers)
    (lt-ltb answer.tick bound (let is = all.0.0 in omega (arith, is, less)))
    ∙ ap (λ (l : List Answer). answer ∷ l) (all_in_time now count bound answers less all.1)

four_open : (s : Standing) (now count : ℕ) (answers : List Answer) → (s.copies == 4) ≡ true → now < s.last + 15 → counted s ≡ take 1 answers → AreOf now count answers → IsOpenLine s now count
four_open s now count [] four less is all =
    let unsent : sent_in s ≡ [] = ap (λ (l : List Answer). take 1 (ticks_sent l)) is in record {
      fresh = inl unsent;
      later = subst (GivesUpLater now count) (sym (failing_four s four unsent ∙ ap (λ (l : List Answer). failing_by l s.last ∷ []) is)) (inl less, tt);
    }
four_open s now count (answer ∷ answers) four less is all =
    record { fresh = by_sent; later = later_by by_sent }
  where
    by_sent : IsFresh s now
    by_sent = fresh_so s now (take 1 (ticks_sent (answer ∷ []))) (ap (λ (l : List Answer). take 1 (ticks_sent l)) is) (first_sent now count (answer ∷ []) (all.0, tt))

    later_by : IsFresh s now → GivesUpLater now count (failing_in s)
    later_by (inl unsent) =
        subst (GivesUpLater now count) (sym (failing_four s four unsent ∙ ap (λ (l : List Answer). failing_by l s.last ∷ []) is)) (inr (refl, all.0.0, all.0.1), tt)
    later_by (inr sent) = subst (GivesUpLater now count) (sym (failing_sent s now sent)) tt

pub four_is : (copies : ℕ) → copies ≡ 4 → (copies == 4) ≡ true
four_is copies is = eq-eqb copies 4 is

pub few_is : (copies : ℕ) → copies ≤ 3 → (copies == 4) ≡ false
few_is copies few = by (copies == 4) refl
  where
    by : (b : Bool) → (copies == 4) ≡ b → b ≡ false
    by true is = absurd (let four = eqb-true copies 4 is in omega (arith, four, few))
    by false is = refl

pub less_than_due : (s : Standing) (now count : ℕ) (came : List LineUnit) (f : FrameParts) (copies ticks : ℕ) → IsCopied s now count came f copies ticks → now < s.last + 15
less_than_due s now count came f copies ticks is =
    let since = is.since in
    let early = is.early in
    omega (arith, since, early)

-- of the answers to a fourth copy that waits the first counts
pub counted_copied : (s : Standing) (now count : ℕ) (came : List LineUnit) (f : FrameParts) (copies ticks : ℕ) → (s.copies == 4) ≡ true → IsCopied s now count came f copies ticks
    → counted s ≡ take 1 (to_come now count came)
counted_copied s now count came f copies ticks four is =
    counted_four s four ∙ ap (λ (l : List Answer). take 1 (filter (λ answer. nat_lt answer.tick (s.last + 15)) l)) is.answers
    ∙ ap (λ (l : List Answer). take 1 l) (all_in_time now count (s.last + 15) (to_come now count came) (less_than_due s now count came f copies ticks is) (are_to_come now count came))

pub copied_open : (s : Standing) (now count : ℕ) (came : List LineUnit) (f : FrameParts) (copies ticks : ℕ) → IsCopied s now count came f copies ticks → IsOpenLine s now count
copied_open s now count came f copies ticks is = by (s.copies == 4) refl
  where
    by : (b : Bool) → (s.copies == 4) ≡ b → IsOpenLine s now count
    by true four =
        four_open s now count (to_come now count came) four (less_than_due s now count came f copies ticks is) (counted_copied s now count came f copies ticks four is) (are_to_come now count came)
    by false few = few_open s now count [] (to_come now count came) few is.answers tt (are_to_come now count came)

pub paused_open : (s : Standing) (now count : ℕ) (came : List LineUnit) (f : FrameParts) (copies : ℕ) → IsPaused s now count came f copies → IsOpenLine s now count
paused_open s now count came f copies is =
    few_open s now count is.gone (to_come now count came)
    (few_is s.copies (let are = is.copies_are in let few = is.few in omega (arith, are, few))) is.answers is.denied (are_to_come now count came)
