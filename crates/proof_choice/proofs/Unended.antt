-- While a request is under way it has not ended by the transcript, but where the line gives it up at an answer that came after the frame that is judged next.
use Rattle.std.proofs.Common.{◌≡◌, ◌⊎◌, ◌<◌, ◌≤◌, ℕ, ◌+◌, ◌==◌, ◌&&◌, ◌||◌, not, Bool, true, false, if◌then◌else◌, inl, inr, List, [], ◌∷◌, filter, take, refl, sym, ap, ◌∙◌, subst, arith}
use Rattle.std.specs.Prelude.{nat_le, nat_lt}
use Rattle.std.specs.List.{AllByRecursion, flat_map, list_all, list_any}
use Rattle.std.proofs.lemmas.Bool.{and_from, le-leb, lt-leb}
use Rattle.serial_frame.specs.Frame.{FrameParts}
use Rattle.serial_frame.specs.declared.unit.Unit.{Unit as LineUnit}
use Rattle.serial_frame.specs.declared.unit.Unit.TheVariants.{Ack, Nak, Can, Framed}
use Rattle.serial_link.specs.State.{IsBusy}
use Rattle.serial_link.specs.declared.turn.Turn.{Turn}
use Rattle.serial_link.specs.declared.turn.Turn.TheVariants.{Idle, Copied, Paused}
use Rattle.law_time.specs.Requests.{Answer, Failing, Judging, are_none, failing_by}
use Rattle.law_time.specs.Ends.{is_abort_frame, is_before_failing, waits_before_failing}
use Rattle.host_requests.specs.declared.under_way.Progress.{Progress}
use Rattle.host_requests.specs.declared.under_way.Progress.TheVariants.{Submitted, Sent, Answered}
use Rattle.host_requests.specs.declared.under_way.UnderWay.{UnderWay}
use Rattle.proof_giving.specs.proof_queue.proof_attempts.proof_requests.Standing.{Standing, counted, ending_in, failing_in, giving_up_in, responses_in, sent_in, silence_in, wait_in}
use Rattle.proof_giving.specs.proof_queue.proof_attempts.proof_requests.Asking.{AsProgress, IsUnderWay, TieLine, to_come}
use Rattle.proof_giving.proofs.proof_attempts_Ending.{not_silent}
use Rattle.proof_giving.proofs.Line.{counted_copied, failing_few, failing_four, failing_sent, few_is, less_than_due}
use Rattle.proof_giving.proofs.UnderWay.{line_held, over_all, progress_over}

-- it fails later, or at an answer after so many frames
abbrev pub FailsPast : ℕ → ℕ → Failing → Type 0
FailsPast now count one = (now < one.tick) ⊎ ((one.at_answer ≡ true) × (count ≤ one.frames))

pub record LastsPast (s : Standing) (now count : ℕ) : Type 0 where
  pub ending : ending_in s ≡ []
  pub silent : list_any (λ tick. nat_le tick now) (silence_in s) ≡ false
  pub fails : AllByRecursion (FailsPast now (count + 1)) (failing_in s)

answers_later : (now count : ℕ) (came : List LineUnit) → AllByRecursion (λ answer. count ≤ answer.frames) (to_come now count came)
answers_later now count [] = tt
answers_later now count (Framed f ∷ came) = weaker (to_come now (count + 1) came) (answers_later now (count + 1) came)
  where
    weaker : (answers : List Answer) → AllByRecursion (λ answer. count + 1 ≤ answer.frames) answers → AllByRecursion (λ answer. count ≤ answer.frames) answers
    weaker [] all = tt
    weaker (answer ∷ answers) all = (let more = all.0 in omega (arith, more), weaker answers all.1)
answers_later now count (Ack ∷ came) = (omega arith, answers_later now count came)
answers_later now count (Nak ∷ came) = (omega arith, answers_later now count came)
answers_later now count (Can ∷ came) = (omega arith, answers_later now count came)

none_fails : (s : Standing) (now count : ℕ) → failing_in s ≡ [] → AllByRecursion (FailsPast now count) (failing_in s)
none_fails s now count none = subst (AllByRecursion (FailsPast now count)) (sym none) tt

first_fails : (now count last : ℕ) (answers : List Answer) → now < last + 15 → AllByRecursion (λ answer. count ≤ answer.frames) answers → FailsPast now count (failing_by (take 1 answers) last)
first_fails now count last [] later all = inl later
first_fails now count last (answer ∷ answers) later all = inr (refl, all.0)

busy_fails : (s : Standing) (now count : ℕ) (f : FrameParts) (rest : List LineUnit) (turn : Turn) → IsBusy turn → TieLine s now count (Framed f ∷ rest) turn → AllByRecursion (FailsPast now (count + 1)) (failing_in s)
busy_fails s now count f rest Idle busy line = absurd busy
busy_fails s now count f rest (Paused g copies ticks) busy line =
    none_fails s now (count + 1) (failing_few s (few_is s.copies (let are = line.copies_are in let few = line.few in omega (arith, are, few))))
busy_fails s now count f rest (Copied g copies ticks) busy line = by (s.copies == 4) refl
  where
    late : now < s.last + 15
    late = less_than_due s now count (Framed f ∷ rest) g copies ticks line

    four_fails : (s.copies == 4) ≡ true → (l : List ℕ) → sent_in s ≡ l → AllByRecursion (FailsPast now (count + 1)) (failing_in s)
    four_fails four (tick ∷ more) sent =
        none_fails s now (count + 1) (ap (λ (l : List ℕ). if (s.copies == 4) && are_none l then failing_by (counted s) s.last ∷ [] else []) sent ∙ neither (s.copies == 4))
      where
        neither : (b : Bool) → (if b && false then failing_by (counted s) s.last ∷ [] else []) ≡ []
        neither true = refl
        neither false = refl
    four_fails four [] unsent =
        subst (AllByRecursion (FailsPast now (count + 1)))
        (sym (failing_four s four unsent ∙ ap (λ (l : List Answer). failing_by l s.last ∷ []) (counted_copied s now count (Framed f ∷ rest) g copies ticks four line)))
        (first_fails now (count + 1) s.last (to_come now (count + 1) rest) late (answers_later now (count + 1) rest), tt)

    by : (b : Bool) → (s.copies == 4) ≡ b → AllByRecursion (FailsPast now (count + 1)) (failing_in s)
    by true four = four_fails four (sent_in s) refl
    by false few = none_fails s now (count + 1) (failing_few s few)

all_fail : (s : Standing) (now count : ℕ) (f : FrameParts) (rest : List LineUnit) (turn : Turn) (progress : Progress) → TieLine s now count (Framed f ∷ rest) turn → AsProgress s now turn progress
    → AllByRecursion (FailsPast now (count + 1)) (failing_in s)
all_fail s now count f rest turn Submitted line progress = busy_fails s now count f rest turn progress.0 line
all_fail s now count f rest turn (Sent left) line (idle, none, other, sent, sent_is, since, some) = none_fails s now (count + 1) (failing_sent s sent sent_is)
all_fail s now count f rest turn (Answered true left) line (other, one, more, are, since, some, few, (idle, sent, sent_is, time)) = none_fails s now (count + 1) (failing_sent s sent sent_is)
all_fail s now count f rest turn (Answered false left) line (other, one, more, are, since, some, few, busy) = busy_fails s now count f rest turn busy line

pub lasts_past : (s : Standing) (now count : ℕ) (f : FrameParts) (rest : List LineUnit) (turn : Turn) (id : ℕ) (u : UnderWay) → TieLine s now count (Framed f ∷ rest) turn → IsUnderWay s now turn id u → LastsPast s now count
lasts_past s now count f rest turn id u line is =
    let ending : ending_in s ≡ [] = ap (λ (l : List Judging). filter (λ one. list_all (nat_lt one.tick) (wait_in s) && list_all (is_before_failing one) (failing_in s)) l) is.unended in
    let over = over_all now now (is_abort_frame s.frame) (sent_in s) (responses_in s) refl (progress_over s now count turn u.progress (line_held s now count (Framed f ∷ rest) turn line) is.progress) in
    record {
      ending = ending;
      silent = ap (λ (l : List Judging). list_any (λ tick. nat_le tick now) (if are_none l then filter (λ wait. list_all (waits_before_failing wait) (failing_in s)) (wait_in s) else [])) ending
          ∙ not_silent now (λ wait. list_all (waits_before_failing wait) (failing_in s)) (wait_in s) over;
      fails = all_fail s now count f rest turn u.progress line is.progress;
    }

-- so the line gives it up later, or at such an answer
given_later : (now count : ℕ) (fails : List Failing) → AllByRecursion (FailsPast now count) fails
    → (list_any (λ tick. nat_le tick now) (flat_map (λ one. one.tick ∷ []) fails) ≡ false) ⊎ (list_any (λ one. one.at_answer && nat_le count one.frames) fails ≡ true)
given_later now count [] all = inl refl
given_later now count (one ∷ fails) (inl later, more) = by (given_later now count fails more)
  where
    by : (list_any (λ tick. nat_le tick now) (flat_map (λ one. one.tick ∷ []) fails) ≡ false) ⊎ (list_any (λ one. one.at_answer && nat_le count one.frames) fails ≡ true)
        → (list_any (λ tick. nat_le tick now) (flat_map (λ one. one.tick ∷ []) (one ∷ fails)) ≡ false) ⊎ (list_any (λ one. one.at_answer && nat_le count one.frames) (one ∷ fails) ≡ true)
    by (inl none) = inl (ap (λ (b : Bool). b || list_any (λ tick. nat_le tick now) (flat_map (λ one. one.tick ∷ []) fails)) (lt-leb one.tick now later) ∙ none)
    by (inr some) = inr (right (one.at_answer && nat_le count one.frames) some)
      where
        right : (b : Bool) → list_any (λ one. one.at_answer && nat_le count one.frames) fails ≡ true → (b || list_any (λ one. one.at_answer && nat_le count one.frames) fails) ≡ true
        right true is = refl
        right false is = is
given_later now count (one ∷ fails) (inr (answers, after), more) =
    inr (ap (λ (b : Bool). b || list_any (λ one. one.at_answer && nat_le count one.frames) fails) (and_from one.at_answer (nat_le count one.frames) answers (le-leb count one.frames after)))

-- by the time it is not given up, or it is only at an answer that came later
pub record GivenLater (s : Standing) (now count : ℕ) : Type 0 where
  pub either : (list_any (λ tick. nat_le tick now) (giving_up_in s) ≡ false)
      ⊎ ((not (are_none (giving_up_in s)) && list_any (λ one. one.at_answer && nat_le (count + 1) one.frames) (failing_in s)) ≡ true)

pub gives_later : (s : Standing) (now count : ℕ) → LastsPast s now count → GivenLater s now count
gives_later s now count lasts = record { either = by (are_none (ending_in s) && are_none (silence_in s)) (failing_in s) lasts.fails }
  where
    by : (b : Bool) (fails : List Failing) → AllByRecursion (FailsPast now (count + 1)) fails
        → (list_any (λ tick. nat_le tick now) (if b then flat_map (λ one. one.tick ∷ []) fails else []) ≡ false)
        ⊎ ((not (are_none (if b then flat_map (λ one. one.tick ∷ []) fails else [])) && list_any (λ one. one.at_answer && nat_le (count + 1) one.frames) fails) ≡ true)
    by false fails all = inl refl
    by true [] all = inl refl
    by true (one ∷ fails) all = so (given_later now (count + 1) (one ∷ fails) all)
      where
        so : (list_any (λ tick. nat_le tick now) (flat_map (λ one. one.tick ∷ []) (one ∷ fails)) ≡ false) ⊎ (list_any (λ one. one.at_answer && nat_le (count + 1) one.frames) (one ∷ fails) ≡ true)
            → (list_any (λ tick. nat_le tick now) (flat_map (λ one. one.tick ∷ []) (one ∷ fails)) ≡ false)
            ⊎ ((not (are_none (flat_map (λ one. one.tick ∷ []) (one ∷ fails))) && list_any (λ one. one.at_answer && nat_le (count + 1) one.frames) (one ∷ fails)) ≡ true)
        so (inl none) = inl none
        so (inr some) = inr some
