-- The attempts of a node go with it, and say what its session has to send next.
use Rattle.std.proofs.Common.{◌≡◌, ◌⊎◌, ℕ, zero, suc, ◌+◌, ◌-◌, ◌≤◌, ◌==◌, ◌&&◌, ◌||◌, nat_le, nat_lt, not, Bool, true, false, if◌then◌else◌, List, [], ◌∷◌, refl, sym, ap, ◌∙◌, subst, inl, inr, arith}
use Rattle.std.specs.List.{list_any}
use Rattle.std.proofs.lemmas.Bool.{both_ways, cases_eq, eq-eqb, false_from_ne_true, le-leb, leb-true, lt-ltb, ne_eqb, or_left, or_right, or_from, or_parts}
use Rattle.proof_work.specs.law_transcript.Units.{is_frame, notice_in, sending_in}
use Rattle.proof_work.specs.law_time.Attempts.{Attempts as AttemptsTold, anew, attempts_by_request, ends_badly, goes_on, is_bad, is_late}
use Rattle.proof_work.specs.law_time.Choice.{first_part, further_parts, parts_by}
use Rattle.proof_work.specs.law_time.Ends.{ending, giving_up, has_ended, is_abort_frame, silence}
use Rattle.proof_work.specs.law_time.Requests.{Asked, Judging, are_none, sent_at}
use Rattle.proof_work.specs.law_time.Sessions.{Session}
use Rattle.host_node.specs.declared.attempt.Moment.{Moment}
use Rattle.host_node.specs.declared.attempt.Moment.TheVariants.{BetweenTicks}
use Rattle.host_node.specs.declared.attempt.Plan.{Plan}
use Rattle.host_node.specs.declared.attempt.Plan.TheVariants.{Whole, Segments, Sealed}
use Rattle.host_node.specs.declared.series.Series.{Series}
use Rattle.host_node.specs.declared.series.Series.TheVariants.{Idle, Due, Running}
use Rattle.host_node.specs.State.{NodeState, is_idle, is_running}
use Rattle.host_node.specs.Steps.{after_attempt_end, after_attempt_tick, after_attempts, after_segment, after_sign, after_sleep, after_start, after_text, next_due, series_over, with_wait, without_attempt}
use Rattle.proof_attempts.specs.Attempts.{AreAttempts, GoesOn, IsSign, LastIs, begun_of, is_over_by}

-- ---- whether the last one is over

-- a sign that may still be waited for
sign_fresh : (sign : List ℕ) (now wait : ℕ) → IsSign sign now wait → list_any (λ tick. nat_le (tick + 100) now) sign ≡ false
sign_fresh [] now wait is = refl
sign_fresh (tick ∷ more) now wait is =
    or_from (nat_le (tick + 100) now) (list_any (λ tick. nat_le (tick + 100) now) more)
    (false_from_ne_true (nat_le (tick + 100) now) (λ over. absurd (let most = leb-true (tick + 100) now over in let some = is.1 in let sum = is.2 in omega (arith, most, some, sum))))
    (ap (λ (l : List ℕ). list_any (λ tick. nat_le (tick + 100) now) l) is.0)

goes_not_late : (told : AttemptsTold) (wait now : ℕ) (badly : Bool) → GoesOn told wait now badly → is_late now told ≡ false
goes_not_late told wait now badly goes = or_from told.over _ goes.not_over (sign_fresh told.sign now wait goes.sign)

pub goes_not_over : (told : AttemptsTold) (wait now : ℕ) (badly : Bool) → GoesOn told wait now badly → is_over_by now badly told ≡ false
goes_not_over told wait now badly goes = or_from (is_late now told) (told.own && badly) (goes_not_late told wait now badly goes) goes.not_badly

-- what is known of one that runs, and of one that is due
pub running_goes : (told : AttemptsTold) (node : NodeState) (now : ℕ) (badly : Bool) → AreAttempts told node now badly → node.series ≡ Running → GoesOn told node.attempt_wait now badly
running_goes told node now badly are is = subst (λ (s : Series). LastIs s node.book.attempts told node.attempt_wait now badly) is are.last

pub begun_as : (told : AttemptsTold) (node : NodeState) (now : ℕ) (badly : Bool) (s : Series) → AreAttempts told node now badly → node.series ≡ s → told.begun ≡ begun_of s node.book.attempts
begun_as told node now badly s are is = are.begun ∙ ap (λ (s : Series). begun_of s node.book.attempts) is

pub running_not_over : (told : AttemptsTold) (node : NodeState) (now : ℕ) (badly : Bool) → AreAttempts told node now badly → node.series ≡ Running → is_over_by now badly told ≡ false
running_not_over told node now badly are is = goes_not_over told node.attempt_wait now badly (running_goes told node now badly are is)

-- a request that has not ended has not ended badly
none_ending : (frames : List Judging) → not (are_none frames) ≡ false → (bad : Judging → Bool) → list_any bad frames ≡ false
none_ending [] none bad = refl
none_ending (one ∷ more) none bad = absurd (let no : true ≡ false = none in cc)

pub unended_well : (last : Asked) (inner : Bool) (now : ℕ) → has_ended last now ≡ false → ends_badly last inner now ≡ false
unended_well last inner now none =
    let silent : Bool = list_any (λ tick. nat_le tick now) (silence last) in
    let given : Bool = list_any (λ tick. nat_le tick now) (giving_up last) in
    let abort : Bool = is_abort_frame last.frame && not (are_none (sent_at last)) in
    let timely = (or_parts ((not (are_none (ending last)) || silent) || given) abort none).0 in
    let both = or_parts (not (are_none (ending last)) || silent) given timely in
    let each = or_parts (not (are_none (ending last))) silent both.0 in
    or_from (list_any (λ one. is_frame one.unit 1 || list_any (is_bad inner) (notice_in one.unit)) (ending last) || silent) given
    (or_from (list_any (λ one. is_frame one.unit 1 || list_any (is_bad inner) (notice_in one.unit)) (ending last)) silent
    (none_ending (ending last) each.0 (λ one. is_frame one.unit 1 || list_any (is_bad inner) (notice_in one.unit))) each.1)
    both.1

-- ---- what is next

pub next_first : (told : AttemptsTold) (node : NodeState) (now : ℕ) (badly : Bool) (session : Session) → AreAttempts told node now badly → node.series ≡ Due → node.book.attempts ≤ 2
    → parts_by (is_over_by now badly told) session told ≡ first_part session session.form ∷ []
next_first told node now badly session are is few = by node.book.attempts (begun_as told node now badly Due are is) few (subst (λ (s : Series). LastIs s node.book.attempts told node.attempt_wait now badly) is are.last)
  where
    chosen : (b : Bool) → b ≡ true
        → (if b then first_part session session.form ∷ [] else (if is_over_by now badly told then [] else further_parts session session.form told)) ≡ first_part session session.form ∷ []
    chosen true is = refl
    chosen false is = absurd (let bad : false ≡ true = is in cc)

    by : (k : ℕ) → told.begun ≡ k → k ≤ 2 → (1 ≤ k → is_over_by now badly told ≡ true) → parts_by (is_over_by now badly told) session told ≡ first_part session session.form ∷ []
    by zero begun few over = chosen ((told.begun == 0) || (is_over_by now badly told && nat_lt told.begun 3)) (or_left (told.begun == 0) _ (eq-eqb told.begun 0 begun))
    by (suc k) begun few over =
        chosen ((told.begun == 0) || (is_over_by now badly told && nat_lt told.begun 3))
        (or_right (told.begun == 0) _
        (ap (λ (b : Bool). b && nat_lt told.begun 3) (over (omega arith)) ∙ lt-ltb told.begun 3 (omega (arith, begun, few))))

pub next_further : (told : AttemptsTold) (node : NodeState) (now : ℕ) (badly : Bool) (session : Session) → AreAttempts told node now badly → node.series ≡ Running
    → parts_by (is_over_by now badly told) session told ≡ further_parts session session.form told
next_further told node now badly session are is =
    let begun = begun_as told node now badly Running are is in
    let some : (told.begun == 0) ≡ false = ne_eqb told.begun 0 (λ none. absurd (omega (arith, begun, none))) in
    ap (λ (b : Bool). parts_by b session told) (running_not_over told node now badly are is)
    ∙ ap (λ (b : Bool). if b || (false && nat_lt told.begun 3) then first_part session session.form ∷ [] else further_parts session session.form told) some

-- ---- requests

pub begins : (told : AttemptsTold) (node : NodeState) (now : ℕ) (badly over : Bool) (unit : List ℕ) (plan : Plan) → AreAttempts told node now badly → node.series ≡ Due → node.attempt_wait ≡ 0
    → list_any (λ carried. goes_on carried.payload) (sending_in unit) ≡ false → AreAttempts (attempts_by_request true over unit told) (after_start node plan) now false
begins told node now badly over unit plan are is no_wait first =
    subst (λ (a : AttemptsTold). AreAttempts a (after_start node plan) now false)
    (sym (ap (λ (b : Bool). if b then record told { sent = told.sent + 1; own = true; ready = [] } else record (anew told) { begun = told.begun + 1; sent = 1; own = true }) first)) (by plan)
  where
    begun_so : told.begun + 1 ≡ node.book.attempts + 1
    begun_so = ap (λ (k : ℕ). k + 1) (begun_as told node now badly Due are is)

    by : (plan : Plan) → AreAttempts (record (anew told) { begun = told.begun + 1; sent = 1; own = true }) (after_start node plan) now false
    by Whole = record { begun = begun_so; last = record { not_over = refl; sign = no_wait; not_badly = refl } }
    by (Segments count) = record { begun = begun_so; last = record { not_over = refl; sign = no_wait; not_badly = refl } }
    by (Sealed plain) = record { begun = begun_so; last = record { not_over = refl; sign = no_wait; not_badly = refl } }

-- one that runs goes on, with a node that has the same attempts
module _ (told : AttemptsTold) (node : NodeState) (now : ℕ) (badly : Bool) (are : AreAttempts told node now badly) (is : node.series ≡ Running) where
  running_as : (a : AttemptsTold) (wait time : ℕ) (later : Bool) → a.begun ≡ told.begun → GoesOn a wait time later
      → (a.begun ≡ begun_of node.series node.book.attempts) × LastIs node.series node.book.attempts a wait time later
  running_as a wait time later begun goes = (begun ∙ are.begun, subst (λ (s : Series). LastIs s node.book.attempts a wait time later) (sym is) goes)

  goes : GoesOn told node.attempt_wait now badly
  goes = running_goes told node now badly are is

  pub goes_further : (over : Bool) (unit : List ℕ) → list_any (λ carried. goes_on carried.payload) (sending_in unit) ≡ true
      → AreAttempts (attempts_by_request true over unit told) (after_segment node) now false × AreAttempts (attempts_by_request true over unit told) (after_text node) now false
  goes_further over unit more =
      let all = running_as (record told { sent = told.sent + 1; own = true; ready = [] }) node.attempt_wait now false refl
      (record { not_over = goes.not_over; sign = goes.sign; not_badly = refl }) in
      let same = sym (ap (λ (b : Bool). if b then record told { sent = told.sent + 1; own = true; ready = [] } else record (anew told) { begun = told.begun + 1; sent = 1; own = true }) more) in (
        subst (λ (a : AttemptsTold). AreAttempts a (after_segment node) now false) same (record { begun = all.0; last = all.1 }),
        subst (λ (a : AttemptsTold). AreAttempts a (after_text node) now false) same (record { begun = all.0; last = all.1 }),
      )

  pub gives_sign : AreAttempts (record told { sign = now ∷ [] }) (after_sign node) now badly
  gives_sign =
      let all = running_as (record told { sign = now ∷ [] }) 100 now badly refl (record { not_over = goes.not_over; sign = (refl, omega arith, refl); not_badly = goes.not_badly }) in
      subst (λ (b : Bool). AreAttempts (record told { sign = now ∷ [] }) (if b then with_wait node 100 else node) now badly) (sym (ap is_running is))
      (record { begun = all.0; last = all.1 })

-- another request takes the place of the last one, and whether the attempt was over is kept
pub other_asked : (told : AttemptsTold) (node : NodeState) (now : ℕ) (badly later : Bool) (unit : List ℕ) → AreAttempts told node now badly
    → AreAttempts (attempts_by_request false (is_over_by now badly told) unit told) node now later
other_asked told node now badly later unit are = record { begun = are.begun; last = by node.series refl are.last }
  where
    by : (s : Series) → node.series ≡ s → LastIs s node.book.attempts told node.attempt_wait now badly
        → LastIs s node.book.attempts (record told { own = false; over = is_over_by now badly told }) node.attempt_wait now later
    by Idle is last = tt
    by Due is last = λ some. or_left _ (false && later) (or_left (is_over_by now badly told) _ (last some))
    by Running is goes = record { not_over = goes_not_over told node.attempt_wait now badly goes; sign = goes.sign; not_badly = refl }

-- ---- time

pub is_kept_late : (told : AttemptsTold) (node : NodeState) (now : ℕ) (badly : Bool) → AreAttempts told node now badly → is_late now told ≡ true
    → AreAttempts (record told { over = true }) node now badly
is_kept_late told node now badly are late = record { begun = are.begun; last = by node.series are.last }
  where
    by : (s : Series) → LastIs s node.book.attempts told node.attempt_wait now badly → LastIs s node.book.attempts (record told { over = true }) node.attempt_wait now badly
    by Idle last = tt
    by Due last = λ some. refl
    by Running goes = absurd (both_ways (is_late now told) (goes_not_late told node.attempt_wait now badly goes) late)

-- what is over stays so
or_more : (a b c d : Bool) → (a ≡ true → c ≡ true) → (b ≡ true → d ≡ true) → (a || b) ≡ true → (c || d) ≡ true
or_more true b c d left right is = or_left c d (left refl)
or_more false b c d left right is = or_right c d (right is)

and_more : (a b c : Bool) → (b ≡ true → c ≡ true) → (a && b) ≡ true → (a && c) ≡ true
and_more true b c so is = so is
and_more false b c so is = is

sign_later : (sign : List ℕ) (now : ℕ) → list_any (λ tick. nat_le (tick + 100) now) sign ≡ true → list_any (λ tick. nat_le (tick + 100) (now + 1)) sign ≡ true
sign_later [] now is = is
sign_later (tick ∷ more) now is =
    or_more (nat_le (tick + 100) now) _ (nat_le (tick + 100) (now + 1)) _
    (λ past. let most = leb-true (tick + 100) now past in le-leb (tick + 100) (now + 1) (omega (arith, most)))
    (sign_later more now) is

late_later : (told : AttemptsTold) (now : ℕ) → is_late now told ≡ true → is_late (now + 1) told ≡ true
late_later told now =
    or_more told.over (list_any (λ tick. nat_le (tick + 100) now) told.sign) told.over (list_any (λ tick. nat_le (tick + 100) (now + 1)) told.sign) (λ is. is) (sign_later told.sign now)

pub over_later : (told : AttemptsTold) (now : ℕ) (badly later : Bool) → (badly ≡ true → later ≡ true) → is_over_by now badly told ≡ true → is_over_by (now + 1) later told ≡ true
over_later told now badly later goes =
    or_more (is_late now told) (told.own && badly) (is_late (now + 1) told) (told.own && later) (late_later told now) (and_more told.own badly later goes)

-- ---- ends

-- the next one is due
pub is_next_due : (told : AttemptsTold) (node : NodeState) (now : ℕ) (badly : Bool) (moment : Moment) → node.series ≡ Running → told.begun ≡ node.book.attempts + 1
    → nat_lt (node.book.attempts + 1) 3 ≡ true → is_over_by now badly told ≡ true → AreAttempts told (after_attempt_end node moment) now badly
is_next_due told node now badly moment is begun fewer over =
    subst (λ (b : Bool). AreAttempts told (if b then after_attempts (without_attempt node) (node.book.attempts + 1) moment else node) now badly) (sym (ap is_running is))
    (subst
    (λ (b : Bool). AreAttempts told
    (if b then next_due (without_attempt node) (node.book.attempts + 1) else after_sleep (series_over (without_attempt node) (node.book.attempts + 1) moment)) now badly)
    (sym fewer) (record { begun = begun; last = λ some. over }))

-- the wait of a sign is over
sign_over : (sign : List ℕ) (now wait : ℕ) → IsSign sign now wait → wait ≡ 1 → list_any (λ tick. nat_le (tick + 100) (now + 1)) sign ≡ true
sign_over [] now wait is one = absurd (omega (arith, is, one))
sign_over (tick ∷ more) now wait is one = or_left (nat_le (tick + 100) (now + 1)) _ (let sum = is.2 in le-leb (tick + 100) (now + 1) (omega (arith, sum, one)))

pub sign_less : (sign : List ℕ) (now wait : ℕ) → IsSign sign now wait → (wait ≡ 1 → ⊥) → IsSign sign (now + 1) (wait - 1)
sign_less [] now wait is other = omega (arith, is)
sign_less (tick ∷ more) now wait is other = (is.0, above wait is.1 other, sums wait is.1 is.2)
  where
    above : (k : ℕ) → 1 ≤ k → (k ≡ 1 → ⊥) → 1 ≤ k - 1
    above zero some other = absurd (omega (arith, some))
    above (suc zero) some other = absurd (other refl)
    above (suc (suc k)) some other = omega arith

    sums : (k : ℕ) → 1 ≤ k → tick + 100 ≡ now + k → tick + 100 ≡ (now + 1) + (k - 1)
    sums k some sum = omega (arith, some, sum)

module _ (told : AttemptsTold) (node : NodeState) (now : ℕ) (badly later : Bool) (are : AreAttempts told node now badly) (running : node.series ≡ Running → (told.own && later) ≡ false)
    (goes : badly ≡ true → later ≡ true) (fewer : node.series ≡ Running → nat_lt (node.book.attempts + 1) 3 ≡ true) where
  -- it does not run, or its wait goes on
  still : (s : Series) (wait : ℕ) → node.series ≡ s → (s ≡ Running → IsSign told.sign (now + 1) wait) → LastIs s node.book.attempts told node.attempt_wait now badly
      → LastIs s node.book.attempts told wait (now + 1) later
  still Idle wait is sign last = tt
  still Due wait is sign last = λ some. over_later told now badly later goes (last some)
  still Running wait is sign last = record { not_over = last.not_over; sign = sign refl; not_badly = running is }

  ends_so : (s : Series) → node.series ≡ s → node.attempt_wait ≡ 1 → AreAttempts told (after_attempt_end node BetweenTicks) (now + 1) later
  ends_so Idle is one = not_running Idle is refl (λ bad. absurd (let no : Idle ≡ Running = bad in cc))
    where
      not_running : (s : Series) → node.series ≡ s → is_running s ≡ false → (s ≡ Running → IsSign told.sign (now + 1) node.attempt_wait) → AreAttempts told (after_attempt_end node BetweenTicks) (now + 1) later
      not_running s is none sign =
          subst (λ (b : Bool). AreAttempts told (if b then after_attempts (without_attempt node) (node.book.attempts + 1) BetweenTicks else node) (now + 1) later) (sym (ap is_running is ∙ none))
          (record { begun = are.begun; last = still node.series node.attempt_wait refl (λ runs. sign (sym is ∙ runs)) are.last })
  ends_so Due is one = not_running Due is refl (λ bad. absurd (let no : Due ≡ Running = bad in cc))
    where
      not_running : (s : Series) → node.series ≡ s → is_running s ≡ false → (s ≡ Running → IsSign told.sign (now + 1) node.attempt_wait) → AreAttempts told (after_attempt_end node BetweenTicks) (now + 1) later
      not_running s is none sign =
          subst (λ (b : Bool). AreAttempts told (if b then after_attempts (without_attempt node) (node.book.attempts + 1) BetweenTicks else node) (now + 1) later) (sym (ap is_running is ∙ none))
          (record { begun = are.begun; last = still node.series node.attempt_wait refl (λ runs. sign (sym is ∙ runs)) are.last })
  ends_so Running is one =
      let on = running_goes told node now badly are is in
      is_next_due told node (now + 1) later BetweenTicks is (begun_as told node now badly Running are is) (fewer is)
      (or_left (is_late (now + 1) told) _ (or_right told.over _ (sign_over told.sign now node.attempt_wait on.sign one)))

  pub ticks : AreAttempts told (after_attempt_tick node) (now + 1) later
  ticks = by (cases_eq node.attempt_wait 1)
    where
      by : (node.attempt_wait ≡ 1) ⊎ (node.attempt_wait ≡ 1 → ⊥) → AreAttempts told (after_attempt_tick node) (now + 1) later
      by (inl one) =
          subst (λ (b : Bool). AreAttempts told (if b then after_attempt_end node BetweenTicks else with_wait node (node.attempt_wait - 1)) (now + 1) later) (sym (eq-eqb node.attempt_wait 1 one))
          (ends_so node.series refl one)
      by (inr other) =
          subst (λ (b : Bool). AreAttempts told (if b then after_attempt_end node BetweenTicks else with_wait node (node.attempt_wait - 1)) (now + 1) later) (sym (ne_eqb node.attempt_wait 1 other))
          (record {
            begun = are.begun;
            last = still node.series (node.attempt_wait - 1) refl (λ is. sign_less told.sign now node.attempt_wait (running_goes told node now badly are is).sign other) are.last;
          })

-- ---- a series begins anew

pub none_yet : (told : AttemptsTold) (node : NodeState) (now : ℕ) (badly : Bool) → (is_idle node.series ≡ true) ⊎ ((node.series ≡ Due) × (node.book.attempts ≡ 0))
    → AreAttempts (anew told) node now badly
none_yet told node now badly (inl idle) = record { begun = first node.series idle; last = none node.series idle }
  where
    first : (s : Series) → is_idle s ≡ true → 0 ≡ begun_of s node.book.attempts
    first Idle is = refl
    first Due is = absurd (let bad : false ≡ true = is in cc)
    first Running is = absurd (let bad : false ≡ true = is in cc)

    none : (s : Series) → is_idle s ≡ true → LastIs s node.book.attempts (anew told) node.attempt_wait now badly
    none Idle is = tt
    none Due is = absurd (let bad : false ≡ true = is in cc)
    none Running is = absurd (let bad : false ≡ true = is in cc)
none_yet told node now badly (inr (due, zero_is)) =
    record {
      begun = sym (ap (λ (s : Series). begun_of s node.book.attempts) due ∙ zero_is);
      last = subst (λ (s : Series). LastIs s node.book.attempts (anew told) node.attempt_wait now badly) (sym due) (λ some. absurd (omega (arith, zero_is, some)));
    }
