-- What an event of a node makes of its attempts, as they are told.
use Rattle.std.proofs.Common.{◌≡◌, ℕ, ◌+◌, ◌-◌, ◌≤◌, ◌==◌, ◌&&◌, ◌||◌, nat_lt, not, Bool, true, false, if◌then◌else◌, Option, Some, None, List, [], ◌∷◌, refl, sym, ap, ◌∙◌, subst, arith}
use Rattle.std.proofs.lemmas.Bool.{and_parts, both_ways, eq-eqb, or_right}
use Rattle.encap.specs.Opening.{begins_with}
use Rattle.law_time.specs.Attempts.{Attempts, anew, is_late}
use Rattle.host_node.specs.declared.attempt.Moment.{Moment}
use Rattle.host_node.specs.declared.attempt.Moment.TheVariants.{BetweenTicks}
use Rattle.host_node.specs.declared.series.Series.{Series}
use Rattle.host_node.specs.declared.series.Series.TheVariants.{Idle, Due, Running}
use Rattle.host_node.specs.State.{NodeState, has_waiting, is_idle, is_open, is_running, is_up}
use Rattle.host_node.specs.Steps.{after_again, after_again_tick, after_attempt_end, after_attempt_tick, after_attempts, after_begin, after_hold_tick, after_nonce, after_occasion, after_restart, after_sign, after_sleep, as_recorded, asleep, new_series, next_due, series_over, with_again, with_final, with_wait, without_attempt}
use Rattle.proof_queue.specs.proof_attempts.Attempts.{AreAttempts, GoesOn, LastIs, begun_of, is_over_by}
use Rattle.proof_queue.proofs.AttemptsGo.{begun_as, gives_sign, is_kept_late, is_next_due, over_later, running_goes, running_not_over, sign_less, ticks}
use Rattle.proof_giving.specs.Tie.{NodeSo, SentAs, is_third}

-- ---- nodes of one series

pub either_so : (told : Attempts) (time : ℕ) (badly b : Bool) (x y : NodeState) → NodeSo told x time badly → NodeSo told y time badly → NodeSo told (if b then x else y) time badly
either_so told time badly true x y one other = one
either_so told time badly false x y one other = other

-- what is looked at of a node
pub record Parts : Type 0 where
  pub series : Series
  pub attempts : ℕ
  pub wait : ℕ
  pub next : ℕ
  pub segments : ℕ
  pub text : Option (List ℕ)
  pub pending : Option (List ℕ)

abbrev pub parts_of : NodeState → Parts
parts_of s = record { series = s.series; attempts = s.book.attempts; wait = s.attempt_wait; next = s.next_segment; segments = s.segments; text = s.text; pending = s.pending }

record PartsSo (told : Attempts) (p : Parts) (time : ℕ) (badly : Bool) : Type 0 where
  begun : told.begun ≡ begun_of p.series p.attempts
  last : LastIs p.series p.attempts told p.wait time badly
  some : p.series ≡ Running → 1 ≤ told.sent
  segments : p.series ≡ Running → 1 ≤ p.segments → (told.sent ≡ p.next) × (p.text ≡ None) × (p.pending ≡ None)
  text : (sealed : List ℕ) → p.text ≡ Some sealed → begins_with sealed 0x98 0x81 ≡ true

to_parts : (told : Attempts) (s : NodeState) (time : ℕ) (badly : Bool) → NodeSo told s time badly → PartsSo told (parts_of s) time badly
to_parts told s time badly so = record { begun = so.are.begun; last = so.are.last; some = λ is. (so.sent is).some; segments = λ is. (so.sent is).segments; text = so.text }

of_parts : (told : Attempts) (s : NodeState) (time : ℕ) (badly : Bool) → PartsSo told (parts_of s) time badly → NodeSo told s time badly
of_parts told s time badly so =
    record { are = record { begun = so.begun; last = so.last }; sent = λ is. record { some = so.some is; segments = so.segments is }; text = so.text }

-- a change of anything else
pub same_so : (told : Attempts) (s t : NodeState) (time : ℕ) (badly : Bool) → parts_of t ≡ parts_of s → NodeSo told s time badly → NodeSo told t time badly
same_so told s t time badly same so = of_parts told t time badly (subst (λ (p : Parts). PartsSo told p time badly) (sym same) (to_parts told s time badly so))

not_running : {A : Type 0} (s : Series) → s ≡ Running → is_running s ≡ false → A
not_running s is none = absurd (let bad : true ≡ false = sym (ap is_running is) ∙ none in cc)

-- a series is due, with none of its attempts ended
pub anew_so : (told : Attempts) (s : NodeState) (time : ℕ) (badly : Bool) → told.begun ≡ 0 → s.series ≡ Due → s.book.attempts ≡ 0
    → ((sealed : List ℕ) → s.text ≡ Some sealed → begins_with sealed 0x98 0x81 ≡ true) → NodeSo told s time badly
anew_so told s time badly none due first text = record {
  are = record {
    begun = none ∙ sym (ap (λ (x : Series). begun_of x s.book.attempts) due ∙ first);
    last = subst (λ (x : Series). LastIs x s.book.attempts told s.attempt_wait time badly) (sym due) (λ some. absurd (omega (arith, first, some)));
  };
  sent = λ is. not_running s.series is (ap is_running due);
  text = text;
}

-- it is idle
pub idle_so : (told : Attempts) (s : NodeState) (time : ℕ) (badly : Bool) → told.begun ≡ 0 → s.series ≡ Idle
    → ((sealed : List ℕ) → s.text ≡ Some sealed → begins_with sealed 0x98 0x81 ≡ true) → NodeSo told s time badly
idle_so told s time badly none idle text = record {
  are = record {
    begun = none ∙ sym (ap (λ (x : Series). begun_of x s.book.attempts) idle);
    last = subst (λ (x : Series). LastIs x s.book.attempts told s.attempt_wait time badly) (sym idle) tt;
  };
  sent = λ is. not_running s.series is (ap is_running idle);
  text = text;
}

idle_is : (s : Series) → is_idle s ≡ true → s ≡ Idle
idle_is Idle is = refl
idle_is Due is = absurd (let bad : false ≡ true = is in cc)
idle_is Running is = absurd (let bad : false ≡ true = is in cc)

running_is : (s : Series) → is_running s ≡ true → s ≡ Running
running_is Running is = refl
running_is Due is = absurd (let bad : false ≡ true = is in cc)
running_is Idle is = absurd (let bad : false ≡ true = is in cc)

no_text : (sealed : List ℕ) → None ≡ Some sealed → begins_with sealed 0x98 0x81 ≡ true
no_text sealed is = absurd (let bad : ◌≡◌ {A = Option (List ℕ)} None (Some sealed) = is in cc)

module _ (told : Attempts) (s : NodeState) (time : ℕ) (badly : Bool) (so : NodeSo told s time badly) where
  -- ---- a moment at which a series may be due

  pub occasion_so : NodeSo told (after_occasion s) time badly
  occasion_so = by (is_open s && is_up s && is_idle s.series) refl
    where
      by : (b : Bool) → (is_open s && is_up s && is_idle s.series) ≡ b → NodeSo told (if b then new_series s else s) time badly
      by true is =
          let idle : s.series ≡ Idle = idle_is s.series (and_parts (is_open s && is_up s) (is_idle s.series) is).1 in
          anew_so told (new_series s) time badly (so.are.begun ∙ ap (λ (x : Series). begun_of x s.book.attempts) idle) refl refl so.text
      by false is = so

  -- ---- sleep

  pub sleep_so : NodeSo told (after_sleep s) time badly
  sleep_so = either_so told time badly s.listens s (asleep s) so (same_so told s (asleep s) time badly refl so)

  -- ---- a sign

  or_false_left : (a b : Bool) → (a || b) ≡ false → a ≡ false
  or_false_left true b is = is
  or_false_left false b is = refl

  or_rest : (a b : Bool) → a ≡ false → (a || b) ≡ true → b ≡ true
  or_rest true b none is = absurd (let bad : true ≡ false = none in cc)
  or_rest false b none is = is

  -- where one is late it is over, and where the node gives a sign its wait begins anew
  abbrev signed : Bool → Attempts
  signed b = if is_late time told then record told { over = true } else (if b then record told { sign = time ∷ [] } else told)

  pub sign_so : (b : Bool) → NodeSo (signed b) (if b then after_sign s else s) time badly
  sign_so b = by s.series refl (is_late time told) refl
    where
      over_so : is_late time told ≡ true → NodeSo (record told { over = true }) s time badly
      over_so late = record { are = is_kept_late told s time badly so.are late; sent = λ is. let was = so.sent is in record { some = was.some; segments = was.segments }; text = so.text }

      kept : (a : Attempts) (c : Bool) → is_running s.series ≡ false → NodeSo a s time badly → NodeSo a (if c then after_sign s else s) time badly
      kept a c none so = either_so a time badly c (after_sign s) s (subst (λ (d : Bool). NodeSo a (if d then with_wait s 100 else s) time badly) (sym none) so) so

      -- one that does not run: its wait goes on
      idle_told : (c : Bool) → s.series ≡ Idle → is_late time told ≡ false → NodeSo (if c then record told { sign = time ∷ [] } else told) s time badly
      idle_told true idle late =
          record {
            are = record { begun = so.are.begun; last = subst (λ (x : Series). LastIs x s.book.attempts (record told { sign = time ∷ [] }) s.attempt_wait time badly) (sym idle) tt };
            sent = λ is. not_running s.series is (ap is_running idle);
            text = so.text;
          }
      idle_told false idle late = so

      due_told : (c : Bool) → s.series ≡ Due → is_late time told ≡ false → NodeSo (if c then record told { sign = time ∷ [] } else told) s time badly
      due_told true due late =
          record {
            are = record {
              begun = so.are.begun;
              last = subst (λ (x : Series). LastIs x s.book.attempts (record told { sign = time ∷ [] }) s.attempt_wait time badly) (sym due)
                  (λ some.
                  or_right (is_late time (record told { sign = time ∷ [] })) (told.own && badly)
                  (or_rest (is_late time told) (told.own && badly) late (subst (λ (x : Series). LastIs x s.book.attempts told s.attempt_wait time badly) due so.are.last some)));
            };
            sent = λ is. not_running s.series is (ap is_running due);
            text = so.text;
          }
      due_told false due late = so

      runs_told : (c : Bool) → s.series ≡ Running → NodeSo (if c then record told { sign = time ∷ [] } else told) (if c then after_sign s else s) time badly
      runs_told true runs =
          let was = so.sent runs in
          record {
            are = gives_sign told s time badly so.are runs;
            sent = λ is.
                subst (λ (d : Bool). SentAs (record told { sign = time ∷ [] }) (if d then with_wait s 100 else s)) (sym (ap is_running runs)) (record { some = was.some; segments = was.segments });
            text = subst (λ (d : Bool). (sealed : List ℕ) → (if d then with_wait s 100 else s).text ≡ Some sealed → begins_with sealed 0x98 0x81 ≡ true) (sym (ap is_running runs)) so.text;
          }
      runs_told false runs = so

      by : (x : Series) → s.series ≡ x → (late : Bool) → is_late time told ≡ late
          → NodeSo (if late then record told { over = true } else (if b then record told { sign = time ∷ [] } else told)) (if b then after_sign s else s) time badly
      by Idle is true late = kept (record told { over = true }) b (ap is_running is) (over_so late)
      by Idle is false late = kept (if b then record told { sign = time ∷ [] } else told) b (ap is_running is) (idle_told b is late)
      by Due is true late = kept (record told { over = true }) b (ap is_running is) (over_so late)
      by Due is false late = kept (if b then record told { sign = time ∷ [] } else told) b (ap is_running is) (due_told b is late)
      by Running is true late =
          absurd (both_ways (is_late time told) (or_false_left (is_late time told) (told.own && badly) (running_not_over told s time badly so.are is)) late)
      by Running is false late = runs_told b is

  -- ---- an end that is known later

  pub badly_so : (later : Bool) → (badly ≡ true → later ≡ true) → (s.series ≡ Running → (told.own && later) ≡ false) → NodeSo told s time later
  badly_so later goes running = record { are = record { begun = so.are.begun; last = by s.series refl so.are.last }; sent = so.sent; text = so.text }
    where
      more : (a b : Bool) → (a && badly) ≡ true → (a && later) ≡ true
      more true b is = goes is
      more false b is = is

      by : (x : Series) → s.series ≡ x → LastIs x s.book.attempts told s.attempt_wait time badly → LastIs x s.book.attempts told s.attempt_wait time later
      by Idle is last = tt
      by Due is last = λ some. over (is_late time told) (last some)
        where
          over : (late : Bool) → (late || (told.own && badly)) ≡ true → (late || (told.own && later)) ≡ true
          over true is = refl
          over false is = more told.own badly is
      by Running is last = record { not_over = last.not_over; sign = last.sign; not_badly = running is }

  -- ---- the end of an attempt

  -- the third of a series is told to be over, with that
  pub end_so : (later : Bool) (moment : Moment) → (badly ≡ true → later ≡ true) → (s.series ≡ Running → is_over_by time later told ≡ true)
      → NodeSo (if is_third s then anew told else told) (after_attempt_end s moment) time later
  end_so later moment goes over = by (is_running s.series) (nat_lt (s.book.attempts + 1) 3) refl refl
    where
      by : (runs few : Bool) → is_running s.series ≡ runs → nat_lt (s.book.attempts + 1) 3 ≡ few
          → NodeSo (if runs && not few then anew told else told)
          (if runs then (if few then next_due (without_attempt s) (s.book.attempts + 1) else after_sleep (series_over (without_attempt s) (s.book.attempts + 1) moment)) else s) time later
      by true true runs few =
          let is = running_is s.series runs in
          record {
            are = subst (λ (b : Bool). AreAttempts told (if b then next_due (without_attempt s) (s.book.attempts + 1) else after_sleep (series_over (without_attempt s) (s.book.attempts + 1) moment)) time later) few
                (subst (λ (b : Bool). AreAttempts told (if b then after_attempts (without_attempt s) (s.book.attempts + 1) moment else s) time later) runs
                (is_next_due told s time later moment is (begun_as told s time badly Running so.are is) few (over is)));
            sent = λ bad. absurd (let no : Due ≡ Running = bad in cc);
            text = no_text;
          }
      by true false runs few =
          either_so (anew told) time later s.listens (series_over (without_attempt s) (s.book.attempts + 1) moment) (asleep (series_over (without_attempt s) (s.book.attempts + 1) moment))
          (idle_so (anew told) (series_over (without_attempt s) (s.book.attempts + 1) moment) time later refl refl no_text)
          (idle_so (anew told) (asleep (series_over (without_attempt s) (s.book.attempts + 1) moment)) time later refl refl no_text)
      by false few runs is = badly_so later goes (λ bad. not_running s.series bad runs)

-- ---- a tick

-- a series may be due after it
again_so : (told : Attempts) (s : NodeState) (time : ℕ) (badly : Bool) → NodeSo told s time badly → NodeSo told (after_again s) time badly
again_so told s time badly so = either_so told time badly (has_waiting s) (after_occasion s) s (occasion_so told s time badly so) so

pub waits_tick_so : (told : Attempts) (s : NodeState) (time : ℕ) (badly : Bool) → NodeSo told s time badly → NodeSo told (after_again_tick (after_hold_tick s)) time badly
waits_tick_so told s time badly so =
    let held : NodeState = after_hold_tick s in
    either_so told time badly (s.again_wait == 1) (after_again (with_again held 0)) (with_again held (s.again_wait - 1))
    (again_so told (with_again held 0) time badly (same_so told s (with_again held 0) time badly refl so)) (same_so told s (with_again held (s.again_wait - 1)) time badly refl so)

-- the end of the wait of an attempt
pub attempt_tick_so : (told : Attempts) (s : NodeState) (time : ℕ) (badly : Bool) → NodeSo told s time badly
    → NodeSo (if (s.attempt_wait == 1) && is_third s then anew told else told) (after_attempt_tick s) (time + 1) badly
attempt_tick_so told s time badly so = by (s.attempt_wait == 1) refl
  where
    goes : s.series ≡ Running → GoesOn told s.attempt_wait time badly
    goes is = running_goes told s time badly so.are is

    -- it goes on
    less : (s.attempt_wait == 1) ≡ false → NodeSo told (with_wait s (s.attempt_wait - 1)) (time + 1) badly
    less not_one =
        record { are = record { begun = so.are.begun; last = lasts s.series refl so.are.last }; sent = λ is. let was = so.sent is in record { some = was.some; segments = was.segments }; text = so.text }
      where
        lasts : (x : Series) → s.series ≡ x → LastIs x s.book.attempts told s.attempt_wait time badly → LastIs x s.book.attempts told (s.attempt_wait - 1) (time + 1) badly
        lasts Idle is last = tt
        lasts Due is last = λ some. over_later told time badly badly (λ is. is) (last some)
        lasts Running is last = record {
          not_over = last.not_over;
          sign = sign_less told.sign time s.attempt_wait last.sign (λ one. both_ways (s.attempt_wait == 1) not_one (eq-eqb s.attempt_wait 1 one));
          not_badly = last.not_badly;
        }

    -- it ends
    ends : (s.attempt_wait == 1) ≡ true → NodeSo (if is_third s then anew told else told) (after_attempt_end s BetweenTicks) (time + 1) badly
    ends one = each (is_running s.series) (nat_lt (s.book.attempts + 1) 3) refl refl
      where
        attempt_ticks : (s.series ≡ Running → nat_lt (s.book.attempts + 1) 3 ≡ true) → AreAttempts told (after_attempt_end s BetweenTicks) (time + 1) badly
        attempt_ticks fewer =
            subst (λ (b : Bool). AreAttempts told (if b then after_attempt_end s BetweenTicks else with_wait s (s.attempt_wait - 1)) (time + 1) badly) one
            (ticks told s time badly badly so.are (λ is. (goes is).not_badly) (λ is. is) fewer)

        each : (runs few : Bool) → is_running s.series ≡ runs → nat_lt (s.book.attempts + 1) 3 ≡ few
            → NodeSo (if runs && not few then anew told else told)
            (if runs then (if few then next_due (without_attempt s) (s.book.attempts + 1) else after_sleep (series_over (without_attempt s) (s.book.attempts + 1) BetweenTicks)) else s) (time + 1) badly
        each true true runs few =
            record {
              are = subst (λ (b : Bool). AreAttempts told (if b then next_due (without_attempt s) (s.book.attempts + 1) else after_sleep (series_over (without_attempt s) (s.book.attempts + 1) BetweenTicks)) (time + 1) badly) few
                  (subst (λ (b : Bool). AreAttempts told (if b then after_attempts (without_attempt s) (s.book.attempts + 1) BetweenTicks else s) (time + 1) badly) runs (attempt_ticks (λ is. few)));
              sent = λ bad. absurd (let no : Due ≡ Running = bad in cc);
              text = no_text;
            }
        each true false runs few =
            either_so (anew told) (time + 1) badly s.listens (series_over (without_attempt s) (s.book.attempts + 1) BetweenTicks) (asleep (series_over (without_attempt s) (s.book.attempts + 1) BetweenTicks))
            (idle_so (anew told) (series_over (without_attempt s) (s.book.attempts + 1) BetweenTicks) (time + 1) badly refl refl no_text)
            (idle_so (anew told) (asleep (series_over (without_attempt s) (s.book.attempts + 1) BetweenTicks)) (time + 1) badly refl refl no_text)
        each false few runs is =
            record {
              are = subst (λ (b : Bool). AreAttempts told (if b then after_attempts (without_attempt s) (s.book.attempts + 1) BetweenTicks else s) (time + 1) badly) runs
                  (attempt_ticks (λ bad. not_running s.series bad runs));
              sent = λ bad. not_running s.series bad runs;
              text = so.text;
            }

    by : (b : Bool) → (s.attempt_wait == 1) ≡ b
        → NodeSo (if b && is_third s then anew told else told) (if b then after_attempt_end s BetweenTicks else with_wait s (s.attempt_wait - 1)) (time + 1) badly
    by true is = ends is
    by false is = less is

-- ---- what a node hears

-- a nonce is taken
pub nonce_so : (told : Attempts) (s : NodeState) (time : ℕ) (badly : Bool) (seen : ℕ) (sealed : List ℕ) (plain : List ℕ) → s.pending ≡ Some plain → begins_with sealed 0x98 0x81 ≡ true → NodeSo told s time badly
    → NodeSo told (after_nonce s seen sealed) time badly
nonce_so told s time badly seen sealed plain pending begins so = record {
  are = record { begun = so.are.begun; last = so.are.last };
  sent = λ is.
      let was = so.sent is in
      record { some = was.some; segments = λ some. absurd (let none = (was.segments some).2 in let bad : ◌≡◌ {A = Option (List ℕ)} None (Some plain) = sym none ∙ pending in cc) };
  text = λ other is. let same : sealed ≡ other = cc in subst (λ (l : List ℕ). begins_with l 0x98 0x81 ≡ true) same begins;
}

-- a final report
pub final_so : (told : Attempts) (s : NodeState) (time : ℕ) (badly : Bool) (status : ℕ) → NodeSo (anew told) (with_final s status) time badly
final_so told s time badly status = idle_so (anew told) (with_final s status) time badly refl refl no_text

-- ---- where a series begins

pub begin_so : (told : Attempts) (s : NodeState) (time : ℕ) (badly : Bool) → ((sealed : List ℕ) → s.text ≡ Some sealed → begins_with sealed 0x98 0x81 ≡ true) → NodeSo (anew told) (after_begin s) time badly
begin_so told s time badly text = anew_so (anew told) (after_begin s) time badly refl refl refl text

pub restart_so : (told : Attempts) (s : NodeState) (time : ℕ) (badly : Bool) → NodeSo (anew told) (after_restart s) time badly
restart_so told s time badly = occasion_so (anew told) (as_recorded s) time badly (idle_so (anew told) (as_recorded s) time badly refl refl no_text)
