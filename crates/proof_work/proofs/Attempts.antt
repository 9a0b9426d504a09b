-- An event of a node leaves the attempt that runs something that wakes it.
use Rattle.std.proofs.Common.{◌≡◌, ℕ, ◌+◌, ◌-◌, ◌≤◌, ◌==◌, ◌&&◌, ◌||◌, nat_lt, is_some, Bool, true, false, if◌then◌else◌, Option, Some, None, List, refl, sym, ap, inl, inr, arith}
use Rattle.std.specs.Prelude.{IsSome}
use Rattle.std.proofs.lemmas.Bool.{both_ways, or_right}
use Rattle.std.proofs.lemmas.Bool.Decides.{nat_tests}
use Rattle.supervision.specs.declared.host_node.Told.{Told}
use Rattle.supervision.specs.declared.host_node.Told.TheVariants.{Final, Working, Old}
use Rattle.host_node.specs.declared.attempt.Plan.{Plan}
use Rattle.host_node.specs.declared.attempt.Plan.TheVariants.{Whole, Segments, Sealed}
use Rattle.host_node.specs.declared.attempt.Moment.{Moment}
use Rattle.host_node.specs.declared.attempt.Moment.TheVariants.{BetweenTicks}
use Rattle.host_node.specs.State.{NodeState, has_segment, has_waiting, is_idle, is_open, is_running, is_up}
use Rattle.host_node.specs.Steps.{after_again, after_again_tick, after_attempt_end, after_attempt_tick, after_attempts, after_hold_tick, after_nonce, after_occasion, after_segment, after_sign, after_sleep, after_start, after_text, after_tick, after_told, asleep, new_series, next_due, series_over, with_again, with_wait, without_attempt}
use Rattle.host_node.specs.Facts.{NothingLeft}
use Rattle.proof_work.specs.Work.{IsAlive, Wakes}

-- either branch of a test
either : (part : Option Bool) (test : Bool) (yes no : NodeState) → (test ≡ true → IsAlive part yes) → (test ≡ false → IsAlive part no) → IsAlive part (if test then yes else no)
either part true m k p q = p refl
either part false m k p q = q refl

-- ---- what wakes an attempt

-- its wait begins anew, or runs on
wait_anew : (part : Option Bool) (wait : ℕ) (left : Bool) → Wakes part wait left → Wakes part 100 left
wait_anew None wait left wakes = inl (omega arith)
wait_anew (Some more) wait left wakes = wakes

less_left : (wait : ℕ) → wait == 1 ≡ false → 1 ≤ wait → 1 ≤ wait - 1
less_left wait many some = grind (arith, nat_tests)

wait_on : (part : Option Bool) (wait : ℕ) (left : Bool) → wait == 1 ≡ false → Wakes part wait left → Wakes part (wait - 1) left
wait_on None wait left many (inl some) = inl (less_left wait many some)
wait_on None wait left many (inr is_left) = inr is_left
wait_on (Some more) wait left many wakes = wakes

-- ---- steps of a node

pub occasion : (part : Option Bool) (n : NodeState) → IsAlive part n → IsAlive part (after_occasion n)
occasion part n w = either part (is_open n && is_up n && is_idle n.series) (new_series n) n (λ _. record { goes_on = λ e. cc; whole = w.whole }) (λ _. w)

pub slept : (part : Option Bool) (n : NodeState) → IsAlive part n → IsAlive part (after_sleep n)
slept part n w = either part n.listens n (asleep n) (λ _. w) (λ _. w)

-- an attempt that ended runs no more, whatever is under way
pub ended : (before part : Option Bool) (n : NodeState) (moment : Moment) → IsAlive before n → IsAlive part (after_attempt_end n moment)
ended before part n moment w =
    either part (is_running n.series) (after_attempts (without_attempt n) (n.book.attempts + 1) moment) n
    (λ _. either part (nat_lt (n.book.attempts + 1) 3) (next_due (without_attempt n) (n.book.attempts + 1)) (after_sleep (series_over (without_attempt n) (n.book.attempts + 1) moment))
    (λ _. record { goes_on = λ e. cc; whole = λ _. refl })
    (λ _. slept part (series_over (without_attempt n) (n.book.attempts + 1) moment) (record { goes_on = λ e. cc; whole = λ _. refl })))
    (λ stopped. record { goes_on = λ runs. absurd (both_ways (is_running n.series) stopped runs); whole = w.whole })

pub signed : (part : Option Bool) (n : NodeState) → IsAlive part n → IsAlive part (after_sign n)
signed part n w =
    either part (is_running n.series) (with_wait n 100) n
    (λ _. record { goes_on = λ runs. wait_anew part n.attempt_wait (has_segment n) (w.goes_on runs); whole = w.whole })
    (λ _. w)

-- the part that was under way ended well
pub signed_over : (part : Option Bool) (n : NodeState) → IsAlive part n → IsAlive None (after_sign n)
signed_over part n w =
    either None (is_running n.series) (with_wait n 100) n
    (λ _. record { goes_on = λ _. inl (omega arith); whole = w.whole })
    (λ stopped. record { goes_on = λ runs. absurd (both_ways (is_running n.series) stopped runs); whole = w.whole })

-- it did not, but others follow
pub passed_over : (n : NodeState) → IsAlive (Some true) n → IsAlive None n
passed_over n w = record { goes_on = λ runs. inr (sym (w.goes_on runs)); whole = w.whole }

pub told : (part : Option Bool) (n : NodeState) (status : ℕ) (t : Told) → IsAlive part n → IsAlive part (after_told n status t)
told part n status (Final session) w = record { goes_on = λ e. cc; whole = λ _. refl }
told part n status Working w = signed part n w
told part n status Old w = w

begun_again : (part : Option Bool) (n : NodeState) → IsAlive part n → IsAlive part (after_again n)
begun_again part n w = either part (has_waiting n) (after_occasion n) n (λ _. occasion part n w) (λ _. w)

again_ticked : (part : Option Bool) (n : NodeState) → IsAlive part n → IsAlive part (after_again_tick n)
again_ticked part n w = either part (n.again_wait == 1) (after_again (with_again n 0)) (with_again n (n.again_wait - 1)) (λ _. begun_again part (with_again n 0) w) (λ _. w)

attempt_ticked : (part : Option Bool) (n : NodeState) → IsAlive part n → IsAlive part (after_attempt_tick n)
attempt_ticked part n w =
    either part (n.attempt_wait == 1) (after_attempt_end n BetweenTicks) (with_wait n (n.attempt_wait - 1))
    (λ _. ended part part n BetweenTicks w)
    (λ many. record { goes_on = λ runs. wait_on part n.attempt_wait (has_segment n) many (w.goes_on runs); whole = w.whole })

pub ticked : (part : Option Bool) (n : NodeState) → IsAlive part n → IsAlive part (after_tick n)
ticked part n w = attempt_ticked part (after_again_tick (after_hold_tick n)) (again_ticked part (after_hold_tick n) w)

-- a sealed text takes the place of the plain one
pub sealed : (part : Option Bool) (n : NodeState) (seen : ℕ) (text : List ℕ) → IsSome n.pending → IsAlive part n → IsAlive part (after_nonce n seen text)
sealed part n seen text pending w = record { goes_on = w.goes_on; whole = λ _. w.whole (or_right (is_some n.text) (is_some n.pending) pending) }

-- ---- parts that are given

pub none_left : (next segments : ℕ) → segments ≡ 0 → nat_lt next segments ≡ false
none_left next segments none = grind (arith, nat_tests)

pub not_sealed : (text pending : Option (List ℕ)) → text ≡ None → pending ≡ None → (is_some text || is_some pending) ≡ true → ⊥
not_sealed None None no_text no_pending e = cc
not_sealed (Some t) pending no_text no_pending e = cc
not_sealed None (Some p) no_text no_pending e = cc

-- the first part of an attempt, where nothing was left of another
pub started : (n : NodeState) (plan : Plan) (more : Bool) → NothingLeft n.attempt_wait n.next_segment n.segments n.text n.pending → more ≡ has_segment (after_start n plan)
    → IsAlive (Some more) (after_start n plan)
started n Whole more none says = record { goes_on = λ _. says; whole = λ _. none.no_segments }
started n (Segments count) more none says = record { goes_on = λ _. says; whole = λ some. absurd (not_sealed n.text n.pending none.no_text none.no_pending some) }
started n (Sealed plain) more none says = record { goes_on = λ _. says; whole = λ _. none.no_segments }

-- a further segment, and a sealed text
pub segment_given : (n : NodeState) (more : Bool) → more ≡ nat_lt (n.next_segment + 1) n.segments → IsAlive None n → IsAlive (Some more) (after_segment n)
segment_given n more says w = record { goes_on = λ _. says; whole = w.whole }

some_text : (text pending : Option (List ℕ)) (payload : List ℕ) → text ≡ Some payload → (is_some text || is_some pending) ≡ true
some_text text pending payload is = ap (λ (o : Option (List ℕ)). is_some o || is_some pending) is

pub text_given : (n : NodeState) (payload : List ℕ) → n.text ≡ Some payload → IsAlive None n → IsAlive (Some false) (after_text n)
text_given n payload is w =
    let none : n.segments ≡ 0 = w.whole (some_text n.text n.pending payload is) in
    record { goes_on = λ _. sym (none_left n.next_segment n.segments none); whole = λ _. none }
