-- Results that come while a SendData that was aborted still waits for its own: the chip is given nothing of them. So a frame ends just the SendData under way, where no later one is.
use Rattle.std.proofs.Common.{◌≡◌, ◌≤◌, ◌<◌, ℕ, zero, suc, ◌+◌, ◌-◌, ◌==◌, ◌||◌, Bool, true, false, if◌then◌else◌, List, [], ◌∷◌, drop, length, refl, ap, ap₂, ◌∙◌, ne_eqb, arith}
use Rattle.std.proofs.lemmas.Bool.{lt-ltb}
use Rattle.std.specs.Option.{is_some}
use Rattle.chip_functions.specs.declared.notice.TransmitStatus.{TransmitStatus}
use Rattle.chip_functions.specs.declared.notice.TransmitStatus.TheVariants.{NoRoute as no_route_status}
use Rattle.chip_sim.specs.State.{ChipState}
use Rattle.chip_sim.specs.Events.{ended, ended_outs}
use Rattle.law_transcript.specs.Lists.{last_or}
use Rattle.outside_model.specs.declared.waits.Call.{Call}
use Rattle.outside_model.specs.declared.waits.Call.TheVariants.{OfFrame, NoRoute as no_route_call}
use Rattle.outside_model.specs.declared.waits.Due.{Due}
use Rattle.outside_model.specs.declared.waits.Due.TheVariants.{Info, NoRoute as no_route_due}
use Rattle.outside_model.specs.State.{OuterState, Outcome, and_then, each, silent, with_chip}
use Rattle.outside_model.specs.Chip.{chip_does, put_out}
use Rattle.outside_model.specs.Results.{call_back, leading, no_route, no_routes, owes_call, without_no_route}
use Rattle.proof_line.specs.proof_traffic.Facts.{flying_in}
use Rattle.proof_line.specs.proof_traffic.OutsideTraffic.{flags}
use Rattle.proof_chip.specs.Tally.{infos_in}

abbrev pub without_call : OuterState → OuterState
without_call o = record o { calls = drop 1 o.calls }

-- a result for one that was aborted
abbrev pub quiet_call : OuterState → OuterState
quiet_call o = record o { calls = drop 1 o.calls; chip = record { decoder = o.chip.decoder; state = record o.chip.state { aborted = o.chip.state.aborted - 1 } } }

pub owes_some : (s : ChipState) → 0 < s.aborted → owes_call s ≡ true
owes_some s some = ap (λ (b : Bool). b || is_some s.sending) (lt-ltb 0 s.aborted some)

pub not_none : (s : ChipState) → 0 < s.aborted → (s.aborted == 0) ≡ false
not_none s some = ne_eqb s.aborted 0 (λ is. omega (arith, some, is))

-- by whether a call is owed, and whether no SendData was aborted
abbrev call_by : OuterState → TransmitStatus → Bool → Bool → Outcome
call_by o status owes none =
    let s : ChipState = o.chip.state in
    if owes then each put_out (with_chip (without_call o) (if none then ended s.sending s status else record s { aborted = s.aborted - 1 })) (if none then ended_outs s.sending s status else [])
    else silent (without_call o)

pub call_quiet : (o : OuterState) (status : TransmitStatus) → 0 < o.chip.state.aborted → call_back o status ≡ silent (quiet_call o)
unfolding chip_does
call_quiet o status some = ap₂ (λ (a b : Bool). call_by o status a b) (owes_some o.chip.state some) (not_none o.chip.state some)

abbrev pub without_due : OuterState → OuterState
without_due o = record o { due = without_no_route o.due }

pub no_route_quiet : (o : OuterState) → 0 < o.chip.state.aborted → no_route o ≡ silent (quiet_call (without_due o))
no_route_quiet o some = call_quiet (without_due o) no_route_status some

abbrev pub quiet_calls : ℕ → OuterState → OuterState
quiet_calls zero o = o
quiet_calls (suc count) o = quiet_calls count (quiet_call (without_due o))

pub no_routes_quiet : (count : ℕ) (o : OuterState) → count ≤ o.chip.state.aborted → no_routes count o ≡ silent (quiet_calls count o)
no_routes_quiet zero o few = refl
no_routes_quiet (suc count) o few =
    ap (λ (x : Outcome). and_then x (λ later. no_routes count later)) (no_route_quiet o (omega (arith, few)))
    ∙ no_routes_quiet count (quiet_call (without_due o)) (omega (arith, few))

-- ---- what is left

drop_none : {A : Type 0} (n : ℕ) → drop {A = A} n [] ≡ []
drop_none zero = refl
drop_none (suc n) = refl

drop_one : {A : Type 0} (count : ℕ) (xs : List A) → drop count (drop 1 xs) ≡ drop (suc count) xs
drop_one {A} count [] = drop_none {A = A} count
drop_one count (x ∷ xs) = refl

pub infos_without : (due : List Due) → infos_in (without_no_route due) ≡ infos_in due
infos_without [] = refl
infos_without (no_route_due ∷ due) = refl
infos_without (Info node ∷ due) = ap (λ (n : ℕ). n + 1) (infos_without due)

-- after so many of them
pub record Quieted (count : ℕ) (o p : OuterState) : Type 0 where
  pub calls : p.calls ≡ drop count o.calls
  pub aborted : p.chip.state.aborted ≡ o.chip.state.aborted - count
  pub sending : p.chip.state.sending ≡ o.chip.state.sending
  pub port : p.chip.state.port ≡ o.chip.state.port
  pub infos : infos_in p.due ≡ infos_in o.due
  pub air : p.air ≡ o.air
  pub clock : p.clock ≡ o.clock

pub quieted : (count : ℕ) (o : OuterState) → Quieted count o (quiet_calls count o)
quieted zero o = record { calls = refl; aborted = none o.chip.state.aborted; sending = refl; port = refl; infos = refl; air = refl; clock = refl }
  where
    none : (n : ℕ) → n ≡ n - 0
    none n = omega arith
quieted (suc count) o =
    let rest = quieted count (quiet_call (without_due o)) in
    record {
      calls = rest.calls ∙ drop_one count o.calls;
      aborted = rest.aborted ∙ one_more o.chip.state.aborted count;
      sending = rest.sending;
      port = rest.port;
      infos = rest.infos ∙ infos_without o.due;
      air = rest.air;
      clock = rest.clock;
    }
  where
    one_more : (m n : ℕ) → m - 1 - n ≡ m - suc n
    one_more m n = omega arith

-- ---- the calls behind that of a frame

-- those that lead, then one of a frame, and those behind it
pub record Splits (calls behind : List Call) : Type 0 where
  pub left : drop (suc (leading calls)) calls ≡ behind
  pub many : length calls ≡ suc (leading calls) + length behind
  pub flying : flying_in (flags calls) ≡ suc (flying_in (flags behind))
  pub last : last_or false (flags calls) ≡ last_or true (flags behind)

pub splits : (calls : List Call) → 0 < flying_in (flags calls) → (behind : List Call) × Splits calls behind
splits [] some = absurd (omega (arith, some))
splits (OfFrame ∷ calls) some = (calls, record { left = refl; many = omega arith; flying = omega arith; last = refl })
splits (no_route_call ∷ calls) some =
    let (behind, rest) = splits calls (omega (arith, some)) in
    let many = rest.many in
    let flying = rest.flying in
    (behind, record { left = left_of calls behind rest.left; many = omega (arith, many); flying = omega (arith, flying); last = rest.last })
  where
    left_of : (calls behind : List Call) → drop (suc (leading calls)) calls ≡ behind → drop (suc (leading calls + 1)) (no_route_call ∷ calls) ≡ behind
    left_of calls behind is = ap (λ (n : ℕ). drop n calls) (same (leading calls)) ∙ is
      where
        same : (n : ℕ) → n + 1 ≡ suc n
        same n = omega arith

pub last_flies : (calls : List Call) → last_or false (flags calls) ≡ true → 0 < flying_in (flags calls)
last_flies [] is = absurd cc
last_flies (OfFrame ∷ calls) is = omega arith
last_flies (no_route_call ∷ calls) is = let rest = last_flies calls is in omega (arith, rest)
