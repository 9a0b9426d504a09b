-- Results come: the chip is given them in the order of its calls, and frames on the air arrive.
use Rattle.std.proofs.Common.{◌≡◌, ℕ, ◌-◌, Bool, true, false, Option, Some, None, List, [], ◌∷◌, length, refl, ap, sym, subst, ◌∙◌, arith}
use Rattle.std.specs.Prelude.{◌==◌, ◌||◌, nat_lt, drop}
use Rattle.std.specs.Option.{is_some}
use Rattle.chip_functions.specs.declared.notice.TransmitStatus.{TransmitStatus}
use Rattle.chip_sim.specs.declared.out.Sending.{Sending}
use Rattle.chip_sim.specs.State.{ChipState}
use Rattle.chip_sim.specs.Requests.{callback_frame}
use Rattle.chip_sim.specs.Events.{Done, ended, ended_outs, after, outs}
use Rattle.air_frames.specs.Flown.{Flown}
use Rattle.air_frames.specs.History.{Mark}
use Rattle.proof_traffic.specs.Flights.{Fly}
use Rattle.proof_device.specs.outside_model.declared.waits.Call.{Call}
use Rattle.proof_device.specs.outside_model.State.{OuterState, with_chip, each}
use Rattle.proof_device.specs.outside_model.Chip.{put_out, chip_does}
use Rattle.proof_device.specs.outside_model.Results.{owes_call, call_back}
use Rattle.proof_device.specs.mesh_sim.Air.{AirState}
use Rattle.proof_traffic.specs.Requests.{Traffic, called}
use Rattle.proof_traffic.specs.OutsideTraffic.{flags, no_routes_due, Knows}
use Rattle.proof_traffic.proofs.Mild.{AreMild, Untouched, each_mild, queued_mild}

-- ---- one call comes

-- what the course knows but for the results that are awaited
pub record Half (t : Traffic) (log : List Mark) (flights : List Flown) (o : OuterState) : Type 0 where
  pub knows : Knows t o
  pub fly : Fly log flights o.air.frames
  pub joined : length o.chip.state.joined ≡ 233

-- the first call came, and what is due and on the air is the same
pub record Called (t : Traffic) (log : List Mark) (flights : List Flown) (o p : OuterState) : Type 0 where
  pub half : Half (called t) log flights p
  pub calls : p.calls ≡ drop 1 o.calls
  pub due : no_routes_due p.due ≡ no_routes_due o.due
  pub air : p.air ≡ o.air

drop_flags : (calls : List Call) → drop 1 (flags calls) ≡ flags (drop 1 calls)
drop_flags [] = refl
drop_flags (call ∷ calls) = refl

-- the first call comes to the chip
module _ (t : Traffic) (log : List Mark) (flights : List Flown) (o : OuterState) (status : TransmitStatus) (h : Half t log flights o) where
  abbrev s : ChipState
  s = o.chip.state

  -- with one call less
  abbrev less : OuterState
  less = record o { calls = drop 1 o.calls }

  -- the chip at another moment, and what it puts out is mild
  moves : (r : ChipState) (u : Traffic) → u.aborted ≡ r.aborted → u.sending ≡ is_some r.sending → u.calls ≡ drop 1 t.calls → length r.joined ≡ length s.joined → Half u log flights (with_chip less r)
  moves r u aborted sending calls joined = record {
    knows = record { aborted = aborted; sending = sending; calls = calls ∙ ap (drop 1) h.knows.calls ∙ drop_flags o.calls };
    fly = h.fly;
    joined = joined ∙ h.joined;
  }

  half_untouched : (u : Traffic) (p q : OuterState) → Untouched p q → Half u log flights p → Half u log flights q
  half_untouched u p q un g = record {
    knows = record {
      aborted = g.knows.aborted ∙ ap (λ (s : ChipState). s.aborted) (sym un.chip);
      sending = g.knows.sending ∙ ap (λ (s : ChipState). is_some s.sending) (sym un.chip);
      calls = g.knows.calls ∙ ap flags (sym un.calls);
    };
    fly = subst (λ (a : AirState). Fly log flights a.frames) (sym un.air) g.fly;
    joined = ap (λ (s : ChipState). length s.joined) un.chip ∙ g.joined;
  }

  -- the chip with a result: what it is then, and what it puts out
  ended_mild : (sending : Option Sending) → AreMild (ended_outs sending s status)
  ended_mild None = tt
  ended_mild (Some sending) = queued_mild s.port (callback_frame sending status)

  ended_aborted : (sending : Option Sending) → (ended sending s status).aborted ≡ s.aborted
  ended_aborted None = refl
  ended_aborted (Some sending) = refl

  ended_sending : (sending : Option Sending) → s.sending ≡ sending → is_some (ended sending s status).sending ≡ false
  ended_sending None is = ap is_some is
  ended_sending (Some sending) is = refl

  ended_joined : (sending : Option Sending) → length (ended sending s status).joined ≡ length s.joined
  ended_joined None = refl
  ended_joined (Some sending) = refl

  -- the call is that of a payload that was given up, or of the one that is being sent
  same_test : (zero_left : Bool) → (s.aborted == 0) ≡ zero_left → (t.aborted == 0) ≡ zero_left
  same_test zero_left e = ap (λ (n : ℕ). n == 0) h.knows.aborted ∙ e

  done_half : Half (called t) log flights (chip_does less (Done status)).outer
  unfolding chip_does
  done_half = by (s.aborted == 0) refl
    where
      by : (zero_left : Bool) → (s.aborted == 0) ≡ zero_left → Half (called t) log flights (each put_out (with_chip less (after s (Done status))) (outs s (Done status))).outer
      by true e =
          let u : Traffic = record t { sending = false; calls = drop 1 t.calls } in
          rw e (rw (same_test true e)
          (half_untouched u (with_chip less (ended s.sending s status)) (each put_out (with_chip less (ended s.sending s status)) (ended_outs s.sending s status)).outer
          (each_mild (with_chip less (ended s.sending s status)) (ended_outs s.sending s status) (ended_mild s.sending))
          (moves (ended s.sending s status) u (h.knows.aborted ∙ sym (ended_aborted s.sending)) (sym (ended_sending s.sending refl)) refl (ended_joined s.sending))))
      by false e = rw e (rw (same_test false e)
          (moves (record s { aborted = s.aborted - 1 }) (record t { aborted = t.aborted - 1; calls = drop 1 t.calls }) (ap (λ (n : ℕ). n - 1) h.knows.aborted) h.knows.sending refl refl))

  idle_sending : (sending : Option Sending) → s.sending ≡ sending → owes_call s ≡ false → is_some sending ≡ false
  idle_sending None is e = refl
  idle_sending (Some sending) is e = absurd (grind (arith, sym (ap (λ (x : Option Sending). nat_lt 0 s.aborted || is_some x) is) ∙ e, or_true (nat_lt 0 s.aborted)))
    where
      or_true : (b : Bool) → (b || true) ≡ true
      or_true true = refl
      or_true false = refl

  -- no call is to come: the course has none either
  idle_half : owes_call s ≡ false → Half (called t) log flights less
  idle_half e =
      let none : s.aborted ≡ 0 = no_aborted (nat_lt 0 s.aborted) refl e in
      let sends : is_some s.sending ≡ false = idle_sending s.sending refl e in
      rw (same_test true (ap (λ (n : ℕ). n == 0) none))
      (record {
        knows = record { aborted = h.knows.aborted; sending = sym sends; calls = ap (drop 1) h.knows.calls ∙ drop_flags o.calls };
        fly = h.fly;
        joined = h.joined;
      })
    where
      no_aborted : (b : Bool) → nat_lt 0 s.aborted ≡ b → (nat_lt 0 s.aborted || is_some s.sending) ≡ false → s.aborted ≡ 0
      no_aborted true is e = absurd (grind (arith, sym (ap (λ (b : Bool). b || is_some s.sending) is) ∙ e))
      no_aborted false is e = grind (arith, is)

  pub call_half : Half (called t) log flights (call_back o status).outer
  call_half = by (owes_call s) refl
    where
      by : (owes : Bool) → owes_call s ≡ owes → Half (called t) log flights (call_back o status).outer
      by true e = rw e done_half
      by false e = rw e (idle_half e)

  -- what else there is stays
  done_outs_mild : AreMild (outs s (Done status))
  done_outs_mild = by (s.aborted == 0) refl
    where
      by : (zero_left : Bool) → (s.aborted == 0) ≡ zero_left → AreMild (outs s (Done status))
      by true e = rw e (ended_mild s.sending)
      by false e = rw e tt

  pub record Leaves (p : OuterState) : Type 0 where
    pub calls : p.calls ≡ drop 1 o.calls
    pub due : no_routes_due p.due ≡ no_routes_due o.due
    pub air : p.air ≡ o.air

  done_leaves : Leaves (chip_does less (Done status)).outer
  unfolding chip_does
  done_leaves =
      let un : Untouched (with_chip less (after s (Done status))) (each put_out (with_chip less (after s (Done status))) (outs s (Done status))).outer = each_mild (with_chip less (after s (Done status))) (outs s (Done status)) done_outs_mild in
      record { calls = un.calls; due = un.due; air = un.air }

  pub call_leaves : Leaves (call_back o status).outer
  call_leaves = by (owes_call s) refl
    where
      by : (owes : Bool) → owes_call s ≡ owes → Leaves (call_back o status).outer
      by true e = rw e done_leaves
      by false e = rw e (record { calls = refl; due = refl; air = refl })
