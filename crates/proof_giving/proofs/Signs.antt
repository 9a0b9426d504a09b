-- What an event makes of a node to which a sign is still to be given: what it makes of it after the sign.
use Rattle.std.proofs.Common.{◌≡◌, ℕ, ◌&&◌, Bool, true, false, if◌then◌else◌, List, Some, refl, sym, ap, ◌∙◌, subst}
use Rattle.std.proofs.lemmas.Bool.{and_right}
use Rattle.encap.specs.Opening.{begins_with}
use Rattle.law_time.specs.Attempts.{Attempts, anew}
use Rattle.host_node.specs.declared.series.Series.{Series}
use Rattle.host_node.specs.declared.series.Series.TheVariants.{Idle, Due, Running}
use Rattle.host_node.specs.State.{NodeState, is_idle, is_open, is_running, is_up}
use Rattle.host_node.specs.Steps.{after_nonce, after_occasion, new_series, with_final, with_wait}
use Rattle.proof_giving.specs.Tie.{NodeSo, signed}
use Rattle.proof_giving.proofs.NodesGo.{Parts, final_so, nonce_so, occasion_so, parts_of, same_so}

-- ---- what is looked at of it

abbrev parts_signed : Bool → Parts → Parts
parts_signed true p = if is_running p.series then record p { wait = 100 } else p
parts_signed false p = p

signed_parts : (b : Bool) (s : NodeState) → parts_of (signed b s) ≡ parts_signed b (parts_of s)
signed_parts false s = refl
signed_parts true s = by (is_running s.series)
  where
    by : (r : Bool) → parts_of (if r then with_wait s 100 else s) ≡ (if r then record (parts_of s) { wait = 100 } else parts_of s)
    by true = refl
    by false = refl

-- one that does not run
pub signed_still : (b : Bool) (s : NodeState) → is_running s.series ≡ false → signed b s ≡ s
signed_still true s none = ap (λ (r : Bool). if r then with_wait s 100 else s) none
signed_still false s none = refl

module _ (told : Attempts) (time : ℕ) (badly : Bool) where
  abbrev So : NodeState → Type 0
  So s = NodeSo told s time badly

  -- a change of anything else
  pub same_signed : (b : Bool) (s t : NodeState) → parts_of t ≡ parts_of s → So (signed b s) → So (signed b t)
  same_signed b s t same so =
      same_so told (signed b s) (signed b t) time badly (signed_parts b t ∙ ap (λ (p : Parts). parts_signed b p) same ∙ sym (signed_parts b s)) so

  pub either_signed : (b c : Bool) (x y : NodeState) → So (signed b x) → So (signed b y) → So (signed b (if c then x else y))
  either_signed b true x y one other = one
  either_signed b false x y one other = other

  -- a moment at which a series may be due
  pub occasion_signed : (b : Bool) (s : NodeState) → So (signed b s) → So (signed b (after_occasion s))
  occasion_signed b s so = by s.series refl
    where
      quiet : is_running s.series ≡ false → So (signed b (after_occasion s))
      quiet none =
          subst So (sym (signed_still b (after_occasion s) (none_runs (is_open s && is_up s && is_idle s.series)))) (occasion_so told s time badly (subst So (signed_still b s none) so))
        where
          none_runs : (c : Bool) → is_running (if c then new_series s else s).series ≡ false
          none_runs true = refl
          none_runs false = none

      by : (x : Series) → s.series ≡ x → So (signed b (after_occasion s))
      by Idle is = quiet (ap is_running is)
      by Due is = quiet (ap is_running is)
      by Running is =
          let same : s ≡ after_occasion s = sym (ap (λ (c : Bool). if c then new_series s else s) (and_right (is_open s && is_up s) (is_idle s.series) (ap is_idle is))) in
          subst (λ (t : NodeState). So (signed b t)) same so

  -- a nonce is taken
  pub nonce_signed : (b : Bool) (s : NodeState) (seen : ℕ) (sealed plain : List ℕ) → s.pending ≡ Some plain → begins_with sealed 0x98 0x81 ≡ true → So (signed b s) → So (signed b (after_nonce s seen sealed))
  nonce_signed false s seen sealed plain pending begins so = nonce_so told s time badly seen sealed plain pending begins so
  nonce_signed true s seen sealed plain pending begins so = by (is_running s.series) so
    where
      by : (r : Bool) → So (if r then with_wait s 100 else s) → So (if r then with_wait (after_nonce s seen sealed) 100 else after_nonce s seen sealed)
      by true so = nonce_so told (with_wait s 100) time badly seen sealed plain pending begins so
      by false so = nonce_so told s time badly seen sealed plain pending begins so

  -- it has given its sign; another changes nothing
  pub sign_signed : (c : Bool) (s : NodeState) → So (signed true s) → So (signed c (signed true s))
  sign_signed false s so = so
  sign_signed true s so = same_so told (signed true s) (signed true (signed true s)) time badly (signed_parts true (signed true s) ∙ ap (λ (p : Parts). parts_signed true p) (signed_parts true s) ∙ twice (parts_of s) ∙ sym (signed_parts true s)) so
    where
      same : (c : Bool) (p : Parts) → (if c then p else p) ≡ p
      same true p = refl
      same false p = refl

      twice : (p : Parts) → parts_signed true (parts_signed true p) ≡ parts_signed true p
      twice p = by (is_running p.series) refl
        where
          by : (r : Bool) → is_running p.series ≡ r
              → (if is_running (if r then record p { wait = 100 } else p).series then record (if r then record p { wait = 100 } else p) { wait = 100 } else (if r then record p { wait = 100 } else p))
              ≡ (if r then record p { wait = 100 } else p)
          by true is = same (is_running p.series) (record p { wait = 100 })
          by false is = ap (λ (r : Bool). if r then record p { wait = 100 } else p) is

-- a final report
pub final_signed : (told : Attempts) (b : Bool) (s : NodeState) (time : ℕ) (badly : Bool) (status : ℕ) → NodeSo (anew told) (signed b (with_final s status)) time badly
final_signed told true s time badly status = final_so told s time badly status
final_signed told false s time badly status = final_so told s time badly status
