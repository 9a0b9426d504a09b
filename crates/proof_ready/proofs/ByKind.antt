-- A node by the kind of its first device: its number, the device that it had at first, and its mark alone.
use Rattle.std.proofs.Common.{◌≡◌, ℕ, ◌≤◌, ◌==◌, ◌||◌, Bool, true, false, if◌then◌else◌, List, [], ◌∷◌, inl, inr, nat_le, refl, sym, ap, subst, ◌∙◌, arith}
use Rattle.std.proofs.lemmas.Bool.{cases_Bool, eq-eqb, eqb-true, false≢true, leb-false, leb-true}
use Rattle.std.specs.Prelude.{Option, Some, None}
use Rattle.std.specs.List.{AllByRecursion}
use Rattle.chip_sim.specs.Nodes.{is_marked}
use Rattle.law_wire.specs.device_kinds.declared.kind.Kind.{Kind}
use Rattle.law_wire.specs.law_transcript.Headline.{IsAsMade}
use Rattle.law_wire.specs.law_transcript.Nodes.{device_of}
use Rattle.proof_rests.specs.proof_attempts.proof_host.device_sim.State.{State}
use Rattle.proof_rests.specs.proof_attempts.proof_walk.proof_device.GoingOn.{AreSame}
use Rattle.proof_in_time.proofs.JudgedOutcomes.{same_device}
use Rattle.proof_ready.specs.Ready.{marks_of}
use Rattle.proof_ready.proofs.Marks.{marked_is, unmarked_beyond}

-- ---- its number

pub made_within : (key : List ℕ) (n : ℕ) (devices : List State) (device : State) → AllByRecursion (IsAsMade key) devices → device_of n devices ≡ Some device → n ≤ 232
made_within key n [] device made found = absurd (let wrong : None ≡ Some device = found in cc)
made_within key n (one ∷ more) device made found = by (one.node == n) refl found (made_within key n more device made.1)
  where
    by : (b : Bool) → (one.node == n) ≡ b → (if b then Some one else device_of n more) ≡ Some device → (device_of n more ≡ Some device → n ≤ 232) → n ≤ 232
    by true same is later = subst (λ (k : ℕ). k ≤ 232) (eqb-true one.node n same) made.0.to_max
    by false other is later = later is

-- ---- the device that it had at first

abbrev kind_in : Option State → Option Kind
kind_in None = None
kind_in (Some device) = Some device.kind

pub record WasAtFirst (n : ℕ) (olds : List State) (device : State) : Type 0 where
  pub first : State
  pub found : device_of n olds ≡ Some first
  pub kind : device.kind ≡ first.kind

pub was_at_first : (n : ℕ) (olds news : List State) (device : State) → AreSame olds news → device_of n news ≡ Some device → WasAtFirst n olds device
was_at_first n olds news device same found = by (device_of n olds) refl (sym (ap kind_in found) ∙ same_device kind_in (λ old new is. ap (λ (k : Kind). Some k) is.kind) n olds news same)
  where
    by : (o : Option State) → device_of n olds ≡ o → Some device.kind ≡ kind_in o → WasAtFirst n olds device
    by None is kinds = absurd (let wrong : Some device.kind ≡ None = kinds in cc)
    by (Some first) is kinds = record { first = first; found = is; kind = let same_kind : Some device.kind ≡ Some first.kind = kinds in cc }

-- ---- its mark

pub alone_marked : (n : ℕ) → n ≤ 232 → is_marked (marks_of (n ∷ [])) n ≡ true
alone_marked n within = marked_is (n ∷ []) n within ∙ ap (λ (b : Bool). b || false) (eq-eqb n n refl)

pub marked_alone : (n k : ℕ) → is_marked (marks_of (n ∷ [])) k ≡ true → k ≡ n
marked_alone n k marked = by (n == k) refl (sym (marked_is (n ∷ []) k within) ∙ marked)
  where
    beyond : nat_le k 232 ≡ false → 233 ≤ k
    beyond far = let less = leb-false k 232 far in omega (arith, less)

    within : k ≤ 232
    within = elim (cases_Bool (nat_le k 232)) [
      | inl near ↦ leb-true k 232 near
      | inr far ↦ absurd (false≢true (sym (unmarked_beyond (n ∷ []) k (beyond far)) ∙ marked))
    ]

    by : (b : Bool) → (n == k) ≡ b → b || false ≡ true → k ≡ n
    by true same has = sym (eqb-true n k same)
    by false other has = absurd (false≢true has)
