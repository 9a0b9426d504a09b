-- The number of a tick stands before what is told at an event, where it is still to be entered, and nowhere else.
use Rattle.std.proofs.Common.{◌≡◌, ◌⊎◌, ℕ, ◌&&◌, not, Bool, true, false, if◌then◌else◌, List, [], ◌∷◌, ◌++◌, inl, inr, refl, sym, ap, ap₂, ◌∙◌, append-nil, append_assoc}
use Rattle.zw_text.specs.declared.entry.Entry.{Entry}
use Rattle.zw_text.specs.declared.entry.Entry.TheVariants as entry
use Rattle.proof_walk.specs.outside_model.State.{OuterState}
use Rattle.proof_walk.specs.outside_model.Events.{stamp, has_entered, ticked_entry}
use Rattle.proof_walk.specs.Outside.{awaits_number}
use Rattle.proof_walk.proofs.Times.{IsSameTime}
use Rattle.proof_walk.proofs.Stamping.{entered}

-- ---- by the machine

-- nothing is entered; or these entries, after the number of the running tick where it is to be entered
abbrev pub Enters : (before after : OuterState) (entries told : List Entry) → Type 0
Enters o n entries told =
    ((told ≡ []) × (entries ≡ []) × (awaits_number n ≡ awaits_number o)) ⊎ ((entries ≡ ticked_entry o ++ told) × (awaits_number n ≡ false))

pub ticked_none : (o : OuterState) → awaits_number o ≡ false → ticked_entry o ≡ []
ticked_none o none = ap (λ (b : Bool). if b then entry.Time o.clock ∷ [] else []) none

ticked_same : (o n : OuterState) → awaits_number n ≡ awaits_number o → n.clock ≡ o.clock → ticked_entry n ≡ ticked_entry o
ticked_same o n same clock =
    ap (λ (b : Bool). if b then entry.Time n.clock ∷ [] else []) same ∙ ap (λ (c : ℕ). if awaits_number o then entry.Time c ∷ [] else []) clock

-- one after the other
pub enters_both : (o p q : OuterState) (xs ys ts us : List Entry) → p.clock ≡ o.clock → Enters o p xs ts → Enters p q ys us → Enters o q (xs ++ ys) (ts ++ us)
enters_both o p q xs ys ts us clock (inl (told, entered, same)) (inl (none, nothing, still)) =
    inl (ap₂ (λ (l r : List Entry). l ++ r) told none, ap₂ (λ (l r : List Entry). l ++ r) entered nothing, still ∙ same)
enters_both o p q xs ys ts us clock (inl (told, entered, same)) (inr (is, ended)) = inr (
  ap₂ (λ (l r : List Entry). l ++ r) entered (is ∙ ap (λ (l : List Entry). l ++ us) (ticked_same o p same clock)) ∙ ap (λ (l : List Entry). ticked_entry o ++ (l ++ us)) (sym told),
  ended,
)
enters_both o p q xs ys ts us clock (inr (is, ended)) (inl (none, nothing, still)) = inr (
  ap₂ (λ (l r : List Entry). l ++ r) is nothing ∙ append_assoc (ticked_entry o) ts [] ∙ ap (λ (l : List Entry). ticked_entry o ++ (ts ++ l)) (sym none),
  still ∙ ended,
)
enters_both o p q xs ys ts us clock (inr (is, ended)) (inr (more, later)) = inr (
  ap₂ (λ (l r : List Entry). l ++ r) is (more ∙ ap (λ (l : List Entry). l ++ us) (ticked_none p ended)) ∙ append_assoc (ticked_entry o) ts us,
  later,
)

pub enters_none : (o n : OuterState) → awaits_number n ≡ awaits_number o → Enters o n [] []
enters_none o n same = inl (refl, refl, same)

-- an event outside
pub outer_enters : (o p : OuterState) (told : List Entry) → IsSameTime o p → Enters o (has_entered p told) (stamp p told) told
outer_enters o p [] time = inl (refl, refl, ap (λ (t : Bool × Bool × ℕ). t.0 && not t.1) time)
outer_enters o p (e ∷ told) time =
    inr (
      ap (λ (l : List Entry). l ++ e ∷ told) (ticked_same o p (ap (λ (t : Bool × Bool × ℕ). t.0 && not t.1) time) (ap (λ (t : Bool × Bool × ℕ). t.2) time)),
      entered p.in_tick p.stamped,
    )

-- entries with the number before them, where it is to be entered, are what was to stand there with what was told
pub enters_timed : (past : List Entry) (o n : OuterState) (entries told : List Entry) → n.clock ≡ o.clock → Enters o n entries told
    → (past ++ entries) ++ ticked_entry n ≡ (past ++ ticked_entry o) ++ told
enters_timed past o n entries told clock (inl (none, nothing, same)) =
    ap₂ (λ (l r : List Entry). (past ++ l) ++ r) nothing (ticked_same o n same clock) ∙ ap (λ (l : List Entry). l ++ ticked_entry o) (append-nil past)
    ∙ sym (ap (λ (l : List Entry). (past ++ ticked_entry o) ++ l) none ∙ append-nil (past ++ ticked_entry o))
enters_timed past o n entries told clock (inr (is, ended)) =
    ap₂ (λ (l r : List Entry). (past ++ l) ++ r) is (ticked_none n ended) ∙ append-nil (past ++ (ticked_entry o ++ told)) ∙ sym (append_assoc past (ticked_entry o) told)

-- ---- by whether it is to be entered

abbrev pub IsNumber : Bool → List Entry → Type 0
IsNumber true number = (tick : ℕ) × (number ≡ entry.Time tick ∷ [])
IsNumber false number = number ≡ []

-- nothing is entered, or these entries with the number where it is to be entered
abbrev pub Numbered : (before after : Bool) (entries told : List Entry) → Type 0
Numbered before after entries told =
    ((told ≡ []) × (entries ≡ []) × (after ≡ before)) ⊎ ((number : List Entry) × (entries ≡ number ++ told) × IsNumber before number × (after ≡ false))

number_is : (awaits : Bool) (clock : ℕ) → IsNumber awaits (if awaits then entry.Time clock ∷ [] else [])
number_is true clock = (clock, refl)
number_is false clock = refl

pub numbered_of : (o n : OuterState) (entries told : List Entry) → Enters o n entries told → Numbered (awaits_number o) (awaits_number n) entries told
numbered_of o n entries told (inl none) = inl none
numbered_of o n entries told (inr (is, ended)) = inr (ticked_entry o, is, number_is (awaits_number o) o.clock, ended)

pub numbered : (o p : OuterState) (told : List Entry) → IsSameTime o p → Numbered (awaits_number o) (awaits_number (has_entered p told)) (stamp p told) told
numbered o p told time = numbered_of o (has_entered p told) (stamp p told) told (outer_enters o p told time)
