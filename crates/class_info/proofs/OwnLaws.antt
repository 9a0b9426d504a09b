-- The fields that these classes alone have, both ways.
use Rattle.std.proofs.Common.{◌≡◌, ℕ, zero, suc, ◌+◌, ◌<◌, ◌≤◌, eqb, Some, Ok, List, [], ◌∷◌, length, get_or, take, drop, refl, sym, ap, subst, ◌∙◌, inl, inr, arith, add-one}
use Rattle.std.proofs.Math.Seq.{drop-cons}
use Rattle.std.proofs.lemmas.Bool.{eqb-true}
use Rattle.std.proofs.lemmas.List.{length-take, length-drop}
use Rattle.std.proofs.lemmas.Option.{slice_get_within, slice_get-get_or, get_or_from_slice_get}
use Rattle.class_core.specs.declared.fault.ClassFault.TheVariants.{BadValue}
use Rattle.class_core.specs.Cell.{Whole, StandsAt, Stand, written, HasAll}
use Rattle.class_core.specs.Reading.{byte_at}
use Rattle.class_core.proofs.Steps.{bind_ok, chosen, ok_is, not_ok, whole_takes, whole_again}
use Rattle.class_core.proofs.FieldLaws.{byte_takes, byte_again}
use Rattle.class_info.specs.declared.report_status.ReportStatus.{ReportStatus}
use Rattle.class_info.specs.declared.report_status.ReportStatus.TheVariants.{NoSupport, Working, Fail, Success}
use Rattle.class_info.specs.Values.{status_byte, wholes}
use Rattle.class_info.specs.InfoReading.{status_of, status_at, nonce_at}

status_is : (at n : ℕ) (status : ReportStatus) → status_of at n ≡ Ok status → n ≡ status_byte status
status_is at n status e = elim (chosen (eqb n 0) _ _ _ e) [
  | inl p ↦ eqb-true _ _ p.0 ∙ ap status_byte (ok_is NoSupport status p.1)
  | inr p ↦ elim (chosen (eqb n 1) _ _ _ p.1) [
    | inl q ↦ eqb-true _ _ q.0 ∙ ap status_byte (ok_is Working status q.1)
    | inr q ↦ elim (chosen (eqb n 2) _ _ _ q.1) [
      | inl r ↦ eqb-true _ _ r.0 ∙ ap status_byte (ok_is Fail status r.1)
      | inr r ↦ elim (chosen (eqb n 255) _ _ _ r.1) [
        | inl s ↦ eqb-true _ _ s.0 ∙ ap status_byte (ok_is Success status s.1)
        | inr s ↦ absurd (not_ok (BadValue at) status s.1)
      ]
    ]
  ]
]

status_back : (at : ℕ) (status : ReportStatus) → status_of at (status_byte status) ≡ Ok status
status_back at NoSupport = refl
status_back at Working = refl
status_back at Fail = refl
status_back at Success = refl

pub status_takes : (at : ℕ) (bytes : List ℕ) (status : ReportStatus) → status_at at bytes ≡ Ok status → StandsAt (Whole (status_byte status)) at bytes
unfolding status_at
status_takes at bytes status e =
    let a = bind_ok (byte_at at bytes) (status_of at) status e in
    byte_takes at bytes a.0 a.1 ∙ ap Some (status_is at a.0 status a.2)

pub status_again : (at : ℕ) (bytes : List ℕ) (status : ReportStatus) → StandsAt (Whole (status_byte status)) at bytes → status_at at bytes ≡ Ok status
unfolding status_at
status_again at bytes status s = rw (byte_again at bytes (status_byte status) s) (status_back at status)

wholes_stand : (n at : ℕ) (bytes : List ℕ) → at + n ≤ length bytes → Stand (wholes (take n (drop at bytes))) at bytes
wholes_stand zero at bytes le = tt
wholes_stand (suc n) at bytes le =
    let x = get_or bytes at 0 in
    let within : at < length bytes = omega arith in
    let cut : drop at bytes ≡ x ∷ drop (at + 1) bytes = rw add-one (drop-cons bytes at 0 within) in
    let both : Stand (wholes (x ∷ take n (drop (at + 1) bytes))) at bytes = (slice_get-get_or bytes at 0 within, wholes_stand n (at + 1) bytes (omega arith)) in
    subst (λ (l : List ℕ). Stand (wholes (take (suc n) l)) at bytes) (sym cut) both

wholes_back : (ns : List ℕ) (at : ℕ) (bytes : List ℕ) → at ≤ length bytes → Stand (wholes ns) at bytes → (at + length ns ≤ length bytes) × (take (length ns) (drop at bytes) ≡ ns)
wholes_back [] at bytes le s = (omega arith, refl)
wholes_back (n ∷ ns) at bytes le s =
    let within = slice_get_within bytes at n s.0 in
    let value = get_or_from_slice_get bytes at n 0 s.0 in
    let cut : drop at bytes ≡ n ∷ drop (at + 1) bytes = rw (← value, add-one) (drop-cons bytes at 0 within) in
    let rest = wholes_back ns (at + 1) bytes (omega arith) s.1 in
    (omega (arith, rest.0), rw (cut, rest.1) refl)

pub nonce_takes : (at : ℕ) (bytes ns : List ℕ) → nonce_at at bytes ≡ Ok ns → (length ns ≡ 8) × Stand (wholes ns) at bytes
unfolding nonce_at
nonce_takes at bytes ns e =
    let w = whole_takes (at + 8) bytes (take 8 (drop at bytes)) ns e in
    let long : length (take 8 (drop at bytes)) ≡ 8 = omega (arith, length-take 8 (drop at bytes), length-drop at bytes) in
    (ap length (sym w.1) ∙ long, subst (λ (l : List ℕ). Stand (wholes l) at bytes) w.1 (wholes_stand 8 at bytes w.0))

pub nonce_again : (at : ℕ) (bytes ns : List ℕ) → at ≤ length bytes → length ns ≡ 8 → Stand (wholes ns) at bytes → nonce_at at bytes ≡ Ok ns
unfolding nonce_at
nonce_again at bytes ns le len s =
    let b = wholes_back ns at bytes le s in
    whole_again (at + 8) bytes (take 8 (drop at bytes)) ns (omega (arith, b.0)) (ap (λ (k : ℕ). take k (drop at bytes)) (sym len) ∙ b.1)

pub written_wholes : (ns : List ℕ) → written (wholes ns) ≡ ns
written_wholes [] = refl
written_wholes (n ∷ ns) = ap (λ (l : List ℕ). n ∷ l) (written_wholes ns)

pub has_wholes : (ns : List ℕ) → HasAll (wholes ns)
has_wholes [] = tt
has_wholes (n ∷ ns) = (tt, has_wholes ns)
