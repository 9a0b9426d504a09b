use Rattle.std.proofs.Common.{◌≡◌, ℕ, ◌+◌, ◌<◌, length, ◌++◌, ◌∷◌, [], take, get_or, None, Some, add-one, ap, sym, ◌∙◌, append_assoc}
use Rattle.std.specs.Prelude.{Option, List}
use Rattle.std.proofs.Math.Seq.{take-suc}
use Rattle.transport_segments.specs.Places.{present}
use Rattle.transport_segments.proofs.PlacesLemmas.{present-some, present-none}
use Rattle.transport_segments.proofs.places.append_present.Goals as goal
use Rattle.transport_segments.proofs.places.append_present.Goals.{in-Some+in_ok-push-in-Some, in-None}

-- the bytes of one more place, which is that one
more : (places : List (Option ℕ)) (i : ℕ) → i < length places → (place : Option ℕ) → get_or places i None ≡ place
    → take (i + 1) places ≡ take i places ++ place ∷ []
more places i within place is = rw add-one (take-suc places i None within ∙ ap (λ (x : Option ℕ). take i places ++ x ∷ []) is)

-- the bytes so far, and that of one more place
joined : (bytes before : List ℕ) (places : List (Option ℕ)) (i byte : ℕ) → bytes ≡ before ++ present (take i places)
    → take (i + 1) places ≡ take i places ++ Some byte ∷ [] → bytes ++ byte ∷ [] ≡ before ++ present (take (i + 1) places)
joined bytes before places i byte so longer =
    ap (λ (x : List ℕ). x ++ byte ∷ []) so ∙ append_assoc before (present (take i places)) (byte ∷ [])
    ∙ ap (λ (x : List ℕ). before ++ x) (sym (present-some (take i places) byte)) ∙ ap (λ (x : List (Option ℕ)). before ++ present x) (sym longer)

pub loop-place-preserved : goal.loop-place-preserved
loop-place-preserved c =
    elim c.match-place.branch [
      | in-Some+in_ok-push-in-Some w ↦
          w.bytes-is ∙ w.in_ok-push-in-Some.ensures.ok
          ∙ joined c.loop-place.bytes c.args.bytes.now c.args.places.now c.loop-place.place-index w.in-Some.byte c.loop-place.invariant
          (more c.args.places.now c.loop-place.place-index c.loop-place-test.true (Some w.in-Some.byte) w.in-Some.is)
      | in-None w ↦
          w.bytes-is ∙ c.loop-place.invariant
          ∙ ap (λ (x : List ℕ). c.args.bytes.now ++ x)
          (sym (ap present (more c.args.places.now c.loop-place.place-index c.loop-place-test.true None w.in-None.is)
          ∙ present-none (take c.loop-place.place-index c.args.places.now)))
    ]
