-- Bytes that are taken, and what may be is submitted.
use Rattle.std.proofs.Common.{◌≡◌, ℕ, ◌+◌, ◌≤◌, ◌<◌, List, [], ◌∷◌, length, Result, Ok, Err, inl, inr, refl, arith}
use Rattle.std.specs.Prelude.{Option, OnOk, IfErr}
use Rattle.std.specs.Io.KnownBytes.{Consumes, IsAtEnd, Appends}
use Rattle.std.proofs.KnownBytes.{Keeps-refl, Appends-nil}
use Rattle.run_lines.specs.declared.reader.TheConstants.{MAX_INPUT}
use Rattle.port_run.specs.declared.stop.Stop.{Stop}
use Rattle.port_run.specs.Steps.{Place, Step, Takes, Pumps}
use Rattle.port_run.specs.Schedule.{CutIn, CutTaking, CutPiece, CutRead, piece_steps}
use Rattle.port_run.specs.Serving.{Went, Broke}
use Rattle.port_run.proofs.StepLists.{went_both, broke_after, broke_as}
use Rattle.port_run.proofs.Joining.{WentStill, BrokeStill, cut-following}

-- bytes that were read at these steps
abbrev pub WentOver : List ℕ → List Step → Place → Place → Option (List ℕ) → Option (List ℕ) → Type 0
WentOver bytes steps a b s t = (l m : Option (List ℕ)) (n : ℕ) → Consumes l m bytes → Went steps a b s t l m n (n + length bytes)

abbrev pub BrokeOver : List ℕ → (Stop → List Step → Type 0) → Stop → Place → Place → Option (List ℕ) → Option (List ℕ) → Type 0
BrokeOver bytes Cut stop a b s t = (l m : Option (List ℕ)) (n : ℕ) → Consumes l m bytes → n + length bytes ≤ MAX_INPUT → Broke Cut stop a b s t l m n

pub taken_ok : {T E : Type 0} (answer : Result T E) (bytes : List ℕ) (a b c : Place) (s t u : Option (List ℕ)) → WentOver bytes (Takes bytes ∷ []) a b s t → OnOk answer (WentStill (Pumps ∷ []) b c t u)
    → OnOk answer (WentOver bytes (Takes bytes ∷ Pumps ∷ []) a c s u)
taken_ok (Ok value) bytes a b c s t u one two = λ l m n took.
    went_both (Takes bytes ∷ []) (Pumps ∷ []) a b c s t u l m m n (n + length bytes) (n + length bytes) (one l m n took) (two m (n + length bytes))
taken_ok (Err fault) bytes a b c s t u one two = tt

pub taken_err : {T : Type 0} (answer : Result T Stop) (bytes : List ℕ) (a b c : Place) (s t u : Option (List ℕ)) → WentOver bytes (Takes bytes ∷ []) a b s t → IfErr answer (λ stop. BrokeStill (CutIn (Pumps ∷ [])) stop b c t u)
    → IfErr answer (λ stop. BrokeOver bytes (CutPiece bytes) stop a c s u)
taken_err (Ok value) bytes a b c s t u one two = tt
taken_err (Err stop) bytes a b c s t u one two = λ l m n took within.
    broke_after (CutIn (Pumps ∷ [])) (CutPiece bytes) stop (Takes bytes ∷ []) a b c s t u l m m n (n + length bytes) (one l m n took) (two m (n + length bytes) within)
    (λ later cut. inl (cut-following (Takes bytes ∷ []) (Pumps ∷ []) stop later cut))

pub broke_taking : (bytes : List ℕ) (stop : Stop) (a b : Place) (s t : Option (List ℕ)) → BrokeOver bytes (CutTaking bytes) stop a b s t → BrokeOver bytes (CutPiece bytes) stop a b s t
broke_taking bytes stop a b s t one = λ l m n took within. broke_as (CutTaking bytes) (CutPiece bytes) stop a b s t l m n (one l m n took within) (λ steps cut. inr cut)

-- ---- what a read gave

-- nothing
pub rested : (bytes : List ℕ) (a : Place) (s : Option (List ℕ)) → length bytes ≡ 0 → (l m : Option (List ℕ)) (n : ℕ) → Consumes l m bytes → (length bytes ≡ 0 → IsAtEnd m) → Went (piece_steps bytes) a a s s l m n (n + length bytes)
rested [] a s none l m n took ended = record {
  wrote = record { outs = []; ran = (a, [], [], (refl, refl), (refl, refl), refl); written = nothing s };
  reads = (m, took, ended refl, Keeps-refl m);
  count = omega arith;
}
  where
    nothing : (o : Option (List ℕ)) → Appends o o []
    nothing o = Appends-nil o
rested (byte ∷ bytes) a s none l m n took ended = absurd (omega (arith, none))

-- some bytes
pub piece_ok : {T E : Type 0} (answer : Result T E) (bytes : List ℕ) (a b : Place) (s t : Option (List ℕ)) → 0 < length bytes → OnOk answer (WentOver bytes (Takes bytes ∷ Pumps ∷ []) a b s t)
    → OnOk answer ((l m : Option (List ℕ)) (n : ℕ) → Consumes l m bytes → (length bytes ≡ 0 → IsAtEnd m) → Went (piece_steps bytes) a b s t l m n (n + length bytes))
piece_ok (Err fault) bytes a b s t some one = tt
piece_ok (Ok value) [] a b s t some one = absurd (omega (arith, some))
piece_ok (Ok value) (byte ∷ bytes) a b s t some one = λ l m n took ended. one l m n took

pub piece_err : {T : Type 0} (answer : Result T Stop) (bytes : List ℕ) (a b : Place) (s t : Option (List ℕ)) → 0 < length bytes → IfErr answer (λ stop. BrokeOver bytes (CutPiece bytes) stop a b s t)
    → IfErr answer (λ stop. BrokeOver bytes (CutRead bytes) stop a b s t)
piece_err (Ok value) bytes a b s t some one = tt
piece_err (Err stop) bytes a b s t some one = λ l m n took within. broke_as (CutPiece bytes) (CutRead bytes) stop a b s t l m n (one l m n took within) (λ steps cut. (some, cut))
