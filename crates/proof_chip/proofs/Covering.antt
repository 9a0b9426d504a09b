-- Frames that are the first of what the chip has for the host still are when the same places are taken out of both.
use Rattle.std.proofs.Common.{◌≡◌, ◌<◌, ℕ, zero, suc, List, [], ◌∷◌, ◌++◌, length, take, drop, subst, arith}
use Rattle.serial_frame.specs.Frame.{FrameParts}
use Rattle.serial_frame.specs.Items.{unit_text}
use Rattle.serial_frame.specs.declared.unit.Unit.TheVariants.{Framed}
use Rattle.outside_model.specs.Devices.{State}
use Rattle.law_wire.specs.Given.{Given, Frame, Information, IsOf}
use Rattle.law_wire.specs.Answering.{AreOf, without}
use Rattle.proof_chip.specs.Serving.{Lie, as_given, frame_texts}
use Rattle.proof_chip.proofs.Dropping.{many_left}

module _ (devices : List State) where
  -- the same for frames that are not written as bytes
  abbrev AreAs : List Given → List Given → Type 0
  AreAs [] given = Unit {0}
  AreAs (Frame f ∷ all) [] = ⊥
  AreAs (Frame f ∷ all) (one ∷ given) = IsOf devices (unit_text (Framed f)) one × AreAs all given
  AreAs (Information node ticks past ∷ all) given = ⊥

  are_as : (frames : List FrameParts) (given : List Given) → AreOf devices (frame_texts frames) given → AreAs (as_given frames) given
  are_as [] given are = tt
  are_as (f ∷ frames) [] are = absurd are
  are_as (f ∷ frames) (one ∷ given) are = (are.0, are_as frames given are.1)

  are_of : (frames : List FrameParts) (given : List Given) → AreAs (as_given frames) given → AreOf devices (frame_texts frames) given
  are_of [] given are = tt
  are_of (f ∷ frames) [] are = absurd are
  are_of (f ∷ frames) (one ∷ given) are = (are.0, are_of frames given are.1)

  -- one place is taken out
  one_out : (place : ℕ) (all given : List Given) → place < length all → AreAs all given → AreAs (take place all ++ drop (suc place) all) (take place given ++ drop (suc place) given)
  one_out place [] given below are = absurd (omega (arith, below))
  one_out zero (Frame f ∷ all) [] below are = absurd are
  one_out zero (Frame f ∷ all) (one ∷ given) below are = are.1
  one_out (suc place) (Frame f ∷ all) [] below are = absurd are
  one_out (suc place) (Frame f ∷ all) (one ∷ given) below are = (are.0, one_out place all given (omega (arith, below)) are.1)
  one_out place (Information node ticks past ∷ all) given below are = absurd are

  all_out : (places : List ℕ) (all given : List Given) → Lie places (length all) → AreAs all given → AreAs (without places all) (without places given)
  all_out [] all given lie are = are
  all_out (place ∷ places) all given lie are =
      let rest = many_left places all lie.1 in
      let first = lie.0 in
      one_out place (without places all) (without places given) (omega (arith, rest, first)) (all_out places all given lie.1 are)

  -- those that are left are the first of what is left
  pub left_are : (places : List ℕ) (frames left : List FrameParts) (given : List Given) → Lie places (length (as_given frames)) → without places (as_given frames) ≡ as_given left
      → AreOf devices (frame_texts frames) given → AreOf devices (frame_texts left) (without places given)
  left_are places frames left given lie is are =
      are_of left (without places given)
      (subst (λ (l : List Given). AreAs l (without places given)) is (all_out places (as_given frames) given lie (are_as frames given are)))

  pub first_are : (xs ys : List (List ℕ)) (given : List Given) → AreOf devices (xs ++ ys) given → AreOf devices xs given
  first_are [] ys given are = tt
  first_are (x ∷ xs) ys [] are = absurd are
  first_are (x ∷ xs) ys (one ∷ given) are = (are.0, first_are xs ys given are.1)

  pub more_are : (xs : List (List ℕ)) (given more : List Given) → AreOf devices xs given → AreOf devices xs (given ++ more)
  more_are [] given more are = tt
  more_are (x ∷ xs) [] more are = absurd are
  more_are (x ∷ xs) (one ∷ given) more are = (are.0, more_are xs given more are.1)
