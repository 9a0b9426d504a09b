-- What units tell of what the chip has for its host: both grow at their ends, are cut there, and stay where others are alike.
use Rattle.std.proofs.Common.{◌≡◌, ℕ, ◌+◌, List, [], ◌∷◌, ◌++◌, length, refl, sym, subst, append-nil, append_assoc, length-append, arith}
use Rattle.serial_frame.specs.Frame.{FrameParts}
use Rattle.law_wire.specs.Given.{Given, IsOf}
use Rattle.law_wire.specs.Answering.{AreOf}
use Rattle.outside_model.specs.Devices.{State}
use Rattle.proof_chip.specs.Serving.{as_given, frame_texts}
use Rattle.proof_answers.specs.Telling.{Alike, IsLike, Tells}

module _ (devices : List State) where
  -- ---- alike

  pub alike_same : (all : List Given) → Alike devices all all
  alike_same [] = tt
  alike_same (one ∷ all) = (record { there = λ unit is. is; back = λ unit is. is }, alike_same all)

  like_then : (a b c : Given) → IsLike devices a b → IsLike devices b c → IsLike devices a c
  like_then a b c first later = record { there = λ unit is. later.there unit (first.there unit is); back = λ unit is. first.back unit (later.back unit is) }

  alike_then : (a b c : List Given) → Alike devices a b → Alike devices b c → Alike devices a c
  alike_then [] [] [] first later = tt
  alike_then [] [] (z ∷ c) first later = absurd later
  alike_then [] (y ∷ b) c first later = absurd first
  alike_then (x ∷ a) [] c first later = absurd first
  alike_then (x ∷ a) (y ∷ b) [] first later = absurd later
  alike_then (x ∷ a) (y ∷ b) (z ∷ c) first later = (like_then x y z first.0 later.0, alike_then a b c first.1 later.1)

  alike_back : (a b : List Given) → Alike devices a b → Alike devices b a
  alike_back [] [] same = tt
  alike_back [] (y ∷ b) same = absurd same
  alike_back (x ∷ a) [] same = absurd same
  alike_back (x ∷ a) (y ∷ b) same = (record { there = λ unit is. same.0.back unit is; back = λ unit is. same.0.there unit is }, alike_back a b same.1)

  pub alike_both : (a b c d : List Given) → Alike devices a b → Alike devices c d → Alike devices (a ++ c) (b ++ d)
  alike_both [] [] c d first later = later
  alike_both [] (y ∷ b) c d first later = absurd first
  alike_both (x ∷ a) [] c d first later = absurd first
  alike_both (x ∷ a) (y ∷ b) c d first later = (first.0, alike_both a b c d first.1 later)

  alike_many : (a b : List Given) → Alike devices a b → length a ≡ length b
  alike_many [] [] same = refl
  alike_many [] (y ∷ b) same = absurd same
  alike_many (x ∷ a) [] same = absurd same
  alike_many (x ∷ a) (y ∷ b) same = let rest = alike_many a b same.1 in omega (arith, rest)

  alike_less : (a b c d : List Given) → length c ≡ length d → Alike devices (a ++ c) (b ++ d) → Alike devices a b
  alike_less [] [] c d many same = tt
  alike_less [] (y ∷ b) c d many same = absurd (let all = alike_many c (y ∷ (b ++ d)) same in let parts = length-append b d in omega (arith, many, all, parts))
  alike_less (x ∷ a) [] c d many same = absurd (let all = alike_many (x ∷ (a ++ c)) d same in let parts = length-append a c in omega (arith, many, all, parts))
  alike_less (x ∷ a) (y ∷ b) c d many same = (same.0, alike_less a b c d many same.1)

  -- ---- told

  -- what is told, and what is left, are such that others are alike
  pub tells_alike : (units : List (List ℕ)) (all others left rest : List Given) → Alike devices all others → Alike devices left rest → Tells devices units all left → Tells devices units others rest
  tells_alike [] all others left rest first last tells = alike_then others all rest (alike_back all others first) (alike_then all left rest tells last)
  tells_alike (unit ∷ units) [] others left rest first last tells = absurd tells
  tells_alike (unit ∷ units) (one ∷ all) [] left rest first last tells = absurd first
  tells_alike (unit ∷ units) (one ∷ all) (other ∷ others) left rest first last tells = (first.0.there unit tells.0, tells_alike units all others left rest first.1 last tells.1)

  -- more is left
  pub tells_more : (units : List (List ℕ)) (all left more others : List Given) → Alike devices more others → Tells devices units all left → Tells devices units (all ++ more) (left ++ others)
  tells_more [] all left more others same tells = alike_both all left more others tells same
  tells_more (unit ∷ units) [] left more others same tells = absurd tells
  tells_more (unit ∷ units) (one ∷ all) left more others same tells = (tells.0, tells_more units all left more others same tells.1)

  -- the next one is told
  tells_next : (units : List (List ℕ)) (all : List Given) (one : Given) (left : List Given) (unit : List ℕ) → IsOf devices unit one → Tells devices units all (one ∷ left) → Tells devices (units ++ unit ∷ []) all left
  tells_next [] [] one left unit is tells = absurd tells
  tells_next [] (first ∷ all) one left unit is tells = (tells.0.back unit is, tells.1)
  tells_next (u ∷ units) [] one left unit is tells = absurd tells
  tells_next (u ∷ units) (first ∷ all) one left unit is tells = (tells.0, tells_next units all one left unit is tells.1)

  -- and several are
  pub tells_those : (units texts : List (List ℕ)) (all more left : List Given) → Tells devices texts more [] → Tells devices units all (more ++ left) → Tells devices (units ++ texts) all left
  tells_those units [] all [] left fits tells = subst (λ (l : List (List ℕ)). Tells devices l all left) (sym (append-nil units)) tells
  tells_those units [] all (one ∷ more) left fits tells = absurd fits
  tells_those units (text ∷ texts) all [] left fits tells = absurd fits
  tells_those units (text ∷ texts) all (one ∷ more) left fits tells =
      subst (λ (l : List (List ℕ)). Tells devices l all left) (append_assoc units (text ∷ []) texts)
      (tells_those (units ++ text ∷ []) texts all more left fits.1 (tells_next units all one (more ++ left) text fits.0 tells))

  pub tells_are : (units : List (List ℕ)) (all left : List Given) → Tells devices units all left → AreOf devices units all
  tells_are [] all left tells = tt
  tells_are (unit ∷ units) [] left tells = absurd tells
  tells_are (unit ∷ units) (one ∷ all) left tells = (tells.0, tells_are units all left tells.1)

  pub tells_many : (units : List (List ℕ)) (all left : List Given) → Tells devices units all left → length all ≡ length units + length left
  tells_many [] all left tells = let same = alike_many all left tells in omega (arith, same)
  tells_many (unit ∷ units) [] left tells = absurd tells
  tells_many (unit ∷ units) (one ∷ all) left tells = let rest = tells_many units all left tells.1 in omega (arith, rest)

  -- what is left is cut at its end, where it is no more than is cut of the other
  pub tells_less : (units : List (List ℕ)) (all more left others : List Given) → length more ≡ length others → Tells devices units (all ++ more) (left ++ others) → Tells devices units all left
  tells_less [] all more left others many tells = alike_less all left more others many tells
  tells_less (unit ∷ units) [] more left others many tells =
      absurd (let all = tells_many (unit ∷ units) more (left ++ others) tells in let parts = length-append left others in omega (arith, many, all, parts))
  tells_less (unit ∷ units) (one ∷ all) more left others many tells = (tells.0, tells_less units all more left others many tells.1)

  -- frames tell themselves
  pub tells_own : (frames : List FrameParts) → Tells devices (frame_texts frames) (as_given frames) []
  tells_own [] = tt
  tells_own (f ∷ frames) = (refl, tells_own frames)
