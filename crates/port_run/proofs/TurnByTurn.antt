-- A turn, and turn after turn.
use Rattle.std.proofs.Common.{◌≡◌, ℕ, ◌+◌, ◌-◌, ◌≤◌, ◌<◌, List, [], ◌++◌, length, length-take, take, inl, inr, refl, ap, sym, ◌∙◌, subst, arith}
use Rattle.std.specs.Prelude.{Option}
use Rattle.std.specs.Io.KnownBytes.{Consumes, Keeps, IsAtEnd}
use Rattle.std.proofs.KnownBytes.{Keeps-refl, Appends-nil, Consumes-nil, Consumes-kept}
use Rattle.run_lines.specs.declared.reader.TheConstants.{PIECE, MAX_INPUT}
use Rattle.port_run.specs.declared.stop.Stop.{Stop}
use Rattle.port_run.specs.declared.stop.Stop.TheVariants.{ReadFault, WriteFault, InputTooLong, NoMemory}
use Rattle.port_run.specs.Steps.{Place, Step}
use Rattle.port_run.specs.Schedule.{Telling, Turn, IsTurn, due, turn_steps, piece_steps, tick_steps, Waited, CutIn, CutRead, CutTurn, CutWait}
use Rattle.port_run.specs.Serving.{Wrote, Went, Broke}
use Rattle.port_run.proofs.StepLists.{went_nothing, went_both, broke_after, broke_as}
use Rattle.port_run.proofs.Joining.{WentStill, BrokeStill}
use Rattle.port_run.proofs.Turning.{waited_nothing, waited_more, cut_wait}

none_wrote : (a : Place) (s : Option (List ℕ)) → Wrote [] a a s s
none_wrote a s = record { outs = []; ran = (refl, refl); written = Appends-nil s }

-- the source failed
pub broke_read : (Tells : Telling) (left : ℕ) (a : Place) (s l m : Option (List ℕ)) (n : ℕ) → Keeps l m → n ≤ MAX_INPUT → Broke (CutTurn Tells left) ReadFault a a s s l m n
broke_read Tells left a s l m n kept within = record {
  steps = [];
  cut = refl;
  halts = none_wrote a s;
  mid = l;
  reads = Keeps-refl l;
  rest = [];
  consumed = Consumes-kept l l m [] (Consumes-nil l) kept;
  short = omega arith;
  within = omega (arith, within);
  ends = refl;
}

cut_reading : (Tells : Telling) (left : ℕ) (turn : Turn) (stop : Stop) (steps : List Step) → IsTurn Tells left turn → CutRead turn.piece stop steps → CutTurn Tells left stop steps
cut_reading Tells left turn ReadFault steps is (some, inl cut) = absurd cut.0
cut_reading Tells left turn ReadFault steps is (some, inr cut) = absurd cut
cut_reading Tells left turn InputTooLong steps is (some, inl cut) = absurd cut.0
cut_reading Tells left turn InputTooLong steps is (some, inr cut) = absurd cut
cut_reading Tells left turn WriteFault steps is cut = (turn, is, inl cut)
cut_reading Tells left turn NoMemory steps is cut = (turn, is, inl cut)

cut_ticking : (Tells : Telling) (left : ℕ) (turn : Turn) (stop : Stop) (steps : List Step) → IsTurn Tells left turn → CutIn (tick_steps turn.ticks) stop steps → CutTurn Tells left stop (piece_steps turn.piece ++ steps)
cut_ticking Tells left turn ReadFault steps is cut = absurd cut.0
cut_ticking Tells left turn InputTooLong steps is cut = absurd cut.0
cut_ticking Tells left turn WriteFault steps is cut = (turn, is, inr (steps, refl, cut))
cut_ticking Tells left turn NoMemory steps is cut = (turn, is, inr (steps, refl, cut))

-- as what was read was taken
pub broke_reading : (Tells : Telling) (left : ℕ) (turn : Turn) (stop : Stop) (a b : Place) (s t l m : Option (List ℕ)) (n : ℕ) → IsTurn Tells left turn → Broke (CutRead turn.piece) stop a b s t l m n
    → Broke (CutTurn Tells left) stop a b s t l m n
broke_reading Tells left turn stop a b s t l m n is one = broke_as (CutRead turn.piece) (CutTurn Tells left) stop a b s t l m n one (λ steps cut. cut_reading Tells left turn stop steps is cut)

-- as ticks passed
pub broke_ticking : (Tells : Telling) (left : ℕ) (turn : Turn) (stop : Stop) (a b c : Place) (s t u l m : Option (List ℕ)) (n k : ℕ) → IsTurn Tells left turn → Went (piece_steps turn.piece) a b s t l m n k → k ≤ MAX_INPUT
    → BrokeStill (CutIn (tick_steps turn.ticks)) stop b c t u → Broke (CutTurn Tells left) stop a c s u l m n
broke_ticking Tells left turn stop a b c s t u l m n k is one within two =
    broke_after (CutIn (tick_steps turn.ticks)) (CutTurn Tells left) stop (piece_steps turn.piece) a b c s t u l m m n k one (two m k within) (λ later cut. cut_ticking Tells left turn stop later is cut)

pub turn_went : (turn : Turn) (a b c : Place) (s t u l m : Option (List ℕ)) (n k : ℕ) → Went (piece_steps turn.piece) a b s t l m n k → WentStill (tick_steps turn.ticks) b c t u → Went (turn_steps turn) a c s u l m n k
turn_went turn a b c s t u l m n k one two = went_both (piece_steps turn.piece) (tick_steps turn.ticks) a b c s t u l m m n k k one (two m k)

-- ---- a turn, from what its calls answered

module _ (Tells : Telling) (left got passed ticks : ℕ) (buffer : List ℕ) (at_most : got ≤ length buffer) (whole : length buffer ≡ PIECE) (told : Tells got passed) (are : ticks ≡ due got passed left) where
  abbrev this : Turn
  this = record { piece = take got buffer; ticks = ticks }

  got_so_many : length (take got buffer) ≡ got
  got_so_many = omega (arith, at_most, length-take got buffer)

  is_turn : IsTurn Tells left this
  is_turn = record {
    short = omega (arith, got_so_many, at_most, whole);
    passed = passed;
    told = subst (λ (n : ℕ). Tells n passed) (sym got_so_many) told;
    ticks_are = subst (λ (n : ℕ). ticks ≡ due n passed left) (sym got_so_many) are;
  }

  module _ (a b : Place) (s t l m : Option (List ℕ)) (n : ℕ) (took : Consumes l m (take got buffer)) (within : n + got ≤ MAX_INPUT) where
    pub turn_reading : (stop : Stop) → ((l' m' : Option (List ℕ)) (k : ℕ) → Consumes l' m' (take got buffer) → k + length (take got buffer) ≤ MAX_INPUT → Broke (CutRead (take got buffer)) stop a b s t l' m' k)
        → Broke (CutTurn Tells left) stop a b s t l m n
    turn_reading stop broke = broke_reading Tells left this stop a b s t l m n is_turn (broke l m n took (omega (arith, got_so_many, within)))

    module _ (at_end : got ≡ 0 → 0 < length buffer → IsAtEnd m)
        (one : (l' m' : Option (List ℕ)) (k : ℕ) → Consumes l' m' (take got buffer) → (length (take got buffer) ≡ 0 → IsAtEnd m') → Went (piece_steps (take got buffer)) a b s t l' m' k (k + length (take got buffer)))
        (c : Place) (u : Option (List ℕ)) where
      read : Went (piece_steps (take got buffer)) a b s t l m n (n + got)
      read = subst (λ (k : ℕ). Went (piece_steps (take got buffer)) a b s t l m n (n + k)) got_so_many (one l m n took (λ none. at_end (omega (arith, none, got_so_many)) (omega (arith, whole))))

      pub turn_done : WentStill (tick_steps ticks) b c t u → (turn : Turn) × IsTurn Tells left turn × (ticks ≡ turn.ticks) × Went (turn_steps turn) a c s u l m n (n + got)
      turn_done two = (this, is_turn, refl, turn_went this a b c s t u l m n (n + got) read two)

      pub turn_ticking : (stop : Stop) → BrokeStill (CutIn (tick_steps ticks)) stop b c t u → Broke (CutTurn Tells left) stop a c s u l m n
      turn_ticking stop two = broke_ticking Tells left this stop a b c s t u l m n (n + got) is_turn read within two

-- ---- waits

abbrev pub WaitedSoFar : Telling → ℕ → ℕ → Place → Place → Option (List ℕ) → Option (List ℕ) → Option (List ℕ) → Option (List ℕ) → ℕ → ℕ → Type 0
WaitedSoFar Tells ticks left a b s t l m n k = (steps : List Step) × Waited Tells ticks left steps × Went steps a b s t l m n k

pub no_turn : (Tells : Telling) (ticks : ℕ) (a : Place) (s l : Option (List ℕ)) (n : ℕ) → WaitedSoFar Tells ticks ticks a a s s l l n n
no_turn Tells ticks a s l n = ([], waited_nothing Tells ticks, went_nothing a s l n)

pub one_turn : (Tells : Telling) (ticks left to passed : ℕ) (a b c : Place) (s t u l m o : Option (List ℕ)) (i j k : ℕ) → WaitedSoFar Tells ticks left a b s t l m i j → 0 < left → to ≡ left - passed
    → ((one : Turn) × IsTurn Tells left one × (passed ≡ one.ticks) × Went (turn_steps one) b c t u m o j k) → WaitedSoFar Tells ticks to a c s u l o i k
one_turn Tells ticks left to passed a b c s t u l m o i j k (steps, waited, went) some are (one, is, same, more) =
    (steps ++ turn_steps one, waited_more Tells ticks left steps one to waited some is (are ∙ ap (λ (x : ℕ). left - x) same), went_both steps (turn_steps one) a b c s t u l m o i j k went more)

pub wait_broke : (Tells : Telling) (ticks left : ℕ) (stop : Stop) (a b c : Place) (s t u l m o : Option (List ℕ)) (i j : ℕ) → WaitedSoFar Tells ticks left a b s t l m i j → 0 < left → Broke (CutTurn Tells left) stop b c t u m o j
    → Broke (CutWait Tells ticks) stop a c s u l o i
wait_broke Tells ticks left stop a b c s t u l m o i j (steps, waited, went) some broke =
    broke_after (CutTurn Tells left) (CutWait Tells ticks) stop steps a b c s t u l m o i j went broke (λ later cut. cut_wait Tells ticks left stop steps later waited some cut)

pub wait_over : (Tells : Telling) (ticks left : ℕ) (a b : Place) (s t l m : Option (List ℕ)) (i j : ℕ) → left ≡ 0 → WaitedSoFar Tells ticks left a b s t l m i j → WaitedSoFar Tells ticks 0 a b s t l m i j
wait_over Tells ticks left a b s t l m i j over so_far = subst (λ (x : ℕ). WaitedSoFar Tells ticks x a b s t l m i j) over so_far
