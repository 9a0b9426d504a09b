-- Lives of frames that go on or end at one more step.
use Rattle.std.proofs.Common.{◌≡◌, ◌≢◌, ℕ, zero, suc, ◌+◌, ◌<◌, Bool, true, false, List, [], ◌∷◌, ◌++◌, refl, ap, sym, ◌∙◌, subst, inl, inr, arith, append_assoc}
use Rattle.std.proofs.lemmas.List.{append-nil}
use Rattle.std.proofs.lemmas.List.Concat.{flat_map-append}
use Rattle.std.proofs.lemmas.Bool.Decides.{eqb_tells}
use Rattle.std.specs.Prelude.{◌==◌, if◌then◌else◌, flat_map}
use Rattle.serial_frame.specs.Frame.{FrameParts}
use Rattle.serial_frame.specs.declared.item.Item.TheVariants.{Good}
use Rattle.serial_frame.specs.declared.unit.Unit.TheVariants.{Ack, Framed}
use Rattle.serial_link.specs.State.{IsBusy, pause_after, turn_ended, outs_ended}
use Rattle.serial_link.specs.Rules.{Event, heard, ticked, submitted, Step, tick_count, ticks_of, own_of, Silent, LeavesCopy, EndsCopy, LeavesPause, LeavesIdle, Pauses, Copies, Stands, IsLife, ArePast, Turns}
use Rattle.serial_link.specs.declared.out.LinkOut.TheVariants.{Write, Sent, Failed}
use Rattle.serial_link.specs.declared.turn.Turn.{Turn}
use Rattle.serial_link.specs.declared.turn.Turn.TheVariants.{Idle, Copied, Paused}
use Rattle.serial_link.proofs.Counting.{ticks_of-append}

silent-append : (P : Event → Type 0) (a b : List Step) → Silent P a → Silent P b → Silent P (a ++ b)
silent-append P [] b h k = k
silent-append P (s ∷ a) b (event, own, h) k = (event, own, silent-append P a b h k)

past-append : (a b : List (List Step)) → ArePast a → ArePast b → ArePast (a ++ b)
past-append [] b h k = k
past-append (x ∷ a) b (here, h) k = (here, past-append a b h k)

-- the last life goes on
turns-continue : (h : List Step) (turn turn' : Turn) (s : Step) → Turns h turn → ((now : List Step) → Stands turn now → Stands turn' (now ++ s ∷ [])) → Turns (h ++ s ∷ []) turn'
turns-continue h turn turn' s turns goes =
    record {
      past = turns.past;
      now = turns.now ++ s ∷ [];
      parts = ap (λ (t : List Step). t ++ s ∷ []) turns.parts ∙ append_assoc _ turns.now (s ∷ []);
      are_past = turns.are_past;
      stands = goes turns.now turns.stands;
    }

-- what stood so far is past
past-more : (past : List (List Step)) (now tail : List Step)
    → flat_map (λ (steps : List Step). steps) past ++ (now ++ tail) ≡ flat_map (λ (steps : List Step). steps) (past ++ now ∷ []) ++ tail
past-more past now tail =
    sym (append_assoc _ now tail)
    ∙ ap (λ (t : List Step). t ++ tail) (ap (λ (t : List Step). flat_map (λ (steps : List Step). steps) past ++ t) (sym (append-nil now)) ∙ sym (flat_map-append (λ (steps : List Step). steps) past (now ∷ [])))

-- the last life ends
turns-close : (h : List Step) (turn : Turn) (s : Step) → Turns h turn → ((now : List Step) → Stands turn now → IsLife (now ++ s ∷ [])) → Turns (h ++ s ∷ []) Idle
turns-close h turn s turns ends =
    record {
      past = turns.past ++ (turns.now ++ s ∷ []) ∷ [];
      now = [];
      parts = ap (λ (t : List Step). t ++ s ∷ []) turns.parts ∙ append_assoc _ turns.now (s ∷ [])
          ∙ sym (ap (λ (t : List Step). flat_map (λ (steps : List Step). steps) turns.past ++ t) (append-nil (turns.now ++ s ∷ [])))
          ∙ past-more turns.past (turns.now ++ s ∷ []) [];
      are_past = past-append turns.past ((turns.now ++ s ∷ []) ∷ []) turns.are_past (inl (ends turns.now turns.stands), tt);
      stands = tt;
    }

-- a frame is submitted where none stands
pub turns-submit : (h : List Step) (f : FrameParts) (s : Step) → s.event ≡ submitted f → own_of s.outs ≡ Write (Framed f) ∷ [] → Turns h Idle → Turns (h ++ s ∷ []) (Copied f 1 0)
turns-submit h f s event own turns =
    record {
      past = turns.past ++ turns.now ∷ [];
      now = s ∷ [];
      parts = ap (λ (t : List Step). t ++ s ∷ []) turns.parts ∙ append_assoc _ turns.now (s ∷ []) ∙ past-more turns.past turns.now (s ∷ []);
      are_past = past-append turns.past (turns.now ∷ []) turns.are_past (inr turns.stands, tt);
      stands = (s ∷ [], [], refl, omega arith, record { step = s; alone = refl; event = event; written = own }, record { silent = tt; ticks = refl; early = omega arith });
    }

-- nothing is put out
pub turns-idle : (h : List Step) (s : Step) → LeavesIdle s.event → own_of s.outs ≡ [] → Turns h Idle → Turns (h ++ s ∷ []) Idle
turns-idle h s event own turns =
    turns-continue h Idle Idle s turns (λ now stands. silent-append LeavesIdle now (s ∷ []) stands (event, own, tt))

-- one more step counts its ticks
ticks_of-more : (a : List Step) (s : Step) (n : ℕ) → ticks_of a ≡ n → ticks_of (a ++ s ∷ []) ≡ n + tick_count s.event
ticks_of-more a s n e = omega (arith, ticks_of-append a (s ∷ []))

-- a copy goes on waiting
pub turns-wait : (h : List Step) (f : FrameParts) (copies ticks : ℕ) (s : Step) → LeavesCopy s.event → own_of s.outs ≡ [] → ticks + tick_count s.event < 15
    → Turns h (Copied f copies ticks) → Turns (h ++ s ∷ []) (Copied f copies (ticks + tick_count s.event))
turns-wait h f copies ticks s event own early turns =
    turns-continue h (Copied f copies ticks) (Copied f copies (ticks + tick_count s.event)) s turns
    (λ now (before, wait, parts, few, written, waits). (
      before,
      wait ++ s ∷ [],
      ap (λ (t : List Step). t ++ s ∷ []) parts ∙ append_assoc before wait (s ∷ []),
      few,
      written,
      record {
        silent = silent-append LeavesCopy wait (s ∷ []) waits.silent (event, own, tt);
        ticks = ticks_of-more wait s ticks waits.ticks;
        early = early;
      },
    ))

-- a pause goes on
pub turns-pause : (h : List Step) (f : FrameParts) (copies ticks : ℕ) (s : Step) → LeavesPause s.event → own_of s.outs ≡ [] → ticks + tick_count s.event < pause_after copies
    → Turns h (Paused f copies ticks) → Turns (h ++ s ∷ []) (Paused f copies (ticks + tick_count s.event))
turns-pause h f copies ticks s event own early turns =
    turns-continue h (Paused f copies ticks) (Paused f copies (ticks + tick_count s.event)) s turns
    (λ now (before, paused, parts, few, written, pauses, soon). (
      before,
      paused ++ s ∷ [],
      ap (λ (t : List Step). t ++ s ∷ []) parts ∙ append_assoc before paused (s ∷ []),
      few,
      written,
      record {
        wait = pauses.wait;
        end = pauses.end;
        pause = pauses.pause ++ s ∷ [];
        parts = ap (λ (t : List Step). t ++ s ∷ []) pauses.parts ∙ append_assoc pauses.wait (pauses.end ∷ pauses.pause) (s ∷ []);
        waits = pauses.waits;
        ends = pauses.ends;
        quiet = pauses.quiet;
        silent = silent-append LeavesPause pauses.pause (s ∷ []) pauses.silent (event, own, tt);
        ticks = ticks_of-more pauses.pause s ticks pauses.ticks;
      },
      early,
    ))

-- a pause is at least one tick
pause_some : (copies : ℕ) → 0 < pause_after copies
pause_some copies =
    elim (copies == 1) as (λ b. 0 < (if b then 1 else (if copies == 2 then 11 else 21))) [
      | true ↦ omega arith
      | false ↦ elim (copies == 2) as (λ b. 0 < (if b then 11 else 21)) [ true ↦ omega arith | false ↦ omega arith ]
    ]

-- a copy before the fourth ends without ACK
turns-copy_ends : (h : List Step) (f : FrameParts) (copies ticks : ℕ) (s : Step) → copies ≢ 4 → EndsCopy ticks s.event → own_of s.outs ≡ []
    → Turns h (Copied f copies ticks) → Turns (h ++ s ∷ []) (Paused f copies 0)
turns-copy_ends h f copies ticks s more event own turns =
    turns-continue h (Copied f copies ticks) (Paused f copies 0) s turns
    (λ now (before, wait, parts, few, written, waits). (
      before,
      wait ++ s ∷ [],
      ap (λ (t : List Step). t ++ s ∷ []) parts ∙ append_assoc before wait (s ∷ []),
      omega arith,
      written,
      record {
        wait = wait;
        end = s;
        pause = [];
        parts = refl;
        waits = waits.silent;
        ends = subst (λ (n : ℕ). EndsCopy n s.event) (sym waits.ticks) event;
        quiet = own;
        silent = tt;
        ticks = refl;
      },
      pause_some copies,
    ))

-- the fourth copy ends without ACK
turns-fails : (h : List Step) (f : FrameParts) (ticks : ℕ) (s : Step) → EndsCopy ticks s.event → own_of s.outs ≡ Failed 4 ∷ []
    → Turns h (Copied f 4 ticks) → Turns (h ++ s ∷ []) Idle
turns-fails h f ticks s event own turns =
    turns-close h (Copied f 4 ticks) s turns
    (λ now stands. record { life = now; last = s; parts = refl; ends = inr (record { frame = f; ticks = ticks; stands = stands; event = event; told = own }) })

-- a copy ends without ACK
pub turns-ended : (h : List Step) (f : FrameParts) (copies ticks : ℕ) (s : Step) → EndsCopy ticks s.event → own_of s.outs ≡ outs_ended copies
    → Turns h (Copied f copies ticks) → Turns (h ++ s ∷ []) (turn_ended f copies)
turns-ended h f copies ticks s event own turns =
    elim (eqb_tells copies 4) [
      | inl (test, four) ↦
          subst (λ (b : Bool). Turns (h ++ s ∷ []) (if b then Idle else Paused f copies 0)) (sym test)
          (turns-fails h f ticks s event (own ∙ ap (λ (b : Bool). if b then Failed 4 ∷ [] else []) test) (subst (λ (n : ℕ). Turns h (Copied f n ticks)) four turns))
      | inr (test, more) ↦
          subst (λ (b : Bool). Turns (h ++ s ∷ []) (if b then Idle else Paused f copies 0)) (sym test)
          (turns-copy_ends h f copies ticks s more event (own ∙ ap (λ (b : Bool). if b then Failed 4 ∷ [] else []) test) turns)
    ]

-- ACK is heard of a frame
pub turns-sent : (h : List Step) (turn : Turn) (s : Step) → IsBusy turn → s.event ≡ heard (Good Ack) → own_of s.outs ≡ Sent ∷ [] → Turns h turn → Turns (h ++ s ∷ []) Idle
turns-sent h turn s busy event own turns =
    turns-close h turn s turns
    (λ now stands. record { life = now; last = s; parts = refl; ends = inl (record { turn = turn; busy = busy; stands = stands; event = event; told = own }) })

-- one more copy
copies-more : (f : FrameParts) (copies : ℕ) (before paused : List Step) (s : Step) (ticks : ℕ) → Copies f copies before → Pauses paused ticks → ticks + 1 ≡ pause_after copies
    → s.event ≡ ticked → own_of s.outs ≡ Write (Framed f) ∷ [] → Copies f (copies + 1) (before ++ paused ++ s ∷ [])
copies-more f zero before paused s ticks written pauses last event own = absurd written
copies-more f (suc n) before paused s ticks written pauses last event own =
    let more : suc n + 1 ≡ suc (suc n) = omega arith in
    subst (λ (k : ℕ). Copies f k (before ++ paused ++ s ∷ [])) (sym more) (before, paused, s, written, refl, ticks, pauses, last, event, own)

-- the last tick of a pause writes the next copy
pub turns-copy : (h : List Step) (f : FrameParts) (copies ticks : ℕ) (s : Step) → ticks + 1 ≡ pause_after copies → s.event ≡ ticked → own_of s.outs ≡ Write (Framed f) ∷ []
    → Turns h (Paused f copies ticks) → Turns (h ++ s ∷ []) (Copied f (copies + 1) 0)
turns-copy h f copies ticks s last event own turns =
    turns-continue h (Paused f copies ticks) (Copied f (copies + 1) 0) s turns
    (λ now (before, paused, parts, few, written, pauses, soon). (
      now ++ s ∷ [],
      [],
      sym (append-nil (now ++ s ∷ [])),
      omega arith,
      subst (λ (t : List Step). Copies f (copies + 1) (t ++ s ∷ [])) (sym parts) (copies-more f copies before paused s ticks written pauses last event own),
      record { silent = tt; ticks = refl; early = omega arith },
    ))
