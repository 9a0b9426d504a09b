-- What a calm transcript counts is what the walks of other crates count: acknowledgements that are to be lost, frames that went on the air, and CAN of the chip.
use Rattle.std.proofs.Common.{◌≡◌, ℕ, suc, ◌+◌, ◌-◌, ◌≤◌, ◌==◌, ◌&&◌, ◌||◌, not, Bool, true, false, if◌then◌else◌, List, [], ◌∷◌, ◌++◌, length, filter, refl, sym, ap, ap₂, ◌∙◌, arith}
use Rattle.std.proofs.lemmas.Bool.{eqb-true}
use Rattle.std.proofs.lemmas.Slice.Eq.{bytes_eq-Decides}
use Rattle.std.specs.Prelude.{bytes_eq, Option, Some, None, Result, Ok, Err}
use Rattle.std.specs.List.{flat_map, list_any}
use Rattle.serial_frame.specs.declared.unit.TheConstants.{CAN}
use Rattle.zw_words.specs.declared.fault.LineFault.{LineFault}
use Rattle.zw_words.specs.declared.side.Side.TheVariants.{Host, Chip}
use Rattle.zw_text.specs.declared.line.Line.{Line}
use Rattle.zw_text.specs.declared.line.Line.TheVariants as lines
use Rattle.zw_text.specs.declared.entry.Entry.{Entry}
use Rattle.zw_text.specs.declared.entry.Entry.TheVariants.{Said, Written, Air, Heard}
use Rattle.zw_text.specs.Line.{line_at}
use Rattle.zw_text.specs.Transcript.{AirFrame, frames, lines_run, read_as, shown, written}
use Rattle.law_wire.specs.Marks.{cans, collision_of, collisions, is_can}
use Rattle.law_wire.specs.Results.{ack_mark_step, ack_marks_after, ack_marks_of}
use Rattle.law_wire.specs.law_transcript.Lists.{listed, shown_after}
use Rattle.law_wire.specs.law_transcript.Nodes.{controller}
use Rattle.law_wire.specs.law_transcript.Repeats.{frame_of}
use Rattle.law_wire.specs.law_transcript.Restarts.{repeats}
use Rattle.law_time.specs.Calm.{acks_from, acks_step, are_used_up, collide_of, collided_at, is_from_controller, lost_acks_of}
use Rattle.proof_devices.specs.proof_routes.Forgetting.{passage_at}

-- ---- acknowledgements on the air

plus_none : (n : ℕ) → n + 0 ≡ n
plus_none n = omega arith

less_none : (n : ℕ) → n - 0 ≡ n
less_none n = omega arith

line_loses : (line : Line) → lost_acks_of (line ∷ []) ≡ ack_marks_of (line ∷ [])
line_loses (lines.LoseAck count) = plus_none count
line_loses line = refl

said_loses : (read : Result (Option Line) LineFault) → lost_acks_of (read_as read) ≡ ack_marks_of (read_as read)
said_loses (Ok (Some line)) = line_loses line
said_loses (Ok None) = refl
said_loses (Err fault) = refl

-- one that is heard in a tick, from the controller or not
heard_uses : (marks : ℕ) (frame : Option AirFrame) (again : Bool)
    → marks - (if is_from_controller frame && not again then 1 else 0) ≡ (if not again && list_any (λ f. f.sender == controller) (listed frame) then marks - 1 else marks)
heard_uses marks None true = less_none marks
heard_uses marks None false = less_none marks
heard_uses marks (Some frame) again = by (frame.sender == controller) again
  where
    by : (own again : Bool) → marks - (if own && not again then 1 else 0) ≡ (if not again && (own || false) then marks - 1 else marks)
    by true true = less_none marks
    by true false = refl
    by false true = less_none marks
    by false false = less_none marks

step_same : (past : List Entry) (marks : ℕ) (e : Entry) → acks_step past marks e ≡ ack_mark_step past marks e
step_same past marks (Said words) = ap (λ (n : ℕ). marks + n) (said_loses (line_at words))
step_same past marks (Heard frame) = heard_uses marks (frame_of past frame) (repeats past)
step_same past marks e = refl

pub acks_same : (past : List Entry) (marks : ℕ) (rest : List Entry) → acks_from past marks rest ≡ ack_marks_after marks past rest
acks_same past marks [] = refl
acks_same past marks (e ∷ rest) =
    ap (λ (n : ℕ). acks_from (past ++ e ∷ []) n rest) (step_same past marks e) ∙ acks_same (past ++ e ∷ []) (ack_mark_step past marks e) rest

-- ---- frames on the air

pub each_passes : (past rest : List Entry) → length (shown_after passage_at past rest) ≡ length (frames rest)
each_passes past [] = refl
each_passes past (Air frame sender receiver repeaters payload ∷ rest) =
    ap suc (each_passes (past ++ Air frame sender receiver repeaters payload ∷ []) rest)
each_passes past (e ∷ rest) = each_passes (past ++ e ∷ []) rest

-- ---- collisions

can_is : (unit : List ℕ) → bytes_eq unit (CAN ∷ []) ≡ true → is_can unit ≡ true
can_is unit is = ap is_can ((bytes_eq-Decides unit (CAN ∷ [])).0 is)

-- those that a calm transcript counts are among these
more_of : (a b : ℕ) → a ≤ b → suc a ≤ suc b
more_of a b le = omega (arith, le)

later_of : (a b : ℕ) → a ≤ b → a ≤ suc b
later_of a b le = omega (arith, le)

unit_fewer : (unit : List ℕ) (told : List Entry) (units : List (List ℕ)) (same can : Bool) → bytes_eq unit (CAN ∷ []) ≡ same → is_can unit ≡ can → length told ≤ length (filter is_can units)
    → length ((if same then Written Chip unit ∷ [] else []) ++ told) ≤ length (if can then unit ∷ filter is_can units else filter is_can units)
unit_fewer unit told units true true is can few = more_of (length told) (length (filter is_can units)) few
unit_fewer unit told units true false is can few = absurd (let yes = can_is unit is in let bad : true ≡ false = sym yes ∙ can in cc)
unit_fewer unit told units false true is can few = later_of (length told) (length (filter is_can units)) few
unit_fewer unit told units false false is can few = few

fewer : (past : List Entry) → length (shown collided_at past) ≤ cans past
fewer [] = omega arith
fewer (Written Chip unit ∷ past) = unit_fewer unit (shown collided_at past) (written Chip past) (bytes_eq unit (CAN ∷ [])) (is_can unit) refl refl (fewer past)
fewer (Written Host unit ∷ past) = fewer past
fewer (e ∷ past) = fewer past

collide_same : (line : Line) → collide_of line ≡ collision_of line
collide_same lines.Collide = refl
collide_same line = refl

all_asked : (l : List Line) → flat_map collide_of l ≡ flat_map collision_of l
all_asked [] = refl
all_asked (line ∷ l) = ap₂ (λ (a b : List Line). a ++ b) (collide_same line) (all_asked l)

-- where all that were asked for have come, the link has none to make
pub none_collides : (past : List Entry) (left : ℕ) → cans past + (left + 0) ≡ collisions past → are_used_up collide_of collided_at past ≡ true → left ≡ 0
none_collides past left ties used =
    by (cans past) (collisions past) (length (shown collided_at past)) ties (fewer past)
    (sym (ap length (all_asked (lines_run past))) ∙ eqb-true (length (flat_map collide_of (lines_run past))) (length (shown collided_at past)) used)
  where
    by : (cans asked told : ℕ) → cans + (left + 0) ≡ asked → told ≤ cans → asked ≡ told → left ≡ 0
    by cans asked told ties few same = omega (arith, ties, few, same)
