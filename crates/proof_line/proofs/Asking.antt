-- A line that asks for a collision is counted with its words, and the link learns of it by the line's event; everything else keeps the count.
use Rattle.std.proofs.Common.{◌≡◌, ℕ, ◌+◌, ◌&&◌, not, Bool, true, false, if◌then◌else◌, List, [], ◌∷◌, ◌++◌, length, inl, inr, sym, ap, ◌∙◌, subst, append-nil, arith}
use Rattle.std.specs.List.{flat_map, AllByRecursion}
use Rattle.zw_text.specs.declared.line.Line.{Line}
use Rattle.zw_text.specs.declared.line.Line.TheVariants as lines
use Rattle.zw_text.specs.declared.entry.Entry.{Entry}
use Rattle.zw_text.specs.declared.entry.Entry.TheVariants as entry
use Rattle.zw_text.specs.Transcript.{line_of}
use Rattle.law_wire.specs.law_transcript.Lists.{EachAfter}
use Rattle.law_wire.specs.Marks.{collision_of, collisions, cans, MayCollide}
use Rattle.proof_walk.specs.outside_model.State.{OuterState}
use Rattle.proof_walk.specs.outside_model.Events.{OuterEvent, Begins_line, Collides_next, outcome, devices_after, ticked_entry, is_own}
use Rattle.proof_walk.specs.world_model.State.{Machine}
use Rattle.proof_walk.specs.world_model.Events.{Event, Outside_does, happens, entries, May}
use Rattle.proof_walk.specs.world_model.Lines.{IsEffect}
use Rattle.proof_walk.specs.Phases.{Between}
use Rattle.proof_walk.specs.Walk.{Walk}
use Rattle.proof_walk.specs.ByLine.{IsOfTick, CoversLine, ByLine}
use Rattle.proof_walk.specs.Outside.{CoversOuter}
use Rattle.proof_walk.proofs.Linking.{of_link}
use Rattle.proof_walk.proofs.Machines.{machine_keeps}
use Rattle.proof_walk.proofs.ByLine.{effect_covered, common_covered, walk_of}
use Rattle.proof_line.specs.Collisions.{link_collisions, Tie, KnownTie, asked_by, IsNoCollision, Asked, Left, Counted, KnowCollisions}
use Rattle.proof_line.proofs.Counting.{cans_grow, collisions_grow}
use Rattle.proof_line.proofs.Colliding.{counts}

-- ---- the words of a line

said_counts : (c n k k' line : ℕ) → k' ≡ k + line → c + (n + 0) ≡ k → c + (n + line) ≡ k'
said_counts c n k k' line asked ties = omega arith

words_counted : (past : List Entry) (words : List ℕ) (line : Line) → line_of (entry.Said words) ≡ line ∷ []
    → (cans (past ++ entry.Said words ∷ []) ≡ cans past) × (collisions (past ++ entry.Said words ∷ []) ≡ collisions past + asked_by line)
words_counted past words line read = (
  cans_grow past (entry.Said words ∷ []) ∙ plus_none (cans past),
  collisions_grow past (entry.Said words ∷ [])
      ∙ ap (λ (l : List Line). collisions past + length (flat_map collision_of (l ++ []))) read ∙ ap (λ (l : List Line). collisions past + length l) (append-nil (collision_of line)),
)
  where
    plus_none : (n : ℕ) → n + 0 ≡ n
    plus_none n = omega arith

-- a tick may stand anywhere
number_stands : (past : List Entry) (o : OuterState) → EachAfter MayCollide past (ticked_entry o)
number_stands past o = by (o.in_tick && not o.stamped)
  where
    by : (b : Bool) → EachAfter MayCollide past (if b then entry.Time o.clock ∷ [] else [])
    by true = (tt, tt)
    by false = tt

said : (past : List Entry) (m : Machine) (words : List ℕ) (line : Line) → line_of (entry.Said words) ≡ line ∷ [] → Counted past m
    → MayCollide past (entry.Said words) × Asked line (past ++ entry.Said words ∷ []) m
said past m words line read known =
    let counted = words_counted past words line read in
    let n : ℕ = link_collisions m.outside.outer in
    let later : List Entry = past ++ entry.Said words ∷ [] in
    let now : cans past + (n + asked_by line) ≡ collisions later = said_counts (cans past) n (collisions past) (collisions later) (asked_by line) counted.1 known.0 in
    (tt, (subst (λ (c : ℕ). c + (n + asked_by line) ≡ collisions later) (sym counted.0) now, number_stands later m.outside.outer))

-- ---- which events a line has

-- a line that asks for no collision
abbrev IsOther : Line → Type 0
IsOther lines.Collide = ⊥
IsOther line = Unit {0}

covers_line : (line : Line) → IsOther line → CoversLine IsNoCollision line
covers_line lines.Collide other = absurd other
covers_line (lines.Repeat frame) other = λ drawn route. tt
covers_line (lines.Wake node) other = λ route. tt
covers_line (lines.Local node value) other = λ route. tt
covers_line lines.Restart other = (tt, tt)
covers_line line other = tt

doing : (line : Line) (past : List Entry) (m : Machine) (events : List Event) → IsEffect line m events → Asked line past m → Left line events past m
doing lines.Collide past m events is known = inl (is, known)
doing line past m events is known = inr (effect_covered IsNoCollision line m events (covers_line line tt) is, known)

-- ---- an event

hosts : (event : OuterEvent) → is_own event ≡ false → IsNoCollision event
hosts Collides_next own = absurd (not_own own)
  where
    not_own : true ≡ false → ⊥
    not_own is = cc
hosts event own = tt

kept : (past : List Entry) (m : Machine) (event : Event) → CoversOuter IsNoCollision event → May m event → KnownTie 0 past m.outside
    → EachAfter MayCollide past (entries m event) × KnownTie 0 (past ++ entries m event) (happens m event).outside
kept past m event covers may known =
    machine_keeps MayCollide (λ pending. Tie 0) IsNoCollision (of_link MayCollide (Tie 0) IsNoCollision counts) hosts m event covers may past known

-- the line begins
begins : (extra : ℕ) (past : List Entry) (m : Machine) → KnownTie extra past m.outside
    → EachAfter MayCollide past (entries m (Outside_does Begins_line)) × KnownTie extra (past ++ entries m (Outside_does Begins_line)) (happens m (Outside_does Begins_line)).outside
unfolding happens entries outcome devices_after
begins extra past m known =
    (tt, (subst (λ (l : List Entry). Tie extra false l (happens m (Outside_does Begins_line)).outside) (sym (append-nil past)) known.0, tt))

-- the link learns of the collision
link_counts : (c n k : ℕ) → c + (n + 1) ≡ k → c + ((n + 1) + 0) ≡ k
link_counts c n k ties = omega arith

collides : (past : List Entry) (m : Machine) → KnownTie 1 past m.outside
    → EachAfter MayCollide past (entries m (Outside_does Collides_next)) × KnownTie 0 (past ++ entries m (Outside_does Collides_next)) (happens m (Outside_does Collides_next)).outside
unfolding happens entries outcome devices_after
collides past m known = (
  tt,
  (
    subst (λ (l : List Entry). Tie 0 false l (happens m (Outside_does Collides_next)).outside) (sym (append-nil past)) (link_counts (cans past) (link_collisions m.outside.outer) (collisions past) known.0),
    number_stands (past ++ []) (happens m (Outside_does Collides_next)).outside.outer,
  ),
)

-- the next event of the line's effect
does : (line : Line) (first : Event) (left : List Event) (past : List Entry) (m : Machine) → May m first → Left line (first ∷ left) past m
    → EachAfter MayCollide past (entries m first) × Left line left (past ++ entries m first) (happens m first)
does line first left past m may (inl (is, known)) =
    let head : first ≡ Outside_does Collides_next = cc in
    let tail : left ≡ [] = cc in
    let got = collides past m known in
    subst (λ (e : Event). EachAfter MayCollide past (entries m e) × Left line left (past ++ entries m e) (happens m e)) (sym head)
    (got.0, inr (subst (λ (l : List Event). AllByRecursion (CoversOuter IsNoCollision) l) (sym tail) tt, got.1))
does line first left past m may (inr (none, known)) = let got = kept past m first none.0 may known in (got.0, inr (none.1, got.1))

done : (line : Line) (past : List Entry) (m : Machine) → Left line [] past m → Counted past m
done line past m (inl (is, known)) = absurd cc
done line past m (inr (none, known)) = known

of_tick : (event : OuterEvent) → IsOfTick event → IsNoCollision event
of_tick Collides_next tick = absurd tick
of_tick event tick = tt

-- ---- lines

by_lines : ByLine MayCollide Asked Asked Left Counted
by_lines = record {
  said = said;
  in_line = record {
    begins = λ line past m known. begins (asked_by line) past m known;
    effect = doing;
    does = does;
    done = done;
    ticks = λ count past m known. known;
    common = λ past m event common may known. kept past m event (common_covered IsNoCollision of_tick event common) may known;
  };
}

none_yet : (n : ℕ) → n ≡ 0 → 0 + (n + 0) ≡ 0
none_yet n none = omega arith

pub collision_walk : Walk MayCollide KnowCollisions
collision_walk = walk_of MayCollide Asked Asked Left Counted by_lines

pub collisions_first : (m : Machine) → link_collisions m.outside.outer ≡ 0 → KnowCollisions Between [] m
collisions_first m none = (none_yet (link_collisions m.outside.outer) none, number_stands [] m.outside.outer)
