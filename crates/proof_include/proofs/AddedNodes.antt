-- The line `add` and then lines that are ticks alone, as the transcript shows them.
use Rattle.std.proofs.Common.{◌≡◌, ℕ, ◌+◌, ◌≤◌, Bool, true, false, cond, Option, Some, None, IsSome, List, [], ◌∷◌, ◌++◌, refl, ap, sym, subst, ◌∙◌}
use Rattle.std.specs.List.{AllByRecursion}
use Rattle.inclusion.specs.declared.exchange.Exchange.{Exchange}
use Rattle.inclusion.specs.Including.{is_secure}
use Rattle.include_text.specs.declared.line.IncludeLine.{IncludeLine}
use Rattle.include_text.specs.declared.line.IncludeLine.TheVariants.{Add, Reset, Lose, Repeat, Tick}
use Rattle.include_text.specs.declared.entry.IncludeEntry.{IncludeEntry}
use Rattle.include_text.specs.declared.entry.IncludeEntry.TheVariants.{Said}
use Rattle.include_text.specs.declared.entry.IncludeRefusal.TheVariants.{Secure as HostSecure}
use Rattle.include_world.specs.World.{WorldState, Doing, IncludeEvent, Says, AllDrawn, adds, after_all, begins, does, entries_all, joiner_of, refused}
use Rattle.include_world.specs.Line.{IsLine, IsTicks}
use Rattle.include_world.specs.Added.{IsSecure, last_word}
use Rattle.proof_include.specs.Ending.{Accepts, AddsAndTicks}
use Rattle.include_world.proofs.DoneEvents.{AllDrawn-append, after_all-append}
use Rattle.include_world.proofs.Events.{added, holds_all, secure_said}
use Rattle.proof_include.proofs.Ticking.{drawn_prefix, drawn_rest}
use Rattle.proof_include.specs.Adding.{Adds, IsAccepted, IsTickLine, ticks_asked}
use Rattle.proof_include.specs.Lines.{AreLines, CameTo}
use Rattle.proof_include.proofs.Lines.{came_holds, came_stands, ends_in}
use Rattle.proof_include.proofs.Marks.{marks_are}
use Rattle.proof_include.proofs.TickParts.{join_ticks}

-- ---- lines that are ticks alone make the world what their ticks make it

record Merged (k : ℕ) (w : WorldState) (events : List IncludeEvent) : Type 0 where
  rest : List IncludeEvent
  ticks : IsTicks k w rest
  drawn : AllDrawn rest
  same : after_all w events ≡ after_all w rest

tick_same : (w : WorldState) (k : ℕ) (drawn : List ℕ) → (does w (Says (Tick k) drawn)).world ≡ w
unfolding does
tick_same w k drawn = refl

line_merges : (k : ℕ) (w : WorldState) (events : List IncludeEvent) → IsLine (Tick k) w events → AllDrawn events → Merged k w events
line_merges k w events l drawn =
    let both : AllDrawn (Says (Tick k) l.drawn ∷ l.rest) = subst (λ (es : List IncludeEvent). AllDrawn es) l.are drawn in
    record {
      rest = l.rest;
      ticks = subst (λ (v : WorldState). IsTicks k v l.rest) (tick_same w k l.drawn) l.ticks;
      drawn = both.1;
      same = ap (λ (es : List IncludeEvent). after_all w es) l.are ∙ ap (λ (v : WorldState). after_all v l.rest) (tick_same w k l.drawn);
    }

both_merge : (a b : ℕ) (w : WorldState) (first rest : List IncludeEvent) → Merged a w first → Merged b (after_all w first) rest → Merged (a + b) w (first ++ rest)
both_merge a b w first rest m n = record {
  rest = m.rest ++ n.rest;
  ticks = join_ticks a b w m.rest n.rest m.ticks (subst (λ (v : WorldState). IsTicks b v n.rest) m.same n.ticks);
  drawn = AllDrawn-append m.rest n.rest m.drawn n.drawn;
  same = after_all-append w first rest ∙ (n.same ∙ (ap (λ (v : WorldState). after_all v n.rest) m.same ∙ sym (after_all-append w m.rest n.rest)));
}

lines_merge : (lines : List IncludeLine) (w : WorldState) (events : List IncludeEvent) → AllByRecursion IsTickLine lines → AreLines lines w events → AllDrawn events → Merged (ticks_asked lines) w events
lines_merge [] w events only none drawn = record { rest = []; ticks = refl; drawn = tt; same = ap (λ (es : List IncludeEvent). after_all w es) none }
lines_merge (Tick k ∷ lines) w events only l drawn =
    let both : AllDrawn (l.0 ++ l.1) = subst (λ (es : List IncludeEvent). AllDrawn es) l.2 drawn in
    subst (λ (es : List IncludeEvent). Merged (k + ticks_asked lines) w es) (sym l.2)
    (both_merge k (ticks_asked lines) w l.0 l.1 (line_merges k w l.0 l.3 (drawn_prefix l.0 l.1 both)) (lines_merge lines (after_all w l.0) l.1 only.1 l.4 (drawn_rest l.0 l.1 both)))
lines_merge (Add node ∷ lines) w events only l drawn = absurd only.0
lines_merge (Reset node ∷ lines) w events only l drawn = absurd only.0
lines_merge (Lose count ∷ lines) w events only l drawn = absurd only.0
lines_merge (Repeat number ∷ lines) w events only l drawn = absurd only.0

-- ---- an `add` that is not refused

abbrev Free : WorldState → ℕ → Type 0
Free w node = (w.includer.exchange ≡ None) × (is_secure w.includer node ≡ false)

insecure : (w : WorldState) (node : ℕ) (later : List IncludeEntry) (b : Bool)
    → IsAccepted (Said (Add node) ∷ ((let d : Doing = cond b (refused w HostSecure) (begins w node) in d).entries ++ later)) → b ≡ false
insecure w node later true ok = absurd ok
insecure w node later false ok = refl

free_by : (w : WorldState) (node : ℕ) (later : List IncludeEntry) (o : Option Exchange) → w.includer.exchange ≡ o → IsAccepted (Said (Add node) ∷ ((adds w node o).entries ++ later)) → Free w node
free_by w node later (Some exchange) is ok = absurd ok
free_by w node later None is ok = (is, insecure w node later (is_secure w.includer node) ok)

accepted_is : (w : WorldState) (node : ℕ) (drawn : List ℕ) (more : List IncludeEvent) → IsAccepted (entries_all w (Says (Add node) drawn ∷ more)) → Free w node
unfolding does
accepted_is w node drawn more ok = free_by w node _ w.includer.exchange refl ok

-- ---- the law

none_is : (o : Option (List ℕ)) → (IsSome o → ⊥) → o ≡ None
none_is None never = refl
none_is (Some key) never = absurd (never refl)

added_by : (key : List ℕ) (T : List IncludeEntry) (w : WorldState) → CameTo key T w → (node : ℕ) → 1 ≤ node → node ≤ 232 → (ticks : List IncludeLine) (drawn : List ℕ) (more : List IncludeEvent)
    → AreLines ticks (does w (Says (Add node) drawn)).world more → AllDrawn (Says (Add node) drawn ∷ more) → Adds node ticks T (entries_all w (Says (Add node) drawn ∷ more))
    → last_word node (T ++ entries_all w (Says (Add node) drawn ∷ more)) ≡ Some IsSecure
added_by key T w c node from to ticks drawn more lines all_drawn a =
    let at = added key T w c.reached node from to in
    let none : (joiner_of w node).key ≡ None = none_is (joiner_of w node).key (λ some. a.keyless (at.taken some)) in
    let free = accepted_is w node drawn more a.accepted in
    let accepts : Accepts node w = record { idle = free.0; insecure = free.1; unmarked = marks_are key T w c.reached ∙ a.unmarked } in
    let m = lines_merge ticks (does w (Says (Add node) drawn)).world more a.only_ticks lines all_drawn.1 in
    let merged : AddsAndTicks node (ticks_asked ticks) w (Says (Add node) drawn ∷ m.rest)
    = record { drawn = drawn; rest = m.rest; are = refl; ticking = m.ticks; all_drawn = (all_drawn.0, m.drawn) } in
    let secure = ends_in key w node (ticks_asked ticks) (came_stands key T w c node from to) none accepts a.enough (Says (Add node) drawn ∷ m.rest) merged in
    let all = holds_all key node T w (Says (Add node) drawn ∷ more) all_drawn (came_holds key T w c node from to) in
    secure_said (last_word node (T ++ entries_all w (Says (Add node) drawn ∷ more))) (all.counted ∙ (ap (λ (v : WorldState). is_secure v.includer node) m.same ∙ secure))

pub added_ends : (key : List ℕ) (T : List IncludeEntry) (w : WorldState) → CameTo key T w → (node : ℕ) → 1 ≤ node → node ≤ 232 → (ticks : List IncludeLine) (events : List IncludeEvent)
    → AreLines (Add node ∷ ticks) w events → AllDrawn events → Adds node ticks T (entries_all w events) → last_word node (T ++ entries_all w events) ≡ Some IsSecure
added_ends key T w c node from to ticks events l drawn a =
    let one : l.0 ≡ Says (Add node) l.3.drawn ∷ [] = l.3.are ∙ ap (λ (r : List IncludeEvent). Says (Add node) l.3.drawn ∷ r) l.3.ticks in
    let are : events ≡ Says (Add node) l.3.drawn ∷ l.1 = l.2 ∙ ap (λ (es : List IncludeEvent). es ++ l.1) one in
    subst (λ (es : List IncludeEvent). last_word node (T ++ entries_all w es) ≡ Some IsSecure) (sym are)
    (added_by key T w c node from to ticks l.3.drawn l.1
    (subst (λ (es : List IncludeEvent). AreLines ticks (after_all w es) l.1) one l.4)
    (subst (λ (es : List IncludeEvent). AllDrawn es) are drawn)
    (subst (λ (es : List IncludeEvent). Adds node ticks T (entries_all w es)) are a))
