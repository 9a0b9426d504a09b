-- Worlds that lines lead to, and an exchange that begins in one of them.
use Rattle.std.proofs.Common.{◌≡◌, ℕ, suc, ◌+◌, ◌-◌, ◌<◌, ◌≤◌, Bool, true, cond, Some, None, List, [], ◌∷◌, ◌++◌, length, refl, ap, sym, subst, ◌∙◌, inl, inr, append_assoc, arith}
use Rattle.std.proofs.lemmas.List.{get_or-replicate, length-replicate, append-nil}
use Rattle.std.proofs.lemmas.List.FromFn.{get_or-map-range_with_len}
use Rattle.std.proofs.lemmas.Bool.{ne_eqb}
use Rattle.s0_session.specs.declared.account.Account.{Account}
use Rattle.s0_session.specs.Nonces.{account_of, unused}
use Rattle.inclusion.specs.Messages.{scheme_get}
use Rattle.inclusion.specs.Joining.{Joining, fresh_joiner}
use Rattle.inclusion.specs.Including.{is_secure, fresh_includer}
use Rattle.include_text.specs.declared.line.IncludeLine.{IncludeLine}
use Rattle.include_text.specs.declared.line.IncludeLine.TheVariants.{Add}
use Rattle.include_text.specs.declared.entry.IncludeEntry.{IncludeEntry}
use Rattle.include_world.specs.declared.flight.Pair.{Pair}
use Rattle.air_frames.specs.declared.frame.Heading.TheVariants.{Outward}
use Rattle.include_world.specs.Air.{AirState, pair_of, departing, first_air, no_counts}
use Rattle.include_world.specs.World.{WorldState, IncludeEvent, Says, does, joiner_of, first_world, first_joiner, after_all, entries_all, AllDrawn, Did}
use Rattle.include_world.specs.Line.{IsLine, IsTicks}
use Rattle.include_world.specs.Added.{IsSecure, last_word}
use Rattle.proof_include.specs.Ending.{Accepts, AddsAndTicks}
use Rattle.include_world.proofs.DoneEvents.{after_all-append, entries_all-append, AllDrawn-append, says_sent}
use Rattle.include_world.proofs.Sending.{departing_grows}
use Rattle.include_world.proofs.Events.{Holds, holds_all, first_holds, secure_said}
use Rattle.proof_include.proofs.HostShows.{seen_of}
use Rattle.proof_include.proofs.NearFacts.{Way}
use Rattle.proof_include.proofs.ShowFacts.{Ready}
use Rattle.proof_include.proofs.Stages.{SchemeAsked}
use Rattle.proof_include.proofs.ExchangeSteps.{Going}
use Rattle.proof_include.proofs.Ticking.{Ahead, Calm, drawn_prefix, drawn_rest, ticks_end}
use Rattle.proof_include.proofs.Starting.{begins_going, added_is, begins_calm}
use Rattle.proof_include.specs.Lines.{AreLines, CameTo}
use Rattle.proof_include.proofs.Numbers.{LastIs}
use Rattle.proof_include.proofs.TickParts.{split_ticks, ticks_less}
use Rattle.proof_include.proofs.Ticks.{Stands, stands_says, lines_stand, ticks}

-- ---- lines

pub came_first : (key : List ℕ) → length key ≡ 16 → CameTo key [] (first_world key)
came_first key sixteen = record { reached = record { events = []; sixteen = sixteen; drawn = tt; state = refl; entries = refl }; lines = []; are = refl }

lines_more : (lines : List IncludeLine) (w : WorldState) (before : List IncludeEvent) (line : IncludeLine) (events : List IncludeEvent) → AreLines lines w before → IsLine line (after_all w before) events
    → AreLines (lines ++ line ∷ []) w (before ++ events)
lines_more [] w before line events none is = (
  events,
  [],
  ap (λ (es : List IncludeEvent). es ++ events) none ∙ sym (append-nil events),
  subst (λ (es : List IncludeEvent). IsLine line (after_all w es) events) none is,
  refl,
)
lines_more (first ∷ lines) w before line events l is = (
  l.0,
  l.1 ++ events,
  ap (λ (es : List IncludeEvent). es ++ events) l.2 ∙ append_assoc l.0 l.1 events,
  l.3,
  lines_more lines (after_all w l.0) l.1 line events l.4
      (subst (λ (x : WorldState). IsLine line x events) (ap (λ (es : List IncludeEvent). after_all w es) l.2 ∙ after_all-append w l.0 l.1) is),
)

pub came_more : (key : List ℕ) (T entries : List IncludeEntry) (old new : WorldState) (line : IncludeLine) (events : List IncludeEvent) → CameTo key T old → IsLine line old events → Did events old new [] entries
    → CameTo key (T ++ entries) new
came_more key T entries old new line events c is d =
    let r = c.reached in
    record {
      reached = record {
        events = r.events ++ events;
        sixteen = r.sixteen;
        drawn = AllDrawn-append r.events events r.drawn d.drawn;
        state = d.state ∙ (ap (λ (w : WorldState). after_all w events) r.state ∙ sym (after_all-append (first_world key) r.events events));
        entries = ap (λ l. T ++ l) d.entries ∙ (ap (λ l. l ++ entries_all old events) r.entries
            ∙ (ap (λ (w : WorldState). entries_all (first_world key) r.events ++ entries_all w events) r.state ∙ sym (entries_all-append (first_world key) r.events events)));
      };
      lines = c.lines ++ line ∷ [];
      are = lines_more c.lines (first_world key) r.events line events c.are (subst (λ (w : WorldState). IsLine line w events) r.state is);
    }

-- ---- nothing has happened

first_stands : (key : List ℕ) (node : ℕ) → length key ≡ 16 → 1 ≤ node → node ≤ 232 → Stands key node (first_world key)
unfolding first_world fresh_includer first_air
first_stands key node sixteen from to =
    let within : node < 233 = omega (arith, to) in
    let made : joiner_of (first_world key) node ≡ fresh_joiner node
    = get_or-map-range_with_len first_joiner 0 233 node node (fresh_joiner 1) within (omega arith) ∙ ap (λ (b : Bool). fresh_joiner (cond b 1 node)) (ne_eqb node 0 (λ e. omega (arith, e, from))) in
    let account : account_of (first_world key).includer.book node ≡ unused = get_or-replicate 233 node unused unused within in
    let seen : seen_of (first_world key).includer node ≡ 0 = get_or-replicate 233 node 0 0 within in
    let pair : pair_of (first_world key).air node ≡ no_counts = get_or-replicate 233 node no_counts no_counts within in
    let way : Way unused 0 = record { within = omega arith; ahead = omega arith; alive = omega arith } in
    let home : Way unused (seen_of (first_world key).includer node) = subst (λ (n : ℕ). Way unused n) (sym seen) way in
    record {
      sound = record {
        fact = (first_holds key node sixteen from to).fact;
        near = record {
          books = omega (arith, within, length-replicate 233 unused);
          seens = omega (arith, within, length-replicate {A = ℕ} 233 0);
          ready = subst (λ (j : Joining). Ready key node (seen_of (first_world key).includer node) (is_secure (first_world key).includer node) j (account_of (first_world key).includer.book node)) (sym made)
              (record { ends = refl; waiting = refl; sent = λ e. refl; out = subst (λ (a : Account). Way a 0) (sym account) way; home = λ e. home });
          counting = tt;
          frames = λ i there is_node kept. absurd (omega arith);
          forgotten = subst (λ (p : Pair). p.forgotten ≤ 0) (sym pair) (omega arith);
        };
        exact = record {
          way = subst (λ (j : Joining). Way j.given (seen_of (first_world key).includer node)) (sym made) home;
          air = record {
            last = subst (λ (p : Pair). LastIs (joiner_of (first_world key) node).given.given p.nonces.homeward) (sym pair) tt;
            flights = λ i there is_node kept. absurd (omega arith);
          };
        };
      };
      sent = omega arith;
    }

-- ---- an exchange begins

begun_landed : (air : AirState) (node : ℕ) → air.landed ≤ length air.frames → (departing air node Outward scheme_get).landed ≤ length air.frames
begun_landed air node h = let grows = departing_grows air node Outward scheme_get in omega (arith, grows.landed, h)

-- eight ticks end it, and it stays ended
secure_after : (key : List ℕ) (node k : ℕ) (w : WorldState) (events : List IncludeEvent) → Stands key node w → Calm key node w → Ahead node 100 8 w → 8 ≤ k → IsTicks k w events → AllDrawn events
    → is_secure (after_all w events).includer node ≡ true
secure_after key node k w events s calm ahead enough ts drawn =
    let parts = split_ticks 8 (k - 8) w events (subst (λ (n : ℕ). IsTicks n w events) (let same : k ≡ 8 + (k - 8) = omega (arith, enough) in same) ts) in
    let both : AllDrawn (parts.first ++ parts.rest) = subst (λ (es : List IncludeEvent). AllDrawn es) parts.are drawn in
    let first_drawn = drawn_prefix parts.first parts.rest both in
    let stood = ticks key node 8 w parts.first parts.ticks first_drawn s in
    let secure = ticks_end key node 100 8 w parts.first parts.ticks first_drawn (omega arith) calm ahead in
    let less = ticks_less 8 w parts.first parts.ticks in
    let calm_then : Calm key node (after_all w parts.first) = record {
      fact = stood.sound.fact;
      near = stood.sound.near;
      calm = omega (arith, less, calm.calm);
      within = stood.sent;
    } in
    ap (λ (v : WorldState). is_secure v.includer node) (ap (λ (es : List IncludeEvent). after_all w es) parts.are ∙ after_all-append w parts.first parts.rest)
    ∙ ticks_end key node (suc (k - 8)) (k - 8) (after_all w parts.first) parts.rest parts.more (drawn_rest parts.first parts.rest both) (omega arith) calm_then (inl secure)

pub ends_in : (key : List ℕ) (w : WorldState) (node k : ℕ) → Stands key node w → (joiner_of w node).key ≡ None → Accepts node w → 8 ≤ k → (events : List IncludeEvent) → AddsAndTicks node k w events
    → is_secure (after_all w events).includer node ≡ true
ends_in key w node k s none a enough events t =
    let drawn : AllDrawn (Says (Add node) t.drawn ∷ t.rest) = subst (λ (es : List IncludeEvent). AllDrawn es) t.are t.all_drawn in
    let begun = added_is w node t.drawn a in
    let next = stands_says key node w (Add node) t.drawn drawn.0 s in
    let calm : Calm key node (does w (Says (Add node) t.drawn)).world = record {
      fact = next.sound.fact;
      near = next.sound.near;
      calm = ap (λ (v : WorldState). v.air.losing) begun ∙ begins_calm w.air node a.unmarked;
      within = says_sent w (Add node) t.drawn s.sent;
    } in
    let flies : (does w (Says (Add node) t.drawn)).world.air.landed ≤ length w.air.frames = subst (λ (v : WorldState). v.air.landed ≤ length w.air.frames) (sym begun) (begun_landed w.air node s.sent) in
    let going : Going node 100 SchemeAsked (length w.air.frames) (does w (Says (Add node) t.drawn)).world
    = subst (λ (v : WorldState). Going node 100 SchemeAsked (length w.air.frames) v) (sym begun) (begins_going key node w s.sound.near none a.unmarked) in
    ap (λ (es : List IncludeEvent). is_secure (after_all w es).includer node) t.are
    ∙ secure_after key node k (does w (Says (Add node) t.drawn)).world t.rest next calm (inr (SchemeAsked, length w.air.frames, going, flies, omega arith)) enough t.ticking drawn.1

-- ---- what holds in a world that lines lead to

pub came_stands : (key : List ℕ) (T : List IncludeEntry) (w : WorldState) → CameTo key T w → (node : ℕ) → 1 ≤ node → node ≤ 232 → Stands key node w
came_stands key T w c node from to =
    let r = c.reached in
    subst (λ (v : WorldState). Stands key node v) (sym r.state) (lines_stand key node c.lines (first_world key) r.events c.are r.drawn (first_stands key node r.sixteen from to))

pub came_holds : (key : List ℕ) (T : List IncludeEntry) (w : WorldState) → CameTo key T w → (node : ℕ) → 1 ≤ node → node ≤ 232 → Holds key node T w
came_holds key T w c node from to =
    let r = c.reached in
    let start = first_holds key node r.sixteen from to in
    subst (λ (U : List IncludeEntry). Holds key node U w) (sym r.entries)
    (subst (λ (v : WorldState). Holds key node (entries_all (first_world key) r.events) v) (sym r.state) (holds_all key node [] (first_world key) r.events r.drawn start))

pub ends_for_each : (key : List ℕ) (T : List IncludeEntry) (w : WorldState) → CameTo key T w → (node : ℕ) → 1 ≤ node → node ≤ 232 → (joiner_of w node).key ≡ None → Accepts node w
    → (ticks : ℕ) → 8 ≤ ticks → (events : List IncludeEvent) → AddsAndTicks node ticks w events → last_word node (T ++ entries_all w events) ≡ Some IsSecure
ends_for_each key T w c node from to none a ticks enough events t =
    let all = holds_all key node T w events t.all_drawn (came_holds key T w c node from to) in
    secure_said (last_word node (T ++ entries_all w events)) (all.counted ∙ ends_in key w node ticks (came_stands key T w c node from to) none a enough events t)
