-- After the words of a line: what is known then, of a line that sets no network at once, and which events its effect has.
use Rattle.std.proofs.Common.{◌≡◌, ◌≤◌, ℕ, ◌==◌, ◌&&◌, not, Bool, true, false, if◌then◌else◌, List, [], ◌∷◌, ◌++◌, refl, sym, ap, subst, ◌∙◌, inl, inr, append_assoc, append-nil}
use Rattle.std.specs.List.{list_any}
use Rattle.route_table.specs.Network.{Link}
use Rattle.device_sim.specs.State.{State}
use Rattle.zw_text.specs.declared.line.Line.{Line}
use Rattle.zw_text.specs.declared.line.Line.TheVariants as lines
use Rattle.zw_text.specs.declared.entry.Entry.{Entry}
use Rattle.zw_text.specs.declared.entry.Entry.TheVariants as entry
use Rattle.zw_text.specs.Transcript.{line_of, joined}
use Rattle.law_wire.specs.law_transcript.Lists.{EachAfter}
use Rattle.law_wire.specs.law_transcript.Nodes.{is_joined}
use Rattle.law_wire.specs.Networks.{links_after, air_links, chip_links, table_by}
use Rattle.law_wire.specs.Routes.{MayGo}
use Rattle.outside_model.specs.State.{OuterState}
use Rattle.outside_model.specs.Events.{OuterEvent, Begins_line, Joins, Discovers, Links, is_own, outcome, devices_after, ticked_entry}
use Rattle.proof_walk.specs.world_model.State.{Machine}
use Rattle.proof_walk.specs.world_model.Events.{Event, Outside_does, happens, entries}
use Rattle.proof_walk.specs.world_model.Lines.{IsEffect}
use Rattle.proof_walk.specs.proof_device.GoingOn.{GoOn}
use Rattle.proof_walk.specs.ByLine.{IsOfTick, CoversLine}
use Rattle.proof_walk.proofs.ByLine.{effect_covered, last_is}
use Rattle.proof_walk.proofs.Alone.{wordless_line}
use Rattle.proof_routes.specs.Networks.{Tie}
use Rattle.proof_routes.specs.Knowing.{joins_in, Asks, NoJoin, SetsNone, HasDevices, Settled, Else, Saying, Opened, IsPlain, Left}
use Rattle.proof_routes.proofs.Books.{air_grows, chip_grows, joined_grows, SameShown, same_back, same_joined, still_shown, still_last}
use Rattle.proof_routes.proofs.Ties.{tie_shown, same_nets, tie_nets}
use Rattle.proof_routes.proofs.Remembering.{remembers_shown, remembers_same}

-- ---- entries without words

asked_joined : (devices : List State) (past es : List Entry) → EachAfter (Asks devices) past es → NoJoin past → joined (past ++ es) ≡ joined past
asked_joined devices past [] asked none = ap joined (append-nil past)
asked_joined devices past (e ∷ es) asked none =
    let silent = wordless_line e asked.0.1 in
    ap joined (sym (append_assoc past (e ∷ []) es))
    ∙ (asked_joined devices (past ++ e ∷ []) es asked.1 (still_last past e silent)
    ∙ (joined_grows past e (inr none) ∙ (ap (λ (l : List Line). joined past ++ joins_in l) silent ∙ append-nil (joined past))))

pub asked_nodes : (devices : List State) (past es : List Entry) → EachAfter (Asks devices) past es → NoJoin past → (node : ℕ) → is_joined (past ++ es) node ≡ is_joined past node
asked_nodes devices past es asked none node = ap (λ (l : List ℕ). list_any (λ one. one == node) l) (asked_joined devices past es asked none)

pub asked_go : (devices : List State) (past es : List Entry) → EachAfter (Asks devices) past es → EachAfter (MayGo devices) past es
asked_go devices past [] asked = tt
asked_go devices past (e ∷ es) asked = (asked.0.0, asked_go devices (past ++ e ∷ []) es asked.1)

-- ---- which events set no network

covers_line : (line : Line) → IsPlain line → CoversLine SetsNone line
covers_line (lines.Join node) plain = absurd plain
covers_line (lines.Link a b) plain = absurd plain
covers_line (lines.Unlink a b) plain = absurd plain
covers_line lines.Discover plain = absurd plain
covers_line (lines.Repeat frame) plain = λ drawn route. tt
covers_line (lines.Wake node) plain = λ route. tt
covers_line (lines.Local node value) plain = λ route. tt
covers_line lines.Restart plain = (tt, tt)
covers_line line plain = tt

pub hosts : (event : OuterEvent) → is_own event ≡ false → SetsNone event
hosts (Joins node) own = absurd (let bad : true ≡ false = own in cc)
hosts Discovers own = absurd (let bad : true ≡ false = own in cc)
hosts (Links a b live) own = absurd (let bad : true ≡ false = own in cc)
hosts event own = tt

pub of_tick : (event : OuterEvent) → IsOfTick event → SetsNone event
of_tick (Joins node) tick = absurd tick
of_tick Discovers tick = absurd tick
of_tick (Links a b live) tick = absurd tick
of_tick event tick = tt

-- ---- the words of a line

module _ (devices : List State) where
  -- behind them what was known goes on as if something stood between
  pub tie_of : (past : List Entry) (m : Machine) → Else devices past m → Tie devices past m.outside
  tie_of past m (inl settled) = settled.0.0.0
  tie_of past m (inr joined) = tie_shown devices (past ++ entry.Asleep 0 ∷ []) past m.outside (still_shown past (entry.Asleep 0) tt (inl refl)) joined.settled.0.0.0

  others_of : (past : List Entry) (m : Machine) → Else devices past m → HasDevices devices past m
  others_of past m (inl settled) = settled.1
  others_of past m (inr joined) = (
    remembers_shown (past ++ entry.Asleep 0 ∷ []) past m (λ node. sym (same_joined (past ++ entry.Asleep 0 ∷ []) past (still_shown past (entry.Asleep 0) tt (inl refl)) node)) joined.settled.1.0,
    joined.settled.1.1,
  )

  pub said : (past : List Entry) (m : Machine) (words : List ℕ) (line : Line) → line_of (entry.Said words) ≡ line ∷ [] → Else devices past m
      → MayGo devices past (entry.Said words) × Saying devices line (past ++ entry.Said words ∷ []) m
  said past m words line read known = (tt, record { before = past; words = words; is = refl; read = read; tie = tie_of past m known; others = others_of past m known })

  others_same : (past : List Entry) (m n : Machine) → n.host.state ≡ m.host.state → n.records ≡ m.records → n.outside.devices ≡ m.outside.devices → HasDevices devices past m → HasDevices devices past n
  others_same past m n host records there known = (remembers_same past m n host records known.0, subst (GoOn devices) (sym there) known.1)

  pub begins : (line : Line) (past : List Entry) (m : Machine) → Saying devices line past m
      → EachAfter (MayGo devices) past (entries m (Outside_does Begins_line)) × Opened devices line (past ++ entries m (Outside_does Begins_line)) (happens m (Outside_does Begins_line))
  unfolding happens entries outcome devices_after
  begins line past m known =
      let n : Machine = happens m (Outside_does Begins_line) in (
        tt,
        subst (λ (l : List Entry). Opened devices line l n) (sym (append-nil past)) (
          record {
            before = known.before;
            words = known.words;
            is = known.is;
            read = known.read;
            tie = tie_nets devices known.before m.outside n.outside (same_nets m.outside.outer n.outside.outer refl refl refl refl) known.tie;
            others = others_same known.before m n refl refl refl known.others;
          },
          refl,
        ),
      )

  -- ---- a line that sets no network

  plain_air : (links : List Link) (line : Line) → IsPlain line → links_after links (line ∷ []) ≡ links
  plain_air links (lines.Join node) plain = absurd plain
  plain_air links (lines.Link a b) plain = absurd plain
  plain_air links (lines.Unlink a b) plain = absurd plain
  plain_air links line plain = refl

  plain_table : (past : List Entry) (table : List Link) (line : Line) → IsPlain line → table_by past false table (line ∷ []) ≡ table
  plain_table past table (lines.Join node) plain = absurd plain
  plain_table past table lines.Discover plain = absurd plain
  plain_table past table line plain = refl

  plain_joins : (line : Line) → IsPlain line → joins_in (line ∷ []) ≡ []
  plain_joins (lines.Join node) plain = absurd plain
  plain_joins line plain = refl

  plain_shown : (before : List Entry) (words : List ℕ) (line : Line) → line_of (entry.Said words) ≡ line ∷ [] → IsPlain line → SameShown (before ++ entry.Said words ∷ []) before
  plain_shown before words line read plain = record {
    air = air_grows before (entry.Said words) ∙ (ap (λ (l : List Line). links_after (air_links before) l) read ∙ plain_air (air_links before) line plain);
    chip = chip_grows before (entry.Said words) (inl refl) ∙ (ap (λ (l : List Line). table_by before false (chip_links before) l) read ∙ plain_table before (chip_links before) line plain);
    nodes = joined_grows before (entry.Said words) (inl refl)
        ∙ (ap (λ (l : List Line). joined before ++ joins_in l) read ∙ (ap (λ (l : List ℕ). joined before ++ l) (plain_joins line plain) ∙ append-nil (joined before)));
  }

  number_stands : (past : List Entry) (o : OuterState) → EachAfter (Asks devices) past (ticked_entry o)
  number_stands past o = by (o.in_tick && not o.stamped)
    where
      by : (b : Bool) → EachAfter (Asks devices) past (if b then entry.Time o.clock ∷ [] else [])
      by true = ((tt, tt), tt)
      by false = tt

  pub settled_with : (past : List Entry) (m : Machine) → Tie devices past m.outside → NoJoin past → HasDevices devices past m → Settled devices past m
  settled_with past m tie none others = (((tie, none, tt), number_stands past m.outside.outer), others)

  pub said_last : (before : List Entry) (words : List ℕ) (line : Line) → line_of (entry.Said words) ≡ line ∷ [] → joins_in (line ∷ []) ≡ [] → NoJoin (before ++ entry.Said words ∷ [])
  said_last before words line read none = ap joins_in (last_is before (entry.Said words) ∙ read) ∙ none

  pub others_shown : (past later : List Entry) (m : Machine) → ((node : ℕ) → is_joined later node ≡ is_joined past node) → HasDevices devices past m → HasDevices devices later m
  others_shown past later m same others = (remembers_shown past later m same others.0, others.1)

  pub settle : (line : Line) → IsPlain line → (past : List Entry) (m : Machine) → Saying devices line past m → Settled devices past m
  settle line plain past m saying =
      let all : List Entry = saying.before ++ entry.Said saying.words ∷ [] in
      let same = plain_shown saying.before saying.words line saying.read plain in
      subst (λ (l : List Entry). Settled devices l m) (sym saying.is)
      (settled_with all m (tie_shown devices saying.before all m.outside (same_back all saying.before same) saying.tie)
      (said_last saying.before saying.words line saying.read (plain_joins line plain))
      (others_shown saying.before all m (λ node. same_joined all saying.before same node) saying.others))

  -- ---- the effect of a line

  pub effect : (line : Line) (past : List Entry) (m : Machine) (events : List Event) → IsEffect line m events → Opened devices line past m → Left devices line events past m
  effect (lines.Join node) past m events is known = inl (known, (λ plain. plain), is)
  effect (lines.Link a b) past m events is known = inl (known, (λ plain. plain), is)
  effect (lines.Unlink a b) past m events is known = inl (known, (λ plain. plain), is)
  effect lines.Discover past m events is known = inl (known, (λ plain. plain), is)
  effect line past m events is known = inr (inr (inl (effect_covered SetsNone line m events (covers_line line tt) is, settle line tt past m known.0)))

  pub within : (past : List Entry) (m : Machine) → Tie devices past m.outside → (node : ℕ) → is_joined past node ≡ true → node ≤ 232
  within past m tie node is = (tie.within node is).1

-- ---- the beginning

pub nothing_said : (devices : List State) (m : Machine) → Tie devices [] m.outside → HasDevices devices [] m → Else devices [] m
nothing_said devices m tie others = inl (settled_with devices [] m tie refl others)
