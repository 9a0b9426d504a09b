-- Over the lines of a run: at each phase air and chip have the networks of the transcript, and each frame goes by its route.
use Rattle.std.proofs.Common.{◌≡◌, ◌≢◌, ◌⊎◌, ◌≤◌, ◌<◌, ℕ, ◌==◌, ◌&&◌, ◌||◌, not, Bool, true, false, if◌then◌else◌, List, [], ◌∷◌, ◌++◌, refl, sym, ap, subst, ◌∙◌, inl, inr, append_assoc, append-nil, arith}
use Rattle.std.proofs.lemmas.Bool.{or_cases, false_from_ne_true, cases_lt, eqb-true}
use Rattle.std.specs.Prelude.{Option, Some, None, Result, Ok, Err}
use Rattle.std.specs.List.{AllByRecursion, list_any}
use Rattle.route_table.specs.Network.{Link}
use Rattle.device_sim.specs.State.{State}
use Rattle.mesh_sim.specs.Fates.{place_of}
use Rattle.zw_text.specs.Line.{LineText, line_at}
use Rattle.zw_text.specs.declared.line.Line.{Line}
use Rattle.zw_text.specs.declared.line.Line.TheVariants as lines
use Rattle.zw_text.specs.declared.entry.Entry.{Entry}
use Rattle.zw_text.specs.declared.entry.Entry.TheVariants as entry
use Rattle.zw_text.specs.declared.entry.Refusal.{Refusal}
use Rattle.zw_words.specs.declared.fault.LineFault.{LineFault}
use Rattle.zw_text.proofs.TextLaws.{line_takes}
use Rattle.zw_text.specs.Transcript.{read_as, line_of, line_after, line_last, joined}
use Rattle.zw_text.proofs.Views.{folded-append}
use Rattle.law_wire.specs.law_transcript.Lists.{EachAfter}
use Rattle.law_wire.specs.law_transcript.Nodes.{controller, first_node, is_joined}
use Rattle.law_wire.specs.law_transcript.Restarts.{begins_refused}
use Rattle.law_wire.specs.Networks.{with_link, links_after, air_links, chip_links, known_nodes, learned_of, learned, table_by}
use Rattle.law_wire.specs.Routes.{MayGo}
use Rattle.host_orders.specs.declared.refused.Refused.{Refused}
use Rattle.host_requests.specs.declared.task.Task.TheVariants as task
use Rattle.host_keep.specs.declared.record.Record.TheVariants as record_of
use Rattle.host_keep.specs.Kept.{node_of as kept_at}
use Rattle.host_model.specs.Asking.{places_refusal}
use Rattle.host_model.specs.Events.{Joins as joins_host, Queues}
use Rattle.host_model.specs.State.{node_of}
use Rattle.outside_model.specs.Results.{device_at}
use Rattle.outside_model.specs.Nodes.{listens_at as listens_now}
use Rattle.outside_model.specs.Events.{Joins, Discovers, Links, outcome, devices_after}
use Rattle.proof_walk.specs.world_model.State.{Machine}
use Rattle.proof_walk.specs.world_model.Events.{Event, Outside_does, Host_does, Refuses, happens, entries, May}
use Rattle.proof_walk.specs.world_model.Lines.{Asks as asks_line, IsEffect}
use Rattle.proof_walk.specs.proof_device.GoingOn.{GoOn, AreSame}
use Rattle.proof_walk.proofs.DevicePlaces.{go_then}
use Rattle.proof_walk.specs.Outside.{CoversOuter}
use Rattle.proof_walk.specs.Walk.{Walk}
use Rattle.proof_walk.specs.ByLine.{IsCommon, ByLine}
use Rattle.proof_walk.proofs.ByLine.{common_covered, walk_of}
use Rattle.proof_walk.proofs.Machines.{machine_keeps}
use Rattle.proof_routes.specs.Networks.{Tie}
use Rattle.proof_routes.specs.Knowing.{joins_in, Asks, Knows, SetsNone, HasRecord, Remembers, HasDevices, Settled, HasJoined, Else, Saying, Opened, IsPlain, Joining, Left, KnowNetworks}
use Rattle.proof_routes.proofs.Books.{air_grows, chip_grows, joined_grows, SameShown, same_shown, same_then, same_back, same_joined, refused_shown, still_shown, still_last, same_grows, more_joined}
use Rattle.proof_routes.proofs.Ties.{tie_shown, same_nets, tie_nets}
use Rattle.proof_routes.proofs.Walks.{may_same}
use Rattle.proof_routes.proofs.Setting.{link_tie, discover_tie, join_tie}
use Rattle.proof_routes.proofs.Leaving.{StartsSo}
use Rattle.proof_routes.proofs.Outer.{routes_law}
use Rattle.proof_routes.proofs.Unrefused.{IsUnrefused, Unrefused, common_bare}
use Rattle.proof_routes.proofs.Remembering.{Keeping, remembers_shown, remembers_same, event_remembers, known_host, host_joined}
use Rattle.proof_routes.proofs.Listeners.{new_listens}
use Rattle.proof_routes.proofs.Saying.{asked_nodes, asked_go, hosts, of_tick, said, begins, settled_with, said_last, others_shown, settle, effect, within}

module _ (devices : List State) (rules : StartsSo) (keeping : Keeping) (goes : (m : Machine) (event : Event) → GoOn m.outside.devices (happens m event).outside.devices)
    (same : (old new : List State) → GoOn old new → AreSame old new) where
  -- ---- an event that sets no network

  others_go : (past : List Entry) (m : Machine) (event : Event) → Tie devices past m.outside → May m event → HasDevices devices past m → HasDevices devices past (happens m event)
  others_go past m event tie may others = (
    event_remembers keeping past m event (within devices past m tie) may others.0,
    go_then devices m.outside.devices (happens m event).outside.devices others.1 (goes m event),
  )

  kept : (past : List Entry) (m : Machine) (event : Event) → CoversOuter SetsNone event → May m event → Settled devices past m
      → EachAfter (MayGo devices) past (entries m event) × Settled devices (past ++ entries m event) (happens m event)
  kept past m event covers may settled =
      let got = machine_keeps (Asks devices) (Knows devices) SetsNone (routes_law devices rules) hosts m event covers may past settled.0 in
      let others = others_go past m event settled.0.0.0 may settled.1 in
      (asked_go devices past (entries m event) got.0, (got.1, others_shown devices past (past ++ entries m event) (happens m event) (asked_nodes devices past (entries m event) got.0 settled.0.0.1) others))

  -- ---- after a `join` of which nothing is entered yet

  -- nothing that stands there refuses it
  bare_keeps : (e : Entry) → IsUnrefused e → begins_refused (e ∷ []) ≡ false
  bare_keeps (entry.Refused refusal) bare = absurd bare
  bare_keeps e bare = refl

  carried_each : (past later es : List Entry) → SameShown past later → Unrefused es → EachAfter (MayGo devices) past es → EachAfter (MayGo devices) later es × SameShown (past ++ es) (later ++ es)
  carried_each past later [] shown bare each = (tt, same_then (past ++ []) past (later ++ []) (same_shown (past ++ []) past (append-nil past)) (same_then past later (later ++ []) shown (same_shown later (later ++ []) (sym (append-nil later)))))
  carried_each past later (e ∷ es) shown bare each =
      let grown = same_grows past later e shown (inl (bare_keeps e bare.0)) (inl (bare_keeps e bare.0)) in
      let rest = carried_each (past ++ e ∷ []) (later ++ e ∷ []) es grown bare.1 each.1 in (
        (may_same devices past later shown e each.0, rest.0),
        same_then (past ++ e ∷ es) ((past ++ e ∷ []) ++ es) (later ++ e ∷ es) (same_shown (past ++ e ∷ es) ((past ++ e ∷ []) ++ es) (sym (append_assoc past (e ∷ []) es)))
            (same_then ((past ++ e ∷ []) ++ es) ((later ++ e ∷ []) ++ es) (later ++ e ∷ es) rest.1 (same_shown ((later ++ e ∷ []) ++ es) (later ++ e ∷ es) (append_assoc later (e ∷ []) es))),
      )

  carried : (past : List Entry) (m n : Machine) (es : List Entry) → HasJoined devices past m → Unrefused es
      → EachAfter (MayGo devices) (past ++ entry.Asleep 0 ∷ []) es × Settled devices ((past ++ entry.Asleep 0 ∷ []) ++ es) n → EachAfter (MayGo devices) past es × Else devices (past ++ es) n
  carried past m n [] joined bare got = (
    tt,
    inr (record {
      before = joined.before;
      words = joined.words;
      node = joined.node;
      is = append-nil past ∙ joined.is;
      read = joined.read;
      settled = subst (λ (l : List Entry). Settled devices l n)
          (append-nil (past ++ entry.Asleep 0 ∷ []) ∙ ap (λ (l : List Entry). l ++ entry.Asleep 0 ∷ []) (sym (append-nil past))) got.1;
    }),
  )
  carried past m n (e ∷ es) joined bare got =
      let later : List Entry = past ++ entry.Asleep 0 ∷ [] in
      let moved = carried_each later past (e ∷ es) (still_shown past (entry.Asleep 0) tt (inl refl)) bare got.0 in
      let last : line_last (later ++ e ∷ es) ≡ line_last (past ++ e ∷ es) = folded-append line_after [] later (e ∷ es) ∙ sym (folded-append line_after [] past (e ∷ es)) in (
        moved.0,
        inl (settled_with devices (past ++ e ∷ es) n (tie_shown devices (later ++ e ∷ es) (past ++ e ∷ es) n.outside moved.1 got.1.0.0.0) (ap joins_in (sym last) ∙ got.1.0.0.1)
            (others_shown devices (later ++ e ∷ es) (past ++ e ∷ es) n (λ node. sym (same_joined (later ++ e ∷ es) (past ++ e ∷ es) moved.1 node)) got.1.1)),
      )

  common : (past : List Entry) (m : Machine) (event : Event) → IsCommon event → May m event → Else devices past m
      → EachAfter (MayGo devices) past (entries m event) × Else devices (past ++ entries m event) (happens m event)
  common past m event is may (inl settled) = let got = kept past m event (common_covered SetsNone of_tick event is) may settled in (got.0, inl got.1)
  common past m event is may (inr joined) =
      carried past m (happens m event) (entries m event) joined (common_bare m event is may)
      (kept (past ++ entry.Asleep 0 ∷ []) m event (common_covered SetsNone of_tick event is) may joined.settled)

  -- ---- an event that sets networks

  -- what is known after it, where nothing is entered
  abbrev Keeps_left : Line → List Event → List Entry → Machine → Event → Type 0
  Keeps_left line left past m event = EachAfter (MayGo devices) past (entries m event) × Left devices line left (past ++ entries m event) (happens m event)

  rest_settled : (line : Line) (left : List Event) (past : List Entry) (m n : Machine) (event : Event) → entries m event ≡ [] → happens m event ≡ n → AllByRecursion (CoversOuter SetsNone) left
      → Settled devices past n → Keeps_left line left past m event
  rest_settled line left past m n event none is covered settled =
      subst (λ (l : List Entry). EachAfter (MayGo devices) past l × Left devices line left (past ++ l) (happens m event)) (sym none)
      (tt, subst (λ (l : List Entry). Left devices line left l (happens m event)) (sym (append-nil past)) (subst (λ (k : Machine). Left devices line left past k) (sym is) (inr (inr (inl (covered, settled))))))

  links_silent : (m : Machine) (a b : ℕ) (live : Bool) → entries m (Outside_does (Links a b live)) ≡ []
  unfolding entries outcome
  links_silent m a b live = refl

  -- a link is set
  links_done : (past : List Entry) (m : Machine) (line : Line) (a b : ℕ) (live : Bool) → Saying devices line past m → May m (Outside_does (Links a b live)) → joins_in (line ∷ []) ≡ []
      → ((links : List Link) → links_after links (line ∷ []) ≡ with_link links a b live) → ((before : List Entry) (table : List Link) → table_by before false table (line ∷ []) ≡ table)
      → Settled devices past (happens m (Outside_does (Links a b live)))
  unfolding happens outcome devices_after
  links_done past m line a b live saying may none sets leaves =
      let before : List Entry = saying.before in
      let said : Entry = entry.Said saying.words in
      let all : List Entry = before ++ said ∷ [] in
      let n : Machine = happens m (Outside_does (Links a b live)) in
      let air : air_links all ≡ with_link (air_links before) a b live = air_grows before said ∙ (ap (λ (l : List Line). links_after (air_links before) l) saying.read ∙ sets (air_links before)) in
      let chip : chip_links all ≡ chip_links before
      = chip_grows before said (inl refl) ∙ (ap (λ (l : List Line). table_by before false (chip_links before) l) saying.read ∙ leaves before (chip_links before)) in
      let nodes : joined all ≡ joined before = said_nodes before saying.words line saying.read none in
      subst (λ (l : List Entry). Settled devices l n) (sym saying.is)
      (settled_with devices all n (link_tie devices before all m.outside saying.tie a b live air chip nodes) (said_last devices before saying.words line saying.read none)
      (others_shown devices before all n (λ node. ap (λ (l : List ℕ). list_any (λ one. one == node) l) nodes) (others_go before m (Outside_does (Links a b live)) saying.tie may saying.others)))
    where
      said_nodes : (before : List Entry) (words : List ℕ) (line : Line) → line_of (entry.Said words) ≡ line ∷ [] → joins_in (line ∷ []) ≡ [] → joined (before ++ entry.Said words ∷ []) ≡ joined before
      said_nodes before words line read none =
          joined_grows before (entry.Said words) (inl refl)
          ∙ (ap (λ (l : List Line). joined before ++ joins_in l) read ∙ (ap (λ (l : List ℕ). joined before ++ l) none ∙ append-nil (joined before)))

  discovers_silent : (m : Machine) → entries m (Outside_does Discovers) ≡ []
  unfolding entries outcome
  discovers_silent m = refl

  -- links are learned
  discovers_done : (past : List Entry) (m : Machine) → Saying devices lines.Discover past m → May m (Outside_does Discovers) → Settled devices past (happens m (Outside_does Discovers))
  unfolding happens outcome devices_after
  discovers_done past m saying may =
      let before : List Entry = saying.before in
      let said : Entry = entry.Said saying.words in
      let all : List Entry = before ++ said ∷ [] in
      let n : Machine = happens m (Outside_does Discovers) in
      let air : air_links all ≡ air_links before = air_grows before said ∙ ap (λ (l : List Line). links_after (air_links before) l) saying.read in
      let chip : chip_links all ≡ learned (air_links before) (known_nodes before) (chip_links before)
      = chip_grows before said (inl refl) ∙ ap (λ (l : List Line). table_by before false (chip_links before) l) saying.read in
      let nodes : joined all ≡ joined before = joined_grows before said (inl refl) ∙ (ap (λ (l : List Line). joined before ++ joins_in l) saying.read ∙ append-nil (joined before)) in
      subst (λ (l : List Entry). Settled devices l n) (sym saying.is)
      (settled_with devices all n (discover_tie devices before all m.outside saying.tie air chip nodes) (said_last devices before saying.words lines.Discover saying.read refl)
      (others_shown devices before all n (λ node. ap (λ (l : List ℕ). list_any (λ one. one == node) l) nodes) (others_go before m (Outside_does Discovers) saying.tie may saying.others)))

  -- ---- a node joins

  -- the line is refused, which is entered directly after its words
  refuses_entry : (m : Machine) (line : Line) (refusal : Refusal) → m.outside.outer.in_tick ≡ false → entries m (Refuses line refusal) ≡ entry.Refused refusal ∷ []
  unfolding entries outcome
  refuses_entry m line refusal in_tick = ap (λ (b : Bool). (if b && not m.outside.outer.stamped then entry.Time m.outside.outer.clock ∷ [] else []) ++ entry.Refused refusal ∷ []) in_tick

  refuses_nets : (m : Machine) (line : Line) (refusal : Refusal) (past : List Entry) → Tie devices past m.outside → Tie devices past (happens m (Refuses line refusal)).outside
  unfolding happens outcome devices_after
  refuses_nets m line refusal past tie = tie_nets devices past m.outside (happens m (Refuses line refusal)).outside (same_nets m.outside.outer _ refl refl refl refl) tie

  refused_join : (node : ℕ) (refusal : Refusal) (past : List Entry) (m : Machine) → May m (Refuses (lines.Join node) refusal) → Opened devices (lines.Join node) past m
      → Keeps_left (lines.Join node) [] past m (Refuses (lines.Join node) refusal)
  refused_join node refusal past m may opened =
      let saying = opened.0 in
      let before : List Entry = saying.before in
      let all : List Entry = (before ++ entry.Said saying.words ∷ []) ++ entry.Refused refusal ∷ [] in
      let event : Event = Refuses (lines.Join node) refusal in
      let n : Machine = happens m event in
      let shown = refused_shown before saying.words node refusal saying.read in
      let settled : Settled devices all n
      = settled_with devices all n (tie_shown devices before all n.outside (same_back all before shown) (refuses_nets m (lines.Join node) refusal before saying.tie))
      (still_last (before ++ entry.Said saying.words ∷ []) (entry.Refused refusal) refl)
      (others_shown devices before all n (λ node. same_joined all before shown node) (others_go before m event saying.tie may saying.others)) in
      subst (λ (l : List Entry). EachAfter (MayGo devices) past l × Left devices (lines.Join node) [] (past ++ l) n) (sym (refuses_entry m (lines.Join node) refusal opened.1))
      ((tt, tt), inr (inr (inl (tt, subst (λ (l : List Entry). Settled devices (l ++ entry.Refused refusal ∷ []) n) (sym saying.is) settled))))

  -- a node of a line is in range
  read_range : (words : List ℕ) (node : ℕ) → line_of (entry.Said words) ≡ lines.Join node ∷ [] → (1 ≤ node) × (node ≤ 232)
  read_range words node read = by (line_at words) refl read
    where
      by : (found : Result (Option Line) LineFault) → line_at words ≡ found → read_as found ≡ lines.Join node ∷ [] → (1 ≤ node) × (node ≤ 232)
      by (Ok (Some line)) at is =
          let one : line ≡ lines.Join node = cc in
          let text : LineText words (lines.Join node) = line_takes words (Some (lines.Join node)) (at ∙ ap (λ (l : Line). Ok (Some l)) one) in
          text.stands.0
      by (Ok None) at is = absurd (let none : [] ≡ lines.Join node ∷ [] = is in cc)
      by (Err fault) at is = absurd (let none : [] ≡ lines.Join node ∷ [] = is in cc)

  host_silent : (m : Machine) (node : ℕ) → entries m (Host_does (joins_host node)) ≡ []
  unfolding entries
  host_silent m node = refl

  join_may : (m : Machine) (node : ℕ) → May m (Host_does (joins_host node)) → ((node_of m.host.state node).joined ≡ false) × (node ≢ controller)
  unfolding May
  join_may m node may = may.0

  -- the host has the node first
  host_joins : (node : ℕ) (past : List Entry) (m : Machine) → May m (Host_does (joins_host node)) → Opened devices (lines.Join node) past m
      → Joining devices (Outside_does (Joins node) ∷ []) past (happens m (Host_does (joins_host node)))
  unfolding happens
  host_joins node past m may opened =
      let saying = opened.0 in
      let before : List Entry = saying.before in
      let allowed = join_may m node may in
      let (known, recorded, knows) = host_joined keeping before m node (read_range saying.words node saying.read) may saying.others.0 in
      record {
        before = before;
        words = saying.words;
        node = node;
        is = saying.is;
        read = saying.read;
        left_is = refl;
        tie = tie_nets devices before m.outside (happens m (Host_does (joins_host node))).outside (same_nets m.outside.outer _ refl refl refl refl) saying.tie;
        others = (known, go_then devices m.outside.devices (happens m (Host_does (joins_host node))).outside.devices saying.others.1 (goes m (Host_does (joins_host node))));
        fresh = false_from_ne_true (is_joined before node) (λ is. let both : false ≡ true = sym allowed.0 ∙ known_host before m saying.others.0 node is in cc);
        apart = allowed.1;
        recorded = recorded;
        knows = knows;
      }

  joins_silent : (m : Machine) (node : ℕ) → entries m (Outside_does (Joins node)) ≡ []
  unfolding entries outcome
  joins_silent m node = refl

  remembers_more : (before later : List Entry) (m : Machine) (node : ℕ) → ((other : ℕ) → is_joined later other ≡ (is_joined before other || (node == other))) → (known : Remembers before m)
      → HasRecord known.texts (record_of.Joined node) → (kept_at known.kept node).joined ≡ true → Remembers later m
  remembers_more before later m node more known recorded knows = record {
    texts = known.texts;
    told = known.told;
    recorded = λ other is. kept_as other (or_cases (is_joined before other) (node == other) (sym (more other) ∙ is));
    kept = known.kept;
    holds = known.holds;
    known = λ other is. known_as other (or_cases (is_joined before other) (node == other) (sym (more other) ∙ is));
    facts = known.facts;
  }
    where
      kept_as : (other : ℕ) → (is_joined before other ≡ true) ⊎ ((node == other) ≡ true) → (other ≡ first_node) ⊎ HasRecord known.texts (record_of.Joined other)
      kept_as other (inl is) = known.recorded other is
      kept_as other (inr same) = inr (subst (λ (k : ℕ). HasRecord known.texts (record_of.Joined k)) (eqb-true node other same) recorded)

      known_as : (other : ℕ) → (is_joined before other ≡ true) ⊎ ((node == other) ≡ true) → (kept_at known.kept other).joined ≡ true
      known_as other (inl is) = known.known other is
      known_as other (inr same) = subst (λ (k : ℕ). (kept_at known.kept k).joined ≡ true) (eqb-true node other same) knows

  -- and then chip and air
  joins_done : (left : List Event) (past : List Entry) (m : Machine) (joining : Joining devices left past m) → May m (Outside_does (Joins joining.node))
      → HasJoined devices past (happens m (Outside_does (Joins joining.node)))
  unfolding happens outcome devices_after
  joins_done left past m joining may =
      let before : List Entry = joining.before in
      let node : ℕ = joining.node in
      let said : Entry = entry.Said joining.words in
      let all : List Entry = before ++ said ∷ [] in
      let later : List Entry = all ++ entry.Asleep 0 ∷ [] in
      let n : Machine = happens m (Outside_does (Joins node)) in
      let range = read_range joining.words node joining.read in
      let low = range.0 in
      let apart = joining.apart in
      let two : 2 ≤ node = at_least node low apart in
      let air : air_links all ≡ air_links before = air_grows before said ∙ ap (λ (l : List Line). links_after (air_links before) l) joining.read in
      let chip : chip_links all ≡ learned_of (air_links before) node (known_nodes before) (chip_links before)
      = chip_grows before said (inl refl) ∙ ap (λ (l : List Line). table_by before false (chip_links before) l) joining.read in
      let more : (other : ℕ) → is_joined all other ≡ (is_joined before other || (node == other)) = more_joined before said node (inl refl) joining.read in
      let listening : Bool = listens_now (device_at m.outside.devices (place_of node m.outside.devices)) in
      let shown : SameShown later all = still_shown all (entry.Asleep 0) tt (inl refl) in
      let tie : Tie devices all n.outside
      = join_tie devices before all m.outside joining.tie node listening (new_listens devices m.outside.devices before (same devices m.outside.devices joining.others.1) node joining.fresh) joining.fresh two range.1 more air chip in
      let known : Remembers all m = remembers_more before all m node more joining.others.0 joining.recorded joining.knows in
      record {
        before = before;
        words = joining.words;
        node = node;
        is = joining.is;
        read = joining.read;
        settled = subst (λ (l : List Entry). Settled devices (l ++ entry.Asleep 0 ∷ []) n) (sym joining.is)
            (settled_with devices later n (tie_shown devices all later n.outside (same_back later all shown) tie) (still_last all (entry.Asleep 0) refl) (
              remembers_shown all later n (λ other. same_joined later all shown other) (remembers_same all m n refl refl known),
              subst (GoOn devices) refl (go_then devices m.outside.devices n.outside.devices joining.others.1 (goes m (Outside_does (Joins node)))),
            ));
      }
    where
      at_least : (node : ℕ) → 1 ≤ node → node ≢ controller → 2 ≤ node
      at_least node low apart = by (cases_lt 1 node)
        where
          by : (1 < node) ⊎ (node ≤ 1) → 2 ≤ node
          by (inl above) = omega (arith, above)
          by (inr below) = absurd (apart (omega (arith, below, low)))

  -- ---- the next event of an effect

  asked_covered : (rule : Option Refused) (asked : List Event) → asks_line rule lines.Discover (Queues task.Members) asked → AllByRecursion (CoversOuter SetsNone) asked
  asked_covered None asked is = subst (AllByRecursion (CoversOuter SetsNone)) (sym is) (tt, tt)
  asked_covered (Some refused) asked (refusal, shown, is) = subst (AllByRecursion (CoversOuter SetsNone)) (sym is) (tt, tt)

  -- the first of these is this one
  at_event : (line : Line) (first is : Event) (left are : List Event) (past : List Entry) (m : Machine) → first ≡ is → left ≡ are → Keeps_left line are past m is → Keeps_left line left past m first
  at_event line first is left are past m same rest keeps =
      subst (λ (e : Event). Keeps_left line left past m e) (sym same) (subst (λ (l : List Event). Keeps_left line l past m is) (sym rest) keeps)

  joins_both : (node : ℕ) (first : Event) (left : List Event) (past : List Entry) (m : Machine) → first ∷ left ≡ Host_does (joins_host node) ∷ Outside_does (Joins node) ∷ [] → May m first
      → Opened devices (lines.Join node) past m → Keeps_left (lines.Join node) left past m first
  joins_both node first left past m are may opened =
      let one : first ≡ Host_does (joins_host node) = cc in
      let rest : left ≡ Outside_does (Joins node) ∷ [] = cc in
      let n : Machine = happens m (Host_does (joins_host node)) in
      let joining = host_joins node past m (subst (May m) one may) opened in
      at_event (lines.Join node) first (Host_does (joins_host node)) left (Outside_does (Joins node) ∷ []) past m one rest
      (subst (λ (l : List Entry). EachAfter (MayGo devices) past l × Left devices (lines.Join node) (Outside_does (Joins node) ∷ []) (past ++ l) n) (sym (host_silent m node))
      (tt, subst (λ (l : List Entry). Left devices (lines.Join node) (Outside_does (Joins node) ∷ []) l n) (sym (append-nil past)) (inr (inl joining))))

  does_set : (line : Line) (first : Event) (left : List Event) (past : List Entry) (m : Machine) → May m first → Opened devices line past m → (IsPlain line → ⊥) → IsEffect line m (first ∷ left)
      → Keeps_left line left past m first
  does_set (lines.Join node) first left past m may opened not_plain (inl are) = joins_both node first left past m are may opened
  does_set (lines.Join node) first left past m may opened not_plain (inr (refusal, are)) =
      let one : first ≡ Refuses (lines.Join node) refusal = cc in
      let rest : left ≡ [] = cc in
      at_event (lines.Join node) first (Refuses (lines.Join node) refusal) left [] past m one rest (refused_join node refusal past m (subst (May m) one may) opened)
  does_set (lines.Link a b) first left past m may opened not_plain are =
      let one : first ≡ Outside_does (Links a b true) = cc in
      let rest : left ≡ [] = cc in
      at_event (lines.Link a b) first (Outside_does (Links a b true)) left [] past m one rest
      (rest_settled (lines.Link a b) [] past m (happens m (Outside_does (Links a b true))) (Outside_does (Links a b true)) (links_silent m a b true) refl tt
      (links_done past m (lines.Link a b) a b true opened.0 (subst (May m) one may) refl (λ links. refl) (λ before table. refl)))
  does_set (lines.Unlink a b) first left past m may opened not_plain are =
      let one : first ≡ Outside_does (Links a b false) = cc in
      let rest : left ≡ [] = cc in
      at_event (lines.Unlink a b) first (Outside_does (Links a b false)) left [] past m one rest
      (rest_settled (lines.Unlink a b) [] past m (happens m (Outside_does (Links a b false))) (Outside_does (Links a b false)) (links_silent m a b false) refl tt
      (links_done past m (lines.Unlink a b) a b false opened.0 (subst (May m) one may) refl (λ links. refl) (λ before table. refl)))
  does_set lines.Discover first left past m may opened not_plain (asked, asks, are) =
      let one : first ≡ Outside_does Discovers = cc in
      let rest : left ≡ asked = cc in
      at_event lines.Discover first (Outside_does Discovers) left asked past m one rest
      (rest_settled lines.Discover asked past m (happens m (Outside_does Discovers)) (Outside_does Discovers) (discovers_silent m) refl
      (asked_covered (places_refusal m.host.state 1) asked asks) (discovers_done past m opened.0 (subst (May m) one may)))
  does_set line first left past m may opened not_plain is = absurd (not_plain tt)

  does_join : (line : Line) (first : Event) (left : List Event) (past : List Entry) (m : Machine) → May m first → Joining devices (first ∷ left) past m → Keeps_left line left past m first
  does_join line first left past m may joining =
      let all = joining.left_is in
      let one : first ≡ Outside_does (Joins joining.node) = cc in
      let rest : left ≡ [] = cc in
      let n : Machine = happens m (Outside_does (Joins joining.node)) in
      let done = joins_done (first ∷ left) past m joining (subst (May m) one may) in
      at_event line first (Outside_does (Joins joining.node)) left [] past m one rest
      (subst (λ (l : List Entry). EachAfter (MayGo devices) past l × Left devices line [] (past ++ l) n) (sym (joins_silent m joining.node))
      (tt, subst (λ (l : List Entry). Left devices line [] l n) (sym (append-nil past)) (inr (inr (inr (refl, done))))))

  does : (line : Line) (first : Event) (left : List Event) (past : List Entry) (m : Machine) → May m first → Left devices line (first ∷ left) past m
      → EachAfter (MayGo devices) past (entries m first) × Left devices line left (past ++ entries m first) (happens m first)
  does line first left past m may (inl (opened, not_plain, is)) = does_set line first left past m may opened not_plain is
  does line first left past m may (inr (inl joining)) = does_join line first left past m may joining
  does line first left past m may (inr (inr (inl (covered, settled)))) = let got = kept past m first covered.0 may settled in (got.0, inr (inr (inl (covered.1, got.1))))
  does line first left past m may (inr (inr (inr (none, joined)))) = absurd (let is : first ∷ left ≡ [] = none in cc)

  none_left : (line : Line) (m : Machine) → (IsPlain line → ⊥) → IsEffect line m [] → ⊥
  none_left (lines.Join node) m not_plain (inl are) = cc
  none_left (lines.Join node) m not_plain (inr (refusal, are)) = cc
  none_left (lines.Link a b) m not_plain are = cc
  none_left (lines.Unlink a b) m not_plain are = cc
  none_left lines.Discover m not_plain (asked, asks, are) = cc
  none_left line m not_plain is = not_plain tt

  done : (line : Line) (past : List Entry) (m : Machine) → Left devices line [] past m → Else devices past m
  done line past m (inl (opened, not_plain, is)) = absurd (none_left line m not_plain is)
  done line past m (inr (inl joining)) = absurd (let all = joining.left_is in cc)
  done line past m (inr (inr (inl (covered, settled)))) = inl settled
  done line past m (inr (inr (inr (none, joined)))) = inr joined

  -- ---- lines

  by_lines : ByLine (MayGo devices) (Saying devices) (Opened devices) (Left devices) (Else devices)
  by_lines = record {
    said = said devices;
    in_line = record {
      begins = begins devices;
      effect = effect devices;
      does = does;
      done = done;
      ticks = λ count past m opened. inl (settle devices (lines.Tick count) tt past m opened.0);
      common = common;
    };
  }

  pub networks_walk : Walk (MayGo devices) (KnowNetworks devices)
  networks_walk = walk_of (MayGo devices) (Saying devices) (Opened devices) (Left devices) (Else devices) by_lines
