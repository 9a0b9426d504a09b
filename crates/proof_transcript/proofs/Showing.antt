-- What is shown of devices and of stored values stands directly after the line that asks for it, and nowhere else.
use Rattle.std.proofs.Common.{◌≡◌, ◌⊎◌, ℕ, inl, inr, List, [], ◌∷◌, ◌++◌, map, drop, refl, sym, ap, subst, ◌∙◌, append-nil, append_assoc}
use Rattle.std.specs.Prelude.{Option, Some, None}
use Rattle.std.specs.List.{AllByRecursion}
use Rattle.zw_base.specs.declared.property.Setting.{Setting}
use Rattle.device_sim.specs.State.{State}
use Rattle.proof_air.specs.mesh_sim.Fates.{place_of}
use Rattle.zw_text.specs.declared.line.Line.{Line}
use Rattle.zw_text.specs.declared.line.Line.TheVariants as lines
use Rattle.zw_text.specs.declared.entry.Entry.{Entry}
use Rattle.zw_text.specs.declared.entry.Entry.TheVariants as entry
use Rattle.zw_text.specs.Transcript.{line_of, line_last}
use Rattle.law_host.specs.law_transcript.Lists.{EachAfter}
use Rattle.law_host.specs.law_transcript.Nodes.{listing_of, always}
use Rattle.law_host.specs.law_wire.Shown.{IsToShow, asked_to_show, to_show, to_show_from, to_show_step}
use Rattle.law_host.specs.HostLegal.{IsShown, ShowsValues, values_now}
use Rattle.proof_air.specs.outside_model.Devices.{device_entries, kept_entries, shown_entries}
use Rattle.proof_air.specs.outside_model.Results.{device_at}
use Rattle.proof_air.specs.outside_model.Events.{Shows, stamp, outcome, devices_after, IsCleared}
use Rattle.proof_air.specs.world_model.State.{Machine}
use Rattle.proof_air.specs.world_model.Events.{Event, Outside_does, Shows_values, shown_values, happens, entries, May}
use Rattle.proof_air.specs.world_model.Lines.{IsEffect}
use Rattle.proof_spoken.specs.proof_device.Showing.{AreApart}
use Rattle.proof_spoken.proofs.Entered.{IsMark}
use Rattle.proof_air.proofs.Lists.{each-weaker}
use Rattle.proof_air.specs.proof_walk.Outside.{IsOfAir, IsHostNote}
use Rattle.proof_air.specs.proof_walk.ByLine.{CoversLine, ShowsNothing, Asked, begun, Opened, TiedByLine}
use Rattle.proof_air.specs.proof_walk.Walk.{TiedWalk}
use Rattle.proof_air.proofs.Alone.{AnswersAre, KindsAre, common_are, effect_are}
use Rattle.proof_air.proofs.ByLine.{effect_asks, last_is, said_last, opens, tied_walk_of}
use Rattle.proof_transcript.specs.Showing.{Stands, ShowsNone, IsPlain, ShownTies, AsksForNone, NoneDue, KnownThere, LeftToShow, KnowsShown}

-- ---- kinds of entries

air_plain : (e : Entry) → IsOfAir e → IsPlain e
air_plain (entry.Said words) of_air = of_air
air_plain (entry.Device node setting) of_air = of_air
air_plain (entry.Json text) of_air = of_air
air_plain (entry.TableEnd ticks) of_air = of_air
air_plain (entry.TableNode node sessions) of_air = of_air
air_plain (entry.TableValue node property confirmed heard) of_air = of_air
air_plain (entry.BadLine line fault) of_air = of_air
air_plain e of_air = tt

mark_plain : (e : Entry) → IsMark e → IsPlain e
mark_plain (entry.Said words) mark = mark
mark_plain (entry.Device node setting) mark = mark
mark_plain (entry.Json text) mark = mark
mark_plain (entry.TableEnd ticks) mark = mark
mark_plain (entry.TableNode node sessions) mark = mark
mark_plain (entry.TableValue node property confirmed heard) mark = mark
mark_plain (entry.BadLine line fault) mark = mark
mark_plain e mark = tt

note_plain : (e : Entry) → IsHostNote e → IsPlain e
note_plain (entry.Said words) note = note
note_plain (entry.Device node setting) note = note
note_plain (entry.Json text) note = note
note_plain (entry.TableEnd ticks) note = note
note_plain (entry.TableNode node sessions) note = note
note_plain (entry.TableValue node property confirmed heard) note = note
note_plain (entry.BadLine line fault) note = note
note_plain e note = tt

cleared_plain : (e : Entry) → IsCleared e → IsPlain e
cleared_plain (entry.Cleared side count) cleared = tt
cleared_plain e cleared = absurd cleared

kinds : KindsAre IsPlain
kinds = record { unit = λ side text. tt; mark = mark_plain; of_air = air_plain; full = tt; time = λ tick. tt; note = note_plain }

answered : AnswersAre IsPlain
answered = record { accepted = λ command node. tt; refused = λ refusal. tt; taken_back = λ command. tt; cleared = cleared_plain }

plain_none : (e : Entry) → IsPlain e → ShowsNone e
plain_none (entry.Said words) plain = tt
plain_none e plain = plain

plain_says_none : (e : Entry) → IsPlain e → line_of e ≡ []
plain_says_none (entry.Said words) plain = absurd plain
plain_says_none e plain = refl

module _ (devices : List State) where
  abbrev listing : ℕ → List ℕ
  listing = listing_of devices

  -- ---- what is to be shown, an entry later

  later_due : (due past told : List Entry) (e : Entry) → to_show_from devices due past (told ++ e ∷ []) ≡ to_show_step devices (past ++ told) (to_show_from devices due past told) e
  later_due due past [] e = ap (λ (l : List Entry). to_show_step devices l due e) (sym (append-nil past))
  later_due due past (one ∷ told) e =
      later_due (to_show_step devices past due one) (past ++ one ∷ []) told e
      ∙ ap (λ (l : List Entry). to_show_step devices l (to_show_from devices (to_show_step devices past due one) (past ++ one ∷ []) told) e) (append_assoc past (one ∷ []) told)

  due_after : (past : List Entry) (e : Entry) → to_show devices (past ++ e ∷ []) ≡ to_show_step devices past (to_show devices past) e
  due_after past e = later_due [] [] past e

  one_less : (past due : List Entry) (e : Entry) → IsPlain e ⊎ ((node : ℕ) × (setting : Setting) × (e ≡ entry.Device node setting)) ⊎ ((text : List ℕ) × (e ≡ entry.Json text))
      → to_show_step devices past due e ≡ drop 1 due
  one_less past due (entry.Said words) (inl plain) = absurd plain
  one_less past due (entry.Said words) (inr (inl (node, setting, is))) = absurd cc
  one_less past due (entry.Said words) (inr (inr (text, is))) = absurd cc
  one_less past due e kind = refl

  -- ---- what may stand

  may_show : (due : List Entry) (e : Entry) → due ≡ [] → ShowsNone e → IsToShow due e
  may_show due e none shows = subst (λ (l : List Entry). IsToShow l e) (sym none) (by e shows)
    where
      by : (e : Entry) → ShowsNone e → IsToShow [] e
      by (entry.Device node setting) shows = shows
      by (entry.TableEnd ticks) shows = shows
      by (entry.TableNode node sessions) shows = shows
      by (entry.TableValue node property confirmed heard) shows = shows
      by (entry.BadLine line fault) shows = shows
      by e shows = tt

  no_values : (past : List Entry) (l : List Line) (e : Entry) → AsksForNone l → ShowsNone e → IsShown (always listing) past l e
  no_values past [] (entry.Json text) asks shows = shows
  no_values past [] e asks shows = tt
  no_values past (lines.Store node ∷ more) e asks shows = absurd asks
  no_values past (line ∷ more) (entry.Json text) asks shows = shows
  no_values past (line ∷ more) e asks shows = tt

  asks_later : (past : List Entry) (e : Entry) → line_of e ≡ [] → AsksForNone (line_last (past ++ e ∷ []))
  asks_later past e says = subst AsksForNone (sym (last_is past e ∙ says)) tt

  -- an entry that shows nothing
  one_plain : (past : List Entry) (m : Machine) (e : Entry) → NoneDue devices past m → IsPlain e → Stands devices past e × NoneDue devices (past ++ e ∷ []) m
  one_plain past m e none plain = (
    (λ apart. may_show (to_show devices past) e (none.0 apart) (plain_none e plain), no_values past (line_last past) e none.1 (plain_none e plain)),
    (
      λ apart. due_after past e ∙ (one_less past (to_show devices past) e (inl plain) ∙ ap (drop 1) (none.0 apart)),
      asks_later past e (plain_says_none e plain),
    ),
  )

  all_plain : (past told : List Entry) (m : Machine) → NoneDue devices past m → AllByRecursion IsPlain told → EachAfter (Stands devices) past told × NoneDue devices (past ++ told) m
  all_plain past [] m none plain = (tt, subst (λ (l : List Entry). NoneDue devices l m) (sym (append-nil past)) none)
  all_plain past (e ∷ told) m none plain =
      let one = one_plain past m e none plain.0 in
      let rest = all_plain (past ++ e ∷ []) told m one.1 plain.1 in
      ((one.0, rest.0), subst (λ (l : List Entry). NoneDue devices l m) (append_assoc past (e ∷ []) told) rest.1)

  -- the values of a device, which are due
  settings_stand : (past : List Entry) (m : Machine) (node : ℕ) (settings : List Setting)
      → (AreApart devices → to_show devices past ≡ map (λ (setting : Setting). entry.Device node setting) settings) → AsksForNone (line_last past)
      → EachAfter (Stands devices) past (map (λ (setting : Setting). entry.Device node setting) settings)
      × NoneDue devices (past ++ map (λ (setting : Setting). entry.Device node setting) settings) m
  settings_stand past m node [] due none = (tt, subst (λ (l : List Entry). NoneDue devices l m) (sym (append-nil past)) (due, none))
  settings_stand past m node (setting ∷ settings) due none =
      let e : Entry = entry.Device node setting in
      let told : List Entry = map (λ (s : Setting). entry.Device node s) settings in
      let rest = settings_stand (past ++ e ∷ []) m node settings
      (λ apart. due_after past e ∙ (one_less past (to_show devices past) e (inr (inl (node, setting, refl))) ∙ ap (drop 1) (due apart))) (asks_later past e refl) in (
        ((λ apart. subst (λ (l : List Entry). IsToShow l e) (sym (due apart)) refl, device_apart (line_last past) none), rest.0),
        subst (λ (l : List Entry). NoneDue devices l m) (append_assoc past (e ∷ []) told) rest.1,
      )
    where
      device_apart : (l : List Line) → AsksForNone l → IsShown (always listing) past l (entry.Device node setting)
      device_apart [] asks = tt
      device_apart (lines.Store other ∷ more) asks = absurd asks
      device_apart (line ∷ more) asks = tt

  -- ---- a device is shown

  -- where a line begins, no number of a tick stands before an entry
  unstamped : (first : Machine) (told : List Entry) → stamp (begun first).outside.outer told ≡ told
  unfolding happens outcome devices_after
  unstamped first [] = refl
  unstamped first (e ∷ told) = refl

  shows_enter : (first : Machine) (node : ℕ) → entries (begun first) (Outside_does (Shows node))
      ≡ stamp (begun first).outside.outer (shown_entries node (device_at first.outside.devices (place_of node first.outside.devices)))
  unfolding happens entries outcome devices_after
  shows_enter first node = refl

  -- what an event enters, and that nothing is due then
  abbrev Shown : List Entry → List Entry → Machine → Type 0
  Shown past told later = EachAfter (Stands devices) past told × NoneDue devices (past ++ told) later

  found_shown : (past : List Entry) (m : Machine) (node : ℕ) (found : Option State) → (AreApart devices → to_show devices past ≡ device_entries node found) → AsksForNone (line_last past)
      → Shown past (shown_entries node found) m
  found_shown past m node None due none = all_plain past (shown_entries node None) m (due, none) (tt, tt)
  found_shown past m node (Some device) due none = settings_stand past m node _ due none

  device_shown : (past : List Entry) (first : Machine) (node : ℕ) → (AreApart devices → to_show devices past ≡ kept_entries node first.outside.devices) → AsksForNone (line_last past)
      → Shown past (entries (begun first) (Outside_does (Shows node))) (happens (begun first) (Outside_does (Shows node)))
  device_shown past first node due none =
      let found : Option State = device_at first.outside.devices (place_of node first.outside.devices) in
      let told : entries (begun first) (Outside_does (Shows node)) ≡ shown_entries node found = shows_enter first node ∙ unstamped first (shown_entries node found) in
      subst (λ (l : List Entry). Shown past l (happens (begun first) (Outside_does (Shows node)))) (sym told) (found_shown past (happens (begun first) (Outside_does (Shows node))) node found due none)

  -- ---- values are shown

  values_enter : (first : Machine) (node : ℕ) → entries (begun first) (Shows_values node) ≡ shown_values first.host.state node ∷ []
  unfolding happens entries outcome devices_after
  values_enter first node = refl

  values_shown : (past : List Entry) (first : Machine) (node : ℕ) → (AreApart devices → to_show devices past ≡ []) → line_last past ≡ lines.Store node ∷ []
      → values_now (always listing) past node ≡ shown_values first.host.state node → Shown past (entries (begun first) (Shows_values node)) (happens (begun first) (Shows_values node))
  values_shown past first node none last values =
      let e : Entry = shown_values first.host.state node in
      subst (λ (l : List Entry). Shown past l (happens (begun first) (Shows_values node))) (sym (values_enter first node)) (
        (
          (
            λ apart. subst (λ (l : List Entry). IsToShow l e) (sym (none apart)) tt,
            subst (λ (l : List Line). IsShown (always listing) past l e) (sym last) (sym values),
          ),
          tt,
        ),
        (
          λ apart. due_after past e ∙ (one_less past (to_show devices past) e (inr (inr (_, refl))) ∙ ap (drop 1) (none apart)),
          asks_later past e refl,
        ),
      )

  -- ---- a line begins

  line_due : (line : Line) (past : List Entry) (m : Machine) (asked : Asked (KnownThere devices) line past m)
      → to_show devices past ≡ asked_to_show devices asked.before (line ∷ [])
  line_due line past m asked =
      ap (to_show devices) asked.is
      ∙ (due_after asked.before (entry.Said asked.words) ∙ ap (asked_to_show devices asked.before) asked.read)

  -- a line that asks for nothing to be shown
  abbrev IsOther : Line → Type 0
  IsOther (lines.Show node) = ⊥
  IsOther (lines.Store node) = ⊥
  IsOther _ = Unit {0}

  other_due : (before : List Entry) (line : Line) → IsOther line → asked_to_show devices before (line ∷ []) ≡ []
  other_due before (lines.Show node) other = absurd other
  other_due before line other = refl

  other_asks : (line : Line) → IsOther line → AsksForNone (line ∷ [])
  other_asks (lines.Store node) other = other
  other_asks line other = tt

  covers_line : (line : Line) → IsOther line → CoversLine ShowsNothing line
  covers_line (lines.Show node) other = absurd other
  covers_line (lines.Store node) other = absurd other
  covers_line (lines.Repeat frame) other = λ drawn route. tt
  covers_line (lines.Wake node) other = λ route. tt
  covers_line (lines.Local node value) other = λ route. tt
  covers_line lines.Restart other = (tt, tt)
  covers_line line other = tt

  opened_none : (line : Line) → IsOther line → (past : List Entry) (m : Machine) → Opened (KnownThere devices) line past m → NoneDue devices past m
  opened_none line other past m (first, asked, begun_from) = (
    λ apart. line_due line past first asked ∙ other_due asked.before line other,
    subst AsksForNone (sym (said_last (KnownThere devices) line past first asked)) (other_asks line other),
  )

  other_effect : (line : Line) → IsOther line → (past : List Entry) (m : Machine) (events : List Event) → IsEffect line m events → Opened (KnownThere devices) line past m
      → LeftToShow devices line events past m
  other_effect line other past m events is opened = inr (inr (opened_none line other past m opened, effect_asks ShowsNothing line m events (covers_line line other) is))

  effect : (line : Line) (past : List Entry) (m : Machine) (events : List Event) → IsEffect line m events → Opened (KnownThere devices) line past m → LeftToShow devices line events past m
  effect (lines.Show node) past m events is (first, asked, begun_from) = inl (record {
    first = first;
    node = node;
    begun_from = begun_from;
    is = is;
    due = λ apart. line_due (lines.Show node) past first asked ∙ asked.ties.0.device node apart;
    none = subst AsksForNone (sym (said_last (KnownThere devices) (lines.Show node) past first asked)) tt;
  })
  effect (lines.Store node) past m events is (first, asked, begun_from) = inr (inl (record {
    first = first;
    node = node;
    begun_from = begun_from;
    is = is;
    none = λ apart. line_due (lines.Store node) past first asked;
    last = said_last (KnownThere devices) (lines.Store node) past first asked;
    values = ap (λ (l : List Entry). values_now (always listing) l node) asked.is ∙ asked.ties.0.values asked.words node asked.read;
  }))
  effect line past m events is opened = other_effect line tt past m events is opened

  -- ---- the events of its effect

  -- what is owed of the next one
  abbrev Goal : Line → List Entry → Machine → Event → List Event → Type 0
  Goal line past m event left = EachAfter (Stands devices) past (entries m event) × LeftToShow devices line left (past ++ entries m event) (happens m event)

  -- the one event that is left
  only_event : (line : Line) (past : List Entry) (m first : Machine) (event is : Event) (left : List Event) → event ∷ left ≡ is ∷ [] → m ≡ begun first
      → Shown past (entries (begun first) is) (happens (begun first) is) → Goal line past m event left
  only_event line past m first event is left are begun_from shown =
      let head : event ≡ is = cc in
      let tail : left ≡ [] = cc in
      subst (λ (e : Event). Goal line past m e left) (sym head)
      (subst (λ (l : List Event). Goal line past m is l) (sym tail)
      (subst (λ (n : Machine). Goal line past n is []) (sym begun_from) (shown.0, inr (inr (shown.1, tt)))))

  does : (line : Line) (event : Event) (left : List Event) (past : List Entry) (m : Machine) → May m event → LeftToShow devices line (event ∷ left) past m → Goal line past m event left
  does line event left past m may (inl awaits) =
      only_event line past m awaits.first event (Outside_does (Shows awaits.node)) left awaits.is awaits.begun_from (device_shown past awaits.first awaits.node awaits.due awaits.none)
  does line event left past m may (inr (inl awaits)) =
      only_event line past m awaits.first event (Shows_values awaits.node) left awaits.is awaits.begun_from
      (values_shown past awaits.first awaits.node awaits.none awaits.last awaits.values)
  does line event left past m may (inr (inr (none, of_effect))) =
      let got = all_plain past (entries m event) (happens m event) none (effect_are IsPlain kinds answered m event of_effect.0 may) in
      (got.0, inr (inr (got.1, of_effect.1)))

  done : (line : Line) (past : List Entry) (m : Machine) → LeftToShow devices line [] past m → NoneDue devices past m
  done line past m (inl awaits) = absurd (let is : [] ≡ Outside_does (Shows awaits.node) ∷ [] = awaits.is in cc)
  done line past m (inr (inl awaits)) = absurd (let is : [] ≡ Shows_values awaits.node ∷ [] = awaits.is in cc)
  done line past m (inr (inr (none, of_effect))) = none

  -- ---- lines

  -- words stand where nothing is to be shown
  pub words_stand : (past : List Entry) (m : Machine) (words : List ℕ) → NoneDue devices past m → Stands devices past (entry.Said words)
  words_stand past m words none = (
    λ apart. may_show (to_show devices past) (entry.Said words) (none.0 apart) tt,
    no_values past (line_last past) (entry.Said words) none.1 tt,
  )

  said : (past : List Entry) (m : Machine) (words : List ℕ) (line : Line) → line_of (entry.Said words) ≡ line ∷ [] → ShownTies devices past m → NoneDue devices past m
      → Stands devices past (entry.Said words) × Asked (KnownThere devices) line (past ++ entry.Said words ∷ []) m
  said past m words line read ties none = (
    words_stand past m words none,
    record { before = past; words = words; is = refl; read = read; ties = (ties, none) },
  )

  by_lines : TiedByLine (ShownTies devices) (Stands devices) (Asked (KnownThere devices)) (Opened (KnownThere devices)) (LeftToShow devices) (NoneDue devices)
  by_lines = record {
    said = said;
    in_line = record {
      begins = opens (Stands devices) (KnownThere devices);
      effect = effect;
      does = does;
      done = done;
      ticks = λ count past m opened. opened_none (lines.Tick count) tt past m opened;
      common = λ past m event common may none. all_plain past (entries m event) (happens m event) none (common_are IsPlain kinds m event common may);
    };
  }

  pub shown_walk : TiedWalk (ShownTies devices) (Stands devices) (KnowsShown devices)
  shown_walk = tied_walk_of (Stands devices) (Asked (KnownThere devices)) (Opened (KnownThere devices)) (LeftToShow devices) (NoneDue devices) (ShownTies devices) by_lines

  -- the two laws
  pub devices_of : AreApart devices → (past told : List Entry) → EachAfter (Stands devices) past told → EachAfter (λ before e. IsToShow (to_show devices before) e) past told
  devices_of apart past told each = each-weaker (Stands devices) (λ before e. IsToShow (to_show devices before) e) (λ before e stands. stands.0 apart) past told each

  pub values_of : (past told : List Entry) → EachAfter (Stands devices) past told → EachAfter (ShowsValues (always listing)) past told
  values_of past told each = each-weaker (Stands devices) (ShowsValues (always listing)) (λ before e stands. stands.1) past told each
