-- What is known of both links goes on where the host starts again: a new link of it goes on, and both ways are cleared, which is told.
use Rattle.std.proofs.Common.{◌≡◌, ◌<◌, ◌≤◌, nat_lt, ℕ, zero, suc, ◌+◌, ◌&&◌, not, Bool, true, false, if◌then◌else◌, inl, inr, List, [], ◌∷◌, ◌++◌, length, map, refl, sym, ap, ap₂, ◌∙◌, subst, append-nil, append_assoc, length-append, arith}
use Rattle.std.specs.Prelude.{Option, Some, None, IsSome}
use Rattle.std.specs.List.{AllByRecursion}
use Rattle.std.proofs.lemmas.Bool.{ltb-true, ltb-false}
use Rattle.std.proofs.lemmas.List.{map-append}
use Rattle.zw_base.proofs.Each.{all-append}
use Rattle.serial_link.specs.State.{Side as LinkSide}
use Rattle.serial_link.specs.Rules.{SideObeys}
use Rattle.chip_sim.specs.State.{ChipParts}
use Rattle.chip_sim.specs.Waiting.{PortState}
use Rattle.chip_sim.specs.Rules.{WaitsWell}
use Rattle.s0_crypto.specs.declared.key_pair.Keys.{Keys}
use Rattle.serial_pipes.specs.State.{WayState}
use Rattle.zw_words.specs.declared.side.Side.{Side}
use Rattle.zw_words.specs.declared.side.Side.TheVariants.{Host, Chip}
use Rattle.zw_text.specs.declared.line.Line.TheVariants as lines
use Rattle.zw_text.specs.declared.entry.Entry.{Entry}
use Rattle.zw_text.specs.declared.entry.Entry.TheVariants as entry
use Rattle.zw_text.specs.Transcript.{line_of}
use Rattle.law_wire.specs.law_transcript.Restarts.{is_restart, begins_refused}
use Rattle.law_wire.specs.Clearing.{AreTold, Cleared_there, cleared, clears, clears_first, goes_on_after, to_clear}
use Rattle.law_wire.specs.Links.{bytes_in}
use Rattle.law_wire.specs.Serial.{SerialEvent, serial_events}
use Rattle.law_wire.specs.Serial.SerialEvent.{Line_begins}
use Rattle.host_keep.specs.declared.record.Record.{Record}
use Rattle.proof_world.specs.host_model.Opening.{opened}
use Rattle.proof_world.specs.host_model.State.{HostParts, HostState}
use Rattle.proof_walk.specs.outside_model.State.{OuterState}
use Rattle.proof_walk.specs.outside_model.Events.{Clears_pipe, cleared_entries, outcome, ticked_entry, IsCleared}
use Rattle.proof_walk.specs.world_model.State.{Machine}
use Rattle.zw_text.specs.declared.line.Line.{Line}
use Rattle.zw_text.specs.declared.entry.Refusal.{Refusal}
use Rattle.proof_walk.specs.world_model.Events.{Event, Outside_does, Refuses, Restarts, OpensFrom, happens, entries, May}
use Rattle.serial_frame.specs.Stream.{Rest}
use Rattle.proof_world.specs.proof_serial.Chip.{HasFrames}
use Rattle.proof_world.specs.proof_serial.Way.{Carries}
use Rattle.proof_world.proofs.Outer.{entered_still}
use Rattle.proof_line.proofs.Holding.{NoMark}
use Rattle.proof_world.specs.proof_serial.Line.{AreAtRest, IsWhole}
use Rattle.proof_world.proofs.Events.{at_rest, rests_after, whole_after}
use Rattle.proof_traffic.specs.Links.{KeepsItsLink}
use Rattle.proof_line.specs.Links.{AtLine, Brings, KnowsEvents, KnowsLink, LinkNow, cleared_in, due_from, tick_told}
use Rattle.proof_line.specs.Linked.{◌⊕◌, began, done_by, Cuts, Did, IsBegun, IsOrderly, KnowsBoth, LinksBegun, LinksClearing, LinksDone, LinksRestarting, MayBothEnd}
use Rattle.proof_line.proofs.Rooming.{chip_cleared, host_cleared, not_awaited, quiet_cleared, unrefused}
use Rattle.proof_line.proofs.Numbering.{ticked_none}
use Rattle.proof_line.proofs.Serials.{refused_same, serials_grow, told_grows}
use Rattle.proof_line.proofs.LinkLines.{Says, TellsNone, chip_restarts, host_restarts, restarted, says}
use Rattle.proof_line.proofs.LinkTime.{first_same, timed_clears}
use Rattle.proof_line.proofs.LinkTold.{brings_none}
use Rattle.proof_line.proofs.ChipAccounts.{event_steps, outer_steps}
use Rattle.proof_line.proofs.LinkEnds.{cuts_as, cuts_of, line_cuts, some_told}
use Rattle.proof_line.proofs.LinkEvents.{clock_stays, until_stays, whole_both}
use Rattle.proof_line.proofs.LinkTicks.{Then}
use Rattle.proof_line.proofs.LinkBegins.{counts_so, done_of, begun_serials}
use Rattle.proof_line.proofs.LinkPlain.{begun_whole, refuses, then_more}

-- ---- bytes that were lost, as entries

lost_is : (side : Side) (count : ℕ) → cleared_entries side count ≡ cleared side count
lost_is side count = by (nat_lt 0 count) count refl
  where
    by : (b : Bool) (count : ℕ) → nat_lt 0 count ≡ b → (if b then entry.Cleared side count ∷ [] else []) ≡ cleared side count
    by true zero is = absurd (let none : zero < zero = ltb-true zero zero is in omega (arith, none))
    by true (suc count) is = refl
    by false zero is = refl
    by false (suc count) is = absurd (let none : suc count ≤ zero = ltb-false zero (suc count) is in omega (arith, none))

all_lost : (side : Side) (count : ℕ) → AllByRecursion IsCleared (cleared side count)
all_lost side zero = tt
all_lost side (suc count) = (tt, tt)

lost_tell : (told : List Entry) → AllByRecursion IsCleared told → TellsNone told
lost_tell [] all now due = (refl, refl)
lost_tell (entry.Cleared side count ∷ told) all now due = lost_tell told all.1 now due
lost_tell (e ∷ told) all now due = absurd all.0

lost_first : (told : List Entry) → AllByRecursion IsCleared told → (clears_first told ≡ told) × (goes_on_after told ≡ false) × (clears told ≡ [])
lost_first [] all = (refl, refl, refl)
lost_first (entry.Cleared side count ∷ told) all = let rest = lost_first told all.1 in (ap (λ (l : List Entry). entry.Cleared side count ∷ l) rest.0, rest.1, rest.2)
lost_first (e ∷ told) all = absurd all.0

lost_unmarked : (told : List Entry) → AllByRecursion IsCleared told → NoMark told
lost_unmarked [] all = tt
lost_unmarked (entry.Cleared side count ∷ told) all = tt
lost_unmarked (e ∷ told) all = absurd all.0

-- no event is told of by them
lost_serials : (past told : List Entry) → AllByRecursion IsCleared told → (serial_events (past ++ told) ≡ serial_events past) × (tick_told (past ++ told) ≡ tick_told past)
lost_serials past told all =
    let none = lost_tell told all (tick_told past) (due_from 0 past) in (
      serials_grow 0 0 past told (lost_unmarked told all) (unrefused told all) ∙ ap (λ (l : List SerialEvent). serial_events past ++ l) none.0 ∙ append-nil (serial_events past),
      told_grows 0 0 past told ∙ none.1,
    )

lost_known : (side : Side) (past told : List Entry) (now : LinkNow) → AllByRecursion IsCleared told → KnowsLink side past now → KnowsLink side (past ++ told) now
lost_known side past told now all knows = subst (λ (l : List SerialEvent). KnowsEvents true side l now) (sym (lost_serials past told all).0) knows

-- ---- what is told of restarts

-- the last of them is told so far, after all that was told of others
abbrev Last : List Cleared_there → List (List Entry) → List Entry → Type 0
Last all old told =
    (there : List Cleared_there) × (all ≡ there ++ record { entries = told; is_over = false } ∷ []) × (map (λ (one : Cleared_there). one.entries) there ≡ old)

last_restart : (before : List Entry) (words : List ℕ) (told : List Entry) → is_restart (line_of (entry.Said words)) ≡ true → AllByRecursion IsCleared told
    → Last (clears (before ++ entry.Said words ∷ told)) (cleared_in before) told
last_restart [] words told restarts all =
    let first = lost_first told all in (
      [],
      ap₂ (λ (r u : Bool). if r && not u then record { entries = clears_first told; is_over = goes_on_after told } ∷ clears told else clears told) restarts (unrefused told all)
          ∙ ap (λ (l : List Entry). record { entries = l; is_over = goes_on_after told } ∷ clears told) first.0
          ∙ ap₂ (λ (b : Bool) (l : List Cleared_there). record { entries = told; is_over = b } ∷ l) first.1 first.2,
      refl,
    )
last_restart (e ∷ before) words told restarts all =
    by (is_restart (line_of e)) (begins_refused (before ++ entry.Said words ∷ told)) (begins_refused before) (refused_same before (entry.Said words ∷ told) refl) (last_restart before words told restarts all)
  where
    by : (b also refused : Bool) → also ≡ refused → Last (clears (before ++ entry.Said words ∷ told)) (cleared_in before) told
        → Last (if b && not also then record { entries = clears_first (before ++ entry.Said words ∷ told); is_over = goes_on_after (before ++ entry.Said words ∷ told) } ∷ clears (before ++ entry.Said words ∷ told) else clears (before ++ entry.Said words ∷ told))
        (map (λ (one : Cleared_there). one.entries) (if b && not refused then record { entries = clears_first before; is_over = goes_on_after before } ∷ clears before else clears before)) told
    by true true true same last = last
    by true false false same (there, are, old) =
        let one : Cleared_there = record { entries = clears_first (before ++ entry.Said words ∷ told); is_over = goes_on_after (before ++ entry.Said words ∷ told) } in (
          one ∷ there,
          ap (λ (l : List Cleared_there). one ∷ l) are,
          ap₂ (λ (l : List Entry) (r : List (List Entry)). l ∷ r) (first_same before (entry.Said words ∷ told) refl) old,
        )
    by true true false same last = absurd (let none : true ≡ false = same in cc)
    by true false true same last = absurd (let none : false ≡ true = same in cc)
    by false also refused same last = last

last_cleared : (before : List Entry) (words : List ℕ) (told : List Entry) → is_restart (line_of (entry.Said words)) ≡ true → AllByRecursion IsCleared told
    → cleared_in (before ++ entry.Said words ∷ told) ≡ cleared_in before ++ told ∷ []
last_cleared before words told restarts all =
    let (there, are, old) = last_restart before words told restarts all in
    let one : Cleared_there = record { entries = told; is_over = false } in
    ap (λ (l : List Cleared_there). map (λ (c : Cleared_there). c.entries) l) are ∙ map-append (λ (c : Cleared_there). c.entries) there (one ∷ [])
    ∙ ap (λ (l : List (List Entry)). l ++ told ∷ []) old

clear_more : (us ds : List ℕ) (u d : ℕ) → length us ≡ length ds → to_clear (us ++ u ∷ []) (ds ++ d ∷ []) ≡ to_clear us ds ++ (cleared Host u ++ cleared Chip d) ∷ []
clear_more [] [] u d same = refl
clear_more [] (x ∷ ds) u d same = absurd (let none : zero ≡ suc (length ds) = same in cc)
clear_more (x ∷ us) [] u d same = absurd (let none : suc (length us) ≡ zero = same in cc)
clear_more (x ∷ us) (y ∷ ds) u d same =
    let fewer : suc (length us) ≡ suc (length ds) = same in
    ap (λ (l : List (List Entry)). (cleared Host x ++ cleared Chip y) ∷ l) (clear_more us ds u d (omega (arith, fewer)))

-- so much of a restart is told, and this is to be
restart_cuts : (before : List Entry) (words : List ℕ) (told more : List Entry) (up down : LinkNow) (ups downs : List ℕ) (u d : ℕ) → is_restart (line_of (entry.Said words)) ≡ true → AllByRecursion IsCleared told
    → cleared Host u ++ cleared Chip d ≡ told ++ more → KnowsLink Chip (before ++ entry.Said words ∷ told) up → KnowsLink Host (before ++ entry.Said words ∷ told) down → up.lost ≡ ups ++ u ∷ []
    → down.lost ≡ downs ++ d ∷ [] → length ups ≡ length downs → cleared_in before ≡ to_clear ups downs → Cuts (done_by up) (before ++ entry.Said words ∷ told)
restart_cuts before words told more up down ups downs u d restarts all is chip host up_lost down_lost many clears_so =
    let (there, are, old) = last_restart before words told restarts all in
    let dues : to_clear up.lost down.lost ≡ to_clear ups downs ++ (told ++ more) ∷ [] =
    ap₂ (λ (a b : List ℕ). to_clear a b) up_lost down_lost ∙ clear_more ups downs u d many ∙ ap (λ (l : List Entry). to_clear ups downs ++ l ∷ []) is in
    cuts_of (before ++ entry.Said words ∷ told) up down chip host
    (subst (λ (l : List Cleared_there). AreTold l (to_clear up.lost down.lost)) (sym are)
    (subst (λ (l : List (List Entry)). AreTold (there ++ record { entries = told; is_over = false } ∷ []) l) (sym dues) (some_told there (to_clear ups downs) told more (old ∙ clears_so))))

-- ---- the words of a restart

module _ {did : Did} (before : List Entry) (words : List ℕ) (first : Machine) (is_tick : Bool) (up down : LinkNow) (both : KnowsBoth did is_tick before first up down) (may : MayBothEnd up down)
    (read : line_of (entry.Said words) ≡ lines.Restart ∷ []) (due : due_from 0 before ≡ first.outside.outer.clock) where
  abbrev timed : List Entry
  timed = before ++ ticked_entry first.outside.outer

  abbrev all : List Entry
  all = before ++ entry.Said words ∷ []

  said : Says before (entry.Said words ∷ []) (lines.Restart ∷ []) first.outside.outer.clock
  said = says before words [] (lines.Restart ∷ []) first.outside.outer.clock read (λ now from. (refl, refl)) due

  serials : serial_events all ≡ serial_events timed ++ Line_begins (lines.Restart ∷ []) ∷ []
  serials = begun_serials before first is_tick up down both may (entry.Said words ∷ []) (lines.Restart ∷ []) said

  said_time : tick_told all ≡ first.outside.outer.clock
  said_time = said.time

  chip_on : KnowsLink Chip all (restarted up up.life up.link)
  chip_on =
      subst (λ (l : List SerialEvent). KnowsEvents true Chip l (restarted up up.life up.link)) (sym serials)
      (chip_restarts (serial_events timed) up may.0 both.line.chip)

  host_on : (new : LinkSide) → SideObeys [] new → KnowsLink Host all (restarted down [] new)
  host_on new obeys =
      subst (λ (l : List SerialEvent). KnowsEvents true Host l (restarted down [] new)) (sym serials)
      (host_restarts (serial_events timed) down new obeys may.1 both.line.host)

  cleared_before : cleared_in before ≡ to_clear up.lost down.lost
  cleared_before = sym (timed_clears before first.outside.outer) ∙ both.line.clears

  -- whatever host goes on
  pub restart_said : (new : LinkSide) → SideObeys [] new → Cuts (began (done_by up)) all
  restart_said new obeys =
      restart_cuts before words [] (cleared Host (bytes_in up.coming) ++ cleared Chip (bytes_in down.coming)) (restarted up up.life up.link) (restarted down [] new) up.lost down.lost (bytes_in up.coming) (bytes_in down.coming)
      (ap is_restart read) tt refl chip_on (host_on new obeys) refl refl both.line.many cleared_before

-- ---- the host starts again

begun_is_whole : (first m : Machine) → IsBegun first m → IsWhole first → IsWhole m
begun_is_whole first m begun whole = record {
  up = whole.up;
  down = whole.down;
  carried = record {
    to_chip = subst (λ (r : Rest). Carries r m.outside.outer.to_chip whole.up) (sym begun.decoder) (subst (λ (w : WayState). Carries first.outside.outer.chip.decoder w whole.up) (sym begun.to_chip) whole.carried.to_chip);
    to_host = subst (λ (h : HostParts). Carries h.decoder m.outside.outer.to_host whole.down) (sym begun.host) (subst (λ (w : WayState). Carries first.host.decoder w whole.down) (sym begun.to_host) whole.carried.to_host);
  };
  frames = subst HasFrames (sym begun.port) whole.frames;
}

-- the next event, with the events and the entries that follow
abbrev Next : Did → List Event → List Entry → Machine → Event → Type 0
Next did left past m event = Then did (LinksRestarting did left) past m event

module _ (opened_keeps : (keys : Keys) (records : List Record) → KeepsItsLink [] (opened keys records)) where
  opens_so : (keys : Keys) (records : Option (List (List ℕ))) (state : HostState) → IsSome records → OpensFrom keys records state → KeepsItsLink [] state
  opens_so keys None state some opens = absurd (let none : false ≡ true = some in cc)
  opens_so keys (Some texts) state some (records, texts_are, legal, is) = subst (λ (h : HostState). KeepsItsLink [] h) (sym is) (opened_keeps keys records)

  restarts_goes : {did : Did} (past : List Entry) (m : Machine) (state : HostState) → May m (Restarts state) → IsOrderly m (Restarts state) → Cuts did past → LinksBegun did lines.Restart past m
      → Then did (LinksClearing did false) past m (Restarts state)
  unfolding happens entries May
  restarts_goes {did} past m state may orderly cuts (first, just, begun) =
      let (up, down, both, ends) = just.both in
      let counts = counts_so did just.earlier up up.until just.counts both.life both.starts in
      let o : OuterState = first.outside.outer in
      let whole : IsWhole m = begun_is_whole first m begun (whole_both just.is_tick just.before first up down both) in
      let rests : AreAtRest m = (begun_whole just.is_tick just.before first m up down both begun).1 in
      let keeps : KeepsItsLink [] state = opens_so m.keys m.records state orderly.asks may in
      let is : past ++ [] ≡ just.before ++ entry.Said just.words ∷ [] = append-nil past ∙ just.is in (
        subst (Cuts did) (sym (append-nil past)) cuts,
        record {
          before = just.before;
          words = just.words;
          read = just.read;
          up = restarted up up.life up.link;
          down = restarted down [] state.side;
          ups = up.lost;
          downs = down.lost;
          to_chip = bytes_in up.coming;
          to_host = bytes_in down.coming;
          is = is;
          chip = subst (λ (l : List Entry). KnowsLink Chip l (restarted up up.life up.link)) (sym is) (chip_on just.before just.words first just.is_tick up down both ends just.read just.due);
          host = subst (λ (l : List Entry). KnowsLink Host l (restarted down [] state.side)) (sym is) (host_on just.before just.words first just.is_tick up down both ends just.read just.due state.side keeps.obeys);
          life = counts.life;
          starts = counts.starts;
          chip_is = (refl, refl, refl);
          host_is = (refl, refl, refl);
          many = both.line.many;
          clears = cleared_before just.before just.words first just.is_tick up down both ends just.read just.due;
          time = ap (λ (l : List Entry). tick_told l) is ∙ said_time just.before just.words first just.is_tick up down both ends just.read just.due ∙ sym both.chip_time.clock;
          chip_bytes = ap (λ (w : WayState). length w.bytes) begun.to_chip ∙ ap (λ (l : List ℕ). length l) both.chip_way.bytes;
          host_bytes = ap (λ (w : WayState). length w.bytes) begun.to_host ∙ ap (λ (l : List ℕ). length l) both.line.way.bytes;
          chip_time = record { clock = both.chip_time.clock ∙ sym begun.clock; until = both.chip_time.until ∙ sym begun.until };
          host_time = record { clock = both.host_time.clock ∙ sym begun.clock; until = both.host_time.until ∙ sym begun.until };
          chip_link = both.line.link ∙ sym (ap (λ (p : PortState). p.side) begun.port);
          host_link = refl;
          keeps = keeps;
          waits = subst WaitsWell (sym begun.port) both.line.waits;
          whole = whole_after m (Restarts state) whole may (at_rest m (Restarts state) rests) orderly.writes;
          rests = rests_after m (Restarts state) whole rests may tt orderly.writes;
          quiet = begun.quiet;
        },
      )

-- the pipe to the chip is cleared
clears_host : {did : Did} (past : List Entry) (m : Machine) → May m (Outside_does (Clears_pipe Host)) → IsOrderly m (Outside_does (Clears_pipe Host)) → LinksClearing did false past m
    → Then did (LinksClearing did true) past m (Outside_does (Clears_pipe Host))
unfolding happens outcome
clears_host {did} past m may orderly known =
    let event : Event = Outside_does (Clears_pipe Host) in
    let n : Machine = happens m event in
    let u : ℕ = known.to_chip in
    let told : List Entry = cleared Host u in
    let got = quiet_cleared Host m known.quiet in
    let alone : entries m event ≡ told = got.2 ∙ ap (λ (k : ℕ). cleared_entries Host k) known.chip_bytes ∙ lost_is Host u in
    let none = host_cleared m in
    let chip : n.outside.outer.chip ≡ m.outside.outer.chip = (entered_still (outcome m.outside (Clears_pipe Host)).outer (outcome m.outside (Clears_pipe Host)).entries).chip in
    let is : past ++ told ≡ known.before ++ entry.Said known.words ∷ told = ap (λ (l : List Entry). l ++ told) known.is ∙ append_assoc known.before (entry.Said known.words ∷ []) told in
    let of_chip : KnowsLink Chip (past ++ told) known.up = lost_known Chip past told known.up (all_lost Host u) known.chip in
    let of_host : KnowsLink Host (past ++ told) known.down = lost_known Host past told known.down (all_lost Host u) known.host in
    let clock = clock_stays m (Clears_pipe Host) tt in
    let until = until_stays m (Clears_pipe Host) tt in
    subst (λ (l : List Entry). Cuts did (past ++ l) × LinksClearing did true (past ++ l) n) (sym alone) (
      subst (Cuts did) (sym is)
          (cuts_as known.up did (known.before ++ entry.Said known.words ∷ told) known.life known.starts (restart_cuts known.before known.words told (cleared Chip known.to_host) known.up known.down known.ups known.downs u known.to_host (ap is_restart known.read) (all_lost Host u) refl
          (subst (λ (l : List Entry). KnowsLink Chip l known.up) is of_chip) (subst (λ (l : List Entry). KnowsLink Host l known.down) is of_host) known.chip_is.2 known.host_is.2 known.many known.clears)),
      record {
        before = known.before;
        words = known.words;
        read = known.read;
        up = known.up;
        down = known.down;
        ups = known.ups;
        downs = known.downs;
        to_chip = u;
        to_host = known.to_host;
        is = is;
        chip = of_chip;
        host = of_host;
        life = known.life;
        starts = known.starts;
        chip_is = known.chip_is;
        host_is = known.host_is;
        many = known.many;
        clears = known.clears;
        time = (lost_serials past told (all_lost Host u)).1 ∙ known.time;
        chip_bytes = none.0;
        host_bytes = ap (λ (l : List ℕ). length l) none.1 ∙ known.host_bytes;
        chip_time = record { clock = known.chip_time.clock ∙ sym clock; until = known.chip_time.until ∙ sym until };
        host_time = record { clock = known.host_time.clock ∙ sym clock; until = known.host_time.until ∙ sym until };
        chip_link = known.chip_link ∙ sym (ap (λ (c : ChipParts). c.state.port.side) chip);
        host_link = known.host_link;
        keeps = known.keeps;
        waits = subst (λ (c : ChipParts). WaitsWell c.state.port) (sym chip) known.waits;
        whole = whole_after m event known.whole may (at_rest m event known.rests) orderly.writes;
        rests = rests_after m event known.whole known.rests may tt orderly.writes;
        quiet = got.1;
      },
    )

-- and that to the host
clears_chip : {did : Did} (past : List Entry) (m : Machine) → May m (Outside_does (Clears_pipe Chip)) → IsOrderly m (Outside_does (Clears_pipe Chip)) → LinksClearing did true past m
    → Then did (LinksDone did) past m (Outside_does (Clears_pipe Chip))
unfolding happens outcome
clears_chip {did} past m may orderly known =
    let event : Event = Outside_does (Clears_pipe Chip) in
    let n : Machine = happens m event in
    let u : ℕ = known.to_chip in
    let d : ℕ = known.to_host in
    let told : List Entry = cleared Chip d in
    let both_told : List Entry = cleared Host u ++ told in
    let got = quiet_cleared Chip m known.quiet in
    let alone : entries m event ≡ told = got.2 ∙ ap (λ (k : ℕ). cleared_entries Chip k) known.host_bytes ∙ lost_is Chip d in
    let none = chip_cleared m in
    let chip : n.outside.outer.chip ≡ m.outside.outer.chip = (entered_still (outcome m.outside (Clears_pipe Chip)).outer (outcome m.outside (Clears_pipe Chip)).entries).chip in
    let is : past ++ told ≡ known.before ++ entry.Said known.words ∷ both_told =
    ap (λ (l : List Entry). l ++ told) known.is ∙ append_assoc known.before (entry.Said known.words ∷ cleared Host u) told in
    let clock = clock_stays m (Clears_pipe Chip) tt in
    let until = until_stays m (Clears_pipe Chip) tt in
    let time : tick_told (past ++ told) ≡ known.up.clock = (lost_serials past told (all_lost Chip d)).1 ∙ known.time in
    let later : tick_told (past ++ told) ≡ n.outside.outer.clock = time ∙ known.chip_time.clock ∙ sym clock in
    let unticked : ticked_entry n.outside.outer ≡ [] = ticked_none n.outside.outer (not_awaited n.outside.outer got.1) in
    let line : AtLine (past ++ told) n.outside.outer known.up known.down =
    record {
      chip = lost_known Chip past told known.up (all_lost Chip d) known.chip;
      host = lost_known Host past told known.down (all_lost Chip d) known.host;
      link = known.chip_link ∙ sym (ap (λ (c : ChipParts). c.state.port.side) chip);
      waits = subst (λ (c : ChipParts). WaitsWell c.state.port) (sym chip) known.waits;
      way = subst (λ (l : List (List ℕ)). Brings n.outside.outer.to_host l) (sym known.host_is.1) (brings_none n.outside.outer.to_host none.0);
      time = time;
      many = same_many known.up.lost known.down.lost known.ups known.downs u d known.chip_is.2 known.host_is.2 known.many;
      clears = ap (λ (l : List Entry). cleared_in l) is ∙ last_cleared known.before known.words both_told (ap is_restart known.read) (all-append IsCleared (cleared Host u) told (all_lost Host u) (all_lost Chip d))
          ∙ ap (λ (l : List (List Entry)). l ++ both_told ∷ []) known.clears ∙ sym (clear_more known.ups known.downs u d known.many)
          ∙ sym (ap₂ (λ (a b : List ℕ). to_clear a b) known.chip_is.2 known.host_is.2);
    } in
    let known_both : KnowsBoth did false (past ++ told) n known.up known.down =
    record {
      line = subst (λ (l : List Entry). AtLine l n.outside.outer known.up known.down) (sym (ap (λ (l : List Entry). (past ++ told) ++ l) unticked ∙ append-nil (past ++ told))) line;
      behind = omega (arith, later);
      chip_way = subst (λ (l : List (List ℕ)). Brings n.outside.outer.to_chip l) (sym known.chip_is.1) (brings_none n.outside.outer.to_chip (none.1 ∙ known.chip_bytes));
      chip_time = record { clock = known.chip_time.clock ∙ sym clock; until = known.chip_time.until ∙ sym until };
      host_time = record { clock = known.host_time.clock ∙ sym clock; until = known.host_time.until ∙ sym until };
      life = known.life;
      starts = known.starts;
      chip_round = known.chip_is.0;
      host_round = known.host_is.0;
      host_link = known.host_link;
      keeps = known.keeps;
      frames = (whole_after m event known.whole may (at_rest m event known.rests) orderly.writes).frames;
      rests = rests_after m event known.whole known.rests may tt orderly.writes;
    } in
    subst (λ (l : List Entry). Cuts did (past ++ l) × LinksDone did (past ++ l) n) (sym alone)
    (cuts_as known.up did (past ++ told) known.life known.starts (line_cuts (past ++ told) n.outside.outer known.up known.down line), done_of (past ++ told) n known.up known.down got.1 known_both)
  where
    same_many : (a b us ds : List ℕ) (u d : ℕ) → a ≡ us ++ u ∷ [] → b ≡ ds ++ d ∷ [] → length us ≡ length ds → length a ≡ length b
    same_many a b us ds u d a_is b_is many =
        let one : length a ≡ length us + 1 = ap (λ (l : List ℕ). length l) a_is ∙ length-append us (u ∷ []) in
        let two : length b ≡ length ds + 1 = ap (λ (l : List ℕ). length l) b_is ∙ length-append ds (d ∷ []) in
        omega (arith, one, two, many)

-- ---- its effect

as_first : {did : Did} (left : List Event) (first is : Event) (past : List Entry) (m : Machine) → first ≡ is → event_steps m is ≡ [] → Next did left past m is → Next (did ⊕ event_steps m first) left past m first
as_first {did} left first is past m same none goes =
    subst (λ (e : Event). Next (did ⊕ event_steps m e) left past m e) (sym same) (then_more (λ l. LinksRestarting l left) (event_steps m is) past m is none goes)

clears_none : (m : Machine) (side : Side) → event_steps m (Outside_does (Clears_pipe side)) ≡ []
unfolding event_steps outer_steps
clears_none m side = refl

restarts_none : (m : Machine) (state : HostState) → event_steps m (Restarts state) ≡ []
unfolding event_steps
restarts_none m state = refl

refuses_none : (m : Machine) (line : Line) (refusal : Refusal) → event_steps m (Refuses line refusal) ≡ []
unfolding event_steps
refuses_none m line refusal = refl

module _ (opened_keeps : (keys : Keys) (records : List Record) → KeepsItsLink [] (opened keys records)) where
  pub restart_goes : {did : Did} (first : Event) (left : List Event) (past : List Entry) (m : Machine) → May m first → IsOrderly m first → Cuts did past → LinksRestarting did (first ∷ left) past m
      → Next (did ⊕ event_steps m first) left past m first
  restart_goes first left past m may orderly cuts (inl (inl (state, is), begun)) =
      let head : first ≡ Restarts state = cc in
      let tail : left ≡ Outside_does (Clears_pipe Host) ∷ Outside_does (Clears_pipe Chip) ∷ [] = cc in
      let got = restarts_goes opened_keeps past m state (subst (May m) head may) (subst (IsOrderly m) head orderly) cuts begun in
      as_first left first (Restarts state) past m head (restarts_none m state) (got.0, inr (inl (tail, got.1)))
  restart_goes first left past m may orderly cuts (inl (inr (refusal, is), begun)) =
      let head : first ≡ Refuses lines.Restart refusal = cc in
      let tail : left ≡ [] = cc in
      let got = refuses lines.Restart past m lines.Restart refusal (λ d. refl) begun in
      as_first left first (Refuses lines.Restart refusal) past m head (refuses_none m lines.Restart refusal) (got.0, inr (inr (inr (tail, got.1))))
  restart_goes first left past m may orderly cuts (inr (inl (is, known))) =
      let head : first ≡ Outside_does (Clears_pipe Host) = cc in
      let tail : left ≡ Outside_does (Clears_pipe Chip) ∷ [] = cc in
      let got = clears_host past m (subst (May m) head may) (subst (IsOrderly m) head orderly) known in
      as_first left first (Outside_does (Clears_pipe Host)) past m head (clears_none m Host) (got.0, inr (inr (inl (tail, got.1))))
  restart_goes first left past m may orderly cuts (inr (inr (inl (is, known)))) =
      let head : first ≡ Outside_does (Clears_pipe Chip) = cc in
      let tail : left ≡ [] = cc in
      let got = clears_chip past m (subst (May m) head may) (subst (IsOrderly m) head orderly) known in
      as_first left first (Outside_does (Clears_pipe Chip)) past m head (clears_none m Chip) (got.0, inr (inr (inr (tail, got.1))))
  restart_goes first left past m may orderly cuts (inr (inr (inr (is, done)))) = absurd cc

pub restart_done : {did : Did} (past : List Entry) (m : Machine) → LinksRestarting did [] past m → LinksDone did past m
restart_done past m (inl (inl (state, is), begun)) = absurd cc
restart_done past m (inl (inr (refusal, is), begun)) = absurd cc
restart_done past m (inr (inl (is, known))) = absurd cc
restart_done past m (inr (inr (inl (is, known)))) = absurd cc
restart_done past m (inr (inr (inr (is, done)))) = done
