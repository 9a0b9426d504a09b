-- The story of a run of `generate`: each line of the scenario is read from a text, and what is counted of the transcript are entries of its events. Where there was
-- no memory for all of it, the story of its first lines.
use Rattle.std.proofs.Common.{◌≡◌, ℕ, zero, suc, ◌+◌, ◌*◌, ◌<◌, Bool, true, false, cond, if◌then◌else◌, ◌||◌, ◌⊎◌, inl, inr, List, [], ◌∷◌, ◌++◌, map, codes, Ok, Some, refl, sym, ap, subst, ◌∙◌, arith, append_assoc, append-nil}
use Rattle.std.specs.Prelude.{⊤, ◌%◌, ◌==◌, nat_lt, filter}
use Rattle.std.specs.List.{AllByRecursion, flat_map, list_any, range_with_len}
use Rattle.std.proofs.lemmas.List.{map-append}
use Rattle.std.proofs.lemmas.List.Elements.{filter-append}
use Rattle.zw_base.proofs.Each.{all-append, all-left}
use Rattle.zw_base.specs.declared.order.What.TheVariants.{Value}
use Rattle.zw_base.specs.declared.order.Word.{Word}
use Rattle.zw_base.specs.declared.order.Word.TheVariants.{On, Off}
use Rattle.zw_words.specs.Fields.{ends, last, next}
use Rattle.zw_words.specs.Forms.{between_in, digits_in, number_in, target_in, value_in}
use Rattle.zw_words.specs.Words.{line_words, words}
use Rattle.zw_text.specs.Line.{line_at, line_by, line_word_in}
use Rattle.zw_text.specs.declared.line.Line.{Line}
use Rattle.zw_text.specs.declared.line.Line.TheVariants.{Command, Tick, Link, Join, Interview, LoseAck}
use Rattle.zw_text.specs.declared.entry.Entry.{Entry}
use Rattle.zw_text.specs.declared.entry.Entry.TheVariants.{Said}
use Rattle.law_transcript.specs.Restarts.{is_restart}
use Rattle.world_model.specs.State.{Machine}
use Rattle.world_model.specs.Events.{Event}
use Rattle.world_model.specs.Did.{Scene, Stops, happens_all, entries_all, MayAll}
use Rattle.world_model.specs.Lines.{IsLine}
use Rattle.world_model.specs.Prefixes.{LinePart, LinePrefix}
use Rattle.world_model.specs.Table.{table_entries}
use Rattle.run_all.specs.run_sim.World.{first_world, scene}
use Rattle.run_lines.specs.Lines.{TextLine}
use Rattle.run_lines.specs.Pieces.{said_text}
use Rattle.run_lines.specs.declared.running.LinesEnd.TheVariants.{NoMemory}
use Rattle.run_lines.specs.declared.status.Status.{Status}
use Rattle.run_lines.specs.declared.status.Status.TheVariants as status
use Rattle.run_all.specs.run_generate.Generate.{AllDone, IsCutShort, SomeDone, SumsUp, command_lines, first_lines, generated_lines, is_accepted, is_success, joining_lines, loss_lines, node_at, summary_text, word_at}
use Rattle.run_all.specs.run_sim.Sim.{Point, at, said}
use Rattle.world_lines.specs.Done.{IsRead}
use Rattle.run_all.specs.Around.{Around, shelf_in}
use Rattle.run_all.specs.Commands.{RunsGenerate}
use Rattle.proof_commands.specs.Laws.{AreBegun, IsReadAs, IsStory, Ran, TellsAtRestarts, events_of, first, has_restart, lines_of, transcript}
use Rattle.proof_commands.specs.Generate.{HasStory, Tells, TellsInPart, Writes, plain_lines}
use Rattle.proof_commands.proofs.Reading.{are_prefix}
use Rattle.proof_commands.proofs.Speaking.{ReadAgain}
use Rattle.proof_commands.proofs.Stories.{Story, Tale, cut_story, no_tale, none_unentered, schedules_begun, tale_on, whole_story}
use Rattle.proof_commands.proofs.Tables.{TablesShown, shown_table, table_shown}

-- ---- each line is read from a text

-- what an answer unfolds to compute what a text is read as
unfoldable reading : ⊤
unfolding next ends last digits_in number_in between_in target_in value_in words line_words line_word_in line_by
reading = tt

-- a line that a text is read as, and that is no `restart`
record IsMade (line : Line) : Type 0 where
  read : IsRead line
  other : is_restart (line ∷ []) ≡ false

made : (line : Line) (text : List ℕ) → line_at text ≡ Ok (Some line) → is_restart (line ∷ []) ≡ false → IsMade line
made line text is other = record { read = (text, is); other = other }

joining_made : AllByRecursion IsMade (joining_lines 10) × AllByRecursion IsMade (joining_lines 18) × AllByRecursion IsMade (joining_lines 26)
unfolding reading
joining_made = (
  (made (Link 1 10) (codes "link 1 10") refl refl, (made (Join 10) (codes "join 10") refl refl, (made (Interview 10) (codes "interview 10") refl refl, tt))),
  (made (Link 1 18) (codes "link 1 18") refl refl, (made (Join 18) (codes "join 18") refl refl, (made (Interview 18) (codes "interview 18") refl refl, tt))),
  (made (Link 1 26) (codes "link 1 26") refl refl, (made (Join 26) (codes "join 26") refl refl, (made (Interview 26) (codes "interview 26") refl refl, tt))),
)

ten_made : IsMade (Tick 10)
unfolding reading
ten_made = made (Tick 10) (codes "tick 10") refl refl

five_made : IsMade (Tick 5)
unfolding reading
five_made = made (Tick 5) (codes "tick 5") refl refl

loss_made : (seventh : Bool) → AllByRecursion IsMade (if seventh then LoseAck 1 ∷ [] else [])
unfolding reading
loss_made true = (made (LoseAck 1) (codes "loseack 1") refl refl, tt)
loss_made false = tt

-- an order of a turn
abbrev order_line : ℕ → Word → Line
order_line node word = Command (record { node = node; end = 0; what = Value word })

node_made : (place : ℕ) → place < 4 → (on : Bool) → IsMade (order_line (2 + 8 * place) (if on then On else Off))
unfolding reading
node_made zero below true = made (order_line 2 On) (codes "set 2 on") refl refl
node_made zero below false = made (order_line 2 Off) (codes "set 2 off") refl refl
node_made (suc zero) below true = made (order_line 10 On) (codes "set 10 on") refl refl
node_made (suc zero) below false = made (order_line 10 Off) (codes "set 10 off") refl refl
node_made (suc (suc zero)) below true = made (order_line 18 On) (codes "set 18 on") refl refl
node_made (suc (suc zero)) below false = made (order_line 18 Off) (codes "set 18 off") refl refl
node_made (suc (suc (suc zero))) below true = made (order_line 26 On) (codes "set 26 on") refl refl
node_made (suc (suc (suc zero))) below false = made (order_line 26 Off) (codes "set 26 off") refl refl
node_made (suc (suc (suc (suc more)))) below on = absurd (omega (arith, below))

command_made : (turn : ℕ) → AllByRecursion IsMade (command_lines turn)
command_made turn =
    let low : turn % 4 < 4 = omega arith in
    all-append IsMade (loss_lines turn) (order_line (node_at turn) (word_at turn) ∷ Tick 5 ∷ []) (loss_made (turn % 7 == 0))
    (node_made (turn % 4) low (nat_lt (turn % 8) 4), (five_made, tt))

turns_made : (turns : List ℕ) → AllByRecursion IsMade (flat_map command_lines turns)
turns_made [] = tt
turns_made (turn ∷ turns) = all-append IsMade (command_lines turn) (flat_map command_lines turns) (command_made turn) (turns_made turns)

all_made : (hundreds : ℕ) → AllByRecursion IsMade (generated_lines hundreds)
all_made hundreds =
    let two = all-append IsMade (joining_lines 10) (joining_lines 18) joining_made.0 joining_made.1 in
    let joined = all-append IsMade (joining_lines 10 ++ joining_lines 18) (joining_lines 26) two joining_made.2 in
    all-append IsMade first_lines (flat_map command_lines (range_with_len 0 (100 * hundreds)))
    (all-append IsMade ((joining_lines 10 ++ joining_lines 18) ++ joining_lines 26) (Tick 10 ∷ []) joined (ten_made, tt))
    (turns_made (range_with_len 0 (100 * hundreds)))

-- ---- with their texts

abbrev lines_alone : List (TextLine Line) → List Line
lines_alone texts = map (λ (one : TextLine Line). one.line) texts

abbrev restarts_in : List (TextLine Line) → Bool
restarts_in texts = list_any (λ (one : TextLine Line). is_restart (one.line ∷ [])) texts

-- lines, each with a text that is read as it, and none of them a `restart`
record Texts (lines : List Line) : Type 0 where
  pub texts : List (TextLine Line)
  pub lines_are : lines_alone texts ≡ lines
  pub read : AllByRecursion IsReadAs texts
  pub others : restarts_in texts ≡ false

with_texts : (lines : List Line) → AllByRecursion IsMade lines → Texts lines
with_texts [] all = record { texts = []; lines_are = refl; read = tt; others = refl }
with_texts (line ∷ lines) (one, more) =
    let later = with_texts lines more in
    record {
      texts = record { text = one.read.0; line = line } ∷ later.texts;
      lines_are = ap (λ (l : List Line). line ∷ l) later.lines_are;
      read = (one.read.1, later.read);
      others = ap (λ (first : Bool). first || restarts_in later.texts) one.other ∙ later.others;
    }

-- those of the scenario
scenario : (hundreds : ℕ) → Texts (generated_lines hundreds)
scenario hundreds = with_texts (generated_lines hundreds) (all_made hundreds)

-- ---- what is counted

-- entries that no line is
abbrev IsNoLine : (Entry → Bool) → Type 0
IsNoLine counts = (words : List ℕ) → counts (Said words) ≡ false

-- the same entries are counted
abbrev SameCounted : List Entry → List Entry → Type 0
SameCounted a b = (counts : Entry → Bool) → IsNoLine counts → filter counts a ≡ filter counts b

skips : (counts : Entry → Bool) (entry : Entry) (more : List Entry) → counts entry ≡ false → filter counts (entry ∷ more) ≡ filter counts more
skips counts entry more none = ap (λ (counted : Bool). cond counted (entry ∷ filter counts more) (filter counts more)) none

-- ---- the story

-- lines that were done, with the transcript that they would have
record Told (lines : List (TextLine Line)) (old new : Scene) : Type 0 where
  pub transcript : List Entry
  pub tale : Tale lines old.machine new.machine transcript
  pub counted : SameCounted new.entries (old.entries ++ transcript)

one_more : (words : List ℕ) (past some later all : List Entry) → SameCounted all ((past ++ some) ++ later)
    → SameCounted all (past ++ Said words ∷ (some ++ later))
one_more words past some later all same counts none =
    same counts none
    ∙ (ap (filter counts) (append_assoc past some later)
    ∙ (filter-append counts past (some ++ later)
    ∙ (ap (λ (l : List Entry). filter counts past ++ l) (sym (skips counts (Said words) (some ++ later) (none words)))
    ∙ sym (filter-append counts past (Said words ∷ (some ++ later))))))

told_of : (lines : List (TextLine Line)) (old new : Scene) → AllDone (lines_alone lines) old new → Told lines old new
told_of [] old new is =
    record {
      transcript = [];
      tale = no_tale old.machine new.machine [] (ap (λ (s : Scene). s.machine) is) refl;
      counted = λ counts none. ap (λ (s : Scene). filter counts s.entries) is ∙ ap (filter counts) (sym (append-nil old.entries));
    }
told_of (line ∷ lines) old new (mid, (events, is, run), rest) =
    let later = told_of lines mid new rest in
    let some = entries_all old.machine events in
    record {
      transcript = said line ++ (some ++ later.transcript);
      tale =
          tale_on line lines events old.machine new.machine later.transcript is run.may
          (subst (λ (m : Machine). Tale lines m new.machine later.transcript) run.state later.tale);
      counted =
          one_more (said_text line.text) old.entries some later.transcript new.entries
          (subst (λ (l : List Entry). SameCounted new.entries (l ++ later.transcript)) run.entries later.counted);
    }

-- ---- the run

-- nothing was not entered
to_the_end : {A : Type 0} (of : List Event → A) (story : List Ran) → of (events_of story) ≡ of (events_of story ++ [])
to_the_end of story = ap of (sym (append-nil (events_of story)))

same_summary : (a b table : List Entry) → SameCounted a b → summary_text a table ≡ summary_text b table
same_summary a b table same =
    let accepted : filter is_accepted a ≡ filter is_accepted b = same is_accepted (λ words. refl) in
    let succeeded : filter is_success a ≡ filter is_success b = same is_success (λ words. refl) in
    rw (accepted, succeeded) refl

module _ (again : ReadAgain) (tables : TablesShown) (hundreds : ℕ) (key : List ℕ) (old new : Around) (text : List ℕ)
    (sums : SumsUp hundreds key old.devices new.devices (shelf_in old) (shelf_in new) text) where
  texts : Texts (generated_lines hundreds)
  texts = scenario hundreds

  told : Told texts.texts (scene (first_world key) old.devices (shelf_in old) []) sums.last
  told = told_of texts.texts (scene (first_world key) old.devices (shelf_in old) []) sums.last
      (subst (λ (l : List Line). AllDone l (scene (first_world key) old.devices (shelf_in old) []) sums.last) (sym texts.lines_are) sums.done)

  begun : AreBegun (first key old) told.tale.story
  begun = schedules_begun (first key old) told.tale.story told.tale.schedules

  is_story : IsStory key old new told.tale.story []
  is_story = record {
    read = subst (λ (l : List (TextLine Line)). AllByRecursion IsReadAs l) (sym told.tale.lines_are) texts.read;
    begun = begun;
    may = subst (λ (l : List Event). MayAll (first key old) l) (sym (append-nil (events_of told.tale.story))) told.tale.may;
    rest = none_unentered (first key old) told.tale.story begun;
    devices = sym sums.devices
        ∙ (ap (λ (m : Machine). m.outside.devices) told.tale.state
        ∙ to_the_end (λ (l : List Event). (happens_all (first key old) l).outside.devices) told.tale.story);
    records = sym sums.records_are
        ∙ (ap (λ (m : Machine). m.records) told.tale.state ∙ to_the_end (λ (l : List Event). (happens_all (first key old) l).records) told.tale.story);
  }

  lines_are : plain_lines told.tale.story ≡ generated_lines hundreds
  lines_are = ap lines_alone told.tale.lines_are ∙ texts.lines_are

  -- the scenario has no `restart`
  no_restart : TellsAtRestarts old told.tale.story
  no_restart restarts =
      let none : has_restart told.tale.story ≡ false = ap restarts_in told.tale.lines_are ∙ texts.others in
      absurd cc

  table_is : table_entries sums.last.machine ≡ shown_table old (transcript key old told.tale.story) new.devices
  table_is = ap table_entries told.tale.state ∙ table_shown again tables key old new told.tale.story is_story told.tale.schedules no_restart

  -- the summary is that of the transcript
  text_is : text ≡ summary_text (transcript key old told.tale.story) (shown_table old (transcript key old told.tale.story) new.devices)
  text_is = sums.text_is
      ∙ (ap (λ (table : List Entry). summary_text sums.last.entries table) table_is
      ∙ (same_summary sums.last.entries told.transcript (shown_table old (transcript key old told.tale.story) new.devices) told.counted
      ∙ ap (λ (past : List Entry). summary_text past (shown_table old (transcript key old told.tale.story) new.devices)) told.tale.entered))

  tells : (ended : Status) → Writes ended text old.written new.written → Tells ended hundreds key old new told.tale.story
  tells ended writes = record {
    lines = lines_are;
    is = is_story;
    schedules = told.tale.schedules;
    written = subst (λ (bytes : List ℕ). Writes ended bytes old.written new.written) text_is writes;
  }

-- ---- a run without memory for all of it

-- lines of which one was cut short, after those before it were run whole
record Cut (lines : List (TextLine Line)) (m : Machine) (new : Scene) : Type 0 where
  pub whole : List (TextLine Line)
  pub line : TextLine Line
  pub rest : List (TextLine Line)
  pub are : lines ≡ whole ++ line ∷ rest
  pub mid : Scene
  pub transcript : List Entry
  pub tale : Tale whole m mid.machine transcript
  pub stops : Stops (LinePrefix line.line) mid new

-- all of them were run whole, or one was cut short
abbrev SomeTold : List (TextLine Line) → Machine → Scene → Type 0
SomeTold lines m new = ((T : List Entry) × Tale lines m new.machine T) ⊎ Cut lines m new

one_before : (line : TextLine Line) (lines : List (TextLine Line)) (events : List Event) (m : Machine) (new : Scene) → IsLine line.line m events → MayAll m events
    → SomeTold lines (happens_all m events) new → SomeTold (line ∷ lines) m new
one_before line lines events m new is may (inl (T, tale)) = inl (said line ++ (entries_all m events ++ T), tale_on line lines events m new.machine T is may tale)
one_before line lines events m new is may (inr cut) = inr (record {
  whole = line ∷ cut.whole;
  line = cut.line;
  rest = cut.rest;
  are = ap (λ (l : List (TextLine Line)). line ∷ l) cut.are;
  mid = cut.mid;
  transcript = said line ++ (entries_all m events ++ cut.transcript);
  tale = tale_on line cut.whole events m cut.mid.machine cut.transcript is may cut.tale;
  stops = cut.stops;
})

some_told : (lines : List (TextLine Line)) (old new : Scene) → SomeDone (lines_alone lines) old new → SomeTold lines old.machine new
some_told [] old new is = inl ([], no_tale old.machine new.machine [] (ap (λ (s : Scene). s.machine) is) refl)
some_told (line ∷ lines) old new (inl stops) = inr (record {
  whole = [];
  line = line;
  rest = lines;
  are = refl;
  mid = old;
  transcript = [];
  tale = no_tale old.machine old.machine [] refl refl;
  stops = stops;
})
some_told (line ∷ lines) old new (inr (mid, (events, is, run), some)) =
    one_before line lines events old.machine new is run.may (subst (λ (m : Machine). SomeTold lines m new) run.state (some_told lines mid new some))

-- the same events, entered after the words of the line
abbrev standing : Scene → Point
standing s = record { machine = s.machine; faults = s.faults; number = 0; reads = 0 }

entered_so : (line : TextLine Line) (mid new : Scene) (stops : Stops (LinePrefix line.line) mid new)
    → Stops (LinePart line.line) (at (standing mid) (said line)) (at (standing new) (said line ++ entries_all mid.machine stops.whole))
entered_so line mid new stops = record {
  whole = stops.whole;
  last = stops.last;
  prefix = inr stops.prefix;
  moved = inr stops.moved;
  kept = stops.kept;
  of_host = stops.of_host;
  may = stops.may;
  devices = stops.devices;
  records = stops.records;
  entered = refl;
  counted = stops.counted;
}

-- the story of first lines
record PartStory (lines : List (TextLine Line)) (m last : Machine) : Type 0 where
  pub run : List (TextLine Line)
  pub rest : List (TextLine Line)
  pub are : lines ≡ run ++ rest
  pub transcript : List Entry
  pub story : Story NoMemory run m last transcript

part_story : (lines : List (TextLine Line)) (m : Machine) (new : Scene) → SomeTold lines m new → PartStory lines m new.machine
part_story lines m new (inl (T, tale)) = record {
  run = lines;
  rest = [];
  are = sym (append-nil lines);
  transcript = T;
  story = whole_story NoMemory lines lines m new.machine T (λ story are. inl are) (λ story whole. tt) tale;
}
part_story lines m new (inr cut) =
    let some = said cut.line ++ entries_all cut.mid.machine cut.stops.whole in
    record {
      run = cut.whole ++ cut.line ∷ [];
      rest = cut.rest;
      are = cut.are ∙ sym (append_assoc cut.whole (cut.line ∷ []) cut.rest);
      transcript = cut.transcript ++ some;
      story =
          cut_story cut.whole cut.line m (standing cut.mid) (standing new) cut.transcript some cut.tale
          (entered_so cut.line cut.mid new cut.stops);
    }

module _ (hundreds : ℕ) (key : List ℕ) (old new : Around)
    (cut : IsCutShort hundreds key old.devices new.devices (shelf_in old) (shelf_in new)) where
  part : PartStory (scenario hundreds).texts (first key old) cut.last.machine
  part = part_story (scenario hundreds).texts (first key old) cut.last
      (some_told (scenario hundreds).texts (scene (first_world key) old.devices (shelf_in old) []) cut.last
      (subst (λ (l : List Line). SomeDone l (scene (first_world key) old.devices (shelf_in old) []) cut.last) (sym (scenario hundreds).lines_are) cut.done))

  -- the lines that were run, and those that were not
  abbrev run : List (TextLine Line)
  run = lines_of part.story.story

  not_run : (rest : List (TextLine Line)) × (run ++ rest ≡ part.run)
  not_run = are_prefix NoMemory part.story.story part.run part.story.lines_are

  split : (scenario hundreds).texts ≡ run ++ (not_run.0 ++ part.rest)
  split = part.are ∙ (ap (λ (l : List (TextLine Line)). l ++ part.rest) (sym not_run.1) ∙ append_assoc run not_run.0 part.rest)

  tells_in_part : new.written ≡ old.written → TellsInPart hundreds key old new part.story.story part.story.unentered
  tells_in_part still = record {
    rest = lines_alone (not_run.0 ++ part.rest);
    lines = sym (scenario hundreds).lines_are ∙ (ap lines_alone split ∙ map-append (λ (one : TextLine Line). one.line) run (not_run.0 ++ part.rest));
    is = record {
      read = all-left IsReadAs run (not_run.0 ++ part.rest) (subst (λ (l : List (TextLine Line)). AllByRecursion IsReadAs l) split (scenario hundreds).read);
      begun = part.story.begun;
      may = part.story.may;
      rest = part.story.rest;
      devices = sym cut.devices ∙ part.story.devices;
      records = sym cut.records_are ∙ part.story.records;
    };
    written = still;
  }

-- ---- each end

module _ (again : ReadAgain) (tables : TablesShown) (key : List ℕ) (old new : Around) (hundreds : ℕ) where
  pub generate_told : (ended : Status) → RunsGenerate ended hundreds key old new → HasStory ended hundreds key old new
  generate_told status.Ok (text, sums, writes) = (_, tells again tables hundreds key old new text sums status.Ok writes)
  generate_told status.WriteFault (text, sums, writes) = (_, tells again tables hundreds key old new text sums status.WriteFault writes)
  generate_told status.NoMemory (cut, still) = (_, _, tells_in_part hundreds key old new cut still)
  generate_told ended ran = absurd ran
