-- The lines of `include` in parts, and each part as events.
use Rattle.std.proofs.Common.{◌≡◌, ℕ, ◌≤◌, inl, inr, Option, Some, List, [], ◌∷◌, ◌++◌, map, refl, sym, ap, subst, ◌∙◌, append_assoc, append-nil}
use Rattle.include_text.specs.declared.line.IncludeLine.{IncludeLine}
use Rattle.include_text.specs.declared.line.IncludeLine.TheVariants.{Add}
use Rattle.include_text.specs.declared.entry.IncludeEntry.{IncludeEntry}
use Rattle.include_world.specs.World.{WorldState, IncludeEvent, AllDrawn, Did, entries_all, first_world}
use Rattle.include_world.specs.Line.{IsLine}
use Rattle.include_world.specs.Added.{IsSecure, last_word}
use Rattle.include_world.proofs.DoneEvents.{did_both, did_nothing}
use Rattle.run_lines.specs.declared.running.LinesEnd.{LinesEnd}
use Rattle.run_lines.specs.declared.running.LinesEnd.TheVariants.{All, Bad, ReadFailed, TooMuch, WriteFailed, NoMemory}
use Rattle.run_lines.specs.declared.status.Status.{Status}
use Rattle.run_lines.specs.Lines.{TextLine, Runs, AllRan, StopsIn, RanLines}
use Rattle.run_include.specs.Run.{LineRan, PartRan, IncludeRan}
use Rattle.proof_include.specs.Adding.{Adds}
use Rattle.proof_include.specs.Lines.{AreLines, CameTo}
use Rattle.proof_commands.specs.Include.{AreWhole, Part, lines_of}

-- ---- runs of lines, in parts

record Cut {L P E : Type 0} (Ran : Runs L P E) (before rest : List (TextLine L)) (old new : P) (T : List E) : Type 0 where
  mid : P
  past : List E
  later : List E
  ran : AllRan Ran before old mid past
  more : AllRan Ran rest mid new later
  are : T ≡ past ++ later

cut : {L P E : Type 0} (Ran : Runs L P E) (before rest : List (TextLine L)) (old new : P) (T : List E) → AllRan Ran (before ++ rest) old new T → Cut Ran before rest old new T
cut Ran [] rest old new T ran = record { mid = old; past = []; later = T; ran = (refl, refl); more = ran; are = refl }
cut {L} {P} {E} Ran (line ∷ before) rest old new T (mid, some, more, one, others, are) =
    let c = cut Ran before rest mid new more others in
    record {
      mid = c.mid;
      past = some ++ c.past;
      later = c.later;
      ran = (mid, some, c.past, one, c.ran, refl);
      more = c.more;
      are = are ∙ (ap (λ (l : List E). some ++ l) c.are ∙ sym (append_assoc some c.past c.later));
    }

-- the same of a run whose last line was run in part
record CutTo {L P E : Type 0} (end : LinesEnd) (Ran Stopped : Runs L P E) (before rest : List (TextLine L)) (old new : P) (T : List E) : Type 0 where
  mid : P
  past : List E
  later : List E
  ran : AllRan Ran before old mid past
  more : RanLines end Ran Stopped rest mid new later
  are : T ≡ past ++ later

whole : {L P E : Type 0} (end : LinesEnd) (Ran Stopped : Runs L P E) (before rest : List (TextLine L)) (old new : P) (T : List E)
    → ((later : List E) (mid : P) → AllRan Ran rest mid new later → RanLines end Ran Stopped rest mid new later)
    → AllRan Ran (before ++ rest) old new T → CutTo end Ran Stopped before rest old new T
whole end Ran Stopped before rest old new T still ran =
    let c = cut Ran before rest old new T ran in
    record { mid = c.mid; past = c.past; later = c.later; ran = c.ran; more = still c.later c.mid c.more; are = c.are }

-- the last line is one of those after
record Last {A : Type 0} (before : List A) (one : A) (more prefix : List A) (last : A) : Type 0 where
  kept : List A
  prefix_is : prefix ≡ before ++ kept
  rest_is : one ∷ more ≡ kept ++ last ∷ []

tail_of : {A : Type 0} {x y : A} {xs ys : List A} → x ∷ xs ≡ y ∷ ys → xs ≡ ys
tail_of {A} {x} {y} {xs} {ys} e = cc

head_of : {A : Type 0} {x y : A} {xs ys : List A} → x ∷ xs ≡ y ∷ ys → x ≡ y
head_of {A} {x} {y} {xs} {ys} e = cc

no_more : {A : Type 0} (before : List A) (one : A) (more : List A) → [] ≡ before ++ one ∷ more → ⊥
no_more [] one more e = absurd cc
no_more (x ∷ before) one more e = absurd cc

last_in : {A : Type 0} (before : List A) (one : A) (more prefix : List A) (last : A) → prefix ++ last ∷ [] ≡ before ++ one ∷ more → Last before one more prefix last
last_in [] one more prefix last e = record { kept = prefix; prefix_is = refl; rest_is = sym e }
last_in (x ∷ before) one more [] last e = absurd (no_more before one more (tail_of e))
last_in {A} (x ∷ before) one more (y ∷ prefix) last e =
    let l = last_in before one more prefix last (tail_of e) in
    record { kept = l.kept; prefix_is = ap (λ (xs : List A). y ∷ xs) l.prefix_is ∙ ap (λ (z : A). z ∷ (before ++ l.kept)) (head_of e); rest_is = l.rest_is }

stopped : {L P E : Type 0} (Ran Stopped : Runs L P E) (before : List (TextLine L)) (one : TextLine L) (more : List (TextLine L)) (old new : P) (T : List E)
    → StopsIn Ran Stopped (before ++ one ∷ more) old new T → CutTo NoMemory Ran Stopped before (one ∷ more) old new T
stopped {L} {P} {E} Ran Stopped before one more old new T s =
    let l = last_in before one more s.prefix s.last (sym s.lines_are) in
    let c = cut Ran before l.kept old s.mid s.before (subst (λ (xs : List (TextLine L)). AllRan Ran xs old s.mid s.before) l.prefix_is s.ran) in
    record {
      mid = c.mid;
      past = c.past;
      later = c.later ++ s.entries;
      ran = c.ran;
      more = inr (record {
        prefix = l.kept;
        last = s.last;
        mid = s.mid;
        before = c.later;
        entries = s.entries;
        lines_are = l.rest_is;
        ran = c.more;
        stopped = s.stopped;
        transcript_is = refl;
      });
      are = s.transcript_is ∙ (ap (λ (l : List E). l ++ s.entries) c.are ∙ append_assoc c.past c.later s.entries);
    }

no_memory : (before after : List (TextLine IncludeLine)) (old new : WorldState) (T : List IncludeEntry) → (after ≡ [] → ⊥)
    → RanLines NoMemory LineRan PartRan (before ++ after) old new T → CutTo NoMemory LineRan PartRan before after old new T
no_memory before after old new T some (inl ran) = whole NoMemory LineRan PartRan before after old new T (λ later mid more. inl more) ran
no_memory before [] old new T some (inr s) = absurd (some refl)
no_memory before (one ∷ more) old new T some (inr s) = stopped LineRan PartRan before one more old new T s

cut_to : (end : LinesEnd) (before after : List (TextLine IncludeLine)) (old new : WorldState) (T : List IncludeEntry) → AreWhole end after
    → RanLines end LineRan PartRan (before ++ after) old new T → CutTo end LineRan PartRan before after old new T
cut_to All before after old new T are ran = whole All LineRan PartRan before after old new T (λ later mid more. more) ran
cut_to (Bad number fault) before after old new T are ran = whole (Bad number fault) LineRan PartRan before after old new T (λ later mid more. more) ran
cut_to ReadFailed before after old new T are ran = whole ReadFailed LineRan PartRan before after old new T (λ later mid more. more) ran
cut_to TooMuch before after old new T are ran = whole TooMuch LineRan PartRan before after old new T (λ later mid more. more) ran
cut_to WriteFailed before after old new T are ran = whole WriteFailed LineRan PartRan before after old new T (λ later mid more. more) ran
cut_to NoMemory before after old new T are ran = no_memory before after old new T are ran

pub part_of : {status : Status} {key : List ℕ} {left left' sink sink' : Option (List ℕ)} (ran : IncludeRan status key left left' sink sink') (before lines after : List (TextLine IncludeLine))
    → lines_of ran ≡ before ++ (lines ++ after) → AreWhole ran.told.end after → Part ran before lines after
part_of {status} {key} {left} {left'} {sink} {sink'} ran before lines after are all =
    let same : lines_of ran ≡ (before ++ lines) ++ after = are ∙ sym (append_assoc before lines after) in
    let c = cut_to ran.told.end (before ++ lines) after (first_world key) ran.world ran.told.transcript all
    (subst (λ (xs : List (TextLine IncludeLine)). RanLines ran.told.end LineRan PartRan xs (first_world key) ran.world ran.told.transcript) same ran.told.ran) in
    let d = cut LineRan before lines (first_world key) c.mid c.past c.ran in
    record {
      past = d.past;
      shown = d.later;
      later = c.later;
      start = d.mid;
      next = c.mid;
      ran_before = d.ran;
      ran_lines = d.more;
      ran_after = c.more;
      transcript_is = c.are ∙ (ap (λ (l : List IncludeEntry). l ++ c.later) d.are ∙ append_assoc d.past d.later c.later);
    }

-- ---- lines as events

abbrev lines_alone : List (TextLine IncludeLine) → List IncludeLine
lines_alone lines = map (λ (line : TextLine IncludeLine). line.line) lines

record Told (lines : List (TextLine IncludeLine)) (old new : WorldState) (T : List IncludeEntry) : Type 0 where
  events : List IncludeEvent
  are : AreLines (lines_alone lines) old events
  did : Did events old new [] T

told : (lines : List (TextLine IncludeLine)) (old new : WorldState) (T : List IncludeEntry) → AllRan LineRan lines old new T → Told lines old new T
told [] old new T ran = record { events = []; are = refl; did = did_nothing old new [] T ran.0 ran.1 }
told (line ∷ lines) old new T (mid, entries, later, one, rest, are) =
    let t = told lines mid new later rest in
    let more : Did t.events mid new entries T
    = record { drawn = t.did.drawn; arrives = t.did.arrives; state = t.did.state; entries = are ∙ ap (λ (l : List IncludeEntry). entries ++ l) t.did.entries } in
    record {
      events = one.events ++ t.events;
      are = (one.events, t.events, refl, one.is_line, subst (λ (w : WorldState). AreLines (lines_alone lines) w t.events) one.did.state t.are);
      did = did_both one.events t.events old mid new [] entries T one.did more;
    }

module _ (key : List ℕ) (more : (key : List ℕ) (T entries : List IncludeEntry) (old new : WorldState) (line : IncludeLine) (events : List IncludeEvent) → CameTo key T old → IsLine line old events
    → Did events old new [] entries → CameTo key (T ++ entries) new) where
  came : (lines : List (TextLine IncludeLine)) (old new : WorldState) (past T : List IncludeEntry) → CameTo key past old → AllRan LineRan lines old new T → CameTo key (past ++ T) new
  came [] old new past T c ran =
      subst (λ (w : WorldState). CameTo key (past ++ T) w) (sym ran.0)
      (subst (λ (l : List IncludeEntry). CameTo key l old) (sym (append-nil past) ∙ ap (λ (l : List IncludeEntry). past ++ l) (sym ran.1)) c)
  came (line ∷ lines) old new past T c (mid, some, later, one, rest, are) =
      subst (λ (l : List IncludeEntry). CameTo key l new) (append_assoc past some later ∙ ap (λ (l : List IncludeEntry). past ++ l) (sym are))
      (came lines mid new (past ++ some) later (more key past some old mid line.line one.events c one.is_line one.did) rest)

module _ (law : (key : List ℕ) (T : List IncludeEntry) (w : WorldState) → CameTo key T w → (node : ℕ) → 1 ≤ node → node ≤ 232 → (ticks : List IncludeLine) (events : List IncludeEvent)
    → AreLines (Add node ∷ ticks) w events → AllDrawn events → Adds node ticks T (entries_all w events) → last_word node (T ++ entries_all w events) ≡ Some IsSecure)
    (more : (key : List ℕ) (T entries : List IncludeEntry) (old new : WorldState) (line : IncludeLine) (events : List IncludeEvent) → CameTo key T old → IsLine line old events
    → Did events old new [] entries → CameTo key (T ++ entries) new) where
  pub adds_securely : {status : Status} {key : List ℕ} {left left' sink sink' : Option (List ℕ)} → CameTo key [] (first_world key) → (ran : IncludeRan status key left left' sink sink')
      (before ticks after : List (TextLine IncludeLine)) (add : TextLine IncludeLine) (part : Part ran before (add ∷ ticks) after) → (node : ℕ) → 1 ≤ node → node ≤ 232 → add.line ≡ Add node
      → Adds node (lines_alone ticks) part.past part.shown → last_word node (part.past ++ part.shown) ≡ Some IsSecure
  adds_securely {status} {key} {left} {left'} {sink} {sink'} start ran before ticks after add part node from to is adds =
      let t = told (add ∷ ticks) part.start part.next part.shown part.ran_lines in
      let shown : part.shown ≡ entries_all part.start t.events = t.did.entries in
      ap (λ (l : List IncludeEntry). last_word node (part.past ++ l)) shown
      ∙ law key part.past part.start (came key more before (first_world key) part.start [] part.past start part.ran_before) node from to (lines_alone ticks) t.events
      (subst (λ (l : IncludeLine). AreLines (l ∷ lines_alone ticks) part.start t.events) is t.are) t.did.drawn
      (subst (λ (l : List IncludeEntry). Adds node (lines_alone ticks) part.past l) shown adds)
