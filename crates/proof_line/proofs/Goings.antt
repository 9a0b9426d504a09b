-- What is known of both pipes goes on through what is told at an event, with the number of the tick: in general, and where neither side has answered.
use Rattle.std.proofs.Common.{◌≡◌, ◌≤◌, ◌⊎◌, ℕ, ◌+◌, Bool, true, false, List, [], ◌∷◌, ◌++◌, length, drop, inl, inr, refl, sym, ap, subst, ◌∙◌, append-nil, append_assoc, arith}
use Rattle.std.specs.List.{AllByRecursion}
use Rattle.serial_frame.specs.Items.{IsUnit}
use Rattle.serial_frame.specs.Stream.{no_rest, Feeds}
use Rattle.serial_frame.specs.declared.unit.Unit.{Unit as LineUnit}
use Rattle.serial_pipes.specs.State.{WayState}
use Rattle.zw_words.specs.declared.side.Side.{Side}
use Rattle.zw_words.specs.declared.side.Side.TheVariants.{Host as by_host, Chip as by_chip}
use Rattle.zw_text.specs.declared.entry.Entry.{Entry}
use Rattle.zw_text.specs.declared.entry.Entry.TheVariants as entry
use Rattle.zw_text.specs.Transcript.{line_of, same_side}
use Rattle.law_wire.specs.law_transcript.Lists.{EachAfter}
use Rattle.law_wire.specs.Pipes.{Pipe, empty_pipe, with_turn, pipe_from, sum_of}
use Rattle.proof_walk.proofs.Lists.{each-append}
use Rattle.proof_world.specs.proof_serial.Way.{written_all}
use Rattle.proof_line.specs.Arrivals.{arrived, Comes}
use Rattle.proof_line.specs.Rooms.{MayFit, LastFits, Fills}
use Rattle.proof_line.proofs.Arriving.{time_same, comes_at}
use Rattle.proof_line.proofs.Holding.{Joins, TellsNothing, pipe_grows}
use Rattle.proof_world.proofs.Outer.{wrong as no_refusal}
use Rattle.proof_line.proofs.Fitting.{apart_fits}
use Rattle.proof_line.proofs.Tellings.{Tells, tells_none, answers_all, AreFew, Written, writes}
use Rattle.proof_line.proofs.Numbering.{IsNumber, Numbered}

-- ---- one pipe

-- its frames are the same
pub fills_as : (way : WayState) (old new : Pipe) → new.frames ≡ old.frames → (new.has_written ≡ false → new.answers ≡ 0) → Fills way old → Fills way new
fills_as way old new frames idle fills = record {
  items = fills.items;
  carries = fills.carries;
  many = ap (λ (l : List ℕ). length l) frames ∙ fills.many;
  few = subst (λ (l : List ℕ). sum_of l ≤ length way.bytes) (sym frames) fills.few;
  long = subst (λ (l : List ℕ). length l + length l ≤ sum_of l) (sym frames) fills.long;
  room = fills.room;
  idle = idle;
}

-- only the bytes matter
pub fills_same : (way later : WayState) (pipe : Pipe) → later.bytes ≡ way.bytes → Fills way pipe → Fills later pipe
fills_same way later pipe same fills = record {
  items = fills.items;
  carries = subst (λ (l : List ℕ). Feeds no_rest l no_rest fills.items) (sym same) fills.carries;
  many = fills.many;
  few = subst (λ (l : List ℕ). sum_of pipe.frames ≤ length l) (sym same) fills.few;
  long = fills.long;
  room = subst (λ (l : List ℕ). length l ≤ 4096) (sym same) fills.room;
  idle = fills.idle;
}

-- nothing is on its way
pub fills_none : (way : WayState) (pipe : Pipe) → way.bytes ≡ [] → pipe.frames ≡ [] → (pipe.has_written ≡ false → pipe.answers ≡ 0) → Fills way pipe
fills_none way pipe none empty idle = record {
  items = [];
  carries = subst (λ (l : List ℕ). Feeds no_rest l no_rest []) (sym none) (record { reads = (tt, refl); ticks = refl });
  many = ap (λ (l : List ℕ). length l) empty;
  few = subst (λ (l : List ℕ). sum_of l ≤ length way.bytes) (sym empty) (none_few (length way.bytes));
  long = subst (λ (l : List ℕ). length l + length l ≤ sum_of l) (sym empty) (none_few 0);
  room = subst (λ (l : List ℕ). length l ≤ 4096) (sym none) (none_few 4096);
  idle = idle;
}
  where
    none_few : (n : ℕ) → 0 ≤ n
    none_few n = omega arith

-- each side has its turn
pub record IsTurned (old new : Pipe) : Type 0 where
  pub frames : new.frames ≡ old.frames
  pub answers : new.answers ≡ 0

pub side_turned : (side : Side) (pipe : Pipe) → IsTurned pipe (with_turn side pipe)
side_turned by_host pipe = record { frames = refl; answers = refl }
side_turned by_chip pipe = record { frames = refl; answers = refl }

pub time_turned : (side : Side) (past : List Entry) (tick : ℕ) → IsTurned (pipe_from side empty_pipe past) (pipe_from side empty_pipe (past ++ entry.Time tick ∷ []))
time_turned side past tick =
    subst (λ (p : Pipe). IsTurned (pipe_from side empty_pipe past) p) (sym (pipe_grows side empty_pipe past (entry.Time tick ∷ []) tt no_refusal)) (side_turned side (pipe_from side empty_pipe past))

pub fills_turned : (way : WayState) (old new : Pipe) → IsTurned old new → Fills way old → Fills way new
fills_turned way old new turned fills = fills_as way old new turned.frames (λ none. turned.answers) fills

none_due : (frames : List ℕ) → 0 ≤ length frames
none_due frames = omega arith

-- ---- both

module _ (Is : Entry → Type 0) (nothing : (e : Entry) → Is e → TellsNothing e) (Good : List Entry → Type 0)
    (stays : (past : List Entry) (e : Entry) → line_of e ≡ [] → Good past → Good (past ++ e ∷ []))
    (joins : (past : List Entry) (e : Entry) → Is e → Good past → Joins past (e ∷ []))
    (side other : Side) (apart : same_side other side ≡ false) where
  abbrev Own : List Entry → Pipe
  Own past = pipe_from side empty_pipe past

  abbrev Oth : List Entry → Pipe
  Oth past = pipe_from other empty_pipe past

  -- the ways of this side and of the other are shown by the entries
  pub record Lies (past : List Entry) (way across : WayState) : Type 0 where
    pub own : Fills way (Own past)
    pub oth : Fills across (Oth past)
    pub own_comes : Comes way (arrived side past)
    pub oth_comes : Comes across (arrived other past)
    pub fits : LastFits past
    pub good : Good past

  module _ (way across : WayState) (Known : Pipe → Pipe → Type 0) (Tight : ℕ → Type 0)
      (turns : (own oth : Pipe) → Fills way own → Fills across oth → own.answers ≡ 0 → oth.answers ≡ 0 → Known own oth) where
    -- the number of the tick, where it is to be entered
    pub record AfterNumber (past number : List Entry) : Type 0 where
      pub each : EachAfter MayFit past number
      pub lies : Lies (past ++ number) way across
      pub known : Known (Own (past ++ number)) (Oth (past ++ number))

    numbers : (awaits : Bool) (number : List Entry) → IsNumber awaits number → (past : List Entry) → Lies past way across → (awaits ≡ false → Known (Own past) (Oth past)) → AfterNumber past number
    numbers true number (tick, is) past lies known =
        let own = time_turned side past tick in
        let oth = time_turned other past tick in
        let own_fills = fills_turned way (Own past) (Own (past ++ entry.Time tick ∷ [])) own lies.own in
        let oth_fills = fills_turned across (Oth past) (Oth (past ++ entry.Time tick ∷ [])) oth lies.oth in
        subst (AfterNumber past) (sym is) (record {
          each = (lies.fits, tt);
          lies = record {
            own = own_fills;
            oth = oth_fills;
            own_comes = comes_at way (arrived side past) (arrived side (past ++ entry.Time tick ∷ [])) (time_same side past tick) lies.own_comes;
            oth_comes = comes_at across (arrived other past) (arrived other (past ++ entry.Time tick ∷ [])) (time_same other past tick) lies.oth_comes;
            fits = apart_fits past (entry.Time tick) refl;
            good = stays past (entry.Time tick) refl lies.good;
          };
          known = turns (Own (past ++ entry.Time tick ∷ [])) (Oth (past ++ entry.Time tick ∷ [])) own_fills oth_fills own.answers oth.answers;
        })
    numbers false number is past lies known =
        subst (AfterNumber past) (sym is) (record {
          each = tt;
          lies = subst (λ (l : List Entry). Lies l way across) (sym (append-nil past)) lies;
          known = subst (λ (l : List Entry). Known (Own l) (Oth l)) (sym (append-nil past)) (known refl);
        })

    -- how much more the pipe may surely hold than is there, which leaves room for these units
    pub record HasRoom (units : List LineUnit) (own oth : Pipe) : Type 0 where
      pub more : ℕ
      pub loose : sum_of own.frames + own.answers ≤ length way.bytes + more
      pub few : AreFew Is nothing Good stays joins side other apart more way units
      pub tight : (units ≡ []) ⊎ Tight more
      pub due : answers_all units ≤ length oth.frames

    -- these units were written from there on; what was known is known there, unless a number is still to be entered
    pub record WrittenFrom (after : Bool) (all : List Entry) (units : List LineUnit) : Type 0 where
      pub start : List Entry
      pub more : ℕ
      pub lies : Lies start way across
      pub known : after ≡ false → Known (Own start) (Oth start)
      pub tight : (units ≡ []) ⊎ Tight more
      pub written : Written Is nothing Good stays joins side other apart more start all way units

    -- nothing is entered
    stays_so : (before after : Bool) (past entries : List Entry) (units : List LineUnit) → units ≡ [] → entries ≡ [] → after ≡ before → Lies past way across → (before ≡ false → Known (Own past) (Oth past))
        → EachAfter MayFit past entries × WrittenFrom after (past ++ entries) units
    stays_so before after past entries units none entered same lies known =
        let more : ℕ = (Own past).answers in
        let loose : sum_of (Own past).frames + (Own past).answers ≤ length way.bytes + more = let few = lies.own.few in omega (arith, few) in
        let got =
        writes Is nothing Good stays joins side other apart more [] way past [] tt tt (inl refl) lies.good lies.fits lies.own lies.own_comes loose lies.oth.idle (none_due (Oth past).frames) in (
          subst (EachAfter MayFit past) (sym entered) tt,
          record {
            start = past;
            more = more;
            lies = lies;
            known = λ is. known (sym same ∙ is);
            tight = inl none;
            written = subst (λ (l : List Entry). Written Is nothing Good stays joins side other apart more past (past ++ l) way units) (sym entered)
                (subst (λ (us : List LineUnit). Written Is nothing Good stays joins side other apart more past (past ++ []) way us) (sym none) got.1);
          },
        )

    pub went : (before after : Bool) (entries told : List Entry) (units : List LineUnit) → Numbered before after entries told → Tells Is side way units told → AllByRecursion IsUnit units
        → ((own oth : Pipe) → Known own oth → Fills way own → Fills across oth → HasRoom units own oth) → (past : List Entry) → Lies past way across → (before ≡ false → Known (Own past) (Oth past))
        → EachAfter MayFit past entries × WrittenFrom after (past ++ entries) units
    went before after entries told units (inl (none, entered, same)) tells are room past lies known =
        stays_so before after past entries units (tells_none Is side way units (subst (Tells Is side way units) none tells)) entered same lies known
    went before after entries told units (inr (number, is, is_number, ended)) tells are room past lies known =
        let here = numbers before number is_number past lies known in
        let start : List Entry = past ++ number in
        let spare = room (Own start) (Oth start) here.known here.lies.own here.lies.oth in
        let got =
        writes Is nothing Good stays joins side other apart spare.more units way start told tells are spare.few here.lies.good here.lies.fits here.lies.own here.lies.own_comes spare.loose here.lies.oth.idle spare.due in
        let all : start ++ told ≡ past ++ entries = append_assoc past number told ∙ ap (λ (l : List Entry). past ++ l) (sym is) in (
          subst (EachAfter MayFit past) (sym is) (each-append MayFit past number told here.each got.0),
          record {
            start = start;
            more = spare.more;
            lies = here.lies;
            known = λ not_awaited. here.known;
            tight = spare.tight;
            written = subst (λ (l : List Entry). Written Is nothing Good stays joins side other apart spare.more start l way units) all got.1;
          },
        )

  -- ---- where neither side has answered, and frames alone are written

  abbrev pub NoneAnswered : Pipe → Pipe → Type 0
  NoneAnswered own oth = (own.answers ≡ 0) × (oth.answers ≡ 0)

  abbrev Anything : ℕ → Type 0
  Anything more = Unit {0}

  none_turned : (way across : WayState) (own oth : Pipe) → Fills way own → Fills across oth → own.answers ≡ 0 → oth.answers ≡ 0 → NoneAnswered own oth
  none_turned way across own oth own_fills oth_fills one two = (one, two)

  -- what is known then
  pub record Frames (after : Bool) (past entries : List Entry) (later across : WayState) : Type 0 where
    pub each : EachAfter MayFit past entries
    pub lies : Lies (past ++ entries) later across
    pub known : after ≡ false → NoneAnswered (Own (past ++ entries)) (Oth (past ++ entries))

  pub frames_go : (way across : WayState) (before after : Bool) (entries told : List Entry) (units : List LineUnit) → Numbered before after entries told → Tells Is side way units told
      → AllByRecursion IsUnit units → answers_all units ≡ 0 → (past : List Entry) → Lies past way across → (before ≡ false → NoneAnswered (Own past) (Oth past))
      → Frames after past entries (written_all way units) across
  frames_go way across before after entries told units numbers_so tells are frames past lies known =
      let got = went way across NoneAnswered Anything (none_turned way across) before after entries told units numbers_so tells are room past lies known in
      let from = got.1 in
      let w = from.written in
      let all : List Entry = past ++ entries in
      let same : (Oth all).frames ≡ (Oth from.start).frames = w.frames ∙ ap (λ (n : ℕ). drop n (Oth from.start).frames) frames in
      let given = w.answers in
      let fewer = w.fewer in
      record {
        each = got.0;
        lies = record {
          own = w.own;
          oth = fills_as across (Oth from.start) (Oth all) same w.idle from.lies.oth;
          own_comes = w.own_comes;
          oth_comes = comes_at across (arrived other from.start) (arrived other all) w.oth_texts from.lies.oth_comes;
          fits = w.fits;
          good = w.good;
        };
        known = λ is. let zero = from.known is in let one = zero.0 in let two = zero.1 in (omega (arith, given, one, frames), omega (arith, fewer, two));
      }
    where
      room : (own oth : Pipe) → NoneAnswered own oth → Fills way own → Fills across oth → HasRoom way across NoneAnswered Anything (none_turned way across) units own oth
      room own oth none own_fills oth_fills =
          record {
            more = 0;
            loose = let few = own_fills.few in let zero = none.0 in omega (arith, few, zero);
            few = inr (inl refl);
            tight = inr tt;
            due = omega (arith, frames);
          }
