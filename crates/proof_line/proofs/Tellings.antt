-- What is told of units of one side, one after another, among entries that tell nothing of the pipes; and what these units make of what both pipes surely hold.
use Rattle.std.proofs.Common.{◌≡◌, ◌≤◌, ◌⊎◌, ℕ, ◌+◌, ◌-◌, false, List, [], ◌∷◌, ◌++◌, length, drop, inl, inr, refl, sym, ap, subst, ◌∙◌, append-nil, append_assoc, arith}
use Rattle.std.specs.List.{AllByRecursion}
use Rattle.std.proofs.lemmas.List.{drop-drop, length-drop}
use Rattle.zw_base.proofs.Each.{all-append, all-weaker}
use Rattle.serial_frame.specs.Items.{unit_text, IsUnit}
use Rattle.serial_frame.specs.declared.unit.Unit.{Unit as LineUnit}
use Rattle.serial_pipes.specs.State.{WayState, mark_for}
use Rattle.serial_pipes.specs.Events.{told, told_by, Writes, after}
use Rattle.zw_words.specs.declared.side.Side.{Side}
use Rattle.zw_text.specs.declared.entry.Entry.{Entry}
use Rattle.zw_text.specs.declared.entry.Entry.TheVariants as entry
use Rattle.zw_text.specs.Transcript.{line_of, same_side}
use Rattle.law_wire.specs.law_transcript.Lists.{EachAfter}
use Rattle.law_wire.specs.law_transcript.Restarts.{begins_refused}
use Rattle.law_wire.specs.Pipes.{Pipe, empty_pipe, pipe_from, sum_of, unit_by}
use Rattle.proof_walk.proofs.Lists.{each-append}
use Rattle.proof_walk.proofs.Entered.{IsMark, told_by_marks}
use Rattle.proof_world.specs.proof_serial.Way.{written_all}
use Rattle.proof_line.specs.Arrivals.{arrived, Comes}
use Rattle.proof_line.specs.Rooms.{MayFit, LastFits, Fills}
use Rattle.proof_line.proofs.Arriving.{apart_same, other_arrived, unit_comes, comes_at}
use Rattle.proof_line.proofs.Holding.{Joins, TellsNothing, apart_mark, apart_step, apart_line, pipe_grows}
use Rattle.proof_line.proofs.Fitting.{answers_in, apart_fits, unit_fits, unit_fills, unit_loose, unit_answers, unit_grows_few, IsAnswered, other_answered, answers_one}

-- ---- what is told

-- these units, each with what became of it, among other entries
abbrev pub Tells : (Entry → Type 0) → Side → WayState → List LineUnit → List Entry → Type 0
Tells Is side way [] entries = AllByRecursion Is entries
Tells Is side way (unit ∷ units) entries =
    (before : List Entry) × (rest : List Entry) × (entries ≡ before ++ (told side way unit ++ rest)) × AllByRecursion Is before × Tells Is side (after way (Writes unit)) units rest

-- the same with whatever became of each
abbrev pub TellsSome : (Entry → Type 0) → Side → List LineUnit → List Entry → Type 0
TellsSome Is side [] entries = AllByRecursion Is entries
TellsSome Is side (unit ∷ units) entries =
    (before : List Entry) × (marks : List Entry) × (rest : List Entry) × (entries ≡ before ++ ((entry.Written side (unit_text unit) ∷ marks) ++ rest)) × AllByRecursion Is before
    × AllByRecursion IsMark marks × TellsSome Is side units rest

pub tells_some : (Is : Entry → Type 0) (side : Side) (way : WayState) (units : List LineUnit) (entries : List Entry) → Tells Is side way units entries → TellsSome Is side units entries
tells_some Is side way [] entries tells = tells
tells_some Is side way (unit ∷ units) entries (before, rest, is, none, more) = (
  before,
  told_by side way.bytes (mark_for way.marks unit) (unit_text unit),
  rest,
  is,
  none,
  told_by_marks side way.bytes (mark_for way.marks unit) (unit_text unit),
  tells_some Is side (after way (Writes unit)) units rest more,
)

module _ (Is : Entry → Type 0) (side : Side) where
  -- other entries before
  tells_later : (way : WayState) (units : List LineUnit) (before entries : List Entry) → AllByRecursion Is before → Tells Is side way units entries → Tells Is side way units (before ++ entries)
  tells_later way [] before entries all tells = all-append Is before entries all tells
  tells_later way (unit ∷ units) before entries all (first, rest, is, none, more) =
      (before ++ first, rest, ap (λ (l : List Entry). before ++ l) is ∙ sym (append_assoc before first (told side way unit ++ rest)), all-append Is before first all none, more)

  pub tells_both : (way : WayState) (us vs : List LineUnit) (xs ys : List Entry) → Tells Is side way us xs → Tells Is side (written_all way us) vs ys → Tells Is side way (us ++ vs) (xs ++ ys)
  tells_both way [] vs xs ys first later = tells_later way vs xs ys first later
  tells_both way (unit ∷ us) vs xs ys (before, rest, is, none, more) later = (
    before,
    rest ++ ys,
    ap (λ (l : List Entry). l ++ ys) is ∙ append_assoc before (told side way unit ++ rest) ys ∙ ap (λ (l : List Entry). before ++ l) (append_assoc (told side way unit) rest ys),
    none,
    tells_both (after way (Writes unit)) us vs rest ys more later,
  )

  -- one unit alone
  pub tells_one : (way : WayState) (unit : LineUnit) → Tells Is side way (unit ∷ []) (told side way unit)
  tells_one way unit = ([], [], sym (append-nil (told side way unit)), tt, tt)

  -- where nothing is told nothing was written
  pub tells_none : (way : WayState) (units : List LineUnit) → Tells Is side way units [] → units ≡ []
  tells_none way [] tells = refl
  tells_none way (unit ∷ units) ([], rest, is, none, more) = absurd cc
  tells_none way (unit ∷ units) (first ∷ before, rest, is, none, more) = absurd cc

pub tells_weaker : (Is Other : Entry → Type 0) → ((e : Entry) → Is e → Other e) → (side : Side) (way : WayState) (units : List LineUnit) (entries : List Entry)
    → Tells Is side way units entries → Tells Other side way units entries
tells_weaker Is Other weaker side way [] entries tells = all-weaker Is Other weaker entries tells
tells_weaker Is Other weaker side way (unit ∷ units) entries (before, rest, is, none, more) =
    (before, rest, is, all-weaker Is Other weaker before none, tells_weaker Is Other weaker side (after way (Writes unit)) units rest more)

-- ---- counts

abbrev pub answers_all : List LineUnit → ℕ
answers_all [] = 0
answers_all (unit ∷ units) = answers_in unit + answers_all units

pub answers_both : (us vs : List LineUnit) → answers_all (us ++ vs) ≡ answers_all us + answers_all vs
answers_both [] vs = omega arith
answers_both (unit ∷ us) vs = let more = answers_both us vs in omega (arith, more)

abbrev pub bytes_all : List LineUnit → ℕ
bytes_all [] = 0
bytes_all (unit ∷ units) = length (unit_text unit) + bytes_all units

-- ---- entries that tell nothing of the pipes

-- and say not that a line was refused
abbrev pub IsBeside : Entry → Type 0
IsBeside e = TellsNothing e × (begins_refused (e ∷ []) ≡ false)

apart_unit : (past : List Entry) (e : Entry) → TellsNothing e → unit_by past e ≡ []
apart_unit past (entry.Written side unit) apart = absurd apart
apart_unit past (entry.Garbled side unit) apart = absurd apart
apart_unit past e apart = refl

apart_stands : (past : List Entry) (e : Entry) → TellsNothing e → LastFits past → MayFit past e
apart_stands past (entry.Dropped side) apart fits = absurd apart
apart_stands past (entry.Garbled side unit) apart fits = absurd apart
apart_stands past (entry.Written side unit) apart fits = absurd apart
apart_stands past (entry.Overrun side) apart fits = absurd apart
apart_stands past (entry.Cleared side count) apart fits = absurd apart
apart_stands past e apart fits = fits

-- What is so of the entries so far, and stays so with each that is no line; and it lets such an entry follow.
module _ (Is : Entry → Type 0) (nothing : (e : Entry) → Is e → TellsNothing e) (Good : List Entry → Type 0)
    (stays : (past : List Entry) (e : Entry) → line_of e ≡ [] → Good past → Good (past ++ e ∷ []))
    (joins : (past : List Entry) (e : Entry) → Is e → Good past → Joins past (e ∷ [])) where
  -- the pipes are the same
  same_pipe : (side : Side) (past : List Entry) (e : Entry) → Is e → Good past → pipe_from side empty_pipe (past ++ e ∷ []) ≡ pipe_from side empty_pipe past
  same_pipe side past e is good =
      pipe_grows side empty_pipe past (e ∷ []) (apart_mark e (nothing e is)) (joins past e is good) ∙ apart_step side (pipe_from side empty_pipe past) e (nothing e is)

  -- of such entries one after another
  pub record Passes (past told : List Entry) : Type 0 where
    pub each : EachAfter MayFit past told
    pub fits : LastFits (past ++ told)
    pub good : Good (past ++ told)
    pub pipes : (side : Side) → pipe_from side empty_pipe (past ++ told) ≡ pipe_from side empty_pipe past
    pub texts : (side : Side) → arrived side (past ++ told) ≡ arrived side past

  pub passes : (past told : List Entry) → AllByRecursion Is told → Good past → LastFits past → Passes past told
  passes past [] all good fits = record {
    each = tt;
    fits = subst LastFits (sym (append-nil past)) fits;
    good = subst Good (sym (append-nil past)) good;
    pipes = λ side. ap (λ (l : List Entry). pipe_from side empty_pipe l) (append-nil past);
    texts = λ side. ap (λ (l : List Entry). arrived side l) (append-nil past);
  }
  passes past (e ∷ told) all good fits =
      let none = nothing e all.0 in
      let rest = passes (past ++ e ∷ []) told all.1 (stays past e (apart_line e none) good) (apart_fits past e (apart_unit (past ++ e ∷ []) e none)) in
      let is = append_assoc past (e ∷ []) told in
      record {
        each = (apart_stands past e none fits, rest.each);
        fits = subst LastFits is rest.fits;
        good = subst Good is rest.good;
        pipes = λ side. sym (ap (λ (l : List Entry). pipe_from side empty_pipe l) is) ∙ rest.pipes side ∙ same_pipe side past e all.0 good;
        texts = λ side. sym (ap (λ (l : List Entry). arrived side l) is) ∙ rest.texts side ∙ apart_same side past e none (joins past e all.0 good);
      }

  -- ---- units

  mark_line : (e : Entry) → IsMark e → line_of e ≡ []
  mark_line (entry.Said words) mark = absurd mark
  mark_line e mark = refl

  marks_good : (past marks : List Entry) → AllByRecursion IsMark marks → Good past → Good (past ++ marks)
  marks_good past [] all good = subst Good (sym (append-nil past)) good
  marks_good past (e ∷ marks) all good =
      subst Good (append_assoc past (e ∷ []) marks) (marks_good (past ++ e ∷ []) marks all.1 (stays past e (mark_line e all.0) good))

  unit_good : (side : Side) (way : WayState) (unit : LineUnit) (past : List Entry) → Good past → Good (past ++ told side way unit)
  unit_good side way unit past good =
      let first : Entry = entry.Written side (unit_text unit) in
      let marks : List Entry = told_by side way.bytes (mark_for way.marks unit) (unit_text unit) in
      subst Good (append_assoc past (first ∷ []) marks)
      (marks_good (past ++ first ∷ []) marks (told_by_marks side way.bytes (mark_for way.marks unit) (unit_text unit)) (stays past first refl good))

  module _ (side other : Side) (apart : same_side other side ≡ false) where
    abbrev Own : List Entry → Pipe
    Own past = pipe_from side empty_pipe past

    abbrev Oth : List Entry → Pipe
    Oth past = pipe_from other empty_pipe past

    -- it surely holds no more than is there, but for so much; and then there is room for these units
    abbrev pub IsLoose : ℕ → List Entry → WayState → Type 0
    IsLoose more past way = sum_of (Own past).frames + (Own past).answers ≤ length way.bytes + more

    abbrev pub AreFew : ℕ → WayState → List LineUnit → Type 0
    AreFew more way units = (units ≡ []) ⊎ ((more ≡ 0) ⊎ (length way.bytes + more + bytes_all units ≤ 4096))

    abbrev pub IsIdle : Pipe → Type 0
    IsIdle pipe = pipe.has_written ≡ false → pipe.answers ≡ 0

    -- what these units make of both pipes: of the entries before them and of all
    pub record Written (more : ℕ) (past all : List Entry) (way : WayState) (units : List LineUnit) : Type 0 where
      pub fits : LastFits all
      pub good : Good all
      pub own : Fills (written_all way units) (Own all)
      pub loose : IsLoose more all (written_all way units)
      pub answers : (Own all).answers ≤ (Own past).answers + answers_all units
      pub frames : (Oth all).frames ≡ drop (answers_all units) (Oth past).frames
      pub fewer : (Oth all).answers ≤ (Oth past).answers
      pub idle : IsIdle (Oth all)
      pub gone : (units ≡ []) ⊎ ((Oth all).answers ≡ 0)
      pub same : units ≡ [] → Own all ≡ Own past
      pub own_comes : Comes (written_all way units) (arrived side all)
      pub oth_texts : arrived other all ≡ arrived other past

    abbrev pub Writing : ℕ → List Entry → List Entry → WayState → List LineUnit → Type 0
    Writing more past told way units = EachAfter MayFit past told × Written more past (past ++ told) way units

    -- no unit
    none_written : (more : ℕ) (past told : List Entry) (way : WayState) → AllByRecursion Is told → Good past → LastFits past → Fills way (Own past) → Comes way (arrived side past) → IsLoose more past way → IsIdle (Oth past)
        → Writing more past told way []
    none_written more past told way all good fits own comes loose idle =
        let got = passes past told all good fits in (
          got.each,
          record {
            fits = got.fits;
            good = got.good;
            own = subst (λ (p : Pipe). Fills way p) (sym (got.pipes side)) own;
            loose = subst (λ (p : Pipe). sum_of p.frames + p.answers ≤ length way.bytes + more) (sym (got.pipes side)) loose;
            answers = subst (λ (p : Pipe). p.answers ≤ (Own past).answers + 0) (sym (got.pipes side)) (omega arith);
            frames = ap (λ (p : Pipe). p.frames) (got.pipes other);
            fewer = subst (λ (p : Pipe). p.answers ≤ (Oth past).answers) (sym (got.pipes other)) (omega arith);
            idle = subst IsIdle (sym (got.pipes other)) idle;
            gone = inl refl;
            same = λ none. got.pipes side;
            own_comes = comes_at way (arrived side past) (arrived side (past ++ told)) (got.texts side) comes;
            oth_texts = got.texts other;
          },
        )

    -- entries before these that leave both pipes
    after_passing : (more : ℕ) (past before told : List Entry) (way : WayState) (units : List LineUnit) → Passes past before → Writing more (past ++ before) told way units
        → Writing more past (before ++ told) way units
    after_passing more past before told way units pass (each, rest) =
        let is = append_assoc past before told in
        let own : Own (past ++ before) ≡ Own past = pass.pipes side in
        let oth : Oth (past ++ before) ≡ Oth past = pass.pipes other in (
          each-append MayFit past before told pass.each each,
          subst (λ (l : List Entry). Written more past l way units) is (record {
            fits = rest.fits;
            good = rest.good;
            own = rest.own;
            loose = rest.loose;
            answers = subst (λ (p : Pipe). (Own ((past ++ before) ++ told)).answers ≤ p.answers + answers_all units) own rest.answers;
            frames = rest.frames ∙ ap (λ (p : Pipe). drop (answers_all units) p.frames) oth;
            fewer = subst (λ (p : Pipe). (Oth ((past ++ before) ++ told)).answers ≤ p.answers) oth rest.fewer;
            idle = rest.idle;
            gone = rest.gone;
            same = λ none. rest.same none ∙ own;
            own_comes = rest.own_comes;
            oth_texts = rest.oth_texts ∙ pass.texts other;
          }),
        )

    -- a unit before others
    unit_first : (more : ℕ) (past told_rest : List Entry) (way : WayState) (unit : LineUnit) (units : List LineUnit)
        → EachAfter MayFit past (told side way unit) → IsAnswered (answers_in unit) (Oth past) (Oth (past ++ told side way unit))
        → Writing more (past ++ told side way unit) told_rest (after way (Writes unit)) units → Writing more past (told side way unit ++ told_rest) way (unit ∷ units)
    unit_first more past told_rest way unit units each answered (later, rest) =
        let one : List Entry = told side way unit in
        let is = append_assoc past one told_rest in
        let given = unit_answers side way unit past in
        let few = answered.answers in
        let none = answered.gone in
        let rest_few = rest.fewer in
        let rest_answers = rest.answers in (
          each-append MayFit past one told_rest each later,
          subst (λ (l : List Entry). Written more past l way (unit ∷ units)) is (record {
            fits = rest.fits;
            good = rest.good;
            own = rest.own;
            loose = rest.loose;
            answers = omega (arith, given, rest_answers);
            frames = rest.frames ∙ ap (λ (l : List ℕ). drop (answers_all units) l) answered.frames ∙ drop-drop (answers_all units) (answers_in unit) (Oth past).frames;
            fewer = omega (arith, rest_few, few);
            idle = rest.idle;
            gone = inr (omega (arith, rest_few, none));
            same = λ is_none. absurd cc;
            own_comes = rest.own_comes;
            oth_texts = rest.oth_texts ∙ other_arrived side other apart way unit past;
          }),
        )

    -- so much room is left
    room_for : (more : ℕ) (past : List Entry) (way : WayState) (unit : LineUnit) (units : List LineUnit) → IsLoose more past way → AreFew more way (unit ∷ units)
        → length way.bytes + length (unit_text unit) ≤ 4096 → sum_of (Own past).frames + (Own past).answers + length (unit_text unit) ≤ 4096
    room_for more past way unit units loose (inl is_none) fit = absurd cc
    room_for more past way unit units loose (inr (inl none)) fit = omega (arith, loose, none, fit)
    room_for more past way unit units loose (inr (inr few)) fit = omega (arith, loose, few)

    few_later : (more : ℕ) (way : WayState) (unit : LineUnit) (units : List LineUnit) → length (after way (Writes unit)).bytes ≤ length way.bytes + length (unit_text unit)
        → AreFew more way (unit ∷ units) → AreFew more (after way (Writes unit)) units
    few_later more way unit units grows (inl is_none) = absurd cc
    few_later more way unit units grows (inr (inl none)) = inr (inl none)
    few_later more way unit units grows (inr (inr few)) = inr (inr (omega (arith, grows, few)))

    -- any units
    pub writes : (more : ℕ) (units : List LineUnit) (way : WayState) (past entries : List Entry) → Tells Is side way units entries → AllByRecursion IsUnit units → AreFew more way units
        → Good past → LastFits past → Fills way (Own past) → Comes way (arrived side past) → IsLoose more past way → IsIdle (Oth past) → answers_all units ≤ length (Oth past).frames
        → Writing more past entries way units
    writes more [] way past entries tells are few good fits own comes loose idle due = none_written more past entries way tells good fits own comes loose idle
    writes more (unit ∷ units) way past entries (before, rest, is, aside, tells) are few good fits own comes loose idle due =
        let pass = passes past before aside good fits in
        let here : List Entry = past ++ before in
        let one : List Entry = told side way unit in
        let own_here : Fills way (Own here) = subst (λ (p : Pipe). Fills way p) (sym (pass.pipes side)) own in
        let comes_here : Comes way (arrived side here) = comes_at way (arrived side past) (arrived side here) (pass.texts side) comes in
        let loose_here : IsLoose more here way = subst (λ (p : Pipe). sum_of p.frames + p.answers ≤ length way.bytes + more) (sym (pass.pipes side)) loose in
        let idle_here : IsIdle (Oth here) = subst IsIdle (sym (pass.pipes other)) idle in
        let same : length (Oth here).frames ≡ length (Oth past).frames = ap (λ (p : Pipe). length p.frames) (pass.pipes other) in
        let fit =
        unit_fits side way unit here (room_for more here way unit units loose_here few) (answers_one side other apart unit here (omega (arith, due, same))) pass.fits in
        let answered = other_answered side other apart way unit here idle_here in
        let dropped : length (Oth (here ++ one)).frames ≡ length (Oth here).frames - answers_in unit =
        ap (λ (l : List ℕ). length l) answered.frames ∙ length-drop (answers_in unit) (Oth here).frames in
        let later =
        writes more units (after way (Writes unit)) (here ++ one) rest tells are.1 (few_later more way unit units (unit_grows_few side way unit here) few) (unit_good side way unit here pass.good) fit.1
        (unit_fills side way unit here are.0 own_here) (unit_comes side way unit here are.0 comes_here) (unit_loose side way unit here more loose_here) answered.idle
        (omega (arith, due, same, dropped)) in
        subst (λ (l : List Entry). Writing more past l way (unit ∷ units)) (sym is)
        (after_passing more past before (one ++ rest) way (unit ∷ units) pass (unit_first more here rest way unit units fit.0 answered later))
