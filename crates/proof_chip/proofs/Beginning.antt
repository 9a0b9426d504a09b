-- The events of the serial line grow with entries, whatever stands after a line or tick that begins; so what the link had done there is what its parts up to there are, in the end.
use Rattle.std.proofs.Common.{◌≡◌, ◌<◌, ℕ, suc, ◌+◌, Bool, true, false, if◌then◌else◌, List, [], ◌∷◌, ◌++◌, length, take, refl, sym, ap, ap₂, ◌∙◌, subst, append-nil, append_assoc, length-append, arith}
use Rattle.std.specs.List.{AllByRecursion}
use Rattle.std.proofs.Math.Seq.{take-length}
use Rattle.std.proofs.lemmas.List.{map-append}
use Rattle.serial_link.specs.Rules.{SideObeys, Step}
use Rattle.zw_words.specs.declared.side.Side.TheVariants.{Chip}
use Rattle.zw_text.specs.declared.line.Line.{Line}
use Rattle.zw_text.specs.declared.line.Line.TheVariants as lines
use Rattle.zw_text.specs.declared.entry.Entry.{Entry}
use Rattle.zw_text.specs.declared.entry.Entry.TheVariants as entry
use Rattle.zw_text.specs.Transcript.{line_of}
use Rattle.law_transcript.specs.Lists.{EachAfter, shown_after}
use Rattle.law_transcript.specs.Restarts.{begins_refused, ticks_asked}
use Rattle.law_wire.specs.Asked.{Course, course_of}
use Rattle.law_wire.specs.Answering.{IsIdleAfter, MayStay, waiting}
use Rattle.law_wire.specs.Links.{ends_round, joined, moments_of}
use Rattle.law_wire.specs.Serial.{SerialEvent, beginning_of, done_line, serial_events, serial_events_from, ticks_up_to}
use Rattle.outside_model.specs.Devices.{State}
use Rattle.proof_air.proofs.ByLine.{last_is}
use Rattle.proof_line.specs.Links.{IsMute, due_from, start_at, tick_told}
use Rattle.proof_line.specs.Linked.{next_start, ArePartsOf, Cuts, Did, IsTickLine, flags_of, rounds_in}
use Rattle.proof_line.proofs.LinkStarts.{many_starts, rounds_both, start_is, start_mute}
use Rattle.proof_line.proofs.Serials.{serials_grow}
use Rattle.proof_chip.specs.Staying.{AreBegun, BeganSo, SaidSo, Started, Stays}
use Rattle.proof_chip.proofs.Following.{Opens, follows}
use Rattle.proof_chip.proofs.Standing.{goes_none}
use Rattle.proof_chip.proofs.Turning.{idle_still}

-- ---- events and what stands after them

flags_both : (a b : List SerialEvent) → flags_of (a ++ b) ≡ flags_of a ++ flags_of b
flags_both a b = map-append ends_round a b

-- words of a line that is no `tick` begin it, whether it is refused or not
begins_alike : (line : List Line) → (IsTickLine line → ⊥) → (one other : Bool) → flags_of (beginning_of (if one then [] else line)) ≡ flags_of (beginning_of (if other then [] else line))
begins_alike (lines.Tick count ∷ more) none one other = absurd (none tt)
begins_alike [] none true true = refl
begins_alike [] none true false = refl
begins_alike [] none false true = refl
begins_alike [] none false false = refl
begins_alike (line ∷ more) none true true = refl
begins_alike (line ∷ more) none true false = refl
begins_alike (line ∷ more) none false true = refl
begins_alike (line ∷ more) none false false = refl

abbrev Grows : ℕ → ℕ → List Entry → List Entry → Type 0
Grows now due some all = (more : List Bool) × (flags_of (serial_events_from now due all) ≡ flags_of (serial_events_from now due some) ++ more)

-- the first of them is this entry
abbrev BeginsNow : Entry → Type 0
BeginsNow (entry.Said words) = IsTickLine (line_of (entry.Said words)) → ⊥
BeginsNow (entry.Time tick) = Unit {0}
BeginsNow e = ⊥

refused_alike : (past : List Entry) (e : Entry) (rest : List Entry) → BeginsNow e → begins_refused (past ++ e ∷ rest) ≡ begins_refused (past ++ e ∷ [])
refused_alike [] (entry.Said words) rest begins = refl
refused_alike [] (entry.Time tick) rest begins = refl
refused_alike [] e rest begins = absurd begins
refused_alike (entry.Refused refusal ∷ past) e rest begins = refl
refused_alike (x ∷ past) e rest begins = refl

put_before : (front some all : List SerialEvent) → (more : List Bool) × (flags_of all ≡ flags_of some ++ more) → (more : List Bool) × (flags_of (front ++ all) ≡ flags_of (front ++ some) ++ more)
put_before front some all (more, is) = (
  more,
  flags_both front all ∙ ap (λ (l : List Bool). flags_of front ++ l) is ∙ sym (append_assoc (flags_of front) (flags_of some) more) ∙ ap (λ (l : List Bool). l ++ more) (sym (flags_both front some)),
)

said_here : (now due : ℕ) (words : List ℕ) (rest : List Entry) → (IsTickLine (line_of (entry.Said words)) → ⊥) → Grows now due (entry.Said words ∷ []) (entry.Said words ∷ rest)
said_here now due words rest none =
    let line : List Line = line_of (entry.Said words) in
    let later : List SerialEvent = serial_events_from due (due + ticks_asked line) rest in
    let ticks : List SerialEvent = ticks_up_to now due in
    let here : List SerialEvent = beginning_of (done_line line rest) in
    let alone : List SerialEvent = beginning_of (done_line line []) in (
      flags_of later,
      flags_both (ticks ++ here) later
          ∙ ap (λ (l : List Bool). l ++ flags_of later)
          (flags_both ticks here ∙ ap (λ (l : List Bool). flags_of ticks ++ l) (begins_alike line none (begins_refused rest) false) ∙ sym (flags_both ticks alone)
          ∙ ap flags_of (sym (append-nil (ticks ++ alone)))),
    )

time_here : (now due tick : ℕ) (rest : List Entry) → Grows now due (entry.Time tick ∷ []) (entry.Time tick ∷ rest)
time_here now due tick rest =
    let later : List SerialEvent = serial_events_from tick due rest in
    let ticks : List SerialEvent = ticks_up_to now tick in
    (flags_of later, flags_both ticks later ∙ ap (λ (l : List Bool). l ++ flags_of later) (ap flags_of (sym (append-nil ticks))))

grows : (now due : ℕ) (past : List Entry) (e : Entry) (rest : List Entry) → BeginsNow e → Grows now due (past ++ e ∷ []) (past ++ e ∷ rest)
grows now due [] (entry.Said words) rest begins = said_here now due words rest begins
grows now due [] (entry.Time tick) rest begins = time_here now due tick rest
grows now due [] e rest begins = absurd begins
grows now due (entry.Said words ∷ past) e rest begins =
    let line : List Line = line_of (entry.Said words) in
    let later : ℕ = due + ticks_asked line in
    let some : List SerialEvent = serial_events_from due later (past ++ e ∷ []) in
    let all : List SerialEvent = serial_events_from due later (past ++ e ∷ rest) in
    let got = put_before (ticks_up_to now due ++ beginning_of (done_line line (past ++ e ∷ []))) some all (grows due later past e rest begins) in (
      got.0,
      ap (λ (b : Bool). flags_of ((ticks_up_to now due ++ beginning_of (if b then [] else line)) ++ all)) (refused_alike past e rest begins) ∙ got.1,
    )
grows now due (entry.Time tick ∷ past) e rest begins =
    put_before (ticks_up_to now tick) (serial_events_from tick due (past ++ e ∷ [])) (serial_events_from tick due (past ++ e ∷ rest)) (grows tick due past e rest begins)
grows now due (entry.Written side unit ∷ past) e rest begins = let (more, is) = grows now due past e rest begins in (more, ap (λ (l : List Bool). false ∷ l) is)
grows now due (x ∷ past) e rest begins = grows now due past e rest begins

-- ---- starts one after another

-- where one stands before the end of some that are first, it is one of them
within : (first later before : List (List Step)) (life : List Step) (after : List (List Step)) → first ++ later ≡ before ++ life ∷ after → length before < length first
    → (rest : List (List Step)) × (first ≡ before ++ life ∷ rest)
within [] later before life after is less = absurd (omega (arith, less))
within (x ∷ first) later [] life after is less = let same : x ≡ life = cc in (first, ap (λ (start : List Step). start ∷ first) same)
within (x ∷ first) later (y ∷ before) life after is less =
    let same : x ≡ y = cc in
    let tail : first ++ later ≡ before ++ life ∷ after = cc in
    let (rest, more) = within first later before life after tail (omega (arith, less)) in
    (rest, ap₂ (λ (start : List Step) (l : List (List Step)). start ∷ l) same more)

-- and where it is the next after them
next_is : (first later before : List (List Step)) (life : List Step) (after : List (List Step)) → first ++ later ≡ before ++ life ∷ after → length before ≡ length first → later ≡ life ∷ after
next_is [] later [] life after is same = is
next_is [] later (y ∷ before) life after is same = absurd (omega (arith, same))
next_is (x ∷ first) later [] life after is same = absurd (omega (arith, same))
next_is (x ∷ first) later (y ∷ before) life after is same =
    let tail : first ++ later ≡ before ++ life ∷ after = cc in next_is first later before life after tail (omega (arith, same))

lengths : (events : List SerialEvent) → length (flags_of events) ≡ length events
lengths [] = refl
lengths (event ∷ events) = ap suc (lengths events)

-- ---- in the end

module _ (devices : List State) (did : Did) (transcript : List Entry) (cuts : Cuts did transcript) where
  abbrev parts : List (List Step)
  parts = cuts.links.chip.parts

  abbrev events : List SerialEvent
  events = serial_events transcript

  abbrev told : List (List Step)
  told = shown_after (start_at Chip) [] (moments_of events parts)

  many_told : length told ≡ rounds_in (flags_of events)
  many_told = many_starts Chip [] events parts cuts.links.chip.each

  -- of a line or tick that began by the transcript
  life_there : (front : List SerialEvent) (back : List Bool) → flags_of events ≡ flags_of front ++ true ∷ back → (past : List Entry) (started : Started devices did front past)
      → started.life ≡ joined (take (suc (length (flags_of front))) parts)
  life_there front back flags past started =
      let total : rounds_in (flags_of events) ≡ rounds_in (flags_of front) + suc (rounds_in back) = ap rounds_in flags ∙ rounds_both (flags_of front) (true ∷ back) in
      let all = many_told in
      let before = started.many in
      let (rest, is) = within told cuts.later started.before started.life started.after (sym cuts.starts ∙ started.starts) (omega (arith, total, all, before)) in
      start_is [] events parts cuts.links.chip.each (flags_of front) back flags started.before rest started.life is started.many

  none_there : (front : List SerialEvent) (past : List Entry) (started : Started devices did front past) → IsIdleAfter started.life → waiting devices (course_of (joined parts)) past ≡ 0
  none_there front past started idle = ap (λ (c : Course). waiting devices c past) cuts.course ∙ started.none (course_of did.steps) (goes_none (course_of did.steps)) idle

  -- steps that wrote nothing leave the link idle
  idle_there : (front : List SerialEvent) (past : List Entry) (started : Started devices did front past) (steps since : List Step) → started.life ≡ steps ++ since → AllByRecursion IsMute since
      → IsIdleAfter steps → IsIdleAfter started.life
  idle_there front past started steps since is mute (side, obeys, idle) =
      (started.side, started.obeys, idle_still steps since side started.side obeys (subst (λ (l : List Step). SideObeys l started.side) is started.obeys) idle mute)

  stays_there : (past : List Entry) (e : Entry) (rest : List Entry) → transcript ≡ past ++ e ∷ rest → BeginsNow e → Stays devices did past (past ++ e ∷ [])
      → IsIdleAfter (joined (take (length (serial_events (past ++ e ∷ []))) parts)) → waiting devices (course_of (joined parts)) past ≡ 0
  stays_there past e rest is begins stays idle =
      let (more, all) = grows 0 0 past e rest begins in
      let front : List Bool = flags_of stays.front in
      let some : flags_of (serial_events (past ++ e ∷ [])) ≡ front ++ true ∷ [] =
      ap flags_of stays.events ∙ flags_both stays.front (stays.event ∷ []) ∙ ap (λ (b : Bool). front ++ b ∷ []) stays.begins in
      let flags : flags_of events ≡ front ++ true ∷ more =
      ap (λ (l : List Entry). flags_of (serial_events l)) is ∙ all ∙ ap (λ (l : List Bool). l ++ more) some ∙ append_assoc front (true ∷ []) more in
      let count : length (serial_events (past ++ e ∷ [])) ≡ suc (length front) =
      sym (lengths (serial_events (past ++ e ∷ []))) ∙ ap (λ (l : List Bool). length l) some ∙ length-append front (true ∷ []) ∙ plus_one (length front) in
      none_there stays.front past stays.started
      (subst IsIdleAfter (ap (λ (n : ℕ). joined (take n parts)) count ∙ sym (life_there stays.front more flags past stays.started)) idle)
    where
      plus_one : (n : ℕ) → n + 1 ≡ suc n
      plus_one n = omega arith

  -- a `tick` begins nothing; what begins next, or would, does so after steps that wrote nothing
  tick_there : (past : List Entry) (words : List ℕ) (rest : List Entry) → transcript ≡ past ++ entry.Said words ∷ rest → IsTickLine (line_of (entry.Said words))
      → Started devices did (serial_events (past ++ entry.Said words ∷ [])) past → EachAfter (BeganSo devices did) (past ++ entry.Said words ∷ []) rest
      → IsIdleAfter (joined (take (length (serial_events (past ++ entry.Said words ∷ []))) parts)) → waiting devices (course_of (joined parts)) past ≡ 0
  tick_there past words rest is tick started later idle =
      let next = follows devices did said rest (subst IsTickLine (sym (last_is past (entry.Said words))) tick) later in
      let all : transcript ≡ said ++ rest = is ∙ sym (append_assoc past (entry.Said words ∷ []) rest) in
      by (serial_events_from (tick_told said) (due_from 0 said) rest) (ap (λ (l : List Entry). serial_events l) all ∙ serials_grow 0 0 said rest next.unmarked next.plain)
      (subst (λ (l : List Entry). Opens (serial_events_from (tick_told said) (due_from 0 said) rest) l) (sym all) next.opens)
    where
      said : List Entry
      said = past ++ entry.Said words ∷ []

      front : List SerialEvent
      front = serial_events said

      by : (more : List SerialEvent) → events ≡ front ++ more → Opens more transcript → waiting devices (course_of (joined parts)) past ≡ 0
      by [] same says =
          let whole : front ≡ events = sym (same ∙ append-nil front) in
          let next : cuts.later ≡ started.life ∷ started.after =
          next_is told cuts.later started.before started.life started.after (sym cuts.starts ∙ started.starts) (started.many ∙ ap (λ (l : List SerialEvent). rounds_in (flags_of l)) whole ∙ sym many_told) in
          let are : ArePartsOf started.life parts = subst (λ (l : List (List Step)). ArePartsOf (next_start l did.steps) parts) next (cuts.next says) in
          let all_parts : take (length front) parts ≡ parts = ap (λ (n : ℕ). take n parts) (ap (λ (l : List SerialEvent). length l) whole ∙ sym cuts.links.chip.each) ∙ take-length parts in
          none_there front past started
          (idle_there front past started (joined parts) are.since are.is are.mute (subst (λ (l : List (List Step)). IsIdleAfter (joined l)) all_parts idle))
      by (event ∷ more) same begins =
          let flags : flags_of events ≡ flags_of front ++ true ∷ flags_of more =
          ap flags_of same ∙ flags_both front (event ∷ more) ∙ ap (λ (b : Bool). flags_of front ++ b ∷ flags_of more) begins in
          let (part, is_more, mute) = start_mute events parts cuts.links.chip.each cuts.links.chip.writes (flags_of front) (flags_of more) flags in
          none_there front past started
          (idle_there front past started (joined (take (length (flags_of front)) parts)) part (life_there front (flags_of more) flags past started ∙ is_more) mute
          (subst (λ (n : ℕ). IsIdleAfter (joined (take n parts))) (sym (lengths front)) idle))

  each_there : (past rest : List Entry) → transcript ≡ past ++ rest → EachAfter (BeganSo devices did) past rest → EachAfter (MayStay devices parts) past rest
  each_there past [] is began = tt
  each_there past (e ∷ rest) is began = (one e is began.0 began.1, each_there (past ++ e ∷ []) rest (is ∙ sym (append_assoc past (e ∷ []) rest)) began.1)
    where
      by : (words : List ℕ) (line : List Line) → line_of (entry.Said words) ≡ line → transcript ≡ past ++ entry.Said words ∷ rest → SaidSo devices did line past (past ++ entry.Said words ∷ [])
          → EachAfter (BeganSo devices did) (past ++ entry.Said words ∷ []) rest → MayStay devices parts past (entry.Said words)
      by words (lines.Tick count ∷ more) read same started later = λ idle. tick_there past words rest same (subst IsTickLine (sym read) tt) started later idle
      by words [] read same stays later = λ idle. stays_there past (entry.Said words) rest same (λ tick. subst IsTickLine read tick) stays idle
      by words (line ∷ more) read same stays later = λ idle. stays_there past (entry.Said words) rest same (λ tick. subst IsTickLine read tick) stays idle

      one : (e : Entry) → transcript ≡ past ++ e ∷ rest → BeganSo devices did past e → EachAfter (BeganSo devices did) (past ++ e ∷ []) rest → MayStay devices parts past e
      one (entry.Said words) same so later = by words (line_of (entry.Said words)) refl same so later
      one (entry.Time tick) same so later = λ idle. stays_there past (entry.Time tick) rest same tt so.0 idle
      one e same so later = tt

  pub all_there : AreBegun devices did transcript → EachAfter (MayStay devices parts) [] transcript
  all_there began = each_there [] transcript refl began
