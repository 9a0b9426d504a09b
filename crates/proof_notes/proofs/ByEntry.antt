-- How the notes of the payload that was judged last stand after further entries, and which entries may stand where they do.
use Rattle.std.proofs.Common.{◌≡◌, ◌⊎◌, ℕ, ◌&&◌, not, Bool, true, false, if◌then◌else◌, inl, inr, List, [], ◌∷◌, ◌++◌, refl, sym, ap, ap₂, ◌∙◌, subst, append-nil, append_assoc}
use Rattle.std.specs.List.{AllByRecursion, flat_map}
use Rattle.std.proofs.lemmas.Bool.{both_ways, and_parts}
use Rattle.zw_base.proofs.Each.{all-append, all-weaker}
use Rattle.s0_crypto.specs.declared.key_pair.Keys.{Keys}
use Rattle.serial_frame.specs.Items.{unit_text}
use Rattle.serial_frame.specs.declared.unit.Unit.TheVariants.{Framed}
use Rattle.zw_words.specs.declared.side.Side.TheVariants.{Chip, Host}
use Rattle.zw_text.specs.declared.entry.Entry.{Entry}
use Rattle.zw_text.specs.declared.entry.Entry.TheVariants as entry
use Rattle.zw_text.specs.Transcript.{folded}
use Rattle.zw_text.proofs.Views.{folded-append}
use Rattle.law_transcript.specs.Lists.{EachAfter}
use Rattle.law_transcript.specs.Units.{Carried, bringing_in}
use Rattle.proof_attempts.specs.law_time.Judged.{after_step, brought_here, is_acknowledgement, is_following, is_mark, is_no_note, judged, last_of}
use Rattle.proof_attempts.specs.law_time.Requests.{are_none}
use Rattle.host_heard.specs.Telling.{heard_at}
use Rattle.host_heard.specs.declared.told.Told.{Told}
use Rattle.host_model.specs.State.{HostState}
use Rattle.host_model.specs.After.{after}
use Rattle.host_model.specs.Events as happening
use Rattle.host_model.specs.Events.{HostEvent, Requests_do, IsOwn}
use Rattle.host_model.specs.Outs.{outs}
use Rattle.host_model.specs.Taking.{AreTaken, PayloadEvents}
use Rattle.host_model.specs.declared.out.HostOut.{HostOut}
use Rattle.host_model.specs.declared.out.HostOut.TheVariants.{Note, Write}
use Rattle.proof_known.proofs.Lists.{each-append}
use Rattle.proof_known.proofs.proof_device_HostOuts.{OwnIs, SharedAre, outs_are}
use Rattle.proof_known.proofs.proof_line_Hosting.{HearsNothing, IsFrameOr, puts_frames_or}
use Rattle.proof_known.specs.proof_alone.Steps.{AreTold, IsOfUnit}
use Rattle.proof_known.specs.proof_waking.Judged.{IsOfRequest}
use Rattle.proof_known.proofs.Apart.{IsApart, apart_judged}
use Rattle.proof_known.proofs.Parts.{IsNoted}
pub use Rattle.proof_known.proofs.Settling.{after_one as following_one}
use Rattle.proof_notes.specs.Full.{AreWhole, GoesOnWith, IsElse, MayGoOn, MessagesNotes, PayloadNotes, SinceUnit, goes_on, hearing_of, since_step, since_unit}
use Rattle.proof_notes.specs.Ties.{Ties}
use Rattle.proof_notes.proofs.ByPayload.{messages_go, messages_over, messages_some, payload_goes, payload_over}

-- ---- what stands since the last unit of the host

pub since_one : (past : List Entry) (e : Entry) → since_unit (past ++ e ∷ []) ≡ since_step (since_unit past) e
since_one past e = folded-append since_step (record { upto = []; notes = [] }) past (e ∷ [])

none_is : (l : List Entry) → are_none l ≡ true → l ≡ []
none_is [] is = refl
none_is (e ∷ l) is = absurd (let bad : false ≡ true = is in cc)

abbrev grown : SinceUnit → Entry → Bool → SinceUnit
grown since e both = if both then record { upto = since.upto ++ e ∷ []; notes = [] } else record { upto = since.upto; notes = since.notes ++ e ∷ [] }

grown_joined : (since : SinceUnit) (e : Entry) (both : Bool) → (is_mark e && are_none since.notes) ≡ both
    → (grown since e both).upto ++ (grown since e both).notes ≡ (since.upto ++ since.notes) ++ e ∷ []
grown_joined since e true is =
    let none : since.notes ≡ [] = none_is since.notes (and_parts (is_mark e) (are_none since.notes) is).1 in
    append-nil (since.upto ++ e ∷ []) ∙ sym (ap (λ (l : List Entry). l ++ e ∷ []) (ap (λ (l : List Entry). since.upto ++ l) none ∙ append-nil since.upto))
grown_joined since e false is = sym (append_assoc since.upto since.notes (e ∷ []))

step_joined : (since : SinceUnit) (e : Entry) → (since_step since e).upto ++ (since_step since e).notes ≡ (since.upto ++ since.notes) ++ e ∷ []
step_joined since (entry.Written Host unit) = append-nil ((since.upto ++ since.notes) ++ entry.Written Host unit ∷ [])
step_joined since e = grown_joined since e (is_mark e && are_none since.notes) refl

fold_joined : (since : SinceUnit) (past : List Entry) → (folded since_step since past).upto ++ (folded since_step since past).notes ≡ (since.upto ++ since.notes) ++ past
fold_joined since [] = sym (append-nil (since.upto ++ since.notes))
fold_joined since (e ∷ past) =
    fold_joined (since_step since e) past ∙ ap (λ (l : List Entry). l ++ past) (step_joined since e) ∙ append_assoc (since.upto ++ since.notes) (e ∷ []) past

-- both are all that stands
pub joined : (past : List Entry) → (since_unit past).upto ++ (since_unit past).notes ≡ past
joined past = fold_joined (record { upto = []; notes = [] }) past

-- ---- what was brought here

none_here : (past : List Entry) → is_following past ≡ false → brought_here past ≡ []
none_here past off = ap (λ (b : Bool). flat_map bringing_in (if b then last_of (judged past) else [])) off

same_here : (past : List Entry) (e : Entry) → IsApart e → after_step (is_following past) e ≡ is_following past → brought_here (past ++ e ∷ []) ≡ brought_here past
same_here past e apart stays =
    ap₂ (λ (b : Bool) (j : List (List ℕ)). flat_map bringing_in (if b then last_of j else [])) (following_one past e ∙ stays) (apart_judged past (e ∷ []) (apart, tt))

and_true : (b : Bool) → (b && true) ≡ b
and_true true = refl
and_true false = refl

pub and_none : (b : Bool) → (b && false) ≡ false
and_none true = refl
and_none false = refl

-- ---- a note

record Stays (e : Entry) : Type 0 where
  mark : is_mark e ≡ false
  on : goes_on e ≡ true
  after_so : (b : Bool) → after_step b e ≡ b
  step : (since : SinceUnit) → since_step since e ≡ record { upto = since.upto; notes = since.notes ++ e ∷ [] }
  apart : IsApart e

noted_stays : (e : Entry) → IsNoted e → Stays e
noted_stays (entry.Said words) is = absurd is
noted_stays (entry.Accepted command node) is = absurd is
noted_stays (entry.Refused refusal) is = absurd is
noted_stays (entry.Begin node session command) is = absurd is
noted_stays (entry.Written side unit) is = absurd is
noted_stays (entry.Dropped side) is = absurd is
noted_stays (entry.Garbled side unit) is = absurd is
noted_stays (entry.Overrun side) is = absurd is
noted_stays (entry.Air frame sender receiver repeaters payload) is = absurd is
noted_stays (entry.Heard frame) is = absurd is
noted_stays (entry.Lost frame) is = absurd is
noted_stays (entry.Unheard frame) is = absurd is
noted_stays (entry.Dev node by setting) is = absurd is
noted_stays (entry.Forget first second) is = absurd is
noted_stays entry.ChipFull is = absurd is
noted_stays (entry.Cleared side count) is = absurd is
noted_stays (entry.Time tick) is = absurd is
noted_stays e is = record { mark = refl; on = refl; after_so = and_true; step = λ since. refl; apart = tt }

noted_brought : (past told : List Entry) → AllByRecursion IsNoted told → brought_here (past ++ told) ≡ brought_here past
noted_brought past [] all = ap brought_here (append-nil past)
noted_brought past (e ∷ told) all =
    let stays = noted_stays e all.0 in
    ap brought_here (sym (append_assoc past (e ∷ []) told)) ∙ noted_brought (past ++ e ∷ []) told all.1 ∙ same_here past e stays.apart (stays.after_so (is_following past))

noted_since : (past told : List Entry) → AllByRecursion IsNoted told → since_unit (past ++ told) ≡ record { upto = (since_unit past).upto; notes = (since_unit past).notes ++ told }
noted_since past [] all =
    ap since_unit (append-nil past) ∙ ap (λ (l : List Entry). record { upto = (since_unit past).upto; notes = l }) (sym (append-nil (since_unit past).notes))
noted_since past (e ∷ told) all =
    ap since_unit (sym (append_assoc past (e ∷ []) told)) ∙ noted_since (past ++ e ∷ []) told all.1
    ∙ ap (λ (s : SinceUnit). record { upto = s.upto; notes = s.notes ++ told }) (since_one past e ∙ (noted_stays e all.0).step (since_unit past))
    ∙ ap (λ (l : List Entry). record { upto = (since_unit past).upto; notes = l }) (append_assoc (since_unit past).notes (e ∷ []) told)

-- ---- entries after whole notes

-- nothing of a payload, and no mark of a unit
abbrev pub IsPlain : Entry → Type 0
IsPlain e = IsElse e × IsApart e × (is_mark e ≡ false)

record IsStill (b : Bool) (e : Entry) : Type 0 where
  was : b ≡ true
  step : (since : SinceUnit) → since_step since e ≡ record { upto = since.upto; notes = since.notes ++ e ∷ [] }

plain_still : (b : Bool) (e : Entry) → IsApart e → is_mark e ≡ false → after_step b e ≡ true → IsStill b e
plain_still b (entry.Written Host unit) apart mark is = absurd (both_ways (is_acknowledgement unit) apart is)
plain_still b (entry.Written Chip unit) apart mark is = absurd apart
plain_still b (entry.Dropped Host) apart mark is = absurd (let bad : true ≡ false = mark in cc)
plain_still b (entry.Overrun Host) apart mark is = absurd (let bad : true ≡ false = mark in cc)
plain_still b (entry.Garbled Host unit) apart mark is = absurd (let bad : true ≡ false = mark in cc)
plain_still b e apart mark is = record { was = (and_parts b (not (is_no_note e)) is).0; step = λ since. refl }

module _ (keys : Keys) where
  abbrev pub Stand : List Entry → List Entry → Type 0
  Stand past told = EachAfter (MayGoOn keys) past told

  abbrev pub NotesWhole : List Entry → Type 0
  NotesWhole past = AllByRecursion (λ (carried : Carried). AreWhole keys (since_unit past).upto carried (since_unit past).notes) (brought_here past)

  pub off_whole : (past : List Entry) → is_following past ≡ false → NotesWhole past
  off_whole past off =
      subst (λ (l : List Carried). AllByRecursion (λ (carried : Carried). AreWhole keys (since_unit past).upto carried (since_unit past).notes) l) (sym (none_here past off)) tt

  off_may : (past : List Entry) (e : Entry) → is_following past ≡ false → MayGoOn keys past e
  off_may past e off = subst (λ (l : List Carried). AllByRecursion (GoesOnWith keys (since_unit past) (is_mark e) (goes_on e) e) l) (sym (none_here past off)) tt

  more_whole : (upto : List Entry) (carried : Carried) (some : List Entry) (e : Entry) → IsElse e → AreWhole keys upto carried some → AreWhole keys upto carried (some ++ e ∷ [])
  more_whole upto carried some e other (notes, more, are, payload, all) =
      (notes, more ++ e ∷ [], ap (λ (l : List Entry). l ++ e ∷ []) are ∙ append_assoc notes more (e ∷ []), payload, all-append IsElse more (e ∷ []) all (other, tt))

  may_by : (since : SinceUnit) (carried : Carried) (e : Entry) (mark on : Bool) → IsElse e → AreWhole keys since.upto carried since.notes → GoesOnWith keys since mark on e carried
  may_by since carried e true on other whole = tt
  may_by since carried e false true other whole = ([], more_whole since.upto carried since.notes e other whole)
  may_by since carried e false false other whole = whole

  pub whole_may : (past : List Entry) (e : Entry) → IsElse e → NotesWhole past → MayGoOn keys past e
  whole_may past e other whole =
      all-weaker (λ (carried : Carried). AreWhole keys (since_unit past).upto carried (since_unit past).notes) (GoesOnWith keys (since_unit past) (is_mark e) (goes_on e) e)
      (λ carried one. may_by (since_unit past) carried e (is_mark e) (goes_on e) other one) (brought_here past) whole

  plain_whole : (past : List Entry) (e : Entry) → IsPlain e → NotesWhole past → NotesWhole (past ++ e ∷ [])
  plain_whole past e (other, apart, mark) whole = by (is_following (past ++ e ∷ [])) refl
    where
      by : (b : Bool) → is_following (past ++ e ∷ []) ≡ b → NotesWhole (past ++ e ∷ [])
      by false off = off_whole (past ++ e ∷ []) off
      by true on =
          let stays : after_step (is_following past) e ≡ true = sym (following_one past e) ∙ on in
          let still = plain_still (is_following past) e apart mark stays in
          subst (λ (l : List Carried). AllByRecursion (λ (carried : Carried). AreWhole keys (since_unit (past ++ e ∷ [])).upto carried (since_unit (past ++ e ∷ [])).notes) l)
          (sym (same_here past e apart (stays ∙ sym still.was)))
          (subst (λ (s : SinceUnit). AllByRecursion (λ (carried : Carried). AreWhole keys s.upto carried s.notes) (brought_here past)) (sym (since_one past e ∙ still.step (since_unit past)))
          (all-weaker (λ (carried : Carried). AreWhole keys (since_unit past).upto carried (since_unit past).notes)
          (λ (carried : Carried). AreWhole keys (since_unit past).upto carried ((since_unit past).notes ++ e ∷ []))
          (λ carried one. more_whole (since_unit past).upto carried (since_unit past).notes e other one) (brought_here past) whole))

  abbrev pub Goes : List Entry → List Entry → Type 0
  Goes past told = Stand past told × NotesWhole (past ++ told)

  pub nothing_goes : (past told : List Entry) → told ≡ [] → NotesWhole past → Goes past told
  nothing_goes past told is whole = subst (Goes past) (sym is) (tt, subst NotesWhole (sym (append-nil past)) whole)

  -- one entry before others
  then_goes : (past : List Entry) (e : Entry) (told : List Entry) → MayGoOn keys past e → Goes (past ++ e ∷ []) told → Goes past (e ∷ told)
  then_goes past e told may more = ((may, more.0), subst NotesWhole (append_assoc past (e ∷ []) told) more.1)

  pub plain_goes : (past told : List Entry) → AllByRecursion IsPlain told → NotesWhole past → Goes past told
  plain_goes past [] all whole = nothing_goes past [] refl whole
  plain_goes past (e ∷ told) all whole = then_goes past e told (whole_may past e all.0.0 whole) (plain_goes (past ++ e ∷ []) told all.1 (plain_whole past e all.0 whole))

  -- one after which nothing was judged here
  pub end_goes : (past : List Entry) (e : Entry) → IsElse e → ((b : Bool) → after_step b e ≡ false) → NotesWhole past → Goes past (e ∷ [])
  end_goes past e other ends whole = ((whole_may past e other whole, tt), off_whole (past ++ e ∷ []) (following_one past e ∙ ends (is_following past)))

  -- ---- what became of units

  off_mark : (e : Entry) → IsOfUnit e → after_step false e ≡ false
  off_mark (entry.Dropped Host) mark = refl
  off_mark (entry.Garbled Host unit) mark = refl
  off_mark (entry.Overrun Host) mark = refl
  off_mark e mark = absurd mark

  pub marks_off : (past marks : List Entry) → AllByRecursion IsOfUnit marks → is_following past ≡ false → Stand past marks × (is_following (past ++ marks) ≡ false)
  marks_off past [] all off = (tt, ap is_following (append-nil past) ∙ off)
  marks_off past (e ∷ marks) all off =
      let next : is_following (past ++ e ∷ []) ≡ false = following_one past e ∙ (ap (λ (b : Bool). after_step b e) off ∙ off_mark e all.0) in
      let more = marks_off (past ++ e ∷ []) marks all.1 next in
      ((off_may past e off, more.0), ap is_following (sym (append_assoc past (e ∷ []) marks)) ∙ more.1)

  record IsMark (e : Entry) : Type 0 where
    mark : is_mark e ≡ true
    after_so : (b : Bool) → after_step b e ≡ b
    step : (since : SinceUnit) → since.notes ≡ [] → (since_step since e).notes ≡ []
    apart : IsApart e

  none_kept : (since : SinceUnit) (e : Entry) → since.notes ≡ [] → (grown since e (are_none since.notes)).notes ≡ []
  none_kept since e none = subst (λ (b : Bool). (grown since e b).notes ≡ []) (sym (ap (λ (l : List Entry). are_none l) none)) refl

  unit_mark : (e : Entry) → IsOfUnit e → IsMark e
  unit_mark (entry.Dropped Host) is = record { mark = refl; after_so = and_true; step = λ since none. none_kept since (entry.Dropped Host) none; apart = tt }
  unit_mark (entry.Garbled Host unit) is = record { mark = refl; after_so = and_true; step = λ since none. none_kept since (entry.Garbled Host unit) none; apart = tt }
  unit_mark (entry.Overrun Host) is = record { mark = refl; after_so = and_true; step = λ since none. none_kept since (entry.Overrun Host) none; apart = tt }
  unit_mark e is = absurd is

  mark_may : (since : SinceUnit) (e : Entry) (brought : List Carried) → is_mark e ≡ true → AllByRecursion (GoesOnWith keys since (is_mark e) (goes_on e) e) brought
  mark_may since e brought mark = subst (λ (b : Bool). AllByRecursion (GoesOnWith keys since b (goes_on e) e) brought) (sym mark) (all brought)
    where
      all : (l : List Carried) → AllByRecursion (GoesOnWith keys since true (goes_on e) e) l
      all [] = tt
      all (carried ∷ l) = (tt, all l)

  -- after an acknowledgement
  pub marks_on : (past marks : List Entry) → AllByRecursion IsOfUnit marks → (since_unit past).notes ≡ []
      → Stand past marks × ((since_unit (past ++ marks)).notes ≡ []) × (brought_here (past ++ marks) ≡ brought_here past)
  marks_on past [] all none = (tt, ap (λ (l : List Entry). (since_unit l).notes) (append-nil past) ∙ none, ap brought_here (append-nil past))
  marks_on past (e ∷ marks) all none =
      let one = unit_mark e all.0 in
      let (stand, more, brought) = marks_on (past ++ e ∷ []) marks all.1 (ap (λ (s : SinceUnit). s.notes) (since_one past e) ∙ one.step (since_unit past) none) in (
        (mark_may (since_unit past) e (brought_here past) one.mark, stand),
        ap (λ (l : List Entry). (since_unit l).notes) (sym (append_assoc past (e ∷ []) marks)) ∙ more,
        ap brought_here (sym (append_assoc past (e ∷ []) marks)) ∙ brought ∙ same_here past e one.apart (one.after_so (is_following past)),
      )

  -- ---- what a host puts out of itself, or on an answer

  abbrev IsPut : HostOut → Type 0
  IsPut = IsFrameOr IsPlain

  puts_go : (past : List Entry) (puts : List HostOut) (told : List Entry) → AllByRecursion IsPut puts → AreTold puts told → NotesWhole past → Goes past told
  puts_go past [] told all is whole = nothing_goes past told is whole
  puts_go past (Note e ∷ puts) told all (rest, is, more) whole =
      subst (Goes past) (sym is) (then_goes past e rest (whole_may past e all.0.0 whole) (puts_go (past ++ e ∷ []) puts rest all.1 more (plain_whole past e all.0 whole)))
  puts_go past (Write (Framed f) ∷ puts) told all (marks, rest, is, units, more) whole =
      let e : Entry = entry.Written Host (unit_text (Framed f)) in
      let here : List Entry = past ++ e ∷ [] in
      let off : is_following here ≡ false = following_one past e in
      let (stand, still) = marks_off here marks units off in
      let later = puts_go (here ++ marks) puts rest all.1 more (off_whole (here ++ marks) still) in
      subst (Goes past) (sym is)
      (then_goes past e (marks ++ rest) (whole_may past e tt whole)
      (each-append (MayGoOn keys) here marks rest stand later.0, subst NotesWhole (append_assoc here marks rest) later.1))
  puts_go past (Write unit ∷ puts) told all is whole = absurd all.0

  shared_plain : SharedAre IsPlain
  shared_plain = record {
    unanswered = λ command. (tt, tt, refl);
    asleep = λ n. (tt, tt, refl);
    done = λ n how. (tt, tt, refl);
    uninterviewed = λ n. (tt, tt, refl);
    neighbours = λ n nodes. (tt, tt, refl);
    failed = λ n is_failed. (tt, tt, refl);
    stored = λ n setting. (tt, tt, refl);
    held = λ n. (tt, tt, refl);
    full = λ n. (tt, tt, refl);
  }

  own_plain : (event : HostEvent) → IsOwn event → OwnIs IsPlain event
  own_plain (happening.Accepts order carriage) own = absurd own
  own_plain (happening.Cancels command) own = absurd own
  own_plain (happening.Interviews n listens classes update) own = absurd own
  own_plain (happening.Interview_unkept n update) own = absurd own
  own_plain (happening.Unreads n payload) own = absurd own
  own_plain (happening.Is_unkept n) own = absurd own
  own_plain (happening.Reports_old n id) own = absurd own
  own_plain (happening.Finishes n session id command status wake) own = absurd own
  own_plain (happening.Spends_unread n payload) own = absurd own
  own_plain (happening.Notifies n) own = absurd own
  own_plain (happening.Hears_value n setting) own = absurd own
  own_plain (happening.Has_no_room n property) own = absurd own
  own_plain (happening.Begins n session command) own = (tt, tt, refl)
  own_plain (happening.Begin_unkept n) own = (tt, tt, refl)
  own_plain event own = tt

  own_nothing : (event : HostEvent) → IsOwn event → HearsNothing event
  own_nothing (happening.Hears item) own = absurd own
  own_nothing event own = tt

  pub own_goes : (past : List Entry) (h : HostState) (event : HostEvent) (told : List Entry) → IsOwn event → AreTold (outs h event) told → NotesWhole past → Goes past told
  own_goes past h event told own are whole =
      puts_go past (outs h event) told (puts_frames_or IsPlain h event (own_nothing event own) (outs_are IsPlain shared_plain h event (own_plain event own))) are whole

  pub request_goes : (past : List Entry) (h : HostState) (event : HostEvent) (told : List Entry) → IsOfRequest event → AreTold (outs h event) told → NotesWhole past → Goes past told
  request_goes past h (Requests_do event moment) told of are whole =
      puts_go past (outs h (Requests_do event moment)) told
      (puts_frames_or IsPlain h (Requests_do event moment) tt (outs_are IsPlain shared_plain h (Requests_do event moment) tt)) are whole
  request_goes past h event told of are whole = absurd of

  -- ---- what is left of a payload

  -- all of it, or some of its messages, with these events; and what that has noted completes what stands
  pub record AtPayload (since : SinceUnit) (past : List Entry) (h : HostState) (left : List HostEvent) (carried : Carried) : Type 0 where
    pub left_is : PayloadEvents h carried.node carried.payload (heard_at carried.payload) left
    pub completes : (rest : List Entry) → PayloadNotes keys carried.node carried.payload past (heard_at carried.payload) rest
        → PayloadNotes keys carried.node carried.payload since.upto (heard_at carried.payload) (since.notes ++ rest)

  pub record AtMessages (since : SinceUnit) (past : List Entry) (h : HostState) (left : List HostEvent) (carried : Carried) : Type 0 where
    pub sealed : Bool
    pub messages : List Told
    pub left_are : AreTaken h carried.node carried.payload sealed messages left
    pub completes : (rest : List Entry) → MessagesNotes (hearing_of carried.node carried.payload sealed) past messages rest
        → PayloadNotes keys carried.node carried.payload since.upto (heard_at carried.payload) (since.notes ++ rest)

  abbrev pub IsLeft : SinceUnit → List Entry → HostState → List HostEvent → Carried → Type 0
  IsLeft since past h left carried = AtPayload since past h left carried ⊎ AtMessages since past h left carried

  abbrev pub NotesLeft : List Entry → HostState → List HostEvent → Type 0
  NotesLeft past h left = AllByRecursion (IsLeft (since_unit past) past h left) (brought_here past)

  -- where no event is left they are whole
  over_whole : (since : SinceUnit) (past : List Entry) (h : HostState) (carried : Carried) → Ties past h → IsLeft since past h [] carried → AreWhole keys since.upto carried since.notes
  over_whole since past h carried ties left = (since.notes, [], sym (append-nil since.notes), by left, tt)
    where
      all_of : PayloadNotes keys carried.node carried.payload since.upto (heard_at carried.payload) (since.notes ++ [])
          → PayloadNotes keys carried.node carried.payload since.upto (heard_at carried.payload) since.notes
      all_of notes = subst (PayloadNotes keys carried.node carried.payload since.upto (heard_at carried.payload)) (append-nil since.notes) notes

      by : IsLeft since past h [] carried → PayloadNotes keys carried.node carried.payload since.upto (heard_at carried.payload) since.notes
      by (inl at) = all_of (at.completes [] (payload_over keys carried.node carried.payload past h ties (heard_at carried.payload) at.left_is))
      by (inr at) = all_of (at.completes [] (messages_over carried.node carried.payload at.sealed past h ties at.messages at.left_are))

  pub all_over : (past : List Entry) (h : HostState) → Ties past h → NotesLeft past h [] → NotesWhole past
  all_over past h ties left =
      all-weaker (IsLeft (since_unit past) past h []) (λ (carried : Carried). AreWhole keys (since_unit past).upto carried (since_unit past).notes)
      (λ carried one. over_whole (since_unit past) past h carried ties one) (brought_here past) left

  -- an event of it goes by, with what it puts out
  one_goes : (since : SinceUnit) (past : List Entry) (h : HostState) (event : HostEvent) (left : List HostEvent) (told : List Entry) (carried : Carried) → Ties past h → h.keys ≡ keys
      → AreTold (outs h event) told → IsLeft since past h (event ∷ left) carried
      → AtMessages (record { upto = since.upto; notes = since.notes ++ told }) (past ++ told) (after h event) left carried
  one_goes since past h event left told carried ties same are (inl at) =
      let goes = payload_goes keys carried.node carried.payload past h ties same (heard_at carried.payload) event left told at.left_is are in
      record {
        sealed = goes.sealed;
        messages = goes.more;
        left_are = goes.taken;
        completes = λ rest got.
            subst (PayloadNotes keys carried.node carried.payload since.upto (heard_at carried.payload)) (sym (append_assoc since.notes told rest)) (at.completes (told ++ rest) (goes.completes rest got));
      }
  one_goes since past h event left told carried ties same are (inr at) =
      let goes = messages_go carried.node carried.payload at.sealed past h ties at.messages event left told at.left_are are in
      record {
        sealed = at.sealed;
        messages = goes.more;
        left_are = goes.taken;
        completes = λ rest got.
            subst (PayloadNotes keys carried.node carried.payload since.upto (heard_at carried.payload)) (sym (append_assoc since.notes told rest)) (at.completes (told ++ rest) (goes.completes rest got));
      }

  -- these notes, with others to come, are those of the payload; so they are whole
  abbrev pub Among : SinceUnit → List Entry → Carried → Type 0
  Among since told carried = (rest : List Entry) × PayloadNotes keys carried.node carried.payload since.upto (heard_at carried.payload) (since.notes ++ (told ++ rest))

  among : (since : SinceUnit) (past : List Entry) (h : HostState) (left : List HostEvent) (told : List Entry) (carried : Carried)
      → AtMessages (record { upto = since.upto; notes = since.notes ++ told }) (past ++ told) h left carried → Among since told carried
  among since past h left told carried at =
      let (some, are) = messages_some (hearing_of carried.node carried.payload at.sealed) (past ++ told) at.messages in
      (some, subst (PayloadNotes keys carried.node carried.payload since.upto (heard_at carried.payload)) (append_assoc since.notes told some) (at.completes some are))

  abbrev Completes : SinceUnit → List Entry → Carried → Type 0
  Completes since told carried = (rest : List Entry) × AreWhole keys since.upto carried (since.notes ++ (told ++ rest))

  completed : (since : SinceUnit) (told : List Entry) (carried : Carried) → Among since told carried → Completes since told carried
  completed since told carried (rest, notes) =
      let all : List Entry = since.notes ++ (told ++ rest) in (rest, (all, [], sym (append-nil all), notes, tt))

  first_may : (since : SinceUnit) (e : Entry) (told : List Entry) (carried : Carried) (mark on : Bool) → mark ≡ false → on ≡ true → Completes since (e ∷ told) carried
      → GoesOnWith keys since mark on e carried
  first_may since e told carried false true unmarked goes (rest, whole) = (told ++ rest, whole)
  first_may since e told carried true on unmarked goes completes = tt
  first_may since e told carried false false unmarked goes completes = absurd (let bad : false ≡ true = goes in cc)

  next_completes : (since : SinceUnit) (e : Entry) (told : List Entry) (carried : Carried) → Completes since (e ∷ told) carried
      → Completes (record { upto = since.upto; notes = since.notes ++ e ∷ [] }) told carried
  next_completes since e told carried (rest, whole) = (rest, subst (AreWhole keys since.upto carried) (sym (append_assoc since.notes (e ∷ []) (told ++ rest))) whole)

  stand_all : (past told : List Entry) → AllByRecursion IsNoted told → AllByRecursion (Completes (since_unit past) told) (brought_here past) → Stand past told
  stand_all past [] all completes = tt
  stand_all past (e ∷ told) all completes =
      let stays = noted_stays e all.0 in
      let step : since_unit (past ++ e ∷ []) ≡ record { upto = (since_unit past).upto; notes = (since_unit past).notes ++ e ∷ [] } = since_one past e ∙ stays.step (since_unit past) in (
        all-weaker (Completes (since_unit past) (e ∷ told)) (GoesOnWith keys (since_unit past) (is_mark e) (goes_on e) e)
            (λ carried one. first_may (since_unit past) e told carried (is_mark e) (goes_on e) stays.mark stays.on one) (brought_here past) completes,
        stand_all (past ++ e ∷ []) told all.1
            (subst (λ (s : SinceUnit). AllByRecursion (Completes s told) (brought_here (past ++ e ∷ []))) (sym step)
            (subst (λ (l : List Carried). AllByRecursion (Completes (record { upto = (since_unit past).upto; notes = (since_unit past).notes ++ e ∷ [] }) told) l)
            (sym (same_here past e stays.apart (stays.after_so (is_following past))))
            (all-weaker (Completes (since_unit past) (e ∷ told)) (Completes (record { upto = (since_unit past).upto; notes = (since_unit past).notes ++ e ∷ [] }) told)
            (λ carried one. next_completes (since_unit past) e told carried one) (brought_here past) completes))),
      )

  all_go : (past : List Entry) (h : HostState) (event : HostEvent) (left : List HostEvent) (told : List Entry) → Ties past h → h.keys ≡ keys → AreTold (outs h event) told
      → NotesLeft past h (event ∷ left)
      → AllByRecursion (AtMessages (record { upto = (since_unit past).upto; notes = (since_unit past).notes ++ told }) (past ++ told) (after h event) left) (brought_here past)
  all_go past h event left told ties same are notes =
      all-weaker (IsLeft (since_unit past) past h (event ∷ left))
      (AtMessages (record { upto = (since_unit past).upto; notes = (since_unit past).notes ++ told }) (past ++ told) (after h event) left)
      (λ carried one. one_goes (since_unit past) past h event left told carried ties same are one) (brought_here past) notes

  pub notes_after : (past : List Entry) (h : HostState) (event : HostEvent) (left : List HostEvent) (told : List Entry) → Ties past h → h.keys ≡ keys → AreTold (outs h event) told
      → NotesLeft past h (event ∷ left) → AllByRecursion (Among (since_unit past) told) (brought_here past)
  notes_after past h event left told ties same are notes =
      all-weaker (AtMessages (record { upto = (since_unit past).upto; notes = (since_unit past).notes ++ told }) (past ++ told) (after h event) left) (Among (since_unit past) told)
      (λ carried one. among (since_unit past) past (after h event) left told carried one) (brought_here past) (all_go past h event left told ties same are notes)

  pub behind_goes : (past : List Entry) (h : HostState) (event : HostEvent) (left : List HostEvent) (told : List Entry) → Ties past h → h.keys ≡ keys → AllByRecursion IsNoted told
      → AreTold (outs h event) told → NotesLeft past h (event ∷ left) → Stand past told × NotesLeft (past ++ told) (after h event) left
  behind_goes past h event left told ties same noted_all are notes =
      let since : SinceUnit = since_unit past in
      let later : SinceUnit = record { upto = since.upto; notes = since.notes ++ told } in (
        stand_all past told noted_all
            (all-weaker (Among since told) (Completes since told) (λ carried one. completed since told carried one) (brought_here past) (notes_after past h event left told ties same are notes)),
        subst (λ (l : List Carried). AllByRecursion (IsLeft (since_unit (past ++ told)) (past ++ told) (after h event) left) l) (sym (noted_brought past told noted_all))
            (subst (λ (s : SinceUnit). AllByRecursion (IsLeft s (past ++ told) (after h event) left) (brought_here past)) (sym (noted_since past told noted_all))
            (all-weaker (AtMessages later (past ++ told) (after h event) left) (IsLeft later (past ++ told) (after h event) left) (λ carried one. inr one) (brought_here past)
            (all_go past h event left told ties same are notes))),
      )
