-- Entries that tell of no frame that came and was judged: the frames that came, and those that were judged, are the same after them.
use Rattle.std.proofs.Common.{◌≡◌, ℕ, ◌+◌, ◌-◌, Bool, true, false, not, ◌&&◌, if◌then◌else◌, List, [], ◌∷◌, ◌++◌, length, take, drop, filter, refl, sym, ap, ap₂, ◌∙◌, append-nil, append_assoc, length-append, arith}
use Rattle.std.specs.List.{AllByRecursion, flat_map}
use Rattle.std.proofs.lemmas.Bool.{and_right}
use Rattle.std.proofs.lemmas.Grind.{flat_map-append}
use Rattle.std.proofs.lemmas.List.Elements.{filter-append}
use Rattle.std.proofs.Math.Seq.{drop-append_seam, take-append_seam}
use Rattle.zw_base.proofs.Each.{all-weaker}
use Rattle.serial_frame.specs.Items.{unit_text}
use Rattle.serial_frame.specs.declared.unit.Unit.{Unit as LineUnit}
use Rattle.zw_words.specs.declared.side.Side.TheVariants.{Host, Chip}
use Rattle.zw_text.specs.declared.entry.Refusal.{Refusal}
use Rattle.zw_text.specs.declared.entry.Entry.{Entry}
use Rattle.zw_text.specs.declared.entry.Entry.TheVariants as entry
use Rattle.zw_text.specs.Transcript.{Unit_on, Way, folded, last_with, line_of, unit_at, unit_step, units, written}
use Rattle.zw_text.specs.Transcript.Way.{Whole, Missed, Changed}
use Rattle.zw_text.proofs.Views.{folded-append, shown-append}
use Rattle.proof_alone.specs.law_transcript.Restarts.{begins_refused, is_restart, since_restart, since_restart_from}
use Rattle.proof_alone.specs.law_time.Judged.{acknowledged, frame_whole, frames_come, is_acknowledgement, judged, last_of}
use Rattle.proof_alone.specs.Steps.{DidNotCome}
use Rattle.proof_waking.specs.Judged.{TieFrames, frames_of}

-- ---- since the host started

pub same_refused : (e : Entry) (past told : List Entry) → begins_refused (e ∷ (past ++ told)) ≡ begins_refused (e ∷ past)
same_refused (entry.Refused refusal) past told = refl
same_refused e past told = refl

pub since_joined : (start past told : List Entry) → begins_refused told ≡ false → since_restart_from start (past ++ told) ≡ since_restart_from (since_restart_from start past) told
since_joined start [] told fresh = refl
since_joined start (e ∷ []) told fresh = ap (λ (b : Bool). since_restart_from (if is_restart (line_of e) && not b then [] else start ++ e ∷ []) told) fresh
since_joined start (e ∷ (next ∷ past)) told fresh =
    ap (λ (b : Bool). since_restart_from (if is_restart (line_of e) && not b then [] else start ++ e ∷ []) (next ∷ (past ++ told))) (same_refused next past told)
    ∙ since_joined (if is_restart (line_of e) && not (begins_refused (next ∷ past)) then [] else start ++ e ∷ []) (next ∷ past) told fresh

-- no line, and no refusal of one
abbrev pub IsWordless : Entry → Type 0
IsWordless (entry.Said words) = ⊥
IsWordless (entry.Refused refusal) = ⊥
IsWordless e = Unit {0}

pub wordless_fresh : (told : List Entry) → AllByRecursion IsWordless told → begins_refused told ≡ false
wordless_fresh [] all = refl
wordless_fresh (entry.Refused refusal ∷ told) all = absurd all.0
wordless_fresh (e ∷ told) all = refl

wordless_added : (start told : List Entry) → AllByRecursion IsWordless told → since_restart_from start told ≡ start ++ told
wordless_added start [] all = sym (append-nil start)
wordless_added start (entry.Said words ∷ told) all = absurd all.0
wordless_added start (e ∷ told) all = wordless_added (start ++ e ∷ []) told all.1 ∙ append_assoc start (e ∷ []) told

pub wordless_more : (past told : List Entry) → AllByRecursion IsWordless told → since_restart (past ++ told) ≡ since_restart past ++ told
wordless_more past told all = since_joined [] past told (wordless_fresh told all) ∙ wordless_added (since_restart past) told all

-- words of a line that is no restart; of one that is; and of one that is refused
pub said_on : (past : List Entry) (words : List ℕ) → is_restart (line_of (entry.Said words)) ≡ false → since_restart (past ++ entry.Said words ∷ []) ≡ since_restart past ++ entry.Said words ∷ []
said_on past words goes_on =
    since_joined [] past (entry.Said words ∷ []) refl
    ∙ ap (λ (b : Bool). if b && true then [] else since_restart past ++ entry.Said words ∷ []) goes_on

pub said_anew : (past : List Entry) (words : List ℕ) → is_restart (line_of (entry.Said words)) ≡ true → since_restart (past ++ entry.Said words ∷ []) ≡ []
said_anew past words anew =
    since_joined [] past (entry.Said words ∷ []) refl
    ∙ ap (λ (b : Bool). if b && true then [] else since_restart past ++ entry.Said words ∷ []) anew

pub said_in_vain : (past : List Entry) (words : List ℕ) (refusal : Refusal) → since_restart (past ++ entry.Said words ∷ (entry.Refused refusal ∷ [])) ≡ since_restart past ++ entry.Said words ∷ (entry.Refused refusal ∷ [])
said_in_vain past words refusal =
    since_joined [] past (entry.Said words ∷ (entry.Refused refusal ∷ [])) refl
    ∙ ap (λ (b : Bool). (if b then [] else since_restart past ++ entry.Said words ∷ []) ++ entry.Refused refusal ∷ []) (and_right (is_restart (line_of (entry.Said words))) false refl)
    ∙ append_assoc (since_restart past) (entry.Said words ∷ []) (entry.Refused refusal ∷ [])

-- ---- frames that came, and were judged

abbrev frames_in : List Unit_on → List (List ℕ)
frames_in some = flat_map (λ unit. frame_whole unit.bytes unit.way) some

abbrev pub acknowledged_in : List Entry → ℕ
acknowledged_in past = length (filter is_acknowledgement (written Host past))

-- of no unit that the chip wrote, and none that acknowledges
abbrev pub IsApart : Entry → Type 0
IsApart (entry.Said words) = ⊥
IsApart (entry.Refused refusal) = ⊥
IsApart (entry.Written Host unit) = is_acknowledgement unit ≡ false
IsApart (entry.Written Chip unit) = ⊥
IsApart (entry.Dropped Chip) = ⊥
IsApart (entry.Garbled Chip unit) = ⊥
IsApart (entry.Overrun Chip) = ⊥
IsApart e = Unit {0}

pub apart_wordless : (e : Entry) → IsApart e → IsWordless e
apart_wordless (entry.Said words) apart = absurd apart
apart_wordless (entry.Refused refusal) apart = absurd apart
apart_wordless e apart = tt

apart_unit : (some : List Unit_on) (e : Entry) → IsApart e → unit_step Chip some e ≡ some
apart_unit some (entry.Said words) apart = absurd apart
apart_unit some (entry.Refused refusal) apart = absurd apart
apart_unit some (entry.Written Host unit) apart = refl
apart_unit some (entry.Written Chip unit) apart = absurd apart
apart_unit some (entry.Dropped Host) apart = refl
apart_unit some (entry.Dropped Chip) apart = absurd apart
apart_unit some (entry.Garbled Host unit) apart = refl
apart_unit some (entry.Garbled Chip unit) apart = absurd apart
apart_unit some (entry.Overrun Host) apart = refl
apart_unit some (entry.Overrun Chip) apart = absurd apart
apart_unit some e apart = refl

apart_units : (some : List Unit_on) (told : List Entry) → AllByRecursion IsApart told → folded (unit_step Chip) some told ≡ some
apart_units some [] all = refl
apart_units some (e ∷ told) all = ap (λ (u : List Unit_on). folded (unit_step Chip) u told) (apart_unit some e all.0) ∙ apart_units some told all.1

apart_none : (told : List Entry) → AllByRecursion IsApart told → filter is_acknowledgement (written Host told) ≡ []
apart_none [] all = refl
apart_none (entry.Written Host unit ∷ told) all =
    ap (λ (b : Bool). if b then unit ∷ filter is_acknowledgement (written Host told) else filter is_acknowledgement (written Host told)) all.0 ∙ apart_none told all.1
apart_none (entry.Written Chip unit ∷ told) all = absurd all.0
apart_none (e ∷ told) all = apart_none told all.1

-- how both grow
come_more : (start told : List Entry) → frames_in (units Chip (start ++ told)) ≡ frames_in (folded (unit_step Chip) (units Chip start) told)
come_more start told = ap frames_in (folded-append (unit_step Chip) [] start told)

pub count_more : (start told : List Entry) → acknowledged_in (start ++ told) ≡ acknowledged_in start + acknowledged_in told
count_more start told =
    ap (λ (l : List (List ℕ)). length (filter is_acknowledgement l)) (shown-append (unit_at Host) start told)
    ∙ ap length (filter-append is_acknowledgement (written Host start) (written Host told))
    ∙ length-append (filter is_acknowledgement (written Host start)) (filter is_acknowledgement (written Host told))

-- the same after entries apart
pub record IsSame (past later : List Entry) : Type 0 where
  pub come : frames_come later ≡ frames_come past
  pub count : acknowledged later ≡ acknowledged past

in_same : (start told : List Entry) → AllByRecursion IsApart told → (frames_in (units Chip (start ++ told)) ≡ frames_in (units Chip start)) × (acknowledged_in (start ++ told) ≡ acknowledged_in start)
in_same start told all =
    let none : acknowledged_in told ≡ 0 = ap length (apart_none told all) in
    let more = count_more start told in
    (come_more start told ∙ ap frames_in (apart_units (units Chip start) told all), omega (arith, more, none))

pub apart_same : (past told : List Entry) → AllByRecursion IsApart told → IsSame past (past ++ told)
apart_same past told all =
    let since = wordless_more past told (all-weaker IsApart IsWordless apart_wordless told all) in
    let same = in_same (since_restart past) told all in record {
      come = ap (λ (s : List Entry). frames_in (units Chip s)) since ∙ same.0;
      count = ap acknowledged_in since ∙ same.1;
    }

same_judged : (past later : List Entry) → IsSame past later → judged later ≡ judged past
same_judged past later same = ap₂ (λ (n : ℕ) (l : List (List ℕ)). take n l) same.count same.come

pub apart_judged : (past told : List Entry) → AllByRecursion IsApart told → judged (past ++ told) ≡ judged past
apart_judged past told all = same_judged past (past ++ told) (apart_same past told all)

same_frames : (past later : List Entry) (came : List LineUnit) → IsSame past later → TieFrames past came → TieFrames later came
same_frames past later came same tie =
    let come = tie.come in
    let count = tie.count in record { done = tie.done; come = same.come ∙ come; count = same.count ∙ count }

pub apart_frames : (past told : List Entry) (came : List LineUnit) → AllByRecursion IsApart told → TieFrames past came → TieFrames (past ++ told) came
apart_frames past told came all tie = same_frames past (past ++ told) came (apart_same past told all) tie

-- ---- units of the chip

end_with : (some : List Unit_on) (bytes : List ℕ) (was way : Way) → last_with way (some ++ record { bytes = bytes; way = was } ∷ []) ≡ some ++ record { bytes = bytes; way = way } ∷ []
end_with [] bytes was way = refl
end_with (unit ∷ []) bytes was way = refl
end_with (unit ∷ (next ∷ some)) bytes was way = ap (λ (l : List Unit_on). unit ∷ l) (end_with (next ∷ some) bytes was way)

one_more : (some : List Unit_on) (bytes : List ℕ) (way : Way) → frames_in (some ++ record { bytes = bytes; way = way } ∷ []) ≡ frames_in some ++ frame_whole bytes way
one_more some bytes way =
    flat_map-append (λ unit. frame_whole unit.bytes unit.way) some (record { bytes = bytes; way = way } ∷ [])
    ∙ ap (λ (l : List (List ℕ)). frames_in some ++ l) (append-nil (frame_whole bytes way))

-- one comes
pub come_frames : (past : List Entry) (came : List LineUnit) (unit : LineUnit) → TieFrames past came → TieFrames (past ++ entry.Written Chip (unit_text unit) ∷ []) (came ++ unit ∷ [])
come_frames past came unit tie =
    let told : List Entry = entry.Written Chip (unit_text unit) ∷ [] in
    let since = wordless_more past told (tt, tt) in
    let start : List Entry = since_restart past in
    let come = tie.come in
    let count = tie.count in
    let more = count_more start told in
    let none : acknowledged_in told ≡ 0 = refl in
    let grown : frames_in (units Chip (start ++ told)) ≡ frames_come past ++ frame_whole (unit_text unit) Whole =
    come_more start told ∙ one_more (units Chip start) (unit_text unit) Whole in
    let ends : frames_of (came ++ unit ∷ []) ≡ frames_of came ++ frame_whole (unit_text unit) Whole =
    flat_map-append (λ unit. frame_whole (unit_text unit) Whole) came (unit ∷ []) ∙ ap (λ (l : List (List ℕ)). frames_of came ++ l) (append-nil (frame_whole (unit_text unit) Whole)) in
    record {
      done = tie.done;
      come = ap (λ (s : List Entry). frames_in (units Chip s)) since ∙ grown ∙ ap (λ (l : List (List ℕ)). l ++ frame_whole (unit_text unit) Whole) come
          ∙ append_assoc tie.done (frames_of came) (frame_whole (unit_text unit) Whole) ∙ ap (λ (l : List (List ℕ)). tie.done ++ l) (sym ends);
      count = ap acknowledged_in since ∙ omega (arith, more, none, count);
    }

-- one does not come as it was written
record IsMissed (some : List Unit_on) (text : List ℕ) (marks : List Entry) : Type 0 where
  wordless : AllByRecursion IsWordless marks
  way : Way
  units_are : folded (unit_step Chip) (some ++ record { bytes = text; way = Whole } ∷ []) marks ≡ some ++ record { bytes = text; way = way } ∷ []
  none : frame_whole text way ≡ []
  uncounted : filter is_acknowledgement (written Host marks) ≡ []

is_missed : (some : List Unit_on) (text : List ℕ) (marks : List Entry) → DidNotCome marks → IsMissed some text marks
is_missed some text (entry.Dropped Chip ∷ []) did = record { wordless = (tt, tt); way = Missed; units_are = end_with some text Whole Missed; none = refl; uncounted = refl }
is_missed some text (entry.Overrun Chip ∷ []) did = record { wordless = (tt, tt); way = Missed; units_are = end_with some text Whole Missed; none = refl; uncounted = refl }
is_missed some text (entry.Garbled Chip unit ∷ []) did =
    record { wordless = (tt, tt); way = Changed unit; units_are = end_with some text Whole (Changed unit); none = refl; uncounted = refl }
is_missed some text (entry.Garbled Chip unit ∷ entry.Overrun Chip ∷ []) did = record {
  wordless = (tt, (tt, tt));
  way = Missed;
  units_are = ap (λ (l : List Unit_on). last_with Missed l) (end_with some text Whole (Changed unit)) ∙ end_with some text (Changed unit) Missed;
  none = refl;
  uncounted = refl;
}
is_missed some text marks did = absurd did

pub missed_frames : (past : List Entry) (came : List LineUnit) (text : List ℕ) (marks : List Entry) → DidNotCome marks → TieFrames past came
    → TieFrames (past ++ entry.Written Chip text ∷ marks) came
missed_frames past came text marks did tie =
    let start : List Entry = since_restart past in
    let missed = is_missed (units Chip start) text marks did in
    let told : List Entry = entry.Written Chip text ∷ marks in
    let since = wordless_more past told (tt, missed.wordless) in
    let more = count_more start told in
    let none : acknowledged_in told ≡ 0 = ap length missed.uncounted in
    let grown : frames_in (units Chip (start ++ told)) ≡ frames_come past =
    come_more start told ∙ ap frames_in missed.units_are ∙ one_more (units Chip start) text missed.way ∙ ap (λ (l : List (List ℕ)). frames_come past ++ l) missed.none
    ∙ append-nil (frames_come past) in
    same_frames past (past ++ told) came
    (record { come = ap (λ (s : List Entry). frames_in (units Chip s)) since ∙ grown; count = ap acknowledged_in since ∙ omega (arith, more, none) }) tie

-- ---- lines

-- a line is said, and does not start the host again
pub said_frames : (past : List Entry) (came : List LineUnit) (words : List ℕ) → is_restart (line_of (entry.Said words)) ≡ false → TieFrames past came
    → TieFrames (past ++ entry.Said words ∷ []) came
said_frames past came words goes_on tie =
    let start : List Entry = since_restart past in
    let told : List Entry = entry.Said words ∷ [] in
    let since = said_on past words goes_on in
    let more = count_more start told in
    let none : acknowledged_in told ≡ 0 = refl in
    same_frames past (past ++ told) came
    (record { come = ap (λ (s : List Entry). frames_in (units Chip s)) since ∙ come_more start told; count = ap acknowledged_in since ∙ omega (arith, more, none) }) tie

-- it does, and the host has judged nothing
pub anew_frames : (past : List Entry) (words : List ℕ) → is_restart (line_of (entry.Said words)) ≡ true → TieFrames (past ++ entry.Said words ∷ []) []
anew_frames past words anew =
    let since = said_anew past words anew in
    record { done = []; come = ap (λ (s : List Entry). frames_in (units Chip s)) since; count = ap acknowledged_in since }

-- it is refused
pub refused_frames : (past : List Entry) (came : List LineUnit) (words : List ℕ) (refusal : Refusal) → TieFrames past came
    → TieFrames (past ++ entry.Said words ∷ (entry.Refused refusal ∷ [])) came
refused_frames past came words refusal tie =
    let start : List Entry = since_restart past in
    let told : List Entry = entry.Said words ∷ (entry.Refused refusal ∷ []) in
    let since = said_in_vain past words refusal in
    let more = count_more start told in
    let none : acknowledged_in told ≡ 0 = refl in
    same_frames past (past ++ told) came
    (record { come = ap (λ (s : List Entry). frames_in (units Chip s)) since ∙ come_more start told; count = ap acknowledged_in since ∙ omega (arith, more, none) }) tie

-- ---- a frame is acknowledged

-- it was the first of those to be judged
pub record IsJudged (past : List Entry) (text : List ℕ) (came : List LineUnit) : Type 0 where
  pub frames : TieFrames past came
  pub last : last_of (judged past) ≡ text ∷ []

pub acknowledged_frames : (past : List Entry) (came rest : List LineUnit) (text unit : List ℕ) → frames_of came ≡ text ∷ frames_of rest → is_acknowledgement unit ≡ true
    → TieFrames past came → IsJudged (past ++ entry.Written Host unit ∷ []) text rest
acknowledged_frames past came rest text unit first acknowledges tie =
    let start : List Entry = since_restart past in
    let told : List Entry = entry.Written Host unit ∷ [] in
    let since = wordless_more past told (tt, tt) in
    let come = tie.come in
    let count = tie.count in
    let done : List (List ℕ) = tie.done ++ text ∷ [] in
    let more = count_more start told in
    let one : acknowledged_in told ≡ 1 = ap (λ (b : Bool). length (if b then unit ∷ [] else [])) acknowledges in
    let long = length-append tie.done (text ∷ []) in
    let now : frames_come (past ++ told) ≡ done ++ frames_of rest =
    ap (λ (s : List Entry). frames_in (units Chip s)) since ∙ come_more start told ∙ come ∙ ap (λ (l : List (List ℕ)). tie.done ++ l) first
    ∙ sym (append_assoc tie.done (text ∷ []) (frames_of rest)) in
    let counted : acknowledged (past ++ told) ≡ length done = ap acknowledged_in since ∙ omega (arith, more, one, count, long) in
    let these : judged (past ++ told) ≡ done =
    ap₂ (λ (n : ℕ) (l : List (List ℕ)). take n l) counted now ∙ take-append_seam done (frames_of rest) in
    let place : length done - 1 ≡ length tie.done = omega (arith, long) in
    record {
      frames = record { done = done; come = now; count = counted };
      last = ap (λ (l : List (List ℕ)). last_of l) these ∙ ap (λ (n : ℕ). drop n done) place ∙ drop-append_seam tie.done (text ∷ []);
    }
