-- What a host asks is tied to its transcript, entry by entry.
use Rattle.std.proofs.Common.{◌≡◌, ℕ, ◌+◌, ◌&&◌, Bool, true, false, if◌then◌else◌, ◌⊎◌, inl, inr, List, [], ◌∷◌, ◌++◌, length, filter, refl, sym, ap, ap₂, ◌∙◌, subst, append-nil, append_assoc, arith}
use Rattle.std.specs.List.{AllByRecursion}
use Rattle.std.specs.Str.{bytes_eq}
use Rattle.zw_base.proofs.Each.{all-weaker}
use Rattle.serial_frame.specs.declared.unit.TheConstants.{ACK, NAK}
use Rattle.serial_frame.specs.declared.unit.Unit.{Unit as LineUnit}
use Rattle.zw_words.specs.declared.side.Side.TheVariants.{Host, Chip}
use Rattle.zw_text.specs.declared.entry.Refusal.{Refusal}
use Rattle.zw_text.specs.declared.entry.Entry.{Entry}
use Rattle.zw_text.specs.declared.entry.Entry.TheVariants as entry
use Rattle.zw_text.specs.Transcript.{folded, line_of, written}
use Rattle.zw_text.proofs.Views.{folded-append}
use Rattle.proof_waking.specs.law_transcript.Restarts.{is_restart, since_restart}
use Rattle.proof_waking.specs.law_time.Moments.{Passing, clock, later_of, passing_step}
use Rattle.proof_waking.specs.law_time.Judged.{acknowledged, frames_come, is_acknowledgement, is_data, judged, last_of}
use Rattle.proof_waking.specs.law_transcript.Lists.{shown_after}
use Rattle.proof_waking.specs.law_time.Requests.{Answer, Asked, answers_from, asked, is_answer, is_missed, is_new, judging_at, up_to_first}
use Rattle.proof_waking.proofs.Untimed.{AreUntimed, same_time}
use Rattle.proof_waking.specs.proof_alone.Steps.{ChangesFrame, DidNotCome, IsOfUnit}
use Rattle.proof_waking.proofs.Apart.{IsWordless, acknowledged_in, count_more, said_in_vain, said_on, wordless_fresh, wordless_more}
use Rattle.proof_requests.specs.Standing.{prior_of, GoesOn, IsAside, Standing, first_standing, standing_of, with_answer, with_copy, with_entries, with_judging}
use Rattle.proof_requests.specs.Asking.{AsksNothing, AsksSo, Doing, TieAsked, WasAsked}
use Rattle.proof_requests.proofs.Growing.{NoFrame, asked_anew, asked_copy, asked_in_vain, asked_new, asked_on, asked_said}
use Rattle.proof_requests.proofs.Standing.{come_at, stands_answered, stands_aside, stands_copied, stands_judged, stands_lost}
use Rattle.proof_waking.proofs.Timing.{passing_untimed}

-- ---- time

pub clock_same : (past told : List Entry) → AreUntimed told → clock (past ++ told) ≡ clock past
clock_same past told all =
    let start : Passing = record { before = 0; asked = 0 } in
    ap₂ (λ (p : Passing) (n : ℕ). later_of p.before n)
    (folded-append passing_step start past told ∙ passing_untimed (folded passing_step start past) told all) (same_time past told all)

-- ---- quiet entries

-- no words, and no refusal; of units, a NAK of the host, and frames of the chip
abbrev pub IsQuiet : Entry → Type 0
IsQuiet (entry.Said words) = ⊥
IsQuiet (entry.Refused refusal) = ⊥
IsQuiet (entry.Written Host unit) = unit ≡ NAK ∷ []
IsQuiet (entry.Written Chip unit) = is_answer unit ≡ false
IsQuiet (entry.Dropped Chip) = ⊥
IsQuiet (entry.Overrun Chip) = ⊥
IsQuiet e = Unit {0}

quiet_aside : (e : Entry) → IsQuiet e → IsAside e
quiet_aside (entry.Said words) quiet = absurd quiet
quiet_aside (entry.Refused refusal) quiet = absurd quiet
quiet_aside (entry.Written Host unit) quiet = quiet
quiet_aside (entry.Written Chip unit) quiet = quiet
quiet_aside (entry.Dropped Host) quiet = tt
quiet_aside (entry.Dropped Chip) quiet = absurd quiet
quiet_aside (entry.Overrun Host) quiet = tt
quiet_aside (entry.Overrun Chip) quiet = absurd quiet
quiet_aside e quiet = tt

pub quiet_goes : (e : Entry) → IsQuiet e → GoesOn e
quiet_goes (entry.Said words) quiet = absurd quiet
quiet_goes (entry.Written Host unit) quiet = ap is_data quiet
quiet_goes (entry.Written Chip unit) quiet = tt
quiet_goes e quiet = tt

pub quiet_wordless : (e : Entry) → IsQuiet e → IsWordless e
quiet_wordless (entry.Said words) quiet = absurd quiet
quiet_wordless (entry.Refused refusal) quiet = absurd quiet
quiet_wordless e quiet = tt

pub mark_quiet : (e : Entry) → IsOfUnit e → IsQuiet e
mark_quiet (entry.Dropped Host) mark = tt
mark_quiet (entry.Garbled Host unit) mark = tt
mark_quiet (entry.Overrun Host) mark = tt
mark_quiet e mark = absurd mark

pub quiet_uncounted : (told : List Entry) → AllByRecursion IsQuiet told → filter is_acknowledgement (written Host told) ≡ []
quiet_uncounted [] all = refl
quiet_uncounted (entry.Written Host unit ∷ told) all =
    ap (λ (l : List ℕ). if is_acknowledgement l then unit ∷ filter is_acknowledgement (written Host told) else filter is_acknowledgement (written Host told)) all.0 ∙ quiet_uncounted told all.1
quiet_uncounted (entry.Written Chip unit ∷ told) all = quiet_uncounted told all.1
quiet_uncounted (e ∷ told) all = quiet_uncounted told all.1

-- ---- how many were judged

pub acknowledged_more : (past told : List Entry) (more : ℕ) → AllByRecursion IsWordless told → acknowledged_in told ≡ more → acknowledged (past ++ told) ≡ acknowledged past + more
acknowledged_more past told more all is =
    ap acknowledged_in (wordless_more past told all) ∙ count_more (since_restart past) told ∙ ap (λ (n : ℕ). acknowledged past + n) is

none_more : (n : ℕ) → n + 0 ≡ n
none_more n = omega arith

-- ---- the request goes on

pub grown : (past told : List Entry) → asked (past ++ told) ≡ with_entries (asked past) told → WasAsked past → WasAsked (past ++ told)
grown past told is was = record {
  framed = ap (λ (a : Asked). is_data a.frame) is ∙ was.framed;
  whole = ap (λ (a : Asked). up_to_first a ++ a.following) is ∙ sym (append_assoc (up_to_first (asked past)) (asked past).following told) ∙ ap (λ (l : List Entry). l ++ told) was.whole;
}

asks_by : (past told : List Entry) (later : Standing) (count line_now now : ℕ) (came : List LineUnit) (d : Doing) → asked (past ++ told) ≡ with_entries (asked past) told
    → standing_of (with_entries (asked past) told) ≡ later → acknowledged (past ++ told) ≡ count → AsksSo later line_now now count came d
    → AsksSo (standing_of (asked (past ++ told))) line_now now (acknowledged (past ++ told)) came d
asks_by past told later count line_now now came d is stands counted asks =
    subst (λ (n : ℕ). AsksSo (standing_of (asked (past ++ told))) line_now now n came d) (sym counted)
    (subst (λ (s : Standing). AsksSo s line_now now count came d) (sym (ap standing_of is ∙ stands)) asks)

nothing_grown : (past told : List Entry) (d : Doing) → asked (past ++ told) ≡ with_entries (asked past) told → AsksNothing past d → AsksNothing (past ++ told) d
nothing_grown past told d is none = record { unasked = ap (λ (a : Asked). a.frame) is ∙ none.unasked; idle = none.idle; none = none.none; paid = none.paid; undue = none.undue }

pub quiet_on : (past told : List Entry) → AllByRecursion IsQuiet told → asked (past ++ told) ≡ with_entries (asked past) told
quiet_on past told all = asked_on past told (wordless_fresh told (all-weaker IsQuiet IsWordless quiet_wordless told all)) (all-weaker IsQuiet GoesOn quiet_goes told all)

pub quiet_asides : (told : List Entry) → AllByRecursion IsQuiet told → AllByRecursion IsAside told
quiet_asides told all = all-weaker IsQuiet IsAside quiet_aside told all

-- after quiet entries, with what came and what the host does as they are
pub tie_quiet : (past told : List Entry) (line_now now : ℕ) (came : List LineUnit) (d : Doing) → AllByRecursion IsQuiet told → TieAsked past line_now now came d → TieAsked (past ++ told) line_now now came d
tie_quiet past told line_now now came d all tie = by tie
  where
    wordless : AllByRecursion IsWordless told
    wordless = all-weaker IsQuiet IsWordless quiet_wordless told all

    on : asked (past ++ told) ≡ with_entries (asked past) told
    on = quiet_on past told all

    counted : acknowledged (past ++ told) ≡ acknowledged past
    counted = acknowledged_more past told 0 wordless (ap length (quiet_uncounted told all)) ∙ none_more (acknowledged past)

    by : TieAsked past line_now now came d → TieAsked (past ++ told) line_now now came d
    by (inl none) = inl (nothing_grown past told d on none)
    by (inr (was, asks)) =
        inr (
          grown past told on was,
          asks_by past told (standing_of (asked past)) (acknowledged past) line_now now came d on
              (stands_aside (asked past) told was.framed (all-weaker IsQuiet IsAside quiet_aside told all)) counted asks,
        )

-- ---- an answer of the chip comes

pub tie_answered : (past : List Entry) (unit : List ℕ) (now : ℕ) (came later : List LineUnit) (d : Doing) → is_answer unit ≡ true
    → ((s : Standing) → AsksSo s now now (acknowledged past) came d → AsksSo (with_answer s (record { unit = unit; tick = clock past; frames = length (frames_come past) })) now now (acknowledged past) later d)
    → TieAsked past now now came d → TieAsked (past ++ entry.Written Chip unit ∷ []) now now later d
tie_answered past unit now came later d answers moves tie = by tie
  where
    told : List Entry
    told = entry.Written Chip unit ∷ []

    on : asked (past ++ entry.Written Chip unit ∷ []) ≡ with_entries (asked past) (entry.Written Chip unit ∷ [])
    on = asked_on past (entry.Written Chip unit ∷ []) refl (tt, tt)

    counted : acknowledged (past ++ entry.Written Chip unit ∷ []) ≡ acknowledged past
    counted = acknowledged_more past (entry.Written Chip unit ∷ []) 0 (tt, tt) refl ∙ none_more (acknowledged past)

    by : TieAsked past now now came d → TieAsked (past ++ entry.Written Chip unit ∷ []) now now later d
    by (inl none) = inl (nothing_grown past (entry.Written Chip unit ∷ []) d on none)
    by (inr (was, asks)) =
        inr (
          grown past (entry.Written Chip unit ∷ []) on was,
          asks_by past (entry.Written Chip unit ∷ []) (with_answer (standing_of (asked past)) (record { unit = unit; tick = clock past; frames = length (frames_come past) })) (acknowledged past) now now later d on
              (stands_answered (asked past) unit was.framed answers
              ∙ ap (λ (l : List Entry). with_answer (standing_of (asked past)) (record { unit = unit; tick = clock l; frames = length (frames_come l) })) was.whole)
              counted (moves (standing_of (asked past)) asks),
        )

-- ---- a frame of the chip is acknowledged

pub tie_judged : (past : List Entry) (text : List ℕ) (now : ℕ) (came later : List LineUnit) (d after : Doing) → last_of (judged (past ++ entry.Written Host (ACK ∷ []) ∷ [])) ≡ text ∷ []
    → (AsksNothing past d → AsksNothing past after)
    → ((s : Standing) → AsksSo s now now (acknowledged past) came d
    → AsksSo (with_judging s (record { unit = text; tick = clock past; place = acknowledged past + 1 })) now now (acknowledged past + 1) later after)
    → TieAsked past now now came d → TieAsked (past ++ entry.Written Host (ACK ∷ []) ∷ []) now now later after
tie_judged past text now came later d after last nothing moves tie = by tie
  where
    on : asked (past ++ entry.Written Host (ACK ∷ []) ∷ []) ≡ with_entries (asked past) (entry.Written Host (ACK ∷ []) ∷ [])
    on = asked_on past (entry.Written Host (ACK ∷ []) ∷ []) refl (refl, tt)

    counted : acknowledged (past ++ entry.Written Host (ACK ∷ []) ∷ []) ≡ acknowledged past + 1
    counted = acknowledged_more past (entry.Written Host (ACK ∷ []) ∷ []) 1 (tt, tt) refl

    by : TieAsked past now now came d → TieAsked (past ++ entry.Written Host (ACK ∷ []) ∷ []) now now later after
    by (inl none) = inl (nothing_grown past (entry.Written Host (ACK ∷ []) ∷ []) after on (nothing none))
    by (inr (was, asks)) =
        inr (
          grown past (entry.Written Host (ACK ∷ []) ∷ []) on was,
          asks_by past (entry.Written Host (ACK ∷ []) ∷ []) (with_judging (standing_of (asked past)) (record { unit = text; tick = clock past; place = acknowledged past + 1 })) (acknowledged past + 1) now now later after on
              (stands_judged (asked past) text was.framed (ap (λ (l : List Entry). last_of (judged (l ++ entry.Written Host (ACK ∷ []) ∷ []))) was.whole ∙ last)
              ∙ ap (λ (l : List Entry). with_judging (standing_of (asked past)) (record { unit = text; tick = clock l; place = acknowledged l + 1 })) was.whole)
              counted (moves (standing_of (asked past)) asks),
        )

-- ---- a copy is written

data_uncounted : (past : List Entry) (unit : List ℕ) → is_acknowledgement unit ≡ false → acknowledged (past ++ entry.Written Host unit ∷ []) ≡ acknowledged past
data_uncounted past unit none =
    acknowledged_more past (entry.Written Host unit ∷ []) 0 (tt, tt) (ap (λ (b : Bool). length (if b then unit ∷ [] else [])) none) ∙ none_more (acknowledged past)

pub tie_copied : (past : List Entry) (unit : List ℕ) (line_now now : ℕ) (came : List LineUnit) (d : Doing) → is_acknowledgement unit ≡ false → is_new (asked past) unit ≡ false
    → bytes_eq unit (asked past).frame ≡ true → WasAsked past
    → AsksSo (with_copy (standing_of (asked past)) (clock (past ++ entry.Written Host unit ∷ []))) line_now now (acknowledged past) came d
    → TieAsked (past ++ entry.Written Host unit ∷ []) line_now now came d
tie_copied past unit line_now now came d none old same was asks =
    let on = asked_copy past unit old in
    inr (
      grown past (entry.Written Host unit ∷ []) on was,
      asks_by past (entry.Written Host unit ∷ []) (with_copy (standing_of (asked past)) (clock (past ++ entry.Written Host unit ∷ []))) (acknowledged past) line_now now came d on
          (stands_copied (asked past) unit was.framed same ∙ ap (λ (l : List Entry). with_copy (standing_of (asked past)) (clock (l ++ entry.Written Host unit ∷ []))) was.whole)
          (data_uncounted past unit none) asks,
    )

-- ---- a request is written

pub tie_new : (past : List Entry) (unit : List ℕ) (line_now now : ℕ) (came : List LineUnit) (d : Doing) → is_acknowledgement unit ≡ false → is_data unit ≡ true → is_new (asked past) unit ≡ true
    → AsksSo (first_standing unit (clock (past ++ entry.Written Host unit ∷ [])) (prior_of past)) line_now now (acknowledged past) came d
    → TieAsked (past ++ entry.Written Host unit ∷ []) line_now now came d
tie_new past unit line_now now came d none framed new asks =
    let is = asked_new past unit new in
    inr (
      record {
        framed = ap (λ (a : Asked). is_data a.frame) is ∙ framed;
        whole = ap (λ (a : Asked). up_to_first a ++ a.following) is ∙ append-nil (past ++ entry.Written Host unit ∷ []);
      },
      subst (λ (n : ℕ). AsksSo (standing_of (asked (past ++ entry.Written Host unit ∷ []))) line_now now n came d) (sym (data_uncounted past unit none))
          (subst (λ (a : Asked). AsksSo (standing_of a) line_now now (acknowledged past) came d) (sym is) asks),
    )

-- ---- words of a line

-- that do not start the host anew, or in vain
said_counted : (past : List Entry) (words : List ℕ) → is_restart (line_of (entry.Said words)) ≡ false → acknowledged (past ++ entry.Said words ∷ []) ≡ acknowledged past
said_counted past words goes_on =
    ap acknowledged_in (said_on past words goes_on) ∙ count_more (since_restart past) (entry.Said words ∷ []) ∙ none_more (acknowledged past)

vain_counted : (past : List Entry) (words : List ℕ) (refusal : Refusal) → acknowledged (past ++ entry.Said words ∷ (entry.Refused refusal ∷ [])) ≡ acknowledged past
vain_counted past words refusal =
    ap acknowledged_in (said_in_vain past words refusal) ∙ count_more (since_restart past) (entry.Said words ∷ (entry.Refused refusal ∷ [])) ∙ none_more (acknowledged past)

tie_on : (past told : List Entry) (line_now now : ℕ) (came : List LineUnit) (d : Doing) → asked (past ++ told) ≡ with_entries (asked past) told → acknowledged (past ++ told) ≡ acknowledged past
    → AllByRecursion IsAside told → TieAsked past line_now now came d → TieAsked (past ++ told) line_now now came d
tie_on past told line_now now came d on counted all (inl none) = inl (nothing_grown past told d on none)
tie_on past told line_now now came d on counted all (inr (was, asks)) =
    inr (grown past told on was, asks_by past told (standing_of (asked past)) (acknowledged past) line_now now came d on (stands_aside (asked past) told was.framed all) counted asks)

pub tie_said : (past : List Entry) (words : List ℕ) (line_now now : ℕ) (came : List LineUnit) (d : Doing) → is_restart (line_of (entry.Said words)) ≡ false → TieAsked past line_now now came d
    → TieAsked (past ++ entry.Said words ∷ []) line_now now came d
tie_said past words line_now now came d goes_on tie =
    tie_on past (entry.Said words ∷ []) line_now now came d (asked_said past words goes_on) (said_counted past words goes_on) (tt, tt) tie

pub tie_in_vain : (past : List Entry) (words : List ℕ) (refusal : Refusal) (line_now now : ℕ) (came : List LineUnit) (d : Doing) → TieAsked past line_now now came d
    → TieAsked (past ++ entry.Said words ∷ (entry.Refused refusal ∷ [])) line_now now came d
tie_in_vain past words refusal line_now now came d tie =
    tie_on past (entry.Said words ∷ (entry.Refused refusal ∷ [])) line_now now came d (asked_in_vain past words refusal) (vain_counted past words refusal) (tt, (tt, tt)) tie

pub tie_anew : (past : List Entry) (words : List ℕ) (line_now now : ℕ) (came : List LineUnit) (d : Doing) → is_restart (line_of (entry.Said words)) ≡ true → AsksNothing [] d
    → TieAsked (past ++ entry.Said words ∷ []) line_now now came d
tie_anew past words line_now now came d anew none =
    inl (record { unasked = ap (λ (a : Asked). a.frame) (asked_anew past words anew); idle = none.idle; none = none.none; paid = none.paid; undue = none.undue })

-- ---- a unit of the chip does not come as it was written

-- none of these entries tells of the request
record IsLost (told : List Entry) : Type 0 where
  wordless : AllByRecursion IsWordless told
  goes : AllByRecursion GoesOn told
  frameless : AllByRecursion NoFrame told
  uncounted : acknowledged_in told ≡ 0
  no_mark : is_missed told ≡ false
  unanswered : (past : List Entry) → answers_from past told ≡ []
  unjudged : (past : List Entry) → shown_after judging_at past told ≡ []

tie_lost : (past told : List Entry) (line_now now : ℕ) (came : List LineUnit) (d : Doing) → IsLost told → TieAsked past line_now now came d → TieAsked (past ++ told) line_now now came d
tie_lost past told line_now now came d lost tie = by tie
  where
    on : asked (past ++ told) ≡ with_entries (asked past) told
    on = asked_on past told (wordless_fresh told lost.wordless) lost.goes

    by : TieAsked past line_now now came d → TieAsked (past ++ told) line_now now came d
    by (inl none) = inl (nothing_grown past told d on none)
    by (inr (was, asks)) =
        inr (
          grown past told on was,
          asks_by past told (standing_of (asked past)) (acknowledged past) line_now now came d on
              (stands_lost (asked past) told was.framed lost.frameless lost.no_mark (lost.unanswered (up_to_first (asked past) ++ (asked past).following)) (lost.unjudged (up_to_first (asked past) ++ (asked past).following)))
              (acknowledged_more past told 0 lost.wordless lost.uncounted ∙ none_more (acknowledged past)) asks,
        )

-- a unit that was lost answers nothing
never_answers : (answers : Bool) (answer : Answer) → ((if answers && false then answer ∷ [] else []) ++ []) ≡ []
never_answers true answer = refl
never_answers false answer = refl

lost_one : (text : List ℕ) (mark : Entry) → (mark ≡ entry.Dropped Chip) ⊎ (mark ≡ entry.Overrun Chip) → IsLost (entry.Written Chip text ∷ (mark ∷ []))
lost_one text mark (inl is) = subst (λ (e : Entry). IsLost (entry.Written Chip text ∷ (e ∷ []))) (sym is) (record {
  wordless = (tt, (tt, tt));
  goes = (tt, (tt, tt));
  frameless = (tt, (tt, tt));
  uncounted = refl;
  no_mark = refl;
  unanswered = λ past. never_answers (is_answer text) (come_at past text);
  unjudged = λ past. refl;
})
lost_one text mark (inr is) = subst (λ (e : Entry). IsLost (entry.Written Chip text ∷ (e ∷ []))) (sym is) (record {
  wordless = (tt, (tt, tt));
  goes = (tt, (tt, tt));
  frameless = (tt, (tt, tt));
  uncounted = refl;
  no_mark = refl;
  unanswered = λ past. never_answers (is_answer text) (come_at past text);
  unjudged = λ past. refl;
})

-- a frame that was changed, and lost besides
changed_lost : (text unit : List ℕ) → is_answer text ≡ false → IsLost (entry.Written Chip text ∷ (entry.Garbled Chip unit ∷ (entry.Overrun Chip ∷ [])))
changed_lost text unit frame = record {
  wordless = (tt, (tt, (tt, tt)));
  goes = (tt, (tt, (tt, tt)));
  frameless = (tt, (tt, (tt, tt)));
  uncounted = refl;
  no_mark = refl;
  unanswered = λ past. ap (λ (b : Bool). (if b && true then come_at past text ∷ [] else []) ++ []) frame;
  unjudged = λ past. refl;
}

pub tie_missed : (past : List Entry) (text : List ℕ) (marks : List Entry) (line_now now : ℕ) (came : List LineUnit) (d : Doing) → DidNotCome marks → ChangesFrame text marks
    → TieAsked past line_now now came d → TieAsked (past ++ entry.Written Chip text ∷ marks) line_now now came d
tie_missed past text (entry.Dropped Chip ∷ []) line_now now came d did changes tie =
    tie_lost past (entry.Written Chip text ∷ (entry.Dropped Chip ∷ [])) line_now now came d (lost_one text (entry.Dropped Chip) (inl refl)) tie
tie_missed past text (entry.Overrun Chip ∷ []) line_now now came d did changes tie =
    tie_lost past (entry.Written Chip text ∷ (entry.Overrun Chip ∷ [])) line_now now came d (lost_one text (entry.Overrun Chip) (inr refl)) tie
tie_missed past text (entry.Garbled Chip unit ∷ []) line_now now came d did changes tie =
    tie_quiet past (entry.Written Chip text ∷ (entry.Garbled Chip unit ∷ [])) line_now now came d (changes.0, (tt, tt)) tie
tie_missed past text (entry.Garbled Chip unit ∷ entry.Overrun Chip ∷ []) line_now now came d did changes tie =
    tie_lost past (entry.Written Chip text ∷ (entry.Garbled Chip unit ∷ (entry.Overrun Chip ∷ []))) line_now now came d (changed_lost text unit changes.0) tie
tie_missed past text marks line_now now came d did changes tie = absurd did
