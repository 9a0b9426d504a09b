-- How the clock that a transcript shows, and the frames that were sent before a time, grow with it.
use Rattle.std.proofs.Common.{◌≡◌, ◌≤◌, ◌<◌, ℕ, ◌+◌, ◌-◌, Bool, true, false, if◌then◌else◌, List, [], ◌∷◌, ◌++◌, length, take, max, refl, sym, ap, ap₂, ◌∙◌, append-nil, arith, nat_lt}
use Rattle.std.proofs.lemmas.Bool.Decides.{nat_tests}
use Rattle.std.proofs.lemmas.List.{length-append, take_at}
use Rattle.zw_text.specs.declared.line.Line.{Line}
use Rattle.zw_text.specs.declared.entry.Entry.{Entry}
use Rattle.zw_text.specs.declared.entry.Entry.TheVariants as entry
use Rattle.zw_text.specs.Transcript.{frame_at, frames, line_of, lines_run, tick_at, ticks, last_number, time_of}
use Rattle.zw_text.proofs.Views.{shown-append}
use Rattle.law_wire.specs.law_transcript.Lists.{shown_after}
use Rattle.law_wire.specs.law_transcript.Restarts.{ticks_asked}
use Rattle.law_wire.specs.Asked.{clock_of, lines_before}
use Rattle.law_wire.specs.Arriving.{sent_at, sent_before}
use Rattle.proof_walk.proofs.Untimed.{AreUntimed, same_lines, same_time}
use Rattle.proof_walk.proofs.Clock.{last_of_more}
use Rattle.proof_walk.proofs.Shown.{shown_both}

-- ---- the clock

pub same_clock : (past told : List Entry) → AreUntimed told → clock_of (past ++ told) ≡ clock_of past
same_clock past told untimed =
    ap₂ (λ (a b : ℕ). max a b) (same_time past told untimed) (ap (λ (l : List Line). ticks_asked (take (length l - 1) l)) (same_lines past told untimed))

-- after the number of a tick that is not below it, it is that number
no_more : (time asked n : ℕ) → max time asked ≤ n → max n asked ≡ n
no_more time asked n most = omega (arith, most)

pub number_clock : (past : List Entry) (n : ℕ) → clock_of past ≤ n → clock_of (past ++ entry.Time n ∷ []) ≡ n
number_clock past n most =
    ap₂ (λ (a b : ℕ). max a b) (ap (last_number 0) (shown-append tick_at past (entry.Time n ∷ [])) ∙ last_of_more 0 (ticks past) n)
    (ap (λ (l : List Line). ticks_asked (take (length l - 1) l)) (shown-append line_of past (entry.Time n ∷ []) ∙ append-nil (lines_run past)))
    ∙ no_more (time_of past) (ticks_asked (lines_before past)) n most

-- after the words of a line it is as many ticks as the lines before asked for, where none later was shown
pub but_last : (lines : List Line) (line : Line) → take (length (lines ++ line ∷ []) - 1) (lines ++ line ∷ []) ≡ lines
but_last lines line = take_at lines (line ∷ []) (length (lines ++ line ∷ []) - 1) (one_less (length-append lines (line ∷ [])))
  where
    one_less : length (lines ++ line ∷ []) ≡ length lines + 1 → length lines ≡ length (lines ++ line ∷ []) - 1
    one_less is = omega (arith, is)

no_later : (time asked clock : ℕ) → time ≤ clock → asked ≡ clock → max time asked ≡ clock
no_later time asked clock below is = omega (arith, below, is)

pub said_clock : (past : List Entry) (words : List ℕ) (line : Line) (clock : ℕ) → line_of (entry.Said words) ≡ line ∷ [] → time_of past ≤ clock → ticks_asked (lines_run past) ≡ clock
    → clock_of (past ++ entry.Said words ∷ []) ≡ clock
said_clock past words line clock read below asked =
    let run : lines_run (past ++ entry.Said words ∷ []) ≡ lines_run past ++ line ∷ [] =
    shown-append line_of past (entry.Said words ∷ []) ∙ ap (λ (l : List Line). lines_run past ++ (l ++ [])) read in
    ap₂ (λ (a b : ℕ). max a b) (ap (last_number 0) (shown-append tick_at past (entry.Said words ∷ []) ∙ append-nil (ticks past)))
    (ap (λ (l : List Line). ticks_asked (take (length l - 1) l)) run ∙ ap ticks_asked (but_last (lines_run past) line))
    ∙ no_later (time_of past) (ticks_asked (lines_run past)) clock below asked

-- ---- frames that were sent before a time

itself : (n : ℕ) → nat_lt n n ≡ false
itself n = grind (arith, nat_tests)

above : (n time : ℕ) → n < time → nat_lt n time ≡ true
above n time below = grind (arith, below, nat_tests)

-- an entry at the time itself counts for nothing, and before a later one each frame counts
module _ (clock : ℕ) where
  none_at : (past : List Entry) (e : Entry) → clock_of past ≡ clock → sent_at clock past e ≡ []
  none_at past (entry.Air frame sender receiver repeaters payload) is =
      ap (λ (n : ℕ). if nat_lt n clock then frame ∷ [] else []) is ∙ ap (λ (b : Bool). if b then frame ∷ [] else []) (itself clock)
  none_at past e is = refl

  one_at : (time : ℕ) → clock < time → (past : List Entry) (e : Entry) → clock_of past ≡ clock → length (sent_at time past e) ≡ length (frame_at e)
  one_at time later past (entry.Air frame sender receiver repeaters payload) is =
      ap (λ (n : ℕ). length (if nat_lt n time then frame ∷ [] else [])) is ∙ ap (λ (b : Bool). length (if b then frame ∷ [] else [])) (above clock time later)
  one_at time later past e is = refl

  none_earlier : (past told : List Entry) → AreUntimed told → clock_of past ≡ clock → shown_after (sent_at clock) past told ≡ []
  none_earlier past [] untimed is = refl
  none_earlier past (e ∷ told) untimed is =
      ap₂ (λ (a b : List ℕ). a ++ b) (none_at past e is) (none_earlier (past ++ e ∷ []) told untimed.1 (same_clock past (e ∷ []) (untimed.0, tt) ∙ is))

  all_later : (time : ℕ) → clock < time → (past told : List Entry) → AreUntimed told → clock_of past ≡ clock → length (shown_after (sent_at time) past told) ≡ length (frames told)
  all_later time later past [] untimed is = refl
  all_later time later past (e ∷ told) untimed is =
      length-append (sent_at time past e) (shown_after (sent_at time) (past ++ e ∷ []) told)
      ∙ (ap₂ (λ (a b : ℕ). a + b) (one_at time later past e is) (all_later time later (past ++ e ∷ []) told untimed.1 (same_clock past (e ∷ []) (untimed.0, tt) ∙ is))
      ∙ sym (length-append (frame_at e) (frames told)))

  pub still_earlier : (past told : List Entry) → AreUntimed told → clock_of past ≡ clock → sent_before clock (past ++ told) ≡ sent_before clock past
  still_earlier past told untimed is =
      ap length (shown_both (sent_at clock) [] past told
      ∙ (ap (λ (l : List ℕ). shown_after (sent_at clock) [] past ++ l) (none_earlier past told untimed is) ∙ append-nil (shown_after (sent_at clock) [] past)))

  pub still_all : (time : ℕ) → clock < time → (past told : List Entry) → AreUntimed told → clock_of past ≡ clock → sent_before time past ≡ length (frames past)
      → sent_before time (past ++ told) ≡ length (frames (past ++ told))
  still_all time later past told untimed is all =
      ap length (shown_both (sent_at time) [] past told)
      ∙ (length-append (shown_after (sent_at time) [] past) (shown_after (sent_at time) past told)
      ∙ (ap₂ (λ (a b : ℕ). a + b) all (all_later time later past told untimed is)
      ∙ (sym (length-append (frames past) (frames told)) ∙ ap length (sym (shown-append frame_at past told)))))

-- an entry that is no frame
no_frame_at : (time : ℕ) (past : List Entry) (e : Entry) → frame_at e ≡ [] → sent_at time past e ≡ []
no_frame_at time past (entry.Air frame sender receiver repeaters payload) none = absurd cc
no_frame_at time past e none = refl

pub same_sent : (time : ℕ) (past : List Entry) (e : Entry) → frame_at e ≡ [] → sent_before time (past ++ e ∷ []) ≡ sent_before time past
same_sent time past e none =
    ap length (shown_both (sent_at time) [] past (e ∷ [])
    ∙ (ap (λ (l : List ℕ). shown_after (sent_at time) [] past ++ (l ++ [])) (no_frame_at time past e none) ∙ append-nil (shown_after (sent_at time) [] past)))
