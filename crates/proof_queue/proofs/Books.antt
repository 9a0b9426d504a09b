-- How what waits by a transcript grows by entries, where no node has woken: the host's looks then add nothing.
use Rattle.std.proofs.Common.{◌≡◌, ℕ, ◌+◌, ◌-◌, ◌&&◌, ◌==◌, not, Bool, false, if◌then◌else◌, List, [], ◌∷◌, ◌++◌, length, refl, sym, ap, ◌∙◌, length-append, arith, take_at}
use Rattle.std.specs.Prelude.{nat_lt}
use Rattle.std.specs.List.{flat_map}
use Rattle.zw_words.specs.declared.side.Side.TheVariants.{Host, Chip}
use Rattle.zw_text.specs.declared.line.Line.{Line}
use Rattle.zw_text.specs.declared.entry.Entry.{Entry}
use Rattle.zw_text.specs.declared.entry.Entry.TheVariants as entry
use Rattle.zw_text.specs.Transcript.{line_after, line_last, line_of}
use Rattle.zw_text.proofs.Views.{folded-append}
use Rattle.host_heard.specs.declared.told.Told.{Told}
use Rattle.law_transcript.specs.Answers.{before_last}
use Rattle.law_transcript.specs.Restarts.{begins_refused, is_restart}
use Rattle.law_transcript.specs.Units.{Carried}
use Rattle.law_time.specs.Heeds.{Heeds}
use Rattle.law_time.specs.Requests.{asked, asked_from, asked_nothing, with_entry}
use Rattle.law_time.specs.Wants.{wants_of}
use Rattle.law_time.specs.Queue.{Queue, Requests, lacks_places, looked, no_queue, no_requests, places, requests, requests_after, requests_from, waits_before_line}
use Rattle.proof_attempts.specs.proof_requests.law_host.Heard.{heeds_alone}
use Rattle.proof_attempts.proofs.Ahead.{ahead_from, ahead_joined}

-- ---- lines that stand last

pub last_line : (past : List Entry) (e : Entry) → line_last (past ++ e ∷ []) ≡ line_of e
last_line past e = folded-append line_after [] past (e ∷ [])

pub before_line : (past : List Entry) (e : Entry) → before_last (past ++ e ∷ []) ≡ past
before_line past e = take_at past (e ∷ []) (length (past ++ e ∷ []) - 1) (omega (arith, length-append past (e ∷ [])))

-- one that asks for no places lacks none
pub lacks_none : (heeds : Heeds) (past : List Entry) → places heeds past ≡ 0 → lacks_places heeds past ≡ false
lacks_none heeds past none = ap (λ (n : ℕ). not (n == 0) && nat_lt 64 (waits_before_line heeds past + n)) none

pub no_line : (heeds : Heeds) (past : List Entry) (e : Entry) → line_of e ≡ [] → lacks_places heeds (past ++ e ∷ []) ≡ false
no_line heeds past e none =
    lacks_none heeds (past ++ e ∷ []) (ap (λ (ls : List Line). length (flat_map (wants_of heeds.listing (before_last (past ++ e ∷ []))) ls)) (last_line past e ∙ none))

module _ (taken : List Entry → Carried → List Told) where
  abbrev pub heeds : Heeds
  heeds = heeds_alone taken

  -- ---- one list behind another

  abbrev said_after : List Entry → Requests → List ℕ → Bool → Requests
  said_after past r words refused =
      let seen : Queue = looked heeds past r.last r.queue (entry.Said words) in
      record {
        last = if is_restart (line_of (entry.Said words)) && not refused then asked_nothing else with_entry r.last (entry.Said words);
        queue = if refused then seen
            else (if is_restart (line_of (entry.Said words)) && not refused then no_queue
            else record seen { wants = seen.wants ++ flat_map (wants_of heeds.listing past) (line_of (entry.Said words)) });
      }

  pub same_step : (past : List Entry) (r : Requests) (e : Entry) (rest other : List Entry) → begins_refused rest ≡ begins_refused other → requests_after heeds past r e rest ≡ requests_after heeds past r e other
  same_step past r (entry.Said words) rest other is = ap (said_after past r words) is
  same_step past r (entry.Written Host unit) rest other is = refl
  same_step past r (entry.Written Chip unit) rest other is = refl
  same_step past r e rest other is = refl

  as_ahead : (start : List Entry) (r : Requests) (told : List Entry) → requests_from heeds start r told ≡ ahead_from (requests_after heeds) same_step start r told
  as_ahead start r [] = refl
  as_ahead start r (e ∷ told) = as_ahead (start ++ e ∷ []) (requests_after heeds start r e told) told

  pub book_joined : (past told : List Entry) → begins_refused told ≡ false → requests heeds (past ++ told) ≡ requests_from heeds past (requests heeds past) told
  book_joined past told fresh =
      as_ahead [] no_requests (past ++ told) ∙ ahead_joined (requests_after heeds) same_step [] no_requests past told fresh
      ∙ ap (λ (r : Requests). ahead_from (requests_after heeds) same_step past r told) (sym (as_ahead [] no_requests past)) ∙ sym (as_ahead past (requests heeds past) told)

  last_from : (start : List Entry) (r : Requests) (told : List Entry) → (requests_from heeds start r told).last ≡ asked_from start r.last told
  last_from start r [] = refl
  last_from start r (e ∷ told) = last_from (start ++ e ∷ []) (requests_after heeds start r e told) told

  pub last_is : (past : List Entry) → (requests heeds past).last ≡ asked past
  last_is past = last_from [] no_requests past
