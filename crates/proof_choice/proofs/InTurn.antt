-- What goes by the queue and is chosen in turn where nothing waits is sent in turn.
use Rattle.std.proofs.Common.{◌≡◌, ℕ, ◌&&◌, ◌||◌, not, Bool, true, false, if◌then◌else◌, List, [], ◌∷◌, ◌++◌, refl, ap, ◌∙◌}
use Rattle.std.specs.List.{list_any}
use Rattle.zw_words.specs.declared.side.Side.TheVariants.{Host, Chip}
use Rattle.zw_text.specs.declared.entry.Entry.{Entry}
use Rattle.zw_text.specs.declared.entry.Entry.TheVariants as entry
use Rattle.zw_text.specs.Transcript.{joined}
use Rattle.host_heard.specs.declared.told.Told.{Told}
use Rattle.law_transcript.specs.Commands.{waiting}
use Rattle.law_transcript.specs.Lists.{EachAfter}
use Rattle.law_transcript.specs.Units.{Carried, sending_in}
use Rattle.law_time.specs.Attempts.{Serving, serving}
use Rattle.law_time.specs.Choice.{has_turn, is_chosen, is_in_tick, is_in_turn, is_next, is_to_begin, may_send, unbegun_when}
use Rattle.law_time.specs.Ends.{is_abort_frame, owes_abort}
use Rattle.law_time.specs.Heeds.{Heeds}
use Rattle.law_time.specs.Moments.{Allows, clock}
use Rattle.law_time.specs.Queue.{Requests, is_first, queue_before, requests, waits_before}
use Rattle.law_time.specs.Requests.{Asked, are_none, asked, is_new}
use Rattle.proof_giving.specs.proof_queue.proof_attempts.proof_requests.law_host.Heard.{heeds_alone}
use Rattle.proof_giving.specs.proof_queue.Turn.{is_first_waiting, may_ask, may_go}
use Rattle.proof_giving.proofs.Books.{last_is}
use Rattle.proof_choice.specs.Choosing.{may_choose}

-- one that is new: where none waits what is chosen is next, and where one does the first one is
unit_so : (heeds : Heeds) (past : List Entry) (s : Serving) (unit : List ℕ) (wants : List (List ℕ)) (owes is_abort : Bool) → (if owes then is_abort else not is_abort && is_first_waiting unit wants) ≡ true
    → (is_abort || not (are_none wants) || list_any (is_chosen heeds past s) (sending_in unit)) ≡ true
    → (if owes then is_abort else not is_abort && is_next heeds past s unit wants) ≡ true
unit_so heeds past s unit wants true is_abort may choice = may
unit_so heeds past s unit wants false true may choice = may
unit_so heeds past s unit [] false false may choice = choice
unit_so heeds past s unit (want ∷ wants) false false may choice = may

new_so : (new may choice goal : Bool) → (not new || may) ≡ true → (not new || choice) ≡ true → (may ≡ true → choice ≡ true → goal ≡ true) → (not new || goal) ≡ true
new_so true may choice goal is also so = so is also
new_so false may choice goal is also so = refl

module _ (requests_are : (heeds : Heeds) (nodes : List ℕ) (past : List Entry) → (serving heeds nodes past).requests ≡ requests heeds past) (taken : List Entry → Carried → List Told) where
  abbrev heeds : Heeds
  heeds = heeds_alone taken

  abbrev now : List Entry → Serving
  now past = serving heeds (joined past) past

  owes_is : (past : List Entry) → owes_abort (now past).requests.last (clock past) ≡ owes_abort (asked past) (clock past)
  owes_is past = ap (λ (a : Asked). owes_abort a (clock past)) (ap (λ (r : Requests). r.last) (requests_are heeds (joined past) past) ∙ last_is taken past)

  wants_are : (past : List Entry) (e : Entry) → (waits_before heeds past (now past).requests e).wants ≡ (queue_before heeds past e).wants
  wants_are past e = ap (λ (r : Requests). (waits_before heeds past r e).wants) (requests_are heeds (joined past) past)

  unit_sends : (past : List Entry) (unit : List ℕ) → may_go heeds past (entry.Written Host unit) ≡ true → may_choose heeds past (entry.Written Host unit) ≡ true → may_send heeds past (entry.Written Host unit) ≡ true
  unit_sends past unit goes chooses =
      let s : Serving = now past in
      let wants : List (List ℕ) = (queue_before heeds past (entry.Written Host unit)).wants in
      let owes : Bool = owes_abort (asked past) (clock past) in
      let chosen : Bool = list_any (is_chosen heeds past s) (sending_in unit) in
      new_so (is_new (asked past) unit) (may_ask owes unit wants) (is_abort_frame unit || not (are_none wants) || chosen) (is_in_turn heeds past s unit) goes (parted (not (is_new (asked past) unit)) (is_abort_frame unit) (not (are_none wants)) chosen chooses)
      (λ may choice.
      ap (λ (b : Bool). if b then is_abort_frame unit else not (is_abort_frame unit) && is_next heeds past s unit (waits_before heeds past s.requests (entry.Written Host unit)).wants) (owes_is past)
      ∙ ap (λ (l : List (List ℕ)). if owes then is_abort_frame unit else not (is_abort_frame unit) && is_next heeds past s unit l) (wants_are past (entry.Written Host unit))
      ∙ unit_so heeds past s unit wants owes (is_abort_frame unit) may choice)
    where
      parted : (a b c d : Bool) → (a || b || c || d) ≡ true → (a || (b || c || d)) ≡ true
      parted true b c d is = refl
      parted false b c d is = is

  begin_sends : (past : List Entry) (node session command : ℕ) → may_go heeds past (entry.Begin node session command) ≡ true → may_choose heeds past (entry.Begin node session command) ≡ true
      → may_send heeds past (entry.Begin node session command) ≡ true
  begin_sends past node session command goes chooses =
      let s : Serving = now past in
      let e : Entry = entry.Begin node session command in
      let first : Bool = not (owes_abort s.requests.last (clock past)) && are_none (waits_before heeds past s.requests e).wants in
      let begun : first ≡ true
      = ap (λ (b : Bool). not b && are_none (waits_before heeds past s.requests e).wants) (owes_is past)
      ∙ ap (λ (l : List (List ℕ)). not (owes_abort (asked past) (clock past)) && are_none l) (wants_are past e) ∙ goes in
      fourth first (is_to_begin node past) (is_first command (waiting node past)) (not (is_in_tick (unbegun_when node) past (clock past))) (has_turn heeds past s node) begun chooses
    where
      fourth : (a b c d e : Bool) → a ≡ true → (b && c && d && e) ≡ true → (a && b && c && d && e) ≡ true
      fourth true b c d e is also = also
      fourth false b c d e is also = absurd (let bad : false ≡ true = is in cc)

  one_sends : (past : List Entry) (e : Entry) → may_go heeds past e ≡ true → may_choose heeds past e ≡ true → may_send heeds past e ≡ true
  one_sends past (entry.Written Host unit) goes chooses = unit_sends past unit goes chooses
  one_sends past (entry.Written Chip unit) goes chooses = refl
  one_sends past (entry.Begin node session command) goes chooses = begin_sends past node session command goes chooses
  one_sends past e goes chooses = refl

  pub all_send : (past told : List Entry) → EachAfter (Allows (may_go heeds)) past told → EachAfter (Allows (may_choose heeds)) past told → EachAfter (Allows (may_send heeds)) past told
  all_send past [] goes chooses = tt
  all_send past (e ∷ told) goes chooses = (one_sends past e goes.0 chooses.0, all_send (past ++ e ∷ []) told goes.1 chooses.1)
