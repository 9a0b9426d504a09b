-- What the chip has for its host by the transcript, and the SendData that have ended, through entries: those that tell nothing of it, the number of a tick, and the words of a line.
use Rattle.std.proofs.Common.{◌≡◌, ℕ, ◌==◌, ◌&&◌, not, Bool, if◌then◌else◌, List, [], ◌∷◌, ◌++◌, map, filter, refl, sym, ap, ap₂, ◌∙◌, subst, append-nil, append_assoc}
use Rattle.std.proofs.lemmas.Grind.{flat_map-append}
use Rattle.std.proofs.lemmas.List.{map-append}
use Rattle.std.specs.Prelude.{Option, slice_get}
use Rattle.std.specs.List.{AllByRecursion, flat_map}
use Rattle.zw_base.proofs.Each.{all-weaker}
use Rattle.chip_functions.specs.declared.request.Request.{Request}
use Rattle.chip_functions.specs.declared.request.Request.TheVariants.{RequestNodeInfo}
use Rattle.chip_functions.specs.declared.notice.TransmitStatus.TheVariants.{NoRoute}
use Rattle.chip_sim.specs.declared.out.Sending.{Sending as SendingParts}
use Rattle.zw_words.specs.declared.side.Side.TheVariants.{Host as by_host, Chip as by_chip}
use Rattle.zw_text.specs.declared.entry.Entry.{Entry}
use Rattle.zw_text.specs.declared.entry.Entry.TheVariants as entry
use Rattle.law_transcript.specs.Lists.{listed, shown_after}
use Rattle.law_wire.specs.Asked.{Asked, Course, Sending, acks, asked, clock_of, last_sending, requests_of}
use Rattle.law_wire.specs.Results.{Called, aborted_by, called, called_at, came_due, ended_at, ended_by, ended_without, is_outward, settled_clock}
use Rattle.law_wire.specs.Given.{Given, before_results, callback_of, given, given_at, information_of, results_of}
use Rattle.outside_model.specs.Devices.{State}
use Rattle.outside_model.specs.State.{OuterState}
use Rattle.proof_chip.proofs.Airing.{same_last}
use Rattle.proof_chip.proofs.Answered.{GivesNone, still_settled}
use Rattle.proof_chip.proofs.Passing.{IsOther, others_no_ack}
use Rattle.proof_chip.proofs.Picking.{shown_both}
use Rattle.proof_chip.proofs.Replying.{none_filtered}
use Rattle.proof_chip.proofs.Settling.{AreIdle, IsIdle, asked_still, given_still, idle_others, idle_settled, outward_still}
use Rattle.proof_answers.specs.Owing.{Ends, Owed, asked_in_tick, come, comes_within, due_before, informs, is_of_tick, owed_by, owed_in, owed_now, owed_of}
use Rattle.proof_answers.specs.Telling.{IsUnder, called_by, told_by}

-- ---- what comes of what was asked

info_comes : (at : List Entry) (one : Asked) (request : Request) → information_of at one request ≡ map (come at) (informs (clock_of one.past) request)
info_comes at one (RequestNodeInfo node) = refl
info_comes at one request = refl

calls_come : (at : List Entry) (all : List Called) → map callback_of all ≡ map (come at) (map (λ (one : Called). Ends one) all)
calls_come at [] = refl
calls_come at (one ∷ all) = ap (λ (l : List Given). callback_of one ∷ l) (calls_come at all)

module _ (course : Course) where
  results_come : (past : List Entry) (e : Entry) (all : List Asked) → flat_map (results_of course past e) all ≡ map (come (before_results past e)) (owed_in course past all)
  results_come past e [] = refl
  results_come past e (one ∷ all) =
      let at : List Entry = before_results past e in
      ap₂ (λ (a b : List Given). a ++ b)
      (ap₂ (λ (a b : List Given). a ++ b) (info_comes at one one.request) (calls_come at (ended_without course past one)) ∙ sym (map-append (come at) (informs (clock_of one.past) one.request) (map (λ (called : Called). Ends called) (ended_without course past one))))
      (results_come past e all)
      ∙ sym (map-append (come at) (owed_of course past one) (owed_in course past all))

  pub owed_both : (past : List Entry) (one more : List Asked) → owed_in course past (one ++ more) ≡ owed_in course past one ++ owed_in course past more
  owed_both past one more = flat_map-append (owed_of course past) one more

  -- ---- where the same SendData is under way, with the same frames

  module _ (past other : List Entry) (last : last_sending course other ≡ last_sending course past) (outward : (number : ℕ) → is_outward other number ≡ is_outward past number) where
    abbrev without : List Entry → Asked → Sending → Bool
    without at one sending = (sending.place == acks one.past) && not (is_outward at sending.frame)

    without_same : (one : Asked) (sendings : List Sending) → filter (without other one) sendings ≡ filter (without past one) sendings
    without_same one [] = refl
    without_same one (sending ∷ sendings) =
        ap₂ (λ (b : Bool) (l : List Sending). if (sending.place == acks one.past) && not b then sending ∷ l else l) (outward sending.frame) (without_same one sendings)

    ended_same : (one : Asked) → ended_without course other one ≡ ended_without course past one
    ended_same one = ap (λ (l : List Sending). ended_by NoRoute (filter (without other one) l)) last ∙ ap (λ (l : List Sending). ended_by NoRoute l) (without_same one (last_sending course past))

    ends_same : (all : List Asked) → flat_map (ended_without course other) all ≡ flat_map (ended_without course past) all
    ends_same [] = refl
    ends_same (one ∷ all) = ap₂ (λ (a b : List Called). a ++ b) (ended_same one) (ends_same all)

    pub owed_same : (all : List Asked) → owed_in course other all ≡ owed_in course past all
    owed_same [] = refl
    owed_same (one ∷ all) =
        ap₂ (λ (l : List Called) (more : List Owed). (informs (clock_of one.past) one.request ++ map (λ (called : Called). Ends called) l) ++ more) (ended_same one) (owed_same all)

  module _ (past told : List Entry) (others : AllByRecursion IsOther told) where
    last_still : last_sending course (past ++ told) ≡ last_sending course past
    last_still = same_last course past told (others_no_ack told others)

    ends_still : (all : List Asked) → flat_map (ended_without course (past ++ told)) all ≡ flat_map (ended_without course past) all
    ends_still all = ends_same past (past ++ told) last_still (outward_still past told others) all

    pub owed_still : (all : List Asked) → owed_in course (past ++ told) all ≡ owed_in course past all
    owed_still all = owed_same past (past ++ told) last_still (outward_still past told others) all

    pub tick_still : (clock : ℕ) → asked_in_tick clock course (past ++ told) ≡ asked_in_tick clock course past
    tick_still clock = ap (λ (l : List Asked). filter (is_of_tick clock) l) (asked_still course past told (others_no_ack told others))

    pub now_owed_still : (ticks : ℕ) (o : OuterState) → owed_now course (past ++ told) ticks o ≡ owed_now course past ticks o
    now_owed_still ticks o = ap (λ (l : List Sending). owed_by l o.chip.state.sending o.calls ticks o.due) last_still

    pub under_still : (under : Option SendingParts) → IsUnder under (last_sending course past) → IsUnder under (last_sending course (past ++ told))
    under_still under is = subst (λ (l : List Sending). IsUnder under l) (sym last_still) is

  -- ---- entries at which nothing is given

  ended_none : (past : List Entry) (e : Entry) → GivesNone e → ended_at course past e ≡ []
  ended_none past (entry.Written by_chip unit) none =
      ap (λ (b : Bool). flat_map (aborted_by course past) (if b then flat_map requests_of (listed (slice_get course.passed (acks past))) else [])) none
  ended_none past (entry.Written by_host unit) none = refl
  ended_none past (entry.Heard frame) none = absurd none
  ended_none past (entry.Lost frame) none = absurd none
  ended_none past (entry.Unheard frame) none = absurd none
  ended_none past e none = refl

  none_due : (past : List Entry) (e : Entry) → GivesNone e → came_due course past e ≡ []
  none_due past e none = none_filtered (settled_clock past) (settled_clock (past ++ e ∷ [])) (still_settled past e none) (asked course past)

  pub none_called : (told past : List Entry) → AllByRecursion GivesNone told → shown_after (called_at course) past told ≡ []
  none_called [] past none = refl
  none_called (e ∷ told) past none =
      ap₂ (λ (a b : List Called). a ++ b)
      (ap₂ (λ (a : List Called) (l : List Asked). a ++ flat_map (ended_without course past) l) (ended_none past e none.0) (none_due past e none.0))
      (none_called told (past ++ e ∷ []) none.1)

  called_still : (past told : List Entry) → AreIdle told → called course (past ++ told) ≡ called course past
  called_still past told idle =
      shown_both (called_at course) [] past told ∙ ap (λ (l : List Called). called course past ++ l) (none_called told past (all-weaker IsIdle GivesNone (λ e is. is.0) told idle)) ∙ append-nil (called course past)

  due_still : (clock : ℕ) (past told : List Entry) → AreIdle told → due_before clock course (past ++ told) ≡ due_before clock course past
  due_still clock past told idle =
      ap₂ (λ (n : ℕ) (l : List Asked). filter (comes_within n clock) l) (idle_settled past told idle) (asked_still course past told (others_no_ack told (idle_others told idle)))

  pub called_by_still : (clock : ℕ) (past told : List Entry) → AreIdle told → called_by clock course (past ++ told) ≡ called_by clock course past
  called_by_still clock past told idle =
      ap₂ (λ (a : List Called) (l : List Asked). a ++ flat_map (ended_without course (past ++ told)) l) (called_still past told idle) (due_still clock past told idle)
      ∙ ap (λ (l : List Called). called course past ++ l) (ends_still past told (idle_others told idle) (due_before clock course past))

module _ (devices : List State) (course : Course) where
  -- what was told stays, and what is to come is told after these entries
  pub told_still : (clock : ℕ) (past told : List Entry) → AreIdle told
      → told_by devices clock course (past ++ told) ≡ given devices course past ++ map (come (past ++ told)) (owed_in course past (due_before clock course past))
  told_still clock past told idle =
      ap₂ (λ (a : List Given) (l : List Asked). a ++ map (come (past ++ told)) (owed_in course (past ++ told) l)) (given_still devices course past told idle) (due_still course clock past told idle)
      ∙ ap (λ (l : List Owed). given devices course past ++ map (come (past ++ told)) l) (owed_still course past told (idle_others told idle) (due_before clock course past))

  -- ---- an entry with which results are told

  pub given_grows : (past : List Entry) (e : Entry) → given devices course (past ++ e ∷ []) ≡ given devices course past ++ given_at devices course past e
  given_grows past e =
      shown_both (given_at devices course) [] past (e ∷ []) ∙ ap (λ (l : List Given). given devices course past ++ l) (append-nil (given_at devices course past e))

  called_grows : (past : List Entry) (e : Entry) → called course (past ++ e ∷ []) ≡ called course past ++ called_at course past e
  called_grows past e =
      shown_both (called_at course) [] past (e ∷ []) ∙ ap (λ (l : List Called). called course past ++ l) (append-nil (called_at course past e))

  -- those that come before a clock are those that are told there, and those that are not yet
  abbrev pub Parts : ℕ → List Entry → Entry → Type 0
  Parts clock past e =
      due_before clock course past ≡ came_due course past e ++ filter (comes_within (settled_clock (past ++ e ∷ [])) clock) (asked course past)

  pub parts_all : (clock : ℕ) (past : List Entry) (e : Entry) → settled_clock (past ++ e ∷ []) ≡ clock → Parts clock past e
  parts_all clock past e is =
      ap (λ (n : ℕ). due_before n course past) (sym is)
      ∙ (sym (append-nil (came_due course past e)) ∙ ap (λ (l : List Asked). came_due course past e ++ l) (sym (none_filtered (settled_clock (past ++ e ∷ [])) clock (sym is) (asked course past))))

  module _ (clock : ℕ) (past : List Entry) (e : Entry) (other : IsOther e) (parts : Parts clock past e) where
    abbrev later : List Entry
    later = past ++ e ∷ []

    abbrev left : List Asked
    left = filter (comes_within (settled_clock later) clock) (asked course past)

    left_is : due_before clock course later ≡ left
    left_is = ap (λ (l : List Asked). filter (comes_within (settled_clock later) clock) l) (asked_still course past (e ∷ []) (others_no_ack (e ∷ []) (other, tt)))

    -- so what is told by a clock grows by what the entry itself brings
    pub told_grows : (own : List Given) → given_at devices course past e ≡ own ++ flat_map (results_of course past e) (came_due course past e) → before_results past e ≡ later
        → told_by devices clock course later ≡ (given devices course past ++ own) ++ map (come later) (owed_in course past (due_before clock course past))
    told_grows own is at =
        ap₂ (λ (a : List Given) (l : List Asked). a ++ map (come later) (owed_in course later l)) (given_grows past e) left_is
        ∙ (ap₂ (λ (a : List Given) (b : List Owed). (given devices course past ++ a) ++ map (come later) b) brings (owed_still course past (e ∷ []) (other, tt) left)
        ∙ (ap (λ (l : List Given). l ++ map (come later) (owed_in course past left)) (sym (append_assoc (given devices course past) own (map (come later) (owed_in course past (came_due course past e)))))
        ∙ (append_assoc (given devices course past ++ own) (map (come later) (owed_in course past (came_due course past e))) (map (come later) (owed_in course past left))
        ∙ ap (λ (l : List Given). (given devices course past ++ own) ++ l) joined)))
      where
        brings : given_at devices course past e ≡ own ++ map (come later) (owed_in course past (came_due course past e))
        brings =
            is ∙ ap (λ (l : List Given). own ++ l) (results_come course past e (came_due course past e) ∙ ap (λ (l : List Entry). map (come l) (owed_in course past (came_due course past e))) at)

        joined : map (come later) (owed_in course past (came_due course past e)) ++ map (come later) (owed_in course past left) ≡ map (come later) (owed_in course past (due_before clock course past))
        joined =
            sym (map-append (come later) (owed_in course past (came_due course past e)) (owed_in course past left))
            ∙ ap (λ (l : List Owed). map (come later) l) (sym (owed_both course past (came_due course past e) left) ∙ ap (λ (l : List Asked). owed_in course past l) (sym parts))

    -- and the SendData that have ended by what ends there
    pub called_grows_by : called_by clock course later ≡ (called course past ++ ended_at course past e) ++ flat_map (ended_without course past) (due_before clock course past)
    called_grows_by =
        let due : List Called = flat_map (ended_without course past) (came_due course past e) in
        let rest : List Called = flat_map (ended_without course past) left in
        ap₂ (λ (a : List Called) (l : List Asked). a ++ flat_map (ended_without course later) l) (called_grows past e) left_is
        ∙ (ap (λ (l : List Called). (called course past ++ (ended_at course past e ++ due)) ++ l) (ends_still course past (e ∷ []) (other, tt) left)
        ∙ (ap (λ (l : List Called). l ++ rest) (sym (append_assoc (called course past) (ended_at course past e) due))
        ∙ (append_assoc (called course past ++ ended_at course past e) due rest
        ∙ ap (λ (l : List Called). (called course past ++ ended_at course past e) ++ l)
        (sym (flat_map-append (ended_without course past) (came_due course past e) left) ∙ ap (λ (l : List Asked). flat_map (ended_without course past) l) (sym parts)))))

  -- ---- the words of a line

  module _ (clock : ℕ) (past : List Entry) (words : List ℕ) (settled : settled_clock (past ++ entry.Said words ∷ []) ≡ clock) where
    abbrev said : Entry
    said = entry.Said words

    none_left : due_before clock course (past ++ said ∷ []) ≡ []
    none_left = none_filtered (settled_clock (past ++ said ∷ [])) clock (sym settled) (asked course (past ++ said ∷ []))

    all_due : came_due course past said ≡ due_before clock course past
    all_due = ap (λ (n : ℕ). due_before n course past) settled

    -- all results so far are told with them
    pub told_said : told_by devices clock course (past ++ said ∷ []) ≡ told_by devices clock course past
    told_said =
        ap₂ (λ (a : List Given) (l : List Asked). a ++ map (come (past ++ said ∷ [])) (owed_in course (past ++ said ∷ []) l)) (given_grows past said) none_left
        ∙ (append-nil (given devices course past ++ given_at devices course past said)
        ∙ ap (λ (l : List Given). given devices course past ++ l)
        (results_come course past said (came_due course past said) ∙ ap (λ (l : List Asked). map (come past) (owed_in course past l)) all_due))

    pub called_said : called_by clock course (past ++ said ∷ []) ≡ called_by clock course past
    called_said =
        ap₂ (λ (a : List Called) (l : List Asked). a ++ flat_map (ended_without course (past ++ said ∷ [])) l) (called_grows past said) none_left
        ∙ (append-nil (called course past ++ called_at course past said)
        ∙ ap (λ (l : List Asked). called course past ++ flat_map (ended_without course past) l) all_due)
