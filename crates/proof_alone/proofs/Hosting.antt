-- Steps of the host: what it does, one event after another, and items that it judges.
use Rattle.std.proofs.Common.{◌≡◌, ℕ, Bool, true, List, [], ◌∷◌, ◌++◌, refl, sym, ap, ◌∙◌, subst, append-nil, append_assoc}
use Rattle.std.proofs.lemmas.Grind.{flat_map-append}
use Rattle.std.specs.Prelude.{Option, Some, None}
use Rattle.serial_frame.specs.declared.item.Item.{Item}
use Rattle.serial_frame.specs.declared.item.Item.TheVariants.{Good, Refused}
use Rattle.serial_frame.specs.declared.unit.Unit.{Unit as LineUnit}
use Rattle.s0_crypto.specs.declared.key_pair.Keys.{Keys}
use Rattle.zw_text.specs.declared.entry.Entry.{Entry}
use Rattle.proof_line.specs.host_model.State.{HostState}
use Rattle.proof_line.specs.host_model.Events.{HostEvent, Hears}
use Rattle.proof_line.specs.host_model.After.{after}
use Rattle.proof_line.specs.host_model.Did.{MayAll, after_all, outs_all, records_all, texts_of}
use Rattle.proof_line.specs.host_model.Outs.{outs}
use Rattle.proof_line.specs.host_model.Pumping.{LetsSleep, Pumps, Submits}
use Rattle.proof_line.specs.host_model.Taking.{AreJudged, IsFollowed}
use Rattle.proof_line.specs.host_model.Ticking.{tick_events}
use Rattle.proof_line.specs.host_model.declared.out.HostOut.{HostOut}
use Rattle.proof_line.proofs.host_model_EventLists.{after_all-append, outs_all-append, records_all-append, texts-append}
use Rattle.host_keep.specs.declared.record.Record.{Record}
use Rattle.proof_line.specs.outside_model.State.{OuterState, Outside}
use Rattle.proof_line.specs.outside_model.Events.{OuterEvent, has_entered, stamp}
use Rattle.proof_line.specs.outside_model.Did.{happens_all, entries_all}
use Rattle.proof_line.proofs.EventLists.{happens_all-append, entries_all-append}
use Rattle.proof_line.specs.world_model.State.{routed, routed_one, with_texts}
use Rattle.proof_line.specs.proof_serial.Units.{good_units}
use Rattle.proof_line.proofs.Times.{time_of}
use Rattle.proof_alone.specs.State.{HostMachine, host_machine}
use Rattle.proof_alone.specs.Steps.{AreFrames, AreTold, Does, Judges, TakesItem}
use Rattle.proof_alone.specs.Phases.{Phase, Resting, Risen, Ticking, Open, Behind, Sleeping, Submitting, GoesBy}
use Rattle.proof_alone.specs.Careful.{Fresh, Looked, MayJudge, Stage, stage_judged, stage_pumped}
use Rattle.proof_alone.proofs.Carefully.{Leads, all_judged, else_hears, goes_on, may_pump, still_judges, turns_on}
use Rattle.proof_alone.proofs.Coming.{at_time, stamp_run}
use Rattle.proof_alone.proofs.Stamps.{Time3, outs_told}

-- ---- how what a host puts out is entered

-- so many entries are told of it, with the number of the tick before the first of them
pub record IsPut (o later : OuterState) (puts : List HostOut) (all : List Entry) : Type 0 where
  pub told : List Entry
  pub are : AreTold puts told
  pub stamped : all ≡ stamp o told
  pub time : time_of later ≡ time_of (has_entered o told)

-- beside a host is something with a time, that what it puts out makes of it
pub record Enters (W : Type 0) (at : W → OuterState) (put : W → List HostOut → List Entry) (next : W → List HostOut → W) : Type 0 where
  pub none_put : (w : W) → put w [] ≡ []
  pub none_next : (w : W) → next w [] ≡ w
  pub both_put : (w : W) (a b : List HostOut) → put w (a ++ b) ≡ put w a ++ put (next w a) b
  pub both_next : (w : W) (a b : List HostOut) → next w (a ++ b) ≡ next (next w a) b
  pub is_put : (puts : List HostOut) (w : W) → IsPut (at w) (at (next w puts)) puts (put w puts)

-- ---- lists

abbrev pub kept : Option (List (List ℕ)) → HostState → List HostEvent → Option (List (List ℕ))
kept records h events = with_texts records (texts_of (records_all h events))

texts_both : (records : Option (List (List ℕ))) (a b : List (List ℕ)) → with_texts (with_texts records a) b ≡ with_texts records (a ++ b)
texts_both None a b = refl
texts_both (Some texts) a b = ap (λ (l : List (List ℕ)). Some l) (append_assoc texts a b)

no_texts : (records : Option (List (List ℕ))) → with_texts records [] ≡ records
no_texts None = refl
no_texts (Some texts) = ap (λ (l : List (List ℕ)). Some l) (append-nil texts)

kept_both : (records : Option (List (List ℕ))) (h : HostState) (a b : List HostEvent) → kept (kept records h a) (after_all h a) b ≡ kept records h (a ++ b)
kept_both records h a b =
    texts_both records (texts_of (records_all h a)) (texts_of (records_all (after_all h a) b))
    ∙ ap (λ (l : List (List ℕ)). with_texts records l) (sym (ap (λ (l : List Record). texts_of l) (records_all-append h a b) ∙ texts-append (records_all h a) (records_all (after_all h a) b)))

may_first : (h : HostState) (a b : List HostEvent) → MayAll h (a ++ b) → MayAll h a
may_first h [] b may = tt
may_first h (event ∷ a) b may = (may.0, may_first (after h event) a b may.1, may.2)

may_rest : (h : HostState) (a b : List HostEvent) → MayAll h (a ++ b) → MayAll (after_all h a) b
may_rest h [] b may = may
may_rest h (event ∷ a) b may = may_rest (after h event) a b may.1

takes : (item : Item) (items : List Item) (rest : List LineUnit) → TakesItem item (good_units (item ∷ items) ++ rest) (good_units items ++ rest)
takes (Good unit) items rest = refl
takes (Refused refusal) items rest = refl

module _ (W : Type 0) (at : W → OuterState) (put : W → List HostOut → List Entry) (next_of : W → List HostOut → W) (enters : Enters W at put next_of) (Led : Stage → Phase → List Entry → HostMachine → Type 0)
    (leads : Leads Led) (keys : Keys) (left : ℕ) where
  -- what events make of it, and what is entered of them
  abbrev pub later : W → HostState → List HostEvent → W
  later w h events = next_of w (outs_all h events)

  abbrev pub told : W → HostState → List HostEvent → List Entry
  told w h events = put w (outs_all h events)

  later_both : (w : W) (h : HostState) (a b : List HostEvent) → later w h (a ++ b) ≡ later (later w h a) (after_all h a) b
  later_both w h a b = ap (λ (l : List HostOut). next_of w l) (outs_all-append h a b) ∙ enters.both_next w (outs_all h a) (outs_all (after_all h a) b)

  told_both : (w : W) (h : HostState) (a b : List HostEvent) → told w h (a ++ b) ≡ told w h a ++ told (later w h a) (after_all h a) b
  told_both w h a b = ap (λ (l : List HostOut). put w l) (outs_all-append h a b) ∙ enters.both_put w (outs_all h a) (outs_all (after_all h a) b)

  -- a run to here, with a host, its records, what has come, and what is beside it
  abbrev pub To : Stage → Phase → List Entry → Option (List (List ℕ)) → HostState → List LineUnit → W → Type 0
  To stage here past records h came w = Led stage here past (at_time keys records h came left (time_of (at w)))

  -- and to what events make of it
  abbrev pub Then : Stage → Phase → List Entry → Option (List (List ℕ)) → HostState → List LineUnit → W → List HostEvent → Type 0
  Then stage here past records h came w events = To stage here (past ++ told w h events) (kept records h events) (after_all h events) came (later w h events)

  then_none : (stage : Stage) (here : Phase) (past : List Entry) (records : Option (List (List ℕ))) (h : HostState) (came : List LineUnit) (w : W) → To stage here past records h came w
      → Then stage here past records h came w []
  then_none stage here past records h came w run =
      subst (λ (v : W). To stage here (past ++ put w []) (with_texts records []) h came v) (sym (enters.none_next w))
      (subst (λ (l : List Entry). To stage here (past ++ l) (with_texts records []) h came w) (sym (enters.none_put w))
      (subst (λ (l : List Entry). To stage here l (with_texts records []) h came w) (sym (append-nil past))
      (subst (λ (r : Option (List (List ℕ))). To stage here past r h came w) (sym (no_texts records)) run)))

  then_both : (stage : Stage) (here : Phase) (past : List Entry) (records : Option (List (List ℕ))) (h : HostState) (came : List LineUnit) (w : W) (a b : List HostEvent)
      → Then stage here (past ++ told w h a) (kept records h a) (after_all h a) came (later w h a) b → Then stage here past records h came w (a ++ b)
  then_both stage here past records h came w a b run =
      let g : HostState = after_all h a in
      let v : W = later w h a in
      let texts : (past ++ told w h a) ++ told v g b ≡ past ++ told w h (a ++ b) = append_assoc past (told w h a) (told v g b) ∙ ap (λ (l : List Entry). past ++ l) (sym (told_both w h a b)) in
      subst (λ (u : W). To stage here (past ++ told w h (a ++ b)) (kept records h (a ++ b)) (after_all h (a ++ b)) came u) (sym (later_both w h a b))
      (subst (λ (s : HostState). To stage here (past ++ told w h (a ++ b)) (kept records h (a ++ b)) s came (later v g b)) (sym (after_all-append h a b))
      (subst (λ (r : Option (List (List ℕ))). To stage here (past ++ told w h (a ++ b)) r (after_all g b) came (later v g b)) (kept_both records h a b)
      (subst (λ (l : List Entry). To stage here l (kept (kept records h a) g b) (after_all g b) came (later v g b)) texts run)))

  -- ---- one event

  -- what is entered of it is told, with the number of the tick where that is still to be entered
  event_run : (stage led : Stage) (here next : Phase) (past : List Entry) (records : Option (List (List ℕ))) (h : HostState) (came later_came : List LineUnit) (w : W) (event : HostEvent)
      → ((awaits : Bool) (all said : List Entry) → AreTold (outs h event) said → (awaits ≡ true → said ≡ [])
      → Led stage here all (host_machine keys records h came (at w).clock left awaits)
      → Led led next (all ++ said) (host_machine keys (kept records h (event ∷ [])) (after h event) later_came (at w).clock left awaits))
      → To stage here past records h came w → Then led next past records h later_came w (event ∷ [])
  event_run stage led here next past records h came later_came w event steps run =
      let got = enters.is_put (outs_all h (event ∷ [])) w in
      let are : AreTold (outs h event) got.told = subst (λ (l : List HostOut). AreTold l got.told) (append-nil (outs h event)) got.are in
      let stamped =
      stamp_run Led leads stage led (at w) here next keys records (kept records h (event ∷ [])) h (after h event) came later_came left past got.told run
      (λ awaits all numbered there. steps awaits all got.told are numbered there) in
      subst (λ (t : Time3). Led led next (past ++ told w h (event ∷ [])) (at_time keys (kept records h (event ∷ [])) (after h event) later_came left t)) (sym got.time)
      (subst (λ (l : List Entry). Led led next (past ++ l) (at_time keys (kept records h (event ∷ [])) (after h event) later_came left (time_of (has_entered (at w) got.told)))) (sym got.stamped) stamped)

  -- one that comes here
  pub does_run : (stage : Stage) (here next : Phase) (past : List Entry) (records : Option (List (List ℕ))) (h : HostState) (came : List LineUnit) (w : W) (event : HostEvent)
      → GoesBy here h event next → MayAll h (event ∷ []) → To stage here past records h came w → Then stage next past records h came w (event ∷ [])
  does_run stage here next past records h came w event goes may run =
      event_run stage stage here next past records h came came w event
      (λ awaits all said are numbered there. goes_on leads (Does event said) (goes, may, are, numbered) (tt, else_hears here (Does event said) tt) refl refl refl there) run

  -- those of a part, one after another
  part_run : (stage : Stage) (part : List HostEvent → Phase) → ((first : HostEvent) (more : List HostEvent) (g : HostState) → GoesBy (part (first ∷ more)) g first (part more))
      → (events : List HostEvent) (past : List Entry) (records : Option (List (List ℕ))) (h : HostState) (came : List LineUnit) (w : W) → MayAll h events
      → To stage (part events) past records h came w → Then stage (part []) past records h came w events
  part_run stage part goes [] past records h came w may run = then_none stage (part []) past records h came w run
  part_run stage part goes (event ∷ events) past records h came w may run =
      let one = does_run stage (part (event ∷ events)) (part events) past records h came w event (goes event events h) (may.0, tt, may.2) run in
      then_both stage (part []) past records h came w (event ∷ []) events
      (part_run stage part goes events (past ++ told w h (event ∷ [])) (kept records h (event ∷ [])) (after h event) came (later w h (event ∷ [])) may.1 one)

  -- ---- a tick and a pump

  -- the host's part of a tick
  pub tick_run : (past : List Entry) (records : Option (List (List ℕ))) (h : HostState) (came : List LineUnit) (w : W) → MayAll h (tick_events h)
      → To Fresh Risen past records h came w → Then Fresh Open past records h came w (tick_events h)
  tick_run past records h came w may run =
      turns_on leads refl tt refl (part_run Fresh Ticking (λ first more g. (refl, refl)) (tick_events h) past records h came w may (turns_on leads refl tt refl run))

  lets_run : (stage : Stage) (events : List HostEvent) (past : List Entry) (records : Option (List (List ℕ))) (h : HostState) (came : List LineUnit) (w : W) → AreFrames came → LetsSleep h events
      → MayAll h events → To stage Sleeping past records h came w → Then stage Submitting past records h came w events
  lets_run stage [] past records h came w frames lets may run = turns_on leads (lets, refl, frames) tt refl (then_none stage Sleeping past records h came w run)
  lets_run stage (event ∷ events) past records h came w frames (node, wants, is, more) may run =
      let one = does_run stage Sleeping Sleeping past records h came w event (node, wants, is, refl) (may.0, tt, may.2) run in
      then_both stage Submitting past records h came w (event ∷ []) events
      (lets_run stage events (past ++ told w h (event ∷ [])) (kept records h (event ∷ [])) (after h event) came (later w h (event ∷ [])) frames more may.1 one)

  submits_run : (stage : Stage) (events : List HostEvent) (past : List Entry) (records : Option (List (List ℕ))) (h : HostState) (came : List LineUnit) (w : W) → Submits h events → MayAll h events
      → To stage Submitting past records h came w → Then stage Resting past records h came w events
  submits_run stage [] past records h came w pumped may run = turns_on leads (pumped, refl) tt refl (then_none stage Submitting past records h came w run)
  submits_run stage (event ∷ events) past records h came w (is, more) may run =
      let one = does_run stage Submitting Submitting past records h came w event (is, refl) (may.0, tt, may.2) run in
      then_both stage Resting past records h came w (event ∷ []) events
      (submits_run stage events (past ++ told w h (event ∷ [])) (kept records h (event ∷ [])) (after h event) came (later w h (event ∷ [])) more may.1 one)

  -- where nothing that came is left
  pub pump_run : (stage : Stage) (events : List HostEvent) (past : List Entry) (records : Option (List (List ℕ))) (h : HostState) (w : W) → Pumps h events → MayAll h events
      → To stage Open past records h [] w → Then (stage_pumped stage) Resting past records h [] w events
  pump_run stage events past records h w (first, more, are, lets, submits) may run =
      let both : MayAll h (first ++ more) = subst (MayAll h) are may in
      let pumped : Stage = stage_pumped stage in
      subst (λ (l : List HostEvent). Then pumped Resting past records h [] w l) (sym are)
      (then_both pumped Resting past records h [] w first more
      (submits_run pumped more (past ++ told w h first) (kept records h first) (after_all h first) [] (later w h first) submits (may_rest h first more both)
      (lets_run pumped first past records h [] w tt lets (may_first h first more both) (turns_on leads refl (may_pump stage [] refl, tt) refl run))))

  -- a tick, and the pump that follows
  pub tick_and_pump : (pumped : List HostEvent) (past : List Entry) (records : Option (List (List ℕ))) (h : HostState) (w : W) → Pumps (after_all h (tick_events h)) pumped
      → MayAll h (tick_events h ++ pumped) → To Fresh Risen past records h [] w → Then Looked Resting past records h [] w (tick_events h ++ pumped)
  tick_and_pump pumped past records h w pumps may run =
      let events : List HostEvent = tick_events h in
      then_both Looked Resting past records h [] w events pumped
      (pump_run Fresh pumped (past ++ told w h events) (kept records h events) (after_all h events) (later w h events) pumps (may_rest h events pumped may)
      (tick_run past records h [] w (may_first h events pumped may) run))

  -- ---- items

  -- an item is judged, and what follows it is done
  item_run : (stage : Stage) (item : Item) (items : List Item) (behind : List HostEvent) (past : List Entry) (records : Option (List (List ℕ))) (h : HostState) (rest : List LineUnit) (w : W)
      → MayJudge stage → IsFollowed (after h (Hears item)) h.side.turn item behind → MayAll h (Hears item ∷ behind)
      → To stage Open past records h (good_units (item ∷ items) ++ rest) w → Then (stage_judged stage) Open past records h (good_units items ++ rest) w (Hears item ∷ behind)
  item_run stage item items behind past records h rest w judging followed may run =
      let came : List LineUnit = good_units items ++ rest in
      let first = may_first h (Hears item ∷ []) behind may in
      let one =
      event_run stage (stage_judged stage) Open (Behind behind) past records h (good_units (item ∷ items) ++ rest) came w (Hears item)
      (λ awaits all said are numbered there.
      goes_on leads (Judges item came behind said)
      (refl, record { takes = takes item items rest; may = first; followed = followed; told_so = are; numbered = numbered }, refl)
      (judging, tt) refl refl refl there)
      run in
      let all =
      part_run (stage_judged stage) Behind (λ first more g. (refl, refl)) behind (past ++ told w h (Hears item ∷ [])) (kept records h (Hears item ∷ [])) (after h (Hears item)) came
      (later w h (Hears item ∷ [])) (may_rest h (Hears item ∷ []) behind may) one in
      turns_on leads refl tt refl (then_both (stage_judged stage) (Behind []) past records h came w (Hears item ∷ []) behind all)

  pub items_run : (stage : Stage) (items : List Item) (events : List HostEvent) (past : List Entry) (records : Option (List (List ℕ))) (h : HostState) (rest : List LineUnit) (w : W) → MayJudge stage
      → AreJudged h items events → MayAll h events → To stage Open past records h (good_units items ++ rest) w → Then (all_judged stage items) Open past records h rest w events
  items_run stage [] events past records h rest w judging are may run =
      subst (λ (l : List HostEvent). Then stage Open past records h rest w l) (sym are) (then_none stage Open past records h rest w run)
  items_run stage (item ∷ items) events past records h rest w judging (first, more, are, (behind, first_is, followed), others) may run =
      let start_may : MayAll h (first ++ more) = subst (MayAll h) are may in
      let firsts : MayAll h (Hears item ∷ behind) = subst (MayAll h) first_is (may_first h first more start_may) in
      let led : Stage = all_judged (stage_judged stage) items in
      let one : Then (stage_judged stage) Open past records h (good_units items ++ rest) w first
      = subst (λ (l : List HostEvent). Then (stage_judged stage) Open past records h (good_units items ++ rest) w l) (sym first_is)
      (item_run stage item items behind past records h rest w judging followed firsts run) in
      subst (λ (l : List HostEvent). Then led Open past records h rest w l) (sym are)
      (then_both led Open past records h rest w first more
      (items_run (stage_judged stage) items more (past ++ told w h first) (kept records h first) (after_all h first) rest (later w h first) (still_judges stage judging) others
      (may_rest h first more start_may) one))

-- ---- outside a host of the simulator

abbrev pub outside_at : Outside → OuterState
outside_at w = w.outer

abbrev pub outside_put : Outside → List HostOut → List Entry
outside_put w puts = entries_all w (routed puts)

abbrev pub outside_next : Outside → List HostOut → Outside
outside_next w puts = happens_all w (routed puts)

routed_both : (a b : List HostOut) → routed (a ++ b) ≡ routed a ++ routed b
routed_both a b = flat_map-append routed_one a b

pub outside_enters : Enters Outside outside_at outside_put outside_next
outside_enters = record {
  none_put = λ w. refl;
  none_next = λ w. refl;
  both_put = λ w a b. ap (λ (l : List OuterEvent). entries_all w l) (routed_both a b) ∙ entries_all-append w (routed a) (routed b);
  both_next = λ w a b. ap (λ (l : List OuterEvent). happens_all w l) (routed_both a b) ∙ happens_all-append w (routed a) (routed b);
  is_put = λ puts w. let got = outs_told puts w in record { told = got.told; are = got.are; stamped = got.stamped; time = got.time };
}
