-- Each event of the machine keeps what the host has to send due, and what it writes is.
use Rattle.proof_air.specs.law_transcript.Nodes.{always}
use Rattle.std.proofs.Common.{◌≡◌, ℕ, ◌&&◌, not, Bool, true, false, if◌then◌else◌, inl, inr, List, [], ◌∷◌, ◌++◌, refl, sym, subst, ◌∙◌}
use Rattle.std.specs.List.{AllByRecursion}
use Rattle.s0_crypto.specs.Sealing.{keys_of}
use Rattle.zw_text.specs.declared.entry.Entry.{Entry}
use Rattle.zw_text.specs.declared.entry.Entry.TheVariants as entry
use Rattle.proof_air.specs.law_transcript.Lists.{EachAfter}
use Rattle.proof_air.specs.law_transcript.Payloads.{messages_of, IsToldBy, MayRequest}
use Rattle.proof_air.specs.law_transcript.Restarts.{begins_refused}
use Rattle.proof_air.specs.law_transcript.Units.{payloads_from}
use Rattle.proof_air.proofs.Having.{has_shown, shown_has}
use Rattle.host_heard.specs.Telling.{heard_at}
use Rattle.host_heard.specs.declared.told.Told.{Told}
use Rattle.host_heard.specs.declared.told.Told.TheVariants.{NonceGet, NonceReport}
use Rattle.host_requests.specs.Events.{RequestsEvent}
use Rattle.host_model.specs.State.{HostState}
use Rattle.host_model.specs.After.{after}
use Rattle.host_model.specs.Did.{outs_all}
use Rattle.host_model.specs.May.{May as MayHost}
use Rattle.host_model.specs.Events.{HostEvent, Accepts, Cancels, Queues, Hears, Requests_do, Offers, Gives, Takes_nonce, Line_ticks, Submits_abort, Submits_front, Starts, Gives_text, Gives_segment, IsOwn}
use Rattle.host_model.specs.Outs.{answers, outs, Silent}
use Rattle.host_model.specs.declared.out.HostOut.{HostOut}
use Rattle.host_model.specs.declared.out.HostOut.TheVariants.{Write, Note}
use Rattle.outside_model.specs.State.{OuterState}
use Rattle.outside_model.specs.Events.{ticked_entry, entries as entries_outside}
use Rattle.outside_model.specs.Did.{entries_all as entries_all_outside}
use Rattle.proof_air.specs.world_model.State.{Machine, host_does, host_entries}
use Rattle.proof_air.specs.world_model.Events.{Event, Outside_does, Host_does, Host_takes, Decoder_ticks, Refuses, Shows_values, Restarts, fed, happens, entries, notes, May}
use Rattle.proof_spoken.proofs.Entered.{IsMark}
use Rattle.proof_line.proofs.Hosting.{MayWrite, outs_write, units-append}
use Rattle.proof_line.proofs.Lists.{each-append}
use Rattle.proof_spoken.proofs.Plain.{IsPlain, own_plain}
use Rattle.proof_air.specs.proof_walk.Outside.{IsHostNote, IsOfAir}
use Rattle.proof_air.specs.proof_walk.ByLine.{IsCommon}
use Rattle.proof_air.proofs.Alone.{KindsAre, common_are}
use Rattle.proof_air.proofs.Machines.{UnitsAre}
use Rattle.proof_sending.specs.Reasons.{Reason, Asked_for, Wants_nonce, Gave_nonce, HasReason, IsReasoned, PushesNothing, WritesDue}
use Rattle.proof_sending.specs.Due.{IsShown}
use Rattle.proof_sending.specs.Heard.{HaveReasons, ItemTells, WritesNoFrame}
use Rattle.proof_sending.specs.Arriving.{BringsMore}
use Rattle.proof_sending.specs.Knowing.{Grounded, IsMine, IsSound, IsWell}
use Rattle.proof_sending.proofs.AskedLines.{asked_stays}
use Rattle.proof_sending.proofs.Dues.{unit_is_due}
use Rattle.proof_sending.proofs.Grounds.{WalkLaws, carried_so, ground_goes, ground_ticked}
use Rattle.proof_sending.proofs.Growing.{event_brings, ticked_brings}
use Rattle.proof_sending.proofs.HostUnits.{FirstDue, IsShort, answers_stand, event_stands, none_stand, short_stand}
use Rattle.proof_sending.proofs.Judged.{judged_goes, reasons_of, stands_all}
use Rattle.proof_sending.proofs.OutsideUnits.{outside_not}
use Rattle.proof_sending.proofs.Reasoned.{event_is, more_is, units_due}

-- ---- entries that refuse no line

abbrev IsNoRefusal : Entry → Type 0
IsNoRefusal (entry.Refused refusal) = ⊥
IsNoRefusal _ = Unit {0}

mark_none : (e : Entry) → IsMark e → IsNoRefusal e
mark_none (entry.Refused refusal) mark = absurd mark
mark_none e mark = tt

air_none : (e : Entry) → IsOfAir e → IsNoRefusal e
air_none (entry.Refused refusal) of_air = absurd of_air
air_none e of_air = tt

note_none : (e : Entry) → IsHostNote e → IsNoRefusal e
note_none (entry.Refused refusal) note = absurd note
note_none e note = tt

kinds : KindsAre IsNoRefusal
kinds = record { unit = λ side text. tt; mark = mark_none; of_air = air_none; full = tt; time = λ tick. tt; note = note_none }

none_refused : (told : List Entry) → AllByRecursion IsNoRefusal told → begins_refused told ≡ false
none_refused [] none = refl
none_refused (entry.Refused refusal ∷ told) none = absurd none.0
none_refused (e ∷ told) none = refl

ticked_none : (o : OuterState) → begins_refused (ticked_entry o) ≡ false
ticked_none o = by (o.in_tick && not o.stamped)
  where
    by : (b : Bool) → begins_refused (if b then entry.Time o.clock ∷ [] else []) ≡ false
    by true = refl
    by false = refl

-- ---- events that are no line's own

own_silent : (event : HostEvent) → IsOwn event → Silent (event ∷ [])
own_silent (Accepts order carriage) own = absurd own
own_silent (Cancels command) own = absurd own
own_silent event own = (λ h. refl, tt)

mine_common : (event : Event) → IsMine event → IsCommon event
mine_common (Outside_does event) mine = mine
mine_common (Host_does event) own = own_silent event own
mine_common (Host_takes count rest items events) mine = tt
mine_common Decoder_ticks mine = tt
mine_common event mine = absurd mine

mine_plain : (event : Event) → IsMine event → IsPlain event
mine_plain (Host_does event) own = own_plain event own
mine_plain event mine = tt

mine_none : (m : Machine) (event : Event) → IsMine event → May m event → begins_refused (entries m event) ≡ false
mine_none m event mine may = none_refused (entries m event) (common_are IsNoRefusal kinds m event (mine_common event mine) may)

pub keys_stay : (m : Machine) (event : Event) → (happens m event).keys ≡ m.keys
unfolding happens
keys_stay m (Outside_does event) = refl
keys_stay m (Host_does event) = refl
keys_stay m (Host_takes count rest items events) = refl
keys_stay m Decoder_ticks = refl
keys_stay m (Refuses line refusal) = refl
keys_stay m (Shows_values node) = refl
keys_stay m (Restarts state) = refl

-- ---- what a host writes as it judges

may_short : (event : HostEvent) → WritesNoFrame event → MayWrite IsShort event
may_short (Hears item) none = (tt, tt)
may_short Line_ticks none = absurd none
may_short Submits_abort none = absurd none
may_short Submits_front none = absurd none
may_short (Starts n plan more payload) none = absurd none
may_short (Gives_text n payload) none = absurd none
may_short (Gives_segment n more payload) none = absurd none
may_short event none = tt

event_short : (h : HostState) (event : HostEvent) → WritesNoFrame event → UnitsAre IsShort (outs h event)
event_short h event none = outs_write IsShort h event (may_short event none)

-- ---- reasons

module _ (listing : List Entry → ℕ → List ℕ) (key : List ℕ) where
  told_more : (past later : List Entry) (node : ℕ) (message : Told) → BringsMore past later → IsToldBy key past node message → IsToldBy key later node message
  told_more past later node message more (inl told) =
      let tells : List ℕ → List Told = λ bytes. messages_of (heard_at bytes) in
      let one = shown_has tells (payloads_from node past) message told in
      inl (has_shown tells (payloads_from node later) one.by message (more node one.by one.among) one.shows)
  told_more past later node message more (inr is) =
      inr (record {
        payload = is.payload;
        brought = more node is.payload is.brought;
        own = is.own;
        nonce = is.nonce;
        plain = is.plain;
        own_eight = is.own_eight;
        eight = is.eight;
        text = is.text;
        tells = is.tells;
      })

  pub holds_more : (past told : List Entry) → begins_refused told ≡ false → BringsMore past (past ++ told) → (reason : Reason) → IsShown listing key past reason
      → IsShown listing key (past ++ told) reason
  holds_more past told none more (Asked_for node payload) asked = asked_stays listing [] past told (record { node = node; payload = payload }) none asked
  holds_more past told none more (Wants_nonce node) is = told_more past (past ++ told) node NonceGet more is
  holds_more past told none more (Gave_nonce node nonce) is = told_more past (past ++ told) node (NonceReport nonce) more is

  pub reasoned_more : (past told : List Entry) (h : HostState) → begins_refused told ≡ false → BringsMore past (past ++ told) → IsReasoned (IsShown listing key past) (keys_of key) h
      → IsReasoned (IsShown listing key (past ++ told)) (keys_of key) h
  reasoned_more past told h none more is = more_is (IsShown listing key past) (IsShown listing key (past ++ told)) (holds_more past told none more) (keys_of key) h is

  pub own_reason : (past : List Entry) (h : HostState) (event : HostEvent) → IsOwn event → HasReason (IsShown listing key past) (keys_of key) h event
  own_reason past h (Queues task) own = absurd own
  own_reason past h (Requests_do event moment) own = subst (λ (e : RequestsEvent). PushesNothing e) (sym own) tt
  own_reason past h (Offers n) own = absurd own
  own_reason past h (Gives n drawn) own = absurd own
  own_reason past h (Takes_nonce n seen text) own = absurd own
  own_reason past h event own = tt

  events_short : (past : List Entry) (h : HostState) (events : List HostEvent) → HaveReasons (IsShown listing key past) (keys_of key) h events → UnitsAre IsShort (outs_all h events)
  events_short past h [] reasons = tt
  events_short past h (event ∷ events) reasons =
      units-append IsShort (outs h event) (outs_all (after h event) events) (event_short h event reasons.0.1) (events_short past (after h event) events reasons.1)

  -- what the host judges at it was told
  abbrev pub HearsTold : List Entry → Event → Type 0
  HearsTold past (Host_takes count rest items events) = AllByRecursion (ItemTells (IsShown listing key past) (keys_of key)) items
  HearsTold past event = Unit {0}

-- ---- an event

module _ (listing : ℕ → List ℕ) (key : List ℕ) (laws : WalkLaws) where
  abbrev pub Stands : List Entry → Machine → Event → Type 0
  Stands past m event = EachAfter (MayRequest (always listing) key) past (entries m event) × IsSound listing key (past ++ entries m event) (happens m event)

  first_of : (past : List Entry) (m : Machine) → Grounded listing past m → (puts : List HostOut) → WritesDue (IsShown (always listing) key past) (keys_of key) m.host.state puts → FirstDue (always listing) key past puts
  first_of past m ground [] due = tt
  first_of past m ground (Write unit ∷ puts) due =
      unit_is_due (IsShown (always listing) key past) (always listing) key past (λ reason is. is) laws.from laws.to m.host.state ground.facts.begun
      (carried_so laws.stand laws.carried (always listing) past m.host.state ground.facts ground.said) unit due.0
  first_of past m ground (Note note ∷ puts) due = tt

  pub first_due : (past : List Entry) (m : Machine) (event : HostEvent) → Grounded listing past m → MayHost m.host.state event
      → ((told : List Entry) → HasReason (IsShown (always listing) key told) (keys_of key) m.host.state event) → IsReasoned (IsShown (always listing) key past) (keys_of key) m.host.state
      → FirstDue (always listing) key (past ++ ticked_entry m.outside.outer) (outs m.host.state event)
  first_due past m event ground may reason is =
      let told : List Entry = ticked_entry m.outside.outer in
      first_of (past ++ told) m (ground_ticked listing laws past m m.outside.outer ground) (outs m.host.state event)
      (units_due laws.hosts (IsShown (always listing) key (past ++ told)) (keys_of key) m.host.state event ground.facts.host may (reason (past ++ told))
      (reasoned_more (always listing) key past told m.host.state (ticked_none m.outside.outer) (ticked_brings past m.outside.outer) is))

  pub host_stands : (past : List Entry) (m : Machine) (event : HostEvent) → FirstDue (always listing) key (past ++ ticked_entry m.outside.outer) (outs m.host.state event)
      → EachAfter (MayRequest (always listing) key) past (entries m (Host_does event))
  unfolding entries
  host_stands past m event due =
      let done : Machine = host_does m (event ∷ []) in
      each-append (MayRequest (always listing) key) past (host_entries m (event ∷ [])) (entries_all_outside done.outside (notes (answers m.host.state event)))
      (event_stands (always listing) key past m.outside m.host.state event due)
      (answers_stand (always listing) key (past ++ host_entries m (event ∷ [])) done.outside m.host.state event)

  sound_after : (past : List Entry) (m : Machine) (event : Event) → IsMine event → May m event → IsWell listing m event → IsSound listing key past m
      → IsReasoned (IsShown (always listing) key past) (keys_of key) (happens m event).host.state → IsSound listing key (past ++ entries m event) (happens m event)
  sound_after past m event mine may well is reasoned = record {
    ground = ground_goes listing laws past m event (mine_plain event mine) may well.0.0 well.1 is.ground;
    keys = keys_stay m event ∙ is.keys;
    reasoned = reasoned_more (always listing) key past (entries m event) (happens m event).host.state (mine_none m event mine may) (event_brings past m event may is.ground.arrives) reasoned;
  }

  pub mine_step : (past : List Entry) (m : Machine) (event : Event) → IsMine event → May m event → IsWell listing m event → HearsTold (always listing) key past event → IsSound listing key past m → Stands past m event
  unfolding happens entries May
  mine_step past m (Outside_does event) mine may well hears is = (
    none_stand (always listing) key past (entries_outside m.outside event) (outside_not m.outside event may.0 may.1),
    sound_after past m (Outside_does event) mine may well is is.reasoned,
  )
  mine_step past m (Host_does event) own may well hears is =
      let h : HostState = m.host.state in (
        host_stands past m event (first_due past m event is.ground may.0 (λ told. own_reason (always listing) key told h event own) is.reasoned),
        sound_after past m (Host_does event) own may well is
            (event_is laws.hosts (IsShown (always listing) key past) (keys_of key) past h event is.ground.facts may.0 (own_reason (always listing) key past h event own) is.reasoned),
      )
  mine_step past m (Host_takes count rest items events) mine may well hears is =
      let h : HostState = m.host.state in
      let reasons : HaveReasons (IsShown (always listing) key past) (keys_of key) h events
      = reasons_of laws.hosts (IsShown (always listing) key past) (keys_of key) h events
      (judged_goes laws.hosts (IsShown (always listing) key past) (keys_of key) h items events hears may.judged) ((past, is.ground.facts), is.reasoned) may.may in (
        short_stand (always listing) key past (fed m count rest).outside h events (events_short (always listing) key past h events reasons),
        sound_after past m (Host_takes count rest items events) tt may well is
            (stands_all laws.hosts (IsShown (always listing) key past) (keys_of key) h events may.may reasons ((past, is.ground.facts), is.reasoned)).1,
      )
  mine_step past m Decoder_ticks mine may well hears is = (tt, sound_after past m Decoder_ticks tt may well is is.reasoned)
  mine_step past m event mine may well hears is = absurd mine
