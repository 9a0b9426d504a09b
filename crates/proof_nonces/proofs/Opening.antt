-- What was judged, and what it opened, with further entries and events.
use Rattle.std.proofs.Common.{◌≡◌, ◌⊎◌, ℕ, ◌-◌, ◌%◌, ◌≤◌, ◌<◌, ◌==◌, ◌&&◌, Bool, true, false, if◌then◌else◌, inl, inr, List, [], ◌∷◌, ◌++◌, Option, Some, None, zero, suc, length, length-append, refl, sym, ap, ap₂, ◌∙◌, subst, append-nil, append_assoc, arith}
use Rattle.std.specs.Prelude.{nat_le, Result, Ok, Err, slice_index}
use Rattle.std.specs.List.{AllByRecursion, flat_map}
use Rattle.std.proofs.lemmas.List.{get_or-set_same}
use Rattle.zw_base.specs.declared.property.Setting.{Setting}
use Rattle.zw_base.proofs.Each.{all-append, all-both, all-weaker}
use Rattle.s0_crypto.specs.declared.key_pair.Keys.{Keys}
use Rattle.s0_crypto.specs.Opening.{sender_nonce_in}
use Rattle.s0_crypto.specs.Seal.{Seals}
use Rattle.s0_session.specs.declared.account.Account.{Account}
use Rattle.s0_session.specs.Nonces.{account_of, given_of, live_of, unused}
use Rattle.serial_frame.specs.Frame.{FrameParts}
use Rattle.serial_frame.specs.Items.{unit_text}
use Rattle.serial_frame.specs.declared.frame.Kind.TheVariants as kind
use Rattle.serial_frame.specs.declared.unit.Unit.TheVariants.{Framed}
use Rattle.chip_functions.specs.Notice.{notice_of}
use Rattle.chip_functions.specs.declared.fault.BodyFault.{BodyFault}
use Rattle.chip_functions.specs.declared.notice.Notice.{Notice}
use Rattle.chip_functions.specs.declared.notice.Notice.TheVariants.{ApplicationCommandHandler, SendData, ApplicationUpdate, AddNode}
use Rattle.zw_words.specs.declared.side.Side.TheVariants.{Host}
use Rattle.zw_text.specs.declared.entry.Ended.TheVariants as endings
use Rattle.zw_text.specs.declared.entry.Entry.{Entry}
use Rattle.zw_text.specs.declared.entry.Entry.TheVariants as entry
use Rattle.zw_text.specs.Transcript.{folded}
use Rattle.zw_text.proofs.Views.{folded-append}
use Rattle.law_transcript.specs.Lists.{EachAfter, Has}
use Rattle.law_transcript.specs.Units.{Carried, bringing_in, bringing_of, body_in, function_in, is_frame, read_well}
use Rattle.law_transcript.proofs.Having.{all_has, has_left}
use Rattle.proof_notes.specs.law_time.Judged.{after_step, brought_here, is_acknowledgement, is_following, judged, last_of}
use Rattle.host_heard.specs.Telling.{heard_at}
use Rattle.host_heard.specs.declared.payload.Heard.{Heard}
use Rattle.host_heard.specs.declared.payload.Heard.TheVariants.{Messages, Sealed, Unread}
use Rattle.host_model.specs.State.{HostState, command_at}
use Rattle.host_model.specs.Sessions.{settings_with}
use Rattle.host_model.specs.After.{after, is_held}
use Rattle.host_model.specs.Events.{HostEvent, Accepts, Finishes, Hears_value, Has_no_room, Is_unkept, Reports_old, Spends, Spends_unread, Unreads}
use Rattle.host_model.specs.Outs.{ended_of, held_entries, outs, stored_entries}
use Rattle.host_model.specs.Taking.{FrameEvents, PayloadEvents, SealedEvents, ends_from, named_by}
use Rattle.proof_notes.specs.proof_known.law_host.Nonces.{nonce_with}
use Rattle.proof_notes.specs.proof_known.proof_alone.Phases.{Phase}
use Rattle.proof_notes.specs.proof_known.proof_alone.Steps.{AreTold, IsOfUnit}
use Rattle.proof_notes.proofs.Apart.{IsApart, apart_judged}
use Rattle.proof_notes.proofs.ByPayload.{frame_follows}
use Rattle.proof_notes.proofs.Events.{outs_told}
use Rattle.proof_notes.proofs.Lists.{each-append, each-weaker}
use Rattle.proof_notes.proofs.Noting.{noted_told}
use Rattle.proof_notes.proofs.Parts.{IsNoted}
use Rattle.proof_notes.proofs.proof_alone_Apart.{AreOfLine}
use Rattle.proof_notes.proofs.proof_device_HostOuts.{OwnIs, SharedAre, outs_are}
use Rattle.proof_nonces.specs.Giving.{Acknowledged, AllOpen, IsBefore, IsOpenedOnce, MayTell, Opened, OpensFor, OpensOnce, acknowledged_step, before_judged}
use Rattle.proof_nonces.specs.Counted.{AreBehind, AtPhase, BehindSo, IsLast, LiveSo, OpenedSo, TellsNothing, spent_by, spent_of}
use Rattle.proof_nonces.proofs.Accounts.{Grown, spent_given}
use Rattle.proof_nonces.proofs.Ordered.{ordered-last}
use Rattle.proof_nonces.proofs.Reports.{Agrees}

-- ---- entries of which nothing is asked

abbrev pub NoTell : Entry → Type 0
NoTell (entry.Out command endings.Success) = ⊥
NoTell (entry.Out command endings.Fail) = ⊥
NoTell (entry.Out command endings.NoSupport) = ⊥
NoTell (entry.Report node setting) = ⊥
NoTell (entry.Unstored node property) = ⊥
NoTell (entry.Old node id) = ⊥
NoTell e = Unit {0}

shared_none : SharedAre NoTell
shared_none = record {
  unanswered = λ command. tt;
  asleep = λ n. tt;
  done = λ n how. tt;
  uninterviewed = λ n. tt;
  neighbours = λ n nodes. tt;
  failed = λ n is_failed. tt;
  stored = λ n setting. tt;
  held = λ n. tt;
  full = λ n. tt;
}

pub line_none : AreOfLine NoTell
line_none = record { written = λ side text. tt; dropped = λ side. tt; garbled = λ side text. tt; overrun = λ side. tt }

own_none : (event : HostEvent) → TellsNothing event → OwnIs NoTell event
own_none (Finishes n session id command status wake) quiet = absurd quiet
own_none (Reports_old n id) quiet = absurd quiet
own_none (Hears_value n setting) quiet = absurd quiet
own_none (Has_no_room n property) quiet = absurd quiet
own_none (Accepts order carriage) quiet = λ number. tt
own_none event quiet = tt

pub event_none : (h : HostState) (event : HostEvent) (told : List Entry) → TellsNothing event → AreTold (outs h event) told → AllByRecursion NoTell told
event_none h event told quiet are = outs_told NoTell line_none (outs h event) told (outs_are NoTell shared_none h event (own_none event quiet)) are

stored_none : (n : ℕ) (settings : List Setting) → AllByRecursion NoTell (stored_entries n settings)
stored_none n [] = tt
stored_none n (setting ∷ settings) = (tt, stored_none n settings)

held_none : (n : ℕ) (held : Bool) → AllByRecursion NoTell (held_entries n held)
held_none n true = (tt, tt)
held_none n false = tt

module _ (keys : Keys) (drawn : ℕ → ℕ → List ℕ) (openings : List Opened) where
  abbrev May : List Entry → Entry → Type 0
  May past e = MayTell keys drawn openings past e

  may_any : (past : List Entry) (e : Entry) → AllOpen keys drawn openings past → May past e
  may_any past (entry.Out command endings.Success) all = all
  may_any past (entry.Out command endings.Fail) all = all
  may_any past (entry.Out command endings.NoSupport) all = all
  may_any past (entry.Report node setting) all = all
  may_any past (entry.Unstored node property) all = all
  may_any past (entry.Old node id) all = all
  may_any past e all = tt

  may_none : (past : List Entry) (e : Entry) → NoTell e → May past e
  may_none past (entry.Out command endings.Success) none = absurd none
  may_none past (entry.Out command endings.Fail) none = absurd none
  may_none past (entry.Out command endings.NoSupport) none = absurd none
  may_none past (entry.Report node setting) none = absurd none
  may_none past (entry.Unstored node property) none = absurd none
  may_none past (entry.Old node id) none = absurd none
  may_none past e none = tt

  pub tells_none : (past told : List Entry) → AllByRecursion NoTell told → EachAfter May past told
  tells_none past [] all = tt
  tells_none past (e ∷ told) all = (may_none past e all.0, tells_none (past ++ e ∷ []) told all.1)

  tells_first : (past told : List Entry) (e : Entry) (more : List Entry) → AllOpen keys drawn openings past → told ≡ e ∷ more → AllByRecursion NoTell more → EachAfter May past told
  tells_first past told e more all is none = subst (λ (l : List Entry). EachAfter May past l) (sym is) (may_any past e all, tells_none (past ++ e ∷ []) more none)

  -- what an event has noted, where what was judged opened
  pub event_tells : (past : List Entry) (h : HostState) (event : HostEvent) (told : List Entry) → AllOpen keys drawn openings past → AreTold (outs h event) told → EachAfter May past told
  event_tells past h (Finishes n session id command status wake) told all are =
      let stored : List Entry = stored_entries n (settings_with status (command_at h.commands command)) in
      let held : List Entry = held_entries n (is_held h n wake) in
      tells_first past told (entry.Out command (ended_of status)) (stored ++ held) all (noted_told (entry.Out command (ended_of status) ∷ (stored ++ held)) told are)
      (all-append NoTell stored held (stored_none n (settings_with status (command_at h.commands command))) (held_none n (is_held h n wake)))
  event_tells past h (Reports_old n id) told all are = tells_first past told (entry.Old n id) [] all (noted_told (entry.Old n id ∷ []) told are) tt
  event_tells past h (Hears_value n setting) told all are = tells_first past told (entry.Report n setting) [] all (noted_told (entry.Report n setting ∷ []) told are) tt
  event_tells past h (Has_no_room n property) told all are = tells_first past told (entry.Unstored n property) [] all (noted_told (entry.Unstored n property ∷ []) told are) tt
  event_tells past h event told all are = tells_none past told (event_none h event told tt are)

-- ---- more is drawn, and opened

pub record Changes (drawn next : ℕ → ℕ → List ℕ) (openings later : List Opened) : Type 0 where
  pub keeps : (one : Opened) → Has openings one → Has later one × (next one.node one.number ≡ drawn one.node one.number)

module _ (keys : Keys) (drawn next : ℕ → ℕ → List ℕ) (openings later : List Opened) (changes : Changes drawn next openings later) where
  pub once_on : (before : List Entry) (carried : Carried) → IsOpenedOnce keys drawn openings before carried → IsOpenedOnce keys next later before carried
  once_on before carried once =
      let kept = changes.keeps (record { before = before; node = carried.node; number = once.number }) once.has in
      record {
        number = once.number;
        has = kept.0;
        opens = subst (λ (nonce : List ℕ). OpensFor keys nonce carried) (ap (λ (b : List ℕ). once.number % 256 ∷ b) (sym kept.1)) once.opens;
      }

  open_on : (before : List Entry) (carried : Carried) (heard : Heard) → OpensOnce keys drawn openings before carried heard → OpensOnce keys next later before carried heard
  open_on before carried Sealed once = once_on before carried once
  open_on before carried (Messages messages) once = tt
  open_on before carried Unread once = tt

  all_on : (past : List Entry) → AllOpen keys drawn openings past → AllOpen keys next later past
  all_on past all =
      all-weaker (λ carried. OpensOnce keys drawn openings (before_judged past) carried (heard_at carried.payload)) (λ carried. OpensOnce keys next later (before_judged past) carried (heard_at carried.payload))
      (λ carried once. open_on (before_judged past) carried (heard_at carried.payload) once) (brought_here past) all

  may_on : (past : List Entry) (e : Entry) → MayTell keys drawn openings past e → MayTell keys next later past e
  may_on past (entry.Out command endings.Success) may = all_on past may
  may_on past (entry.Out command endings.Fail) may = all_on past may
  may_on past (entry.Out command endings.NoSupport) may = all_on past may
  may_on past (entry.Report node setting) may = all_on past may
  may_on past (entry.Unstored node property) may = all_on past may
  may_on past (entry.Old node id) may = all_on past may
  may_on past e may = tt

  pub tells_on : (past told : List Entry) → EachAfter (MayTell keys drawn openings) past told → EachAfter (MayTell keys next later) past told
  tells_on past told each = each-weaker (MayTell keys drawn openings) (MayTell keys next later) may_on past told each

-- ---- what stands before the last acknowledgement

abbrev pub NoAck : Entry → Type 0
NoAck (entry.Written Host unit) = is_acknowledgement unit ≡ false
NoAck e = Unit {0}

abbrev first_of : Acknowledged
first_of = record { before = []; all = [] }

step_before : (s : Acknowledged) (e : Entry) → NoAck e → (acknowledged_step s e).before ≡ s.before
step_before s (entry.Written Host unit) none = ap (λ (b : Bool). if b then s.all else s.before) none
step_before s e none = refl

folded_before : (s : Acknowledged) (told : List Entry) → AllByRecursion NoAck told → (folded acknowledged_step s told).before ≡ s.before
folded_before s [] all = refl
folded_before s (e ∷ told) all = folded_before (acknowledged_step s e) told all.1 ∙ step_before s e all.0

step_all : (s : Acknowledged) (e : Entry) → (acknowledged_step s e).all ≡ s.all ++ e ∷ []
step_all s (entry.Written Host unit) = refl
step_all s e = refl

folded_all : (s : Acknowledged) (told : List Entry) → (folded acknowledged_step s told).all ≡ s.all ++ told
folded_all s [] = sym (append-nil s.all)
folded_all s (e ∷ told) = folded_all (acknowledged_step s e) told ∙ ap (λ (l : List Entry). l ++ told) (step_all s e) ∙ append_assoc s.all (e ∷ []) told

pub before_on : (past told : List Entry) → AllByRecursion NoAck told → before_judged (past ++ told) ≡ before_judged past
before_on past told all = ap (λ (s : Acknowledged). s.before) (folded-append acknowledged_step first_of past told) ∙ folded_before (folded acknowledged_step first_of past) told all

pub before_acknowledged : (past marks : List Entry) (unit : List ℕ) → is_acknowledgement unit ≡ true → AllByRecursion NoAck marks → before_judged (past ++ entry.Written Host unit ∷ marks) ≡ past
before_acknowledged past marks unit is all =
    let s : Acknowledged = folded acknowledged_step first_of past in
    ap (λ (t : Acknowledged). t.before) (folded-append acknowledged_step first_of past (entry.Written Host unit ∷ marks))
    ∙ folded_before (acknowledged_step s (entry.Written Host unit)) marks all ∙ ap (λ (b : Bool). if b then s.all else s.before) is ∙ folded_all first_of past

-- ---- what was judged here

pub record Stays (e : Entry) : Type 0 where
  pub apart : IsApart e
  pub following : (b : Bool) → after_step b e ≡ b
  pub acks : NoAck e

and_true : (b : Bool) → (b && true) ≡ b
and_true true = refl
and_true false = refl

pub mark_stays : (e : Entry) → IsOfUnit e → Stays e
mark_stays (entry.Dropped Host) is = record { apart = tt; following = and_true; acks = tt }
mark_stays (entry.Garbled Host unit) is = record { apart = tt; following = and_true; acks = tt }
mark_stays (entry.Overrun Host) is = record { apart = tt; following = and_true; acks = tt }
mark_stays e is = absurd is

pub note_stays : (e : Entry) → IsNoted e → Stays e
note_stays (entry.Said words) noted = absurd noted
note_stays (entry.Accepted command node) noted = absurd noted
note_stays (entry.Refused refusal) noted = absurd noted
note_stays (entry.Begin node session command) noted = absurd noted
note_stays (entry.Written side unit) noted = absurd noted
note_stays (entry.Dropped side) noted = absurd noted
note_stays (entry.Garbled side unit) noted = absurd noted
note_stays (entry.Overrun side) noted = absurd noted
note_stays (entry.Air frame sender receiver repeaters payload) noted = absurd noted
note_stays (entry.Heard frame) noted = absurd noted
note_stays (entry.Lost frame) noted = absurd noted
note_stays (entry.Unheard frame) noted = absurd noted
note_stays (entry.Dev node by setting) noted = absurd noted
note_stays (entry.Forget first second) noted = absurd noted
note_stays entry.ChipFull noted = absurd noted
note_stays (entry.Cleared side count) noted = absurd noted
note_stays (entry.Time tick) noted = absurd noted
note_stays e noted = record { apart = tt; following = and_true; acks = tt }

one_stays : (past : List Entry) (e : Entry) → Stays e → brought_here (past ++ e ∷ []) ≡ brought_here past
one_stays past e stays =
    ap₂ (λ (b : Bool) (l : List (List ℕ)). flat_map bringing_in (if b then last_of l else [])) (folded-append after_step false past (e ∷ []) ∙ stays.following (is_following past))
    (apart_judged past (e ∷ []) (stays.apart, tt))

pub brought_on : (past told : List Entry) → AllByRecursion Stays told → brought_here (past ++ told) ≡ brought_here past
brought_on past [] all = ap brought_here (append-nil past)
brought_on past (e ∷ told) all = ap brought_here (sym (append_assoc past (e ∷ []) told)) ∙ brought_on (past ++ e ∷ []) told all.1 ∙ one_stays past e all.0

pub none_brought : (past : List Entry) → is_following past ≡ false → brought_here past ≡ []
none_brought past none = ap (λ (b : Bool). flat_map bringing_in (if b then last_of (judged past) else [])) none

-- a frame brings one payload at most
notice_short : (notice : Notice) → (flat_map bringing_of (notice ∷ []) ≡ []) ⊎ ((one : Carried) × (flat_map bringing_of (notice ∷ []) ≡ one ∷ []))
notice_short (ApplicationCommandHandler rx_status source payload) = inr (record { node = source; payload = payload }, refl)
notice_short (SendData callback_id status) = inl refl
notice_short (ApplicationUpdate update) = inl refl
notice_short (AddNode callback_id status information) = inl refl

pub bringing_short : (unit : List ℕ) → (bringing_in unit ≡ []) ⊎ ((one : Carried) × (bringing_in unit ≡ one ∷ []))
bringing_short unit = by (is_frame unit 0) (notice_of (function_in unit) (body_in unit))
  where
    by : (b : Bool) (read : Result Notice BodyFault) → (flat_map bringing_of (if b then read_well read else []) ≡ []) ⊎ ((one : Carried) × (flat_map bringing_of (if b then read_well read else []) ≡ one ∷ []))
    by false read = inl refl
    by true (Ok notice) = notice_short notice
    by true (Err fault) = inl refl

-- ---- behind a frame

module _ (keys : Keys) where
  -- a payload that was just judged is still to be opened, where it is sealed
  to_open : (drawn : ℕ → ℕ → List ℕ) (openings : List Opened) (h : HostState) (left : List HostEvent) (past : List Entry) (carried : Carried) (heard : Heard)
      → AllByRecursion (λ one. length one.before < length (before_judged past)) openings → length (before_judged past) < length past → PayloadEvents h carried.node carried.payload heard left
      → BehindSo keys drawn openings h left past carried heard
  to_open drawn openings h left past carried Sealed later shorter events = inl (record { events = events; later = later; shorter = shorter })
  to_open drawn openings h left past carried (Messages messages) later shorter events = tt
  to_open drawn openings h left past carried Unread later shorter events = tt

  pub frame_behind : (drawn : ℕ → ℕ → List ℕ) (openings : List Opened) (h : HostState) (f : FrameParts) (left : List HostEvent) (past : List Entry)
      → AllByRecursion (λ one. length one.before < length (before_judged past)) openings → length (before_judged past) < length past → FrameEvents h f.kind f.func f.body left
      → AreBehind keys drawn openings h left past (bringing_in (unit_text (Framed f)))
  frame_behind drawn openings h f left past later shorter events =
      all-weaker (λ (carried : Carried). PayloadEvents h carried.node carried.payload (heard_at carried.payload) left) (λ carried. BehindSo keys drawn openings h left past carried (heard_at carried.payload))
      (λ carried these. to_open drawn openings h left past carried (heard_at carried.payload) later shorter these) (bringing_in (unit_text (Framed f)))
      (frame_follows h f left events)

  quiet_one : (drawn : ℕ → ℕ → List ℕ) (openings : List Opened) (h : HostState) (left : List HostEvent) (past : List Entry) (carried : Carried) (heard : Heard) → AllByRecursion TellsNothing left
      → BehindSo keys drawn openings h left past carried heard
  quiet_one drawn openings h left past carried Sealed quiet = inr (inr quiet)
  quiet_one drawn openings h left past carried (Messages messages) quiet = tt
  quiet_one drawn openings h left past carried Unread quiet = tt

  -- where no event is left that tells anything
  pub quiet_behind : (drawn : ℕ → ℕ → List ℕ) (openings : List Opened) (h : HostState) (left : List HostEvent) (past : List Entry) (brought : List Carried) → AllByRecursion TellsNothing left
      → AreBehind keys drawn openings h left past brought
  quiet_behind drawn openings h left past [] quiet = tt
  quiet_behind drawn openings h left past (carried ∷ brought) quiet =
      (quiet_one drawn openings h left past carried (heard_at carried.payload) quiet, quiet_behind drawn openings h left past brought quiet)

  -- ---- an event behind a sealed payload

  -- no more was opened: the event tells nothing, or it was opened; and so it is of those that are left
  pub record Stayed (next : ℕ → ℕ → List ℕ) (openings : List Opened) (event : HostEvent) (left : List HostEvent) (before : List Entry) (carried : Carried) : Type 0 where
    pub here : TellsNothing event ⊎ IsOpenedOnce keys next openings before carried
    pub later : IsOpenedOnce keys next openings before carried ⊎ AllByRecursion TellsNothing left

  -- it is opened, by the live nonce
  pub record Grew (next : ℕ → ℕ → List ℕ) (openings : List Opened) (event : HostEvent) (new : List Account) (past : List Entry) (carried : Carried) : Type 0 where
    pub number : ℕ
    pub quiet : TellsNothing event
    pub last : AllByRecursion (λ one. IsBefore one (record { before = before_judged past; node = carried.node; number = number })) openings
    pub shorter : length (before_judged past) < length past
    pub spent : number ≤ spent_of new carried.node
    pub opens : OpensFor keys (nonce_with next carried.node number) carried

  first_is : (event one : HostEvent) (left more : List HostEvent) → event ∷ left ≡ one ∷ more → (event ≡ one) × (left ≡ more)
  first_is event one left more is = (cc, cc)

  -- one event, which tells nothing, is all
  one_only : (next : ℕ → ℕ → List ℕ) (openings : List Opened) (event one : HostEvent) (left : List HostEvent) (before : List Entry) (carried : Carried) → TellsNothing one → event ∷ left ≡ one ∷ []
      → Stayed next openings event left before carried
  one_only next openings event one left before carried quiet is =
      let both = first_is event one left [] is in
      record { here = inl (subst TellsNothing (sym both.0) quiet); later = inr (subst (AllByRecursion TellsNothing) (sym both.1) tt) }

  none_some : (x : List ℕ) → ◌≡◌ {A = Option (List ℕ)} None (Some x) → ⊥
  none_some x e = cc

  named_live : (payload : List ℕ) (live : Option (List ℕ)) (nonce : List ℕ) → named_by payload live ≡ Some nonce → live ≡ Some nonce
  named_live payload None nonce is = absurd (none_some nonce is)
  named_live payload (Some own) nonce is = by (nat_le 20 (length payload) && (slice_index payload (length payload - 9) == slice_index own 0)) is
    where
      by : (b : Bool) → (if b then Some own else None) ≡ Some nonce → Some own ≡ Some nonce
      by true same = same
      by false same = absurd (none_some nonce same)

  live_within : (nonces : List Account) (n : ℕ) (x : List ℕ) → live_of nonces n ≡ Some x → n < length nonces
  live_within [] n x is = absurd (none_some x is)
  live_within (account ∷ nonces) zero x is = let one : length (account ∷ nonces) ≡ suc (length nonces) = refl in omega (arith, one)
  live_within (account ∷ nonces) (suc n) x is =
      let more = live_within nonces n x is in let one : length (account ∷ nonces) ≡ suc (length nonces) = refl in omega (arith, one, more)

  -- the live nonce is spent
  spends_one : (drawn next : ℕ → ℕ → List ℕ) (openings : List Opened) (h : HostState) (event : HostEvent) (past : List Entry) (carried : Carried) (nonce plain : List ℕ) → h.keys ≡ keys → LiveSo drawn h.nonces
      → Agrees drawn next h.nonces → AllByRecursion (λ one. one.number ≤ spent_of h.nonces one.node) openings → AllByRecursion (λ one. length one.before < length (before_judged past)) openings
      → length (before_judged past) < length past → live_of h.nonces carried.node ≡ Some nonce → event ≡ Spends carried.node
      → Seals h.keys (sender_nonce_in carried.payload) nonce (ends_from carried.node) plain carried.payload → Grew next openings event (after h event).nonces past carried
  spends_one drawn next openings h event past carried nonce plain same live agrees spent later shorter at is seals =
      let n : ℕ = carried.node in
      let given : ℕ = given_of h.nonces n in
      let last : IsLast drawn n nonce given = live n nonce at in
      let within : n < length h.nonces = live_within h.nonces n nonce at in
      let set : account_of (after h event).nonces n ≡ record (account_of h.nonces n) { live = None } =
      ap (λ (e : HostEvent). account_of (after h e).nonces n) is ∙ get_or-set_same h.nonces n (record (account_of h.nonces n) { live = None }) unused within in
      let now : spent_of (after h event).nonces n ≡ given = ap (λ (a : Account). spent_by a.live a.given) set in
      let before_spent : spent_of h.nonces n ≡ given - 1 = ap (λ (l : Option (List ℕ)). spent_by l given) at in
      let text : nonce ≡ nonce_with next n given = last.is ∙ ap (λ (b : List ℕ). given % 256 ∷ b) (sym (agrees n given (omega arith))) in
      let some = last.some in
      record {
        number = given;
        quiet = subst TellsNothing (sym is) tt;
        last = all-both (λ one. one.number ≤ spent_of h.nonces one.node) (λ one. length one.before < length (before_judged past)) (λ one. IsBefore one (record { before = before_judged past; node = n; number = given }))
            (λ one less long. record {
              judged = long;
              above = λ of.
                  let there : one.number ≤ spent_of h.nonces n = subst (λ (k : ℕ). one.number ≤ spent_of h.nonces k) (sym of) less in
                  omega (arith, there, before_spent, some);
            }) openings spent later;
        shorter = shorter;
        spent = omega (arith, now);
        opens = record {
          plain = plain;
          seals = subst (λ (x : List ℕ). Seals keys (sender_nonce_in carried.payload) x (ends_from n) plain carried.payload) text
              (subst (λ (k : Keys). Seals k (sender_nonce_in carried.payload) nonce (ends_from n) plain carried.payload) same seals);
        };
      }

  pub sealed_next : (drawn next : ℕ → ℕ → List ℕ) (openings : List Opened) (h : HostState) (event : HostEvent) (left : List HostEvent) (past : List Entry) (carried : Carried) → h.keys ≡ keys
      → LiveSo drawn h.nonces → Agrees drawn next h.nonces → AllByRecursion (λ one. one.number ≤ spent_of h.nonces one.node) openings → Changes drawn next openings openings
      → BehindSo keys drawn openings h (event ∷ left) past carried Sealed
      → Stayed next openings event left (before_judged past) carried ⊎ Grew next openings event (after h event).nonces past carried
  sealed_next drawn next openings h event left past carried same live agrees spent changes (inr (inl once)) =
      let on = once_on keys drawn next openings openings changes (before_judged past) carried once in inl (record { here = inr on; later = inl on })
  sealed_next drawn next openings h event left past carried same live agrees spent changes (inr (inr quiet)) = inl (record { here = inl quiet.0; later = inr quiet.1 })
  sealed_next drawn next openings h event left past carried same live agrees spent changes (inl to) = by (named_by carried.payload (live_of h.nonces carried.node)) refl to.events
    where
      by : (named : Option (List ℕ)) → named_by carried.payload (live_of h.nonces carried.node) ≡ named → SealedEvents h carried.node carried.payload named (event ∷ left)
          → Stayed next openings event left (before_judged past) carried ⊎ Grew next openings event (after h event).nonces past carried
      by None at is = inl (one_only next openings event (Unreads carried.node carried.payload) left (before_judged past) carried tt is)
      by (Some nonce) at (inl is) = inl (one_only next openings event (Is_unkept carried.node) left (before_judged past) carried tt is)
      by (Some nonce) at (inr (inl vain)) = inl (one_only next openings event (Spends_unread carried.node carried.payload) left (before_judged past) carried tt vain.1)
      by (Some nonce) at (inr (inr (messages, rest, opens, are, taken))) =
          inr (spends_one drawn next openings h event past carried nonce opens.plain same live agrees spent to.later to.shorter (named_live carried.payload (live_of h.nonces carried.node) nonce at)
          (first_is event (Spends carried.node) left rest are).0 opens.seals)

-- ---- what opened, with further entries

module _ (keys : Keys) (drawn next : ℕ → ℕ → List ℕ) (here : Phase) (past told : List Entry) (h now : HostState) (agrees : Agrees drawn next h.nonces) (grown : (k : ℕ) → Grown h.nonces now.nonces k)
    (was : OpenedSo keys drawn here past h) where
  low : (one : Opened) → Has was.openings one → one.number ≤ given_of h.nonces one.node
  low one has =
      let less = all_has (λ one. one.number ≤ spent_of h.nonces one.node) was.openings one was.spent has in let most = spent_given h.nonces one.node in omega (arith, less, most)

  pub no_more : Changes drawn next was.openings was.openings
  no_more = record { keeps = λ one has. (has, agrees one.node one.number (low one has)) }

  one_more : (more : Opened) → Changes drawn next was.openings (was.openings ++ more ∷ [])
  one_more more = record { keeps = λ one has. (has_left was.openings (more ∷ []) one has, agrees one.node one.number (low one has)) }

  longer : (n : ℕ) → n < length past → n < length (past ++ told)
  longer n less = let long = length-append past told in omega (arith, less, long)

  early : AllByRecursion (λ one. length one.before < length (past ++ told)) was.openings
  early = all-weaker (λ one. length one.before < length past) (λ one. length one.before < length (past ++ told)) (λ one less. longer (length one.before) less) was.openings was.early

  spent : AllByRecursion (λ one. one.number ≤ spent_of now.nonces one.node) was.openings
  spent = all-weaker (λ one. one.number ≤ spent_of h.nonces one.node) (λ one. one.number ≤ spent_of now.nonces one.node) (λ one less. let more = (grown one.node).spent in omega (arith, less, more)) was.openings was.spent

  pub opened_on : (phase : Phase) → EachAfter (MayTell keys next was.openings) past told → AtPhase phase keys next was.openings (past ++ told) now → OpenedSo keys next phase (past ++ told) now
  opened_on phase tells at = record {
    openings = was.openings;
    apart = was.apart;
    early = early;
    spent = spent;
    tells = each-append (MayTell keys next was.openings) [] past told (tells_on keys drawn next was.openings was.openings no_more [] past was.tells) tells;
    behind = at;
  }

  pub opened_more : (phase : Phase) (one : Opened) → AllByRecursion (λ other. IsBefore other one) was.openings → length one.before < length past → one.number ≤ spent_of now.nonces one.node
      → AllByRecursion NoTell told → AtPhase phase keys next (was.openings ++ one ∷ []) (past ++ told) now → OpenedSo keys next phase (past ++ told) now
  opened_more phase one last shorter less quiet at = record {
    openings = was.openings ++ one ∷ [];
    apart = ordered-last IsBefore was.openings one was.apart last;
    early = all-append (λ one. length one.before < length (past ++ told)) was.openings (one ∷ []) early (longer (length one.before) shorter, tt);
    spent = all-append (λ one. one.number ≤ spent_of now.nonces one.node) was.openings (one ∷ []) spent (less, tt);
    tells = each-append (MayTell keys next (was.openings ++ one ∷ [])) [] past told (tells_on keys drawn next was.openings (was.openings ++ one ∷ []) (one_more one) [] past was.tells)
        (tells_none keys next (was.openings ++ one ∷ []) past told quiet);
    behind = at;
  }
