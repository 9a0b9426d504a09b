-- What a payload that a host takes has it note, one event after another, is what the transcript asks.
use Rattle.std.proofs.Common.{◌≡◌, ℕ, Bool, true, false, inl, inr, List, [], ◌∷◌, ◌++◌, refl, sym, ap, ◌∙◌, subst, append-nil, append_assoc}
use Rattle.std.specs.Prelude.{Option, Some, None, Result, Ok, Err}
use Rattle.std.specs.List.{AllByRecursion}
use Rattle.zw_base.specs.declared.property.Setting.{Setting}
use Rattle.s0_crypto.specs.declared.key_pair.Keys.{Keys}
use Rattle.s0_crypto.specs.Opening.{sender_nonce_in}
use Rattle.s0_crypto.specs.Seal.{Seals}
use Rattle.s0_session.specs.Nonces.{live_of}
use Rattle.serial_frame.specs.Frame.{FrameParts, checksum, framed, kind_code}
use Rattle.serial_frame.specs.Items.{unit_text}
use Rattle.serial_frame.specs.declared.frame.Kind.{Kind}
use Rattle.serial_frame.specs.declared.frame.Kind.TheVariants as kind
use Rattle.serial_frame.specs.declared.unit.Unit.TheVariants.{Framed}
use Rattle.chip_functions.specs.Notice.{notice_of}
use Rattle.chip_functions.specs.declared.fault.BodyFault.{BodyFault}
use Rattle.chip_functions.specs.declared.notice.Notice.{Notice}
use Rattle.chip_functions.specs.declared.notice.Notice.TheVariants.{ApplicationCommandHandler, SendData, ApplicationUpdate, AddNode}
use Rattle.class_info.specs.declared.report_status.ReportStatus.{ReportStatus}
use Rattle.class_info.specs.declared.report_status.ReportStatus.TheVariants as statuses
use Rattle.zw_text.specs.declared.entry.Entry.{Entry}
use Rattle.zw_text.specs.declared.entry.Entry.TheVariants as entry
use Rattle.law_transcript.specs.Units.{Carried, bringing_in}
use Rattle.host_heard.specs.Telling.{heard_at}
use Rattle.host_heard.specs.declared.payload.Heard.{Heard}
use Rattle.host_heard.specs.declared.payload.Heard.TheVariants.{Messages, Sealed, Unread}
use Rattle.host_heard.specs.declared.told.Told.{Told}
use Rattle.host_heard.specs.declared.told.Told.TheVariants.{Report, NonceGet, NonceReport, Notification, SegmentRequest, Values}
use Rattle.host_model.specs.State.{HostState}
use Rattle.host_model.specs.After.{after}
use Rattle.host_model.specs.Did.{after_all}
use Rattle.host_model.specs.Events.{HostEvent, Unreads, Is_unkept, Spends, Spends_unread}
use Rattle.host_model.specs.Outs.{outs}
use Rattle.host_model.specs.Taking.{AreTaken, FrameEvents, IsOpened, IsTaken, NoticeEvents, OpensTo as HostOpens, PayloadEvents, SealedEvents, ends_from, named_by, value_event, value_events}
use Rattle.proof_known.proofs.Followed.{brought_of, text_brings}
use Rattle.proof_known.specs.law_host.Messages.{Hearing, is_of_open}
use Rattle.proof_known.specs.proof_alone.Steps.{AreTold}
use Rattle.proof_notes.specs.Ties.{Ties}
use Rattle.proof_notes.specs.Full.{EndNotes, MessageNotes, MessagesNotes, OpensTo, PayloadNotes, ReportNotes, hearing_of, is_openly, value_note, value_notes}
use Rattle.proof_notes.proofs.ByMessage.{One, note_told, one_message, value_told}

-- ---- some notes there are

end_some : (hearing : Hearing) (past : List Entry) (status : ReportStatus) (wake : Bool) → (some : List Entry) × EndNotes hearing past status wake some
end_some hearing past statuses.Working wake = ([], refl)
end_some hearing past statuses.Success wake = (_, inl refl)
end_some hearing past statuses.Fail wake = (_, inl refl)
end_some hearing past statuses.NoSupport wake = (_, inl refl)

report_some : (hearing : Hearing) (past : List Entry) (id : ℕ) (status : ReportStatus) (wake openly of_open : Bool) → (some : List Entry) × ReportNotes hearing past id status wake openly of_open some
report_some hearing past id status wake true of_open = (entry.Unread hearing.node hearing.payload ∷ [], refl)
report_some hearing past id status wake false true = end_some hearing past status wake
report_some hearing past id status wake false false = (entry.Old hearing.node id ∷ [], refl)

message_some : (hearing : Hearing) (past : List Entry) (message : Told) → (some : List Entry) × MessageNotes hearing past message some
message_some hearing past (Report id status wake) = report_some hearing past id status wake (is_openly hearing past) (is_of_open hearing.node past id)
message_some hearing past NonceGet = ([], inl (inl refl))
message_some hearing past (NonceReport nonce) = ([], inl refl)
message_some hearing past Notification = (entry.Awake hearing.node ∷ [], refl)
message_some hearing past (SegmentRequest id offset) = ([], inl refl)
message_some hearing past (Values settings) = (value_notes hearing.node past settings, refl)

pub messages_some : (hearing : Hearing) (past : List Entry) (messages : List Told) → (some : List Entry) × MessagesNotes hearing past messages some
messages_some hearing past [] = ([], refl)
messages_some hearing past (message ∷ more) =
    let (first, are) = message_some hearing past message in
    let (rest, others) = messages_some hearing (past ++ first) more in
    (first ++ rest, (first, rest, refl, are, others))

-- ---- lists of events

both_none : (first rest : List HostEvent) → [] ≡ first ++ rest → (first ≡ []) × (rest ≡ [])
both_none [] rest is = (refl, sym is)
both_none (event ∷ first) rest is = absurd (let bad : [] ≡ event ∷ (first ++ rest) = is in cc)

-- the first event of some, and those after it
first_is : (event one : HostEvent) (left more : List HostEvent) → event ∷ left ≡ one ∷ more → (event ≡ one) × (left ≡ more)
first_is event one left more is = (cc, cc)

some_events : (event : HostEvent) (left : List HostEvent) → event ∷ left ≡ [] → ⊥
some_events event left is = cc

module _ (n : ℕ) (payload : List ℕ) (sealed : Bool) where
  -- these messages are left, with these events, and what they have noted completes what the others had
  pub record Goes (past : List Entry) (h : HostState) (messages : List Told) (event : HostEvent) (left : List HostEvent) (some : List Entry) : Type 0 where
    pub more : List Told
    pub taken : AreTaken (after h event) n payload sealed more left
    pub completes : (rest : List Entry) → MessagesNotes (hearing_of n payload sealed) (past ++ some) more rest → MessagesNotes (hearing_of n payload sealed) past messages (some ++ rest)

  -- a message that has nothing noted goes before
  skips : (past : List Entry) (h : HostState) (message : Told) (more : List Told) (event : HostEvent) (left : List HostEvent) (some : List Entry)
      → MessageNotes (hearing_of n payload sealed) past message [] → Goes past h more event left some → Goes past h (message ∷ more) event left some
  skips past h message more event left some quiet goes = record {
    more = goes.more;
    taken = goes.taken;
    completes = λ rest got. (
      [],
      some ++ rest,
      refl,
      quiet,
      subst (λ (l : List Entry). MessagesNotes (hearing_of n payload sealed) l more (some ++ rest)) (sym (append-nil past)) (goes.completes rest got),
    );
  }

  -- one that has this noted is over
  ends : (past : List Entry) (h : HostState) (message : Told) (more : List Told) (event : HostEvent) (left : List HostEvent) (some : List Entry)
      → MessageNotes (hearing_of n payload sealed) past message some → AreTaken (after h event) n payload sealed more left → Goes past h (message ∷ more) event left some
  ends past h message more event left some loud taken = record { more = more; taken = taken; completes = λ rest got. (some, rest, refl, loud, got) }

  -- a value is noted, and others of its message are to come
  value_goes : (past : List Entry) (h : HostState) (s : Setting) (settings : List Setting) (more : List Told) (event : HostEvent) (left : List HostEvent) (some : List Entry)
      → some ≡ value_note past n s ∷ [] → AreTaken (after h event) n payload sealed (Values settings ∷ more) left → Goes past h (Values (s ∷ settings) ∷ more) event left some
  value_goes past h s settings more event left some noted taken = record {
    more = Values settings ∷ more;
    taken = taken;
    completes = λ rest got.
        let (first, others, are, values, goes_on) = got in (
          some ++ first,
          others,
          ap (λ (l : List Entry). some ++ l) are ∙ sym (append_assoc some first others),
          ap (λ (l : List Entry). some ++ l) (values ∙ ap (λ (l : List Entry). value_notes n (past ++ l) settings) noted)
              ∙ ap (λ (l : List Entry). l ++ value_notes n (past ++ value_note past n s ∷ []) settings) noted,
          subst (λ (l : List Entry). MessagesNotes (hearing_of n payload sealed) l more others) (append_assoc past some first) goes_on,
        );
  }

  pub messages_go : (past : List Entry) (h : HostState) → Ties past h → (messages : List Told) (event : HostEvent) (left : List HostEvent) (some : List Entry)
      → AreTaken h n payload sealed messages (event ∷ left) → AreTold (outs h event) some → Goes past h messages event left some
  messages_go past h ties [] event left some are told = absurd (some_events event left are)
  messages_go past h ties (Values [] ∷ more) event left some (first, rest, are, first_none, others) told =
      skips past h (Values []) more event left some refl (messages_go past h ties more event left some (moved first rest first_none are others) told)
    where
      moved : (first rest : List HostEvent) → first ≡ [] → event ∷ left ≡ first ++ rest → AreTaken (after_all h first) n payload sealed more rest → AreTaken h n payload sealed more (event ∷ left)
      moved first rest none are others =
          subst (λ (l : List HostEvent). AreTaken h n payload sealed more l) (sym (are ∙ ap (λ (l : List HostEvent). l ++ rest) none))
          (subst (λ (l : List HostEvent). AreTaken (after_all h l) n payload sealed more rest) none others)
  messages_go past h ties (Values (s ∷ settings) ∷ more) event left some (first, rest, are, values, others) told =
      let one : HostEvent = value_event h n s in
      let later : List HostEvent = value_events (after h one) n settings in
      let (same, left_is) = first_is event one left (later ++ rest) (are ∙ ap (λ (l : List HostEvent). l ++ rest) values) in
      let taken : AreTaken (after h one) n payload sealed (Values settings ∷ more) (later ++ rest) =
      (later, rest, refl, refl, subst (λ (l : List HostEvent). AreTaken (after_all h l) n payload sealed more rest) values others) in
      value_goes past h s settings more event left some (value_told past h ties n payload s some (subst (λ (e : HostEvent). AreTold (outs h e) some) same told))
      (subst (λ (l : List HostEvent). AreTaken (after h event) n payload sealed (Values settings ∷ more) l) (sym left_is)
      (subst (λ (e : HostEvent). AreTaken (after h e) n payload sealed (Values settings ∷ more) (later ++ rest)) (sym same) taken))
  messages_go past h ties (message ∷ more) event left some (first, rest, are, first_is_so, others) told =
      by (one_message past h ties n payload sealed message first tt first_is_so) (λ none. messages_go past h ties more event left some (moved none) told)
    where
      moved : first ≡ [] → AreTaken h n payload sealed more (event ∷ left)
      moved none =
          subst (λ (l : List HostEvent). AreTaken h n payload sealed more l) (sym (are ∙ ap (λ (l : List HostEvent). l ++ rest) none))
          (subst (λ (l : List HostEvent). AreTaken (after_all h l) n payload sealed more rest) none others)

      by : One (MessageNotes (hearing_of n payload sealed) past message) h first → (first ≡ [] → Goes past h more event left some) → Goes past h (message ∷ more) event left some
      by (inl (none, quiet)) later = skips past h message more event left some quiet (later none)
      by (inr (one, is, loud)) later =
          let (same, left_is) = first_is event one left rest (are ∙ ap (λ (l : List HostEvent). l ++ rest) is) in
          ends past h message more event left some (loud some (subst (λ (e : HostEvent). AreTold (outs h e) some) same told))
          (subst (λ (l : List HostEvent). AreTaken (after h event) n payload sealed more l) (sym left_is)
          (subst (λ (e : HostEvent). AreTaken (after h e) n payload sealed more rest) (sym same)
          (subst (λ (l : List HostEvent). AreTaken (after_all h l) n payload sealed more rest) is others)))

  -- ---- where no event is left

  message_over : (past : List Entry) (h : HostState) → Ties past h → (message : Told) → IsTaken h n payload sealed message [] → MessageNotes (hearing_of n payload sealed) past message []
  message_over past h ties (Values []) is = refl
  message_over past h ties (Values (s ∷ settings)) is = absurd (let bad : [] ≡ value_event h n s ∷ value_events (after h (value_event h n s)) n settings = is in cc)
  message_over past h ties message is = by (one_message past h ties n payload sealed message [] tt is)
    where
      by : One (MessageNotes (hearing_of n payload sealed) past message) h [] → MessageNotes (hearing_of n payload sealed) past message []
      by (inl (none, quiet)) = quiet
      by (inr (one, is_so, loud)) = absurd (let bad : [] ≡ one ∷ [] = is_so in cc)

  pub messages_over : (past : List Entry) (h : HostState) → Ties past h → (messages : List Told) → AreTaken h n payload sealed messages [] → MessagesNotes (hearing_of n payload sealed) past messages []
  messages_over past h ties [] are = refl
  messages_over past h ties (message ∷ more) (first, rest, are, is, others) =
      let (none, no_more) = both_none first rest are in (
        [],
        [],
        refl,
        message_over past h ties message (subst (λ (l : List HostEvent). IsTaken h n payload sealed message l) none is),
        subst (λ (l : List Entry). MessagesNotes (hearing_of n payload sealed) l more []) (sym (append-nil past))
            (messages_over past h ties more
            (subst (λ (l : List HostEvent). AreTaken h n payload sealed more l) no_more
            (subst (λ (l : List HostEvent). AreTaken (after_all h l) n payload sealed more rest) none others))),
      )

-- ---- a payload

module _ (keys : Keys) (n : ℕ) (payload : List ℕ) where
  -- some messages of it are left, sealed or not
  pub record Taking (past : List Entry) (h : HostState) (heard : Heard) (event : HostEvent) (left : List HostEvent) (some : List Entry) : Type 0 where
    pub sealed : Bool
    pub more : List Told
    pub taken : AreTaken (after h event) n payload sealed more left
    pub completes : (rest : List Entry) → MessagesNotes (hearing_of n payload sealed) (past ++ some) more rest → PayloadNotes keys n payload past heard (some ++ rest)

  -- one event, with its note, is all
  one_event : (past : List Entry) (h : HostState) (heard : Heard) (event one : HostEvent) (left : List HostEvent) (some : List Entry) → event ∷ left ≡ one ∷ [] → PayloadNotes keys n payload past heard some
      → Taking past h heard event left some
  one_event past h heard event one left some are noted = record {
    sealed = false;
    more = [];
    taken = (first_is event one left [] are).1;
    completes = λ rest none. subst (λ (l : List Entry). PayloadNotes keys n payload past heard (some ++ l)) (sym none) (subst (PayloadNotes keys n payload past heard) (sym (append-nil some)) noted);
  }

  told_as : (h : HostState) (event one : HostEvent) (left : List HostEvent) (some : List Entry) → event ∷ left ≡ one ∷ [] → AreTold (outs h event) some → AreTold (outs h one) some
  told_as h event one left some are told = subst (λ (e : HostEvent). AreTold (outs h e) some) (first_is event one left [] are).0 told

  opened_goes : (past : List Entry) (h : HostState) → Ties past h → h.keys ≡ keys → (nonce : List ℕ) (event : HostEvent) (left : List HostEvent) (some : List Entry)
      → IsOpened h n nonce payload (event ∷ left) → AreTold (outs h event) some → Taking past h Sealed event left some
  opened_goes past h ties same nonce event left some (inl are) told =
      one_event past h Sealed event (Is_unkept n) left some are (inr (inl (note_told (entry.Unkept n) some (told_as h event (Is_unkept n) left some are told))))
  opened_goes past h ties same nonce event left some (inr (inl (vain, are))) told =
      one_event past h Sealed event (Spends_unread n payload) left some are (inl (note_told (entry.Unread n payload) some (told_as h event (Spends_unread n payload) left some are told)))
  opened_goes past h ties same nonce event left some (inr (inr (messages, rest, to, are, taken))) told =
      let (event_is, left_is) = first_is event (Spends n) left rest are in
      let none : some ≡ [] = subst (λ (e : HostEvent). AreTold (outs h e) some) event_is told in
      record {
        sealed = true;
        more = messages;
        taken = subst (λ (l : List HostEvent). AreTaken (after h event) n payload true messages l) (sym left_is)
            (subst (λ (e : HostEvent). AreTaken (after h e) n payload true messages rest) (sym event_is) taken);
        completes = λ more got.
            let here : MessagesNotes (hearing_of n payload true) past messages more =
            subst (λ (l : List Entry). MessagesNotes (hearing_of n payload true) l messages more) (ap (λ (l : List Entry). past ++ l) none ∙ append-nil past) got in
            inr (inr (messages, opens to, subst (λ (l : List Entry). MessagesNotes (hearing_of n payload true) past messages (l ++ more)) (sym none) here));
      }
    where
      opens : HostOpens h n nonce payload messages → OpensTo keys n payload messages
      opens to =
          record { nonce = nonce; plain = to.plain; seals = subst (λ (k : Keys). Seals k (sender_nonce_in payload) nonce (ends_from n) to.plain payload) same to.seals; tells = to.tells }

  pub payload_goes : (past : List Entry) (h : HostState) → Ties past h → h.keys ≡ keys → (heard : Heard) (event : HostEvent) (left : List HostEvent) (some : List Entry)
      → PayloadEvents h n payload heard (event ∷ left) → AreTold (outs h event) some → Taking past h heard event left some
  payload_goes past h ties same (Messages messages) event left some are told =
      let goes = messages_go n payload false past h ties messages event left some are told in
      record { sealed = false; more = goes.more; taken = goes.taken; completes = goes.completes }
  payload_goes past h ties same Unread event left some are told =
      one_event past h Unread event (Unreads n payload) left some are (note_told (entry.Unread n payload) some (told_as h event (Unreads n payload) left some are told))
  payload_goes past h ties same Sealed event left some are told = by (named_by payload (live_of h.nonces n)) are
    where
      by : (named : Option (List ℕ)) → SealedEvents h n payload named (event ∷ left) → Taking past h Sealed event left some
      by None these =
          one_event past h Sealed event (Unreads n payload) left some these (inl (note_told (entry.Unread n payload) some (told_as h event (Unreads n payload) left some these told)))
      by (Some nonce) these = opened_goes past h ties same nonce event left some these told

  pub payload_over : (past : List Entry) (h : HostState) → Ties past h → (heard : Heard) → PayloadEvents h n payload heard [] → PayloadNotes keys n payload past heard []
  payload_over past h ties (Messages messages) are = messages_over n payload false past h ties messages are
  payload_over past h ties Unread are = absurd (let bad : [] ≡ Unreads n payload ∷ [] = are in cc)
  payload_over past h ties Sealed are = absurd (by (named_by payload (live_of h.nonces n)) are)
    where
      by : (named : Option (List ℕ)) → SealedEvents h n payload named [] → ⊥
      by None these = let bad : [] ≡ Unreads n payload ∷ [] = these in cc
      by (Some nonce) (inl these) = let bad : [] ≡ Is_unkept n ∷ [] = these in cc
      by (Some nonce) (inr (inl (vain, these))) = let bad : [] ≡ Spends_unread n payload ∷ [] = these in cc
      by (Some nonce) (inr (inr (messages, rest, to, these, taken))) = let bad : [] ≡ Spends n ∷ rest = these in cc

-- ---- a frame

abbrev pub AllFollow : HostState → List HostEvent → List Carried → Type 0
AllFollow h events brought = AllByRecursion (λ (carried : Carried). PayloadEvents h carried.node carried.payload (heard_at carried.payload) events) brought

notice_follows : (h : HostState) (read : Result Notice BodyFault) (events : List HostEvent) → NoticeEvents h read events → AllFollow h events (brought_of read)
notice_follows h (Ok (ApplicationCommandHandler rx_status source payload)) events is = (is, tt)
notice_follows h (Ok (SendData callback_id status)) events is = tt
notice_follows h (Ok (ApplicationUpdate update)) events is = tt
notice_follows h (Ok (AddNode callback_id status information)) events is = tt
notice_follows h (Err fault) events is = tt

kind_follows : (h : HostState) (k : Kind) (func : ℕ) (body : List ℕ) (sum : ℕ) (events : List HostEvent) → FrameEvents h k func body events
    → AllFollow h events (bringing_in (framed (kind_code k ∷ func ∷ body) sum))
kind_follows h kind.Response func body sum events is = tt
kind_follows h kind.Request func body sum events is =
    subst (AllFollow h events) (sym (text_brings func body sum)) (notice_follows h (notice_of func body) events is)

pub frame_follows : (h : HostState) (f : FrameParts) (events : List HostEvent) → FrameEvents h f.kind f.func f.body events → AllFollow h events (bringing_in (unit_text (Framed f)))
frame_follows h f events is = kind_follows h f.kind f.func f.body (checksum (kind_code f.kind ∷ f.func ∷ f.body)) events is
