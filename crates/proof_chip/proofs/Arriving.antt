-- The count of the frames for the host goes on where a frame of the controller arrives: its fate is told first, then what a device does, and then it ends.
use Rattle.std.proofs.Common.{◌≡◌, ℕ, suc, ◌+◌, ◌<◌, ◌==◌, Bool, true, false, if◌then◌else◌, List, [], ◌∷◌, ◌++◌, filter, length, refl, sym, ap, ap₂, ◌∙◌, subst, append-nil, append_assoc, arith}
use Rattle.std.proofs.lemmas.List.{length-map}
use Rattle.std.specs.Prelude.{Option, Some, None}
use Rattle.std.specs.Option.{unwrap_or}
use Rattle.std.specs.List.{AllByRecursion}
use Rattle.zw_base.proofs.Each.{all-append, all-weaker}
use Rattle.serial_link.specs.Rules.{Step}
use Rattle.route_table.specs.Network.{linked}
use Rattle.chip_functions.specs.Notice.{status_of}
use Rattle.chip_functions.specs.declared.notice.TransmitStatus.{TransmitStatus}
use Rattle.chip_functions.specs.declared.notice.TransmitStatus.TheVariants.{NoAck, Fail}
use Rattle.chip_sim.specs.Events.{Forgets, after}
use Rattle.chip_sim.specs.Waiting.{PortState}
use Rattle.mesh_sim.specs.Fates.{place_of}
use Rattle.mesh_sim.specs.declared.event.AirEvent.{AirEvent}
use Rattle.mesh_sim.specs.declared.event.AirEvent.TheVariants as tells_of
use Rattle.zw_text.specs.declared.entry.Entry.{Entry}
use Rattle.zw_text.specs.declared.entry.Entry.TheVariants as entry
use Rattle.law_transcript.specs.Fates.{first_fate}
use Rattle.law_transcript.specs.Nodes.{controller}
use Rattle.law_transcript.specs.Restarts.{repeats}
use Rattle.law_wire.specs.Asked.{Course, Sending, last_sending}
use Rattle.law_wire.specs.Results.{Called, ended_at, ended_by, is_outward, sent_as, status_heard}
use Rattle.law_wire.specs.Given.{Given, handlers_at}
use Rattle.outside_model.specs.Devices.{State}
use Rattle.outside_model.specs.State.{OuterState, Outcome, each, silent, tells, with_chip}
use Rattle.outside_model.specs.Air.{change_at, change_entries, deals}
use Rattle.outside_model.specs.Results.{device_at, forgets, frame_ends}
use Rattle.proof_air.proofs.Entered.{IsChange, change_entered}
use Rattle.proof_line.proofs.ChipAccounts.{all_account, calls_account, ends_account, forgets_account, steps_by}
use Rattle.proof_chip.specs.Tally.{AreNumbered, Outlook, TallyBefore, TallyNow, TallySo, outlook}
use Rattle.proof_chip.proofs.Finishing.{Finishes, Sees, calls_t}
use Rattle.proof_chip.proofs.Growing.{serves_aside}
use Rattle.proof_chip.proofs.Numbering.{with_number}
use Rattle.proof_chip.proofs.Standing.{few_stand}
use Rattle.proof_chip.proofs.Asides.{AreUnrelated, IsUnrelated, change_unrelated}
use Rattle.proof_chip.proofs.Tallied.{apart_t, before_stays, both_so, forgets_t, now_stays}
use Rattle.proof_chip.proofs.Fating.{IsFate, before_lands, now_again}
use Rattle.proof_chip.proofs.Telling.{IsAside}

-- ---- by the transcript

-- so many results come of a fate of the controller's frame
sent_many : (status : TransmitStatus) (course : Course) (past : List Entry) (number : ℕ) → is_outward past number ≡ true
    → length (ended_by status (sent_as course past number)) ≡ length (with_number number (last_sending course past))
sent_many status course past number own =
    length-map (sent_as course past number) (λ (sending : Sending). record { sending = sending; status = status })
    ∙ ap (λ (b : Bool). length (if b then filter (λ (sending : Sending). sending.frame == number) (last_sending course past) else [])) own

none_plus : (n : ℕ) → 0 + n ≡ n
none_plus n = omega arith

abbrev pub BringsOwn : List Entry → Entry → ℕ → Type 0
BringsOwn past e number = (course : Course) → length (handlers_at past e) + length (ended_at course past e) ≡ length (with_number number (last_sending course past))

pub lost_brings : (past : List Entry) (number : ℕ) → is_outward past number ≡ true → BringsOwn past (entry.Lost number) number
lost_brings past number own course = none_plus _ ∙ sent_many NoAck course past number own

pub unheard_brings : (past : List Entry) (number : ℕ) → is_outward past number ≡ true → BringsOwn past (entry.Unheard number) number
unheard_brings past number own course = none_plus _ ∙ sent_many NoAck course past number own

pub heard_brings : (past : List Entry) (number : ℕ) → repeats past ≡ false → is_outward past number ≡ true → handlers_at past (entry.Heard number) ≡ [] → BringsOwn past (entry.Heard number) number
heard_brings past number is own none course =
    ap₂ (λ (l : List Given) (n : ℕ). length l + n) none
    (ap (λ (b : Bool). length (if b then [] else ended_by (status_heard past) (sent_as course past number))) is ∙ sent_many (status_heard past) course past number own)
    ∙ none_plus _

pub fate_aside : (e : Entry) → IsFate e → IsAside e
fate_aside (entry.Written side unit) fate = absurd fate
fate_aside entry.ChipFull fate = absurd fate
fate_aside e fate = tt

-- ---- what a device does

-- it is told of the air alone, and tells nothing of the chip
abbrev pub IsPlain : AirEvent → Type 0
IsPlain (tells_of.Sent number from to route payload) = (from == controller) ≡ false
IsPlain (tells_of.Changed node at) = Unit {0}
IsPlain event = ⊥

abbrev pub ArePlain : List AirEvent → Type 0
ArePlain events = AllByRecursion IsPlain events

module _ (devices : List State) (v : Outlook) (left number : ℕ) (numbers : List ℕ) where
  abbrev Still : ℕ → ℕ → Course → List Entry → Type 0
  Still coming = TallyBefore devices v true left false coming

  abbrev EndsIn : ℕ → (x : Outcome) → List Step → PortState → Type 0
  EndsIn coming x steps port =
      (did : List Step) (past : List Entry) → TallySo (Still coming) did past port
      → TallySo (TallyBefore devices (outlook x.outer) true left false 0) (did ++ steps) (past ++ x.entries) x.outer.chip.state.port

  -- ---- a frame of the controller ends

  forgot_if : (b : Bool) (o : OuterState) (hop : ℕ × ℕ) → Sees devices v left number numbers o
      → Sees devices v left number numbers (if b then tells (with_chip o (after o.chip.state (Forgets hop.0 hop.1))) (entry.Forget hop.0 hop.1 ∷ []) else silent o).outer
  forgot_if true o hop sees = record {
    sending = sees.sending;
    by_frame = sees.by_frame;
    infos = sees.infos;
    clock = sees.clock;
    own = sees.own;
    rest = sees.rest;
    each_call = sees.each_call;
    flies = sees.flies;
  }
  forgot_if false o hop sees = sees

  pub forgot : (o : OuterState) (dead : Option (ℕ × ℕ)) → Sees devices v left number numbers o → Sees devices v left number numbers (forgets o dead).outer
  forgot o None sees = sees
  forgot o (Some hop) sees = forgot_if (linked o.chip.state.table hop.0 hop.1) o hop sees

  pub ends_t : (o : OuterState) (status : ℕ) (dead : Option (ℕ × ℕ)) → Sees devices v left number numbers o → AllByRecursion (λ (n : ℕ). number < n) numbers
      → Finishes devices v left number numbers o (frame_ends o status dead) (steps_by (ends_account o status dead))
  ends_t o status dead sees above =
      let q : OuterState = (forgets o dead).outer in
      let done : TransmitStatus = unwrap_or (status_of status) Fail in
      let got = calls_t devices v left number numbers q done (forgot o dead sees) above in
      record {
        coming = got.coming;
        many = got.many;
        goes = λ did past so.
            both_so devices (TallyBefore devices (outlook (frame_ends o status dead).outer) true left false 0) did (steps_by (forgets_account o dead)) (steps_by (calls_account q done)) past (forgets o dead).entries _
            (frame_ends o status dead).outer.chip.state.port
            (got.goes (did ++ steps_by (forgets_account o dead)) (past ++ (forgets o dead).entries)
            (forgets_t devices false (Still got.coming) (before_stays devices v true left false got.coming) did past o dead refl so));
      }

  -- ---- its fate

  fated_t : (coming : ℕ) → ((sendings : List Sending) → AreNumbered v.sending v.by_frame v.numbers sendings → length (with_number number sendings) ≡ coming) → (e : Entry) → IsFate e → (did : List Step) (past : List Entry) (port : PortState)
      → first_fate past e ≡ number ∷ [] → BringsOwn past e number → TallySo (TallyBefore devices v true (suc left) false 0) did past port → TallySo (Still coming) did (past ++ e ∷ []) port
  fated_t coming many e fate did past port first brings (frames, serves, are) = (
    frames,
    serves_aside did frames past (e ∷ []) port port (fate_aside e fate, tt) refl refl serves,
    λ course goes.
        let was = are course goes in
        subst (λ (n : ℕ). TallyBefore devices v true left false n (length frames) course (past ++ e ∷ [])) (brings course ∙ many (last_sending course past) was.numbered)
        (before_lands devices course past v left (length frames) e number fate first (few_stand devices did frames past port serves course goes) was),
  )

  -- ---- what comes between

  -- entries of it, and then the rest
  plain_by : (there : List State) (coming : ℕ) (o : OuterState) (events : List AirEvent) → EndsIn coming (each (deals there) o events) (steps_by (all_account there events o)) o.chip.state.port
      → (told : List Entry) → AreUnrelated told → (did : List Step) (past : List Entry) → TallySo (Still coming) did past o.chip.state.port
      → TallySo (TallyBefore devices (outlook (each (deals there) o events).outer) true left false 0) (did ++ steps_by (all_account there events o)) (past ++ (told ++ (each (deals there) o events).entries))
      (each (deals there) o events).outer.chip.state.port
  plain_by there coming o events goes told apart did past so =
      subst (λ (l : List Entry). TallySo (TallyBefore devices (outlook (each (deals there) o events).outer) true left false 0) (did ++ steps_by (all_account there events o)) l (each (deals there) o events).outer.chip.state.port)
      (append_assoc past told (each (deals there) o events).entries)
      (goes did (past ++ told)
      (apart_t devices false (Still coming) (before_stays devices v true left false coming) did past told o.chip.state.port o.chip.state.port (λ is. absurd (let no : false ≡ true = is in cc)) apart refl refl so))

  plain_t : (there : List State) (coming : ℕ) (o : OuterState) (rest : List AirEvent) → EndsIn coming (each (deals there) o rest) (steps_by (all_account there rest o)) o.chip.state.port
      → (plain : List AirEvent) → ArePlain plain → EndsIn coming (each (deals there) o (plain ++ rest)) (steps_by (all_account there (plain ++ rest) o)) o.chip.state.port
  plain_t there coming o rest goes [] are did past so = goes did past so
  plain_t there coming o rest goes (tells_of.Sent at from to route payload ∷ plain) are did past so =
      plain_by there coming o (plain ++ rest) (plain_t there coming o rest goes plain are.1) (deals there o (tells_of.Sent at from to route payload)).entries ((tt, (tt, are.0)), tt) did past so
  plain_t there coming o rest goes (tells_of.Changed node at ∷ plain) are did past so =
      plain_by there coming o (plain ++ rest) (plain_t there coming o rest goes plain are.1) (deals there o (tells_of.Changed node at)).entries
      (let change = change_at (device_at there (place_of node there)) at in all-weaker IsChange IsUnrelated change_unrelated (change_entries node change) (change_entered node change)) did past so
  plain_t there coming o rest goes (tells_of.Heard at ∷ plain) are did past so = absurd are.0
  plain_t there coming o rest goes (tells_of.Lost at ∷ plain) are did past so = absurd are.0
  plain_t there coming o rest goes (tells_of.Unheard at ∷ plain) are did past so = absurd are.0
  plain_t there coming o rest goes (tells_of.ToChip at from payload ∷ plain) are did past so = absurd are.0
  plain_t there coming o rest goes (tells_of.Done at status dead ∷ plain) are did past so = absurd are.0

  -- ---- all of it

  -- its fate, what a device does, and its end
  pub own_arrives_t : (there : List State) (o : OuterState) (e : Entry) → IsFate e → (plain : List AirEvent) → ArePlain plain
      → (status : ℕ) (dead : Option (ℕ × ℕ)) → Sees devices v left number numbers o → AllByRecursion (λ (n : ℕ). number < n) numbers → (did : List Step) (past : List Entry) → first_fate past e ≡ number ∷ []
      → BringsOwn past e number → TallySo (TallyBefore devices v true (suc left) false 0) did past o.chip.state.port
      → TallySo (TallyBefore devices (outlook (each (deals there) o (plain ++ tells_of.Done number status dead ∷ [])).outer) true left false 0)
      (did ++ steps_by (all_account there (plain ++ tells_of.Done number status dead ∷ []) o)) (past ++ (e ∷ (each (deals there) o (plain ++ tells_of.Done number status dead ∷ [])).entries))
      (each (deals there) o (plain ++ tells_of.Done number status dead ∷ [])).outer.chip.state.port
  own_arrives_t there o e fate plain are status dead sees above did past first brings so =
      let got = ends_t o status dead sees above in
      let rest : List AirEvent = tells_of.Done number status dead ∷ [] in
      let goes : EndsIn got.coming (each (deals there) o rest) (steps_by (all_account there rest o)) o.chip.state.port =
      λ now here was.
      subst (λ (l : List Step). TallySo (TallyBefore devices (outlook (frame_ends o status dead).outer) true left false 0) (now ++ l) (here ++ ((frame_ends o status dead).entries ++ [])) (frame_ends o status dead).outer.chip.state.port)
      (sym (append-nil (steps_by (ends_account o status dead))))
      (subst (λ (l : List Entry). TallySo (TallyBefore devices (outlook (frame_ends o status dead).outer) true left false 0) (now ++ steps_by (ends_account o status dead)) (here ++ l) (frame_ends o status dead).outer.chip.state.port)
      (sym (append-nil (frame_ends o status dead).entries)) (got.goes now here was)) in
      plain_fated x.entries
      (plain_t there got.coming o rest goes plain are did (past ++ e ∷ []) (fated_t got.coming got.many e fate did past o.chip.state.port first brings so))
    where
      x : Outcome
      x = each (deals there) o (plain ++ tells_of.Done number status dead ∷ [])

      plain_fated : (told : List Entry) → TallySo (TallyBefore devices (outlook x.outer) true left false 0) (did ++ steps_by (all_account there (plain ++ tells_of.Done number status dead ∷ []) o)) ((past ++ e ∷ []) ++ told) x.outer.chip.state.port
          → TallySo (TallyBefore devices (outlook x.outer) true left false 0) (did ++ steps_by (all_account there (plain ++ tells_of.Done number status dead ∷ []) o)) (past ++ (e ∷ told)) x.outer.chip.state.port
      plain_fated told was =
          subst (λ (l : List Entry). TallySo (TallyBefore devices (outlook x.outer) true left false 0) (did ++ steps_by (all_account there (plain ++ tells_of.Done number status dead ∷ []) o)) l x.outer.chip.state.port)
          (append_assoc past (e ∷ []) told) was

-- ---- frames of devices that are lost, and frames of the controller that are heard again

lost_none : (course : Course) (past : List Entry) (number : ℕ) (status : TransmitStatus) → is_outward past number ≡ false → ended_by status (sent_as course past number) ≡ []
lost_none course past number status other =
    ap (λ (b : Bool). ended_by status (if b then filter (λ (sending : Sending). sending.frame == number) (last_sending course past) else [])) other

abbrev pub BringsNone : List Entry → Entry → Type 0
BringsNone past e = (course : Course) → length (handlers_at past e) + length (ended_at course past e) ≡ 0

pub lost_brings_none : (past : List Entry) (number : ℕ) → is_outward past number ≡ false → BringsNone past (entry.Lost number)
lost_brings_none past number other course = none_plus _ ∙ ap (λ (l : List Called). length l) (lost_none course past number NoAck other)

pub unheard_brings_none : (past : List Entry) (number : ℕ) → is_outward past number ≡ false → BringsNone past (entry.Unheard number)
unheard_brings_none past number other course = none_plus _ ∙ ap (λ (l : List Called). length l) (lost_none course past number NoAck other)

pub again_brings_none : (past : List Entry) (number : ℕ) → repeats past ≡ true → handlers_at past (entry.Heard number) ≡ [] → BringsNone past (entry.Heard number)
again_brings_none past number is none course =
    ap₂ (λ (l : List Given) (n : ℕ). length l + n) none (ap (λ (b : Bool). length (if b then [] else ended_by (status_heard past) (sent_as course past number))) is) ∙ none_plus 0

-- what is told of the air alone
module _ (there : List State) (o : OuterState) where
  pub plain_rests : (plain : List AirEvent) → ArePlain plain → (each (deals there) o plain).outer ≡ o
  plain_rests [] are = refl
  plain_rests (tells_of.Sent at from to route payload ∷ plain) are = plain_rests plain are.1
  plain_rests (tells_of.Changed node at ∷ plain) are = plain_rests plain are.1
  plain_rests (tells_of.Heard at ∷ plain) are = absurd are.0
  plain_rests (tells_of.Lost at ∷ plain) are = absurd are.0
  plain_rests (tells_of.Unheard at ∷ plain) are = absurd are.0
  plain_rests (tells_of.ToChip at from payload ∷ plain) are = absurd are.0
  plain_rests (tells_of.Done at status dead ∷ plain) are = absurd are.0

  pub plain_apart : (plain : List AirEvent) → ArePlain plain → AreUnrelated (each (deals there) o plain).entries
  plain_apart [] are = tt
  plain_apart (tells_of.Sent at from to route payload ∷ plain) are = ((tt, (tt, are.0)), plain_apart plain are.1)
  plain_apart (tells_of.Changed node at ∷ plain) are =
      let change = change_at (device_at there (place_of node there)) at in
      all-append IsUnrelated (change_entries node change) (each (deals there) o plain).entries (all-weaker IsChange IsUnrelated change_unrelated (change_entries node change) (change_entered node change)) (plain_apart plain are.1)
  plain_apart (tells_of.Heard at ∷ plain) are = absurd are.0
  plain_apart (tells_of.Lost at ∷ plain) are = absurd are.0
  plain_apart (tells_of.Unheard at ∷ plain) are = absurd are.0
  plain_apart (tells_of.ToChip at from payload ∷ plain) are = absurd are.0
  plain_apart (tells_of.Done at status dead ∷ plain) are = absurd are.0

  pub plain_steps : (plain : List AirEvent) → ArePlain plain → steps_by (all_account there plain o) ≡ []
  plain_steps [] are = refl
  plain_steps (tells_of.Sent at from to route payload ∷ plain) are = plain_steps plain are.1
  plain_steps (tells_of.Changed node at ∷ plain) are = plain_steps plain are.1
  plain_steps (tells_of.Heard at ∷ plain) are = absurd are.0
  plain_steps (tells_of.Lost at ∷ plain) are = absurd are.0
  plain_steps (tells_of.Unheard at ∷ plain) are = absurd are.0
  plain_steps (tells_of.ToChip at from payload ∷ plain) are = absurd are.0
  plain_steps (tells_of.Done at status dead ∷ plain) are = absurd are.0

module _ (devices : List State) (v : Outlook) (did : List Step) (past : List Entry) where
  -- a frame of a device does not come to the controller
  pub lost_home_t : (left number : ℕ) (e : Entry) (port : PortState) → IsFate e → first_fate past e ≡ number ∷ [] → BringsNone past e → TallySo (TallyBefore devices v true (suc left) false 0) did past port
      → TallySo (TallyBefore devices v true left false 0) did (past ++ e ∷ []) port
  lost_home_t left number e port fate first none (frames, serves, are) = (
    frames,
    serves_aside did frames past (e ∷ []) port port (fate_aside e fate, tt) refl refl serves,
    λ course goes.
        subst (λ (n : ℕ). TallyBefore devices v true left false n (length frames) course (past ++ e ∷ [])) (none course)
        (before_lands devices course past v left (length frames) e number fate first (few_stand devices did frames past port serves course goes) (are course goes)),
  )

  again_own_t : (number : ℕ) (port : PortState) → repeats past ≡ true → handlers_at past (entry.Heard number) ≡ [] → TallySo (TallyNow devices v false 0) did past port
      → TallySo (TallyNow devices v false 0) did (past ++ entry.Heard number ∷ []) port
  again_own_t number port is none (frames, serves, are) = (
    frames,
    serves_aside did frames past (entry.Heard number ∷ []) port port (tt, tt) refl refl serves,
    λ course goes.
        subst (λ (n : ℕ). TallyNow devices v false n (length frames) course (past ++ entry.Heard number ∷ [])) (again_brings_none past number is none course)
        (now_again devices course past v (length frames) (entry.Heard number) tt (ap (λ (b : Bool). if b then [] else number ∷ []) is) (few_stand devices did frames past port serves course goes) (are course goes)),
  )

  -- a device hears a frame of the controller again
  pub again_device_t : (there : List State) (o : OuterState) (number : ℕ) (plain : List AirEvent) → ArePlain plain → repeats past ≡ true → handlers_at past (entry.Heard number) ≡ []
      → TallySo (TallyNow devices v false 0) did past o.chip.state.port
      → TallySo (TallyNow devices v false 0) (did ++ steps_by (all_account there (tells_of.Heard number ∷ plain) o)) (past ++ (each (deals there) o (tells_of.Heard number ∷ plain)).entries)
      (each (deals there) o (tells_of.Heard number ∷ plain)).outer.chip.state.port
  again_device_t there o number plain are is none so =
      let told : List Entry = (each (deals there) o plain).entries in
      subst (λ (p : OuterState). TallySo (TallyNow devices v false 0) (did ++ steps_by (all_account there plain o)) (past ++ (entry.Heard number ∷ told)) p.chip.state.port) (sym (plain_rests there o plain are))
      (subst (λ (l : List Step). TallySo (TallyNow devices v false 0) l (past ++ (entry.Heard number ∷ told)) o.chip.state.port) (sym (ap (λ (l : List Step). did ++ l) (plain_steps there o plain are) ∙ append-nil did))
      (subst (λ (l : List Entry). TallySo (TallyNow devices v false 0) did l o.chip.state.port) (append_assoc past (entry.Heard number ∷ []) told)
      (apart_t devices false (TallyNow devices v false 0) (now_stays devices v false 0) did (past ++ entry.Heard number ∷ []) told o.chip.state.port o.chip.state.port (λ waits. absurd (let no : false ≡ true = waits in cc))
      (plain_apart there o plain are) refl refl (again_own_t number o.chip.state.port is none so))))
