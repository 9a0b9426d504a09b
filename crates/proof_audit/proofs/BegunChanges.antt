-- Over any lines, a session that made a change had begun before: the headline holds of the lines cut short after the event at which the device changed, and that event begins no
-- session.
use Rattle.std.proofs.Common.{◌≡◌, ℕ, ◌≤◌, true, List, [], ◌∷◌, ◌++◌, length, Some, inl, inr, refl, sym, ap, subst, ◌∙◌, append_assoc, append-nil}
use Rattle.std.specs.List.{AllByRecursion}
use Rattle.zw_base.proofs.Each.{all-right}
use Rattle.zw_base.specs.declared.property.By.{By}
use Rattle.zw_base.specs.declared.property.By.TheVariants.{Local, Plain, Session}
use Rattle.zw_base.specs.declared.property.Setting.{Setting}
use Rattle.device_kinds.specs.declared.change.Change.{Change}
use Rattle.device_sim.specs.State.{State}
use Rattle.zw_text.specs.declared.entry.Entry.{Entry}
use Rattle.zw_text.specs.declared.entry.Entry.TheVariants.{Begin, Dev, Said}
use Rattle.zw_text.specs.Transcript.{by_session, session_at, sessions}
use Rattle.zw_text.proofs.Views.{shown-append}
use Rattle.law_transcript.specs.Headline.{HeadlineOf}
use Rattle.law_transcript.specs.Lists.{EachAfter, Has}
use Rattle.law_transcript.specs.Nodes.{device_of, is_supervised, always}
use Rattle.law_transcript.specs.Once.{HasBegun, sessions_by}
use Rattle.law_transcript.proofs.Having.{all_has, has_shown}
use Rattle.proof_headline.specs.proof_device.Showing.{AreApart}
use Rattle.proof_headline.proofs.Others.{IsOther}
use Rattle.proof_host.specs.Entries.{IsAside}
use Rattle.proof_host.proofs.Lists.{each-anywhere, each-append}
use Rattle.proof_transcript.proofs.Aside.{own_aside}
use Rattle.world_model.specs.State.{Machine}
use Rattle.world_model.specs.Events.{Event, Outside_does, May, entries, happens}
use Rattle.world_model.specs.Did.{MayAll, entries_all, happens_all}
use Rattle.world_model.specs.Lines.{IsLine}
use Rattle.world_model.specs.Prefixes.{IsLineBefore, LinePart}
use Rattle.world_model.proofs.EventLists.{entries_all-append, happens_all-append}
use Rattle.world_lines.specs.Spoken.{Spoken, after as after_line, after_all, entries_of, transcript_of}
use Rattle.world_lines.specs.Done.{AreDone, IsDone}
use Rattle.proof_audit.specs.Books.{ArePieces, MayChange}
use Rattle.proof_audit.proofs.ChangesWalk.{moves-or-others}
use Rattle.proof_audit.proofs.CutLines.{IsMoving, part-cuts}
use Rattle.proof_audit.proofs.UnsupervisedDevices.{SetBySupervised}
use Rattle.proof_audit.proofs.InTurn.{found-of, in-change}

-- ---- entries in their own list

each-in : (Allowed : List Entry → Entry → Type 0) (before entries : List Entry)
    → ((pre : List Entry) (entry : Entry) (post : List Entry) → entries ≡ pre ++ entry ∷ post → Allowed (before ++ pre) entry) → EachAfter Allowed before entries
each-in Allowed before [] each = tt
each-in Allowed before (entry ∷ entries) each = (
  subst (λ (l : List Entry). Allowed l entry) (append-nil before) (each [] entry entries refl),
  each-in Allowed (before ++ (entry ∷ [])) entries (λ pre one post is. subst (λ (l : List Entry). Allowed l one) (sym (append_assoc before (entry ∷ []) pre))
      (each (entry ∷ pre) one post (ap (λ (l : List Entry). entry ∷ l) is))),
)

other-may : (past : List Entry) (entry : Entry) → IsOther entry → MayChange past entry
other-may past (Dev node by setting) other = absurd other
other-may past entry other = tt

-- asides begin no session
aside-begins : (node : ℕ) (entry : Entry) → IsAside entry → session_at node entry ≡ []
aside-begins node (Begin at session command) aside = absurd aside
aside-begins node entry aside = refl

asides-begin : (node : ℕ) (entries : List Entry) → AllByRecursion IsAside entries → sessions node entries ≡ []
asides-begin node [] asides = refl
asides-begin node (entry ∷ entries) asides =
    ap (λ (l : List ℕ). l ++ sessions node entries) (aside-begins node entry asides.0) ∙ asides-begin node entries asides.1

pub may-front : (m : Machine) (a b : List Event) → MayAll m (a ++ b) → MayAll m a
may-front m [] b may = tt
may-front m (event ∷ a) b may = (may.0, may-front (happens m event) a b may.1)

-- ---- lines that go on

module _ (first : Machine) where
  -- lines that lead to what any last lines lead to
  record Leads (past : List Entry) (m : Machine) (last : List Spoken) : Type 0 where
    pub lines : List Spoken
    pub done : AreDone first lines
    pub told : transcript_of first lines ≡ past ++ transcript_of m last
    pub machine : after_all first lines ≡ after_all m last

  abbrev AllLead : List Entry → Machine → Type 0
  AllLead past m = (last : List Spoken) → AreDone m last → Leads past m last

  first-lead : AllLead [] first
  first-lead last done = record { lines = last; done = done; told = refl; machine = refl }

  whole-before : (last : List Spoken) (m : Machine) (spoken : Spoken) → IsLine spoken.line m spoken.events → IsLineBefore last spoken.line m spoken.events
  whole-before [] m spoken whole = inl whole
  whole-before (next ∷ last) m spoken whole = whole

  next-lead : (past : List Entry) (m : Machine) (spoken : Spoken) (more : List Spoken) → AllLead past m → IsDone more m spoken → IsLine spoken.line m spoken.events → AllLead (past ++ entries_of m spoken) (after_line m spoken)
  next-lead past m spoken more lead is whole last done =
      let on = lead (spoken ∷ last) (record { read = is.read; is_line = whole-before last m spoken whole; may = is.may }, done) in
      record {
        lines = on.lines;
        done = on.done;
        told = on.told ∙ sym (append_assoc past (entries_of m spoken) (transcript_of (after_line m spoken) last));
        machine = on.machine;
      }

-- ---- each event

module _ (first : Machine) (listing : ℕ → List ℕ)
    (headline : (lines : List Spoken) (node : ℕ) (device : State) → AreDone first lines → device_of node (after_all first lines).outside.devices ≡ Some device → is_supervised device ≡ true
    → HeadlineOf (always listing) node (transcript_of first lines) device)
    (pieces : (lines : List Spoken) → AreDone first lines → ArePieces (after_all first lines).outside.devices (transcript_of first lines))
    (apart : (lines : List Spoken) → AreDone first lines → AreApart (after_all first lines).outside.devices)
    (supervised : (lines : List Spoken) → AreDone first lines → SetBySupervised (after_all first lines).outside.devices) where
  -- in lines that end so, the session of a setting has begun
  session-begun : (lines : List Spoken) → AreDone first lines → (past : List Entry) (node session : ℕ) (setting : Setting) (rest : List Entry)
      → transcript_of first lines ≡ past ++ Dev node (Session session) setting ∷ rest → HasBegun node (transcript_of first lines) session
  session-begun lines done past node session setting rest is =
      let devices = (after_all first lines).outside.devices in
      let whole = pieces lines done in
      let one = in-change devices whole.pieces past node (Session session) setting rest whole.all (sym whole.are ∙ is) in
      let device = one.of.device in
      let found : device_of node devices ≡ Some device = subst (λ (n : ℕ). device_of n devices ≡ Some device) one.of.of_node (found-of devices device (apart lines done) one.of.among) in
      let made_it : Has (sessions_by device.journal) session =
      has_shown (λ (change : Change). by_session change.by) device.journal one.change session one.of.made (subst (λ (how : By). Has (by_session how) session) (sym one.by) (inl refl)) in
      let knows = supervised lines done device session one.of.among made_it in
      all_has (HasBegun node (transcript_of first lines)) (sessions_by device.journal) session (headline lines node device done found knows).once.changes.sessions_begun made_it

  moving-begun : (past now : List Entry) (m : Machine) (spoken : Spoken) (more : List Spoken) (a : List Event) (event : Event) (b : List Event) → AllLead first past m → IsDone more m spoken → LinePart spoken.line m spoken.events
      → spoken.events ≡ a ++ event ∷ b → now ≡ (past ++ Said spoken.words ∷ []) ++ entries_all m a → IsMoving event → AllByRecursion IsAside (entries (happens_all m a) event)
      → EachAfter MayChange now (entries (happens_all m a) event)
  moving-begun past now m spoken more a event b lead is part events_are now_is moving asides = each-in MayChange now (entries (happens_all m a) event) one
    where
      es : List Entry
      es = entries (happens_all m a) event

      cut : Spoken
      cut = record { words = spoken.words; line = spoken.line; events = a ++ (event ∷ []) }

      cut_done : IsDone [] m cut
      cut_done = record {
        read = is.read;
        is_line = inr (part-cuts spoken.line m a event b moving (subst (LinePart spoken.line m) events_are part));
        may = may-front m (a ++ (event ∷ [])) b (subst (MayAll m) (events_are ∙ sym (append_assoc a (event ∷ []) b)) is.may);
      }

      on : Leads first past m (cut ∷ [])
      on = lead (cut ∷ []) (cut_done, tt)

      told : transcript_of first on.lines ≡ now ++ es
      told =
          on.told
          ∙ (ap (λ (l : List Entry). past ++ l) (append-nil (entries_of m cut))
          ∙ (ap (λ (l : List Entry). past ++ (Said spoken.words ∷ l)) (entries_all-append m a (event ∷ []) ∙ ap (λ (l : List Entry). entries_all m a ++ l) (append-nil es))
          ∙ (sym (append_assoc past (Said spoken.words ∷ []) (entries_all m a ++ es))
          ∙ (sym (append_assoc (past ++ Said spoken.words ∷ []) (entries_all m a) es) ∙ ap (λ (l : List Entry). l ++ es) (sym now_is)))))

      one : (pre : List Entry) (entry : Entry) (post : List Entry) → es ≡ pre ++ entry ∷ post → MayChange (now ++ pre) entry
      one pre (Dev node (Session session) setting) post cut_is =
          let entry : Entry = Dev node (Session session) setting in
          let at : transcript_of first on.lines ≡ (now ++ pre) ++ entry ∷ post = told ∙ (ap (λ (l : List Entry). now ++ l) cut_is ∙ sym (append_assoc now pre (entry ∷ post))) in
          let begun = session-begun on.lines on.done (now ++ pre) node session setting post at in
          let none : sessions node (entry ∷ post) ≡ [] = asides-begin node (entry ∷ post) (all-right IsAside pre (entry ∷ post) (subst (AllByRecursion IsAside) cut_is asides)) in
          let same : sessions node (transcript_of first on.lines) ≡ sessions node (now ++ pre) =
          ap (sessions node) at ∙ (shown-append (session_at node) (now ++ pre) (entry ∷ post) ∙ (ap (λ (l : List ℕ). sessions node (now ++ pre) ++ l) none ∙ append-nil (sessions node (now ++ pre)))) in
          (begun.0, subst (λ (l : List ℕ). session ≤ length l) same begun.1)
      one pre (Dev node Local setting) post cut_is = tt
      one pre (Dev node Plain setting) post cut_is = tt
      one pre entry post cut_is = tt

  own-asides : (m : Machine) (event : Event) → IsMoving event → May m event → AllByRecursion IsAside (entries m event)
  unfolding entries May
  own-asides m (Outside_does event) moving may = own_aside m.outside event may.0
  own-asides m event moving may = absurd moving

  event-begun : (past now : List Entry) (m : Machine) (spoken : Spoken) (more : List Spoken) (a : List Event) (event : Event) (b : List Event) → AllLead first past m → IsDone more m spoken → LinePart spoken.line m spoken.events
      → spoken.events ≡ a ++ event ∷ b → now ≡ (past ++ Said spoken.words ∷ []) ++ entries_all m a → May (happens_all m a) event → EachAfter MayChange now (entries (happens_all m a) event)
  event-begun past now m spoken more a event b lead is part events_are now_is may = elim (moves-or-others (happens_all m a) event may) [
    | inl moving ↦ moving-begun past now m spoken more a event b lead is part events_are now_is moving (own-asides (happens_all m a) event moving may)
    | inr others ↦ each-anywhere MayChange IsOther other-may now (entries (happens_all m a) event) others
  ]

  events-begun : (past now : List Entry) (m : Machine) (spoken : Spoken) (more : List Spoken) (a b : List Event) → AllLead first past m → IsDone more m spoken → LinePart spoken.line m spoken.events
      → spoken.events ≡ a ++ b → now ≡ (past ++ Said spoken.words ∷ []) ++ entries_all m a → MayAll (happens_all m a) b → EachAfter MayChange now (entries_all (happens_all m a) b)
  events-begun past now m spoken more a [] lead is part events_are now_is may = tt
  events-begun past now m spoken more a (event ∷ b) lead is part events_are now_is may =
      let es = entries (happens_all m a) event in
      let next : happens_all m (a ++ (event ∷ [])) ≡ happens (happens_all m a) event = happens_all-append m a (event ∷ []) in
      let told : now ++ es ≡ (past ++ Said spoken.words ∷ []) ++ entries_all m (a ++ (event ∷ [])) =
      ap (λ (l : List Entry). l ++ es) now_is
      ∙ (append_assoc (past ++ Said spoken.words ∷ []) (entries_all m a) es
      ∙ ap (λ (l : List Entry). (past ++ Said spoken.words ∷ []) ++ l) (sym (entries_all-append m a (event ∷ []) ∙ ap (λ (l : List Entry). entries_all m a ++ l) (append-nil es)))) in
      each-append MayChange now es (entries_all (happens (happens_all m a) event) b)
      (event-begun past now m spoken more a event b lead is part events_are now_is may.0)
      (subst (λ (w : Machine). EachAfter MayChange (now ++ es) (entries_all w b)) next
      (events-begun past (now ++ es) m spoken more (a ++ (event ∷ [])) b lead is part (events_are ∙ sym (append_assoc a (event ∷ []) b)) told
      (subst (λ (w : Machine). MayAll w b) (sym next) may.1)))

  line-begun : (past : List Entry) (m : Machine) (spoken : Spoken) (more : List Spoken) → AllLead first past m → IsDone more m spoken → LinePart spoken.line m spoken.events → EachAfter MayChange past (entries_of m spoken)
  line-begun past m spoken more lead is part =
      (tt, events-begun past (past ++ Said spoken.words ∷ []) m spoken more [] spoken.events lead is part refl (sym (append-nil (past ++ Said spoken.words ∷ []))) is.may)

  lines-begun : (past : List Entry) (m : Machine) (lines : List Spoken) → AllLead first past m → AreDone m lines → EachAfter MayChange past (transcript_of m lines)
  lines-begun past m [] lead done = tt
  lines-begun past m (spoken ∷ []) lead done = each-append MayChange past (entries_of m spoken) [] (line-begun past m spoken [] lead done.0 done.0.is_line) tt
  lines-begun past m (spoken ∷ next ∷ more) lead done =
      each-append MayChange past (entries_of m spoken) (transcript_of (after_line m spoken) (next ∷ more)) (line-begun past m spoken (next ∷ more) lead done.0 (inl done.0.is_line))
      (lines-begun (past ++ entries_of m spoken) (after_line m spoken) (next ∷ more) (next-lead first past m spoken (next ∷ more) lead done.0 done.0.is_line) done.1)

  pub all-begun : (lines : List Spoken) → AreDone first lines → EachAfter MayChange [] (transcript_of first lines)
  all-begun lines done = lines-begun [] first lines (first-lead first) done
