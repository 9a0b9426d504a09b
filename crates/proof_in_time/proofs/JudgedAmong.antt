-- Where one frame among those that the host judges brings a payload, and no other brings any: what follows it stands among events at which the requests hear of something, and nothing else happens.
use Rattle.std.proofs.Common.{◌≡◌, ◌≢◌, ℕ, suc, Bool, true, false, inl, inr, List, [], ◌∷◌, ◌++◌, length, refl, sym, ap, ◌∙◌, subst, append_assoc}
use Rattle.std.specs.Prelude.{◌⊎◌}
use Rattle.std.specs.List.{AllByRecursion}
use Rattle.zw_base.proofs.Each.{all-append}
use Rattle.serial_frame.specs.Frame.{FrameParts}
use Rattle.serial_frame.specs.declared.item.Item.TheVariants.{Good}
use Rattle.serial_frame.specs.declared.unit.Unit.{Unit as LineUnit}
use Rattle.serial_frame.specs.declared.unit.Unit.TheVariants.{Ack, Nak, Can, Framed}
use Rattle.serial_link.specs.declared.turn.Turn.{Turn}
use Rattle.chip_functions.specs.declared.notice.Notice.TheVariants.{ApplicationCommandHandler}
use Rattle.chip_sim.specs.Answers.{notice_frame}
use Rattle.chip_sim.specs.Nodes.{is_marked}
use Rattle.chip_sim.specs.State.{ChipState}
use Rattle.host_requests.specs.Events.{RequestsEvent}
use Rattle.host_requests.specs.Events.RequestsEvent.{CallsBack, IsSent, Responds, Updates}
use Rattle.host_model.specs.After.{after, is_busy}
use Rattle.host_model.specs.Did.{after_all}
use Rattle.host_model.specs.Events.{HostEvent, Hears, Requests_do}
use Rattle.host_model.specs.State.{HostState}
use Rattle.host_model.specs.Taking.{AreJudged, IsJudged, told_if}
use Rattle.host_model.proofs.EventLists.{after_all-append}
use Rattle.proof_answered.specs.Workers.{IsFrom}
use Rattle.proof_answered.specs.proof_calm.Calls.{FrameFollows}
use Rattle.proof_answered.specs.proof_calm.Passes.{IsPlain, frames_in}
use Rattle.proof_answered.proofs.Following.{kept}
use Rattle.proof_answered.proofs.Judging.{Follow, MayTell, TieBy, frame_are, unit_tied}
use Rattle.proof_answered.proofs.Reading.{goods}
use Rattle.proof_in_time.specs.Coming.{brings}
use Rattle.proof_in_time.specs.Exchange.{NoneTold}
use Rattle.proof_in_time.specs.Parts.{Amid}
use Rattle.proof_in_time.proofs.PartsCarried.{amid_next}
use Rattle.proof_in_time.proofs.PartsKept.{LeavesTasks}

-- ---- units of which something is said, whatever waits behind them

module _ (Holds : HostState → List HostEvent → Type 0) (Says : FrameParts → Type 0) (s : ChipState) (follow : Follow Holds Says s.joined) where
  ack_follows : (h : HostState) (turn : Turn) (events : List HostEvent) → events ≡ told_if (is_busy turn) IsSent → Holds h events
  ack_follows h turn events are = subst (Holds h) (sym are) (by (is_busy turn))
    where
      by : (b : Bool) → Holds h (told_if b IsSent)
      by true = follow.told h IsSent tt
      by false = follow.none h

  pub unit_follows : (h : HostState) (unit : LineUnit) (rest : List FrameParts) (events : List HostEvent) → IsPlain unit → IsJudged h (Good unit) events → TieBy true (kept h) s (frames_in (unit ∷ []) ++ rest) []
      → AllByRecursion Says (frames_in (unit ∷ [])) → Holds h events
  unit_follows h Ack rest events plain (more, are, followed) tie says = subst (Holds h) (sym are) (follow.hears h (Good Ack) more (ack_follows (after h (Hears (Good Ack))) h.side.turn more followed))
  unit_follows h Nak rest events plain judged tie says = absurd plain
  unit_follows h Can rest events plain judged tie says = absurd plain
  unit_follows h (Framed f) rest events plain (more, are, followed) tie says =
      subst (Holds h) (sym are) (follow.hears h (Good (Framed f)) more (frame_are Holds Says true s [] follow (after h (Hears (Good (Framed f)))) f rest more followed tie says.0))

  pub units_follow : (h : HostState) (units : List LineUnit) (rest : List FrameParts) (events : List HostEvent) → AllByRecursion IsPlain units → AreJudged h (goods units) events → TieBy true (kept h) s (frames_in units ++ rest) []
      → AllByRecursion Says (frames_in units) → Holds h events
  units_follow h [] rest events plain judged tie says = subst (Holds h) (sym judged) (follow.none h)
  units_follow h (Nak ∷ units) rest events plain judged tie says = absurd plain.0
  units_follow h (Can ∷ units) rest events plain judged tie says = absurd plain.0
  units_follow h (Ack ∷ units) rest events plain (first, later, are, one, others) tie says =
      let then_tied = unit_tied true s [] h Ack (frames_in units ++ rest) first plain.0 one tie in
      let here : Holds h first = unit_follows h Ack (frames_in units ++ rest) first plain.0 one tie tt in
      subst (Holds h) (sym are) (follow.both h first later here (units_follow (after_all h first) units rest later plain.1 others then_tied says))
  units_follow h (Framed f ∷ units) rest events plain (first, later, are, one, others) tie says =
      let then_tied = unit_tied true s [] h (Framed f) (frames_in units ++ rest) first plain.0 one tie in
      let here : Holds h first = unit_follows h (Framed f) (frames_in units ++ rest) first plain.0 one tie (says.0, tt) in
      subst (Holds h) (sym are) (follow.both h first later here (units_follow (after_all h first) units rest later plain.1 others then_tied says.1))

-- ---- units that bring no payload

-- the host hears an item, or its requests hear of something
abbrev pub Quiet : HostEvent → Type 0
Quiet (Hears item) = Unit {0}
Quiet (Requests_do event moment) = LeavesTasks event
Quiet event = ⊥

abbrev pub AllQuiet : HostState → List HostEvent → Type 0
AllQuiet h events = AllByRecursion Quiet events

abbrev pub BringsNothing : FrameParts → Type 0
BringsNothing frame = (k : ℕ) (payload : List ℕ) → frame ≢ notice_frame (ApplicationCommandHandler 0 k payload)

may_leave : (event : RequestsEvent) → MayTell BringsNothing event → LeavesTasks event
may_leave IsSent may = tt
may_leave (Responds response) may = tt
may_leave (Updates update) may = tt
may_leave (CallsBack id status) may = tt
may_leave event may = absurd may

pub follows_quietly : (joined : List Bool) → Follow AllQuiet BringsNothing joined
follows_quietly joined = record {
  none = λ h. tt;
  both = λ h first later here then_here. all-append Quiet first later here then_here;
  hears = λ h item rest all. (tt, all);
  told = λ h event may. (may_leave event may, tt);
  brings = λ h k payload events member says is. absurd (says k payload refl);
}

-- where none of them brings a payload of the node, and each that is brought is of it, they bring nothing
pub nothing_brought : (these : List Bool) (n : ℕ) (only : (k : ℕ) → is_marked these k ≡ true → k ≡ n) (frames : List FrameParts) → AllByRecursion (IsFrom these) frames → NoneTold n frames → AllByRecursion BringsNothing frames
nothing_brought these n only [] from none = tt
nothing_brought these n only (frame ∷ frames) from none =
    (λ k payload is. none.0 payload (is ∙ ap (λ (j : ℕ). brings j payload) (only k (from.0 k payload is))), nothing_brought these n only frames from.1 none.1)

-- ---- the one among them

pub other_parts : {A : Type 0} (P : A → Type 0) (before : List A) (one : A) (behind : List A) → AllByRecursion P (before ++ one ∷ behind) → AllByRecursion P before × AllByRecursion P behind
other_parts P [] one behind all = (tt, all.1)
other_parts P (item ∷ before) one behind all = let rest = other_parts P before one behind all.1 in ((all.0, rest.0), rest.1)

-- what happens before, with the hearing of that frame, what follows it, and what happens behind
pub record Among (Holds : HostState → List HostEvent → Type 0) (n : ℕ) (payload : List ℕ) (h : HostState) (events : List HostEvent) : Type 0 where
  pub front : List HostEvent
  pub own : List HostEvent
  pub behind : List HostEvent
  pub are : events ≡ front ++ (own ++ behind)
  pub first : Holds h front
  pub last : Holds (after_all (after_all h front) own) behind
  pub follows : FrameFollows (after_all h front) (brings n payload) own

module _ (Holds : HostState → List HostEvent → Type 0) (Says : FrameParts → Type 0) (s : ChipState) (follow : Follow Holds Says s.joined) (n : ℕ) (payload : List ℕ) where
  later_among : (h : HostState) (first later events : List HostEvent) → events ≡ first ++ later → Holds h first → Among Holds n payload (after_all h first) later → Among Holds n payload h events
  later_among h first later events are holds a = record {
    front = first ++ a.front;
    own = a.own;
    behind = a.behind;
    are = are ∙ (ap (λ (l : List HostEvent). first ++ l) a.are ∙ sym (append_assoc first a.front (a.own ++ a.behind)));
    first = follow.both h first a.front holds a.first;
    last = subst (λ (g : HostState). Holds (after_all g a.own) a.behind) (sym (after_all-append h first a.front)) a.last;
    follows = subst (λ (g : HostState). FrameFollows g (brings n payload) a.own) (sym (after_all-append h first a.front)) a.follows;
  }

  none_amid : Amid Says (λ (frame : FrameParts). frame ≡ brings n payload) [] → ⊥
  none_amid at = some at.before at.are
    where
      some : (before : List FrameParts) → [] ≡ before ++ at.one ∷ at.behind → ⊥
      some [] none = absurd cc
      some (x ∷ before) none = absurd cc

  pub units_among : (h : HostState) (units : List LineUnit) (rest : List FrameParts) (events : List HostEvent) → AllByRecursion IsPlain units → AreJudged h (goods units) events → TieBy true (kept h) s (frames_in units ++ rest) []
      → Amid Says (λ (frame : FrameParts). frame ≡ brings n payload) (frames_in units) → Among Holds n payload h events
  units_among h [] rest events plain judged tie at = absurd (none_amid at)
  units_among h (Nak ∷ units) rest events plain judged tie at = absurd plain.0
  units_among h (Can ∷ units) rest events plain judged tie at = absurd plain.0
  units_among h (Ack ∷ units) rest events plain (first, later, are, one, others) tie at =
      let then_tied = unit_tied true s [] h Ack (frames_in units ++ rest) first plain.0 one tie in
      later_among h first later events are (unit_follows Holds Says s follow h Ack (frames_in units ++ rest) first plain.0 one tie tt) (units_among (after_all h first) units rest later plain.1 others then_tied at)
  units_among h (Framed f ∷ units) rest events plain (first, later, are, (more, first_is, followed), others) tie at =
      by (λ on. units_among (after_all h first) units rest later plain.1 others then_tied on) (amid_next Says (λ (frame : FrameParts). frame ≡ brings n payload) f (frames_in units) at)
    where
      then_tied : TieBy true (kept (after_all h first)) s (frames_in units ++ rest) []
      then_tied = unit_tied true s [] h (Framed f) (frames_in units ++ rest) first plain.0 (more, first_is, followed) tie

      by : (Amid Says (λ (frame : FrameParts). frame ≡ brings n payload) (frames_in units) → Among Holds n payload (after_all h first) later)
          → ((f ≡ brings n payload) × (AllByRecursion Says (frames_in units) × (length at.before ≡ 0)))
          ⊎ (Says f × ((on : Amid Says (λ (frame : FrameParts). frame ≡ brings n payload) (frames_in units)) × ((length at.before ≡ suc (length on.before)) × (on.behind ≡ at.behind)))) → Among Holds n payload h events
      by later_on (inl (is, (all, none))) = record {
        front = Hears (Good (Framed f)) ∷ [];
        own = more;
        behind = later;
        are = are ∙ ap (λ (l : List HostEvent). l ++ later) first_is;
        first = follow.hears h (Good (Framed f)) [] (follow.none (after h (Hears (Good (Framed f)))));
        last = subst (λ (l : List HostEvent). Holds (after_all h l) later) first_is (units_follow Holds Says s follow (after_all h first) units rest later plain.1 others then_tied all);
        follows = subst (λ (g : FrameParts). FrameFollows (after h (Hears (Good (Framed f)))) g more) is followed;
      }
      by later_on (inr (says, (on, same))) =
          later_among h first later events are (unit_follows Holds Says s follow h (Framed f) (frames_in units ++ rest) first plain.0 (more, first_is, followed) tie (says, tt)) (later_on on)
