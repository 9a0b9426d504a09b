-- Where a payload of the device of a node alone is on its way to the host, and nothing else of it: as its frame arrives the chip has it for the host, and as the host judges what it is told it judges that.
use Rattle.std.proofs.Common.{◌≡◌, ◌≤◌, ℕ, suc, inl, inr, Bool, true, List, [], ◌∷◌, ◌++◌, length, refl, sym, ap, ◌∙◌, subst, arith}
use Rattle.std.specs.Prelude.{◌⊎◌, Option}
use Rattle.std.specs.List.{AllByRecursion}
use Rattle.zw_base.proofs.Each.{all-left}
use Rattle.serial_frame.specs.Frame.{FrameParts}
use Rattle.serial_frame.specs.Stream.{Rest}
use Rattle.serial_frame.specs.declared.item.Item.{Item}
use Rattle.serial_frame.specs.declared.unit.Unit.{Unit as LineUnit}
use Rattle.serial_link.specs.declared.turn.Turn.{Turn}
use Rattle.serial_link.specs.declared.turn.Turn.TheVariants.{Idle as no_turn}
use Rattle.route_table.specs.declared.route.Route.{Route}
use Rattle.air_frames.specs.Flown.{Flown}
use Rattle.air_frames.specs.declared.frame.Heading.TheVariants.{Homeward}
use Rattle.host_model.specs.Did.{after_all}
use Rattle.host_model.specs.Events.{HostEvent}
use Rattle.host_model.specs.Taking.{AreJudged}
use Rattle.outside_model.specs.Events.{Arrives}
use Rattle.world_model.specs.Events.{Event, Outside_does, Host_takes, happens, May}
use Rattle.world_model.specs.State.{Machine}
use Rattle.proof_answered.specs.proof_calm.proof_traffic.OnAir.{on_air}
use Rattle.proof_answered.specs.proof_calm.proof_work.proof_walk.Phases.{Arriving, Moved, Sleeping}
use Rattle.proof_answered.specs.proof_calm.Awaited.{Awaits}
use Rattle.proof_answered.specs.proof_calm.Live.{IsLive}
use Rattle.proof_answered.specs.proof_calm.Passes.{IsPlain, OnLine, frames_in}
use Rattle.proof_answered.specs.proof_calm.Resting.{IsGiven}
use Rattle.proof_answered.specs.proof_calm.Settling.{HasMoved, IsDone}
use Rattle.proof_answered.specs.proof_calm.Tied.{TieOf, unheard}
use Rattle.proof_answered.proofs.proof_traffic_Parts.{Airs}
use Rattle.proof_answered.proofs.Calm.{takes_calm}
use Rattle.proof_answered.proofs.Following.{kept}
use Rattle.proof_answered.proofs.HostTurns.{host_turns}
use Rattle.proof_answered.proofs.Idle.{host_idles}
use Rattle.proof_answered.proofs.Judging.{TieBy}
use Rattle.proof_answered.proofs.Peopled.{judged_are}
use Rattle.proof_answered.proofs.Reading.{goods}
use Rattle.proof_answered.proofs.Brought.{home_comes}
use Rattle.proof_answered.proofs.Requested.{moved_frames}
use Rattle.proof_answered.proofs.Unheard.{all_behind, all_piled, unheard_idle, unheard_judged}
use Rattle.proof_in_time.specs.Coming.{Stands, brings}
use Rattle.proof_in_time.specs.Exchange.{BringsNone, Flies, GoesHome, IsHome, IsUnheardAt, NoneFly, NoneGo, NoneTold, TellsAlone, Told}
use Rattle.proof_in_time.specs.Parts.{Amid}
use Rattle.proof_in_time.proofs.Grown.{Arrived}
use Rattle.proof_in_time.proofs.PartsJudged.{amid_split}
use Rattle.proof_in_time.proofs.PartsLanded.{home_leaves}

-- ---- its frame arrives

-- nothing but that is on the air: it stands first
module _ (n : ℕ) (frame : Flown) (rest flights : List Flown) (were : flights ≡ frame ∷ rest) (own : frame.node ≡ n) where
  pub none_first : NoneFly n flights → ⊥
  none_first none = (subst (NoneFly n) were none).0 own

  pub first_is : (Now : Flown → Type 0) (at : Stands Now flights) → NoneFly n at.before → NoneFly n at.behind → Now frame × (NoneFly n rest × (length at.before ≡ 0))
  first_is Now at front behind = by at.before front (sym were ∙ at.are)
    where
      by : (before : List Flown) → NoneFly n before → frame ∷ rest ≡ before ++ at.frame ∷ at.behind → Now frame × (NoneFly n rest × (length before ≡ 0))
      by [] none are = let same : at.frame ≡ frame = cc in let others : at.behind ≡ rest = cc in (subst Now same at.is, (subst (NoneFly n) others behind, refl))
      by (one ∷ before) none are = let same : frame ≡ one = cc in absurd (none.0 (subst (λ (f : Flown). f.node ≡ n) same own))

module _ (airs : Airs) (m : Machine) (is : Awaits m) (drawn : List ℕ) (route : Option Route) (at : Arrived airs m is drawn route) (n left frames ticks : ℕ) (Is : List ℕ → Type 0) (own : at.frame.node ≡ n) where
  abbrev then_there : Machine
  then_there = happens m (Outside_does (Arrives drawn route))

  pub home_arrives : IsGiven 0 m → IsGiven 0 (happens m (Outside_does (Arrives drawn route))) → length m.outside.outer.chip.state.port.waiting ≤ 31 → IsLive m.outside.outer.air.network at.frame → ((payload : List ℕ) → Is payload → (1 ≤ length payload) × (length payload ≤ 46))
      → GoesHome n Is left (Arriving (suc frames) ticks) m
      → GoesHome n Is left (Arriving frames ticks) (happens m (Outside_does (Arrives drawn route))) × (at.frame.heading ≡ Homeward)
  home_arrives given later_given room live fits (Told payload so none alone silent few) = absurd (none_first n at.frame at.rest (on_air m.outside.outer.air.frames) at.were own none)
  home_arrives given later_given room live fits (Flies stands front behind none silent few) =
      let first = first_is n at.frame at.rest (on_air m.outside.outer.air.frames) at.were own (IsHome n Is) stands front behind in
      let one : IsHome n Is at.frame = first.0 in
      let size = fits at.frame.payload one.is in
      let are = home_comes m drawn route at.frame at.next one.home live size.0 size.1 given later_given room in (
        Told at.frame.payload one.is (subst (NoneFly n) (sym (home_leaves airs m is drawn route at one.home live)) first.1.0)
            (record {
              before = unheard m.outside.outer;
              behind = [];
              are = are ∙ ap (λ (k : ℕ). unheard m.outside.outer ++ brings k at.frame.payload ∷ []) own;
              first = none;
              last = tt;
            }) tt (omega arith),
        one.home,
      )

-- ---- the host judges what is on its way

-- Such a payload is in a frame among the units that it judges now, and nothing else of the node is there; nor is anything of it on its way then.
pub record TakesHome (n : ℕ) (Is : List ℕ → Type 0) (m later : Machine) (events : List HostEvent) : Type 0 where
  pub payload : List ℕ
  pub is : Is payload
  pub units : List LineUnit
  pub waiting : List FrameParts
  pub plain : AllByRecursion IsPlain units
  pub told : unheard m.outside.outer ≡ frames_in units ++ waiting
  pub judged : AreJudged m.host.state (goods units) events
  pub tied : TieBy true (kept m.host.state) m.outside.outer.chip.state (frames_in units ++ waiting) []
  pub before : List FrameParts
  pub behind : List FrameParts
  pub are : frames_in units ≡ before ++ brings n payload ∷ behind
  pub first : NoneTold n before
  pub last : NoneTold n behind
  pub none : NoneGo n later
  pub host : later.host.state ≡ after_all m.host.state events

-- none of the node's is among what it judges now, if anything is
pub data NoneJudged (n : ℕ) (m later : Machine) (events : List HostEvent) : Type 0 where
  Idles : later.host.state ≡ m.host.state → NoneJudged n m later events
  Judges : (units : List LineUnit) (waiting : List FrameParts) → AllByRecursion IsPlain units → unheard m.outside.outer ≡ frames_in units ++ waiting → AreJudged m.host.state (goods units) events
      → TieBy true (kept m.host.state) m.outside.outer.chip.state (frames_in units ++ waiting) [] → NoneTold n (frames_in units) → later.host.state ≡ after_all m.host.state events → NoneJudged n m later events

abbrev pub NoneJudgedAt : ℕ → Machine → Event → Type 0
NoneJudgedAt n m (Host_takes count rest items events) = NoneJudged n m (happens m (Host_takes count rest items events)) events
NoneJudgedAt n m event = Unit {0}

-- the lock hears nothing at the event, and the host judges nothing of it
abbrev pub IsApartAt : ℕ → Machine → Event → Type 0
IsApartAt n m event = IsUnheardAt n m event × NoneJudgedAt n m event

-- such a payload is judged at this event
pub record TakesHomeAt (n : ℕ) (Is : List ℕ → Type 0) (m : Machine) (event : Event) : Type 0 where
  pub count : ℕ
  pub rest : Rest
  pub items : List Item
  pub events : List HostEvent
  pub event_is : event ≡ Host_takes count rest items events
  pub takes : TakesHome n Is m (happens m event) events

-- it is alone among these in front, or among those behind
alone_amid : (n : ℕ) (payload : List ℕ) (frames : List FrameParts) → TellsAlone n payload frames → Amid (BringsNone n) (λ frame. frame ≡ brings n payload) frames
alone_amid n payload frames alone = record { before = alone.before; one = brings n payload; behind = alone.behind; are = alone.are; each = alone.first; is = refl; rest = alone.last }

amid_alone : (n : ℕ) (payload : List ℕ) (frames : List FrameParts) → Amid (BringsNone n) (λ frame. frame ≡ brings n payload) frames → TellsAlone n payload frames
amid_alone n payload frames at = record {
  before = at.before;
  behind = at.behind;
  are = at.are ∙ ap (λ (frame : FrameParts). at.before ++ frame ∷ at.behind) at.is;
  first = at.each;
  last = at.rest;
}

module _ (airs : Airs) (n : ℕ) (b : Bool) (passes ticks : ℕ) (m : Machine) (rest : Rest) (items : List Item) (events : List HostEvent) (may : May m (Host_takes (length m.outside.outer.to_host.bytes) rest items events)) where
  abbrev then_judged : Machine
  then_judged = happens m (Host_takes (length m.outside.outer.to_host.bytes) rest items events)

  pub judged_air : on_air (happens m (Host_takes (length m.outside.outer.to_host.bytes) rest items events)).outside.outer.air.frames ≡ on_air m.outside.outer.air.frames
  judged_air = (takes_calm airs m (length m.outside.outer.to_host.bytes) rest items events).on

  none_fly : NoneFly n (on_air m.outside.outer.air.frames) → NoneFly n (on_air (happens m (Host_takes (length m.outside.outer.to_host.bytes) rest items events)).outside.outer.air.frames)
  none_fly none = subst (NoneFly n) (sym judged_air) none

  idle_done : (host turn : Turn) (frames : List FrameParts) → OnLine [] [] host turn frames m → NoneJudged n m (happens m (Host_takes (length m.outside.outer.to_host.bytes) rest items events)) events
  idle_done host turn frames line = Idles (host_idles m host turn frames rest items events line may).2

  module _ (unit : LineUnit) (units : List LineUnit) (host turn : Turn) (frames : List FrameParts) (line : OnLine [] (unit ∷ units) host turn frames m) (plain : AllByRecursion IsPlain (unit ∷ units)) (few : length (unit ∷ units) ≤ 99)
      (frames_are : unheard m.outside.outer ≡ frames_in (unit ∷ units) ++ m.outside.outer.chip.state.port.waiting) (tie : TieOf true m []) where
    units_host : (AreJudged m.host.state (goods (unit ∷ units)) events) × ((happens m (Host_takes (length m.outside.outer.to_host.bytes) rest items events)).host.state ≡ after_all m.host.state events)
    units_host =
        let turned = host_turns airs m unit units host turn frames rest items events plain (omega (arith, few)) line may in
        (judged_are m (length m.outside.outer.to_host.bytes) rest items events (unit ∷ units) may turned.2, turned.3)

    units_tied : TieBy true (kept m.host.state) m.outside.outer.chip.state (frames_in (unit ∷ units) ++ m.outside.outer.chip.state.port.waiting) []
    units_tied = subst (λ (fs : List FrameParts). TieBy true (kept m.host.state) m.outside.outer.chip.state fs []) frames_are tie

    units_left : unheard (happens m (Host_takes (length m.outside.outer.to_host.bytes) rest items events)).outside.outer ≡ m.outside.outer.chip.state.port.waiting
    units_left = unheard_judged (BringsNone n) (NoneTold n) (all_piled (BringsNone n)) airs m rest items events unit units host turn frames line plain few may

    units_done : NoneTold n (frames_in (unit ∷ units)) → NoneJudged n m (happens m (Host_takes (length m.outside.outer.to_host.bytes) rest items events)) events
    units_done none = Judges (unit ∷ units) m.outside.outer.chip.state.port.waiting plain frames_are units_host.0 units_tied none units_host.1

  -- none of it is left
  pub none_told : IsDone m ⊎ HasMoved b passes m → TieOf true m [] → NoneTold n (unheard m.outside.outer) → NoneTold n (unheard (happens m (Host_takes (length m.outside.outer.to_host.bytes) rest items events)).outside.outer)
  none_told at tie none = by at
    where
      idle : (host turn : Turn) (frames : List FrameParts) → OnLine [] [] host turn frames m → NoneTold n (unheard (happens m (Host_takes (length m.outside.outer.to_host.bytes) rest items events)).outside.outer)
      idle host turn frames line = subst (NoneTold n) (sym (unheard_idle (BringsNone n) (NoneTold n) (all_piled (BringsNone n)) airs m rest items events host turn frames line may)) none

      of : (has : HasMoved b passes m) (down : List LineUnit) → OnLine [] down has.host has.turn has.frames m → AllByRecursion IsPlain down → length down ≤ 99 → unheard m.outside.outer ≡ frames_in down ++ m.outside.outer.chip.state.port.waiting
          → NoneTold n (unheard (happens m (Host_takes (length m.outside.outer.to_host.bytes) rest items events)).outside.outer)
      of has [] line plain few frames_are = idle has.host has.turn has.frames line
      of has (unit ∷ units) line plain few frames_are =
          subst (NoneTold n) (sym (units_left unit units has.host has.turn has.frames line plain few frames_are tie))
          (all_behind (BringsNone n) (frames_in (unit ∷ units)) m.outside.outer.chip.state.port.waiting (subst (NoneTold n) frames_are none))

      by : IsDone m ⊎ HasMoved b passes m → NoneTold n (unheard (happens m (Host_takes (length m.outside.outer.to_host.bytes) rest items events)).outside.outer)
      by (inl done) = idle no_turn no_turn [] done.line
      by (inr has) = of has has.down has.line has.plain has.few (moved_frames b passes m has)

  pub none_judged : IsDone m ⊎ HasMoved b passes m → TieOf true m [] → NoneGo n m → NoneGo n (happens m (Host_takes (length m.outside.outer.to_host.bytes) rest items events))
  none_judged at tie none = record { flies = none_fly none.flies; told = none_told at tie none.told }

  -- so where none of it is with the chip
  pub none_judges : IsDone m ⊎ HasMoved b passes m → TieOf true m [] → NoneTold n (unheard m.outside.outer) → NoneJudged n m (happens m (Host_takes (length m.outside.outer.to_host.bytes) rest items events)) events
  none_judges (inl done) tie none = idle_done no_turn no_turn [] done.line
  none_judges (inr has) tie none = by has.down has.line has.plain has.few (moved_frames b passes m has)
    where
      by : (down : List LineUnit) → OnLine [] down has.host has.turn has.frames m → AllByRecursion IsPlain down → length down ≤ 99 → unheard m.outside.outer ≡ frames_in down ++ m.outside.outer.chip.state.port.waiting
          → NoneJudged n m (happens m (Host_takes (length m.outside.outer.to_host.bytes) rest items events)) events
      by [] line plain few frames_are = idle_done has.host has.turn has.frames line
      by (unit ∷ units) line plain few frames_are =
          units_done unit units has.host has.turn has.frames line plain few frames_are tie (all-left (BringsNone n) (frames_in (unit ∷ units)) m.outside.outer.chip.state.port.waiting (subst (NoneTold n) frames_are none))

  module _ (left : ℕ) (Is : List ℕ → Type 0) where
    -- it is on its way still, or is judged
    abbrev pub StillOr : Type 0
    StillOr =
        (GoesHome n Is left (Sleeping passes ticks) (happens m (Host_takes (length m.outside.outer.to_host.bytes) rest items events)) × NoneJudged n m (happens m (Host_takes (length m.outside.outer.to_host.bytes) rest items events)) events)
        ⊎ TakesHome n Is m (happens m (Host_takes (length m.outside.outer.to_host.bytes) rest items events)) events

    told_judged : (payload : List ℕ) → Is payload → NoneFly n (on_air m.outside.outer.air.frames) → TellsAlone n payload (unheard (happens m (Host_takes (length m.outside.outer.to_host.bytes) rest items events)).outside.outer)
        → GoesHome n Is left (Sleeping passes ticks) (happens m (Host_takes (length m.outside.outer.to_host.bytes) rest items events))
    told_judged payload is none alone = Told payload is (none_fly none) alone tt (omega arith)

    idle_home : (host turn : Turn) (frames : List FrameParts) → OnLine [] [] host turn frames m → (payload : List ℕ) → Is payload → NoneFly n (on_air m.outside.outer.air.frames) → TellsAlone n payload (unheard m.outside.outer) → StillOr
    idle_home host turn frames line payload is none alone =
        inl (
          told_judged payload is none (subst (TellsAlone n payload) (sym (unheard_idle (BringsNone n) (NoneTold n) (all_piled (BringsNone n)) airs m rest items events host turn frames line may)) alone),
          idle_done host turn frames line,
        )

    units_home : (unit : LineUnit) (units : List LineUnit) (host turn : Turn) (frames : List FrameParts) → OnLine [] (unit ∷ units) host turn frames m → AllByRecursion IsPlain (unit ∷ units) → length (unit ∷ units) ≤ 99
        → unheard m.outside.outer ≡ frames_in (unit ∷ units) ++ m.outside.outer.chip.state.port.waiting → TieOf true m [] → (payload : List ℕ) → Is payload → NoneFly n (on_air m.outside.outer.air.frames) → TellsAlone n payload (unheard m.outside.outer) → StillOr
    units_home unit units host turn frames line plain few frames_are tie payload is none alone =
        by (amid_split (BringsNone n) (λ frame. frame ≡ brings n payload) (frames_in (unit ∷ units)) m.outside.outer.chip.state.port.waiting (alone_amid n payload (frames_in (unit ∷ units) ++ m.outside.outer.chip.state.port.waiting) (subst (TellsAlone n payload) frames_are alone)))
      where
        then_are : unheard (happens m (Host_takes (length m.outside.outer.to_host.bytes) rest items events)).outside.outer ≡ m.outside.outer.chip.state.port.waiting
        then_are = units_left unit units host turn frames line plain few frames_are tie

        by : (Amid (BringsNone n) (λ frame. frame ≡ brings n payload) (frames_in (unit ∷ units)) × AllByRecursion (BringsNone n) m.outside.outer.chip.state.port.waiting)
            ⊎ (AllByRecursion (BringsNone n) (frames_in (unit ∷ units))
            × ((on : Amid (BringsNone n) (λ frame. frame ≡ brings n payload) m.outside.outer.chip.state.port.waiting)
            × (on.behind ≡ (alone_amid n payload (frames_in (unit ∷ units) ++ m.outside.outer.chip.state.port.waiting) (subst (TellsAlone n payload) frames_are alone)).behind))) → StillOr
        by (inl (there, others)) =
            let own = amid_alone n payload (frames_in (unit ∷ units)) there in
            let judged = units_host unit units host turn frames line plain few frames_are tie in
            inr
            (record {
              payload = payload;
              is = is;
              units = unit ∷ units;
              waiting = m.outside.outer.chip.state.port.waiting;
              plain = plain;
              told = frames_are;
              judged = judged.0;
              tied = units_tied unit units host turn frames line plain few frames_are tie;
              before = own.before;
              behind = own.behind;
              are = own.are;
              first = own.first;
              last = own.last;
              none = record { flies = none_fly none; told = subst (NoneTold n) (sym then_are) others };
              host = judged.1;
            })
        by (inr (others, (there, same))) =
            inl (
              told_judged payload is none (subst (TellsAlone n payload) (sym then_are) (amid_alone n payload m.outside.outer.chip.state.port.waiting there)),
              units_done unit units host turn frames line plain few frames_are tie others,
            )

    pub home_judged : IsDone m ⊎ HasMoved b passes m → TieOf true m [] → GoesHome n Is left (Moved b passes ticks) m → StillOr
    home_judged at tie (Flies stands front behind none silent few) =
        inl (
          Flies (record { before = stands.before; frame = stands.frame; behind = stands.behind; are = judged_air ∙ stands.are; is = stands.is }) front behind (none_told at tie none) tt (omega (arith, few)),
          none_judges at tie none,
        )
    home_judged (inl done) tie (Told payload is none alone silent few) = idle_home no_turn no_turn [] done.line payload is none alone
    home_judged (inr has) tie (Told payload is none alone silent few) = by has.down has.line has.plain has.few (moved_frames b passes m has)
      where
        by : (down : List LineUnit) → OnLine [] down has.host has.turn has.frames m → AllByRecursion IsPlain down → length down ≤ 99 → unheard m.outside.outer ≡ frames_in down ++ m.outside.outer.chip.state.port.waiting → StillOr
        by [] line plain few_units frames_are = idle_home has.host has.turn has.frames line payload is none alone
        by (unit ∷ units) line plain few_units frames_are = units_home unit units has.host has.turn has.frames line plain few_units frames_are tie payload is none alone
