-- A node that sleeps has risen once the host was told that it is awake: from then on it counts as up, and no task goes before its work, while something is left for it.
use Rattle.std.proofs.Common.{◌≡◌, ℕ, ◌&&◌, ◌||◌, inl, inr, Bool, true, false, List, [], ◌∷◌, ◌++◌, refl, sym, ap, ◌∙◌, subst}
use Rattle.std.specs.Prelude.{◌⊎◌}
use Rattle.std.specs.List.{AllByRecursion}
use Rattle.zw_base.proofs.Each.{all-right}
use Rattle.zw_text.specs.declared.entry.Entry.{Entry}
use Rattle.serial_frame.specs.Frame.{FrameParts}
use Rattle.air_frames.specs.Flown.{Flown}
use Rattle.chip_sim.specs.Nodes.{is_marked}
use Rattle.device_kinds.specs.Kind.{listens}
use Rattle.device_sim.specs.State.{State}
use Rattle.host_heard.specs.declared.told.Told.{Told}
use Rattle.host_heard.specs.declared.told.Told.TheVariants.{Notification}
use Rattle.host_heard.specs.declared.payload.Heard.TheVariants.{Messages}
use Rattle.host_node.specs.State.{is_up}
use Rattle.host_node.specs.declared.no_more.NoMore.TheVariants.{Unasked, Queued}
use Rattle.host_model.specs.State.{HostState, node_of}
use Rattle.law_time.specs.Stretches.{turns, wakes_never}
use Rattle.world_model.specs.State.{Machine}
use Rattle.proof_answered.specs.proof_calm.proof_traffic.OnAir.{hosts_on_air, on_air}
use Rattle.proof_answered.specs.proof_calm.proof_work.proof_walk.Phases.{Between, Phase}
use Rattle.proof_answered.specs.proof_calm.Tied.{unheard}
use Rattle.proof_answered.specs.Listening.{HasListener}
use Rattle.proof_answered.specs.Outward.{AllListen}
use Rattle.proof_answered.specs.Sleepers.{AllHear, All_listen, Back_asleep, Before, BringsNotification, Comes_home, Flies_home, HasLeft, HasOne, HasSleeper, IsAfter, IsNotification, IsQuietFlown, IsQuietFrame, IsQuietTold, IsToWake, IsUpAt, Is_queued, Is_sent, NoMoreAt, NoneWakes, Not_asked, Not_yet, Now, OneWakes, One_sleeps, SleeperAt, TellsQuietly, TellsWaking, Up, Was_told, Woken}
use Rattle.proof_answered.proofs.SleeperTexts.{before_or_after, never_both}
use Rattle.proof_answered.proofs.WokenLast.{turns_both}
use Rattle.proof_course_plain.proofs.Replies.{one_place, one_stands}
use Rattle.proof_in_time.specs.Coming.{Has, Stands, brings}
use Rattle.proof_in_time.proofs.InHand.{HasTurn, turn_left}
use Rattle.proof_in_time.specs.InHand.{AllServe, Serves, SleepsAlone}

-- ---- what tells a waking

same_told : (a b : Told) → Messages (a ∷ []) ≡ Messages (b ∷ []) → a ≡ b
same_told a b e = cc

quiet_wakes_not : (payload : List ℕ) → TellsQuietly payload → TellsWaking payload → ⊥
quiet_wakes_not payload quiet wakes = subst IsQuietTold (same_told quiet.told Notification (sym quiet.heard ∙ wakes.heard)) quiet.quiet

-- one of these frames of the air does, or none
pub none_flies : (n : ℕ) (flights : List Flown) → AllByRecursion IsQuietFlown flights → Stands (IsNotification n) flights → ⊥
none_flies n flights quiet at =
    let parts = all-right IsQuietFlown at.before (at.frame ∷ at.behind) (subst (AllByRecursion IsQuietFlown) at.are quiet) in
    quiet_wakes_not at.frame.payload (parts.0 at.is.home) at.is.tells

pub one_flies : (n : ℕ) (flights : List Flown) → HasOne (IsNotification n) IsQuietFlown flights → Stands (IsNotification n) flights
one_flies n [] none = absurd none
one_flies n (frame ∷ flights) (inl (is, others)) = record { before = []; frame = frame; behind = flights; are = refl; is = is }
one_flies n (frame ∷ flights) (inr (other, one)) =
    let at = one_flies n flights one in record { before = frame ∷ at.before; frame = at.frame; behind = at.behind; are = ap (λ (fs : List Flown). frame ∷ fs) at.are; is = at.is }

-- one of the frames of the chip, or none
pub none_comes : (n : ℕ) (payload : List ℕ) (frames : List FrameParts) → AllByRecursion IsQuietFrame frames → TellsWaking payload → Has (brings n payload) frames → ⊥
none_comes n payload [] quiet tells has = has
none_comes n payload (frame ∷ frames) quiet tells (inl is) = quiet_wakes_not payload (quiet.0 n payload (sym is)) tells
none_comes n payload (frame ∷ frames) quiet tells (inr has) = none_comes n payload frames quiet.1 tells has

pub record ComesFrom (n : ℕ) (frames : List FrameParts) : Type 0 where
  pub payload : List ℕ
  pub tells : TellsWaking payload
  pub has : Has (brings n payload) frames

pub one_comes : (n : ℕ) (frames : List FrameParts) → HasOne (BringsNotification n) IsQuietFrame frames → ComesFrom n frames
one_comes n [] none = absurd none
one_comes n (frame ∷ frames) (inl (is, others)) = record { payload = is.payload; tells = is.tells; has = inl (sym is.is) }
one_comes n (frame ∷ frames) (inr (other, one)) = let from = one_comes n frames one in record { payload = from.payload; tells = from.tells; has = inr from.has }

pub not_both_wake : (n : ℕ) (m : Machine) → OneWakes n m → NoneWakes m → ⊥
not_both_wake n m (Flies_home one pending) none = none_flies n (on_air m.outside.outer.air.frames) none.frames (one_flies n (on_air m.outside.outer.air.frames) one)
not_both_wake n m (Comes_home frames one) none = let from = one_comes n (unheard m.outside.outer) one in none_comes n from.payload (unheard m.outside.outer) none.pending from.tells from.has

-- ---- its lines

-- what was woken stays so
pub woken_still : (n : ℕ) (past told : List Entry) → wakes_never (turns n past) ≡ false → wakes_never (turns n (past ++ told)) ≡ false
woken_still n past told woken =
    ap wakes_never (turns_both n past told) ∙ never_both (turns n past) (turns n told) ∙ ap (λ (b : Bool). b && wakes_never (turns n told)) woken

-- ---- a node that has risen

-- its line was said, and its Notification is on its way no more
pub record HasRisen (n : ℕ) (here : Phase) (past : List Entry) (m : Machine) : Type 0 where
  pub later : IsAfter n here past
  pub quiet : NoneWakes m

-- while something is left for a node, it counts as up; and where it has a turn, no task goes before its work
pub record IsServed (n : ℕ) (h : HostState) : Type 0 where
  pub up : HasLeft (node_of h n) → is_up (node_of h n) ≡ true
  pub empty : HasTurn (node_of h n) → h.requests.queue ≡ []

or_true : (a b : Bool) → b ≡ true → (a || b) ≡ true
or_true true b is = refl
or_true false b is = is

up_served : (n : ℕ) (h : HostState) → IsUpAt n h → IsServed n h
up_served n h up = record { up = λ left. or_true (node_of h n).listens (node_of h n).awake up.kept.awake; empty = λ turn. by (turn_left (node_of h n) turn) up.no_more }
  where
    not_queued : HasLeft (node_of h n) → (node_of h n).no_more ≡ Queued → ⊥
    not_queued left queued = absurd (let wrong : Queued ≡ Unasked = sym queued ∙ up.kept.unasked left in cc)

    by : HasLeft (node_of h n) → NoMoreAt n h → h.requests.queue ≡ []
    by left (Not_asked empty untold) = empty
    by left (Is_queued queue untold queued) = absurd (not_queued left queued)
    by left (Is_sent empty telling queued) = empty

pub risen_served : (n : ℕ) (device : State) (here : Phase) (past : List Entry) (m : Machine) → SleeperAt n device here past m → HasRisen n here past m → IsServed n m.host.state
risen_served n device here past m (Before before down none quiet) risen = absurd (before_or_after n here past before risen.later)
risen_served n device here past m (Woken later down none one awake) risen = absurd (not_both_wake n m one risen.quiet)
risen_served n device here past m (Up later up quiet awake) risen = up_served n m.host.state up
risen_served n device here past m (Was_told later up telling line none quiet) risen = up_served n m.host.state up
risen_served n device here past m (Back_asleep later down nothing none quiet) risen = record { up = λ left. absurd (nothing left); empty = λ turn. absurd (nothing (turn_left (node_of m.host.state n) turn)) }

-- where it may be, it has risen, or is woken
pub risen_or : (n : ℕ) (device : State) (here : Phase) (past : List Entry) (m : Machine) → SleeperAt n device here past m → wakes_never (turns n past) ≡ false → (IsToWake n here → ⊥) → OneWakes n m ⊎ HasRisen n here past m
risen_or n device here past m (Before (Not_yet never not_now) down none quiet) woken not_now_wakes = absurd (let wrong : true ≡ false = sym never ∙ woken in cc)
risen_or n device here past m (Before (Now was wakes) down none quiet) woken not_now_wakes = absurd (not_now_wakes wakes)
risen_or n device here past m (Woken later down none one awake) woken not_now_wakes = inl one
risen_or n device here past m (Up later up quiet awake) woken not_now_wakes = inr (record { later = later; quiet = quiet })
risen_or n device here past m (Was_told later up telling line none quiet) woken not_now_wakes = inr (record { later = later; quiet = quiet })
risen_or n device here past m (Back_asleep later down nothing none quiet) woken not_now_wakes = inr (record { later = later; quiet = quiet })

-- ---- the one of these that sleeps

-- no device both listens and sleeps
pub not_both : (n : ℕ) (devices : List State) → HasListener n devices → HasSleeper n devices → ⊥
not_both n devices hears sleeps =
    let place : hears.place ≡ sleeps.place = one_place n devices hears.place sleeps.place hears.first sleeps.first in
    let device : hears.device ≡ sleeps.device = one_stands devices hears.place sleeps.place hears.device sleeps.device hears.stands sleeps.stands place in
    absurd (let wrong : true ≡ false = sym hears.is_up.is_listening ∙ (ap (λ (d : State). listens d.kind) device ∙ sleeps.sleeps) in cc)

abbrev pub RestsAt : ℕ → Phase → List Entry → Machine → Type 0
RestsAt n here past m = (is : HasSleeper n m.outside.devices) × SleeperAt n is.device here past m

pub rests_at : (these : List Bool) (n : ℕ) (here : Phase) (past : List Entry) (m : Machine) → is_marked these n ≡ true → SleepsAlone these m → AllHear these here past m → RestsAt n here past m
rests_at these n here past m marked (k, (alone, sleeps)) (All_listen listen) = absurd (not_both k m.outside.devices (listen.nodes k alone.marked) sleeps)
rests_at these n here past m marked sleeps (One_sleeps k alone fly is at) = subst (λ (j : ℕ). RestsAt j here past m) (sym (alone.only n marked)) (is, at)

-- the host does not listen to it, and takes it to be asleep as long as it was not woken
pub rests_unheard : (n : ℕ) (device : State) (here : Phase) (past : List Entry) (m : Machine) → SleeperAt n device here past m → (node_of m.host.state n).listens ≡ false
rests_unheard n device here past m (Before before down none quiet) = down.sleeps
rests_unheard n device here past m (Woken later down none one awake) = down.sleeps
rests_unheard n device here past m (Up later up quiet awake) = up.sleeps
rests_unheard n device here past m (Was_told later up telling line none quiet) = up.sleeps
rests_unheard n device here past m (Back_asleep later down nothing none quiet) = down.sleeps

-- at first it is down, and no frame of the host is on the air
pub rests_down : (n : ℕ) (device : State) (here : Phase) (m : Machine) → SleeperAt n device here [] m → is_up (node_of m.host.state n) ≡ false
rests_down n device here m (Before before down none quiet) = ap (λ (b : Bool). b || (node_of m.host.state n).awake) down.sleeps ∙ down.asleep
rests_down n device here m (Woken later down none one awake) = absurd (let wrong : true ≡ false = later.woken in cc)
rests_down n device here m (Up later up quiet awake) = absurd (let wrong : true ≡ false = later.woken in cc)
rests_down n device here m (Was_told later up telling line none quiet) = absurd (let wrong : true ≡ false = later.woken in cc)
rests_down n device here m (Back_asleep later down nothing none quiet) = absurd (let wrong : true ≡ false = later.woken in cc)

pub rests_silent : (n : ℕ) (device : State) (m : Machine) → SleeperAt n device Between [] m → hosts_on_air m.outside.outer ≡ 0
rests_silent n device m (Before before down none quiet) = none
rests_silent n device m (Woken later down none one awake) = none
rests_silent n device m (Up later up quiet awake) = absurd (let wrong : true ≡ false = later.woken in cc)
rests_silent n device m (Was_told later up telling line none quiet) = none
rests_silent n device m (Back_asleep later down nothing none quiet) = none

-- so where it listens to these, their devices do
pub serve_listen : (these : List Bool) (here : Phase) (past : List Entry) (m : Machine) → AllServe these m.host.state → AllHear these here past m → AllListen these m
serve_listen these here past m serve (All_listen listen) = listen
serve_listen these here past m serve (One_sleeps k alone fly is at) = absurd (let wrong : true ≡ false = sym (serve.listens k alone.marked) ∙ rests_unheard k is.device here past m at in cc)

-- each of these is served, where the host listens to it, or it has risen
abbrev pub Risen : Bool → ℕ → Phase → List Entry → Machine → Type 0
Risen true n here past m = Unit {0}
Risen false n here past m = HasRisen n here past m

pub serves_now : (listening : Bool) (these : List Bool) (n : ℕ) (here : Phase) (past : List Entry) (m : Machine) → is_marked these n ≡ true → Serves listening these m → AllHear these here past m → Risen listening n here past m → IsServed n m.host.state
serves_now true these n here past m marked serve hears risen = record { up = λ left. ap (λ (b : Bool). b || (node_of m.host.state n).awake) (serve.listens n marked); empty = λ turn. serve.no_task }
serves_now false these n here past m marked sleeps hears risen = let at = rests_at these n here past m marked sleeps hears in risen_served n at.0.device here past m at.1 risen
