-- An event gives the chip at most one frame for the host; and where that is dropped, since as many wait as may, no frame is begun.
use Rattle.std.proofs.Common.{◌≡◌, ◌==◌, Bool, true, false, if◌then◌else◌, ◌⊎◌, inl, inr, List, [], ◌∷◌, map, refl, sym, ap, ◌∙◌, cond}
use Rattle.std.specs.Prelude.{Option, Some, None}
use Rattle.serial_frame.specs.Frame.{FrameParts}
use Rattle.serial_frame.specs.declared.item.Item.{Item}
use Rattle.serial_frame.specs.declared.item.Item.TheVariants.{Good, Refused}
use Rattle.serial_frame.specs.declared.unit.Unit.TheVariants.{Ack, Nak, Can, Framed}
use Rattle.serial_link.specs.declared.turn.Turn.{Turn}
use Rattle.serial_link.specs.declared.turn.Turn.TheVariants.{Idle, Copied, Paused}
use Rattle.chip_functions.specs.declared.notice.TransmitStatus.{TransmitStatus}
use Rattle.chip_sim.specs.Waiting.{is_full}
use Rattle.chip_sim.specs.State.{ChipState}
use Rattle.chip_sim.specs.Requests.{passed, asked, heard, reply_if}
use Rattle.chip_sim.specs.Events.{ChipEvent, Judged, Ticked, Heard, Done, Informed, Joined, Linked, Forgets, Collides, collides}
use Rattle.chip_sim.specs.Rules.{WaitsWhileBusy, WaitsWell, begun_at, begun_posts, ended_posts, judged_begun, judged_posts, kept, listed, posts, drops}
use Rattle.chip_sim.specs.declared.out.Sending.{Sending}
use Rattle.chip_sim.specs.declared.out.ChipOut.{ChipOut}
use Rattle.chip_sim.specs.declared.out.ChipOut.TheVariants.{Full}

-- ---- at most one

-- none, or one
abbrev pub IsFew : List FrameParts → Type 0
IsFew frames = (frames ≡ []) ⊎ ((f : FrameParts) × (frames ≡ f ∷ []))

listed_few : (o : Option FrameParts) → IsFew (listed o)
listed_few None = inl refl
listed_few (Some f) = inr (f, refl)

judged_few : (o : Option FrameParts) (s : ChipState) → IsFew (judged_posts o s)
judged_few None s = inl refl
judged_few (Some f) s = listed_few (reply_if s (asked f))

ended_few : (o : Option Sending) (status : TransmitStatus) → IsFew (ended_posts o status)
ended_few None status = inl refl
ended_few (Some sending) status = inr (_, refl)

few_if : (b : Bool) (frames : List FrameParts) → IsFew frames → IsFew (if b then frames else [])
few_if true frames few = few
few_if false frames few = inl refl

pub posts_few : (s : ChipState) (e : ChipEvent) → IsFew (posts s e)
posts_few s (Judged item way) = judged_few (passed (collides s) item) (heard s item)
posts_few s Ticked = inl refl
posts_few s (Heard n payload) = inr (_, refl)
posts_few s (Done status) = few_if (s.aborted == 0) (ended_posts s.sending status) (ended_few s.sending status)
posts_few s (Informed n profile) = inr (_, refl)
posts_few s (Joined n listening) = inl refl
posts_few s (Linked a b live) = inl refl
posts_few s (Forgets a b) = inl refl
posts_few s Collides = inl refl

-- ---- where as many wait as may

no_post : {A : Type 0} (f : FrameParts) → [] ≡ f ∷ [] → A
no_post f is = absurd cc

-- a link for which frames wait begins none
none_begun : (turn : Turn) (waiting frames : List FrameParts) → WaitsWhileBusy turn waiting → is_full waiting ≡ true → begun_posts turn frames ≡ []
none_begun Idle waiting frames busy full =
    absurd (let none : false ≡ true = sym (ap is_full busy) ∙ full in cc)
none_begun (Copied g copies ticks) waiting frames busy full = refl
none_begun (Paused g copies ticks) waiting frames busy full = refl

judged_none : (b : Bool) (item : Item) (s : ChipState) (f : FrameParts) → WaitsWell s.port → is_full s.port.waiting ≡ true → judged_posts (passed b item) (heard s item) ≡ f ∷ []
    → judged_begun (passed b item) (heard s item) ≡ []
judged_none true item s f well full is = no_post f is
judged_none false (Good Ack) s f well full is = no_post f is
judged_none false (Good Nak) s f well full is = no_post f is
judged_none false (Good Can) s f well full is = no_post f is
judged_none false (Good (Framed g)) s f well full is = none_begun s.port.side.turn s.port.waiting (judged_posts (Some g) (heard s (Good (Framed g)))) well.busy full
judged_none false (Refused r) s f well full is = no_post f is

pub full_none : (s : ChipState) (e : ChipEvent) (f : FrameParts) → WaitsWell s.port → is_full s.port.waiting ≡ true → posts s e ≡ f ∷ [] → begun_at s e ≡ []
full_none s (Judged item way) f well full is = judged_none (collides s) item s f well full is
full_none s Ticked f well full is = no_post f is
full_none s (Heard n payload) f well full is = none_begun s.port.side.turn s.port.waiting (posts s (Heard n payload)) well.busy full
full_none s (Done status) f well full is = none_begun s.port.side.turn s.port.waiting (posts s (Done status)) well.busy full
full_none s (Informed n profile) f well full is = none_begun s.port.side.turn s.port.waiting (posts s (Informed n profile)) well.busy full
full_none s (Joined n listening) f well full is = no_post f is
full_none s (Linked a b live) f well full is = no_post f is
full_none s (Forgets a b) f well full is = no_post f is
full_none s Collides f well full is = no_post f is

-- ---- what is kept, and what is dropped

abbrev map_full : List FrameParts → List ChipOut
map_full frames = map (λ (f : FrameParts). Full) frames

-- the frame is dropped, or what the event gives is kept
pub data Fate (s : ChipState) (e : ChipEvent) : Type 0 where
  Stays : kept s e ≡ posts s e → drops s e ≡ [] → Fate s e
  Falls : (f : FrameParts) → posts s e ≡ f ∷ [] → is_full s.port.waiting ≡ true → kept s e ≡ [] → drops s e ≡ Full ∷ [] → Fate s e

pub fate_of : (s : ChipState) (e : ChipEvent) → Fate s e
fate_of s e = by (is_full s.port.waiting) refl (posts_few s e)
  where
    by : (full : Bool) → is_full s.port.waiting ≡ full → IsFew (posts s e) → Fate s e
    by false is few =
        Stays (ap (λ (b : Bool). cond b [] (posts s e)) is) (ap (λ (b : Bool). cond b (map_full (posts s e)) []) is)
    by true is (inl none) =
        Stays (ap (λ (b : Bool). cond b [] (posts s e)) is ∙ sym none)
        (ap (λ (b : Bool). cond b (map_full (posts s e)) []) is ∙ ap (λ (l : List FrameParts). map_full l) none)
    by true is (inr (f, one)) =
        Falls f one is (ap (λ (b : Bool). cond b [] (posts s e)) is)
        (ap (λ (b : Bool). cond b (map_full (posts s e)) []) is ∙ ap (λ (l : List FrameParts). map_full l) one)
