-- What the frames that wait become, over plain parts of the chip.
use Rattle.std.proofs.Common.{◌≡◌, ◌≢◌, ℕ, suc, ◌+◌, ◌≤◌, ◌<◌, Bool, true, false, cond, eqb, List, [], ◌∷◌, ◌++◌, length, refl, ap, sym, ◌∙◌, subst, arith, length-append, eq-eqb, inl, inr}
use Rattle.std.specs.Prelude.{Option, Some, None, filter}
use Rattle.std.proofs.lemmas.List.{append-nil}
use Rattle.std.proofs.lemmas.Bool.{cases_eq}
use Rattle.serial_frame.specs.Frame.{FrameParts}
use Rattle.serial_link.specs.State.{Side}
use Rattle.serial_link.specs.declared.turn.Turn.{Turn}
use Rattle.serial_link.specs.declared.turn.Turn.TheVariants.{Idle, Copied, Paused}
use Rattle.chip_sim.specs.Waiting.{PortState, is_full, queued, queued_outs, next_at, served, served_outs, written}
use Rattle.chip_sim.specs.Rules.{listed, begun_posts, WaitsWhileBusy, WaitsWell, is_drop}
use Rattle.chip_sim.specs.declared.out.ChipOut.{ChipOut}
use Rattle.chip_sim.specs.declared.out.ChipOut.TheVariants.{Full}

-- a port by its parts
abbrev pub port_of : Turn → ℕ → List FrameParts → PortState
port_of turn collisions waiting = record { side = record { turn = turn; collisions = collisions }; waiting = waiting }

-- fewer than may wait, unless the list is full
not_full : (waiting : List FrameParts) → length waiting ≤ 32 → is_full waiting ≡ false → length waiting < 32
not_full waiting few room =
    elim (cases_eq (length waiting) 32) [
      | inl full ↦ let e : true ≡ false = sym (eq-eqb (length waiting) 32 full) ∙ room in absurd (cc)
      | inr other ↦ omega (arith, few, other)
    ]

-- one more frame waits, unless the list is full
added : (b : Bool) (side : Side) (waiting : List FrameParts) (f : FrameParts) → is_full waiting ≡ b → ((w : List FrameParts) → WaitsWhileBusy side.turn w) → length waiting ≤ 32
    → WaitsWell (cond b (record { side = side; waiting = waiting }) (record { side = side; waiting = waiting ++ f ∷ [] }))
added true side waiting f e busy few = record { busy = busy waiting; few = few }
added false side waiting f e busy few = record { busy = busy (waiting ++ f ∷ []); few = omega (arith, not_full waiting few e, length-append waiting (f ∷ [])) }

well_queued_by : (turn : Turn) (n : ℕ) (waiting : List FrameParts) (f : FrameParts) → WaitsWell (port_of turn n waiting) → WaitsWell (queued (port_of turn n waiting) f)
well_queued_by Idle n waiting f well = record { busy = tt; few = well.few }
well_queued_by (Copied g copies ticks) n waiting f well = added (is_full waiting) (record { turn = Copied g copies ticks; collisions = n }) waiting f refl (λ w. tt) well.few
well_queued_by (Paused g copies ticks) n waiting f well = added (is_full waiting) (record { turn = Paused g copies ticks; collisions = n }) waiting f refl (λ w. tt) well.few

pub well_queued : (p : PortState) (f : FrameParts) → WaitsWell p → WaitsWell (queued p f)
well_queued p f well = well_queued_by p.side.turn p.side.collisions p.waiting f well

well_served_by : (turn : Turn) (n : ℕ) (waiting : List FrameParts) → length waiting ≤ 32 → WaitsWell (served (port_of turn n waiting))
well_served_by Idle n [] few = record { busy = refl; few = few }
well_served_by Idle n (f ∷ waiting) few = record { busy = tt; few = omega (arith, few) }
well_served_by (Copied g copies ticks) n waiting few = record { busy = tt; few = few }
well_served_by (Paused g copies ticks) n waiting few = record { busy = tt; few = few }

pub well_served : (p : PortState) → length p.waiting ≤ 32 → WaitsWell (served p)
well_served p few = well_served_by p.side.turn p.side.collisions p.waiting few

-- the frames keep their order

abbrev one_of : Bool → Side → List FrameParts → FrameParts → PortState
one_of b side waiting f = cond b (record { side = side; waiting = waiting }) (record { side = side; waiting = waiting ++ f ∷ [] })

same_end : (b : Bool) (side : Side) (waiting : List FrameParts) (f : FrameParts) → waiting ++ cond b [] (f ∷ []) ≡ (one_of b side waiting f).waiting
same_end true side waiting f = append-nil waiting
same_end false side waiting f = refl

order_queued_by : (turn : Turn) (n : ℕ) (waiting : List FrameParts) (f : FrameParts) → WaitsWell (port_of turn n waiting)
    → waiting ++ cond (is_full waiting) [] (f ∷ []) ≡ begun_posts turn (f ∷ []) ++ (queued (port_of turn n waiting) f).waiting
order_queued_by Idle n waiting f well = rw well.busy refl
order_queued_by (Copied g copies ticks) n waiting f well = same_end (is_full waiting) (record { turn = Copied g copies ticks; collisions = n }) waiting f
order_queued_by (Paused g copies ticks) n waiting f well = same_end (is_full waiting) (record { turn = Paused g copies ticks; collisions = n }) waiting f

pub order_queued : (p : PortState) (f : FrameParts) → WaitsWell p → p.waiting ++ cond (is_full p.waiting) [] (f ∷ []) ≡ begun_posts p.side.turn (f ∷ []) ++ (queued p f).waiting
order_queued p f well = order_queued_by p.side.turn p.side.collisions p.waiting f well

order_served_by : (turn : Turn) (n : ℕ) (waiting : List FrameParts) → waiting ≡ listed (next_at turn waiting) ++ (served (port_of turn n waiting)).waiting
order_served_by Idle n [] = refl
order_served_by Idle n (f ∷ waiting) = refl
order_served_by (Copied g copies ticks) n waiting = refl
order_served_by (Paused g copies ticks) n waiting = refl

pub order_served : (p : PortState) → p.waiting ≡ listed (next_at p.side.turn p.waiting) ++ (served p).waiting
order_served p = order_served_by p.side.turn p.side.collisions p.waiting

pub none_begun : (turn : Turn) → begun_posts turn [] ≡ []
none_begun Idle = refl
none_begun (Copied g copies ticks) = refl
none_begun (Paused g copies ticks) = refl

pub both_none : {A : Type 0} (b : Bool) → cond {A = List A} b [] [] ≡ []
both_none true = refl
both_none false = refl

-- what is dropped

drop_full : (b : Bool) → filter is_drop (cond b (Full ∷ []) []) ≡ cond b (Full ∷ []) []
drop_full true = refl
drop_full false = refl

drop_queued_by : (turn : Turn) (n : ℕ) (waiting : List FrameParts) (f : FrameParts) → WaitsWell (port_of turn n waiting)
    → filter is_drop (queued_outs (port_of turn n waiting) f) ≡ cond (is_full waiting) (Full ∷ []) []
drop_queued_by Idle n waiting f well = rw well.busy refl
drop_queued_by (Copied g copies ticks) n waiting f well = drop_full (is_full waiting)
drop_queued_by (Paused g copies ticks) n waiting f well = drop_full (is_full waiting)

pub drop_queued : (p : PortState) (f : FrameParts) → WaitsWell p → filter is_drop (queued_outs p f) ≡ cond (is_full p.waiting) (Full ∷ []) []
drop_queued p f well = drop_queued_by p.side.turn p.side.collisions p.waiting f well

pub drop_written : (next : Option FrameParts) → filter is_drop (written next) ≡ []
drop_written None = refl
drop_written (Some f) = refl
