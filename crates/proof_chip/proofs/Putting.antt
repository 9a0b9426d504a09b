-- The frames that the transcript shows are those that went on the air: with entries that show none, and with one more frame of the controller.
use Rattle.std.proofs.Common.{◌≡◌, ◌<◌, ◌≤◌, ◌⊎◌, ℕ, ◌+◌, ◌&&◌, ◌||◌, nat_le, nat_lt, Bool, true, false, inl, inr, List, [], ◌∷◌, ◌++◌, length, refl, sym, ap, ap₂, ◌∙◌, subst, append-nil, arith}
use Rattle.std.proofs.lemmas.Bool.{cases_lt}
use Rattle.std.proofs.lemmas.List.{get_or_past}
use Rattle.std.specs.Prelude.{Some}
use Rattle.std.specs.List.{AllByRecursion}
use Rattle.zw_base.proofs.Each.{all-weaker}
use Rattle.route_table.specs.declared.route.Route.{Route}
use Rattle.air_frames.specs.declared.frame.Departure.{Departure}
use Rattle.air_frames.specs.declared.frame.Heading.TheVariants.{Outward}
use Rattle.air_frames.specs.Flown.{Flown}
use Rattle.air_frames.specs.Frames.{putting}
use Rattle.air_frames.specs.History.{Mark, Goes as goes_mark}
use Rattle.chip_sim.specs.Nodes.{is_marked}
use Rattle.chip_sim.specs.State.{ChipState}
use Rattle.chip_sim.specs.Answers.{is_idle, takes as takes_of}
use Rattle.mesh_sim.specs.Air.{AirState, departing}
use Rattle.zw_words.specs.declared.side.Side.TheVariants.{Chip as by_chip}
use Rattle.zw_text.specs.declared.entry.Entry.{Entry}
use Rattle.zw_text.specs.declared.entry.Entry.TheVariants as entry
use Rattle.zw_text.specs.Transcript.{AirFrame, frame_at, frames}
use Rattle.zw_text.proofs.Views.{shown-append}
use Rattle.outside_model.specs.State.{OuterState}
use Rattle.proof_line.specs.proof_traffic.Flights.{Fly, flown_now}
use Rattle.proof_line.specs.proof_traffic.OnAir.{on_air}
use Rattle.proof_line.proofs.Flights.{flights_are}
use Rattle.proof_line.proofs.Parts.{Laws}
use Rattle.proof_chip.specs.Tally.{numbers_from, outlook}
use Rattle.proof_chip.proofs.Airing.{IsMore, answer}
use Rattle.proof_chip.proofs.Growing.{told}
use Rattle.proof_chip.proofs.Numbering.{numbers_below, numbers_both}
use Rattle.proof_chip.proofs.Settling.{IsIdle}

-- ---- entries

pub more_idle : (e : Entry) → IsMore e → IsIdle e
more_idle (entry.Said words) more = absurd (let no : false ≡ true = more.0 in cc)
more_idle (entry.Time tick) more = absurd (let no : false ≡ true = more.0 in cc)
more_idle (entry.Heard frame) more = absurd (let no : false ≡ true = more.0 in cc)
more_idle (entry.Lost frame) more = absurd (let no : false ≡ true = more.0 in cc)
more_idle (entry.Unheard frame) more = absurd (let no : false ≡ true = more.0 in cc)
more_idle (entry.Air frame sender receiver repeaters payload) more = absurd (let no : false ≡ true = more.0 in cc)
more_idle (entry.Written by_chip unit) more = (more.1, more.1)
more_idle e more = (tt, tt)

pub more_frames : (told : List Entry) → AllByRecursion IsMore told → frames told ≡ []
more_frames [] more = refl
more_frames (entry.Air frame sender receiver repeaters payload ∷ told) more = absurd (let no : false ≡ true = more.0.0 in cc)
more_frames (e ∷ told) more = more_frames told more.1

-- ---- the frames on the air

-- the frames that the transcript shows are those that went on the air, in the order in which they are kept; the tables of the chip have a place for each node
pub record Puts (past : List Entry) (o : OuterState) : Type 0 where
  pub log : List Mark
  pub fly : Fly log (on_air o.air.frames) o.air.frames
  pub sent : length (frames past) ≡ o.air.frames.sent
  pub joined : length o.chip.state.joined ≡ 233

module _ (laws : Laws) where
  -- the next number is above all of these
  pub numbers_next : (past : List Entry) (o : OuterState) → Puts past o → AllByRecursion (λ (n : ℕ). n < length (frames past) + 1) (outlook o).numbers
  numbers_next past o puts =
      let count = laws.air.count puts.log (on_air o.air.frames) o.air.frames puts.fly in
      let order = puts.fly.history.order in
      let sent = puts.sent in
      all-weaker (λ (n : ℕ). n < o.air.frames.landed + 1 + length (on_air o.air.frames)) (λ (n : ℕ). n < length (frames past) + 1) (λ n is. omega (arith, is, count, order, sent)) (outlook o).numbers
      (numbers_below (o.air.frames.landed + 1) (on_air o.air.frames))

  abbrev pub departs : AirState → ℕ → Route → List ℕ → Departure
  departs air node route payload = record { node = node; heading = Outward; route = route; lost = nat_lt 0 air.losing || false; payload = payload }

  -- with one more of the controller
  pub record Aired (past : List Entry) (o : OuterState) (air : AirState) : Type 0 where
    pub log : List Mark
    pub fly : Fly log (on_air air.frames) air.frames
    pub sent : air.frames.sent ≡ o.air.frames.sent + 1
    pub numbers : numbers_from (air.frames.landed + 1) (on_air air.frames) ≡ (outlook o).numbers ++ (length (frames past) + 1) ∷ []

  pub airs_one : (past : List Entry) (o : OuterState) (node : ℕ) (route : Route) (payload : List ℕ) → node < 233 → Puts past o → Aired past o (departing o.air node Outward (Some route) payload)
  unfolding putting
  airs_one past o node route payload within puts =
      let air : AirState = departing o.air node Outward (Some route) payload in
      let d : Departure = departs o.air node route payload in
      let flights : List Flown = on_air o.air.frames in
      let one : Flown = flown_now puts.log d in
      let fly = laws.air.goes puts.log flights o.air.frames d within puts.fly in
      let are : flights ++ one ∷ [] ≡ on_air air.frames = flights_are (puts.log ++ goes_mark d ∷ []) (flights ++ one ∷ []) air.frames fly in
      let count = laws.air.count puts.log flights o.air.frames puts.fly in
      let order = puts.fly.history.order in
      let sent = puts.sent in
      record {
        log = puts.log ++ goes_mark d ∷ [];
        fly = subst (λ (fs : List Flown). Fly (puts.log ++ goes_mark d ∷ []) fs air.frames) are fly;
        sent = refl;
        numbers =
            ap (λ (fs : List Flown). numbers_from (o.air.frames.landed + 1) fs) (sym are)
            ∙ (numbers_both (o.air.frames.landed + 1) flights (one ∷ [])
            ∙ ap (λ (n : ℕ). (outlook o).numbers ++ n ∷ []) (omega (arith, count, order, sent)));
      }

pub frames_more : (past rest : List Entry) → AllByRecursion IsMore rest → frames (past ++ answer ∷ rest) ≡ frames past
frames_more past rest more = shown-append frame_at past (answer ∷ rest) ∙ (ap (λ (l : List AirFrame). frames past ++ l) (more_frames rest more) ∙ append-nil (frames past))

-- a node to which a SendData is taken has a place
pub taken_within : (s : ChipState) (node : ℕ) (payload : List ℕ) → length s.joined ≡ 233 → takes_of s node payload ≡ true → node < 233
taken_within s node payload places takes_it = by (cases_lt node (length s.joined))
  where
    joined : (a b : Bool) → is_idle s.sending ≡ a → is_marked s.joined node ≡ b → takes_of s node payload ≡ true → is_marked s.joined node ≡ true
    joined a true idle is taken = is
    joined a false idle is taken =
        absurd (let no : false ≡ true = sym (and_none a) ∙ (ap₂ (λ (x y : Bool). x && (y && (nat_le 1 (length payload) && nat_le (length payload) 46))) (sym idle) (sym is) ∙ taken) in cc)
      where
        and_none : (x : Bool) → (x && (false && (nat_le 1 (length payload) && nat_le (length payload) 46))) ≡ false
        and_none true = refl
        and_none false = refl

    by : (node < length s.joined) ⊎ (length s.joined ≤ node) → node < 233
    by (inl below) = subst (λ (n : ℕ). node < n) places below
    by (inr far) = absurd (let out : false ≡ true = sym (get_or_past s.joined node false far) ∙ joined (is_idle s.sending) (is_marked s.joined node) refl refl takes_it in cc)
