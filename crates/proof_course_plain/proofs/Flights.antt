-- Frames on the air, in the course of one node.
use Rattle.std.proofs.Common.{◌≡◌, ℕ, zero, suc, ◌+◌, ◌-◌, ◌*◌, ◌/◌, ◌%◌, ◌<◌, ◌≤◌, ◌==◌, Bool, true, false, if◌then◌else◌, Some, None, List, [], ◌∷◌, ◌++◌, length, refl, ap, sym, ◌∙◌, subst, arith}
use Rattle.std.proofs.lemmas.Bool.{eqb-true}
use Rattle.std.specs.Prelude.{slice_get, nat_lt, nat_le, ◌&&◌, ◌||◌}
use Rattle.supervision.specs.Host.{HostBook, no_sessions, begins, begun_of}
use Rattle.proof_course.specs.Flying.{Flight}
use Rattle.proof_course.specs.Sessions.{Cargo, Command, Of_host, Answer, Of_node, IsFresh, IsFreshCargo}
use Rattle.air_frames.specs.declared.frame.Departure.{Departure}
use Rattle.air_frames.specs.declared.frame.Heading.{Heading}
use Rattle.air_frames.specs.declared.frame.Heading.TheVariants.{Outward, Homeward}
use Rattle.air_frames.specs.declared.ages.Refusal.TheVariants.{NeverSent, Stale}
use Rattle.air_frames.specs.Flown.{Flown}
use Rattle.air_frames.specs.Frames.{FramesState, no_frames, peer_of, putting, landing, remembered}
use Rattle.air_frames.specs.Ages.{is_class, stale_by, stale_of, stale_if, refusal_of}
use Rattle.air_frames.specs.History.{Mark, Goes, Begins, begins_in}
use Rattle.air_frames.proofs.Logs.{stamped-append, begins_in-append}
use Rattle.proof_traffic.specs.Flights.{flown_in, flown_now, Fly}
use Rattle.proof_course_plain.specs.Ways.{Beside}
use Rattle.transport_segments.specs.Segment.{with_check}
use Rattle.transport_segments.specs.Parts.{slice_at}
use Rattle.proof_course_plain.specs.Meaning.{Asked, IsMessageOf, IsSegmentOf, IsMessage, HostMeans, NodeMeans}
use Rattle.proof_course_plain.specs.Air.{BearsBy, Bears, OnAir, Lands, WasThere}
use Rattle.proof_once.proofs.NonceNumbers.{numbered-more as numbered-append}

-- ---- lists beside each other

pub beside-append : {A B : Type 0} (R : A → B → Type 0) (xs : List A) (ys : List B) (x : A) (y : B) → Beside R xs ys → R x y → Beside R (xs ++ x ∷ []) (ys ++ y ∷ [])
beside-append R [] [] x y is one = (one, tt)
beside-append R [] (b ∷ ys) x y is one = absurd is
beside-append R (a ∷ xs) [] x y is one = absurd is
beside-append R (a ∷ xs) (b ∷ ys) x y is one = (is.0, beside-append R xs ys x y is.1 one)

pub beside-weaker : {A B : Type 0} (R S : A → B → Type 0) → ((a : A) (b : B) → R a b → S a b) → (xs : List A) (ys : List B) → Beside R xs ys → Beside S xs ys
beside-weaker R S weaker [] [] is = tt
beside-weaker R S weaker [] (b ∷ ys) is = absurd is
beside-weaker R S weaker (a ∷ xs) [] is = absurd is
beside-weaker R S weaker (a ∷ xs) (b ∷ ys) is = (weaker a b is.0, beside-weaker R S weaker xs ys is.1)

pub record Found {A B : Type 0} (R : A → B → Type 0) (a : A) (ys : List B) (at : ℕ) : Type 0 where
  pub other : B
  pub found : slice_get ys at ≡ Some other
  pub beside : R a other

pub beside-get : {A B : Type 0} (R : A → B → Type 0) (xs : List A) (ys : List B) (at : ℕ) (a : A) → Beside R xs ys → slice_get xs at ≡ Some a → Found R a ys at
beside-get R [] ys at a is e = absurd (grind arith)
beside-get R (x ∷ xs) [] at a is e = absurd is
beside-get {A} {B} R (x ∷ xs) (y ∷ ys) zero a is e = let same : x ≡ a = cc in record { other = y; found = refl; beside = subst (λ (z : A). R z y) same is.0 }
beside-get R (x ∷ xs) (y ∷ ys) (suc at) a is e = let later = beside-get R xs ys at a is.1 e in record { other = later.other; found = later.found; beside = later.beside }

-- ---- messages stay those of their sessions

pub message_stays : (orders more : List Asked) (commands later : List ℕ) (session : ℕ) (payload : List ℕ) → IsMessageOf orders commands session payload → IsMessageOf (orders ++ more) (commands ++ later) session payload
message_stays orders more commands later session payload is = record {
  number = is.number;
  asked = is.asked;
  carried = numbered-append commands later session is.number is.carried;
  accepted = numbered-append orders more is.number is.asked is.accepted;
  fit = is.fit;
  end = is.end;
  text = is.text;
}

pub segment_stays : (orders more : List Asked) (commands later : List ℕ) (segment : Bool) (session : ℕ) (payload : List ℕ) → IsMessage segment orders commands session payload → IsMessage segment (orders ++ more) (commands ++ later) session payload
segment_stays orders more commands later false session payload is = message_stays orders more commands later session payload is
segment_stays orders more commands later true session payload is = record {
  message = is.message;
  of = message_stays orders more commands later session is.message is.of;
  most = is.most;
  place = is.place;
  within = is.within;
  text = is.text;
}

pub meaning_stays : (orders more : List Asked) (commands later : List ℕ) (payload : List ℕ) (cargo : Cargo) → HostMeans orders commands payload cargo → HostMeans (orders ++ more) (commands ++ later) payload cargo
meaning_stays orders more commands later payload (Command message) is = segment_stays orders more commands later message.is_segment message.session payload is
meaning_stays orders more commands later payload Of_host is = is
meaning_stays orders more commands later payload (Answer session status) is = absurd is
meaning_stays orders more commands later payload Of_node is = absurd is

bears_by_stays : (heading : Heading) (own : Bool) (orders more : List Asked) (commands later : List ℕ) (frame : Flown) (flight : Flight Cargo) → BearsBy heading own orders commands frame flight
    → BearsBy heading own (orders ++ more) (commands ++ later) frame flight
bears_by_stays Outward true orders more commands later frame flight is = (is.0, meaning_stays orders more commands later frame.payload flight.cargo is.1)
bears_by_stays Homeward true orders more commands later frame flight is = is
bears_by_stays Outward false orders more commands later frame flight is = is
bears_by_stays Homeward false orders more commands later frame flight is = is

pub bears_stays : (node : ℕ) (orders more : List Asked) (commands later : List ℕ) (frame : Flown) (flight : Flight Cargo) → Bears node orders commands frame flight → Bears node (orders ++ more) (commands ++ later) frame flight
bears_stays node orders more commands later frame flight is = bears_by_stays frame.heading (frame.node == node) orders more commands later frame flight is

all_bear : (node : ℕ) (orders more : List Asked) (commands later : List ℕ) (frames : List Flown) (flights : List (Flight Cargo)) → Beside (Bears node orders commands) frames flights
    → Beside (Bears node (orders ++ more) (commands ++ later)) frames flights
all_bear node orders more commands later frames flights is =
    beside-weaker (Bears node orders commands) (Bears node (orders ++ more) (commands ++ later)) (λ frame flight. bears_stays node orders more commands later frame flight) frames flights is

more_orders : (node : ℕ) (orders more : List Asked) (commands : List ℕ) (frames : List Flown) (flights : List (Flight Cargo)) → Beside (Bears node orders commands) frames flights
    → Beside (Bears node (orders ++ more) commands) frames flights
more_orders node orders more commands frames flights is =
    subst (λ (cs : List ℕ). Beside (Bears node (orders ++ more) cs) frames flights) (nothing_more commands) (all_bear node orders more commands [] frames flights is)
  where
    nothing_more : (xs : List ℕ) → xs ++ [] ≡ xs
    nothing_more [] = refl
    nothing_more (x ∷ xs) = ap (λ l. x ∷ l) (nothing_more xs)

more_commands : (node : ℕ) (orders : List Asked) (commands later : List ℕ) (frames : List Flown) (flights : List (Flight Cargo)) → Beside (Bears node orders commands) frames flights
    → Beside (Bears node orders (commands ++ later)) frames flights
more_commands node orders commands later frames flights is =
    subst (λ (os : List Asked). Beside (Bears node os (commands ++ later)) frames flights) (nothing_more orders) (all_bear node orders [] commands later frames flights is)
  where
    nothing_more : (xs : List Asked) → xs ++ [] ≡ xs
    nothing_more [] = refl
    nothing_more (x ∷ xs) = ap (λ l. x ∷ l) (nothing_more xs)

-- ---- events of the air

pub first_air : (node : ℕ) → Fly [] [] no_frames → OnAir node [] no_sessions [] [] [] [] no_frames
first_air node fly = record { fly = fly; flying = tt; flown = tt; begun = refl }

pub frame_goes : (node : ℕ) (orders : List Asked) (host : HostBook) (air old : List (Flight Cargo)) (log : List Mark) (flights : List Flown) (frames : FramesState) (departure : Departure) (cargo : Cargo)
    → Fly (log ++ Goes departure ∷ []) (flights ++ flown_now log departure ∷ []) (putting frames departure)
    → OnAir node orders host air old log flights frames → Bears node orders host.commands (flown_now log departure) (record { cargo = cargo; since = begun_of host })
    → OnAir node orders host (air ++ record { cargo = cargo; since = begun_of host } ∷ []) (old ++ record { cargo = cargo; since = begun_of host } ∷ [])
    (log ++ Goes departure ∷ []) (flights ++ flown_now log departure ∷ []) (putting frames departure)
frame_goes node orders host air old log flights frames departure cargo fly a bears =
    let flight : Flight Cargo = record { cargo = cargo; since = begun_of host } in
    let all : flown_in (log ++ Goes departure ∷ []) ≡ flown_in log ++ flown_now log departure ∷ [] = stamped-append [] log (Goes departure ∷ []) in
    let none : begins_in node (Goes departure ∷ []) ≡ 0 = refl in
    let sum = begins_in-append node log (Goes departure ∷ []) in
    let was = a.begun in
    record {
      fly = fly;
      flying = beside-append (Bears node orders host.commands) flights air (flown_now log departure) flight a.flying bears;
      flown = subst (λ (fs : List Flown). Beside (Bears node orders host.commands) fs (old ++ flight ∷ [])) (sym all)
          (beside-append (Bears node orders host.commands) (flown_in log) old (flown_now log departure) flight a.flown bears);
      begun = omega (arith, sum, was);
    }

pub frame_lands : (node : ℕ) (orders : List Asked) (host : HostBook) (air old : List (Flight Cargo)) (log : List Mark) (frame : Flown) (later : List Flown) (frames : FramesState)
    → Fly log later (landing frames) → OnAir node orders host air old log (frame ∷ later) frames → Lands node orders host air old log frame later (landing frames)
frame_lands node orders host [] old log frame later frames fly a = absurd a.flying
frame_lands node orders host (flight ∷ flights) old log frame later frames fly a = record {
  flight = flight;
  flights = flights;
  first = refl;
  bears = a.flying.0;
  on_air = record { fly = fly; flying = a.flying.1; flown = a.flown; begun = a.begun };
}

pub session_begins : (node : ℕ) (orders : List Asked) (host : HostBook) (command : ℕ) (air old : List (Flight Cargo)) (log : List Mark) (flights : List Flown) (frames later : FramesState)
    → OnAir node orders host air old log flights frames → Fly (log ++ Begins node ∷ []) flights later → OnAir node orders (begins host command) air old (log ++ Begins node ∷ []) flights later
session_begins node orders host command air old log flights frames later a fly =
    let same : flown_in (log ++ Begins node ∷ []) ≡ flown_in log = stamped-append [] log (Begins node ∷ []) ∙ nothing_more (flown_in log) in
    record {
      fly = fly;
      flying = more_commands node orders host.commands (command ∷ []) flights air a.flying;
      flown = subst (λ (fs : List Flown). Beside (Bears node orders (host.commands ++ command ∷ [])) fs old) (sym same) (more_commands node orders host.commands (command ∷ []) (flown_in log) old a.flown);
      begun = begins_in-append node log (Begins node ∷ []) ∙ (let one : begins_in node (Begins node ∷ []) ≡ 1 = own_one node in counts one);
    }
  where
    nothing_more : (xs : List Flown) → xs ++ [] ≡ xs
    nothing_more [] = refl
    nothing_more (x ∷ xs) = ap (λ l. x ∷ l) (nothing_more xs)

    own_one : (n : ℕ) → begins_in n (Begins n ∷ []) ≡ 1
    own_one n = by (n == n) refl
      where
        by : (b : Bool) → (n == n) ≡ b → (if b then 1 else 0) + 0 ≡ 1
        by true e = refl
        by false e = absurd (grind (arith, e))

    longer : (xs : List ℕ) (x : ℕ) → length (xs ++ x ∷ []) ≡ length xs + 1
    longer [] x = refl
    longer (y ∷ xs) x = let more = longer xs x in omega (arith, more)

    counts : begins_in node (Begins node ∷ []) ≡ 1 → begins_in node log + begins_in node (Begins node ∷ []) ≡ begun_of (begins host command)
    counts one = let was = a.begun in let long = longer host.commands command in omega (arith, one, was, long)

pub air_stays : (node : ℕ) (orders : List Asked) (host : HostBook) (air old : List (Flight Cargo)) (log more : List Mark) (flights : List Flown) (frames later : FramesState)
    → OnAir node orders host air old log flights frames → flown_in (log ++ more) ≡ flown_in log → begins_in node more ≡ 0 → Fly (log ++ more) flights later
    → OnAir node orders host air old (log ++ more) flights later
air_stays node orders host air old log more flights frames later a same none fly = record {
  fly = fly;
  flying = a.flying;
  flown = subst (λ (fs : List Flown). Beside (Bears node orders host.commands) fs old) (sym same) a.flown;
  begun = let sum = begins_in-append node log more in let was = a.begun in omega (arith, sum, was, none);
}

pub order_accepted : (node : ℕ) (orders more : List Asked) (host : HostBook) (air old : List (Flight Cargo)) (log : List Mark) (flights : List Flown) (frames : FramesState)
    → OnAir node orders host air old log flights frames → OnAir node (orders ++ more) host air old log flights frames
order_accepted node orders more host air old log flights frames a = record {
  fly = a.fly;
  flying = more_orders node orders more host.commands flights air a.flying;
  flown = more_orders node orders more host.commands (flown_in log) old a.flown;
  begun = a.begun;
}

-- ---- a frame that is heard again

-- a frame that is not stale went on the air at most 61 sessions ago
pub not_stale : (payload : List ℕ) (later nonces : ℕ) → stale_by payload later nonces ≡ None → later ≤ 61
not_stale payload later nonces e = by (nat_le 62 later) refl e
  where
    by : (b : Bool) → nat_le 62 later ≡ b
        → (if b || (is_class payload 0x55 && nat_le 14 later) then Some (Stale later) else (if is_class payload 0x98 && nat_le 120 nonces then Some (Stale nonces) else None)) ≡ None → later ≤ 61
    by true is none = absurd (grind (arith, none))
    by false is none = grind (arith, is)

-- a segment that is not stale at most 13
segment_not_stale : (payload : List ℕ) (later nonces : ℕ) → is_class payload 0x55 ≡ true → stale_by payload later nonces ≡ None → later ≤ 13
segment_not_stale payload later nonces class e = by (nat_le 62 later) (nat_le 14 later) refl (subst (λ (b : Bool). (if nat_le 62 later || (b && nat_le 14 later) then Some (Stale later) else (if is_class payload 0x98 && nat_le 120 nonces then Some (Stale nonces) else None)) ≡ None) class e)
  where
    by : (a b : Bool) → nat_le 14 later ≡ b → (if a || (true && b) then Some (Stale later) else (if is_class payload 0x98 && nat_le 120 nonces then Some (Stale nonces) else None)) ≡ None → later ≤ 13
    by true b is none = absurd (grind (arith, none))
    by false true is none = absurd (grind (arith, none))
    by false false is none = grind (arith, is)

-- a segment begins with its class
segment_class : (orders : List Asked) (commands : List ℕ) (session : ℕ) (payload : List ℕ) → IsSegmentOf orders commands session payload → is_class payload 0x55 ≡ true
segment_class orders commands session payload is = subst (λ (p : List ℕ). is_class p 0x55 ≡ true) (sym is.text) (by (39 * is.place == 0))
  where
    size : ℕ
    size = length is.message

    by : (b : Bool) → is_class (with_check (if b then 85 ∷ (192 + size / 256) ∷ size % 256 ∷ session % 16 * 16 ∷ slice_at is.message is.place
        else 85 ∷ (224 + size / 256) ∷ size % 256 ∷ (session % 16 * 16 + 39 * is.place / 256) ∷ 39 * is.place % 256 ∷ slice_at is.message is.place)) 0x55 ≡ true
    by true = refl
    by false = refl

fresh_cargo : (heading : Heading) (own : Bool) (orders : List Asked) (host : HostBook) (frame : Flown) (flight : Flight Cargo) → BearsBy heading own orders host.commands frame flight
    → (own ≡ true → begun_of host ≤ frame.begun + 61) → (own ≡ true → is_class frame.payload 0x55 ≡ true → begun_of host ≤ frame.begun + 13) → IsFreshCargo (begun_of host) flight.since flight.cargo
fresh_cargo Outward true orders host frame flight is age segment_age = by flight.cargo is.1
  where
    by : (cargo : Cargo) → HostMeans orders host.commands frame.payload cargo → IsFreshCargo (begun_of host) flight.since cargo
    by (Command message) of = message_fresh message.is_segment message.session of
      where
        message_fresh : (segment : Bool) (session : ℕ) → IsMessage segment orders host.commands session frame.payload → IsFresh (begun_of host) flight.since segment
        message_fresh false session whole = let near = age refl in let same = is.0 in omega (arith, near, same)
        message_fresh true session part = let near = segment_age refl (segment_class orders host.commands session frame.payload part) in let same = is.0 in omega (arith, near, same)
    by Of_host of = tt
    by (Answer session status) of = absurd of
    by Of_node of = tt
fresh_cargo Homeward true orders host frame flight is age segment_age = by flight.cargo is.1
  where
    by : (cargo : Cargo) → NodeMeans frame.payload cargo → IsFreshCargo (begun_of host) flight.since cargo
    by (Command message) of = absurd of
    by Of_host of = absurd of
    by (Answer session status) of = let near = age refl in let same = is.0 in omega (arith, near, same)
    by Of_node of = tt
fresh_cargo Outward false orders host frame flight is age segment_age = rw is tt
fresh_cargo Homeward false orders host frame flight is age segment_age = rw is tt

-- the frame is remembered, and is not stale
pub remembered_fresh : (frames : FramesState) (number : ℕ) (frame : Flown) → refusal_of frames number ≡ None → remembered frames number ≡ Some frame
    → (0 < number) × (stale_of frame (peer_of frames frame.node) ≡ None)
remembered_fresh frames number frame none is = by (nat_lt 0 number) (nat_le number frames.sent) refl refl none
  where
    by : (a b : Bool) → nat_lt 0 number ≡ a → nat_le number frames.sent ≡ b → (if a && b then stale_if frames (remembered frames number) else Some NeverSent) ≡ None
        → (0 < number) × (stale_of frame (peer_of frames frame.node) ≡ None)
    by true true first last e = (grind (arith, first), rw is at e)
    by true false first last e = absurd (grind (arith, e))
    by false b first last e = absurd (grind (arith, e))

pub frame_was_there : ((log : List Mark) (flights : List Flown) (frames : FramesState) (number : ℕ) (frame : Flown) → Fly log flights frames → remembered frames (number + 1) ≡ Some frame → slice_get (flown_in log) number ≡ Some frame)
    → (node : ℕ) (orders : List Asked) (host : HostBook) (air old : List (Flight Cargo)) (log : List Mark) (flights : List Flown) (frames : FramesState) (number : ℕ) (frame : Flown)
    → node < 233 → OnAir node orders host air old log flights frames → refusal_of frames number ≡ None → remembered frames number ≡ Some frame → WasThere node orders host old frame
frame_was_there kept node orders host air old log flights frames zero frame within a none is = absurd (let some = (remembered_fresh frames zero frame none is).0 in omega (arith, some))
frame_was_there kept node orders host air old log flights frames (suc number) frame within a none is =
    let stood : slice_get (flown_in log) number ≡ Some frame =
    kept log flights frames number frame a.fly (subst (λ (n : ℕ). remembered frames n ≡ Some frame) (let e : suc number ≡ number + 1 = omega arith in e) is) in
    let here = beside-get (Bears node orders host.commands) (flown_in log) old number frame a.flown stood in
    let near : (peer_of frames frame.node).begun - frame.begun ≤ 61 =
    not_stale frame.payload ((peer_of frames frame.node).begun - frame.begun) ((peer_of frames frame.node).nonces.shown - frame.shown) (remembered_fresh frames (suc number) frame none is).1 in
    let count : (peer_of frames node).begun ≡ begins_in node log = a.fly.history.begun node within in
    let same = a.begun in
    record {
      at = number;
      flight = here.other;
      found = here.found;
      bears = here.beside;
      fresh = fresh_cargo frame.heading (frame.node == node) orders host frame here.other here.beside
          (λ own. let at : frame.node ≡ node = eqb-true frame.node node own in
          let close : (peer_of frames node).begun - frame.begun ≤ 61 = subst (λ (n : ℕ). (peer_of frames n).begun - frame.begun ≤ 61) at near in
          omega (arith, close, count, same))
          (λ own class. let at : frame.node ≡ node = eqb-true frame.node node own in
          let segment : (peer_of frames frame.node).begun - frame.begun ≤ 13 =
          segment_not_stale frame.payload ((peer_of frames frame.node).begun - frame.begun) ((peer_of frames frame.node).nonces.shown - frame.shown) class (remembered_fresh frames (suc number) frame none is).1 in
          let close : (peer_of frames node).begun - frame.begun ≤ 13 = subst (λ (n : ℕ). (peer_of frames n).begun - frame.begun ≤ 13) at segment in
          omega (arith, close, count, same));
    }
