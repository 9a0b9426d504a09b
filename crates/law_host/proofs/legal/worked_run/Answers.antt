use Rattle.std.proofs.Common.{◌≡◌, ℕ, ◌==◌, Bool, true, false, if◌then◌else◌, List, [], ◌∷◌, ◌++◌, arith, refl, sym, ap, subst, append_assoc, append-nil, ◌∙◌}
use Rattle.std.specs.Prelude.{Some, None, map}
use Rattle.std.proofs.lemmas.Bool.{eqb-true}
use Rattle.law_time.specs.law_transcript.device_stack.State.{State}
use Rattle.zw_words.specs.declared.side.Side.TheVariants.{Host, Chip}
use Rattle.zw_text.specs.declared.entry.Entry.{Entry}
use Rattle.zw_text.specs.declared.entry.Entry.TheVariants.{Said}
use Rattle.zw_text.specs.Transcript.{line_last}
use Rattle.host_keep.specs.Kept.{kept_of, node_of}
use Rattle.host_keep.specs.RecordText.{record_text}
use Rattle.law_time.specs.law_transcript.Records.{KeepsRecords, ShowsNode}
use Rattle.law_time.specs.law_transcript.Devices.{RanAsShown, after_events}
use Rattle.law_time.specs.law_transcript.Fates.{MayFare}
use Rattle.law_time.specs.law_transcript.Lists.{EachAfter}
use Rattle.law_time.specs.law_transcript.Nodes.{device_of, listing_of, always}
use Rattle.law_time.specs.law_transcript.Worked.{plain_exchange, the_switch}
use Rattle.law_time.specs.law_transcript.WorkedDevices.{plain_records, switch_events}
use Rattle.law_time.specs.law_wire.Arriving.{FollowsRepeat, IsForgotten, forgets}
use Rattle.law_time.specs.law_wire.Clearing.{ClearsLine}
use Rattle.law_time.specs.law_wire.Doings.{DoesAtOnce}
use Rattle.law_time.specs.law_wire.Marks.{IsMarked, to_stand}
use Rattle.law_time.specs.law_wire.Pipes.{may_overrun}
use Rattle.law_time.specs.law_wire.Serial.{ended}
use Rattle.law_time.specs.law_wire.Times.{MayBeTold, TellsTime}
use Rattle.law_host.specs.Heard.{heard_by_host}
use Rattle.law_host.specs.HostLegal.{IsLegalAlone, ShowsValues}
use Rattle.law_host.specs.Notes.{first_start}
use Rattle.law_host.specs.Worked.{plain_heard}
use Rattle.law_time.proofs.Judging.{both_links, keeps_link}
use Rattle.law_time.proofs.Moves.{acts_of}
use Rattle.law_time.proofs.ShownRecords.{blank_at, gives_plain, shows_nodes}
use Rattle.law_time.proofs.law_transcript_Computing.{computing_devices}
use Rattle.law_time.proofs.Computing.{computing}
use Rattle.law_host.proofs.WithRecords.{legal_with}
use Rattle.law_host.proofs.legal.worked_run.Goals as goal

-- up to its end
abbrev whole : List Entry
whole = ended true plain_exchange

-- the host starts once, so nothing is lost
clears : ClearsLine true plain_exchange
unfolding computing keeps_link both_links
clears = record {
  links = both_links true plain_exchange
      (keeps_link Chip whole (acts_of Chip whole) refl refl refl refl refl)
      (keeps_link Host whole (acts_of Host whole) refl refl refl refl refl) refl refl;
  each = tt;
  only = refl;
}

told : TellsTime plain_exchange
unfolding computing
told = (
  refl,
  (
    refl,
    (
      refl,
      (
        refl,
        (
          refl,
          (
            refl,
            (
              refl,
              (
                refl,
                (
                  refl,
                  (
                    record { later = omega arith; asked = omega arith; filled = refl },
                    (refl, (refl, (refl, (refl, (refl, (record { later = omega arith; asked = omega arith; filled = refl }, (refl, (refl, (refl, (refl, (refl, tt))))))))))),
                  ),
                ),
              ),
            ),
          ),
        ),
      ),
    ),
  ),
)

-- what the host heard of it shows what the records give
abbrev records : List (List ℕ)
records = map record_text plain_records

heard_nodes : (node : ℕ) → ShowsNode plain_heard node (node_of (kept_of plain_records) node)
unfolding computing_devices
heard_nodes = shows_nodes plain_heard (kept_of plain_records) 3 (record { joined = refl; interviewed = refl; waits = refl; begun = refl; ended = refl }, (record { joined = refl; interviewed = refl; waits = refl; begun = refl; ended = refl }, (record { joined = refl; interviewed = refl; waits = refl; begun = refl; ended = refl }, tt))) (blank_at 230) refl refl refl

keeps_heard : KeepsRecords plain_heard records
unfolding computing_devices
keeps_heard = record { kept = kept_of plain_records; gives = gives_plain; shows = record { orders = refl; cancelled = refl; nodes = heard_nodes } }

heard_is : plain_heard ≡ heard_by_host plain_exchange
unfolding computing
heard_is = refl

-- there is one device, of node 2
abbrev after : State
after = after_events the_switch switch_events

some_is : {A : Type 0} (x y : A) → Some x ≡ Some y → x ≡ y
some_is x y e = cc

none_is : {A : Type 0} (x : A) → None ≡ Some x → ⊥
none_is x e = cc

after_node : after.node ≡ 2
unfolding computing_devices
after_node = refl

-- so what is said of each device is said of that one
only : (node : ℕ) (old : State) → device_of node (the_switch ∷ []) ≡ Some old → (2 ≡ node) × (the_switch ≡ old)
only node old before = by (2 == node) refl before
  where
    by : (is : Bool) → (2 == node) ≡ is → (if is then Some the_switch else None) ≡ Some old → (2 ≡ node) × (the_switch ≡ old)
    by true same before = (eqb-true 2 node same, some_is the_switch old before)
    by false same before = absurd (none_is old before)

after_only : (new : State) → device_of 2 (after ∷ []) ≡ Some new → after ≡ new
after_only new now = some_is after new (ap (λ (k : ℕ). if k == 2 then Some after else None) (sym after_node) ∙ now)

each : RanAsShown 2 plain_exchange the_switch after → (node : ℕ) (old new : State) → device_of node (the_switch ∷ []) ≡ Some old
    → device_of node (after ∷ []) ≡ Some new → RanAsShown node plain_exchange old new
each ran node old new before now =
    let is = only node old before in
    subst (λ (n : ℕ). RanAsShown n plain_exchange old new) is.0
    (subst (λ (d : State). RanAsShown 2 plain_exchange d new) is.1
    (subst (λ (d : State). RanAsShown 2 plain_exchange the_switch d)
    (after_only new (subst (λ (n : ℕ). device_of n (after ∷ []) ≡ Some new) (sym is.0) now)) ran))

at_once : DoesAtOnce 2 the_switch whole → (node : ℕ) (old : State) → device_of node (the_switch ∷ []) ≡ Some old → DoesAtOnce node old whole
at_once does node old before =
    let is = only node old before in
    subst (λ (n : ℕ). DoesAtOnce n old whole) is.0 (subst (λ (d : State). DoesAtOnce 2 d whole) is.1 does)

-- what each entry may do after those before it, the empty line at the end may too
with_end : (Allowed : List Entry → Entry → Type 0) (past rest : List Entry) (last : Entry) → EachAfter Allowed past rest → Allowed (past ++ rest) last
    → EachAfter Allowed past (rest ++ last ∷ [])
with_end Allowed past [] last each at = (subst (λ (p : List Entry). Allowed p last) (append-nil past) at, tt)
with_end Allowed past (entry ∷ rest) last each at =
    (each.0, with_end Allowed (past ++ entry ∷ []) rest last each.1 (subst (λ (p : List Entry). Allowed p last) (sym (append_assoc past (entry ∷ []) rest)) at))

ends : (Allowed : List Entry → Entry → Type 0) → EachAfter Allowed [] plain_exchange → Allowed plain_exchange (Said []) → EachAfter Allowed [] whole
ends Allowed each at = with_end Allowed [] plain_exchange (Said []) each at

-- at the end all have landed, nothing is to stand next, and all units fit
landed : MayFare plain_exchange (Said [])
unfolding computing
landed = refl

repeated : FollowsRepeat (the_switch ∷ []) plain_exchange (line_last plain_exchange) (Said [])
unfolding computing
repeated = tt

forgotten : IsForgotten (forgets plain_exchange) (Said [])
unfolding computing
forgotten = tt

marked : IsMarked (to_stand plain_exchange) (Said [])
unfolding computing
marked = tt

fitting : may_overrun plain_exchange (Said []) ≡ true
unfolding computing
fitting = refl

timed : MayBeTold plain_exchange (Said [])
unfolding computing
timed = refl

-- no line asks for stored values, and none stand
valued : EachAfter (ShowsValues (always (listing_of (the_switch ∷ [])))) [] whole
unfolding computing
valued = (tt, (tt, (tt, (tt, (tt, (tt, (tt, (tt, (tt, (tt, (tt, (tt, (tt, (tt, (tt, (tt, (tt, (tt, (tt, (tt, (tt, (tt, tt))))))))))))))))))))))

pub returns : goal.returns
returns c = record {
  answers = c.worked_answers.ensures.plain;
  devices = record {
    each = each c.worked_devices.ensures.plain;
    at_once = at_once c.worked_doings.ensures.plain;
    alone = c.worked_doings.ensures.devices;
  };
  air = record {
    numbers = c.worked_frames.ensures.plain;
    routes = c.worked_routes.ensures.plain;
    fares = ends MayFare c.worked_fates.ensures.plain landed;
    lands = c.worked_landings.ensures.plain;
    meets = c.worked_arrivals.ensures.plain;
    loses = c.worked_losses.ensures.plain;
    repeats = ends (λ past entry. FollowsRepeat (the_switch ∷ []) past (line_last past) entry) c.worked_repeats.ensures.plain repeated;
    forgets = ends (λ past entry. IsForgotten (forgets past) entry) c.worked_forgetting.ensures.plain forgotten;
  };
  line = record {
    links = c.worked_links.ensures.plain;
    marks = ends (λ past entry. IsMarked (to_stand past) entry) c.worked_marks.ensures.plain marked;
    collides = c.worked_collisions.ensures.plain;
    overruns = ends (λ past entry. may_overrun past entry ≡ true) c.worked_pipes.ensures.plain fitting;
    clears = clears;
    carries = c.worked_units.ensures.plain;
    brings = c.worked_bringing.ensures.plain;
    serves = c.worked_service.ensures.plain;
    times = ends MayBeTold told timed;
  };
  host = subst (λ (heard : List Entry). IsLegalAlone [] first_start true heard (Some records)) heard_is (legal_with [] first_start true plain_heard None (Some records) c.worked_legal.ensures.plain (λ whole. keeps_heard));
  sends = c.worked_payloads.ensures.plain;
  cancels = c.worked_cancels.ensures.plain;
  stores = c.worked_stores.ensures.plain;
  shows = c.worked_showing.ensures.plain;
  values = valued;
  records = λ whole. c.worked_records.ensures.plain;
}
