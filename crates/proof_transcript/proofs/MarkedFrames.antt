-- Frames that use up a mark of `lose` are lost: the marks that are left are the air's, and a marked frame that has not arrived is kept as one that is lost.
use Rattle.std.proofs.Common.{◌≡◌, ℕ, ◌+◌, ◌-◌, ◌<◌, ◌≤◌, ◌&&◌, ◌||◌, ◌⊎◌, not, Bool, true, false, if◌then◌else◌, inl, inr, List, [], ◌∷◌, ◌++◌, length, refl, ap, sym, subst, ◌∙◌, append-nil, append_assoc, arith}
use Rattle.std.specs.Prelude.{Option, Some, nat_lt, slice_get}
use Rattle.std.specs.Option.{is_none, unwrap_or}
use Rattle.route_table.specs.declared.route.Route.{Route}
use Rattle.zw_text.specs.declared.entry.Entry.{Entry}
use Rattle.zw_text.specs.declared.entry.Entry.TheVariants as entry
use Rattle.zw_text.specs.Transcript.{line_of}
use Rattle.zw_text.proofs.Views.{folded-append}
use Rattle.law_host.specs.law_transcript.Lists.{EachAfter, Has, shown_after}
use Rattle.law_host.specs.law_transcript.Fates.{marks_asked, mark_step, marks_left, marked, frames_marked, MayBeMarked}
use Rattle.law_host.proofs.Having.{has_either}
use Rattle.air_frames.specs.declared.frame.Departure.{Departure}
use Rattle.air_frames.specs.declared.frame.Heading.{Heading}
use Rattle.air_frames.specs.declared.frame.Heading.TheVariants.{Outward, Homeward}
use Rattle.air_frames.specs.Flown.{Flown}
use Rattle.air_frames.specs.Frames.{FramesState, no_frames, next_of, putting, landing}
use Rattle.proof_air.specs.mesh_sim.Air.{AirState, no_route, departing}
use Rattle.proof_air.specs.mesh_sim.Steps.{landed}
use Rattle.proof_air.specs.outside_model.State.{OuterState, first_outer}
use Rattle.proof_air.specs.outside_model.Chip.{shown_via}
use Rattle.proof_transcript.proofs.Plain.{IsNoAir, IsPlain, plain_no_air}
use Rattle.proof_transcript.proofs.KeptOverLists.{Keeps, Airs, IsAsAired, keeps_none}
use Rattle.proof_transcript.proofs.Arrivals.{IsFate}
use Rattle.proof_transcript.proofs.Events.{Stamps}
use Rattle.proof_transcript.proofs.Ring.{IsRing, IsKeptSo, next_flies, next_so, lands_ring, lands_so, puts_ring, puts_others, puts_new}

abbrev IsLost : Flown → Type 0
IsLost frame = frame.lost ≡ true

-- the marks are those that are left, and each frame that used one up has arrived or is kept as one that is lost
pub record Marks (past : List Entry) (air : AirState) : Type 0 where
  pub left : marks_left past ≡ air.losing
  pub sent : (number : ℕ) → Has (frames_marked past) number → number ≤ air.frames.sent
  pub lost : (number : ℕ) → Has (frames_marked past) number → air.frames.landed < number → IsKeptSo IsLost air.frames number
  pub ring : IsRing air.frames

abbrev pub Marked : List Entry → OuterState → Type 0
Marked past o = Marks past o.air

-- ---- what entries show

pub shown_one : {B : Type 0} (shows : List Entry → Entry → List B) (before past : List Entry) (e : Entry) → shown_after shows before (past ++ e ∷ []) ≡ shown_after shows before past ++ shows (before ++ past) e
shown_one shows before [] e = append-nil (shows before e) ∙ ap (λ (l : List Entry). shows l e) (sym (append-nil before))
shown_one shows before (first ∷ past) e =
    ap (λ (l : List _). shows before first ++ l) (shown_one shows (before ++ first ∷ []) past e)
    ∙ (sym (append_assoc (shows before first) (shown_after shows (before ++ first ∷ []) past) (shows ((before ++ first ∷ []) ++ past) e))
    ∙ ap (λ (l : List Entry). shown_after shows before (first ∷ past) ++ shows l e) (append_assoc before (first ∷ []) past))

left_after : (past : List Entry) (e : Entry) → marks_left (past ++ e ∷ []) ≡ mark_step (marks_left past) e
left_after past e = folded-append mark_step 0 past (e ∷ [])

-- an entry that uses up no mark and asks for none
abbrev IsUnmarked : Entry → Type 0
IsUnmarked (entry.Air frame sender receiver repeaters payload) = ⊥
IsUnmarked (entry.Said words) = ⊥
IsUnmarked _ = Unit {0}

same_left : (past : List Entry) (e : Entry) → IsUnmarked e → marks_left (past ++ e ∷ []) ≡ marks_left past
same_left past e none = left_after past e ∙ step (marks_left past) e none
  where
    step : (marks : ℕ) (e : Entry) → IsUnmarked e → mark_step marks e ≡ marks
    step marks (entry.Air frame sender receiver repeaters payload) none = absurd none
    step marks (entry.Said words) none = absurd none
    step marks _ none = refl

-- one that is no frame shows no mark
none_marked : (past : List Entry) (e : Entry) → IsNoAir e → marked past e ≡ []
none_marked past (entry.Air frame sender receiver repeaters payload) none = absurd none
none_marked past _ none = refl

same_marked : (past : List Entry) (e : Entry) → IsNoAir e → frames_marked (past ++ e ∷ []) ≡ frames_marked past
same_marked past e none = shown_one marked [] past e ∙ (ap (λ (l : List ℕ). frames_marked past ++ l) (none_marked past e none) ∙ append-nil (frames_marked past))

-- ---- what is known goes on

-- with other frames, of which the kept ones are as they were
moves : (past later : List Entry) (old new : AirState) → Marks past old → frames_marked later ≡ frames_marked past → marks_left later ≡ new.losing → old.frames.sent ≤ new.frames.sent → IsRing new.frames
    → ((number : ℕ) → new.frames.landed < number → number ≤ old.frames.sent → (old.frames.landed < number → IsKeptSo IsLost old.frames number) → IsKeptSo IsLost new.frames number) → Marks later new
moves past later old new marks same left more ring kept = record {
  left = left;
  sent = λ number has. let within = marks.sent number (subst (λ (l : List ℕ). Has l number) same has) in omega (arith, within, more);
  lost = λ number has above.
      let before = subst (λ (l : List ℕ). Has l number) same has in
      kept number above (marks.sent number before) (marks.lost number before);
  ring = ring;
}

-- with the same frames
stays : (past later : List Entry) (old new : AirState) → Marks past old → frames_marked later ≡ frames_marked past → marks_left later ≡ new.losing → IsAsAired old new → Marks later new
stays past later old new marks same left aired = record {
  left = left;
  sent = λ number has. subst (λ (n : ℕ). number ≤ n) (sym aired.sent) (marks.sent number (subst (λ (l : List ℕ). Has l number) same has));
  lost = λ number has above frame there.
      marks.lost number (subst (λ (l : List ℕ). Has l number) same has) (subst (λ (n : ℕ). n < number) aired.landed above) frame
      (subst (λ (n : ℕ). slice_get old.frames.frames ((number - 1) - (n - length old.frames.frames)) ≡ Some frame) aired.sent
      (subst (λ (fs : List Flown). slice_get fs ((number - 1) - (new.frames.sent - length fs)) ≡ Some frame) aired.frames there));
  ring = record {
    order = subst (λ (n : ℕ). new.frames.landed ≤ n) (sym aired.sent) (subst (λ (n : ℕ). n ≤ old.frames.sent) (sym aired.landed) marks.ring.order);
    enough = rw aired.sent (rw aired.landed (rw aired.frames marks.ring.enough));
    few = rw aired.sent (rw aired.frames marks.ring.few);
  };
}

-- ---- the words of a line

pub said_keeps : (old new : AirState) (words : List ℕ) (asked : ℕ) → marks_asked (line_of (entry.Said words)) ≡ asked → new.frames ≡ old.frames → new.losing ≡ old.losing + asked
    → Keeps MayBeMarked Marks old (entry.Said words ∷ []) new
said_keeps old new words asked asks same more past marks =
    let later : List Entry = past ++ entry.Said words ∷ [] in
    let shows : frames_marked later ≡ frames_marked past = same_marked past (entry.Said words) tt in (
      (tt, tt),
      record {
        left = left_after past (entry.Said words) ∙ (ap (λ (n : ℕ). marks_left past + n) asks ∙ (ap (λ (n : ℕ). n + asked) marks.left ∙ sym more));
        sent = λ number has. subst (λ (fs : FramesState). number ≤ fs.sent) (sym same) (marks.sent number (subst (λ (l : List ℕ). Has l number) shows has));
        lost = λ number has above. subst (λ (fs : FramesState). IsKeptSo IsLost fs number) (sym same)
            (marks.lost number (subst (λ (l : List ℕ). Has l number) shows has) (subst (λ (fs : FramesState). fs.landed < number) same above));
        ring = subst IsRing (sym same) marks.ring;
      },
    )

-- ---- other entries

may_plain : (past : List Entry) (e : Entry) → IsPlain e → MayBeMarked past e
may_plain past (entry.Heard frame) plain = absurd plain
may_plain past (entry.Unheard frame) plain = absurd plain
may_plain past _ plain = tt

plain_unmarked : (e : Entry) → IsPlain e → IsUnmarked e
plain_unmarked (entry.Air frame sender receiver repeaters payload) plain = absurd plain
plain_unmarked (entry.Said words) plain = absurd plain
plain_unmarked _ plain = tt

same_air : (air : AirState) → IsAsAired air air
same_air air = record { sent = refl; landed = refl; frames = refl; losing = refl }

other_keeps : (air : AirState) (e : Entry) → ((past : List Entry) → MayBeMarked past e) → IsUnmarked e → IsNoAir e → Keeps MayBeMarked Marks air (e ∷ []) air
other_keeps air e may unmarked none past marks =
    ((may past, tt), stays past (past ++ e ∷ []) air air marks (same_marked past e none) (same_left past e unmarked ∙ marks.left) (same_air air))

-- ---- a frame goes on the air

module _ (old : AirState) (node : ℕ) (heading : Heading) (route : Option Route) (payload : List ℕ) (sender receiver : ℕ) (repeaters : List ℕ) where
  abbrev next : AirState
  next = departing old node heading route payload

  abbrev this : Entry
  this = entry.Air (old.frames.sent + 1) sender receiver repeaters payload

  abbrev goes : Departure
  goes = record { node = node; heading = heading; route = unwrap_or route no_route; lost = nat_lt 0 old.losing || is_none route; payload = payload }

  -- a mark is used up where there is one, and then the frame is lost
  new_so : (test : Bool) (past : List Entry) → IsRing old.frames → nat_lt 0 old.losing ≡ test → (number : ℕ) → Has (if test then (old.frames.sent + 1) ∷ [] else []) number → IsKeptSo IsLost next.frames number × (number ≡ old.frames.sent + 1)
  new_so true past ring is number (inl e) =
      (subst (λ (n : ℕ). IsKeptSo IsLost next.frames n) e (puts_new old.frames goes ring IsLost (ap (λ (b : Bool). b || is_none route) is)), sym e)
  new_so true past ring is number (inr none) = absurd none
  new_so false past ring is number none = absurd none

  new_marked : (past : List Entry) → Marks past old → (number : ℕ) → Has (marked past this) number → IsKeptSo IsLost next.frames number × (number ≡ old.frames.sent + 1)
  new_marked past marks number has =
      new_so (nat_lt 0 old.losing) past marks.ring refl number (subst (λ (n : ℕ). Has (if nat_lt 0 n then (old.frames.sent + 1) ∷ [] else []) number) marks.left has)

  either : (past : List Entry) (number : ℕ) → Has (frames_marked (past ++ this ∷ [])) number → Has (frames_marked past) number ⊎ Has (marked past this) number
  either past number has = has_either (frames_marked past) (marked past this) number (subst (λ (l : List ℕ). Has l number) (shown_one marked [] past this) has)

  within : (past : List Entry) → Marks past old → (number : ℕ) → Has (frames_marked past) number ⊎ Has (marked past this) number → number ≤ old.frames.sent + 1
  within past marks number (inl has) = let before = marks.sent number has in omega (arith, before)
  within past marks number (inr has) = let new = (new_marked past marks number has).1 in omega (arith, new)

  still_lost : (past : List Entry) → Marks past old → (number : ℕ) → Has (frames_marked past) number ⊎ Has (marked past this) number → old.frames.landed < number → IsKeptSo IsLost next.frames number
  still_lost past marks number (inl has) above = puts_others old.frames goes marks.ring IsLost number above (marks.sent number has) (marks.lost number has above)
  still_lost past marks number (inr has) above = (new_marked past marks number has).0

  air_keeps : Keeps MayBeMarked Marks old (this ∷ []) next
  unfolding putting
  air_keeps past marks = (
    (tt, tt),
    record {
      left = left_after past this ∙ ap (λ (n : ℕ). n - 1) marks.left;
      sent = λ number has. within past marks number (either past number has);
      lost = λ number has above. still_lost past marks number (either past number has) above;
      ring = puts_ring old.frames goes marks.ring;
    },
  )

-- ---- a frame that is heard again

pub heard_keeps : (air : AirState) (number : ℕ) (past : List Entry) → MayBeMarked past (entry.Heard number) → Marks past air → EachAfter MayBeMarked past (entry.Heard number ∷ []) × Marks (past ++ entry.Heard number ∷ []) air
heard_keeps air number past may marks =
    ((may, tt), stays past (past ++ entry.Heard number ∷ []) air air marks (same_marked past (entry.Heard number) tt) (same_left past (entry.Heard number) tt ∙ marks.left) (same_air air))

pub airs : Airs MayBeMarked Marks
airs = record {
  plain = λ air e plain. other_keeps air e (λ past. may_plain past e plain) (plain_unmarked e plain) (plain_no_air e plain);
  same = λ old new same past marks. (
    tt,
    stays past (past ++ []) old new marks (ap frames_marked (append-nil past)) (ap marks_left (append-nil past) ∙ (marks.left ∙ sym same.losing)) same,
  );
  out = λ air to route payload. air_keeps air to Outward (Some route) payload 1 to (shown_via route);
  home = λ air node way payload. air_keeps air node Homeward way payload node 1 (shown_via (unwrap_or way no_route));
}

-- ---- the number of a tick

ticked : (b : Bool) (air : AirState) (clock : ℕ) → Keeps MayBeMarked Marks air (if b then entry.Time clock ∷ [] else []) air
ticked true air clock = other_keeps air (entry.Time clock) (λ past. tt) tt tt
ticked false air clock = keeps_none MayBeMarked Marks air

pub stamps : Stamps MayBeMarked Marks Marked
stamps = record {
  first = λ past o p time known. ticked (p.in_tick && not p.stamped) o.air p.clock past known;
  entered = λ past p knows. knows;
  silent = λ past o p time goes known. goes known;
}

-- ---- the next frame arrives

-- a frame that is not lost was not marked
unmarked : (air : AirState) (past : List Entry) (frame : Flown) → Marks past air → next_of air.frames ≡ Some frame → frame.lost ≡ false → Has (frames_marked past) (air.frames.landed + 1) → ⊥
unmarked air past frame marks comes kept has =
    let lost : frame.lost ≡ true = next_so IsLost air.frames frame comes (marks.lost (air.frames.landed + 1) has (omega arith)) in
    let never : true ≡ false = sym lost ∙ kept in
    absurd cc

may_fare : (air : AirState) (past : List Entry) (frame : Flown) (e : Entry) → Marks past air → next_of air.frames ≡ Some frame → IsFate frame (air.frames.landed + 1) e → MayBeMarked past e
may_fare air past frame (entry.Lost number) marks comes is = tt
may_fare air past frame (entry.Heard number) marks comes is = λ first has. unmarked air past frame marks comes is.1 (subst (λ (n : ℕ). Has (frames_marked past) n) is.0 has)
may_fare air past frame (entry.Unheard number) marks comes is = λ has. unmarked air past frame marks comes is.1 (subst (λ (n : ℕ). Has (frames_marked past) n) is.0 has)
may_fare air past frame _ marks comes is = absurd is

fate_unmarked : (frame : Flown) (number : ℕ) (e : Entry) → IsFate frame number e → IsUnmarked e × IsNoAir e
fate_unmarked frame number (entry.Lost lost) is = (tt, tt)
fate_unmarked frame number (entry.Heard heard) is = (tt, tt)
fate_unmarked frame number (entry.Unheard unheard) is = (tt, tt)
fate_unmarked frame number _ is = absurd is

pub fate_keeps : (air : AirState) (frame : Flown) (e : Entry) → next_of air.frames ≡ Some frame → IsFate frame (air.frames.landed + 1) e → Keeps MayBeMarked Marks air (e ∷ []) (landed air)
unfolding landing
fate_keeps air frame e comes is past marks =
    let no = fate_unmarked frame (air.frames.landed + 1) e is in
    let flies = (next_flies air.frames frame comes).0 in (
      (may_fare air past frame e marks comes is, tt),
      moves past (past ++ e ∷ []) air (landed air) marks (same_marked past e no.1) (same_left past e no.0 ∙ marks.left) (let same : air.frames.sent ≤ air.frames.sent = omega arith in same) (lands_ring air.frames marks.ring flies)
          (λ number above below so. lands_so IsLost air.frames number marks.ring flies above below (so (omega (arith, above)))),
    )

-- ---- at first

pub nothing_marked : Marked [] first_outer
unfolding first_outer no_frames
nothing_marked = record {
  left = refl;
  sent = λ number has. absurd has;
  lost = λ number has above. absurd has;
  ring = record { order = omega arith; enough = omega arith; few = omega arith };
}
