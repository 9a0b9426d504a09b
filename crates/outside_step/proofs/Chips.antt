-- What the chip puts out does not depend on what the chip is, nor on the bytes on their way to it.
use Rattle.std.proofs.Common.{◌≡◌, ℕ, ◌+◌, List, [], ◌∷◌, ◌++◌, Option, take, drop, refl, ap, sym, ◌∙◌, subst, append_assoc}
use Rattle.std.specs.Prelude.{map, nat_lt}
use Rattle.std.proofs.lemmas.List.{map-append, drop-drop}
use Rattle.std.proofs.Math.Seq.{take-add}
use Rattle.serial_frame.specs.Stream.{Rest, Feeds}
use Rattle.serial_frame.specs.declared.item.Item.{Item}
use Rattle.serial_link.proofs.Taking.{feeds-append}
use Rattle.route_table.specs.declared.route.Route.{Route}
use Rattle.chip_sim.specs.State.{ChipState, ChipParts}
use Rattle.chip_sim.specs.Events.{ChipEvent, Judged, after, outs}
use Rattle.chip_sim.specs.Did.{after_all, outs_all, MayAll, judged_all}
use Rattle.chip_sim.specs.declared.out.ChipOut.{ChipOut}
use Rattle.chip_sim.specs.declared.out.ChipOut.TheVariants.{Write, OnAir, NoRoute, AskInfo, Full}
use Rattle.chip_sim.proofs.EventLists.{after_all-append, outs_all-append, may_all-append}
use Rattle.serial_pipes.specs.State.{WayState}
use Rattle.serial_pipes.specs.Events.{Takes}
use Rattle.serial_pipes.specs.Events as way
use Rattle.zw_text.specs.declared.entry.Entry.{Entry}
use Rattle.outside_model.specs.State.{OuterState, Outcome, and_then, each, Does, is_stalled}
use Rattle.outside_model.specs.Chip.{put_out, chip_does, chip_takes, MayTake}
use Rattle.outside_model.specs.Schedules.{TakesBytes}

-- another chip, and other bytes on their way to it
abbrev pub with_intake : OuterState → ChipParts → WayState → OuterState
with_intake o chip to_chip = record o { chip = chip; to_chip = to_chip }

abbrev pub framed : Outcome → ChipParts → WayState → Outcome
framed out chip to_chip = record { outer = with_intake out.outer chip to_chip; entries = out.entries }

-- the chip with another state
abbrev pub state_of : OuterState → ChipState → ChipParts
state_of o s = record { decoder = o.chip.decoder; state = s }

put_framed : (o : OuterState) (chip : ChipParts) (to_chip : WayState) (x : ChipOut) → put_out (with_intake o chip to_chip) x ≡ framed (put_out o x) chip to_chip
put_framed o chip to_chip (Write unit) = refl
put_framed o chip to_chip (OnAir to route payload) = refl
put_framed o chip to_chip NoRoute = refl
put_framed o chip to_chip (AskInfo node) = refl
put_framed o chip to_chip Full = refl

put_keeps : (o : OuterState) (x : ChipOut) → ((put_out o x).outer.chip ≡ o.chip) × ((put_out o x).outer.to_chip ≡ o.to_chip) × ((put_out o x).outer.clock ≡ o.clock) × ((put_out o x).outer.stalled_until ≡ o.stalled_until)
put_keeps o (Write unit) = (refl, refl, refl, refl)
put_keeps o (OnAir to route payload) = (refl, refl, refl, refl)
put_keeps o NoRoute = (refl, refl, refl, refl)
put_keeps o (AskInfo node) = (refl, refl, refl, refl)
put_keeps o Full = (refl, refl, refl, refl)

pub each_framed : (xs : List ChipOut) (o : OuterState) (chip : ChipParts) (to_chip : WayState) → each put_out (with_intake o chip to_chip) xs ≡ framed (each put_out o xs) chip to_chip
each_framed [] o chip to_chip = refl
each_framed (x ∷ xs) o chip to_chip =
    ap (λ (first : Outcome). and_then first (λ later. each put_out later xs)) (put_framed o chip to_chip x)
    ∙ ap (λ (rest : Outcome). record { outer = rest.outer; entries = (put_out o x).entries ++ rest.entries }) (each_framed xs (put_out o x).outer chip to_chip)

pub each_keeps : (xs : List ChipOut) (o : OuterState) → ((each put_out o xs).outer.chip ≡ o.chip) × ((each put_out o xs).outer.to_chip ≡ o.to_chip) × ((each put_out o xs).outer.clock ≡ o.clock) × ((each put_out o xs).outer.stalled_until ≡ o.stalled_until)
each_keeps [] o = (refl, refl, refl, refl)
each_keeps (x ∷ xs) o =
    let one = put_keeps o x in
    let more = each_keeps xs (put_out o x).outer in
    (more.0 ∙ one.0, more.1 ∙ one.1, more.2 ∙ one.2, more.3 ∙ one.3)

put-append : (xs ys : List ChipOut) (o : OuterState) → each put_out o (xs ++ ys) ≡ and_then (each put_out o xs) (λ later. each put_out later ys)
put-append [] ys o = refl
put-append (x ∷ xs) ys o =
    let ih = put-append xs ys (put_out o x).outer in
    let more : List Entry = (each put_out (put_out o x).outer xs).entries in
    let last : OuterState = (each put_out (put_out o x).outer xs).outer in
    ap (λ (rest : Outcome). record { outer = rest.outer; entries = (put_out o x).entries ++ rest.entries }) ih
    ∙ ap (λ (l : List Entry). record { outer = (each put_out last ys).outer; entries = l }) (sym (append_assoc (put_out o x).entries more (each put_out last ys).entries))

-- events of the chip, and then what they put out
pub closed : (events : List ChipEvent) (o : OuterState)
    → each chip_does o events ≡ framed (each put_out o (outs_all o.chip.state events)) (state_of o (after_all o.chip.state events)) o.to_chip
unfolding chip_does
closed [] o = refl
closed (e ∷ events) o =
    let s : ChipState = after o.chip.state e in
    let p : OuterState = (each put_out o (outs o.chip.state e)).outer in
    let keeps = each_keeps (outs o.chip.state e) o in
    let first : chip_does o e ≡ framed (each put_out o (outs o.chip.state e)) (state_of o s) o.to_chip = each_framed (outs o.chip.state e) o (state_of o s) o.to_chip in
    let q : OuterState = with_intake p (state_of o s) o.to_chip in
    let later : each chip_does q events ≡ framed (each put_out q (outs_all s events)) (state_of o (after_all s events)) o.to_chip = closed events q in
    let same : each put_out q (outs_all s events) ≡ framed (each put_out p (outs_all s events)) (state_of o s) o.to_chip = each_framed (outs_all s events) p (state_of o s) o.to_chip in
    ap (λ (out : Outcome). and_then out (λ later. each chip_does later events)) first
    ∙ (ap (λ (rest : Outcome). record { outer = rest.outer; entries = (each put_out o (outs o.chip.state e)).entries ++ rest.entries }) later
    ∙ (ap (λ (rest : Outcome). framed (record { outer = rest.outer; entries = (each put_out o (outs o.chip.state e)).entries ++ rest.entries }) (state_of o (after_all s events)) o.to_chip) same
    ∙ ap (λ (out : Outcome). framed out (state_of o (after_all s events)) o.to_chip) (sym (put-append (outs o.chip.state e) (outs_all s events) o))))

-- all that the chip puts out where it takes bytes, and then what it is
pub takes_closed : (o : OuterState) (count : ℕ) (rest : Rest) (ways : List (Item × Option Route))
    → chip_takes o count rest ways ≡ framed (each put_out o (outs_all o.chip.state (judged_all ways))) (record { decoder = rest; state = after_all o.chip.state (judged_all ways) }) (way.after o.to_chip (Takes count))
takes_closed o count rest ways =
    let w : WayState = way.after o.to_chip (Takes count) in
    let start : OuterState = with_intake o (record { decoder = rest; state = o.chip.state }) w in
    let outputs : List ChipOut = outs_all o.chip.state (judged_all ways) in
    closed (judged_all ways) start
    ∙ ap (λ (out : Outcome). framed out (record { decoder = rest; state = after_all o.chip.state (judged_all ways) }) w) (each_framed outputs o start.chip w)

-- the chip took bytes, and what it put out went where it belongs
pub does_takes : (o new : OuterState) (count : ℕ) (chip : ChipParts) (ways : List (Item × Option Route)) (outputs : List ChipOut) (before all : List Entry)
    → chip.state ≡ after_all o.chip.state (judged_all ways) → outputs ≡ outs_all o.chip.state (judged_all ways)
    → Does (each put_out (with_intake o chip (way.after o.to_chip (Takes count))) outputs) new before all → Does (chip_takes o count chip.decoder ways) new before all
does_takes o new count chip ways outputs before all state put done =
    let w : WayState = way.after o.to_chip (Takes count) in
    let same : each put_out (with_intake o chip w) outputs ≡ chip_takes o count chip.decoder ways =
    each_framed outputs o chip w
    ∙ (ap (λ (l : List ChipOut). framed (each put_out o l) chip w) put
    ∙ (ap (λ (s : ChipState). framed (each put_out o (outs_all o.chip.state (judged_all ways))) (record { decoder = chip.decoder; state = s }) w) state
    ∙ sym (takes_closed o count chip.decoder ways))) in
    subst (λ (out : Outcome). Does out new before all) same done

-- the chip took more bytes
pub takes_more : (a b c : OuterState) (n m : ℕ) (r q : Rest) (u v : List (Item × Option Route)) (x y z : List Entry)
    → MayTake a n r u → Does (chip_takes a n r u) b x y → MayTake b m q v → Does (chip_takes b m q v) c y z
    → MayTake a (n + m) q (u ++ v) × Does (chip_takes a (n + m) q (u ++ v)) c x z
takes_more a b c n m r q u v x y z may done later more =
    let s : ChipState = a.chip.state in
    let item_of = λ (w : Item × Option Route). w.0 in
    let first : Outcome = each put_out a (outs_all s (judged_all u)) in
    let chip : ChipParts = record { decoder = r; state = after_all s (judged_all u) } in
    let w : WayState = way.after a.to_chip (Takes n) in
    let mid : OuterState = with_intake first.outer chip w in
    let is : b ≡ mid = done.outer ∙ ap (λ (o : Outcome). o.outer) (takes_closed a n r u) in
    let told : y ≡ x ++ first.entries = done.entries ∙ ap (λ (o : Outcome). x ++ o.entries) (takes_closed a n r u) in
    let may_mid : MayTake mid m q v = subst (λ (o : OuterState). MayTake o m q v) is later in
    let done_mid : Does (chip_takes mid m q v) c y z = subst (λ (o : OuterState). Does (chip_takes o m q v) c y z) is more in
    let events : judged_all (u ++ v) ≡ judged_all u ++ judged_all v = map-append (λ (w : Item × Option Route). Judged w.0 w.1) u v in
    let items : map item_of (u ++ v) ≡ map item_of u ++ map item_of v = map-append item_of u v in
    let others : List ChipOut = outs_all chip.state (judged_all v) in
    let second : Outcome = each put_out first.outer others in
    let state : after_all s (judged_all (u ++ v)) ≡ after_all chip.state (judged_all v) = ap (λ (l : List ChipEvent). after_all s l) events ∙ after_all-append s (judged_all u) (judged_all v) in
    let outputs : outs_all s (judged_all (u ++ v)) ≡ outs_all s (judged_all u) ++ others = ap (λ (l : List ChipEvent). outs_all s l) events ∙ outs_all-append s (judged_all u) (judged_all v) in
    let moved : way.after a.to_chip (Takes (n + m)) ≡ way.after w (Takes m) = ap (λ (l : List ℕ). record { bytes = l; marks = a.to_chip.marks }) (sym (drop-drop m n a.to_chip.bytes)) in
    let whole : chip_takes a (n + m) q (u ++ v) ≡ framed (and_then first (λ o. each put_out o others)) (record { decoder = q; state = after_all chip.state (judged_all v) }) (way.after w (Takes m)) =
    takes_closed a (n + m) q (u ++ v)
    ∙ (ap (λ (l : List ChipOut). framed (each put_out a l) (record { decoder = q; state = after_all s (judged_all (u ++ v)) }) (way.after a.to_chip (Takes (n + m)))) outputs
    ∙ (ap (λ (o : Outcome). framed o (record { decoder = q; state = after_all s (judged_all (u ++ v)) }) (way.after a.to_chip (Takes (n + m)))) (put-append (outs_all s (judged_all u)) others a)
    ∙ (ap (λ (t : ChipState). framed (and_then first (λ o. each put_out o others)) (record { decoder = q; state = t }) (way.after a.to_chip (Takes (n + m)))) state
    ∙ ap (λ (t : WayState). framed (and_then first (λ o. each put_out o others)) (record { decoder = q; state = after_all chip.state (judged_all v) }) t) moved))) in
    let rest : chip_takes mid m q v ≡ framed second (record { decoder = q; state = after_all chip.state (judged_all v) }) (way.after w (Takes m)) =
    takes_closed mid m q v ∙ ap (λ (o : Outcome). framed o (record { decoder = q; state = after_all chip.state (judged_all v) }) (way.after w (Takes m))) (each_framed others first.outer chip w) in (
      record {
        moves = may.moves;
        feeds = subst (λ (l : List Item). Feeds a.chip.decoder (take (n + m) a.to_chip.bytes) q l) (sym items)
            (subst (λ (l : List ℕ). Feeds a.chip.decoder l q (map item_of u ++ map item_of v)) (sym (take-add n m a.to_chip.bytes))
            (feeds-append a.chip.decoder (take n a.to_chip.bytes) r (map item_of u) (take m (drop n a.to_chip.bytes)) q (map item_of v) may.feeds may_mid.feeds));
        judges = subst (λ (l : List ChipEvent). MayAll s l) (sym events) (may_all-append s (judged_all u) (judged_all v) may.judges may_mid.judges);
      },
      record {
        outer = done_mid.outer ∙ (ap (λ (o : Outcome). o.outer) rest ∙ sym (ap (λ (o : Outcome). o.outer) whole));
        entries = done_mid.entries ∙ (ap (λ (o : Outcome). y ++ o.entries) rest
            ∙ (ap (λ (l : List Entry). l ++ second.entries) told
            ∙ (append_assoc x first.entries second.entries ∙ sym (ap (λ (o : Outcome). x ++ o.entries) whole))));
      },
    )

-- what is left, and that no stall began
pub takes_bytes : (old new : OuterState) (count : ℕ) (rest : Rest) (ways : List (Item × Option Route)) (before all : List Entry)
    → MayTake old count rest ways → Does (chip_takes old count rest ways) new before all → TakesBytes count old new before all
takes_bytes old new count rest ways before all may done =
    let outputs : List ChipOut = outs_all old.chip.state (judged_all ways) in
    let is : new ≡ with_intake (each put_out old outputs).outer (record { decoder = rest; state = after_all old.chip.state (judged_all ways) }) (way.after old.to_chip (Takes count)) =
    done.outer ∙ ap (λ (o : Outcome). o.outer) (takes_closed old count rest ways) in
    let keeps = each_keeps outputs old in
    record {
      rest = rest;
      ways = ways;
      may = may;
      does = done;
      left = ap (λ (o : OuterState). o.to_chip.bytes) is;
      moves = ap (λ (o : OuterState). is_stalled o) is ∙ (ap (λ n. nat_lt n (each put_out old outputs).outer.stalled_until) keeps.2 ∙ (ap (λ n. nat_lt old.clock n) keeps.3 ∙ may.moves));
    }

-- bytes, and then more bytes
pub bytes_more : (n m : ℕ) (a b c : OuterState) (x y z : List Entry) → TakesBytes n a b x y → TakesBytes m b c y z → TakesBytes (n + m) a c x z
bytes_more n m a b c x y z first more =
    let both = takes_more a b c n m first.rest more.rest first.ways more.ways x y z first.may first.does more.may more.does in
    takes_bytes a c (n + m) more.rest (first.ways ++ more.ways) x z both.0 both.1
