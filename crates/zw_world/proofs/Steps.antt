-- A line: it begins, and then it is so many ticks, or its effect and a settling.
use Rattle.std.proofs.Common.{◌≡◌, ℕ, Bool, true, false, List, [], refl, sym, subst, inl}
use Rattle.std.specs.Prelude.{Option, Result, Ok, Err, OnOk, OnErr}
use Rattle.device_sim.specs.State.{State}
use Rattle.zw_text.specs.declared.line.Line.{Line}
use Rattle.zw_base.specs.declared.order.Order.{Order}
use Rattle.zw_base.specs.declared.order.Word.{Word}
use Rattle.zw_words.specs.declared.side.Side.{Side}
use Rattle.zw_text.specs.declared.line.Line.TheVariants.{Command, Tick, Cut, Stall, Drop, Garble, Collide, Send, Get, Join, Interview, Lose, LoseAck, Repeat, Wake, Cancel, Link, Unlink, Discover, Neighbours, Failed, Probe, Local, Show, Store, Restart}
use Rattle.world_model.specs.State.{Machine}
use Rattle.world_model.specs.Events.{Event}
use Rattle.world_model.specs.Did.{Scene, Does, Nothing, ThenPrefix, Stops, Then}
use Rattle.world_model.specs.Prefixes.{SettlesPrefix, TicksPrefix, EffectPrefix, LineRestPrefix, LinePrefix}
use Rattle.world_model.specs.Settling.{Settles}
use Rattle.world_model.specs.Ticking.{Ticks}
use Rattle.world_model.specs.Lines.{IsEffect, IsLineBegin, IsLineRest, IsLine}
use Rattle.world_model.proofs.EventLists.{stopped_as}
use Rattle.world_model.proofs.Schedules.{did_then, stopped_first, stopped_then}
use Rattle.zw_world.specs.Effects.{is_tick, asks_or_sets, IsSetting}

pub not_tick : (line : Line) → ((count : ℕ) → line ≡ Tick count → ⊥) → is_tick line ≡ false
not_tick (Tick count) not = absurd (not count refl)
not_tick line not = refl

abbrev So : Bool → Type 0
So true = Unit {0}
So false = ⊥

-- the effect of a line that was matched
pub effect_as : {T E : Type 0} (answer : Result T E) (line known : Line) (s u : Scene) → line ≡ known → OnOk answer (Does (IsEffect known) s u) → OnOk answer (Does (IsEffect line) s u)
effect_as answer line known s u is done = subst (λ (l : Line). OnOk answer (Does (IsEffect l) s u)) (sym is) done

-- the same, whatever stands beside it
pub effect_beside : {T E : Type 0} (answer : Result T E) (line known : Line) (s u : List State → Option (List (List ℕ)) → ℕ → Scene) → line ≡ known
    → OnOk answer ((ds : List State) (r : Option (List (List ℕ))) (f : ℕ) → Does (IsEffect known) (s ds r f) (u ds r f))
    → OnOk answer ((ds : List State) (r : Option (List (List ℕ))) (f : ℕ) → Does (IsEffect line) (s ds r f) (u ds r f))
effect_beside answer line known s u is done =
    subst (λ (l : Line). OnOk answer ((ds : List State) (r : Option (List (List ℕ))) (f : ℕ) → Does (IsEffect l) (s ds r f) (u ds r f))) (sym is) done

pub ticks_as : {T E : Type 0} (answer : Result T E) (line : Line) (count : ℕ) (s u : Scene) → line ≡ Tick count → OnOk answer (Does (Ticks count) s u) → OnOk answer (Does (IsLineRest line) s u)
ticks_as answer line count s u is done = subst (λ (l : Line). OnOk answer (Does (IsLineRest l) s u)) (sym is) done

rest_as : (line : Line) (s u : Scene) → is_tick line ≡ false → Does (Then (IsEffect line) Settles) s u → Does (IsLineRest line) s u
rest_as (Tick count) s u not done = absurd (subst So not tt)
rest_as line s u not done = done

pub rest_done : {T E : Type 0} (answer : Result T E) (line : Line) (s t u : Scene) → is_tick line ≡ false → Does (IsEffect line) s t → OnOk answer (Does Settles t u) → OnOk answer (Does (IsLineRest line) s u)
rest_done (Ok value) line s t u not first later = rest_as line s u not (did_then (IsEffect line) Settles s t u first later)
rest_done (Err fault) line s t u not first later = tt

-- in part
rest_prefix : (line : Line) (m : Machine) (events : List Event) → is_tick line ≡ false → ThenPrefix (EffectPrefix line) (IsEffect line) SettlesPrefix m events → LineRestPrefix line m events
rest_prefix (Tick count) m events not prefix = absurd (subst So not tt)
rest_prefix line m events not prefix = prefix

in_rest : (line : Line) (s u : Scene) → is_tick line ≡ false → Stops (ThenPrefix (EffectPrefix line) (IsEffect line) SettlesPrefix) s u → Stops (LineRestPrefix line) s u
in_rest line s u not stops =
    stopped_as (ThenPrefix (EffectPrefix line) (IsEffect line) SettlesPrefix) (LineRestPrefix line) s u (λ events prefix. rest_prefix line s.machine events not prefix) stops

pub effect_stops : (line : Line) (s u : Scene) → is_tick line ≡ false → Stops (EffectPrefix line) s u → Stops (LineRestPrefix line) s u
effect_stops line s u not stops = in_rest line s u not (stopped_first (IsEffect line) (EffectPrefix line) SettlesPrefix s u stops)

pub rest_stops : {T E : Type 0} (answer : Result T E) (line : Line) (s t u : Scene) → is_tick line ≡ false → Does (IsEffect line) s t → OnErr answer (Stops SettlesPrefix t u) → OnErr answer (Stops (LineRestPrefix line) s u)
rest_stops (Ok value) line s t u not first later = tt
rest_stops (Err fault) line s t u not first later = in_rest line s u not (stopped_then (IsEffect line) (EffectPrefix line) SettlesPrefix s t u first later)

pub ticks_stop_as : {T E : Type 0} (answer : Result T E) (line : Line) (count : ℕ) (s u : Scene) → line ≡ Tick count → OnErr answer (Stops (TicksPrefix count) s u) → OnErr answer (Stops (LineRestPrefix line) s u)
ticks_stop_as answer line count s u is stops = subst (λ (l : Line). OnErr answer (Stops (LineRestPrefix l) s u)) (sym is) stops

-- nothing of the effect was done
pub none_in : (line : Line) (m : Machine) → EffectPrefix line m []
none_in Restart m = inl refl
none_in line m = inl refl

pub nothing_in : (line : Line) (s t : Scene) → Stops Nothing s t → Stops (EffectPrefix line) s t
nothing_in line s t stops = stopped_as Nothing (EffectPrefix line) s t (λ events none. subst (λ (l : List Event). EffectPrefix line s.machine l) (sym none) (none_in line s.machine)) stops

-- of the effect of a line that was matched
pub prefix_as : {T E : Type 0} (answer : Result T E) (line known : Line) (s u : Scene) → line ≡ known → OnErr answer (Stops (EffectPrefix known) s u) → OnErr answer (Stops (EffectPrefix line) s u)
prefix_as answer line known s u is stops = subst (λ (l : Line). OnErr answer (Stops (EffectPrefix l) s u)) (sym is) stops

pub line_done : {T E : Type 0} (answer : Result T E) (line : Line) (s t u : Scene) → Does IsLineBegin s t → OnOk answer (Does (IsLineRest line) t u) → OnOk answer (Does (IsLine line) s u)
line_done (Ok value) line s t u first later = did_then IsLineBegin (IsLineRest line) s t u first later
line_done (Err fault) line s t u first later = tt

pub line_stops : {T E : Type 0} (answer : Result T E) (line : Line) (s t u : Scene) → Does IsLineBegin s t → OnErr answer (Stops (LineRestPrefix line) t u) → OnErr answer (Stops (LinePrefix line) s u)
line_stops (Ok value) line s t u first later = tt
line_stops (Err fault) line s t u first later = stopped_then IsLineBegin Nothing (LineRestPrefix line) s t u first later

pub effect_plain : (line known : Line) (s u : Scene) → line ≡ known → Does (IsEffect known) s u → Does (IsEffect line) s u
effect_plain line known s u is done = subst (λ (l : Line). Does (IsEffect l) s u) (sym is) done

-- what is left of the lines but `tick` asks for something or sets something
pub left_of : (line : Line) → is_tick line ≡ false
    → ((order : Order) → line ≡ Command order → ⊥)
    → ((node : ℕ) → line ≡ Join node → ⊥)
    → ((command : ℕ) → line ≡ Cancel command → ⊥)
    → (line ≡ Restart → ⊥)
    → ((frame : ℕ) → line ≡ Repeat frame → ⊥)
    → ((node : ℕ) → line ≡ Wake node → ⊥)
    → ((node value : ℕ) → line ≡ Local node value → ⊥)
    → ((node : ℕ) → line ≡ Show node → ⊥)
    → asks_or_sets line ≡ true
left_of (Command order) other n0 n1 n2 n3 n4 n5 n6 n7 = absurd (n0 order refl)
left_of (Join node) other n0 n1 n2 n3 n4 n5 n6 n7 = absurd (n1 node refl)
left_of (Cancel command) other n0 n1 n2 n3 n4 n5 n6 n7 = absurd (n2 command refl)
left_of Restart other n0 n1 n2 n3 n4 n5 n6 n7 = absurd (n3 refl)
left_of (Repeat frame) other n0 n1 n2 n3 n4 n5 n6 n7 = absurd (n4 frame refl)
left_of (Wake node) other n0 n1 n2 n3 n4 n5 n6 n7 = absurd (n5 node refl)
left_of (Local node value) other n0 n1 n2 n3 n4 n5 n6 n7 = absurd (n6 node value refl)
left_of (Show node) other n0 n1 n2 n3 n4 n5 n6 n7 = absurd (n7 node refl)
left_of (Tick count) other n0 n1 n2 n3 n4 n5 n6 n7 = absurd (subst So other tt)
left_of line other n0 n1 n2 n3 n4 n5 n6 n7 = refl

-- and what is left of these sets something
pub setting_of : (line : Line) → asks_or_sets line ≡ true
    → ((node : ℕ) (word : Word) → line ≡ Send node word → ⊥)
    → ((node end : ℕ) → line ≡ Get node end → ⊥)
    → ((node : ℕ) → line ≡ Interview node → ⊥)
    → (line ≡ Discover → ⊥)
    → ((node : ℕ) → line ≡ Neighbours node → ⊥)
    → ((node : ℕ) → line ≡ Failed node → ⊥)
    → (line ≡ Probe → ⊥)
    → ((node : ℕ) → line ≡ Store node → ⊥)
    → IsSetting line
setting_of (Send node word) other n0 n1 n2 n3 n4 n5 n6 n7 = absurd (n0 node word refl)
setting_of (Get node end) other n0 n1 n2 n3 n4 n5 n6 n7 = absurd (n1 node end refl)
setting_of (Interview node) other n0 n1 n2 n3 n4 n5 n6 n7 = absurd (n2 node refl)
setting_of Discover other n0 n1 n2 n3 n4 n5 n6 n7 = absurd (n3 refl)
setting_of (Neighbours node) other n0 n1 n2 n3 n4 n5 n6 n7 = absurd (n4 node refl)
setting_of (Failed node) other n0 n1 n2 n3 n4 n5 n6 n7 = absurd (n5 node refl)
setting_of Probe other n0 n1 n2 n3 n4 n5 n6 n7 = absurd (n6 refl)
setting_of (Store node) other n0 n1 n2 n3 n4 n5 n6 n7 = absurd (n7 node refl)
setting_of (Command order) other n0 n1 n2 n3 n4 n5 n6 n7 = absurd (subst So (sym other) tt)
setting_of (Join node) other n0 n1 n2 n3 n4 n5 n6 n7 = absurd (subst So (sym other) tt)
setting_of (Cancel command) other n0 n1 n2 n3 n4 n5 n6 n7 = absurd (subst So (sym other) tt)
setting_of Restart other n0 n1 n2 n3 n4 n5 n6 n7 = absurd (subst So (sym other) tt)
setting_of (Repeat frame) other n0 n1 n2 n3 n4 n5 n6 n7 = absurd (subst So (sym other) tt)
setting_of (Wake node) other n0 n1 n2 n3 n4 n5 n6 n7 = absurd (subst So (sym other) tt)
setting_of (Local node value) other n0 n1 n2 n3 n4 n5 n6 n7 = absurd (subst So (sym other) tt)
setting_of (Show node) other n0 n1 n2 n3 n4 n5 n6 n7 = absurd (subst So (sym other) tt)
setting_of (Tick count) other n0 n1 n2 n3 n4 n5 n6 n7 = absurd (subst So (sym other) tt)
setting_of (Cut size) other n0 n1 n2 n3 n4 n5 n6 n7 = tt
setting_of (Stall ticks) other n0 n1 n2 n3 n4 n5 n6 n7 = tt
setting_of (Drop side) other n0 n1 n2 n3 n4 n5 n6 n7 = tt
setting_of (Garble side place xor) other n0 n1 n2 n3 n4 n5 n6 n7 = tt
setting_of Collide other n0 n1 n2 n3 n4 n5 n6 n7 = tt
setting_of (Lose count) other n0 n1 n2 n3 n4 n5 n6 n7 = tt
setting_of (LoseAck count) other n0 n1 n2 n3 n4 n5 n6 n7 = tt
setting_of (Link first second) other n0 n1 n2 n3 n4 n5 n6 n7 = tt
setting_of (Unlink first second) other n0 n1 n2 n3 n4 n5 n6 n7 = tt

-- no other line sets anything
pub no_setting : (line : Line) → IsSetting line
    → ((size : ℕ) → line ≡ Cut size → ⊥)
    → ((ticks : ℕ) → line ≡ Stall ticks → ⊥)
    → ((side : Side) → line ≡ Drop side → ⊥)
    → ((side : Side) (place xor : ℕ) → line ≡ Garble side place xor → ⊥)
    → (line ≡ Collide → ⊥)
    → ((count : ℕ) → line ≡ Lose count → ⊥)
    → ((count : ℕ) → line ≡ LoseAck count → ⊥)
    → ((first second : ℕ) → line ≡ Link first second → ⊥)
    → ((first second : ℕ) → line ≡ Unlink first second → ⊥)
    → ⊥
no_setting (Cut size) sets n0 n1 n2 n3 n4 n5 n6 n7 n8 = n0 size refl
no_setting (Stall ticks) sets n0 n1 n2 n3 n4 n5 n6 n7 n8 = n1 ticks refl
no_setting (Drop side) sets n0 n1 n2 n3 n4 n5 n6 n7 n8 = n2 side refl
no_setting (Garble side place xor) sets n0 n1 n2 n3 n4 n5 n6 n7 n8 = n3 side place xor refl
no_setting Collide sets n0 n1 n2 n3 n4 n5 n6 n7 n8 = n4 refl
no_setting (Lose count) sets n0 n1 n2 n3 n4 n5 n6 n7 n8 = n5 count refl
no_setting (LoseAck count) sets n0 n1 n2 n3 n4 n5 n6 n7 n8 = n6 count refl
no_setting (Link first second) sets n0 n1 n2 n3 n4 n5 n6 n7 n8 = n7 first second refl
no_setting (Unlink first second) sets n0 n1 n2 n3 n4 n5 n6 n7 n8 = n8 first second refl
no_setting line sets n0 n1 n2 n3 n4 n5 n6 n7 n8 = absurd sets
