-- The marks of `lose` that are left are those that the transcript shows.
use Rattle.std.proofs.Common.{◌≡◌, ℕ, ◌+◌, ◌-◌, Bool, true, false, Option, Some, None, List, [], ◌∷◌, ◌++◌, refl, ap, sym, subst, ◌∙◌}
use Rattle.std.proofs.lemmas.Bool.{cond_both}
use Rattle.inclusion.specs.declared.exchange.Exchange.{Exchange}
use Rattle.inclusion.specs.Messages.{scheme_get}
use Rattle.inclusion.specs.Joining.{Joined, joiner_takes}
use Rattle.inclusion.specs.Including.{Included, is_secure, includer_takes, failing_in}
use Rattle.include_text.specs.declared.line.IncludeLine.{IncludeLine}
use Rattle.include_text.specs.declared.line.IncludeLine.TheVariants.{Add, Reset, Lose, Repeat, Tick}
use Rattle.include_text.specs.declared.entry.IncludeEntry.{IncludeEntry}
use Rattle.include_text.specs.declared.entry.IncludeEntry.TheVariants.{Time}
use Rattle.include_text.specs.declared.entry.IncludeRefusal.{IncludeRefusal}
use Rattle.include_text.specs.declared.entry.IncludeRefusal.TheVariants.{Secure as HostSecure}
use Rattle.air_frames.specs.declared.frame.Heading.{Heading}
use Rattle.air_frames.specs.declared.frame.Heading.TheVariants.{Outward, Homeward}
use Rattle.include_world.specs.declared.flight.Flight.{Flight}
use Rattle.include_world.specs.Air.{AirState, first_air, air_entry, departing, frame_at, heard_if, heard_of, refusal_of, sending, sent_entries}
use Rattle.include_world.specs.World.{WorldState, Doing, IncludeEvent, Says, Passes, Lands, Ends, adds, begins, does, failed_entries, first_world, hears, hears_by, host_hears, joiner_of, key_entries, lands_by, lock_hears, refused, repeats, says, secure_entries, tells, after_all, entries_all}
use Rattle.include_world.specs.Added.{Reached}
use Rattle.proof_include.specs.Adding.{marks_by, marks_after, marks_left}

marks_append : (n : ℕ) (xs ys : List IncludeEntry) → marks_after n (xs ++ ys) ≡ marks_after (marks_after n xs) ys
marks_append n [] ys = refl
marks_append n (x ∷ xs) ys = marks_append (marks_by n x) xs ys

-- what was done leaves the marks that its entries show
abbrev Shown : ℕ → Doing → Type 0
Shown n did = did.world.air.losing ≡ marks_after n did.entries

-- ---- frames that go on the air

departing_losing : (air : AirState) (at : ℕ) (heading : Heading) (payload : List ℕ) → (departing air at heading payload).losing ≡ air.losing - 1
unfolding departing
departing_losing air at heading payload = refl

air_marks : (n : ℕ) (air : AirState) (at : ℕ) (heading : Heading) (payload : List ℕ) → marks_by n (air_entry air at heading payload) ≡ n - 1
air_marks n air at Outward payload = refl
air_marks n air at Homeward payload = refl

sending_marks : (air : AirState) (at : ℕ) (heading : Heading) (replies : List (List ℕ)) → (sending air at heading replies).losing ≡ marks_after air.losing (sent_entries air at heading replies)
sending_marks air at heading [] = refl
sending_marks air at heading (payload ∷ more) =
    sending_marks (departing air at heading payload) at heading more
    ∙ ap (λ (n : ℕ). marks_after n (sent_entries (departing air at heading payload) at heading more))
    (departing_losing air at heading payload ∙ sym (air_marks air.losing air at heading payload))

-- ---- what is heard

key_marks : (n node : ℕ) (before after : Option (List ℕ)) → marks_after n (key_entries node before after) ≡ n
key_marks n node None None = refl
key_marks n node None (Some key) = refl
key_marks n node (Some old) after = refl

secure_marks : (n node : ℕ) (before after : Bool) → marks_after n (secure_entries node before after) ≡ n
secure_marks n node false false = refl
secure_marks n node false true = refl
secure_marks n node true after = refl

-- entries that leave the marks, and then frames that go on the air
quiet_then : (quiet : List IncludeEntry) (air : AirState) (at : ℕ) (heading : Heading) (replies : List (List ℕ)) → marks_after air.losing quiet ≡ air.losing
    → (sending air at heading replies).losing ≡ marks_after air.losing (quiet ++ sent_entries air at heading replies)
quiet_then quiet air at heading replies same =
    sending_marks air at heading replies
    ∙ (ap (λ (n : ℕ). marks_after n (sent_entries air at heading replies)) (sym same) ∙ sym (marks_append air.losing quiet (sent_entries air at heading replies)))

lock_marks : (w : WorldState) (number : ℕ) (frame : Flight) (joined : Joined) → Shown w.air.losing (lock_hears w (heard_of number frame) joined)
lock_marks w number frame joined =
    quiet_then (key_entries frame.node (joiner_of w frame.node).key joined.joiner.key) w.air frame.node Homeward joined.replies
    (key_marks w.air.losing frame.node (joiner_of w frame.node).key joined.joiner.key)

host_marks : (w : WorldState) (number : ℕ) (frame : Flight) (included : Included) → Shown w.air.losing (host_hears w (heard_of number frame) included)
host_marks w number frame included =
    quiet_then (secure_entries frame.node (is_secure w.includer frame.node) (is_secure included.includer frame.node)) w.air frame.node Outward included.replies
    (secure_marks w.air.losing frame.node (is_secure w.includer frame.node) (is_secure included.includer frame.node))

by_marks : (w : WorldState) (number : ℕ) (frame : Flight) (drawn : List ℕ) (h : Heading) → Shown w.air.losing (hears_by w (heard_of number frame) drawn h)
by_marks w number frame drawn Outward = lock_marks w number frame (joiner_takes (joiner_of w frame.node) frame.payload drawn)
by_marks w number frame drawn Homeward = host_marks w number frame (includer_takes w.includer frame.node frame.payload drawn)

hears_marks : (w : WorldState) (number : ℕ) (frame : Flight) (drawn : List ℕ) → Shown w.air.losing (hears w (heard_of number frame) drawn)
unfolding hears
hears_marks w number frame drawn = by_marks w number frame drawn frame.heading

land_marks : (w : WorldState) (b : Bool) (number : ℕ) (frame : Flight) (drawn : List ℕ) → Shown w.air.losing (lands_by w (heard_if b (heard_of number frame)) drawn)
land_marks w true number frame drawn = refl
land_marks w false number frame drawn = hears_marks w number frame drawn

-- ---- lines

begins_marks : (w : WorldState) (node : ℕ) → Shown w.air.losing (begins w node)
begins_marks w node = departing_losing w.air node Outward scheme_get

adds_marks : (w : WorldState) (node : ℕ) (o : Option Exchange) → Shown w.air.losing (adds w node o)
adds_marks w node (Some exchange) = refl
adds_marks w node None =
    cond_both (is_secure w.includer node) (refused w HostSecure) (begins w node) (λ (d : Doing). Shown w.air.losing d) (λ e. refl) (λ e. begins_marks w node)

repeats_marks : (w : WorldState) (number : ℕ) (drawn : List ℕ) (o : Option IncludeRefusal) → Shown w.air.losing (repeats w number drawn o)
repeats_marks w number drawn (Some refusal) = refl
repeats_marks w number drawn None = hears_marks w number (frame_at w.air number) drawn

says_marks : (w : WorldState) (line : IncludeLine) (drawn : List ℕ) → Shown w.air.losing (does w (Says line drawn))
unfolding does
says_marks w (Add node) drawn = adds_marks w node w.includer.exchange
says_marks w (Reset node) drawn = refl
says_marks w (Lose count) drawn = refl
says_marks w (Repeat number) drawn = repeats_marks w number drawn (refusal_of w.air number)
says_marks w (Tick count) drawn = refl

-- ---- events

failed_marks : (n : ℕ) (o : Option ℕ) → marks_after n (failed_entries o) ≡ n
failed_marks n None = refl
failed_marks n (Some node) = refl

event_marks : (w : WorldState) (event : IncludeEvent) → Shown w.air.losing (does w event)
unfolding does
event_marks w (Says line drawn) = says_marks w line drawn
event_marks w Passes =
    cond_both (tells w) (Time (w.time + 1) ∷ []) [] (λ (l : List IncludeEntry). w.air.losing ≡ marks_after w.air.losing l) (λ e. refl) (λ e. refl)
event_marks w (Lands drawn) = land_marks w _ (w.air.landed + 1) (frame_at w.air (w.air.landed + 1)) drawn
event_marks w Ends = sym (failed_marks w.air.losing (failing_in w.includer.exchange))

all_marks : (w : WorldState) (events : List IncludeEvent) → (after_all w events).air.losing ≡ marks_after w.air.losing (entries_all w events)
all_marks w [] = refl
all_marks w (event ∷ events) =
    all_marks (does w event).world events
    ∙ (ap (λ (n : ℕ). marks_after n (entries_all (does w event).world events)) (event_marks w event)
    ∙ sym (marks_append w.air.losing (does w event).entries (entries_all (does w event).world events)))

first_unmarked : (key : List ℕ) → (first_world key).air.losing ≡ 0
unfolding first_world first_air
first_unmarked key = refl

pub marks_are : (key : List ℕ) (T : List IncludeEntry) (w : WorldState) → Reached key T w → w.air.losing ≡ marks_left T
marks_are key T w r =
    ap (λ (v : WorldState). v.air.losing) r.state
    ∙ (all_marks (first_world key) r.events
    ∙ (ap (λ (n : ℕ). marks_after n (entries_all (first_world key) r.events)) (first_unmarked key)
    ∙ ap (λ (U : List IncludeEntry). marks_left U) (sym r.entries)))
