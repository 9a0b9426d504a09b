-- What a device has had and done so far, by the transcript so far alone: it is the same over entries of which no device did anything.
use Rattle.std.proofs.Common.{◌≡◌, ◌≢◌, ◌⊎◌, ℕ, suc, Bool, if◌then◌else◌, List, [], ◌∷◌, ◌++◌, ◌-◌, refl, sym, ap, subst, ◌∙◌, append-nil}
use Rattle.std.proofs.lemmas.Bool.{eq-eqb, ne_eqb}
use Rattle.device_sim.specs.State.{State}
use Rattle.device_sim.specs.Event.{DeviceEvent}
use Rattle.zw_text.specs.declared.entry.Entry.{Entry}
use Rattle.zw_text.specs.declared.entry.Entry.TheVariants as entry
use Rattle.zw_text.specs.Transcript.{Made, made, made_at}
use Rattle.zw_text.proofs.Views.{shown-append}
use Rattle.law_transcript.specs.Devices.{ChangedAsShown, after_events, brought, comings, events_unjoined, replies_joined, sent_from, ticks_lived}
use Rattle.law_transcript.specs.Nodes.{controller}
use Rattle.law_wire.specs.Doings.{DidSoFar, HasDone, IsAge, doers_of}
use Rattle.proof_air.proofs.Entering.{IsOwn}
use Rattle.proof_devices.proofs.Quiet.{IsIdle, AreIdle, idle_quiet}
use Rattle.proof_devices.proofs.Shown.{still_brought}
use Rattle.proof_devices.proofs.Joined.{are_unsaid, none_unjoined, unjoined_same}
use Rattle.proof_devices.proofs.Replies.{replies_from}
use Rattle.proof_devices.proofs.Sent.{none_sent, sent_both}

-- it has lived so many ticks, and all that came to it and all that it did is shown
pub record Had (ticks node : ℕ) (old : State) (past : List Entry) : Type 0 where
  pub events : List DeviceEvent
  pub came : comings events ≡ brought node past
  pub lived : ticks_lived events ≡ ticks
  pub shows : ChangedAsShown node past old (after_events old events)
  pub answered : sent_from node past ≡ replies_joined node past old events

pub did_so : (ticks node : ℕ) (old : State) (past : List Entry) (e : Entry) → IsAge past e ticks → Had ticks node old past → DidSoFar node old past e
did_so ticks node old past e age had = record { events = had.events; came = had.came; lived = subst (IsAge past e) (sym had.lived) age; shows = had.shows; answered = had.answered }

-- ---- the same by other entries

had_as : (ticks node : ℕ) (old : State) (past later : List Entry) → brought node later ≡ brought node past → made node later ≡ made node past → sent_from node later ≡ sent_from node past
    → events_unjoined node later ≡ events_unjoined node past → Had ticks node old past → Had ticks node old later
had_as ticks node old past later brings makes sends joins had = record {
  events = had.events;
  came = had.came ∙ sym brings;
  lived = had.lived;
  shows = record { changes = had.shows.changes; changed = had.shows.changed; entered = makes ∙ had.shows.entered };
  answered = sends ∙ (had.answered ∙ ap (λ (n : ℕ). replies_from old n had.events) (sym joins));
}

made_none : (node : ℕ) (e : Entry) → IsIdle e → made_at node e ≡ []
made_none node (entry.Dev at by setting) idle = absurd idle
made_none node (entry.Said words) idle = absurd idle
made_none node (entry.Heard frame) idle = absurd idle
made_none node e idle = refl

none_made : (node : ℕ) (told : List Entry) → AreIdle told → made node told ≡ []
none_made node [] idle = refl
none_made node (e ∷ told) idle = ap (λ (l : List Made). l ++ made node told) (made_none node e idle.0) ∙ none_made node told idle.1

module _ (ticks node : ℕ) (old : State) (apart : node ≢ controller) (past told : List Entry) (idle : AreIdle told) where
  same_made : made node (past ++ told) ≡ made node past
  same_made = shown-append (made_at node) past told ∙ (ap (λ (l : List Made). made node past ++ l) (none_made node told idle) ∙ append-nil (made node past))

  same_sent : sent_from node (past ++ told) ≡ sent_from node past
  same_sent = sent_both node past told ∙ (ap (λ (l : List (List ℕ)). sent_from node past ++ l) (none_sent node told apart idle) ∙ append-nil (sent_from node past))

  same_joined : events_unjoined node (past ++ told) ≡ events_unjoined node past
  same_joined = unjoined_same node past told (are_unsaid told (idle_quiet told idle)) (none_unjoined node past told (idle_quiet told idle))

  pub had_on : Had ticks node old past → Had ticks node old (past ++ told)
  had_on had = had_as ticks node old past (past ++ told) (still_brought node past told (idle_quiet told idle)) same_made same_sent same_joined had

  pub had_back : Had ticks node old (past ++ told) → Had ticks node old past
  had_back had = had_as ticks node old (past ++ told) past (sym (still_brought node past told (idle_quiet told idle))) (sym same_made) (sym same_sent) (sym same_joined) had

-- ---- what a law asks of entries

-- in the ticks that have begun, but perhaps the running one
pub record HadBy (clock node : ℕ) (old : State) (past : List Entry) : Type 0 where
  pub ticks : ℕ
  pub age : (ticks ≡ clock) ⊎ (suc ticks ≡ clock)
  pub had : Had ticks node old past

abbrev pub Asks : ℕ → State → List Entry → Entry → Type 0
Asks node old past e = HasDone node old past e (doers_of e)

pub idle_doers : (e : Entry) → IsIdle e → doers_of e ≡ []
idle_doers (entry.Air frame sender receiver repeaters payload) idle = ap (λ (b : Bool). if b then [] else sender ∷ []) (eq-eqb sender controller idle)
idle_doers (entry.Dev at by setting) idle = absurd idle
idle_doers (entry.Said words) idle = absurd idle
idle_doers (entry.Heard frame) idle = absurd idle
idle_doers e idle = refl

pub own_doers : (node : ℕ) → node ≢ controller → (e : Entry) → IsOwn node e → doers_of e ≡ node ∷ []
own_doers node apart (entry.Dev at by setting) own = ap (λ (n : ℕ). n ∷ []) own
own_doers node apart (entry.Air frame sender receiver repeaters payload) own =
    ap (λ (b : Bool). if b then [] else sender ∷ []) (ne_eqb sender controller (λ is. apart (sym own ∙ is))) ∙ ap (λ (n : ℕ). n ∷ []) own
own_doers node apart e own = absurd own
