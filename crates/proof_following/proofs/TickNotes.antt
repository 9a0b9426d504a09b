-- The first note of a tick has the course go through the whole tick; each note of a node goes on from there.
use Rattle.std.proofs.Common.{◌≡◌, ℕ, ◌&&◌, not, Bool, true, false, if◌then◌else◌, List, [], ◌∷◌, ◌++◌, refl, ap, ap₂, ◌∙◌}
use Rattle.std.specs.Prelude.{nat_lt}
use Rattle.zw_text.specs.declared.entry.Entry.{Entry}
use Rattle.zw_text.specs.declared.entry.Entry.TheVariants as entry
use Rattle.law_time.specs.Heeds.{Heeds}
use Rattle.law_time.specs.Moments.{clock}
use Rattle.law_time.specs.Requests.{are_none}
use Rattle.proof_ends.specs.proof_requests.law_host.Course.{Course, each_in_turn}
use Rattle.proof_ends.specs.proof_requests.law_host.Ends.{gives_up_late}
use Rattle.proof_ends.specs.proof_requests.law_host.Following.{after, comes_to, has_heard, has_ticked, is_before_host, is_note, is_of_host}
use Rattle.proof_ends.specs.proof_requests.law_host.Ticks.{denies, ticks}
use Rattle.proof_following.specs.Ended.{GaveUp, GoneSo}
use Rattle.proof_following.specs.Quiet.{NoneGone}
use Rattle.proof_following.proofs.Ending.{gives_late}
use Rattle.proof_following.proofs.Entering.{comes_within, first_after, note_plainly, plainly_within}
use Rattle.proof_following.proofs.Ticking.{up_to_node}

note_late : (past : List Entry) (e : Entry) → is_note e ≡ true → is_before_host past e ≡ false
note_late past (entry.Out command ended) is = refl
note_late past (entry.Store node setting) is = refl
note_late past (entry.Report node setting) is = refl
note_late past (entry.Unstored node property) is = refl
note_late past (entry.Old node id) is = refl
note_late past (entry.Unread node payload) is = refl
note_late past (entry.Awake node) is = refl
note_late past (entry.Asleep node) is = refl
note_late past (entry.Interviewed node) is = refl
note_late past (entry.InterviewFailed node) is = refl
note_late past (entry.Done node how) is = refl
note_late past (entry.Neighbours node list) is = refl
note_late past (entry.Failed node failed) is = refl
note_late past (entry.QueueFull node) is = refl
note_late past (entry.Held node) is = refl
note_late past (entry.Unkept node) is = refl
note_late past e is = absurd (let bad : false ≡ true = is in cc)

module _ (heeds : Heeds) (past : List Entry) where
  -- the first note in a tick
  pub tick_first : (e : Entry) (rest notes : List Entry) (c : Course) → is_note e ≡ true → c.fits ≡ true → c.due ≡ [] → nat_lt c.ticked (clock past) ≡ true
      → (ticks heeds past (clock past) c).fits ≡ true → (ticks heeds past (clock past) c).due ≡ e ∷ notes → after heeds past e rest c ≡ record (ticks heeds past (clock past) c) { due = notes }
  tick_first e rest notes c is fits none late well due = first_after heeds past e rest notes c (ticks heeds past (clock past) c) is fits comes well due
    where
      ticked : has_ticked heeds past e c ≡ ticks heeds past (clock past) c
      ticked = ap₂ (λ (a b : Bool). if a && not b then ticks heeds past (clock past) c else c) late (note_late past e is)

      comes : comes_to heeds past e c ≡ ticks heeds past (clock past) c
      comes =
          comes_within heeds past e c (plainly_within e (note_plainly e is))
          ∙ ap (λ (l : List Entry). if are_none l then has_heard heeds past e (has_ticked heeds past e c) else c) none
          ∙ ap (λ (d : Course). has_heard heeds past e d) ticked
          ∙ ap (λ (l : List Entry). if are_none l && is_of_host e then denies heeds past (ticks heeds past (clock past) c) else ticks heeds past (clock past) c) due

  -- a node gives up, or does not; the nodes before it in order do not
  pub node_goes : (now : ℕ) (front back : List ℕ) (n : ℕ) (mid : Course) (told : List Entry) → NoneGone heeds now (past ++ mid.due) front → GoneSo heeds (past ++ mid.due) now n told
      → (later : Course) × (each_in_turn (gives_up_late heeds past now) (front ++ n ∷ back) mid ≡ each_in_turn (gives_up_late heeds past now) back later) × GaveUp mid n told later
  node_goes now front back n mid told none gone =
      (gives_up_late heeds past now n mid, up_to_node heeds past now front back n mid none, gives_late heeds past now n mid told gone)
