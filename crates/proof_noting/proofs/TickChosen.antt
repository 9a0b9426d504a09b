-- What is given up, and the end of a request without a frame, leave what is still to be chosen in the course of notes; and notes that are due in a tick stand one after another.
use Rattle.law_time.specs.Heeds.{Heeds}
use Rattle.law_time.specs.Moments.{clock}
use Rattle.proof_hearing.proofs.Entering.{notes_after}
use Rattle.proof_hearing.proofs.TickNotes.{tick_first}
use Rattle.proof_hearing.proofs.Ticking.{nodes_grow, nodes_rest}
use Rattle.proof_hearing.specs.proof_choice.proof_following.Ended.{rest_of}
use Rattle.proof_hearing.specs.Hearing.{choosing}
use Rattle.proof_hearing.specs.proof_queue.proof_attempts.proof_requests.law_host.Course.{Course, each_in_turn}
use Rattle.proof_hearing.specs.proof_queue.proof_attempts.proof_requests.law_host.Ends.{ends_without, gives_up_late}
use Rattle.proof_hearing.specs.proof_queue.proof_attempts.proof_requests.law_host.Following.{course_after, is_note}
use Rattle.proof_hearing.specs.proof_queue.proof_attempts.proof_requests.law_host.Ticks.{ticks}
use Rattle.proof_noting.proofs.Marks.{notes_unrefused}
use Rattle.proof_noting.specs.Following.{CourseOf, Outset, course_since}
use Rattle.proof_noting.proofs.Choosing.{cancel, course_on}
use Rattle.proof_noting.proofs.InFront.{without_passes}
use Rattle.std.proofs.Common.{Bool, List, Option, [], ap, append_assoc, ap₂, refl, sym, true, ℕ, ◌++◌, ◌∙◌, ◌∷◌, ◌≡◌}
use Rattle.std.specs.List.{AllByRecursion}
use Rattle.std.specs.Prelude.{nat_lt}
use Rattle.zw_text.specs.declared.entry.Done.{Done as HowDone}
use Rattle.zw_text.specs.declared.entry.Entry.{Entry}

-- ---- what is still to be chosen

module _ (keepings : List Bool) (texts : List (Option (List ℕ))) where
  pub without_chosen : (heeds : Heeds) (past : List Entry) (now : ℕ) (how : HowDone) (c : Course)
      → ends_without heeds past now how (choosing keepings texts c) ≡ choosing keepings texts (ends_without heeds past now how c)
  without_chosen heeds past now how c = without_passes (λ before. keepings) (λ before. texts) [] heeds past now how c

-- ---- notes in a tick

module _ (heeds : Heeds) where
  -- the course in the middle of a tick, where these nodes are still to be looked at: what stands of it so far is this
  abbrev pub ticking : List Entry → ℕ → List ℕ → Course → Course
  ticking start now nodes mid = each_in_turn (gives_up_late heeds start now) nodes mid

  -- so it is of the course of a transcript, whatever is chosen later
  abbrev pub InTick : (kept : List Bool) (opened : List (Option (List ℕ))) (start noted : List Entry) (now : ℕ) (rest : List ℕ) (mid : Course) (from : Outset) (heard : List Entry) → Type 0
  InTick kept opened start noted now rest mid from heard =
      (keepings : List Bool) (texts : List (Option (List ℕ)))
      → (more : List Entry) × ((ticking start now rest (choosing keepings texts mid)).due ≡ noted ++ more)
      × (course_since heeds from heard (record { keepings = kept ++ keepings; texts = opened ++ texts }) ≡ record (ticking start now rest (choosing keepings texts mid)) { due = more })

  same_fits : (c d : Course) → rest_of c ≡ rest_of d → d.fits ≡ true → c.fits ≡ true
  same_fits c d same fits = ap (λ (x : Course). x.fits) same ∙ fits

  -- the first notes: the course goes through the whole tick, of which these are due, and others
  pub first_noted : (from : Outset) (past told : List Entry) (c mid : Course) (rest : List ℕ) → AllByRecursion (λ e. is_note e ≡ true) told → (told ≡ [] → ⊥) → (of : CourseOf heeds from past c)
      → c.fits ≡ true → c.due ≡ []
      → nat_lt c.ticked (clock past) ≡ true
      → ((keepings : List Bool) (texts : List (Option (List ℕ))) → ticks heeds past (clock past) (choosing keepings texts c) ≡ ticking past (clock past) rest (choosing keepings texts mid))
      → mid.due ≡ told → mid.fits ≡ true → InTick of.kept of.opened past told (clock past) rest mid from (of.heard ++ told)
  first_noted from past [] c mid rest all some of fits none late goes due well keepings texts = absurd (some refl)
  first_noted from past (e ∷ told) c mid rest all some of fits none late goes due well keepings texts =
      let grown = nodes_grow heeds past (clock past) rest (choosing keepings texts mid) in
      let due_is : (ticking past (clock past) rest (choosing keepings texts mid)).due ≡ (e ∷ told) ++ grown.0 = grown.1 ∙ ap (λ (l : List Entry). l ++ grown.0) due in
      let fits_is : (ticking past (clock past) rest (choosing keepings texts mid)).fits ≡ true
      = same_fits (ticking past (clock past) rest (choosing keepings texts mid)) (choosing keepings texts mid) (nodes_rest heeds past (clock past) rest (choosing keepings texts mid)) well in
      let here = goes keepings texts in (
        grown.0,
        due_is,
        course_on heeds from past of.heard (e ∷ told) (record { keepings = of.kept ++ keepings; texts = of.opened ++ texts }) of.split (notes_unrefused (e ∷ told) all)
            ∙ ap (λ (d : Course). course_after heeds past (e ∷ told) d) (of.is keepings texts)
            ∙ ap (λ (d : Course). course_after heeds (past ++ e ∷ []) told d)
            (tick_first heeds past e told (told ++ grown.0) (choosing keepings texts c) all.0 fits none late (ap (λ (d : Course). d.fits) here ∙ fits_is) (ap (λ (d : Course). d.due) here ∙ due_is)
            ∙ ap (λ (d : Course). record d { due = told ++ grown.0 }) here)
            ∙ notes_after heeds (past ++ e ∷ []) told grown.0 (record (ticking past (clock past) rest (choosing keepings texts mid)) { due = told ++ grown.0 }) all.1 fits_is refl,
      )

  -- further ones, of nodes that were still to be looked at
  pub more_noted : (kept : List Bool) (opened : List (Option (List ℕ))) (from : Outset) (start noted past heard told : List Entry) (now : ℕ) (rest back : List ℕ) (mid later : Course)
      → past ≡ from.before ++ heard → AllByRecursion (λ e. is_note e ≡ true) told
      → InTick kept opened start noted now rest mid from heard
      → ((keepings : List Bool) (texts : List (Option (List ℕ))) → ticking start now rest (choosing keepings texts mid) ≡ ticking start now back (choosing keepings texts later))
      → later.due ≡ noted ++ told → later.fits ≡ true → InTick kept opened start (noted ++ told) now back later from (heard ++ told)
  more_noted kept opened from start noted past heard told now rest back mid later split all is goes due well keepings texts =
      let (more, due_is, course_is) = is keepings texts in
      let here = goes keepings texts in
      let grown = nodes_grow heeds start now back (choosing keepings texts later) in
      let due_now : (ticking start now back (choosing keepings texts later)).due ≡ (noted ++ told) ++ grown.0 = grown.1 ∙ ap (λ (l : List Entry). l ++ grown.0) due in
      let more_is : more ≡ told ++ grown.0 = cancel noted more (told ++ grown.0) (sym due_is ∙ ap (λ (d : Course). d.due) here ∙ due_now ∙ append_assoc noted told grown.0) in
      let fits_is : (ticking start now back (choosing keepings texts later)).fits ≡ true
      = same_fits (ticking start now back (choosing keepings texts later)) (choosing keepings texts later) (nodes_rest heeds start now back (choosing keepings texts later)) well in (
        grown.0,
        due_now,
        course_on heeds from past heard told (record { keepings = kept ++ keepings; texts = opened ++ texts }) split (notes_unrefused told all)
            ∙ ap (λ (d : Course). course_after heeds past told d) (course_is ∙ ap₂ (λ (d : Course) (l : List Entry). record d { due = l }) here more_is)
            ∙ notes_after heeds past told grown.0 (record (ticking start now back (choosing keepings texts later)) { due = told ++ grown.0 }) all fits_is refl,
      )
