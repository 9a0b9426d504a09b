-- What the end of a request that has ended badly makes of the course, whatever is chosen later: texts of what it sent wait no more, or a command is given up.
use Rattle.std.proofs.Common.{◌≡◌, ◌⊎◌, ℕ, Bool, true, false, if◌then◌else◌, inl, inr, List, [], ◌∷◌, ◌++◌, Option, refl, sym, ap, ◌∙◌, subst, append-nil}
use Rattle.zw_text.specs.declared.entry.Entry.{Entry}
use Rattle.law_transcript.specs.Units.{Carried}
use Rattle.law_time.specs.Heeds.{Heeds}
use Rattle.proof_hearing.specs.Hearing.{choosing}
use Rattle.proof_hearing.specs.proof_queue.proof_attempts.proof_requests.law_host.Course.{Course, each_in_turn, with_notes, without_texts}
use Rattle.proof_hearing.specs.proof_queue.proof_attempts.proof_requests.law_host.Ends.{ends_badly, ends_sealing, given_up_notes, gives_up, is_of_sealed, to_give_up_by_end}
use Rattle.proof_hearing.specs.proof_choice.proof_following.Ended.{GoneOf, rest_of}
use Rattle.proof_hearing.proofs.Ending.{sealing_due}
use Rattle.proof_noting.proofs.InFront.{sealing_passes}

-- ---- the course

sealing_chosen : (one : Carried) (keepings : List Bool) (texts : List (Option (List ℕ))) (c : Course) → ends_sealing one (choosing keepings texts c) ≡ choosing keepings texts (ends_sealing one c)
sealing_chosen one keepings texts c = sealing_passes (λ before. keepings) (λ before. texts) [] one c

-- what was sent has ended badly: with it a command is given up, or none is
abbrev pub made_of : List Carried → Bool → List Entry → Course → Course
made_of [] gone outcome c = c
made_of (one ∷ more) false outcome c = ends_sealing one c
made_of (one ∷ more) true outcome c = without_texts one.node (with_notes outcome (ends_sealing one c))

pub record Badly (heeds : Heeds) (past : List Entry) (now : ℕ) (sent : List Carried) (outcome : List Entry) (c : Course) : Type 0 where
  pub gone : Bool
  pub none : gone ≡ false → outcome ≡ []
  pub some : gone ≡ true → outcome ≡ [] → ⊥
  pub goes : (keepings : List Bool) (texts : List (Option (List ℕ)))
      → each_in_turn (ends_badly heeds past now) sent (choosing keepings texts c) ≡ choosing keepings texts (made_of sent gone outcome c)

module _ (heeds : Heeds) (past : List Entry) (now : ℕ) (outcome : List Entry) (c : Course) where
  badly_one : (one : Carried) → GoneOf (to_give_up_by_end heeds (past ++ c.due) now one.node) (past ++ c.due) one.node outcome → Badly heeds past now (one ∷ []) outcome c
  badly_one one gone = by gone
    where
      commands : List ℕ
      commands = to_give_up_by_end heeds (past ++ (ends_sealing one c).due) now one.node

      first : (keepings : List Bool) (texts : List (Option (List ℕ)))
          → ends_badly heeds past now one (choosing keepings texts c) ≡ each_in_turn (gives_up past one.node) commands (choosing keepings texts (ends_sealing one c))
      first keepings texts =
          ap (λ (x : Course). each_in_turn (gives_up past one.node) (to_give_up_by_end heeds (past ++ x.due) now one.node) x) (sealing_chosen one keepings texts c)

      list_is : (l : List ℕ) → to_give_up_by_end heeds (past ++ c.due) now one.node ≡ l → commands ≡ l
      list_is l is = ap (λ (due : List Entry). to_give_up_by_end heeds (past ++ due) now one.node) (sealing_due one c) ∙ is

      by : GoneOf (to_give_up_by_end heeds (past ++ c.due) now one.node) (past ++ c.due) one.node outcome → Badly heeds past now (one ∷ []) outcome c
      by (inl (nothing, none)) = record {
        gone = false;
        none = λ is. none;
        some = λ is. absurd (let bad : false ≡ true = is in cc);
        goes = λ keepings texts. first keepings texts ∙ ap (λ (l : List ℕ). each_in_turn (gives_up past one.node) l (choosing keepings texts (ends_sealing one c))) (list_is [] nothing);
      }
      by (inr (command, is, out)) = record {
        gone = true;
        none = λ no. absurd (let bad : true ≡ false = no in cc);
        some = λ yes no. absurd (let bad : given_up_notes (past ++ c.due) one.node command ≡ [] = sym out ∙ no in cc);
        goes = λ keepings texts.
            first keepings texts ∙ ap (λ (l : List ℕ). each_in_turn (gives_up past one.node) l (choosing keepings texts (ends_sealing one c))) (list_is (command ∷ []) is)
            ∙ ap (λ (due : List Entry). without_texts one.node (with_notes (given_up_notes (past ++ due) one.node command) (choosing keepings texts (ends_sealing one c)))) (sealing_due one c)
            ∙ ap (λ (l : List Entry). without_texts one.node (with_notes l (choosing keepings texts (ends_sealing one c)))) (sym out);
      }

  pub badly_goes : (sent : List Carried)
      → ((sent ≡ []) × (outcome ≡ [])) ⊎ ((one : Carried) × (sent ≡ one ∷ []) × GoneOf (to_give_up_by_end heeds (past ++ c.due) now one.node) (past ++ c.due) one.node outcome)
      → Badly heeds past now sent outcome c
  badly_goes sent (inl (none, nothing)) =
      subst (λ (l : List Carried). Badly heeds past now l outcome c) (sym none)
      (record { gone = false; none = λ is. nothing; some = λ is. absurd (let bad : false ≡ true = is in cc); goes = λ keepings texts. refl })
  badly_goes sent (inr (one, is, gone)) = subst (λ (l : List Carried). Badly heeds past now l outcome c) (sym is) (badly_one one gone)

-- what is due of it
pub made_due : (sent : List Carried) (gone : Bool) (outcome : List Entry) (c : Course) → (gone ≡ false → outcome ≡ []) → (sent ≡ [] → outcome ≡ []) → (made_of sent gone outcome c).due ≡ c.due ++ outcome
made_due [] gone outcome c none nothing = sym (ap (λ (l : List Entry). c.due ++ l) (nothing refl) ∙ append-nil c.due)
made_due (one ∷ more) false outcome c none nothing = sealing_due one c ∙ sym (ap (λ (l : List Entry). c.due ++ l) (none refl) ∙ append-nil c.due)
made_due (one ∷ more) true outcome c none nothing = ap (λ (l : List Entry). l ++ outcome) (sealing_due one c)

same_rest : (one : Carried) (c : Course) → (rest_of (ends_sealing one c) ≡ rest_of c) × ((ends_sealing one c).over ≡ c.over)
same_rest one c = by (is_of_sealed one)
  where
    by : (b : Bool) → (rest_of (if b then without_texts one.node c else c) ≡ rest_of c) × ((if b then without_texts one.node c else c).over ≡ c.over)
    by true = (refl, refl)
    by false = (refl, refl)

-- and what stays
pub made_rest : (sent : List Carried) (gone : Bool) (outcome : List Entry) (c : Course) → (rest_of (made_of sent gone outcome c) ≡ rest_of c) × ((made_of sent gone outcome c).over ≡ c.over)
made_rest [] gone outcome c = (refl, refl)
made_rest (one ∷ more) false outcome c = same_rest one c
made_rest (one ∷ more) true outcome c = same_rest one c
