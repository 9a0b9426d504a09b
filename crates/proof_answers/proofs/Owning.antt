-- What the end of a frame of the controller leaves: the SendData under way is over by the transcript too where the chip is given its callback, and the node counts as failed by both or neither.
use Rattle.std.proofs.Common.{◌≡◌, ◌<◌, ℕ, ◌==◌, Bool, true, false, if◌then◌else◌, List, [], ◌∷◌, ◌++◌, filter, map, ◌-◌, refl, sym, ap, ap₂, ◌∙◌, subst, append-nil, eq-eqb, ne_eqb, eqb-true, length-set}
use Rattle.std.proofs.lemmas.Bool.{eqb-false}
use Rattle.std.proofs.lemmas.List.{get_or-set_other, get_or-set_same, map-append}
use Rattle.std.proofs.lemmas.List.Elements.{filter-append}
use Rattle.std.specs.Prelude.{Option, Some, None, slice_set}
use Rattle.serial_frame.specs.Frame.{FrameParts}
use Rattle.chip_functions.specs.declared.notice.Notice.TheVariants.{SendData as SendDataCallback}
use Rattle.chip_functions.specs.declared.notice.TransmitStatus.{TransmitStatus}
use Rattle.chip_functions.specs.declared.notice.TransmitStatus.TheVariants.{CompleteOk, NoAck, Fail, NotIdle, NoRoute}
use Rattle.chip_sim.specs.Nodes.{is_marked}
use Rattle.chip_sim.specs.Requests.{callback_frame, has_failed}
use Rattle.chip_sim.specs.declared.out.Sending.{Sending as SendingParts}
use Rattle.zw_text.specs.declared.entry.Entry.{Entry}
use Rattle.law_transcript.specs.Lists.{last_or}
use Rattle.law_wire.specs.Asked.{Course, Sending, last_sending}
use Rattle.law_wire.specs.Results.{Called, ended_at, ended_by, tells_failure}
use Rattle.law_wire.specs.Given.{Frame, Given, callback_of, handlers_at, notice_frame}
use Rattle.outside_model.specs.State.{OuterState}
use Rattle.proof_chip.specs.Serving.{as_given}
use Rattle.proof_chip.specs.Tally.{AreNumbered, Outlook}
use Rattle.proof_chip.proofs.Numbering.{with_number}
use Rattle.proof_chip.proofs.Passing.{IsOther}
use Rattle.proof_answers.specs.Owing.{owed_by}
use Rattle.proof_answers.specs.Telling.{HasFailing, IsUnder, failed_by}
use Rattle.proof_answers.proofs.Ending.{Finish, Own, Silent}
use Rattle.proof_answers.proofs.Entering.{now_owed_still, under_still}
use Rattle.proof_answers.proofs.Landing.{Ends}

-- ---- nodes that failed

same_failure : (status : TransmitStatus) → has_failed status ≡ tells_failure status
same_failure CompleteOk = refl
same_failure NoAck = refl
same_failure Fail = refl
same_failure NotIdle = refl
same_failure NoRoute = refl

last_end : {A : Type 0} (before : A) (xs : List A) (x : A) → last_or before (xs ++ x ∷ []) ≡ x
last_end before [] x = refl
last_end before (y ∷ xs) x = last_end y xs x

abbrev is_for : ℕ → Called → Bool
is_for node one = one.sending.node == node

-- one more tells it of its node, and leaves the others
more_failed : (calls : List Called) (one : Called) (node : ℕ) (b : Bool) → (one.sending.node == node) ≡ b → failed_by (calls ++ one ∷ []) node ≡ (if b then tells_failure one.status else failed_by calls node)
more_failed calls one node b is =
    ap (λ (l : List Called). last_or false (map (λ (c : Called). tells_failure c.status) l))
    (filter-append (is_for node) calls (one ∷ []) ∙ ap (λ (x : Bool). filter (is_for node) calls ++ (if x then one ∷ [] else [])) is) ∙ by b
  where
    by : (x : Bool) → last_or false (map (λ (c : Called). tells_failure c.status) (filter (is_for node) calls ++ (if x then one ∷ [] else []))) ≡ (if x then tells_failure one.status else failed_by calls node)
    by true =
        ap (λ (l : List Bool). last_or false l) (map-append (λ (c : Called). tells_failure c.status) (filter (is_for node) calls) (one ∷ []))
        ∙ last_end false (map (λ (c : Called). tells_failure c.status) (filter (is_for node) calls)) (tells_failure one.status)
    by false = ap (λ (l : List Called). last_or false (map (λ (c : Called). tells_failure c.status) l)) (append-nil (filter (is_for node) calls))

pub failing_more : (marks : List Bool) (calls : List Called) (one : Called) (node : ℕ) → one.sending.node ≡ node → node < 233 → HasFailing marks calls → HasFailing (slice_set marks node (has_failed one.status)) (calls ++ one ∷ [])
failing_more marks calls one node at within has = record {
  places = length-set marks node (has_failed one.status) ∙ has.places;
  same = λ other. by other (other == node) refl;
}
  where
    by : (other : ℕ) (b : Bool) → (other == node) ≡ b → is_marked (slice_set marks node (has_failed one.status)) other ≡ failed_by (calls ++ one ∷ []) other
    by other true is =
        let same : other ≡ node = eqb-true other node is in
        ap (λ (n : ℕ). is_marked (slice_set marks node (has_failed one.status)) n) same
        ∙ (get_or-set_same marks node (has_failed one.status) false (subst (λ (n : ℕ). node < n) (sym has.places) within)
        ∙ (same_failure one.status ∙ sym (more_failed calls one other true (eq-eqb one.sending.node other (at ∙ sym same)))))
    by other false is =
        get_or-set_other marks node other (has_failed one.status) false (eqb-false other node is)
        ∙ (has.same other ∙ sym (more_failed calls one other false (ne_eqb one.sending.node other (λ same. eqb-false other node is (sym same ∙ at)))))

-- ---- what ended, by both

module _ (v : Outlook) (number : ℕ) (o p : OuterState) (more : List FrameParts) (done : TransmitStatus) (course : Course) (past : List Entry) (e : Entry) (other : IsOther e) (time : p.clock ≡ o.clock)
    (unhandled : handlers_at past e ≡ []) (ends : ended_at course past e ≡ ended_by done (with_number number (last_sending course past)))
    (numbered : AreNumbered v.sending v.by_frame v.numbers (last_sending course past)) (under : IsUnder o.chip.state.sending (last_sending course past)) where
  abbrev Agrees : Type 0
  Agrees = (handlers_at past e ++ map callback_of (ended_at course past e) ≡ as_given more) × Ends o p course past e

  own_by : (parts : SendingParts) → IsUnder (Some parts) (last_sending course past) → more ≡ callback_frame parts done ∷ [] → p.chip.state.sending ≡ None
      → p.chip.state.failing ≡ slice_set o.chip.state.failing parts.node (has_failed done)
      → ((sendings : List Sending) (ticks : ℕ) → owed_by sendings p.chip.state.sending p.calls ticks p.due ≡ owed_by sendings o.chip.state.sending o.calls ticks o.due)
      → ((sendings : List Sending) (one : Sending) → sendings ≡ one ∷ [] → AreNumbered v.sending v.by_frame v.numbers sendings → with_number number sendings ≡ one ∷ []) → Agrees
  own_by parts (one, alone, node, id, within) posts sending failing owes one_of =
      let over : Called = record { sending = one; status = done } in
      let ended : ended_at course past e ≡ record { sending = one; status = done } ∷ [] = ends ∙ ap (λ (l : List Sending). ended_by done l) (one_of (last_sending course past) one alone numbered) in (
        ap₂ (λ (a : List Given) (b : List Called). a ++ map callback_of b) unhandled ended
            ∙ (ap (λ (n : ℕ). Frame (notice_frame (SendDataCallback n done)) ∷ []) id ∙ ap (λ (l : List FrameParts). as_given l) (sym posts)),
        record {
          time = time;
          owes = now_owed_still course past (e ∷ []) (other, tt) (o.clock - 1) p ∙ owes (last_sending course past) (o.clock - 1);
          under = subst (λ (x : Option SendingParts). IsUnder x (last_sending course (past ++ e ∷ []))) (sym sending) tt;
          failing = λ calls has.
              subst (λ (marks : List Bool). HasFailing marks (calls ++ ended_at course past e)) (sym failing)
              (subst (λ (l : List Called). HasFailing (slice_set o.chip.state.failing parts.node (has_failed done)) (calls ++ l)) (sym ended) (failing_more o.chip.state.failing calls over parts.node node within has));
        },
      )

  pub agrees : Finish v number o p more done → (handlers_at past e ++ map callback_of (ended_at course past e) ≡ as_given more) × Ends o p course past e
  agrees (Silent none sending failing owes lacks) =
      let ended : ended_at course past e ≡ [] = ends ∙ ap (λ (l : List Sending). ended_by done l) (lacks (last_sending course past) numbered) in (
        ap₂ (λ (a : List Given) (b : List Called). a ++ map callback_of b) unhandled ended ∙ ap (λ (l : List FrameParts). as_given l) (sym none),
        record {
          time = time;
          owes = now_owed_still course past (e ∷ []) (other, tt) (o.clock - 1) p ∙ owes (last_sending course past) (o.clock - 1);
          under = subst (λ (x : Option SendingParts). IsUnder x (last_sending course (past ++ e ∷ []))) (sym sending) (under_still course past (e ∷ []) (other, tt) o.chip.state.sending under);
          failing = λ calls has.
              subst (λ (marks : List Bool). HasFailing marks (calls ++ ended_at course past e)) (sym failing)
              (subst (λ (l : List Called). HasFailing o.chip.state.failing l) (sym (ap (λ (l : List Called). calls ++ l) ended ∙ append-nil calls)) has);
        },
      )
  agrees (Own parts own posts sending failing owes one_of) =
      own_by parts (subst (λ (x : Option SendingParts). IsUnder x (last_sending course past)) own under) posts sending failing owes one_of
