-- Events of a host that are steps of the course, one after another.
use Rattle.std.proofs.Common.{◌≡◌, List, [], ◌++◌, refl, sym, ap, ◌∙◌, subst, append_assoc, append-nil}
use Rattle.std.proofs.lemmas.List.Concat.{flat_map-append}
use Rattle.proof_serial.specs.host_model.declared.out.HostOut.{HostOut}
use Rattle.proof_serial.specs.host_model.State.{HostState}
use Rattle.proof_serial.specs.host_model.Events.{HostEvent}
use Rattle.proof_serial.specs.host_model.Did.{after_all, outs_all}
use Rattle.proof_serial.proofs.EventLists.{after_all-append, outs_all-append}
use Rattle.proof_traffic.specs.Requests.{Word, Traffic}
use Rattle.proof_traffic.specs.Requests as course
use Rattle.proof_traffic.specs.HostTraffic.{words_put, words_out, Knows, Writes, Goes}
use Rattle.proof_traffic.proofs.JudgedItems.{may-append}
use Rattle.proof_traffic.proofs.JudgedItems.{steps-append}

pub words-append : (a b : List HostOut) → words_out (a ++ b) ≡ words_out a ++ words_out b
words-append a b = flat_map-append words_put a b

pub writes-both : (a b c : Traffic) (x y : List Word) → Writes a b x → Writes b c y → Writes a c (x ++ y)
writes-both a b c x y first later = record {
  up = later.up ∙ ap (λ (up : List Word). up ++ y) first.up ∙ append_assoc a.up x y;
  aborted = later.aborted ∙ first.aborted;
  sending = later.sending ∙ first.sending;
  calls = later.calls ∙ first.calls;
}

pub writes-none : (t : Traffic) → Writes t t []
writes-none t = record { up = sym (append-nil t.up); aborted = refl; sending = refl; calls = refl }

-- nothing happens
pub goes_nowhere : (t : Traffic) (h : HostState) → Knows t h → Goes t h []
goes_nowhere t h knows = record { steps = []; may = tt; knows = knows; writes = writes-none t }

-- more happens
pub goes_on : (t : Traffic) (h : HostState) (a b : List HostEvent) (first : Goes t h a) → Goes (course.after_all t first.steps) (after_all h a) b → Goes t h (a ++ b)
goes_on t h a b first later = record {
  steps = first.steps ++ later.steps;
  may = may-append t first.steps later.steps first.may later.may;
  knows = subst (λ (x : Traffic). Knows x (after_all h (a ++ b))) (sym (steps-append t first.steps later.steps))
      (subst (λ (g : HostState). Knows (course.after_all (course.after_all t first.steps) later.steps) g) (sym (after_all-append h a b)) later.knows);
  writes = subst (λ (x : Traffic). Writes t x (words_out (outs_all h (a ++ b)))) (sym (steps-append t first.steps later.steps))
      (subst (λ (ws : List Word). Writes t (course.after_all (course.after_all t first.steps) later.steps) ws) (sym words)
      (writes-both t (course.after_all t first.steps) (course.after_all (course.after_all t first.steps) later.steps) (words_out (outs_all h a)) (words_out (outs_all (after_all h a) b)) first.writes later.writes));
}
  where
    words : words_out (outs_all h (a ++ b)) ≡ words_out (outs_all h a) ++ words_out (outs_all (after_all h a) b)
    words = ap words_out (outs_all-append h a b) ∙ words-append (outs_all h a) (outs_all (after_all h a) b)
