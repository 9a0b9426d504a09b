-- Lines that ask the host alone and are taken.
use Rattle.std.proofs.Common.{◌≡◌, ℕ, [], ◌∷◌, length, refl, sym, subst}
use Rattle.std.specs.Prelude.{None}
use Rattle.zw_base.specs.declared.order.Word.{Word}
use Rattle.zw_text.specs.declared.line.Line.{Line}
use Rattle.zw_text.specs.declared.line.Line.TheVariants.{Send, Get, Interview, Probe}
use Rattle.host_orders.specs.Errands.{send_refusal, send_text, get_refusal, get_text}
use Rattle.host_orders.specs.Refusals.{classes_of}
use Rattle.host_keep.specs.Keeping.{Shelf}
use Rattle.host_requests.specs.declared.task.Task.TheVariants.{Plain}
use Rattle.host_model.specs.State.{HostParts, node_of}
use Rattle.host_model.specs.Events.{Queues, Queues_interview, Queues_probe}
use Rattle.host_model.specs.May.{known_of}
use Rattle.host_model.specs.Asking.{interview_refusal, places_refusal}
use Rattle.host_core.specs.Calls.{Are, DoesAlone}
use Rattle.port_run.specs.declared.asking.Answer.TheVariants.{Taken}
use Rattle.port_run.specs.Steps.{place, Asked}

module _ (host host' : HostParts) (shelf : Shelf) (decoder : host'.decoder ≡ host.decoder) (line : Line) where
  pub sent : (node : ℕ) (word : Word) → line ≡ Send node word → send_refusal (known_of (node_of host.state node)) (length host.state.requests.queue) word ≡ None
      → DoesAlone (Are (Queues (Plain node (send_text (classes_of (known_of (node_of host.state node))) word)) ∷ [])) host.state [] host'.state [] → Asked line Taken (place host shelf) (place host' shelf)
  sent node word is judged does =
      subst (λ (l : Line). Asked l Taken (place host shelf) (place host' shelf)) (sym is)
      (record { answer_is = refl; unrefused = judged; does = does shelf; decoder = decoder })

  pub got : (node end : ℕ) → line ≡ Get node end → get_refusal (known_of (node_of host.state node)) (length host.state.requests.queue) end ≡ None
      → DoesAlone (Are (Queues (Plain node (get_text (classes_of (known_of (node_of host.state node))) end)) ∷ [])) host.state [] host'.state [] → Asked line Taken (place host shelf) (place host' shelf)
  got node end is judged does =
      subst (λ (l : Line). Asked l Taken (place host shelf) (place host' shelf)) (sym is)
      (record { answer_is = refl; unrefused = judged; does = does shelf; decoder = decoder })

  pub interviewed : (node : ℕ) → line ≡ Interview node → interview_refusal host.state node ≡ None → DoesAlone (Are (Queues_interview node ∷ [])) host.state [] host'.state [] → Asked line Taken (place host shelf) (place host' shelf)
  interviewed node is judged does =
      subst (λ (l : Line). Asked l Taken (place host shelf) (place host' shelf)) (sym is)
      (record { answer_is = refl; unrefused = judged; does = does shelf; decoder = decoder })

  pub probed : line ≡ Probe → places_refusal host.state 3 ≡ None → DoesAlone (Are (Queues_probe ∷ [])) host.state [] host'.state [] → Asked line Taken (place host shelf) (place host' shelf)
  probed is judged does =
      subst (λ (l : Line). Asked l Taken (place host shelf) (place host' shelf)) (sym is)
      (record { answer_is = refl; unrefused = judged; does = does shelf; decoder = decoder })
