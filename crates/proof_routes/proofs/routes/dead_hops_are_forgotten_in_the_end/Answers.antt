-- No hop is to be forgotten after whole lines, and so the end keeps the law as a further line would.
use Rattle.std.proofs.Common.{[], ◌∷◌, List, Some, sym, subst}
use Rattle.zw_text.specs.declared.entry.Entry.TheVariants as entry
use Rattle.law_wire.specs.Arriving.{Hop, IsForgotten}
use Rattle.law_wire.specs.Routes.{MayGo}
use Rattle.proof_walk.proofs.Lists.{each-append}
use Rattle.proof_walk.specs.world_model.State.{first_machine}
use Rattle.proof_walk.specs.world_lines.Spoken.{transcript_of}
use Rattle.proof_walk.specs.Walk.{both_know}
use Rattle.proof_walk.proofs.Over.{over}
use Rattle.proof_walk.proofs.Lines.{lines_lead}
use Rattle.proof_routes.specs.Knowing.{KnowNetworks}
use Rattle.proof_routes.specs.Forgetting.{MayForget, KnowPassages}
use Rattle.proof_routes.proofs.routes.dead_hops_are_forgotten_in_the_end.Goals as goal

pub returns : goal.returns
returns c = λ keys texts devices lines are whole.
    let got = lines_lead MayForget (both_know (KnowNetworks devices) KnowPassages)
    (over (MayGo devices) MayForget (KnowNetworks devices) KnowPassages (c.networks_go_on.ensures.walk devices) (c.frames_go_on.ensures.walk devices)) []
    (first_machine keys (Some texts) devices) lines are whole
    (c.networks_go_on.ensures.first keys texts devices, c.frames_go_on.ensures.first keys texts devices) in
    each-append MayForget [] (transcript_of (first_machine keys (Some texts) devices) lines) (entry.Said [] ∷ []) got.0
    (subst (λ (hops : List Hop). IsForgotten hops (entry.Said [])) (sym got.1.1.0.1) tt, tt)
