use Rattle.std.proofs.Common.{List, ◌∙◌, ap}
use Rattle.zw_base.specs.declared.property.Setting.{Setting}
use Rattle.device_kinds.specs.Values.{level_by}
use Rattle.device_kinds.specs.Settings.{merged}
use Rattle.device_kinds.proofs.CacheLemmas.{cache_more}
use Rattle.device_kinds.proofs.journal.Journal.make.Goals as goal

pub invariant_of-self-2 : goal.invariant_of-self-2
invariant_of-self-2 c =
    cache_more c.self.inside.changes.items c.push.new.self.items c.self.inside.values c.in_ok-values.values c.self.inside.last_level c.level_with-level.result c.args.change
    c.self.invariant
    (c.in_ok-values.ensures ∙ ap (λ (x : List Setting). merged x c.as_slice-2.result.now) c.as_slice.ensures ∙ ap (λ (x : List Setting). merged c.self.inside.values x) c.as_slice-2.ensures)
    (c.level_with-level.ensures ∙ ap (λ (x : List Setting). level_by x c.self.inside.last_level) c.as_slice-3.ensures)
    c.in_ok-push.ensures.ok
