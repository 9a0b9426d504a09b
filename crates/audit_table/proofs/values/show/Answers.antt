use Rattle.std.proofs.Common.{ap, ◌∙◌, Some}
use Rattle.std.specs.BTreeMap.{insert_entry}
use Rattle.law_transcript.specs.Table.{compare_properties}
use Rattle.audit_table.specs.declared.values.Known.{Known}
use Rattle.audit_table.proofs.Maps.{insert-by}
use Rattle.audit_table.proofs.values.show.Goals as goal

pub returns : goal.returns
returns c =
    let es = c.args.values.now.entries in
    let setting = c.args.setting.now in
    c.in_ok-insert.ensures.entries ∙ insert-by _ es setting.property _ c.by_properties.ensures
    ∙ ap (λ (known : Known). insert_entry compare_properties es setting.property (record known { last = Some setting.value })) c.known_of-confirmed.ensures
