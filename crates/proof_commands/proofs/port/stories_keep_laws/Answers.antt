-- The laws follow from the facts.
use Rattle.proof_commands.specs.Port.{last, transcript}
use Rattle.proof_commands.proofs.HostKeeping.{story_adds, story_keeps, story_leaves}
use Rattle.proof_commands.proofs.port.stories_keep_laws.Goals as goal

pub returns-clause-orders : goal.returns-clause-orders
returns-clause-orders c = λ ended key number texts old new story lives tells on.
    c.laws_follow.ensures.laws (transcript key lives story) (last key story)
    (story_keeps c.lives_go_on.ensures.records c.lives_go_on.ensures.facts c.events_keep_facts.ensures.all ended key number texts old new story lives tells on)

pub returns-clause-tables : goal.returns-clause-tables
returns-clause-tables c = λ ended key number texts old new story lives tells on.
    c.laws_follow.ensures.tables (transcript key lives story) (last key story)
    (story_keeps c.lives_go_on.ensures.records c.lives_go_on.ensures.facts c.events_keep_facts.ensures.all ended key number texts old new story lives tells on)

pub returns-clause-values : goal.returns-clause-values
returns-clause-values c = λ ended key number texts old new story lives tells on.
    c.laws_follow.ensures.stores (transcript key lives story) (last key story)
    (story_keeps c.lives_go_on.ensures.records c.lives_go_on.ensures.facts c.events_keep_facts.ensures.all ended key number texts old new story lives tells on)

pub returns-clause-next : goal.returns-clause-next
returns-clause-next c = story_leaves c.lives_go_on.ensures.records

pub returns-clause-adds : goal.returns-clause-adds
returns-clause-adds c = story_adds
