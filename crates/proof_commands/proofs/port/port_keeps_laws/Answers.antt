-- All laws together.
use Rattle.proof_commands.proofs.port.port_keeps_laws.Goals as goal

pub returns : goal.returns
returns c = λ ended key number texts old new. record {
  story = c.runs_have_stories.ensures ended key number texts old new;
  orders = c.stories_keep_laws.ensures.orders ended key number texts old new;
  tables = c.stories_keep_laws.ensures.tables ended key number texts old new;
  values = c.stories_keep_laws.ensures.values ended key number texts old new;
  success = c.done_is_success.ensures key number texts old new;
  next = c.stories_keep_laws.ensures.next ended key number texts old new;
  adds = c.stories_keep_laws.ensures.adds ended key number texts old new;
  unheard = c.runs_are_heard.ensures.first key number old;
  heard = c.runs_are_heard.ensures.heard ended key number texts old new;
}
