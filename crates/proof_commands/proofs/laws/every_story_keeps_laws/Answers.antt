-- All laws together.
use Rattle.proof_commands.proofs.laws.every_story_keeps_laws.Goals as goal

pub returns : goal.returns
returns c = λ key old new. record {
  headline = c.stories_have_the_headline.ensures.one key old new;
  after_change = c.stories_have_the_headline.ensures.after_change key old new;
  whole_headline = c.stories_have_the_headline.ensures.whole key old new;
  legal = c.stories_are_legal.ensures key old new;
  answers_in_time = c.stories_answer_in_time.ensures key old new;
  ends_as_judged = c.stories_end_as_judged.ensures key old new;
  of_host = record {
    kept = c.stories_keep_records.ensures key old new;
    orders = c.stories_keep_laws.ensures.orders key old new;
    tables = c.stories_keep_laws.ensures.tables key old new;
    values = c.stories_keep_laws.ensures.values key old new;
    answers = c.stories_answer_lines.ensures.due key old new;
    reads = c.stories_answer_lines.ensures.reads key old new;
    shows_stored = c.stories_answer_lines.ensures.stored key old new;
    taken_back = c.stories_tell_of_commands.ensures.taken_back key old new;
    stores = c.stories_tell_of_commands.ensures.stores key old new;
    written = c.stories_tell_of_commands.ensures.written key old new;
    records = c.stories_leave_records.ensures key old new;
    sends = c.stories_send_what_is_due.ensures.sends key old new;
    wakes = c.stories_wake_as_told.ensures.wakes key old new;
    sleeps = c.stories_wake_as_told.ensures.sleeps key old new;
    holds = c.stories_wake_as_told.ensures.holds key old new;
    questions = c.stories_answer_questions.ensures.questions key old new;
    interviews = c.stories_answer_questions.ensures.interviews key old new;
    says_done = c.stories_answer_questions.ensures.done key old new;
    one_by_one = c.stories_ask_one_by_one.ensures.one key old new;
    numbered = c.stories_ask_one_by_one.ensures.numbered key old new;
    rests = c.stories_ask_one_by_one.ensures.rests key old new;
    ends = c.stories_ask_one_by_one.ensures.ends key old new;
    seals_once = c.stories_send_what_is_due.ensures.seals key old new;
    nonces = c.stories_send_what_is_due.ensures.nonces key old new;
    noted = c.stories_note_in_full.ensures.noted key old new;
    unkept = c.stories_note_in_full.ensures.unkept key old new;
    heard = c.stories_are_heard.ensures.laws key old new;
    alone = c.stories_are_heard.ensures.legal key old new;
  };
  of_devices = record {
    once = c.stories_take_once.ensures.once key old new;
    same = c.stories_take_once.ensures.same key old new;
    shows = c.stories_answer_lines.ensures.shows key old new;
    shown = c.stories_take_once.ensures.shown key old new;
    groups = c.stories_take_once.ensures.groups key old new;
    done_by = c.stories_do_as_shown.ensures.done_by key old new;
  };
  of_air = record {
    numbers = c.stories_keep_air_laws.ensures.numbers key old new;
    loses = c.stories_keep_air_laws.ensures.loses key old new;
    fares = c.stories_keep_air_laws.ensures.fares key old new;
    routes = c.stories_keep_air_laws.ensures.routes key old new;
    forgets = c.stories_keep_air_laws.ensures.forgets key old new;
    lands = c.stories_keep_air_laws.ensures.lands key old new;
    repeats = c.stories_keep_air_laws.ensures.repeats key old new;
    meets = c.stories_keep_air_laws.ensures.meets key old new;
    air = c.stories_are_legal_on_air.ensures key old new;
  };
  of_line = record {
    brings = c.stories_keep_air_laws.ensures.brings key old new;
    collides = c.stories_keep_air_laws.ensures.collides key old new;
    marks = c.stories_keep_air_laws.ensures.marks key old new;
    overruns = c.stories_keep_air_laws.ensures.overruns key old new;
    airs = c.stories_air_what_is_taken.ensures key old new;
    clears = c.stories_keep_air_laws.ensures.clears key old new;
    clears_only = c.stories_keep_air_laws.ensures.nowhere key old new;
    ticks = c.stories_keep_air_laws.ensures.ticks key old new;
    line = c.stories_are_legal_on_line.ensures key old new;
  };
}
