-- Bytes that are taken one event after another.
use Rattle.std.proofs.Common.{◌≡◌, ℕ, List, [], ◌∷◌, ◌++◌, refl, ap, sym, ◌∙◌, subst, append_assoc}
use Rattle.std.proofs.lemmas.List.{append-nil}
use Rattle.serial_frame.specs.Stream.{Reads, Rest, IsRest, Signal, piece_of, Feeds, GoesOn, ticks_after}
use Rattle.serial_frame.specs.declared.item.Item.{Item}
use Rattle.serial_frame.proofs.First.{one_reading}
use Rattle.serial_link.specs.State.{Side, LinkState, turn_heard, collisions_after, hear, hear_outs, hear_all}
use Rattle.serial_link.specs.Rules.{Step, outs_of, SideObeys, Obeys, KeepsRules}
use Rattle.serial_link.specs.Calls.{heard_steps, Takes, OnlyTakes}
use Rattle.serial_link.specs.declared.out.LinkOut.{LinkOut}
use Rattle.serial_link.specs.declared.turn.Turn.{Turn}
use Rattle.serial_link.proofs.Counting.{hear_all-append, heard_steps-append, outs_of-append}
use Rattle.serial_frame.proofs.Streams.{piece_of-append}
use Rattle.serial_frame.proofs.Streams.{marks_of-piece}
use Rattle.serial_link.proofs.RulesKept.{keeps, side_hears_all}

-- bytes read on from where others ended
reads-append : (bytes : List ℕ) (items : List Item) (mid more : List ℕ) (others : List Item) (rest : List ℕ) → Reads bytes items mid → Reads (mid ++ more) others rest → Reads (bytes ++ more) (items ++ others) rest
reads-append bytes [] mid more others rest (unfinished, e) later = subst (λ (t : List ℕ). Reads (t ++ more) others rest) (sym e) later
reads-append bytes (item ∷ items) mid more others rest (text, left, whole, e, reads) later =
    (text, left ++ more, whole, ap (λ (t : List ℕ). t ++ more) e ∙ append_assoc text left more, reads-append left items mid more others rest reads later)

ticks_after-append : (ticks : ℕ) (a b : List Item) → ticks_after (ticks_after ticks a) b ≡ ticks_after ticks (a ++ b)
ticks_after-append ticks [] b = refl
ticks_after-append ticks (item ∷ a) [] = refl
ticks_after-append ticks (item ∷ a) (other ∷ b) = refl

pub feeds-append : (old : Rest) (a : List ℕ) (mid : Rest) (i : List Item) (b : List ℕ) (new : Rest) (j : List Item) → Feeds old a mid i → Feeds mid b new j → Feeds old (a ++ b) new (i ++ j)
feeds-append old a mid i b new j first later =
    record {
      reads = subst (λ (t : List ℕ). Reads t (i ++ j) new.bytes) (append_assoc old.bytes a b) (reads-append (old.bytes ++ a) i mid.bytes b j new.bytes first.reads later.reads);
      ticks = later.ticks ∙ ap (λ (n : ℕ). ticks_after n j) first.ticks ∙ ticks_after-append old.ticks i j;
    }

-- rules that are kept twice
keeps-append : (a : LinkState) (s : List Signal) (h : List Step) (b : LinkState) (s' : List Signal) (h' : List Step) (c : LinkState)
    → KeepsRules a s h b → KeepsRules b s' h' c → KeepsRules a (s ++ s') (h ++ h') c
keeps-append a s h b s' h' c first later stream history obeys =
    subst (λ (t : List Signal). Obeys t (history ++ (h ++ h')) c) (append_assoc stream s s')
    (subst (λ (t : List Step). Obeys ((stream ++ s) ++ s') t c) (append_assoc history h h') (later (stream ++ s) (history ++ h) (first stream history obeys)))

-- nothing was taken
pub takes_nothing : (old new : LinkState) (before after : List LinkOut) → IsRest old.decoder → new ≡ old → after ≡ before → Takes old [] new before after
takes_nothing old new before after is_rest same outs =
    let feeds : Feeds old.decoder [] old.decoder [] = record { reads = (is_rest.unfinished, append-nil old.decoder.bytes); ticks = refl } in
    let rules : KeepsRules old [] [] old =
    (λ stream history obeys. subst (λ (t : List Signal). Obeys t (history ++ []) old) (sym (append-nil stream)) (subst (λ (t : List Step). Obeys stream t old) (sym (append-nil history)) obeys))
    in
    subst (λ (l : LinkState). Takes old [] l before after) (sym same)
    (record { items = []; decoder = feeds; side = refl; outs = outs ∙ sym (append-nil before); rules = rules })

-- all bytes were taken, and end no item
pub takes_none : (old : LinkState) (bytes : List ℕ) (new : LinkState) (before after : List LinkOut) → Feeds old.decoder bytes new.decoder [] → GoesOn old.decoder (piece_of bytes) new.decoder []
    → new.side ≡ old.side → after ≡ before → Takes old bytes new before after
takes_none old bytes new before after feeds goes side outs =
    record {
      items = [];
      decoder = feeds;
      side = side;
      outs = outs ∙ sym (append-nil before);
      rules = keeps old (piece_of bytes) [] new goes (marks_of-piece bytes)
          (λ h obeys. subst (λ (t : Side). SideObeys (h ++ []) t) (sym side) (subst (λ (t : List Step). SideObeys t old.side) (sym (append-nil h)) obeys));
    }

same_side : (a b : Side) → a.turn ≡ b.turn → a.collisions ≡ b.collisions → a ≡ b
same_side a b turn collisions = ap (λ (t : Turn). record { turn = t; collisions = a.collisions }) turn ∙ ap (λ (n : ℕ). record { turn = b.turn; collisions = n }) collisions

-- one item was taken
pub takes_item : (old : LinkState) (bytes : List ℕ) (new : LinkState) (before after : List LinkOut) (item : Item) → Feeds old.decoder bytes new.decoder (item ∷ [])
    → GoesOn old.decoder (piece_of bytes) new.decoder (item ∷ []) → new.side.turn ≡ turn_heard old.side.turn item → new.side.collisions ≡ collisions_after old.side.collisions item
    → after ≡ before ++ hear_outs old.side item → Takes old bytes new before after
takes_item old bytes new before after item feeds goes turn collisions outs =
    let side : new.side ≡ hear old.side item = same_side new.side (hear old.side item) turn collisions in
    record {
      items = item ∷ [];
      decoder = feeds;
      side = side;
      outs = outs ∙ ap (λ (t : List LinkOut). before ++ t) (sym (append-nil (hear_outs old.side item)));
      rules = keeps old (piece_of bytes) (heard_steps old.side (item ∷ [])) new goes (marks_of-piece bytes)
          (λ h obeys. subst (λ (t : Side). SideObeys (h ++ heard_steps old.side (item ∷ [])) t) (sym side) (side_hears_all h old.side (item ∷ []) obeys));
    }

-- bytes taken after others
pub takes-append : (a : LinkState) (p : List ℕ) (b : LinkState) (q : List ℕ) (c : LinkState) (x y z : List LinkOut) → Takes a p b x y → Takes b q c y z → Takes a (p ++ q) c x z
takes-append a p b q c x y z first later =
    let steps : heard_steps a.side first.items ++ heard_steps b.side later.items ≡ heard_steps a.side (first.items ++ later.items) =
    ap (λ (t : Side). heard_steps a.side first.items ++ heard_steps t later.items) first.side ∙ sym (heard_steps-append a.side first.items later.items)
    in
    record {
      items = first.items ++ later.items;
      decoder = feeds-append a.decoder p b.decoder first.items q c.decoder later.items first.decoder later.decoder;
      side = later.side ∙ ap (λ (t : Side). hear_all t later.items) first.side ∙ sym (hear_all-append a.side first.items later.items);
      outs = later.outs ∙ ap (λ (t : List LinkOut). t ++ outs_of (heard_steps b.side later.items)) first.outs
          ∙ append_assoc x (outs_of (heard_steps a.side first.items)) (outs_of (heard_steps b.side later.items))
          ∙ ap (λ (t : List LinkOut). x ++ t) (sym (outs_of-append (heard_steps a.side first.items) (heard_steps b.side later.items)) ∙ ap (λ (t : List Step). outs_of t) steps);
      rules = subst (λ (t : List Signal). KeepsRules a t (heard_steps a.side (first.items ++ later.items)) c) (sym (piece_of-append p q))
          (subst (λ (t : List Step). KeepsRules a (piece_of p ++ piece_of q) t c) steps
          (keeps-append a (piece_of p) (heard_steps a.side first.items) b (piece_of q) (heard_steps b.side later.items) c first.rules later.rules));
    }

same_link : (a b : LinkState) → a.decoder.bytes ≡ b.decoder.bytes → a.decoder.ticks ≡ b.decoder.ticks → a.side ≡ b.side → a ≡ b
same_link a b bytes ticks side =
    ap (λ (t : List ℕ). record { decoder = record { bytes = t; ticks = a.decoder.ticks }; side = a.side }) bytes
    ∙ ap (λ (n : ℕ). record { decoder = record { bytes = b.decoder.bytes; ticks = n }; side = a.side }) ticks
    ∙ ap (λ (t : Side). record { decoder = b.decoder; side = t }) side

-- bytes are read in one way, so no other items were heard
pub only_takes : (old : LinkState) (bytes : List ℕ) (new : LinkState) (before after : List LinkOut) → Takes old bytes new before after → OnlyTakes old bytes new before after
only_takes old bytes new before after takes items rest reads =
    let same = one_reading (old.decoder.bytes ++ bytes) takes.items items new.decoder.bytes rest takes.decoder.reads reads in (
      same_link new (record { decoder = record { bytes = rest; ticks = ticks_after old.decoder.ticks items }; side = hear_all old.side items })
          same.1
          (takes.decoder.ticks ∙ ap (λ (t : List Item). ticks_after old.decoder.ticks t) same.0)
          (takes.side ∙ ap (λ (t : List Item). hear_all old.side t) same.0),
      takes.outs ∙ ap (λ (t : List Item). before ++ outs_of (heard_steps old.side t)) same.0,
    )
