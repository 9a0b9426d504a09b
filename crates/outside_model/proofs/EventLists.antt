-- Lists of events that happened one after another.
use Rattle.std.proofs.Common.{◌≡◌, List, [], ◌∷◌, ◌++◌, refl, ap, sym, ◌∙◌, subst, append_assoc}
use Rattle.std.proofs.lemmas.List.{append-nil}
use Rattle.zw_text.specs.declared.entry.Entry.{Entry}
use Rattle.outside_model.specs.State.{Outside}
use Rattle.outside_model.specs.Events.{OuterEvent, happens, entries}
use Rattle.outside_model.specs.Did.{happens_all, entries_all, MayAll, Run}

pub happens_all-append : (w : Outside) (a b : List OuterEvent) → happens_all w (a ++ b) ≡ happens_all (happens_all w a) b
happens_all-append w [] b = refl
happens_all-append w (e ∷ a) b = happens_all-append (happens w e) a b

pub entries_all-append : (w : Outside) (a b : List OuterEvent) → entries_all w (a ++ b) ≡ entries_all w a ++ entries_all (happens_all w a) b
entries_all-append w [] b = refl
entries_all-append w (e ∷ a) b =
    ap (λ (t : List Entry). entries w e ++ t) (entries_all-append (happens w e) a b)
    ∙ sym (append_assoc (entries w e) (entries_all (happens w e) a) (entries_all (happens_all (happens w e) a) b))

pub may_all-append : (w : Outside) (a b : List OuterEvent) → MayAll w a → MayAll (happens_all w a) b → MayAll w (a ++ b)
may_all-append w [] b first later = later
may_all-append w (e ∷ a) b first later = (first.0, may_all-append (happens w e) a b first.1 later)

pub ran_nothing : (w : Outside) (before : List Entry) → Run [] w w before before
ran_nothing w before = record { may = tt; state = refl; entries = sym (append-nil before) }

pub ran_both : (a b : List OuterEvent) (old mid new : Outside) (before some all : List Entry) →
    Run a old mid before some → Run b mid new some all → Run (a ++ b) old new before all
ran_both a b old mid new before some all first later =
    let there : mid ≡ happens_all old a = first.state in
    record {
      may = may_all-append old a b first.may (subst (λ (w : Outside). MayAll w b) there later.may);
      state = later.state ∙ (ap (λ (w : Outside). happens_all w b) there ∙ sym (happens_all-append old a b));
      entries = later.entries
          ∙ (ap (λ (l : List Entry). l ++ entries_all mid b) first.entries
          ∙ (append_assoc before (entries_all old a) (entries_all mid b)
          ∙ (ap (λ (w : Outside). before ++ (entries_all old a ++ entries_all w b)) there
          ∙ ap (λ (l : List Entry). before ++ l) (sym (entries_all-append old a b)))));
    }
