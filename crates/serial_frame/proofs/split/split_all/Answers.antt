use Rattle.std.proofs.Common.{List, ℕ, [], ◌++◌, subst, refl}
use Rattle.std.proofs.lemmas.List.{append-nil}
use Rattle.serial_frame.specs.Stream.{Reads}
use Rattle.serial_frame.specs.Search.{Finds, Ends}
use Rattle.serial_frame.specs.declared.item.Item.{Item}
use Rattle.serial_frame.specs.declared.search.Found.TheVariants.{Part}
use Rattle.serial_frame.proofs.split.split_all.Goals as goal

ends_here : (bytes left : List ℕ) (added : List Item) (end_sum : ℕ)
    → ((more : List Item) (rest : List ℕ) → Reads left more rest → Reads bytes (added ++ more) rest)
    → Finds [] left (Part end_sum) → Ends bytes added end_sum left
ends_here bytes left added end_sum goes (unfinished, sum, room) =
    record {
      reads = subst (λ (items : List Item). Reads bytes items left) (append-nil added) (goes [] left (unfinished, refl));
      sum = sum;
      room = room;
    }

pub returns-in-Part : goal.returns-in-Part
returns-in-Part c =
    let inv = c.loop-item.invariant in
    (inv.0, inv.1, ends_here c.args.bytes.now c.loop-item.left.now inv.0 c.in-Part.sum inv.2 (rw c.in-Part.is at c.in_ok-item.ensures))
