use Rattle.mt_numbered.proofs.pieces.read_id_lists.Goals as goal

pub returns-then-are_worth_pieces : goal.returns-then-are_worth_pieces
returns-then-are_worth_pieces g c = rw c.deref-then-are_worth_pieces.ensures.value at c.read_in_pieces.ensures
