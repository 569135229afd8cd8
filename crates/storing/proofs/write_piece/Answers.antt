-- `storing::write_piece` meets its contract: zeros laid right behind the piece make a whole sector of it. Assumes nothing.
use Rattle.storing.proofs.Laying.{piece_laid}
use Rattle.storing.proofs.write_piece.Goals as goal

pub returns : goal.returns
returns c = rw (← c.from-at.ensures) (piece_laid _ _ _ _ _ c.requires c.lay.ensures c.lay_fill.ensures)
