use Rattle.deciding.proofs.Lines.{put_cut}
use Rattle.deciding.proofs.printing.put.Goals as goal

pub returns : goal.returns
returns c =
    put_cut c.args.lines.now.items c.args.piece.now c.try_extend_from_slice-fits.new.self.items c.remaining_capacity.result c.min-room.result
    c.try_extend_from_slice-fits.result c.remaining_capacity.ensures c.min-room.ensures c.try_extend_from_slice-fits.ensures.variant c.try_extend_from_slice-fits.ensures.ok
