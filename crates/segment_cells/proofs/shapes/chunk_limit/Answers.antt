use Rattle.std.proofs.Common.{ap, ◌∙◌, sym}
use Rattle.vol_spec.specs.SegSizes.{encoded_limit}
use Rattle.segment_cells.proofs.CellSteps.{limit-seg, raw_first, seg_first}
use Rattle.segment_cells.proofs.shapes.chunk_limit.Goals as goal

pub returns-in-Raw-clause-first : goal.returns-in-Raw-clause-first
returns-in-Raw-clause-first c = raw_first c.args.scale.now c.args.cell c.values_len.result c.in-Raw.is c.values_len.ensures.len

pub returns-in-Seg-clause-limit : goal.returns-in-Seg-clause-limit
returns-in-Seg-clause-limit c = c.seg_limit.ensures.limit ∙ ap encoded_limit c.shape_of.ensures ∙ sym (limit-seg c.args.scale.now c.args.cell c.in-Seg.block c.in-Seg.is)

pub returns-in-Seg-clause-first : goal.returns-in-Seg-clause-first
returns-in-Seg-clause-first c = seg_first c.args.scale.now c.args.cell c.in-Seg.block c.in-Seg.is c.seg_limit.result (c.seg_limit.ensures.limit ∙ ap encoded_limit c.shape_of.ensures)
