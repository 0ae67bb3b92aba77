use Rattle.std.proofs.Common.{◌≡◌, arith, length, refl, rules}
use Rattle.vol_spec.specs.Grid.{cells_in}
use Rattle.vol_spec.specs.Raw.{raw_len}
use Rattle.vol_spec.proofs.Told.{in_told}
use Rattle.cutout.proofs.CutSteps.{cut_told}
use Rattle.cutout.proofs.RunSteps.{run_unasked}
use Rattle.cutout.proofs.cells.CellReader.cut_box.Goals as goal

pub returns-clause-cut : goal.returns-clause-cut
returns-clause-cut g c =
    let len : length c.read_cells.new.out ≡ raw_len c.args.part.now c.args.origin.now.scale.channels c.args.origin.now.scale.width = omega (arith, c.requires.len, c.read_cells.auto.out) in
    cut_told (g.S.Source.objects c.args.store.now) c.args.origin.now.dataset c.args.origin.now.scale c.args.part.now _ c.read_cells.new.out refl refl (c.inside.ensures.0 c.if-not-inside.false) len c.tell_bytes.ensures c.in-Ok.ensures.read

pub read_cells-requires-clause-target : goal.read_cells-requires-clause-target
read_cells-requires-clause-target g c = record { channels = omega arith; len = c.requires.len; limit = c.requires.limit (c.inside.ensures.0 c.if-not-inside.false) }

pub returns-then-not-inside-clause-walks : goal.returns-then-not-inside-clause-walks
returns-then-not-inside-clause-walks g c = record {
  run =
      in_told (g.S.Source.objects c.args.store.now) _ (λ m told. run_unasked m c.args.origin.now.dataset c.args.origin.now.scale (cells_in c.args.origin.now.scale c.args.part.now) _ _ c.args.self.now.shards c.args.self.now.shards refl);
  reads = search rules;
}
