use Rattle.std.proofs.Common.{◌≡◌, ◌∙◌, ◌+◌, ◌-◌, ◌*◌, ◌/◌, ℕ, ap, arith, drop, length, take}
use Rattle.vol_base.specs.Boxes.{voxels}
use Rattle.vol_spec.specs.Grid.{cell_box}
use Rattle.cutout.proofs.PickSteps.{one_channel, pick_fits}
use Rattle.cutout.proofs.channels.pick.Goals as goal

pub slice_bounds-result-end : goal.slice_bounds-result-end
slice_bounds-result-end c =
    let fit = pick_fits (cell_box c.args.scale.now c.args.cell) c.args.scale.now.channels c.args.scale.now.width c.args.channels.first c.args.channels.count (length c.args.values.now) c.args.scale.now.some_channels c.requires.values c.requires.channels in
    omega (arith, fit.end)

pub returns : goal.returns
returns c =
    let one : ℕ = length c.args.values.now / c.args.scale.now.channels in
    let less : (a b : ℕ) → a + b - a ≡ b = λ a b. omega arith in
    ap (λ n. take n (drop (c.args.channels.first * one) c.args.values.now)) (less (c.args.channels.first * one) (c.args.channels.count * one))
    ∙ ap (λ o. take (c.args.channels.count * o) (drop (c.args.channels.first * o) c.args.values.now))
    (one_channel (voxels (cell_box c.args.scale.now c.args.cell)) c.args.scale.now.channels c.args.scale.now.width (length c.args.values.now) c.args.scale.now.some_channels c.requires.values)
