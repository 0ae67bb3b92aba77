-- What writing layer by layer, and channel by channel, asks for.
use Rattle.std.proofs.Common.{◌≡◌, ◌∙◌, ◌≤◌, ◌+◌, ◌*◌, ℕ, Option, IfSome, arith, ap}
use Rattle.std.proofs.Math.Nat.{mul-le-mul_right}
use Rattle.vol_base.specs.declared.boxes.Box3.{Box3}
use Rattle.vol_base.specs.Outside.{Objects}
use Rattle.vol_spec.proofs.Told.{from_told, in_told}
use Rattle.vol_spec.specs.Costs.{cost}
use Rattle.vol_spec.specs.Grid.{cells_in, Inside}
use Rattle.vol_spec.specs.Types.{Name}
use Rattle.vol_spec.specs.declared.scale.Scale.{Scale}
use Rattle.cutout.proofs.CostSteps.{cost-is, costs, costs-append, costs-front}
use Rattle.cutout.proofs.LayerSteps.{cells-more, cells-rest, front_cells, IsNumber}
use Rattle.cutout.specs.Layers.{end_layer, layer}

-- nothing yet
pub asked_begin : (o : Option Objects) (f : Objects → ℕ) (n : ℕ) → IfSome o (λ m. n ≤ n + f m)
asked_begin o f n = in_told o _ (λ m told. omega arith)

-- a layer more
pub layer_asked : (o same : Option Objects) (dataset : Name) (s : Scale) (b : Box3) (number begin was now : ℕ) → Inside s b → IsNumber s b number → same ≡ o
    → IfSome o (λ m. was ≤ begin + costs m dataset s (front_cells s b number)) → IfSome same (λ m. now ≤ was + cost m dataset s (layer s b number))
    → IfSome o (λ m. now ≤ begin + costs m dataset s (front_cells s b (number + 1)))
layer_asked o same dataset s b number begin was now inside is e h one =
    in_told o _ (λ m told.
    let so_far = from_told o _ m told h in
    let more = from_told same _ m (e ∙ told) one in
    let layer_is = cost-is m dataset s (layer s b number) in
    let all = ap (costs m dataset s) (cells-more s b number inside is) ∙ costs-append m dataset s (front_cells s b number) (cells_in s (layer s b number)) in
    omega (arith, so_far, more, layer_is, all))

-- some layers ask for no more than all
pub layers_asked : (o : Option Objects) (dataset : Name) (s : Scale) (b : Box3) (number begin now : ℕ) → Inside s b → number ≤ end_layer s b
    → IfSome o (λ m. now ≤ begin + costs m dataset s (front_cells s b number)) → IfSome o (λ m. now ≤ begin + cost m dataset s b)
layers_asked o dataset s b number begin now inside few h =
    in_told o _ (λ m told.
    let so_far = from_told o _ m told h in
    let rest = cells-rest s b number inside few in
    let front = costs-front m dataset s b (front_cells s b number) rest.0 rest.1 in
    omega (arith, so_far, front))

-- a channel more
pub channel_asked : (o same : Option Objects) (dataset : Name) (s : Scale) (b : Box3) (channel begin was now : ℕ) → same ≡ o
    → IfSome o (λ m. was ≤ begin + channel * cost m dataset s b) → IfSome same (λ m. now ≤ was + cost m dataset s b) → IfSome o (λ m. now ≤ begin + (channel + 1) * cost m dataset s b)
channel_asked o same dataset s b channel begin was now e h one =
    in_told o _ (λ m told.
    let so_far = from_told o _ m told h in
    let more = from_told same _ m (e ∙ told) one in
    let next : (channel + 1) * cost m dataset s b ≡ channel * cost m dataset s b + cost m dataset s b = omega arith in
    omega (arith, so_far, more, next))

pub channels_asked : (o : Option Objects) (dataset : Name) (s : Scale) (b : Box3) (channel channels begin now : ℕ) → channel ≤ channels
    → IfSome o (λ m. now ≤ begin + channel * cost m dataset s b) → IfSome o (λ m. now ≤ begin + channels * cost m dataset s b)
channels_asked o dataset s b channel channels begin now few h =
    in_told o _ (λ m told.
    let so_far = from_told o _ m told h in
    let more : channel * cost m dataset s b ≤ channels * cost m dataset s b = mul-le-mul_right (cost m dataset s b) few in
    omega (arith, so_far, more))
