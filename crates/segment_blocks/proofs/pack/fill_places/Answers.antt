use Rattle.std.proofs.Common.{arith, ◌≡◌, ◌∙◌, ap, sym, length}
use Rattle.vol_spec.specs.BoxValues.{bytes_of}
use Rattle.vol_spec.specs.Raw.{number}
use Rattle.segment_blocks.proofs.Again.{bytes_of_number}
use Rattle.segment_blocks.proofs.pack.fill_places.Goals as goal

pub returns : goal.returns
returns c =
    let len : length c.pack_places.new.values ≡ length c.args.values.now = omega (arith, c.pack_places.auto.values, c.clear.auto.values) in
    sym (bytes_of_number c.pack_places.new.values (λ i. omega (arith, c.type_inv.values i))) ∙ ap (λ n. bytes_of n (number c.pack_places.new.values)) len ∙ ap (bytes_of (length c.args.values.now)) c.pack_places.ensures
