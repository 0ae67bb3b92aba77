use Rattle.std.proofs.Common.{◌≡◌, codes, is_some, None, Err, map, refl, ◌∙◌, rules}
use Rattle.serde_json.specs.Find.{get}
use Rattle.serde_json.specs.View.{view}
use Rattle.info_doc.specs.Fits as fits
use Rattle.info_doc.specs.Groups.{limit_fault}
use Rattle.info_doc.proofs.Judging.{judged_value}
use Rattle.info_doc.proofs.Reading.{has_read, size_fits, offset_fits, chunk_fits, more_fits, alone_fits, width_fits, channels_fit, wide_fits, blocks_fit, has_sharding, codes_fit, sharding_fault, limits_fault, scale_made}
use Rattle.info_doc.proofs.info.judge.Goals as goal

pub returns-in_err-sharding : goal.returns-in_err-sharding
returns-in_err-sharding c =
    let fault = c.in_err-sharding.field-0.0 in
    let given : c.from_residual-in_err-sharding.result ≡ Err fault = search rules in
    let read = has_read c.args.key.now (view c.args.volume.now) c.in_ok-values.values c.as_bytes.result.now (map view c.in_ok-scales.scales.now) (view c.in_ok-scale.scale.now) c.in_ok-shape.shape c.in_ok-encoding.encoding c.in_ok-values.ensures c.in_ok-scales.ensures c.as_bytes.ensures.bytes c.in_ok-scale.ensures c.in_ok-shape.ensures c.in_ok-encoding.ensures in
    given ∙ sharding_fault c.args.key.now (view c.args.volume.now) c.in_ok-values.values (view c.in_ok-scale.scale.now) c.in_ok-shape.shape c.in_ok-encoding.encoding read fault c.in_err-sharding.ensures

pub check_limits-requires-clause-size : goal.check_limits-requires-clause-size
check_limits-requires-clause-size c =
    let read = has_read c.args.key.now (view c.args.volume.now) c.in_ok-values.values c.as_bytes.result.now (map view c.in_ok-scales.scales.now) (view c.in_ok-scale.scale.now) c.in_ok-shape.shape c.in_ok-encoding.encoding c.in_ok-values.ensures c.in_ok-scales.ensures c.as_bytes.ensures.bytes c.in_ok-scale.ensures c.in_ok-shape.ensures c.in_ok-encoding.ensures in
    size_fits c.args.key.now (view c.args.volume.now) c.in_ok-values.values (view c.in_ok-scale.scale.now) c.in_ok-shape.shape c.in_ok-encoding.encoding read

pub check_limits-requires-clause-chunk : goal.check_limits-requires-clause-chunk
check_limits-requires-clause-chunk c =
    let read = has_read c.args.key.now (view c.args.volume.now) c.in_ok-values.values c.as_bytes.result.now (map view c.in_ok-scales.scales.now) (view c.in_ok-scale.scale.now) c.in_ok-shape.shape c.in_ok-encoding.encoding c.in_ok-values.ensures c.in_ok-scales.ensures c.as_bytes.ensures.bytes c.in_ok-scale.ensures c.in_ok-shape.ensures c.in_ok-encoding.ensures in
    chunk_fits c.args.key.now (view c.args.volume.now) c.in_ok-values.values (view c.in_ok-scale.scale.now) c.in_ok-shape.shape c.in_ok-encoding.encoding read

pub check_limits-requires-clause-block : goal.check_limits-requires-clause-block
check_limits-requires-clause-block c =
    let read = has_read c.args.key.now (view c.args.volume.now) c.in_ok-values.values c.as_bytes.result.now (map view c.in_ok-scales.scales.now) (view c.in_ok-scale.scale.now) c.in_ok-shape.shape c.in_ok-encoding.encoding c.in_ok-values.ensures c.in_ok-scales.ensures c.as_bytes.ensures.bytes c.in_ok-scale.ensures c.in_ok-shape.ensures c.in_ok-encoding.ensures in
    blocks_fit c.args.key.now (view c.args.volume.now) c.in_ok-values.values (view c.in_ok-scale.scale.now) c.in_ok-shape.shape c.in_ok-encoding.encoding read

pub returns-in_err-check_limits : goal.returns-in_err-check_limits
returns-in_err-check_limits c =
    let fault = c.in_err-check_limits.field-0.0 in
    let given : c.from_residual-in_err-check_limits.result ≡ Err fault = search rules in
    let read = has_read c.args.key.now (view c.args.volume.now) c.in_ok-values.values c.as_bytes.result.now (map view c.in_ok-scales.scales.now) (view c.in_ok-scale.scale.now) c.in_ok-shape.shape c.in_ok-encoding.encoding c.in_ok-values.ensures c.in_ok-scales.ensures c.as_bytes.ensures.bytes c.in_ok-scale.ensures c.in_ok-shape.ensures c.in_ok-encoding.ensures in
    let parts = has_sharding (get (codes "sharding") (view c.in_ok-scale.scale.now)) c.in_ok-sharding.sharding c.in_ok-sharding.ensures in
    given ∙ limits_fault c.args.key.now (view c.args.volume.now) c.in_ok-values.values (view c.in_ok-scale.scale.now) c.in_ok-shape.shape c.in_ok-encoding.encoding c.in_ok-sharding.sharding read parts fault (rw c.is_some.ensures at c.in_err-check_limits.ensures)

pub invariant_of-result : goal.invariant_of-result
invariant_of-result c =
    let read = has_read c.args.key.now (view c.args.volume.now) c.in_ok-values.values c.as_bytes.result.now (map view c.in_ok-scales.scales.now) (view c.in_ok-scale.scale.now) c.in_ok-shape.shape c.in_ok-encoding.encoding c.in_ok-values.ensures c.in_ok-scales.ensures c.as_bytes.ensures.bytes c.in_ok-scale.ensures c.in_ok-shape.ensures c.in_ok-encoding.ensures in
    let limits : limit_fault c.in_ok-values.values c.in_ok-shape.shape c.in_ok-encoding.encoding (is_some c.in_ok-sharding.sharding) ≡ None = rw c.is_some.ensures at (judged_value _ _ _ c.in_ok-check_limits.ensures).0 in
    record {
      key_ok = rw c.duplicate.ensures c.requires;
      width_ok = width_fits c.args.key.now (view c.args.volume.now) c.in_ok-values.values (view c.in_ok-scale.scale.now) c.in_ok-shape.shape c.in_ok-encoding.encoding read;
      some_channels = (channels_fit c.args.key.now (view c.args.volume.now) c.in_ok-values.values (view c.in_ok-scale.scale.now) c.in_ok-shape.shape c.in_ok-encoding.encoding read).0;
      channels_ok = (channels_fit c.args.key.now (view c.args.volume.now) c.in_ok-values.values (view c.in_ok-scale.scale.now) c.in_ok-shape.shape c.in_ok-encoding.encoding read).1;
      size_ok = size_fits c.args.key.now (view c.args.volume.now) c.in_ok-values.values (view c.in_ok-scale.scale.now) c.in_ok-shape.shape c.in_ok-encoding.encoding read;
      offset_ok = offset_fits c.args.key.now (view c.args.volume.now) c.in_ok-values.values (view c.in_ok-scale.scale.now) c.in_ok-shape.shape c.in_ok-encoding.encoding read;
      chunk_ok = chunk_fits c.args.key.now (view c.args.volume.now) c.in_ok-values.values (view c.in_ok-scale.scale.now) c.in_ok-shape.shape c.in_ok-encoding.encoding read;
      first_ok = fits.bytes_fit c.in_ok-values.values c.in_ok-shape.shape c.in_ok-encoding.encoding (is_some c.in_ok-sharding.sharding) limits;
      wide_ok = wide_fits c.args.key.now (view c.args.volume.now) c.in_ok-values.values (view c.in_ok-scale.scale.now) c.in_ok-shape.shape c.in_ok-encoding.encoding read;
      block_ok = blocks_fit c.args.key.now (view c.args.volume.now) c.in_ok-values.values (view c.in_ok-scale.scale.now) c.in_ok-shape.shape c.in_ok-encoding.encoding read;
      padded_ok = fits.padded_fits c.in_ok-values.values c.in_ok-shape.shape c.in_ok-encoding.encoding (is_some c.in_ok-sharding.sharding) limits;
      codes_ok = codes_fit c.in_ok-values.values c.in_ok-shape.shape c.in_ok-encoding.encoding c.in_ok-sharding.sharding limits;
      more_ok = fits.more_fit c.in_ok-values.values c.in_ok-shape.shape c.in_ok-encoding.encoding (is_some c.in_ok-sharding.sharding) limits
          (more_fits c.args.key.now (view c.args.volume.now) c.in_ok-values.values (view c.in_ok-scale.scale.now) c.in_ok-shape.shape c.in_ok-encoding.encoding read);
      alone_ok = alone_fits c.args.key.now (view c.args.volume.now) c.in_ok-values.values (view c.in_ok-scale.scale.now) c.in_ok-shape.shape c.in_ok-encoding.encoding c.in_ok-sharding.sharding read
          (has_sharding (get (codes "sharding") (view c.in_ok-scale.scale.now)) c.in_ok-sharding.sharding c.in_ok-sharding.ensures);
    }

pub returns : goal.returns
returns c =
    let read = has_read c.args.key.now (view c.args.volume.now) c.in_ok-values.values c.as_bytes.result.now (map view c.in_ok-scales.scales.now) (view c.in_ok-scale.scale.now) c.in_ok-shape.shape c.in_ok-encoding.encoding c.in_ok-values.ensures c.in_ok-scales.ensures c.as_bytes.ensures.bytes c.in_ok-scale.ensures c.in_ok-shape.ensures c.in_ok-encoding.ensures in
    let limits : limit_fault c.in_ok-values.values c.in_ok-shape.shape c.in_ok-encoding.encoding (is_some c.in_ok-sharding.sharding) ≡ None = rw c.is_some.ensures at (judged_value _ _ _ c.in_ok-check_limits.ensures).0 in
    let parts = has_sharding (get (codes "sharding") (view c.in_ok-scale.scale.now)) c.in_ok-sharding.sharding c.in_ok-sharding.ensures in
    scale_made c.args.key.now (view c.args.volume.now) c.in_ok-values.values (view c.in_ok-scale.scale.now) c.in_ok-shape.shape c.in_ok-encoding.encoding c.in_ok-sharding.sharding read parts limits _ c.duplicate.ensures refl refl refl refl refl refl refl refl
