use Rattle.std.proofs.Common.{◌≡◌, arith, drop, length, length-take, take, refl, rules}
use Rattle.std.proofs.lemmas.List.{take-append-drop}
use Rattle.vol_spec.proofs.Told.{from_told}
use Rattle.vol_spec.specs.Raw.{raw_len}
use Rattle.cutout.proofs.StreamSteps.{leaves_none, piece_read, piece_unread}
use Rattle.cutout.proofs.cells.CellReader.stream_piece.Goals as goal

pub returns-in-Err-clause-pours : goal.returns-in-Err-clause-pours
returns-in-Err-clause-pours g c = record {
  streams =
      leaves_none _ _ _ (λ m told.
      piece_unread m c.args.origin.now.dataset c.args.origin.now.scale c.args.part.now _ c.args.channel c.in-Err.fault c.as_streamed.result _ c.as_streamed.ensures (from_told _ _ m told c.in-Err.ensures.read));
  inside = search rules;
  memory = search rules;
  asks = search rules;
  out_cause = search rules;
}

pub returns-in-Ok-write_all-clause-pours : goal.returns-in-Ok-write_all-clause-pours
returns-in-Ok-write_all-clause-pours g c = record {
  streams =
      let len : length c.read_cells.new.out ≡ raw_len c.args.part.now 1 c.args.origin.now.scale.width = omega (arith, c.channel_len-len.ensures, c.requires.buffer, c.read_cells.auto.out, length-take c.channel_len-len.result c.args.buffer.now) in
      record {
        gained = c.read_cells.new.out;
        is = c.in-Ok-write_all.ensures.ok;
        tells = λ m told.
            let seen = from_told _ _ m told c.in-Ok.ensures.read in
            (seen.sound, piece_read m c.args.origin.now.dataset c.args.origin.now.scale c.args.part.now _ c.args.channel c.read_cells.new.out refl refl len c.tell_bytes.ensures seen);
      };
  inside = search rules;
  memory = search rules;
  asks = search rules;
  out_cause = search rules;
}

pub returns-in-Err-write_all-clause-pours : goal.returns-in-Err-write_all-clause-pours
returns-in-Err-write_all-clause-pours g c = record {
  streams =
      let len : length c.read_cells.new.out ≡ raw_len c.args.part.now 1 c.args.origin.now.scale.width = omega (arith, c.channel_len-len.ensures, c.requires.buffer, c.read_cells.auto.out, length-take c.channel_len-len.result c.args.buffer.now) in
      let front = c.in-Err-write_all.ensures.err in
      record {
        gained = take front.0 c.read_cells.new.out;
        is = front.2;
        tells = λ m told.
            let seen = from_told _ _ m told c.in-Ok.ensures.read in
            (c.read_cells.new.out, piece_read m c.args.origin.now.dataset c.args.origin.now.scale c.args.part.now _ c.args.channel c.read_cells.new.out refl refl len c.tell_bytes.ensures seen, (drop front.0 c.read_cells.new.out, take-append-drop front.0 c.read_cells.new.out));
      };
  inside = search rules;
  memory = search rules;
  asks = search rules;
  out_cause = search rules;
}

pub read_cells-requires-clause-target : goal.read_cells-requires-clause-target
read_cells-requires-clause-target g c =
    let len : length (take c.channel_len-len.result c.args.buffer.now) ≡ raw_len c.args.part.now 1 c.args.origin.now.scale.width = omega (arith, c.channel_len-len.ensures, c.requires.buffer, length-take c.channel_len-len.result c.args.buffer.now) in
    record { channels = omega (arith, c.requires.channel); len = len; limit = omega (arith, c.requires.buffer, c.requires.limit, len) }
