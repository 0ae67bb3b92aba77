use Rattle.std.proofs.Common.{◌∙◌, IfSome, ap, arith, length, subst, sym}
use Rattle.vol_spec.specs.Raw.{raw_len}
use Rattle.copier.specs.Held.{CutsBox}
use Rattle.copier.proofs.HeldSteps.{same_items}
use Rattle.reduce_laws.specs.Reduced.{source_box}
use Rattle.reducer.proofs.reading.cut_source.Goals as goal

pub returns-clause-cut : goal.returns-clause-cut
returns-clause-cut g c =
    subst (λ bytes. IfSome (g.S.Source.objects c.args.store.now) (λ m. CutsBox c.cut_box.result m c.args.reader.now.opened.dataset c.args.from.now (source_box c.args.from.now c.args.to.now c.args.cell) bytes))
    (sym (same_items c.fit_buffer.new.buffer c.cut_box.new.out (c.cut_box.auto.out ∙ ap length c.deref_mut.ensures.value)))
    (subst (λ b. IfSome (g.S.Source.objects c.args.store.now) (λ m. CutsBox c.cut_box.result m c.args.reader.now.opened.dataset c.args.from.now b c.cut_box.new.out)) c.source_box-part.ensures.positions
    (subst (λ s. IfSome (g.S.Source.objects c.args.store.now) (λ m. CutsBox c.cut_box.result m c.args.reader.now.opened.dataset s c.source_box-part.result c.cut_box.new.out)) c.requires.source c.cut_box.ensures.cut))

pub returns-clause-len : goal.returns-clause-len
returns-clause-len g c =
    let items = ap length (same_items c.fit_buffer.new.buffer c.cut_box.new.out (c.cut_box.auto.out ∙ ap length c.deref_mut.ensures.value)) in
    let deref = ap length c.deref_mut.ensures.value in
    let part = ap (λ b. raw_len b c.args.from.now.channels c.args.from.now.width) c.source_box-part.ensures.positions in
    omega (arith, items, deref, part, c.cut_box.auto.out, c.fit_buffer.ensures.len, c.byte_len.ensures)

pub returns-clause-room : goal.returns-clause-room
returns-clause-room g c = record { fits = λ cell is. let room = c.requires.room.fits cell is in omega (arith, room, c.fit_buffer.ensures.room) }

pub fit_buffer-requires : goal.fit_buffer-requires
fit_buffer-requires g c =
    let room = c.requires.room.fits c.args.cell c.requires.cell in
    let part = ap (λ b. raw_len b c.args.from.now.channels c.args.from.now.width) c.source_box-part.ensures.positions in
    omega (arith, room, part, c.byte_len.ensures)
