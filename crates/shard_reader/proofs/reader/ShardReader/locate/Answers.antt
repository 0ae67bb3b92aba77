use Rattle.std.proofs.Common.{◌≡◌, ◌∙◌, ap, refl, None, Ok}
use Rattle.vol_spec.specs.ShardNames.{shard_name}
use Rattle.vol_spec.proofs.Told.{from_told}
use Rattle.shard_reader.specs.Keeping.{IsKept}
use Rattle.shard_reader.specs.Reading.{told_object}
use Rattle.shard_reader.proofs.AgainSteps.{again_by, again_located, ends_kept, left_by_along, left_found, same_reader}
use Rattle.shard_reader.proofs.KeepSteps.{is_of_kept, keeps_new, located, located_fault, on_span}
use Rattle.shard_reader.proofs.PastSteps.{once_opened, once_unopened, onward_opened, onward_unopened}
use Rattle.shard_reader.proofs.reader.ShardReader.locate.Goals as goal

pub returns-in-Err-clause-found : goal.returns-in-Err-clause-found
returns-in-Err-clause-found g c =
    located_fault _ (shard_name c.args.stored.now.dataset c.args.stored.now.scale) c.shard_name-name.result c.args.sharding.now c.place-place.result.shard c.place-place.result.minishard c.args.limit c.args.id c.open.result c.in-Err.fault
    c.in-Err.is c.shard_name-name.ensures c.place-place.ensures.shard c.place-place.ensures.minishard c.open.ensures.opened

pub returns-in-Ok-Some-clause-found : goal.returns-in-Ok-Some-clause-found
returns-in-Ok-Some-clause-found g c =
    located _ (shard_name c.args.stored.now.dataset c.args.stored.now.scale) c.shard_name-name.result c.args.sharding.now c.place-place.result.shard c.place-place.result.minishard c.args.limit c.args.id c.open.result c.in-Ok-Some.opened _
    (c.in-Ok-Some.is ∙ ap Ok c.in-Ok-Some.field-0-is) c.shard_name-name.ensures c.place-place.ensures.shard c.open.ensures.opened
    (λ object told. c.find_chunk.ensures.found object (ap (λ o. told_object o c.shard_name-name.result) c.open.ensures.reads.kept.same_objects ∙ told))

pub returns-in-Ok-Some-clause-keeps : goal.returns-in-Ok-Some-clause-keeps
returns-in-Ok-Some-clause-keeps g c =
    keeps_new _ (shard_name c.args.stored.now.dataset c.args.stored.now.scale) c.shard_name-name.result c.args.sharding.now c.open.new.self.kept c.place-place.result.shard c.place-place.result.minishard c.open.result c.in-Ok-Some.opened
    c.find_chunk.new.window.before c.find_chunk.new.window.count c.find_chunk.new.window.columns.bytes
    (c.in-Ok-Some.is ∙ ap Ok c.in-Ok-Some.field-0-is) c.shard_name-name.ensures (from_told c.in-Ok-Some.field-0 (IsKept c.open.new.self.kept c.place-place.result.shard c.place-place.result.minishard) c.in-Ok-Some.opened c.in-Ok-Some.field-0-is c.in-Ok-Some.ensures.index) c.open.ensures.opened
    (λ object told fits. c.find_chunk.ensures.window object (ap (λ o. told_object o c.shard_name-name.result) c.open.ensures.reads.kept.same_objects ∙ told) fits)

pub returns-in-Ok-Some-clause-asked_left : goal.returns-in-Ok-Some-clause-asked_left
returns-in-Ok-Some-clause-asked_left g c =
    let kept = c.args.self.now.kept in
    let before = c.args.self.now.window.before in
    let count = c.args.self.now.window.count in
    left_by_along kept before count c.place-place.result.shard _ c.place-place.result.minishard _ c.args.id _ _ c.place-place.ensures.shard c.place-place.ensures.minishard
    (left_found kept c.open.new.self.kept before c.open.new.self.window.before count c.open.new.self.window.count c.place-place.result.shard c.place-place.result.minishard c.args.id
    (g.S.Source.asked c.args.store.now) (g.S.Source.asked c.open.new.store) (g.S.Source.asked c.find_chunk.new.store) c.in-Ok-Some.opened
    (λ of. same_reader c.open.new.self c.args.self.now (c.open.ensures.same of)) c.open.ensures.asked_same
    (from_told c.in-Ok-Some.field-0 (IsKept c.open.new.self.kept c.place-place.result.shard c.place-place.result.minishard) c.in-Ok-Some.opened c.in-Ok-Some.field-0-is c.in-Ok-Some.ensures.index) c.find_chunk.ensures.asked)

pub returns-in-Ok-Some-clause-again : goal.returns-in-Ok-Some-clause-again
returns-in-Ok-Some-clause-again g c =
    let kept = c.args.self.now.kept in
    let before = c.args.self.now.window.before in
    let count = c.args.self.now.window.count in
    again_by _ (shard_name c.args.stored.now.dataset c.args.stored.now.scale) c.place-place.result.shard _ c.place-place.result.minishard _ c.args.id kept before count
    (g.S.Source.asked c.args.store.now) (g.S.Source.asked c.open.new.store) (g.S.Source.asked c.find_chunk.new.store) c.place-place.ensures.shard c.place-place.ensures.minishard c.open.ensures.asked_same
    (again_located _ (shard_name c.args.stored.now.dataset c.args.stored.now.scale) c.shard_name-name.result c.args.sharding.now c.place-place.result.shard c.place-place.result.minishard c.args.id
    kept c.open.new.self.kept before c.open.new.self.window.before count c.open.new.self.window.count c.args.self.now.window.columns.bytes c.in-Ok-Some.opened
    (g.S.Source.asked c.find_chunk.new.store ≡ g.S.Source.asked c.open.new.store) c.shard_name-name.ensures c.requires.keeps
    (λ of. same_reader c.open.new.self c.args.self.now (c.open.ensures.same of))
    (from_told c.in-Ok-Some.field-0 (IsKept c.open.new.self.kept c.place-place.result.shard c.place-place.result.minishard) c.in-Ok-Some.opened c.in-Ok-Some.field-0-is c.in-Ok-Some.ensures.index)
    (λ object told fits. c.find_chunk.ensures.again object (ap (λ o. told_object o c.shard_name-name.result) c.open.ensures.reads.kept.same_objects ∙ told) fits))

pub returns-in-Ok-Some-clause-stays : goal.returns-in-Ok-Some-clause-stays
returns-in-Ok-Some-clause-stays g c =
    on_span c.find_chunk.result _
    (is_of_kept c.open.new.self.kept c.place-place.result.shard _ c.place-place.result.minishard _ c.in-Ok-Some.opened c.place-place.ensures.shard c.place-place.ensures.minishard
    (from_told c.in-Ok-Some.field-0 (IsKept c.open.new.self.kept c.place-place.result.shard c.place-place.result.minishard) c.in-Ok-Some.opened c.in-Ok-Some.field-0-is c.in-Ok-Some.ensures.index))

pub returns-in-Ok-Some-clause-ends : goal.returns-in-Ok-Some-clause-ends
returns-in-Ok-Some-clause-ends g c =
    ends_kept _ _ (shard_name c.args.stored.now.dataset c.args.stored.now.scale) c.shard_name-name.result c.args.sharding.now c.open.new.self.kept c.find_chunk.new.window.before c.find_chunk.new.window.count
    c.place-place.result.shard _ c.place-place.result.minishard _ c.args.id c.open.result c.in-Ok-Some.opened c.find_chunk.result
    c.open.ensures.reads.kept.same_objects (c.in-Ok-Some.is ∙ ap Ok c.in-Ok-Some.field-0-is) c.shard_name-name.ensures c.place-place.ensures.shard c.place-place.ensures.minishard
    (from_told c.in-Ok-Some.field-0 (IsKept c.open.new.self.kept c.place-place.result.shard c.place-place.result.minishard) c.in-Ok-Some.opened c.in-Ok-Some.field-0-is c.in-Ok-Some.ensures.index)
    c.open.ensures.opened c.find_chunk.ensures.ends

pub returns-in-Err-clause-once : goal.returns-in-Err-clause-once
returns-in-Err-clause-once g c =
    once_unopened _ (shard_name c.args.stored.now.dataset c.args.stored.now.scale) c.args.self.now c.open.new.self c.args.sharding.now c.place-place.result.shard c.place-place.result.minishard c.args.id _ _
    c.place-place.ensures.shard c.place-place.ensures.minishard c.open.ensures.same c.in-Err.ensures.err c.open.ensures.asked

pub returns-in-Ok-None-clause-once : goal.returns-in-Ok-None-clause-once
returns-in-Ok-None-clause-once g c =
    once_unopened _ (shard_name c.args.stored.now.dataset c.args.stored.now.scale) c.args.self.now c.open.new.self c.args.sharding.now c.place-place.result.shard c.place-place.result.minishard c.args.id (g.S.Source.asked c.args.store.now) (g.S.Source.asked c.open.new.store)
    c.place-place.ensures.shard c.place-place.ensures.minishard c.open.ensures.same (c.open.ensures.none (c.in-Ok-None.is ∙ ap Ok c.in-Ok-None.field-0-is)) c.open.ensures.asked

pub returns-in-Ok-Some-clause-once : goal.returns-in-Ok-Some-clause-once
returns-in-Ok-Some-clause-once g c =
    once_opened _ (shard_name c.args.stored.now.dataset c.args.stored.now.scale) c.shard_name-name.result c.args.self.now c.open.new.self.kept c.open.new.self.window.before c.args.sharding.now c.open.new.self.window.count c.place-place.result.shard c.place-place.result.minishard c.args.id
    (g.S.Source.asked c.args.store.now) (g.S.Source.asked c.open.new.store) (g.S.Source.asked c.find_chunk.new.store) c.open.result c.in-Ok-Some.opened
    (c.in-Ok-Some.is ∙ ap Ok c.in-Ok-Some.field-0-is) c.shard_name-name.ensures c.place-place.ensures.shard c.place-place.ensures.minishard
    (λ of. same_reader c.open.new.self c.args.self.now (c.open.ensures.same of)) c.open.ensures.asked_same c.open.ensures.asked
    (from_told c.in-Ok-Some.field-0 (IsKept c.open.new.self.kept c.place-place.result.shard c.place-place.result.minishard) c.in-Ok-Some.opened c.in-Ok-Some.field-0-is c.in-Ok-Some.ensures.index)
    c.open.ensures.opened c.find_chunk.ensures.asked

pub returns-in-Ok-None-clause-onward : goal.returns-in-Ok-None-clause-onward
returns-in-Ok-None-clause-onward g c =
    onward_unopened (g.S.Source.objects c.args.store.now) c.args.self.now c.open.new.self (Ok None) c.args.sharding.now c.place-place.result.shard c.place-place.result.minishard c.args.id (g.S.Source.asked c.args.store.now) (g.S.Source.asked c.open.new.store)
    c.place-place.ensures.shard c.place-place.ensures.minishard c.open.ensures.same (c.open.ensures.none (c.in-Ok-None.is ∙ ap Ok c.in-Ok-None.field-0-is)) c.open.ensures.asked

pub returns-in-Ok-Some-clause-onward : goal.returns-in-Ok-Some-clause-onward
returns-in-Ok-Some-clause-onward g c =
    onward_opened _ _ (shard_name c.args.stored.now.dataset c.args.stored.now.scale) c.shard_name-name.result c.args.self.now (record c.open.new.self { window = c.find_chunk.new.window }) c.open.new.self.kept c.open.new.self.window.before c.args.sharding.now c.open.new.self.window.count c.place-place.result.shard c.place-place.result.minishard c.args.id
    (g.S.Source.asked c.args.store.now) (g.S.Source.asked c.open.new.store) (g.S.Source.asked c.find_chunk.new.store) c.open.result c.in-Ok-Some.opened c.find_chunk.result
    c.open.ensures.reads.kept.same_objects refl (c.in-Ok-Some.is ∙ ap Ok c.in-Ok-Some.field-0-is) c.shard_name-name.ensures c.place-place.ensures.shard c.place-place.ensures.minishard
    (λ of. same_reader c.open.new.self c.args.self.now (c.open.ensures.same of)) c.open.ensures.asked_same c.open.ensures.asked
    (from_told c.in-Ok-Some.field-0 (IsKept c.open.new.self.kept c.place-place.result.shard c.place-place.result.minishard) c.in-Ok-Some.opened c.in-Ok-Some.field-0-is c.in-Ok-Some.ensures.index)
    c.open.ensures.opened c.find_chunk.ensures.rows c.find_chunk.ensures.behind c.find_chunk.ensures.once
