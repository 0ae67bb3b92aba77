use Rattle.std.proofs.Common.{◌≡◌, ◌∙◌, ◌<◌, ◌++◌, ◌∷◌, [], length, slice_index_or, ap, sym, take, arith}
use Rattle.httparse.specs.declared.spans.HeaderSpan.{HeaderSpan}
use Rattle.http_header.specs.HeaderMap.{append, value_count}
use Rattle.request_heads.specs.Fields.{entry_of, span_map}
use Rattle.httparse.specs.Spans.{header_bytes}
use Rattle.request_heads.proofs.FieldSteps.{field_at, names_more, values_more, span_more, span_all}
use Rattle.request_heads.proofs.fields.read_fields.Goals as goal

pub add_field-requires-clause-name : goal.add_field-requires-clause-name
add_field-requires-clause-name c = (field_at c.args.received.now c.args.spans.now c.args.parts.now c.loop-number.number _ c.requires.short c.requires.within c.requires.parts (omega (arith, c.loop-number-test.true, c.loop-number.auto.number-end))).0

pub add_field-requires-clause-value : goal.add_field-requires-clause-value
add_field-requires-clause-value c = (field_at c.args.received.now c.args.spans.now c.args.parts.now c.loop-number.number _ c.requires.short c.requires.within c.requires.parts (omega (arith, c.loop-number-test.true, c.loop-number.auto.number-end))).1

pub loop-number-preserved : goal.loop-number-preserved
loop-number-preserved c =
    let none : HeaderSpan = record { name = record { start = 0; end = 0 }; value = record { start = 0; end = 0 } } in
    let inside : c.loop-number.number < length c.args.spans.now = omega (arith, c.loop-number-test.true, c.loop-number.auto.number-end, c.requires.within.section.count_fits) in
    let entry = entry_of (header_bytes c.args.received.now (slice_index_or c.args.spans.now c.loop-number.number none)) in
    let added : c.add_field.new.map ≡ append c.loop-number.map entry.0 entry.1 = c.in_ok-add_field.ensures in
    record {
      map = added ∙ ap (λ m. append m entry.0 entry.1) c.loop-number.invariant.map ∙ sym (span_more c.args.received.now c.args.spans.now c.loop-number.number none inside);
      names = omega (arith, ap length added, names_more c.loop-number.map entry.0 (λ values. values ++ entry.1 ∷ []), c.loop-number.invariant.names);
      values = omega (arith, ap value_count added, values_more c.loop-number.map entry.0 entry.1, c.loop-number.invariant.values);
    }

pub returns : goal.returns
returns c = λ head rest reads.
    let end : c.loop-number.number ≡ c.args.parts.now.headers = omega (arith, c.loop-number-test.false, c.loop-number.auto.number-end) in
    c.loop-number.invariant.map ∙ ap (λ n. span_map c.args.received.now (take n c.args.spans.now)) end ∙ span_all c.args.received.now c.args.spans.now c.args.parts.now c.requires.parts head rest reads
