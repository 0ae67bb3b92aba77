use Rattle.std.proofs.Common.{◌≡◌, ◌≤◌, length, take}
use Rattle.http_header.specs.HeaderMap.{value_count}
use Rattle.request_heads.specs.Fields.{span_map}
use Rattle.request_heads.proofs.fields.read_fields.Given as goal

abbrev pub invariant-loop-number : goal.invariant-loop-number
invariant-loop-number l = record {
  map : l.map ≡ span_map l.received (take l.number l.spans);
  names : length l.map ≤ l.number;
  values : value_count l.map ≤ l.number;
}
