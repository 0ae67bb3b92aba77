use Rattle.std.proofs.Common.{◌≡◌, true, Some, Err, ap, ◌∙◌, rules}
use Rattle.serde_json.specs.View.{view}
use Rattle.info_doc.specs.Steps.{is_sharded}
use Rattle.info_doc.specs.Info.{judged_sharding}
use Rattle.info_doc.proofs.Parts.{sharding_err}
use Rattle.info_doc.proofs.shards.read_sharding.Goals as goal

pub returns-in_err-read_parts : goal.returns-in_err-read_parts
returns-in_err-read_parts c =
    let fault = c.in_err-read_parts.field-0.0 in
    let given : c.from_residual.result ≡ Err fault = search rules in
    let sharded : is_sharded (Some (view c.in-Some.sharding.now)) ≡ true = search rules in
    given ∙ sharding_err _ fault sharded c.in_err-read_parts.ensures ∙ ap judged_sharding c.in-Some.ensures
