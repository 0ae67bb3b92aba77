use Rattle.std.proofs.Common.{◌<◌, ◌≤◌, length, map, string_bytes, rules, arith, Global}
use Rattle.std.proofs.lemmas.List.{length-map}
use Rattle.vol_serve.proofs.LimitSteps.{not_four}
use Rattle.vol_serve.proofs.words.read_words.Goals as goal
use Rattle.vol_serve.proofs.words.read_words.Goals.{in_default-via-then-words-lt4, in_default-via-else-words-lt4+else-words-lt5}

-- not four words
pub returns-in_default-clause-line : goal.returns-in_default-clause-line
returns-in_default-clause-line c = not_four (map (string_bytes {Z = Global}) c.args.words.now) (λ four.
    let same = length-map c.args.words.now (string_bytes {Z = Global}) in
    elim c.in_default.branch [ in_default-via-then-words-lt4 w ↦ let few : length c.args.words.now < 4 = search rules in omega (arith, few, four, same) | in_default-via-else-words-lt4+else-words-lt5 w ↦ let many : 5 ≤ length c.args.words.now = search rules in omega (arith, many, four, same) ])
