use Rattle.std.proofs.Common.{◌≡◌, ◌<◌, Global, length, map, string_bytes, arith, rules}
use Rattle.std.proofs.lemmas.List.{length-map}
use Rattle.vol_fetch.proofs.LineSteps.{no_fetch}
use Rattle.vol_fetch.proofs.words.read_words.Goals as goal

-- fewer than two words
pub returns-in_default-clause-read : goal.returns-in_default-clause-read
returns-in_default-clause-read c =
    let long : length (map (string_bytes {Z = Global}) c.args.words.now) ≡ length c.args.words.now = length-map c.args.words.now (string_bytes {Z = Global}) in
    let few : length c.args.words.now < 2 = search rules in
    no_fetch (map string_bytes c.args.words.now) (omega (arith, long, few))
