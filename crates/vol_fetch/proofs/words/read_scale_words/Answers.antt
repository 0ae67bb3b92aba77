use Rattle.std.proofs.Common.{◌≡◌, ◌<◌, ◌≤◌, Global, length, map, string_bytes, arith, rules}
use Rattle.std.proofs.lemmas.List.{length-map}
use Rattle.vol_fetch.proofs.LineSteps.{no_scale}
use Rattle.vol_fetch.proofs.words.read_scale_words.Goals as goal
use Rattle.vol_fetch.proofs.words.read_scale_words.Goals.{in_default-via-then-words-lt3, in_default-via-else-words-lt3+else-words-lt4}

-- not three words
pub returns-in_default-clause-read : goal.returns-in_default-clause-read
returns-in_default-clause-read c = no_scale c.args.port (map string_bytes c.args.words.now) (λ three.
    let long : length (map (string_bytes {Z = Global}) c.args.words.now) ≡ length c.args.words.now = length-map c.args.words.now (string_bytes {Z = Global}) in
    elim c.in_default.branch [
      | in_default-via-then-words-lt3 w ↦ let few : length c.args.words.now < 3 = search rules in absurd (omega (arith, three, long, few))
      | in_default-via-else-words-lt3+else-words-lt4 w ↦ let many : 4 ≤ length c.args.words.now = search rules in absurd (omega (arith, three, long, many))
    ])
