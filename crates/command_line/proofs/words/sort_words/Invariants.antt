use Rattle.std.proofs.Common.{◌≡◌, Global, map, take, not, string_bytes}
use Rattle.std.specs.Prelude.{filter}
use Rattle.line_words.specs.Words.{is_plain}
use Rattle.command_line.proofs.words.sort_words.Given as goal

-- the words so far are sorted
abbrev pub invariant-loop-word : goal.invariant-loop-word
invariant-loop-word l = record {
  plain : map (λ word. word.now) l.plain.items ≡ filter is_plain (map (string_bytes {Z = Global}) (take l.word-index l.words));
  others : map (λ word. word.now) l.others.items ≡ filter (λ word. not (is_plain word)) (map (string_bytes {Z = Global}) (take l.word-index l.words));
}
