-- What follows an option in a word.
use Rattle.std.proofs.Common.{◌≡◌, ◌∙◌, ℕ, List, Bor, true, false, Bool, length, drop, Option, None, Some, if◌then◌else◌, ap, subst, sym}
use Rattle.std.specs.Prelude.{MatchOption, nat_eq}
use Rattle.std.specs.List.{starts_with}
use Rattle.std.specs.Option.{option_map}
use Rattle.std.specs.Str.{IsCharBoundary}
use Rattle.std.specs.Str.Pattern.{FindsTextPrefix, StripsPrefix}
use Rattle.std.proofs.lemmas.Str.Pattern.{starts_text}
use Rattle.line_words.specs.Words.{value_after}

pub stripped : (r : Option (Bor (List ℕ))) (option word : List ℕ) → MatchOption r (FindsTextPrefix option word None) (λ x. StripsPrefix (FindsTextPrefix option) word x.now) → option_map (λ v. v.now) r ≡ value_after option word
stripped None option word lacks =
    let begins : false ≡ starts_with nat_eq word option = starts_text false option word lacks in
    ap (λ (b : Bool). if b then Some (drop (length option) word) else None) begins
stripped (Some x) option word strips =
    let same : strips.0 ≡ length option = strips.1.0 in
    let begins : true ≡ starts_with nat_eq word option = starts_text true option word (strips.0, strips.1, subst (IsCharBoundary word) (sym same) strips.1.2) in
    ap Some (strips.2 ∙ ap (λ k. drop k word) same) ∙ ap (λ (b : Bool). if b then Some (drop (length option) word) else None) begins
