-- What the commands of the line take, and what they find in it: one lemma for each shape of a line.
use Rattle.std.proofs.Common.{◌≡◌, ◌∙◌, ◌<◌, ℕ, List, [], ◌∷◌, ◌++◌, ◌==◌, Bool, true, false, IsTrue, Some, None, is_some, length, drop, nat_le, not, codes, ap, cond, eqb, refl, subst, sym, arith, length-drop}
use Rattle.std.specs.List.{starts_with}
use Rattle.std.proofs.lemmas.Bool.{and_parts}
use Rattle.std.proofs.lemmas.Bool.Decides.{Decides-eqb}
use Rattle.std.proofs.lemmas.Slice.Eq.{starts_is}
use Rattle.clap.specs.Words.{App, Row, Text, first_value, is_simple, matches_of, new_rule, rows_of, takes}
use Rattle.clap.specs.Simple.{argument_words, built}
use Rattle.clap.specs.Takes.{built_takes}
use Rattle.clap.specs.Walk.{nothing_held, reading_by}
use Rattle.clap.specs.declared.parser.matches.Found.{Found}
use Rattle.clap.specs.declared.parser.matches.ValueSource.TheVariants.{CommandLine}
use Rattle.clap.proofs.OnLiterals.{clap_on_literals}
use Rattle.clap.proofs.WalkLemmas.{first_value-rows}
use Rattle.command_line.specs.Parsers.{Three, all_three, cutout_app, is_given, serve_app, three_in, write_app}
use Rattle.line_words.specs.Words.{is_plain, value_after}

-- what is found of an argument: its one value
abbrev found_row : Text → Text → Row
found_row id value = record { id = id; values = value ∷ []; count = None; source = Some CommandLine; reading = reading_by (new_rule id) }

-- a plain word has a first byte, and it isn't `-`; an option has a first byte of its value
module _ (x y z : ℕ) (u v w : List ℕ) (hx : (x == 45) ≡ false) where
  abbrev serve_words : List Text
  serve_words = codes "serve" ∷ (x ∷ u) ∷ (codes "--port=" ++ y ∷ v) ∷ (codes "--connections=" ++ z ∷ w) ∷ []

  serve_takes : takes serve_app serve_words ≡ true
  unfolding clap_on_literals
  serve_takes = simp hx refl

  serve_rows : matches_of serve_app serve_words ≡ found_row (codes "dataset") (x ∷ u) ∷ found_row (codes "port") (y ∷ v) ∷ found_row (codes "connections") (z ∷ w) ∷ []
  unfolding clap_on_literals
  serve_rows = simp hx refl

module _ (x y z : ℕ) (u v w : List ℕ) (hx : (x == 45) ≡ false) (hy : (y == 45) ≡ false) where
  abbrev write_words : List Text
  write_words = codes "write" ∷ (x ∷ u) ∷ (y ∷ v) ∷ (codes "--workers=" ++ z ∷ w) ∷ []

  write_takes : takes write_app write_words ≡ true
  unfolding clap_on_literals
  write_takes = simp (hx, hy) refl

  write_rows : matches_of write_app write_words ≡ found_row (codes "dataset") (x ∷ u) ∷ found_row (codes "key") (y ∷ v) ∷ found_row (codes "workers") (z ∷ w) ∷ []
  unfolding clap_on_literals
  write_rows = simp (hx, hy) refl

module _ (x y z : ℕ) (u v w : List ℕ) (hx : (x == 45) ≡ false) (hy : (y == 45) ≡ false) (hz : (z == 45) ≡ false) where
  abbrev cutout_words : List Text
  cutout_words = codes "cutout" ∷ (x ∷ u) ∷ (y ∷ v) ∷ (z ∷ w) ∷ []

  cutout_takes : takes cutout_app cutout_words ≡ true
  unfolding clap_on_literals
  cutout_takes = simp (hx, hy, hz) refl

  cutout_rows : matches_of cutout_app cutout_words ≡ found_row (codes "dataset") (x ∷ u) ∷ found_row (codes "key") (y ∷ v) ∷ found_row (codes "box") (z ∷ w) ∷ []
  unfolding clap_on_literals
  cutout_rows = simp (hx, hy, hz) refl

no_dash : (x : ℕ) (v : List ℕ) → IsTrue (is_plain (x ∷ v)) → (x == 45) ≡ false
no_dash x v h = not_true (x == 45) (and_parts (nat_le 1 (length (x ∷ v))) _ h).1
  where
    not_true : (b : Bool) → not b ≡ true → b ≡ false
    not_true false e = refl
    not_true true e = cc

-- the command takes the words, and finds the values
pub record Finds (app : App) (words : List Text) (a b c : Text) (values : Three) : Type 0 where
  pub takes_words : takes app words ≡ true
  pub values_are : three_in app words a b c ≡ Some values

-- what a word has behind an option that is given
pub value_behind : (option word : Text) → is_given (value_after option word) ≡ true → value_after option word ≡ Some (drop (length option) word)
value_behind option word given = go (starts_with eqb word option) given
  where
    go : (b : Bool) → is_given (cond b (Some (drop (length option) word)) None) ≡ true → cond b (Some (drop (length option) word)) None ≡ Some (drop (length option) word)
    go true given = refl
    go false given = cc

pub cutout_finds : (dataset key part : Text) → IsTrue (is_plain dataset) → IsTrue (is_plain key) → IsTrue (is_plain part)
    → Finds cutout_app (codes "cutout" ∷ dataset ∷ key ∷ part ∷ []) (codes "dataset") (codes "key") (codes "box") (dataset, key, part)
cutout_finds [] key part hd hk hp = cc
cutout_finds (x ∷ u) [] part hd hk hp = cc
cutout_finds (x ∷ u) (y ∷ v) [] hd hk hp = cc
cutout_finds (x ∷ u) (y ∷ v) (z ∷ w) hd hk hp =
    let hx = no_dash x u hd in
    let hy = no_dash y v hk in
    let hz = no_dash z w hp in
    record { takes_words = cutout_takes x y z u v w hx hy hz; values_are = rw (cutout_rows x y z u v w hx hy hz) refl }

write_finds : (dataset key : Text) (z : ℕ) (w : List ℕ) → IsTrue (is_plain dataset) → IsTrue (is_plain key)
    → Finds write_app (codes "write" ∷ dataset ∷ key ∷ (codes "--workers=" ++ z ∷ w) ∷ []) (codes "dataset") (codes "key") (codes "workers") (dataset, key, z ∷ w)
write_finds [] key z w hd hk = cc
write_finds (x ∷ u) [] z w hd hk = cc
write_finds (x ∷ u) (y ∷ v) z w hd hk =
    let hx = no_dash x u hd in
    let hy = no_dash y v hk in
    record { takes_words = write_takes x y z u v w hx hy; values_are = rw (write_rows x y z u v w hx hy) refl }

serve_finds : (dataset : Text) (y z : ℕ) (v w : List ℕ) → IsTrue (is_plain dataset)
    → Finds serve_app (codes "serve" ∷ dataset ∷ (codes "--port=" ++ y ∷ v) ∷ (codes "--connections=" ++ z ∷ w) ∷ []) (codes "dataset") (codes "port") (codes "connections") (dataset, y ∷ v, z ∷ w)
serve_finds [] y z v w hd = cc
serve_finds (x ∷ u) y z v w hd =
    let hx = no_dash x u hd in
    record { takes_words = serve_takes x y z u v w hx; values_are = rw (serve_rows x y z u v w hx) refl }

-- an option that is given is its beginning and a value, which isn't empty
pub record IsOption (option word value : Text) : Type 0 where
  pub word_is : word ≡ option ++ value
  pub given : is_given (Some value) ≡ true

pub begins_with : (option word : Text) → is_some (value_after option word) ≡ true → word ≡ option ++ drop (length option) word
begins_with option word given = go (starts_with eqb word option) refl given
  where
    go : (b : Bool) → starts_with eqb word option ≡ b → is_some (cond b (Some (drop (length option) word)) None) ≡ true → word ≡ option ++ drop (length option) word
    go true e given = (starts_is Decides-eqb word option true (sym e)).0 refl
    go false e given = cc

option_parts : (option word : Text) → is_given (value_after option word) ≡ true → IsOption option word (drop (length option) word)
option_parts option word given = go (starts_with eqb word option) refl given
  where
    go : (b : Bool) → starts_with eqb word option ≡ b → is_given (cond b (Some (drop (length option) word)) None) ≡ true → IsOption option word (drop (length option) word)
    go true e given = record { word_is = (starts_is Decides-eqb word option true (sym e)).0 refl; given = given }
    go false e given = cc

-- a word that is longer is one where it begins so
left_over : (rest : Text) → 0 < length rest → true ≡ is_given (Some rest)
left_over [] h = absurd (omega arith)
left_over (x ∷ rest) h = refl

pub given_is : (option word : Text) → length option < length word → starts_with eqb word option ≡ is_given (value_after option word)
given_is option word longer = go (starts_with eqb word option)
  where
    go : (b : Bool) → b ≡ is_given (cond b (Some (drop (length option) word)) None)
    go true = left_over (drop (length option) word) (omega (arith, length-drop (length option) word))
    go false = refl

-- the words of `write`, of which the last is an option that is given
pub write_finds_word : (dataset key word : Text) → IsTrue (is_plain dataset) → IsTrue (is_plain key) → is_given (value_after (codes "--workers=") word) ≡ true
    → Finds write_app (codes "write" ∷ dataset ∷ key ∷ word ∷ []) (codes "dataset") (codes "key") (codes "workers") (dataset, key, drop 10 word)
write_finds_word dataset key word hd hk given = by_value (drop 10 word) (option_parts (codes "--workers=") word given)
  where
    by_value : (value : Text) → IsOption (codes "--workers=") word value → Finds write_app (codes "write" ∷ dataset ∷ key ∷ word ∷ []) (codes "dataset") (codes "key") (codes "workers") (dataset, key, value)
    by_value [] parts = cc parts.given
    by_value (z ∷ w) parts =
        subst (λ word. Finds write_app (codes "write" ∷ dataset ∷ key ∷ word ∷ []) (codes "dataset") (codes "key") (codes "workers") (dataset, key, z ∷ w)) (sym parts.word_is) (write_finds dataset key z w hd hk)

-- the words of `serve`, of which the last two are options that are given
pub serve_finds_words : (dataset port count : Text) → IsTrue (is_plain dataset) → is_given (value_after (codes "--port=") port) ≡ true → is_given (value_after (codes "--connections=") count) ≡ true
    → Finds serve_app (codes "serve" ∷ dataset ∷ port ∷ count ∷ []) (codes "dataset") (codes "port") (codes "connections") (dataset, drop 7 port, drop 14 count)
serve_finds_words dataset port count hd hp hc = by_values (drop 7 port) (drop 14 count) (option_parts (codes "--port=") port hp) (option_parts (codes "--connections=") count hc)
  where
    F : Text → Text → Text → Text → Type 0
    F p n v w = Finds serve_app (codes "serve" ∷ dataset ∷ p ∷ n ∷ []) (codes "dataset") (codes "port") (codes "connections") (dataset, v, w)

    by_values : (v w : Text) → IsOption (codes "--port=") port v → IsOption (codes "--connections=") count w → F port count v w
    by_values [] w p n = cc p.given
    by_values (y ∷ v) [] p n = cc n.given
    by_values (y ∷ v) (z ∷ w) p n =
        subst (λ text. F text count (y ∷ v) (z ∷ w)) (sym p.word_is) (subst (λ text. F (codes "--port=" ++ y ∷ v) text (y ∷ v) (z ∷ w)) (sym n.word_is) (serve_finds dataset y z v w hd))

-- what an equal command takes, and finds
module _ (parser app : App) (words : List Text) (is : parser ≡ app) (takes_words : takes app words ≡ true) where
  pub parser_simple : is_simple parser ≡ true
  parser_simple = (and_parts (is_simple parser) (built_takes (built parser) nothing_held (argument_words parser words)) (ap (λ p. takes p words) is ∙ takes_words)).0

  pub values_in : (found : Found) (a b c : Text) → rows_of found ≡ matches_of parser words
      → all_three (first_value found a) (first_value found b) (first_value found c) ≡ three_in app words a b c
  values_in found a b c rows = rw (first_value-rows found a, first_value-rows found b, first_value-rows found c, rows) (ap (λ p. three_in p words a b c) is)
