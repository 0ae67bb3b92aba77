-- Lists of words that spell no command.
use Rattle.std.proofs.Common.{◌≡◌, ◌<◌, ℕ, List, [], ◌∷◌, false, Option, Some, None, length, map, option_and_then, arith, refl}
use Rattle.std.specs.Borrow.{Bor}
use Rattle.reduce_laws.specs.declared.method.Method.{Method}
use Rattle.command_line.specs.Parsers.{is_given, coarsened, numbered, over, targeted}
use Rattle.command_line.specs.Words.{cutout_line, downsample_line, downsample_of, generate_line, generate_of, reshard_line, reshard_of, update_line, update_of, verify_line, workers, write_line, write_of}
use Rattle.line_words.specs.Words.{short_name, worker_count}

-- the texts behind references
abbrev pub texts : List (Bor (List ℕ)) → List (List ℕ)
texts words = map (λ word. word.now) words

pub no_cutout : (plain others : List (Bor (List ℕ))) → (length plain ≡ 3 → 0 < length others) → None ≡ cutout_line (texts plain) (texts others)
no_cutout [] others h = refl
no_cutout (a ∷ []) others h = refl
no_cutout (a ∷ b ∷ []) others h = refl
no_cutout (a ∷ b ∷ c ∷ []) [] h = let none : 0 < 0 = h refl in absurd (omega arith)
no_cutout (a ∷ b ∷ c ∷ []) (o ∷ others) h = refl
no_cutout (a ∷ b ∷ c ∷ d ∷ rest) others h = refl

pub no_verify : (plain others : List (Bor (List ℕ))) → (length plain ≡ 2 → 0 < length others) → (length plain ≡ 3 → 0 < length others) → None ≡ verify_line (texts plain) (texts others)
no_verify [] others two three = refl
no_verify (a ∷ []) others two three = refl
no_verify (a ∷ b ∷ []) [] two three = let none : 0 < 0 = two refl in absurd (omega arith)
no_verify (a ∷ b ∷ []) (o ∷ others) two three = refl
no_verify (a ∷ b ∷ c ∷ []) [] two three = let none : 0 < 0 = three refl in absurd (omega arith)
no_verify (a ∷ b ∷ c ∷ []) (o ∷ others) two three = refl
no_verify (a ∷ b ∷ c ∷ d ∷ rest) others two three = refl

pub no_write : (plain others : List (Bor (List ℕ))) → (length plain ≡ 2 → ⊥) → None ≡ write_line (texts plain) (texts others)
no_write [] others h = refl
no_write (a ∷ []) others h = refl
no_write (a ∷ b ∷ []) others h = absurd (h refl)
no_write (a ∷ b ∷ c ∷ rest) others h = refl

-- no command of `write` without a number of workers
without_workers : (dataset key : Option (List ℕ)) (count : Option ℕ) → count ≡ None → None ≡ write_of dataset key count
without_workers (Some d) (Some k) count e = rw e refl
without_workers (Some d) None count e = refl
without_workers None key count e = refl

pub too_many_options : (dataset key : Option (List ℕ)) (others : List (Bor (List ℕ))) → 1 < length others → None ≡ write_of dataset key (workers (texts others))
too_many_options dataset key [] h = absurd (omega arith)
too_many_options dataset key (a ∷ []) h = absurd (omega arith)
too_many_options dataset key (a ∷ b ∷ rest) h = without_workers dataset key None refl

-- an option without a value is none
pub without_value : (dataset key value : Option (List ℕ)) → is_given value ≡ false → None ≡ write_of dataset key (option_and_then worker_count value)
without_value dataset key None h = without_workers dataset key None refl
without_value dataset key (Some []) h = without_workers dataset key None refl
without_value dataset key (Some (x ∷ v)) h = cc

-- the same of `generate`
pub no_generate : (plain others : List (Bor (List ℕ))) → (length plain ≡ 4 → ⊥) → None ≡ generate_line (texts plain) (texts others)
no_generate [] others h = refl
no_generate (a ∷ []) others h = refl
no_generate (a ∷ b ∷ []) others h = refl
no_generate (a ∷ b ∷ c ∷ []) others h = refl
no_generate (a ∷ b ∷ c ∷ d ∷ []) others h = absurd (h refl)
no_generate (a ∷ b ∷ c ∷ d ∷ e ∷ rest) others h = refl

-- but for its numbers a line of `generate` is one of `write`
pub generate_is : (dataset key : Option (List ℕ)) (n writes count : Option ℕ) → numbered (write_of dataset key count) n writes ≡ generate_of dataset key n writes count
generate_is (Some d) (Some k) (Some n) (Some writes) (Some count) = refl
generate_is (Some d) (Some k) (Some n) (Some writes) None = refl
generate_is (Some d) (Some k) (Some n) None (Some count) = refl
generate_is (Some d) (Some k) (Some n) None None = refl
generate_is (Some d) (Some k) None writes (Some count) = refl
generate_is (Some d) (Some k) None writes None = refl
generate_is (Some d) None n writes count = refl
generate_is None key n writes count = refl

-- and but for its name a line of `update` is one of `write`
over_is : (dataset key : Option (List ℕ)) (count : Option ℕ) → over (write_of dataset key count) ≡ update_of dataset key count
over_is (Some d) (Some k) (Some count) = refl
over_is (Some d) (Some k) None = refl
over_is (Some d) None count = refl
over_is None key count = refl

pub update_is : (plain others : List (List ℕ)) → over (write_line plain others) ≡ update_line plain others
update_is [] others = refl
update_is (a ∷ []) others = refl
update_is (a ∷ b ∷ []) others = over_is (short_name a) (short_name b) (workers others)
update_is (a ∷ b ∷ c ∷ rest) others = refl

-- the same of `reshard`, of whose words the first two and the others are those of `write`
pub no_reshard : (plain others : List (Bor (List ℕ))) → (length plain ≡ 4 → ⊥) → None ≡ reshard_line (texts plain) (texts others)
no_reshard [] others h = refl
no_reshard (a ∷ []) others h = refl
no_reshard (a ∷ b ∷ []) others h = refl
no_reshard (a ∷ b ∷ c ∷ []) others h = refl
no_reshard (a ∷ b ∷ c ∷ d ∷ []) others h = absurd (h refl)
no_reshard (a ∷ b ∷ c ∷ d ∷ e ∷ rest) others h = refl

pub reshard_is : (dataset key to_dataset to_key : Option (List ℕ)) (count : Option ℕ) → targeted (write_of dataset key count) to_dataset to_key ≡ reshard_of dataset key to_dataset to_key count
reshard_is (Some d) (Some k) (Some e) (Some l) (Some count) = refl
reshard_is (Some d) (Some k) (Some e) (Some l) None = refl
reshard_is (Some d) (Some k) (Some e) None (Some count) = refl
reshard_is (Some d) (Some k) (Some e) None None = refl
reshard_is (Some d) (Some k) None l (Some count) = refl
reshard_is (Some d) (Some k) None l None = refl
reshard_is (Some d) None e l count = refl
reshard_is None k e l count = refl

-- the same of `downsample`, of whose words the first two and the others but for the method are those of `write`
pub no_downsample : (plain others : List (Bor (List ℕ))) → (length plain ≡ 3 → ⊥) → None ≡ downsample_line (texts plain) (texts others)
no_downsample [] others h = refl
no_downsample (a ∷ []) others h = refl
no_downsample (a ∷ b ∷ []) others h = refl
no_downsample (a ∷ b ∷ c ∷ []) others h = absurd (h refl)
no_downsample (a ∷ b ∷ c ∷ d ∷ rest) others h = refl

pub downsample_is : (dataset key to_key : Option (List ℕ)) (method : Method) (count : Option ℕ) → coarsened (write_of dataset key count) to_key method ≡ downsample_of dataset key to_key method count
downsample_is (Some d) (Some k) (Some t) method (Some count) = refl
downsample_is (Some d) (Some k) (Some t) method None = refl
downsample_is (Some d) (Some k) None method (Some count) = refl
downsample_is (Some d) (Some k) None method None = refl
downsample_is (Some d) None t method count = refl
downsample_is None k t method count = refl
