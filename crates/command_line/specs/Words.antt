-- The command line (this project's profile).
use Rattle.std.specs.Prelude.{ℕ, ◌^◌, ◌<◌, ◌≤◌, not, List, [], ◌∷◌, length, filter, nat_le, nat_lt, Option, Some, None, option_and_then, if◌then◌else◌, codes}
use Rattle.std.specs.Option.{option_map, option_or}
use Rattle.std.specs.Str.{bytes_eq}
use Rattle.vol_base.specs.declared.boxes.Box3.{Box3}
use Rattle.line_words.specs.Words.{box_of, connection_count, is_plain, number, port_number, short_name, value_after, worker_count}
use Rattle.reduce_laws.specs.declared.method.Method.{Method}
use Rattle.reduce_laws.specs.declared.method.Method.TheVariants.{Mode, Mean}
use Rattle.command_line.specs.declared.commands.Command.{Command}
use Rattle.command_line.specs.declared.commands.Command.TheVariants.{Cutout, Downsample, Generate, Reshard, Serve, Update, Verify, Write}

-- the plain words, and all others, each in the order of the line
abbrev pub plain_words : List (List ℕ) → List (List ℕ)
plain_words words = filter is_plain words

abbrev pub other_words : List (List ℕ) → List (List ℕ)
other_words words = filter (λ word. not (is_plain word)) words

-- NUMBER: a number below 2^31; WRITES: one of at most 4,096
abbrev pub seed : List ℕ → Option ℕ
seed word = option_and_then (λ n. if nat_lt n (2 ^ 31) then Some n else None) (number word)

abbrev pub write_count : List ℕ → Option ℕ
write_count word = option_and_then (λ n. if nat_le n 4096 then Some n else None) (number word)

-- `[--workers=N]`, where no other word that isn't plain may stand: 1 worker without it
abbrev pub workers : List (List ℕ) → Option ℕ
workers [] = Some 1
workers (word ∷ []) = option_and_then worker_count (value_after (codes "--workers=") word)
workers (word ∷ other ∷ words) = None

-- `cutout DATASET KEY BOX`, by its plain words and the others
abbrev pub cutout_of : Option (List ℕ) → Option (List ℕ) → Option Box3 → Option Command
cutout_of (Some dataset) (Some key) (Some part) = Some (Cutout dataset key part)
cutout_of (Some dataset) (Some key) None = None
cutout_of (Some dataset) None part = None
cutout_of None key part = None

abbrev pub cutout_line : List (List ℕ) → List (List ℕ) → Option Command
cutout_line (dataset ∷ key ∷ part ∷ []) [] = cutout_of (short_name dataset) (short_name key) (box_of part)
cutout_line plain others = None

-- `write DATASET KEY [--workers=N]`, by its plain words and the others
abbrev pub write_of : Option (List ℕ) → Option (List ℕ) → Option ℕ → Option Command
write_of (Some dataset) (Some key) (Some count) = Some (Write dataset key count)
write_of (Some dataset) (Some key) None = None
write_of (Some dataset) None count = None
write_of None key count = None

abbrev pub write_line : List (List ℕ) → List (List ℕ) → Option Command
write_line (dataset ∷ key ∷ []) others = write_of (short_name dataset) (short_name key) (workers others)
write_line plain others = None

-- `update DATASET KEY [--workers=N]`, by its plain words and the others
abbrev pub update_of : Option (List ℕ) → Option (List ℕ) → Option ℕ → Option Command
update_of (Some dataset) (Some key) (Some count) = Some (Update dataset key count)
update_of (Some dataset) (Some key) None = None
update_of (Some dataset) None count = None
update_of None key count = None

abbrev pub update_line : List (List ℕ) → List (List ℕ) → Option Command
update_line (dataset ∷ key ∷ []) others = update_of (short_name dataset) (short_name key) (workers others)
update_line plain others = None

-- `generate DATASET KEY NUMBER WRITES [--workers=N]`, by its plain words and the others
abbrev pub generate_of : Option (List ℕ) → Option (List ℕ) → Option ℕ → Option ℕ → Option ℕ → Option Command
generate_of (Some dataset) (Some key) (Some n) (Some writes) (Some count) =
    Some (Generate dataset key n writes count)
generate_of (Some dataset) (Some key) (Some n) (Some writes) None = None
generate_of (Some dataset) (Some key) (Some n) None count = None
generate_of (Some dataset) (Some key) None writes count = None
generate_of (Some dataset) None n writes count = None
generate_of None key n writes count = None

abbrev pub generate_line : List (List ℕ) → List (List ℕ) → Option Command
generate_line (dataset ∷ key ∷ n ∷ writes ∷ []) others =
    generate_of (short_name dataset) (short_name key) (seed n) (write_count writes) (workers others)
generate_line plain others = None

-- `reshard DATASET KEY DATASET2 KEY2 [--workers=N]`, by its plain words and the others: a scale, and the one that it is copied into
abbrev pub reshard_of : Option (List ℕ) → Option (List ℕ) → Option (List ℕ) → Option (List ℕ) → Option ℕ →
    Option Command
reshard_of (Some dataset) (Some key) (Some to_dataset) (Some to_key) (Some count) =
    Some (Reshard dataset key to_dataset to_key count)
reshard_of (Some dataset) (Some key) (Some to_dataset) (Some to_key) None = None
reshard_of (Some dataset) (Some key) (Some to_dataset) None count = None
reshard_of (Some dataset) (Some key) None to_key count = None
reshard_of (Some dataset) None to_dataset to_key count = None
reshard_of None key to_dataset to_key count = None

abbrev pub reshard_line : List (List ℕ) → List (List ℕ) → Option Command
reshard_line (dataset ∷ key ∷ to_dataset ∷ to_key ∷ []) others =
    reshard_of (short_name dataset) (short_name key) (short_name to_dataset) (short_name to_key)
    (workers others)
reshard_line plain others = None

-- `--method=M`: the value that occurs most often, or the mean
abbrev pub method_word : List ℕ → Option Method
method_word word = if bytes_eq word (codes "--method=mode") then Some Mode
    else if bytes_eq word (codes "--method=mean") then Some Mean else None

-- the method among one or two words, and the words beside it, in either order
abbrev pub method_before : Option Method → List (List ℕ) → Option (Method × List (List ℕ))
method_before (Some method) others = Some (method, others)
method_before None others = None

abbrev pub method_in : List (List ℕ) → Option (Method × List (List ℕ))
method_in [] = None
method_in (a ∷ []) = method_before (method_word a) []
method_in (a ∷ b ∷ []) = option_or (method_before (method_word a) (b ∷ []))
    (method_before (method_word b) (a ∷ []))
method_in (a ∷ b ∷ c ∷ words) = None

-- `downsample DATASET KEY KEY2 --method=mode|mean [--workers=N]`, by its plain words and the others: a scale, and the one that it is reduced into
abbrev pub downsample_of : Option (List ℕ) → Option (List ℕ) → Option (List ℕ) → Method → Option ℕ →
    Option Command
downsample_of (Some dataset) (Some key) (Some to_key) method (Some count) =
    Some (Downsample dataset key to_key method count)
downsample_of (Some dataset) (Some key) (Some to_key) method None = None
downsample_of (Some dataset) (Some key) None method count = None
downsample_of (Some dataset) None to_key method count = None
downsample_of None key to_key method count = None

abbrev pub downsample_by : Option (List ℕ) → Option (List ℕ) → Option (List ℕ) →
    Option (Method × List (List ℕ)) → Option Command
downsample_by dataset key to_key (Some found) = downsample_of dataset key to_key found.0 (workers found.1)
downsample_by dataset key to_key None = None

abbrev pub downsample_line : List (List ℕ) → List (List ℕ) → Option Command
downsample_line (dataset ∷ key ∷ to_key ∷ []) others =
    downsample_by (short_name dataset) (short_name key) (short_name to_key) (method_in others)
downsample_line plain others = None

-- `verify DATASET KEY [BOX]`, where no other word may stand: without a box all of the scale
abbrev pub part_of : Option (List ℕ) → Option (Option Box3)
part_of (Some word) = option_map Some (box_of word)
part_of None = Some None

abbrev pub verify_of : Option (List ℕ) → Option (List ℕ) → Option (Option Box3) → Option Command
verify_of (Some dataset) (Some key) (Some part) = Some (Verify dataset key part)
verify_of (Some dataset) (Some key) None = None
verify_of (Some dataset) None part = None
verify_of None key part = None

abbrev pub verify_line : List (List ℕ) → List (List ℕ) → Option Command
verify_line (dataset ∷ key ∷ []) [] = verify_of (short_name dataset) (short_name key) (part_of None)
verify_line (dataset ∷ key ∷ part ∷ []) [] = verify_of (short_name dataset) (short_name key)
    (part_of (Some part))
verify_line plain others = None

-- what one of two words has behind an option
abbrev pub either_value : List ℕ → List ℕ → List ℕ → Option (List ℕ)
either_value option a b = option_or (value_after option a) (value_after option b)

-- `serve DATASET --port=P --connections=N`, by its plain words and the others: both options, in either order
abbrev pub serve_of : Option (List ℕ) → Option ℕ → Option ℕ → Option Command
serve_of (Some dataset) (Some port) (Some count) = Some (Serve dataset port count)
serve_of (Some dataset) (Some port) None = None
serve_of (Some dataset) None count = None
serve_of None port count = None

abbrev pub serve_options : List ℕ → List ℕ → List ℕ → Option Command
serve_options dataset a b =
    serve_of (short_name dataset) (option_and_then port_number (either_value (codes "--port=") a b))
    (option_and_then connection_count (either_value (codes "--connections=") a b))

abbrev pub serve_line : List (List ℕ) → List (List ℕ) → Option Command
serve_line (dataset ∷ []) (a ∷ b ∷ []) = serve_options dataset a b
serve_line plain others = None

-- the command that the words spell, the command's name first
abbrev pub line : List (List ℕ) → Option Command
line [] = None
line (command ∷ words) = if bytes_eq command (codes "cutout")
    then cutout_line (plain_words words) (other_words words)
    else if bytes_eq command (codes "write") then write_line (plain_words words) (other_words words)
    else if bytes_eq command (codes "update") then update_line (plain_words words) (other_words words)
    else if bytes_eq command (codes "generate") then generate_line (plain_words words) (other_words words)
    else if bytes_eq command (codes "reshard") then reshard_line (plain_words words) (other_words words)
    else if bytes_eq command (codes "downsample")
    then downsample_line (plain_words words) (other_words words)
    else if bytes_eq command (codes "verify") then verify_line (plain_words words) (other_words words)
    else if bytes_eq command (codes "serve") then serve_line (plain_words words) (other_words words) else None

-- a command's names have at most 200 bytes, and its numbers are in their range
abbrev pub KeepsLimits : Option Command → Type 0
KeepsLimits None = Unit {0}
KeepsLimits (Some (Cutout dataset key part)) = (length dataset ≤ 200) × (length key ≤ 200)
KeepsLimits (Some (Write dataset key count)) = (length dataset ≤ 200) × (length key ≤ 200)
KeepsLimits (Some (Update dataset key count)) = (length dataset ≤ 200) × (length key ≤ 200)
KeepsLimits (Some (Generate dataset key n writes count)) =
    (length dataset ≤ 200) × (length key ≤ 200) × (n < 2 ^ 31) × (writes ≤ 4096)
KeepsLimits (Some (Reshard dataset key to_dataset to_key count)) =
    (length dataset ≤ 200) × (length key ≤ 200) × (length to_dataset ≤ 200) × (length to_key ≤ 200)
KeepsLimits (Some (Downsample dataset key to_key method count)) =
    (length dataset ≤ 200) × (length key ≤ 200) × (length to_key ≤ 200)
KeepsLimits (Some (Verify dataset key part)) = (length dataset ≤ 200) × (length key ≤ 200)
KeepsLimits (Some (Serve dataset port count)) = (length dataset ≤ 200) × (1 ≤ count)
