-- The commands of the line (this project's) as `clap` knows them: each has its plain words, then its options.
use Rattle.std.specs.Prelude.{ℕ, Bool, List, [], ◌∷◌, Option, Some, None, true, false, nat_lt, if◌then◌else◌, codes}
use Rattle.clap.specs.Simple.{App, matches_of, new_app, new_rule, with_rule}
use Rattle.clap.specs.Walk.{Rule, first_of}
use Rattle.clap.specs.declared.builder.action.ArgAction.TheVariants.{Set}
use Rattle.command_line.specs.Words.{cutout_of, serve_of, write_of}
use Rattle.line_words.specs.Words.{box_of, connection_count, port_number, short_name, worker_count}
use Rattle.command_line.specs.declared.commands.Command.{Command}
use Rattle.reduce_laws.specs.declared.method.Method.{Method}
use Rattle.command_line.specs.declared.commands.Command.TheVariants.{Downsample, Generate, Reshard, Update, Write}

-- a plain word, which has to be there
abbrev pub plain_rule : List ℕ → Rule
plain_rule name = record (new_rule name) { required = true }

-- an option `--name=value`
abbrev pub option_rule : List ℕ → Rule
option_rule name = record (new_rule name) { long = Some name; action = Some Set }

abbrev pub rule_by : Bool → List ℕ → Rule
rule_by is_option name = if is_option then option_rule name else plain_rule name

-- a command of three arguments, of which so many of the last ones are options
abbrev pub three_app : List ℕ → List ℕ → List ℕ → List ℕ → ℕ → App
three_app name first second third options =
    with_rule (with_rule (with_rule (new_app name) (plain_rule first)) (rule_by (nat_lt 1 options) second))
    (rule_by (nat_lt 0 options) third)

-- `cutout DATASET KEY BOX`
abbrev pub cutout_app : App
cutout_app = three_app (codes "cutout") (codes "dataset") (codes "key") (codes "box") 0

-- `write DATASET KEY --workers=N`
abbrev pub write_app : App
write_app = three_app (codes "write") (codes "dataset") (codes "key") (codes "workers") 1

-- `serve DATASET --port=P --connections=N`
abbrev pub serve_app : App
serve_app = three_app (codes "serve") (codes "dataset") (codes "port") (codes "connections") 2

-- the values of three arguments, where each has one
abbrev pub Three : Type 0
Three = List ℕ × List ℕ × List ℕ

abbrev pub all_three : Option (List ℕ) → Option (List ℕ) → Option (List ℕ) → Option Three
all_three (Some a) (Some b) (Some c) = Some (a, b, c)
all_three (Some a) (Some b) None = None
all_three (Some a) None c = None
all_three None b c = None

-- the values of three arguments in the words of a command
abbrev pub three_in : App → List (List ℕ) → List ℕ → List ℕ → List ℕ → Option Three
three_in app words a b c =
    all_three (first_of a (matches_of app words)) (first_of b (matches_of app words))
    (first_of c (matches_of app words))

-- an option has a value that isn't empty
abbrev pub is_given : Option (List ℕ) → Bool
is_given (Some (x ∷ value)) = true
is_given (Some []) = false
is_given None = false

-- the commands of three values
abbrev pub cutout_by : Option Three → Option Command
cutout_by (Some values) = cutout_of (short_name values.0) (short_name values.1) (box_of values.2)
cutout_by None = None

abbrev pub write_by : Option Three → Option Command
write_by (Some values) = write_of (short_name values.0) (short_name values.1) (worker_count values.2)
write_by None = None

abbrev pub serve_by : Option Three → Option Command
serve_by (Some values) = serve_of (short_name values.0) (port_number values.1) (connection_count values.2)
serve_by None = None

-- a command `write` as the command `update`
abbrev pub over : Option Command → Option Command
over (Some (Write dataset key count)) = Some (Update dataset key count)
over found = None

-- a command `write` with the two numbers of `generate`
abbrev pub numbered : Option Command → Option ℕ → Option ℕ → Option Command
numbered (Some (Write dataset key count)) (Some n) (Some writes) = Some (Generate dataset key n writes count)
numbered found n writes = None

-- a command `write` with the names of another scale
abbrev pub targeted : Option Command → Option (List ℕ) → Option (List ℕ) → Option Command
targeted (Some (Write dataset key count)) (Some to_dataset) (Some to_key) =
    Some (Reshard dataset key to_dataset to_key count)
targeted found to_dataset to_key = None

-- a command `write` with the key of another scale, and a method
abbrev pub coarsened : Option Command → Option (List ℕ) → Method → Option Command
coarsened (Some (Write dataset key count)) (Some to_key) method =
    Some (Downsample dataset key to_key method count)
coarsened found to_key method = None
