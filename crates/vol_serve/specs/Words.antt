-- The words of `vol_serve` (this project's profile).
use Rattle.std.specs.Prelude.{ℕ, ◌≤◌, List, [], ◌∷◌, Option, Some, None, option_and_then, if◌then◌else◌, codes}
use Rattle.std.specs.Option.{option_or}
use Rattle.line_words.specs.Words.{connection_count, is_plain, port_number, short_name, value_after, worker_count}
use Rattle.vol_serve.specs.declared.words.Serving.{Serving}

-- DATASET: a plain word that is a name of at most 200 bytes
abbrev pub dataset_in : List ℕ → Option (List ℕ)
dataset_in word = if is_plain word then short_name word else None

-- `--port=P`, `--connections=N` and `--workers=W`
abbrev pub port_in : List ℕ → Option ℕ
port_in word = option_and_then port_number (value_after (codes "--port=") word)

abbrev pub connections_in : List ℕ → Option ℕ
connections_in word = option_and_then connection_count (value_after (codes "--connections=") word)

abbrev pub workers_in : List ℕ → Option ℕ
workers_in word = option_and_then worker_count (value_after (codes "--workers=") word)

-- what the first of four words gives that gives anything
abbrev pub in_four : {A : Type 0} → (List ℕ → Option A) → List ℕ → List ℕ → List ℕ → List ℕ → Option A
in_four find a b c d = option_or (option_or (option_or (find a) (find b)) (find c)) (find d)

-- all four of them
abbrev pub serving_of : Option (List ℕ) → Option ℕ → Option ℕ → Option ℕ → Option Serving
serving_of (Some dataset) (Some port) (Some connections) (Some workers) =
    Some (record { dataset = dataset; port = port; connections = connections; workers = workers })
serving_of (Some dataset) (Some port) (Some connections) None = None
serving_of (Some dataset) (Some port) None workers = None
serving_of (Some dataset) None connections workers = None
serving_of None port connections workers = None

-- `DATASET --port=P --connections=N --workers=W`, in any order: no word can be two of these, so each stands there once
abbrev pub hall_line : List (List ℕ) → Option Serving
hall_line (a ∷ b ∷ c ∷ d ∷ []) =
    serving_of (in_four dataset_in a b c d) (in_four port_in a b c d) (in_four connections_in a b c d)
    (in_four workers_in a b c d)
hall_line words = None

-- what the words spell keeps to its limits
abbrev pub KeepsLimits : Option Serving → Type 0
KeepsLimits None = Unit {0}
KeepsLimits (Some serving) = (1 ≤ serving.connections) × (1 ≤ serving.workers) × (serving.workers ≤ 16)
