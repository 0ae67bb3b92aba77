-- Heads of requests in a stream (RFC 9112, sections 2 to 5, by the statements of `httparse`).
use Rattle.std.specs.Prelude.{◌<◌, ◌≤◌, ℕ, List, ◌++◌, length, take, Option, option_map}
use Rattle.httparse.specs.Grammar.{RequestHead, ReadsRequest, print_request}

-- the stream is a head of at most 8,192 bytes (this project's limit), and then the rest
pub record BeginsWith (stream : List ℕ) (head : RequestHead) (rest : List ℕ) : Type 0 where
  pub reads : ReadsRequest stream head rest
  pub short : length (print_request head) ≤ 8192

-- no prefix of at most 8,192 bytes is a head
abbrev pub HasNoHead : List ℕ → Type 0
HasNoHead stream = (head : RequestHead) (rest : List ℕ) → ReadsRequest stream head rest →
    8192 < length (print_request head)

-- what was received and not yet used, and then what is left to receive, where that is told
abbrev pub pending : List ℕ → ℕ → Option (List ℕ) → Option (List ℕ)
pending buffer len left = option_map (λ bytes. take len buffer ++ bytes) left
