-- A connection on which each request that was sent was answered (this project's).
use Rattle.std.specs.Prelude.{◌≡◌, ℕ, List, [], Option, Some}
use Rattle.httparse.specs.Grammar.{RequestHead}
use Rattle.range_server.specs.Replies.{Reaches, closes_at, reply_to}
use Rattle.remote_store.specs.Dials.{Line, Peer}

-- what was sent is whole heads, whose replies don't close, and what was received is these replies
abbrev pub IsQuiet : Peer → Line → Type 0
IsQuiet peer line = (heads : List RequestHead) × Reaches (reply_to peer.objects peer.dataset) (closes_at peer.objects peer.dataset) heads 0 line.sent [] line.given

-- the end of a peer is such a connection
abbrev pub IsQuietEnd : Peer → Option Line → Type 0
IsQuietEnd peer line = (l : Line) × (line ≡ Some l) × IsQuiet peer l

-- where the peer is told and serves this data set, its end is one
abbrev pub IsQuietFor : List ℕ → Option Peer → Option Line → Type 0
IsQuietFor dataset peer line = (p : Peer) → peer ≡ Some p → p.dataset ≡ dataset → ∥ IsQuietEnd p line ∥₁
