-- A request that was sent, and what came of the reply to it so far (this project's).
use Rattle.std.specs.Prelude.{◌≡◌, ◌≢◌, ◌≤◌, ◌<◌, ◌+◌, ◌^◌, ℕ, List, length, Option, Some, None}
use Rattle.remote_store.specs.Answers.{IsAsked}
use Rattle.remote_store.specs.Bodies.{Came}
use Rattle.remote_store.specs.Dials.{LeavesReplies, Line, Peer, sent_more}
use Rattle.remote_store.specs.Quiet.{IsQuiet}
use Rattle.remote_store.specs.Talks.{IsRequest}
use Rattle.remote_store.specs.declared.wanted.Begun.{Begun}
use Rattle.remote_store.specs.declared.wanted.Wanted.{Wanted}

-- the text asks for an object of a data set, by its name below it
pub record IsAskFor (dataset host : List ℕ) (port : ℕ) (key : List ℕ) (wanted : Wanted) (text : List ℕ) : Type 0 where
  pub request : IsRequest host port key wanted text
  pub some : IsAsked wanted
  pub number : port < 2 ^ 16
  pub named : length dataset + 1 + length key ≤ 512

-- the text was sent on a connection on which each request before it was answered, and these bytes came of the reply
pub record Answering (p : Peer) (text gained : List ℕ) (left : Option (List ℕ)) (line : Option Line) : Type 0 where
  pub before : Line
  pub sent_left : Option (List ℕ)
  pub quiet : IsQuiet p before
  pub law : LeavesReplies p (sent_more text before) sent_left
  pub came : Came gained sent_left left (Some (sent_more text before)) line

-- where the peer is told and serves this data set, the reply has begun
abbrev pub HasBegun : List ℕ → Option Peer → List ℕ → List ℕ → Option (List ℕ) → Option Line → Option Begun → Type 0
HasBegun dataset peer text gained left line o = (p : Peer) → peer ≡ Some p → p.dataset ≡ dataset → (o ≢ None) × ∥ Answering p text gained left line ∥₁
