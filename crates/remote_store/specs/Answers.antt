-- What a peer that tells its objects answers (this project's).
use Rattle.std.specs.Prelude.{◌≡◌, ◌<◌, ℕ, ◌+◌, ◌^◌, List, ◌∷◌, ◌++◌, length, Option, IfSome, option_map, ⊤}
use Rattle.std.specs.FinMap as map
use Rattle.httparse.specs.Grammar.{ResponseHead}
use Rattle.vol_base.specs.Outside.{Objects, part}
use Rattle.range_server.specs.Replies.{closes_at, reply_to}
use Rattle.remote_store.specs.Requests.{request_of}
use Rattle.remote_store.specs.Fits.{FitsAt, bytes_said, ends_behind, size_said}
use Rattle.remote_store.specs.declared.wanted.Promise.{Promise}
use Rattle.remote_store.specs.declared.wanted.Wanted.{Wanted}
use Rattle.remote_store.specs.declared.wanted.Wanted.TheVariants.{Length, Part}

-- each object has a length of 64 bits
abbrev pub AreShort : Objects → Type 0
AreShort m = (name : List ℕ) → IfSome (map.get m name) (λ bytes. length bytes < 2 ^ 64)

-- some bytes, and none past those that a count can number
abbrev pub IsAsked : Wanted → Type 0
IsAsked Length = ⊤
IsAsked (Part from count) = (0 < count) × (from + count < 2 ^ 64)

-- what a reply says is what a store with the object, or without it, answers
abbrev pub SaysOf : Wanted → Option (List ℕ) → Promise → List ℕ → Type 0
SaysOf Length object promise body = size_said promise.kind promise.len ≡ option_map length object
SaysOf (Part from count) object promise body =
    bytes_said promise.kind from count body ≡ option_map (λ bytes. part bytes from count) object

-- the reply to the n-th request of a connection, which is for an object by its name below the data set: it fits, says what is
-- there, and shows whether the connection ends behind it
pub record Answers (m : Objects) (dataset host : List ℕ) (port : ℕ) (key : List ℕ) (wanted : Wanted) (n : ℕ) : Type 0 where
  pub head : ResponseHead
  pub promise : Promise
  pub body : List ℕ
  pub fits : FitsAt wanted (reply_to m dataset n (request_of host port key wanted)) head promise body
  pub says : SaysOf wanted (map.get m (dataset ++ 47 ∷ key)) promise body
  pub ends : ends_behind head ≡ closes_at m dataset n (request_of host port key wanted)
