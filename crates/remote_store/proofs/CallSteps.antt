-- Requests that are made of a name below a data set.
use Rattle.std.proofs.Common.{◌≡◌, ◌∙◌, ℕ, ◌+◌, ◌<◌, ◌≤◌, ◌^◌, Bool, List, length, Option, IfOk, IsTrue, Result, Ok, Err, ap, arith}
use Rattle.vol_base.specs.Names.{is_name}
use Rattle.vol_base.specs.declared.outside.Failed.{Failed}
use Rattle.remote_store.specs.Answers.{IsAsked}
use Rattle.remote_store.specs.Asking.{IsAskFor}
use Rattle.remote_store.specs.Dials.{Line, Peer}
use Rattle.remote_store.specs.Hosts.{is_host}
use Rattle.remote_store.specs.Quiet.{IsQuietFor}
use Rattle.remote_store.specs.Requests.{peer_value}
use Rattle.remote_store.specs.Talks.{SaysLength, SaysPart}
use Rattle.remote_store.specs.Texts.{request_text}
use Rattle.remote_store.specs.declared.wanted.Promise.{Promise}
use Rattle.remote_store.specs.declared.wanted.Wanted.{Wanted}
use Rattle.remote_store.specs.declared.wanted.Wanted.TheVariants.{Length, Part}
use Rattle.remote_store.proofs.HostSteps.{host_parts, peer_short}
use Rattle.remote_store.proofs.KeySteps.{name_short}
use Rattle.remote_store.proofs.RequestTexts.{printed, request_short}

pub peer_fits : (host peer : List ℕ) (port : ℕ) → IsTrue (is_host host) → peer ≡ peer_value host port → port < 2 ^ 16 → length peer ≤ 261
peer_fits host peer port h is small = omega (arith, peer_short host port (host_parts host h).0 small, ap length is)

pub asks_for : (host peer text key : List ℕ) (port : ℕ) (wanted : Wanted) → IsTrue (is_host host) → peer ≡ peer_value host port → port < 2 ^ 16 → IsTrue (is_name key) → IsAsked wanted → text ≡ request_text peer key wanted
    → (dataset : List ℕ) → length dataset + 1 + length key ≤ 512 → IsAskFor dataset host port key wanted text
asks_for host peer text key port wanted h is small good asked text_is dataset named =
    let fits = peer_fits host peer port h is small in
    record {
      request = record {
        printed = text_is ∙ ap (λ p. request_text p key wanted) is ∙ printed host port key wanted;
        short = omega (arith, ap length text_is, request_short peer key wanted fits (name_short key good) asked);
        plain = (host_parts host h).1;
        name = good;
      };
      some = asked;
      number = small;
      named = named;
    }

pub told_length : (host text key : List ℕ) (port : ℕ) (kept : Bool) (peer : Option Peer) (line : Option Line) (r : Result (Option Promise) Failed)
    → ((dataset : List ℕ) → length dataset + 1 + length key ≤ 512 → IsAskFor dataset host port key Length text)
    → IfOk r (λ o. (dataset key : List ℕ) → IsAskFor dataset host port key Length text → (IsTrue kept → IsQuietFor dataset peer line) → SaysLength dataset peer key o)
    → IfOk r (λ o. (dataset : List ℕ) → length dataset + 1 + length key ≤ 512 → (IsTrue kept → IsQuietFor dataset peer line) → SaysLength dataset peer key o)
told_length host text key port kept peer line (Err e) asks f = tt
told_length host text key port kept peer line (Ok o) asks f = λ dataset named quiet. f dataset key (asks dataset named) quiet

pub told_part : (host text key : List ℕ) (port : ℕ) (kept : Bool) (peer : Option Peer) (line : Option Line) (from : ℕ) (old new : List ℕ) (r : Result (Option Promise) Failed)
    → ((dataset : List ℕ) → length dataset + 1 + length key ≤ 512 → IsAskFor dataset host port key (Part from (length old)) text)
    → IfOk r (λ o. (dataset key : List ℕ) → IsAskFor dataset host port key (Part from (length old)) text → (IsTrue kept → IsQuietFor dataset peer line) → SaysPart dataset peer key from old new o)
    → IfOk r (λ o. (dataset : List ℕ) → length dataset + 1 + length key ≤ 512 → (IsTrue kept → IsQuietFor dataset peer line) → SaysPart dataset peer key from old new o)
told_part host text key port kept peer line from old new (Err e) asks f = tt
told_part host text key port kept peer line from old new (Ok o) asks f = λ dataset named quiet. f dataset key (asks dataset named) quiet
