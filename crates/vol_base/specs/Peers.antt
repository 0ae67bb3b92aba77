-- What a link and a door in memory are, seen from outside (this project's).
use Rattle.std.specs.Prelude.{◌≡◌, ℕ, ◌+◌, ◌≤◌, Bool, ◌||◌, nat_le, List, [], drop, map, length, Option, Some, nat_eq, refl}
use Rattle.std.specs.List.{list_any}
use Rattle.std.specs.Coded.{Coded, code_by, coded×, coded_ℕ, coded_list, coded_option}
use Rattle.std.proofs.Math.Nat.{le-add_right}
use Rattle.vol_base.specs.Causes.{counted}
use Rattle.vol_base.specs.Memory.{bytes_code}
use Rattle.vol_base.specs.Outside.{IsCourse, Ended}

-- a link in memory: all that comes in, how much of it was taken, and what was sent
pub record Linked : Type 0 where
  pub stream : List ℕ
  pub taken : ℕ
  pub sent : List ℕ
  pub room : ℕ
  pub piece : ℕ
  pub faults : ℕ
  pub calls : ℕ
  pub failing : List ℕ

abbrev pub linked_code : Coded Linked
linked_code =
    code_by (List ℕ × (ℕ × (List ℕ × (ℕ × (ℕ × (ℕ × (ℕ × List ℕ)))))))
    (coded× bytes_code (coded× coded_ℕ (coded× bytes_code
    (coded× coded_ℕ (coded× coded_ℕ (coded× coded_ℕ (coded× coded_ℕ bytes_code)))))))
    (λ l. (l.stream, (l.taken, (l.sent, (l.room, (l.piece, (l.faults, (l.calls, l.failing))))))))
    (λ p. record {
      stream = p.0;
      taken = p.1.0;
      sent = p.1.1.0;
      room = p.1.1.1.0;
      piece =
          p.1.1.1.1.0;
      faults = p.1.1.1.1.1.0;
      calls = p.1.1.1.1.1.1.0;
      failing = p.1.1.1.1.1.1.1;
    })
    (λ _. refl)

-- what is left to receive
abbrev pub left_in : Linked → List ℕ
left_in l = drop l.taken l.stream

-- the next call fails by its number
abbrev pub fails_next : Linked → Bool
fails_next l = list_any (λ n. nat_eq n l.calls) l.failing

-- or there is no room to send
abbrev pub refuses_sending : Linked → Bool
refuses_sending l = fails_next l || nat_le l.room (length l.sent)

-- nothing was received or sent, and no call failed
pub record IsFresh (l : Linked) : Type 0 where
  pub taken : l.taken ≡ 0
  pub sent : l.sent ≡ []
  pub faults : l.faults ≡ 0

-- a link in memory tells its course
pub linked_course : (l : Linked) → IsCourse (Some l.stream) (Some (left_in l)) (Some l.sent)
linked_course l = record { left_told = refl; sent_told = refl; end = (l.taken, refl) }

-- an end as a door notes it: its stream, what was sent, and its count of faults
abbrev pub noted : Linked → Ended
noted l = (l.stream, l.sent, counted l.faults)

-- a door in memory: the ends that wait, those that were closed, and how many were given and not yet closed
pub record Opened : Type 0 where
  pub waiting : List Linked
  pub closed : List Linked
  pub out : ℕ
  pub bound : Option ℕ
  pub faults : ℕ
  pub calls : ℕ
  pub failing : List ℕ

abbrev pub opened_code : Coded Opened
opened_code =
    code_by (List Linked × (List Linked × (ℕ × (Option ℕ × (ℕ × (ℕ × List ℕ))))))
    (coded× (coded_list linked_code) (coded× (coded_list linked_code)
    (coded× coded_ℕ (coded× (coded_option coded_ℕ) (coded× coded_ℕ (coded× coded_ℕ bytes_code))))))
    (λ d. (d.waiting, (d.closed, (d.out, (d.bound, (d.faults, (d.calls, d.failing)))))))
    (λ p. record {
      waiting = p.0;
      closed = p.1.0;
      out = p.1.1.0;
      bound = p.1.1.1.0;
      faults =
          p.1.1.1.1.0;
      calls = p.1.1.1.1.1.0;
      failing = p.1.1.1.1.1.1;
    })
    (λ _. refl)

-- the ends that were closed
abbrev pub served_by : Opened → List Ended
served_by d = map noted d.closed

-- how many ends were given
abbrev pub accepted_by : Opened → ℕ
accepted_by d = length (served_by d) + d.out

-- the next call of the door fails by its number
abbrev pub fails_call : Opened → Bool
fails_call d = list_any (λ n. nat_eq n d.calls) d.failing

-- or no end waits
abbrev pub refuses_end : Opened → Bool
refuses_end d = fails_call d || nat_le (length d.waiting) 0

-- no more are noted than were given
pub opened_notes : (d : Opened) → length (served_by d) ≤ accepted_by d
opened_notes d = le-add_right (length (served_by d)) d.out
