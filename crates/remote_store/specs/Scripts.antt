-- What a peer that says always the same is, seen from outside (this project's).
use Rattle.std.specs.Prelude.{ℕ, Bool, List, take, drop, refl}
use Rattle.std.specs.Coded.{Coded, code_by, coded×, coded_ℕ, coded_bool}
use Rattle.vol_base.specs.Memory.{bytes_code}

-- the reply, how much of it was taken, whether an end is held, and how often the end came
pub record Script : Type 0 where
  pub reply : List ℕ
  pub taken : ℕ
  pub held : Bool
  pub ends : ℕ

abbrev pub script_code : Coded Script
script_code =
    code_by (List ℕ × (ℕ × (Bool × ℕ)))
    (coded× bytes_code (coded× coded_ℕ (coded× coded_bool coded_ℕ)))
    (λ s. (s.reply, (s.taken, (s.held, s.ends))))
    (λ p. record { reply = p.0; taken = p.1.0; held = p.1.1.0; ends = p.1.1.1 })
    (λ _. refl)

abbrev pub taken_of : Script → List ℕ
taken_of s = take s.taken s.reply

abbrev pub left_of : Script → List ℕ
left_of s = drop s.taken s.reply
