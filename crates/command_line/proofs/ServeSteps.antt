-- The words of `serve`: both options, in either order.
use Rattle.std.proofs.Common.{◌≡◌, ◌∙◌, ℕ, List, [], ◌∷◌, true, false, Option, Some, None, is_some, length, option_and_then, codes, ap, refl, sym}
use Rattle.std.specs.Option.{option_or}
use Rattle.std.specs.Borrow.{Bor}
use Rattle.command_line.specs.Parsers.{is_given}
use Rattle.command_line.specs.Words.{serve_line, serve_of, serve_options}
use Rattle.line_words.specs.Words.{connection_count, port_number, short_name, value_after}
use Rattle.command_line.proofs.LineSteps.{texts}
use Rattle.command_line.proofs.ParserSteps.{begins_with}

-- no command without a port, or without a number of connections
without_port : (name : Option (List ℕ)) (count : Option ℕ) → None ≡ serve_of name None count
without_port (Some d) count = refl
without_port None count = refl

without_count : (name : Option (List ℕ)) (port : Option ℕ) → None ≡ serve_of name port None
without_count (Some d) (Some p) = refl
without_count (Some d) None = refl
without_count None port = refl

pub without_connections : (name : Option (List ℕ)) (port : Option ℕ) (value : Option (List ℕ)) → is_given value ≡ false → None ≡ serve_of name port (option_and_then connection_count value)
without_connections name port None h = without_count name port
without_connections name port (Some []) h = without_count name port
without_connections name port (Some (x ∷ v)) h = cc

-- a word that begins with one option doesn't begin with the other
no_port : (word : List ℕ) → is_some (value_after (codes "--connections=") word) ≡ true → value_after (codes "--port=") word ≡ None
no_port word h = ap (value_after (codes "--port=")) (begins_with (codes "--connections=") word h) ∙ refl

no_connections : (word : List ℕ) → is_some (value_after (codes "--port=") word) ≡ true → value_after (codes "--connections=") word ≡ None
no_connections word h = ap (value_after (codes "--connections=")) (begins_with (codes "--port=") word h) ∙ refl

-- where the first word isn't the port, it has to be the connections
swapped : (name p q m n : Option (List ℕ)) → is_given p ≡ false → (is_some p ≡ true → m ≡ None) → (is_some n ≡ true → q ≡ None)
    → serve_of name (option_and_then port_number q) (option_and_then connection_count m)
    ≡ serve_of name (option_and_then port_number (option_or p q)) (option_and_then connection_count (option_or m n))
swapped name (Some (x ∷ v)) q m n h alone other = cc
swapped name (Some []) q None n h alone other = sym (without_count name (option_and_then port_number q)) ∙ without_port name (option_and_then connection_count n)
swapped name (Some []) q (Some y) n h alone other = let no : Some y ≡ None = alone refl in cc
swapped name None q (Some y) n h alone other = refl
swapped name None q None None h alone other = refl
swapped name None None None (Some z) h alone other = sym (without_port name None) ∙ without_port name (option_and_then connection_count (Some z))
swapped name None (Some w) None (Some z) h alone other = let no : Some w ≡ None = other refl in cc

pub port_second : (dataset a b : List ℕ) → is_given (value_after (codes "--port=") a) ≡ false
    → serve_of (short_name dataset) (option_and_then port_number (value_after (codes "--port=") b)) (option_and_then connection_count (value_after (codes "--connections=") a)) ≡ serve_options dataset a b
port_second dataset a b h =
    swapped (short_name dataset) (value_after (codes "--port=") a) (value_after (codes "--port=") b) (value_after (codes "--connections=") a) (value_after (codes "--connections=") b) h (no_connections a) (no_port b)

-- not one plain word and two others
pub no_serve : (plain others : List (Bor (List ℕ))) → (length plain ≡ 1 → length others ≡ 2 → ⊥) → None ≡ serve_line (texts plain) (texts others)
no_serve [] others h = refl
no_serve (d ∷ []) [] h = refl
no_serve (d ∷ []) (a ∷ []) h = refl
no_serve (d ∷ []) (a ∷ b ∷ []) h = absurd (h refl refl)
no_serve (d ∷ []) (a ∷ b ∷ c ∷ rest) h = refl
no_serve (d ∷ e ∷ rest) others h = refl
