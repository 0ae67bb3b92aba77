-- Moments that pass, call by call.
use Rattle.std.proofs.Common.{◌≡◌, List, [], ◌∷◌, ◌++◌, Option, Some, ap, refl, sym, ◌∙◌}
use Rattle.std.proofs.lemmas.List.{append-nil, append_assoc}
use Rattle.std.specs.List.{AllByRecursion}
use Rattle.vol_base.specs.Outside.{Objects, Passes, Turns}

module _ {X : Type 0} (P : X → Type 0) where
  all_joined : (xs ys : List X) → AllByRecursion P xs → AllByRecursion P ys → AllByRecursion P (xs ++ ys)
  all_joined [] ys h k = k
  all_joined (x ∷ xs) ys h k = (h.0, all_joined xs ys h.1 k)

  all_weaker : (Q : X → Type 0) → ((x : X) → P x → Q x) → (xs : List X) → AllByRecursion P xs → AllByRecursion Q xs
  all_weaker Q f [] h = tt
  all_weaker Q f (x ∷ xs) h = (f x h.0, all_weaker Q f xs h.1)

  pub passes_none : (old new : List X) → new ≡ old → Passes P old new
  passes_none old new e = record { gained = []; is = e ∙ sym (append-nil old); each = tt }

  pub passes_twice : (a b c : List X) → Passes P a b → Passes P b c → Passes P a c
  passes_twice a b c h k = record {
    gained = h.gained ++ k.gained;
    is = k.is ∙ ap (λ xs. xs ++ k.gained) h.is ∙ append_assoc a h.gained k.gained;
    each = all_joined h.gained k.gained h.each k.each;
  }

  pub passes_weaker : (Q : X → Type 0) → ((x : X) → P x → Q x) → (a b : List X) → Passes P a b → Passes Q a b
  passes_weaker Q f a b h = record { gained = h.gained; is = h.is; each = all_weaker Q f h.gained h.each }

-- what holds of the objects before a call and of those after it passes
pub turns_pass : (P : Objects → Type 0) (before after : Option Objects) (old new : List Objects) → ((m : Objects) → before ≡ Some m → P m) → ((m : Objects) → after ≡ Some m → P m)
    → Turns before after old new → Passes P old new
turns_pass P before after old new first last h =
    passes_twice P old h.turn new (passes_weaker (λ m. before ≡ Some m) P first old h.turn h.steady)
    (passes_weaker (λ m. after ≡ Some m) P last h.turn new h.turned)

-- calls that leave the objects, in front of one that may not
pub turns_twice : (a b c : Option Objects) (u v w : List Objects) → b ≡ a → Turns a b u v → Turns b c v w → Turns a c u w
turns_twice a b c u v w same h k = record {
  turn = k.turn;
  steady =
      passes_twice (λ m. a ≡ Some m) u v k.turn
      (turns_pass (λ m. a ≡ Some m) a b u v (λ m e. e) (λ m e. sym same ∙ e) h)
      (passes_weaker (λ m. b ≡ Some m) (λ m. a ≡ Some m) (λ m e. sym same ∙ e) v k.turn k.steady);
  turned = k.turned;
}

-- nothing passes
pub turns_none : (a b : Option Objects) (u v : List Objects) → v ≡ u → Turns a b u v
turns_none a b u v e = record { turn = u; steady = passes_none _ u u refl; turned = passes_none _ u v e }
