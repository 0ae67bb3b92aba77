-- The whole of a stream.
use Rattle.std.proofs.Common.{◌≡◌, ℕ, zero, suc, ◌<◌, ◌≤◌, ◌^◌, List, [], length, Option, Some, None, Ok, Err, Bool, true, false, refl, ap, sym, arith, inl, inr}
use Rattle.std.specs.Prelude.{◌==◌}
use Rattle.std.specs.List.{All}
use Rattle.std.specs.Option.{option_map}
use Rattle.std.proofs.lemmas.Grind.{not_there}
use Rattle.std.proofs.lemmas.List.{length-map}
use Rattle.std.proofs.lemmas.List.Elements.{All-weaker}
use Rattle.vol_base.specs.Bytes.{AreBytes}
use Rattle.vol_spec.specs.Limits.{IsWidth}
use Rattle.vol_spec.specs.declared.scale.Scale.{Scale}
use Rattle.write_plan.specs.Reading.{end_at, ended}
use Rattle.write_plan.specs.Readers.{Gave, Refused, gives}
use Rattle.write_plan.specs.WriteLists.{BoxWrite, AreWrites, IsWrite, IsWriteOf, writes_in, total}
use Rattle.write_plan.specs.declared.fault.PlanFault.{PlanFault}
use Rattle.write_plan.specs.declared.writes.Write.{Write}

same_rest : (a b c d : List ℕ) → gives a b ≡ gives c d → b ≡ d
same_rest a b c d e = let pair : (a, b) ≡ (c, d) = cc in ap (λ (r : List ℕ × List ℕ). r.1) pair

-- nothing follows, or something does
pub end_all : (ws : List BoxWrite) (p q : Option (List ℕ)) → Gave end_at p q [] → (option_map (ended ws) p ≡ option_map (λ _. Ok ws) p) × (q ≡ option_map (λ _. []) p)
end_all ws None None e = (refl, refl)
end_all ws None (Some y) e = absurd (cc e)
end_all ws (Some x) None e = absurd (cc e)
end_all ws (Some x) (Some y) e = by (length x == 0) refl
  where
    read : end_at x ≡ Ok ([], y)
    read = cc

    by : (b : Bool) → (length x == 0) ≡ b → (Some (ended ws x) ≡ Some (Ok ws)) × (Some y ≡ Some [])
    by true t = let same = rw t at read in (rw t refl, ap Some (sym (same_rest [] [] [] y same)))
    by false t = let other = rw t at read in absurd (cc)

pub end_stopped : (ws : List BoxWrite) (p : Option (List ℕ)) (e : PlanFault) → Refused end_at p e → Refused (ended ws) p e
end_stopped ws None e h t = tt
end_stopped ws (Some x) e h t = by (length x == 0) refl
  where
    read : end_at x ≡ Err e
    read = h t

    by : (b : Bool) → (length x == 0) ≡ b → ended ws x ≡ Err e
    by true u = let other = rw u at read in absurd (cc)
    by false u = let same = rw u at read in rw u cc

no_width : IsWidth 0 → ⊥
no_width (inl h) = cc h
no_width (inr (inl h)) = cc h
no_width (inr (inr (inl h))) = cc h
no_width (inr (inr (inr h))) = cc h

pub some_width : (w : ℕ) → ∥ IsWidth w ∥₁ → 0 < w
some_width zero h = absurd (not_there h no_width)
some_width (suc n) h = omega arith

write_of_scale : (s : Scale) (w : BoxWrite) → IsWriteOf s w → AreBytes w.1 → IsWrite w
write_of_scale s w h bytes = record {
  some = h.inside.some;
  bytes = bytes;
  fits = (s.channels, s.width, omega (arith, s.some_channels), some_width s.width s.width_ok, h.bytes);
}

pub are_writes : (s : Scale) (ws : List Write) (count : ℕ) → length ws ≡ count → count ≤ 65536 → total (writes_in ws) ≤ 2 ^ 30 → All (IsWriteOf s) (writes_in ws) → All (λ (w : BoxWrite). AreBytes w.1) (writes_in ws) → AreWrites (writes_in ws)
are_writes s ws count e c t h bytes = record {
  count = let l : length (writes_in ws) ≡ length ws = length-map ws _ in omega arith;
  small = t;
  each = λ k w is. write_of_scale s _ (h k w is) (bytes k w is);
}

-- the bytes of writes are bytes
pub writes_bytes : (ws : List BoxWrite) → AreWrites ws → All (λ (w : BoxWrite). AreBytes w.1) ws
writes_bytes ws h = All-weaker IsWrite (λ w. AreBytes w.1) (λ w is. is.bytes) ws h.each
