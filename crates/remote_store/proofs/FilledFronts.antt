-- The front of a reply in a buffer that is filled further, up to a place.
use Rattle.std.proofs.Common.{◌≡◌, ◌∙◌, ℕ, ◌+◌, ◌-◌, ◌<◌, ◌≤◌, ◌++◌, min, List, [], length, length-append, length-drop, length-take, take, drop, Option, None, Some, option_map, Result, Ok, refl, ap, sym, subst, arith}
use Rattle.vol_base.specs.Gains.{Gains}
use Rattle.request_heads.specs.Heads.{pending}
use Rattle.remote_store.specs.Bodies.{Came, IsBegun, IsHeard, Passed}
use Rattle.remote_store.specs.Dials.{Line, given_more}
use Rattle.remote_store.specs.Fits.{following}
use Rattle.remote_store.specs.Talks.{Unfit}
use Rattle.remote_store.specs.declared.wanted.Begun.{Begun}
use Rattle.remote_store.specs.declared.wanted.Wanted.{Wanted}
use Rattle.remote_store.proofs.Bodies.{came_as, came_twice, ended_behind, gained_length, gains_twice, joined, passed_as}
use Rattle.remote_store.proofs.HeardParts.{heard_cut, heard_more}

-- what was received until a head stood at the front
pub came_waited : (buffer : List ℕ) (there : ℕ) (left0 left1 : Option (List ℕ)) (line0 line1 : Option Line) → pending buffer there left1 ≡ pending [] 0 left0 → line1 ≡ option_map (given_more (take there buffer)) line0
    → Came (take there buffer) left0 left1 line0 line1
came_waited buffer there left0 left1 line0 line1 waited line = record { left = waited ∙ alone left0; line = line }
  where
    alone : (o : Option (List ℕ)) → pending [] 0 o ≡ o
    alone None = refl
    alone (Some x) = refl

-- a head stands among the first bytes of a buffer, and behind them it was filled up to a place, or as far as bytes came
pub record Filled (wanted : Wanted) (b : Begun) (old buf : List ℕ) (t0 t1 stop : ℕ) : Type 0 where
  pub heard : IsHeard wanted (take t0 old) b
  pub stop_is : stop ≡ min 8192 (b.head + following wanted b.promise.len)
  pub more : t0 ≤ t1
  pub within : t1 ≤ stop
  pub first_long : length (take t0 old) ≡ t0
  pub more_long : length (drop t0 (take t1 buf)) ≡ t1 - t0
  pub room : length (take stop old) ≡ stop
  pub whole : take t1 (buf ++ drop stop old) ≡ take t0 old ++ drop t0 (take t1 buf)

pub filled : {wanted : Wanted} {b : Begun} (before old buf : List ℕ) (t0 t1 n stop : ℕ) → length before ≡ 8192 → length old ≡ length before → t0 ≤ 8192 → IsHeard wanted (take t0 old) b → n ≡ following wanted b.promise.len → stop ≡ min 8192 (b.head + n)
    → length buf ≡ length (take stop old) → t0 ≤ t1 → t1 ≤ length (take stop old) → take t0 buf ≡ take t0 (take stop old) → Filled wanted b old buf t0 t1 stop
filled {b = b} before old buf t0 t1 n stop size same fits heard follows stop_is long more within kept =
    let stops = stop_is ∙ ap (λ k. min 8192 (b.head + k)) follows in
    let room : length (take stop old) ≡ stop = omega (arith, length-take stop old, size, same, stop_is) in
    let inside : t1 ≤ length buf = omega (arith, within, long) in
    record {
      heard = heard;
      stop_is = stops;
      more = more;
      within = omega (arith, within, room);
      first_long = omega (arith, length-take t0 old, size, same, fits);
      more_long = gained_length buf t0 t1 inside;
      room = room;
      whole = joined stop t0 t1 old buf more inside (omega (arith, more, within, room)) kept;
    }

module _ {wanted : Wanted} {b : Begun} {old buf : List ℕ} {t0 t1 stop : ℕ} (f : Filled wanted b old buf t0 t1 stop) where
  pub filled_gains : (r0 r1 r2 : Option (List ℕ)) → Gains r0 r1 (take t0 old) → Gains r1 r2 (drop t0 (take t1 buf)) → Gains r0 r2 (take t1 (buf ++ drop stop old))
  filled_gains r0 r1 r2 x y = subst (λ z. Gains r0 r2 z) (sym f.whole) (gains_twice (take t0 old) (drop t0 (take t1 buf)) r0 r1 r2 x y)

  pub filled_came : {left0 left1 left2 : Option (List ℕ)} {line0 line1 line2 : Option Line} → Came (take t0 old) left0 left1 line0 line1 → Came (drop t0 (take t1 buf)) left1 left2 line1 line2 → Came (take t1 (buf ++ drop stop old)) left0 left2 line0 line2
  filled_came {left0 = left0} {left1 = left1} {left2 = left2} {line0 = line0} {line1 = line1} {line2 = line2} x y =
      came_as f.whole (came_twice (take t0 old) (drop t0 (take t1 buf)) left0 left1 left2 line0 line1 line2 x y)

  heard_all : IsHeard wanted (take t0 old ++ drop t0 (take t1 buf)) b
  heard_all =
      let behind : length (drop b.head (take t0 old)) ≡ t0 - b.head = omega (arith, length-drop b.head (take t0 old), f.first_long) in
      heard_more (drop t0 (take t1 buf)) f.heard (omega (arith, f.more_long, behind, f.within, f.stop_is, f.heard.within, f.first_long, f.more))

  behind_all : length (drop b.head (take t0 old ++ drop t0 (take t1 buf))) ≡ t1 - b.head
  behind_all = omega (arith, length-drop b.head (take t0 old ++ drop t0 (take t1 buf)), length-append (take t0 old) (drop t0 (take t1 buf)), f.more_long, f.first_long, f.more)

  -- the end came before it was full
  pub filled_cut : {T E : Type 0} {left0 left1 left2 r1 r2 : Option (List ℕ)} {line0 line1 line2 : Option Line} {ends0 ends1 ends2 : ℕ} {r : Result T E} {t : T} → t1 < stop → Came (take t0 old) left0 left1 line0 line1 → ends0 ≤ ends1 → r ≡ Ok t
      → Passed (length (take stop old) - t0) (drop t0 (take t1 buf)) r1 r2 left1 left2 line1 line2 ends1 ends2 r → Unfit wanted (take t1 (buf ++ drop stop old)) ends0 ends2 left0
  filled_cut {left0 = left0} {left1 = left1} {left2 = left2} {line0 = line0} {line1 = line1} {ends0 = ends0} {ends1 = ends1} {ends2 = ends2} short came later is passed =
      let rest = passed_as is passed in
      let less : length (drop t0 (take t1 buf)) < length (take stop old) - t0 = omega (arith, f.more_long, f.room, short, f.more) in
      let ended = ended_behind (take t0 old) (drop t0 (take t1 buf)) left0 left1 left2 line0 line1 ends0 ends1 ends2 came later (rest.ended less) in
      subst (λ z. Unfit wanted z ends0 ends2 left0) (sym f.whole) (heard_cut heard_all (omega (arith, behind_all, short, f.stop_is, f.heard.within, f.first_long, f.more)) ended)

  -- it is full
  pub filled_begun : stop ≤ t1 → IsBegun wanted (take t1 (buf ++ drop stop old)) b
  filled_begun full = subst (λ z. IsBegun wanted z b) (sym f.whole) (record {
    heard = heard_all;
    full = λ short. omega (arith, short, behind_all, length-append (take t0 old) (drop t0 (take t1 buf)), f.more_long, f.first_long, full, f.within, f.stop_is, f.heard.within, f.more);
  })
