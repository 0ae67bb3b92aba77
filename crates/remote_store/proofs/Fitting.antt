-- Which of the bytes that came fit.
use Rattle.std.proofs.Common.{◌≡◌, ◌∙◌, ℕ, ◌<◌, ◌≤◌, List, [], length, length-append, length-drop, drop, Option, Some, None, IfSome, inl, inr, ap, sym, refl, subst, arith}
use Rattle.std.proofs.Math.ListN.{drop_of_length-le}
use Rattle.httparse.specs.Grammar.{HasNoResponse, ReadsResponse, ResponseHead, print_response}
use Rattle.httparse.specs.Spans.{IsResponseOf}
use Rattle.httparse.specs.declared.spans.HeaderSpan.{HeaderSpan}
use Rattle.httparse.specs.declared.spans.ResponseSpans.{ResponseSpans}
use Rattle.httparse.proofs.GrammarLemmas.{response_prefix_free}
use Rattle.vol_base.specs.Causes.{Rose}
use Rattle.remote_store.specs.Fits.{Fits, judged}
use Rattle.remote_store.specs.Talks.{Unfit}
use Rattle.remote_store.specs.Waits.{IsFound, NeverBegins}
use Rattle.remote_store.specs.declared.wait.Front.{Front}
use Rattle.remote_store.specs.declared.wait.Front.TheVariants as front
use Rattle.remote_store.specs.declared.wanted.Promise.{Promise}
use Rattle.remote_store.specs.declared.wanted.Wanted.{Wanted}
use Rattle.remote_store.specs.declared.wanted.Wanted.TheVariants.{Length}

pub unfit_cut : (wanted : Wanted) (g : List ℕ) (before now : ℕ) (left : Option (List ℕ)) → HasNoResponse g → Rose before now → IfSome left (λ stream. stream ≡ g) → Unfit wanted g before now left
unfit_cut wanted g before now left none rose all = inr (λ promise body f. none f.0 body f.1.reads, rose, all)

pub unfit_never : (wanted : Wanted) (g : List ℕ) (before now : ℕ) (left : Option (List ℕ)) → NeverBegins g → Unfit wanted g before now left
unfit_never wanted g before now left never = inl (λ more promise body f. absurd (omega (arith, never more f.0 body f.1.reads, f.1.short)))

module _ (g : List ℕ) (spans : List HeaderSpan) (parts : ResponseSpans) (before now : ℕ) (left : Option (List ℕ)) (of : IsResponseOf g spans parts) where
  -- bytes behind the head of a reply that has no body
  pub unfit_more : parts.len < length g → Unfit Length g before now left
  unfit_more more_there = inl (λ more promise body f.
      let same = response_prefix_free g more of.0 f.0 (drop parts.len g) body of.1.reads f.1.reads in
      absurd (omega (arith, more_there, f.1.whole, ap length same.1, length-append (drop parts.len g) more, length-drop parts.len g)))

  pub unfit_judged : (o : Option Promise) → o ≡ None → ((head : ResponseHead) (rest : List ℕ) → ReadsResponse g head rest → o ≡ judged Length head) → Unfit Length g before now left
  unfit_judged o none is = inl (λ more promise body f.
      let same = response_prefix_free g more of.0 f.0 (drop parts.len g) body of.1.reads f.1.reads in
      let no : judged Length f.0 ≡ None = ap (judged Length) (sym same.0) ∙ sym (is of.0 (drop parts.len g) of.1.reads) ∙ none in
      absurd (differ (sym no ∙ f.1.judged)))
    where
      differ : {p : Promise} → None ≡ Some p → ⊥
      differ e = absurd (cc e)

  pub fit_judged : (o : Option Promise) → length g ≤ parts.len → length g ≤ 8192 → ((head : ResponseHead) (rest : List ℕ) → ReadsResponse g head rest → o ≡ judged Length head)
      → IfSome o (λ promise. Fits Length g promise [])
  fit_judged None ends few is = tt
  fit_judged (Some promise) ends few is =
      let nothing : drop parts.len g ≡ [] = drop_of_length-le g ends in
      let reads : ReadsResponse g of.0 [] = subst (ReadsResponse g of.0) nothing of.1.reads in (
        of.0,
        record {
          reads = reads;
          short = omega (arith, few, ap length reads.1, length-append (print_response of.0) []);
          judged = sym (is of.0 [] reads);
          whole = refl;
        },
      )

pub head_found : (g : List ℕ) (spans : List HeaderSpan) (before now : ℕ) (left : Option (List ℕ)) (f : Front) (parts : ResponseSpans) → f ≡ front.Head parts → IsFound g spans before now left f → IsResponseOf g spans parts
head_found g spans before now left f parts e is = (subst (IsFound g spans before now left) e is).1
