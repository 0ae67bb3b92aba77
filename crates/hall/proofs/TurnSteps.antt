-- What serving one end leaves, by how it was served.
use Rattle.std.proofs.Common.{◌≡◌, ℕ, Bool, true, false, List, [], ◌∷◌, ◌++◌, inl, inr, refl, sym, ap, ◌∙◌, subst, arith}
use Rattle.std.specs.Prelude.{Option, Some, None, IfErr, IfOk, Result, Ok, Err, option_map}
use Rattle.std.proofs.lemmas.Option.{same_Some}
use Rattle.vol_base.specs.Causes.{Rose}
use Rattle.vol_base.specs.Outside.{Objects}
use Rattle.range_server.specs.Bodies.{HasServeCause, WhereTold, failures}
use Rattle.range_server.specs.Replies.{Gained, ServedIn, Stopped}
use Rattle.range_server.specs.declared.fault.ServeFault.{ServeFault}
use Rattle.range_server.specs.declared.fault.ServeFault.TheVariants.{LinkFault, OutOfMemory, StoreFault}
use Rattle.range_server.specs.declared.reply.Ending.{Ending}
use Rattle.range_server.specs.declared.reply.Ending.TheVariants as ending
use Rattle.hall.specs.Halls.{TellAll, Turned, outcome_of}

-- a link that had sent nothing gained what it has now
gained_all : (Answer : List ℕ → Type 0) (stream old new : Option (List ℕ)) (s o : List ℕ) → old ≡ option_map (λ _. []) stream → stream ≡ Some s → new ≡ Some o → Gained Answer old new → Answer o
gained_all Answer stream old new s o none es eo gained =
    let was : old ≡ Some [] = none ∙ ap (option_map (λ (_ : List ℕ). [])) es in
    let now : Some o ≡ Some gained.0 = sym eo ∙ gained.2 ∙ ap (option_map (λ (w : List ℕ). w ++ gained.0)) was in
    subst Answer (sym (same_Some o gained.0 now)) gained.1

module _ (objects : Option Objects) (dataset : List ℕ) (stream left sent stream_now sent_now : Option (List ℕ)) (faults before now : ℕ) where
  abbrev WhenOk : Ending → Type 0
  WhenOk how = WhereTold objects (λ m. WhereTold left (λ s. Gained (ServedIn m dataset how s) sent sent_now))

  abbrev WhenErr : Bool → ServeFault → Type 0
  WhenErr failing fault = WhereTold objects (λ m. WhereTold left (λ s. Gained (Stopped m dataset 0 (failures failing) fault s) sent sent_now))

  module _ (whole : left ≡ stream) (none : sent ≡ option_map (λ _. []) stream) (same : stream_now ≡ stream) where
    ended : (how : Ending) (m : Objects) (s o : List ℕ) → WhenOk how → objects ≡ Some m → stream_now ≡ Some s → sent_now ≡ Some o → ServedIn m dataset how s o
    ended how m s o h told es eo =
        let is : stream ≡ Some s = sym same ∙ es in
        gained_all (ServedIn m dataset how s) stream sent sent_now s o none is eo (h m told s (whole ∙ is))

    stopped : (failing : Bool) (fault : ServeFault) (m : Objects) (s o : List ℕ) → WhenErr failing fault → objects ≡ Some m → stream_now ≡ Some s → sent_now ≡ Some o → Stopped m dataset 0 (failures failing) fault s o
    stopped failing fault m s o h told es eo =
        let is : stream ≡ Some s = sym same ∙ es in
        gained_all (Stopped m dataset 0 (failures failing) fault s) stream sent sent_now s o none is eo (h m told s (whole ∙ is))

    tells : (m : Objects) → TellAll (objects ∷ []) m → objects ≡ Some m
    tells m all = all 0 None (omega arith)

    turned : (result : Result Ending ServeFault) (failing : Bool) → IfOk result (λ how. WhenOk how) → (result ≡ Ok ending.Failed → Rose before now) → IfErr result (λ fault. WhenErr failing fault) → (failing ≡ true → Rose before now)
        → HasServeCause 0 faults before now result → Turned (objects ∷ []) dataset (outcome_of result failing) stream_now sent_now faults before now
    turned (Ok ending.Whole) failing ok failed err rose cause = record {
      fits = λ m all s o es eo. inl (ended ending.Whole m s o ok (tells m all) es eo);
      later = cause.store_later;
      rose = λ e. absurd (omega (arith, e));
    }
    turned (Ok ending.Failed) failing ok failed err rose cause = record {
      fits = λ m all s o es eo. inl (ended ending.Failed m s o ok (tells m all) es eo);
      later = cause.store_later;
      rose = λ e. failed refl;
    }
    turned (Err LinkFault) false ok failed err rose cause = record {
      fits = λ m all s o es eo. inr (omega (arith, cause.link_rose refl), stopped false LinkFault m s o err (tells m all) es eo);
      later = cause.store_later;
      rose = λ e. absurd (omega (arith, e));
    }
    turned (Err LinkFault) true ok failed err rose cause = record {
      fits = λ m all s o es eo. inr (inl (omega (arith, cause.link_rose refl), stopped true LinkFault m s o err (tells m all) es eo));
      later = cause.store_later;
      rose = λ e. rose refl;
    }
    turned (Err StoreFault) failing ok failed err rose cause = record {
      fits = λ m all s o es eo. inr (inr (stopped failing StoreFault m s o err (tells m all) es eo));
      later = cause.store_later;
      rose = λ e. cause.store_rose refl;
    }
    turned (Err OutOfMemory) failing ok failed err rose cause = record {
      fits = λ m all s o es eo. stopped failing OutOfMemory m s o err (tells m all) es eo;
      later = cause.store_later;
      rose = λ e. absurd (omega (arith, e));
    }

pub turn : (objects : Option Objects) (dataset : List ℕ) (stream left sent stream_now sent_now : Option (List ℕ)) (old faults before now : ℕ) → left ≡ stream → sent ≡ option_map (λ _. []) stream → old ≡ 0 → stream_now ≡ stream
    → (result : Result Ending ServeFault) (failing : Bool) → IfOk result (λ how. WhereTold objects (λ m. WhereTold left (λ s. Gained (ServedIn m dataset how s) sent sent_now))) → (result ≡ Ok ending.Failed → Rose before now)
    → IfErr result (λ fault. WhereTold objects (λ m. WhereTold left (λ s. Gained (Stopped m dataset 0 (failures failing) fault s) sent sent_now))) → (failing ≡ true → Rose before now) → HasServeCause old faults before now result
    → Turned (objects ∷ []) dataset (outcome_of result failing) stream_now sent_now faults before now
turn objects dataset stream left sent stream_now sent_now old faults before now whole none zero_is same result failing ok failed err rose cause =
    turned objects dataset stream left sent stream_now sent_now faults before now whole none same result failing ok failed err rose (subst (λ n. HasServeCause n faults before now result) zero_is cause)
