-- A tray that holds a pile above its tables, after a table was built above some of the pile's.
use Rattle.std.proofs.Common.{◌≡◌, ℕ, ◌+◌, ◌*◌, ◌<◌, ◌≤◌, List, [], ◌∷◌, length, All, sym, ap, ◌∙◌, subst, arith}
use Rattle.std.proofs.Math.Nat.{mul-le-mul_right}
use Rattle.std.proofs.lemmas.List.Elements.{All-nil, All-cons}
use Rattle.words.specs.Formulas.{Formula, Names, Tells}
use Rattle.tray.specs.Building.{Built}
use Rattle.tray.specs.View.{slot, says}
use Rattle.tray.specs.declared.control.Control.{Control}
use Rattle.calls.specs.Promise.{TellEach}
use Rattle.calls.proofs.Standing.{tell_each_same}
use Rattle.reading.specs.Formulas.{Decided}
use Rattle.reading.specs.Stepping.{Sure, StandsAbove}
use Rattle.reading.proofs.Deciding.{tells_decided}
use Rattle.reading.proofs.Keeping.{settings_itself, settings_chain, same_slot, tables_itself, tables_chain, below_itself}

-- nothing above the tables
pub stands_empty : (holds : ℕ → List ℕ → Type 0) (c : Control) (tables : List ℕ) → StandsAbove holds c.count c tables c tables []
stands_empty holds c tables = record {
  settings = settings_itself c;
  count = omega arith;
  others = tables_itself c.count c tables;
  memory = below_itself c.count c tables;
  tells = tt;
  sure = All-nil (Sure holds);
}

module _ (holds : ℕ → List ℕ → Type 0) (below : ℕ) (c : Control) (tables : List ℕ) (c1 : Control) (tables1 : List ℕ) (pile : List Formula)
    (stands : StandsAbove holds below c tables c1 tables1 pile)
  where
    -- what the tables of the pile tell, over as many sets as there are now
    pub told_now : TellEach c1.sets holds (λ k. says c1 tables1 (below + k)) pile
    told_now = subst (λ n. TellEach n holds (λ k. says c1 tables1 (below + k)) pile) (sym stands.settings.sets) stands.tells

    -- a slot below the lowest table of the pile lies before the slot of any table of the pile
    lower_slots : (b x : ℕ) → below ≤ b → x < below * slot c → x < b * slot c1
    lower_slots b x low h =
        let same : below * slot c ≡ below * slot c1 = sym (ap (λ k. below * k) (same_slot c c1 stands.settings)) in
        omega (arith, mul-le-mul_right (slot c1) low)

    module _ (c2 : Control) (tables2 : List ℕ) (b : ℕ) (Same : List ℕ → List ℕ → Type 0) (Means : List ℕ → Type 0) (met kept : ℕ)
        (f : Formula) (rest : List Formula) (built : Built b Same Means met kept c1 tables1 c2 tables2) (here : below + length rest ≡ b)
      where
        pub stands_built : TellEach c1.sets holds (λ k. says c1 tables1 (below + k)) rest → All (Sure holds) rest
            → Names c1.sets f → Tells c1.sets holds f (says c2 tables2 b) → (Decided holds f → Sure holds f)
            → StandsAbove holds below c tables c2 tables2 (f ∷ rest)
        stands_built told sure names tells parts =
            let tells_f : Tells c1.sets holds f (says c2 tables2 (below + length rest)) =
            subst (λ k. Tells c1.sets holds f (says c2 tables2 k)) (sym here) tells in
            let told_rest : TellEach c1.sets holds (λ k. says c2 tables2 (below + k)) rest =
            tell_each_same c1.sets holds (λ k. says c1 tables1 (below + k)) (λ k. says c2 tables2 (below + k)) rest
            (λ k h. (built.others (below + k) (omega (arith, here))).1) told in
            record {
              settings = settings_chain c c1 c2 stands.settings built.settings;
              count = omega (arith, built.count, here);
              others = tables_chain below c tables c1 tables1 c2 tables2 stands.others (λ k h. built.others k (omega (arith, here)));
              memory = λ x h. built.elsewhere.0 x (lower_slots b x (omega (arith, here)) h) ∙ stands.memory x h;
              tells = subst (λ n. TellEach n holds (λ k. says c2 tables2 (below + k)) (f ∷ rest)) stands.settings.sets (names, tells_f, told_rest);
              sure = All-cons (Sure holds) f rest (parts (tells_decided c1.sets holds f (says c2 tables2 b) names tells)) sure;
            }
