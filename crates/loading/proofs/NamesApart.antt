-- Lines of names over different numbers of places differ: more columns make a longer line.
use Rattle.std.proofs.Common.{◌≡◌, ℕ, zero, suc, ◌+◌, ◌^◌, ◌<◌, List, [], ◌∷◌, ◌++◌, length, codes, decimal, sym, ap, ◌∙◌, subst, ⊎_elim, length-append, arith}
use Rattle.std.proofs.Math.Pow.{pow-lt}
use Rattle.std.proofs.lemmas.Bool.{cases_order}
use Rattle.std.proofs.lemmas.Grind.{flat_map-append}
use Rattle.saving.specs.Laying.{names_of}
use Rattle.saving.specs.TableText.{numbers, names_line}
use Rattle.saving.proofs.Lines.{names_line_is}
use Rattle.loading.specs.Drafts.{IsNames}

-- a name with the space before it
name : ℕ → List ℕ
name c = codes " n" ++ decimal c

one_more : (k : ℕ) → length (names_of k) < length (names_of (suc k))
unfolding name
one_more k =
    omega (arith, ap length (flat_map-append name (numbers k) (k ∷ [])), length-append (names_of k) (name k ++ []), length-append (name k) [], length-append (codes " n") (decimal k))

longer : (j k : ℕ) → j < k → length (names_of j) < length (names_of k)
longer j zero h = absurd (omega arith)
longer j (suc k) h =
    ⊎_elim (λ e. subst (λ i. length (names_of i) < length (names_of (suc k))) (sym e) (one_more k))
    (λ rest. ⊎_elim (λ l. omega (arith, longer j k l, one_more k)) (λ l. absurd (omega arith)) rest) (cases_order j k)

names_length : (n : ℕ) → length (names_line n) ≡ length (codes "state accepts") + length (names_of (2 ^ n)) + 1
names_length n =
    ap length (names_line_is n) ∙ length-append (codes "state accepts" ++ names_of (2 ^ n)) (10 ∷ [])
    ∙ ap (λ k. k + 1) (length-append (codes "state accepts") (names_of (2 ^ n)))

pub same_names : (j k : ℕ) → names_line j ≡ names_line k → j ≡ k
same_names j k e = ⊎_elim (λ same. same) (λ other. ⊎_elim (λ l. absurd (apart j k l e)) (λ l. absurd (apart k j l (sym e))) other) (cases_order j k)
  where
    apart : (i m : ℕ) → i < m → names_line i ≡ names_line m → ⊥
    apart i m l f = omega (arith, longer (2 ^ i) (2 ^ m) (pow-lt l), names_length i, names_length m, ap length f)

pub one_names : (line : List ℕ) (j k : ℕ) → IsNames line j → IsNames line k → j ≡ k
one_names line j k a b = same_names j k (sym a.2 ∙ b.2)
