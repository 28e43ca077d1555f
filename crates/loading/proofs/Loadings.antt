-- From the parts of loading to the whole.
use Rattle.std.proofs.Common.{◌≡◌, ℕ, List, [], length, Ok, Err, Result, inl, inr, refl, sym, ap, subst, arith}
use Rattle.std.specs.Result.{IsErrAnd}
use Rattle.loading.specs.declared.draft.Draft.{Draft}
use Rattle.loading.specs.declared.loaded.Loaded.{Loaded}
use Rattle.loading.specs.declared.reading.Fault.{Fault}
use Rattle.loading.specs.declared.seal.Unsealed.{Unsealed}
use Rattle.loading.specs.declared.unloaded.Unloaded.{Unloaded}
use Rattle.loading.specs.Cutting.{cut, Cuts}
use Rattle.loading.specs.Drafts.{Begins}
use Rattle.loading.specs.Rowwise.{TakesRows}
use Rattle.loading.specs.Sealing.{Seals}
use Rattle.loading.specs.Whole.{Loads, Reads}
use Rattle.loading.proofs.Cuttings.{takes_rows}

-- the first line begins no draft
pub loads_none : (text memory name : List ℕ) (b : Loaded) (first rest : List ℕ) → ◌≡◌ {A = List ℕ × List ℕ} (first, rest) (cut text)
    → (why : Unloaded) → Begins first (length memory) (Err why) → Loads text memory name b memory b (Err (record { line = 1; why = why }))
loads_none text memory name b first rest whole why refused =
    (refl, inl (refl, subst (λ x. Begins x (length memory) (Err why)) (ap (λ (x : List ℕ × List ℕ). x.0) whole) refused, refl))

module _ (text memory name : List ℕ) (b : Loaded) (first rest : List ℕ) (whole : ◌≡◌ {A = List ℕ × List ℕ} (first, rest) (cut text)) (d : Draft)
    (begins : Begins first (length memory) (Ok d))
  where
    begun : Begins ((cut text).0) (length memory) (Ok d)
    begun = subst (λ x. Begins x (length memory) (Ok d)) (ap (λ (x : List ℕ × List ℕ). x.0) whole) begins

    pub reads : (e : Draft) (m : List ℕ) (rows : TakesRows d memory rest m (Ok e)) → Reads text memory d rows.0 e m []
    reads e m rows = (begun, subst (λ x. Cuts x rows.0 []) (ap (λ (x : List ℕ × List ℕ). x.1) whole) rows.1, rows.2)

    pub loads_ok : (e : Draft) (m : List ℕ) (b' : Loaded) → TakesRows d memory rest m (Ok e) → Seals e m name b b' (Ok tt) → Loads text memory name b m b' (Ok tt)
    loads_ok e m b' rows sealed = (d, rows.0, e, reads e m rows, sealed)

    loads_row : (m : List ℕ) (f : Fault) → TakesRows d memory rest m (Err f) → Loads text memory name b m b (Err f)
    loads_row m f rows = (
      refl,
      inr (inl (
        d,
        rows.0,
        rows.1,
        rows.2,
        rows.3,
        (begun, subst (λ x. Cuts x rows.0 rows.3) (ap (λ (x : List ℕ × List ℕ). x.1) whole) rows.4, rows.6),
        rows.5,
        omega (arith, rows.7, takes_rows d memory rows.0 rows.1 rows.2 rows.6, begins.2),
        rows.8,
      )),
    )

    pub loads_seal : (e : Draft) (m : List ℕ) (b' : Loaded) (x : Unsealed) → TakesRows d memory rest m (Ok e) → Seals e m name b b' (Err x)
        → Loads text memory name b m b' (Err (record { line = 0; why = x.why }))
    loads_seal e m b' x rows refused = (
      refused.2,
      inr (inr (d, rows.0, e, x, reads e m rows, refl, refl, (refused.0, refused.1, refl))),
    )

    -- the same where the fault went through `?`
    pub loads_row_on : (m : List ℕ) (f : Fault) (r : Result (Unit {0}) Fault) → IsErrAnd r (λ x. x ≡ f) → TakesRows d memory rest m (Err f)
        → Loads text memory name b m b r
    loads_row_on m f (Ok done) is rows = absurd is
    loads_row_on m f (Err x) is rows = subst (λ y. Loads text memory name b m b (Err y)) (sym is) (loads_row m f rows)
