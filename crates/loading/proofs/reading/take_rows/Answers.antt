use Rattle.std.proofs.Common.{◌≡◌, ◌≢◌, ◌<◌, List, ℕ, ◌∷◌, [], ◌++◌, length, Ok, Err, refl, sym, ap, subst, tests, arith}
use Rattle.loading.specs.declared.draft.Draft.{Draft}
use Rattle.loading.specs.Cutting.{cut, Cuts}
use Rattle.loading.specs.Drafts.{TakesRow}
use Rattle.loading.proofs.Cuttings.{cut_shorter, cuts_more, takes_more}
use Rattle.loading.proofs.reading.take_rows.Goals as goal

-- what is not empty has bytes
some_bytes : (rest : List ℕ) → 0 < length rest → rest ≢ []
some_bytes rest some e = omega (arith, some, ap length e)

pub returns-in-Err : goal.returns-in-Err
returns-in-Err c =
    let before = c.loop-rest.invariant in
    let rest : List ℕ = c.loop-rest.rest.now in
    let e = c.loop-rest.draft in
    let front : c.cut.result.0.now ≡ (cut rest).0 = ap (λ (x : List ℕ × List ℕ). x.0) c.cut.ensures in
    let some : 0 < length rest = grind (arith, tests) in
    let row : TakesRow e c.loop-rest.memory c.cut.result.0.now c.row.new.self c.row.new.memory (Err c.in-Err.why) = c.in-Err.ensures in (
      before.0,
      e,
      c.loop-rest.memory,
      rest,
      before.1,
      some_bytes rest some,
      before.2,
      omega (arith, c.from-line.ensures, ap (λ (x : Draft). x.rows) row.1),
      subst (λ l. TakesRow e c.loop-rest.memory l e c.row.new.memory (Err c.in-Err.why)) front (row.0, refl, row.2),
    )

pub loop-rest-smaller : goal.loop-rest-smaller
loop-rest-smaller c =
    let rest : List ℕ = c.loop-rest.rest.now in
    let back : c.cut.result.1.now ≡ (cut rest).1 = ap (λ (x : List ℕ × List ℕ). x.1) c.cut.ensures in
    subst (λ r. length r < length rest) (sym back) (cut_shorter rest (grind (arith, tests)))

pub loop-rest-preserved : goal.loop-rest-preserved
loop-rest-preserved c =
    let before = c.loop-rest.invariant in
    let rest : List ℕ = c.loop-rest.rest.now in
    let e = c.loop-rest.draft in
    let front : c.cut.result.0.now ≡ (cut rest).0 = ap (λ (x : List ℕ × List ℕ). x.0) c.cut.ensures in
    let back : c.cut.result.1.now ≡ (cut rest).1 = ap (λ (x : List ℕ × List ℕ). x.1) c.cut.ensures in
    let row : TakesRow e c.loop-rest.memory c.cut.result.0.now c.row.new.self c.row.new.memory (Ok tt) = c.in_default.ensures in (
      before.0 ++ ((cut rest).0 ∷ []),
      subst (λ r. Cuts c.args.text.now (before.0 ++ ((cut rest).0 ∷ [])) r) (sym back) (cuts_more c.args.text.now before.0 rest before.1 (some_bytes rest (grind (arith, tests)))),
      takes_more c.args.draft c.args.memory.now before.0 e c.loop-rest.memory (cut rest).0 c.row.new.self c.row.new.memory before.2
          (subst (λ l. TakesRow e c.loop-rest.memory l c.row.new.self c.row.new.memory (Ok tt)) front row),
    )
