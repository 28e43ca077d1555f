use Rattle.std.proofs.Common.{ℕ, ◌<◌, inl, inr, refl, sym, ◌∙◌, arith}
use Rattle.words.specs.Rows.{mark_of}
use Rattle.loading.specs.Drafts.{LeadsOut, Unsettles}
use Rattle.loading.proofs.Found.{some_found, none_found}
use Rattle.loading.proofs.draft.Draft.may_seal.Goals as goal

pub returns-then-is_some-3 : goal.returns-then-is_some-3
returns-then-is_some-3 c =
    let n : ℕ = c.args.self.now.rows in
    let k : ℕ = c.args.self.now.places in
    let memory = c.args.memory.now in
    let marks = none_found n (λ r. 1 < mark_of k memory r) c.first_wrong_mark.result (sym c.is_some.ensures ∙ c.if-is_some.false) c.first_wrong_mark.ensures in
    let inside = none_found n (LeadsOut k n memory) c.row_out.result (sym c.is_some-2.ensures ∙ c.if-is_some-2.false) c.row_out.ensures in
    let here = some_found n (Unsettles k memory) c.first_unsettled.result (sym c.is_some-3.ensures ∙ c.if-is_some-3.true) c.first_unsettled.ensures in
    inr (
      (λ short. omega (arith, c.room_for.ensures.is)),
      inr (
        (λ other. other (c.is_name.ensures.0 c.if-not-is_name.false)),
        inr (
          (λ none. omega arith),
          inr (
            marks,
            inr (
              inside,
              inl (refl, here),
            ),
          ),
        ),
      ),
    )

pub returns : goal.returns
returns c =
    let n : ℕ = c.args.self.now.rows in
    let k : ℕ = c.args.self.now.places in
    let memory = c.args.memory.now in (
      (λ short. omega (arith, c.room_for.ensures.is)),
      (
        (λ other. other (c.is_name.ensures.0 c.if-not-is_name.false)),
        (
          (λ none. omega arith),
          (
            none_found n (λ r. 1 < mark_of k memory r) c.first_wrong_mark.result (sym c.is_some.ensures ∙ c.if-is_some.false) c.first_wrong_mark.ensures,
            (
              none_found n (LeadsOut k n memory) c.row_out.result (sym c.is_some-2.ensures ∙ c.if-is_some-2.false) c.row_out.ensures,
              (
                none_found n (Unsettles k memory) c.first_unsettled.result (sym c.is_some-3.ensures ∙ c.if-is_some-3.false) c.first_unsettled.ensures,
                tt,
              ),
            ),
          ),
        ),
      ),
    )
